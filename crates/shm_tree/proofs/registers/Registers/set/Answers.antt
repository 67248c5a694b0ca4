use Rattle.std.proofs.Common.{false, sym, true≢false, List, ◌+◌}
use Rattle.shm_count.specs.declared.answer.Made.{Made}
use Rattle.shm_tree.specs.{Forests.version, Trees.{inserted, Tree, height}, Bounds.drop_steps}
use Rattle.shm_tree.specs.{declared.registers.Registers.Registers, Costing.{StopsLine, planted_steps, sweep_steps}}
use Rattle.shm_tree.specs.declared.line.TreeLine.TheVariants as lines
use Rattle.shm_tree.proofs.{Building.went_on, Costing.{part_costs, set_costs, set_few}}
use Rattle.shm_tree.proofs.CutShort.{off_from, spare_off, under_off}
use Rattle.shm_tree.proofs.Forests.{registers_named, registers_then, registers_versions, calls_kept, untold}
use Rattle.shm_tree.proofs.Moving.{made_alone, made_forest, made_kept, made_spare, made_tree, made_versions, moves_after, moves_by, moves_from, moves_stop, put_done}
use Rattle.shm_tree.proofs.Refusals.{added_none, all_of, first_of, first_of_three, handed, none_added, none_least, refused_kept, spends_more, spends_of, spends_then}
use Rattle.shm_tree.proofs.{Spares.rooms_tidy, Lasts.{last_more, last_then, late_from, late_then}}
use Rattle.shm_tree.proofs.registers.Registers.set.Goals as goal
use Rattle.shm_words.specs.declared.geometry.Geometry.{Geometry}

pub planted-requires : goal.planted-requires
planted-requires c =
    let s = c.in_ok-sweep.ensures in
    let x = s.moves.forest in
    let v = x.versions in
    record {
      working = x.working;
      latch = x.latch;
      room = rooms_tidy c.sweep.new.self x.long s.tidy;
      root = x.low c.args.from c.requires.from;
      tree = (version v.0 c.args.from, v.1.each c.args.from c.requires.from);
    }

pub put-requires : goal.put-requires
put-requires c =
    let s = c.in_ok-sweep.ensures in
    let g = c.sweep.new.self in
    let q = c.planted.new.pool in
    let m = c.in_ok-made.made in
    let p = c.in_ok-made.ensures in
    let x = s.moves.forest in
    let v = x.versions in
    record {
      forest = made_forest g q m x s.tidy p.calls p.rooted p.some;
      at = c.requires.to;
      root = made_spare g q m x s.tidy p.calls p.rooted p.some;
      tree = (inserted c.args.key c.args.number (version v.0 c.args.from), made_tree g q m x s.tidy p.calls p.rooted p.some _ (p.is (version v.0 c.args.from) (v.1.each c.args.from c.requires.from)));
      alone = made_alone g q m x s.tidy p.calls p.rooted p.some;
    }

pub returns-in_err-sweep-clause-moves : goal.returns-in_err-sweep-clause-moves
returns-in_err-sweep-clause-moves c = moves_from c.from_residual.result c.from_residual.ensures.1 (moves_by _ c.in_err-sweep.ensures.moves)

pub returns-in_err-made-clause-moves : goal.returns-in_err-made-clause-moves
returns-in_err-made-clause-moves c =
    let s = c.in_ok-sweep.ensures in
    let g = c.sweep.new.self in
    let x = s.moves.forest in
    moves_from c.from_residual-in_err-made.result c.from_residual-in_err-made.ensures.1
    (moves_after _ c.requires.forest s.moves.went s.same (moves_stop Made g c.planted.new.pool false _ x (λ e. untold e) (calls_kept _ (registers_named g x) c.in_err-made.ensures.calls)))

pub returns : goal.returns
returns c =
    let s = c.in_ok-sweep.ensures in
    let g = c.sweep.new.self in
    let q = c.planted.new.pool in
    let m = c.in_ok-made.made in
    let p = c.in_ok-made.ensures in
    let x = s.moves.forest in
    let o = c.put.ensures in
    let same = made_versions g q m x s.tidy p.calls p.rooted p.some in
    record {
      off = spare_off (lines.Set c.args.to c.args.from c.args.key c.args.number) c.args.self.now (record { pool = q; roots = g.roots; tidy = false }) c.put.new.self m.root c.args.life.now.left c.planted.new.life.left c.put.result p.rooted.low (made_spare g q m x s.tidy p.calls p.rooted p.some) o.begun o.kept;
      moves = moves_after _ c.requires.forest (went_on c.requires.forest.working.run s.moves.went p.calls.went) (registers_then s.same (made_kept g q m x s.tidy p.calls p.rooted p.some)) (moves_by _ o.moves);
      done =
          put_done c.args.to m.root c.args.self.now (record { pool = q; roots = g.roots; tidy = false }) c.put.new.self (λ ts. inserted c.args.key c.args.number (version ts c.args.from)) _ (λ ts v.
          (let w = registers_versions s.same ts v in
          (same ts w, made_tree g q m x s.tidy p.calls p.rooted p.some _ (p.is (version ts c.args.from) (w.each c.args.from c.requires.from))))) o.put;
      costs =
          set_costs c.args.self.now q c.put.new.self (λ (ts : List Tree). height (version ts c.args.from) + 3) (λ (ts : List Tree). sweep_steps c.args.self.now.pool.start.geometry + planted_steps (height (version ts c.args.from)) c.args.self.now.pool.start.geometry) _ c.requires.forest p.calls.working
          (went_on c.requires.forest.working.run s.moves.went p.calls.went)
          (part_costs c.args.self.now g q c.args.from (λ (t : Tree). height t + 3) (λ (t : Tree) (e : Geometry). planted_steps (height t) e) c.requires.from c.requires.forest x s.moves.went (registers_versions s.same) s.costs p.calls.working p.calls.went p.costs) o.moves.forest o.moves.went o.costs;
      few = set_few c.args.self.now g q c.put.new.self c.args.from (λ (t : Tree). height t + 1) _ c.requires.from c.requires.forest x s.moves.went (registers_versions s.same) s.costs p.calls.working p.calls.went p.few o.moves.forest o.moves.went o.costs;
      told = o.told;
      late =
          λ ts v.
          (let i = height (version ts c.args.from) in
          let geo = c.args.self.now.pool.start.geometry in
          let part = part_costs c.args.self.now g q c.args.from (λ (t : Tree). height t + 3) (λ (t : Tree) (e : Geometry). planted_steps (height t) e) c.requires.from c.requires.forest x s.moves.went (registers_versions s.same) s.costs p.calls.working p.calls.went p.costs ts v in
          late_then c.put.new.self.pool (sweep_steps geo + planted_steps i geo + drop_steps geo 0) (λ (e : Geometry). drop_steps e 0) c.put.result (all_of (sweep_steps geo + planted_steps i geo + drop_steps geo 0)) c.requires.forest.working (went_on c.requires.forest.working.run s.moves.went p.calls.went) part.spent o.late);
      refused =
          refused_kept (StopsLine (lines.Set c.args.to c.args.from c.args.key c.args.number) c.args.self.now c.put.new.self c.args.life.now.left c.put.new.life.left) c.put.result (λ r ts v.
          (let i = height (version ts c.args.from) in
          let geo = c.args.self.now.pool.start.geometry in
          let part = part_costs c.args.self.now g q c.args.from (λ (t : Tree). height t + 3) (λ (t : Tree) (e : Geometry). planted_steps (height t) e) c.requires.from c.requires.forest x s.moves.went (registers_versions s.same) s.costs p.calls.working p.calls.went p.costs ts v in
          spends_more (i + 3) (sweep_steps geo + planted_steps i geo + drop_steps geo 0) (added_none (i + 3)) (all_of (sweep_steps geo + planted_steps i geo + drop_steps geo 0))
          (spends_then (λ (e : Geometry). drop_steps e 0) c.requires.forest.working (went_on c.requires.forest.working.run s.moves.went p.calls.went) o.moves.went (spends_of part) r))) o.refused;
    }

-- no word step was left
pub returns-in_err-sweep-clause-off : goal.returns-in_err-sweep-clause-off
returns-in_err-sweep-clause-off c = off_from (lines.Set c.args.to c.args.from c.args.key c.args.number) c.args.self.now c.sweep.new.self c.args.life.now.left c.from_residual.result c.from_residual.ensures.1 (λ d tidy some calm. absurd (true≢false (sym (c.in_err-sweep.ensures.idle tidy).0)))

pub returns-in_err-made-clause-off : goal.returns-in_err-made-clause-off
returns-in_err-made-clause-off c =
    let f = c.args.self.now in
    let h : Registers = record { pool = c.planted.new.pool; roots = c.sweep.new.self.roots; tidy = false } in
    off_from (lines.Set c.args.to c.args.from c.args.key c.args.number) f h c.args.life.now.left c.from_residual-in_err-made.result c.from_residual-in_err-made.ensures.1 (under_off (lines.Set c.args.to c.args.from c.args.key c.args.number) f h _ (λ tidy. (c.in_ok-sweep.ensures.idle tidy).2) c.in_err-made.ensures.off)

-- where it was refused
pub returns-in_err-sweep-clause-refused : goal.returns-in_err-sweep-clause-refused
returns-in_err-sweep-clause-refused c =
    handed (Unit {0}) (StopsLine (lines.Set c.args.to c.args.from c.args.key c.args.number) c.args.self.now c.sweep.new.self c.args.life.now.left c.sweep.new.life.left) _ c.from_residual.result c.from_residual.ensures.1 (λ r ts v.
    let i = height (version ts c.args.from) in
    let geo = c.args.self.now.pool.start.geometry in
    spends_more (i + 3) (sweep_steps geo + planted_steps i geo + drop_steps geo 0) (none_least (i + 3)) (first_of_three (sweep_steps geo) (planted_steps i geo) (drop_steps geo 0)) r) c.in_err-sweep.ensures.refused

pub returns-in_err-made-clause-refused : goal.returns-in_err-made-clause-refused
returns-in_err-made-clause-refused c =
    let s = c.in_ok-sweep.ensures in
    let p = c.in_err-made.ensures in
    handed Made (StopsLine (lines.Set c.args.to c.args.from c.args.key c.args.number) c.args.self.now (record { pool = c.planted.new.pool; roots = c.sweep.new.self.roots; tidy = false }) c.args.life.now.left c.planted.new.life.left) _ c.from_residual-in_err-made.result c.from_residual-in_err-made.ensures.1 (λ r ts v.
    let t : Tree = version ts c.args.from in
    let i = height t in
    let geo = c.args.self.now.pool.start.geometry in
    let one = r t ((registers_versions s.same ts v).each c.args.from c.requires.from) in
    spends_more (i + 3) (sweep_steps geo + planted_steps i geo + drop_steps geo 0) (none_added (i + 3)) (first_of (sweep_steps geo + planted_steps i geo) (drop_steps geo 0))
    (spends_then (λ (e : Geometry). planted_steps i e) c.requires.forest.working s.moves.went p.calls.went (spends_of s.costs) one)) p.refused

-- how late that was
pub returns-in_err-sweep-clause-late : goal.returns-in_err-sweep-clause-late
returns-in_err-sweep-clause-late c =
    let geo = c.args.self.now.pool.start.geometry in
    λ ts v.
    let i = height (version ts c.args.from) in
    late_from c.from_residual.result c.from_residual.ensures.1 (λ e. last_more (sweep_steps geo + planted_steps i geo + drop_steps geo 0) (first_of_three (sweep_steps geo) (planted_steps i geo) (drop_steps geo 0)) (c.in_err-sweep.ensures.late e))

pub returns-in_err-made-clause-late : goal.returns-in_err-made-clause-late
returns-in_err-made-clause-late c =
    let s = c.in_ok-sweep.ensures in
    let geo = c.args.self.now.pool.start.geometry in
    λ ts v.
    let t : Tree = version ts c.args.from in
    let i = height t in
    late_from c.from_residual-in_err-made.result c.from_residual-in_err-made.ensures.1 (λ e. last_more (sweep_steps geo + planted_steps i geo + drop_steps geo 0) (first_of (sweep_steps geo + planted_steps i geo) (drop_steps geo 0)) (last_then (λ (e : Geometry). planted_steps i e) c.requires.forest.working s.moves.went s.costs.spent (c.in_err-made.ensures.late t ((registers_versions s.same ts v).each c.args.from c.requires.from) e)))
