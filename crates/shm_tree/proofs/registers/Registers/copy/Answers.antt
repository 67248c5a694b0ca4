use Rattle.std.proofs.Common.{◌≡◌, ◌∙◌, true, false, ◌+◌, ◌<◌, arith, sym, subst, ℕ, true≢false}
use Rattle.std.specs.Prelude.{slice_index}
use Rattle.shm_count.specs.declared.answer.Made.{Made}
use Rattle.shm_words.specs.declared.geometry.Geometry.{Geometry}
use Rattle.shm_tree.specs.{Bounds.drop_steps, Costing.{copied_steps, copy_steps, sweep_steps}}
use Rattle.shm_tree.specs.{Forests.{block_in, version}, Standing.IsTree}
use Rattle.shm_tree.specs.declared.line.TreeLine.TheVariants as lines
use Rattle.shm_tree.proofs.{Building.{ok_any, went_on}, Costing.{cleared_costs, copy_costs}}
use Rattle.shm_tree.proofs.CutShort.{first_off, off_from, root_same, share_off, spare_off}
use Rattle.shm_tree.proofs.Forests.{registers_named, registers_then, registers_versions, calls_kept, untold}
use Rattle.shm_tree.proofs.Moving.{made_alone, made_forest, made_kept, made_spare, made_tree, made_versions, moves_after, moves_from, moves_stop, nothing_spare, nothing_tree, put_done, copied_tree}
use Rattle.shm_tree.proofs.Refusals.{all_of, first_of, first_of_three, handed, none_least, outer_two, refused_kept, spends_more, spends_of, spends_then}
use Rattle.shm_tree.proofs.{Spares.rooms_tidy, Lasts.{last_more, last_then, late_from, late_then}, Spendings.spent_then}
use Rattle.shm_tree.proofs.registers.Registers.copy.Goals as goal

pub replace-requires : goal.replace-requires
replace-requires c =
    let x = c.in_ok-sweep.ensures.moves.forest in
    record { forest = x; at = c.requires.to; root = nothing_spare c.sweep.new.self; tree = (_, nothing_tree c.sweep.new.self.pool) }

pub copied-requires : goal.copied-requires
copied-requires c =
    let s = c.in_ok-sweep.ensures in
    let x = s.moves.forest in
    let low = x.low c.args.from c.requires.from in
    let lt : slice_index c.sweep.new.self.roots c.args.from < 16 = omega arith in
    record {
      working = x.working;
      room = rooms_tidy c.sweep.new.self x.long s.tidy;
      root = lt;
      some = x.some c.args.from c.requires.from lt;
    }

pub put-requires : goal.put-requires
put-requires c =
    let s = c.in_ok-sweep.ensures in
    let g = c.sweep.new.self in
    let q = c.copied.new.pool in
    let m = c.in_ok-made.made in
    let p = c.in_ok-made.ensures in
    let x = s.moves.forest in
    let v = x.versions in
    let low = x.low c.args.from c.requires.from in
    record {
      forest = made_forest g q m x s.tidy p.calls p.rooted p.some;
      at = c.requires.to;
      root = made_spare g q m x s.tidy p.calls p.rooted p.some;
      tree = (version v.0 c.args.from, made_tree g q m x s.tidy p.calls p.rooted p.some _ (copied_tree _ m.block (version v.0 c.args.from) (omega arith) p.is (v.1.each c.args.from c.requires.from)));
      alone = made_alone g q m x s.tidy p.calls p.rooted p.some;
    }

pub returns-in_err-sweep-clause-moves : goal.returns-in_err-sweep-clause-moves
returns-in_err-sweep-clause-moves c = moves_from c.from_residual.result c.from_residual.ensures.1 c.in_err-sweep.ensures.moves

pub returns-in_err-made-clause-moves : goal.returns-in_err-made-clause-moves
returns-in_err-made-clause-moves c =
    let s = c.in_ok-sweep.ensures in
    let g = c.sweep.new.self in
    let x = s.moves.forest in
    moves_from c.from_residual-in_err-made.result c.from_residual-in_err-made.ensures.1
    (moves_after _ c.requires.forest s.moves.went s.same (moves_stop Made g c.copied.new.pool false _ x (λ e. untold e) (calls_kept _ (registers_named g x) c.in_err-made.ensures.calls)))

pub returns : goal.returns
returns c =
    let s = c.in_ok-sweep.ensures in
    let g = c.sweep.new.self in
    let q = c.copied.new.pool in
    let m = c.in_ok-made.made in
    let p = c.in_ok-made.ensures in
    let x = s.moves.forest in
    let o = c.put.ensures in
    let same = made_versions g q m x s.tidy p.calls p.rooted p.some in
    let low = x.low c.args.from c.requires.from in
    record {
      off = spare_off (lines.Copy c.args.to c.args.from) c.args.self.now (record { pool = q; roots = g.roots; tidy = false }) c.put.new.self m.root c.args.life.now.left c.copied.new.life.left c.put.result p.rooted.low (made_spare g q m x s.tidy p.calls p.rooted p.some) o.begun o.kept;
      idle = λ tidy to from. absurd (c.if-root-eq-NONE.false (root_same c.args.from (s.idle tidy).1 from));
      moves = moves_after _ c.requires.forest (went_on c.requires.forest.working.run s.moves.went p.calls.went) (registers_then s.same (made_kept g q m x s.tidy p.calls p.rooted p.some)) o.moves;
      done =
          put_done c.args.to m.root c.args.self.now (record { pool = q; roots = g.roots; tidy = false }) c.put.new.self (λ ts. version ts c.args.from) _ (λ ts v.
          (let w = registers_versions s.same ts v in
          (same ts w, made_tree g q m x s.tidy p.calls p.rooted p.some _ (copied_tree _ m.block (version ts c.args.from) (omega arith) p.is (w.each c.args.from c.requires.from))))) o.put;
      costs = copy_costs c.args.self.now g q c.put.new.self _ c.requires.forest x s.moves.went s.costs p.calls.working p.calls.went p.costs o.moves.forest o.moves.went o.costs;
      told = o.told;
      late = λ ts v. late_then c.put.new.self.pool (copy_steps c.args.self.now.pool.start.geometry) (λ (e : Geometry). drop_steps e 0) c.put.result (all_of (copy_steps c.args.self.now.pool.start.geometry)) c.requires.forest.working (went_on c.requires.forest.working.run s.moves.went p.calls.went) (spent_then copied_steps c.requires.forest.working s.moves.went p.calls.went s.costs.spent p.costs.spent) o.late;
      refused =
          (let geo = c.args.self.now.pool.start.geometry in
          refused_kept _ c.put.result (λ r. spends_more 0 (copy_steps geo) (none_least 0) (all_of (copy_steps geo))
          (spends_then (λ (e : Geometry). drop_steps e 0) c.requires.forest.working (went_on c.requires.forest.working.run s.moves.went p.calls.went) o.moves.went
          (spends_then copied_steps c.requires.forest.working s.moves.went p.calls.went (spends_of s.costs) (spends_of p.costs)) r)) o.refused);
    }

-- the other register is empty
pub returns-then-root-eq-NONE : goal.returns-then-root-eq-NONE
returns-then-root-eq-NONE c =
    let s = c.in_ok-sweep.ensures in
    let g = c.sweep.new.self in
    let o = c.replace.ensures in
    let same : slice_index g.roots c.args.from ≡ 16 = omega arith in
    record {
      off = first_off (lines.Copy c.args.to c.args.from) c.args.self.now c.replace.new.self g.pool c.args.life.now.left c.sweep.new.life.left c.replace.result (λ tidy. (s.idle tidy).2) o.begun;
      idle = λ tidy to from. o.idle (root_same c.args.to (s.idle tidy).1 to);
      moves = moves_after _ c.requires.forest s.moves.went s.same o.moves;
      done =
          put_done c.args.to 16 c.args.self.now g c.replace.new.self (λ ts. version ts c.args.from) _ (λ ts v.
          (let w = registers_versions s.same ts v in
          (w, subst (λ (k : ℕ). IsTree g.pool (block_in g.pool k) (version ts c.args.from)) same (w.each c.args.from c.requires.from)))) o.put;
      costs = cleared_costs c.args.self.now g c.replace.new.self _ c.requires.forest s.moves.forest s.moves.went s.costs o.moves.forest o.moves.went o.costs;
      late = (let geo = c.args.self.now.pool.start.geometry in λ ts v. late_then c.replace.new.self.pool (copy_steps geo) (λ (e : Geometry). drop_steps e 0) c.replace.result (outer_two (sweep_steps geo) (copied_steps geo) (drop_steps geo 0)) c.requires.forest.working s.moves.went s.costs.spent o.late);
      told = ok_any {T = Unit {0}} {P = λ u. c.replace.new.self.tidy ≡ true} c.replace.result (λ u. o.told ∙ s.told);
      refused =
          (let geo = c.args.self.now.pool.start.geometry in
          refused_kept _ c.replace.result (λ r. spends_more 0 (copy_steps geo) (none_least 0) (outer_two (sweep_steps geo) (copied_steps geo) (drop_steps geo 0))
          (spends_then (λ (e : Geometry). drop_steps e 0) c.requires.forest.working s.moves.went o.moves.went (spends_of s.costs) r)) o.refused);
    }

-- no word step was left
pub returns-in_err-sweep-clause-off : goal.returns-in_err-sweep-clause-off
returns-in_err-sweep-clause-off c = off_from (lines.Copy c.args.to c.args.from) c.args.self.now c.sweep.new.self c.args.life.now.left c.from_residual.result c.from_residual.ensures.1 (λ d tidy some calm. absurd (true≢false (sym (c.in_err-sweep.ensures.idle tidy).0)))

pub returns-in_err-sweep-clause-idle : goal.returns-in_err-sweep-clause-idle
returns-in_err-sweep-clause-idle c = λ tidy to from. absurd (true≢false (sym (c.in_err-sweep.ensures.idle tidy).0))

pub returns-in_err-made-clause-off : goal.returns-in_err-made-clause-off
returns-in_err-made-clause-off c =
    let f = c.args.self.now in
    let g = c.sweep.new.self in
    let q = c.copied.new.pool in
    off_from (lines.Copy c.args.to c.args.from) f (record { pool = q; roots = g.roots; tidy = false }) c.args.life.now.left c.from_residual-in_err-made.result c.from_residual-in_err-made.ensures.1 (share_off (lines.Copy c.args.to c.args.from) f g q false c.args.life.now.left _ (λ tidy. (c.in_ok-sweep.ensures.idle tidy).1) (λ ts v. tt) c.in_err-made.ensures.off)

pub returns-in_err-made-clause-idle : goal.returns-in_err-made-clause-idle
returns-in_err-made-clause-idle c = λ tidy to from. absurd (c.if-root-eq-NONE.false (root_same c.args.from (c.in_ok-sweep.ensures.idle tidy).1 from))

-- where it was refused
pub returns-in_err-sweep-clause-refused : goal.returns-in_err-sweep-clause-refused
returns-in_err-sweep-clause-refused c =
    let geo = c.args.self.now.pool.start.geometry in
    handed (Unit {0}) _ _ c.from_residual.result c.from_residual.ensures.1 (λ r. spends_more 0 (copy_steps geo) (none_least 0) (first_of_three (sweep_steps geo) (copied_steps geo) (drop_steps geo 0)) r) c.in_err-sweep.ensures.refused

pub returns-in_err-made-clause-refused : goal.returns-in_err-made-clause-refused
returns-in_err-made-clause-refused c =
    let s = c.in_ok-sweep.ensures in
    let p = c.in_err-made.ensures in
    let geo = c.args.self.now.pool.start.geometry in
    handed Made _ _ c.from_residual-in_err-made.result c.from_residual-in_err-made.ensures.1 (λ r. spends_more 0 (copy_steps geo) (none_least 0) (first_of (sweep_steps geo + copied_steps geo) (drop_steps geo 0))
    (spends_then copied_steps c.requires.forest.working s.moves.went p.calls.went (spends_of s.costs) r)) p.refused

-- how late that was
pub returns-in_err-sweep-clause-late : goal.returns-in_err-sweep-clause-late
returns-in_err-sweep-clause-late c =
    let geo = c.args.self.now.pool.start.geometry in
    λ ts v. late_from c.from_residual.result c.from_residual.ensures.1 (λ e. last_more (copy_steps geo) (first_of_three (sweep_steps geo) (copied_steps geo) (drop_steps geo 0)) (c.in_err-sweep.ensures.late e))

pub returns-in_err-made-clause-late : goal.returns-in_err-made-clause-late
returns-in_err-made-clause-late c =
    let s = c.in_ok-sweep.ensures in
    let geo = c.args.self.now.pool.start.geometry in
    λ ts v. late_from c.from_residual-in_err-made.result c.from_residual-in_err-made.ensures.1 (λ e. last_more (copy_steps geo) (first_of (sweep_steps geo + copied_steps geo) (drop_steps geo 0)) (last_then copied_steps c.requires.forest.working s.moves.went s.costs.spent (c.in_err-made.ensures.late e)))
