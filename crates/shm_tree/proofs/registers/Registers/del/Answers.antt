use Rattle.std.proofs.Common.{rules, ◌≡◌, ℕ, true, false, sym, subst, Err, true≢false, List, ◌+◌, ◌*◌}
use Rattle.std.specs.Prelude.{Option, Some, None}
use Rattle.shm_tree.specs.declared.{remove.Removed.Removed, registers.Registers.Registers}
use Rattle.shm_tree.specs.Forests.{IsAbsent, IsCleared, IsLopped, IsPruned, KeepsRegisters, root_at, version, HasVersions}
use Rattle.shm_tree.specs.{Working.Went, Bounds.drop_steps, Spending.HasDied}
use Rattle.shm_tree.specs.Costing.{Costs, Spends, StopsLine, del_steps, pruned_steps, sweep_steps}
use Rattle.shm_tree.specs.Trees.{Tree, height, removed}
use Rattle.shm_tree.specs.declared.line.TreeLine.TheVariants as lines
use Rattle.shm_tree.proofs.{Building.went_on, Costing.{part_costs, put_costs, unput_costs}}
use Rattle.shm_tree.proofs.CutShort.{off_from, same_off, spare_off, under_off}
use Rattle.shm_tree.proofs.Forests.{calls_kept, registers_named, registers_then, registers_versions, untold}
use Rattle.shm_tree.proofs.Moving.{calls_ok, deleted_all, deleted_some, made_alone, made_forest, made_kept, made_spare, made_tree, moves_after, moves_by, moves_done, moves_from, moves_stop, moves_to, same_forest, same_kept, same_versions}
use Rattle.shm_tree.proofs.Refusals.{added_none, all_of, first_of, first_of_three, handed, none_added, none_least, spends_more, spends_of, spends_then}
use Rattle.shm_tree.proofs.{Spares.rooms_tidy, registers.Registers.del.Goals.{In_ok-pruned, In-Some-None, In-Some-Some}}
use Rattle.shm_tree.proofs.Lasts.{last_more, last_then, late_from}
use Rattle.shm_tree.proofs.registers.Registers.del.Goals as goal
use Rattle.shm_words.specs.declared.geometry.Geometry.{Geometry}
use Rattle.shm_plain.specs.Pools.{Pool}

pub pruned-requires : goal.pruned-requires
pruned-requires c =
    let s = c.in_ok-sweep.ensures in
    let x = s.moves.forest in
    let v = x.versions in
    record {
      working = x.working;
      latch = x.latch;
      room = rooms_tidy c.sweep.new.self x.long s.tidy;
      root = x.low c.args.from c.requires.from;
      tree = (version v.0 c.args.from, v.1.each c.args.from c.requires.from);
    }

pub returns-in_err-pruned-clause-moves : goal.returns-in_err-pruned-clause-moves
returns-in_err-pruned-clause-moves c =
    let s = c.in_ok-sweep.ensures in
    let g = c.sweep.new.self in
    let x = s.moves.forest in
    moves_from c.from_residual-in_err-pruned.result c.from_residual-in_err-pruned.ensures.1
    (moves_after _ c.requires.forest s.moves.went s.same (moves_stop (Option Removed) g c.pruned.new.pool false _ x (λ e. untold e) (calls_kept _ (registers_named g x) c.in_err-pruned.ensures.calls)))

-- word steps as far as the removal
steps : (c : In_ok-pruned) → Went c.args.self.now.pool c.pruned.new.pool c.args.life.now.left c.pruned.new.life.left
steps c = went_on c.requires.forest.working.run c.in_ok-sweep.ensures.moves.went c.in_ok-pruned.ensures.calls.went

-- the key isn't there
pub returns-in-None-clause-moves : goal.returns-in-None-clause-moves
returns-in-None-clause-moves c =
    let s = c.in_ok-sweep.ensures in
    let g = c.sweep.new.self in
    let q = c.pruned.new.pool in
    let absent : IsAbsent c.args.key (root_at g c.args.from) g.pool q = subst (λ (o : Option Removed). IsPruned c.args.key (root_at g c.args.from) o g.pool q) c.in-None.is c.in_ok-pruned.ensures.pruned in
    moves_done false (steps (goal.at.returns-in-None-clause-moves c).In_ok-pruned) (same_forest g q s.moves.forest s.tidy c.in_ok-pruned.ensures.calls absent.roots)

pub returns-in-None-clause-missing : goal.returns-in-None-clause-missing
returns-in-None-clause-missing c =
    let s = c.in_ok-sweep.ensures in
    let g = c.sweep.new.self in
    let q = c.pruned.new.pool in
    let absent : IsAbsent c.args.key (root_at g c.args.from) g.pool q = subst (λ (o : Option Removed). IsPruned c.args.key (root_at g c.args.from) o g.pool q) c.in-None.is c.in_ok-pruned.ensures.pruned in
    λ e ts v.
    let w = registers_versions s.same ts v in
    (absent.none (version ts c.args.from) (w.each c.args.from c.requires.from), same_versions g q s.moves.forest c.in_ok-pruned.ensures.calls ts w)

-- nothing is left
is_cleared : (c : In-Some-None) → c.in_ok-pruned.field-0 ≡ Some (record { tree = None })
is_cleared c = search rules

gone : (c : In-Some-None) → IsCleared c.args.key (root_at c.sweep.new.self c.args.from) c.sweep.new.self.pool c.pruned.new.pool
gone c = subst (λ (o : Option Removed). IsPruned c.args.key (root_at c.sweep.new.self c.args.from) o c.sweep.new.self.pool c.pruned.new.pool) (is_cleared c) c.in_ok-pruned.ensures.pruned

keeps_none : (c : In_ok-pruned) → KeepsRegisters c.args.self.now (record { pool = c.pruned.new.pool; roots = c.sweep.new.self.roots; tidy = true })
keeps_none c = registers_then c.in_ok-sweep.ensures.same (same_kept c.sweep.new.self c.pruned.new.pool c.in_ok-sweep.ensures.moves.forest c.in_ok-pruned.ensures.calls)

pub returns-in-None-clause-absent : goal.returns-in-None-clause-absent
returns-in-None-clause-absent c = λ e. keeps_none (goal.at.returns-in-None-clause-absent c).In_ok-pruned

pub replace-requires-clause-forest : goal.replace-requires-clause-forest
replace-requires-clause-forest c =
    let s = c.in_ok-sweep.ensures in
    same_forest c.sweep.new.self c.pruned.new.pool s.moves.forest s.tidy c.in_ok-pruned.ensures.calls (gone (goal.at.replace-requires-clause-forest c).In-Some-None).roots

pub returns-in_err-replace-in-Some-None-clause-moves : goal.returns-in_err-replace-in-Some-None-clause-moves
returns-in_err-replace-in-Some-None-clause-moves c =
    let d = (goal.at.returns-in_err-replace-in-Some-None-clause-moves c).In_ok-pruned in
    moves_from c.from_residual-in_err-replace-in-Some-None.result c.from_residual-in_err-replace-in-Some-None.ensures.1
    (moves_after _ c.requires.forest (steps d) (keeps_none d) (moves_to (Unit {0}) _ (moves_by _ c.in_err-replace-in-Some-None.ensures.moves)))

pub returns-in_ok-replace-in-Some-None-clause-moves : goal.returns-in_ok-replace-in-Some-None-clause-moves
returns-in_ok-replace-in-Some-None-clause-moves c =
    let d = (goal.at.returns-in_ok-replace-in-Some-None-clause-moves c).In_ok-pruned in
    let m = c.in_ok-replace-in-Some-None.ensures.moves in
    moves_done true (went_on c.requires.forest.working.run (steps d) m.went) m.forest

pub returns-in_ok-replace-in-Some-None-clause-done : goal.returns-in_ok-replace-in-Some-None-clause-done
returns-in_ok-replace-in-Some-None-clause-done c =
    let g = c.sweep.new.self in
    let q = c.pruned.new.pool in
    let d = (goal.at.returns-in_ok-replace-in-Some-None-clause-done c).In-Some-None in
    let s = c.in_ok-sweep.ensures in
    λ e. deleted_all c.args.to c.args.from c.args.key c.args.self.now g (record { pool = q; roots = g.roots; tidy = true }) c.replace.new.self c.requires.from (registers_versions s.same) (gone d) (same_versions g q s.moves.forest c.in_ok-pruned.ensures.calls) c.in_ok-replace-in-Some-None.ensures.put

-- a tree was made
is_lopped : (c : In-Some-Some) → c.in_ok-pruned.field-0 ≡ Some (record { tree = Some c.in-Some-Some.made })
is_lopped c = search rules

left : (c : In-Some-Some) → IsLopped c.args.key (root_at c.sweep.new.self c.args.from) c.in-Some-Some.made c.sweep.new.self.pool c.pruned.new.pool
left c = subst (λ (o : Option Removed). IsPruned c.args.key (root_at c.sweep.new.self c.args.from) o c.sweep.new.self.pool c.pruned.new.pool) (is_lopped c) c.in_ok-pruned.ensures.pruned

keeps_some : (c : In-Some-Some) → KeepsRegisters c.sweep.new.self (record { pool = c.pruned.new.pool; roots = c.sweep.new.self.roots; tidy = false })
keeps_some c =
    let s = c.in_ok-sweep.ensures in
    made_kept c.sweep.new.self c.pruned.new.pool c.in-Some-Some.made s.moves.forest s.tidy (calls_ok c.in-Some-Some.made c.in_ok-pruned.ensures.calls) (left c).rooted (left c).some

pub put-requires-clause-forest : goal.put-requires-clause-forest
put-requires-clause-forest c =
    let s = c.in_ok-sweep.ensures in
    let d = (goal.at.put-requires-clause-forest c).In-Some-Some in
    made_forest c.sweep.new.self c.pruned.new.pool c.in-Some-Some.made s.moves.forest s.tidy (calls_ok c.in-Some-Some.made c.in_ok-pruned.ensures.calls) (left d).rooted (left d).some

pub returns-in_err-put-in-Some-Some-clause-moves : goal.returns-in_err-put-in-Some-Some-clause-moves
returns-in_err-put-in-Some-Some-clause-moves c =
    let at = goal.at.returns-in_err-put-in-Some-Some-clause-moves c in
    let s = c.in_ok-sweep.ensures in
    moves_from c.from_residual-in_err-put-in-Some-Some.result c.from_residual-in_err-put-in-Some-Some.ensures.1
    (moves_after _ c.requires.forest (steps at.In_ok-pruned) (registers_then s.same (keeps_some at.In-Some-Some)) (moves_to (Unit {0}) _ (moves_by _ c.in_err-put-in-Some-Some.ensures.moves)))

pub returns-in_ok-put-in-Some-Some-clause-moves : goal.returns-in_ok-put-in-Some-Some-clause-moves
returns-in_ok-put-in-Some-Some-clause-moves c =
    let d = (goal.at.returns-in_ok-put-in-Some-Some-clause-moves c).In_ok-pruned in
    let m = c.in_ok-put-in-Some-Some.ensures.moves in
    moves_done true (went_on c.requires.forest.working.run (steps d) m.went) m.forest

pub returns-in_ok-put-in-Some-Some-clause-done : goal.returns-in_ok-put-in-Some-Some-clause-done
returns-in_ok-put-in-Some-Some-clause-done c =
    let g = c.sweep.new.self in
    let q = c.pruned.new.pool in
    let d = (goal.at.returns-in_ok-put-in-Some-Some-clause-done c).In-Some-Some in
    λ e. deleted_some c.args.to c.args.from c.args.key c.in-Some-Some.made c.args.self.now g (record { pool = q; roots = g.roots; tidy = false }) c.put.new.self c.requires.from (registers_versions c.in_ok-sweep.ensures.same) (left d) (registers_versions (keeps_some d)) c.in_ok-put-in-Some-Some.ensures.put

-- what it cost as far as the removal
part : (c : In_ok-pruned) (ts : List Tree) → HasVersions c.args.self.now ts → Costs (3 * height (version ts c.args.from)) (sweep_steps c.args.self.now.pool.start.geometry + pruned_steps (height (version ts c.args.from)) c.args.self.now.pool.start.geometry) c.args.self.now.pool c.pruned.new.pool c.args.life.now.left c.pruned.new.life.left
part c =
    let s = c.in_ok-sweep.ensures in
    let p = c.in_ok-pruned.ensures in
    part_costs c.args.self.now c.sweep.new.self c.pruned.new.pool c.args.from (λ (t : Tree). 3 * height t) (λ (t : Tree) (e : Geometry). pruned_steps (height t) e) c.requires.from c.requires.forest s.moves.forest s.moves.went (registers_versions s.same) s.costs p.calls.working p.calls.went p.costs

pub returns-in-None-clause-costs : goal.returns-in-None-clause-costs
returns-in-None-clause-costs c =
    let d = (goal.at.returns-in-None-clause-costs c).In_ok-pruned in
    λ ts v. unput_costs (drop_steps c.args.self.now.pool.start.geometry 0) (part d ts v)

pub returns-in_ok-replace-in-Some-None-clause-costs : goal.returns-in_ok-replace-in-Some-None-clause-costs
returns-in_ok-replace-in-Some-None-clause-costs c =
    let d = (goal.at.returns-in_ok-replace-in-Some-None-clause-costs c).In_ok-pruned in
    let o = c.in_ok-replace-in-Some-None.ensures in
    λ ts v. put_costs c.requires.forest.working c.in_ok-pruned.ensures.calls.working o.moves.forest.working (steps d) o.moves.went (part d ts v) o.costs

pub returns-in_ok-put-in-Some-Some-clause-costs : goal.returns-in_ok-put-in-Some-Some-clause-costs
returns-in_ok-put-in-Some-Some-clause-costs c =
    let d = (goal.at.returns-in_ok-put-in-Some-Some-clause-costs c).In_ok-pruned in
    let o = c.in_ok-put-in-Some-Some.ensures in
    λ ts v. put_costs c.requires.forest.working c.in_ok-pruned.ensures.calls.working o.moves.forest.working (steps d) o.moves.went (part d ts v) o.costs

-- where it was refused
pub returns-in_err-sweep-clause-refused : goal.returns-in_err-sweep-clause-refused
returns-in_err-sweep-clause-refused c =
    handed (Unit {0}) (StopsLine (lines.Del c.args.to c.args.from c.args.key) c.args.self.now c.sweep.new.self c.args.life.now.left c.sweep.new.life.left) _ c.from_residual.result c.from_residual.ensures.1 (λ r ts v.
    let i = height (version ts c.args.from) in
    let geo = c.args.self.now.pool.start.geometry in
    spends_more (3 * i) (sweep_steps geo + pruned_steps i geo + drop_steps geo 0) (none_least (3 * i)) (first_of_three (sweep_steps geo) (pruned_steps i geo) (drop_steps geo 0)) r) c.in_err-sweep.ensures.refused

pub returns-in_err-pruned-clause-refused : goal.returns-in_err-pruned-clause-refused
returns-in_err-pruned-clause-refused c =
    let s = c.in_ok-sweep.ensures in
    let p = c.in_err-pruned.ensures in
    handed (Option Removed) (StopsLine (lines.Del c.args.to c.args.from c.args.key) c.args.self.now (record { pool = c.pruned.new.pool; roots = c.sweep.new.self.roots; tidy = false }) c.args.life.now.left c.pruned.new.life.left) _ c.from_residual-in_err-pruned.result c.from_residual-in_err-pruned.ensures.1 (λ r ts v.
    let t : Tree = version ts c.args.from in
    let i = height t in
    let geo = c.args.self.now.pool.start.geometry in
    let one = r t ((registers_versions s.same ts v).each c.args.from c.requires.from) in
    spends_more (3 * i) (sweep_steps geo + pruned_steps i geo + drop_steps geo 0) (none_added (3 * i)) (first_of (sweep_steps geo + pruned_steps i geo) (drop_steps geo 0))
    (spends_then (λ (e : Geometry). pruned_steps i e) c.requires.forest.working s.moves.went p.calls.went (spends_of s.costs) one)) p.refused

-- at the drop behind the removal
last_part : (c : In_ok-pruned) (h : Registers) (w : ℕ) (ts : List Tree) → HasVersions c.args.self.now ts → Went c.pruned.new.pool h.pool c.pruned.new.life.left w → Spends 0 (drop_steps c.pruned.new.pool.start.geometry 0) c.pruned.new.pool h.pool c.pruned.new.life.left w
    → Spends (3 * height (version ts c.args.from)) (del_steps (height (version ts c.args.from)) c.args.self.now.pool.start.geometry) c.args.self.now.pool h.pool c.args.life.now.left w
last_part c h w ts v went r =
    let i = height (version ts c.args.from) in
    spends_more (3 * i) (del_steps i c.args.self.now.pool.start.geometry) (added_none (3 * i)) (all_of (del_steps i c.args.self.now.pool.start.geometry))
    (spends_then (λ (e : Geometry). drop_steps e 0) c.requires.forest.working (steps c) went (spends_of (part c ts v)) r)

pub returns-in_err-replace-in-Some-None-clause-refused : goal.returns-in_err-replace-in-Some-None-clause-refused
returns-in_err-replace-in-Some-None-clause-refused c =
    let d = (goal.at.returns-in_err-replace-in-Some-None-clause-refused c).In_ok-pruned in
    let e = c.in_err-replace-in-Some-None.ensures in
    handed (Unit {0}) (StopsLine (lines.Del c.args.to c.args.from c.args.key) c.args.self.now c.replace.new.self c.args.life.now.left c.replace.new.life.left) _ c.from_residual-in_err-replace-in-Some-None.result c.from_residual-in_err-replace-in-Some-None.ensures.1 (λ r ts v. last_part d c.replace.new.self c.replace.new.life.left ts v e.moves.went r) e.refused

pub returns-in_err-put-in-Some-Some-clause-refused : goal.returns-in_err-put-in-Some-Some-clause-refused
returns-in_err-put-in-Some-Some-clause-refused c =
    let d = (goal.at.returns-in_err-put-in-Some-Some-clause-refused c).In_ok-pruned in
    let e = c.in_err-put-in-Some-Some.ensures in
    handed (Unit {0}) (StopsLine (lines.Del c.args.to c.args.from c.args.key) c.args.self.now c.put.new.self c.args.life.now.left c.put.new.life.left) _ c.from_residual-in_err-put-in-Some-Some.result c.from_residual-in_err-put-in-Some-Some.ensures.1 (λ r ts v. last_part d c.put.new.self c.put.new.life.left ts v e.moves.went r) e.refused

pub returns-in_err-sweep-clause-moves : goal.returns-in_err-sweep-clause-moves
returns-in_err-sweep-clause-moves c = moves_from c.from_residual.result c.from_residual.ensures.1 (moves_to (Unit {0}) _ (moves_by _ c.in_err-sweep.ensures.moves))

-- a tree was made in a root of its own
pub put-requires-clause-root : goal.put-requires-clause-root
put-requires-clause-root c =
    let s = c.in_ok-sweep.ensures in
    let d = (goal.at.put-requires-clause-root c).In-Some-Some in
    made_spare c.sweep.new.self c.pruned.new.pool c.in-Some-Some.made s.moves.forest s.tidy (calls_ok c.in-Some-Some.made c.in_ok-pruned.ensures.calls) (left d).rooted (left d).some

pub put-requires-clause-tree : goal.put-requires-clause-tree
put-requires-clause-tree c =
    let s = c.in_ok-sweep.ensures in
    let d = (goal.at.put-requires-clause-tree c).In-Some-Some in
    let v = s.moves.forest.versions in
    let t : Tree = version v.0 c.args.from in
    (removed c.args.key t, made_tree c.sweep.new.self c.pruned.new.pool c.in-Some-Some.made s.moves.forest s.tidy (calls_ok c.in-Some-Some.made c.in_ok-pruned.ensures.calls) (left d).rooted (left d).some (removed c.args.key t) ((left d).tree t (v.1.each c.args.from c.requires.from)))

pub put-requires-clause-alone : goal.put-requires-clause-alone
put-requires-clause-alone c =
    let s = c.in_ok-sweep.ensures in
    let d = (goal.at.put-requires-clause-alone c).In-Some-Some in
    made_alone c.sweep.new.self c.pruned.new.pool c.in-Some-Some.made s.moves.forest s.tidy (calls_ok c.in-Some-Some.made c.in_ok-pruned.ensures.calls) (left d).rooted (left d).some

-- no word step was left
pub returns-in_err-sweep-clause-off : goal.returns-in_err-sweep-clause-off
returns-in_err-sweep-clause-off c = off_from (lines.Del c.args.to c.args.from c.args.key) c.args.self.now c.sweep.new.self c.args.life.now.left c.from_residual.result c.from_residual.ensures.1 (λ d tidy some calm. absurd (true≢false (sym (c.in_err-sweep.ensures.idle tidy).0)))

pub returns-in_err-pruned-clause-off : goal.returns-in_err-pruned-clause-off
returns-in_err-pruned-clause-off c =
    let f = c.args.self.now in
    let h : Registers = record { pool = c.pruned.new.pool; roots = c.sweep.new.self.roots; tidy = false } in
    off_from (lines.Del c.args.to c.args.from c.args.key) f h c.args.life.now.left c.from_residual-in_err-pruned.result c.from_residual-in_err-pruned.ensures.1 (under_off (lines.Del c.args.to c.args.from c.args.key) f h _ (λ tidy. (c.in_ok-sweep.ensures.idle tidy).2) c.in_err-pruned.ensures.off)

pub returns-in_err-replace-in-Some-None-clause-off : goal.returns-in_err-replace-in-Some-None-clause-off
returns-in_err-replace-in-Some-None-clause-off c =
    let f = c.args.self.now in
    let g = c.sweep.new.self in
    let s = c.in_ok-sweep.ensures in
    let none = gone (goal.at.returns-in_err-replace-in-Some-None-clause-off c).In-Some-None in
    let e = c.in_err-replace-in-Some-None.ensures in
    off_from (lines.Del c.args.to c.args.from c.args.key) f c.replace.new.self c.args.life.now.left c.from_residual-in_err-replace-in-Some-None.result c.from_residual-in_err-replace-in-Some-None.ensures.1
    (same_off (lines.Del c.args.to c.args.from c.args.key) f g c.replace.new.self c.pruned.new.pool c.args.life.now.left c.pruned.new.life.left _ (λ tidy. (s.idle tidy).1) none.roots (λ ts v. none.had (version ts c.args.from) ((registers_versions s.same ts v).each c.args.from c.requires.from)) e.begun e.kept)

pub returns-in_err-put-in-Some-Some-clause-off : goal.returns-in_err-put-in-Some-Some-clause-off
returns-in_err-put-in-Some-Some-clause-off c =
    let f = c.args.self.now in
    let g = c.sweep.new.self in
    let q = c.pruned.new.pool in
    let m = c.in-Some-Some.made in
    let s = c.in_ok-sweep.ensures in
    let some = left (goal.at.returns-in_err-put-in-Some-Some-clause-off c).In-Some-Some in
    let e = c.in_err-put-in-Some-Some.ensures in
    off_from (lines.Del c.args.to c.args.from c.args.key) f c.put.new.self c.args.life.now.left c.from_residual-in_err-put-in-Some-Some.result c.from_residual-in_err-put-in-Some-Some.ensures.1
    (spare_off {T = Unit {0}} (lines.Del c.args.to c.args.from c.args.key) f (record { pool = q; roots = g.roots; tidy = false }) c.put.new.self m.root c.args.life.now.left c.pruned.new.life.left (Err _) some.rooted.low (made_spare g q m s.moves.forest s.tidy (calls_ok m c.in_ok-pruned.ensures.calls) some.rooted some.some) e.begun e.kept)

-- how late that was
pub returns-in_err-sweep-clause-late : goal.returns-in_err-sweep-clause-late
returns-in_err-sweep-clause-late c =
    let geo = c.args.self.now.pool.start.geometry in
    λ ts v.
    let i = height (version ts c.args.from) in
    late_from c.from_residual.result c.from_residual.ensures.1 (λ e. last_more (sweep_steps geo + pruned_steps i geo + drop_steps geo 0) (first_of_three (sweep_steps geo) (pruned_steps i geo) (drop_steps geo 0)) (c.in_err-sweep.ensures.late e))

pub returns-in_err-pruned-clause-late : goal.returns-in_err-pruned-clause-late
returns-in_err-pruned-clause-late c =
    let s = c.in_ok-sweep.ensures in
    let geo = c.args.self.now.pool.start.geometry in
    λ ts v.
    let t : Tree = version ts c.args.from in
    let i = height t in
    late_from c.from_residual-in_err-pruned.result c.from_residual-in_err-pruned.ensures.1 (λ e. last_more (sweep_steps geo + pruned_steps i geo + drop_steps geo 0) (first_of (sweep_steps geo + pruned_steps i geo) (drop_steps geo 0)) (last_then (λ (e : Geometry). pruned_steps i e) c.requires.forest.working s.moves.went s.costs.spent (c.in_err-pruned.ensures.late t ((registers_versions s.same ts v).each c.args.from c.requires.from) e)))

last_late : (c : In_ok-pruned) (q : Pool) (ts : List Tree) → HasVersions c.args.self.now ts → HasDied (drop_steps c.pruned.new.pool.start.geometry 0) c.pruned.new.pool q c.pruned.new.life.left → HasDied (del_steps (height (version ts c.args.from)) c.args.self.now.pool.start.geometry) c.args.self.now.pool q c.args.life.now.left
last_late c q ts v d =
    let most = del_steps (height (version ts c.args.from)) c.args.self.now.pool.start.geometry in
    last_more most (all_of most) (last_then (λ (e : Geometry). drop_steps e 0) c.requires.forest.working (steps c) (part c ts v).spent d)

pub returns-in_err-replace-in-Some-None-clause-late : goal.returns-in_err-replace-in-Some-None-clause-late
returns-in_err-replace-in-Some-None-clause-late c =
    let d = (goal.at.returns-in_err-replace-in-Some-None-clause-late c).In_ok-pruned in
    λ ts v. late_from c.from_residual-in_err-replace-in-Some-None.result c.from_residual-in_err-replace-in-Some-None.ensures.1 (λ e. last_late d c.replace.new.self.pool ts v (c.in_err-replace-in-Some-None.ensures.late e))

pub returns-in_err-put-in-Some-Some-clause-late : goal.returns-in_err-put-in-Some-Some-clause-late
returns-in_err-put-in-Some-Some-clause-late c =
    let d = (goal.at.returns-in_err-put-in-Some-Some-clause-late c).In_ok-pruned in
    λ ts v. late_from c.from_residual-in_err-put-in-Some-Some.result c.from_residual-in_err-put-in-Some-Some.ensures.1 (λ e. last_late d c.put.new.self.pool ts v (c.in_err-put-in-Some-Some.ensures.late e))
