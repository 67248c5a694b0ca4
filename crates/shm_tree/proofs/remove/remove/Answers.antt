use Rattle.std.proofs.Common.{◌≡◌, ◌==◌, ℕ, suc, ◌+◌, ◌*◌, ◌-◌, ◌≤◌, ◌∙◌, cond, sym, ap, subst, arith, inl, inr}
use Rattle.std.specs.Prelude.{Option, None, Some}
use Rattle.shm_count.specs.declared.answer.Made.{Made}
use Rattle.shm_tree.specs.declared.{node.{Content.Content, Side.Side}, remove.Removed.Removed}
use Rattle.shm_tree.specs.{Bounds.{fall_steps, remnant_steps, remove_steps, raise_steps}, Building.{IsCut, block_of}}
use Rattle.shm_tree.specs.{Raising.again, Removing.{rest, side_tree}, Spending.HasSpent, Standing.TreeStands}
use Rattle.shm_tree.specs.{Trees.{Tree, height}, Ways.{IsDeep, down}}
use Rattle.shm_tree.proofs.Building.{builds_by, builds_cut, builds_died, builds_done, builds_first, builds_from, built_more, cut_then, looked, looked_then, made_more, rooms_still, root_reached, still_cut, went_on}
use Rattle.shm_tree.proofs.{Descents.others_deep, Fallings.{cut_stay, fallen_low, fallen_more, fallen_none}}
use Rattle.shm_tree.proofs.{Fresh.made_few, Growing.down_tree, Levels.{IsWay, rest_last, rest_level, rest_top, told}}
use Rattle.shm_tree.proofs.LiveCounts.{spent_made}
use Rattle.shm_tree.proofs.Removing.{cut_at_hand, cut_stands, kept_after, kept_cut, kept_held, kept_more, kept_rooms, kept_up, lowest_way, side_stands, some_block, way_found}
use Rattle.shm_tree.proofs.{Raising.some_held, Resting.{rests_still, rests_then}, Lasts.last_more}
use Rattle.shm_tree.proofs.Spendings.{first_most, front_most, level_most, spent_call, spent_then}
use Rattle.shm_tree.proofs.Ways.{down_found, down_lower, end_none, stands_one, tree_is}
use Rattle.shm_tree.proofs.remove.remove.Goals as goal

pub find-requires : goal.find-requires
find-requires c =
    let g = c.requires.tree in
    record { working = c.requires.working; latch = c.requires.latch; tree = ((g.tree.0, g.tree.1.stands), λ some. (let k = g.named some in root_reached c.args.pool.now k.0 c.args.tree c.requires.working k.1 k.2 some)) }

pub returns-in_err-place-clause-builds : goal.returns-in_err-place-clause-builds
returns-in_err-place-clause-builds c =
    let e = c.in_err-place.ensures in
    let g = c.args.pool.now.start.geometry in
    λ t st. builds_from c.from_residual.result c.from_residual.ensures.1 (builds_first e.looks (λ d. last_more (remove_steps (height t) g) (front_most (5 * height t) 2 9 (remnant_steps g) (height t * (5 * height t + raise_steps g)) (omega arith)) (e.late t st d)))

pub returns-then-place-eq0 : goal.returns-then-place-eq0
returns-then-place-eq0 c =
    let f = c.in_ok-place.ensures in
    let x = c.args.wanted in
    let a = c.in_ok-place.place.depth in
    record {
      builds =
          λ t st.
          (let s = f.steps in
          let low = down_lower x t a (others_deep x a t (f.place t st).on) in
          builds_done None f.looks.went f.looks.working f.looks.latch (spent_call (remove_steps (height t) c.args.pool.now.start.geometry) f.looks.went (omega (arith, s, low))));
      lives = λ t st. made_few (3 * height t) c.args.pool.now c.find.new.pool c.requires.working.run f.looks.went.run f.looks.went.start (made_more 0 (3 * height t) c.args.pool.now c.find.new.pool f.looks.still.made (omega arith));
      removed = λ t st. (let w = f.place t st in (down_found x t c.in_ok-place.place.depth w.on ∙ sym (end_none c.find.new.pool c.in_ok-place.place.node x _ w.stands (omega arith)), f.looks.still));
      steps =
          λ t st calm trees.
          (let s = f.steps in
          let low = down_lower x t a (others_deep x a t (f.place t st).on) in
          omega (arith, s, low));
      rests = rests_still f.looks.still;
    }

pub last-requires : goal.last-requires
last-requires c =
    let f = c.in_ok-place.ensures in
    let i = c.requires.tree.tree.1 in
    let t = c.requires.tree.tree.0 in
    let w = f.place t i.stands in
    record {
      working = f.looks.working;
      latch = f.looks.latch ∙ c.requires.latch;
      some = λ e. omega arith;
      tree = (down c.args.wanted t c.in_ok-place.place.depth, w.stands, (down_tree c.args.wanted t c.in_ok-place.place.depth i.search i.balanced).0);
      reached = f.reached;
      low = f.low;
    }

pub returns-in_err-lowest-clause-builds : goal.returns-in_err-lowest-clause-builds
returns-in_err-lowest-clause-builds c =
    let f = c.in_ok-place.ensures in
    let e = c.in_err-lowest.ensures in
    let x = c.args.wanted in
    let d = c.in_ok-place.place.depth in
    let s = f.steps in
    let g = c.args.pool.now.start.geometry in
    λ t st.
    let way = f.place t st in
    let it = tree_is c.args.pool.now c.args.tree c.requires.tree.tree.0 t c.requires.tree.tree.1 st in
    let low = down_lower x t d (others_deep x d t way.on) in
    let few : (5 * d + 2) + 3 * height (down x t d) ≤ 5 * height t + 2 = omega (arith, low) in
    let most = front_most (5 * height t) 2 9 (remnant_steps g) (height t * (5 * height t + raise_steps g)) (omega arith) in
    builds_from c.from_residual-in_err-lowest.result c.from_residual-in_err-lowest.ensures.1
    (builds_died {a = 5 * d + 2} {b = 3 * height (down x t d)} (omega (arith, few, most)) c.requires.working f.looks.went f.looks.latch (spent_call (5 * d + 2) f.looks.went (omega (arith, s))) e.looks (e.late (down x t d) way.stands (down_tree x t d it.search it.balanced).0))

pub next_of-requires : goal.next_of-requires
next_of-requires c =
    let f = c.in_ok-place.ensures in
    let l = c.in_ok-lowest.ensures in
    let x = c.args.wanted in
    let a = c.in_ok-place.place.depth in
    let e = c.in_ok-lowest.lowest.depth in
    let g = c.requires.tree in
    let y = lowest_way x a e c.in_ok-place.place.node c.in_ok-lowest.lowest.node g l.below f.place l.last g.tree.0 g.tree.1.stands in
    record {
      working = l.looks.working;
      node = ((_, y.1), l.reached);
      some = some_block c.last.new.pool c.in_ok-lowest.lowest.node _ y.1 (y.0.deep e (omega arith));
    }

pub returns-in_err-next-clause-builds : goal.returns-in_err-next-clause-builds
returns-in_err-next-clause-builds c =
    let run = c.requires.working.run in
    let f = c.in_ok-place.ensures in
    let l = c.in_ok-lowest.ensures in
    let e = c.in_err-next.ensures in
    let x = c.args.wanted in
    let a = c.in_ok-place.place.depth in
    let n = c.in_ok-lowest.lowest.depth in
    let g = c.args.pool.now.start.geometry in
    let s1 = f.steps in
    let s2 = l.steps in
    let below = l.below in
    let went = went_on run f.looks.went l.looks.went in
    λ t st.
    let way = (lowest_way x a n c.in_ok-place.place.node c.in_ok-lowest.lowest.node c.requires.tree l.below f.place l.last t st).0 in
    let lower = down_lower x t (suc n) way.deep in
    let most = first_most (9 + remnant_steps g) (5 * height t + raise_steps g) n (height t) (omega (arith, lower)) in
    builds_from c.from_residual-in_err-next.result c.from_residual-in_err-next.ensures.1
    (builds_died {a = 5 * n + 5} {b = 4} (omega (arith, most)) c.requires.working went (l.looks.latch ∙ f.looks.latch) (spent_call (5 * n + 5) went (omega (arith, s1, s2, below))) e.looks e.late)

pub remnant-requires : goal.remnant-requires
remnant-requires c =
    let f = c.in_ok-place.ensures in
    let l = c.in_ok-lowest.ensures in
    let n = c.in_ok-next.ensures in
    let run = c.requires.working.run in
    let x = c.args.wanted in
    let a = c.in_ok-place.place.depth in
    let e = c.in_ok-lowest.lowest.depth in
    let g = c.requires.tree in
    let y = lowest_way x a e c.in_ok-place.place.node c.in_ok-lowest.lowest.node g l.below f.place l.last g.tree.0 g.tree.1.stands in
    let read = looked_then run (looked_then run (looked f.looks) (looked l.looks)) (looked n.looks) in
    let same = rooms_still read.still in
    record {
      working = n.looks.working;
      latch = read.latch ∙ c.requires.latch;
      room = omega arith;
      node = ((_, n.looks.still.trees c.in_ok-lowest.lowest.node _ y.1), λ some. n.looks.reaches c.in_ok-lowest.lowest.node (l.reached some));
      some = some_block c.last.new.pool c.in_ok-lowest.lowest.node _ y.1 (y.0.deep e (omega arith));
    }

pub returns-in_err-made-clause-builds : goal.returns-in_err-made-clause-builds
returns-in_err-made-clause-builds c =
    let f = c.in_ok-place.ensures in
    let l = c.in_ok-lowest.ensures in
    let n = c.in_ok-next.ensures in
    let run = c.requires.working.run in
    let r = builds_by {hints = c.args.hints} _ c.in_err-made.ensures.builds in
    let x = c.args.wanted in
    let a = c.in_ok-place.place.depth in
    let e = c.in_ok-lowest.lowest.depth in
    let g = c.args.pool.now.start.geometry in
    let s1 = f.steps in
    let s2 = l.steps in
    let s3 = n.steps in
    let below = l.below in
    let read = looked_then run (looked_then run (looked f.looks) (looked l.looks)) (looked n.looks) in
    λ t st.
    let way = (lowest_way x a e c.in_ok-place.place.node c.in_ok-lowest.lowest.node c.requires.tree l.below f.place l.last t st).0 in
    let lower = down_lower x t (suc e) way.deep in
    let most = first_most (9 + remnant_steps g) (5 * height t + raise_steps g) e (height t) (omega (arith, lower)) in
    builds_from c.from_residual-in_err-made.result c.from_residual-in_err-made.ensures.1
    (builds_cut (Option Made) 0 remnant_steps {T = Option Removed} {n = 0} {k = 3 * height t} {a = 5 * e + 9} _ (omega arith) (omega (arith, most)) c.requires.working read.went read.latch (still_cut read.still) (spent_call (5 * e + 9) read.went (omega (arith, s1, s2, s3, below))) r)

pub levels-init : goal.levels-init
levels-init c =
    let f = c.in_ok-place.ensures in
    let l = c.in_ok-lowest.ensures in
    let n = c.in_ok-next.ensures in
    let m = c.in_ok-made.ensures in
    let o = c.in_ok-made.made in
    let run = c.requires.working.run in
    let x = c.args.wanted in
    let a = c.in_ok-place.place.depth in
    let e = c.in_ok-lowest.lowest.depth in
    let b = c.in_ok-lowest.lowest.node in
    let g = c.requires.tree in
    let p = c.args.pool.now in
    let q = c.next_of.new.pool in
    let r = c.remnant.new.pool in
    let s : Side = c.staying.result in
    let way : (t : Tree) → TreeStands p c.args.tree t → IsWay x a e t × TreeStands c.last.new.pool b (down x t e) = lowest_way x a e c.in_ok-place.place.node b g l.below f.place l.last in
    let read = looked_then run (looked_then run (looked f.looks) (looked l.looks)) (looked n.looks) in
    record {
      went = went_on run read.went m.builds.went;
      working = m.builds.working;
      latch = m.builds.latch ∙ read.latch;
      low = omega arith;
      kept = kept_more p r 0 (3 * (e - e)) o (omega arith) (kept_after 0 p q r o run read.went.run read.went.start read.still m.kept);
      way = λ t st. (way t st).0;
      stands =
          λ t st.
          (let y = way t st in
          let u : Tree = down x t e in
          let some = some_block c.last.new.pool b u y.1 (y.0.deep e (omega arith)) in
          let there : TreeStands r (block_of o) (side_tree s u) = m.stands (side_tree s u) (side_stands q b s u some (n.looks.still.trees b u y.1)) in
          let is : rest x a t e ≡ side_tree s u = rest_last x a e t y.0 ∙ ap (λ (z : Side). side_tree z u) (sym c.staying.ensures) in
          subst (TreeStands r (block_of o)) (sym is) there);
      rests = rests_then p q r read.working m.builds.working m.builds.went (rests_still read.still) m.rests;
      spent =
          (let s1 = f.steps in
          let s2 = l.steps in
          let s3 = n.steps in
          let below = l.below in
          fallen_none p r e (spent_then remnant_steps c.requires.working read.went m.builds.went (spent_call (5 * e + 9) read.went (omega (arith, s1, s2, s3, below))) m.builds.spent));
    }

pub above-requires : goal.above-requires
above-requires c =
    let r = c.levels.invariant in
    let g = c.requires.tree in
    let t = g.tree.0 in
    let st = g.tree.1.stands in
    let low = r.low in
    let d = c.levels.depth - 1 in
    let cut = kept_cut c.levels.made r.kept in
    let deep : IsDeep c.args.wanted t d = λ i lt. (r.way t st).deep i (omega (arith, lt, low)) in
    record {
      working = r.working;
      latch = r.latch ∙ c.requires.latch;
      tree = cut_at_hand g cut r.working;
      deep = λ u su. subst (λ (v : Tree). IsDeep c.args.wanted v d) (stands_one _ c.args.tree t u (cut_stands t g cut st) su) deep;
    }

pub returns-in_err-node-clause-builds : goal.returns-in_err-node-clause-builds
returns-in_err-node-clause-builds c =
    let r = c.levels.invariant in
    let e = c.in_err-node.ensures in
    let x = c.args.wanted in
    let end = c.in_ok-lowest.lowest.depth in
    let low = r.low in
    let d = c.levels.depth - 1 in
    let same : c.levels.depth ≡ suc d = omega arith in
    let g = c.args.pool.now.start.geometry in
    λ t st.
    let lower = down_lower x t (suc end) (r.way t st).deep in
    let levels = level_most (9 + remnant_steps g) (raise_steps g) (end - c.levels.depth) d end (height t) (omega (arith, low, same)) (omega (arith, low, same)) (omega (arith, lower)) in
    builds_from c.from_residual-in_err-node.result c.from_residual-in_err-node.ensures.1 (builds_died {a = fall_steps (end - c.levels.depth) end g} {b = 5 * d} (omega (arith, levels)) c.requires.working r.went r.latch r.spent e.looks e.late)

pub raise-requires : goal.raise-requires
raise-requires c =
    let r = c.levels.invariant in
    let a = c.in_ok-node.ensures in
    let g = c.requires.tree in
    let t = g.tree.0 in
    let st = g.tree.1.stands in
    let low = r.low in
    let d = c.levels.depth - 1 in
    let here = a.stands t (cut_stands t g (kept_cut c.levels.made r.kept) st) in
    let room = kept_rooms (3 * (c.in_ok-lowest.lowest.depth - c.levels.depth)) c.args.pool.now c.levels.pool c.levels.made r.kept c.requires.room in
    let same = rooms_still a.looks.still in
    record {
      working = a.looks.working;
      latch = a.looks.latch ∙ (r.latch ∙ c.requires.latch);
      room = omega (arith, room, same);
      node = ((_, here), a.reached);
      some = some_block c.above.new.pool c.in_ok-node.node _ here ((r.way t st).deep d (omega (arith, low)));
      below = some_held c.levels.made a.looks.still (kept_held (3 * (c.in_ok-lowest.lowest.depth - c.levels.depth)) c.args.pool.now c.levels.pool c.levels.made _ r.kept (r.stands t st));
    }

pub levels-preserved : goal.levels-preserved
levels-preserved c =
    let p = c.args.pool.now in
    let q = c.levels.pool in
    let w = c.above.new.pool in
    let v = c.raise.new.pool in
    let x = c.args.wanted in
    let r = c.levels.invariant in
    let h = c.in_ok-node.ensures in
    let b = c.in_ok-over.ensures in
    let n = c.in_ok-next.ensures in
    let o = c.levels.made in
    let m = c.in_ok-over.over in
    let run = c.requires.working.run in
    let g = c.requires.tree in
    let d = c.levels.depth - 1 in
    let a = c.in_ok-place.place.depth in
    let e = c.in_ok-lowest.lowest.depth in
    let low = r.low in
    let same : c.levels.depth ≡ suc d = omega arith in
    let l = c.in_ok-lowest.ensures in
    let f = c.in_ok-place.ensures in
    let way : (t : Tree) → TreeStands p c.args.tree t → IsWay x a e t × TreeStands c.last.new.pool c.in_ok-lowest.lowest.node (down x t e) = lowest_way x a e c.in_ok-place.place.node c.in_ok-lowest.lowest.node g l.below f.place l.last in
    record {
      went = went_on run (went_on run r.went h.looks.went) b.builds.went;
      working = b.builds.working;
      latch = b.builds.latch ∙ (h.looks.latch ∙ r.latch);
      low = omega (arith, low, same);
      kept = built_more (3 * (e - c.levels.depth) + 3) (3 * (e - d)) (omega (arith, low, same)) (kept_up (3 * (e - c.levels.depth)) o run r.went.run r.went.start h.looks.went.run h.looks.went.start r.kept h.looks.still b.rebuilt);
      way = r.way;
      stands =
          λ t st.
          (let y = r.way t st in
          let here : TreeStands w c.in_ok-node.node (down x t d) = h.stands t (cut_stands t g (kept_cut o r.kept) st) in
          let under : TreeStands w (block_of o) (rest x a t (suc d)) = h.looks.still.trees (block_of o) (rest x a t (suc d)) (subst (λ (i : ℕ). TreeStands q (block_of o) (rest x a t i)) same (r.stands t st)) in
          let made : TreeStands v m.block (again x c.lifted-told.result (down x t d) (rest x a t (suc d))) = b.stands (down x t d) (rest x a t (suc d)) here under in
          let is : c.lifted-told.result ≡ told x a e t y d =
          c.lifted-told.ensures ∙ ap (λ (z : Option Content). cond (d == a) z None) (n.next (down x t e) (way t st).1) in
          subst (TreeStands v m.block) (sym (rest_level x a e t y d (omega (arith, low, same)))) (subst (λ (z : Option Content). TreeStands v m.block (again x z (down x t d) (rest x a t (suc d)))) is made));
      rests = rests_then p w v h.looks.working b.builds.working b.builds.went (rests_then p q w r.working h.looks.working h.looks.went r.rests (rests_still h.looks.still)) b.rests;
      spent =
          (let s = h.steps in
          fallen_more p v (e - c.levels.depth) d e (e - d) (omega (arith, low, same)) (omega (arith, low, same))
          (spent_then raise_steps c.requires.working (went_on run r.went h.looks.went) b.builds.went (spent_then (λ u. 5 * d) c.requires.working r.went h.looks.went r.spent (spent_call (5 * d) h.looks.went (omega (arith, s)))) b.builds.spent));
    }

pub returns-in_err-over-clause-builds : goal.returns-in_err-over-clause-builds
returns-in_err-over-clause-builds c =
    let run = c.requires.working.run in
    let r = c.levels.invariant in
    let h = c.in_ok-node.ensures in
    let e = c.in_err-over.ensures.builds in
    let o = c.levels.made in
    let x = c.args.wanted in
    let end = c.in_ok-lowest.lowest.depth in
    let low = r.low in
    let d = c.levels.depth - 1 in
    let same : c.levels.depth ≡ suc d = omega arith in
    let s = h.steps in
    let g = c.args.pool.now.start.geometry in
    let cut = cut_then run r.went.run r.went.start (kept_cut o r.kept) (still_cut h.looks.still) in
    λ t st.
    let lower = down_lower x t (suc end) (r.way t st).deep in
    let levels = level_most (9 + remnant_steps g) (raise_steps g) (end - c.levels.depth) d end (height t) (omega (arith, low, same)) (omega (arith, low, same)) (omega (arith, lower)) in
    builds_from c.from_residual-in_err-over.result c.from_residual-in_err-over.ensures.1
    (builds_cut Made 3 raise_steps {T = Option Removed} {n = 3 * (end - c.levels.depth) + 0} {k = 3 * height t} {a = fall_steps (end - c.levels.depth) end g + 5 * d} _ (omega (arith, low, lower)) (omega (arith, levels)) c.requires.working (went_on run r.went h.looks.went) (h.looks.latch ∙ r.latch) cut (spent_then (λ u. 5 * d) c.requires.working r.went h.looks.went r.spent (spent_call (5 * d) h.looks.went (omega (arith, s)))) e)

pub returns : goal.returns
returns c =
    let r = c.levels.invariant in
    let q = c.levels.pool in
    let o = c.levels.made in
    let x = c.args.wanted in
    let a = c.in_ok-place.place.depth in
    let e = c.in_ok-lowest.lowest.depth in
    let p = c.args.pool.now in
    let none : c.levels.depth ≡ 0 = omega arith in
    let cut : (t : Tree) → TreeStands p c.args.tree t → IsCut (3 * height t) p q = λ t st. (let lower = down_lower x t (suc e) (r.way t st).deep in kept_cut o (kept_more p q (3 * (e - c.levels.depth)) (3 * height t) o (omega (arith, lower, none)) r.kept)) in
    let spent : (t : Tree) → TreeStands p c.args.tree t → HasSpent (remove_steps (height t) p.start.geometry) p q c.args.life.now.left c.levels.life.left =
    λ t st. (let lower = down_lower x t (suc e) (r.way t st).deep in fallen_low p q (e - c.levels.depth) e (height t) (omega (arith, none)) (omega (arith, lower)) r.spent) in
    record {
      builds = λ t st. builds_done (Some (record { tree = o })) r.went r.working r.latch (spent t st);
      removed =
          λ t st.
          (let y = r.way t st in
          let lower = down_lower x t (suc e) y.deep in
          record {
            had = way_found t y;
            stands = subst (TreeStands q (block_of o)) (rest_top x a e t y) (subst (λ (i : ℕ). TreeStands q (block_of o) (rest x a t i)) none (r.stands t st));
            kept = kept_more c.args.pool.now q (3 * (e - c.levels.depth)) (3 * height t) o (omega (arith, lower, none)) r.kept;
          });
      lives = λ t st. made_few (3 * height t) p q c.requires.working.run r.went.run r.went.start (cut t st).made;
      steps =
          λ t st calm trees. elim (spent_made (remove_steps (height t) p.start.geometry) (3 * height t) c.requires.working.run r.went.run r.went.start (cut_stay p q c.requires.working r.working r.went calm trees (cut t st)) (cut t st).made (spent t st)) [
            | inl e ↦ absurd (calm e)
            | inr few ↦ few
          ];
      rests = r.rests;
    }
