use Rattle.shm_tree.proofs.{Resting.{rests_still, rests_then}, Growing.down_tree}
use Rattle.shm_tree.proofs.Lights.{level_few, level_tops, lowest_tops, outside_count, outside_new, outside_none, registered_same}
use Rattle.shm_tree.proofs.{LiveCounts.spent_made, Named.{lives_fresh, lives_stay}, Sharings.top_kept}
use Rattle.shm_tree.proofs.Weights.{weight_nodes}
use Rattle.shm_tree.proofs.Building.{builds_cut, builds_died, builds_done, builds_first, builds_from, built_after, built_cut, built_made, built_more, cut_made, cut_then, made_more, refused_with, rooms_rooted, rooms_still, root_reached, still_cut, went_on}
use Rattle.shm_tree.proofs.{Costs.{away, cost, cost_down, cost_end, cost_level, cost_low, work}, Descents.others_deep}
use Rattle.shm_tree.proofs.Raising.{held_kept}
use Rattle.shm_tree.proofs.Inserting.{built_held, built_up, level_made, level_up, registered_at_hand, registered_kept}
use Rattle.shm_tree.proofs.{Nodes.made_then, Ways.{down_lower, other_block, stands_one, tree_is}}
use Rattle.shm_tree.proofs.Spendings.{climbed_low, climbed_more, climbed_none, first_most, level_most, spent_call, spent_then, front_most}
use Rattle.shm_tree.proofs.Lasts.{last_more}
use Rattle.shm_tree.proofs.insert.insert.Goals as goal
use Rattle.shm_tree.specs.{Building.IsCut, declared.node.Side.Side, Inserting.outside, Raising.IsCheapAt}
use Rattle.shm_tree.specs.{Sharing.CountsTop, Keeping.HasMade, Standing.{TreeStands, weight}}
use Rattle.shm_tree.specs.{Trees.{Tree, height, inserted}, Ways.{IsDeep, IsEnd, IsOther, down, toward}}
use Rattle.shm_tree.specs.{Bounds.{climb_steps, insert_steps, lowest_steps, raise_steps}, Spending.HasSpent}
use Rattle.std.proofs.Common.{◌≡◌, ℕ, suc, ◌+◌, ◌*◌, ◌-◌, ◌<◌, ◌≤◌, ◌∙◌, sym, subst, arith, inl, inr}
use Rattle.shm_count.specs.declared.answer.Made.{Made}

pub above-requires : goal.above-requires
above-requires c =
    let r = c.levels.invariant in
    let g = c.requires.tree in
    let t = g.tree.0 in
    let low = r.low in
    let d = c.levels.depth - 1 in
    let on = r.on t g.tree.1.stands in
    let deep : IsDeep c.args.wanted t d = others_deep c.args.wanted d t (λ i lt. on i (omega arith)) in
    record {
      working = r.working;
      latch = r.latch ∙ c.requires.latch;
      tree = registered_at_hand g r.built r.working;
      deep = λ u su. subst (λ (v : Tree). IsDeep c.args.wanted v d) (stands_one _ c.args.tree t u (registered_kept t g r.built g.tree.1.stands) su) deep;
    }

pub raise-requires : goal.raise-requires
raise-requires c =
    let r = c.levels.invariant in
    let a = c.in_ok-node.ensures in
    let g = c.requires.tree in
    let t = g.tree.0 in
    let low = r.low in
    let st = a.stands t (registered_kept t g r.built g.tree.1.stands) in
    let less = rooms_rooted r.built.rooted in
    let same = rooms_still a.looks.still in
    record {
      working = a.looks.working;
      latch = a.looks.latch ∙ (r.latch ∙ c.requires.latch);
      room = omega arith;
      node = ((_, st), a.reached);
      some = other_block _ c.in_ok-node.node c.args.wanted _ (r.on t g.tree.1.stands (c.levels.depth - 1) (omega arith)) st;
      below = held_kept a.looks.still (built_held _ r.built (r.stands t g.tree.1.stands));
    }

pub find-requires : goal.find-requires
find-requires c =
    let g = c.requires.tree in
    record { working = c.requires.working; latch = c.requires.latch; tree = ((g.tree.0, g.tree.1.stands), λ some. (let k = g.named some in root_reached c.args.pool.now k.0 c.args.tree c.requires.working k.1 k.2 some)) }

pub lowest-requires : goal.lowest-requires
lowest-requires c =
    let f = c.in_ok-place.ensures in
    let g = c.requires.tree in
    let same = rooms_still f.looks.still in
    record {
      working = f.looks.working;
      latch = f.looks.latch ∙ c.requires.latch;
      room = omega arith;
      node = ((_, (f.place g.tree.0 g.tree.1.stands).stands), f.reached);
    }

pub levels-init : goal.levels-init
levels-init c =
    let f = c.in_ok-place.ensures in
    let m = c.in_ok-made.ensures in
    let run = c.requires.working.run in
    let e = c.in_ok-place.place.depth in
    let built = built_after run f.looks.went.run f.looks.went.start f.looks.still m.built in
    let p = c.args.pool.now in
    let q = c.find.new.pool in
    let new : (t : Tree) → TreeStands p c.args.tree t → outside p c.args.tree t c.in_ok-made.made.block ≡ 1 =
    λ t st. outside_new p q c.in_ok-made.made.block c.args.tree t (λ f'. weight_nodes f' p q f.looks.still.nodes c.args.tree t st) (f.looks.still.trees c.args.tree t st) m.fresh in
    let key : c.from.result ≡ c.args.wanted = omega arith in
    let made : (t : Tree) → TreeStands c.args.pool.now c.args.tree t → TreeStands c.lowest.new.pool c.in_ok-made.made.block (inserted c.args.wanted c.args.number (down c.args.wanted t e)) =
    λ t st.
    subst (λ (k : ℕ). TreeStands c.lowest.new.pool c.in_ok-made.made.block (inserted k c.args.number (down c.args.wanted t e))) key
    (m.stands (down c.args.wanted t e) (f.place t st).stands (subst (λ (k : ℕ). IsEnd k (down c.args.wanted t e)) (sym key) (f.place t st).end)) in
    record {
      went = went_on run f.looks.went m.builds.went;
      spent = (let s = f.steps in climbed_none c.args.pool.now c.lowest.new.pool e (spent_then lowest_steps c.requires.working f.looks.went m.builds.went (spent_call (5 * e + 2) f.looks.went (omega (arith, s))) m.builds.spent));
      working = m.builds.working;
      latch = m.builds.latch ∙ f.looks.latch;
      low = omega arith;
      built = built_more 1 (1 + 3 * (e - e)) (omega arith) built;
      on = λ t st. (f.place t st).on;
      stands = made;
      made = λ t st. subst (λ (i : ℕ). HasMade i c.args.pool.now c.lowest.new.pool) (sym (cost_end c.args.wanted c.args.number (down c.args.wanted t e) (f.place t st).end)) built.made;
      few =
          λ t st.
          (let w = f.place t st in
          let one : weight (outside p c.args.tree t) c.lowest.new.pool c.in_ok-made.made.block (inserted c.args.wanted c.args.number (down c.args.wanted t e)) ≤ 1 + weight (outside p c.args.tree t) q c.in_ok-place.place.node (down c.args.wanted t e) =
          subst (λ (k : ℕ). weight (outside p c.args.tree t) c.lowest.new.pool c.in_ok-made.made.block (inserted k c.args.number (down c.args.wanted t e)) ≤ 1 + weight (outside p c.args.tree t) q c.in_ok-place.place.node (down c.args.wanted t e)) key
          (m.weighs (outside p c.args.tree t) (down c.args.wanted t e) (outside_count p c.args.tree t) w.stands (subst (λ (k : ℕ). IsEnd k (down c.args.wanted t e)) (sym key) w.end)) in
          let light = f.light (outside p c.args.tree t) t st in
          let none = outside_none p c.args.tree t in
          omega (arith, one, light, none));
      new = new;
      tops = λ t st grew s. (let w = f.place t st in lowest_tops (outside p c.args.tree t) c.lowest.new.pool c.args.wanted c.args.number c.in_ok-made.made.block (down c.args.wanted t e) w.end (new t st) (made t st) grew s);
      rests = rests_then c.args.pool.now c.find.new.pool c.lowest.new.pool f.looks.working m.builds.working m.builds.went (rests_still f.looks.still) m.rests;
    }

pub levels-preserved : goal.levels-preserved
levels-preserved c =
    let p = c.args.pool.now in
    let q = c.levels.pool in
    let w = c.above.new.pool in
    let v = c.raise.new.pool in
    let x = c.args.wanted in
    let y = c.args.number in
    let r = c.levels.invariant in
    let a = c.in_ok-node.ensures in
    let b = c.in_ok-made-2.ensures in
    let run = c.requires.working.run in
    let d = c.levels.depth - 1 in
    let e = c.in_ok-place.place.depth in
    let low = r.low in
    let same : c.levels.depth ≡ suc d = omega arith in
    let under : (t : Tree) → TreeStands p c.args.tree t → TreeStands w c.levels.made.block (inserted x y (toward x (down x t d))) =
    λ t st. a.looks.still.trees c.levels.made.block (inserted x y (toward x (down x t d))) (subst (λ (n : ℕ). TreeStands q c.levels.made.block (inserted x y (down x t n))) same (r.stands t st)) in
    let here : (t : Tree) → TreeStands p c.args.tree t → TreeStands w c.in_ok-node.node (down x t d) = λ t st. a.stands t (registered_kept t c.requires.tree r.built st) in
    let g = c.requires.tree in
    let below : (t : Tree) → TreeStands p c.args.tree t → TreeStands q c.levels.made.block (inserted x y (toward x (down x t d))) =
    λ t st. subst (λ (n : ℕ). TreeStands q c.levels.made.block (inserted x y (down x t n))) same (r.stands t st) in
    let new : (t : Tree) → TreeStands p c.args.tree t → outside p c.args.tree t c.in_ok-made-2.made.block ≡ 1 =
    λ t st. outside_new p w c.in_ok-made-2.made.block c.args.tree t (λ f. weight_nodes f q w a.looks.still.nodes c.args.tree t (registered_kept t g r.built st) ∙ registered_same q t g r.built.blocks st f) (a.looks.still.trees c.args.tree t (registered_kept t g r.built st)) b.fresh in
    let low_tops : (t : Tree) → TreeStands p c.args.tree t → height (inserted x y (toward x (down x t d))) ≡ height (toward x (down x t d)) + 1 → (s : Side) → CountsTop (outside p c.args.tree t) w s c.levels.made.block =
    λ t st grew s. top_kept (outside p c.args.tree t) q w s c.levels.made.block (inserted x y (toward x (down x t d))) (r.built.some) (below t st) a.looks.still
    (r.tops t st (subst (λ (n : ℕ). height (inserted x y (down x t n)) ≡ height (down x t n) + 1) (sym same) grew) s) in
    record {
      went = went_on run (went_on run r.went a.looks.went) b.builds.went;
      spent = (let s = a.steps in climbed_more p v (e - c.levels.depth) d e (e - d) (omega arith) (omega arith) (spent_then raise_steps c.requires.working (went_on run r.went a.looks.went) b.builds.went (spent_then (λ u. 5 * d) c.requires.working r.went a.looks.went r.spent (spent_call (5 * d) a.looks.went (omega (arith, s)))) b.builds.spent));
      working = b.builds.working;
      latch = b.builds.latch ∙ (a.looks.latch ∙ r.latch);
      low = omega arith;
      built = built_more (1 + 3 * (e - c.levels.depth) + 3) (1 + 3 * (e - d)) (omega arith) (built_up run r.went.run r.went.start a.looks.went.run a.looks.went.start r.built a.looks.still b.rebuilt);
      on = r.on;
      stands = λ t st. level_up v x y c.in_ok-node.node c.levels.made.block _ (down x t d) (r.on t st d (omega arith)) (here t st) (under t st) b.stands;
      made =
          λ t st.
          (let o : IsOther x (down x t d) = r.on t st d (omega arith) in
          let i : ℕ = cost x y (toward x (down x t d)) in
          let j : ℕ = work (inserted x y (toward x (down x t d))) (away x (down x t d)) in
          let first : HasMade i p q = subst (λ (n : ℕ). HasMade (cost x y (down x t n)) p q) same (r.made t st) in
          let more : HasMade j w v = level_made x y c.in_ok-node.node c.levels.made.block (down x t d) o (here t st) (under t st) b.rebuilt.made b.cheap in
          let all : HasMade ((i + 0) + j) p v = made_then (i + 0) j p w v run a.looks.went.run (a.looks.went.start ∙ r.went.start) (made_then i 0 p q w run r.went.run r.went.start first a.looks.still.made) more in
          subst (λ (n : ℕ). HasMade n p v) (sym (cost_level x y (down x t d) o)) (made_more ((i + 0) + j) (i + j) p v all (omega arith)));
      few =
          λ t st.
          (let it = tree_is p c.args.tree g.tree.0 t g.tree.1 st in
          let dt = down_tree x t d it.search it.balanced in
          let f : ℕ → ℕ = outside p c.args.tree t in
          let u : Tree = inserted x y (toward x (down x t d)) in
          let low_few : weight f q c.levels.made.block u ≤ 1 + (e - c.levels.depth) = subst (λ (n : ℕ). weight f q c.levels.made.block (inserted x y (down x t n)) ≤ 1 + (e - c.levels.depth)) same (r.few t st) in
          let low_same = weight_nodes f q w a.looks.still.nodes c.levels.made.block u (below t st) in
          let node_light = a.light f t (registered_kept t g r.built st) in
          let top_same = registered_same q t g r.built.blocks st f in
          let top_none = outside_none p c.args.tree t in
          let few = level_few v f x y c.in_ok-node.node c.levels.made.block c.in_ok-made-2.made.block (1 + (e - c.levels.depth)) (down x t d) (outside_count p c.args.tree t) (r.on t st d (omega arith)) dt.0 dt.1 (here t st) (under t st)
          (omega (arith, node_light, top_same, top_none)) (omega (arith, low_few, low_same)) (λ grew s. low_tops t st grew s) b.weighs in
          omega (arith, few, low, same));
      new = new;
      tops =
          λ t st grew s.
          (let it = tree_is p c.args.tree g.tree.0 t g.tree.1 st in
          let dt = down_tree x t d it.search it.balanced in
          let o : IsOther x (down x t d) = r.on t st d (omega arith) in
          level_tops (outside p c.args.tree t) x y c.in_ok-node.node c.levels.made.block c.in_ok-made-2.made.block (down x t d) o dt.0 dt.1 (here t st) (under t st) (r.new t st) (new t st) (level_up v x y c.in_ok-node.node c.levels.made.block _ (down x t d) o (here t st) (under t st) b.stands) b.top grew s);
      rests = rests_then p w v a.looks.working b.builds.working b.builds.went (rests_then p q w r.working a.looks.working a.looks.went r.rests (rests_still a.looks.still)) b.rests;
    }

pub returns : goal.returns
returns c =
    let r = c.levels.invariant in
    let g = c.requires.tree in
    let p = c.args.pool.now in
    let q = c.levels.pool in
    let x = c.args.wanted in
    let y = c.args.number in
    let none : c.levels.depth ≡ 0 = omega arith in
    let shares : (t : Tree) → TreeStands p c.args.tree t → weight (outside p c.args.tree t) q c.levels.made.block (inserted x y t) ≤ height t + 1 =
    λ t st.
    (let few = r.few t st in
    let low = down_lower x t c.in_ok-place.place.depth (others_deep x c.in_ok-place.place.depth t (r.on t st)) in
    let is : weight (outside p c.args.tree t) q c.levels.made.block (inserted x y t) ≤ 1 + (c.in_ok-place.place.depth - c.levels.depth) = subst (λ (n : ℕ). weight (outside p c.args.tree t) q c.levels.made.block (inserted x y (down x t n)) ≤ 1 + (c.in_ok-place.place.depth - c.levels.depth)) none few in
    omega (arith, is, low)) in
    let stands : (t : Tree) → TreeStands p c.args.tree t → TreeStands q c.levels.made.block (inserted x y t) = λ t st. subst (λ (n : ℕ). TreeStands q c.levels.made.block (inserted x y (down x t n))) none (r.stands t st) in
    let spent : (t : Tree) → TreeStands p c.args.tree t → HasSpent (insert_steps (height t) p.start.geometry) p q c.args.life.now.left c.levels.life.left = λ t st. (let low = down_lower x t c.in_ok-place.place.depth (others_deep x c.in_ok-place.place.depth t (r.on t st)) in climbed_low p q (c.in_ok-place.place.depth - c.levels.depth) c.in_ok-place.place.depth (height t) (omega (arith, none)) (omega (arith, low)) r.spent) in
    let made : (t : Tree) → TreeStands p c.args.tree t → HasMade (height t + 3) p q =
    λ t st.
    (let i = tree_is p c.args.tree g.tree.0 t g.tree.1 st in
    let some : HasMade (cost x y t) p q = subst (λ (n : ℕ). HasMade (cost x y (down x t n)) p q) none (r.made t st) in
    made_more (cost x y t) (height t + 3) p q some (cost_low x y t i.search i.balanced)) in
    record {
      builds = λ t st. builds_done c.levels.made r.went r.working r.latch (spent t st);
      built =
          λ t st.
          built_made (height t + 3) r.built (made t st);
      steps = λ t st calm trees. elim (spent_made (insert_steps (height t) p.start.geometry) (height t + 3) c.requires.working.run r.went.run r.went.start (lives_stay p q c.requires.working r.working r.went calm trees r.built) (made t st) (spent t st)) [ inl e ↦ absurd (calm e) | inr few ↦ few ];
      stands = stands;
      shares = shares;
      lives = λ t st calm trees. lives_fresh p q (height t + 1) c.args.tree t (inserted x y t) c.requires.working r.working calm trees r.rests r.built st (stands t st) (shares t st);
      rests = r.rests;
    }

pub returns-in_err-place-clause-builds : goal.returns-in_err-place-clause-builds
returns-in_err-place-clause-builds c =
    let e = c.in_err-place.ensures in
    let g = c.args.pool.now.start.geometry in
    λ t st. builds_from c.from_residual.result c.from_residual.ensures.1 (builds_first e.looks (λ d. last_more (insert_steps (height t) g) (front_most (5 * height t) 2 2 (lowest_steps g) (height t * (5 * height t + raise_steps g)) (omega arith)) (e.late t st d)))

pub returns-in_err-made-clause-builds : goal.returns-in_err-made-clause-builds
returns-in_err-made-clause-builds c =
    let f = c.in_ok-place.ensures in
    let e = c.in_err-made.ensures.builds in
    let x = c.args.wanted in
    let n = c.in_ok-place.place.depth in
    let s = f.steps in
    let g = c.args.pool.now.start.geometry in
    λ t st.
    let low = down_lower x t n (others_deep x n t (f.place t st).on) in
    let most = first_most (2 + lowest_steps g) (5 * height t + raise_steps g) n (height t) (omega (arith, low)) in
    builds_from c.from_residual-in_err-made.result c.from_residual-in_err-made.ensures.1
    (builds_cut Made 1 lowest_steps {T = Made} {n = 0} {k = height t + 3} {a = 5 * n + 2} _ (omega arith) (omega (arith, most)) c.requires.working f.looks.went f.looks.latch (still_cut f.looks.still) (spent_call (5 * n + 2) f.looks.went (omega (arith, s))) e)

pub returns-in_err-node-clause-builds : goal.returns-in_err-node-clause-builds
returns-in_err-node-clause-builds c =
    let r = c.levels.invariant in
    let e = c.in_err-node.ensures in
    let x = c.args.wanted in
    let n = c.in_ok-place.place.depth in
    let d = c.levels.depth - 1 in
    let low = r.low in
    let same : c.levels.depth ≡ suc d = omega arith in
    let g = c.args.pool.now.start.geometry in
    λ t st.
    let up = down_lower x t n (others_deep x n t (r.on t st)) in
    let levels = level_most (2 + lowest_steps g) (raise_steps g) (n - c.levels.depth) d n (height t) (omega (arith, low, same)) (omega (arith, low, same)) (omega (arith, up)) in
    builds_from c.from_residual-in_err-node.result c.from_residual-in_err-node.ensures.1 (builds_died {a = climb_steps (n - c.levels.depth) n g} {b = 5 * d} (omega (arith, levels)) c.requires.working r.went r.latch r.spent e.looks e.late)

pub returns-in_err-made-2-clause-builds : goal.returns-in_err-made-2-clause-builds
returns-in_err-made-2-clause-builds c =
    let p = c.args.pool.now in
    let q = c.levels.pool in
    let w = c.above.new.pool in
    let v = c.raise.new.pool in
    let x = c.args.wanted in
    let y = c.args.number in
    let run = c.requires.working.run in
    let r = c.levels.invariant in
    let g = c.requires.tree in
    let a = c.in_ok-node.ensures in
    let e = c.in_err-made-2.ensures in
    let d = c.levels.depth - 1 in
    let low = r.low in
    let same : c.levels.depth ≡ suc d = omega arith in
    λ t st.
    let it = tree_is p c.args.tree g.tree.0 t g.tree.1 st in
    let on : (i : ℕ) → i < d → IsOther x (down x t i) = λ i lt. r.on t st i (omega arith) in
    let o : IsOther x (down x t d) = r.on t st d (omega arith) in
    let i : ℕ = cost x y (toward x (down x t d)) in
    let j : ℕ = work (inserted x y (toward x (down x t d))) (away x (down x t d)) in
    let under : TreeStands w c.levels.made.block (inserted x y (toward x (down x t d))) =
    a.looks.still.trees c.levels.made.block (inserted x y (toward x (down x t d))) (subst (λ (n : ℕ). TreeStands q c.levels.made.block (inserted x y (down x t n))) same (r.stands t st)) in
    let here : TreeStands w c.in_ok-node.node (down x t d) = a.stands t (registered_kept t g r.built st) in
    let first : HasMade i p q = subst (λ (n : ℕ). HasMade (cost x y (down x t n)) p q) same (r.made t st) in
    let cut = cut_then run r.went.run r.went.start (cut_made i (built_cut r.built) first) (still_cut a.looks.still) in
    let is : cost x y (down x t d) ≡ i + j = cost_level x y (down x t d) o in
    let most : cost x y (down x t d) ≤ cost x y t = cost_down x y t d on in
    let few : cost x y t ≤ height t + 3 = cost_low x y t it.search it.balanced in
    let s = a.steps in
    let n = c.in_ok-place.place.depth in
    let up = down_lower x t n (others_deep x n t (r.on t st)) in
    let geo = p.start.geometry in
    let levels = level_most (2 + lowest_steps geo) (raise_steps geo) (n - c.levels.depth) d n (height t) (omega (arith, low, same)) (omega (arith, low, same)) (omega (arith, up)) in
    builds_from c.from_residual-in_err-made-2.result c.from_residual-in_err-made-2.ensures.1
    (builds_cut Made j raise_steps {T = Made} {n = i + 0} {k = height t + 3} {a = climb_steps (n - c.levels.depth) n geo + 5 * d} _ (omega (arith, is, most, few)) (omega (arith, levels)) c.requires.working (went_on run r.went a.looks.went) (a.looks.latch ∙ r.latch) cut (spent_then (λ u. 5 * d) c.requires.working r.went a.looks.went r.spent (spent_call (5 * d) a.looks.went (omega (arith, s))))
    (record { went = e.builds.went; working = e.builds.working; latch = e.builds.latch; refused = refused_with Made (IsCut 3 w v) (IsCheapAt x c.in_ok-node.node c.levels.made.block w v) (IsCut j w v) _ (λ k one. cut_made j k (level_made x y c.in_ok-node.node c.levels.made.block (down x t d) o here under k.made one)) e.builds.refused e.cheap; spent = e.builds.spent; cause = e.builds.cause; died = e.builds.died; late = e.builds.late }))
