-- What a drop of a root leaves.
use Rattle.std.proofs.Common.{◌≡◌, ◌≢◌, ◌==◌, ℕ, zero, suc, ◌-◌, ◌^◌, ◌<◌, ◌≤◌, Bool, true, false, List, [], ◌∷◌, ◌++◌, ◌||◌, ◌&&◌, length, ◌+◌, refl, sym, ap, ◌∙◌, subst, arith, inl, inr, ◌⊎◌, true≢false}
use Rattle.std.proofs.lemmas.Bool.{cases_Bool, cases_eq, eq-eqb, ne_eqb, false≢true}
use Rattle.std.proofs.lemmas.List.Elements.{All-contains, Contains-append_cases, Contains-append_left, Contains-append_right}
use Rattle.std.specs.{Prelude.{Result, Ok, Err}, List.{All, AllByRecursion, Contains, filter}}
use Rattle.shm_graph.specs.declared.{ask.Me.Me, memo.Memo.Memo, spot.Spot.{Spot, TheVariants.{Body, Era, Home, Root}}}
use Rattle.shm_graph.specs.{Asks.{IsWithin, Trail}, Bounds.{redo_steps, tear_steps}, Blocks.headers}
use Rattle.shm_graph.specs.{Events.{Event, Alloc, ChangeDown, ChangeUp, Down, Free, Nothing, Up}, Views.own_word}
use Rattle.shm_graph.proofs.States.Holders.{target_counted}
use Rattle.shm_plain.specs.{Calls.Did, Pools.{Pool, memo_of}}
use Rattle.shm_count.specs.{declared.answer.EraSpent.EraSpent, Roots.{member, root_word}}
use Rattle.shm_count.specs.Tear.Events.{IsTearing, Visit, Walks, frees_of, frees as freed}
use Rattle.shm_count.proofs.TearWalks.{done_tears, walk_stopped}
use Rattle.shm_ref.specs.{DropRoot.{Control.dropping, DropLeaves}, Lefts.RootEvents}
use Rattle.shm_ref.proofs.RootKeeps.{drop_emptied, drop_queues, drop_roots}
use Rattle.shm_ref.proofs.RefusedDrops.{spent_either, spent_emptied, spent_kept}
use Rattle.shm_tree.specs.Keeping.{IsDropped, IsStill, KeepsNode, is_alloc, is_live, made_in}
use Rattle.shm_tree.specs.{Standing.{IsNode, TreeStands, word_of}, Tearing.IsGone, Trees.{Tree, Empty, Node}}
use Rattle.shm_tree.specs.Working.{AreSameRoots, IsEmptied, IsSameLatch, IsSpent, IsWorking, Reaches}
use Rattle.shm_tree.proofs.Alive.{IsHomeless, IsOn, after, before, homeless_is, homeless_none, still, works, works_so}
use Rattle.shm_tree.proofs.{Firsts.{freed_dead, frees_any}, Frames.{Unfreed, Unmade, UntouchedBy, dead_kept, frees}}
use Rattle.shm_tree.proofs.Losses.{Loses}
use Rattle.shm_tree.proofs.Nodes.{body_names, calm_first, calm_held, from_started, keeps_then, made_then, names, node_kept, root_is, root_names}
use Rattle.shm_tree.proofs.{Shares.{queues_quiet, untouched_reaches, untouched_roots}, Turns.did_keeps}

-- ---- lists of events

pub each : {X : Type 0} (P : X → Type 0) (xs : List X) → ((x : X) → Contains xs x → P x) → AllByRecursion P xs
each P [] h = tt
each P (x ∷ xs) h = (h x (0, omega arith, refl), each P xs (λ y c. h y (Contains-append_right (x ∷ []) xs y c)))

-- a block that isn't freed by any isn't by each
unfreed : (b : ℕ) (es : List Event) → frees_any b es ≡ false → AllByRecursion (Unfreed b) es
unfreed b [] e = tt
unfreed b (x ∷ es) e =
    elim (cases_Bool (frees x b)) [
      | inl s ↦ absurd (true≢false (sym (ap (λ y. y || frees_any b es) s) ∙ e))
      | inr s ↦ (s, unfreed b es (sym (ap (λ y. y || frees_any b es) s) ∙ e))
    ]

-- and one that a freeing of which is among them is
freed_any : (b c : ℕ) (es : List Event) → Contains es (Free c b) → frees_any b es ≡ true
freed_any b c [] h = absurd (let l = h.1 in omega arith)
freed_any b c (x ∷ es) h =
    elim (Contains-append_cases (x ∷ []) es (Free c b) h) [
      | inl y ↦ ap (λ z. z || frees_any b es) (ap (λ z. frees z b) (only y) ∙ eq-eqb b b refl)
      | inr y ↦ later (frees x b) (freed_any b c es y)
    ]
  where
    only : Contains (x ∷ []) (Free c b) → x ≡ Free c b
    only (zero, l, e) = e
    only (suc k, l, e) = absurd (omega arith)

    later : (z : Bool) → frees_any b es ≡ true → (z || frees_any b es) ≡ true
    later true e = refl
    later false e = e

-- ---- a root that named a block, and what was torn down

module _ (p q : Pool) (es : List Event) (on : IsOn p q es) (k x : ℕ) (ds : List Event) (vs : List Visit) (told : es ≡ Down 0 (Root 0 k) x ∷ ds) (walk : (ds ≡ []) ⊎ Walks 0 x ds vs) (left : All (λ (v : Visit). Contains (memo_of q 0).dying v.block) vs) where
  abbrev es' : List Event
  es' = Down 0 (Root 0 k) x ∷ ds

  did' : Did 0 p q es'
  did' = subst (Did 0 p q) told on.did

  -- each event of the tear-down takes a reference out of a block that is freed or left, or frees one

  torn_each : AllByRecursion (λ e. IsTearing 0 x (ds ++ frees_of 0 vs) e) ds
  torn_each =
      elim walk [
        | inl none ↦ subst (AllByRecursion (λ e. IsTearing 0 x (ds ++ frees_of 0 vs) e)) (sym none) tt
        | inr w ↦ each (λ e. IsTearing 0 x (ds ++ frees_of 0 vs) e) ds
            (λ e c. All-contains (IsTearing 0 x (ds ++ frees_of 0 vs)) (ds ++ frees_of 0 vs) e (done_tears 0 x (ds ++ frees_of 0 vs) (walk_stopped 0 x ds vs w)) (Contains-append_left ds (frees_of 0 vs) e c))
      ]

  -- no block is made
  torn_unmade : (b : ℕ) (e : Event) → IsTearing 0 x (ds ++ frees_of 0 vs) e → Unmade b e
  torn_unmade b (Down c (Body d i) t) h = refl
  torn_unmade b (Free c d) h = refl
  torn_unmade b _ h = absurd h

  all_unmade : (b : ℕ) → AllByRecursion (Unmade b) es'
  all_unmade b = (refl, weaken ds torn_each)
    where
      weaken : (xs : List Event) → AllByRecursion (λ e. IsTearing 0 x (ds ++ frees_of 0 vs) e) xs → AllByRecursion (Unmade b) xs
      weaken [] all = tt
      weaken (e ∷ xs) all = (torn_unmade b e all.0, weaken xs all.1)

  -- what is live in the end was so
  lives_back : (b : ℕ) → is_live q b ≡ true → is_live p b ≡ true
  lives_back b live =
      elim (cases_Bool (is_live p b)) [
        | inl e ↦ e
        | inr e ↦ absurd (false≢true (sym (from_started (λ z. is_live z b ≡ false) p q on.start (did_keeps 0 p q es' on.working.run on.run on.start did' (Unmade b) refl (λ w v. (headers w b).live ≡ false) (dead_kept p.start.geometry 0 b) (all_unmade b) e)) ∙ live))
      ]

  -- and wasn't freed
  not_freed : (b : ℕ) → is_live q b ≡ true → frees_any b es' ≡ false
  not_freed b live =
      elim (cases_Bool (frees_any b es')) [
        | inr e ↦ e
        | inl e ↦ absurd (false≢true (sym (from_started (λ z. is_live z b ≡ false) p q on.start (freed_dead 0 p q es' on.working.run on.run on.start did' b (all_unmade b) e)) ∙ live))
      ]

  -- a block whose freeing is told in the end is left as a zero-count block
  left_dying : (b : ℕ) (ws : List Visit) → All (λ (v : Visit). Contains (memo_of q 0).dying v.block) ws → Contains (frees_of 0 ws) (Free 0 b) → Contains (memo_of q 0).dying b
  left_dying b [] all h = absurd (let l = h.1 in omega arith)
  left_dying b (v ∷ ws) all h =
      elim (Contains-append_cases (Free 0 v.block ∷ []) (frees_of 0 ws) (Free 0 b) h) [
        | inl y ↦ subst (Contains (memo_of q 0).dying) (block_of (only y)) (all 0 v (omega arith))
        | inr y ↦ left_dying b ws (λ i d l. all (suc i) d (omega arith)) y
      ]
    where
      only : Contains (Free 0 v.block ∷ []) (Free 0 b) → Free 0 v.block ≡ Free 0 b
      only (zero, l, e) = e
      only (suc i, l, e) = absurd (omega arith)

      block_of : Free 0 v.block ≡ Free 0 b → v.block ≡ b
      block_of e = ap freed e
        where
          freed : Event → ℕ
          freed (Free c d) = d
          freed e = 0

  -- what was freed isn't live any more, and what was left is a zero-count block
  pub torn_gone : (b : ℕ) → Contains (ds ++ frees_of 0 vs) (Free 0 b) → IsGone q b
  torn_gone b y =
      elim (Contains-append_cases ds (frees_of 0 vs) (Free 0 b) y) [
        | inl z ↦ inl (from_started (λ u. is_live u b ≡ false) p q on.start (freed_dead 0 p q es' on.working.run on.run on.start did' b (all_unmade b) (freed_any b 0 es' (Contains-append_right (Down 0 (Root 0 k) x ∷ []) ds (Free 0 b) z))))
        | inr z ↦ inr (left_dying b vs left z)
      ]

  -- references are lost and blocks are freed, and nothing else
  torn_loss : (e : Event) → IsTearing 0 x (ds ++ frees_of 0 vs) e → Loses e
  torn_loss (Down c s t) h = tt
  torn_loss (Free c d) h = tt
  torn_loss _ h = absurd h

  pub torn_loses : AllByRecursion Loses es'
  torn_loses = (tt, weaken ds torn_each)
    where
      weaken : (xs : List Event) → AllByRecursion (λ e. IsTearing 0 x (ds ++ frees_of 0 vs) e) xs → AllByRecursion Loses xs
      weaken [] all = tt
      weaken (e ∷ xs) all = (torn_loss e all.0, weaken xs all.1)

  -- the home loses none
  torn_home : (e : Event) → IsTearing 0 x (ds ++ frees_of 0 vs) e → UntouchedBy (Home 0) e
  torn_home (Down c (Body d i) t) h = refl
  torn_home (Free c d) h = refl
  torn_home _ h = absurd h

  pub torn_homeless : IsHomeless es
  torn_homeless = homeless_is es es' told (refl, weaken ds torn_each)
    where
      weaken : (xs : List Event) → AllByRecursion (λ e. IsTearing 0 x (ds ++ frees_of 0 vs) e) xs → IsHomeless xs
      weaken [] all = tt
      weaken (e ∷ xs) all = (torn_home e all.0, weaken xs all.1)

  -- a block that is live and no zero-count block in the end lost no word
  untouched_by : (b i : ℕ) → is_live q b ≡ true → (Contains (memo_of q 0).dying b → ⊥) → (e : Event) → IsTearing 0 x (ds ++ frees_of 0 vs) e → UntouchedBy (Body b i) e
  untouched_by b i live counted (Free c d) h = refl
  untouched_by b i live counted (Down c (Body d j) t) h =
      elim (cases_eq d b) [
        | inr n ↦ ap (λ z. z && (j == i)) (ne_eqb d b n)
        | inl s ↦ absurd (gone (subst (λ y. Contains (ds ++ frees_of 0 vs) (Free 0 y)) s h.1))
      ]
    where
      gone : Contains (ds ++ frees_of 0 vs) (Free 0 b) → ⊥
      gone y =
          elim (Contains-append_cases ds (frees_of 0 vs) (Free 0 b) y) [
            | inl z ↦ true≢false (sym (freed_any b 0 ds z) ∙ not_freed b live)
            | inr z ↦ counted (left_dying b vs left z)
          ]
  untouched_by b i live counted _ h = absurd h

  untouched_all : (b i : ℕ) → is_live q b ≡ true → (Contains (memo_of q 0).dying b → ⊥) → AllByRecursion (UntouchedBy (Body b i)) es'
  untouched_all b i live counted = (refl, weaken ds torn_each)
    where
      weaken : (xs : List Event) → AllByRecursion (λ e. IsTearing 0 x (ds ++ frees_of 0 vs) e) xs → AllByRecursion (UntouchedBy (Body b i)) xs
      weaken [] all = tt
      weaken (e ∷ xs) all = (untouched_by b i live counted e all.0, weaken xs all.1)

  nodes_left : (b i n h : ℕ) → is_live q b ≡ true → (Contains (memo_of q 0).dying b → ⊥) → IsNode p b i n h → KeepsNode p q b i n h
  nodes_left b i n h live counted node =
      node_kept p q es' (before p q es on) (after p q es on) on.start did' b i n h
      (record { freed = unfreed b es' (not_freed b live); left = untouched_all b 0 live counted; right = untouched_all b 1 live counted }) node

  -- a block that is named in the end is live, and no zero-count block
  counted_left : (b : ℕ) (s : Spot) → b ≢ 0 → names q s ≡ b → (is_live q b ≡ true) × (Contains (memo_of q 0).dying b → ⊥)
  counted_left b s some e =
      let h = calm_held q (after p q es on) in
      let c = target_counted q.start.geometry _ _ h s b some e in
      (c.0, λ d. c.1 ((h.dying 0 (calm_first q (after p q es on))).listed b d).1)

  -- so a tree stands that a word names
  tree_left : (t : Tree) (b : ℕ) (s : Spot) → names q s ≡ b → TreeStands p b t → TreeStands q b t
  tree_left Empty b s e y = y
  tree_left (Node i n l r) b s e y =
      let c = counted_left b s y.0.some e in
      let kept = nodes_left b i n _ c.0 c.1 y.0 in
      let left : TreeStands p (word_of q (Body b 0)) l = subst (λ z. TreeStands p z l) (sym kept.left) y.1 in
      let right : TreeStands p (word_of q (Body b 1)) r = subst (λ z. TreeStands p z r) (sym kept.right) y.2 in
      let two = kept.node.refs in (
        kept.node,
        tree_left l (word_of q (Body b 0)) (Body b 0) (body_names q (after p q es on) b 0 kept.node.live (omega (arith, two))) left,
        tree_left r (word_of q (Body b 1)) (Body b 1) (body_names q (after p q es on) b 1 kept.node.live (omega (arith, two))) right,
      )

  no_alloc : (xs : List Event) → AllByRecursion (λ e. IsTearing 0 x (ds ++ frees_of 0 vs) e) xs → filter is_alloc xs ≡ []
  no_alloc [] all = refl
  no_alloc (Down c s t ∷ xs) all = no_alloc xs all.1
  no_alloc (Free c b ∷ xs) all = no_alloc xs all.1
  no_alloc (Nothing ∷ xs) all = absurd all.0
  no_alloc (Alloc c i b ∷ xs) all = absurd all.0
  no_alloc (Up c s b ∷ xs) all = absurd all.0
  no_alloc (ChangeUp c s a b ∷ xs) all = absurd all.0
  no_alloc (ChangeDown c a ∷ xs) all = absurd all.0

  pub torn_dropped : ((j : ℕ) → j ≢ k → root_word 0 (memo_of q 0) j ≡ root_word 0 (memo_of p 0) j) → IsDropped k p q
  torn_dropped roots =
      record {
        trees = λ j b t other low is y. tree_left t b (Root 0 j) (root_names q (after p q es on) j ∙ (sym (root_is q (after p q es on) j) ∙ (roots j other ∙ is))) y;
        lives = lives_back;
        nodes = nodes_left;
        made = (es', did', (let none : made_in es' ≡ 0 = ap length (no_alloc ds torn_each) in omega (arith, none)));
      }

-- where nothing was done
pub still_dropped : (k : ℕ) (p q : Pool) → IsStill p q → IsDropped k p q
still_dropped k p q s =
    record {
      trees = λ j b t other low is y. s.trees b t y;
      lives = λ b live. sym (s.lives b) ∙ live;
      nodes = λ b i n h live counted y. s.nodes b i n h y;
      made = s.made;
    }

-- and then nothing more
pub dropped_then : (k : ℕ) (p m q : Pool) → IsWorking p → IsWorking m → m.start ≡ p.start → IsDropped k p m → IsStill m q → IsDropped k p q
dropped_then k p m q hp hm start d s =
    record {
      trees = λ j b t other low is y. s.trees b t (d.trees j b t other low is y);
      lives = λ b live. d.lives b (sym (s.lives b) ∙ live);
      nodes = λ b i n h live counted y. keeps_then p m q b i n h (d.nodes b i n h (sym (s.lives b) ∙ live) (λ c. counted (subst (λ xs. Contains xs b) (sym s.dying) c)) y) s.nodes;
      made = made_then 0 0 p m q hp.run hm.run start d.made s.made;
    }

-- ---- by the answer

module _ (p q : Pool) (es : List Event) (on : IsOn p q es) (k : ℕ) where
  abbrev me : Me
  me = member p.start.geometry 0

  abbrev r0 : Memo
  r0 = memo_of p 0

  abbrev r : Memo
  r = memo_of q 0

  abbrev tr : Trail
  tr = r.call

  pub drop_latch : (a : Result Bool EraSpent) → DropLeaves (dropping me k) r0 r tr es a → IsSameLatch p q
  drop_latch a h = (drop_queues (dropping me k) r0 r tr es a h).latch

  drop_home : (a : Result Bool EraSpent) → DropLeaves (dropping me k) r0 r tr es a → IsHomeless es
  drop_home (Ok z) h = by (root_word 0 r0 k) h.events
    where
      by : (x : ℕ) → RootEvents 0 k x es → IsHomeless es
      by zero none = homeless_none es none
      by (suc x) (ds, told, walk) = torn_homeless p q es on k (suc x) ds [] told walk (λ i d l. absurd (omega arith))
  drop_home (Err e) h =
      elim (spent_either 0 k r0 r es e.era h.0 h.1.at) [
        | inl z ↦ homeless_none es z.1
        | inr z ↦ (let t = spent_emptied 0 k r0 r es e.era h.0 h.1.at z.0 in torn_homeless p q es on k (root_word 0 r0 k) t.0 h.0 t.1 (inr t.2) h.1.stopped.left)
      ]

  -- where it was refused the own era is spent
  pub drop_spent : (e : EraSpent) → DropLeaves (dropping me k) r0 r tr es (Err e) → IsSpent r
  drop_spent e h =
      let spent : 2 ^ 47 - 3 < e.era = h.1.stopped.spent in
      let most : e.era ≤ own_word r.own (Era 0 0) = h.1.most in
      omega (arith, spent, most)

  pub drop_works : (a : Result Bool EraSpent) → DropLeaves (dropping me k) r0 r tr es a → IsWorking q
  drop_works (Ok z) h = works p q es on (queues_quiet r0 r (drop_queues (dropping me k) r0 r tr es (Ok z) h)) (drop_home (Ok z) h) h.dying
  drop_works (Err e) h = works_so p q es on (queues_quiet r0 r (drop_queues (dropping me k) r0 r tr es (Err e) h)) (drop_home (Err e) h) (inr (drop_spent e h))

  pub drop_done : (z : Bool) → DropLeaves (dropping me k) r0 r tr es (Ok z) → IsEmptied k p q × IsDropped k p q
  drop_done z h = (record { root = drop_emptied (dropping me k) r0 r tr es (Ok z) h; others = roots }, by (root_word 0 r0 k) refl h.events)
    where
      roots : (j : ℕ) → j ≢ k → root_word 0 r j ≡ root_word 0 r0 j
      roots j n = drop_roots (dropping me k) r0 r tr es (Ok z) h j n

      all_roots : root_word 0 r0 k ≡ 0 → AreSameRoots p q
      all_roots e j =
          elim (cases_eq j k) [
            | inr n ↦ roots j n
            | inl s ↦ ap (root_word 0 r) s ∙ (drop_emptied (dropping me k) r0 r tr es (Ok z) h ∙ (sym e ∙ ap (root_word 0 r0) (sym s)))
          ]

      by : (x : ℕ) → root_word 0 r0 k ≡ x → RootEvents 0 k x es → IsDropped k p q
      by zero e none = still_dropped k p q (still p q es on none (all_roots e) h.dying)
      by (suc x) e (ds, told, walk) = torn_dropped p q es on k (suc x) ds [] told walk (λ i d l. absurd (omega arith)) roots

  -- it was refused in what followed
  pub drop_torn : (e : EraSpent) → DropLeaves (dropping me k) r0 r tr es (Err e) → root_word 0 r k ≡ 0 → IsEmptied k p q × IsDropped k p q
  drop_torn e h empty =
      let t = spent_emptied 0 k r0 r es e.era h.0 h.1.at empty in
      let roots : (j : ℕ) → j ≢ k → root_word 0 r j ≡ root_word 0 r0 j = λ j n. drop_roots (dropping me k) r0 r tr es (Err e) h j n in
      (record { root = empty; others = roots }, torn_dropped p q es on k (root_word 0 r0 k) t.0 h.0 t.1 (inr t.2) h.1.stopped.left roots)

  -- or before anything was done
  pub drop_kept : (e : EraSpent) → DropLeaves (dropping me k) r0 r tr es (Err e) → root_word 0 r k ≢ 0 → IsStill p q × Reaches p q
  drop_kept e h some =
      let t = spent_kept 0 k r0 r es e.era h.0 h.1.at some in
      (still p q es on t.3 (untouched_roots p q es on t.2) (ap (λ (x : Memo). x.dying) t.2.rest), untouched_reaches p q es on t.2)

  -- and then in few word steps
  pub kept_within : (e : EraSpent) → DropLeaves (dropping me k) r0 r tr es (Err e) → root_word 0 r k ≢ 0 → IsWithin (8 + redo_steps p.start.geometry.wide) tr
  kept_within e h some =
      elim (spent_either 0 k r0 r es e.era h.0 h.1.at) [
        | inl z ↦ few z.1 z.2
        | inr z ↦ absurd (some z.0)
      ]
    where
      most : IsWithin (8 + redo_steps p.start.geometry.wide + tear_steps p.start.geometry.wide (freed es + length h.0)) tr
      most = h.1.bound

      few : es ≡ [] → h.0 ≡ [] → IsWithin (8 + redo_steps p.start.geometry.wide) tr
      few none all =
          let a = ap freed none in
          let b = ap (λ (us : List Visit). length us) all in
          let z : freed es + length h.0 ≡ 0 = omega (arith, a, b) in
          let c : IsWithin (8 + redo_steps p.start.geometry.wide + tear_steps p.start.geometry.wide 0) tr = subst (λ n. IsWithin (8 + redo_steps p.start.geometry.wide + tear_steps p.start.geometry.wide n) tr) z most in
          omega (arith, c)
