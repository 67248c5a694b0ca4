-- References that fall: which events keep them so, and how a block of no reference gets a higher rank.
use Rattle.std.proofs.Common.{◌≡◌, ◌≢◌, ◌==◌, ℕ, ◌+◌, ◌^◌, ◌<◌, ◌≤◌, true, cond, List, [], ◌∷◌, refl, sym, ap, ◌∙◌, subst, arith, inl, inr, nat_lt}
use Rattle.std.proofs.lemmas.Bool.{cases_Bool, cases_eq, cond-false, cond-true, eq-eqb, ltb-true, ne_eqb}
use Rattle.std.specs.List.{AllByRecursion}
use Rattle.shm_words.specs.{declared.geometry.Geometry.Geometry, Tags.tag_refs}
use Rattle.shm_graph.specs.declared.spot.Spot.{Spot, TheVariants.{Body, Home, Root, Tag}}
use Rattle.shm_graph.specs.Events.{Event, Nothing, Alloc, Up, Down, ChangeUp, ChangeDown, Free, Graph, Happens, graph_of}
use Rattle.shm_graph.specs.{References.words_of, Spots.{same_spot, see}, Views.targets}
use Rattle.shm_graph.proofs.{Spots.Spotting.same_spot_is, States.Holders.held_live_not_zero}
use Rattle.shm_plain.specs.{Calls.Did, Pools.{IsRun, Pool}}
use Rattle.shm_tree.specs.{Falling.{AreFalling, KeepsFalling}, Keeping.is_live, Living.AreLivesTrees}
use Rattle.shm_tree.specs.{Standing.{TreeStands, word_of}, Trees.{Tree, Empty, Node, height}, Working.IsWorking}
use Rattle.shm_tree.proofs.Links.{stands_low}
use Rattle.shm_tree.proofs.Nodes.{IsCalm, body_names, calm_held, from_started, home_names, names, working_calm}
use Rattle.shm_tree.proofs.Turns.{StepsKeep, did_keeps}

-- ---- words of blocks

-- a word of a block that names one is a reference word of a live block
pub body_inside : (p : Pool) (d i : ℕ) → names p (Body d i) ≢ 0 → (is_live p d ≡ true) × (i < tag_refs p.start.geometry.wide (word_of p (Tag d)))
body_inside p d i some = (live, (let whole : refs ≡ tag_refs p.start.geometry.wide (word_of p (Tag d)) = cond-true (is_live p d) _ 0 live in let l = inside in omega (arith, l, whole)))
  where
    refs : ℕ
    refs = (words_of p.start.geometry.wide (see p.start.geometry p.words)).refs d

    inside : i < refs
    inside = elim (cases_Bool (nat_lt i refs)) [
      | inl y ↦ ltb-true i refs y
      | inr y ↦ absurd (some (cond-false (nat_lt i refs) _ 0 y))
    ]

    live : is_live p d ≡ true
    live = elim (cases_Bool (is_live p d)) [
      | inl y ↦ y
      | inr y ↦ (let none : refs ≡ 0 = cond-false (is_live p d) _ 0 y in let l = inside in absurd (omega (arith, l, none)))
    ]

-- ---- trees

-- where a tree stands at each live block, references go from higher nodes to lower ones
pub lives_fall : (p : Pool) → IsWorking p → AreLivesTrees p → word_of p (Home 0) ≡ 0 → AreFalling p
lives_fall p work trees home =
    record {
      home = home_names p (working_calm p work) ∙ home;
      rank = λ b. word_of p (Body b 4);
      most = 2 ^ 24;
      falls = λ d i some. let x = body_inside p d i some in let u = trees d x.0 in below d i u.0 u.1 x.0 x.1 some;
    }
  where
    calm : IsCalm p
    calm = working_calm p work

    rank_is : (b : ℕ) (t : Tree) → b ≢ 0 → TreeStands p b t → word_of p (Body b 4) ≡ height t
    rank_is b Empty some st = absurd (some st)
    rank_is b (Node k n l r) some st = st.0.height

    child_rank : (b c : ℕ) (t : Tree) → b ≢ 0 → b ≡ c → TreeStands p c t → word_of p (Body b 4) ≡ height t
    child_rank b c t some e st = rank_is b t some (subst (λ (z : ℕ). TreeStands p z t) (sym e) st)

    below : (d i : ℕ) (u : Tree) → TreeStands p d u → is_live p d ≡ true → i < tag_refs p.start.geometry.wide (word_of p (Tag d)) → names p (Body d i) ≢ 0 → (word_of p (Body (names p (Body d i)) 4) < word_of p (Body d 4)) × (word_of p (Body d 4) ≤ 2 ^ 24)
    below d i Empty st live low some = absurd (held_live_not_zero p.start.geometry _ _ (calm_held p calm) d live st)
    below d i (Node k n l r) st live low some =
        let here : word_of p (Body d 4) ≡ height (Node k n l r) = st.0.height in
        let small = stands_low p work (Node k n l r) d st in
        let is = body_names p calm d i live low in
        elim (cases_eq i 0) [
          | inl first ↦
              (let e : names p (Body d i) ≡ word_of p (Body d 0) = is ∙ ap (λ (j : ℕ). word_of p (Body d j)) first in
              let child = child_rank (names p (Body d i)) (word_of p (Body d 0)) l some e st.1 in
              (omega (arith, here, child), omega (arith, here, small)))
          | inr ne ↦
              (let two = st.0.refs in
              let second : i ≡ 1 = omega (arith, low, ne, two) in
              let e : names p (Body d i) ≡ word_of p (Body d 1) = is ∙ ap (λ (j : ℕ). word_of p (Body d j)) second in
              let child = child_rank (names p (Body d i)) (word_of p (Body d 1)) r some e st.2 in
              (omega (arith, here, child), omega (arith, here, small)))
        ]

-- ---- events

-- the home names nothing, and references of blocks fall by these ranks
abbrev Falls : (ℕ → ℕ) → ℕ → (Spot → ℕ) → Type 0
Falls r n t = (t (Home 0) ≡ 0) × ((d i : ℕ) → t (Body d i) ≢ 0 → (r (t (Body d i)) < r d) × (r d ≤ n))

-- a reference to b in this word falls; the home gets none
abbrev pub IsLower : (ℕ → ℕ) → ℕ → Spot → ℕ → Type 0
IsLower r n (Body d i) b = (r b < r d) × (r d ≤ n)
IsLower r n (Home c) b = ⊥
IsLower r n s b = Unit {0}

-- the reference that the event makes in a word, if any, is such a one
abbrev pub Ups : (Spot → ℕ → Type 0) → Event → Type 0
Ups P (Up c s b) = P s b
Ups P (ChangeUp c s a b) = P s b
Ups P e = Unit {0}

pub more_ups : (P Q : Spot → ℕ → Type 0) → ((s : Spot) (b : ℕ) → P s b → Q s b) → (es : List Event) → AllByRecursion (Ups P) es → AllByRecursion (Ups Q) es
more_ups P Q more [] all = tt
more_ups P Q more (e ∷ es) all = (one e all.0, more_ups P Q more es all.1)
  where
    one : (x : Event) → Ups P x → Ups Q x
    one (Up c s b) h = more s b h
    one (ChangeUp c s a b) h = more s b h
    one _ h = tt

-- the event makes only references that fall
abbrev pub OnlyFalls : (ℕ → ℕ) → ℕ → Event → Type 0
OnlyFalls r n = Ups (IsLower r n)

module _ (r : ℕ → ℕ) (n : ℕ) where
  same_falls : (t u : Spot → ℕ) → ((s : Spot) → u s ≡ t s) → Falls r n t → Falls r n u
  same_falls t u same h = (same (Home 0) ∙ h.0, λ d i some. subst (λ (x : ℕ). (r x < r d) × (r d ≤ n)) (sym (same (Body d i))) (h.1 d i (λ e. some (same (Body d i) ∙ e))))

  -- where one word got a reference
  set_falls : (t u : Spot → ℕ) (p : Spot) (x : ℕ) → ((s : Spot) → u s ≡ cond (same_spot p s) x (t s)) → IsLower r n p x → Falls r n t → Falls r n u
  set_falls t u p x set low h = (home, body)
    where
      home : u (Home 0) ≡ 0
      home = elim (cases_Bool (same_spot p (Home 0))) [
        | inl e ↦ absurd (subst (λ (s : Spot). IsLower r n s x) (same_spot_is p (Home 0) e) low)
        | inr e ↦ set (Home 0) ∙ (cond-false (same_spot p (Home 0)) x (t (Home 0)) e ∙ h.0)
      ]

      body : (d i : ℕ) → u (Body d i) ≢ 0 → (r (u (Body d i)) < r d) × (r d ≤ n)
      body d i some = elim (cases_Bool (same_spot p (Body d i))) [
        | inl e ↦
            (let is : u (Body d i) ≡ x = set (Body d i) ∙ cond-true (same_spot p (Body d i)) x (t (Body d i)) e in
            subst (λ (y : ℕ). (r y < r d) × (r d ≤ n)) (sym is) (subst (λ (s : Spot). IsLower r n s x) (same_spot_is p (Body d i) e) low))
        | inr e ↦
            (let is : u (Body d i) ≡ t (Body d i) = set (Body d i) ∙ cond-false (same_spot p (Body d i)) x (t (Body d i)) e in
            subst (λ (y : ℕ). (r y < r d) × (r d ≤ n)) (sym is) (h.1 d i (λ none. some (is ∙ none))))
      ]

  -- where one lost its reference
  lost_falls : (t u : Spot → ℕ) (p : Spot) → ((s : Spot) → u s ≡ cond (same_spot p s) 0 (t s)) → Falls r n t → Falls r n u
  lost_falls t u p set h = (home, body)
    where
      home : u (Home 0) ≡ 0
      home = elim (cases_Bool (same_spot p (Home 0))) [
        | inl e ↦ set (Home 0) ∙ cond-true (same_spot p (Home 0)) 0 (t (Home 0)) e
        | inr e ↦ set (Home 0) ∙ (cond-false (same_spot p (Home 0)) 0 (t (Home 0)) e ∙ h.0)
      ]

      body : (d i : ℕ) → u (Body d i) ≢ 0 → (r (u (Body d i)) < r d) × (r d ≤ n)
      body d i some = elim (cases_Bool (same_spot p (Body d i))) [
        | inl e ↦ absurd (some (set (Body d i) ∙ cond-true (same_spot p (Body d i)) 0 (t (Body d i)) e))
        | inr e ↦
            (let is : u (Body d i) ≡ t (Body d i) = set (Body d i) ∙ cond-false (same_spot p (Body d i)) 0 (t (Body d i)) e in
            subst (λ (y : ℕ). (r y < r d) × (r d ≤ n)) (sym is) (h.1 d i (λ none. some (is ∙ none))))
      ]

  event_falls : (g : Geometry) (w : Spot → ℕ) (a b : Graph) (e : Event) → Happens g w e a b → OnlyFalls r n e → Falls r n a.target → Falls r n b.target
  event_falls g w a b Nothing h good f = same_falls a.target b.target h.targets f
  event_falls g w a b (Alloc c k x) h good f = set_falls a.target b.target (Root c k) x h.3.2.targets tt f
  event_falls g w a b (Up c p x) h good f = set_falls a.target b.target p x h.2.targets good f
  event_falls g w a b (Down c p x) h good f = lost_falls a.target b.target p h.2.targets f
  event_falls g w a b (ChangeUp c p x y) h good f = set_falls a.target b.target p y h.4.targets good f
  event_falls g w a b (ChangeDown c x) h good f = same_falls a.target b.target h.2.targets f
  event_falls g w a b (Free c x) h good f = same_falls a.target b.target h.4.targets f

  falls_kept : (g : Geometry) (c : ℕ) → StepsKeep g c (OnlyFalls r n) (λ w v. Falls r n (targets g w v))
  falls_kept g c w w' v v' a p e who h step words good is = event_falls g w (graph_of g w v) (graph_of g w' v') e step.event good is

-- Turns of the client whose events make only references that fall leave references that fall
pub falling_kept : (p q : Pool) (es : List Event) → IsRun p → IsRun q → q.start ≡ p.start → Did 0 p q es → (h : AreFalling p) → AllByRecursion (OnlyFalls h.rank h.most) es → AreFalling q
falling_kept p q es hp hq start did h all =
    let f : Falls h.rank h.most (λ s. names q s) =
    from_started (λ z. Falls h.rank h.most (λ s. names z s)) p q start
    (did_keeps 0 p q es hp hq start did (OnlyFalls h.rank h.most) tt (λ w v. Falls h.rank h.most (targets p.start.geometry w v)) (falls_kept h.rank h.most p.start.geometry 0) all (h.home, h.falls)) in
    record { home = f.0; rank = h.rank; most = h.most; falls = f.1 }

pub still_falling : {p q : Pool} → KeepsFalling p q → AreFalling p → AreFalling q
unfolding KeepsFalling
still_falling k h = k h

-- ---- ranks

-- the ranks, but for that of a block
abbrev rank_by : (ℕ → ℕ) → ℕ → ℕ → ℕ → ℕ
rank_by r d top x = cond (x == d) top (r x)

-- a block that no word of a block names may have a rank above that of another block
pub raised : (p : Pool) (h : AreFalling p) (d t : ℕ) → ((e j : ℕ) → names p (Body e j) ≢ d) → t ≢ d → (x : AreFalling p) × (x.rank t < x.rank d) × (x.rank d ≤ x.most)
raised p h d t unnamed other = (record { home = h.home; rank = rank_by h.rank d (1 + h.most + h.rank t); most = 1 + h.most + h.rank t; falls = falls }, (let a = there in let b = apart t other in omega (arith, a, b)), (let a = there in omega (arith, a)))
  where
    there : rank_by h.rank d (1 + h.most + h.rank t) d ≡ 1 + h.most + h.rank t
    there = cond-true (d == d) (1 + h.most + h.rank t) (h.rank d) (eq-eqb d d refl)

    apart : (x : ℕ) → x ≢ d → rank_by h.rank d (1 + h.most + h.rank t) x ≡ h.rank x
    apart x ne = cond-false (x == d) (1 + h.most + h.rank t) (h.rank x) (ne_eqb x d ne)

    falls : (e j : ℕ) → names p (Body e j) ≢ 0 → (rank_by h.rank d (1 + h.most + h.rank t) (names p (Body e j)) < rank_by h.rank d (1 + h.most + h.rank t) e) × (rank_by h.rank d (1 + h.most + h.rank t) e ≤ 1 + h.most + h.rank t)
    falls e j some =
        let y = h.falls e j some in
        let low = apart (names p (Body e j)) (unnamed e j) in
        let a = y.0 in
        let b = y.1 in
        elim (cases_eq e d) [
          | inl is ↦ (let up : rank_by h.rank d (1 + h.most + h.rank t) e ≡ 1 + h.most + h.rank t = ap (rank_by h.rank d (1 + h.most + h.rank t)) is ∙ there in (omega (arith, low, a, b, up), omega (arith, up)))
          | inr ne ↦ (let same = apart e ne in (omega (arith, low, a, same), omega (arith, same, b)))
        ]
