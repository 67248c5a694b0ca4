-- How many blocks a drop of a root tears down: of a tree that stood at the root at most the nodes that are gone.
use Rattle.std.proofs.Common.{◌≡◌, ◌≢◌, ℕ, zero, suc, ◌+◌, ◌≤◌, add-one, Bool, List, [], ◌∷◌, ◌++◌, append-nil, length, refl, sym, ap, ◌∙◌, subst, arith, inl, inr}
use Rattle.std.proofs.lemmas.List.Elements.{Contains-append_cases, Contains-append_left, Contains-append_right}
use Rattle.std.specs.{Prelude.{Ok, Err}, List.{All, Contains}}
use Rattle.shm_graph.specs.declared.{memo.Memo.Memo, spot.Spot.{Spot, TheVariants.{Body, Root}}}
use Rattle.shm_graph.specs.Events.{Event, Down, Free}
use Rattle.shm_plain.specs.{Calls.Did, Pools.{Pool, memo_of}}
use Rattle.shm_count.specs.{declared.answer.EraSpent.EraSpent, Roots.{member, root_word}}
use Rattle.shm_count.specs.Tear.Events.{InOrder, Visit, Walk, Walks, events_of, frees, frees_of}
use Rattle.shm_count.specs.Tear.Events.Walk.{Fell, Freed, Kept}
use Rattle.shm_count.proofs.TearWalks.{walk_stopped}
use Rattle.shm_ref.specs.{DropRoot.{Control.dropping, DropLeaves}, Proved.Leaving.frees-append, Lefts.RootEvents}
use Rattle.shm_ref.proofs.RefusedDrops.{spent_emptied}
use Rattle.shm_tree.specs.{Keeping.IsStill, Standing.{IsNode, TreeStands, weight, word_of}, Tearing.{HasTorn, IsGone}}
use Rattle.shm_tree.specs.{Trees.{Tree, Empty, Node}, Working.IsWorking}
use Rattle.shm_tree.proofs.{Alive.{IsOn, before}, Drops.{torn_gone, torn_loses}, Losses.lost_named}
use Rattle.shm_tree.proofs.{Nodes.{IsCalm, body_names, body_past, names}, Turns.did_then}

-- ---- sums

-- of what the two words of a node have, that from word n on
abbrev from_word : ℕ → ℕ → ℕ → ℕ
from_word a b zero = a + b
from_word a b (suc zero) = b
from_word a b (suc (suc n)) = 0

kept_less : (a b n i : ℕ) → n ≤ i → from_word a b (i + 1) ≤ from_word a b n
kept_less a b zero zero l = omega arith
kept_less a b (suc n) zero l = absurd (omega arith)
kept_less a b n (suc j) l = rw (add-one (suc j)) (omega arith)

fell_first : (a b n : ℕ) → n ≤ 0 → a + from_word a b (0 + 1) ≤ from_word a b n
fell_first a b zero l = omega arith
fell_first a b (suc n) l = absurd (omega arith)

fell_second : (a b n : ℕ) → n ≤ 1 → b + from_word a b (1 + 1) ≤ from_word a b n
fell_second a b zero l = omega arith
fell_second a b (suc zero) l = omega arith
fell_second a b (suc (suc n)) l = absurd (omega arith)

-- ---- a walk over a tree

module _ (p : Pool) (calm : IsCalm p) (f : ℕ → ℕ) (es : List Event) (named : (s : Spot) (t : ℕ) → Contains es (Down 0 s t) → (names p s ≡ t) × (t ≢ 0)) (gone : (b : ℕ) → Contains es (Free 0 b) → f b ≡ 1) where
  -- what the nodes of a tree weigh but for those that its first n words name
  abbrev tree_from : ℕ → ℕ → Tree → ℕ
  tree_from n b Empty = 0
  tree_from n b (Node k m l r) = f b + from_word (weight f p (word_of p (Body b 0)) l) (weight f p (word_of p (Body b 1)) r) n

  tree_whole : (b : ℕ) (t : Tree) → tree_from 0 b t ≤ weight f p b t
  tree_whole b Empty = omega arith
  tree_whole b (Node k m l r) = omega arith

  -- by which word it is that named a block that fell
  fell_by : (i b t n c : ℕ) (k m h : ℕ) (l r : Tree) → IsNode p b k m h → TreeStands p (word_of p (Body b 0)) l → TreeStands p (word_of p (Body b 1)) r → (names p (Body b i) ≡ t) × (t ≢ 0) → n ≤ i → ((u : Tree) → TreeStands p t u → c ≤ weight f p t u)
      → c + from_word (weight f p (word_of p (Body b 0)) l) (weight f p (word_of p (Body b 1)) r) (i + 1) ≤ from_word (weight f p (word_of p (Body b 0)) l) (weight f p (word_of p (Body b 1)) r) n
  fell_by zero b t n c k m h l r node left right (is, some) low most =
      let two = node.refs in
      let e : t ≡ word_of p (Body b 0) = sym is ∙ body_names p calm b 0 node.live (omega (arith, two)) in
      let few : c ≤ weight f p (word_of p (Body b 0)) l = subst (λ z. (u : Tree) → TreeStands p z u → c ≤ weight f p z u) e most l left in
      let sum = fell_first (weight f p (word_of p (Body b 0)) l) (weight f p (word_of p (Body b 1)) r) n low in
      omega (arith, few, sum)
  fell_by (suc zero) b t n c k m h l r node left right (is, some) low most =
      let two = node.refs in
      let e : t ≡ word_of p (Body b 1) = sym is ∙ body_names p calm b 1 node.live (omega (arith, two)) in
      let few : c ≤ weight f p (word_of p (Body b 1)) r = subst (λ z. (u : Tree) → TreeStands p z u → c ≤ weight f p z u) e most r right in
      let sum = fell_second (weight f p (word_of p (Body b 0)) l) (weight f p (word_of p (Body b 1)) r) n low in
      omega (arith, few, sum)
  fell_by (suc (suc j)) b t n c k m h l r node left right (is, some) low most =
      let two = node.refs in
      absurd (some (sym is ∙ body_past p calm b (suc (suc j)) node.live (omega (arith, two))))

  -- a walk over a tree frees at most what weighs in it
  walk_weighs : (x : Walk) (n b : ℕ) (t : Tree) → TreeStands p b t → b ≢ 0 → InOrder n x → ((e : Event) → Contains (events_of 0 b x) e → Contains es e) → frees (events_of 0 b x) ≤ tree_from n b t
  walk_weighs Freed n b Empty y some o among = absurd (some y)
  walk_weighs Freed n b (Node k m l r) y some o among =
      let one = gone b (among (Free 0 b) (0, omega arith, refl)) in
      omega (arith, one)
  walk_weighs (Kept i t rest) n b Empty y some o among = absurd (some y)
  walk_weighs (Kept i t rest) n b (Node k m l r) y some o among =
      let more = walk_weighs rest (i + 1) b (Node k m l r) y some o.1 (λ e c. among e (Contains-append_right (Down 0 (Body b i) t ∷ []) (events_of 0 b rest) e c)) in
      let less = kept_less (weight f p (word_of p (Body b 0)) l) (weight f p (word_of p (Body b 1)) r) n i o.0 in
      omega (arith, more, less)
  walk_weighs (Fell i t inner rest) n b Empty y some o among = absurd (some y)
  walk_weighs (Fell i t inner rest) n b (Node k m l r) y some o among =
      let xs : List Event = events_of 0 t inner in
      let ys : List Event = events_of 0 b rest in
      let first : List Event = Down 0 (Body b i) t ∷ [] in
      let is = named (Body b i) t (among (Down 0 (Body b i) t) (0, omega arith, refl)) in
      let most : (u : Tree) → TreeStands p t u → frees xs ≤ weight f p t u = λ u z. (let v = walk_weighs inner 0 t u z is.1 o.1 (λ e c. among e (Contains-append_right first (xs ++ ys) e (Contains-append_left xs ys e c))) in let w = tree_whole t u in omega (arith, v, w)) in
      let more = walk_weighs rest (i + 1) b (Node k m l r) y some o.2 (λ e c. among e (Contains-append_right first (xs ++ ys) e (Contains-append_right xs ys e c))) in
      let sum = fell_by i b t n (frees xs) k m _ l r y.0 y.1 y.2 is o.0 most in
      let both = frees-append xs ys in
      omega (arith, more, sum, both)

-- ---- a drop

frees_left : (vs : List Visit) → frees (frees_of 0 vs) ≡ length vs
frees_left [] = refl
frees_left (v ∷ vs) = let e = frees_left vs in omega (arith, e)

module _ (p q : Pool) (es : List Event) (on : IsOn p q es) (k x : ℕ) (ds : List Event) (vs : List Visit) (told : es ≡ Down 0 (Root 0 k) x ∷ ds) (left : All (λ (v : Visit). Contains (memo_of q 0).dying v.block) vs) where
  -- blocks were torn down from x on
  walked : (walk : Walks 0 x ds vs) (f : ℕ → ℕ) (t : Tree) → TreeStands p x t → x ≢ 0 → ((b : ℕ) → IsGone q b → f b ≡ 1) → frees ds + length vs ≤ weight f p x t
  walked walk f t y some all =
      let (z, order, is) = walk_stopped 0 x ds vs walk in
      let whole : List Event = ds ++ frees_of 0 vs in
      let named : (s : Spot) (u : ℕ) → Contains whole (Down 0 s u) → (names p s ≡ u) × (u ≢ 0) = λ s u c. lost_named p q (Down 0 (Root 0 k) x ∷ ds) on.working.run on.run on.start (subst (Did 0 p q) told on.did) (torn_loses p q es on k x ds vs told (inr walk) left) s u (Contains-append_right (Down 0 (Root 0 k) x ∷ []) ds (Down 0 s u) (only ds vs s u c)) in
      let weighs = walk_weighs p (before p q es on) f whole named (λ b c. all b (torn_gone p q es on k x ds vs told (inr walk) left b c)) z 0 x t y some order (λ e c. subst (λ us. Contains us e) (sym is) c) in
      let sum = frees-append ds (frees_of 0 vs) in
      let same = ap frees is in
      let n = frees_left vs in
      let w = tree_whole p (before p q es on) f whole named (λ b c. all b (torn_gone p q es on k x ds vs told (inr walk) left b c)) x t in
      omega (arith, weighs, sum, same, n, w)
    where
      none : (us : List Visit) (s : Spot) (u : ℕ) → Contains (frees_of 0 us) (Down 0 s u) → ⊥
      none [] s u c = let l = c.1 in omega arith
      none (v ∷ us) s u c = elim (Contains-append_cases (Free 0 v.block ∷ []) (frees_of 0 us) (Down 0 s u) c) [
        | inl h ↦ head h
        | inr h ↦ none us s u h
      ]
        where
          head : Contains (Free 0 v.block ∷ []) (Down 0 s u) → ⊥
          head (zero, l, e) = cc
          head (suc j, l, e) = omega arith

      only : (xs : List Event) (us : List Visit) (s : Spot) (u : ℕ) → Contains (xs ++ frees_of 0 us) (Down 0 s u) → Contains xs (Down 0 s u)
      only xs us s u c = elim (Contains-append_cases xs (frees_of 0 us) (Down 0 s u) c) [
        | inl h ↦ h
        | inr h ↦ absurd (none us s u h)
      ]

module _ (p q : Pool) (es : List Event) (on : IsOn p q es) (k : ℕ) where
  abbrev r0 : Memo
  r0 = memo_of p 0

  abbrev r : Memo
  r = memo_of q 0

  -- it was done
  pub done_torn : (z : Bool) → DropLeaves (dropping (member p.start.geometry 0) k) r0 r r.call es (Ok z) → HasTorn k (frees es) p q
  done_torn z h =
      record {
        told = es;
        did = on.did;
        left = [];
        dying = λ i d l. absurd (omega arith);
        many = omega arith;
        nodes = λ f t y all. by f t all (root_word 0 r0 k) h.events y;
      }
    where
      by : (f : ℕ → ℕ) (t : Tree) → ((b : ℕ) → IsGone q b → f b ≡ 1) → (x : ℕ) → RootEvents 0 k x es → TreeStands p x t → frees es ≤ weight f p x t
      by f t all zero none y = let e = ap frees none in omega (arith, e)
      by f t all (suc x) (ds, told, inl none) y = let e = ap frees told in let d = ap frees none in omega (arith, e, d)
      by f t all (suc x) (ds, told, inr walk) y =
          let e = ap frees told in
          let w = walked p q es on k (suc x) ds [] told (λ i d l. absurd (omega arith)) walk f t y (λ n. cc) all in
          omega (arith, e, w)

  -- it was refused in what followed
  pub stopped_torn : (e : EraSpent) (h : DropLeaves (dropping (member p.start.geometry 0) k) r0 r r.call es (Err e)) → root_word 0 r k ≡ 0 → root_word 0 r0 k ≢ 0 → HasTorn k (frees es + length h.0) p q
  stopped_torn e h empty some =
      let t = spent_emptied 0 k r0 r es e.era h.0 h.1.at empty in
      record {
        told = es;
        did = on.did;
        left = h.0;
        dying = h.1.stopped.left;
        many = refl;
        nodes = λ f u y all. (let w = walked p q es on k (root_word 0 r0 k) t.0 h.0 t.1 h.1.stopped.left t.2 f u y some all in let e = ap frees t.1 in omega (arith, e, w));
      }

-- and what was torn down is what it was where nothing was done then
pub torn_then : (k n : ℕ) (p m q : Pool) → IsWorking p → IsWorking m → m.start ≡ p.start → HasTorn k n p m → Did 0 m q [] → IsStill m q → HasTorn k n p q
torn_then k n p m q hp hm start h quiet s =
    record {
      told = h.told;
      did = subst (Did 0 p q) (append-nil h.told) (did_then 0 p m q h.told [] hp.run hm.run start h.did quiet);
      left = h.left;
      dying = subst (λ (ds : List ℕ). All (λ (v : Visit). Contains ds v.block) h.left) (sym s.dying) h.dying;
      many = h.many;
      nodes = λ f t y all. h.nodes f t y (λ b g. all b (still_gone b g));
    }
  where
    still_gone : (b : ℕ) → IsGone m b → IsGone q b
    still_gone b (inl dead) = inl (s.lives b ∙ dead)
    still_gone b (inr d) = inr (subst (λ (ds : List ℕ). Contains ds b) (sym s.dying) d)
