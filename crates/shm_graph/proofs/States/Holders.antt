-- who holds a slot or a latch, and that a block that is named or in reach is live and counted
use Rattle.std.proofs.Common.{◌≡◌, ◌≢◌, ℕ, ◌+◌, ◌%◌, ◌<◌, refl, sym, ◌∙◌, arith, true, subst, inl, inr, ◌⊎◌, List, [], ◌∷◌, Option, Some}
use Rattle.std.proofs.lemmas.List.Elements.{All-nil, All-cons, All-contains}
use Rattle.std.specs.List.{All}
use Rattle.shm_words.specs.{declared.geometry.Geometry.Geometry, Headers.header_of, Tags.tag_author}
use Rattle.shm_words.proofs.Words.{live_not_zero}
use Rattle.shm_graph.specs.declared.spot.Spot.{Spot}
use Rattle.shm_graph.specs.declared.spot.Spot.TheVariants.{Spare, Home, Root, Tail, QueueHead, Slot, Head, Tag, Body}
use Rattle.shm_graph.specs.declared.memo.{Op.{Op, TheVariants.Nothing}, Look.Look}
use Rattle.shm_graph.specs.{Blocks.{classes, headers, IsBlock, IsLive}, Ops.{slot_of, is_op}}
use Rattle.shm_graph.specs.Views.{View, targets, held_overs}
use Rattle.shm_graph.specs.Held.{HeldAt, SlotOf, reach_of, named_by, InLooks, LookAt, LooksSound}
use Rattle.shm_graph.proofs.Spots.Spotting.{is_at_block, in_pool}
use Rattle.shm_graph.proofs.States.Counting.{has_place, target_not_spare, indegree_has, held_over_has}

-- c has the block in a word of its own, or read it from a word that still holds it
abbrev pub InReach : (Spot → ℕ) → Geometry → View → ℕ → ℕ → Type 0
InReach w g v c = reach_of (targets g w v) (λ s r. w (Tail s r)) (λ s r. w (QueueHead s r)) v.looks c

-- c may store this reference word
abbrev pub Holds : (Spot → ℕ) → Geometry → View → ℕ → Spot → Type 0
Holds w g v c = SlotOf g.wide c (λ b. header_of (w (Head b))) (λ b. w (Tag b)) (v.latch c) (λ s r. w (Tail s r)) (λ s r. w (QueueHead s r)) (InReach w g v c)

-- the slots of a queue that are less than 8 apart differ
pub apart_slots : (n m : ℕ) → n < m → m < n + 8 → n % 8 ≢ m % 8
apart_slots n m l k e = omega arith

-- what was read from a word is named by it
named_word : (t : Spot → ℕ) (author : ℕ → ℕ) (latch : Option ℕ) (reach : ℕ → Type 0) (p : Spot) (b : ℕ) → LookAt (λ a. t (Home a)) (λ b i. t (Body b i)) author latch reach p b → (b ≢ 0) × ((q : Spot) × (t q ≡ b))
named_word t author latch reach (Home a) b y = (y.0, (Home a, y.2))
named_word t author latch reach (Body d i) b y = (y.0, (Body d i, y.2))
named_word t author latch reach _ b y = absurd y

pub looks_targets : (t : Spot → ℕ) (author : ℕ → ℕ) (latch : Option ℕ) (named : ℕ → Type 0) (earlier looks : List Look) → LooksSound (λ a. t (Home a)) (λ b i. t (Body b i)) author latch named earlier looks → All (λ (k : Look). (k.block ≢ 0) × ((p : Spot) × (t p ≡ k.block))) looks
looks_targets t author latch named earlier [] x = All-nil (λ (k : Look). (k.block ≢ 0) × ((p : Spot) × (t p ≡ k.block)))
looks_targets t author latch named earlier (k ∷ ks) x =
    All-cons (λ (k : Look). (k.block ≢ 0) × ((p : Spot) × (t p ≡ k.block))) k ks
    (named_word t author latch (λ b. named b ⊎ InLooks earlier b) k.from k.block x.0)
    (looks_targets t author latch named (k ∷ earlier) ks x.1)

module _ (g : Geometry) (w : Spot → ℕ) (v : View) (h : HeldAt g w v) where
  -- ---- blocks

  -- a live block stands in the pool
  pub held_live_block : (b : ℕ) → IsLive (headers w) b → IsBlock g (classes w) b
  held_live_block b l = is_at_block g (classes w) b (h.there (Head b) (live_not_zero (w (Head b)) l))

  pub held_live_not_zero : (b : ℕ) → IsLive (headers w) b → b ≢ 0
  held_live_not_zero b l z = let q = in_pool g (classes w) b (Head b) (held_live_block b l) (λ e. cc) in absurd (omega arith)

  -- a block that a word names is live, and its count isn't 0
  pub target_counted : (p : Spot) (b : ℕ) → b ≢ 0 → targets g w v p ≡ b → IsLive (headers w) b × ((headers w b).count ≢ 0)
  target_counted p b nz e =
      let n : targets g w v p ≢ 0 = (λ z. nz (sym e ∙ z)) in
      let l : IsLive (headers w) b = subst (IsLive (headers w)) e (h.count.targets p n) in (
        l,
        λ z. let u = indegree_has g (classes w) (targets g w v) (held_overs v) p b (has_place g w v.op h.there h.op p n) (target_not_spare g.clients _ _ p n) e in
            let s = h.count.counts b l in absurd (omega arith),
      )

  -- and so is one that a change holds over between its halves
  pub held_over_counted : (c b : ℕ) → c < g.clients → b ≢ 0 → held_overs v c ≡ b → IsLive (headers w) b × ((headers w b).count ≢ 0)
  held_over_counted c b lc nz e =
      let l : IsLive (headers w) b = subst (IsLive (headers w)) e (h.count.held_overs c lc (λ z. nz (sym e ∙ z))) in
      (l, λ z. let u = held_over_has g (classes w) (targets g w v) (held_overs v) c b lc e in let s = h.count.counts b l in absurd (omega arith))

  -- a block in reach is named by a word
  pub reach_target : (c b : ℕ) → c < g.clients → InReach w g v c b → (b ≢ 0) × ((p : Spot) × (targets g w v p ≡ b))
  reach_target c b lc (inl (n, inl u)) = (n, (Root c u.0, u.1))
  reach_target c b lc (inl (n, inr (inl u))) = (n, (Home c, u))
  reach_target c b lc (inl (n, inr (inr u))) = (n, (Slot u.0 c (w (QueueHead u.0 c) % 8), u.2))
  reach_target c b lc (inr u) =
      let q = All-contains (λ (k : Look). (k.block ≢ 0) × ((p : Spot) × (targets g w v p ≡ k.block))) (v.looks c) u.0
      (looks_targets (targets g w v) (λ b. tag_author g.wide (w (Tag b))) (v.latch c) (named_by (targets g w v) (λ s r. w (Tail s r)) (λ s r. w (QueueHead s r)) c) [] (v.looks c) (h.looks c lc)) u.1 in
      (λ z. q.0 (u.2 ∙ z), (q.1.0, q.1.1 ∙ u.2))

  pub reach_counted : (c b : ℕ) → c < g.clients → InReach w g v c b → IsLive (headers w) b × ((headers w b).count ≢ 0)
  reach_counted c b lc r = let q = reach_target c b lc r in target_counted q.1.0 b q.0 q.1.1

  -- ---- holders

  -- a latch has one holder
  pub one_latch : (c d a : ℕ) → c < g.clients → d < g.clients → v.latch c ≡ Some a → v.latch d ≡ Some a → c ≡ d
  one_latch c d a lc ld x y = let z : c + 1 ≡ d + 1 = sym ((h.latch c lc).some a x).0 ∙ ((h.latch d ld).some a y).0 in omega arith

  -- and so has a slot
  pub one_holder : (c d : ℕ) (p : Spot) → c < g.clients → d < g.clients → Holds w g v c p → Holds w g v d p → c ≡ d
  one_holder c d (Root i j) lc ld x y = sym x ∙ y
  one_holder c d (Home i) lc ld x y = sym x ∙ y
  one_holder c d (Slot s r k) lc ld x y = both x.1 y.1
    where
      Ends : ℕ → Type 0
      Ends e = ((s ≡ e) × (k ≡ w (Tail s r) % 8) × (w (Tail s r) < w (QueueHead s r) + 8)) ⊎ ((r ≡ e) × (k ≡ w (QueueHead s r) % 8) × (w (QueueHead s r) < w (Tail s r)))

      both : Ends c → Ends d → c ≡ d
      both (inl a) (inl b) = sym a.0 ∙ b.0
      both (inl a) (inr b) = absurd (apart_slots (w (QueueHead s r)) (w (Tail s r)) b.2 a.2 (sym b.1 ∙ a.1))
      both (inr a) (inl b) = absurd (apart_slots (w (QueueHead s r)) (w (Tail s r)) a.2 b.2 (sym a.1 ∙ b.1))
      both (inr a) (inr b) = sym a.0 ∙ b.0
  one_holder c d (Body b i) lc ld x y = both x.2 y.2
    where
      Writes : ℕ → Type 0
      Writes e = (((headers w b).count ≡ 0) × ((headers w b).client ≡ e)) ⊎ ((tag_author g.wide (w (Tag b)) ≡ e) × (v.latch e ≡ Some e) × InReach w g v e b)

      both : Writes c → Writes d → c ≡ d
      both (inl p) (inl q) = sym p.1 ∙ q.1
      both (inl p) (inr q) = absurd ((reach_counted d b ld q.2).1 p.0)
      both (inr p) (inl q) = absurd ((reach_counted c b lc p.2).1 q.0)
      both (inr p) (inr q) = sym p.0 ∙ q.0
  one_holder c d _ lc ld x y = absurd x

  -- whoever has a step in progress at a word holds it
  pub step_holds : (c : ℕ) (p : Spot) → c < g.clients → p ≢ Spare → slot_of (v.op c) ≡ p → Holds w g v c p
  step_holds c p lc n e = subst (Holds w g v c) e (h.slots c lc (some (v.op c) (λ z. n (sym e ∙ z))))
    where
      some : (o : Op) → slot_of o ≢ Spare → is_op o ≡ true
      some Nothing z = absurd (z refl)
      some _ z = refl
