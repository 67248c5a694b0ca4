-- a state that holds is sound
use Rattle.std.proofs.Common.{◌≡◌, ◌≢◌, ℕ, ◌+◌, ◌<◌, refl, sym, ◌∙◌, arith, inl, inr, ◌⊎◌, true, List}
use Rattle.std.proofs.lemmas.{Bool.eq-eqb, List.Elements.All-get_or}
use Rattle.shm_words.specs.declared.geometry.Geometry.{Geometry}
use Rattle.shm_words.proofs.Words.{live_not_zero}
use Rattle.shm_graph.specs.declared.spot.Spot.{Spot}
use Rattle.shm_graph.specs.declared.spot.Spot.TheVariants.{Spare, Status, Redo, RedoMore, Hold, Latch, Home, Era, Root, Tail, QueueHead, Slot, Segment, Page, Head, Tag, Body}
use Rattle.shm_graph.specs.{declared.{memo.Status.TheVariants.Gone, run.Account.Account}, Spots.see, Blocks.headers}
use Rattle.shm_graph.specs.{Views.{View, view}, Held.HeldAt}
use Rattle.shm_graph.specs.{Controllers.{IsController, IsOwnFree, IsOwnDying, IsOwnSlot}, Sound.{IsSound, IsGone}}
use Rattle.shm_graph.specs.Runs.{Held, memos_of}
use Rattle.shm_graph.proofs.States.Holders.{Holds, one_holder, step_holds, reach_counted}

next_of : (c d x : ℕ) → x ≡ c + 1 → x ≡ d + 1 → c ≡ d
next_of c d x p q = omega arith

module _ (g : Geometry) (w : Spot → ℕ) (v : View) (h : HeldAt g w v) where
  -- ---- who is gone has nothing left

  pub gone_left : (c : ℕ) → c < g.clients → v.status c ≡ Gone → IsGone g w v c
  gone_left c l st =
      let q = h.gone c l st in
      record {
        idle = q.idle;
        roots = λ k. sym (h.mine c l (Root c k) (eq-eqb c c refl)) ∙ q.roots k;
        hold = sym (h.mine c l (Hold c) (eq-eqb c c refl)) ∙ q.hold;
        latches = λ a e. let z = (h.latch c l).all a e in let y = q.latched in cc;
        blocks = λ b d. let z = rw q.dyings at ((h.dying c l).all b d) in absurd (let k = z.1 in omega arith);
        segments = λ s e. let z = rw q.segments at ((h.segments c l).all s e) in absurd (let k = z.1 in omega arith);
        sends = λ r lr n room. (h.lanes c r l lr (λ e. n (sym e))).next room ∙ q.sends r;
        takes = λ s ls n some. let lane = h.lanes s c ls l n in λ z.
            All-get_or (λ b. b ≢ 0) (v.sent s c) (w (QueueHead s c)) 0 (let k = lane.all_sent in omega arith) lane.some
            (sym (lane.items (w (QueueHead s c)) (omega arith) some (q.takes s, refl)) ∙ z);
      }

  -- ---- no word is two identities' to store

  both_free : (c d b : ℕ) → IsOwnFree g w c b → IsOwnFree g w d b → c ≡ d
  both_free c d b x y = next_of c d _ x.1 y.1

  free_live : {P : Type 0} (c b : ℕ) → IsOwnFree g w c b → (headers w b).live ≡ true → P
  free_live c b x l = absurd (live_not_zero (w (Head b)) l x.0)

  held_slot : (c : ℕ) (p : Spot) → c < g.clients → p ≢ Spare → IsOwnSlot w v g c p → Holds w g v c p
  held_slot c p l n (inl e) = step_holds g w v h c p l n e
  held_slot c p l n (inr x) = x

  -- a header or a tag
  one_block : (c d b : ℕ) → IsOwnFree g w c b ⊎ IsOwnDying w c b → IsOwnFree g w d b ⊎ IsOwnDying w d b → c ≡ d
  one_block c d b (inl x) (inl y) = both_free c d b x y
  one_block c d b (inl x) (inr y) = free_live c b x y.0
  one_block c d b (inr x) (inl y) = free_live d b y x.0
  one_block c d b (inr x) (inr y) = sym x.2 ∙ y.2

  -- a zero-count block isn't in reach
  dying_slot : (c d b i : ℕ) → d < g.clients → IsOwnDying w c b → Holds w g v d (Body b i) → c ≡ d
  dying_slot c d b i ld x y = elim y.2 [
    | inl u ↦ sym x.2 ∙ u.1
    | inr u ↦ absurd ((reach_counted g w v h d b ld u.2).1 x.1)
  ]

  one_body : (c d b i : ℕ) → c < g.clients → d < g.clients → IsController g w v c (Body b i) → IsController g w v d (Body b i) → c ≡ d
  one_body c d b i lc ld (inl x) (inl y) = both_free c d b x y
  one_body c d b i lc ld (inl x) (inr (inl y)) = free_live c b x y.0.0
  one_body c d b i lc ld (inl x) (inr (inr y)) = free_live c b x (held_slot d (Body b i) ld (λ e. cc) y).0
  one_body c d b i lc ld (inr (inl x)) (inl y) = free_live d b y x.0.0
  one_body c d b i lc ld (inr (inr x)) (inl y) = free_live d b y (held_slot c (Body b i) lc (λ e. cc) x).0
  one_body c d b i lc ld (inr (inl x)) (inr (inl y)) = sym x.0.2 ∙ y.0.2
  one_body c d b i lc ld (inr (inl x)) (inr (inr y)) = dying_slot c d b i ld x.0 (held_slot d (Body b i) ld (λ e. cc) y)
  one_body c d b i lc ld (inr (inr x)) (inr (inl y)) = sym (dying_slot d c b i lc y.0 (held_slot c (Body b i) lc (λ e. cc) x))
  one_body c d b i lc ld (inr (inr x)) (inr (inr y)) = one_holder g w v h c d (Body b i) lc ld (held_slot c (Body b i) lc (λ e. cc) x) (held_slot d (Body b i) ld (λ e. cc) y)

  pub one_storer : (c d : ℕ) → c < g.clients → d < g.clients → (p : Spot) → IsController g w v c p → IsController g w v d p → c ≡ d
  one_storer c d lc ld (Status e) x y = sym x ∙ y
  one_storer c d lc ld (Redo e) x y = sym x ∙ y
  one_storer c d lc ld (RedoMore e) x y = sym x ∙ y
  one_storer c d lc ld (Hold e) x y = sym x ∙ y
  one_storer c d lc ld (Home e) x y = sym x ∙ y
  one_storer c d lc ld (Era i j) x y = sym x ∙ y
  one_storer c d lc ld (Root e k) x y = sym x ∙ y
  one_storer c d lc ld (Tail s r) x y = sym x ∙ y
  one_storer c d lc ld (QueueHead s r) x y = sym x ∙ y
  one_storer c d lc ld (Latch a) x y = next_of c d _ x y
  one_storer c d lc ld (Segment s) x y = next_of c d _ x y
  one_storer c d lc ld (Page s q) x y = next_of c d _ x.0 y.0
  one_storer c d lc ld (Slot s r k) x y = one_holder g w v h c d (Slot s r k) lc ld (held_slot c (Slot s r k) lc (λ e. cc) x) (held_slot d (Slot s r k) ld (λ e. cc) y)
  one_storer c d lc ld (Head b) x y = one_block c d b x y
  one_storer c d lc ld (Tag b) x y = one_block c d b x y
  one_storer c d lc ld (Body b i) x y = one_body c d b i lc ld x y
  one_storer c d lc ld _ x y = absurd x

  pub held_sound : IsSound g w v
  held_sound =
      record {
        mine = h.mine;
        state = h.state;
        latch = h.latch;
        segments = h.segments;
        dying = h.dying;
        making = h.making;
        blocks = h.blocks;
        unused = h.unused;
        count = h.count;
        era = h.era;
        own = λ c l. (h.own c l).some;
        op = h.op;
        looks = h.looks;
        parts = h.parts;
        part = h.part;
        queued = h.queued;
        lanes = h.lanes;
        self_lanes = h.self_lanes;
        fresh = h.fresh;
        gone = gone_left;
        alone = one_storer;
      }

pub held_state_sound : (g : Geometry) (ws : List ℕ) (es : List Account) → Held g ws es → IsSound g (see g ws) (view (memos_of es))
held_state_sound g ws es h = held_sound g (see g ws) (view (memos_of es)) h.at
