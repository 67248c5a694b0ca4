-- what follows of an identity that is gone in a sound state
use Rattle.std.proofs.Common.{◌≡◌, ◌≢◌, ℕ, ◌+◌, ◌%◌, ◌<◌, refl, sym, ap, ◌∙◌, subst, arith, inl, inr, true, List}
use Rattle.std.proofs.lemmas.Bool.{cases_eq, cases_lt}
use Rattle.std.specs.Prelude.{Option, Some, None, slice_index}
use Rattle.shm_words.specs.declared.{geometry.Geometry.Geometry, header.Header.Header}
use Rattle.shm_graph.specs.declared.memo.{Op.TheVariants.Nothing, Status.Status as AStatus}
use Rattle.shm_graph.specs.declared.{memo.Status.TheVariants.{New, Live, Dead, Gone}, spot.Spot.Spot}
use Rattle.shm_graph.specs.declared.spot.Spot.TheVariants.{Spare, Status, Hold, Latch, Era, Root, Tail, QueueHead, Slot, Segment}
use Rattle.shm_graph.specs.{Blocks.{IsLive, headers}, Controllers.IsController}
use Rattle.shm_graph.specs.{Held.{EraSound, Committing, LaneSound, status_word}, Ops.{cover_of, on_of, slot_of}}
use Rattle.shm_graph.specs.{Sound.{IsGone, IsSound}, Views.{View, ons, targets}}
use Rattle.shm_graph.proofs.{Spots.Spotting.same_spot_not, States.Counting.{cover_slot, covered_none}}

-- the status word 3 is that of gone
word_gone : (s : AStatus) → status_word s ≡ 3 → s ≡ Gone
word_gone Gone e = refl
word_gone _ e = absurd (omega arith)

-- where no step of c is committed its own era is shown nowhere
module _ (n : ℕ) (head : ℕ → Header) (era : ℕ → ℕ → ℕ) (on : ℕ → Option ℕ) (c : ℕ) (x : EraSound n head era on) (none : on c ≡ None) where
  header_past : (b : ℕ) → (head b).live ≡ true → (head b).client ≡ c → (head b).era < era c c
  header_past b live is =
      let y : Committing era on c (head b).era b = subst (λ j. Committing era on j (head b).era b) is (x.header b live) in
      elim (cases_lt (head b).era (era c c)) [
        | inl s ↦ s
        | inr far ↦ let m = y.most in let z : None ≡ Some b = sym none ∙ y.equal (omega arith) in absurd (cc)
      ]

  row_past : (k : ℕ) → k < n → c < n → k ≢ c → era k c < era c c
  row_past k lk lc d =
      let y = x.row k c lk lc d in
      elim (cases_lt (era k c) (era c c)) [
        | inl s ↦ s
        | inr far ↦ let m = y.most in let q = y.equal (omega arith) in let z : None ≡ Some q.0 = sym none ∙ q.1 in absurd (cc)
      ]

-- the item at a head that isn't taken is the next one to be received
head_item : (t : ℕ → ℕ) (tail queue_head : ℕ) (sent : List ℕ) (unsent : ℕ) (received : List ℕ) (untaken : ℕ) → LaneSound t tail queue_head sent unsent received untaken → queue_head < tail → t (queue_head % 8) ≢ 0 → t (queue_head % 8) ≡ slice_index sent queue_head
head_item t tail queue_head sent unsent received untaken x some full =
    elim (cases_eq untaken 0) [
      | inl z ↦ x.items queue_head (omega arith) some (z, refl)
      | inr n ↦ absurd (full (x.taken n).2)
    ]

module _ (g : Geometry) (w : Spot → ℕ) (v : View) (h : IsSound g w v) (c : ℕ) (l : c < g.clients) (e : w (Status c) ≡ 3) where
  left : IsGone g w v c
  left = h.gone c l (word_gone (v.status c) (h.state c l ∙ e))

  pub gone_idle : v.op c ≡ Nothing
  gone_idle = left.idle

  pub gone_closed : ((b : ℕ) → IsLive (headers w) b → (headers w b).client ≡ c → (headers w b).era < w (Era c c)) × ((k : ℕ) → k < g.clients → k ≢ c → w (Era k c) < w (Era c c))
  gone_closed = (
    header_past g.clients (headers w) (λ i j. w (Era i j)) (ons v) c h.era (ap on_of left.idle),
    λ k lk. row_past g.clients (headers w) (λ i j. w (Era i j)) (ons v) c h.era (ap on_of left.idle) k lk l,
  )

  pub gone_roots : (k : ℕ) → w (Root c k) ≡ 0
  gone_roots = left.roots

  pub gone_hold : w (Hold c) ≡ 0
  gone_hold = left.hold

  pub gone_latches : (a : ℕ) → w (Latch a) ≢ c + 1
  gone_latches = left.latches

  pub gone_segments : (s : ℕ) → w (Segment s) ≢ c + 1
  gone_segments = left.segments

  pub gone_zero_counts : (b : ℕ) → IsLive (headers w) b → (headers w b).count ≡ 0 → ((headers w b).client ≢ c) × ((headers w b).client < g.clients)
  gone_zero_counts b live zero = ((λ is. left.blocks b (live, zero, is)), h.era.client b live)

  -- nobody's step gives a slot that it may use another target
  uncovered : (s r k : ℕ) → IsController g w v c (Slot s r k) → targets g w v (Slot s r k) ≡ w (Slot s r k)
  uncovered s r k mine =
      covered_none g.clients (Slot s r k) (w (Slot s r k)) (λ d. cover_of (v.op d)) (λ d m y. cover_slot (v.op d) (Slot s r k) (same_spot_not (slot_of (v.op d)) (Slot s r k) (apart d m)) y)
    where
      apart : (d : ℕ) → d < g.clients → slot_of (v.op d) ≢ Slot s r k
      apart d m at =
          let same : c ≡ d = h.alone c d l m (Slot s r k) mine (inl at) in
          let z : Spare ≡ Slot s r k = sym (ap slot_of (ap v.op (sym same) ∙ left.idle)) ∙ at in cc

  pub gone_sends : (r : ℕ) → r < g.clients → r ≢ c → w (Tail c r) < w (QueueHead c r) + 8 → w (Slot c r (w (Tail c r) % 8)) ≡ 0
  gone_sends r lr n room = sym (uncovered c r (w (Tail c r) % 8) (inr ((λ z. n (sym z)), inl (refl, refl, room)))) ∙ left.sends r lr n room

  pub gone_takes : (s : ℕ) → s < g.clients → s ≢ c → w (QueueHead s c) < w (Tail s c) → let b = w (Slot s c (w (QueueHead s c) % 8)) in (b ≢ 0) × IsLive (headers w) b × (b ≡ slice_index (v.sent s c) (w (QueueHead s c)))
  gone_takes s ls n some =
      let k : ℕ = w (QueueHead s c) % 8 in
      let same = uncovered s c k (inr (n, inr (refl, refl, some))) in
      let full = left.takes s ls n some in (
        (λ z. full (same ∙ z)),
        subst (IsLive (headers w)) same (h.count.targets (Slot s c k) full),
        sym same ∙ head_item (λ i. targets g w v (Slot s c i)) (w (Tail s c)) (w (QueueHead s c)) (v.sent s c) (v.unsent s c) (v.received c s) (v.untaken c s) (h.lanes s c ls l n) some full,
      )
