-- the head of a queue, its tail and its first item are read: what is known then
use Rattle.std.proofs.Common.{◌≡◌, ◌≢◌, ℕ, ◌%◌, ◌<◌, ◌≤◌, refl, sym, ap, ◌∙◌, subst, arith, true, false, List, [], ◌++◌, length}
use Rattle.std.proofs.lemmas.Bool.{eq-eqb, true≢false}
use Rattle.std.specs.{Prelude.slice_index, List.Contains}
use Rattle.shm_words.proofs.Placing.{total_small}
use Rattle.shm_words.specs.Layout.{address_limit}
use Rattle.shm_graph.specs.declared.{ask.Me.Me, memo.{Fact.TheVariants.Counter, Memo.Memo, Stored.Stored}}
use Rattle.shm_graph.specs.{Asks.{Trail, IsWithin}, Core.core, Events.Event, Reach.learnt, MemoAfterRead.valued}
use Rattle.shm_graph.specs.Views.{own_word}
use Rattle.shm_graph.specs.declared.spot.Spot.TheVariants as spot
use Rattle.kind_parts.specs.WordParts.{CountLoaded, HeadSlotLoaded, IsHeadSlot}
use Rattle.kind_parts.proofs.Cores.{here_same}
use Rattle.plans.specs.{declared.word.Word.Word, Proved.{CallTells.within_more, Grown.grows_then}, Grown.Grows}
use Rattle.plans.specs.{Parts.IsHeld, Words.WordLeaves}
use Rattle.shm_count.specs.Proved.Slots.Parts.{era_room}
use Rattle.shm_queue.specs.{QueueWords.TailSeen, Proved.QueueWords.item_inside}
use Rattle.shm_queue.specs.Take.{MayTakeFrom, IsHeadRead, IsItemRead, TakeEmpty, slot_memo}

-- what was read of tails and heads stays over a step that isn't the first one
pub grows_later : (m r : Memo) → Grows false m r → Grows true m r
grows_later m r g = record { agent = g.agent; counts = g.counts; facts = λ e. absurd (true≢false e) }

module _ (me : Me) (s : ℕ) where
  abbrev c : ℕ
  c = me.who

  -- the own head was read
  pub head_read : (r0 rs r : Memo) (tr t : Trail) (es ds : List Event) (m : Word) (n : ℕ) → MayTakeFrom me s r0 → rs ≡ r0 → tr ≡ [] → es ≡ [] → WordLeaves (CountLoaded c (spot.QueueHead s c)) m rs r t ds n → Grows true rs r → IsHeadRead me s n 1 r0 r (tr ++ t) (es ++ ds)
  head_read r0 rs r tr t es ds m n may same none quiet w grows =
      record {
        may = may;
        same = w.found.left ∙ ap core same;
        grows = subst (λ (x : Memo). Grows true x r) same grows;
        head = w.found.found (eq-eqb c c refl) ∙ ap (λ (x : Memo). own_word x.own (spot.QueueHead s c)) same;
        none = ap (λ (x : List Event). x ++ ds) quiet ∙ w.none;
        bound = (let e = ap length (ap (λ (x : Trail). x ++ t) none) in let o = w.one in omega arith);
      }

  module _ (at : ℕ) (r0 rs r : Memo) (tr t : Trail) (es ds : List Event) where
    -- nothing was done yet
    silent : es ≡ [] → ds ≡ [] → es ++ ds ≡ []
    silent none quiet = ap (λ (x : List Event). x ++ ds) none ∙ quiet

    -- the tail that was read is the own head
    pub is_empty : (m : Word) (n : ℕ) → IsHeadRead me s at 1 r0 rs tr es → WordLeaves (TailSeen c s) m rs r t ds n → Grows false rs r → n ≡ at → TakeEmpty me s at r0 r (tr ++ t) (es ++ ds)
    is_empty m n h w grows is =
        let one : IsWithin 1 t = (let o = w.one in omega arith) in
        record {
          same = w.found.left ∙ h.same;
          head = h.head;
          read = subst (λ y. Contains r.facts (Counter (spot.Tail s c) y)) is w.found.read;
          least = λ y has. subst (λ z. y ≤ z) is (w.found.found.1 y (h.grows.counts (Counter (spot.Tail s c) y) refl has));
          none = silent h.none w.none;
          bound = within_more 1 1 tr t h.bound one;
        }

    -- or it is above it
    pub has_item : (m : Word) (n : ℕ) → IsHeadRead me s at 1 r0 rs tr es → WordLeaves (TailSeen c s) m rs r t ds n → Grows false rs r → n ≢ at → IsHeadRead me s at 2 r0 r (tr ++ t) (es ++ ds) × IsHeadSlot me.geometry.clients c r s (at % 8)
    has_item m n h w grows other =
        let may = h.may in
        let one : IsWithin 1 t = (let o = w.one in omega arith) in
        let same : core r ≡ core r0 = w.found.left ∙ h.same in
        let own : own_word r.own (spot.QueueHead s c) ≡ at = ap (λ (x : Memo). own_word x.own (spot.QueueHead s c)) same ∙ sym h.head in
        let before : own_word rs.own (spot.QueueHead s c) ≡ at = ap (λ (x : Memo). own_word x.own (spot.QueueHead s c)) h.same ∙ sym h.head in
        let above : own_word r.own (spot.QueueHead s c) < n = (let e = other in let f = w.found.found.0 in omega arith) in (
          record { may = may; same = same; grows = grows_then true r0 rs r h.grows (grows_later rs r grows); head = h.head; none = silent h.none w.none; bound = within_more 1 1 tr t h.bound one },
          record {
            from = may.from;
            other = may.other;
            idle = ap (λ (x : Memo). x.op) same ∙ may.idle;
            place = ap (λ y. y % 8) (sym own);
            left = ap (λ (x : Memo). slice_index x.untaken s) same ∙ may.none;
            some = (n, w.found.read, above);
          },
        )

    -- the item was read: a counted block of the pool, whose address has 24 bits
    pub item_read : IsHeld me r → (m : Word) (n : ℕ) → IsHeadRead me s at 2 r0 rs tr es → IsHeadSlot me.geometry.clients c rs s (at % 8) → WordLeaves (HeadSlotLoaded c s (at % 8)) m rs r t ds n → Grows false rs r
        → (n % address_limit ≡ n) × IsItemRead me s at n r0 r (tr ++ t) (es ++ ds)
    item_read held m n h slot w grows =
        let may = h.may in
        let left : core r ≡ core (slot_memo c s at n r0) = w.found.left ∙ ap (λ (x : Memo). core (record x { known = learnt (spot.Slot s c (at % 8)) n x.known; values = valued x.part n x.values })) h.same in
        let idle = ap (λ (x : Memo). x.op) left ∙ may.idle in
        let known : Contains r.known (record { spot = spot.Slot s c (at % 8); value = n }) = subst (λ (ks : List Stored). Contains ks (record { spot = spot.Slot s c (at % 8); value = n })) (sym (ap (λ (x : Memo). x.known) left)) (0, omega arith, refl) in
        let item = item_inside me may.who s (at % 8) n r held idle known in
        let total = total_small me.geometry may.geometry in
        let last = item.0.1 in
        let one : IsWithin 1 t = (let o = w.one in omega arith) in
        let own : own_word rs.own (spot.QueueHead s c) ≡ at = ap (λ (x : Memo). own_word x.own (spot.QueueHead s c)) h.same ∙ sym h.head in
        let later = grows_later rs r grows in (
          omega arith,
          record {
            may = may;
            left = left;
            head = h.head;
            room = item.1;
            counted = λ has. item.2 (subst (λ (xs : List ℕ). Contains xs n) (sym (ap (λ (x : Memo). x.dying) left)) has);
            known = λ y has. w.found.found.1 y (subst (λ (ks : List Stored). Contains ks (record { spot = spot.Slot s c (at % 8); value = y })) (sym (ap (λ (x : Memo). x.known) h.same)) has);
            some = (slot.some.0, later.counts (Counter (spot.Tail s c) slot.some.0) refl slot.some.1, (let o = slot.some.2 in omega arith));
            grows = grows_then true r0 rs r h.grows later;
            can = record {
              geometry = may.geometry;
              who = may.who;
              here = here_same r0 r (ap (λ (x : Memo). x.status) left) may.here;
              idle = idle;
              from = may.from;
              other = may.other;
              low = omega arith;
              known = known;
              inside = item.0;
              era = era_room me r held may.who idle;
            };
            none = silent h.none w.none;
            bound = within_more 2 1 tr t h.bound one;
          },
        )
