-- a head slot of a queue is read
use Rattle.std.proofs.Common.{◌≡◌, ◌≢◌, ℕ, ◌%◌, ◌<◌, refl, sym, ap, ◌∙◌, subst, arith, true, not, eqb, ltb, ◌&&◌, List}
use Rattle.std.proofs.lemmas.{Bool.{and_parts, eq-eqb, eqb-true, ltb-true, false≢true}, List.Elements.All-get_or}
use Rattle.std.proofs.lemmas.List.Folds.{Any-from_list_any}
use Rattle.std.specs.{Prelude.slice_index, List.list_any}
use Rattle.shm_words.specs.declared.geometry.Geometry.{Geometry}
use Rattle.shm_graph.specs.declared.{spot.Spot.{Spot, TheVariants.{Tail, QueueHead, Slot}}, memo.Fact.Fact}
use Rattle.shm_graph.specs.{declared.memo.{Fact.TheVariants.Counter, Memo.Memo, Step.Step}, Blocks.classes}
use Rattle.shm_graph.specs.{Views.{view, at1, own_word}, Held.HeldAt, Changes.called, Reach.learnt}
use Rattle.shm_graph.specs.MemoAfterRead.{slot_read, is_head_slot, is_tail_above, valued}
use Rattle.shm_graph.proofs.{Spots.SpotPlaces.at_is_in, Memos.{MemoParts.view_here, Calls.{FactHolds, FactsHold}}}
use Rattle.shm_graph.proofs.Memos.KnownChange.{KnownHolds, ValueHolds, memo_known, learnt_all, valued_all}
use Rattle.shm_graph.proofs.{Machines.Calling.after_call, StepKinds.Loads.choice}
use Rattle.shm_graph.proofs.States.HeadSlot.{IsHead, head_known, head_value}

-- a tail that was read above x is above x
tail_above : (g : Geometry) (w : Spot → ℕ) (r : ℕ → Memo) (s c x : ℕ) (k : Fact) → is_tail_above s c x k ≡ true → FactHolds g w (view r) k → x < w (Tail s c)
tail_above g w r s c x (Counter (Tail i j) y) e h =
    let q = and_parts (eqb i s) (eqb j c && ltb x y) e in
    let p = and_parts (eqb j c) (ltb x y) q.1 in
    let z : w (Tail i j) ≡ w (Tail s c) = ap (λ n. w (Tail n j)) (eqb-true i s q.0) ∙ ap (λ n. w (Tail s n)) (eqb-true j c p.0) in
    let u = ltb-true x y p.1 in
    omega arith
tail_above g w r s c x _ e h = absurd (false≢true e)

-- one such fact among those of the memo
any_above : (g : Geometry) (w : Spot → ℕ) (r : ℕ → Memo) (s c x : ℕ) (ks : List Fact) → list_any (is_tail_above s c x) ks ≡ true → FactsHold g w (view r) ks → x < w (Tail s c)
any_above g w r s c x ks e h =
    let q = Any-from_list_any (is_tail_above s c x) ks e in
    tail_above g w r s c x q.1 q.4 (subst (FactHolds g w (view r)) q.3 (All-get_or (FactHolds g w (view r)) ks q.0 q.1 q.2 h))

-- a slot that isn't 0 has a sender
slot_sender : (g : Geometry) (w : Spot → ℕ) (r : ℕ → Memo) (s i k : ℕ) → HeldAt g w (view r) → w (Slot s i k) ≢ 0 → s < g.clients
slot_sender g w r s i k h n =
    let e = at_is_in g (classes w) (Slot s i k) h.fits (h.there (Slot s i k) n) in
    ltb-true s g.clients (and_parts (ltb s g.clients) (ltb i g.clients) (and_parts (ltb s g.clients && ltb i g.clients) (ltb k 8) e).0).0

-- what the memo takes for a head slot is one
head_slot : (g : Geometry) (w : Spot → ℕ) (r : ℕ → Memo) (c s i k : ℕ) → HeldAt g w (view r) → c < g.clients → is_head_slot c (r c) s i k && not (eqb (w (Slot s i k)) 0) ≡ true → (i ≡ c) × IsHead g w (view r) c s k
head_slot g w r c s i k h l e =
    let m : Memo = r c in
    let x : ℕ = own_word m.own (QueueHead s c) in
    let a = and_parts (is_head_slot c m s i k) (not (eqb (w (Slot s i k)) 0)) e in
    let b = and_parts _ _ a.0 in
    let d = and_parts _ _ b.1 in
    let p = and_parts _ _ d.1 in
    let q = and_parts _ _ p.1 in
    let me : i ≡ c = eqb-true i c b.0 in
    let queue_head : x ≡ w (QueueHead s c) = h.mine c l (QueueHead s c) (eq-eqb c c refl) in
    let word : w (Slot s i k) ≢ 0 = (λ z. false≢true (sym (ap not (eq-eqb (w (Slot s i k)) 0 z)) ∙ a.1)) in (
      me,
      record {
        receiver = l;
        sender = slot_sender g w r s i k h word;
        other = λ z. false≢true (sym (ap not (eq-eqb s c z)) ∙ d.0);
        place = eqb-true k (x % 8) p.0 ∙ ap (λ n. n % 8) queue_head;
        some = subst (λ n. n < w (Tail s c)) queue_head (any_above g w r s c x m.facts q.1 (h.facts c l));
        left = eqb-true (slice_index m.untaken s) 0 q.0;
        word = λ z. word (ap (λ n. w (Slot s n k)) me ∙ z);
      },
    )

-- a memo reads it
slot_step : (g : Geometry) (w : Spot → ℕ) (r : ℕ → Memo) (c s i k : ℕ) → HeldAt g w (view r) → c < g.clients → HeldAt g w (view (at1 r c (slot_read c (r c) s i k (w (Slot s i k)))))
slot_step g w r c s i k h l =
    let m : Memo = r c in
    choice (λ (x : Memo). HeldAt g w (view (at1 r c x))) (is_head_slot c m s i k && not (eqb (w (Slot s i k)) 0)) (record m { known = learnt (Slot s i k) (w (Slot s i k)) m.known; values = valued m.part (w (Slot s i k)) m.values }) m
    (λ e. let q = head_slot g w r c s i k h l e in
    subst (λ j. HeldAt g w (view (at1 r c (record m { known = learnt (Slot s j k) (w (Slot s j k)) m.known; values = valued m.part (w (Slot s j k)) m.values })))) (sym q.0)
    (memo_known g w r c (learnt (Slot s c k) (w (Slot s c k)) m.known) (valued m.part (w (Slot s c k)) m.values) h
    (learnt_all (KnownHolds g w (view r) c) (Slot s c k) (w (Slot s c k)) m.known (head_known g w (view r) h c s k q.1) (h.known c l))
    (valued_all (ValueHolds g w (view r) c) m.part (w (Slot s c k)) m.values (head_value g w (view r) h c s k q.1) (h.values c l))))
    (λ e. subst (HeldAt g w) (view_here r c) h)

-- a slot is read
pub slot_held : (g : Geometry) (w : Spot → ℕ) (r : ℕ → Memo) (c : ℕ) (t : Step) (s i k : ℕ) → HeldAt g w (view r) → c < g.clients
    → HeldAt g w (view (at1 r c (slot_read c (called (r c) t) s i k (w (Slot s i k)))))
slot_held g w r c t s i k h l = after_call g w r c t (λ m. slot_read c m s i k (w (Slot s i k))) h l (λ q e here. slot_step g w q c s i k here l)
