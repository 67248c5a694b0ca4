-- word steps at the slots, the tails and the heads of queues as parts: what each needs of the memo
use Rattle.std.proofs.Common.{◌≡◌, ◌≢◌, ℕ, ◌+◌, ◌%◌, ◌<◌, ◌≤◌, refl, sym, ap, ◌∙◌, subst, arith, Bool, true, false, not, eqb, ◌&&◌, List, [], inl, inr}
use Rattle.std.proofs.lemmas.Bool.{and_from, and_parts, cond-true, eq-eqb, eqb-true, lt-ltb, ne_eqb}
use Rattle.std.proofs.lemmas.List.{Elements.{All-contains, All-get_or}, Folds.list_any_at}
use Rattle.std.specs.{Prelude.slice_index, List.{Contains, list_any}}
use Rattle.shm_words.specs.Layout.{address}
use Rattle.shm_words.specs.declared.place.Place.TheVariants as place
use Rattle.shm_graph.specs.declared.{ask.{Ask.TheVariants.{Load, Store}, Me.Me}, spot.Spot.Spot}
use Rattle.shm_graph.specs.declared.{spot.Spot.TheVariants.{QueueHead, Slot, Tail}, memo.Fact.Fact}
use Rattle.shm_graph.specs.{declared.memo.{Fact.TheVariants.Counter, Memo.Memo, Step.Step}, Blocks.classes}
use Rattle.shm_graph.specs.{Changes.called, Core.core, Held.HeldAt, Laws.{KeptAt, framed}, Reach.learnt}
use Rattle.shm_graph.specs.{MemoAfterRead.{is_head_slot, is_tail_above, valued}, Spots.spot_at}
use Rattle.shm_graph.specs.{MemoAfterStore.{head_stored, tail_stored, written}, Views.{own_word, targets, view}}
use Rattle.shm_graph.proofs.{Memos.Calls.FactHolds, States.Holders.Holds, StepKinds.Loads.choice}
use Rattle.shm_graph.proofs.Spots.SpotPlaces.{spot-place}
use Rattle.plans.specs.{Words.IsWord, Proved.WordSteps.load_at}
use Rattle.kind_parts.specs.{Conditions.MayWrite, OwnWords.{MayReceive, MaySend}}
use Rattle.kind_parts.specs.WordParts.{HeadSlotLoaded, HeadStored, IsHeadSlot, IsTailSlot, SlotStored, TailSlotLoaded, TailStored}
use Rattle.kind_parts.proofs.{BeginAt.word_target, BeginSlots.{room_left, room_unsent, tail_has}, BeginWords.known_here}
use Rattle.kind_parts.proofs.{Cores.called_count, SlotStores.queue_stored, Words.Own.{at_step, store_at, word_for}}
use Rattle.kind_parts.proofs.OwnStoresLanes as lanes

-- what passes a test is found by it
found_by : (p : Fact → Bool) (ks : List Fact) (k : Fact) → Contains ks k → p k ≡ true → list_any p ks ≡ true
found_by p ks k h e = list_any_at p ks h.0 k h.1 (subst (λ x. p x ≡ true) (sym h.2) e)

module _ (first : Bool) (me : Me) (m : Memo) (l : me.who < me.geometry.clients) where
  abbrev c : ℕ
  c = me.who

  -- ---- slots

  slot_there : (s i k : ℕ) → s < me.geometry.clients → i < me.geometry.clients → k < 8 → (class : ℕ → ℕ → ℕ) → spot_at me.geometry class (address me.geometry (place.Slot s i k)) ≡ Slot s i k
  slot_there s i k ls li lk class = spot-place me.geometry class (place.Slot s i k) (and_from _ _ (and_from _ _ (lt-ltb s me.geometry.clients ls) (lt-ltb i me.geometry.clients li)) (lt-ltb k 8 lk))

  -- the next slot of a queue to another is loaded
  tail_word : (w : Spot → ℕ) (r : ℕ → Memo) → HeldAt me.geometry w (view r) → (i k : ℕ) → IsTailSlot me.geometry.clients c (r c) i k → w (Slot c i k) ≡ slice_index (r c).unsent i
  tail_word w r h i k a = (tail_has me.geometry w r c h l i k (slice_index (r c).unsent i) a.to a.other a.idle a.next room refl).word
    where
      room : w (Tail c i) < w (QueueHead c i) + 8
      room = elim a.room [
        | inl some ↦ room_unsent me.geometry w r c h l i a.to a.other some
        | inr y ↦ room_left me.geometry w r c h l i y.0 y.1 y.2
      ]

  pub tail_slot_load : (i k : ℕ) → IsTailSlot me.geometry.clients c m i k → IsWord first me (Load (address me.geometry (place.Slot c i k))) (TailSlotLoaded i) (word_for me (Load (address me.geometry (place.Slot c i k)))) m
  tail_slot_load i k a =
      let at : ℕ = address me.geometry (place.Slot c i k) in
      let low : k < 8 = (let e = a.next in omega arith) in
      load_at first me at (TailSlotLoaded i) m (Slot c i k) (slot_there c i k l a.to low) (λ e. cc) refl tt
      (λ w r f st stands same. let t : Step = framed me (Load at) f (w (Slot c i k)) in let x : Memo = called (r c) t in let n : ℕ = w (Slot c i k) in
      record {
        found = tail_word w r st.held i k (subst (λ (y : Memo). IsTailSlot me.geometry.clients c y i k) (sym same) a) ∙ ap (λ (y : Memo). slice_index y.unsent i) same;
        left =
            choice (λ (y : Memo). core y ≡ core m) (is_head_slot c x c i k && not (eqb n 0)) (record x { known = learnt (Slot c i k) n x.known; values = valued x.part n x.values }) x
            (λ z. absurd (a.other (sym (eqb-true i c (and_parts _ _ (and_parts (is_head_slot c x c i k) (not (eqb n 0)) z).0).0))))
            (λ z. at_step r c m t same);
        read = tt;
      })

  -- the item of a head slot
  head_word : (w : Spot → ℕ) (r : ℕ → Memo) → HeldAt me.geometry w (view r) → (s k : ℕ) → IsHeadSlot me.geometry.clients c (r c) s k → w (Slot s c k) ≢ 0
  head_word w r h s k a z =
      let y = a.some in
      let lane = h.lanes s c a.from l a.other in
      let here : own_word (r c).own (QueueHead s c) ≡ w (QueueHead s c) = h.mine c l (QueueHead s c) (eq-eqb c c refl) in
      let most : y.0 ≤ w (Tail s c) = All-contains (FactHolds me.geometry w (view r)) (r c).facts (Counter (Tail s c) y.0) (h.facts c l) y.1 in
      let some : w (QueueHead s c) < w (Tail s c) = (let u = y.2 in omega arith) in
      let place : k ≡ w (QueueHead s c) % 8 = a.place ∙ ap (λ n. n % 8) here in
      let holds : Holds w me.geometry (view r) c (Slot s c k) = (a.other, inr (refl, place, some)) in
      All-get_or (λ b. b ≢ 0) ((view r).sent s c) (w (QueueHead s c)) 0 (let n = lane.all_sent in omega arith) lane.some
      (sym (lane.items (w (QueueHead s c)) (omega arith) some (a.left, refl)) ∙ (ap (λ j. targets me.geometry w (view r) (Slot s c j)) (sym place) ∙ (word_target me.geometry w r c h l (Slot s c k) holds a.idle ∙ z)))

  -- the head slot of a queue from another is loaded
  pub head_slot_load : (s k : ℕ) → IsHeadSlot me.geometry.clients c m s k → IsWord first me (Load (address me.geometry (place.Slot s c k))) (HeadSlotLoaded c s k) (word_for me (Load (address me.geometry (place.Slot s c k)))) m
  head_slot_load s k a =
      let at : ℕ = address me.geometry (place.Slot s c k) in
      let low : k < 8 = (let e = a.place in omega arith) in
      load_at first me at (HeadSlotLoaded c s k) m (Slot s c k) (slot_there s c k a.from l low) (λ e. cc) refl tt
      (λ w r f st stands same. let t : Step = framed me (Load at) f (w (Slot s c k)) in let x : Memo = called (r c) t in let n : ℕ = w (Slot s c k) in
      let here : IsHeadSlot me.geometry.clients c (r c) s k = subst (λ (y : Memo). IsHeadSlot me.geometry.clients c y s k) (sym same) a in
      let some : n ≢ 0 = head_word w r st.held s k here in
      let own : own_word x.own (QueueHead s c) ≡ own_word m.own (QueueHead s c) = ap (λ (y : Memo). own_word y.own (QueueHead s c)) (at_step r c m t same) in
      let left : slice_index x.untaken s ≡ 0 = ap (λ (y : Memo). slice_index y.untaken s) (at_step r c m t same) ∙ a.left in
      let fact : Contains x.facts (Counter (Tail s c) (a.some).0) = called_count (r c) t (Counter (Tail s c) (a.some).0) refl (subst (λ (y : Memo). Contains y.facts (Counter (Tail s c) (a.some).0)) (sym same) (a.some).1) in
      let above : is_tail_above s c (own_word x.own (QueueHead s c)) (Counter (Tail s c) (a.some).0) ≡ true = and_from _ _ (eq-eqb s s refl) (and_from _ _ (eq-eqb c c refl) (lt-ltb (own_word x.own (QueueHead s c)) (a.some).0 (let u = (a.some).2 in omega arith))) in
      let is : is_head_slot c x s c k ≡ true =
      and_from _ _ (eq-eqb c c refl) (and_from _ _ (ap not (ne_eqb s c a.other)) (and_from _ _ (eq-eqb k (own_word x.own (QueueHead s c) % 8) (a.place ∙ ap (λ j. j % 8) (sym own))) (and_from _ _ (eq-eqb (slice_index x.untaken s) 0 left) (found_by (is_tail_above s c (own_word x.own (QueueHead s c))) x.facts (Counter (Tail s c) (a.some).0) fact above)))) in
      record {
        found = (some, λ y h. (known_here me.geometry w r c st.held st.who (Slot s c k) y (subst (λ (z : Memo). Contains z.known (record { spot = Slot s c k; value = y })) (sym same) h)).6);
        left =
            ap core (cond-true (is_head_slot c x s c k && not (eqb n 0)) (record x { known = learnt (Slot s c k) n x.known; values = valued x.part n x.values }) x (and_from _ _ is (ap not (ne_eqb n 0 some))))
            ∙ ap (λ (y : Memo). core (record y { known = learnt (Slot s c k) n y.known; values = valued y.part n y.values })) (at_step r c m t same);
        read = tt;
      })

  -- the new value is stored into a slot of a queue
  pub slot_store : first ≡ false → (s i k v : ℕ) → s < me.geometry.clients → i < me.geometry.clients → k < 8 → MayWrite m (Slot s i k) v → IsWord first me (Store (address me.geometry (place.Slot s i k)) v) SlotStored (word_for me (Store (address me.geometry (place.Slot s i k)) v)) m
  slot_store going s i k v ls li lk may =
      store_at first me m l (place.Slot s i k) (Slot s i k) v written (slot_there s i k ls li lk, λ e. cc, refl)
      (λ w r f st stands same. queue_stored me w r f [] (address me.geometry (place.Slot s i k)) s i k v st (stands going) (slot_there s i k ls li lk (classes w)) (subst (λ (x : Memo). MayWrite x (Slot s i k) v) (sym same) may))
      (λ x e. ap (λ (y : Memo). core (written y)) e)

  -- ---- tails and heads

  -- the tail of a queue to another is stored, one more
  pub tail_store : first ≡ false → (i : ℕ) → MaySend me.geometry.clients c m i
      → IsWord first me (Store (address me.geometry (place.Tail c i)) (own_word m.own (Tail c i) + 1)) (TailStored c i) (word_for me (Store (address me.geometry (place.Tail c i)) (own_word m.own (Tail c i) + 1))) m
  tail_store going i may =
      let v : ℕ = own_word m.own (Tail c i) + 1 in
      let at : ℕ = address me.geometry (place.Tail c i) in
      let there : (class : ℕ → ℕ → ℕ) → spot_at me.geometry class at ≡ Tail c i = λ class. spot-place me.geometry class (place.Tail c i) (and_from _ _ (lt-ltb c me.geometry.clients l) (lt-ltb i me.geometry.clients may.to)) in
      store_at first me m l (place.Tail c i) (Tail c i) v (λ x. tail_stored x (Tail c i) i (own_word x.own (Tail c i) + 1)) (there, λ e. cc, refl)
      (λ w r f st stands same. subst (λ (x : Memo). KeptAt me w r (Store at (own_word x.own (Tail c i) + 1)) f (λ n y. Unit {0}) (spot_at me.geometry (classes w) at)) same
      (lanes.tail_stored me w r f [] at i st (stands going) (there (classes w)) (subst (λ (x : Memo). MaySend me.geometry.clients c x i) (sym same) may)))
      (λ x e. ap (λ (y : Memo). core (tail_stored y (Tail c i) i v)) e)

  -- the head of a queue from another is stored, one more
  pub head_store : first ≡ false → (s : ℕ) → MayReceive me.geometry.clients c m s
      → IsWord first me (Store (address me.geometry (place.Head s c)) (own_word m.own (QueueHead s c) + 1)) (HeadStored c s) (word_for me (Store (address me.geometry (place.Head s c)) (own_word m.own (QueueHead s c) + 1))) m
  head_store going s may =
      let v : ℕ = own_word m.own (QueueHead s c) + 1 in
      let at : ℕ = address me.geometry (place.Head s c) in
      let there : (class : ℕ → ℕ → ℕ) → spot_at me.geometry class at ≡ QueueHead s c = λ class. spot-place me.geometry class (place.Head s c) (and_from _ _ (lt-ltb s me.geometry.clients may.from) (lt-ltb c me.geometry.clients l)) in
      store_at first me m l (place.Head s c) (QueueHead s c) v (λ x. head_stored x (QueueHead s c) s (own_word x.own (QueueHead s c) + 1)) (there, λ e. cc, refl)
      (λ w r f st stands same. subst (λ (x : Memo). KeptAt me w r (Store at (own_word x.own (QueueHead s c) + 1)) f (λ n y. Unit {0}) (spot_at me.geometry (classes w) at)) same
      (lanes.head_stored me w r f [] at s st (stands going) (there (classes w)) (subst (λ (x : Memo). MayReceive me.geometry.clients c x s) (sym same) may)))
      (λ x e. ap (λ (y : Memo). core (head_stored y (QueueHead s c) s v)) e)
