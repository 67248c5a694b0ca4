-- the first slot of a queue from another identity, which an item may have been taken out of
use Rattle.std.proofs.Common.{◌≡◌, ◌≢◌, ℕ, ◌%◌, ◌<◌, ◌≤◌, refl, sym, ap, ◌∙◌, subst, arith, Bool, not, eqb, ◌&&◌, [], inl, inr}
use Rattle.std.proofs.lemmas.{Bool.{and_from, cases_eq, eq-eqb, lt-ltb}, List.Elements.{All-contains, All-get_or}}
use Rattle.std.specs.{Prelude.slice_index, List.Contains}
use Rattle.shm_words.specs.Layout.{address}
use Rattle.shm_words.specs.declared.place.Place.TheVariants as place
use Rattle.shm_graph.specs.declared.{ask.{Ask.TheVariants.Load, Me.Me}, spot.Spot.Spot}
use Rattle.shm_graph.specs.declared.{spot.Spot.TheVariants.{QueueHead, Slot, Tail}, memo.Fact.TheVariants.Counter}
use Rattle.shm_graph.specs.{declared.memo.{Memo.Memo, Op.TheVariants.Nothing, Step.Step}, Changes.called, Core.core}
use Rattle.shm_graph.specs.{Held.HeldAt, Laws.framed, Reach.learnt, MemoAfterRead.{is_head_slot, valued}}
use Rattle.shm_graph.specs.Views.{own_word, targets, view}
use Rattle.shm_graph.proofs.{Memos.Calls.FactHolds, States.Holders.Holds, StepKinds.Loads.choice}
use Rattle.shm_graph.proofs.Spots.SpotPlaces.{spot-place}
use Rattle.plans.specs.{Words.IsWord, Proved.WordSteps.load_at}
use Rattle.kind_parts.proofs.{BeginAt.word_target, Words.Own.{at_step, word_for}}

-- no step is in progress, and a tail that was read is above the own head of the queue from s
pub record IsFirstSlot (c : ℕ) (m : Memo) (s : ℕ) : Type 0 where
  pub idle : m.op ≡ Nothing
  pub some : (y : ℕ) × Contains m.facts (Counter (Tail s c) y) × (own_word m.own (QueueHead s c) < y)

-- the tail of the queue from s is loaded: it is above the own head where an item waits for it, and joins what was read
pub record TailShown (c s : ℕ) (m : Memo) (n : ℕ) (x : Memo) : Type 0 where
  pub above : slice_index m.untaken s ≢ 0 → own_word m.own (QueueHead s c) < n
  pub left : core x ≡ core m
  pub read : Contains x.facts (Counter (Tail s c) n)

-- the memo but for what it knows
abbrev pub unknowing : Memo → Memo
unknowing m = core (record m { known = []; values = [] })

-- the first slot of the queue from s is loaded: it is empty exactly where its item was taken out and waits for its head; nothing of the memo changed but what it knows
pub record FirstSlotLoaded (c s : ℕ) (m : Memo) (n : ℕ) (x : Memo) : Type 0 where
  pub empty : n ≡ 0 → slice_index m.untaken s ≢ 0
  pub named : n ≢ 0 → slice_index m.untaken s ≡ 0
  pub left : unknowing x ≡ unknowing m

module _ (first : Bool) (me : Me) (m : Memo) (l : me.who < me.geometry.clients) (s k : ℕ) (ls : s < me.geometry.clients) (other : s ≢ me.who) where
  abbrev c : ℕ
  c = me.who

  -- the tail may be loaded
  pub tail_show : IsWord first me (Load (address me.geometry (place.Tail s c))) (TailShown c s) (word_for me (Load (address me.geometry (place.Tail s c)))) m
  tail_show =
      let there : ℕ = address me.geometry (place.Tail s c) in
      load_at first me there (TailShown c s) m (Tail s c) (λ class. spot-place me.geometry class (place.Tail s c) (and_from _ _ (lt-ltb s me.geometry.clients ls) (lt-ltb c me.geometry.clients l))) (λ e. cc) refl tt
      (λ w r f st stands same.
      let own : own_word m.own (QueueHead s c) ≡ w (QueueHead s c) = ap (λ (y : Memo). own_word y.own (QueueHead s c)) (sym same) ∙ st.held.mine c l (QueueHead s c) (eq-eqb c c refl) in
      record {
        above = λ some. let y = ((st.held.lanes s c ls l other).taken (subst (λ (x : Memo). slice_index x.untaken s ≢ 0) (sym same) some)).0 in omega arith;
        left = at_step r c m (framed me (Load there) f (w (Tail s c))) same;
        read = (0, omega arith, refl);
      })

  -- what the word of the first slot says
  first_word : (w : Spot → ℕ) (r : ℕ → Memo) → HeldAt me.geometry w (view r) → IsFirstSlot c (r c) s → k ≡ own_word (r c).own (QueueHead s c) % 8
      → (w (Slot s c k) ≡ 0 → slice_index (r c).untaken s ≢ 0) × (w (Slot s c k) ≢ 0 → slice_index (r c).untaken s ≡ 0)
  first_word w r h a at =
      let y = a.some in
      let lane = h.lanes s c ls l other in
      let here : own_word (r c).own (QueueHead s c) ≡ w (QueueHead s c) = h.mine c l (QueueHead s c) (eq-eqb c c refl) in
      let most : y.0 ≤ w (Tail s c) = All-contains (FactHolds me.geometry w (view r)) (r c).facts (Counter (Tail s c) y.0) (h.facts c l) y.1 in
      let some : w (QueueHead s c) < w (Tail s c) = (let u = y.2 in omega arith) in
      let place : k ≡ w (QueueHead s c) % 8 = at ∙ ap (λ n. n % 8) here in
      let holds : Holds w me.geometry (view r) c (Slot s c k) = (other, inr (refl, place, some)) in
      let word : targets me.geometry w (view r) (Slot s c (w (QueueHead s c) % 8)) ≡ w (Slot s c k) = ap (λ j. targets me.geometry w (view r) (Slot s c j)) (sym place) ∙ word_target me.geometry w r c h l (Slot s c k) holds a.idle in
      elim (cases_eq (slice_index (r c).untaken s) 0) [
        | inl none ↦ (
          λ z. absurd (All-get_or (λ b. b ≢ 0) ((view r).sent s c) (w (QueueHead s c)) 0 (let n = lane.all_sent in omega arith) lane.some (sym (lane.items (w (QueueHead s c)) (omega arith) some (none, refl)) ∙ (word ∙ z))),
          λ z. none,
        )
        | inr taken ↦ (λ z. taken, λ z. absurd (z (sym word ∙ (lane.taken taken).2)))
      ]

  -- it may be loaded
  pub first_slot_load : IsFirstSlot c m s → k ≡ own_word m.own (QueueHead s c) % 8 → IsWord first me (Load (address me.geometry (place.Slot s c k))) (FirstSlotLoaded c s) (word_for me (Load (address me.geometry (place.Slot s c k)))) m
  first_slot_load a at =
      let there : ℕ = address me.geometry (place.Slot s c k) in
      let low : k < 8 = omega arith in
      load_at first me there (FirstSlotLoaded c s) m (Slot s c k)
      (λ class. spot-place me.geometry class (place.Slot s c k) (and_from _ _ (and_from _ _ (lt-ltb s me.geometry.clients ls) (lt-ltb c me.geometry.clients l)) (lt-ltb k 8 low))) (λ e. cc) refl tt
      (λ w r f st stands same. let t : Step = framed me (Load there) f (w (Slot s c k)) in let x : Memo = called (r c) t in let n : ℕ = w (Slot s c k) in
      let word = first_word w r st.held (subst (λ (y : Memo). IsFirstSlot c y s) (sym same) a) (at ∙ ap (λ (y : Memo). own_word y.own (QueueHead s c) % 8) (sym same)) in
      let before : slice_index (r c).untaken s ≡ slice_index m.untaken s = ap (λ (y : Memo). slice_index y.untaken s) same in
      let left : unknowing x ≡ unknowing m = ap (λ (y : Memo). record y { known = []; values = [] }) (at_step r c m t same) in
      record {
        empty = λ z e. word.0 z (before ∙ e);
        named = λ z. sym before ∙ word.1 z;
        left = choice (λ (y : Memo). unknowing y ≡ unknowing m) (is_head_slot c x s c k && not (eqb n 0)) (record x { known = learnt (Slot s c k) n x.known; values = valued x.part n x.values }) x (λ z. left) (λ z. left);
      })
