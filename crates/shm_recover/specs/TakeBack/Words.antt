-- the slot at the tail of a queue to another identity: what its block is, and the step down that takes it back
use Rattle.std.proofs.Common.{◌≡◌, ◌≢◌, ℕ, ◌+◌, ◌%◌, ◌^◌, ◌<◌, ◌≤◌, refl, sym, ap, ◌∙◌, subst, arith, Bool}
use Rattle.std.proofs.lemmas.Bool.{and_from, eq-eqb, lt-ltb}
use Rattle.std.specs.{Prelude.slice_index, List.Contains}
use Rattle.shm_words.specs.Layout.{address, total_of}
use Rattle.shm_words.specs.declared.place.Place.TheVariants as place
use Rattle.shm_graph.specs.declared.{ask.{Ask.TheVariants.Load, Me.Me}, spot.Spot.Spot}
use Rattle.shm_graph.specs.declared.{spot.Spot.TheVariants.{Era, QueueHead, Slot, Tail}, memo.Fact.TheVariants.Counter}
use Rattle.shm_graph.specs.{declared.memo.{Memo.Memo, Op.TheVariants.Nothing}, Core.core, Held.HeldAt, Laws.framed}
use Rattle.shm_graph.specs.Views.{own_word, view}
use Rattle.shm_graph.proofs.{Spots.SpotPlaces.spot-place, States.Holders.target_counted}
use Rattle.kind_parts.specs.Conditions.{IsHere}
use Rattle.kind_parts.proofs.{BeginSlots.room_unsent, Words.Own.{at_step, word_for}}
use Rattle.plans.specs.{Parts.IsHeld, Words.IsWord, Proved.WordSteps.load_at}
use Rattle.shm_count.specs.{Proved.DyingBlocks.live_room, Step.Control.IsInside}

-- ---- the head

-- the head of the queue to i is loaded: it leaves room where a block waits for its tail, and joins what was read
pub record HeadShown (c i : ℕ) (m : Memo) (n : ℕ) (x : Memo) : Type 0 where
  pub room : slice_index m.unsent i ≢ 0 → own_word m.own (Tail c i) < n + 8
  pub left : core x ≡ core m
  pub read : Contains x.facts (Counter (QueueHead c i) n)

-- ---- the block

-- block b waits in the queue to i for its tail; it is a counted block of the pool, and the own era leaves room for a step
pub record IsUnsent (me : Me) (i b : ℕ) (m : Memo) : Type 0 where
  pub names : slice_index m.unsent i ≡ b
  pub inside : IsInside me b
  pub room : b + 2 ≤ total_of me.geometry
  pub counted : Contains m.dying b → ⊥

module _ (me : Me) (l : me.who < me.geometry.clients) (i : ℕ) (li : i < me.geometry.clients) (other : i ≢ me.who) where
  abbrev c : ℕ
  c = me.who

  away : c ≢ i
  away e = other (sym e)

  -- the head may be loaded
  pub head_show : (first : Bool) (m : Memo) → IsWord first me (Load (address me.geometry (place.Head c i))) (HeadShown c i) (word_for me (Load (address me.geometry (place.Head c i)))) m
  head_show first m =
      let there : ℕ = address me.geometry (place.Head c i) in
      load_at first me there (HeadShown c i) m (QueueHead c i) (λ class. spot-place me.geometry class (place.Head c i) (and_from _ _ (lt-ltb c me.geometry.clients l) (lt-ltb i me.geometry.clients li))) (λ e. cc) refl tt
      (λ w r f st stands same.
      let own : own_word m.own (Tail c i) ≡ w (Tail c i) = ap (λ (y : Memo). own_word y.own (Tail c i)) (sym same) ∙ st.held.mine c l (Tail c i) (eq-eqb c c refl) in
      record {
        room = λ some. let y = room_unsent me.geometry w r c st.held l i li away (subst (λ (x : Memo). slice_index x.unsent i ≢ 0) (sym same) some) in omega arith;
        left = at_step r c m (framed me (Load there) f (w (QueueHead c i))) same;
        read = (0, omega arith, refl);
      })

  unsent_at : (w : Spot → ℕ) (r : ℕ → Memo) → HeldAt me.geometry w (view r) → slice_index (r c).unsent i ≢ 0 → IsUnsent me i (slice_index (r c).unsent i) (r c)
  unsent_at w r h some =
      let b = slice_index (r c).unsent i in
      let lane = h.lanes c i l li away in
      let counted = target_counted me.geometry w (view r) h (Slot c i (w (Tail c i) % 8)) b some (lane.next (room_unsent me.geometry w r c h l i li away some)) in
      let room = live_room me.geometry w r h b c counted.0 in
      record { names = refl; inside = room.0; room = (let q = room.1 in omega arith); counted = λ y. counted.1 ((h.dying c l).listed b y).1 }

  -- in a held state a block that waits for its tail is one
  pub unsent_block : (m : Memo) → IsHeld me m → slice_index m.unsent i ≢ 0 → IsUnsent me i (slice_index m.unsent i) m
  unsent_block m (w, r, h, same) = subst (λ (x : Memo). slice_index x.unsent i ≢ 0 → IsUnsent me i (slice_index x.unsent i) x) same (unsent_at w r h)

-- ---- the step down

-- block b stands in slot k, the next one of the queue to another, and its tail isn't stored
pub record MayBackAt (me : Me) (i k b : ℕ) (r : Memo) : Type 0 where
  pub here : IsHere r
  pub idle : r.op ≡ Nothing
  pub to : i < me.geometry.clients
  pub other : i ≢ me.who
  pub next : k ≡ own_word r.own (Tail me.who i) % 8
  pub some : b ≢ 0
  pub unsent : IsUnsent me i b r
  pub era : own_word r.own (Era me.who me.who) + 1 < 2 ^ 47
