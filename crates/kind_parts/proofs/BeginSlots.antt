-- what a memo shows of a step that a redo word begins at an own root or home, or at a slot of a queue
use Rattle.std.proofs.Common.{◌≡◌, ◌≢◌, ℕ, ◌+◌, ◌%◌, ◌<◌, ◌≤◌, refl, sym, ap, ◌∙◌, arith, inl, inr}
use Rattle.std.proofs.lemmas.{Bool.{cases_eq, eq-eqb, ne_eqb, lt-ltb}, List.Elements.All-contains}
use Rattle.std.specs.{Prelude.slice_index, List.Contains}
use Rattle.shm_words.specs.declared.geometry.Geometry.{Geometry}
use Rattle.shm_words.specs.declared.redo.Redo.TheVariants as redos
use Rattle.shm_graph.specs.declared.{memo.{Fact.TheVariants.Counter, Memo.Memo, Op.TheVariants.Nothing}, spot.Spot.Spot}
use Rattle.shm_graph.specs.declared.spot.Spot.TheVariants.{Home, Era, Root, Tail, QueueHead, Slot}
use Rattle.shm_graph.specs.{Spots.{spot_address, IsAt}, Blocks.classes, Views.{view, own_word, targets}}
use Rattle.shm_graph.specs.Held.{HeldAt, odd}
use Rattle.shm_graph.proofs.{Memos.{Calls.FactHolds, KnownChange.KnownHolds}, Spots.Fixed.fixed_is_at}
use Rattle.shm_graph.proofs.States.Holders.{Holds}
use Rattle.kind_parts.specs.{OwnWords.RedoMayBegin, Beginning.{MayReplaceRoot, MaySet, MayPut, MayTake, MayTakeBack}}
use Rattle.kind_parts.proofs.BeginAt.{SlotHas, fixed_told, word_target, up_at, down_at, change_at}

module _ (g : Geometry) (w : Spot → ℕ) (r : ℕ → Memo) (c : ℕ) (h : HeldAt g w (view r)) (l : c < g.clients) where
  -- the memo
  abbrev m : Memo
  m = r c

  -- an own root that isn't empty
  pub root_has : (k a : ℕ) → a ≢ 0 → own_word m.own (Root c k) ≡ a → SlotHas g w r c (Root c k) a
  root_has k a some e =
      let word : w (Root c k) ≡ a = sym (h.mine c l (Root c k) (eq-eqb c c refl)) ∙ e in
      let at : IsAt g (classes w) (Root c k) = h.there (Root c k) (λ z. some (sym word ∙ z)) in
      record { told = fixed_told g (classes w) c m (Root c k) refl at; at = at; holds = refl; word = word }

  -- an own root is to have another block
  pub change_begins_root : (k a b : ℕ) → MayReplaceRoot c m k a b
      → RedoMayBegin g w r c (redos.Change (odd (own_word m.own (Era c c))) (spot_address g (Root c k)) a b)
  change_begins_root k a b x = change_at g w r c h l (Root c k) a b x.may (root_has k a x.some x.root) x.some refl refl x.other x.source

  -- the own home
  pub home_has : own_word m.own (Home c) ≡ 0 → SlotHas g w r c (Home c) 0
  home_has e =
      let at : IsAt g (classes w) (Home c) = fixed_is_at g (classes w) (Home c) refl (lt-ltb c g.clients l) in
      record { told = fixed_told g (classes w) c m (Home c) refl at; at = at; holds = refl; word = sym (h.mine c l (Home c) (eq-eqb c c refl)) ∙ e }

  -- a block in reach is to be put into the own home
  pub up_begins_home : (b : ℕ) → MaySet c m b → RedoMayBegin g w r c (redos.Up (spot_address g (Home c)) b)
  up_begins_home b x = up_at g w r c h l (Home c) b x.may (home_has x.empty) refl x.source

  -- ---- queues to others

  -- the own tail is the word
  tail_here : (i : ℕ) → own_word m.own (Tail c i) ≡ w (Tail c i)
  tail_here i = h.mine c l (Tail c i) (eq-eqb c c refl)

  -- where a head that was read leaves room, the queue has room
  pub room_left : (i y : ℕ) → Contains m.facts (Counter (QueueHead c i) y) → own_word m.own (Tail c i) < y + 8 → w (Tail c i) < w (QueueHead c i) + 8
  room_left i y k s =
      let most : y ≤ w (QueueHead c i) = All-contains (FactHolds g w (view r)) m.facts (Counter (QueueHead c i) y) (h.facts c l) k in
      let same = tail_here i in
      omega arith

  -- where a block waits for its tail, the queue has room
  pub room_unsent : (i : ℕ) → i < g.clients → c ≢ i → slice_index m.unsent i ≢ 0 → w (Tail c i) < w (QueueHead c i) + 8
  room_unsent i li o n =
      let lane = h.lanes c i l li o in
      let most = lane.room in
      elim (cases_eq (w (Tail c i)) (w (QueueHead c i) + 8)) [
        | inl z ↦ absurd (n (lane.full z))
        | inr z ↦ omega arith
      ]

  -- the next slot of a queue that has room has the block that waits for its tail
  pub tail_has : (i k x : ℕ) → i < g.clients → c ≢ i → m.op ≡ Nothing → k ≡ own_word m.own (Tail c i) % 8 → w (Tail c i) < w (QueueHead c i) + 8 → slice_index m.unsent i ≡ x → SlotHas g w r c (Slot c i k) x
  tail_has i k x li o idle next room waits =
      let lane = h.lanes c i l li o in
      let place : k ≡ w (Tail c i) % 8 = next ∙ ap (λ n. n % 8) (tail_here i) in
      let within : k < 8 = omega arith in
      let at : IsAt g (classes w) (Slot c i k) = fixed_is_at g (classes w) (Slot c i k) refl (rw (lt-ltb c g.clients l, lt-ltb i g.clients li, lt-ltb k 8 within) refl) in
      let holds : Holds w g (view r) c (Slot c i k) = (o, inl (refl, place, room)) in
      record {
        told = fixed_told g (classes w) c m (Slot c i k) refl at;
        at = at;
        holds = holds;
        word = sym (word_target g w r c h l (Slot c i k) holds idle) ∙ (ap (λ j. targets g w (view r) (Slot c i j)) place ∙ (lane.next room ∙ waits));
      }

  -- a block in reach is to be put into the next slot of a queue
  pub up_begins_send : (i k b : ℕ) → MayPut g.clients c m i k b
      → RedoMayBegin g w r c (redos.Up (spot_address g (Slot c i k)) b)
  up_begins_send i k b x =
      up_at g w r c h l (Slot c i k) b x.may (tail_has i k 0 x.to x.other x.may.idle x.next (room_left i x.read.0 x.read.1 x.read.2) x.none)
      (ne_eqb i c (λ z. x.other (sym z))) x.source

  -- the block that waits for its tail is to go
  pub down_begins_unsend : (i k b : ℕ) → MayTakeBack g.clients c m i k b
      → RedoMayBegin g w r c (redos.Down (spot_address g (Slot c i k)) b)
  down_begins_unsend i k b x =
      down_at g w r c h l (Slot c i k) b x.may
      (tail_has i k b x.to x.other x.may.idle x.next (room_unsent i x.to x.other (λ z. x.some (sym x.unsent ∙ z))) x.unsent)
      x.some refl

  -- ---- queues from others

  -- the head slot of a queue, where it is known
  pub head_has : (s k b : ℕ) → KnownHolds g w (view r) c (record { spot = Slot s c k; value = b }) → SlotHas g w r c (Slot s c k) b
  head_has s k b a =
      let at : IsAt g (classes w) (Slot s c k) = h.there (Slot s c k) (λ z. a.5 (sym a.6 ∙ z)) in
      record {
        told = fixed_told g (classes w) c m (Slot s c k) refl at;
        at = at;
        holds = (a.1, inr (refl, a.2, a.3));
        word = a.6;
      }

  -- the block of a head slot is to be taken
  pub down_begins_take : (s k b : ℕ) → MayTake c m s k b
      → RedoMayBegin g w r c (redos.Down (spot_address g (Slot s c k)) b)
  down_begins_take s k b x =
      let a : KnownHolds g w (view r) c (record { spot = Slot s c k; value = b }) = All-contains (KnownHolds g w (view r) c) m.known (record { spot = Slot s c k; value = b }) (h.known c l) x.known in
      down_at g w r c h l (Slot s c k) b x.may (head_has s k b a) a.5 refl
