-- a count step begins at the slot that it could begin at
use Rattle.std.proofs.Common.{◌≡◌, ◌≢◌, ℕ, ◌+◌, ◌%◌, ◌^◌, ◌<◌, ◌≤◌, refl, sym, ap, ◌∙◌, subst, true, false, inl, inr, ◌⊎◌}
use Rattle.std.proofs.lemmas.{Bool.{eq-eqb, ne_eqb}, List.Elements.All-contains}
use Rattle.std.specs.{Prelude.{slice_index, Bool}, List.Contains}
use Rattle.shm_words.specs.{Redos.redo_first, declared.{redo.Redo.Redo as ARedo, geometry.Geometry.Geometry}}
use Rattle.shm_graph.specs.{declared.{spot.Spot.Spot, memo.Memo.Memo}, Blocks.classes}
use Rattle.shm_graph.specs.{Held.{HeldAt, is_home, is_slot, is_slot_to, odd}, Reach.is_reached}
use Rattle.shm_graph.specs.{Spots.{spot_address, IsAt}, MemoAfterStore.{is_block_made, with_own}, Telling.claims}
use Rattle.shm_graph.specs.{Views.{view, own_word}, Core.core}
use Rattle.shm_graph.specs.declared.spot.Spot.TheVariants as spot
use Rattle.shm_graph.specs.declared.memo.Op.TheVariants as op
use Rattle.shm_graph.proofs.Memos.KnownChange.{KnownHolds}
use Rattle.kind_parts.specs.{Beginning.{HasRoom, MayStoreIn, IsOwnWord}, Conditions.IsHere}
use Rattle.kind_parts.specs.OwnWords.{op_begun, RedoMayBegin, SecondStored}
use Rattle.kind_parts.proofs.BeginAt.{SlotHas, fixed_told, up_begun_at, down_begun_at, change_begun_at, up_at, down_at, change_at}
use Rattle.kind_parts.proofs.BeginSlots.{root_has, home_has, room_left, room_unsent, tail_has, head_has}
use Rattle.kind_parts.proofs.{BeginWords.own_word_has, OwnStoresRedo.root_at, Cores.here_same}
use Rattle.shm_count.specs.declared.point.{Aim.{Aim, TheVariants.{Up, Down, Change}}, Half.TheVariants.First}
use Rattle.shm_count.specs.Step.Control.{block_at, raises, redo_at}
use Rattle.shm_count.specs.Step.{HasPut, CanUp, CanDown, CanChange, CanAim, begun_op}

-- ---- what the memo shows of the slot

module _ (n c : ℕ) (m m' : Memo) (e : core m' ≡ core m) where
  -- what holds of the parts that stay
  on : (P : Memo → Type 0) → P (core m) → P (core m')
  on P h = subst P (sym e) h

  is_here : IsHere m → IsHere m'
  is_here h = here_same m m' (ap (λ (x : Memo). x.status) e) h

  room_on : (k : ℕ) → HasRoom c m k → HasRoom c m' k
  room_on k h = record { here = is_here h.here; idle = on (λ x. x.op ≡ op.Nothing) h.idle; room = on (λ x. own_word x.own (spot.Era c c) + k ≤ 2 ^ 47) h.room }

  word_on : (wide : Bool) (d i x : ℕ) → IsOwnWord wide c m d i x → IsOwnWord wide c m' d i x
  word_on wide d i x h =
      record {
        told = (h.told.0, on (λ y. Contains (claims wide c y) h.told.0) h.told.1, h.told.2, h.told.3, on (λ y. MayStoreIn c y d h.told.0.author) h.told.4);
        word = on (λ y. Contains y.known (record { spot = spot.Body d i; value = x })) h.word;
      }

  up_on : (wide : Bool) (b : ℕ) (p : Spot) → HasPut c (Up b) p m' → CanUp wide n c m b p → CanUp wide n c m' b p
  up_on wide b (spot.Root d k) put (own, h) = (
    own,
    record {
      here = is_here h.here;
      idle = on (λ x. x.op ≡ op.Nothing) h.idle;
      root = h.root;
      empty = on (λ x. own_word x.own (spot.Root c k) ≡ 0) h.empty;
      room = on (λ x. own_word x.own (spot.Era c c) + 3 ≤ 2 ^ 47) h.room;
      source = on (λ x. (is_block_made x.making b ≡ true) ⊎ (is_reached c x b ≡ true)) h.source;
    },
  )
  up_on wide b (spot.Home d) put (own, h) =
      (own, record { may = room_on 3 h.may; empty = on (λ x. own_word x.own (spot.Home c) ≡ 0) h.empty; source = on (λ x. is_reached c x b ≡ true) h.source })
  up_on wide b (spot.Slot s i k) put (own, h) = (
    own,
    record {
      may = room_on 3 h.may;
      to = h.to;
      other = h.other;
      next = on (λ x. k ≡ own_word x.own (spot.Tail c i) % 8) h.next;
      none = on (λ x. slice_index x.unsent i ≡ 0) h.none;
      read = put;
      source = on (λ x. is_reached c x b ≡ true) h.source;
    },
  )
  up_on wide b (spot.Body d i) put h = record { may = room_on 3 h.may; word = word_on wide d i 0 h.word; source = on (λ x. is_reached c x b ≡ true) h.source }
  up_on wide b _ put h = absurd h

  down_on : (wide : Bool) (b : ℕ) (p : Spot) → CanDown wide n c m b p → CanDown wide n c m' b p
  down_on wide b (spot.Root d k) (own, h) = (
    own,
    record {
      here = is_here h.here;
      idle = on (λ x. x.op ≡ op.Nothing) h.idle;
      some = h.some;
      root = on (λ x. own_word x.own (spot.Root c k) ≡ b) h.root;
      room = on (λ x. own_word x.own (spot.Era c c) + 3 ≤ 2 ^ 47) h.room;
    },
  )
  down_on wide b (spot.Slot s i k) (inl (own, h)) = inl (own, record { may = room_on 3 h.may; known = on (λ x. Contains x.known (record { spot = spot.Slot s c k; value = b })) h.known })
  down_on wide b (spot.Slot s i k) (inr (own, h)) =
      inr (
        own,
        record {
          may = room_on 3 h.may;
          to = h.to;
          other = h.other;
          next = on (λ x. k ≡ own_word x.own (spot.Tail c i) % 8) h.next;
          some = h.some;
          unsent = on (λ x. slice_index x.unsent i ≡ b) h.unsent;
        },
      )
  down_on wide b (spot.Body d i) h = record { may = room_on 3 h.may; some = h.some; word = word_on wide d i b h.word }
  down_on wide b _ h = absurd h

  change_on : (wide : Bool) (a b : ℕ) (p : Spot) → CanChange wide c m a b p → CanChange wide c m' a b p
  change_on wide a b (spot.Root d k) (own, h) =
      (own, record { may = room_on 4 h.may; some = h.some; root = on (λ x. own_word x.own (spot.Root c k) ≡ a) h.root; other = h.other; source = on (λ x. is_reached c x b ≡ true) h.source })
  change_on wide a b (spot.Body d i) h = record { may = room_on 4 h.may; some = h.some; word = word_on wide d i a h.word; other = h.other; source = on (λ x. is_reached c x b ≡ true) h.source }
  change_on wide a b _ h = absurd h

  -- what it shows of the slot it shows where these parts are the same, with what it has read in this call
  pub can_on : (wide : Bool) (x : Aim) (p : Spot) → HasPut c x p m' → CanAim wide n c m x p → CanAim wide n c m' x p
  can_on wide (Up b) p put h = up_on wide b p put h
  can_on wide (Down b) p put h = down_on wide b p h
  can_on wide (Change a b) p put h = change_on wide a b p h

-- ---- in format 2 the second word of the redo record is stored before

module _ (wide : Bool) (n c v : ℕ) (m : Memo) where
  abbrev ready : Memo
  ready = with_own m (spot.RedoMore c) v

  room_ready : (k : ℕ) → HasRoom c m k → HasRoom c ready k
  room_ready k h = record { here = here_same m ready refl h.here; idle = h.idle; room = h.room }

  word_ready : (d i x : ℕ) → IsOwnWord wide c m d i x → IsOwnWord wide c ready d i x
  word_ready d i x h = record { told = h.told; word = h.word }

  up_ready : (b : ℕ) (p : Spot) → CanUp wide n c m b p → CanUp wide n c ready b p
  up_ready b (spot.Root d k) (own, h) = (own, record { here = here_same m ready refl h.here; idle = h.idle; root = h.root; empty = h.empty; room = h.room; source = h.source })
  up_ready b (spot.Home d) (own, h) = (own, record { may = room_ready 3 h.may; empty = h.empty; source = h.source })
  up_ready b (spot.Slot s i k) (own, h) = (own, record { may = room_ready 3 h.may; to = h.to; other = h.other; next = h.next; none = h.none; read = h.read; source = h.source })
  up_ready b (spot.Body d i) h = record { may = room_ready 3 h.may; word = word_ready d i 0 h.word; source = h.source }
  up_ready b _ h = absurd h

  down_ready : (b : ℕ) (p : Spot) → CanDown wide n c m b p → CanDown wide n c ready b p
  down_ready b (spot.Root d k) (own, h) = (own, record { here = here_same m ready refl h.here; idle = h.idle; some = h.some; root = h.root; room = h.room })
  down_ready b (spot.Slot s i k) (inl (own, h)) = inl (own, record { may = room_ready 3 h.may; known = h.known })
  down_ready b (spot.Slot s i k) (inr (own, h)) = inr (own, record { may = room_ready 3 h.may; to = h.to; other = h.other; next = h.next; some = h.some; unsent = h.unsent })
  down_ready b (spot.Body d i) h = record { may = room_ready 3 h.may; some = h.some; word = word_ready d i b h.word }
  down_ready b _ h = absurd h

  change_ready : (a b : ℕ) (p : Spot) → CanChange wide c m a b p → CanChange wide c ready a b p
  change_ready a b (spot.Root d k) (own, h) = (own, record { may = room_ready 4 h.may; some = h.some; root = h.root; other = h.other; source = h.source })
  change_ready a b (spot.Body d i) h = record { may = room_ready 4 h.may; some = h.some; word = word_ready d i a h.word; other = h.other; source = h.source }
  change_ready a b _ h = absurd h

  -- what the memo shows of the slot it shows still
  pub can_ready : (x : Aim) (p : Spot) → CanAim wide n c m x p → CanAim wide n c ready x p
  can_ready (Up b) p h = up_ready b p h
  can_ready (Down b) p h = down_ready b p h
  can_ready (Change a b) p h = change_ready a b p h

-- ---- the step begins

-- the slot of a step has its block before, and the identity may store it
abbrev UpHas : (g : Geometry) (w : Spot → ℕ) (r : ℕ → Memo) (c : ℕ) (p : Spot) → Type 0
UpHas g w r c p = HasRoom c (r c) 3 × SlotHas g w r c p 0 × (is_slot_to c p ≡ false)

abbrev DownHas : (g : Geometry) (w : Spot → ℕ) (r : ℕ → Memo) (c b : ℕ) (p : Spot) → Type 0
DownHas g w r c b p = HasRoom c (r c) 3 × SlotHas g w r c p b × (b ≢ 0) × (is_home p ≡ false)

abbrev ChangeHas : (g : Geometry) (w : Spot → ℕ) (r : ℕ → Memo) (c a b : ℕ) (p : Spot) → Type 0
ChangeHas g w r c a b p = HasRoom c (r c) 4 × SlotHas g w r c p a × (a ≢ 0) × (is_slot p ≡ false) × (is_home p ≡ false) × (a ≢ b) × (is_reached c (r c) b ≡ true)

module _ (g : Geometry) (w : Spot → ℕ) (r : ℕ → Memo) (c : ℕ) (h : HeldAt g w (view r)) (l : c < g.clients) where
  abbrev m : Memo
  m = r c

  -- an own root that is empty
  root_empty : (k : ℕ) → k < 16 → own_word m.own (spot.Root c k) ≡ 0 → SlotHas g w r c (spot.Root c k) 0
  root_empty k s e =
      let at : IsAt g (classes w) (spot.Root c k) = root_at g w r c h l k s in
      record { told = fixed_told g (classes w) c m (spot.Root c k) refl at; at = at; holds = refl; word = sym (h.mine c l (spot.Root c k) (eq-eqb c c refl)) ∙ e }

  up_has : (b : ℕ) (p : Spot) → CanUp g.wide g.clients c m b p → UpHas g w r c p
  up_has b (spot.Root d k) (own, x) =
      subst (λ i. UpHas g w r c (spot.Root i k)) (sym own) (record { here = x.here; idle = x.idle; room = x.room }, root_empty k x.root x.empty, refl)
  up_has b (spot.Home d) (own, x) = subst (λ i. UpHas g w r c (spot.Home i)) (sym own) (x.may, home_has g w r c h l x.empty, refl)
  up_has b (spot.Slot s i k) (own, x) =
      subst (λ j. UpHas g w r c (spot.Slot j i k)) (sym own)
      (x.may, tail_has g w r c h l i k 0 x.to x.other x.may.idle x.next (room_left g w r c h l i x.read.0 x.read.1 x.read.2) x.none, ne_eqb i c (λ z. x.other (sym z)))
  up_has b (spot.Body d i) x = (x.may, own_word_has g w r c h l d i 0 x.word, refl)
  up_has b _ x = absurd x

  down_has : (b : ℕ) (p : Spot) → CanDown g.wide g.clients c m b p → DownHas g w r c b p
  down_has b (spot.Root d k) (own, x) =
      subst (λ i. DownHas g w r c b (spot.Root i k)) (sym own) (record { here = x.here; idle = x.idle; room = x.room }, root_has g w r c h l k b x.some x.root, x.some, refl)
  down_has b (spot.Slot s i k) (inl (own, x)) =
      let a : KnownHolds g w (view r) c (record { spot = spot.Slot s c k; value = b }) = All-contains (KnownHolds g w (view r) c) m.known (record { spot = spot.Slot s c k; value = b }) (h.known c l) x.known in
      subst (λ j. DownHas g w r c b (spot.Slot s j k)) (sym own) (x.may, head_has g w r c h l s k b a, a.5, refl)
  down_has b (spot.Slot s i k) (inr (own, x)) =
      subst (λ j. DownHas g w r c b (spot.Slot j i k)) (sym own)
      (x.may, tail_has g w r c h l i k b x.to x.other x.may.idle x.next (room_unsent g w r c h l i x.to x.other (λ z. x.some (sym x.unsent ∙ z))) x.unsent, x.some, refl)
  down_has b (spot.Body d i) x = (x.may, own_word_has g w r c h l d i b x.word, x.some, refl)
  down_has b _ x = absurd x

  change_has : (a b : ℕ) (p : Spot) → CanChange g.wide c m a b p → ChangeHas g w r c a b p
  change_has a b (spot.Root d k) (own, x) =
      subst (λ i. ChangeHas g w r c a b (spot.Root i k)) (sym own) (x.may, root_has g w r c h l k a x.some x.root, x.some, refl, refl, x.other, x.source)
  change_has a b (spot.Body d i) x = (x.may, own_word_has g w r c h l d i a x.word, x.some, refl, refl, x.other, x.source)
  change_has a b _ x = absurd x

  -- the pool has its slot
  pub begins_slot : (x : Aim) (p : Spot) → CanAim g.wide g.clients c m x p → IsAt g (classes w) p
  begins_slot (Up b) p can = (up_has b p can).1.at
  begins_slot (Down b) p can = (down_has b p can).1.at
  begins_slot (Change d b) p can = (change_has d b p can).1.at

  -- the redo record of a step at the own era
  abbrev pub record_of : Aim → Spot → ARedo
  record_of x p = redo_at x (spot_address g p) (own_word m.own (spot.Era c c))

  -- it begins the step
  pub begins_here : (x : Aim) (p : Spot) → CanAim g.wide g.clients c m x p → (raises x First ≡ true → is_reached c m (block_at x First) ≡ true)
      → RedoMayBegin g w r c (record_of x p) × (SecondStored g c m (record_of x p) → op_begun g c m (redo_first g.wide (record_of x p)) ≡ begun_op x p (own_word m.own (spot.Era c c)))
  begins_here (Up b) p can reach = let a = up_has b p can in (up_at g w r c h l p b a.0 a.1 a.2 (reach refl), up_begun_at g w r c h l p b 0 a.1 (reach refl))
  begins_here (Down b) p can reach = let a = down_has b p can in (down_at g w r c h l p b a.0 a.1 a.2 a.3, down_begun_at g w r c h l p b a.1 a.2 a.0.idle)
  begins_here (Change d b) p can reach =
      let a = change_has d b p can in
      (change_at g w r c h l p d b a.0 a.1 a.2 a.3 a.4 a.5 a.6, change_begun_at g w r c h l p d b (odd (own_word m.own (spot.Era c c))) a.1 a.2 a.0.idle a.6)
