-- the slot of a count step at an own root, the room for it, and the blocks that it names
use Rattle.std.proofs.Common.{◌≡◌, ◌≢◌, ℕ, ◌+◌, ◌^◌, ◌<◌, ◌≤◌, refl, sym, ap, ◌∙◌, subst, arith, Bool, true, false, cond, List, [], ◌∷◌, ◌++◌, eqb, zero, suc, inl, inr, Result}
use Rattle.std.proofs.lemmas.Bool.{cases_eq, cond-true, eq-eqb, eqb-true, ne_eqb, or_right, lt-ltb, and_from, false≢true}
use Rattle.std.proofs.lemmas.{Cmp.nat_eq_equiv, List.Elements.Contains-append_left}
use Rattle.std.proofs.lemmas.Map.Views.{Contains-from_any, list_any-from_Contains}
use Rattle.std.specs.{Prelude.{Ok, Err}, Result.is_ok, List.{Contains, list_any, filter}}
use Rattle.shm_words.specs.{declared.geometry.Geometry.Geometry, Layout.{GeometryFits, address, is_in}}
use Rattle.shm_words.specs.declared.place.Place.TheVariants as place
use Rattle.shm_words.proofs.Placing.{address_below, address_small, total_small}
use Rattle.shm_graph.specs.declared.{ask.Me.Me, memo.Memo.Memo, spot.Spot.Spot, table.Part.Part}
use Rattle.shm_graph.specs.{declared.table.Part.TheVariants.{Loose, Table}, Agents.recovers, Asks.Trail, Blocks.classes}
use Rattle.shm_graph.specs.{Held.HeldAt, Idle.IsIdle, Ops.{cover, cover_of}}
use Rattle.shm_graph.specs.Reach.{in_slots, is_reached, named_blocks, not_zero, reached_blocks, roots_below, shown}
use Rattle.shm_graph.specs.{Spots.{IsAt, spot_address, spot_at}, Views.{own_word, view}}
use Rattle.shm_graph.specs.declared.memo.Op.TheVariants as op
use Rattle.shm_graph.specs.declared.spot.Spot.TheVariants as spot
use Rattle.shm_graph.proofs.Spots.{SpotPlaces.spot-place, Spotting.same_spot_self}
use Rattle.kind_parts.specs.{Conditions.IsHere, Raising.is_read}
use Rattle.kind_parts.proofs.Cores.{room_least}
use Rattle.shm_count.specs.declared.{answer.UpFault.UpFault, point.Aim.{Aim, TheVariants.{Up, Down, Change}}}
use Rattle.shm_count.specs.{declared.point.Half.TheVariants.{First, Second}, Proved.Step.Beginning.begins_slot}
use Rattle.shm_count.specs.Proved.Step.{Going.begins, Memos.closed_part}
use Rattle.shm_count.specs.Step.Control.{AimFits, AimSmall, IsInside, block_at, last_era, raises, value_after}
use Rattle.shm_count.specs.Step.{CanAim, CanStep, Done, HasPut, StepFits, StepGives, closed_memo, set_memo, slot_memo}
use Rattle.shm_count.specs.Roots.{AreRootsReached, member, root_step}
use Rattle.shm_count.proofs.RootMemos.{StepLeft, up_done, down_done, change_done, left_done, left_refused}
pub use Rattle.shm_count.specs.Proved.Idles.{is_here}

-- ---- it begins

-- a root is no word of a queue, and no word that a partition is read from
root_put : (c : ℕ) (x : Aim) (k : ℕ) (m : Memo) → HasPut c x (spot.Root c k) m
root_put c (Up b) k m = tt
root_put c _ k m = tt

root_unread : (part : Part) (c k : ℕ) → is_read part (spot.Root c k) ≡ false
root_unread Loose c k = refl
root_unread (Table chains) c k = refl

-- blocks of the pool fit in a redo record
aim_small : (g : Geometry) (c : ℕ) (x : Aim) → GeometryFits g → AimFits (member g c) x → AimSmall x
aim_small g c (Up b) f k = let l = total_small g f in let y = k.1 in omega arith
aim_small g c (Down b) f k = let l = total_small g f in let y = k.1 in omega arith
aim_small g c (Change a b) f k = let l = total_small g f in let y = k.0.1 in let z = k.1.1 in (omega arith, omega arith)

-- a block of the pool isn't 0
pub some_inside : (g : Geometry) (c b : ℕ) → IsInside (member g c) b → b ≢ 0
some_inside g c b h = λ e. let l = h.0 in absurd (omega arith)

module _ (g : Geometry) (c k : ℕ) (f : GeometryFits g) (l : c < g.clients) (s : k < 16) where
  abbrev at : ℕ
  at = address g (place.Root c k)

  root_in : is_in g (place.Root c k) ≡ true
  root_in = and_from _ _ (lt-ltb c g.clients l) (lt-ltb k 16 s)

  root_some : 0 < at
  unfolding address
  root_some = omega arith

  -- a step at a root may begin where none is in progress and the memo shows the root to be so
  pub root_can : (x : Aim) (r : Memo) → IsHere r → r.op ≡ op.Nothing → (raises x First ≡ true → recovers r ≡ false) → AimFits (member g c) x → (own_word r.own (spot.Era c c) ≤ last_era x → CanAim g.wide g.clients c r x (spot.Root c k))
      → (raises x First ≡ true → is_reached c r (block_at x First) ≡ true) → CanStep (member g c) at x (spot.Root c k) r
  unfolding spot_address
  root_can x r here idle client blocks can reach =
      record {
        geometry = f;
        who = l;
        here = here;
        idle = idle;
        client = client;
        at = refl;
        inside = (root_some, address_below g (place.Root c k) root_in f);
        blocks = blocks;
        can = can;
        put = root_put c x k r;
        reach = reach;
        part = inl (root_unread r.part c k);
        queued = λ n is up. absurd (false≢true is);
      }

  -- so it may for an identity between two calls
  pub can_root : (x : Aim) (r : Memo) → IsIdle c r → (raises x First ≡ true → recovers r ≡ false) → AimFits (member g c) x → (own_word r.own (spot.Era c c) ≤ last_era x → CanAim g.wide g.clients c r x (spot.Root c k))
      → (raises x First ≡ true → is_reached c r (block_at x First) ≡ true) → CanStep (member g c) at x (spot.Root c k) r
  can_root x r idle client blocks can reach = root_can x r (is_here c r idle) idle.op client blocks can reach

  -- and it fits
  pub fits_root : (x : Aim) (r : Memo) → AimFits (member g c) x → CanStep (member g c) at x (spot.Root c k) r → StepFits (spot.Root c k) (root_step g c k x) r r []
  fits_root x r blocks can =
      begins (spot.Root c k) (root_step g c k x) r refl
      (record { geometry = f; who = l; slot = address_small g (place.Root c k) root_in f; aim = aim_small g c x f blocks; point = tt })
      can

-- ---- roots and reach

-- a root is one of the roots below 16
root_listed : (c : ℕ) (m : Memo) (k n : ℕ) → k < n → Contains (roots_below c m n) (shown m (spot.Root c k))
root_listed c m k zero l = absurd (omega arith)
root_listed c m k (suc n) l =
    elim (cases_eq k n) [
      | inl e ↦ (0, omega arith, ap (λ j. shown m (spot.Root c j)) (sym e))
      | inr o ↦ (let h = root_listed c m k n (omega arith) in (suc h.0, omega arith, h.2))
    ]

-- a block that a list names is there without the zeros too
any_more : (b x : ℕ) (t : Bool) (xs : List ℕ) → list_any (eqb b) xs ≡ true → list_any (eqb b) (cond t (x ∷ xs) xs) ≡ true
any_more b x true xs h = or_right (eqb b x) _ h
any_more b x false xs h = h

any_kept : (b : ℕ) → b ≢ 0 → (xs : List ℕ) → list_any (eqb b) xs ≡ true → list_any (eqb b) (filter not_zero xs) ≡ true
any_kept b n [] h = h
any_kept b n (x ∷ xs) h =
    elim (cases_eq b x) [
      | inl q ↦ subst (λ y. list_any (eqb b) (cond (not_zero y) (y ∷ filter not_zero xs) (filter not_zero xs)) ≡ true) q (rw (ne_eqb b 0 n, eq-eqb b b refl) refl)
      | inr o ↦ any_more b x (not_zero x) (filter not_zero xs) (any_kept b n xs (rw (ne_eqb b x o) at h))
    ]

-- where no step is in progress the blocks that roots name are in reach
pub roots_reached : (c : ℕ) (m : Memo) → m.op ≡ op.Nothing → AreRootsReached c m
roots_reached c m idle k b s some e =
    let is : shown m (spot.Root c k) ≡ b = ap (λ o. cover (cover_of o) (spot.Root c k) (own_word m.own (spot.Root c k))) idle ∙ e in
    let root : Contains (roots_below c m 16) b = subst (Contains (roots_below c m 16)) is (root_listed c m k 16 s) in
    let all : List ℕ = roots_below c m 16 ++ shown m (spot.Home c) ∷ in_slots m.known in
    let found : list_any (eqb b) all ≡ true = list_any-from_Contains nat_eq_equiv b all (Contains-append_left (roots_below c m 16) (shown m (spot.Home c) ∷ in_slots m.known) b root) in
    let named : Contains (named_blocks c m) b = Contains-from_any eqb-true b (named_blocks c m) (any_kept b some all found) in
    list_any-from_Contains nat_eq_equiv b (reached_blocks c m) (Contains-append_left (named_blocks c m) _ b named)

-- ---- it is done

module _ (g : Geometry) (c : ℕ) (l : c < g.clients) where
  abbrev me : Me
  me = member g c

  -- after a step that is done the invariant says that its own era left room
  own_closed : (e : ℕ) (m : Memo) → own_word (closed_memo me e m).own (spot.Era c c) ≡ e + 1
  own_closed e m = closed_part (λ (y : Memo). own_word y.own (spot.Era c c)) me e m refl ∙ cond-true _ _ _ (same_spot_self (spot.Era c c))

  own_room : (w : Spot → ℕ) (r : ℕ → Memo) → HeldAt g w (view r) → own_word (r c).own (spot.Era c c) + 2 ≤ 2 ^ 47
  own_room w r h = let y = h.mine c l (spot.Era c c) (eq-eqb c c refl) in let z = (h.own c l).room in let u = room_least (r c).op in omega arith

  room_done : (slot : ℕ) (x : Aim) (p : Spot) (r0 : Memo) (w : Spot → ℕ) (r : ℕ → Memo) (z : Bool) → HeldAt g w (view r) → Done me slot x p r0 (r c) z → own_word r0.own (spot.Era c c) ≤ last_era x
  room_done slot (Up b) p r0 w r z h d =
      let y = up_done me slot b p r0 (r c) z d in
      let own = ap (λ (m : Memo). own_word m.own (spot.Era c c)) y.same ∙ own_closed y.e (slot_memo me (Up b) p y.e y.q y.w) in
      let e = y.at.0 in let u = own_room w r h in omega arith
  room_done slot (Down b) p r0 w r z h d =
      let y = down_done me slot b p r0 (r c) z d in
      let own = ap (λ (m : Memo). own_word m.own (spot.Era c c)) y.same ∙ own_closed y.e (slot_memo me (Down b) p y.e y.q y.w) in
      let e = y.at.0 in let u = own_room w r h in omega arith
  room_done slot (Change a b) p r0 w r z h d =
      let y = change_done me slot a b p r0 (r c) z d in
      let own = ap (λ (m : Memo). own_word m.own (spot.Era c c)) y.same ∙ own_closed (y.d + 1) (set_memo me (Change a b) p (y.d + 1) Second y.q y.w) in
      let e = y.at.0 in let u = own_room w r h in omega arith

  -- the pool has the slot of a step that could begin
  slot_at : (slot : ℕ) (x : Aim) (p : Spot) (w : Spot → ℕ) (r : ℕ → Memo) → HeldAt g w (view r) → CanStep me slot x p (r c) → own_word (r c).own (spot.Era c c) ≤ last_era x → IsAt g (classes w) p
  slot_at slot x p w r h can room =
      begins_slot g w r c h l x p (can.can room)

  -- so that it is the root whose address it has
  root_slot : (k : ℕ) (x : Aim) (p : Spot) (w : Spot → ℕ) (r : ℕ → Memo) → k < 16 → HeldAt g w (view r) → CanStep me (address g (place.Root c k)) x p (r c) → own_word (r c).own (spot.Era c c) ≤ last_era x → p ≡ spot.Root c k
  root_slot k x p w r s h can room =
      sym (slot_at (address g (place.Root c k)) x p w r h can room)
      ∙ (ap (spot_at g (classes w)) (sym can.at) ∙ spot-place g (classes w) (place.Root c k) (and_from _ _ (lt-ltb c g.clients l) (lt-ltb k 16 s)))

  -- what is left of a step at a root: what the answer tells
  pub done_root : (k : ℕ) (x : Aim) (p : Spot) (w w' : Spot → ℕ) (r r' : ℕ → Memo) (tr : Trail) (z : Bool) → k < 16 → HeldAt g w (view r) → HeldAt g w' (view r')
      → StepGives p (root_step g c k x) (r c) (r' c) tr (Ok z) → (own_word (r c).own (spot.Era c c) ≤ last_era x) × Done me (address g (place.Root c k)) x (spot.Root c k) (r c) (r' c) z
  done_root k x p w w' r r' tr z s h h' gives =
      let room = room_done (address g (place.Root c k)) x p (r c) w' r' z h' gives.gives in
      (room, subst (λ q. Done me (address g (place.Root c k)) x q (r c) (r' c) z) (root_slot k x p w r s h gives.can room) gives.gives)

  pub left_root : (k : ℕ) (x : Aim) (p : Spot) (w w' : Spot → ℕ) (r r' : ℕ → Memo) (tr : Trail) (a : Result Bool UpFault) → k < 16 → HeldAt g w (view r) → HeldAt g w' (view r') → IsIdle c (r c)
      → StepGives p (root_step g c k x) (r c) (r' c) tr a → StepLeft me (address g (place.Root c k)) k (r c) (value_after x) (is_ok a) (r' c)
  left_root k x p w w' r r' tr (Ok z) s h h' idle gives = left_done me (address g (place.Root c k)) k (r c) x (r' c) z idle (done_root k x p w w' r r' tr z s h h' gives).1
  left_root k x p w w' r r' tr (Err e) s h h' idle gives = left_refused me (address g (place.Root c k)) k (r c) x (value_after x) (r' c) e idle gives.gives
