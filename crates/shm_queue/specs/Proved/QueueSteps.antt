-- count steps at slots of queues: when they may begin, and what their slots leave of partitions and of lists: what is proved of it
use Rattle.std.proofs.Common.{◌≡◌, ℕ, ◌<◌, refl, sym, ap, ◌∙◌, arith, true, false, List, inl}
use Rattle.std.proofs.lemmas.Bool.{and_from, cond-true, eq-eqb, lt-ltb, true≢false}
use Rattle.std.specs.Prelude.{slice_index}
use Rattle.shm_words.specs.Layout.{GeometryFits, address, is_in, total_of, address_limit}
use Rattle.shm_words.specs.declared.place.Place.TheVariants as place
use Rattle.shm_words.proofs.Placing.{address_small, total_small}
use Rattle.shm_graph.specs.declared.{ask.Me.Me, spot.Spot.TheVariants.{Era, Slot, Spare}, memo.Memo.Memo}
use Rattle.shm_graph.specs.{declared.table.Part.{Part, TheVariants.{Loose, Table}}, Spots.spot_address}
use Rattle.shm_graph.specs.MemoAfterStore.{put}
use Rattle.shm_graph.proofs.Spots.{SpotPlaces.spot-place, Spotting.in_pool}
use Rattle.kind_parts.specs.{Raising.is_read, Reparting.Sight}
use Rattle.kind_parts.proofs.Items.{put_at}
use Rattle.shm_count.specs.{declared.point.{Aim.TheVariants.{Up, Down}, StepState.StepState}, Slots.MayStepAt}
use Rattle.shm_count.specs.Step.{CanStep, Parts.part_after}
use Rattle.shm_count.specs.declared.point.StepPoint.TheVariants as point
use Rattle.shm_queue.specs.QueueSteps.{MayPutAt, MayTakeAt}

-- ---- lists

-- an item that was put into a list is in it
pub put_here : (xs : List ℕ) (i x : ℕ) → slice_index (put 0 xs i x) i ≡ x
put_here xs i x = put_at 0 xs i x i ∙ cond-true _ _ _ (eq-eqb i i refl)

-- ---- partitions

-- no partition is read from a queue, and none changes with one
slot_unread : (part : Part) (s i k : ℕ) → is_read part (Slot s i k) ≡ false
slot_unread Loose s i k = refl
slot_unread (Table chains) s i k = refl

pub same_part : (c : ℕ) (t : Sight) (s i k x : ℕ) → part_after c t (Slot s i k) x ≡ t.part
same_part c t s i k x = go t.part refl
  where
    go : (part : Part) → t.part ≡ part → part_after c t (Slot s i k) x ≡ t.part
    go Loose e = ap (λ (q : Part). part_after c (record t { part = q }) (Slot s i k) x) e ∙ sym e
    go (Table chains) e = ap (λ (q : Part). part_after c (record t { part = q }) (Slot s i k) x) e ∙ sym e

-- so no step at the spare word changes one
pub spare_part : (c : ℕ) (t : Sight) (x : ℕ) → part_after c t Spare x ≡ t.part
spare_part c t x = go t.part refl
  where
    go : (part : Part) → t.part ≡ part → part_after c t Spare x ≡ t.part
    go Loose e = ap (λ (q : Part). part_after c (record t { part = q }) Spare x) e ∙ sym e
    go (Table chains) e = ap (λ (q : Part). part_after c (record t { part = q }) Spare x) e ∙ sym e

-- ---- slots

module _ (me : Me) (s i k : ℕ) (f : GeometryFits me.geometry) (ls : s < me.geometry.clients) (li : i < me.geometry.clients) (lk : k < 8) where
  abbrev at : ℕ
  at = address me.geometry (place.Slot s i k)

  slot_in : is_in me.geometry (place.Slot s i k) ≡ true
  slot_in = and_from _ _ (and_from _ _ (lt-ltb s me.geometry.clients ls) (lt-ltb i me.geometry.clients li)) (lt-ltb k 8 lk)

  slot_inside : (0 < at) × (at < total_of me.geometry)
  slot_inside = in_pool me.geometry (λ x y. 0) at (Slot s i k) (spot-place me.geometry (λ x y. 0) (place.Slot s i k) slot_in) (λ e. cc)

  slot_small : at < address_limit
  slot_small = address_small me.geometry (place.Slot s i k) slot_in f

-- ---- a step up at the next slot of a queue to another

module _ (me : Me) (i k b : ℕ) (r : Memo) (may : MayPutAt me i k b r) where
  abbrev put_step : StepState
  put_step = record { me = me; slot = address me.geometry (place.Slot me.who i k); aim = Up b; point = point.Era }

  put_low : k < 8
  put_low = let e = may.next in omega arith

  put_can : CanStep me (address me.geometry (place.Slot me.who i k)) (Up b) (Slot me.who i k) r
  unfolding spot_address
  put_can =
      record {
        geometry = may.geometry;
        who = may.who;
        here = may.here;
        idle = may.idle;
        client = λ e. may.client;
        at = refl;
        inside = slot_inside me me.who i k may.geometry may.who may.to put_low;
        blocks = may.inside;
        can = λ room. (refl, record { may = record { here = may.here; idle = may.idle; room = omega arith }; to = may.to; other = may.other; next = may.next; none = may.none; read = may.read; source = may.reach });
        put = may.read;
        reach = λ e. may.reach;
        part = inl (slot_unread r.part me.who i k);
        queued = λ loose slot up. may.value loose;
      }

  pub put_may : MayStepAt (Slot me.who i k) false put_step r
  put_may =
      let total = total_small me.geometry may.geometry in
      let low = may.inside.1 in
      record {
        step = record {
          made = refl;
          knows = record { geometry = may.geometry; who = may.who; slot = slot_small me me.who i k may.geometry may.who may.to put_low; aim = omega arith; point = tt };
          can = put_can;
        };
        at = refl;
        era = may.era;
      }

-- ---- a step down at the first slot of a queue from another

module _ (me : Me) (s k b : ℕ) (r : Memo) (may : MayTakeAt me s k b r) where
  abbrev take_step : StepState
  take_step = record { me = me; slot = address me.geometry (place.Slot s me.who k); aim = Down b; point = point.Era }

  take_can : CanStep me (address me.geometry (place.Slot s me.who k)) (Down b) (Slot s me.who k) r
  unfolding spot_address
  take_can =
      record {
        geometry = may.geometry;
        who = may.who;
        here = may.here;
        idle = may.idle;
        client = λ e. absurd (true≢false (sym e));
        at = refl;
        inside = slot_inside me s me.who k may.geometry may.from may.who may.low;
        blocks = may.inside;
        can = λ room. inl (refl, record { may = record { here = may.here; idle = may.idle; room = omega arith }; known = may.known });
        put = tt;
        reach = λ e. absurd (true≢false (sym e));
        part = inl (slot_unread r.part s me.who k);
        queued = λ loose slot up. absurd (true≢false (sym up));
      }

  pub take_may : MayStepAt (Slot s me.who k) true take_step r
  take_may =
      let total = total_small me.geometry may.geometry in
      let low = may.inside.1 in
      record {
        step = record {
          made = refl;
          knows = record { geometry = may.geometry; who = may.who; slot = slot_small me s me.who k may.geometry may.from may.who may.low; aim = omega arith; point = tt };
          can = take_can;
        };
        at = (refl, may.other);
        era = may.era;
      }
