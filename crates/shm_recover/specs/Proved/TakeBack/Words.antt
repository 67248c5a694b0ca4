-- the slot at the tail of a queue to another identity: what its block is, and the step down that takes it back: what is proved of it
use Rattle.std.proofs.Common.{◌≡◌, ℕ, ◌<◌, refl, sym, arith, true, false, inl, inr}
use Rattle.std.proofs.lemmas.Bool.{and_from, lt-ltb, true≢false}
use Rattle.shm_words.specs.Layout.{GeometryFits, address, is_in, total_of}
use Rattle.shm_words.specs.declared.place.Place.TheVariants as place
use Rattle.shm_words.proofs.Placing.{address_small, total_small}
use Rattle.shm_graph.specs.declared.{ask.Me.Me, spot.Spot.TheVariants.{Era, Slot}, memo.Memo.Memo, table.Part.Part}
use Rattle.shm_graph.specs.{declared.table.Part.TheVariants.{Loose, Table}, Spots.spot_address}
use Rattle.shm_graph.proofs.Spots.{SpotPlaces.spot-place, Spotting.in_pool}
use Rattle.kind_parts.specs.Raising.{is_read}
use Rattle.shm_count.specs.{declared.point.{Aim.TheVariants.Down, StepState.StepState}, Slots.MayStepAt, Step.CanStep}
use Rattle.shm_count.specs.declared.point.StepPoint.TheVariants as point
use Rattle.shm_recover.specs.TakeBack.Words.{MayBackAt}

-- ---- the block

-- no partition is read from a queue
slot_unread : (part : Part) (s i k : ℕ) → is_read part (Slot s i k) ≡ false
slot_unread Loose s i k = refl
slot_unread (Table chains) s i k = refl

-- ---- the step down

module _ (me : Me) (fits : GeometryFits me.geometry) (l : me.who < me.geometry.clients) (i k b : ℕ) (r : Memo) (may : MayBackAt me i k b r) where
  abbrev at : ℕ
  at = address me.geometry (place.Slot me.who i k)

  low : k < 8
  low = let e = may.next in omega arith

  slot_in : is_in me.geometry (place.Slot me.who i k) ≡ true
  slot_in = and_from _ _ (and_from _ _ (lt-ltb me.who me.geometry.clients l) (lt-ltb i me.geometry.clients may.to)) (lt-ltb k 8 low)

  slot_inside : (0 < at) × (at < total_of me.geometry)
  slot_inside = in_pool me.geometry (λ x y. 0) at (Slot me.who i k) (spot-place me.geometry (λ x y. 0) (place.Slot me.who i k) slot_in) (λ e. cc)

  abbrev back_step : StepState
  back_step = record { me = me; slot = at; aim = Down b; point = point.Era }

  back_can : CanStep me at (Down b) (Slot me.who i k) r
  unfolding spot_address
  back_can =
      record {
        geometry = fits;
        who = l;
        here = may.here;
        idle = may.idle;
        client = λ e. absurd (true≢false (sym e));
        at = refl;
        inside = slot_inside;
        blocks = may.unsent.inside;
        can = λ room. inr (refl, record { may = record { here = may.here; idle = may.idle; room = omega arith }; to = may.to; other = λ e. may.other (sym e); next = may.next; some = may.some; unsent = may.unsent.names });
        put = tt;
        reach = λ e. absurd (true≢false (sym e));
        part = inl (slot_unread r.part me.who i k);
        queued = λ loose slot up. absurd (true≢false (sym up));
      }

  pub back_may : MayStepAt (Slot me.who i k) false back_step r
  back_may =
      let total = total_small me.geometry fits in
      let inside = may.unsent.inside.1 in
      record {
        step = record {
          made = refl;
          knows = record { geometry = fits; who = l; slot = address_small me.geometry (place.Slot me.who i k) slot_in fits; aim = omega arith; point = tt };
          can = back_can;
        };
        at = (refl, may.other);
        era = may.era;
      }
