-- latches, and what is read under them, as operations: when they may begin between two calls
use Rattle.std.proofs.Common.{◌≡◌, ℕ, ◌+◌, ◌<◌, true, List, [], refl, sym, ap, ◌∙◌, subst, None, Some}
use Rattle.std.proofs.lemmas.Bool.{cond-true}
use Rattle.std.specs.Prelude.{Result, Ok, Err}
use Rattle.shm_graph.specs.{declared.{ask.Me.Me, memo.Memo.Memo, spot.Spot.TheVariants.Hold}, Asks.Trail, Events.Event}
use Rattle.shm_graph.specs.{Idle.{IsIdle, hold_word}, Operations.IsReady, Reach.{is_reached, unlatched}}
use Rattle.shm_graph.proofs.{Idles.idle_core, Spots.Spotting.same_spot_self}
use Rattle.plans.specs.{Tasks.{IsNew, TaskLaws}, Words.word_control}
use Rattle.shm_count.specs.Proved.Idles.{is_here}
use Rattle.shm_ref.specs.declared.{answer.Busy.Busy, hold.HoldState.HoldState, home_of.HomeOfState.HomeOfState}
use Rattle.shm_ref.specs.declared.{look.LookState.LookState, read.ReadState.ReadState}
use Rattle.shm_ref.specs.declared.{release.ReleaseState.ReleaseState, root_of.NamingState.NamingState}
use Rattle.shm_ref.specs.Hold.{Control.holding, HoldKnows, HoldLeaves, hold_plan, wants}
use Rattle.shm_ref.specs.{HomeOf.{HomeKnows, finding, home_of_plan}, Lefts.MayDrop}
use Rattle.shm_ref.specs.Look.{LookKnows, look_plan, looking}
use Rattle.shm_ref.specs.Proved.{OnlyRead.{home_reads, look_reads, read_reads, still_idle}, ReadParts.reached_room}
use Rattle.shm_ref.specs.{Read.{ReadKnows, read_plan, reading}, ReadParts.{MayAsk, MayRead}}
use Rattle.shm_ref.specs.{Release.{ReleaseKnows, release_plan, releasing}, RootOf.naming_plan}

-- ---- what being between two calls gives

-- no step is in progress
pub may_drop : (me : Me) (r : Memo) → IsReady me r → MayDrop me r
may_drop me r ready = record { geometry = ready.geometry; who = ready.who; here = is_here me.who r ready.idle; idle = ready.idle.op }

-- the hold word names the latch that is held
may_ask : (me : Me) (r : Memo) → IsReady me r → MayAsk me r
may_ask me r ready = record { may = may_drop me r ready; hold = ready.idle.hold }

-- a block in reach lies in the pool
may_read : (me : Me) (b : ℕ) (r : Memo) → IsReady me r → is_reached me.who r b ≡ true → MayRead me b r
may_read me b r ready reach = record { may = may_drop me r ready; reach = reach; room = reached_room me b r ready.who ready.held reach }

-- ---- latches

-- a latch of a client that there is may be taken where none is held
abbrev pub HoldMay : HoldState → Memo → Type 0
HoldMay m r = (m ≡ holding m.me m.author) × (m.author < m.me.geometry.clients) × (r.latch ≡ None)

hold_rests : (m : HoldState) (r0 r : Memo) (tr : Trail) (es : List Event) (a : Result (Unit {0}) Busy) → IsIdle m.me.who r0 → r0.latch ≡ None → HoldLeaves m r0 r tr es a → IsIdle m.me.who r
hold_rests m r0 r tr es (Ok u) idle none h =
    idle_core m.me.who (record (wants m.me.who (m.author + 1) r0) { latch = Some m.author }) r h.memo
    (record { live = idle.live; op = idle.op; making = idle.making; hold = cond-true _ _ _ (same_spot_self (Hold m.me.who)) })
hold_rests m r0 r tr es (Err e) idle none h =
    idle_core m.me.who (wants m.me.who 0 (wants m.me.who (m.author + 1) r0)) r h.memo
    (record { live = idle.live; op = idle.op; making = idle.making; hold = cond-true _ _ _ (same_spot_self (Hold m.me.who)) ∙ ap hold_word (sym none) })

pub hold_task : TaskLaws word_control hold_plan HoldMay (λ m a. Unit {0})
hold_task =
    record {
      new = λ m r h. subst (IsNew word_control hold_plan) (sym h.0) (record { first = refl; start = refl; fresh = refl });
      begins = λ m r ready h. subst (λ (x : HoldState). HoldKnows m x.point r r [] []) (sym h.0)
          (record { geometry = ready.geometry; who = ready.who; author = h.1; here = is_here m.me.who r ready.idle; idle = ready.idle.op; none = h.2 }, refl, refl, refl);
      rests = λ m r0 r tr es a ready h l e. hold_rests m r0 r tr es a ready.idle h.2 l;
    }

-- the latch that is held may be given back
abbrev pub ReleaseMay : ReleaseState → Memo → Type 0
ReleaseMay m r = (m ≡ releasing m.me) × ((a : ℕ) × (r.latch ≡ Some a))

pub release_task : TaskLaws word_control release_plan ReleaseMay (λ m a. Unit {0})
release_task =
    record {
      new = λ m r h. subst (IsNew word_control release_plan) (sym h.0) (record { first = refl; start = refl; fresh = refl });
      begins = λ m r ready h. subst (λ (x : ReleaseState). ReleaseKnows m x.point r r [] []) (sym h.0)
          (h.1.0, record { geometry = ready.geometry; who = ready.who; here = is_here m.me.who r ready.idle; idle = ready.idle.op; latch = h.1.1 }, refl, refl, refl);
      rests = λ m r0 r tr es a ready h l e. idle_core m.me.who (wants m.me.who 0 (unlatched m.me.geometry.wide m.me.who r0)) r l.memo
          (record { live = ready.idle.live; op = ready.idle.op; making = ready.idle.making; hold = cond-true _ _ _ (same_spot_self (Hold m.me.who)) });
    }

-- ---- what is read

-- what a root that there is names may be asked
abbrev pub NamingMay : NamingState → Memo → Type 0
NamingMay m r = m.root < 16

pub naming_task : TaskLaws word_control naming_plan NamingMay (λ m a. Unit {0})
naming_task =
    record {
      new = λ m r h. record { first = refl; start = refl; fresh = refl };
      begins = λ m r ready h. record { may = may_drop m.me r ready; low = h; same = refl; none = refl; quiet = refl };
      rests = λ m r0 r tr es a ready h l e. idle_core m.me.who r0 r l.memo ready.idle;
    }

-- what the home of a client that there is names may be asked
abbrev pub HomeOfMay : HomeOfState → Memo → Type 0
HomeOfMay m r = (m ≡ finding m.me m.author) × (m.author < m.me.geometry.clients)

pub home_of_task : TaskLaws word_control home_of_plan HomeOfMay (λ m a. Unit {0})
home_of_task =
    record {
      new = λ m r h. subst (IsNew word_control home_of_plan) (sym h.0) (record { first = refl; start = refl; fresh = refl });
      begins = λ m r ready h. subst (λ (x : HomeOfState). HomeKnows m x.point r r [] []) (sym h.0) (may_ask m.me r ready, h.1, refl, refl, refl);
      rests = λ m r0 r tr es a ready h l e. still_idle m.me.who r0 r (home_reads m r0 r tr es a l) ready.idle;
    }

-- a reference word of a block in reach may be looked at
abbrev pub LookMay : LookState → Memo → Type 0
LookMay m r = (m ≡ looking m.me m.block m.index) × (is_reached m.me.who r m.block ≡ true)

pub look_task : TaskLaws word_control look_plan LookMay (λ m a. Unit {0})
look_task =
    record {
      new = λ m r h. subst (IsNew word_control look_plan) (sym h.0) (record { first = refl; start = refl; fresh = refl });
      begins = λ m r ready h. subst (λ (x : LookState). LookKnows m x.point r r [] []) (sym h.0)
          (record { ask = may_ask m.me r ready; read = may_read m.me m.block r ready h.1 }, refl, refl, refl);
      rests = λ m r0 r tr es a ready h l e. still_idle m.me.who r0 r (look_reads m r0 r tr es a l) ready.idle;
    }

-- a plain word of a block in reach may be read
abbrev pub ReadMay : ReadState → Memo → Type 0
ReadMay m r = (m ≡ reading m.me m.block m.index) × (is_reached m.me.who r m.block ≡ true)

pub read_task : TaskLaws word_control read_plan ReadMay (λ m a. Unit {0})
read_task =
    record {
      new = λ m r h. subst (IsNew word_control read_plan) (sym h.0) (record { first = refl; start = refl; fresh = refl });
      begins = λ m r ready h. subst (λ (x : ReadState). ReadKnows m x.point r r [] []) (sym h.0) (may_read m.me m.block r ready h.1, refl, refl, refl);
      rests = λ m r0 r tr es a ready h l e. still_idle m.me.who r0 r (read_reads m r0 r tr es a l) ready.idle;
    }
