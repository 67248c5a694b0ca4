-- the control of giving back a latch by a recoverer
use Rattle.std.specs.Prelude.{ℕ, ◌+◌, ◌-◌, ◌%◌, ◌<◌, Bool, true, false, ◌==◌, if◌then◌else◌, Option, Some, None, []}
use Rattle.shm_words.specs.Layout.{GeometryFits, address}
use Rattle.shm_words.specs.declared.place.Place.TheVariants as place
use Rattle.shm_graph.specs.declared.ask.{Ask.Ask, Me.Me}
use Rattle.shm_graph.specs.declared.ask.Ask.TheVariants as ask
use Rattle.plans.specs.{declared.word.Word.Word, Steering.Steered}
use Rattle.shm_recover.specs.declared.mend_unlatch.MendUnlatchPoint.{MendUnlatchPoint}
use Rattle.shm_recover.specs.declared.mend_unlatch.MendUnlatchPoint.TheVariants.{Whose, Look, Give, Back}
use Rattle.shm_recover.specs.declared.mend_unlatch.MendUnlatchState.{MendUnlatchState}

-- before its first word step
abbrev pub unlatching : Me → MendUnlatchState
unlatching me = record { me = me; author = 0; point = Whose }

-- the word step at a point, where the hold word names the latch of a
abbrev pub unlatching_ask : Me → ℕ → MendUnlatchPoint → Ask
unlatching_ask me a Whose = ask.Load (address me.geometry (place.Hold me.who))
unlatching_ask me a Look = ask.Load (address me.geometry (place.Latch a))
unlatching_ask me a Give = ask.Store (address me.geometry (place.Latch a)) 0
unlatching_ask me a Back = ask.Store (address me.geometry (place.Hold me.who)) 0

abbrev pub unlatching_call : MendUnlatchState → MendUnlatchPoint → Word
unlatching_call m y = record { me = m.me; ask = unlatching_ask m.me m.author y; over = false }

abbrev pub unlatching_after : MendUnlatchState → MendUnlatchPoint → ℕ → MendUnlatchState
unlatching_after m Whose n = if n == 0 then m else record m { author = (n - 1) % m.me.geometry.clients; point = Look }
unlatching_after m Look n = record m { point = if n == m.me.who + 1 then Give else Back }
unlatching_after m Give n = record m { point = Back }
unlatching_after m Back n = m

abbrev pub unlatching_turns : MendUnlatchPoint → ℕ → Option (Unit {0})
unlatching_turns Whose n = if n == 0 then Some tt else None
unlatching_turns Back n = Some tt
unlatching_turns y n = None

abbrev pub is_whose : MendUnlatchPoint → Bool
is_whose Whose = true
is_whose y = false

-- what the control keeps in range
pub record UnlatchingInRange (m : MendUnlatchState) : Type 0 where
  pub geometry : GeometryFits m.me.geometry
  pub who : m.me.who < m.me.geometry.clients
  pub author : m.author < m.me.geometry.clients

-- what the plan does: its identity and its line, its calls, and where it goes by their answers
abbrev pub unlatching_steered : Steered MendUnlatchState Word ℕ (Unit {0})
unlatching_steered =
    record {
      me = λ m. m.me;
      line = λ m. [];
      first = λ m. is_whose m.point;
      start = λ m. record m { author = 0; point = Whose };
      call = λ m. unlatching_call m m.point;
      after = λ m. unlatching_after m m.point;
      turns = λ m. unlatching_turns m.point;
    }
