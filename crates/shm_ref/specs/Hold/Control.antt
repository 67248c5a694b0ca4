-- the control of taking a latch
use Rattle.std.specs.Prelude.{ℕ, ◌+◌, ◌-◌, ◌%◌, ◌<◌, Bool, true, false, ◌==◌, if◌then◌else◌, Option, Some, None, Result, Ok, Err, [], ◌∷◌}
use Rattle.shm_words.specs.Layout.{GeometryFits, address}
use Rattle.shm_words.specs.declared.place.Place.TheVariants as place
use Rattle.shm_graph.specs.{declared.ask.{Ask.{Ask, TheVariants.{Store, Exchange}}, Me.Me}, Asks.{Trail, pair}}
use Rattle.plans.specs.{declared.word.Word.Word, Steering.Steered}
use Rattle.shm_ref.specs.declared.{answer.Busy.Busy, hold.HoldPoint.{HoldPoint, TheVariants.{Want, Take, Back}}}
use Rattle.shm_ref.specs.declared.hold.HoldState.{HoldState}

-- the taking of the latch of a, before its first word step
abbrev pub holding : Me → ℕ → HoldState
holding me a = record { me = me; author = a; holder = 0; point = Want }

-- the word step at a point
abbrev pub hold_ask : Me → ℕ → HoldPoint → Ask
hold_ask me a Want = Store (address me.geometry (place.Hold me.who)) (a + 1)
hold_ask me a Take = Exchange (address me.geometry (place.Latch a)) 0 (me.who + 1)
hold_ask me a Back = Store (address me.geometry (place.Hold me.who)) 0

abbrev pub hold_call : HoldState → HoldPoint → Word
hold_call m y = record { me = m.me; ask = hold_ask m.me m.author y; over = false }

abbrev pub hold_after : HoldState → HoldPoint → ℕ → HoldState
hold_after m Want n = record m { point = Take }
hold_after m Take n = if n == 0 then m else record m { holder = (n - 1) % 256; point = Back }
hold_after m Back n = m

abbrev pub hold_turns : HoldState → HoldPoint → ℕ → Option (Result (Unit {0}) Busy)
hold_turns m Want n = None
hold_turns m Take n = if n == 0 then Some (Ok tt) else None
hold_turns m Back n = Some (Err (record { holder = m.holder }))

abbrev pub is_want : HoldPoint → Bool
is_want Want = true
is_want y = false

-- all that is asked, with what it sees: where the latch was nobody's, and where h held it
abbrev pub taken_trail : Me → ℕ → Trail
taken_trail me a = pair (hold_ask me a Want) 0 ∷ pair (hold_ask me a Take) 0 ∷ []

abbrev pub busy_trail : Me → ℕ → ℕ → Trail
busy_trail me a h = pair (hold_ask me a Want) 0 ∷ pair (hold_ask me a Take) (h + 1) ∷ pair (hold_ask me a Back) 0 ∷ []

-- what the control keeps in range
pub record HoldInRange (m : HoldState) : Type 0 where
  pub geometry : GeometryFits m.me.geometry
  pub who : m.me.who < m.me.geometry.clients
  pub author : m.author < m.me.geometry.clients

-- what the plan does: its identity and its line, its calls, and where it goes by their answers
abbrev pub hold_steered : Steered HoldState Word ℕ (Result (Unit {0}) Busy)
hold_steered =
    record {
      me = λ m. m.me;
      line = λ m. [];
      first = λ m. is_want m.point;
      start = λ m. record m { holder = 0; point = Want };
      call = λ m. hold_call m m.point;
      after = λ m. hold_after m m.point;
      turns = λ m. hold_turns m m.point;
    }
