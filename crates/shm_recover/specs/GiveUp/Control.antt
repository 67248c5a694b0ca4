-- the control of the segments that are given up: which word step comes next, and where it goes by what was found
use Rattle.std.specs.Prelude.{ℕ, ◌+◌, ◌<◌, Bool, true, false, ◌==◌, ◌&&◌, if◌then◌else◌, Option, Some, None, []}
use Rattle.shm_words.specs.Layout.{GeometryFits, address}
use Rattle.shm_words.specs.declared.place.Place.TheVariants as place
use Rattle.shm_graph.specs.declared.ask.{Ask.Ask, Me.Me}
use Rattle.shm_graph.specs.declared.ask.Ask.TheVariants as ask
use Rattle.plans.specs.{declared.word.Word.Word, Steering.Steered}
use Rattle.shm_recover.specs.declared.give_up.GivePoint.{GivePoint, TheVariants.{Look, Give, Status}}
use Rattle.shm_recover.specs.declared.give_up.GiveState.{GiveState}

-- before its first word step
abbrev pub giving_up : Me → GiveState
giving_up me = record { me = me; segment = 0; point = Look }

-- the word step at a point
abbrev pub give_ask : GiveState → GivePoint → Ask
give_ask m Look = ask.Load (address m.me.geometry (place.Segment m.segment))
give_ask m Give = ask.Store (address m.me.geometry (place.Segment m.segment)) 0
give_ask m Status = ask.Store (address m.me.geometry (place.Status m.me.who)) 3

abbrev pub give_call : GiveState → GivePoint → Word
give_call m y = record { me = m.me; ask = give_ask m y; over = false }

-- on to the next segment, and after the last one to the status
abbrev pub next_segment : GiveState → GiveState
next_segment m = if m.segment + 1 == m.me.geometry.segments then record m { point = Status } else record m { segment = m.segment + 1; point = Look }

abbrev pub after_word : GiveState → GivePoint → ℕ → GiveState
after_word m Look n = if n == m.me.who + 1 then record m { point = Give } else next_segment m
after_word m Give n = next_segment m
after_word m Status n = m

abbrev pub turns_word : GivePoint → Option (Unit {0})
turns_word Status = Some tt
turns_word y = None

abbrev pub is_look : GivePoint → Bool
is_look Look = true
is_look y = false

abbrev pub is_first : GiveState → Bool
is_first m = (m.segment == 0) && is_look m.point

-- what the control keeps in range
pub record GiveInRange (m : GiveState) : Type 0 where
  pub geometry : GeometryFits m.me.geometry
  pub who : m.me.who < m.me.geometry.clients
  pub segment : m.segment < m.me.geometry.segments

-- what the plan does: its identity and its line, its calls, and where it goes by their answers
abbrev pub give_steered : Steered GiveState Word ℕ (Unit {0})
give_steered =
    record {
      me = λ m. m.me;
      line = λ m. [];
      first = is_first;
      start = λ m. record m { segment = 0; point = Look };
      call = λ m. give_call m m.point;
      after = λ m n. after_word m m.point n;
      turns = λ m n. turns_word m.point;
    }
