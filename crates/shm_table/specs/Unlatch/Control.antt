-- the control of giving a latch back
use Rattle.std.specs.Prelude.{ℕ, ◌<◌, Bool, true, false, Option, None, Some, []}
use Rattle.shm_words.specs.Layout.{GeometryFits, address}
use Rattle.shm_words.specs.declared.place.Place.TheVariants as place
use Rattle.shm_graph.specs.{declared.ask.{Ask.Ask, Me.Me}, Laws.Control}
use Rattle.shm_graph.specs.declared.ask.Ask.TheVariants as ask
use Rattle.plans.specs.{declared.{calls.Calls.Calls, word.Word.Word}, CallsControl.calls_control, Words.word_control}
use Rattle.plans.specs.Steering.{Steered}
use Rattle.shm_table.specs.declared.unlatch.UnlatchPoint.{UnlatchPoint, TheVariants.{Give, Back}}
use Rattle.shm_table.specs.declared.unlatch.UnlatchState.{UnlatchState}

-- ---- the control

-- before its first word step
abbrev pub unlatching : Me → ℕ → UnlatchState
unlatching me a = record { me = me; author = a; point = Give }

-- the word step at a point
abbrev pub unlatch_ask : Me → ℕ → UnlatchPoint → Ask
unlatch_ask me a Give = ask.Store (address me.geometry (place.Latch a)) 0
unlatch_ask me a Back = ask.Store (address me.geometry (place.Hold me.who)) 0

abbrev pub unlatch_call : UnlatchState → UnlatchPoint → Word
unlatch_call m y = record { me = m.me; ask = unlatch_ask m.me m.author y; over = false }

abbrev pub unlatch_after : UnlatchState → UnlatchPoint → UnlatchState
unlatch_after m Give = record m { point = Back }
unlatch_after m Back = m

abbrev pub unlatch_turns : UnlatchPoint → Option (Unit {0})
unlatch_turns Give = None
unlatch_turns Back = Some tt

abbrev pub is_give : UnlatchPoint → Bool
is_give Give = true
is_give Back = false

-- what the control keeps in range
pub record UnlatchInRange (m : UnlatchState) : Type 0 where
  pub geometry : GeometryFits m.me.geometry
  pub who : m.me.who < m.me.geometry.clients
  pub author : m.author < m.me.geometry.clients

-- ---- what it leaves

abbrev pub unlatch_steered : Steered UnlatchState Word ℕ (Unit {0})
unlatch_steered =
    record {
      me = λ m. m.me;
      line = λ m. [];
      first = λ m. is_give m.point;
      start = λ m. record m { point = Give };
      call = λ m. unlatch_call m m.point;
      after = λ m n. unlatch_after m m.point;
      turns = λ m n. unlatch_turns m.point;
    }

-- it as a call of larger machines, and its control
abbrev pub UnlatchCalls : Type 0
UnlatchCalls = Calls UnlatchState Word

abbrev pub unlatch_control : Control UnlatchCalls (Unit {0})
unlatch_control = calls_control word_control unlatch_steered
