-- the control of a count step: which word it asks for, and where it goes by the word found
use Rattle.std.specs.Prelude.{◌≡◌, ◌≢◌, ℕ, ◌+◌, ◌-◌, ◌%◌, ◌^◌, ◌<◌, ◌≤◌, Bool, true, false, not, ◌&&◌, ◌==◌, nat_lt, if◌then◌else◌, Option, Some, None, Result, Ok, Err, []}
use Rattle.shm_words.specs.declared.redo.Redo.{Redo as ARedo}
use Rattle.shm_words.specs.Layout.{GeometryFits, address, bodies, total_of, address_limit}
use Rattle.shm_words.specs.{Headers.{header_of, header_word}, Redos.{second_word, first_word}}
use Rattle.shm_words.specs.declared.place.Place.TheVariants as place
use Rattle.shm_words.specs.declared.redo.Redo.TheVariants as redos
use Rattle.shm_graph.specs.{declared.ask.{Ask.{Ask, TheVariants.{Load, Store, Exchange}}, Me.Me}, Laws.Control}
use Rattle.shm_count.specs.declared.answer.{EraSpent.EraSpent as AEraSpent, UpFault.UpFault}
use Rattle.shm_count.specs.declared.{answer.UpFault.TheVariants.{EraSpent, CountFull}, point.Aim.Aim}
use Rattle.shm_count.specs.declared.point.{Aim.TheVariants.{Up, Down, Change}, Half.{Half, TheVariants.{First, Second}}}
use Rattle.shm_count.specs.declared.point.{StepPoint.StepPoint, StepState.StepState, StepNext.StepNext}
use Rattle.shm_count.specs.declared.point.StepNext.TheVariants.{Point, Answer}
use Rattle.shm_count.specs.declared.point.StepPoint.TheVariants as point

-- ---- what a step does

-- the greatest own era that leaves room for the step
abbrev pub last_era : Aim → ℕ
last_era (Change a b) = 2 ^ 47 - 4
last_era x = 2 ^ 47 - 3

-- the block whose count changes, and whether it goes up
abbrev pub block_at : Aim → Half → ℕ
block_at (Up b) h = b
block_at (Down b) h = b
block_at (Change a b) First = b
block_at (Change a b) Second = a

abbrev pub raises : Aim → Half → Bool
raises (Up b) h = true
raises (Down b) h = false
raises (Change a b) First = true
raises (Change a b) Second = false

-- what the slot holds before, and after
abbrev pub value_before : Aim → ℕ
value_before (Up b) = 0
value_before (Down b) = b
value_before (Change a b) = a

abbrev pub value_after : Aim → ℕ
value_after (Up b) = b
value_after (Down b) = 0
value_after (Change a b) = b

-- the redo record at an era
abbrev pub redo_at : Aim → ℕ → ℕ → ARedo
redo_at (Up b) slot e = redos.Up slot b
redo_at (Down b) slot e = redos.Down slot b
redo_at (Change a b) slot e = redos.Change (e % 2 == 1) slot a b

abbrev pub count_after : Bool → ℕ → ℕ
count_after up n = if up then n + 1 else n - 1

-- the header that the block comes to have
abbrev pub header_after : Me → Aim → ℕ → Half → ℕ → ℕ
header_after me x e h w = header_word (record { live = true; client = me.who; count = count_after (raises x h) (header_of w).count; era = e })

-- the address of the own row's word for a client; no header shows a client that the pool hasn't
abbrev pub row_address : Me → ℕ → ℕ
row_address me j = if nat_lt j me.geometry.clients then address me.geometry (place.Era me.who j) else 0

-- ---- the steps

abbrev pub step_ask_at : Me → ℕ → Aim → StepPoint → Ask
step_ask_at me slot x point.Era = Load (address me.geometry (place.Era me.who me.who))
step_ask_at me slot x (point.More e) = Store (address me.geometry (place.RedoMore me.who)) (second_word me.geometry.wide (redo_at x slot e))
step_ask_at me slot x (point.Redo e) = Store (address me.geometry (place.Redo me.who)) (first_word me.geometry.wide (redo_at x slot e))
step_ask_at me slot x (point.Load e h) = Load (block_at x h)
step_ask_at me slot x (point.Row e h w) = Load (row_address me (header_of w).client)
step_ask_at me slot x (point.Show e h w) = Store (row_address me (header_of w).client) (header_of w).era
step_ask_at me slot x (point.Exchange e h w) = Exchange (block_at x h) w (header_after me x e h w)
step_ask_at me slot x (point.Slot e z) = Store slot (value_after x)
step_ask_at me slot x (point.Close e h z) = Store (address me.geometry (place.Era me.who me.who)) (e + 1)
step_ask_at me slot x point.Over = Load 0

abbrev pub step_ask : StepState → Ask
step_ask m = step_ask_at m.me m.slot m.aim m.point

-- ---- where it goes

-- the store that begins a step at an own era: in format 2 that of the redo record's second word
abbrev pub first_point : Me → ℕ → StepPoint
first_point me e = if me.geometry.wide then point.More e else point.Redo e

abbrev pub first_next : Me → ℕ → StepNext
first_next me e = Point (first_point me e)

abbrev pub era_next : Me → Aim → ℕ → StepNext
era_next me x n = if nat_lt (last_era x) n then Answer (Err (EraSpent n)) else first_next me n

-- by the header of its block
abbrev pub header_next : Me → Aim → ℕ → Half → ℕ → StepNext
header_next me x e h w =
    if (raises x h) && ((header_of w).count == 1023) then Answer (Err (CountFull (block_at x h) (header_of w).count))
    else if (header_of w).client == me.who then Point (point.Exchange e h w)
    else Point (point.Row e h w)

abbrev pub row_next : ℕ → Half → ℕ → ℕ → StepNext
row_next e h w n = if nat_lt n (header_of w).era then Point (point.Show e h w) else Point (point.Exchange e h w)

-- whether the count comes to 0
abbrev pub comes_to_zero : Aim → Half → ℕ → Bool
comes_to_zero x h w = not (raises x h) && ((header_of w).count == 1)

abbrev pub committed_next : Aim → ℕ → Half → ℕ → StepNext
committed_next x e First w = Point (point.Slot e (comes_to_zero x First w))
committed_next x e Second w = Point (point.Close e Second (comes_to_zero x Second w))

abbrev pub exchange_next : Me → Aim → ℕ → Half → ℕ → ℕ → StepNext
exchange_next me x e h w n = if n == w then committed_next x e h w else header_next me x e h n

-- once the own era is stored
abbrev pub closed_next : Aim → ℕ → Half → Bool → StepNext
closed_next (Change a b) e First z = Point (point.Load (e + 1) Second)
closed_next x e h z = Answer (Ok z)

abbrev pub step_next_at : Me → Aim → StepPoint → ℕ → StepNext
step_next_at me x point.Era n = era_next me x n
step_next_at me x (point.More e) n = Point (point.Redo e)
step_next_at me x (point.Redo e) n = Point (point.Load e First)
step_next_at me x (point.Load e h) n = header_next me x e h n
step_next_at me x (point.Row e h w) n = row_next e h w n
step_next_at me x (point.Show e h w) n = Point (point.Exchange e h w)
step_next_at me x (point.Exchange e h w) n = exchange_next me x e h w n
step_next_at me x (point.Slot e z) n = Point (point.Close e First z)
step_next_at me x (point.Close e h z) n = closed_next x e h z
step_next_at me x point.Over n = Point point.Over

abbrev pub step_next : StepState → ℕ → StepNext
step_next m n = step_next_at m.me m.aim m.point n

abbrev pub point_of : StepNext → StepPoint
point_of (Point p) = p
point_of (Answer a) = point.Over

-- the refusal of a step that takes a reference away: no count that goes down is full
abbrev pub spent : UpFault → AEraSpent
spent (EraSpent e) = record { era = e }
spent (CountFull b n) = record { era = 0 }

abbrev pub answer_of : StepNext → Option (Result Bool UpFault)
answer_of (Point p) = None
answer_of (Answer a) = Some a

abbrev pub is_first : StepPoint → Bool
is_first point.Era = true
is_first p = false

abbrev pub is_over : StepPoint → Bool
is_over point.Over = true
is_over p = false

abbrev pub step_control : Control StepState (Result Bool UpFault)
step_control =
    record {
      me = λ m. m.me;
      line = λ m. [];
      fresh = λ m. is_first m.point;
      finished = λ m. is_over m.point;
      asks = step_ask;
      after = λ m n. record m { point = point_of (step_next m n) };
      turns = λ m n. answer_of (step_next m n);
    }

-- ---- what the control keeps in range

-- a block of the pool
abbrev pub IsInside : Me → ℕ → Type 0
IsInside me b = (bodies me.geometry ≤ b) × (b < total_of me.geometry)

abbrev pub AimFits : Me → Aim → Type 0
AimFits me (Up b) = IsInside me b
AimFits me (Down b) = IsInside me b
AimFits me (Change a b) = IsInside me a × IsInside me b

-- blocks that a redo record can name
abbrev pub AimSmall : Aim → Type 0
AimSmall (Up b) = b < address_limit
AimSmall (Down b) = b < address_limit
AimSmall (Change a b) = (a < address_limit) × (b < address_limit)

-- the half is one of the step's
abbrev pub PartFits : Aim → Half → Type 0
PartFits (Change a b) h = Unit {0}
PartFits x First = Unit {0}
PartFits x Second = ⊥

-- the own era leaves room for what is left of the step
abbrev pub EraFits : Aim → ℕ → Half → Type 0
EraFits (Change a b) e First = e + 4 ≤ 2 ^ 47
EraFits x e h = e + 3 ≤ 2 ^ 47

-- a count that goes up has room
abbrev pub CountFits : Aim → Half → ℕ → Type 0
CountFits x h w = raises x h ≡ true → (header_of w).count ≢ 1023

abbrev pub PointFits : Me → Aim → StepPoint → Type 0
PointFits me x point.Era = Unit {0}
PointFits me x (point.More e) = EraFits x e First × (me.geometry.wide ≡ true)
PointFits me x (point.Redo e) = EraFits x e First
PointFits me x (point.Load e h) = EraFits x e h × PartFits x h
PointFits me x (point.Row e h w) = EraFits x e h × PartFits x h × CountFits x h w
PointFits me x (point.Show e h w) = EraFits x e h × PartFits x h × CountFits x h w
PointFits me x (point.Exchange e h w) = EraFits x e h × PartFits x h × CountFits x h w
PointFits me x (point.Slot e z) = EraFits x e First
PointFits me x (point.Close e h z) = EraFits x e h × PartFits x h
PointFits me x point.Over = Unit {0}

pub record StepInRange (m : StepState) : Type 0 where
  pub geometry : GeometryFits m.me.geometry
  pub who : m.me.who < m.me.geometry.clients
  pub slot : m.slot < address_limit
  pub aim : AimSmall m.aim
  pub point : PointFits m.me m.aim m.point
