-- what a count step asks, and what it answers
use Rattle.std.specs.Prelude.{ℕ, zero, suc, ◌+◌, Bool, true, false, not, ◌&&◌, ◌==◌, nat_lt, Result, Ok, Err}
use Rattle.shm_words.specs.{Layout.address, Headers.{header_of, header_word}, Redos.{first_word, second_word}}
use Rattle.shm_words.specs.declared.place.Place.TheVariants as place
use Rattle.shm_graph.specs.{declared.ask.{Ask.TheVariants.{Load, Store, Exchange}, Me.Me}, Asks.Trail}
use Rattle.shm_graph.specs.{Bounds.{up_steps, down_steps, change_steps}, Trails.{Answers, Asked, Chosen}}
use Rattle.shm_count.specs.declared.{answer.UpFault.{UpFault, TheVariants.{EraSpent, CountFull}}, point.Aim.Aim}
use Rattle.shm_count.specs.declared.point.{Aim.TheVariants.{Up, Down, Change}, Half.{Half, TheVariants.{First, Second}}}
use Rattle.shm_count.specs.declared.point.StepPoint.{StepPoint}
use Rattle.shm_count.specs.Step.Control.{last_era, block_at, raises, value_after, redo_at, count_after, row_address}
use Rattle.shm_count.specs.declared.point.StepPoint.TheVariants as point

-- the trails of a count step, each with its answer: whether a count came to 0
abbrev pub StepTrails : Type 1
StepTrails = Trail → Result Bool UpFault → Type 0

module _ (me : Me) where
  -- ---- the count of block b goes up or down at era e, and `rest` follows by whether it came to 0

  -- the exchange from header w; `again` follows where another one is found
  abbrev pub exchange_trail : Bool → ℕ → ℕ → ℕ → (ℕ → StepTrails) → (Bool → StepTrails) → StepTrails
  exchange_trail up b e w again rest =
      Asked (Exchange b w (header_word (record { live = true; client = me.who; count = count_after up (header_of w).count; era = e }))) (λ x.
      Chosen (x == w) (rest (not up && ((header_of w).count == 1))) (again x))

  -- the header's era is stored in the own row
  abbrev pub show_trail : Bool → ℕ → ℕ → ℕ → (ℕ → StepTrails) → (Bool → StepTrails) → StepTrails
  show_trail up b e w again rest = Asked (Store (row_address me (header_of w).client) (header_of w).era) (λ _. exchange_trail up b e w again rest)

  -- the own row is read for the header's client, and raised where it is below the header's era
  abbrev pub row_trail : Bool → ℕ → ℕ → ℕ → (ℕ → StepTrails) → (Bool → StepTrails) → StepTrails
  row_trail up b e w again rest =
      Asked (Load (row_address me (header_of w).client)) (λ x.
      Chosen (nat_lt x (header_of w).era) (show_trail up b e w again rest) (exchange_trail up b e w again rest))

  -- by a header w that was read
  abbrev pub header_trail : Bool → ℕ → ℕ → ℕ → (ℕ → StepTrails) → (Bool → StepTrails) → StepTrails
  header_trail up b e w again rest =
      Chosen (up && ((header_of w).count == 1023)) (Answers (Err (CountFull b (header_of w).count)))
      (Chosen ((header_of w).client == me.who) (exchange_trail up b e w again rest) (row_trail up b e w again rest))

  -- where the exchange is tried again at most n times
  abbrev pub set_trail : ℕ → Bool → ℕ → ℕ → (Bool → StepTrails) → ℕ → StepTrails
  set_trail zero up b e rest w = header_trail up b e w (λ x tr a. ⊥) rest
  set_trail (suc n) up b e rest w = header_trail up b e w (set_trail n up b e rest) rest

  -- the header is loaded, and exchanged after so many tries as it takes
  abbrev pub load_trail : Bool → ℕ → ℕ → (Bool → StepTrails) → StepTrails
  load_trail up b e rest = Asked (Load b) (λ w tr a. (n : ℕ) × set_trail n up b e rest w tr a)

  -- ---- the whole

  -- the last own era
  abbrev pub end_trail : ℕ → Bool → StepTrails
  end_trail e z = Asked (Store (address me.geometry (place.Era me.who me.who)) (e + 1)) (λ _. Answers (Ok z))

  -- the own era after the slot, and for a change its second half
  abbrev pub close_trail : Aim → ℕ → Bool → StepTrails
  close_trail (Change a b) e z = Asked (Store (address me.geometry (place.Era me.who me.who)) (e + 1)) (λ _. load_trail false a (e + 1) (end_trail (e + 1)))
  close_trail x e z = end_trail e z

  -- the slot, and what follows
  abbrev pub slot_trail : ℕ → Aim → ℕ → Bool → StepTrails
  slot_trail slot x e z = Asked (Store slot (value_after x)) (λ _. close_trail x e z)

  -- the redo record, and what follows
  abbrev pub redo_trail : ℕ → Aim → ℕ → StepTrails
  redo_trail slot x e = Asked (Store (address me.geometry (place.Redo me.who)) (first_word me.geometry.wide (redo_at x slot e))) (λ _. load_trail (raises x First) (block_at x First) e (slot_trail slot x e))

  -- in format 2 its second word is stored before
  abbrev pub more_trail : ℕ → Aim → ℕ → StepTrails
  more_trail slot x e = Asked (Store (address me.geometry (place.RedoMore me.who)) (second_word me.geometry.wide (redo_at x slot e))) (λ _. redo_trail slot x e)

  abbrev pub first_trail : ℕ → Aim → ℕ → StepTrails
  first_trail slot x e = Chosen me.geometry.wide (more_trail slot x e) (redo_trail slot x e)

  -- all that a count step asks
  abbrev pub step_trail : ℕ → Aim → StepTrails
  step_trail slot x =
      Asked (Load (address me.geometry (place.Era me.who me.who))) (λ e.
      Chosen (nat_lt (last_era x) e) (Answers (Err (EraSpent e))) (first_trail slot x e))

-- ---- from a point on

-- what follows the exchange of each half
abbrev pub after_set : Me → ℕ → Aim → ℕ → Half → Bool → StepTrails
after_set me slot x e First z = slot_trail me slot x e z
after_set me slot x e Second z = end_trail me e z

-- what follows an exchange that found another header, where it is tried again at most n times
abbrev pub again_trail : Me → ℕ → Aim → ℕ → Half → ℕ → ℕ → StepTrails
again_trail me slot x e h zero w = λ tr a. ⊥
again_trail me slot x e h (suc n) w = set_trail me n (raises x h) (block_at x h) e (after_set me slot x e h) w

-- the trails from a point on
abbrev pub point_trail : Me → ℕ → Aim → StepPoint → StepTrails
point_trail me slot x point.Era = step_trail me slot x
point_trail me slot x (point.More e) = more_trail me slot x e
point_trail me slot x (point.Redo e) = redo_trail me slot x e
point_trail me slot x (point.Load e h) = load_trail me (raises x h) (block_at x h) e (after_set me slot x e h)
point_trail me slot x (point.Row e h w) = λ tr a. (n : ℕ) × row_trail me (raises x h) (block_at x h) e w (again_trail me slot x e h n) (after_set me slot x e h) tr a
point_trail me slot x (point.Show e h w) = λ tr a. (n : ℕ) × show_trail me (raises x h) (block_at x h) e w (again_trail me slot x e h n) (after_set me slot x e h) tr a
point_trail me slot x (point.Exchange e h w) = λ tr a. (n : ℕ) × exchange_trail me (raises x h) (block_at x h) e w (again_trail me slot x e h n) (after_set me slot x e h) tr a
point_trail me slot x (point.Slot e z) = slot_trail me slot x e z
point_trail me slot x (point.Close e First z) = close_trail me x e z
point_trail me slot x (point.Close e Second z) = end_trail me e z
point_trail me slot x point.Over = λ tr a. ⊥

-- how many word steps a count step takes, but for what is tried again
abbrev pub steps_of : Bool → Aim → ℕ
steps_of wide (Up b) = up_steps wide
steps_of wide (Down b) = down_steps wide
steps_of wide (Change a b) = change_steps wide
