-- what a tear-down asks, and what it answers
use Rattle.std.specs.Prelude.{ℕ, zero, suc, ◌+◌, ◌%◌, Bool, true, false, ◌==◌, nat_lt, Result, Ok, Err}
use Rattle.shm_words.specs.{declared.tag.Tag.Tag as ATag, Tags.tag_word, Layout.address_limit}
use Rattle.shm_graph.specs.{declared.ask.{Ask.TheVariants.{Load, Store}, Me.Me}, Asks.Trail}
use Rattle.shm_graph.specs.Trails.{Answers, Asked, Chosen, Joined}
use Rattle.shm_count.specs.declared.{answer.{EraSpent.EraSpent, UpFault.UpFault}, point.Aim.TheVariants.Down}
use Rattle.shm_count.specs.{declared.tear_point.TearPoint.TearPoint, Step.{Asks.step_trail, Control.spent}}
use Rattle.shm_count.specs.Tear.Control.{tag_read, word_address, relinked}
use Rattle.shm_count.specs.declared.tear_point.TearPoint.TheVariants as point
use Rattle.shm_count.specs.Step.Asks as steps

-- the trails of a tear-down, each with its answer
abbrev pub TearTrails : Type 1
TearTrails = Trail → Result (Unit {0}) EraSpent → Type 0

-- the trails that go on with block b, whose tag is g, at reference word i
abbrev pub OnTrails : Type 1
OnTrails = ℕ → ATag → ℕ → TearTrails

module _ (me : Me) (on : OnTrails) where
  -- the tag is stored, with another link
  abbrev pub link_trail : ℕ → ATag → TearTrails
  link_trail b g = Asked (Store (b + 1) (tag_word me.geometry.wide g)) (λ _. on b g 0)

  -- a block is entered from the block l, or from none: its tag is loaded, and is to have that link
  abbrev pub enter_trail : ℕ → ℕ → TearTrails
  enter_trail b l =
      Asked (Load (b + 1)) (λ n.
      Chosen ((tag_read me.geometry.wide n).link == l) (on b (tag_read me.geometry.wide n) 0) (link_trail b (relinked me.geometry.wide (tag_read me.geometry.wide n) l)))

  -- by what the step down of word i, which named block t, answered: a block whose count came to 0 is entered
  abbrev pub after_down : ℕ → ATag → ℕ → ℕ → Result Bool UpFault → TearTrails
  after_down b g i t (Ok true) = enter_trail t b
  after_down b g i t (Ok false) = on b g (i + 1)
  after_down b g i t (Err f) = Answers (Err (spent f))

  -- the reference word is loaded; where it names a block it comes to be empty by a step down
  abbrev pub word_trail : ℕ → ATag → ℕ → TearTrails
  word_trail b g i =
      Asked (Load (word_address b i)) (λ n.
      Chosen (n % address_limit == 0) (on b g (i + 1)) (Joined (step_trail me (word_address b i) (Down (n % address_limit))) (after_down b g i (n % address_limit))))

  -- a block is come back to: its tag is loaded, and its reference words are gone through again
  abbrev pub return_trail : ℕ → TearTrails
  return_trail b = Asked (Load (b + 1)) (λ n. on b (tag_read me.geometry.wide n) 0)

  -- the header is stored as 0, and the block of the link is come back to, if there is one
  abbrev pub free_trail : ℕ → ATag → TearTrails
  free_trail b g = Asked (Store b 0) (λ _. Chosen (g.link == 0) (Answers (Ok tt)) (return_trail g.link))

  -- the next reference word, and after the last one the header
  abbrev pub next_trail : OnTrails
  next_trail b g i = Chosen (nat_lt i g.refs) (word_trail b g i) (free_trail b g)

module _ (me : Me) where
  -- from a reference word on, where words and headers come at most n times
  abbrev pub on_trail : ℕ → OnTrails
  on_trail zero = λ b g i tr a. ⊥
  on_trail (suc n) = next_trail me (on_trail n)

  -- all that a tear-down asks
  abbrev pub tear_trail : ℕ → TearTrails
  tear_trail b = λ tr a. (n : ℕ) × enter_trail me (on_trail n) b 0 tr a

  -- the trails from a point on
  abbrev pub point_trail : ℕ → TearPoint → TearTrails
  point_trail b point.Begin = tear_trail b
  point_trail b (point.Enter l) = λ tr a. (n : ℕ) × enter_trail me (on_trail n) b l tr a
  point_trail b (point.Link g) = λ tr a. (n : ℕ) × link_trail me (on_trail n) b g tr a
  point_trail b (point.Word g i) = λ tr a. (n : ℕ) × word_trail me (on_trail n) b g i tr a
  point_trail b (point.Down g i t y) = λ tr a. (n : ℕ) × Joined (steps.point_trail me (word_address b i) (Down t) y) (after_down me (on_trail n) b g i t) tr a
  point_trail b (point.Free g) = λ tr a. (n : ℕ) × free_trail me (on_trail n) b g tr a
  point_trail b point.Return = λ tr a. (n : ℕ) × return_trail me (on_trail n) b tr a
  point_trail b point.Over = λ tr a. ⊥
