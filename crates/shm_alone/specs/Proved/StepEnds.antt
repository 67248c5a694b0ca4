-- a step down that works alone ends: no exchange of it fails, and the reference that is lost pays for what is left of it, and leaves 200 word steps over: what is proved of it
use Rattle.std.proofs.Common.{◌≡◌, ℕ, ◌+◌, ◌*◌, ◌<◌, ◌≤◌, sym, ap, ◌∙◌, subst, arith, Bool, true, false, eqb, ltb}
use Rattle.std.proofs.lemmas.Bool.{true≢false, eq-eqb}
use Rattle.std.specs.{Prelude.{if◌then◌else◌, Err}, Option.option_map}
use Rattle.shm_words.specs.Headers.{header_of}
use Rattle.shm_graph.specs.declared.{ask.{Ask.Ask, Me.Me}, memo.Memo.Memo, spot.Spot.{Spot, TheVariants.Head}}
use Rattle.shm_graph.specs.{Asks.{Trail, at_of, seen_of, words_after}, Blocks.classes, Bounds.redo_steps}
use Rattle.shm_graph.specs.{Laws.{Frame, Outcome, Stands}, Spots.spot_at}
use Rattle.shm_graph.proofs.StepKinds.Loads.{choice}
use Rattle.shm_count.specs.declared.{answer.EraSpent.EraSpent, point.Aim.{Aim, TheVariants.{Up, Down, Change}}}
use Rattle.shm_count.specs.declared.point.{Half.{Half, TheVariants.{First, Second}}, StepPoint.StepPoint}
use Rattle.shm_count.specs.declared.point.StepNext.{StepNext, TheVariants.{Point, Answer}}
use Rattle.shm_count.specs.Step.Control.{PartFits, PointFits, answer_of, era_next, first_next, header_next, is_over, last_era, point_of, row_address, row_next, step_ask_at, step_next_at}
use Rattle.shm_count.specs.Step.{Events.{step_event, step_event_at}, Machines.{down_answer, down_control, is_down}}
use Rattle.shm_count.specs.{Step.{CanStep, PointHolds}, Proved.Step.{Headers.half_block, BeforeExchange.row_spot}}
use Rattle.shm_count.specs.StepsAt.{DownFitsAt}
use Rattle.shm_count.specs.declared.answer.UpFault.TheVariants as fault
use Rattle.shm_count.specs.declared.point.StepPoint.TheVariants as point
use Rattle.shm_alone.specs.Alone.{pay, weight, IsPaid, EndsAlone}
use Rattle.shm_alone.specs.StepEnds.{point_alone, step_alone, point_left, step_left, step_saved, StepGoes, StepOwes}

-- ---- what is known, and what is left

-- a redo record is stored in at most two word steps
pub redo_few : (wide : Bool) → redo_steps wide ≤ 2
redo_few false = omega arith
redo_few true = omega arith

-- ---- where it goes

-- by a header that was read, and is there
header_goes : (me : Me) (b e : ℕ) (h : Half) (k : ℕ) (w : Spot → ℕ) → w (Head b) ≡ k → StepGoes me.geometry.wide (Down b) w 6 (header_next me (Down b) e h k)
header_goes me b e h k w is =
    choice (StepGoes me.geometry.wide (Down b) w 6) (eqb (header_of k).client me.who) (Point (point.Exchange e h k)) (Point (point.Row e h k))
    (λ z. (is, omega arith))
    (λ z. (is, omega arith))

-- by the own row
row_goes : (wide : Bool) (b e : ℕ) (h : Half) (k n : ℕ) (w : Spot → ℕ) → w (Head b) ≡ k → StepGoes wide (Down b) w 5 (row_next e h k n)
row_goes wide b e h k n w is =
    choice (StepGoes wide (Down b) w 5) (ltb n (header_of k).era) (Point (point.Show e h k)) (Point (point.Exchange e h k))
    (λ z. (is, omega arith))
    (λ z. (is, omega arith))

-- to the store that begins the step
first_goes : (wide : Bool) (b n : ℕ) (w : Spot → ℕ) → StepGoes wide (Down b) w (7 + redo_steps wide + 0) (Point (if wide then point.More n else point.Redo n))
first_goes false b n w = (tt, omega arith)
first_goes true b n w = (tt, omega arith)

-- by the own era
era_goes : (me : Me) (b n : ℕ) (w : Spot → ℕ) → StepGoes me.geometry.wide (Down b) w (7 + redo_steps me.geometry.wide + 0) (era_next me (Down b) n)
era_goes me b n w =
    choice (StepGoes me.geometry.wide (Down b) w (7 + redo_steps me.geometry.wide + 0)) (ltb (last_era (Down b)) n) (Answer (Err (fault.EraSpent n))) (first_next me n)
    (λ z. omega arith)
    (λ z. first_goes me.geometry.wide b n w)

-- an exchange that finds the header that was read
exchanged_owes : (me : Me) (b : ℕ) (p : Spot) (e : ℕ) (h : Half) (k n : ℕ) (w : Spot → ℕ) → PartFits (Down b) h → n ≡ k → StepOwes me (Down b) p (point.Exchange e h k) n w
exchanged_owes me b p e First k n w part is =
    let same : eqb n k ≡ true = eq-eqb n k is in
    record { loss = rw same tt; goes = rw same (tt, omega arith) }
exchanged_owes me b p e Second k n w part is = absurd part

module _ (me : Me) (slot b : ℕ) (p : Spot) (r0 : Memo) (w : Spot → ℕ) (r : ℕ → Memo) (f : Frame) (tr : Trail) where
  -- the words after the own row shows the era
  shown_words : (e : ℕ) (h : Half) (k : ℕ) → Stands me w r f tr → PointHolds me slot (Down b) p r0 (r me.who) (point.Show e h k) → w (Head b) ≡ k
      → let a : Ask = step_ask_at me slot (Down b) (point.Show e h k) in words_after w a (spot_at me.geometry (classes w) (at_of a)) (Head b) ≡ k
  shown_words e h k st holds is =
      subst (λ (s : Spot). words_after w (step_ask_at me slot (Down b) (point.Show e h k)) s (Head b) ≡ k) (sym (row_spot me w (header_of k).client st.who holds.has.1.client)) is

  -- the word step at a point of a step down
  pub down_owes : (y : StepPoint) → is_over y ≡ false → Stands me w r f tr → CanStep me slot (Down b) p r0 → PointFits me (Down b) y → PointHolds me slot (Down b) p r0 (r me.who) y → point_alone (Down b) y w
      → let a : Ask = step_ask_at me slot (Down b) y in let s = spot_at me.geometry (classes w) (at_of a) in StepOwes me (Down b) p y (seen_of a (w s)) (words_after w a s)
  down_owes point.Era o st can fits holds is = record { loss = tt; goes = era_goes me b (w (spot_at me.geometry (classes w) (at_of (step_ask_at me slot (Down b) point.Era)))) w }
  down_owes (point.More e) o st can fits holds is = record { loss = tt; goes = (tt, omega arith) }
  down_owes (point.Redo e) o st can fits holds is = record { loss = tt; goes = (tt, omega arith) }
  down_owes (point.Load e h) o st can fits holds is =
      let place : spot_at me.geometry (classes w) b ≡ Head b = half_block me slot p r0 w r e st.held st.who (Down b) h can fits.0 fits.1 holds.has in
      record { loss = tt; goes = header_goes me b e h (w (spot_at me.geometry (classes w) b)) w (ap w (sym place)) }
  down_owes (point.Row e h k) o st can fits holds is = record { loss = tt; goes = row_goes me.geometry.wide b e h k (w (spot_at me.geometry (classes w) (row_address me (header_of k).client))) w is }
  down_owes (point.Show e h k) o st can fits holds is = record { loss = tt; goes = (shown_words e h k st holds is, omega arith) }
  down_owes (point.Exchange e h k) o st can fits holds is =
      let place : spot_at me.geometry (classes w) b ≡ Head b = half_block me slot p r0 w r e st.held st.who (Down b) h can fits.0 fits.1 holds.has.0 in
      let a : Ask = step_ask_at me slot (Down b) (point.Exchange e h k) in
      exchanged_owes me b p e h k (w (spot_at me.geometry (classes w) b)) (words_after w a (spot_at me.geometry (classes w) b)) fits.1 (ap w place ∙ is)
  down_owes (point.Slot e z) o st can fits holds is = record { loss = tt; goes = (tt, omega arith) }
  down_owes (point.Close e h z) o st can fits holds is = record { loss = tt; goes = omega arith }
  down_owes point.Over o st can fits holds is = absurd (true≢false o)

-- ---- in any frame

-- where a step leads it knows what it has to, and has less than n left or over
goes_alone : (wide : Bool) (x : Aim) (w : Spot → ℕ) (n : ℕ) (z : StepNext) → StepGoes wide x w n z → Outcome (option_map down_answer (answer_of z)) (point_alone x (point_of z) w) (λ a. Unit {0})
goes_alone wide x w n (Point y) h = h.0
goes_alone wide x w n (Answer a) h = tt

goes_less : (wide : Bool) (x : Aim) (w : Spot → ℕ) (n : ℕ) (z : StepNext) → StepGoes wide x w n z → Outcome (option_map down_answer (answer_of z)) (point_left wide (point_of z) < n) (λ a. step_saved a < n)
goes_less wide x w n (Point y) h = h.1
goes_less wide x w n (Answer a) h = h

-- what is owed of a word step is paid
owes_paid : (me : Me) (slot : ℕ) (x : Aim) (p : Spot) (y : StepPoint) (n : ℕ) (w : Spot → ℕ) → StepOwes me x p y n w → IsPaid down_control (step_event p) step_alone step_left step_saved (record { me = me; slot = slot; aim = x; point = y }) n w
owes_paid me slot x p y n w h =
    let most : ℕ = point_left me.geometry.wide y + pay * weight (step_event_at me x p y n) in
    record { loss = h.loss; alone = goes_alone me.geometry.wide x w most (step_next_at me x y n) h.goes; paid = goes_less me.geometry.wide x w most (step_next_at me x y n) h.goes }

-- a step down at p that works alone ends
pub down_ends_at : (p : Spot) → EndsAlone down_control (step_event p) step_alone step_left step_saved (DownFitsAt p)
down_ends_at p m r0 tr w r f going st fit is = go m.aim fit.0 fit.1.can fit.1.knows.point fit.1.holds is
  where
    go : (x : Aim) → is_down x ≡ true → CanStep m.me m.slot x p r0 → PointFits m.me x m.point → PointHolds m.me m.slot x p r0 (r m.me.who) m.point → point_alone x m.point w
        → let a : Ask = step_ask_at m.me m.slot x m.point in let s = spot_at m.me.geometry (classes w) (at_of a) in IsPaid down_control (step_event p) step_alone step_left step_saved (record m { aim = x }) (seen_of a (w s)) (words_after w a s)
    go (Down b) u can fits holds is =
        let a : Ask = step_ask_at m.me m.slot (Down b) m.point in
        let s : Spot = spot_at m.me.geometry (classes w) (at_of a) in
        owes_paid m.me m.slot (Down b) p m.point (seen_of a (w s)) (words_after w a s) (down_owes m.me m.slot b p r0 w r f tr m.point going st can fits holds is)
    go (Up b) u can fits holds is = absurd (true≢false (sym u))
    go (Change a b) u can fits holds is = absurd (true≢false (sym u))
