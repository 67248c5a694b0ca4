-- a get as a piece of work
use Rattle.std.proofs.Common.{◌≡◌, ℕ, refl, sym, ap, ◌∙◌, List, [], ◌∷◌, zero, suc, Result}
use Rattle.std.specs.{Prelude.{Option, Some, None}, Option.option_map}
use Rattle.shm_graph.specs.{declared.{ask.Me.Me, memo.Memo.Memo}, Asks.Trail, Tells.after_all}
use Rattle.plans.specs.declared.or.Or.{Or, TheVariants.{First, Second}}
use Rattle.plans.specs.{CallsControl.{called_on, calls_control, calls_of}, CallsFit.CallsFits, Deciding.Foretells}
use Rattle.plans.specs.Either.{or_control}
use Rattle.shm_count.specs.declared.answer.EraSpent.{EraSpent}
use Rattle.shm_recover.specs.{Join.join_control, Leave.Control.{leave_parts, leave_steered}}
use Rattle.shm_recover.specs.Recover.Control.{recover_parts, recover_steered}
use Rattle.shm_script.specs.declared.{line.Line.Line, log.Answer.Answer}
use Rattle.shm_script.specs.declared.line.Line.TheVariants as line
use Rattle.shm_table.specs.Command.{command_by, command_control, command_effect, given}
use Rattle.shm_table.specs.declared.{find.Found.TheVariants.{Absent, At}, get.GetPoint.GetPoint}
use Rattle.shm_table.specs.declared.get.GetPoint.TheVariants.{Search, Value, Number, Missing, Known}
use Rattle.shm_table.specs.declared.get.GetState.{GetState}
use Rattle.shm_table.specs.Get.{Control.{GetAnswer, GetCall, GetCalls, get_parts, get_steered, read_after}, get_plan}
use Rattle.shm_table.specs.Machines.Get.{get}
use Rattle.shm_agents.specs.{Agents.{behind, shown_by}, Work.{Work, WorkAnswer, WorkFits, commanding, work_control}}
use Rattle.shm_agents.proofs.{Effects.none_shown, Trails.answer_inside}
use Rattle.shm_effects.proofs.Reading.{IsBack}
use Rattle.shm_replay.proofs.Gathering.{same_some}

-- ---- which work is a get

abbrev pub a_get : GetCalls → Work
a_get m = Second (First (Second (First (Second m))))

abbrev pub get_in : Work → Option GetCalls
get_in (Second (First (Second (First (Second m))))) = Some m
get_in (Second (First (Second (First (First m))))) = None
get_in (Second (First (Second (Second m)))) = None
get_in (Second (First (First m))) = None
get_in (Second (Second m)) = None
get_in (First m) = None

pub is_get : (w : Work) (m : GetCalls) → get_in w ≡ Some m → w ≡ a_get m
is_get (Second (First (Second (First (Second n))))) m e = ap a_get (same_some n m e)
is_get (Second (First (Second (First (First n))))) m e = absurd (cc)
is_get (Second (First (Second (Second n)))) m e = absurd (cc)
is_get (Second (First (First n))) m e = absurd (cc)
is_get (Second (Second n)) m e = absurd (cc)
is_get (First n) m e = absurd (cc)

-- after a word step it is one where it was one
pub get_after : (w : Work) (n : ℕ) (k : GetCalls) → get_in (work_control.after w n) ≡ Some k → (m : GetCalls) × (w ≡ a_get m) × (get.after m n ≡ k)
get_after (Second (First (Second (First (Second m))))) n k e = (m, refl, same_some (get.after m n) k e)
get_after (Second (First (Second (First (First m))))) n k e = absurd (cc)
get_after (Second (First (Second (Second (First m))))) n k e = absurd (cc)
get_after (Second (First (Second (Second (Second m))))) n k e = absurd (cc)
get_after (Second (First (First (First m)))) n k e = absurd (cc)
get_after (Second (First (First (Second m)))) n k e = absurd (cc)
get_after (Second (Second m)) n k e = absurd (cc)
get_after (First (First m)) n k e = absurd (cc)
get_after (First (Second m)) n k e = absurd (cc)

-- before its first word step it hasn't given back a latch
fresh_get : (me : Me) (l : Line) (m : GetCalls) → get_in (commanding me l) ≡ Some m → IsBack m → ⊥
fresh_get me (line.Put key n) m e b = absurd (cc)
fresh_get me (line.Copy key a other) m e b = absurd (cc)
fresh_get me (line.Del key) m e b = absurd (cc)
fresh_get me (line.Get a key) m e b = absurd (let z = ap (λ (x : GetCalls). x.call) (same_some _ m e) ∙ b.call in cc)
fresh_get me (line.Send i key) m e b = absurd (cc)
fresh_get me (line.Recv s key) m e b = absurd (cc)

pub behind_get : (me : Me) (ls : List Line) (k : ℕ) (m : GetCalls) → get_in (behind me ls k) ≡ Some m → IsBack m → ⊥
behind_get me [] k m e b = absurd (cc)
behind_get me (l ∷ ls) zero m e b = fresh_get me l m e b
behind_get me (l ∷ ls) (suc k) m e b = behind_get me ls k m e b

-- ---- what it answers and shows

abbrev answered_as : Option Answer → Option WorkAnswer
answered_as o = option_map Second (option_map First (option_map given (option_map Second (option_map First (option_map Second o)))))

pub get_none : (m : GetCalls) (n : ℕ) → work_control.turns (a_get m) n ≡ None → get.turns m n ≡ None
get_none m n e = go (get.turns m n) e
  where
    go : (o : Option Answer) → answered_as o ≡ None → o ≡ None
    go None e = refl
    go (Some a) e = absurd (cc)

pub get_some : (m : GetCalls) (n : ℕ) (a : Answer) → work_control.turns (a_get m) n ≡ Some (Second (First a)) → get.turns m n ≡ Some a
get_some m n a e = go (get.turns m n) e
  where
    go : (o : Option Answer) → answered_as o ≡ Some (Second (First a)) → o ≡ Some a
    go None e = absurd (cc)
    go (Some b) e = cc

pub get_fits : (m : GetCalls) (r0 r : Memo) (tr : Trail) → WorkFits (a_get m) r0 r tr → CallsFits get_parts get_plan m r0 r tr
get_fits m r0 r tr f = f

-- the machine of a get is one all along, for the same author and key
pub get_along : (c : GetCalls) (tr : Trail) → after_all command_control (Second (First (Second c))) tr ≡ Second (First (Second (after_all get c tr)))
get_along c [] = refl
get_along c (x ∷ tr) = get_along (get.after c x.word) tr

-- ---- what isn't a command

other_part : {A B : Type 0} (o : Option B) (a : A) → ◌≡◌ {A = Option (Or A B)} (option_map Second o) (Some (First a)) → ⊥
other_part None a e = cc
other_part (Some b) a e = cc

pub first_shows : (w : Work) (n : ℕ) (a : Or (Unit {0}) (Result (Unit {0}) EraSpent)) → work_control.turns w n ≡ Some (First a) → (shown_by w ≡ None) × (shown_by (work_control.after w n) ≡ None)
first_shows (First m) n a e = (refl, refl)
first_shows (Second m) n a e = absurd (other_part ((or_control command_control (calls_control leave_parts leave_steered)).turns m n) a e)

-- what comes next shows no answer
pub behind_shows : (me : Me) (ls : List Line) (k : ℕ) → shown_by (behind me ls k) ≡ None
behind_shows me [] k = refl
behind_shows me (l ∷ ls) zero = none_shown me l
behind_shows me (l ∷ ls) (suc k) = behind_shows me ls k

pub first_work : (w : Work) → (m : _) × (w ≡ First m) → (n : ℕ) (a : Or Answer (Result (Unit {0}) EraSpent)) → work_control.turns w n ≡ Some (Second a) → ⊥
first_work w (m, e) n a f = go ((or_control join_control (calls_control recover_parts recover_steered)).turns m n) (sym (ap (λ (z : Work). work_control.turns z n) e) ∙ f)
  where
    go : (o : Option (Or (Unit {0}) (Result (Unit {0}) EraSpent))) → ◌≡◌ {A = Option WorkAnswer} (option_map First o) (Some (Second a)) → ⊥
    go None e = cc
    go (Some b) e = cc

-- ---- what it shows, it answers

no_first : {A B : Type 0} (o : Option A) → ◌≡◌ {A = Option (Or A B)} (option_map First o) None → o ≡ None
no_first None e = refl
no_first (Some a) e = absurd (cc)

no_second : {A B : Type 0} (o : Option B) → ◌≡◌ {A = Option (Or A B)} (option_map Second o) None → o ≡ None
no_second None e = refl
no_second (Some a) e = absurd (cc)

module _ (tells : Foretells command_control (λ a. a) command_effect command_by) where
  pub shown_stays : (w : Work) (n : ℕ) (a : Answer) → shown_by w ≡ Some a → work_control.turns w n ≡ None → shown_by (work_control.after w n) ≡ Some a
  shown_stays (First m) n a e f = absurd (cc)
  shown_stays (Second (First m)) n a e f = tells.stays m n a e (no_first (command_control.turns m n) (no_second (option_map First (command_control.turns m n)) f))
  shown_stays (Second (Second m)) n a e f = absurd (cc)

  pub shown_answers : (w : Work) (n : ℕ) (a b : Answer) → shown_by w ≡ Some b → work_control.turns w n ≡ Some (Second (First a)) → a ≡ b
  shown_answers (First m) n a b e f = absurd (cc)
  shown_answers (Second (First m)) n a b e f = tells.answers m n b a e (answer_inside (command_control.turns m n) a f)
  shown_answers (Second (Second m)) n a b e f = absurd (cc)

-- ---- what answers otherwise

pub not_first : (m : GetCalls) (n : ℕ) (a : Or (Unit {0}) (Result (Unit {0}) EraSpent)) → work_control.turns (a_get m) n ≡ Some (First a) → ⊥
not_first m n a e = other_part (option_map First (command_control.turns (Second (First (Second m))) n)) a e

in_second : {A B C : Type 0} (o : Option A) (b : B) → ◌≡◌ {A = Option (Or C (Or A B))} (option_map Second (option_map First o)) (Some (Second (Second b))) → ⊥
in_second None b e = cc
in_second (Some a) b e = cc

pub leave_shows : (w : Work) (n : ℕ) (a : Result (Unit {0}) EraSpent) → work_control.turns w n ≡ Some (Second (Second a)) → shown_by w ≡ None
leave_shows (First m) n a e = refl
leave_shows (Second (First m)) n a e = absurd (in_second (command_control.turns m n) a e)
leave_shows (Second (Second m)) n a e = refl

pub not_leave : (m : GetCalls) (n : ℕ) (a : Result (Unit {0}) EraSpent) → work_control.turns (a_get m) n ≡ Some (Second (Second a)) → ⊥
not_leave m n a e = in_second (command_control.turns (Second (First (Second m))) n) a e

-- ---- whose map it reads, and at which key

abbrev Same : GetState → GetState → Type 0
Same p q = (q.author ≡ p.author) × (q.key ≡ p.key)

read_same : (p : GetState) (n : ℕ) (y : GetPoint) → Same p (calls_of get_steered (read_after p y n)).plan
read_same p n Search = (refl, refl)
read_same p n Value = (refl, refl)
read_same p n Number = (refl, refl)
read_same p n Missing = (refl, refl)
read_same p n Known = (refl, refl)

called_same : (p : GetState) (c : GetCall) (o : Option GetAnswer) → Same p (called_on get_parts get_steered p c o).plan
called_same p c None = (refl, refl)
called_same p c (Some (First (At e b w))) = (refl, refl)
called_same p c (Some (First (Absent home first))) = (refl, refl)
called_same p c (Some (Second (First n))) = read_same p n p.point
called_same p c (Some (Second (Second u))) = (refl, refl)

pub along_same : (c : GetCalls) (tr : Trail) → Same c.plan (after_all get c tr).plan
along_same c [] = (refl, refl)
along_same c (x ∷ tr) =
    let now = called_same c.plan (get_parts.after c.call x.word) (get_parts.turns c.call x.word) in
    let then = along_same (get.after c x.word) tr in
    (then.0 ∙ now.0, then.1 ∙ now.1)
