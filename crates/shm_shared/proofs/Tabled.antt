-- the operations of an identity keep a pool for tables
use Rattle.std.proofs.Common.{◌≡◌, ℕ, ◌<◌, Bool, true, false, [], ◌∷◌, refl, sym, ap, ◌∙◌, subst, arith}
use Rattle.std.specs.{Prelude.{Option, Some, None, Ok, Err}, Option.option_map}
use Rattle.shm_words.specs.Layout.{GeometryFits}
use Rattle.shm_graph.specs.{declared.{ask.Me.Me, memo.Memo.Memo, run.Start.Start}, Agents.recovers, Asks.Trail}
use Rattle.shm_graph.specs.{Changes.asked_spot, Held.is_loose, Laws.Laws, Operations.{IsHeld, OperationLaws}}
use Rattle.shm_graph.specs.{Tells.happens_along, Runs.{first_memo, first_part}, Mapped.{AtTheEnd, OnTheWay}}
use Rattle.shm_graph.specs.Operations as operations
use Rattle.plans.specs.{declared.or.Or.{Or, TheVariants.{First, Second}}, CallsControl.calls_of}
use Rattle.plans.specs.{Either.{OrFits, OrGives, or_control}, Proved.{Either.or_laws, Placed.from_placed}}
use Rattle.shm_recover.specs.{Join.join_fresh, Leave.Control.{leaving, leave_steered}}
use Rattle.shm_recover.specs.Recover.Control.{recovering, recover_steered}
use Rattle.shm_script.specs.{declared.{line.Line.Line, log.Answer.Answer}, Ranges.LineFits}
use Rattle.shm_script.specs.declared.line.Line.TheVariants as line
use Rattle.shm_session.specs.declared.said.{Call.Call, Stage.Stage}
use Rattle.shm_session.specs.declared.said.Stage.TheVariants as stage
use Rattle.shm_singles.specs.Steps.{Lives, LivesAnswer, lives_control}
use Rattle.shm_table.specs.Command.{CommandCall, CommandFits, CommandGives, Operates.{CommandLeaves, CommandMay}}
use Rattle.shm_table.specs.{Command.{command_control, command_does, command_of}, Proved.Command.Laws.command_laws}
use Rattle.shm_table.specs.Proved.{Command.Operates.{command_may, command_operation}, CopyKey.Laws.copy_laws}
use Rattle.shm_table.specs.Proved.{Del.Laws.del_laws, FetchHead.Laws.fetch_head_laws, Fetch.Laws.fetch_laws}
use Rattle.shm_table.specs.Proved.{Get.Laws.get_laws, Put.Laws.put_laws, RecvKey.Laws.recv_laws}
use Rattle.shm_table.specs.Proved.{SendKey.Laws.send_key_laws, TakeHead.Laws.take_head_laws}
use Rattle.shm_table.specs.TableTasks.{IsAtTable, LineMay}
use Rattle.shm_agents.specs.Proved.WorkLaws.{puts}
use Rattle.shm_agents.proofs.{Loose.step_kept, WorkLaws.{behind_fresh, behind_me}}
use Rattle.shm_sessions.specs.{Kept.{AreKept, IsLeft, MayStart}, Logs.IsCall}
use Rattle.shm_sitting.specs.{declared.work.{Work.Work, WorkAnswer.WorkAnswer}, Tables.{replies, tables}}
use Rattle.shm_sitting.specs.Work.{commanding, join_work, leave_work, recover_work, work_control}
use Rattle.shm_sitting.specs.declared.work.Work.TheVariants as work
use Rattle.shm_sitting.specs.declared.work.WorkAnswer.TheVariants as answer
use Rattle.shm_shared.proofs.{Begun.{IsBegun, Joins, Leaves, Recovers, Commands, begun}, Between.IsBetween}
use Rattle.shm_shared.proofs.Lives.{dead_not_gone, joined, live_not_gone, lives_laws, lives_part, may_join, may_leave, may_recover, not_left}
use Rattle.shm_shared.proofs.{Opening.command_leaves, Renamed.{IsNamed, NamedFits, NamedGives, named_laws}}

-- a pool for tables is one at any time
abbrev pub IsTabled : Memo → Type 0
IsTabled r = is_loose r.part ≡ false

-- ---- a piece of work is one of two machines

abbrev as_either : Work → Or Lives CommandCall
as_either (work.Lives m) = First m
as_either (work.Command m) = Second m

abbrev told_either : WorkAnswer → Or LivesAnswer Answer
told_either (answer.Lives a) = First a
told_either (answer.Command a) = Second a

either_me : (m : Work) → (or_control lives_control command_control).me (as_either m) ≡ work_control.me m
either_me (work.Lives m) = refl
either_me (work.Command m) = refl

either_line : (m : Work) → (or_control lives_control command_control).line (as_either m) ≡ work_control.line m
either_line (work.Lives m) = refl
either_line (work.Command m) = refl

either_fresh : (m : Work) → (or_control lives_control command_control).fresh (as_either m) ≡ work_control.fresh m
either_fresh (work.Lives m) = refl
either_fresh (work.Command m) = refl

either_finished : (m : Work) → (or_control lives_control command_control).finished (as_either m) ≡ work_control.finished m
either_finished (work.Lives m) = refl
either_finished (work.Command m) = refl

either_asks : (m : Work) → (or_control lives_control command_control).asks (as_either m) ≡ work_control.asks m
either_asks (work.Lives m) = refl
either_asks (work.Command m) = refl

either_after : (m : Work) (n : ℕ) → (or_control lives_control command_control).after (as_either m) n ≡ as_either (work_control.after m n)
either_after (work.Lives m) n = refl
either_after (work.Command m) n = refl

either_turns : (m : Work) (n : ℕ) → (or_control lives_control command_control).turns (as_either m) n ≡ option_map told_either (work_control.turns m n)
either_turns (work.Lives m) n = told (lives_control.turns m n)
  where
    told : (o : Option LivesAnswer) → (let x : Option (Or LivesAnswer Answer) = option_map First o in x ≡ option_map told_either (option_map answer.Lives o))
    told None = refl
    told (Some a) = refl
either_turns (work.Command m) n = told (command_control.turns m n)
  where
    told : (o : Option Answer) → (let x : Option (Or LivesAnswer Answer) = option_map Second o in x ≡ option_map told_either (option_map answer.Command o))
    told None = refl
    told (Some a) = refl

is_either : IsNamed work_control (or_control lives_control command_control) as_either told_either
is_either = record { me = either_me; line = either_line; fresh = either_fresh; finished = either_finished; asks = either_asks; after = either_after; turns = either_turns }

abbrev pub WorkFits : OnTheWay Work
WorkFits = NamedFits as_either (OrFits lives_part.fits CommandFits)

abbrev pub WorkGives : AtTheEnd Work WorkAnswer
WorkGives = NamedGives as_either told_either (OrGives lives_part.gives CommandGives)

commands : Laws command_control CommandFits CommandGives
commands = command_laws (put_laws puts) (copy_laws fetch_laws puts) del_laws get_laws send_key_laws (recv_laws fetch_head_laws take_head_laws puts)

pub work_laws : Laws work_control WorkFits WorkGives
work_laws =
    named_laws work_control (or_control lives_control command_control) as_either told_either is_either (OrFits lives_part.fits CommandFits) (OrGives lives_part.gives CommandGives)
    (or_laws lives_control command_control lives_part.fits lives_part.gives CommandFits CommandGives (from_placed lives_control lives_part.fits lives_part.gives (lives_laws true).placed) commands)

-- ---- what a call begins

command : OperationLaws command_control CommandFits CommandGives CommandMay command_does CommandLeaves (λ m b. Unit {0})
command = command_operation (put_laws puts) (copy_laws fetch_laws puts) del_laws get_laws send_key_laws (recv_laws fetch_head_laws take_head_laws puts)

work_me : (me : Me) (t : Stage) (c : Call) (m : Work) → IsBegun me t c m → work_control.me m ≡ me
work_me me t c m (Joins at is) = subst (λ (w : Work). work_control.me w ≡ me) is refl
work_me me t c m (Leaves at is) = subst (λ (w : Work). work_control.me w ≡ me) is refl
work_me me t c m (Recovers at is) = subst (λ (w : Work). work_control.me w ≡ me) is refl
work_me me t c m (Commands at l f is) = subst (λ (w : Work). work_control.me w ≡ me) is (behind_me me (l ∷ []) 0)

work_fresh : (me : Me) (t : Stage) (c : Call) (m : Work) → IsBegun me t c m → work_control.fresh m ≡ true
work_fresh me t c m (Joins at is) = subst (λ (w : Work). work_control.fresh w ≡ true) is refl
work_fresh me t c m (Leaves at is) = subst (λ (w : Work). work_control.fresh w ≡ true) is refl
work_fresh me t c m (Recovers at is) = subst (λ (w : Work). work_control.fresh w ≡ true) is refl
work_fresh me t c m (Commands at l f is) = subst (λ (w : Work). work_control.fresh w ≡ true) is (behind_fresh me (l ∷ []) 0)

-- ---- where an operation begins

module _ (me : Me) (r : Memo) (who : me.who < me.geometry.clients) (held : IsHeld me r) where
  geometry : GeometryFits me.geometry
  geometry = held.2.fits

  at_table : IsBetween false me r → IsAtTable r
  at_table h = record { client = h.client; none = h.latch; table = h.pool }

  line_may : (l : Line) → IsBetween false me r → LineFits me.geometry.clients me.who l → LineMay me l r
  line_may (line.Put k n) h f = (at_table h, f.0, f.1)
  line_may (line.Copy k a o) h f = (at_table h, f.0, f.1)
  line_may (line.Del k) h f = at_table h
  line_may (line.Get a k) h f = (h.latch, h.pool, f.0)
  line_may (line.Send to k) h f = (at_table h, f.0, λ z. f.1 (sym z), h.unsent to)
  line_may (line.Recv from k) h f = (at_table h, f.2, f.0, f.1, h.untaken from)

  command_ready : (l : Line) → IsBetween false me r → operations.IsReady (command_control.me (command_of me l)) r
  command_ready l h = subst (λ (x : Me). operations.IsReady x r) (sym (behind_me me (l ∷ []) 0)) (record { geometry = geometry; who = who; held = held; idle = h.idle })

  work_fits : (t : Stage) (c : Call) (m : Work) → IsCall c → IsBegun me t c m → MayStart IsTabled (IsBetween false) me t r → WorkFits m r r []
  work_fits t c m sized (Joins at is) may =
      let now : MayStart IsTabled (IsBetween false) me stage.Vacant r = subst (λ (u : Stage). MayStart IsTabled (IsBetween false) me u r) at may in
      subst (λ (w : Work). WorkFits w r r []) is ((lives_laws true).begins (First (join_fresh me)) r (may_join me r geometry who now.0))
  work_fits t c m sized (Leaves at is) may =
      let h : IsBetween false me r = subst (λ (u : Stage). MayStart IsTabled (IsBetween false) me u r) at may in
      subst (λ (w : Work). WorkFits w r r []) is ((lives_laws true).begins (Second (Second (calls_of leave_steered (leaving me)))) r (may_leave me r geometry who false h))
  work_fits t c m sized (Recovers at is) may =
      let recoverer : recovers r ≡ true = subst (λ (u : Stage). MayStart IsTabled (IsBetween false) me u r) at may in
      subst (λ (w : Work). WorkFits w r r []) is ((lives_laws true).begins (Second (First (calls_of recover_steered (recovering me)))) r (may_recover me r geometry who recoverer))
  work_fits t c m sized (Commands at l f is) may =
      let h : IsBetween false me r = subst (λ (u : Stage). MayStart IsTabled (IsBetween false) me u r) at may in
      subst (λ (w : Work). WorkFits w r r []) is (command.begins (command_of me l) r (command_ready l h) (command_may me l r (line_may l h (f sized))))

-- ---- what it leaves

module _ (me : Me) (r0 r : Memo) (tr : Trail) (who : me.who < me.geometry.clients) (held0 : IsHeld me r0) (kind : recovers r ≡ recovers r0) (tabled : IsTabled r) where
  abbrev Left : Stage → WorkAnswer → Type 0
  Left t a = IsLeft IsTabled (IsBetween false) me t (replies a t).stage r

  join_left : (a : WorkAnswer) → MayStart IsTabled (IsBetween false) me stage.Vacant r0 → WorkGives (join_work me) r0 r tr a → Left stage.Vacant a
  join_left (answer.Lives (First u)) may g =
      let h : IsBetween false me r = joined me r0 r tr false who held0 may.0 (kind ∙ may.1) tabled u g in
      (live_not_gone r.status h.idle.live, λ room. h)
  join_left (answer.Lives (Second b)) may g = absurd g
  join_left (answer.Command b) may g = absurd g

  leave_left : (a : WorkAnswer) → IsBetween false me r0 → WorkGives (leave_work me) r0 r tr a → Left stage.Live a
  leave_left (answer.Lives (Second (Second (Ok u)))) h g = g.leaves.status
  leave_left (answer.Lives (Second (Second (Err e)))) h g = (
    not_left me r0 r tr _ e h.idle g.leaves,
    λ room. absurd (let high = g.leaves.1.stopped.spent in let most = g.leaves.1.most in omega arith),
  )
  leave_left (answer.Lives (Second (First b))) h g = absurd g
  leave_left (answer.Lives (First b)) h g = absurd g
  leave_left (answer.Command b) h g = absurd g

  recover_left : (a : WorkAnswer) → recovers r0 ≡ true → WorkGives (recover_work me) r0 r tr a → Left stage.Dead a
  recover_left (answer.Lives (Second (First (Ok u)))) h g = g.leaves.status
  recover_left (answer.Lives (Second (First (Err e)))) h g = (dead_not_gone r.status g.leaves.status, kind ∙ h)
  recover_left (answer.Lives (First b)) h g = absurd g
  recover_left (answer.Lives (Second (Second b))) h g = absurd g
  recover_left (answer.Command b) h g = absurd g

  command_left : (l : Line) → LineFits me.geometry.clients me.who l → (a : WorkAnswer) → IsBetween false me r0 → WorkGives (commanding me l) r0 r tr a → Left stage.Live a
  command_left l f (answer.Command a) h g =
      let m = command_of me l in
      let ready : operations.IsReady (command_control.me m) r0 = command_ready me r0 who held0 l h in
      let may : CommandMay m r0 = command_may me l r0 (line_may me r0 who held0 l h f) in
      let rests = command.rests m r0 r tr (happens_along command_control command_does m tr) a ready may (command.leads m r0 r tr a ready may g) tt in
      (live_not_gone r.status rests.live, λ room. command_leaves me r0 r h (kind ∙ h.client) (λ e z. let high = z.0 in let most = z.1 in omega arith) l tr a g)
  command_left l f (answer.Lives b) h g = absurd g

  work_left : (t : Stage) (c : Call) (m : Work) (a : WorkAnswer) → IsCall c → IsBegun me t c m → MayStart IsTabled (IsBetween false) me t r0 → WorkGives m r0 r tr a → Left t a
  work_left t c m a sized (Joins at is) may g =
      subst (λ (u : Stage). Left u a) (sym at) (join_left a (subst (λ (u : Stage). MayStart IsTabled (IsBetween false) me u r0) at may) (subst (λ (w : Work). WorkGives w r0 r tr a) (sym is) g))
  work_left t c m a sized (Leaves at is) may g =
      subst (λ (u : Stage). Left u a) (sym at) (leave_left a (subst (λ (u : Stage). MayStart IsTabled (IsBetween false) me u r0) at may) (subst (λ (w : Work). WorkGives w r0 r tr a) (sym is) g))
  work_left t c m a sized (Recovers at is) may g =
      subst (λ (u : Stage). Left u a) (sym at) (recover_left a (subst (λ (u : Stage). MayStart IsTabled (IsBetween false) me u r0) at may) (subst (λ (w : Work). WorkGives w r0 r tr a) (sym is) g))
  work_left t c m a sized (Commands at l f is) may g =
      subst (λ (u : Stage). Left u a) (sym at) (command_left l (f sized) a (subst (λ (u : Stage). MayStart IsTabled (IsBetween false) me u r0) at may) (subst (λ (w : Work). WorkGives w r0 r tr a) (sym is) g))

pub tables_kept : AreKept tables WorkFits WorkGives IsTabled (IsBetween false)
tables_kept = record {
  me = λ me t c m e. work_me me t c m (begun me t c m e);
  fresh = λ me t c m e. work_fresh me t c m (begun me t c m e);
  begins = λ me t c m r sized e x. work_fits me r x.who x.held t c m sized (begun me t c m e) x.may;
  leaves = λ me t c m r0 r tr a sized e x g held kind kept. work_left me r0 r tr x.who x.held kind kept t c m a sized (begun me t c m e) x.may g;
  steps = λ r t h. step_kept r t (asked_spot r t) ∙ h;
  dies = λ r h. h;
  enters = λ k r h. h;
}

-- each identity of a pool that was made for tables begins so
pub first_tabled : (s : Start) → s.tables ≡ true → (c : ℕ) → c < s.geometry.clients → IsTabled (first_memo s c)
first_tabled s made c low = ap (λ (b : Bool). is_loose (first_part b)) made
