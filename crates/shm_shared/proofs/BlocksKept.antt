-- the operations of an identity keep a pool for single blocks
use Rattle.std.proofs.Common.{◌≡◌, ℕ, ◌<◌, ◌&&◌, Bool, true, false, refl, sym, ap, ◌∙◌, subst, arith, []}
use Rattle.std.specs.{Prelude.{None, Option, Some}, Option.option_map}
use Rattle.shm_graph.specs.{declared.{ask.Me.Me, memo.Memo.Memo, run.Start.Start}, Agents.recovers, Asks.Trail}
use Rattle.shm_graph.specs.{Changes.asked_spot, Held.is_loose, Laws.Laws, Mapped.{AtTheEnd, OnTheWay}}
use Rattle.shm_graph.specs.{Operations.IsHeld, Runs.{first_memo, first_part}}
use Rattle.plans.specs.declared.{calls.Calls.Calls, or.Or.TheVariants.{First, Second}}
use Rattle.plans.specs.{CallsFit.{CallsFits, CallsGives}, CallsControl.{answered, called_on, calls_control, planned}}
use Rattle.plans.specs.Proved.CallsKeep.{calls_begin, calls_laws}
use Rattle.shm_agents.proofs.Loose.{step_kept}
use Rattle.shm_session.specs.declared.said.{Call.Call, Stage.{Stage, TheVariants.Vacant}}
use Rattle.shm_sessions.specs.{Kept.{AreKept, IsLeft, MayStart}, Logs.IsCall}
use Rattle.shm_singles.specs.declared.{part.{Part.Part, PartAnswer.PartAnswer}, script.{Deed.Deed, Outcome.Outcome}}
use Rattle.shm_singles.specs.{declared.script.ScriptState.ScriptState, Parts.part_control}
use Rattle.shm_singles.specs.Scripts.{is_first, part, script_after, script_steered, script_turns, started}
use Rattle.shm_singles.specs.Steering.{answered as steering_answered, gone_on, steered_to, steering_control, steering_of}
use Rattle.shm_singles.specs.Singles.{Work, alone, replies, singles}
use Rattle.shm_singles.specs.declared.part.Part.TheVariants as group
use Rattle.shm_singles.specs.declared.part.PartAnswer.TheVariants as answer
use Rattle.shm_singles.specs.declared.script.Deed.TheVariants as deed
use Rattle.shm_shared.proofs.{Between.IsBetween, BlockLaws.blocks_laws, BlockPlan.{blocks_plan, blocks_steered}}
use Rattle.shm_shared.proofs.BlockCalls.{IsBegun, Joins, Leaves, Recovers, Runs, block_begun}
use Rattle.shm_shared.proofs.BlockWays.{HasPeer, HasRequest, IsBlocked, IsInRange, IsOn, KnowsAt, stage_of}
use Rattle.shm_shared.proofs.Nest.{Nest, in_nest, nest_control, of_told, told_nest}
use Rattle.shm_shared.proofs.Renamed.{IsNamed, NamedFits, NamedGives, named_laws}

-- ---- an operation is the calls of a plan

abbrev as_calls : Work → Calls ScriptState Nest
as_calls m = record { plan = m.by; call = in_nest m.call }

nest_fresh : (c : Part) → nest_control.fresh (in_nest c) ≡ part_control.fresh c
nest_fresh (group.Lives m) = refl
nest_fresh (group.Alloc m) = refl
nest_fresh (group.Roots m) = refl
nest_fresh (group.Words m) = refl
nest_fresh (group.Latches m) = refl
nest_fresh (group.Queues m) = refl

nest_finished : (c : Part) → nest_control.finished (in_nest c) ≡ part_control.finished c
nest_finished (group.Lives m) = refl
nest_finished (group.Alloc m) = refl
nest_finished (group.Roots m) = refl
nest_finished (group.Words m) = refl
nest_finished (group.Latches m) = refl
nest_finished (group.Queues m) = refl

nest_asks : (c : Part) → nest_control.asks (in_nest c) ≡ part_control.asks c
nest_asks (group.Lives m) = refl
nest_asks (group.Alloc m) = refl
nest_asks (group.Roots m) = refl
nest_asks (group.Words m) = refl
nest_asks (group.Latches m) = refl
nest_asks (group.Queues m) = refl

nest_after : (c : Part) (n : ℕ) → nest_control.after (in_nest c) n ≡ in_nest (part_control.after c n)
nest_after (group.Lives m) n = refl
nest_after (group.Alloc m) n = refl
nest_after (group.Roots m) n = refl
nest_after (group.Words m) n = refl
nest_after (group.Latches m) n = refl
nest_after (group.Queues m) n = refl

-- one name of a name is a name
twice : {A B C : Type 0} (f : B → C) (g : A → B) (o : Option A) → option_map f (option_map g o) ≡ option_map (λ a. f (g a)) o
twice f g None = refl
twice f g (Some a) = refl

thrice : {A B C D : Type 0} (f : C → D) (g : B → C) (h : A → B) (o : Option A) → option_map f (option_map g (option_map h o)) ≡ option_map (λ a. f (g (h a))) o
thrice f g h None = refl
thrice f g h (Some a) = refl

nest_turns : (c : Part) (n : ℕ) → nest_control.turns (in_nest c) n ≡ option_map told_nest (part_control.turns c n)
nest_turns (group.Lives m) n = twice First First _ ∙ sym (twice told_nest answer.Lives _)
nest_turns (group.Alloc m) n = twice First Second _ ∙ sym (twice told_nest answer.Alloc _)
nest_turns (group.Roots m) n = thrice Second First First _ ∙ sym (twice told_nest answer.Roots _)
nest_turns (group.Words m) n = thrice Second First Second _ ∙ sym (twice told_nest answer.Words _)
nest_turns (group.Latches m) n = thrice Second Second First _ ∙ sym (twice told_nest answer.Latches _)
nest_turns (group.Queues m) n = thrice Second Second Second _ ∙ sym (twice told_nest answer.Queues _)

planned_so : (p : ScriptState) (c : Part) (o : Option Outcome) → planned nest_control blocks_steered (in_nest c) p o ≡ as_calls (steered_to part_control script_steered c p o)
planned_so p c None = refl
planned_so p c (Some a) = refl

called_so : (p : ScriptState) (c : Part) (o : Option PartAnswer) → called_on nest_control blocks_steered p (in_nest c) (option_map told_nest o) ≡ as_calls (gone_on part_control script_steered p c o)
called_so p c None = refl
called_so p c (Some b) =
    subst (λ (x : PartAnswer). planned nest_control blocks_steered (in_nest c) (script_after p x) (script_turns p x) ≡ as_calls (steered_to part_control script_steered c (script_after p b) (script_turns p b))) (sym (of_told b))
    (planned_so (script_after p b) c (script_turns p b))

same_answer : (o : Option Outcome) → o ≡ option_map (λ a. a) o
same_answer None = refl
same_answer (Some a) = refl

answered_so : (p : ScriptState) (o : Option PartAnswer) → answered nest_control blocks_steered p (option_map told_nest o) ≡ option_map (λ a. a) (steering_answered part_control script_steered p o)
answered_so p None = refl
answered_so p (Some b) = ap (script_turns p) (of_told b) ∙ same_answer (script_turns p b)

is_plan : IsNamed (steering_control part_control script_steered) (calls_control nest_control blocks_steered) as_calls (λ (a : Outcome). a)
is_plan =
    record {
      me = λ m. refl;
      line = λ m. refl;
      fresh = λ m. ap (λ (b : Bool). is_first m.by.point && b) (nest_fresh m.call);
      finished = λ m. nest_finished m.call;
      asks = λ m. nest_asks m.call;
      after = λ m n.
          (λ i. called_on nest_control blocks_steered m.by (nest_after m.call n i) (nest_turns m.call n i))
          ∙ called_so m.by (part_control.after m.call n) (part_control.turns m.call n);
      turns = λ m n. ap (answered nest_control blocks_steered m.by) (nest_turns m.call n) ∙ answered_so m.by (part_control.turns m.call n);
    }

abbrev pub BlocksFit : OnTheWay Work
BlocksFit = NamedFits as_calls (CallsFits nest_control blocks_plan)

abbrev pub BlocksGive : AtTheEnd Work Outcome
BlocksGive = NamedGives as_calls (λ (a : Outcome). a) (CallsGives nest_control blocks_plan)

pub block_laws : Laws singles.control BlocksFit BlocksGive
block_laws = named_laws (steering_control part_control script_steered) (calls_control nest_control blocks_steered) as_calls (λ (a : Outcome). a) is_plan (CallsFits nest_control blocks_plan) (CallsGives nest_control blocks_plan) (calls_laws nest_control blocks_plan blocks_laws)

-- ---- what a call begins

work_me : (me : Me) (t : Stage) (c : Call) (m : Work) → IsBegun me t c m → singles.control.me m ≡ me
work_me me t c m (Joins at is) = subst (λ (w : Work). singles.control.me w ≡ me) is refl
work_me me t c m (Leaves at is) = subst (λ (w : Work). singles.control.me w ≡ me) is refl
work_me me t c m (Recovers at is) = subst (λ (w : Work). singles.control.me w ≡ me) is refl
work_me me t c m (Runs at s script is) = subst (λ (w : Work). singles.control.me w ≡ me) is script.own

both : (a b : Bool) → a ≡ true → b ≡ true → (a && b) ≡ true
both a b x y = rw (x, y) refl

work_fresh : (me : Me) (t : Stage) (c : Call) (m : Work) → IsBegun me t c m → singles.control.fresh m ≡ true
work_fresh me t c m (Joins at is) = subst (λ (w : Work). singles.control.fresh w ≡ true) is refl
work_fresh me t c m (Leaves at is) = subst (λ (w : Work). singles.control.fresh w ≡ true) is refl
work_fresh me t c m (Recovers at is) = subst (λ (w : Work). singles.control.fresh w ≡ true) is refl
work_fresh me t c m (Runs at s script is) = subst (λ (w : Work). singles.control.fresh w ≡ true) is (both (is_first s.point) (part_control.fresh (part s s.point)) script.first script.fresh)

-- it fits where what is known before its first machine is so
fits_first : (s : ScriptState) (r : Memo) → is_first s.point ≡ true → started s ≡ s → IsInRange s → KnowsAt s s.point r → BlocksFit (steering_of script_steered s) r r []
fits_first s r first start range knows = calls_begin nest_control blocks_plan blocks_laws s r first start (range, knows)

between_on : (me : Me) (r : Memo) → me.who < me.geometry.clients → IsHeld me r → IsBetween true me r → IsOn me None r
between_on me r who held h =
    record {
      ready = record { geometry = held.2.fits; who = who; held = held; idle = h.idle };
      client = h.client;
      loose = h.pool;
      latch = h.latch;
      quiet = record { dying = h.dying; unsent = h.unsent; untaken = h.untaken };
    }

-- a join, a leaving or a recovery has no numbers
no_numbers : (me : Me) (d : Deed) → me.who < me.geometry.clients → HasRequest d (alone me d).by.request → HasPeer d me.who me.who → IsInRange (alone me d).by
no_numbers me d who request another = record { request = request; root = omega arith; other = omega arith; peer = who; another = another; author = who }

work_fits : (me : Me) (t : Stage) (c : Call) (m : Work) (r : Memo) → IsCall c → IsBegun me t c m → me.who < me.geometry.clients → IsHeld me r → MayStart IsBlocked (IsBetween true) me t r → BlocksFit m r r []
work_fits me t c m r sized (Joins at is) who held may =
    let now : MayStart IsBlocked (IsBetween true) me Vacant r = subst (λ (u : Stage). MayStart IsBlocked (IsBetween true) me u r) at may in
    subst (λ (w : Work). BlocksFit w r r []) is (fits_first (alone me deed.Join).by r refl refl (no_numbers me deed.Join who tt tt) (held.2.fits, who, held, now.0, now.1))
work_fits me t c m r sized (Leaves at is) who held may =
    let h : IsBetween true me r = subst (λ (u : Stage). MayStart IsBlocked (IsBetween true) me u r) at may in
    subst (λ (w : Work). BlocksFit w r r []) is (fits_first (alone me deed.Leave).by r refl refl (no_numbers me deed.Leave who tt tt) (between_on me r who held h))
work_fits me t c m r sized (Recovers at is) who held may =
    let recoverer : recovers r ≡ true = subst (λ (u : Stage). MayStart IsBlocked (IsBetween true) me u r) at may in
    subst (λ (w : Work). BlocksFit w r r []) is (fits_first (alone me deed.Recover).by r refl refl (no_numbers me deed.Recover who tt tt) (held.2.fits, who, recoverer))
work_fits me t c m r sized (Runs at s script is) who held may =
    let h : IsBetween true me r = subst (λ (u : Stage). MayStart IsBlocked (IsBetween true) me u r) at may in
    let x = script.may who sized r (between_on me r who held h) in
    subst (λ (w : Work). BlocksFit w r r []) is (fits_first s r script.first script.start x.0 x.1)

-- ---- what it leaves

abbrev LeftSo : Me → Stage → Outcome → Memo → Type 0
LeftSo me t a r = IsLeft IsBlocked (IsBetween true) me t (replies a t).stage r

ended_so : (s : ScriptState) (r0 r : Memo) (tr : Trail) (a : Outcome) → IsBlocked r → BlocksGive (steering_of script_steered s) r0 r tr a → LeftSo s.me (stage_of s.deed) a r
ended_so s r0 r tr a kept g = g.leaves kept

work_left : (me : Me) (t : Stage) (c : Call) (m : Work) (r0 r : Memo) (tr : Trail) (a : Outcome) → IsBegun me t c m → IsBlocked r → BlocksGive m r0 r tr a → LeftSo me t a r
work_left me t c m r0 r tr a (Joins at is) kept g = subst (λ (u : Stage). LeftSo me u a r) (sym at) (ended_so (alone me deed.Join).by r0 r tr a kept (subst (λ (w : Work). BlocksGive w r0 r tr a) (sym is) g))
work_left me t c m r0 r tr a (Leaves at is) kept g = subst (λ (u : Stage). LeftSo me u a r) (sym at) (ended_so (alone me deed.Leave).by r0 r tr a kept (subst (λ (w : Work). BlocksGive w r0 r tr a) (sym is) g))
work_left me t c m r0 r tr a (Recovers at is) kept g = subst (λ (u : Stage). LeftSo me u a r) (sym at) (ended_so (alone me deed.Recover).by r0 r tr a kept (subst (λ (w : Work). BlocksGive w r0 r tr a) (sym is) g))
work_left me t c m r0 r tr a (Runs at s script is) kept g =
    subst (λ (u : Stage). LeftSo me u a r) (script.live ∙ sym at)
    (subst (λ (x : Me). LeftSo x (stage_of s.deed) a r) script.own (ended_so s r0 r tr a kept (subst (λ (w : Work). BlocksGive w r0 r tr a) (sym is) g)))

pub blocks_kept : AreKept singles BlocksFit BlocksGive IsBlocked (IsBetween true)
blocks_kept = record {
  me = λ me t c m e. work_me me t c m (block_begun me t c m e);
  fresh = λ me t c m e. work_fresh me t c m (block_begun me t c m e);
  begins = λ me t c m r sized e x. work_fits me t c m r sized (block_begun me t c m e) x.who x.held x.may;
  leaves = λ me t c m r0 r tr a sized e x g held kind kept. work_left me t c m r0 r tr a (block_begun me t c m e) kept g;
  steps = λ r t h. step_kept r t (asked_spot r t) ∙ h;
  dies = λ r h. h;
  enters = λ k r h. h;
}

-- each identity of a pool that was made for single blocks begins so
pub first_blocked : (s : Start) → s.tables ≡ false → (c : ℕ) → c < s.geometry.clients → IsBlocked (first_memo s c)
first_blocked s made c low = ap (λ (b : Bool). is_loose (first_part b)) made
