-- machines that leave the own map and send nothing while they run: the form, and the steps of which they are made
use Rattle.std.proofs.Common.{◌≡◌, ℕ, ap, ◌∙◌, Bool, List}
use Rattle.shm_graph.specs.{declared.{memo.Memo.Memo, table.Part.Part}, Asks.Trail, Events.Event, Laws.Control}
use Rattle.shm_graph.specs.Mapped.{OnTheWay}
use Rattle.shm_graph.specs.declared.spot.Spot.TheVariants as spot
use Rattle.plans.specs.{CallsControl.calls_control, CallsFit.CallsFits, Either.{OrFits, or_control}, Plans.Planned}
use Rattle.plans.specs.Words.{WordFits, word_control}
use Rattle.shm_count.specs.{Step.Machines.{down_control, up_control}, StepsAt.{DownFitsAt, UpFitsAt}}
use Rattle.shm_count.specs.Tear.{Control.tear_control, TearFits}
use Rattle.shm_table.specs.{Proved.{PutRoot.Steps.same_more, Staying.Laws.same_map}, Staying.SameMap}
use Rattle.shm_table.proofs.Running.SentSteps.{SendsNone, SentSame, down_sends, tear_sends, up_sends, word_sends}
use Rattle.shm_table.proofs.Running.Still.{IsStill, WhileRunning, calls_running, lane_down_still, lane_up_still, or_running, root_down_still, root_up_still, tear_still, word_still}

-- ---- the form

abbrev pub Quiet : Memo → Memo → Type 0
Quiet r0 r = SameMap r0 r × SentSame r0 r

abbrev pub IsQuiet : {S A : Type 0} → Control S A → OnTheWay S → Type 0
IsQuiet k fits = WhileRunning Quiet k fits

pub map_of : {S A : Type 0} (k : Control S A) (fits : OnTheWay S) → IsQuiet k fits → IsStill k fits
map_of k fits h m r0 r tr going fit = (h m r0 r tr going fit).0

pub sends_of : {S A : Type 0} (k : Control S A) (fits : OnTheWay S) → IsQuiet k fits → SendsNone k fits
sends_of k fits h m r0 r tr going fit = (h m r0 r tr going fit).1

both : {S A : Type 0} (k : Control S A) (fits : OnTheWay S) → IsStill k fits → SendsNone k fits → IsQuiet k fits
both k fits h i m r0 r tr going fit = (h m r0 r tr going fit, i m r0 r tr going fit)

pub or_quiet : {S T A B : Type 0} (j : Control S A) (k : Control T B) (fits : OnTheWay S) (fits' : OnTheWay T) → IsQuiet j fits → IsQuiet k fits' → IsQuiet (or_control j k) (OrFits fits fits')
or_quiet j k fits fits' h i = or_running Quiet j k fits fits' h i

pub calls_quiet : {P C B A : Type 0} (k : Control C B) (q : Planned P C B A) → ((p : P) (r0 r : Memo) (tr : Trail) (es : List Event) → q.knows p r0 r tr es → Quiet r0 r) → ((p : P) → IsQuiet k (q.part p).fits) → IsQuiet (calls_control k q.steered) (CallsFits k q)
calls_quiet k q known keeps = calls_running Quiet (λ x y z h i. (same_more x y z h.0 i.0, i.1 ∙ h.1)) k q known keeps

-- what a machine of these may change is neither the partition nor what was sent
abbrev pub kept : Memo → Part × List (List ℕ)
kept m = (m.part, m.sent)

pub quiet_by : (r0 r : Memo) → kept r ≡ kept r0 → Quiet r0 r
quiet_by r0 r e = (same_map r0 r (ap (λ (x : Part × List (List ℕ)). x.0) e), ap (λ (x : Part × List (List ℕ)). x.1) e)

pub quiet_now : (r0 r : Memo) → r ≡ r0 → Quiet r0 r
quiet_now r0 r e = quiet_by r0 r (ap kept e)

-- ---- single steps

pub word_quiet : (first : Bool) → IsQuiet word_control (WordFits first)
word_quiet first = both word_control _ (word_still first) (word_sends first)

pub root_down_quiet : (c k : ℕ) → IsQuiet down_control (DownFitsAt (spot.Root c k))
root_down_quiet c k = both down_control _ (root_down_still c k) (down_sends (spot.Root c k) tt)

pub root_up_quiet : (c k : ℕ) → IsQuiet up_control (UpFitsAt (spot.Root c k))
root_up_quiet c k = both up_control _ (root_up_still c k) (up_sends (spot.Root c k) tt)

pub lane_down_quiet : (s t k : ℕ) → IsQuiet down_control (DownFitsAt (spot.Slot s t k))
lane_down_quiet s t k = both down_control _ (lane_down_still s t k) (down_sends (spot.Slot s t k) tt)

pub lane_up_quiet : (s t k : ℕ) → IsQuiet up_control (UpFitsAt (spot.Slot s t k))
lane_up_quiet s t k = both up_control _ (lane_up_still s t k) (up_sends (spot.Slot s t k) tt)

pub tear_quiet : IsQuiet tear_control TearFits
tear_quiet = both tear_control _ tear_still tear_sends
