-- takes and drains that work alone end: the reference that a take loses pays for the next take, and the queues that are left for the empty ones: what is proved of it
use Rattle.std.proofs.Common.{◌≡◌, ℕ, ◌+◌, ◌-◌, ◌*◌, ◌%◌, ◌<◌, ◌≤◌, arith, Bool, true, false, refl, List}
use Rattle.std.proofs.lemmas.Bool.Decides.{nat_tests}
use Rattle.std.specs.Prelude.{◌==◌, nat_lt, if◌then◌else◌, Some, None, Result, Ok, Err}
use Rattle.shm_graph.specs.{declared.{ask.Me.Me, spot.Spot.Spot, memo.Memo.Memo}, Asks.Trail, Events.Event}
use Rattle.shm_graph.specs.Laws.{Outcome}
use Rattle.shm_graph.specs.declared.spot.Spot.TheVariants as spot
use Rattle.plans.specs.{declared.or.Or.TheVariants.{First, Second}, CallsControl.{calls_control, calls_does, calls_of}}
use Rattle.plans.specs.{CallsFit.CallsFits, Either.{OrFits, or_does}, Words.{WordFits, word_control, word_does}}
use Rattle.shm_count.specs.{declared.answer.EraSpent.EraSpent, Step.Events.step_event, StepsAt.DownFitsAt}
use Rattle.shm_count.specs.Tear.{Events.tear_event, TearFits}
use Rattle.shm_queue.specs.declared.drain.{DrainPoint.{DrainPoint, TheVariants.{Status, Item}}, DrainState.DrainState}
use Rattle.shm_queue.specs.declared.take.TakePoint.{TakePoint, TheVariants.{Head, Tail, Slot, Lower, Store, Tear}}
use Rattle.shm_queue.specs.declared.take.TakeState.{TakeState}
use Rattle.shm_queue.specs.Drain.Control.{DrainAnswer, drain_call_at, drain_parts, draining, first_from, is_status, next_from, take_control, turned, turned_answer, drain_steered}
use Rattle.shm_queue.specs.{Drain.{drain_part, drain_plan}, Proved.{Drain.Laws.drain_laws, Take.Laws.take_laws}}
use Rattle.shm_queue.specs.Take.{Control.{TakeAnswer, take_call_at, take_parts, is_head}, take_part, take_plan}
use Rattle.shm_queue.specs.declared.answer.TakeFault.TheVariants as fault
use Rattle.shm_alone.specs.{Alone.EndsAlone, Lifting.{anything, word_left, word_saved}}
use Rattle.shm_alone.specs.Proved.Lifting.{Pays, fewer_end, or_ends, plain_calls_end, word_ends}
use Rattle.shm_alone.specs.Proved.{RootsEnd.{by_test, part_ends}, StepEnds.redo_few}
use Rattle.shm_alone.specs.RootsEnd.{part_alone, part_left, part_saved}
use Rattle.shm_alone.specs.QueuesEnd.{take_plan_rest, take_saved, take_alone, take_left, drain_plan_rest, drain_saved, drain_call_alone, drain_call_left, drain_call_saved, drain_alone, drain_left}

-- ---- a take

-- what the answers of its calls have over pays for what comes next
take_pays : (m : TakeState) (y : TakePoint) (rs r : Memo) (t : Trail) (ds : List Event) (a : TakeAnswer) → (take_part m y).leaves (take_call_at m y) rs r t ds a → Pays take_parts take_plan part_alone part_left part_saved anything take_plan_rest take_saved (record m { point = y }) a
take_pays m Head rs r t ds (First n) g = omega arith
take_pays m Tail rs r t ds (First n) g = by_test (n == m.at) (Err (fault.Empty m.at)) _ _ (omega arith) (omega arith)
take_pays m Slot rs r t ds (First n) g = let few = redo_few m.me.geometry.wide in omega arith
take_pays m Lower rs r t ds (Second (First (Ok z))) g = omega arith
take_pays m Lower rs r t ds (Second (First (Err e))) g = omega arith
take_pays m Store rs r t ds (First n) g = stored m.last
  where
    stored : (z : Bool) → Outcome (if z then None else Some (Ok tt)) (part_left (take_call_at (record m { point = Tear }) Tear) + 0 ≤ 100 + 0) (λ x. take_saved x ≤ 100 + 0)
    stored true = omega arith
    stored false = omega arith
take_pays m Tear rs r t ds (Second (Second (Ok done))) g = omega arith
take_pays m Tear rs r t ds (Second (Second (Err e))) g = omega arith
take_pays m Head rs r t ds (Second a) g = absurd g.0
take_pays m Tail rs r t ds (Second a) g = absurd g.0
take_pays m Slot rs r t ds (Second a) g = absurd g.0
take_pays m Store rs r t ds (Second a) g = absurd g.0
take_pays m Lower rs r t ds (First n) g = absurd g.0
take_pays m Tear rs r t ds (First n) g = absurd g.0
take_pays m Lower rs r t ds (Second (Second a)) g = absurd g.0
take_pays m Tear rs r t ds (Second (First a)) g = absurd g.0

-- a call begins with nothing known of the words
take_begins : (m : TakeState) (y : TakePoint) (w : Spot → ℕ) → part_alone (take_call_at m y) w
take_begins m Head w = tt
take_begins m Tail w = tt
take_begins m Slot w = tt
take_begins m Lower w = tt
take_begins m Store w = tt
take_begins m Tear w = tt

-- its parts end alone
take_parts_end : (m : TakeState) → EndsAlone take_parts (take_part m m.point).does part_alone part_left part_saved (take_part m m.point).fits
take_parts_end m =
    let first : Bool = is_head m.point in
    let p : Spot = spot.Slot m.from m.me.who (m.at % 8) in
    fewer_end take_parts (OrFits (WordFits first) (OrFits (DownFitsAt p) TearFits)) (take_part m m.point).fits (or_does word_does (or_does (step_event p) tear_event)) part_alone part_left part_saved (λ x r0 r tr h. h.0) (part_ends first p)

-- a take that works alone ends
pub take_ends : EndsAlone take_control (calls_does take_parts take_plan) take_alone take_left take_saved (CallsFits take_parts take_plan)
take_ends =
    plain_calls_end take_parts take_plan part_alone part_left part_saved take_plan_rest take_saved take_laws
    (record {
      parts = take_parts_end;
      begins = λ m w. take_begins m m.point w;
      pays = λ m r0 rs r tr t es ds a h g held agent. take_pays m m.point rs r t ds a g;
    })

-- ---- a drain

-- what is left before the next call
abbrev drain_due : DrainState → ℕ
drain_due m = drain_call_left (drain_steered.call m) + drain_plan_rest m

-- a sender that it turns to is paid by what was left
turns_to : (m : DrainState) (s n : ℕ) → (s < m.me.geometry.clients → 13 + 13 * (m.me.geometry.clients - s) ≤ n) → Outcome (turned_answer m s) (drain_due (turned m s) ≤ n) (λ x. drain_saved x ≤ n)
turns_to m s n h = at (nat_lt s m.me.geometry.clients) (λ e. grind (arith, nat_tests))
  where
    at : (q : Bool) → (q ≡ true → s < m.me.geometry.clients) → Outcome {A = Result ℕ EraSpent} (if q then None else Some (Ok m.taken)) (drain_due (if q then record m { from = s; point = Item } else m) ≤ n) (λ x. drain_saved x ≤ n)
    at true low = let k = h (low refl) in omega arith
    at false low = omega arith

-- the next sender comes later
next_later : (c s : ℕ) → s < next_from c s
next_later c s = go (s + 1 == c)
  where
    go : (q : Bool) → s < (if q then s + 2 else s + 1)
    go true = omega arith
    go false = omega arith

-- a sender that comes later leaves fewer
fewer_senders : (n s t : ℕ) → s < t → t < n → 13 + 13 * (n - t) ≤ 13 * (n - s)
fewer_senders n s t l k = omega arith

-- what the answers of its calls have over pays for what comes next
drain_pays : (m : DrainState) (y : DrainPoint) (rs r : Memo) (t : Trail) (ds : List Event) (a : DrainAnswer) → (drain_part m y).leaves (drain_call_at m y) rs r t ds a → Pays drain_parts drain_plan drain_call_alone drain_call_left drain_call_saved anything drain_plan_rest drain_saved (record m { point = y }) a
drain_pays m Status rs r t ds (First n) g = turns_to (record m { point = Status }) (first_from m.me.who) (13 * m.me.geometry.clients + 13 + 0) (λ l. omega arith)
drain_pays m Item rs r t ds (Second (Ok done)) g = omega arith
drain_pays m Item rs r t ds (Second (Err (fault.Empty n))) g =
    turns_to (record m { point = Item }) (next_from m.me.who m.from) (13 * (m.me.geometry.clients - m.from) + 0) (λ l. let h = fewer_senders m.me.geometry.clients m.from (next_from m.me.who m.from) (next_later m.me.who m.from) l in omega arith)
drain_pays m Item rs r t ds (Second (Err (fault.EraSpent e))) g = omega arith
drain_pays m Status rs r t ds (Second a) g = absurd g.0
drain_pays m Item rs r t ds (First n) g = absurd g.0

-- a call begins with nothing known of the words
drain_begins : (m : DrainState) (y : DrainPoint) (w : Spot → ℕ) → drain_call_alone (drain_call_at m y) w
drain_begins m Status w = tt
drain_begins m Item w = (tt, tt)

-- its parts end alone
drain_parts_end : (m : DrainState) → EndsAlone drain_parts (drain_part m m.point).does drain_call_alone drain_call_left drain_call_saved (drain_part m m.point).fits
drain_parts_end m =
    let first : Bool = is_status m.point in
    fewer_end drain_parts (OrFits (WordFits first) (CallsFits take_parts take_plan)) (drain_part m m.point).fits (or_does word_does (calls_does take_parts take_plan)) drain_call_alone drain_call_left drain_call_saved (λ x r0 r tr h. h.0)
    (or_ends word_control take_control (WordFits first) (CallsFits take_parts take_plan) word_does (calls_does take_parts take_plan) anything take_alone word_left take_left word_saved take_saved (word_ends first) take_ends)

-- a drain that works alone ends
pub drain_ends : EndsAlone (calls_control drain_parts drain_steered) (calls_does drain_parts drain_plan) drain_alone drain_left drain_saved (CallsFits drain_parts drain_plan)
drain_ends =
    plain_calls_end drain_parts drain_plan drain_call_alone drain_call_left drain_call_saved drain_plan_rest drain_saved (drain_laws take_laws)
    (record {
      parts = drain_parts_end;
      begins = λ m w. drain_begins m m.point w;
      pays = λ m r0 rs r tr t es ds a h g held agent. drain_pays m m.point rs r t ds a g;
    })

-- before its first word step it has this many left, and knows what it has to
pub drain_begin : (me : Me) → drain_left (calls_of drain_steered (draining me)) ≡ 13 * me.geometry.clients + 14
drain_begin me = omega arith

pub drain_ready : (me : Me) (w : Spot → ℕ) → drain_alone (calls_of drain_steered (draining me)) w
drain_ready me w = (tt, tt)
