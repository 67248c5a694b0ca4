-- an operation on single blocks as a plan: where its machines may begin
use Rattle.std.proofs.Common.{◌≡◌, ◌≢◌, ℕ, ◌+◌, ◌<◌, ◌≤◌, Bool, true, false, cond, refl, sym, ◌∙◌, arith, [], nat_lt}
use Rattle.std.proofs.lemmas.Bool.{true≢false}
use Rattle.std.specs.Prelude.{Err, None, Ok, Option, Result, Some}
use Rattle.shm_words.specs.{Layout.total_of, Tags.tag_author}
use Rattle.shm_graph.specs.{declared.memo.Memo.Memo, Laws.Control, Operations.IsReady, Reach.is_reached}
use Rattle.kind_parts.proofs.{Covering.reached_told, Words.Blocks.tag_load}
use Rattle.plans.specs.{declared.or.Or.TheVariants.{First, Second}, CallsControl.calls_of, CallsPart.MayCall}
use Rattle.plans.specs.{Plans.{IsCall, PlanStays, Planned}, Steering.Steered, Tasks.TaskLaws, Words.word_control}
use Rattle.shm_count.specs.{declared.answer.ShareFault.ShareFault, Proved.ShareTask.{ShareMay, share_task}}
use Rattle.shm_count.specs.UpRoot.{Control.{rooting, rooting_parts}, rooting_plan}
use Rattle.shm_ref.specs.{DropRoot.{Control.{drop_parts, dropping}, drop_plan}, Hold.{Control.holding, hold_plan}}
use Rattle.shm_ref.specs.{Look.{look_plan, looking}, Read.{read_plan, reading}, Release.{release_plan, releasing}}
use Rattle.shm_ref.specs.{RootOf.{naming as root_naming, naming_plan}, SetRef.{Control.{set_parts, setting}, set_plan}}
use Rattle.shm_ref.specs.Proved.LatchTasks.{HoldMay, LookMay, NamingMay, ReadMay, ReleaseMay, hold_task, look_task, naming_task, read_task, release_task}
use Rattle.shm_ref.specs.Proved.{ReadParts.reached_room, RootTasks.{DropMay, SetMay, drop_task, set_task}}
use Rattle.shm_queue.specs.Drain.{Control.{drain_parts, draining}, drain_plan}
use Rattle.shm_queue.specs.Receive.{Control.{receive_parts, receiving}, receive_plan}
use Rattle.shm_queue.specs.Send.{Control.{send_parts, sending}, send_plan}
use Rattle.shm_queue.specs.Proved.QueueTasks.{DrainMay, ReceiveMay, SendMay, drain_task, receive_task, send_task}
use Rattle.shm_singles.specs.declared.{part.PartAnswer.PartAnswer, script.{Deed.Deed, Outcome.Outcome, Point.Point}}
use Rattle.shm_singles.specs.declared.script.ScriptState.{ScriptState}
use Rattle.shm_singles.specs.Scripts.{act_at, behind_root, found_after, is_block, is_first, part, script_after, script_turns, started}
use Rattle.shm_singles.specs.declared.part.PartAnswer.TheVariants as answer
use Rattle.shm_singles.specs.declared.script.Deed.TheVariants as deed
use Rattle.shm_singles.specs.declared.script.Point.TheVariants as point
use Rattle.shm_session.specs.declared.said.Said.{Said}
use Rattle.shm_shared.proofs.BlockWays.{HasEnded, IsInRange, IsOn, KnowsAct, KnowsAt, KnowsOnly}
use Rattle.shm_shared.proofs.Lives.{may_join, may_leave, may_recover}
use Rattle.shm_shared.proofs.Nest.{Nest, NestAnswer, in_nest, nest_control, nest_part, of_nest}

-- ---- the plan

abbrev pub blocks_steered : Steered ScriptState Nest NestAnswer Outcome
blocks_steered =
    record {
      me = λ m. m.me;
      line = λ m. [];
      first = λ m. is_first m.point;
      start = started;
      call = λ m. in_nest (part m m.point);
      after = λ m b. script_after m (of_nest b);
      turns = λ m b. script_turns m (of_nest b);
    }

abbrev pub blocks_plan : Planned ScriptState Nest NestAnswer Outcome
blocks_plan =
    record {
      steered = blocks_steered;
      part = nest_part;
      knows = λ m r0 r tr es. IsInRange m × KnowsAt m m.point r;
      leaves = λ m r0 r tr es a. HasEnded m.me m.deed a r;
    }

-- ---- what stays

-- a part of the state that no machine's answer changes
module _ {T : Type 0} (f : ScriptState → T) (same : (m : ScriptState) (b to a : ℕ) (y : Point) (s : Said) → f (record m { block = b; to = to; author = a; point = y; said = s }) ≡ f m) where
  either : (q : Bool) (m x y : ScriptState) → f x ≡ f m → f y ≡ f m → f (cond q x y) ≡ f m
  either true m x y h k = h
  either false m x y h k = k

  placed_so : (m : ScriptState) (y : Point) (b : ℕ) → f (script_after (record m { point = y }) (answer.Roots (First b))) ≡ f m
  placed_so m point.Other b = either (is_block m.me b) m _ _ (same m m.block b m.author point.Held m.said) (same m m.block m.to m.author point.Other m.said)
  placed_so m point.Only b = either (is_block m.me b) m _ _ (same m b m.to m.author (behind_root m.deed) m.said) (same m m.block m.to m.author point.Only m.said)
  placed_so m point.Named b = either (is_block m.me b) m _ _ (same m b m.to m.author (behind_root m.deed) m.said) (same m m.block m.to m.author point.Named m.said)
  placed_so m point.Tagged b = either (is_block m.me b) m _ _ (same m b m.to m.author (behind_root m.deed) m.said) (same m m.block m.to m.author point.Tagged m.said)
  placed_so m point.Held b = either (is_block m.me b) m _ _ (same m b m.to m.author (behind_root m.deed) m.said) (same m m.block m.to m.author point.Held m.said)
  placed_so m point.Act b = either (is_block m.me b) m _ _ (same m b m.to m.author (behind_root m.deed) m.said) (same m m.block m.to m.author point.Act m.said)
  placed_so m point.Rooted b = either (is_block m.me b) m _ _ (same m b m.to m.author (behind_root m.deed) m.said) (same m m.block m.to m.author point.Rooted m.said)
  placed_so m point.Released b = either (is_block m.me b) m _ _ (same m b m.to m.author (behind_root m.deed) m.said) (same m m.block m.to m.author point.Released m.said)

  shared_so : (m : ScriptState) (y : Point) (r : Result ℕ ShareFault) → f (script_after (record m { point = y }) (answer.Roots (Second (First r)))) ≡ f m
  shared_so m point.Rooted r = same m m.block m.to m.author point.Released _
  shared_so m point.Only r = same m m.block m.to m.author point.Only m.said
  shared_so m point.Named r = same m m.block m.to m.author point.Named m.said
  shared_so m point.Other r = same m m.block m.to m.author point.Other m.said
  shared_so m point.Tagged r = same m m.block m.to m.author point.Tagged m.said
  shared_so m point.Held r = same m m.block m.to m.author point.Held m.said
  shared_so m point.Act r = same m m.block m.to m.author point.Act m.said
  shared_so m point.Released r = same m m.block m.to m.author point.Released m.said

  found_so : (m : ScriptState) (b : ℕ) (q : Bool) → f (found_after m b q) ≡ f m
  found_so m b true = same m m.block b m.author point.Rooted m.said
  found_so m b false = same m m.block m.to m.author point.Released _

  pub stays_so : (m : ScriptState) (a : PartAnswer) → f (script_after m a) ≡ f m
  stays_so m (answer.Lives r) = refl
  stays_so m (answer.Alloc r) = refl
  stays_so m (answer.Roots (First b)) = placed_so m m.point b
  stays_so m (answer.Roots (Second (First r))) = shared_so m m.point r
  stays_so m (answer.Roots (Second (Second r))) = refl
  stays_so m (answer.Words (First (First n))) = either (nat_lt (tag_author m.me.geometry.wide n) m.me.geometry.clients) m _ _ (same m m.block m.to (tag_author m.me.geometry.wide n) point.Held m.said) refl
  stays_so m (answer.Words (First (Second r))) = refl
  stays_so m (answer.Words (Second (First (Ok b)))) = found_so m b (is_block m.me b)
  stays_so m (answer.Words (Second (First (Err e)))) = same m m.block m.to m.author point.Released _
  stays_so m (answer.Words (Second (Second r))) = same m m.block m.to m.author point.Released _
  stays_so m (answer.Latches (First (Ok u))) = same m m.block m.to m.author point.Act m.said
  stays_so m (answer.Latches (First (Err e))) = same m m.block m.to m.author point.Held m.said
  stays_so m (answer.Latches (Second u)) = refl
  stays_so m (answer.Queues r) = refl

-- ---- no machine is the first one after another

behind_later : (d : Deed) → is_first (behind_root d) ≡ false
behind_later deed.Join = refl
behind_later deed.Leave = refl
behind_later deed.Recover = refl
behind_later deed.Alloc = refl
behind_later deed.Share = refl
behind_later deed.Read = refl
behind_later deed.Set = refl
behind_later deed.Clear = refl
behind_later deed.Drop = refl
behind_later deed.Send = refl
behind_later deed.Receive = refl
behind_later deed.Drain = refl
behind_later deed.Follow = refl

-- one that answers none goes on
chosen : (q : Bool) (x y : ScriptState) (o : Outcome) → is_first x.point ≡ false → (let t : Option Outcome = cond q None (Some o) in t ≡ None) → is_first (cond q x y).point ≡ false
chosen true x y o h e = h
chosen false x y o h e = absurd (cc)

named_later : (m : ScriptState) (y : Point) (b : ℕ) → script_turns (record m { point = y }) (answer.Roots (First b)) ≡ None → is_first (script_after (record m { point = y }) (answer.Roots (First b))).point ≡ false
named_later m point.Other b e = chosen (is_block m.me b) _ _ _ refl e
named_later m point.Only b e = chosen (is_block m.me b) _ _ _ (behind_later m.deed) e
named_later m point.Named b e = chosen (is_block m.me b) _ _ _ (behind_later m.deed) e
named_later m point.Tagged b e = chosen (is_block m.me b) _ _ _ (behind_later m.deed) e
named_later m point.Held b e = chosen (is_block m.me b) _ _ _ (behind_later m.deed) e
named_later m point.Act b e = chosen (is_block m.me b) _ _ _ (behind_later m.deed) e
named_later m point.Rooted b e = chosen (is_block m.me b) _ _ _ (behind_later m.deed) e
named_later m point.Released b e = chosen (is_block m.me b) _ _ _ (behind_later m.deed) e

shared_later : (m : ScriptState) (y : Point) (r : Result ℕ ShareFault) → script_turns (record m { point = y }) (answer.Roots (Second (First r))) ≡ None → is_first (script_after (record m { point = y }) (answer.Roots (Second (First r)))).point ≡ false
shared_later m point.Rooted r e = refl
shared_later m point.Only r e = absurd (cc)
shared_later m point.Named r e = absurd (cc)
shared_later m point.Other r e = absurd (cc)
shared_later m point.Tagged r e = absurd (cc)
shared_later m point.Held r e = absurd (cc)
shared_later m point.Act r e = absurd (cc)
shared_later m point.Released r e = absurd (cc)

found_later : (m : ScriptState) (b : ℕ) (q : Bool) → is_first (found_after m b q).point ≡ false
found_later m b true = refl
found_later m b false = refl

later : (m : ScriptState) (a : PartAnswer) → script_turns m a ≡ None → is_first (script_after m a).point ≡ false
later m (answer.Lives r) e = absurd (cc)
later m (answer.Alloc r) e = absurd (cc)
later m (answer.Roots (First b)) e = named_later m m.point b e
later m (answer.Roots (Second (First r))) e = shared_later m m.point r e
later m (answer.Roots (Second (Second r))) e = absurd (cc)
later m (answer.Words (First (First n))) e = chosen (nat_lt (tag_author m.me.geometry.wide n) m.me.geometry.clients) _ _ _ refl e
later m (answer.Words (First (Second r))) e = absurd (cc)
later m (answer.Words (Second (First (Ok b)))) e = found_later m b (is_block m.me b)
later m (answer.Words (Second (First (Err x)))) e = refl
later m (answer.Words (Second (Second r))) e = refl
later m (answer.Latches (First (Ok u))) e = refl
later m (answer.Latches (First (Err x))) e = refl
later m (answer.Latches (Second u)) e = absurd (cc)
later m (answer.Queues r) e = absurd (cc)

pub stays : (m : ScriptState) (b : NestAnswer) → PlanStays nest_control blocks_plan m b
stays m b =
    record {
      same_me = stays_so (λ x. x.me) (λ x b2 to a y s. refl) m (of_nest b);
      same_line = refl;
      same_start = stays_so started (λ x b2 to a y s. refl) m (of_nest b);
      started = later m (of_nest b);
    }

-- ---- its machines

act_me : (m : ScriptState) (d : Deed) → nest_control.me (in_nest (act_at m d)) ≡ m.me
act_me m deed.Join = refl
act_me m deed.Leave = refl
act_me m deed.Recover = refl
act_me m deed.Alloc = refl
act_me m deed.Share = refl
act_me m deed.Read = refl
act_me m deed.Set = refl
act_me m deed.Clear = refl
act_me m deed.Drop = refl
act_me m deed.Send = refl
act_me m deed.Receive = refl
act_me m deed.Drain = refl
act_me m deed.Follow = refl

act_asks : (m : ScriptState) (d : Deed) → nest_control.finished (in_nest (act_at m d)) ≡ false
act_asks m deed.Join = refl
act_asks m deed.Leave = refl
act_asks m deed.Recover = refl
act_asks m deed.Alloc = refl
act_asks m deed.Share = refl
act_asks m deed.Read = refl
act_asks m deed.Set = refl
act_asks m deed.Clear = refl
act_asks m deed.Drop = refl
act_asks m deed.Send = refl
act_asks m deed.Receive = refl
act_asks m deed.Drain = refl
act_asks m deed.Follow = refl

call_me : (m : ScriptState) (y : Point) → nest_control.me (in_nest (part m y)) ≡ m.me
call_me m point.Only = act_me m m.deed
call_me m point.Named = refl
call_me m point.Other = refl
call_me m point.Tagged = refl
call_me m point.Held = refl
call_me m point.Act = act_me m m.deed
call_me m point.Rooted = refl
call_me m point.Released = refl

call_asks : (m : ScriptState) (y : Point) → nest_control.finished (in_nest (part m y)) ≡ false
call_asks m point.Only = act_asks m m.deed
call_asks m point.Named = refl
call_asks m point.Other = refl
call_asks m point.Tagged = refl
call_asks m point.Held = refl
call_asks m point.Act = act_asks m m.deed
call_asks m point.Rooted = refl
call_asks m point.Released = refl

pub calls : (m : ScriptState) → IsCall nest_control blocks_plan m
calls m = record { me = call_me m m.point; asks = call_asks m m.point }

-- ---- where they may begin

may_call : {P C B A : Type 0} (k : Control C B) (q : Planned P C B A) (may : P → Memo → Type 0) (ends : P → A → Type 0) → TaskLaws k q may ends → (p : P) (r : Memo) → IsReady (q.steered.me p) r → may p r → MayCall k q (calls_of q.steered p) r
may_call k q may ends task p r ready h = let n = task.new p r h in record { made = refl; first = n.first; start = n.start; knows = task.begins p r ready h }

module _ (m : ScriptState) (r : Memo) where
  rooted_needs : (l : Option ℕ) (b : ℕ) → IsOn m.me l r → is_reached m.me.who r b ≡ true → MayCall rooting_parts rooting_plan (calls_of rooting_plan.steered (rooting m.me b)) r
  rooted_needs l b h reach = may_call rooting_parts rooting_plan ShareMay (λ p a. Unit {0}) share_task (rooting m.me b) r h.ready (refl, h.client, reach)

  only_needs : (d : Deed) → IsInRange (record m { deed = d }) → KnowsOnly m.me d r → (nest_part (record m { deed = d; point = point.Only })).needs (in_nest (act_at m d)) r
  only_needs deed.Join range h = may_join m.me r h.0 h.1 h.3
  only_needs deed.Recover range h = may_recover m.me r h.0 h.1 h.2
  only_needs deed.Leave range h =
      may_leave m.me r h.ready.geometry h.ready.who true
      (record { idle = h.ready.idle; client = h.client; latch = h.latch; dying = h.quiet.dying; pool = h.loose; unsent = h.quiet.unsent; untaken = h.quiet.untaken })
  only_needs deed.Alloc range h =
      record {
        made = refl;
        knows = record { geometry = h.ready.geometry; who = h.ready.who; request = range.request; point = tt };
        can = record { geometry = h.ready.geometry; who = h.ready.who; idle = h.ready.idle };
      }
  only_needs deed.Drop range h = may_call drop_parts drop_plan DropMay (λ p a. Unit {0}) drop_task (dropping m.me m.root) r h.ready (refl, range.root)
  only_needs deed.Receive range h =
      may_call receive_parts receive_plan ReceiveMay (λ p a. Unit {0}) receive_task (receiving m.me m.peer) r h.ready (refl, h.client, (range.peer, (λ e. range.another (sym e)), h.quiet.untaken m.peer))
  only_needs deed.Drain range h = may_call drain_parts drain_plan DrainMay (λ p a. Unit {0}) drain_task (draining m.me) r h.ready (refl, h.quiet.untaken)
  only_needs deed.Share range h = absurd h
  only_needs deed.Read range h = absurd h
  only_needs deed.Set range h = absurd h
  only_needs deed.Clear range h = absurd h
  only_needs deed.Send range h = absurd h
  only_needs deed.Follow range h = absurd h

  word_needs : (a : ℕ) → IsOn m.me (Some a) r → is_reached m.me.who r m.block ≡ true → (m.to ≢ 0 → is_reached m.me.who r m.to ≡ true) → MayCall set_parts set_plan (calls_of set_plan.steered (setting m.me m.block m.index m.to)) r
  word_needs a h reach target = may_call set_parts set_plan SetMay (λ p x. Unit {0}) set_task (setting m.me m.block m.index m.to) r h.ready (refl, h.client, h.loose, reach, target)

  act_needs : (d : Deed) → IsInRange (record m { deed = d }) → KnowsAct m d r → (nest_part (record m { deed = d; point = point.Act })).needs (in_nest (act_at m d)) r
  act_needs deed.Share range h = rooted_needs None m.block h.0 h.1.0
  act_needs deed.Read range h = may_call word_control read_plan ReadMay (λ p a. Unit {0}) read_task (reading m.me m.block m.index) r h.0.ready (refl, h.1.0)
  act_needs deed.Send range h =
      may_call send_parts send_plan SendMay (λ p a. Unit {0}) send_task (sending m.me m.peer m.block) r h.0.ready
      (refl, h.0.client, range.peer, range.another, h.1.0, (λ e. absurd (true≢false (sym h.0.loose ∙ e))), h.0.quiet.unsent m.peer)
  act_needs deed.Set range h = word_needs h.0 h.1 h.2.0 h.2.1
  act_needs deed.Clear range h = word_needs h.0 h.1 h.2.0 h.2.1
  act_needs deed.Follow range h = may_call word_control look_plan LookMay (λ p a. Unit {0}) look_task (looking m.me m.block m.index) r h.1.ready (refl, h.2.0)
  act_needs deed.Join range h = absurd h
  act_needs deed.Leave range h = absurd h
  act_needs deed.Recover range h = absurd h
  act_needs deed.Alloc range h = absurd h
  act_needs deed.Drop range h = absurd h
  act_needs deed.Receive range h = absurd h
  act_needs deed.Drain range h = absurd h

  named_needs : (k : ℕ) → k < 16 → IsOn m.me None r → MayCall word_control naming_plan (calls_of naming_plan.steered (root_naming m.me k)) r
  named_needs k low h = may_call word_control naming_plan NamingMay (λ p a. Unit {0}) naming_task (root_naming m.me k) r h.ready low

  pub needs_at : (y : Point) → IsInRange m → KnowsAt m y r → (nest_part (record m { point = y })).needs (in_nest (part m y)) r
  needs_at point.Only range h = only_needs m.deed range h
  needs_at point.Named range h = named_needs m.root range.root h.0
  needs_at point.Other range h = named_needs m.other range.other h.0
  needs_at point.Tagged range h =
      let ready : IsReady m.me r = h.0.ready in
      let room : m.block + 2 ≤ total_of m.me.geometry = reached_room m.me m.block r ready.who ready.held h.1.0 in
      tag_load false m.me r ready.who m.block (omega arith, omega arith) (reached_told m.me.who r m.me.geometry.wide m.block h.1.0)
  needs_at point.Held range h = may_call word_control hold_plan HoldMay (λ p a. Unit {0}) hold_task (holding m.me m.author) r h.0.ready (refl, range.author, h.0.latch)
  needs_at point.Act range h = act_needs m.deed range h.0
  needs_at point.Rooted range h = rooted_needs (Some h.0.0) m.to h.0.1 h.1
  needs_at point.Released range h = may_call word_control release_plan ReleaseMay (λ p a. Unit {0}) release_task (releasing m.me) r h.0.ready (refl, (h.0.author, h.0.latch))
