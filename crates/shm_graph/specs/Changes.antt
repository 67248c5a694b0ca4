-- the memo's change by a word step of its identity: a function of the memo and the step
use Rattle.std.specs.{Prelude.{Bool, ◌&&◌, ◌==◌, true, false, if◌then◌else◌, Option, None, []}, List.filter}
use Rattle.shm_graph.specs.declared.{spot.Spot.{Spot, TheVariants.{Tail, QueueHead}}, memo.Fact.Fact}
use Rattle.shm_graph.specs.declared.{memo.{Fact.TheVariants.Counter, Memo.Memo, Step.Step, Test.Test}, ask.Ask.Ask}
use Rattle.shm_graph.specs.{declared.ask.Ask.TheVariants.{Load, Store, Exchange}, Asks.call_after}
use Rattle.shm_graph.specs.{Agents.{with_last, stepped, ended, is_gone}, Telling.spot_told, MemoAfterRead.read_on}
use Rattle.shm_graph.specs.{MemoAfterStore.stored_on, MemoAfterExchange.exchanged_on}

-- what was read of tails and heads, which only grow
abbrev pub is_lane_count : Fact → Bool
is_lane_count (Counter (Tail s r) x) = true
is_lane_count (Counter (QueueHead s r) x) = true
is_lane_count k = false

-- the memo at a step: one more pair in the call, of which the first step of a machine forgets all but tails and heads, and one more step of the agent
abbrev pub forgotten : Memo → Memo
forgotten m = record m { facts = filter is_lane_count m.facts; zeros = []; made = [] }

abbrev pub called : Memo → Step → Memo
called m t =
    let m' : Memo = if t.fresh then forgotten m else m in
    record m' { call = call_after t.fresh m.call t.ask t.seen; over = t.ends; test = None; agents = with_last stepped m.agents }

-- where the commit test stood
abbrev pub test_before : Memo → Step → Option Test
test_before m t = if t.fresh then None else m.test

abbrev pub changed_by : Memo → Step → Spot → Ask → Memo
changed_by m t p (Load at) = read_on t.me.geometry t.me.who true (called m t) (test_before m t) p t.seen
changed_by m t p (Store at v) = stored_on t.me.geometry t.me.who (called m t) p v
changed_by m t p (Exchange at from to) = if t.seen == from then exchanged_on t.me.geometry.wide t.me.who (called m t) p to else read_on t.me.geometry t.me.who false (called m t) (test_before m t) p t.seen

-- what a step finds or stores is no part of the call and of the agents
abbrev pub with_call : Memo → Memo → Memo
with_call n m = record m { call = n.call; over = n.over; agents = n.agents }

-- an agent ends with the step that ends its machine and leaves the status gone
abbrev pub with_end : Bool → Memo → Memo
with_end ends m = record m { agents = if is_gone m.status && ends then with_last ended m.agents else m.agents }

-- the memo of the stepping identity after its step at a spot
abbrev pub memo_on : Memo → Step → Spot → Memo
memo_on m t p = with_end t.ends (with_call (called m t) (changed_by m t p t.ask))

-- the spot of a step as the memo tells it
abbrev pub asked_spot : Memo → Step → Spot
asked_spot m t = spot_told t.me.geometry t.me.who m t.ask

abbrev pub memo_after : Memo → Step → Memo
memo_after m t = memo_on m t (asked_spot m t)
