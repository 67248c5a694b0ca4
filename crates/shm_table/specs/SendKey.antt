-- sending what an own key has as a plan: when it may begin, what is known before each call, and what is left
pub mod Control
pub mod Bound
use Rattle.std.specs.Prelude.{◌≡◌, ◌≢◌, ℕ, ◌+◌, ◌-◌, ◌*◌, ◌%◌, ◌^◌, ◌<◌, false, Option, Some, None, List, [], ◌∷◌, slice_index, Bool}
use Rattle.std.specs.List.{Contains}
use Rattle.shm_graph.specs.declared.{ask.Me.Me, memo.Memo.Memo, spot.Spot.TheVariants.{Era, Home, Slot, Tail}}
use Rattle.shm_graph.specs.{Agents.recovers, Asks.{Trail, IsWithin}, Events.Event, MemoAfterStore.{lane_with, with_own}}
use Rattle.shm_graph.specs.{Views.own_word, Bounds.redo_steps}
use Rattle.shm_graph.specs.Events as event
use Rattle.plans.specs.{declared.word.Word.Word, CallsPart.calls_part, Either.or_part, Parts.{IsHeld, Part}}
use Rattle.plans.specs.{Plans.Planned, Words.{word_control, word_part}}
use Rattle.kind_parts.specs.{Reparting.map_in, WordParts.ReferenceLoaded}
use Rattle.shm_ref.specs.AskedParts.{asked_part}
use Rattle.shm_queue.specs.declared.answer.SendFault.{SendFault, TheVariants.{QueueFull, EraSpent, CountFull}}
use Rattle.shm_queue.specs.Send.{Control.send_parts, send_plan}
use Rattle.shm_script.specs.declared.log.Answer.{Answer}
use Rattle.shm_script.specs.declared.line.Line.TheVariants as line
use Rattle.shm_script.specs.declared.log.Answer.TheVariants as answer
use Rattle.shm_table.specs.declared.{get.{GetPoint.GetPoint, GetState.GetState}, send_key.SendKeyPoint.SendKeyPoint}
use Rattle.shm_table.specs.declared.send_key.SendKeyPoint.TheVariants.{Search, Value, Send, Give}
use Rattle.shm_table.specs.{declared.send_key.SendKeyState.SendKeyState, Fetch.IsOn, Find.Control.word_ask}
use Rattle.shm_table.specs.{Get.{GetKnows, GotNone, IsNowhere}, Locate.{Control.locate_parts, MayLocate, locate_plan}}
use Rattle.shm_table.specs.PutRoot.{HasSearch}
use Rattle.shm_table.specs.SendKey.Control.{SendKeyCall, SendKeyAnswer, is_search, send_key_steered}
use Rattle.shm_table.specs.{Staying.{Cleared, Keeps, SameMap}, Unlatch.unlatch_plan}
use Rattle.shm_table.specs.declared.get.GetPoint.TheVariants as get

-- ---- when it may begin

-- a client between two calls, in a pool for tables, with no latch; another identity to send to, and no block that waits in the queue to it for its tail
pub record MaySendKey (me : Me) (i : ℕ) (r : Memo) : Type 0 where
  pub locate : MayLocate me me.who r
  pub client : recovers r ≡ false
  pub to : i < me.geometry.clients
  pub other : me.who ≢ i
  pub none : slice_index r.unsent i ≡ 0

-- ---- on the way

-- the memo in which block b joined what was sent to i as item n, where these blocks wait for their tails
abbrev pub with_sent : ℕ → ℕ → ℕ → ℕ → List ℕ → Memo → Memo
with_sent c i b n us m = record (with_own m (Tail c i) (n + 1)) { sent = lane_with m.sent i b; unsent = us }

-- Block b, which the key had, was sent to i as item n. But for that the queues are as they were, and so is all else that machines over tables keep, the map, the roots and the zero-count blocks. This latch is held or none
pub record IsSent (me : Me) (i key b n : ℕ) (taken : Option ℕ) (steps : ℕ) (r0 r : Memo) (tr : Trail) (es : List Event) : Type 0 where
  pub may : MaySendKey me i r0
  pub holds : IsHeld me r
  pub has : (x : ℕ) × (map_in r0.part key ≡ Some (x, b))
  pub place : n ≡ own_word r0.own (Tail me.who i)
  pub keeps : Keeps me.who (with_sent me.who i b n r.unsent r0) r
  pub waits : (j : ℕ) → slice_index r.unsent j ≡ slice_index r0.unsent j
  pub latch : r.latch ≡ taken
  pub home : own_word r.own (Home me.who) ≡ own_word r0.own (Home me.who)
  pub map : SameMap r0 r
  pub cleared : Cleared me.who r0 r
  pub events : es ≡ event.Up me.who (Slot me.who i (n % 8)) b ∷ []
  pub keys : ℕ
  pub search : HasSearch me me.who key keys tr
  pub bound : IsWithin (steps + 2 * keys) tr

-- why block b wasn't sent to i: the own tail is 8 above the head that was read; the own era leaves no room for a step up; the block has the greatest count
abbrev pub SendCause : Me → ℕ → ℕ → Memo → SendFault → Type 0
SendCause me i b m (QueueFull h n) = (n ≡ own_word m.own (Tail me.who i)) × (n ≡ h + 8)
SendCause me i b m (EraSpent e) = (e ≡ own_word m.own (Era me.who me.who)) × (2 ^ 47 - 3 < e)
SendCause me i b m (CountFull d n) = (d ≡ b) × (n ≡ 1023)

-- Block b, which the key has, wasn't sent, for this reason: the queues, the map, the roots and the zero-count blocks are as they were. This latch is held or none
pub record IsUnsent (me : Me) (i key b : ℕ) (f : SendFault) (taken : Option ℕ) (steps : ℕ) (r0 r : Memo) (tr : Trail) (es : List Event) : Type 0 where
  pub may : MaySendKey me i r0
  pub holds : IsHeld me r
  pub has : (x : ℕ) × (map_in r0.part key ≡ Some (x, b))
  pub cause : SendCause me i b r0 f
  pub keeps : Keeps me.who r0 r
  pub latch : r.latch ≡ taken
  pub home : own_word r.own (Home me.who) ≡ own_word r0.own (Home me.who)
  pub map : SameMap r0 r
  pub cleared : Cleared me.who r0 r
  pub none : es ≡ []
  pub keys : ℕ
  pub search : HasSearch me me.who key keys tr
  pub bound : IsWithin (steps + 2 * keys) tr

-- whether the block that an entry has was sent, by the answer
abbrev pub SendSays : Me → ℕ → ℕ → Option ℕ → ℕ → Memo → Memo → Trail → List Event → Answer → Type 0
SendSays me i key taken steps r0 r tr es answer.Ok = (b : ℕ) × (n : ℕ) × IsSent me i key b n taken steps r0 r tr es
SendSays me i key taken steps r0 r tr es (answer.QueueFull h n) = (b : ℕ) × IsUnsent me i key b (QueueFull h n) taken steps r0 r tr es
SendSays me i key taken steps r0 r tr es (answer.EraSpent e) = (b : ℕ) × IsUnsent me i key b (EraSpent e) taken steps r0 r tr es
SendSays me i key taken steps r0 r tr es (answer.CountFull d n) = (b : ℕ) × IsUnsent me i key b (CountFull d n) taken steps r0 r tr es
SendSays me i key taken steps r0 r tr es a = ⊥

-- what a reading of the own key knows at this point
abbrev pub got : SendKeyState → GetPoint → GetState
got m y = record { me = m.me; author = m.me.who; key = m.key; entry = m.entry; block = m.block; number = 0; point = y }

-- the latch with the search, the load, the send
abbrev pub sent_steps : Bool → ℕ
sent_steps wide = 4 + 1 + (10 + redo_steps wide)

-- what is known before the latch is given back, by what is to be answered
abbrev pub GiveKnows : SendKeyState → Answer → Memo → Memo → Trail → List Event → Type 0
GiveKnows m answer.Missing r0 r tr es = IsNowhere m.me m.me.who m.key r0 r tr es
GiveKnows m a r0 r tr es = SendSays m.me m.to m.key (Some m.me.who) (sent_steps m.me.geometry.wide) r0 r tr es a

abbrev pub SendKeyKnows : SendKeyState → SendKeyPoint → Memo → Memo → Trail → List Event → Type 0
SendKeyKnows m Search r0 r tr es = MaySendKey m.me m.to r0 × (r ≡ r0) × (tr ≡ []) × (es ≡ [])
SendKeyKnows m Value r0 r tr es = GetKnows (got m get.Value) get.Value r0 r tr es × IsOn m.me m.me.who m.key 4 r tr × MaySendKey m.me m.to r0
SendKeyKnows m Send r0 r tr es = GetKnows (got m get.Number) get.Number r0 r tr es × IsOn m.me m.me.who m.key 5 r tr × MaySendKey m.me m.to r0 × Contains r.values m.block
SendKeyKnows m Give r0 r tr es = GiveKnows m m.outcome r0 r tr es

-- ---- what it leaves

-- all that it makes besides two word steps for each entry whose key is read
abbrev pub send_key_steps : Bool → ℕ
send_key_steps wide = sent_steps wide + 2

-- no latch is held; where it is missing, the words that were read and the own map have no such key
abbrev pub SendKeyLeaves : SendKeyState → Memo → Memo → Trail → List Event → Answer → Type 0
SendKeyLeaves m r0 r tr es answer.Missing = GotNone m.me m.me.who m.key r0 r tr es
SendKeyLeaves m r0 r tr es a = SendSays m.me m.to m.key None (send_key_steps m.me.geometry.wide) r0 r tr es a

-- ---- the plan

-- the part that the load of the value word is
abbrev pub value_part : SendKeyState → SendKeyPoint → Part Word ℕ
value_part m y = asked_part (word_part (is_search y) m.me (word_ask m.entry 1) (ReferenceLoaded m.entry 1))

abbrev pub send_key_part : SendKeyState → SendKeyPoint → Part SendKeyCall SendKeyAnswer
send_key_part m y = or_part (calls_part locate_parts locate_plan) (or_part (value_part m y) (or_part (calls_part send_parts send_plan) (calls_part word_control unlatch_plan)))

abbrev pub send_key_plan : Planned SendKeyState SendKeyCall SendKeyAnswer Answer
send_key_plan =
    record {
      steered = send_key_steered;
      part = λ m. send_key_part m m.point;
      knows = λ m. SendKeyKnows m m.point;
      leaves = SendKeyLeaves;
    }
