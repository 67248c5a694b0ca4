-- how many word steps it takes to send what an own key has: by the keys that were read: what is proved of it
use Rattle.std.proofs.Common.{ℕ, ◌+◌, ◌*◌, refl, arith, List, length}
use Rattle.shm_graph.specs.{declared.{ask.Me.Me, memo.Memo.Memo}, Asks.{Trail, IsWithin}, Bounds.command_steps}
use Rattle.shm_graph.specs.Events.{Event}
use Rattle.shm_script.specs.declared.log.Answer.{Answer}
use Rattle.shm_script.specs.declared.log.Answer.TheVariants as answer
use Rattle.shm_table.specs.{declared.find.Found.TheVariants.Absent, Find.Control.Passed, Get.Bound.GetAsked}
use Rattle.shm_table.specs.{Proved.Get.Bound.missing_within, SendKey.{Control.sending_key, SendKeyLeaves}}
use Rattle.shm_table.specs.{SendKey.Bound.{IsSendShort, own_steps}, Unlatch.unlatch_trail}

pub send_key_short : (me : Me) (i key : ℕ) (r0 r : Memo) (tr : Trail) (es : List Event) (a : Answer) → SendKeyLeaves (sending_key me i key) r0 r tr es a → IsSendShort me key (own_steps me.geometry.wide) tr
send_key_short me i key r0 r tr es answer.Missing h =
    missed (missing_within me me.who key r0 r tr es h)
  where
    missed : (ps : List Passed) × GetAsked me me.who key ps tr answer.Missing × IsWithin (6 + 2 * length ps) tr → IsSendShort me key (own_steps me.geometry.wide) tr
    missed (ps, (before, walk, home, first, split, tries, whole), bound) = (length ps, (before, walk, unlatch_trail me me.who, split, (ps, Absent home first, whole, refl)), omega arith)
send_key_short me i key r0 r tr es answer.Ok (b, n, h) = (h.keys, h.search, h.bound)
send_key_short me i key r0 r tr es (answer.QueueFull d n) (b, h) = (h.keys, h.search, h.bound)
send_key_short me i key r0 r tr es (answer.EraSpent e) (b, h) = (h.keys, h.search, h.bound)
send_key_short me i key r0 r tr es (answer.CountFull d n) (b, h) = (h.keys, h.search, h.bound)
send_key_short me i key r0 r tr es _ h = absurd h

-- that is within what a command on a table may take
pub send_key_within : (me : Me) (key g : ℕ) (tr : Trail) → IsSendShort me key (own_steps me.geometry.wide) tr → IsSendShort me key (λ k. command_steps me.geometry.wide g k 0) tr
send_key_within me key g tr (keys, search, bound) = (keys, search, omega arith)
