use Rattle.std.proofs.Common.{refl, ap}
use Rattle.std.specs.Prelude.{Ok, Err}
use Rattle.shm_graph.specs.{declared.{memo.Memo.Memo, spot.Spot.TheVariants.Root}, Views.own_word}
use Rattle.shm_count.proofs.RootSpots.{roots_reached}
use Rattle.shm_queue.specs.declared.answer.SendFault.TheVariants.{CountFull, EraSpent, QueueFull}
use Rattle.shm_queue.specs.{Proved.QueueTasks.send_rests, Send.Control.sending}
use Rattle.shm_queue.proofs.Queues.{send_queues}
use Rattle.shm_queue.proofs.keeping.send_keeps.Goals as goal

pub returns-clause-place : goal.returns-clause-place
returns-clause-place c me i b r0 r tr es (Ok n) h = h.sent.place
returns-clause-place c me i b r0 r tr es (Err f) h = tt

pub returns-clause-sent : goal.returns-clause-sent
returns-clause-sent c me i b r0 r tr es (Ok n) h = ap (λ (x : Memo). x.sent) h.sent.rest
returns-clause-sent c me i b r0 r tr es (Err f) h = tt

pub returns-clause-refused : goal.returns-clause-refused
returns-clause-refused c me i b r0 r tr es (Ok n) h = tt
returns-clause-refused c me i b r0 r tr es (Err (QueueFull w n)) h = ap (λ (x : Memo). x.sent) h.same
returns-clause-refused c me i b r0 r tr es (Err (EraSpent e)) h = ap (λ (x : Memo). x.sent) h.0.untouched.rest
returns-clause-refused c me i b r0 r tr es (Err (CountFull d n)) h = ap (λ (x : Memo). x.sent) h.0.untouched.rest

pub returns-clause-left : goal.returns-clause-left
returns-clause-left c me i b r0 r tr es a h = send_queues (sending me i b) r0 r tr es a h

pub returns-clause-dying : goal.returns-clause-dying
returns-clause-dying c me i b r0 r tr es (Ok n) h = ap (λ (x : Memo). x.dying) h.sent.rest
returns-clause-dying c me i b r0 r tr es (Err (QueueFull w n)) h = ap (λ (x : Memo). x.dying) h.same
returns-clause-dying c me i b r0 r tr es (Err (EraSpent e)) h = ap (λ (x : Memo). x.dying) h.0.untouched.rest
returns-clause-dying c me i b r0 r tr es (Err (CountFull d n)) h = ap (λ (x : Memo). x.dying) h.0.untouched.rest

pub returns-clause-roots : goal.returns-clause-roots
returns-clause-roots c me i b r0 r tr es (Ok n) h k = h.sent.own (Root me.who k) refl refl
returns-clause-roots c me i b r0 r tr es (Err (QueueFull w n)) h k = ap (λ (x : Memo). own_word x.own (Root me.who k)) h.same
returns-clause-roots c me i b r0 r tr es (Err (EraSpent e)) h k = h.0.untouched.own (Root me.who k) refl
returns-clause-roots c me i b r0 r tr es (Err (CountFull d n)) h k = h.0.untouched.own (Root me.who k) refl

pub returns-clause-reached : goal.returns-clause-reached
returns-clause-reached c me i b r0 r tr es a h idle = roots_reached me.who r (send_rests (sending me i b) r0 r tr es a idle h).op
