-- how many word steps a receive into a table takes
use Rattle.std.proofs.{Common.{ℕ, ◌+◌, ◌*◌, arith, inl, refl, List, [], Bool}, lemmas.List.Elements.All-nil}
use Rattle.std.specs.{List.Contains, Prelude.{Result, Ok, Err}}
use Rattle.shm_graph.specs.{declared.{ask.Me.Me, memo.Memo.Memo}, Asks.{Trail, IsWithin}}
use Rattle.shm_graph.specs.{Bounds.{command_steps, tear_steps}, Events.Event}
use Rattle.shm_count.specs.{declared.answer.EraSpent.EraSpent as Spent, Tear.Events.Visit}
use Rattle.shm_script.specs.declared.log.Answer.{Answer}
use Rattle.shm_script.specs.declared.log.Answer.TheVariants as answer
use Rattle.shm_table.specs.declared.answer.PutFault.{PutFault, TheVariants.{EraSpent, RootsFull, Full, CountFull}}
use Rattle.shm_table.specs.declared.fetch_head.FetchedHead.{FetchedHead, TheVariants.Empty}
use Rattle.shm_table.specs.FetchHead.{Control.fetching_head, FetchHeadLeaves, fetch_head_steps}
use Rattle.shm_table.specs.{PutRoot.Bound.IsPutShort, RecvKey.Control.receiving_key}
use Rattle.shm_table.specs.{RecvKey.{NotReceivedIn, RecvLeaves, recv_steps}, TakeHead.Control.taking_head}
use Rattle.shm_table.specs.TakeHead.{TakeHeadLeaves, take_head_steps}

-- whatever was fetched
pub fetch_head_short : (me : Me) (s : ℕ) (r0 r : Memo) (tr : Trail) (es : List Event) (a : FetchedHead) → FetchHeadLeaves (fetching_head me s) r0 r tr es a → IsWithin (fetch_head_steps me.geometry.wide) tr
fetch_head_short me s r0 r tr es (Empty n) h = let b = h.bound in omega arith
fetch_head_short me s r0 r tr es _ h = h.bound

pub take_head_short : (me : Me) (s n b : ℕ) (r0 r : Memo) (tr : Trail) (es : List Event) (a : Result (Unit {0}) Spent) → TakeHeadLeaves (taking_head me s n b) r0 r tr es a → IsWithin (take_head_steps me.geometry.wide) tr
take_head_short me s n b r0 r tr es (Ok done) h = h.bound
take_head_short me s n b r0 r tr es (Err e) h = h.bound

-- those of its calls
abbrev pub own_steps : Bool → ℕ → ℕ → ℕ → ℕ
own_steps wide g k t = recv_steps wide g + 2 * k + tear_steps wide t

refused_short : (me : Me) (s key : ℕ) (r0 r : Memo) (tr : Trail) (es : List Event) (f : PutFault) → NotReceivedIn me s key r0 r tr es f → IsPutShort me key (own_steps me.geometry.wide me.geometry.segments) r tr es
refused_short me s key r0 r tr es f h = (h.keys, h.search, h.left, h.dying, h.bound)

pub recv_short : (me : Me) (s key : ℕ) (r0 r : Memo) (tr : Trail) (es : List Event) (a : Answer) → RecvLeaves (receiving_key me s key) r0 r tr es a → IsPutShort me key (own_steps me.geometry.wide me.geometry.segments) r tr es
recv_short me s key r0 r tr es (answer.Value v b) h = (h.keys, h.search, h.left, h.dying, h.bound)
recv_short me s key r0 r tr es (answer.Empty n) h = (0, inl refl, [], All-nil (λ (x : Visit). Contains r.dying x.block), (let b = h.bound in omega arith))
recv_short me s key r0 r tr es (answer.EraSpent e) h = refused_short me s key r0 r tr es (EraSpent e) h
recv_short me s key r0 r tr es answer.RootsFull h = refused_short me s key r0 r tr es RootsFull h
recv_short me s key r0 r tr es (answer.Full c b) h = refused_short me s key r0 r tr es (Full c b) h
recv_short me s key r0 r tr es (answer.CountFull b x) h = refused_short me s key r0 r tr es (CountFull b x) h
recv_short me s key r0 r tr es a h = absurd h

-- that is within what a command on a table may take
pub recv_within : (me : Me) (key : ℕ) (r : Memo) (tr : Trail) (es : List Event) → IsPutShort me key (own_steps me.geometry.wide me.geometry.segments) r tr es → IsPutShort me key (command_steps me.geometry.wide me.geometry.segments) r tr es
recv_within me key r tr es (k, found, vs, dying, w) = (k, found, vs, dying, omega arith)
