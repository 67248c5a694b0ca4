-- how many word steps it takes that a key comes to have a number
use Rattle.std.proofs.Common.{ℕ, ◌+◌, ◌*◌, arith, List, Bool}
use Rattle.shm_graph.specs.{declared.{ask.Me.Me, memo.Memo.Memo}, Asks.Trail, Bounds.{command_steps, tear_steps}}
use Rattle.shm_graph.specs.Events.{Event}
use Rattle.shm_script.specs.declared.log.Answer.{Answer}
use Rattle.shm_script.specs.declared.log.Answer.TheVariants as answer
use Rattle.shm_table.specs.declared.answer.PutFault.{PutFault, TheVariants.{EraSpent, RootsFull, Full, CountFull}}
use Rattle.shm_table.specs.{Put.{Control.putting, NotStored, PutLeaves, put_steps}, PutRoot.Bound.IsPutShort}

-- those of its calls
abbrev pub own_steps : Bool → ℕ → ℕ → ℕ → ℕ
own_steps wide g k t = put_steps wide g + 2 * k + tear_steps wide t

refused_short : (me : Me) (key : ℕ) (r0 r : Memo) (tr : Trail) (es : List Event) (f : PutFault) → NotStored me key r0 r tr es f → IsPutShort me key (own_steps me.geometry.wide me.geometry.segments) r tr es
refused_short me key r0 r tr es f h = (h.keys, h.search, h.left, h.dying, h.bound)

pub put_short : (me : Me) (key n : ℕ) (r0 r : Memo) (tr : Trail) (es : List Event) (a : Answer) → PutLeaves (putting me key n) r0 r tr es a → IsPutShort me key (own_steps me.geometry.wide me.geometry.segments) r tr es
put_short me key n r0 r tr es (answer.Stored b) h = (h.keys, h.search, h.left, h.dying, h.bound)
put_short me key n r0 r tr es (answer.EraSpent e) h = refused_short me key r0 r tr es (EraSpent e) h
put_short me key n r0 r tr es answer.RootsFull h = refused_short me key r0 r tr es RootsFull h
put_short me key n r0 r tr es (answer.Full s b) h = refused_short me key r0 r tr es (Full s b) h
put_short me key n r0 r tr es (answer.CountFull b x) h = refused_short me key r0 r tr es (CountFull b x) h
put_short me key n r0 r tr es a h = absurd h

-- that is within what a command on a table may take
pub put_within : (me : Me) (key : ℕ) (r : Memo) (tr : Trail) (es : List Event) → IsPutShort me key (own_steps me.geometry.wide me.geometry.segments) r tr es → IsPutShort me key (command_steps me.geometry.wide me.geometry.segments) r tr es
put_within me key r tr es (k, found, vs, dying, w) = (k, found, vs, dying, omega arith)
