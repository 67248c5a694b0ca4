-- how many word steps a put takes: by the keys that were read, and the blocks that were torn down or left on the way: what is proved of it
use Rattle.std.proofs.Common.{ℕ, arith, Bool, inr, List}
use Rattle.std.specs.Prelude.{Result, Ok, Err}
use Rattle.shm_graph.specs.{declared.{ask.Me.Me, memo.Memo.Memo}, Asks.Trail, Bounds.command_steps, Events.Event}
use Rattle.shm_table.specs.{declared.answer.PutFault.PutFault, PutRoot.{Control.putting_root, PutRootLeaves}}
use Rattle.shm_table.specs.PutRoot.Bound.{IsPutShort, own_steps}

pub put_root_short : (me : Me) (key v : ℕ) (r0 r : Memo) (tr : Trail) (es : List Event) (a : Result Bool PutFault) → PutRootLeaves (putting_root me key v) r0 r tr es a → IsPutShort me key (own_steps me.geometry.wide me.geometry.segments) r tr es
put_root_short me key v r0 r tr es (Ok done) (h, still) = (h.keys, inr h.search, h.left, h.dying, h.bound)
put_root_short me key v r0 r tr es (Err f) h = (h.keys, h.search, h.left, h.dying, h.bound)

-- that is within what a command on a table may take
pub put_root_within : (me : Me) (key : ℕ) (r : Memo) (tr : Trail) (es : List Event) → IsPutShort me key (own_steps me.geometry.wide me.geometry.segments) r tr es → IsPutShort me key (command_steps me.geometry.wide me.geometry.segments) r tr es
put_root_within me key r tr es (k, found, vs, dying, w) = (k, found, vs, dying, omega arith)
