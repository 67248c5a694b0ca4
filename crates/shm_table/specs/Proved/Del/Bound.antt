-- how many word steps the removal of a key takes: by the keys that were read, and the blocks that were torn down or left on the way: what is proved of it
use Rattle.std.proofs.{Common.{ℕ, ◌+◌, ◌*◌, arith, List, []}, lemmas.List.Elements.All-nil}
use Rattle.std.specs.List.{Contains}
use Rattle.shm_graph.specs.{declared.{ask.Me.Me, memo.Memo.Memo}, Asks.Trail}
use Rattle.shm_graph.specs.{Bounds.{command_steps, tear_steps, redo_steps}, Events.Event}
use Rattle.shm_count.specs.{Tear.Events.Visit, declared.answer.UpFault.{UpFault, TheVariants.{CountFull, EraSpent}}}
use Rattle.shm_script.specs.declared.log.Answer.{Answer}
use Rattle.shm_script.specs.declared.log.Answer.TheVariants as answer
use Rattle.shm_table.specs.{declared.find.Found.TheVariants.{Absent, At}, Del.{DelSays, NotDeleted, Bound.IsShort}}

-- so too where the count step was refused
refused_short : (me : Me) (key : ℕ) (r0 r : Memo) (tr : Trail) (es : List Event) (f : UpFault) → NotDeleted me key (19 + redo_steps me.geometry.wide) r0 r tr es f → IsShort me key (λ k t. 19 + redo_steps me.geometry.wide + 2 * k + tear_steps me.geometry.wide t) r tr es
refused_short me key r0 r tr es f h = (At h.entry h.before h.word, h.searched, [], All-nil (λ (x : Visit). Contains r.dying x.block), (let w = h.bound in omega arith))

pub del_short : (me : Me) (key : ℕ) (r0 r : Memo) (tr : Trail) (es : List Event) (a : Answer) → DelSays me key (19 + redo_steps me.geometry.wide) r0 r tr es a → IsShort me key (λ k t. 19 + redo_steps me.geometry.wide + 2 * k + tear_steps me.geometry.wide t) r tr es
del_short me key r0 r tr es answer.Ok h = (At h.entry h.before h.word, h.searched, h.left, h.dying, h.bound)
del_short me key r0 r tr es answer.Missing h = (Absent h.directory h.first, h.searched, [], All-nil (λ (x : Visit). Contains r.dying x.block), (let w = h.bound in omega arith))
del_short me key r0 r tr es (answer.EraSpent e) h = refused_short me key r0 r tr es (EraSpent e) h
del_short me key r0 r tr es (answer.CountFull b n) h = refused_short me key r0 r tr es (CountFull b n) h
del_short me key r0 r tr es a h = absurd h

-- that is within what a command on a table may take
pub del_within : (me : Me) (key segments : ℕ) (r : Memo) (tr : Trail) (es : List Event) → IsShort me key (λ k t. 19 + redo_steps me.geometry.wide + 2 * k + tear_steps me.geometry.wide t) r tr es → IsShort me key (command_steps me.geometry.wide segments) r tr es
del_within me key segments r tr es (b, s, vs, dying, w) = (b, s, vs, dying, omega arith)
