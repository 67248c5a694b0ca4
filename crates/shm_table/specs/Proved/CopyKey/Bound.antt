-- how many word steps a copy takes: by the keys that were read in both tables, and the blocks that were torn down or left on the way: what is proved of it
use Rattle.std.proofs.{Common.{ℕ, ◌+◌, ◌*◌, refl, arith, inl, List, [], length}, lemmas.List.Elements.All-nil}
use Rattle.std.specs.List.{Contains}
use Rattle.shm_graph.specs.{declared.{ask.Me.Me, memo.Memo.Memo}, Asks.{Trail, IsWithin}, Bounds.command_steps}
use Rattle.shm_graph.specs.Events.{Event}
use Rattle.shm_count.specs.Tear.Events.{Visit}
use Rattle.shm_script.specs.declared.log.Answer.{Answer}
use Rattle.shm_script.specs.declared.log.Answer.TheVariants as answer
use Rattle.shm_table.specs.declared.answer.PutFault.{PutFault, TheVariants.{EraSpent, RootsFull, Full, CountFull}}
use Rattle.shm_table.specs.{declared.find.Found.TheVariants.Absent, CopyKey.{Control.copying, CopyLeaves, NotCopied}}
use Rattle.shm_table.specs.{CopyKey.Bound.{IsCopyShort, own_steps}, Find.Control.Passed, Get.Bound.GetAsked}
use Rattle.shm_table.specs.{Proved.Get.Bound.missing_within, Unlatch.unlatch_trail}

refused_short : (me : Me) (key a other : ℕ) (r0 r : Memo) (tr : Trail) (es : List Event) (f : PutFault) → NotCopied me key a other r0 r tr es f → IsCopyShort me key a other (own_steps me.geometry.wide me.geometry.segments) r tr es
refused_short me key a other r0 r tr es f h = let w = h.bound in (h.read, h.searched, h.keys, h.search, h.left, h.dying, omega arith)

pub copy_short : (me : Me) (key a other : ℕ) (r0 r : Memo) (tr : Trail) (es : List Event) (b : Answer) → CopyLeaves (copying me key a other) r0 r tr es b → IsCopyShort me key a other (own_steps me.geometry.wide me.geometry.segments) r tr es
copy_short me key a other r0 r tr es (answer.Value n v) h = let w = h.bound in (h.source.read, h.source.searched, h.keys, h.search, h.left, h.dying, omega arith)
copy_short me key a other r0 r tr es answer.Missing h =
    missed (missing_within me a other r0 r tr es h)
  where
    missed : (ps : List Passed) × GetAsked me a other ps tr answer.Missing × IsWithin (6 + 2 * length ps) tr → IsCopyShort me key a other (own_steps me.geometry.wide me.geometry.segments) r tr es
    missed (ps, (before, walk, home, first, split, tries, whole), bound) =
        (length ps, (before, walk, unlatch_trail me a, split, (ps, Absent home first, whole, refl)), 0, inl refl, [], All-nil (λ (x : Visit). Contains r.dying x.block), omega arith)
copy_short me key a other r0 r tr es (answer.EraSpent e) h = refused_short me key a other r0 r tr es (EraSpent e) h
copy_short me key a other r0 r tr es answer.RootsFull h = refused_short me key a other r0 r tr es RootsFull h
copy_short me key a other r0 r tr es (answer.Full s b) h = refused_short me key a other r0 r tr es (Full s b) h
copy_short me key a other r0 r tr es (answer.CountFull b x) h = refused_short me key a other r0 r tr es (CountFull b x) h
copy_short me key a other r0 r tr es b h = absurd h

-- that is within what a command on a table may take
pub copy_within : (me : Me) (key a other : ℕ) (r : Memo) (tr : Trail) (es : List Event) → IsCopyShort me key a other (own_steps me.geometry.wide me.geometry.segments) r tr es → IsCopyShort me key a other (command_steps me.geometry.wide me.geometry.segments) r tr es
copy_within me key a other r tr es (read, searched, k, found, vs, dying, w) = (read, searched, k, found, vs, dying, omega arith)
