-- how many word steps a command takes: by the keys that were read, and the blocks that were torn down or left on the way: what is proved of it
use Rattle.std.proofs.{Common.{ℕ, ◌+◌, ◌*◌, refl, arith, List, [], ◌++◌, length}, lemmas.List.Elements.All-nil}
use Rattle.std.specs.List.{Contains}
use Rattle.shm_graph.specs.{declared.{ask.Me.Me, memo.Memo.Memo}, Asks.{Trail, IsWithin}, Bounds.command_steps}
use Rattle.shm_graph.specs.Events.{Event}
use Rattle.shm_count.specs.Tear.Events.{Visit}
use Rattle.shm_script.specs.declared.{line.Line.Line, log.Answer.Answer}
use Rattle.shm_script.specs.declared.line.Line.TheVariants as line
use Rattle.shm_script.specs.declared.log.Answer.TheVariants as answer
use Rattle.shm_table.specs.{declared.find.Found.TheVariants.{Absent, At}, CopyKey.Bound.IsCopyShort}
use Rattle.shm_table.specs.Proved.{CopyKey.Bound.{copy_short, copy_within}, Del.Bound.{del_short, del_within}}
use Rattle.shm_table.specs.Proved.{Get.Bound.{found_within, missing_within}, Put.Bound.{put_short, put_within}}
use Rattle.shm_table.specs.Proved.RecvKey.Bound.{recv_short, recv_within}
use Rattle.shm_table.specs.{Proved.SendKey.Bound.{send_key_short, send_key_within}, Del.Bound.IsShort}
use Rattle.shm_table.specs.{Find.{Bound.keys_read, Control.Passed}, Get.{Bound.GetAsked, Control.getting}}
use Rattle.shm_table.specs.{Get.{GetLeaves, found_trail, number_trail}, Refusals.CommandLeaves}
use Rattle.shm_table.specs.{PutRoot.Bound.IsPutShort, SendKey.Bound.IsSendShort, Unlatch.unlatch_trail}
use Rattle.shm_table.specs.Command.Bound.{AreRead, IsCommandShort}

-- nothing was torn down
quiet_short : (me : Me) (l : Line) (r : Memo) (tr : Trail) (es : List Event) (k : ℕ) → AreRead me l k tr → IsWithin (command_steps me.geometry.wide me.geometry.segments k 0) tr → IsCommandShort me l r tr es
quiet_short me l r tr es k read w = record { keys = k; read = read; left = []; dying = All-nil (λ (x : Visit). Contains r.dying x.block); bound = omega arith }

got_short : (me : Me) (a key : ℕ) (r0 r : Memo) (tr : Trail) (es : List Event) (b : Answer) → GetLeaves (getting me a key) r0 r tr es b → IsCommandShort me (line.Get a key) r tr es
got_short me a key r0 r tr es answer.Missing h =
    missed (missing_within me a key r0 r tr es h)
  where
    missed : (ps : List Passed) × GetAsked me a key ps tr answer.Missing × IsWithin (6 + 2 * length ps) tr → IsCommandShort me (line.Get a key) r tr es
    missed (ps, (before, walk, home, first, split, tries, whole), bound) = quiet_short me (line.Get a key) r tr es (length ps) (before, walk, unlatch_trail me a, split, (ps, Absent home first, whole, refl)) (omega arith)
got_short me a key r0 r tr es (answer.Value n v) h =
    found (found_within me a key n v r0 r tr es h)
  where
    found : (ps : List Passed) × GetAsked me a key ps tr (answer.Value n v) × IsWithin (9 + 2 * length ps) tr → IsCommandShort me (line.Get a key) r tr es
    found (ps, (before, home, entry, split, tries), bound) =
        quiet_short me (line.Get a key) r tr es (length ps + 1) (before, found_trail me a key home ps entry, number_trail entry v n ++ unlatch_trail me a, split, (ps, At entry 0 0, (home, refl), refl)) (omega arith)
got_short me a key r0 r tr es b h = absurd h

pub command_short : (me : Me) (l : Line) (r0 r : Memo) (tr : Trail) (es : List Event) (b : Answer) → CommandLeaves me l r0 r tr es b → IsCommandShort me l r tr es
command_short me (line.Put key n) r0 r tr es b h = go (put_within me key r tr es (put_short me key n r0 r tr es b h))
  where
    go : IsPutShort me key (command_steps me.geometry.wide me.geometry.segments) r tr es → IsCommandShort me (line.Put key n) r tr es
    go (k, found, vs, dying, w) = record { keys = k; read = found; left = vs; dying = dying; bound = w }
command_short me (line.Copy key a other) r0 r tr es b h = go (copy_within me key a other r tr es (copy_short me key a other r0 r tr es b h))
  where
    go : IsCopyShort me key a other (command_steps me.geometry.wide me.geometry.segments) r tr es → IsCommandShort me (line.Copy key a other) r tr es
    go (read, searched, k, found, vs, dying, w) = record { keys = read + k; read = (read, k, refl, searched, found); left = vs; dying = dying; bound = w }
command_short me (line.Del key) r0 r tr es b h = go (del_within me key me.geometry.segments r tr es (del_short me key r0 r tr es b h.1))
  where
    go : IsShort me key (command_steps me.geometry.wide me.geometry.segments) r tr es → IsCommandShort me (line.Del key) r tr es
    go (x, s, vs, dying, w) = record { keys = keys_read s.read x; read = (s.tries, s.search, s.rest, s.trail, (s.read, x, s.whole, refl)); left = vs; dying = dying; bound = w }
command_short me (line.Get a key) r0 r tr es b h = got_short me a key r0 r tr es b h
command_short me (line.Send to key) r0 r tr es b h = go (send_key_within me key me.geometry.segments tr (send_key_short me to key r0 r tr es b h))
  where
    go : IsSendShort me key (λ k. command_steps me.geometry.wide me.geometry.segments k 0) tr → IsCommandShort me (line.Send to key) r tr es
    go (k, search, w) = quiet_short me (line.Send to key) r tr es k search w
command_short me (line.Recv from key) r0 r tr es b h = go (recv_within me key r tr es (recv_short me from key r0 r tr es b h))
  where
    go : IsPutShort me key (command_steps me.geometry.wide me.geometry.segments) r tr es → IsCommandShort me (line.Recv from key) r tr es
    go (k, found, vs, dying, w) = record { keys = k; read = found; left = vs; dying = dying; bound = w }
