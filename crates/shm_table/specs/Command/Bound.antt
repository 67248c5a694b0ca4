-- how many word steps a command takes: by the keys that were read, and the blocks that were torn down or left on the way
use Rattle.std.proofs.Common.{◌≡◌, ℕ, ◌+◌, ◌⊎◌, List, length}
use Rattle.std.specs.List.{All, Contains}
use Rattle.shm_graph.specs.{declared.{ask.Me.Me, memo.Memo.Memo}, Asks.{Trail, IsWithin}, Bounds.command_steps}
use Rattle.shm_graph.specs.Events.{Event}
use Rattle.shm_count.specs.Tear.Events.{Visit, frees}
use Rattle.shm_script.specs.declared.line.Line.{Line}
use Rattle.shm_script.specs.declared.line.Line.TheVariants as line
use Rattle.shm_table.specs.PutRoot.{HasSearch}

-- the searches of the command of a line read so many keys; of one that brings a value block into the own table there may be none in that table
abbrev pub AreRead : Me → Line → ℕ → Trail → Type 0
AreRead me (line.Put key n) k tr = (k ≡ 0) ⊎ HasSearch me me.who key k tr
AreRead me (line.Copy key a other) k tr = (read : ℕ) × (keys : ℕ) × (k ≡ read + keys) × HasSearch me a other read tr × ((keys ≡ 0) ⊎ HasSearch me me.who key keys tr)
AreRead me (line.Del key) k tr = HasSearch me me.who key k tr
AreRead me (line.Get a key) k tr = HasSearch me a key k tr
AreRead me (line.Send to key) k tr = HasSearch me me.who key k tr
AreRead me (line.Recv from key) k tr = (k ≡ 0) ⊎ HasSearch me me.who key k tr

-- so many keys were read, these blocks are left of a tear-down, and no more word steps were made than a command may take
pub record IsCommandShort (me : Me) (l : Line) (r : Memo) (tr : Trail) (es : List Event) : Type 0 where
  pub keys : ℕ
  pub read : AreRead me l keys tr
  pub left : List Visit
  pub dying : All (λ (x : Visit). Contains r.dying x.block) left
  pub bound : IsWithin (command_steps me.geometry.wide me.geometry.segments keys (frees es + length left)) tr
