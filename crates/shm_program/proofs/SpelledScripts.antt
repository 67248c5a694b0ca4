-- bytes that spell a script are read as that script, and what is read of bytes is what they spell
use Rattle.std.proofs.Common.{◌≡◌, ◌∙◌, ap, ℕ, List}
use Rattle.std.specs.Prelude.{Ok}
use Rattle.shm_tree.specs.{Scripts.{TreeScripted, script_of}, ScriptTexts.SpellsScript}
use Rattle.shm_tree.proofs.{Again.script_again, Sound.script_sound}

pub spelled_read : (bytes : List ℕ) (s : TreeScripted) → SpellsScript bytes s → script_of bytes ≡ Ok s
spelled_read bytes s h = ap script_of h.1 ∙ script_again s h.0 (rw h.1 at h.2)

pub read_spelled : (bytes : List ℕ) (s : TreeScripted) → script_of bytes ≡ Ok s → SpellsScript bytes s
read_spelled = script_sound
