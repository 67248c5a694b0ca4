-- a recovery that works alone ends: how many word steps come behind a call, and that they are paid for
use Rattle.std.proofs.Common.{ℕ, ◌+◌, ◌*◌}
use Rattle.shm_graph.specs.declared.{ask.Me.Me, spot.Spot.Spot}
use Rattle.plans.specs.declared.calls.Calls.{Calls}
use Rattle.shm_recover.specs.declared.recover.RecoverPoint.{RecoverPoint}
use Rattle.shm_recover.specs.declared.recover.RecoverPoint.TheVariants.{Mend, Roots, Back, Takes, Scan, Give}
use Rattle.shm_recover.specs.{declared.recover.RecoverState.RecoverState, Recover.Control.{RecoverAnswer, RecoverCall}}
use Rattle.shm_alone.specs.{BackEnds.{back_alone, back_left}, GiveEnds.{give_alone, give_left, none_over}}
use Rattle.shm_alone.specs.Lifting.{anything, calls_alone, calls_left, or_alone, or_left, or_saved}
use Rattle.shm_alone.specs.{MendEnds.{mend_alone, mend_left}, RootsEnd.{roots_alone, roots_left, roots_saved}}
use Rattle.shm_alone.specs.{ScanEnds.{scan_alone, scan_left}, TakesEnds.{finish_alone, finish_left}}

-- how many word steps come behind the call at a point at most: those of the calls behind it
abbrev pub recover_rest_at : Me → RecoverPoint → ℕ
recover_rest_at me Mend = 204 * me.geometry.clients + 320002 * me.geometry.segments + 180
recover_rest_at me Roots = 204 * me.geometry.clients + 320002 * me.geometry.segments + 4
recover_rest_at me Back = 4 * me.geometry.clients + 320002 * me.geometry.segments + 3
recover_rest_at me Takes = 320002 * me.geometry.segments + 2
recover_rest_at me Scan = 2 * me.geometry.segments + 1
recover_rest_at me Give = 0

abbrev pub recover_rest : RecoverState → ℕ
recover_rest m = recover_rest_at m.me m.point

-- what its calls know of the words, have left, and have over
abbrev pub recover_call_alone : RecoverCall → (Spot → ℕ) → Type 0
recover_call_alone = or_alone mend_alone (or_alone roots_alone (or_alone back_alone (or_alone finish_alone (or_alone scan_alone give_alone))))

abbrev pub recover_call_left : RecoverCall → ℕ
recover_call_left = or_left mend_left (or_left roots_left (or_left back_left (or_left finish_left (or_left scan_left give_left))))

abbrev pub recover_call_saved : RecoverAnswer → ℕ
recover_call_saved = or_saved none_over (or_saved roots_saved (or_saved none_over (or_saved none_over (or_saved none_over none_over))))

-- what it knows of the words, and how many word steps it has left
abbrev pub recover_alone : Calls RecoverState RecoverCall → (Spot → ℕ) → Type 0
recover_alone = calls_alone recover_call_alone anything

abbrev pub recover_left : Calls RecoverState RecoverCall → ℕ
recover_left = calls_left recover_call_left recover_rest
