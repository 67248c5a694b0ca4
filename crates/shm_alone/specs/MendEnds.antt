-- a mending that works alone ends: how many word steps come behind a call, and that they are paid for
use Rattle.std.proofs.Common.{ℕ, ◌+◌}
use Rattle.shm_graph.specs.{declared.spot.Spot.Spot, Bounds.redo_steps}
use Rattle.plans.specs.declared.calls.Calls.{Calls}
use Rattle.shm_recover.specs.declared.mend.MendPoint.{MendPoint}
use Rattle.shm_recover.specs.declared.mend.MendPoint.TheVariants.{Dead, Era, Redo, More, Test, Slot, Close, Lower, Unlatch}
use Rattle.shm_recover.specs.{declared.mend.MendState.MendState, Mend.Control.{MendAnswer, MendCall}}
use Rattle.shm_alone.specs.GiveEnds.{none_over}
use Rattle.shm_alone.specs.Lifting.{anything, calls_alone, calls_left, or_alone, or_left, or_saved, word_left, word_saved}
use Rattle.shm_alone.specs.{LowerEnds.{lower_alone, lower_left}, TestEnds.{test_rest, test_saved}}
use Rattle.shm_alone.specs.UnlatchEnds.{unlatch_alone, unlatch_left}

-- how many word steps come behind the call at a point at most
abbrev pub mend_rest_at : MendState → MendPoint → ℕ
mend_rest_at m Dead = m.me.geometry.clients + 14 + redo_steps m.me.geometry.wide
mend_rest_at m Era = m.me.geometry.clients + 13 + redo_steps m.me.geometry.wide
mend_rest_at m Redo = m.me.geometry.clients + 12 + redo_steps m.me.geometry.wide
mend_rest_at m More = m.me.geometry.clients + 13
mend_rest_at m Test = 11
mend_rest_at m Slot = 10
mend_rest_at m Close = 9
mend_rest_at m Lower = 4
mend_rest_at m Unlatch = 0

abbrev pub mend_rest : MendState → ℕ
mend_rest m = mend_rest_at m m.point

-- what its calls know of the words, have left, and have over
abbrev pub mend_call_alone : MendCall → (Spot → ℕ) → Type 0
mend_call_alone = or_alone anything (or_alone (calls_alone anything anything) (or_alone lower_alone unlatch_alone))

abbrev pub mend_call_left : MendCall → ℕ
mend_call_left = or_left word_left (or_left (calls_left word_left test_rest) (or_left lower_left unlatch_left))

abbrev pub mend_call_saved : MendAnswer → ℕ
mend_call_saved = or_saved word_saved (or_saved test_saved (or_saved none_over none_over))

-- what it knows of the words, and how many word steps it has left
abbrev pub mend_alone : Calls MendState MendCall → (Spot → ℕ) → Type 0
mend_alone = calls_alone mend_call_alone anything

abbrev pub mend_left : Calls MendState MendCall → ℕ
mend_left = calls_left mend_call_left mend_rest
