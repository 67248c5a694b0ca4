-- a scan that works alone: how many word steps come behind a call, and that they are paid for
use Rattle.std.proofs.Common.{ℕ, ◌+◌, ◌*◌, ◌-◌}
use Rattle.shm_graph.specs.declared.spot.Spot.{Spot}
use Rattle.plans.specs.declared.calls.Calls.{Calls}
use Rattle.shm_recover.specs.declared.scan.ScanPoint.{ScanPoint, TheVariants.{Page, Header, Tear}}
use Rattle.shm_recover.specs.{declared.scan.ScanState.ScanState, Scan.Control.{ScanAnswer, ScanCall}}
use Rattle.shm_alone.specs.Lifting.{anything, calls_alone, calls_left, or_alone, or_left, or_saved, word_left, word_saved}
use Rattle.shm_alone.specs.TearEnds.{tear_alone, tear_left, tear_saved}

-- how many pages there are from this one on
abbrev pub pages_from : ScanState → ℕ
pages_from m = 16 * (m.me.geometry.segments - m.segment) - m.page

-- how many word steps come behind the call at a point at most, but for those that events pay: 20000 for each page, 100 for each word of this one
abbrev pub scan_rest_at : ScanState → ScanPoint → ℕ
scan_rest_at m Page = 20000 * pages_from m
scan_rest_at m Header = 20000 * (pages_from m - 1) + 100 * (128 - m.offset)
scan_rest_at m Tear = 20000 * (pages_from m - 1) + 100 * (128 - m.offset) - 60

abbrev pub scan_rest : ScanState → ℕ
scan_rest m = scan_rest_at m m.point

-- what its calls know of the words, have left, and have over
abbrev pub scan_call_alone : ScanCall → (Spot → ℕ) → Type 0
scan_call_alone = or_alone anything tear_alone

abbrev pub scan_call_left : ScanCall → ℕ
scan_call_left = or_left word_left tear_left

abbrev pub scan_call_saved : ScanAnswer → ℕ
scan_call_saved = or_saved word_saved tear_saved

-- what it knows of the words, and how many word steps it has left
abbrev pub scan_alone : Calls ScanState ScanCall → (Spot → ℕ) → Type 0
scan_alone = calls_alone scan_call_alone anything

abbrev pub scan_left : Calls ScanState ScanCall → ℕ
scan_left = calls_left scan_call_left scan_rest
