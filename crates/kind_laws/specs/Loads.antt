-- loads that only read what grows: what they make of the memos
use Rattle.std.specs.Prelude.{◌≡◌, ◌≢◌, ℕ, ◌+◌, ◌^◌, ◌<◌, ◌≤◌, ◌&&◌, ◌==◌, if◌then◌else◌, ◌∷◌, ◌++◌, Option}
use Rattle.shm_graph.specs.declared.{spot.Spot.TheVariants.Era, memo.Test.Test}
use Rattle.shm_graph.specs.{declared.memo.Fact.TheVariants.{Header as HeaderRead, Counter}, Views.{View, at1}}

-- ---- loads that only read what grows: a header, and a row of another identity

-- a header; where a recoverer is in the commit test of this block, the window opens
abbrev pub header_view : View → ℕ → ℕ → Option Test → View
header_view v c x test =
    record v {
      facts = at1 v.facts c (HeaderRead x ∷ v.facts c);
      test = at1 v.test c test;
    }

-- a row
abbrev pub row_view : View → ℕ → ℕ → ℕ → Option Test → View
row_view v c k x test =
    record v {
      facts = at1 v.facts c (Counter (Era k c) x ∷ v.facts c);
      test = at1 v.test c test;
    }
