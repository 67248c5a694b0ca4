-- what rows have made
use Rattle.t_calls.specs.{declared.Stage.{Stage, TheVariants.{Nothing, Open, Closed}}, Known.Stand}

-- how the identities of an open pool stand is known
abbrev pub IsStage : Stage → Type 0
IsStage Nothing = Unit {0}
IsStage (Open r) = Stand r.first r.second r.pool
IsStage (Closed p) = Unit {0}
