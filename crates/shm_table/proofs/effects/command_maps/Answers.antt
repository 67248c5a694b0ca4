use Rattle.shm_table.proofs.Running.Commands.{map_so_far, none_shown, runs_so_far}
use Rattle.shm_table.proofs.effects.command_maps.Goals as goal

pub returns-clause-runs : goal.returns-clause-runs
returns-clause-runs c = runs_so_far

pub returns-clause-going : goal.returns-clause-going
returns-clause-going c = map_so_far

pub returns-clause-fresh : goal.returns-clause-fresh
returns-clause-fresh c = none_shown
