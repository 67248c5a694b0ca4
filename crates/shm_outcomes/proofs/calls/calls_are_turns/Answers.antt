use Rattle.shm_outcomes.proofs.Turning.{done_turns, end_turns, stepped_turns, stop_turns}
use Rattle.shm_outcomes.proofs.calls.calls_are_turns.Goals as goal

pub returns-clause-operations : goal.returns-clause-operations
returns-clause-operations g c = λ m t t' before left o h alive. done_turns _ _ _ _ m t t' before left o h alive

pub returns-clause-plans : goal.returns-clause-plans
returns-clause-plans g c = λ p t t' before left o h alive. done_turns _ _ _ _ _ t t' before left o h.done alive

pub returns-clause-allocations : goal.returns-clause-allocations
returns-clause-allocations g c = λ n xs near t t' before left o h alive. done_turns _ _ _ _ _ t t' before left o h.done alive

pub returns-clause-commands : goal.returns-clause-commands
returns-clause-commands g c = λ l t t' before left o h alive. done_turns _ _ _ _ _ t t' before left o h.done alive

pub returns-clause-left : goal.returns-clause-left
returns-clause-left g c = λ p e before left t h. end_turns _ _ _ _ _ p e before left t h

pub returns-clause-not_left : goal.returns-clause-not_left
returns-clause-not_left g c = λ p e before left x t h. stop_turns _ _ _ _ _ p e before left x t h

pub returns-clause-recovered : goal.returns-clause-recovered
returns-clause-recovered g c = λ p e before left t h. end_turns _ _ _ _ _ p _ before left t h

pub returns-clause-not_recovered : goal.returns-clause-not_recovered
returns-clause-not_recovered g c = λ p e before left x t h. stop_turns _ _ _ _ _ p _ before left x t h

pub returns-clause-polled : goal.returns-clause-polled
returns-clause-polled g c = λ over n u v before left h. stepped_turns over n u v before left h
