use Rattle.shm_table.proofs.Running.SentCommands.{dead_sent, sent_so_far, sent_while}
use Rattle.shm_table.proofs.effects.command_sends.Goals as goal

pub returns-clause-runs : goal.returns-clause-runs
returns-clause-runs c = sent_while

pub returns-clause-going : goal.returns-clause-going
returns-clause-going c = sent_so_far

pub returns-clause-dies : goal.returns-clause-dies
returns-clause-dies c = dead_sent
