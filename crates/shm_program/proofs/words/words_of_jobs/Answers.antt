use Rattle.std.proofs.Common.{refl}
use Rattle.clap.proofs.OnLiterals.{clap_on_literals}
use Rattle.shm_program.proofs.words.words_of_jobs.Goals as goal

pub returns-clause-report : goal.returns-clause-report
unfolding clap_on_literals
returns-clause-report c = refl

pub returns-clause-image : goal.returns-clause-image
unfolding clap_on_literals
returns-clause-image c = refl

pub returns-clause-print : goal.returns-clause-print
unfolding clap_on_literals
returns-clause-print c = refl

pub returns-clause-both : goal.returns-clause-both
unfolding clap_on_literals
returns-clause-both c = refl

pub returns-clause-twice : goal.returns-clause-twice
unfolding clap_on_literals
returns-clause-twice c = refl

pub returns-clause-help : goal.returns-clause-help
unfolding clap_on_literals
returns-clause-help c = refl

pub returns-clause-more : goal.returns-clause-more
unfolding clap_on_literals
returns-clause-more c = refl

pub returns-clause-run : goal.returns-clause-run
unfolding clap_on_literals
returns-clause-run c = refl

pub returns-clause-run_image : goal.returns-clause-run_image
unfolding clap_on_literals
returns-clause-run_image c = refl

pub returns-clause-run_medics : goal.returns-clause-run_medics
unfolding clap_on_literals
returns-clause-run_medics c = refl

pub returns-clause-run_rescued : goal.returns-clause-run_rescued
unfolding clap_on_literals
returns-clause-run_rescued c = refl

pub returns-clause-run_equals : goal.returns-clause-run_equals
unfolding clap_on_literals
returns-clause-run_equals c = refl

pub returns-clause-run_none : goal.returns-clause-run_none
unfolding clap_on_literals
returns-clause-run_none c = refl

pub returns-clause-run_many : goal.returns-clause-run_many
unfolding clap_on_literals
returns-clause-run_many c = refl

pub returns-clause-run_print : goal.returns-clause-run_print
unfolding clap_on_literals
returns-clause-run_print c = refl

pub returns-clause-audit : goal.returns-clause-audit
unfolding clap_on_literals
returns-clause-audit c = refl

pub returns-clause-audit_more : goal.returns-clause-audit_more
unfolding clap_on_literals
returns-clause-audit_more c = refl

pub returns-clause-migrate : goal.returns-clause-migrate
unfolding clap_on_literals
returns-clause-migrate c = refl

pub returns-clause-migrate_more : goal.returns-clause-migrate_more
unfolding clap_on_literals
returns-clause-migrate_more c = refl

pub returns-clause-make : goal.returns-clause-make
unfolding clap_on_literals
returns-clause-make c = refl

pub returns-clause-draw : goal.returns-clause-draw
unfolding clap_on_literals
returns-clause-draw c = refl

pub returns-clause-few : goal.returns-clause-few
unfolding clap_on_literals
returns-clause-few c = refl

pub returns-clause-zero : goal.returns-clause-zero
unfolding clap_on_literals
returns-clause-zero c = refl

pub returns-clause-many : goal.returns-clause-many
unfolding clap_on_literals
returns-clause-many c = refl

pub returns-clause-leading : goal.returns-clause-leading
unfolding clap_on_literals
returns-clause-leading c = refl

pub returns-clause-poll : goal.returns-clause-poll
unfolding clap_on_literals
returns-clause-poll c = refl

pub returns-clause-poll_limit : goal.returns-clause-poll_limit
unfolding clap_on_literals
returns-clause-poll_limit c = refl

pub returns-clause-poll_none : goal.returns-clause-poll_none
unfolding clap_on_literals
returns-clause-poll_none c = refl

pub returns-clause-poll_zero : goal.returns-clause-poll_zero
unfolding clap_on_literals
returns-clause-poll_zero c = refl

pub returns-clause-poll_many : goal.returns-clause-poll_many
unfolding clap_on_literals
returns-clause-poll_many c = refl

pub returns-clause-poll_no_limit : goal.returns-clause-poll_no_limit
unfolding clap_on_literals
returns-clause-poll_no_limit c = refl

pub returns-clause-tree : goal.returns-clause-tree
unfolding clap_on_literals
returns-clause-tree c = refl

pub returns-clause-tree_more : goal.returns-clause-tree_more
unfolding clap_on_literals
returns-clause-tree_more c = refl
