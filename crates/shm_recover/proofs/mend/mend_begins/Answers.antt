use Rattle.std.proofs.Common.{refl}
use Rattle.shm_graph.specs.declared.memo.Kind.TheVariants.{Recoverer}
use Rattle.shm_graph.proofs.Memos.MemoSteps.{recovers-entered}
use Rattle.plans.specs.Proved.CallsKeep.{calls_begin}
use Rattle.shm_recover.specs.{Mend.{Control.{mend_parts, mending}, mend_plan}, Proved.Mend.Laws.{mend_begin, mend_laws}}
use Rattle.shm_recover.proofs.mend.mend_begins.Goals as goal

pub returns-clause-fits : goal.returns-clause-fits
returns-clause-fits c me r may = calls_begin mend_parts mend_plan mend_laws (mending me) r refl refl (mend_begin me r may)

pub returns-clause-again : goal.returns-clause-again
returns-clause-again c me r geometry who = record { geometry = geometry; who = who; recoverer = recovers-entered Recoverer r }
