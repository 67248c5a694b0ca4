use Rattle.std.proofs.Common.{refl}
use Rattle.shm_pool.specs.Tokens.{me_of, recovering_account}
use Rattle.shm_recover.specs.Leave.{Control.{leave_parts, leaving}, leave_plan}
use Rattle.shm_recover.specs.Recover.{Control.{recover_parts, recovering}, recover_plan}
use Rattle.shm_outcomes.proofs.{Turning.{end_so, spent_so}, Writing.allocated}
use Rattle.shm_outcomes.proofs.calls.effects_tell.Goals as goal

pub returns-clause-left : goal.returns-clause-left
returns-clause-left c = λ p e before left t h. end_so leave_parts leave_plan (leaving (me_of p e)) refl refl p e before left t h

pub returns-clause-not_left : goal.returns-clause-not_left
returns-clause-not_left c = λ p e before left era t h. spent_so leave_parts leave_plan (leaving (me_of p e)) refl refl p e before left era t h

pub returns-clause-recovered : goal.returns-clause-recovered
returns-clause-recovered c = λ p e before left t h. end_so recover_parts recover_plan (recovering (me_of p e)) refl refl p (recovering_account e) before left t h

pub returns-clause-not_recovered : goal.returns-clause-not_recovered
returns-clause-not_recovered c = λ p e before left era t h. spent_so recover_parts recover_plan (recovering (me_of p e)) refl refl p (recovering_account e) before left era t h

pub returns-clause-died : goal.returns-clause-died
returns-clause-died c = λ l t t' before left h alive. let cut = h.cut alive tt in (h.done.spent alive tt, cut.map, cut.sent)

pub returns-clause-allocated : goal.returns-clause-allocated
returns-clause-allocated c = λ n xs near t t' before left x h. allocated n xs near t t' before left x h
