use Rattle.std.proofs.Common.{Bool, sym, ap, ◌∙◌}
use Rattle.shm_pool.specs.{Rules.alone, Rescues.account_of}
use Rattle.shm_pool.proofs.rescue.note_start.Goals as goal

pub returns-then-begun-clause-account : goal.returns-then-begun-clause-account
returns-then-begun-clause-account c = sym (ap (λ (b : Bool). account_of b (alone c.args.place.now)) c.if-begun.true)

pub returns-clause-account : goal.returns-clause-account
returns-clause-account c = c.note_change.ensures.account ∙ sym (ap (λ (b : Bool). account_of b (alone c.args.place.now)) c.if-begun.false)
