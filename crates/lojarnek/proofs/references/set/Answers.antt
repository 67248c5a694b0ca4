use Rattle.std.proofs.Common.{ℕ, ◌∙◌, subst}
use Rattle.shm_pool.specs.declared.reply.Reply.TheVariants.{Done}
use Rattle.lojarnek.specs.{Setting.HasHeld, Standing.acts_of}
use Rattle.lojarnek.proofs.Setting.{ended_came, ended_then, give_died, held_own, named_then, set_came, unset_came, unset_other}
use Rattle.lojarnek.proofs.references.set.Goals as goal

pub returns-in_default : goal.returns-in_default
returns-in_default c = λ bs knows. ended_came _ _ _ _ bs c.in_default.ensures

pub set_held-requires-clause-pool : goal.set_held-requires-clause-pool
set_held-requires-clause-pool c = c.in-Done.ensures.0.of ∙ c.requires.pool

pub set_held-requires-clause-held : goal.set_held-requires-clause-held
set_held-requires-clause-held c =
    held_own (acts_of c.args.token.now c.args.life.now.left) (acts_of c.take.new.token c.take.new.life.left)
    (subst (λ (w : ℕ). HasHeld w (acts_of c.args.token.now c.args.life.now.left) (acts_of c.take.new.token c.take.new.life.left) (Done tt)) c.client-own.ensures.is c.in-Done.ensures)

pub set_held-requires-clause-block : goal.set_held-requires-clause-block
set_held-requires-clause-block c =
    named_then (acts_of c.args.token.now c.args.life.now.left) (acts_of c.take.new.token c.take.new.life.left) c.args.block c.in-Done.ensures.2 c.requires.block

pub set_held-requires-clause-to : goal.set_held-requires-clause-to
set_held-requires-clause-to c = λ some.
    named_then (acts_of c.args.token.now c.args.life.now.left) (acts_of c.take.new.token c.take.new.life.left) c.args.to c.in-Done.ensures.2 (c.requires.to some)

pub returns-in_default-set_held : goal.returns-in_default-set_held
returns-in_default-set_held c = λ bs knows.
    ended_came _ _ _ _ bs (ended_then (acts_of c.args.token.now c.args.life.now.left) (acts_of c.take.new.token c.take.new.life.left) (acts_of c.set_held.new.token c.set_held.new.life.left) c.in-Done.ensures.0 c.in_default-set_held.ensures)

pub give-requires-clause-pool : goal.give-requires-clause-pool
give-requires-clause-pool c = c.in-Done-set_held.ensures.0.of ∙ (c.in-Done.ensures.0.of ∙ c.requires.pool)

pub give-requires-clause-held : goal.give-requires-clause-held
give-requires-clause-held c = (c.take.new.token.account.who, c.in-Done-set_held.ensures.1)

pub returns-in-Died : goal.returns-in-Died
returns-in-Died c = λ bs knows.
    rw c.is_ok-done.ensures.value (
    give_died (acts_of c.args.token.now c.args.life.now.left) (acts_of c.take.new.token c.take.new.life.left) (acts_of c.set_held.new.token c.set_held.new.life.left) (acts_of c.give.new.token c.give.new.life.left)
    bs c.args.block c.args.word c.args.to c.requires.at knows c.requires.block
    (subst (λ (w : ℕ). HasHeld w (acts_of c.args.token.now c.args.life.now.left) (acts_of c.take.new.token c.take.new.life.left) (Done tt)) c.client-own.ensures.is c.in-Done.ensures)
    c.in-Done-set_held.answer c.in-Done-set_held.ensures c.in-Died.ensures
    )

pub set_error-requires : goal.set_error-requires
set_error-requires c = let h = rw c.in-Err.is at c.in-Done-set_held.ensures in unset_other c.take.new.token.account.who c.args.word c.args.to c.in-Err.fault h.3

pub returns-in-Ok : goal.returns-in-Ok
returns-in-Ok c = λ bs knows.
    set_came (acts_of c.args.token.now c.args.life.now.left) (acts_of c.take.new.token c.take.new.life.left) (acts_of c.set_held.new.token c.set_held.new.life.left) (acts_of c.give.new.token c.give.new.life.left)
    bs c.args.block c.args.word c.args.to c.requires.at knows c.requires.block
    (subst (λ (w : ℕ). HasHeld w (acts_of c.args.token.now c.args.life.now.left) (acts_of c.take.new.token c.take.new.life.left) (Done tt)) c.client-own.ensures.is c.in-Done.ensures)
    tt (rw c.in-Ok.is at c.in-Done-set_held.ensures) c.in_default-give.ensures

pub returns-in-Err : goal.returns-in-Err
returns-in-Err c = λ bs knows.
    rw c.set_error.ensures (
    unset_came (acts_of c.args.token.now c.args.life.now.left) (acts_of c.take.new.token c.take.new.life.left) (acts_of c.set_held.new.token c.set_held.new.life.left) (acts_of c.give.new.token c.give.new.life.left)
    bs c.args.block c.args.word c.args.to c.requires.at knows c.requires.block
    (subst (λ (w : ℕ). HasHeld w (acts_of c.args.token.now c.args.life.now.left) (acts_of c.take.new.token c.take.new.life.left) (Done tt)) c.client-own.ensures.is c.in-Done.ensures)
    c.in-Err.fault (rw c.in-Err.is at c.in-Done-set_held.ensures) c.in_default-give.ensures
    )
