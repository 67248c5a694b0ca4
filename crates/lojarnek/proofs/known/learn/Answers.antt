use Rattle.std.proofs.Common.{◌≡◌, ℕ, ◌∙◌, refl, subst, arith}
use Rattle.lojarnek.proofs.{Comes.same_self, Learning.{IsLearning, learnt_all, learnt_died, learnt_one}}
use Rattle.lojarnek.proofs.known.learn.Goals as goal

pub loop-k-init : goal.loop-k-init
loop-k-init c = record { same = same_self _; at = c.requires.at; memo = refl; known = λ j low. absurd (omega arith) }

pub root_of-requires-clause-pool : goal.root_of-requires-clause-pool
root_of-requires-clause-pool c = c.loop-k.invariant.same.of ∙ c.requires.pool

pub root_of-requires-clause-between : goal.root_of-requires-clause-between
root_of-requires-clause-between c = λ alive. c.loop-k.invariant.at.ready.rests.between alive

pub loop-k-preserved : goal.loop-k-preserved
loop-k-preserved c =
    learnt_one _ _ c.loop-k.token c.root_of.new.self c.loop-k.life.left c.root_of.new.life.left c.loop-k.roots.named c.set.new.self.named c.loop-k.k c.in-Done.block c.loop-k.invariant c.in-Done.ensures.called c.set.ensures.at c.set.ensures.others

pub returns-in-Died : goal.returns-in-Died
returns-in-Died c = learnt_died _ _ c.loop-k.token c.root_of.new.self c.loop-k.life.left c.root_of.new.life.left c.loop-k.roots.named c.loop-k.k c.loop-k.invariant c.in-Died.ensures.called

pub returns : goal.returns
returns c =
    let e : c.loop-k.k ≡ 16 = omega arith in
    learnt_all _ _ c.loop-k.token c.loop-k.life.left c.loop-k.roots.named (subst (λ (k : ℕ). IsLearning c.args.token.now c.args.life.now.left c.loop-k.token c.loop-k.life.left c.loop-k.roots.named k) e c.loop-k.invariant)
