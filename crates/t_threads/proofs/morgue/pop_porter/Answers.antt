use Rattle.std.proofs.Common.{◌≡◌, subst}
use Rattle.std.specs.List.{AllByRecursion}
use Rattle.shm_morgue.specs.Entries.{Puts}
use Rattle.t_threads.proofs.Popping.{one_popped}
use Rattle.t_threads.proofs.morgue.pop_porter.Goals as goal

pub returns-clause-rest : goal.returns-clause-rest
returns-clause-rest g c = (one_popped (λ (p : Puts). p.of ≡ c.args.morgue.now) c.pop.new.self.items c.pop.result (subst (AllByRecursion (λ (p : Puts). p.of ≡ c.args.morgue.now)) c.pop.ensures.items c.requires)).0

pub returns-clause-of : goal.returns-clause-of
returns-clause-of g c = (one_popped (λ (p : Puts). p.of ≡ c.args.morgue.now) c.pop.new.self.items c.pop.result (subst (AllByRecursion (λ (p : Puts). p.of ≡ c.args.morgue.now)) c.pop.ensures.items c.requires)).1
