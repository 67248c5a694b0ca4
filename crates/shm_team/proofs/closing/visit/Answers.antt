use Rattle.std.proofs.Common.{sym, subst}
use Rattle.shm_graph.specs.Runs.{account_died}
use Rattle.shm_team.specs.{declared.left.Left.Left, Lefts.{account_in, is_corpse}, Visits.IsVisited}
use Rattle.shm_team.proofs.Visiting.{visited_corpse, visited_vacant}
use Rattle.shm_team.proofs.closing.visit.Goals as goal

pub returns-in-Vacant-clause-visited : goal.returns-in-Vacant-clause-visited
returns-in-Vacant-clause-visited g c =
    let f = c.enter.result.account in
    let h = c.enter.ensures in
    subst (λ (l : Left). IsVisited (is_corpse l) (account_in l) f) (sym c.in-Vacant.is) (visited_vacant c.in-Vacant.token.account f (rw c.in-Vacant.is at c.requires.left).1 h.ran h.stayed h.of.1 h.gone)

pub returns-in-Corpse-clause-visited : goal.returns-in-Corpse-clause-visited
returns-in-Corpse-clause-visited g c =
    let f = c.enter-in-Corpse.result.account in
    let h = c.enter-in-Corpse.ensures in
    let r = c.recover-token.ensures in
    subst (λ (l : Left). IsVisited (is_corpse l) (account_in l) f) (sym c.in-Corpse.is)
    (visited_corpse (account_died c.in-Corpse.corpse.account) c.recover-token.result.account f r.ran h.ran r.stayed h.stayed r.of.1 h.of.1 h.gone)
