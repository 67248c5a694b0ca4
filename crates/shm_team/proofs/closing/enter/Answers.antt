use Rattle.shm_team.proofs.Staying.{stayed_then}
use Rattle.shm_team.proofs.closing.enter.Goals as goal

pub returns-clause-stayed : goal.returns-clause-stayed
returns-clause-stayed g c =
    let e = c.args.token.account in
    let in_it = c.join-client.result.account in
    let drained = c.drain.new.client.account in
    stayed_then e in_it c.leave.result.account c.join-client.ensures.stayed (stayed_then in_it drained c.leave.result.account c.drain.ensures.stayed c.leave.ensures.stayed)
