use Rattle.shm_async.proofs.{Gathering.{fewer_left, site_some, still_left}, Giving.{may_give, may_still}}
use Rattle.shm_async.proofs.members.run_out.Goals as goal

pub turns-init : goal.turns-init
turns-init g c = record { left = c.requires; gives = λ x h. h }

pub turns-preserved : goal.turns-preserved
turns-preserved g c =
    let at = c.turns.invariant in
    record {
      left = still_left c.turns.future c.advance.new.self at.left c.in-None.ensures;
      gives = λ x h. at.gives x (may_still c.turns.future c.advance.new.self x c.in-None.ensures h);
    }

pub turns-smaller : goal.turns-smaller
turns-smaller g c =
    let (w, is) = site_some c.turns.future.site c.turns.invariant.left in
    fewer_left c.turns.future c.advance.new.self w is c.in-None.ensures

pub returns-in-Some : goal.returns-in-Some
returns-in-Some g c = c.turns.invariant.gives c.in-Some.finish (may_give c.turns.future c.advance.new.self c.in-Some.finish c.in-Some.ensures)
