use Rattle.std.specs.Prelude.{◌≢◌, None}
use Rattle.shm_team.specs.declared.done.Finish.{Finish}
use Rattle.shm_async.specs.Polled.{MayGive}
use Rattle.shm_async.proofs.Gathering.{turns_site}
use Rattle.shm_async.proofs.members.run_out.Given as goal

abbrev pub invariant-turns : goal.invariant-turns
invariant-turns g l = record {
  left : l.future.site ≢ None;
  gives : (x : Finish) → MayGive l.future x → MayGive l.initial.future x;
}

abbrev pub decreases-turns : goal.decreases-turns
decreases-turns g l = turns_site l.future.script l.future.site
