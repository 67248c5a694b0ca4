use Rattle.shm_async.proofs.Making.{post_stand}
use Rattle.shm_async.proofs.identity.CourseFuture.of.Goals as goal

pub invariant_of-result : goal.invariant_of-result
invariant_of-result g c = (
  c.requires.turns,
  (
    post_stand c.args.token c.new-post.result c.args.script.now c.args.agents c.requires.me c.requires.stands c.new-post.ensures.same c.new-post.ensures.posted,
    c.requires.here,
  ),
)
