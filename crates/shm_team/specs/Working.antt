-- the agents of a script that work at a post
use Rattle.std.specs.Prelude.{◌≡◌}
use Rattle.shm_agents.specs.Agents.{Playing, AgentsStand}
use Rattle.shm_pool.specs.{Posts.IsPosted, Tokens.Token}
use Rattle.shm_script.specs.Values.{Scripted}

-- they began as x with the token t, and stand as y at the post u
pub record AreAtWork (s : Scripted) (t : Token) (x : Playing) (u : Token) (y : Playing) : Type 0 where
  pub of : u.of ≡ t.of
  pub posted : IsPosted u x.me.who
  pub me : y.me ≡ x.me
  pub script : y.script ≡ x.script
  pub stands : AgentsStand t.of.start s y u.account
