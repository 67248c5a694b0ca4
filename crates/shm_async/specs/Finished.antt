-- what is given where no agent of a script is left
use Rattle.shm_pool.specs.Tokens.{Its}
use Rattle.shm_script.specs.Values.{Scripted}
use Rattle.shm_team.specs.{declared.done.Finish.Finish, Dones.IsFinished}

-- the agents of the script s have nothing left to do in the pool p, and this is the log of its client and the token
abbrev pub HasFinished : Its → Scripted → Finish → Type 0
HasFinished p s x = IsFinished p s x.log x.token
