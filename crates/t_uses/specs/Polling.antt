-- clients that are polled and given up, and what becomes of their identities
use Rattle.std.specs.Prelude.{◌≡◌, ℕ, ◌^◌, ◌<◌, ◌⊎◌, true}
use Rattle.shm_words.specs.declared.geometry.Geometry.{Geometry}
use Rattle.shm_graph.specs.declared.{memo.Status.TheVariants.Gone, run.Account.Account}
use Rattle.shm_script.specs.{Logged.Logged, Values.Scripted}
use Rattle.shm_agents.specs.TurnsLeft.{turns_given}
use Rattle.shm_pool.specs.Tokens.{End, Its, Token, token_first}
use Rattle.shm_team.specs.declared.done.Finish.{Finish}
use Rattle.shm_async.specs.{Cancelled.HasCancelled, Finished.HasFinished}

-- a token as a pool for tables was made with it, whose eras have room
pub record IsFirstOf (p : Its) (t : Token) : Type 0 where
  pub first : t ≡ token_first p t.account.who
  pub tables : p.start.tables ≡ true
  pub era : p.start.first_era < 2 ^ 46

-- the agents of the script s were given up in the pool p after so many turns, each a word step or a death: the log fits the script at that cut, and the identity's map is its fold
pub record IsCutAfter (p : Its) (s : Scripted) (turns : ℕ) (x : Finish) : Type 0 where
  pub account : Account
  pub given : turns_given account ≡ turns
  pub cut : HasCancelled p s account x

-- all is done of the script s, or its agents were given up after so many turns
abbrev pub HasPlayed : Its → Scripted → ℕ → Finish → Type 0
HasPlayed p s turns x = HasFinished p s x ⊎ IsCutAfter p s turns x

-- the token is of this pool, and its identity is gone
abbrev pub IsGone : Its → Token → Type 0
IsGone p t = (t.of ≡ p) × (t.account.memo.status ≡ Gone)

-- what came of the script s in a pool of these sizes that was closed: this log, of a client that was done, or was given up after so many turns
pub record HasCome (g : Geometry) (s : Scripted) (turns : ℕ) (l : Logged) (e : End) : Type 0 where
  pub pool : Its
  pub start : pool.start ≡ record { geometry = g; first_era = 1; tables = true }
  pub finish : Finish
  pub log : l ≡ finish.log
  pub played : HasPlayed pool s turns finish
  pub closed : e.start ≡ pool.start
