-- the visit of an identity in a closing
use Rattle.std.specs.{Prelude.{◌≡◌, ℕ, Bool, true, false, Option, List, [], ◌∷◌, ◌++◌}, List.AllByRecursion}
use Rattle.shm_graph.specs.declared.memo.{Agent.Agent, Fate.{Fate, TheVariants.Ended}, Kind.Kind}
use Rattle.shm_graph.specs.declared.memo.{Kind.TheVariants.{Client, Recoverer}, Status.TheVariants.Gone, Memo.Memo}
use Rattle.shm_graph.specs.declared.run.{Account.Account, LoggedLine.LoggedLine, Move.Move}
use Rattle.shm_graph.specs.Runs.{account_along, account_by, told_left}
use Rattle.shm_queue.specs.Drain.Control.{drain_line}
use Rattle.shm_recover.specs.{Join.join_line, Leave.Control.leave_line, Recover.Control.recover_line}
use Rattle.shm_pool.specs.Tokens.{Its, Token}
use Rattle.shm_agents.specs.Courses.{IsAside}
use Rattle.shm_replay.specs.Closings.{SameTable}
use Rattle.shm_script.specs.Logged.{Logged}
use Rattle.shm_team.specs.{declared.done.Done.Done, Lefts.{account_in, is_corpse}}

-- each of these lines is a join's, a drain's, a leaving's or a recovery's
abbrev pub AreAside : List LoggedLine → Type 0
AreAside = AllByRecursion (λ (x : LoggedLine). IsAside x.line)

-- at each account on the way of these turns the map of the table is that of m
abbrev pub AreStill : Memo → Account → List Move → Type 0
AreStill m e [] = Unit {0}
AreStill m e (t ∷ ts) = SameTable m (account_by e t).memo × AreStill m (account_by e t) ts

-- f is what further turns of its identity made of e, which left the map of the table as it was
pub record HasStayed (e f : Account) : Type 0 where
  pub turns : List Move
  pub grew : f.turns ≡ e.turns ++ turns
  pub made : f ≡ account_along e turns
  pub still : AreStill e.memo e turns

-- One agent of this kind began behind those of e, and began these lines, one after the other, each of which it finished. What was told behind what had been told before, and behind what was left of a dead agent, is aside of commands; and the map of the table is what it was
pub record HasRun (kind : Kind) (lines : List (List ℕ)) (fate : Fate) (e f : Account) : Type 0 where
  pub steps : ℕ
  pub agents : f.memo.agents ≡ e.memo.agents ++ record { kind = kind; steps = steps; fate = fate } ∷ []
  pub begun : f.begun ≡ e.begun ++ lines ∷ []
  pub more : List LoggedLine
  pub told : f.told ≡ told_left true e ++ more
  pub aside : AreAside more
  pub rests : f.running ≡ []
  pub table : SameTable e.memo f.memo

-- the agents of a visit, and what each of them began: where the last agent had died a recoverer, and then a client, which joined, took all that waited for it, and left; each of them ended
abbrev pub AreClosers : Bool → List Agent → List (List (List ℕ)) → Type 0
AreClosers true (a ∷ others) (b ∷ bs) = (a.kind ≡ Recoverer) × (a.fate ≡ Ended) × (b ≡ recover_line ∷ []) × AreClosers false others bs
AreClosers false (a ∷ []) (b ∷ []) = (a.kind ≡ Client) × (a.fate ≡ Ended) × (b ≡ join_line ∷ drain_line ∷ leave_line ∷ [])
AreClosers dead others bs = ⊥

-- The identity was visited: its agents are those of e and behind them those of a visit; what was told behind what had been told before, and behind a death what was left of the dead agent, is aside of commands; the identity is gone, and the turns of the visit left the map of its table as it was
pub record IsVisited (dead : Bool) (e f : Account) : Type 0 where
  pub who : f.who ≡ e.who
  pub others : List Agent
  pub lines : List (List (List ℕ))
  pub closers : AreClosers dead others lines
  pub agents : f.memo.agents ≡ e.memo.agents ++ others
  pub begun : f.begun ≡ e.begun ++ lines
  pub more : List LoggedLine
  pub told : f.told ≡ told_left dead e ++ more
  pub aside : AreAside more
  pub gone : f.memo.status ≡ Gone
  pub table : SameTable e.memo f.memo
  pub stayed : HasStayed e f

-- all of them, in order: the logs as they were given, and the tokens of the identities that were visited
abbrev pub AreVisits : Its → List Done → List (Option Logged) → List Token → Type 0
AreVisits p [] [] [] = Unit {0}
AreVisits p (d ∷ ds) (l ∷ ls) (t ∷ ts) = (l ≡ d.log) × (t.of ≡ p) × IsVisited (is_corpse d.left) (account_in d.left) t.account × AreVisits p ds ls ts
AreVisits p ds ls ts = ⊥
