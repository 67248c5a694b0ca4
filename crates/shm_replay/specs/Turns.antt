-- the turns of a pool: which word step an identity makes is told by its script and by what the pool accounts for of it
use Rattle.std.specs.Prelude.{ℕ, zero, suc, ◌==◌, ◌&&◌, Bool, Option, Some, None, List, [], ◌∷◌, replicate}
use Rattle.std.specs.Option.{is_some}
use Rattle.shm_graph.specs.Runs.{account_at}
use Rattle.shm_count.specs.Roots.{member}
use Rattle.shm_plain.specs.Pools.{Pool, after_fall, readied, turn_on, turned}
use Rattle.shm_script.specs.Values.{Scripted, Traced}
use Rattle.shm_agents.specs.{Turns.{agent_of, answered_of, life_of, next_by, script_in}, Work.{Work, work_control}}

-- what an identity has to do next; none where it has no script, or none of its agents has anything left to do
abbrev pub next_work : Pool → ℕ → Option Scripted → Option Work
next_work p c None = None
next_work p c (Some s) = next_by (member p.start.geometry c) s (account_at p.accounts c)

abbrev pub next_of : Traced → Pool → ℕ → Option Work
next_of t p c = next_work p c (script_in t.scripts c)

-- the word steps that its agent has left for that
abbrev pub life_in : Pool → ℕ → Option Scripted → ℕ
life_in p c None = 0
life_in p c (Some s) = life_of s (account_at p.accounts c).memo

-- whether an agent of the identity has something to do, and whether that is its client
abbrev pub is_busy : Traced → Pool → ℕ → Bool
is_busy t p c = is_some (next_of t p c)

abbrev pub is_client_busy : Traced → Pool → ℕ → Bool
is_client_busy t p c = is_busy t p c && (agent_of (account_at p.accounts c).memo == 0)

-- the pool after the turn of an identity whose agent has this work to do, and so many word steps left: one word step, or where none is left its death; where it has nothing to do nothing changes
abbrev pub worked : Option Work → ℕ → ℕ → Pool → Pool
worked None life c p = p
worked (Some m) zero c p = after_fall p c
worked (Some m) (suc life) c p = turned (readied p c) (turn_on (readied p c) work_control m)

-- the pool after turns of these identities, one after the other
abbrev pub given : Traced → Pool → List ℕ → Pool
given t p [] = p
given t p (c ∷ cs) = given t (worked (next_of t p c) (life_in p c (script_in t.scripts c)) c p) cs

-- after n turns of one identity
abbrev pub in_a_row : Traced → Pool → ℕ → ℕ → Pool
in_a_row t p c n = given t p (replicate n c)

-- ---- answers

-- how many commands of an identity's client have answered, while it acts
abbrev pub answered : Traced → Pool → ℕ → ℕ
answered t p c = answered_of (script_in t.scripts c) (account_at p.accounts c)
