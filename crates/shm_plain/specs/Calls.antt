-- calls on a pool: machines of one identity that are stepped until they answer, or until no word step is left
use Rattle.std.specs.{Prelude.{◌≡◌, ◌≢◌, ℕ, ◌+◌, ◌<◌, Bool, true, false, List, [], ◌∷◌, ◌++◌, length}, List.filter}
use Rattle.shm_words.specs.Layout.{GeometryFits}
use Rattle.shm_graph.specs.declared.{memo.{Status.TheVariants.Gone, Step.Step}, run.Move.Move}
use Rattle.shm_graph.specs.declared.run.Move.TheVariants.{Word, Dies, Begins}
use Rattle.shm_graph.specs.{Agents.{acts, last_agent, recovers, steps_made}, Asks.{Trail, call_before}}
use Rattle.shm_graph.specs.{CallEvents.events_in, Events.Event, Idle.IsIdle, Laws.Control, Runs.{State, fell_by, state}}
use Rattle.shm_graph.specs.Tells.{GoesOn, is_event, machine_steps}
use Rattle.shm_plain.specs.Pools.{Pool, IsRun, MayStep, memo_of, readied}

-- the words and accounts of a pool
abbrev pub state_of : Pool → State
state_of p = state p.words p.accounts

-- c is one of the pool, and between two calls, and an agent of it acts, a client or a recoverer
pub record IsAtWork (c : ℕ) (p : Pool) : Type 0 where
  pub geometry : GeometryFits p.start.geometry
  pub who : c < p.start.geometry.clients
  pub idle : IsIdle c (memo_of p c)
  pub acts : acts (memo_of p c) ≡ true

-- ---- turns

-- word steps as turns
abbrev pub words : List Step → List Move
words [] = []
words (t ∷ ts) = Word t ∷ words ts

-- the turns are word steps of c, and beginnings of its agents
abbrev pub AreOf : ℕ → List Move → Type 0
AreOf c [] = Unit {0}
AreOf c (Word t ∷ ms) = (t.me.who ≡ c) × AreOf c ms
AreOf c (Begins d k ∷ ms) = (d ≡ c) × AreOf c ms
AreOf c (Dies d ∷ ms) = ⊥

-- The pool p grew to q by turns of c alone, and these are the events among them that change the graph
pub record Did (c : ℕ) (p q : Pool) (es : List Event) : Type 0 where
  pub turns : List Move
  pub grew : q.turns ≡ p.turns ++ turns
  pub own : AreOf c turns
  pub events : filter is_event (events_in p.start.geometry c (state_of p) turns) ≡ es

-- The pool p, in which an agent of c acts, grew to q by the steps of the machine m as it asked for this trail, and nothing else
pub record TookSteps {M A : Type 0} (k : Control M A) (c : ℕ) (p : Pool) (m : M) (q : Pool) : Type 0 where
  pub trail : Trail
  pub grew : q.turns ≡ (readied p c).turns ++ words (machine_steps k m trail)
  pub goes : GoesOn k m trail
  pub call : (memo_of q c).call ≡ call_before (k.fresh m) (memo_of (readied p c) c).call ++ trail

-- ---- what is left

-- What a call of c leaves of the pool p with x word steps left: the pool q with y left. All is as it was but for c, and an agent of c may step again. Where it did not answer and a word step was left, its agent acts still, in the midst of the call; where none was left nothing was done. Where it answered, its agent acts, and where it left the status gone the agent has ended; it is of the kind that it was of; and the call is over. Where the machine was `fresh`, of some word steps as many went as there are pairs in the call, answered or cut off. Each word step of life that went was one of the agents of c
pub record Ran (c : ℕ) (fresh answered : Bool) (p q : Pool) (x y : ℕ) : Type 0 where
  pub start : q.start ≡ p.start
  pub others : (d : ℕ) → d ≢ c → memo_of q d ≡ memo_of p d
  pub may : MayStep q c
  pub run : IsRun q
  pub did : (es : List Event) × Did c p q es
  pub cut : answered ≡ false → 0 < x → acts (memo_of q c) ≡ true
  pub within : answered ≡ false → 0 < x → (memo_of q c).over ≡ false
  pub still : answered ≡ false → x ≡ 0 → q ≡ p
  pub gone : answered ≡ true → (memo_of q c).status ≡ Gone → (acts (memo_of q c) ≡ false) × (fell_by (last_agent (memo_of q c).agents) ≡ false)
  pub acts : answered ≡ true → (memo_of q c).status ≢ Gone → acts (memo_of q c) ≡ true
  pub kind : answered ≡ true → recovers (memo_of q c) ≡ recovers (memo_of (readied p c) c)
  pub spent : 0 < x → fresh ≡ true → y + length (memo_of q c).call ≡ x
  pub made : y + steps_made (memo_of q c) ≡ x + steps_made (memo_of p c)
  pub some : answered ≡ true → 0 < x
  pub less : answered ≡ true → y < x
  pub died : answered ≡ false → y ≡ 0
  pub over : answered ≡ true → (memo_of q c).over ≡ true
