-- what a word step, a death and a beginning leave of a memo's call and of its agents
use Rattle.std.proofs.Common.{◌≡◌, ◌≢◌, ◌+◌, arith, ◌++◌, ◌∷◌, [], refl, sym, ap, ◌∙◌, true, false, Bool, cond, ◌&&◌, List}
use Rattle.std.proofs.lemmas.Bool.{true≢false}
use Rattle.std.specs.Prelude.{Option, Some, None}
use Rattle.shm_graph.specs.declared.{spot.Spot.Spot, memo.{Status.{Status as AStatus, TheVariants.Gone}, Agent.Agent}}
use Rattle.shm_graph.specs.{declared.memo.{Kind.Kind, Memo.Memo, Step.Step}, Asks.call_after}
use Rattle.shm_graph.specs.Agents.{last_agent, with_last, acts_by, acts, recovers_by, recovers, is_recoverer, stepped, ended, fallen, died, entered, is_gone, steps_made, steps_of}
use Rattle.shm_graph.specs.{Changes.{called, memo_on}, Runs.fell_by}

-- ---- the call

pub memo_call : (m : Memo) (t : Step) (p : Spot) → (memo_on m t p).call ≡ call_after t.fresh m.call t.ask t.seen
memo_call m t p = refl

pub memo_over : (m : Memo) (t : Step) (p : Spot) → (memo_on m t p).over ≡ t.ends
memo_over m t p = refl

-- ---- the agents

-- the agents after a step, which has ended the agent or not
abbrev pub agents_after : Bool → List Agent → List Agent
agents_after gone xs = cond gone (with_last ended (with_last stepped xs)) (with_last stepped xs)

-- whether the step ends the agent
abbrev pub ends_agent : Memo → Step → Spot → Bool
ends_agent m t p = is_gone (memo_on m t p).status && t.ends

pub memo_agents : (m : Memo) (t : Step) (p : Spot) → (memo_on m t p).agents ≡ agents_after (ends_agent m t p) m.agents
memo_agents m t p = refl

-- the last of changed agents
abbrev pub with_some : (Agent → Agent) → Option Agent → Option Agent
with_some f None = None
with_some f (Some a) = Some (f a)

pub last-with_last : (f : Agent → Agent) (xs : List Agent) → last_agent (with_last f xs) ≡ with_some f (last_agent xs)
last-with_last f [] = refl
last-with_last f (a ∷ []) = refl
last-with_last f (a ∷ b ∷ []) = refl
last-with_last f (a ∷ b ∷ c ∷ others) = last-with_last f (b ∷ c ∷ others)

pub last-append : (xs : List Agent) (a : Agent) → last_agent (xs ++ a ∷ []) ≡ Some a
last-append [] a = refl
last-append (b ∷ []) a = refl
last-append (b ∷ c ∷ others) a = last-append (c ∷ others) a

acts_stepped : (o : Option Agent) → acts_by (with_some stepped o) ≡ acts_by o
acts_stepped None = refl
acts_stepped (Some a) = refl

acts_ended : (o : Option Agent) → acts_by (with_some ended o) ≡ false
acts_ended None = refl
acts_ended (Some a) = refl

acts_fallen : (o : Option Agent) → acts_by (with_some fallen o) ≡ false
acts_fallen None = refl
acts_fallen (Some a) = refl

-- an agent acts until a step ends its machine and leaves the status gone
pub acts_after : (m : Memo) (t : Step) (p : Spot) → acts (memo_on m t p) ≡ cond (ends_agent m t p) false (acts m)
acts_after m t p = ap (λ xs. acts_by (last_agent xs)) (memo_agents m t p) ∙ go (ends_agent m t p)
  where
    go : (b : Bool) → acts_by (last_agent (agents_after b m.agents)) ≡ cond b false (acts m)
    go true = ap acts_by (last-with_last ended (with_last stepped m.agents)) ∙ acts_ended (last_agent (with_last stepped m.agents))
    go false = ap acts_by (last-with_last stepped m.agents) ∙ acts_stepped (last_agent m.agents)

not_gone : (s : AStatus) → s ≢ Gone → is_gone s ≡ false
not_gone Gone n = absurd (n refl)
not_gone _ n = refl

-- a step that doesn't end the machine, and one that leaves another status than gone
pub acts-on : (m : Memo) (t : Step) (p : Spot) → t.ends ≡ false → acts (memo_on m t p) ≡ acts m
acts-on m t p e = acts_after m t p ∙ (ap (λ b. cond (is_gone (memo_on m t p).status && b) false (acts m)) e ∙ go (is_gone (memo_on m t p).status))
  where
    go : (b : Bool) → cond (b && false) false (acts m) ≡ acts m
    go true = refl
    go false = refl

pub acts-here : (m : Memo) (t : Step) (p : Spot) → (memo_on m t p).status ≢ Gone → acts (memo_on m t p) ≡ acts m
acts-here m t p n = acts_after m t p ∙ ap (λ b. cond (b && t.ends) false (acts m)) (not_gone (memo_on m t p).status n)

pub acts-died : (m : Memo) → acts (died m) ≡ false
acts-died m = ap acts_by (last-with_last fallen m.agents) ∙ acts_fallen (last_agent m.agents)

pub fell-died : (m : Memo) → acts m ≡ true → fell_by (last_agent (died m).agents) ≡ true
fell-died m e = ap fell_by (last-with_last fallen m.agents) ∙ go (last_agent m.agents) e
  where
    go : (o : Option Agent) → acts_by o ≡ true → fell_by (with_some fallen o) ≡ true
    go None z = absurd (true≢false (sym z))
    go (Some a) z = refl

pub acts-entered : (k : Kind) (m : Memo) → acts (entered k m) ≡ true
acts-entered k m = ap acts_by (last-append m.agents _)

pub recovers-entered : (k : Kind) (m : Memo) → recovers (entered k m) ≡ is_recoverer k
recovers-entered k m = ap recovers_by (last-append m.agents _)

-- a step leaves its agent of the kind that it was of
recovers_with : (f : Agent → Agent) → ((a : Agent) → (f a).kind ≡ a.kind) → (o : Option Agent) → recovers_by (with_some f o) ≡ recovers_by o
recovers_with f same None = refl
recovers_with f same (Some a) = ap is_recoverer (same a)

pub recovers_called : (m : Memo) (t : Step) → recovers (called m t) ≡ recovers m
recovers_called m t = ap recovers_by (last-with_last stepped m.agents) ∙ recovers_with stepped (λ a. refl) (last_agent m.agents)

pub recovers_on : (m : Memo) (t : Step) (p : Spot) → recovers (memo_on m t p) ≡ recovers m
recovers_on m t p = ap (λ (xs : List Agent). recovers_by (last_agent xs)) (memo_agents m t p) ∙ by (ends_agent m t p)
  where
    by : (b : Bool) → recovers_by (last_agent (agents_after b m.agents)) ≡ recovers m
    by true = ap recovers_by (last-with_last ended (with_last stepped m.agents)) ∙ (recovers_with ended (λ a. refl) (last_agent (with_last stepped m.agents)) ∙ recovers_called m t)
    by false = recovers_called m t

-- ---- the steps that agents have made

-- a change of the last agent that leaves its steps
same_steps : (f : Agent → Agent) → ((a : Agent) → (f a).steps ≡ a.steps) → (xs : List Agent) → steps_of (with_last f xs) ≡ steps_of xs
same_steps f same [] = refl
same_steps f same (a ∷ []) = ap (λ n. n + 0) (same a)
same_steps f same (a ∷ b ∷ others) = ap (λ n. a.steps + n) (same_steps f same (b ∷ others))

-- one more step of the agent that acts
one_step : (xs : List Agent) → acts_by (last_agent xs) ≡ true → steps_of (with_last stepped xs) ≡ steps_of xs + 1
one_step [] e = absurd (true≢false (sym e))
one_step (a ∷ []) e = omega arith
one_step (a ∷ b ∷ others) e = let q = one_step (b ∷ others) e in omega arith

-- an agent begins that has made none
no_more : (xs : List Agent) (a : Agent) → a.steps ≡ 0 → steps_of (xs ++ a ∷ []) ≡ steps_of xs
no_more [] a e = ap (λ n. n + 0) e
no_more (b ∷ others) a e = ap (λ n. b.steps + n) (no_more others a e)

pub steps_on : (m : Memo) (t : Step) (p : Spot) → acts m ≡ true → steps_made (memo_on m t p) ≡ steps_made m + 1
steps_on m t p e = ap steps_of (memo_agents m t p) ∙ by (ends_agent m t p)
  where
    by : (b : Bool) → steps_of (agents_after b m.agents) ≡ steps_made m + 1
    by true = same_steps ended (λ a. refl) (with_last stepped m.agents) ∙ one_step m.agents e
    by false = one_step m.agents e

pub steps_died : (m : Memo) → steps_made (died m) ≡ steps_made m
steps_died m = same_steps fallen (λ a. refl) m.agents

pub steps_entered : (k : Kind) (m : Memo) → steps_made (entered k m) ≡ steps_made m
steps_entered k m = no_more m.agents _ refl
