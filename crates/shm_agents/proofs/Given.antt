-- the turns that were given to the agents of an identity: a word step is one more, and so is a death
use Rattle.std.proofs.Common.{◌≡◌, ℕ, ◌+◌, Bool, true, false, cond, List, [], ◌∷◌, ◌++◌, refl, sym, ap, ◌∙◌, subst, arith}
use Rattle.std.proofs.lemmas.Bool.{true≢false}
use Rattle.std.specs.Prelude.{Option, Some}
use Rattle.shm_graph.specs.declared.memo.{Agent.Agent, Fate.{Fate, TheVariants.{Acts, Ended, Died}}, Kind.Kind}
use Rattle.shm_graph.specs.declared.{memo.{Memo.Memo, Step.Step}, run.Account.Account}
use Rattle.shm_graph.specs.Agents.{acts, acts_by, ended, entered, fallen, is_acting, last_agent, stepped, with_last}
use Rattle.shm_graph.specs.{Changes.asked_spot, Runs.{account_after, account_died, account_entered, is_dead}}
use Rattle.shm_graph.proofs.Memos.MemoSteps.{acts-entered, agents_after, ends_agent, steps_died, steps_entered, steps_on}
use Rattle.shm_plain.specs.{Tracks.kind_next, Working.ready_account}
use Rattle.shm_agents.specs.TurnsLeft.{deaths, turns_given}

-- an agent that acts isn't dead
alive : (f : Fate) → is_acting f ≡ true → is_dead f ≡ false
alive Acts h = refl
alive Ended h = absurd (true≢false (sym h))
alive Died h = absurd (true≢false (sym h))

-- ---- deaths

deaths_stepped : (xs : List Agent) → deaths (with_last stepped xs) ≡ deaths xs
deaths_stepped [] = refl
deaths_stepped (a ∷ []) = refl
deaths_stepped (a ∷ b ∷ xs) = ap (λ (n : ℕ). cond (is_dead a.fate) 1 0 + n) (deaths_stepped (b ∷ xs))

deaths_ended : (xs : List Agent) → acts_by (last_agent xs) ≡ true → deaths (with_last ended (with_last stepped xs)) ≡ deaths xs
deaths_ended [] h = refl
deaths_ended (a ∷ []) h = ap (λ (b : Bool). cond b 1 0 + 0) (sym (alive a.fate h))
deaths_ended (a ∷ b ∷ []) h = ap (λ (n : ℕ). cond (is_dead a.fate) 1 0 + n) (deaths_ended (b ∷ []) h)
deaths_ended (a ∷ b ∷ d ∷ xs) h = ap (λ (n : ℕ). cond (is_dead a.fate) 1 0 + n) (deaths_ended (b ∷ d ∷ xs) h)

deaths_fallen : (xs : List Agent) → acts_by (last_agent xs) ≡ true → deaths (with_last fallen xs) ≡ deaths xs + 1
deaths_fallen [] h = absurd (true≢false (sym h))
deaths_fallen (a ∷ []) h = ap (λ (b : Bool). cond b 1 0 + 0 + 1) (sym (alive a.fate h))
deaths_fallen (a ∷ b ∷ xs) h = let more = deaths_fallen (b ∷ xs) h in omega arith

deaths_entered : (xs : List Agent) (k : Kind) → deaths (xs ++ record { kind = k; steps = 0; fate = Acts } ∷ []) ≡ deaths xs
deaths_entered [] k = refl
deaths_entered (a ∷ xs) k = ap (λ (n : ℕ). cond (is_dead a.fate) 1 0 + n) (deaths_entered xs k)

-- ---- accounts

-- the death of the agent that acts
pub given_died : (e : Account) → acts e.memo ≡ true → turns_given (account_died e) ≡ turns_given e + 1
given_died e h = let more = deaths_fallen e.memo.agents h in let same = steps_died e.memo in omega arith

-- the beginning of one
pub given_ready : (e : Account) → turns_given (ready_account e) ≡ turns_given e
given_ready e = go (acts e.memo)
  where
    go : (b : Bool) → turns_given (cond b e (account_entered (kind_next e.memo) e)) ≡ turns_given e
    go true = refl
    go false = let same = steps_entered (kind_next e.memo) e.memo in let none = deaths_entered e.memo.agents (kind_next e.memo) in omega arith

acts_ready : (e : Account) → acts (ready_account e).memo ≡ true
acts_ready e = go (acts e.memo) refl
  where
    go : (b : Bool) → acts e.memo ≡ b → acts (cond b e (account_entered (kind_next e.memo) e)).memo ≡ true
    go true h = h
    go false h = acts-entered (kind_next e.memo) e.memo

-- a word step of the agent that acts
given_step : (e : Account) (t : Step) → acts e.memo ≡ true → turns_given (account_after e t) ≡ turns_given e + 1
given_step e t h =
    let one = steps_on e.memo t (asked_spot e.memo t) h in
    let same : deaths (account_after e t).memo.agents ≡ deaths e.memo.agents = go (ends_agent e.memo t (asked_spot e.memo t)) in
    omega arith
  where
    go : (b : Bool) → deaths (agents_after b e.memo.agents) ≡ deaths e.memo.agents
    go true = deaths_ended e.memo.agents h
    go false = deaths_stepped e.memo.agents

-- and one before which an agent has begun where none acted
pub given_worked : (e e2 : Account) (t : Step) → e2 ≡ account_after (ready_account e) t → turns_given e2 ≡ turns_given e + 1
given_worked e e2 t is = ap turns_given is ∙ (given_step (ready_account e) t (acts_ready e) ∙ ap (λ (n : ℕ). n + 1) (given_ready e))
