-- what a whole call does to the agents of its identity
use Rattle.std.proofs.Common.{◌≡◌, ℕ, ◌+◌, Bool, true, false, ◌&&◌, cond, List, [], ◌∷◌, ◌++◌, refl, sym, ap, ◌∙◌, subst}
use Rattle.shm_graph.specs.declared.{memo.{Agent.Agent, Fate.TheVariants.Ended, Step.Step}, run.Account.Account}
use Rattle.shm_graph.specs.{Agents.{ended, is_gone, stepped, with_last}, Changes.asked_spot, Runs.account_after}
use Rattle.shm_graph.proofs.Memos.MemoSteps.{agents_after, memo_agents}
use Rattle.shm_agents.proofs.Growing.{with_last-end}
use Rattle.shm_pool.specs.Calls.{CallSteps, Ending, Going, Shown, accounts_by, fresh_after}

-- the agent a, which is the last one, has made so many word steps
abbrev at : Agent → ℕ → Agent
at a n = record { kind = a.kind; steps = n; fate = a.fate }

-- and has ended where its identity is gone
abbrev pub done : Agent → ℕ → Bool → Agent
done a n gone = record { kind = a.kind; steps = n; fate = cond gone Ended a.fate }

no_end : (b d : Bool) → d ≡ false → (b && d) ≡ false
no_end true d e = e
no_end false d e = refl

by_status : (b d : Bool) → d ≡ true → (b && d) ≡ b
by_status true d e = e
by_status false d e = refl

-- a step that isn't the last one of its machine
goes : (e : Account) (t : Step) (before : List Agent) (a : Agent) → t.ends ≡ false → e.memo.agents ≡ before ++ a ∷ [] → (account_after e t).memo.agents ≡ before ++ stepped a ∷ []
goes e t before a on is =
    memo_agents e.memo t (asked_spot e.memo t)
    ∙ (ap (λ (b : Bool). agents_after b e.memo.agents) (no_end (is_gone (account_after e t).memo.status) t.ends on)
    ∙ (ap (with_last stepped) is ∙ with_last-end stepped before a))

-- the last one
ends : (e : Account) (t : Step) (before : List Agent) (a : Agent) → t.ends ≡ true → e.memo.agents ≡ before ++ a ∷ [] → (account_after e t).memo.agents ≡ before ++ done a (a.steps + 1) (is_gone (account_after e t).memo.status) ∷ []
ends e t before a over is =
    memo_agents e.memo t (asked_spot e.memo t)
    ∙ (ap (λ (b : Bool). agents_after b e.memo.agents) (by_status (is_gone (account_after e t).memo.status) t.ends over)
    ∙ (ap (λ (xs : List Agent). agents_after (is_gone (account_after e t).memo.status) xs) is ∙ go (is_gone (account_after e t).memo.status)))
  where
    go : (b : Bool) → agents_after b (before ++ a ∷ []) ≡ before ++ done a (a.steps + 1) b ∷ []
    go true = ap (with_last ended) (with_last-end stepped before a) ∙ with_last-end ended before (stepped a)
    go false = with_last-end stepped before a

-- the steps of a machine but the last one
pub going_agents : (s : Shown) (fresh : Bool) (ts : List Step) (e : Account) (before : List Agent) (a : Agent) → Going s fresh ts → e.memo.agents ≡ before ++ a ∷ [] → (n : ℕ) × ((accounts_by e ts).memo.agents ≡ before ++ at a n ∷ [])
going_agents s fresh [] e before a g is = (a.steps, is)
going_agents s fresh (t ∷ ts) e before a g is = going_agents s false ts (account_after e t) before (stepped a) g.2 (goes e t before a g.1 is)

accounts_more : (r : Account) (ts : List Step) (t : Step) → accounts_by r (ts ++ t ∷ []) ≡ account_after (accounts_by r ts) t
accounts_more r [] t = refl
accounts_more r (u ∷ us) t = accounts_more (account_after r u) us t

-- a whole call of the agent a
pub call_agents : (s : Shown) (e f : Account) (before left : ℕ) → CallSteps s e f true before left → (first : List Agent) (a : Agent) → e.memo.agents ≡ first ++ a ∷ [] → (n : ℕ) × (f.memo.agents ≡ first ++ done a n (is_gone f.memo.status) ∷ [])
call_agents s e f before left c first a is = go c.last c.ends c.account
  where
    go : (last : List Step) → Ending s (fresh_after s.fresh c.steps) true last → f ≡ accounts_by e (c.steps ++ last) → (n : ℕ) × (f.memo.agents ≡ first ++ done a n (is_gone f.memo.status) ∷ [])
    go [] x m = absurd x
    go (t ∷ u ∷ us) x m = absurd x
    go (t ∷ []) x m =
        let (n, on) = going_agents s s.fresh c.steps e first a c.going is in
        let same : account_after (accounts_by e c.steps) t ≡ f = sym (m ∙ accounts_more e c.steps t) in
        (n + 1, subst (λ (z : Account). z.memo.agents ≡ first ++ done a (n + 1) (is_gone z.memo.status) ∷ []) same (ends (accounts_by e c.steps) t first (at a n) x.1 on))
