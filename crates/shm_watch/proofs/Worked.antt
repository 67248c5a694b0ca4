-- a turn of agents in a pool in a vector
use Rattle.std.proofs.Common.{◌≡◌, ◌≢◌, ℕ, zero, suc, ◌<◌, Bool, true, false, cond, refl, ap, ◌∙◌, arith}
use Rattle.std.proofs.lemmas.List.{get_or-set_other}
use Rattle.std.specs.Prelude.{Some}
use Rattle.shm_graph.specs.{declared.ask.Me.Me, Agents.acts, Laws.step_of}
use Rattle.shm_graph.specs.Runs.{account_at, account_died, account_entered, changed}
use Rattle.shm_plain.specs.{Pools.{Pool, IsOf, after_fall, memo_of, readied, turn_on, turned}, Tracks.kind_next}
use Rattle.shm_plain.specs.Turned.{IsTurned}
use Rattle.shm_agents.specs.Work.{Work, work_control}
use Rattle.shm_replay.specs.Turns.{worked}

-- what a word step leaves where one is left, and otherwise a death, is the turn
pub worked_by : (p q : Pool) (c life : ℕ) (m : Work) → (work_control.me m).who ≡ c → (0 < life → (n : ℕ) × IsTurned p (step_of work_control m n) q) → (life ≡ 0 → q ≡ after_fall p c) → q ≡ worked (Some m) life c p
worked_by p q c zero m who steps falls = falls refl
worked_by p q c (suc life) m who steps falls =
    let s = steps (omega arith) in
    s.1.0
    ∙ (ap (λ (d : ℕ). turned (readied p d) (step_of work_control m s.0)) who
    ∙ ap (λ (n : ℕ). turned (readied p c) (step_of work_control m n)) s.1.1)

-- it changes no account but that of c
pub worked_others : (p : Pool) (c d life : ℕ) (m : Work) → IsOf p c work_control m → d ≢ c → account_at (worked (Some m) life c p).accounts d ≡ account_at p.accounts d
worked_others p c d zero m of other = died (acts (memo_of p c))
  where
    died : (b : Bool) → account_at (cond b (changed account_died p.accounts c) p.accounts) d ≡ account_at p.accounts d
    died true = get_or-set_other p.accounts c d _ _ other
    died false = refl
worked_others p c d (suc life) m of other =
    let who : (work_control.me m).who ≡ c = ap (λ (z : Me). z.who) of.0 in
    get_or-set_other (readied p c).accounts (turn_on (readied p c) work_control m).me.who d _ _ (λ e. other (e ∙ who)) ∙ ready (acts (memo_of p c))
  where
    ready : (b : Bool) → account_at (cond b p.accounts (changed (account_entered (kind_next (memo_of p c))) p.accounts c)) d ≡ account_at p.accounts d
    ready true = refl
    ready false = get_or-set_other p.accounts c d _ _ other
