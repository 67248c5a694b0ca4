-- a turn of a pool in a vector by what it accounts for
use Rattle.std.proofs.Common.{◌≡◌, ℕ, ◌<◌, inl, inr, Bool, true, false, cond, List, length, refl, sym, ap, ◌∙◌, subst}
use Rattle.std.proofs.lemmas.List.{get_or-set_same, length-set}
use Rattle.shm_graph.specs.declared.memo.{Step.Step, Agent.Agent, Kind.TheVariants.{Client, Recoverer}, Memo.Memo}
use Rattle.shm_graph.specs.{declared.run.Account.Account, Agents.{acts, last_agent}}
use Rattle.shm_graph.specs.Runs.{MayBegin, fell_by, account_after, account_at, account_died, account_entered, accounts_after, changed}
use Rattle.shm_plain.specs.{Pools.{MayStep, Pool, after_fall, memo_of, readied, turned}, Tracks.kind_next}
use Rattle.shm_plain.specs.Working.{MayWork, ready_account}

module _ (p : Pool) (c : ℕ) (long : c < length p.accounts) where
  abbrev e : Account
  e = account_at p.accounts c

  pub ready_is : account_at (readied p c).accounts c ≡ ready_account e
  ready_is = go (acts e.memo)
    where
      go : (b : Bool) → account_at (cond b p.accounts (changed (account_entered (kind_next e.memo)) p.accounts c)) c ≡ cond b e (account_entered (kind_next e.memo) e)
      go true = refl
      go false = get_or-set_same p.accounts c _ _ long

  ready_long : length (readied p c).accounts ≡ length p.accounts
  ready_long = go (acts e.memo)
    where
      go : (b : Bool) → length (cond b p.accounts (changed (account_entered (kind_next e.memo)) p.accounts c)) ≡ length p.accounts
      go true = refl
      go false = length-set p.accounts c _

  pub turned_is : (t : Step) → t.me.who ≡ c → account_at (turned (readied p c) t).accounts c ≡ account_after (ready_account e) t
  turned_is t w =
      subst (λ (z : ℕ). account_at (accounts_after (readied p c).accounts t) z ≡ account_after (account_at (readied p c).accounts z) t) w
      (get_or-set_same (readied p c).accounts t.me.who _ _ (subst (λ (n : ℕ). t.me.who < n) (sym ready_long) (subst (λ (n : ℕ). n < length p.accounts) (sym w) long)))
      ∙ ap (λ (z : Account). account_after z t) ready_is

  pub fallen_is : acts e.memo ≡ true → account_at (after_fall p c).accounts c ≡ account_died e
  fallen_is h = ap (λ (b : Bool). account_at (cond b (changed account_died p.accounts c) p.accounts) c) h ∙ get_or-set_same p.accounts c _ _ long

-- where agents may work, the next one may begin
pub may_step : (p : Pool) (c : ℕ) → MayWork (account_at p.accounts c) → MayStep p c
may_step p c may rests =
    let m : Memo = memo_of p c in
    elim (may rests) [
      | inl h ↦ subst (λ (xs : List Agent). MayBegin (cond (fell_by (last_agent xs)) Recoverer Client) m) (sym h.1) (inl h.0)
      | inr h ↦ subst (λ (b : Bool). MayBegin (cond b Recoverer Client) m) (sym h) h
    ]
