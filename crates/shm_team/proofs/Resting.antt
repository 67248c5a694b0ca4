-- where the last machine of an agent is over, nothing is left of it to tell
use Rattle.std.proofs.Common.{◌≡◌, ℕ, zero, suc, true, Bool, if◌then◌else◌, List, [], ◌∷◌, refl, ap, subst}
use Rattle.std.specs.Prelude.{slice_set}
use Rattle.shm_graph.specs.declared.{memo.Step.Step, run.{Account.Account, Move.Move}}
use Rattle.shm_graph.specs.declared.run.{Move.TheVariants.{Word, Dies, Begins}, Start.Start}
use Rattle.shm_graph.specs.Runs.{State, Stood, account_after, account_at, account_died, account_entered, accounts_from, first_state, moved, state}
use Rattle.shm_graph.proofs.Runs.Running.{Leads-keeps}

abbrev pub IsQuiet : Account → Type 0
IsQuiet e = e.memo.over ≡ true → e.running ≡ []

-- what holds of an account and of what takes its place
kept_set : (P : Account → Type 0) (es : List Account) (d : ℕ) (x : Account) (c : ℕ) → P x → P (account_at es c) → P (account_at (slice_set es d x) c)
kept_set P [] d x c p h = h
kept_set P (e ∷ es) zero x zero p h = p
kept_set P (e ∷ es) zero x (suc c) p h = h
kept_set P (e ∷ es) (suc d) x zero p h = h
kept_set P (e ∷ es) (suc d) x (suc c) p h = kept_set P es d x c p h

quiet_step : (e : Account) (t : Step) → IsQuiet (account_after e t)
quiet_step e t over = ap (λ (b : Bool). if b then [] else t.line) over

quiet_turn : (s : State) (m : Move) → ((c : ℕ) → IsQuiet (account_at s.accounts c)) → (c : ℕ) → IsQuiet (account_at (moved s m).accounts c)
quiet_turn s (Word t) h c = let e = account_at s.accounts t.me.who in kept_set IsQuiet s.accounts t.me.who (account_after e t) c (quiet_step e t) (h c)
quiet_turn s (Dies d) h c = kept_set IsQuiet s.accounts d (account_died (account_at s.accounts d)) c (h d) (h c)
quiet_turn s (Begins d k) h c = kept_set IsQuiet s.accounts d (account_entered k (account_at s.accounts d)) c (h d) (h c)

quiet_first : (s : Start) (b n c : ℕ) → IsQuiet (account_at (accounts_from s b n) c)
quiet_first s b zero c over = refl
quiet_first s b (suc n) zero over = refl
quiet_first s b (suc n) (suc c) over = quiet_first s (suc b) n c over

pub stood_quiet : (s : Start) (e : Account) → Stood s e → IsQuiet e
stood_quiet s e x =
    subst IsQuiet x.here.1
    (Leads-keeps (λ (a : State). (c : ℕ) → IsQuiet (account_at a.accounts c)) s.geometry (λ a m h is turned. quiet_turn a m h) (first_state s) x.turns (state x.words x.accounts) (quiet_first s 0 s.geometry.clients) x.leads e.who)
