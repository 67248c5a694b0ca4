-- a pool for blocks stays one, whatever its identities do
use Rattle.std.proofs.Common.{◌≡◌, ℕ, ◌<◌, Bool, true, false, List, [], ◌∷◌, sym, refl, ap, ◌∙◌, subst}
use Rattle.shm_words.specs.declared.geometry.Geometry.{Geometry}
use Rattle.shm_graph.specs.declared.{memo.Memo.Memo, run.{Account.Account, Move.Move}}
use Rattle.shm_graph.specs.{declared.run.{Move.TheVariants.{Begins, Dies, Word}, Start.Start}, Changes.asked_spot}
use Rattle.shm_graph.specs.Held.{is_loose}
use Rattle.shm_graph.specs.Runs.{Leads, State, Stood, account_after, account_at, account_died, account_entered, first_part, first_state, memos_of, moved}
use Rattle.shm_graph.proofs.{Runs.Lists.account_part, States.FirstHeld.first_memo_of}
use Rattle.shm_agents.proofs.Loose.{step_kept}

abbrev loose : Memo → Bool
loose m = is_loose m.part

moved_kept : (a : State) (m : Move) (c : ℕ) → loose (memos_of (moved a m).accounts c) ≡ loose (memos_of a.accounts c)
moved_kept a (Word t) c =
    let e : Account = account_at a.accounts t.me.who in
    account_part (λ (x : Account). loose x.memo) a.accounts t.me.who (account_after e t) c (step_kept e.memo t (asked_spot e.memo t))
moved_kept a (Dies d) c = account_part (λ (x : Account). loose x.memo) a.accounts d (account_died (account_at a.accounts d)) c refl
moved_kept a (Begins d k) c = account_part (λ (x : Account). loose x.memo) a.accounts d (account_entered k (account_at a.accounts d)) c refl

run_kept : (g : Geometry) (a : State) (ms : List Move) (b : State) → Leads g a ms b → (c : ℕ) → loose (memos_of b.accounts c) ≡ loose (memos_of a.accounts c)
run_kept g a [] b run c = ap (λ (s : State). loose (memos_of s.accounts c)) (sym run)
run_kept g a (m ∷ ms) b run c = run_kept g (moved a m) ms b run.2 c ∙ moved_kept a m c

-- where a pool was made for blocks, none of its identities has a table
pub has_none : (s : Start) (e : Account) → Stood s e → s.tables ≡ false → is_loose e.memo.part ≡ true
has_none s e x blocks =
    let who : e.who < s.geometry.clients = subst (λ (n : ℕ). e.who < n) x.held.accounts x.here.0 in
    ap (λ (a : Account). is_loose a.memo.part) (sym x.here.1)
    ∙ (run_kept s.geometry (first_state s) x.turns (record { words = x.words; accounts = x.accounts }) x.leads e.who
    ∙ (ap loose (first_memo_of s e.who who) ∙ ap (λ (b : Bool). is_loose (first_part b)) blocks))
