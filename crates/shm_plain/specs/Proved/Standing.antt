-- an account of a pool in a vector is one of a state that holds
use Rattle.std.proofs.Common.{◌≡◌, ℕ, ◌+◌, ◌<◌, false, List, [], ◌∷◌, refl, sym, ap, ◌∙◌, subst, arith}
use Rattle.shm_words.specs.declared.geometry.Geometry.{Geometry}
use Rattle.shm_graph.specs.declared.run.{Account.Account, Move.{Move, TheVariants.{Word, Dies, Begins}}, Start.Start}
use Rattle.shm_graph.specs.Runs.{Leads, State, Stood, account_at, account_after, account_died, account_entered, first_account, first_state, moved}
use Rattle.shm_graph.proofs.{Runs.Lists.account_part, States.FirstHeld.at-accounts_from}
use Rattle.shm_plain.specs.Pools.{IsRun, Pool}

abbrev who : Account → ℕ
who e = e.who

-- a turn changes nobody's number
pub same_who : (s : State) (m : Move) (c : ℕ) → (account_at (moved s m).accounts c).who ≡ (account_at s.accounts c).who
same_who s (Word t) c = account_part who s.accounts t.me.who (account_after (account_at s.accounts t.me.who) t) c refl
same_who s (Dies d) c = account_part who s.accounts d (account_died (account_at s.accounts d)) c refl
same_who s (Begins d k) c = account_part who s.accounts d (account_entered k (account_at s.accounts d)) c refl

pub led_who : (g : Geometry) (a b : State) (ms : List Move) → Leads g a ms b → (c : ℕ) → (account_at b.accounts c).who ≡ (account_at a.accounts c).who
led_who g a b [] l c = ap (λ (z : State). (account_at z.accounts c).who) (sym l)
led_who g a b (m ∷ ms) l c = led_who g (moved a m) b ms l.2 c ∙ same_who a m c

pub run_who : (s : Start) (b : State) (ms : List Move) → Leads s.geometry (first_state s) ms b → (c : ℕ) → c < s.geometry.clients → (account_at b.accounts c).who ≡ c
run_who s b ms l c lt =
    let z : 0 + c ≡ c = omega arith in
    led_who s.geometry (first_state s) b ms l c ∙ (ap who (at-accounts_from s 0 s.geometry.clients c (first_account (record { geometry = record { clients = 0; segments = 0; wide = false }; first_era = 0; tables = false }) 0) lt) ∙ z)

pub named_in : (p : Pool) → IsRun p → (c : ℕ) → c < p.start.geometry.clients → (account_at p.accounts c).who ≡ c
named_in p run c lt = run_who p.start (record { words = p.words; accounts = p.accounts }) p.turns run.leads c lt

pub stood_in : (p : Pool) → IsRun p → (c : ℕ) → c < p.start.geometry.clients → Stood p.start (account_at p.accounts c)
stood_in p run c lt =
    let w : (account_at p.accounts c).who ≡ c = run_who p.start (record { words = p.words; accounts = p.accounts }) p.turns run.leads c lt in
    record {
      words = p.words;
      accounts = p.accounts;
      turns = p.turns;
      held = run.held;
      leads = run.leads;
      here = (subst (λ (n : ℕ). (account_at p.accounts c).who < n) (sym run.held.accounts) (subst (λ (n : ℕ). n < p.start.geometry.clients) (sym w) lt), ap (account_at p.accounts) w);
    }
