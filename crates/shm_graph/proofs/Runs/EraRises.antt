-- no word of a row falls in a run, and an own era rises by at most the word steps of its identity
use Rattle.std.proofs.Common.{◌≡◌, ◌≢◌, ℕ, ◌+◌, ◌<◌, ◌≤◌, refl, sym, ap, ◌∙◌, subst, arith, inl, inr, Bool, true, false, cond, eqb, ◌&&◌, List, [], ◌∷◌}
use Rattle.std.proofs.lemmas.Bool.{and_from, cases_eq, cond-true, eq-eqb, eqb-true, false≢true}
use Rattle.shm_words.specs.declared.geometry.Geometry.{Geometry}
use Rattle.shm_graph.specs.declared.{ask.Ask.{Ask, TheVariants.{Load, Store, Exchange}}, memo.{Memo.Memo, Step.Step}}
use Rattle.shm_graph.specs.declared.run.{Account.Account, Move.{Move, TheVariants.{Word, Dies, Begins}}, Start.Start}
use Rattle.shm_graph.specs.{declared.spot.Spot.{Spot, TheVariants.Era}, Agents.{acts, steps_made}}
use Rattle.shm_graph.specs.{Asks.{at_of, words_after}, Controllers.IsEraRaised, Held.HeldAt, Histories.IsTaken}
use Rattle.shm_graph.specs.Runs.{Held, Leads, State, account_after, account_at, account_died, account_entered, first_memo, first_state, memos_of, moved}
use Rattle.shm_graph.specs.{Spots.{classes_in, same_spot, see, spot_at, upd}, Views.{View, own_word, view}}
use Rattle.shm_graph.specs.Changes.{asked_spot, memo_after}
use Rattle.shm_graph.proofs.Memos.MemoSteps.{steps_died, steps_entered, steps_on}
use Rattle.shm_graph.proofs.Runs.Lists.{account_part, length-changed, memos_of-changed, see-words_set}
use Rattle.shm_graph.proofs.Runs.{CallEventsOf.{memo_here, memo_other}, Running.{Leads-held, Leads-keeps, view-at1}}
use Rattle.shm_graph.proofs.{Runs.TurnsTaken.turn_others, Spots.Spotting.same_spot_is}
use Rattle.shm_graph.proofs.States.FirstHeld.{first_memo_of, nobody_acts}

-- ---- one turn

-- a step that raises leaves the word of a row as it was or raises it, and an own era by one
risen : (w : Spot → ℕ) (a : Ask) (q : Spot) (i j : ℕ) → IsEraRaised w a q → let n = w (Era i j) in let x = words_after w a q (Era i j) in (n ≤ x) × (i ≡ j → x ≤ n + 1)
risen w (Load at) q i j may = (omega arith, λ _. omega arith)
risen w (Store at v) q i j may = store (same_spot q (Era i j)) refl
  where
    store : (b : Bool) → same_spot q (Era i j) ≡ b → let n = w (Era i j) in let x = cond b v n in (n ≤ x) × (i ≡ j → x ≤ n + 1)
    store true e = let k : IsEraRaised w (Store at v) (Era i j) = subst (IsEraRaised w (Store at v)) (same_spot_is q (Era i j) e) may in (k.0, λ s. let z = k.1 s in omega arith)
    store false e = (omega arith, λ _. omega arith)
risen w (Exchange at from to) q i j may = exchange (eqb (w q) from) refl
  where
    exchange : (b : Bool) → eqb (w q) from ≡ b → let n = w (Era i j) in let x = cond b (upd w q to) w (Era i j) in (n ≤ x) × (i ≡ j → x ≤ n + 1)
    exchange false e = (omega arith, λ _. omega arith)
    exchange true e = store (same_spot q (Era i j)) refl
      where
        store : (b : Bool) → same_spot q (Era i j) ≡ b → let n = w (Era i j) in let x = cond b to n in (n ≤ x) × (i ≡ j → x ≤ n + 1)
        store true s =
            let here = same_spot_is q (Era i j) s in
            let k : IsEraRaised w (Exchange at from to) (Era i j) = subst (IsEraRaised w (Exchange at from to)) here may in
            let l = k (ap w (sym here) ∙ eqb-true (w q) from e) in
            (l.0, λ s. let z = l.1 s in omega arith)
        store false s = (omega arith, λ _. omega arith)

pub turn_eras : (g : Geometry) (s : State) (t : Step) → IsTaken g s (Word t) → (i j : ℕ) → let n = see g s.words (Era i j) in let x = see g (moved s (Word t)).words (Era i j) in (n ≤ x) × (i ≡ j → x ≤ n + 1)
turn_eras g s t x i j =
    let w = see g s.words in
    let turn = x.turned.event in
    let q : Spot = spot_at g (classes_in g s.words) (at_of t.ask) in
    let words : words_after w t.ask q ≡ see g (moved s (Word t)).words = sym (see-words_set g s.words (view (memos_of s.accounts)) t.me.who t.ask q x.held.at x.held.words turn.inside refl turn.one_event.allowed) in
    subst (λ (f : Spot → ℕ). let n = w (Era i j) in let y = f (Era i j) in (n ≤ y) × (i ≡ j → y ≤ n + 1)) words (risen w t.ask q i j turn.one_event.era)

-- ---- runs

-- from a on no word of a row has fallen, and each own era has risen by at most the steps that its identity made
pub record Rises (g : Geometry) (a b : State) : Type 0 where
  pub rows : (i j : ℕ) → see g a.words (Era i j) ≤ see g b.words (Era i j)
  pub own : (c : ℕ) → c < g.clients → see g b.words (Era c c) + steps_made (memos_of a.accounts c) ≤ see g a.words (Era c c) + steps_made (memos_of b.accounts c)

-- a turn that changes no word and no number of steps
still : (g : Geometry) (a b : State) (es : List Account) → Rises g a b → ((c : ℕ) → steps_made (memos_of es c) ≡ steps_made (memos_of b.accounts c)) → Rises g a (record { words = b.words; accounts = es })
still g a b es r same = record { rows = r.rows; own = λ c l. let x = r.own c l in let y = same c in omega arith }

turn_rises : (g : Geometry) (a s : State) (m : Move) → Rises g a s → IsTaken g s m → Rises g a (moved s m)
turn_rises g a s (Word t) r x =
    record {
      rows = λ i j. let y = r.rows i j in let z = (turn_eras g s t x i j).0 in omega arith;
      own = λ c l. elim (cases_eq t.me.who c) [
        | inl e ↦ (let y = r.own c l in
            let z = (turn_eras g s t x c c).1 refl in
            let m : Memo = memos_of s.accounts c in
            let here : memos_of (moved s (Word t)).accounts c ≡ memo_after m t = memo_here s.accounts t c e (subst (λ n. c < n) (sym x.held.accounts) l) in
            let n : steps_made (memos_of (moved s (Word t)).accounts c) ≡ steps_made m + 1 = ap steps_made here ∙ steps_on m t (asked_spot m t) (subst (λ d. acts (memos_of s.accounts d) ≡ true) e x.is.1) in
            omega arith)
        | inr n ↦ (let y = r.own c l in
            let other : c ≢ t.me.who = λ e. n (sym e) in
            let z : see g (moved s (Word t)).words (Era c c) ≡ see g s.words (Era c c) = turn_others g s t x c (Era c c) l other refl in
            let k : steps_made (memos_of (moved s (Word t)).accounts c) ≡ steps_made (memos_of s.accounts c) = ap steps_made (memo_other s.accounts c t.me.who (account_after (account_at s.accounts t.me.who) t) other) in
            omega arith)
      ];
    }
turn_rises g a s (Dies d) r x = still g a s (moved s (Dies d)).accounts r (λ c. account_part (λ (e : Account). steps_made e.memo) s.accounts d (account_died (account_at s.accounts d)) c (steps_died (memos_of s.accounts d)))
turn_rises g a s (Begins d k) r x = still g a s (moved s (Begins d k)).accounts r (λ c. account_part (λ (e : Account). steps_made e.memo) s.accounts d (account_entered k (account_at s.accounts d)) c (steps_entered k (memos_of s.accounts d)))

pub run_rises : (g : Geometry) (a : State) (ms : List Move) (b : State) → Held g a.words a.accounts → Leads g a ms b → Rises g a b
run_rises g a ms b h run =
    (Leads-keeps (λ (s : State). Held g s.words s.accounts × Rises g a s) g (λ s m p turn x. (x.held, turn_rises g a s m p.1 (record { held = p.0; is = turn; turned = x })))
    a ms b (h, record { rows = λ i j. omega arith; own = λ c l. omega arith }) run).1

-- ---- from the first state

-- a run to a held state began in one: its first turn is the beginning of an agent, of which the invariant reads nothing
pub first_was_held : (s : Start) (ms : List Move) (b : State) → Held s.geometry b.words b.accounts → Leads s.geometry (first_state s) ms b → Held s.geometry (first_state s).words (first_state s).accounts
first_was_held s [] b h run = subst (λ (a : State). Held s.geometry a.words a.accounts) (sym run) h
first_was_held s (Word t ∷ ms) b h run = absurd (false≢true (sym (nobody_acts s t.me.who) ∙ run.0.1))
first_was_held s (Dies d ∷ ms) b h run = absurd (false≢true (sym (nobody_acts s d) ∙ run.0))
first_was_held s (Begins d k ∷ ms) b h run =
    let es : List Account = (first_state s).accounts in
    let now = run.1.held in
    record {
      words = now.words;
      accounts = sym (length-changed (account_entered k) es d) ∙ now.accounts;
      at = subst (λ (v : View). HeldAt s.geometry (see s.geometry (first_state s).words) v) (ap view (memos_of-changed (account_entered k) es d run.0.0) ∙ view-at1 (memos_of es) d (account_entered k (account_at es d)).memo refl) now.at;
    }

module _ (s : Start) (ms : List Move) (b : State) (first : Held s.geometry (first_state s).words (first_state s).accounts) (run : Leads s.geometry (first_state s) ms b) (c : ℕ) (l : c < s.geometry.clients) where
  -- the memo and the own era that c begins with, and no step
  first_memo_is : memos_of (first_state s).accounts c ≡ first_memo s c
  first_memo_is = first_memo_of s c l

  first_era : see s.geometry (first_state s).words (Era c c) ≡ s.first_era
  first_era = sym (first.at.mine c l (Era c c) (eq-eqb c c refl)) ∙ (ap (λ (m : Memo). own_word m.own (Era c c)) first_memo_is ∙ cond-true (eqb c c && eqb c c) s.first_era 0 (and_from (eqb c c) (eqb c c) (eq-eqb c c refl) (eq-eqb c c refl)))

  no_step : steps_made (memos_of (first_state s).accounts c) ≡ 0
  no_step = ap steps_made first_memo_is

  pub own_bounds : (s.first_era ≤ see s.geometry b.words (Era c c)) × (see s.geometry b.words (Era c c) ≤ s.first_era + steps_made (memos_of b.accounts c))
  own_bounds =
      let x = run_rises s.geometry (first_state s) ms b first run in
      let low = x.rows c c in
      let high = x.own c l in
      let a = first_era in
      let n = no_step in
      (omega arith, omega arith)

  -- the memo shows the word
  pub memo_bounds : let n = own_word (memos_of b.accounts c).own (Era c c) in (s.first_era ≤ n) × (n ≤ s.first_era + steps_made (memos_of b.accounts c))
  memo_bounds =
      let h = Leads-held s.geometry (first_state s) ms b first run in
      subst (λ n. (s.first_era ≤ n) × (n ≤ s.first_era + steps_made (memos_of b.accounts c))) (sym (h.at.mine c l (Era c c) (eq-eqb c c refl))) own_bounds
