-- what is accounted for of an identity has its turns among those of a run
use Rattle.std.proofs.Common.{◌≡◌, ◌≢◌, ℕ, ◌+◌, ◌<◌, eqb, List, [], ◌∷◌, ◌++◌, length, append_assoc, append-nil, refl, sym, ap, ◌∙◌, subst, inl, inr, arith}
use Rattle.std.proofs.lemmas.Bool.{cases_eq, cond-false, cond-true, eq-eqb, ne_eqb}
use Rattle.std.proofs.lemmas.List.{get_or-set_other, get_or-set_same}
use Rattle.shm_words.specs.declared.geometry.Geometry.{Geometry}
use Rattle.shm_graph.specs.declared.run.{Account.Account, Move.{Move, TheVariants.{Word, Dies, Begins}}, Start.Start}
use Rattle.shm_graph.specs.CallEvents.{own_turns}
use Rattle.shm_graph.specs.Runs.{Leads, State, account_after, account_along, account_at, account_by, account_died, account_entered, changed, first_account, first_state, moved}
use Rattle.shm_graph.proofs.Runs.Lists.{length-accounts_after, length-changed}
use Rattle.shm_graph.proofs.States.FirstHeld.{at-accounts_from, length-accounts_from}

abbrev pub taker : Move → ℕ
taker (Word t) = t.me.who
taker (Dies d) = d
taker (Begins d k) = d

pub own_first : (c : ℕ) (m : Move) (ms : List Move) → taker m ≡ c → own_turns c (m ∷ ms) ≡ m ∷ own_turns c ms
own_first c (Word t) ms e = cond-true (eqb t.me.who c) (Word t ∷ own_turns c ms) (own_turns c ms) (eq-eqb t.me.who c e)
own_first c (Dies d) ms e = cond-true (eqb d c) (Dies d ∷ own_turns c ms) (own_turns c ms) (eq-eqb d c e)
own_first c (Begins d k) ms e = cond-true (eqb d c) (Begins d k ∷ own_turns c ms) (own_turns c ms) (eq-eqb d c e)

pub own_skip : (c : ℕ) (m : Move) (ms : List Move) → taker m ≢ c → own_turns c (m ∷ ms) ≡ own_turns c ms
own_skip c (Word t) ms n = cond-false (eqb t.me.who c) (Word t ∷ own_turns c ms) (own_turns c ms) (ne_eqb t.me.who c n)
own_skip c (Dies d) ms n = cond-false (eqb d c) (Dies d ∷ own_turns c ms) (own_turns c ms) (ne_eqb d c n)
own_skip c (Begins d k) ms n = cond-false (eqb d c) (Begins d k ∷ own_turns c ms) (own_turns c ms) (ne_eqb d c n)

-- ---- one turn

-- the account of c as it is in a run: it is c's
abbrev Own : ℕ → List Account → Type 0
Own c es = (c < length es) × ((account_at es c).who ≡ c)

at_changed : (f : Account → Account) (es : List Account) (d c : ℕ) → d ≡ c → c < length es → account_at (changed f es d) c ≡ f (account_at es c)
at_changed f es d c o l = subst (λ (k : ℕ). account_at (changed f es k) c ≡ f (account_at es c)) (sym o) (get_or-set_same es c _ _ l)

-- a turn changes the account of who takes it, and no other
pub turn_here : (a : State) (c : ℕ) (m : Move) → c < length a.accounts → taker m ≡ c → account_at (moved a m).accounts c ≡ account_by (account_at a.accounts c) m
turn_here a c (Word t) l o = at_changed (λ (e : Account). account_after e t) a.accounts t.me.who c o l
turn_here a c (Dies d) l o = at_changed account_died a.accounts d c o l
turn_here a c (Begins d k) l o = at_changed (account_entered k) a.accounts d c o l

pub turn_there : (a : State) (c : ℕ) (m : Move) → taker m ≢ c → account_at (moved a m).accounts c ≡ account_at a.accounts c
turn_there a c (Word t) n = get_or-set_other a.accounts t.me.who c _ _ (λ z. n (sym z))
turn_there a c (Dies d) n = get_or-set_other a.accounts d c _ _ (λ z. n (sym z))
turn_there a c (Begins d k) n = get_or-set_other a.accounts d c _ _ (λ z. n (sym z))

long_by : (a : State) (m : Move) → length (moved a m).accounts ≡ length a.accounts
long_by a (Word t) = length-accounts_after a.accounts t
long_by a (Dies d) = length-changed account_died a.accounts d
long_by a (Begins d k) = length-changed (account_entered k) a.accounts d

who_by : (e : Account) (m : Move) → (account_by e m).who ≡ e.who
who_by e (Word t) = refl
who_by e (Dies d) = refl
who_by e (Begins d k) = refl

-- and is one more of its turns
pub turns_by : (e : Account) (m : Move) → e.who ≡ taker m → (account_by e m).turns ≡ e.turns ++ m ∷ []
turns_by e (Word t) w = refl
turns_by e (Dies d) w = ap (λ (k : ℕ). e.turns ++ Dies k ∷ []) w
turns_by e (Begins d k) w = ap (λ (n : ℕ). e.turns ++ Begins n k ∷ []) w

pub along_both : (e : Account) (xs ys : List Move) → account_along e (xs ++ ys) ≡ account_along (account_along e xs) ys
along_both e [] ys = refl
along_both e (x ∷ xs) ys = along_both (account_by e x) xs ys

-- ---- a run

own_on : (a : State) (c : ℕ) (m : Move) → Own c a.accounts → Own c (moved a m).accounts
own_on a c m h = (
  subst (λ (n : ℕ). c < n) (sym (long_by a m)) h.0,
  elim (cases_eq (taker m) c) [
    | inl o ↦ ap (λ (e : Account). e.who) (turn_here a c m h.0 o) ∙ (who_by (account_at a.accounts c) m ∙ h.1)
    | inr n ↦ ap (λ (e : Account). e.who) (turn_there a c m n) ∙ h.1
  ],
)

grown : (g : Geometry) (c : ℕ) (a : State) (ms : List Move) (b : State) → Own c a.accounts → Leads g a ms b → (account_at b.accounts c).turns ≡ (account_at a.accounts c).turns ++ own_turns c ms
grown g c a [] b h run = ap (λ (s : State). (account_at s.accounts c).turns) (sym run) ∙ sym (append-nil (account_at a.accounts c).turns)
grown g c a (m ∷ ms) b h run =
    let before : List Move = (account_at a.accounts c).turns in
    let rest = grown g c (moved a m) ms b (own_on a c m h) run.2 in
    elim (cases_eq (taker m) c) [
      | inl o ↦ (
          let one : (account_at (moved a m).accounts c).turns ≡ before ++ m ∷ [] = ap (λ (e : Account). e.turns) (turn_here a c m h.0 o) ∙ turns_by (account_at a.accounts c) m (h.1 ∙ sym o) in
          rest ∙ (ap (λ (xs : List Move). xs ++ own_turns c ms) one ∙ (append_assoc before (m ∷ []) (own_turns c ms) ∙ ap (λ (xs : List Move). before ++ xs) (sym (own_first c m ms o))))
          )
      | inr n ↦ (
          let none : (account_at (moved a m).accounts c).turns ≡ before = ap (λ (e : Account). e.turns) (turn_there a c m n) in
          rest ∙ (ap (λ (xs : List Move). xs ++ own_turns c ms) none ∙ ap (λ (xs : List Move). before ++ xs) (sym (own_skip c m ms n)))
          )
    ]

first_of : (s : Start) (c : ℕ) → c < s.geometry.clients → account_at (first_state s).accounts c ≡ first_account s c
first_of s c l = at-accounts_from s 0 s.geometry.clients c _ l ∙ ap (first_account s) (let z : 0 + c ≡ c = omega arith in z)

-- from the first state on they are its turns of the run
pub own_turns_are : (s : Start) (ms : List Move) (b : State) → Leads s.geometry (first_state s) ms b → (c : ℕ) → c < s.geometry.clients → (account_at b.accounts c).turns ≡ own_turns c ms
own_turns_are s ms b run c l =
    let first = first_of s c l in
    let long : c < length (first_state s).accounts = subst (λ (n : ℕ). c < n) (sym (length-accounts_from s 0 s.geometry.clients)) l in
    grown s.geometry c (first_state s) ms b (long, ap (λ (e : Account). e.who) first) run ∙ ap (λ (e : Account). e.turns ++ own_turns c ms) first
