-- the first agent of an identity and the pieces of work that it began, once it has died or ended: later turns leave them
use Rattle.std.proofs.Common.{◌≡◌, ℕ, zero, suc, ◌+◌, ◌<◌, Bool, true, false, cond, List, [], ◌∷◌, ◌++◌, length, refl, sym, ap, ◌∙◌, subst, arith, inl, inr}
use Rattle.std.proofs.lemmas.Bool.{cases_eq, cases_lt, true≢false}
use Rattle.std.proofs.lemmas.List.{get_or-set_other, get_or-set_same, length-append, set_past}
use Rattle.std.specs.Prelude.{slice_set}
use Rattle.shm_words.specs.declared.geometry.Geometry.{Geometry}
use Rattle.shm_graph.specs.declared.memo.{Agent.Agent, Fate.TheVariants.Acts, Kind.Kind, Step.Step}
use Rattle.shm_graph.specs.declared.run.{Account.Account, Move.{Move, TheVariants.{Word, Dies, Begins}}, Start.Start}
use Rattle.shm_graph.specs.Agents.{acts, acts_by, ended, fallen, is_acting, last_agent, stepped, with_last}
use Rattle.shm_graph.specs.Changes.{asked_spot}
use Rattle.shm_graph.specs.Runs.{IsMove, Leads, State, account_after, account_at, account_died, account_entered, accounts_from, begun_by, first_state, moved}
use Rattle.shm_graph.proofs.Memos.MemoSteps.{agents_after, ends_agent}
use Rattle.shm_plain.specs.{Calls.state_of, Pools.{IsRun, Pool}}

-- ---- lists

length-with_last : (f : Agent → Agent) (xs : List Agent) → length (with_last f xs) ≡ length xs
length-with_last f [] = refl
length-with_last f (a ∷ []) = refl
length-with_last f (a ∷ b ∷ others) = ap suc (length-with_last f (b ∷ others))

length-agents : (gone : Bool) (xs : List Agent) → length (agents_after gone xs) ≡ length xs
length-agents true xs = length-with_last ended (with_last stepped xs) ∙ length-with_last stepped xs
length-agents false xs = length-with_last stepped xs

length-begun : (line : List ℕ) (bs : List (List (List ℕ))) → length (begun_by line bs) ≡ length bs
length-begun line [] = refl
length-begun line (b ∷ []) = refl
length-begun line (b ∷ d ∷ others) = ap suc (length-begun line (d ∷ others))

-- the last of several is behind the first
last_behind : (f : Agent → Agent) (a : Agent) (xs : List Agent) → 0 < length xs → with_last f (a ∷ xs) ≡ a ∷ with_last f xs
last_behind f a [] l = absurd (omega arith)
last_behind f a (x ∷ xs) l = refl

agents_behind : (gone : Bool) (a : Agent) (xs : List Agent) → 0 < length xs → agents_after gone (a ∷ xs) ≡ a ∷ agents_after gone xs
agents_behind true a xs l = ap (with_last ended) (last_behind stepped a xs l) ∙ last_behind ended a (with_last stepped xs) (subst (λ (n : ℕ). 0 < n) (sym (length-with_last stepped xs)) l)
agents_behind false a xs l = last_behind stepped a xs l

begun_behind : (line : List ℕ) (b : List (List ℕ)) (bs : List (List (List ℕ))) → 0 < length bs → begun_by line (b ∷ bs) ≡ b ∷ begun_by line bs
begun_behind line b [] l = absurd (omega arith)
begun_behind line b (d ∷ bs) l = refl

-- where another agent acts than the first one, there are others
some_behind : (a : Agent) (xs : List Agent) → is_acting a.fate ≡ false → acts_by (last_agent (a ∷ xs)) ≡ true → 0 < length xs
some_behind a [] still acting = absurd (true≢false (sym acting ∙ still))
some_behind a (x ∷ xs) still acting = omega arith

-- ---- as many agents as lists of what they began

abbrev pub AreEven : Account → Type 0
AreEven e = length e.begun ≡ length e.memo.agents

even_word : (e : Account) (t : Step) → AreEven e → AreEven (account_after e t)
even_word e t h = go t.fresh ∙ (h ∙ sym (length-agents (ends_agent e.memo t (asked_spot e.memo t)) e.memo.agents))
  where
    go : (b : Bool) → length (cond b (begun_by t.line e.begun) e.begun) ≡ length e.begun
    go true = length-begun t.line e.begun
    go false = refl

even_died : (e : Account) → AreEven e → AreEven (account_died e)
even_died e h = h ∙ sym (length-with_last fallen e.memo.agents)

even_entered : (k : Kind) (e : Account) → AreEven e → AreEven (account_entered k e)
even_entered k e h =
    let a : Agent = record { kind = k; steps = 0; fate = Acts } in
    length-append e.begun ([] ∷ []) ∙ (ap (λ (n : ℕ). n + 1) h ∙ sym (length-append e.memo.agents (a ∷ [])))

-- what a change of one account keeps of each
set_keeps : (P : Account → Type 0) (es : List Account) (c : ℕ) (e : Account) (d : ℕ) → (P (account_at es c) → P e) → P (account_at es d) → P (account_at (slice_set es c e) d)
set_keeps P es c e d f h =
    elim (cases_eq d c) [
      | inr n ↦ subst P (sym (get_or-set_other es c d e _ n)) h
      | inl s ↦ subst (λ (n : ℕ). P (account_at (slice_set es c e) n)) (sym s) (elim (cases_lt c (length es)) [
        | inl l ↦ subst P (sym (get_or-set_same es c e _ l)) (f (subst (λ (n : ℕ). P (account_at es n)) s h))
        | inr o ↦ subst (λ (xs : List Account). P (account_at xs c)) (sym (set_past es c e o)) (subst (λ (n : ℕ). P (account_at es n)) s h)
      ])
    ]

even_moved : (s : State) (m : Move) (d : ℕ) → AreEven (account_at s.accounts d) → AreEven (account_at (moved s m).accounts d)
even_moved s (Word t) d = set_keeps AreEven s.accounts t.me.who (account_after (account_at s.accounts t.me.who) t) d (even_word (account_at s.accounts t.me.who) t)
even_moved s (Dies c) d = set_keeps AreEven s.accounts c (account_died (account_at s.accounts c)) d (even_died (account_at s.accounts c))
even_moved s (Begins c k) d = set_keeps AreEven s.accounts c (account_entered k (account_at s.accounts c)) d (even_entered k (account_at s.accounts c))

even_leads : (g : Geometry) (a : State) (ms : List Move) (b : State) → Leads g a ms b → (d : ℕ) → AreEven (account_at a.accounts d) → AreEven (account_at b.accounts d)
even_leads g a [] b run d h = subst (λ (s : State). AreEven (account_at s.accounts d)) run h
even_leads g a (m ∷ ms) b run d h = even_leads g (moved a m) ms b run.2 d (even_moved a m d h)

even_first : (s : Start) (c n i : ℕ) → AreEven (account_at (accounts_from s c n) i)
even_first s c zero zero = refl
even_first s c zero (suc i) = refl
even_first s c (suc n) zero = refl
even_first s c (suc n) (suc i) = even_first s (suc c) n i

pub even_run : (p : Pool) → IsRun p → (d : ℕ) → AreEven (account_at p.accounts d)
even_run p run d = even_leads p.start.geometry (first_state p.start) p.turns (state_of p) run.leads d (even_first p.start 0 p.start.geometry.clients d)

-- ---- the first agent

-- a is the first agent, and began these
pub record First (a : Agent) (b : List (List ℕ)) (e : Account) : Type 0 where
  pub others : List Agent
  pub agents : e.memo.agents ≡ a ∷ others
  pub more : List (List (List ℕ))
  pub begun : e.begun ≡ b ∷ more
  pub even : length more ≡ length others

module _ (a : Agent) (b : List (List ℕ)) (still : is_acting a.fate ≡ false) where
  first_word : (e : Account) (t : Step) → acts e.memo ≡ true → First a b e → First a b (account_after e t)
  first_word e t acting h =
      let gone = ends_agent e.memo t (asked_spot e.memo t) in
      let some : 0 < length h.others = some_behind a h.others still (ap (λ (xs : List Agent). acts_by (last_agent xs)) (sym h.agents) ∙ acting) in
      let lines : 0 < length h.more = subst (λ (n : ℕ). 0 < n) (sym h.even) some in
      record {
        others = agents_after gone h.others;
        agents = ap (agents_after gone) h.agents ∙ agents_behind gone a h.others some;
        more = cond t.fresh (begun_by t.line h.more) h.more;
        begun = go t.fresh lines h.begun;
        even = long t.fresh h.more ∙ (h.even ∙ sym (length-agents gone h.others));
      }
    where
      go : (z : Bool) {more : List (List (List ℕ))} → 0 < length more → e.begun ≡ b ∷ more → cond z (begun_by t.line e.begun) e.begun ≡ b ∷ cond z (begun_by t.line more) more
      go true {more} l is = ap (begun_by t.line) is ∙ begun_behind t.line b more l
      go false l is = is

      long : (z : Bool) (more : List (List (List ℕ))) → length (cond z (begun_by t.line more) more) ≡ length more
      long true more = length-begun t.line more
      long false more = refl

  first_died : (e : Account) → acts e.memo ≡ true → First a b e → First a b (account_died e)
  first_died e acting h =
      let some : 0 < length h.others = some_behind a h.others still (ap (λ (xs : List Agent). acts_by (last_agent xs)) (sym h.agents) ∙ acting) in
      record {
        others = with_last fallen h.others;
        agents = ap (with_last fallen) h.agents ∙ last_behind fallen a h.others some;
        more = h.more;
        begun = h.begun;
        even = h.even ∙ sym (length-with_last fallen h.others);
      }

  first_entered : (k : Kind) (e : Account) → First a b e → First a b (account_entered k e)
  first_entered k e h =
      let x : Agent = record { kind = k; steps = 0; fate = Acts } in
      record {
        others = h.others ++ x ∷ [];
        agents = ap (λ (xs : List Agent). xs ++ x ∷ []) h.agents;
        more = h.more ++ [] ∷ [];
        begun = ap (λ (bs : List (List (List ℕ))). bs ++ [] ∷ []) h.begun;
        even = length-append h.more ([] ∷ []) ∙ (ap (λ (n : ℕ). n + 1) h.even ∙ sym (length-append h.others (x ∷ [])));
      }

  first_moved : (s : State) (m : Move) (d : ℕ) → IsMove s m → First a b (account_at s.accounts d) → First a b (account_at (moved s m).accounts d)
  first_moved s (Word t) d may = set_keeps (First a b) s.accounts t.me.who (account_after (account_at s.accounts t.me.who) t) d (first_word (account_at s.accounts t.me.who) t may.1)
  first_moved s (Dies c) d may = set_keeps (First a b) s.accounts c (account_died (account_at s.accounts c)) d (first_died (account_at s.accounts c) may)
  first_moved s (Begins c k) d may = set_keeps (First a b) s.accounts c (account_entered k (account_at s.accounts c)) d (first_entered k (account_at s.accounts c))

  pub first_leads : (g : Geometry) (s : State) (ms : List Move) (r : State) → Leads g s ms r → (d : ℕ) → First a b (account_at s.accounts d) → First a b (account_at r.accounts d)
  first_leads g s [] r run d h = subst (λ (s : State). First a b (account_at s.accounts d)) run h
  first_leads g s (m ∷ ms) r run d h = first_leads g (moved s m) ms r run.2 d (first_moved s m d run.0 h)
