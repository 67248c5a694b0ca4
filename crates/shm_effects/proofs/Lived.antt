-- where none of an identity's agents died, the turns show none of its deaths
use Rattle.std.proofs.Common.{◌≡◌, ◌≢◌, ℕ, Bool, true, false, refl, sym, ap, subst, inl, inr, List, [], ◌∷◌, ◌++◌}
use Rattle.std.proofs.lemmas.Bool.{cases_eq, true≢false}
use Rattle.std.specs.List.{AllByRecursion}
use Rattle.shm_words.specs.declared.geometry.Geometry.{Geometry}
use Rattle.shm_graph.specs.declared.memo.{Agent.Agent, Fate.{Fate, TheVariants.{Acts, Ended, Died}}, Memo.Memo}
use Rattle.shm_graph.specs.{declared.run.Move.{Move, TheVariants.{Word, Dies, Begins}}, Changes.asked_spot}
use Rattle.shm_graph.specs.Agents.{acts_by, ended, entered, fallen, is_acting, last_agent, stepped, with_last}
use Rattle.shm_graph.specs.Runs.{IsMove, Leads, State, is_dead, memos_of, moved}
use Rattle.shm_graph.proofs.Memos.MemoSteps.{agents_after, ends_agent}
use Rattle.shm_headline.specs.TurnsOf.{turns_of}
use Rattle.shm_headline.specs.WordRuns as word
use Rattle.shm_headline.proofs.Moves.{memo_here, memo_there, who_of}
use Rattle.shm_effects.specs.Lived.{NoneDies}

-- none of them died
abbrev pub AllLived : List Agent → Type 0
AllLived = AllByRecursion (λ (a : Agent). is_dead a.fate ≡ false)

acting_lives : (f : Fate) → is_acting f ≡ true → is_dead f ≡ false
acting_lives Acts e = refl
acting_lives Ended e = absurd (true≢false (sym e))
acting_lives Died e = absurd (true≢false (sym e))

-- what changes the last one, which acts, leaves it that none died before
lived_last : (f : Agent → Agent) (xs : List Agent) → acts_by (last_agent xs) ≡ true → AllLived (with_last f xs) → AllLived xs
lived_last f [] a h = absurd (true≢false (sym a))
lived_last f (x ∷ []) a h = (acting_lives x.fate a, tt)
lived_last f (x ∷ y ∷ xs) a h = (h.0, lived_last f (y ∷ xs) a h.1)

acts_stepped : (xs : List Agent) → acts_by (last_agent xs) ≡ true → acts_by (last_agent (with_last stepped xs)) ≡ true
acts_stepped [] a = a
acts_stepped (x ∷ []) a = a
acts_stepped (x ∷ y ∷ []) a = a
acts_stepped (x ∷ y ∷ z ∷ xs) a = acts_stepped (y ∷ z ∷ xs) a

lived_after : (gone : Bool) (xs : List Agent) → acts_by (last_agent xs) ≡ true → AllLived (agents_after gone xs) → AllLived xs
lived_after false xs a h = lived_last stepped xs a h
lived_after true xs a h = lived_last stepped xs a (lived_last ended (with_last stepped xs) (acts_stepped xs a) h)

lived_fallen : (xs : List Agent) → acts_by (last_agent xs) ≡ true → AllLived (with_last fallen xs) → ⊥
lived_fallen [] a h = true≢false (sym a)
lived_fallen (x ∷ []) a h = true≢false h.0
lived_fallen (x ∷ y ∷ xs) a h = lived_fallen (y ∷ xs) a h.1

lived_front : (xs ys : List Agent) → AllLived (xs ++ ys) → AllLived xs
lived_front [] ys h = tt
lived_front (x ∷ xs) ys h = (h.0, lived_front xs ys h.1)

pub lived_both : (xs ys : List Agent) → AllLived xs → AllLived ys → AllLived (xs ++ ys)
lived_both [] ys h g = g
lived_both (x ∷ xs) ys h g = (h.0, lived_both xs ys h.1 g)

-- ---- turns

abbrev agents_of : State → ℕ → List Agent
agents_of s c = (memos_of s.accounts c).agents

module _ (c : ℕ) where
  -- the turn is no death of c, and none had died before it
  abbrev Before : State → Move → Type 0
  Before s m = AllLived (agents_of s c) × ((ts : List word.Act) → NoneDies c ts → NoneDies c (turns_of (m ∷ []) ++ ts))

  here : (s : State) (m : Move) → IsMove s m → who_of m ≡ c → AllLived (agents_of (moved s m) c) → Before s m
  here s (Word t) i q h =
      let r : Memo = memos_of s.accounts t.me.who in
      let new : AllLived (agents_after (ends_agent r t (asked_spot r t)) r.agents) = subst AllLived (ap (λ (m : Memo). m.agents) (memo_here s (Word t) i)) (subst (λ (k : ℕ). AllLived (agents_of (moved s (Word t)) k)) (sym q) h) in
      (subst (λ (k : ℕ). AllLived (agents_of s k)) q (lived_after (ends_agent r t (asked_spot r t)) r.agents i.1 new), λ ts n. n)
  here s (Dies d) i q h =
      absurd (lived_fallen (agents_of s d) i (subst AllLived (ap (λ (m : Memo). m.agents) (memo_here s (Dies d) i)) (subst (λ (k : ℕ). AllLived (agents_of (moved s (Dies d)) k)) (sym q) h)))
  here s (Begins d kind) i q h =
      let new : AllLived (entered kind (memos_of s.accounts d)).agents = subst AllLived (ap (λ (m : Memo). m.agents) (memo_here s (Begins d kind) i)) (subst (λ (k : ℕ). AllLived (agents_of (moved s (Begins d kind)) k)) (sym q) h) in
      (subst (λ (k : ℕ). AllLived (agents_of s k)) q (lived_front (agents_of s d) (record { kind = kind; steps = 0; fate = Acts } ∷ []) new), λ ts n. n)

  there : (s : State) (m : Move) → IsMove s m → who_of m ≢ c → AllLived (agents_of (moved s m) c) → Before s m
  there s m i n h = (subst AllLived (ap (λ (r : Memo). r.agents) (memo_there s m i c n)) h, other m n)
    where
      other : (m : Move) → who_of m ≢ c → (ts : List word.Act) → NoneDies c ts → NoneDies c (turns_of (m ∷ []) ++ ts)
      other (Word t) n ts none = none
      other (Dies d) n ts none = (n, none)
      other (Begins d k) n ts none = none

  before : (s : State) (m : Move) → IsMove s m → AllLived (agents_of (moved s m) c) → Before s m
  before s m i h = elim (cases_eq (who_of m) c) [ inl q ↦ here s m i q h | inr n ↦ there s m i n h ]

  -- where none of its agents died in the end
  pub none_died : (g : Geometry) (s : State) (ms : List Move) (b : State) → Leads g s ms b → AllLived (agents_of b c) → AllLived (agents_of s c) × NoneDies c (turns_of ms)
  none_died g s [] b run h = (subst (λ (z : State). AllLived (agents_of z c)) (sym run) h, tt)
  none_died g s (m ∷ ms) b run h =
      let later = none_died g (moved s m) ms b run.2 h in
      let now = before s m run.0 later.0 in
      (now.0, now.1 (turns_of ms) later.1)

pub none_both : (c : ℕ) (ts us : List word.Act) → NoneDies c ts → NoneDies c us → NoneDies c (ts ++ us)
none_both c [] us h g = g
none_both c (word.Steps d a ∷ ts) us h g = none_both c ts us h g
none_both c (word.Dies d ∷ ts) us h g = (h.0, none_both c ts us h.1 g)
none_both c (word.Begins d ∷ ts) us h g = none_both c ts us h g
