-- whether the first agent of an identity died, and when, by the turns alone
use Rattle.std.proofs.Common.{◌≡◌, ◌≢◌, ℕ, ◌+◌, ◌<◌, refl, sym, ap, ◌∙◌, subst, inl, inr, Bool, true, false, cond, List, [], ◌∷◌, ◌++◌}
use Rattle.std.proofs.lemmas.Bool.{cases_eq, cond-true, cond-false, eq-eqb, ne_eqb, true≢false}
use Rattle.std.specs.Prelude.{Option, Some, None}
use Rattle.shm_words.specs.{declared.geometry.Geometry.Geometry, Layout.GeometryFits}
use Rattle.shm_graph.specs.declared.memo.{Agent.Agent, Fate.{Fate, TheVariants.{Acts, Ended, Died}}, Memo.Memo}
use Rattle.shm_graph.specs.declared.{memo.Step.Step, run.{Move.{Move, TheVariants.{Word, Dies, Begins}}, Start.Start}}
use Rattle.shm_graph.specs.Agents.{acts_by, ended, entered, fallen, is_acting, last_agent, stepped, with_last}
use Rattle.shm_graph.specs.Changes.{asked_spot}
use Rattle.shm_graph.specs.Runs.{EraFits, Held, IsMove, Leads, State, Turned, account_at, first_state, memos_of, moved}
use Rattle.shm_graph.proofs.{Memos.MemoSteps.{agents_after, ends_agent}, States.FirstHeld.{first_held, first_memo_of}}
use Rattle.shm_headline.specs.{TurnsOf.turns_of, WordRuns.death_of}
use Rattle.shm_headline.proofs.Moves.{memo_here, memo_there, who_of}

abbrev agents_of : State → ℕ → List Agent
agents_of s c = (memos_of s.accounts c).agents

-- what is shown of an agent that made n word steps
abbrev death_by : ℕ → Fate → Option ℕ
death_by n Died = Some n
death_by n _ = None

-- ---- the agents of one identity after a turn

-- the step ends its agent
abbrev is_over : State → Step → Bool
is_over s t = ends_agent (memos_of s.accounts t.me.who) t (asked_spot (memos_of s.accounts t.me.who) t)

-- its agents after the turn
abbrev after_it : State → Move → List Agent
after_it s (Word t) = agents_after (ends_agent (memos_of s.accounts t.me.who) t (asked_spot (memos_of s.accounts t.me.who) t)) (agents_of s t.me.who)
after_it s (Dies d) = with_last fallen (agents_of s d)
after_it s (Begins d k) = (entered k (memos_of s.accounts d)).agents

module _ (g : Geometry) (s : State) (held : Held g s.words s.accounts) where
  here : (m : Move) → IsMove s m → agents_of (moved s m) (who_of m) ≡ after_it s m
  here (Word t) i = ap (λ (m : Memo). m.agents) (memo_here s (Word t) i)
  here (Dies d) i = ap (λ (m : Memo). m.agents) (memo_here s (Dies d) i)
  here (Begins d k) i = ap (λ (m : Memo). m.agents) (memo_here s (Begins d k) i)

  there : (m : Move) → IsMove s m → (c : ℕ) → who_of m ≢ c → agents_of (moved s m) c ≡ agents_of s c
  there m i c n = ap (λ (m : Memo). m.agents) (memo_there s m i c n)

-- ---- an agent that doesn't act any more stays the first

idle_first : (x : Agent) → is_acting x.fate ≡ false → acts_by (last_agent (x ∷ [])) ≡ true → ⊥
idle_first x n a = true≢false (sym a ∙ n)

first_last : (f : Agent → Agent) (x : Agent) (xs : List Agent) → is_acting x.fate ≡ false → acts_by (last_agent (x ∷ xs)) ≡ true → (ys : List Agent) × (with_last f (x ∷ xs) ≡ x ∷ ys)
first_last f x [] n a = absurd (idle_first x n a)
first_last f x (y ∷ ys) n a = (with_last f (y ∷ ys), refl)

first_after : (gone : Bool) (x : Agent) (xs : List Agent) → is_acting x.fate ≡ false → acts_by (last_agent (x ∷ xs)) ≡ true → (ys : List Agent) × (agents_after gone (x ∷ xs) ≡ x ∷ ys)
first_after false x xs n a = first_last stepped x xs n a
first_after true x [] n a = absurd (idle_first x n a)
first_after true x (y ∷ []) n a = (_, refl)
first_after true x (y ∷ z ∷ zs) n a = (_, refl)

-- ---- what becomes of the first agent of c

module _ (g : Geometry) (c : ℕ) where
  closed_turn : (s : State) (m : Move) → Held g s.words s.accounts → IsMove s m → (x : Agent) (xs : List Agent) → agents_of s c ≡ x ∷ xs → is_acting x.fate ≡ false → (ys : List Agent) × (agents_of (moved s m) c ≡ x ∷ ys)
  closed_turn s m held i x xs e n =
      elim (cases_eq (who_of m) c) [
        | inr d ↦ (xs, there g s held m i c d ∙ e)
        | inl q ↦ (let r = by m i q in (r.0, ap (agents_of (moved s m)) (sym q) ∙ (here g s held m i ∙ r.1)))
      ]
    where
      by : (m : Move) → IsMove s m → who_of m ≡ c → (ys : List Agent) × (after_it s m ≡ x ∷ ys)
      by (Word t) i q =
          let old : agents_of s t.me.who ≡ x ∷ xs = ap (agents_of s) q ∙ e in
          let gone : Bool = ends_agent (memos_of s.accounts t.me.who) t (asked_spot (memos_of s.accounts t.me.who) t) in
          let r = first_after gone x xs n (subst (λ (l : List Agent). acts_by (last_agent l) ≡ true) old i.1) in
          (r.0, ap (agents_after gone) old ∙ r.1)
      by (Dies d) i q =
          let old : agents_of s d ≡ x ∷ xs = ap (agents_of s) q ∙ e in
          let r = first_last fallen x xs n (subst (λ (l : List Agent). acts_by (last_agent l) ≡ true) old i) in
          (r.0, ap (with_last fallen) old ∙ r.1)
      by (Begins d k) i q =
          let old : agents_of s d ≡ x ∷ xs = ap (agents_of s) q ∙ e in
          (xs ++ record { kind = k; steps = 0; fate = Acts } ∷ [], ap (λ (l : List Agent). l ++ record { kind = k; steps = 0; fate = Acts } ∷ []) old)

  closed : (s : State) (ms : List Move) (b : State) → Held g s.words s.accounts → Leads g s ms b → (x : Agent) (xs : List Agent) → agents_of s c ≡ x ∷ xs → is_acting x.fate ≡ false → (ys : List Agent) × (agents_of b c ≡ x ∷ ys)
  closed s [] b held run x xs e n = (xs, ap (λ (z : State). agents_of z c) (sym run) ∙ e)
  closed s (m ∷ ms) b held run x xs e n = let r = closed_turn s m held run.0 x xs e n in closed (moved s m) ms b run.1.held run.2 x r.0 r.1 n

  first_of_both : (xs : List Agent) (x y : Agent) (l k : List Agent) → xs ≡ x ∷ l → xs ≡ y ∷ k → x ≡ y
  first_of_both xs x y l k p q = cc

  -- an agent that acts hasn't died
  acting_lives : (n : ℕ) (f : Fate) → is_acting f ≡ true → None ≡ death_by n f
  acting_lives n Acts e = refl
  acting_lives n _ e = absurd (true≢false (sym e))

  -- the turns of others
  other_turn : (m : Move) (ms : List Move) (begun : Bool) (n : ℕ) → who_of m ≢ c → death_of c begun n (turns_of (m ∷ ms)) ≡ death_of c begun n (turns_of ms)
  other_turn (Word t) ms begun n d = ap (λ (b : Bool). death_of c begun (cond b (n + 1) n) (turns_of ms)) (ne_eqb t.me.who c d)
  other_turn (Dies k) ms begun n d = cond-false _ _ _ (ne_eqb k c d)
  other_turn (Begins k kind) ms begun n d = cond-false _ _ _ (ne_eqb k c d)

  -- once the only agent doesn't act any more, the next turn is the beginning of another one
  over : (b s : State) (ms : List Move) → Held g s.words s.accounts → Leads g s ms b → (x : Agent) → agents_of s c ≡ x ∷ [] → is_acting x.fate ≡ false → (n : ℕ) → death_of c true n (turns_of ms) ≡ None
  over b s [] held run x e idle n = refl
  over b s (m ∷ ms) held run x e idle n =
      elim (cases_eq (who_of m) c) [
        | inr d ↦ other_turn m ms true n d ∙ over b (moved s m) ms run.1.held run.2 x (there g s held m run.0 c d ∙ e) idle n
        | inl q ↦ by m run.0 q
      ]
    where
      acts_here : (d : ℕ) → d ≡ c → acts_by (last_agent (agents_of s d)) ≡ true → ⊥
      acts_here d q i = idle_first x idle (subst (λ (l : List Agent). acts_by (last_agent l) ≡ true) (ap (agents_of s) q ∙ e) i)

      by : (m : Move) → IsMove s m → who_of m ≡ c → death_of c true n (turns_of (m ∷ ms)) ≡ None
      by (Word t) i q = absurd (acts_here t.me.who q i.1)
      by (Dies d) i q = absurd (acts_here d q i)
      by (Begins d k) i q = cond-true _ _ _ (eq-eqb d c q)

  module _ (b : State) (a : Agent) (others : List Agent) (end : agents_of b c ≡ a ∷ others) where
    -- where the first agent acts, the turns that are left show whether it dies, and how many word steps it makes before
    abbrev ActsOn : State → List Move → Type 0
    ActsOn s ms = (x : Agent) → agents_of s c ≡ x ∷ [] → is_acting x.fate ≡ true → death_of c true x.steps (turns_of ms) ≡ death_by a.steps a.fate

    same_death : (s : State) (ms : List Move) → Held g s.words s.accounts → Leads g s ms b → (x : Agent) → agents_of s c ≡ x ∷ [] → is_acting x.fate ≡ false → death_by x.steps x.fate ≡ death_by a.steps a.fate
    same_death s ms held run x e idle =
        let r = closed s ms b held run x [] e idle in
        ap (λ (y : Agent). death_by y.steps y.fate) (first_of_both (agents_of b c) x a r.0 others r.1 end)

    acting_turn : (s : State) (ms : List Move) → Held g s.words s.accounts → (x : Agent) → agents_of s c ≡ x ∷ [] → is_acting x.fate ≡ true → (m : Move) → IsMove s m → Turned g s m → Leads g (moved s m) ms b → ActsOn (moved s m) ms → who_of m ≡ c → death_of c true x.steps (turns_of (m ∷ ms)) ≡ death_by a.steps a.fate
    acting_turn s ms held x e acts (Word t) i turned run on q = ap (λ (y : Bool). death_of c true (cond y (x.steps + 1) x.steps) (turns_of ms)) (eq-eqb t.me.who c q) ∙ go (is_over s t) refl
      where
        new : agents_of (moved s (Word t)) c ≡ agents_after (is_over s t) (x ∷ [])
        new = ap (agents_of (moved s (Word t))) (sym q) ∙ (here g s held (Word t) i ∙ ap (agents_after (is_over s t)) (ap (agents_of s) q ∙ e))

        go : (z : Bool) → is_over s t ≡ z → death_of c true (x.steps + 1) (turns_of ms) ≡ death_by a.steps a.fate
        go false p = on (stepped x) (new ∙ ap (λ (z : Bool). agents_after z (x ∷ [])) p) acts
        go true p =
            let now : agents_of (moved s (Word t)) c ≡ ended (stepped x) ∷ [] = new ∙ ap (λ (z : Bool). agents_after z (x ∷ [])) p in
            over b (moved s (Word t)) ms turned.held run (ended (stepped x)) now refl (x.steps + 1) ∙ same_death (moved s (Word t)) ms turned.held run (ended (stepped x)) now refl
    acting_turn s ms held x e acts (Dies d) i turned run on q =
        let now : agents_of (moved s (Dies d)) c ≡ fallen x ∷ [] = ap (agents_of (moved s (Dies d))) (sym q) ∙ (here g s held (Dies d) i ∙ ap (with_last fallen) (ap (agents_of s) q ∙ e)) in
        cond-true _ _ _ (eq-eqb d c q) ∙ same_death (moved s (Dies d)) ms turned.held run (fallen x) now refl
    acting_turn s ms held x e acts (Begins d k) i turned run on q =
        absurd (true≢false (sym acts ∙ (ap (λ (l : List Agent). acts_by (last_agent l)) (sym (ap (agents_of s) q ∙ e)) ∙ i.1)))

    acting : (s : State) (ms : List Move) → Held g s.words s.accounts → Leads g s ms b → ActsOn s ms
    acting s [] held run x e acts =
        let same : x ≡ a = first_of_both (agents_of b c) x a [] others (ap (λ (z : State). agents_of z c) (sym run) ∙ e) end in
        acting_lives x.steps x.fate acts ∙ ap (λ (y : Agent). death_by y.steps y.fate) same
    acting s (m ∷ ms) held run x e acts =
        elim (cases_eq (who_of m) c) [
          | inr d ↦ other_turn m ms true x.steps d ∙ acting (moved s m) ms run.1.held run.2 x (there g s held m run.0 c d ∙ e) acts
          | inl q ↦ acting_turn s ms held x e acts m run.0 run.1 run.2 (λ y f z. acting (moved s m) ms run.1.held run.2 y f z) q
        ]

    -- nobody has joined yet
    none_yet : (s : State) (ms : List Move) → Held g s.words s.accounts → Leads g s ms b → agents_of s c ≡ [] → death_of c false 0 (turns_of ms) ≡ death_by a.steps a.fate
    none_yet s [] held run e = let z : [] ≡ a ∷ others = sym e ∙ (ap (λ (z : State). agents_of z c) run ∙ end) in cc
    none_yet s (m ∷ ms) held run e =
        elim (cases_eq (who_of m) c) [
          | inr d ↦ other_turn m ms false 0 d ∙ none_yet (moved s m) ms run.1.held run.2 (there g s held m run.0 c d ∙ e)
          | inl q ↦ by m run.0 run.1 run.2 q
        ]
      where
        none : (d : ℕ) → d ≡ c → acts_by (last_agent (agents_of s d)) ≡ true → ⊥
        none d q i = true≢false (sym i ∙ ap (λ (l : List Agent). acts_by (last_agent l)) (ap (agents_of s) q ∙ e))

        by : (m : Move) → IsMove s m → Turned g s m → Leads g (moved s m) ms b → who_of m ≡ c → death_of c false 0 (turns_of (m ∷ ms)) ≡ death_by a.steps a.fate
        by (Word t) i turned run q = absurd (none t.me.who q i.1)
        by (Dies d) i turned run q = absurd (none d q i)
        by (Begins d k) i turned run q =
            cond-true _ _ _ (eq-eqb d c q)
            ∙ acting (moved s (Begins d k)) ms turned.held run (record { kind = k; steps = 0; fate = Acts })
            (ap (agents_of (moved s (Begins d k))) (sym q) ∙ (here g s held (Begins d k) i ∙ ap (λ (l : List Agent). l ++ record { kind = k; steps = 0; fate = Acts } ∷ []) (ap (agents_of s) q ∙ e)))
            refl

death_told : (s : Start) (ms : List Move) (b : State) → GeometryFits s.geometry → EraFits s.first_era → Leads s.geometry (first_state s) ms b → (c : ℕ) (a : Agent) (others : List Agent) → c < s.geometry.clients → (account_at b.accounts c).memo.agents ≡ a ∷ others → death_of c false 0 (turns_of ms) ≡ death_by a.steps a.fate
death_told s ms b f e run c a others l end = none_yet s.geometry c b a others end (first_state s) ms (first_held s f e) run (ap (λ (m : Memo). m.agents) (first_memo_of s c l))

pub died_told : (s : Start) (ms : List Move) (b : State) → GeometryFits s.geometry → EraFits s.first_era → Leads s.geometry (first_state s) ms b → (c : ℕ) (a : Agent) (others : List Agent) → c < s.geometry.clients → (account_at b.accounts c).memo.agents ≡ a ∷ others → a.fate ≡ Died → death_of c false 0 (turns_of ms) ≡ Some a.steps
died_told s ms b f e run c a others l end dead = death_told s ms b f e run c a others l end ∙ ap (death_by a.steps) dead

pub ended_told : (s : Start) (ms : List Move) (b : State) → GeometryFits s.geometry → EraFits s.first_era → Leads s.geometry (first_state s) ms b → (c : ℕ) (a : Agent) (others : List Agent) → c < s.geometry.clients → (account_at b.accounts c).memo.agents ≡ a ∷ others → a.fate ≡ Ended → death_of c false 0 (turns_of ms) ≡ None
ended_told s ms b f e run c a others l end left = death_told s ms b f e run c a others l end ∙ ap (death_by a.steps) left
