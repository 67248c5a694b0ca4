-- an agent that died, by the lives of those before it: each of these died with the last word step of its life
use Rattle.std.proofs.Common.{◌≡◌, ℕ, ◌+◌, ◌^◌, ◌<◌, ◌≤◌, Bool, true, false, eqb, List, [], ◌∷◌, ◌++◌, length, take, refl, sym, ap, ◌∙◌, subst, arith, inl, inr}
use Rattle.std.proofs.lemmas.Bool.{cond-false, cond-true, false≢true}
use Rattle.std.specs.{Prelude.{Some, slice_index}, List.AllByRecursion}
use Rattle.shm_agents.specs.{Courses.{AreAgents, AreRecoverers, HasLived}, Cuts.AreCut, Turns.{lives_of, script_in}}
use Rattle.shm_agents.specs.TurnsLeft.{turns_of}
use Rattle.shm_async.specs.Limited.{AreGiven}
use Rattle.shm_graph.specs.{declared.memo.{Agent.Agent, Fate.Fate}, Agents.steps_of, Runs.is_dead}
use Rattle.shm_graph.specs.declared.memo.Fate.TheVariants as fate
use Rattle.shm_script.specs.{declared.line.Line.Line, Ranges.{IsLife, ScriptFits}, Values.Scripted}
use Rattle.shm_team.specs.Visits.{AreClosers}
use Rattle.shm_outcomes.proofs.{Crewing.{lived_died, none_more}, Cutting.{MayBeCut, some_same}, Elements.head_same}

-- ---- who died is of the script, and no visitor

none_there : (before : List Agent) (a : Agent) (behind : List Agent) → [] ≡ before ++ a ∷ behind → ⊥
none_there [] a behind e = cc
none_there (b ∷ before) a behind e = cc

tail_same : {A : Type 0} (x y : A) (xs ys : List A) → x ∷ xs ≡ y ∷ ys → xs ≡ ys
tail_same x y xs ys e = cc

not_both : (f : Fate) → f ≡ fate.Ended → f ≡ fate.Died → ⊥
not_both f ended died = false≢true (ap is_dead (sym ended ∙ died))

visitors_end : (dead : Bool) (others : List Agent) (lines : List (List (List ℕ))) → AreClosers dead others lines → (before : List Agent) (a : Agent) (behind : List Agent) → others ≡ before ++ a ∷ behind → a.fate ≡ fate.Ended
visitors_end true [] lines h before a behind is = absurd h
visitors_end true (c ∷ others) [] h before a behind is = absurd h
visitors_end true (c ∷ others) (b ∷ bs) h [] a behind is = ap (λ (z : Agent). z.fate) (sym (head_same c a others behind is)) ∙ h.1
visitors_end true (c ∷ others) (b ∷ bs) h (x ∷ before) a behind is = visitors_end false others bs h.3 before a behind (tail_same c x others (before ++ a ∷ behind) is)
visitors_end false [] lines h before a behind is = absurd h
visitors_end false (c ∷ []) [] h before a behind is = absurd h
visitors_end false (c ∷ []) (b ∷ []) h [] a behind is = ap (λ (z : Agent). z.fate) (sym (head_same c a [] behind is)) ∙ h.1
visitors_end false (c ∷ []) (b ∷ []) h (x ∷ before) a behind is = absurd (none_there before a behind (tail_same c x [] (before ++ a ∷ behind) is))
visitors_end false (c ∷ []) (b ∷ d ∷ bs) h before a behind is = absurd h
visitors_end false (c ∷ d ∷ others) lines h before a behind is = absurd h

-- ---- the lives of those before it

-- these agents made just the word steps of these lives, one by one, and so did the one behind them
abbrev pub HaveLived : List ℕ → List Agent → Agent → Type 0
HaveLived [] before a = ⊥
HaveLived (n ∷ lives) [] a = a.steps ≡ n
HaveLived (n ∷ lives) (b ∷ before) a = (b.steps ≡ n) × HaveLived lives before a

module _ (others : List Agent) (lines : List (List (List ℕ))) (dead : Bool) (close : AreClosers dead others lines) (a : Agent) (behind : List Agent) (died : a.fate ≡ fate.Died) where
  -- nobody dies behind an agent that ended
  none_died : (lives : List ℕ) (agents : List Agent) (begun : List (List (List ℕ))) → AreRecoverers false lives agents begun dead → (before : List Agent) → agents ++ others ≡ before ++ a ∷ behind → ⊥
  none_died lives agents begun h before is =
      let none = none_more lives agents begun dead h in
      not_both a.fate (visitors_end dead others lines close before a behind (ap (λ (xs : List Agent). xs ++ others) (sym none.0) ∙ is)) died

  -- the first of some agents, by those behind it
  first_lived : (n : ℕ) (lives : List ℕ) (x : Agent) (more : List Agent) (begun : List (List (List ℕ))) → HasLived n x → AreRecoverers (is_dead x.fate) lives more begun dead → ((rest : List Agent) → more ++ others ≡ rest ++ a ∷ behind → HaveLived lives rest a)
      → (before : List Agent) → x ∷ more ++ others ≡ before ++ a ∷ behind → HaveLived (n ∷ lives) before a
  first_lived n lives x more begun lived next later [] is = lived_died n a (subst (HasLived n) (head_same x a (more ++ others) behind is) lived) died
  first_lived n lives x more begun lived next later (y ∷ before) is = go lived
    where
      rest : more ++ others ≡ before ++ a ∷ behind
      rest = tail_same x y (more ++ others) (before ++ a ∷ behind) is

      go : HasLived n x → HaveLived (n ∷ lives) (y ∷ before) a
      go (inl made) = (ap (λ (z : Agent). z.steps) (sym (head_same x y (more ++ others) (before ++ a ∷ behind) is)) ∙ made.1, later before rest)
      go (inr ended) = absurd (none_died lives more begun (subst (λ (f : Fate). AreRecoverers (is_dead f) lives more begun dead) ended.0 next) before rest)

  recoverers_lived : (fell : Bool) (lives : List ℕ) (agents : List Agent) (begun : List (List (List ℕ))) → AreRecoverers fell lives agents begun dead → (before : List Agent) → agents ++ others ≡ before ++ a ∷ behind → HaveLived lives before a
  recoverers_lived false lives agents begun h before is = absurd (none_died lives agents begun h before is)
  recoverers_lived true [] [] [] h before is = absurd (not_both a.fate (visitors_end dead others lines close before a behind is) died)
  recoverers_lived true [] [] (b ∷ bs) h before is = absurd h
  recoverers_lived true [] (x ∷ more) begun h before is = absurd h
  recoverers_lived true (n ∷ lives) [] begun h before is = absurd h
  recoverers_lived true (n ∷ lives) (x ∷ more) [] h before is = absurd h
  recoverers_lived true (n ∷ lives) (x ∷ more) (b ∷ bs) h before is = first_lived n lives x more bs h.1 h.3 (λ rest e. recoverers_lived (is_dead x.fate) lives more bs h.3 rest e) before is

  pub agents_lived : (ls : List Line) (lives : List ℕ) (agents : List Agent) (begun : List (List (List ℕ))) → AreAgents ls lives agents begun dead → (before : List Agent) → agents ++ others ≡ before ++ a ∷ behind → HaveLived lives before a
  agents_lived ls [] agents begun h before is = absurd h
  agents_lived ls (n ∷ lives) [] begun h before is = absurd h
  agents_lived ls (n ∷ lives) (x ∷ more) [] h before is = absurd h
  agents_lived ls (n ∷ lives) (x ∷ more) (b ∷ bs) h before is = first_lived n lives x more bs h.1 h.3 (λ rest e. recoverers_lived (is_dead x.fate) lives more bs h.3 rest e) before is

-- ---- one that died before its life was made was given up

-- no life is longer than 2^40
abbrev IsSmall : ℕ → Type 0
IsSmall n = n ≤ 2 ^ 40

with_last : (life : List ℕ) → AllByRecursion IsLife life → AllByRecursion IsSmall (life ++ 2 ^ 40 ∷ [])
with_last [] h = (omega arith, tt)
with_last (n ∷ life) h = (h.0.1, with_last life h.1)

small_lives : (life : List ℕ) → AllByRecursion IsLife life → AllByRecursion IsSmall (lives_of life)
small_lives [] h = (omega arith, (omega arith, tt))
small_lives (n ∷ life) h = (h.0.1, with_last life h.1)

-- the agents up to it were given so many turns: one for each word step, and one for each death before its own
given_up : (all lives : List ℕ) (turns : ℕ) (before : List Agent) (a : Agent) → AllByRecursion IsSmall all → AreCut all lives → AreGiven all lives turns → HaveLived (lives ++ 2 ^ 40 ∷ []) before a → a.steps < slice_index all (length before) → steps_of before + length before + a.steps ≡ turns
given_up [] lives turns before a small cut given lived less = absurd cut
given_up (k ∷ all) [] turns before a small cut given lived less = absurd cut
given_up (k ∷ all) (j ∷ []) turns [] a small cut (inl e) lived less = let sum : turns + 1 ≡ j + 1 + 0 = e in let made : a.steps ≡ j = lived in omega arith
given_up (k ∷ all) (j ∷ []) turns [] a small cut (inr given) lived less =
    let whole : j ≡ k = head_same j k [] (take 0 all) given.1 in
    let made : a.steps ≡ j = lived in
    let low : a.steps < k = less in
    absurd (omega arith)
given_up (k ∷ []) (j ∷ []) turns (b ∷ []) a small cut given lived less = let low : a.steps < 0 = less in absurd (omega arith)
given_up (k ∷ i ∷ all) (j ∷ []) turns (b ∷ []) a small cut given lived less = let made : a.steps ≡ 2 ^ 40 = lived.1 in let low : a.steps < i = less in let most : i ≤ 2 ^ 40 = small.1.0 in absurd (omega arith)
given_up (k ∷ all) (j ∷ []) turns (b ∷ c ∷ before) a small cut given lived less = absurd lived.1.1
given_up (k ∷ all) (j ∷ i ∷ lives) turns [] a small cut given lived less = let whole : j ≡ k = cut.0 in let made : a.steps ≡ j = lived in let low : a.steps < k = less in absurd (omega arith)
given_up (k ∷ all) (j ∷ i ∷ lives) turns (b ∷ before) a small cut given lived less = go given (λ rest g. given_up all (i ∷ lives) rest before a small.1 cut.1 g lived.1 less)
  where
    -- the agents behind the first one were given `rest` of the turns
    by_rest : (rest : ℕ) → j + 1 + rest ≡ turns → steps_of before + length before + a.steps ≡ rest → steps_of (b ∷ before) + length (b ∷ before) + a.steps ≡ turns
    by_rest rest sum behind = let first : b.steps ≡ j = lived.0 in omega arith

    go : AreGiven (k ∷ all) (j ∷ i ∷ lives) turns → ((rest : ℕ) → AreGiven all (i ∷ lives) rest → steps_of before + length before + a.steps ≡ rest) → steps_of (b ∷ before) + length (b ∷ before) + a.steps ≡ turns
    go (inl e) later = let sum : turns + 1 ≡ j + 1 + (i + 1 + turns_of lives) = e in by_rest (i + turns_of lives) (omega arith) (later (i + turns_of lives) (inl (omega arith)))
    go (inr (e, whole, more)) later =
        let sum : turns ≡ j + 1 + (i + 1 + turns_of lives) = e in
        by_rest (i + 1 + turns_of lives) (omega arith) (later (i + 1 + turns_of lives) (inr (refl, tail_same j k (i ∷ lives) (take (length (i ∷ lives)) all) whole, omega arith)))

-- nobody dies before the life that it has
whole_life : (lives : List ℕ) (before : List Agent) (a : Agent) → HaveLived lives before a → a.steps < slice_index lives (length before) → ⊥
whole_life [] before a lived less = lived
whole_life (n ∷ lives) [] a lived less = let made : a.steps ≡ n = lived in let low : a.steps < n = less in absurd (omega arith)
whole_life (n ∷ lives) (b ∷ before) a lived less = whole_life lives before a lived.1 less

none_cut : (all : List ℕ) → AreCut all [] → ⊥
none_cut [] h = h
none_cut (n ∷ all) h = h

pub given_at : (turns : ℕ) (s r : Scripted) (before : List Agent) (a : Agent) → AllByRecursion IsLife s.life → MayBeCut turns s r → HaveLived (lives_of r.life) before a → a.steps < slice_index (lives_of s.life) (length before) → steps_of before + length before + a.steps ≡ turns
given_at turns s r before a lives (inl same) lived less = absurd (whole_life (lives_of s.life) before a (subst (λ (z : Scripted). HaveLived (lives_of z.life) before a) same lived) less)
given_at turns s r before a lives (inr h) lived less = go r.life h.cut h.given lived
  where
    go : (life : List ℕ) → AreCut (lives_of s.life) life → AreGiven (lives_of s.life) life turns → HaveLived (lives_of life) before a → steps_of before + length before + a.steps ≡ turns
    go [] cut given had = absurd (none_cut (lives_of s.life) cut)
    go (n ∷ life) cut given had = given_up (lives_of s.life) (n ∷ life) turns before a (small_lives s.life lives) cut given had less

-- a script of a trace is in its ranges
pub script_fits : (n : ℕ) (ss : List Scripted) (c : ℕ) (s : Scripted) → AllByRecursion (ScriptFits n) ss → script_in ss c ≡ Some s → ScriptFits n s
script_fits n [] c s all is = absurd (cc)
script_fits n (r ∷ ss) c s all is = go (eqb r.client c) refl (script_fits n ss c s all.1)
  where
    go : (b : Bool) → eqb r.client c ≡ b → (script_in ss c ≡ Some s → ScriptFits n s) → ScriptFits n s
    go true f later = subst (ScriptFits n) (some_same r s (sym (cond-true (eqb r.client c) (Some r) (script_in ss c) f) ∙ is)) all.0
    go false f later = later (sym (cond-false (eqb r.client c) (Some r) (script_in ss c) f) ∙ is)
