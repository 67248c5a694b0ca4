-- the turns that were given to agents that were cut, by the lives that they had
use Rattle.std.proofs.Common.{◌≡◌, ℕ, ◌+◌, ◌<◌, Bool, true, false, cond, List, [], ◌∷◌, take, length, inl, inr, refl, sym, ap, ◌∙◌, subst, arith, true≢false}
use Rattle.std.proofs.lemmas.{List.length-take-le, Option.slice_get_within}
use Rattle.std.specs.Prelude.{if◌then◌else◌, Some, slice_get}
use Rattle.shm_graph.specs.declared.{memo.{Agent.Agent, Fate.Fate}, run.{Account.Account, Start.Start}}
use Rattle.shm_graph.specs.{Agents.{acts, acts_by, last_agent, steps_of}, Runs.{account_died, is_dead}}
use Rattle.shm_graph.proofs.Memos.MemoSteps.{last-append}
use Rattle.shm_script.specs.{declared.line.Line.Line, Values.Scripted}
use Rattle.shm_agents.specs.declared.agents.Standing.TheVariants.{AtWork, Dead, Gone}
use Rattle.shm_agents.specs.Agents.{Fallen, Fresh, IsFallen, Mended, Mending, Parted, Playing, Plays, Stage, AgentsStand}
use Rattle.shm_agents.specs.{Courses.{AreAgents, AreRecoverers, HasLived}, Cuts.account_cut, Turns.lives_of}
use Rattle.shm_agents.specs.TurnsLeft.{deaths, turns_given, turns_of}
use Rattle.shm_agents.proofs.{Given.given_died, Standing.fell_quiet}
use Rattle.shm_async.specs.Limited.{AreGiven}

-- ---- agents that died, each after the word steps of its life

-- behind one that hasn't died none comes
none_behind : (lives : List ℕ) (agents : List Agent) (begun : List (List (List ℕ))) → AreRecoverers false lives agents begun true → ⊥
none_behind lives [] [] h = true≢false h
none_behind lives [] (b ∷ begun) h = h
none_behind lives (a ∷ agents) begun h = h

-- an agent that died behind which further ones come, or none
pub lived_died : (n : ℕ) (a : Agent) (lives : List ℕ) (agents : List Agent) (begun : List (List (List ℕ))) → HasLived n a → AreRecoverers (is_dead a.fate) lives agents begun true → (is_dead a.fate ≡ true) × (a.steps ≡ n)
lived_died n a lives agents begun (inl d) rest = (ap is_dead d.0, d.1)
lived_died n a lives agents begun (inr d) rest = absurd (none_behind lives agents begun (subst (λ (f : Fate). AreRecoverers (is_dead f) lives agents begun true) d.0 rest))

one_sum : (n k steps all died rest : ℕ) → steps ≡ n → k ≡ all + rest → died ≡ 1 → n + 1 + k ≡ steps + all + (died + rest)
one_sum n k steps all died rest same others one = omega arith

one_more : (n k : ℕ) (a : Agent) (agents : List Agent) → is_dead a.fate ≡ true → a.steps ≡ n → k ≡ steps_of agents + deaths agents → n + 1 + k ≡ steps_of (a ∷ agents) + deaths (a ∷ agents)
one_more n k a agents dead steps same =
    one_sum n k a.steps (steps_of agents) (if is_dead a.fate then 1 else 0) (deaths agents) steps same (ap (λ (b : Bool). if b then 1 else 0) dead)

recoverers_given : (died : Bool) (lives : List ℕ) (agents : List Agent) (begun : List (List (List ℕ))) → AreRecoverers died lives agents begun true → turns_of lives ≡ steps_of agents + deaths agents
recoverers_given false lives agents begun h = absurd (none_behind lives agents begun h)
recoverers_given true [] [] [] h = refl
recoverers_given true [] [] (b ∷ begun) h = absurd h
recoverers_given true [] (a ∷ agents) begun h = absurd h
recoverers_given true (n ∷ lives) [] begun h = absurd h
recoverers_given true (n ∷ lives) (a ∷ agents) [] h = absurd h
recoverers_given true (n ∷ lives) (a ∷ agents) (b ∷ begun) (kind, lived, line, rest) =
    let died = lived_died n a lives agents begun lived rest in
    one_more n (turns_of lives) a agents died.0 died.1 (recoverers_given (is_dead a.fate) lives agents begun rest)

-- their turns are their word steps and their deaths
pub lives_given : (lines : List Line) (lives : List ℕ) (agents : List Agent) (begun : List (List (List ℕ))) → AreAgents lines lives agents begun true → turns_of lives ≡ steps_of agents + deaths agents
lives_given lines [] agents begun h = absurd h
lives_given lines (n ∷ lives) [] begun h = absurd h
lives_given lines (n ∷ lives) (a ∷ agents) [] h = absurd h
lives_given lines (n ∷ lives) (a ∷ agents) (b ∷ begun) (kind, lived, line, rest) =
    let died = lived_died n a lives agents begun lived rest in
    one_more n (turns_of lives) a agents died.0 died.1 (recoverers_given (is_dead a.fate) lives agents begun rest)

same_front : (n m : ℕ) (xs ys : List ℕ) → n ≡ m → xs ≡ ys → n ∷ xs ≡ m ∷ ys
same_front n m xs ys e f = (λ i. e i ∷ f i)

recoverers_same : (died : Bool) (xs ys : List ℕ) (agents : List Agent) (begun : List (List (List ℕ))) → AreRecoverers died xs agents begun true → AreRecoverers died ys agents begun true → xs ≡ ys
recoverers_same false xs ys agents begun h k = absurd (none_behind xs agents begun h)
recoverers_same true [] [] agents begun h k = refl
recoverers_same true [] (m ∷ ys) [] [] h k = absurd k
recoverers_same true [] (m ∷ ys) [] (b ∷ begun) h k = absurd h
recoverers_same true [] (m ∷ ys) (a ∷ agents) begun h k = absurd h
recoverers_same true (n ∷ xs) [] [] [] h k = absurd h
recoverers_same true (n ∷ xs) [] [] (b ∷ begun) h k = absurd h
recoverers_same true (n ∷ xs) [] (a ∷ agents) begun h k = absurd k
recoverers_same true (n ∷ xs) (m ∷ ys) [] begun h k = absurd h
recoverers_same true (n ∷ xs) (m ∷ ys) (a ∷ agents) [] h k = absurd h
recoverers_same true (n ∷ xs) (m ∷ ys) (a ∷ agents) (b ∷ begun) h k =
    same_front n m xs ys (sym (lived_died n a xs agents begun h.1 h.3).1 ∙ (lived_died m a ys agents begun k.1 k.3).1) (recoverers_same (is_dead a.fate) xs ys agents begun h.3 k.3)

-- the lives of agents all of which died are told by the agents
pub lives_same : (lines : List Line) (xs ys : List ℕ) (agents : List Agent) (begun : List (List (List ℕ))) → AreAgents lines xs agents begun true → AreAgents lines ys agents begun true → xs ≡ ys
lives_same lines [] ys agents begun h k = absurd h
lives_same lines (n ∷ xs) [] agents begun h k = absurd k
lives_same lines (n ∷ xs) (m ∷ ys) [] begun h k = absurd h
lives_same lines (n ∷ xs) (m ∷ ys) (a ∷ agents) [] h k = absurd h
lives_same lines (n ∷ xs) (m ∷ ys) (a ∷ agents) (b ∷ begun) h k =
    same_front n m xs ys (sym (lived_died n a xs agents begun h.1 h.3).1 ∙ (lived_died m a ys agents begun k.1 k.3).1) (recoverers_same (is_dead a.fate) xs ys agents begun h.3 k.3)

none_begun : (lines : List Line) (lives : List ℕ) (begun : List (List (List ℕ))) → AreAgents lines lives [] begun true → ⊥
none_begun lines [] begun h = h
none_begun lines (n ∷ lives) begun h = h

-- ---- a cut

module _ (start : Start) (s : Scripted) (x : Playing) (e : Account) (stands : AgentsStand start s x e) (here : x.standing ≡ AtWork) (lives : List ℕ) (died : AreAgents s.lines lives (account_cut e).memo.agents (account_cut e).begun true) where
  abbrev all : List ℕ
  all = lives_of s.life

  -- of the agents as they are after it
  given_after : turns_of lives ≡ turns_given (account_cut e)
  given_after = lives_given s.lines lives (account_cut e).memo.agents (account_cut e).begun died

  cut_acting : acts e.memo ≡ true → AreGiven all lives (turns_given e)
  cut_acting acting =
      let same : account_cut e ≡ account_died e = ap (λ (b : Bool). cond b (account_died e) e) acting in
      inl (sym (given_died e acting) ∙ (ap turns_given (sym same) ∙ sym given_after))

  cut_between : acts e.memo ≡ false → IsFallen s x e → AreGiven all lives (turns_given e)
  cut_between quiet h =
      let same : account_cut e ≡ e = ap (λ (b : Bool). cond b (account_died e) e) quiet in
      let its : AreAgents s.lines lives e.memo.agents e.begun true = subst (λ (a : Account). AreAgents s.lines lives a.memo.agents a.begun true) same died in
      let front : lives ≡ take x.agent all = lives_same s.lines lives (take x.agent all) e.memo.agents e.begun its h.died in
      let next : slice_get all x.agent ≡ Some x.life.left = elim h.next [
        | inl d ↦ (let z : AtWork ≡ Dead = sym here ∙ d.0 in absurd (cc))
        | inr w ↦ w.1
      ] in
      let few : x.agent < length all = slice_get_within all x.agent x.life.left next in
      let many : length lives ≡ x.agent = ap length front ∙ length-take-le x.agent all (omega arith) in
      inr (
        ap turns_given (sym same) ∙ sym given_after,
        front ∙ ap (λ (k : ℕ). take k all) (sym many),
        omega arith,
      )

  -- one of them had begun
  pub cut_given : AreGiven all lives (turns_given e)
  cut_given = go stands.stage
    where
      go : Stage start s x e → AreGiven all lives (turns_given e)
      go (Fresh f) =
          let same : account_cut e ≡ e = ap (λ (b : Bool). cond b (account_died e) e) (ap (λ (a : Account). acts a.memo) f.account) in
          absurd (none_begun s.lines lives (account_cut e).begun (subst (λ (xs : List Agent). AreAgents s.lines lives xs (account_cut e).begun true) (ap (λ (a : Account). a.memo.agents) (same ∙ f.account)) died))
      go (Plays h) = cut_acting (ap (λ (xs : List Agent). acts_by (last_agent xs)) h.agents)
      go (Parted h) = let z : AtWork ≡ Gone = sym here ∙ h.left in absurd (cc)
      go (Fallen h l) = cut_between (fell_quiet (last_agent e.memo.agents) h.fell) h
      go (Mending h l) = cut_acting (ap (λ (xs : List Agent). acts_by (last_agent xs)) h.agents ∙ ap acts_by (last-append h.before _))
      go (Mended h l) = let z : AtWork ≡ Gone = sym here ∙ h.recovered in absurd (cc)
