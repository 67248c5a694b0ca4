-- the turns of a script's agents, of which each has as many word steps as its life: one is left where it takes a word step, and none where it dies
use Rattle.std.proofs.Common.{◌≡◌, ℕ, zero, suc, ◌+◌, ◌-◌, ◌<◌, ◌≤◌, Bool, true, false, cond, List, [], ◌∷◌, ◌++◌, length, length-append, refl, sym, ap, ◌∙◌, subst, inl, inr, arith}
use Rattle.std.proofs.lemmas.{Bool.true≢false, Option.{get_or_from_slice_get, slice_get_past}}
use Rattle.std.specs.{Prelude.{◌&&◌, Option, Some, None, slice_get, slice_index}, Option.option_map}
use Rattle.shm_graph.specs.declared.{ask.Me.Me, memo.{Agent.Agent, Fate.{Fate, TheVariants.{Acts, Ended, Died}}}}
use Rattle.shm_graph.specs.declared.{memo.{Kind.Kind, Step.Step}, run.{Account.Account, Move.Move}}
use Rattle.shm_graph.specs.declared.run.Move.TheVariants.{Word, Dies, Begins}
use Rattle.shm_graph.specs.Agents.{acts, acts_by, ended, fallen, is_acting, is_gone, last_agent, stepped, with_last}
use Rattle.shm_graph.specs.{Changes.asked_spot, Laws.step_of}
use Rattle.shm_graph.specs.Runs.{account_after, account_along, account_died, account_entered, fell_by, is_dead}
use Rattle.shm_graph.proofs.Memos.MemoSteps.{agents_after, last-append, memo_agents}
use Rattle.shm_plain.specs.{Tracks.kind_next, Working.ready_account}
use Rattle.shm_script.specs.{declared.line.Line.Line, Values.Scripted}
use Rattle.shm_agents.specs.Courses.{AreAgents, AreRecoverers, AreScriptAgents, HasLived}
use Rattle.shm_agents.specs.Taken.{AreTaken, IsNext, work_next}
use Rattle.shm_agents.specs.Turns.{agent_of, ended_by, first_of, is_ended, life_of, lives_of, next_by, steps_by, steps_of_agent, work_at}
use Rattle.shm_agents.specs.Work.{Work, work_control, work_of}
use Rattle.shm_agents.proofs.{Courses.{agents_fell, agents_many, agents_some}, Growing.with_last-end}
use Rattle.shm_agents.proofs.Standing.{next_coming, next_ended}

-- ---- the turns, with lives

-- what is accounted for of the identity after a turn: a beginning counts with the word step behind it
abbrev pub account_given : Account → Move → Account
account_given e (Word t) = account_after (ready_account e) t
account_given e (Dies c) = account_died e
account_given e (Begins c k) = e

abbrev pub accounts_given : Account → List Move → Account
accounts_given e [] = e
accounts_given e (m ∷ ms) = accounts_given (account_given e m) ms

-- the word step of what is to be done next, while the agent has one left, and otherwise its death; and the next one begins before its first word step
abbrev pub IsGiven : Me → Scripted → Account → Move → Type 0
IsGiven me s e (Word t) = (w : Work) × (next_by me s e ≡ Some w) × (0 < life_of s e.memo) × (t ≡ step_of work_control w t.seen)
IsGiven me s e (Dies c) = (acts e.memo ≡ true) × (life_of s e.memo ≡ 0)
IsGiven me s e (Begins c k) = (w : Work) × (next_by me s e ≡ Some w) × (acts e.memo ≡ false) × (k ≡ kind_next e.memo)

abbrev pub AreGiven : Me → Scripted → Account → List Move → Type 0
AreGiven me s e [] = Unit {0}
AreGiven me s e (m ∷ ms) = IsGiven me s e m × AreGiven me s (account_given e m) ms

-- ---- agents that come of others

-- b is what came of a, which made no more word steps once it had died
abbrev Last : Agent → Agent → Type 0
Last a b = (a.steps ≤ b.steps) × (is_dead a.fate ≡ true → (a.steps ≡ b.steps) × (is_dead b.fate ≡ true))

-- the agents ys come of xs, of which only the last one may have made more word steps
abbrev pub Upto : List Agent → List Agent → Type 0
Upto [] ys = Unit {0}
Upto (a ∷ xs) [] = ⊥
Upto (a ∷ []) (b ∷ ys) = (a.steps ≤ b.steps) × (is_dead a.fate ≡ true → (a.steps ≡ b.steps) × (is_dead b.fate ≡ true))
Upto (a ∷ c ∷ xs) (b ∷ ys) = (a.steps ≡ b.steps) × (is_dead a.fate ≡ true → is_dead b.fate ≡ true) × Upto (c ∷ xs) ys

upto_same : (xs : List Agent) → Upto xs xs
upto_same [] = tt
upto_same (a ∷ []) = (omega arith, λ d. (refl, d))
upto_same (a ∷ c ∷ xs) = (refl, λ d. d, upto_same (c ∷ xs))

-- what came of the last one
upto_last : (front : List Agent) (a : Agent) (ys : List Agent) → Upto (front ++ a ∷ []) ys → (b : Agent) × (slice_get ys (length front) ≡ Some b) × Last a b
upto_last [] a [] h = absurd h
upto_last [] a (b ∷ ys) h = (b, refl, h)
upto_last (x ∷ []) a [] h = absurd h
upto_last (x ∷ y ∷ front) a [] h = absurd h
upto_last (x ∷ []) a (b ∷ ys) h = upto_last [] a ys h.2
upto_last (x ∷ y ∷ front) a (b ∷ ys) h = upto_last (y ∷ front) a ys h.2

-- another one in its place
upto_with : (front : List Agent) (a c : Agent) (ys : List Agent) → ((b : Agent) → Last a b → Last c b) → Upto (front ++ a ∷ []) ys → Upto (front ++ c ∷ []) ys
upto_with [] a c [] f h = absurd h
upto_with [] a c (b ∷ ys) f h = f b h
upto_with (x ∷ []) a c [] f h = absurd h
upto_with (x ∷ y ∷ front) a c [] f h = absurd h
upto_with (x ∷ []) a c (b ∷ ys) f h = (h.0, h.1, upto_with [] a c ys f h.2)
upto_with (x ∷ y ∷ front) a c (b ∷ ys) f h = (h.0, h.1, upto_with (y ∷ front) a c ys f h.2)

-- without it
upto_front : (front : List Agent) (a : Agent) (ys : List Agent) → Upto (front ++ a ∷ []) ys → Upto front ys
upto_front [] a ys h = tt
upto_front (x ∷ []) a [] h = absurd h
upto_front (x ∷ []) a (b ∷ ys) h = (let e = h.0 in omega arith, λ d. (h.0, h.1 d))
upto_front (x ∷ y ∷ front) a [] h = absurd h
upto_front (x ∷ y ∷ front) a (b ∷ ys) h = (h.0, h.1, upto_front (y ∷ front) a ys h.2)

-- ---- lives

recoverers_at : (b : Bool) (lives : List ℕ) (agents : List Agent) (begun : List (List (List ℕ))) (dead : Bool) → AreRecoverers b lives agents begun dead → (i : ℕ) (a : Agent) → slice_get agents i ≡ Some a → (n : ℕ) × (slice_get lives i ≡ Some n) × HasLived n a
recoverers_at b lives [] begun dead h i a at = absurd (cc)
recoverers_at false lives (x ∷ agents) begun dead h i a at = absurd h
recoverers_at true [] (x ∷ agents) begun dead h i a at = absurd h
recoverers_at true (n ∷ lives) (x ∷ agents) [] dead h i a at = absurd h
recoverers_at true (n ∷ lives) (x ∷ agents) (b ∷ begun) dead h zero a at = let e : x ≡ a = cc in (n, refl, subst (HasLived n) e h.1)
recoverers_at true (n ∷ lives) (x ∷ agents) (b ∷ begun) dead h (suc i) a at = recoverers_at (is_dead x.fate) lives agents begun dead h.3 i a at

-- each agent of a script has a life
lived_at : (lines : List Line) (lives : List ℕ) (agents : List Agent) (begun : List (List (List ℕ))) (dead : Bool) → AreAgents lines lives agents begun dead → (i : ℕ) (a : Agent) → slice_get agents i ≡ Some a → (n : ℕ) × (slice_get lives i ≡ Some n) × HasLived n a
lived_at lines lives [] begun dead h i a at = absurd (cc)
lived_at lines [] (x ∷ agents) begun dead h i a at = absurd h
lived_at lines (n ∷ lives) (x ∷ agents) [] dead h i a at = absurd h
lived_at lines (n ∷ lives) (x ∷ agents) (b ∷ begun) dead h zero a at = let e : x ≡ a = cc in (n, refl, subst (HasLived n) e h.1)
lived_at lines (n ∷ lives) (x ∷ agents) (b ∷ begun) dead h (suc i) a at = recoverers_at (is_dead x.fate) lives agents begun dead h.3 i a at

most : (n : ℕ) (a : Agent) → HasLived n a → a.steps ≤ n
most n a (inl h) = let e = h.1 in omega arith
most n a (inr h) = h.1

dead_all : (n : ℕ) (a : Agent) → HasLived n a → is_dead a.fate ≡ true → a.steps ≡ n
dead_all n a (inl h) d = h.1
dead_all n a (inr h) d = absurd (true≢false (sym d ∙ ap is_dead h.0))

-- ---- an account of which an agent acts

-- the agent that acts is the last one
pub record ActsNow (e : Account) : Type 0 where
  pub front : List Agent
  pub a : Agent
  pub agents : e.memo.agents ≡ front ++ a ∷ []
  pub fate : a.fate ≡ Acts

acting_last : (xs : List Agent) → acts_by (last_agent xs) ≡ true → (front : List Agent) × (a : Agent) × (xs ≡ front ++ a ∷ []) × (a.fate ≡ Acts)
acting_last [] e = absurd (cc)
acting_last (a ∷ []) e = ([], a, refl, is_acts a.fate e)
  where
    is_acts : (f : Fate) → is_acting f ≡ true → f ≡ Acts
    is_acts Acts e = refl
    is_acts Ended e = absurd (cc)
    is_acts Died e = absurd (cc)
acting_last (x ∷ y ∷ xs) e = let h = acting_last (y ∷ xs) e in (x ∷ h.0, h.1, ap (λ zs. x ∷ zs) h.2, h.3)

acts_now : (e : Account) → acts e.memo ≡ true → ActsNow e
acts_now e h = let x = acting_last e.memo.agents h in record { front = x.0; a = x.1; agents = x.2; fate = x.3 }

alive : (a : Agent) → a.fate ≡ Acts → is_dead a.fate ≡ false
alive a e = ap is_dead e

module _ (e : Account) (n : ActsNow e) where
  abbrev front : List Agent
  front = n.front

  acting_is : acts e.memo ≡ true
  acting_is = ap acts_by (ap last_agent n.agents ∙ last-append n.front n.a) ∙ ap is_acting n.fate

  number : agent_of e.memo ≡ length n.front
  number =
      let long : length e.memo.agents ≡ length n.front + 1 = ap length n.agents ∙ length-append n.front (n.a ∷ []) in
      ap (λ (b : Bool). cond b (length e.memo.agents - 1) (length e.memo.agents)) acting_is ∙ (omega arith)

  made_steps : steps_of_agent e.memo ≡ n.a.steps
  made_steps = ap (λ (b : Bool). cond b (steps_by (last_agent e.memo.agents)) 0) acting_is ∙ ap steps_by (ap last_agent n.agents ∙ last-append n.front n.a)

  -- after one more word step the last one made one more
  upto_word : (t : Step) (ys : List Agent) → Upto (account_after e t).memo.agents ys → Upto e.memo.agents ys × ((b : Agent) × (slice_get ys (length n.front) ≡ Some b) × (n.a.steps + 1 ≤ b.steps))
  upto_word t ys h = go (is_gone (account_after e t).memo.status && t.ends) (subst (λ xs. Upto (agents_after (is_gone (account_after e t).memo.status && t.ends) xs) ys) n.agents (subst (λ xs. Upto xs ys) (memo_agents e.memo t (asked_spot e.memo t)) h))
    where
      by : (c : Agent) → c.steps ≡ n.a.steps + 1 → Upto (n.front ++ c ∷ []) ys → Upto e.memo.agents ys × ((b : Agent) × (slice_get ys (length n.front) ≡ Some b) × (n.a.steps + 1 ≤ b.steps))
      by c more h =
          let x = upto_last n.front c ys h in
          let le = x.2.0 in (
            subst (λ xs. Upto xs ys) (sym n.agents) (upto_with n.front c n.a ys (λ b l. (let m = l.0 in omega arith, λ d. absurd (true≢false (sym d ∙ alive n.a n.fate)))) h),
            (x.0, x.1, omega arith),
          )

      go : (z : Bool) → Upto (agents_after z (n.front ++ n.a ∷ [])) ys → Upto e.memo.agents ys × ((b : Agent) × (slice_get ys (length n.front) ≡ Some b) × (n.a.steps + 1 ≤ b.steps))
      go true h = by (ended (stepped n.a)) refl (subst (λ xs. Upto xs ys) (ap (with_last ended) (with_last-end stepped n.front n.a) ∙ with_last-end ended n.front (stepped n.a)) h)
      go false h = by (stepped n.a) refl (subst (λ xs. Upto xs ys) (with_last-end stepped n.front n.a) h)

  -- after its death it made no more
  upto_death : (ys : List Agent) → Upto (account_died e).memo.agents ys → Upto e.memo.agents ys × ((b : Agent) × (slice_get ys (length n.front) ≡ Some b) × (n.a.steps ≡ b.steps) × (is_dead b.fate ≡ true))
  upto_death ys h =
      let at : Upto (n.front ++ fallen n.a ∷ []) ys = subst (λ xs. Upto xs ys) (ap (with_last fallen) n.agents ∙ with_last-end fallen n.front n.a) h in
      let x = upto_last n.front (fallen n.a) ys at in
      let d = x.2.1 refl in (
        subst (λ xs. Upto xs ys) (sym n.agents) (upto_with n.front (fallen n.a) n.a ys (λ b l. (l.0, λ d. absurd (true≢false (sym d ∙ alive n.a n.fate)))) at),
        (x.0, x.1, d.0, d.1),
      )

-- ---- all turns

module _ (me : Me) (s : Scripted) (left : Account) (dead : Bool) (all : AreScriptAgents s left.memo.agents left.begun dead) where
  abbrev ys : List Agent
  ys = left.memo.agents

  left_of : (e : Account) (n : ActsNow e) (k : ℕ) → slice_get (lives_of s.life) (length n.front) ≡ Some k → life_of s e.memo ≡ k - n.a.steps
  left_of e n k at =
      let whole : slice_index (lives_of s.life) (agent_of e.memo) ≡ k = ap (slice_index (lives_of s.life)) (number e n) ∙ get_or_from_slice_get (lives_of s.life) (length n.front) k 0 at in
      let made = made_steps e n in
      omega arith

  -- with lives, what is to be done next is so
  acting_next : (e : Account) (w : Work) → acts e.memo ≡ true → work_next me s.lines e ≡ Some w → next_by me s e ≡ Some w
  acting_next e w acting next =
      ap (λ (b : Bool). cond b (work_at (work_of me s.lines (agent_of e.memo)) e) (cond (ended_by (last_agent e.memo.agents)) None (option_map (λ (k : ℕ). first_of me (agent_of e.memo)) (slice_get (lives_of s.life) (agent_of e.memo))))) acting
      ∙ (sym (ap (λ (b : Bool). cond b (work_at (work_of me s.lines (agent_of e.memo)) e) (cond (ended_by (last_agent e.memo.agents)) None (Some (first_of me (agent_of e.memo))))) acting) ∙ next)

  coming_next : (e : Account) (w : Work) (k : ℕ) → acts e.memo ≡ false → slice_get (lives_of s.life) (agent_of e.memo) ≡ Some k → work_next me s.lines e ≡ Some w → next_by me s e ≡ Some w
  coming_next e w k = go (acts e.memo) (ended_by (last_agent e.memo.agents)) (slice_get (lives_of s.life) (agent_of e.memo))
    where
      go : (a b : Bool) (o : Option ℕ) → a ≡ false → o ≡ Some k → cond a (work_at (work_of me s.lines (agent_of e.memo)) e) (cond b None (Some (first_of me (agent_of e.memo)))) ≡ Some w → cond a (work_at (work_of me s.lines (agent_of e.memo)) e) (cond b None (option_map (λ (life : ℕ). first_of me (agent_of e.memo)) o)) ≡ Some w
      go true b o i at next = absurd (true≢false i)
      go false true o i at next = absurd (cc)
      go false false None i at next = absurd (cc)
      go false false (Some j) i at next = next

  -- a word step of the agent that acts, of which this is left
  word_given : (e : Account) (t : Step) → acts e.memo ≡ true → IsNext me s.lines e t → Upto (account_after e t).memo.agents ys → Upto e.memo.agents ys × IsGiven me s e (Word t)
  word_given e t acting next u =
      let n = acts_now e acting in
      let x = upto_word e n t ys u in
      let k = lived_at s.lines (lives_of s.life) ys left.begun dead all (length n.front) x.1.0 x.1.1 in
      let few = most k.0 x.1.0 k.2 in
      let more = x.1.2 in
      let life = left_of e n k.0 k.1 in
      (x.0, (next.0, acting_next e next.0 acting next.1, omega arith, next.2))

  death_given : (e : Account) → acts e.memo ≡ true → (c : ℕ) → Upto (account_died e).memo.agents ys → Upto e.memo.agents ys × IsGiven me s e (Dies c)
  death_given e acting c u =
      let n = acts_now e acting in
      let x = upto_death e n ys u in
      let k = lived_at s.lines (lives_of s.life) ys left.begun dead all (length n.front) x.1.0 x.1.1 in
      let same = dead_all k.0 x.1.0 k.2 x.1.3 in
      let made = x.1.2 in
      let life = left_of e n k.0 k.1 in
      (x.0, (acting, omega arith))

  -- the first word step of one that begins
  begin_given : (e : Account) (c : ℕ) (k : Kind) (t : Step) → acts e.memo ≡ false → k ≡ kind_next e.memo → IsNext me s.lines e t → Upto (account_after (account_entered k e) t).memo.agents ys → Upto e.memo.agents ys × IsGiven me s e (Begins c k) × IsGiven me s e (Word t)
  begin_given e c k t idle kind next u =
      let a : Agent = record { kind = k; steps = 0; fate = Acts } in
      let n : ActsNow (account_entered k e) = record { front = e.memo.agents; a = a; agents = refl; fate = refl } in
      let x = upto_word (account_entered k e) n t ys u in
      let life = lived_at s.lines (lives_of s.life) ys left.begun dead all (length e.memo.agents) x.1.0 x.1.1 in
      let few = most life.0 x.1.0 life.2 in
      let more = x.1.2 in
      let at : agent_of e.memo ≡ length e.memo.agents = ap (λ (b : Bool). cond b (length e.memo.agents - 1) (length e.memo.agents)) idle in
      let there : slice_get (lives_of s.life) (agent_of e.memo) ≡ Some life.0 = ap (slice_get (lives_of s.life)) at ∙ life.1 in
      let whole : slice_index (lives_of s.life) (agent_of e.memo) ≡ life.0 = get_or_from_slice_get (lives_of s.life) (agent_of e.memo) life.0 0 there in
      let none : steps_of_agent e.memo ≡ 0 = ap (λ (b : Bool). cond b (steps_by (last_agent e.memo.agents)) 0) idle in
      let is = coming_next e next.0 life.0 idle there next.1 in (
        upto_front e.memo.agents a ys x.0,
        (next.0, is, idle, kind),
        (next.0, is, omega arith, next.2),
      )

  -- from where an agent acts or has to begin, the account is the one that is made ready
  acting_ready : (e : Account) → acts e.memo ≡ true → e ≡ ready_account e
  acting_ready e h = sym (ap (λ (b : Bool). cond b e (account_entered (kind_next e.memo) e)) h)

  idle_ready : (e : Account) (k : Kind) → acts e.memo ≡ false → k ≡ kind_next e.memo → account_entered k e ≡ ready_account e
  idle_ready e k h kind = ap (λ (z : Kind). account_entered z e) kind ∙ sym (ap (λ (b : Bool). cond b e (account_entered (kind_next e.memo) e)) h)

  -- the turns of a script's agents that left `left` are so many as the lives have
  pub given : (ms : List Move) (e : Account) → AreTaken me s.lines e ms → account_along e ms ≡ left → Upto e.memo.agents ys × AreGiven me s e ms × (accounts_given e ms ≡ left)
  given [] e h made = (subst (λ (z : Account). Upto e.memo.agents z.memo.agents) made (upto_same e.memo.agents), tt, made)
  given (Word t ∷ ms) e h made =
      let (u, g, m) = given ms (account_after e t) h.2 made in
      let x = word_given e t h.0 h.1 u in
      let ready = acting_ready e h.0 in
      (x.0, (x.1, subst (λ (z : Account). AreGiven me s (account_after z t) ms) ready g), subst (λ (z : Account). accounts_given (account_after z t) ms ≡ left) ready m)
  given (Dies c ∷ ms) e h made =
      let (u, g, m) = given ms (account_died e) h.1 made in
      let x = death_given e h.0 c u in
      (x.0, (x.1, g), m)
  given (Begins c k ∷ []) e h made = absurd h
  given (Begins c k ∷ Word t ∷ ms) e h made =
      let (u, g, m) = given ms (account_after (account_entered k e) t) h.3 made in
      let x = begin_given e c k t h.0 h.1 h.2 u in
      let ready = idle_ready e k h.0 h.1 in
      (x.0, (x.1, (x.2, subst (λ (z : Account). AreGiven me s (account_after z t) ms) ready g)), subst (λ (z : Account). accounts_given (account_after z t) ms ≡ left) ready m)
  given (Begins c k ∷ Dies d ∷ ms) e h made = absurd h
  given (Begins c k ∷ Begins d j ∷ ms) e h made = absurd h

-- ---- none is left

last_of : (xs : List Agent) → 0 < length xs → (front : List Agent) × (a : Agent) × (xs ≡ front ++ a ∷ [])
last_of [] l = absurd (omega arith)
last_of (a ∷ []) l = ([], a, refl)
last_of (x ∷ y ∷ xs) l = let h = last_of (y ∷ xs) (omega arith) in (x ∷ h.0, h.1, ap (λ zs. x ∷ zs) h.2)

get_last : (front : List Agent) (a : Agent) → slice_get (front ++ a ∷ []) (length front) ≡ Some a
get_last [] a = refl
get_last (x ∷ front) a = get_last front a

-- agents of a script with all their lives have nothing left to do
pub none_left : (me : Me) (s : Scripted) (e : Account) (dead : Bool) → AreScriptAgents s e.memo.agents e.begun dead → next_by me s e ≡ None
none_left me s e dead all = go dead all life.2
  where
    its : (front : List Agent) × (a : Agent) × (e.memo.agents ≡ front ++ a ∷ [])
    its = last_of e.memo.agents (agents_some s.lines (lives_of s.life) e.memo.agents e.begun dead all)

    last : last_agent e.memo.agents ≡ Some its.1
    last = ap last_agent its.2 ∙ last-append its.0 its.1

    life : (n : ℕ) × (slice_get (lives_of s.life) (length its.0) ≡ Some n) × HasLived n its.1
    life = lived_at s.lines (lives_of s.life) e.memo.agents e.begun dead all (length its.0) its.1 (ap (λ xs. slice_get xs (length its.0)) its.2 ∙ get_last its.0 its.1)

    go : (d : Bool) → AreScriptAgents s e.memo.agents e.begun d → HasLived life.0 its.1 → next_by me s e ≡ None
    go d are (inr h) = next_ended me s e (ap acts_by last ∙ ap is_acting h.0) (ap ended_by last ∙ ap is_ended h.0)
    go d are (inl h) =
        let quiet : acts e.memo ≡ false = ap acts_by last ∙ ap is_acting h.0 in
        let fell : d ≡ true = sym (agents_fell s.lines (lives_of s.life) e.memo.agents e.begun d are) ∙ (ap fell_by last ∙ ap is_dead h.0) in
        let many : length e.memo.agents ≡ length (lives_of s.life) = agents_many s.lines (lives_of s.life) e.memo.agents e.begun (subst (AreScriptAgents s e.memo.agents e.begun) fell are) in
        next_coming me s e (length e.memo.agents) quiet (ap ended_by last ∙ ap is_ended h.0) (ap (λ (b : Bool). cond b (length e.memo.agents - 1) (length e.memo.agents)) quiet)
        ∙ ap (option_map (λ (n : ℕ). first_of me (length e.memo.agents))) (slice_get_past (lives_of s.life) (length e.memo.agents) (omega arith))
