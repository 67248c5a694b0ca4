-- the client of a script, turn by turn, until it has left or died
use Rattle.std.proofs.Common.{◌≡◌, ◌≢◌, ℕ, zero, suc, ◌+◌, ◌<◌, ◌≤◌, ◌⊎◌, ◌&&◌, Bool, true, false, cond, eqb, List, [], ◌∷◌, ◌++◌, inl, inr, length, take, refl, sym, ap, ◌∙◌, subst, arith}
use Rattle.std.proofs.lemmas.{Bool.eq-eqb, List.Sums.sum_by-cons}
use Rattle.std.specs.Prelude.{Some, slice_get, slice_index, sum}
use Rattle.shm_graph.specs.declared.{ask.Me.Me, memo.{Agent.Agent, Fate.TheVariants.Acts, Kind.TheVariants.Recoverer}}
use Rattle.shm_graph.specs.{declared.run.{Account.Account, Start.Start}, Agents.{acts, steps_of}, Held.is_loose}
use Rattle.shm_graph.specs.Runs.{account_died, first_account, is_dead, told_left}
use Rattle.shm_count.specs.Roots.{member}
use Rattle.shm_agents.specs.declared.agents.Standing.{Standing, TheVariants.{AtWork, Gone}}
use Rattle.shm_agents.specs.Agents.{IsFallen, IsFold, IsFresh, IsMending, IsPlaying, IsSettled, Playing, Stage, AgentsStand, is_at_work, is_client, logged}
use Rattle.shm_agents.specs.Agents.Stage.{Fresh, Plays, Parted, Fallen, Mending, Mended}
use Rattle.shm_agents.specs.{Courses.{AreAgents, AreCommandsTold, AreRecoverers}, Logs.IsLogOf, Taken.HasTaken}
use Rattle.shm_agents.specs.{Turns.lives_of, TurnsLeft.{deaths, turns_given}}
use Rattle.shm_agents.proofs.{Growing.steps_of-end, Standing.client_stage}
use Rattle.shm_pool.specs.Tokens.{Token}
use Rattle.shm_replay.proofs.Seating.{client_here}
use Rattle.shm_script.specs.{declared.line.Line.Line, Values.Scripted}
use Rattle.shm_team.proofs.Finishing.{is_me}
use Rattle.shm_morgue.specs.Dead.{AreDead, HasParted}

-- ---- whether the client is at work

pub client_is : (x : Playing) → x.standing ≡ AtWork → x.agent ≡ 0 → is_client x ≡ true
client_is x here first = ap (λ (st : Standing). is_at_work st && eqb x.agent 0) here ∙ eq-eqb x.agent 0 first

not_here : (st : Standing) → st ≡ Gone → st ≢ AtWork
not_here st gone here = absurd (let z : Gone ≡ AtWork = sym gone ∙ here in cc)

-- ---- turns

recoverers_dead : (died : Bool) (lives : List ℕ) (agents : List Agent) (begun : List (List (List ℕ))) → AreRecoverers died lives agents begun true → (died ≡ true) × (deaths agents ≡ length agents)
recoverers_dead false lives [] [] are = absurd (let z : true ≡ false = are in cc)
recoverers_dead false lives [] (b ∷ begun) are = absurd are
recoverers_dead false lives (a ∷ agents) begun are = absurd are
recoverers_dead true [] [] [] are = (refl, refl)
recoverers_dead true [] [] (b ∷ begun) are = absurd are
recoverers_dead true [] (a ∷ agents) begun are = absurd are
recoverers_dead true (n ∷ lives) [] begun are = absurd are
recoverers_dead true (n ∷ lives) (a ∷ agents) [] are = absurd are
recoverers_dead true (n ∷ lives) (a ∷ agents) (b ∷ begun) (kind, lived, line, are) =
    let h = recoverers_dead (is_dead a.fate) lives agents begun are in
    (refl, ap (λ (d : Bool). cond d 1 0 + deaths agents) h.0 ∙ (let k = h.1 in omega arith))

-- all of them died
agents_dead : (lines : List Line) (lives : List ℕ) (agents : List Agent) (begun : List (List (List ℕ))) → AreAgents lines lives agents begun true → deaths agents ≡ length agents
agents_dead lines [] agents begun are = absurd are
agents_dead lines (n ∷ lives) [] begun are = absurd are
agents_dead lines (n ∷ lives) (a ∷ agents) [] are = absurd are
agents_dead lines (n ∷ lives) (a ∷ agents) (b ∷ begun) (kind, lived, line, are) =
    let h = recoverers_dead (is_dead a.fate) lives agents begun are in
    ap (λ (d : Bool). cond d 1 0 + deaths agents) h.0 ∙ (let k = h.1 in omega arith)

deaths_end : (xs : List Agent) (a : Agent) → is_dead a.fate ≡ false → deaths (xs ++ a ∷ []) ≡ deaths xs
deaths_end [] a e = ap (λ (d : Bool). cond d 1 0 + 0) e
deaths_end (x ∷ xs) a e = ap (λ (n : ℕ). cond (is_dead x.fate) 1 0 + n) (deaths_end xs a e)

-- who died first made all its word steps
sum_first : (ns : List ℕ) (k n : ℕ) → 0 < k → slice_get ns 0 ≡ Some n → n ≤ sum (take k ns)
sum_first [] k n some at = absurd (cc)
sum_first (m ∷ ns) zero n some at = absurd (omega arith)
sum_first (m ∷ ns) (suc k) n some at =
    let e : m ≡ n = cc in
    let a : sum (m ∷ take k ns) ≡ m + sum (take k ns) = sum_by-cons (λ (z : ℕ). z) m (take k ns) in
    omega arith

given_fresh : (start : Start) (s : Scripted) (x : Playing) (e : Account) → IsFresh start s x e → (n : ℕ) × (slice_get (lives_of s.life) 0 ≡ Some n) × (turns_given e ≤ n)
given_fresh start s x e h = let z : turns_given e ≡ 0 = ap turns_given h.account in (x.life.left, h.life, omega arith)

given_plays : (s : Scripted) (x : Playing) (e : Account) → IsPlaying s x e → (n : ℕ) × (slice_get (lives_of s.life) 0 ≡ Some n) × (turns_given e ≤ n)
given_plays s x e h = let z : turns_given e ≡ h.steps + 0 + (0 + 0) = ap (λ (xs : List Agent). steps_of xs + deaths xs) h.agents in (x.life.left + h.steps, h.life, omega arith)

given_fallen : (s : Scripted) (y : Playing) (f : Account) → IsFallen s y f → (n : ℕ) → slice_get (lives_of s.life) 0 ≡ Some n → n + y.agent ≤ turns_given f
given_fallen s y f h n at =
    let d = agents_dead s.lines (take y.agent (lives_of s.life)) f.memo.agents f.begun h.died in
    let a = sum_first (lives_of s.life) y.agent n h.some at in
    let m = h.made in
    let k = h.many in
    omega arith

given_mends : (s : Scripted) (y : Playing) (f : Account) → IsMending s y f → (n : ℕ) → slice_get (lives_of s.life) 0 ≡ Some n → n + 2 ≤ turns_given f
given_mends s y f h n at =
    let it : Agent = record { kind = Recoverer; steps = h.steps; fate = Acts } in
    let z : turns_given f ≡ steps_of (h.before ++ it ∷ []) + deaths (h.before ++ it ∷ []) = ap (λ (xs : List Agent). steps_of xs + deaths xs) h.agents in
    let a = steps_of-end h.before it in
    let b = deaths_end h.before it refl in
    let d = agents_dead s.lines (take y.agent (lives_of s.life)) h.before h.begun h.died in
    let e = sum_first (lives_of s.life) y.agent n h.some at in
    let m = h.made in
    let k = h.many in
    let o = h.some in
    let q = h.stepped in
    omega arith

-- a turn of the client
pub parts_on : (start : Start) (s : Scripted) (x y : Playing) (e f : Account) → AgentsStand start s x e → is_client x ≡ true → AgentsStand start s y f → turns_given f ≡ turns_given e + 1 → (is_client y ≡ true) ⊎ HasParted s y f
parts_on start s x y e f h client g given = go g.stage
  where
    is : (x.standing ≡ AtWork) × (x.agent ≡ 0)
    is = client_here x client

    few : (n : ℕ) × (slice_get (lives_of s.life) 0 ≡ Some n) × (turns_given e ≤ n)
    few =
        elim (client_stage start s x e h is.0 is.1) [
          | inl a ↦ given_fresh start s x e a
          | inr a ↦ given_plays s x e a
        ]

    go : Stage start s y f → (is_client y ≡ true) ⊎ HasParted s y f
    go (Fresh a) = inl (client_is y a.here a.agent)
    go (Plays a) = inl (client_is y a.here a.agent)
    go (Parted a) = inr (inl (not_here y.standing a.left))
    go (Fallen a l) =
        let k = given_fallen s y f a few.0 few.1 in
        let o = a.some in
        let m = few.2 in
        inr (inr (omega arith, a, l))
    go (Mending a l) = absurd (let k = given_mends s y f a few.0 few.1 in let m = few.2 in omega arith)
    go (Mended a l) = inr (inl (not_here y.standing a.recovered))

-- ---- the corpse of a client

-- it died, where one of its agents comes next
pub died_by : (s : Scripted) (x : Playing) (e : Account) → HasParted s x e → x.standing ≡ AtWork → (x.agent ≡ 1) × IsFallen s x e × IsSettled s x e (told_left true e)
died_by s x e (inl rests) here = absurd (rests here)
died_by s x e (inr h) here = h

-- the token t is the corpse that its post gives
pub dead_client : (s : Scripted) (x : Playing) (u t : Token) → AgentsStand u.of.start s x u.account → HasParted s x u.account → x.standing ≡ AtWork → u.account.who ≡ x.me.who → (t.of ≡ u.of) × (account_died t.account ≡ u.account) → acts t.account.memo ≡ true
    → AreDead u.of s 1 (logged x) t
dead_client s x u t h parted here named same acting =
    let (first, fallen, settled) = died_by s x u.account parted here in
    let me : Me = member u.of.start.geometry s.client in
    let e : Account = u.account in
    let is : e ≡ account_died t.account = sym same.1 in
    let mine : x.me ≡ me = is_me u s x h in
    record {
      fits = h.may.script;
      of = same.0;
      who = ap (λ (a : Account). a.who) same.1 ∙ (named ∙ sym h.may.client);
      acts = acting;
      died = subst (λ (a : Account). AreAgents s.lines (take 1 (lives_of s.life)) a.memo.agents a.begun true) is (subst (λ (k : ℕ). AreAgents s.lines (take k (lives_of s.life)) e.memo.agents e.begun true) first fallen.died);
      log = subst (λ (a : Account). IsLogOf me s (slice_index (lives_of s.life) 0) a.memo.agents a.begun (told_left true a) (logged x)) is
          (subst (λ (m : Me). IsLogOf m s (slice_index (lives_of s.life) 0) e.memo.agents e.begun (told_left true e) (logged x)) mine
          (subst (λ (k : ℕ). IsLogOf x.me s k e.memo.agents e.begun (told_left true e) (logged x)) fallen.lived settled.log));
      only = subst (λ (a : Account). AreCommandsTold me (told_left true a) x.entries) is (subst (λ (m : Me). AreCommandsTold m (told_left true e) x.entries) mine settled.only);
      unspent = settled.unspent;
      fold = subst (λ (a : Account). IsFold x.entries a.memo) is settled.fold;
      table = ap (λ (a : Account). is_loose a.memo.part) same.1 ∙ settled.table;
      taken = subst (HasTaken me s.lines (first_account u.of.start s.client)) is (subst (λ (m : Me). HasTaken m s.lines (first_account u.of.start m.who) e) mine h.taken);
    }
