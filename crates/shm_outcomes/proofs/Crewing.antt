-- the agents of an identity by how its client ended
use Rattle.std.proofs.Common.{◌≡◌, ℕ, ◌≤◌, ◌++◌, Bool, true, false, eqb, List, [], ◌∷◌, refl, sym, ap, ◌∙◌, subst, inl, inr}
use Rattle.std.proofs.lemmas.Bool.{cond-false, cond-true, false≢true}
use Rattle.std.specs.{Prelude.{Some, None, slice_index}, List.Contains}
use Rattle.shm_agents.specs.Courses.{AreAgents, AreRecoverers, HasBegun, HasLived, client_lines}
use Rattle.shm_agents.specs.{Logs.{AreLogs, BeganWith, HasEnd, IsLog}, Turns.{lives_of, script_in}}
use Rattle.shm_graph.specs.declared.{ask.Me.Me, memo.{Agent.Agent, Fate.Fate}, run.Account.Account}
use Rattle.shm_graph.specs.{declared.run.LoggedLine.LoggedLine, Runs.{account_at, is_dead}}
use Rattle.shm_graph.specs.declared.memo.Fate.TheVariants as fate
use Rattle.shm_count.specs.Roots.{member}
use Rattle.shm_plain.specs.Pools.{Pool}
use Rattle.shm_replay.proofs.Starting.{script_client}
use Rattle.shm_script.specs.{declared.log.{End.{End, TheVariants.{Ended, Died}}, Entry.Entry}, Logged.Logged}
use Rattle.shm_script.specs.Values.{Scripted}
use Rattle.shm_team.specs.{Rans.HasAgents, Visits.AreClosers}
use Rattle.shm_outcomes.specs.Crews.{ClientDied, ClientLeft, ClientWent, HasCrew, IsCloserAlone, client_by, closing_lines}
use Rattle.shm_outcomes.proofs.{Cutting.some_same, Elements.{contains_first, contains_later, head_same}}

-- nobody comes behind an agent that ended
pub none_more : (lives : List ℕ) (agents : List Agent) (begun : List (List (List ℕ))) (dead : Bool) → AreRecoverers false lives agents begun dead → (agents ≡ []) × (begun ≡ []) × (dead ≡ false)
none_more lives [] [] dead h = (refl, refl, h)
none_more lives [] (b ∷ bs) dead h = absurd h
none_more lives (a ∷ more) begun dead h = absurd h

-- the agents of a visit where nobody had died
closer : (others : List Agent) (lines : List (List (List ℕ))) → AreClosers false others lines → (n : ℕ) × (others ≡ client_by n fate.Ended ∷ []) × (lines ≡ closing_lines ∷ [])
closer [] lines h = absurd h
closer (a ∷ []) [] h = absurd h
closer (a ∷ []) (b ∷ []) h = (a.steps, (λ i. record { kind = h.0 i; steps = a.steps; fate = h.1 i } ∷ []), ap (λ (x : List (List ℕ)). x ∷ []) h.2)
closer (a ∷ []) (b ∷ c ∷ bs) h = absurd h
closer (a ∷ c ∷ more) lines h = absurd h

lived_ended : (n : ℕ) (a : Agent) → HasLived n a → a.fate ≡ fate.Ended → a.steps ≤ n
lived_ended n a (inl h) e = absurd (false≢true (ap is_dead (sym e ∙ h.0)))
lived_ended n a (inr h) e = h.1

pub lived_died : (n : ℕ) (a : Agent) → HasLived n a → a.fate ≡ fate.Died → a.steps ≡ n
lived_died n a (inl h) e = h.1
lived_died n a (inr h) e = absurd (false≢true (ap is_dead (sym h.0 ∙ e)))

module _ (s : Scripted) (e : Account) (h : HasAgents (Some s) e) (n : ℕ) where
  -- the client ended
  pub client_left : BeganWith e.memo.agents n fate.Ended → ClientLeft s e
  client_left b = go (lives_of s.life) refl h.first h.before h.own h.agents h.begun
    where
      go : (lives : List ℕ) → lives_of s.life ≡ lives → (first : List Agent) (before : List (List (List ℕ))) → AreAgents s.lines lives first before h.dead → e.memo.agents ≡ first ++ h.others → e.begun ≡ before ++ h.lines → ClientLeft s e
      go [] is first before own agents begun = absurd own
      go (k ∷ lives) is [] before own agents begun = absurd own
      go (k ∷ lives) is (a ∷ more) [] own agents begun = absurd own
      go (k ∷ lives) is (a ∷ more) (l ∷ ls) own agents begun =
          let same : a ≡ client_by n fate.Ended = head_same a (client_by n fate.Ended) (more ++ h.others) b.0 (sym agents ∙ b.1) in
          let ended : a.fate ≡ fate.Ended = ap (λ (z : Agent). z.fate) same in
          let all : l ≡ client_lines s.lines = subst (λ (f : Fate). HasBegun s.lines f l) ended own.2 in
          let none = none_more lives more ls h.dead (subst (λ (f : Fate). AreRecoverers (is_dead f) lives more ls h.dead) ended own.3) in
          let close = closer h.others h.lines (subst (λ (d : Bool). AreClosers d h.others h.lines) none.2 h.closers) in
          let few : a.steps ≤ k = lived_ended k a own.1 ended in
          record {
            steps = n;
            few = subst (λ (z : ℕ). n ≤ z) (sym (ap (λ (z : List ℕ). slice_index z 0) is)) (subst (λ (z : Agent). z.steps ≤ k) same few);
            closing = close.0;
            agents = agents ∙ (λ i. same i ∷ (none.0 i ++ close.1 i));
            begun = begun ∙ (λ i. all i ∷ (none.1 i ++ close.2 i));
          }

  -- it died
  pub died_at : BeganWith e.memo.agents n fate.Died → n ≡ slice_index (lives_of s.life) 0
  died_at b = go (lives_of s.life) refl h.first h.before h.own h.agents
    where
      go : (lives : List ℕ) → lives_of s.life ≡ lives → (first : List Agent) (before : List (List (List ℕ))) → AreAgents s.lines lives first before h.dead → e.memo.agents ≡ first ++ h.others → n ≡ slice_index (lives_of s.life) 0
      go [] is first before own agents = absurd own
      go (k ∷ lives) is [] before own agents = absurd own
      go (k ∷ lives) is (a ∷ more) [] own agents = absurd own
      go (k ∷ lives) is (a ∷ more) (l ∷ ls) own agents =
          let same : a ≡ client_by n fate.Died = head_same a (client_by n fate.Died) (more ++ h.others) b.0 (sym agents ∙ b.1) in
          ap (λ (z : Agent). z.steps) (sym same) ∙ (lived_died k a own.1 (ap (λ (z : Agent). z.fate) same) ∙ sym (ap (λ (z : List ℕ). slice_index z 0) is))

  pub client_died : n ≡ slice_index (lives_of s.life) 0 → BeganWith e.memo.agents n fate.Died → ClientDied s e
  client_died all b = go (lives_of s.life) h.first h.before h.own h.agents h.begun
    where
      go : (lives : List ℕ) (first : List Agent) (before : List (List (List ℕ))) → AreAgents s.lines lives first before h.dead → e.memo.agents ≡ first ++ h.others → e.begun ≡ before ++ h.lines → ClientDied s e
      go [] first before own agents begun = absurd own
      go (k ∷ lives) [] before own agents begun = absurd own
      go (k ∷ lives) (a ∷ more) [] own agents begun = absurd own
      go (k ∷ lives) (a ∷ more) (l ∷ ls) own agents begun =
          let same : a ≡ client_by n fate.Died = head_same a (client_by n fate.Died) (more ++ h.others) b.0 (sym agents ∙ b.1) in
          record {
            others = b.0;
            agents = b.1 ∙ ap (λ (z : ℕ). client_by z fate.Died ∷ b.0) all;
            lines = l;
            more = ls ++ h.lines;
            begun = begun;
            front = subst (λ (f : Fate). HasBegun s.lines f l) (ap (λ (z : Agent). z.fate) same) own.2;
          }

-- an identity without a script
pub closer_alone : (e : Account) → HasAgents None e → IsCloserAlone e
closer_alone e h =
    let close = closer h.others h.lines (subst (λ (d : Bool). AreClosers d h.others h.lines) h.own.2 h.closers) in
    record { steps = close.0; agents = h.agents ∙ (λ i. h.own.0 i ++ close.1 i); begun = h.begun ∙ (λ i. h.own.1 i ++ close.2 i) }

-- ---- logs

-- a script has a log
script_log : (p : Pool) (ss : List Scripted) (ls : List Logged) (c : ℕ) (s : Scripted) → AreLogs p ss ls → script_in ss c ≡ Some s → (l : Logged) × Contains ls l × IsLog p s l
script_log p [] ls c s are is = absurd (cc)
script_log p (r ∷ ss) [] c s are is = absurd are
script_log p (r ∷ ss) (l ∷ ls) c s are is = go (eqb r.client c) refl (script_log p ss ls c s are.1)
  where
    go : (b : Bool) → eqb r.client c ≡ b → (script_in ss c ≡ Some s → (m : Logged) × Contains ls m × IsLog p s m) → (m : Logged) × Contains (l ∷ ls) m × IsLog p s m
    go true f later = (l, contains_first l ls, subst (λ (z : Scripted). IsLog p z l) (some_same r s (sym (cond-true (eqb r.client c) (Some r) (script_in ss c) f) ∙ is)) are.0)
    go false f later = let (m, at, log) = later (sym (cond-false (eqb r.client c) (Some r) (script_in ss c) f) ∙ is) in (m, contains_later l ls m at, log)

module _ (me : Me) (s : Scripted) (e : Account) (h : HasAgents (Some s) e) (behind : List LoggedLine) (finished entries : List Entry) where
  went_by : (x : End) → HasEnd me s (slice_index (lives_of s.life) 0) e.memo.agents e.begun behind finished entries x → ClientWent s e x
  went_by Ended end = client_left s e h end.2.0 end.2.1
  went_by (Died n done) end = client_died s e h (slice_index (lives_of s.life) 0) refl end.1

pub crew : (p : Pool) (ss : List Scripted) (ls : List Logged) (c : ℕ) (s : Scripted) → AreLogs p ss ls → script_in ss c ≡ Some s → HasAgents (Some s) (account_at p.accounts c) → HasCrew s (account_at p.accounts c) ls
crew p ss ls c s are is h =
    let (l, at, log) = script_log p ss ls c s are is in
    let e : Account = account_at p.accounts s.client in
    let who : s.client ≡ c = script_client ss c s is in
    let own : HasAgents (Some s) e = subst (λ (n : ℕ). HasAgents (Some s) (account_at p.accounts n)) (sym who) h in
    record { log = l; is = at; client = log.client; went = subst (λ (n : ℕ). ClientWent s (account_at p.accounts n) l.end) who (went_by (member p.start.geometry s.client) s e own log.behind log.finished l.entries l.end log.end) }
