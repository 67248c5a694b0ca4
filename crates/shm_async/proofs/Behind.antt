-- a recoverer that comes behind agents that were cut, and what it leaves
use Rattle.std.proofs.Common.{◌≡◌, ℕ, ◌^◌, ◌<◌, Bool, true, false, cond, List, [], ◌∷◌, ◌++◌, append-nil, length, inr, refl, sym, ap, ◌∙◌, subst, arith}
use Rattle.std.specs.Prelude.{slice_index}
use Rattle.shm_graph.specs.declared.{ask.Me.Me, memo.{Agent.Agent, Fate.{Fate, TheVariants.{Acts, Died, Ended}}}}
use Rattle.shm_graph.specs.declared.memo.{Kind.TheVariants.Recoverer, Seen.Seen, Status.TheVariants.Gone, Step.Step}
use Rattle.shm_graph.specs.declared.run.{Account.Account, LoggedLine.LoggedLine}
use Rattle.shm_graph.specs.{Agents.{acts, acts_by, fallen, last_agent, with_last}, Held.is_loose}
use Rattle.shm_graph.specs.Runs.{account_after, account_died, account_entered, begun_by, first_account, is_dead, told_by, told_left}
use Rattle.shm_graph.proofs.Memos.MemoSteps.{last-append}
use Rattle.shm_count.specs.Roots.{member}
use Rattle.shm_recover.specs.Recover.Control.{recover_line}
use Rattle.shm_replay.specs.Closings.{SameTable}
use Rattle.shm_script.specs.{Logged.Logged, Values.Scripted}
use Rattle.shm_agents.specs.Agents.{IsFold}
use Rattle.shm_agents.specs.Courses.{AreAgents, AreCommandsTold, AreRecoverers, AreScriptAgents, HasLived, IsAside}
use Rattle.shm_agents.specs.{Cuts.AreCut, Logs.{AreUnspent, BeganWith, IsLogOf, begun_first, steps_first}}
use Rattle.shm_agents.specs.{Taken.HasTaken, Turns.lives_of}
use Rattle.shm_agents.proofs.Courses.{agents_more, told_aside}
use Rattle.shm_agents.proofs.Growing.{began_more, begun_end, first_more, log_on, with_last-end}
use Rattle.shm_pool.specs.{Calls.{Going, Shown, accounts_by}, Tokens.Its}
use Rattle.shm_team.specs.{declared.left.Left.Left, Dones.IsFinished, Lefts.{IsGivenBack, account_in, is_corpse}}
use Rattle.shm_team.specs.Visits.{AreAside, HasRun}
use Rattle.shm_team.proofs.{Calling.going_agents, Telling.aside_told}
use Rattle.shm_async.specs.Cancelled.{IsCutLog}
use Rattle.shm_async.proofs.Cuts.{lived_died}

-- ---- what it leaves

-- The recoverer a came behind the agents of e, and began its recovery and nothing else; f is what is accounted for then, and `dead` tells whether it died. What was told behind what was left of the dead agent is aside of commands, and the map of the table is what it was
pub record HasFollowed (dead : Bool) (a : Agent) (e f : Account) : Type 0 where
  pub agents : f.memo.agents ≡ e.memo.agents ++ a ∷ []
  pub begun : f.begun ≡ e.begun ++ (recover_line ∷ []) ∷ []
  pub more : List LoggedLine
  pub told : told_left dead f ≡ told_left true e ++ more
  pub aside : AreAside more
  pub table : SameTable e.memo f.memo

abbrev pub recoverer_by : ℕ → Fate → Agent
recoverer_by n f = record { kind = Recoverer; steps = n; fate = f }

-- it came to its end
pub followed_run : (e f : Account) (h : HasRun Recoverer (recover_line ∷ []) Ended e f) → HasFollowed false (recoverer_by h.steps Ended) e f
followed_run e f h = record { agents = h.agents; begun = h.begun; more = h.more; told = h.told; aside = h.aside; table = h.table }

-- ---- the steps of a call that goes on

told_if : (b : Bool) (xs ys : List LoggedLine) → b ≡ false → cond b xs ys ≡ ys
told_if b xs ys e = ap (λ (z : Bool). cond z xs ys) e

going_false : (s : Shown) (ts : List Step) (r : Account) → Going s false ts → r.running ≡ s.line → ((accounts_by r ts).told ≡ r.told) × ((accounts_by r ts).begun ≡ r.begun) × ((accounts_by r ts).running ≡ s.line)
going_false s [] r g runs = (refl, refl, runs)
going_false s (t ∷ ts) r g runs =
    let x = going_false s ts (account_after r t) g.2 (ap (λ (b : Bool). cond b [] t.line) g.1 ∙ g.0.line) in (
      x.0 ∙ (told_if t.ends _ _ g.1 ∙ ap (λ (b : Bool). told_left b r) g.0.first),
      x.1 ∙ ap (λ (b : Bool). cond b (begun_by t.line r.begun) r.begun) g.0.first,
      x.2,
    )

going_true : (s : Shown) (ts : List Step) (r : Account) → 0 < length ts → Going s true ts → ((accounts_by r ts).told ≡ told_left true r) × ((accounts_by r ts).begun ≡ begun_by s.line r.begun) × ((accounts_by r ts).running ≡ s.line)
going_true s [] r some g = absurd (omega arith)
going_true s (t ∷ ts) r some g =
    let x = going_false s ts (account_after r t) g.2 (ap (λ (b : Bool). cond b [] t.line) g.1 ∙ g.0.line) in (
      x.0 ∙ (told_if t.ends _ _ g.1 ∙ ap (λ (b : Bool). told_left b r) g.0.first),
      x.1 ∙ (ap (λ (b : Bool). cond b (begun_by t.line r.begun) r.begun) g.0.first ∙ ap (λ (l : List ℕ). begun_by l r.begun) g.0.line),
      x.2,
    )

-- what is left to tell of a line that is aside
aside_left : (line : List ℕ) (tr : List Seen) (told : List LoggedLine) → IsAside line → (more : List LoggedLine) × (told_by line tr false told ≡ told ++ more) × AreAside more
aside_left [] tr told is = ([], sym (append-nil told), tt)
aside_left (x ∷ xs) tr told is = (record { line = x ∷ xs; trail = tr; finished = false } ∷ [], refl, (is, tt))

-- it died
pub followed_died : (s : Shown) (ts : List Step) (e f : Account) → s.line ≡ recover_line → 0 < length ts → Going s true ts → f ≡ accounts_by (account_entered Recoverer e) ts → SameTable e.memo f.memo → (n : ℕ) × HasFollowed true (recoverer_by n Died) e (account_died f) × (acts f.memo ≡ true)
followed_died s ts e f line some g is table =
    let r : Account = account_entered Recoverer e in
    let (n, agents) = going_agents s true ts r e.memo.agents (recoverer_by 0 Acts) g refl in
    let x = going_true s ts r some g in
    let runs : f.running ≡ recover_line = ap (λ (z : Account). z.running) is ∙ (x.2 ∙ line) in
    let (more, told, aside) = aside_left f.running f.memo.call f.told (subst IsAside (sym runs) (inr (inr (inr refl)))) in (
      n,
      record {
        agents = ap (λ (z : Account). with_last fallen z.memo.agents) is ∙ (ap (with_last fallen) agents ∙ with_last-end fallen e.memo.agents (recoverer_by n Acts));
        begun = ap (λ (z : Account). z.begun) is ∙ (x.1 ∙ (ap (λ (l : List ℕ). begun_by l r.begun) line ∙ begun_end recover_line e.begun []));
        more = more;
        told = told ∙ ap (λ (ls : List LoggedLine). ls ++ more) (ap (λ (z : Account). z.told) is ∙ x.0);
        aside = aside;
        table = record { map = table.map; loose = table.loose };
      },
      ap (λ (z : Account). acts z.memo) is ∙ (ap (λ (xs : List Agent). acts_by (last_agent xs)) agents ∙ ap acts_by (last-append e.memo.agents (recoverer_by n Acts))),
    )

-- ---- all is done of the identity

-- behind the lives up to a cut there is one recoverer more
cut_lives : (all lives : List ℕ) → AreCut all lives → lives_of lives ≡ lives ++ 2 ^ 40 ∷ []
cut_lives [] [] h = absurd h
cut_lives (n ∷ all) [] h = absurd h
cut_lives all (k ∷ lives) h = refl

first_life : (lives rest : List ℕ) (agents : List Agent) (begun : List (List (List ℕ))) (lines : List _) → AreAgents lines lives agents begun true → slice_index (lives ++ rest) 0 ≡ steps_first agents
first_life [] rest agents begun lines h = absurd h
first_life (n ∷ lives) rest [] begun lines h = absurd h
first_life (n ∷ lives) rest (a ∷ agents) [] lines h = absurd h
first_life (n ∷ lives) rest (a ∷ agents) (b ∷ begun) lines h = sym (lived_died n a lives agents begun h.1 h.3).1

last_by : (b dead : Bool) → b ≡ dead → AreRecoverers b [] [] [] dead
last_by false dead e = sym e
last_by true dead e = sym e

module _ (p : Its) (s : Scripted) (turns : ℕ) (l : Logged) (e f : Account) (log : IsCutLog p s turns e l) (unspent : AreUnspent l.entries) (fold : IsFold l.entries e.memo) (table : is_loose e.memo.part ≡ false)
    (dead : Bool) (a : Agent) (h : HasFollowed dead a e f) (kind : a.kind ≡ Recoverer) (lived : HasLived (2 ^ 40) a) (fate : is_dead a.fate ≡ dead) where
  -- the script as it was cut
  abbrev pub cut_to : Scripted
  cut_to = record s { life = log.lives }

  abbrev me : Me
  me = member p.start.geometry s.client

  lives : lives_of log.lives ≡ log.lives ++ 2 ^ 40 ∷ []
  lives = cut_lives (lives_of s.life) log.lives log.cut

  agents : AreScriptAgents cut_to f.memo.agents f.begun dead
  agents =
      subst (λ (ns : List ℕ). AreAgents s.lines ns f.memo.agents f.begun dead) (sym lives)
      (subst (λ (xs : List Agent). AreAgents s.lines (log.lives ++ 2 ^ 40 ∷ []) xs f.begun dead) (sym h.agents)
      (subst (λ (bs : List (List (List ℕ))). AreAgents s.lines (log.lives ++ 2 ^ 40 ∷ []) (e.memo.agents ++ a ∷ []) bs dead) (sym h.begun)
      (agents_more s.lines log.lives (2 ^ 40 ∷ []) e.memo.agents (a ∷ []) e.begun ((recover_line ∷ []) ∷ []) dead log.agents (kind, lived, refl, last_by (is_dead a.fate) dead fate))))

  life : slice_index (lives_of log.lives) 0 ≡ steps_first e.memo.agents
  life = ap (λ (ns : List ℕ). slice_index ns 0) lives ∙ first_life log.lives (2 ^ 40 ∷ []) e.memo.agents e.begun s.lines log.agents

  its_log : IsLogOf me cut_to (slice_index (lives_of log.lives) 0) f.memo.agents f.begun (told_left dead f) l
  its_log =
      let x = log_on me s (steps_first e.memo.agents) (slice_index (lives_of log.lives) 0) life e.memo.agents f.memo.agents e.begun f.begun (told_left true e) (told_left dead f) l
      (λ n z b. subst (λ (found : List Agent). BeganWith found n z) (sym h.agents) (began_more e.memo.agents (a ∷ []) n z b))
      (λ k some b. ap begun_first h.begun ∙ first_more e.begun ((recover_line ∷ []) ∷ []) k some b)
      h.more h.told log.log in
      record { client = x.client; lines = x.lines; join = x.join; behind = x.behind; is = x.is; finished = x.finished; entries = x.entries; end = x.end }

  its_told : AreCommandsTold me (told_left dead f) l.entries
  its_told = subst (λ (ls : List LoggedLine). AreCommandsTold me ls l.entries) (sym h.told) (told_aside me (told_left true e) h.more l.entries log.only (aside_told me h.more h.aside))

  module _ (k : Left) (account : account_in k ≡ f) (corpse : is_corpse k ≡ dead) where
    given : (P : Bool → Account → Type 0) → P dead f → P (is_corpse k) (account_in k)
    given P x = subst (λ (b : Bool). P b (account_in k)) (sym corpse) (subst (P dead) (sym account) x)

    pub finished_behind : IsGivenBack p k → f.who ≡ s.client → (dead ≡ false → f.memo.status ≡ Gone) → HasTaken me s.lines (first_account p.start s.client) f → IsFinished p cut_to l k
    finished_behind token who gone taken =
        record {
          token = token;
          who = ap (λ (z : Account). z.who) account ∙ who;
          log = given (λ (b : Bool) (z : Account). IsLogOf me cut_to (slice_index (lives_of log.lives) 0) z.memo.agents z.begun (told_left b z) l) its_log;
          agents = given (λ (b : Bool) (z : Account). AreScriptAgents cut_to z.memo.agents z.begun b) agents;
          only = given (λ (b : Bool) (z : Account). AreCommandsTold me (told_left b z) l.entries) its_told;
          unspent = unspent;
          fold = subst (λ (z : Account). IsFold l.entries z.memo) (sym account) (λ key. h.table.map key ∙ fold key);
          table = ap (λ (z : Account). is_loose z.memo.part) account ∙ (h.table.loose ∙ table);
          gone = given (λ (b : Bool) (z : Account). b ≡ false → z.memo.status ≡ Gone) gone;
          taken = subst (HasTaken me s.lines (first_account p.start s.client)) (sym account) taken;
        }
