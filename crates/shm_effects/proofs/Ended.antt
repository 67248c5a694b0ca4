-- a client that ended: none of its identity died, neither before the closing of the pool nor in it
use Rattle.std.proofs.Common.{◌≡◌, ℕ, Bool, true, false, take, append-nil, refl, sym, ap, ◌∙◌, subst, inl, inr, List, [], ◌∷◌, ◌++◌}
use Rattle.std.proofs.lemmas.List.{map-append}
use Rattle.shm_graph.specs.declared.{memo.{Agent.Agent, Kind.TheVariants.Client}, run.Account.Account}
use Rattle.shm_graph.specs.declared.run.LoggedLine.{LoggedLine}
use Rattle.shm_graph.specs.Runs.{account_at, first_state, is_dead, state, told_left}
use Rattle.shm_graph.specs.declared.memo.Fate.TheVariants as fate
use Rattle.shm_plain.specs.Pools.{IsRun, Pool}
use Rattle.shm_script.specs.{declared.{line.Line.Line, log.End.{End, TheVariants.Ended}}, Logged.Logged}
use Rattle.shm_script.specs.Values.{Scripted}
use Rattle.shm_agents.specs.{Agents.{IsSettled, Playing, logged}, Courses.{AreAgents, AreRecoverers}}
use Rattle.shm_agents.specs.{Logs.{BeganWith, HasEnd, steps_first}, Turns.lives_of}
use Rattle.shm_agents.proofs.Over.{IsOver}
use Rattle.shm_replay.specs.Closings.{AreVisits}
use Rattle.shm_headline.specs.TurnsOf.{turn_of, turns_of}
use Rattle.shm_effects.specs.Lived.{HasLived, NoneDies}
use Rattle.shm_effects.proofs.{Lived.{AllLived, none_both, none_died}, Logs.visits_alive}

-- ---- the agents of a script whose client ended

-- it is the only one
recovered_none : (lives : List ℕ) (agents : List Agent) (begun : List (List (List ℕ))) (dead : Bool) → AreRecoverers false lives agents begun dead → (agents ≡ []) × (dead ≡ false)
recovered_none [] [] [] dead h = (refl, h)
recovered_none (n ∷ lives) [] [] dead h = (refl, h)
recovered_none lives [] (b ∷ begun) dead h = absurd h
recovered_none lives (a ∷ agents) begun dead h = absurd h

began_end : (n : ℕ) (agents : List Agent) (a : Agent) (others : List Agent) → BeganWith agents n fate.Ended → agents ≡ a ∷ others → is_dead a.fate ≡ false
began_end n agents a others (more, is) e = let z : record { kind = Client; steps = n; fate = fate.Ended } ≡ a = cc in ap (λ (x : Agent). is_dead x.fate) (sym z)

-- the agents of a client that ended, and then those of a visit
module _ (lines : List Line) where
  pub script_lived : (lives : List ℕ) (agents : List Agent) (begun : List (List (List ℕ))) (dead : Bool) → AreAgents lines lives agents begun dead → (n : ℕ) (all others : List Agent) → all ≡ agents ++ others → BeganWith all n fate.Ended → AllLived agents × (dead ≡ false)
  script_lived (k ∷ lives) (a ∷ agents) (b ∷ begun) dead h n all others e began =
      let alive : is_dead a.fate ≡ false = began_end n all a (agents ++ others) began e in
      let rest = recovered_none lives agents begun dead (subst (λ (z : Bool). AreRecoverers z lives agents begun dead) alive h.3) in
      (subst (λ (xs : List Agent). AllLived (a ∷ xs)) (sym rest.0) (alive, tt), rest.1)
  script_lived [] agents begun dead h n all others e began = absurd h
  script_lived (k ∷ lives) [] begun dead h n all others e began = absurd h
  script_lived (k ∷ lives) (a ∷ agents) [] dead h n all others e began = absurd h

-- where the client's log is settled and says that it ended
settled_lived : (s : Scripted) (x : Playing) (e : Account) (lives : List ℕ) (dead : Bool) (told : List LoggedLine) → AreAgents s.lines lives e.memo.agents e.begun dead → IsSettled s x e told → (logged x).end ≡ Ended → AllLived e.memo.agents
settled_lived s x e lives dead told agents l ended =
    let log = l.log in
    let end : HasEnd x.me s (steps_first e.memo.agents) e.memo.agents e.begun log.behind log.finished (logged x).entries Ended = subst (λ (z : End). HasEnd x.me s (steps_first e.memo.agents) e.memo.agents e.begun log.behind log.finished (logged x).entries z) ended log.end in
    (script_lived s.lines lives e.memo.agents e.begun dead agents end.2.0 e.memo.agents [] (sym (append-nil e.memo.agents)) end.2.1).0

-- ---- replays

-- where they have nothing left to do
over_lived : (s : Scripted) (x : Playing) (e : Account) → IsOver s x e → (logged x).end ≡ Ended → AllLived e.memo.agents
over_lived s x e (inl h) ended = subst AllLived (sym h.agents) (refl, tt)
over_lived s x e (inr (inl (h, l))) ended = settled_lived s x e (lives_of s.life) false e.told h.all l ended
over_lived s x e (inr (inr (dead, h, l))) ended = settled_lived s x e (take x.agent (lives_of s.life)) true (told_left true e) h.died l ended

module _ (q p : Pool) (run : IsRun q) (clients : ℕ) (visits : AreVisits 0 clients q p) (s : Scripted) (x : Playing) (over : IsOver s x (account_at q.accounts s.client)) where
  pub replay_lived : (l : Logged) → l ≡ logged x → l.client ≡ s.client → HasLived (turns_of p.turns) l
  replay_lived l noted client ended =
      let alive = over_lived s x (account_at q.accounts s.client) over (sym (ap (λ (z : Logged). z.end) noted) ∙ ended) in
      let before = (none_died s.client q.start.geometry (first_state q.start) q.turns (state q.words q.accounts) run.leads alive).1 in
      let (ms, grew, none) = visits_alive s.client 0 clients q p visits in
      subst (λ (c : ℕ). NoneDies c (turns_of p.turns)) (sym client)
      (subst (NoneDies s.client) (sym (ap turns_of grew ∙ map-append turn_of q.turns ms)) (none_both s.client (turns_of q.turns) (turns_of ms) before none))
