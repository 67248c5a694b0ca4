-- what follows of the agents of a script that stand where none of them is at work: who they are, what each of them began, and that nothing but the entries was told of commands
use Rattle.std.proofs.Common.{◌≡◌, ◌≢◌, ℕ, zero, suc, ◌+◌, true, false, List, [], ◌∷◌, take, refl, sym, ap, subst, arith, inl, inr}
use Rattle.std.specs.Prelude.{Some, None, slice_get}
use Rattle.shm_graph.specs.declared.{memo.{Agent.Agent, Fate.TheVariants.Ended}, run.{Account.Account, Start.Start}}
use Rattle.shm_graph.specs.Runs.{told_left}
use Rattle.shm_script.specs.{declared.line.Line.Line, Values.Scripted}
use Rattle.shm_agents.specs.declared.agents.Standing.{Standing, TheVariants.{AtWork, Dead}}
use Rattle.shm_agents.specs.Agents.{Fallen, Fresh, HasParted, IsFallen, Mended, Mending, Parted, Playing, Plays, Stage, AgentsStand, is_standing_dead, one_agent}
use Rattle.shm_agents.specs.{Courses.{AreAgents, AreCommandsTold, AreScriptAgents, client_lines}, Turns.lives_of}

-- a client that left after at most the word steps of its life
one_ended : (lines : List Line) (lives : List ℕ) (n left : ℕ) → slice_get lives 0 ≡ Some (left + n) → AreAgents lines lives (one_agent n Ended) (client_lines lines ∷ []) false
one_ended lines [] n left at = absurd (cc)
one_ended lines (k ∷ lives) n left at = (refl, inr (refl, (let e : k ≡ left + n = cc in omega arith)), refl, refl)

-- all of a list is the front that ends behind its last place
take_spent : (ns : List ℕ) (i : ℕ) → slice_get ns i ≡ None → take i ns ≡ ns
take_spent [] zero none = refl
take_spent [] (suc i) none = refl
take_spent (n ∷ ns) zero none = absurd (cc)
take_spent (n ∷ ns) (suc i) none = ap (λ (ks : List ℕ). n ∷ ks) (take_spent ns i none)

module _ (start : Start) (s : Scripted) (x : Playing) (e : Account) (h : AgentsStand start s x e) (rest : x.standing ≢ AtWork) where
  parted_agents : HasParted s x e → AreScriptAgents s e.memo.agents e.begun false
  parted_agents p =
      subst (λ (xs : List Agent). AreScriptAgents s xs e.begun false) (sym p.agents)
      (subst (λ (bs : List (List (List ℕ))). AreScriptAgents s (one_agent p.steps Ended) bs false) (sym p.begun) (one_ended s.lines (lives_of s.life) p.steps x.life.left p.life))

  -- none of those that died is followed by another one
  spent : IsFallen s x e → (x.standing ≡ Dead) × (slice_get (lives_of s.life) x.agent ≡ None)
  spent f = elim f.next [ inl d ↦ d | inr w ↦ absurd (rest w.0) ]

  pub stands_agents : AreScriptAgents s e.memo.agents e.begun (is_standing_dead x.standing)
  stands_agents = go h.stage
    where
      go : Stage start s x e → AreScriptAgents s e.memo.agents e.begun (is_standing_dead x.standing)
      go (Fresh f) = absurd (rest f.here)
      go (Plays p) = absurd (rest p.here)
      go (Mending p l) = absurd (rest p.here)
      go (Parted p) = subst (λ (st : Standing). AreScriptAgents s e.memo.agents e.begun (is_standing_dead st)) (sym p.left) (parted_agents p)
      go (Mended p l) = subst (λ (st : Standing). AreScriptAgents s e.memo.agents e.begun (is_standing_dead st)) (sym p.recovered) p.all
      go (Fallen f l) =
          let d = spent f in
          subst (λ (st : Standing). AreScriptAgents s e.memo.agents e.begun (is_standing_dead st)) (sym d.0)
          (subst (λ (ls : List ℕ). AreAgents s.lines ls e.memo.agents e.begun true) (take_spent (lives_of s.life) x.agent d.1) f.died)

  pub stands_told : AreCommandsTold x.me (told_left (is_standing_dead x.standing) e) x.entries
  stands_told = go h.stage
    where
      go : Stage start s x e → AreCommandsTold x.me (told_left (is_standing_dead x.standing) e) x.entries
      go (Fresh f) = absurd (rest f.here)
      go (Plays p) = absurd (rest p.here)
      go (Mending p l) = absurd (rest p.here)
      go (Parted p) = subst (λ (st : Standing). AreCommandsTold x.me (told_left (is_standing_dead st) e) x.entries) (sym p.left) p.told.only
      go (Mended p l) = subst (λ (st : Standing). AreCommandsTold x.me (told_left (is_standing_dead st) e) x.entries) (sym p.recovered) l.only
      go (Fallen f l) = subst (λ (st : Standing). AreCommandsTold x.me (told_left (is_standing_dead st) e) x.entries) (sym (spent f).0) l.only
