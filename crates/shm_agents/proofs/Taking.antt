-- the agents of a script take one turn more
use Rattle.std.proofs.Common.{◌≡◌, ℕ, Bool, true, false, cond, List, [], ◌∷◌, ◌++◌, append_assoc, refl, sym, ap, ◌∙◌, subst}
use Rattle.std.specs.{Prelude.{Option, Some, None, slice_get}, Option.option_map}
use Rattle.shm_graph.specs.declared.{ask.Me.Me, run.{Account.Account, Move.{Move, TheVariants.{Word, Dies, Begins}}}}
use Rattle.shm_graph.specs.{Agents.{acts, last_agent}, Laws.step_of}
use Rattle.shm_graph.specs.Runs.{account_after, account_along, account_died, account_entered}
use Rattle.shm_graph.proofs.Runs.OwnTurns.{along_both}
use Rattle.shm_plain.specs.{Tracks.kind_next, Working.ready_account}
use Rattle.shm_script.specs.{declared.line.Line.Line, Values.Scripted}
use Rattle.shm_agents.specs.Taken.{AreTaken, HasTaken, work_next}
use Rattle.shm_agents.specs.Turns.{agent_of, ended_by, first_of, lives_of, next_by, work_at}
use Rattle.shm_agents.specs.Work.{Work, work_control, work_of}

-- what is to be done next, with the lives of the script, is that without them
pub next_work : (me : Me) (s : Scripted) (e : Account) (w : Work) → next_by me s e ≡ Some w → work_next me s.lines e ≡ Some w
next_work me s e w = go (acts e.memo) (ended_by (last_agent e.memo.agents)) (slice_get (lives_of s.life) (agent_of e.memo))
  where
    go : (a b : Bool) (o : Option ℕ) → cond a (work_at (work_of me s.lines (agent_of e.memo)) e) (cond b None (option_map (λ (life : ℕ). first_of me (agent_of e.memo)) o)) ≡ Some w → cond a (work_at (work_of me s.lines (agent_of e.memo)) e) (cond b None (Some (first_of me (agent_of e.memo)))) ≡ Some w
    go true b o is = is
    go false true o is = is
    go false false None is = absurd (cc)
    go false false (Some n) is = is

module _ (me : Me) (lines : List Line) where
  taken_both : (ms ns : List Move) (e : Account) → AreTaken me lines e ms → AreTaken me lines (account_along e ms) ns → AreTaken me lines e (ms ++ ns)
  taken_both [] ns e h k = k
  taken_both (Word t ∷ ms) ns e h k = (h.0, h.1, taken_both ms ns (account_after e t) h.2 k)
  taken_both (Dies c ∷ ms) ns e h k = (h.0, taken_both ms ns (account_died e) h.1 k)
  taken_both (Begins c d ∷ []) ns e h k = absurd h
  taken_both (Begins c d ∷ Word t ∷ ms) ns e h k = (h.0, h.1, h.2, taken_both ms ns (account_after (account_entered d e) t) h.3 k)
  taken_both (Begins c d ∷ Dies b ∷ ms) ns e h k = absurd h
  taken_both (Begins c d ∷ Begins b i ∷ ms) ns e h k = absurd h

  module _ (first e : Account) (h : HasTaken me lines first e) where
    -- further turns, which make f of it
    then_taken : (ns : List Move) (f : Account) → f.turns ≡ e.turns ++ ns → AreTaken me lines e ns → account_along e ns ≡ f → HasTaken me lines first f
    then_taken ns f grew taken made =
        record {
          turns = subst (AreTaken me lines first) (sym grew) (taken_both e.turns ns first h.turns (subst (λ (z : Account). AreTaken me lines z ns) (sym h.made) taken));
          made = ap (account_along first) grew ∙ (along_both first e.turns ns ∙ (ap (λ (z : Account). account_along z ns) h.made ∙ made));
        }

    -- the word step of what they have to do next, of an agent that begins with it where none acts
    pub took_word : (w : Work) → work_next me lines e ≡ Some w → (n : ℕ) → HasTaken me lines first (account_after (ready_account e) (step_of work_control w n))
    took_word w next n = go (acts e.memo) refl
      where
        go : (b : Bool) → acts e.memo ≡ b → HasTaken me lines first (account_after (cond b e (account_entered (kind_next e.memo) e)) (step_of work_control w n))
        go true acting = then_taken (Word (step_of work_control w n) ∷ []) (account_after e (step_of work_control w n)) refl (acting, (w, next, refl), tt) refl
        go false idle =
            then_taken (Begins e.who (kind_next e.memo) ∷ Word (step_of work_control w n) ∷ []) (account_after (account_entered (kind_next e.memo) e) (step_of work_control w n))
            (append_assoc e.turns (Begins e.who (kind_next e.memo) ∷ []) (Word (step_of work_control w n) ∷ [])) (idle, refl, (w, next, refl), tt) refl

    -- the death of the one that acts
    pub took_death : acts e.memo ≡ true → HasTaken me lines first (account_died e)
    took_death acting = then_taken (Dies e.who ∷ []) (account_died e) refl (acting, tt) refl
