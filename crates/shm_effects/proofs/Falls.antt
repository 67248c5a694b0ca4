-- the death of an agent of a script: no other entry takes effect
use Rattle.std.proofs.Common.{◌≡◌, ℕ, ◌+◌, List, refl, sym, ap, ◌∙◌, subst, inl, inr}
use Rattle.std.specs.{Prelude.{Option, Some, None, slice_get}, Option.is_some}
use Rattle.shm_graph.specs.{declared.run.{Account.Account, Start.Start}, Runs.account_died}
use Rattle.shm_script.specs.{declared.log.End.End, Values.Scripted}
use Rattle.shm_agents.specs.{Agents.{AgentsStand, Playing, follows}, Turns.lives_of, Work.Work}
use Rattle.shm_agents.proofs.{Deaths.{IsSpent, Noted, last_me, last_script, last_stands}, Dying.{CommandMaps, settles}}
use Rattle.shm_effects.proofs.{Entries.{effective, line_next, when_ended, when_going}, Steps.Saw}

-- what follows has the same entries, and has seen no more
follows_entries : (s : Scripted) (o : Option ℕ) (y : Playing) (z : End) → y.end ≡ Some z → effective s (follows o y) ≡ y.entries
follows_entries s None y z e = when_ended s (follows None y) z e
follows_entries s (Some n) y z e = when_ended s (follows (Some n) y) z e

follows_saw : (g : _) (o : Option ℕ) (y : Playing) (times : List (List ℕ)) → Saw g y.work times → Saw g (follows o y).work times
follows_saw g None y times saw = saw
follows_saw g (Some n) y times saw = λ m e b. absurd (cc)

module _ (maps : CommandMaps) (start : Start) (s : Scripted) (x : Playing) (e : Account) (is : IsSpent start s x e) where
  -- the agents after it
  pub record Fell : Type 0 where
    pub after : Playing
    pub stands : AgentsStand start s after (account_died e)
    pub me : after.me ≡ x.me
    pub script : after.script ≡ x.script
    pub same : effective s after ≡ effective s x
    pub saw : (times : List (List ℕ)) → Saw start.geometry x.work times → Saw start.geometry after.work times

  by : (y : Playing) → Noted start s x e is y → (z : End) → y.end ≡ Some z → y.entries ≡ effective s x → y.work ≡ x.work → Fell
  by y noted z ended entries work =
      let o : Option ℕ = slice_get (lives_of s.life) (y.agent + 1) in
      record {
        after = follows o y;
        stands = last_stands start s x e is maps y noted (account_died e) refl (follows o y) refl;
        me = last_me start s x e is maps y noted (account_died e) refl (follows o y) refl;
        script = last_script start s x e is maps y noted (account_died e) refl (follows o y) refl;
        same = follows_entries s o y z ended ∙ entries;
        saw = λ times saw. follows_saw start.geometry o y times (subst (λ (w : Work). Saw start.geometry w times) (sym work) saw);
      }

  pub fell : Fell
  fell = go x.end refl
    where
      go : (o : Option End) → x.end ≡ o → Fell
      go None none = by (settles (line_next s x) x) (inl (none, refl)) _ refl (sym (when_going s x none)) refl
      go (Some z) some = by x (inr (ap (λ (o : Option End). is_some o) some, refl)) z some (sym (when_ended s x z some)) refl
