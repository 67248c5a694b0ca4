-- many word steps of a session: what was said and what it became
use Rattle.std.proofs.Common.{◌≡◌, ℕ, ◌-◌, ◌≤◌, Bool, true, false, refl, sym, subst, ap, ◌∙◌, arith}
use Rattle.std.specs.Prelude.{Option, None}
use Rattle.shm_session.specs.declared.said.{Ran.Ran, Said.Said, Stage.Stage}
use Rattle.shm_session.specs.{Sessions.{Operations, code_said, fallen_stage}, Working.{SessionStop, RunsTo, asking}}
use Rattle.shm_mapped.specs.{declared.site.Found.Found, Runs.{HasRun, at_first, unless_beyond}, Steps.IsStep}

module _ {S A : Type 0} (o : Operations S A) (count n l : ℕ) (t : Stage) (w : Option S) (e : SessionStop S Found) (all : l ≡ n) (ran : RunsTo o (IsStep count) (λ before a after. after.word) l (asking o t w) at_first e) (left : e.left ≤ l) where
  abbrev Runs : ℕ → Type 0
  Runs k = RunsTo o (IsStep count) (λ before a after. after.word) k (asking o t w) at_first e

  made : (r : Ran) (t' : Stage) (w' : Option S) (b : Bool) → e.words.beyond ≡ b → record { said = r.said; stage = t'; work = w' } ≡ unless_beyond o b e.turned → r.steps ≡ n - e.left → HasRun o count n t w r t' w'
  made r t' w' b beyond is steps =
      record {
        end = e;
        ran = subst Runs all ran;
        is = is ∙ ap (λ (x : Bool). unless_beyond o x e.turned) (sym beyond);
        steps = let h : e.left ≤ n = subst (λ (k : ℕ). e.left ≤ k) all left in omega arith;
      }

  -- each word that was asked for was there
  pub has_run : e.words.beyond ≡ false → HasRun o count n t w (record { said = e.turned.said; steps = n - e.left }) e.turned.stage e.turned.work
  has_run beyond = made _ _ _ false beyond refl refl

  -- one wasn't
  pub was_beyond : e.words.beyond ≡ true → (s : Said) (t' : Stage) (w' : Option S) → s ≡ code_said 36 → t' ≡ fallen_stage o e.turned.stage e.turned.work → w' ≡ None → HasRun o count n t w (record { said = s; steps = n - e.left }) t' w'
  was_beyond beyond s t' w' said stage work = made _ t' w' true beyond (λ i. record { said = said i; stage = stage i; work = work i }) refl
