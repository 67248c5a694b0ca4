-- what a call makes of a session: nothing, a giving up, or the beginning of an operation
use Rattle.std.proofs.Common.{◌≡◌, ◌==◌, ◌∙◌, ℕ, Bool, true, false, ap, cond, refl, Option, Some, None, Result, Ok, Err}
use Rattle.std.proofs.lemmas.Bool.{eqb-true}
use Rattle.std.specs.Option.{is_some}
use Rattle.shm_graph.specs.declared.ask.Me.{Me}
use Rattle.shm_session.specs.declared.said.{Call.Call, Misuse.Misuse, Stage.Stage}
use Rattle.shm_session.specs.Sessions.{Operations, Turned, beginning, begun, called, fallen, fallen_stage, next_said, standing_said, starts}

module _ {S A : Type 0} (o : Operations S A) (me : Me) where
  pub data IsTaken (c : Call) (t : Stage) (w : Option S) (y : Turned S) : Type 0 where
    Same : (other : (c.op == 18) ≡ false) (stage : y.stage ≡ t) (work : y.work ≡ w) → IsTaken c t w y
    Given : (given : (c.op == 18) ≡ true) (stage : y.stage ≡ fallen_stage o t w) (work : y.work ≡ None) → IsTaken c t w y
    Started : (other : (c.op == 18) ≡ false) (m : S) (begun : o.begins me t c ≡ Ok m) (idle : w ≡ None) (going : o.control.finished m ≡ false) (stage : y.stage ≡ t) (work : y.work ≡ Some m) → IsTaken c t w y

  started : (t : Stage) (c : Call) (m : S) → (c.op == 18) ≡ false → o.begins me t c ≡ Ok m → (b : Bool) → o.control.finished m ≡ b → IsTaken c t None (starts o t m b)
  started t c m n e true f = Same n refl refl
  started t c m n e false f = Started n m e refl f refl refl

  begun_so : (t : Stage) (c : Call) (r : Result S Misuse) → (c.op == 18) ≡ false → o.begins me t c ≡ r → IsTaken c t None (begun o t r)
  begun_so t c (Err e) n q = Same n refl refl
  begun_so t c (Ok m) n q = started t c m n q (o.control.finished m) refl

  beginning_so : (t : Stage) (w : Option S) (c : Call) → (c.op == 18) ≡ false → IsTaken c t w (beginning o me t w c)
  beginning_so t None c n = begun_so t c (o.begins me t c) n refl
  beginning_so t (Some m) c n = Same n refl refl

  -- an operation by another number doesn't give up
  other : (n k : ℕ) → (k == 18) ≡ false → (n == k) ≡ true → (n == 18) ≡ false
  other n k z e = ap (λ (j : ℕ). j == 18) (eqb-true n k e) ∙ z

  pub taken : (t : Stage) (w : Option S) (c : Call) → IsTaken c t w (called o me t w c)
  taken t w c = go (c.op == 16) (c.op == 17) (c.op == 18) refl refl refl
    where
      go : (a b d : Bool) → (c.op == 16) ≡ a → (c.op == 17) ≡ b → (c.op == 18) ≡ d → IsTaken c t w (cond a (record { said = standing_said t (is_some w); stage = t; work = w }) (cond b (record { said = next_said o w; stage = t; work = w }) (cond d (fallen o t w) (beginning o me t w c))))
      go true b d x y z = Same (other c.op 16 refl x) refl refl
      go false true d x y z = Same (other c.op 17 refl y) refl refl
      go false false true x y z = Given z refl refl
      go false false false x y z = beginning_so t w c z
