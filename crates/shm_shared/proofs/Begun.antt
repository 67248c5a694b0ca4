-- which operation a call begins
use Rattle.std.proofs.Common.{◌≡◌, ◌==◌, Bool, true, false, cond, Option, Some, None, Result, Ok, Err, refl}
use Rattle.shm_graph.specs.declared.ask.Me.{Me}
use Rattle.shm_script.specs.{declared.line.Line.Line, Ranges.LineFits}
use Rattle.shm_session.specs.declared.said.{Call.Call, Misuse.Misuse, Stage.Stage}
use Rattle.shm_session.specs.declared.said.Stage.TheVariants as stage
use Rattle.shm_sessions.specs.Logs.{IsCall}
use Rattle.shm_sitting.specs.{declared.work.Work.Work, Tables.{begins, command_by, joins, leaves, recovers, runs}}
use Rattle.shm_sitting.specs.Work.{commanding, join_work, leave_work, recover_work}
use Rattle.shm_shared.proofs.Lines.{command_fits}

pub data IsBegun (me : Me) (t : Stage) (c : Call) (m : Work) : Type 0 where
  Joins : (at : t ≡ stage.Vacant) (is : join_work me ≡ m) → IsBegun me t c m
  Leaves : (at : t ≡ stage.Live) (is : leave_work me ≡ m) → IsBegun me t c m
  Recovers : (at : t ≡ stage.Dead) (is : recover_work me ≡ m) → IsBegun me t c m
  Commands : (at : t ≡ stage.Live) (l : Line) (fits : IsCall c → LineFits me.geometry.clients me.who l) (is : commanding me l ≡ m) → IsBegun me t c m

ok_is : (x y : Work) → (let r : Result Work Misuse = Ok x in r ≡ Ok y) → x ≡ y
ok_is x y e = cc

err_is : (x : Misuse) (y : Work) → (let r : Result Work Misuse = Err x in r ≡ Ok y) → ⊥
err_is x y e = cc

joined : (me : Me) (t : Stage) (c : Call) (m : Work) → joins me t ≡ Ok m → IsBegun me t c m
joined me stage.Vacant c m e = Joins refl (ok_is _ _ e)
joined me stage.Live c m e = absurd (err_is _ _ e)
joined me stage.Dead c m e = absurd (err_is _ _ e)

left : (me : Me) (t : Stage) (c : Call) (m : Work) → leaves me t ≡ Ok m → IsBegun me t c m
left me stage.Vacant c m e = absurd (err_is _ _ e)
left me stage.Live c m e = Leaves refl (ok_is _ _ e)
left me stage.Dead c m e = absurd (err_is _ _ e)

recovered : (me : Me) (t : Stage) (c : Call) (m : Work) → recovers me t ≡ Ok m → IsBegun me t c m
recovered me stage.Vacant c m e = absurd (err_is _ _ e)
recovered me stage.Live c m e = absurd (err_is _ _ e)
recovered me stage.Dead c m e = Recovers refl (ok_is _ _ e)

ran : (me : Me) (t : Stage) (c : Call) (m : Work) → (o : Option Line) → command_by me c ≡ o → runs me t o ≡ Ok m → IsBegun me t c m
ran me t c m None z e = absurd (err_is _ _ e)
ran me stage.Vacant c m (Some l) z e = absurd (err_is _ _ e)
ran me stage.Live c m (Some l) z e = Commands refl l (λ h. command_fits me c l h z) (ok_is _ _ e)
ran me stage.Dead c m (Some l) z e = absurd (err_is _ _ e)

pub begun : (me : Me) (t : Stage) (c : Call) (m : Work) → begins me t c ≡ Ok m → IsBegun me t c m
begun me t c m = go (c.op == 1) (c.op == 2) (c.op == 3)
  where
    go : (x y z : Bool) → cond x (joins me t) (cond y (leaves me t) (cond z (recovers me t) (runs me t (command_by me c)))) ≡ Ok m → IsBegun me t c m
    go true y z e = joined me t c m e
    go false true z e = left me t c m e
    go false false true e = recovered me t c m e
    go false false false e = ran me t c m (command_by me c) refl e
