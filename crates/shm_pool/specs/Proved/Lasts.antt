-- a leaving and a recovery are plans that an agent makes last
use Rattle.std.proofs.Common.{◌≡◌, ◌≢◌, Bool, false, ◌&&◌, refl, sym, ap, ◌∙◌, true≢false}
use Rattle.shm_graph.specs.{declared.memo.{Memo.Memo, Status.{Status, TheVariants.Gone}}, Agents.is_gone}
use Rattle.shm_recover.specs.{Leave.{Control.{leave_parts, leaving}, MayLeave, leave_plan}, Mend.MayMend}
use Rattle.shm_recover.specs.Proved.{Leave.Laws.leave_begin, Recover.Laws.recover_begin}
use Rattle.shm_recover.specs.Recover.{Control.{recover_parts, recovering}, recover_plan}
use Rattle.shm_pool.specs.Lasts.{LastLaws}

-- a status that isn't gone
not_gone : (s : Status) → s ≢ Gone → is_gone s ≡ false
not_gone Gone n = absurd (n refl)
not_gone _ n = refl

pub leaving_last : LastLaws leave_parts leave_plan leaving MayLeave
leaving_last =
    record {
      me = λ me. refl;
      new = λ me. record { first = refl; start = refl; fresh = refl };
      here = λ me r may kind. ap (λ (b : Bool). b && r.over) (not_gone r.status may.may.here.stays);
      begins = λ me r may. leave_begin me r may;
      leaves = λ me r may. record { ok = λ x g. g.leaves.status; err = λ x e g. ap (λ (m : Memo). is_gone m.status) g.leaves.1.left.rest ∙ not_gone r.status may.may.here.stays };
    }

pub recovery_last : LastLaws recover_parts recover_plan recovering MayMend
recovery_last =
    record {
      me = λ me. refl;
      new = λ me. record { first = refl; start = refl; fresh = refl };
      here = λ me r may kind. absurd (true≢false (sym may.recoverer ∙ kind));
      begins = λ me r may. recover_begin me r may;
      leaves = λ me r may. record { ok = λ x g. g.leaves.status; err = λ x e g. ap is_gone g.leaves.status };
    }
