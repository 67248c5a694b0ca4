-- plans whose machines are operations: what is proved of it
use Rattle.std.proofs.Common.{◌≡◌, Bool, ◌&&◌, true, false, [], refl, subst, sym}
use Rattle.shm_graph.specs.{declared.memo.Memo.Memo, Laws.Control, Operations.OperationLaws, Tells.happens_along}
use Rattle.plans.specs.{declared.calls.Calls.Calls, CallsControl.{calls_control, calls_does}}
use Rattle.plans.specs.{CallsFit.{CallsFits, CallsGives, PlanGives}, Proved.CallsKeep.{calls_begin, calls_tells}}
use Rattle.plans.specs.{Plans.{PlanLaws, Planned}, Tasks.{TaskLaws, CallsMay, CallsLeave}}

module _ {P C B A : Type 0} (k : Control C B) (q : Planned P C B A) (laws : PlanLaws k q) (may : P → Memo → Type 0) (ends : P → A → Type 0) (tasks : TaskLaws k q may ends) where
  both : (a b : Bool) → a ≡ true → b ≡ true → (a && b) ≡ true
  both a b x y = rw (x, y) refl

  pub calls_operation : OperationLaws (calls_control k q.steered) (CallsFits k q) (CallsGives k q) (CallsMay q may) (calls_does k q) (CallsLeave q) (λ m. ends m.plan)
  calls_operation =
      record {
        tells = calls_tells k q laws;
        fresh = λ m r h. let n = tasks.new m.plan r h.1 in both (q.steered.first m.plan) (k.fresh m.call) n.first (subst (λ (x : Calls P C). k.fresh x.call ≡ true) (sym h.0) n.fresh);
        asks = λ m r h. subst (λ (x : Calls P C). k.finished x.call ≡ false) (sym h.0) (laws.calls m.plan).asks;
        begins = λ m r ready h. let n = tasks.new m.plan r h.1 in subst (λ (x : Calls P C). CallsFits k q x r r []) (sym h.0) (calls_begin k q laws m.plan r n.first n.start (tasks.begins m.plan r ready h.1));
        leads = λ m r0 r tr a ready h g. let n = tasks.new m.plan r0 h.1 in
            subst (λ (x : Calls P C). q.leaves m.plan r0 r tr (happens_along (calls_control k q.steered) (calls_does k q) x tr) a) (sym h.0) (subst (λ (z : P). PlanGives k q z r0 r tr a) n.start g).leaves;
        rests = λ m r0 r tr es a ready h l. tasks.rests m.plan r0 r tr es a ready h.1 l;
      }
