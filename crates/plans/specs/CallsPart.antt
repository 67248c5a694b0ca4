-- a machine that makes the calls of a plan as a part of another one
use Rattle.std.specs.Prelude.{◌≡◌, Bool, true, []}
use Rattle.std.proofs.Common.{sym, subst}
use Rattle.shm_graph.specs.{declared.memo.Memo.Memo, Laws.Control, Tells.happens_along}
use Rattle.plans.specs.{declared.calls.Calls.Calls, CallsControl.{calls_control, calls_of, calls_does}}
use Rattle.plans.specs.CallsFit.{CallsFits, CallsGives, PlanGives}
use Rattle.plans.specs.Proved.{CallsKeep.{calls_begin, calls_laws, calls_tells}, Placed.placed}
use Rattle.plans.specs.{Parts.{Part, PartLaws}, Plans.{Planned, PlanLaws, plan_trail}}

module _ {P C B A : Type 0} (k : Control C B) (q : Planned P C B A) where
  -- the machine before its first word step, of a plan before its first call, where what is known then is so
  pub record MayCall (m : Calls P C) (r : Memo) : Type 0 where
    pub made : m ≡ calls_of q.steered m.plan
    pub first : q.steered.first m.plan ≡ true
    pub start : q.steered.start m.plan ≡ m.plan
    pub knows : q.knows m.plan r r [] []

  abbrev pub calls_part : Part (Calls P C) A
  calls_part =
      record {
        fits = CallsFits k q;
        gives = CallsGives k q;
        does = calls_does k q;
        needs = MayCall;
        leaves = λ m. q.leaves m.plan;
        asks = λ m. plan_trail q m.plan;
      }

  pub calls_part_laws : PlanLaws k q → (first : Bool) → PartLaws first (calls_control k q.steered) calls_part
  calls_part_laws l first =
      record {
        placed = placed first (calls_control k q.steered) (CallsFits k q) (CallsGives k q) (calls_laws k q l);
        tells = calls_tells k q l;
        begins = λ m r n. subst (λ (x : Calls P C). CallsFits k q x r r []) (sym n.made) (calls_begin k q l m.plan r n.first n.start n.knows);
        ends = λ m rs r t a n g held same.
            subst (λ (x : Calls P C). q.leaves m.plan rs r t (happens_along (calls_control k q.steered) (calls_does k q) x t) a) (sym n.made)
            (subst (λ (s : P). PlanGives k q s rs r t a) n.start g).leaves;
        asked = λ m rs r t a n g. (subst (λ (s : P). PlanGives k q s rs r t a) n.start g).trail;
      }
