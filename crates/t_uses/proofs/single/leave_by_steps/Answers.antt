use Rattle.std.proofs.Common.{◌≡◌, ◌≢◌, ◌<◌, Bool, true, false, ◌&&◌, refl, sym, ap, ◌∙◌, subst, arith, inl, true≢false}
use Rattle.plans.specs.{CallsControl.{calls_control, calls_of}, CallsFit.{CallsFits, CallsGives}}
use Rattle.plans.specs.Proved.CallsKeep.{calls_laws}
use Rattle.shm_graph.specs.{declared.{ask.Me.Me, memo.Memo.Memo, run.Account.Account}, Agents.is_gone, Laws.is_some}
use Rattle.shm_graph.specs.Whole.{fits_now, gives_now}
use Rattle.shm_graph.proofs.Machines.Composing.{none_of, some_of}
use Rattle.shm_recover.specs.Leave.{Control.{leave_parts, leave_steered, leaving}, MayLeave, leave_plan}
use Rattle.shm_recover.specs.Proved.Leave.Laws.{leave_laws}
use Rattle.shm_pool.specs.{Proved.Lasts.leaving_last, Tokens.{IsFor, me_of}}
use Rattle.shm_pool.proofs.{Calling.goes_on, Lasting.{fits_first, is_mine, unfinished}}
use Rattle.t_uses.proofs.single.leave_by_steps.Goals as goal

right_false : (b c : Bool) → c ≡ false → (b && c) ≡ false
right_false true c e = e
right_false false c e = refl

pub steps-init : goal.steps-init
steps-init c =
    let t = c.in-Ok.client in
    let e = c.in-Ok.ensures in
    let r : Memo = t.account.memo in
    let who : Me = me_of t.of t.account in
    let state : c.new-leaving.result ≡ calls_of leave_steered (leaving who) = c.new-leaving.ensures ∙ ap (λ p. calls_of leave_steered p) (c.new.ensures ∙ ap leaving c.me.ensures.is) in (
      e.same.0 ∙ c.requires.of,
      e.same.2,
      subst (λ m. IsFor t.of t.account (calls_control leave_parts leave_steered) m) (sym state)
          (is_mine leave_parts leave_plan leave_laws leaving MayLeave leaving_last who, unfinished leave_parts leave_plan leave_laws leaving MayLeave leaving_last who, (λ first. e.leaves.1), leaving_last.here who r e.leaves.0 c.me.ensures.kind),
      (r, subst (λ m. fits_now (calls_control leave_parts leave_steered) (CallsFits leave_parts leave_plan) m r r) (sym state) (fits_first leave_parts leave_plan leave_laws leaving MayLeave leaving_last who r e.leaves.0)),
    )

pub steps-preserved : goal.steps-preserved
steps-preserved c =
    let k = calls_control leave_parts leave_steered in
    let L = calls_laws leave_parts leave_plan leave_laws in
    let i = c.steps.invariant in
    let ne : c.steps.life.left ≢ 0 = (λ z. true≢false (sym (c.in-More.ensures.died.1 (inl z)))) in
    let lt : 0 < c.steps.life.left = omega arith in
    let s = c.in-More.ensures.turn lt i.1 in
    let x = s.2 in
    let none = none_of (k.turns c.steps.leaving x.seen) (sym x.turn) in
    let st = L.steady c.steps.leaving x.seen i.2.1 in
    let same = c.step.ensures.same in
    let me : k.me c.step.new.m ≡ me_of c.step.new.self.of c.step.new.self.account =
    ap k.me x.next ∙ (st.same_me ∙ (i.2.0 ∙ (let a = sym same.0 in let b = sym same.1 in λ j. record { geometry = (a j).start.geometry; who = b j }))) in
    let over : c.step.new.self.account.memo.over ≡ false = ap (λ (y : Account). y.memo.over) x.account ∙ (st.ends ∙ ap is_some none) in (
      same.0 ∙ i.0,
      s.1,
      (me, ap k.finished x.next ∙ (st.ends ∙ ap is_some none), (λ first. absurd (true≢false (sym first ∙ (ap k.fresh x.next ∙ st.started)))), right_false (is_gone c.step.new.self.account.memo.status) _ over),
      (i.3.0, goes_on k (fits_now k (CallsFits leave_parts leave_plan)) (gives_now (CallsGives leave_parts leave_plan)) c.steps.leaving c.steps.client.account c.step.new.self.account _ c.step.new.m i.3.0 i.3.1 x none),
    )

pub end-requires-clause-over : goal.end-requires-clause-over
end-requires-clause-over c = λ alive.
    let k = calls_control leave_parts leave_steered in
    let L = calls_laws leave_parts leave_plan leave_laws in
    let i = c.steps.invariant in
    let ne : c.steps.life.left ≢ 0 = (λ z. true≢false (sym (c.in-Done.ensures.died.1 (inl z)))) in
    let lt : 0 < c.steps.life.left = omega arith in
    let x = (c.in-Done.ensures.turn lt i.1).2 in
    let some = some_of (k.turns c.steps.leaving x.seen) c.in-Done.field-0 (sym x.turn) in
    let st = L.steady c.steps.leaving x.seen i.2.1 in
    ap (λ (y : Account). y.memo.over) x.account ∙ (st.ends ∙ ap is_some some)
