use Rattle.std.proofs.Common.{◌≡◌, ◌≢◌, ℕ, Ok, true, sym, subst, rules}
use Rattle.plans.specs.{CallsControl.{calls_control, calls_does, calls_of}, Tasks.CallsLeave}
use Rattle.shm_graph.specs.{declared.ask.Me.Me, Reach.is_reached}
use Rattle.shm_count.specs.Roots.{root_word}
use Rattle.shm_queue.specs.Receive.{Control.{receive_parts, receiving, receive_steered}, receive_plan}
use Rattle.shm_pool.specs.Tokens.{me_of}
use Rattle.t_uses.proofs.Quiet.{alive_before}
use Rattle.t_uses.proofs.threads.take.Goals as goal

pub returns-else-made-eq0-clause-root : goal.returns-else-made-eq0-clause-root
returns-else-made-eq0-clause-root c =
    let t = c.args.client.now in
    let u = c.receive.new.self in
    let made = c.in-Done-Ok.made in
    let h = rw c.in-Done-Ok.field-0-is at c.in-Done-Ok.ensures.called in
    let me : Me = me_of t.of t.account in
    let k = c.receive_keeps.ensures in
    let r0 = t.account.memo in
    let r = u.account.memo in
    let alive = alive_before (calls_control receive_parts receive_steered) (calls_does receive_parts receive_plan) (CallsLeave receive_plan) (λ m b. Unit {0}) (calls_of receive_steered (receiving me c.args.from)) t u _ _ (Ok made) h.done in
    let low = k.number me c.args.from r0 r _ _ (Ok made) h.done.left_so in
    let named = k.named me c.args.from r0 r _ _ (Ok made) h.done.left_so in
    let some : made.block ≢ 0 = search rules in
    record {
      low = low;
      named = subst (λ (w : ℕ). root_word w r made.root ≡ made.block) (sym h.done.same.1) named;
      reached = subst (λ (w : ℕ). is_reached w r made.block ≡ true) (sym h.done.same.1) (k.reached me c.args.from r0 r _ _ (Ok made) h.done.left_so (c.requires.quiet.rests.between alive).idle made.root made.block low some named);
    }
