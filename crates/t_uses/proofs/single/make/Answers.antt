use Rattle.std.proofs.Common.{◌≡◌, ◌≢◌, ℕ, Ok, sym, ap, ◌∙◌, subst, rules}
use Rattle.shm_graph.specs.declared.ask.Me.{Me}
use Rattle.shm_count.specs.Roots.{root_word}
use Rattle.shm_alloc.specs.Alloc.{AsPart.AllocLeaves, Control.alloc_control, Events.alloc_event}
use Rattle.t_uses.proofs.Having.{alive_after}
use Rattle.t_uses.proofs.single.make.Goals as goal

pub returns-in-Ok-Done-Ok-clause-block : goal.returns-in-Ok-Done-Ok-clause-block
returns-in-Ok-Done-Ok-clause-block c =
    let t = c.args.client.now in
    let u = c.alloc.new.self in
    let made = c.in-Ok-Done-Ok.made in
    let done = rw c.in-Ok-Done-Ok.field-0-is at c.in-Ok-Done-Ok.ensures.called in
    let h = rw c.in-Ok-Done-Ok.field-0-0-is at done in
    let k = c.alloc_keeps.ensures in
    let r0 = t.account.memo in
    let r = u.account.memo in
    let left = h.done.left_so in
    let queues = k.left h.machine r0 r _ _ (Ok made) left in
    let some : made.block ≢ 0 = search rules in
    record {
      at = record {
        alive = alive_after alloc_control alloc_event AllocLeaves (λ m b. Unit {0}) h.machine t u _ _ (Ok made) h.done;
        rests = h.rests;
        single = queues.loose ∙ c.requires.rests.single;
        latch = queues.latch ∙ c.requires.rests.latch;
      };
      low = k.number h.machine r0 r _ _ (Ok made) left;
      some = some;
      named = subst (λ (w : ℕ). root_word w r made.root ≡ made.block) (ap (λ (m : Me). m.who) h.asked.of ∙ sym h.done.same.1) (k.named h.machine r0 r _ _ (Ok made) left);
    }
