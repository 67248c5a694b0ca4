use Rattle.shm_script.specs.Faults.{items_fit}
use Rattle.shm_script.proofs.ManyFit.{at_place, item_in, item_client_out, item_turns_out, items_out}
use Rattle.shm_script.proofs.judge.fit_items.Goals as goal

pub returns-in_default : goal.returns-in_default
returns-in_default c = item_client_out c.args.clients c.loop-item.fit.items c.args.items.now c.loop-item.item-index _ (items_fit c.args.clients c.args.items.now) (at_place c.args.items.now c.loop-item.item-index _ c.loop-item-test.true) c.loop-item.invariant c.in_default.ensures

pub returns-in_default-fit_turns : goal.returns-in_default-fit_turns
returns-in_default-fit_turns c = item_turns_out c.args.clients c.loop-item.fit.items c.args.items.now c.loop-item.item-index _ (items_fit c.args.clients c.args.items.now) (at_place c.args.items.now c.loop-item.item-index _ c.loop-item-test.true) c.loop-item.invariant c.in-Some.client c.in-Some.ensures c.in_default-fit_turns.ensures

pub loop-item-preserved : goal.loop-item-preserved
loop-item-preserved c = rw c.in_ok-push.ensures.items (item_in c.args.clients c.loop-item.fit.items c.args.items.now c.loop-item.item-index _ (items_fit c.args.clients c.args.items.now) (at_place c.args.items.now c.loop-item.item-index _ c.loop-item-test.true) c.loop-item.invariant c.in-Some.client c.in-Some-fit_turns.turns c.in-Some.ensures c.in-Some-fit_turns.ensures)

pub returns : goal.returns
returns c = items_out c.args.clients c.loop-item.fit.items c.args.items.now c.loop-item.item-index (items_fit c.args.clients c.args.items.now) c.loop-item-test.false c.loop-item.invariant
