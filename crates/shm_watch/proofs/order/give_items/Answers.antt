use Rattle.std.proofs.Common.{◌≡◌, ◌+◌, List, ◌++◌, length, replicate, take, sym, ap, ◌∙◌, subst, arith}
use Rattle.std.proofs.lemmas.List.{take_more}
use Rattle.std.specs.{List.AllByRecursion, Prelude.slice_index_or}
use Rattle.shm_script.specs.{declared.line.Item.Item, Ranges.ItemFits, Values.Traced}
use Rattle.shm_replay.specs.Orders.{AreOfItems, IsGiven}
use Rattle.shm_watch.proofs.Giving.{fits_at, items_given, items_more, take_all}
use Rattle.shm_watch.proofs.order.give_items.Goals as goal
use Rattle.shm_plain.specs.Pools.{Pool}

pub give_item-requires-clause-item : goal.give_item-requires-clause-item
give_item-requires-clause-item g c =
    let order : c.args.trace.now.order ≡ c.as_slice-item-items.result.now = (let v = ap (λ (t : Traced). t.order) c.trace.view_is in cc) in
    (fits_at c.args.trace.now.clients c.as_slice-item-items.result.now c.loop-item.item-index _ (subst (AllByRecursion (ItemFits c.args.trace.now.clients)) order c.in_grammar.ensures.items) c.loop-item-test.true).0

pub loop-item-preserved : goal.loop-item-preserved
loop-item-preserved g c =
    let l = c.loop-item in
    let h = l.invariant in
    let t = c.args.trace.now in
    let p = c.args.pool.now in
    let got = c.give_item.ensures in
    let item = slice_index_or c.as_slice-item-items.result.now l.item-index (record { client = 0; turns = 0 }) in
    let (cs, are, is) = h.turns in
    let (n, gives, made) = got.given in
    let order : t.order ≡ c.as_slice-item-items.result.now = (let v = ap (λ (x : Traced). x.order) c.trace.view_is in cc) in
    record {
      seated = got.seated;
      turns = (
        cs ++ replicate n item.client,
        subst (λ (ys : List Item). AreOfItems t p (take (l.item-index + 1) ys) (cs ++ replicate n item.client)) (sym order)
            (subst (λ xs. AreOfItems t p xs (cs ++ replicate n item.client)) (sym (take_more c.as_slice-item-items.result.now l.item-index (record { client = 0; turns = 0 }) c.loop-item-test.true))
            (items_more t p (take l.item-index c.as_slice-item-items.result.now) item cs n (subst (λ (ys : List Item). AreOfItems t p (take l.item-index ys) cs) order are) (subst (λ (x : Pool). IsGiven t x item n) is gives))),
        items_given t p l.pool cs item.client n is c.give_item.new.pool made,
      );
      start = got.start ∙ h.start;
    }

pub returns-clause-given : goal.returns-clause-given
returns-clause-given g c =
    let h = c.loop-item.invariant in
    let (cs, are, is) = h.turns in
    let order : c.args.trace.now.order ≡ c.as_slice-item-items.result.now = (let v = ap (λ (x : Traced). x.order) c.trace.view_is in cc) in
    let n = ap length order in
    (cs, subst (λ xs. AreOfItems c.args.trace.now c.args.pool.now xs cs) (take_all c.args.trace.now.order c.loop-item.item-index (omega arith)) are, is)
