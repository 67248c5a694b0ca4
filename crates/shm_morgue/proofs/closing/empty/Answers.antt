use Rattle.std.proofs.Common.{◌≡◌, ℕ, ◌+◌, ◌<◌, ◌≤◌, List, [], ◌∷◌, ◌++◌, length, vec_capacity, sym, ap, ◌∙◌, subst, arith, length-append}
use Rattle.crossbeam_queue.specs.Passes.{view}
use Rattle.shm_morgue.specs.{declared.rule.{Hands.Hands, Taken.Taken}, Entries.Which}
use Rattle.shm_morgue.proofs.Emptying.{Emptying, IsAll, empties, empties_more, empties_on, emptied, is_all, takes_any}
use Rattle.shm_morgue.proofs.Moves.{knows}
use Rattle.shm_morgue.proofs.closing.empty.Goals as goal

pub len_as-count-requires-clause-rule : goal.len_as-count-requires-clause-rule
len_as-count-requires-clause-rule g c = knows g.J.Pools.pools c.args.place.id (view c.args.place) (ap (λ (v : Hands). v.fresh) c.requires.view)

pub loop-turn-init : goal.loop-turn-init
loop-turn-init g c =
    let now : Which = c.args.morgue.now in
    let v : Hands = view c.args.place in
    let a : IsAll now.clients now.medics v.porters v.medics = is_all now v.porters v.medics c.morgue.inside.clients c.morgue.inside.medics c.morgue.view_is c.morgue.invariant.1 c.morgue.invariant.2 c.requires.all.0 c.requires.all.1 in
    let few : c.len_as-count.result ≤ c.morgue.inside.queue.cap = c.len_as-count.ensures.rule.0 in
    let cap : c.morgue.inside.queue.cap ≡ now.clients = c.morgue.invariant.0 ∙ ap (λ (w : Which). w.clients) c.morgue.view_is in record {
      place = (c.len_as-count.ensures.queue.0.0 ∙ c.requires.place.0, c.len_as-count.ensures.queue.0.2 ∙ c.requires.place.1);
      emptying = subst (λ (l : List Taken). Emptying g.J.Pools.pools now.clients now.medics v.porters v.medics l (view c.len_as-count.new.pass) c.len_as-count.result) (sym c.requires.left)
          (empties g.J.Pools.pools now.clients now.medics v.porters v.medics v (view c.len_as-count.new.pass) c.len_as-count.result a c.requires.view c.len_as-count.ensures.queue.1 c.len_as-count.ensures.rule.1);
      many = ap length c.requires.left;
      room = (let room : now.clients ≤ vec_capacity c.args.left = c.requires.room in omega (arith, few, cap, room));
    }

pub pop_as-requires-clause-rule : goal.pop_as-requires-clause-rule
pop_as-requires-clause-rule g c =
    let now : Which = c.args.morgue.now in
    let v : Hands = view c.args.place in
    let inv = c.loop-turn.invariant in
    let a : IsAll now.clients now.medics v.porters v.medics = is_all now v.porters v.medics c.morgue.inside.clients c.morgue.inside.medics c.morgue.view_is c.morgue.invariant.1 c.morgue.invariant.2 c.requires.all.0 c.requires.all.1 in (
      takes_any g.J.Pools.pools c.loop-turn.place.id now.clients now.medics v.porters v.medics c.loop-turn.left.items (view c.loop-turn.place) c.len_as-count.result a inv.emptying,
      knows g.J.Pools.pools c.loop-turn.place.id (view c.loop-turn.place) (ap (λ (u : Hands). u.fresh) inv.emptying.view_is),
    )

pub unreachable-requires : goal.unreachable-requires
unreachable-requires g c =
    let now : Which = c.args.morgue.now in
    let v : Hands = view c.args.place in
    let inv = c.loop-turn.invariant in
    let a : IsAll now.clients now.medics v.porters v.medics = is_all now v.porters v.medics c.morgue.inside.clients c.morgue.inside.medics c.morgue.view_is c.morgue.invariant.1 c.morgue.invariant.2 c.requires.all.0 c.requires.all.1 in
    let many : length c.loop-turn.left.items ≡ c.loop-turn._turn = inv.many in
    let less : length c.loop-turn.left.items < c.len_as-count.result = subst (λ (k : ℕ). k < c.len_as-count.result) (sym many) c.loop-turn-test.true in
    empties_on g.J.Pools.pools now.clients now.medics v.porters v.medics c.loop-turn.left.items (view c.loop-turn.place) c.len_as-count.result a inv.emptying less c.in_default.ensures.rule.1

pub loop-turn-preserved : goal.loop-turn-preserved
loop-turn-preserved g c =
    let now : Which = c.args.morgue.now in
    let v : Hands = view c.args.place in
    let inv = c.loop-turn.invariant in
    let left : List Taken = c.loop-turn.left.items in
    let x : Taken = c.in-Some.taken in
    let a : IsAll now.clients now.medics v.porters v.medics = is_all now v.porters v.medics c.morgue.inside.clients c.morgue.inside.medics c.morgue.view_is c.morgue.invariant.1 c.morgue.invariant.2 c.requires.all.0 c.requires.all.1 in
    let items : c.push_reserved.new.self.items ≡ left ++ x ∷ [] = c.push_reserved.ensures.items in
    let one : length c.push_reserved.new.self.items ≡ length left + 1 = ap length items ∙ length-append left (x ∷ []) in
    let many : length left ≡ c.loop-turn._turn = inv.many in record {
      place = (c.in-Some.ensures.queue.0 ∙ inv.place.0, c.in-Some.ensures.queue.2 ∙ inv.place.1);
      emptying = subst (λ (l : List Taken). Emptying g.J.Pools.pools now.clients now.medics v.porters v.medics l (view c.pop_as.new.pass) c.len_as-count.result) (sym items)
          (empties_more g.J.Pools.pools now.clients now.medics v.porters v.medics left (view c.loop-turn.place) (view c.pop_as.new.pass) x c.len_as-count.result a c.in-Some.ensures.rule inv.emptying);
      many = one ∙ ap (λ (k : ℕ). k + 1) many;
      room = subst (λ (k : ℕ). c.len_as-count.result ≤ k) (sym c.push_reserved.ensures.capacity) inv.room;
    }

pub learn_as-requires-clause-rule : goal.learn_as-requires-clause-rule
learn_as-requires-clause-rule g c = knows g.J.Pools.pools c.loop-turn.place.id (view c.loop-turn.place) (ap (λ (u : Hands). u.fresh) c.loop-turn.invariant.emptying.view_is)

pub returns-clause-emptied : goal.returns-clause-emptied
returns-clause-emptied g c =
    let now : Which = c.args.morgue.now in
    let v : Hands = view c.args.place in
    let inv = c.loop-turn.invariant in
    let a : IsAll now.clients now.medics v.porters v.medics = is_all now v.porters v.medics c.morgue.inside.clients c.morgue.inside.medics c.morgue.view_is c.morgue.invariant.1 c.morgue.invariant.2 c.requires.all.0 c.requires.all.1 in
    let all : c.len_as-count.result ≤ length c.loop-turn.left.items = subst (λ (k : ℕ). c.len_as-count.result ≤ k) (sym inv.many) c.loop-turn-test.false in
    emptied g.J.Pools.pools now.clients now.medics v.porters v.medics c.loop-turn.left.items c.learn_as.ensures.rule.0 (view c.loop-turn.place) c.len_as-count.result a inv.emptying all c.learn_as.ensures.rule.1
