use Rattle.std.proofs.Common.{◌≡◌, ℕ, ◌+◌, ◌-◌, ◌≤◌, List, [], ◌∷◌, ◌++◌, length, drop, take, sym, ap, ◌∙◌, subst, arith}
use Rattle.crossbeam_queue.specs.Passes.{view}
use Rattle.shm_morgue.specs.declared.rule.Desk.{Desk}
use Rattle.shm_morgue.specs.Hands.{blank_desks, blank_lists, desk, first_entries, hands, puts_of, which}
use Rattle.shm_morgue.proofs.Cutting.{blank_cut, blank_end, more_porters, new_porter, porters_long}
use Rattle.shm_morgue.proofs.Moves.{cuts_porter_one}
use Rattle.shm_morgue.proofs.making.cut_porters.Goals as goal

pub another-place-requires-clause-queue : goal.another-place-requires-clause-queue
another-place-requires-clause-queue g c = c.loop-client.invariant.of

pub another-place-requires-clause-rule : goal.another-place-requires-clause-rule
another-place-requires-clause-rule g c =
    let i : ℕ = c.loop-client.client in
    let n : ℕ = c.args.clients in
    let k : ℕ = c.args.doctors in
    let ds : List Desk = blank_desks (i + 1) (n - (i + 1)) in
    cuts_porter_one g.J.Pools.pools c.loop-client.home.id (view c.loop-client.home) (desk i []) ds (blank_lists k) n k
    (c.loop-client.invariant.view_is ∙ ap (λ (l : List Desk). hands l (blank_lists k) n k) (blank_cut i n c.loop-client-test.true))

pub push_reserved-requires : goal.push_reserved-requires
push_reserved-requires g c =
    let at = c.loop-client in
    let many = ap length at.invariant.made ∙ porters_long (which c.args.home.now) 0 at.client in
    let room = at.invariant.room in
    let len = at.porters.ok.0 in
    let less = c.loop-client-test.true in
    omega arith

pub invariant_of-push_reserved : goal.invariant_of-push_reserved
invariant_of-push_reserved g c =
    let i : ℕ = c.loop-client.client in
    let n : ℕ = c.args.clients in
    let k : ℕ = c.args.doctors in
    let v : view c.loop-client.home ≡ hands (desk i [] ∷ blank_desks (i + 1) (n - (i + 1))) (blank_lists k) n k = c.loop-client.invariant.view_is ∙ ap (λ (l : List Desk). hands l (blank_lists k) n k) (blank_cut i n c.loop-client-test.true) in
    new_porter c.another-place.result i n k (c.another-place.ensures.rule.1 ∙ (λ j. hands (take 1 (v j).porters) [] (v j).clients (v j).doctors)) c.requires.some c.another-place.ensures.queue.1.1

pub loop-client-preserved : goal.loop-client-preserved
loop-client-preserved g c =
    let i : ℕ = c.loop-client.client in
    let n : ℕ = c.args.clients in
    let k : ℕ = c.args.doctors in
    let inv = c.loop-client.invariant in
    let v : view c.loop-client.home ≡ hands (desk i [] ∷ blank_desks (i + 1) (n - (i + 1))) (blank_lists k) n k = inv.view_is ∙ ap (λ (l : List Desk). hands l (blank_lists k) n k) (blank_cut i n c.loop-client-test.true) in
    let queue = c.another-place.ensures.queue in
    let rule = c.another-place.ensures.rule in
    let w : view c.another-place.result ≡ hands (desk i [] ∷ []) [] n k = rule.1 ∙ (λ j. hands (take 1 (v j).porters) [] (v j).clients (v j).doctors) in
    let table : c.another-place.result.table_id ≡ c.loop-client.home.table_id = queue.1.0 ∙ sym inv.of.0 in
    let one : which c.another-place.result ≡ which c.args.home.now = (λ j. record { queue = table j; clients = (w j).clients; medics = (w j).doctors }) ∙ sym (λ j. record { queue = c.loop-client.home.table_id; clients = (v j).clients; medics = (v j).doctors }) ∙ inv.same in
    let porter : puts_of c.another-place.result i ≡ record { of = which c.args.home.now; client = i; entries = [] } = (λ j. record { of = which c.another-place.result; client = i; entries = first_entries (w j).porters }) ∙ (λ j. record { of = one j; client = i; entries = [] }) in
    record {
      of = (queue.0.0 ∙ inv.of.0, queue.0.2 ∙ inv.of.1);
      same = (λ j. record { queue = queue.0.0 j; clients = (rule.0 j).clients; medics = (rule.0 j).doctors }) ∙ inv.same;
      view_is = rule.0 ∙ (λ j. record (v j) { porters = drop 1 (v j).porters });
      made = c.push_reserved.ensures.items ∙ ((λ j. inv.made j ++ porter j ∷ []) ∙ more_porters (which c.args.home.now) 0 i i (omega arith));
      room = subst (λ (m : ℕ). n ≤ m) (sym c.push_reserved.ensures.capacity) inv.room;
    }

pub returns-clause-view : goal.returns-clause-view
returns-clause-view g c = let i : ℕ = c.loop-client.client in let n : ℕ = c.args.clients in
    c.loop-client.invariant.view_is ∙ ap (λ (l : List Desk). hands l (blank_lists c.args.doctors) n c.args.doctors) (blank_end i n c.loop-client-test.false)
