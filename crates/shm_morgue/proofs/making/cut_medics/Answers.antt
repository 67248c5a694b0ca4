use Rattle.std.proofs.Common.{◌≡◌, ℕ, ◌+◌, ◌-◌, ◌≤◌, List, [], ◌∷◌, ◌++◌, length, drop, take, sym, ap, ◌∙◌, subst, arith}
use Rattle.crossbeam_queue.specs.Passes.{view}
use Rattle.shm_morgue.specs.{declared.rule.Taken.Taken, Hands.{blank_lists, first_list, hands, takes_of, which}}
use Rattle.shm_morgue.proofs.{Cutting.{lists_cut, more_medics, new_medic}, Loops.medics_long, Moves.cuts_medic_one}
use Rattle.shm_morgue.proofs.making.cut_medics.Goals as goal

pub another-place-requires-clause-queue : goal.another-place-requires-clause-queue
another-place-requires-clause-queue g c = c.loop-medic.invariant.of

pub another-place-requires-clause-rule : goal.another-place-requires-clause-rule
another-place-requires-clause-rule g c =
    let i : ℕ = c.loop-medic._medic in
    let n : ℕ = c.args.clients in
    let k : ℕ = c.args.doctors in
    cuts_medic_one g.J.Pools.pools c.loop-medic.home.id (view c.loop-medic.home) [] [] (blank_lists (k - (i + 1))) n k
    (c.loop-medic.invariant.view_is ∙ ap (λ (l : List (List Taken)). hands [] l n k) (lists_cut i k c.loop-medic-test.true))

pub push_reserved-requires : goal.push_reserved-requires
push_reserved-requires g c =
    let at = c.loop-medic in
    let many = ap length at.invariant.made ∙ medics_long (which c.args.home.now) at._medic in
    let room = at.invariant.room in
    let len = at.medics.ok.0 in
    let less = c.loop-medic-test.true in
    omega arith

pub invariant_of-push_reserved : goal.invariant_of-push_reserved
invariant_of-push_reserved g c =
    let i : ℕ = c.loop-medic._medic in
    let n : ℕ = c.args.clients in
    let k : ℕ = c.args.doctors in
    let v : view c.loop-medic.home ≡ hands [] ([] ∷ blank_lists (k - (i + 1))) n k = c.loop-medic.invariant.view_is ∙ ap (λ (l : List (List Taken)). hands [] l n k) (lists_cut i k c.loop-medic-test.true) in
    new_medic c.another-place.result n k (c.another-place.ensures.rule.1 ∙ (λ j. hands [] (take 1 (v j).medics) (v j).clients (v j).doctors)) c.requires.some c.another-place.ensures.queue.1.1

pub loop-medic-preserved : goal.loop-medic-preserved
loop-medic-preserved g c =
    let i : ℕ = c.loop-medic._medic in
    let n : ℕ = c.args.clients in
    let k : ℕ = c.args.doctors in
    let inv = c.loop-medic.invariant in
    let v : view c.loop-medic.home ≡ hands [] ([] ∷ blank_lists (k - (i + 1))) n k = inv.view_is ∙ ap (λ (l : List (List Taken)). hands [] l n k) (lists_cut i k c.loop-medic-test.true) in
    let queue = c.another-place.ensures.queue in
    let rule = c.another-place.ensures.rule in
    let w : view c.another-place.result ≡ hands [] ([] ∷ []) n k = rule.1 ∙ (λ j. hands [] (take 1 (v j).medics) (v j).clients (v j).doctors) in
    let table : c.another-place.result.table_id ≡ c.loop-medic.home.table_id = queue.1.0 ∙ sym inv.of.0 in
    let one : which c.another-place.result ≡ which c.args.home.now = (λ j. record { queue = table j; clients = (w j).clients; medics = (w j).doctors }) ∙ sym (λ j. record { queue = c.loop-medic.home.table_id; clients = (v j).clients; medics = (v j).doctors }) ∙ inv.same in
    let medic : takes_of c.another-place.result ≡ record { of = which c.args.home.now; entries = [] } = (λ j. record { of = which c.another-place.result; entries = first_list (w j).medics }) ∙ (λ j. record { of = one j; entries = [] }) in
    record {
      of = (queue.0.0 ∙ inv.of.0, queue.0.2 ∙ inv.of.1);
      same = (λ j. record { queue = queue.0.0 j; clients = (rule.0 j).clients; medics = (rule.0 j).doctors }) ∙ inv.same;
      view_is = rule.0 ∙ (λ j. record (v j) { medics = drop 1 (v j).medics });
      made = c.push_reserved.ensures.items ∙ ((λ j. inv.made j ++ medic j ∷ []) ∙ more_medics (which c.args.home.now) i);
      room = subst (λ (n : ℕ). k ≤ n) (sym c.push_reserved.ensures.capacity) inv.room;
    }
