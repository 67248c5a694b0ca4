use Rattle.std.proofs.Common.{◌≡◌, ℕ, ◌+◌, ◌∙◌, lit≤, sym, true, false, true≢false, refl, ap, subst, []}
use Rattle.std.specs.Prelude.{Some}
use Rattle.shm_graph.specs.declared.{memo.Kind.TheVariants.Client, run.Start.Start, spot.Spot.TheVariants.Root}
use Rattle.shm_graph.specs.{Agents.{entered, recovers}, Held.is_loose, Runs.{EraFits, first_memo}, Views.own_word}
use Rattle.shm_plain.specs.{Calls.{Did, IsAtWork, Ran}, Pools.{IsRun, Pool, first_pool, memo_of}}
use Rattle.shm_recover.specs.Join.{JoinGives, join_fresh}
use Rattle.shm_tree.proofs.Beginning.{joined_dead, joined_falling}
use Rattle.shm_tree.proofs.Opening.{first_step, opened_forest, opened_versions, some_is, start_is}
use Rattle.shm_tree.proofs.forest.Forest.begin.Goals.{In-Some}
use Rattle.shm_tree.proofs.forest.Forest.begin.Goals as goal

pub unreachable-requires : goal.unreachable-requires
unreachable-requires c = true≢false (sym (c.in_default.ensures.exactly.1 (lit≤ tt, lit≤ tt, c.requires.segments.0, c.requires.segments.1)))

-- what is said of the pool, if there is one, is said of this one
start : (c : In-Some) → c.in-Some.pool.start ≡ record { geometry = c.in-Ok.geometry; first_era = 1; tables = false }
start c = some_is (λ (q : Pool). q.start ≡ record { geometry = c.in-Ok.geometry; first_era = 1; tables = false }) c.in_ok-pool.field-0 c.in-Some.pool c.in-Some.is c.in_ok-pool.ensures.start

era : (c : In-Some) → EraFits c.in-Some.pool.start.first_era
era c = subst (λ (s : Start). EraFits s.first_era) (sym (start c)) (lit≤ tt, lit≤ tt)

pub invariant_of-result : goal.invariant_of-result
invariant_of-result c =
    let o = c.in_ok-pool.field-0 in
    let p = c.new-ground.result in
    let g = c.in-Ok.geometry in
    let e = c.in_ok-pool.ensures in
    let is : o ≡ Some p = c.in-Some.is ∙ ap Some (sym c.new-ground.ensures) in
    let begun = ap (λ (q : Pool). q.start) c.new-ground.ensures ∙ start (goal.at.invariant_of-result c).In-Some in
    record {
      single = ap (λ (s : Start). s.tables) begun;
      forest =
          λ alive. opened_forest p g begun
          c.in-Ok.ensures.sizes.0
          (some_is (λ (q : Pool). (k : ℕ) → own_word (memo_of q 0).own (Root 0 k) ≡ 0) o p is e.roots)
          (some_is (λ (q : Pool). false ≡ false → is_loose (memo_of q 0).part ≡ true) o p is e.loose refl)
          (some_is (λ (q : Pool). JoinGives (join_fresh (record { geometry = g; who = 0 })) (entered Client (first_memo q.start 0)) (memo_of q 0) (memo_of q 0).call tt) o p is e.gives)
          (some_is IsRun o p is e.run)
          (some_is (IsAtWork 0) o p is e.at_work)
          (some_is (λ (q : Pool). recovers (memo_of q 0) ≡ false) o p is e.client);
      swept = λ alive calm. refl;
      lost = λ dead. absurd (true≢false (sym dead));
      first = ap (λ (s : Start). s.first_era) begun;
      falling =
          joined_falling p (some_is (IsAtWork 0) o p is e.at_work).geometry (subst (λ (q : Pool). EraFits q.start.first_era) (sym c.new-ground.ensures) (era (goal.at.invariant_of-result c).In-Some)) (some_is IsRun o p is e.run)
          (some_is (λ (q : Pool). Did 0 (first_pool q.start) q []) o p is e.events);
    }

pub returns : goal.returns
returns c =
    let o = c.in_ok-pool.field-0 in
    let p = c.new-ground.result in
    let e = c.in_ok-pool.ensures in
    let is : o ≡ Some p = c.in-Some.is ∙ ap Some (sym c.new-ground.ensures) in
    let x = c.of-life.result.left in
    let y = c.joined.new.life.left in
    record {
      start = start_is p.start c.in-Ok.geometry c.args.segments (ap (λ (q : Pool). q.start) c.new-ground.ensures ∙ start (goal.at.returns c).In-Some) c.in-Ok.ensures.sizes;
      run = some_is IsRun o p is e.run;
      joined = some_is (λ (q : Pool). Did 0 (first_pool q.start) q []) o p is e.events;
      step = first_step p x y (some_is (λ (q : Pool). Ran 0 true true (first_pool q.start) q x y) o p is e.ran) (some_is (λ (q : Pool). y + 1 ≡ x) o p is e.spent);
      empty = opened_versions p;
      none = joined_dead p (some_is (IsAtWork 0) o p is e.at_work).geometry (subst (λ (q : Pool). EraFits q.start.first_era) (sym c.new-ground.ensures) (era (goal.at.returns c).In-Some)) (some_is IsRun o p is e.run) (some_is (λ (q : Pool). Did 0 (first_pool q.start) q []) o p is e.events);
      hinted = refl;
      alive = refl;
    }
