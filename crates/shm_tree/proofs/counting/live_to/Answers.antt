use Rattle.std.proofs.Common.{◌≡◌, ℕ, ◌+◌, ◌*◌, get_or, sym, ap, subst, ◌∙◌, arith}
use Rattle.shm_words.specs.Layout.{bodies, pages}
use Rattle.shm_words.proofs.Placing.{total_most_wide}
use Rattle.shm_graph.specs.{References.one_if, Spots.{block_spot, classes_in, spot_at}}
use Rattle.shm_plain.specs.Pools.{Pool}
use Rattle.shm_tree.specs.{Holding.lives_below, Keeping.is_live}
use Rattle.shm_tree.proofs.Lives.{body_start, lives_few, lives_next, one_most, page_inside, page_spot, page_start, page_within}
use Rattle.shm_tree.proofs.counting.live_to.Goals.{After-body, After-page}
use Rattle.shm_tree.proofs.counting.live_to.Goals as goal

page_at : (c : After-page) → c.page.result ≡ pages c.args.pool.now.start.geometry
page_at c = page_start _ _ _ c.geometry-geometry.ensures.is c.page.ensures

body_at : (c : After-body) → c.body.result ≡ bodies c.args.pool.now.start.geometry
body_at c = body_start _ _ _ c.geometry-geometry.ensures.is c.body.ensures

pub overflow_add-page : goal.overflow_add-page
overflow_add-page c =
    let w = page_inside c.args.pool.now c.args.page 0 c.requires.page (omega arith) in
    omega (arith, w.0, page_at (goal.at.overflow_add-page c).After-page, total_most_wide c.args.pool.now.start.geometry c.requires.run.held.at.fits)

pub word-class-requires : goal.word-class-requires
word-class-requires c =
    let w = page_inside c.args.pool.now c.args.page 0 c.requires.page (omega arith) in
    omega (arith, w.0, page_at (goal.at.word-class-requires c).After-page)

pub overflow_add-first : goal.overflow_add-first
overflow_add-first c =
    let w = page_inside c.args.pool.now c.args.page 0 c.requires.page (omega arith) in
    omega (arith, w.1, body_at (goal.at.overflow_add-first c).After-body, total_most_wide c.args.pool.now.start.geometry c.requires.run.held.at.fits)

pub loop-index-init : goal.loop-index-init
loop-index-init c =
    let b = body_at (goal.at.loop-index-init c).After-body in
    let e : bodies c.args.pool.now.start.geometry + 128 * c.args.page ≡ c.body.result + 128 * c.args.page + 0 = omega (arith, b) in
    c.requires.before ∙ ap (λ (n : ℕ). lives_below c.args.pool.now n) e

pub overflow_add-first-in-loop-index : goal.overflow_add-first-in-loop-index
overflow_add-first-in-loop-index c =
    let w = page_within c.args.pool.now c.args.page c.loop-index.index c.body.result c.requires.page c.loop-index-test.true (body_start _ _ _ c.geometry-geometry.ensures.is c.body.ensures) in
    omega (arith, w, total_most_wide c.args.pool.now.start.geometry c.requires.run.held.at.fits)

pub is_live_at-requires-clause-at : goal.is_live_at-requires-clause-at
is_live_at-requires-clause-at c = page_within c.args.pool.now c.args.page c.loop-index.index c.body.result c.requires.page c.loop-index-test.true (body_start _ _ _ c.geometry-geometry.ensures.is c.body.ensures)

pub is_live_at-requires-clause-spot : goal.is_live_at-requires-clause-spot
is_live_at-requires-clause-spot c =
    let p : Pool = c.args.pool.now in
    let i : ℕ = c.loop-index.index in
    let k : ℕ = c.word-class.result in
    let page = page_start _ _ _ c.geometry-geometry.ensures.is c.page.ensures in
    let body : bodies p.start.geometry ≡ c.body.result = sym (body_start _ _ _ c.geometry-geometry.ensures.is c.body.ensures) in
    let at : c.page.result + c.args.page ≡ pages p.start.geometry + c.args.page = omega (arith, page) in
    let is : k ≡ get_or p.words (pages p.start.geometry + c.args.page) 0 = c.word-class.ensures.is ∙ ap (λ (n : ℕ). get_or p.words n 0) at in
    subst (λ (x : ℕ). spot_at p.start.geometry (classes_in p.start.geometry p.words) (x + 128 * c.args.page + i) ≡ block_spot k (x + 128 * c.args.page + i) i) body (page_spot p c.args.page i k c.requires.page c.loop-index-test.true is)

pub overflow_add-live : goal.overflow_add-live
overflow_add-live c =
    let w = page_within c.args.pool.now c.args.page c.loop-index.index c.body.result c.requires.page c.loop-index-test.true (body_start _ _ _ c.geometry-geometry.ensures.is c.body.ensures) in
    let few = lives_few c.args.pool.now (c.body.result + 128 * c.args.page + c.loop-index.index) in
    let one = one_most c.is_live_at.result in
    omega (arith, w, few, one, c.from-live.ensures, c.loop-index.invariant, total_most_wide c.args.pool.now.start.geometry c.requires.run.held.at.fits)

pub loop-index-preserved : goal.loop-index-preserved
loop-index-preserved c =
    let p : Pool = c.args.pool.now in
    let n : ℕ = c.body.result + 128 * c.args.page + c.loop-index.index in
    let e : n + 1 ≡ c.body.result + 128 * c.args.page + (c.loop-index.index + 1) = omega arith in
    let same : lives_below p (n + 1) ≡ lives_below p (c.body.result + 128 * c.args.page + (c.loop-index.index + 1)) = ap (λ (x : ℕ). lives_below p x) e in
    let next : lives_below p (n + 1) ≡ lives_below p n + one_if (is_live p n) = lives_next p n in
    let step : c.from-live.result ≡ one_if (is_live p n) = c.from-live.ensures ∙ ap one_if c.is_live_at.ensures in
    omega (arith, same, next, step, c.loop-index.invariant)

pub returns : goal.returns
returns c =
    let p : Pool = c.args.pool.now in
    let body = body_start _ _ _ c.geometry-geometry.ensures.is c.body.ensures in
    let e : c.body.result + 128 * c.args.page + c.loop-index.index ≡ bodies p.start.geometry + 128 * (c.args.page + 1) = omega (arith, body, c.loop-index-test.false, c.loop-index.auto.index-end) in
    c.loop-index.invariant ∙ ap (λ (x : ℕ). lives_below p x) e
