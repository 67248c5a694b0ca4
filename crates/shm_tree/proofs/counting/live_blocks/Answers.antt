use Rattle.std.proofs.Common.{◌≡◌, ℕ, ◌+◌, ◌*◌, sym, ap, ◌∙◌, arith}
use Rattle.shm_words.specs.{declared.geometry.Geometry.Geometry, Layout.{bodies, total_of}}
use Rattle.shm_plain.specs.Pools.{Pool}
use Rattle.shm_tree.specs.Holding.{lives_below}
use Rattle.shm_tree.proofs.Lives.{lives_all, lives_first}
use Rattle.shm_tree.proofs.counting.live_blocks.Goals as goal

pub loop-page-init : goal.loop-page-init
loop-page-init c =
    let p : Pool = c.args.pool.now in
    let e : bodies p.start.geometry ≡ bodies p.start.geometry + 0 = omega arith in
    sym (lives_first p) ∙ ap (λ (n : ℕ). lives_below p n) e

pub returns : goal.returns
returns c =
    let p : Pool = c.args.pool.now in
    let s = ap (λ (g : Geometry). g.segments) c.geometry-geometry.ensures.is in
    let e : bodies p.start.geometry + 128 * c.loop-page.page ≡ total_of p.start.geometry = omega (arith, s, c.loop-page-test.false, c.loop-page.auto.page-end, c.segments.ensures, c.from-page-end.ensures) in
    c.loop-page.invariant ∙ lives_all p _ e
