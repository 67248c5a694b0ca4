use Rattle.std.proofs.Common.{◌≡◌, ◌+◌, ◌*◌, cond, eqb, sym, ap, ◌∙◌, arith}
use Rattle.shm_words.specs.{Headers.header_of, Layout.{bodies, total_of}}
use Rattle.shm_graph.specs.{declared.spot.Spot.TheVariants.Head, Spots.{see, spot_at}}
use Rattle.shm_graph.specs.References.{one_if, sum_below, references, live_count, references_in_all}
use Rattle.shm_graph.proofs.Spots.Seeing.{classes-see}
use Rattle.shm_report.specs.Counts.{names_one}
use Rattle.shm_report.proofs.counts.Counts.of.Goals as goal

pub returns-clause-live : goal.returns-clause-live
unfolding live_count
returns-clause-live c =
    let g = c.args.geometry in
    let w = see g c.args.words.now in
    let e : bodies g + 128 * c.loop-page.page ≡ total_of g = omega (arith, c.loop-page-test.false, c.loop-page.auto.page-end, c.segments.ensures, c.from-page-end.ensures) in
    c.loop-page.invariant.live ∙ ap (λ n. sum_below n (λ b. one_if (header_of (w (Head b))).live)) e

pub returns-clause-refs : goal.returns-clause-refs
unfolding references_in_all
returns-clause-refs c = λ pool.
    let g = c.args.geometry in
    let ws = c.args.words.now in
    let e : bodies g + 128 * c.loop-page.page ≡ total_of g = omega (arith, c.loop-page-test.false, c.loop-page.auto.page-end, c.segments.ensures, c.from-page-end.ensures) in
    c.loop-page.invariant.refs pool ∙ (ap (λ n. sum_below n (names_one g ws)) e
    ∙ sym (ap (λ class. sum_below (total_of g) (λ a. cond (eqb (references g.wide (see g ws) (spot_at g class a)) 0) 0 1)) (classes-see g ws c.requires)))
