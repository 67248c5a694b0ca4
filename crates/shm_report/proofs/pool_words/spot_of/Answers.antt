use Rattle.std.proofs.Common.{sym, ap, ◌∙◌}
use Rattle.shm_words.specs.Layout.{is_in, address}
use Rattle.shm_graph.specs.Spots.{spot_of, block_spot, classes_in}
use Rattle.shm_graph.proofs.Spots.WordsAt.{body_in, body_after, page_class}
use Rattle.shm_report.proofs.pool_words.spot_of.Goals as goal

pub page-requires-clause-segment : goal.page-requires-clause-segment
page-requires-clause-segment c = (body_in c.args.geometry c.in-Body.g c.in-Body.p c.in-Body.k (ap (is_in c.args.geometry) (sym c.in-Body.is) ∙ c.requires.within)).0

pub page-requires-clause-page : goal.page-requires-clause-page
page-requires-clause-page c = (body_in c.args.geometry c.in-Body.g c.in-Body.p c.in-Body.k (ap (is_in c.args.geometry) (sym c.in-Body.is) ∙ c.requires.within)).1

pub block_spot-requires : goal.block_spot-requires
block_spot-requires c = body_after c.args.geometry c.in-Body.g c.in-Body.p c.in-Body.k c.args.at (ap (address c.args.geometry) (sym c.in-Body.is) ∙ c.requires.address)

pub returns-in-Body : goal.returns-in-Body
returns-in-Body c =
    let b = body_in c.args.geometry c.in-Body.g c.in-Body.p c.in-Body.k (ap (is_in c.args.geometry) (sym c.in-Body.is) ∙ c.requires.within) in
    let e = page_class c.args.geometry c.args.words.now c.in-Body.g c.in-Body.p b.0 b.1 in
    let x = c.word.ensures in
    let y = c.page.ensures in
    c.block_spot.ensures ∙ (ap (λ k. block_spot k c.args.at c.in-Body.k) (c.word.ensures ∙ cc) ∙ ap (spot_of (classes_in c.args.geometry c.args.words.now) c.args.at) (sym c.in-Body.is))
