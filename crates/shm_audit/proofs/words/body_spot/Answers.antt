use Rattle.std.proofs.Common.{◌≡◌, ◌+◌, ◌-◌, ◌/◌, ◌%◌, get_or, sym, ap, ◌∙◌, arith}
use Rattle.shm_words.specs.Layout.{pages, bodies, address}
use Rattle.shm_words.proofs.Placing.{total_small}
use Rattle.shm_graph.specs.Spots.{block_spot, classes_in}
use Rattle.shm_graph.proofs.Spots.Spotting.{spot_in_bodies}
use Rattle.shm_audit.specs.Images.{numbers}
use Rattle.shm_audit.proofs.Blocks.{page_word}
use Rattle.shm_audit.proofs.words.body_spot.Goals as goal

pub overflow_sub-behind : goal.overflow_sub-behind
unfolding address
overflow_sub-behind c = let e = c.body.ensures in let s = c.requires.start in omega arith

pub overflow_add-page : goal.overflow_add-page
unfolding address
overflow_add-page c =
    let e = c.page.ensures in
    let t = total_small c.args.geometry c.requires.fits in
    let l = c.requires.end in
    omega arith

pub block_spot-requires : goal.block_spot-requires
block_spot-requires c = omega arith

pub returns : goal.returns
unfolding address
returns c =
    let g = c.args.geometry in
    let ws = numbers c.args.words.now in
    let b : c.body.result ≡ bodies g = (let e = c.body.ensures in omega arith) in
    let x : c.page.result + (c.args.at - c.body.result) / 128 ≡ pages g + (c.args.at - bodies g) / 128 = (let e = c.page.ensures in omega arith) in
    let k : (c.args.at - c.body.result) % 128 ≡ (c.args.at - bodies g) % 128 = omega arith in
    let class = c.word-class.ensures ∙ (ap (λ n. get_or ws n 0) x ∙ sym (page_word g ws c.args.at c.requires.fits c.requires.start c.requires.end)) in
    c.block_spot.ensures ∙ (ap (λ n. block_spot n c.args.at ((c.args.at - c.body.result) % 128)) class ∙ (ap (block_spot _ c.args.at) k ∙ sym (spot_in_bodies g (classes_in g ws) c.args.at c.requires.start c.requires.end)))
