use Rattle.std.proofs.Common.{◌+◌, sym, ap, ◌∙◌, arith}
use Rattle.shm_words.specs.{Headers.header_of, Tags.tag_of}
use Rattle.shm_words.proofs.Placing.{total_small}
use Rattle.shm_graph.specs.{declared.spot.Spot.TheVariants.Tag, Spots.classes_in}
use Rattle.shm_graph.proofs.Spots.Spotting.{is_below}
use Rattle.shm_audit.specs.Images.{numbers}
use Rattle.shm_migrate.proofs.WordReading.{tag_of_live, tag_of_dead, read_fits}
use Rattle.shm_migrate.proofs.words.live_tag.Goals as goal

pub overflow_add-block : goal.overflow_add-block
overflow_add-block c =
    let l = is_below c.args.geometry (classes_in c.args.geometry (numbers c.args.words.now)) (c.args.block + 1) (Tag c.args.block) c.requires.tag (λ z. cc) in
    let m = total_small c.args.geometry c.requires.fits in
    omega arith

pub returns-then-unpack-clause-says : goal.returns-then-unpack-clause-says
returns-then-unpack-clause-says c =
    let live = ap (λ w. (header_of w).live) (sym c.word.ensures) ∙ (ap (λ h. h.live) (sym c.unpack.ensures.is) ∙ c.if-unpack.true) in
    let t = tag_of_live c.args.geometry (numbers c.args.words.now) c.args.block c.requires.is c.requires.narrow c.requires.tag live in
    c.unpack-then-unpack.ensures ∙ (ap (tag_of _) c.word-then-unpack.ensures ∙ sym t)

pub returns-then-unpack-clause-fits : goal.returns-then-unpack-clause-fits
returns-then-unpack-clause-fits c = read_fits c.word-then-unpack.result c.unpack-then-unpack.result c.unpack-then-unpack.ensures

pub returns-else-unpack-clause-says : goal.returns-else-unpack-clause-says
returns-else-unpack-clause-says c =
    let dead = ap (λ w. (header_of w).live) (sym c.word.ensures) ∙ (ap (λ h. h.live) (sym c.unpack.ensures.is) ∙ c.if-unpack.false) in
    sym (tag_of_dead c.args.geometry (numbers c.args.words.now) c.args.block c.requires.is c.requires.narrow dead)
