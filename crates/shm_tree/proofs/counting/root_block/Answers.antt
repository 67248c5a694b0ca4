use Rattle.std.proofs.Common.{◌≡◌, ◌<◌, sym, ap, ◌∙◌, subst}
use Rattle.std.specs.Prelude.{slice_index}
use Rattle.shm_words.specs.{declared.geometry.Geometry.Geometry, Layout.{address, total_of}}
use Rattle.shm_words.specs.declared.place.Place.TheVariants as place
use Rattle.shm_tree.proofs.Lives.{root_below, root_read}
use Rattle.shm_tree.proofs.counting.root_block.Goals as goal

pub word-requires : goal.word-requires
word-requires c =
    let p = c.args.pool.now in
    let is : c.root.result ≡ address p.start.geometry (place.Root 0 c.args.root) = c.root.ensures ∙ ap (λ (z : Geometry). address z (place.Root 0 c.args.root)) c.geometry.ensures.is in
    subst (λ a. a < total_of p.start.geometry) (sym is) (root_below p c.args.root c.requires.one c.requires.root)

pub returns : goal.returns
returns c =
    let p = c.args.pool.now in
    let is : c.root.result ≡ address p.start.geometry (place.Root 0 c.args.root) = c.root.ensures ∙ ap (λ (z : Geometry). address z (place.Root 0 c.args.root)) c.geometry.ensures.is in
    c.word.ensures.is ∙ (ap (slice_index p.words) is ∙ sym (root_read p c.args.root c.requires.one c.requires.root c.geometry.ensures.run))
