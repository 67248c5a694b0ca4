use Rattle.std.proofs.Common.{◌≡◌, ◌*◌, get_or, replicate, refl, ap, ◌∙◌, arith, length}
use Rattle.std.proofs.lemmas.List.{get_or-replicate, length-replicate}
use Rattle.shm_words.specs.Layout.{address, bodies}
use Rattle.shm_audit.specs.Tallies.{places_in, unseen}
use Rattle.shm_audit.proofs.Tallying.{tally_none}
use Rattle.shm_audit.proofs.tally.Tally.none.Goals as goal

pub returns : goal.returns
unfolding address
returns c = λ ws.
    let items : c.in_ok-vec.field-0.items ≡ replicate (512 * c.from.result) unseen = c.in_ok-vec.ensures.items_if_clones_equal (λ y h. h) in
    let start : c.body.result ≡ bodies c.args.geometry = (let e = c.body.ensures in omega arith) in
    let n = c.from.ensures in
    let s = c.segments.ensures in
    let len : length c.in_ok-vec.field-0.items ≡ places_in c.args.geometry = omega (arith, ap length items, length-replicate (512 * c.from.result) unseen) in
    tally_none c.args.geometry ws _ start len (λ q l. ap (λ xs. get_or xs q unseen) items ∙ get_or-replicate (512 * c.from.result) q unseen unseen (omega arith)) refl refl refl
