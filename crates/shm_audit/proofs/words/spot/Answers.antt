use Rattle.std.proofs.Common.{sym, ap, ◌∙◌, arith}
use Rattle.shm_words.specs.Layout.{is_in, address}
use Rattle.shm_words.proofs.Placing.{address-place, in_place}
use Rattle.shm_graph.specs.Spots.{spot_at, spot_of, classes_in}
use Rattle.shm_graph.proofs.Spots.{Spotting.spot_past, WordsAt.{place_inside, place_outside}}
use Rattle.shm_audit.specs.Images.{numbers}
use Rattle.shm_audit.proofs.words.spot.Goals as goal

pub spot_of-requires-clause-within : goal.spot_of-requires-clause-within
spot_of-requires-clause-within c =
    let p = place_inside c.args.geometry c.args.at c.place.result c.in-Some.place c.place.ensures.inside c.place.ensures.outside c.in-Some.is in
    ap (is_in c.args.geometry) p.1 ∙ in_place c.args.geometry c.args.at c.requires p.0

pub spot_of-requires-clause-address : goal.spot_of-requires-clause-address
spot_of-requires-clause-address c =
    let p = place_inside c.args.geometry c.args.at c.place.result c.in-Some.place c.place.ensures.inside c.place.ensures.outside c.in-Some.is in
    ap (address c.args.geometry) p.1 ∙ address-place c.args.geometry c.args.at p.0

pub returns-in-Some : goal.returns-in-Some
unfolding spot_at
returns-in-Some c =
    let p = place_inside c.args.geometry c.args.at c.place.result c.in-Some.place c.place.ensures.inside c.place.ensures.outside c.in-Some.is in
    c.spot_of.ensures ∙ ap (spot_of (classes_in c.args.geometry (numbers c.args.words.now)) c.args.at) p.1

pub returns-in-None : goal.returns-in-None
returns-in-None c = sym (spot_past c.args.geometry _ c.args.at (place_outside c.args.geometry c.args.at c.place.result c.place.ensures.inside c.in-None.is))

pub body_spot-requires-clause-start : goal.body_spot-requires-clause-start
unfolding address
body_spot-requires-clause-start c = let e = c.body.ensures in let l = c.if-body-at.true in omega arith
