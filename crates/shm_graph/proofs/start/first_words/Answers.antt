use Rattle.std.proofs.Common.{◌≡◌, ℕ, ◌<◌, List, length, sym, ap, ◌∙◌, subst, arith, replicate, set}
use Rattle.shm_words.specs.declared.{geometry.Geometry.Geometry, place.Place.TheVariants.Era}
use Rattle.shm_words.specs.Layout.{address, total_of}
use Rattle.shm_words.proofs.Placing.{address_below}
use Rattle.shm_graph.proofs.Spots.FirstStoring.{words_below, none_below, one_more, own_in, all_below, length-words_below}
use Rattle.shm_graph.proofs.start.first_words.Goals as goal

pub loop-client-init : goal.loop-client-init
loop-client-init c = c.in_ok-words.ensures.items_if_clones_equal (λ y e. e) ∙ (ap (λ (z : ℕ). replicate z 0) c.total.ensures ∙ none_below c.args.start.geometry c.args.start.first_era)

pub index_mut-requires : goal.index_mut-requires
index_mut-requires c =
    let g : Geometry = c.args.start.geometry in
    let i : ℕ = c.loop-client.client in
    let l : i < g.clients = subst (λ (z : ℕ). i < z) c.clients-client-end.ensures c.loop-client-test.true in
    let long : length c.loop-client.words.items ≡ total_of g = ap (λ (z : List ℕ). length z) c.loop-client.invariant ∙ length-words_below g c.args.start.first_era i in
    subst (λ (z : ℕ). z < c.loop-client.words.len) (sym c.era.ensures) (subst (λ (z : ℕ). address g (Era i i) < z) (sym (c.loop-client.words.ok.0 ∙ long)) (address_below g (Era i i) (own_in g i l) c.requires.geometry))

pub loop-client-preserved : goal.loop-client-preserved
loop-client-preserved c =
    let g : Geometry = c.args.start.geometry in
    let i : ℕ = c.loop-client.client in
    let e : ℕ = c.args.start.first_era in
    let l : i < g.clients = subst (λ (z : ℕ). i < z) c.clients-client-end.ensures c.loop-client-test.true in
    ap (λ (z : ℕ). set c.loop-client.words.items z e) c.era.ensures ∙ (ap (λ (z : List ℕ). set z (address g (Era i i)) e) c.loop-client.invariant ∙ one_more g e i c.requires.geometry l)

pub returns : goal.returns
returns c =
    let g : Geometry = c.args.start.geometry in
    let e : ℕ = c.args.start.first_era in
    let m : c.loop-client.client ≡ c.clients-client-end.result = omega (arith, c.loop-client-test.false, c.loop-client.auto.client-end) in
    c.loop-client.invariant ∙ (ap (λ (z : ℕ). words_below g e z) (m ∙ c.clients-client-end.ensures) ∙ all_below c.args.start c.requires.geometry)
