use Rattle.std.proofs.{Common.{◌≡◌, ℕ, ◌<◌, sym, ap, ◌∙◌, subst, arith, true}, lemmas.Bool.{lt-ltb, ltb-true}}
use Rattle.std.specs.Prelude.{nat_lt, slice_index}
use Rattle.shm_words.specs.{declared.geometry.Geometry.Geometry, Layout.{address, total_of}}
use Rattle.shm_words.specs.declared.place.Place.TheVariants as place
use Rattle.shm_graph.specs.{declared.spot.Spot.TheVariants.Era, Views.own_word}
use Rattle.shm_plain.specs.Pools.{memo_of}
use Rattle.shm_tree.proofs.{Ending.{era_below, era_read}, closing.is_spent.Goals.After-era}
use Rattle.shm_tree.proofs.closing.is_spent.Goals as goal

who : (c : After-era) → 0 < c.args.pool.now.start.geometry.clients
who c = let one = c.requires.one in omega arith

address_is : (c : After-era) → c.era.result ≡ address c.args.pool.now.start.geometry (place.Era 0 0)
address_is c = c.era.ensures ∙ ap (λ (g : Geometry). address g (place.Era 0 0)) c.geometry.ensures.is

pub word-era-requires : goal.word-era-requires
word-era-requires c =
    let at = (goal.at.word-era-requires c).After-era in
    subst (λ (a : ℕ). a < total_of c.args.pool.now.start.geometry) (sym (address_is at)) (era_below c.args.pool.now (who at))

pub returns : goal.returns
returns c =
    let at = (goal.at.returns c).After-era in
    let p = c.args.pool.now in
    let is : c.word-era.result ≡ own_word (memo_of p 0).own (Era 0 0) = c.word-era.ensures.is ∙ (ap (slice_index p.words) (address_is at) ∙ sym (era_read p c.geometry.ensures.run (who at))) in
    subst (λ (x : ℕ). (nat_lt 140737488355325 c.word-era.result ≡ true → 140737488355325 < x) × (140737488355325 < x → nat_lt 140737488355325 c.word-era.result ≡ true)) is
    (λ t. ltb-true 140737488355325 c.word-era.result t, λ l. lt-ltb 140737488355325 c.word-era.result l)
