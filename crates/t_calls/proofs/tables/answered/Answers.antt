use Rattle.std.proofs.Common.{◌≡◌, ◌<◌, sym, ap, ◌∙◌, subst, arith}
use Rattle.std.specs.Prelude.{slice_index}
use Rattle.shm_words.specs.{declared.geometry.Geometry.Geometry, Layout.{address, total_of}}
use Rattle.shm_words.specs.declared.place.Place.TheVariants as place
use Rattle.shm_graph.specs.{declared.{run.Start.Start, spot.Spot.TheVariants.Era}, Views.own_word}
use Rattle.shm_plain.specs.Pools.{memo_of}
use Rattle.shm_client.proofs.Opens.{all_after, era_below, era_read, open_after}
use Rattle.t_calls.proofs.tables.answered.Goals as goal

pub word-requires : goal.word-requires
word-requires c =
    let q = c.command.new.pool in
    let start : q.start ≡ c.args.pool.now.start = c.command.ensures.ran.start in
    let is : c.era.result ≡ address q.start.geometry (place.Era c.args.who c.args.who) =
    c.era.ensures ∙ ap (λ (z : Geometry). address z (place.Era c.args.who c.args.who)) (c.geometry-geometry.ensures.is ∙ sym (ap (λ (s : Start). s.geometry) start)) in
    subst (λ a. a < total_of q.start.geometry) (sym is) (era_below q c.args.who c.in-Some.ensures.at_work.who)

pub returns-clause-all : goal.returns-clause-all
returns-clause-all c =
    let p = c.args.pool.now in
    let q = c.command.new.pool in
    let start : q.start ≡ p.start = c.command.ensures.ran.start in
    let is : c.era.result ≡ address q.start.geometry (place.Era c.args.who c.args.who) =
    c.era.ensures ∙ ap (λ (z : Geometry). address z (place.Era c.args.who c.args.who)) (c.geometry-geometry.ensures.is ∙ sym (ap (λ (s : Start). s.geometry) start)) in
    let here : c.args.who < p.start.geometry.clients = subst (λ (s : Start). c.args.who < s.geometry.clients) start c.in-Some.ensures.at_work.who in
    let read : own_word (memo_of q c.args.who).own (Era c.args.who c.args.who) ≡ c.word.result =
    era_read q c.args.who c.command.ensures.ran.run c.in-Some.ensures.at_work.who ∙ (ap (slice_index q.words) (sym is) ∙ sym c.word.ensures.is) in
    let small : c.word.result < 1000000 = omega arith in
    all_after c.args.who p q _ _ _ _ c.requires.all c.command.ensures.ran
    (open_after c.args.who p q (c.requires.all c.args.who here) c.in-Some.ensures.at_work c.in-Some.ensures.kind c.in-Some.ensures.rests c.in-Some.ensures.ended (subst (λ n. n < 1000000) (sym read) small))
