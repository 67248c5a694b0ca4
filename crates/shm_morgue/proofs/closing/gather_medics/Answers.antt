use Rattle.std.proofs.Common.{◌≡◌, List, [], ◌∷◌, ◌++◌, sym, ap, ◌∙◌, subst}
use Rattle.std.specs.List.{AllByRecursion}
use Rattle.crossbeam_queue.specs.Passes.{view}
use Rattle.shm_morgue.specs.{declared.rule.Hands.Hands, Closing.lists_of, Entries.{Takes, Which}, Hands.hands}
use Rattle.shm_morgue.proofs.{Gathering.{First, by_front, by_last, first_in, medic_in}, Moves.gathers}
use Rattle.shm_morgue.proofs.closing.gather_medics.Goals as goal

pub loop-medic-init : goal.loop-medic-init
loop-medic-init g c =
    let now : Which = c.args.morgue.now in
    let front : List Takes = c.pop.new.self.items in
    let f : First now front c.args.medics.items c.into_place-place.result = first_in now front c.args.medics.items c.in-Some.first c.into_place-place.result c.into_place-place.ensures.view c.into_place-place.ensures.medic c.requires.of c.in-Some.ensures.items in record {
      place = f.place;
      view_is = f.view_is;
      all = f.lists;
      of = by_front (λ (t : Takes). t.of ≡ now) front c.in-Some.first (subst (AllByRecursion (λ (t : Takes). t.of ≡ now)) c.in-Some.ensures.items c.requires.of);
    }

pub absorb-requires-clause-queue : goal.absorb-requires-clause-queue
absorb-requires-clause-queue g c =
    let now : Which = c.args.morgue.now in
    let front : List Takes = c.pop-in-loop-medic.new.self.items in
    let m : Takes = c.in-Some-pop.medic in
    let inv = c.loop-medic.invariant in
    let queue = ap (λ (w : Which). w.queue) c.morgue.view_is in
    let mine : m.of ≡ now = by_last (λ (t : Takes). t.of ≡ now) front m (subst (AllByRecursion (λ (t : Takes). t.of ≡ now)) c.in-Some-pop.ensures.items inv.of) in (
      (inv.place.0 ∙ sym queue, inv.place.1),
      ((ap (λ (t : Takes). t.of.queue) c.into_place-other.ensures.view ∙ ap (λ (w : Which). w.queue) mine) ∙ sym queue, c.into_place-other.ensures.medic.rest),
    )

pub absorb-requires-clause-rule : goal.absorb-requires-clause-rule
absorb-requires-clause-rule g c = gathers g.J.Pools.pools c.loop-medic.place.id (view c.loop-medic.place) c.into_place-other.result.id (view c.into_place-other.result) (ap (λ (v : Hands). v.fresh) c.loop-medic.invariant.view_is)

pub loop-medic-preserved : goal.loop-medic-preserved
loop-medic-preserved g c =
    let now : Which = c.args.morgue.now in
    let front : List Takes = c.pop-in-loop-medic.new.self.items in
    let m : Takes = c.in-Some-pop.medic in
    let inv = c.loop-medic.invariant in
    let p = c.into_place-other.result in
    let w_is : view p ≡ hands [] (m.entries ∷ []) (view p).clients (view p).doctors = c.into_place-other.ensures.medic.view_is ∙ (λ j. hands [] ((c.into_place-other.ensures.view j).entries ∷ []) (view p).clients (view p).doctors) in
    let r = medic_in front (lists_of c.args.medics.items) m (view c.loop-medic.place) (view p) (view c.absorb.new.pass) now.clients now.medics (view p).clients (view p).doctors inv.view_is w_is c.absorb.ensures.rule
    (inv.all ∙ ap (λ (l : List Takes). lists_of l ++ (view c.loop-medic.place).medics) c.in-Some-pop.ensures.items) in record {
      place = (c.absorb.ensures.queue.0 ∙ inv.place.0, c.absorb.ensures.queue.2 ∙ inv.place.1);
      view_is = r.0;
      all = r.1;
      of = by_front (λ (t : Takes). t.of ≡ now) front m (subst (AllByRecursion (λ (t : Takes). t.of ≡ now)) c.in-Some-pop.ensures.items inv.of);
    }
