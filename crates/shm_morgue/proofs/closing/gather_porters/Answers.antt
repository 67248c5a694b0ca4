use Rattle.std.proofs.Common.{◌≡◌, List, [], ◌∷◌, ◌++◌, length, sym, ap, ◌∙◌, subst}
use Rattle.std.specs.List.{AllByRecursion}
use Rattle.crossbeam_queue.specs.Passes.{view}
use Rattle.shm_morgue.specs.{declared.rule.Hands.Hands, Closing.desks_of, Entries.{Puts, Which}, Hands.{desk, hands}}
use Rattle.shm_morgue.proofs.{Gathering.{all_in, by_front, by_last, none_in, porter_in}, Moves.gathers}
use Rattle.shm_morgue.proofs.closing.gather_porters.Goals as goal

pub absorb-requires-clause-queue : goal.absorb-requires-clause-queue
absorb-requires-clause-queue g c =
    let now : Which = c.args.morgue.now in
    let front : List Puts = c.pop.new.self.items in
    let p : Puts = c.in-Some.porter in
    let inv = c.loop-porter.invariant in
    let queue = ap (λ (w : Which). w.queue) c.morgue.view_is in
    let mine : p.of ≡ now = by_last (λ (t : Puts). t.of ≡ now) front p (subst (AllByRecursion (λ (t : Puts). t.of ≡ now)) c.in-Some.ensures.items inv.of) in (
      (inv.place.0 ∙ sym queue, inv.place.1),
      ((ap (λ (t : Puts). t.of.queue) c.into_place-other.ensures.view ∙ ap (λ (w : Which). w.queue) mine) ∙ sym queue, c.into_place-other.ensures.porter.1.rest),
    )

pub absorb-requires-clause-rule : goal.absorb-requires-clause-rule
absorb-requires-clause-rule g c = gathers g.J.Pools.pools c.loop-porter.place.id (view c.loop-porter.place) c.into_place-other.result.id (view c.into_place-other.result) (ap (λ (v : Hands). v.fresh) c.loop-porter.invariant.view_is)

pub loop-porter-preserved : goal.loop-porter-preserved
loop-porter-preserved g c =
    let now : Which = c.args.morgue.now in
    let front : List Puts = c.pop.new.self.items in
    let t : Puts = c.in-Some.porter in
    let inv = c.loop-porter.invariant in
    let p = c.into_place-other.result in
    let w_is : view p ≡ hands (desk t.client t.entries ∷ []) [] (view p).clients (view p).doctors = c.into_place-other.ensures.porter.1.view_is ∙ (λ j. hands (desk (c.into_place-other.ensures.view j).client (c.into_place-other.ensures.view j).entries ∷ []) [] (view p).clients (view p).doctors) in
    let r = porter_in front (desks_of c.args.porters.items) t (view c.args.place).medics (view c.loop-porter.place) (view p) (view c.absorb.new.pass) now.clients now.medics (view p).clients (view p).doctors inv.view_is w_is c.absorb.ensures.rule
    (inv.all ∙ ap (λ (l : List Puts). desks_of l ++ (view c.loop-porter.place).porters) c.in-Some.ensures.items) in record {
      place = (c.absorb.ensures.queue.0 ∙ inv.place.0, c.absorb.ensures.queue.2 ∙ inv.place.1);
      view_is = r.0;
      all = r.1;
      of = by_front (λ (t : Puts). t.of ≡ now) front t (subst (AllByRecursion (λ (t : Puts). t.of ≡ now)) c.in-Some.ensures.items inv.of);
    }

pub loop-porter-init : goal.loop-porter-init
loop-porter-init g c = let r = none_in (view c.args.place) (desks_of c.args.porters.items) (view c.args.place).medics c.args.morgue.now.clients c.args.morgue.now.medics c.requires.view in record {
  place = c.requires.place;
  view_is = r.0;
  all = r.1;
  of = c.requires.of;
}

pub returns-clause-view : goal.returns-clause-view
returns-clause-view g c =
    let none : length c.loop-porter.porters.items ≡ 0 = sym c.loop-porter.porters.ok.0 ∙ c.in_default.ensures.cases.0 in
    all_in c.loop-porter.porters.items (view c.loop-porter.place) (desks_of c.args.porters.items) (view c.args.place).medics c.args.morgue.now.clients c.args.morgue.now.medics none c.loop-porter.invariant.all c.loop-porter.invariant.view_is
