use Rattle.std.proofs.Common.{◌≡◌, List, [], ◌∷◌, ◌++◌, length, sym, ap, ◌∙◌, subst, arith}
use Rattle.std.proofs.lemmas.List.Elements.{All-nil, All-push}
use Rattle.std.specs.{List.{All, AllByRecursion}, Vec.Iter.into_iter_items}
use Rattle.shm_team.proofs.Gathering.{all_yielded}
use Rattle.shm_morgue.specs.{Crew.IsRound, declared.rule.Taken.Taken, Entries.Takes, Slots.AreRescued}
use Rattle.shm_morgue.proofs.{Loops.{medics_first, medics_long, one_more, pushed, seam_next}, Slotting.none_rescued}
use Rattle.shm_morgue.proofs.run.all_rounds.Goals as goal

pub loop-medic-init : goal.loop-medic-init
loop-medic-init g c =
    let (items, len, small, runs) = c.into_iter-medic-iterator.ensures.into_iter_gives in
    record {
      items = items;
      len = (let whole = c.args.medics.ok.0 in let same = ap length items in omega (arith, len));
      many = ap length c.new-rounds.ensures.items;
      first = subst (AllByRecursion (λ (m : Takes). m ≡ record { of = c.args.morgue.now; entries = [] })) (sym items) (subst (AllByRecursion (λ (m : Takes). m ≡ record { of = c.args.morgue.now; entries = [] })) (sym c.requires.medics) (medics_first c.args.morgue.now c.args.morgue.now.medics));
      rounds = subst (All (λ r. IsRound c.args.trace.now c.args.pool.now c.args.morgue.now r.medic r.slots.items)) (sym c.new-rounds.ensures.items) (All-nil (λ r. IsRound c.args.trace.now c.args.pool.now c.args.morgue.now r.medic r.slots.items));
    }

pub loop-medic-preserved : goal.loop-medic-preserved
loop-medic-preserved g c =
    let t = c.args.trace.now in
    let p = c.args.pool.now in
    let w = c.args.morgue.now in
    let at = c.loop-medic in
    let i = at.invariant in
    let x = c.in-Some.medic in
    let slots = c.in_ok-slots.slots.items in
    let steps : into_iter_items at.medic-iterator ≡ x ∷ into_iter_items c.next.new.self = c.in-Some.ensures.steps.0 in
    let whole = subst (λ (zs : List Takes). at.yielded ++ zs ≡ c.args.medics.items) steps i.items in
    let first = subst (AllByRecursion (λ (m : Takes). m ≡ record { of = w; entries = [] })) steps i.first in
    let many : p.start.geometry.clients ≡ c.clients_of-clients.result = c.requires.clients ∙ sym c.clients_of-clients.ensures in
    let none : AreRescued t p [] slots = subst (AreRescued t p []) (sym c.in_ok-slots.ensures) (none_rescued t p c.clients_of-clients.result many) in
    let round : IsRound t p w x slots = (ap (λ (m : Takes). m.of) first.0, subst (λ (xs : List Taken). AreRescued t p xs slots) (sym (ap (λ (m : Takes). m.entries) first.0)) none) in
    record {
      items = seam_next at.yielded (into_iter_items c.next.new.self) c.args.medics.items x whole;
      len =
          let was = i.len in
          let gone = c.in-Some.ensures.steps.1 in
          let short = ap length steps in
          omega arith;
      many =
          let was = i.many in
          let a = pushed at.rounds.items c.push.new.self.items (record { number = at.number; medic = x; slots = c.in_ok-slots.slots }) c.in_ok-push.ensures.items in
          let d = one_more at.yielded x in
          omega arith;
      first = first.1;
      rounds = subst (All (λ r. IsRound t p w r.medic r.slots.items)) (sym c.in_ok-push.ensures.items)
          (All-push (λ r. IsRound t p w r.medic r.slots.items) at.rounds.items (record { number = at.number; medic = x; slots = c.in_ok-slots.slots }) i.rounds round);
    }

pub returns-clause-many : goal.returns-clause-many
returns-clause-many g c =
    let at = c.loop-medic in
    let all = all_yielded at.yielded _ _ _ at.invariant.items at.invariant.len c.in-None.ensures.steps.0 in
    at.invariant.many ∙ (ap length all ∙ (ap length c.requires.medics ∙ medics_long c.args.morgue.now c.args.morgue.now.medics))
