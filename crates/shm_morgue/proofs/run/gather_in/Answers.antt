use Rattle.std.proofs.Common.{◌≡◌, ◌≤◌, ℕ, List, [], ◌∷◌, ◌++◌, length, sym, ap, ◌∙◌, subst, arith}
use Rattle.std.specs.{Prelude.{None, drop, slice_index_or}, List.AllByRecursion, Vec.Iter.into_iter_items}
use Rattle.shm_team.proofs.Gathering.{all_yielded}
use Rattle.shm_morgue.specs.{Crew.IsRound, declared.rule.Taken.Taken, Entries.{Takes, all_taken}}
use Rattle.shm_morgue.specs.Slots.{AreRescued, either}
use Rattle.shm_morgue.proofs.Loops.{of_more, one_more, seam_at, seam_inside, seam_next, take_front, taken_more}
use Rattle.shm_morgue.proofs.Slotting.{none_rescued, rescued_both}
use Rattle.shm_morgue.proofs.run.gather_in.Goals as goal

pub loop-round-init : goal.loop-round-init
loop-round-init g c =
    let (items, len, small, runs) = c.into_iter-round-iterator.ensures.into_iter_gives in
    let t = c.args.trace.now in
    let p = c.args.pool.now in
    record {
      items = items;
      len = (let whole = c.args.rounds.ok.0 in let same = ap length items in omega (arith, len));
      many = ap length c.requires.none.0;
      room = c.requires.room;
      of = subst (AllByRecursion (λ (m : Takes). m.of ≡ c.args.morgue.now)) (sym c.requires.none.0) tt;
      rescued = subst (λ (ms : List Takes). AreRescued t p (all_taken ms) c.args.slots.items) (sym c.requires.none.0)
          (subst (AreRescued t p []) (sym c.requires.none.1) (none_rescued t p t.clients c.requires.clients));
    }

pub merge-requires : goal.merge-requires
merge-requires g c =
    let at = c.loop-round in
    let i = at.invariant in
    let x = c.in-Some.round in
    let steps : into_iter_items at.round-iterator ≡ x ∷ into_iter_items c.next.new.self = c.in-Some.ensures.steps.0 in
    let whole = subst (λ zs. at.yielded ++ zs ≡ c.args.rounds.items) steps i.items in
    let inside = seam_inside at.yielded (into_iter_items c.next.new.self) c.args.rounds.items x whole in
    let here = seam_at at.yielded (into_iter_items c.next.new.self) c.args.rounds.items x x whole in
    let round = subst (λ y. IsRound c.args.trace.now c.args.pool.now c.args.morgue.now y.medic y.slots.items) here (c.requires.rounds (length at.yielded) x inside) in
    ap length c.deref_mut-in-loop-round.ensures.value ∙ ((round.1.many ∙ sym i.rescued.many) ∙ sym (ap length c.deref_mut.ensures.value))

pub push_reserved-requires : goal.push_reserved-requires
push_reserved-requires g c =
    let at = c.loop-round in
    let i = at.invariant in
    let x = c.in-Some.round in
    let steps : into_iter_items at.round-iterator ≡ x ∷ into_iter_items c.next.new.self = c.in-Some.ensures.steps.0 in
    let whole = subst (λ zs. at.yielded ++ zs ≡ c.args.rounds.items) steps i.items in
    let inside = seam_inside at.yielded (into_iter_items c.next.new.self) c.args.rounds.items x whole in
    let many = i.many in
    let room = i.room in
    let len = at.medics.ok.0 in
    omega arith

pub loop-round-preserved : goal.loop-round-preserved
loop-round-preserved g c =
    let t = c.args.trace.now in
    let p = c.args.pool.now in
    let at = c.loop-round in
    let i = at.invariant in
    let x = c.in-Some.round in
    let steps : into_iter_items at.round-iterator ≡ x ∷ into_iter_items c.next.new.self = c.in-Some.ensures.steps.0 in
    let whole = subst (λ zs. at.yielded ++ zs ≡ c.args.rounds.items) steps i.items in
    let inside = seam_inside at.yielded (into_iter_items c.next.new.self) c.args.rounds.items x whole in
    let here = seam_at at.yielded (into_iter_items c.next.new.self) c.args.rounds.items x x whole in
    let round = subst (λ y. IsRound t p c.args.morgue.now y.medic y.slots.items) here (c.requires.rounds (length at.yielded) x inside) in
    let m = c.merge.ensures in
    let news = c.merge.new.slots in
    let long : length news ≡ length at.slots.items = m.many ∙ ap length c.deref_mut.ensures.value in
    let back = take_front news (drop (length news) at.slots.items) at.slots.len (at.slots.ok.0 ∙ sym long) in
    let merged : (k : ℕ) → slice_index_or news k None ≡ either (slice_index_or x.slots.items k None) (slice_index_or at.slots.items k None) =
    λ k. m.merged k ∙ (λ j. either (slice_index_or (c.deref_mut-in-loop-round.ensures.value j) k None) (slice_index_or (c.deref_mut.ensures.value j) k None)) in
    record {
      items = seam_next at.yielded (into_iter_items c.next.new.self) c.args.rounds.items x whole;
      len =
          let was = i.len in
          let gone = c.in-Some.ensures.steps.1 in
          let short = ap length steps in
          omega arith;
      many =
          let was = i.many in
          let a = ap length c.push_reserved.ensures.items in
          let b = one_more at.medics.items x.medic in
          let d = one_more at.yielded x in
          omega arith;
      room = subst (λ (k : ℕ). length c.args.rounds.items ≤ k) (sym c.push_reserved.ensures.capacity) i.room;
      of = subst (AllByRecursion (λ (z : Takes). z.of ≡ c.args.morgue.now)) (sym c.push_reserved.ensures.items) (of_more c.args.morgue.now at.medics.items x.medic i.of round.0);
      rescued =
          subst (AreRescued t p (all_taken c.push_reserved.new.self.items)) (sym back)
          (subst (λ (ms : List Takes). AreRescued t p (all_taken ms) news) (sym c.push_reserved.ensures.items)
          (subst (λ (xs : List Taken). AreRescued t p xs news) (sym (taken_more at.medics.items x.medic))
          (rescued_both t p (all_taken at.medics.items) x.medic.entries at.slots.items x.slots.items news long merged i.rescued round.1)));
    }

pub returns-clause-many : goal.returns-clause-many
returns-clause-many g c =
    let at = c.loop-round in
    let all = all_yielded at.yielded _ _ _ at.invariant.items at.invariant.len c.in-None.ensures.steps.0 in
    at.invariant.many ∙ ap length all
