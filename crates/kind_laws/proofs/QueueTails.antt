-- the store of a tail keeps the invariant
use Rattle.std.proofs.Common.{◌≡◌, ◌≢◌, ℕ, ◌+◌, ◌%◌, ◌<◌, ◌≤◌, refl, sym, ap, ◌∙◌, arith, true, false, eqb, eq-eqb, subst, inl, inr, ◌⊎◌, ◌&&◌, [], ◌∷◌, ◌++◌}
use Rattle.std.proofs.lemmas.Bool.{cases_Bool, ne_eqb, eqb-true, and_parts}
use Rattle.shm_words.specs.declared.geometry.Geometry.{Geometry}
use Rattle.shm_graph.specs.{declared.spot.Spot.{Spot, TheVariants.{Era, Tail, Slot, Spare}}, Spots.upd}
use Rattle.shm_graph.specs.{Views.{View, targets}, Ops.up_slot, Held.{HeldAt, LaneSound, named_by, room_of, TailSound}}
use Rattle.shm_graph.proofs.Spots.Spotting.{same_spot_self}
use Rattle.kind_laws.proofs.{QueueCounters.{Counters, counter_kept, with_counters}, Lanes.{lane_sent, at2_all, no_self}}
use Rattle.kind_laws.proofs.Readings.{queue_heads, tails}
use Rattle.kind_laws.specs.OwnWords.{at2, TailNeeds, tail_view}

pub tail_kept : (g : Geometry) (w : Spot → ℕ) (v : View) (c r : ℕ) → HeldAt g w v → TailNeeds g w v c r → HeldAt g (upd w (Tail c r) (w (Tail c r) + 1)) (tail_view v c r (w (Tail c r) + 1))
tail_kept g w v c r h a = counter_kept g w v c (Tail c r) (w (Tail c r) + 1) counters h (record {
  inside = a.inside;
  acts = a.acts;
  here = a.here;
  op = a.op;
  place = a.place;
  owns = eq-eqb c c refl;
  small = let u = room in let o = (h.own c a.inside).room in let z : room_of (v.op c) ≡ 2 = ap room_of a.op in omega arith;
  words = words;
  tails_rise = λ i j. at2_all (λ i j x. tails w i j ≤ x) (tails w) c r (w (Tail c r) + 1) i j (omega arith) (λ _. omega arith);
  heads_rise = λ i j. omega arith;
  other_tails = λ i j n. let q : eqb c i ≡ false = ne_eqb c i n in rw q refl;
  other_heads = λ _ _ _. refl;
  self_lanes = λ d. let q : (eqb c d && eqb r d) ≡ false = no_self c r d a.other in (rw q refl, refl);
  item = λ _ _ u. (refl, u);
  named = named;
  none_unsent = λ d i. at2_all (λ d i x. v.unsent d i ≡ 0 → x ≡ 0) v.unsent c r 0 d i (λ _. refl) (λ _ x. x);
  lanes = λ i j li lj n. elim (cases_Bool (eqb c i && eqb r j)) [
    | inl f ↦ (let q = and_parts (eqb c i) (eqb r j) f in let e = eqb-true c i q.0 in let o = eqb-true r j q.1 in
        subst (λ i. LaneSound (λ k. t (Slot i j k)) (tail' i j) (queue_heads w i j) (counters.sent i j) (counters.unsent i j) (v.received j i) (v.untaken j i)) e
        (subst (λ j. LaneSound (λ k. t (Slot c j k)) (tail' c j) (queue_heads w c j) (counters.sent c j) (counters.unsent c j) (v.received j c) (v.untaken j c)) o
        (rw here (lane_sent (λ k. t (Slot c r k)) (tails w c r) (queue_heads w c r) (v.sent c r) (v.unsent c r) (v.received r c) (v.untaken r c) a.some (h.lanes c r a.inside a.to a.other)))))
    | inr f ↦ rw f (h.lanes i j li lj n)
  ];
  tails = λ d i l m. sound d i l m (cases_Bool (eqb c d && eqb r i));
})
  where
    t : Spot → ℕ
    t = targets g w v

    tail' : ℕ → ℕ → ℕ
    tail' = λ i j. upd w (Tail c r) (w (Tail c r) + 1) (Tail i j)

    counters : Counters
    counters = record { tail = tail'; queue_head = queue_heads w; sent = at2 v.sent c r (v.sent c r ++ v.unsent c r ∷ []); unsent = at2 v.unsent c r 0; received = v.received; untaken = v.untaken }

    words : (q : Spot) → upd w (Tail c r) (w (Tail c r) + 1) q ≡ with_counters w tail' (queue_heads w) q
    words (Tail i j) = refl
    words _ = refl

    here : (eqb c c && eqb r r) ≡ true
    here = same_spot_self (Tail c r)

    no_slot : up_slot (v.op c) ≢ Slot c r (tails w c r % 8)
    no_slot e = let q : Spare ≡ Slot c r (tails w c r % 8) = sym (ap up_slot a.op) ∙ e in cc

    room : tails w c r + 2 ≤ w (Era c c)
    room = (h.tails c r a.inside a.to).1 a.some no_slot

    sound : (d i : ℕ) → d < g.clients → i < g.clients → ((eqb c d && eqb r i) ≡ true) ⊎ ((eqb c d && eqb r i) ≡ false) → TailSound d i (w (Era d d)) (tail' d i) (counters.unsent d i) (v.op d)
    sound d i l m (inl e) = let q = and_parts (eqb c d) (eqb r i) e in rw e (subst (λ z. tails w c r + 1 + 1 ≤ w (Era z z)) (eqb-true c d q.0) (let u = room in omega arith), λ n. absurd (n refl))
    sound d i l m (inr e) = rw e (h.tails d i l m)

    named : (d b : ℕ) → named_by t (tails w) (queue_heads w) d b → named_by t tail' (queue_heads w) d b
    named d b (n, inl u) = (n, inl u)
    named d b (n, inr (inl u)) = (n, inr (inl u))
    named d b (n, inr (inr u)) = (n, inr (inr (u.0, (let q : tails w u.0 d ≤ tail' u.0 d = at2_all (λ i j x. tails w i j ≤ x) (tails w) c r (w (Tail c r) + 1) u.0 d (omega arith) (λ _. omega arith) in let z = u.1 in omega arith), u.2)))
