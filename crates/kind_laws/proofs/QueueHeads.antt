-- the store of a head keeps the invariant
use Rattle.std.proofs.Common.{◌≡◌, ◌≢◌, ℕ, ◌+◌, ◌%◌, ◌<◌, ◌≤◌, refl, sym, ◌∙◌, arith, true, false, Bool, eqb, eq-eqb, subst, inl, inr, ◌&&◌, [], ◌∷◌, ◌++◌}
use Rattle.std.proofs.lemmas.Bool.{cases_Bool, eqb-true, and_parts}
use Rattle.shm_words.specs.declared.geometry.Geometry.{Geometry}
use Rattle.shm_graph.specs.{declared.spot.Spot.{Spot, TheVariants.{Tail, QueueHead, Slot}}, Spots.upd}
use Rattle.shm_graph.specs.{Views.{View, targets}, Held.{HeldAt, LaneSound, named_by}}
use Rattle.shm_graph.proofs.Spots.Spotting.{same_spot_self}
use Rattle.kind_laws.proofs.QueueCounters.{Counters, counter_kept, with_counters}
use Rattle.kind_laws.proofs.{Lanes.{lane_received, at2_all, no_self}, Readings.{queue_heads, tails}}
use Rattle.kind_laws.specs.OwnWords.{at2, QueueHeadNeeds, head_view}

pub head_kept : (g : Geometry) (w : Spot → ℕ) (v : View) (c s : ℕ) → HeldAt g w v → QueueHeadNeeds g w v c s → HeldAt g (upd w (QueueHead s c) (w (QueueHead s c) + 1)) (head_view v c s (w (QueueHead s c) + 1))
head_kept g w v c s h a = counter_kept g w v c (QueueHead s c) (w (QueueHead s c) + 1) counters h (record {
  inside = a.inside;
  acts = a.acts;
  here = a.here;
  op = a.op;
  place = a.place;
  owns = eq-eqb c c refl;
  small = let u = taken.0 in let o = h.small (Tail s c) in omega arith;
  words = words;
  tails_rise = λ i j. omega arith;
  heads_rise = λ i j. at2_all (λ i j x. queue_heads w i j ≤ x) (queue_heads w) s c (w (QueueHead s c) + 1) i j (omega arith) (λ _. omega arith);
  other_tails = λ _ _ _. refl;
  other_heads = λ i j n. at2_all (λ i j x. c ≢ j → x ≡ queue_heads w i j) (queue_heads w) s c (w (QueueHead s c) + 1) i j (λ n. absurd (n refl)) (λ _ _. refl) n;
  self_lanes = λ d. let q : (eqb s d && eqb c d) ≡ false = no_self s c d a.other in (refl, rw q refl);
  item = λ d i u. (at2_all (λ i d x. v.untaken d i ≡ 0 → x ≡ queue_heads w i d) (queue_heads w) s c (w (QueueHead s c) + 1) i d (λ z. absurd (a.some z)) (λ _ _. refl) u, at2_all (λ d i x. v.untaken d i ≡ 0 → x ≡ 0) v.untaken c s 0 d i (λ _. refl) (λ _ z. z) u);
  named = named;
  none_unsent = λ _ _ z. z;
  lanes = λ i j li lj n. elim (cases_Bool (eqb s i && eqb c j)) [
    | inl f ↦ (let q = and_parts (eqb s i) (eqb c j) f in let e = eqb-true s i q.0 in let o = eqb-true c j q.1 in
        subst (λ i. LaneSound (λ k. t (Slot i j k)) (tails w i j) (queue_head' i j) (v.sent i j) (v.unsent i j) (counters.received j i) (counters.untaken j i)) e
        (subst (λ j. LaneSound (λ k. t (Slot s j k)) (tails w s j) (queue_head' s j) (v.sent s j) (v.unsent s j) (counters.received j s) (counters.untaken j s)) o
        (rw (here, there') (lane_received (λ k. t (Slot s c k)) (tails w s c) (queue_heads w s c) (v.sent s c) (v.unsent s c) (v.received c s) (v.untaken c s) a.some (h.lanes s c a.from a.inside a.other)))))
    | inr f ↦ rw (f, flip s c i j f) (h.lanes i j li lj n)
  ];
  tails = h.tails;
})
  where
    t : Spot → ℕ
    t = targets g w v

    queue_head' : ℕ → ℕ → ℕ
    queue_head' = λ i j. upd w (QueueHead s c) (w (QueueHead s c) + 1) (QueueHead i j)

    counters : Counters
    counters = record { tail = tails w; queue_head = queue_head'; sent = v.sent; unsent = v.unsent; received = at2 v.received c s (v.received c s ++ v.untaken c s ∷ []); untaken = at2 v.untaken c s 0 }

    words : (q : Spot) → upd w (QueueHead s c) (w (QueueHead s c) + 1) q ≡ with_counters w (tails w) queue_head' q
    words (QueueHead i j) = refl
    words _ = refl

    here : (eqb s s && eqb c c) ≡ true
    here = same_spot_self (QueueHead s c)

    there' : (eqb c c && eqb s s) ≡ true
    there' = same_spot_self (QueueHead c s)

    flip : (s c i j : ℕ) → (eqb s i && eqb c j) ≡ false → (eqb c j && eqb s i) ≡ false
    flip s c i j f = go (eqb s i) (eqb c j) f
      where
        go : (a b : Bool) → (a && b) ≡ false → (b && a) ≡ false
        go true true f = f
        go true false f = refl
        go false true f = refl
        go false false f = refl

    -- the slot at the head was taken out
    taken : (queue_heads w s c < tails w s c) × (t (Slot s c (queue_heads w s c % 8)) ≡ 0)
    taken = let q = (h.lanes s c a.from a.inside a.other).taken a.some in (q.0, q.2)

    named : (d b : ℕ) → named_by t (tails w) (queue_heads w) d b → named_by t (tails w) queue_head' d b
    named d b (n, inl u) = (n, inl u)
    named d b (n, inr (inl u)) = (n, inr (inl u))
    named d b (n, inr (inr u)) = elim (cases_Bool (eqb s u.0 && eqb c d)) [
      | inl f ↦ absurd (let q = and_parts (eqb s u.0) (eqb c d) f in
          n (sym u.2 ∙ (let z : t (Slot u.0 d (queue_heads w u.0 d % 8)) ≡ 0 = subst (λ i. t (Slot i d (queue_heads w i d % 8)) ≡ 0) (eqb-true s u.0 q.0) (subst (λ j. t (Slot s j (queue_heads w s j % 8)) ≡ 0) (eqb-true c d q.1) taken.1) in z)))
      | inr f ↦ (n, inr (inr (u.0, rw f u.1, rw f u.2)))
    ]
