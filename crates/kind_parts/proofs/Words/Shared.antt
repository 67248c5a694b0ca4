-- word steps at latches, homes, segments and pages as parts: what each needs of the memo
use Rattle.std.proofs.Common.{◌≡◌, ◌≢◌, ℕ, ◌+◌, ◌<◌, refl, sym, ap, ◌∙◌, subst, arith, Bool, true, false, not, cond, eqb, ◌&&◌, List, [], ◌∷◌, ◌++◌, inl, inr}
use Rattle.std.proofs.lemmas.Bool.{and_from, and_parts, cases_eq, eq-eqb, eqb-true, false≢true, lt-ltb, true≢false}
use Rattle.std.proofs.lemmas.{Cmp.nat_eq_equiv, Map.Views.list_any-from_Contains}
use Rattle.std.specs.{Prelude.{None, Option, Some}, List.{Contains, list_any, filter}}
use Rattle.shm_words.specs.Layout.{address}
use Rattle.shm_words.specs.declared.place.Place.TheVariants as place
use Rattle.shm_graph.specs.declared.ask.{Ask.{Ask, TheVariants.{Load, Store, Exchange}}, Me.Me}
use Rattle.shm_graph.specs.declared.{spot.Spot.TheVariants.{Home, Latch, Page, Segment}, memo.Fact.TheVariants.Class}
use Rattle.shm_graph.specs.{declared.memo.{Memo.Memo, Step.Step}, Blocks.classes, Changes.{called, with_call, with_end}}
use Rattle.shm_graph.specs.{Core.core, Laws.framed, Reach.unlatched, MemoAfterRead.is_held, Spots.spot_at}
use Rattle.shm_graph.specs.{MemoAfterStore.not_segment, Views.own_word}
use Rattle.shm_graph.proofs.{StepKinds.{LoadKeeping.lost_kept, Loads.choice}, Spots.SpotPlaces.spot-place}
use Rattle.plans.specs.{Words.IsWord, Proved.WordSteps.{load_at, word_at}}
use Rattle.kind_parts.specs.{Conditions.IsHere, Preparing.{MayGive, MayLatch}, Unlatching.MayUnlatch}
use Rattle.kind_parts.specs.WordParts.{HomeLoaded, HomeLooked, LatchGiven, LatchLoaded, LatchTaken, PageLoaded, SegmentGiven, SegmentLoaded, SegmentTaken}
use Rattle.kind_parts.proofs.{LatchBack.latch_back, PageSteps.{claimed, given_up, latched}}
use Rattle.kind_parts.proofs.Words.Own.{at_step, store_at, word_for}

-- a latch that is taken for held is held
held_by : (latch : Option ℕ) (a : ℕ) → is_held latch a ≡ true → latch ≡ Some a
held_by None a e = absurd (false≢true e)
held_by (Some b) a e = ap Some (sym (eqb-true a b e))

module _ (first : Bool) (me : Me) (m : Memo) (l : me.who < me.geometry.clients) where
  abbrev c : ℕ
  c = me.who

  -- ---- latches and homes

  module _ (a : ℕ) (la : a < me.geometry.clients) where
    latch_there : (class : ℕ → ℕ → ℕ) → spot_at me.geometry class (address me.geometry (place.Latch a)) ≡ Latch a
    latch_there class = spot-place me.geometry class (place.Latch a) (lt-ltb a me.geometry.clients la)

    home_there : (class : ℕ → ℕ → ℕ) → spot_at me.geometry class (address me.geometry (place.Home a)) ≡ Home a
    home_there class = spot-place me.geometry class (place.Home a) (lt-ltb a me.geometry.clients la)

    -- a latch is loaded
    pub latch_load : IsWord first me (Load (address me.geometry (place.Latch a))) (LatchLoaded c a) (word_for me (Load (address me.geometry (place.Latch a)))) m
    latch_load =
        load_at first me (address me.geometry (place.Latch a)) (LatchLoaded c a) m (Latch a) latch_there (λ e. cc) refl tt
        (λ w r f st stands same. let tie = st.held.latch c st.who in
        record {
          found = (λ e. sym (ap (λ (x : Memo). x.latch) same) ∙ tie.all a e, λ e. (tie.some a (ap (λ (x : Memo). x.latch) same ∙ e)).0);
          left = at_step r c m (framed me (Load (address me.geometry (place.Latch a))) f (w (Latch a))) same;
          read = tt;
        })

    -- a latch that the hold word names is exchanged: it was nobody's, or it is another's
    pub latch_take : first ≡ false → MayLatch c m a → IsWord first me (Exchange (address me.geometry (place.Latch a)) 0 (c + 1)) (LatchTaken a) (word_for me (Exchange (address me.geometry (place.Latch a)) 0 (c + 1))) m
    latch_take going may =
        let at : ℕ = address me.geometry (place.Latch a) in
        let ask : Ask = Exchange at 0 (c + 1) in
        word_at first me ask (LatchTaken a) m (Latch a) latch_there (λ e. cc) refl
        (λ w r f st stands same. elim (cases_eq (w (Latch a)) 0) [
          | inl e ↦ latched me w r f [] at a st (stands going) (latch_there (classes w)) e (subst (λ (x : Memo). MayLatch c x a) (sym same) may)
          | inr other ↦ lost_kept me w r f [] at 0 (c + 1) (λ n x. Unit {0}) (Latch a) st (latch_there (classes w)) refl tt other tt
        ])
        (λ w r f st stands same. let t : Step = framed me ask f (w (Latch a)) in record { found = tt; left = taken f.ends (called (r c) t) (at_step r c m t same) (eqb (w (Latch a)) 0); read = tt })
      where
        taken : (ends : Bool) (x : Memo) → core x ≡ core m → (q : Bool) → core (with_end ends (with_call x (cond q (record x { latch = Some a }) x))) ≡ core (cond q (record m { latch = Some a }) m)
        taken ends x e true = ap (λ (y : Memo). core (record y { latch = Some a })) e
        taken ends x e false = e

    -- the latch that is held is given back
    pub latch_give : first ≡ false → MayUnlatch m a → IsWord first me (Store (address me.geometry (place.Latch a)) 0) (LatchGiven me.geometry.wide c) (word_for me (Store (address me.geometry (place.Latch a)) 0)) m
    latch_give going may =
        store_at first me m l (place.Latch a) (Latch a) 0 (unlatched me.geometry.wide c) (latch_there, λ e. cc, refl)
        (λ w r f st stands same. latch_back me w r f [] (address me.geometry (place.Latch a)) a st (stands going) (latch_there (classes w)) (subst (λ (x : Memo). MayUnlatch x a) (sym same) may))
        (λ x e. ap (λ (y : Memo). core (unlatched me.geometry.wide c y)) e)

    -- a home is loaded under its author's latch
    pub home_look : m.latch ≡ Some a → IsWord first me (Load (address me.geometry (place.Home a))) (HomeLooked c a) (word_for me (Load (address me.geometry (place.Home a)))) m
    home_look holds =
        let at : ℕ = address me.geometry (place.Home a) in
        load_at first me at (HomeLooked c a) m (Home a) home_there (λ e. cc) refl tt
        (λ w r f st stands same. let t : Step = framed me (Load at) f (w (Home a)) in
        record {
          found = λ mine. sym (st.held.mine c st.who (Home a) (eq-eqb c a (sym mine))) ∙ ap (λ (y : Memo). own_word y.own (Home a)) same;
          left = looked (called (r c) t) (at_step r c m t same) (w (Home a)) (eqb (w (Home a)) 0) (ap (λ (y : Memo). is_held y.latch a) (at_step r c m t same) ∙ (ap (λ o. is_held o a) holds ∙ eq-eqb a a refl));
          read = tt;
        })
      where
        looked : (x : Memo) → core x ≡ core m → (n : ℕ) (z : Bool) → is_held x.latch a ≡ true
            → core (cond (is_held x.latch a && not z) (record x { looks = x.looks ++ record { block = n; from = Home a } ∷ [] }) x) ≡ core (cond z m (record m { looks = m.looks ++ record { block = n; from = Home a } ∷ [] }))
        looked x e n true y = subst (λ q. core (cond (q && false) (record x { looks = x.looks ++ record { block = n; from = Home a } ∷ [] }) x) ≡ core m) (sym y) e
        looked x e n false y =
            subst (λ q. core (cond (q && true) (record x { looks = x.looks ++ record { block = n; from = Home a } ∷ [] }) x) ≡ core (record m { looks = m.looks ++ record { block = n; from = Home a } ∷ [] })) (sym y)
            (ap (λ (v : Memo). core (record v { looks = v.looks ++ record { block = n; from = Home a } ∷ [] })) e)

    -- and without it
    pub home_load : m.latch ≢ Some a → IsWord first me (Load (address me.geometry (place.Home a))) (HomeLoaded c a) (word_for me (Load (address me.geometry (place.Home a)))) m
    home_load holds =
        let at : ℕ = address me.geometry (place.Home a) in
        load_at first me at (HomeLoaded c a) m (Home a) home_there (λ e. cc) refl tt
        (λ w r f st stands same. let t : Step = framed me (Load at) f (w (Home a)) in let x : Memo = called (r c) t in let n : ℕ = w (Home a) in
        record {
          found = λ mine. sym (st.held.mine c st.who (Home a) (eq-eqb c a (sym mine))) ∙ ap (λ (y : Memo). own_word y.own (Home a)) same;
          left =
              choice (λ (y : Memo). core y ≡ core m) (is_held x.latch a && not (eqb n 0)) (record x { looks = x.looks ++ record { block = n; from = Home a } ∷ [] }) x
              (λ z. absurd (holds (sym (ap (λ (y : Memo). y.latch) (at_step r c m t same)) ∙ held_by x.latch a (and_parts (is_held x.latch a) (not (eqb n 0)) z).0)))
              (λ z. at_step r c m t same);
          read = tt;
        })

  -- ---- segments

  module _ (s : ℕ) (ls : s < me.geometry.segments) where
    segment_there : (class : ℕ → ℕ → ℕ) → spot_at me.geometry class (address me.geometry (place.Segment s)) ≡ Segment s
    segment_there class = spot-place me.geometry class (place.Segment s) (lt-ltb s me.geometry.segments ls)

    -- a segment's word is loaded
    pub segment_load : IsWord first me (Load (address me.geometry (place.Segment s))) (SegmentLoaded c s) (word_for me (Load (address me.geometry (place.Segment s)))) m
    segment_load =
        load_at first me (address me.geometry (place.Segment s)) (SegmentLoaded c s) m (Segment s) segment_there (λ e. cc) refl tt
        (λ w r f st stands same. let tie = st.held.segments c st.who in
        record {
          found = (λ e. subst (λ (x : Memo). Contains x.owned s) same (tie.all s e), λ has. tie.listed s (subst (λ (x : Memo). Contains x.owned s) (sym same) has));
          left = at_step r c m (framed me (Load (address me.geometry (place.Segment s))) f (w (Segment s))) same;
          read = tt;
        })

    -- it is exchanged: it was nobody's, or it is another's
    pub segment_take : first ≡ false → IsHere m → IsWord first me (Exchange (address me.geometry (place.Segment s)) 0 (c + 1)) (SegmentTaken s) (word_for me (Exchange (address me.geometry (place.Segment s)) 0 (c + 1))) m
    segment_take going here =
        let at : ℕ = address me.geometry (place.Segment s) in
        let ask : Ask = Exchange at 0 (c + 1) in
        word_at first me ask (SegmentTaken s) m (Segment s) segment_there (λ e. cc) refl
        (λ w r f st stands same. elim (cases_eq (w (Segment s)) 0) [
          | inl e ↦ claimed me w r f [] at s st (stands going) (segment_there (classes w)) e (subst IsHere (sym same) here)
          | inr other ↦ lost_kept me w r f [] at 0 (c + 1) (λ n x. Unit {0}) (Segment s) st (segment_there (classes w)) refl tt other tt
        ])
        (λ w r f st stands same. let t : Step = framed me ask f (w (Segment s)) in record { found = tt; left = taken f.ends (called (r c) t) (at_step r c m t same) (eqb (w (Segment s)) 0); read = tt })
      where
        taken : (ends : Bool) (x : Memo) → core x ≡ core m → (q : Bool) → core (with_end ends (with_call x (cond q (record x { owned = s ∷ x.owned }) x))) ≡ core (cond q (record m { owned = s ∷ m.owned }) m)
        taken ends x e true = ap (λ (y : Memo). core (record y { owned = s ∷ y.owned })) e
        taken ends x e false = e

    -- an own one is given up
    pub segment_give : first ≡ false → MayGive m s → IsWord first me (Store (address me.geometry (place.Segment s)) 0) (SegmentGiven s) (word_for me (Store (address me.geometry (place.Segment s)) 0)) m
    segment_give going may =
        store_at first me m l (place.Segment s) (Segment s) 0 (λ x. record x { owned = filter (not_segment s) x.owned }) (segment_there, λ e. cc, refl)
        (λ w r f st stands same. given_up me w r f [] (address me.geometry (place.Segment s)) s st (stands going) (segment_there (classes w)) (subst (λ (x : Memo). MayGive x s) (sym same) may))
        (λ x e. ap (λ (y : Memo). core (record y { owned = filter (not_segment s) y.owned })) e)

    -- a page's class is loaded
    pub page_load : (q : ℕ) → q < 16 → IsWord first me (Load (address me.geometry (place.Page s q))) (PageLoaded s q) (word_for me (Load (address me.geometry (place.Page s q)))) m
    page_load q lq =
        let at : ℕ = address me.geometry (place.Page s q) in
        load_at first me at (PageLoaded s q) m (Page s q) (λ class. spot-place me.geometry class (place.Page s q) (and_from _ _ (lt-ltb s me.geometry.segments ls) (lt-ltb q 16 lq))) (λ e. cc) refl tt
        (λ w r f st stands same. let t : Step = framed me (Load at) f (w (Page s q)) in let x : Memo = called (r c) t in let n : ℕ = w (Page s q) in
        record {
          found = tt;
          left =
              choice (λ (y : Memo). core y ≡ core m) (eqb n 0) (cond (list_any (eqb s) x.owned) (record x { zeros = Page s q ∷ x.zeros }) x) (record x { facts = Class s q n ∷ x.facts })
              (λ z. choice (λ (y : Memo). core y ≡ core m) (list_any (eqb s) x.owned) (record x { zeros = Page s q ∷ x.zeros }) x (λ u. at_step r c m t same) (λ u. at_step r c m t same))
              (λ z. at_step r c m t same);
          read = (
            λ some. choice (λ (y : Memo). Contains y.facts (Class s q n)) (eqb n 0) (cond (list_any (eqb s) x.owned) (record x { zeros = Page s q ∷ x.zeros }) x) (record x { facts = Class s q n ∷ x.facts })
                (λ z. absurd (some (eqb-true n 0 z))) (λ z. (0, omega arith, refl)),
            λ none has. choice (λ (y : Memo). Contains y.zeros (Page s q)) (eqb n 0) (cond (list_any (eqb s) x.owned) (record x { zeros = Page s q ∷ x.zeros }) x) (record x { facts = Class s q n ∷ x.facts })
                (λ z. choice (λ (y : Memo). Contains y.zeros (Page s q)) (list_any (eqb s) x.owned) (record x { zeros = Page s q ∷ x.zeros }) x
                (λ u. (0, omega arith, refl))
                (λ u. absurd (true≢false (sym (list_any-from_Contains nat_eq_equiv s x.owned (subst (λ (os : List ℕ). Contains os s) (sym (ap (λ (y : Memo). y.owned) (at_step r c m t same))) has)) ∙ u))))
                (λ z. absurd (true≢false (sym (eq-eqb n 0 none) ∙ z))),
          );
        })
