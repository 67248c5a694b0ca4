-- the word steps of the commit test as parts: what each needs of the memo
use Rattle.std.proofs.Common.{◌≡◌, ◌≢◌, ℕ, ◌<◌, refl, sym, ap, ◌∙◌, subst, arith, Bool, true, false, not, cond, eqb, ◌&&◌, List, [], ◌∷◌, None}
use Rattle.std.proofs.lemmas.{Bool.{and_from, cond-true, eq-eqb, lt-ltb, ne_eqb}, Cmp.nat_eq_equiv}
use Rattle.std.proofs.lemmas.Map.Views.{list_any-from_Contains}
use Rattle.std.specs.List.{Contains}
use Rattle.shm_words.specs.Layout.{address, total_of}
use Rattle.shm_words.specs.declared.place.Place.TheVariants as place
use Rattle.shm_graph.specs.declared.{ask.{Ask.TheVariants.Load, Me.Me}, spot.Spot.TheVariants.{Era, Head, Spare}}
use Rattle.shm_graph.specs.{declared.memo.{Fact.TheVariants.Counter, Memo.Memo, Step.Step}, Agents.recovers}
use Rattle.shm_graph.specs.{Blocks.classes, Changes.{called, test_before}, Core.core, Laws.framed}
use Rattle.shm_graph.specs.{MemoAfterRead.{op_refused, row_read, test_from, test_on}, Spots.segment_of, Views.own_word}
use Rattle.shm_graph.proofs.{Spots.{SpotPlaces.spot-place, Spotting.spot_zero}, StepKinds.LoadKeeping.load_kept}
use Rattle.shm_graph.proofs.Memos.MemoSteps.{recovers_called}
use Rattle.plans.specs.{Words.IsWord, Proved.WordSteps.{IsThere, load_at, word_in}}
use Rattle.kind_parts.specs.WordParts.{TestBegun, TestGoesOn}
use Rattle.kind_parts.proofs.{BodyLoads.header_loaded, Cores.header_core, Words.Blocks.recoverer_goes_on}
use Rattle.kind_parts.proofs.Words.Own.{at_step, word_for}

module _ (first : Bool) (me : Me) (m : Memo) (l : me.who < me.geometry.clients) (dead : recovers m ≡ true) where
  abbrev c : ℕ
  c = me.who

  -- the header of a block
  pub test_begin : (b : ℕ) → (0 < b) × (b < total_of me.geometry) → IsThere first me (Load b) (TestBegun me.geometry c b) m (Head b) → IsWord first me (Load b) (TestBegun me.geometry c b) (word_for me (Load b)) m
  test_begin b inside there =
      word_in first me (Load b) (TestBegun me.geometry c b) m (Head b) inside.1 there (λ x t. refl)
      (λ w r f st stands same. header_loaded me w r f [] b b st (there w r f st same))
      (λ w r f st stands same. let t : Step = framed me (Load b) f (w (Head b)) in let x : Memo = called (r c) t in let n : ℕ = w (Head b) in
      record {
        found = tt;
        left = header_core me (Load b) f (r c) b n true ∙ (ap (λ (y : Memo). core (record y { op = op_refused y b n })) same ∙ ap (λ o. core (record m { op = o })) (recoverer_goes_on m b n dead));
        read = λ some. (
          ap (λ z. cond z (test_from c (own_word x.own (Era c c)) b n) None) (recovers_called (r c) t ∙ (ap recovers same ∙ dead)) ∙ ap (λ (y : Memo). test_from c (own_word y.own (Era c c)) b n) (at_step r c m t same),
          (
            (0, omega arith, refl),
            λ none has. subst (λ z. Contains (cond z (Head b ∷ x.zeros) x.zeros) (Head b))
                (sym (and_from _ _ (eq-eqb n 0 none) (list_any-from_Contains nat_eq_equiv (segment_of me.geometry b) x.owned (subst (λ (os : List ℕ). Contains os (segment_of me.geometry b)) (sym (ap (λ (y : Memo). y.owned) (at_step r c m t same))) has))))
                (0, omega arith, refl),
          ),
        );
      })

  -- word 0, which is no block's header
  pub test_spare : 0 < total_of me.geometry → IsWord first me (Load 0) (TestBegun me.geometry c 0) (word_for me (Load 0)) m
  test_spare inside =
      word_in first me (Load 0) (TestBegun me.geometry c 0) m Spare inside (λ w r f st same. spot_zero me.geometry (classes w)) (λ x t. refl)
      (λ w r f st stands same. load_kept me w r f [] 0 (λ n x. Unit {0}) Spare st (spot_zero me.geometry (classes w)) refl tt tt)
      (λ w r f st stands same. record { found = tt; left = at_step r c m (framed me (Load 0) f (w Spare)) same; read = λ some. absurd (some refl) })

  -- the row of another identity, after an own word step
  pub test_row : first ≡ false → (k : ℕ) → k < me.geometry.clients → k ≢ c → IsWord first me (Load (address me.geometry (place.Era k c))) (TestGoesOn c k) (word_for me (Load (address me.geometry (place.Era k c)))) m
  test_row going k lk other =
      let at : ℕ = address me.geometry (place.Era k c) in
      load_at first me at (TestGoesOn c k) m (Era k c) (λ class. spot-place me.geometry class (place.Era k c) (and_from _ _ (lt-ltb k me.geometry.clients lk) (lt-ltb c me.geometry.clients l))) (λ e. cc) refl tt
      (λ w r f st stands same. let t : Step = framed me (Load at) f (w (Era k c)) in let x : Memo = called (r c) t in let n : ℕ = w (Era k c) in
      let other_row : Memo = record x { facts = Counter (Era k c) n ∷ x.facts } in
      let row : (eqb c c && not (eqb k c)) ≡ true = and_from _ _ (eq-eqb c c refl) (ap not (ne_eqb k c other)) in
      let before : test_before (r c) t ≡ m.test = ap (λ z. cond z None (r c).test) (stands going) ∙ ap (λ (y : Memo). y.test) same in
      let recovering : (recovers x && not (eqb k c)) ≡ true = and_from _ _ (recovers_called (r c) t ∙ (ap recovers same ∙ dead)) (ap not (ne_eqb k c other)) in
      record {
        found = tt;
        left = ap core (cond-true (eqb c c && not (eqb k c)) (row_read c x (test_before (r c) t) k n) other_row row) ∙ at_step r c m t same;
        read = (
          ap (λ (y : Memo). y.test) (cond-true (eqb c c && not (eqb k c)) (row_read c x (test_before (r c) t) k n) other_row row)
              ∙ (cond-true (recovers x && not (eqb k c)) (test_on c (own_word x.own (Era c c)) (test_before (r c) t) k n) None recovering
              ∙ (ap (λ o. test_on c (own_word x.own (Era c c)) o k n) before ∙ ap (λ (y : Memo). test_on c (own_word y.own (Era c c)) m.test k n) (at_step r c m t same))),
          subst (λ (y : Memo). Contains y.facts (Counter (Era k c) n)) (sym (cond-true (eqb c c && not (eqb k c)) (row_read c x (test_before (r c) t) k n) other_row row)) (0, omega arith, refl),
        );
      })
