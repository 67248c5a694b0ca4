-- a count that came to 0: the tear-down that follows a step which took the last reference to a block: what is proved of it
use Rattle.std.proofs.Common.{◌≡◌, ℕ, ◌<◌, refl, sym, ap, ◌∙◌, subst, arith, Bool, true, false, not, cond, List, [], ◌∷◌, ◌++◌, append-nil, inl, inr}
use Rattle.std.proofs.lemmas.{Bool.{eq-eqb, ne_eqb}, List.Elements.{Contains-append_right, Contains-push}}
use Rattle.std.specs.{Prelude.{Result, Ok, Err}, List.{Contains, filter}}
use Rattle.shm_graph.specs.{declared.{ask.Me.Me, spot.Spot.Spot, memo.Memo.Memo}, Asks.Trail, Events.Event}
use Rattle.shm_graph.specs.{Reach.is_named, MemoAfterStore.not_block}
use Rattle.plans.specs.Parts.{IsHeld}
use Rattle.shm_count.specs.{declared.answer.EraSpent.EraSpent, Proved.Retaining.{held_counted, named_stays}, Roots.rest}
use Rattle.shm_count.specs.{Slots.{Lost, Took}, Tear.{TearLeaves, Memos.{Retains, TearStays}}, Lowering.TornLeaves}

-- a block that has joined a list is taken out of it
pub without_new : (t : ℕ) (ds : List ℕ) → (Contains ds t → ⊥) → filter (not_block t) (ds ++ t ∷ []) ≡ ds
without_new t [] n = ap (λ z. cond (not z) (t ∷ []) []) (eq-eqb t t refl)
without_new t (d ∷ ds) n =
    let xs : List ℕ = filter (not_block t) (ds ++ t ∷ []) in
    ap (λ z. cond (not z) (d ∷ xs) xs) (ne_eqb t d (λ e. n (0, omega arith, sym e)))
    ∙ ap (λ y. d ∷ y) (without_new t ds (λ h. n (Contains-append_right (d ∷ []) ds t h)))

-- a tear-down leaves the rest
pub stays_rest : (c : ℕ) (m r : Memo) → TearStays c m r → rest r ≡ rest m
stays_rest c m r s = ap rest s.rest

module _ (me : Me) (p : Spot) (h : Bool) (t x : ℕ) (m q r : Memo) (l : me.who < me.geometry.clients) (held : IsHeld me q) (lost : Lost me.who p h t x true m q) where
  -- the block is one of the zero-count blocks then
  pub dies : Contains q.dying t
  dies = subst (λ (ds : List ℕ). Contains ds t) (sym lost.dying) (Contains-push m.dying t)

  -- so that a count that came to 0 and a tear-down are as a step that left a count
  pub torn_leaves : (Contains m.dying t → ⊥) → (ds : List Event) (tr : Trail) (a : Result (Unit {0}) EraSpent) → TearLeaves me t q r ds tr a → TornLeaves me p h t x m r a
  torn_leaves counted ds tr a y = go a y
    where
      -- but for the zero-count blocks the tear-down leaves what the step left
      took_torn : TearStays me.who q r → Retains me.who q r → Took me.who p h t x false m r
      took_torn s n =
          let c = me.who in
          let k = lost.took.sifts in
          let named : (b : ℕ) → is_named c r b ≡ true → is_named c q b ≡ true = (λ b y. sym (named_stays c q r b s n.slots) ∙ y) in
          record {
            rest = stays_rest c q r s ∙ lost.took.rest;
            op = ap (λ (y : Memo). y.op) s.rest ∙ lost.took.op;
            own = λ u last. s.own u last ∙ lost.took.own u last;
            rows = λ j. let a = lost.took.rows j in let b = s.rows j in omega arith;
            sifts = record {
              looks = elim n.looks [ inl y ↦ y ∙ k.looks | inr y ↦ y ];
              slots = n.slots ∙ k.slots;
              words = λ b u y l2 other o has. n.words b u y (named b l2) o (k.words b u y (named b l2) (λ z. held_counted me q held l b t (named b l2) dies) o has);
              values = λ b l2 has. n.values b (named b l2) (k.values b (named b l2) has);
            };
          }

      -- by the answer
      go : (a : Result (Unit {0}) EraSpent) → TearLeaves me t q r ds tr a → TornLeaves me p h t x m r a
      go (Ok done) y =
          record {
            took = took_torn y.stays y.retains;
            dying = y.others ∙ (ap (filter (not_block t)) lost.dying ∙ (without_new t m.dying counted ∙ sym (append-nil m.dying)));
          }
      go (Err e) (vs, y) = (
        took_torn y.stays y.retains,
        (vs, record { left = y.left; others = y.others ∙ (ap (filter (not_block t)) lost.dying ∙ without_new t m.dying counted); spent = y.last }),
      )
