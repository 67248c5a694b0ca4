-- what stays where nothing is done, over one part after another, over latches, reading, allocations, steps at the own home, refused steps and drops of roots
use Rattle.std.proofs.Common.{◌≡◌, ◌≢◌, ℕ, ◌+◌, ◌<◌, refl, sym, ap, ◌∙◌, subst, arith, Bool, true, false, eqb, ◌&&◌, List, inl, inr}
use Rattle.std.proofs.lemmas.Bool.{cases_Bool, cond-false, cond-true, eqb-true, ne_eqb, true≢false, not-true}
use Rattle.std.proofs.lemmas.List.Elements.{Contains-append_right}
use Rattle.std.specs.{Prelude.Ok, List.Contains}
use Rattle.shm_graph.specs.declared.{ask.Me.Me, spot.Spot.{Spot, TheVariants.{Home, Era, RedoMore, Root}}}
use Rattle.shm_graph.specs.{declared.memo.{Memo.Memo, Stored.Stored}, Held.is_loose, Spots.same_spot, Views.own_word}
use Rattle.shm_graph.proofs.Spots.Spotting.{same_spot_self}
use Rattle.shm_count.specs.{declared.answer.Made.Made, Roots.root_word, Proved.Step.Parts.lasting_not}
use Rattle.shm_count.specs.{Lasting.is_lasting, Tear.Memos.Knows}
use Rattle.shm_alloc.specs.{declared.request.Request.Request, Proved.Alloc.{Carrying.value_made, Steps.ready_word}}
use Rattle.shm_alloc.specs.Alloc.{AnswerHolds, MadeGives, goal_of}
use Rattle.shm_table.specs.Staying.{Cleared, Keeps, is_set}

-- ---- own words that are kept

not_this_root : (c k : ℕ) (p : Spot) → is_set p ≡ false → same_spot (Root c k) p ≡ false
not_this_root c k (Root d j) n = absurd (true≢false n)
not_this_root c k _ n = refl

other_root : (c k j : ℕ) → eqb k j ≡ false → same_spot (Root c k) (Root c j) ≡ false
other_root c k j n = ap (λ z. eqb c c && z) n ∙ right (eqb c c)
  where
    right : (b : Bool) → (b && false) ≡ false
    right true = refl
    right false = refl

-- ---- what is as it was

-- the latch, the own home, the partition, the roots and the zero-count blocks
pub record KeepsRest (c : ℕ) (m r : Memo) : Type 0 where
  pub latch : r.latch ≡ m.latch
  pub home : own_word r.own (Home c) ≡ own_word m.own (Home c)
  pub part : r.part ≡ m.part
  pub cleared : Cleared c m r

-- ---- allocations

module _ (me : Me) (q : Request) (m r : Memo) (a : Made) (holds : AnswerHolds me q m r (Ok a)) where
  abbrev pub c : ℕ
  c = me.who

  pub gives : MadeGives me q m r a
  gives = holds.gives

  -- neither is it the second word of the redo record
  more_not : (d : ℕ) (p : Spot) → is_lasting d p ≡ true → same_spot (RedoMore d) p ≡ false
  more_not d (RedoMore j) e = not-true (eqb d j) e
  more_not d _ e = refl

  own_made : (p : Spot) → is_lasting me.who p ≡ true → same_spot (Root me.who a.root) p ≡ false → own_word r.own p ≡ own_word m.own p
  own_made p l n =
      let y = lasting_not me.who p l in
      ap (λ (s : List Stored). own_word s p) gives.own ∙ (cond-false _ _ _ y.0 ∙ (cond-false _ _ _ n ∙ (cond-false _ _ _ y.2 ∙ ready_word me (goal_of me m a) a.block m.own p (more_not me.who p l))))

  -- the root that it chose names the new block, and the others are as they were
  pub made_root : root_word me.who r a.root ≡ a.block
  made_root = ap (λ (s : List Stored). own_word s (Root me.who a.root)) gives.own ∙ cond-true _ _ _ (same_spot_self (Root me.who a.root))

  pub made_others : (j : ℕ) → a.root ≢ j → root_word me.who r j ≡ root_word me.who m j
  made_others j n = own_made (Root me.who j) refl (other_root me.who a.root j (ne_eqb a.root j n))

  pub made_home : own_word r.own (Home me.who) ≡ own_word m.own (Home me.who)
  made_home = own_made (Home me.who) refl refl

  made_era : own_word r.own (Era me.who me.who) ≡ own_word m.own (Era me.who me.who) + 1
  made_era = ap (λ (s : List Stored). own_word s (Era me.who me.who)) gives.own ∙ cond-true _ _ _ (same_spot_self (Era me.who me.who))

  pub made_knows : (p : Spot) (x : ℕ) → Knows m p x → Knows r p x
  made_knows p x k = subst (λ (ks : List Stored). Contains ks (record { spot = p; value = x })) (sym gives.knows.1) (Contains-append_right gives.knows.0.words m.known (record { spot = p; value = x }) k)

  pub keeps_block : me.who < 64 → Keeps me.who m r
  keeps_block who =
      record {
        idle = holds.idle;
        sent = holds.stays.sent;
        received = holds.stays.received;
        unsent = holds.stays.unsent;
        untaken = holds.stays.untaken;
        loose = ap is_loose holds.stays.part;
        own = λ p l s. own_made p l (not_this_root me.who a.root p s);
        era = let u = made_era in omega arith;
        roots = λ j. elim (cases_Bool (eqb a.root j)) [
          | inl e ↦ inr (subst (λ k. root_word me.who m k ≡ 0) (eqb-true a.root j e) gives.empty)
          | inr n ↦ inl (own_made (Root me.who j) refl (other_root me.who a.root j n))
        ];
        slots = λ p x s k. made_knows p x k;
        values = λ k v n l some root y. value_made me q m r a holds who v n y;
      }
