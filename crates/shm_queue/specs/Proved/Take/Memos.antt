-- what is left of a memo once an item was taken: the step down at its slot, and the store of the head
use Rattle.std.proofs.Common.{◌≡◌, ℕ, ◌+◌, ◌%◌, ◌≤◌, refl, sym, ap, ◌∙◌, subst, Bool, true, false, not, cond, List, [], ◌∷◌, ◌++◌, inl, inr}
use Rattle.std.proofs.lemmas.Bool.{cases_eq, cond-false, cond-true, eq-eqb, ne_eqb}
use Rattle.std.proofs.lemmas.List.Elements.{Contains-append_right}
use Rattle.std.specs.{Prelude.slice_index, List.{Contains, filter}}
use Rattle.shm_graph.specs.declared.{spot.Spot.{Spot, TheVariants.{Era, QueueHead, Slot, Spare}}, memo.Memo.Memo}
use Rattle.shm_graph.specs.{declared.{memo.Stored.Stored, table.Part.Part}, Core.core, Held.is_loose}
use Rattle.shm_graph.specs.{Reach.{is_named, learnt}, MemoAfterRead.valued, Spots.same_spot}
use Rattle.shm_graph.specs.{MemoAfterStore.{head_stored, lane_with, other_than, put}, Views.own_word}
use Rattle.shm_graph.proofs.Spots.Spotting.{same_spot_self}
use Rattle.kind_parts.specs.Reparting.{sight}
use Rattle.kind_parts.proofs.Items.{put_at}
use Rattle.shm_count.specs.{Roots.rest, Slots.{Lost, Sifts, Took, emptied}, Step.Parts.part_after, Lasting.is_lasting}
use Rattle.shm_count.specs.Tear.Memos.{is_slot_word}
use Rattle.shm_queue.specs.{Proved.QueueSteps.{put_here, same_part, spare_part}, Take.{Received, slot_memo, taken_memo}}

-- ---- what is known

-- another word than the one at p
abbrev other : Spot → Stored → Bool
other p x = other_than p x.spot

-- what was forgotten once is forgotten
twice : (p : Spot) (ks : List Stored) → filter (other p) (filter (other p) ks) ≡ filter (other p) ks
twice p [] = refl
twice p (k ∷ ks) = go (other p k) refl (twice p ks)
  where
    go : (b : Bool) → other p k ≡ b → filter (other p) (filter (other p) ks) ≡ filter (other p) ks → filter (other p) (cond b (k ∷ filter (other p) ks) (filter (other p) ks)) ≡ cond b (k ∷ filter (other p) ks) (filter (other p) ks)
    go true e h = cond-true (other p k) (k ∷ filter (other p) (filter (other p) ks)) (filter (other p) (filter (other p) ks)) e ∙ ap (λ y. k ∷ y) h
    go false e h = h

-- what was learnt of a word and forgotten again was never known
forgets : (p : Spot) (x : ℕ) (ks : List Stored) → filter (other p) (learnt p x ks) ≡ filter (other p) ks
forgets p x ks = cond-false (other p (record { spot = p; value = x })) (record { spot = p; value = x } ∷ filter (other p) (filter (other p) ks)) (filter (other p) (filter (other p) ks)) (ap not (same_spot_self p)) ∙ twice p ks

-- a value block is one where another one was read
valued_more : (part : Part) (b d : ℕ) (vs : List ℕ) → Contains vs d → Contains (valued part b vs) d
valued_more part b d vs h = go (is_loose part)
  where
    go : (q : Bool) → Contains (cond q vs (b ∷ vs)) d
    go true = h
    go false = Contains-append_right (b ∷ []) vs d h

-- what was sifted of one memo was of another one that knew the same and had no other value blocks
sifts_from : (c t : ℕ) (z : Bool) (m n r : Memo) → n.known ≡ m.known → ((b : ℕ) → Contains n.values b → Contains m.values b) → Sifts c t z m r → Sifts c t z n r
sifts_from c t z m n r same fewer h =
    record {
      looks = h.looks;
      slots = h.slots ∙ ap (filter is_slot_word) (sym same);
      words = λ b p x named o is has. h.words b p x named o is (subst (λ (ks : List Stored). Contains ks (record { spot = p; value = x })) same has);
      values = λ b named has. h.values b named (fewer b has);
    }

-- and is so in a memo that shows the same
sifts_to : (c t : ℕ) (z : Bool) (m q r : Memo) → r.looks ≡ q.looks → r.known ≡ q.known → r.values ≡ q.values → ((b : ℕ) → is_named c r b ≡ is_named c q b) → Sifts c t z m q → Sifts c t z m r
sifts_to c t z m q r looks known values named h =
    record {
      looks = looks ∙ h.looks;
      slots = ap (filter is_slot_word) known ∙ h.slots;
      words = λ b p x n o is has. subst (λ (ks : List Stored). Contains ks (record { spot = p; value = x })) (sym known) (h.words b p x (sym (named b) ∙ n) o is has);
      values = λ b n has. subst (λ (vs : List ℕ). Contains vs b) (sym values) (h.values b (sym (named b) ∙ n) has);
    }

-- ---- the step down

-- a step down at a first slot after what leaves the core
pub lost_core : (c s k b : ℕ) (z : Bool) (m q r : Memo) → core q ≡ core m → Lost c (Slot s c k) true b 0 z q r → Lost c (Slot s c k) true b 0 z m r
lost_core c s k b z m q r same h =
    let p : Spot = Slot s c k in
    record {
      took = record {
        rest = h.took.rest ∙ ap (λ (x : Memo). rest (record (emptied p true b x) { part = part_after c (sight c x) p 0 })) same;
        op = h.took.op;
        own = λ u l. h.took.own u l ∙ ap (λ (x : Memo). own_word x.own u) same;
        rows = λ j. subst (λ y. y ≤ own_word r.own (Era c j)) (ap (λ (x : Memo). own_word x.own (Era c j)) same) (h.took.rows j);
        sifts = sifts_from c b z (emptied p true b q) (emptied p true b m) r (ap (λ (x : Memo). filter (other p) x.known) (sym same)) (λ d has. subst (λ (vs : List ℕ). Contains vs d) (ap (λ (x : Memo). x.values) (sym same)) has) h.took.sifts;
      };
      dying = h.dying ∙ ap (λ (x : Memo). x.dying ++ cond z (b ∷ []) []) same;
    }

-- ---- the store of the head

module _ (c s n b : ℕ) (z : Bool) (m q r : Memo) (lost : Lost c (Slot s c (n % 8)) true b 0 z (slot_memo c s n b m) q) (left : core r ≡ core (head_stored q (QueueHead s c) s (own_word q.own (QueueHead s c) + 1))) where
  abbrev known : Memo
  known = slot_memo c s n b m

  abbrev taken : Memo
  taken = taken_memo c s n b m

  -- each own word that lasts is that of the memo in which the item is received
  own_taken : (p : Spot) → is_lasting c p ≡ true → own_word r.own p ≡ own_word taken.own p
  own_taken p l =
      ap (λ (x : Memo). own_word x.own p) left
      ∙ (ap (λ y. cond (same_spot (QueueHead s c) p) (y + 1) (own_word q.own p)) (lost.took.own (QueueHead s c) refl)
      ∙ ap (λ y. cond (same_spot (QueueHead s c) p) (own_word m.own (QueueHead s c) + 1) y) (lost.took.own p l))

  -- the same blocks are named
  named_still : (d : ℕ) → is_named c r d ≡ is_named c q d
  named_still d = ap (λ (x : Memo). is_named c x d) left

  -- the step down and the store are as a step down from the memo in which the item is received
  pub lost_stored : Lost c Spare false b 0 z taken r
  lost_stored =
      record {
        took = record {
          rest =
              ap rest left
              ∙ (ap (λ (y : Memo). record y { received = lane_with y.received s (slice_index y.untaken s); untaken = put 0 y.untaken s 0 }) lost.took.rest
              ∙ ap (λ (t : Part). rest (record taken { part = t })) (same_part c (sight c known) s c (n % 8) 0 ∙ sym (spare_part c (sight c taken) 0)));
          op = ap (λ (x : Memo). x.op) left ∙ lost.took.op;
          own = own_taken;
          rows = λ j. subst (λ y. own_word m.own (Era c j) ≤ y) (sym (ap (λ (x : Memo). own_word x.own (Era c j)) left)) (lost.took.rows j);
          sifts = sifts_to c b z (record taken { known = taken.known }) q r (ap (λ (x : Memo). x.looks) left) (ap (λ (x : Memo). x.known) left) (ap (λ (x : Memo). x.values) left) named_still
              (sifts_from c b z (emptied (Slot s c (n % 8)) true b known) (record taken { known = taken.known }) q refl (λ d has. has) lost.took.sifts);
        };
        dying = ap (λ (x : Memo). x.dying) left ∙ lost.dying;
      }

-- ---- the item is received

module _ (c s n b : ℕ) (m r : Memo) (none : slice_index m.untaken s ≡ 0) (place : n ≡ own_word m.own (QueueHead s c)) (took : Took c Spare false b 0 false (taken_memo c s n b m) r) where
  abbrev after : Memo
  after = taken_memo c s n b m

  received_untaken : (j : ℕ) → slice_index r.untaken j ≡ slice_index m.untaken j
  received_untaken j =
      ap (λ (x : Memo). slice_index x.untaken j) took.rest
      ∙ (put_at 0 (put 0 m.untaken s b) s 0 j
      ∙ elim (cases_eq s j) [
        | inl e ↦ cond-true _ _ _ (eq-eqb s j e) ∙ (sym none ∙ ap (slice_index m.untaken) e)
        | inr o ↦ cond-false _ _ _ (ne_eqb s j o) ∙ (put_at 0 m.untaken s b j ∙ cond-false _ _ _ (ne_eqb s j o))
      ])

  pub received_of : Received c s n b m r
  received_of =
      record {
        rest =
            ap (λ (x : Memo). record x { untaken = r.untaken }) took.rest
            ∙ (ap (λ (d : ℕ). rest (record m { received = lane_with m.received s d; untaken = r.untaken; part = part_after c (sight c after) Spare 0 })) (put_here m.untaken s b)
            ∙ ap (λ (t : Part). rest (record m { received = lane_with m.received s b; untaken = r.untaken; part = t })) (spare_part c (sight c after) 0));
        op = took.op;
        untaken = received_untaken;
        place = place;
        head = (took.own (QueueHead s c) refl ∙ cond-true _ _ _ (same_spot_self (QueueHead s c))) ∙ ap (λ y. y + 1) (sym place);
        own = λ p l o. took.own p l ∙ cond-false _ _ _ o;
        rows = took.rows;
        sifts = sifts_from c b false (record after { known = after.known }) (record m { known = filter (other (Slot s c (n % 8))) m.known }) r (sym (forgets (Slot s c (n % 8)) b m.known)) (λ d has. valued_more m.part b d m.values has) took.sifts;
      }
