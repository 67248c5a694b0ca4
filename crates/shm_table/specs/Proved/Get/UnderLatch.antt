-- what reading under a latch leaves of a memo, and what is left once the latch is given back: what is proved of it
use Rattle.std.proofs.Common.{◌≡◌, ◌≢◌, ℕ, ◌<◌, refl, sym, ap, ◌∙◌, subst, arith, Bool, true, eqb, ◌&&◌, List, [], ◌∷◌, ◌++◌, inl, inr}
use Rattle.std.proofs.lemmas.Bool.{cases_Bool, cases_eq, cond-false, cond-true, eq-eqb, false≢true, ne_eqb}
use Rattle.std.proofs.lemmas.List.Elements.{Contains-append_left, Contains-append_right}
use Rattle.std.specs.{Prelude.{None, Some}, List.Contains}
use Rattle.shm_graph.specs.declared.{ask.Me.Me, memo.{Look.Look, Memo.Memo, Op.TheVariants.Nothing, Stored.Stored}}
use Rattle.shm_graph.specs.{declared.spot.Spot.{Spot, TheVariants.{Body, Era, Hold, Root, Tag}}, Asks.Trail, Core.core}
use Rattle.shm_graph.specs.{Events.Event, Held.{is_loose, is_slot}, Idle.hold_word}
use Rattle.shm_graph.specs.Reach.{binds_unlatched, is_latch_of, learnt, unlatched}
use Rattle.shm_graph.specs.{MemoAfterRead.{is_entry, valued, values_read}, Spots.same_spot, Telling.{role_in, roles}}
use Rattle.shm_graph.specs.Views.{own_word}
use Rattle.shm_graph.proofs.{StepKinds.Loads.choice, Spots.Spotting.same_spot_is}
use Rattle.plans.specs.Parts.{IsHeld}
use Rattle.kind_laws.proofs.Lists.{Contains-filter}
use Rattle.kind_parts.specs.{Reparting.{sight, map_in, IsValue}, WordParts.{ReferenceLoaded, WordLoaded}}
use Rattle.kind_parts.proofs.UnlatchedValue.{value_unlatched}
use Rattle.shm_count.specs.{Roots.root_word, Tear.Memos.Knows}
use Rattle.shm_table.specs.{Find.OnlyReads, Proved.Find.SearchLoads.{learnt_keeps, word_only}, Get.{IsReading, Visited}}
use Rattle.shm_table.specs.{Get.UnderLatch.ReadsMore, Locate.MayLocate, Staying.{Keeps, Latched}, Unlatch.Unlatched}

-- ---- reading

-- the search has only read
pub searched : (me : Me) (a : ℕ) (r0 rs r : Memo) → MayLocate me a r0 → Latched me.who a r0 rs → OnlyReads rs r → IsHeld me r → IsReading me a r0 r
searched me a r0 rs r may took reads held =
    let own : r.own ≡ rs.own = ap (λ (x : Memo). x.own) reads.memo in
    let values : r.values ≡ r0.values = ap (λ (x : Memo). x.values) reads.memo ∙ ap (λ (x : Memo). x.values) took.memo in
    record {
      may = may;
      memo = (reads.memo ∙ ap (λ (x : Memo). core (record x { looks = r.looks; known = r.known })) took.memo) ∙ (ap (λ (o : List Stored). core (record r0 { own = o; latch = Some a; looks = r.looks; known = r.known })) (sym own) ∙ ap (λ (vs : List ℕ). core (record r0 { own = r.own; latch = Some a; looks = r.looks; known = r.known; values = vs })) (sym values));
      own = λ p other. ap (λ (o : List Stored). own_word o p) own ∙ took.own p other;
      known = λ s h. reads.known s (subst (λ (ks : List Stored). Contains ks s) (sym (ap (λ (x : Memo). x.known) took.memo)) h);
      values = λ b h. subst (λ (vs : List ℕ). Contains vs b) (sym values) h;
      held = held;
    }

-- and more is read
pub reads_on : (me : Me) (a : ℕ) (r0 rs r : Memo) → IsReading me a r0 rs → core r ≡ core (record rs { looks = r.looks; known = r.known; values = r.values }) → ((s : Stored) → Contains rs.known s → Contains r.known s) → ((b : ℕ) → Contains rs.values b → Contains r.values b) → IsHeld me r → IsReading me a r0 r
reads_on me a r0 rs r h memo known values held =
    let own : r.own ≡ rs.own = ap (λ (x : Memo). x.own) memo in
    record {
      may = h.may;
      memo = (memo ∙ ap (λ (x : Memo). core (record x { looks = r.looks; known = r.known; values = r.values })) h.memo) ∙ ap (λ (o : List Stored). core (record r0 { own = o; latch = Some a; looks = r.looks; known = r.known; values = r.values })) (sym own);
      own = λ p other. ap (λ (o : List Stored). own_word o p) own ∙ h.own p other;
      known = λ s k. known s (h.known s k);
      values = λ b k. values b (h.values b k);
      held = held;
    }

-- ---- what a load leaves

-- value blocks stay such
values_keep : (m : Memo) (d i n b : ℕ) → Contains m.values b → Contains (values_read m d i n) b
values_keep m d i n b h =
    choice (λ (vs : List ℕ). Contains vs b) (is_entry (role_in (roles m) d) && eqb i 1) (valued m.part n m.values) m.values
    (λ z. choice (λ (vs : List ℕ). Contains vs b) (is_loose m.part) m.values (n ∷ m.values) (λ y. h) (λ y. Contains-append_right (n ∷ []) m.values b h))
    (λ z. h)

-- a reference word under its author's latch
pub reference_more : (b i : ℕ) (m : Memo) (n : ℕ) (x : Memo) → ReferenceLoaded b i m n x → ReadsMore m x
reference_more b i m n x h =
    elim (cases_eq n 0) [
      | inl e ↦ more (record m { known = learnt (Body b i) n m.known }) (h.left ∙ ap core {y = record m { known = learnt (Body b i) n m.known }} (cond-true (eqb n 0) _ _ (eq-eqb n 0 e))) refl refl (λ j k. k) (λ v k. k)
      | inr some ↦ more all (h.left ∙ ap core {y = all} (cond-false (eqb n 0) _ _ (ne_eqb n 0 some))) refl refl (λ j k. Contains-append_left m.looks (record { block = n; from = Body b i } ∷ []) j k) (λ v k. values_keep m b i n v k)
    ]
  where
    all : Memo
    all = record m { looks = m.looks ++ record { block = n; from = Body b i } ∷ []; known = learnt (Body b i) n m.known; values = values_read m b i n }

    more : (y : Memo) → core x ≡ core y → core y ≡ core (record m { looks = y.looks; known = y.known; values = y.values }) → y.known ≡ learnt (Body b i) n m.known → ((j : Look) → Contains m.looks j → Contains y.looks j) → ((v : ℕ) → Contains m.values v → Contains y.values v) → ReadsMore m x
    more y left only known looked values =
        record {
          memo = left ∙ (only ∙ ap (λ (z : Memo). core (record m { looks = z.looks; known = z.known; values = z.values })) (sym left));
          known = λ s k. subst (λ (ks : List Stored). Contains ks s) (sym (ap (λ (z : Memo). z.known) left ∙ known)) (learnt_keeps (Body b i) m n h.found s k);
          looked = λ j k. subst (λ (ks : List Look). Contains ks j) (sym (ap (λ (z : Memo). z.looks) left)) (looked j k);
          values = λ v k. subst (λ (vs : List ℕ). Contains vs v) (sym (ap (λ (z : Memo). z.values) left)) (values v k);
        }

-- a plain word
pub word_more : (p : Spot) (m : Memo) (n : ℕ) (x : Memo) → WordLoaded p m n x → ReadsMore m x
word_more p m n x h =
    let only = word_only p m n x h in
    record {
      memo = h.left ∙ ap (λ (y : Memo). core (record m { looks = y.looks; known = y.known; values = y.values })) (sym h.left);
      known = only.known;
      looked = only.looked;
      values = λ v k. subst (λ (vs : List ℕ). Contains vs v) (sym (ap (λ (y : Memo). y.values) h.left)) k;
    }

-- ---- the latch is given back

-- what is known of a head slot binds without a latch
slot_binds : (wide : Bool) (own : Bool) (c : ℕ) (m : Memo) (p : Spot) → is_slot p ≡ true → binds_unlatched wide own c m p ≡ true
slot_binds wide own c m (Tag d) e = absurd (false≢true e)
slot_binds wide own c m (Body d i) e = absurd (false≢true e)
slot_binds wide own c m _ e = refl

module _ (me : Me) (a : ℕ) (r0 q r : Memo) (t : Trail) (ds : List Event) (h : IsReading me a r0 q) (w : Unlatched me a q r t ds) where
  abbrev c : ℕ
  c = me.who

  left : core r ≡ core (record r0 { own = r.own; latch = None; looks = []; known = r.known; values = r.values })
  left =
      w.memo
      ∙ (ap (λ (y : Memo). core (record q { own = y.own; latch = None; looks = []; known = y.known; values = y.values })) (sym w.memo)
      ∙ ap (λ (y : Memo). core (record y { own = r.own; latch = None; looks = []; known = r.known; values = r.values })) h.memo)

  -- each own word is what it was, and the hold word is 0
  own_same : (p : Spot) → own_word r.own p ≡ own_word r0.own p
  own_same p =
      let own : r.own ≡ record { spot = Hold c; value = 0 } ∷ q.own = ap (λ (x : Memo). x.own) w.memo in
      ap (λ (o : List Stored). own_word o p) own
      ∙ elim (cases_Bool (same_spot (Hold c) p)) [
        | inl is ↦ cond-true (same_spot (Hold c) p) 0 (own_word q.own p) is ∙ (sym (h.may.idle.hold ∙ ap hold_word h.may.none) ∙ ap (own_word r0.own) (same_spot_is (Hold c) p is))
        | inr other ↦ cond-false (same_spot (Hold c) p) 0 (own_word q.own p) other ∙ h.own p other
      ]

  -- a head slot is known still
  slots_same : (p : Spot) (x : ℕ) → is_slot p ≡ true → Knows r0 p x → Knows r p x
  slots_same p x is k =
      let free : Memo = record q { latch = None; looks = [] } in
      subst (λ (ks : List Stored). Contains ks (record { spot = p; value = x })) (sym (ap (λ (y : Memo). y.known) w.memo))
      (Contains-filter (λ (s : Stored). binds_unlatched me.geometry.wide (is_latch_of c q.latch) c free s.spot) q.known (record { spot = p; value = x }) (h.known (record { spot = p; value = x }) k) (slot_binds me.geometry.wide (is_latch_of c q.latch) c free p is))

  -- so is the number of a value block that an own root names
  values_same : (k v n : ℕ) → k < 16 → v ≢ 0 → root_word c r0 k ≡ v → IsValue (sight c r0) v n → IsValue (sight c r) v n
  values_same k v n low some root is =
      let before : IsValue (sight c q) v n = record { value = h.values v is.value; word = h.known (record { spot = Body v 0; value = n }) is.word } in
      let idle : q.op ≡ Nothing = ap (λ (x : Memo). x.op) h.memo ∙ h.may.idle.op in
      let held = h.held in
      let after : IsValue (sight c (unlatched me.geometry.wide c q)) v n =
      subst (λ (x : Memo). x.op ≡ Nothing → own_word x.own (Root c k) ≡ v → IsValue (sight c x) v n → IsValue (sight c (unlatched me.geometry.wide c x)) v n) held.3
      (λ o e i. value_unlatched me.geometry held.0 held.1 c v n k held.2 h.may.who o low e some i)
      idle (h.own (Root c k) refl ∙ root) before in
      record {
        value = subst (λ (vs : List ℕ). Contains vs v) (sym (ap (λ (y : Memo). y.values) w.memo)) after.value;
        word = subst (λ (ks : List Stored). Contains ks (record { spot = Body v 0; value = n })) (sym (ap (λ (y : Memo). y.known) w.memo)) after.word;
      }

  keeps : Keeps c r0 r
  keeps =
      record {
        idle = record {
          live = ap (λ (x : Memo). x.status) left ∙ h.may.idle.live;
          op = ap (λ (x : Memo). x.op) left ∙ h.may.idle.op;
          making = ap (λ (x : Memo). x.making) left ∙ h.may.idle.making;
          hold = own_same (Hold c) ∙ (h.may.idle.hold ∙ ap hold_word (h.may.none ∙ sym w.latch));
        };
        sent = ap (λ (x : Memo). x.sent) left;
        received = ap (λ (x : Memo). x.received) left;
        unsent = ap (λ (x : Memo). x.unsent) left;
        untaken = ap (λ (x : Memo). x.untaken) left;
        loose = ap (λ (x : Memo). is_loose x.part) left;
        own = λ p lasts unset. own_same p;
        era = (let e = own_same (Era c c) in omega arith);
        roots = λ j. inl (own_same (Root c j));
        slots = slots_same;
        values = values_same;
      }

  -- all is as it was, but for what is known
  pub visited : Visited me r0 r
  visited = record { memo = left; own = own_same; keeps = keeps; cleared = record { roots = λ j. own_same (Root c j); dying = ap (λ (x : Memo). x.dying) left }; map = λ k. ap (λ (x : Memo). map_in x.part k) left }
