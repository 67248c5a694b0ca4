-- what a step down leaves whose slot is a word of a zero-count block: the block that the word names joins the zero-count blocks or stays counted, and the rest stays
use Rattle.std.proofs.Common.{◌≡◌, ◌≢◌, ℕ, ◌+◌, ◌-◌, ◌^◌, ◌<◌, ◌≤◌, refl, sym, ap, ◌∙◌, subst, arith, Bool, true, false, not, cond, eqb, List, [], ◌∷◌, ◌++◌, append-nil}
use Rattle.std.proofs.lemmas.Bool.{eq-eqb, ne_eqb, eqb-true, cond-true, or_right, Decides.nat_tests}
use Rattle.std.proofs.lemmas.{List.Elements.Contains-append_right, Map.Views.list_any-from_Contains}
use Rattle.std.specs.{Cmp.nat_eq_equiv, List.{Contains, filter}}
use Rattle.shm_words.specs.{Headers.header_of, declared.header.Header.Header}
use Rattle.shm_words.proofs.Words.{header_of-word, header_fits}
use Rattle.shm_graph.specs.declared.{ask.Me.Me, spot.Spot.{Spot, TheVariants.{Home, Era, Root, Tag, Body}}}
use Rattle.shm_graph.specs.declared.memo.{First.TheVariants.Committed, Memo.Memo, Op.Op}
use Rattle.shm_graph.specs.{declared.memo.{Op.TheVariants.{Nothing, Down as StepDown}, Stored.Stored}, Chains.part_set}
use Rattle.shm_graph.specs.{MemoAfterExchange.{without_made, reparted, cut}, Ops.{cover, cover_of}}
use Rattle.shm_graph.specs.Reach.{learnt, not_at, shown, is_named, is_reached, is_dying, binds, sifted}
use Rattle.shm_graph.specs.{MemoAfterStore.{is_of, not_of, with_own, written, stored_on, era_stored}, Views.own_word}
use Rattle.shm_graph.specs.Core.{core}
use Rattle.shm_graph.proofs.{StepKinds.Loads.choice, Spots.Spotting.same_spot_not}
use Rattle.kind_laws.specs.HeaderExchanges.{dying_after}
use Rattle.kind_laws.proofs.Lists.{Contains-filter}
use Rattle.kind_parts.proofs.{MemoCommits.{known_lowered, lowered_is}, Sifting.dying_more, Cores.body_word}
use Rattle.shm_count.specs.{declared.point.{Aim.TheVariants.Down, Half.TheVariants.First}, Step.Control.header_after}
use Rattle.shm_count.specs.Step.{begun, is_row, AtFirst, slot_memo, closed_memo, Done}
use Rattle.shm_count.specs.Proved.Step.Parts.{own_stays, rows_grow}
use Rattle.shm_count.specs.Proved.Retaining.{slots_learnt, slots_forgotten, slots_sifted, named_same, named_sifted, value_sifted}
use Rattle.shm_count.specs.Tear.Memos.{Knows, IsFound, Lowered, is_slot_word}

-- ---- what is known of a zero-count block stays known

-- the block of a word is a zero-count block
is_dying_here : (m : Memo) (b k : ℕ) → Contains m.dying b → eqb k b ≡ true → is_dying m k ≡ true
is_dying_here m b k has e = list_any-from_Contains nat_eq_equiv k m.dying (subst (Contains m.dying) (sym (eqb-true k b e)) has)

-- a word of a zero-count block binds
binds_dying : (c : ℕ) (m : Memo) (b : ℕ) (p : Spot) → Contains m.dying b → is_of b p ≡ true → binds c m p ≡ true
binds_dying c m b (Tag k) has e = or_right (is_reached c m k) (is_dying m k) (is_dying_here m b k has e)
binds_dying c m b (Body k j) has e = or_right (is_reached c m k) (is_dying m k) (is_dying_here m b k has e)
binds_dying c m b _ has e = refl

-- so that it stays known where only what binds stays
sifted_known : (c : ℕ) (m : Memo) (b : ℕ) (p : Spot) (x : ℕ) → Contains m.dying b → is_of b p ≡ true → Knows m p x → Knows (sifted c m) p x
sifted_known c m b p x has e k = Contains-filter (λ (s : Stored). binds c m s.spot) m.known (record { spot = p; value = x }) k (binds_dying c m b p has e)

-- a word of one block is none of another
of_other : (t b : ℕ) (p : Spot) → b ≢ t → is_of b p ≡ true → is_of t p ≡ false
of_other t b (Tag k) n e = ne_eqb k t (λ z. n (sym (eqb-true k b e) ∙ z))
of_other t b (Body k j) n e = ne_eqb k t (λ z. n (sym (eqb-true k b e) ∙ z))
of_other t b _ n e = refl

-- a word of another block stays known where a count comes down
lowered_known : (n t b : ℕ) (p : Spot) (x : ℕ) (ks : List Stored) → b ≢ t → is_of b p ≡ true → Contains ks (record { spot = p; value = x }) → Contains (known_lowered n t ks) (record { spot = p; value = x })
lowered_known n t b p x ks other e k =
    let s : Stored = record { spot = p; value = x } in
    choice (λ (ys : List Stored). Contains ys s) (eqb n 0) (filter (not_of t) ks) ks
    (λ z. Contains-filter (not_of t) ks s k (ap not (of_other t b p other e)))
    (λ z. k)

-- and so does each one where it doesn't come to 0
pub kept_lowered : (n t b : ℕ) (p : Spot) (x : ℕ) (ks : List Stored) → (eqb n 0 ≡ true → b ≢ t) → is_of b p ≡ true → Contains ks (record { spot = p; value = x }) → Contains (known_lowered n t ks) (record { spot = p; value = x })
kept_lowered n t b p x ks other e k =
    let s : Stored = record { spot = p; value = x } in
    choice (λ (ys : List Stored). Contains ys s) (eqb n 0) (filter (not_of t) ks) ks
    (λ z. Contains-filter (not_of t) ks s k (ap not (of_other t b p (other z) e)))
    (λ z. k)

-- a word stays known where another one is stored
learnt_known : (q p : Spot) (y x : ℕ) (ks : List Stored) → p ≢ q → Contains ks (record { spot = p; value = x }) → Contains (learnt q y ks) (record { spot = p; value = x })
learnt_known q p y x ks other k =
    let s : Stored = record { spot = p; value = x } in
    Contains-append_right (record { spot = q; value = y } ∷ []) (filter (not_at q) ks) s (Contains-filter (not_at q) ks s k (ap not (same_spot_not q p (λ z. other (sym z)))))

-- ---- the count

-- a count comes to 0 where it was 1
pub one_less : (k : ℕ) → k ≢ 0 → eqb (k - 1) 0 ≡ eqb k 1
one_less k n = grind (arith, nat_tests)

-- the header that is stored shows one reference less
pub count_less : (me : Me) (t e w : ℕ) → me.who < 64 → e < 2 ^ 47 → (header_of w).count ≢ 0 → (header_of (header_after me (Down t) e First w)).count ≡ (header_of w).count - 1
count_less me t e w who era some =
    let h = header_fits w in
    let count = h.count in
    let y : Header = record { live = true; client = me.who; count = (header_of w).count - 1; era = e } in
    ap (λ (x : Header). x.count) (header_of-word y (record { client = who; count = omega arith; era = era }))

-- the block joins the zero-count blocks or not
pub joined : (z : Bool) (t : ℕ) (bs : List ℕ) → cond z (bs ++ t ∷ []) bs ≡ bs ++ cond z (t ∷ []) []
joined true t bs = refl
joined false t bs = sym (append-nil bs)

-- ---- the memo that is left

module _ (c d i t e n : ℕ) (q : Memo) where
  -- the memo once the step is committed, but for what binds no more: the count of block t is n then
  abbrev lowers : Memo
  lowers =
      let m : Memo = cut c (Body d i) (reparted c (record q { op = StepDown Committed (Body d i) t e; made = without_made q t }) (Body d i) 0) in
      record m { dying = dying_after n t m.dying; known = known_lowered n t m.known }

  -- the memo once the word is stored
  abbrev clears : Memo
  clears = let m : Memo = sifted c lowers in record (written m) { known = learnt (Body d i) 0 m.known }

  -- the memo once the own era is stored, but for what binds no more
  abbrev closes : Memo
  closes = record (with_own clears (Era c c) (e + 1)) { op = Nothing; looks = [] }

  -- what is known of another zero-count block stays known
  closes_known : (b : ℕ) (p : Spot) (x : ℕ) → Contains q.dying b → b ≢ t → is_of b p ≡ true → p ≢ Body d i → Knows q p x → Knows (sifted c closes) p x
  closes_known b p x has other e away k =
      let more : Contains (dying_after n t q.dying) b = dying_more n t q.dying b has in
      sifted_known c closes b p x more e
      (learnt_known (Body d i) p 0 x (sifted c lowers).known away
      (sifted_known c lowers b p x more e (lowered_known n t b p x q.known other e k)))

  -- and the word is known to be 0
  closes_cleared : Contains q.dying d → Knows (sifted c closes) (Body d i) 0
  closes_cleared has = sifted_known c closes d (Body d i) 0 (dying_more n t q.dying d has) (eq-eqb d d refl) (0, omega arith, refl)

  -- what is known of head slots stays known
  lowers_slots : filter is_slot_word lowers.known ≡ filter is_slot_word q.known
  lowers_slots = choice (λ (ks : List Stored). filter is_slot_word ks ≡ filter is_slot_word q.known) (eqb n 0) (filter (not_of t) q.known) q.known (λ z. slots_forgotten t q.known) (λ z. refl)

  clears_slots : filter is_slot_word clears.known ≡ filter is_slot_word q.known
  clears_slots = slots_learnt (Body d i) 0 (sifted c lowers).known refl ∙ (slots_sifted c lowers ∙ lowers_slots)

-- a step down at a word of a block leaves that memo, without what binds no more
leaves_is : (me : Me) (d i t e w : ℕ) (q : Memo) → ◌≡◌ {A = Memo} (closed_memo me e (slot_memo me (Down t) (Body d i) e q w)) (sifted me.who (closes me.who d i t e (header_of (header_after me (Down t) e First w)).count q))
leaves_is me d i t e w q =
    let c = me.who in
    let p : Spot = Body d i in
    let n : ℕ = (header_of (header_after me (Down t) e First w)).count in
    let m : Memo = cut c p (reparted c (record q { op = StepDown Committed p t e; made = without_made q t }) p 0) in
    let s : Memo = sifted c (lowers c d i t e n q) in
    let x : Memo = clears c d i t e n q in
    ◌∙◌ (ap (λ (y : Memo). closed_memo me e (stored_on me.geometry c (sifted c y) p 0)) {y = lowers c d i t e n q} (lowered_is n t m))
    (◌∙◌ (ap (closed_memo me e) {y = x} (body_word me.geometry c d i 0 s (refl, refl)))
    (cond-true (eqb c c) (era_stored c x (Era c c) (e + 1)) (with_own x (Era c c) (e + 1)) (eq-eqb c c refl)))

-- ---- what is named

module _ (me : Me) (slot d i t e n : ℕ) (m q : Memo) (first : AtFirst me slot (Down t) (Body d i) m q e) (idle : m.op ≡ Nothing) where
  abbrev who : ℕ
  who = me.who

  shown_first : (p : Spot) → is_row who p ≡ false → own_word (begun me slot (Down t) (Body d i) e m).own p ≡ own_word m.own p → own_word q.own p ≡ shown m p
  shown_first p o k = first.1.own p o ∙ (k ∙ ap (λ (x : Op). cover (cover_of x) p (own_word m.own p)) (sym idle))

  known_first : q.known ≡ m.known
  known_first = ap (λ (y : Memo). y.known) first.1.rest

  -- the same blocks are named once the step is committed, and once it is closed
  lowers_named : (b : ℕ) → is_named who (lowers who d i t e n q) b ≡ is_named who m b
  lowers_named b = named_same who m (lowers who d i t e n q) b (λ k. shown_first (Root who k) refl refl) (shown_first (Home who) refl refl) (lowers_slots who d i t e n q ∙ ap (filter is_slot_word) known_first)

  closes_named : (b : ℕ) → is_named who (closes who d i t e n q) b ≡ is_named who m b
  closes_named b = named_same who m (closes who d i t e n q) b (λ k. shown_first (Root who k) refl refl) (shown_first (Home who) refl refl) (clears_slots who d i t e n q ∙ ap (filter is_slot_word) known_first)

  -- so that what is known of another block that is named stays known
  closes_words : (b : ℕ) (p : Spot) (x : ℕ) → is_named who m b ≡ true → b ≢ d → (eqb n 0 ≡ true → b ≢ t) → is_of b p ≡ true → Knows m p x → Knows (sifted who (closes who d i t e n q)) p x
  closes_words b p x named apart other o k =
      named_sifted who (closes who d i t e n q) b p x (closes_named b ∙ named) o
      (learnt_known (Body d i) p 0 x (sifted who (lowers who d i t e n q)).known (λ z. apart (sym (eqb-true d b (sym (ap (is_of b) z) ∙ o))))
      (named_sifted who (lowers who d i t e n q) b p x (lowers_named b ∙ named) o
      (kept_lowered n t b p x q.known other o (subst (λ (s : List Stored). Contains s (record { spot = p; value = x })) (sym known_first) k))))

  -- and a value block that is named stays one
  closes_values : (b : ℕ) → is_named who m b ≡ true → Contains m.values b → Contains (sifted who (closes who d i t e n q)).values b
  closes_values b named k =
      value_sifted who (closes who d i t e n q) b (closes_named b ∙ named)
      (value_sifted who (lowers who d i t e n q) b (lowers_named b ∙ named)
      (subst (λ (s : List ℕ). Contains s b) (sym (ap (λ (y : Memo). y.values) first.1.rest)) k))

-- ---- the partition

module _ (me : Me) (slot d i t e w : ℕ) (m q : Memo) (first : AtFirst me slot (Down t) (Body d i) m q e) where
  -- the partition stays where none is read from the word
  part_stays : m.op ≡ Nothing → part_set m.known me.who (shown m (Home me.who)) (Body d i) 0 m.part ≡ m.part → part_set q.known me.who (own_word q.own (Home me.who)) (Body d i) 0 q.part ≡ m.part
  part_stays idle same =
      let c = me.who in
      let p : Spot = Body d i in
      let home : own_word q.own (Home c) ≡ shown m (Home c) = first.1.own (Home c) refl ∙ ap (λ (o : Op). cover (cover_of o) (Home c) (own_word m.own (Home c))) (sym idle) in
      ap (λ (y : Memo). part_set y.known c (own_word q.own (Home c)) p 0 y.part) first.1.rest
      ∙ (ap (λ y. part_set m.known c y p 0 m.part) home ∙ same)

-- ---- all

-- what a step down that is done leaves, where its slot is a word of a zero-count block that names t: t lowered, and the word cleared
pub down_leaves : (me : Me) (slot d i t : ℕ) (m r : Memo) (z : Bool) → me.who < 64 → own_word m.own (Era me.who me.who) < 2 ^ 47 → m.op ≡ Nothing → Contains m.dying d → IsFound me m d i t → Done me slot (Down t) (Body d i) m r z → Lowered me.who d i t z m r
down_leaves me slot d i t m r z who era idle has found (e, q, w, first, some, same, spent) =
    let c = me.who in
    let n : ℕ = (header_of (header_after me (Down t) e First w)).count in
    let less : n ≡ (header_of w).count - 1 = count_less me t e w who (subst (λ y. y < 2 ^ 47) (sym first.0) era) some in
    let f : Memo = sifted c (closes c d i t e n q) in
    let left : core r ≡ core f = same ∙ ap core {y = f} (leaves_is me d i t e w q) in
    let b : core q ≡ core (record (begun me slot (Down t) (Body d i) e m) { own = q.own }) = first.1.rest in
    let dying : q.dying ≡ m.dying = ap (λ (y : Memo). y.dying) b in
    let known : q.known ≡ m.known = ap (λ (y : Memo). y.known) b in
    let own : r.own ≡ f.own = ap (λ (y : Memo). y.own) left in
    let fell : eqb n 0 ≡ z = ap (λ k. eqb k 0) less ∙ (one_less (header_of w).count some ∙ sym spent) in
    let same_status : r.status ≡ m.status = ap (λ (y : Memo). y.status) left ∙ ap (λ (y : Memo). y.status) b in
    let same_op : r.op ≡ m.op = ap (λ (y : Memo). y.op) left ∙ sym idle in
    let same_latch : r.latch ≡ m.latch = ap (λ (y : Memo). y.latch) left ∙ ap (λ (y : Memo). y.latch) b in
    let same_making : r.making ≡ m.making = ap (λ (y : Memo). y.making) left ∙ ap (λ (y : Memo). y.making) b in
    let same_owned : r.owned ≡ m.owned = ap (λ (y : Memo). y.owned) left ∙ ap (λ (y : Memo). y.owned) b in
    let same_sent : r.sent ≡ m.sent = ap (λ (y : Memo). y.sent) left ∙ ap (λ (y : Memo). y.sent) b in
    let same_unsent : r.unsent ≡ m.unsent = ap (λ (y : Memo). y.unsent) left ∙ ap (λ (y : Memo). y.unsent) b in
    let same_received : r.received ≡ m.received = ap (λ (y : Memo). y.received) left ∙ ap (λ (y : Memo). y.received) b in
    let same_untaken : r.untaken ≡ m.untaken = ap (λ (y : Memo). y.untaken) left ∙ ap (λ (y : Memo). y.untaken) b in
    let same_part : r.part ≡ m.part = ap (λ (y : Memo). y.part) left ∙ part_stays me slot d i t e w m q first idle found.part in
    record {
      stays = record {
        rest = rw (same_status, same_op, same_latch, same_making, same_owned, same_sent, same_unsent, same_received, same_untaken, same_part) refl;
        own = λ p l. ap (λ (s : List Stored). own_word s p) own ∙ own_stays me slot (Down t) (Body d i) e m q first p l;
        rows = λ j. subst (λ (s : List Stored). own_word m.own (Era c j) ≤ own_word s (Era c j)) (sym own) (rows_grow me slot (Down t) (Body d i) e m q first j);
      };
      dying =
          ap (λ (y : Memo). y.dying) left
          ∙ (ap (dying_after n t) dying
          ∙ (ap (λ y. cond y (m.dying ++ t ∷ []) m.dying) (ap (λ k. eqb k 0) less ∙ (one_less (header_of w).count some ∙ sym spent))
          ∙ joined z t m.dying));
      known = λ k in_it other p x of away knows. subst (λ (s : List Stored). Contains s (record { spot = p; value = x })) (sym (ap (λ (y : Memo). y.known) left))
          (closes_known c d i t e n q k p x (subst (λ s. Contains s k) (sym dying) in_it) other of away (subst (λ (s : List Stored). Contains s (record { spot = p; value = x })) (sym known) knows));
      cleared = subst (λ (s : List Stored). Contains s (record { spot = Body d i; value = 0 })) (sym (ap (λ (y : Memo). y.known) left))
          (closes_cleared c d i t e n q (subst (λ s. Contains s d) (sym dying) has));
      looks = ap (λ (y : Memo). y.looks) left;
      slots = ap (λ (y : Memo). filter is_slot_word y.known) left ∙ (slots_sifted c (closes c d i t e n q) ∙ (clears_slots c d i t e n q ∙ ap (filter is_slot_word) known));
      words = λ k p x named apart other of knows. subst (λ (s : List Stored). Contains s (record { spot = p; value = x })) (sym (ap (λ (y : Memo). y.known) left))
          (closes_words me slot d i t e n m q first idle k p x named apart (λ u. other (sym fell ∙ u)) of knows);
      values = λ k named has. subst (λ (s : List ℕ). Contains s k) (sym (ap (λ (y : Memo). y.values) left)) (closes_values me slot d i t e n m q first idle k named has);
    }
