-- the memo of an identity once a tag and a reference word of an own block were read under the own latch: what is proved of it
use Rattle.std.proofs.Common.{◌≡◌, ◌≢◌, ℕ, refl, sym, ap, ◌∙◌, subst, arith, true, false, eqb, ◌||◌, List, [], ◌∷◌, ◌++◌, map, inl, inr, append-nil}
use Rattle.std.proofs.lemmas.{Bool.{cond-false, eq-eqb, eqb-true, ne_eqb, or_left, or_right}, List.map-append}
use Rattle.std.proofs.lemmas.List.{Elements.{Contains-append_cases, Contains-append_right}, Folds.list_any-append}
use Rattle.std.proofs.lemmas.Map.Views.{Contains-from_any, list_any-from_Contains}
use Rattle.std.specs.{Cmp.nat_eq_equiv, List.{Contains, filter, list_any}}
use Rattle.shm_graph.specs.declared.{memo.{Look.Look, Memo.Memo, Stored.Stored}, spot.Spot.Spot}
use Rattle.shm_graph.specs.{declared.spot.Spot.TheVariants.{Body, Home, Root, Tag}, Core.core, Ops.{cover, cover_of}}
use Rattle.shm_graph.specs.Reach.{is_reached, learnt, named_blocks, not_at, reached_blocks, shown}
use Rattle.shm_graph.specs.{MemoAfterRead.{reference_read, values_read}, Views.own_word}
use Rattle.shm_graph.proofs.StepKinds.Loads.{choice}
use Rattle.kind_laws.proofs.Lists.{Contains-filter}
use Rattle.kind_parts.proofs.{Cores.core_cond, Reaching.look_reached}
use Rattle.shm_count.specs.Proved.Retaining.{named_reached, named_same, slots_learnt}
use Rattle.shm_count.specs.Tear.Memos.{Knows, is_slot_word}
use Rattle.shm_ref.specs.SetRef.Memos.{tag_seen, word_seen}

-- what a reference word that was read leaves is in the core
reference_of_core : (b k x : ℕ) (m : Memo) → core (reference_read m b k x) ≡ core (reference_read (core m) b k x)
reference_of_core b k x m = core_cond (eqb x 0) (record m { known = learnt (Body b k) x m.known }) (record m { looks = m.looks ++ record { block = x; from = Body b k } ∷ []; known = learnt (Body b k) x m.known; values = values_read m b k x }) _ _ refl refl

pub reference_core : (b k x : ℕ) (m n : Memo) → core m ≡ core n → core (reference_read m b k x) ≡ core (reference_read n b k x)
reference_core b k x m n same = reference_of_core b k x m ∙ (ap (λ (y : Memo). core (reference_read y b k x)) same ∙ sym (reference_of_core b k x n))

-- a memo in which blocks are in reach, and looks come to be more, has them in reach still
pub reached_more : (c : ℕ) (m n : Memo) (ls : List Look) (d : ℕ) → n.own ≡ m.own → n.op ≡ m.op → filter is_slot_word n.known ≡ filter is_slot_word m.known → n.looks ≡ m.looks ++ ls → is_reached c m d ≡ true → is_reached c n d ≡ true
reached_more c m n ls d own op slots looks reach =
    elim (Contains-append_cases (named_blocks c m) (map (λ (k : Look). k.block) m.looks) d (Contains-from_any eqb-true d (reached_blocks c m) reach)) [
      | inl h ↦ named_reached c n d (named_same c m n d (λ k. word (Root c k)) (word (Home c)) slots ∙ list_any-from_Contains nat_eq_equiv d (named_blocks c m) h)
      | inr h ↦ look_reached c n d
          (ap (λ (ks : List Look). list_any (eqb d) (map (λ (k : Look). k.block) ks)) looks
          ∙ (ap (list_any (eqb d)) (map-append (λ (k : Look). k.block) m.looks ls)
          ∙ (list_any-append (eqb d) (map (λ (k : Look). k.block) m.looks) (map (λ (k : Look). k.block) ls)
          ∙ or_left (list_any (eqb d) (map (λ (k : Look). k.block) m.looks)) (list_any (eqb d) (map (λ (k : Look). k.block) ls)) (list_any-from_Contains nat_eq_equiv d (map (λ (k : Look). k.block) m.looks) h))))
    ]
  where
    word : (p : Spot) → shown n p ≡ shown m p
    word p = ap (λ o. cover (cover_of o) p (own_word n.own p)) op ∙ ap (λ s. cover (cover_of m.op) p (own_word s p)) own

module _ (b k t x : ℕ) (m : Memo) where
  abbrev seen : Memo
  seen = word_seen b k t x m

  -- what holds where the word names no block, and where it does
  by_word : (P : Memo → Type 0) → P (record (tag_seen b t m) { known = learnt (Body b k) x (tag_seen b t m).known })
      → P (record (tag_seen b t m) { looks = m.looks ++ record { block = x; from = Body b k } ∷ []; known = learnt (Body b k) x (tag_seen b t m).known; values = values_read (tag_seen b t m) b k x }) → P seen
  by_word P none some =
      choice P (eqb x 0) (record (tag_seen b t m) { known = learnt (Body b k) x (tag_seen b t m).known })
      (record (tag_seen b t m) { looks = m.looks ++ record { block = x; from = Body b k } ∷ []; known = learnt (Body b k) x (tag_seen b t m).known; values = values_read (tag_seen b t m) b k x }) (λ e. none) (λ e. some)

  pub seen_known : seen.known ≡ learnt (Body b k) x (learnt (Tag b) t m.known)
  seen_known = by_word (λ y. y.known ≡ learnt (Body b k) x (learnt (Tag b) t m.known)) refl refl

  pub seen_own : seen.own ≡ m.own
  seen_own = by_word (λ y. y.own ≡ m.own) refl refl

  pub seen_op : seen.op ≡ m.op
  seen_op = by_word (λ y. y.op ≡ m.op) refl refl

  pub seen_status : seen.status ≡ m.status
  seen_status = by_word (λ y. y.status ≡ m.status) refl refl

  pub seen_latch : seen.latch ≡ m.latch
  seen_latch = by_word (λ y. y.latch ≡ m.latch) refl refl

  pub seen_dying : seen.dying ≡ m.dying
  seen_dying = by_word (λ y. y.dying ≡ m.dying) refl refl

  pub seen_part : seen.part ≡ m.part
  seen_part = by_word (λ y. y.part ≡ m.part) refl refl

  -- the word and the tag are known
  pub seen_word : Knows seen (Body b k) x
  seen_word = subst (λ (ks : List Stored). Contains ks (record { spot = Body b k; value = x })) (sym seen_known) (0, omega arith, refl)

  pub seen_tag : Knows seen (Tag b) t
  seen_tag =
      let w : Stored = record { spot = Tag b; value = t } in
      let ks : List Stored = learnt (Tag b) t m.known in
      subst (λ (us : List Stored). Contains us w) (sym seen_known)
      (Contains-append_right (record { spot = Body b k; value = x } ∷ []) (filter (not_at (Body b k)) ks) w (Contains-filter (not_at (Body b k)) ks w (0, omega arith, refl) refl))

  -- what was in reach is so still
  pub seen_reached : (c d : ℕ) → is_reached c m d ≡ true → is_reached c seen d ≡ true
  seen_reached c d reach =
      let slots : filter is_slot_word (learnt (Body b k) x (learnt (Tag b) t m.known)) ≡ filter is_slot_word m.known = slots_learnt (Body b k) x (learnt (Tag b) t m.known) refl ∙ slots_learnt (Tag b) t m.known refl in
      by_word (λ y. is_reached c y d ≡ true)
      (reached_more c m (record (tag_seen b t m) { known = learnt (Body b k) x (tag_seen b t m).known }) [] d refl refl slots (sym (append-nil m.looks)) reach)
      (reached_more c m (record (tag_seen b t m) { looks = m.looks ++ record { block = x; from = Body b k } ∷ []; known = learnt (Body b k) x (tag_seen b t m).known; values = values_read (tag_seen b t m) b k x }) (record { block = x; from = Body b k } ∷ []) d refl refl slots refl reach)

  -- and so is the block that the word names
  pub seen_block : (c : ℕ) → x ≢ 0 → is_reached c seen x ≡ true
  seen_block c some =
      let looks : seen.looks ≡ m.looks ++ record { block = x; from = Body b k } ∷ [] =
      ap (λ (y : Memo). y.looks) (cond-false (eqb x 0) (record (tag_seen b t m) { known = learnt (Body b k) x (tag_seen b t m).known }) (record (tag_seen b t m) { looks = m.looks ++ record { block = x; from = Body b k } ∷ []; known = learnt (Body b k) x (tag_seen b t m).known; values = values_read (tag_seen b t m) b k x }) (ne_eqb x 0 some)) in
      look_reached c seen x
      (ap (λ (ks : List Look). list_any (eqb x) (map (λ (u : Look). u.block) ks)) looks
      ∙ (ap (list_any (eqb x)) (map-append (λ (u : Look). u.block) m.looks (record { block = x; from = Body b k } ∷ []))
      ∙ (list_any-append (eqb x) (map (λ (u : Look). u.block) m.looks) (x ∷ [])
      ∙ or_right (list_any (eqb x) (map (λ (u : Look). u.block) m.looks)) (eqb x x || false) (or_left (eqb x x) false (eq-eqb x x refl)))))

-- once the tag was read, what was in reach is so still
pub tag_reached : (c b t d : ℕ) (m : Memo) → is_reached c m d ≡ true → is_reached c (tag_seen b t m) d ≡ true
tag_reached c b t d m reach = reached_more c m (tag_seen b t m) [] d refl refl (slots_learnt (Tag b) t m.known refl) (sym (append-nil m.looks)) reach
