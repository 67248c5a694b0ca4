-- What stays in reach of a client where its roots and its looks come to be more.
use Rattle.std.proofs.Common.{◌≡◌, ◌≢◌, ℕ, zero, suc, ◌<◌, true, not, List, [], ◌∷◌, ◌++◌, map, append_assoc, refl, sym, ap, ◌∙◌, subst, arith, inl, inr, eqb}
use Rattle.std.proofs.lemmas.{Bool.{eqb-true, eq-eqb, ne_eqb, or_left, false≢true}, List.map-append}
use Rattle.std.proofs.lemmas.List.{Elements.{Contains-append_cases, Contains-append_right}, Folds.list_any-append}
use Rattle.std.proofs.lemmas.Map.Views.{Contains-from_any, list_any-from_Contains}
use Rattle.std.specs.{Cmp.nat_eq_equiv, List.{Contains, filter, list_any}}
use Rattle.shm_graph.specs.declared.memo.{Look.Look, Memo.Memo, Op.{Op, TheVariants.Nothing}, Stored.Stored}
use Rattle.shm_graph.specs.{declared.spot.Spot.{Spot, TheVariants.{Home, Root}}, Ops.{cover, cover_of}}
use Rattle.shm_graph.specs.Reach.{in_slot, in_slots, is_reached, named_blocks, not_zero, reached_blocks, roots_below, shown}
use Rattle.shm_graph.specs.Views.{own_word}
use Rattle.kind_laws.proofs.Lists.{Contains-filter, filter_from}
use Rattle.kind_parts.proofs.Reaching.{home_reached, look_reached, root_reached}
use Rattle.shm_count.specs.{Proved.Retaining.{named_reached, named_same}, Tear.Memos.is_slot_word}

-- the looks came to be more
looks_more : (c : ℕ) (m n : Memo) (ls : List Look) (d : ℕ) → n.looks ≡ m.looks ++ ls → Contains (map (λ (k : Look). k.block) m.looks) d → is_reached c n d ≡ true
looks_more c m n ls d looks h =
    look_reached c n d
    (ap (λ (ks : List Look). list_any (eqb d) (map (λ (k : Look). k.block) ks)) looks
    ∙ (ap (list_any (eqb d)) (map-append (λ (k : Look). k.block) m.looks ls)
    ∙ (list_any-append (eqb d) (map (λ (k : Look). k.block) m.looks) (map (λ (k : Look). k.block) ls)
    ∙ or_left (list_any (eqb d) (map (λ (k : Look). k.block) m.looks)) (list_any (eqb d) (map (λ (k : Look). k.block) ls)) (list_any-from_Contains nat_eq_equiv d (map (λ (k : Look). k.block) m.looks) h))))

-- the own reference words and known head slots are as they were
pub reach_same_words : (c : ℕ) (m n : Memo) (ls : List Look) (d : ℕ) → m.op ≡ Nothing → n.op ≡ Nothing → ((k : ℕ) → own_word n.own (Root c k) ≡ own_word m.own (Root c k)) → own_word n.own (Home c) ≡ own_word m.own (Home c) → filter is_slot_word n.known ≡ filter is_slot_word m.known → n.looks ≡ m.looks ++ ls → is_reached c m d ≡ true → is_reached c n d ≡ true
reach_same_words c m n ls d mi ni roots home slots looks reach =
    elim (Contains-append_cases (named_blocks c m) (map (λ (k : Look). k.block) m.looks) d (Contains-from_any eqb-true d (reached_blocks c m) reach)) [
      | inl h ↦ named_reached c n d (named_same c m n d (λ k. word (Root c k) (roots k)) (word (Home c) home) slots ∙ list_any-from_Contains nat_eq_equiv d (named_blocks c m) h)
      | inr h ↦ looks_more c m n ls d looks h
    ]
  where
    word : (p : Spot) → own_word n.own p ≡ own_word m.own p → shown n p ≡ shown m p
    word p e = ap (λ (o : Op). cover (cover_of o) p (own_word n.own p)) ni ∙ (e ∙ sym (ap (λ (o : Op). cover (cover_of o) p (own_word m.own p)) mi))

-- a root that names a block
root_found : (c : ℕ) (m : Memo) (n d : ℕ) → Contains (roots_below c m n) d → (k : ℕ) × (k < n) × (shown m (Root c k) ≡ d)
root_found c m zero d h = absurd (let l = h.1 in omega arith)
root_found c m (suc n) d h =
    elim (Contains-append_cases (shown m (Root c n) ∷ []) (roots_below c m n) d h) [
      | inl y ↦ (n, omega arith, here y)
      | inr y ↦ (let x = root_found c m n d y in let l = x.1 in (x.0, omega arith, x.2))
    ]
  where
    here : Contains (shown m (Root c n) ∷ []) d → shown m (Root c n) ≡ d
    here (zero, l, e) = e
    here (suc k, l, e) = absurd (omega arith)

in_slots_append : (xs ys : List Stored) → in_slots (xs ++ ys) ≡ in_slots xs ++ in_slots ys
in_slots_append [] ys = refl
in_slots_append (x ∷ xs) ys = ap (λ zs. in_slot x.spot x.value ++ zs) (in_slots_append xs ys) ∙ sym (append_assoc (in_slot x.spot x.value) (in_slots xs) (in_slots ys))

-- roots that named a block name it still, the home is as it was, and more words are known
pub reach_grows : (c : ℕ) (m n : Memo) (ks : List Stored) (ls : List Look) (d : ℕ) → m.op ≡ Nothing → n.op ≡ Nothing → ((k : ℕ) → own_word m.own (Root c k) ≢ 0 → own_word n.own (Root c k) ≡ own_word m.own (Root c k)) → own_word n.own (Home c) ≡ own_word m.own (Home c) → n.known ≡ ks ++ m.known → n.looks ≡ m.looks ++ ls → is_reached c m d ≡ true → is_reached c n d ≡ true
reach_grows c m n ks ls d mi ni roots home known looks reach =
    elim (Contains-append_cases (named_blocks c m) (map (λ (k : Look). k.block) m.looks) d (Contains-from_any eqb-true d (reached_blocks c m) reach)) [
      | inl h ↦ named (filter_from not_zero (roots_below c m 16 ++ shown m (Home c) ∷ in_slots m.known) d h)
      | inr h ↦ looks_more c m n ls d looks h
    ]
  where
    shown_word : (p : Spot) → shown m p ≡ own_word m.own p
    shown_word p = ap (λ (o : Op). cover (cover_of o) p (own_word m.own p)) mi

    some : not_zero d ≡ true → d ≢ 0
    some e z = absurd (false≢true (sym (ap not (eq-eqb d 0 z)) ∙ e))

    slots_named : Contains (in_slots m.known) d → d ≢ 0 → is_reached c n d ≡ true
    slots_named h nz =
        let all : List ℕ = roots_below c n 16 ++ shown n (Home c) ∷ in_slots n.known in
        let slots : Contains (in_slots n.known) d = subst (λ xs. Contains xs d) (sym (ap in_slots known ∙ in_slots_append ks m.known)) (Contains-append_right (in_slots ks) (in_slots m.known) d h) in
        let in_all : Contains all d = Contains-append_right (roots_below c n 16) (shown n (Home c) ∷ in_slots n.known) d (Contains-append_right (shown n (Home c) ∷ []) (in_slots n.known) d slots) in
        named_reached c n d (list_any-from_Contains nat_eq_equiv d (named_blocks c n) (Contains-filter not_zero all d in_all (ap not (ne_eqb d 0 nz))))

    others : Contains (shown m (Home c) ∷ in_slots m.known) d → d ≢ 0 → is_reached c n d ≡ true
    others h nz =
        elim (Contains-append_cases (shown m (Home c) ∷ []) (in_slots m.known) d h) [
          | inl y ↦ home_reached c n d ni (home ∙ (sym (shown_word (Home c)) ∙ only (shown m (Home c)) y)) nz
          | inr y ↦ slots_named y nz
        ]
      where
        only : (x : ℕ) → Contains (x ∷ []) d → x ≡ d
        only x (zero, l, e) = e
        only x (suc k, l, e) = absurd (omega arith)

    named : Contains (roots_below c m 16 ++ shown m (Home c) ∷ in_slots m.known) d × (not_zero d ≡ true) → is_reached c n d ≡ true
    named (h, e) =
        elim (Contains-append_cases (roots_below c m 16) (shown m (Home c) ∷ in_slots m.known) d h) [
          | inl y ↦ (let x = root_found c m 16 d y in
              let is : own_word m.own (Root c x.0) ≡ d = sym (shown_word (Root c x.0)) ∙ x.2 in
              root_reached c n d x.0 x.1 ni (roots x.0 (λ z. some e (sym is ∙ z)) ∙ is) (some e))
          | inr y ↦ others y (some e)
        ]
