-- what stays known: head slots, and words and value blocks of blocks that are named
use Rattle.std.proofs.Common.{◌≡◌, ◌≢◌, ℕ, ◌<◌, refl, sym, ap, ◌∙◌, subst, Bool, true, false, not, eqb, List, [], ◌∷◌, ◌++◌, map, inl, inr}
use Rattle.std.proofs.lemmas.Bool.{cases_Bool, cond-true, cond-false, eqb-true, or_left, true≢false, false≢true}
use Rattle.std.proofs.lemmas.List.{Elements.{All-contains, All-contains_itself, All-filter}, Folds.list_any-append}
use Rattle.std.specs.List.{Contains, filter, list_any}
use Rattle.shm_words.specs.declared.geometry.Geometry.{Geometry}
use Rattle.shm_graph.specs.declared.{spot.Spot.{Spot, TheVariants.{Home, Root, Slot, Tag, Body}}, memo.Look.Look}
use Rattle.shm_graph.specs.{declared.{memo.{Memo.Memo, Op.Op, Stored.Stored}, ask.Me.Me}, Blocks.headers}
use Rattle.shm_graph.specs.{Held.{HeldAt, IsDying, is_slot}, Ops.{cover, cover_of}}
use Rattle.shm_graph.specs.Reach.{learnt, not_at, shown, in_slot, in_slots, not_zero, named_blocks, roots_below, is_named, is_reached, is_dying, binds, sifted}
use Rattle.shm_graph.specs.{MemoAfterStore.{is_of, not_of}, Views.{view, own_word}, Core.core}
use Rattle.shm_graph.proofs.{States.{Holders.reach_counted, Reached.named_here}, StepKinds.Loads.choice}
use Rattle.shm_graph.proofs.Spots.Spotting.{same_spot_not}
use Rattle.kind_laws.proofs.Lists.{Contains-filter}
use Rattle.shm_count.specs.Proved.DyingBlocks.{dying_header}
use Rattle.shm_count.specs.Tear.Memos.{TearStays, Knows, Retains, is_slot_word, Remains}
use Rattle.kind_parts.proofs.Cores.{roots_same}
use Rattle.plans.specs.Parts.{IsHeld}

-- ---- head slots

-- what passes one test, of which each passes another one too
filter_more : {T : Type 0} (f g : T → Bool) (xs : List T) → ((x : T) → f x ≡ true → g x ≡ true) → filter f (filter g xs) ≡ filter f xs
filter_more f g [] h = refl
filter_more f g (x ∷ xs) h =
    let rest = filter_more f g xs h in
    elim (cases_Bool (f x)) [
      | inl e ↦ ap (filter f) (cond-true (g x) (x ∷ filter g xs) (filter g xs) (h x e)) ∙ (cond-true (f x) (x ∷ filter f (filter g xs)) (filter f (filter g xs)) e ∙ (ap (λ ys. x ∷ ys) rest ∙ sym (cond-true (f x) (x ∷ filter f xs) (filter f xs) e)))
      | inr n ↦ choice (λ ys. filter f ys ≡ filter f (x ∷ xs)) (g x) (x ∷ filter g xs) (filter g xs)
          (λ z. cond-false (f x) (x ∷ filter f (filter g xs)) (filter f (filter g xs)) n ∙ (rest ∙ sym (cond-false (f x) (x ∷ filter f xs) (filter f xs) n)))
          (λ z. rest ∙ sym (cond-false (f x) (x ∷ filter f xs) (filter f xs) n))
    ]

-- a slot is no word of a block, and binds
slot_not_of : (b : ℕ) (p : Spot) → is_slot p ≡ true → not (is_of b p) ≡ true
slot_not_of b (Tag d) e = absurd (false≢true e)
slot_not_of b (Body d i) e = absurd (false≢true e)
slot_not_of b _ e = refl

slot_binds : (c : ℕ) (m : Memo) (p : Spot) → is_slot p ≡ true → binds c m p ≡ true
slot_binds c m (Tag d) e = absurd (false≢true e)
slot_binds c m (Body d i) e = absurd (false≢true e)
slot_binds c m _ e = refl

-- what is known of head slots stays where another word is learnt, where a block is forgotten, and where only what binds stays
pub slots_learnt : (p : Spot) (x : ℕ) (ks : List Stored) → is_slot p ≡ false → filter is_slot_word (learnt p x ks) ≡ filter is_slot_word ks
slots_learnt p x ks n =
    cond-false (is_slot p) (record { spot = p; value = x } ∷ filter is_slot_word (filter (not_at p) ks)) (filter is_slot_word (filter (not_at p) ks)) n
    ∙ filter_more is_slot_word (not_at p) ks (λ s e. ap not (same_spot_not p s.spot (λ z. true≢false (sym e ∙ (ap is_slot (sym z) ∙ n)))))

pub slots_forgotten : (b : ℕ) (ks : List Stored) → filter is_slot_word (filter (not_of b) ks) ≡ filter is_slot_word ks
slots_forgotten b ks = filter_more is_slot_word (not_of b) ks (λ s e. slot_not_of b s.spot e)

pub slots_sifted : (c : ℕ) (m : Memo) → filter is_slot_word (sifted c m).known ≡ filter is_slot_word m.known
slots_sifted c m = filter_more is_slot_word (λ s. binds c m s.spot) m.known (λ s e. slot_binds c m s.spot e)

-- ---- what is named

none_in : (p : Spot) (x : ℕ) → is_slot p ≡ false → in_slot p x ≡ []
none_in (Slot s r k) x e = absurd (true≢false e)
none_in _ x e = refl

slots_in : (ks : List Stored) → in_slots (filter is_slot_word ks) ≡ in_slots ks
slots_in [] = refl
slots_in (s ∷ ks) =
    choice (λ ys. in_slots ys ≡ in_slot s.spot s.value ++ in_slots ks) (is_slot s.spot) (s ∷ filter is_slot_word ks) (filter is_slot_word ks)
    (λ e. ap (λ ys. in_slot s.spot s.value ++ ys) (slots_in ks))
    (λ e. slots_in ks ∙ sym (ap (λ ys. ys ++ in_slots ks) (none_in s.spot s.value e)))

-- the same blocks are named where the own reference words and the known head slots show the same
pub named_same : (c : ℕ) (m n : Memo) (b : ℕ) → ((k : ℕ) → shown n (Root c k) ≡ shown m (Root c k)) → shown n (Home c) ≡ shown m (Home c) → filter is_slot_word n.known ≡ filter is_slot_word m.known → is_named c n b ≡ is_named c m b
named_same c m n b roots home slots =
    ap (λ xs. list_any (eqb b) (filter not_zero (xs ++ shown n (Home c) ∷ in_slots n.known))) (roots_same c m n roots 16)
    ∙ (ap (λ y. list_any (eqb b) (filter not_zero (roots_below c m 16 ++ y ∷ in_slots n.known))) home
    ∙ ap (λ ys. list_any (eqb b) (filter not_zero (roots_below c m 16 ++ shown m (Home c) ∷ ys))) (sym (slots_in n.known) ∙ (ap in_slots slots ∙ slots_in m.known)))

pub named_stays : (c : ℕ) (m n : Memo) (b : ℕ) → TearStays c m n → filter is_slot_word n.known ≡ filter is_slot_word m.known → is_named c n b ≡ is_named c m b
named_stays c m n b s slots = named_same c m n b (λ k. word (Root c k) (s.own (Root c k) refl)) (word (Home c) (s.own (Home c) refl)) slots
  where
    word : (p : Spot) → own_word n.own p ≡ own_word m.own p → shown n p ≡ shown m p
    word p e = ap (λ (o : Op). cover (cover_of o) p (own_word n.own p)) (ap (λ (y : Memo). y.op) s.rest) ∙ ap (cover (cover_of m.op) p) e

-- a block that is named is in reach, so that its words bind
pub named_reached : (c : ℕ) (m : Memo) (b : ℕ) → is_named c m b ≡ true → is_reached c m b ≡ true
named_reached c m b e = list_any-append (eqb b) (named_blocks c m) (map (λ (k : Look). k.block) m.looks) ∙ or_left (is_named c m b) (list_any (eqb b) (map (λ (k : Look). k.block) m.looks)) e

pub named_binds : (c : ℕ) (m : Memo) (b : ℕ) (p : Spot) → is_named c m b ≡ true → is_of b p ≡ true → binds c m p ≡ true
named_binds c m b (Tag d) e o = or_left (is_reached c m d) (is_dying m d) (subst (λ k. is_reached c m k ≡ true) (sym (eqb-true d b o)) (named_reached c m b e))
named_binds c m b (Body d i) e o = or_left (is_reached c m d) (is_dying m d) (subst (λ k. is_reached c m k ≡ true) (sym (eqb-true d b o)) (named_reached c m b e))
named_binds c m b _ e o = refl

-- and stay known, with a value block that is named, where only what binds stays
pub named_sifted : (c : ℕ) (m : Memo) (b : ℕ) (p : Spot) (x : ℕ) → is_named c m b ≡ true → is_of b p ≡ true → Knows m p x → Knows (sifted c m) p x
named_sifted c m b p x e o k = Contains-filter (λ (s : Stored). binds c m s.spot) m.known (record { spot = p; value = x }) k (named_binds c m b p e o)

pub value_sifted : (c : ℕ) (m : Memo) (b : ℕ) → is_named c m b ≡ true → Contains m.values b → Contains (sifted c m).values b
value_sifted c m b e k = Contains-filter (is_reached c m) m.values b k (named_reached c m b e)

-- in a pool that holds no zero-count block is named
pub named_counted : (g : Geometry) (w : Spot → ℕ) (r : ℕ → Memo) (c b d : ℕ) → HeldAt g w (view r) → c < g.clients → is_named c (r c) b ≡ true → Contains (r c).dying d → b ≢ d
named_counted g w r c b d h l e dies same =
    let x : IsDying (headers w d) c = dying_header g w r c d h l dies in
    (reach_counted g w (view r) h c b l (inl (named_here g w r h c l b e))).1 (subst (λ k. (headers w k).count ≡ 0) (sym same) x.1)

-- ---- what stays known

pub retains_now : (c : ℕ) (m : Memo) → Retains c m m
retains_now c m = record { looks = inl refl; slots = refl; words = λ b p x e o k. k; values = λ b e k. k }

pub retains_then : (c : ℕ) (m n r : Memo) → TearStays c m n → Retains c m n → Retains c n r → Retains c m r
retains_then c m n r s x y =
    record {
      looks = elim y.looks [ inl e ↦ elim x.looks [ inl u ↦ inl (e ∙ u) | inr z ↦ inr (e ∙ z) ] | inr z ↦ inr z ];
      slots = y.slots ∙ x.slots;
      words = λ b p v e o k. y.words b p v (named_stays c m n b s x.slots ∙ e) o (x.words b p v e o k);
      values = λ b e k. y.values b (named_stays c m n b s x.slots ∙ e) (x.values b e k);
    }

-- where only what is known, the zero-count blocks and what the memo has of its call and of its agents differ
pub retains_core : (c : ℕ) (m n : Memo) (ks : List Stored) (ds : List ℕ) → core n ≡ core (record m { known = ks; dying = ds }) → filter is_slot_word ks ≡ filter is_slot_word m.known
    → ((b : ℕ) (p : Spot) (x : ℕ) → is_named c m b ≡ true → is_of b p ≡ true → Knows m p x → Knows n p x) → Retains c m n
retains_core c m n ks ds e slots words =
    record {
      looks = inl (ap (λ (x : Memo). x.looks) e);
      slots = ap (λ (x : Memo). filter is_slot_word x.known) e ∙ slots;
      words = words;
      values = λ b l k. subst (λ (vs : List ℕ). Contains vs b) (sym (ap (λ (x : Memo). x.values) e)) k;
    }

-- ---- what stays known of blocks that are named still

pub remains_core : (c : ℕ) (m r : Memo) → core r ≡ core m → Remains c m r
remains_core c m r e =
    record {
      looks = inl (ap (λ (x : Memo). x.looks) e);
      slots = ap (λ (x : Memo). filter is_slot_word x.known) e;
      words = λ b p x l o k. subst (λ (ks : List Stored). Contains ks (record { spot = p; value = x })) (sym (ap (λ (x : Memo). x.known) e)) k;
      values = λ b l k. subst (λ (vs : List ℕ). Contains vs b) (sym (ap (λ (x : Memo). x.values) e)) k;
    }

-- in a held state no zero-count block is named
pub held_counted : (me : Me) (m : Memo) → IsHeld me m → me.who < me.geometry.clients → (b d : ℕ) → is_named me.who m b ≡ true → Contains m.dying d → b ≢ d
held_counted me m (w, r, h, same) l b d e k = named_counted me.geometry w r me.who b d h l (subst (λ (x : Memo). is_named me.who x b ≡ true) (sym same) e) (subst (λ (x : Memo). Contains x.dying d) (sym same) k)

-- ---- head slots

-- a head slot that is known stays known
pub slot_known : (m r : Memo) (p : Spot) (x : ℕ) → filter is_slot_word r.known ≡ filter is_slot_word m.known → is_slot p ≡ true → Knows m p x → Knows r p x
slot_known m r p x e s k =
    let w : Stored = record { spot = p; value = x } in
    All-contains (Contains r.known) (filter is_slot_word r.known) w (All-filter is_slot_word (Contains r.known) r.known (All-contains_itself r.known)) (subst (λ (ks : List Stored). Contains ks w) (sym e) (Contains-filter is_slot_word m.known w k s))
