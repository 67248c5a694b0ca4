-- chains of entries: what they are once one reference word has changed
use Rattle.std.proofs.Common.{◌≡◌, ◌≢◌, ℕ, zero, suc, ◌%◌, refl, sym, ap, ◌∙◌, subst, arith, true, false, eqb, List, [], ◌∷◌, ◌++◌, map, get_or, Option, Some, None, inl, inr, nat_eq}
use Rattle.std.proofs.lemmas.Bool.{cases_Bool, eq-eqb, ne_eqb, cond-true, cond-false, false≢true, true≢false}
use Rattle.std.specs.List.{IsDistinct, AllByRecursion}
use Rattle.shm_words.specs.Tags.{tag_refs}
use Rattle.shm_graph.specs.declared.{spot.Spot.TheVariants.Body, memo.Stored.Stored, table.Entry.Entry}
use Rattle.shm_graph.specs.Tables.{Contents, HasShape, IsEntry, IsChain, find}
use Rattle.shm_graph.specs.Chains.{word_known, entry_known, chain_from, or_linked, relinked, chain_set, bucket_set}
use Rattle.kind_parts.specs.Reparting.{link_after}

-- ---- keys

-- a key that isn't found in a list isn't that of its first entry, and isn't found in the rest
pub found_not : (key : ℕ) (e : Entry) (es : List Entry) → find key (e ∷ es) ≡ None → (e.key ≢ key) × (find key es ≡ None)
found_not key e es h =
    elim (cases_Bool (eqb e.key key)) [
      | inl y ↦ (let z : ◌≡◌ {A = Option (ℕ × ℕ)} (Some (e.number, e.value)) None = sym (cond-true (eqb e.key key) (Some (e.number, e.value)) (find key es) y) ∙ h in absurd (cc))
      | inr n ↦ ((λ z. false≢true (sym n ∙ eq-eqb e.key key z)), sym (cond-false (eqb e.key key) (Some (e.number, e.value)) (find key es) n) ∙ h)
    ]

pub not_found : (key : ℕ) (e : Entry) (es : List Entry) → e.key ≢ key → find key (e ∷ es) ≡ find key es
not_found key e es n = cond-false (eqb e.key key) (Some (e.number, e.value)) (find key es) (ne_eqb e.key key n)

pub found_here : (key : ℕ) (e : Entry) (es : List Entry) → e.key ≡ key → find key (e ∷ es) ≡ Some (e.number, e.value)
found_here key e es n = cond-true (eqb e.key key) (Some (e.number, e.value)) (find key es) (eq-eqb e.key key n)

-- each entry's key differs from those of the entries after it
abbrev pub AreKeyed : List Entry → Type 0
AreKeyed [] = Unit {0}
AreKeyed (e ∷ es) = (find e.key es ≡ None) × AreKeyed es

-- which is to say that the keys are distinct
none_found : (k : ℕ) (es : List Entry) → AllByRecursion (λ y. nat_eq k y ≡ false) (map (λ (e : Entry). e.key) es) → find k es ≡ None
none_found k [] h = refl
none_found k (e ∷ es) h = not_found k e es (λ z. true≢false (sym (eq-eqb k e.key (sym z)) ∙ h.0)) ∙ none_found k es h.1

found_none : (k : ℕ) (es : List Entry) → find k es ≡ None → AllByRecursion (λ y. nat_eq k y ≡ false) (map (λ (e : Entry). e.key) es)
found_none k [] h = tt
found_none k (e ∷ es) h = let q = found_not k e es h in (ne_eqb k e.key (λ z. q.0 (sym z)), found_none k es q.1)

pub keyed : (es : List Entry) → IsDistinct nat_eq (map (λ (e : Entry). e.key) es) → AreKeyed es
unfolding IsDistinct
keyed [] h = tt
keyed (e ∷ es) h = (none_found e.key es h.0, keyed es h.1)

pub keyed_distinct : (es : List Entry) → AreKeyed es → IsDistinct nat_eq (map (λ (e : Entry). e.key) es)
unfolding IsDistinct
keyed_distinct [] h = tt
keyed_distinct (e ∷ es) h = (found_none e.key es h.0, keyed_distinct es h.1)

-- a key that isn't found in a list isn't found in its parts, and the other way round
pub found_parts : (key : ℕ) (xs ys : List Entry) → find key (xs ++ ys) ≡ None → (find key xs ≡ None) × (find key ys ≡ None)
found_parts key [] ys h = (refl, h)
found_parts key (e ∷ xs) ys h =
    let q = found_not key e (xs ++ ys) h in
    let p = found_parts key xs ys q.1 in
    (not_found key e xs q.0 ∙ p.0, p.1)

pub found_joined : (key : ℕ) (xs ys : List Entry) → find key xs ≡ None → find key (xs ++ ys) ≡ find key ys
found_joined key [] ys h = refl
found_joined key (e ∷ xs) ys h = let q = found_not key e xs h in not_found key e (xs ++ ys) q.0 ∙ found_joined key xs ys q.1

-- without one entry keys are distinct still, and that entry's key is none of them
pub keyed_drop : (xs : List Entry) (e : Entry) (ys : List Entry) → AreKeyed (xs ++ e ∷ ys) → AreKeyed (xs ++ ys) × (find e.key (xs ++ ys) ≡ None)
keyed_drop [] e ys h = (h.1, h.0)
keyed_drop (x ∷ xs) e ys h =
    let p = found_parts x.key xs (e ∷ ys) h.0 in
    let q = found_not x.key e ys p.1 in
    let r = keyed_drop xs e ys h.1 in
    ((found_joined x.key xs ys p.0 ∙ q.1, r.0), not_found e.key x (xs ++ ys) (λ z. q.0 (sym z)) ∙ r.1)

-- another entry with the same key in its place
pub keyed_put : (xs : List Entry) (e e' : Entry) (ys : List Entry) → e'.key ≡ e.key → AreKeyed (xs ++ e ∷ ys) → AreKeyed (xs ++ e' ∷ ys)
keyed_put [] e e' ys s h = (ap (λ k. find k ys) s ∙ h.0, h.1)
keyed_put (x ∷ xs) e e' ys s h =
    let p = found_parts x.key xs (e ∷ ys) h.0 in
    let q = found_not x.key e ys p.1 in
    (found_joined x.key xs (e' ∷ ys) p.0 ∙ (not_found x.key e' ys (λ z. q.0 (sym s ∙ z)) ∙ q.1), keyed_put xs e e' ys s h.1)

-- ---- blocks

-- no entry is this block
abbrev pub IsWithout : ℕ → List Entry → Type 0
IsWithout d [] = Unit {0}
IsWithout d (e ∷ es) = (e.block ≢ d) × IsWithout d es

-- each entry's block differs from those of the entries after it
abbrev pub AreApart : List Entry → Type 0
AreApart [] = Unit {0}
AreApart (e ∷ es) = IsWithout e.block es × AreApart es

pub without_part : (d : ℕ) (xs ys : List Entry) → IsWithout d (xs ++ ys) → IsWithout d ys
without_part d [] ys h = h
without_part d (x ∷ xs) ys h = without_part d xs ys h.1

-- the block of a word that leads from one entry on is one of a list's blocks
pub link_not : (b d i : ℕ) (q : Entry) (bs rest : List Entry) → link_after q.block 0 bs ≡ Body d i → IsWithout b (q ∷ bs ++ rest) → b ≢ d
link_not b d i q [] rest e h = λ z. h.0 ((let s : q.block ≡ d = cc in s) ∙ sym z)
link_not b d i q (p ∷ bs) rest e h = link_not b d i p bs rest e h.1

-- ---- chains in what a table is read from

-- and so its key is of the chain's bucket
pub link_placed : (z : Contents) (c n at d i : ℕ) (q : Entry) (bs rest : List Entry) → link_after q.block 0 bs ≡ Body d i → IsChain z c n at (q ∷ bs ++ rest) → z.body d 2 % 16 ≡ n
link_placed z c n at d i q [] rest e h = let s : q.block ≡ d = cc in ap (λ b. z.body b 2 % 16) (sym s) ∙ (ap (λ k. k % 16) h.1.key ∙ h.1.placed)
link_placed z c n at d i q (p ∷ bs) rest e h = link_placed z c n (z.refs q.block 0) d i p bs rest e h.2

module _ (z : Contents) (c n : ℕ) where
  -- the blocks of a chain in which a key isn't found have other keys
  pub without_key : (at d : ℕ) (es : List Entry) → IsChain z c n at es → find (z.body d 2) es ≡ None → IsWithout d es
  without_key at d [] h k = tt
  without_key at d (e ∷ es) h k =
      let q = found_not (z.body d 2) e es k in
      ((λ s. q.0 (sym h.1.key ∙ ap (λ b. z.body b 2) s)), without_key (z.refs e.block 0) d es h.2 q.1)

  -- the blocks of a chain have two references
  pub without_refs : (at d : ℕ) (es : List Entry) → IsChain z c n at es → tag_refs z.wide (z.tag d) ≢ 2 → IsWithout d es
  without_refs at d [] h k = tt
  without_refs at d (e ∷ es) h k = ((λ s. k (ap (λ b. tag_refs z.wide (z.tag b)) (sym s) ∙ h.1.shape.names)), without_refs (z.refs e.block 0) d es h.2 k)

  -- a key of another bucket isn't found
  pub other_bucket : (at key : ℕ) (es : List Entry) → IsChain z c n at es → n ≢ key % 16 → find key es ≡ None
  other_bucket at key [] h k = refl
  other_bucket at key (e ∷ es) h k = not_found key e es (λ s. k (sym h.1.placed ∙ ap (λ x. x % 16) s)) ∙ other_bucket (z.refs e.block 0) key es h.2 k

  -- where keys are distinct blocks are
  pub chain_apart : (at : ℕ) (es : List Entry) → IsChain z c n at es → AreKeyed es → AreApart es
  chain_apart at [] h k = tt
  chain_apart at (e ∷ es) h k = (without_key (z.refs e.block 0) e.block es h.2 (ap (λ x. find x es) h.1.key ∙ k.0), chain_apart (z.refs e.block 0) es h.2 k.1)

  -- a chain goes on from its second part
  pub chain_part : (at : ℕ) (xs : List Entry) (e : Entry) (ys : List Entry) → IsChain z c n at (xs ++ e ∷ ys) → IsEntry z c n e × IsChain z c n (z.refs e.block 0) ys
  chain_part at [] e ys h = (h.1, h.2)
  chain_part at (x ∷ xs) e ys h = chain_part (z.refs x.block 0) xs e ys h.2

  -- from where it begins it is itself
  pub from_start : (at : ℕ) (es : List Entry) → at ≢ 0 → IsChain z c n at es → chain_from at es ≡ es
  from_start at [] some h = absurd (some h)
  from_start at (e ∷ es) some h = cond-true (eqb e.block at) (e ∷ es) (chain_from at es) (eq-eqb e.block at (sym h.0))

  -- and so it is where one entry more stands before it
  pub from_next : (known : List Stored) (x : ℕ) (e : Entry) (es : List Entry) → ((b : ℕ) → (z.head b).live ≡ true → b ≢ 0) → e.block ≢ x → IsChain z c n x es → relinked known x (e ∷ es) ≡ es
  from_next known x e [] some other h = cond-true (eqb x 0) [] (or_linked known x (e ∷ []) (chain_from x (e ∷ []))) (eq-eqb x 0 h)
  from_next known x e (a ∷ es) some other h =
      let nz : x ≢ 0 = (λ s. some a.block h.1.shape.live (sym h.0 ∙ s)) in
      cond-false (eqb x 0) [] (or_linked known x (e ∷ a ∷ es) (chain_from x (e ∷ a ∷ es))) (ne_eqb x 0 nz)
      ∙ ap (or_linked known x (e ∷ a ∷ es)) (cond-false (eqb e.block x) (e ∷ a ∷ es) (chain_from x (a ∷ es)) (ne_eqb e.block x other) ∙ from_start x (a ∷ es) nz h)

  -- a new entry before a chain
  pub from_new : (known : List Stored) (x at : ℕ) (es : List Entry) → x ≢ 0 → IsWithout x es → word_known known x 0 ≡ at → IsChain z c n at es → relinked known x es ≡ entry_known known x ∷ es
  from_new known x at es some other next h =
      cond-false (eqb x 0) [] (or_linked known x es (chain_from x es)) (ne_eqb x 0 some)
      ∙ (ap (or_linked known x es) (absent es other)
      ∙ ap (λ q. entry_known known x ∷ q) (ap (λ q. chain_from q es) next ∙ rest es h))
    where
      absent : (es : List Entry) → IsWithout x es → chain_from x es ≡ []
      absent [] h = refl
      absent (e ∷ es) h = cond-false (eqb e.block x) (e ∷ es) (chain_from x es) (ne_eqb e.block x h.0) ∙ absent es h.1

      rest : (es : List Entry) → IsChain z c n at es → chain_from at es ≡ es
      rest [] h = refl
      rest (e ∷ es) h = cond-true (eqb e.block at) (e ∷ es) (chain_from at es) (eq-eqb e.block at (sym h.0))

-- ---- one reference word changed

-- a chain without the block stays
pub unset : (known : List Stored) (d i x : ℕ) (es : List Entry) → IsWithout d es → chain_set known d i x es ≡ es
unset known d i x [] h = refl
unset known d i x (e ∷ es) h = cond-false (eqb e.block d) _ (e ∷ chain_set known d i x es) (ne_eqb e.block d h.0) ∙ ap (λ q. e ∷ q) (unset known d i x es h.1)

module _ (z : Contents) (f : ℕ → ℕ → ℕ) (d i x : ℕ) (set : f d i ≡ x) (rest : (b j : ℕ) → (b ≡ d → j ≡ i → ⊥) → f b j ≡ z.refs b j) where
  -- what the table is read from then
  abbrev pub y : Contents
  y = record z { refs = f }

  pub shape_set : (refs plain b : ℕ) → HasShape z refs plain b → HasShape y refs plain b
  shape_set refs plain b h = record { live = h.live; names = h.names; words = h.words }

  -- an entry whose value word isn't the one
  pub entry_set : (c n : ℕ) (e : Entry) → (e.block ≡ d → 1 ≡ i → ⊥) → IsEntry z c n e → IsEntry y c n e
  entry_set c n e other h =
      record {
        shape = shape_set 2 1 e.block h.shape;
        author = h.author;
        key = h.key;
        small = h.small;
        placed = h.placed;
        value = rest e.block 1 other ∙ h.value;
        holds = shape_set 0 1 e.value h.holds;
        number = h.number;
      }

  -- a chain without the block is one still
  pub chain_stays : (c n at : ℕ) (es : List Entry) → IsWithout d es → IsChain z c n at es → IsChain y c n at es
  chain_stays c n at [] w h = h
  chain_stays c n at (e ∷ es) w h = (
    h.0,
    entry_set c n e (λ s _. w.0 s) h.1,
    subst (λ a. IsChain y c n a es) (sym (rest e.block 0 (λ s _. w.0 s))) (chain_stays c n (z.refs e.block 0) es w.1 h.2),
  )

  -- the word that led to an entry leads to the one after it
  pub unlinked : (c n at : ℕ) (known : List Stored) (p : Entry) (bs : List Entry) (e : Entry) (es : List Entry) → ((b : ℕ) → (z.head b).live ≡ true → b ≢ 0) → link_after p.block 0 bs ≡ Body d i → AreApart (p ∷ bs ++ e ∷ es) → e.block ≢ x → z.refs e.block 0 ≡ x
      → IsChain z c n at (p ∷ bs ++ e ∷ es) → (chain_set known d i x (p ∷ bs ++ e ∷ es) ≡ p ∷ bs ++ es) × IsChain y c n at (p ∷ bs ++ es)
  unlinked c n at known p [] e es some word apart other next h =
      let b : p.block ≡ d = cc in
      let j : 0 ≡ i = cc in
      let tail : IsChain z c n x es = subst (λ a. IsChain z c n a es) next h.2.2 in
      let w : IsWithout d es = subst (λ a. IsWithout a es) b apart.0.1 in (
        cond-true (eqb p.block d) _ (p ∷ chain_set known d i x (e ∷ es)) (eq-eqb p.block d b)
            ∙ (cond-true (eqb i 0) (p ∷ relinked known x (e ∷ es)) _ (eq-eqb i 0 (sym j))
            ∙ ap (λ q. p ∷ q) (from_next z c n known x e es some other tail)),
        (
          h.0,
          entry_set c n p (λ _ s. (let k : 1 ≡ 0 = s ∙ sym j in absurd (omega arith))) h.1,
          subst (λ a. IsChain y c n a es) (sym (ap (λ a. f a 0) b ∙ (ap (f d) j ∙ set))) (chain_stays c n x es w tail),
        ),
      )
  unlinked c n at known p (q ∷ bs) e es some word apart other next h =
      let not : p.block ≢ d = link_not p.block d i q bs (e ∷ es) word apart.0 in
      let r = unlinked c n (z.refs p.block 0) known q bs e es some word apart.1 other next h.2 in (
        cond-false (eqb p.block d) _ (p ∷ chain_set known d i x (q ∷ bs ++ e ∷ es)) (ne_eqb p.block d not) ∙ ap (λ u. p ∷ u) r.0,
        (h.0, entry_set c n p (λ s _. not s) h.1, subst (λ a. IsChain y c n a (q ∷ bs ++ es)) (sym (rest p.block 0 (λ s _. not s))) r.1),
      )

-- an entry with another value block
abbrev pub with_value : List Stored → ℕ → Entry → Entry
with_value known x e = record e { value = x; number = word_known known x 0 }

-- the value word of an entry has another block
module _ (z : Contents) (f : ℕ → ℕ → ℕ) (d x : ℕ) (set : f d 1 ≡ x) (rest : (b j : ℕ) → (b ≡ d → j ≡ 1 → ⊥) → f b j ≡ z.refs b j) (c n : ℕ) (known : List Stored) (e : Entry) (es : List Entry) (is : e.block ≡ d) (holds : HasShape z 0 1 x) (number : z.body x 0 ≡ word_known known x 0) where
  abbrev y1 : Contents
  y1 = record z { refs = f }

  pub revalued : (at : ℕ) (xs : List Entry) → AreApart (xs ++ e ∷ es) → IsChain z c n at (xs ++ e ∷ es) → (chain_set known d 1 x (xs ++ e ∷ es) ≡ xs ++ with_value known x e ∷ es) × IsChain y1 c n at (xs ++ with_value known x e ∷ es)
  revalued at [] apart h = (
    cond-true (eqb e.block d) (with_value known x e ∷ es) (e ∷ chain_set known d 1 x es) (eq-eqb e.block d is),
    (
      h.0,
      record {
        shape = shape_set z f d 1 x set rest 2 1 e.block h.1.shape;
        author = h.1.author;
        key = h.1.key;
        small = h.1.small;
        placed = h.1.placed;
        value = ap (λ b. f b 1) is ∙ set;
        holds = shape_set z f d 1 x set rest 0 1 x holds;
        number = number;
      },
      subst (λ a. IsChain y1 c n a es) (sym (rest e.block 0 (λ _ s. (absurd (omega arith)))))
          (chain_stays z f d 1 x set rest c n (z.refs e.block 0) es (subst (λ b. IsWithout b es) is apart.0) h.2),
    ),
  )
  revalued at (p ∷ xs) apart h =
      let not : p.block ≢ d = (λ s. (without_part p.block xs (e ∷ es) apart.0).0 (is ∙ sym s)) in
      let r = revalued (z.refs p.block 0) xs apart.1 h.2 in (
        cond-false (eqb p.block d) _ (p ∷ chain_set known d 1 x (xs ++ e ∷ es)) (ne_eqb p.block d not) ∙ ap (λ u. p ∷ u) r.0,
        (h.0, entry_set z f d 1 x set rest c n p (λ s _. not s) h.1, subst (λ a. IsChain y1 c n a (xs ++ with_value known x e ∷ es)) (sym (rest p.block 0 (λ s _. not s))) r.1),
      )

-- ---- one of the chains

pub bucket_here : (h : List Entry → List Entry) (i : ℕ) (ess : List (List Entry)) → get_or (bucket_set h i ess) i [] ≡ h (get_or ess i [])
bucket_here h zero [] = refl
bucket_here h (suc i) [] = bucket_here h i []
bucket_here h zero (es ∷ ess) = refl
bucket_here h (suc i) (es ∷ ess) = bucket_here h i ess

pub bucket_other : (h : List Entry → List Entry) (i n : ℕ) (ess : List (List Entry)) → n ≢ i → get_or (bucket_set h i ess) n [] ≡ get_or ess n []
bucket_other h zero zero [] o = absurd (o refl)
bucket_other h zero (suc n) [] o = refl
bucket_other h (suc i) zero [] o = refl
bucket_other h (suc i) (suc n) [] o = bucket_other h i n [] (λ s. o (ap suc s))
bucket_other h zero zero (es ∷ ess) o = absurd (o refl)
bucket_other h zero (suc n) (es ∷ ess) o = refl
bucket_other h (suc i) zero (es ∷ ess) o = refl
bucket_other h (suc i) (suc n) (es ∷ ess) o = bucket_other h i n ess (λ s. o (ap suc s))

pub chains_at : (h : List Entry → List Entry) (n : ℕ) (ess : List (List Entry)) → h [] ≡ [] → get_or (map h ess) n [] ≡ h (get_or ess n [])
chains_at h n [] e = sym e
chains_at h zero (es ∷ ess) e = refl
chains_at h (suc n) (es ∷ ess) e = chains_at h n ess e
