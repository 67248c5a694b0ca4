-- entries and chains, read from the words of a pool
use Rattle.std.proofs.Common.{◌≡◌, ◌≢◌, ℕ, zero, suc, ◌+◌, ◌<◌, ◌≤◌, ◌^◌, List, [], ◌∷◌, ◌++◌, length, map, get_or, take, drop, sym, ap, ◌∙◌, refl, eqb, true, false, inl, inr, subst, add-one, arith}
use Rattle.std.proofs.lemmas.Bool.{ne_eqb, eqb-true, eq-eqb, false≢true, or_cases, cases_eq}
use Rattle.std.proofs.lemmas.{List.{length-map, take_all}, Map.Keys.{IsDistinct-head, IsDistinct-tail, IsDistinct-cons}}
use Rattle.std.proofs.lemmas.Map.Steps.{length-le_from_distinct_below}
use Rattle.std.specs.{Ordering.nat_cmp, BTreeMap.insert_entry, List.{IsDistinct, AllByRecursion, list_any}}
use Rattle.shm_words.specs.{declared.geometry.Geometry.Geometry, Layout.total_of}
use Rattle.shm_words.proofs.Placing.{total_most_wide}
use Rattle.shm_graph.specs.{declared.{spot.Spot.{Spot, TheVariants.Body}, table.Entry.Entry}, Spots.see}
use Rattle.shm_graph.specs.{References.references, Tables.{IsEntry, IsChain}}
use Rattle.shm_graph.proofs.States.Reading.{live_below, shape_word, shape_reference}
use Rattle.shm_report.specs.{PoolWords.IsCleanPool, Report.add_entries, declared.table_rows.ChainEntry.ChainEntry}
use Rattle.shm_report.specs.TableRows.{contents_in, IsEntryAt, ReadsEntry, IsChainAt}

-- ---- entries

-- what a word names lies in the pool
pub reference_below : (g : Geometry) (ws : List ℕ) (p : Spot) → IsCleanPool g ws → references g.wide (see g ws) p < 16523169
reference_below g ws p pool =
    elim (cases_eq (references g.wide (see g ws) p) 0) [
      | inl e ↦ omega arith
      | inr n ↦
          let b = live_below g ws (references g.wide (see g ws) p) (pool.clean.targets p n) in
          let m = total_most_wide g pool.fits in
          omega arith
    ]

-- the words of an entry and of its value block
pub record EntryWords (g : Geometry) (ws : List ℕ) (e : Entry) : Type 0 where
  pub next : (contents_in g ws).refs e.block 0 ≡ get_or ws (e.block + 2) 0
  pub next_below : (contents_in g ws).refs e.block 0 < 16523169
  pub value : get_or ws (e.block + 3) 0 ≡ e.value
  pub key : get_or ws (e.block + 4) 0 ≡ e.key
  pub number : get_or ws (e.value + 2) 0 ≡ e.number
  pub above : 0 < e.block
  pub below : e.block < 16523169
  pub value_below : e.value < 16523169
  pub small : e.key < 2 ^ 32

pub entry_words : (g : Geometry) (ws : List ℕ) (c bucket : ℕ) (e : Entry) → IsCleanPool g ws → IsEntry (contents_in g ws) c bucket e → EntryWords g ws e
entry_words g ws c bucket e pool is =
    let r0 = shape_reference g ws 2 1 e.block 0 pool.fits pool.clean is.shape (omega arith) in
    let r1 = shape_reference g ws 2 1 e.block 1 pool.fits pool.clean is.shape (omega arith) in
    let w2 = shape_word g ws 2 1 e.block 2 pool.fits pool.clean is.shape (omega arith) in
    let v0 = shape_word g ws 0 1 e.value 0 pool.fits pool.clean is.holds (omega arith) in
    let b = live_below g ws e.block is.shape.live in
    let v = live_below g ws e.value is.holds.live in
    let m = total_most_wide g pool.fits in
    let a0 : e.block + 2 + 0 ≡ e.block + 2 = omega arith in
    let a1 : e.block + 2 + 1 ≡ e.block + 3 = omega arith in
    let a2 : e.block + 2 + 2 ≡ e.block + 4 = omega arith in
    let a3 : e.value + 2 + 0 ≡ e.value + 2 = omega arith in
    record {
      next = r0 ∙ ap (λ n. get_or ws n 0) a0;
      next_below = reference_below g ws (Body e.block 0) pool;
      value = ap (λ n. get_or ws n 0) (sym a1) ∙ (sym r1 ∙ is.value);
      key = ap (λ n. get_or ws n 0) (sym a2) ∙ (sym w2.0 ∙ is.key);
      number = ap (λ n. get_or ws n 0) (sym a3) ∙ (sym v0.0 ∙ is.number);
      above = b.0;
      below = omega arith;
      value_below = omega arith;
      small = is.small;
    }

-- the same words, by the address of the block
pub record WordsAt (g : Geometry) (ws : List ℕ) (at : ℕ) (e : Entry) : Type 0 where
  pub next : get_or ws (at + 2) 0 ≡ (contents_in g ws).refs e.block 0
  pub next_below : (contents_in g ws).refs e.block 0 < 16523169
  pub value : get_or ws (at + 3) 0 ≡ e.value
  pub key : get_or ws (at + 4) 0 ≡ e.key
  pub number : get_or ws (e.value + 2) 0 ≡ e.number
  pub below : at < 16523169
  pub value_below : e.value < 16523169
  pub small : e.key < 2 ^ 32

pub words_at : (g : Geometry) (ws : List ℕ) (at : ℕ) (e : Entry) → IsCleanPool g ws → IsEntryAt g ws at e → WordsAt g ws at e
words_at g ws at e pool is =
    let w = entry_words g ws is.client is.bucket e pool is.is in
    record {
      next = ap (λ b. get_or ws (b + 2) 0) is.block ∙ sym w.next;
      next_below = w.next_below;
      value = ap (λ b. get_or ws (b + 3) 0) is.block ∙ w.value;
      key = ap (λ b. get_or ws (b + 4) 0) is.block ∙ w.key;
      number = w.number;
      below = omega (arith, is.block);
      value_below = w.value_below;
      small = w.small;
    }

-- ---- chains

-- the first entry of a chain that goes on
pub record ChainHead (g : Geometry) (ws : List ℕ) (c bucket at : ℕ) (es : List Entry) : Type 0 where
  pub entry : Entry
  pub rest : List Entry
  pub is : es ≡ entry ∷ rest
  pub block : at ≡ entry.block
  pub good : IsEntry (contents_in g ws) c bucket entry
  pub goes_on : IsChain (contents_in g ws) c bucket ((contents_in g ws).refs entry.block 0) rest

pub chain_head : (g : Geometry) (ws : List ℕ) (c bucket at : ℕ) (es : List Entry) → IsChain (contents_in g ws) c bucket at es → at ≢ 0 → ChainHead g ws c bucket at es
chain_head g ws c bucket at [] is n = absurd (n is)
chain_head g ws c bucket at (e ∷ es) is n = record { entry = e; rest = es; is = refl; block = is.0; good = is.1; goes_on = is.2 }

pub chain_end : (g : Geometry) (ws : List ℕ) (c bucket : ℕ) (es : List Entry) → IsChain (contents_in g ws) c bucket 0 es → es ≡ []
chain_end g ws c bucket [] is = refl
chain_end g ws c bucket (e ∷ es) is = let b = live_below g ws e.block is.1.shape.live in absurd (omega (arith, is.0))

-- ---- parts of a list

drop_is_next : (n : ℕ) (xs : List Entry) (e : Entry) (rest : List Entry) → drop n xs ≡ e ∷ rest → (drop (suc n) xs ≡ rest) × (take (suc n) xs ≡ take n xs ++ e ∷ []) × (n < length xs)
drop_is_next zero [] e rest h = cc
drop_is_next zero (x ∷ xs) e rest h = (cc, (let y : x ≡ e = cc in ap (λ z. z ∷ []) y), omega arith)
drop_is_next (suc n) [] e rest h = cc
drop_is_next (suc n) (x ∷ xs) e rest h =
    let t = drop_is_next n xs e rest h in
    (t.0, ap (λ ys. x ∷ ys) t.1, omega arith)

pub drop_is : (n : ℕ) (xs : List Entry) (e : Entry) (rest : List Entry) → drop n xs ≡ e ∷ rest → (drop (n + 1) xs ≡ rest) × (take (n + 1) xs ≡ take n xs ++ e ∷ []) × (n < length xs)
drop_is n xs e rest h = rw add-one (drop_is_next n xs e rest h)

pub all_taken : (n : ℕ) (xs : List Entry) → drop n xs ≡ [] → take n xs ≡ xs
all_taken zero xs h = sym h
all_taken (suc n) [] h = refl
all_taken (suc n) (x ∷ xs) h = ap (λ ys. x ∷ ys) (all_taken n xs h)

pub add_entries-append : (xs ys : List Entry) (m : List (ℕ × (ℕ × ℕ))) → add_entries m (xs ++ ys) ≡ add_entries (add_entries m xs) ys
add_entries-append [] ys m = refl
add_entries-append (e ∷ xs) ys m = add_entries-append xs ys _

-- ---- a chain is no longer than the pool

blocks_apart : (g : Geometry) (ws : List ℕ) (c bucket : ℕ) (e : Entry) (es : List Entry) (at : ℕ) → IsEntry (contents_in g ws) c bucket e → IsChain (contents_in g ws) c bucket at es → AllByRecursion (λ k. eqb e.key k ≡ false) (map (λ (e : Entry). e.key) es) → AllByRecursion (λ b. eqb e.block b ≡ false) (map (λ (e : Entry). e.block) es)
blocks_apart g ws c bucket e [] at good is h = h
blocks_apart g ws c bucket e (f ∷ es) at good is h =
    let same : (e.block ≡ f.block → e.key ≡ f.key) = λ z. sym good.key ∙ (ap (λ b. (contents_in g ws).body b 2) z ∙ is.1.key) in
    (ne_eqb e.block f.block (λ z. absurd (false≢true (sym h.0 ∙ eq-eqb e.key f.key (same z)))), blocks_apart g ws c bucket e es _ good is.2 h.1)

chain_blocks : (g : Geometry) (ws : List ℕ) (c bucket : ℕ) (es : List Entry) (at : ℕ) → IsChain (contents_in g ws) c bucket at es → IsDistinct eqb (map (λ (e : Entry). e.key) es) → IsDistinct eqb (map (λ (e : Entry). e.block) es)
chain_blocks g ws c bucket [] at is d = d
chain_blocks g ws c bucket (e ∷ es) at is d =
    IsDistinct-cons eqb e.block (map (λ (e : Entry). e.block) es) (blocks_apart g ws c bucket e es _ is.1 is.2 (IsDistinct-head eqb e.key (map (λ (e : Entry). e.key) es) d)) (chain_blocks g ws c bucket es _ is.2 (IsDistinct-tail eqb e.key (map (λ (e : Entry). e.key) es) d))

chain_below : (g : Geometry) (ws : List ℕ) (c bucket : ℕ) (es : List Entry) (at : ℕ) → IsChain (contents_in g ws) c bucket at es → (q : ℕ) → list_any (eqb q) (map (λ (e : Entry). e.block) es) ≡ true → q < total_of g
chain_below g ws c bucket [] at is q h = absurd (false≢true h)
chain_below g ws c bucket (e ∷ es) at is q h =
    elim (or_cases (eqb q e.block) (list_any (eqb q) (map (λ (e : Entry). e.block) es)) h) [
      | inl x ↦ (let y = eqb-true q e.block x in let b = live_below g ws e.block is.1.shape.live in omega arith)
      | inr x ↦ chain_below g ws c bucket es _ is.2 q x
    ]

pub chain_length : (g : Geometry) (ws : List ℕ) (at : ℕ) (es : List Entry) → IsChainAt g ws at es → length es ≤ total_of g
chain_length g ws at es is =
    let l = length-le_from_distinct_below (map (λ (e : Entry). e.block) es) (total_of g) (chain_blocks g ws is.client is.bucket es at is.is is.distinct) (chain_below g ws is.client is.bucket es at is.is) in
    omega (arith, length-map es (λ (e : Entry). e.block))

-- ---- a walk along a chain

-- after n entries the walk stands at this address, and has added them
pub record Walks (g : Geometry) (ws : List ℕ) (c bucket : ℕ) (es : List Entry) (at n : ℕ) (old new : List (ℕ × (ℕ × ℕ))) : Type 0 where
  pub rest : IsChain (contents_in g ws) c bucket at (drop n es)
  pub added : new ≡ add_entries old (take n es)

pub walk_step : (g : Geometry) (ws : List ℕ) (c bucket : ℕ) (es : List Entry) (at n : ℕ) (old new newer : List (ℕ × (ℕ × ℕ))) (r : ChainEntry) → Walks g ws c bucket es at n old new → at ≢ 0 → ((e : Entry) → IsEntryAt g ws at e → ReadsEntry g ws r e) → newer ≡ insert_entry nat_cmp new r.key (r.number, r.value) → Walks g ws c bucket es r.next (n + 1) old newer
walk_step g ws c bucket es at n old new newer r w more reads put =
    let h = chain_head g ws c bucket at (drop n es) w.rest more in
    let d = drop_is n es h.entry h.rest h.is in
    let x = reads h.entry (record { client = c; bucket = bucket; block = h.block; is = h.good }) in
    let k = x.key in
    let m = x.number in
    let v = x.value in
    let p : insert_entry nat_cmp new r.key (r.number, r.value) ≡ insert_entry nat_cmp (add_entries old (take n es)) h.entry.key (h.entry.number, h.entry.value) =
    ap (λ a. insert_entry nat_cmp new a (r.number, r.value)) k ∙ (ap (λ a. insert_entry nat_cmp new h.entry.key (a, r.value)) m ∙ (ap (λ a. insert_entry nat_cmp new h.entry.key (h.entry.number, a)) v ∙ ap (λ a. insert_entry nat_cmp a h.entry.key (h.entry.number, h.entry.value)) w.added)) in
    let C : ℕ → List Entry → Type 0 = λ a l. IsChain (contents_in g ws) c bucket a l in
    record {
      rest = subst (λ a. C a (drop (n + 1) es)) (sym x.next) (subst (λ l. C ((contents_in g ws).refs h.entry.block 0) l) (sym d.0) h.goes_on);
      added = put ∙ (p ∙ sym (ap (add_entries old) d.1 ∙ add_entries-append (take n es) (h.entry ∷ []) old));
    }

pub walk_end : (g : Geometry) (ws : List ℕ) (c bucket : ℕ) (es : List Entry) (n : ℕ) (old new : List (ℕ × (ℕ × ℕ))) → Walks g ws c bucket es 0 n old new → new ≡ add_entries old es
walk_end g ws c bucket es n old new w = w.added ∙ ap (add_entries old) (all_taken n es (chain_end g ws c bucket (drop n es) w.rest))

pub walk_all : (g : Geometry) (ws : List ℕ) (c bucket : ℕ) (es : List Entry) (at n : ℕ) (old new : List (ℕ × (ℕ × ℕ))) → Walks g ws c bucket es at n old new → length es ≤ n → new ≡ add_entries old es
walk_all g ws c bucket es at n old new w l = w.added ∙ ap (add_entries old) (take_all n es l)
