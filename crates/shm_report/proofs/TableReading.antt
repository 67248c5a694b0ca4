-- the partitions of a table, read from the words of a pool
use Rattle.std.proofs.Common.{◌≡◌, ◌≢◌, ℕ, zero, suc, ◌+◌, ◌^◌, ◌<◌, List, [], ◌++◌, get_or, sym, ap, ◌∙◌, refl, subst, add-one, arith}
use Rattle.shm_words.specs.{declared.geometry.Geometry.Geometry, Layout.address}
use Rattle.shm_words.specs.declared.place.Place.TheVariants as place
use Rattle.shm_words.proofs.Placing.{address_below, total_most_wide}
use Rattle.shm_graph.specs.{declared.{spot.Spot.TheVariants.{Home, Body}, table.Entry.Entry}, Spots.see, Tables.IsChain}
use Rattle.shm_graph.proofs.States.Reading.{live_below, shape_reference}
use Rattle.shm_report.specs.{PoolWords.IsCleanPool, Report.{add_entries, entries_below, in_order}}
use Rattle.shm_report.specs.TableRows.{contents_in, IsChainAt, HoldsTable}
use Rattle.shm_report.proofs.{ChainReading.{add_entries-append, reference_below}, PoolReading.{home_in, home_word}}

not_zero : (n : ℕ) → 0 < n → n ≢ 0
not_zero n l = λ e. omega arith

-- the directory that a home names
home_below : (g : Geometry) (ws : List ℕ) (c home : ℕ) (table : ℕ → ℕ → List Entry) → IsCleanPool g ws → c < g.clients → HoldsTable g ws table → see g ws (Home c) ≡ home → 0 < home → home < 16523169
home_below g ws c home table pool l holds is n =
    let more : see g ws (Home c) ≢ 0 = λ e. omega arith in
    let b = live_below g ws (see g ws (Home c)) ((holds c l).shape more).live in
    let m = total_most_wide g pool.fits in
    omega arith

-- each of its buckets names a chain
bucket_chain : (g : Geometry) (ws : List ℕ) (c home bucket : ℕ) (table : ℕ → ℕ → List Entry) → IsCleanPool g ws → c < g.clients → HoldsTable g ws table → see g ws (Home c) ≡ home → 0 < home → bucket < 16 → IsChainAt g ws (get_or ws (home + 2 + bucket) 0) (table c bucket)
bucket_chain g ws c home bucket table pool l holds is n b =
    let more : see g ws (Home c) ≢ 0 = λ e. omega arith in
    let p = holds c l in
    let r = shape_reference g ws 16 0 (see g ws (Home c)) bucket pool.fits pool.clean (p.shape more) b in
    let e : (contents_in g ws).refs (see g ws (Home c)) bucket ≡ get_or ws (home + 2 + bucket) 0 = r ∙ ap (λ h. get_or ws (h + 2 + bucket) 0) is in
    let C : ℕ → Type 0 = λ at. IsChain (contents_in g ws) c bucket at (table c bucket) in
    record {
      client = c;
      bucket = bucket;
      is = subst C e (p.chain more bucket b);
      distinct = p.distinct bucket;
    }

-- the word of a bucket that was read as 32 bits
pub bucket_read : (g : Geometry) (ws : List ℕ) (c home bucket n : ℕ) (table : ℕ → ℕ → List Entry) → IsCleanPool g ws → c < g.clients → HoldsTable g ws table → see g ws (Home c) ≡ home → 0 < home → bucket < 16 → (home + (2 + bucket) < 2 ^ 32 → get_or ws (home + (2 + bucket)) 0 < 2 ^ 32 → n ≡ get_or ws (home + (2 + bucket)) 0) → IsChainAt g ws n (table c bucket)
bucket_read g ws c home bucket n table pool l holds is m b read =
    let more : see g ws (Home c) ≢ 0 = λ e. omega arith in
    let low = home_below g ws c home table pool l holds is m in
    let r = shape_reference g ws 16 0 (see g ws (Home c)) bucket pool.fits pool.clean ((holds c l).shape more) b in
    let small = reference_below g ws (Body (see g ws (Home c)) bucket) pool in
    let same : home + 2 + bucket ≡ home + (2 + bucket) = omega arith in
    let word : (contents_in g ws).refs (see g ws (Home c)) bucket ≡ get_or ws (home + (2 + bucket)) 0 = r ∙ (ap (λ h. get_or ws (h + 2 + bucket) 0) is ∙ ap (λ a. get_or ws a 0) same) in
    let e : n ≡ get_or ws (home + 2 + bucket) 0 = read (omega arith) (omega (arith, word)) ∙ ap (λ a. get_or ws a 0) (sym same) in
    subst (λ at. IsChainAt g ws at (table c bucket)) (sym e) (bucket_chain g ws c home bucket table pool l holds is m b)

-- a home that was read as 32 bits
pub home_read : (g : Geometry) (ws : List ℕ) (c n a : ℕ) → IsCleanPool g ws → c < g.clients → a ≡ address g (place.Home c) → (a + 0 < 2 ^ 32 → get_or ws (a + 0) 0 < 2 ^ 32 → n ≡ get_or ws (a + 0) 0) → see g ws (Home c) ≡ n
home_read g ws c n a pool l at read =
    let w = home_word g ws c pool.fits l in
    let small = reference_below g ws (Home c) pool in
    let low = address_below g (place.Home c) (home_in g c l) pool.fits in
    let m = total_most_wide g pool.fits in
    let same : a + 0 ≡ address g (place.Home c) = omega (arith, at) in
    let word : see g ws (Home c) ≡ get_or ws (a + 0) 0 = w ∙ ap (λ k. get_or ws k 0) (sym same) in
    word ∙ sym (read (omega (arith, at)) (omega (arith, word)))

-- one more bucket
pub add_bucket : (chains : ℕ → List Entry) (n : ℕ) (old new newer : List (ℕ × (ℕ × ℕ))) → new ≡ add_entries old (entries_below n chains) → newer ≡ add_entries new (chains n) → newer ≡ add_entries old (entries_below (n + 1) chains)
add_bucket chains n old new newer e f =
    f ∙ (ap (λ m. add_entries m (chains n)) e ∙ (sym (add_entries-append (entries_below n chains) (chains n) old) ∙ ap (λ k. add_entries old (entries_below k chains)) (sym (add-one n))))

-- a home that is not set has no entry
no_chains : (chains : ℕ → List Entry) (n : ℕ) → ((b : ℕ) → chains b ≡ []) → entries_below n chains ≡ []
no_chains chains zero none = refl
no_chains chains (suc n) none = ap (λ es. es ++ chains n) (no_chains chains n none) ∙ none n

pub no_entries : (g : Geometry) (ws : List ℕ) (c : ℕ) (table : ℕ → ℕ → List Entry) → c < g.clients → HoldsTable g ws table → see g ws (Home c) ≡ 0 → [] ≡ in_order (table c)
no_entries g ws c table l holds none = ap (add_entries []) (sym (no_chains (table c) 16 ((holds c l).none none)))
