-- the words of live blocks in a clean pool
use Rattle.std.proofs.Common.{◌≡◌, ℕ, ◌+◌, ◌<◌, ◌≤◌, List, get_or, sym, ap, ◌∙◌, subst, arith, inl, inr}
use Rattle.std.proofs.lemmas.Bool.{cond-true, lt-ltb}
use Rattle.shm_words.specs.{declared.geometry.Geometry.Geometry, Layout.{GeometryFits, total_of}, Classes.IsClass}
use Rattle.shm_words.specs.{Headers.header_of, Tags.{tag_refs, tag_plain}}
use Rattle.shm_words.proofs.Words.{live_not_zero, tag_fields}
use Rattle.shm_graph.specs.declared.spot.Spot.TheVariants.{Head, Tag, Body}
use Rattle.shm_graph.specs.{Spots.{spot_address, class_at, classes_in, see}, Blocks.{IsBlock, IsLive, headers}}
use Rattle.shm_graph.specs.{References.{references, refs_of}, Clean.IsClean, Tables.{HasShape, contents_of}}
use Rattle.shm_graph.proofs.Spots.Spotting.{block_within, in_block, body_spot}
use Rattle.shm_graph.proofs.Spots.Seeing.{seen_is_at, see_at, classes-see}

-- a live block stands in the pool
pub live_block : (g : Geometry) (ws : List ℕ) (b : ℕ) → IsLive (headers (see g ws)) b → IsBlock g (classes_in g ws) b
unfolding spot_address
live_block g ws b l = seen_is_at g ws (Head b) (live_not_zero (see g ws (Head b)) l)

pub live_below : (g : Geometry) (ws : List ℕ) (b : ℕ) → IsLive (headers (see g ws)) b → (0 < b) × (b < total_of g)
live_below g ws b l = let w = block_within g (classes_in g ws) b (live_block g ws b l) in (omega arith, omega arith)

pub live_class : (g : Geometry) (ws : List ℕ) (b : ℕ) → GeometryFits g → IsClean g (see g ws) → IsLive (headers (see g ws)) b → IsClass (class_at g (classes_in g ws) b)
live_class g ws b f clean l =
    let w = block_within g (classes_in g ws) b (live_block g ws b l) in
    let e = classes-see g ws f in
    elim (clean.pages _ _) [
      | inl z ↦ absurd (w.2 (sym (ap (λ c. class_at g c b) e) ∙ z))
      | inr k ↦ (let P : (ℕ → ℕ → ℕ) → Type 0 = λ c. IsClass (class_at g c b) in subst P e k)
    ]

-- what its tag announces fits in it
pub live_room : (g : Geometry) (ws : List ℕ) (b : ℕ) → GeometryFits g → IsClean g (see g ws) → IsLive (headers (see g ws)) b → 2 + tag_refs g.wide (see g ws (Tag b)) + tag_plain g.wide (see g ws (Tag b)) ≤ class_at g (classes_in g ws) b
live_room g ws b f clean l =
    let t = clean.tags b l in
    let d = tag_fields g.wide (see g ws (Tag b)) t.tag t.is in
    let e = ap (λ c. class_at g c b) (classes-see g ws f) in
    omega (arith, t.room, e)

pub live_word : (g : Geometry) (ws : List ℕ) (b i : ℕ) → GeometryFits g → IsClean g (see g ws) → IsLive (headers (see g ws)) b → i < tag_refs g.wide (see g ws (Tag b)) + tag_plain g.wide (see g ws (Tag b)) → (see g ws (Body b i) ≡ get_or ws (b + 2 + i) 0) × (b + 2 + i < total_of g)
live_word g ws b i f clean l lt =
    let k = live_class g ws b f clean l in
    let r = live_room g ws b f clean l in
    let s = body_spot g (classes_in g ws) b i (live_block g ws b l) k (omega arith) in
    let below = (in_block g (classes_in g ws) b (2 + i) (live_block g ws b l) k (omega arith)).1 in
    (see_at g ws (b + 2 + i) (Body b i) (omega (arith, below)) s, omega (arith, below))

-- the words of a block of a known shape
pub shape_word : (g : Geometry) (ws : List ℕ) (refs plain b i : ℕ) → GeometryFits g → IsClean g (see g ws) → HasShape (contents_of g.wide (see g ws) (references g.wide (see g ws))) refs plain b → i < refs + plain → (see g ws (Body b i) ≡ get_or ws (b + 2 + i) 0) × (b + 2 + i < total_of g)
shape_word g ws refs plain b i f clean s l = live_word g ws b i f clean s.live (omega (arith, s.names, s.words))

pub shape_reference : (g : Geometry) (ws : List ℕ) (refs plain b i : ℕ) → GeometryFits g → IsClean g (see g ws) → HasShape (contents_of g.wide (see g ws) (references g.wide (see g ws))) refs plain b → i < refs → references g.wide (see g ws) (Body b i) ≡ get_or ws (b + 2 + i) 0
shape_reference g ws refs plain b i f clean s l =
    let n : refs_of g.wide (header_of (see g ws (Head b))).live (see g ws (Tag b)) ≡ refs = cond-true _ _ _ s.live ∙ s.names in
    rw (n, lt-ltb i refs l) (shape_word g ws refs plain b i f clean s (omega arith)).0
