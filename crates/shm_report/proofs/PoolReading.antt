-- what the words of a clean pool say: tags, references, homes, and what counts as one
use Rattle.std.proofs.Common.{◌≡◌, ℕ, ◌+◌, ◌<◌, Bool, List, get_or, refl, sym, ap, ◌∙◌, cond, eqb, false, ltb, true, arith}
use Rattle.std.proofs.lemmas.Bool.{cond-true, lt-ltb, Decides.nat_tests}
use Rattle.std.specs.Prelude.{Some, None}
use Rattle.shm_words.specs.declared.{geometry.Geometry.Geometry, tag.Tag.Tag as ATag}
use Rattle.shm_words.specs.{Layout.{GeometryFits, total_of, address, is_in}, Headers.header_of, Tags.{tag_of, tag_refs}}
use Rattle.shm_words.specs.declared.place.Place.TheVariants as place
use Rattle.shm_words.proofs.{Words.tag_fields, Placing.{place-address, address_below}}
use Rattle.shm_graph.specs.declared.spot.Spot.{Spot, TheVariants.{Body, Home, Head, Root, Slot, Tag}}
use Rattle.shm_graph.specs.Spots.{same_spot, spot_address, spot_at, spot_of, classes_in, see}
use Rattle.shm_graph.specs.{Blocks.{IsBlock, IsLive, headers}, References.{references, words_of}}
use Rattle.shm_graph.proofs.Spots.{Spotting.tag_spot, Seeing.see_at, WordsAt.{block_header, block_tag as tag_word}}
use Rattle.shm_graph.proofs.States.Reading.{live_class}
use Rattle.shm_report.specs.PoolWords.{IsCleanPool}

block_lives : (g : Geometry) (ws : List ℕ) (b : ℕ) → IsBlock g (classes_in g ws) b → (header_of (get_or ws b 0)).live ≡ true → IsLive (headers (see g ws)) b
block_lives g ws b is live = ap (λ w. (header_of w).live) (block_header g ws b is) ∙ live

pub block_tag : (g : Geometry) (ws : List ℕ) (b : ℕ) → IsCleanPool g ws → IsBlock g (classes_in g ws) b → (header_of (get_or ws b 0)).live ≡ true → see g ws (Tag b) ≡ get_or ws (b + 1) 0
block_tag g ws b pool is live =
    tag_word g ws b (tag_spot g (classes_in g ws) b is (live_class g ws b pool.fits pool.clean (block_lives g ws b is live)))

-- a live block has a tag
pub has_tag : (g : Geometry) (ws : List ℕ) (b : ℕ) → IsCleanPool g ws → IsBlock g (classes_in g ws) b → (header_of (get_or ws b 0)).live ≡ true → tag_of g.wide (see g ws (Tag b)) ≡ None → ⊥
has_tag g ws b pool is live none =
    let t = pool.clean.tags b (block_lives g ws b is live) in
    let x : None ≡ Some t.tag = sym none ∙ t.is in
    cc

-- how many references a live block has whose tag is this
pub refs_live : (g : Geometry) (ws : List ℕ) (b : ℕ) (t : ATag) → IsBlock g (classes_in g ws) b → (header_of (get_or ws b 0)).live ≡ true → tag_of g.wide (see g ws (Tag b)) ≡ Some t → (words_of g.wide (see g ws)).refs b ≡ t.refs
refs_live g ws b t is live e =
    cond-true (header_of (see g ws (Head b))).live (tag_refs g.wide (see g ws (Tag b))) 0 (ap (λ w. (header_of w).live) (block_header g ws b is) ∙ live) ∙ sym (tag_fields g.wide (see g ws (Tag b)) t e).1

-- a word that is 0 names nothing, and is no block's header
zero_reference : (wide : Bool) (w : Spot → ℕ) (p : Spot) → w p ≡ 0 → references wide w p ≡ 0
zero_reference wide w (Home c) e = e
zero_reference wide w (Root c k) e = e
zero_reference wide w (Slot s r k) e = e
zero_reference wide w (Body b i) e = go (ltb i ((words_of wide w).refs b))
  where
    go : (z : Bool) → cond z (w (Body b i)) 0 ≡ 0
    go true = e
    go false = refl
zero_reference wide w _ e = refl

pub zero_word : (g : Geometry) (ws : List ℕ) (a : ℕ) → a < total_of g → get_or ws a 0 ≡ 0 → references g.wide (see g ws) (spot_at g (classes_in g ws) a) ≡ 0
zero_word g ws a l e = zero_reference g.wide (see g ws) (spot_at g (classes_in g ws) a) (see_at g ws a (spot_at g (classes_in g ws) a) l refl ∙ e)

pub zero_header : (g : Geometry) (ws : List ℕ) (a : ℕ) → get_or ws a 0 ≡ 0 → see g ws (Head a) ≡ 0
unfolding see spot_address
zero_header g ws a e = go (same_spot (spot_at g (classes_in g ws) a) (Head a))
  where
    go : (z : Bool) → cond z (get_or ws a 0) 0 ≡ 0
    go true = e
    go false = refl

-- ---- homes

pub home_in : (g : Geometry) (c : ℕ) → c < g.clients → is_in g (place.Home c) ≡ true
home_in g c l = lt-ltb c g.clients l

home_spot : (g : Geometry) (class : ℕ → ℕ → ℕ) (c : ℕ) → c < g.clients → spot_at g class (address g (place.Home c)) ≡ Home c
unfolding spot_at
home_spot g class c l = ap (spot_of class (address g (place.Home c))) (place-address g (place.Home c) (home_in g c l))

pub home_word : (g : Geometry) (ws : List ℕ) (c : ℕ) → GeometryFits g → c < g.clients → see g ws (Home c) ≡ get_or ws (address g (place.Home c)) 0
home_word g ws c f l = see_at g ws (address g (place.Home c)) (Home c) (address_below g (place.Home c) (home_in g c l) f) (home_spot g (classes_in g ws) c l)

-- ---- counts

pub counts_one : (x : ℕ) → (x ≡ 0 → ⊥) → ◌≡◌ {A = ℕ} (cond (eqb x 0) 0 1) 1
counts_one x n = grind (arith, nat_tests)

pub counts_none : (x : ℕ) → x ≡ 0 → ◌≡◌ {A = ℕ} (cond (eqb x 0) 0 1) 0
counts_none x e = grind (arith, nat_tests)
