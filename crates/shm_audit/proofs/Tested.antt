-- what each test of a fault says of the word at an address
use Rattle.std.proofs.Common.{◌≡◌, ℕ, ◌-◌, ◌/◌, ◌%◌, ◌<◌, ◌≤◌, Bool, true, false, not, ◌&&◌, eqb, ltb, List, get_or, refl, ap, ◌∙◌, arith}
use Rattle.std.proofs.lemmas.Bool.{lt-ltb, Decides.nat_tests}
use Rattle.std.specs.Prelude.{Some, None, option_map}
use Rattle.shm_words.specs.declared.geometry.Geometry.{Geometry}
use Rattle.shm_words.specs.{Layout.{GeometryFits, total_of, pages, bodies, address, is_in, place_at}, Headers.header_of}
use Rattle.shm_words.specs.Tags.{tag_of}
use Rattle.shm_words.specs.declared.place.Place.TheVariants as place
use Rattle.shm_words.proofs.Placing.{place-address, address_below}
use Rattle.shm_graph.specs.declared.spot.Spot.{Spot, TheVariants.{Status, Page, Head, Tag}}
use Rattle.shm_graph.specs.{Spots.{see, spot_at, spot_of, classes_in, class_at}, Blocks.classes}
use Rattle.shm_graph.proofs.Spots.{Spotting.{is_below, tag_block}, Seeing.{see_at, classes-see}}
use Rattle.shm_audit.specs.declared.fault.ImageFault.{ImageFault}
use Rattle.shm_audit.specs.Faults.{first_fault, is_page_word, is_bad_page, is_bad_header, is_bad_tag, tag_suits}
use Rattle.shm_audit.proofs.Least.{none_below, some_below}

abbrev pub Test : Type 0
Test = Geometry → (Spot → ℕ) → Spot → Bool

-- whether the spot at an address passes the test
abbrev pub test_at : Test → Geometry → List ℕ → ℕ → Bool
test_at test g ws a = test g (see g ws) (spot_at g (classes_in g ws) a)

-- none below this address does
abbrev pub NoneBefore : Test → Geometry → List ℕ → ℕ → Type 0
NoneBefore test g ws n = (a : ℕ) → a < n → test_at test g ws a ≡ false

by_see : (test : Test) (g : Geometry) (ws : List ℕ) → GeometryFits g → (a : ℕ) → test g (see g ws) (spot_at g (classes (see g ws)) a) ≡ test_at test g ws a
by_see test g ws f a = ap (λ c. test g (see g ws) (spot_at g c a)) (classes-see g ws f)

pub no_fault : (test : Test) (g : Geometry) (ws : List ℕ) (kind : ℕ → ℕ → ImageFault) → GeometryFits g → NoneBefore test g ws (total_of g) → first_fault g ws test kind ≡ None
no_fault test g ws kind f h = ap (option_map (λ a. kind a (get_or ws a 0))) (none_below (total_of g) _ (λ a l. by_see test g ws f a ∙ h a l))

pub a_fault : (test : Test) (g : Geometry) (ws : List ℕ) (kind : ℕ → ℕ → ImageFault) (a : ℕ) → GeometryFits g → a < total_of g → test_at test g ws a ≡ true → NoneBefore test g ws a → first_fault g ws test kind ≡ Some (kind a (get_or ws a 0))
a_fault test g ws kind a f l is h = ap (option_map (λ b. kind b (get_or ws b 0))) (some_below (total_of g) _ a l (by_see test g ws f a ∙ is) (λ b m. by_see test g ws f b ∙ h b m))

-- ---- pages

page_here : (g : Geometry) (class : ℕ → ℕ → ℕ) (a : ℕ) → pages g ≤ a → a < bodies g → spot_at g class a ≡ Page ((a - pages g) / 16) ((a - pages g) % 16)
unfolding spot_at place_at
page_here g class a l m = grind (arith, nat_tests)

pub page_test : (g : Geometry) (ws : List ℕ) (a : ℕ) → pages g ≤ a → a < bodies g → test_at is_bad_page g ws a ≡ not (is_page_word (get_or ws a 0))
page_test g ws a l m =
    let e = page_here g (classes_in g ws) a l m in
    let s = see_at g ws a _ (is_below g (classes_in g ws) a _ e (λ z. cc)) e in
    ap (is_bad_page g (see g ws)) e ∙ ap (λ k. not (is_page_word k)) s

pub before_pages : (g : Geometry) (w : Spot → ℕ) (class : ℕ → ℕ → ℕ) (a : ℕ) → a < pages g → is_bad_page g w (spot_at g class a) ≡ false
unfolding spot_at place_at
before_pages g w class a l = grind (arith, nat_tests)

pub behind_pages : (g : Geometry) (w : Spot → ℕ) (class : ℕ → ℕ → ℕ) (a : ℕ) → bodies g ≤ a → is_bad_page g w (spot_at g class a) ≡ false
unfolding spot_at place_at
behind_pages g w class a l = grind (arith, nat_tests)

-- ---- headers and tags

pub header_test : (g : Geometry) (ws : List ℕ) (a b : ℕ) → spot_at g (classes_in g ws) a ≡ Head b → test_at is_bad_header g ws a ≡ (not (eqb (get_or ws a 0) 0) && not ((header_of (get_or ws a 0)).live && ltb (header_of (get_or ws a 0)).client g.clients))
header_test g ws a b e =
    let s = see_at g ws a (Head b) (is_below g (classes_in g ws) a (Head b) e (λ z. cc)) e in
    ap (is_bad_header g (see g ws)) e ∙ ap (λ k. not (eqb k 0) && not ((header_of k).live && ltb (header_of k).client g.clients)) s

pub tag_test : (g : Geometry) (ws : List ℕ) (a b : ℕ) → GeometryFits g → spot_at g (classes_in g ws) a ≡ Tag b → test_at is_bad_tag g ws a ≡ ((header_of (get_or ws b 0)).live && not (tag_suits g.clients (class_at g (classes_in g ws) b) (tag_of g.wide (get_or ws a 0))))
tag_test g ws a b f e =
    let t = tag_block g (classes_in g ws) a b e in
    let s = see_at g ws a (Tag b) t.2 e in
    let h = see_at g ws b (Head b) (is_below g (classes_in g ws) b (Head b) t.0 (λ z. cc)) t.0 in
    ap (is_bad_tag g (see g ws)) e
    ∙ (ap (λ k. (header_of k).live && not (tag_suits g.clients (class_at g (classes (see g ws)) b) (tag_of g.wide (see g ws (Tag b))))) h
    ∙ (ap (λ c. (header_of (get_or ws b 0)).live && not (tag_suits g.clients (class_at g c b) (tag_of g.wide (see g ws (Tag b))))) (classes-see g ws f)
    ∙ ap (λ k. (header_of (get_or ws b 0)).live && not (tag_suits g.clients (class_at g (classes_in g ws) b) (tag_of g.wide k))) s))

pub other_tag : (g : Geometry) (w : Spot → ℕ) (p : Spot) → ((b : ℕ) → p ≡ Tag b → ⊥) → is_bad_tag g w p ≡ false
other_tag g w (Tag b) h = absurd (h b refl)
other_tag g w _ h = refl

-- ---- statuses

status_in : (g : Geometry) (c : ℕ) → c < g.clients → is_in g (place.Status c) ≡ true
status_in g c l = lt-ltb c g.clients l

status_spot : (g : Geometry) (class : ℕ → ℕ → ℕ) (c : ℕ) → c < g.clients → spot_at g class (address g (place.Status c)) ≡ Status c
unfolding spot_at
status_spot g class c l = ap (spot_of class (address g (place.Status c))) (place-address g (place.Status c) (status_in g c l))

pub status_word : (g : Geometry) (ws : List ℕ) (c : ℕ) → GeometryFits g → c < g.clients → see g ws (Status c) ≡ get_or ws (address g (place.Status c)) 0
status_word g ws c f l = see_at g ws (address g (place.Status c)) (Status c) (address_below g (place.Status c) (status_in g c l) f) (status_spot g (classes_in g ws) c l)
