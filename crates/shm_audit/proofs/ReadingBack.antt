-- the image of a pool, read back
use Rattle.std.proofs.Common.{◌≡◌, ℕ, zero, suc, ◌+◌, ◌*◌, ◌/◌, ◌^◌, ◌<◌, Bool, true, false, not, ◌||◌, eqb, ltb, cond, List, [], ◌∷◌, ◌++◌, length, get_or, drop, refl, ap, ◌∙◌, arith}
use Rattle.std.proofs.lemmas.{Bool.{cond-false, eq-eqb, ne_eqb, Decides.nat_tests}, Nat.from_le_bytes-to_le_bytes_8}
use Rattle.std.specs.{Prelude.{Option, Some, None, map}, List.flat_map, Int.{w64, from_le_bytes, to_le_bytes}}
use Rattle.std.specs.Simd.{first_chunks}
use Rattle.shm_words.specs.{declared.geometry.Geometry.Geometry, Layout.{GeometryFits, total_of}}
use Rattle.shm_words.proofs.Placing.{segments_few}
use Rattle.shm_audit.specs.declared.fault.ImageFault.{ImageFault}
use Rattle.shm_audit.specs.Images.{image_of, mark, marks, numbers, numbers_in, geometry_in, words_in}
use Rattle.shm_audit.specs.Faults.{frame_fault_of, image_len, is_size}
use Rattle.shm_audit.specs.declared.fault.ImageFault.TheVariants as fault

abbrev pub AreWords : List ℕ → Type 0
AreWords ws = (i : ℕ) → get_or ws i 0 < 2 ^ 64

-- the bytes of some numbers
abbrev bytes : List ℕ → List ℕ
bytes = flat_map (to_le_bytes w64)

many_bytes : (xs : List ℕ) → length (bytes xs) ≡ 8 * length xs
many_bytes [] = refl
many_bytes (x ∷ xs) = let i : length (flat_map (to_le_bytes w64) xs) ≡ 8 * length xs = many_bytes xs in omega arith

runs : (xs : List ℕ) → first_chunks 8 (length xs) (bytes xs) ≡ map (to_le_bytes w64) xs
runs [] = refl
runs (x ∷ xs) = ap (λ r. to_le_bytes w64 x ∷ r) (runs xs)

there_and_back : (xs : List ℕ) → AreWords xs → numbers (map (to_le_bytes w64) xs) ≡ xs
there_and_back [] h = refl
there_and_back (x ∷ xs) h =
    ap (λ y. y ∷ numbers (map (to_le_bytes w64) xs)) (from_le_bytes-to_le_bytes_8 x (h 0))
    ∙ ap (λ r. x ∷ r) (there_and_back xs (λ i. h (suc i)))

pub read_back : (xs : List ℕ) → AreWords xs → numbers_in (bytes xs) ≡ xs
read_back xs h =
    let l = many_bytes xs in
    let k : length (bytes xs) / 8 ≡ length xs = omega arith in
    ap (λ n. numbers (first_chunks 8 n (bytes xs))) k ∙ (ap numbers (runs xs) ∙ there_and_back xs h)

-- ---- images

-- what an image begins with, as a number
abbrev magic : Bool → ℕ
magic wide = from_le_bytes w64 (mark wide)

abbrev content : Geometry → List ℕ → List ℕ
content g ws = magic g.wide ∷ g.clients ∷ g.segments ∷ ws

mark_bytes : (wide : Bool) (xs : List ℕ) → mark wide ++ bytes xs ≡ bytes (magic wide ∷ xs)
mark_bytes false xs = refl
mark_bytes true xs = refl

image_bytes : (g : Geometry) (ws : List ℕ) → image_of g ws ≡ bytes (content g ws)
image_bytes g ws = mark_bytes g.wide (g.clients ∷ g.segments ∷ ws)

magic_small : (wide : Bool) → magic wide < 2 ^ 64
magic_small false = omega arith
magic_small true = omega arith

content_words : (g : Geometry) (ws : List ℕ) → GeometryFits g → AreWords ws → AreWords (content g ws)
content_words g ws f h zero = magic_small g.wide
content_words g ws f h (suc zero) = let c = f.clients in omega arith
content_words g ws f h (suc (suc zero)) = let s = segments_few g f in omega arith
content_words g ws f h (suc (suc (suc i))) = h i

pub numbers_back : (g : Geometry) (ws : List ℕ) → GeometryFits g → AreWords ws → numbers_in (image_of g ws) ≡ content g ws
numbers_back g ws f h = ap numbers_in (image_bytes g ws) ∙ read_back (content g ws) (content_words g ws f h)

-- the mark of format 2 is that of format 2 alone
is_wide : (wide : Bool) → marks true (magic wide) ≡ wide
is_wide true = refl
is_wide false = ne_eqb (magic false) (magic true) (omega arith)

has_mark : (wide : Bool) → (marks false (magic wide) || marks true (magic wide)) ≡ true
has_mark true = refl
has_mark false = refl

-- the sizes that the numbers of an image announce
abbrev announced : List ℕ → Geometry
announced xs = record { clients = get_or xs 1 0; segments = get_or xs 2 0; wide = marks true (get_or xs 0 0) }

announced_same : (g : Geometry) (ws : List ℕ) → announced (content g ws) ≡ g
announced_same g ws = λ i. record { clients = g.clients; segments = g.segments; wide = is_wide g.wide i }

pub sizes_back : (g : Geometry) (ws : List ℕ) → GeometryFits g → AreWords ws → geometry_in (image_of g ws) ≡ g
sizes_back g ws f h = ap announced (numbers_back g ws f h) ∙ announced_same g ws

pub words_back : (g : Geometry) (ws : List ℕ) → GeometryFits g → AreWords ws → words_in (image_of g ws) ≡ ws
words_back g ws f h = ap (drop 3) (numbers_back g ws f h)

image_length : (g : Geometry) (ws : List ℕ) → length (image_of g ws) ≡ 24 + 8 * length ws
image_length g ws =
    let l : length (bytes (content g ws)) ≡ 8 * length (content g ws) = many_bytes (content g ws) in
    ap length (image_bytes g ws) ∙ (l ∙ omega arith)

-- the fault of a frame by its sizes, its numbers and how many bytes there are
abbrev frame_fault : ℕ → List ℕ → Geometry → Option ImageFault
frame_fault n xs g =
    cond (ltb n 24) (Some (fault.Short n))
    (cond (not (marks false (get_or xs 0 0) || marks true (get_or xs 0 0))) (Some (fault.Magic (get_or xs 0 0)))
    (cond (not (is_size g)) (Some (fault.Geometry g.clients g.segments))
    (cond (not (eqb n (image_len g))) (Some (fault.Length n (image_len g))) None)))

pub size_so : (g : Geometry) → GeometryFits g → is_size g ≡ true
size_so g f = let a = f.client in let b = f.clients in let c = f.segment in let d = f.segments in grind (arith, nat_tests)

no_frame_fault : (g : Geometry) (ws : List ℕ) (n : ℕ) → GeometryFits g → n ≡ image_len g → frame_fault n (content g ws) g ≡ None
no_frame_fault g ws n f e =
    cond-false (ltb n 24) _ _ (grind (arith, nat_tests))
    ∙ (cond-false (not (marks false (magic g.wide) || marks true (magic g.wide))) _ _ (ap not (has_mark g.wide))
    ∙ (cond-false (not (is_size g)) _ _ (ap not (size_so g f))
    ∙ cond-false (not (eqb n (image_len g))) _ _ (ap not (eq-eqb n (image_len g) e))))

pub frame_back : (g : Geometry) (ws : List ℕ) → GeometryFits g → length ws ≡ total_of g → AreWords ws → frame_fault_of (image_of g ws) ≡ None
frame_back g ws f w h =
    let image = image_of g ws in
    let e : length image ≡ image_len g = image_length g ws ∙ ap (λ k. 24 + 8 * k) w in
    ap (λ (xs : List ℕ). frame_fault (length image) xs (announced xs)) (numbers_back g ws f h)
    ∙ (ap (frame_fault (length image) (content g ws)) (announced_same g ws) ∙ no_frame_fault g ws (length image) f e)
