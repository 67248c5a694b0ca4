-- the numbers that bytes say, piece by piece
use Rattle.std.proofs.Common.{◌≡◌, ℕ, zero, suc, ◌+◌, ◌*◌, ◌/◌, ◌<◌, ◌≤◌, min, true, false, not, ◌||◌, eqb, ltb, cond, List, [], ◌∷◌, ◌++◌, length, length-append, get_or, take, drop, length-drop, length-take, refl, sym, ap, ◌∙◌, arith}
use Rattle.std.proofs.lemmas.Bool.{cond-true, cond-false, eq-eqb, le-ltb, ne_eqb}
use Rattle.std.proofs.lemmas.List.{drop-append-le, drop-map, get_or-append-add, get_or-drop, get_or-take, get_or_append_left, length-map, map-append, take-append-le, take-map}
use Rattle.std.proofs.Math.Seq.{drop-append_seam}
use Rattle.std.specs.{Prelude.{Option, Some, None}, Int.{w64, from_le_bytes}, Simd.first_chunks}
use Rattle.shm_words.specs.{declared.geometry.Geometry.Geometry, Layout.GeometryFits}
use Rattle.shm_audit.specs.{declared.fault.ImageFault.ImageFault, Faults.{frame_fault_of, image_len, is_size}}
use Rattle.shm_audit.specs.{Frames.Announces, Images.{geometry_in, marks, numbers, numbers_in, words_in}}
use Rattle.shm_audit.specs.Tallies.{AreFrom}
use Rattle.shm_audit.specs.declared.fault.ImageFault.TheVariants as fault
use Rattle.shm_audit.proofs.ReadingBack.{size_so}

chunks : (m k : ℕ) (x y : List ℕ) → length x ≡ 8 * m → first_chunks 8 (m + k) (x ++ y) ≡ first_chunks 8 m x ++ first_chunks 8 k y
chunks zero k [] y e = let z : 0 + k ≡ k = omega arith in ap (λ n. first_chunks 8 n y) z
chunks zero k (b ∷ x) y e = absurd (omega arith)
chunks (suc m) k x y e =
    let z : suc m + k ≡ suc (m + k) = omega arith in
    let l : 8 ≤ length x = omega arith in
    let d : length (drop 8 x) ≡ 8 * m = omega (arith, length-drop 8 x) in
    ap (λ n. first_chunks 8 n (x ++ y)) z
    ∙ (ap (λ r. r ∷ first_chunks 8 (m + k) (drop 8 (x ++ y))) (take-append-le 8 x y l)
    ∙ (ap (λ r. take 8 x ∷ first_chunks 8 (m + k) r) (drop-append-le 8 x y l)
    ∙ ap (λ r. take 8 x ∷ r) (chunks m k (drop 8 x) y d)))

chunks_length : (k : ℕ) (x : List ℕ) → length (first_chunks 8 k x) ≡ k
chunks_length zero x = refl
chunks_length (suc k) x = ap suc (chunks_length k (drop 8 x))

pub numbers_append : (m : ℕ) (x y : List ℕ) → length x ≡ 8 * m → numbers_in (x ++ y) ≡ numbers_in x ++ numbers_in y
numbers_append m x y e =
    let l = length-append x y in
    let n : length (x ++ y) / 8 ≡ m + length y / 8 = omega arith in
    let o : m ≡ length x / 8 = omega arith in
    ap (λ k. numbers (first_chunks 8 k (x ++ y))) n
    ∙ (ap numbers (chunks m (length y / 8) x y e)
    ∙ (map-append (from_le_bytes w64) (first_chunks 8 m x) (first_chunks 8 (length y / 8) y)
    ∙ ap (λ k. numbers (first_chunks 8 k x) ++ numbers_in y) o))

pub numbers_in_length : (x : List ℕ) → length (numbers_in x) ≡ length x / 8
numbers_in_length x = length-map (first_chunks 8 (length x / 8) x) (from_le_bytes w64) ∙ chunks_length (length x / 8) x

-- ---- words that stand from an address on, in two pieces

pub from_front : (ws x y : List ℕ) (first : ℕ) → AreFrom ws first (x ++ y) → AreFrom ws first x
from_front ws x y first h k l = let n = length-append x y in h k (omega arith) ∙ get_or_append_left x y 0 k l

pub from_back : (ws x y : List ℕ) (first next : ℕ) → next ≡ first + length x → AreFrom ws first (x ++ y) → AreFrom ws next y
from_back ws x y first next e h k l =
    let n = length-append x y in
    let a : next + k ≡ first + (length x + k) = omega arith in
    ap (λ i. get_or ws i 0) a ∙ (h (length x + k) (omega arith) ∙ get_or-append-add x y k 0)

pub from_self : (ws : List ℕ) → AreFrom ws 0 ws
from_self ws k l = let e : 0 + k ≡ k = omega arith in ap (λ i. get_or ws i 0) e

-- a part of the runs
pub from_slice : (runs : List (List ℕ)) (first n : ℕ) → AreFrom (numbers runs) first (numbers (take n (drop first runs)))
from_slice runs first n k l =
    let m : length (numbers (take n (drop first runs))) ≡ min n (length (drop first runs)) = length-map (take n (drop first runs)) (from_le_bytes w64) ∙ length-take n (drop first runs) in
    let below : k < n = omega arith in
    let e : numbers (take n (drop first runs)) ≡ take n (drop first (numbers runs)) = sym (take-map (from_le_bytes w64) n (drop first runs)) ∙ ap (take n) (sym (drop-map (from_le_bytes w64) first runs)) in
    sym (ap (λ xs. get_or xs k 0) e ∙ (get_or-take n (drop first (numbers runs)) k 0 below ∙ get_or-drop first (numbers runs) k 0))

pub from_take : (runs : List (List ℕ)) (n : ℕ) → AreFrom (numbers runs) 0 (numbers (take n runs))
from_take runs n = from_slice runs 0 n

-- ---- the first 24 bytes of an image

-- the fault of a frame by its sizes, its first number and how many bytes there are
abbrev frame_fault : ℕ → ℕ → Geometry → Option ImageFault
frame_fault n first g =
    cond (ltb n 24) (Some (fault.Short n))
    (cond (not (marks false first || marks true first)) (Some (fault.Magic first))
    (cond (not (is_size g)) (Some (fault.Geometry g.clients g.segments))
    (cond (not (eqb n (image_len g))) (Some (fault.Length n (image_len g))) None)))

module _ (frame rest : List ℕ) (h : length frame ≡ 24) where
  long : length (frame ++ rest) ≡ 24 + length rest
  long = length-append frame rest ∙ ap (λ n. n + length rest) h

  -- its first three numbers stand in the frame
  frame_number : (i : ℕ) → i < 3 → get_or (numbers_in (frame ++ rest)) i 0 ≡ get_or (numbers_in frame) i 0
  frame_number i l =
      let n = numbers_in_length frame in
      ap (λ xs. get_or xs i 0) (numbers_append 3 frame rest (omega arith)) ∙ get_or_append_left (numbers_in frame) (numbers_in rest) 0 i (omega arith)

  pub frame_words : words_in (frame ++ rest) ≡ numbers_in rest
  frame_words =
      let n : length (numbers_in frame) ≡ 3 = (let k = numbers_in_length frame in omega arith) in
      ap (drop 3) (numbers_append 3 frame rest (omega arith)) ∙ (ap (λ k. drop k (numbers_in frame ++ numbers_in rest)) (sym n) ∙ drop-append_seam (numbers_in frame) (numbers_in rest))

  frame_sizes : geometry_in (frame ++ rest) ≡ record { clients = get_or (numbers_in frame) 1 0; segments = get_or (numbers_in frame) 2 0; wide = marks true (get_or (numbers_in frame) 0 0) }
  frame_sizes = λ i. record { clients = frame_number 1 (omega arith) i; segments = frame_number 2 (omega arith) i; wide = marks true (frame_number 0 (omega arith) i) }

  frame_is : (first : ℕ) (g : Geometry) → get_or (numbers_in frame) 0 0 ≡ first → geometry_in (frame ++ rest) ≡ g → frame_fault_of (frame ++ rest) ≡ frame_fault (length (frame ++ rest)) first g
  frame_is first g e d = ap (λ n. frame_fault (length (frame ++ rest)) n (geometry_in (frame ++ rest))) (frame_number 0 (omega arith) ∙ e) ∙ ap (frame_fault (length (frame ++ rest)) first) d

  not_short : ltb (length (frame ++ rest)) 24 ≡ false
  not_short = le-ltb _ 24 (let l = long in omega arith)

  pub bad_mark : (first : ℕ) → get_or (numbers_in frame) 0 0 ≡ first → (marks false first || marks true first) ≡ false → frame_fault_of (frame ++ rest) ≡ Some (fault.Magic first)
  bad_mark first e bad =
      frame_is first (geometry_in (frame ++ rest)) e refl ∙ (cond-false (ltb (length (frame ++ rest)) 24) _ _ not_short ∙ cond-true (not (marks false first || marks true first)) _ _ (ap not bad))

  pub bad_sizes : (first : ℕ) (g : Geometry) → get_or (numbers_in frame) 0 0 ≡ first → (marks false first || marks true first) ≡ true → get_or (numbers_in frame) 1 0 ≡ g.clients → get_or (numbers_in frame) 2 0 ≡ g.segments → marks true first ≡ g.wide → is_size g ≡ false
      → frame_fault_of (frame ++ rest) ≡ Some (fault.Geometry g.clients g.segments)
  bad_sizes first g e good clients segments wide bad =
      frame_is first g e (frame_sizes ∙ (λ i. record { clients = clients i; segments = segments i; wide = (ap (marks true) e ∙ wide) i }))
      ∙ (cond-false (ltb (length (frame ++ rest)) 24) _ _ not_short ∙ (cond-false (not (marks false first || marks true first)) _ _ (ap not good) ∙ cond-true (not (is_size g)) _ _ (ap not bad)))

  pub announced : (first : ℕ) (g : Geometry) → get_or (numbers_in frame) 0 0 ≡ first → (marks false first || marks true first) ≡ true → get_or (numbers_in frame) 1 0 ≡ g.clients → get_or (numbers_in frame) 2 0 ≡ g.segments → marks true first ≡ g.wide → GeometryFits g
      → Announces g (frame ++ rest)
  announced first g e good clients segments wide fits =
      let d : geometry_in (frame ++ rest) ≡ g = frame_sizes ∙ (λ i. record { clients = clients i; segments = segments i; wide = (ap (marks true) e ∙ wide) i }) in
      let n = length (frame ++ rest) in
      let before : frame_fault_of (frame ++ rest) ≡ cond (not (eqb n (image_len g))) (Some (fault.Length n (image_len g))) None =
      frame_is first g e d ∙ (cond-false (ltb n 24) _ _ not_short ∙ (cond-false (not (marks false first || marks true first)) _ _ (ap not good) ∙ cond-false (not (is_size g)) _ _ (ap not (size_so g fits)))) in
      record {
        sizes = d;
        whole = λ l. before ∙ cond-false (not (eqb n (image_len g))) (Some (fault.Length n (image_len g))) None (ap not (eq-eqb n (image_len g) l));
        other = λ l. before ∙ cond-true (not (eqb n (image_len g))) (Some (fault.Length n (image_len g))) None (ap not (ne_eqb n (image_len g) l));
      }
