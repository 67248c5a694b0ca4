-- Reads one after another.
use Rattle.std.proofs.Common.{◌≡◌, ℕ, ◌+◌, ◌-◌, ◌<◌, ◌≤◌, min, List, [], ◌++◌, length, take, drop, Option, Some, None, refl, sym, ap, ◌∙◌, arith, subst}
use Rattle.std.proofs.Math.Seq.{take-add, take-append_seam, take-append-add}
use Rattle.std.proofs.lemmas.List.{append_assoc, drop-drop, length-append, length-drop, length-take, length-take-le, take_all, drop_all}
use Rattle.std.specs.Io.KnownBytes.{IsAtEnd}
use Rattle.shm_io.specs.Reading.{LosesFront, Moves, ReadsOn, TakesFront}

-- k bytes, and then n more
pub ReadsOn-more : (a b c : Option (List ℕ)) (bytes more : List ℕ) (k n : ℕ) → ReadsOn a b [] bytes k → ReadsOn b c bytes more n → ReadsOn a c [] more (k + n)
ReadsOn-more None b c bytes more k n first next = rw first at next
ReadsOn-more (Some left) b c bytes more k n first next =
    let then : ReadsOn (Some (drop k left)) c bytes more n = subst (λ o. ReadsOn o c bytes more n) first.1 next in (
      omega (arith, length-drop k left, then.0, first.0),
      then.1 ∙ ap Some (drop-drop n k left),
      then.2 ∙ ap (λ p. p ++ take n (drop k left)) first.2 ∙ sym (take-add k n left),
    )

-- all bytes were read, and then a read found the end
pub TakesFront-end : (a b c : Option (List ℕ)) (bytes more : List ℕ) (k n limit : ℕ) → ReadsOn a b [] bytes k → ReadsOn b c bytes more n → IsAtEnd b → k ≤ limit → TakesFront a c limit more
TakesFront-end None b c bytes more k n limit first next at le = rw first at next
TakesFront-end (Some left) b c bytes more k n limit first next at le =
    let none : drop k left ≡ [] = subst IsAtEnd first.1 at in
    let all : length left ≤ k = omega (arith, ap length none, length-drop k left) in
    let below : length left ≤ limit = omega arith in
    let over : length left ≤ k + n = omega arith in
    let both : ReadsOn (Some left) c [] more (k + n) = ReadsOn-more (Some left) b c bytes more k n first next in
    record {
      front = both.2 ∙ take_all (k + n) left over ∙ sym (take_all limit left below);
      left = both.1 ∙ ap Some (drop_all (k + n) left over ∙ sym (drop_all limit left below));
    }

-- ---- reads of as many bytes as a limit

-- one limit, and then another
pub TakesFront-then : (a b c : Option (List ℕ)) (m k : ℕ) (front more : List ℕ) → TakesFront a b m front → TakesFront b c k more → TakesFront a c (m + k) (front ++ more)
TakesFront-then None b c m k front more first next = rw first at next
TakesFront-then (Some left) b c m k front more first next =
    let then : TakesFront (Some (drop m left)) c k more = subst (λ o. TakesFront o c k more) first.left next in
    record {
      front = ap (λ p. p ++ more) first.front ∙ (ap (λ p. take m left ++ p) then.front ∙ sym (take-add m k left));
      left = then.left ∙ ap Some (drop-drop k m left);
    }

-- fewer bytes than a limit are those up to a higher one too
pub TakesFront-short : (a b : Option (List ℕ)) (m limit : ℕ) (bytes : List ℕ) → TakesFront a b m bytes → length bytes < m → m ≤ limit → TakesFront a b limit bytes
TakesFront-short None b m limit bytes t few le = t
TakesFront-short (Some left) b m limit bytes t few le =
    let k : length bytes ≡ min m (length left) = ap length t.front ∙ length-take m left in
    let all : length left ≤ m = omega arith in
    let below : length left ≤ limit = omega arith in
    record {
      front = t.front ∙ (take_all m left all ∙ sym (take_all limit left below));
      left = t.left ∙ ap Some (drop_all m left all ∙ sym (drop_all limit left below));
    }

-- nothing up to the limit 0
pub TakesFront-none : (a : Option (List ℕ)) → TakesFront a a 0 []
TakesFront-none None = refl
TakesFront-none (Some left) = record { front = refl; left = refl }

-- a front, and then another that was lost
pub LosesFront-then : (a b c : Option (List ℕ)) (m k limit : ℕ) (front : List ℕ) → TakesFront a b m front → LosesFront b c k → m + k ≤ limit → LosesFront a c limit
LosesFront-then None b c m k limit front first next le = rw first at next
LosesFront-then (Some left) b c m k limit front first next le =
    let then : LosesFront (Some (drop m left)) c k = subst (λ o. LosesFront o c k) first.left next in
    (m + then.0, (let l = then.1 in omega arith), then.2 ∙ ap Some (drop-drop then.0 m left))

-- ---- a buffer that fills

-- k bytes in the front of a buffer, and then n more behind them
pub fill_more : (a b c : Option (List ℕ)) (into old part rest now : List ℕ) (k n : ℕ) → k ≤ length into → ReadsOn a b [] (take k into) k → Moves b c old part n → now ≡ take k into ++ (part ++ rest) → ReadsOn a c [] (take (k + n) now) (k + n)
fill_more None b c into old part rest now k n le first moved is = rw first at moved
fill_more (Some left) b c into old part rest now k n le first moved is =
    let then : Moves (Some (drop k left)) c old part n = subst (λ o. Moves o c old part n) first.1 moved in
    let len : length (take k into) ≡ k = length-take-le k into le in
    let few : length (take n (drop k left)) ≡ n = length-take-le n (drop k left) then.enough in
    let more : part ++ rest ≡ take n (drop k left) ++ (drop n old ++ rest) = ap (λ p. p ++ rest) then.piece ∙ append_assoc (take n (drop k left)) (drop n old) rest in
    let next : take n (part ++ rest) ≡ take n (drop k left) = ap (take n) more ∙ seam (take n (drop k left)) (drop n old ++ rest) n few in
    let both : take (k + n) now ≡ take k into ++ take n (part ++ rest) = ap (take (k + n)) is ∙ behind (take k into) (part ++ rest) k n len in (
      omega (arith, then.enough, length-drop k left, first.0),
      then.left ∙ ap Some (drop-drop n k left),
      both ∙ (ap (λ p. take k into ++ p) next ∙ (ap (λ p. p ++ take n (drop k left)) first.2 ∙ sym (take-add k n left))),
    )
  where
    seam : (xs ys : List ℕ) (m : ℕ) → length xs ≡ m → take m (xs ++ ys) ≡ xs
    seam xs ys m e = ap (λ j. take j (xs ++ ys)) (sym e) ∙ take-append_seam xs ys

    behind : (xs ys : List ℕ) (m j : ℕ) → length xs ≡ m → take (m + j) (xs ++ ys) ≡ xs ++ take j ys
    behind xs ys m j e = ap (λ i. take (i + j) (xs ++ ys)) (sym e) ∙ take-append-add xs ys j

-- the bytes up to a read that found the end
pub fill_end : (a b c : Option (List ℕ)) (into old part rest now : List ℕ) (k n limit : ℕ) → k ≤ length into → ReadsOn a b [] (take k into) k → Moves b c old part n → now ≡ take k into ++ (part ++ rest) → n ≡ 0 → IsAtEnd b → k ≤ limit → TakesFront a c limit (take k now)
fill_end a b c into old part rest now k n limit le first moved is none at below =
    let e : k + n ≡ k = omega arith in
    let all : ReadsOn a c [] (take k now) k = subst (λ j. ReadsOn a c [] (take j now) j) e (fill_more a b c into old part rest now k n le first moved is) in
    end a first all
  where
    end : (o : Option (List ℕ)) → ReadsOn o b [] (take k into) k → ReadsOn o c [] (take k now) k → TakesFront o c limit (take k now)
    end None first all = all
    end (Some left) first all =
        let none : drop k left ≡ [] = subst IsAtEnd first.1 at in
        let few : length left ≤ k = omega (arith, ap length none, length-drop k left) in
        let fewer : length left ≤ limit = omega arith in
        record {
          front = all.2 ∙ take_all k left few ∙ sym (take_all limit left fewer);
          left = all.1 ∙ ap Some (drop_all k left few ∙ sym (drop_all limit left fewer));
        }

-- ---- bytes that nobody keeps

-- some n bytes came up to a limit
abbrev pub Skips : Option (List ℕ) → Option (List ℕ) → ℕ → ℕ → Type 0
Skips before after limit n = (bytes : List ℕ) × (length bytes ≡ n) × TakesFront before after limit bytes

joined : (a b c : Option (List ℕ)) (m k n : ℕ) (into : List ℕ) → Skips a b m m → TakesFront b c k (take n into) → n ≤ length into → Skips a c (m + k) (m + n)
joined a b c m k n into s t l =
    (s.0 ++ take n into, omega (arith, length-append s.0 (take n into), length-take-le n into l, s.1), TakesFront-then a b c m k s.0 (take n into) s.2 t)

-- a piece that isn't full is the last one
pub skips_end : (a b c : Option (List ℕ)) (m k n limit : ℕ) (into : List ℕ) → Skips a b m m → TakesFront b c k (take n into) → n ≤ length into → n < k → m + k ≤ limit → Skips a c limit (m + n)
skips_end a b c m k n limit into s t l few le =
    let j = joined a b c m k n into s t l in
    (j.0, j.1, TakesFront-short a c (m + k) limit j.0 j.2 (omega (arith, j.1)) le)

pub skips_on : (a b c : Option (List ℕ)) (m k n : ℕ) (into : List ℕ) → Skips a b m m → TakesFront b c k (take n into) → n ≤ length into → n ≡ k → Skips a c (m + n) (m + n)
skips_on a b c m k n into s t l e =
    let j = joined a b c m k n into s t l in
    (j.0, j.1, subst (λ i. TakesFront a c (m + i) j.0) (sym e) j.2)
