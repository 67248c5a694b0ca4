-- What a result that is something tells of its parts.
use Rattle.std.proofs.Common.{◌≡◌, ℕ, ◌^◌, ◌<◌, ◌≤◌, Bool, true, false, ◌&&◌, not, cond, ltb, eqb, Option, Some, None, refl, arith}
use Rattle.std.proofs.lemmas.Bool.Decides.{nat_tests}
use borrow.Author.Tests.{ltb-true}
use Rattle.shm_script.specs.{Numbers.small, Shapes.{both, given}, Faults.{between, below, other_than}}

pub both_is : {A B C : Type 0} (f : A → B → C) (a : Option A) (b : Option B) (c : C) → both f a b ≡ Some c → (x : A) × (y : B) × (a ≡ Some x) × (b ≡ Some y) × (f x y ≡ c)
both_is f (Some x) (Some y) c h = (x, y, refl, refl, cc)
both_is f (Some x) None c h = absurd cc
both_is f None b c h = absurd cc

pub given_is : {A B : Type 0} (f : A → B) (a : Option A) (c : B) → given f a ≡ Some c → (x : A) × (a ≡ Some x) × (f x ≡ c)
given_is f (Some x) c h = (x, refl, cc)
given_is f None c h = absurd cc

pub test_is : {A : Type 0} (b : Bool) (x c : A) → cond b (Some x) None ≡ Some c → (b ≡ true) × (x ≡ c)
test_is true x c h = (refl, cc)
test_is false x c h = absurd cc

pub small_is : (v n : ℕ) → small v ≡ Some n → (v ≡ n) × (n < 2 ^ 64)
small_is v n h = let t = test_is (ltb v (2 ^ 64)) v n h in let le : v < 2 ^ 64 = ltb-true _ _ t.0 in (t.1, omega arith)

pub below_is : (bound : ℕ) (o : Option ℕ) (n : ℕ) → below bound o ≡ Some n → (o ≡ Some n) × (n < bound)
below_is bound (Some m) n h = let t = test_is (ltb m bound) m n h in let lt : m < bound = ltb-true _ _ t.0 in (cc, omega arith)
below_is bound None n h = absurd cc

pub between_is : (low high : ℕ) (o : Option ℕ) (n : ℕ) → between low high o ≡ Some n → (o ≡ Some n) × (low ≤ n) × (n ≤ high)
between_is low high (Some m) n h =
    let t = test_is (not (ltb m low) && not (ltb high m)) m n h in
    let l : low ≤ m = grind (arith, nat_tests, t.0) in
    let k : m ≤ high = grind (arith, nat_tests, t.0) in
    (cc, omega arith, omega arith)
between_is low high None n h = absurd cc

other_by : (me m n : ℕ) (b : Bool) → eqb m me ≡ b → cond b None (Some m) ≡ Some n → (Some m ≡ Some n) × (n ≡ me → ⊥)
other_by me m n true e h = absurd cc
other_by me m n false e h = let is : m ≡ n = cc in (h, λ same. grind (arith, nat_tests))

pub other_is : (me : ℕ) (o : Option ℕ) (n : ℕ) → other_than me o ≡ Some n → (o ≡ Some n) × (n ≡ me → ⊥)
other_is me (Some m) n h = other_by me m n (eqb m me) refl h
other_is me None n h = absurd cc
