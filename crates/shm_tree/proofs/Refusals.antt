-- What calls spend that come one after the other, of which the last was refused.
use Rattle.std.proofs.{Common.{◌≡◌, ℕ, ◌+◌, ◌*◌, ◌<◌, ◌≤◌, sym, ◌∙◌, subst, arith, Result, Ok, Err}, lemmas.Nat.mul-le}
use Rattle.std.specs.Result.{IsErrAnd}
use Rattle.shm_words.specs.declared.geometry.Geometry.{Geometry}
use Rattle.shm_plain.specs.Pools.{Pool}
use Rattle.shm_tree.specs.{declared.stop.Stop.Stop, Costing.{Costs, Spends}, Keeping.IsStill}
use Rattle.shm_tree.specs.Working.{IfAlive, IfRefused, IsWorking, Went}
use Rattle.shm_tree.specs.declared.stop.Stop.TheVariants as stop
use Rattle.shm_tree.proofs.{Answering.{refused_died, refused_map}, Building.made_more, Nodes.made_then}
use Rattle.shm_tree.proofs.Spendings.{spent_call, spent_more, spent_then}

pub spends_of : {n c : ℕ} {p q : Pool} {x y : ℕ} → Costs n c p q x y → Spends n c p q x y
spends_of s = record { made = s.made; spent = s.spent }

pub spends_more : {n a : ℕ} {p q : Pool} {x y : ℕ} (m b : ℕ) → n ≤ m → a ≤ b → Spends n a p q x y → Spends m b p q x y
spends_more {n = n} {a = a} {p = p} {q = q} m b l k s = record { made = made_more n m p q s.made l; spent = spent_more a b k s.spent }

pub spends_then : {n m a : ℕ} {p q r : Pool} {x y z : ℕ} (b : Geometry → ℕ) → IsWorking p → Went p q x y → Went q r y z → Spends n a p q x y → Spends m (b q.start.geometry) q r y z → Spends (n + m) (a + b p.start.geometry) p r x z
spends_then {n = n} {m = m} {p = p} {q = q} {r = r} b wp u v s t = record { made = made_then n m p q r wp.run u.run u.start s.made t.made; spent = spent_then b wp u v s.spent t.spent }

pub spends_still : {p q : Pool} {x y : ℕ} (c : ℕ) → Went p q x y → IsStill p q → x ≤ y + c → Spends 0 c p q x y
spends_still c w s few = record { made = s.made; spent = spent_call c w few }

-- ---- numbers

pub none_added : (n : ℕ) → 0 + n ≤ n
none_added n = omega arith

pub added_none : (n : ℕ) → n + 0 ≤ n
added_none n = omega arith

pub none_least : (n : ℕ) → 0 ≤ n
none_least n = omega arith

pub first_of : (a b : ℕ) → a ≤ a + b
first_of a b = omega arith

pub first_of_three : (a b c : ℕ) → a ≤ a + b + c
first_of_three a b c = omega arith

pub all_of : (a : ℕ) → a ≤ a
all_of a = omega arith

pub outer_two : (a b c : ℕ) → a + c ≤ a + b + c
outer_two a b c = omega arith

-- one more root than the first n of sixteen
pub one_root : (n d : ℕ) → n < 16 → n * d + d ≤ 16 * d
one_root n d low = let all = mul-le (n + 1) d 16 d (omega (arith, low)) (omega arith) in omega (arith, all)

-- ---- stops

-- what is said of a refusal that is handed on
pub handed : (S : Type 0) {T P : Type 0} (Q : Type 0) (e : Stop) (o : Result T Stop) → IsErrAnd o (λ v. v ≡ e) → (P → Q) → IfRefused {T = S} (Err e) P → IfRefused o Q
handed S Q e (Ok a) h f r = absurd h
handed S {T = T} {P = P} Q e (Err v) h f r = subst (λ (w : Stop). IfRefused {T = T} (Err w) Q) (sym h) (refused_map S T P Q e f r)

-- no word step was left
pub handed_over : {T : Type 0} (P : Type 0) {e : Stop} (o : Result T Stop) → IsErrAnd o (λ v. v ≡ e) → e ≡ stop.Died → IfRefused o P
handed_over P (Ok a) h d = absurd h
handed_over {T = T} P (Err v) h d = refused_died T P v (h ∙ d)

pub refused_kept : {T P : Type 0} (Q : Type 0) (o : Result T Stop) → (P → Q) → IfRefused o P → IfRefused o Q
refused_kept Q (Ok a) f h = tt
refused_kept {T = T} {P = P} Q (Err e) f h = refused_map T T P Q e f h

-- what is said of a call that came to an end is so of one that was refused
pub alive_refusals : {T : Type 0} (P : Type 0) (o : Result T Stop) → IfAlive o P → IfRefused o P
alive_refusals P (Ok a) h = tt
alive_refusals P (Err stop.Died) h = tt
alive_refusals P (Err (stop.Full s b)) h = h
alive_refusals P (Err (stop.CountFull b c)) h = h
alive_refusals P (Err (stop.EraSpent e)) h = h

pub refused_both : {T : Type 0} {P Q R : Type 0} (o : Result T Stop) → (P → Q → R) → IfRefused o P → IfRefused o Q → IfRefused o R
refused_both (Ok a) f h k = tt
refused_both (Err stop.Died) f h k = tt
refused_both (Err (stop.Full s b)) f h k = f h k
refused_both (Err (stop.CountFull b c)) f h k = f h k
refused_both (Err (stop.EraSpent e)) f h k = f h k

pub alive_two : {T : Type 0} {P Q R : Type 0} (o : Result T Stop) → (P → Q → R) → IfAlive o P → IfAlive o Q → IfAlive o R
alive_two (Ok a) f h k = f h k
alive_two (Err stop.Died) f h k = tt
alive_two (Err (stop.Full s b)) f h k = f h k
alive_two (Err (stop.CountFull b c)) f h k = f h k
alive_two (Err (stop.EraSpent e)) f h k = f h k

pub refused_three : {T : Type 0} {P Q R S : Type 0} (o : Result T Stop) → (P → Q → R → S) → IfAlive o P → IfAlive o Q → IfRefused o R → IfRefused o S
refused_three (Ok a) f h k l = tt
refused_three (Err stop.Died) f h k l = tt
refused_three (Err (stop.Full s b)) f h k l = f h k l
refused_three (Err (stop.CountFull b c)) f h k l = f h k l
refused_three (Err (stop.EraSpent e)) f h k l = f h k l
