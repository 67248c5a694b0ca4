-- What stopped for want of a word step: how much had gone when its last call was begun.
use Rattle.std.proofs.Common.{◌≡◌, ℕ, zero, suc, ◌+◌, ◌≤◌, ◌⊎◌, true, false, [], length, refl, sym, ◌∙◌, arith, inl, inr, Result, Ok, Err}
use Rattle.std.specs.Result.{IsErrAnd}
use Rattle.shm_words.specs.declared.geometry.Geometry.{Geometry}
use Rattle.shm_plain.specs.{Calls.Ran, Pools.{Pool, memo_of}}
use Rattle.shm_plain.proofs.OwnTurns.{did_none}
use Rattle.shm_tree.specs.{declared.stop.Stop.Stop, Falling.KeepsFalling, Spending.{DiesAfter, HasDied, HasSpent}}
use Rattle.shm_tree.specs.Working.{IsInCall, IsWorking, Went}
use Rattle.shm_tree.specs.declared.stop.Stop.TheVariants as stop
use Rattle.shm_tree.proofs.{Links.went_then, Spendings.{spent_call, spent_more, spent_then}}

-- before a call nothing went
pub went_none : (p : Pool) (x : ℕ) → IsWorking p → Went p p x x
unfolding KeepsFalling
went_none p x w = record { start = refl; run = w.run; acts = w.work.acts; did = ([], did_none 0 p p refl); spent = refl; falls = λ h. h }

none_least : (n : ℕ) → 0 ≤ n
none_least n = omega arith

-- ---- a call that was run

in_call : {p q : Pool} {y : ℕ} (x : ℕ) → Ran 0 true false p q x y → (x ≡ 0) ⊎ (IsInCall q × (x ≡ length (memo_of q 0).call))
in_call zero ran = inl refl
in_call (suc n) ran = inr (ran.within refl (omega arith), let all = ran.spent (omega arith) refl in let none = ran.died refl in omega (arith, all, none))

pub last_ran : {p q : Pool} {x y : ℕ} → IsWorking p → Ran 0 true false p q x y → HasDied 0 p q x
last_ran {p = p} {q = q} {x = x} wp ran =
    let w = went_none p x wp in
    record { last = p; left = x; went = w; spent = spent_call 0 w (omega arith); on = ran.did; call = in_call x ran }

-- ---- what went before it

-- it may have been more
pub last_more : {a x : ℕ} {p q : Pool} (c : ℕ) → a ≤ c → HasDied a p q x → HasDied c p q x
last_more {a = a} c le d = record { last = d.last; left = d.left; went = d.went; spent = spent_more a c le d.spent; on = d.on; call = d.call }

pub last_any : {x : ℕ} {p q : Pool} (c : ℕ) → HasDied 0 p q x → HasDied c p q x
last_any c d = last_more c (none_least c) d

-- what another call took
pub last_then : {a x y : ℕ} {p m q : Pool} (b : Geometry → ℕ) → IsWorking p → Went p m x y → HasSpent a p m x y → HasDied (b m.start.geometry) m q y → HasDied (a + b p.start.geometry) p q x
last_then {p = p} {m = m} b wp w s d =
    record {
      last = d.last;
      left = d.left;
      went = went_then p m d.last _ _ _ wp.run w d.went;
      spent = spent_then b wp w d.went s d.spent;
      on = d.on;
      call = d.call;
    }

-- what calls took that tore nothing down
pub last_after : {b x y : ℕ} {p m q : Pool} (a c : ℕ) → a + b ≤ c → IsWorking p → Went p m x y → x ≤ y + a → HasDied b m q y → HasDied c p q x
last_after {b = b} a c le wp w few d = last_more c le (last_then (λ g. b) wp w (spent_call a w few) d)

-- ---- as it is handed on

pub late_from : {T : Type 0} {c x : ℕ} {p q : Pool} {e : Stop} (o : Result T Stop) → IsErrAnd o (λ v. v ≡ e) → (e ≡ stop.Died → HasDied c p q x) → DiesAfter c o p q x
late_from (Ok a) is d = tt
late_from (Err v) is d = λ died. d (sym is ∙ died)

pub late_kept : {T : Type 0} {a c x y : ℕ} {p m q : Pool} (o : Result T Stop) → (HasDied a m q y → HasDied c p q x) → DiesAfter a o m q y → DiesAfter c o p q x
late_kept (Ok v) f h = tt
late_kept (Err e) f h = λ died. f (h died)

-- in another call after one that took at most so many
pub late_then : {T : Type 0} {a x y : ℕ} {p m : Pool} (q : Pool) (c : ℕ) (b : Geometry → ℕ) (o : Result T Stop) → a + b p.start.geometry ≤ c → IsWorking p → Went p m x y → HasSpent a p m x y → DiesAfter (b m.start.geometry) o m q y → DiesAfter c o p q x
late_then q c b o le wp w s h = late_kept o (λ d. last_more c le (last_then b wp w s d)) h

-- what was refused didn't stop so
pub full_late : {c : ℕ} (s b : ℕ) (p q : Pool) (x : ℕ) → stop.Full s b ≡ stop.Died → HasDied c p q x
full_late s b p q x d = absurd cc

pub spent_late : {c : ℕ} (e : ℕ) (p q : Pool) (x : ℕ) → stop.EraSpent e ≡ stop.Died → HasDied c p q x
spent_late e p q x d = absurd cc
