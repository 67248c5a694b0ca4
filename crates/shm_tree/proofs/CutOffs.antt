-- Where what found no word step is cut off: in the midst of a call, or between two of them.
use Rattle.shm_tree.specs.{declared.{hints.Hints.Hints, stop.Stop.Stop}, Changing.Changes, Falling.AreFalling}
use Rattle.shm_tree.specs.{Looking.Looks, Working.{DiedBegun, DiedIn, IsCutOff, IsSameLatch, IsWorking}}
use Rattle.shm_tree.specs.declared.stop.Stop.TheVariants as stop
use Rattle.shm_tree.proofs.{Alive.went_dead, Lasts.{last_any, last_ran}}
use Rattle.std.proofs.Common.{◌≡◌, ℕ, zero, suc, Bool, true, false, Err, inl, inr, refl, ap, ◌∙◌, arith}
use Rattle.shm_plain.specs.{Calls.Ran, Pools.{Pool, memo_of}}
use Rattle.shm_count.specs.Roots.{root_word}

-- ---- a call that was run

pub cut_ran : {fresh : Bool} {p q : Pool} {x y : ℕ} → Ran 0 fresh false p q x y → IsCutOff p q
cut_ran {x = zero} r = inr (ap (λ (z : Pool). (memo_of z 0).latch) (r.still refl refl))
cut_ran {x = suc n} r = inl (r.within refl (omega arith))

-- also with what is left of its word steps
pub died_ran : {fresh : Bool} {p q : Pool} {x y : ℕ} (e : Stop) → Ran 0 fresh false p q x y → DiedIn e p q y
died_ran e r = λ d. (r.died refl, cut_ran r)

-- a drop of a root is in its midst, or did nothing
pub begun_ran : {fresh : Bool} {p q : Pool} {x y : ℕ} (e : Stop) → Ran 0 fresh false p q x y → DiedBegun e p q x
begun_ran {x = zero} e r = λ d. inr (inl (refl, λ k. ap (λ (z : Pool). root_word 0 (memo_of z 0) k) (r.still refl refl)))
begun_ran {x = suc n} e r = λ d. inl (r.within refl (omega arith))

-- ---- after another call, which left the latch as it was

pub cut_then : (p m q : Pool) → IsSameLatch p m → IsCutOff m q → IsCutOff p q
cut_then p m q same (inl h) = inl h
cut_then p m q same (inr h) = inr (h ∙ same)

pub died_then : (p m q : Pool) (y : ℕ) (e : Stop) → IsSameLatch p m → DiedIn e m q y → DiedIn e p q y
died_then p m q y e same h = λ d. ((h d).0, cut_then p m q same (h d).1)

-- ---- a call that looks

-- how it stops
abbrev pub LookDied : Stop → Pool → Pool → ℕ → Type 0
LookDied e p q y = (e ≡ stop.Died) × (y ≡ 0) × IsCutOff p q

pub look_died : (p q : Pool) (y : ℕ) (e : Stop) → LookDied e p q y → DiedIn e p q y
look_died p q y e h = λ d. (h.1, h.2)

pub look_then : (p m q : Pool) (y : ℕ) (e : Stop) → IsSameLatch p m → LookDied e m q y → LookDied e p q y
look_then p m q y e same h = (h.0, h.1, cut_then p m q same h.2)

pub looks_dead : {T : Type 0} {p q : Pool} {x y : ℕ} → IsWorking p → Ran 0 true false p q x y → (AreFalling p → AreFalling q) → Looks {T = T} (Err stop.Died) p q x y
looks_dead {p = p} {q = q} wp ran falls = record { went = went_dead true p q _ _ wp ran falls; working = tt; latch = tt; still = tt; reaches = tt; died = (refl, ran.died refl, cut_ran ran) }

-- ---- a call that changes something

pub changes_dead : {hints : Hints} {T : Type 0} {c : ℕ} {L : Pool → Pool → Type 0} {p q : Pool} {x y : ℕ} → IsWorking p → Ran 0 true false p q x y → (AreFalling p → AreFalling q) → Changes {T = T} hints c L (Err stop.Died) p q x y
changes_dead {p = p} {q = q} wp ran falls = record { went = went_dead true p q _ _ wp ran falls; working = tt; latch = tt; reaches = tt; refused = tt; steps = tt; cause = tt; died = died_ran _ ran; late = λ d. last_any _ (last_ran wp ran) }
