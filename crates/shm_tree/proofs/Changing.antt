-- Calls that change something, one after the other.
use Rattle.shm_tree.specs.{declared.{hints.Hints.{Hints, TheVariants.Off}, stop.Stop.Stop}, Changing.Changes}
use Rattle.shm_tree.specs.{Looking.Looks, Spending.HasDied, Working.{IsSameLatch, IsWorking, Reaches, Went}}
use Rattle.shm_tree.specs.declared.stop.Stop.TheVariants as stop
use Rattle.shm_tree.proofs.{Answering.{alive_map, cause_after, cause_by, refused_map}, Building.{Looked, went_on}}
use Rattle.shm_tree.proofs.{Counts.at_start, CutOffs.{died_then, look_died}, Lasts.{last_more, last_then}}
use Rattle.shm_tree.proofs.Spendings.{spent_call}
use Rattle.std.proofs.Common.{◌≡◌, ℕ, ◌+◌, ◌≤◌, ◌∙◌, refl, sym, subst, arith, Result, Ok, Err}
use Rattle.std.specs.Result.{IsErrAnd}
use Rattle.shm_words.specs.declared.geometry.Geometry.{Geometry}
use Rattle.shm_plain.specs.Pools.{Pool}

-- what such calls left, done, and how many word steps they took at most
pub record Changed (c : ℕ) (p q : Pool) (x y : ℕ) : Type 0 where
  pub went : Went p q x y
  pub working : IsWorking q
  pub latch : IsSameLatch p q
  pub reaches : Reaches p q
  pub steps : x ≤ y + c

-- calls that look are such
pub changed_looked : {p q : Pool} {x y : ℕ} (c : ℕ) → Looked p q x y → x ≤ y + c → Changed c p q x y
changed_looked c l few = record { went = l.went; working = l.working; latch = l.latch; reaches = l.reaches; steps = few }

pub changed_then : {hints : Hints} {T : Type 0} {v : T} {L : Pool → Pool → Type 0} {a : ℕ} {p q r : Pool} {x y z : ℕ} (b : Geometry → ℕ) → IsWorking p → Changed a p q x y → Changes hints (b q.start.geometry) L (Ok v) q r y z → Changed (a + b p.start.geometry) p r x z
changed_then {p = p} {q = q} {y = y} {z = z} b wp l h =
    let few : y ≤ z + b p.start.geometry = at_start b p q y z l.went.start h.steps in
    let before = l.steps in
    record {
      went = went_on wp.run l.went h.went;
      working = h.working;
      latch = h.latch ∙ l.latch;
      reaches = λ d s. h.reaches d (l.reaches d s);
      steps = omega (arith, few, before);
    }

-- as the last of them they are done
pub changes_done : {hints : Hints} {T : Type 0} {L : Pool → Pool → Type 0} {a c : ℕ} {p q : Pool} {x y : ℕ} (v : T) → a ≤ c → Changed a p q x y → Changes {T = T} hints c L (Ok v) p q x y
changes_done v le l = let few = l.steps in record { went = l.went; working = l.working; latch = l.latch; reaches = l.reaches; refused = tt; steps = omega (arith, few, le); cause = tt; died = tt; late = tt }

-- or one that stopped
pub changes_cut : {hints : Hints} {S T : Type 0} {L M : Pool → Pool → Type 0} {a c : ℕ} {p q r : Pool} {x y z : ℕ} (b : Geometry → ℕ) (e : Stop) → a + b p.start.geometry ≤ c → IsWorking p → Changed a p q x y → Changes {T = S} hints (b q.start.geometry) L (Err e) q r y z → (L q r → M p r) → Changes {T = T} hints c M (Err e) p r x z
changes_cut {hints = hints} {S = S} {T = T} {L = L} {M = M} {a = a} {c = c} {p = p} {q = q} {r = r} {x = x} {y = y} {z = z} b e le wp l h grow =
    let before = l.steps in
    record {
      went = went_on wp.run l.went h.went;
      working = alive_map S T (IsWorking r) (IsWorking r) e (λ v. v) h.working;
      latch = alive_map S T (IsSameLatch q r) (IsSameLatch p r) e (λ v. v ∙ l.latch) h.latch;
      reaches = alive_map S T (Reaches q r) (Reaches p r) e (λ v d s. v d (l.reaches d s)) h.reaches;
      refused = refused_map S T (L q r) (M p r) e grow h.refused;
      steps = alive_map S T (y ≤ z + b q.start.geometry) (x ≤ z + c) e (λ v. let few : y ≤ z + b p.start.geometry = at_start b p q y z l.went.start v in omega (arith, few, before, le)) h.steps;
      cause = cause_after p q r wp.run l.went.run l.went.start l.went.did hints e h.cause;
      died = died_then p q r z e l.latch h.died;
      late = λ d. last_more c le (last_then b wp l.went (spent_call a l.went l.steps) (h.late d));
    }

-- a call stopped as it is handed on, by what its exit tells
pub changes_from : {hints : Hints} {T : Type 0} {c : ℕ} {L : Pool → Pool → Type 0} {p q : Pool} {x y : ℕ} {e : Stop} (o : Result T Stop) → IsErrAnd o (λ v. v ≡ e) → Changes {T = T} hints c L (Err e) p q x y → Changes {T = T} hints c L o p q x y
changes_from (Ok a) is h = absurd is
changes_from {hints = hints} {T = T} {c = c} {L = L} {p = p} {q = q} {x = x} {y = y} (Err v) is h = subst (λ (w : Stop). Changes {T = T} hints c L (Err w) p q x y) (sym is) h

-- no word step was left for a call that looks
pub changes_first : {hints : Hints} {S T : Type 0} {c : ℕ} {L : Pool → Pool → Type 0} {p q : Pool} {x y : ℕ} {e : Stop} → Looks {T = S} (Err e) p q x y → (e ≡ stop.Died → HasDied c p q x) → Changes {T = T} hints c L (Err e) p q x y
changes_first {hints = hints} {T = T} {c = c} {L = L} {p = p} {q = q} {x = x} {y = y} l late =
    let d = l.died in
    subst (λ (v : Stop). Changes {T = T} hints c L (Err v) p q x y) (sym d.0) (record { went = l.went; working = tt; latch = tt; reaches = tt; refused = tt; steps = tt; cause = tt; died = look_died p q y stop.Died (refl, d.1, d.2); late = λ z. late d.0 })

-- a call without hints, as one with any
pub changes_by : {hints : Hints} {T : Type 0} {c : ℕ} {L : Pool → Pool → Type 0} {p q : Pool} {x y : ℕ} (o : Result T Stop) → Changes Off c L o p q x y → Changes hints c L o p q x y
changes_by (Ok v) h = record { went = h.went; working = h.working; latch = h.latch; reaches = h.reaches; refused = h.refused; steps = h.steps; cause = tt; died = tt; late = tt }
changes_by {hints = hints} {p = p} {q = q} (Err e) h = record { went = h.went; working = h.working; latch = h.latch; reaches = h.reaches; refused = h.refused; steps = h.steps; cause = cause_by hints p q e h.cause; died = h.died; late = h.late }
