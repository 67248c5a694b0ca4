-- what the control of a count step keeps in range, it keeps there
use Rattle.std.proofs.Common.{◌≡◌, ◌≢◌, ℕ, ◌-◌, ◌^◌, ◌==◌, ◌&&◌, nat_lt, if◌then◌else◌, Bool, true, false, subst, sym, arith, refl}
use Rattle.std.proofs.lemmas.Bool.{true≢false, Decides.nat_tests}
use Rattle.shm_words.specs.Headers.{header_of}
use Rattle.shm_graph.specs.declared.ask.Me.{Me}
use Rattle.shm_count.specs.declared.point.{Aim.{Aim, TheVariants.{Up, Down, Change}}, Half.Half}
use Rattle.shm_count.specs.declared.point.{Half.TheVariants.{First, Second}, StepPoint.StepPoint}
use Rattle.shm_count.specs.declared.point.StepPoint.TheVariants.{Era, More, Redo, Load, Row, Show, Exchange, Slot, Close, Over}
use Rattle.shm_count.specs.declared.point.{StepState.StepState, StepNext.{StepNext, TheVariants.{Point, Answer}}}
use Rattle.shm_count.specs.Step.Control.{point_of, raises, era_next, header_next, row_next, committed_next, closed_next, step_next_at, step_next, PartFits, EraFits, PointFits, StepInRange, first_next}

-- where it goes on, the point is in range
abbrev pub NextFits : Me → Aim → StepNext → Type 0
NextFits me x (Point y) = PointFits me x y
NextFits me x (Answer a) = Unit {0}

-- one of two ways, each in range where it is taken
chosen : (me : Me) (x : Aim) (b : Bool) (y z : StepNext) → (b ≡ true → NextFits me x y) → (b ≡ false → NextFits me x z) → NextFits me x (if b then y else z)
chosen me x true y z f h = f refl
chosen me x false y z f h = h refl

-- each step has a first half
first_part : (x : Aim) → PartFits x First
first_part (Up b) = tt
first_part (Down b) = tt
first_part (Change a b) = tt

-- the store that begins a step at an own era that leaves room is in range
pub first_fits : (me : Me) (x : Aim) (n : ℕ) → EraFits x n First → NextFits me x (first_next me n)
first_fits me x n era = go me.geometry.wide refl
  where
    go : (b : Bool) → me.geometry.wide ≡ b → PointFits me x (if b then More n else Redo n)
    go true e = (era, e)
    go false e = era

-- an own era that isn't past the last one leaves room
era_fits : (me : Me) (x : Aim) (n : ℕ) → NextFits me x (era_next me x n)
era_fits me (Up b) n = chosen me (Up b) (nat_lt (2 ^ 47 - 3) n) _ _ (λ e. tt) (λ e. first_fits me (Up b) n (grind (arith, nat_tests)))
era_fits me (Down b) n = chosen me (Down b) (nat_lt (2 ^ 47 - 3) n) _ _ (λ e. tt) (λ e. first_fits me (Down b) n (grind (arith, nat_tests)))
era_fits me (Change a b) n = chosen me (Change a b) (nat_lt (2 ^ 47 - 4) n) _ _ (λ e. tt) (λ e. first_fits me (Change a b) n (grind (arith, nat_tests)))

-- a count that isn't the greatest one, or that goes down, has room
count_fits : (up : Bool) (n : ℕ) → up && (n == 1023) ≡ false → up ≡ true → n ≢ 1023
count_fits true n e u = λ z. grind (arith, nat_tests)
count_fits false n e u = absurd (true≢false (sym u))

-- where it goes by the header of its block is in range
header_fits : (me : Me) (x : Aim) (e : ℕ) (h : Half) (w : ℕ) → EraFits x e h → PartFits x h → NextFits me x (header_next me x e h w)
header_fits me x e h w era half =
    chosen me x (raises x h && ((header_of w).count == 1023)) _ _ (λ z. tt)
    (λ z. chosen me x ((header_of w).client == me.who) _ _
    (λ k. (era, half, count_fits (raises x h) (header_of w).count z))
    (λ k. (era, half, count_fits (raises x h) (header_of w).count z)))

-- where it goes by the own row is in range
row_fits : (me : Me) (x : Aim) (e : ℕ) (h : Half) (w n : ℕ) → PointFits me x (Row e h w) → NextFits me x (row_next e h w n)
row_fits me x e h w n k = chosen me x (nat_lt n (header_of w).era) _ _ (λ z. k) (λ z. k)

-- where it goes once the header is exchanged is in range
committed_fits : (me : Me) (x : Aim) (e : ℕ) (h : Half) (w : ℕ) → EraFits x e h → PartFits x h → NextFits me x (committed_next x e h w)
committed_fits me x e First w era half = era
committed_fits me x e Second w era half = (era, half)

-- the own era of a change's second half is the next one
closed_fits : (me : Me) (x : Aim) (e : ℕ) (h : Half) (z : Bool) → EraFits x e h → NextFits me x (closed_next x e h z)
closed_fits me (Up b) e h z era = tt
closed_fits me (Down b) e h z era = tt
closed_fits me (Change a b) e First z era = (omega arith, tt)
closed_fits me (Change a b) e Second z era = tt

-- where it goes from a point in range is in range
pub next_fits : (me : Me) (x : Aim) (y : StepPoint) (n : ℕ) → PointFits me x y → NextFits me x (step_next_at me x y n)
next_fits me x Era n k = era_fits me x n
next_fits me x (More e) n k = k.0
next_fits me x (Redo e) n k = (k, first_part x)
next_fits me x (Load e h) n k = header_fits me x e h n k.0 k.1
next_fits me x (Row e h w) n k = row_fits me x e h w n k
next_fits me x (Show e h w) n k = k
next_fits me x (Exchange e h w) n k = chosen me x (n == w) _ _ (λ z. committed_fits me x e h w k.0 k.1) (λ z. header_fits me x e h n k.0 k.1)
next_fits me x (Slot e z) n k = (k, first_part x)
next_fits me x (Close e h z) n k = closed_fits me x e h z k.0
next_fits me x Over n k = tt

-- where the control goes on, what it keeps in range stays there
pub knows_after : (m : StepState) (n : ℕ) → StepInRange m → (y : StepPoint) → step_next m n ≡ Point y → StepInRange (record m { point = y })
knows_after m n k y e =
    record {
      geometry = k.geometry;
      who = k.who;
      slot = k.slot;
      aim = k.aim;
      point = subst (NextFits m.me m.aim) e (next_fits m.me m.aim m.point n k.point);
    }

-- and so wherever it goes
pub knows_next : (m : StepState) (n : ℕ) → StepInRange m → StepInRange (record m { point = point_of (step_next m n) })
knows_next m n k = go (step_next m n) refl
  where
    go : (z : StepNext) → step_next m n ≡ z → StepInRange (record m { point = point_of z })
    go (Point y) e = knows_after m n k y e
    go (Answer a) e = record { geometry = k.geometry; who = k.who; slot = k.slot; aim = k.aim; point = tt }
