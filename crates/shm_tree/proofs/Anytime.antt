-- What a machine may do to the graph of references at any moment, by its control alone: also where it is cut off.
use Rattle.std.proofs.Common.{◌==◌, ℕ, zero, suc, ◌<◌, Bool, true, false, cond, List, [], ◌∷◌, arith}
use Rattle.std.specs.List.{AllByRecursion, filter}
use Rattle.shm_graph.specs.{declared.{ask.Me.Me, spot.Spot.{Spot, TheVariants.Body}}, Asks.Trail}
use Rattle.shm_graph.specs.{Events.{Event, Nothing}, Laws.Control, Tells.{happens_along, is_event, tells_along}}
use Rattle.shm_plain.specs.{Calls.{Did, Ran}, Pools.{Pool, memo_of}}
use Rattle.shm_count.specs.declared.point.{Aim.{Aim, TheVariants.{Up, Down, Change}}, Half.Half}
use Rattle.shm_count.specs.declared.point.{Half.TheVariants.{First, Second}, StepPoint.StepPoint}
use Rattle.shm_count.specs.declared.{point.StepPoint.TheVariants.Exchange, tear_point.TearPoint.TearPoint}
use Rattle.shm_count.specs.{Step.Events.{event_of_half, step_event_at}, Tear.Events.tear_event_at}
use Rattle.shm_count.specs.declared.tear_point.TearPoint.TheVariants as tear
use Rattle.shm_tree.specs.{Falling.AreFalling, Working.IsWorking}
use Rattle.shm_tree.proofs.{Alive.quiet_did, Falls.{OnlyFalls, Ups, falling_kept}}

-- ---- machines

first_kept : (Good : Event → Type 0) (e : Event) (es : List Event) → Good e → AllByRecursion Good (filter is_event es) → AllByRecursion Good (filter is_event (e ∷ es))
first_kept Good e es good all = by (is_event e)
  where
    by : (z : Bool) → AllByRecursion Good (cond z (e ∷ filter is_event es) (filter is_event es))
    by true = (good, all)
    by false = all

-- where its states stay among these, and each of them tells a good event, all that it tells is good
pub only_along : {S A : Type 0} (k : Control S A) (does : S → ℕ → Event) (Is : S → Type 0) (Good : Event → Type 0) → ((m : S) (n : ℕ) → Is m → Is (k.after m n)) → ((m : S) (n : ℕ) → Is m → Good (does m n)) → (m : S) (tr : Trail) → Is m → AllByRecursion Good (happens_along k does m tr)
only_along k does Is Good stays good m [] is = tt
only_along k does Is Good stays good m (x ∷ tr) is = first_kept Good (does m x.word) (tells_along k does (k.after m x.word) tr) (good m x.word is) (only_along k does Is Good stays good (k.after m x.word) tr (stays m x.word is))

-- ---- count steps and tear-downs

-- the reference that a step makes in a word, if any, is such a one
abbrev pub AimsAt : (Spot → ℕ → Type 0) → Spot → Aim → Type 0
AimsAt P p (Up b) = P p b
AimsAt P p (Down b) = Unit {0}
AimsAt P p (Change a b) = P p b

module _ (P : Spot → ℕ → Type 0) where
  half_only : (me : Me) (x : Aim) (p : Spot) (h : Half) → AimsAt P p x → Ups P (event_of_half me x p h)
  half_only me (Up b) p h aims = aims
  half_only me (Down b) p h aims = tt
  half_only me (Change a b) p First aims = aims
  half_only me (Change a b) p Second aims = tt

  if_only : (z : Bool) (e : Event) → Ups P e → Ups P (cond z e Nothing)
  if_only true e h = h
  if_only false e h = tt

  pub step_only : (me : Me) (x : Aim) (p : Spot) (y : StepPoint) (n : ℕ) → AimsAt P p x → Ups P (step_event_at me x p y n)
  step_only me x p (Exchange e h w) n aims = if_only (n == w) (event_of_half me x p h) (half_only me x p h aims)
  step_only me x p _ n aims = tt

  pub tear_only : (me : Me) (b : ℕ) (y : TearPoint) (n : ℕ) → Ups P (tear_event_at me b y n)
  tear_only me b (tear.Down g i t y) n = step_only me (Down t) (Body b i) y n tt
  tear_only me b (tear.Free g) n = tt
  tear_only me b _ n = tt

-- ---- calls

-- What a call did to the graph is told, whether it was answered or not: where it makes only references that fall, references fall after it
pub told_falls : (answered : Bool) (p q : Pool) (x y : ℕ) → IsWorking p → Ran 0 true answered p q x y → (h : AreFalling p) → (0 < x → (es : List Event) × Did 0 p q es × AllByRecursion (OnlyFalls h.rank h.most) es) → AreFalling q
told_falls answered p q zero y w ran h told = falling_kept p q [] w.run ran.run ran.start (quiet_did true answered p q y w ran) h tt
told_falls answered p q (suc x) y w ran h told = let t = told (omega arith) in falling_kept p q t.0 w.run ran.run ran.start t.1 h t.2

-- such as one none of whose states makes a reference in a block or a home
pub always_falls : {S A : Type 0} (k : Control S A) (does : S → ℕ → Event) (m : S) (answered : Bool) (p q : Pool) (x y : ℕ) → ((r : ℕ → ℕ) (n : ℕ) (s : S) (i : ℕ) → OnlyFalls r n (does s i)) → IsWorking p → Ran 0 true answered p q x y → (0 < x → Did 0 p q (happens_along k does m (memo_of q 0).call)) → AreFalling p → AreFalling q
always_falls {S} k does m answered p q x y keeps w ran told h =
    told_falls answered p q x y w ran h (λ l. (_, told l, only_along k does (λ (s : S). Unit {0}) (OnlyFalls h.rank h.most) (λ s i u. tt) (λ s i u. keeps h.rank h.most s i) m (memo_of q 0).call tt))
