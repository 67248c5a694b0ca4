-- How many word steps calls of the client took, one after the other, and what they tore down.
use Rattle.std.specs.Prelude.{◌≡◌, ℕ, ◌+◌, ◌≤◌, ◌⊎◌, List, length, Result, IfErr}
use Rattle.shm_graph.specs.{Bounds.tear_steps, Events.Event}
use Rattle.shm_plain.specs.{Calls.Did, Pools.{Pool, memo_of}}
use Rattle.shm_count.specs.Tear.Events.{frees}
use Rattle.shm_tree.specs.{declared.stop.Stop.Stop, Working.{IsInCall, IsSpent, Went}}
use Rattle.shm_tree.specs.declared.stop.Stop.TheVariants as stop

-- the client came from p to q by itself, and of x word steps y are left: at most c went, and those for each block that was freed or, where the own era is spent, left as a zero-count block
pub record HasSpent (c : ℕ) (p q : Pool) (x y : ℕ) : Type 0 where
  pub told : List Event
  pub did : Did 0 p q told
  pub left : ℕ
  pub none : (left ≡ 0) ⊎ IsSpent (memo_of q 0)
  pub most : x ≤ y + c + tear_steps p.start.geometry.wide (frees told + left)

-- The client came from p to q by itself, and of x word steps none is left. Up to a moment between two calls at most c went, as above; what was left then is none, or went in one call, which is cut off in its midst
pub record HasDied (c : ℕ) (p q : Pool) (x : ℕ) : Type 0 where
  pub last : Pool
  pub left : ℕ
  pub went : Went p last x left
  pub spent : HasSpent c p last x left
  pub on : (es : List Event) × Did 0 last q es
  pub call : (left ≡ 0) ⊎ (IsInCall q × (left ≡ length (memo_of q 0).call))

-- where it stopped for want of a word step it was so
abbrev pub DiesAfter : {T : Type 0} → ℕ → Result T Stop → Pool → Pool → ℕ → Type 0
DiesAfter c r p q x = IfErr r (λ e. e ≡ stop.Died → HasDied c p q x)
