-- How a forest asks for the block of a node, and what that leaves.
use Rattle.std.specs.{Option.is_some, Prelude.{◌≡◌, ◌≢◌, ◌↔◌, ◌⊎◌, ℕ, ◌<◌, true, List, length, Option, Result, is_err, IfOk, IfSome}}
use Rattle.shm_words.specs.declared.geometry.Geometry.{Geometry}
use Rattle.shm_graph.specs.Tells.{happens_along}
use Rattle.shm_plain.specs.{Calls.{Did, IsAtWork, Ran}, Pools.{Pool, memo_of}}
use Rattle.shm_count.specs.{declared.answer.Made.Made, Roots.{member, root_word}}
use Rattle.shm_alloc.specs.declared.{alloc.{AllocFault.AllocFault, TooLarge.TooLarge}, point.AllocState.AllocState, request.Near.Near}
use Rattle.shm_alloc.specs.{Alloc.{AllocGives, Control.alloc_control, Events.{alloc_event, own_events}}, Hints.no_hint}
use Rattle.shm_client.specs.Allocating.{IsAsked, IsAskedNear}
use Rattle.shm_tree.specs.declared.hints.Hints.{Hints, TheVariants.{Off, On}}

-- where a search may begin: without hints at the pool's first block
abbrev pub BeginsBy : Hints → Near → Type 0
BeginsBy Off near = near ≡ no_hint
BeginsBy On near = Unit {0}

-- an allocation of a block with two reference words and the plain words xs, by the first client: without hints its search has none, and with hints any
abbrev pub IsAskedBy : Hints → Geometry → List ℕ → AllocState → Type 0
IsAskedBy Off g xs m = IsAsked g 0 2 xs m
IsAskedBy On g xs m = IsAskedNear g 0 2 xs m.request.near m

-- What an allocation with the plain words xs leaves of the pool p and x word steps: the pool q and y. It is refused where these are more than 8; otherwise it was asked for so, and it tells what it did wherever a word step was left. Where it answered it is over, and a block that was made is in a root, beside which none changed
pub record Allocates (hints : Hints) (xs : List ℕ) (r : Result (Option (Result Made AllocFault)) TooLarge) (p q : Pool) (x y : ℕ) : Type 0 where
  pub refused : is_err r ≡ true ↔ ((16 < 2) ⊎ (8 < length xs))
  pub gives : IfOk r (λ o. IfSome o (λ a. (m : AllocState) × IsAskedBy hints p.start.geometry xs m × AllocGives m (memo_of p 0) (memo_of q 0) (memo_of q 0).call a))
  pub number : IfOk r (λ o. IfSome o (λ a. IfOk a (λ made. made.root < 16)))
  pub root : IfOk r (λ o. IfSome o (λ a. IfOk a (λ made. root_word 0 (memo_of q 0) made.root ≡ made.block)))
  pub roots : IfOk r (λ o. IfSome o (λ a. IfOk a (λ made. (k : ℕ) → k ≢ made.root → root_word 0 (memo_of q 0) k ≡ root_word 0 (memo_of p 0) k)))
  pub at_work : IfOk r (λ o. IfSome o (λ a. IsAtWork 0 q))
  pub ran : IfOk r (λ o. Ran 0 true (is_some o) p q x y)
  pub events : IfOk r (λ o. IfSome o (λ a. Did 0 p q (own_events (member p.start.geometry 0) a)))
  pub told : IfOk r (λ o. 0 < x → (m : AllocState) × IsAskedBy hints p.start.geometry xs m × Did 0 p q (happens_along alloc_control alloc_event m (memo_of q 0).call))
