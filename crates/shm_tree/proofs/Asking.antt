-- How a forest asks for the block of a node, with hints and without.
use Rattle.std.proofs.Common.{◌≡◌, ℕ, ◌<◌, ◌⊎◌, List, length, refl, subst}
use Rattle.std.specs.{Prelude.{Option, None, Some, Result, Ok, Err, IfSome}, Result.IsErrAnd}
use Rattle.shm_words.specs.declared.geometry.Geometry.{Geometry}
use Rattle.shm_alloc.specs.declared.{alloc.{AllocFault.AllocFault, TooLarge.TooLarge}, point.AllocState.AllocState, request.Near.Near}
use Rattle.shm_plain.specs.Pools.{Pool}
use Rattle.shm_count.specs.declared.answer.Made.{Made}
use Rattle.shm_client.specs.Allocating.{IsAskedNear}
use Rattle.shm_tree.specs.{declared.hints.Hints.{Hints, TheVariants.{Off, On}}, Asking.{Allocates, BeginsBy, IsAskedBy}}

-- either way its search begins somewhere
pub asked_near : (hints : Hints) (g : Geometry) (xs : List ℕ) (m : AllocState) → IsAskedBy hints g xs m → IsAskedNear g 0 2 xs m.request.near m
asked_near Off g xs m a = record { me = a.me; point = a.point; refs = a.refs; count = a.count; plain = a.plain; fits = a.fits; hint = refl }
asked_near On g xs m a = a

-- by where it begins
pub asked_by : (hints : Hints) (g : Geometry) (xs : List ℕ) (m : AllocState) (near : Near) → BeginsBy hints near → IsAskedNear g 0 2 xs near m → IsAskedBy hints g xs m
asked_by Off g xs m near is a = subst (λ (z : Near). IsAskedNear g 0 2 xs z m) is a
asked_by On g xs m near is a = record { me = a.me; point = a.point; refs = a.refs; count = a.count; plain = a.plain; fits = a.fits; hint = refl }

-- one without hints is one with any
pub asked_more : (hints : Hints) (g : Geometry) (xs : List ℕ) (m : AllocState) → IsAskedBy Off g xs m → IsAskedBy hints g xs m
asked_more Off g xs m a = a
asked_more On g xs m a = asked_near Off g xs m a

-- ---- what an allocation tells

-- where one answered
pub asks_answered : (hints : Hints) (g : Geometry) (xs : List ℕ) (near : Near) (P : AllocState → Result Made AllocFault → Type 0) (o : Option (Result Made AllocFault)) → BeginsBy hints near → IfSome o (λ a. (m : AllocState) × IsAskedNear g 0 2 xs near m × P m a) → IfSome o (λ a. (m : AllocState) × IsAskedBy hints g xs m × P m a)
asks_answered hints g xs near P None is h = tt
asks_answered hints g xs near P (Some a) is (m, asked, y) = (m, asked_by hints g xs m near is asked, y)

-- where it was refused
pub asks_refused : {hints : Hints} {xs : List ℕ} {p q : Pool} {x y : ℕ} (e : TooLarge) (r : Result (Option (Result Made AllocFault)) TooLarge) → IsErrAnd r (λ v. v ≡ e) → (16 < 2) ⊎ (8 < length xs) → Allocates hints xs r p q x y
asks_refused e (Ok o) h many = absurd h
asks_refused e (Err v) h many = record { refused = (λ is. many, λ is. refl); gives = tt; number = tt; root = tt; roots = tt; at_work = tt; ran = tt; events = tt; told = tt }
