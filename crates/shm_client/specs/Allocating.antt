-- an allocation as a pool is asked for it
use Rattle.std.specs.Prelude.{◌≡◌, ℕ, List, length, take}
use Rattle.shm_words.specs.declared.geometry.Geometry.{Geometry}
use Rattle.shm_alloc.specs.declared.{point.{AllocPoint.TheVariants.Era, AllocState.AllocState}, request.Near.Near}
use Rattle.shm_alloc.specs.Alloc.Control.{RequestFits}

-- an allocation of c in a pool of these sizes, before its first step, of a block with n reference words and the plain words xs, whose search begins near a place
pub record IsAskedNear (g : Geometry) (c n : ℕ) (xs : List ℕ) (near : Near) (m : AllocState) : Type 0 where
  pub me : m.me ≡ record { geometry = g; who = c }
  pub point : m.point ≡ Era
  pub refs : m.request.refs ≡ n
  pub count : m.request.count ≡ length xs
  pub plain : take (length xs) m.request.plain ≡ xs
  pub fits : RequestFits m.request
  pub hint : m.request.near ≡ near

-- the same, where the search has no hint
abbrev pub IsAsked : Geometry → ℕ → ℕ → List ℕ → AllocState → Type 0
IsAsked g c n xs m = IsAskedNear g c n xs (record { segment = 0; page = 0; index = 0 }) m
