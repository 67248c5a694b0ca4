-- what an allocation keeps at hand while it reads the headers of a page, and that it has read some
use Rattle.std.specs.Prelude.{◌≡◌, ℕ, ◌+◌, ◌/◌, ◌≤◌, Result}
use Rattle.shm_graph.specs.{declared.ask.{Ask.Ask, Me.Me}, ManySteps.{HasRun, MayRun, Stop}}
use Rattle.shm_count.specs.declared.answer.Made.{Made}
use Rattle.shm_alloc.specs.declared.{alloc.AllocFault.AllocFault, request.Request.Request, point.AllocPoint.{AllocPoint, TheVariants.Header}}
use Rattle.shm_alloc.specs.{declared.point.AllocState.AllocState, Alloc.Control.{alloc_control, class_asked, block_of, index_at}}

-- at a header: its address, and so many blocks of its page that lie one behind the other are gone to next
abbrev pub AtHeader : Me → Request → AllocPoint → ℕ → ℕ → Type 0
AtHeader me q (Header g s p i) at left = (at ≡ block_of me q s p i) × (i + 1 + left ≤ 128 / class_asked q) × (index_at q i + 1 + left ≤ 128 / class_asked q)
AtHeader me q y at left = Unit {0}

-- what is kept at hand of an allocation: the class of its block, and at a header where it is
pub record AtHand (m : AllocState) (k at left : ℕ) : Type 0 where
  pub class : k ≡ class_asked m.request
  pub header : AtHeader m.me m.request m.point at left

module _ {W : Type 0} (may : W → Ask → Type 0) (made : W → Ask → W → Type 0) (seen : W → Ask → W → ℕ) where
  -- from so much life, a state and words on, word steps led to others, and none of them answered: more may be made, and where those are made, all are
  abbrev pub HasPassed : ℕ → AllocState → W → ℕ → AllocState → W → Type 0
  HasPassed left m w left' m' w' =
      MayRun alloc_control may made seen left' m' w'
      × ((z : Stop AllocState W (Result Made AllocFault)) → HasRun alloc_control made seen left' m' w' z → HasRun alloc_control made seen left m w z)
