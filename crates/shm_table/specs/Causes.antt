-- what the trail of a command shows of why it was refused
use Rattle.std.specs.{Prelude.{◌≡◌, ◌≢◌, ℕ, ◌<◌, Err, ◌++◌}, List.Contains}
use Rattle.shm_words.specs.Layout.{address}
use Rattle.shm_words.specs.declared.place.Place.TheVariants as place
use Rattle.shm_graph.specs.{declared.ask.{Ask.TheVariants.Load, Me.Me}, Asks.{Trail, pair}}
use Rattle.shm_alloc.specs.{declared.request.Request.Request, Alloc.Asks.alloc_trail}
use Rattle.shm_alloc.specs.declared.alloc.AllocFault.TheVariants as alloc
use Rattle.shm_count.specs.Refusing.{ReadsCount}
use Rattle.shm_script.specs.declared.log.Answer.{Answer}
use Rattle.shm_script.specs.declared.log.Answer.TheVariants as answer

-- the own era was loaded and found to be e
abbrev pub LoadsEra : Me → ℕ → Trail → Type 0
LoadsEra me e tr = Contains tr (pair (Load (address me.geometry (place.Era me.who me.who))) e)

-- own root j was loaded and found to name a block
abbrev pub LoadsRoot : Me → ℕ → Trail → Type 0
LoadsRoot me j tr = (n : ℕ) × (n ≢ 0) × Contains tr (pair (Load (address me.geometry (place.Root me.who j))) n)

-- The era that was spent was read; each own root was read and names a block; a full count was read in a header of the block that is answered; where no block was free, a part of the trail is that of a whole allocation without a hint that answers these numbers
abbrev pub Shows : Me → Answer → Trail → Type 0
Shows me (answer.EraSpent e) tr = LoadsEra me e tr
Shows me answer.RootsFull tr = (j : ℕ) → j < 16 → LoadsRoot me j tr
Shows me (answer.CountFull b n) tr = ReadsCount b n tr
Shows me (answer.Full s b) tr = (before : Trail) × (middle : Trail) × (after : Trail) × (tr ≡ before ++ (middle ++ after)) × ((q : Request) × (q.near ≡ record { segment = 0; page = 0; index = 0 }) × alloc_trail me q middle (Err (alloc.Full s b)))
Shows me a tr = Unit {0}
