-- what lies where a pointer of C leads
use Rattle.std.specs.{Prelude.{◌≡◌, ℕ, replicate}, Borrow.full_share, Box.Ownership.box_owns}
use Rattle.std.specs.{declared.alloc.Global.Global, contracts.impls.GlobalAllocator.TheImpl.ghosts}
use Rattle.std.specs.contracts.sync.atomic.AtomicU64.{the_row as word}
use base.Fml.{Fml, Lft, Share, ffalse, fex, fsep, flft}
use denote.RawPtr.{Ptr, block_ptr, null_ptr, lies_at}
use denote.Slice.{elements_shared}
use Rattle.shm_session.specs.declared.said.{Call.Call, Ran.Ran, Said.Said}
use Rattle.shm_sitting.specs.{declared.seat.Seat.Seat, contracts.seat.Seat.the_row, Seats.{IsCalled, IsRun, IsTold}}

-- a session lies at p
abbrev pub seat_at : Ptr → Seat → Fml
seat_at p x = lies_at the_row full_share p x

-- a call by its number, with its three numbers
abbrev pub call_of : ℕ → ℕ → ℕ → ℕ → Call
call_of op a b c = record { op = op; first = a; second = b; third = c; words = replicate 8 0 }

-- what a session became in a call that said r
pub record Called (before : Seat) (c : Call) (r : Said) : Type 0 where
  pub now : Seat
  pub is : IsCalled before c r now

-- it lies at p
abbrev pub called_at : Ptr → Seat → Call → Said → Fml
called_at p before c r = fex (Called before c r) (λ t. seat_at p t.now)

-- what a session became that was told the word n, and said r
pub record SeatTold (before : Seat) (n : ℕ) (r : Said) : Type 0 where
  pub now : Seat
  pub is : IsTold before n r now

-- it lies at p
abbrev pub told_at : Ptr → Seat → ℕ → Said → Fml
told_at p before n r = fex (SeatTold before n r) (λ t. seat_at p t.now)

-- a session lies at p, with the right to free its block
abbrev pub seat_owned : Global → Ptr → Seat → Fml
seat_owned a p x = box_owns (ghosts.dealloc_token a) the_row p x

-- what a session became where many word steps were made at most, on so many words, and said r
pub record SeatRan (before : Seat) (count n : ℕ) (r : Ran) : Type 0 where
  pub now : Seat
  pub is : IsRun before count n r now

-- it lies at p
abbrev pub ran_at : Ptr → Seat → ℕ → ℕ → Ran → Fml
ran_at p before count n r = fex (SeatRan before count n r) (λ t. seat_at p t.now)

-- So many words lie at p, each of which anybody reads and changes in single atomic steps alone, as long as κ lasts: an invariant says of each that it is some number
abbrev pub words_at : Ptr → ℕ → Lft → Fml
words_at (block_ptr b o) n κ = elements_shared word (replicate n tt) b o κ
words_at null_ptr n κ = ffalse

-- so many words lie at p for a time that lasts
abbrev pub lent_words : Ptr → ℕ → Lft → Share → Fml
lent_words p n κ q = fsep (flft κ q) (words_at p n κ)
