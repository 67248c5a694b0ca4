-- machines that work alone: no other identity makes a word step meanwhile, so that no exchange fails, and each word step is paid for
use Rattle.std.specs.Prelude.{◌≡◌, ℕ, ◌+◌, ◌*◌, ◌^◌, ◌<◌, Bool, true, false}
use Rattle.shm_graph.specs.{declared.{spot.Spot.Spot, memo.Memo.Memo}, Spots.spot_at, Blocks.classes}
use Rattle.shm_graph.specs.{Asks.{Trail, at_of, seen_of, words_after}, Events.{Event, Nothing, Alloc, Up, ChangeUp}}
use Rattle.shm_graph.specs.Laws.{Control, Frame, Outcome, Stands}

-- how many word steps an event pays for
abbrev pub pay : ℕ
pay = 256

-- how many word steps the control of a call of a closing has left at most before its first one, and how many are enough for the call with those that events pay for; pools of format 2 (`true`) may be greater
abbrev pub left_limit : Bool → ℕ
left_limit false = 2 ^ 30
left_limit true = 2 ^ 32

abbrev pub alone_steps : Bool → ℕ
alone_steps false = 2 ^ 34
alone_steps true = 2 ^ 38

-- an event that makes no reference and no block, or none
abbrev pub IsLoss : Event → Type 0
IsLoss (Alloc c k b) = ⊥
IsLoss (Up c p b) = ⊥
IsLoss (ChangeUp c p a b) = ⊥
IsLoss e = Unit {0}

-- how many events it is
abbrev pub weight : Event → ℕ
weight Nothing = 0
weight e = 1

-- of a machine: which events it tells, what it knows of the words where nobody else steps, how many word steps it has left but for those that events pay, and how many of these an answer has over
module _ {S A : Type 0} (k : Control S A) (does : S → ℕ → Event) (knows : S → (Spot → ℕ) → Type 0) (left : S → ℕ) (saved : A → ℕ) where
  -- the step that found n makes no reference and no block; what the machine knows of the words holds afterwards; and the step is paid for
  pub record IsPaid (m : S) (n : ℕ) (after : Spot → ℕ) : Type 0 where
    pub loss : IsLoss (does m n)
    pub alone : Outcome (k.turns m n) (knows (k.after m n) after) (λ a. Unit {0})
    pub paid : Outcome (k.turns m n) (left (k.after m n) < left m + pay * weight (does m n)) (λ a. saved a < left m + pay * weight (does m n))

  -- from each Held state that fits, in any frame, where what it knows of the words holds, the step that is asked for is so
  abbrev pub EndsAlone : (S → Memo → Memo → Trail → Type 0) → Type 0
  EndsAlone fits = (m : S) (r0 : Memo) (tr : Trail) (w : Spot → ℕ) (r : ℕ → Memo) (f : Frame) → k.finished m ≡ false → Stands (k.me m) w r f tr → fits m r0 (r (k.me m).who) tr → knows m w
      → let p = spot_at (k.me m).geometry (classes w) (at_of (k.asks m)) in IsPaid m (seen_of (k.asks m) (w p)) (words_after w (k.asks m) p)
