-- What is left of a text that is taken piece by piece.
use Rattle.std.specs.{Prelude.{ℕ, ◌+◌, List, [], Option, Some, None, length, ◌==◌}, Borrow.Bor, List.slice_split}

-- the pieces that are left between bytes
abbrev pub pieces_left : ℕ → Option (Bor (List ℕ)) → List (List ℕ)
pieces_left byte None = []
pieces_left byte (Some text) = slice_split (λ b. b == byte) text.now

-- a number that falls with each piece
abbrev pub room_left : Option (Bor (List ℕ)) → ℕ
room_left None = 0
room_left (Some text) = length text.now + 1
