-- The shape of a line: its word and its numbers, which may have any size.
use Rattle.std.specs.Prelude.{ℕ, Bool, true, false, List, [], ◌∷◌, Option, Some, None, codes, ◌==◌, if◌then◌else◌}
use Rattle.std.specs.{List.slice_split, Str.bytes_eq}
use Rattle.shm_script.specs.declared.raw.{RawItem.RawItem, RawCommand.RawCommand}
use Rattle.shm_script.specs.{declared.raw.RawCommand.TheVariants.{Put, Del, Get, Copy, Send, Recv}, Numbers.number_of}

-- a line of a trace; of a pool with whether it is of format 2
pub data Shape : Type 0 where
  Pool : Bool → Option ℕ → Option ℕ → Shape
  Order : List RawItem → Shape
  Client : Option ℕ → Shape
  Life : List (Option ℕ) → Shape
  Command : RawCommand → Shape

-- f of what both are, where both are something
abbrev pub both : {A B C : Type 0} → (A → B → C) → Option A → Option B → Option C
both f (Some a) (Some b) = Some (f a b)
both f _ _ = None

-- f of what it is, where it is something
abbrev pub given : {A B : Type 0} → (A → B) → Option A → Option B
given f (Some a) = Some (f a)
given f None = None

-- one number alone
unfoldable pub one_of : List (List ℕ) → Option (Option ℕ)
one_of (word ∷ []) = number_of word
one_of _ = None

-- two numbers alone
unfoldable pub two_of : List (List ℕ) → Option (Option ℕ × Option ℕ)
two_of (word ∷ words) = both (λ a b. (a, b)) (number_of word) (one_of words)
two_of [] = None

-- three numbers alone
unfoldable pub three_of : List (List ℕ) → Option (Option ℕ × Option ℕ × Option ℕ)
three_of (word ∷ words) = both (λ a b. (a, b.0, b.1)) (number_of word) (two_of words)
three_of [] = None

-- numbers alone, as many as there are words
unfoldable pub numbers_of : List (List ℕ) → Option (List (Option ℕ))
numbers_of [] = Some []
numbers_of (word ∷ words) = both (λ n ns. n ∷ ns) (number_of word) (numbers_of words)

-- the parts of an item at its colons: a client, or a client and turns
unfoldable pub item_from : List (List ℕ) → Option RawItem
item_from (client ∷ []) = given (λ c. record { client = c; turns = None }) (number_of client)
item_from (client ∷ turns ∷ []) = both (λ c t. record { client = c; turns = Some t }) (number_of client) (number_of turns)
item_from _ = None

-- items alone, as many as there are words
unfoldable pub items_of : List (List ℕ) → Option (List RawItem)
items_of [] = Some []
items_of (word ∷ words) = both (λ i is. i ∷ is) (item_from (slice_split (λ b. b == 58) word)) (items_of words)

-- a command: its word, and as many numbers as it has
unfoldable pub command_of : List ℕ → List (List ℕ) → Option RawCommand
command_of head words =
    if bytes_eq head (codes "put") then given (λ n. Put n.0 n.1) (two_of words)
    else if bytes_eq head (codes "del") then given Del (one_of words)
    else if bytes_eq head (codes "get") then given (λ n. Get n.0 n.1) (two_of words)
    else if bytes_eq head (codes "copy") then given (λ n. Copy n.0 n.1 n.2) (three_of words)
    else if bytes_eq head (codes "send") then given (λ n. Send n.0 n.1) (two_of words)
    else if bytes_eq head (codes "recv") then given (λ n. Recv n.0 n.1) (two_of words)
    else None

-- a line by its word and its others
unfoldable pub shape_by : List ℕ → List (List ℕ) → Option Shape
shape_by head words =
    if bytes_eq head (codes "order") then given Order (items_of words)
    else if bytes_eq head (codes "life") then given Life (numbers_of words)
    else if bytes_eq head (codes "pool") then given (λ n. Pool false n.0 n.1) (two_of words)
    else if bytes_eq head (codes "pool2") then given (λ n. Pool true n.0 n.1) (two_of words)
    else if bytes_eq head (codes "client") then given Client (one_of words)
    else given Command (command_of head words)

-- a line by its words, of which there are at least two
unfoldable pub shape_from : List (List ℕ) → Option Shape
shape_from [] = None
shape_from (head ∷ []) = None
shape_from (head ∷ word ∷ words) = shape_by head (word ∷ words)

-- the shape of a line, where it has one
abbrev pub shape_of : List ℕ → Option Shape
shape_of line = shape_from (slice_split (λ b. b == 32) line)
