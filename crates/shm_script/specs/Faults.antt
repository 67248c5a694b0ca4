-- The first faulty line of bytes that are no trace, and what is wrong with it.
use Rattle.std.specs.Prelude.{ℕ, ◌+◌, ◌-◌, ◌^◌, Bool, true, false, ◌&&◌, not, List, [], ◌∷◌, ◌++◌, length, take, count_by, Option, Some, None, Result, Ok, Err, nat_lt, ◌==◌, if◌then◌else◌}
use Rattle.std.specs.List.{list_any, slice_split}
use Rattle.shm_script.specs.declared.{line.{Line.Line, Item.Item}, raw.{RawItem.RawItem, RawCommand.RawCommand}}
use Rattle.shm_script.specs.declared.{fit.TracePlace.TracePlace, fault.TraceKind.TraceKind}
use Rattle.shm_script.specs.declared.fault.{TraceKind.TheVariants.{Syntax, Range, Limit, Twice}, TraceFault.TraceFault}
use Rattle.shm_script.specs.Ranges.{segments_limit}
use Rattle.shm_script.specs.Shapes.{Shape, Pool, Order, Client, Life, Command, both, given, shape_of}
use Rattle.shm_script.specs.declared.line.Line.TheVariants as lines
use Rattle.shm_script.specs.declared.raw.RawCommand.TheVariants as raw
use Rattle.shm_script.specs.declared.fit.TracePlace.TheVariants as place

-- what the lines before tell of a line: what the last of them was, the clients that there are, the client whose script goes on, and those that have one
pub record Seen : Type 0 where
  pub place : TracePlace
  pub clients : ℕ
  pub me : ℕ
  pub taken : List ℕ

-- a line with its numbers in range
pub data Fit : Type 0 where
  FitPool : Bool → ℕ → ℕ → Fit
  FitOrder : List Item → Fit
  FitClient : ℕ → Fit
  FitLife : List ℕ → Fit
  FitCommand : Line → Fit

-- Places: the pool first, an order behind it alone, lives behind a client alone, commands in a script.
abbrev pub may_stand : TracePlace → Shape → Bool
may_stand place.Start (Pool wide clients segments) = true
may_stand place.Pool (Order items) = true
may_stand place.Pool (Client client) = true
may_stand place.Order (Client client) = true
may_stand place.Client (Client client) = true
may_stand place.Body (Client client) = true
may_stand place.Client (Life numbers) = true
may_stand place.Client (Command command) = true
may_stand place.Body (Command command) = true
may_stand _ _ = false

-- behind such a line a command may stand
abbrev pub takes_commands : TracePlace → Bool
takes_commands place.Client = true
takes_commands place.Body = true
takes_commands _ = false

-- an order of more than 1,000 items
abbrev pub too_many : Shape → Bool
too_many (Order items) = nat_lt 1000 (length items)
too_many _ = false

-- a number of these, none of which is 2^64 or more
abbrev pub between : ℕ → ℕ → Option ℕ → Option ℕ
between low high (Some n) = if not (nat_lt n low) && not (nat_lt high n) then Some n else None
between low high None = None

-- a number below the bound
abbrev pub below : ℕ → Option ℕ → Option ℕ
below bound (Some n) = if nat_lt n bound then Some n else None
below bound None = None

-- a key has 32 bits
abbrev pub key_of : Option ℕ → Option ℕ
key_of n = below (2 ^ 32) n

-- another client
abbrev pub other_than : ℕ → Option ℕ → Option ℕ
other_than me (Some c) = if c == me then None else Some c
other_than me None = None

-- a command with its numbers in range
unfoldable pub command_fit : ℕ → ℕ → RawCommand → Option Line
command_fit clients me (raw.Put key number) = both (λ k n. lines.Put k n) (key_of key) number
command_fit clients me (raw.Del key) = given (λ k. lines.Del k) (key_of key)
command_fit clients me (raw.Get author key) = both (λ a k. lines.Get a k) (below clients author) (key_of key)
command_fit clients me (raw.Copy key author other) = both (λ (k : ℕ) (p : ℕ × ℕ). lines.Copy k p.0 p.1) (key_of key) (both (λ a o. (a, o)) (below clients author) (key_of other))
command_fit clients me (raw.Send to key) = both (λ c k. lines.Send c k) (other_than me (below clients to)) (key_of key)
command_fit clients me (raw.Recv from key) = both (λ c k. lines.Recv c k) (other_than me (below clients from)) (key_of key)

-- the turns of an item: 0 where it names none
abbrev pub turns_fit : Option (Option ℕ) → Option ℕ
turns_fit None = Some 0
turns_fit (Some turns) = between 1 100000 turns

-- items with their numbers in range
unfoldable pub items_fit : ℕ → List RawItem → Option (List Item)
items_fit clients [] = Some []
items_fit clients (item ∷ items) = both (λ i is. i ∷ is) (both (λ c t. record { client = c; turns = t }) (below clients item.client) (turns_fit item.turns)) (items_fit clients items)

-- a number before those that it leaves room for
abbrev pub before_rest : Option ℕ → (ℕ → Option (List ℕ)) → Option (List ℕ)
before_rest None rest = None
before_rest (Some n) rest = given (λ ns. n ∷ ns) (rest n)

-- lives of at least 1 each, and of at most `left` together
unfoldable pub life_fit : ℕ → List (Option ℕ) → Option (List ℕ)
life_fit left [] = Some []
life_fit left (number ∷ numbers) = before_rest (between 1 left number) (λ n. life_fit (left - n) numbers)

-- a line with its numbers in range
abbrev pub fit_of : ℕ → ℕ → Shape → Option Fit
fit_of clients me (Pool wide n g) = both (FitPool wide) (between 1 16 n) (between 1 (segments_limit wide) g)
fit_of clients me (Order items) = given FitOrder (items_fit clients items)
fit_of clients me (Client c) = given FitClient (below clients c)
fit_of clients me (Life numbers) = given FitLife (life_fit (2 ^ 40) numbers)
fit_of clients me (Command command) = given FitCommand (command_fit clients me command)

-- a client that has a script
abbrev pub is_second : List ℕ → Fit → Bool
is_second taken (FitClient c) = list_any (λ o. o == c) taken
is_second taken _ = false

-- the last two kinds of fault: a number out of range, and a second script
abbrev pub ranged : Seen → Option Fit → Result Fit TraceKind
ranged seen None = Err Range
ranged seen (Some fit) = if is_second seen.taken fit then Err Twice else Ok fit

-- the kinds of fault in their order
abbrev pub judged : Seen → Option Shape → Result Fit TraceKind
judged seen None = Err Syntax
judged seen (Some shape) =
    if not (may_stand seen.place shape) then Err Syntax
    else if too_many shape then Err Limit
    else ranged seen (fit_of seen.clients seen.me shape)

-- what is told behind one more line
abbrev pub seen_after : Seen → Fit → Seen
seen_after seen (FitPool wide clients segments) = record seen { place = place.Pool; clients = clients }
seen_after seen (FitOrder items) = record seen { place = place.Order }
seen_after seen (FitClient c) = record seen { place = place.Client; me = c; taken = seen.taken ++ c ∷ [] }
seen_after seen (FitLife numbers) = record seen { place = place.Body }
seen_after seen (FitCommand line) = record seen { place = place.Body }

-- nothing was seen
abbrev pub seen_none : Seen
seen_none = record { place = place.Start; clients = 0; me = 0; taken = [] }

-- a fault of this kind at a line
abbrev pub fault_at : ℕ → TraceKind → TraceFault
fault_at line kind = record { line = line; kind = kind }

-- behind the last line feed nothing may stand, and a line has to be before it
abbrev pub may_end : TracePlace → List ℕ → Bool
may_end place.Start rest = false
may_end place [] = true
may_end place _ = false

-- a fault of this line, or what comes behind it
abbrev pub fault_or : ℕ → Result Fit TraceKind → (Fit → Option TraceFault) → Option TraceFault
fault_or at (Err kind) behind = Some (fault_at at kind)
fault_or at (Ok fit) behind = behind fit

-- the first fault of the lines from `at` on; what is behind the last line feed is the last of them
unfoldable pub first_fault : Seen → ℕ → List (List ℕ) → Option TraceFault
first_fault seen at [] = None
first_fault seen at (rest ∷ []) = if may_end seen.place rest then None else Some (fault_at at Syntax)
first_fault seen at (line ∷ next ∷ others) = fault_or at (judged seen (shape_of line)) (λ fit. first_fault (seen_after seen fit) (at + 1) (next ∷ others))

-- the line of the first byte past the limit
abbrev pub limit_fault : List ℕ → TraceFault
limit_fault bytes = fault_at (1 + count_by (λ b. b == 10) (take 1048576 bytes)) Limit

-- the fault of bytes that are no trace
abbrev pub fault_of : List ℕ → Option TraceFault
fault_of bytes = if nat_lt 1048576 (length bytes) then Some (limit_fault bytes) else first_fault seen_none 1 (slice_split (λ b. b == 10) bytes)
