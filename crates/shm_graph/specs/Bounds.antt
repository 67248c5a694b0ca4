-- the greatest number of word steps that each operation takes, besides three for each exchange that fails
use Rattle.std.specs.Prelude.{ℕ, ◌+◌, ◌*◌, Bool, true, false}

-- in format 2 (`true`) a redo record is stored in two word steps
abbrev pub redo_steps : Bool → ℕ
redo_steps false = 1
redo_steps true = 2

-- an identity that joins
abbrev pub join_steps : ℕ
join_steps = 1

-- a reference word comes to name a block, or comes to be empty
abbrev pub up_steps : Bool → ℕ
up_steps wide = 7 + redo_steps wide

abbrev pub down_steps : Bool → ℕ
down_steps wide = 7 + redo_steps wide

-- a reference word comes to name another block
abbrev pub change_steps : Bool → ℕ
change_steps wide = 12 + redo_steps wide

-- a tear-down that entered t zero-count blocks
abbrev pub tear_cost : Bool → ℕ
tear_cost false = 164
tear_cost true = 180

abbrev pub tear_steps : Bool → ℕ → ℕ
tear_steps wide t = tear_cost wide * t

-- an allocation in a pool of g segments: per segment its word twice and 16 pages of a class, read and stored, and 32 headers; before that the own era and 16 roots, and in the end a tag, 16 reference words, 8 plain words, the redo record, the header, the root and the own era
abbrev pub alloc_steps : Bool → ℕ → ℕ
alloc_steps wide g = 546 * g + 45 + redo_steps wide

-- a command on a table that read the keys of k entries and entered t zero-count blocks
abbrev pub command_steps : Bool → ℕ → ℕ → ℕ → ℕ
command_steps wide g k t = 1638 * g + 2 * k + tear_steps wide t + 280 + 20 * redo_steps wide

-- a drain that took q items out of the queues from n clients and entered t zero-count blocks
abbrev pub drain_steps : Bool → ℕ → ℕ → ℕ → ℕ
drain_steps wide n q t = (11 + redo_steps wide) * q + 2 * n + tear_steps wide t + 4

-- an identity that leaves
abbrev pub leave_steps : Bool → ℕ → ℕ → ℕ
leave_steps wide g t = 2 * g + tear_steps wide t + 129 + 16 * redo_steps wide

-- a recovery of a dead identity
abbrev pub recovery_steps : Bool → ℕ → ℕ → ℕ
recovery_steps wide g t = 530 * g + tear_steps wide t + 368 + 32 * redo_steps wide
