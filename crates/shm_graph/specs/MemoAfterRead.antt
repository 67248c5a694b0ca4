-- what a word that was read leaves in the memo of its reader
use Rattle.std.specs.Prelude.{ℕ, ◌+◌, ◌%◌, Bool, true, false, not, ◌&&◌, ◌||◌, ◌==◌, nat_lt, nat_le, if◌then◌else◌, eqb, slice_index, Option, Some, None, List, [], ◌∷◌, ◌++◌}
use Rattle.std.specs.List.{list_any}
use Rattle.shm_words.specs.{declared.geometry.Geometry.Geometry, Headers.header_of}
use Rattle.shm_graph.specs.declared.spot.Spot.{Spot}
use Rattle.shm_graph.specs.declared.spot.Spot.TheVariants.{Hold, Home, Era, Tail, QueueHead, Slot, Page, Head, Tag, Body}
use Rattle.shm_graph.specs.declared.memo.{First.TheVariants.Begun, ChangeStage.TheVariants.Raising, Op.Op}
use Rattle.shm_graph.specs.declared.memo.{Op.TheVariants.{Nothing, Up, Change}, Fact.Fact}
use Rattle.shm_graph.specs.declared.memo.{Fact.TheVariants.{Header as HeaderRead, Counter, Class}, Test.Test, Memo.Memo}
use Rattle.shm_graph.specs.{declared.table.Part.Part, Spots.segment_of, Views.own_word, Held.is_loose, Agents.recovers}
use Rattle.shm_graph.specs.{Reach.{learnt, is_dying}, Telling.{Claim, claim_of, Role, Entry, role_in, roles}}

-- ---- the commit test

-- the row that the commit test reads next, where the row of c itself is left out
abbrev pub next_row : ℕ → ℕ → ℕ
next_row c k = if k == c then k + 1 else k

abbrev pub test_on : ℕ → ℕ → Option Test → ℕ → ℕ → Option Test
test_on c own None k seen = None
test_on c own (Some t) k seen = if (next_row c t.next == k) && nat_lt seen own then Some (record { block = t.block; next = k + 1 }) else None

-- the header of a block begins the commit test, where it doesn't show c at its own era
abbrev pub test_from : ℕ → ℕ → ℕ → ℕ → Option Test
test_from c own b seen = if ((header_of seen).client == c) && ((header_of seen).era == own) then None else Some (record { block = b; next = 0 })

-- the row of another identity was read, of the era of c
abbrev pub row_read : ℕ → Memo → Option Test → ℕ → ℕ → Memo
row_read c m test k seen =
    record m {
      facts = Counter (Era k c) seen ∷ m.facts;
      test = if (recovers m) && not (k == c) then test_on c (own_word m.own (Era c c)) test k seen else None;
    }

-- ---- pages and homes

-- a page's class was read
abbrev pub page_read : Memo → ℕ → ℕ → ℕ → Memo
page_read m s q seen =
    if seen == 0 then (if list_any (eqb s) m.owned then record m { zeros = Page s q ∷ m.zeros } else m)
    else record m { facts = Class s q seen ∷ m.facts }

abbrev pub is_held : Option ℕ → ℕ → Bool
is_held None a = false
is_held (Some b) a = a == b

-- a home was read: under its author's latch its block joins the looks
abbrev pub home_read : Memo → ℕ → ℕ → Memo
home_read m a seen = if (is_held m.latch a) && not (seen == 0) then record m { looks = m.looks ++ record { block = seen; from = Home a } ∷ [] } else m

-- ---- the head slot of a queue

-- in a pool for tables a value block was read
abbrev pub valued : Part → ℕ → List ℕ → List ℕ
valued part b values = if is_loose part then values else b ∷ values

-- a tail was read that is above x
abbrev pub is_tail_above : ℕ → ℕ → ℕ → Fact → Bool
is_tail_above s c x (Counter (Tail i j) y) = (i == s) && ((j == c) && nat_lt x y)
is_tail_above s c x k = false

-- the slot is the head slot of a queue to c that isn't empty, as far as c has read, and its item isn't taken
abbrev pub is_head_slot : ℕ → Memo → ℕ → ℕ → ℕ → Bool
is_head_slot c m s r k = (r == c) && (not (s == c) && ((k == own_word m.own (QueueHead s c) % 8) && ((slice_index m.untaken s == 0) && list_any (is_tail_above s c (own_word m.own (QueueHead s c))) m.facts)))

abbrev pub slot_read : ℕ → Memo → ℕ → ℕ → ℕ → ℕ → Memo
slot_read c m s r k seen =
    if is_head_slot c m s r k && not (seen == 0) then record m { known = learnt (Slot s r k) seen m.known; values = valued m.part seen m.values }
    else m

-- ---- blocks

-- the block that a begun step is to raise
abbrev pub raised_by : Op → Option ℕ
raised_by (Up Begun p b e) = Some b
raised_by (Change (Raising Begun) p a b e) = Some b
raised_by _ = None

-- the step that ends where the header of its block shows a full count; a recoverer's doesn't
abbrev pub op_refused : Memo → ℕ → ℕ → Op
op_refused m b seen = if not (recovers m) && ((is_held (raised_by m.op) b) && nat_le 1023 (header_of seen).count) then Nothing else m.op

-- a header was read, by a load or by an exchange that failed; only a load begins a commit test
abbrev pub header_read : Geometry → ℕ → Bool → Memo → ℕ → ℕ → Memo
header_read g c load m b seen =
    record m {
      facts = HeaderRead seen ∷ m.facts;
      zeros = if (seen == 0) && list_any (eqb (segment_of g b)) m.owned then Head b ∷ m.zeros else m.zeros;
      test = if load && recovers m then test_from c (own_word m.own (Era c c)) b seen else None;
      op = op_refused m b seen;
    }

abbrev pub is_entry : Role → Bool
is_entry Entry = true
is_entry r = false

-- the value blocks once word i of a block was read: the second word of an entry names one
abbrev pub values_read : Memo → ℕ → ℕ → ℕ → List ℕ
values_read m b i seen = if is_entry (role_in (roles m) b) && (i == 1) then valued m.part seen m.values else m.values

-- a reference word of a block in reach was read under its author's latch: its block joins the looks
abbrev pub reference_read : Memo → ℕ → ℕ → ℕ → Memo
reference_read m b i seen =
    if seen == 0 then record m { known = learnt (Body b i) seen m.known }
    else record m {
      looks = m.looks ++ record { block = seen; from = Body b i } ∷ [];
      known = learnt (Body b i) seen m.known;
      values = values_read m b i seen;
    }

abbrev pub is_latched : Option ℕ → Option ℕ → Bool
is_latched None held = false
is_latched (Some a) held = is_held held a

-- word i after the tag of a block was read, of which this is told
abbrev pub word_read : Memo → Option Claim → ℕ → ℕ → ℕ → Memo
word_read m None b i seen = m
word_read m (Some k) b i seen =
    if is_dying m b || nat_le k.refs i then record m { known = learnt (Body b i) seen m.known }
    else if is_latched k.author m.latch then reference_read m b i seen
    else m

abbrev pub tag_read : Memo → ℕ → ℕ → Memo
tag_read m b seen = record m { known = learnt (Tag b) seen m.known }

-- ---- all

-- The memo after the word at a spot was read, by a load or by an exchange that failed, where the commit test stood at `test`. A recoverer's load of its hold word ends a step that was not committed
abbrev pub read_on : Geometry → ℕ → Bool → Memo → Option Test → Spot → ℕ → Memo
read_on g c load m test (Hold d) seen = if (recovers m) && (c == d) then record m { op = Nothing } else m
read_on g c load m test (Home a) seen = home_read m a seen
read_on g c load m test (Era i j) seen = if (j == c) && not (i == c) then row_read c m test i seen else record m { facts = Counter (Era i j) seen ∷ m.facts }
read_on g c load m test (Tail s r) seen = record m { facts = Counter (Tail s r) seen ∷ m.facts }
read_on g c load m test (QueueHead s r) seen = record m { facts = Counter (QueueHead s r) seen ∷ m.facts }
read_on g c load m test (Slot s r k) seen = slot_read c m s r k seen
read_on g c load m test (Page s q) seen = page_read m s q seen
read_on g c load m test (Head b) seen = header_read g c load m b seen
read_on g c load m test (Tag b) seen = tag_read m b seen
read_on g c load m test (Body b i) seen = word_read m (claim_of g.wide c m (b + 2 + i)) b i seen
read_on g c load m test p seen = m
