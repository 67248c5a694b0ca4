-- what a store leaves in the memo of its identity
use Rattle.std.specs.Prelude.{ℕ, zero, suc, ◌-◌, ◌/◌, ◌%◌, Bool, true, false, not, ◌&&◌, ◌==◌, if◌then◌else◌, slice_index, slice_index_or, Option, Some, None, List, [], ◌∷◌, ◌++◌}
use Rattle.std.specs.List.{filter}
use Rattle.shm_words.specs.{declared.{geometry.Geometry.Geometry, redo.Redo.Redo as ARedo}, Redos.redo_of}
use Rattle.shm_words.specs.declared.redo.Redo.TheVariants as redos
use Rattle.shm_words.specs.Layout as layout
use Rattle.shm_graph.specs.declared.spot.Spot.{Spot}
use Rattle.shm_graph.specs.declared.spot.Spot.TheVariants.{Status, Redo, RedoMore, Hold, Latch, Home, Era, Root, Tail, QueueHead, Slot, Segment, Page, Head, Tag, Body}
use Rattle.shm_graph.specs.declared.memo.{First.{First, TheVariants.{Begun, Written}}, Second.TheVariants.Open}
use Rattle.shm_graph.specs.declared.memo.{ChangeStage.TheVariants.{Raising, Lowering}, Op.Op}
use Rattle.shm_graph.specs.declared.memo.{Op.TheVariants.{Nothing, Alloc, Up, Down, Change}, Stored.Stored}
use Rattle.shm_graph.specs.declared.memo.{Making.Making, Fact.{Fact, TheVariants.Class}, Memo.Memo}
use Rattle.shm_graph.specs.{Spots.{same_spot, segment_of}, Ops.{slot_of, is_op}, Views.own_word, Agents.with_status}
use Rattle.shm_graph.specs.{Reach.{learnt, is_dying, sifted, unlatched}, Telling.word_told}

-- ---- own words

abbrev pub with_own : Memo → Spot → ℕ → Memo
with_own m p v = record m { own = record { spot = p; value = v } ∷ m.own }

-- the committed step has stored its slot
abbrev pub stage_written : First → First
stage_written Begun = Begun
stage_written s = Written

abbrev pub op_written : Op → Op
op_written (Alloc s p b e) = Alloc (stage_written s) p b e
op_written (Up s p b e) = Up (stage_written s) p b e
op_written (Down s p b e) = Down (stage_written s) p b e
op_written (Change (Raising s) p a b e) = Change (Raising (stage_written s)) p a b e
op_written o = o

abbrev pub written : Memo → Memo
written m = record m { op = op_written m.op }

-- ---- the redo record; in format 2 its second word is stored before

abbrev pub is_block_made : Option Making → ℕ → Bool
is_block_made None b = false
is_block_made (Some k) b = k.block == b

-- the step that a redo record begins, at an own era, where `at` tells the spot of an address
abbrev pub op_spelled : (ℕ → Spot) → Option Making → ℕ → Option ARedo → Op
op_spelled at making e (Some (redos.Up p b)) = if is_block_made making b then Alloc Begun (at p) b e else Up Begun (at p) b e
op_spelled at making e (Some (redos.Down p b)) = Down Begun (at p) b e
op_spelled at making e (Some (redos.Change odd p a b)) = Change (Raising Begun) (at p) a b e
op_spelled at making e r = Nothing

abbrev pub redo_stored : Geometry → ℕ → Memo → Spot → ℕ → Memo
redo_stored g c m p v = record (with_own m p v) { op = op_spelled (word_told g c m) m.making (own_word m.own (Era c c)) (redo_of g.wide v (own_word m.own (RedoMore c))) }

-- ---- the own era

-- the step once the own era is stored: it is closed, or the second half of a change begins
abbrev pub op_closed : Op → ℕ → Op
op_closed (Change (Raising s) p a b e) v = Change (Lowering Open) p a b v
op_closed o v = Nothing

-- whether a step that lowers is closed, whose looks are over then
abbrev pub is_lowering : Op → Bool
is_lowering (Down s p b e) = true
is_lowering (Change (Lowering s) p a b e) = true
is_lowering o = false

abbrev pub without_looks : ℕ → Memo → Memo
without_looks c m = sifted c (record m { looks = [] })

abbrev pub era_stored : ℕ → Memo → Spot → ℕ → Memo
era_stored c m p v =
    let n : Memo = record (with_own m p v) { op = op_closed m.op v } in
    if is_lowering m.op then without_looks c n else n

-- ---- queues, segments and pages

-- a list with item i anew; where it is shorter it is lengthened by d
abbrev pub put : {T : Type 0} → T → List T → ℕ → T → List T
put d [] zero x = x ∷ []
put d [] (suc i) x = d ∷ put d [] i x
put d (y ∷ ys) zero x = x ∷ ys
put d (y ∷ ys) (suc i) x = y ∷ put d ys i x

-- the block whose tail or head is stored joins what was sent or received
abbrev pub lane_with : List (List ℕ) → ℕ → ℕ → List (List ℕ)
lane_with lanes r b = put [] lanes r (slice_index_or lanes r [] ++ b ∷ [])

abbrev pub tail_stored : Memo → Spot → ℕ → ℕ → Memo
tail_stored m p r v = record (with_own m p v) { sent = lane_with m.sent r (slice_index m.unsent r); unsent = put 0 m.unsent r 0 }

abbrev pub head_stored : Memo → Spot → ℕ → ℕ → Memo
head_stored m p s v = record (with_own m p v) { received = lane_with m.received s (slice_index m.untaken s); untaken = put 0 m.untaken s 0 }

-- another segment than s
abbrev pub not_segment : ℕ → ℕ → Bool
not_segment s i = not (s == i)

-- not a page of segment s, and not a header in it
abbrev pub outside_of : Geometry → ℕ → Spot → Bool
outside_of g s (Page i q) = not_segment s i
outside_of g s (Head b) = not_segment s (segment_of g b)
outside_of g s p = true

-- a segment was given up: what was read there as 0 may change once another owns it
abbrev pub segment_stored : Geometry → Memo → ℕ → Memo
segment_stored g m s = record m { owned = filter (not_segment s) m.owned; zeros = filter (outside_of g s) m.zeros }

abbrev pub other_than : Spot → Spot → Bool
other_than p q = not (same_spot p q)

abbrev pub page_stored : Memo → ℕ → ℕ → ℕ → Memo
page_stored m s q v = record m { zeros = filter (other_than (Page s q)) m.zeros; facts = Class s q v ∷ m.facts }

-- ---- blocks

-- the class of a page that was read, or 0
abbrev pub class_read : List Fact → ℕ → ℕ → ℕ
class_read [] s q = 0
class_read (Class i j k ∷ fs) s q = if (i == s) && (j == q) then k else class_read fs s q
class_read (f ∷ fs) s q = class_read fs s q

abbrev pub class_told : Geometry → List Fact → ℕ → ℕ
class_told g fs b = class_read fs (segment_of g b) ((b - layout.bodies g) / 128 % 16)

-- a word of a free block was stored: the block is prepared
abbrev pub making_with : Geometry → List Fact → Option Making → ℕ → Spot → ℕ → Option Making
making_with g fs None b p v = Some (record { block = b; class = class_told g fs b; words = record { spot = p; value = v } ∷ [] })
making_with g fs (Some k) b p v = Some (record k { words = learnt p v k.words })

-- not a word of this block
abbrev pub is_of : ℕ → Spot → Bool
is_of b (Tag d) = d == b
is_of b (Body d i) = d == b
is_of b p = false

abbrev pub not_of : ℕ → Stored → Bool
not_of b s = not (is_of b s.spot)

abbrev pub not_block : ℕ → ℕ → Bool
not_block b d = not (b == d)

-- a zero-count block was freed
abbrev pub freed : Memo → ℕ → Memo
freed m b = record m { dying = filter (not_block b) m.dying; known = filter (not_of b) m.known }

-- the tag of a zero-count block, or of the block that is prepared
abbrev pub tag_stored : Geometry → Memo → ℕ → ℕ → Memo
tag_stored g m b v =
    if is_dying m b then record m { known = learnt (Tag b) v m.known }
    else record m { making = making_with g m.facts m.making b (Tag b) v }

-- the slot of the step in progress, or a word of the block that is prepared
abbrev pub word_stored : Geometry → Memo → ℕ → ℕ → ℕ → Memo
word_stored g m b i v =
    if is_op m.op && same_spot (slot_of m.op) (Body b i) then record (written m) { known = learnt (Body b i) v m.known }
    else record m { making = making_with g m.facts m.making b (Body b i) v }

-- ---- all

-- the memo after a store at a spot
abbrev pub stored_on : Geometry → ℕ → Memo → Spot → ℕ → Memo
stored_on g c m (Status d) v = with_status m v
stored_on g c m (Redo d) v = redo_stored g c m (Redo d) v
stored_on g c m (RedoMore d) v = with_own m (RedoMore d) v
stored_on g c m (Hold d) v = with_own m (Hold d) v
stored_on g c m (Latch a) v = unlatched g.wide c m
stored_on g c m (Home d) v = written (with_own m (Home d) v)
stored_on g c m (Era i j) v = if j == c then era_stored c m (Era i j) v else with_own m (Era i j) v
stored_on g c m (Root d k) v = written (with_own m (Root d k) v)
stored_on g c m (Tail s r) v = tail_stored m (Tail s r) r v
stored_on g c m (QueueHead s r) v = head_stored m (QueueHead s r) s v
stored_on g c m (Slot s r k) v = written m
stored_on g c m (Segment s) v = segment_stored g m s
stored_on g c m (Page s q) v = page_stored m s q v
stored_on g c m (Head b) v = freed m b
stored_on g c m (Tag b) v = tag_stored g m b v
stored_on g c m (Body b i) v = word_stored g m b i v
stored_on g c m p v = m
