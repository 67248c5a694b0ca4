-- what an exchange that succeeds leaves in the memo of its identity
use Rattle.std.specs.Prelude.{ℕ, Bool, ◌&&◌, ◌==◌, if◌then◌else◌, Option, Some, None, List, [], ◌∷◌, ◌++◌}
use Rattle.std.specs.List.{filter}
use Rattle.shm_words.specs.{Headers.header_of, Tags.{tag_refs, tag_plain}}
use Rattle.shm_graph.specs.declared.spot.Spot.{Spot, TheVariants.{Latch, Home, Slot, Segment, Head, Tag}}
use Rattle.shm_graph.specs.declared.memo.{First.TheVariants.{Begun, Committed}, Second.TheVariants.{Open, Closed}}
use Rattle.shm_graph.specs.declared.memo.{ChangeStage.TheVariants.{Raising, Lowering}, Op.Op}
use Rattle.shm_graph.specs.declared.memo.{Op.TheVariants.{Alloc, Up, Down, Change}, Stored.Stored, Making.Making}
use Rattle.shm_graph.specs.{declared.memo.Memo.Memo, Reach.{known_at, shown, sifted, cut_looks}, MemoAfterRead.valued}
use Rattle.shm_graph.specs.{MemoAfterStore.{put, other_than, not_block, not_of}, Chains.{part_set, or_zero}}

-- ---- a block becomes live

abbrev pub words_made : Option Making → List Stored
words_made None = []
words_made (Some k) = k.words

-- the value blocks with the new block, where its tag is that of a value block
abbrev pub values_with : Bool → Memo → ℕ → ℕ → List ℕ
values_with wide m b tag = if (tag_refs wide tag == 0) && (tag_plain wide tag == 1) then valued m.part b m.values else m.values

-- the free block that was prepared is live
abbrev pub allocated : Bool → Memo → ℕ → Memo
allocated wide m b =
    record m {
      making = None;
      known = words_made m.making ++ m.known;
      values = values_with wide m b (or_zero (known_at (Tag b) (words_made m.making)));
      zeros = filter (other_than (Head b)) m.zeros;
      made = b ∷ m.made;
    }

-- ---- a block is raised, or lowered

abbrev pub without_made : Memo → ℕ → List ℕ
without_made m b = filter (not_block b) m.made

-- the part of the partition that a slot with a new target leads to
abbrev pub reparted : ℕ → Memo → Spot → ℕ → Memo
reparted c m p x = record m { part = part_set m.known c (shown m (Home c)) p x m.part }

-- the slot at an own tail has the block, or none again
abbrev pub with_unsent : ℕ → Spot → ℕ → Memo → Memo
with_unsent c (Slot s r k) b m = if s == c then record m { unsent = put 0 m.unsent r b } else m
with_unsent c p b m = m

-- the item of a head slot is taken: what was known of that slot binds no more
abbrev pub with_untaken : ℕ → Spot → ℕ → Memo → Memo
with_untaken c (Slot s r k) b m = if r == c then record m { untaken = put 0 m.untaken s b; known = filter (λ x. other_than (Slot s r k) x.spot) m.known } else m
with_untaken c p b m = m

-- a block whose count became 0 joins the zero-count blocks, and what was known of it is forgotten
abbrev pub lowered : ℕ → ℕ → Memo → Memo
lowered n b m = if n == 0 then record m { dying = m.dying ++ b ∷ []; known = filter (not_of b) m.known } else m

-- a step that takes a reference away cuts the looks
abbrev pub cut : ℕ → Spot → Memo → Memo
cut c p m = record m { looks = cut_looks c m p }

-- ---- the step in progress commits

-- the memo after the header of the step's block became `to`, where the memo was m
abbrev pub committed : Bool → ℕ → Memo → Op → ℕ → Memo
committed wide c m (Alloc Begun p b e) to = allocated wide (record m { op = Alloc Committed p b e }) b
committed wide c m (Up Begun p b e) to = reparted c (with_unsent c p b (record m { op = Up Committed p b e; made = without_made m b })) p b
committed wide c m (Down Begun p b e) to =
    let n : Memo = with_untaken c p b (with_unsent c p 0 (record m { op = Down Committed p b e; made = without_made m b })) in
    sifted c (lowered (header_of to).count b (cut c p (reparted c n p 0)))
committed wide c m (Change (Raising Begun) p a b e) to =
    let n : Memo = record m { op = Change (Raising Committed) p a b e; made = filter (not_block a) (without_made m b) } in
    sifted c (cut c p (reparted c n p b))
committed wide c m (Change (Lowering Open) p a b e) to =
    let n : Memo = record m { op = Change (Lowering Closed) p a b e; made = without_made m a } in
    sifted c (lowered (header_of to).count a (cut c p n))
committed wide c m o to = m

-- ---- all

-- the memo after the word at a spot became `to` by an exchange
abbrev pub exchanged_on : Bool → ℕ → Memo → Spot → ℕ → Memo
exchanged_on wide c m (Latch a) to = record m { latch = Some a }
exchanged_on wide c m (Segment s) to = record m { owned = s ∷ m.owned }
exchanged_on wide c m (Head b) to = committed wide c m m.op to
exchanged_on wide c m p to = m
