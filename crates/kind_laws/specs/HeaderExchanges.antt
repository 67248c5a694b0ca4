-- the kinds of step that exchange a header: what each needs, and what it makes of the memos
use Rattle.std.specs.Prelude.{◌≡◌, ◌≢◌, ℕ, ◌+◌, ◌^◌, ◌<◌, ◌≤◌, Bool, true, false, ◌&&◌, ◌==◌, if◌then◌else◌, List, [], ◌∷◌, ◌++◌, Some, None}
use Rattle.std.specs.List.{All, Contains, filter}
use Rattle.shm_words.specs.{declared.{header.Header.Header, geometry.Geometry.Geometry}, Headers.header_of}
use Rattle.shm_words.specs.{Classes.class_for, Tags.{tag_refs, tag_plain, tag_author, tag_link, tag_limit}}
use Rattle.shm_graph.specs.declared.spot.Spot.{Spot}
use Rattle.shm_graph.specs.declared.spot.Spot.TheVariants.{Home, Era, Root, Tail, QueueHead, Slot, Head, Tag, Body}
use Rattle.shm_graph.specs.declared.memo.First.TheVariants.{Begun, Committed}
use Rattle.shm_graph.specs.declared.memo.Op.TheVariants.{Alloc, Up, Down, Change}
use Rattle.shm_graph.specs.declared.memo.ChangeStage.TheVariants.{Raising, Lowering}
use Rattle.shm_graph.specs.declared.memo.{Second.TheVariants.{Open, Closed}, Stored.Stored, Look.Look, Making.Making}
use Rattle.shm_graph.specs.{declared.table.Part.Part, Spots.upd, MemoAfterStore.{other_than, not_block}}
use Rattle.shm_graph.specs.Views.{View, targets, at1}
use Rattle.shm_graph.specs.Held.{KnownAt, ValueAt, PartTie, is_loose, is_slot, reach_of, named_by, SlotOf, LooksSound}
use Rattle.shm_graph.specs.Tables.{contents_of, HasShape}
use Rattle.shm_graph.specs.declared.memo.Status.TheVariants as status

-- ---- what the exchanges that overwrite the header of another share

-- the row of c shows the era of the header that is overwritten
abbrev pub RowShows : (ℕ → ℕ → ℕ) → Header → ℕ → Type 0
RowShows era h c = (c ≢ h.client) → h.era ≤ era c h.client

-- the dying blocks with a block whose count became n
abbrev pub dying_after : ℕ → ℕ → List ℕ → List ℕ
dying_after n b dying = if n == 0 then dying ++ b ∷ [] else dying

-- ---- the exchange that makes a free block live

pub record AllocNeeds (g : Geometry) (w : Spot → ℕ) (v : View) (c k b e to tag : ℕ) (m : Making) : Type 0 where
  pub inside : c < g.clients
  pub acts : v.status c ≡ status.Live
  pub op : v.op c ≡ Alloc Begun (Root c k) b e
  pub making : v.making c ≡ Some m
  pub block : m.block ≡ b
  pub small : to < 2 ^ 64
  pub new : header_of to ≡ record { live = true; client = c; count = 1; era = e }
  pub tagged : Contains m.words (record { spot = Tag b; value = tag })
  pub small_tag : tag < tag_limit g.wide
  pub refs : tag_refs g.wide tag ≤ 16
  pub plain : tag_plain g.wide tag ≤ 8
  pub author : tag_author g.wide tag ≡ c
  pub link : tag_link g.wide tag ≡ 0
  pub fits : class_for (tag_refs g.wide tag) (tag_plain g.wide tag) ≡ m.class
  pub zeros : (i : ℕ) → i < tag_refs g.wide tag → Contains m.words (record { spot = Body b i; value = 0 })

abbrev pub alloc_view : View → ℕ → ℕ → ℕ → ℕ → Making → View
alloc_view v c k b e m =
    record v {
      op = at1 v.op c (Alloc Committed (Root c k) b e);
      making = at1 v.making c None;
      known = at1 v.known c (m.words ++ v.known c);
      zeros = at1 v.zeros c (filter (other_than (Head b)) (v.zeros c));
      made = at1 v.made c (b ∷ v.made c);
      test = at1 v.test c None;
    }

-- ---- the exchange that raises a live block, for any slot

-- the unsent block, where the slot is that of a queue
abbrev pub unsent_after : Spot → ℕ → (ℕ → ℕ → ℕ) → ℕ → ℕ → ℕ
unsent_after (Slot i j k) b u s r = if (i == s) && (j == r) then b else u s r
unsent_after _ b u s r = u s r

pub record UpNeeds (g : Geometry) (w : Spot → ℕ) (v : View) (c b e to : ℕ) (p : Spot) (part : Part) : Type 0 where
  pub inside : c < g.clients
  pub acts : v.status c ≢ status.New
  pub here : v.status c ≢ status.Gone
  pub op : v.op c ≡ Up Begun p b e
  pub small : to < 2 ^ 64
  pub some : b ≢ 0
  pub named : (q : Spot) × (targets g w v q ≡ b)
  -- where that word is a root, it is one of c
  pub rooted : (d k : ℕ) → named.0 ≡ Root d k → d ≡ c
  pub new : header_of to ≡ record { live = true; client = c; count = (header_of (w (Head b))).count + 1; era = e }
  pub shows : RowShows (λ i j. w (Era i j)) (header_of (w (Head b))) c
  -- in a pool for tables a block that is sent is a value block, and the part is the one that the new targets hold
  pub queued : is_loose (v.part c) ≡ false → is_slot p ≡ true → HasShape (contents_of g.wide w (targets g w v)) 0 1 b
  pub parted : PartTie (contents_of g.wide w (upd (targets g w v) p b)) c (upd (targets g w v) p b (Home c)) part
  pub loose : is_loose part ≡ is_loose (v.part c)

abbrev pub up_view : View → ℕ → ℕ → ℕ → Spot → Part → View
up_view v c b e p part =
    record v {
      op = at1 v.op c (Up Committed p b e);
      unsent = unsent_after p b v.unsent;
      part = at1 v.part c part;
      made = at1 v.made c (filter (not_block b) (v.made c));
      test = at1 v.test c None;
    }

-- ---- the exchange that lowers a live block, for any slot

-- the block that was taken out of a head slot
abbrev pub untaken_after : ℕ → Spot → ℕ → (ℕ → ℕ → ℕ) → ℕ → ℕ → ℕ
untaken_after c (Slot i j k) b u r s = if (j == c) && ((i == s) && (j == r)) then b else u r s
untaken_after c _ b u r s = u r s

abbrev pub unsent_back : ℕ → Spot → (ℕ → ℕ → ℕ) → ℕ → ℕ → ℕ
unsent_back c (Slot i j k) u s r = if (i == c) && ((i == s) && (j == r)) then 0 else u s r
unsent_back c _ u s r = u s r

abbrev pub lower_view : View → ℕ → ℕ → ℕ → ℕ → Spot → List Look → List Stored → List ℕ → Part → View
lower_view v c b e n p looks kept values part =
    record v {
      op = at1 v.op c (Down Committed p b e);
      dying = at1 v.dying c (dying_after n b (v.dying c));
      looks = at1 v.looks c looks;
      known = at1 v.known c kept;
      unsent = unsent_back c p v.unsent;
      untaken = untaken_after c p b v.untaken;
      part = at1 v.part c part;
      values = at1 v.values c values;
      made = at1 v.made c (filter (not_block b) (v.made c));
      test = at1 v.test c None;
    }

pub record LowerNeeds (g : Geometry) (w : Spot → ℕ) (v : View) (c b e n to : ℕ) (p : Spot) (looks : List Look) (kept : List Stored) (values : List ℕ) (part : Part) : Type 0 where
  pub inside : c < g.clients
  pub acts : v.status c ≢ status.New
  pub here : v.status c ≢ status.Gone
  pub op : v.op c ≡ Down Begun p b e
  pub some : b ≢ 0
  pub small : to < 2 ^ 64
  pub new : header_of to ≡ record { live = true; client = c; count = n; era = e }
  pub lower : n + 1 ≡ (header_of (w (Head b))).count
  pub shows : RowShows (λ i j. w (Era i j)) (header_of (w (Head b))) c
  -- of the memo's own change: what stays of looks and known is sound for the new targets, and the slot's block stays in reach
  pub looked : LooksSound (λ a. upd (targets g w v) p 0 (Home a)) (λ b i. upd (targets g w v) p 0 (Body b i)) (λ b. tag_author g.wide (w (Tag b))) (v.latch c) (named_by (upd (targets g w v) p 0) (λ s r. w (Tail s r)) (λ s r. w (QueueHead s r)) c) [] looks
  pub slot : SlotOf g.wide c (λ i. header_of (w (Head i))) (λ i. w (Tag i)) (v.latch c) (λ s r. w (Tail s r)) (λ s r. w (QueueHead s r)) (reach_of (upd (targets g w v) p 0) (λ s r. w (Tail s r)) (λ s r. w (QueueHead s r)) (λ d. looks) c) p
  pub knows : All (λ (s : Stored). KnownAt g.wide c (λ i. w (Tag i)) (λ i j. w (Body i j)) (λ i j l. w (Slot i j l)) (λ i j. w (Tail i j)) (λ i j. w (QueueHead i j)) (λ s. untaken_after c p b v.untaken c s) (v.latch c)
      (reach_of (upd (targets g w v) p 0) (λ i j. w (Tail i j)) (λ i j. w (QueueHead i j)) (λ d. looks) c) (dying_after n b (v.dying c)) s.spot s.value) kept
  -- so is what stays of the value blocks, and the part is the one that the new targets hold
  pub valued : All (ValueAt (contents_of g.wide w (upd (targets g w v) p 0)) (reach_of (upd (targets g w v) p 0) (λ i j. w (Tail i j)) (λ i j. w (QueueHead i j)) (λ d. looks) c)) values
  pub parted : PartTie (contents_of g.wide w (upd (targets g w v) p 0)) c (upd (targets g w v) p 0 (Home c)) part
  pub loose : is_loose part ≡ is_loose (v.part c)

-- ---- the exchange of a change's first half

-- neither of these blocks
abbrev pub not_blocks : ℕ → ℕ → ℕ → Bool
not_blocks b x d = not_block b d && not_block x d

abbrev pub change_view : View → ℕ → ℕ → ℕ → ℕ → Spot → List Look → List Stored → List ℕ → Part → View
change_view v c x b e p looks kept values part =
    record v {
      op = at1 v.op c (Change (Raising Committed) p x b e);
      looks = at1 v.looks c looks;
      known = at1 v.known c kept;
      part = at1 v.part c part;
      values = at1 v.values c values;
      made = at1 v.made c (filter (not_blocks b x) (v.made c));
      test = at1 v.test c None;
    }

pub record ChangeNeeds (g : Geometry) (w : Spot → ℕ) (v : View) (c x b e to : ℕ) (p : Spot) (looks : List Look) (kept : List Stored) (values : List ℕ) (part : Part) : Type 0 where
  pub inside : c < g.clients
  pub acts : v.status c ≢ status.New
  pub here : v.status c ≢ status.Gone
  pub op : v.op c ≡ Change (Raising Begun) p x b e
  pub small : to < 2 ^ 64
  pub named : (q : Spot) × (targets g w v q ≡ b)
  -- where that word is a root, it is one of c
  pub rooted : (d k : ℕ) → named.0 ≡ Root d k → d ≡ c
  pub new : header_of to ≡ record { live = true; client = c; count = (header_of (w (Head b))).count + 1; era = e }
  pub shows : RowShows (λ i j. w (Era i j)) (header_of (w (Head b))) c
  pub looked : LooksSound (λ a. upd (targets g w v) p b (Home a)) (λ d i. upd (targets g w v) p b (Body d i)) (λ b. tag_author g.wide (w (Tag b))) (v.latch c) (named_by (upd (targets g w v) p b) (λ s r. w (Tail s r)) (λ s r. w (QueueHead s r)) c) [] looks
  pub slot : SlotOf g.wide c (λ i. header_of (w (Head i))) (λ i. w (Tag i)) (v.latch c) (λ s r. w (Tail s r)) (λ s r. w (QueueHead s r)) (reach_of (upd (targets g w v) p b) (λ s r. w (Tail s r)) (λ s r. w (QueueHead s r)) (λ d. looks) c) p
  pub knows : All (λ (s : Stored). KnownAt g.wide c (λ i. w (Tag i)) (λ i j. w (Body i j)) (λ i j l. w (Slot i j l)) (λ i j. w (Tail i j)) (λ i j. w (QueueHead i j)) (v.untaken c) (v.latch c)
      (reach_of (upd (targets g w v) p b) (λ i j. w (Tail i j)) (λ i j. w (QueueHead i j)) (λ d. looks) c) (v.dying c) s.spot s.value) kept
  -- so is what stays of the value blocks, and the part is the one that the new targets hold
  pub valued : All (ValueAt (contents_of g.wide w (upd (targets g w v) p b)) (reach_of (upd (targets g w v) p b) (λ i j. w (Tail i j)) (λ i j. w (QueueHead i j)) (λ d. looks) c)) values
  pub parted : PartTie (contents_of g.wide w (upd (targets g w v) p b)) c (upd (targets g w v) p b (Home c)) part
  pub loose : is_loose part ≡ is_loose (v.part c)

-- ---- the exchange of a change's second half: the block before loses the reference that what is held over was

abbrev pub second_view : View → ℕ → ℕ → ℕ → ℕ → ℕ → Spot → List Look → List Stored → List ℕ → View
second_view v c x b e n p looks kept values =
    record v {
      op = at1 v.op c (Change (Lowering Closed) p x b e);
      dying = at1 v.dying c (dying_after n x (v.dying c));
      looks = at1 v.looks c looks;
      known = at1 v.known c kept;
      values = at1 v.values c values;
      made = at1 v.made c (filter (not_block x) (v.made c));
      test = at1 v.test c None;
    }

pub record SecondNeeds (g : Geometry) (w : Spot → ℕ) (v : View) (c x b e n to : ℕ) (p : Spot) (looks : List Look) (kept : List Stored) (values : List ℕ) : Type 0 where
  pub inside : c < g.clients
  pub acts : v.status c ≢ status.New
  pub here : v.status c ≢ status.Gone
  pub op : v.op c ≡ Change (Lowering Open) p x b e
  pub small : to < 2 ^ 64
  pub new : header_of to ≡ record { live = true; client = c; count = n; era = e }
  pub lower : n + 1 ≡ (header_of (w (Head x))).count
  pub shows : RowShows (λ i j. w (Era i j)) (header_of (w (Head x))) c
  pub looked : LooksSound (λ a. targets g w v (Home a)) (λ b i. targets g w v (Body b i)) (λ b. tag_author g.wide (w (Tag b))) (v.latch c) (named_by (targets g w v) (λ s r. w (Tail s r)) (λ s r. w (QueueHead s r)) c) [] looks
  pub slot : SlotOf g.wide c (λ i. header_of (w (Head i))) (λ i. w (Tag i)) (v.latch c) (λ s r. w (Tail s r)) (λ s r. w (QueueHead s r)) (reach_of (targets g w v) (λ s r. w (Tail s r)) (λ s r. w (QueueHead s r)) (λ d. looks) c) p
  pub knows : All (λ (s : Stored). KnownAt g.wide c (λ i. w (Tag i)) (λ i j. w (Body i j)) (λ i j l. w (Slot i j l)) (λ i j. w (Tail i j)) (λ i j. w (QueueHead i j)) (v.untaken c) (v.latch c)
      (reach_of (targets g w v) (λ i j. w (Tail i j)) (λ i j. w (QueueHead i j)) (λ d. looks) c) (dying_after n x (v.dying c)) s.spot s.value) kept
  pub valued : All (ValueAt (contents_of g.wide w (targets g w v)) (reach_of (targets g w v) (λ i j. w (Tail i j)) (λ i j. w (QueueHead i j)) (λ d. looks) c)) values
