-- what a pool that is at work promises in any state: the part of the invariant that speaks for itself
use Rattle.std.specs.Prelude.{◌≡◌, ◌≢◌, ℕ, ◌+◌, ◌%◌, ◌<◌, ◌≤◌, true, false, []}
use Rattle.shm_words.specs.{declared.geometry.Geometry.Geometry, Headers.header_of, Tags.tag_author}
use Rattle.shm_graph.specs.declared.spot.Spot.{Spot}
use Rattle.shm_graph.specs.declared.spot.Spot.TheVariants.{Status, Redo, RedoMore, Hold, Latch, Home, Era, Root, Tail, QueueHead, Slot, Segment, Page, Unused, Head, Tag, Body}
use Rattle.shm_graph.specs.{declared.memo.Op.TheVariants.Nothing, References.words_of, Tables.{contents_of, HasShape}}
use Rattle.shm_graph.specs.Views.{View, own_word, owner_is, targets, held_overs, ons}
use Rattle.shm_graph.specs.Held.{status_word, LatchTie, SegmentTie, DyingTie, MakingTie, BlockSound, EraSound, OpTie, CountSound, named_by, LooksSound, LaneSound, IsUnusedLane, PartTie, is_loose, Fresh, IsDying}
use Rattle.shm_graph.specs.Controllers.{IsController}
use Rattle.shm_graph.specs.declared.memo.Status.TheVariants as status

-- nothing of an identity is left: no step in progress, no root, latch, zero-count block or segment, no send that isn't published and no receive that is half done
pub record IsGone (g : Geometry) (w : Spot → ℕ) (v : View) (c : ℕ) : Type 0 where
  pub idle : v.op c ≡ Nothing
  pub roots : (k : ℕ) → w (Root c k) ≡ 0
  pub hold : w (Hold c) ≡ 0
  pub latches : (a : ℕ) → w (Latch a) ≢ c + 1
  pub blocks : (b : ℕ) → IsDying (header_of (w (Head b))) c → ⊥
  pub segments : (s : ℕ) → w (Segment s) ≢ c + 1
  pub sends : (r : ℕ) → r < g.clients → r ≢ c → w (Tail c r) < w (QueueHead c r) + 8 → targets g w v (Slot c r (w (Tail c r) % 8)) ≡ 0
  pub takes : (s : ℕ) → s < g.clients → s ≢ c → w (QueueHead s c) < w (Tail s c) → targets g w v (Slot s c (w (QueueHead s c) % 8)) ≢ 0

-- Memos show what the words say; words of pages without a class are 0; counts are numbers of references; eras are in order, and own eras at least 1; queues agree with what was sent and received; who is gone has nothing left; and no word is two identities' to store
pub record IsSound (g : Geometry) (w : Spot → ℕ) (v : View) : Type 0 where
  pub mine : (c : ℕ) → c < g.clients → (p : Spot) → owner_is c p ≡ true → own_word (v.own c) p ≡ w p
  pub state : (c : ℕ) → c < g.clients → status_word (v.status c) ≡ w (Status c)
  pub latch : (c : ℕ) → c < g.clients → LatchTie (λ a. w (Latch a)) (λ d. w (Hold d)) c (v.latch c)
  pub segments : (c : ℕ) → c < g.clients → SegmentTie (λ s. w (Segment s)) c (v.owned c)
  pub dying : (c : ℕ) → c < g.clients → DyingTie (λ b. header_of (w (Head b))) c (v.dying c)
  pub making : (c : ℕ) → c < g.clients → MakingTie g (λ s q. w (Page s q)) (λ s. w (Segment s)) (λ b. w (Head b)) (λ b. w (Tag b)) (λ b i. w (Body b i)) c (v.making c)
  pub blocks : BlockSound g (λ s q. w (Page s q)) (λ b. w (Head b)) (λ b. w (Tag b))
  pub unused : (a : ℕ) → w (Unused a) ≡ 0
  pub count : CountSound g (λ s q. w (Page s q)) (λ b. header_of (w (Head b))) (targets g w v) (held_overs v)
  pub era : EraSound g.clients (λ b. header_of (w (Head b))) (λ i j. w (Era i j)) (ons v)
  pub own : (c : ℕ) → c < g.clients → 1 ≤ w (Era c c)
  pub op : (c : ℕ) → c < g.clients → OpTie g (λ s q. w (Page s q)) (w (Redo c)) (w (RedoMore c)) (w (Era c c)) (words_of g.wide w) (v.op c)
  pub looks : (c : ℕ) → c < g.clients → LooksSound (λ a. targets g w v (Home a)) (λ b i. targets g w v (Body b i)) (λ b. tag_author g.wide (w (Tag b))) (v.latch c) (named_by (targets g w v) (λ s r. w (Tail s r)) (λ s r. w (QueueHead s r)) c) [] (v.looks c)
  pub parts : (c d : ℕ) → c < g.clients → d < g.clients → is_loose (v.part c) ≡ is_loose (v.part d)
  pub part : (c : ℕ) → c < g.clients → PartTie (contents_of g.wide w (targets g w v)) c (targets g w v (Home c)) (v.part c)
  pub queued : (c : ℕ) → c < g.clients → is_loose (v.part c) ≡ false → (s r k : ℕ) → targets g w v (Slot s r k) ≢ 0 → HasShape (contents_of g.wide w (targets g w v)) 0 1 (targets g w v (Slot s r k))
  pub lanes : (s r : ℕ) → s < g.clients → r < g.clients → s ≢ r → LaneSound (λ k. targets g w v (Slot s r k)) (w (Tail s r)) (w (QueueHead s r)) (v.sent s r) (v.unsent s r) (v.received r s) (v.untaken r s)
  pub self_lanes : (c : ℕ) → c < g.clients → IsUnusedLane (w (Tail c c)) (w (QueueHead c c)) (λ k. targets g w v (Slot c c k))
  pub fresh : (c : ℕ) → c < g.clients → v.status c ≡ status.New → Fresh c (v.own c) (v.op c) (v.latch c) (v.looks c) (v.making c) (v.owned c) (v.dying c) (v.unsent c) (v.untaken c)
  pub gone : (c : ℕ) → c < g.clients → v.status c ≡ status.Gone → IsGone g w v c
  pub alone : (c d : ℕ) → c < g.clients → d < g.clients → (p : Spot) → IsController g w v c p → IsController g w v d p → c ≡ d
