-- what follows from what is sound
use Rattle.std.proofs.Common.{◌≡◌, ◌≢◌, ℕ, ◌+◌, ◌%◌, ◌<◌, ◌≤◌, refl, sym, ap, ◌∙◌, subst, arith, inl, inr, true, List}
use Rattle.std.proofs.lemmas.{Bool.cases_eq, List.Elements.All-get_or}
use Rattle.std.specs.Prelude.{Option, Some, slice_index, take}
use Rattle.shm_words.specs.declared.{geometry.Geometry.Geometry, header.Header.Header}
use Rattle.shm_words.specs.{Layout.{GeometryFits, total_of}, Redos.redo_of}
use Rattle.shm_words.specs.declared.redo.Redo.TheVariants as redos
use Rattle.shm_words.proofs.Words.{live_not_zero}
use Rattle.shm_graph.specs.declared.memo.{First.First, ChangeStage.TheVariants.Raising, Op.Op}
use Rattle.shm_graph.specs.declared.{memo.Op.TheVariants.{Up, Down, Change}, spot.Spot.Spot}
use Rattle.shm_graph.specs.declared.spot.Spot.TheVariants.{Redo, RedoMore, Era, Head, Page, Tail, QueueHead, Slot, Unused}
use Rattle.shm_graph.specs.{Spots.{see, spot_at, spot_address}, Blocks.{IsLive, classes, headers}}
use Rattle.shm_graph.specs.{References.{words_of, references_to}, Ops.indegree, Views.{View, targets, held_overs, ons}}
use Rattle.shm_graph.specs.{Held.{CountSound, EraSound, IsUnusedLane, LaneSound, OpTie, Shown, odd}, Sound.IsSound}
use Rattle.shm_graph.proofs.States.{Counting.{has_place, indegree_has, target_not_spare}, StillClean.indegree_still}
use Rattle.shm_graph.proofs.Spots.Seeing.{see_at, seen_stands, classes-see}

-- ---- references

-- a block with a reference is live, and its count isn't 0
has_count : (g : Geometry) (class : ℕ → ℕ → ℕ) (head : ℕ → Header) (t : Spot → ℕ) (l : ℕ → ℕ) (p : Spot) → CountSound g class head t l → t p ≢ 0 → 1 ≤ indegree g class t l (t p) → ((head (t p)).live ≡ true) × (0 < (head (t p)).count)
has_count g class head t l p x n one = let live = x.targets p n in let c = x.counts (t p) live in (live, omega arith)

is_live : (g : Geometry) (class : ℕ → ℕ → ℕ) (head : ℕ → Header) (t : Spot → ℕ) (l : ℕ → ℕ) (p : Spot) → CountSound g class head t l → t p ≢ 0 → (head (t p)).live ≡ true
is_live g class head t l p x n = x.targets p n

is_counted : (g : Geometry) (class : ℕ → ℕ → ℕ) (head : ℕ → Header) (t : Spot → ℕ) (l : ℕ → ℕ) (b : ℕ) → CountSound g class head t l → (head b).live ≡ true → (head b).count ≡ indegree g class t l b
is_counted g class head t l b x live = x.counts b live

pub sound_named : (g : Geometry) (ws : List ℕ) (v : View) → GeometryFits g → IsSound g (see g ws) v → (p : Spot) → targets g (see g ws) v p ≢ 0 → IsLive (headers (see g ws)) (targets g (see g ws) v p) × (0 < (headers (see g ws) (targets g (see g ws) v p)).count)
sound_named g ws v f h p n =
    let w : Spot → ℕ = see g ws in
    has_count g (classes w) (headers w) (targets g w v) (held_overs v) p h.count n
    (indegree_has g (classes w) (targets g w v) (held_overs v) p (targets g w v p) (has_place g w v.op (λ q. seen_stands g ws q f) h.op p n) (target_not_spare g.clients _ _ p n) refl)

pub sound_free : (g : Geometry) (w : Spot → ℕ) (v : View) → IsSound g w v → (b : ℕ) → w (Head b) ≡ 0 → (p : Spot) → targets g w v p ≡ b → b ≡ 0
sound_free g w v h b free p e =
    elim (cases_eq b 0) [
      | inl z ↦ z
      | inr n ↦ absurd (live_not_zero (w (Head b)) (subst (IsLive (headers w)) e (is_live g (classes w) (headers w) (targets g w v) (held_overs v) p h.count (λ z. n (sym e ∙ z)))) free)
    ]

pub sound_counted : (g : Geometry) (w : Spot → ℕ) (v : View) → IsSound g w v → ((c : ℕ) → c < g.clients → held_overs v c ≡ 0) → (b : ℕ) → b ≢ 0 → IsLive (headers w) b → (headers w b).count ≡ references_to g (classes w) (targets g w v) b
sound_counted g w v h none b n live = is_counted g (classes w) (headers w) (targets g w v) (held_overs v) b h.count live ∙ indegree_still g (classes w) (targets g w v) (held_overs v) b n none

-- ---- eras

module _ (n : ℕ) (head : ℕ → Header) (era : ℕ → ℕ → ℕ) (on : ℕ → Option ℕ) (x : EraSound n head era on) where
  era_shown : (c b : ℕ) → c < n → on c ≡ Some b → Shown n era (head b) c
  era_shown c b l e = x.shown c b l e

  era_by_header : (b : ℕ) → (head b).live ≡ true → era (head b).client (head b).client ≤ (head b).era → on (head b).client ≡ Some b
  era_by_header b live most = let y = x.header b live in y.equal (let z = y.most in omega arith)

  era_by_row : (k c : ℕ) → k < n → c < n → k ≢ c → era c c ≤ era k c → (b : ℕ) × (on c ≡ Some b)
  era_by_row k c lk lc d most = let y = x.row k c lk lc d in y.equal (let z = y.most in omega arith)

  era_past : (b : ℕ) → (head b).live ≡ true → ((head b).client < n) × (1 ≤ (head b).era) × ((head b).era ≤ era (head b).client (head b).client)
  era_past b live = (x.client b live, x.age b live, (x.header b live).most)

module _ (g : Geometry) (w : Spot → ℕ) (v : View) (h : IsSound g w v) where
  era_of : ℕ → ℕ → ℕ
  era_of i j = w (Era i j)

  pub sound_shown : (c b : ℕ) → c < g.clients → ons v c ≡ Some b → Shown g.clients (λ i j. w (Era i j)) (headers w b) c
  sound_shown = era_shown g.clients (headers w) (λ i j. w (Era i j)) (ons v) h.era

  pub sound_by_header : (b : ℕ) → IsLive (headers w) b → w (Era (headers w b).client (headers w b).client) ≤ (headers w b).era → ons v (headers w b).client ≡ Some b
  sound_by_header = era_by_header g.clients (headers w) (λ i j. w (Era i j)) (ons v) h.era

  pub sound_by_row : (k c : ℕ) → k < g.clients → c < g.clients → k ≢ c → w (Era c c) ≤ w (Era k c) → (b : ℕ) × (ons v c ≡ Some b)
  sound_by_row = era_by_row g.clients (headers w) (λ i j. w (Era i j)) (ons v) h.era

  pub sound_past : (b : ℕ) → IsLive (headers w) b → ((headers w b).client < g.clients) × (1 ≤ (headers w b).era) × ((headers w b).era ≤ w (Era (headers w b).client (headers w b).client))
  sound_past = era_past g.clients (headers w) (λ i j. w (Era i j)) (ons v) h.era

  -- ---- redo records

  tie : (c : ℕ) (o : Op) → c < g.clients → v.op c ≡ o → OpTie g (λ s q. w (Page s q)) (w (Redo c)) (w (RedoMore c)) (w (Era c c)) (words_of g.wide w) o
  tie c o l e = subst (λ (y : Op). OpTie g (λ s q. w (Page s q)) (w (Redo c)) (w (RedoMore c)) (w (Era c c)) (words_of g.wide w) y) e (h.op c l)

  pub sound_up : (c : ℕ) (s : First) (p : Spot) (b e : ℕ) → c < g.clients → v.op c ≡ Up s p b e → redo_of g.wide (w (Redo c)) (w (RedoMore c)) ≡ Some (redos.Up (spot_address g p) b)
  sound_up c s p b e l q = (tie c (Up s p b e) l q).spelled

  pub sound_down : (c : ℕ) (s : First) (p : Spot) (b e : ℕ) → c < g.clients → v.op c ≡ Down s p b e → redo_of g.wide (w (Redo c)) (w (RedoMore c)) ≡ Some (redos.Down (spot_address g p) b)
  sound_down c s p b e l q = (tie c (Down s p b e) l q).spelled

  pub sound_change : (c : ℕ) (s : First) (p : Spot) (a b e : ℕ) → c < g.clients → v.op c ≡ Change (Raising s) p a b e → redo_of g.wide (w (Redo c)) (w (RedoMore c)) ≡ Some (redos.Change (odd (w (Era c c))) (spot_address g p) a b)
  sound_change c s p a b e l q =
      let t = tie c (Change (Raising s) p a b e) l q in
      t.spelled ∙ ap (λ y. Some (redos.Change (odd y) (spot_address g p) a b)) t.current

-- ---- queues

module _ (t : ℕ → ℕ) (tail queue_head : ℕ) (sent : List ℕ) (unsent : ℕ) (received : List ℕ) (untaken : ℕ) (x : LaneSound t tail queue_head sent unsent received untaken) where
  lane_front : received ≡ take queue_head sent
  lane_front = x.prefix

  lane_room : (queue_head ≤ tail) × (tail ≤ queue_head + 8)
  lane_room = (x.order, x.room)

  -- an item that waits is named by its slot
  lane_waiting : (n : ℕ) → queue_head < n → n < tail → (t (n % 8) ≡ slice_index sent n) × (slice_index sent n ≢ 0)
  lane_waiting n after before = (x.later n after before, All-get_or (λ b. b ≢ 0) sent n 0 (let k = x.all_sent in omega arith) x.some)

empty_lane : (tail queue_head : ℕ) (t : ℕ → ℕ) (k : ℕ) → IsUnusedLane tail queue_head t → t k ≡ 0
empty_lane tail queue_head t k x = x.2 k

module _ (g : Geometry) (w : Spot → ℕ) (v : View) (h : IsSound g w v) (s r : ℕ) (ls : s < g.clients) where
  pub sound_front : r < g.clients → s ≢ r → v.received r s ≡ take (w (QueueHead s r)) (v.sent s r)
  sound_front lr d = lane_front (λ k. targets g w v (Slot s r k)) (w (Tail s r)) (w (QueueHead s r)) (v.sent s r) (v.unsent s r) (v.received r s) (v.untaken r s) (h.lanes s r ls lr d)

  pub sound_room : r < g.clients → s ≢ r → (w (QueueHead s r) ≤ w (Tail s r)) × (w (Tail s r) ≤ w (QueueHead s r) + 8)
  sound_room lr d = lane_room (λ k. targets g w v (Slot s r k)) (w (Tail s r)) (w (QueueHead s r)) (v.sent s r) (v.unsent s r) (v.received r s) (v.untaken r s) (h.lanes s r ls lr d)

  pub sound_waiting : (n : ℕ) → r < g.clients → s ≢ r → w (QueueHead s r) < n → n < w (Tail s r) → IsLive (headers w) (slice_index (v.sent s r) n)
  sound_waiting n lr d after before =
      let x = lane_waiting (λ k. targets g w v (Slot s r k)) (w (Tail s r)) (w (QueueHead s r)) (v.sent s r) (v.unsent s r) (v.received r s) (v.untaken r s) (h.lanes s r ls lr d) n after before in
      subst (IsLive (headers w)) x.0 (is_live g (classes w) (headers w) (targets g w v) (held_overs v) (Slot s r (n % 8)) h.count (λ z. x.1 (sym x.0 ∙ z)))

  pub sound_apart : (k : ℕ) → targets g w v (Slot s r k) ≢ 0 → s ≢ r
  sound_apart k n e = n (subst (λ y. targets g w v (Slot s y k) ≡ 0) e (empty_lane (w (Tail s s)) (w (QueueHead s s)) (λ j. targets g w v (Slot s s j)) k (h.self_lanes s ls)))

-- ---- pages

pub sound_unused : (g : Geometry) (ws : List ℕ) (v : View) → GeometryFits g → IsSound g (see g ws) v → (a : ℕ) → a < total_of g → spot_at g (classes (see g ws)) a ≡ Unused a → slice_index ws a ≡ 0
sound_unused g ws v f h a l e = sym (see_at g ws a (Unused a) l (subst (λ (k : ℕ → ℕ → ℕ). spot_at g k a ≡ Unused a) (classes-see g ws f) e)) ∙ h.unused a
