-- word steps at queues with what the invariant says of the word, and what a held state shows of tails, heads and blocks in reach: what is proved of it
use Rattle.std.proofs.Common.{◌≡◌, ◌≢◌, ℕ, ◌+◌, ◌^◌, ◌<◌, ◌≤◌, refl, sym, ap, ◌∙◌, subst, arith, true, not, zero, suc, List, [], ◌∷◌, ◌++◌, map, inr}
use Rattle.std.proofs.lemmas.{Bool.{eq-eqb, ne_eqb}, List.Elements.{Contains-append_left, Contains-append_right}}
use Rattle.std.proofs.lemmas.Map.Views.{list_any-from_Contains}
use Rattle.std.specs.{List.Contains, Cmp.nat_eq_equiv}
use Rattle.shm_words.specs.Layout.{total_of}
use Rattle.shm_graph.specs.declared.{ask.Me.Me, spot.Spot.{Spot, TheVariants.{Era, QueueHead, Home, Slot, Tail}}}
use Rattle.shm_graph.specs.{declared.memo.{Memo.Memo, Op.TheVariants.Nothing, Look.Look, Stored.Stored}, Held.HeldAt}
use Rattle.shm_graph.specs.Reach.{in_slot, in_slots, is_reached, named_blocks, not_zero, reached_blocks, roots_below, shown}
use Rattle.shm_graph.specs.Views.{own_word, view}
use Rattle.shm_graph.proofs.States.{Holders.{Holds, reach_counted, target_counted}, Reached.reached_here}
use Rattle.kind_laws.proofs.Lists.{Contains-filter}
use Rattle.plans.specs.Parts.{IsHeld}
use Rattle.kind_parts.proofs.{BeginAt.word_target, BeginWords.known_here, Cores.room_least}
use Rattle.shm_count.specs.{Proved.DyingBlocks.live_room, Step.Control.IsInside}
use Rattle.shm_queue.specs.QueueWords.{c}

-- ---- what is known of a head slot

-- the item of a head slot that is known is listed
in_slots_has : (s i k b : ℕ) (ks : List Stored) → Contains ks (record { spot = Slot s i k; value = b }) → Contains (in_slots ks) b
in_slots_has s i k b [] (n, l, e) = absurd (omega arith)
in_slots_has s i k b (y ∷ ys) (zero, l, e) = subst (λ (z : Stored). Contains (in_slot z.spot z.value ++ in_slots ys) b) (sym e) (0, omega arith, refl)
in_slots_has s i k b (y ∷ ys) (suc n, l, e) = Contains-append_right (in_slot y.spot y.value) (in_slots ys) b (in_slots_has s i k b ys (n, omega arith, e))

-- so that it is in reach
pub item_reached : (c s k b : ℕ) (m : Memo) → b ≢ 0 → Contains m.known (record { spot = Slot s c k; value = b }) → is_reached c m b ≡ true
item_reached c s k b m some known =
    let all : List ℕ = roots_below c m 16 ++ shown m (Home c) ∷ in_slots m.known in
    let listed : Contains all b = Contains-append_right (roots_below c m 16) (shown m (Home c) ∷ in_slots m.known) b (Contains-append_right (shown m (Home c) ∷ []) (in_slots m.known) b (in_slots_has s c k b m.known known)) in
    list_any-from_Contains nat_eq_equiv b (reached_blocks c m)
    (Contains-append_left (named_blocks c m) (map (λ (x : Look). x.block) m.looks) b (Contains-filter not_zero all b listed (ap not (ne_eqb b 0 some))))

-- ---- what a held state shows

module _ (me : Me) (l : me.who < me.geometry.clients) where
  -- tails and heads have a successor
  tail_at : (i : ℕ) → i < me.geometry.clients → (w : Spot → ℕ) (r : ℕ → Memo) → HeldAt me.geometry w (view r) → own_word (r me.who).own (Tail me.who i) + 1 < 2 ^ 64
  tail_at i li w r h =
      let own : own_word (r me.who).own (Tail me.who i) ≡ w (Tail me.who i) = h.mine me.who l (Tail me.who i) (eq-eqb me.who me.who refl) in
      let most = (h.tails me.who i l li).0 in
      let small = h.small (Era me.who me.who) in
      omega arith

  pub tail_small : (i : ℕ) (m : Memo) → i < me.geometry.clients → IsHeld me m → own_word m.own (Tail me.who i) + 1 < 2 ^ 64
  tail_small i m li (w, r, h, same) = subst (λ (x : Memo). own_word x.own (Tail me.who i) + 1 < 2 ^ 64) same (tail_at i li w r h)

  head_at : (s : ℕ) → s < me.geometry.clients → s ≢ me.who → (w : Spot → ℕ) (r : ℕ → Memo) → HeldAt me.geometry w (view r) → own_word (r me.who).own (QueueHead s me.who) < 2 ^ 47
  head_at s ls other w r h =
      let own : own_word (r me.who).own (QueueHead s me.who) ≡ w (QueueHead s me.who) = h.mine me.who l (QueueHead s me.who) (eq-eqb me.who me.who refl) in
      let order = (h.lanes s me.who ls l other).order in
      let most = (h.tails s me.who ls l).0 in
      let room = (h.own s ls).room in
      let least = room_least (r s).op in
      omega arith

  pub head_low : (s : ℕ) (m : Memo) → s < me.geometry.clients → s ≢ me.who → IsHeld me m → own_word m.own (QueueHead s me.who) < 2 ^ 47
  head_low s m ls other (w, r, h, same) = subst (λ (x : Memo). own_word x.own (QueueHead s me.who) < 2 ^ 47) same (head_at s ls other w r h)

  pub head_small : (s : ℕ) (m : Memo) → s < me.geometry.clients → s ≢ me.who → IsHeld me m → own_word m.own (QueueHead s me.who) + 1 < 2 ^ 64
  head_small s m ls other held = let low = head_low s m ls other held in omega arith

  -- a block in reach is a counted block of the pool
  abbrev pub IsReachable : ℕ → Memo → Type 0
  IsReachable b m = IsInside me b × (b + 2 ≤ total_of me.geometry) × (Contains m.dying b → ⊥)

  reach_at : (b : ℕ) (w : Spot → ℕ) (r : ℕ → Memo) → HeldAt me.geometry w (view r) → is_reached me.who (r me.who) b ≡ true → IsReachable b (r me.who)
  reach_at b w r h reach =
      let counted = reach_counted me.geometry w (view r) h me.who b l (reached_here me.geometry w r h me.who l b reach) in
      let room = live_room me.geometry w r h b me.who counted.0 in
      (room.0, (let q = room.1 in omega arith), λ y. counted.1 ((h.dying me.who l).listed b y).1)

  -- and so is an item that is known in a head slot, with no step in progress
  item_at : (s k b : ℕ) (w : Spot → ℕ) (r : ℕ → Memo) → HeldAt me.geometry w (view r) → (r me.who).op ≡ Nothing → Contains (r me.who).known (record { spot = Slot s me.who k; value = b }) → IsReachable b (r me.who)
  item_at s k b w r h idle has =
      let c = me.who in
      let known = known_here me.geometry w r c h l (Slot s c k) b has in
      let holds : Holds w me.geometry (view r) c (Slot s c k) = (known.1, inr (refl, known.2, known.3)) in
      let counted = target_counted me.geometry w (view r) h (Slot s c k) b known.5 (word_target me.geometry w r c h l (Slot s c k) holds idle ∙ known.6) in
      let room = live_room me.geometry w r h b c counted.0 in
      (room.0, (let q = room.1 in omega arith), λ y. counted.1 ((h.dying c l).listed b y).1)

  pub item_inside : (s k b : ℕ) (m : Memo) → IsHeld me m → m.op ≡ Nothing → Contains m.known (record { spot = Slot s me.who k; value = b }) → IsReachable b m
  item_inside s k b m (w, r, h, same) = subst (λ (x : Memo). x.op ≡ Nothing → Contains x.known (record { spot = Slot s me.who k; value = b }) → IsReachable b x) same (item_at s k b w r h)

  pub reach_inside : (b : ℕ) (m : Memo) → IsHeld me m → is_reached me.who m b ≡ true → IsReachable b m
  reach_inside b m (w, r, h, same) = subst (λ (x : Memo). is_reached me.who x b ≡ true → IsReachable b x) same (reach_at b w r h)
