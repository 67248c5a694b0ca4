-- blocks in reach are counted blocks of the pool
use Rattle.std.proofs.Common.{◌≡◌, ℕ, ◌+◌, ◌<◌, ◌≤◌, subst, arith, true}
use Rattle.std.specs.List.{Contains}
use Rattle.shm_words.specs.Layout.{total_of}
use Rattle.shm_graph.specs.{declared.{ask.Me.Me, memo.Memo.Memo, spot.Spot.Spot}, Held.HeldAt, Reach.is_reached}
use Rattle.shm_graph.specs.Views.{view}
use Rattle.shm_graph.proofs.States.{Holders.reach_counted, Reached.reached_here}
use Rattle.plans.specs.Parts.{IsHeld}
use Rattle.shm_count.specs.{Proved.DyingBlocks.live_room, Step.Control.IsInside}

module _ (me : Me) (l : me.who < me.geometry.clients) where
  -- a block of the pool, and none of the zero-count blocks of the identity
  abbrev pub IsCounted : ℕ → Memo → Type 0
  IsCounted b m = IsInside me b × (b + 2 ≤ total_of me.geometry) × (Contains m.dying b → ⊥)

  counted_at : (w : Spot → ℕ) (r : ℕ → Memo) → HeldAt me.geometry w (view r) → (b : ℕ) → is_reached me.who (r me.who) b ≡ true → IsCounted b (r me.who)
  counted_at w r h b reach =
      let c = me.who in
      let counted = reach_counted me.geometry w (view r) h c b l (reached_here me.geometry w r h c l b reach) in
      let room = live_room me.geometry w r h b c counted.0 in
      (room.0, (let q = room.1 in omega arith), λ y. counted.1 ((h.dying c l).listed b y).1)

  -- in a held state a block in reach is one
  pub reached_counted : (m : Memo) (b : ℕ) → IsHeld me m → is_reached me.who m b ≡ true → IsCounted b m
  reached_counted m b (w, r, h, same) = subst (λ (x : Memo). is_reached me.who x b ≡ true → IsCounted b x) same (counted_at w r h b)
