-- count steps at the words that a partition is read from may begin
use Rattle.std.proofs.Common.{◌≡◌, ◌≢◌, ℕ, ◌<◌, refl, sym, ◌∙◌, subst, arith, true, false, inr}
use Rattle.std.proofs.lemmas.Bool.{false≢true}
use Rattle.shm_words.specs.{Layout.total_of, Tags.tag_refs}
use Rattle.shm_graph.specs.{declared.{ask.Me.Me, spot.Spot.Spot, memo.Memo.Memo}, Agents.recovers}
use Rattle.shm_graph.specs.{Blocks.{classes, headers, IsLive}, Held.HeldAt, Reach.is_reached, Spots.spot_address}
use Rattle.shm_graph.specs.Views.{view, own_word}
use Rattle.shm_graph.specs.declared.spot.Spot.TheVariants as spot
use Rattle.shm_graph.specs.declared.memo.Op.TheVariants as op
use Rattle.shm_graph.proofs.States.{Holders.{reach_counted, target_counted}, Reached.reached_here}
use Rattle.shm_graph.proofs.Spots.Spotting.{in_pool}
use Rattle.kind_parts.specs.{Beginning.IsOwnWord, Conditions.IsHere, Reparting.{sight, TableStep}}
use Rattle.kind_parts.proofs.{BeginAt.{SlotHas, word_target}, BeginSlots.home_has}
use Rattle.kind_parts.proofs.BeginWords.{own_word_has, word_address}
use Rattle.shm_count.specs.{declared.point.Aim.TheVariants.{Up, Down, Change}, Step.{Control.IsInside, CanStep}}
use Rattle.shm_count.specs.Proved.DyingBlocks.{live_room}

module _ (me : Me) (w : Spot → ℕ) (r : ℕ → Memo) (held : HeldAt me.geometry w (view r)) (who : me.who < me.geometry.clients) (here : IsHere (r me.who)) (idle : (r me.who).op ≡ op.Nothing) where
  -- a live block lies in the bodies
  inside : (b : ℕ) → IsLive (headers w) b → IsInside me b
  inside b live = (live_room me.geometry w r held b me.who live).0

  reached_inside : (b : ℕ) → is_reached me.who (r me.who) b ≡ true → IsInside me b
  reached_inside b e = inside b (reach_counted me.geometry w (view r) held me.who b who (reached_here me.geometry w r held me.who who b e)).0

  named_inside : (p : Spot) (b : ℕ) → b ≢ 0 → SlotHas me.geometry w r me.who p b → IsInside me b
  named_inside p b some s = inside b (target_counted me.geometry w (view r) held p b some (word_target me.geometry w r me.who held who p s.holds idle ∙ s.word)).0

  -- the address of a reference word that c may store lies in the pool
  word_inside : (d i y : ℕ) → SlotHas me.geometry w r me.who (spot.Body d i) y → (0 < spot_address me.geometry (spot.Body d i)) × (spot_address me.geometry (spot.Body d i) < total_of me.geometry)
  word_inside d i y s =
      let room = live_room me.geometry w r held d me.who s.holds.0 in
      let low : i < tag_refs me.geometry.wide (w (spot.Tag d)) = s.holds.1 in
      subst (λ a. (0 < a) × (a < total_of me.geometry)) (sym (word_address me.geometry d i)) (omega arith, omega arith)

  -- a block in reach is to be put into an empty word
  pub can_fill : (d i b : ℕ) → recovers (r me.who) ≡ false → IsOwnWord me.geometry.wide me.who (r me.who) d i 0 → is_reached me.who (r me.who) b ≡ true → TableStep me.geometry.wide me.who (sight me.who (r me.who)) (spot.Body d i) 0 b
      → CanStep me (spot_address me.geometry (spot.Body d i)) (Up b) (spot.Body d i) (r me.who)
  can_fill d i b client word reach step =
      record {
        geometry = held.fits;
        who = who;
        here = here;
        idle = idle;
        client = λ _. client;
        at = refl;
        inside = word_inside d i 0 (own_word_has me.geometry w r me.who held who d i 0 word);
        blocks = reached_inside b reach;
        can = λ room. record { may = record { here = here; idle = idle; room = omega arith }; word = word; source = reach };
        put = tt;
        reach = λ _. reach;
        part = inr (inr step);
        queued = λ _ e. absurd (false≢true e);
      }

  -- the block of a word is to go
  pub can_clear : (d i b : ℕ) → b ≢ 0 → IsOwnWord me.geometry.wide me.who (r me.who) d i b → TableStep me.geometry.wide me.who (sight me.who (r me.who)) (spot.Body d i) b 0
      → CanStep me (spot_address me.geometry (spot.Body d i)) (Down b) (spot.Body d i) (r me.who)
  can_clear d i b some word step =
      let has : SlotHas me.geometry w r me.who (spot.Body d i) b = own_word_has me.geometry w r me.who held who d i b word in
      record {
        geometry = held.fits;
        who = who;
        here = here;
        idle = idle;
        client = λ e. absurd (false≢true e);
        at = refl;
        inside = word_inside d i b has;
        blocks = named_inside (spot.Body d i) b some has;
        can = λ room. record { may = record { here = here; idle = idle; room = omega arith }; some = some; word = word };
        put = tt;
        reach = λ e. absurd (false≢true e);
        part = inr (inr step);
        queued = λ _ e. absurd (false≢true e);
      }

  -- a word is to have another block, which is in reach
  pub can_replace : (d i a b : ℕ) → recovers (r me.who) ≡ false → a ≢ 0 → a ≢ b → IsOwnWord me.geometry.wide me.who (r me.who) d i a → is_reached me.who (r me.who) b ≡ true → TableStep me.geometry.wide me.who (sight me.who (r me.who)) (spot.Body d i) a b
      → CanStep me (spot_address me.geometry (spot.Body d i)) (Change a b) (spot.Body d i) (r me.who)
  can_replace d i a b client some other word reach step =
      let has : SlotHas me.geometry w r me.who (spot.Body d i) a = own_word_has me.geometry w r me.who held who d i a word in
      record {
        geometry = held.fits;
        who = who;
        here = here;
        idle = idle;
        client = λ _. client;
        at = refl;
        inside = word_inside d i a has;
        blocks = (named_inside (spot.Body d i) a some has, reached_inside b reach);
        can = λ room. record { may = record { here = here; idle = idle; room = omega arith }; some = some; word = word; other = other; source = reach };
        put = tt;
        reach = λ _. reach;
        part = inr (inr step);
        queued = λ _ e. absurd (false≢true e);
      }

  -- the own home is empty, and is to have a directory that is in reach
  pub can_found : (b : ℕ) → recovers (r me.who) ≡ false → own_word (r me.who).own (spot.Home me.who) ≡ 0 → is_reached me.who (r me.who) b ≡ true → TableStep me.geometry.wide me.who (sight me.who (r me.who)) (spot.Home me.who) 0 b
      → CanStep me (spot_address me.geometry (spot.Home me.who)) (Up b) (spot.Home me.who) (r me.who)
  can_found b client empty reach step =
      record {
        geometry = held.fits;
        who = who;
        here = here;
        idle = idle;
        client = λ _. client;
        at = refl;
        inside = in_pool me.geometry (classes w) (spot_address me.geometry (spot.Home me.who)) (spot.Home me.who) (home_has me.geometry w r me.who held who empty).at (λ e. cc);
        blocks = reached_inside b reach;
        can = λ room. (refl, record { may = record { here = here; idle = idle; room = omega arith }; empty = empty; source = reach });
        put = tt;
        reach = λ _. reach;
        part = inr (inr step);
        queued = λ _ e. absurd (false≢true e);
      }
