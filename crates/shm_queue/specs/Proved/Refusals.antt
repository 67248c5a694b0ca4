-- a step down that is refused for want of eras makes one word step: what is proved of it
use Rattle.std.proofs.Common.{◌≡◌, ℕ, zero, suc, ap, ◌∙◌, arith, Bool, true, false, length}
use Rattle.std.specs.Prelude.{◌==◌, nat_lt, Ok, Err}
use Rattle.shm_words.specs.Headers.{header_of}
use Rattle.shm_graph.specs.{declared.{ask.Me.Me, spot.Spot.Spot}, Asks.Trail, Trails.{Answers, Chosen}}
use Rattle.plans.specs.Parts.{PartLaws}
use Rattle.shm_count.specs.declared.{answer.UpFault.TheVariants.EraSpent, point.Aim.TheVariants.Down}
use Rattle.shm_count.specs.{Slots.Parts.down_slot_laws, Step.{Control.last_era, Machines.down_control}}
use Rattle.shm_count.specs.Step.Asks.{StepTrails, exchange_trail, header_trail, redo_trail, row_trail, set_trail, show_trail, slot_trail, step_trail, first_trail, more_trail}
use Rattle.shm_queue.specs.Refusals.{lower_part}

-- ---- the trail

-- trails that don't end for want of eras
abbrev NeverSpent : StepTrails → Type 0
NeverSpent x = (t : Trail) (e : ℕ) → x t (Err (EraSpent e)) → ⊥

never_chosen : (q : Bool) (x y : StepTrails) → NeverSpent x → NeverSpent y → NeverSpent (Chosen q x y)
never_chosen true x y h i = h
never_chosen false x y h i = i

never_done : (z : Bool) → NeverSpent (Answers (Ok z))
never_done z t e (none, same) = absurd (cc)

module _ (me : Me) (slot b e : ℕ) where
  -- what follows the exchange
  abbrev after : Bool → StepTrails
  after = slot_trail me slot (Down b) e

  never_after : (z : Bool) → NeverSpent (after z)
  never_after z t d (n, (u, (s, (k, (v, (q, x)))))) = never_done z v d x

  module _ (w : ℕ) (again : ℕ → StepTrails) (h : (x : ℕ) → NeverSpent (again x)) where
    never_exchange : NeverSpent (exchange_trail me false b e w again after)
    never_exchange t d (n, (u, (s, x))) = never_chosen (n == w) (after ((header_of w).count == 1)) (again n) (never_after ((header_of w).count == 1)) (h n) u d x

    never_show : NeverSpent (show_trail me false b e w again after)
    never_show t d (n, (u, (s, x))) = never_exchange u d x

    never_row : NeverSpent (row_trail me false b e w again after)
    never_row t d (n, (u, (s, x))) = never_chosen (nat_lt n (header_of w).era) (show_trail me false b e w again after) (exchange_trail me false b e w again after) never_show never_exchange u d x

    never_header : NeverSpent (header_trail me false b e w again after)
    never_header = never_chosen ((header_of w).client == me.who) (exchange_trail me false b e w again after) (row_trail me false b e w again after) never_exchange never_row

  never_set : (n w : ℕ) → NeverSpent (set_trail me n false b e after w)
  never_set zero w = never_header w (λ x tr a. ⊥) (λ x t d f. f)
  never_set (suc n) w = never_header w (set_trail me n false b e after) (λ x. never_set n x)

  -- once the redo record is to be stored
  never_redo : NeverSpent (redo_trail me slot (Down b) e)
  never_redo t d (n, (u, (s, (k, (v, (q, (i, x))))))) = never_set i k v d x

  -- and its second word before
  never_more : NeverSpent (more_trail me slot (Down b) e)
  never_more t d (n, (u, (s, x))) = never_redo u d x

  never_first : NeverSpent (first_trail me slot (Down b) e)
  never_first = never_chosen me.geometry.wide (more_trail me slot (Down b) e) (redo_trail me slot (Down b) e) never_more never_redo

-- so that a refusal is the load of the own era
pub spent_one : (me : Me) (slot b : ℕ) (t : Trail) (e : ℕ) → step_trail me slot (Down b) t (Err (EraSpent e)) → length t ≡ 1
spent_one me slot b t e (n, (rest, (same, h))) = go (nat_lt (last_era (Down b)) n) h
  where
    go : (q : Bool) → Chosen q (Answers (Err (EraSpent n))) (first_trail me slot (Down b) n) rest (Err (EraSpent e)) → length t ≡ 1
    go true (none, is) = ap length same ∙ (let l = ap length none in omega arith)
    go false x = absurd (never_first me slot b n rest e x)

-- ---- the part

pub lower_laws : (p : Spot) (first : Bool) → PartLaws first down_control (lower_part p)
lower_laws p first =
    let l = down_slot_laws p true first in
    record { placed = l.placed; tells = l.tells; begins = l.begins; ends = λ m rs r t a n g held same. (l.ends m rs r t a n g held same, l.asked m rs r t a n g); asked = l.asked }
