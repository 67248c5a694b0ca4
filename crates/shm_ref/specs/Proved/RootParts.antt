-- the load of an own root as a part, the block that a root names, and the step down at it: what is proved of it
use Rattle.std.proofs.{Common.{◌≡◌, ◌≢◌, ℕ, ◌+◌, ◌^◌, ◌<◌, refl, sym, arith, Bool, false}, lemmas.Bool.true≢false}
use Rattle.shm_words.specs.Layout.{address}
use Rattle.shm_words.specs.declared.place.Place.TheVariants as place
use Rattle.shm_graph.specs.declared.{ask.Me.Me, spot.Spot.TheVariants.{Root, Era}, memo.Memo.Memo}
use Rattle.shm_graph.specs.{declared.memo.Op.TheVariants.Nothing, Views.own_word}
use Rattle.shm_graph.specs.declared.ask.Ask.TheVariants as ask
use Rattle.plans.specs.Parts.{IsHeld}
use Rattle.kind_parts.proofs.{Reaching.root_reached, Words.Own.root_load}
use Rattle.shm_count.specs.{declared.point.Aim.TheVariants.Down, Roots.{root_step, root_word}, Slots.MayStepAt}
use Rattle.shm_count.specs.Step.{Control.IsInside, CanStep}
use Rattle.shm_count.proofs.RootSpots.{fits_root, root_can}
use Rattle.shm_ref.specs.{Proved.CountedBlocks.{IsCounted, reached_counted}, Lefts.MayDrop, RootParts.load_part}

-- ---- the load

module _ (me : Me) (k : ℕ) (l : me.who < me.geometry.clients) (s : k < 16) where
  abbrev c : ℕ
  c = me.who

  pub load_needs : (first : Bool) (m : Memo) → (load_part me k first).needs (record { me = me; ask = ask.Load (address me.geometry (place.Root me.who k)); over = false }) m
  load_needs first m = root_load first me m l k s

  -- in a held state a root with no step in progress names a counted block of the pool
  pub root_names : (m : Memo) → IsHeld me m → m.op ≡ Nothing → root_word c m k ≢ 0 → IsCounted me l (root_word c m k) m
  root_names m held idle some = reached_counted me l m (root_word c m k) held (root_reached c m (root_word c m k) k s idle refl some)

-- ---- the step down

-- it may be made at root k, which names a block of the pool, where no step is in progress
pub lower_needs : (me : Me) (k b : ℕ) (r : Memo) → MayDrop me r → k < 16 → root_word me.who r k ≡ b → b ≢ 0 → IsInside me b → own_word r.own (Era me.who me.who) + 1 < 2 ^ 47 → MayStepAt (Root me.who k) false (root_step me.geometry me.who k (Down b)) r
lower_needs me k b r may low names some inside era =
    let can : CanStep me (address me.geometry (place.Root me.who k)) (Down b) (Root me.who k) r =
    root_can me.geometry me.who k may.geometry may.who low (Down b) r may.here may.idle (λ e. absurd (true≢false (sym e))) inside
    (λ l. (refl, record { here = may.here; idle = may.idle; some = some; root = names; room = omega arith }))
    (λ e. absurd (true≢false (sym e))) in
    record { step = record { made = refl; knows = (fits_root me.geometry me.who k may.geometry may.who low (Down b) r inside can).knows; can = can }; at = refl; era = era }
