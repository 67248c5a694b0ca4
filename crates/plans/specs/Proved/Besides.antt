-- a word step leaves besides what the held state before it shows
use Rattle.std.proofs.Common.{◌≡◌, ℕ, Bool, false, []}
use Rattle.shm_graph.specs.{declared.{ask.{Ask.Ask, Me.Me}, memo.Memo.Memo, spot.Spot.Spot}, Asks.{at_of, seen_of}}
use Rattle.shm_graph.specs.{Blocks.classes, Events.Event, Laws.{Frame, Stands}, Spots.spot_at}
use Rattle.plans.specs.{EventWords.IsEventWord, Words.IsWord}

-- the step found what a held state with this memo has there
abbrev pub Besides : Me → Ask → (after more : Memo → ℕ → Memo → Type 0) → Memo → Type 0
Besides me a after more m = (w : Spot → ℕ) (r : ℕ → Memo) (f : Frame) → Stands me w r f [] → r me.who ≡ m → let n : ℕ = seen_of a (w (spot_at me.geometry (classes w) (at_of a))) in (x : Memo) → after m n x → more m n x

module _ (first : Bool) (me : Me) (a : Ask) (after more : Memo → ℕ → Memo → Type 0) (m : Memo) (also : Besides me a after more m) where
  pub word_besides : IsWord first me a after (record { me = me; ask = a; over = false }) m → IsWord first me a more (record { me = me; ask = a; over = false }) m
  word_besides h =
      record {
        made = h.made;
        inside = h.inside;
        kept = λ w r f st may same. let k = h.kept w r f st may same in record { told = k.told; step = k.step; fits = also w r f st same _ k.fits };
        quiet = h.quiet;
      }

  pub event_besides : (does : ℕ → Event) → IsEventWord first me a does after (record { me = me; ask = a; over = false }) m → IsEventWord first me a does more (record { me = me; ask = a; over = false }) m
  event_besides does h =
      record {
        made = h.made;
        inside = h.inside;
        kept = λ w r f st may same. let k = h.kept w r f st may same in record { told = k.told; step = k.step; fits = also w r f st same _ k.fits };
        told = h.told;
      }
