-- one word step that may be an event, as a part: which event it is is told by the word found: what is proved of it
use Rattle.std.proofs.Common.{◌≡◌, ℕ, Bool, false, refl, sym, subst, ◌<◌, []}
use Rattle.shm_words.specs.Layout.{total_of}
use Rattle.shm_graph.specs.declared.{ask.{Ask.Ask, Me.Me}, memo.{Memo.Memo, Step.Step}, spot.Spot.Spot}
use Rattle.shm_graph.specs.{Asks.{at_of, seen_of}, Events.Event, Laws.{event_by, event_on, framed}}
use Rattle.plans.specs.{Proved.WordSteps.{IsThere, KindKept, MakesMemo, kept_there}, EventWords.IsEventWord}

-- a word step of a kind, with its event at the spot
pub event_in : (first : Bool) (me : Me) (a : Ask) (does : ℕ → Event) (after : Memo → ℕ → Memo → Type 0) (m : Memo) (p : Spot) → at_of a < total_of me.geometry → IsThere first me a after m p → ((t : Step) → t.me ≡ me → event_by m t a p ≡ does t.seen)
    → KindKept first me a after m p → MakesMemo first me a after m p → IsEventWord first me a does after (record { me = me; ask = a; over = false }) m
event_in first me a does after m p inside there event kind makes =
    record {
      made = refl;
      inside = inside;
      kept = kept_there first me a after m p there kind makes;
      told = λ w r f st same.
          subst (λ (q : Spot). event_on (r me.who) (framed me a f (seen_of a (w q))) q ≡ does (seen_of a (w q))) (sym (there w r f st same))
          (subst (λ (x : Memo). event_by x (framed me a f (seen_of a (w p))) a p ≡ does (seen_of a (w p))) (sym same) (event (framed me a f (seen_of a (w p))) refl));
    }
