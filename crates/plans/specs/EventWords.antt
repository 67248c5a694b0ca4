-- one word step that may be an event, as a part: which event it is is told by the word found
use Rattle.std.proofs.Common.{◌≡◌, ℕ, Bool, false, refl, sym, ap, subst, ◌<◌, List, [], ◌∷◌, ◌++◌, length}
use Rattle.std.specs.List.{filter}
use Rattle.shm_words.specs.Layout.{total_of}
use Rattle.shm_graph.specs.declared.{ask.{Ask.Ask, Me.Me}, memo.Memo.Memo, spot.Spot.Spot}
use Rattle.shm_graph.specs.{Asks.{Trail, at_of, seen_of, pair}, Blocks.classes, Events.Event}
use Rattle.shm_graph.specs.{Laws.{Frame, Stands, event_on, framed}, Spots.spot_at}
use Rattle.shm_graph.specs.{Tells.{Tells, happens_along, is_event}, Trails.{Answers, Asked}}
use Rattle.plans.specs.{declared.word.Word.Word, Parts.{Part, PartLaws}, Placed.{PlacedKeeps, PlacedLaws}}
use Rattle.plans.specs.Words.{IsKept, WordGives, word_control, word_gave}

-- the step is this event, by the word found
abbrev pub IsEvent : Me → Ask → Memo → (ℕ → Event) → Type 0
IsEvent me a m does = (w : Spot → ℕ) (r : ℕ → Memo) (f : Frame) → Stands me w r f [] → r me.who ≡ m → let p = spot_at me.geometry (classes w) (at_of a) in event_on (r me.who) (framed me a f (seen_of a (w p))) p ≡ does (seen_of a (w p))

-- nothing was asked, and the step is kept and is this event
pub record EventFits (first : Bool) (does : ℕ → Event) (m : Word) (r0 r : Memo) (tr : Trail) : Type 0 where
  pub same : r ≡ r0
  pub none : tr ≡ []
  pub inside : at_of m.ask < total_of m.me.geometry
  pub kept : IsKept first m.me m.ask r0 (λ n x. Unit {0})
  pub told : IsEvent m.me m.ask r0 does

event_keeps : (first : Bool) (does : ℕ → Event) → PlacedKeeps first word_control (EventFits first does) (WordGives first)
event_keeps first does m r0 tr w r f going s may fit =
    let stands : Stands m.me w r f [] = subst (Stands m.me w r f) fit.none s in
    let k = fit.kept w r f stands may fit.same in
    let n : ℕ = seen_of m.ask (w (spot_at m.me.geometry (classes w) (at_of m.ask))) in
    record {
      told = k.told;
      step = k.step;
      fits = record { w = w; rs = r; f = f; stands = stands; may = may; memo = fit.same; found = refl; made = refl; asked = subst (λ (x : Trail). (x ++ pair m.ask n ∷ []) ≡ pair m.ask n ∷ []) (sym fit.none) refl };
    }

event_placed : (first : Bool) (does : ℕ → Event) → PlacedLaws first word_control (EventFits first does) (WordGives first)
event_placed first does =
    record {
      steady = λ m n going. record { same_me = refl; same_line = refl; started = refl; ends = refl };
      inside = λ m r0 r tr l fit going. fit.inside;
      back = λ m n going goes r0 r tr a g. absurd (cc);
      keeps = event_keeps first does;
    }

abbrev pub event_does : (ℕ → Event) → Word → ℕ → Event
event_does does m n = does n

-- it is made, its address is one of the pool, and the step is kept, with what holds after it, and is this event
pub record IsEventWord (first : Bool) (me : Me) (a : Ask) (does : ℕ → Event) (after : Memo → ℕ → Memo → Type 0) (m : Word) (r : Memo) : Type 0 where
  pub made : m ≡ record { me = me; ask = a; over = false }
  pub inside : at_of a < total_of me.geometry
  pub kept : IsKept first me a r (after r)
  pub told : IsEvent me a r does

-- it holds one pair, and what it did is that event, where it is one
pub record EventLeaves (does : ℕ → Event) (after : Memo → ℕ → Memo → Type 0) (m : Word) (rs r : Memo) (t : Trail) (es : List Event) (n : ℕ) : Type 0 where
  pub found : after rs n r
  pub events : es ≡ filter is_event (does n ∷ [])
  pub one : length t ≡ 1

module _ (first : Bool) (me : Me) (a : Ask) (does : ℕ → Event) (after : Memo → ℕ → Memo → Type 0) where
  abbrev pub event_part : Part Word ℕ
  event_part = record { fits = EventFits first does; gives = WordGives first; does = event_does does; needs = IsEventWord first me a does after; leaves = EventLeaves does after; asks = λ m. Asked m.ask (λ n. Answers n) }

  event_tells : Tells word_control (EventFits first does) (event_does does)
  event_tells m r0 tr w r f going s fit = fit.told w r f (subst (Stands m.me w r f) fit.none s) fit.same

  begins : (m : Word) (r : Memo) → IsEventWord first me a does after m r → EventFits first does m r r []
  begins m r h =
      subst (λ (x : Word). EventFits first does x r r []) (sym h.made)
      (record { same = refl; none = refl; inside = h.inside; kept = λ w rs f s may same. let k = h.kept w rs f s may same in record { told = k.told; step = k.step; fits = tt }; told = h.told })

  ends : (m : Word) (rs r : Memo) (t : Trail) (n : ℕ) → IsEventWord first me a does after m rs → WordGives first m rs r t n → EventLeaves does after m rs r t (happens_along word_control (event_does does) m t) n
  ends m rs r t n h g =
      record {
        found = word_gave first (record { me = me; ask = a; over = false }) rs r t n (after rs) (subst (λ (x : Word). WordGives first x rs r t n) h.made g) h.kept;
        events = ap (happens_along word_control (event_does does) m) g.asked;
        one = ap length g.asked;
      }

  pub event_part_laws : PartLaws first word_control event_part
  event_part_laws =
      record {
        placed = event_placed first does;
        tells = event_tells;
        begins = begins;
        ends = λ m rs r t n h g held same. ends m rs r t n h g;
        asked = λ m rs r t n h g. (n, ([], (g.asked, (refl, refl))));
      }
