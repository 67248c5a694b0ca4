-- one word step as a machine: it fits where the step is kept, and gives that the step was made
use Rattle.std.proofs.Common.{◌≡◌, ℕ, Bool, true, false, refl, sym, ap, subst, ◌<◌, List, [], ◌∷◌, ◌++◌, length}
use Rattle.std.specs.Prelude.{Some, not}
use Rattle.shm_words.specs.Layout.{total_of}
use Rattle.shm_graph.specs.{declared.{ask.{Ask.Ask, Me.Me}, spot.Spot.Spot, memo.Memo.Memo}, Spots.spot_at}
use Rattle.shm_graph.specs.{Blocks.classes, Asks.{Trail, at_of, seen_of, pair}, Changes.memo_on}
use Rattle.shm_graph.specs.{Events.{Event, Nothing}, Laws.{Control, Frame, framed, Stands, KeptAt, event_on}}
use Rattle.shm_graph.specs.{Tells.{Tells, happens_along}, Trails.{Answers, Asked}}
use Rattle.plans.specs.{declared.word.Word.Word, Parts.{Part, PartLaws}, Placed.{MayStand, PlacedKeeps, PlacedLaws}}

abbrev pub word_control : Control Word ℕ
word_control =
    record {
      me = λ m. m.me;
      line = λ m. [];
      fresh = λ m. not m.over;
      finished = λ m. m.over;
      asks = λ m. m.ask;
      after = λ m n. record m { over = true };
      turns = λ m n. Some n;
    }

-- the step is kept in each frame in which the part may stand, from each held state with this memo, and then `after` holds of the word found and of the memo
abbrev pub IsKept : Bool → Me → Ask → Memo → (ℕ → Memo → Type 0) → Type 0
IsKept first me a m after = (w : Spot → ℕ) (r : ℕ → Memo) (f : Frame) → Stands me w r f [] → MayStand first f → r me.who ≡ m → KeptAt me w r a f after (spot_at me.geometry (classes w) (at_of a))

-- and it is no event
abbrev pub IsQuiet : Me → Ask → Memo → Type 0
IsQuiet me a m = (w : Spot → ℕ) (r : ℕ → Memo) (f : Frame) → Stands me w r f [] → r me.who ≡ m → let p = spot_at me.geometry (classes w) (at_of a) in event_on (r me.who) (framed me a f (seen_of a (w p))) p ≡ Nothing

-- nothing was asked, and the step is kept and quiet
pub record WordFits (first : Bool) (m : Word) (r0 r : Memo) (tr : Trail) : Type 0 where
  pub same : r ≡ r0
  pub none : tr ≡ []
  pub inside : at_of m.ask < total_of m.me.geometry
  pub kept : IsKept first m.me m.ask r0 (λ n x. Unit {0})
  pub quiet : IsQuiet m.me m.ask r0

-- the step was made from a held state, and found the word
pub record WordGives (first : Bool) (m : Word) (r0 r : Memo) (tr : Trail) (n : ℕ) : Type 0 where
  pub w : Spot → ℕ
  pub rs : ℕ → Memo
  pub f : Frame
  pub stands : Stands m.me w rs f []
  pub may : MayStand first f
  pub memo : rs m.me.who ≡ r0
  pub found : n ≡ seen_of m.ask (w (spot_at m.me.geometry (classes w) (at_of m.ask)))
  pub made : r ≡ memo_on (rs m.me.who) (framed m.me m.ask f n) (spot_at m.me.geometry (classes w) (at_of m.ask))
  pub asked : tr ≡ pair m.ask n ∷ []

word_keeps : (first : Bool) → PlacedKeeps first word_control (WordFits first) (WordGives first)
word_keeps first m r0 tr w r f going s may fit =
    let stands : Stands m.me w r f [] = subst (Stands m.me w r f) fit.none s in
    let k = fit.kept w r f stands may fit.same in
    record {
      told = k.told;
      step = k.step;
      fits = record { w = w; rs = r; f = f; stands = stands; may = may; memo = fit.same; found = refl; made = refl; asked = subst (λ (x : Trail). (x ++ pair m.ask (seen_of m.ask (w (spot_at m.me.geometry (classes w) (at_of m.ask)))) ∷ []) ≡ pair m.ask (seen_of m.ask (w (spot_at m.me.geometry (classes w) (at_of m.ask)))) ∷ []) (sym fit.none) refl };
    }

pub word_placed : (first : Bool) → PlacedLaws first word_control (WordFits first) (WordGives first)
word_placed first =
    record {
      steady = λ m n going. record { same_me = refl; same_line = refl; started = refl; ends = refl };
      inside = λ m r0 r tr l fit going. fit.inside;
      back = λ m n going goes r0 r tr a g. absurd (cc);
      keeps = word_keeps first;
    }

-- what holds after a kept step holds of what it gave
pub word_gave : (first : Bool) (m : Word) (r0 r : Memo) (tr : Trail) (n : ℕ) (after : ℕ → Memo → Type 0) → WordGives first m r0 r tr n → IsKept first m.me m.ask r0 after → after n r
word_gave first m r0 r tr n after g kept =
    let k = kept g.w g.rs g.f g.stands g.may g.memo in
    subst (after n) (sym g.made) (subst (λ (x : ℕ). after x (memo_on (g.rs m.me.who) (framed m.me m.ask g.f x) (spot_at m.me.geometry (classes g.w) (at_of m.ask)))) (sym g.found) k.fits)

-- ---- events, trails, and as a part

abbrev pub word_does : Word → ℕ → Event
word_does m n = Nothing

word_tells : (first : Bool) → Tells word_control (WordFits first) word_does
word_tells first m r0 tr w r f going s fit = fit.quiet w r f (subst (Stands m.me w r f) fit.none s) fit.same

-- it is made, its address is one of the pool, and the step is kept and quiet, with what holds after it
pub record IsWord (first : Bool) (me : Me) (a : Ask) (after : Memo → ℕ → Memo → Type 0) (m : Word) (r : Memo) : Type 0 where
  pub made : m ≡ record { me = me; ask = a; over = false }
  pub inside : at_of a < total_of me.geometry
  pub kept : IsKept first me a r (after r)
  pub quiet : IsQuiet me a r

-- a word step is no event, and holds one pair
pub record WordLeaves (after : Memo → ℕ → Memo → Type 0) (m : Word) (rs r : Memo) (t : Trail) (es : List Event) (n : ℕ) : Type 0 where
  pub found : after rs n r
  pub none : es ≡ []
  pub one : length t ≡ 1

module _ (first : Bool) (me : Me) (a : Ask) (after : Memo → ℕ → Memo → Type 0) where
  abbrev pub word_part : Part Word ℕ
  word_part = record { fits = WordFits first; gives = WordGives first; does = word_does; needs = IsWord first me a after; leaves = WordLeaves after; asks = λ m. Asked m.ask (λ n. Answers n) }

  begins : (m : Word) (r : Memo) → IsWord first me a after m r → WordFits first m r r []
  begins m r h =
      subst (λ (x : Word). WordFits first x r r []) (sym h.made)
      (record { same = refl; none = refl; inside = h.inside; kept = λ w rs f s may same. let k = h.kept w rs f s may same in record { told = k.told; step = k.step; fits = tt }; quiet = h.quiet })

  ends : (m : Word) (rs r : Memo) (t : Trail) (n : ℕ) → IsWord first me a after m rs → WordGives first m rs r t n → WordLeaves after m rs r t (happens_along word_control word_does m t) n
  ends m rs r t n h g =
      record {
        found = word_gave first (record { me = me; ask = a; over = false }) rs r t n (after rs) (subst (λ (x : Word). WordGives first x rs r t n) h.made g) h.kept;
        none = ap (happens_along word_control word_does m) g.asked;
        one = ap length g.asked;
      }

  pub word_part_laws : PartLaws first word_control word_part
  word_part_laws =
      record {
        placed = word_placed first;
        tells = word_tells first;
        begins = begins;
        ends = λ m rs r t n h g held same. ends m rs r t n h g;
        asked = λ m rs r t n h g. (n, ([], (g.asked, (refl, refl))));
      }
