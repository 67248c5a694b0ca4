-- the second half of a change, as a recoverer that works alone makes it, ends: its exchange finds the header that it read: what is proved of it
use Rattle.std.proofs.Common.{◌≡◌, ℕ, ◌+◌, ◌≤◌, refl, sym, ap, ◌∙◌, subst, arith, Bool, true, false, cond, eqb, List, []}
use Rattle.std.proofs.lemmas.Bool.{eq-eqb}
use Rattle.std.specs.Prelude.{◌==◌, if◌then◌else◌, nat_lt}
use Rattle.shm_words.specs.Headers.{header_of}
use Rattle.shm_graph.specs.declared.{ask.Ask.Ask, memo.Memo.Memo, spot.Spot.{Spot, TheVariants.Head}}
use Rattle.shm_graph.specs.{Asks.{Trail, at_of, seen_of, words_after}, Blocks.classes}
use Rattle.shm_graph.specs.{Events.{ChangeDown, Event, Nothing}, Laws.{Frame, Stands}, Spots.spot_at, Tells.after_all}
use Rattle.plans.specs.{declared.word.Word.Word, CallsControl.{calls_control, calls_does}, CallsFit.CallsFits}
use Rattle.plans.specs.{Grown.Grows, Words.{WordFits, word_control, word_does}}
use Rattle.shm_count.specs.Proved.Step.BeforeExchange.{row_spot}
use Rattle.kind_parts.specs.WordParts.{former_event}
use Rattle.shm_recover.specs.declared.mend_lower.MendLowerPoint.{MendLowerPoint}
use Rattle.shm_recover.specs.declared.mend_lower.MendLowerPoint.TheVariants.{Header, Row, Show, Exchange, Close}
use Rattle.shm_recover.specs.declared.mend_lower.MendLowerState.{MendLowerState}
use Rattle.shm_recover.specs.MendLower.Control.{found, lowering_ask, lowering_call, lowering_steered}
use Rattle.shm_recover.specs.MendLower.{HasFound, LoweringKnows, lowering_part, lowering_plan}
use Rattle.shm_recover.specs.Proved.MendLower.Headers.{half_block}
use Rattle.shm_alone.specs.{Alone.{EndsAlone, IsLoss}, GiveEnds.none_over, Lifting.{anything, word_left, word_saved}}
use Rattle.shm_alone.specs.Proved.Lifting.{GoesOn, calls_end, event_ends, fewer_end, word_ends}
use Rattle.shm_alone.specs.LowerEnds.{lower_stands_at, lower_stands, lower_rest, lower_alone, lower_left}

-- ---- where it goes

-- what is owed once the word step has found n and left these words
abbrev Goes : MendLowerState → ℕ → (Spot → ℕ) → Type 0
Goes = GoesOn word_control lowering_plan anything word_left word_saved lower_stands lower_rest none_over

module _ (m : MendLowerState) (r0 : Memo) (tr t : Trail) (es : List Event) (w : Spot → ℕ) (r : ℕ → Memo) (f : Frame) (s : Stands m.me w r f t) where
  -- the header is one of the block
  found_goes : (n z : ℕ) → w (Head m.block) ≡ n → 4 ≤ z → lower_stands (found m n) w × (1 + lower_rest (found m n) ≤ z)
  found_goes n z is most = go ((header_of n).client == m.me.who)
    where
      go : (q : Bool) → let x : MendLowerState = record m { header = n; point = if q then Exchange else Row } in lower_stands x w × (1 + lower_rest x ≤ z)
      go true = (is, omega arith)
      go false = (is, omega arith)

  -- it lies where the exchange asks for it
  block_there : (h : HasFound m.me m.block m.era m.header r0 (r m.me.who) es) → spot_at m.me.geometry (classes w) m.block ≡ Head m.block
  block_there h = half_block m.me w r s.held h.may.who (r m.me.who) refl h.may.slot m.block h.may.after m.era (ap (λ (x : Memo). x.op) h.same.rest ∙ h.may.op)

  -- the word step at a point leads on
  lower_goes : (y : MendLowerPoint) → LoweringKnows (record m { point = y }) y r0 (r m.me.who) tr es → lower_stands_at m y w
      → let a : Ask = lowering_ask m.me m.block m.era m.header y in
      let p = spot_at m.me.geometry (classes w) (at_of a) in
      Goes (record m { point = y }) (seen_of a (w p)) (words_after w a p)
  lower_goes Header (may, same, none, quiet) is =
      let place : spot_at m.me.geometry (classes w) m.block ≡ Head m.block = half_block m.me w r s.held may.who r0 same may.slot m.block may.after m.era may.op in
      found_goes (w (spot_at m.me.geometry (classes w) m.block)) (4 + 0) (ap w (sym place)) (omega arith)
  lower_goes Row (h, other, bound) is = go (nat_lt (w (spot_at m.me.geometry (classes w) (at_of (lowering_ask m.me m.block m.era m.header Row)))) (header_of m.header).era)
    where
      go : (q : Bool) → let x : MendLowerState = record m { point = if q then Show else Exchange } in lower_stands x w × (1 + lower_rest x ≤ 3 + 0)
      go true = (is, omega arith)
      go false = (is, omega arith)
  lower_goes Show (h, other, low, bound) is =
      let a : Ask = lowering_ask m.me m.block m.era m.header Show in
      (subst (λ (p : Spot). words_after w a p (Head m.block) ≡ m.header) (sym (row_spot m.me w (header_of m.header).client h.may.who h.counted.client)) is, omega arith)
  lower_goes Exchange (h, shows, bound) is =
      let a : Ask = lowering_ask m.me m.block m.era m.header Exchange in
      let p : Spot = spot_at m.me.geometry (classes w) m.block in
      let same : eqb (w p) m.header ≡ true = eq-eqb (w p) m.header (ap w (block_there h) ∙ is) in
      subst (λ (q : Bool). let x : MendLowerState = if q then record m { point = Close } else found m (w p) in lower_stands x (words_after w a p) × (1 + lower_rest x ≤ 1 + 0)) (sym same) (tt, omega arith)
  lower_goes Close h is = omega arith

-- ---- it ends

-- nothing was asked yet, and the memo is that before the word step
made_none : (m : MendLowerState) (y : MendLowerPoint) (c : Word) (r0 r : Memo) (t : Trail) → (lowering_part m y).fits c r0 r t → (t ≡ []) × (r ≡ r0)
made_none m Header c r0 r t h = (h.0.none, h.0.same)
made_none m Row c r0 r t h = (h.0.none, h.0.same)
made_none m Show c r0 r t h = (h.0.none, h.0.same)
made_none m Exchange c r0 r t h = (h.none, h.same)
made_none m Close c r0 r t h = (h.0.none, h.0.same)

-- the exchange loses a reference, or nothing happens
lower_loss : (c a b n : ℕ) → IsLoss (former_event c a b n)
lower_loss c a b n = go (eqb n b)
  where
    go : (q : Bool) → IsLoss (cond q (ChangeDown c a) Nothing)
    go true = tt
    go false = tt

-- its word steps end alone
lower_part_ends : (m : MendLowerState) (y : MendLowerPoint) → EndsAlone word_control (lowering_part m y).does anything word_left word_saved (lowering_part m y).fits
lower_part_ends m y = go y
  where
    plain : (first : Bool) → EndsAlone word_control word_does anything word_left word_saved (λ c r0 r tr. WordFits first c r0 r tr × Grows first r0 r)
    plain first = fewer_end word_control (WordFits first) (λ c r0 r tr. WordFits first c r0 r tr × Grows first r0 r) word_does anything word_left word_saved (λ c r0 r tr h. h.0) (word_ends first)

    go : (y : MendLowerPoint) → EndsAlone word_control (lowering_part m y).does anything word_left word_saved (lowering_part m y).fits
    go Header = plain true
    go Row = plain false
    go Show = plain false
    go Exchange = event_ends false (former_event m.me.who m.block m.header) (lower_loss m.me.who m.block m.header)
    go Close = plain false

-- the second half of a change made alone ends
pub lower_ends : EndsAlone (calls_control word_control lowering_steered) (calls_does word_control lowering_plan) lower_alone lower_left none_over (CallsFits word_control lowering_plan)
lower_ends =
    calls_end word_control lowering_plan anything word_left word_saved lower_stands lower_rest none_over
    (record {
      parts = λ m. lower_part_ends m m.point;
      begins = λ m w is. tt;
      follows = λ m r0 tr w r f going s fit is.
          let p : MendLowerState = m.plan in
          let made = made_none p p.point m.call fit.rs (r p.me.who) fit.t fit.fits in
          let call : lowering_call p p.point ≡ m.call = subst (λ (t : Trail). after_all word_control (lowering_call p p.point) t ≡ m.call) made.0 fit.there in
          subst (λ (c : Word). let at = spot_at p.me.geometry (classes w) (at_of c.ask) in Goes p (seen_of c.ask (w at)) (words_after w c.ask at)) call
          (lower_goes p r0 fit.before tr fit.es w r f s p.point (subst (λ (x : Memo). LoweringKnows p p.point r0 x fit.before fit.es) (sym made.1) fit.knows) is.1);
    })
