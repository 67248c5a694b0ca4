-- a scan that works alone: how many word steps come behind a call, and that they are paid for: what is proved of it
use Rattle.std.proofs.Common.{◌≡◌, ℕ, ◌+◌, ◌*◌, ◌-◌, ◌%◌, ◌^◌, ◌<◌, ◌≤◌, refl, arith, Bool, true, false, List}
use Rattle.std.proofs.lemmas.Bool.{ltb-false, ltb-true}
use Rattle.std.specs.Prelude.{◌==◌, if◌then◌else◌, nat_lt, Some, None, Option, Result, Ok, Err}
use Rattle.shm_graph.specs.{declared.{memo.Memo.Memo, spot.Spot.Spot}, Asks.Trail, Events.Event, Laws.Outcome}
use Rattle.plans.specs.{declared.or.Or.TheVariants.{First, Second}, CallsControl.calls_does, CallsFit.CallsFits}
use Rattle.plans.specs.{Either.{OrFits, or_does}, Grown.Grows, Words.{WordFits, word_control, word_does}}
use Rattle.shm_count.specs.{declared.answer.EraSpent.EraSpent, Tear.{Control.tear_control, Events.tear_event, TearFits}}
use Rattle.shm_recover.specs.declared.scan.ScanPoint.{ScanPoint, TheVariants.{Page, Header, Tear}}
use Rattle.shm_recover.specs.declared.scan.ScanState.{ScanState}
use Rattle.shm_recover.specs.Scan.Control.{ScanAnswer, ScanCall, block_answer, block_passed, is_first, is_last, is_lost, page_answer, page_passed, scan_after, scan_call_at, scan_parts, scan_turns}
use Rattle.shm_recover.specs.{Scan.{Words.by_class, IsIn, ScanKnows, scan_part, scan_plan}, Proved.Scan.Laws.scan_laws}
use Rattle.shm_recover.specs.Machines.Recovering.{scan}
use Rattle.shm_alone.specs.{Alone.EndsAlone, GiveEnds.none_over, Lifting.{anything, word_left, word_saved}}
use Rattle.shm_alone.specs.Proved.{Lifting.{fewer_end, or_ends, plain_calls_end, word_ends}, TearEnds.tear_ends}
use Rattle.shm_alone.specs.TearEnds.{tear_alone, tear_left, tear_saved}
use Rattle.shm_alone.specs.ScanEnds.{pages_from, scan_rest_at, scan_rest, scan_call_alone, scan_call_left, scan_call_saved, scan_alone, scan_left}

-- the call that comes next is paid for
abbrev IsPaidOff : ScanState → ℕ → Option (Result ℕ EraSpent) → Type 0
IsPaidOff m z o = Outcome o (scan_call_left (scan_call_at m m.point) + scan_rest m ≤ z) (λ a. 0 ≤ z)

-- the next page is paid by the steps of this one
page_paid : (m : ScanState) (z : ℕ) → m.segment < m.me.geometry.segments → m.page < 16 → 20000 * (pages_from m - 1) < z → IsPaidOff (page_passed m) z (page_answer m)
page_paid m z low page most = go (nat_lt m.page 15) (is_last m) (ltb-false m.page 15)
  where
    go : (p q : Bool) → (p ≡ false → 15 ≤ m.page)
        → IsPaidOff (if p then record m { page = m.page + 1; point = Page } else if q then record m { point = Page } else record m { segment = m.segment + 1; page = 0; point = Page }) z (if p then None else if q then Some (Ok m.found) else None)
    go true q last = omega arith
    go false true last = omega arith
    go false false last = let l = last refl in omega arith

-- the next block is paid by the words of this one
block_paid : (m : ScanState) (z : ℕ) → m.segment < m.me.geometry.segments → m.page < 16 → m.offset < 128 → 0 < m.class → 20000 * (pages_from m - 1) + 100 * (128 - m.offset) ≤ z + 60 → IsPaidOff (block_passed m) z (block_answer m)
block_paid m z low page offset class most = go (nat_lt (m.offset + m.class) 128) (ltb-true (m.offset + m.class) 128)
  where
    go : (q : Bool) → (q ≡ true → m.offset + m.class < 128) → IsPaidOff (if q then record m { offset = m.offset + m.class; point = Header } else page_passed m) z (if q then None else page_answer m)
    go true more = let l = more refl in omega arith
    go false more = page_paid m z low page (omega arith)

-- a class has words
class_some : (s q k i : ℕ) (r : Memo) → IsIn s q k i r → 0 < k
class_some s q k i r h = by_class k h.class (λ x. 0 < x) (omega arith) (omega arith) (omega arith) (omega arith)

-- what a call has over pays for the next one
scan_paid : (m : ScanState) (y : ScanPoint) (a : ScanAnswer) (r0 rs r : Memo) (tr t : Trail) (es ds : List Event) → ScanKnows m y r0 rs tr es → (scan_part m y).leaves (scan_call_at m y) rs r t ds a
    → IsPaidOff (scan_after (record m { point = y }) a) (scan_rest_at m y + scan_call_saved a) (scan_turns (record m { point = y }) a)
scan_paid m Page (First n) r0 rs r tr t es ds h g = go (n == 0)
  where
    p : ScanState
    p = record m { point = Page }

    go : (q : Bool) → IsPaidOff (if q then page_passed p else record m { class = n % 64; offset = 0; point = Header }) (scan_rest_at m Page + 0) (if q then page_answer p else None)
    go true = page_paid p (scan_rest_at m Page + 0) h.segment h.page (let l = h.segment in let k = h.page in omega arith)
    go false = let l = h.segment in let k = h.page in omega arith
scan_paid m Header (First n) r0 rs r tr t es ds h g = go (is_lost m.me.who n)
  where
    p : ScanState
    p = record m { point = Header }

    go : (q : Bool) → IsPaidOff (if q then record m { found = (m.found + 1) % 2 ^ 32; point = Tear } else block_passed p) (scan_rest_at m Header + 0) (if q then None else block_answer p)
    go true = let l = h.1.offset in omega arith
    go false = block_paid p (scan_rest_at m Header + 0) h.0.segment h.0.page h.1.offset (class_some m.segment m.page m.class m.offset rs h.1) (omega arith)
scan_paid m Tear (Second (Ok u)) r0 rs r tr t es ds h g =
    let i = h.0.2 in
    block_paid (record m { point = Tear }) (scan_rest_at m Tear + 100) i.segment i.page h.1.offset (class_some m.segment m.page m.class m.offset rs h.1) (let l = h.1.offset in omega arith)
scan_paid m Tear (Second (Err e)) r0 rs r tr t es ds h g = omega arith
scan_paid m Page (Second a) r0 rs r tr t es ds h g = absurd g.0
scan_paid m Header (Second a) r0 rs r tr t es ds h g = absurd g.0
scan_paid m Tear (First n) r0 rs r tr t es ds h g = absurd g.0

-- its calls end alone
scan_part_ends : (m : ScanState) → EndsAlone scan_parts (scan_part m m.point).does scan_call_alone scan_call_left scan_call_saved (scan_part m m.point).fits
scan_part_ends m =
    let fits : ScanCall → Memo → Memo → Trail → Type 0 = OrFits (WordFits (is_first m)) TearFits in
    fewer_end scan_parts fits (λ c r0 r tr. fits c r0 r tr × Grows (is_first m) r0 r) (or_does word_does tear_event) scan_call_alone scan_call_left scan_call_saved (λ c r0 r tr h. h.0)
    (or_ends word_control tear_control (WordFits (is_first m)) TearFits word_does tear_event anything tear_alone word_left tear_left word_saved tear_saved (word_ends (is_first m)) tear_ends)

-- a call begins with what it knows of the words
begins : (m : ScanState) (y : ScanPoint) (w : Spot → ℕ) → scan_call_alone (scan_call_at m y) w
begins m Page w = tt
begins m Header w = tt
begins m Tear w = tt

-- a scan that works alone ends
pub scan_ends : EndsAlone scan (calls_does scan_parts scan_plan) scan_alone scan_left none_over (CallsFits scan_parts scan_plan)
scan_ends =
    plain_calls_end scan_parts scan_plan scan_call_alone scan_call_left scan_call_saved scan_rest none_over scan_laws
    (record { parts = scan_part_ends; begins = λ m. begins m m.point; pays = λ m r0 rs r tr t es ds a h g held agent. scan_paid m m.point a r0 rs r tr t es ds h g })
