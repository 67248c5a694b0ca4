-- a mending leaves the map of the table as it was, at each point on its way
use Rattle.std.proofs.Common.{ℕ, false, ap, List}
use Rattle.shm_graph.specs.{declared.{ask.Me.Me, memo.Memo.Memo}, Asks.Trail, Events.Event}
use Rattle.kind_parts.specs.WordParts.{former_event}
use Rattle.plans.specs.{CallsControl.calls_control, CallsPart.calls_part, Either.{or_control, or_part}}
use Rattle.plans.specs.Words.{word_control, word_part}
use Rattle.shm_count.specs.{CommitTest.{testing_plan, Control.testing_steered}, Steady.{IsSteady, SameMap}}
use Rattle.shm_count.proofs.Steady.{calls_steady, event_steady, grown_steady, or_steady, table_of, word_steady}
use Rattle.shm_count.proofs.Steady.Tests.{test_steady}
use Rattle.shm_recover.specs.declared.mend.{MendPoint.MendPoint, MendState.MendState}
use Rattle.shm_recover.specs.declared.mend_lower.{MendLowerPoint.MendLowerPoint, MendLowerState.MendLowerState}
use Rattle.shm_recover.specs.declared.mend_unlatch.MendUnlatchPoint.{MendUnlatchPoint}
use Rattle.shm_recover.specs.declared.mend_unlatch.MendUnlatchState.{MendUnlatchState}
use Rattle.shm_recover.specs.Mend.Control.{is_dead, mend_ask, mend_parts, mend_steered}
use Rattle.shm_recover.specs.Mend.{IsDead, IsMending, MendFound, MendKnows, mend_plan}
use Rattle.shm_recover.specs.MendLower.Control.{is_header, lowering_ask, lowering_steered}
use Rattle.shm_recover.specs.MendLower.{HasFound, LoweringFound, LoweringKnows, lowering_part, lowering_plan}
use Rattle.shm_recover.specs.MendUnlatch.Control.{is_whose, unlatching_ask, unlatching_steered}
use Rattle.shm_recover.specs.MendUnlatch.{UnlatchingFound, UnlatchingKnows, unlatching_plan}
use Rattle.shm_recover.specs.declared.mend.MendPoint.TheVariants as mend
use Rattle.shm_recover.specs.declared.mend_lower.MendLowerPoint.TheVariants as lower
use Rattle.shm_recover.specs.declared.mend_unlatch.MendUnlatchPoint.TheVariants as unlatch

-- ---- the second half of a change

found_table : (me : Me) (a e n : ℕ) (r0 r : Memo) (es : List Event) → HasFound me a e n r0 r es → SameMap r0 r
found_table me a e n r0 r es h = table_of r0 r (ap (λ (x : Memo). x.part) h.same.rest)

lowering_known : (m : MendLowerState) (y : MendLowerPoint) (r0 r : Memo) (tr : Trail) (es : List Event) → LoweringKnows m y r0 r tr es → SameMap r0 r
lowering_known m lower.Header r0 r tr es (may, same, none, quiet) = table_of r0 r (ap (λ (x : Memo). x.part) same)
lowering_known m lower.Row r0 r tr es h = found_table m.me m.block m.era m.header r0 r es h.0
lowering_known m lower.Show r0 r tr es h = found_table m.me m.block m.era m.header r0 r es h.0
lowering_known m lower.Exchange r0 r tr es h = found_table m.me m.block m.era m.header r0 r es h.0
lowering_known m lower.Close r0 r tr es h = table_of r0 r (ap (λ (x : Memo). x.part) h.0.rest)

lowering_word : (m : MendLowerState) (y : MendLowerPoint) → IsSteady word_control (word_part (is_header y) m.me (lowering_ask m.me m.block m.era m.header y) (LoweringFound m y))
lowering_word m y = word_steady (is_header y) m.me (lowering_ask m.me m.block m.era m.header y) (LoweringFound m y)

lowering_call : (m : MendLowerState) (y : MendLowerPoint) → IsSteady word_control (lowering_part m y)
lowering_call m lower.Exchange = event_steady false m.me (lowering_ask m.me m.block m.era m.header lower.Exchange) (former_event m.me.who m.block m.header) (LoweringFound m lower.Exchange)
lowering_call m lower.Header = grown_steady (is_header lower.Header) word_control (word_part (is_header lower.Header) m.me (lowering_ask m.me m.block m.era m.header lower.Header) (LoweringFound m lower.Header)) (lowering_word m lower.Header)
lowering_call m lower.Row = grown_steady (is_header lower.Row) word_control (word_part (is_header lower.Row) m.me (lowering_ask m.me m.block m.era m.header lower.Row) (LoweringFound m lower.Row)) (lowering_word m lower.Row)
lowering_call m lower.Show = grown_steady (is_header lower.Show) word_control (word_part (is_header lower.Show) m.me (lowering_ask m.me m.block m.era m.header lower.Show) (LoweringFound m lower.Show)) (lowering_word m lower.Show)
lowering_call m lower.Close = grown_steady (is_header lower.Close) word_control (word_part (is_header lower.Close) m.me (lowering_ask m.me m.block m.era m.header lower.Close) (LoweringFound m lower.Close)) (lowering_word m lower.Close)

lowering_steady : IsSteady (calls_control word_control lowering_steered) (calls_part word_control lowering_plan)
lowering_steady = calls_steady word_control lowering_plan (λ m. lowering_known m m.point) (λ m. lowering_call m m.point)

-- ---- the latch

unlatching_known : (m : MendUnlatchState) (y : MendUnlatchPoint) (r0 r : Memo) (tr : Trail) (es : List Event) → UnlatchingKnows m y r0 r tr es → SameMap r0 r
unlatching_known m unlatch.Whose r0 r tr es (may, same, none, quiet) = table_of r0 r (ap (λ (x : Memo). x.part) same)
unlatching_known m unlatch.Look r0 r tr es h = table_of r0 r (ap (λ (x : Memo). x.part) h.0.same)
unlatching_known m unlatch.Give r0 r tr es h = table_of r0 r (ap (λ (x : Memo). x.part) h.0.same)
unlatching_known m unlatch.Back r0 r tr es h = table_of r0 r (ap (λ (x : Memo). x.part) h.0.rest)

unlatching_steady : IsSteady (calls_control word_control unlatching_steered) (calls_part word_control unlatching_plan)
unlatching_steady =
    calls_steady word_control unlatching_plan (λ m. unlatching_known m m.point) (λ m. word_steady (is_whose m.point) m.me (unlatching_ask m.me m.author m.point) (UnlatchingFound m m.point))

-- ---- all

dead_table : (me : Me) (r0 r : Memo) (es : List Event) → IsDead me r0 r es → SameMap r0 r
dead_table me r0 r es h = table_of r0 r (ap (λ (x : Memo). x.part) h.same)

mending_table : (me : Me) (r0 r : Memo) → IsMending me r0 r → SameMap r0 r
mending_table me r0 r h = table_of r0 r (ap (λ (x : Memo). x.part) h.rest)

mend_known : (m : MendState) (y : MendPoint) (r0 r : Memo) (tr : Trail) (es : List Event) → MendKnows m y r0 r tr es → SameMap r0 r
mend_known m mend.Dead r0 r tr es (may, same, none, quiet) = table_of r0 r (ap (λ (x : Memo). x.part) same)
mend_known m mend.Era r0 r tr es h = dead_table m.me r0 r es h.0
mend_known m mend.Redo r0 r tr es h = dead_table m.me r0 r es h.0
mend_known m mend.More r0 r tr es h = dead_table m.me r0 r es h.0
mend_known m mend.Test r0 r tr es h = dead_table m.me r0 r es h.0
mend_known m mend.Slot r0 r tr es h = mending_table m.me r0 r h.0
mend_known m mend.Close r0 r tr es h = mending_table m.me r0 r h.0
mend_known m mend.Lower r0 r tr es h = mending_table m.me r0 r h.0
mend_known m mend.Unlatch r0 r tr es h = mending_table m.me r0 r h.0

mend_calls : (m : MendState) → IsSteady mend_parts (mend_plan.part m)
mend_calls m =
    let word = word_part (is_dead m.point) m.me (mend_ask m.me m.era m.redo m.point) (MendFound m m.point) in
    let test = calls_part word_control testing_plan in
    let low = calls_part word_control lowering_plan in
    let back = calls_part word_control unlatching_plan in
    let tests = calls_control word_control testing_steered in
    let lows = calls_control word_control lowering_steered in
    let backs = calls_control word_control unlatching_steered in
    or_steady word_control (or_control tests (or_control lows backs)) word (or_part test (or_part low back))
    (word_steady (is_dead m.point) m.me (mend_ask m.me m.era m.redo m.point) (MendFound m m.point))
    (or_steady tests (or_control lows backs) test (or_part low back) test_steady (or_steady lows backs low back lowering_steady unlatching_steady))

pub mend_steady : IsSteady (calls_control mend_parts mend_steered) (calls_part mend_parts mend_plan)
mend_steady = calls_steady mend_parts mend_plan (λ m. mend_known m m.point) mend_calls
