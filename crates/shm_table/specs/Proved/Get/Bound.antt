-- how many word steps taking a latch and looking for a key take, and reading what a key has: by the number of the entries whose key was read: what is proved of it
use Rattle.std.proofs.Common.{◌≡◌, ℕ, ◌+◌, ◌*◌, refl, sym, ap, subst, arith, List, [], ◌∷◌, ◌++◌, length, length-append, inl, inr}
use Rattle.shm_graph.specs.{declared.{ask.Me.Me, memo.Memo.Memo}, Asks.{Trail, pair, IsWithin}, Events.Event}
use Rattle.plans.specs.Proved.CallTells.{within_more}
use Rattle.shm_script.specs.declared.log.Answer.TheVariants as answer
use Rattle.shm_table.specs.{declared.find.Found.{Found, TheVariants.Absent}, Find.Bound.{IsWhole, keys_read}}
use Rattle.shm_table.specs.Find.{Control.{Passed, walk_trail, word_ask}, EndsNowhere}
use Rattle.shm_table.specs.Proved.Find.Bound.{find_within, passed_length}
use Rattle.shm_table.specs.Get.{GotNone, GotSome, found_trail, number_trail, Bound.{LocateAsked, GetAsked}}
use Rattle.shm_table.specs.{Locate.Located, Unlatch.unlatch_trail}

-- ---- the latch and the search

pub locate_within : (me : Me) (a key : ℕ) (r0 r : Memo) (tr : Trail) (es : List Event) (b : Found) → Located me a key r0 r tr es b → (ps : List Passed) × LocateAsked me a key ps tr b × IsWithin (4 + 2 * keys_read ps b) tr
locate_within me a key r0 r tr es b h =
    let f = find_within me a key h.latched r h.after es b h.found in
    let all : IsWithin (2 + (2 + 2 * keys_read f.0 b)) (h.before ++ h.after) = within_more 2 (2 + 2 * keys_read f.0 b) h.before h.after h.bound f.2 in
    (f.0, (h.before, h.after, h.trail, h.bound, f.1), subst (IsWithin (4 + 2 * keys_read f.0 b)) (sym h.trail) (omega arith))

-- ---- what a key has

-- a whole chain, or no home
nowhere_whole : (me : Me) (a key home first : ℕ) (walk : Trail) → EndsNowhere me a key home first walk → (ps : List Passed) × IsWhole me a key ps walk (Absent home first) × IsWithin (2 + 2 * length ps) walk
nowhere_whole me a key home first walk (inl e) = let n : length walk ≡ 1 = ap length e.2 in ([], inl (e.0, refl, e.2), omega arith)
nowhere_whole me a key home first walk (inr (some, (ps, others, begins, e))) =
    let n : length walk ≡ length (walk_trail me a key home ps 0) = ap length e in
    let k = passed_length ps 0 in
    (ps, inr (some, e), omega arith)

pub missing_within : (me : Me) (a key : ℕ) (r0 r : Memo) (tr : Trail) (es : List Event) → GotNone me a key r0 r tr es → (ps : List Passed) × GetAsked me a key ps tr answer.Missing × IsWithin (6 + 2 * length ps) tr
missing_within me a key r0 r tr es h =
    let f = nowhere_whole me a key h.home h.first h.walk h.ends in
    let walked : IsWithin (2 + 2 * length f.0 + 2) (h.walk ++ unlatch_trail me a) = within_more (2 + 2 * length f.0) 2 h.walk (unlatch_trail me a) f.2 (omega arith) in
    let all : IsWithin (2 + (2 + 2 * length f.0 + 2)) (h.before ++ (h.walk ++ unlatch_trail me a)) = within_more 2 (2 + 2 * length f.0 + 2) h.before (h.walk ++ unlatch_trail me a) h.bound walked in
    (f.0, (h.before, h.walk, h.home, h.first, h.trail, h.bound, f.1), subst (IsWithin (6 + 2 * length f.0)) (sym h.trail) (omega arith))

pub found_within : (me : Me) (a key n v : ℕ) (r0 r : Memo) (tr : Trail) (es : List Event) → GotSome me a key n v r0 r tr es → (ps : List Passed) × GetAsked me a key ps tr (answer.Value n v) × IsWithin (9 + 2 * length ps) tr
found_within me a key n v r0 r tr es h =
    let ps : List Passed = h.passed in
    let k = passed_length ps h.entry in
    let rest : Trail = number_trail h.entry v n ++ unlatch_trail me a in
    let walk : Trail = walk_trail me a key h.home ps h.entry in
    let l = length-append walk (pair (word_ask h.entry 2) key ∷ []) in
    let walked : IsWithin (2 + 2 * length ps + 1 + 4) (found_trail me a key h.home ps h.entry ++ rest) = within_more (2 + 2 * length ps + 1) 4 (found_trail me a key h.home ps h.entry) rest (omega arith) (omega arith) in
    let all : IsWithin (2 + (2 + 2 * length ps + 1 + 4)) (h.before ++ (found_trail me a key h.home ps h.entry ++ rest)) = within_more 2 (2 + 2 * length ps + 1 + 4) h.before (found_trail me a key h.home ps h.entry ++ rest) h.bound walked in
    (ps, (h.before, h.home, h.entry, h.trail, h.bound), subst (IsWithin (9 + 2 * length ps)) (sym h.trail) (omega arith))
