-- how many word steps a search for a key takes: by the number of the entries whose key it read: what is proved of it
use Rattle.std.proofs.Common.{◌≡◌, ℕ, ◌+◌, ◌*◌, refl, ap, ◌∙◌, arith, List, [], ◌∷◌, length, length-append, inl, inr}
use Rattle.shm_graph.specs.{declared.{ask.Me.Me, memo.Memo.Memo}, Asks.{Trail, pair, IsWithin}, Events.Event}
use Rattle.shm_table.specs.declared.find.Found.{Found, TheVariants.{Absent, At}}
use Rattle.shm_table.specs.Find.{Control.{Passed, finding, passed_trail, walk_trail, word_ask}, FindLeaves}
use Rattle.shm_table.specs.Find.Bound.{IsWhole, keys_read}

-- two for each entry that was passed
pub passed_length : (ps : List Passed) (at : ℕ) → length (passed_trail ps at) ≡ 2 * length ps
passed_length [] at = refl
passed_length (p ∷ ps) at = let k = passed_length ps at in omega arith

-- a search took at most 2 word steps, and 2 for each key that it read
pub find_within : (me : Me) (a key : ℕ) (r0 r : Memo) (tr : Trail) (es : List Event) (b : Found) → FindLeaves (finding me a key) r0 r tr es b → (ps : List Passed) × IsWhole me a key ps tr b × IsWithin (2 + 2 * keys_read ps b) tr
find_within me a key r0 r tr es (Absent home first) h =
    elim h.ends [
      | inl e ↦ (let n : length tr ≡ 1 = ap length e.2 in ([], inl (e.0, refl, e.2), omega arith))
      | inr e ↦ (let k = passed_length e.1.0 0 in
          let n : length tr ≡ length (walk_trail me a key home e.1.0 0) = ap length e.1.3 in
          (e.1.0, inr (e.0, e.1.3), omega arith))
    ]
find_within me a key r0 r tr es (At entry before word) h =
    let k = passed_length h.passed entry in
    let n : length tr ≡ length (walk_trail me a key h.home h.passed entry) + 1 = ap length h.trail ∙ length-append (walk_trail me a key h.home h.passed entry) (pair (word_ask entry 2) key ∷ []) in
    (h.passed, (h.home, h.trail), omega arith)
