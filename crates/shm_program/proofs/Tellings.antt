-- what is told of a closed pool, whoever calls for it
use Rattle.std.proofs.Common.{◌≡◌, ℕ, List}
use Rattle.shm_words.specs.declared.geometry.Geometry.{Geometry}
use Rattle.shm_graph.specs.{declared.table.Entry.Entry, Spots.see, Tables.IsTable}
use Rattle.shm_plain.specs.{Closings.IsClosedRun, Pools.Pool}
use Rattle.shm_report.specs.PoolWords.{IsCleanPool}
use Rattle.shm_script.specs.Logged.{Logged}
use Rattle.shm_program.specs.{Replays.written, declared.words.Form.Form}

-- the text is what is written of these words and logs
abbrev Wrote : Form → Geometry → List ℕ → List Logged → List ℕ → Type 0
Wrote form g ws ls text = IsCleanPool g ws → (table : ℕ → ℕ → List Entry) → IsTable g (see g ws) table → text ≡ written form g ws table ls

pub text_told : (form : Form) (p : Pool) (ls logs : List Logged) (g : Geometry) (ws text : List ℕ) (table : ℕ → ℕ → List Entry) → g ≡ p.start.geometry → ws ≡ p.words → logs ≡ ls
    → IsClosedRun p → IsTable p.start.geometry (see p.start.geometry p.words) table → Wrote form g ws logs text → text ≡ written form p.start.geometry p.words table ls
text_told form p ls logs g ws text table sizes words logged closed is wrote =
    let pool : IsCleanPool p.start.geometry p.words = record { fits = closed.run.held.at.fits; whole = closed.run.held.words; clean = closed.clean } in
    let here : Wrote form p.start.geometry p.words ls text = rw (sizes, words, logged) at wrote in
    here pool table is
