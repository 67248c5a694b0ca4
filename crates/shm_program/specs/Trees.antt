-- the run of a script for versions of an ordered map, and what is written of it
use Rattle.std.specs.Prelude.{◌≡◌, ℕ, List}
use Rattle.shm_tree.specs.Scripts.{TreeScripted}
use Rattle.shm_versions.specs.{declared.treed.Treed.Treed as Run, RunTexts.text_of_run, TreeRuns.IsTreeRun}
use Rattle.shm_program.specs.declared.outcome.Finished.{Finished, TheVariants.Treed}

-- the script was run, what is kept is the closed pool, and the text is what is written of that run
abbrev pub IsTreeTold : TreeScripted → Finished → List ℕ → Type 0
IsTreeTold s finished text = (r : Run) × (finished ≡ Treed r.closed) × IsTreeRun s r × (text ≡ text_of_run s r)
