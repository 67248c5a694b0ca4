-- what is told of a trace, or of a script, is the answer of the job that has it
use Rattle.std.proofs.Common.{◌≡◌, ℕ, List, Option, subst, inl}
use Rattle.shm_script.specs.{Drawing.drawn_trace, Values.Traced}
use Rattle.shm_tree.specs.{Scripts.TreeScripted, ScriptTexts.SpellsScript}
use Rattle.shm_program.specs.declared.{outcome.Finished.{Finished, TheVariants.{Ran, Rescued}}, words.Form.Form}
use Rattle.shm_program.specs.declared.words.Form.TheVariants.{Summary}
use Rattle.shm_program.specs.declared.words.Job.TheVariants.{Replay, Print, Run, Rescue, Make, Poll, Tree}
use Rattle.shm_program.specs.{Outcomes.{JobAnswers, IsPrinted, Spells}, Replays.{IsPollTold, IsTeamTold, IsTold}}
use Rattle.shm_program.specs.Trees.{IsTreeTold}

pub read_told : (form : Form) (bytes : List ℕ) (t : Traced) (status : ℕ) (finished : Finished) (text : List ℕ) → Spells bytes t → (status ≡ 0) × IsTold form t finished text → JobAnswers (Replay form) bytes status finished text
read_told form bytes t status finished text s d = inl (d.0, (t, s, d.1))

pub run_told : (form : Form) (bytes : List ℕ) (t : Traced) (status : ℕ) (finished : Finished) (text : List ℕ) → Spells bytes t → (status ≡ 0) × IsTeamTold Ran form t finished text → JobAnswers (Run form) bytes status finished text
run_told form bytes t status finished text s d = inl (d.0, (t, s, d.1))

pub rescue_told : (form : Form) (medics : ℕ) (bytes : List ℕ) (t : Traced) (status : ℕ) (finished : Finished) (text : List ℕ) → Spells bytes t → (status ≡ 0) × IsTeamTold Rescued form t finished text → JobAnswers (Rescue form medics) bytes status finished text
rescue_told form medics bytes t status finished text s d = inl (d.0, (t, s, d.1))

pub poll_told : (q : ℕ) (limit : Option ℕ) (bytes : List ℕ) (t : Traced) (status : ℕ) (finished : Finished) (text : List ℕ) → Spells bytes t → (status ≡ 0) × IsPollTold q limit t finished text → JobAnswers (Poll q limit) bytes status finished text
poll_told q limit bytes t status finished text s d = inl (d.0, (t, s, d.1))

pub tree_told : (bytes : List ℕ) (s : TreeScripted) (status : ℕ) (finished : Finished) (text : List ℕ) → SpellsScript bytes s → (status ≡ 0) × IsTreeTold s finished text → JobAnswers Tree bytes status finished text
tree_told bytes s status finished text h d = inl (d.0, (s, h, d.1))

pub read_printed : (bytes : List ℕ) (t : Traced) (status : ℕ) (finished : Finished) (text : List ℕ) → Spells bytes t → (status ≡ 0) × IsPrinted t finished text → JobAnswers Print bytes status finished text
read_printed bytes t status finished text s p = inl (p.0, (t, s, p.1))

pub drawn_told : (start size : ℕ) (bytes : List ℕ) (t : Traced) (status : ℕ) (finished : Finished) (text : List ℕ) → t ≡ drawn_trace start size → (status ≡ 0) × IsTold Summary t finished text → JobAnswers (Make start size) bytes status finished text
drawn_told start size bytes t status finished text same d = inl (d.0, subst (λ (u : Traced). IsTold Summary u finished text) same d.1)
