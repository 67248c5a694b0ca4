-- a run is one by its words
use Rattle.std.proofs.Common.{ℕ, Bool, List, [], ◌∷◌, ap}
use Rattle.shm_words.specs.{declared.geometry.Geometry.Geometry, Layout.GeometryFits}
use Rattle.shm_graph.specs.{declared.run.{Move.{Move, TheVariants.{Word, Dies, Begins}}, Start.Start}, Agents.acts}
use Rattle.shm_graph.specs.Runs.{EraFits, Held, Leads, State, first_state, first_words, memos_of, moved}
use Rattle.shm_graph.proofs.States.FirstHeld.{first_held}
use Rattle.shm_headline.specs.{TurnsOf.{turn_of, turns_of}, WordRuns.{Goes, at_work_by, nobody}}
use Rattle.shm_headline.proofs.{Exact.held_exact, Working.{AreAtWork, acting_work, first_work, turn_made, work_after}}

goes_on : (g : Geometry) (a : State) (ms : List Move) (b : State) (on : ℕ → Bool) → Held g a.words a.accounts → AreAtWork on a → Leads g a ms b → Goes g on a.words (turns_of ms) b.words
goes_on g a [] b on held x run = (held_exact g a.words a.accounts held, ap (λ (s : State). s.words) run)
goes_on g a (Word t ∷ ms) b on held x run = (held_exact g a.words a.accounts held, turn_made g on a held x (Word t) run.0 run.1, goes_on g (moved a (Word t)) ms b (at_work_by (turn_of (Word t)) on) run.1.held (work_after on a x (Word t) run.0) run.2)
goes_on g a (Dies c ∷ ms) b on held x run = (held_exact g a.words a.accounts held, turn_made g on a held x (Dies c) run.0 run.1, goes_on g (moved a (Dies c)) ms b (at_work_by (turn_of (Dies c)) on) run.1.held (work_after on a x (Dies c) run.0) run.2)
goes_on g a (Begins c k ∷ ms) b on held x run = (held_exact g a.words a.accounts held, turn_made g on a held x (Begins c k) run.0 run.1, goes_on g (moved a (Begins c k)) ms b (at_work_by (turn_of (Begins c k)) on) run.1.held (work_after on a x (Begins c k) run.0) run.2)

pub leads_goes : (g : Geometry) (a : State) (ms : List Move) (b : State) → Held g a.words a.accounts → Leads g a ms b → Goes g (λ c. acts (memos_of a.accounts c)) a.words (turns_of ms) b.words
leads_goes g a ms b held run = goes_on g a ms b (λ c. acts (memos_of a.accounts c)) held (acting_work a) run

pub run_goes : (s : Start) (ms : List Move) (b : State) → GeometryFits s.geometry → EraFits s.first_era → Leads s.geometry (first_state s) ms b → Goes s.geometry nobody (first_words s) (turns_of ms) b.words
run_goes s ms b f e run = goes_on s.geometry (first_state s) ms b nobody (first_held s f e) (first_work s) run
