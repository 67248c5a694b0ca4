-- a get in a run of a pool: what it answers, and where it finds that
use Rattle.std.specs.Prelude.{◌≡◌, ℕ, Some, List, [], ◌∷◌, ◌++◌}
use Rattle.shm_graph.specs.{declared.{ask.Me.Me, memo.Step.Step, run.Move.{Move, TheVariants.Word}}, Asks.Trail}
use Rattle.shm_graph.specs.{Laws.Control, Runs.{Leads, State, memos_of, moved}}
use Rattle.kind_parts.specs.Reparting.{map_in}
use Rattle.shm_table.specs.Find.{Control.word_ask, Tells.HasKey}

-- a machine asks for these, and answers this at the last one
abbrev pub IsAnswered : {S A : Type 0} → Control S A → S → Trail → A → Type 0
IsAnswered k m [] a = ⊥
IsAnswered k m (x ∷ []) a = k.turns m x.word ≡ Some a
IsAnswered k m (x ∷ y ∷ tr) a = IsAnswered k (k.after m x.word) (y ∷ tr) a

-- In the run from a to b one word step of the identity loads the value word of the entry that the author's partition has for the key, and in the state to which this step leads the author's map has the number n and the value block v at the key
pub record FindsAt (me : Me) (author key n v : ℕ) (a : State) (ms : List Move) (b : State) : Type 0 where
  pub before : List Move
  pub s : State
  pub t : Step
  pub after : List Move
  pub split : ms ≡ before ++ Word t ∷ after
  pub to : Leads me.geometry a before s
  pub from : Leads me.geometry (moved s (Word t)) after b
  pub entry : ℕ
  pub step : t.me ≡ me
  pub loads : t.ask ≡ word_ask entry 1
  pub has : HasKey (memos_of (moved s (Word t)).accounts author).part key entry
  pub map : map_in (memos_of (moved s (Word t)).accounts author).part key ≡ Some (n, v)
