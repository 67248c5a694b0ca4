-- runs of machines: what is assumed of each turn, and nothing of what it leads to
use Rattle.std.specs.Prelude.{◌≡◌, ◌<◌, false, List, [], ◌∷◌, slice_index}
use Rattle.shm_words.specs.declared.geometry.Geometry.{Geometry}
use Rattle.shm_graph.specs.declared.{memo.{Memo.Memo, Step.Step}, run.Move.{Move, TheVariants.{Word, Dies, Begins}}}
use Rattle.shm_graph.specs.{Asks.{Trail, at_of, seen_of}, Laws.{Control, step_of}}
use Rattle.shm_graph.specs.{Runs.{IsMove, State, memos_of, moved}, Whole.fits_now}

module _ {S A : Type 0} (k : Control S A) (fits : S → Memo → Memo → Trail → Type 0) where
  -- the word step is the one that a machine asks for which fits the memo of its identity
  pub record IsOfMachine (g : Geometry) (s : State) (t : Step) : Type 0 where
    pub machine : S
    pub before : Memo
    pub pool : t.me.geometry ≡ g
    pub low : t.me.who < g.clients
    pub me : k.me machine ≡ t.me
    pub runs : k.finished machine ≡ false
    pub fit : fits_now k fits machine before (memos_of s.accounts t.me.who)
    pub is : t ≡ step_of k machine (seen_of (k.asks machine) (slice_index s.words (at_of (k.asks machine))))

  abbrev pub IsMade : Geometry → State → Move → Type 0
  IsMade g s (Word t) = IsOfMachine g s t
  IsMade g s (Dies c) = c < g.clients
  IsMade g s (Begins c kind) = c < g.clients

  -- the turns lead from a to b: each could be taken where it was taken, and each word step is one that a machine asked for. No state but the first is spoken of
  abbrev pub AreMade : Geometry → State → List Move → State → Type 0
  AreMade g a [] b = a ≡ b
  AreMade g a (m ∷ ms) b = IsMove a m × IsMade g a m × AreMade g (moved a m) ms b
