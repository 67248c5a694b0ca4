-- whether two roots name one block, as a plan of two calls: its control, what is known before each call, and what is left
pub mod Laws
use Rattle.std.specs.{Prelude.{◌≡◌, ℕ, ◌<◌, Bool, ◌==◌, Option, None, Some, List, [], ◌∷◌}, Option.is_none}
use Rattle.shm_words.specs.Layout.{GeometryFits}
use Rattle.shm_graph.specs.{declared.{ask.Me.Me, memo.Memo.Memo}, Asks.{Trail, pair}, Core.core, Events.Event}
use Rattle.shm_graph.specs.Laws.{Control}
use Rattle.plans.specs.{declared.{calls.Calls.Calls, word.Word.Word}, CallsControl.{calls_control, calls_of}}
use Rattle.plans.specs.{CallsPart.calls_part, Plans.Planned, Words.word_control, Steering.Steered}
use Rattle.shm_count.specs.Roots.{root_word}
use Rattle.shm_ref.specs.{declared.root_of.NamingState.NamingState, Lefts.MayDrop}
use Rattle.shm_ref.specs.RootOf.{naming, naming_ask, naming_plan, naming_steered}
use Rattle.t_uses.specs.declared.machine.CompareState.{CompareState}

-- ---- the control

-- its calls, each of which asks what a root names
abbrev pub CompareCall : Type 0
CompareCall = Calls NamingState Word

-- their control
abbrev pub root_of : Control CompareCall ℕ
root_of = calls_control word_control naming_steered

-- before its first call
abbrev pub comparing : Me → ℕ → ℕ → CompareState
comparing me j k = record { me = me; first = j; second = k; found = None }

-- the root that is asked for, by what the first one was found to name
abbrev pub root_at : CompareState → Option ℕ → ℕ
root_at m None = m.first
root_at m (Some a) = m.second

abbrev pub compare_after : CompareState → Option ℕ → ℕ → CompareState
compare_after m None b = record m { found = Some b }
compare_after m (Some a) b = m

abbrev pub compare_turns : Option ℕ → ℕ → Option Bool
compare_turns None b = None
compare_turns (Some a) b = Some (a == b)

-- what the control keeps in range
pub record CompareInRange (m : CompareState) : Type 0 where
  pub geometry : GeometryFits m.me.geometry
  pub who : m.me.who < m.me.geometry.clients
  pub first : m.first < 16
  pub second : m.second < 16

-- what the plan does: its identity, its calls, and where it goes by their answers
abbrev pub compare_steered : Steered CompareState CompareCall ℕ Bool
compare_steered =
    record {
      me = λ m. m.me;
      line = λ m. [];
      first = λ m. is_none m.found;
      start = λ m. record m { found = None };
      call = λ m. calls_of naming_steered (naming m.me (root_at m m.found));
      after = λ m. compare_after m m.found;
      turns = λ m. compare_turns m.found;
    }

-- the machine that makes its calls
abbrev pub CompareCalls : Type 0
CompareCalls = Calls CompareState CompareCall

-- ---- what holds

-- two roots that there are may be compared
abbrev pub CompareMay : CompareState → Memo → Type 0
CompareMay m r = (m ≡ comparing m.me m.first m.second) × (m.first < 16) × (m.second < 16)

-- what was asked before a call: nothing, or what the first root names
abbrev pub HasFound : CompareState → Option ℕ → Memo → Trail → Type 0
HasFound m None r0 tr = tr ≡ []
HasFound m (Some a) r0 tr = (a ≡ root_word m.me.who r0 m.first) × (tr ≡ pair (naming_ask m.me m.first) a ∷ [])

-- what is known before a call: no step of the identity is in progress, both roots are some of it, and nothing but reading was done
pub record CompareKnows (m : CompareState) (r0 r : Memo) (tr : Trail) (es : List Event) : Type 0 where
  pub may : MayDrop m.me r0
  pub first : m.first < 16
  pub second : m.second < 16
  pub same : core r ≡ core r0
  pub none : es ≡ []
  pub found : HasFound m m.found r0 tr

-- what it leaves: whether the two roots named one block, or none; nothing else came of the two word steps that read them
pub record Compared (m : CompareState) (r0 r : Memo) (tr : Trail) (es : List Event) (same : Bool) : Type 0 where
  pub memo : core r ≡ core r0
  pub is : same ≡ (root_word m.me.who r0 m.first == root_word m.me.who r0 m.second)
  pub none : es ≡ []
  pub trail : tr ≡ pair (naming_ask m.me m.first) (root_word m.me.who r0 m.first) ∷ pair (naming_ask m.me m.second) (root_word m.me.who r0 m.second) ∷ []

-- the plan
abbrev pub compare_plan : Planned CompareState CompareCall ℕ Bool
compare_plan = record { steered = compare_steered; part = λ m. calls_part word_control naming_plan; knows = CompareKnows; leaves = Compared }
