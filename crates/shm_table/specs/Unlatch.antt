-- giving back a latch of which it is known whose it is, as a plan: what is known before each word step, and what is left
use Rattle.std.specs.Prelude.{◌≡◌, ℕ, ◌<◌, None, Some, List, [], ◌∷◌}
use Rattle.shm_words.specs.Layout.{GeometryFits}
use Rattle.shm_graph.specs.{declared.{ask.Me.Me, memo.{Memo.Memo, Op.TheVariants.Nothing}}, Asks.{Trail, pair}}
use Rattle.shm_graph.specs.{Core.core, Events.Event, Reach.unlatched}
use Rattle.kind_parts.specs.Conditions.{IsHere}
use Rattle.plans.specs.{declared.word.Word.Word, Parts.Part, Plans.Planned, Words.word_part}
use Rattle.shm_ref.specs.{AskedParts.asked_part, Hold.wants}
use Rattle.shm_table.specs.declared.unlatch.UnlatchPoint.{UnlatchPoint, TheVariants.{Give, Back}}
use Rattle.shm_table.specs.declared.unlatch.UnlatchState.{UnlatchState}
use Rattle.shm_table.specs.Unlatch.Control.{unlatch_ask, is_give, unlatch_steered}
pub mod Control

-- ---- the control

-- all that is asked, with what it sees
abbrev pub given_trail : Me → ℕ → Trail
given_trail me a = pair (unlatch_ask me a Give) 0 ∷ []

abbrev pub unlatch_trail : Me → ℕ → Trail
unlatch_trail me a = pair (unlatch_ask me a Give) 0 ∷ pair (unlatch_ask me a Back) 0 ∷ []

-- ---- when it may begin, and on the way

-- no step is in progress, and the latch of a is held
pub record MayUnlatch (me : Me) (a : ℕ) (r : Memo) : Type 0 where
  pub geometry : GeometryFits me.geometry
  pub who : me.who < me.geometry.clients
  pub author : a < me.geometry.clients
  pub here : IsHere r
  pub idle : r.op ≡ Nothing
  pub latch : r.latch ≡ Some a

-- the latch is nobody's, and the hold word is to be 0
pub record IsGiven (me : Me) (a : ℕ) (r0 r : Memo) (tr : Trail) (es : List Event) : Type 0 where
  pub may : MayUnlatch me a r0
  pub same : core r ≡ core (unlatched me.geometry.wide me.who r0)
  pub none : es ≡ []
  pub trail : tr ≡ given_trail me a

abbrev pub UnlatchKnows : UnlatchState → UnlatchPoint → Memo → Memo → Trail → List Event → Type 0
UnlatchKnows m Give r0 r tr es = MayUnlatch m.me m.author r0 × (r ≡ r0) × (tr ≡ []) × (es ≡ [])
UnlatchKnows m Back r0 r tr es = IsGiven m.me m.author r0 r tr es

-- ---- what it leaves

-- the latch is given back and the hold word is 0; no latch is held, and the looks are over
pub record Unlatched (me : Me) (a : ℕ) (r0 r : Memo) (tr : Trail) (es : List Event) : Type 0 where
  pub memo : core r ≡ core (wants me.who 0 (unlatched me.geometry.wide me.who r0))
  pub latch : r.latch ≡ None
  pub looks : r.looks ≡ []
  pub none : es ≡ []
  pub trail : tr ≡ unlatch_trail me a

-- what holds after each word step, by the memo before, the word found and the memo
abbrev pub UnlatchFound : UnlatchState → UnlatchPoint → Memo → ℕ → Memo → Type 0
UnlatchFound m Give r n x = (core x ≡ core (unlatched m.me.geometry.wide m.me.who r)) × (n ≡ 0)
UnlatchFound m Back r n x = (core x ≡ core (wants m.me.who 0 r)) × (n ≡ 0)

-- the part that the word step at a point is
abbrev pub unlatch_part : UnlatchState → UnlatchPoint → Part Word ℕ
unlatch_part m y = asked_part (word_part (is_give y) m.me (unlatch_ask m.me m.author y) (UnlatchFound m y))

abbrev pub unlatch_plan : Planned UnlatchState Word ℕ (Unit {0})
unlatch_plan =
    record {
      steered = unlatch_steered;
      part = λ m. unlatch_part m m.point;
      knows = λ m. UnlatchKnows m m.point;
      leaves = λ m r0 r tr es done. Unlatched m.me m.author r0 r tr es;
    }
