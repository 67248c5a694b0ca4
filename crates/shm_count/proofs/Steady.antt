-- parts that leave the map of a table as it was: single word steps, and what is made of such parts
pub mod Steps
pub mod Tears
pub mod Tests
use Rattle.std.proofs.Common.{◌≡◌, ℕ, Bool, refl, ap, ◌∙◌, List}
use Rattle.shm_graph.specs.{declared.{ask.{Ask.Ask, Me.Me}, memo.Memo.Memo}, Asks.Trail, Events.Event, Held.is_loose}
use Rattle.shm_graph.specs.{Laws.Control, Mapped.mapped}
use Rattle.kind_parts.specs.Reparting.{map_in}
use Rattle.plans.specs.{declared.or.Or.TheVariants.{First, Second}, CallsControl.calls_control, CallsPart.calls_part}
use Rattle.plans.specs.{Either.{or_control, or_part}, EventWords.event_part, Grown.grown, MappedParts.mapped_part}
use Rattle.plans.specs.{Parts.Part, Plans.Planned, Words.{word_control, word_part}}
use Rattle.shm_count.specs.Steady.{IsSteady, SameMap}

-- ---- memos

-- the map stays where the partition does
pub table_of : (r0 r : Memo) → r.part ≡ r0.part → SameMap r0 r
table_of r0 r e = (ap map_in e, ap is_loose e)

pub table_then : (r0 r r' : Memo) → SameMap r0 r → SameMap r r' → SameMap r0 r'
table_then r0 r r' h k = (k.0 ∙ h.0, k.1 ∙ h.1)

-- ---- single word steps

-- a word step that isn't made yet has changed nothing
pub word_steady : (first : Bool) (me : Me) (a : Ask) (after : Memo → ℕ → Memo → Type 0) → IsSteady word_control (word_part first me a after)
word_steady first me a after m r0 r tr going fit = table_of r0 r (ap (λ (x : Memo). x.part) fit.same)

pub event_steady : (first : Bool) (me : Me) (a : Ask) (does : ℕ → Event) (after : Memo → ℕ → Memo → Type 0) → IsSteady word_control (event_part first me a does after)
event_steady first me a does after m r0 r tr going fit = table_of r0 r (ap (λ (x : Memo). x.part) fit.same)

-- ---- what is made of parts

pub mapped_steady : {S A B : Type 0} (f : A → B) (k : Control S A) (p : Part S A) → IsSteady k p → IsSteady (mapped f k) (mapped_part f p)
mapped_steady f k p h m r0 r tr going fit = h m r0 r tr going fit

pub grown_steady : {S A : Type 0} (first : Bool) (k : Control S A) (p : Part S A) → IsSteady k p → IsSteady k (grown first p)
grown_steady first k p h m r0 r tr going fit = h m r0 r tr going fit.0

pub or_steady : {S T A B : Type 0} (j : Control S A) (k : Control T B) (p : Part S A) (q : Part T B) → IsSteady j p → IsSteady k q → IsSteady (or_control j k) (or_part p q)
or_steady j k p q h i (First m) r0 r tr going fit = h m r0 r tr going fit
or_steady j k p q h i (Second m) r0 r tr going fit = i m r0 r tr going fit

-- a plan, where the map is as it was before each call, and each call leaves it so
pub calls_steady : {P C B A : Type 0} (k : Control C B) (q : Planned P C B A)
    → ((p : P) (r0 r : Memo) (tr : Trail) (es : List Event) → q.knows p r0 r tr es → SameMap r0 r)
    → ((p : P) → IsSteady k (q.part p))
    → IsSteady (calls_control k q.steered) (calls_part k q)
calls_steady k q known calls m r0 r tr going fit =
    table_then r0 fit.rs r (known m.plan r0 fit.rs fit.before fit.es fit.knows) (calls m.plan m.call fit.rs r fit.t going fit.fits)
