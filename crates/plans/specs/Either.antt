-- one of two machines: its control, when it fits, what it gives, and its laws
use Rattle.std.proofs.Common.{ℕ, Bool}
use Rattle.std.specs.{Prelude.{Option, List, []}, Option.option_map}
use Rattle.shm_graph.specs.{declared.{ask.{Ask.Ask, Me.Me}, memo.Memo.Memo}, Asks.Trail, Events.Event, Laws.Control}
use Rattle.shm_graph.specs.Mapped.{OnTheWay, AtTheEnd}
use Rattle.plans.specs.{declared.or.Or.{Or, TheVariants.{First, Second}}, Parts.Part}

module _ {S T A B : Type 0} (j : Control S A) (k : Control T B) where
  abbrev pub or_me : Or S T → Me
  or_me (First m) = j.me m
  or_me (Second m) = k.me m

  abbrev pub or_line : Or S T → List ℕ
  or_line (First m) = j.line m
  or_line (Second m) = k.line m

  abbrev pub or_fresh : Or S T → Bool
  or_fresh (First m) = j.fresh m
  or_fresh (Second m) = k.fresh m

  abbrev pub or_finished : Or S T → Bool
  or_finished (First m) = j.finished m
  or_finished (Second m) = k.finished m

  abbrev pub or_asks : Or S T → Ask
  or_asks (First m) = j.asks m
  or_asks (Second m) = k.asks m

  abbrev pub or_after : Or S T → ℕ → Or S T
  or_after (First m) n = First (j.after m n)
  or_after (Second m) n = Second (k.after m n)

  abbrev pub or_turns : Or S T → ℕ → Option (Or A B)
  or_turns (First m) n = option_map First (j.turns m n)
  or_turns (Second m) n = option_map Second (k.turns m n)

  abbrev pub or_control : Control (Or S T) (Or A B)
  or_control = record { me = or_me; line = or_line; fresh = or_fresh; finished = or_finished; asks = or_asks; after = or_after; turns = or_turns }

-- each of the two fits and gives what it does, and tells of its own events
abbrev pub OrFits : {S T : Type 0} → OnTheWay S → OnTheWay T → OnTheWay (Or S T)
OrFits f g (First m) = f m
OrFits f g (Second m) = g m

abbrev pub OrGives : {S T A B : Type 0} → AtTheEnd S A → AtTheEnd T B → AtTheEnd (Or S T) (Or A B)
OrGives f g (First m) r0 r tr (First a) = f m r0 r tr a
OrGives f g (Second m) r0 r tr (Second b) = g m r0 r tr b
OrGives f g _ r0 r tr _ = ⊥

abbrev pub or_does : {S T : Type 0} → (S → ℕ → Event) → (T → ℕ → Event) → Or S T → ℕ → Event
or_does f g (First m) = f m
or_does f g (Second m) = g m

-- ---- as parts

-- what each of the two says
abbrev pub OrNeeds : {S T : Type 0} → (S → Memo → Type 0) → (T → Memo → Type 0) → Or S T → Memo → Type 0
OrNeeds f g (First m) = f m
OrNeeds f g (Second m) = g m

abbrev pub OrLeaves : {S T A B : Type 0} → (S → Memo → Memo → Trail → List Event → A → Type 0) → (T → Memo → Memo → Trail → List Event → B → Type 0) → Or S T → Memo → Memo → Trail → List Event → Or A B → Type 0
OrLeaves f g (First m) r0 r tr es (First a) = f m r0 r tr es a
OrLeaves f g (Second m) r0 r tr es (Second b) = g m r0 r tr es b
OrLeaves f g _ r0 r tr es _ = ⊥

abbrev pub OrAsks : {S T A B : Type 0} → (S → Trail → A → Type 0) → (T → Trail → B → Type 0) → Or S T → Trail → Or A B → Type 0
OrAsks f g (First m) tr (First a) = f m tr a
OrAsks f g (Second m) tr (Second b) = g m tr b
OrAsks f g _ tr _ = ⊥

abbrev pub or_part : {S T A B : Type 0} → Part S A → Part T B → Part (Or S T) (Or A B)
or_part p q = record { fits = OrFits p.fits q.fits; gives = OrGives p.gives q.gives; does = or_does p.does q.does; needs = OrNeeds p.needs q.needs; leaves = OrLeaves p.leaves q.leaves; asks = OrAsks p.asks q.asks }
