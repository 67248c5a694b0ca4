-- a control whose answers are told by those of another one, and its laws
use Rattle.std.proofs.Common.{◌≡◌}
use Rattle.std.specs.Option.{option_map}
use Rattle.shm_graph.specs.declared.{memo.Memo.Memo, ask.Turn.{Turn, TheVariants.{More, Done, Died}}}
use Rattle.shm_graph.specs.{Asks.Trail, Laws.Control}

-- what holds of a machine with states S on the way, and at its answer
abbrev pub OnTheWay : Type 0 → Type 1
OnTheWay S = S → Memo → Memo → Trail → Type 0

abbrev pub AtTheEnd : Type 0 → Type 0 → Type 1
AtTheEnd S A = S → Memo → Memo → Trail → A → Type 0

-- ---- answers that are told by f

-- what is told, of the answer what f tells of it
abbrev pub told_turn : {A B : Type 0} → (A → B) → Turn A → Turn B
told_turn f More = More
told_turn f Died = Died
told_turn f (Done a) = Done (f a)

-- the control that answers what f tells of the answer
abbrev pub mapped : {S A B : Type 0} → (A → B) → Control S A → Control S B
mapped f k =
    record {
      me = k.me;
      line = k.line;
      fresh = k.fresh;
      finished = k.finished;
      asks = k.asks;
      after = k.after;
      turns = λ m n. option_map f (k.turns m n);
    }

-- the answer is told by one that gives what it says
abbrev pub MappedGives : {S A B : Type 0} → (A → B) → AtTheEnd S A → AtTheEnd S B
MappedGives {S} {A} f gives m r0 r tr b = (a : A) × (f a ≡ b) × gives m r0 r tr a

-- ---- what holds for one of many

-- it fits, and gives, for some x
abbrev pub SomeFits : {S X : Type 0} → (X → OnTheWay S) → OnTheWay S
SomeFits {S} {X} fits m r0 r tr = (x : X) × fits x m r0 r tr

abbrev pub SomeGives : {S A X : Type 0} → (X → AtTheEnd S A) → AtTheEnd S A
SomeGives {S} {A} {X} gives m r0 r tr a = (x : X) × gives x m r0 r tr a

-- ---- what holds of states that a control doesn't leave

-- it fits, and gives, and is one of the states Q
abbrev pub AmongFits : {S : Type 0} → (S → Type 0) → OnTheWay S → OnTheWay S
AmongFits Q fits m r0 r tr = Q m × fits m r0 r tr

abbrev pub AmongGives : {S A : Type 0} → (S → Type 0) → AtTheEnd S A → AtTheEnd S A
AmongGives Q gives m r0 r tr a = Q m × gives m r0 r tr a
