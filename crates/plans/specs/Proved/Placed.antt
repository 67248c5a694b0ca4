-- the laws of a machine as a part of another one: where it comes first it keeps the invariant in any frame, and otherwise in each frame that isn't the first step of the whole: what is proved of it
use Rattle.std.specs.Prelude.{Bool, true}
use Rattle.std.proofs.lemmas.Bool.{true≢false}
use Rattle.shm_graph.specs.{Laws.{Control, Laws}, Mapped.{OnTheWay, AtTheEnd}}
use Rattle.plans.specs.Placed.{PlacedLaws}

-- a machine may be a part anywhere
pub placed : {S A : Type 0} (first : Bool) (k : Control S A) (fits : OnTheWay S) (gives : AtTheEnd S A) → Laws k fits gives → PlacedLaws first k fits gives
placed first k fits gives l = record { steady = l.steady; inside = l.inside; back = l.back; keeps = λ m r0 tr w r f going s may fit. l.keeps m r0 tr going w r f s fit }

-- a part that may come first is a machine
pub from_placed : {S A : Type 0} (k : Control S A) (fits : OnTheWay S) (gives : AtTheEnd S A) → PlacedLaws true k fits gives → Laws k fits gives
from_placed k fits gives l = record { steady = l.steady; inside = l.inside; back = l.back; keeps = λ m r0 tr going w r f s fit. l.keeps m r0 tr w r f going s (λ e. absurd (true≢false e)) fit }
