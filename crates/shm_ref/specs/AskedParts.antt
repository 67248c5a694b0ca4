-- a part that leaves what it asked, besides what it leaves
use Rattle.std.proofs.Common.{[]}
use Rattle.plans.specs.Parts.{Part}

-- its trail is one of its trails
abbrev pub asked_part : {S A : Type 0} → Part S A → Part S A
asked_part p = record { fits = p.fits; gives = p.gives; does = p.does; needs = p.needs; leaves = λ m rs r t es a. p.leaves m rs r t es a × p.asks m t a; asks = p.asks }
