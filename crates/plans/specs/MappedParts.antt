-- a part whose answers are told by f
use Rattle.std.proofs.Common.{◌≡◌, []}
use Rattle.shm_graph.specs.Mapped.{MappedGives}
use Rattle.plans.specs.Parts.{Part}

abbrev pub mapped_part : {S A B : Type 0} → (A → B) → Part S A → Part S B
mapped_part {S} {A} f p =
    record {
      fits = p.fits;
      gives = MappedGives f p.gives;
      does = p.does;
      needs = p.needs;
      leaves = λ m rs r t es b. (a : A) × (f a ≡ b) × p.leaves m rs r t es a;
      asks = λ m t b. (a : A) × (f a ≡ b) × p.asks m t a;
    }
