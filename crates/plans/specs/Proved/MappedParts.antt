-- a part whose answers are told by f: what is proved of it
use Rattle.std.proofs.Common.{Bool, refl, sym, subst, List, [], ◌∷◌, ◌++◌}
use Rattle.shm_graph.specs.{Asks.pair, Events.Event, Laws.{Control, Then}, Mapped.{MappedGives, mapped}}
use Rattle.shm_graph.specs.Proved.Mapped.{mapped_back, mapped_inside, mapped_steady}
use Rattle.plans.specs.{Proved.{CallTells.mapped_events, Either.{after_step, told_outcome}}, Parts.{Part, PartLaws}}
use Rattle.plans.specs.{Placed.PlacedKeeps, MappedParts.mapped_part}

module _ {S A B : Type 0} (f : A → B) (first : Bool) (k : Control S A) (p : Part S A) (h : PartLaws first k p) where
  keeps : PlacedKeeps first (mapped f k) p.fits (MappedGives f p.gives)
  keeps m r0 tr w r frame going s may fit =
      after_step (k.me m) w r (k.asks m) frame (Then k p.fits p.gives m r0 tr) (Then (mapped f k) p.fits (MappedGives f p.gives) m r0 tr) _
      (λ n x. told_outcome f (k.turns m n) (p.fits (k.after m n) r0 x (tr ++ pair (k.asks m) n ∷ [])) (p.gives m r0 x (tr ++ pair (k.asks m) n ∷ [])) (MappedGives f p.gives m r0 x (tr ++ pair (k.asks m) n ∷ [])) (λ a g. (a, refl, g)))
      (h.placed.keeps m r0 tr w r frame going s may fit)

  pub mapped_part_laws : PartLaws first (mapped f k) (mapped_part f p)
  mapped_part_laws =
      record {
        placed = record { steady = mapped_steady f k p.fits p.gives h.placed.steady; inside = mapped_inside f k p.fits p.gives h.placed.inside; back = mapped_back f k p.fits p.gives h.placed.back; keeps = keeps };
        tells = h.tells;
        begins = h.begins;
        ends = λ m rs r t b n g held same. (g.0, g.1, subst (λ (es : List Event). p.leaves m rs r t es g.0) (sym (mapped_events f k p.does m t)) (h.ends m rs r t g.0 n g.2 held same));
        asked = λ m rs r t b n g. (g.0, g.1, h.asked m rs r t g.0 n g.2);
      }
