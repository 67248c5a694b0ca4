-- parts: a machine as larger machines call it, with what it needs at its begin and what it leaves in the end: what is proved of it
use Rattle.std.specs.Prelude.{◌≡◌, Bool, List, []}
use Rattle.shm_graph.specs.{declared.memo.Memo.Memo, Agents.recovers, Asks.Trail, Events.Event, Laws.Control}
pub use Rattle.shm_graph.specs.Operations.{IsHeld}
use Rattle.shm_graph.specs.Tells.{happens_along}
use Rattle.plans.specs.Parts.{Part, PartLaws, weaker}

pub weaker_laws : {S A : Type 0} (first : Bool) (k : Control S A) (p : Part S A) (needs : S → Memo → Type 0) (leaves : S → Memo → Memo → Trail → List Event → A → Type 0)
    → ((m : S) (r : Memo) → needs m r → p.needs m r)
    → ((m : S) (rs r : Memo) (t : Trail) (es : List Event) (a : A) → needs m rs → p.leaves m rs r t es a → IsHeld (k.me m) r → recovers r ≡ recovers rs → leaves m rs r t es a)
    → PartLaws first k p → PartLaws first k (weaker p needs leaves)
weaker_laws first k p needs leaves more less l =
    record {
      placed = l.placed;
      tells = l.tells;
      begins = λ m r n. l.begins m r (more m r n);
      ends = λ m rs r t a n g held same. less m rs r t (happens_along k p.does m t) a n (l.ends m rs r t a (more m rs n) g held same) held same;
      asked = λ m rs r t a n g. l.asked m rs r t a (more m rs n) g;
    }
