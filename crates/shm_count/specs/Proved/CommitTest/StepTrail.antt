-- a word step as a part that leaves what it asked, besides what it leaves: what is proved of it
use Rattle.std.proofs.Common.{◌≡◌, ℕ, Bool, ap, ◌∙◌, [], ◌∷◌}
use Rattle.shm_graph.specs.{declared.ask.Ask.Ask, Asks.{Trail, pair}, Laws.Control, Trails.{Answers, Asked}}
use Rattle.plans.specs.Parts.{Part, PartLaws}
use Rattle.shm_count.specs.CommitTest.StepTrail.{read_part}

pub read_part_laws : {S A : Type 0} (first : Bool) (k : Control S A) (p : Part S A) → PartLaws first k p → PartLaws first k (read_part p)
read_part_laws first k p l =
    record {
      placed = l.placed;
      tells = l.tells;
      begins = l.begins;
      ends = λ m rs r t a n g held same. (l.ends m rs r t a n g held same, l.asked m rs r t a n g);
      asked = l.asked;
    }

-- one word step asks one pair
pub one_read : (a : Ask) (t : Trail) (n : ℕ) → Asked a (λ x. Answers x) t n → t ≡ pair a n ∷ []
one_read a t n (x, (rest, (e, (none, same)))) = e ∙ (ap (λ (y : Trail). pair a x ∷ y) none ∙ ap (λ (y : ℕ). pair a y ∷ []) same)
