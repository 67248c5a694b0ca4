-- a part that leaves what it asked, besides what it leaves: what is proved of it
use Rattle.std.proofs.Common.{◌≡◌, ℕ, Bool, ap, ◌∙◌, [], ◌∷◌, ◌++◌}
use Rattle.shm_graph.specs.{declared.ask.Ask.Ask, Asks.{Trail, pair}, Laws.Control, Trails.{Answers, Asked}}
use Rattle.plans.specs.Parts.{Part, PartLaws}
use Rattle.shm_ref.specs.AskedParts.{asked_part}

pub asked_part_laws : {S A : Type 0} (first : Bool) (k : Control S A) (p : Part S A) → PartLaws first k p → PartLaws first k (asked_part p)
asked_part_laws first k p l =
    record {
      placed = l.placed;
      tells = l.tells;
      begins = l.begins;
      ends = λ m rs r t a n g held same. (l.ends m rs r t a n g held same, l.asked m rs r t a n g);
      asked = l.asked;
    }

-- one word step asks one pair
pub one_pair : (a : Ask) (t : Trail) (n : ℕ) → Asked a (λ x. Answers x) t n → t ≡ pair a n ∷ []
one_pair a t n (x, (rest, (e, (none, same)))) = e ∙ (ap (λ (y : Trail). pair a x ∷ y) none ∙ ap (λ (y : ℕ). pair a y ∷ []) same)

-- one pair more
pub one_more : (a : Ask) (n x : ℕ) (tr u t : Trail) → tr ≡ u → n ≡ x → Asked a (λ y. Answers y) t n → tr ++ t ≡ u ++ pair a x ∷ []
one_more a n x tr u t before same asked = ap (λ (y : Trail). y ++ t) before ∙ (ap (λ (y : Trail). u ++ y) (one_pair a t n asked) ∙ ap (λ (y : ℕ). u ++ pair a y ∷ []) same)
