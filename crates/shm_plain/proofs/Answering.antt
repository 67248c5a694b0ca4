-- what is said of an answer, where there is one
use Rattle.std.proofs.{Common.{◌≡◌, true, sym}, lemmas.Bool.true≢false}
use Rattle.std.specs.{Prelude.{Option, Some, None, IfSome}, Option.is_some}

pub some_map : {A : Type 0} (P Q : A → Type 0) (o : Option A) → ((a : A) → P a → Q a) → IfSome o P → IfSome o Q
some_map P Q None f h = tt
some_map P Q (Some a) f h = f a h

-- of an answer that says only that it is there
pub of_done : (P : Unit {0} → Type 0) (o : Option (Unit {0})) → is_some o ≡ true → IfSome o P → P tt
of_done P None e h = absurd (true≢false (sym e))
of_done P (Some a) e h = h
