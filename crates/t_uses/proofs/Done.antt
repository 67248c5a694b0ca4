-- answers that a caller passes on with a reason of its own: what holds where the call was done holds where the caller was
use Rattle.std.proofs.{Common.{◌≡◌, Option, None, Some, Result, Ok, Err, refl}, lemmas.Bool.true≢false}
use Rattle.std.specs.{Prelude.IfOk, Option.is_some, Result.is_ok}

-- a refusal got another name
pub renamed : {T E D Q : Type 0} (a : Result T E) (r : Result T D) → is_ok r ≡ is_ok a → ((t : T) → a ≡ Ok t → Q) → IfOk r (λ u. Q)
renamed (Ok t) (Ok u) e f = f t refl
renamed (Ok t) (Err y) e f = tt
renamed (Err x) (Ok u) e f = absurd (true≢false e)
renamed (Err x) (Err y) e f = tt

-- no answer became a refusal
pub answered : {A D Q : Type 0} (o : Option A) (r : Result A D) → is_ok r ≡ is_some o → ((a : A) → o ≡ Some a → Q) → IfOk r (λ u. Q)
answered (Some a) (Ok u) e f = f a refl
answered (Some a) (Err y) e f = tt
answered None (Ok u) e f = absurd (true≢false e)
answered None (Err y) e f = tt
