-- the last one of a list
use Rattle.std.proofs.Common.{◌≡◌, List, [], ◌∷◌, ◌++◌, append-nil, subst}
use Rattle.std.specs.{Prelude.{Option, Some, None, IfSome}, List.AllByRecursion, Option.option_to_list}
use Rattle.shm_pool.specs.Tokens.{Its, Token, AllOf}
use Rattle.shm_pool.proofs.Ends.{of_front, of_last}
use Rattle.shm_morgue.proofs.Gathering.{by_front, by_last}

pub token_popped : (p : Its) (xs : List Token) (r : Option Token) → AllOf p (xs ++ option_to_list r) → AllOf p xs × IfSome r (λ t. t.of ≡ p)
token_popped p xs None a = (subst (AllOf p) (append-nil xs) a, tt)
token_popped p xs (Some t) a = (of_front p xs (t ∷ []) a, of_last p xs t a)

pub one_popped : {X : Type 0} (P : X → Type 0) (xs : List X) (r : Option X) → AllByRecursion P (xs ++ option_to_list r) → AllByRecursion P xs × IfSome r P
one_popped P xs None a = (subst (AllByRecursion P) (append-nil xs) a, tt)
one_popped P xs (Some x) a = (by_front P xs x a, by_last P xs x a)
