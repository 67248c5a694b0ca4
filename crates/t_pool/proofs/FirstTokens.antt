-- tokens as a pool made them
use Rattle.std.proofs.Common.{◌≡◌, ℕ, zero, suc, List, [], ◌∷◌, ◌++◌, refl, ap}
use Rattle.std.specs.{Prelude.{Option, Some, None, IfSome}, Option.option_to_list}
use Rattle.shm_pool.specs.Tokens.{AllOf, Its, Token, first_tokens, token_first}
use Rattle.t_pool.specs.Clients.{AllFirst}

pub all_first : (p : Its) (c n : ℕ) → AllFirst p (first_tokens p c n)
all_first p c zero = tt
all_first p c (suc n) = (refl, all_first p (suc c) n)

pub first_front : (p : Its) (xs ys : List Token) → AllFirst p (xs ++ ys) → AllFirst p xs
first_front p [] ys a = tt
first_front p (x ∷ xs) ys a = (a.0, first_front p xs ys a.1)

first_last : (p : Its) (xs : List Token) (y : Token) → AllFirst p (xs ++ y ∷ []) → y ≡ token_first p y.account.who
first_last p [] y a = a.0
first_last p (x ∷ xs) y a = first_last p xs y a.1

pub popped : (p : Its) (xs : List Token) (o : Option Token) → AllFirst p (xs ++ option_to_list o) → IfSome o (λ t. t ≡ token_first p t.account.who)
popped p xs None a = tt
popped p xs (Some t) a = first_last p xs t a

pub of_first : (p : Its) (o : Option Token) → IfSome o (λ t. t ≡ token_first p t.account.who) → IfSome o (λ t. t.of ≡ p)
of_first p None h = tt
of_first p (Some t) h = ap (λ (y : Token). y.of) h

-- they are tokens of the pool
pub all_of : (p : Its) (xs : List Token) → AllFirst p xs → AllOf p xs
all_of p [] a = tt
all_of p (x ∷ xs) a = (ap (λ (y : Token). y.of) a.0, all_of p xs a.1)

pub of_push : (p : Its) (xs : List Token) (y : Token) → AllOf p xs → y.of ≡ p → AllOf p (xs ++ y ∷ [])
of_push p [] y a e = (e, tt)
of_push p (x ∷ xs) y a e = (a.0, of_push p xs y a.1 e)
