-- texts that are added to a text, one after the other
use Rattle.std.proofs.Common.{◌≡◌, ℕ, List, ◌++◌, ap, ◌∙◌, append_assoc}

-- two
pub pushed_two : (t0 a b t1 t2 : List ℕ) → t1 ≡ t0 ++ a → t2 ≡ t1 ++ b → t2 ≡ t0 ++ (a ++ b)
pushed_two t0 a b t1 t2 e1 e2 = e2 ∙ ap (λ t. t ++ b) e1 ∙ append_assoc t0 a b

-- three
pub pushed_three : (t0 a b c t1 t2 t3 : List ℕ) → t1 ≡ t0 ++ a → t2 ≡ t1 ++ b → t3 ≡ t2 ++ c → t3 ≡ t0 ++ (a ++ b ++ c)
pushed_three t0 a b c t1 t2 t3 e1 e2 e3 = pushed_two t0 (a ++ b) c t2 t3 (pushed_two t0 a b t1 t2 e1 e2) e3
