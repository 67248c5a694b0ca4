-- tokens as a pool made them
use Rattle.std.specs.Prelude.{◌≡◌, List, [], ◌∷◌}
use Rattle.shm_pool.specs.Tokens.{Its, Token, token_first}

-- the tokens are as a pool made them
abbrev pub AllFirst : Its → List Token → Type 0
AllFirst p [] = Unit {0}
AllFirst p (t ∷ ts) = (t ≡ token_first p t.account.who) × AllFirst p ts
