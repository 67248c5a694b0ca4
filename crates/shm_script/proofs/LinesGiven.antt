-- The line of an order and of lives, where there is one.
use Rattle.std.proofs.Common.{◌≡◌, ℕ, ◌<◌, List, [], ◌∷◌, ◌++◌, length, codes, refl, arith}
use Rattle.std.specs.List.{flat_map}
use Rattle.shm_script.specs.{declared.line.Item.Item, Text.{ended, item_spelled, order_spelled, life_spelled, spaced}}

pub order_some : (items : List Item) → 0 < length items → order_spelled items ≡ ended (codes "order" ++ flat_map item_spelled items)
order_some [] h = absurd (omega arith)
order_some (item ∷ items) h = refl

pub life_some : (life : List ℕ) → 0 < length life → life_spelled life ≡ ended (codes "life" ++ flat_map spaced life)
life_some [] h = absurd (omega arith)
life_some (steps ∷ life) h = refl
