-- the words of an identity that no count step changes
use Rattle.std.specs.Prelude.{ℕ, Bool, true, not, ◌==◌}
use Rattle.shm_graph.specs.declared.spot.Spot.{Spot, TheVariants.{Redo, RedoMore, Era}}

-- not the own redo record, and no word of the own row
abbrev pub is_lasting : ℕ → Spot → Bool
is_lasting c (Redo d) = not (c == d)
is_lasting c (RedoMore d) = not (c == d)
is_lasting c (Era i j) = not (c == i)
is_lasting c p = true
