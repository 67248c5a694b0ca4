-- The one spelling of a script: lines that each end with a line feed, words parted by one blank, numbers in decimal.
use Rattle.std.specs.Prelude.{◌≡◌, ℕ, ◌^◌, ◌<◌, ◌≤◌, List, [], ◌++◌, length, Option, Some, None, codes, IfSome}
use Rattle.std.specs.List.{AllByRecursion, flat_map}
use Rattle.shm_script.specs.Text.{ended, spaced}
use Rattle.shm_tree.specs.declared.line.TreeLine.{TreeLine, TheVariants.{Set, Del, Get, Copy, Clear}}
use Rattle.shm_tree.specs.Scripts.{TreeScripted}

abbrev pub line_spelled : TreeLine → List ℕ
line_spelled (Set a b k n) = codes "set" ++ spaced a ++ (spaced b ++ (spaced k ++ spaced n))
line_spelled (Del a b k) = codes "del" ++ spaced a ++ (spaced b ++ spaced k)
line_spelled (Get a k) = codes "get" ++ spaced a ++ spaced k
line_spelled (Copy a b) = codes "copy" ++ spaced a ++ spaced b
line_spelled (Clear a) = codes "clear" ++ spaced a

abbrev pub line_ended : TreeLine → List ℕ
line_ended line = ended (line_spelled line)

abbrev pub life_spelled : Option ℕ → List ℕ
life_spelled None = []
life_spelled (Some n) = ended (codes "life" ++ spaced n)

abbrev pub text_of : TreeScripted → List ℕ
text_of s = ended (codes "tree" ++ spaced s.segments) ++ (life_spelled s.life ++ flat_map line_ended s.lines)

-- registers are below 12, keys have 32 bits and numbers 64
abbrev pub LineFits : TreeLine → Type 0
LineFits (Set a b k n) = (a < 12) × (b < 12) × (k < 2 ^ 32) × (n < 2 ^ 64)
LineFits (Del a b k) = (a < 12) × (b < 12) × (k < 2 ^ 32)
LineFits (Get a k) = (a < 12) × (k < 2 ^ 32)
LineFits (Copy a b) = (a < 12) × (b < 12)
LineFits (Clear a) = a < 12

-- a script in its ranges: 1 to 256 segments, a life of 1 to 2^40
pub record IsScript (s : TreeScripted) : Type 0 where
  pub some : 1 ≤ s.segments
  pub few : s.segments ≤ 256
  pub life : IfSome s.life (λ n. (1 ≤ n) × (n ≤ 2 ^ 40))
  pub lines : AllByRecursion LineFits s.lines

-- bytes are the one spelling of a script, and at most 1,048,576
abbrev pub SpellsScript : List ℕ → TreeScripted → Type 0
SpellsScript bytes s = IsScript s × (bytes ≡ text_of s) × (length bytes ≤ 1048576)
