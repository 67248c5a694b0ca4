-- The one spelling of a trace: lines that each end with a line feed, words parted by one blank, numbers in decimal.
use Rattle.std.specs.{Prelude.{ℕ, zero, suc, Bool, true, false, List, [], ◌∷◌, ◌++◌, codes}, Fmt.decimal, List.flat_map}
use Rattle.shm_script.specs.declared.line.{Line.{Line, TheVariants.{Put, Del, Get, Copy, Send, Recv}}, Item.Item}
use Rattle.shm_script.specs.{declared.log.Answer.Answer, Values.{Scripted, Traced}}
use Rattle.shm_script.specs.declared.log.Answer.TheVariants as answers

-- a blank and a number
abbrev pub spaced : ℕ → List ℕ
spaced n = 32 ∷ decimal n

-- a line: a text and a line feed
abbrev pub ended : List ℕ → List ℕ
ended text = text ++ 10 ∷ []

-- a command
abbrev pub line_spelled : Line → List ℕ
line_spelled (Put key number) = codes "put" ++ spaced key ++ spaced number
line_spelled (Del key) = codes "del" ++ spaced key
line_spelled (Get author key) = codes "get" ++ spaced author ++ spaced key
line_spelled (Copy key author other) = codes "copy" ++ spaced key ++ spaced author ++ spaced other
line_spelled (Send to key) = codes "send" ++ spaced to ++ spaced key
line_spelled (Recv from key) = codes "recv" ++ spaced from ++ spaced key

-- the turns of an item, behind a colon; none for 0
abbrev pub turns_spelled : ℕ → List ℕ
turns_spelled zero = []
turns_spelled (suc n) = 58 ∷ decimal (suc n)

-- a blank and an item
abbrev pub item_spelled : Item → List ℕ
item_spelled item = spaced item.client ++ turns_spelled item.turns

-- the line of an order; none where it has no item
abbrev pub order_spelled : List Item → List ℕ
order_spelled [] = []
order_spelled (item ∷ items) = ended (codes "order" ++ flat_map item_spelled (item ∷ items))

-- the line of lives; none where there are none
abbrev pub life_spelled : List ℕ → List ℕ
life_spelled [] = []
life_spelled (steps ∷ life) = ended (codes "life" ++ flat_map spaced (steps ∷ life))

-- the line of a command
abbrev pub line_ended : Line → List ℕ
line_ended line = ended (line_spelled line)

-- a script: its client, its lives and its commands
abbrev pub script_spelled : Scripted → List ℕ
script_spelled s = ended (codes "client" ++ spaced s.client) ++ life_spelled s.life ++ flat_map line_ended s.lines

-- the word of a pool, of format 2 or of format 1
abbrev pub pool_word : Bool → List ℕ
pool_word true = codes "pool2"
pool_word false = codes "pool"

-- a trace: its pool, its order and its scripts
abbrev pub text_of : Traced → List ℕ
text_of t = ended (pool_word t.wide ++ spaced t.clients ++ spaced t.segments) ++ order_spelled t.order ++ flat_map script_spelled t.scripts

-- an answer
abbrev pub answer_spelled : Answer → List ℕ
answer_spelled answers.Ok = codes "ok"
answer_spelled (answers.Stored block) = codes "ok"
answer_spelled (answers.Value number block) = codes "value" ++ spaced number
answer_spelled answers.Missing = codes "missing"
answer_spelled (answers.Full segments blocks) = codes "full"
answer_spelled (answers.CountFull block count) = codes "countfull"
answer_spelled (answers.QueueFull head tail) = codes "queuefull"
answer_spelled (answers.Empty at) = codes "empty"
answer_spelled answers.RootsFull = codes "rootsfull"
answer_spelled (answers.EraSpent era) = codes "eraspent"
