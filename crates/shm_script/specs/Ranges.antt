-- The ranges of a trace's numbers.
use Rattle.std.specs.Prelude.{◌≡◌, ◌≢◌, ℕ, ◌^◌, ◌<◌, ◌≤◌, Bool, true, false, List, [], ◌∷◌, ◌++◌, length, sum}
use Rattle.std.specs.List.{AllByRecursion}
use Rattle.shm_script.specs.declared.line.{Line.{Line, TheVariants.{Put, Del, Get, Copy, Send, Recv}}, Item.Item}
use Rattle.shm_script.specs.{Values.{Scripted, Traced}, Text.{line_spelled, line_ended, text_of}}

-- the numbers of a command of the client `me`: clients that there are, another one in a queue, and keys of 32 bits
abbrev pub LineFits : ℕ → ℕ → Line → Type 0
LineFits clients me (Put key number) = (key < 2 ^ 32) × (number < 2 ^ 64)
LineFits clients me (Del key) = key < 2 ^ 32
LineFits clients me (Get author key) = (author < clients) × (key < 2 ^ 32)
LineFits clients me (Copy key author other) = (key < 2 ^ 32) × (author < clients) × (other < 2 ^ 32)
LineFits clients me (Send to key) = (to < clients) × (to ≢ me) × (key < 2 ^ 32)
LineFits clients me (Recv from key) = (from < clients) × (from ≢ me) × (key < 2 ^ 32)

-- numbers of a command that are of 64 bits
abbrev pub LineSmall : Line → Type 0
LineSmall (Put key number) = (key < 2 ^ 64) × (number < 2 ^ 64)
LineSmall (Del key) = key < 2 ^ 64
LineSmall (Get author key) = (author < 2 ^ 64) × (key < 2 ^ 64)
LineSmall (Copy key author other) = (key < 2 ^ 64) × (author < 2 ^ 64) × (other < 2 ^ 64)
LineSmall (Send to key) = (to < 2 ^ 64) × (key < 2 ^ 64)
LineSmall (Recv from key) = (from < 2 ^ 64) × (key < 2 ^ 64)

-- a word and a text are a command in range and what stands behind it
abbrev pub IsCommand : ℕ → ℕ → List ℕ → List ℕ → Line → List ℕ → Type 0
IsCommand clients me word text line rest = (word ++ text ≡ line_spelled line ++ rest) × LineFits clients me line

-- a text is the line of a command in range and what stands behind it
abbrev pub IsNext : ℕ → ℕ → List ℕ → Line → List ℕ → Type 0
IsNext clients me text line rest = (text ≡ line_ended line ++ rest) × LineFits clients me line

-- an item of a client that there is, with at most 100,000 turns
abbrev pub ItemFits : ℕ → Item → Type 0
ItemFits clients item = (item.client < clients) × (item.turns ≤ 100000)

-- a number of a life line
abbrev pub IsLife : ℕ → Type 0
IsLife steps = (1 ≤ steps) × (steps ≤ 2 ^ 40)

-- a script of a client that there is, in its ranges
pub record ScriptFits (clients : ℕ) (s : Scripted) : Type 0 where
  pub client : s.client < clients
  pub life : AllByRecursion IsLife s.life
  pub sum : sum s.life ≤ 2 ^ 40
  pub lines : AllByRecursion (LineFits clients s.client) s.lines
  pub few : length s.lines < 2 ^ 32

-- no two scripts are of one client
abbrev pub AreApart : List Scripted → Type 0
AreApart [] = Unit {0}
AreApart (s ∷ ss) = AllByRecursion (λ o. o.client ≢ s.client) ss × AreApart ss

-- how many segments a pool may have, in format 2 or in format 1
abbrev pub segments_limit : Bool → ℕ
segments_limit true = 8000
segments_limit false = 256

-- a trace in the ranges of the grammar
pub record IsTrace (t : Traced) : Type 0 where
  pub some_client : 1 ≤ t.clients
  pub few_clients : t.clients ≤ 16
  pub some_segment : 1 ≤ t.segments
  pub few_segments : t.segments ≤ segments_limit t.wide
  pub few_items : length t.order ≤ 1000
  pub items : AllByRecursion (ItemFits t.clients) t.order
  pub scripts : AllByRecursion (ScriptFits t.clients) t.scripts
  pub apart : AreApart t.scripts

-- the bytes are the spelling of a trace, and at most 1,048,576
abbrev pub IsTraceText : List ℕ → Type 0
IsTraceText bytes = (length bytes ≤ 1048576) × (t : Traced) × IsTrace t × (bytes ≡ text_of t)
