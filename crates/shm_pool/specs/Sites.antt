-- the words that threads share as a site: what a word step asks of the seat that makes it, and what it leaves
use Rattle.std.specs.Prelude.{◌≡◌, ℕ, ◌<◌, List, [], ◌∷◌}
use Rattle.atomic_table.specs.{Table.Allows, Seated.TableId, declared.shared.Seat.Seat}
use Rattle.shm_graph.specs.declared.{run.{Start.Start, Account.Account}, ask.Ask.Ask}
use Rattle.shm_graph.specs.declared.{ask.Ask.TheVariants.{Load, Store, Exchange}, memo.Seen.Seen}
use Rattle.shm_graph.specs.Asks.{at_of, seen_of, word_after}
use Rattle.shm_pool.specs.Rules.{Rule, head_account}

-- the word of the last pair of a trail, and n where it has none
abbrev pub last_of : ℕ → List Seen → ℕ
last_of n [] = n
last_of n (s ∷ tr) = last_of s.word tr

-- the word that the first identity of a view was given last
abbrev pub given_last : List Account → ℕ
given_last rs = last_of 0 (head_account rs).memo.call

-- the same of a seat
abbrev pub last_word : Seat (Unit {0}) (List Account) → ℕ
last_word e = given_last e.me.0

-- the number that a word step on a word that was n tells of: at a store the number stored
abbrev pub told_of : Ask → ℕ → ℕ
told_of (Load at) n = n
told_of (Store at value) n = value
told_of (Exchange at from to) n = n

-- the seat may make this word step on the table: whatever the table is, the rule holds after it with an account of which `says` holds, and that account tells the word that is given
pub record MayMake (s : Start) (t : TableId) (says : List Account → ℕ → List Account → Type 0) (e : Seat (Unit {0}) (List Account)) (a : Ask) : Type 0 where
  pub table : e.table_id ≡ t
  pub here : at_of a < t.words
  pub spare : e.me.1 ≡ []
  pub allowed : Allows (λ z. Rule s z.words z.views) t.slots e.id e.me (at_of a) (word_after a) (λ n w. says e.me.0 (told_of a n) w.0 × (w.1 ≡ e.me.1))
  pub given : (n : ℕ) (now : List Account) → says e.me.0 (told_of a n) now → given_last now ≡ seen_of a n

-- the seat made a word step, and its account is one of which `says` holds
pub record Made (says : List Account → ℕ → List Account → Type 0) (e e' : Seat (Unit {0}) (List Account)) : Type 0 where
  pub table : e'.table_id ≡ e.table_id
  pub id : e'.id ≡ e.id
  pub spare : e'.me.1 ≡ []
  pub told : (n : ℕ) × says e.me.0 n e'.me.0
