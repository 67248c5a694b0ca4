-- which turns a trace gives: those of its items in order, and then rounds
use Rattle.std.specs.Prelude.{◌≡◌, ◌≢◌, ℕ, zero, suc, ◌+◌, ◌<◌, ◌≤◌, ◌⊎◌, true, false, List, [], ◌∷◌, ◌++◌, replicate}
use Rattle.shm_plain.specs.Pools.{Pool}
use Rattle.shm_script.specs.{declared.line.Item.Item, Values.Traced}
use Rattle.shm_replay.specs.Turns.{answered, given, in_a_row, is_busy, is_client_busy}

-- n turns of c in a row from the pool p are those of an item without a number: before each of them the client was at work, and no more of its commands had answered; after them one more had, or the client had ended or died, or they are 100,000
pub record IsUntilAnswered (t : Traced) (p : Pool) (c n : ℕ) : Type 0 where
  pub few : n ≤ 100000
  pub going : (m : ℕ) → m < n → (answered t (in_a_row t p c m) c ≡ answered t p c) × (is_client_busy t (in_a_row t p c m) c ≡ true)
  pub last : (n ≡ 100000) ⊎ ((answered t (in_a_row t p c n) c ≡ answered t p c + 1) ⊎ (is_client_busy t (in_a_row t p c n) c ≡ false))

-- so many turns the item gives to its identity in the pool p: as many as it says, or until one more command of its client has answered
pub record IsGiven (t : Traced) (p : Pool) (i : Item) (n : ℕ) : Type 0 where
  pub counted : i.turns ≢ 0 → n ≡ i.turns
  pub bare : i.turns ≡ 0 → IsUntilAnswered t p i.client n

-- the turns of these items, one item after the other, from the pool p
abbrev pub AreOfItems : Traced → Pool → List Item → List ℕ → Type 0
AreOfItems t p [] cs = cs ≡ []
AreOfItems t p (i ∷ is) cs = (n : ℕ) × (rest : List ℕ) × (cs ≡ replicate n i.client ++ rest) × IsGiven t p i n × AreOfItems t (in_a_row t p i.client n) is rest

-- the identities from c on, n of them, in order
abbrev pub from_on : ℕ → ℕ → List ℕ
from_on c zero = []
from_on c (suc n) = c ∷ from_on (suc c) n

-- so many rounds: in each one every identity has one turn, in order
abbrev pub rounds_of : ℕ → ℕ → List ℕ
rounds_of clients zero = []
rounds_of clients (suc n) = from_on 0 clients ++ rounds_of clients n

-- The pool q comes from p by the turns of the trace: those of its items, and then rounds until no agent has anything to do
pub record IsGivenAll (t : Traced) (p q : Pool) : Type 0 where
  pub items : List ℕ
  pub ordered : AreOfItems t p t.order items
  pub rounds : ℕ
  pub turns : q ≡ given t p (items ++ rounds_of t.clients rounds)
  pub done : (c : ℕ) → is_busy t q c ≡ false
