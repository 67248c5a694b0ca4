-- clients of a pool for single calls that have a block
use Rattle.std.specs.Prelude.{◌≡◌, ◌≢◌, ◌<◌, ℕ, Option, true, false}
use Rattle.shm_graph.specs.Held.{is_loose}
use Rattle.shm_count.specs.{declared.answer.Made.Made, Roots.root_word}
use Rattle.shm_pool.specs.{Called.Rests, Tokens.Acting}

-- no call of the client has died; it is between two calls, in a pool for single calls, and holds this latch or none
pub record IsAtRest (held : Option ℕ) (t : Acting) : Type 0 where
  pub alive : t.dead ≡ false
  pub rests : Rests t
  pub single : is_loose t.account.memo.part ≡ true
  pub latch : t.account.memo.latch ≡ held

-- the same, and a root of it names the block
pub record HasBlock (held : Option ℕ) (x : Made) (t : Acting) : Type 0 where
  pub at : IsAtRest held t
  pub low : x.root < 16
  pub some : x.block ≢ 0
  pub named : root_word t.account.who t.account.memo x.root ≡ x.block
