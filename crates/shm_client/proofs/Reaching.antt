-- blocks in reach of an identity at work lie in the pool, and in one for single calls no partition is read from a home
use Rattle.std.proofs.{Common.{◌≡◌, ℕ, ◌+◌, ◌<◌, ◌≤◌, true, false, refl, sym, arith}, lemmas.Bool.true≢false}
use Rattle.shm_words.specs.Layout.{address_limit, total_of}
use Rattle.shm_words.proofs.Placing.{total_small}
use Rattle.shm_graph.specs.declared.{spot.Spot.TheVariants.Home, table.Part.{Part, TheVariants.{Loose, Table}}}
use Rattle.shm_graph.specs.{Held.is_loose, Operations.IsReady, Reach.is_reached}
use Rattle.kind_parts.specs.Raising.{is_read}
use Rattle.shm_plain.specs.{Calls.IsAtWork, Pools.{Pool, IsRun, memo_of}}
use Rattle.shm_plain.proofs.Called.{ready}
use Rattle.shm_count.specs.Roots.{member}
use Rattle.shm_ref.specs.Proved.ReadParts.{reached_room}

module _ (p : Pool) (c : ℕ) (work : IsAtWork c p) (run : IsRun p) (b : ℕ) (reach : is_reached c (memo_of p c) b ≡ true) where
  between : IsReady (member p.start.geometry c) (memo_of p c)
  between = ready p c run work (member p.start.geometry c) refl

  pub reached_whole : b + 2 ≤ total_of p.start.geometry
  reached_whole = reached_room (member p.start.geometry c) b (memo_of p c) work.who between.held reach

  pub reached_small : b < address_limit
  reached_small = let total = total_small p.start.geometry work.geometry in let room = reached_whole in omega arith

pub home_unread : (part : Part) (c : ℕ) → is_loose part ≡ true → is_read part (Home c) ≡ false
home_unread Loose c e = refl
home_unread (Table chains) c e = absurd (true≢false (sym e))
