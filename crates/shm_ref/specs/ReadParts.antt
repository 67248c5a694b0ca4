-- reading under a latch and in reach: when it may begin, and what a tag that was read tells
use Rattle.std.proofs.Common.{◌≡◌, ℕ, ◌+◌, ◌<◌, ◌≤◌, true, [], Some}
use Rattle.std.specs.List.{Contains}
use Rattle.shm_words.specs.{Layout.total_of, Tags.{tag_author, tag_link, tag_plain, tag_refs}}
use Rattle.shm_graph.specs.{declared.{ask.Me.Me, spot.Spot.TheVariants.{Hold, Tag}, memo.Memo.Memo}, Idle.hold_word}
use Rattle.shm_graph.specs.{Reach.{is_reached, learnt}, Telling.claims, Views.own_word}
use Rattle.shm_count.specs.Tear.Control.{tag_read}
use Rattle.shm_ref.specs.Lefts.{MayDrop}

-- ---- when reading may begin

-- no step is in progress, and the hold word names the latch that is held
pub record MayAsk (me : Me) (r : Memo) : Type 0 where
  pub may : MayDrop me r
  pub hold : own_word r.own (Hold me.who) ≡ hold_word r.latch

-- no step is in progress, and block b is in reach: so it lies in the pool
pub record MayRead (me : Me) (b : ℕ) (r : Memo) : Type 0 where
  pub may : MayDrop me r
  pub reach : is_reached me.who r b ≡ true
  pub room : b + 2 ≤ total_of me.geometry

-- ---- a tag that was read

-- the memo with the tag of a block known
abbrev pub tagged : ℕ → ℕ → Memo → Memo
tagged b x m = record m { known = learnt (Tag b) x m.known }

-- In a held state a tag that is known and in reach is one: its fields are in range, and its words lie in the pool
pub record IsTag (me : Me) (b x : ℕ) (r : Memo) : Type 0 where
  pub read : tag_read me.geometry.wide x ≡ record { refs = tag_refs me.geometry.wide x; plain = tag_plain me.geometry.wide x; author = tag_author me.geometry.wide x; link = tag_link me.geometry.wide x }
  pub told : Contains (claims me.geometry.wide me.who r) (record { block = b; refs = tag_refs me.geometry.wide x; plain = tag_plain me.geometry.wide x; author = Some (tag_author me.geometry.wide x) })
  pub author : tag_author me.geometry.wide x < me.geometry.clients
  pub above : 0 < b
  pub last : b + 1 + tag_refs me.geometry.wide x + tag_plain me.geometry.wide x < total_of me.geometry
