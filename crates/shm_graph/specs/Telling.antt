-- the spot of a word as a memo tells it: no word of the pool enters
use Rattle.std.specs.Prelude.{ℕ, ◌+◌, ◌-◌, Bool, false, ◌&&◌, ◌==◌, nat_lt, if◌then◌else◌, List, [], ◌∷◌, ◌++◌, map, Option, Some, None}
use Rattle.shm_words.specs.{declared.geometry.Geometry.Geometry, Layout.place_at}
use Rattle.shm_words.specs.Tags.{tag_refs, tag_plain, tag_author}
use Rattle.shm_graph.specs.declared.{spot.Spot.{Spot, TheVariants.{Home, Unused, Head, Tag, Body}}, ask.Ask.Ask}
use Rattle.shm_graph.specs.declared.{ask.Ask.TheVariants.{Load, Store, Exchange}, memo.{Stored.Stored, Look.Look}}
use Rattle.shm_graph.specs.{declared.memo.{Making.Making, Memo.Memo}, Spots.{spot_of, spot_address}, Asks.at_of}
use Rattle.shm_graph.specs.{Ops.{Cover, Quiet, On, cover_of}, Held.is_loose, Reach.{reached_blocks, is_dying}}

-- ---- blocks and their words

-- a block and what the memo tells of its shape; of a block of which nothing is told only the place of the tag is known
pub record Claim : Type 0 where
  pub block : ℕ
  pub refs : ℕ
  pub plain : ℕ
  pub author : Option ℕ

abbrev pub bare : ℕ → Claim
bare b = record { block = b; refs = 0; plain = 0; author = None }

abbrev pub tag_claim : Bool → Spot → ℕ → List Claim
tag_claim wide (Tag b) x = record { block = b; refs = tag_refs wide x; plain = tag_plain wide x; author = Some (tag_author wide x) } ∷ []
tag_claim wide p x = []

-- the blocks whose tags are known
abbrev pub tag_claims : Bool → List Stored → List Claim
tag_claims wide [] = []
tag_claims wide (s ∷ ss) = tag_claim wide s.spot s.value ++ tag_claims wide ss

-- ---- what was read of a table

-- what a block is in a pool for tables
pub data Role : Type 0 where
  Directory : Role
  Entry : Role
  Value : Role
  Other : Role

-- what word i of a block names
abbrev pub role_read : Role → ℕ → Role
role_read Directory i = Entry
role_read Entry i = if i == 0 then Entry else if i == 1 then Value else Other
role_read r i = Other

pub record Played : Type 0 where
  pub block : ℕ
  pub role : Role

abbrev pub role_in : List Played → ℕ → Role
role_in [] b = Other
role_in (p ∷ ps) b = if p.block == b then p.role else role_in ps b

abbrev pub role_from : List Played → Spot → Role
role_from ps (Home a) = Directory
role_from ps (Body b i) = role_read (role_in ps b) i
role_from ps p = Other

-- the roles of the blocks that were read, where those before have these
abbrev pub roles_from : List Played → List Look → List Played
roles_from ps [] = ps
roles_from ps (k ∷ ks) = roles_from (record { block = k.block; role = role_from ps k.from } ∷ ps) ks

abbrev pub roles : Memo → List Played
roles m = if is_loose m.part then [] else roles_from [] m.looks

-- in a pool for tables a directory has 16 references, an entry 2 and a plain word, and a value a plain word
abbrev pub shaped : Option ℕ → ℕ → Role → Claim
shaped a b Directory = record { block = b; refs = 16; plain = 0; author = a }
shaped a b Entry = record { block = b; refs = 2; plain = 1; author = a }
shaped a b Value = record { block = b; refs = 0; plain = 1; author = None }
shaped a b Other = bare b

abbrev pub role_claim : Option ℕ → Played → Claim
role_claim a p = shaped a p.block p.role

-- ---- the spot of a word in a body

-- what the memo tells of blocks, what tells most first
abbrev pub claims : Bool → ℕ → Memo → List Claim
claims wide c m = tag_claims wide m.known ++ map (role_claim m.latch) (roles m) ++ map (λ b. shaped None b Value) m.values ++ map bare (reached_blocks c m ++ m.dying)

-- the word is one after the header of this block
abbrev pub covers : ℕ → Claim → Bool
covers at k = nat_lt k.block at && nat_lt at (k.block + 2 + k.refs + k.plain)

abbrev pub claim_in : ℕ → List Claim → Option Claim
claim_in at [] = None
claim_in at (k ∷ ks) = if covers at k then Some k else claim_in at ks

abbrev pub claim_of : Bool → ℕ → Memo → ℕ → Option Claim
claim_of wide c m at = claim_in at (claims wide c m)

-- the spot of a word after the header of a block
abbrev pub word_of_block : ℕ → ℕ → Spot
word_of_block b at = if at == b + 1 then Tag b else Body b (at - (b + 2))

abbrev pub spot_claimed : ℕ → Option Claim → Spot
spot_claimed at None = Head at
spot_claimed at (Some k) = word_of_block k.block at

-- the spot outside bodies, and otherwise the other one
abbrev pub outside_or : Spot → Spot → Spot
outside_or (Unused a) q = q
outside_or p q = p

abbrev pub fixed_spot : Geometry → ℕ → Spot
fixed_spot g at = spot_of (λ s q. 0) at (place_at g at)

-- the spot of a word that is read: in bodies a word of the block that is known there, or a header
abbrev pub word_told : Geometry → ℕ → Memo → ℕ → Spot
word_told g c m at = outside_or (fixed_spot g at) (spot_claimed at (claim_of g.wide c m at))

abbrev pub is_slot_at : Geometry → Cover → ℕ → Bool
is_slot_at g Quiet at = false
is_slot_at g (On p x) at = spot_address g p == at

abbrev pub slot_in : Cover → Spot
slot_in Quiet = Unused 0
slot_in (On p x) = p

abbrev pub prepared : Option Making → ℕ → Spot
prepared None at = Tag (at - 1)
prepared (Some k) at = word_of_block k.block at

-- the spot of a word of a body that is stored: the slot of the committed step, the header or the tag of a zero-count block, or a word of the block that is prepared
abbrev pub stored_told : Geometry → Memo → ℕ → ℕ → Spot
stored_told g m at v =
    if is_slot_at g (cover_of m.op) at then slot_in (cover_of m.op)
    else if (v == 0) && is_dying m at then Head at
    else if is_dying m (at - 1) then Tag (at - 1)
    else prepared m.making at

abbrev pub body_told : Geometry → ℕ → Memo → Ask → Spot
body_told g c m (Load at) = spot_claimed at (claim_of g.wide c m at)
body_told g c m (Store at v) = stored_told g m at v
body_told g c m (Exchange at from to) = Head at

-- the spot that is asked for
abbrev pub spot_told : Geometry → ℕ → Memo → Ask → Spot
spot_told g c m a = outside_or (fixed_spot g (at_of a)) (body_told g c m a)
