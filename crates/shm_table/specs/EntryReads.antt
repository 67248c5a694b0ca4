-- loads of the words of an entry at which a walk along the own partition is, as parts: the walk stays there, or goes on
use Rattle.std.proofs.Common.{◌≡◌, ◌≢◌, ℕ, List, [], ◌∷◌, ◌++◌}
use Rattle.shm_graph.specs.declared.{ask.Me.Me, spot.Spot.{Spot, TheVariants.Body}, memo.Memo.Memo, table.Entry.Entry}
use Rattle.kind_parts.specs.{Reparting.{sight, IsKnown}, Walking.IsSeeking, WordParts.ReferenceLoaded}

-- ---- what is so of a walk after a load

-- word j of the entry at which a walk is was loaded: the walk is where it was, the word is known, the key word is the entry's key, and the next word of an entry of another key leads on
pub record Loaded (c key first : ℕ) (p : Spot) (b : ℕ) (xs : List Entry) (e : Entry) (ys : List Entry) (j n : ℕ) (x : Memo) : Type 0 where
  pub kept : IsSeeking c x key first p b xs (e ∷ ys)
  pub word : IsKnown (sight c x) (Body b j) n
  pub key_is : j ≡ 2 → e.key ≡ n
  pub next : j ≡ 0 → e.key ≢ key → IsSeeking c x key first (Body b 0) n (xs ++ e ∷ []) ys

-- so it is of each walk that is there
abbrev pub EntryRead : ℕ → ℕ → ℕ → ℕ → Memo → ℕ → Memo → Type 0
EntryRead c key b j m n x = (first : ℕ) (p : Spot) (xs : List Entry) (e : Entry) (ys : List Entry) → IsSeeking c m key first p b xs (e ∷ ys) → Loaded c key first p b xs e ys j n x

-- ---- as parts

-- so it is of the walk for each key
abbrev pub EntryReads : Me → ℕ → ℕ → Memo → ℕ → Memo → Type 0
EntryReads me b j r n x = ReferenceLoaded b j r n x × ((key : ℕ) → EntryRead me.who key b j r n x)
