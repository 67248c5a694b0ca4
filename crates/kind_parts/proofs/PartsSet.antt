-- the part of a memo once its step commits
use Rattle.std.proofs.{Common.{◌≡◌, ℕ, refl, true, List, false, sym, ◌∙◌}, lemmas.Bool.false≢true}
use Rattle.shm_graph.specs.declared.{spot.Spot.{TheVariants.{Body, Home}, Spot}, table.Part.TheVariants.{Loose, Table}}
use Rattle.shm_graph.specs.{declared.{table.Part.Part, memo.{Stored.Stored, Memo.Memo}}, Held.{PartTie, is_loose}}
use Rattle.shm_graph.specs.{Views.{View, targets}, Tables.contents_of, Chains.part_set, Spots.upd}
use Rattle.shm_words.specs.declared.geometry.Geometry.{Geometry}
use Rattle.kind_parts.specs.Raising.{is_read, IsReparted}
use Rattle.kind_parts.proofs.MemoCommits.{known_left}

pub loose_stays : (known : List Stored) (c home : ℕ) (p : Spot) (x : ℕ) (part : Part) → is_loose (part_set known c home p x part) ≡ is_loose part
loose_stays known c home p x Loose = refl
loose_stays known c home p x (Table chains) = refl

-- a memo without a partition, or a slot that no partition is read from: the part stays; and otherwise it is the one that the new targets hold
pub part_tie : (g : Geometry) (w : Spot → ℕ) (v : View) (c home : ℕ) (known : List Stored) (p : Spot) (x : ℕ) (part : Part) → PartTie (contents_of g.wide w (targets g w v)) c (targets g w v (Home c)) part
    → (is_read part p ≡ true → PartTie (contents_of g.wide w (upd (targets g w v) p x)) c (upd (targets g w v) p x (Home c)) (part_set known c home p x part))
    → PartTie (contents_of g.wide w (upd (targets g w v) p x)) c (upd (targets g w v) p x (Home c)) (part_set known c home p x part)
part_tie g w v c home known p x Loose old new = tt
part_tie g w v c home known (Home d) x (Table chains) old new = new refl
part_tie g w v c home known (Body b i) x (Table chains) old new = new refl
part_tie g w v c home known _ x (Table chains) old new = old

-- where the slot is read, what is known stays as it is
pub known_read : (c : ℕ) (p : Spot) (ks : List Stored) (part : Part) → is_read part p ≡ true → known_left c p ks ≡ ks
known_read c (Home d) ks (Table chains) e = refl
known_read c (Body b i) ks (Table chains) e = refl
known_read c p ks Loose e = absurd (false≢true e)
known_read c _ ks (Table chains) e = absurd (false≢true e)

-- where no partition is read from the slot, nothing has to be shown of the part
pub reparted_unread : (g : Geometry) (w : Spot → ℕ) (v : View) (c : ℕ) (m : Memo) (p : Spot) (x : ℕ) → is_read m.part p ≡ false → IsReparted g w v c m p x
reparted_unread g w v c m p x e = record { tie = λ z. absurd (false≢true (sym e ∙ z)) }
