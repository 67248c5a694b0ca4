-- how memos come to leave roots: by what leaves the core, and by a step down at a root, with or without a tear-down after it
use Rattle.std.proofs.Common.{◌≡◌, ◌≢◌, ℕ, zero, suc, ◌+◌, refl, sym, ap, ◌∙◌, subst, arith, Bool, true, false, cond, eqb, ◌&&◌, List, [], ◌∷◌, ◌++◌, inl, inr}
use Rattle.std.proofs.lemmas.Bool.{and_from, cases_Bool, eq-eqb, false≢true}
use Rattle.std.specs.{Prelude.{◌==◌, ◌||◌, ◌⊎◌}, List.{Contains, filter}}
use Rattle.shm_graph.specs.declared.{ask.Me.Me, spot.Spot.{Spot, TheVariants.{Era, Home, Root}}, memo.Memo.Memo}
use Rattle.shm_graph.specs.declared.{memo.{Op.TheVariants.Nothing, Stored.Stored}, table.Part.Part}
use Rattle.shm_graph.specs.{declared.table.Part.TheVariants.{Loose, Table}, Events.Event, Asks.Trail, Chains.part_set}
use Rattle.shm_graph.specs.{Ops.{cover, Cover.On}, Spots.same_spot, MemoAfterStore.not_block, Views.own_word, Core.core}
use Rattle.shm_graph.specs.Events as event
use Rattle.shm_graph.proofs.Spots.Spotting.{same_spot_self}
use Rattle.shm_count.specs.{Lowering.StoppedAt, Proved.Lowering.without_new, Roots.{rest, root_word}}
use Rattle.shm_count.specs.{Slots.{Took, Untouched}, Tear.{Events.{Visit, Walks, frees}, TornPartly, is_outside}}
use Rattle.shm_count.specs.Tear.Memos.{Remains, is_slot_word}
use Rattle.kind_parts.proofs.Cores.{here_same}
use Rattle.shm_ref.specs.Lefts.{is_root_of, Left, MayDrop, RootEvents}

-- ---- lists

-- where no block is torn down all are outside
pub all_outside : (ds : List ℕ) → filter (is_outside []) ds ≡ ds
all_outside [] = refl
all_outside (d ∷ ds) = ap (λ y. d ∷ y) (all_outside ds)

-- ---- bits

right_false : (a b : Bool) → b ≡ false → (a && b) ≡ false
right_false true b e = e
right_false false b e = refl

each_false : (a x y : Bool) → (a && (x || y)) ≡ false → ((a && x) ≡ false) × ((a && y) ≡ false)
each_false true false y e = (refl, e)
each_false true true y e = absurd (cc)
each_false false x y e = (refl, refl)

-- ---- one step

-- nothing was done
pub left_core : (c : ℕ) (e : ℕ → Bool) (m r : Memo) → m.op ≡ Nothing → core r ≡ core m → Left c e m r
left_core c e m r idle same =
    record {
      rest = ap rest same;
      op = ap (λ (x : Memo). x.op) same ∙ idle;
      own = λ p l n. ap (λ (x : Memo). own_word x.own p) same;
      roots = λ j. inr (ap (λ (x : Memo). root_word c x j) same);
      rows = λ j. let u = ap (λ (x : Memo). own_word x.own (Era c j)) same in omega arith;
    }

-- no root but the one
other_root : (c k : ℕ) (p : Spot) → is_root_of c (λ j. k == j) p ≡ false → same_spot (Root c k) p ≡ false
other_root c k (Root d j) e = e
other_root c k _ e = refl

-- a step down emptied a root
pub left_took : (c k t : ℕ) (z : Bool) (m r : Memo) → Took c (Root c k) false t 0 z m r → Left c (λ j. k == j) m r
left_took c k t z m r h =
    record {
      rest = h.rest ∙ ap (λ (x : Part). rest (record m { part = x })) (no_part m.known c (cover (On (Root c k) 0) (Home c) (own_word m.own (Home c))) k m.part);
      op = h.op;
      own = λ p l n. h.own p l ∙ ap (λ z. cond z 0 (own_word m.own p)) (other_root c k p n);
      roots = λ j. elim (cases_Bool (eqb k j)) [
        | inl e ↦ inl (h.own (Root c j) refl ∙ ap (λ z. cond z 0 (own_word m.own (Root c j))) (and_from (eqb c c) (eqb k j) (eq-eqb c c refl) e))
        | inr e ↦ inr (h.own (Root c j) refl ∙ ap (λ z. cond z 0 (own_word m.own (Root c j))) (right_false (eqb c c) (eqb k j) e))
      ];
      rows = h.rows;
    }
  where
    no_part : (ks : List Stored) (c home k : ℕ) (part : Part) → part_set ks c home (Root c k) 0 part ≡ part
    no_part ks c home k Loose = refl
    no_part ks c home k (Table chains) = refl

-- so that it is empty
pub root_took : (c k t : ℕ) (z : Bool) (m r : Memo) → Took c (Root c k) false t 0 z m r → root_word c r k ≡ 0
root_took c k t z m r h = h.own (Root c k) refl ∙ ap (λ z. cond z 0 (own_word m.own (Root c k))) (same_spot_self (Root c k))

-- a step down was refused
pub left_untouched : (c : ℕ) (e : ℕ → Bool) (m r : Memo) → m.op ≡ Nothing → Untouched c m r → Left c e m r
left_untouched c e m r idle h = record { rest = ap rest h.rest; op = ap (λ (x : Memo). x.op) h.rest ∙ idle; own = λ p l n. h.own p l; roots = λ j. inr (h.own (Root c j) refl); rows = h.rows }

-- what stays known then
pub remains_took : (c k t : ℕ) (m r : Memo) → Took c (Root c k) false t 0 false m r → Remains c m r
remains_took c k t m r h = let s = h.sifts in record { looks = inr s.looks; slots = s.slots; words = λ b p x l o has. s.words b p x l (λ u. absurd (false≢true u)) o has; values = s.values }

pub remains_untouched : (c : ℕ) (m r : Memo) → Untouched c m r → Remains c m r
remains_untouched c m r h =
    record {
      looks = inl (ap (λ (x : Memo). x.looks) h.rest);
      slots = ap (λ (x : Memo). filter is_slot_word x.known) h.rest;
      words = λ b p x l o has. subst (λ (ks : List Stored). Contains ks (record { spot = p; value = x })) (sym (ap (λ (y : Memo). y.known) h.rest)) has;
      values = λ b l has. subst (λ (vs : List ℕ). Contains vs b) (sym (ap (λ (y : Memo). y.values) h.rest)) has;
    }

-- ---- several steps

-- no root of more roots is none of fewer
fewer_roots : (c : ℕ) (d e : ℕ → Bool) (p : Spot) → ((j : ℕ) → e j ≡ false → d j ≡ false) → is_root_of c e p ≡ false → is_root_of c d p ≡ false
fewer_roots c d e (Root i j) fewer h = go (c == i) h
  where
    go : (a : Bool) → (a && e j) ≡ false → (a && d j) ≡ false
    go true h = fewer j h
    go false h = refl
fewer_roots c d e _ fewer h = refl

-- more roots may have come to be empty
pub left_more : (c : ℕ) (d e : ℕ → Bool) (m r : Memo) → ((j : ℕ) → e j ≡ false → d j ≡ false) → Left c d m r → Left c e m r
left_more c d e m r fewer h = record { rest = h.rest; op = h.op; own = λ p l n. h.own p l (fewer_roots c d e p fewer n); roots = h.roots; rows = h.rows }

no_root_either : (c : ℕ) (d e : ℕ → Bool) (p : Spot) → is_root_of c (λ j. d j || e j) p ≡ false → (is_root_of c d p ≡ false) × (is_root_of c e p ≡ false)
no_root_either c d e (Root i j) h = each_false (c == i) (d j) (e j) h
no_root_either c d e _ h = (refl, refl)

-- one after the other
pub left_then : (c : ℕ) (d e : ℕ → Bool) (m q r : Memo) → Left c d m q → Left c e q r → Left c (λ j. d j || e j) m r
left_then c d e m q r h i =
    record {
      rest = i.rest ∙ h.rest;
      op = i.op;
      own = λ p l n. let y = no_root_either c d e p n in i.own p l y.1 ∙ h.own p l y.0;
      roots = λ j. elim (i.roots j) [ inl u ↦ inl u | inr u ↦ elim (h.roots j) [ inl x ↦ inl (u ∙ x) | inr x ↦ inr (u ∙ x) ] ];
      rows = λ j. let a = h.rows j in let b = i.rows j in omega arith;
    }

-- a root that isn't among them is what it was
pub left_root : (c : ℕ) (e : ℕ → Bool) (m r : Memo) (j : ℕ) → Left c e m r → e j ≡ false → root_word c r j ≡ root_word c m j
left_root c e m r j h n = h.own (Root c j) refl (right_false (c == c) (e j) n)

-- and an empty one is empty
pub left_empty : (c : ℕ) (e : ℕ → Bool) (m r : Memo) (j : ℕ) → Left c e m r → root_word c m j ≡ 0 → root_word c r j ≡ 0
left_empty c e m r j h z = elim (h.roots j) [ inl u ↦ u | inr u ↦ u ∙ z ]

-- nothing has changed yet
pub left_none : (c : ℕ) (e : ℕ → Bool) (m : Memo) → m.op ≡ Nothing → Left c e m m
left_none c e m idle = left_core c e m m idle refl

-- it may be gone on
pub may_still : (me : Me) (e : ℕ → Bool) (m r : Memo) → MayDrop me m → Left me.who e m r → MayDrop me r
may_still me e m r may h = record { geometry = may.geometry; who = may.who; here = here_same m r (ap (λ (x : Memo). x.status) h.rest) may.here; idle = h.op }

-- a tear-down of a block whose count came to 0 was stopped
pub stopped_at : (me : Me) (t : ℕ) (m q r : Memo) (es : List Event) (tr : Trail) (era : ℕ) (vs : List Visit) → q.dying ≡ m.dying ++ t ∷ [] → (Contains m.dying t → ⊥) → TornPartly me t q r es tr era vs → StoppedAt me m r era vs
stopped_at me t m q r es tr era vs dying counted y = record { left = y.left; others = y.others ∙ (ap (filter (not_block t)) dying ∙ without_new t m.dying counted); spent = y.last }

-- ---- events

-- how many blocks were freed
pub frees-append : (es fs : List Event) → frees (es ++ fs) ≡ frees es + frees fs
frees-append [] fs = omega arith
frees-append (x ∷ es) fs = let e = frees-append es fs in omega arith

-- of a root that named a block
pub named_events : (c k x : ℕ) (es ds : List Event) → x ≢ 0 → es ≡ event.Down c (Root c k) x ∷ ds → (ds ≡ []) ⊎ Walks c x ds [] → RootEvents c k x es
named_events c k zero es ds some e h = absurd (some refl)
named_events c k (suc x) es ds some e h = (ds, e, h)
