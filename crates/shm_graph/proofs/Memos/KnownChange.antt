-- what is known and the value blocks of one identity change, and no word
use Rattle.std.proofs.Common.{◌≡◌, ℕ, ◌<◌, refl, sym, ap, ◌∙◌, subst, List, ◌∷◌, false}
use Rattle.std.proofs.lemmas.List.Elements.{All-cons, All-filter}
use Rattle.std.specs.List.{All, filter}
use Rattle.shm_words.specs.declared.geometry.Geometry.{Geometry}
use Rattle.shm_graph.specs.declared.spot.Spot.{Spot, TheVariants.{Tail, QueueHead, Slot, Tag, Body}}
use Rattle.shm_graph.specs.{declared.{memo.{Stored.Stored, Memo.Memo}, table.Part.Part}, Tables.contents_of}
use Rattle.shm_graph.specs.{Views.{View, view, at1, targets}, Held.{HeldAt, KnownAt, ValueAt, is_loose}}
use Rattle.shm_graph.specs.{Reach.{not_at, learnt}, MemoAfterRead.valued}
use Rattle.shm_graph.proofs.Memos.{Frames.at1_all, MemoParts.{changed_view, put_same, view_here}, RecallHeld.memo_held}
use Rattle.shm_graph.proofs.{States.Holders.InReach, StepKinds.Loads.choice}

-- c knows a word as it is
abbrev pub KnownHolds : Geometry → (Spot → ℕ) → View → ℕ → Stored → Type 0
KnownHolds g w v c k = KnownAt g.wide c (λ b. w (Tag b)) (λ b i. w (Body b i)) (λ s r k. w (Slot s r k)) (λ s r. w (Tail s r)) (λ s r. w (QueueHead s r)) (v.untaken c) (v.latch c) (InReach w g v c) (v.dying c) k.spot k.value

-- a value block in reach of c
abbrev pub ValueHolds : Geometry → (Spot → ℕ) → View → ℕ → ℕ → Type 0
ValueHolds g w v c = ValueAt (contents_of g.wide w (targets g w v)) (InReach w g v c)

-- other words are known, and other value blocks
pub known_held : (g : Geometry) (w : Spot → ℕ) (v : View) (c : ℕ) (ks : List Stored) (vs : List ℕ) → HeldAt g w v → All (KnownHolds g w v c) ks → All (ValueHolds g w v c) vs
    → HeldAt g w (record v { known = at1 v.known c ks; values = at1 v.values c vs })
known_held g w v c ks vs h known values =
    memo_held g w v _ h refl (record {
      making = h.making;
      slots = h.slots;
      looks = h.looks;
      known = λ d. at1_all (λ (i : ℕ) (x : List Stored). i < g.clients → All (KnownHolds g w v i) x) v.known c ks d (λ l. known) (λ n. h.known d);
      facts = h.facts;
      zeros = h.zeros;
      test = h.test;
      fresh = h.fresh;
      values = λ d. at1_all (λ (i : ℕ) (x : List ℕ). i < g.clients → All (ValueHolds g w v i) x) v.values c vs d (λ l. values) (λ n. h.values d);
      made = h.made;
    })

-- the view of a memo that knows other words and value blocks
pub known_set : (r : ℕ → Memo) (c : ℕ) (m : Memo) (ks : List Stored) (vs : List ℕ) → ◌≡◌ {A = View} (view (at1 r c (record m { known = ks; values = vs }))) (record (view (at1 r c m)) { known = at1 (view (at1 r c m)).known c ks; values = at1 (view (at1 r c m)).values c vs })
known_set r c m ks vs =
    let v : View = view (at1 r c m) in
    changed_view r c m (λ x. record x { known = ks; values = vs }) (λ x. record x { known = ks; values = vs }) (λ x. refl)
    ∙ ap (λ (u : View). record u { known = at1 v.known c ks; values = at1 v.values c vs }) (put_same v c)

-- a memo knows other words and value blocks
pub memo_known : (g : Geometry) (w : Spot → ℕ) (r : ℕ → Memo) (c : ℕ) (ks : List Stored) (vs : List ℕ) → HeldAt g w (view r) → All (KnownHolds g w (view r) c) ks → All (ValueHolds g w (view r) c) vs
    → HeldAt g w (view (at1 r c (record (r c) { known = ks; values = vs })))
memo_known g w r c ks vs h known values =
    let e = ap (λ (v : View). record v { known = at1 v.known c ks; values = at1 v.values c vs }) (view_here r c) in
    subst (HeldAt g w) (e ∙ sym (known_set r c (r c) ks vs)) (known_held g w (view r) c ks vs h known values)

-- one word more is known, in place of what was known there
pub learnt_all : (P : Stored → Type 0) (p : Spot) (x : ℕ) (ks : List Stored) → P (record { spot = p; value = x }) → All P ks → All P (learnt p x ks)
learnt_all P p x ks new old = All-cons P (record { spot = p; value = x }) (filter (not_at p) ks) new (All-filter (not_at p) P ks old)

-- in a pool for tables one value block more
pub valued_all : (P : ℕ → Type 0) (part : Part) (b : ℕ) (vs : List ℕ) → (is_loose part ≡ false → P b) → All P vs → All P (valued part b vs)
valued_all P part b vs new old = choice (All P) (is_loose part) vs (b ∷ vs) (λ e. old) (λ e. All-cons P b vs (new e) old)
