-- items that are taken one after the other: what is left of the memo, and their events
use Rattle.std.proofs.Common.{◌≡◌, ◌≢◌, ℕ, ◌+◌, refl, sym, ap, ◌∙◌, subst, arith, append_assoc, append-nil, Bool, true, false, cond, eqb, ◌&&◌, List, [], ◌∷◌, ◌++◌, length, inl, inr}
use Rattle.std.proofs.lemmas.{Bool.{cases_eq, cond-false, cond-true, eq-eqb, ne_eqb}, List.length-append}
use Rattle.std.specs.Prelude.{slice_index, slice_index_or}
use Rattle.shm_graph.specs.declared.{ask.Me.Me, spot.Spot.TheVariants.{Era, QueueHead}, memo.Memo.Memo}
use Rattle.shm_graph.specs.{declared.memo.Op.TheVariants.Nothing, Core.core, Events.Event, Spots.same_spot}
use Rattle.shm_graph.specs.Views.{own_word}
use Rattle.kind_parts.proofs.Items.{put_at}
use Rattle.shm_count.specs.{Roots.rest, Tear.Events.frees}
use Rattle.shm_queue.specs.{Drain.{Drained, ItemsEvents, TakenItem, blocks_from}, Take.{Received, TakeEvents}}

-- ---- lists of items

-- one item more
blocks_more : (s : ℕ) (x : TakenItem) (xs : List TakenItem) → blocks_from s (xs ++ x ∷ []) ≡ blocks_from s xs ++ blocks_from s (x ∷ [])
blocks_more s x [] = refl
blocks_more s x (y ∷ ys) = go (eqb y.from s) (blocks_more s x ys)
  where
    go : (q : Bool) → blocks_from s (ys ++ x ∷ []) ≡ blocks_from s ys ++ blocks_from s (x ∷ [])
        → cond q (y.block ∷ blocks_from s (ys ++ x ∷ [])) (blocks_from s (ys ++ x ∷ [])) ≡ cond q (y.block ∷ blocks_from s ys) (blocks_from s ys) ++ blocks_from s (x ∷ [])
    go true h = ap (λ (bs : List ℕ). y.block ∷ bs) h
    go false h = h

-- from this sender, or from another one
blocks_here : (x : TakenItem) (xs : List TakenItem) → blocks_from x.from (xs ++ x ∷ []) ≡ blocks_from x.from xs ++ x.block ∷ []
blocks_here x xs = blocks_more x.from x xs ∙ ap (λ (bs : List ℕ). blocks_from x.from xs ++ bs) (cond-true (eqb x.from x.from) (x.block ∷ []) [] (eq-eqb x.from x.from refl))

blocks_other : (s : ℕ) (x : TakenItem) (xs : List TakenItem) → x.from ≢ s → blocks_from s (xs ++ x ∷ []) ≡ blocks_from s xs
blocks_other s x xs n = blocks_more s x xs ∙ (ap (λ (bs : List ℕ). blocks_from s xs ++ bs) (cond-false (eqb x.from s) (x.block ∷ []) [] (ne_eqb x.from s n)) ∙ append-nil (blocks_from s xs))

-- ---- events

-- the events of one item more
pub events_more : (c : ℕ) (x : TakenItem) (xs : List TakenItem) (es ds : List Event) → ItemsEvents c xs es → TakeEvents c x.from x.place x.block ds → ItemsEvents c (xs ++ x ∷ []) (es ++ ds)
events_more c x [] es ds h t = (ds, [], ap (λ (y : List Event). y ++ ds) h ∙ sym (append-nil ds), t, refl)
events_more c x (y ∷ ys) es ds (before, after, e, first, others) t =
    (before, after ++ ds, ap (λ (z : List Event). z ++ ds) e ∙ append_assoc before after ds, first, events_more c x ys after ds others t)

pub frees_append : (es fs : List Event) → frees (es ++ fs) ≡ frees es + frees fs
frees_append [] fs = omega arith
frees_append (x ∷ es) fs = let e = frees_append es fs in omega arith

-- ---- memos

-- nothing was taken yet
pub drained_none : (me : Me) (m r : Memo) → m.op ≡ Nothing → core r ≡ core m → Drained me [] m r
drained_none me m r idle same =
    record {
      rest = ap rest same ∙ ap (λ (x : Memo). rest (record m { received = x.received; untaken = x.untaken })) (sym same);
      op = ap (λ (x : Memo). x.op) same ∙ idle;
      untaken = λ s. ap (λ (x : Memo). slice_index x.untaken s) same;
      received = λ s. ap (λ (x : Memo). slice_index_or x.received s []) same ∙ sym (append-nil (slice_index_or m.received s []));
      heads = λ s. (let e = ap (λ (x : Memo). own_word x.own (QueueHead s me.who)) same in omega arith);
      own = λ p l n. ap (λ (x : Memo). own_word x.own p) same;
      rows = λ j. (let e = ap (λ (x : Memo). own_word x.own (Era me.who j)) same in omega arith);
      dying = ap (λ (x : Memo). x.dying) same;
    }

-- what leaves the core leaves it
pub drained_core : (me : Me) (items : List TakenItem) (m q r : Memo) → Drained me items m q → core r ≡ core q → Drained me items m r
drained_core me items m q r h same =
    record {
      rest = ap rest same ∙ (h.rest ∙ ap (λ (x : Memo). rest (record m { received = x.received; untaken = x.untaken })) (sym same));
      op = ap (λ (x : Memo). x.op) same ∙ h.op;
      untaken = λ s. ap (λ (x : Memo). slice_index x.untaken s) same ∙ h.untaken s;
      received = λ s. ap (λ (x : Memo). slice_index_or x.received s []) same ∙ h.received s;
      heads = λ s. ap (λ (x : Memo). own_word x.own (QueueHead s me.who)) same ∙ h.heads s;
      own = λ p l n. ap (λ (x : Memo). own_word x.own p) same ∙ h.own p l n;
      rows = λ j. (let e = ap (λ (x : Memo). own_word x.own (Era me.who j)) same in let a = h.rows j in omega arith);
      dying = ap (λ (x : Memo). x.dying) same ∙ h.dying;
    }

-- heads of two queues are two words
other_head : (s t c : ℕ) → s ≢ t → same_spot (QueueHead s c) (QueueHead t c) ≡ false
other_head s t c n = go (eqb s t) (ne_eqb s t n)
  where
    go : (q : Bool) → q ≡ false → (q && eqb c c) ≡ false
    go true e = absurd (cc)
    go false e = refl

-- one item more was taken
module _ (me : Me) (x : TakenItem) (items : List TakenItem) (m q r : Memo) (h : Drained me items m q) (g : Received me.who x.from x.place x.block q r) where
  abbrev c : ℕ
  c = me.who

  pub lane_more : (s : ℕ) → slice_index_or r.received s [] ≡ slice_index_or m.received s [] ++ blocks_from s (items ++ x ∷ [])
  lane_more s =
      ap (λ (y : Memo). slice_index_or y.received s []) g.rest
      ∙ (put_at [] q.received x.from (slice_index_or q.received x.from [] ++ x.block ∷ []) s
      ∙ elim (cases_eq x.from s) [
        | inl e ↦ cond-true _ _ _ (eq-eqb x.from s e)
            ∙ subst (λ j. slice_index_or q.received x.from [] ++ x.block ∷ [] ≡ slice_index_or m.received j [] ++ blocks_from j (items ++ x ∷ [])) e
            (ap (λ (bs : List ℕ). bs ++ x.block ∷ []) (h.received x.from)
            ∙ (append_assoc (slice_index_or m.received x.from []) (blocks_from x.from items) (x.block ∷ []) ∙ ap (λ (bs : List ℕ). slice_index_or m.received x.from [] ++ bs) (sym (blocks_here x items))))
        | inr o ↦ cond-false _ _ _ (ne_eqb x.from s o) ∙ (h.received s ∙ ap (λ (bs : List ℕ). slice_index_or m.received s [] ++ bs) (sym (blocks_other s x items o)))
      ])

  pub head_more : (s : ℕ) → own_word r.own (QueueHead s c) ≡ own_word m.own (QueueHead s c) + length (blocks_from s (items ++ x ∷ []))
  head_more s =
      elim (cases_eq x.from s) [
        | inl e ↦ subst (λ j. own_word r.own (QueueHead j c) ≡ own_word m.own (QueueHead j c) + length (blocks_from j (items ++ x ∷ []))) e
            (let a = g.head in let b = g.place in let d = h.heads x.from in let f = ap length (blocks_here x items) in let k = length-append (blocks_from x.from items) (x.block ∷ []) in omega arith)
        | inr o ↦ g.own (QueueHead s c) refl (other_head x.from s c o) ∙ (h.heads s ∙ ap (λ (bs : List ℕ). own_word m.own (QueueHead s c) + length bs) (sym (blocks_other s x items o)))
      ]

  pub drained_more : r.dying ≡ q.dying → Drained me (items ++ x ∷ []) m r
  drained_more dying =
      record {
        rest = ap (λ (y : Memo). record y { received = r.received }) g.rest ∙ ap (λ (y : Memo). record y { received = r.received; untaken = r.untaken }) h.rest;
        op = g.op;
        untaken = λ s. g.untaken s ∙ h.untaken s;
        received = lane_more;
        heads = head_more;
        own = λ p l n. g.own p l (n x.from) ∙ h.own p l n;
        rows = λ j. (let a = g.rows j in let b = h.rows j in omega arith);
        dying = dying ∙ h.dying;
      }

  -- the heads of other queues are what they were
  pub same_head : (s : ℕ) → x.from ≢ s → own_word r.own (QueueHead s c) ≡ own_word q.own (QueueHead s c)
  same_head s o = g.own (QueueHead s c) refl (other_head x.from s c o)
