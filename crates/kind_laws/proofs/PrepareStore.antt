-- the store of a word of a free block that is prepared keeps the invariant, and leaves the graph
use Rattle.std.proofs.Math.Path.{fun_ext}
use Rattle.std.proofs.Common.{◌≡◌, ◌≢◌, ℕ, ◌+◌, ◌^◌, ◌<◌, refl, sym, ap, ◌∙◌, arith, true, false, not, subst, List, [], Option, Some, None}
use Rattle.std.proofs.lemmas.{List.Elements.{All-nil, All-cons, All-weaker}, Bool.{true≢false, false_from_ne_true}}
use Rattle.std.specs.List.{All, filter}
use Rattle.shm_words.specs.{Tags.{tag_shape, tag_limit}, declared.geometry.Geometry.Geometry, Headers.header_of}
use Rattle.shm_words.proofs.Words.{live_not_zero}
use Rattle.shm_graph.specs.declared.spot.Spot.{Spot}
use Rattle.shm_graph.specs.declared.spot.Spot.TheVariants.{Spare, Status, Redo, RedoMore, Hold, Latch, Home, Era, Root, Tail, QueueHead, Slot, Segment, Page, Unused, Head, Tag, Body}
use Rattle.shm_graph.specs.declared.memo.{Making.Making, Stored.Stored}
use Rattle.shm_graph.specs.{Spots.{IsAt, same_spot, upd, class_at, segment_of}, Views.{View, at1}}
use Rattle.shm_graph.specs.{Events.{Nothing, graph_of, Happens}, Held.{HeldAt, InBlock, MakingTie}, Reach.not_at}
use Rattle.shm_graph.specs.Blocks.{classes}
use Rattle.shm_graph.proofs.{Spots.{Spotting.same_spot_is, Updating.upd_here}, Memos.Frames.{at1_all, at1_same}}
use Rattle.kind_laws.proofs.{Lists.All-kept, Owns.{small_stored, there_stored}}
use Rattle.kind_laws.proofs.BlockWords.{with_blocks, blocks_view, BlocksMay, Old, New, known_live, pair_kept, blocks_kept, blocks_quiet}
use Rattle.kind_laws.proofs.Readings.{bodies, tags}
use Rattle.kind_laws.specs.Preparing.{IsOf, IsMaking, words_with, PrepareNeeds, prepare_view}

module _ (g : Geometry) (w : Spot → ℕ) (v : View) (c b k : ℕ) (p : Spot) (x : ℕ) (h : HeldAt g w v) (a : PrepareNeeds g w v c b k p x) where
  -- the words of blocks after the store
  abbrev tag : ℕ → ℕ
  tag = λ d. upd w p x (Tag d)

  abbrev body : ℕ → ℕ → ℕ
  body = λ d i. upd w p x (Body d i)

  abbrev made : Making
  made = record { block = b; class = k; words = words_with p x (v.making c) }

  -- a word that is none of the block's stays
  off : (q : Spot) → (IsOf b k q → ⊥) → upd w p x q ≡ w q
  off q n = let y : same_spot p q ≡ false = false_from_ne_true _ (λ e. n (subst (IsOf b k) (same_spot_is p q e) a.word)) in rw y refl

  off_tag : (d : ℕ) → d ≢ b → tag d ≡ w (Tag d)
  off_tag d n = off (Tag d) n

  off_body : (d i : ℕ) → d ≢ b → body d i ≡ w (Body d i)
  off_body d i n = off (Body d i) (λ o. n o.0)

  -- a live block is another
  live_other : (d : ℕ) → (header_of (w (Head d))).live ≡ true → d ≢ b
  live_other d l z = live_not_zero (w (Head d)) l (ap (λ i. w (Head i)) z ∙ a.free)

  may : BlocksMay g w c tag body
  may =
      record {
        small_tag = λ d. small_stored w p x (2 ^ 64) a.small h.small (Tag d);
        small_body = λ d i. small_stored w p x (2 ^ 64) a.small h.small (Body d i);
        tag_there = λ d. there_stored (IsAt g (classes w)) w p x a.place h.there (Tag d);
        body_there = λ d i. there_stored (IsAt g (classes w)) w p x a.place h.there (Body d i);
        shape = λ d l. ap (tag_shape g.wide) (off_tag d (live_other d l));
        size = λ d l. subst (λ z. z < tag_limit g.wide) (sym (off_tag d (live_other d l))) (h.blocks.tagged d l).small;
        same = λ d l n. off_tag d (live_other d l);
        inner = λ d i l. off_body d i (live_other d l);
      }

  abbrev Ties : (ℕ → ℕ) → (ℕ → ℕ → ℕ) → ℕ → Option Making → Type 0
  Ties tag body d m = MakingTie g (classes w) (λ s. w (Segment s)) (λ i. w (Head i)) tag body d m

  -- the block that another identity prepares is in another segment
  other : (d : ℕ) (m : Option Making) → c ≢ d → Ties (tags w) (bodies w) d m → Ties tag body d m
  other d None n y = tt
  other d (Some m) n y = record { free = y.free; block = y.block; mine = y.mine; sized = y.sized; stored = All-weaker _ _ (λ s. stored s.spot s.value) m.words y.stored }
    where
      apart : m.block ≢ b
      apart z = let q : d + 1 ≡ c + 1 = sym y.mine ∙ (ap (λ i. w (Segment (segment_of g i))) z ∙ a.mine) in n (omega arith)

      stored : (q : Spot) (z : ℕ) → InBlock (tags w) (bodies w) m.block m.class q z → InBlock tag body m.block m.class q z
      stored (Tag e) z u = (u.0, off_tag e (λ o. apart (sym u.0 ∙ o)) ∙ u.1)
      stored (Body e j) z u = (u.0, u.1, off_body e j (λ o. apart (sym u.0 ∙ o)) ∙ u.2)
      stored _ z u = absurd u

  -- the word that is stored
  new : (q : Spot) → IsOf b k q → upd w p x q ≡ x → InBlock tag body b k q x
  new (Tag d) o e = (o, e)
  new (Body d i) o e = (o.0, o.1, e)
  new _ o e = absurd o

  -- the words that were stored before
  stays : (q : Spot) → not (same_spot p q) ≡ true → upd w p x q ≡ w q
  stays q n = let y : same_spot p q ≡ false = false_from_ne_true _ (λ e. true≢false (sym n ∙ ap not e)) in rw y refl

  older : (q : Spot) (z : ℕ) → not (same_spot p q) ≡ true → InBlock (tags w) (bodies w) b k q z → InBlock tag body b k q z
  older (Tag d) z n u = (u.0, stays (Tag d) n ∙ u.1)
  older (Body d i) z n u = (u.0, u.1, stays (Body d i) n ∙ u.2)
  older _ z n u = absurd u

  stored : (m : Option Making) → IsMaking b m → Ties (tags w) (bodies w) c m → All (λ (s : Stored). InBlock tag body b k s.spot s.value) (words_with p x m)
  stored None i y = All-cons (λ (s : Stored). InBlock tag body b k s.spot s.value) (record { spot = p; value = x }) [] (new p a.word (upd_here w p x)) (All-nil (λ (s : Stored). InBlock tag body b k s.spot s.value))
  stored (Some m) i y = All-cons (λ (s : Stored). InBlock tag body b k s.spot s.value) (record { spot = p; value = x }) (filter (not_at p) m.words) (new p a.word (upd_here w p x))
      (All-kept (λ (s : Stored). InBlock (tags w) (bodies w) m.block m.class s.spot s.value) (λ (s : Stored). InBlock tag body b k s.spot s.value) (not_at p)
      (λ s n u. older s.spot s.value n (subst (λ z. InBlock (tags w) (bodies w) z k s.spot s.value) i (subst (λ z. InBlock (tags w) (bodies w) m.block z s.spot s.value) sized u))) m.words y.stored)
    where
      sized : m.class ≡ k
      sized = sym y.sized ∙ (ap (class_at g (classes w)) i ∙ a.sized)

  makes : (d : ℕ) → d < g.clients → Ties tag body d (at1 v.making c (Some made) d)
  makes d = at1_all (λ (j : ℕ) (m : Option Making). j < g.clients → Ties tag body j m) v.making c (Some made) d
      (λ l. record { free = a.free; block = a.block; mine = a.mine; sized = a.sized; stored = stored (v.making c) a.making (h.making c l) })
      (λ n l. other d (v.making d) n (h.making d l))

  knows : All (λ (s : Stored). New g w v c tag body h may c s.spot s.value) (v.known c)
  knows = All-weaker (λ (s : Stored). Old g w v c tag body h may c s.spot s.value) (λ (s : Stored). New g w v c tag body h may c s.spot s.value)
      (λ s. pair_kept g w v c tag body h may c a.inside s.spot s.value (λ e _ y. off_tag e (live_other e (known_live g w v c tag body h may c e a.inside y)))) (v.known c) (h.known c a.inside)

  words : with_blocks w tag body ≡ upd w p x
  words = fun_ext go
    where
      go : (q : Spot) → with_blocks w tag body q ≡ upd w p x q
      go (Tag d) = refl
      go (Body d i) = refl
      go Spare = sym (off Spare (λ o. o))
      go (Status d) = sym (off (Status d) (λ o. o))
      go (Redo d) = sym (off (Redo d) (λ o. o))
      go (RedoMore d) = sym (off (RedoMore d) (λ o. o))
      go (Hold d) = sym (off (Hold d) (λ o. o))
      go (Latch d) = sym (off (Latch d) (λ o. o))
      go (Home d) = sym (off (Home d) (λ o. o))
      go (Era i j) = sym (off (Era i j) (λ o. o))
      go (Root d l) = sym (off (Root d l) (λ o. o))
      go (Tail s r) = sym (off (Tail s r) (λ o. o))
      go (QueueHead s r) = sym (off (QueueHead s r) (λ o. o))
      go (Slot s r i) = sym (off (Slot s r i) (λ o. o))
      go (Segment s) = sym (off (Segment s) (λ o. o))
      go (Page s q) = sym (off (Page s q) (λ o. o))
      go (Unused s) = sym (off (Unused s) (λ o. o))
      go (Head d) = sym (off (Head d) (λ o. o))

  views : blocks_view v c (Some made) (v.known c) ≡ prepare_view v c b k p x
  views = ap (λ (f : ℕ → List Stored). record (prepare_view v c b k p x) { known = f }) (at1_same v.known c (v.known c) refl)

  -- the invariant stays
  pub prepare_kept : HeldAt g (upd w p x) (prepare_view v c b k p x)
  prepare_kept = subst (λ u. HeldAt g (upd w p x) u) views (subst (λ u. HeldAt g u (blocks_view v c (Some made) (v.known c))) words (blocks_kept g w v c tag body h may (Some made) (v.known c) a.inside a.acts a.here makes knows))

  -- the graph stays
  pub prepare_quiet : Happens g w Nothing (graph_of g w v) (graph_of g (upd w p x) (prepare_view v c b k p x))
  prepare_quiet = subst (λ u. Happens g w Nothing (graph_of g w v) (graph_of g (upd w p x) u)) views (subst (λ u. Happens g w Nothing (graph_of g w v) (graph_of g u (blocks_view v c (Some made) (v.known c)))) words (blocks_quiet g w v c tag body h may (Some made) (v.known c)))
