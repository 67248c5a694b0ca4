-- the store of the link of a dying block keeps the invariant, and leaves the graph
use Rattle.std.proofs.Math.Path.{fun_ext}
use Rattle.std.proofs.Common.{◌≡◌, ◌≢◌, ℕ, ◌^◌, ◌<◌, refl, sym, ap, ◌∙◌, arith, true, not, subst, inl, List, ◌∷◌, Option, Some, None}
use Rattle.std.proofs.lemmas.{List.Elements.{All-cons, All-weaker}, Bool.{eq-eqb, true≢false}}
use Rattle.std.specs.List.{All, filter}
use Rattle.shm_words.specs.{Tags.{tag_shape, tag_limit}, declared.geometry.Geometry.Geometry, Headers.header_of}
use Rattle.shm_words.proofs.Words.{live_not_zero, tag_limit_small}
use Rattle.shm_graph.specs.declared.{spot.Spot.{Spot, TheVariants.{Segment, Page, Head, Tag, Body}}, memo.Making.Making}
use Rattle.shm_graph.specs.{declared.memo.Stored.Stored, Spots.{IsAt, same_spot, upd}, Views.{View, at1}}
use Rattle.shm_graph.specs.{Events.{Nothing, graph_of, Happens}, Held.{HeldAt, IsDying, InBlock, MakingTie}}
use Rattle.shm_graph.specs.Reach.{not_at}
use Rattle.shm_graph.proofs.{Runs.Lists.{at1_here, at1_other}, Memos.Frames.{at1_all, at1_same}}
use Rattle.kind_laws.proofs.Lists.{All-kept}
use Rattle.kind_laws.proofs.BlockWords.{with_blocks, blocks_view, BlocksMay, Old, New, pair_kept, blocks_kept, blocks_quiet}
use Rattle.kind_laws.proofs.Readings.{bodies, tags}
use Rattle.kind_laws.specs.Preparing.{LinkNeeds, link_view}

module _ (g : Geometry) (w : Spot → ℕ) (v : View) (c b x : ℕ) (h : HeldAt g w v) (a : LinkNeeds g w v c b x) where
  -- the tags after the store
  abbrev tag : ℕ → ℕ
  tag = at1 (tags w) b x

  abbrev kept : List Stored
  kept = record { spot = Tag b; value = x } ∷ filter (not_at (Tag b)) (v.known c)

  dying : IsDying (header_of (w (Head b))) c
  dying = (h.dying c a.inside).listed b a.dying

  may : BlocksMay g w c tag (bodies w)
  may =
      record {
        small_tag = λ d. at1_all (λ (j y : ℕ). y < 2 ^ 64) (tags w) b x d (let s = a.small in let m = tag_limit_small g.wide in omega arith) (λ _. h.small (Tag d));
        small_body = λ d i. h.small (Body d i);
        tag_there = λ d. at1_all (λ (j y : ℕ). y ≢ 0 → IsAt g (λ s q. w (Page s q)) (Tag j)) (tags w) b x d (λ _. a.place) (λ _. h.there (Tag d));
        body_there = λ d i. h.there (Body d i);
        shape = λ d. at1_all (λ (j y : ℕ). (header_of (w (Head j))).live ≡ true → tag_shape g.wide y ≡ tag_shape g.wide (w (Tag j))) (tags w) b x d (λ _. a.shape) (λ _ _. refl);
        size = λ d. at1_all (λ (j y : ℕ). (header_of (w (Head j))).live ≡ true → y < tag_limit g.wide) (tags w) b x d (λ _. a.small) (λ _ l. (h.blocks.tagged d l).small);
        same = λ d. at1_all (λ (j y : ℕ). (header_of (w (Head j))).live ≡ true → (IsDying (header_of (w (Head j))) c → ⊥) → y ≡ w (Tag j)) (tags w) b x d (λ _ n. absurd (n dying)) (λ _ _ _. refl);
        inner = λ d i l. refl;
      }

  -- a block that is prepared isn't live
  making : (d : ℕ) (m : Option Making) → MakingTie g (λ s q. w (Page s q)) (λ s. w (Segment s)) (λ i. w (Head i)) (tags w) (bodies w) d m → MakingTie g (λ s q. w (Page s q)) (λ s. w (Segment s)) (λ i. w (Head i)) tag (bodies w) d m
  making d None y = tt
  making d (Some m) y = record { free = y.free; block = y.block; mine = y.mine; sized = y.sized; stored = All-weaker _ _ (λ s. stored s.spot s.value) m.words y.stored }
    where
      apart : b ≢ m.block
      apart z = live_not_zero (w (Head b)) dying.0 (ap (λ i. w (Head i)) z ∙ y.free)

      stored : (p : Spot) (z : ℕ) → InBlock (tags w) (bodies w) m.block m.class p z → InBlock tag (bodies w) m.block m.class p z
      stored (Tag d) z k = (k.0, at1_other (tags w) b x d (λ u. apart (u ∙ k.0)) ∙ k.1)
      stored (Body d j) z k = k
      stored _ z k = absurd k

  made : (d : ℕ) → d < g.clients → MakingTie g (λ s q. w (Page s q)) (λ s. w (Segment s)) (λ i. w (Head i)) tag (bodies w) d (at1 v.making c (v.making c) d)
  made d l = subst (λ (f : ℕ → Option Making). MakingTie g (λ s q. w (Page s q)) (λ s. w (Segment s)) (λ i. w (Head i)) tag (bodies w) d (f d)) (sym (at1_same v.making c (v.making c) refl)) (making d (v.making d) (h.making d l))

  -- the pairs of other words stay
  pairs : (p : Spot) (z : ℕ) → not (same_spot (Tag b) p) ≡ true → Old g w v c tag (bodies w) h may c p z → New g w v c tag (bodies w) h may c p z
  pairs p z q k = pair_kept g w v c tag (bodies w) h may c a.inside p z (λ e u _. at1_other (tags w) b x e (λ y. true≢false (sym q ∙ ap not (ap (same_spot (Tag b)) u ∙ eq-eqb b e y)))) k

  knows : All (λ (s : Stored). New g w v c tag (bodies w) h may c s.spot s.value) kept
  knows = All-cons (λ (s : Stored). New g w v c tag (bodies w) h may c s.spot s.value) (record { spot = Tag b; value = x }) (filter (not_at (Tag b)) (v.known c)) (at1_here (tags w) b x, inl a.dying)
      (All-kept (λ (s : Stored). Old g w v c tag (bodies w) h may c s.spot s.value) (λ (s : Stored). New g w v c tag (bodies w) h may c s.spot s.value) (not_at (Tag b)) (λ s. pairs s.spot s.value) (v.known c) (h.known c a.inside))

  words : with_blocks w tag (bodies w) ≡ upd w (Tag b) x
  words = fun_ext go
    where
      go : (p : Spot) → with_blocks w tag (bodies w) p ≡ upd w (Tag b) x p
      go (Tag d) = refl
      go _ = refl

  views : blocks_view v c (v.making c) kept ≡ link_view v c b x
  views = ap (λ (f : ℕ → Option Making). record (link_view v c b x) { making = f }) (at1_same v.making c (v.making c) refl)

  -- the invariant stays
  pub link_kept : HeldAt g (upd w (Tag b) x) (link_view v c b x)
  link_kept = subst (λ u. HeldAt g (upd w (Tag b) x) u) views (subst (λ u. HeldAt g u (blocks_view v c (v.making c) kept)) words (blocks_kept g w v c tag (bodies w) h may (v.making c) kept a.inside a.acts a.here made knows))

  -- the graph stays
  pub link_quiet : Happens g w Nothing (graph_of g w v) (graph_of g (upd w (Tag b) x) (link_view v c b x))
  link_quiet = subst (λ u. Happens g w Nothing (graph_of g w v) (graph_of g (upd w (Tag b) x) u)) views (subst (λ u. Happens g w Nothing (graph_of g w v) (graph_of g u (blocks_view v c (v.making c) kept))) words (blocks_quiet g w v c tag (bodies w) h may (v.making c) kept))
