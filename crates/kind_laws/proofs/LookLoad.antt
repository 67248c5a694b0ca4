-- the load of a reference word under its author's latch: what was read joins the looks
use Rattle.std.proofs.Common.{◌≡◌, ◌≢◌, ℕ, ◌<◌, refl, sym, ap, ◌∙◌, true, false, ltb, lt-ltb, subst, inl, inr, List, [], ◌∷◌, ◌++◌, Option, Some, None}
use Rattle.std.proofs.lemmas.List.Elements.{All-cons, All-weaker, Contains-append_left}
use Rattle.std.proofs.lemmas.Bool.{cases_eq, ne_eqb, cond-true}
use Rattle.std.specs.List.{All, filter}
use Rattle.shm_words.specs.{declared.geometry.Geometry.Geometry, Tags.{tag_refs, tag_author}}
use Rattle.shm_graph.specs.declared.{spot.Spot.{Spot, TheVariants.{Home, Tag, Body}}, memo.{Stored.Stored, Look.Look}}
use Rattle.shm_graph.specs.{declared.memo.Test.Test, References.{words_of, refs_of}, Views.{View, targets, ons}}
use Rattle.shm_graph.specs.{Ops.{cover, cover_of, covered, slot_of, is_op}, Events.{Nothing, graph_of, Happens}}
use Rattle.shm_graph.specs.Held.{HeldAt, reach_of, named_by, KnownAt, LooksSound, TestAt, ValueAt, InLooks}
use Rattle.shm_graph.specs.{Reach.{learnt, not_at}, Tables.contents_of, Blocks.headers}
use Rattle.shm_graph.proofs.Memos.{Frames.at1_all, Looking.looks_push, RecallHeld.memo_held}
use Rattle.shm_graph.proofs.States.{Holders.{one_latch, reach_counted}, Counting.{cover_idle, covered_none}}
use Rattle.kind_laws.proofs.{Lists.All-kept, Keep.others, ExchangeFields.{slot_kept, known_kept, apart}}
use Rattle.kind_laws.proofs.Readings.{bodies, eras, queue_heads, slot_words, tags, tails}
use Rattle.kind_laws.specs.Latches.{LookNeeds, look_view}

-- a look leaves the graph
pub look_quiet : (g : Geometry) (w : Spot → ℕ) (v : View) (c b i : ℕ) → Happens g w Nothing (graph_of g w v) (graph_of g w (look_view v c b i (w (Body b i))))
look_quiet g w v c b i = record { lives = λ x. refl; shapes = λ x. refl; targets = λ p. refl; held_overs = λ d. refl }

pub look_kept : (g : Geometry) (w : Spot → ℕ) (v : View) (c b i : ℕ) → HeldAt g w v → LookNeeds g w v c b i → HeldAt g w (look_view v c b i (w (Body b i)))
look_kept g w v c b i h a =
    memo_held g w v _ h refl (record {
      making = h.making;
      slots = λ d l is. slot_kept g.wide d (headers w) (headers w) (tags w) (v.latch d) (tails w) (queue_heads w) (reach_of t (tails w) (queue_heads w) v.looks d) (reach_of t (tails w) (queue_heads w) v'.looks d) (slot_of (v.op d)) (λ _ q. inl q) (λ _ q. q) (reach d) (h.slots d l is);
      looks = λ d. at1_all (λ (j : ℕ) (x : List Look). j < g.clients → LooksSound (λ a. t (Home a)) (λ b i. t (Body b i)) (λ b. tag_author g.wide (w (Tag b))) (v.latch j) (Named j) [] x) v.looks c (v.looks c ++ new ∷ []) d
          (λ l. looks_push (λ a. t (Home a)) (λ b i. t (Body b i)) (λ b. tag_author g.wide (w (Tag b))) (v.latch c) (Named c) (v.looks c) [] new (h.looks c l) (a.some, a.latch, seen, elim a.reach [ inl u ↦ inl u | inr u ↦ inr (inr u) ]))
          (λ m. h.looks d);
      known = λ d. at1_all (λ (j : ℕ) (x : List Stored). j < g.clients → All (Known j) x) v.known c (learnt (Body b i) (w (Body b i)) (v.known c)) d
          (λ l. All-cons (Known c) (record { spot = Body b i; value = w (Body b i) }) (filter (not_at (Body b i)) (v.known c)) (refl, inr (reach c b a.reach, inr (inr a.latch))) (All-kept _ (Known c) (not_at (Body b i)) (λ s _. old c s.spot s.value) (v.known c) (h.known c l)))
          (λ m l. All-weaker _ (Known d) (λ s. old d s.spot s.value) (v.known d) (h.known d l));
      facts = h.facts;
      zeros = h.zeros;
      test = λ d. at1_all (λ (i : ℕ) (x : Option Test). i < g.clients → TestAt g.clients (eras w) (ons v i) i x) v.test c None d (λ l. tt) (λ m. h.test d);
      fresh = others _ _ v.status g.clients c h.fresh a.acts (λ d n x. rw (ne_eqb c d n) x);
      values = λ d l. All-weaker (ValueAt (contents_of g.wide w t) (reach_of t (tails w) (queue_heads w) v.looks d)) (ValueAt (contents_of g.wide w t) (reach_of t (tails w) (queue_heads w) v'.looks d)) (λ j y. (y.0, reach d j y.1)) (v.values d) (h.values d l);
      made = h.made;
    })
  where
    v' : View
    v' = look_view v c b i (w (Body b i))

    t : Spot → ℕ
    t = targets g w v

    Named : ℕ → ℕ → Type 0
    Named d = named_by t (tails w) (queue_heads w) d

    no_op : is_op (v.op c) ≡ false
    no_op = ap is_op a.op

    new : Look
    new = record { block = w (Body b i); from = Body b i }

    reach : (d j : ℕ) → reach_of t (tails w) (queue_heads w) v.looks d j → reach_of t (tails w) (queue_heads w) v'.looks d j
    reach d j (inl x) = inl x
    reach d j (inr x) = inr (at1_all (λ (k : ℕ) (y : List Look). InLooks (v.looks k) j → InLooks y j) v.looks c (v.looks c ++ new ∷ []) d (λ z. (z.0, Contains-append_left (v.looks c) (new ∷ []) z.0 z.1, z.2)) (λ _ z. z) x)

    -- the block is live and counted
    counted : ((headers w b).live ≡ true) × ((headers w b).count ≢ 0)
    counted = reach_counted g w v h c b a.inside a.reach

    covers : (d : ℕ) → d < g.clients → (y : ℕ) → cover (cover_of (v.op d)) (Body b i) y ≡ y
    covers d l y = elim (cases_eq c d) [
      | inl x ↦ cover_idle (v.op d) (Body b i) (ap (λ j. is_op (v.op j)) (sym x) ∙ no_op) y
      | inr n ↦ apart g.wide d (headers w) (tags w) (v.latch d) (tails w) (queue_heads w) (reach_of t (tails w) (queue_heads w) v.looks d) (v.op d) (Body b i) (h.slots d l) (λ x. elim x.2 [ inl u ↦ counted.1 u.0 | inr u ↦ n (one_latch g w v h c d (tag_author g.wide (w (Tag b))) a.inside l a.latch (u.1 ∙ ap Some (sym u.0))) ]) y
    ]

    seen : t (Body b i) ≡ w (Body b i)
    seen =
        let r : (words_of g.wide w).refs b ≡ tag_refs g.wide (w (Tag b)) = ap (λ z. refs_of g.wide z (w (Tag b))) counted.0 in
        let l : i < (words_of g.wide w).refs b = subst (λ z. i < z) (sym r) a.refs in
        cond-true (ltb i ((words_of g.wide w).refs b)) (covered (λ d. cover_of (v.op d)) g.clients (Body b i) (w (Body b i))) 0 (lt-ltb i ((words_of g.wide w).refs b) l) ∙ covered_none g.clients (Body b i) (w (Body b i)) (λ d. cover_of (v.op d)) covers

    Known : ℕ → Stored → Type 0
    Known d s = KnownAt g.wide d (tags w) (bodies w) (slot_words w) (tails w) (queue_heads w) (v.untaken d) (v.latch d) (reach_of t (tails w) (queue_heads w) v'.looks d) (v.dying d) s.spot s.value

    old : (d : ℕ) (p : Spot) (x : ℕ) → KnownAt g.wide d (tags w) (bodies w) (slot_words w) (tails w) (queue_heads w) (v.untaken d) (v.latch d) (reach_of t (tails w) (queue_heads w) v.looks d) (v.dying d) p x → KnownAt g.wide d (tags w) (bodies w) (slot_words w) (tails w) (queue_heads w) (v.untaken d) (v.latch d) (reach_of t (tails w) (queue_heads w) v'.looks d) (v.dying d) p x
    old d p x = known_kept g.wide d (tags w) (bodies w) (slot_words w) (tails w) (queue_heads w) (v.untaken d) (v.latch d) (reach_of t (tails w) (queue_heads w) v.looks d) (reach_of t (tails w) (queue_heads w) v'.looks d) (v.dying d) (v.dying d) p x (reach d) (λ _ y. y)
