-- events that make nothing take away from the size of the graph
use Rattle.std.proofs.Common.{◌≡◌, ◌≢◌, ℕ, ◌+◌, ◌<◌, ◌≤◌, Bool, true, false, refl, sym, ◌∙◌, arith, cond, ltb, eqb, inl, inr, ◌&&◌}
use Rattle.std.proofs.lemmas.Bool.{cases_Bool, and_parts, ltb-true, cond-false, Decides.nat_tests}
use Rattle.shm_words.specs.{declared.geometry.Geometry.Geometry, Tags.tag_refs, Layout.{GeometryFits, total_of}}
use Rattle.shm_words.proofs.Placing.{total_in_format}
use Rattle.shm_graph.specs.declared.{ask.Ask.{Ask, TheVariants.{Store, Exchange}}, spot.Spot.Spot}
use Rattle.shm_graph.specs.declared.spot.Spot.TheVariants.{Home, Root, Slot, Head, Tag, Body}
use Rattle.shm_graph.specs.declared.memo.{First.TheVariants.Begun, Second.TheVariants.Open}
use Rattle.shm_graph.specs.declared.memo.{ChangeStage.TheVariants.{Raising, Lowering}, Op.Op, Memo.Memo, Step.Step}
use Rattle.shm_graph.specs.Blocks.{classes, headers}
use Rattle.shm_graph.specs.Events.{Event, Nothing, Alloc, Up, Down, ChangeUp, ChangeDown, Free, Graph, graph_of, Happens}
use Rattle.shm_graph.specs.{Held.HeldAt, Laws.{event_of, event_by, event_on}, References.refs_of}
use Rattle.shm_graph.specs.{Spots.{IsAt, spot_address}, Views.{View, targets}}
use Rattle.shm_graph.specs.declared.memo.Op.TheVariants as op
use Rattle.shm_graph.proofs.Spots.{SpotPlaces.at_is_in, Spotting.{body_block, block_within}}
use Rattle.shm_graph.proofs.States.{Counting.has_place, Holders.held_live_block}
use Rattle.shm_alone.specs.Alone.{IsLoss, weight}
use Rattle.shm_alone.specs.Size.{identities, places, addresses, size_of, IsCounted, IsHeldWithin}
use Rattle.shm_alone.proofs.Shrinking.{size_most, part_same, down_less, held_less, free_less}

-- ---- places

identity_in : (g : Geometry) → GeometryFits g → (c : ℕ) → c < g.clients → c < identities
unfolding identities
identity_in g f c l = let m = f.clients in omega arith

place_in : (k n : ℕ) → n ≤ 16 → k < n → k < places
unfolding places
place_in k n m l = omega arith

address_in : (g : Geometry) → GeometryFits g → (b : ℕ) → b < total_of g → b < addresses g.wide
unfolding addresses
address_in g f b l = let m = total_in_format g f in omega arith

-- a word of a block that names a block is one of its reference words
body_refs : (wide : Bool) (i t x : ℕ) (live : Bool) → cond (ltb i (refs_of wide live t)) x 0 ≢ 0 → (live ≡ true) × (i < tag_refs wide t)
body_refs wide i t x true h =
    elim (cases_Bool (ltb i (tag_refs wide t))) [
      | inl e ↦ (refl, ltb-true i (tag_refs wide t) e)
      | inr e ↦ absurd (h (cond-false _ x 0 e))
    ]
body_refs wide i t x false h = absurd (h (cond-false (ltb i 0) x 0 (grind (arith, nat_tests))))

module _ (g : Geometry) (w : Spot → ℕ) (v : View) (h : HeldAt g w v) where
  -- a spot that names a block is counted
  pub named_counted : (p : Spot) → targets g w v p ≢ 0 → IsCounted g.wide p
  named_counted p n = go p n (has_place g w v.op h.there h.op p n)
    where
      identity : (c : ℕ) → ltb c g.clients ≡ true → c < identities
      identity c e = identity_in g h.fits c (ltb-true c g.clients e)

      go : (p : Spot) → targets g w v p ≢ 0 → IsAt g (classes w) p → IsCounted g.wide p
      go (Home c) n at = identity c (at_is_in g (classes w) (Home c) h.fits at)
      go (Root c k) n at =
          let x = and_parts (ltb c g.clients) (ltb k 16) (at_is_in g (classes w) (Root c k) h.fits at) in
          (identity c x.0, place_in k 16 (omega arith) (ltb-true k 16 x.1))
      go (Slot s r k) n at =
          let x = and_parts (ltb s g.clients && ltb r g.clients) (ltb k 8) (at_is_in g (classes w) (Slot s r k) h.fits at) in
          let y = and_parts (ltb s g.clients) (ltb r g.clients) x.0 in
          (identity s y.0, identity r y.1, place_in k 8 (omega arith) (ltb-true k 8 x.1))
      go (Body b i) n at =
          let x = body_refs g.wide i (w (Tag b)) _ (headers w b).live n in
          let l : b < total_of g = (block_within g (classes w) b (body_block g (classes w) (spot_address g (Body b i)) b i at).0).1 in
          (address_in g h.fits b l, place_in i (tag_refs g.wide (w (Tag b))) (h.blocks.tagged b x.0).refs x.1)
      go _ n at = absurd (n refl)

  -- an event that makes nothing takes away from the size as many as it is events
  pub size_falls : (x : Event) (b : Graph) → IsHeldWithin g.clients x → IsLoss x → Happens g w x (graph_of g w v) b → size_of g.wide b + weight x ≤ size_of g.wide (graph_of g w v)
  size_falls Nothing b l y e = let s = size_most g.wide b (graph_of g w v) (part_same (graph_of g w v) b e) in omega arith
  size_falls (Alloc c k x) b l y e = absurd y
  size_falls (Up c p x) b l y e = absurd y
  size_falls (Down c p x) b l y e =
      let n : targets g w v p ≢ 0 = (λ z. e.0 (sym e.1 ∙ z)) in
      let s = down_less g.wide (graph_of g w v) b p x (named_counted p n) e.0 e.1 e.2 in
      omega arith
  size_falls (ChangeUp c p x z) b l y e = absurd y
  size_falls (ChangeDown c x) b l y e =
      let s = held_less g.wide (graph_of g w v) b c x (identity_in g h.fits c l) e.0 e.1 e.2 in
      omega arith
  size_falls (Free c x) b l y e =
      let q = block_within g (classes w) x (held_live_block g w v h x e.0) in
      let s = free_less g.wide (graph_of g w v) b x (address_in g h.fits x q.1) e.0 e.4 in
      omega arith

-- ---- the identity of an event

among_of : (n c : ℕ) (o : Op) → c < n → IsHeldWithin n (event_of c o)
among_of n c (op.Change (Lowering Open) p a b e) l = l
among_of n c (op.Alloc Begun (Root d k) b e) l = tt
among_of n c (op.Up Begun p b e) l = tt
among_of n c (op.Down Begun p b e) l = tt
among_of n c (op.Change (Raising Begun) p a b e) l = tt
among_of n c _ l = tt

among_if : (n : ℕ) (b : Bool) (x : Event) → IsHeldWithin n x → IsHeldWithin n (cond b x Nothing)
among_if n true x h = h
among_if n false x h = tt

among_by : (n : ℕ) (m : Memo) (t : Step) (a : Ask) (p : Spot) → t.me.who < n → IsHeldWithin n (event_by m t a p)
among_by n m t (Exchange at from to) (Head b) l = among_if n (eqb t.seen from) _ (among_of n t.me.who m.op l)
among_by n m t (Store at x) (Head b) l = among_if n (eqb x 0) (Free t.me.who b) tt
among_by n m t _ p l = tt

-- of a step of one of n identities
pub among_on : (n : ℕ) (m : Memo) (t : Step) (p : Spot) → t.me.who < n → IsHeldWithin n (event_on m t p)
among_on n m t p l = among_by n m t t.ask p l
