-- a block that was made lies in the pool
use Rattle.std.proofs.Common.{ℕ, ◌<◌, sym, subst, List, ◌⊎◌, inl, inr}
use Rattle.std.proofs.lemmas.List.Elements.{All-contains, Contains-append_left}
use Rattle.std.specs.List.{Contains}
use Rattle.shm_words.specs.declared.geometry.Geometry.{Geometry}
use Rattle.shm_graph.specs.declared.{ask.Me.Me, memo.{Memo.Memo, Stored.Stored}, spot.Spot.Spot}
use Rattle.shm_graph.specs.{Blocks.{classes, headers, IsBlock, IsLive}, Held.HeldAt, Views.view}
use Rattle.shm_graph.specs.declared.spot.Spot.TheVariants as spot
use Rattle.shm_graph.proofs.{States.Holders.{InReach, held_live_block, reach_counted}, Memos.KnownChange.KnownHolds}
use Rattle.shm_graph.proofs.Spots.Spotting.{block_within}
use Rattle.shm_count.specs.{declared.answer.Made.Made, Step.Control.IsInside}
use Rattle.shm_alloc.specs.{declared.request.Request.Request, Alloc.{Control.tag_asked, MadeGives}}

-- a block whose tag is known is a block
tagged_block : (g : Geometry) (w : Spot → ℕ) (r : ℕ → Memo) (c b x : ℕ) → HeldAt g w (view r) → c < g.clients → Contains (r c).known (record { spot = spot.Tag b; value = x }) → IsBlock g (classes w) b
tagged_block g w r c b x h l known =
    let k : KnownHolds g w (view r) c (record { spot = spot.Tag b; value = x }) = All-contains (KnownHolds g w (view r) c) (r c).known (record { spot = spot.Tag b; value = x }) (h.known c l) known in
    held_live_block g w (view r) h b (go k.1)
  where
    go : Contains (r c).dying b ⊎ InReach w g (view r) c b → IsLive (headers w) b
    go (inl d) = ((h.dying c l).listed b d).0
    go (inr y) = (reach_counted g w (view r) h c b l y).0

-- the new block lies in the pool
pub block_inside : (me : Me) (q : Request) (r0 : Memo) (a : Made) (w : Spot → ℕ) (r : ℕ → Memo) → HeldAt me.geometry w (view r) → me.who < me.geometry.clients → MadeGives me q r0 (r me.who) a → IsInside me a.block
block_inside me q r0 a w r held l h =
    let k = h.knows.0 in
    let tag = h.knows.2.tag in
    let known = subst (λ (ks : List Stored). Contains ks (record { spot = spot.Tag a.block; value = tag_asked me.geometry.wide q me.who })) (sym h.knows.1) (Contains-append_left k.words r0.known _ tag) in
    let y = block_within me.geometry (classes w) a.block (tagged_block me.geometry w r me.who a.block (tag_asked me.geometry.wide q me.who) held l known) in
    (y.0, y.1)
