-- what a held state shows of the block whose reference a change holds over, and what its exchange leaves
use Rattle.std.proofs.Common.{◌≡◌, ℕ, ◌-◌, ◌^◌, ◌<◌, refl, ap, ◌∙◌, subst, arith, Bool, true, false, cond, eqb, [], ◌∷◌, ◌++◌, inl, inr}
use Rattle.std.specs.{Prelude.◌⊎◌, List.filter}
use Rattle.shm_words.specs.{Headers.{HeaderFits, header_of}, Layout.GeometryFits}
use Rattle.shm_words.proofs.Words.{header_fits, header_of-word, header_word_small}
use Rattle.shm_graph.specs.declared.{ask.Me.Me, spot.Spot.{Spot, TheVariants.{Era, Head, Redo, RedoMore}}}
use Rattle.shm_graph.specs.declared.memo.{Memo.Memo, Op.TheVariants.Change, ChangeStage.TheVariants.Lowering}
use Rattle.shm_graph.specs.{declared.memo.Second.TheVariants.{Closed, Open}, Blocks.classes}
use Rattle.shm_graph.specs.{MemoAfterExchange.{committed, cut, without_made}, Held.{HeldAt, OpTie}, Ops.held_over_of}
use Rattle.shm_graph.specs.{Reach.sifted, References.words_of, Spots.spot_at, MemoAfterStore.not_of, Views.view}
use Rattle.shm_graph.proofs.States.Holders.{held_over_counted}
use Rattle.kind_laws.proofs.Keep.{block_not_zero}
use Rattle.shm_recover.specs.{MendRest.bare, MendLower.{IsCounted, Control.lowered}}

-- ---- the block before

module _ (me : Me) (w : Spot → ℕ) (r : ℕ → Memo) (h : HeldAt me.geometry w (view r)) (l : me.who < me.geometry.clients) (m : Memo) (same : r me.who ≡ m) (p : Spot) (a b e : ℕ) (op : m.op ≡ Change (Lowering Open) p a b e) where
  half_here : (r me.who).op ≡ Change (Lowering Open) p a b e
  half_here = ap (λ (x : Memo). x.op) same ∙ op

  -- it is a block
  pub half_block : spot_at me.geometry (classes w) a ≡ Head a
  half_block =
      let tie = subst (OpTie me.geometry (classes w) (w (Redo me.who)) (w (RedoMore me.who)) (w (Era me.who me.who)) (words_of me.geometry.wide w)) half_here (h.op me.who l) in
      tie.blocks.0

  -- and a reference to it is held over
  pub half_counted : IsCounted me (w (Head a))
  half_counted =
      let counted = held_over_counted me.geometry w (view r) h me.who a l (block_not_zero me.geometry (classes w) a half_block) (ap held_over_of half_here) in
      record { live = counted.0; client = h.era.client a counted.0; count = counted.1 }

-- ---- its new header

-- it has a word
pub lowered_fits : (me : Me) (e n : ℕ) → GeometryFits me.geometry → me.who < me.geometry.clients → e < 2 ^ 47 → HeaderFits (record { live = true; client = me.who; count = (header_of n).count - 1; era = e })
lowered_fits me e n fits who small = record { client = (let u = fits.clients in omega arith); count = (let c = (header_fits n).count in omega arith); era = small }

pub lowered_header : (me : Me) (e n : ℕ) → GeometryFits me.geometry → me.who < me.geometry.clients → e < 2 ^ 47 → (header_of (lowered me.who e n) ≡ record { live = true; client = me.who; count = (header_of n).count - 1; era = e }) × (lowered me.who e n < 2 ^ 64)
lowered_header me e n fits who small = (header_of-word _ (lowered_fits me e n fits who small), header_word_small _ (lowered_fits me e n fits who small))

-- ---- what the exchange leaves

-- the second half is closed, and the block joins the zero-count blocks where its count came to 0
pub record IsLowering (p : Spot) (a b e : ℕ) (m x : Memo) : Type 0 where
  pub op : x.op ≡ Change (Lowering Closed) p a b e
  pub rest : bare x ≡ bare m
  pub latch : x.latch ≡ m.latch
  pub own : x.own ≡ m.own
  pub dying : (x.dying ≡ m.dying) ⊎ (x.dying ≡ m.dying ++ a ∷ [])

pub half_committed : (wide : Bool) (c : ℕ) (m : Memo) (p : Spot) (a b e to : ℕ) → IsLowering p a b e m (committed wide c m (Change (Lowering Open) p a b e) to)
half_committed wide c m p a b e to = go (eqb (header_of to).count 0)
  where
    k : Memo
    k = cut c p (record m { op = Change (Lowering Closed) p a b e; made = without_made m a })

    go : (q : Bool) → IsLowering p a b e m (sifted c (cond q (record k { dying = k.dying ++ a ∷ []; known = filter (not_of a) k.known }) k))
    go true = record { op = refl; rest = refl; latch = refl; own = refl; dying = inr refl }
    go false = record { op = refl; rest = refl; latch = refl; own = refl; dying = inl refl }
