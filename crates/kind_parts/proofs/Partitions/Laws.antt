-- a step that has begun at a word of the own partition: what it changes, the partition after it, and the map
use Rattle.std.proofs.Common.{◌≡◌, ◌≢◌, ℕ, ◌<◌, true, refl, sym, ap, ◌∙◌, subst, false}
use Rattle.shm_words.specs.declared.geometry.Geometry.{Geometry}
use Rattle.shm_graph.specs.declared.{spot.Spot.{Spot, TheVariants.{Home, Era, Redo, RedoMore}}, memo.Memo.Memo}
use Rattle.shm_graph.specs.declared.memo.{First.TheVariants.Begun, ChangeStage.TheVariants.Raising, Op.Op}
use Rattle.shm_graph.specs.{declared.memo.Op.TheVariants.{Up, Down, Change}, Blocks.{classes, IsBlock}, Chains.part_set}
use Rattle.shm_graph.specs.Held.{HeldAt, OpTie, Allowed, is_loose}
use Rattle.shm_graph.specs.{Ops.{Quiet, On, cover, cover_of, slot_of, is_op, word_at}, References.words_of}
use Rattle.shm_graph.specs.Views.{view, own_word}
use Rattle.shm_graph.proofs.States.Holders.{Holds}
use Rattle.kind_laws.proofs.Keep.{block_not_zero}
use Rattle.kind_parts.specs.{Raising.IsReparted, Reparting.{sight, map_in, TableStep, map_after, Begins}}
use Rattle.kind_parts.proofs.Partitions.Reparted.{table_reparted, table_mapped}

module _ (g : Geometry) (w : Spot → ℕ) (r : ℕ → Memo) (c : ℕ) (h : HeldAt g w (view r)) (l : c < g.clients) where
  -- what a step in progress shows that has begun: it covers nothing, its identity may store its word, which is what it was, and it is to be another
  record IsAimed (p : Spot) (old new : ℕ) : Type 0 where
    quiet : cover_of (r c).op ≡ Quiet
    holds : Holds w g (view r) c p
    word : word_at (words_of g.wide w) p ≡ old
    other : old ≢ new

  tie : (o : Op) → (r c).op ≡ o → OpTie g (classes w) (w (Redo c)) (w (RedoMore c)) (w (Era c c)) (words_of g.wide w) o
  tie o e = subst (OpTie g (classes w) (w (Redo c)) (w (RedoMore c)) (w (Era c c)) (words_of g.wide w)) e (h.op c l)

  slot : (o : Op) → (r c).op ≡ o → is_op o ≡ true → Holds w g (view r) c (slot_of o)
  slot o e is = subst (λ x. Holds w g (view r) c (slot_of x)) e (h.slots c l (ap is_op e ∙ is))

  aimed : (o : Op) → (r c).op ≡ o → (p : Spot) (old new : ℕ) → Begins o p old new → IsAimed p old new
  aimed (Up Begun q b e) is p old new s =
      let t = tie (Up Begun q b e) is in
      let block : IsBlock g (classes w) b = t.blocks in
      record {
        quiet = ap cover_of is;
        holds = subst (Holds w g (view r) c) s.0 (slot (Up Begun q b e) is refl);
        word = ap (word_at (words_of g.wide w)) (sym s.0) ∙ (t.word ∙ sym s.1);
        other = λ z. block_not_zero g (classes w) b block (sym s.2 ∙ (sym z ∙ s.1));
      }
  aimed (Down Begun q b e) is p old new s =
      let t = tie (Down Begun q b e) is in
      let block : IsBlock g (classes w) b = t.blocks in
      record {
        quiet = ap cover_of is;
        holds = subst (Holds w g (view r) c) s.0 (slot (Down Begun q b e) is refl);
        word = ap (word_at (words_of g.wide w)) (sym s.0) ∙ (t.word ∙ sym s.1);
        other = λ z. block_not_zero g (classes w) b block (sym s.1 ∙ (z ∙ s.2));
      }
  aimed (Change (Raising Begun) q a b e) is p old new s =
      let t = tie (Change (Raising Begun) q a b e) is in
      let may : Allowed c (Change (Raising Begun) q a b e) = subst (Allowed c) is (h.allowed c l) in
      record {
        quiet = ap cover_of is;
        holds = subst (Holds w g (view r) c) s.0 (slot (Change (Raising Begun) q a b e) is refl);
        word = ap (word_at (words_of g.wide w)) (sym s.0) ∙ (t.word ∙ sym s.1);
        other = λ z. may.2 (sym s.1 ∙ (z ∙ s.2));
      }
  aimed o is p old new s = absurd s

  module _ (p : Spot) (old new : ℕ) (begins : Begins (r c).op p old new) (step : TableStep g.wide c (sight c (r c)) p old new) where
    a : IsAimed p old new
    a = aimed (r c).op refl p old new begins

    -- the partition that the memo has is the one that the new targets hold
    pub begun_reparted : IsReparted g w (view r) c (r c) p new
    begun_reparted = table_reparted g w r c h l p old new a.quiet a.holds a.word a.other step

    -- and its map is what the step makes of the map before
    pub begun_mapped : is_loose (r c).part ≡ false → (k : ℕ) → map_in (part_set (r c).known c (cover (On p new) (Home c) (own_word (r c).own (Home c))) p new (r c).part) k ≡ map_after g.wide c (sight c (r c)) p old new step (map_in (r c).part) k
    begun_mapped table k = table_mapped g w r c h l p old new a.quiet a.holds a.word a.other step table k
