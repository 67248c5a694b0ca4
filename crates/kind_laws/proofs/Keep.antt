-- what several kinds use
use Rattle.std.proofs.{Common.{◌≡◌, ◌≢◌, ℕ, ◌<◌, refl, ap, ◌∙◌, arith, true, ◌∷◌, inl, inr}, lemmas.Bool.cases_eq}
use Rattle.shm_words.specs.{declared.{redo.Redo.Redo as ARedo, geometry.Geometry.Geometry}, Headers.header_of}
use Rattle.shm_words.specs.declared.redo.Redo.TheVariants as redos
use Rattle.shm_words.proofs.Words.{live_not_zero}
use Rattle.shm_graph.specs.declared.{spot.Spot.{Spot, TheVariants.{Page, Head}}, memo.Status.Status as AStatus}
use Rattle.shm_graph.specs.declared.memo.{ChangeStage.TheVariants.{Raising, Lowering}, Op.Op}
use Rattle.shm_graph.specs.{declared.memo.Op.TheVariants.{Nothing, Alloc, Up, Down, Change}, References.Words}
use Rattle.shm_graph.specs.{Spots.IsAt, Blocks.IsBlock, Ops.{slot_of, is_op}, Held.{OpTie, FirstNames, RedoTie}}
use Rattle.shm_graph.proofs.Spots.Spotting.{is_at_block, in_pool}

-- what is said of identities of one status stays where c has another one, and nobody else's part changes
pub others : (P Q : ℕ → Type 0) (s : ℕ → AStatus) {a : AStatus} (n c : ℕ) → ((d : ℕ) → d < n → s d ≡ a → P d) → s c ≢ a → ((d : ℕ) → c ≢ d → P d → Q d) → (d : ℕ) → d < n → s d ≡ a → Q d
others P Q s n c all not same d l st = elim (cases_eq c d) [ inl e ↦ absurd (not (ap s e ∙ st)) | inr m ↦ same d m (all d l st) ]

-- a live block is there
pub live_block : (g : Geometry) (w : Spot → ℕ) → ((p : Spot) → w p ≢ 0 → IsAt g (λ s q. w (Page s q)) p) → (b : ℕ) → (header_of (w (Head b))).live ≡ true → IsBlock g (λ s q. w (Page s q)) b
live_block g w there b l = is_at_block g (λ s q. w (Page s q)) b (there (Head b) (live_not_zero (w (Head b)) l))

-- no block stands at 0
pub block_not_zero : (g : Geometry) (class : ℕ → ℕ → ℕ) (b : ℕ) → IsBlock g class b → b ≢ 0
block_not_zero g class b h z = let q = in_pool g class b (Head b) h (λ e. cc) in absurd (omega arith)

-- the tie of an op where another page, or another word, changed
pub op_moved : (g : Geometry) (class class' : ℕ → ℕ → ℕ) (redo more own : ℕ) (x : Words) (o : Op) → ((p : Spot) → is_op o ≡ true → slot_of o ≡ p → IsAt g class p → IsAt g class' p) → ((b : ℕ) → IsBlock g class b → IsBlock g class' b) → OpTie g class redo more own x o → OpTie g class' redo more own x o
op_moved g class class' redo more own x Nothing f k h = h
op_moved g class class' redo more own x (Alloc s p b e) f k h = record { spelled = h.spelled; blocks = k b h.blocks; current = h.current; at = f p refl refl h.at; word = h.word }
op_moved g class class' redo more own x (Up s p b e) f k h = record { spelled = h.spelled; blocks = k b h.blocks; current = h.current; at = f p refl refl h.at; word = h.word }
op_moved g class class' redo more own x (Down s p b e) f k h = record { spelled = h.spelled; blocks = k b h.blocks; current = h.current; at = f p refl refl h.at; word = h.word }
op_moved g class class' redo more own x (Change (Raising s) p a b e) f k h = record { spelled = h.spelled; blocks = (k a h.blocks.0, k b h.blocks.1); current = h.current; at = f p refl refl h.at; word = h.word }
op_moved g class class' redo more own x (Change (Lowering s) p a b e) f k h = record { spelled = h.spelled; blocks = (k a h.blocks.0, k b h.blocks.1); current = h.current; at = f p refl refl h.at; word = h.word }

-- and so for the tie of a redo word
pub redo_moved : (g : Geometry) (class class' : ℕ → ℕ → ℕ) (redo more : ℕ) → ((b : ℕ) → IsBlock g class b → IsBlock g class' b) → RedoTie g class redo more → RedoTie g class' redo more
redo_moved g class class' redo more f h = record { second = elim h.second [ inl z ↦ inl z | inr n ↦ inr (f more n) ]; first = λ x r e. go r (h.first x r e) }
  where
    go : (r : ARedo) → FirstNames g class r → FirstNames g class' r
    go redos.Idle n = n
    go (redos.Up p b) n = f b n
    go (redos.Down p b) n = λ narrow. f b (n narrow)
    go (redos.Change o p a b) n = (λ narrow. f a (n.0 narrow), f b n.1)

-- the fields of a header that is 0
pub era_of_zero : (header_of 0).era ≡ 0
unfolding header_of
era_of_zero = refl

pub count_of_zero : (header_of 0).count ≡ 0
unfolding header_of
count_of_zero = refl
