-- loads of the words of an entry at which a walk along the own partition is, as parts: the walk stays there, or goes on: what is proved of it
use Rattle.std.proofs.Common.{◌≡◌, ◌≢◌, ℕ, ◌+◌, ◌<◌, sym, ap, ◌∙◌, subst, arith, Bool, eqb, List, [], ◌∷◌, ◌++◌, length, length-append, inl, inr}
use Rattle.std.proofs.lemmas.Bool.{cond-false, cond-true, eq-eqb, ne_eqb, cases_eq}
use Rattle.shm_words.specs.Layout.{total_of}
use Rattle.shm_graph.specs.declared.{ask.{Ask.{Ask, TheVariants.Load}, Me.Me}, spot.Spot.{Spot, TheVariants.Body}}
use Rattle.shm_graph.specs.declared.memo.{Look.Look, Memo.Memo, Op.TheVariants.Nothing}
use Rattle.shm_graph.specs.{Asks.{at_of, seen_of, words_after}, Blocks.classes, Changes.memo_on, Core.core, Held.HeldAt}
use Rattle.shm_graph.specs.{Laws.{Frame, framed, Stands}, Ops.cover_of, Reach.learnt, MemoAfterRead.values_read}
use Rattle.shm_graph.specs.{Spots.spot_at, Views.{at1, view}}
use Rattle.shm_graph.proofs.Runs.Lists.{at1_here}
use Rattle.plans.specs.{declared.word.Word.Word, Words.IsWord}
use Rattle.kind_parts.specs.{Reparting.{sight, IsKnown}, Walking.{IsSeeking, Reads}}
use Rattle.kind_parts.specs.WordParts.{IsLatchedWord, IsPlainWord, ReferenceLoaded, WordLoaded}
use Rattle.kind_parts.proofs.Partitions.{Seeking.{seek_kept, seek_known, seek_next}, Walked.walk_key}
use Rattle.kind_parts.proofs.Words.{Blocks.{plain_load, reference_load, idle_settled}, Own.word_for}
use Rattle.shm_count.specs.Proved.TableReading.{word_reads, look_reads}
use Rattle.shm_table.specs.EntryReads.{EntryRead, EntryReads}

-- ---- what a load leaves, for a walk

-- a reference word under its author's latch, and where it names a block a look of it
pub reference_reads : (b i : ℕ) (m : Memo) (n : ℕ) (x : Memo) → ReferenceLoaded b i m n x → Reads m x b i n × (n ≢ 0 → x.looks ≡ m.looks ++ record { block = n; from = Body b i } ∷ [])
reference_reads b i m n x h =
    elim (cases_eq n 0) [
      | inl e ↦ (
        word_reads m x b i n (h.left ∙ ap core {y = record m { known = learnt (Body b i) n m.known }} (cond-true (eqb n 0) _ _ (eq-eqb n 0 e))),
        λ some. absurd (some e),
      )
      | inr some ↦ (let u = look_reads m x b i n some (h.left ∙ ap core {y = record m { looks = m.looks ++ record { block = n; from = Body b i } ∷ []; known = learnt (Body b i) n m.known; values = values_read m b i n }} (cond-false (eqb n 0) _ _ (ne_eqb n 0 some))) in
          (u.0, λ _. u.1))
    ]

-- no list is itself and one more
no_more : (ks : List Look) (k : Look) → ks ≢ ks ++ k ∷ []
no_more ks k e = let f = ap length e in absurd (omega (arith, f, length-append ks (k ∷ [])))

-- over two states with the same words
module _ (me : Me) (w : Spot → ℕ) (r0 r : ℕ → Memo) (h0 : HeldAt me.geometry w (view r0)) (h : HeldAt me.geometry w (view r)) (l : me.who < me.geometry.clients) (idle : (r0 me.who).op ≡ Nothing) (key b j n : ℕ) (reads : Reads (r0 me.who) (r me.who) b j n)
    (looks : (r me.who).looks ≡ (r0 me.who).looks ++ record { block = n; from = Body b j } ∷ [] → j < 2) (look : j ≡ 0 → n ≢ 0 → (r me.who).looks ≡ (r0 me.who).looks ++ record { block = n; from = Body b j } ∷ []) where
  read_at : EntryRead me.who key b j (r0 me.who) n (r me.who)
  read_at first p xs e ys seeks =
      let kept : IsSeeking me.who (r me.who) key first p b xs (e ∷ ys) = seek_kept me.geometry w r0 r me.who h0 h l idle key first p b xs e ys seeks j n reads looks in
      let word : IsKnown (sight me.who (r me.who)) (Body b j) n = seek_known me.geometry w r0 r me.who h0 h l idle key first p b xs e ys seeks j n reads looks in
      record {
        kept = kept;
        word = word;
        key_is = λ at. walk_key me.geometry w r me.who h l (ap cover_of (reads.op ∙ idle)) kept.table key p b n xs e ys kept.walk (subst (λ i. IsKnown (sight me.who (r me.who)) (Body b i) n) at word);
        next = λ at other. seek_next me.geometry w r0 r me.who h0 h l idle key first p b xs e ys seeks j n reads looks at (look at) other;
      }

-- ---- as parts

-- what follows from what is left by a step, before and after which the state is a held one, holds after it too
word_held : (first : Bool) (me : Me) (a : Ask) (after more : Memo → ℕ → Memo → Type 0) (m : Word) (r : Memo)
    → ((w : Spot → ℕ) (rs : ℕ → Memo) (f : Frame) → Stands me w rs f [] → rs me.who ≡ r → (n : ℕ) (x : Memo) → after r n x → HeldAt me.geometry (words_after w a (spot_at me.geometry (classes w) (at_of a))) (view (at1 rs me.who x)) → more r n x)
    → IsWord first me a after m r → IsWord first me a more m r
word_held first me a after more m r leads h =
    record {
      made = h.made;
      inside = h.inside;
      kept = λ w rs f s may same. let k = h.kept w rs f s may same in
          record {
            told = k.told;
            step = k.step;
            fits = leads w rs f s same (seen_of a (w (spot_at me.geometry (classes w) (at_of a)))) (memo_on (rs me.who) (framed me a f (seen_of a (w (spot_at me.geometry (classes w) (at_of a))))) (spot_at me.geometry (classes w) (at_of a))) k.fits k.step.held;
          };
      quiet = h.quiet;
    }

module _ (me : Me) (m : Memo) (l : me.who < me.geometry.clients) (idle : m.op ≡ Nothing) (key b : ℕ) where
  -- over a load, from what it reads
  over_load : (w : Spot → ℕ) (rs : ℕ → Memo) (j n : ℕ) (x : Memo) → HeldAt me.geometry w (view rs) → rs me.who ≡ m → HeldAt me.geometry w (view (at1 rs me.who x)) → Reads m x b j n → (x.looks ≡ m.looks ++ record { block = n; from = Body b j } ∷ [] → j < 2) → (j ≡ 0 → n ≢ 0 → x.looks ≡ m.looks ++ record { block = n; from = Body b j } ∷ [])
      → EntryRead me.who key b j m n x
  over_load w rs j n x h0 same h reads looks look =
      let here : at1 rs me.who x me.who ≡ x = at1_here rs me.who x in
      subst (λ (y : Memo). EntryRead me.who key b j m n y) here
      (subst (λ (y : Memo). y.op ≡ Nothing → Reads y (at1 rs me.who x me.who) b j n → ((at1 rs me.who x me.who).looks ≡ y.looks ++ record { block = n; from = Body b j } ∷ [] → j < 2) → (j ≡ 0 → n ≢ 0 → (at1 rs me.who x me.who).looks ≡ y.looks ++ record { block = n; from = Body b j } ∷ []) → EntryRead me.who key b j y n (at1 rs me.who x me.who)) same
      (λ q. read_at me w rs (at1 rs me.who x) h0 h l q key b j n)
      idle
      (subst (λ (y : Memo). Reads m y b j n) (sym here) reads)
      (subst (λ (y : Memo). y.looks ≡ m.looks ++ record { block = n; from = Body b j } ∷ [] → j < 2) (sym here) looks)
      (subst (λ (y : Memo). j ≡ 0 → n ≢ 0 → y.looks ≡ m.looks ++ record { block = n; from = Body b j } ∷ []) (sym here) look))

  -- the next word or the value word
  pub entry_load : (first : Bool) (j : ℕ) → j < 2 → (0 < b + 2 + j) × (b + 2 + j < total_of me.geometry) → IsLatchedWord me.geometry.wide me.who m b j
      → IsWord first me (Load (b + 2 + j)) (λ r n x. ReferenceLoaded b j r n x × EntryRead me.who key b j r n x) (word_for me (Load (b + 2 + j))) m
  entry_load first j low inside word =
      word_held first me (Load (b + 2 + j)) (ReferenceLoaded b j) (λ r n x. ReferenceLoaded b j r n x × EntryRead me.who key b j r n x) (word_for me (Load (b + 2 + j))) m
      (λ w rs f st same n x left held. let u = reference_reads b j m n x left in (left, over_load w rs j n x st.held same held u.0 (λ _. low) (λ _. u.1)))
      (reference_load first me m l b j inside word (idle_settled m (Body b j) idle))

  -- the key word
  pub key_load : (first : Bool) → (0 < b + 2 + 2) × (b + 2 + 2 < total_of me.geometry) → IsPlainWord me.geometry.wide me.who m b 2
      → IsWord first me (Load (b + 2 + 2)) (λ r n x. WordLoaded (Body b 2) r n x × EntryRead me.who key b 2 r n x) (word_for me (Load (b + 2 + 2))) m
  key_load first inside word =
      word_held first me (Load (b + 2 + 2)) (WordLoaded (Body b 2)) (λ r n x. WordLoaded (Body b 2) r n x × EntryRead me.who key b 2 r n x) (word_for me (Load (b + 2 + 2))) m
      (λ w rs f st same n x left held. (
        left,
        over_load w rs 2 n x st.held same held (word_reads m x b 2 n left.left) (λ e. absurd (no_more m.looks (record { block = n; from = Body b 2 }) (sym (ap (λ (y : Memo). y.looks) left.left) ∙ e))) (λ z. absurd (omega arith)),
      ))
      (plain_load first me m l b 2 inside word (idle_settled m (Body b 2) idle))

-- the next word or the value word, where the key isn't told
pub entry_loads : (me : Me) (m : Memo) → me.who < me.geometry.clients → m.op ≡ Nothing → (b : ℕ) (first : Bool) (j : ℕ) → j < 2 → (0 < b + 2 + j) × (b + 2 + j < total_of me.geometry) → IsLatchedWord me.geometry.wide me.who m b j
    → IsWord first me (Load (b + 2 + j)) (EntryReads me b j) (word_for me (Load (b + 2 + j))) m
entry_loads me m l idle b first j low inside word =
    word_held first me (Load (b + 2 + j)) (ReferenceLoaded b j) (EntryReads me b j) (word_for me (Load (b + 2 + j))) m
    (λ w rs f st same n x left held. let u = reference_reads b j m n x left in (left, λ key. over_load me m l idle key b w rs j n x st.held same held u.0 (λ _. low) (λ _. u.1)))
    (reference_load first me m l b j inside word (idle_settled m (Body b j) idle))
