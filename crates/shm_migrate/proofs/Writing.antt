-- the words of a pool in format 2, written one behind the other
use Rattle.std.proofs.Common.{◌≡◌, ◌≢◌, ℕ, ◌+◌, ◌-◌, ◌*◌, ◌/◌, ◌%◌, ◌^◌, ◌<◌, ◌≤◌, ◌++◌, ◌∷◌, false, List, [], get_or, map, sym, ap, subst, ◌∙◌, below_more, arith, rules, inl, inr, Result, Ok, Err}
use Rattle.std.proofs.lemmas.{Bool.{cond-true, eq-eqb, Decides.nat_tests}, List.flat_map_more}
use Rattle.std.proofs.lemmas.List.FromFn.{map-range_with_len_more}
use Rattle.std.specs.{Prelude.OnOk, List.{flat_map, range_with_len}, Int.{w64, to_le_bytes}}
use Rattle.shm_words.specs.{declared.geometry.Geometry.Geometry, Layout.{GeometryFits, bodies, pages, total_of}}
use Rattle.shm_words.specs.Classes.{IsClass}
use Rattle.shm_graph.specs.declared.spot.Spot.{Spot, TheVariants.{Unused, Head, Tag, Body}}
use Rattle.shm_graph.specs.{Spots.{see, spot_at, class_at, classes_in}, Blocks.IsBlock, Clean.IsClean}
use Rattle.shm_graph.proofs.Spots.Spotting.{spot_in_bodies, block_within, tag_spot, body_spot}
use Rattle.shm_graph.proofs.Spots.{Seeing.{see_at, see_page}, WordsAt.block_header}
use Rattle.shm_audit.proofs.Blocks.{block_end, class_of_page}
use Rattle.shm_migrate.specs.Widened.{wide_of, live_tag, widened_tag, widened_body, widened_at, widened_word}
use Rattle.shm_migrate.specs.Writing.{IsWritten, WritesOn}
use Rattle.shm_migrate.proofs.{Formats.further_word, Widening.no_more}

module _ (g : Geometry) (ws : List ℕ) where
  -- the next word
  written_more : (start old new : List ℕ) (at word : ℕ) → IsWritten g ws start old at → word ≡ widened_word g (see g ws) at → word < 2 ^ 64 → new ≡ old ++ to_le_bytes w64 word → IsWritten g ws start new (at + 1)
  written_more start old new at word h e l n =
      let f = widened_word g (see g ws) in
      let so_far = map f (range_with_len 0 at) in
      record {
        items =
            n
            ∙ (ap (λ (xs : List ℕ). xs ++ to_le_bytes w64 word) h.items
            ∙ (flat_map_more (to_le_bytes w64) start so_far word
            ∙ ap (λ (xs : List ℕ). start ++ flat_map (to_le_bytes w64) xs) (ap (λ (x : ℕ). so_far ++ x ∷ []) e ∙ sym (map-range_with_len_more f 0 at at (omega arith)))));
        small = below_more _ _ h.small (omega arith);
      }

  pub writes_more : (first old new : List ℕ) (from at to word : ℕ) → WritesOn g ws first old from at → to ≡ at + 1 → word ≡ widened_word g (see g ws) at → word < 2 ^ 64 → new ≡ old ++ to_le_bytes w64 word → WritesOn g ws first new from to
  writes_more first old new from at to word h t e l n = λ start w. subst (IsWritten g ws start new) (sym t) (written_more start old new at word (h start w) e l n)

pub class_above : (k : ℕ) → IsClass k → 3 < k
class_above k is = grind (arith, nat_tests)

pub class_small : (k : ℕ) → IsClass k → k < 33
class_small k is = grind (arith, nat_tests)

-- what is written of a pool's bodies
module _ (g : Geometry) (ws : List ℕ) (f : GeometryFits g) (o : g.wide ≡ false) where
  word_in_body : (a : ℕ) (p : Spot) → bodies g ≤ a → a < total_of g → spot_at g (classes_in g ws) a ≡ p → widened_word g (see g ws) (a + g.clients) ≡ widened_at g (see g ws) p
  word_in_body a p l m e = further_word g ws f o a (omega arith) m ∙ ap (widened_at g (see g ws)) e

  pub unused_written : (p k : ℕ) → p < 16 * g.segments → get_or ws (pages g + p) 0 ≡ 0 → k < 128 → widened_word g (see g ws) (bodies g + 128 * p + g.clients + k) ≡ 0
  unused_written p k l z m =
      let a = bodies g + 128 * p + k in
      let s : spot_at g (classes_in g ws) a ≡ Unused a = spot_in_bodies g (classes_in g ws) a (omega arith) (omega arith) ∙ cond-true _ _ _ (eq-eqb _ _ (class_of_page g ws p a f l (omega arith) (omega arith) ∙ z)) in
      let e : a + g.clients ≡ bodies g + 128 * p + g.clients + k = omega arith in
      ap (widened_word g (see g ws)) (sym e) ∙ word_in_body a (Unused a) (omega arith) (omega arith) s

  -- the word of a page of a clean pool that is in use
  pub used_class : (p : ℕ) → IsClean g (see g ws) → p < 16 * g.segments → get_or ws (pages g + p) 0 ≢ 0 → IsClass (get_or ws (pages g + p) 0)
  used_class p clean l n =
      let a = bodies g + 128 * p in
      let s = (a - bodies g) / 2048 in
      let t = (a - bodies g) / 128 % 16 in
      let e = see_page g ws f s t ∙ class_of_page g ws p a f l (omega arith) (omega arith) in
      elim (clean.pages s t) [
        | inl z ↦ absurd (n (sym e ∙ z))
        | inr c ↦ subst (λ k. IsClass k) e c
      ]

  module _ (b k : ℕ) (is : IsBlock g (classes_in g ws) b) (class : class_at g (classes_in g ws) b ≡ k) (sized : IsClass k) where
    block_class : IsClass (class_at g (classes_in g ws) b)
    block_class = let P : ℕ → Type 0 = λ n. IsClass n in subst P (sym class) sized

    pub tag_here : spot_at g (classes_in g ws) (b + 1) ≡ Tag b
    tag_here = tag_spot g (classes_in g ws) b is block_class

    pub body_here : (i : ℕ) → 2 + i < k → spot_at g (classes_in g ws) (b + 2 + i) ≡ Body b i
    body_here i l = body_spot g (classes_in g ws) b i is block_class (omega arith)

    pub head_written : (word : ℕ) → word ≡ get_or ws b 0 → word ≡ widened_word g (see g ws) (b + g.clients)
    head_written word e =
        let w = block_within g (classes_in g ws) b is in
        e ∙ sym (word_in_body b (Head b) w.0 w.1 is ∙ block_header g ws b is)

    pub tag_written : (word : ℕ) → word ≡ widened_tag (live_tag g (see g ws) b) → word ≡ widened_word g (see g ws) (b + 1 + g.clients)
    tag_written word e =
        let w = block_within g (classes_in g ws) b is in
        let m = block_end g ws b k (record { is = is; class = class; sized = sized }) in
        let a = class_above k sized in
        e ∙ sym (word_in_body (b + 1) (Tag b) (omega arith) (omega arith) tag_here)

    pub body_written : (i old word : ℕ) → 2 + i < k → old ≡ get_or ws (b + 2 + i) 0 → word ≡ widened_body g (live_tag g (see g ws) b) i old → word ≡ widened_word g (see g ws) (b + 2 + i + g.clients)
    body_written i old word l h e =
        let w = block_within g (classes_in g ws) b is in
        let m = block_end g ws b k (record { is = is; class = class; sized = sized }) in
        let s = body_here i l in
        e
        ∙ (ap (widened_body g (live_tag g (see g ws) b) i) (h ∙ sym (see_at g ws (b + 2 + i) (Body b i) (omega arith) s))
        ∙ sym (word_in_body (b + 2 + i) (Body b i) (omega arith) (omega arith) s))

-- what follows from a clause follows where there is an answer
pub on_ok : {T E P Q : Type 0} (r : Result T E) → (P → Q) → OnOk r P → OnOk r Q
on_ok (Ok x) h p = h p
on_ok (Err e) h p = p

-- nothing is written yet
pub none_written : (g : Geometry) (ws start : List ℕ) → IsWritten g ws start start 0
none_written g ws start = record { items = search rules; small = λ a l. absurd (omega arith) }

-- all words, where those before the bodies and then those of all pages were written
pub whole : (g : Geometry) (ws start front bytes : List ℕ) (page : ℕ) → g.wide ≡ false → page ≡ 16 * g.segments → WritesOn g ws start front 0 (bodies g + g.clients) → WritesOn g ws front bytes (bodies g + g.clients) (bodies g + 128 * page + g.clients) → IsWritten g ws start bytes (total_of (wide_of g))
whole g ws start front bytes page o e h k =
    let m = no_more g o in
    let n : bodies g + 128 * page + g.clients ≡ total_of (wide_of g) = omega arith in
    subst (IsWritten g ws start bytes) n (k start (h start (none_written g ws start)))
