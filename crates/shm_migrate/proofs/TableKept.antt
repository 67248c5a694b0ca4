-- the table of a clean pool of format 1 in format 2: the same keys and numbers
use Rattle.std.proofs.Common.{◌≡◌, ◌≢◌, ℕ, ◌+◌, ◌<◌, ◌≤◌, true, false, ltb, List, [], ◌∷◌, map, refl, sym, ap, subst, ◌∙◌, arith, inl, inr}
use Rattle.std.proofs.lemmas.Bool.{cases_eq, cond-true, cond-false, lt-ltb, le-ltb}
use Rattle.std.specs.{Prelude.nat_eq, List.IsDistinct}
use Rattle.shm_words.specs.{Layout.GeometryFits, Tags.{tag_word, tag_refs, tag_plain, tag_author}}
use Rattle.shm_words.specs.declared.place.Place.TheVariants as place
use Rattle.shm_words.proofs.Words.{tag_fields, tag_refs-word, tag_plain-word, tag_author-word}
use Rattle.shm_graph.specs.declared.{spot.Spot.{Spot, TheVariants.{Home, Tag, Body}}, table.Entry.Entry}
use Rattle.shm_graph.specs.{Spots.{spot_at, spot_address, classes_in, see}, Blocks.{headers, IsLive}}
use Rattle.shm_graph.specs.{References.references, Clean.IsClean}
use Rattle.shm_graph.specs.Tables.{Contents, contents_of, HasShape, IsEntry, IsChain, IsPartition, IsTable}
use Rattle.shm_graph.proofs.Spots.{Spotting.{tag_spot, body_spot}, SpotPlaces.home_at, Seeing.see_there}
use Rattle.shm_graph.proofs.States.Reading.{live_block, live_class, live_room}
use Rattle.shm_migrate.specs.Widened.{moved, moved_entry, moved_table, widened, widened_body}
use Rattle.shm_migrate.proofs.Places.{narrow, wide}
use Rattle.shm_migrate.proofs.Widening as widening

module _ (n s : ℕ) (ws : List ℕ) (f : GeometryFits (narrow n s)) (clean : IsClean (narrow n s) (see (narrow n s) ws)) where
  abbrev before : Spot → ℕ
  before = see (narrow n s) ws

  abbrev after : Spot → ℕ
  after = see (wide n s) (widened (narrow n s) ws)

  abbrev old : Contents
  old = contents_of false before (references false before)

  abbrev new : Contents
  new = contents_of true after (references true after)

  -- ---- the words of a block

  spot_of_tag : (b : ℕ) → IsLive (headers before) b → spot_at (narrow n s) (classes_in (narrow n s) ws) (b + 1) ≡ Tag b
  spot_of_tag b live = tag_spot (narrow n s) (classes_in (narrow n s) ws) b (live_block (narrow n s) ws b live) (live_class (narrow n s) ws b f clean live)

  module _ (r p b : ℕ) (shape : HasShape old r p b) where
    names_told : (clean.tags b shape.live).tag.refs ≡ r
    names_told = (tag_fields false _ _ (clean.tags b shape.live).is).1 ∙ shape.names

    words_told : (clean.tags b shape.live).tag.plain ≡ p
    words_told = (tag_fields false _ _ (clean.tags b shape.live).is).2 ∙ shape.words

    tag_moved : after (Tag (b + n)) ≡ tag_word true (widening.wide_tag n s ws f clean (clean.tags b shape.live).tag)
    tag_moved = widening.tag_further n s ws f clean b shape.live (spot_of_tag b shape.live)

    shape_further : HasShape new r p (b + n)
    shape_further =
        record {
          live = widening.live_further n s ws f b ∙ shape.live;
          names = ap (tag_refs true) tag_moved ∙ (tag_refs-word true _ (widening.wide_tag_fits n s ws f clean b shape.live) ∙ names_told);
          words = ap (tag_plain true) tag_moved ∙ (tag_plain-word true _ (widening.wide_tag_fits n s ws f clean b shape.live) ∙ words_told);
        }

    author_further : tag_author true (after (Tag (b + n))) ≡ tag_author false (before (Tag b))
    author_further = ap (tag_author true) tag_moved ∙ (tag_author-word true _ (widening.wide_tag_fits n s ws f clean b shape.live) ∙ (tag_fields false _ _ (clean.tags b shape.live).is).3)

    body_there : (i : ℕ) → i < r + p → spot_at (narrow n s) (classes_in (narrow n s) ws) (b + 2 + i) ≡ Body b i
    body_there i l =
        body_spot (narrow n s) (classes_in (narrow n s) ws) b i (live_block (narrow n s) ws b shape.live) (live_class (narrow n s) ws b f clean shape.live)
        (omega (arith, live_room (narrow n s) ws b f clean shape.live, shape.names, shape.words))

    plain_further : (i : ℕ) → r ≤ i → i < r + p → after (Body (b + n) i) ≡ before (Body b i)
    plain_further i l m =
        let t = (clean.tags b shape.live).tag in
        widening.at_further n s ws f (b + 2 + i) (Body b i) (body_there i m) refl
        ∙ (ap (λ o. widened_body (narrow n s) o i (before (Body b i))) (widening.tag_told n s ws f clean b shape.live)
        ∙ (cond-false (ltb i t.refs) _ _ (le-ltb i t.refs (omega (arith, names_told)))
        ∙ cond-true (ltb i (t.refs + t.plain)) _ 0 (lt-ltb i (t.refs + t.plain) (omega (arith, names_told, words_told)))))

    names_further : (i : ℕ) → i < r → new.refs (b + n) i ≡ moved (narrow n s) (old.refs b i)
    names_further i l = widening.reference_further n s ws f clean (b + 2 + i) (Body b i) (body_there i (omega arith))

    block_moved : moved (narrow n s) b ≡ b + n
    block_moved = widening.moved_live n s ws f b shape.live

    shape_moved : HasShape new r p (moved (narrow n s) b)
    shape_moved = subst (HasShape new r p) (sym block_moved) shape_further

    author_moved : tag_author true (after (Tag (moved (narrow n s) b))) ≡ tag_author false (before (Tag b))
    author_moved = ap (λ a. tag_author true (after (Tag a))) block_moved ∙ author_further

    plain_moved : (i : ℕ) → r ≤ i → i < r + p → new.body (moved (narrow n s) b) i ≡ old.body b i
    plain_moved i l m = ap (λ a. after (Body a i)) block_moved ∙ plain_further i l m

    names_moved : (i : ℕ) → i < r → new.refs (moved (narrow n s) b) i ≡ moved (narrow n s) (old.refs b i)
    names_moved i l = ap (λ a. new.refs a i) block_moved ∙ names_further i l

  -- ---- entries and chains

  entry_moved : (c bucket : ℕ) (e : Entry) → IsEntry old c bucket e → IsEntry new c bucket (moved_entry (narrow n s) e)
  entry_moved c bucket e is =
      record {
        shape = shape_moved 2 1 e.block is.shape;
        author = author_moved 2 1 e.block is.shape ∙ is.author;
        key = plain_moved 2 1 e.block is.shape 2 (omega arith) (omega arith) ∙ is.key;
        small = is.small;
        placed = is.placed;
        value = names_moved 2 1 e.block is.shape 1 (omega arith) ∙ ap (moved (narrow n s)) is.value;
        holds = shape_moved 0 1 e.value is.holds;
        number = plain_moved 0 1 e.value is.holds 0 (omega arith) (omega arith) ∙ is.number;
      }

  chain_moved : (c bucket at : ℕ) (es : List Entry) → IsChain old c bucket at es → IsChain new c bucket (moved (narrow n s) at) (map (moved_entry (narrow n s)) es)
  chain_moved c bucket at [] h = ap (moved (narrow n s)) h
  chain_moved c bucket at (e ∷ es) h =
      let k = names_moved 2 1 e.block h.1.shape 0 (omega arith) in
      (ap (moved (narrow n s)) h.0, entry_moved c bucket e h.1, subst (λ a. IsChain new c bucket a (map (moved_entry (narrow n s)) es)) (sym k) (chain_moved c bucket (old.refs e.block 0) es h.2))

  same_keys : (es : List Entry) → map (λ (e : Entry). e.key) (map (moved_entry (narrow n s)) es) ≡ map (λ (e : Entry). e.key) es
  same_keys [] = refl
  same_keys (e ∷ es) = ap (λ ks. e.key ∷ ks) (same_keys es)

  -- ---- partitions

  home_moved : (c : ℕ) → c < n → after (Home c) ≡ moved (narrow n s) (before (Home c))
  unfolding spot_address
  home_moved c l =
      let h = lt-ltb c n l in
      see_there (wide n s) (widened (narrow n s) ws) (Home c) (home_at (wide n s) (classes_in (wide n s) (widened (narrow n s) ws)) c h)
      ∙ widening.of_place n s ws f (place.Home c) h

  named : (h : ℕ) → moved (narrow n s) h ≢ 0 → h ≢ 0
  named h k = λ z. k (ap (moved (narrow n s)) z)

  partition_moved : (c home : ℕ) (chains : ℕ → List Entry) → IsPartition old c home chains → IsPartition new c (moved (narrow n s) home) (λ b. map (moved_entry (narrow n s)) (chains b))
  partition_moved c home chains is =
      record {
        none = λ z b. ap (map (moved_entry (narrow n s))) (is.none (unnamed z) b);
        shape = λ k. shape_moved 16 0 home (is.shape (named home k));
        author = λ k. author_moved 16 0 home (is.shape (named home k)) ∙ is.author (named home k);
        chain = λ k b l. subst (λ a. IsChain new c b a (map (moved_entry (narrow n s)) (chains b))) (sym (names_moved 16 0 home (is.shape (named home k)) b l)) (chain_moved c b _ (chains b) (is.chain (named home k) b l));
        distinct = λ b. subst (IsDistinct nat_eq) (sym (same_keys (chains b))) (is.distinct b);
        beyond = λ b l. ap (map (moved_entry (narrow n s))) (is.beyond b l);
      }
    where
      -- a home that names a block names it in format 2
      unnamed : moved (narrow n s) home ≡ 0 → home ≡ 0
      unnamed z =
          elim (cases_eq home 0) [
            | inl e ↦ e
            | inr k ↦ absurd (let b = block_moved 16 0 home (is.shape k) in let y : home + n ≡ 0 = sym b ∙ z in k (omega arith))
          ]

  pub table_kept : (table : ℕ → ℕ → List Entry) → IsTable (narrow n s) before table → IsTable (wide n s) after (moved_table (narrow n s) table)
  table_kept table is = λ c l. subst (λ h. IsPartition new c h (moved_table (narrow n s) table c)) (sym (home_moved c l)) (partition_moved c (before (Home c)) (table c) (is c l))
