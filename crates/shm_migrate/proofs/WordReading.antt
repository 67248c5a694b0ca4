-- the words of an image of format 1, and what they become
use Rattle.std.proofs.Common.{◌≡◌, ◌≢◌, ℕ, ◌+◌, ◌-◌, ◌*◌, ◌/◌, ◌%◌, ◌<◌, ◌≤◌, Bool, true, false, eqb, ltb, cond, List, get_or, IfSome, refl, sym, ap, ◌∙◌, arith, rules, inl, inr}
use Rattle.std.proofs.lemmas.Bool.{cases_Bool, cond-true, cond-false, lt-ltb, true≢false}
use Rattle.std.specs.Prelude.{Option, Some, None}
use Rattle.shm_words.specs.declared.{geometry.Geometry.Geometry, tag.Tag.Tag as ATag}
use Rattle.shm_words.specs.{Layout.{address, place_at, redo_place, total_of}, Headers.header_of, Tags.{tag_of, TagFits}}
use Rattle.shm_words.specs.declared.place.Place.TheVariants as place
use Rattle.shm_words.proofs.Words.{tag_fields, tag_fits}
use Rattle.shm_graph.specs.declared.spot.Spot.{Spot}
use Rattle.shm_graph.specs.declared.spot.Spot.TheVariants.{Spare, Redo, RedoMore, Home, Root, Slot, Unused, Tag, Body}
use Rattle.shm_graph.specs.Spots.{spot_of, spot_at, classes_in, is_in_body, see}
use Rattle.shm_graph.specs.{Blocks.{classes, headers, IsBlock, IsLive}, References.{references, words_of}}
use Rattle.shm_graph.specs.Clean.{IsClean}
use Rattle.shm_graph.proofs.Spots.{Seeing.see_at, WordsAt.{block_header, block_tag}}
use Rattle.shm_migrate.specs.Widened.{wide_of, moved, live_tag, widened_at, widened_word}
use Rattle.shm_migrate.proofs.Places.{status_place, redo_place_at}

-- ---- words that are references

-- a word outside of the pages that is a reference word
abbrev pub is_name : Spot → Bool
is_name (Home c) = true
is_name (Root c k) = true
is_name (Slot s r k) = true
is_name _ = false

pub name_moves : (g : Geometry) (w : Spot → ℕ) (p : Spot) → is_name p ≡ true → widened_at g w p ≡ moved g (w p)
name_moves g w (Home c) e = refl
name_moves g w (Root c k) e = refl
name_moves g w (Slot s r k) e = refl
name_moves g w _ e = absurd cc

name_names : (wide : Bool) (w : Spot → ℕ) (p : Spot) → is_name p ≡ true → references wide w p ≡ w p
name_names wide w (Home c) e = refl
name_names wide w (Root c k) e = refl
name_names wide w (Slot s r k) e = refl
name_names wide w _ e = absurd cc

-- a word before the bodies that stays as it is
pub word_stays : (g : Geometry) (w : Spot → ℕ) (p : Spot) → (p ≡ Spare → ⊥) → ((c : ℕ) → p ≡ Redo c → ⊥) → ((c : ℕ) → p ≡ RedoMore c → ⊥) → ((c : ℕ) → p ≡ Home c → ⊥) → ((c k : ℕ) → p ≡ Root c k → ⊥) → ((s r k : ℕ) → p ≡ Slot s r k → ⊥) → is_in_body p ≡ false → widened_at g w p ≡ w p
word_stays g w Spare n r m h o s out = absurd (n refl)
word_stays g w (Redo c) n r m h o s out = absurd (r c refl)
word_stays g w (RedoMore c) n r m h o s out = absurd (m c refl)
word_stays g w (Home c) n r m h o s out = absurd (h c refl)
word_stays g w (Root c k) n r m h o s out = absurd (o c k refl)
word_stays g w (Slot x y k) n r m h o s out = absurd (s x y k refl)
word_stays g w (Unused a) n r m h o s out = absurd (true≢false out)
word_stays g w (Tag d) n r m h o s out = absurd (true≢false out)
word_stays g w (Body d i) n r m h o s out = absurd (true≢false out)
word_stays g w _ n r m h o s out = refl

told_live : (live : Bool) (o : Option ATag) (t : ATag) → cond live o None ≡ Some t → (live ≡ true) × (o ≡ Some t)
told_live true o t e = (refl, e)
told_live false o t e = absurd cc

module _ (g : Geometry) (ws : List ℕ) (clean : IsClean g (see g ws)) where
  pub name_live : (a : ℕ) (p : Spot) (word : ℕ) → a < total_of g → spot_at g (classes_in g ws) a ≡ p → is_name p ≡ true → word ≡ get_or ws a 0 → word ≢ 0 → IsLive (headers (see g ws)) word
  name_live a p word l e is same h =
      let x : references g.wide (see g ws) p ≡ word = name_names g.wide (see g ws) p is ∙ (see_at g ws a p l e ∙ sym same) in
      rw (sym x) (clean.targets p (λ z. h (sym x ∙ z)))

  pub body_live : (a b i word : ℕ) (o : Option ATag) → a < total_of g → spot_at g (classes_in g ws) a ≡ Body b i → word ≡ get_or ws a 0 → o ≡ live_tag g (see g ws) b → IfSome o (λ t. i < t.refs → word ≢ 0 → IsLive (headers (see g ws)) word)
  body_live a b i word None l e same says = search rules
  body_live a b i word (Some t) l e same says = λ m h.
      let k = told_live (headers (see g ws) b).live (tag_of g.wide (see g ws (Tag b))) t (sym says) in
      let r : (words_of g.wide (see g ws)).refs b ≡ t.refs = cond-true (headers (see g ws) b).live _ 0 k.0 ∙ sym (tag_fields g.wide _ t k.1).1 in
      let x : references g.wide (see g ws) (Body b i) ≡ word = cond-true (ltb i ((words_of g.wide (see g ws)).refs b)) _ 0 (ap (ltb i) r ∙ lt-ltb i t.refs m) ∙ (see_at g ws a (Body b i) l e ∙ sym same) in
      rw (sym x) (clean.targets (Body b i) (λ z. h (sym x ∙ z)))

-- ---- the tag of a block

module _ (g : Geometry) (ws : List ℕ) (b : ℕ) (is : IsBlock g (classes_in g ws) b) (o : g.wide ≡ false) where
  pub tag_of_live : spot_at g (classes_in g ws) (b + 1) ≡ Tag b → (header_of (get_or ws b 0)).live ≡ true → live_tag g (see g ws) b ≡ tag_of false (get_or ws (b + 1) 0)
  tag_of_live spot live =
      cond-true (headers (see g ws) b).live _ None (ap (λ w. (header_of w).live) (block_header g ws b is) ∙ live)
      ∙ (ap (tag_of g.wide) (block_tag g ws b spot) ∙ ap (λ wide. tag_of wide (get_or ws (b + 1) 0)) o)

  pub tag_of_dead : (header_of (get_or ws b 0)).live ≡ false → live_tag g (see g ws) b ≡ None
  tag_of_dead dead = cond-false (headers (see g ws) b).live _ None (ap (λ w. (header_of w).live) (block_header g ws b is) ∙ dead)

pub read_fits : (word : ℕ) (o : Option ATag) → o ≡ tag_of false word → IfSome o (λ t. TagFits false t)
read_fits word None e = search rules
read_fits word (Some t) e = tag_fits false word t (sym e)

-- ---- the words before those that stand further on

pub spare_word : (g : Geometry) (w : Spot → ℕ) (a : ℕ) → a ≡ 0 → widened_word g w a ≡ 0
unfolding widened_word place_at
spare_word g w a e = ap (λ k. widened_at g w (spot_of (classes w) (address g (place_at (wide_of g) k)) (place_at (wide_of g) k))) e

pub status_word : (g : Geometry) (ws : List ℕ) (a : ℕ) → a ≢ 0 → a ≤ g.clients → a < total_of g → widened_word g (see g ws) a ≡ get_or ws a 0
unfolding widened_word spot_at
status_word g ws a n l m =
    let p : 0 < a = omega arith in
    ap (λ q. widened_at g (see g ws) (spot_of (classes (see g ws)) (address g q) q)) (status_place (wide_of g) a p l)
    ∙ see_at g ws a _ m (ap (spot_of (classes_in g ws) a) (status_place g a p l))

redo_word_at : (g : Geometry) (w : Spot → ℕ) (a i : ℕ) → widened_at g w (spot_of (classes w) a (redo_place true i)) ≡ 0
redo_word_at g w a i =
    elim (cases_Bool (eqb (i % 2) 0)) [
      | inl e ↦ ap (λ z. widened_at g w (spot_of (classes w) a (cond z (place.Redo (i / 2)) (place.RedoMore (i / 2))))) e
      | inr e ↦ ap (λ z. widened_at g w (spot_of (classes w) a (cond z (place.Redo (i / 2)) (place.RedoMore (i / 2))))) e
    ]

pub redo_word : (g : Geometry) (w : Spot → ℕ) (a : ℕ) → g.clients < a → a ≤ 3 * g.clients → widened_word g w a ≡ 0
unfolding widened_word
redo_word g w a l m =
    ap (λ q. widened_at g w (spot_of (classes w) (address g q) q)) (redo_place_at g.clients g.segments a l m)
    ∙ redo_word_at g w _ (a - (1 + g.clients))
