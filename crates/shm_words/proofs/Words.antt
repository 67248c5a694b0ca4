-- headers, tags and redo words are inverse to what they are unpacked to
use Rattle.std.proofs.Common.{◌≡◌, ◌≢◌, ℕ, ◌^◌, ◌%◌, ◌<◌, ◌≤◌, Bool, true, false, refl, arith, rules}
use Rattle.std.proofs.lemmas.{Grind.common_steps, Bool.Decides.nat_tests}
use Rattle.std.specs.Prelude.{Some}
use Rattle.shm_words.specs.declared.{header.Header.Header, tag.Tag.Tag, redo.Redo.Redo}
use Rattle.shm_words.specs.{declared.redo.Redo.TheVariants.{Idle, Up, Down, Change}, Layout.place_limit}
use Rattle.shm_words.specs.Headers.{header_word, header_of, HeaderFits}
use Rattle.shm_words.specs.Tags.{tag_word, tag_of, tag_refs, tag_plain, tag_author, tag_link, tag_limit, tag_shape, TagFits}
use Rattle.shm_words.specs.Redos.{redo_first, redo_second, redo_of, RedoFits, fitted, kind_of, odd_of, slot_of, before_of, after_of}

-- ---- headers

pub header_of-word : (h : Header) → HeaderFits h → header_of (header_word h) ≡ h
unfolding header_of header_word
header_of-word h fits = first_of (search rules, grind (arith, common_steps))

pub header_word_small : (h : Header) → HeaderFits h → header_word h < 2 ^ 64
unfolding header_word
header_word_small h fits = first_of (search rules, grind (arith, common_steps))

pub header_fits : (w : ℕ) → HeaderFits (header_of w)
unfolding header_of
header_fits w = first_of (search rules, grind (arith, common_steps))

-- the word 0 is no live header
pub header_of_zero : (header_of 0).live ≡ false
unfolding header_of
header_of_zero = refl

pub live_not_zero : (w : ℕ) → (header_of w).live ≡ true → w ≢ 0
unfolding header_of
live_not_zero w h = grind (arith, nat_tests)

-- ---- tags

pub tag_of-word : (wide : Bool) (t : Tag) → TagFits wide t → tag_of wide (tag_word wide t) ≡ Some t
unfolding tag_of tag_word
tag_of-word false t fits = first_of (search rules, grind (arith, nat_tests))
tag_of-word true t fits = first_of (search rules, grind (arith, nat_tests))

pub tag_word-of : (wide : Bool) (w : ℕ) (t : Tag) → tag_of wide w ≡ Some t → tag_word wide t ≡ w
unfolding tag_of tag_word
tag_word-of false w t e = first_of (search rules, grind (arith, nat_tests))
tag_word-of true w t e = first_of (search rules, grind (arith, nat_tests))

pub tag_fits : (wide : Bool) (w : ℕ) (t : Tag) → tag_of wide w ≡ Some t → TagFits wide t
unfolding tag_of
tag_fits false w t e = first_of (search rules, grind (arith, nat_tests))
tag_fits true w t e = first_of (search rules, grind (arith, nat_tests))

pub tag_word_small : (wide : Bool) (t : Tag) → TagFits wide t → tag_word wide t < tag_limit wide
unfolding tag_word
tag_word_small false t fits = omega arith
tag_word_small true t fits = omega arith

-- and each word of a tag has 64 bits
pub tag_word_below : (wide : Bool) (t : Tag) → TagFits wide t → tag_word wide t < 2 ^ 64
unfolding tag_word
tag_word_below false t fits = omega arith
tag_word_below true t fits = omega arith

pub tag_refs-word : (wide : Bool) (t : Tag) → TagFits wide t → tag_refs wide (tag_word wide t) ≡ t.refs
unfolding tag_word
tag_refs-word false t fits = omega arith
tag_refs-word true t fits = omega arith

pub tag_plain-word : (wide : Bool) (t : Tag) → TagFits wide t → tag_plain wide (tag_word wide t) ≡ t.plain
unfolding tag_word
tag_plain-word false t fits = omega arith
tag_plain-word true t fits = omega arith

pub tag_author-word : (wide : Bool) (t : Tag) → TagFits wide t → tag_author wide (tag_word wide t) ≡ t.author
unfolding tag_word
tag_author-word false t fits = omega arith
tag_author-word true t fits = omega arith

pub tag_link-word : (wide : Bool) (t : Tag) → TagFits wide t → tag_link wide (tag_word wide t) ≡ t.link
unfolding tag_word
tag_link-word false t fits = omega arith
tag_link-word true t fits = omega arith

-- what a word says that is a tag
pub tag_fields : (wide : Bool) (w : ℕ) (t : Tag) → tag_of wide w ≡ Some t → (w < tag_limit wide) × (t.refs ≡ tag_refs wide w) × (t.plain ≡ tag_plain wide w) × (t.author ≡ tag_author wide w) × (t.link ≡ tag_link wide w)
unfolding tag_of
tag_fields wide w t e = first_of (search rules, grind (arith, nat_tests))

-- and which words are tags
pub tag_from_fields : (wide : Bool) (w : ℕ) → w < tag_limit wide → tag_refs wide w ≤ 16 → tag_plain wide w ≤ 8 → tag_of wide w ≡ Some (record { refs = tag_refs wide w; plain = tag_plain wide w; author = tag_author wide w; link = tag_link wide w })
unfolding tag_of
tag_from_fields wide w l r p = first_of (search rules, grind (arith, nat_tests))

-- ---- redo records

pub redo_of-words : (wide : Bool) (r : Redo) → RedoFits wide r → redo_of wide (redo_first wide r) (redo_second wide r) ≡ Some r
unfolding redo_of redo_first
redo_of-words false r fits = first_of (search rules, grind (arith, common_steps))
redo_of-words true r fits = first_of (search rules, grind (arith, common_steps))

-- in format 1 a redo record has no second word
pub redo_of-word : (r : Redo) (x : ℕ) → RedoFits false r → redo_of false (redo_first false r) x ≡ Some r
unfolding redo_of redo_first
redo_of-word r x fits = first_of (search rules, grind (arith, common_steps))

pub redo_words-of : (wide : Bool) (w x : ℕ) (r : Redo) → w < 2 ^ 64 → redo_of wide w x ≡ Some r → RedoFits wide r × (redo_first wide r ≡ w)
unfolding redo_of redo_first
redo_words-of false w x r l e = first_of (search rules, grind (arith, nat_tests))
redo_words-of true w x r l e = first_of (search rules, grind (arith, nat_tests))

pub redo_second-of : (w x : ℕ) (r : Redo) → w < 2 ^ 64 → redo_of true w x ≡ Some r → redo_second true r ≡ x
unfolding redo_of redo_first
redo_second-of w x r l e = first_of (search rules, grind (arith, nat_tests))

pub redo_first_small : (wide : Bool) (r : Redo) → RedoFits wide r → redo_first wide r < 2 ^ 64
unfolding redo_first
redo_first_small false r fits = first_of (search rules, grind (arith, common_steps))
redo_first_small true r fits = first_of (search rules, grind (arith, common_steps))

-- which kind of step the first word tells, and the parity of a change
pub kind_told : (wide : Bool) (w x : ℕ) (r : Redo) → redo_of wide w x ≡ Some r → kind_of w ≡ 3 → r ≡ Change (odd_of w) (slot_of wide w) (before_of wide w x) (after_of wide w)
unfolding redo_of
kind_told wide w x r e k = first_of (search rules, grind (arith, nat_tests))

pub change_told : (wide : Bool) (w x : ℕ) (odd : Bool) (p a b : ℕ) → redo_of wide w x ≡ Some (Change odd p a b) → (kind_of w ≡ 3) × (odd_of w ≡ odd)
unfolding redo_of
change_told wide w x odd p a b e = first_of (search rules, grind (arith, nat_tests))

-- a first word 0 is that of no step
pub redo_zero : (wide : Bool) (x : ℕ) (r : Redo) → redo_of wide 0 x ≡ Some r → r ≡ Idle
unfolding redo_of
redo_zero false x r e = first_of (search rules, grind (arith, nat_tests))
redo_zero true x r e = first_of (search rules, grind (arith, nat_tests))

-- the record with another block before
abbrev pub with_before : Redo → ℕ → Redo
with_before Idle x = Idle
with_before (Up p b) x = Up p b
with_before (Down p b) x = Down p x
with_before (Change odd p a b) x = Change odd p x b

-- what the first word of one record says with the second word of another
pub redo_mixed : (r : Redo) (x : ℕ) (s : Redo) → RedoFits true r → redo_of true (redo_first true r) x ≡ Some s → s ≡ with_before r x
unfolding redo_of redo_first
redo_mixed Idle x s f e = first_of (search rules, grind (arith, nat_tests))
redo_mixed (Up p b) x s f e = first_of (search rules, grind (arith, nat_tests))
redo_mixed (Down p b) x s f e = first_of (search rules, grind (arith, nat_tests))
redo_mixed (Change odd p a b) x s f e = first_of (search rules, grind (arith, nat_tests, common_steps))

-- the block before in a record of format 2
abbrev pub before_in : Redo → ℕ → ℕ
before_in (Down p b) x = b
before_in (Change odd p a b) x = a
before_in r x = x

pub second_told : (w x : ℕ) (r : Redo) → redo_of true w x ≡ Some r → before_in r x ≡ x
unfolding redo_of
second_told w x r e = first_of (search rules, grind (arith, nat_tests))

-- the words of tags have 64 bits
pub tag_limit_small : (wide : Bool) → tag_limit wide ≤ 2 ^ 64
tag_limit_small false = omega arith
tag_limit_small true = omega arith

-- the word 0 is a tag without words
pub plain_of_zero : (wide : Bool) → tag_plain wide 0 ≡ 0
plain_of_zero false = refl
plain_of_zero true = refl

-- places in range are brought nowhere
pub fitted_same : (wide : Bool) (r : Redo) → RedoFits wide r → fitted wide r ≡ r
fitted_same false Idle f = refl
fitted_same false (Up p b) f = grind (arith)
fitted_same false (Down p b) f = grind (arith)
fitted_same false (Change odd p a b) f = grind (arith)
fitted_same true Idle f = refl
fitted_same true (Up p b) f = grind (arith)
fitted_same true (Down p b) f = grind (arith)
fitted_same true (Change odd p a b) f = grind (arith)

-- a place has bits in both formats, and no more than format 2 has
pub place_some : (wide : Bool) → 0 < place_limit wide
place_some false = omega arith
place_some true = omega arith

pub place_most : (wide : Bool) → place_limit wide ≤ 2 ^ 24
place_most false = omega arith
place_most true = omega arith

pub place_below : (wide : Bool) (x : ℕ) → x % place_limit wide < place_limit wide
place_below false x = omega arith
place_below true x = omega arith

pub place_same : (wide : Bool) (x : ℕ) → x < place_limit wide → x % place_limit wide ≡ x
place_same false x l = omega arith
place_same true x l = omega arith

-- another link changes a tag by its link alone
pub link_shape : (wide : Bool) (h : Tag) (l : ℕ) → h.link < place_limit wide → l < place_limit wide → tag_shape wide (tag_word wide (record h { link = l })) ≡ tag_shape wide (tag_word wide h)
unfolding tag_word
link_shape false h l small less = omega arith
link_shape true h l small less = omega arith
