-- the words of a pool of format 1 in format 2, spot by spot
use Rattle.std.proofs.Common.{◌≡◌, ◌≢◌, ℕ, ◌+◌, ◌-◌, ◌^◌, ◌<◌, ◌≤◌, Bool, true, false, ltb, eqb, List, length, map, get_or, refl, sym, ap, ◌∙◌, arith, inl, inr}
use Rattle.std.proofs.lemmas.Bool.{cases_Bool, cases_lt, cases_eq, cond-true, cond-false, lt-ltb, le-ltb, ne_eqb, true≢false}
use Rattle.std.proofs.lemmas.List.{get_or_past, FromFn.{get_or-map-range_with_len, length-map-range_with_len}}
use Rattle.std.specs.{Prelude.{Some, None}, List.range_with_len}
use Rattle.shm_words.specs.declared.{geometry.Geometry.Geometry, place.Place.Place, tag.Tag.Tag as ATag}
use Rattle.shm_words.specs.{Layout.{GeometryFits, address, is_in, place_at, more, more_of, total_of}, Headers.header_of}
use Rattle.shm_words.specs.Tags.{tag_word, tag_refs, TagFits}
use Rattle.shm_words.specs.declared.place.Place.TheVariants as place
use Rattle.shm_words.proofs.Placing.{place-address, address-place, address_below}
use Rattle.shm_words.proofs.Words.{tag_fields, tag_fits, tag_refs-word}
use Rattle.shm_graph.specs.declared.spot.Spot.{Spot, TheVariants.{Home, Root, Slot, Head, Tag, Body}}
use Rattle.shm_graph.specs.Spots.{spot_of, spot_at, spot_address, classes_in, see}
use Rattle.shm_graph.specs.{Blocks.{classes, headers, IsBlock, IsLive}, References.{references, words_of}}
use Rattle.shm_graph.specs.Clean.{IsClean}
use Rattle.shm_graph.proofs.Spots.Spotting.{at_below, block_within, body_block, head_at, is_at_block, is_below}
use Rattle.shm_graph.proofs.{Spots.Seeing.{see_at, seen_is_at, see_page, classes-see}, States.Reading.live_block}
use Rattle.shm_audit.proofs.Cleaning.{names_in}
use Rattle.shm_migrate.specs.Widened.{wide_of, moved, live_tag, widened_tag, widened_body, widened_at, widened_word, widened}
use Rattle.shm_migrate.proofs.Places.{narrow, wide, front, place_further, further, spot_further, is_front, front_spot, front_spot_narrow}

-- ---- names of spots

head_is : (n b : ℕ) (p : Spot) → Head b ≡ further n p → (c : ℕ) × (p ≡ Head c) × (c + n ≡ b)
head_is n b (Head c) e = (c, refl, cc)
head_is n b p e = absurd cc

not_front : (wide : Bool) (w : Spot → ℕ) (p : Spot) → references wide w p ≢ 0 → is_front p ≡ false
not_front wide w (Home c) h = refl
not_front wide w (Root c k) h = refl
not_front wide w (Slot s r k) h = refl
not_front wide w (Body b i) h = refl
not_front wide w _ h = absurd (h refl)

pub wide_fits : (n s : ℕ) → GeometryFits (narrow n s) → GeometryFits (wide n s)
wide_fits n s f = record { client = f.client; clients = f.clients; segment = f.segment; segments = (let l = f.segments in omega arith) }

-- a pool of format 1 has no second words of redo records
pub no_more : (g : Geometry) → g.wide ≡ false → more g ≡ 0
no_more g o = ap (λ (wide : Bool). more_of wide g.clients) o

-- each of the widened words is small where those at all addresses are
pub widened_small : (g : Geometry) (ws : List ℕ) → ((a : ℕ) → a < total_of (wide_of g) → widened_word g (see g ws) a < 2 ^ 64) → (i : ℕ) → get_or (widened g ws) i 0 < 2 ^ 64
unfolding widened
widened_small g ws h i =
    let f = widened_word g (see g ws) in
    elim (cases_lt i (total_of (wide_of g))) [
      | inl l ↦ (let e = get_or-map-range_with_len f 0 (total_of (wide_of g)) i i 0 l (omega arith) in let k = h i l in omega arith)
      | inr l ↦ (let m = length-map-range_with_len f 0 (total_of (wide_of g)) in let e = get_or_past (map f (range_with_len 0 (total_of (wide_of g)))) i 0 (omega arith) in omega arith)
    ]

module _ (n s : ℕ) (ws : List ℕ) (f : GeometryFits (narrow n s)) where
  abbrev old : Geometry
  old = narrow n s

  abbrev new : Geometry
  new = wide n s

  abbrev class : ℕ → ℕ → ℕ
  class = classes_in (narrow n s) ws

  abbrev before : Spot → ℕ
  before = see (narrow n s) ws

  abbrev after : Spot → ℕ
  after = see (wide n s) (widened (narrow n s) ws)

  -- ---- addresses

  pub widened_long : length (widened old ws) ≡ total_of new
  unfolding widened
  widened_long = length-map-range_with_len (widened_word old before) 0 (total_of new)

  pub widened_here : (a : ℕ) → a < total_of new → get_or (widened old ws) a 0 ≡ widened_word old before a
  unfolding widened
  widened_here a l = get_or-map-range_with_len (widened_word old before) 0 (total_of new) a a 0 l (omega arith)

  pub of_place : (q : Place) → is_in new q ≡ true → get_or (widened old ws) (address new q) 0 ≡ widened_at old before (spot_of (classes before) (address old q) q)
  unfolding widened_word
  of_place q h =
      widened_here (address new q) (address_below new q h (wide_fits n s f))
      ∙ ap (λ p. widened_at old before (spot_of (classes before) (address old p) p)) (place-address new q h)

  pub word_further : (a : ℕ) → front n ≤ a → a < total_of old → widened_word old before (a + n) ≡ widened_at old before (spot_at old class a)
  unfolding widened_word spot_at
  word_further a l m =
      ap (λ p. widened_at old before (spot_of (classes before) (address old p) p)) (place_further n s a l)
      ∙ (ap (λ b. widened_at old before (spot_of (classes before) b (place_at old a))) (address-place old a m)
      ∙ ap (λ c. widened_at old before (spot_of c a (place_at old a))) (classes-see old ws f))

  -- ---- spots

  same_class : (t p : ℕ) → classes_in new (widened old ws) t p ≡ class t p
  same_class t p =
      elim (cases_Bool (is_in new (place.Page t p))) [
        | inl h ↦ cond-true (is_in new (place.Page t p)) _ 0 h ∙ (of_place (place.Page t p) h ∙ see_page old ws f t p)
        | inr h ↦ cond-false (is_in new (place.Page t p)) _ 0 h ∙ sym (cond-false (is_in old (place.Page t p)) _ 0 h)
      ]

  pub same_classes : classes_in new (widened old ws) ≡ class
  same_classes = λ i t p. same_class t p i

  pub spots_further : (a : ℕ) → front n ≤ a → a < total_of old → spot_at new (classes_in new (widened old ws)) (a + n) ≡ further n (spot_at old class a)
  spots_further a l m = ap (λ c. spot_at new c (a + n)) same_classes ∙ spot_further n s class a l m

  behind_front : (a : ℕ) (p : Spot) → spot_at old class a ≡ p → is_front p ≡ false → (front n ≤ a) × (a < total_of old)
  behind_front a p e h =
      let m = is_below old class a p e (λ z. true≢false (sym (ap is_front z) ∙ h)) in
      elim (cases_lt a (front n)) [
        | inl l ↦ absurd (true≢false (sym (front_spot_narrow n s class a l) ∙ (ap is_front e ∙ h)))
        | inr l ↦ (l, m)
      ]

  -- what stands at a spot stands further on in format 2
  pub at_further : (a : ℕ) (p : Spot) → spot_at old class a ≡ p → is_front p ≡ false → after (further n p) ≡ widened_at old before p
  at_further a p e h =
      let l = behind_front a p e h in
      let m : a + n < total_of new = (let k = l.1 in omega arith) in
      see_at new (widened old ws) (a + n) (further n p) m (spots_further a l.0 l.1 ∙ ap (further n) e)
      ∙ (widened_here (a + n) m ∙ (word_further a l.0 l.1 ∙ ap (widened_at old before) e))

  -- and nothing else does
  pub seen_further : (q : Spot) → after q ≢ 0 → is_front q ≡ false → (a : ℕ) × (front n ≤ a) × (a < total_of old) × (q ≡ further n (spot_at old class a))
  seen_further q h o =
      let is = seen_is_at new (widened old ws) q h in
      let b = at_below new (classes_in new (widened old ws)) q is in
      elim (cases_lt (spot_address new q) (front n + n)) [
        | inl l ↦ absurd (true≢false (sym (front_spot n s (classes_in new (widened old ws)) (spot_address new q) l) ∙ (ap is_front is ∙ o)))
        | inr l ↦
            let k : spot_address new q - n + n ≡ spot_address new q = omega arith in
            let x : front n ≤ spot_address new q - n = omega arith in
            let y : spot_address new q - n < total_of old = omega arith in
            (spot_address new q - n, x, y, sym is ∙ (ap (spot_at new (classes_in new (widened old ws))) (sym k) ∙ spots_further (spot_address new q - n) x y))
      ]

  -- ---- headers

  pub head_further : (b : ℕ) → IsBlock old class b → after (Head (b + n)) ≡ before (Head b)
  head_further b is = at_further b (Head b) is refl

  pub head_seen : (b : ℕ) → after (Head b) ≢ 0 → (c : ℕ) × (c + n ≡ b) × IsBlock old class c × (after (Head b) ≡ before (Head c))
  head_seen b h =
      let t = seen_further (Head b) h refl in
      let i = head_is n b _ t.3 in
      let e = head_at old class t.0 i.0 i.1 in
      let is : IsBlock old class i.0 = ap (spot_at old class) (sym e) ∙ i.1 in
      (i.0, i.2, is, ap (λ k. after (Head k)) (sym i.2) ∙ head_further i.0 is)

  pub block_seen : (b : ℕ) → before (Head b) ≢ 0 → IsBlock old class b
  block_seen b h = is_at_block old class b (seen_is_at old ws (Head b) h)

  pub head_same : (b : ℕ) → after (Head (b + n)) ≡ before (Head b)
  head_same b =
      elim (cases_eq (after (Head (b + n))) 0) [
        | inr h ↦ (let t = head_seen (b + n) h in let e : t.0 ≡ b = (let k = t.1 in omega arith) in t.3 ∙ ap (λ k. before (Head k)) e)
        | inl z ↦ elim (cases_eq (before (Head b)) 0) [
          | inl y ↦ z ∙ sym y
          | inr h ↦ head_further b (block_seen b h)
        ]
      ]

  pub live_further : (b : ℕ) → (headers after (b + n)).live ≡ (headers before b).live
  live_further b = ap (λ w. (header_of w).live) (head_same b)

  -- ---- references

  pub moved_live : (b : ℕ) → IsLive (headers before) b → moved old b ≡ b + n
  moved_live b l =
      let w = block_within old class b (live_block old ws b l) in
      let x = w.0 in
      let y = w.1 in
      let k : front n ≤ b = omega arith in
      let m : b + n < total_of new = omega arith in
      cond-false (eqb b 0) 0 _ (ne_eqb b 0 (omega arith))
      ∙ (ap (address new) (sym (place_further n s b k)) ∙ address-place new (b + n) m)

  module _ (clean : IsClean old before) where
    -- what the tag of a live block says
    pub tag_told : (b : ℕ) (live : IsLive (headers before) b) → live_tag old before b ≡ Some (clean.tags b live).tag
    tag_told b live = cond-true (headers before b).live _ None live ∙ (clean.tags b live).is

    abbrev pub wide_tag : ATag → ATag
    wide_tag t = record { refs = t.refs; plain = t.plain; author = t.author; link = 0 }

    pub wide_tag_fits : (b : ℕ) (live : IsLive (headers before) b) → TagFits true (wide_tag (clean.tags b live).tag)
    wide_tag_fits b live =
        let t = tag_fits false _ _ (clean.tags b live).is in
        record { refs = t.refs; plain = t.plain; author = t.author; link = omega arith }

    pub tag_further : (b : ℕ) (live : IsLive (headers before) b) → spot_at old class (b + 1) ≡ Tag b → after (Tag (b + n)) ≡ tag_word true (wide_tag (clean.tags b live).tag)
    tag_further b live e = at_further (b + 1) (Tag b) e refl ∙ ap widened_tag (tag_told b live)

    -- a live block has as many references
    refs_before : (b : ℕ) (live : IsLive (headers before) b) → (words_of false before).refs b ≡ (clean.tags b live).tag.refs
    refs_before b live = cond-true (headers before b).live _ 0 live ∙ sym (tag_fields false _ _ (clean.tags b live).is).1

    refs_after : (b : ℕ) (live : IsLive (headers before) b) → spot_at old class (b + 1) ≡ Tag b → (words_of true after).refs (b + n) ≡ (clean.tags b live).tag.refs
    refs_after b live e =
        cond-true (headers after (b + n)).live _ 0 (live_further b ∙ live)
        ∙ (ap (tag_refs true) (tag_further b live e) ∙ tag_refs-word true _ (wide_tag_fits b live))

    body_further : (a b i : ℕ) → spot_at old class a ≡ Body b i → references true after (Body (b + n) i) ≡ moved old (references false before (Body b i))
    body_further a b i e =
        let k = body_block old class a b i e in
        elim (cases_Bool (headers before b).live) [
          | inr dead ↦
              let r : (words_of true after).refs (b + n) ≡ 0 = cond-false (headers after (b + n)).live _ 0 (live_further b ∙ dead) in
              let q : (words_of false before).refs b ≡ 0 = cond-false (headers before b).live _ 0 dead in
              cond-false (ltb i ((words_of true after).refs (b + n))) _ 0 (ap (ltb i) r ∙ le-ltb i 0 (omega arith))
              ∙ ap (moved old) (sym (cond-false (ltb i ((words_of false before).refs b)) _ 0 (ap (ltb i) q ∙ le-ltb i 0 (omega arith))))
          | inl live ↦
              let t = (clean.tags b live).tag in
              let r = refs_after b live k.1 in
              let q = refs_before b live in
              elim (cases_lt i t.refs) [
                | inr m ↦
                    cond-false (ltb i ((words_of true after).refs (b + n))) _ 0 (ap (ltb i) r ∙ le-ltb i t.refs m)
                    ∙ ap (moved old) (sym (cond-false (ltb i ((words_of false before).refs b)) _ 0 (ap (ltb i) q ∙ le-ltb i t.refs m)))
                | inl m ↦
                    cond-true (ltb i ((words_of true after).refs (b + n))) _ 0 (ap (ltb i) r ∙ lt-ltb i t.refs m)
                    ∙ (at_further a (Body b i) e refl
                    ∙ (ap (λ o. widened_body old o i (before (Body b i))) (tag_told b live)
                    ∙ (cond-true (ltb i t.refs) _ _ (lt-ltb i t.refs m)
                    ∙ ap (moved old) (sym (cond-true (ltb i ((words_of false before).refs b)) _ 0 (ap (ltb i) q ∙ lt-ltb i t.refs m))))))
              ]
        ]

    -- each reference names what it named
    pub reference_further : (a : ℕ) (p : Spot) → spot_at old class a ≡ p → references true after (further n p) ≡ moved old (references false before p)
    reference_further a (Home c) e = at_further a (Home c) e refl
    reference_further a (Root c k) e = at_further a (Root c k) e refl
    reference_further a (Slot t r k) e = at_further a (Slot t r k) e refl
    reference_further a (Body b i) e = body_further a b i e
    reference_further a _ e = refl

    pub reference_seen : (q : Spot) → references true after q ≢ 0 → (a : ℕ) × (front n ≤ a) × (a < total_of old) × (references true after q ≡ moved old (references false before (spot_at old class a)))
    reference_seen q h =
        let t = seen_further q (names_in true after q h) (not_front true after q h) in
        (t.0, t.1, t.2, ap (references true after) t.3 ∙ reference_further t.0 _ refl)

    -- what they named is live
    pub target_live : (p : Spot) → moved old (references false before p) ≢ 0 → IsLive (headers before) (references false before p)
    target_live p h = clean.targets p (λ z. h (ap (moved old) z))
