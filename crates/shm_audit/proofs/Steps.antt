-- what an audit knows block by block
use Rattle.std.proofs.Common.{◌≡◌, ◌≢◌, ℕ, zero, suc, ◌+◌, ◌-◌, ◌/◌, ◌<◌, ◌≤◌, Bool, true, false, not, ◌&&◌, eqb, ltb, List, get_or, below_more, refl, sym, ap, subst, ◌∙◌, arith, inl, inr}
use Rattle.std.proofs.lemmas.Bool.{cases_eq, cases_lt, ne_eqb, and_parts}
use Rattle.std.specs.{Prelude.{Option, Some, None}, Option.option_or}
use Rattle.shm_words.specs.{declared.geometry.Geometry.Geometry, Classes.IsClass}
use Rattle.shm_words.specs.{Layout.{GeometryFits, total_of, bodies, pages}, Headers.header_of, Tags.tag_of}
use Rattle.shm_graph.specs.Spots.{see, classes_in}
use Rattle.shm_audit.specs.declared.{fault.ImageFault.ImageFault, tally.{Reference.Reference, Tally.Tally}}
use Rattle.shm_audit.specs.Faults.{first_fault, is_bad_header, is_bad_page, is_bad_reference, is_bad_tag, is_page_word, tag_suits, words_fault_of}
use Rattle.shm_audit.specs.Tallies.{ArePages, HasBlock, IsFirstBad, NoneBelow, Tallied}
use Rattle.shm_audit.specs.Streams.{AreSound, HasPage, IsTallied, SeenBy}
use Rattle.shm_audit.specs.declared.fault.ImageFault.TheVariants as fault
use Rattle.shm_audit.proofs.Blocks.{IsNothing, behind_head, behind_tag, block_end, class_above, class_in_page, good_tag, head_tag, live_tag, nothing_unused, page_is_class, page_word, quiet_header}
use Rattle.shm_audit.proofs.{Fronts.front_quiet, Tallying.tally_nothing}
use Rattle.shm_audit.proofs.Tested.{a_fault, before_pages, behind_pages, header_test, no_fault, page_test, test_at}

-- ---- faults in order

module _ (g : Geometry) (ws : List ℕ) where
  abbrev page_first : Option ImageFault
  page_first = first_fault g ws is_bad_page fault.BadPage

  abbrev header_first : Option ImageFault
  header_first = first_fault g ws is_bad_header fault.BadHeader

  abbrev tag_first : Option ImageFault
  tag_first = first_fault g ws is_bad_tag fault.BadTag

  abbrev reference_first : Option ImageFault
  reference_first = first_fault g ws is_bad_reference fault.BadRef

  pub by_page : (f : ImageFault) → first_fault g ws is_bad_page fault.BadPage ≡ Some f → words_fault_of g ws ≡ Some f
  by_page f e = ap (λ o. option_or o (option_or header_first (option_or tag_first reference_first))) e

  behind_pages_is : (o : Option ImageFault) → first_fault g ws is_bad_page fault.BadPage ≡ None → option_or header_first (option_or tag_first reference_first) ≡ o → words_fault_of g ws ≡ o
  behind_pages_is o x e = ap (λ p. option_or p (option_or header_first (option_or tag_first reference_first))) x ∙ e

  pub by_header : (f : ImageFault) → first_fault g ws is_bad_page fault.BadPage ≡ None → first_fault g ws is_bad_header fault.BadHeader ≡ Some f → words_fault_of g ws ≡ Some f
  by_header f x e = behind_pages_is (Some f) x (ap (λ o. option_or o (option_or tag_first reference_first)) e)

  pub by_tag : (f : ImageFault) → first_fault g ws is_bad_page fault.BadPage ≡ None → first_fault g ws is_bad_header fault.BadHeader ≡ None → first_fault g ws is_bad_tag fault.BadTag ≡ Some f → words_fault_of g ws ≡ Some f
  by_tag f x y e = behind_pages_is (Some f) x (ap (λ o. option_or o (option_or tag_first reference_first)) y ∙ ap (λ o. option_or o reference_first) e)

  pub by_reference : (o : Option ImageFault) → first_fault g ws is_bad_page fault.BadPage ≡ None → first_fault g ws is_bad_header fault.BadHeader ≡ None → first_fault g ws is_bad_tag fault.BadTag ≡ None → first_fault g ws is_bad_reference fault.BadRef ≡ o
      → words_fault_of g ws ≡ o
  by_reference o x y z e = behind_pages_is o x (ap (λ p. option_or p (option_or tag_first reference_first)) y ∙ (ap (λ p. option_or p reference_first) z ∙ e))

-- where the page words are sound none is at fault
pub pages_sound : (g : Geometry) (ws : List ℕ) → GeometryFits g → ArePages g ws → first_fault g ws is_bad_page fault.BadPage ≡ None
pages_sound g ws f h =
    no_fault is_bad_page g ws fault.BadPage f (λ a l. elim (cases_lt a (pages g)) [
      | inl m ↦ before_pages g (see g ws) (classes_in g ws) a m
      | inr m ↦ elim (cases_lt a (bodies g)) [
        | inl n ↦ page_test g ws a m n ∙ ap not (h a m n)
        | inr n ↦ behind_pages g (see g ws) (classes_in g ws) a n
      ]
    ])

-- a page word at fault
pub bad_page : (g : Geometry) (ws : List ℕ) (a : ℕ) → GeometryFits g → pages g ≤ a → a < bodies g → is_page_word (get_or ws a 0) ≡ false → ((b : ℕ) → pages g ≤ b → b < a → is_page_word (get_or ws b 0) ≡ true)
    → words_fault_of g ws ≡ Some (fault.BadPage a (get_or ws a 0))
bad_page g ws a f l m bad h =
    by_page g ws (fault.BadPage a (get_or ws a 0)) (a_fault is_bad_page g ws fault.BadPage a f (omega arith) (page_test g ws a l m ∙ ap not bad) (λ b n. elim (cases_lt b (pages g)) [
      | inl k ↦ before_pages g (see g ws) (classes_in g ws) b k
      | inr k ↦ page_test g ws b k (omega arith) ∙ ap not (h b k n)
    ]))

-- ---- the words of a block

-- none of the words of a block passes
filled : (test : ℕ → Bool) (b k : ℕ) → NoneBelow test b → ((j : ℕ) → j < k → test (b + j) ≡ false) → NoneBelow test (b + k)
filled test b k h e = λ a l. elim (cases_lt a b) [
  | inl m ↦ h a m
  | inr m ↦ (let x : a ≡ b + (a - b) = omega arith in ap test x ∙ e (a - b) (omega arith))
]

module _ (g : Geometry) (ws : List ℕ) where
  -- nothing stands there
  pub seen_nothing : (n : ℕ) (f t : Option ImageFault) (tally : Tally) → IsNothing g ws n → SeenBy g ws n f t tally → SeenBy g ws (n + 1) f t tally
  seen_nothing n (Some f) t tally e h = h
  seen_nothing n None (Some t) tally (quiet, none) h = (record { pages = h.0.pages; heads = below_more _ _ h.0.heads (quiet_header g ws n quiet.header) }, h.1)
  seen_nothing n None None tally (quiet, none) h =
      record {
        sound = record { pages = h.sound.pages; heads = below_more _ _ h.sound.heads (quiet_header g ws n quiet.header) };
        tags = below_more _ _ h.tags quiet.tag;
        found = tally_nothing g ws n tally (quiet, none) h.found;
      }

  pub seen_nothing_to : (m n : ℕ) (f t : Option ImageFault) (tally : Tally) → ((j : ℕ) → j < m → IsNothing g ws (n + j)) → SeenBy g ws n f t tally → SeenBy g ws (n + m) f t tally
  seen_nothing_to zero n f t tally h x = let e : n ≡ n + 0 = omega arith in subst (λ k. SeenBy g ws k f t tally) e x
  seen_nothing_to (suc m) n f t tally h x =
      let e : n + m + 1 ≡ n + suc m = omega arith in
      subst (λ k. SeenBy g ws k f t tally) e (seen_nothing (n + m) f t tally (h m (omega arith)) (seen_nothing_to m n f t tally (λ j l. h j (omega arith)) x))

  module _ (b k : ℕ) (fits : GeometryFits g) (h : HasBlock g ws b k) where
    block_below : b < total_of g
    block_below = let e = block_end g ws b k h in let s = class_above k h.sized in omega arith

    -- its header is at fault
    pub seen_bad_header : AreSound g ws b → get_or ws b 0 ≢ 0 → ((header_of (get_or ws b 0)).live && ltb (header_of (get_or ws b 0)).client g.clients) ≡ false → words_fault_of g ws ≡ Some (fault.BadHeader b (get_or ws b 0))
    seen_bad_header s some bad =
        by_header g ws (fault.BadHeader b (get_or ws b 0)) (pages_sound g ws fits s.pages)
        (a_fault is_bad_header g ws fault.BadHeader b fits block_below
        (header_test g ws b b h.is ∙ (ap (λ z. not z && not ((header_of (get_or ws b 0)).live && ltb (header_of (get_or ws b 0)).client g.clients)) (ne_eqb _ 0 some) ∙ ap not bad)) s.heads)

    module _ (lawful : ((header_of (get_or ws b 0)).live && ltb (header_of (get_or ws b 0)).client g.clients) ≡ true) where
      -- its header isn't
      pub sound_block : AreSound g ws b → AreSound g ws (b + k)
      sound_block s =
          record {
            pages = s.pages;
            heads = filled _ b k s.heads (λ j l. elim (cases_eq j 0) [
              | inl z ↦ (let x : b + j ≡ b = omega arith in ap (test_at is_bad_header g ws) x ∙ (header_test g ws b b h.is ∙ both (eqb (get_or ws b 0) 0) _ lawful))
              | inr n ↦ behind_head g ws b k h j (omega (arith, n)) l
            ]);
          }
        where
          both : (x y : Bool) → y ≡ true → (not x && not y) ≡ false
          both true y e = refl
          both false y e = ap not e

      alive : (header_of (get_or ws b 0)).live ≡ true
      alive = (and_parts (header_of (get_or ws b 0)).live _ lawful).0

      -- its tag is at fault
      pub seen_bad_tag : AreSound g ws b → NoneBelow (test_at is_bad_tag g ws) b → tag_suits g.clients k (tag_of g.wide (get_or ws (b + 1) 0)) ≡ false
          → AreSound g ws (b + k) × (first_fault g ws is_bad_tag fault.BadTag ≡ Some (fault.BadTag (b + 1) (get_or ws (b + 1) 0)))
      seen_bad_tag s tags bad =
          let e = block_end g ws b k h in
          let m = class_above k h.sized in (
            sound_block s,
            a_fault is_bad_tag g ws fault.BadTag (b + 1) fits (omega arith) (live_tag g ws b k h fits alive ∙ ap not bad) (below_more _ _ tags (head_tag g ws b k h)),
          )

      -- it isn't
      pub seen_block : (tally : Tally) → AreSound g ws b → NoneBelow (test_at is_bad_tag g ws) b → tag_suits g.clients k (tag_of g.wide (get_or ws (b + 1) 0)) ≡ true → Tallied g ws (b + k) tally → IsTallied g ws (b + k) tally
      seen_block tally s tags suited found =
          record {
            sound = sound_block s;
            tags = filled _ b k tags (λ j l. elim (cases_eq j 0) [
              | inl z ↦ (let x : b + j ≡ b = omega arith in ap (test_at is_bad_tag g ws) x ∙ head_tag g ws b k h)
              | inr n ↦ elim (cases_eq j 1) [
                | inl o ↦ ap (λ i. test_at is_bad_tag g ws (b + i)) o ∙ good_tag g ws b k h fits alive suited
                | inr m ↦ behind_tag g ws b k h j (omega (arith, n, m)) l
              ]
            ]);
            found = found;
          }

-- ---- all words

module _ (g : Geometry) (ws : List ℕ) (fits : GeometryFits g) where
  heads_sound : AreSound g ws (total_of g) → first_fault g ws is_bad_header fault.BadHeader ≡ None
  heads_sound s = no_fault is_bad_header g ws fault.BadHeader fits s.heads

  pub end_fault : (f t : Option ImageFault) (x : ImageFault) (tally : Tally) → f ≡ Some x → SeenBy g ws (total_of g) f t tally → words_fault_of g ws ≡ Some x
  end_fault (Some y) t x tally e h = h ∙ e
  end_fault None t x tally e h = cc

  pub end_tag : (f t : Option ImageFault) (x : ImageFault) (tally : Tally) → f ≡ None → t ≡ Some x → SeenBy g ws (total_of g) f t tally → words_fault_of g ws ≡ Some x
  end_tag (Some y) t x tally none e h = cc
  end_tag None None x tally none e h = cc
  end_tag None (Some y) x tally none e h = by_tag g ws x (pages_sound g ws fits h.0.pages) (heads_sound h.0) (h.1 ∙ e)

  pub end_found : (f t : Option ImageFault) (tally : Tally) → f ≡ None → t ≡ None → SeenBy g ws (total_of g) f t tally → IsTallied g ws (total_of g) tally
  end_found (Some y) t tally e d h = cc
  end_found None (Some y) tally e d h = cc
  end_found None None tally e d h = h

  pub end_reference : (tally : Tally) (o : Option Reference) (r : Reference) → IsTallied g ws (total_of g) tally → IsFirstBad g ws o → o ≡ Some r → words_fault_of g ws ≡ Some (fault.BadRef r.at r.target)
  end_reference tally None r h first e = cc
  end_reference tally (Some x) r h first e =
      let l = first.0 in
      let same : fault.BadRef x.at x.target ≡ fault.BadRef r.at r.target = bad_same x r (some_same x r e) in
      by_reference g ws (Some (fault.BadRef r.at r.target)) (pages_sound g ws fits h.sound.pages) (heads_sound h.sound) (no_fault is_bad_tag g ws fault.BadTag fits h.tags)
      (a_fault is_bad_reference g ws fault.BadRef x.at fits l.below l.passes l.least ∙ (ap (λ w. Some (fault.BadRef x.at w)) (sym first.1) ∙ ap Some same))
    where
      some_same : (x y : Reference) → Some x ≡ Some y → x ≡ y
      some_same x y e = cc

      bad_same : (x y : Reference) → x ≡ y → fault.BadRef x.at x.target ≡ fault.BadRef y.at y.target
      bad_same x y e = ap (λ z. fault.BadRef z.at z.target) e

  pub end_sound : (tally : Tally) (o : Option Reference) → IsTallied g ws (total_of g) tally → IsFirstBad g ws o → o ≡ None → words_fault_of g ws ≡ None
  end_sound tally (Some x) h first e = cc
  end_sound tally None h first e =
      by_reference g ws None (pages_sound g ws fits h.sound.pages) (heads_sound h.sound) (no_fault is_bad_tag g ws fault.BadTag fits h.tags) (no_fault is_bad_reference g ws fault.BadRef fits first)

-- ---- what an audit does with a block

module _ (g : Geometry) (ws : List ℕ) where
  -- a fault of a page or a header is the last word
  pub seen_faulty : (n m : ℕ) (f t : Option ImageFault) (tally : Tally) → f ≢ None → SeenBy g ws n f t tally → SeenBy g ws m f t tally
  seen_faulty n m (Some f) t tally some h = h
  seen_faulty n m None t tally some h = absurd (some refl)

  pub sound_so_far : (n : ℕ) (f t : Option ImageFault) (tally : Tally) → f ≡ None → SeenBy g ws n f t tally → AreSound g ws n
  sound_so_far n (Some f) t tally e h = cc
  sound_so_far n None (Some t) tally e h = h.0
  sound_so_far n None None tally e h = h.sound

  pub tallied_so_far : (n : ℕ) (f t : Option ImageFault) (tally : Tally) → f ≡ None → t ≡ None → SeenBy g ws n f t tally → IsTallied g ws n tally
  tallied_so_far n (Some f) t tally e d h = cc
  tallied_so_far n None (Some t) tally e d h = cc
  tallied_so_far n None None tally e d h = h

  pub seen_tag : (n : ℕ) (f : Option ImageFault) (t : ImageFault) (tally : Tally) → f ≡ None → AreSound g ws n × (first_fault g ws is_bad_tag fault.BadTag ≡ Some t) → SeenBy g ws n f (Some t) tally
  seen_tag n (Some f) t tally e h = cc
  seen_tag n None t tally e h = h

  pub seen_tallied : (n : ℕ) (f t : Option ImageFault) (tally : Tally) → f ≡ None → t ≡ None → IsTallied g ws n tally → SeenBy g ws n f t tally
  seen_tallied n (Some f) t tally e d h = cc
  seen_tallied n None (Some t) tally e d h = cc
  seen_tallied n None None tally e d h = h

  -- behind a tag at fault only headers matter
  pub seen_more_tags : (b k : ℕ) (f t : Option ImageFault) (tally : Tally) → GeometryFits g → HasBlock g ws b k → ((header_of (get_or ws b 0)).live && ltb (header_of (get_or ws b 0)).client g.clients) ≡ true → f ≡ None → t ≢ None
      → SeenBy g ws b f t tally → SeenBy g ws (b + k) f t tally
  seen_more_tags b k (Some f) t tally fits h lawful e some s = s
  seen_more_tags b k None None tally fits h lawful e some s = absurd (some refl)
  seen_more_tags b k None (Some t) tally fits h lawful e some s = (sound_block g ws b k fits h lawful s.0, s.1)

  -- a page without a class
  pub seen_unused : (a k : ℕ) (f t : Option ImageFault) (tally : Tally) → GeometryFits g → HasPage g ws a k → (IsClass k → ⊥) → SeenBy g ws a f t tally → SeenBy g ws (a + 128) f t tally
  seen_unused a k (Some f) t tally fits p n h = h
  seen_unused a k None t tally fits p n h =
      let s = (sound_so_far a None t tally refl h).pages in
      let start = p.start in
      let end = p.end in
      let page = p.page in
      let e = page_word g ws a fits start (omega arith) in
      let is = s (pages g + (a - bodies g) / 128) (omega arith) (omega arith) in
      let none : k ≡ 0 = elim (cases_eq k 0) [
        | inl z ↦ z
        | inr d ↦ absurd (n (page_is_class k (ap is_page_word (sym p.class ∙ e) ∙ is) d))
      ] in
      seen_nothing_to g ws 128 a None t tally (λ j l. nothing_unused g ws (a + j) (omega arith) (omega arith) (class_in_page g ws a (a + j) k start end page p.class (omega arith) (omega arith) ∙ none)) h

  -- the words before the bodies, where the page words are sound
  pub seen_front : (tally : Tally) → ArePages g ws → Tallied g ws (bodies g) tally → IsTallied g ws (bodies g) tally
  seen_front tally pages_are found =
      record {
        sound = record { pages = pages_are; heads = λ a l. quiet_header g ws a (front_quiet g ws a l).header };
        tags = λ a l. (front_quiet g ws a l).tag;
        found = found;
      }
