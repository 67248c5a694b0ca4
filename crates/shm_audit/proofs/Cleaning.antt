-- a pool is clean exactly where its words have no fault and the verdict says that it is
use Rattle.std.proofs.Common.{◌≡◌, ◌≢◌, ℕ, ◌+◌, ◌<◌, Bool, true, false, not, ◌&&◌, ◌||◌, eqb, ltb, leb, cond, List, get_or, refl, sym, ap, ◌∙◌, arith, inl, inr, ◌⊎◌}
use Rattle.std.proofs.lemmas.Bool.{cases_Bool, cases_eq, ne_eqb, eq-eqb, eqb-true, and_parts, and_from, true≢false, false≢true}
use Rattle.std.proofs.lemmas.Bool.Decides.{nat_tests}
use Rattle.std.specs.{Prelude.{Option, Some, None, option_map}, Option.option_or}
use Rattle.shm_words.specs.{declared.{geometry.Geometry.Geometry, tag.Tag.Tag as ATag}, Layout.{GeometryFits, total_of}}
use Rattle.shm_words.specs.{Classes.IsClass, Tags.tag_of}
use Rattle.shm_words.proofs.Words.{live_not_zero}
use Rattle.shm_graph.specs.declared.spot.Spot.{Spot, TheVariants.{Status, Home, Root, Slot, Page, Head, Tag, Body}}
use Rattle.shm_graph.specs.{Spots.{see, spot_at, spot_address, class_at}, Blocks.{classes, headers, IsLive}}
use Rattle.shm_graph.specs.{References.{words_of, references}, Clean.{IsClean, TagSuits}}
use Rattle.shm_graph.proofs.Spots.Spotting.{at_below, block_within, is_at_block, is_below, tag_spot}
use Rattle.shm_graph.proofs.{Spots.Seeing.seen_stands, States.Reading.live_below}
use Rattle.shm_audit.specs.declared.{fault.ImageFault.ImageFault, verdict.Verdict.Verdict}
use Rattle.shm_audit.specs.declared.verdict.Verdict.TheVariants.{Clean, WrongCount, Uncounted}
use Rattle.shm_audit.specs.Faults.{least_below, first_fault, is_page_word, is_bad_page, is_bad_header, tag_suits, is_bad_tag, is_counted, is_bad_reference, words_fault_of}
use Rattle.shm_audit.specs.Verdicts.{is_settled, is_pending, found_at, is_wrong, by_block, by_client, verdict_of, clean_verdict, IsCleanVerdict}
use Rattle.shm_audit.specs.declared.fault.ImageFault.TheVariants as fault
use Rattle.shm_audit.proofs.{Least.{none_below, none_passes}, Tested.{Test, no_fault}}

-- ---- tests and what they say

page_word_is : (k : ℕ) → (k ≡ 0) ⊎ IsClass k → is_page_word k ≡ true
page_word_is k h = grind (arith, nat_tests)

page_word_says : (k : ℕ) → is_page_word k ≡ true → (k ≡ 0) ⊎ IsClass k
page_word_says k h = grind (arith, nat_tests)

settled_is : (k : ℕ) → (k ≡ 0) ⊎ (k ≡ 3) → is_settled k ≡ true
settled_is k h = grind (arith, nat_tests)

settled_says : (k : ℕ) → is_settled k ≡ true → (k ≡ 0) ⊎ (k ≡ 3)
settled_says k h = grind (arith, nat_tests)

suits_is : (wide : Bool) (n k t : ℕ) → TagSuits wide n k t → tag_suits n k (tag_of wide t) ≡ true
suits_is wide n k t s = ap (tag_suits n k) s.is ∙ and_from (leb (2 + s.tag.refs + s.tag.plain) k) (ltb s.tag.author n) (let r = s.room in grind (arith, nat_tests)) (let a = s.author in grind (arith, nat_tests))

suits_says : (wide : Bool) (n k t : ℕ) (o : Option ATag) → tag_of wide t ≡ o → tag_suits n k o ≡ true → TagSuits wide n k t
suits_says wide n k t None e h = absurd (false≢true h)
suits_says wide n k t (Some tag) e h =
    let p = and_parts (leb (2 + tag.refs + tag.plain) k) (ltb tag.author n) h in
    let r = p.0 in
    let a = p.1 in
    record { tag = tag; is = e; room = grind (arith, nat_tests); author = grind (arith, nat_tests) }

not_false : (b : Bool) → not b ≡ false → b ≡ true
not_false true e = refl
not_false false e = sym e

-- where a test with two parts fails and the first part holds, the second doesn't
second_fails : (a b : Bool) → (a && b) ≡ false → a ≡ true → b ≡ false
second_fails true b e h = e
second_fails false b e h = absurd (false≢true h)

and_false : (a b : Bool) → b ≡ false → (a && b) ≡ false
and_false true b e = e
and_false false b e = refl

not_zero : (k : ℕ) → k ≢ 0 → not (eqb k 0) ≡ true
not_zero k n = ap not (ne_eqb k 0 n)

above_zero : (k : ℕ) → 0 < k → ltb 0 k ≡ true
above_zero k l = grind (arith, nat_tests)

below_so : (a b : ℕ) → a < b → ltb a b ≡ true
below_so a b l = grind (arith, nat_tests)

so_below : (a b : ℕ) → ltb a b ≡ true → a < b
so_below a b e = grind (arith, nat_tests)

-- ---- faults and verdicts

pub both_none : (x y : Option ImageFault) → x ≡ None → y ≡ None → option_or x y ≡ None
both_none x y e d = ap (λ o. option_or o y) e ∙ d

either_none : (x y : Option ImageFault) → option_or x y ≡ None → (x ≡ None) × (y ≡ None)
either_none None y e = (refl, e)
either_none (Some f) y e = absurd cc

unmapped : (f : ℕ → ImageFault) (o : Option ℕ) → option_map f o ≡ None → o ≡ None
unmapped f None e = refl
unmapped f (Some a) e = absurd cc

clean_no_client : (g : Geometry) (w : Spot → ℕ) (o : Option ℕ) (l r : ℕ) → by_client g w o ≡ Clean l r → o ≡ None
clean_no_client g w None l r e = refl
clean_no_client g w (Some c) l r e = absurd cc

-- whether a verdict is that the pool is clean
says_clean : Verdict → Bool
says_clean (Clean l r) = true
says_clean _ = false

block_not_clean : (g : Geometry) (w : Spot → ℕ) (b : ℕ) (z : Bool) → says_clean (cond z (Uncounted b) (WrongCount b (headers w b).count (found_at g w b))) ≡ false
unfolding says_clean
block_not_clean g w b true = refl
block_not_clean g w b false = refl

clean_no_block : (g : Geometry) (w : Spot → ℕ) (o : Option ℕ) (l r : ℕ) → by_block g w o ≡ Clean l r → o ≡ None
unfolding says_clean
clean_no_block g w None l r e = refl
clean_no_block g w (Some b) l r e = absurd (false≢true (sym (block_not_clean g w b (eqb (headers w b).count 0)) ∙ ap says_clean e))

-- ---- a clean pool has no fault and the verdict that it is clean

module _ (g : Geometry) (w : Spot → ℕ) (h : IsClean g w) where
  clean_page : (p : Spot) → is_bad_page g w p ≡ false
  clean_page (Page s p) = ap not (page_word_is (w (Page s p)) (h.pages s p))
  clean_page _ = refl

  clean_header : (p : Spot) → is_bad_header g w p ≡ false
  clean_header (Head b) =
      elim (cases_eq (w (Head b)) 0) [
        | inl z ↦ ap (λ e. not e && not ((headers w b).live && ltb (headers w b).client g.clients)) (eq-eqb (w (Head b)) 0 z)
        | inr n ↦ (let l = h.heads b n in and_false _ _ (ap not (and_from (headers w b).live (ltb (headers w b).client g.clients) l.0 (below_so _ _ l.1))))
      ]
  clean_header _ = refl

  clean_tag : (p : Spot) → is_bad_tag g w p ≡ false
  clean_tag (Tag b) =
      elim (cases_Bool (headers w b).live) [
        | inl l ↦ and_false _ _ (ap not (suits_is g.wide g.clients (class_at g (classes w) b) (w (Tag b)) (h.tags b l)))
        | inr d ↦ ap (λ l. l && not (tag_suits g.clients (class_at g (classes w) b) (tag_of g.wide (w (Tag b))))) d
      ]
  clean_tag _ = refl

  clean_reference : (p : Spot) → is_bad_reference g w p ≡ false
  clean_reference p =
      elim (cases_eq (references g.wide w p) 0) [
        | inl z ↦ ap (λ e. not e && not (is_counted w (references g.wide w p))) (eq-eqb (references g.wide w p) 0 z)
        | inr n ↦ (let l = h.targets p n in and_false _ _ (ap not (and_from (headers w (references g.wide w p)).live (ltb 0 (headers w (references g.wide w p)).count) l (above_zero _ (h.counts (references g.wide w p) l).0))))
      ]

  clean_settled : (c : ℕ) → c < g.clients → is_pending w c ≡ false
  clean_settled c l = ap not (settled_is (w (Status c)) (h.statuses c l))

  clean_right : (b : ℕ) → is_wrong g w b ≡ false
  clean_right b =
      elim (cases_Bool (headers w b).live) [
        | inl l ↦ (let c = h.counts b l in
            let n : (headers w b).count ≢ 0 = λ z. (let k = c.0 in omega arith) in
            and_false _ _ (ap (λ z. z || not (eqb (headers w b).count (found_at g w b))) (ne_eqb (headers w b).count 0 n) ∙ ap not (eq-eqb (headers w b).count (found_at g w b) c.1)))
        | inr d ↦ ap (λ l. l && ((eqb (headers w b).count 0) || not (eqb (headers w b).count (found_at g w b)))) d
      ]

  pub clean_is_told : verdict_of g w ≡ clean_verdict g w
  clean_is_told =
      let c = none_below g.clients (is_pending w) clean_settled in
      let b = none_below (total_of g) (is_wrong g w) (λ a l. clean_right a) in
      ap (by_client g w) c ∙ ap (by_block g w) b

pub clean_no_fault : (g : Geometry) (ws : List ℕ) → GeometryFits g → IsClean g (see g ws) → words_fault_of g ws ≡ None
clean_no_fault g ws f h =
    both_none _ _ (no_fault is_bad_page g ws fault.BadPage f (λ a l. clean_page g (see g ws) h _))
    (both_none _ _ (no_fault is_bad_header g ws fault.BadHeader f (λ a l. clean_header g (see g ws) h _))
    (both_none _ _ (no_fault is_bad_tag g ws fault.BadTag f (λ a l. clean_tag g (see g ws) h _))
    (no_fault is_bad_reference g ws fault.BadRef f (λ a l. clean_reference g (see g ws) h _))))

-- ---- and where there is none and the verdict is that, the pool is clean

-- a reference word that names something isn't 0
pub names_in : (wide : Bool) (w : Spot → ℕ) (p : Spot) → references wide w p ≢ 0 → w p ≢ 0
names_in wide w (Home c) n = n
names_in wide w (Root c k) n = n
names_in wide w (Slot s r k) n = n
names_in wide w (Body b i) n = λ z. n (ap (λ x. cond (ltb i ((words_of wide w).refs b)) x 0) z ∙ nothing (ltb i ((words_of wide w).refs b)))
  where
    nothing : (b : Bool) → ◌≡◌ {A = ℕ} (cond b 0 0) 0
    nothing true = refl
    nothing false = refl
names_in wide w _ n = absurd (n refl)

module _ (g : Geometry) (ws : List ℕ) (f : GeometryFits g) where
  -- no spot of the pool passes the test
  abbrev NonePasses : Test → Type 0
  NonePasses test = (a : ℕ) → a < total_of g → test g (see g ws) (spot_at g (classes (see g ws)) a) ≡ false

  none_passing : (test : Test) (kind : ℕ → ℕ → ImageFault) → first_fault g ws test kind ≡ None → NonePasses test
  none_passing test kind e = none_passes (total_of g) _ (unmapped (λ a. kind a (get_or ws a 0)) _ e)

  -- and so none that holds a word
  at_spot : (test : Test) → NonePasses test → (p : Spot) → see g ws p ≢ 0 → test g (see g ws) p ≡ false
  at_spot test h p n =
      let at = seen_stands g ws p f n in
      ap (test g (see g ws)) (sym at) ∙ h (spot_address g p) (at_below g (classes (see g ws)) p at)

  module _ (pages : NonePasses is_bad_page) (heads : NonePasses is_bad_header) (tags : NonePasses is_bad_tag) (targets : NonePasses is_bad_reference) (settled : (c : ℕ) → c < g.clients → is_pending (see g ws) c ≡ false) (right : (b : ℕ) → b < total_of g → is_wrong g (see g ws) b ≡ false) where
    page_words : (s p : ℕ) → (see g ws (Page s p) ≡ 0) ⊎ IsClass (see g ws (Page s p))
    page_words s p =
        elim (cases_eq (see g ws (Page s p)) 0) [
          | inl z ↦ inl z
          | inr n ↦ page_word_says (see g ws (Page s p)) (not_false _ (at_spot is_bad_page pages (Page s p) n))
        ]

    head_words : (b : ℕ) → see g ws (Head b) ≢ 0 → IsLive (headers (see g ws)) b × ((headers (see g ws) b).client < g.clients)
    head_words b n =
        let e = not_false _ (second_fails _ _ (at_spot is_bad_header heads (Head b) n) (not_zero (see g ws (Head b)) n)) in
        let p = and_parts (headers (see g ws) b).live (ltb (headers (see g ws) b).client g.clients) e in
        (p.0, so_below _ _ p.1)

    tag_words : (b : ℕ) → IsLive (headers (see g ws)) b → TagSuits g.wide g.clients (class_at g (classes (see g ws)) b) (see g ws (Tag b))
    tag_words b l =
        let is = is_at_block g (classes (see g ws)) b (seen_stands g ws (Head b) f (live_not_zero (see g ws (Head b)) l)) in
        let n = (block_within g (classes (see g ws)) b is).2 in
        let k : IsClass (class_at g (classes (see g ws)) b) = elim (page_words _ _) [ inl z ↦ absurd (n z) | inr c ↦ c ] in
        let t = tag_spot g (classes (see g ws)) b is k in
        let e : is_bad_tag g (see g ws) (Tag b) ≡ false = ap (is_bad_tag g (see g ws)) (sym t) ∙ tags (b + 1) (is_below g (classes (see g ws)) (b + 1) (Tag b) t (λ z. cc)) in
        suits_says g.wide g.clients (class_at g (classes (see g ws)) b) (see g ws (Tag b)) _ refl (not_false _ (second_fails _ _ e l))

    named_blocks : (p : Spot) → references g.wide (see g ws) p ≢ 0 → IsLive (headers (see g ws)) (references g.wide (see g ws) p)
    named_blocks p n =
        let e = not_false _ (second_fails _ _ (at_spot is_bad_reference targets p (names_in g.wide (see g ws) p n)) (not_zero (references g.wide (see g ws) p) n)) in
        (and_parts (headers (see g ws) (references g.wide (see g ws) p)).live (ltb 0 (headers (see g ws) (references g.wide (see g ws) p)).count) e).0

    right_counts : (b : ℕ) → IsLive (headers (see g ws)) b → (0 < (headers (see g ws) b).count) × ((headers (see g ws) b).count ≡ found_at g (see g ws) b)
    right_counts b l =
        let e = second_fails _ _ (right b (live_below g ws b l).1) l in
        let p = neither (eqb (headers (see g ws) b).count 0) (eqb (headers (see g ws) b).count (found_at g (see g ws) b)) e in
        let n : (headers (see g ws) b).count ≢ 0 = λ z. false≢true (sym p.0 ∙ eq-eqb _ 0 z) in
        (omega arith, eqb-true (headers (see g ws) b).count (found_at g (see g ws) b) p.1)
      where
        neither : (x y : Bool) → (x || not y) ≡ false → (x ≡ false) × (y ≡ true)
        neither true y q = absurd (true≢false q)
        neither false y q = (refl, not_false y q)

    judged_clean : IsClean g (see g ws)
    judged_clean =
        record {
          statuses = λ c l. settled_says (see g ws (Status c)) (not_false _ (settled c l));
          pages = page_words;
          heads = head_words;
          tags = tag_words;
          targets = named_blocks;
          counts = right_counts;
        }

  pub fault_free_clean : words_fault_of g ws ≡ None → IsCleanVerdict (verdict_of g (see g ws)) → IsClean g (see g ws)
  fault_free_clean e v =
      let a = either_none _ _ e in
      let b = either_none _ _ a.1 in
      let d = either_none _ _ b.1 in
      let c = clean_no_client g (see g ws) _ _ _ v.2 in
      let k : by_block g (see g ws) (least_below (total_of g) (is_wrong g (see g ws))) ≡ Clean v.0 v.1 = sym (ap (by_client g (see g ws)) c) ∙ v.2 in
      judged_clean (none_passing is_bad_page fault.BadPage a.0) (none_passing is_bad_header fault.BadHeader b.0) (none_passing is_bad_tag fault.BadTag d.0) (none_passing is_bad_reference fault.BadRef d.1)
      (none_passes g.clients (is_pending (see g ws)) c)
      (none_passes (total_of g) (is_wrong g (see g ws)) (clean_no_block g (see g ws) _ _ _ k))
