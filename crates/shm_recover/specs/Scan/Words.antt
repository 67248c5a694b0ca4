-- the pages and the headers of a pool that a scan goes through: where zero-count blocks of an identity may lie
use Rattle.std.proofs.Common.{◌≡◌, ◌≢◌, ℕ, ◌+◌, ◌-◌, ◌/◌, ◌%◌, ◌<◌, ◌≤◌, ◌⊎◌, refl, sym, ap, ◌∙◌, subst, arith, Bool, true, false, cond, [], inl, inr}
use Rattle.std.proofs.lemmas.{Bool.{and_from, cases_eq, cases_lt, lt-ltb}, List.Elements.All-contains}
use Rattle.std.specs.List.{Contains}
use Rattle.shm_words.specs.{Classes.IsClass, Headers.header_of, Layout.{address, bodies, total_of}}
use Rattle.shm_words.specs.declared.place.Place.TheVariants as place
use Rattle.shm_graph.specs.declared.{ask.{Ask.{Ask, TheVariants.Load}, Me.Me}, spot.Spot.Spot}
use Rattle.shm_graph.specs.declared.{spot.Spot.TheVariants.{Head, Page}, memo.{Fact.TheVariants.Class, Memo.Memo}}
use Rattle.shm_graph.specs.{declared.memo.Op.{Op, TheVariants.Nothing}, Asks.{at_of, seen_of}, Blocks.classes}
use Rattle.shm_graph.specs.{Held.{HeldAt, IsDying}, Laws.{Frame, Stands}, MemoAfterRead.op_refused}
use Rattle.shm_graph.specs.{Spots.{class_at, spot_at}, Views.view}
use Rattle.shm_graph.proofs.{Memos.Calls.FactHolds, Spots.{SpotPlaces.spot-place, Spotting.block_within}}
use Rattle.shm_graph.proofs.States.Holders.{held_live_block}
use Rattle.plans.specs.{declared.word.Word.Word, Parts.IsHeld, Words.IsWord}
use Rattle.kind_parts.specs.WordParts.{HeaderSeen, PageLoaded}
use Rattle.kind_parts.proofs.Words.{Blocks.{header_see, paged_there}, Own.word_for, Shared.page_load}
use Rattle.shm_count.specs.{Proved.DyingBlocks.live_room, Step.Control.IsInside}
use Rattle.shm_recover.specs.Scan.Control.{place_in, words_before}

-- ---- with what a held state says of the word

-- what holds of the word in each held state with the memo holds of the word found
pub word_and : (first : Bool) (me : Me) (a : Ask) (after : Memo → ℕ → Memo → Type 0) (says : Memo → ℕ → Type 0) (m : Word) (x : Memo)
    → ((w : Spot → ℕ) (r : ℕ → Memo) (f : Frame) → Stands me w r f [] → r me.who ≡ x → says x (seen_of a (w (spot_at me.geometry (classes w) (at_of a)))))
    → IsWord first me a after m x → IsWord first me a (λ y n z. after y n z × says y n) m x
word_and first me a after says m x holds h =
    record {
      made = h.made;
      inside = h.inside;
      kept = λ w r f s may same. let k = h.kept w r f s may same in record { told = k.told; step = k.step; fits = (k.fits, holds w r f s same) };
      quiet = h.quiet;
    }

-- ---- pages

-- what holds of each class holds of a class
pub by_class : (k : ℕ) → IsClass k → (P : ℕ → Type 0) → P 4 → P 8 → P 16 → P 32 → P k
by_class k is P a b c d = elim is [ inl e ↦ subst P (sym e) a | inr o ↦ elim o [ inl e ↦ subst P (sym e) b | inr p ↦ elim p [ inl e ↦ subst P (sym e) c | inr e ↦ subst P (sym e) d ] ] ]

-- no zero-count block of the identity lies in page q of segment s
abbrev pub IsBare : Me → ℕ → ℕ → Memo → Type 0
IsBare me s q m = (b : ℕ) → Contains m.dying b → words_before s q 0 ≤ b - bodies me.geometry → b < place_in me s (q + 1) 0 → ⊥

-- the page's class is loaded: a class joins what was read, and where it has none no zero-count block lies there
abbrev pub PageSeen : Me → ℕ → ℕ → Memo → ℕ → Memo → Type 0
PageSeen me s q m n x = PageLoaded s q m n x × ((n ≡ 0 → IsBare me s q m) × (n ≢ 0 → IsClass n))

-- the header of block b is loaded: it shows whether the block is a zero-count block of the identity
abbrev pub LostSeen : Me → ℕ → Memo → ℕ → Memo → Type 0
LostSeen me b m n x = HeaderSeen me.geometry b m n x × ((IsDying (header_of n) me.who → Contains m.dying b) × (Contains m.dying b → IsDying (header_of n) me.who))

module _ (me : Me) (l : me.who < me.geometry.clients) where
  abbrev c : ℕ
  c = me.who

  -- ---- where a zero-count block lies

  -- it is a block of the pool, and its page has a class
  dying_at : (w : Spot → ℕ) (r : ℕ → Memo) (b : ℕ) → HeldAt me.geometry w (view r) → Contains (r c).dying b → IsInside me b × (b + 2 ≤ total_of me.geometry) × (class_at me.geometry (classes w) b ≢ 0) × ((b - bodies me.geometry) % 128 % class_at me.geometry (classes w) b ≡ 0)
  dying_at w r b h has =
      let live = ((h.dying c l).listed b has).0 in
      let room = live_room me.geometry w r h b c live in
      let within = block_within me.geometry (classes w) b (held_live_block me.geometry w (view r) h b live) in
      (room.0, (let u = room.1 in omega arith), within.2, within.3)

  dying_in : (w : Spot → ℕ) (r : ℕ → Memo) (b : ℕ) → HeldAt me.geometry w (view r) → Contains (r c).dying b → IsInside me b × (b + 2 ≤ total_of me.geometry)
  dying_in w r b h has = let y = dying_at w r b h has in (y.0, y.1)

  pub dying_inside : (m : Memo) (b : ℕ) → IsHeld me m → Contains m.dying b → IsInside me b × (b + 2 ≤ total_of me.geometry)
  dying_inside m b (w, r, h, same) has = dying_in w r b h (subst (λ (x : Memo). Contains x.dying b) (sym same) has)

  -- the class that is told of a block in this page is the page's
  page_class : (class : ℕ → ℕ → ℕ) (s q b : ℕ) → q < 16 → place_in me s q 0 ≤ b → b < place_in me s (q + 1) 0 → class_at me.geometry class b ≡ class s q
  page_class class s q b lq low high =
      let x : (b - bodies me.geometry) / 2048 ≡ s = omega arith in
      let y : (b - bodies me.geometry) / 128 % 16 ≡ q = omega arith in
      ap (λ i. class i ((b - bodies me.geometry) / 128 % 16)) x ∙ ap (class s) y

  -- ---- loads

  module _ (first : Bool) (m : Memo) (s q : ℕ) (ls : s < me.geometry.segments) (lq : q < 16) where
    page_at : (class : ℕ → ℕ → ℕ) → spot_at me.geometry class (address me.geometry (place.Page s q)) ≡ Page s q
    page_at class = spot-place me.geometry class (place.Page s q) (and_from _ _ (lt-ltb s me.geometry.segments ls) (lt-ltb q 16 lq))

    page_says : (w : Spot → ℕ) (r : ℕ → Memo) → HeldAt me.geometry w (view r) → r c ≡ m → (w (Page s q) ≡ 0 → IsBare me s q m) × (w (Page s q) ≢ 0 → IsClass (w (Page s q)))
    page_says w r h same = (
      λ none b has low high. let y = dying_at w r b h (subst (λ (x : Memo). Contains x.dying b) (sym same) has) in y.2 (page_class (classes w) s q b lq (omega arith) high ∙ none),
      λ some. h.sizes.classes s q some,
    )

    -- the page's class may be loaded
    pub page_see : IsWord first me (Load (address me.geometry (place.Page s q))) (PageSeen me s q) (word_for me (Load (address me.geometry (place.Page s q)))) m
    page_see =
        let at : ℕ = address me.geometry (place.Page s q) in
        word_and first me (Load at) (PageLoaded s q) (λ x n. (n ≡ 0 → IsBare me s q x) × (n ≢ 0 → IsClass n)) (word_for me (Load at)) m
        (λ w r f st same. subst (λ p. (w p ≡ 0 → IsBare me s q m) × (w p ≢ 0 → IsClass (w p))) (sym (page_at (classes w))) (page_says w r st.held same))
        (page_load first me m l s ls q lq)

    module _ (k i : ℕ) (li : i < 128) (aligned : i % k ≡ 0) (has : Contains m.facts (Class s q k)) (idle : m.op ≡ Nothing) where
      abbrev b : ℕ
      b = place_in me s q i

      inside : (0 < b) × (b < total_of me.geometry)
      inside = (omega arith, omega arith)

      lost_says : (w : Spot → ℕ) (r : ℕ → Memo) → HeldAt me.geometry w (view r) → r c ≡ m → (IsDying (header_of (w (Head b))) c → Contains m.dying b) × (Contains m.dying b → IsDying (header_of (w (Head b))) c)
      lost_says w r h same = (λ e. subst (λ (x : Memo). Contains x.dying b) same ((h.dying c l).all b e), λ listed. (h.dying c l).listed b (subst (λ (x : Memo). Contains x.dying b) (sym same) listed))

      -- no load ends a step
      no_step : (n : ℕ) → op_refused m b n ≡ m.op
      no_step n = none _ m.op idle
        where
          none : (z : Bool) (o : Op) → o ≡ Nothing → cond z Nothing o ≡ o
          none true o e = sym e
          none false o e = refl

      -- the header of a block of a page whose class was read may be loaded
      pub lost_see : IsWord first me (Load b) (LostSeen me b) (word_for me (Load b)) m
      lost_see =
          let there = paged_there first me m l b inside s q k i ls lq li refl aligned has in
          word_and first me (Load b) (HeaderSeen me.geometry b) (λ x n. (IsDying (header_of n) c → Contains x.dying b) × (Contains x.dying b → IsDying (header_of n) c)) (word_for me (Load b)) m
          (λ w r f st same. subst (λ p. (IsDying (header_of (w p)) c → Contains m.dying b) × (Contains m.dying b → IsDying (header_of (w p)) c)) (sym (there w r f st same)) (lost_says w r st.held same))
          (header_see first me m l b inside no_step there)

  -- ---- from one block to the next

  module _ (s q k i : ℕ) (lq : q < 16) (is : IsClass k) (li : i < 128) (aligned : i % k ≡ 0) where
    next_at : (w : Spot → ℕ) (r : ℕ → Memo) (b : ℕ) → HeldAt me.geometry w (view r) → Contains (r c).facts (Class s q k) → Contains (r c).dying b → words_before s q i ≤ b - bodies me.geometry → (b ≡ place_in me s q i) ⊎ (place_in me s q (i + k) ≤ b)
    next_at w r b h fact has low =
        let y = dying_at w r b h has in
        let class : w (Page s q) ≡ k = (All-contains (FactHolds me.geometry w (view r)) (r c).facts (Class s q k) (h.facts c l) fact).1 in
        elim (cases_lt b (place_in me s (q + 1) 0)) [
          | inl high ↦ in_page y.0.0 (subst (λ z. (b - bodies me.geometry) % 128 % z ≡ 0) (page_class (classes w) s q b lq (omega arith) high ∙ class) y.3) high
          | inr past ↦ inr (ends past)
        ]
      where
        -- a page has room for a whole number of blocks
        ends : place_in me s (q + 1) 0 ≤ b → place_in me s q (i + k) ≤ b
        ends past = by_class k is (λ z. i % z ≡ 0 → place_in me s q (i + z) ≤ b) (λ a. omega arith) (λ a. omega arith) (λ a. omega arith) (λ a. omega arith) aligned

        -- two of them are at one place, or a class apart
        apart : (j : ℕ) → j % k ≡ 0 → i ≤ j → (j ≡ i) ⊎ (i + k ≤ j)
        apart j z le = elim (cases_eq j i) [
          | inl e ↦ inl e
          | inr n ↦ inr (by_class k is (λ y. i % y ≡ 0 → j % y ≡ 0 → i + y ≤ j) (λ a d. omega arith) (λ a d. omega arith) (λ a d. omega arith) (λ a d. omega arith) aligned z)
        ]

        in_page : bodies me.geometry ≤ b → (b - bodies me.geometry) % 128 % k ≡ 0 → b < place_in me s (q + 1) 0 → (b ≡ place_in me s q i) ⊎ (place_in me s q (i + k) ≤ b)
        in_page some z high = elim (apart (b - place_in me s q 0) (subst (λ y. y % k ≡ 0) (omega arith) z) (omega arith)) [ inl e ↦ inl (omega arith) | inr o ↦ inr (omega arith) ]

    -- in a held state a zero-count block that doesn't come before block i of a page whose class was read is that one, or doesn't come before the next one
    pub next_block : (m : Memo) (b : ℕ) → IsHeld me m → Contains m.facts (Class s q k) → Contains m.dying b → words_before s q i ≤ b - bodies me.geometry → (b ≡ place_in me s q i) ⊎ (place_in me s q (i + k) ≤ b)
    next_block m b (w, r, h, same) fact has low = next_at w r b h (subst (λ (x : Memo). Contains x.facts (Class s q k)) (sym same) fact) (subst (λ (x : Memo). Contains x.dying b) (sym same) has) low
