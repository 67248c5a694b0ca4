-- word steps at the headers, the tags and the words of blocks as parts: what each needs of the memo
use Rattle.std.proofs.Common.{◌≡◌, ◌≢◌, ℕ, ◌+◌, ◌-◌, ◌*◌, ◌/◌, ◌%◌, ◌<◌, refl, sym, ap, ◌∙◌, subst, arith, Bool, true, false, cond, eqb, leb, not, ◌&&◌, ◌||◌, List, [], ◌∷◌, ◌++◌, map, get_or, Option, None, Some}
use Rattle.std.proofs.lemmas.Bool.{and_from, cond-false, cond-true, eq-eqb, le-leb, lt-leb, lt-ltb, ne_eqb, or_left, or_right}
use Rattle.std.proofs.lemmas.{Cmp.nat_eq_equiv, List.Elements.{All-append, All-cons, All-contains, All-map, All-nil}}
use Rattle.std.proofs.lemmas.Map.Views.{list_any-from_Contains}
use Rattle.std.specs.List.{All, Contains}
use Rattle.shm_words.specs.{Classes.IsClass, Headers.header_of, Layout.{bodies, total_of}}
use Rattle.shm_words.specs.Tags.{tag_author, tag_plain, tag_refs}
use Rattle.shm_words.proofs.Classing.{class_room}
use Rattle.shm_graph.specs.declared.{ask.{Ask.TheVariants.{Load, Store}, Me.Me}, spot.Spot.Spot}
use Rattle.shm_graph.specs.declared.spot.Spot.TheVariants.{Body, Head, Spare, Tag, Unused}
use Rattle.shm_graph.specs.declared.memo.{Fact.TheVariants.Class, Memo.Memo, Op.Op, Step.Step, Stored.Stored}
use Rattle.shm_graph.specs.{Agents.recovers, Blocks.{classes, IsBlock}, Changes.{called, memo_on}, Core.core}
use Rattle.shm_graph.specs.{Held.HeldAt, Laws.{Frame, Stands, framed}, Ops.{cover, cover_of, is_op, slot_of}}
use Rattle.shm_graph.specs.Reach.{is_dying, is_reached, learnt, reached_blocks}
use Rattle.shm_graph.specs.MemoAfterRead.{is_held, is_latched, op_refused, raised_by, reference_read, word_read}
use Rattle.shm_graph.specs.{Spots.{block_spot, class_at, segment_of, spot_at}, MemoAfterStore.{op_written, written}}
use Rattle.shm_graph.specs.Telling.{Claim, Directory, Entry, Other, Role, Value, bare, claim_of, claims, covers, role_claim, roles, shaped, tag_claim, tag_claims, word_of_block}
use Rattle.shm_graph.specs.Views.{view}
use Rattle.shm_graph.specs.declared.memo.Op.TheVariants as op
use Rattle.shm_graph.proofs.Memos.Calls.{FactHolds}
use Rattle.shm_graph.proofs.Memos.LoadTold.{claim_found, claim_in_all, claim_here, claim_spot, claim_word}
use Rattle.shm_graph.proofs.Spots.{SpotPlaces.body_spot_at, Spotting.{block_within, body_spot, in_pool, tag_spot}}
use Rattle.shm_graph.proofs.States.{Claims.{ClaimSound, claims_sound}, Holders.{Holds, held_live_block, reach_counted}}
use Rattle.shm_graph.proofs.{States.Reached.reached_here, StepKinds.Loads.choice}
use Rattle.plans.specs.{Parts.IsHeld, Placed.MayStand, Words.IsWord, Proved.Words.word_more}
use Rattle.plans.specs.Proved.WordSteps.{IsThere, word_in}
use Rattle.kind_laws.specs.Slotting.{Writes}
use Rattle.kind_parts.specs.{Conditions.MayWrite, LoadNeeds.{IsCovered, IsSettled, IsTold, MayLookBy}}
use Rattle.kind_parts.specs.WordParts.{BodyStored, HeaderLoaded, HeaderSeen, IsDyingWord, IsLatchedWord, IsPlainWord, ReferenceLoaded, WordLoaded}
use Rattle.kind_parts.proofs.{BeginWords.known_here, BlockTold.{dying_false, dying_true}}
use Rattle.kind_parts.proofs.BodyLoads.{header_loaded, tag_loaded, word_loaded}
use Rattle.kind_parts.proofs.{Cores.{HasSlot, body_word, core_cond, header_core}, SlotStores.body_stored}
use Rattle.kind_parts.proofs.Words.Own.{at_step, word_for}

-- ---- where the words of a block lie that is told

covers_word : (k : Claim) (i : ℕ) → i < k.refs + k.plain → covers (k.block + 2 + i) k ≡ true
covers_word k i low = and_from _ _ (lt-ltb k.block (k.block + 2 + i) (omega arith)) (lt-ltb (k.block + 2 + i) (k.block + 2 + k.refs + k.plain) (omega arith))

-- no word of a block is the spare word
not_spare : (b at : ℕ) → word_of_block b at ≢ Spare
not_spare b at = choice (λ q. q ≢ Spare) (eqb at (b + 1)) (Tag b) (Body b (at - (b + 2))) (λ z e. cc) (λ z e. cc)

module _ (me : Me) (w : Spot → ℕ) (r : ℕ → Memo) (h : HeldAt me.geometry w (view r)) (l : me.who < me.geometry.clients) where
  -- what is told is so
  told_sound : (k : Claim) → Contains (claims me.geometry.wide me.who (r me.who)) k → ClaimSound me.geometry w (view r) me.who k
  told_sound k has = All-contains (ClaimSound me.geometry w (view r) me.who) (claims me.geometry.wide me.who (r me.who)) k (claims_sound me.geometry w r h me.who l) has

  told_block : (k : Claim) → Contains (claims me.geometry.wide me.who (r me.who)) k → IsBlock me.geometry (classes w) k.block
  told_block k has = held_live_block me.geometry w (view r) h k.block (told_sound k has).live

  told_class : (k : Claim) → Contains (claims me.geometry.wide me.who (r me.who)) k → IsClass (class_at me.geometry (classes w) k.block)
  told_class k has = h.sizes.classes ((k.block - bodies me.geometry) / 2048) ((k.block - bodies me.geometry) / 128 % 16) (block_within me.geometry (classes w) k.block (told_block k has)).2

  told_tag : (k : Claim) → Contains (claims me.geometry.wide me.who (r me.who)) k → spot_at me.geometry (classes w) (k.block + 1) ≡ Tag k.block
  told_tag k has = tag_spot me.geometry (classes w) k.block (told_block k has) (told_class k has)

  told_word : (k : Claim) (i : ℕ) → Contains (claims me.geometry.wide me.who (r me.who)) k → i < k.refs + k.plain → spot_at me.geometry (classes w) (k.block + 2 + i) ≡ Body k.block i
  told_word k i has low =
      let s = told_sound k has in
      let t = h.blocks.tagged k.block s.live in
      let room = class_room (tag_refs me.geometry.wide (w (Tag k.block))) (tag_plain me.geometry.wide (w (Tag k.block))) t.refs t.plain in
      let size = t.fits in
      let shape = s.shape (λ z. omega arith) in
      let u = shape.0 in
      let o = shape.1 in
      body_spot me.geometry (classes w) k.block i (told_block k has) (told_class k has) (omega arith)

  told_end : (k : Claim) → Contains (claims me.geometry.wide me.who (r me.who)) k → (0 < k.block) × (k.block + 1 + k.refs + k.plain < total_of me.geometry)
  told_end k has =
      let at : ℕ = k.block + 1 + k.refs + k.plain in
      let s = told_sound k has in
      let over : covers at k ≡ true = and_from _ _ (lt-ltb k.block at (omega arith)) (lt-ltb at (k.block + 2 + k.refs + k.plain) (omega arith)) in
      ((in_pool me.geometry (classes w) k.block (Head k.block) (told_block k has) (λ e. cc)).0, (in_pool me.geometry (classes w) at (word_of_block k.block at) (claim_spot me.geometry w (view r) h me.who k at s over) (not_spare k.block at)).1)

-- in a held state the words of a block that is told lie in the pool
pub told_inside : (me : Me) (m : Memo) (k : Claim) → me.who < me.geometry.clients → IsHeld me m → Contains (claims me.geometry.wide me.who m) k → (0 < k.block) × (k.block + 1 + k.refs + k.plain < total_of me.geometry)
told_inside me m k l (w, r, h, same) has = told_end me w r h l k (subst (λ (x : Memo). Contains (claims me.geometry.wide me.who x) k) (sym same) has)

pub recoverer_goes_on : (m : Memo) (b n : ℕ) → recovers m ≡ true → op_refused m b n ≡ m.op
recoverer_goes_on m b n e = ap (λ z. cond (not z && (is_held (raised_by m.op) b && leb 1023 (header_of n).count)) op.Nothing m.op) e

-- while no step is in progress no word is about to be stored
pub idle_settled : (m : Memo) (p : Spot) → m.op ≡ op.Nothing → IsSettled m p
idle_settled m p e x = ap (λ o. cover (cover_of o) p x) e

-- ---- authors that are told

-- what holds of any element holds of each
every : {X : Type 0} (P : X → Type 0) (xs : List X) → ((x : X) → P x) → All P xs
every P xs f = λ k d low. f (get_or xs k d)

-- under a latch each claim that tells reference words tells the author
abbrev HasAuthor : Claim → Type 0
HasAuthor k = k.refs ≢ 0 → (a : ℕ) × (k.author ≡ Some a)

tag_author_told : (wide : Bool) (p : Spot) (x : ℕ) → All HasAuthor (tag_claim wide p x)
tag_author_told wide (Tag b) x = All-cons HasAuthor _ [] (λ _. (tag_author wide x, refl)) (All-nil HasAuthor)
tag_author_told wide _ x = All-nil HasAuthor

tags_author_told : (wide : Bool) (ks : List Stored) → All HasAuthor (tag_claims wide ks)
tags_author_told wide [] = All-nil HasAuthor
tags_author_told wide (s ∷ ks) = All-append HasAuthor (tag_claim wide s.spot s.value) (tag_claims wide ks) (tag_author_told wide s.spot s.value) (tags_author_told wide ks)

role_author_told : (a b : ℕ) (role : Role) → HasAuthor (shaped (Some a) b role)
role_author_told a b Directory n = (a, refl)
role_author_told a b Entry n = (a, refl)
role_author_told a b Value n = absurd (n refl)
role_author_told a b Other n = absurd (n refl)

authors_told : (wide : Bool) (c : ℕ) (m : Memo) (a : ℕ) → m.latch ≡ Some a → All HasAuthor (claims wide c m)
authors_told wide c m a e =
    All-append HasAuthor (tag_claims wide m.known ++ map (role_claim m.latch) (roles m) ++ map (λ b. shaped None b Value) m.values) (map bare (reached_blocks c m ++ m.dying))
    (All-append HasAuthor (tag_claims wide m.known ++ map (role_claim m.latch) (roles m)) (map (λ b. shaped None b Value) m.values)
    (All-append HasAuthor (tag_claims wide m.known) (map (role_claim m.latch) (roles m)) (tags_author_told wide m.known)
    (All-map HasAuthor (role_claim m.latch) (roles m) (every (λ p. HasAuthor (role_claim m.latch p)) (roles m) (λ p. subst (λ o. HasAuthor (role_claim o p)) (sym e) (role_author_told a p.block p.role)))))
    (All-map HasAuthor (λ b. shaped None b Value) m.values (every (λ b. HasAuthor (shaped None b Value)) m.values (λ b n. absurd (n refl)))))
    (All-map HasAuthor bare (reached_blocks c m ++ m.dying) (every (λ b. HasAuthor (bare b)) (reached_blocks c m ++ m.dying) (λ b n. absurd (n refl))))

-- ---- the word steps

-- of the memo at a step: what is told of a word
told_at : (wide : Bool) (c at : ℕ) (x m : Memo) (k : Claim) → core x ≡ core m → claim_of wide c m at ≡ Some k → claim_of wide c x at ≡ Some k
told_at wide c at x m k e told = ap (λ (y : Memo). claim_of wide c y at) e ∙ told

-- a step that writes is in progress
is_step : (o : Op) (v : ℕ) → Writes o (op_written o) v → is_op o ≡ true
is_step op.Nothing v h = absurd h
is_step _ v h = refl

module _ (first : Bool) (me : Me) (m : Memo) (l : me.who < me.geometry.clients) where
  abbrev c : ℕ
  c = me.who

  -- ---- headers

  module _ (b : ℕ) (inside : (0 < b) × (b < total_of me.geometry)) where
    -- the header of a block is loaded; where the block is told, `told_there` says where it lies
    pub header_load : IsThere first me (Load b) (HeaderLoaded me.geometry b) m (Head b) → IsWord first me (Load b) (HeaderLoaded me.geometry b) (word_for me (Load b)) m
    header_load there =
        word_in first me (Load b) (HeaderLoaded me.geometry b) m (Head b) inside.1 there (λ x t. refl)
        (λ w r f st stands same. header_loaded me w r f [] b b st (there w r f st same))
        (λ w r f st stands same. let t : Step = framed me (Load b) f (w (Head b)) in let x : Memo = called (r c) t in let n : ℕ = w (Head b) in
        record {
          found = tt;
          left = header_core me (Load b) f (r c) b n true ∙ ap (λ (y : Memo). core (record y { op = op_refused y b n })) same;
          read = (
            (0, omega arith, refl),
            λ none has. subst (λ z. Contains (cond z (Head b ∷ x.zeros) x.zeros) (Head b))
                (sym (and_from _ _ (eq-eqb n 0 none) (list_any-from_Contains nat_eq_equiv (segment_of me.geometry b) x.owned (subst (λ (os : List ℕ). Contains os (segment_of me.geometry b)) (sym (ap (λ (y : Memo). y.owned) (at_step r c m t same))) has))))
                (0, omega arith, refl),
          );
        })

    -- and where no step could end so
    pub header_see : ((n : ℕ) → op_refused m b n ≡ m.op) → IsThere first me (Load b) (HeaderLoaded me.geometry b) m (Head b) → IsWord first me (Load b) (HeaderSeen me.geometry b) (word_for me (Load b)) m
    header_see stays there =
        word_more first me (Load b) (HeaderLoaded me.geometry b) (HeaderSeen me.geometry b) (word_for me (Load b)) m
        (λ n x h. record { found = tt; left = h.left ∙ ap (λ o. core (record m { op = o })) (stays n); read = h.read })
        (header_load there)

    pub told_there : IsTold me.geometry.wide c m b → IsThere first me (Load b) (HeaderLoaded me.geometry b) m (Head b)
    told_there (k, has, of) w r f st same = subst (λ d. spot_at me.geometry (classes w) d ≡ Head d) of (told_block me w r st.held st.who k (subst (λ (x : Memo). Contains (claims me.geometry.wide c x) k) (sym same) has))

    -- so where it is the one at this place of a page whose class was read
    pub paged_there : (s q k i : ℕ) → s < me.geometry.segments → q < 16 → i < 128 → b ≡ bodies me.geometry + 2048 * s + 128 * q + i → i % k ≡ 0 → Contains m.facts (Class s q k) → IsThere first me (Load b) (HeaderLoaded me.geometry b) m (Head b)
    paged_there s q k i ls lq li here first_word has w r f st same =
        let at : ℕ = bodies me.geometry + 2048 * s + 128 * q + i in
        let fact = All-contains (FactHolds me.geometry w (view r)) (r c).facts (Class s q k) (st.held.facts c st.who) (subst (λ (x : Memo). Contains x.facts (Class s q k)) (sym same) has) in
        let is : spot_at me.geometry (classes w) at ≡ Head at =
        body_spot_at me.geometry (classes w) s q i ls lq li
        ∙ (ap (λ y. block_spot y at i) fact.1
        ∙ (cond-false (eqb k 0) (Unused at) _ (ne_eqb k 0 fact.0) ∙ cond-true (eqb (i % k) 0) (Head at) _ (eq-eqb (i % k) 0 first_word))) in
        subst (λ d. spot_at me.geometry (classes w) d ≡ Head d) (sym here) is

  -- ---- tags

  -- the tag of a block that is told is loaded
  pub tag_load : (b : ℕ) → (0 < b + 1) × (b + 1 < total_of me.geometry) → IsTold me.geometry.wide c m b → IsWord first me (Load (b + 1)) (WordLoaded (Tag b)) (word_for me (Load (b + 1))) m
  tag_load b inside told =
      let there : IsThere first me (Load (b + 1)) (WordLoaded (Tag b)) m (Tag b) = λ w r f st same. subst (λ d. spot_at me.geometry (classes w) (d + 1) ≡ Tag d) told.2 (told_tag me w r st.held st.who told.0 (subst (λ (x : Memo). Contains (claims me.geometry.wide c x) told.0) (sym same) told.1)) in
      word_in first me (Load (b + 1)) (WordLoaded (Tag b)) m (Tag b) inside.1 there (λ x t. refl)
      (λ w r f st stands same. tag_loaded me w r f [] (b + 1) b st (there w r f st same) (subst (λ (x : Memo). IsTold me.geometry.wide c x b) (sym same) told))
      (λ w r f st stands same. let t : Step = framed me (Load (b + 1)) f (w (Tag b)) in
      record {
        found = λ y h. (known_here me.geometry w r c st.held st.who (Tag b) y (subst (λ (z : Memo). Contains z.known (record { spot = Tag b; value = y })) (sym same) h)).0;
        left = ap (λ (y : Memo). core (record y { known = learnt (Tag b) (w (Tag b)) y.known })) (at_step r c m t same);
        read = tt;
      })

  -- ---- words

  module _ (b i : ℕ) (inside : (0 < b + 2 + i) × (b + 2 + i < total_of me.geometry)) where
    abbrev at : ℕ
    at = b + 2 + i

    -- the memo tells the word
    abbrev Tells : Claim → Type 0
    Tells k = Contains (claims me.geometry.wide c m) k × (k.block ≡ b) × (i < k.refs + k.plain)

    -- where it lies
    word_there : (after : Memo → ℕ → Memo → Type 0) (k : Claim) → Tells k → IsThere first me (Load at) after m (Body b i)
    word_there after k a w r f st same = subst (λ d. spot_at me.geometry (classes w) (d + 2 + i) ≡ Body d i) a.1 (told_word me w r st.held st.who k i (subst (λ (x : Memo). Contains (claims me.geometry.wide c x) k) (sym same) a.0) a.2)

    may_look : (o : Option Claim) (latch : Option ℕ) → IsSettled m (Body b i) → MayLookBy o latch (IsSettled m (Body b i))
    may_look None latch s = tt
    may_look (Some k) latch s = λ e. s

    -- the claim by which it is told has as many reference words as each other claim of the block
    first_claim : (w : Spot → ℕ) (r : ℕ → Memo) → HeldAt me.geometry w (view r) → c < me.geometry.clients → r c ≡ m → (k : Claim) → Tells k → (j : Claim) × (claim_of me.geometry.wide c m at ≡ Some j) × ClaimSound me.geometry w (view r) c j × (j.block ≡ b) × (j.refs ≡ k.refs)
    first_claim w r h lc same k a =
        let has : Contains (claims me.geometry.wide c (r c)) k = subst (λ (x : Memo). Contains (claims me.geometry.wide c x) k) (sym same) a.0 in
        let over : covers at k ≡ true = subst (λ d. covers (d + 2 + i) k ≡ true) a.1 (covers_word k i a.2) in
        let q = claim_found at (claims me.geometry.wide c m) k a.0 over in
        let s = claim_here me.geometry w r h c lc at q.0 (ap (λ (x : Memo). claim_of me.geometry.wide c x at) same ∙ q.1) in
        let lies : spot_at me.geometry (classes w) at ≡ Body b i = subst (λ d. spot_at me.geometry (classes w) (d + 2 + i) ≡ Body d i) a.1 (told_word me w r h lc k i has a.2) in
        let x = claim_word me.geometry w (view r) h c q.0 at b i s.0 s.1 lies in
        let k_refs = (told_sound me w r h lc k has).shape (λ z. (let y = a.2 in omega arith)) in
        let j_refs = s.0.shape (λ z. (let y = x.1 in omega arith)) in
        (q.0, q.1, s.0, x.0, sym j_refs.0 ∙ (ap (λ d. tag_refs me.geometry.wide (w (Tag d))) (x.0 ∙ sym a.1) ∙ k_refs.0))

    -- what is known of it is found
    found_known : (w : Spot → ℕ) (r : ℕ → Memo) → HeldAt me.geometry w (view r) → c < me.geometry.clients → r c ≡ m → (y : ℕ) → Contains m.known (record { spot = Body b i; value = y }) → w (Body b i) ≡ y
    found_known w r h lc same y has = (known_here me.geometry w r c h lc (Body b i) y (subst (λ (z : Memo). Contains z.known (record { spot = Body b i; value = y })) (sym same) has)).0

    -- a word that is told is loaded, of which this is made
    told_load : (after : Memo → ℕ → Memo → Type 0) (k : Claim) → Tells k → IsSettled m (Body b i)
        → ((w : Spot → ℕ) (r : ℕ → Memo) (f : Frame) → Stands me w r f [] → MayStand first f → r c ≡ m → after m (w (Body b i)) (memo_on (r c) (framed me (Load at) f (w (Body b i))) (Body b i)))
        → IsWord first me (Load at) after (word_for me (Load at)) m
    told_load after k a settled makes =
        let over : IsCovered me.geometry.wide c m at = (k, a.0, subst (λ d. covers (d + 2 + i) k ≡ true) a.1 (covers_word k i a.2)) in
        word_in first me (Load at) after m (Body b i) inside.1 (word_there after k a) (λ x t. refl)
        (λ w r f st stands same. word_loaded me w r f [] at b i st (word_there after k a w r f st same) (subst (λ (x : Memo). IsCovered me.geometry.wide c x at) (sym same) over) (subst (λ (x : Memo). MayLookBy (claim_of me.geometry.wide c x at) x.latch (IsSettled x (Body b i))) (sym same) (may_look (claim_of me.geometry.wide c m at) m.latch settled)))
        makes

    -- it becomes known, where it is no reference word, or the block is a zero-count block
    known_left : (x : Memo) (n : ℕ) (j : Claim) → core x ≡ core m → claim_of me.geometry.wide c m at ≡ Some j → (is_dying m b || leb j.refs i) ≡ true → core (word_read x (claim_of me.geometry.wide c x at) b i n) ≡ core (record m { known = learnt (Body b i) n m.known })
    known_left x n j e told known =
        ap (λ o. core (word_read x o b i n)) (told_at me.geometry.wide c at x m j e told)
        ∙ (ap core (cond-true (is_dying x b || leb j.refs i) (record x { known = learnt (Body b i) n x.known }) (cond (is_latched j.author x.latch) (reference_read x b i n) x) (ap (λ (y : Memo). is_dying y b || leb j.refs i) e ∙ known))
        ∙ ap (λ (y : Memo). core (record y { known = learnt (Body b i) n y.known })) e)

    -- a plain word
    pub plain_load : IsPlainWord me.geometry.wide c m b i → IsSettled m (Body b i) → IsWord first me (Load at) (WordLoaded (Body b i)) (word_for me (Load at)) m
    plain_load (k, has, of, high, low) settled =
        told_load (WordLoaded (Body b i)) k (has, of, low) settled
        (λ w r f st stands same. let t : Step = framed me (Load at) f (w (Body b i)) in let q = first_claim w r st.held st.who same k (has, of, low) in
        record {
          found = found_known w r st.held st.who same;
          left = known_left (called (r c) t) (w (Body b i)) q.0 (at_step r c m t same) q.1 (or_right (is_dying m b) (leb q.0.refs i) (ap (λ n. leb n i) q.4 ∙ le-leb k.refs i high));
          read = tt;
        })

    -- a word of a zero-count block
    pub dying_load : IsDyingWord me.geometry.wide c m b i → IsSettled m (Body b i) → IsWord first me (Load at) (WordLoaded (Body b i)) (word_for me (Load at)) m
    dying_load (dies, (k, has, of, low)) settled =
        told_load (WordLoaded (Body b i)) k (has, of, low) settled
        (λ w r f st stands same. let t : Step = framed me (Load at) f (w (Body b i)) in let q = first_claim w r st.held st.who same k (has, of, low) in
        record {
          found = found_known w r st.held st.who same;
          left = known_left (called (r c) t) (w (Body b i)) q.0 (at_step r c m t same) q.1 (or_left (is_dying m b) (leb q.0.refs i) (dying_true m b dies));
          read = tt;
        })

    -- a reference word that is read under a latch is in the core
    reference_of_core : (n : ℕ) (x : Memo) → core (reference_read x b i n) ≡ core (reference_read (core x) b i n)
    reference_of_core n x = core_cond (eqb n 0) _ _ _ _ refl refl

    -- a reference word under its author's latch
    pub reference_load : IsLatchedWord me.geometry.wide c m b i → IsSettled m (Body b i) → IsWord first me (Load at) (ReferenceLoaded b i) (word_for me (Load at)) m
    reference_load (reach, (k, a, has, of, low, author, holds)) settled =
        let tells : Tells k = (has, of, omega arith) in
        told_load (ReferenceLoaded b i) k tells settled
        (λ w r f st stands same. let t : Step = framed me (Load at) f (w (Body b i)) in let x : Memo = called (r c) t in let n : ℕ = w (Body b i) in
        let q = first_claim w r st.held st.who same k tells in
        let j : Claim = q.0 in
        let e : core x ≡ core m = at_step r c m t same in
        let counted = reach_counted me.geometry w (view r) st.held c b st.who (reached_here me.geometry w r st.held c st.who b (subst (λ (y : Memo). is_reached c y b ≡ true) (sym same) reach)) in
        let lives : is_dying m b ≡ false = dying_false m b (λ y. counted.1 ((st.held.dying c st.who).listed b (subst (λ (z : Memo). Contains z.dying b) (sym same) y)).1) in
        let many : leb j.refs i ≡ false = lt-leb j.refs i (let s = q.4 in omega arith) in
        let named = (claim_in_all HasAuthor at (claims me.geometry.wide c m) j (authors_told me.geometry.wide c m a holds) q.1).0 (λ z. (let s = q.4 in omega arith)) in
        let same_author : named.0 ≡ a = sym (q.2.author named.0 named.1) ∙ (ap (λ d. tag_author me.geometry.wide (w (Tag d))) (q.3 ∙ sym of) ∙ (told_sound me w r st.held st.who k (subst (λ (y : Memo). Contains (claims me.geometry.wide c y) k) (sym same) has)).author a author) in
        let latched : is_latched j.author x.latch ≡ true = ap (is_latched j.author) (ap (λ (y : Memo). y.latch) e ∙ holds) ∙ (ap (λ o. is_latched o (Some a)) (named.1 ∙ ap Some same_author) ∙ eq-eqb a a refl) in
        record {
          found = found_known w r st.held st.who same;
          left =
              ap (λ o. core (word_read x o b i n)) (told_at me.geometry.wide c at x m j e q.1)
              ∙ (ap core (cond-false (is_dying x b || leb j.refs i) (record x { known = learnt (Body b i) n x.known }) (cond (is_latched j.author x.latch) (reference_read x b i n) x) (ap (λ (y : Memo). is_dying y b || leb j.refs i) e ∙ (ap (λ z. z || leb j.refs i) lives ∙ many)))
              ∙ (ap core (cond-true (is_latched j.author x.latch) (reference_read x b i n) x latched)
              ∙ (reference_of_core n x ∙ (ap (λ (y : Memo). core (reference_read y b i n)) e ∙ sym (reference_of_core n m)))));
          read = tt;
        })

    -- the slot of a step in progress: a reference word
    slot_there : (v : ℕ) → MayWrite m (Body b i) v → IsThere first me (Store at v) (BodyStored b i v) m (Body b i)
    slot_there v may w r f st same =
        let write : MayWrite (r c) (Body b i) v = subst (λ (x : Memo). MayWrite x (Body b i) v) (sym same) may in
        let holds = subst (Holds w me.geometry (view r) c) write.slot (st.held.slots c st.who (is_step (r c).op v write.op)) in
        let is : IsBlock me.geometry (classes w) b = held_live_block me.geometry w (view r) st.held b holds.0 in
        let class : IsClass (class_at me.geometry (classes w) b) = st.held.sizes.classes ((b - bodies me.geometry) / 2048) ((b - bodies me.geometry) / 128 % 16) (block_within me.geometry (classes w) b is).2 in
        let t = st.held.blocks.tagged b holds.0 in
        let room = class_room (tag_refs me.geometry.wide (w (Tag b))) (tag_plain me.geometry.wide (w (Tag b))) t.refs t.plain in
        let size = t.fits in
        let low = holds.1 in
        body_spot me.geometry (classes w) b i is class (omega arith)

    pub body_store : first ≡ false → (v : ℕ) → MayWrite m (Body b i) v → IsWord first me (Store at v) (BodyStored b i v) (word_for me (Store at v)) m
    body_store going v may =
        word_in first me (Store at v) (BodyStored b i v) m (Body b i) inside.1 (slot_there v may) (λ x t. refl)
        (λ w r f st stands same. body_stored me w r f [] at b i v st (stands going) (slot_there v may w r f st same) (subst (λ (x : Memo). MayWrite x (Body b i) v) (sym same) may))
        (λ w r f st stands same. let t : Step = framed me (Store at v) f 0 in let x : Memo = called (r c) t in
        let slot : HasSlot x (Body b i) = subst (λ o. (is_op o ≡ true) × (slot_of o ≡ Body b i)) (sym (ap (λ (y : Memo). y.op) (at_step r c m t same))) (is_step m.op v may.op, may.slot) in
        record {
          found = tt;
          left = ap core (body_word me.geometry c b i v x slot) ∙ ap (λ (y : Memo). core (record (written y) { known = learnt (Body b i) v y.known })) (at_step r c m t same);
          read = tt;
        })
