-- the memo tells the spot of a word of a body that is read
use Rattle.std.proofs.Common.{◌≡◌, ◌≢◌, ℕ, ◌+◌, ◌-◌, ◌/◌, ◌%◌, zero, suc, ◌<◌, refl, sym, ap, ◌∙◌, subst, arith, Bool, true, false, ltb, eqb, inl, inr, ◌⊎◌, List, [], ◌∷◌, Option, Some, None}
use Rattle.std.proofs.lemmas.Bool.{cases_Bool, and_parts, eqb-true, eq-eqb, ltb-true, cond-true, cond-false, false≢true, true≢false}
use Rattle.std.proofs.lemmas.List.Elements.{All-head, All-tail, Contains-append_cases}
use Rattle.std.specs.{Prelude.slice_index_or, List.{All, Contains}}
use Rattle.shm_words.specs.{declared.geometry.Geometry.Geometry, Classes.IsClass, Layout.bodies}
use Rattle.shm_words.specs.Tags.{tag_refs, tag_plain}
use Rattle.shm_words.proofs.Classing.{class_room}
use Rattle.shm_graph.specs.declared.{ask.Ask.TheVariants.Load, spot.Spot.{Spot, TheVariants.{Head, Tag, Body}}}
use Rattle.shm_graph.specs.{declared.memo.Memo.Memo, Spots.{spot_at, class_at, is_in_body}, Blocks.{classes, IsBlock}}
use Rattle.shm_graph.specs.{Views.{View, view}, Held.HeldAt}
use Rattle.shm_graph.specs.Telling.{Claim, claims, covers, claim_in, claim_of, word_of_block, spot_claimed, spot_told}
use Rattle.shm_graph.proofs.Spots.Spotting.{block_within, tag_spot, body_spot, head_at, body_block}
use Rattle.shm_graph.proofs.States.{Holders.held_live_block, Claims.{ClaimSound, claims_sound}}
use Rattle.shm_graph.proofs.{StepKinds.Loads.choice, Memos.BodyTold.told_in_body}

-- some claim of the memo covers the address
abbrev pub IsClaimed : Bool → ℕ → Memo → ℕ → Type 0
IsClaimed wide c m at = (k : Claim) × Contains (claims wide c m) k × (covers at k ≡ true)

-- ---- the first claim that covers an address

-- an element is the first one or one of the others
contains_first : {X : Type 0} (x : X) (xs : List X) (y : X) → Contains (x ∷ xs) y → (x ≡ y) ⊎ Contains xs y
contains_first x xs y h =
    elim (Contains-append_cases (x ∷ []) xs y h) [
      | inl z ↦ inl (alone z.0 z.1 z.2)
      | inr z ↦ inr z
    ]
  where
    alone : (k : ℕ) → k < 1 → slice_index_or (x ∷ []) k y ≡ y → x ≡ y
    alone zero l e = e
    alone (suc k) l e = absurd (omega arith)

-- where some claim covers an address, a first one does
pub claim_found : (at : ℕ) (ks : List Claim) (k : Claim) → Contains ks k → covers at k ≡ true → (j : Claim) × (claim_in at ks ≡ Some j)
claim_found at [] k h e = let l = h.1 in absurd (omega arith)
claim_found at (j ∷ ks) k h e =
    elim (cases_Bool (covers at j)) [
      | inl y ↦ (j, cond-true (covers at j) (Some j) (claim_in at ks) y)
      | inr n ↦ (let q = claim_found at ks k (elim (contains_first j ks k h) [ inl z ↦ absurd (false≢true (sym n ∙ (ap (covers at) z ∙ e))) | inr z ↦ z ]) e in
          (q.0, cond-false (covers at j) (Some j) (claim_in at ks) n ∙ q.1))
    ]

-- what holds of all claims holds of that one
pub claim_in_all : (P : Claim → Type 0) (at : ℕ) (ks : List Claim) (k : Claim) → All P ks → claim_in at ks ≡ Some k → P k × (covers at k ≡ true)
claim_in_all P at [] k h e = let z : None ≡ Some k = e in absurd (cc)
claim_in_all P at (j ∷ ks) k h e =
    elim (cases_Bool (covers at j)) [
      | inl y ↦ (let z : Some j ≡ Some k = sym (cond-true (covers at j) (Some j) (claim_in at ks) y) ∙ e in let q : j ≡ k = cc in (subst P q (All-head P j ks h), subst (λ i. covers at i ≡ true) q y))
      | inr n ↦ claim_in_all P at ks k (All-tail P j ks h) (sym (cond-false (covers at j) (Some j) (claim_in at ks) n) ∙ e)
    ]

module _ (g : Geometry) (w : Spot → ℕ) (v : View) (h : HeldAt g w v) (c : ℕ) where
  -- the words that a claim covers are those of its block
  pub claim_spot : (k : Claim) (at : ℕ) → ClaimSound g w v c k → covers at k ≡ true → spot_at g (classes w) at ≡ word_of_block k.block at
  claim_spot k at s e =
      let b = k.block in
      let x = and_parts (ltb b at) (ltb at (b + 2 + k.refs + k.plain)) e in
      let low = ltb-true b at x.0 in
      let high = ltb-true at (b + 2 + k.refs + k.plain) x.1 in
      let is : IsBlock g (classes w) b = held_live_block g w v h b s.live in
      let class : IsClass (class_at g (classes w) b) = h.sizes.classes ((b - bodies g) / 2048) ((b - bodies g) / 128 % 16) (block_within g (classes w) b is).2 in
      let t = h.blocks.tagged b s.live in
      let room = class_room (tag_refs g.wide (w (Tag b))) (tag_plain g.wide (w (Tag b))) t.refs t.plain in
      let size = t.fits in
      choice (λ p. spot_at g (classes w) at ≡ p) (eqb at (b + 1)) (Tag b) (Body b (at - (b + 2)))
      (λ y. ap (spot_at g (classes w)) (eqb-true at (b + 1) y) ∙ tag_spot g (classes w) b is class)
      (λ y. let n : at ≢ b + 1 = (λ z. true≢false (sym (eq-eqb at (b + 1) z) ∙ y)) in
      let q = s.shape (λ z. omega arith) in
      let u = q.0 in
      let o = q.1 in
      let m : at ≡ b + 2 + (at - (b + 2)) = omega arith in
      ap (spot_at g (classes w)) m ∙ body_spot g (classes w) b (at - (b + 2)) is class (omega arith))

  -- the block of a claim that covers a tag or a word of a block
  pub claim_tag : (k : Claim) (at b : ℕ) → ClaimSound g w v c k → covers at k ≡ true → spot_at g (classes w) at ≡ Tag b → k.block ≡ b
  claim_tag k at b s e p =
      choice (λ q. q ≡ Tag b → k.block ≡ b) (eqb at (k.block + 1)) (Tag k.block) (Body k.block (at - (k.block + 2)))
      (λ _ z. cc) (λ _ z. absurd (cc)) (sym (claim_spot k at s e) ∙ p)

  -- of which the word is one of those that are told
  pub claim_word : (k : Claim) (at b i : ℕ) → ClaimSound g w v c k → covers at k ≡ true → spot_at g (classes w) at ≡ Body b i → (k.block ≡ b) × (i < k.refs + k.plain)
  claim_word k at b i s e p =
      let same : k.block ≡ b =
      choice (λ q. q ≡ Body b i → k.block ≡ b) (eqb at (k.block + 1)) (Tag k.block) (Body k.block (at - (k.block + 2)))
      (λ _ z. absurd (cc)) (λ _ z. cc) (sym (claim_spot k at s e) ∙ p) in
      let high = ltb-true at (k.block + 2 + k.refs + k.plain) (and_parts (ltb k.block at) (ltb at (k.block + 2 + k.refs + k.plain)) e).1 in
      let there = (body_block g (classes w) at b i p).2 in
      (same, omega arith)

-- a spot of a header
abbrev pub is_head : Spot → Bool
is_head (Head b) = true
is_head p = false

-- the word of a claim's block that it covers is no header
no_head : (k : Claim) (at b : ℕ) → word_of_block k.block at ≡ Head b → ⊥
no_head k at b =
    choice (λ q. q ≡ Head b → ⊥) (eqb at (k.block + 1)) (Tag k.block) (Body k.block (at - (k.block + 2)))
    (λ _ z. false≢true (ap is_head z)) (λ _ z. false≢true (ap is_head z))

-- ---- what is told

module _ (g : Geometry) (w : Spot → ℕ) (r : ℕ → Memo) (h : HeldAt g w (view r)) (c : ℕ) (l : c < g.clients) where
  -- the claim by which a word is told
  pub claim_here : (at : ℕ) (k : Claim) → claim_of g.wide c (r c) at ≡ Some k → ClaimSound g w (view r) c k × (covers at k ≡ true)
  claim_here at k e = claim_in_all (ClaimSound g w (view r) c) at (claims g.wide c (r c)) k (claims_sound g w r h c l) e

  -- a header is claimed by none
  pub head_unclaimed : (at b : ℕ) → spot_at g (classes w) at ≡ Head b → claim_of g.wide c (r c) at ≡ None
  head_unclaimed at b e = by (claim_of g.wide c (r c) at) refl
    where
      by : (o : Option Claim) → claim_of g.wide c (r c) at ≡ o → claim_of g.wide c (r c) at ≡ None
      by None z = z
      by (Some k) z = let q = claim_here at k z in absurd (no_head k at b (sym (claim_spot g w (view r) h c k at q.0 q.1) ∙ e))

  -- a header, and a word that some claim covers
  told_by : (at : ℕ) (p : Spot) → spot_at g (classes w) at ≡ p → ((b : ℕ) × (p ≡ Head b)) ⊎ IsClaimed g.wide c (r c) at → spot_claimed at (claim_of g.wide c (r c) at) ≡ p
  told_by at p e (inl (b, is)) =
      ap (spot_claimed at) (head_unclaimed at b (e ∙ is)) ∙ (ap Head (head_at g (classes w) at b (e ∙ is)) ∙ sym is)
  told_by at p e (inr (k, has, over)) =
      let q = claim_found at (claims g.wide c (r c)) k has over in
      let s = claim_here at q.0 q.1 in
      ap (spot_claimed at) q.1 ∙ (sym (claim_spot g w (view r) h c q.0 at s.0 s.1) ∙ e)

  -- a header, and a word that some claim covers, is told
  pub told_load : (at : ℕ) (p : Spot) → spot_at g (classes w) at ≡ p → is_in_body p ≡ true → ((b : ℕ) × (p ≡ Head b)) ⊎ IsClaimed g.wide c (r c) at → spot_told g c (r c) (Load at) ≡ p
  told_load at p e n x = told_in_body g (classes w) c (r c) (Load at) p e n ∙ told_by at p e x
