-- which blocks a memo tells of, and when a load of one of their words is a look that is right
use Rattle.std.proofs.Common.{◌≡◌, ◌≢◌, ℕ, ◌+◌, ◌<◌, refl, sym, ap, ◌∙◌, subst, arith, true, eqb, inl, inr, List, [], ◌∷◌, ◌++◌, map, Option, Some, None, Bool}
use Rattle.std.proofs.lemmas.Bool.{cases_Bool, and_from, lt-ltb, eqb-true, cond-true, cond-false}
use Rattle.std.proofs.lemmas.List.{get_or-map, length-map, Elements.{Contains-append_left, Contains-append_right}}
use Rattle.std.proofs.lemmas.Map.Views.{Contains-from_any}
use Rattle.std.specs.List.{Contains}
use Rattle.shm_words.specs.Tags.{tag_refs, tag_plain, tag_author}
use Rattle.shm_graph.specs.declared.{spot.Spot.{Spot, TheVariants.{Tag, Body}}, memo.{Stored.Stored, Memo.Memo}}
use Rattle.shm_graph.specs.{Ops.{IsUncommitted, cover}, Reach.{is_at, known_at, reached_blocks, is_reached, is_dying}}
use Rattle.shm_graph.specs.Telling.{Claim, bare, tag_claim, tag_claims, Role, Other, Value, Played, role_in, roles, shaped, role_claim, claims, covers, claim_of}
use Rattle.shm_graph.proofs.{Spots.Spotting.same_spot_is, StepKinds.OpEnd.uncommitted_quiet}
use Rattle.kind_parts.specs.LoadNeeds.{IsTold, IsCovered, IsSettled, MayLook, MayLookBy}
use Rattle.kind_parts.proofs.BlockTold.{dying_listed}

-- ---- claims

-- the image of an element is one of the images
contains_map : {X Y : Type 0} (f : X → Y) (xs : List X) (x : X) → Contains xs x → Contains (map f xs) (f x)
contains_map f xs x h = (h.0, subst (λ n. h.0 < n) (sym (length-map xs f)) h.1, get_or-map f xs h.0 x (f x) h.1 ∙ ap f h.2)

-- a word of a claim's block that it tells
pub covers_word : (k : Claim) (at : ℕ) → k.block < at → at < k.block + 2 + k.refs + k.plain → covers at k ≡ true
covers_word k at l m = and_from _ _ (lt-ltb k.block at l) (lt-ltb at (k.block + 2 + k.refs + k.plain) m)

module _ (c : ℕ) (m : Memo) where
  -- a known tag
  pub tag_told : (wide : Bool) (b x : ℕ) → known_at (Tag b) m.known ≡ Some x → Contains (claims wide c m) (record { block = b; refs = tag_refs wide x; plain = tag_plain wide x; author = Some (tag_author wide x) })
  tag_told wide b x e =
      let k : Claim = record { block = b; refs = tag_refs wide x; plain = tag_plain wide x; author = Some (tag_author wide x) } in
      Contains-append_left ((tag_claims wide m.known ++ map (role_claim m.latch) (roles m)) ++ map (λ d. shaped None d Value) m.values) (map bare (reached_blocks c m ++ m.dying)) k
      (Contains-append_left (tag_claims wide m.known ++ map (role_claim m.latch) (roles m)) (map (λ d. shaped None d Value) m.values) k
      (Contains-append_left (tag_claims wide m.known) (map (role_claim m.latch) (roles m)) k (go m.known e)))
    where
      go : (ks : List Stored) → known_at (Tag b) ks ≡ Some x → Contains (tag_claims wide ks) (record { block = b; refs = tag_refs wide x; plain = tag_plain wide x; author = Some (tag_author wide x) })
      go [] e = absurd (cc)
      go (s ∷ ks) e =
          let k : Claim = record { block = b; refs = tag_refs wide x; plain = tag_plain wide x; author = Some (tag_author wide x) } in
          elim (cases_Bool (is_at (Tag b) s)) [
            | inl y ↦ (let z : Some s.value ≡ Some x = sym (cond-true (is_at (Tag b) s) (Some s.value) (known_at (Tag b) ks) y) ∙ e in
                let same : s.value ≡ x = cc in
                Contains-append_left (tag_claim wide s.spot s.value) (tag_claims wide ks) k
                (subst (λ p. Contains (tag_claim wide p s.value) k) (same_spot_is (Tag b) s.spot y)
                (subst (λ n. Contains (tag_claim wide (Tag b) n) k) (sym same) (0, omega arith, refl))))
            | inr n ↦ Contains-append_right (tag_claim wide s.spot s.value) (tag_claims wide ks) k (go ks (sym (cond-false (is_at (Tag b) s) (Some s.value) (known_at (Tag b) ks) n) ∙ e))
          ]

  -- a block that was read in some role
  pub role_told : (wide : Bool) (b : ℕ) (role : Role) → role_in (roles m) b ≡ role → role ≢ Other → Contains (claims wide c m) (shaped m.latch b role)
  role_told wide b role e n =
      let k : Claim = shaped m.latch b role in
      Contains-append_left ((tag_claims wide m.known ++ map (role_claim m.latch) (roles m)) ++ map (λ d. shaped None d Value) m.values) (map bare (reached_blocks c m ++ m.dying)) k
      (Contains-append_left (tag_claims wide m.known ++ map (role_claim m.latch) (roles m)) (map (λ d. shaped None d Value) m.values) k
      (Contains-append_right (tag_claims wide m.known) (map (role_claim m.latch) (roles m)) k
      (contains_map (role_claim m.latch) (roles m) (record { block = b; role = role }) (go (roles m) e))))
    where
      go : (ps : List Played) → role_in ps b ≡ role → Contains ps (record { block = b; role = role })
      go [] e = absurd (n (sym e))
      go (p ∷ ps) e =
          elim (cases_Bool (eqb p.block b)) [
            | inl y ↦ (let z : p.role ≡ role = sym (cond-true (eqb p.block b) p.role (role_in ps b) y) ∙ e in
                (0, omega arith, λ i. record { block = eqb-true p.block b y i; role = z i }))
            | inr o ↦ Contains-append_right (p ∷ []) ps (record { block = b; role = role }) (go ps (sym (cond-false (eqb p.block b) p.role (role_in ps b) o) ∙ e))
          ]

  -- a value block
  pub value_told : (wide : Bool) (b : ℕ) → Contains m.values b → Contains (claims wide c m) (shaped None b Value)
  value_told wide b h =
      Contains-append_left ((tag_claims wide m.known ++ map (role_claim m.latch) (roles m)) ++ map (λ d. shaped None d Value) m.values) (map bare (reached_blocks c m ++ m.dying)) (shaped None b Value)
      (Contains-append_right (tag_claims wide m.known ++ map (role_claim m.latch) (roles m)) (map (λ d. shaped None d Value) m.values) (shaped None b Value)
      (contains_map (λ d. shaped None d Value) m.values b h))

  -- a block in reach or a zero-count block
  block_told : (wide : Bool) (b : ℕ) → Contains (reached_blocks c m ++ m.dying) b → IsTold wide c m b
  block_told wide b h = (
    bare b,
    Contains-append_right ((tag_claims wide m.known ++ map (role_claim m.latch) (roles m)) ++ map (λ d. shaped None d Value) m.values) (map bare (reached_blocks c m ++ m.dying)) (bare b)
        (contains_map bare (reached_blocks c m ++ m.dying) b h),
    refl,
  )

  -- a block in reach, and a zero-count block
  pub reached_told : (wide : Bool) (b : ℕ) → is_reached c m b ≡ true → IsTold wide c m b
  reached_told wide b e = block_told wide b (Contains-append_left (reached_blocks c m) m.dying b (Contains-from_any eqb-true b (reached_blocks c m) e))

  pub dying_told : (wide : Bool) (b : ℕ) → is_dying m b ≡ true → IsTold wide c m b
  dying_told wide b e = block_told wide b (Contains-append_right (reached_blocks c m) m.dying b (dying_listed m b e))

  -- the word of a value block
  pub value_covered : (wide : Bool) (b : ℕ) → Contains m.values b → IsCovered wide c m (b + 2)
  value_covered wide b h = (shaped None b Value, value_told wide b h, covers_word (shaped None b Value) (b + 2) (omega arith) (omega arith))

  -- the words of a block whose tag is known
  pub tag_covered : (wide : Bool) (b i x : ℕ) → known_at (Tag b) m.known ≡ Some x → i < tag_refs wide x + tag_plain wide x → IsCovered wide c m (b + 2 + i)
  tag_covered wide b i x e l =
      let k : Claim = record { block = b; refs = tag_refs wide x; plain = tag_plain wide x; author = Some (tag_author wide x) } in
      (k, tag_told wide b x e, covers_word k (b + 2 + i) (omega arith) (omega arith))

  -- ---- looks

  -- a step that has not committed stores no word yet
  pub uncommitted_settled : (p : Spot) → IsUncommitted m.op → IsSettled m p
  uncommitted_settled p u x = ap (λ o. cover o p x) (uncommitted_quiet m.op u).0

  -- a settled word may be read
  pub settled_look : (wide : Bool) (b i : ℕ) → IsSettled m (Body b i) → MayLook wide c m b i
  settled_look wide b i s = by (claim_of wide c m (b + 2 + i))
    where
      by : (o : Option Claim) → MayLookBy o m.latch (IsSettled m (Body b i))
      by None = tt
      by (Some k) = λ _. s
