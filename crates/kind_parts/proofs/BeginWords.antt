-- what a memo shows of a step that a redo word begins at a reference word of a block
use Rattle.std.proofs.Common.{◌≡◌, ℕ, ◌+◌, ◌-◌, ◌/◌, ◌%◌, ◌<◌, refl, sym, ap, ◌∙◌, subst, arith, inl, inr, List, [], ◌∷◌, ◌++◌, map, Option, None, Some, Bool}
use Rattle.std.proofs.lemmas.List.Elements.{All-nil, All-cons, All-contains, Contains-append_cases, Contains-append_left, Contains-append_right}
use Rattle.std.specs.List.{Contains}
use Rattle.shm_words.specs.{declared.geometry.Geometry.Geometry, Classes.IsClass, Layout.bodies}
use Rattle.shm_words.specs.Tags.{tag_refs, tag_plain, tag_author}
use Rattle.shm_words.specs.declared.redo.Redo.TheVariants as redos
use Rattle.shm_words.proofs.Classing.{class_room}
use Rattle.shm_graph.specs.declared.{memo.{Memo.Memo, Stored.Stored}, spot.Spot.{Spot, TheVariants.{Era, Tag, Body}}}
use Rattle.shm_graph.specs.{Spots.{spot_address, class_at, IsAt}, Blocks.{classes, headers, IsBlock, IsLive}}
use Rattle.shm_graph.specs.Reach.{reached_blocks}
use Rattle.shm_graph.specs.Telling.{Claim, bare, tag_claim, tag_claims, Value, roles, shaped, role_claim, claims}
use Rattle.shm_graph.specs.{Views.{view, own_word}, Held.{HeldAt, odd}}
use Rattle.shm_graph.proofs.States.{Holders.{Holds, held_live_block}, Claims.{ClaimSound, claims_sound}}
use Rattle.shm_graph.proofs.{States.Reached.reached_here, Memos.{KnownChange.KnownHolds, LoadTold.told_load}}
use Rattle.shm_graph.proofs.Spots.Spotting.{block_within, body_is_at}
use Rattle.kind_parts.specs.{OwnWords.RedoMayBegin, LoadNeeds.IsCovered}
use Rattle.kind_parts.specs.Beginning.{IsOwnWord, MayStoreIn, MayFill, MayClear, MayReplace}
use Rattle.kind_parts.proofs.{BeginAt.{SlotHas, up_at, down_at, change_at}, Covering.covers_word}

-- what a tag claims of its block
abbrev pub claim_by : Bool → ℕ → ℕ → Claim
claim_by wide b t = record { block = b; refs = tag_refs wide t; plain = tag_plain wide t; author = Some (tag_author wide t) }

-- a tag that is listed claims that
listed_claims : (wide : Bool) (b t : ℕ) (ks : List Stored) → Contains ks (record { spot = Tag b; value = t }) → Contains (tag_claims wide ks) (claim_by wide b t)
listed_claims wide b t [] h = let l = h.1 in absurd (omega arith)
listed_claims wide b t (s ∷ ks) h =
    elim (Contains-append_cases (s ∷ []) ks (record { spot = Tag b; value = t }) h) [
      | inl z ↦ Contains-append_left (tag_claim wide s.spot s.value) (tag_claims wide ks) (claim_by wide b t)
          (subst (λ (k : Stored). Contains (tag_claim wide k.spot k.value) (claim_by wide b t)) (sym (only s (record { spot = Tag b; value = t }) z)) (0, omega arith, refl))
      | inr z ↦ Contains-append_right (tag_claim wide s.spot s.value) (tag_claims wide ks) (claim_by wide b t) (listed_claims wide b t ks z)
    ]
  where
    only : (x y : Stored) → Contains (x ∷ []) y → x ≡ y
    only x y h = All-contains (λ z. x ≡ z) (x ∷ []) y (All-cons (λ z. x ≡ z) x [] refl (All-nil (λ z. x ≡ z))) h

-- the memo tells of a block whose tag is listed
pub listed_told : (wide : Bool) (c : ℕ) (m : Memo) (b t : ℕ) → Contains m.known (record { spot = Tag b; value = t }) → Contains (claims wide c m) (claim_by wide b t)
listed_told wide c m b t h =
    Contains-append_left ((tag_claims wide m.known ++ map (role_claim m.latch) (roles m)) ++ map (λ d. shaped None d Value) m.values) (map bare (reached_blocks c m ++ m.dying)) (claim_by wide b t)
    (Contains-append_left (tag_claims wide m.known ++ map (role_claim m.latch) (roles m)) (map (λ d. shaped None d Value) m.values) (claim_by wide b t)
    (Contains-append_left (tag_claims wide m.known) (map (role_claim m.latch) (roles m)) (claim_by wide b t) (listed_claims wide b t m.known h)))

-- so that it covers the reference words
pub listed_covered : (wide : Bool) (c : ℕ) (m : Memo) (b i t : ℕ) → Contains m.known (record { spot = Tag b; value = t }) → i < tag_refs wide t → IsCovered wide c m (b + 2 + i)
listed_covered wide c m b i t h l = (claim_by wide b t, listed_told wide c m b t h, covers_word (claim_by wide b t) (b + 2 + i) (omega arith) (omega arith))

-- the address of a word of a block
pub word_address : (g : Geometry) (b i : ℕ) → spot_address g (Body b i) ≡ b + 2 + i
unfolding spot_address
word_address g b i = refl

module _ (g : Geometry) (w : Spot → ℕ) (r : ℕ → Memo) (c : ℕ) (h : HeldAt g w (view r)) (l : c < g.clients) where
  -- the memo
  abbrev m : Memo
  m = r c

  -- what is known is so
  pub known_here : (p : Spot) (x : ℕ) → Contains m.known (record { spot = p; value = x }) → KnownHolds g w (view r) c (record { spot = p; value = x })
  known_here p x k = All-contains (KnownHolds g w (view r) c) m.known (record { spot = p; value = x }) (h.known c l) k

  -- c may store the reference words of such a block
  own_holds : (d i : ℕ) (author : Option ℕ) → IsLive (headers w) d → i < tag_refs g.wide (w (Tag d)) → ((a : ℕ) → author ≡ Some a → tag_author g.wide (w (Tag d)) ≡ a) → MayStoreIn c m d author → Holds w g (view r) c (Body d i)
  own_holds d i author live low is (inl z) = let q = (h.dying c l).listed d z in (q.0, low, inl (q.1, q.2))
  own_holds d i author live low is (inr z) = (live, low, inr (is c z.1, z.0, reached_here g w r h c l d z.2))

  -- the pool has the reference words of a live block
  word_is_at : (d i : ℕ) → IsLive (headers w) d → i < tag_refs g.wide (w (Tag d)) → IsAt g (classes w) (Body d i)
  word_is_at d i live s =
      let is : IsBlock g (classes w) d = held_live_block g w (view r) h d live in
      let class : IsClass (class_at g (classes w) d) = h.sizes.classes ((d - bodies g) / 2048) ((d - bodies g) / 128 % 16) (block_within g (classes w) d is).2 in
      let t = h.blocks.tagged d live in
      let room = class_room (tag_refs g.wide (w (Tag d))) (tag_plain g.wide (w (Tag d))) t.refs t.plain in
      let size = t.fits in
      body_is_at g (classes w) d i is class (omega arith)

  -- a known reference word that c may store
  pub own_word_has : (d i x : ℕ) → IsOwnWord g.wide c m d i x → SlotHas g w r c (Body d i) x
  own_word_has d i x a =
      let k : Claim = a.told.0 in
      let low : i < k.refs = a.told.3 in
      let sound : ClaimSound g w (view r) c k = All-contains (ClaimSound g w (view r) c) (claims g.wide c m) k (claims_sound g w r h c l) a.told.1 in
      let of : k.block ≡ d = a.told.2 in
      let refs : tag_refs g.wide (w (Tag d)) ≡ k.refs = ap (λ b. tag_refs g.wide (w (Tag b))) (sym of) ∙ (sound.shape (λ z. absurd (omega arith))).0 in
      let live : IsLive (headers w) d = subst (IsLive (headers w)) of sound.live in
      let holds : Holds w g (view r) c (Body d i) = own_holds d i k.author live (subst (λ n. i < n) (sym refs) low) (λ b e. ap (λ y. tag_author g.wide (w (Tag y))) (sym of) ∙ sound.author b e) a.told.4 in
      let at : IsAt g (classes w) (Body d i) = word_is_at d i live holds.1 in
      record {
        told = told_load g w r h c l (spot_address g (Body d i)) (Body d i) at refl
            (inr (subst (IsCovered g.wide c m) (sym (word_address g d i)) (k, a.told.1, covers_word k (d + 2 + i) (omega arith) (omega arith))));
        at = at;
        holds = holds;
        word = (known_here (Body d i) x a.word).0;
      }

  -- a block in reach is to be put into it
  pub up_begins_word : (d i b : ℕ) → MayFill g.wide c m d i b
      → RedoMayBegin g w r c (redos.Up (spot_address g (Body d i)) b)
  up_begins_word d i b x = up_at g w r c h l (Body d i) b x.may (own_word_has d i 0 x.word) refl x.source

  -- its block is to go
  pub down_begins_word : (d i b : ℕ) → MayClear g.wide c m d i b
      → RedoMayBegin g w r c (redos.Down (spot_address g (Body d i)) b)
  down_begins_word d i b x = down_at g w r c h l (Body d i) b x.may (own_word_has d i b x.word) x.some refl

  -- it is to have another block
  pub change_begins_word : (d i a b : ℕ) → MayReplace g.wide c m d i a b
      → RedoMayBegin g w r c (redos.Change (odd (own_word m.own (Era c c))) (spot_address g (Body d i)) a b)
  change_begins_word d i a b x = change_at g w r c h l (Body d i) a b x.may (own_word_has d i a x.word) x.some refl refl x.other x.source
