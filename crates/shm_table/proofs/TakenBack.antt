-- what the events of a command that was taken back leave of roots, homes and other spots
use Rattle.std.proofs.Common.{◌≡◌, ◌≢◌, ℕ, zero, suc, refl, sym, ap, ◌∙◌, Bool, true, false, List, [], ◌∷◌, ◌++◌, inl, inr, ◌⊎◌, eqb}
use Rattle.std.proofs.lemmas.Bool.{cond-false, cond-true, false≢true, not-true}
use Rattle.std.specs.Prelude.{if◌then◌else◌, ◌&&◌}
use Rattle.shm_graph.specs.{declared.spot.Spot.{Spot, TheVariants.{Body, Home, Root}}, Events.Event, Spots.same_spot}
use Rattle.shm_graph.specs.Events as event
use Rattle.shm_graph.proofs.Spots.Spotting.{same_spot_self}
use Rattle.shm_count.specs.Tear.Events.{Walk, events_of, Walk.{Freed, Kept, Fell}}
use Rattle.shm_ref.specs.Lefts.{RootEvents}
use Rattle.shm_script.specs.declared.line.Line.{Line}
use Rattle.shm_script.specs.declared.line.Line.TheVariants as line
use Rattle.shm_table.specs.{Enter.IsHalfMade, OpenTable.IsOpening, PutRoot.{IsUnlinking, IsUnlisted}}
use Rattle.shm_table.specs.{Refusals.{is_apart, named_after, taken_by}, Undoing.IsTakenBack}

-- events one after the other
after_append : (p : Spot) (es ds : List Event) (x : ℕ) → named_after p (es ++ ds) x ≡ named_after p ds (named_after p es x)
after_append p [] ds x = refl
after_append p (event.Alloc c k b ∷ es) ds x = after_append p es ds (if same_spot (Root c k) p then b else x)
after_append p (event.Up c q b ∷ es) ds x = after_append p es ds (if same_spot q p then b else x)
after_append p (event.Down c q b ∷ es) ds x = after_append p es ds (if same_spot q p then 0 else x)
after_append p (event.ChangeUp c q a b ∷ es) ds x = after_append p es ds (if same_spot q p then b else x)
after_append p (_ ∷ es) ds x = after_append p es ds x

-- what was set and then emptied is empty
emptied : (s : Bool) (b : ℕ) (f : ℕ → ℕ) → f 0 ≡ 0 → (if s then 0 else f (if s then b else 0)) ≡ 0
emptied true b f h = refl
emptied false b f h = h

module _ (c : ℕ) (p : Spot) (flat : (b i : ℕ) → same_spot (Body b i) p ≡ false) where
  word : (b i x y : ℕ) → (if same_spot (Body b i) p then x else y) ≡ y
  word b i x y = cond-false _ _ _ (flat b i)

  walk : (b : ℕ) (w : Walk) (x : ℕ) → named_after p (events_of c b w) x ≡ x
  walk b Freed x = refl
  walk b (Kept i t rest) x = ap (named_after p (events_of c b rest)) (word b i 0 x) ∙ walk b rest x
  walk b (Fell i t inner rest) x =
      ap (named_after p (events_of c t inner ++ events_of c b rest)) (word b i 0 x) ∙ (after_append p (events_of c t inner) (events_of c b rest) x ∙ (ap (named_after p (events_of c b rest)) (walk t inner x) ∙ walk b rest x))

  -- a root is dropped
  dropped : (k b : ℕ) (gs : List Event) (x : ℕ) → b ≢ 0 → RootEvents c k b gs → named_after p gs x ≡ (if same_spot (Root c k) p then 0 else x)
  dropped k zero gs x some h = absurd (some refl)
  dropped k (suc b) gs x some (ds, told, torn) =
      let y : ℕ = if same_spot (Root c k) p then 0 else x in
      ap (λ (u : List Event). named_after p u x) told ∙ elim torn [ inl none ↦ ap (λ (u : List Event). named_after p u y) none | inr (w, order, is) ↦ ap (λ (u : List Event). named_after p u y) is ∙ walk (suc b) w y ]

  -- an entry is made
  half : (k e v first : ℕ) (hs : List Event) (x : ℕ) → IsHalfMade c k e v first hs → named_after p hs x ≡ (if same_spot (Root c k) p then e else x)
  half k e v first hs x (inl told) = ap (λ (u : List Event). named_after p u x) told
  half k e v first hs x (inr (inl told)) = ap (λ (u : List Event). named_after p u x) told ∙ word e 1 v (if same_spot (Root c k) p then e else x)
  half k e v first hs x (inr (inr (some, told))) =
      let y : ℕ = if same_spot (Root c k) p then e else x in
      ap (λ (u : List Event). named_after p u x) told ∙ (ap (λ z. if same_spot (Body e 0) p then first else z) (word e 1 v y) ∙ word e 0 first y)

  -- and given up
  unlinking : (v : ℕ) (es : List Event) (x : ℕ) → (h : IsUnlinking c v es) → named_after p es x ≡ (if same_spot (Root c h.0) p then 0 else (if same_spot (Root c h.0) p then h.1 else x))
  unlinking v es x (k, e, first, hs, ds, told, some, made, drop) =
      ap (λ (u : List Event). named_after p u x) told
      ∙ (after_append p hs ds x ∙ (dropped k e ds (named_after p hs x) some drop ∙ ap (λ z. if same_spot (Root c k) p then 0 else z) (half k e v first hs x made)))

  -- a directory is made
  opening : (k after : ℕ) (ds os : List Event) (x : ℕ) → after ≢ 0 → os ≡ event.Alloc c k after ∷ event.Up c (Home c) after ∷ ds → RootEvents c k after ds
      → named_after p os x ≡ (if same_spot (Root c k) p then 0 else (if same_spot (Home c) p then after else (if same_spot (Root c k) p then after else x)))
  opening k after ds os x some told drop = ap (λ (u : List Event). named_after p u x) told ∙ dropped k after ds _ some drop

  -- a block is brought into a root, and taken back
  brought : (l : Line) (k b : ℕ) (es ps gs : List Event) (x : ℕ) → es ≡ taken_by c l k b ∷ (ps ++ gs) → b ≢ 0 → RootEvents c k b gs → named_after p es x ≡ (if same_spot (Root c k) p then 0 else named_after p ps (if same_spot (Root c k) p then b else x))
  brought l k b es ps gs x told some drop =
      let y : ℕ = if same_spot (Root c k) p then b else x in
      ap (λ (u : List Event). named_after p u x) told ∙ (taken l ∙ (after_append p ps gs y ∙ dropped k b gs (named_after p ps y) some drop))
    where
      taken : (l : Line) → named_after p (taken_by c l k b ∷ (ps ++ gs)) x ≡ named_after p (ps ++ gs) (if same_spot (Root c k) p then b else x)
      taken (line.Put key n) = refl
      taken _ = refl

module _ (c : ℕ) (l : Line) (before after : ℕ) (es : List Event) (h : IsTakenBack c (taken_by c l) before after es) where
  -- a root that was empty is empty
  pub root_back : (j : ℕ) → named_after (Root c j) es 0 ≡ 0
  root_back j =
      let p = Root c j in
      elim h [
        | inl (none, same) ↦ ap (λ (u : List Event). named_after p u 0) none
        | inr (k, b, ps, gs, told, some, unlisted, drop) ↦ brought c p (λ b i. refl) l k b es ps gs 0 told some drop ∙ emptied (same_spot (Root c k) p) b (named_after p ps) (listed b ps unlisted)
      ]
    where
      listed : (b : ℕ) (ps : List Event) → IsUnlisted c b before after ps → named_after (Root c j) ps 0 ≡ 0
      listed b ps (os, hs, split, home, entry) = ap (λ (u : List Event). named_after (Root c j) u 0) split ∙ (after_append (Root c j) os hs 0 ∙ (ap (named_after (Root c j) hs) (opened os home) ∙ entered b hs entry))
        where
          opened : (os : List Event) → IsOpening c before after os → named_after (Root c j) os 0 ≡ 0
          opened os (inl (same, none)) = ap (λ (u : List Event). named_after (Root c j) u 0) none
          opened os (inr (empty, some, (k, ds, told, drop))) = opening c (Root c j) (λ b i. refl) k after ds os 0 some told drop ∙ emptied (same_spot (Root c k) (Root c j)) after (λ z. z) refl

          entered : (b : ℕ) (hs : List Event) → (hs ≡ []) ⊎ IsUnlinking c b hs → named_after (Root c j) hs 0 ≡ 0
          entered b hs (inl none) = ap (λ (u : List Event). named_after (Root c j) u 0) none
          entered b hs (inr u) = unlinking c (Root c j) (λ b i. refl) b hs 0 u ∙ emptied (same_spot (Root c u.0) (Root c j)) u.1 (λ z. z) refl

  -- the home names what is said
  pub home_back : named_after (Home c) es before ≡ after
  home_back =
      elim h [
        | inl (none, same) ↦ ap (λ (u : List Event). named_after (Home c) u before) none ∙ sym same
        | inr (k, b, ps, gs, told, some, unlisted, drop) ↦ brought c (Home c) (λ b i. refl) l k b es ps gs before told some drop ∙ listed b ps unlisted
      ]
    where
      listed : (b : ℕ) (ps : List Event) → IsUnlisted c b before after ps → named_after (Home c) ps before ≡ after
      listed b ps (os, hs, split, home, entry) = ap (λ (u : List Event). named_after (Home c) u before) split ∙ (after_append (Home c) os hs before ∙ (ap (named_after (Home c) hs) (opened os home) ∙ entered b hs entry))
        where
          opened : (os : List Event) → IsOpening c before after os → named_after (Home c) os before ≡ after
          opened os (inl (same, none)) = ap (λ (u : List Event). named_after (Home c) u before) none ∙ sym same
          opened os (inr (empty, some, (k, ds, told, drop))) = opening c (Home c) (λ b i. refl) k after ds os before some told drop ∙ cond-true _ _ _ (same_spot_self (Home c))

          entered : (b : ℕ) (hs : List Event) → (hs ≡ []) ⊎ IsUnlinking c b hs → named_after (Home c) hs after ≡ after
          entered b hs (inl none) = ap (λ (u : List Event). named_after (Home c) u after) none
          entered b hs (inr u) = unlinking c (Home c) (λ b i. refl) b hs after u

  -- no other spot but words of blocks changes
  pub else_back : (p : Spot) (x : ℕ) → is_apart c p ≡ true → named_after p es x ≡ x
  else_back p x apart =
      elim h [
        | inl (none, same) ↦ ap (λ (u : List Event). named_after p u x) none
        | inr (k, b, ps, gs, told, some, unlisted, drop) ↦ brought c p flat l k b es ps gs x told some drop ∙ (cond-false _ _ _ (root k) ∙ (ap (named_after p ps) (cond-false _ _ _ (root k)) ∙ listed b ps unlisted))
      ]
    where
      no_word : (p : Spot) → is_apart c p ≡ true → (b i : ℕ) → same_spot (Body b i) p ≡ false
      no_word (Body d j) e b i = absurd (false≢true e)
      no_word _ e b i = refl

      no_root : (p : Spot) → is_apart c p ≡ true → (k : ℕ) → same_spot (Root c k) p ≡ false
      no_root (Root d j) e k = ap (λ z. z && eqb k j) (not-true (eqb c d) e)
      no_root _ e k = refl

      no_home : (p : Spot) → is_apart c p ≡ true → same_spot (Home c) p ≡ false
      no_home (Home d) e = not-true (eqb c d) e
      no_home _ e = refl

      flat : (b i : ℕ) → same_spot (Body b i) p ≡ false
      flat = no_word p apart

      root : (k : ℕ) → same_spot (Root c k) p ≡ false
      root = no_root p apart

      listed : (b : ℕ) (ps : List Event) → IsUnlisted c b before after ps → named_after p ps x ≡ x
      listed b ps (os, hs, split, home, entry) = ap (λ (u : List Event). named_after p u x) split ∙ (after_append p os hs x ∙ (ap (named_after p hs) (opened os home) ∙ entered b hs entry))
        where
          opened : (os : List Event) → IsOpening c before after os → named_after p os x ≡ x
          opened os (inl (same, none)) = ap (λ (u : List Event). named_after p u x) none
          opened os (inr (empty, some, (k, ds, told, drop))) = opening c p flat k after ds os x some told drop ∙ (cond-false _ _ _ (root k) ∙ (cond-false _ _ _ (no_home p apart) ∙ cond-false _ _ _ (root k)))

          entered : (b : ℕ) (hs : List Event) → (hs ≡ []) ⊎ IsUnlinking c b hs → named_after p hs x ≡ x
          entered b hs (inl none) = ap (λ (u : List Event). named_after p u x) none
          entered b hs (inr u) = unlinking c p flat b hs x u ∙ (cond-false _ _ _ (root u.0) ∙ cond-false _ _ _ (root u.0))
