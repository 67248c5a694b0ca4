-- words of the own partition that a memo tells by what it read of the table
use Rattle.std.proofs.Common.{◌≡◌, ◌≢◌, ℕ, ◌<◌, refl, sym, ap, ◌∙◌, subst, true, false, eqb, eq-eqb, ◌==◌, if◌then◌else◌, inl, inr, List, [], ◌∷◌, ◌++◌, Some, Bool}
use Rattle.std.proofs.lemmas.{Bool.{cases_Bool, eqb-true, cond-true, cond-false}, List.Elements.{All-head, All-tail}}
use Rattle.std.specs.List.{Contains, All}
use Rattle.shm_words.specs.declared.geometry.Geometry.{Geometry}
use Rattle.shm_graph.specs.declared.{spot.Spot.{Spot, TheVariants.{Home, Body}}, memo.{Memo.Memo, Look.Look}}
use Rattle.shm_graph.specs.{Held.{HeldAt, is_loose}, Reach.is_reached, Tables.{Contents, contents_of, HasShape}}
use Rattle.shm_graph.specs.Telling.{Role, Directory, Entry, Value, Other, Played, role_in, role_from, roles_from, roles, shaped}
use Rattle.shm_graph.specs.Views.{view, targets}
use Rattle.shm_graph.proofs.States.Claims.{played_here, part_here, directory_shape}
use Rattle.shm_graph.proofs.States.Roles.{Plays, IsPlayed, chain_shape, role_plays}
use Rattle.kind_parts.specs.{Beginning.IsOwnWord, Reparting.{sight, IsTagged}}
use Rattle.kind_parts.proofs.{BeginWords.{claim_by, listed_told}, Covering.role_told}

-- ---- words that may be stored

-- a word of the directory, which was read under the own latch
pub directory_word : (wide : Bool) (c : ℕ) (m : Memo) (d i x : ℕ) → m.latch ≡ Some c → role_in (roles m) d ≡ Directory → is_reached c m d ≡ true → i < 16 → Contains m.known (record { spot = Body d i; value = x }) → IsOwnWord wide c m d i x
directory_word wide c m d i x latch role reach low known = record { told = (shaped m.latch d Directory, role_told c m wide d Directory role (λ z. cc), refl, low, inr (latch, latch, reach)); word = known }

-- a reference word of an entry, which was read under the own latch
pub entry_word : (wide : Bool) (c : ℕ) (m : Memo) (d i x : ℕ) → m.latch ≡ Some c → role_in (roles m) d ≡ Entry → is_reached c m d ≡ true → i < 2 → Contains m.known (record { spot = Body d i; value = x }) → IsOwnWord wide c m d i x
entry_word wide c m d i x latch role reach low known = record { told = (shaped m.latch d Entry, role_told c m wide d Entry role (λ z. cc), refl, low, inr (latch, latch, reach)); word = known }

-- a reference word of an own block whose tag is known, under the own latch
pub tagged_word : (wide : Bool) (c : ℕ) (m : Memo) (b refs plain i x : ℕ) → m.latch ≡ Some c → IsTagged wide c (sight c m) b refs plain → is_reached c m b ≡ true → i < refs → Contains m.known (record { spot = Body b i; value = x }) → IsOwnWord wide c m b i x
tagged_word wide c m b refs plain i x latch a reach low known =
    record { told = (claim_by wide b a.tag, listed_told wide c m b a.tag a.known, refl, subst (λ n. i < n) (sym a.refs_are) low, inr (latch, ap Some a.author, reach)); word = known }

-- ---- roles

-- one more look is one more role
pub one_more_role : (ps : List Played) (ks : List Look) (k : Look) → roles_from ps (ks ++ k ∷ []) ≡ record { block = k.block; role = role_from (roles_from ps ks) k.from } ∷ roles_from ps ks
one_more_role ps [] k = refl
one_more_role ps (j ∷ ks) k = one_more_role (record { block = j.block; role = role_from ps j.from } ∷ ps) ks k

-- the role of the block of the last look, and of another one
pub role_new : (p : Played) (ps : List Played) → role_in (p ∷ ps) p.block ≡ p.role
role_new p ps = cond-true (eqb p.block p.block) p.role (role_in ps p.block) (eq-eqb p.block p.block refl)

-- the role of a block with so many reference words
abbrev role_by : ℕ → Role
role_by n = if n == 16 then Directory else if n == 2 then Entry else Value

module _ (x : Contents) (a home : ℕ) where
  -- a block in one of these roles has so many reference words
  role_refs : (role : Role) (b : ℕ) → role ≢ Other → (home ≡ b → b ≢ 0 → HasShape x 16 0 b) → b ≢ 0 → Plays x a home role b → (n : ℕ) × (k : ℕ) × HasShape x n k b × (role ≡ role_by n)
  role_refs Directory b n dir some p = (16, 0, dir p some, refl)
  role_refs Entry b n dir some p = (2, 1, (chain_shape x a b some p).0, refl)
  role_refs Value b n dir some p = (0, 1, p, refl)
  role_refs Other b n dir some p = absurd (n refl)

module _ (g : Geometry) (w : Spot → ℕ) (r : ℕ → Memo) (h : HeldAt g w (view r)) (c a : ℕ) (l : c < g.clients) (latch : (r c).latch ≡ Some a) (table : is_loose (r c).part ≡ false) where
  -- a block that plays a role still plays it once one more block was read in a role
  pub role_stays : (p : Played) (ps : List Played) (d : ℕ) (role : Role) → roles_from [] (r c).looks ≡ p ∷ ps → p.role ≢ Other → role ≢ Other → d ≢ 0 → role_in ps d ≡ role → role_in (p ∷ ps) d ≡ role
  role_stays p ps d role all other mine some is =
      elim (cases_Bool (eqb p.block d)) [
        | inr n ↦ cond-false (eqb p.block d) p.role (role_in ps d) n ∙ is
        | inl y ↦ (let z : Contents = contents_of g.wide w (targets g w (view r)) in
            let home : ℕ = targets g w (view r) (Home a) in
            let q = part_here g w r h c l a latch table in
            let dir : home ≡ d → d ≢ 0 → HasShape z 16 0 d = λ e n. (directory_shape g w r h c l a d q.0 q.1 e n).0 in
            let play : All (IsPlayed z a home) (p ∷ ps) = subst (All (IsPlayed z a home)) all (played_here g w r h c l a latch table) in
            let new = role_refs z a home p.role d other dir some (subst (Plays z a home p.role) (eqb-true p.block d y) (All-head (IsPlayed z a home) p ps play)) in
            let old = role_refs z a home role d mine dir some (subst (λ u. Plays z a home u d) is (role_plays z a home ps d (All-tail (IsPlayed z a home) p ps play))) in
            let same : new.0 ≡ old.0 = sym new.2.names ∙ old.2.names in
            cond-true (eqb p.block d) p.role (role_in ps d) y ∙ (new.3 ∙ (ap role_by same ∙ sym old.3)))
      ]
