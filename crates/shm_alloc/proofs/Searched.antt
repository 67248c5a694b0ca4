-- an allocation that is refused as full has seen no free block in any segment, whatever its hint
use Rattle.std.proofs.Common.{◌≡◌, ◌≢◌, ℕ, zero, suc, ◌+◌, ◌-◌, ◌*◌, ◌/◌, ◌^◌, ◌<◌, ◌≤◌, refl, subst, arith, inl, inr, Bool, true, false, [], ◌∷◌}
use Rattle.std.proofs.lemmas.{Bool.{cases_eq, eqb-false, eqb-true}, List.Elements.Contains-append_right}
use Rattle.std.specs.{Prelude.{◌==◌, nat_lt, Result, Err}, List.Contains}
use Rattle.shm_words.specs.Layout.{address}
use Rattle.shm_words.specs.declared.place.Place.TheVariants as place
use Rattle.shm_graph.specs.declared.{ask.{Ask.{Ask, TheVariants.{Load, Store, Exchange}}, Me.Me}, memo.Seen.Seen}
use Rattle.shm_graph.specs.{Asks.{Trail, pair}, Trails.{Answers, Asked, Chosen}}
use Rattle.kind_laws.proofs.Lists.{newest}
use Rattle.shm_count.specs.declared.answer.Made.{Made}
use Rattle.shm_alloc.specs.declared.alloc.AllocFault.{AllocFault, TheVariants.{EraSpent, RootsFull, Full}}
use Rattle.shm_alloc.specs.declared.request.Request.{Request}
use Rattle.shm_alloc.specs.Alloc.Asks.{AllocTrails, alloc_trail, root_trail, segment_trail, page_trail, header_trail, headers_trail, class_trail, block_trail}
use Rattle.shm_alloc.specs.Alloc.Control.{class_asked, segment_at, page_at, index_at}
use Rattle.shm_alloc.specs.Alloc.Seen.{Finds, IsSeenTaken, IsSeenOwn, IsSeenClassed, AreSeenUsed, IsSeenFull, HasNoneFree}
use Rattle.shm_alloc.specs.Proved.Turning.{turned_all}
use Rattle.shm_alloc.proofs.AllocCounting.{Never, block_never}

-- the pairs of one trail are in another
abbrev IsPartOf : Trail → Trail → Type 0
IsPartOf tr whole = (x : Seen) → Contains tr x → Contains whole x

-- what holds of one number, and of those behind it
from_here : (P : ℕ → Type 0) (i n : ℕ) → P i → ((j : ℕ) → i + 1 ≤ j → j < i + 1 + n → P j) → (j : ℕ) → i ≤ j → j < i + suc n → P j
from_here P i n here more j l m =
    elim (cases_eq i j) [
      | inl e ↦ subst P e here
      | inr d ↦ more j (omega (arith, l, d)) (omega (arith, m))
    ]

-- a number isn't two
two_numbers : (t x : ℕ) → t ≡ 0 + x → t ≡ 1 + x → ⊥
two_numbers t x a b = omega (arith, a, b)

-- a refusal for another reason
abbrev IsElse : Result Made AllocFault → Type 0
IsElse (Err (Full t u)) = ⊥
IsElse _ = Unit {0}

module _ (me : Me) (q : Request) (whole : Trail) where
  -- where a trail of this kind that is refused as full is in the whole one, that holds
  abbrev Shows : AllocTrails → Type 0 → Type 0
  Shows f P = (tr : Trail) (t u : ℕ) → f tr (Err (Full t u)) → IsPartOf tr whole → P

  shows_asked : (k : Ask) (next : ℕ → AllocTrails) (P : Type 0) → ((n : ℕ) → Contains whole (pair k n) → Shows (next n) P) → Shows (Asked k next) P
  shows_asked k next P s tr t u (n, (rest, (told, h))) part =
      let all : IsPartOf (pair k n ∷ rest) whole = subst (λ (x : Trail). IsPartOf x whole) told part in
      s n (all (pair k n) (newest (pair k n) rest)) rest t u h (λ x y. all x (Contains-append_right (pair k n ∷ []) rest x y))

  shows_chosen : (b : Bool) (f g : AllocTrails) (P : Type 0) → (b ≡ true → Shows f P) → (b ≡ false → Shows g P) → Shows (Chosen b f g) P
  shows_chosen true f g P one other = one refl
  shows_chosen false f g P one other = other refl

  -- trails that count no such numbers aren't refused so
  shows_never : (f : AllocTrails) (P : Type 0) → Never me f → Shows f P
  shows_never f P n tr t u h part = absurd (two_numbers t _ (n 0 0 tr (Err (Full t u)) h).0 (n 1 0 tr (Err (Full t u)) h).0)

  shows_else : (a : Result Made AllocFault) (P : Type 0) → IsElse a → Shows (Answers a) P
  shows_else a P e tr t u h part = absurd (subst IsElse h.1 e)

  -- ---- headers

  -- the header that is number i was loaded and isn't 0
  abbrev IsUsed : ℕ → ℕ → Type 0
  IsUsed at i = Finds whole (Load (at + class_asked q * i)) (λ n. n ≢ 0)

  header_shows : (n i at e k u : ℕ) (rest : ℕ → AllocTrails) (P : Type 0) → ((x : ℕ) → Shows (rest x) P)
      → Shows (header_trail me q n i at e k u rest) (((j : ℕ) → i ≤ j → j < i + n → IsUsed at (index_at q j)) × P)
  header_shows zero i at e k u rest P c = λ tr t v h part. (λ j l m. absurd (omega (arith, l, m)), c u tr t v h part)
  header_shows (suc n) i at e k u rest P c =
      let b : ℕ = at + class_asked q * index_at q i in
      let free : AllocTrails = block_trail me q e k b in
      let on : AllocTrails = header_trail me q n (i + 1) at e k (u + 1) rest in
      let Q : Type 0 = ((j : ℕ) → i ≤ j → j < i + suc n → IsUsed at (index_at q j)) × P in
      shows_asked (Load b) (λ x. Chosen (x == 0) free on) Q
      (λ x there. shows_chosen (x == 0) free on Q (λ z. shows_never free Q (block_never me q e k b))
      (λ z tr t v h part.
      let r = header_shows n (i + 1) at e k (u + 1) rest P c tr t v h part in
      (from_here (λ j. IsUsed at (index_at q j)) i n (x, there, eqb-false x 0 z) r.0, r.1)))

  -- all headers of a page
  headers_show : (s p e k u : ℕ) (rest : ℕ → AllocTrails) (P : Type 0) → ((x : ℕ) → Shows (rest x) P) → Shows (headers_trail me q s p e k u rest) (AreSeenUsed me q whole s p × P)
  headers_show s p e k u rest P c tr t v h part =
      let at : ℕ = address me.geometry (place.Body s p 0) in
      let r = header_shows (128 / class_asked q) 0 at e k u rest P c tr t v h part in
      (λ i l. let j = turned_all (128 / class_asked q) q.near.index i l in subst (IsUsed at) j.2 (r.0 j.0 (omega arith) (omega (arith, j.1))), r.1)

  -- ---- pages

  page_shows : (n p s e k u : ℕ) (rest : ℕ → AllocTrails) (P : Type 0) → ((x : ℕ) → Shows (rest x) P)
      → Shows (page_trail me q n p s e k u rest) (((j : ℕ) → p ≤ j → j < p + n → IsSeenFull me q whole s (page_at q j)) × P)
  page_shows zero p s e k u rest P c = λ tr t v h part. (λ j l m. absurd (omega (arith, l, m)), c u tr t v h part)
  page_shows (suc n) p s e k u rest P c =
      let j : ℕ = page_at q p in
      let at : ℕ = address me.geometry (place.Page s j) in
      let after : ℕ → AllocTrails = λ v. page_trail me q n (p + 1) s e k v rest in
      let classed : AllocTrails = class_trail me q s j e k u after in
      let headed : AllocTrails = headers_trail me q s j e k u after in
      let R : Type 0 = ((i : ℕ) → p + 1 ≤ i → i < p + 1 + n → IsSeenFull me q whole s (page_at q i)) × P in
      let Q : Type 0 = ((i : ℕ) → p ≤ i → i < p + suc n → IsSeenFull me q whole s (page_at q i)) × P in
      let next : (v : ℕ) → Shows (after v) R = λ v. page_shows n (p + 1) s e k v rest P c in
      let one : IsSeenFull me q whole s j → R → Q = λ here r. (from_here (λ i. IsSeenFull me q whole s (page_at q i)) p n here r.0, r.1) in
      let full : IsSeenClassed me q whole s j → Shows headed Q = λ of tr t v h part. (let r = headers_show s j e k u after R next tr t v h part in one (inr (of, r.0)) r.1) in
      shows_asked (Load at) (λ x. Chosen (x == 0) classed (Chosen (x == class_asked q) headed (after u))) Q
      (λ x there. shows_chosen (x == 0) classed (Chosen (x == class_asked q) headed (after u)) Q
      (λ z. shows_asked (Store at (class_asked q)) (λ _. headed) Q (λ y given. full (inr (y, given, tt))))
      (λ z. shows_chosen (x == class_asked q) headed (after u) Q (λ y. full (inl (x, there, eqb-true x (class_asked q) y)))
      (λ y tr t v h part. one (inl (x, there, (eqb-false x 0 z, eqb-false x (class_asked q) y))) (next u tr t v h part))))

  -- all pages of a segment
  pages_show : (s e k u : ℕ) (rest : ℕ → AllocTrails) (P : Type 0) → ((x : ℕ) → Shows (rest x) P)
      → Shows (page_trail me q 16 0 s e k u rest) (((p : ℕ) → p < 16 → IsSeenFull me q whole s p) × P)
  pages_show s e k u rest P c tr t v h part =
      let r = page_shows 16 0 s e k u rest P c tr t v h part in
      (λ p l. let j = turned_all 16 q.near.page p l in subst (IsSeenFull me q whole s) j.2 (r.0 j.0 (omega arith) (omega (arith, j.1))), r.1)

  -- ---- segments

  segment_shows : (n s e k t u : ℕ) → Shows (segment_trail me q n s e k t u) ((j : ℕ) → s ≤ j → j < s + n → HasNoneFree me q whole (segment_at me q j))
  segment_shows zero s e k t u = λ tr a b h part j l m. absurd (omega (arith, l, m))
  segment_shows (suc n) s e k t u =
      let j : ℕ = segment_at me q s in
      let at : ℕ = address me.geometry (place.Segment j) in
      let after : ℕ → AllocTrails = λ v. segment_trail me q n (s + 1) e k t v in
      let other : AllocTrails = segment_trail me q n (s + 1) e k (t + 1) u in
      let own : AllocTrails = page_trail me q 16 0 j e k u after in
      let R : Type 0 = (i : ℕ) → s + 1 ≤ i → i < s + 1 + n → HasNoneFree me q whole (segment_at me q i) in
      let Q : Type 0 = (i : ℕ) → s ≤ i → i < s + suc n → HasNoneFree me q whole (segment_at me q i) in
      let one : HasNoneFree me q whole j → R → Q = λ here r. from_here (λ i. HasNoneFree me q whole (segment_at me q i)) s n here r in
      let mine : IsSeenOwn me whole j → Shows own Q = λ is tr a b h part. (let r = pages_show j e k u after R (λ v. segment_shows n (s + 1) e k t v) tr a b h part in one (inr (is, r.0)) r.1) in
      let taken : IsSeenTaken me whole j → Shows other Q = λ is tr a b h part. one (inl is) (segment_shows n (s + 1) e k (t + 1) u tr a b h part) in
      let claim : AllocTrails = Asked (Exchange at 0 (me.who + 1)) (λ y. Chosen (y == 0) own other) in
      shows_asked (Load at) (λ x. Chosen (x == 0) claim (Chosen (x == me.who + 1) own other)) Q
      (λ x there. shows_chosen (x == 0) claim (Chosen (x == me.who + 1) own other) Q
      (λ z. shows_asked (Exchange at 0 (me.who + 1)) (λ y. Chosen (y == 0) own other) Q
      (λ y found. shows_chosen (y == 0) own other Q (λ w. mine (inr (y, found, eqb-true y 0 w))) (λ w. taken (inr (y, found, eqb-false y 0 w)))))
      (λ z. shows_chosen (x == me.who + 1) own other Q (λ y. mine (inl (x, there, eqb-true x (me.who + 1) y))) (λ y. taken (inl (x, there, (eqb-false x 0 z, eqb-false x (me.who + 1) y))))))

  -- ---- the own era and the roots come first

  -- each number of a segment was gone to
  abbrev AllSeen : Type 0
  AllSeen = (j : ℕ) → 0 ≤ j → j < 0 + me.geometry.segments → HasNoneFree me q whole (segment_at me q j)

  root_shows : (n k e : ℕ) → Shows (root_trail me q n k e) AllSeen
  root_shows zero k e = shows_else (Err RootsFull) AllSeen tt
  root_shows (suc n) k e =
      let found : AllocTrails = segment_trail me q me.geometry.segments 0 e k 0 0 in
      let on : AllocTrails = root_trail me q n (k + 1) e in
      shows_asked (Load (address me.geometry (place.Root me.who k))) (λ x. Chosen (x == 0) found on) AllSeen
      (λ x there. shows_chosen (x == 0) found on AllSeen (λ z. segment_shows me.geometry.segments 0 e k 0 0) (λ z. root_shows n (k + 1) e))

  all_shows : Shows (alloc_trail me q) AllSeen
  all_shows =
      shows_asked (Load (address me.geometry (place.Era me.who me.who))) (λ e. Chosen (nat_lt (2 ^ 47 - 3) e) (Answers (Err (EraSpent e))) (root_trail me q 16 0 e)) AllSeen
      (λ e there. shows_chosen (nat_lt (2 ^ 47 - 3) e) (Answers (Err (EraSpent e))) (root_trail me q 16 0 e) AllSeen (λ z. shows_else (Err (EraSpent e)) AllSeen tt) (λ z. root_shows 16 0 e))

-- each segment of the pool was seen to have no free block
pub search_seen : (me : Me) (q : Request) (tr : Trail) (t u : ℕ) → alloc_trail me q tr (Err (Full t u)) → (s : ℕ) → s < me.geometry.segments → HasNoneFree me q tr s
search_seen me q tr t u h s l =
    let j = turned_all me.geometry.segments q.near.segment s l in
    subst (HasNoneFree me q tr) j.2 (all_shows me q tr tr t u h (λ x y. y) j.0 (omega arith) (omega (arith, j.1)))
