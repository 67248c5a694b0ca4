-- where a search goes by its hint: it stays in the pool, the segment and the page, whatever the hint
use Rattle.std.proofs.Common.{◌≡◌, ℕ, ◌+◌, ◌-◌, ◌*◌, ◌/◌, ◌%◌, ◌<◌, ◌≤◌, refl, sym, ap, ◌∙◌, arith, Bool, true, false}
use Rattle.std.proofs.{Math.Nat.add-mul-mod_self_right, lemmas.Bool.{eqb-true, ltb-true, ltb-false}}
use Rattle.std.proofs.lemmas.Nat.{mod_below, mod-mul-add, div-add-mod'}
use Rattle.std.specs.Prelude.{◌==◌, nat_lt, if◌then◌else◌}
use Rattle.shm_graph.specs.declared.ask.Me.{Me}
use Rattle.shm_alloc.specs.declared.request.Request.{Request}
use Rattle.shm_alloc.specs.Alloc.Control.{class_asked, turned, segment_at, page_at, index_at}

-- number j of n is one of them
pub turned_below : (n d j : ℕ) → j < n → turned n d j < n
unfolding turned
turned_below n d j l = go (d == 0)
  where
    some : 0 < n
    some = omega (arith, l)

    go : (b : Bool) → (if b then j else (j + d) % n) < n
    go true = l
    go false = mod_below (j + d) n some

-- with no hint it is number j itself
pub turned_none : (n j : ℕ) → turned n 0 j ≡ j
unfolding turned
turned_none n j = refl

-- a number of them is where the count begins
pub turned_first : (n d : ℕ) → d < n → turned n d 0 ≡ d
unfolding turned
turned_first n d l = go (d == 0) (eqb-true d 0)
  where
    zeros : 0 + d ≡ 0 * n + d
    zeros = omega arith

    go : (b : Bool) → (b ≡ true → d ≡ 0) → (if b then 0 else (0 + d) % n) ≡ d
    go true e = sym (e refl)
    go false e = ap (λ x. x % n) zeros ∙ mod-mul-add 0 n d l

-- one more on both sides
one_on : (a b x : ℕ) → a + b ≡ x → x + 1 ≡ a + (b + 1)
one_on a b x e = omega arith

-- the next number, where one lies behind it
pub turned_next : (n d j : ℕ) → turned n d j + 1 < n → turned n d (j + 1) ≡ turned n d j + 1
unfolding turned
turned_next n d j l = go (d == 0) l
  where
    go : (b : Bool) → (if b then j else (j + d) % n) + 1 < n → (if b then j + 1 else (j + 1 + d) % n) ≡ (if b then j else (j + d) % n) + 1
    go true m = refl
    go false m =
        let first : j + 1 + d ≡ j + d + 1 = omega arith in
        let whole : j + d + 1 ≡ (j + d) / n * n + ((j + d) % n + 1) = one_on ((j + d) / n * n) ((j + d) % n) (j + d) (div-add-mod' (j + d) n) in
        ap (λ x. x % n) (first ∙ whole) ∙ mod-mul-add ((j + d) / n) n ((j + d) % n + 1) m

-- a segment of the pool, a page of a segment and a block of a page
pub segment_below : (me : Me) (q : Request) (j : ℕ) → j < me.geometry.segments → segment_at me q j < me.geometry.segments
segment_below me q j l = turned_below me.geometry.segments q.near.segment j l

pub page_below : (q : Request) (j : ℕ) → j < 16 → page_at q j < 16
page_below q j l = turned_below 16 q.near.page j l

pub index_below : (q : Request) (j : ℕ) → j < 128 / class_asked q → index_at q j < 128 / class_asked q
index_below q j l = turned_below (128 / class_asked q) q.near.index j l

-- so far back as the hint is ahead
back_before : (d n k r a : ℕ) → a + r ≡ d → r ≤ k → k - r + d ≡ a + k
back_before d n k r a e l = omega arith

back_behind : (d n k r a : ℕ) → a + r ≡ d → k < r → r < n → k + n - r + d ≡ a + k + 1 * n
back_behind d n k r a e l m = omega arith

-- each of them is gone to
pub turned_all : (n d k : ℕ) → k < n → (j : ℕ) × (j < n) × (turned n d j ≡ k)
unfolding turned
turned_all n d k l = go (d == 0)
  where
    some : 0 < n
    some = omega (arith, l)

    small : d % n < n
    small = mod_below d n some

    whole : d / n * n + d % n ≡ d
    whole = div-add-mod' d n

    turn : (b : Bool) → nat_lt k (d % n) ≡ b → (j : ℕ) × (j < n) × ((j + d) % n ≡ k)
    turn true e =
        let below : k < d % n = ltb-true k (d % n) e in (
          k + n - d % n,
          omega (arith, below, small),
          ap (λ x. x % n) (back_behind d n k (d % n) (d / n * n) whole below small)
              ∙ (add-mul-mod_self_right (d / n * n + k) 1 n ∙ mod-mul-add (d / n) n k l),
        )
    turn false e =
        let above : d % n ≤ k = ltb-false k (d % n) e in
        (k - d % n, omega (arith, l, above), ap (λ x. x % n) (back_before d n k (d % n) (d / n * n) whole above) ∙ mod-mul-add (d / n) n k l)

    go : (b : Bool) → (j : ℕ) × (j < n) × ((if b then j else (j + d) % n) ≡ k)
    go true = (k, l, refl)
    go false = turn (nat_lt k (d % n)) refl
