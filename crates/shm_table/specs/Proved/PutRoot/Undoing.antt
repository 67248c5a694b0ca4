-- what a refusal leaves of the home, of the zero-count blocks and of the graph
use Rattle.std.proofs.Common.{◌≡◌, ℕ, refl, sym, ap, ◌∙◌, subst, arith, append_assoc, append-nil, List, [], ◌++◌, Option, Some, None, inl, inr}
use Rattle.std.proofs.lemmas.List.Elements.{Contains-append_left, Contains-append_right}
use Rattle.std.specs.List.{Contains}
use Rattle.shm_graph.specs.{declared.{ask.Me.Me, memo.Memo.Memo, spot.Spot.TheVariants.Home}, Events.Event}
use Rattle.shm_graph.specs.Views.{own_word}
use Rattle.shm_graph.specs.Events as event
use Rattle.kind_laws.proofs.Lists.{filter_from}
use Rattle.shm_count.specs.{Roots.root_word, Tear.{Events.Visit, is_outside}}
use Rattle.shm_ref.specs.Lefts.{RootEvents, Stopped}
use Rattle.shm_table.specs.{declared.answer.PutFault.PutFault, Enter.IsHalfMade, OpenTable.{HomeSo, IsOpening}}
use Rattle.shm_table.specs.{PutRoot.{IsUnlisted, UnlistedSo}, Staying.Still}

-- ---- zero-count blocks

pub still_same : (m r : Memo) → r.dying ≡ m.dying → Still m r
still_same m r e b h = subst (λ (xs : List ℕ). Contains xs b) (sym e) h

pub still_more : (m x r : Memo) → Still m x → Still x r → Still m r
still_more m x r a b d h = b d (a d h)

-- where a step down was refused
pub still_stopped : (me : Me) (m r : Memo) (era : ℕ) (vs : List Visit) → Stopped me m r era vs → Still m r
still_stopped me m r era vs w b h = (filter_from (is_outside vs) r.dying b (subst (λ (xs : List ℕ). Contains xs b) (sym w.others) h)).0

-- ---- the home

pub home_more : (c before after : ℕ) (es ds : List Event) → HomeSo c before after es → HomeSo c before after (es ++ ds)
home_more c before after es ds (inl same) = inl same
home_more c before after es ds (inr (empty, some, (k, made), named)) = inr (empty, some, (k, Contains-append_left es ds (event.Alloc c k after) made), Contains-append_left es ds (event.Up c (Home c) after) named)

pub home_later : (c before after : ℕ) (es ds : List Event) → HomeSo c before after ds → HomeSo c before after (es ++ ds)
home_later c before after es ds (inl same) = inl same
home_later c before after es ds (inr (empty, some, (k, made), named)) = inr (empty, some, (k, Contains-append_right es ds (event.Alloc c k after) made), Contains-append_right es ds (event.Up c (Home c) after) named)

pub home_opening : (c before after : ℕ) (es : List Event) → IsOpening c before after es → HomeSo c before after es
home_opening c before after es (inl (same, none)) = inl same
home_opening c before after es (inr (empty, some, (k, ds, told, drop))) =
    inr (
      empty,
      some,
      (k, subst (λ (u : List Event). Contains u (event.Alloc c k after)) (sym told) (0, omega arith, refl)),
      subst (λ (u : List Event). Contains u (event.Up c (Home c) after)) (sym told) (1, omega arith, refl),
    )

-- where nothing more was done
pub opening_still : (c before x after : ℕ) (es ds : List Event) → after ≡ x → ds ≡ [] → IsOpening c before x es → IsOpening c before after (es ++ ds)
opening_still c before x after es ds same none h =
    subst (λ y. IsOpening c before y (es ++ ds)) (sym same) (subst (IsOpening c before x) (sym (ap (λ (u : List Event). es ++ u) none ∙ append-nil es)) h)

-- ---- where it was refused

pub unlisted_still : (c v : ℕ) (r0 x r : Memo) (es ds : List Event) (root : Option ℕ) (f : Option PutFault) → own_word r.own (Home c) ≡ own_word x.own (Home c) → ((j : ℕ) → root_word c r j ≡ root_word c x j) → ds ≡ [] → UnlistedSo c v r0 x es root f → UnlistedSo c v r0 r (es ++ ds) root f
unlisted_still c v r0 x r es ds root None home roots none h = tt
unlisted_still c v r0 x r es ds None (Some f) home roots none h = opening_still c (own_word r0.own (Home c)) (own_word x.own (Home c)) (own_word r.own (Home c)) es ds home none h
unlisted_still c v r0 x r es ds (Some k) (Some f) home roots none (os, hs, told, opening, some, (first, half)) = (
  os,
  hs,
  ap (λ (u : List Event). es ++ u) none ∙ (append-nil es ∙ told),
  subst (λ y. IsOpening c (own_word r0.own (Home c)) y os) (sym home) opening,
  (λ z. some (sym (roots k) ∙ z)),
  (first, subst (λ e. IsHalfMade c k e v first hs) (sym (roots k)) half),
)

pub unlisted_home : (c v : ℕ) (r0 r : Memo) (es : List Event) (root : Option ℕ) (f : PutFault) → UnlistedSo c v r0 r es root (Some f) → HomeSo c (own_word r0.own (Home c)) (own_word r.own (Home c)) es
unlisted_home c v r0 r es None f h = home_opening c (own_word r0.own (Home c)) (own_word r.own (Home c)) es h
unlisted_home c v r0 r es (Some k) f (os, hs, told, opening, some, (first, half)) =
    let before = own_word r0.own (Home c) in
    let after = own_word r.own (Home c) in
    subst (HomeSo c before after) (sym told) (home_more c before after os hs (home_opening c before after os opening))

-- and the root of the block that was to be the entry was dropped
pub unlisted_dropped : (c v k : ℕ) (r0 x r : Memo) (es ds : List Event) (f : PutFault) → own_word r.own (Home c) ≡ own_word x.own (Home c) → RootEvents c k (root_word c x k) ds → UnlistedSo c v r0 x es (Some k) (Some f) → IsUnlisted c v (own_word r0.own (Home c)) (own_word r.own (Home c)) (es ++ ds)
unlisted_dropped c v k r0 x r es ds f home drop (os, hs, told, opening, some, (first, half)) = (
  os,
  hs ++ ds,
  ap (λ (u : List Event). u ++ ds) told ∙ append_assoc os hs ds,
  subst (λ y. IsOpening c (own_word r0.own (Home c)) y os) (sym home) opening,
  inr (k, root_word c x k, first, hs, ds, refl, some, half, drop),
)
