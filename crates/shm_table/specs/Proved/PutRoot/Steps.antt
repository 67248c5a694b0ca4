-- putting a value block into the own table: what follows each call
use Rattle.std.proofs.Common.{◌≡◌, ◌≢◌, ℕ, zero, suc, ◌+◌, ◌-◌, ◌*◌, ◌%◌, ◌<◌, refl, sym, ap, ◌∙◌, subst, arith, append_assoc, append-nil, List, [], ◌∷◌, ◌++◌, Some, None, inl, inr, ◌⊎◌}
use Rattle.std.proofs.lemmas.Bool.{cond-true, lt-ltb}
use Rattle.std.specs.Prelude.{◌==◌, if◌then◌else◌}
use Rattle.shm_words.proofs.Placing.{total_small}
use Rattle.shm_words.specs.Layout.{address_limit}
use Rattle.shm_graph.specs.{declared.{ask.Me.Me, memo.Memo.Memo, spot.Spot.TheVariants.Home}, Agents.recovers}
use Rattle.shm_graph.specs.{Asks.{Trail, IsWithin}, Bounds.tear_steps, Events.Event}
use Rattle.shm_graph.specs.{Telling.{Directory, role_in, roles, shaped}, Views.own_word}
use Rattle.kind_parts.specs.{Reparting.{sight, map_in, IsValue}, Walking.IsVacant}
use Rattle.kind_parts.proofs.{Reaching.look_reached, Words.Blocks.told_inside, Covering.role_told}
use Rattle.plans.specs.{Proved.CallTells.within_more, Parts.IsHeld}
use Rattle.shm_count.specs.{Roots.root_word, Tear.Events.frees}
use Rattle.shm_ref.specs.Proved.CountedBlocks.{reached_counted}
use Rattle.shm_table.specs.{declared.find.Found.{Found, TheVariants.{Absent, At}}, Enter.MayEnter, Find.Bound.keys_read}
use Rattle.shm_table.specs.{Find.OnlyReads, Proved.{Find.Bound.find_within, Locate.Laws.find_only}}
use Rattle.shm_table.specs.Proved.PutRoot.Undoing.{opening_still}
use Rattle.shm_table.specs.Proved.Staying.Laws.{cleared_more, keeps_latched, keeps_more, keeps_read, latched_else, rests_read, root_kept}
use Rattle.shm_table.specs.{Locate.Located, PutRoot.Control.home_of}
use Rattle.shm_table.specs.PutRoot.{HasSearch, IsDecided, IsPutting, IsSearched, MayPutRoot, OpenedSo}
use Rattle.shm_table.specs.{Replace.MayReplace, Staying.{Cleared, Keeps, MapSet, SameMap}}

-- ---- maps, causes and searches

-- a key that is set after nothing changed
pub set_after : (key n v : ℕ) (m x r : Memo) → SameMap m x → MapSet key n v x r → MapSet key n v m r
set_after key n v m x r same set k = set k ∙ ap (λ o. if key == k then Some (n, v) else o) (same k)

pub set_then : (key n v : ℕ) (m x r : Memo) → MapSet key n v m x → SameMap x r → MapSet key n v m r
set_then key n v m x r set same k = same k ∙ set k

pub same_more : (m x r : Memo) → SameMap m x → SameMap x r → SameMap m r
same_more m x r a b k = b k ∙ a k

pub same_part : (m r : Memo) → r.part ≡ m.part → SameMap m r
same_part m r e k = ap (λ p. map_in p k) e

-- a search stays a part of what was asked
pub search_more : (me : Me) (a key n : ℕ) (tr t : Trail) → HasSearch me a key n tr → HasSearch me a key n (tr ++ t)
search_more me a key n tr t (before, middle, after, split, found) =
    (before, middle, after ++ t, ap (λ (u : Trail). u ++ t) split ∙ (append_assoc before (middle ++ after) t ∙ ap (λ (u : Trail). before ++ u) (append_assoc middle after t)), found)

pub search_before : (me : Me) (a key n : ℕ) (tr t : Trail) → HasSearch me a key n t → HasSearch me a key n (tr ++ t)
search_before me a key n tr t (before, middle, after, split, found) = (tr ++ before, middle, after, ap (λ (u : Trail). tr ++ u) split ∙ sym (append_assoc tr before (middle ++ after)), found)

-- the blocks that are freed by one list of events and by another
pub frees_append : (es ds : List Event) → frees (es ++ ds) ≡ frees es + frees ds
frees_append [] ds = omega arith
frees_append (x ∷ es) ds = let e = frees_append es ds in omega arith

-- an event that decides stays one of the events
pub decided_more : (c key home v : ℕ) (es ds : List Event) → IsDecided c key home v es → IsDecided c key home v (es ++ ds)
decided_more c key home v es ds (before, d, after, split, is) = (before, d, after ++ ds, ap (λ (u : List Event). u ++ ds) split ∙ append_assoc before (d ∷ after) ds, is)

pub decided_after : (c key home v : ℕ) (es ds : List Event) → IsDecided c key home v ds → IsDecided c key home v (es ++ ds)
decided_after c key home v es ds (before, d, after, split, is) = (es ++ before, d, after, ap (λ (u : List Event). es ++ u) split ∙ sym (append_assoc es before (d ∷ after)), is)

-- ---- the search

module _ (me : Me) (key v : ℕ) (r0 rs r : Memo) (t : Trail) (es ds : List Event) (b : Found) (held : IsHeld me r) (agent : recovers r ≡ recovers rs) (h : IsPutting me key v None r0 rs) (w : Located me me.who key rs r t ds b) where
  abbrev c : ℕ
  c = me.who

  reads : OnlyReads w.latched r
  reads = (find_only me c key w.latched r w.after ds b w.found).0

  may : MayPutRoot me key v h.may.0 h.may.1 r0
  may = h.may.2

  taken : Keeps c rs w.latched
  taken = keeps_latched c c rs w.latched h.keeps.idle w.took

  keeps : Keeps c r0 r
  keeps = keeps_more c r0 w.latched r (keeps_more c r0 rs w.latched h.keeps taken) (keeps_read c w.latched r taken.idle reads)

  else_latched : (w.latched.latch ≡ Some c) × (own_word w.latched.own (Home c) ≡ own_word rs.own (Home c)) × (w.latched.part ≡ rs.part) × Cleared c rs w.latched
  else_latched = latched_else c c rs w.latched w.took

  pub located_putting : IsPutting me key v (Some me.who) r0 r
  located_putting =
      let rests = rests_read c w.latched r reads in
      record {
        may = h.may;
        keeps = keeps;
        client = agent ∙ h.client;
        latched = rests.latch ∙ else_latched.0;
        home = λ e. h.home (sym else_latched.1 ∙ (sym rests.home ∙ e));
        map = same_more r0 rs r h.map (same_part rs r (rests.part ∙ else_latched.2));
        cleared = cleared_more c r0 w.latched r (cleared_more c r0 rs w.latched h.cleared else_latched.3) rests.cleared;
      }

  pub located_opening : OpenedSo c r0 rs es → OpenedSo c r0 r (es ++ ds)
  located_opening = opening_still c (own_word r0.own (Home c)) (own_word rs.own (Home c)) (own_word r.own (Home c)) es ds ((rests_read c w.latched r reads).home ∙ else_latched.1) w.none

  -- what was asked so far
  pub located_searched : (tr : Trail) (steps : ℕ) → IsWithin (steps + tear_steps me.geometry.wide (frees es)) tr → IsSearched me key (steps + 2 + 2) (tr ++ t) (es ++ ds)
  located_searched tr steps bound =
      let u = find_within me c key w.latched r w.after ds b w.found in
      let quiet : es ++ ds ≡ es = ap (λ (x : List Event). es ++ x) w.none ∙ append-nil es in
      let first = within_more (steps + tear_steps me.geometry.wide (frees es)) 2 tr w.before bound w.bound in
      let all = within_more (steps + tear_steps me.geometry.wide (frees es) + 2) (2 + 2 * keys_read u.0 b) (tr ++ w.before) w.after first u.2 in
      let split : tr ++ t ≡ (tr ++ w.before) ++ w.after = ap (λ (x : Trail). tr ++ x) w.trail ∙ sym (append_assoc tr w.before w.after) in
      record {
        keys = keys_read u.0 b;
        search = (tr ++ w.before, w.after, [], split ∙ ap (λ (x : Trail). (tr ++ w.before) ++ x) (sym (append-nil w.after)), (u.0, b, u.1, refl));
        bound = subst (λ (x : List Event). IsWithin (steps + 2 + 2 + 2 * keys_read u.0 b + tear_steps me.geometry.wide (frees x)) (tr ++ t)) (sym quiet)
            (subst (IsWithin (steps + 2 + 2 + 2 * keys_read u.0 b + tear_steps me.geometry.wide (frees es))) (sym split) (omega arith));
      }

  -- the value block and its root are still there
  value : IsValue (sight me.who r) v h.may.0
  value = keeps.values h.may.1 v h.may.0 may.low may.some may.root may.value

  named : (k : ℕ) × (k < 16) × (root_word me.who r k ≡ v)
  named = (h.may.1, may.low, root_kept me.who r0 r h.may.1 v keeps may.some may.root)

-- an entry was found
pub located_at : (me : Me) (key v : ℕ) (r0 rs r : Memo) (t : Trail) (es ds : List Event) (entry before word : ℕ) → IsHeld me r → recovers r ≡ recovers rs → IsPutting me key v None r0 rs → Located me me.who key rs r t ds (At entry before word)
    → (n : ℕ) × MayReplace me key v n (entry % address_limit) before word r
located_at me key v r0 rs r t es ds entry before word held agent h w =
    let may = h.may.2 in
    let total = total_small me.geometry may.geometry in
    let room = w.found.room in
    let small : entry ≡ entry % address_limit = omega arith in (
      h.may.0,
      subst (λ b. MayReplace me key v h.may.0 b before word r) small
          (record {
            geometry = may.geometry;
            who = may.who;
            idle = w.idle;
            client = agent ∙ h.client;
            found = w.found.own refl;
            some = w.found.some;
            room = w.found.room;
            here = w.found.here;
            value = value me key v r0 rs r t es ds (At entry before word) held agent h w;
            named = named me key v r0 rs r t es ds (At entry before word) held agent h w;
            block = may.some;
          }),
    )

-- no entry has the key
pub located_absent : (me : Me) (key v : ℕ) (r0 rs r : Memo) (t : Trail) (es ds : List Event) (home first : ℕ) → IsHeld me r → recovers r ≡ recovers rs → IsPutting me key v None r0 rs → Located me me.who key rs r t ds (Absent home first)
    → (n : ℕ) × MayEnter me key v n (home_of home) (first % address_limit) r
located_absent me key v r0 rs r t es ds home first held agent h w =
    let may = h.may.2 in
    let total = total_small me.geometry may.geometry in
    let putting = located_putting me key v r0 rs r t es ds (Absent home first) held agent h w in
    let here : own_word r.own (Home me.who) ≡ home = w.found.directory refl in
    let vacant : IsVacant me.who r key first = w.found.vacant refl (λ e. putting.home (here ∙ e)) in
    let role : role_in (roles r) home ≡ Directory = ap (role_in (roles r)) (sym here) ∙ vacant.role in
    let inside = told_inside me r (shaped r.latch home Directory) may.who held (role_told me.who r me.geometry.wide home Directory role (λ z. cc)) in
    let low : home ≡ home_of home = sym (cond-true _ _ _ (lt-ltb home (address_limit - 17) (omega arith))) in
    let small : first ≡ first % address_limit = elim (is_zero first) [
      | inl e ↦ omega arith
      | inr some ↦ (let l = (reached_counted me may.who r first held (look_reached me.who r first (vacant.next some))).0.1 in omega arith)
    ] in (
      h.may.0,
      subst (λ d. MayEnter me key v h.may.0 d (first % address_limit) r) low
          (subst (λ b. MayEnter me key v h.may.0 home b r) small
          (record {
            geometry = may.geometry;
            who = may.who;
            idle = w.idle;
            client = agent ∙ h.client;
            vacant = vacant;
            directory = here;
            small = may.small;
            some = may.some;
            named = named me key v r0 rs r t es ds (Absent home first) held agent h w;
            value = value me key v r0 rs r t es ds (Absent home first) held agent h w;
          })),
    )
  where
    is_zero : (n : ℕ) → (n ≡ 0) ⊎ (n ≢ 0)
    is_zero zero = inl refl
    is_zero (suc n) = inr (λ e. absurd (omega (arith, e)))
