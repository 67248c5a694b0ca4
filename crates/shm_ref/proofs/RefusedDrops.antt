-- what refused drops of roots leave
use Rattle.std.proofs.Common.{◌≡◌, ◌≢◌, ℕ, ◌+◌, ◌*◌, ◌<◌, refl, sym, ap, ◌∙◌, subst, arith, false, List, [], ◌∷◌, length, inl, inr}
use Rattle.std.proofs.lemmas.Bool.{ne_eqb, Decides.nat_tests}
use Rattle.std.specs.Prelude.{◌==◌, ◌⊎◌, nat_lt}
use Rattle.shm_graph.specs.declared.{ask.Me.Me, memo.Memo.Memo, spot.Spot.TheVariants.{Era, Root}}
use Rattle.shm_graph.specs.{Asks.{IsWithin, Trail}, Bounds.{redo_steps, tear_steps}, Events.Event, Views.own_word}
use Rattle.shm_graph.specs.Events as event
use Rattle.plans.specs.Proved.CallTells.{within_more}
use Rattle.shm_count.specs.{Roots.root_word, Slots.Untouched, Tear.Events.{Visit, Walks, frees}}
use Rattle.shm_ref.specs.Proved.{Costs.{drops_more, tear_sum}, Leaving.{frees-append, left_empty, left_root, root_took}}
use Rattle.shm_ref.specs.{DropRoot.{DropSpent, DropSpent.{AtStep, AtTear}}, DropRoots.RefusedAt}

-- ---- one root

module _ (c k : ℕ) (r0 r : Memo) (es : List Event) (e : ℕ) (vs : List Visit) where
  -- the root names x still, and nothing was done; or it is empty, and x was being torn down
  abbrev Either : ℕ → Type 0
  Either x = ((root_word c r k ≡ x) × (es ≡ []) × (vs ≡ [])) ⊎ ((root_word c r k ≡ 0) × ((torn : List Event) × (es ≡ event.Down c (Root c k) x ∷ torn) × Walks c x torn vs))

  -- the root names a block
  pub spent_some : DropSpent c k r0 r es e vs → root_word c r0 k ≢ 0
  spent_some (AtStep some memo cause none all) = some
  spent_some (AtTear some took torn told walk) = some

  -- where it still names one nothing was done
  pub spent_kept : DropSpent c k r0 r es e vs → root_word c r k ≢ 0 → (e ≡ own_word r0.own (Era c c)) × (root_word c r k ≡ root_word c r0 k) × Untouched c r0 r × (es ≡ [])
  spent_kept (AtStep some memo cause none all) n = (cause, memo.own (Root c k) refl, memo, none)
  spent_kept (AtTear some took torn told walk) n = absurd (n (root_took c k (root_word c r0 k) false r0 r took))

  -- where it is empty it lost its reference, and the block was being torn down
  pub spent_emptied : DropSpent c k r0 r es e vs → root_word c r k ≡ 0 → (torn : List Event) × (es ≡ event.Down c (Root c k) (root_word c r0 k) ∷ torn) × Walks c (root_word c r0 k) torn vs
  spent_emptied (AtStep some memo cause none all) z = absurd (some (sym (memo.own (Root c k) refl) ∙ z))
  spent_emptied (AtTear some took torn told walk) z = (torn, told, walk)

  -- the one or the other
  pub spent_either : DropSpent c k r0 r es e vs → Either (root_word c r0 k)
  spent_either (AtStep some memo cause none all) = inl (memo.own (Root c k) refl, none, all)
  spent_either (AtTear some took torn told walk) = inr (root_took c k (root_word c r0 k) false r0 r took, (torn, told, walk))

-- ---- all roots

module _ (me : Me) (r0 r : Memo) (tr : Trail) (es : List Event) (e : ℕ) (vs : List Visit) (h : RefusedAt me r0 r tr es e vs) where
  abbrev c : ℕ
  c = me.who

  abbrev k : ℕ
  k = h.root

  -- the root held what it held before the first one was dropped
  same_root : root_word c h.q k ≡ root_word c r0 k
  same_root = left_root c (λ j. nat_lt j k) r0 h.q k h.gone.left (grind (arith, nat_tests))

  pub before_empty : (j : ℕ) → j < k → root_word c r j ≡ 0
  before_empty j l = left_empty c (λ i. k == i) h.q r j h.drop.left (h.gone.gone j l)

  pub behind_same : (j : ℕ) → k < j → root_word c r j ≡ root_word c r0 j
  behind_same j l = left_root c (λ i. k == i) h.q r j h.drop.left (ne_eqb k j (λ y. absurd (omega arith))) ∙ left_root c (λ i. nat_lt i k) r0 h.q j h.gone.left (grind (arith, nat_tests))

  pub refused_some : root_word c r0 k ≢ 0
  refused_some = subst (λ x. x ≢ 0) same_root (spent_some c k h.q r h.after e vs h.drop.at)

  pub refused_either : Either c k r0 r h.after e vs (root_word c r0 k)
  refused_either = subst (λ x. Either c k h.q r h.after e vs x) same_root (spent_either c k h.q r h.after e vs h.drop.at)

  -- the roots up to this one alone were dropped
  pub refused_bound : IsWithin ((8 + redo_steps me.geometry.wide) * (k + 1) + tear_steps me.geometry.wide (frees es + length vs)) tr
  refused_bound =
      let wide = me.geometry.wide in
      let f = ap frees h.split ∙ frees-append h.before h.after in
      let n = drops_more wide k in
      let torn = tear_sum wide (frees es + length vs) (frees h.before) (frees h.after + length vs) (omega arith) in
      let bound = within_more ((8 + redo_steps wide) * k + tear_steps wide (frees h.before)) (8 + redo_steps wide + tear_steps wide (frees h.after + length vs)) h.first h.next h.gone.bound h.drop.bound in
      subst (IsWithin ((8 + redo_steps wide) * (k + 1) + tear_steps wide (frees es + length vs))) (sym h.asked) (omega arith)
