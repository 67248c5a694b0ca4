-- What the setting of a reference word does to the graph of references at any moment: of all words it makes this one alone name a block, and that one alone.
use Rattle.std.proofs.Common.{◌≡◌, ◌≢◌, ℕ, ◌<◌, ◌≤◌, Bool, true, false, refl, sym, ap, ◌∙◌, subst}
use Rattle.std.specs.{Prelude.{Option, None, Some, Result, Ok}, List.AllByRecursion}
use Rattle.shm_graph.specs.{declared.{ask.Me.Me, spot.Spot.{Spot, TheVariants.Body}}, Asks.Trail, Tells.happens_along}
use Rattle.plans.specs.declared.{calls.Calls.Calls, or.Or.TheVariants.{First, Second}}
use Rattle.plans.specs.CallsControl.{called_on, calls_control, calls_does, calls_of, planned}
use Rattle.shm_plain.specs.{Calls.{Did, Ran}, Pools.{Pool, memo_of}}
use Rattle.shm_count.specs.declared.point.Aim.{Aim, TheVariants.{Up, Down, Change}}
use Rattle.shm_ref.specs.declared.{answer.SetFault.SetFault, set_ref.{SetPoint.SetPoint, SetState.SetState}}
use Rattle.shm_ref.specs.SetRef.Control.{SetAnswer, SetCall, found_after, lowered_after, set_after, set_call_at, set_parts, set_turns, setting, set_steered}
use Rattle.shm_ref.specs.SetRef.{set_plan}
use Rattle.shm_ref.specs.declared.set_ref.SetPoint.TheVariants as sets
use Rattle.shm_tree.specs.{Falling.{AreFalling, IsUnnamed}, Working.IsWorking}
use Rattle.shm_tree.proofs.Anytime.{AimsAt, only_along, step_only, tear_only, told_falls}
use Rattle.shm_tree.proofs.{Falls.{IsLower, Ups, more_ups, raised}, Unnamed.{Spares, unnamed_kept}}

-- the reference to `to` in word k of block b
abbrev pub IsReference : ℕ → ℕ → ℕ → Spot → ℕ → Type 0
IsReference b k to s c = (s ≡ Body b k) × (c ≡ to)

-- ---- states

module _ (b k to : ℕ) where
  -- a step that makes no reference to another block
  abbrev AimIs : Aim → Type 0
  AimIs (Up c) = c ≡ to
  AimIs (Down c) = Unit {0}
  AimIs (Change a c) = c ≡ to

  abbrev CallIs : SetCall → Type 0
  CallIs (First m) = Unit {0}
  CallIs (Second (First (First m))) = AimIs m.aim
  CallIs (Second (First (Second m))) = AimIs m.aim
  CallIs (Second (Second (First m))) = AimIs m.aim
  CallIs (Second (Second (Second m))) = Unit {0}

  pub record PlanIs (m : SetState) : Type 0 where
    pub block : m.block ≡ b
    pub word : m.word ≡ k
    pub target : m.to ≡ to

  abbrev SetIs : Calls SetState SetCall → Type 0
  SetIs m = PlanIs m.plan × CallIs m.call

  -- ---- they stay

  call_stays : (c : SetCall) (n : ℕ) → CallIs c → CallIs (set_parts.after c n)
  call_stays (First m) n h = tt
  call_stays (Second (First (First m))) n h = h
  call_stays (Second (First (Second m))) n h = h
  call_stays (Second (Second (First m))) n h = h
  call_stays (Second (Second (Second m))) n h = tt

  found_stays : (m : SetState) (y : SetPoint) (n : ℕ) → PlanIs m → PlanIs (found_after m y n)
  found_stays m sets.Tag n h = record { block = h.block; word = h.word; target = h.target }
  found_stays m sets.Held n h = record { block = h.block; word = h.word; target = h.target }
  found_stays m _ n h = record { block = h.block; word = h.word; target = h.target }

  lowered_stays : (m : SetState) (z : Bool) → PlanIs m → PlanIs (lowered_after m z)
  lowered_stays m true h = record { block = h.block; word = h.word; target = h.target }
  lowered_stays m false h = h

  plan_stays : (m : SetState) (a : SetAnswer) → PlanIs m → PlanIs (set_after m a)
  plan_stays m (First n) h = found_stays m m.point n h
  plan_stays m (Second (First (Second (Ok z)))) h = lowered_stays m z h
  plan_stays m (Second (Second (First (Ok z)))) h = lowered_stays m z h
  plan_stays m _ h = h

  next_is : (m : SetState) (y : SetPoint) → PlanIs m → CallIs (set_call_at m y)
  next_is m sets.Raise h = h.target
  next_is m sets.Lower h = tt
  next_is m sets.Change h = h.target
  next_is m _ h = tt

  planned_is : (c : SetCall) (m : SetState) (o : Option (Result (Unit {0}) SetFault)) → PlanIs m → CallIs c → SetIs (planned set_parts set_steered c m o)
  planned_is c m None h is = (h, next_is m m.point h)
  planned_is c m (Some a) h is = (h, is)

  called_is : (m : SetState) (c : SetCall) (o : Option SetAnswer) → PlanIs m → CallIs c → SetIs (called_on set_parts set_steered m c o)
  called_is m c None h is = (h, is)
  called_is m c (Some a) h is = planned_is c (set_after m a) (set_turns m a) (plan_stays m a h) is

  set_stays : (m : Calls SetState SetCall) (n : ℕ) → SetIs m → SetIs ((calls_control set_parts set_steered).after m n)
  set_stays m n h = called_is m.plan (set_parts.after m.call n) (set_parts.turns m.call n) h.0 (call_stays m.call n h.1)

  -- ---- what they tell

  aims : (m : SetState) (x : Aim) → PlanIs m → AimIs x → AimsAt (IsReference b k to) (Body m.block m.word) x
  aims m (Up c) h is = (ap (λ (d : ℕ). Body d m.word) h.block ∙ ap (λ (i : ℕ). Body b i) h.word, is)
  aims m (Down c) h is = tt
  aims m (Change a c) h is = (ap (λ (d : ℕ). Body d m.word) h.block ∙ ap (λ (i : ℕ). Body b i) h.word, is)

  tells : (m : SetState) (c : SetCall) (n : ℕ) → PlanIs m → CallIs c → Ups (IsReference b k to) ((set_plan.part m).does c n)
  tells m (First w) n h is = tt
  tells m (Second (First (First x))) n h is = step_only (IsReference b k to) x.me x.aim (Body m.block m.word) x.point n (aims m x.aim h is)
  tells m (Second (First (Second x))) n h is = step_only (IsReference b k to) x.me x.aim (Body m.block m.word) x.point n (aims m x.aim h is)
  tells m (Second (Second (First x))) n h is = step_only (IsReference b k to) x.me x.aim (Body m.block m.word) x.point n (aims m x.aim h is)
  tells m (Second (Second (Second x))) n h is = tear_only (IsReference b k to) x.me x.block x.point n

  -- so its events make that reference alone
  pub setting_only : (me : Me) (tr : Trail) → AllByRecursion (Ups (IsReference b k to)) (happens_along (calls_control set_parts set_steered) (calls_does set_parts set_plan) (calls_of set_steered (setting me b k to)) tr)
  setting_only me tr =
      only_along (calls_control set_parts set_steered) (calls_does set_parts set_plan) SetIs (Ups (IsReference b k to)) set_stays (λ m n h. tells m.plan m.call n h.0 h.1)
      (calls_of set_steered (setting me b k to)) tr (record { block = refl; word = refl; target = refl }, tt)

  -- ---- what it leaves

  module _ (me : Me) (p q : Pool) (x y : ℕ) (w : IsWorking p) (told : 0 < x → Did 0 p q (happens_along (calls_control set_parts set_steered) (calls_does set_parts set_plan) (calls_of set_steered (setting me b k to)) (memo_of q 0).call)) (unnamed : IsUnnamed p b) (other : to ≢ b) where
    -- a block that no word of a block names may get any rank, so that its references fall, whether the call is answered or not
    pub setting_falls : (answered : Bool) → Ran 0 true answered p q x y → AreFalling p → AreFalling q
    setting_falls answered ran h =
        let u = raised p h b to unnamed other in
        let z : AreFalling p = u.0 in
        let low : (z.rank to < z.rank b) × (z.rank b ≤ z.most) = (u.1, u.2) in
        told_falls answered p q x y w ran z
        (λ l. (
          _,
          told l,
          more_ups (IsReference b k to) (IsLower z.rank z.most)
              (λ s c is. subst (λ (t : Spot). IsLower z.rank z.most t c) (sym is.0) (subst (λ (d : ℕ). (z.rank d < z.rank b) × (z.rank b ≤ z.most)) (sym is.1) low))
              _ (setting_only me (memo_of q 0).call),
        ))

    -- it isn't named by a block after it
    pub setting_unnamed : b ≢ 0 → Ran 0 true true p q x y → IsUnnamed q b
    setting_unnamed some ran =
        unnamed_kept b some p q _ w.run ran.run ran.start (told (ran.some refl))
        (more_ups (IsReference b k to) (Spares b) (λ s c is e. other (sym is.1 ∙ e)) _ (setting_only me (memo_of q 0).call)) unnamed
