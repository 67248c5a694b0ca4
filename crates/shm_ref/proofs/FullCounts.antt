-- a home or a reference word that isn't set because a count is full: a header that was read shows it
use Rattle.std.proofs.Common.{◌≡◌, ℕ, ◌+◌, Bool, true, false}
use Rattle.std.specs.Prelude.{◌==◌, ◌%◌, nat_le, if◌then◌else◌, Option, Some, None, Result, Ok, Err}
use Rattle.shm_words.specs.{Layout.address_limit, Tags.{tag_author, tag_refs}}
use Rattle.shm_graph.specs.Asks.{Trail}
use Rattle.plans.specs.{declared.or.Or.TheVariants.{First, Second}, Plans.plan_trail}
use Rattle.shm_count.specs.{declared.answer.UpFault.TheVariants.{CountFull, EraSpent}, Refusing.ReadsCount}
use Rattle.shm_count.specs.Proved.Step.Refusing.{step_reads}
use Rattle.shm_count.specs.declared.point.Aim.TheVariants as aims
use Rattle.shm_count.proofs.LastCalls.{count_read, reads_same}
use Rattle.shm_ref.specs.declared.{answer.{HomeFault.HomeFault, SetFault.SetFault}, set_home.HomePoint.HomePoint}
use Rattle.shm_ref.specs.declared.{set_home.HomeState.HomeState, set_ref.{SetPoint.SetPoint, SetState.SetState}}
use Rattle.shm_ref.specs.{HomeParts.home_address, SetHome.{HomeAnswer, home_call_at, home_plan, home_turns}}
use Rattle.shm_ref.specs.SetRef.{Control.{SetAnswer, lowered_turns, set_call_at, set_turns}, set_plan}
use Rattle.shm_ref.specs.declared.answer.HomeFault.TheVariants as home
use Rattle.shm_ref.specs.declared.answer.SetFault.TheVariants as set
use Rattle.shm_ref.specs.declared.set_home.HomePoint.TheVariants as homing
use Rattle.shm_ref.specs.declared.set_ref.SetPoint.TheVariants as setting

-- the own home
module _ (d n : ℕ) where
  abbrev HomeFull : Option (Result (Unit {0}) HomeFault) → Type 0
  HomeFull o = o ≡ Some (Err (home.CountFull d n))

  no_home : (q : Bool) (x : ℕ) → HomeFull (if q then None else Some (Err (home.HomeSet x))) → ⊥
  no_home true x e = cc
  no_home false x e = cc

  home_last : (m : HomeState) (y : HomePoint) (t : Trail) (b : HomeAnswer) → (home_plan.part (record m { point = y })).asks (home_call_at m y) t b → HomeFull (home_turns m b) → ReadsCount d n t
  home_last m homing.Load t (First x) h e = absurd (no_home (x == 0) (x % address_limit) e)
  home_last m homing.Load t (Second b) h e = absurd h
  home_last m homing.Raise t (First x) h e = absurd h
  home_last m homing.Raise t (Second (Ok done)) h e = absurd (cc)
  home_last m homing.Raise t (Second (Err (EraSpent x))) h e = absurd (cc)
  home_last m homing.Raise t (Second (Err (CountFull b k))) h e = reads_same b k d n t (cc) (cc) (step_reads m.me (home_address m.me) (aims.Up m.block) t b k h)

pub home_reads_count : (m : HomeState) (d n : ℕ) (tr : Trail) → plan_trail home_plan m tr (Err (home.CountFull d n)) → ReadsCount d n tr
home_reads_count m d n tr = count_read home_plan (Err (home.CountFull d n)) d n (λ p t b. home_last d n p p.point t b) m tr

-- a reference word
module _ (d n : ℕ) where
  abbrev SetFull : Option (Result (Unit {0}) SetFault) → Type 0
  SetFull o = o ≡ Some (Err (set.CountFull d n))

  no_tag : (q z : Bool) (x a : ℕ) → SetFull (if q then (if z then Some (Err (set.NoSuchRef x)) else None) else Some (Err (set.NotAuthor a))) → ⊥
  no_tag true true x a e = cc
  no_tag true false x a e = cc
  no_tag false z x a e = cc

  no_hold : (q : Bool) → SetFull (if q then None else Some (Err set.NotHeld)) → ⊥
  no_hold true e = cc
  no_hold false e = cc

  no_word : (q : Bool) → SetFull (if q then Some (Ok tt) else None) → ⊥
  no_word true e = cc
  no_word false e = cc

  no_lowered : (z : Bool) → SetFull (lowered_turns z) → ⊥
  no_lowered true e = cc
  no_lowered false e = cc

  set_last : (m : SetState) (y : SetPoint) (t : Trail) (b : SetAnswer) → (set_plan.part (record m { point = y })).asks (set_call_at m y) t b → SetFull (set_turns (record m { point = y }) b) → ReadsCount d n t
  set_last m setting.Tag t (First x) h e = absurd (no_tag (tag_author m.me.geometry.wide x == m.me.who) (nat_le (tag_refs m.me.geometry.wide x) m.word) (tag_refs m.me.geometry.wide x) (tag_author m.me.geometry.wide x) e)
  set_last m setting.Tag t (Second b) h e = absurd h
  set_last m setting.Held t (First x) h e = absurd (no_hold (x == m.me.who + 1) e)
  set_last m setting.Held t (Second b) h e = absurd h
  set_last m setting.Look t (First x) h e = absurd (no_word (x % address_limit == m.to) e)
  set_last m setting.Look t (Second b) h e = absurd h
  set_last m setting.Raise t (First x) h e = absurd h
  set_last m setting.Raise t (Second (First (First (Ok done)))) h e = absurd (cc)
  set_last m setting.Raise t (Second (First (First (Err (EraSpent x))))) h e = absurd (cc)
  set_last m setting.Raise t (Second (First (First (Err (CountFull b k))))) h e = reads_same b k d n t (cc) (cc) (step_reads m.me (m.block + 2 + m.word) (aims.Up m.to) t b k h)
  set_last m setting.Raise t (Second (First (Second a))) h e = absurd h
  set_last m setting.Raise t (Second (Second a)) h e = absurd h
  set_last m setting.Lower t (First x) h e = absurd h
  set_last m setting.Lower t (Second (First (First a))) h e = absurd h
  set_last m setting.Lower t (Second (First (Second (Ok z)))) h e = absurd (no_lowered z e)
  set_last m setting.Lower t (Second (First (Second (Err x)))) h e = absurd (cc)
  set_last m setting.Lower t (Second (Second a)) h e = absurd h
  set_last m setting.Change t (First x) h e = absurd h
  set_last m setting.Change t (Second (First a)) h e = absurd h
  set_last m setting.Change t (Second (Second (First (Ok z)))) h e = absurd (no_lowered z e)
  set_last m setting.Change t (Second (Second (First (Err (EraSpent x))))) h e = absurd (cc)
  set_last m setting.Change t (Second (Second (First (Err (CountFull b k))))) h e = reads_same b k d n t (cc) (cc) (step_reads m.me (m.block + 2 + m.word) (aims.Change m.before m.to) t b k h)
  set_last m setting.Change t (Second (Second (Second a))) h e = absurd h
  set_last m setting.Tear t (First x) h e = absurd h
  set_last m setting.Tear t (Second (First a)) h e = absurd h
  set_last m setting.Tear t (Second (Second (First a))) h e = absurd h
  set_last m setting.Tear t (Second (Second (Second (Ok done)))) h e = absurd (cc)
  set_last m setting.Tear t (Second (Second (Second (Err x)))) h e = absurd (cc)

pub set_reads_count : (m : SetState) (d n : ℕ) (tr : Trail) → plan_trail set_plan m tr (Err (set.CountFull d n)) → ReadsCount d n tr
set_reads_count m d n tr = count_read set_plan (Err (set.CountFull d n)) d n (λ p t b. set_last d n p p.point t b) m tr
