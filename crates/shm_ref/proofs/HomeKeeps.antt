-- what stays where the own home is set
use Rattle.std.proofs.Common.{◌≡◌, ℕ, ◌&&◌, ◌==◌, refl, ap, ◌∙◌, not, List, [], ◌∷◌, ◌++◌, Result}
use Rattle.std.proofs.lemmas.Bool.{cond-true}
use Rattle.std.specs.Prelude.{Ok, Err, IfOk, IfErr}
use Rattle.shm_graph.specs.{declared.{memo.Memo.Memo, spot.Spot.TheVariants.{Home, Root}}, Asks.Trail, Core.core}
use Rattle.shm_graph.specs.{Events.Event, Held.is_loose, Idle.IsIdle, MemoAfterRead.{home_read, is_held}}
use Rattle.shm_graph.specs.Views.{own_word}
use Rattle.shm_graph.proofs.{Spots.Spotting.same_spot_self, StepKinds.Loads.choice}
use Rattle.shm_count.specs.{Roots.{AreRootsReached, root_word}, Slots.{Filled, Untouched}}
use Rattle.shm_count.proofs.{RootSpots.roots_reached, Waiting.loose_after}
use Rattle.shm_ref.specs.declared.answer.HomeFault.{HomeFault, TheVariants.{CountFull, EraSpent, HomeSet}}
use Rattle.shm_ref.specs.{declared.set_home.HomeState.HomeState, Proved.RootTasks.home_rests, SetHome.HomeLeaves}

-- what is left of the memo, whatever is answered; the home is h
pub record HomeLasts (c h : ℕ) (m r : Memo) : Type 0 where
  pub home : own_word r.own (Home c) ≡ h
  pub roots : (k : ℕ) → root_word c r k ≡ root_word c m k
  pub latch : r.latch ≡ m.latch
  pub loose : is_loose r.part ≡ is_loose m.part

filled_lasts : (c b : ℕ) (m r : Memo) → Filled c (Home c) b m r → HomeLasts c b m r
filled_lasts c b m r h =
    record {
      home = h.own (Home c) refl ∙ cond-true _ _ _ (same_spot_self (Home c));
      roots = λ k. h.own (Root c k) refl;
      latch = ap (λ (x : Memo). x.latch) h.rest;
      loose = ap (λ (x : Memo). is_loose x.part) h.rest ∙ loose_after c m (Home c) b;
    }

untouched_lasts : (c : ℕ) (m r : Memo) → Untouched c m r → HomeLasts c (own_word m.own (Home c)) m r
untouched_lasts c m r h =
    record {
      home = h.own (Home c) refl;
      roots = λ k. h.own (Root c k) refl;
      latch = ap (λ (x : Memo). x.latch) h.rest;
      loose = ap (λ (x : Memo). is_loose x.part) h.rest;
    }

same_lasts : (c h : ℕ) (m x r : Memo) → core r ≡ core x → HomeLasts c h m x → HomeLasts c h m r
same_lasts c h m x r e y =
    record {
      home = ap (λ (z : Memo). own_word z.own (Home c)) e ∙ y.home;
      roots = λ k. ap (λ (z : Memo). root_word c z k) e ∙ y.roots k;
      latch = ap (λ (z : Memo). z.latch) e ∙ y.latch;
      loose = ap (λ (z : Memo). is_loose z.part) e ∙ y.loose;
    }

read_lasts : (c n : ℕ) (m : Memo) → HomeLasts c (own_word m.own (Home c)) m (home_read m c n)
read_lasts c n m =
    choice (λ (y : Memo). HomeLasts c (own_word m.own (Home c)) m y) (is_held m.latch c && not (n == 0)) (record m { looks = m.looks ++ record { block = n; from = Home c } ∷ [] }) m
    (λ e. record { home = refl; roots = λ k. refl; latch = refl; loose = refl })
    (λ e. record { home = refl; roots = λ k. refl; latch = refl; loose = refl })

-- what the home names once this is answered
abbrev pub home_named : HomeState → Memo → Result (Unit {0}) HomeFault → ℕ
home_named m r0 (Ok u) = m.block
home_named m r0 (Err f) = own_word r0.own (Home m.me.who)

module _ (m : HomeState) (r0 r : Memo) (tr : Trail) (es : List Event) where
  pub home_lasts : (a : Result (Unit {0}) HomeFault) → HomeLeaves m r0 r tr es a → HomeLasts m.me.who (home_named m r0 a) r0 r
  home_lasts (Ok u) h = filled_lasts m.me.who m.block r0 r h.filled
  home_lasts (Err (HomeSet x)) h = same_lasts m.me.who (own_word r0.own (Home m.me.who)) r0 (home_read r0 m.me.who x) r h.stays.2 (read_lasts m.me.who x r0)
  home_lasts (Err (EraSpent e)) h = untouched_lasts m.me.who r0 r h.stays.1
  home_lasts (Err (CountFull d n)) h = untouched_lasts m.me.who r0 r h.stays.1

  pub home_empty : (a : Result (Unit {0}) HomeFault) → HomeLeaves m r0 r tr es a → IfOk a (λ u. own_word r0.own (Home m.me.who) ≡ 0)
  home_empty (Ok u) h = h.empty
  home_empty (Err f) h = tt

  pub home_set : (a : Result (Unit {0}) HomeFault) → HomeLeaves m r0 r tr es a → IfOk a (λ u. own_word r.own (Home m.me.who) ≡ m.block)
  home_set (Ok u) h = (home_lasts (Ok u) h).home
  home_set (Err f) h = tt

  pub home_refused : (a : Result (Unit {0}) HomeFault) → HomeLeaves m r0 r tr es a → IfErr a (λ f. own_word r.own (Home m.me.who) ≡ own_word r0.own (Home m.me.who))
  home_refused (Ok u) h = tt
  home_refused (Err f) h = (home_lasts (Err f) h).home

  pub home_reached : (a : Result (Unit {0}) HomeFault) → HomeLeaves m r0 r tr es a → IsIdle m.me.who r0 → AreRootsReached m.me.who r
  home_reached a h idle = roots_reached m.me.who r (home_rests m r0 r tr es a idle h).op
