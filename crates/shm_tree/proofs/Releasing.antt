-- What calls leave behind which the latch is given back.
use Rattle.shm_tree.specs.{declared.{hints.Hints.Hints, stop.Stop.Stop}, Building.{Builds, IsCut}}
use Rattle.shm_tree.specs.{Costing.{Costs, Spends}, Forests.{CallLeaves, KeepsNamed, block_in}, Keeping.HasMade}
use Rattle.shm_tree.specs.{Living.KeepsLives, Releasing.{IsGivenBack, IsHeldBack, Releases}}
use Rattle.shm_tree.specs.{Spending.{DiesAfter, HasDied, HasSpent}, Standing.TreeStands, Trees.Tree}
use Rattle.shm_tree.specs.Working.{DiedIn, IfAlive, IfRefused, IsSameLatch, IsUnderWay, IsWorking, Went}
use Rattle.shm_tree.specs.declared.stop.Stop.TheVariants as stop
use Rattle.shm_tree.proofs.{Answering.alive_died, Building.{Looked, alive_any, alive_kept, alive_refused, went_on}}
use Rattle.shm_tree.proofs.CutShort.{cut_under}
use Rattle.shm_tree.proofs.Forests.{Quiet, calls_died, cut_still, named_still, named_then, quiet, quiet_then, root_still, stopped_after, stopped_here, stopped_on}
use Rattle.shm_tree.proofs.{Moving.{alive_is, is_over_not, refused_is, refused_when}, Lasts.{last_more, last_then}}
use Rattle.shm_tree.proofs.{Refusals.{spends_more, spends_still, spends_then}, Resting.{rests_still, rests_then}}
use Rattle.shm_tree.proofs.Spendings.{spent_call, spent_then}
use Rattle.std.proofs.Common.{◌≡◌, ◌≢◌, ℕ, ◌+◌, ◌<◌, ◌≤◌, refl, sym, ap, ◌∙◌, subst, arith, inl, inr, Result, Ok, Err}
use Rattle.std.specs.{Prelude.{IfErr, IfOk, None, Some}, Result.IsErrAnd}
use Rattle.shm_words.specs.declared.geometry.Geometry.{Geometry}
use Rattle.shm_plain.specs.Pools.{Pool, memo_of}

-- ---- how it is taken

-- the latch was taken, and the block b read that the root k names
pub record Entered (k b : ℕ) (p q : Pool) (x y : ℕ) : Type 0 where
  pub quiet : Quiet p q x y
  pub held : (memo_of q 0).latch ≡ Some 0
  pub named : b ≡ block_in p k
  pub few : x ≤ y + 3

pub entered : (k b : ℕ) {p m q : Pool} {x y z : ℕ} → IsWorking p → Quiet p m x y → (memo_of m 0).latch ≡ Some 0 → x ≡ y + 2 → Looked m q y z → b ≡ block_in m k → y ≤ z + 1 → Entered k b p q x z
entered k b wp a held two l named one = record { quiet = quiet_then wp a (quiet l.went l.working l.still); held = l.latch ∙ held; named = named ∙ (root_still k a.still).same; few = omega (arith, two, one) }

pub entered_stands : {k b : ℕ} {p q : Pool} {x y : ℕ} → Entered k b p q x y → (t : Tree) → TreeStands p (block_in p k) t → TreeStands q b t
entered_stands {k = k} {p = p} {q = q} n t st = subst (λ (d : ℕ). TreeStands q d t) (sym n.named) (n.quiet.still.trees (block_in p k) t st)

-- ---- how it is given back

-- too few word steps were left for that, as it is handed on
pub releases_held : {T : Type 0} {a : Result T Stop} {p q : Pool} {x y : ℕ} {e : Stop} (o : Result T Stop) → IsErrAnd o (λ v. v ≡ e) → e ≡ stop.Died → a ≢ Err stop.Died → IsHeldBack p q x y → Releases a o p q x y
releases_held (Ok v) is d alive h = absurd is
releases_held {T = T} (Err v) is d alive h = record { given = alive_died T _ v (is ∙ d); died = λ z. inl (alive, h) }

-- a call that was done or refused had ended
pub ended_ok : {T : Type 0} {v : T} (a : Result T Stop) → a ≡ Ok v → a ≢ Err stop.Died
ended_ok (Ok w) is d = absurd cc
ended_ok (Err e) is d = absurd cc

abbrev stop_of : {T : Type 0} → Result T Stop → Stop
stop_of (Ok v) = stop.Died
stop_of (Err e) = e

pub ended_err : {T : Type 0} {e : Stop} (a : Result T Stop) → a ≡ Err e → e ≢ stop.Died → a ≢ Err stop.Died
ended_err a is alive d = alive (ap stop_of (sym is ∙ d))

-- the latch is held still behind a call that ended
pub held_on : {hints : Hints} {T : Type 0} {n i : ℕ} {q r : Pool} {y z : ℕ} (a : Result T Stop) → (memo_of q 0).latch ≡ Some 0 → Builds hints n i a q r y z → IfAlive a ((memo_of r 0).latch ≡ Some 0)
held_on {q = q} {r = r} a held b = alive_kept {P = IsSameLatch q r} {Q = (memo_of r 0).latch ≡ Some 0} a (λ same. same ∙ held) b.latch

-- ---- by what was answered

pub released_ok : {T : Type 0} (F : Result T Stop → Type 0) {Q : T → Type 0} {a : Result T Stop} {r s : Pool} {z w : ℕ} (o : Result T Stop) → Releases a o r s z w → F a → ((v : T) → F (Ok v) → IsGivenBack r s z w → Q v) → IfOk o Q
released_ok F (Ok v) rel f k = k v (subst F (sym rel.given.1) f) rel.given.0
released_ok F (Err e) rel f k = tt

pub released_refused : {T : Type 0} (F : Result T Stop → Type 0) {Q : Type 0} {a : Result T Stop} {r s : Pool} {z w : ℕ} (o : Result T Stop) → Releases a o r s z w → F a → ((e : Stop) → e ≢ stop.Died → F (Err e) → IsGivenBack r s z w → Q) → IfRefused o Q
released_refused F (Ok v) rel f k = tt
released_refused {T = T} F (Err e) rel f k = refused_when T e (λ alive. let g = alive_is T e alive rel.given in k e alive (subst F (sym g.1) f) g.0)

-- ---- a tree was to be built under the latch, between calls that read

module _ {hints : Hints} {T : Type 0} {n i k d : ℕ} {p q r s : Pool} {x y z w : ℕ} (a : Result T Stop) (wp : IsWorking p) (l : Entered k d p q x y) (b : Builds hints n i a q r y z) where
  -- no word step was left, for that or to give the latch back
  over : (e : Stop) → Releases a (Err e) r s z w → e ≡ stop.Died → Went p s x w × (w ≡ 0) × IsUnderWay s
  over e rel d =
      let went = went_on wp.run l.quiet.went b.went in
      elim (rel.died d) [
        | inl h ↦ (went_on wp.run went h.1.went, h.1.over, h.1.off)
        | inr h ↦
            (let dead = (subst (λ (u : Result T Stop). IfErr u (λ v. DiedIn v q r z)) (sym h.0) b.died) d in
            (subst (λ (t : Pool). Went p t x w) (sym h.1) (subst (λ (m : ℕ). Went p r x m) (sym h.2) went), h.2 ∙ dead.0, subst IsUnderWay (sym h.1) (cut_under q r l.held dead.1)))
      ]

  pub released_off : (o : Result T Stop) → Releases a o r s z w → IfErr o (λ e. e ≡ stop.Died → 0 < x → IsUnderWay s)
  released_off (Ok v) rel = tt
  released_off (Err e) rel = λ d some. (over e rel d).2

  module _ (lp : (memo_of p 0).latch ≡ None) (kept : IfOk a (λ v. KeepsNamed q r)) where
    -- the call was refused, and the latch is given back
    stopped : (e : Stop) → e ≢ stop.Died → IsGivenBack r s z w × (Err e ≡ a) → CallLeaves {T = T} hints KeepsNamed (Err e) p s x w
    stopped e alive g =
        let c = g.0 in
        let h : Builds {T = T} hints n i (Err e) q r y z = subst (λ (u : Result T Stop). Builds hints n i u q r y z) (sym g.1) b in
        let went = went_on wp.run l.quiet.went b.went in
        record {
          went = went_on wp.run went c.went;
          working = alive_any {T = T} (Err e) c.working;
          latch = alive_any {T = T} (Err e) (c.latch ∙ sym lp);
          kept = alive_refused T T (IsCut n q r) (KeepsNamed p s) e (λ u. cut_still l.quiet.still u c.still) h.refused;
          cause = stopped_on e (stopped_after e wp.run l.quiet.went (stopped_here e h.went.run h.went.start h.cause)) went.run went.start c.went.did;
          died = λ d. absurd (alive d);
        }

    pub released_calls : (o : Result T Stop) → Releases a o r s z w → CallLeaves hints KeepsNamed o p s x w
    released_calls (Ok v) rel =
        let c = rel.given.0 in
        record {
          went = went_on wp.run (went_on wp.run l.quiet.went b.went) c.went;
          working = c.working;
          latch = c.latch ∙ sym lp;
          kept = named_then (named_still l.quiet.still) (named_then (subst (λ (u : Result T Stop). IfOk u (λ v. KeepsNamed q r)) (sym rel.given.1) kept) (named_still c.still));
          cause = tt;
          died = tt;
        }
    released_calls (Err stop.Died) rel = let h = over stop.Died rel refl in calls_died stop.Died h.0 (refl, h.1)
    released_calls (Err (stop.Full k d)) rel = stopped (stop.Full k d) (is_over_not (stop.Full k d) refl) rel.given
    released_calls (Err (stop.CountFull d k)) rel = stopped (stop.CountFull d k) (is_over_not (stop.CountFull d k) refl) rel.given
    released_calls (Err (stop.EraSpent k)) rel = stopped (stop.EraSpent k) (is_over_not (stop.EraSpent k) refl) rel.given

-- ---- what it spent

module _ {n k d : ℕ} {p q r s : Pool} {x y z w : ℕ} (b : Geometry → ℕ) (wp : IsWorking p) (l : Entered k d p q x y) (c : IsGivenBack r s z w) where
  spends : Went q r y z → HasMade n q r → HasSpent (b q.start.geometry) q r y z → Spends n (b p.start.geometry + 6) p s x w
  spends v made spent =
      let last = c.steps in
      let mid : Spends n (b q.start.geometry) q r y z = record { made = made; spent = spent } in
      let first : Spends (0 + n) (3 + b p.start.geometry) p r x z = spends_then b wp l.quiet.went v (spends_still 3 l.quiet.went l.quiet.still l.few) mid in
      let all : Spends ((0 + n) + 0) ((3 + b p.start.geometry) + 3) p s x w = spends_then (λ (g : Geometry). 3) wp (went_on wp.run l.quiet.went v) c.went first (spends_still 3 c.went c.still (omega (arith, last))) in
      spends_more n (b p.start.geometry + 6) (omega arith) (omega arith) all

  pub released_spends : {hints : Hints} {T : Type 0} (e : Stop) → e ≢ stop.Died → Builds {T = T} hints n (b q.start.geometry) (Err e) q r y z → Spends n (b p.start.geometry + 6) p s x w
  released_spends {T = T} e alive h = spends h.went (refused_is T e alive h.refused).made (alive_is T e alive h.spent)

  pub released_costs : {hints : Hints} {T : Type 0} {v : T} → Builds {T = T} hints n (b q.start.geometry) (Ok v) q r y z → HasMade n q r → KeepsLives q r → Costs n (b p.start.geometry + 6) p s x w
  released_costs h made rests =
      let all = spends h.went made h.spent in
      record { made = all.made; spent = all.spent; rests = rests_then p r s h.working c.working c.went (rests_then p q r l.quiet.working h.working h.went (rests_still l.quiet.still) rests) (rests_still c.still) }

-- ---- how much it had spent

-- what is so of a call that ended
ended : {T : Type 0} {P : Type 0} (a : Result T Stop) → a ≢ Err stop.Died → IfAlive a P → P
ended (Ok v) alive h = h
ended {T = T} (Err e) alive h = alive_is T e (λ d. alive (ap Err d)) h

-- where it stopped for want of a word step, or there was none to give the latch back
pub released_late : {hints : Hints} {T : Type 0} {n k d : ℕ} {p q r s : Pool} {x y z w : ℕ} (b : Geometry → ℕ) (a : Result T Stop) → IsWorking p → Entered k d p q x y → Builds hints n (b q.start.geometry) a q r y z → (o : Result T Stop) → Releases a o r s z w → DiesAfter (b p.start.geometry + 6) o p s x
released_late b a wp l h (Ok v) rel = tt
released_late {hints = hints} {T = T} {n = n} {p = p} {q = q} {r = r} {s = s} {x = x} {y = y} {z = z} b a wp l h (Err e) rel =
    λ died. elim (rel.died died) [
      | inl back ↦ last_more (b p.start.geometry + 6) (omega arith) (last_then (λ g. 0) wp (went_on wp.run l.quiet.went h.went) (spent_then b wp l.quiet.went h.went first (ended a back.0 h.spent)) back.1.late)
      | inr same ↦
          (let over : Builds {T = T} hints n (b q.start.geometry) (Err e) q r y z = subst (λ (u : Result T Stop). Builds hints n (b q.start.geometry) u q r y z) (sym same.0) h in
          subst (λ (t : Pool). HasDied (b p.start.geometry + 6) p t x) (sym same.1) (last_more (b p.start.geometry + 6) (omega arith) (last_then b wp l.quiet.went first (over.late died))))
    ]
  where
    first : HasSpent 3 p q x y
    first = spent_call 3 l.quiet.went l.few
