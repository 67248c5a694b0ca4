-- what a join, a drain and a leaving leave of an identity that visits a pool
use Rattle.std.proofs.Common.{add-zero, zero, suc, ◌≡◌, ℕ, ◌+◌, ◌-◌, ◌^◌, ◌<◌, ◌≤◌, Bool, true, false, cond, [], refl, sym, ap, ◌∙◌, subst, arith, inl, inr, List, Result}
use Rattle.std.specs.{Prelude.{Ok, Err, None, slice_index}, Result.IsOk}
use Rattle.shm_graph.specs.declared.{ask.Me.Me, memo.{Kind.Kind, Memo.Memo}, spot.Spot.TheVariants.{Era, Hold}}
use Rattle.shm_graph.specs.{Agents.{acts, entered, steps_made}, Asks.Trail, Events.Event, Idle.hold_word}
use Rattle.shm_graph.specs.Views.{own_word}
use Rattle.plans.specs.{CallsControl.calls_of, CallsFit.CallsFits, Proved.CallsKeep.calls_begin}
use Rattle.shm_count.specs.{declared.answer.EraSpent.EraSpent, Roots.member}
use Rattle.shm_count.proofs.RootSpots.{is_here}
use Rattle.shm_queue.specs.Drain.{Control.{drain_parts, draining, drain_steered}, DrainLeaves, drain_plan}
use Rattle.shm_queue.specs.Proved.{Drain.Laws.drain_laws, Take.Laws.take_laws}
use Rattle.shm_recover.specs.{Join.{JoinFits, JoinGives, join_fresh}, Proved.Join.Keeps.join_begins}
use Rattle.shm_recover.specs.Proved.Leave.{Gone.idle_may_leave, Laws.leave_laws}
use Rattle.shm_recover.specs.Leave.{Control.{leave_parts, leaving, leave_steered}, LeaveLeaves, leave_plan}
use Rattle.shm_plain.specs.{Pools.{IsRun, Pool, memo_of, readied}, Tracks.kind_next}
use Rattle.shm_plain.proofs.Turning.{ready_memo}
use Rattle.shm_replay.specs.Closings.{AreVisits, IsIn, IsOut, IsVisit}
use Rattle.shm_replay.proofs.OwnEras.{never_spent}

-- ---- a join

module _ (p : Pool) (c : ℕ) (run : IsRun p) (l : c < p.start.geometry.clients) (out : IsOut (memo_of p c)) where
  abbrev m : Memo
  m = memo_of p c

  abbrev me : Me
  me = member p.start.geometry c

  -- the memo of the client that has begun, in the parts that a beginning leaves
  begun : {T : Type 0} (f : Memo → T) → ((k : Kind) → f (entered k m) ≡ f m) → f (memo_of (readied p c) c) ≡ f m
  begun f same = ap f (ready_memo p c (subst (λ (n : ℕ). c < n) (sym run.held.accounts) l)) ∙ go (acts m)
    where
      go : (b : Bool) → f (cond b m (entered (kind_next m) m)) ≡ f m
      go true = refl
      go false = same (kind_next m)

  pub join_fits : let r = memo_of (readied p c) c in JoinFits (join_fresh me) r r []
  join_fits =
      let same : (memo_of (readied p c) c).status ≡ m.status = begun (λ (x : Memo). x.status) (λ k. refl) in
      join_begins me (memo_of (readied p c) c) (record {
        member = record { geometry = run.held.at.fits; who = l };
        status = elim out.status [ inl e ↦ inl (same ∙ e) | inr e ↦ inr (same ∙ e) ];
      })

  -- it holds no latch, has no zero-count block, and nothing waits
  latch_none : m.latch ≡ None
  latch_none = elim out.status [ inl e ↦ (run.held.at.fresh c l e).latched | inr e ↦ (run.held.at.gone c l e).latched ]

  dying_none : m.dying ≡ []
  dying_none = elim out.status [ inl e ↦ (run.held.at.fresh c l e).dyings | inr e ↦ (run.held.at.gone c l e).dyings ]

  unsent_none : (i : ℕ) → slice_index m.unsent i ≡ 0
  unsent_none i = elim out.status [ inl e ↦ (run.held.at.fresh c l e).sends i | inr e ↦ (run.held.at.gone c l e).sends i ]

  untaken_none : (i : ℕ) → slice_index m.untaken i ≡ 0
  untaken_none i = elim out.status [ inl e ↦ (run.held.at.fresh c l e).takes i | inr e ↦ (run.held.at.gone c l e).takes i ]

  module _ (r : Memo) (tr : Trail) (gives : JoinGives (join_fresh me) (memo_of (readied p c) c) r tr tt) where
    pub join_in : acts r ≡ true → IsIn c r
    join_in acting =
        record {
          idle = gives.idle;
          acts = acting;
          latch = ap (λ (x : Memo). x.latch) gives.rest ∙ (begun (λ (x : Memo). x.latch) (λ k. refl) ∙ latch_none);
          dying = ap (λ (x : Memo). x.dying) gives.rest ∙ (begun (λ (x : Memo). x.dying) (λ k. refl) ∙ dying_none);
          unsent = λ i. ap (λ (x : Memo). slice_index x.unsent i) gives.rest ∙ (begun (λ (x : Memo). slice_index x.unsent i) (λ k. refl) ∙ unsent_none i);
          untaken = λ i. ap (λ (x : Memo). slice_index x.untaken i) gives.rest ∙ (begun (λ (x : Memo). slice_index x.untaken i) (λ k. refl) ∙ untaken_none i);
        }

    pub join_part : r.part ≡ m.part
    join_part = ap (λ (x : Memo). x.part) gives.rest ∙ begun (λ (x : Memo). x.part) (λ k. refl)

-- ---- a drain

module _ (p : Pool) (c : ℕ) (run : IsRun p) (l : c < p.start.geometry.clients) (h : IsIn c (memo_of p c)) where
  abbrev here : Memo
  here = memo_of p c

  abbrev who : Me
  who = member p.start.geometry c

  pub drain_fits : CallsFits drain_parts drain_plan (calls_of drain_steered (draining who)) here here []
  drain_fits =
      calls_begin drain_parts drain_plan (drain_laws take_laws) (draining who) here refl refl
      (record { geometry = run.held.at.fits; who = l; here = is_here c here h.idle; idle = h.idle.op; none = h.untaken }, refl, refl, refl, refl)

  pub leave_fits : CallsFits leave_parts leave_plan (calls_of leave_steered (leaving who)) here here []
  leave_fits =
      calls_begin leave_parts leave_plan leave_laws (leaving who) here refl refl
      (idle_may_leave who here (record { geometry = run.held.at.fits; who = l }) h.idle h.latch h.dying h.unsent h.untaken, refl, refl, refl, refl)

  module _ (q : Pool) (start : q.start ≡ p.start) (now : IsRun q) (era : p.start.first_era ≡ 1) (few : steps_made (memo_of q c) ≤ 2 ^ 43) (tr : Trail) (es : List Event) where
    abbrev r : Memo
    r = memo_of q c

    never : (e : ℕ) → 2 ^ 47 - 3 < e → e ≤ own_word r.own (Era c c) → ⊥
    never e spent most = never_spent q c e now (subst (λ s. c < s.geometry.clients) (sym start) l) (ap (λ s. s.first_era) start ∙ era) few (omega arith) most

    pub drain_ok : (a : Result ℕ EraSpent) → DrainLeaves (draining who) here r tr es a → IsOk a
    drain_ok (Ok n) g = refl
    drain_ok (Err e) g = absurd (elim g.refused [
      | inl n ↦ never e.era g.spent (let x = n.0.spent in let y = n.0.untouched.rows c in omega arith)
      | inr t ↦ never e.era g.spent t.0.most
    ])

    pub drain_in : (n : ℕ) → DrainLeaves (draining who) here r tr es (Ok n) → acts r ≡ true → IsIn c r
    drain_in n g acting =
        let d = g.drained in
        record {
          idle = record {
            live = ap (λ (x : Memo). x.status) d.rest ∙ h.idle.live;
            op = d.op;
            making = ap (λ (x : Memo). x.making) d.rest ∙ h.idle.making;
            hold = d.own (Hold c) refl (λ s. refl) ∙ (h.idle.hold ∙ ap (λ (x : Memo). hold_word x.latch) (sym d.rest));
          };
          acts = acting;
          latch = ap (λ (x : Memo). x.latch) d.rest ∙ h.latch;
          dying = d.dying ∙ h.dying;
          unsent = λ i. ap (λ (x : Memo). slice_index x.unsent i) d.rest ∙ h.unsent i;
          untaken = λ i. d.untaken i ∙ h.untaken i;
        }

    pub drain_part : (n : ℕ) → DrainLeaves (draining who) here r tr es (Ok n) → r.part ≡ here.part
    drain_part n g = ap (λ (x : Memo). x.part) g.drained.rest

    -- ---- a leaving

    pub leave_ok : (a : Result (Unit {0}) EraSpent) → LeaveLeaves (leaving who) here r tr es a → IsOk a
    leave_ok (Ok u) g = refl
    leave_ok (Err e) g = absurd (never e.era g.1.stopped.spent g.1.most)

-- ---- one visit after the other

-- one more visit at the end
pub visits_more : (c n : ℕ) (p q r : Pool) → AreVisits c n p q → IsVisit (c + n) q r → AreVisits c (suc n) p r
visits_more c zero p q r h v = (r, subst (λ (x : Pool). IsVisit c x r) h (subst (λ (k : ℕ). IsVisit k q r) (add-zero c) v), refl)
visits_more c (suc n) p q r h v = (h.0, h.1, visits_more (suc c) n h.0 q r h.2 (let e : c + suc n ≡ suc c + n = omega arith in subst (λ (k : ℕ). IsVisit k q r) e v))
