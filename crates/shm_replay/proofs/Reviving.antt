-- the recovery of an identity whose last agent died, by a recoverer that begins
use Rattle.std.proofs.Common.{◌≡◌, ℕ, ◌^◌, ◌<◌, ◌≤◌, Bool, false, cond, refl, sym, ap, ◌∙◌, subst, arith, inr, List, Result}
use Rattle.std.specs.{Prelude.{Ok, Err}, Result.IsOk}
use Rattle.shm_graph.specs.declared.{ask.Me.Me, memo.{Kind.{Kind, TheVariants.{Client, Recoverer}}, Memo.Memo}}
use Rattle.shm_graph.specs.{declared.memo.Status.TheVariants.Gone, Agents.{acts, entered, last_agent, steps_made}}
use Rattle.shm_graph.specs.{Asks.Trail, Events.Event, Runs.{MayBegin, fell_by}, Whole.fits_now}
use Rattle.shm_graph.proofs.Memos.MemoSteps.{recovers-entered}
use Rattle.plans.specs.{CallsControl.{calls_control, calls_of}, CallsFit.CallsFits, Proved.CallsKeep.calls_begin}
use Rattle.plans.specs.Plans.{PlanLaws}
use Rattle.shm_count.specs.{declared.answer.EraSpent.EraSpent, Roots.member}
use Rattle.shm_ref.specs.Proved.DropRoots.Laws.{roots_laws}
use Rattle.shm_recover.specs.Proved.{FinishTakes.Laws.finish_laws, GiveUp.Laws.give_laws, Mend.Laws.mend_laws}
use Rattle.shm_recover.specs.Proved.{Recover.Laws.{recover_begin, recover_laws}, Scan.Laws.scan_laws}
use Rattle.shm_recover.specs.Proved.TakeBack.Laws.{back_laws}
use Rattle.shm_recover.specs.Recover.{Control.{recover_parts, recovering, recover_steered}, RecoverLeaves, recover_plan}
use Rattle.shm_plain.specs.{Pools.{IsRun, MayStep, Pool, memo_of, readied}, Tracks.kind_next}
use Rattle.shm_plain.proofs.Turning.{ready_memo}
use Rattle.shm_agents.proofs.Standing.{fell_quiet}
use Rattle.shm_replay.specs.Closings.{IsDead, IsOut, SameTable}
use Rattle.shm_replay.proofs.OwnEras.{never_spent}

pub laws : PlanLaws recover_parts recover_plan
laws = recover_laws mend_laws roots_laws back_laws finish_laws scan_laws give_laws

module _ (p : Pool) (c : ℕ) (run : IsRun p) (who : c < p.start.geometry.clients) (dead : IsDead (memo_of p c)) where
  abbrev m : Memo
  m = memo_of p c

  abbrev me : Me
  me = member p.start.geometry c

  -- a recoverer begins
  kind : kind_next m ≡ Recoverer
  kind = ap (λ (z : Bool). cond z Recoverer Client) dead.fell

  pub may_begin : MayStep p c
  may_begin e = subst (λ (k : Kind). MayBegin k m) (sym kind) dead.fell

  -- its memo
  abbrev pub r0 : Memo
  r0 = entered Recoverer m

  pub still : acts m ≡ false
  still = fell_quiet (last_agent m.agents) dead.fell

  begun : memo_of (readied p c) c ≡ r0
  begun =
      ready_memo p c (subst (λ (n : ℕ). c < n) (sym run.held.accounts) who)
      ∙ (ap (λ (z : Bool). cond z m (entered (kind_next m) m)) still ∙ ap (λ (k : Kind). entered k m) kind)

  -- the recovery fits it
  pub revive_fits : fits_now (calls_control recover_parts recover_steered) (CallsFits recover_parts recover_plan) (calls_of recover_steered (recovering me)) r0 (memo_of (readied p c) c)
  revive_fits =
      subst (λ (z : Memo). fits_now (calls_control recover_parts recover_steered) (CallsFits recover_parts recover_plan) (calls_of recover_steered (recovering me)) r0 z) (sym begun)
      (calls_begin recover_parts recover_plan laws (recovering me) r0 refl refl (recover_begin me r0 (record { geometry = run.held.at.fits; who = who; recoverer = recovers-entered Recoverer m })))

  -- ---- what it leaves

  module _ (q : Pool) (start : q.start ≡ p.start) (now : IsRun q) (era : p.start.first_era ≡ 1) (few : steps_made (memo_of q c) ≤ 2 ^ 43) (tr : Trail) (es : List Event) where
    abbrev r : Memo
    r = memo_of q c

    -- its own era has room
    pub revive_ok : (a : Result (Unit {0}) EraSpent) → RecoverLeaves (recovering me) r0 r tr es a → IsOk a
    revive_ok (Ok u) g = refl
    revive_ok (Err e) g = absurd (never_spent q c e.era now (subst (λ s. c < s.geometry.clients) (sym start) who) (ap (λ s. s.first_era) start ∙ era) few (let s = g.spent in omega arith) g.most)

    -- and the next client may begin
    pub revive_out : (u : Unit {0}) → RecoverLeaves (recovering me) r0 r tr es (Ok u) → (r.status ≡ Gone → (acts r ≡ false) × (fell_by (last_agent r.agents) ≡ false)) → steps_made r ≤ 2 ^ 42 → IsOut r
    revive_out u g gone most = let h = gone g.status in record { status = inr g.status; none = h.0; whole = h.1; few = most }

  pub revive_table : (r : Memo) (tr : Trail) (es : List Event) (u : Unit {0}) → RecoverLeaves (recovering me) r0 r tr es (Ok u) → SameTable m r
  revive_table r tr es u g = record { map = λ key. ap (λ f. f key) g.map; loose = g.loose }
