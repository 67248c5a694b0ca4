-- the calls of a closing: 2^34 word steps are enough for each, in format 2 2^38, since nobody else steps
use Rattle.std.proofs.Common.{◌≡◌, ℕ, ◌+◌, ◌<◌, ◌≤◌, ◌^◌, Bool, true, length, refl, arith}
use Rattle.shm_words.specs.Layout.{GeometryFits}
use Rattle.shm_graph.specs.{declared.{ask.Me.Me, memo.Memo.Memo}, Asks.Trail, Laws.Control, Whole.fits_now}
use Rattle.plans.specs.{CallsControl.{calls_control, calls_of}, CallsFit.CallsFits}
use Rattle.shm_plain.specs.{Calls.{Ran, TookSteps}, Pools.{IsOf, IsRun, MayStep, Pool, memo_of, readied}}
use Rattle.shm_queue.specs.Drain.{Control.{drain_parts, draining, drain_steered}, drain_plan}
use Rattle.shm_queue.specs.Proved.{Drain.Laws.drain_laws, Take.Laws.take_laws}
use Rattle.shm_recover.specs.Join.{JoinFits, JoinGives, join_control, join_fresh, AsPart.join_does}
use Rattle.shm_recover.specs.Proved.{Join.Keeps.join_laws, Leave.Laws.leave_laws}
use Rattle.shm_recover.specs.Leave.{Control.{leave_parts, leaving, leave_steered}, leave_plan}
use Rattle.shm_recover.specs.Recover.{Control.{recover_parts, recovering, recover_steered}, recover_plan}
use Rattle.shm_recover.proofs.JoinPart.{join_tells}
use Rattle.shm_alone.specs.{GiveEnds.none_over, JoinEnds.{join_alone, join_left}, Proved.JoinEnds.join_ends}
use Rattle.shm_alone.specs.Proved.{LeaveEnds.{leave_few, leave_ends}, QueuesEnd.{drain_ends, drain_begin, drain_ready}}
use Rattle.shm_alone.specs.{Proved.RecoverEnds.{recover_few, recover_ends}, LeaveEnds.{leave_alone, leave_left}}
use Rattle.shm_alone.specs.{QueuesEnd.{drain_alone, drain_left, drain_saved}, RecoverEnds.{recover_alone, recover_left}}
use Rattle.shm_alone.proofs.Lasting.{Lasts, alone_few, answers_alone, calls_last, lasts, left_few}
use Rattle.shm_agents.proofs.WorkLaws.{recoveries}

-- a join, which is one word step
pub join_lasts : (me : Me) → Lasts join_control JoinFits (join_fresh me)
join_lasts me = lasts join_control JoinFits JoinGives join_laws join_does join_tells join_alone join_left none_over join_ends (join_fresh me) (λ w. tt) (λ f. left_few me.geometry.wide (join_left (join_fresh me)) (omega arith)) refl

-- a drain
pub drain_lasts : (me : Me) → Lasts (calls_control drain_parts drain_steered) (CallsFits drain_parts drain_plan) (calls_of drain_steered (draining me))
drain_lasts me = calls_last drain_parts drain_plan (drain_laws take_laws) drain_alone drain_left drain_saved drain_ends (draining me) (drain_ready me) (λ f. left_few me.geometry.wide (drain_left (calls_of drain_steered (draining me))) (small f)) refl
  where
    small : GeometryFits me.geometry → drain_left (calls_of drain_steered (draining me)) ≤ 2 ^ 30
    small f = let clients = f.clients in let e = drain_begin me in omega arith

-- a leaving
pub leave_lasts : (me : Me) → Lasts (calls_control leave_parts leave_steered) (CallsFits leave_parts leave_plan) (calls_of leave_steered (leaving me))
leave_lasts me = calls_last leave_parts leave_plan leave_laws leave_alone leave_left none_over leave_ends (leaving me) (λ w. (((tt, tt), tt), tt)) (λ f. left_few me.geometry.wide (leave_left (calls_of leave_steered (leaving me))) (leave_few me f)) refl

-- a recovery
pub recover_lasts : (me : Me) → Lasts (calls_control recover_parts recover_steered) (CallsFits recover_parts recover_plan) (calls_of recover_steered (recovering me))
recover_lasts me = calls_last recover_parts recover_plan recoveries recover_alone recover_left none_over recover_ends (recovering me) (λ w. ((tt, tt), tt)) (recover_few me) refl

-- a call that nobody else steps beside has answered, and at most 2^38 word steps of its life went
pub answers_in_time : {S A : Type 0} (k : Control S A) (fits : S → Memo → Memo → Trail → Type 0) (m : S) → Lasts k fits m → (c : ℕ) (p q : Pool) (r0 : Memo) (answered : Bool) (x y : ℕ) → IsRun p → MayStep p c → IsOf p c k m → fits_now k fits m r0 (memo_of (readied p c) c) → k.fresh m ≡ true
    → Ran c (k.fresh m) answered p q x y → (0 < x → TookSteps k c p m q) → (0 < x → k.fresh m ≡ true → y + length (memo_of q c).call ≡ x) → 2 ^ 38 < x
    → (answered ≡ true) × (x ≤ y + 2 ^ 38)
answers_in_time k fits m enough c p q r0 answered x y before may of fit fresh ran took spent long =
    let few = alone_few p.start.geometry.wide in
    let z = answers_alone k fits m enough c p q r0 answered x y before may of fit fresh ran took spent (omega arith) in
    (z.0, (let last = z.1 in omega arith))
