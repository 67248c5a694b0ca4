-- a client that may leave may leave after a call, and one that has joined is between two calls
use Rattle.std.proofs.Common.{◌≡◌, ℕ, true, List, ap, ◌∙◌, subst, Result}
use Rattle.std.specs.Prelude.{slice_index}
use Rattle.shm_graph.specs.{declared.{ask.Me.Me, memo.Memo.Memo}, Asks.Trail, Events.Event, Idle.IsIdle}
use Rattle.shm_alloc.specs.declared.{alloc.AllocFault.AllocFault, point.AllocState.AllocState}
use Rattle.shm_alloc.specs.Alloc.AsPart.{AllocLeaves}
use Rattle.shm_count.specs.declared.answer.Made.{Made}
use Rattle.shm_recover.specs.{Join.{JoinGives, join_fresh}, Leave.MayLeave, Proved.Leave.Gone.idle_may_leave}
use Rattle.shm_pool.specs.{Called.Rests, Tokens.Acting}
use Rattle.shm_pool.proofs.Calling.{live_here}

-- after an allocation
pub alloc_may_leave : (me : Me) (m : AllocState) (r0 r : Memo) (tr : Trail) (es : List Event) (a : Result Made AllocFault) → MayLeave me r0 → m.me ≡ me → AllocLeaves m r0 r tr es a → MayLeave me r
alloc_may_leave me m r0 r tr es a may e h =
    let stays = h.holds.stays in
    idle_may_leave me r (record { geometry = may.may.geometry; who = may.may.who }) (subst (λ (x : Me). IsIdle x.who r) e h.holds.idle) (stays.latch ∙ may.latch) (stays.dying ∙ may.dying)
    (λ i. ap (λ (xs : List ℕ). slice_index xs i) stays.unsent ∙ may.sends i)
    (λ i. ap (λ (xs : List ℕ). slice_index xs i) stays.untaken ∙ may.takes i)

-- a client that has joined is between two calls
pub rests_joined : (me : Me) (m0 : Memo) (t : Acting) (tr : Trail) → me.who ≡ t.account.who → JoinGives (join_fresh me) m0 t.account.memo tr tt → t.account.memo.over ≡ true → Rests t
rests_joined me m0 t tr same gives over =
    let idle : IsIdle t.account.who t.account.memo = subst (λ (n : ℕ). IsIdle n t.account.memo) same gives.idle in
    record { between = λ d. record { idle = idle; over = over }; here = λ d. live_here t.account.memo idle.live }
