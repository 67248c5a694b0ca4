-- a tear-down as an operation: when it may begin between two calls: what is proved of it
use Rattle.std.proofs.Common.{ℕ, ◌+◌, ◌≤◌, ◌<◌, true, List, sym, ap, subst, arith}
use Rattle.std.specs.{Prelude.{Result, Ok, Err}, List.Contains}
use Rattle.shm_words.specs.Layout.{total_of}
use Rattle.shm_graph.specs.{declared.{ask.Me.Me, memo.Memo.Memo}, Asks.Trail, Events.Event, Idle.IsIdle}
use Rattle.shm_graph.specs.Operations.{IsHeld, IsReady, OperationLaws}
use Rattle.shm_count.specs.{declared.{answer.EraSpent.EraSpent, tear_point.TearState.TearState}, CountParts.IsTear}
use Rattle.shm_count.specs.Proved.{CountParts.{tear_left, tear_part_laws}, DyingBlocks.{dying_header, live_room}}
use Rattle.shm_count.specs.{Proved.{Idles.{is_here, stays_idle}, Tear.Tells.tear_tells}, Step.Control.IsInside}
use Rattle.shm_count.specs.Tear.{Control.tear_control, Events.tear_event, TearFits, TearGives, TearLeaves}
use Rattle.shm_count.specs.Operating.{TearMay, TearDownLeaves}

-- in a held state a zero-count block lies in the pool
dying_room : (me : Me) (b : ℕ) (r : Memo) → IsHeld me r → me.who < me.geometry.clients → Contains r.dying b → IsInside me b × (b + 2 ≤ total_of me.geometry)
dying_room me b r (w, rs, h, same) l dying =
    let listed : Contains (rs me.who).dying b = subst (λ (x : Memo). Contains x.dying b) (sym same) dying in
    let room = live_room me.geometry w rs h b me.who (dying_header me.geometry w rs me.who b h l listed).0 in
    (room.0, (let u = room.1 in omega arith))

may_tear : (m : TearState) (r : Memo) → IsReady m.me r → TearMay m r → IsTear m r
may_tear m r ready (made, dying) =
    let room = dying_room m.me m.first r ready.held ready.who dying in
    record {
      made = made;
      can = record {
        geometry = ready.geometry;
        who = ready.who;
        here = is_here m.me.who r ready.idle;
        idle = ready.idle.op;
        inside = room.0;
        room = room.1;
        dying = dying;
      };
    }

tear_rests : (me : Me) (b : ℕ) (r0 r : Memo) (es : List Event) (tr : Trail) (a : Result (Unit {0}) EraSpent) → IsIdle me.who r0 → TearLeaves me b r0 r es tr a → IsIdle me.who r
tear_rests me b r0 r es tr (Ok done) idle h = stays_idle me.who r0 r h.stays idle
tear_rests me b r0 r es tr (Err e) idle h = stays_idle me.who r0 r h.1.stays idle

pub tear_operation : OperationLaws tear_control TearFits TearGives TearMay tear_event TearDownLeaves (λ m a. Unit {0})
tear_operation =
    record {
      tells = tear_tells;
      fresh = λ m r h. ap (λ (x : TearState). tear_control.fresh x) h.0;
      asks = λ m r h. ap (λ (x : TearState). tear_control.finished x) h.0;
      begins = λ m r ready h. (tear_part_laws true).begins m r (may_tear m r ready h);
      leads = λ m r0 r tr a ready h g. tear_left m r0 r tr a h.0 g;
      rests = λ m r0 r tr es a ready h l e. tear_rests m.me m.first r0 r es tr a ready.idle l;
    }
