use Rattle.std.proofs.Common.{◌≡◌, ℕ, refl, ap, List, Result}
use Rattle.std.specs.{Prelude.{Ok, Err, IfOk, slice_index}, List.filter}
use Rattle.shm_graph.specs.{declared.{ask.Me.Me, memo.Memo.Memo, spot.Spot.TheVariants.Root}, Asks.Trail, Events.Event}
use Rattle.shm_graph.specs.{Held.is_loose, MemoAfterStore.not_block}
use Rattle.shm_count.specs.{declared.answer.EraSpent.EraSpent, Proved.Idles.stays_idle}
use Rattle.shm_count.specs.{Operating.{TearDownLeaves, tearing}, Tear.Memos.TearStays}
use Rattle.shm_count.proofs.RootSpots.{roots_reached}
use Rattle.shm_count.proofs.lasting.tear_keeps.Goals as goal

stays : (me : Me) (b : ℕ) (r0 r : Memo) (tr : Trail) (es : List Event) (a : Result (Unit {0}) EraSpent) → TearDownLeaves (tearing me b) r0 r tr es a → TearStays me.who r0 r
stays me b r0 r tr es (Ok u) h = h.stays
stays me b r0 r tr es (Err e) h = h.1.stays

freed : (me : Me) (b : ℕ) (r0 r : Memo) (tr : Trail) (es : List Event) (a : Result (Unit {0}) EraSpent) → TearDownLeaves (tearing me b) r0 r tr es a → IfOk a (λ u. r.dying ≡ filter (not_block b) r0.dying)
freed me b r0 r tr es (Ok u) h = h.others
freed me b r0 r tr es (Err e) h = tt

pub returns-clause-freed : goal.returns-clause-freed
returns-clause-freed c me b r0 r tr es a h = freed me b r0 r tr es a h

pub returns-clause-roots : goal.returns-clause-roots
returns-clause-roots c me b r0 r tr es a h k = (stays me b r0 r tr es a h).own (Root me.who k) refl

pub returns-clause-left : goal.returns-clause-left
returns-clause-left c me b r0 r tr es a h =
    let s = stays me b r0 r tr es a h in
    record {
      latch = ap (λ (x : Memo). x.latch) s.rest;
      unsent = λ j. ap (λ (x : Memo). slice_index x.unsent j) s.rest;
      untaken = λ j. ap (λ (x : Memo). slice_index x.untaken j) s.rest;
      loose = ap (λ (x : Memo). is_loose x.part) s.rest;
    }

pub returns-clause-reached : goal.returns-clause-reached
returns-clause-reached c me b r0 r tr es a h idle = roots_reached me.who r (stays_idle me.who r0 r (stays me b r0 r tr es a h) idle).op
