-- a receive into a table: when the item may be fetched and taken, and what is left of it
use Rattle.std.proofs.Common.{◌≡◌, ℕ, ◌+◌, ◌<◌, refl, sym, ap, ◌∙◌, List, Option, Some, None, inl, inr}
use Rattle.std.proofs.lemmas.Bool.{cases_eq, cond-false, cond-true, eq-eqb, ne_eqb}
use Rattle.std.specs.Prelude.{slice_index}
use Rattle.shm_graph.specs.{declared.{ask.Me.Me, memo.Memo.Memo}, Events.Event, Idle.IsIdle}
use Rattle.shm_graph.specs.{MemoAfterStore.{lane_with, put as put_item}, Views.own_word}
use Rattle.shm_graph.specs.declared.spot.Spot.TheVariants as spot
use Rattle.shm_graph.proofs.Spots.Spotting.{same_spot_self}
use Rattle.kind_parts.proofs.Items.{put_at}
use Rattle.shm_queue.specs.Proved.QueueSteps.{put_here}
use Rattle.shm_table.specs.{declared.answer.PutFault.PutFault, FetchHead.MayFetchHead}
use Rattle.shm_table.specs.{RecvKey.{IsPassed, IsWaiting, ItemSo, ItemTaken, MayRecv}, TakeHead.MayTakeHead}
use Rattle.shm_table.specs.Proved.ValuesListed.{idle_here}

-- ---- the item

-- an identity that goes on is between two calls
pub item_idle : (me : Me) (s n b : ℕ) (r0 r : Memo) (es : List Event) (f : Option PutFault) → ItemSo me s n b r0 r es f → IsIdle me.who r
item_idle me s n b r0 r es None (inl h) = h.keeps.idle
item_idle me s n b r0 r es None (inr h) = h.0.idle
item_idle me s n b r0 r es (Some f) h = h.idle

-- what was received, the head and what waits, once the item is
pub item_taken : (me : Me) (s n b : ℕ) (r0 r : Memo) (es : List Event) → n ≡ own_word r0.own (spot.QueueHead s me.who) → slice_index r0.untaken s ≡ 0 → IsPassed me s n b r0 r es → ItemTaken me s n b r0 r es
item_taken me s n b r0 r es place none h =
    record {
      passed = h;
      received = h.keeps.received ∙ ap (λ d. lane_with r0.received s d) (put_here r0.untaken s b);
      head = (h.keeps.own (spot.QueueHead s me.who) refl refl ∙ cond-true _ _ _ (same_spot_self (spot.QueueHead s me.who))) ∙ ap (λ y. y + 1) (sym place);
      untaken = λ j.
          ap (λ (us : List ℕ). slice_index us j) h.keeps.untaken
          ∙ (put_at 0 (put_item 0 r0.untaken s b) s 0 j
          ∙ elim (cases_eq s j) [
            | inl e ↦ cond-true _ _ _ (eq-eqb s j e) ∙ (sym none ∙ ap (slice_index r0.untaken) e)
            | inr o ↦ cond-false _ _ _ (ne_eqb s j o) ∙ (put_at 0 r0.untaken s b j ∙ cond-false _ _ _ (ne_eqb s j o))
          ]);
    }

-- ---- when it may be fetched, and taken

pub may_fetch : (me : Me) (s key : ℕ) (r : Memo) → MayRecv me s key r → MayFetchHead me s r
may_fetch me s key r may =
    let b = may.command in
    record {
      take = record { geometry = b.geometry; who = b.who; here = idle_here me.who r b.idle; idle = b.idle.op; from = may.from; other = may.other; none = may.none };
      idle = b.idle;
      client = b.client;
      table = b.table;
    }

-- the item may be taken once the key has it
pub may_take : (me : Me) (s n b k : ℕ) (r0 r : Memo) → (key : ℕ) → MayRecv me s key r0 → n ≡ own_word r0.own (spot.QueueHead s me.who) → k < 16 → IsWaiting me s n b k r0 r → MayTakeHead me s n b r
may_take me s n b k r0 r key may place low h =
    let b0 = may.command in
    record {
      geometry = b0.geometry;
      who = b0.who;
      from = may.from;
      other = may.other;
      idle = h.keeps.idle;
      holds = h.holds;
      none = ap (λ (us : List ℕ). slice_index us s) h.keeps.untaken ∙ may.none;
      place = place ∙ sym (h.keeps.own (spot.QueueHead s me.who) refl refl);
      known = h.known;
      some = h.some;
      root = (k, low, h.root);
    }
