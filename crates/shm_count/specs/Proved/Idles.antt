-- an identity between two calls is between two calls once a count step was made, or refused, and after a tear-down
use Rattle.std.proofs.Common.{◌≡◌, ℕ, Bool, true, false, List, refl, ap, sym, ◌∙◌}
use Rattle.std.specs.{List.filter, Prelude.{Result, Ok, Err}}
use Rattle.shm_graph.specs.declared.{ask.Me.Me, memo.{Memo.Memo, Stored.Stored, Status.TheVariants.{New, Live, Gone}}}
use Rattle.shm_graph.specs.{declared.spot.Spot.{Spot, TheVariants.{Hold, Home, Root, Slot}}, Events.Event}
use Rattle.shm_graph.specs.{Idle.{IsIdle, hold_word}, MemoAfterStore.{other_than, put}, Views.own_word}
use Rattle.shm_graph.proofs.Idles.{idle_own}
use Rattle.kind_parts.specs.{Conditions.IsHere, Reparting.sight}
use Rattle.shm_count.specs.declared.{answer.UpFault.UpFault, point.Aim.{Aim, TheVariants.{Up, Down, Change}}}
use Rattle.shm_count.specs.Slots.{Filled, StepDid, Took, Untouched, emptied, known_at, slotted, unsent_at}
use Rattle.shm_count.specs.{Step.Parts.part_after, Tear.Memos.TearStays}

-- an identity between two calls is here
pub is_here : (c : ℕ) (r : Memo) → IsIdle c r → IsHere r
is_here c r idle = record { joined = λ z. (let y : Live ≡ New = sym idle.live ∙ z in absurd (cc)); stays = λ z. (let y : Live ≡ Gone = sym idle.live ∙ z in absurd (cc)) }

-- a slot is no hold word
slotted_hold : (c x : ℕ) (p : Spot) (m : Memo) → own_word (slotted p x m).own (Hold c) ≡ own_word m.own (Hold c)
slotted_hold c x (Root d k) m = refl
slotted_hold c x (Home d) m = refl
slotted_hold c x _ m = refl

pub untouched_idle : (c : ℕ) (m r : Memo) → Untouched c m r → IsIdle c m → IsIdle c r
untouched_idle c m r h idle = idle_own c m r (record m { own = r.own }) h.rest refl refl refl refl (h.own (Hold c) refl) idle

pub filled_idle : (c : ℕ) (p : Spot) (b : ℕ) (m r : Memo) → Filled c p b m r → IsIdle c m → IsIdle c r
filled_idle c p b m r h idle =
    idle_own c m r (record m { own = r.own; known = known_at p b m.known; unsent = unsent_at p b m.unsent; part = part_after c (sight c m) p b }) h.rest refl refl refl refl
    (h.own (Hold c) refl ∙ slotted_hold c b p m) idle

-- what a slot that is emptied leaves of the latch, of the block that is prepared and of the status
emptied_same : {B : Type 0} (get : Memo → B) → ((us vs : List ℕ) (ks : List Stored) (m : Memo) → get (record m { untaken = us; unsent = vs; known = ks }) ≡ get m) → (p : Spot) (head : Bool) (t : ℕ) (m : Memo) → get (emptied p head t m) ≡ get m
emptied_same get keeps (Slot s r k) true t m = keeps (put 0 m.untaken s t) m.unsent (filter (λ x. other_than (Slot s r k) x.spot) m.known) m
emptied_same get keeps (Slot s r k) false t m = keeps m.untaken (put 0 m.unsent r 0) m.known m
emptied_same get keeps _ head t m = keeps m.untaken m.unsent m.known m

pub took_idle : (c : ℕ) (p : Spot) (head : Bool) (t x : ℕ) (z : Bool) (m r : Memo) → Took c p head t x z m r → IsIdle c m → IsIdle c r
took_idle c p head t x z m r h idle =
    record {
      live = ap (λ (y : Memo). y.status) h.rest ∙ (emptied_same (λ y. y.status) (λ us vs ks y. refl) p head t m ∙ idle.live);
      op = h.op;
      making = ap (λ (y : Memo). y.making) h.rest ∙ (emptied_same (λ y. y.making) (λ us vs ks y. refl) p head t m ∙ idle.making);
      hold = h.own (Hold c) refl ∙ (slotted_hold c x p m ∙ (idle.hold ∙ ap hold_word (sym (ap (λ (y : Memo). y.latch) h.rest ∙ emptied_same (λ y. y.latch) (λ us vs ks y. refl) p head t m))));
    }

-- whatever a step answered
pub step_idle : (me : Me) (x : Aim) (p : Spot) (h : Bool) (m r : Memo) (es : List Event) (a : Result Bool UpFault) → StepDid me x p h m r es a → IsIdle me.who m → IsIdle me.who r
step_idle me (Up b) p h m r es (Ok z) d idle = filled_idle me.who p b m r d.0 idle
step_idle me (Down b) p h m r es (Ok z) d idle = took_idle me.who p h b 0 z m r d.0.took idle
step_idle me (Change t b) p h m r es (Ok z) d idle = took_idle me.who p h t b z m r d.0.took idle
step_idle me (Up b) p h m r es (Err f) d idle = untouched_idle me.who m r d.0 idle
step_idle me (Down b) p h m r es (Err f) d idle = untouched_idle me.who m r d.0 idle
step_idle me (Change t b) p h m r es (Err f) d idle = untouched_idle me.who m r d.0 idle

-- and what a tear-down leaves as it was
pub stays_idle : (c : ℕ) (m r : Memo) → TearStays c m r → IsIdle c m → IsIdle c r
stays_idle c m r s idle = idle_own c m r (record m { own = r.own; dying = r.dying; known = r.known; looks = r.looks; values = r.values }) s.rest refl refl refl refl (s.own (Hold c) refl) idle
