-- a join, a recovery or a leaving, in a pool of either kind: its laws, where it may begin, and what it leaves
use Rattle.std.proofs.Common.{◌≡◌, ◌≢◌, ◌⊎◌, ◌<◌, Bool, false, true, [], refl, sym, ap, ◌∙◌, subst, inl, inr, eq-eqb}
use Rattle.std.specs.Prelude.{Err, List, slice_index}
use Rattle.shm_words.specs.Layout.{GeometryFits}
use Rattle.shm_graph.specs.declared.{ask.Me.Me, memo.{Memo.Memo, Status.Status as AStatus}}
use Rattle.shm_graph.specs.{declared.spot.Spot.TheVariants.{Hold, Root}, Agents.recovers, Asks.Trail, Events.Event}
use Rattle.shm_graph.specs.{Held.is_loose, Idle.IsIdle, Laws.GoneNow, Operations.IsHeld, Tells.happens_along}
use Rattle.shm_graph.specs.declared.memo.Status.TheVariants as status
use Rattle.plans.specs.{declared.or.Or.TheVariants.{First, Second}, CallsControl.{calls_control, calls_of}}
use Rattle.plans.specs.{CallsPart.{calls_part, calls_part_laws}, Either.{or_control, or_part}, Parts.{Part, PartLaws}}
use Rattle.plans.specs.Proved.{Either.or_part_laws, Placed.placed}
use Rattle.shm_count.specs.declared.answer.EraSpent.{EraSpent}
use Rattle.shm_recover.specs.Join.{AsPart.{join_does, join_part}, JoinFits, JoinGives, join_control, join_fresh}
use Rattle.shm_recover.specs.Leave.{Control.{leave_parts, leaving, leave_steered}, LeaveLeaves, leave_plan}
use Rattle.shm_recover.specs.Recover.{Control.{recover_parts, recovering, recover_steered}, recover_plan}
use Rattle.shm_recover.specs.Proved.{Join.Keeps.{join_begins, join_laws}, Leave.Gone.idle_may_leave}
use Rattle.shm_recover.specs.Proved.{Leave.Laws.{leave_begin, leave_laws}, Recover.Laws.recover_begin}
use Rattle.shm_recover.proofs.JoinPart.{join_tells}
use Rattle.shm_agents.proofs.WorkLaws.{recoveries}
use Rattle.shm_singles.specs.Steps.{Lives, LivesAnswer, lives_control}
use Rattle.shm_shared.proofs.Between.{IsBetween}

-- ---- the machine as a part

join_part_laws : (first : Bool) → PartLaws first join_control join_part
join_part_laws first =
    record {
      placed = placed first join_control JoinFits JoinGives join_laws;
      tells = join_tells;
      begins = λ m r n. subst (λ x. JoinFits x r r []) (sym n.made) (join_begins m.me r n.can);
      ends = λ m rs r t a n g held same. record { gives = g; none = ap (happens_along join_control join_does m) g.trail };
      asked = λ m rs r t a n g. g.trail;
    }

abbrev pub lives_part : Part Lives LivesAnswer
lives_part = or_part join_part (or_part (calls_part recover_parts recover_plan) (calls_part leave_parts leave_plan))

pub lives_laws : (first : Bool) → PartLaws first lives_control lives_part
lives_laws first =
    or_part_laws first join_control (or_control (calls_control recover_parts recover_steered) (calls_control leave_parts leave_steered)) join_part (or_part (calls_part recover_parts recover_plan) (calls_part leave_parts leave_plan)) (join_part_laws first)
    (or_part_laws first (calls_control recover_parts recover_steered) (calls_control leave_parts leave_steered) (calls_part recover_parts recover_plan) (calls_part leave_parts leave_plan)
    (calls_part_laws recover_parts recover_plan recoveries first) (calls_part_laws leave_parts leave_plan leave_laws first))

-- ---- where it may begin

module _ (me : Me) (r : Memo) (geometry : GeometryFits me.geometry) (who : me.who < me.geometry.clients) where
  pub may_join : (r.status ≡ status.New) ⊎ (r.status ≡ status.Gone) → lives_part.needs (First (join_fresh me)) r
  may_join out = record { made = refl; can = record { member = record { geometry = geometry; who = who }; status = out } }

  pub may_recover : recovers r ≡ true → lives_part.needs (Second (First (calls_of recover_steered (recovering me)))) r
  may_recover recoverer = record { made = refl; first = refl; start = refl; knows = recover_begin me r (record { geometry = geometry; who = who; recoverer = recoverer }) }

  pub may_leave : (loose : Bool) → IsBetween loose me r → lives_part.needs (Second (Second (calls_of leave_steered (leaving me)))) r
  may_leave loose h =
      record { made = refl; first = refl; start = refl; knows = leave_begin me r (idle_may_leave me r (record { geometry = geometry; who = who }) h.idle h.latch h.dying h.unsent h.untaken) }

-- ---- what it leaves

pub live_not_gone : (z : AStatus) → z ≡ status.Live → z ≢ status.Gone
live_not_gone z e g = cc

pub dead_not_gone : (z : AStatus) → z ≡ status.Dead → z ≢ status.Gone
dead_not_gone z e g = cc

-- an identity that is new or gone has nothing to finish
pub nothing_left : (me : Me) (r : Memo) → me.who < me.geometry.clients → IsHeld me r → (r.status ≡ status.New) ⊎ (r.status ≡ status.Gone) → GoneNow me.who r
nothing_left me r who held out = subst (GoneNow me.who) held.3 (by (subst (λ (x : Memo). (x.status ≡ status.New) ⊎ (x.status ≡ status.Gone)) (sym held.3) out))
  where
    by : ((held.1 me.who).status ≡ status.New) ⊎ ((held.1 me.who).status ≡ status.Gone) → GoneNow me.who (held.1 me.who)
    by (inl n) =
        let q = held.2.fresh me.who who n in
        record { roots = λ k. q.words (Root me.who k) (eq-eqb me.who me.who refl) (λ z. cc); hold = q.words (Hold me.who) (eq-eqb me.who me.who refl) (λ z. cc); idle = q.idle; latched = q.latched; segments = q.segments; dyings = q.dyings; sends = q.sends; takes = q.takes }
    by (inr n) = held.2.gone me.who who n

module _ (me : Me) (r0 r : Memo) (tr : Trail) where
  -- who has joined is between two operations
  pub joined : (loose : Bool) → me.who < me.geometry.clients → IsHeld me r0 → (r0.status ≡ status.New) ⊎ (r0.status ≡ status.Gone) → recovers r ≡ false → is_loose r.part ≡ loose → (u : Unit {0}) → JoinGives (join_fresh me) r0 r tr u → IsBetween loose me r
  joined loose who held out client pool u g =
      let h : GoneNow me.who r0 = nothing_left me r0 who held out in
      record {
        idle = g.idle;
        client = client;
        latch = ap (λ (x : Memo). x.latch) g.rest ∙ h.latched;
        dying = ap (λ (x : Memo). x.dying) g.rest ∙ h.dyings;
        pool = pool;
        unsent = λ i. ap (λ (x : Memo). slice_index x.unsent i) g.rest ∙ h.sends i;
        untaken = λ i. ap (λ (x : Memo). slice_index x.untaken i) g.rest ∙ h.takes i;
      }

  -- who couldn't leave hasn't
  pub not_left : (es : List Event) (e : EraSpent) → IsIdle me.who r0 → LeaveLeaves (leaving me) r0 r tr es (Err e) → r.status ≢ status.Gone
  not_left es e idle g = live_not_gone r.status (ap (λ (x : Memo). x.status) g.1.left.rest ∙ idle.live)
