-- a latch that is given back, or in whose giving back the client dies
use Rattle.std.proofs.Common.{◌≡◌, ◌≢◌, ℕ, ◌<◌, false, List, ◌++◌, append-nil, refl, sym, ap, ◌∙◌, subst}
use Rattle.std.specs.{List.Contains, Prelude.Some}
use Rattle.shm_graph.specs.declared.{ask.Me.Me, memo.{Memo.Memo, Op.TheVariants.Nothing, Step.Step, Stored.Stored}}
use Rattle.shm_graph.specs.{declared.{run.Account.Account, spot.Spot.TheVariants.{Body, Root}}, Asks.Trail}
use Rattle.shm_graph.specs.{Events.Event, Laws.{Control, Laws}, Operations.IsReady, Runs.Stood, Views.own_word}
use Rattle.shm_graph.specs.{Whole.{fits_now, gives_now}, Tells.after_all}
use Rattle.shm_graph.proofs.Machines.Wholes.{whole_keeps}
use Rattle.plans.specs.{declared.{calls.Calls.Calls, word.Word.Word}, CallsControl.{calls_control, calls_of}}
use Rattle.plans.specs.{CallsFit.{CallsFits, CallsGives}, Proved.CallsKeep.{calls_begin, calls_laws}}
use Rattle.plans.specs.Words.{word_control}
use Rattle.shm_count.specs.{Roots.root_word, Tear.Memos.Knows}
use Rattle.shm_ref.specs.declared.release.ReleasePoint.{ReleasePoint, TheVariants.{Back, Give, Whose}}
use Rattle.shm_ref.specs.declared.release.ReleaseState.{ReleaseState}
use Rattle.shm_ref.specs.Release.{ReleaseKnows, release_plan, release_steered, releasing}
use Rattle.shm_ref.specs.Proved.{LatchTasks.release_task, Release.Laws.release_laws}
use Rattle.shm_ref.proofs.LatchKeeps.{release_roots, release_waiting}
use Rattle.shm_pool.specs.declared.reply.Reply.{Reply, TheVariants.{Died, Done}}
use Rattle.shm_pool.specs.{Calls.{CallSteps, Shown, accounts_by, fresh_after, pairs, shown}, Called.HasCalled}
use Rattle.shm_pool.specs.Tokens.{Acting, Its, me_of}
use Rattle.shm_pool.proofs.Replied.{ready}
use Rattle.lojarnek.specs.{Blocks.KeepsRoots, Roots.IsHolding, Setting.{HasGiven, KeepsReferences}, Standing.acts_of}
use Rattle.lojarnek.proofs.{Comes.roots_kept, Done.{done_lives, done_same}, Latches.{died_ended, unlatched_knows}}
use Rattle.lojarnek.proofs.Stops.{AreOn, fits_after, going_on, none_last}

-- ---- on the way

-- what stays of the memo r0, before each of the three word steps
module _ (m : ReleaseState) (r0 : Memo) where
  way_roots : (y : ReleasePoint) (r : Memo) (tr : Trail) (es : List Event) → ReleaseKnows m y r0 r tr es → (k : ℕ) → root_word m.me.who r k ≡ root_word m.me.who r0 k
  way_roots Whose r tr es h k = ap (λ (x : Memo). root_word m.me.who x k) h.2
  way_roots Give r tr es h k = ap (λ (x : Memo). own_word x.own (Root m.me.who k)) h.same
  way_roots Back r tr es h k = ap (λ (x : Memo). own_word x.own (Root m.me.who k)) h.same

  way_knows : (y : ReleasePoint) (r : Memo) (tr : Trail) (es : List Event) → ReleaseKnows m y r0 r tr es → (k b j d : ℕ) → r0.op ≡ Nothing → k < 16 → b ≢ 0 → root_word m.me.who r0 k ≡ b → r0.latch ≡ Some m.me.who → Knows r0 (Body b j) d → Knows r (Body b j) d
  way_knows Whose r tr es h k b j d idle low some is held known = subst (λ (x : Memo). Knows x (Body b j) d) (sym h.2) known
  way_knows Give r tr es h k b j d idle low some is held known = subst (λ (ks : List Stored). Contains ks (record { spot = Body b j; value = d })) (sym (ap (λ (x : Memo). x.known) h.same)) known
  way_knows Back r tr es h k b j d idle low some is held known = unlatched_knows m.me r0 r (ap (λ (x : Memo). x.known) h.same) k b j d idle low some is held known

-- ---- the client died

module _ (t t' : Acting) (before left a : ℕ) (at : IsHolding a t) (stood : Stood t.of.start t.account) (h : HasCalled word_control release_plan (releasing (me_of t.of t.account)) t t' before left Died) where
  abbrev me : Me
  me = me_of t.of t.account

  abbrev k : Control (Calls ReleaseState Word) (Unit {0})
  k = calls_control word_control release_steered

  abbrev first : Calls ReleaseState Word
  first = calls_of release_steered (releasing me)

  abbrev shows : Shown
  shows = shown k first

  laws : Laws k (CallsFits word_control release_plan) (CallsGives word_control release_plan)
  laws = calls_laws word_control release_plan release_laws

  abbrev call : CallSteps shows t.account t'.account false before left
  call = h.done.call at.alive

  abbrev made : List Step
  made = call.steps ++ call.last

  all_on : AreOn made
  all_on = subst AreOn (sym (ap (λ (ts : List Step). call.steps ++ ts) (none_last shows (fresh_after shows.fresh call.steps) call.last call.ends) ∙ append-nil call.steps)) (going_on shows shows.fresh call.steps call.going)

  is_ready : IsReady me t.account.memo
  is_ready = ready t.of t.account stood (at.rests.between at.alive).idle me refl

  fits_before : fits_now k (CallsFits word_control release_plan) first t.account.memo t.account.memo
  fits_before = calls_begin word_control release_plan release_laws (releasing me) t.account.memo refl refl (release_task.begins (releasing me) t.account.memo is_ready (refl, (a, at.latch)))

  abbrev cut : Calls ReleaseState Word
  cut = after_all k first (pairs made)

  -- where it was cut off
  fits_then : (k.me cut ≡ me) × (k.finished cut ≡ false) × fits_now k (CallsFits word_control release_plan) cut t.account.memo (accounts_by t.account made).memo
  fits_then =
      let told = h.done.events at.alive in
      fits_after k (fits_now k (CallsFits word_control release_plan)) (gives_now (CallsGives word_control release_plan)) (whole_keeps k (CallsFits word_control release_plan) (CallsGives word_control release_plan) laws) laws.steady
      t.of.start.geometry t.account.memo made first t.account told.steps told.made all_on refl is_ready.who refl fits_before

  -- the memo is one of the way
  abbrev now : Memo
  now = fits_then.2.rs

  memo_now : t'.account.memo ≡ now
  memo_now = ap (λ (e : Account). e.memo) call.account ∙ fits_then.2.fits.same

  died_roots : KeepsRoots (acts_of t before) (acts_of t' left)
  died_roots = roots_kept t t' h.done.same.1 (λ j.
      ap (λ (x : Memo). root_word me.who x j) memo_now
      ∙ subst (λ (z : Me). root_word z.who now j ≡ root_word z.who t.account.memo j) fits_then.0 (way_roots cut.plan t.account.memo cut.plan.point now fits_then.2.before fits_then.2.es fits_then.2.knows j))

  died_knows : KeepsReferences (acts_of t before) (acts_of t' left)
  died_knows b j d n held known =
      let same : (cut.plan.me).who ≡ t.account.who = ap (λ (z : Me). z.who) fits_then.0 in
      subst (λ (x : Memo). Knows x (Body b j) d) (sym memo_now)
      (way_knows cut.plan t.account.memo cut.plan.point now fits_then.2.before fits_then.2.es fits_then.2.knows n.root b j d (at.rests.between at.alive).idle.op n.low n.some
      (ap (λ (w : ℕ). root_word w t.account.memo n.root) same ∙ n.named) (held ∙ ap (λ (w : ℕ). Some w) (sym same)) known)

-- ---- it is given back, or the client died

module _ (t t' : Acting) (before left a : ℕ) (at : IsHolding a t) (stood : Stood t.of.start t.account) where
  given_now : (u : Unit {0}) → HasCalled word_control release_plan (releasing (me_of t.of t.account)) t t' before left (Done u) → HasGiven (acts_of t before) (acts_of t' left) (Done u)
  given_now u h =
      let w = release_waiting (me_of t.of t.account) t.account.memo t'.account.memo _ _ h.done.left_so in (
        done_same (Done u) at.alive h.done,
        record {
          ready = record { rests = h.rests; none = λ d. h.done.left_so.latch; unsent = λ d j. w.unsent j ∙ at.unsent j; untaken = λ d j. w.untaken j ∙ at.untaken j };
          kind = ap (λ (p : Its). p.start.tables) h.done.same.0 ∙ at.kind;
          alive = done_lives u h.done;
        },
        roots_kept t t' h.done.same.1 (release_roots (me_of t.of t.account) t.account.memo t'.account.memo _ _ h.done.left_so),
        λ b j d n held known. unlatched_knows (me_of t.of t.account) t.account.memo t'.account.memo (ap (λ (x : Memo). x.known) h.done.left_so.memo) n.root b j d (at.rests.between at.alive).idle.op n.low n.some n.named held known,
      )

  pub given : (o : Reply (Unit {0})) → HasCalled word_control release_plan (releasing (me_of t.of t.account)) t t' before left o → HasGiven (acts_of t before) (acts_of t' left) o
  given (Done u) h = given_now u h
  given Died h = (died_ended at.alive h.done h.rests, died_roots t t' before left a at stood h, died_knows t t' before left a at stood h)
