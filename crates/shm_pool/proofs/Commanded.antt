-- a machine of a line that shows what it is going to answer, run by a client
use Rattle.std.proofs.{Common.{◌≡◌, ℕ, ◌++◌, true, false, List, Option, sym, ap, ◌∙◌, subst}, lemmas.Bool.true≢false}
use Rattle.shm_graph.specs.{declared.{ask.Me.Me, memo.Memo.Memo, run.Account.Account}, Asks.{Trail, call_before}}
use Rattle.shm_graph.specs.{Events.Event, Laws.Control, Runs.Stood, Tells.after_all, Whole.fits_now}
use Rattle.shm_script.specs.declared.{line.Line.Line, log.Answer.Answer}
use Rattle.shm_script.specs.declared.line.Line.TheVariants as line
use Rattle.shm_table.specs.{Command.{LineMayStand, Maps.MapSoFar, Sends.SentSoFar}, TableTasks.LineMay}
use Rattle.shm_pool.specs.{declared.reply.Reply.TheVariants.{Died, Done}, Called.{HasRun, HasShown}}
use Rattle.shm_pool.specs.{Calls.{Drives, StillFits, pairs}, Doing.HasDone, Shows.{ShowsLaws, ShowsSoFar}}
use Rattle.shm_pool.specs.Tokens.{Acting, me_of}
use Rattle.shm_pool.proofs.Named.{done_dead, done_rests, rests_by}

-- a line that may begin is of identities of the pool
pub stands : (me : Me) (l : Line) (r : Memo) → LineMay me l r → LineMayStand me l
stands me (line.Put key n) r h = tt
stands me (line.Copy key a other) r h = h.2
stands me (line.Del key) r h = tt
stands me (line.Get a key) r h = h.2
stands me (line.Send to key) r h = (h.1, h.2)
stands me (line.Recv from key) r h = (h.2, h.3)

module _ {M : Type 0} (k : Control M Answer) (fits : M → Memo → Memo → Trail → Type 0) (may : M → Memo → Type 0) (does : M → ℕ → Event) (leaves : M → Memo → Memo → Trail → List Event → Answer → Type 0) (ends : M → Answer → Type 0) (effect : M → Option Answer) (made : Me → Line → M) (laws : ShowsLaws k may ends made) (maps : ShowsSoFar MapSoFar k fits effect made) (sends : ShowsSoFar SentSoFar k fits effect made) where
  -- a client of which a call has died runs no command
  pub commanded_dead : (l : Line) (t : Acting) (left : ℕ) → Stood t.of.start t.account → t.dead ≡ true → HasRun k effect made leaves l t t left left Died
  commanded_dead l t left stood dead =
      let m = made (me_of t.of t.account) l in
      let d = done_dead k does leaves (λ x a. Unit {0}) m t left stood dead in
      record {
        does = does;
        done = d;
        rests = rests_by k does leaves m t t left left Died d;
        answered = tt;
        cut = λ alive. absurd (true≢false (sym dead ∙ alive));
      }

  -- what one shows that was cut off
  shown_by : (me : Me) (l : Line) (m0 : M) (e e' : Account) (before left : ℕ) (m : M) (a : Option Answer) → m0 ≡ made me l → Drives k fits m0 m e e' false before left → StillFits k (fits_now k fits) m e.memo e'.memo → a ≡ effect m → HasShown k effect made me l e e' before left a
  shown_by me l m0 e e' before left m a is drove still shown =
      let x : Drives k fits (made me l) m e e' false before left = subst (λ (z : M). Drives k fits z m e e' false before left) is drove in
      let start : Trail = pairs (x.call.steps ++ x.call.last) in
      let tr : Trail = call_before (k.fresh m) e'.memo.call in
      let at = x.driven.machine in
      let going = ap k.finished (sym at) ∙ still.going in
      let suits = subst (λ (z : M). fits z e.memo e'.memo tr) at still.suits in
      let effects : effect (after_all k (made me l) start) ≡ a = ap effect (sym at) ∙ sym shown in
      record {
        machine = m;
        call = x.call;
        asked = record { steps = x.driven.steps; machine = at; made = x.driven.made };
        going = still.going;
        effect = shown;
        map = subst (λ (b : Option Answer). MapSoFar l b e.memo e'.memo) effects (maps me l start e.memo e'.memo tr going suits);
        sent = subst (λ (b : Option Answer). SentSoFar l b e.memo e'.memo) effects (sends me l start e.memo e'.memo tr going suits);
      }

  -- nothing of a run speaks of what is shown of a command
  shows_so : (m : M) (t t1 : Acting) (before left : ℕ) (a : Option Answer) → t.dead ≡ false → HasDone k does leaves (λ x b. Unit {0}) m t t1 before left Died → HasDone k does leaves (λ x b. Unit {0}) m t (record t1 { effect = a }) before left Died
  shows_so m t t1 before left a alive h =
      record {
        same = h.same;
        stood = h.stood;
        died = h.died;
        again = λ dead. absurd (true≢false (sym dead ∙ alive));
        spent = h.spent;
        call = h.call;
        events = h.events;
        asked = h.asked;
        told = tt;
        left_so = tt;
        between = tt;
      }

  -- a command in which the client died
  pub commanded_died : (l : Line) (t t1 : Acting) (before left : ℕ) (m0 m : M) (a : Option Answer) → t.dead ≡ false → m0 ≡ made (me_of t.of t.account) l → HasDone k does leaves ends m0 t t1 before left Died
      → Drives k fits m0 m t.account t1.account false before left → StillFits k (fits_now k fits) m t.account.memo t1.account.memo → a ≡ effect m → HasRun k effect made leaves l t (record t1 { effect = a }) before left Died
  commanded_died l t t1 before left m0 m a alive is h drove still shown =
      let me : Me = me_of t.of t.account in
      let d = shows_so (made me l) t t1 before left a alive (done_rests k does leaves ends laws.rested (made me l) t t1 before left Died (subst (λ (z : M). HasDone k does leaves ends z t t1 before left Died) is h)) in
      record {
        does = does;
        done = d;
        rests = rests_by k does leaves (made me l) t (record t1 { effect = a }) before left Died d;
        answered = tt;
        cut = λ lives lost. shown_by me l m0 t.account t1.account before left m a is drove still shown;
      }

  -- and one that answered
  pub commanded_done : (l : Line) (t t1 : Acting) (before left : ℕ) (m0 : M) (b : Answer) → m0 ≡ made (me_of t.of t.account) l → HasDone k does leaves ends m0 t t1 before left (Done b) → t1.effect ≡ t.effect → HasRun k effect made leaves l t t1 before left (Done b)
  commanded_done l t t1 before left m0 b is h same =
      let me : Me = me_of t.of t.account in
      let d = done_rests k does leaves ends laws.rested (made me l) t t1 before left (Done b) (subst (λ (z : M). HasDone k does leaves ends z t t1 before left (Done b)) is h) in
      record {
        does = does;
        done = d;
        rests = rests_by k does leaves (made me l) t t1 before left (Done b) d;
        answered = same;
        cut = λ alive lost. absurd lost;
      }
