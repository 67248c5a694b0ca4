-- a recovery in single steps
use Rattle.std.proofs.Common.{◌≡◌, ℕ, Bool, true, false, inr, refl, sym, ap, ◌∙◌, subst, true≢false}
use Rattle.std.specs.Prelude.{Ok, Err, Option, None, Some}
use Rattle.shm_graph.specs.declared.{ask.{Me.Me, Turn.{Turn, TheVariants.{More, Done, Died}}}, memo.Memo.Memo}
use Rattle.shm_graph.specs.{declared.{memo.Status.TheVariants.Gone, run.{Account.Account, Start.Start}}, Agents.acts}
use Rattle.shm_graph.specs.{Asks.Trail, Laws.{Control, Laws, Stays, is_died, is_done, is_some, turn_of}}
use Rattle.shm_graph.specs.Whole.{fits_now, gives_now}
use Rattle.shm_graph.proofs.Machines.Composing.{none_of, some_of}
use Rattle.shm_pool.specs.{Calls.{ClientStepped, acts_still}, Endings.{Answer, LeavesGone}}
use Rattle.shm_pool.specs.Rescues.{IsRescuing, account_of, is_finished_ok}
use Rattle.shm_pool.proofs.{Calling.{acts_leave, acts_stay, goes_on, is_over, never_died}, Changing.begun_who}

-- whose the account is
pub account_who : (b : Bool) (e : Account) → (account_of b e).who ≡ e.who
account_who true e = refl
account_who false e = begun_who e

module _ {M : Type 0} (k : Control M Answer) (fits : M → Memo → Memo → Trail → Type 0) (gives : M → Memo → Memo → Trail → Answer → Type 0) (laws : Laws k fits gives) where
  -- one step of it
  abbrev pub Stepped : M → Account → Account → Turn Answer → M → Type 0
  Stepped m e e' t m' = ClientStepped k (fits_now k fits) (gives_now gives) m e e' t m'

  -- it is finished once it has answered
  pub finished_by : (m : M) (e e' : Account) (t : Turn Answer) (m' : M) → k.finished m ≡ false → ClientStepped k (fits_now k fits) (gives_now gives) m e e' t m' → k.finished m' ≡ is_done t
  finished_by m e e' t m' going x = ap k.finished x.next ∙ ((laws.steady m x.seen going).ends ∙ (done_by (k.turns m x.seen) ∙ ap is_done (sym x.turn)))
    where
      done_by : (o : Option Answer) → is_some o ≡ is_done (turn_of o)
      done_by None = refl
      done_by (Some a) = refl

  -- what it leaves it leaves after a step that doesn't end it
  leaves_on : (m : M) (n : ℕ) (m' : M) (r0 : Memo) → k.finished m ≡ false → k.turns m n ≡ None → m' ≡ k.after m n → LeavesGone (gives_now gives) m r0 → LeavesGone (gives_now gives) m' r0
  leaves_on m n m' r0 going none is l =
      subst (λ (z : M). LeavesGone (gives_now gives) z r0) (sym is)
      (record { ok = λ r g. l.ok r (laws.back m n going none r0 r r.call (Ok tt) g); err = λ r e g. l.err r e (laws.back m n going none r0 r r.call (Err e) g) })

  module _ (start : Start) (fell begun done : Bool) (e e1 e2 : Account) (m m' : M) (i : IsRescuing k fits gives start fell begun done e m) (going : k.finished m ≡ false) (is : e1 ≡ account_of begun e) where
    -- what a step leaves
    pub rescued : (t : Turn Answer) → ClientStepped k (fits_now k fits) (gives_now gives) m e1 e2 t m' → acts e2.memo ≡ acts_still (is_done t) e2.memo → e2.who ≡ e1.who
        → IsRescuing k fits gives start fell true (is_finished_ok t) e2 m'
    rescued t x acting same = by t x.turn acting
      where
        r0 : Memo
        r0 = (i.fits going).1

        leaves : LeavesGone (gives_now gives) m r0
        leaves = (i.fits going).3

        fit : fits_now k fits m r0 e1.memo
        fit = subst (λ (z : Account). fits_now k fits m r0 z.memo) (sym is) (i.fits going).2

        st : Stays k m x.seen
        st = laws.steady m x.seen going

        me : k.me m' ≡ record { geometry = start.geometry; who = e2.who }
        me = ap k.me x.next ∙ (st.same_me ∙ (i.me ∙ (λ j. let y : Me = record { geometry = start.geometry; who = sym (same ∙ (ap (λ (z : Account). z.who) is ∙ account_who begun e)) j } in y)))

        over : (a : Answer) → k.turns m x.seen ≡ Some a → k.finished m' ≡ true
        over a some = ap k.finished x.next ∙ (st.ends ∙ ap is_some some)

        gave : (a : Answer) → k.turns m x.seen ≡ Some a → gives_now gives m r0 e2.memo a
        gave a some = is_over k (fits_now k fits) (gives_now gives) m e1 e2 t m' r0 a fit x some

        by : (u : Turn Answer) → u ≡ turn_of (k.turns m x.seen) → acts e2.memo ≡ acts_still (is_done u) e2.memo → IsRescuing k fits gives start fell true (is_finished_ok u) e2 m'
        by Died d h = absurd (true≢false (ap is_died d ∙ never_died (k.turns m x.seen)))
        by More d h =
            let none = none_of (k.turns m x.seen) (sym d) in
            record {
              waits = λ f. absurd (true≢false f);
              acts = λ b n. h;
              gone = λ f. absurd (true≢false (sym f));
              me = me;
              fits = λ g. (refl, r0, goes_on k (fits_now k fits) (gives_now gives) m e1 e2 t m' r0 fit x none, leaves_on m x.seen m' r0 going none x.next leaves);
            }
        by (Done (Ok u)) d h =
            let some = some_of (k.turns m x.seen) (Ok u) (sym d) in
            let gone : e2.memo.status ≡ Gone = leaves.ok e2.memo (gave (Ok u) some) in
            record {
              waits = λ f. absurd (true≢false f);
              acts = λ b n. absurd (true≢false n);
              gone = λ f. (inr gone, acts_leave e2.memo gone h);
              me = me;
              fits = λ g. absurd (true≢false (sym (over (Ok u) some) ∙ g));
            }
        by (Done (Err s)) d h =
            let some = some_of (k.turns m x.seen) (Err s) (sym d) in
            record {
              waits = λ f. absurd (true≢false f);
              acts = λ b n. acts_stay e2.memo (leaves.err e2.memo s (gave (Err s) some)) h;
              gone = λ f. absurd (true≢false (sym f));
              me = me;
              fits = λ g. absurd (true≢false (sym (over (Err s) some) ∙ g));
            }
