-- the steps that a machine asked for, and the events that it tells of them
use Rattle.std.proofs.Common.{◌≡◌, ℕ, ◌+◌, ◌<◌, Bool, true, false, List, [], ◌∷◌, ◌++◌, length, append_assoc, refl, sym, ap, ◌∙◌, subst, arith, length-append}
use Rattle.std.proofs.lemmas.{List.append-nil, Bool.{cond-true, eq-eqb}}
use Rattle.std.specs.Prelude.{None, Some}
use Rattle.shm_words.specs.declared.geometry.Geometry.{Geometry}
use Rattle.shm_graph.specs.declared.{ask.Turn.Turn, memo.{Memo.Memo, Seen.Seen, Step.Step}, run.Account.Account}
use Rattle.shm_graph.specs.{declared.run.Move.TheVariants.Word, Spots.{spot_at, classes_in}}
use Rattle.shm_graph.specs.{Asks.{Trail, at_of, call_before, pair}, CallEvents.{events_in, events_of, steps_in}}
use Rattle.shm_graph.specs.{Changes.asked_spot, Events.Event, Laws.{Control, Laws, event_on, is_some, step_of}}
use Rattle.shm_graph.specs.Runs.{State, account_after, memos_of, moved, state}
use Rattle.shm_graph.specs.{Tells.{Tells, after_all, machine_steps, tells_along}, Whole.{fits_now, gives_now}}
use Rattle.shm_graph.proofs.{Machines.TellsAlong.after_all-append, Runs.OwnEvents.own_told}
use Rattle.shm_pool.specs.{declared.reply.Reply.{Reply, TheVariants.{Done, Died}}, Replies.{IfReply, is_reply}}
use Rattle.shm_pool.specs.Rules.{IsMade}
use Rattle.shm_pool.specs.Calls.{AreMade, ClientStepped, Drives, Ending, IsDriven, Ongoing, Shown, accounts_by, fresh_after, pairs, shown}
use Rattle.shm_pool.proofs.Calling.{accounts_more, fresh_more, going_more, is_by}

-- ---- one step more

pairs_more : (ts : List Step) (t : Step) → pairs (ts ++ t ∷ []) ≡ pairs ts ++ pair t.ask t.seen ∷ []
pairs_more [] t = refl
pairs_more (u ∷ us) t = ap (λ (tr : Trail). pair u.ask u.seen ∷ tr) (pairs_more us t)

events_more : (r : Account) (ts : List Step) (t : Step) → events_of r.memo (ts ++ t ∷ []) ≡ events_of r.memo ts ++ event_on (accounts_by r ts).memo t (asked_spot (accounts_by r ts).memo t) ∷ []
events_more r [] t = refl
events_more r (u ∷ us) t = ap (λ (es : List Event). event_on r.memo u (asked_spot r.memo u) ∷ es) (events_more (account_after r u) us t)

made_more : (r : Account) (ts : List Step) (t : Step) → AreMade r ts → IsMade (accounts_by r ts) t → AreMade r (ts ++ t ∷ [])
made_more r [] t made now = (now, tt)
made_more r (u ∷ us) t made now = (made.0, made_more (account_after r u) us t made.1 now)

first_of : (x y : Event) → x ∷ [] ≡ y ∷ [] → x ≡ y
first_of x y e = cc

module _ {M A : Type 0} (k : Control M A) where
  steps_more : (m : M) (tr : Trail) (x : Seen) → machine_steps k m (tr ++ x ∷ []) ≡ machine_steps k m tr ++ step_of k (after_all k m tr) x.word ∷ []
  steps_more m [] x = refl
  steps_more m (y ∷ tr) x = ap (λ (ts : List Step). step_of k m y.word ∷ ts) (steps_more (k.after m y.word) tr x)

  tells_more : (does : M → ℕ → Event) (m : M) (tr : Trail) (x : Seen) → tells_along k does m (tr ++ x ∷ []) ≡ tells_along k does m tr ++ does (after_all k m tr) x.word ∷ []
  tells_more does m [] x = refl
  tells_more does m (y ∷ tr) x = ap (λ (es : List Event). does m y.word ∷ es) (tells_more does (k.after m y.word) tr x)

-- ---- a machine

module _ {M A : Type 0} (k : Control M A) (fits : M → Memo → Memo → Trail → Type 0) (gives : M → Memo → Memo → Trail → A → Type 0) (laws : Laws k fits gives) where
  -- the event of a step is the one that its machine tells
  made_event : (does : M → ℕ → Event) → Tells k fits does → (m : M) (e : Account) (r0 : Memo) (n : ℕ) → (k.me m).who ≡ e.who → (k.me m).who < (k.me m).geometry.clients → k.finished m ≡ false → fits_now k fits m r0 e.memo → IsMade e (step_of k m n)
      → event_on e.memo (step_of k m n) (asked_spot e.memo (step_of k m n)) ≡ does m n
  made_event does tells m e r0 n who lt going fit x =
      let g : Geometry = (k.me m).geometry in
      let c : ℕ = (k.me m).who in
      let t : Step = step_of k m n in
      let a : State = state x.words x.accounts in
      let here : memos_of x.accounts c ≡ e.memo = ap (memos_of x.accounts) who ∙ ap (λ (z : Account). z.memo) x.here.1 in
      let long : c < length x.accounts = subst (λ (z : ℕ). z < length x.accounts) (sym who) x.here.0 in
      let own : steps_in c (Word t ∷ []) ≡ t ∷ [] = cond-true _ (t ∷ []) [] (eq-eqb c c refl) in
      let told : events_in g c a (Word t ∷ []) ≡ does m n ∷ [] = own_told k fits gives laws does tells g c a (Word t ∷ []) (moved a (Word t)) m r0 (pair (k.asks m) n ∷ []) refl lt long x.held tt (x.move, x.turned, refl) (subst (fits_now k fits m r0) (sym here) fit) going own in
      let one : events_in g c a (Word t ∷ []) ≡ event_on (memos_of x.accounts c) t (spot_at g (classes_in g x.words) (at_of t.ask)) ∷ [] = cond-true _ _ _ (eq-eqb c c refl) in
      ap (λ (z : Memo). event_on z t (asked_spot z t)) (sym here)
      ∙ (ap (event_on (memos_of x.accounts c) t) x.turned.event.told
      ∙ first_of (event_on (memos_of x.accounts c) t (spot_at g (classes_in g x.words) (at_of t.ask))) (does m n) (sym one ∙ told))

  -- before its first step it asked for none
  pub driven_none : (m : M) (r : Account) → IsDriven k fits m m r r []
  driven_none m r = record { steps = refl; machine = refl; made = tt; asked = sym (append-nil _); events = λ does tells. refl }

  -- and one more
  driven_more : (m0 m m' : M) (r r' r'' : Account) (t : Turn A) (ts : List Step) (r0 : Memo) → (k.me m).who ≡ r'.who → (k.me m).who < (k.me m).geometry.clients → k.finished m ≡ false → fits_now k fits m r0 r'.memo → r' ≡ accounts_by r ts → k.fresh m ≡ fresh_after (k.fresh m0) ts → IsDriven k fits m0 m r r' ts
      → (x : ClientStepped k (fits_now k fits) (gives_now gives) m r' r'' t m') → IsDriven k fits m0 m' r r'' (ts ++ step_of k m x.seen ∷ [])
  driven_more m0 m m' r r' r'' t ts r0 who lt going fit is first d x =
      let u : Step = step_of k m x.seen in
      let s : Seen = pair (k.asks m) x.seen in
      let more : pairs (ts ++ u ∷ []) ≡ pairs ts ++ s ∷ [] = pairs_more ts u in
      record {
        steps = (λ i. d.steps i ++ step_of k (d.machine i) x.seen ∷ []) ∙ (sym (steps_more k m0 (pairs ts) s) ∙ ap (machine_steps k m0) (sym more));
        machine = x.next ∙ (ap (λ (z : M). k.after z x.seen) d.machine ∙ (sym (after_all-append k m0 (pairs ts) s) ∙ ap (after_all k m0) (sym more)));
        made = made_more r ts u d.made (subst (λ (z : Account). IsMade z u) is x.made);
        asked = ap (λ (b : Bool). call_before b r''.memo.call) (fresh_more (k.fresh m0) ts u)
            ∙ (ap (λ (z : Account). z.memo.call) x.account
            ∙ (ap (λ (tr : Trail). tr ++ s ∷ []) (ap (λ (b : Bool). call_before b r'.memo.call) first ∙ d.asked)
            ∙ (append_assoc (call_before (k.fresh m0) r.memo.call) (pairs ts) (s ∷ []) ∙ ap (λ (tr : Trail). call_before (k.fresh m0) r.memo.call ++ tr) (sym more))));
        events = λ does tells. events_more r ts u
            ∙ ((λ i. d.events does tells i ++ event_on (sym is i).memo u (asked_spot (sym is i).memo u) ∷ [])
            ∙ ((λ i. tells_along k does m0 (pairs ts) ++ (made_event does tells m r' r0 x.seen who lt going fit x.made ∙ ap (λ (z : M). does z x.seen) d.machine) i ∷ [])
            ∙ (sym (tells_more k does m0 (pairs ts) s) ∙ ap (tells_along k does m0) (sym more))));
      }

  -- a call that goes on
  pub more : (m0 m m' : M) (r r' r'' : Account) (t : Turn A) (r0 : Memo) (before left left' : ℕ) → (k.me m).who ≡ r'.who → (k.me m).who < (k.me m).geometry.clients → k.finished m ≡ false → fits_now k fits m r0 r'.memo → (o : Ongoing (shown k m0) r (shown k m) r' before left) → IsDriven k fits m0 m r r' o.steps
      → (x : ClientStepped k (fits_now k fits) (gives_now gives) m r' r'' t m') → k.turns m x.seen ≡ None → left' + 1 ≡ left → (p : Ongoing (shown k m0) r (shown k m') r'' before left') × IsDriven k fits m0 m' r r'' p.steps
  more m0 m m' r r' r'' t r0 before left left' who lt going fit o d x none down =
      let u : Step = step_of k m x.seen in
      let n : ℕ = length o.steps in
      let l : left + n ≡ before = o.life in
      let s : Shown = shown k m0 in
      let st = laws.steady m x.seen going in (
        record {
          steps = o.steps ++ u ∷ [];
          going = going_more s s.fresh o.steps u o.going (is_by k (fits_now k fits) (gives_now gives) laws.steady s r m r' r'' t m' before left o x) (st.ends ∙ ap is_some none);
          account = x.account ∙ (ap (λ (z : Account). account_after z u) o.account ∙ sym (accounts_more r o.steps u));
          life = omega (arith, length-append o.steps (u ∷ []));
          me = ap k.me x.next ∙ (st.same_me ∙ o.me);
          line = ap k.line x.next ∙ (st.same_line ∙ o.line);
          first = ap k.fresh x.next ∙ (st.started ∙ sym (fresh_more s.fresh o.steps u));
        },
        driven_more m0 m m' r r' r'' t o.steps r0 who lt going fit o.account o.first d x,
      )

  -- one that is cut off
  pub cut : (m0 m : M) (r r' : Account) (before left : ℕ) → (o : Ongoing (shown k m0) r (shown k m) r' before left) → IsDriven k fits m0 m r r' o.steps → Drives k fits m0 m r r' false before left
  cut m0 m r r' before left o d = record {
    call = record {
      steps = o.steps;
      last = [];
      going = o.going;
      ends = tt;
      account = o.account ∙ ap (accounts_by r) (sym (append-nil o.steps));
      life = ap (λ (ts : List Step). left + length ts) (append-nil o.steps) ∙ o.life;
    };
    driven = subst (IsDriven k fits m0 m r r') (sym (append-nil o.steps)) d;
  }

  -- a whole one
  pub whole : (m0 m m' : M) (r r' r'' : Account) (t : Turn A) (r0 : Memo) (before left left' : ℕ) (a : A) → (k.me m).who ≡ r'.who → (k.me m).who < (k.me m).geometry.clients → k.finished m ≡ false → fits_now k fits m r0 r'.memo → (o : Ongoing (shown k m0) r (shown k m) r' before left) → IsDriven k fits m0 m r r' o.steps
      → (x : ClientStepped k (fits_now k fits) (gives_now gives) m r' r'' t m') → k.turns m x.seen ≡ Some a → left' + 1 ≡ left → Drives k fits m0 m' r r'' true before left'
  whole m0 m m' r r' r'' t r0 before left left' a who lt going fit o d x some down = let u : Step = step_of k m x.seen in let n : ℕ = length o.steps in let l : left + n ≡ before = o.life in record {
    call = record {
      steps = o.steps;
      last = u ∷ [];
      going = o.going;
      ends = (is_by k (fits_now k fits) (gives_now gives) laws.steady (shown k m0) r m r' r'' t m' before left o x, (laws.steady m x.seen going).ends ∙ ap is_some some);
      account = x.account ∙ (ap (λ (z : Account). account_after z u) o.account ∙ sym (accounts_more r o.steps u));
      life = omega (arith, length-append o.steps (u ∷ []));
    };
    driven = driven_more m0 m m' r r' r'' t o.steps r0 who lt going fit o.account o.first d x;
  }

-- ---- a call

-- a whole call has asked for what it is told to have asked for
fresh_whole : (s : Shown) (b : Bool) (ts last : List Step) → Ending s (fresh_after b ts) true last → fresh_after b (ts ++ last) ≡ false
fresh_whole s b ts [] e = absurd e
fresh_whole s b ts (t ∷ []) e = fresh_more b ts t
fresh_whole s b ts (t ∷ u ∷ us) e = absurd e

call_now : (c b : Bool) (call call0 tr : Trail) → c ≡ false → b ≡ true → call_before c call ≡ call_before b call0 ++ tr → call ≡ tr
call_now c b call call0 tr e f h = ap (λ (x : Bool). call_before x call) (sym e) ∙ (h ∙ ap (λ (x : Bool). call_before x call0 ++ tr) f)

pub asked : {M A : Type 0} (k : Control M A) (fits : M → Memo → Memo → Trail → Type 0) (m m' : M) (e q : Account) (x y : ℕ) (o : Reply A) → k.fresh m ≡ true → (d : Drives k fits m m' e q (is_reply o) x y) → IfReply o (λ _. q.memo.call ≡ pairs (d.call.steps ++ d.call.last))
asked k fits m m' e q x y Died fresh d = tt
asked k fits m m' e q x y (Done a) fresh d =
    call_now (fresh_after (k.fresh m) (d.call.steps ++ d.call.last)) (k.fresh m) q.memo.call e.memo.call (pairs (d.call.steps ++ d.call.last)) (fresh_whole (shown k m) (k.fresh m) d.call.steps d.call.last d.call.ends) fresh d.driven.asked
