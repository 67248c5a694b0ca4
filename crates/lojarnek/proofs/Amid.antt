-- a call that is made some word steps at a time: one step more, its end, and its death
use Rattle.std.proofs.Common.{◌≡◌, ℕ, ◌+◌, ◌<◌, true, false, cond, List, [], refl, sym, ap, ◌∙◌, subst, arith}
use Rattle.std.proofs.lemmas.Bool.{true≢false}
use Rattle.std.specs.Prelude.{None, Some}
use Rattle.shm_graph.specs.{declared.{ask.{Me.Me, Turn.Turn}, memo.Memo.Memo, run.Account.Account}, Agents.acts}
use Rattle.shm_graph.specs.{Asks.Trail, Events.Event, Laws.{Control, Laws, is_some, step_of}}
use Rattle.shm_graph.specs.{Operations.{IsReady, OperationLaws}, Runs.Stood, Whole.{fits_now, gives_now}}
use Rattle.shm_pool.specs.{Calls.{ClientStepped, Drives, IsBetween, StillFits, shown}, Doing.HasDone, Replies.IsLost}
use Rattle.shm_pool.specs.Tokens.{Acting, IsServing, Its, has_left, me_of}
use Rattle.shm_pool.specs.declared.reply.Reply.TheVariants as reply
use Rattle.shm_pool.proofs.Calling.{acts_here, acts_more, goes_on, is_over, live_here, serves_on, still_here, tells}
use Rattle.shm_pool.proofs.Driving.{asked, cut, driven_none, more, whole}
use Rattle.shm_pool.proofs.Replied.{begun, ready, replied, rested, told}
use Rattle.lojarnek.specs.{Amid.{IsAmid, IsCutOff}, Standing.{Acts, acts_of}}

module _ {M A : Type 0} (k : Control M A) (fits : M → Memo → Memo → Trail → Type 0) (gives : M → Memo → Memo → Trail → A → Type 0) (may : M → Memo → Type 0) (does : M → ℕ → Event) (leaves : M → Memo → Memo → Trail → List Event → A → Type 0) (ends : M → A → Type 0) (laws : Laws k fits gives) (l : OperationLaws k fits gives may does leaves ends) where
  -- before the first word step
  pub amid_first : (n : M) (t : Acting) (left : ℕ) → t.dead ≡ false → Stood t.of.start t.account → IsBetween t.account → k.me n ≡ me_of t.of t.account → may n t.account.memo → IsAmid k fits gives may n n (acts_of t left) (acts_of t left)
  amid_first n t left alive stood between me m =
      let is : IsReady (k.me n) t.account.memo = ready t.of t.account stood between.idle (k.me n) me in
      record {
        lived = alive;
        alive = alive;
        same = (refl, refl);
        effect = refl;
        stood = stood;
        between = between;
        me = me;
        might = m;
        asks = (me, l.asks n t.account.memo m, (λ first. between.over), live_here t.account.memo between.idle.live);
        suits = begun k fits gives may does leaves ends l n t.account t.account t.dead (λ d. is) (λ d. m) alive;
        leads = λ r a h. h;
        so_far = (record { steps = []; going = tt; account = refl; life = let x : ℕ = left in omega arith; me = refl; line = refl; first = refl }, driven_none k fits gives laws n t.account);
      }

  -- one step
  module _ (n m m' : M) (c : Acts) (t t' : Acting) (left left' : ℕ) (turn : Turn A) (at : IsAmid k fits gives may n m c (acts_of t left)) (below : t.account.who < t.of.start.geometry.clients) (same : (t'.of ≡ t.of) × (t'.account.who ≡ t.account.who)) (effect : t'.effect ≡ t.effect) where
    abbrev e : Account
    e = c.token.account

    lt : (k.me m).who < (k.me m).geometry.clients
    lt = subst (λ (z : Me). z.who < z.geometry.clients) (sym at.asks.0) below

    who : (k.me m).who ≡ t.account.who
    who = ap (λ (z : Me). z.who) at.asks.0

    all_same : (t'.of ≡ c.token.of) × (t'.account.who ≡ c.token.account.who)
    all_same = (same.0 ∙ at.same.0, same.1 ∙ at.same.1)

    me_same : me_of t.of t.account ≡ me_of t'.of t'.account
    me_same = ap (λ (p : Its). let y : Me = record { geometry = p.start.geometry; who = t.account.who } in y) (sym same.0) ∙ ap (λ (z : ℕ). let y : Me = record { geometry = t'.of.start.geometry; who = z } in y) (sym same.1)

    is_ready : IsReady (k.me n) e.memo
    is_ready = ready c.token.of e at.stood at.between.idle (k.me n) at.me

    module _ (alive : t'.dead ≡ false) (serves : IsServing t.dead t.account.memo) (down : left' + 1 ≡ left) (x : ClientStepped k (fits_now k fits) (gives_now gives) m t.account t'.account turn m') where
      acting : acts t.account.memo ≡ true
      acting = acts_here t.account.memo serves.acts at.asks.3

      here : k.turns m x.seen ≡ None → has_left t'.account.memo ≡ false
      here none =
          still_here (has_left t'.account.memo)
          (sym (acts_more k (fits_now k fits) (gives_now gives) laws.steady m t.account t'.account turn m' at.asks.1 acting x none)
          ∙ subst (λ (z : Account). acts z.memo ≡ cond (has_left z.memo) false true) (sym x.account) (serves_on t.account (step_of k m x.seen) acting))

      pub amid_more : k.turns m x.seen ≡ None → IsAmid k fits gives may n m' c (acts_of t' left')
      amid_more none =
          let st = laws.steady m x.seen at.asks.1 in
          record {
            lived = at.lived;
            alive = alive;
            same = all_same;
            effect = effect ∙ at.effect;
            stood = at.stood;
            between = at.between;
            me = at.me;
            might = at.might;
            asks = (
              ap k.me x.next ∙ (st.same_me ∙ (at.asks.0 ∙ me_same)),
              ap k.finished x.next ∙ (st.ends ∙ ap is_some none),
              (λ first. absurd (true≢false (sym first ∙ (ap k.fresh x.next ∙ st.started)))),
              here none,
            );
            suits = goes_on k (fits_now k fits) (gives_now gives) m t.account t'.account turn m' e.memo at.suits x none;
            leads = λ r a h. at.leads r a (laws.back m x.seen at.asks.1 none e.memo r r.call a (subst (λ (z : M). gives_now gives z e.memo r a) x.next h));
            so_far = more k fits gives laws n m m' e t.account t'.account turn e.memo c.left left left' who lt at.asks.1 at.suits at.so_far.0 at.so_far.1 x none down;
          }

      pub amid_done : (a : A) → Stood t'.of.start t'.account → k.turns m x.seen ≡ Some a → HasDone k does leaves ends n c.token t' c.left left' (reply.Done a)
      amid_done a stood some =
          let d : Drives k fits n m' e t'.account true c.left left' = whole k fits gives laws n m m' e t.account t'.account turn e.memo c.left left left' a who lt at.asks.1 at.suits at.so_far.0 at.so_far.1 x some down in
          let lost : c.token.dead ≡ true → IsLost (reply.Done a) = λ z. absurd (true≢false (sym z ∙ at.lived)) in
          let gave = at.leads t'.account.memo a (is_over k (fits_now k fits) (gives_now gives) m t.account t'.account turn m' e.memo a at.suits x some) in
          let left_so = replied k fits gives may does leaves ends l n e t'.account c.token.dead (λ z. is_ready) (λ z. at.might) (reply.Done a) lost gave in
          let once = told k fits gives may does leaves ends l n e t'.account c.token.dead (λ z. is_ready) (λ z. at.might) (reply.Done a) lost (λ fresh. tells (shown k n) e t'.account c.left left' fresh d.call) in
          record {
            same = all_same;
            stood = stood;
            died = ((λ z. absurd z), (λ z. absurd (true≢false (sym z ∙ alive))));
            again = λ z. absurd (true≢false (sym z ∙ at.lived));
            spent = λ z y. absurd y;
            call = λ z. d.call;
            events = λ z. record { steps = d.driven.steps; made = d.driven.made; events = d.driven.events does l.tells };
            asked = λ z. asked k fits n m' e t'.account c.left left' (reply.Done a) (l.fresh n e.memo at.might) d;
            told = once;
            left_so = left_so;
            between = rested k fits gives may does leaves ends l n e t'.account c.token.dead (λ z. is_ready) (λ z. at.might) (reply.Done a) lost left_so once (ap (λ (z : Me). z.who) at.me ∙ sym all_same.1);
          }

    -- no life was left
    module _ (dead : t'.dead ≡ true) (stays : t'.account ≡ t.account) (unmoved : m' ≡ m) (none : left' ≡ 0) (unspent : left' ≡ left) where
      pub amid_cut : IsCutOff k fits gives may n m' c (acts_of t' left')
      amid_cut =
          let d : Drives k fits n m e t.account false c.left left = cut k fits gives laws n m e t.account c.left left at.so_far.0 at.so_far.1 in
          record {
            drove = subst (λ (z : M). Drives k fits n z e t'.account false c.left left') (sym unmoved) (subst (λ (z : Account). Drives k fits n m e z false c.left left') (sym stays) (subst (λ (z : ℕ). Drives k fits n m e t.account false c.left z) (sym unspent) d));
            still = subst (λ (z : M). StillFits k (fits_now k fits) z e.memo t'.account.memo) (sym unmoved) (subst (λ (z : Account). StillFits k (fits_now k fits) m e.memo z.memo) (sym stays) (record { going = at.asks.1; suits = at.suits }));
          }

      pub amid_died : Stood t'.of.start t'.account → HasDone k does leaves ends n c.token t' c.left left' reply.Died
      amid_died stood =
          let d = amid_cut.drove in
          record {
            same = all_same;
            stood = stood;
            died = ((λ z. dead), (λ z. tt));
            again = λ z. absurd (true≢false (sym z ∙ at.lived));
            spent = λ z y. none;
            call = λ z. d.call;
            events = λ z. record { steps = d.driven.steps; made = d.driven.made; events = d.driven.events does l.tells };
            asked = λ z. tt;
            told = tt;
            left_so = tt;
            between = tt;
          }
