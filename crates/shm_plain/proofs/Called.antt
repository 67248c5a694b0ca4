-- what a call on a pool leaves, of the machine as it was made
use Rattle.std.proofs.Common.{◌≡◌, ℕ, ◌<◌, Bool, true, List, [], refl, sym, subst}
use Rattle.std.specs.{Prelude.{Option, Some, None, IfSome}, Option.is_some}
use Rattle.shm_words.specs.Layout.{GeometryFits}
use Rattle.shm_graph.specs.{declared.{ask.Me.Me, memo.Memo.Memo}, Agents.{acts, recovers}, Asks.Trail, Events.Event}
use Rattle.shm_graph.specs.{Idle.IsIdle, Laws.{Control, Laws}, Operations.IsReady, Runs.memos_of, Spots.see}
use Rattle.shm_graph.specs.{Tells.{Tells, happens_along}, Whole.{fits_now, gives_now}}
use Rattle.shm_plain.specs.{Pools.{Pool, IsOf, IsRun, memo_of, readied}, Calls.{Did, IsAtWork, Ran, TookSteps}}
use Rattle.shm_plain.proofs.{Calling.{fits_acting, may_acting, still_kind, still_working}, OwnTurns.called_did}
use Rattle.shm_plain.proofs.Answering.{some_map}

-- ---- what it says

module _ {M A : Type 0} (k : Control M A) (fits : M → Memo → Memo → Trail → Type 0) (gives : M → Memo → Memo → Trail → A → Type 0) (c : ℕ) (p : Pool) where
  -- what a call says: c had the pool p and the machine m, with x word steps left, and then the pool q, with y left, and this answer
  pub record Called (m : M) (q : Pool) (x y : ℕ) (o : Option A) : Type 0 where
    pub gave : (r0 : Memo) → fits_now k fits m r0 (memo_of (readied p c) c) → IfSome o (λ a. gives_now gives m r0 (memo_of q c) a)
    pub ran : Ran c (k.fresh m) (is_some o) p q x y
    pub took : 0 < x → TookSteps k c p m q
    pub events : 0 < x → k.fresh m ≡ true → (does : M → ℕ → Event) → Tells k fits does → Did c p q (happens_along k does m (memo_of q c).call)

  pub ran_fresh : (m : M) (q : Pool) (x y : ℕ) (o : Option A) → Called m q x y o → k.fresh m ≡ true → Ran c true (is_some o) p q x y
  ran_fresh m q x y o call fresh = subst (λ (b : Bool). Ran c b (is_some o) p q x y) fresh call.ran

-- ---- what it leaves, where an agent of the identity acts

-- what the machine m gives, from the pool p to q
abbrev pub Gave : {M A : Type 0} → (M → Memo → Memo → Trail → A → Type 0) → ℕ → Pool → M → Pool → A → Type 0
Gave gives c p m q a = gives_now gives m (memo_of p c) (memo_of q c) a

-- what a call of the machine m, which gives this and tells of these events, leaves of the pool p: the pool q, with this answer
pub record Answered {M A : Type 0} (k : Control M A) (says : M → Memo → Memo → Trail → A → Type 0) (does : M → ℕ → Event) (c : ℕ) (p : Pool) (m : M) (q : Pool) (x y : ℕ) (o : Option A) : Type 1 where
  pub gives : IfSome o (Gave says c p m q)
  pub ran : Ran c true (is_some o) p q x y
  pub kind : IfSome o (λ a. recovers (memo_of q c) ≡ recovers (memo_of p c))
  -- what follows from what it gives, and from its events
  pub follows : (P : A → Type 0) → ((a : A) → Gave says c p m q a → P a) → IfSome o P
  pub told : (P : A → Type 0) → ((a : A) → Gave says c p m q a → Did c p q (happens_along k does m (memo_of q c).call) → P a) → IfSome o P
  -- between two calls, where each answer leaves it so, and with the events that each answer tells of
  pub works : ((a : A) → Gave says c p m q a → IsIdle c (memo_of q c)) → IfSome o (λ a. IsAtWork c q)
  pub rests : (E : A → Type 0) → ((a : A) → Gave says c p m q a → E a → IsIdle c (memo_of q c)) → IfSome o (λ a. E a → IsAtWork c q)
  pub events : 0 < x → Did c p q (happens_along k does m (memo_of q c).call)
  pub did : (es : A → List Event) → ((a : A) → Gave says c p m q a → happens_along k does m (memo_of q c).call ≡ es a) → IfSome o (λ a. Did c p q (es a))

-- where an answer gives this, and there was a word step, it gives that
if_answered : {A : Type 0} (P Q : A → Type 0) (c : ℕ) (p q : Pool) (x y : ℕ) (o : Option A) → Ran c true (is_some o) p q x y → IfSome o P → (Ran c true true p q x y → (a : A) → P a → Q a) → IfSome o Q
if_answered P Q c p q x y None ran h f = tt
if_answered P Q c p q x y (Some a) ran h f = f ran a h

module _ {M A : Type 0} (k : Control M A) (fits : M → Memo → Memo → Trail → Type 0) (gives : M → Memo → Memo → Trail → A → Type 0) (c : ℕ) (p : Pool) (geometry : GeometryFits p.start.geometry) (who : c < p.start.geometry.clients) (act : acts (memo_of p c) ≡ true) (m : M) (fresh : k.fresh m ≡ true) (fit : fits m (memo_of p c) (memo_of p c) []) (n : M) (is : n ≡ m) where
  abbrev r0 : Memo
  r0 = memo_of p c

  -- the machine fits where it fits the memo
  fits_then : fits_now k fits m r0 (memo_of (readied p c) c)
  fits_then = fits_acting k fits gives c p m act fresh fit

  pub fits_first : fits_now k fits n r0 (memo_of (readied p c) c)
  fits_first = subst (λ (z : M). fits_now k fits z r0 (memo_of (readied p c) c)) (sym is) fits_then

  pub call_fits : (r : Memo) × fits_now k fits n r (memo_of (readied p c) c)
  call_fits = (r0, fits_first)

  module _ (q : Pool) (x y : ℕ) (o : Option A) (say : Called k fits gives c p n q x y o) where
    call : Called k fits gives c p m q x y o
    call = subst (λ (z : M). Called k fits gives c p z q x y o) is say

    ran : Ran c true (is_some o) p q x y
    ran = ran_fresh k fits gives c p m q x y o call fresh

    gave : IfSome o (Gave gives c p m q)
    gave = call.gave r0 fits_then

    -- by what it tells of its events
    answered_with : (does : M → ℕ → Event) → (0 < x → Did c p q (happens_along k does m (memo_of q c).call)) → Answered k gives does c p m q x y o
    answered_with does events =
        record {
          gives = gave;
          ran = ran;
          kind = if_answered (Gave gives c p m q) (λ a. recovers (memo_of q c) ≡ recovers r0) c p q x y o ran gave (λ done a g. still_kind c true p q x y act done);
          follows = λ P f. some_map (Gave gives c p m q) P o f gave;
          told = λ P f. if_answered (Gave gives c p m q) P c p q x y o ran gave (λ done a g. f a g (events (done.some refl)));
          works = λ f. if_answered (Gave gives c p m q) (λ a. IsAtWork c q) c p q x y o ran gave (λ done a g. still_working c true p q x y geometry who done (f a g));
          rests = λ E f. if_answered (Gave gives c p m q) (λ a. E a → IsAtWork c q) c p q x y o ran gave (λ done a g e. still_working c true p q x y geometry who done (f a g e));
          events = events;
          did = λ es f. if_answered (Gave gives c p m q) (λ a. Did c p q (es a)) c p q x y o ran gave (λ done a g. subst (Did c p q) (f a g) (events (done.some refl)));
        }

    pub answered : (does : M → ℕ → Event) → Tells k fits does → Answered k gives does c p m q x y o
    answered does tells = answered_with does (λ some. call.events some fresh does tells)

    -- with the events that it tells of under another condition that it meets
    pub answered_by : (F : M → Memo → Memo → Trail → Type 0) (G : M → Memo → Memo → Trail → A → Type 0) → Laws k F G → (does : M → ℕ → Event) → Tells k F does → IsRun p → IsOf p c k m → F m r0 r0 [] → Answered k gives does c p m q x y o
    answered_by F G laws does tells run of other =
        answered_with does (λ some. called_did k c p q m F G laws does tells r0 run ran.run ran.start (may_acting p c act) of (fits_acting k F G c p m act fresh other) fresh (call.took some))

-- an identity at work is between two calls
pub ready : (p : Pool) (c : ℕ) → IsRun p → IsAtWork c p → (me : Me) → me ≡ record { geometry = p.start.geometry; who = c } → IsReady me (memo_of p c)
ready p c run work me is =
    subst (λ (x : Me). IsReady x (memo_of p c)) (sym is)
    (record { geometry = work.geometry; who = work.who; held = (see p.start.geometry p.words, memos_of p.accounts, run.held.at, refl); idle = work.idle })
