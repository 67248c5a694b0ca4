-- a call, one step on, at its end and cut off
use Rattle.std.proofs.Common.{◌≡◌, ◌≢◌, ℕ, ◌<◌, Bool, true, false, cond, ◌&&◌, List, [], ◌∷◌, ◌++◌, refl, sym, ap, ◌∙◌, subst, true≢false}
use Rattle.std.specs.Prelude.{if◌then◌else◌, Option, Some, None}
use Rattle.shm_words.specs.declared.geometry.Geometry.{Geometry}
use Rattle.shm_graph.specs.declared.{ask.{Me.Me, Turn.Turn}, memo.{Memo.Memo, Status.Status}}
use Rattle.shm_graph.specs.declared.{memo.{Status.TheVariants.{Gone, Live}, Step.Step}, run.Account.Account}
use Rattle.shm_graph.specs.{Agents.{acts, is_gone, recovers}, Asks.call_after, Changes.asked_spot}
use Rattle.shm_graph.specs.Laws.{Control, Steady, step_of, turn_of, is_died, is_done, is_some, Outcome}
use Rattle.shm_graph.specs.Runs.{account_after, told_by, told_left, begun_by}
use Rattle.shm_graph.proofs.Memos.MemoSteps.{acts_after, acts-on, memo_call, memo_over, recovers_on}
use Rattle.shm_pool.specs.{Rules.IsOf, Tokens.{IsServing, has_left}}
use Rattle.shm_pool.specs.Calls.{Shown, shown, accounts_by, IsBy, Going, fresh_after, Ending, CallSteps, ClientStepped, Ongoing, TellsLine, acts_still}

-- a step leaves what kind of agent acts
pub kind_same : (e : Account) (t : Step) → recovers (account_after e t).memo ≡ recovers e.memo
kind_same e t = recovers_on e.memo t (asked_spot e.memo t)

-- a machine never answers that its agent died
pub never_died : {A : Type 0} (o : Option A) → is_died (turn_of o) ≡ false
never_died None = refl
never_died (Some a) = refl

pub accounts_more : (r : Account) (ts : List Step) (t : Step) → accounts_by r (ts ++ t ∷ []) ≡ account_after (accounts_by r ts) t
accounts_more r [] t = refl
accounts_more r (u ∷ us) t = accounts_more (account_after r u) us t

pub going_more : (s : Shown) (fresh : Bool) (ts : List Step) (t : Step) → Going s fresh ts → IsBy s (fresh_after fresh ts) t → t.ends ≡ false → Going s fresh (ts ++ t ∷ [])
going_more s fresh [] t g by on = (by, on, tt)
going_more s fresh (u ∷ []) t g by on = (g.0, g.1, (by, on, tt))
going_more s fresh (u ∷ v ∷ us) t g by on = (g.0, g.1, going_more s false (v ∷ us) t g.2 by on)

pub fresh_more : (fresh : Bool) (ts : List Step) (t : Step) → fresh_after fresh (ts ++ t ∷ []) ≡ false
fresh_more fresh [] t = refl
fresh_more fresh (u ∷ us) t = refl

-- whether the agent acts after a step that is not the machine's last, and after one that is
acts_going : (e : Account) (t : Step) → t.ends ≡ false → acts (account_after e t).memo ≡ acts e.memo
acts_going e t n = acts-on e.memo t (asked_spot e.memo t) n

acts_over : (e : Account) (t : Step) → t.ends ≡ true → acts e.memo ≡ true → acts (account_after e t).memo ≡ acts_still true (account_after e t).memo
acts_over e t y acting = acts_after e.memo t (asked_spot e.memo t) ∙ by (is_gone (account_after e t).memo.status) t.ends (acts e.memo) y acting
  where
    by : (b d x : Bool) → d ≡ true → x ≡ true → cond (b && d) false x ≡ cond b false true
    by true d x e f = ap (λ (z : Bool). cond z false x) e
    by false d x e f = f

-- a step of an agent that acts leaves it acting, unless the client has left by it
pub serves_on : (e : Account) (t : Step) → acts e.memo ≡ true → acts (account_after e t).memo ≡ cond (has_left (account_after e t).memo) false true
serves_on e t acting = acts_after e.memo t (asked_spot e.memo t) ∙ ap (λ (b : Bool). cond (has_left (account_after e t).memo) false b) acting

-- who acts hasn't left, and who hasn't left acts
pub still_here : (b : Bool) → true ≡ cond b false true → b ≡ false
still_here true e = absurd (true≢false e)
still_here false e = refl

pub acts_here : (m : Memo) → acts m ≡ cond (has_left m) false true → has_left m ≡ false → acts m ≡ true
acts_here m is here = is ∙ ap (λ (b : Bool). cond b false true) here

pub serving_acts : (dead : Bool) (m : Memo) → IsServing dead m → (dead ≡ false → has_left m ≡ false) → acts m ≡ true
serving_acts true m s h = acts_here m s.acts (s.there refl)
serving_acts false m s h = acts_here m s.acts (h refl)

-- where the identity isn't gone, its client hasn't left
here_by : (s : Status) (b : Bool) → s ≢ Gone → (is_gone s && b) ≡ false
here_by Gone b n = absurd (n refl)
here_by _ b n = refl

pub is_here : (m : Memo) → m.status ≢ Gone → has_left m ≡ false
is_here m n = here_by m.status m.over n

pub live_here : (m : Memo) → m.status ≡ Live → has_left m ≡ false
live_here m live = ap (λ (s : Status). is_gone s && m.over) live

module _ {M A : Type 0} (k : Control M A) (fits : M → Memo → Memo → Type 0) (gives : M → Memo → Memo → A → Type 0) (steady : Steady k) where
  pub is_by : (s : Shown) (r : Account) (m : M) (r' r'' : Account) (t : Turn A) (m' : M) (before left : ℕ) → (o : Ongoing s r (shown k m) r' before left) → (x : ClientStepped k fits gives m r' r'' t m') → IsBy s (fresh_after s.fresh o.steps) (step_of k m x.seen)
  is_by s r m r' r'' t m' before left o x = record { me = o.me; line = o.line; first = o.first }

  -- a step that goes on leaves an agent that acts, and one that is done leaves one where the status isn't gone
  pub acts_more : (m : M) (r' r'' : Account) (t : Turn A) (m' : M) → k.finished m ≡ false → acts r'.memo ≡ true → (x : ClientStepped k fits gives m r' r'' t m') → k.turns m x.seen ≡ None → acts r''.memo ≡ true
  acts_more m r' r'' t m' going acting x none = ap (λ (z : Account). acts z.memo) x.account ∙ (acts_going r' (step_of k m x.seen) ((steady m x.seen going).ends ∙ ap is_some none) ∙ acting)

  pub acts_done : (m : M) (r' r'' : Account) (t : Turn A) (m' : M) (a : A) → k.finished m ≡ false → acts r'.memo ≡ true → (x : ClientStepped k fits gives m r' r'' t m') → k.turns m x.seen ≡ Some a → acts r''.memo ≡ acts_still true r''.memo
  acts_done m r' r'' t m' a going acting x some =
      let u : Step = step_of k m x.seen in
      subst (λ (z : Account). acts z.memo ≡ acts_still true z.memo) (sym x.account) (acts_over r' u ((steady m x.seen going).ends ∙ ap is_some some) acting)

  -- after any step
  pub acts_stepped : (m : M) (r' r'' : Account) (t : Turn A) (m' : M) → k.finished m ≡ false → acts r'.memo ≡ true → (x : ClientStepped k fits gives m r' r'' t m') → acts r''.memo ≡ acts_still (is_done t) r''.memo
  acts_stepped m r' r'' t m' going acting x = by (k.turns m x.seen) refl
    where
      by : (o : Option A) → k.turns m x.seen ≡ o → acts r''.memo ≡ acts_still (is_done t) r''.memo
      by None e = subst (λ (y : Turn A). acts r''.memo ≡ acts_still (is_done y) r''.memo) (sym (x.turn ∙ ap turn_of e)) (acts_more m r' r'' t m' going acting x e)
      by (Some a) e = subst (λ (y : Turn A). acts r''.memo ≡ acts_still (is_done y) r''.memo) (sym (x.turn ∙ ap turn_of e)) (acts_done m r' r'' t m' a going acting x e)

  -- the machine is still of this identity, and not finished
  pub still_of : (g : Geometry) (m : M) (r' r'' : Account) (t : Turn A) (m' : M) → IsOf g r' k m → (x : ClientStepped k fits gives m r' r'' t m') → k.turns m x.seen ≡ None → IsOf g r'' k m'
  still_of g m r' r'' t m' is x none =
      let st = steady m x.seen is.2 in
      let w : r''.who ≡ r'.who = ap (λ (z : Account). z.who) x.account in
      let me : k.me m' ≡ record { geometry = g; who = r'.who } = ap k.me x.next ∙ (st.same_me ∙ is.0) in
      let lt : r'.who < g.clients = is.1 in (
        me ∙ ap (λ (z : ℕ). let y : Me = record { geometry = g; who = z } in y) (sym w),
        subst (λ (z : ℕ). z < g.clients) (sym w) lt,
        ap k.finished x.next ∙ (st.ends ∙ ap is_some none),
        acts_more m r' r'' t m' is.2 is.3 x none,
      )

-- what a step that goes on leaves, and one that is done
module _ {M A : Type 0} (k : Control M A) (fits : M → Memo → Memo → Type 0) (gives : M → Memo → Memo → A → Type 0) where
  pub goes_on : (m : M) (r r' : Account) (t : Turn A) (m' : M) (r0 : Memo) → fits m r0 r.memo → (x : ClientStepped k fits gives m r r' t m') → k.turns m x.seen ≡ None → fits m' r0 r'.memo
  goes_on m r r' t m' r0 fit x none = subst (λ (z : M). fits z r0 r'.memo) (sym x.next) (subst (λ (o : Option A). Outcome o (fits (k.after m x.seen) r0 r'.memo) (gives m r0 r'.memo)) none (x.suits r0 fit))

  pub is_over : (m : M) (r r' : Account) (t : Turn A) (m' : M) (r0 : Memo) (a : A) → fits m r0 r.memo → (x : ClientStepped k fits gives m r r' t m') → k.turns m x.seen ≡ Some a → gives m r0 r'.memo a
  is_over m r r' t m' r0 a fit x some = subst (λ (o : Option A). Outcome o (fits (k.after m x.seen) r0 r'.memo) (gives m r0 r'.memo)) some (x.suits r0 fit)

told_false : (s : Shown) (ts : List Step) (r : Account) → Going s false ts → (accounts_by r ts).told ≡ r.told × ((accounts_by r ts).begun ≡ r.begun)
told_false s [] r g = (refl, refl)
told_false s (t ∷ ts) r g =
    let x = told_false s ts (account_after r t) g.2 in (
      x.0 ∙ (ap (λ (b : Bool). if b then told_by t.line (call_after t.fresh r.memo.call t.ask t.seen) true (told_left t.fresh r) else told_left t.fresh r) g.1 ∙ ap (λ (b : Bool). told_left b r) g.0.first),
      x.1 ∙ ap (λ (b : Bool). if b then begun_by t.line r.begun else r.begun) g.0.first,
    )

-- what the account says of lines before the last step of a whole call
told_going : (s : Shown) (ts : List Step) (r : Account) → Going s true ts → (told_left (fresh_after true ts) (accounts_by r ts) ≡ told_left true r) × ((if fresh_after true ts then begun_by s.line (accounts_by r ts).begun else (accounts_by r ts).begun) ≡ begun_by s.line r.begun)
told_going s [] r g = (refl, refl)
told_going s (t ∷ ts) r g =
    let x = told_false s ts (account_after r t) g.2 in (
      x.0 ∙ (ap (λ (b : Bool). if b then told_by t.line (call_after t.fresh r.memo.call t.ask t.seen) true (told_left t.fresh r) else told_left t.fresh r) g.1 ∙ ap (λ (b : Bool). told_left b r) g.0.first),
      x.1 ∙ (ap (λ (b : Bool). if b then begun_by t.line r.begun else r.begun) g.0.first ∙ ap (λ (l : List ℕ). begun_by l r.begun) g.0.line),
    )

-- what a whole call of a machine tells and begins
pub tells : (s : Shown) (r r' : Account) (before left : ℕ) → s.fresh ≡ true → CallSteps s r r' true before left → TellsLine s.line r r'
tells s r r' before left fresh c = go c.last c.ends c.account
  where
    going : Going s true c.steps
    going = subst (λ (b : Bool). Going s b c.steps) fresh c.going

    go : (last : List Step) → Ending s (fresh_after s.fresh c.steps) true last → r' ≡ accounts_by r (c.steps ++ last) → TellsLine s.line r r'
    go [] e m = absurd e
    go (t ∷ u ∷ us) e m = absurd e
    go (t ∷ []) e m =
        let old : Account = accounts_by r c.steps in
        let is : r' ≡ account_after old t = m ∙ accounts_more r c.steps t in
        let first : t.fresh ≡ fresh_after true c.steps = e.0.first ∙ ap (λ (b : Bool). fresh_after b c.steps) fresh in
        let x = told_going s c.steps r going in
        let calls : (account_after old t).memo.call ≡ call_after t.fresh old.memo.call t.ask t.seen = memo_call old.memo t (asked_spot old.memo t) in record {
          told = ap (λ (z : Account). z.told) is ∙ (ap (λ (b : Bool). if b then told_by t.line (call_after t.fresh old.memo.call t.ask t.seen) true (told_left t.fresh old) else told_left t.fresh old) e.1
              ∙ ((λ i. told_by (e.0.line i) (sym calls i) true ((ap (λ (b : Bool). told_left b old) first ∙ x.0) i)) ∙ ap (λ (z : Account). told_by s.line z.memo.call true (told_left true r)) (sym is)));
          begun = ap (λ (z : Account). z.begun) is ∙ ((λ i. if first i then begun_by (e.0.line i) old.begun else old.begun) ∙ x.1);
          running = ap (λ (z : Account). z.running) is ∙ ap (λ (b : Bool). if b then [] else t.line) e.1;
          over = ap (λ (z : Account). z.memo.over) is ∙ (memo_over old.memo t (asked_spot old.memo t) ∙ e.1);
        }

-- where a machine's answer leaves another status than gone, the agent acts
pub acts_stay : (m : Memo) → is_gone m.status ≡ false → acts m ≡ acts_still true m → acts m ≡ true
acts_stay m n is = is ∙ ap (λ (b : Bool). cond b false true) n

pub acts_leave : (m : Memo) → m.status ≡ Gone → acts m ≡ acts_still true m → acts m ≡ false
acts_leave m gone is = is ∙ ap (λ (s : Status). cond (is_gone s) false true) gone
