-- turns that leave the map of a table as it was: those of calls that do at each step
use Rattle.std.proofs.Common.{◌≡◌, ℕ, ◌+◌, ◌<◌, Bool, true, false, List, [], ◌∷◌, ◌++◌, append-nil, append_assoc, length, length-append, refl, sym, ap, ◌∙◌, subst, arith}
use Rattle.std.specs.Prelude.{Option, Some, None, slice_index}
use Rattle.shm_graph.specs.declared.{memo.{Kind.Kind, Memo.Memo, Step.Step}, run.{Account.Account, Move.Move}}
use Rattle.shm_graph.specs.declared.run.Move.TheVariants.{Word, Begins}
use Rattle.shm_graph.specs.{Asks.{Trail, at_of, call_before, pair, seen_of}, Changes.{asked_spot, memo_after}}
use Rattle.shm_graph.specs.Laws.{Control, Laws, Outcome, is_some, step_of}
use Rattle.shm_graph.specs.Runs.{account_after, account_along, account_at, account_by, account_entered}
use Rattle.shm_graph.specs.{Tells.machine_steps, Whole.{fits_now, gives_now}}
use Rattle.shm_graph.proofs.{Machines.Wholes.whole_keeps, Memos.MemoSteps.memo_call, Runs.OwnTurns.along_both}
use Rattle.shm_count.specs.Steady.{SameMap}
use Rattle.shm_plain.specs.Calls.{words}
use Rattle.shm_pool.specs.Calls.{AreMade, CallSteps, Ending, Going, Shown, accounts_by, fresh_after, pairs}
use Rattle.shm_pool.specs.Rules.{IsMade}
use Rattle.shm_pool.proofs.Calling.{accounts_more}
use Rattle.shm_replay.specs.Closings.{SameTable}
use Rattle.shm_replay.proofs.Visited.{table_then}
use Rattle.shm_team.specs.Visits.{AreStill, HasStayed}

-- ---- turns, and further ones

still_both : (m : Memo) (e : Account) (xs ys : List Move) → AreStill m e xs → AreStill m (account_along e xs) ys → AreStill m e (xs ++ ys)
still_both m e [] ys h k = k
still_both m e (x ∷ xs) ys h k = (h.0, still_both m (account_by e x) xs ys h.1 k)

still_from : (m n : Memo) → SameTable m n → (e : Account) (xs : List Move) → AreStill n e xs → AreStill m e xs
still_from m n same e [] h = tt
still_from m n same e (x ∷ xs) h = (table_then m n (account_by e x).memo same h.0, still_from m n same (account_by e x) xs h.1)

still_end : (m : Memo) (e : Account) (xs : List Move) → SameTable m e.memo → AreStill m e xs → SameTable m (account_along e xs).memo
still_end m e [] same h = same
still_end m e (x ∷ xs) same h = still_end m (account_by e x) xs h.0 h.1

pub stayed_then : (e f g : Account) → HasStayed e f → HasStayed f g → HasStayed e g
stayed_then e f g h k =
    let same : SameTable e.memo f.memo = subst (λ (z : Account). SameTable e.memo z.memo) (sym h.made) (still_end e.memo e h.turns (record { map = λ key. refl; loose = refl }) h.still) in
    record {
      turns = h.turns ++ k.turns;
      grew = k.grew ∙ (ap (λ (xs : List Move). xs ++ k.turns) h.grew ∙ append_assoc e.turns h.turns k.turns);
      made = k.made ∙ (ap (λ (z : Account). account_along z k.turns) h.made ∙ sym (along_both e h.turns k.turns));
      still = still_both e.memo e h.turns k.turns h.still (subst (λ (z : Account). AreStill e.memo z k.turns) h.made (still_from e.memo f.memo same f k.turns k.still));
    }

-- the beginning of an agent
pub stayed_begins : (k : Kind) (e : Account) → HasStayed e (account_entered k e)
stayed_begins k e = record { turns = Begins e.who k ∷ []; grew = refl; made = refl; still = (record { map = λ key. refl; loose = refl }, tt) }

-- ---- word steps

-- after each of these steps the map of the table is that of m
abbrev pub AreSame : Memo → Account → List Step → Type 0
AreSame m e [] = Unit {0}
AreSame m e (t ∷ ts) = SameTable m (account_after e t).memo × AreSame m (account_after e t) ts

along_words : (e : Account) (ts : List Step) → accounts_by e ts ≡ account_along e (words ts)
along_words e [] = refl
along_words e (t ∷ ts) = along_words (account_after e t) ts

grew_words : (e : Account) (ts : List Step) → (accounts_by e ts).turns ≡ e.turns ++ words ts
grew_words e [] = sym (append-nil e.turns)
grew_words e (t ∷ ts) = grew_words (account_after e t) ts ∙ append_assoc e.turns (Word t ∷ []) (words ts)

still_words : (m : Memo) (e : Account) (ts : List Step) → AreSame m e ts → AreStill m e (words ts)
still_words m e [] h = tt
still_words m e (t ∷ ts) h = (h.0, still_words m (account_after e t) ts h.1)

pub stayed_call : (s : Shown) (e f : Account) (over : Bool) (before left : ℕ) → (c : CallSteps s e f over before left) → AreSame e.memo e (c.steps ++ c.last) → HasStayed e f
stayed_call s e f over before left c same =
    let ts : List Step = c.steps ++ c.last in
    record {
      turns = words ts;
      grew = ap (λ (z : Account). z.turns) c.account ∙ grew_words e ts;
      made = c.account ∙ along_words e ts;
      still = still_words e.memo e ts same;
    }

-- ---- a machine that leaves the map as it was wherever it fits

same_of : (m r : Memo) → SameMap m r → SameTable m r
same_of m r h = record { map = λ key. ap (λ z. z key) h.0; loose = h.1 }

first_same : (t u : Step) (ts us : List Step) → t ∷ ts ≡ u ∷ us → t ≡ u
first_same t u ts us e = cc

rest_same : (t u : Step) (ts us : List Step) → t ∷ ts ≡ u ∷ us → ts ≡ us
rest_same t u ts us e = cc

none_of : {A : Type 0} (o : Option A) → is_some o ≡ false → o ≡ None
none_of None e = refl
none_of (Some a) e = absurd (cc)

outcome_on : {A : Type 0} (o : Option A) (P : Type 0) (Q : A → Type 0) → o ≡ None → Outcome o P Q → P
outcome_on o P Q none h = subst (λ z. Outcome z P Q) none h

module _ {M A : Type 0} (k : Control M A) (fits : M → Memo → Memo → Trail → Type 0) (gives : M → Memo → Memo → Trail → A → Type 0) (laws : Laws k fits gives) (steady : (m : M) (r0 r : Memo) (tr : Trail) → k.finished m ≡ false → fits m r0 r tr → SameMap r0 r) (r0 : Memo) where
  -- after a step by which it didn't end it fits again
  fits_on : (m : M) (e : Account) (n : ℕ) → (k.me m).who ≡ e.who → (k.me m).who < (k.me m).geometry.clients → k.finished m ≡ false → fits_now k fits m r0 e.memo → IsMade e (step_of k m n) → k.turns m n ≡ None → fits_now k fits (k.after m n) r0 (account_after e (step_of k m n)).memo
  fits_on m e n who low going fit made none =
      let here : account_at made.accounts (k.me m).who ≡ e = ap (account_at made.accounts) who ∙ made.here.1 in
      let kept = whole_keeps k fits gives laws m made.words made.accounts r0 made.held low (subst (λ (z : Account). fits_now k fits m r0 z.memo) (sym here) fit) going in
      let found : seen_of (k.asks m) (slice_index made.words (at_of (k.asks m))) ≡ n = sym made.move.0 in
      let learns = subst (λ (z : Account). let r : Memo = memo_after z.memo (step_of k m n) in Outcome (k.turns m n) (fits_now k fits (k.after m n) r0 r) (gives_now gives m r0 r)) here
      (subst (λ (v : ℕ). let r : Memo = memo_after (account_at made.accounts (k.me m).who).memo (step_of k m v) in Outcome (k.turns m v) (fits_now k fits (k.after m v) r0 r) (gives_now gives m r0 r)) found kept.learns) in
      outcome_on (k.turns m n) (fits_now k fits (k.after m n) r0 (memo_after e.memo (step_of k m n))) (gives_now gives m r0 (memo_after e.memo (step_of k m n))) none learns

  -- a machine that has made a step isn't fresh
  old_still : (ts : List Step) → fresh_after false ts ≡ false
  old_still [] = refl
  old_still (t ∷ ts) = refl

  pub same_steps : (s : Shown) (b : Bool) (m : M) (e : Account) (ts last : List Step) → (k.me m).who ≡ e.who → (k.me m).who < (k.me m).geometry.clients → k.finished m ≡ false → fits_now k fits m r0 e.memo → Going s b ts → Ending s (fresh_after b ts) true last → ts ++ last ≡ machine_steps k m (pairs (ts ++ last)) → AreMade e (ts ++ last)
      → SameTable r0 (accounts_by e (ts ++ last)).memo → AreSame r0 e (ts ++ last)
  same_steps s b m e [] [] who low going fit goes ends steps made same = absurd ends
  same_steps s b m e [] (t ∷ u ∷ us) who low going fit goes ends steps made same = absurd ends
  same_steps s b m e [] (t ∷ []) who low going fit goes ends steps made same = (same, tt)
  same_steps s b m e (t ∷ ts) last who low going fit goes ends steps made same =
      let n : ℕ = t.seen in
      let is : t ≡ step_of k m n = first_same t (step_of k m n) (ts ++ last) (machine_steps k (k.after m n) (pairs (ts ++ last))) steps in
      let stays = laws.steady m n going in
      let on : k.finished (k.after m n) ≡ false = sym (ap (λ (z : Step). z.ends) is) ∙ goes.1 in
      let now : fits_now k fits (k.after m n) r0 (account_after e t).memo =
      subst (λ (z : Step). fits_now k fits (k.after m n) r0 (account_after e z).memo) (sym is) (fits_on m e n who low going fit (subst (IsMade e) is made.0) (none_of (k.turns m n) (sym stays.ends ∙ on))) in (
        same_of r0 (account_after e t).memo (steady (k.after m n) r0 (account_after e t).memo (call_before (k.fresh (k.after m n)) (account_after e t).memo.call) on now),
        same_steps s false (k.after m n) (account_after e t) ts last (ap (λ z. z.who) stays.same_me ∙ who) (subst (λ z. z.who < z.geometry.clients) (sym stays.same_me) low) on now goes.2 (subst (λ (z : Bool). Ending s z true last) (sym (old_still ts)) ends) (rest_same t (step_of k m n) (ts ++ last) (machine_steps k (k.after m n) (pairs (ts ++ last))) steps) made.1 same,
      )

-- ---- a call of one step

-- a step makes the call longer by one
longer : (r : Account) (t : Step) → length (account_after r t).memo.call ≡ length (call_before t.fresh r.memo.call) + 1
longer r t = ap (λ (tr : Trail). length tr) (memo_call r.memo t (asked_spot r.memo t)) ∙ length-append (call_before t.fresh r.memo.call) (pair t.ask t.seen ∷ [])

calls_false : (s : Shown) (ts : List Step) (r : Account) → Going s false ts → length (accounts_by r ts).memo.call ≡ length r.memo.call + length ts
calls_false s [] r g = omega arith
calls_false s (t ∷ ts) r g =
    let x = calls_false s ts (account_after r t) g.2 in
    let one = longer r t in
    let many = ap (λ (b : Bool). length (call_before b r.memo.call)) g.0.first in
    omega arith

-- a whole call by which one word was asked for is one step
pub same_once : (s : Shown) (e f : Account) (before left : ℕ) → s.fresh ≡ true → (c : CallSteps s e f true before left) → length f.memo.call ≡ 1 → SameTable e.memo f.memo → AreSame e.memo e (c.steps ++ c.last)
same_once s e f before left fresh c one same = go c.steps c.last (subst (λ (b : Bool). Going s b c.steps) fresh c.going) (subst (λ (b : Bool). Ending s (fresh_after b c.steps) true c.last) fresh c.ends) c.account
  where
    go : (ts last : List Step) → Going s true ts → Ending s (fresh_after true ts) true last → f ≡ accounts_by e (ts ++ last) → AreSame e.memo e (ts ++ last)
    go [] [] g x is = absurd x
    go [] (t ∷ u ∷ us) g x is = absurd x
    go [] (t ∷ []) g x is = (subst (λ (z : Account). SameTable e.memo z.memo) is same, tt)
    go (t ∷ ts) [] g x is = absurd x
    go (t ∷ ts) (u ∷ v ∷ us) g x is = absurd x
    go (t ∷ ts) (u ∷ []) g x is =
        let r : Account = account_after e t in
        let z : Account = accounts_by r ts in
        let first = longer e t in
        let on = calls_false s ts r g.2 in
        let end = longer z u in
        let kept : call_before u.fresh z.memo.call ≡ z.memo.call = ap (λ (b : Bool). call_before b z.memo.call) x.0.first in
        let many = ap (λ (tr : Trail). length tr) kept in
        let whole = ap (λ (w : Account). length w.memo.call) (is ∙ accounts_more r ts u) in
        absurd (omega arith)
