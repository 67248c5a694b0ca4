-- a machine that goes on, step by step, on a pool
use Rattle.std.proofs.Common.{◌≡◌, ◌≢◌, ℕ, ◌+◌, ◌<◌, ◌&&◌, true, false, Bool, cond, List, [], ◌∷◌, ◌++◌, length, append_assoc, append-nil, refl, sym, ap, ◌∙◌, subst, arith, inl, inr, ◌⊎◌}
use Rattle.std.proofs.lemmas.Bool.{cases_eq, true≢false}
use Rattle.std.proofs.lemmas.List.{get_or-set_same, get_or-set_other, length-append, length-set}
use Rattle.std.specs.Prelude.{Option, Some, None}
use Rattle.shm_graph.specs.declared.{ask.Turn.{Turn, TheVariants.{More, Done}}, memo.{Agent.Agent, Kind.Kind}}
use Rattle.shm_graph.specs.declared.memo.{Kind.TheVariants.{Recoverer, Client}, Memo.Memo, Status.Status as AStatus}
use Rattle.shm_graph.specs.declared.{memo.{Status.TheVariants.{Gone, Live}, Step.Step, Seen.Seen}, run.Account.Account}
use Rattle.shm_graph.specs.declared.{run.{Start.Start, Move.{Move, TheVariants.{Word, Begins}}}, spot.Spot.Spot}
use Rattle.shm_graph.specs.{Idle.IsIdle, Asks.{Trail, call_before, pair}}
use Rattle.shm_graph.specs.Agents.{acts, recovers, entered, is_gone, last_agent, with_last, ended, stepped, steps_made}
use Rattle.shm_graph.specs.{Tells.{GoesOn, after_all, machine_steps}, Changes.{memo_on, asked_spot}}
use Rattle.shm_graph.specs.Laws.{Control, Steady, Back, Outcome, is_died, is_some, step_of, turn_of}
use Rattle.shm_graph.specs.Runs.{MayBegin, account_at, account_after, account_entered, changed, fell_by, memos_of}
use Rattle.shm_graph.specs.Whole.{fits_now, gives_now}
use Rattle.shm_graph.proofs.Machines.TellsAlong.{after_all-append}
use Rattle.shm_graph.proofs.Runs.{Going.{account_acts-on, account_acts-here, whole_back}, Lists.account_part}
use Rattle.shm_graph.proofs.Memos.MemoSteps.{acts_after, acts-entered, agents_after, ends_agent, last-with_last, memo_agents, with_some, recovers_on, steps_entered, steps_on}
use Rattle.shm_words.specs.Layout.{GeometryFits}
use Rattle.shm_plain.specs.Pools.{Pool, pool, IsOf, IsRun, MayStep, memo_of, readied, turn_on, turned}
use Rattle.shm_plain.specs.{Calls.{IsAtWork, Ran, TookSteps, words}, Tracks.kind_next}
use Rattle.shm_plain.proofs.{OwnTurns.{did_none, took_grew}, Turning.ready_memo}

-- ---- the pool in which an agent of c acts

ready_long : (p : Pool) (c : ℕ) → length (readied p c).accounts ≡ length p.accounts
ready_long p c = go (acts (memo_of p c))
  where
    es' : List Account
    es' = changed (account_entered (kind_next (memo_of p c))) p.accounts c

    go : (b : Bool) → length (cond b p.accounts es') ≡ length p.accounts
    go true = refl
    go false = length-set p.accounts c _

ready_other : (p : Pool) (c d : ℕ) → d ≢ c → memo_of (readied p c) d ≡ memo_of p d
ready_other p c d n = go (acts (memo_of p c))
  where
    es' : List Account
    es' = changed (account_entered (kind_next (memo_of p c))) p.accounts c

    go : (b : Bool) → memos_of (cond b p.accounts es') d ≡ memo_of p d
    go true = refl
    go false = ap (λ (x : Account). x.memo) (get_or-set_other p.accounts c d _ _ n)

ready_acts : (p : Pool) (c : ℕ) → c < length p.accounts → acts (memo_of (readied p c) c) ≡ true
ready_acts p c l = ap acts (ready_memo p c l) ∙ go (acts (memo_of p c)) refl
  where
    go : (b : Bool) → acts (memo_of p c) ≡ b → acts (cond b (memo_of p c) (entered (kind_next (memo_of p c)) (memo_of p c))) ≡ true
    go true e = e
    go false e = acts-entered _ (memo_of p c)

-- where one acts already, it is the pool itself, and may step
pub ready_still : (p : Pool) (c : ℕ) → acts (memo_of p c) ≡ true → memo_of (readied p c) c ≡ memo_of p c
ready_still p c e = ap (λ (b : Bool). memos_of (cond b p.accounts (changed (account_entered (kind_next (memo_of p c))) p.accounts c)) c) e

ready_same : (p : Pool) (c : ℕ) → acts (memo_of p c) ≡ true → readied p c ≡ p
ready_same p c e = ap (λ (b : Bool). pool p.start p.words (cond b p.accounts (changed (account_entered (kind_next (memo_of p c))) p.accounts c)) (cond b p.turns (p.turns ++ Begins c (kind_next (memo_of p c)) ∷ []))) e

pub may_acting : (p : Pool) (c : ℕ) → acts (memo_of p c) ≡ true → MayStep p c
may_acting p c e f = absurd (true≢false (sym e ∙ f))

-- its status is what it was
pub ready_status : (p : Pool) (c : ℕ) → c < length p.accounts → (memo_of (readied p c) c).status ≡ (memo_of p c).status
ready_status p c l = ap (λ (m : Memo). m.status) (ready_memo p c l) ∙ go (acts (memo_of p c))
  where
    m : Memo
    m = memo_of p c

    go : (b : Bool) → (cond b m (entered (kind_next m) m)).status ≡ m.status
    go true = refl
    go false = refl

-- and so are the steps that its agents have made
ready_made : (p : Pool) (c : ℕ) → steps_made (memo_of (readied p c) c) ≡ steps_made (memo_of p c)
ready_made p c = go (acts (memo_of p c))
  where
    k : Kind
    k = kind_next (memo_of p c)

    go : (b : Bool) → steps_made (memos_of (cond b p.accounts (changed (account_entered k) p.accounts c)) c) ≡ steps_made (memo_of p c)
    go true = refl
    go false = account_part (λ (x : Account). steps_made x.memo) p.accounts c (account_entered k (account_at p.accounts c)) c (steps_entered k (memo_of p c))

-- ---- the agent after a step

gone_is : (s : AStatus) → is_gone s ≡ true → s ≡ Gone
gone_is Gone e = refl
gone_is _ e = absurd (true≢false (sym e))

ended_fell : (o : Option Agent) → fell_by (with_some ended o) ≡ false
ended_fell None = refl
ended_fell (Some a) = refl

-- a machine's last step that left the status gone ended the agent
ended_after : (m : Memo) (t : Step) (p : Spot) → let m' = memo_on m t p in is_gone m'.status ≡ true → t.ends ≡ true → (acts m' ≡ false) × (fell_by (last_agent m'.agents) ≡ false)
ended_after m t p g e =
    let ends : ends_agent m t p ≡ true = (λ j. g j && e j) in
    (acts_after m t p ∙ ap (λ (x : Bool). cond x false (acts m)) ends, ap (λ xs. fell_by (last_agent xs)) (memo_agents m t p ∙ ap (λ (b : Bool). agents_after b m.agents) ends) ∙ (ap fell_by (last-with_last ended (with_last stepped m.agents)) ∙ ended_fell (last_agent (with_last stepped m.agents))))

-- where the step of an acting agent ended it, the next one may begin: a client, since the status is gone
may_after : (m : Memo) (t : Step) (p : Spot) → acts m ≡ true → let m' = memo_on m t p in acts m' ≡ false → MayBegin (kind_next m') m'
may_after m t p e f = go (is_gone m'.status) t.ends refl refl
  where
    m' : Memo
    m' = memo_on m t p

    after : (b : Bool) → ends_agent m t p ≡ b → acts m' ≡ cond b false (acts m)
    after b h = acts_after m t p ∙ ap (λ (x : Bool). cond x false (acts m)) h

    go : (g b : Bool) → is_gone m'.status ≡ g → t.ends ≡ b → MayBegin (kind_next m') m'
    go true true h i = subst (λ (x : Bool). MayBegin (cond x Recoverer Client) m') (sym (ended_after m t p h i).1) (inr (gone_is m'.status h))
    go true false h i = absurd (true≢false (sym (after false (λ j. h j && i j) ∙ e) ∙ f))
    go false b h i = absurd (true≢false (sym (after false (λ j. h j && t.ends) ∙ e) ∙ f))

-- ---- what a step answers

goes_on : {A : Type 0} (o : Option A) → turn_of o ≡ More → o ≡ None
goes_on None e = refl
goes_on (Some a) e = absurd (cc)

-- and what it answers
pub answered_is : {A : Type 0} (o : Option A) (u : Turn A) (a : A) → u ≡ turn_of o → u ≡ Done a → o ≡ Some a
answered_is None u a e f = absurd (cc)
answered_is (Some b) u a e f = cc

pub lives : {A : Type 0} (u : Turn A) (left : ℕ) → is_died u ≡ false → (left ≡ 0 → is_died u ≡ true) → 0 < left
lives u left e h =
    elim (cases_eq left 0) [
      | inl z ↦ absurd (true≢false (sym (h z) ∙ e))
      | inr n ↦ omega arith
    ]

-- ---- trails

module _ {M A : Type 0} (k : Control M A) where
  -- each pair of the trail was one after which the machine went on
  abbrev pub Going : M → Trail → Type 0
  Going m [] = Unit {0}
  Going m (x ∷ tr) = (k.finished m ≡ false) × ((k.turns m x.word ≡ None) × Going (k.after m x.word) tr)

  goes_all : (m : M) (tr : Trail) → Going m tr → GoesOn k m tr
  goes_all m [] g = tt
  goes_all m (x ∷ []) g = g.0
  goes_all m (x ∷ y ∷ tr) g = (g.0, (g.1.0, goes_all (k.after m x.word) (y ∷ tr) g.1.1))

  -- and one more pair
  goes_last : (m : M) (tr : Trail) (x : Seen) → Going m tr → k.finished (after_all k m tr) ≡ false → GoesOn k m (tr ++ x ∷ [])
  goes_last m [] x g e = e
  goes_last m (y ∷ []) x g e = (g.0, (g.1.0, e))
  goes_last m (y ∷ z ∷ tr) x g e = (g.0, (g.1.0, goes_last (k.after m y.word) (z ∷ tr) x g.1.1 e))

  going_more : (m : M) (tr : Trail) (x : Seen) → Going m tr → k.finished (after_all k m tr) ≡ false → k.turns (after_all k m tr) x.word ≡ None → Going m (tr ++ x ∷ [])
  going_more m [] x g e f = (e, (f, tt))
  going_more m (y ∷ tr) x g e f = (g.0, (g.1.0, going_more (k.after m y.word) tr x g.1.1 e f))

  words_more : (m : M) (tr : Trail) (x : Seen) → words (machine_steps k m (tr ++ x ∷ [])) ≡ words (machine_steps k m tr) ++ Word (step_of k (after_all k m tr) x.word) ∷ []
  words_more m [] x = refl
  words_more m (y ∷ tr) x = ap (λ (ms : List Move). Word (step_of k m y.word) ∷ ms) (words_more (k.after m y.word) tr x)

-- ---- machines

module _ {M A : Type 0} (k : Control M A) (fits : M → Memo → Memo → Trail → Type 0) (gives : M → Memo → Memo → Trail → A → Type 0) (c : ℕ) where
  -- steps of c led from the pool p, the machine m and x steps that are left to q, n and y, and none of them was the machine's last
  pub record Went (p : Pool) (m : M) (x : ℕ) (q : Pool) (n : M) (y : ℕ) : Type 0 where
    pub of : IsOf q c k n
    pub may : MayStep q c
    pub forth : (r0 : Memo) → fits_now k fits m r0 (memo_of (readied p c) c) → fits_now k fits n r0 (memo_of (readied q c) c)
    pub back : (r0 r : Memo) (a : A) → gives_now gives n r0 r a → gives_now gives m r0 r a
    pub start : q.start ≡ p.start
    pub others : (d : ℕ) → d ≢ c → memo_of q d ≡ memo_of p d
    pub kind : recovers (memo_of (readied q c) c) ≡ recovers (memo_of (readied p c) c)
    pub trail : Trail
    pub grew : (readied q c).turns ≡ (readied p c).turns ++ words (machine_steps k m trail)
    pub course : after_all k m trail ≡ n
    pub going : Going k m trail
    pub call : call_before (k.fresh n) (memo_of (readied q c) c).call ≡ call_before (k.fresh m) (memo_of (readied p c) c).call ++ trail
    pub spent : y + length trail ≡ x
    pub made : y + steps_made (memo_of q c) ≡ x + steps_made (memo_of p c)
    pub same : ((q ≡ p) × (y ≡ x)) ⊎ ((acts (memo_of q c) ≡ true) × (k.fresh n ≡ false) × ((memo_of q c).over ≡ false) × (y < x))

  -- a machine that has made no step fits where it fits the memo of an identity of which an agent acts
  pub fits_acting : (p : Pool) (m : M) → acts (memo_of p c) ≡ true → k.fresh m ≡ true → fits m (memo_of p c) (memo_of p c) [] → fits_now k fits m (memo_of p c) (memo_of (readied p c) c)
  fits_acting p m e fresh fit =
      subst (λ (z : Memo). fits_now k fits m (memo_of p c) z) (sym (ready_still p c e))
      (subst (λ (b : Bool). fits m (memo_of p c) (memo_of p c) (call_before b (memo_of p c).call)) (sym fresh) fit)

  pub went_first : (p : Pool) (m : M) (x : ℕ) → IsOf p c k m → MayStep p c → Went p m x p m x
  went_first p m x of may = record { of = of; may = may; forth = λ r0 f. f; back = λ r0 r a g. g; start = refl; others = λ d n. refl; kind = refl; trail = []; grew = sym (append-nil (readied p c).turns); course = refl; going = tt; call = sym (append-nil (call_before (k.fresh m) (memo_of (readied p c) c).call)); spent = omega arith; made = refl; same = inl (refl, refl) }

  -- one more step, which led to q' and n'
  module _ (p : Pool) (m : M) (x : ℕ) (q : Pool) (n : M) (y : ℕ) (went : Went p m x q n y) (q' : Pool) (to : q' ≡ turned (readied q c) (turn_on (readied q c) k n)) (run : IsRun q') where
    abbrev r : Pool
    r = readied q c

    abbrev t : Step
    t = turn_on r k n

    who : t.me.who ≡ c
    who = ap (λ z. z.who) went.of.0

    long : c < length r.accounts
    long = subst (λ (z : ℕ). c < z) (sym (subst (λ (z : Pool). IsRun z) to run).held.accounts ∙ length-set r.accounts t.me.who _) went.of.1

    acting : acts (memo_of r c) ≡ true
    acting = ready_acts q c (subst (λ (z : ℕ). c < z) (ready_long q c) long)

    here : account_at q'.accounts c ≡ account_after (account_at r.accounts c) t
    here =
        ap (λ (z : Pool). account_at z.accounts c) to
        ∙ subst (λ (z : ℕ). account_at (turned r t).accounts z ≡ account_after (account_at r.accounts z) t) who (get_or-set_same r.accounts t.me.who _ _ (subst (λ (z : ℕ). z < length r.accounts) (sym who) long))

    pub went_start : q'.start ≡ p.start
    went_start = ap (λ (z : Pool). z.start) to ∙ went.start

    pub went_others : (d : ℕ) → d ≢ c → memo_of q' d ≡ memo_of p d
    went_others d o =
        ap (λ (z : Pool). memo_of z d) to
        ∙ (ap (λ (x : Account). x.memo) (get_or-set_other r.accounts t.me.who d _ _ (λ e. o (e ∙ who)))
        ∙ (ready_other q c d o ∙ went.others d o))

    pub went_acts : (memo_of q' c).status ≢ Gone → acts (memo_of q' c) ≡ true
    went_acts o = ap (λ (x : Account). acts x.memo) here ∙ (account_acts-here (account_at r.accounts c) t (λ e. o (ap (λ (x : Account). x.memo.status) here ∙ e)) ∙ acting)

    pub went_may : MayStep q' c
    went_may = subst (λ (x : Memo). acts x ≡ false → MayBegin (kind_next x) x) (sym (ap (λ (x : Account). x.memo) here)) (may_after (memo_of r c) t (asked_spot (memo_of r c) t) acting)

    -- where it was the machine's last step and left the status gone, the agent has ended
    pub went_gone : t.ends ≡ true → (memo_of q' c).status ≡ Gone → (acts (memo_of q' c) ≡ false) × (fell_by (last_agent (memo_of q' c).agents) ≡ false)
    went_gone e g =
        let is : memo_of q' c ≡ memo_on (memo_of r c) t (asked_spot (memo_of r c) t) = ap (λ (x : Account). x.memo) here in
        subst (λ (m : Memo). (acts m ≡ false) × (fell_by (last_agent m.agents) ≡ false)) (sym is)
        (ended_after (memo_of r c) t (asked_spot (memo_of r c) t) (ap (λ (m : Memo). is_gone m.status) (sym is) ∙ ap is_gone g) e)

    -- its agent is of the kind that it was of
    pub went_kind : recovers (memo_of q' c) ≡ recovers (memo_of (readied p c) c)
    went_kind = ap (λ (x : Account). recovers x.memo) here ∙ (recovers_on (memo_of r c) t (asked_spot (memo_of r c) t) ∙ went.kind)

    -- the pair that it asked and found
    abbrev x1 : Seen
    x1 = pair (k.asks n) t.seen

    -- what it has asked now
    abbrev asked : Trail
    asked = went.trail ++ x1 ∷ []

    going_now : k.finished (after_all k m went.trail) ≡ false
    going_now = ap (λ (z : M). k.finished z) went.course ∙ went.of.2

    grown : q'.turns ≡ (readied p c).turns ++ words (machine_steps k m asked)
    grown =
        ap (λ (z : Pool). z.turns) to
        ∙ (ap (λ (ms : List Move). ms ++ Word t ∷ []) went.grew
        ∙ (append_assoc (readied p c).turns (words (machine_steps k m went.trail)) (Word t ∷ [])
        ∙ ap (λ (ms : List Move). (readied p c).turns ++ ms)
        (ap (λ (z : M). words (machine_steps k m went.trail) ++ Word (step_of k z t.seen) ∷ []) (sym went.course) ∙ sym (words_more k m went.trail x1))))

    called : (memo_of q' c).call ≡ call_before (k.fresh m) (memo_of (readied p c) c).call ++ asked
    called =
        ap (λ (z : Account). z.memo.call) here
        ∙ (ap (λ (tr : Trail). tr ++ x1 ∷ []) went.call ∙ append_assoc (call_before (k.fresh m) (memo_of (readied p c) c).call) went.trail (x1 ∷ []))

    -- the steps of the machine up to this one
    pub went_took : TookSteps k c p m q'
    went_took = record { trail = asked; grew = grown; goes = goes_last k m went.trail x1 went.going going_now; call = called }

    spent_more : (y' : ℕ) → y' + 1 ≡ y → y' + length asked ≡ x
    spent_more y' e = let l = length-append went.trail (x1 ∷ []) in let s = went.spent in omega arith

    pub went_spent : (y' : ℕ) → y' + 1 ≡ y → k.fresh m ≡ true → y' + length (memo_of q' c).call ≡ x
    went_spent y' e fresh = ap (λ (tr : Trail). y' + length tr) (called ∙ ap (λ (b : Bool). call_before b (memo_of (readied p c) c).call ++ asked) fresh) ∙ spent_more y' e

    made_more : (y' : ℕ) → y' + 1 ≡ y → y' + steps_made (memo_of q' c) ≡ x + steps_made (memo_of p c)
    made_more y' e =
        let one : steps_made (memo_of q' c) ≡ steps_made (memo_of r c) + 1 = ap (λ (x : Account). steps_made x.memo) here ∙ steps_on (memo_of r c) t (asked_spot (memo_of r c) t) acting in
        let before = ready_made q c in
        let made = went.made in
        omega arith

    pub went_ran : Steady k → IsOf p c k m → {a : A} → k.turns n t.seen ≡ Some a → (y' : ℕ) → y' + 1 ≡ y → Ran c (k.fresh m) true p q' x y'
    went_ran steady of answer y' e =
        record {
          start = went_start;
          others = went_others;
          may = went_may;
          run = run;
          did = took_grew k c p q' m steady of went_took;
          cut = λ u. absurd (true≢false u);
          within = λ u. absurd (true≢false u);
          still = λ u. absurd (true≢false u);
          acts = λ u. went_acts;
          gone = λ u. went_gone ((steady n t.seen went.of.2).ends ∙ ap is_some answer);
          kind = λ u. went_kind;
          spent = λ u. went_spent y' e;
          made = made_more y' e;
          some = λ u. let l = went.spent in omega arith;
          less = λ u. let l = went.spent in omega arith;
          died = λ u. absurd (true≢false u);
          over = λ u. ap (λ (x : Account). x.memo.over) here ∙ ((steady n t.seen went.of.2).ends ∙ ap is_some answer);
        }

    module _ (n' : M) (learns : (r0 : Memo) → fits_now k fits n r0 (memo_of r c) → Outcome (k.turns n t.seen) (fits_now k fits n' r0 (memo_of q' c)) (gives_now gives n r0 (memo_of q' c))) where
      -- it was the last one
      pub went_gives : (a : A) → k.turns n t.seen ≡ Some a → (r0 : Memo) → fits_now k fits m r0 (memo_of (readied p c) c) → gives_now gives m r0 (memo_of q' c) a
      went_gives a e r0 fit = went.back r0 (memo_of q' c) a (subst (λ (o : Option A). Outcome o (fits_now k fits n' r0 (memo_of q' c)) (gives_now gives n r0 (memo_of q' c))) e (learns r0 (went.forth r0 fit)))

      -- it wasn't
      pub went_on : Steady k → Back k gives → n' ≡ k.after n t.seen → (u : Turn A) → u ≡ turn_of (k.turns n t.seen) → u ≡ More → (y' : ℕ) → y' + 1 ≡ y → Went p m x q' n' y'
      went_on steady goes after u is more y' left =
          let e : k.turns n t.seen ≡ None = goes_on (k.turns n t.seen) (sym is ∙ more) in
          let stays = steady n t.seen went.of.2 in
          let going : t.ends ≡ false = stays.ends ∙ ap is_some e in
          let acts' : acts (memo_of q' c) ≡ true = ap (λ (x : Account). acts x.memo) here ∙ (account_acts-on (account_at r.accounts c) t going ∙ acting) in
          record {
            of = subst (λ (z : M). IsOf q' c k z) (sym after) (subst (λ (z : Pool). IsOf z c k (k.after n t.seen)) (sym to) (stays.same_me ∙ went.of.0, went.of.1, going));
            may = may_acting q' c acts';
            forth = λ r0 fit. subst (λ (z : Memo). fits_now k fits n' r0 z) (sym (ready_still q' c acts'))
                (subst (λ (o : Option A). Outcome o (fits_now k fits n' r0 (memo_of q' c)) (gives_now gives n r0 (memo_of q' c))) e (learns r0 (went.forth r0 fit)));
            back = λ r0 s a g. went.back r0 s a (whole_back k gives goes n t.seen went.of.2 e r0 s a (subst (λ (z : M). gives_now gives z r0 s a) after g));
            start = went_start;
            others = went_others;
            kind = ap recovers (ready_still q' c acts') ∙ went_kind;
            trail = asked;
            grew = ap (λ (z : Pool). z.turns) (ready_same q' c acts') ∙ grown;
            course = after_all-append k m went.trail x1 ∙ (ap (λ (z : M). k.after z t.seen) went.course ∙ sym after);
            going = going_more k m went.trail x1 went.going going_now (ap (λ (z : M). k.turns z t.seen) went.course ∙ e);
            call =
                let begun : k.fresh n' ≡ false = ap (λ (z : M). k.fresh z) after ∙ stays.started in
                ap (λ (b : Bool). call_before b (memo_of (readied q' c) c).call) begun ∙ (ap (λ (z : Memo). z.call) (ready_still q' c acts') ∙ called);
            spent = spent_more y' left;
            made = made_more y' left;
            same = inr (acts', ap (λ (z : M). k.fresh z) after ∙ stays.started, ap (λ (z : Account). z.memo.over) here ∙ going, let l = went.spent in omega arith);
          }

  -- the steps of the machine up to now, where there were some
  up_to : (p : Pool) (m : M) (x : ℕ) (q : Pool) (n : M) (y : ℕ) → Went p m x q n y → acts (memo_of q c) ≡ true → k.fresh n ≡ false → TookSteps k c p m q
  up_to p m x q n y went acting begun =
      record {
        trail = went.trail;
        grew = ap (λ (z : Pool). z.turns) (sym (ready_same q c acting)) ∙ went.grew;
        goes = goes_all k m went.trail went.going;
        call = ap (λ (z : Memo). z.call) (sym (ready_still q c acting)) ∙ (ap (λ (b : Bool). call_before b (memo_of (readied q c) c).call) (sym begun) ∙ went.call);
      }

  -- no word step is left, and there were some
  pub died_took : (p : Pool) (m : M) (x : ℕ) (q : Pool) (n : M) (y : ℕ) → Went p m x q n y → y ≡ 0 → 0 < x → TookSteps k c p m q
  died_took p m x q n y went none some =
      elim went.same [
        | inl s ↦ absurd (let e : y ≡ x = s.1 in omega arith)
        | inr s ↦ up_to p m x q n y went s.0 s.1
      ]

  -- each of them is one of the call, where the machine had made none before
  pub died_spent : (p : Pool) (m : M) (x : ℕ) (q : Pool) (n : M) (y : ℕ) → Went p m x q n y → y ≡ 0 → 0 < x → k.fresh m ≡ true → y + length (memo_of q c).call ≡ x
  died_spent p m x q n y went none some fresh =
      elim went.same [
        | inl s ↦ absurd (let e : y ≡ x = s.1 in omega arith)
        | inr s ↦
            let call : (memo_of q c).call ≡ went.trail =
            ap (λ (z : Memo). z.call) (sym (ready_still q c s.0)) ∙ (ap (λ (b : Bool). call_before b (memo_of (readied q c) c).call) (sym s.1) ∙ (went.call ∙ ap (λ (b : Bool). call_before b (memo_of (readied p c) c).call ++ went.trail) fresh)) in
            ap (λ (tr : Trail). y + length tr) call ∙ went.spent
      ]

  -- what is left then
  pub died_ran : Steady k → (p : Pool) (m : M) (x : ℕ) (q : Pool) (n : M) (y : ℕ) → Went p m x q n y → IsRun q → IsOf p c k m → y ≡ 0 → Ran c (k.fresh m) false p q x y
  died_ran steady p m x q n y went run of none =
      record {
        start = went.start;
        others = went.others;
        may = went.may;
        run = run;
        did = elim went.same [
          | inl s ↦ ([], did_none c p q s.0)
          | inr s ↦ took_grew k c p q m steady of (up_to p m x q n y went s.0 s.1)
        ];
        cut = λ u some. elim went.same [
          | inl s ↦ absurd (let e : y ≡ x = s.1 in omega arith)
          | inr s ↦ s.0
        ];
        within = λ u some. elim went.same [
          | inl s ↦ absurd (let e : y ≡ x = s.1 in omega arith)
          | inr s ↦ s.2
        ];
        still = λ u zero. elim went.same [
          | inl s ↦ s.0
          | inr s ↦ absurd (let l = s.3 in omega arith)
        ];
        acts = λ u. absurd (true≢false (sym u));
        gone = λ u. absurd (true≢false (sym u));
        kind = λ u. absurd (true≢false (sym u));
        spent = λ left fresh. died_spent p m x q n y went none left fresh;
        made = went.made;
        some = λ u. absurd (true≢false (sym u));
        less = λ u. absurd (true≢false (sym u));
        died = λ u. none;
        over = λ u. absurd (true≢false (sym u));
      }

-- an identity of which an agent acts is at work, where it is between two calls once it has answered
pub still_working : (c : ℕ) (fresh : Bool) (p q : Pool) (x y : ℕ) → GeometryFits p.start.geometry → c < p.start.geometry.clients → Ran c fresh true p q x y → IsIdle c (memo_of q c) → IsAtWork c q
still_working c fresh p q x y geometry who ran idle =
    record {
      geometry = subst (λ (s : Start). GeometryFits s.geometry) (sym ran.start) geometry;
      who = subst (λ (s : Start). c < s.geometry.clients) (sym ran.start) who;
      idle = idle;
      acts = ran.acts refl (λ e. let live : Live ≡ Gone = sym idle.live ∙ e in absurd (cc));
    }

-- and its agent is of the kind that it was of
pub still_kind : (c : ℕ) (fresh : Bool) (p q : Pool) (x y : ℕ) → acts (memo_of p c) ≡ true → Ran c fresh true p q x y → recovers (memo_of q c) ≡ recovers (memo_of p c)
still_kind c fresh p q x y act ran = ran.kind refl ∙ ap recovers (ready_still p c act)
