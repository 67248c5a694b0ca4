-- what happens to a session is turns of the pool
use Rattle.std.proofs.Common.{◌≡◌, ◌≢◌, ℕ, ◌<◌, Bool, true, false, cond, Option, Some, None, Ok, List, [], ◌∷◌, refl, sym, ap, ◌∙◌, subst, inl, inr}
use Rattle.std.proofs.lemmas.Bool.{and_from, eq-eqb, false≢true}
use Rattle.std.specs.Prelude.{◌==◌, slice_index}
use Rattle.shm_words.specs.declared.geometry.Geometry.{Geometry}
use Rattle.shm_graph.specs.declared.{ask.Me.Me, memo.{Kind.{Kind, TheVariants.{Client, Recoverer}}, Memo.Memo}}
use Rattle.shm_graph.specs.declared.{memo.{Status.Status as AStatus, Step.Step}, run.Move.Move}
use Rattle.shm_graph.specs.declared.{run.Move.TheVariants.{Word, Dies, Begins}, spot.Spot.TheVariants.{Era, Status}}
use Rattle.shm_graph.specs.Agents.{acts, died, entered, is_gone, recovers}
use Rattle.shm_graph.specs.{Asks.{Trail, at_of, call_before, seen_of, words_set}, Changes.{asked_spot, memo_after}}
use Rattle.shm_graph.specs.{Held.status_word, Laws.{Laws, Outcome, step_of}, Operations.IsHeld}
use Rattle.shm_graph.specs.{Runs.{IsMove, Leads, MayBegin, State, Turned, memos_of, moved}, Spots.see}
use Rattle.shm_graph.specs.{Views.{at1, own_word}, Whole.{WholeKeeps, fits_now, gives_now}}
use Rattle.shm_graph.specs.declared.memo.Status.TheVariants as status
use Rattle.shm_graph.proofs.Memos.MemoSteps.{acts-died, acts-entered, acts-here, acts-on, acts_after, fell-died, recovers-entered, recovers_on}
use Rattle.shm_graph.proofs.Machines.Wholes.{whole_keeps}
use Rattle.shm_graph.proofs.Runs.Going.{Is, done_on, going_on, learns-step, me_on, turned-step}
use Rattle.shm_graph.proofs.Runs.Running.{turned-begins, turned-dies}
use Rattle.shm_headline.proofs.Moves.{memo_by, memo_here, memo_there, who_of}
use Rattle.shm_session.specs.declared.said.{Call.Call, Stage.Stage}
use Rattle.shm_session.specs.Sessions.{Operations, called, fallen_stage, goes_on, kept, stage_by, stage_found}
use Rattle.shm_session.specs.Sessions as sessions
use Rattle.shm_session.specs.declared.said.Stage.TheVariants as stage
use Rattle.shm_sessions.specs.Kept.{AreKept, IsGiven, IsLeft, IsReady}
use Rattle.shm_sessions.specs.Logs.{HasRoom, IsCall, Sitting, acts_by, acts_called, acts_in, acts_left, gives_up, is_dead, kind_at, kind_in, me_of, opened, sitting_called, sitting_told, turns_between, turns_left, turns_told, turns_up, words_made, work_of}
use Rattle.shm_sessions.proofs.Standing.{Keeps, Rested, Sits, SitsBy, Works, acts_told, at_rest, keep_at}
use Rattle.shm_sessions.proofs.Views.{IsTaken, Same, Given, Started, taken}

module _ {S A : Type 0} (g : Geometry) (o : Operations S A) (fits : S → Memo → Memo → Trail → Type 0) (gives : S → Memo → Memo → Trail → A → Type 0) (always : Memo → Type 0) (between : Me → Memo → Type 0) (owed : AreKept o fits gives always between) (laws : Laws o.control fits gives) where
  abbrev K : (ℕ → Option (Sitting S)) → State → Type 0
  K = Keeps g o fits gives always between

  abbrev At : ℕ → Option (Sitting S) → Memo → Type 0
  At = Sits g o fits gives always between

  abbrev AtBy : ℕ → Stage → Option S → Bool → Memo → Type 0
  AtBy = SitsBy g o fits gives always between

  abbrev At_work : ℕ → Stage → S → Memo → Type 0
  At_work = Works g o fits gives always between

  -- the turns lead on, to these words, and there each session stands as its identity does
  pub record Went (q : ℕ → Option (Sitting S)) (ms : List Move) (ws : List ℕ) (s : State) : Type 0 where
    pub after : State
    pub leads : Leads g s ms after
    pub words : after.words ≡ ws
    pub keeps : K q after

  abbrev sitting : Stage → Option S → Bool → Sitting S
  sitting t w b = record { stage = t; work = w; acts = b }

  -- ---- turns

  module _ (q : ℕ → Option (Sitting S)) (s : State) (h : K q s) (c : ℕ) where
    abbrev r : Memo
    r = memos_of s.accounts c

    stays : (y : Option (Sitting S)) → ((x : Sitting S) → y ≡ Some x → c < g.clients) → (c < g.clients → At c y r) → Went (at1 q c y) [] s.words s
    stays y low sits = record {
      after = s;
      leads = refl;
      words = refl;
      keeps = keep_at g o fits gives always between q s s c y h h.held (λ d n. refl) low (h.kept c) sits;
    }

    goes : (y : Option (Sitting S)) (m : Move) → who_of m ≡ c → c < g.clients → IsMove s m → Turned g s m → always (memo_by s m) → At c y (memo_by s m) → Went (at1 q c y) (m ∷ []) (moved s m).words s
    goes y m of low i turned kept sits =
        let here : memos_of (moved s m).accounts c ≡ memo_by s m = subst (λ (d : ℕ). memos_of (moved s m).accounts d ≡ memo_by s m) of (memo_here s m i) in
        record {
          after = moved s m;
          leads = (i, turned, refl);
          words = refl;
          keeps = keep_at g o fits gives always between q s (moved s m) c y h turned.held (λ d n. memo_there s m i d (λ z. n (sym of ∙ z))) (λ x e. low) (λ l. subst always (sym here) kept) (λ l. subst (At c y) (sym here) sits);
        }

    -- a turn, after which the client dies
    goes_and_dies : (y : Option (Sitting S)) (m : Move) → who_of m ≡ c → c < g.clients → IsMove s m → Turned g s m → always (memo_by s m) → acts (memo_by s m) ≡ true → At c y (died (memo_by s m)) → Went (at1 q c y) (m ∷ Dies c ∷ []) (moved s m).words s
    goes_and_dies y m of low i turned kept acting sits =
        let a : State = moved s m in
        let here : memos_of a.accounts c ≡ memo_by s m = subst (λ (d : ℕ). memos_of a.accounts d ≡ memo_by s m) of (memo_here s m i) in
        let acts_still : acts (memos_of a.accounts c) ≡ true = ap acts here ∙ acting in
        let dead : Turned g a (Dies c) = turned-dies g a c turned.held low in
        let there : memos_of (moved a (Dies c)).accounts c ≡ died (memo_by s m) = memo_here a (Dies c) acts_still ∙ ap died here in
        record {
          after = moved a (Dies c);
          leads = (i, turned, (acts_still, dead, refl));
          words = refl;
          keeps = keep_at g o fits gives always between q s (moved a (Dies c)) c y h dead.held (λ d n. memo_there a (Dies c) acts_still d n ∙ memo_there s m i d (λ z. n (sym of ∙ z))) (λ x e. low)
              (λ l. subst always (sym there) (owed.dies (memo_by s m) kept)) (λ l. subst (At c y) (sym there) sits);
        }

    dies : (y : Option (Sitting S)) → c < g.clients → acts r ≡ true → At c y (died r) → Went (at1 q c y) (Dies c ∷ []) s.words s
    dies y low acting sits = goes y (Dies c) refl low acting (turned-dies g s c h.held low) (owed.dies r (h.kept c low)) sits

    begins : (y : Option (Sitting S)) (k : Kind) → c < g.clients → acts r ≡ false → MayBegin k r → At c y (entered k r) → Went (at1 q c y) (Begins c k ∷ []) s.words s
    begins y k low idle may sits =
        goes y (Begins c k) refl low (subst (λ (n : ℕ). c < n) (sym h.held.accounts) low, idle, may) (turned-begins g s c k h.held low) (owed.enters k r (h.kept c low)) sits

    -- ---- a session is opened

    opened_sits : (z : AStatus) → r.status ≡ z → Rested g o fits gives always between r → At c (opened g o (stage_found (status_word z))) r
    opened_sits status.New e h = (h.0, inl e)
    opened_sits status.Gone e h = (h.0, inr e)
    opened_sits status.Live e h = (h.0, elim h.1 [ inl x ↦ elim x [ inl a ↦ absurd (cc) | inr a ↦ absurd (cc) ] | inr f ↦ f ])
    opened_sits status.Dead e h = (h.0, elim h.1 [ inl x ↦ elim x [ inl a ↦ absurd (cc) | inr a ↦ absurd (cc) ] | inr f ↦ f ])

    pub opens : (n : ℕ) → c < g.clients → q c ≡ None → n ≡ see g s.words (Status c) → Went (at1 q c (opened g o (stage_found n))) [] s.words s
    opens n low none found =
        let e : status_word r.status ≡ n = h.held.at.state c low ∙ sym found in
        let rest : Rested g o fits gives always between r = subst (λ (v : Option (Sitting S)). At c v r) none (h.sits c low) in
        stays (opened g o (stage_found n)) (λ x z. low) (λ l. subst (λ (k : ℕ). At c (opened g o (stage_found k)) r) e (opened_sits r.status refl rest))

    -- ---- it is called

    -- the operation that was begun, before its first word step
    first : (t : Stage) (call : Call) (m : S) (x : Memo) → IsCall call → o.begins (me_of g c) t call ≡ Ok m → acts x ≡ true → IsReady always between (me_of g c) t x → o.control.finished m ≡ false → At_work c t m x
    first t call m x sized begun acting ready going = record {
      acting = acting;
      call = call;
      sized = sized;
      first = m;
      begun = begun;
      start = x;
      ready = ready;
      kind = refl;
      me = owed.me (me_of g c) t call m begun;
      going = going;
      fit = subst (λ (b : Bool). fits m x x (call_before b x.call)) (sym (owed.fresh (me_of g c) t call m begun)) (owed.begins (me_of g c) t call m x sized begun ready);
      gave = λ y tr a z. z;
    }

    abbrev Called : Stage → Option S → Bool → Stage → Option S → Bool → Type 0
    Called t w b t' w' b' = Went (at1 q c (Some (sitting t' w' b'))) (turns_between c (kind_at t) b b') s.words s

    module _ (low : c < g.clients) where
      -- the own era as the memo tells it
      own_era : own_word r.own (Era c c) ≡ see g s.words (Era c c)
      own_era = h.held.at.mine c low (Era c c) (eq-eqb c c refl)

      unchanged : (t : Stage) (w : Option S) (b : Bool) → AtBy c t w b r → Called t w b t w b
      unchanged t w true sit = stays (Some (sitting t w true)) (λ x z. low) (λ l. sit)
      unchanged t w false sit = stays (Some (sitting t w false)) (λ x z. low) (λ l. sit)

      same : (t : Stage) (w : Option S) (b : Bool) → AtBy c t w b r → Called t w b t w (acts_called false b w)
      same t None b sit = unchanged t None b sit
      same t (Some m) b sit = subst (λ (z : Bool). Called t (Some m) b t (Some m) z) sit.0 (unchanged t (Some m) b sit)

      falls : (k : Stage) (b : Bool) → b ≡ true → acts r ≡ true → Went (at1 q c (Some (sitting stage.Dead None false))) (turns_between c (kind_at k) b false) s.words s
      falls k b e acting = subst (λ (z : Bool). Went (at1 q c (Some (sitting stage.Dead None false))) (turns_between c (kind_at k) z false) s.words s) (sym e) (dies (Some (sitting stage.Dead None false)) low acting (acts-died r, fell-died r acting))

      given : (t : Stage) (w : Option S) (b : Bool) → AtBy c t w b r → Called t w b (fallen_stage o t w) None false
      given stage.Vacant None false sit = unchanged stage.Vacant None false sit
      given stage.Vacant None true sit = absurd sit
      given stage.Vacant (Some m) b sit = falls stage.Vacant b sit.0 sit.1.acting
      given stage.Live None true sit = falls stage.Live true refl sit.0
      given stage.Live None false sit = absurd sit
      given stage.Live (Some m) b sit = falls stage.Live b sit.0 sit.1.acting
      given stage.Dead None false sit = unchanged stage.Dead None false sit
      given stage.Dead None true sit = falls stage.Dead true refl sit.0
      given stage.Dead (Some m) b sit = falls stage.Dead b sit.0 sit.1.acting

      -- the memo after a beginning is one of a state that holds
      entered_held : (k : Kind) → acts r ≡ false → MayBegin k r → IsHeld (me_of g c) (entered k r)
      entered_held k idle may =
          let i : IsMove s (Begins c k) = (subst (λ (n : ℕ). c < n) (sym h.held.accounts) low, idle, may) in
          (see g s.words, memos_of (moved s (Begins c k)).accounts, (turned-begins g s c k h.held low).held.at, memo_here s (Begins c k) i)

      here_held : IsHeld (me_of g c) r
      here_held = (see g s.words, memos_of s.accounts, h.held.at, refl)

      starts : (t : Stage) (b : Bool) → AtBy c t None b r → (call : Call) (m : S) → IsCall call → (t ≡ stage.Live → HasRoom (own_word r.own (Era c c))) → o.begins (me_of g c) t call ≡ Ok m → o.control.finished m ≡ false → Called t None b t (Some m) true
      starts stage.Vacant false sit call m sized room e going =
          begins (Some (sitting stage.Vacant (Some m) true)) Client low sit.0 sit.1
          (refl, first stage.Vacant call m (entered Client r) sized e (acts-entered Client r) (record { who = low; held = entered_held Client sit.0 sit.1; kept = owed.enters Client r (h.kept c low); may = (sit.1, recovers-entered Client r) }) going)
      starts stage.Vacant true sit call m sized room e going = absurd sit
      starts stage.Live true sit call m sized room e going =
          stays (Some (sitting stage.Live (Some m) true)) (λ x z. low)
          (λ l. (refl, first stage.Live call m r sized e sit.0 (record { who = low; held = here_held; kept = h.kept c low; may = sit.1 (room refl) }) going))
      starts stage.Live false sit call m sized room e going = absurd sit
      starts stage.Dead false sit call m sized room e going =
          begins (Some (sitting stage.Dead (Some m) true)) Recoverer low sit.0 sit.1
          (refl, first stage.Dead call m (entered Recoverer r) sized e (acts-entered Recoverer r) (record { who = low; held = entered_held Recoverer sit.0 sit.1; kept = owed.enters Recoverer r (h.kept c low); may = recovers-entered Recoverer r }) going)
      starts stage.Dead true sit call m sized room e going =
          stays (Some (sitting stage.Dead (Some m) true)) (λ x z. low)
          (λ l. (refl, first stage.Dead call m r sized e sit.0 (record { who = low; held = here_held; kept = h.kept c low; may = sit.1 }) going))

      called_so : (t : Stage) (w : Option S) (b : Bool) → AtBy c t w b r → (call : Call) → IsCall call → (t ≡ stage.Live → call.op ≢ 18 → HasRoom (own_word r.own (Era c c))) → (y : sessions.Turned S) → IsTaken o (me_of g c) call t w y → Called t w b y.stage y.work (acts_called (call.op == 18) b y.work)
      called_so t w b sit call sized room y (Same n e f) =
          subst (λ (z : Bool). Called t w b y.stage y.work (acts_called z b y.work)) (sym n)
          (subst (λ (u : Stage). Called t w b u y.work (acts_called false b y.work)) (sym e) (subst (λ (v : Option S). Called t w b t v (acts_called false b v)) (sym f) (same t w b sit)))
      called_so t w b sit call sized room y (Given n e f) =
          subst (λ (z : Bool). Called t w b y.stage y.work (acts_called z b y.work)) (sym n)
          (subst (λ (u : Stage). Called t w b u y.work false) (sym e) (subst (λ (v : Option S). Called t w b (fallen_stage o t w) v false) (sym f) (given t w b sit)))
      called_so t w b sit call sized room y (Started n m begun idle going e f) =
          let other : call.op ≢ 18 = λ z. false≢true (sym n ∙ eq-eqb call.op 18 z) in
          subst (λ (z : Bool). Called t w b y.stage y.work (acts_called z b y.work)) (sym n)
          (subst (λ (u : Stage). Called t w b u y.work (acts_called false b y.work)) (sym e) (subst (λ (v : Option S). Called t w b t v (acts_called false b v)) (sym f)
          (subst (λ (v : Option S). Called t v b t (Some m) true) (sym idle) (starts t b (subst (λ (v : Option S). AtBy c t v b r) idle sit) call m sized (λ z. room z other) begun going))))

    pub calls : (call : Call) (x : Sitting S) → q c ≡ Some x → IsCall call → (x.stage ≡ stage.Live → call.op ≢ 18 → HasRoom (see g s.words (Era c c))) → Went (at1 q c (sitting_called g o c call (q c))) (turns_between c (kind_in (q c)) (acts_in (q c)) (acts_in (sitting_called g o c call (q c)))) s.words s
    calls call x e sized room =
        let low : c < g.clients = h.low c x e in
        let sit : AtBy c x.stage x.work x.acts r = subst (λ (v : Option (Sitting S)). At c v r) e (h.sits c low) in
        subst (λ (v : Option (Sitting S)). Went (at1 q c (sitting_called g o c call v)) (turns_between c (kind_in v) (acts_in v) (acts_in (sitting_called g o c call v))) s.words s) (sym e)
        (called_so low x.stage x.work x.acts sit call sized (λ z n. subst HasRoom (sym (own_era low)) (room z n)) (called o (me_of g c) x.stage x.work call) (taken o (me_of g c) x.stage x.work call))

    -- ---- it is closed, or its process is killed

    pub closes : (v : Option (Sitting S)) → q c ≡ v → Went (at1 q c None) (turns_between c (kind_in v) (acts_in v) false) s.words s
    closes None e = stays None (λ x z. absurd (cc)) (λ l. subst (λ (v : Option (Sitting S)). At c v r) e (h.sits c l))
    closes (Some x) e = go x.acts refl
      where
        low : c < g.clients
        low = h.low c x e

        sit : AtBy c x.stage x.work x.acts r
        sit = subst (λ (v : Option (Sitting S)). At c v r) e (h.sits c low)

        go : (b : Bool) → x.acts ≡ b → Went (at1 q c None) (turns_between c (kind_at x.stage) b false) s.words s
        go true z = let acting : acts r ≡ true = acts_told g o fits gives always between c x.stage x.work x.acts r sit ∙ z in dies None low acting (acts-died r, inr (fell-died r acting))
        go false z = stays None (λ y n. absurd (cc)) (λ l. at_rest g o fits gives always between c x.stage x.work x.acts r sit z)

    -- ---- its word step is made

    module _ (low : c < g.clients) (t : Stage) (m : S) (work : At_work c t m r) where
      abbrev Fits : S → Memo → Memo → Type 0
      Fits = fits_now o.control fits

      abbrev Gives : S → Memo → Memo → A → Type 0
      Gives = gives_now gives

      keep : WholeKeeps o.control Fits Gives
      keep = whole_keeps o.control fits gives laws

      is : Is o.control Fits Gives g c m
      is = record { me = work.me; below = low; going = work.going }

      abbrev n : ℕ
      n = seen_of (o.control.asks m) (slice_index s.words (at_of (o.control.asks m)))

      abbrev step : Step
      step = step_of o.control m n

      abbrev then : Memo
      then = memo_after r step

      who : step.me.who ≡ c
      who = ap (λ (z : Me). z.who) work.me

      turned : Turned g s (Word step)
      turned = turned-step o.control Fits Gives keep g s.words s.accounts c m work.start h.held is work.fit

      learns : Outcome (o.control.turns m n) (Fits (o.control.after m n) work.start then) (Gives m work.start then)
      learns = learns-step o.control Fits Gives keep g s.words s.accounts c m h.held is work.start work.fit

      move : IsMove s (Word step)
      move = (refl, subst (λ (d : ℕ). acts (memos_of s.accounts d) ≡ true) (sym who) work.acting)

      then_is : memo_by s (Word step) ≡ then
      then_is = ap (λ (d : ℕ). memo_after (memos_of s.accounts d) step) who

      then_held : IsHeld (me_of g c) then
      then_held = (see g (moved s (Word step)).words, memos_of (moved s (Word step)).accounts, turned.held.at, subst (λ (d : ℕ). memos_of (moved s (Word step)).accounts d ≡ memo_by s (Word step)) who (memo_here s (Word step) move) ∙ then_is)

      then_kept : always then
      then_kept = owed.steps r step (h.kept c low)

      kind : recovers then ≡ recovers work.start
      kind = recovers_on r step (asked_spot r step) ∙ work.kind

      -- an identity that isn't given up is dead where a recoverer acts still
      given_recovers : (z : Stage) (x : Memo) → gives_up z stage.Dead ≡ false → IsGiven always between z x → recovers x ≡ true
      given_recovers stage.Vacant x e h = absurd (false≢true (sym e))
      given_recovers stage.Live x e h = absurd (false≢true (sym e))
      given_recovers stage.Dead x e h = h

      left_sits : (a : A) → o.control.turns m n ≡ Some a → (u : Stage) → gives_up t u ≡ false → IsLeft always between (me_of g c) t u then → AtBy c u None (acts_by false true u) then
      left_sits a e stage.Vacant stays gone = (
        acts_after r step (asked_spot r step) ∙ ap (λ (b : Bool). cond b false (acts r)) (and_from _ _ (ap is_gone gone) (done_on o.control laws.steady m n a work.going e)),
        inr gone,
      )
      left_sits a e stage.Live stays l = (acts-here r step (asked_spot r step) l.0 ∙ work.acting, l.1)
      left_sits a e stage.Dead stays l = (acts-here r step (asked_spot r step) l.0 ∙ work.acting, given_recovers t then stays l.1)

      goes_on_sits : o.control.turns m n ≡ None → Fits (o.control.after m n) work.start then → AtBy c t (kept o (o.control.finished (o.control.after m n)) (o.control.after m n)) true then
      goes_on_sits e out =
          let fin : o.control.finished (o.control.after m n) ≡ false = going_on o.control laws.steady m n work.going e in
          subst (λ (b : Bool). AtBy c t (kept o b (o.control.after m n)) true then) (sym fin) (
            refl,
            record {
              acting = acts-on r step (asked_spot r step) fin ∙ work.acting;
              call = work.call;
              sized = work.sized;
              first = work.first;
              begun = work.begun;
              start = work.start;
              ready = work.ready;
              kind = kind;
              me = me_on o.control laws.steady m n (me_of g c) work.going work.me;
              going = fin;
              fit = out;
              gave = λ x tr a z. work.gave x tr a (laws.back m n work.going e work.start x tr a z);
            },
          )

      abbrev Made : Stage → Option S → Bool → List Move → Type 0
      Made u w b ms = Went (at1 q c (Some (sitting u w b))) (Word step ∷ ms) (words_set (o.control.asks m) s.words) s

      -- the word step is its one turn
      alone : (u : Stage) (w : Option S) (b : Bool) → AtBy c u w b then → Made u w b []
      alone u w b sit = goes (Some (sitting u w b)) (Word step) who low move turned (subst always (sym then_is) then_kept) (subst (AtBy c u w b) (sym then_is) sit)

      -- the identity is given up
      given_sits : (u : Stage) → is_dead u ≡ true → IsLeft always between (me_of g c) t u then → Made u None false (Dies c ∷ [])
      given_sits stage.Vacant e l = absurd (false≢true e)
      given_sits stage.Live e l = absurd (false≢true e)
      given_sits stage.Dead e l =
          let acting : acts then ≡ true = acts-here r step (asked_spot r step) l.0 ∙ work.acting in
          goes_and_dies (Some (sitting stage.Dead None false)) (Word step) who low move turned (subst always (sym then_is) then_kept) (ap acts then_is ∙ acting)
          (subst (λ (x : Memo). AtBy c stage.Dead None false (died x)) (sym then_is) (acts-died then, fell-died then acting))

      given_dead : (z u : Stage) → gives_up z u ≡ true → is_dead u ≡ true
      given_dead stage.Vacant u e = e
      given_dead stage.Live u e = e
      given_dead stage.Dead u e = absurd (false≢true e)

      answered : (a : A) → o.control.turns m n ≡ Some a → (u : Stage) → IsLeft always between (me_of g c) t u then → (b : Bool) → gives_up t u ≡ b → Made u None (acts_by b true u) (turns_up c b)
      answered a e u l true z = given_sits u (given_dead t u z) l
      answered a e u l false z = alone u None (acts_by false true u) (left_sits a e u z l)

      made : (v : Option A) → o.control.turns m n ≡ v → Outcome v (Fits (o.control.after m n) work.start then) (Gives m work.start then) → Made (stage_by o v t) (goes_on o (o.control.after m n) v) (acts_left t true v (stage_by o v t)) (turns_left c t v (stage_by o v t))
      made None e out = alone t (kept o (o.control.finished (o.control.after m n)) (o.control.after m n)) true (goes_on_sits e out)
      made (Some a) e out =
          let u : Stage = (o.replies a t).stage in
          answered a e u (owed.leaves (me_of g c) t work.call work.first work.start then then.call a work.sized work.begun work.ready (work.gave then then.call a out) then_held kind then_kept) (gives_up t u) refl

    pub steps : (found : ℕ) (m : S) (v : Option (Sitting S)) → q c ≡ v → work_of v ≡ Some m → found ≡ seen_of (o.control.asks m) (slice_index s.words (at_of (o.control.asks m))) → Went (at1 q c (sitting_told g o found v)) (turns_told g o c found v) (words_made g o (work_of v) s.words) s
    steps found m None e w is = absurd (cc)
    steps found m (Some x) e w is =
        let low : c < g.clients = h.low c x e in
        let sit : AtBy c x.stage x.work x.acts r = subst (λ (v : Option (Sitting S)). At c v r) e (h.sits c low) in
        let at : AtBy c x.stage (Some m) x.acts r = subst (λ (v : Option S). AtBy c x.stage v x.acts r) w sit in
        let k : ℕ = seen_of (o.control.asks m) (slice_index s.words (at_of (o.control.asks m))) in
        subst (λ (v : Option S). Went (at1 q c (sitting_told g o found (Some (sitting x.stage v x.acts)))) (turns_told g o c found (Some (sitting x.stage v x.acts))) (words_made g o v s.words) s) (sym w)
        (subst (λ (b : Bool). Went (at1 q c (sitting_told g o found (Some (sitting x.stage (Some m) b)))) (turns_told g o c found (Some (sitting x.stage (Some m) b))) (words_made g o (Some m) s.words) s) (sym at.0)
        (subst (λ (j : ℕ). Went (at1 q c (sitting_told g o j (Some (sitting x.stage (Some m) true)))) (turns_told g o c j (Some (sitting x.stage (Some m) true))) (words_set (o.control.asks m) s.words) s) (sym is)
        (made low x.stage m at.1 (o.control.turns m k) refl (learns low x.stage m at.1))))
