-- a word step of the agents that stand where they work
use Rattle.std.proofs.Common.{◌≡◌, ℕ, ◌+◌, ◌^◌, ◌<◌, ◌≤◌, Bool, true, false, cond, List, [], ◌∷◌, ◌++◌, length, refl, sym, ap, ◌∙◌, subst, inl, inr, Result, arith}
use Rattle.std.proofs.lemmas.Bool.{true≢false}
use Rattle.std.specs.{Prelude.{Option, Some, None, Ok, slice_get}, List.AllByRecursion}
use Rattle.shm_words.specs.{declared.geometry.Geometry.Geometry, Layout.GeometryFits}
use Rattle.shm_graph.specs.declared.{ask.{Life.Life, Me.Me}, memo.{Kind.TheVariants.{Client, Recoverer}, Memo.Memo}}
use Rattle.shm_graph.specs.declared.{memo.Step.Step, run.{Account.Account, Start.Start}, spot.Spot.TheVariants.Era}
use Rattle.shm_graph.specs.{Agents.{acts, acts_by, last_agent, steps_made}, Laws.{Outcome, step_of}}
use Rattle.shm_graph.specs.{Runs.{Stood, account_after, account_entered, first_account}, Views.own_word}
use Rattle.shm_graph.specs.Whole.{fits_now, gives_now}
use Rattle.shm_graph.proofs.Memos.MemoSteps.{last-append}
use Rattle.shm_plain.specs.{Tracks.kind_next, Working.{IsWorkOf, MayWork, ready_account}}
use Rattle.plans.specs.declared.or.Or.TheVariants.{First, Second}
use Rattle.shm_count.specs.declared.answer.EraSpent.{EraSpent}
use Rattle.shm_recover.specs.{Join.{JoinGives, join_fresh}, Proved.Join.Keeps.join_begins}
use Rattle.shm_script.specs.{declared.{line.Line.Line, log.{Answer.Answer, Entry.Entry}}, Ranges.LineFits}
use Rattle.shm_script.specs.Values.{Scripted}
use Rattle.shm_script.specs.declared.log.End.TheVariants as end
use Rattle.shm_agents.specs.declared.agents.Standing.{Standing, TheVariants.{AtWork, Gone}}
use Rattle.shm_agents.specs.Agents.{HasParted, IsFallen, IsFresh, IsMended, IsMending, IsPlaying, IsSettled, MayPlay, Playing, Stage, AgentsStand, behind}
use Rattle.shm_agents.specs.Taken.{HasTaken}
use Rattle.shm_agents.specs.Work.{Work, WorkAnswer, WorkFits, WorkGives, join_work, recover_work, work_control}
use Rattle.shm_agents.specs.Agents as at
use Rattle.shm_agents.proofs.{OwnEras.own_most, Standing.{fell_quiet, stands_now}, Taking.{next_work, took_word}}
use Rattle.shm_agents.proofs.Joining as joining
use Rattle.shm_agents.proofs.Mending as mending
use Rattle.shm_agents.proofs.Playing as playing

-- one that is at work isn't gone
not_gone : (z : Standing) {A : Type 0} → z ≡ AtWork → z ≡ Gone → A
not_gone z here gone = let e : AtWork ≡ Gone = sym here ∙ gone in absurd (cc)

may_acting : (e : Account) → acts e.memo ≡ true → MayWork e
may_acting e h f = absurd (true≢false (sym h ∙ f))

-- ---- before it

module _ (start : Start) (s : Scripted) (x : Playing) (e : Account) where
  abbrev pub c : ℕ
  c = x.me.who

  -- the account once an agent acts
  abbrev pub e1 : Account
  e1 = ready_account e

  is_me : MayPlay start s x → x.me ≡ record { geometry = start.geometry; who = c }
  is_me may = (λ i. record { geometry = may.me i; who = c })

  acts_playing : IsPlaying s x e → acts e.memo ≡ true
  acts_playing h = ap (λ xs. acts_by (last_agent xs)) h.agents

  acts_mending : IsMending s x e → acts e.memo ≡ true
  acts_mending h = ap (λ xs. acts_by (last_agent xs)) h.agents ∙ ap acts_by (last-append h.before _)

  acts_fallen : IsFallen s x e → acts e.memo ≡ false
  acts_fallen h = fell_quiet (last_agent e.memo.agents) h.fell

  -- the account is what it was where an agent acts, and otherwise one has begun
  acting_ready : acts e.memo ≡ true → e1 ≡ e
  acting_ready h = ap (λ (b : Bool). cond b e (account_entered (kind_next e.memo) e)) h

  fresh_ready : IsFresh start s x e → e1 ≡ account_entered Client (first_account start c)
  fresh_ready h = ap ready_account h.account

  fallen_ready : IsFallen s x e → e1 ≡ account_entered Recoverer e
  fallen_ready h =
      ap (λ (b : Bool). cond b e (account_entered (kind_next e.memo) e)) (acts_fallen h)
      ∙ ap (λ (b : Bool). account_entered (cond b Recoverer Client) e) h.fell

  -- where one comes next, it is a recoverer
  fallen_work : (h : IsFallen s x e) → x.standing ≡ AtWork → x.work ≡ recover_work x.me
  fallen_work h here =
      elim h.next [
        | inl n ↦ (let z : AtWork ≡ _ = sym here ∙ n.0 in absurd (cc))
        | inr n ↦ n.2
      ]

  module _ (may : MayPlay start s x) (here : x.standing ≡ AtWork) (stage : Stage start s x e) where
    pub is_of : IsWorkOf start c work_control x.work
    is_of = go stage
      where
        go : Stage start s x e → IsWorkOf start c work_control x.work
        go (at.Fresh h) = (ap (λ (z : Work). work_control.me z) h.work ∙ is_me may, may.who, ap (λ (z : Work). work_control.finished z) h.work)
        go (at.Plays h) = (h.me ∙ is_me may, may.who, h.going)
        go (at.Parted h) = not_gone x.standing here h.left
        go (at.Fallen h l) = (ap (λ (z : Work). work_control.me z) (fallen_work h here) ∙ is_me may, may.who, ap (λ (z : Work). work_control.finished z) (fallen_work h here))
        go (at.Mending h l) = (h.me ∙ is_me may, may.who, h.going)
        go (at.Mended h l) = not_gone x.standing here h.recovered

    pub may_step : MayWork e
    may_step = go stage
      where
        go : Stage start s x e → MayWork e
        go (at.Fresh h) = subst MayWork (sym h.account) (λ _. inl (refl, refl))
        go (at.Plays h) = may_acting e (acts_playing h)
        go (at.Parted h) = not_gone x.standing here h.left
        go (at.Fallen h l) = λ _. inr h.fell
        go (at.Mending h l) = may_acting e (acts_mending h)
        go (at.Mended h l) = not_gone x.standing here h.recovered

    fresh_fits : IsFresh start s x e → fits_now work_control WorkFits (join_work x.me) e1.memo e1.memo
    fresh_fits h =
        subst (λ (z : Account). fits_now work_control WorkFits (join_work x.me) z.memo z.memo) (sym (fresh_ready h))
        (join_begins x.me (account_entered Client (first_account start c)).memo
        (record { member = record { geometry = subst GeometryFits (sym may.me) may.geometry; who = subst (λ (g : Geometry). c < g.clients) (sym may.me) may.who }; status = inl refl }))

    fallen_fits : IsFallen s x e → fits_now work_control WorkFits x.work e1.memo e1.memo
    fallen_fits h = subst (λ (z : Account). fits_now work_control WorkFits x.work z.memo z.memo) (sym (fallen_ready h)) (mending.mend_fits start s x e may h here)

    -- where an agent acts it fits as it did
    acting_fits : acts e.memo ≡ true → (r0 : Memo) → fits_now work_control WorkFits x.work r0 e.memo → fits_now work_control WorkFits x.work r0 e1.memo
    acting_fits acting r0 = subst (λ (z : Account). fits_now work_control WorkFits x.work r0 z.memo) (sym (acting_ready acting))

    pub fits : (r0 : Memo) × fits_now work_control WorkFits x.work r0 e1.memo
    fits = go stage
      where
        go : Stage start s x e → (r0 : Memo) × fits_now work_control WorkFits x.work r0 e1.memo
        go (at.Fresh h) = (e1.memo, subst (λ (z : Work). fits_now work_control WorkFits z e1.memo e1.memo) (sym h.work) (fresh_fits h))
        go (at.Plays h) = (h.start, acting_fits (acts_playing h) h.start h.fits)
        go (at.Parted h) = not_gone x.standing here h.left
        go (at.Fallen h l) = (e1.memo, fallen_fits h)
        go (at.Mending h l) = (h.start, acting_fits (acts_mending h) h.start h.fits)
        go (at.Mended h l) = not_gone x.standing here h.recovered

    -- ---- after it

    module _ (taken : HasTaken x.me s.lines (first_account start c) e) (last : Account) (n : ℕ) (after : last ≡ account_after e1 (step_of work_control x.work n)) (now : Stood start last) (named : last.who ≡ c) (life : Life) (spent : life.left + 1 ≡ x.life.left)
        (learns : (r0 : Memo) → fits_now work_control WorkFits x.work r0 e1.memo → Outcome (work_control.turns x.work n) (fits_now work_control WorkFits (work_control.after x.work n) r0 last.memo) (gives_now WorkGives x.work r0 last.memo)) where
      abbrev t : Step
      t = step_of work_control x.work n

      abbrev next : Work
      next = work_control.after x.work n

      -- they may play still, whatever else they have done
      still : (y : Playing) → y.me ≡ x.me → y.room ≡ x.room → MayPlay start s y
      still y me room =
          record {
            geometry = may.geometry;
            era = may.era;
            tables = may.tables;
            me = ap (λ (z : Me). z.geometry) me ∙ may.me;
            who = subst (λ (z : Me). z.who < start.geometry.clients) (sym me) may.who;
            client = may.client ∙ ap (λ (z : Me). z.who) (sym me);
            script = may.script;
            room = subst (λ (n : ℕ). length s.lines ≤ n) (sym room) may.room;
          }

      geometry : GeometryFits x.me.geometry
      geometry = subst GeometryFits (sym may.me) may.geometry

      mine : c < x.me.geometry.clients
      mine = subst (λ (g : Geometry). c < g.clients) (sym may.me) may.who

      all : AllByRecursion (LineFits x.me.geometry.clients c) s.lines
      all = subst (λ (g : Geometry). AllByRecursion (LineFits g.clients c) s.lines) (sym may.me) (subst (λ (d : ℕ). AllByRecursion (LineFits start.geometry.clients d) s.lines) may.client may.script.lines)

      -- the own era is far from spent
      era : own_word last.memo.own (Era c c) ≤ 2 ^ 46 + steps_made last.memo
      era =
          let most = subst (λ (k : ℕ). own_word last.memo.own (Era k k) ≤ start.first_era + steps_made last.memo) named (own_most start last now) in
          let few = may.era in
          omega arith

      -- what was learnt, by what it answered
      outcome_on : {A : Type 0} (o : Option A) (P : Type 0) (Q : A → Type 0) → o ≡ None → Outcome o P Q → P
      outcome_on o P Q none h = subst (λ z. Outcome z P Q) none h

      outcome_done : {A : Type 0} (o : Option A) (P : Type 0) (Q : A → Type 0) (a : A) → o ≡ Some a → Outcome o P Q → Q a
      outcome_done o P Q a some h = subst (λ z. Outcome z P Q) some h

      abbrev Fits : Memo → Account → Type 0
      Fits r0 z = fits_now work_control WorkFits next r0 z.memo

      abbrev Gives : Memo → Account → WorkAnswer → Type 0
      Gives r0 z a = gives_now WorkGives x.work r0 z.memo a

      -- it goes on from a memo, where the account after it is z
      on : (r0 : Memo) (z : Account) → last ≡ z → fits_now work_control WorkFits x.work r0 e1.memo → work_control.turns x.work n ≡ None → Fits r0 z
      on r0 z same f none = subst (Fits r0) same (outcome_on (work_control.turns x.work n) _ (gives_now WorkGives x.work r0 last.memo) none (learns r0 f))

      gave : (r0 : Memo) (z : Account) → last ≡ z → fits_now work_control WorkFits x.work r0 e1.memo → (a : WorkAnswer) → work_control.turns x.work n ≡ Some a → Gives r0 z a
      gave r0 z same f a some = subst (λ (y : Account). Gives r0 y a) same (outcome_done (work_control.turns x.work n) (fits_now work_control WorkFits next r0 last.memo) (gives_now WorkGives x.work r0 last.memo) a some (learns r0 f))

      era_at : (z : Account) → last ≡ z → own_word z.memo.own (Era c c) ≤ 2 ^ 46 + steps_made z.memo
      era_at z same = subst (λ (y : Account). own_word y.memo.own (Era c c) ≤ 2 ^ 46 + steps_made y.memo) same era

      -- what the join answers
      joins : IsFresh start s x e → work_control.turns x.work n ≡ Some (First (First tt))
      joins h = ap (λ (z : Work). work_control.turns z n) h.work

      -- a recovery isn't over with its first word step
      starts : IsFallen s x e → work_control.turns x.work n ≡ None
      starts h = mending.mend_starts start s x e may h here n

      abbrev pub Stand : Playing → Type 0
      Stand y = AgentsStand start s y last

      -- all turns are those of the agents
      took : HasTaken x.me s.lines (first_account start c) last
      took =
          let at_now = stands_now start s x e (record { may = may; stage = stage; taken = taken }) here in
          subst (HasTaken x.me s.lines (first_account start c)) (sym after) (took_word x.me s.lines (first_account start c) e taken x.work (next_work x.me s e x.work at_now.next) n)

      stood : (y : Playing) → y.me ≡ x.me → y.room ≡ x.room → Stage start s y last → Stand y
      stood y me room h = record { may = still y me room; stage = h; taken = subst (λ (z : Me). HasTaken z s.lines (first_account start z.who) last) (sym me) took }

      -- what is settled of the log, where the account after it is z
      settled_at : (y : Playing) (z : Account) → last ≡ z → IsSettled s y z z.told → IsSettled s y last last.told
      settled_at y z same = subst (λ (a : Account). IsSettled s y a a.told) (sym same)

      module _ (h : IsPlaying s x e) where
        -- the account after the step of a client that has joined
        abbrev ep : Account
        ep = account_after e t

        plays_after : last ≡ ep
        plays_after = after ∙ ap (λ (z : Account). account_after z t) (acting_ready (acts_playing h))

        plays_fits : fits_now work_control WorkFits x.work h.start e1.memo
        plays_fits = acting_fits (acts_playing h) h.start h.fits

        plays_gave : (a : WorkAnswer) → work_control.turns x.work n ≡ Some a → Gives h.start ep a
        plays_gave = gave h.start ep plays_after plays_fits

        plays_not_join : (A : Type 0) (a : _) → work_control.turns x.work n ≡ Some (First a) → A
        plays_not_join A a some = absurd (playing.not_join x.me s.lines (length x.entries) h.start ep.memo ep.memo.call a (h.gave ep.memo ep.memo.call (First a) (plays_gave (First a) some)))

      module _ (h : IsMending s x e) where
        -- the account after the step of a recoverer
        abbrev em : Account
        em = account_after e t

        mends_after : last ≡ em
        mends_after = after ∙ ap (λ (z : Account). account_after z t) (acting_ready (acts_mending h))

        mends_fits : fits_now work_control WorkFits x.work h.start e1.memo
        mends_fits = acting_fits (acts_mending h) h.start h.fits

        mends_done : (a : WorkAnswer) → work_control.turns x.work n ≡ Some a → (a ≡ First (Second (Ok tt))) × ((w : Work) → IsMended s (record x { work = w; life = life; standing = Gone }) em)
        mends_done a some = mending.mend_done s x e h n life spent start may (era_at em mends_after) a some (gave h.start em mends_after mends_fits a some)

        mends_settled : (a : WorkAnswer) → work_control.turns x.work n ≡ Some a → (w : Work) → IsSettled s x e e.told → IsSettled s (record x { work = w; life = life; standing = Gone }) em em.told
        mends_settled a some = mending.done_settled s x e h n life spent start may (era_at em mends_after) a some (gave h.start em mends_after mends_fits a some)

      -- the work goes on
      pub went_on : work_control.turns x.work n ≡ None → Stand (record x { work = next; life = life })
      went_on none = stood y refl refl (go stage)
        where
          y : Playing
          y = record x { work = next; life = life }

          go : Stage start s x e → Stage start s y last
          go (at.Fresh h) = absurd (let z = sym none ∙ joins h in cc)
          go (at.Plays h) = at.Plays (subst (IsPlaying s y) (sym (plays_after h)) (playing.goes_on s x e h n life spent none (on h.start (ep h) (plays_after h) (plays_fits h) none)))
          go (at.Parted h) = not_gone x.standing here h.left
          go (at.Fallen h l) =
              let ef : Account = account_after (account_entered Recoverer e) t in
              let same : last ≡ ef = after ∙ ap (λ (z : Account). account_after z t) (fallen_ready h) in
              let fit : Fits (account_entered Recoverer e).memo ef = subst (λ (z : Account). Fits z.memo ef) (fallen_ready h) (on e1.memo ef same (fallen_fits h) none) in
              at.Mending (subst (IsMending s y) (sym same) (mending.mend_first start s x e may h here n life spent fit)) (settled_at y ef same (mending.first_settled start s x e may h here n life spent fit l))
          go (at.Mending h l) =
              let fit : Fits h.start (em h) = on h.start (em h) (mends_after h) (mends_fits h) none in
              at.Mending (subst (IsMending s y) (sym (mends_after h)) (mending.mend_more s x e h n life spent none fit)) (settled_at y (em h) (mends_after h) (mending.more_settled s x e h n life spent none fit l))
          go (at.Mended h l) = not_gone x.standing here h.recovered

      -- it has joined
      pub began : (a : Unit {0}) → work_control.turns x.work n ≡ Some (First (First a)) → Stand (record x { work = behind x.me s.lines (length x.entries); life = life })
      began a some = stood (y x.entries) refl refl (go stage)
        where
          y : List Entry → Playing
          y es = record x { work = behind x.me s.lines (length es); life = life; entries = es }

          go : Stage start s x e → Stage start s (y x.entries) last
          go (at.Plays h) = plays_not_join h _ (First a) some
          go (at.Parted h) = not_gone x.standing here h.left
          go (at.Fallen h l) = absurd (let z = sym some ∙ starts h in cc)
          go (at.Mending h l) = absurd (let z = (mends_done h (First (First a)) some).0 in cc)
          go (at.Mended h l) = not_gone x.standing here h.recovered
          go (at.Fresh h) =
              let ej : Account = joining.e2 start x.me n in
              let same : last ≡ ej = after ∙ (ap (λ (z : Account). account_after z t) (fresh_ready h) ∙ ap (λ (z : Work). account_after (account_entered Client (first_account start c)) (step_of work_control z n)) h.work) in
              let gives : Gives e1.memo ej (First (First tt)) = gave e1.memo ej same (subst (λ (z : Work). fits_now work_control WorkFits z e1.memo e1.memo) (sym h.work) (fresh_fits h)) (First (First tt)) (joins h) in
              let join : JoinGives (join_fresh x.me) (joining.e1 start x.me n).memo ej.memo ej.memo.call tt =
              subst (λ (z : Account). gives_now WorkGives (join_work x.me) z.memo ej.memo (First (First tt))) (fresh_ready h)
              (subst (λ (z : Work). gives_now WorkGives z e1.memo ej.memo (First (First tt))) h.work gives) in
              let p0 : IsPlaying s (y []) ej = joining.joined start x.me n join may.tables s x life h.agent h.end h.here h.life spent geometry mine all in
              at.Plays (subst (IsPlaying s (y x.entries)) (sym same) (subst (λ (es : List Entry). IsPlaying s (y es) ej) (sym h.entries) p0))

      -- it has recovered the identity
      pub recovered : (a : Result (Unit {0}) EraSpent) → work_control.turns x.work n ≡ Some (First (Second a)) → (a ≡ Ok tt) × Stand (record x { work = next; life = life; standing = Gone })
      recovered a some = go stage
        where
          y : Playing
          y = record x { work = next; life = life; standing = Gone }

          go : Stage start s x e → (a ≡ Ok tt) × Stand y
          go (at.Fresh h) = absurd (let z = sym some ∙ joins h in cc)
          go (at.Plays h) = plays_not_join h _ (Second a) some
          go (at.Parted h) = not_gone x.standing here h.left
          go (at.Fallen h l) = absurd (let z = sym some ∙ starts h in cc)
          go (at.Mending h l) =
              let done = mends_done h (First (Second a)) some in
              let settled = mends_settled h (First (Second a)) some next l in
              let same = done.0 in (cc, stood y refl refl (at.Mended (subst (IsMended s y) (sym (mends_after h)) (done.1 next)) (settled_at y (em h) (mends_after h) settled)))
          go (at.Mended h l) = not_gone x.standing here h.recovered

      -- a command has answered
      pub answered : (a : Answer) → work_control.turns x.work n ≡ Some (Second (First a)) → (l : Line) × (slice_get s.lines (length x.entries) ≡ Some l) × Stand (record x { entries = x.entries ++ record { line = l; answer = a } ∷ []; work = behind x.me s.lines (length (x.entries ++ record { line = l; answer = a } ∷ [])); life = life })
      answered a some = go stage
        where
          y : Line → Playing
          y l = record x { entries = x.entries ++ record { line = l; answer = a } ∷ []; work = behind x.me s.lines (length (x.entries ++ record { line = l; answer = a } ∷ [])); life = life }

          go : Stage start s x e → (l : Line) × (slice_get s.lines (length x.entries) ≡ Some l) × Stand (y l)
          go (at.Fresh h) = absurd (let z = sym (joins h) ∙ some in cc)
          go (at.Parted h) = not_gone x.standing here h.left
          go (at.Fallen h l) = absurd (let z = sym some ∙ starts h in cc)
          go (at.Mending h l) = absurd (let z = (mends_done h (Second (First a)) some).0 in cc)
          go (at.Mended h l) = not_gone x.standing here h.recovered
          go (at.Plays h) =
              let gives = plays_gave h (Second (First a)) some in
              let own = era_at (ep h) (plays_after h) in
              let l = playing.command_at s x e h n life spent geometry mine all may.script.life own a some gives in
              (l.0, l.1, stood (y l.0) refl refl (at.Plays (subst (IsPlaying s (y l.0)) (sym (plays_after h)) (playing.answers s x e h n life spent geometry mine all may.script.life own a some gives))))

      -- it has left
      pub parted : (a : Result (Unit {0}) EraSpent) → work_control.turns x.work n ≡ Some (Second (Second a)) → (a ≡ Ok tt) × Stand (record x { work = next; life = life; end = Some end.Ended; standing = Gone })
      parted a some = go stage
        where
          y : Playing
          y = record x { work = next; life = life; end = Some end.Ended; standing = Gone }

          go : Stage start s x e → (a ≡ Ok tt) × Stand y
          go (at.Fresh h) = absurd (let z = sym (joins h) ∙ some in cc)
          go (at.Parted h) = not_gone x.standing here h.left
          go (at.Fallen h l) = absurd (let z = sym some ∙ starts h in cc)
          go (at.Mending h l) = absurd (let z = (mends_done h (Second (Second a)) some).0 in cc)
          go (at.Mended h l) = not_gone x.standing here h.recovered
          go (at.Plays h) =
              let gives = plays_gave h (Second (Second a)) some in
              let own = era_at (ep h) (plays_after h) in (
                playing.left_ok s x e h n life spent geometry mine all may.script.life own a some gives,
                stood y refl refl (at.Parted (subst (HasParted s y) (sym (plays_after h)) (playing.leaves s x e h n life spent geometry mine all may.script.life own a some gives next))),
              )
