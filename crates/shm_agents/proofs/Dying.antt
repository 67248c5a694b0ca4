-- the death of an agent: of a client that was at work, or of a recoverer
use Rattle.std.proofs.Common.{◌≡◌, ℕ, ◌+◌, ◌<◌, Bool, true, false, cond, List, [], ◌∷◌, ◌++◌, map, take, length, append-nil, refl, sym, ap, ◌∙◌, subst, inl, inr, arith}
use Rattle.std.proofs.lemmas.List.{length-append}
use Rattle.std.specs.{Prelude.{Option, Some, None, slice_get, slice_index, sum}, Option.is_some}
use Rattle.shm_graph.specs.declared.{ask.Me.Me, memo.{Agent.Agent, Fate.Fate, Kind.TheVariants.Recoverer, Memo.Memo}}
use Rattle.shm_graph.specs.declared.run.{Account.Account, LoggedLine.LoggedLine}
use Rattle.shm_graph.specs.{Agents.{fallen, last_agent, steps_made, steps_of, with_last}, Asks.{Trail, call_before}}
use Rattle.shm_graph.specs.{Held.is_loose, Runs.{account_died, fell_by, told_by, told_left}, Tells.after_all}
use Rattle.shm_graph.specs.declared.memo.Fate.TheVariants as fate
use Rattle.shm_graph.proofs.Memos.MemoSteps.{last-append}
use Rattle.plans.specs.{declared.or.Or.TheVariants.{First, Second}, CallsControl.{calls_control, calls_of}}
use Rattle.plans.specs.{Deciding.StillRuns, Either.or_control}
use Rattle.shm_count.specs.Steady.{SameMap}
use Rattle.shm_recover.specs.{Join.join_control, Leave.Control.{leave_line, leave_parts, leaving, leave_steered}}
use Rattle.shm_recover.specs.Recover.Control.{recover_line, recover_parts, recover_steered}
use Rattle.shm_recover.proofs.Steady.{leave_steady}
use Rattle.shm_script.specs.declared.{line.Line.Line, log.{Answer.Answer, End.TheVariants.Died, Entry.Entry}}
use Rattle.shm_script.specs.{Text.line_spelled, Values.Scripted}
use Rattle.shm_table.specs.Command.Maps.{MapSoFar}
use Rattle.shm_table.specs.Command.{CommandCall, CommandFits, command_control, command_effect, command_of}
use Rattle.shm_agents.specs.declared.agents.Standing.TheVariants.{AtWork}
use Rattle.shm_agents.specs.Agents.{IsFallen, IsFold, IsMending, IsPlaying, IsSettled, Playing, behind, follows, logged, one_agent, shown_by}
use Rattle.shm_agents.specs.Courses.{AreAgents, AreCommandsTold}
use Rattle.shm_agents.specs.Logs.{BeganWith, Was, begun_first, steps_first, with_effect}
use Rattle.shm_agents.specs.{Logs.Was.{Between, InCommand, InLeaving}, Turns.lives_of}
use Rattle.shm_agents.specs.Work.{LeaveCalls, Work, WorkFits, commanding, leave_work, work_control}
use Rattle.shm_agents.proofs.Courses.{agents_more, effect_behind, take_more, told_aside, told_on, told_shown}
use Rattle.shm_agents.proofs.Effects.{behind_none, behind_some, effect_line, fold_so_far, lines_so_far, none_shown, runs_first, runs_second, told_cut}
use Rattle.shm_agents.proofs.Growing.{began_last, first_steps, get_last, index_is, log_on, steps_of-end, sum_more, with_last-end}
use Rattle.shm_agents.proofs.{Lines.command_line, Trails.{after_first, after_second, entries_rest}}
use Rattle.shm_agents.proofs.Unspent.{unspent_shown}

-- the map of a command that runs: the first law of `command_maps`
abbrev pub CommandMaps : Type 0
CommandMaps = (me : Me) (l : Line) (start : Trail) (r0 r : Memo) (tr : Trail) → StillRuns command_control (command_of me l) start → let m : CommandCall = after_all command_control (command_of me l) start in CommandFits m r0 r tr → MapSoFar l (command_effect m) r0 r

-- what is noted of a client that dies in its work: a command that shows its answer is an entry too
abbrev pub settles : Line → Playing → Playing
settles line x = record x { entries = with_effect x.entries line (shown_by x.work); end = Some (Died (length x.entries) (is_some (shown_by x.work))) }

-- what is settled of the log stays where the next one comes
settled_by : (s : Scripted) (y : Playing) (e : Account) (told : List LoggedLine) (o : Option ℕ) → IsSettled s y e told → IsSettled s (follows o y) e told
settled_by s y e told None h = record { end = h.end; ended = h.ended; log = h.log; only = h.only; unspent = h.unspent; fold = h.fold; table = h.table }
settled_by s y e told (Some n) h = record { end = h.end; ended = h.ended; log = h.log; only = h.only; unspent = h.unspent; fold = h.fold; table = h.table }

-- so many agents have fallen once the last one has
fallen_by : (s : Scripted) (y : Playing) (e : Account) → y.standing ≡ AtWork → steps_first e.memo.agents ≡ slice_index (lives_of s.life) 0 → length e.memo.agents ≡ y.agent + 1 → fell_by (last_agent e.memo.agents) ≡ true → AreAgents s.lines (take (y.agent + 1) (lives_of s.life)) e.memo.agents e.begun true → steps_made e.memo ≡ sum (take (y.agent + 1) (lives_of s.life))
    → IsFallen s (follows (slice_get (lives_of s.life) (y.agent + 1)) y) e
fallen_by s y e here lived many fell died made = go (slice_get (lives_of s.life) (y.agent + 1)) refl
  where
    go : (o : Option ℕ) → slice_get (lives_of s.life) (y.agent + 1) ≡ o → IsFallen s (follows o y) e
    go None none =
        record {
          lived = lived;
          many = many;
          some = omega arith;
          fell = fell;
          died = died;
          made = made;
          next = inl (refl, none);
        }
    go (Some n) at =
        record {
          lived = lived;
          many = many;
          some = omega arith;
          fell = fell;
          died = died;
          made = made;
          next = inr (here, at, refl);
        }

module _ (s : Scripted) (x : Playing) (e : Account) where
  abbrev pub next : Option ℕ
  next = slice_get (lives_of s.life) (x.agent + 1)

  abbrev e2 : Account
  e2 = account_died e

  -- what is told of it once the next agent begins
  abbrev told : List LoggedLine
  told = told_left true e2

  -- it made all word steps of its life
  all_made : x.life.left ≡ 0 → (steps : ℕ) → steps ≡ x.life.left + steps
  all_made spent steps = let z = spent in omega arith

  -- ---- a recoverer dies

  module _ (h : IsMending s x e) where
    abbrev it : Agent
    it = record { kind = Recoverer; steps = h.steps; fate = fate.Acts }

    pub mended_agents : e2.memo.agents ≡ h.before ++ fallen it ∷ []
    mended_agents = ap (with_last fallen) h.agents ∙ with_last-end fallen h.before it

    mended_began : (n : ℕ) (f : Fate) → BeganWith e.memo.agents n f → BeganWith e2.memo.agents n f
    mended_began n f b =
        subst (λ (xs : List Agent). BeganWith xs n f) (sym mended_agents)
        (began_last h.before it (fallen it) n f (let m = h.many in let o = h.some in omega arith) (subst (λ (xs : List Agent). BeganWith xs n f) h.agents b))

    -- and made as many word steps
    mended_made : steps_first e2.memo.agents ≡ steps_first e.memo.agents
    mended_made =
        let some : 0 < length h.before = (let m = h.many in let o = h.some in omega arith) in
        ap steps_first mended_agents ∙ (first_steps h.before (fallen it ∷ []) some ∙ sym (ap steps_first h.agents ∙ first_steps h.before (it ∷ []) some))

    -- what is told of its recovery
    abbrev tells : LoggedLine
    tells = record { line = recover_line; trail = e.memo.call; finished = false }

    pub mended : IsSettled s x e e.told → IsSettled s x e2 told
    mended l =
        let more : told ≡ e.told ++ tells ∷ [] = ap (λ (line : List ℕ). told_by line e.memo.call false e.told) h.running in
        record {
          end = l.end;
          ended = l.ended;
          log = log_on x.me s (steps_first e.memo.agents) (steps_first e2.memo.agents) mended_made e.memo.agents e2.memo.agents e.begun e.begun e.told told (logged x) mended_began (λ k some same. same) (tells ∷ []) more l.log;
          only = subst (λ (ts : List LoggedLine). AreCommandsTold x.me ts x.entries) (sym more) (told_aside x.me e.told (tells ∷ []) x.entries l.only (inl (inr (inr (inr refl))), refl));
          unspent = l.unspent;
          fold = l.fold;
          table = l.table;
        }

    pub mended_settled : IsSettled s x e e.told → IsSettled s (follows next x) e2 told
    mended_settled l = settled_by s x e2 told next (mended l)

    pub falls_mending : x.life.left ≡ 0 → IsFallen s (follows next x) e2
    falls_mending spent =
        fallen_by s x e2 h.here (mended_made ∙ h.lived)
        (ap (λ (xs : List Agent). length xs) mended_agents ∙ (length-append h.before (fallen it ∷ []) ∙ ap (λ (n : ℕ). n + 1) h.many))
        (ap (λ (xs : List Agent). fell_by (last_agent xs)) mended_agents ∙ ap fell_by (last-append h.before (fallen it)))
        (subst (λ (ls : List ℕ). AreAgents s.lines ls e2.memo.agents e2.begun true) (sym (take_more (lives_of s.life) x.agent _ h.life))
        (subst (λ (xs : List Agent). AreAgents s.lines (take x.agent (lives_of s.life) ++ (x.life.left + h.steps) ∷ []) xs e2.begun true) (sym mended_agents)
        (subst (λ (bs : List (List (List ℕ))). AreAgents s.lines (take x.agent (lives_of s.life) ++ (x.life.left + h.steps) ∷ []) (h.before ++ fallen it ∷ []) bs true) (sym h.is_begun)
        (agents_more s.lines (take x.agent (lives_of s.life)) ((x.life.left + h.steps) ∷ []) h.before (fallen it ∷ []) h.begun ((recover_line ∷ []) ∷ []) true h.died
        (refl, inl (refl, all_made spent h.steps), refl, refl)))))
        (let a = ap steps_of mended_agents in let b = steps_of-end h.before (fallen it) in let m = h.made in let l = sum_more (lives_of s.life) x.agent _ h.life in omega arith)

  -- ---- the client dies

  module _ (h : IsPlaying s x e) where
    abbrev many : ℕ
    many = length x.entries

    abbrev fresh : Bool
    fresh = work_control.fresh x.work

    abbrev now : Work
    now = behind x.me s.lines many

    -- what its work has asked
    abbrev trail : Trail
    trail = call_before fresh e.memo.call

    -- ---- in its leaving, or before it

    module _ (all : slice_get s.lines many ≡ None) where
      abbrev n : LeaveCalls
      n = after_all (calls_control leave_parts leave_steered) (calls_of leave_steered (leaving x.me)) trail

      last_one : now ≡ leave_work x.me
      last_one = behind_none x.me s.lines many all

      in_leaving : x.work ≡ Second (Second n)
      in_leaving =
          sym h.course
          ∙ (ap (λ (z : Work). after_all work_control z trail) last_one
          ∙ (after_second (or_control join_control (calls_control recover_parts recover_steered)) (or_control command_control (calls_control leave_parts leave_steered)) (Second (calls_of leave_steered (leaving x.me))) trail
          ∙ ap Second (after_second command_control (calls_control leave_parts leave_steered) (calls_of leave_steered (leaving x.me)) trail)))

      none : shown_by x.work ≡ None
      none = ap shown_by in_leaving

    -- what shows an answer is a command
    pub shows_line : is_some (shown_by x.work) ≡ true → (l : Line) × (slice_get s.lines many ≡ Some l)
    shows_line shown = go (slice_get s.lines many) refl
      where
        go : (o : Option Line) → slice_get s.lines many ≡ o → (l : Line) × (slice_get s.lines many ≡ Some l)
        go (Some l) is = (l, is)
        go None all = absurd (let z : true ≡ false = sym shown ∙ ap (λ (o : Option Answer). is_some o) (none all) in cc)

    module _ (client : s.client ≡ x.me.who) (table : is_loose e.memo.part ≡ false) (maps : CommandMaps) (line : Line) (at : is_some (shown_by x.work) ≡ true → slice_get s.lines many ≡ Some line) where
      abbrev entries : List Entry
      entries = with_effect x.entries line (shown_by x.work)

      abbrev done : Bool
      done = is_some (shown_by x.work)

      pub agents : e2.memo.agents ≡ one_agent h.steps fate.Died
      agents = ap (with_last fallen) h.agents

      lived : x.life.left ≡ 0 → slice_index (lives_of s.life) 0 ≡ h.steps
      lived spent = index_is (lives_of s.life) 0 _ h.life ∙ (let z = spent in omega arith)

      made : steps_first e2.memo.agents ≡ h.steps
      made = ap steps_first agents

      began : BeganWith e2.memo.agents (steps_first e2.memo.agents) fate.Died
      began = ([], agents ∙ ap (λ (n : ℕ). one_agent n fate.Died) (sym made))

      -- what it was at, and what of that is told
      record Left : Type 0 where
        rest : List LoggedLine
        tells : told ≡ e.told ++ rest
        was : Was x.me s.lines (begun_first e.begun) (h.told.behind ++ rest) x.entries entries done
        only : AreCommandsTold x.me rest (with_effect [] line (shown_by x.work))

      -- it has noted all that it did
      settled : Left → map (λ (y : Entry). y.line) entries ≡ take (length entries) s.lines → IsFold entries e.memo → IsSettled s (settles line x) e2 told
      settled l lines fold =
          record {
            end = Died many done;
            ended = refl;
            log = record {
              client = sym client;
              lines = lines;
              join = h.told.join;
              behind = h.told.behind ++ l.rest;
              is = l.tells ∙ ap (λ (ts : List LoggedLine). ts ++ l.rest) h.told.is;
              finished = x.entries;
              entries = entries_rest x.me h.told.behind l.rest x.entries h.told.entries;
              end = (refl, began, l.was);
            };
            only = subst (λ (ts : List LoggedLine). AreCommandsTold x.me ts entries) (sym l.tells)
                (subst (AreCommandsTold x.me (e.told ++ l.rest)) (effect_behind x.entries line (shown_by x.work)) (told_on x.me e.told l.rest x.entries (with_effect [] line (shown_by x.work)) h.told.only l.only));
            unspent = unspent_shown x.entries line x.work h.unspent;
            fold = fold;
            table = table;
          }

      -- between two pieces of work
      between : fresh ≡ true → shown_by x.work ≡ None → Left
      between new none =
          record {
            rest = [];
            tells = ap (λ (l : List ℕ). told_by l e.memo.call false e.told) (h.running ∙ ap (λ (b : Bool). cond b [] (work_control.line x.work)) new) ∙ sym (append-nil e.told);
            was = Between (ap begun_first h.is_begun ∙ (h.many ∙ ap (λ (b : Bool). cond b (many + 1) (many + 2)) new)) (ap (with_effect x.entries line) none) (ap (λ (o : Option Answer). is_some o) none);
            only = ap (with_effect [] line) none;
          }

      -- within one, of which this is told
      begun_more : fresh ≡ false → begun_first e.begun ≡ many + 2
      begun_more old = ap begun_first h.is_begun ∙ (h.many ∙ ap (λ (b : Bool). cond b (many + 1) (many + 2)) old)

      last_told : (t : LoggedLine) → slice_get (h.told.behind ++ t ∷ []) many ≡ Some t
      last_told t = get_last h.told.behind t many (let a = h.all_told in let i = ap (λ (ts : List LoggedLine). length ts) h.told.is in omega arith)

      runs_line : fresh ≡ false → e.running ≡ work_control.line now
      runs_line old = h.running ∙ (ap (λ (b : Bool). cond b [] (work_control.line x.work)) old ∙ h.line)

      -- ---- in a command, or before it

      module _ (l : Line) (here : slice_get s.lines many ≡ Some l) where
        abbrev m : CommandCall
        m = after_all command_control (command_of x.me l) trail

        placed : now ≡ commanding x.me l
        placed = behind_some x.me s.lines many l here

        in_command : x.work ≡ Second (First m)
        in_command =
            sym h.course
            ∙ (ap (λ (z : Work). after_all work_control z trail) placed
            ∙ (after_second (or_control join_control (calls_control recover_parts recover_steered)) (or_control command_control (calls_control leave_parts leave_steered)) (First (command_of x.me l)) trail
            ∙ ap Second (after_first command_control (calls_control leave_parts leave_steered) (command_of x.me l) trail)))

        shown : shown_by x.work ≡ command_effect m
        shown = ap shown_by in_command

        -- the line that is noted is its own
        shown_on : (es : List Entry) → with_effect es line (shown_by x.work) ≡ with_effect es l (shown_by x.work)
        shown_on es = effect_line es line l (shown_by x.work) (λ some. let e : Some line ≡ Some l = sym (at some) ∙ here in cc)

        noted : entries ≡ with_effect x.entries l (command_effect m)
        noted = shown_on x.entries ∙ ap (with_effect x.entries l) shown

        runs : StillRuns command_control (command_of x.me l) trail
        runs =
            runs_first command_control (calls_control leave_parts leave_steered) (command_of x.me l) trail
            (runs_second (or_control join_control (calls_control recover_parts recover_steered)) (or_control command_control (calls_control leave_parts leave_steered)) (First (command_of x.me l)) trail
            (subst (λ (z : Work). StillRuns work_control z trail) placed h.runs))

        so_far : MapSoFar l (command_effect m) h.start e.memo
        so_far = maps x.me l trail h.start e.memo trail runs (subst (λ (z : Work). WorkFits z h.start e.memo trail) in_command h.fits)

        -- where its call is that, by whether it is before its first word step
        effect_at : (b : Bool) → fresh ≡ b → shown_by x.work ≡ command_effect (after_all command_control (command_of x.me l) (call_before b e.memo.call))
        effect_at b is = shown ∙ ap (λ (z : Bool). command_effect (after_all command_control (command_of x.me l) (call_before z e.memo.call))) is

        cut : (b : Bool) → fresh ≡ b → Left
        cut true new = between new (effect_at true new ∙ none_shown x.me l)
        cut false old =
            let t : LoggedLine = record { line = line_spelled l; trail = e.memo.call; finished = false } in
            record {
              rest = t ∷ [];
              tells = ap (λ (z : List ℕ). told_by z e.memo.call false e.told) (runs_line old ∙ (ap (λ (z : Work). work_control.line z) placed ∙ command_line x.me l)) ∙ told_cut l e.memo.call e.told;
              was = InCommand l t (begun_more old) here (last_told t) refl refl
                  (shown_on x.entries ∙ ap (with_effect x.entries l) (effect_at false old))
                  (ap (λ (o : Option Answer). is_some o) (effect_at false old));
              only = subst (AreCommandsTold x.me (t ∷ [])) (sym (shown_on [] ∙ ap (with_effect [] l) (effect_at false old))) (told_shown x.me t l refl refl);
            }

        pub dies_commanding : IsSettled s (settles line x) e2 told
        dies_commanding =
            settled (cut fresh refl)
            (subst (λ (es : List Entry). map (λ (y : Entry). y.line) es ≡ take (length es) s.lines) (sym noted) (lines_so_far x.entries l (command_effect m) s.lines here h.commands))
            (subst (λ (es : List Entry). IsFold es e.memo) (sym noted) (fold_so_far x.entries l (command_effect m) h.start e.memo h.ready.fold so_far))

      module _ (all : slice_get s.lines many ≡ None) where
        noted_none : entries ≡ x.entries
        noted_none = ap (with_effect x.entries line) (none all)

        same : SameMap h.start e.memo
        same = leave_steady (n all) h.start e.memo trail (ap (λ (z : Work). work_control.finished z) (sym (in_leaving all)) ∙ h.going) (subst (λ (z : Work). WorkFits z h.start e.memo trail) (in_leaving all) h.fits)

        ended : (b : Bool) → fresh ≡ b → Left
        ended true new = between new (none all)
        ended false old =
            let t : LoggedLine = record { line = leave_line; trail = e.memo.call; finished = false } in
            record {
              rest = t ∷ [];
              tells = ap (λ (z : List ℕ). told_by z e.memo.call false e.told) (runs_line old ∙ ap (λ (z : Work). work_control.line z) (last_one all));
              was = InLeaving t (begun_more old) all (last_told t) refl noted_none (ap (λ (o : Option Answer). is_some o) (none all));
              only = subst (AreCommandsTold x.me (t ∷ [])) (sym (ap (with_effect [] line) (none all))) (inl (inr (inl refl)), refl);
            }

        pub dies_leaving : IsSettled s (settles line x) e2 told
        dies_leaving =
            settled (ended fresh refl)
            (subst (λ (es : List Entry). map (λ (y : Entry). y.line) es ≡ take (length es) s.lines) (sym noted_none) h.commands)
            (subst (λ (es : List Entry). IsFold es e.memo) (sym noted_none) (λ key. ap (λ f. f key) same.0 ∙ h.ready.fold key))

      pub dies : (o : Option Line) → slice_get s.lines many ≡ o → IsSettled s (settles line x) e2 told
      dies (Some l) here = dies_commanding l here
      dies None all = dies_leaving all

      pub falls_playing : x.life.left ≡ 0 → IsFallen s (follows next (settles line x)) e2
      falls_playing spent =
          fallen_by s (settles line x) e2 h.here (made ∙ sym (lived spent))
          (ap (λ (xs : List Agent). length xs) agents ∙ ap (λ (n : ℕ). n + 1) (sym h.agent))
          (ap (λ (xs : List Agent). fell_by (last_agent xs)) agents)
          (subst (λ (ls : List ℕ). AreAgents s.lines ls e2.memo.agents e2.begun true) (sym (ap (λ (i : ℕ). take (i + 1) (lives_of s.life)) h.agent ∙ take_more (lives_of s.life) 0 _ h.life))
          (subst (λ (xs : List Agent). AreAgents s.lines ((x.life.left + h.steps) ∷ []) xs e2.begun true) (sym agents)
          (subst (λ (bs : List (List (List ℕ))). AreAgents s.lines ((x.life.left + h.steps) ∷ []) (one_agent h.steps fate.Died) bs true) (sym h.is_begun)
          (refl, inl (refl, all_made spent h.steps), h.lines, refl))))
          (let a = ap steps_of agents in
          let b : steps_of (one_agent h.steps fate.Died) ≡ h.steps + 0 = refl in
          let l = sum_more (lives_of s.life) 0 _ h.life in
          let z = spent in
          let k : sum (take (0 + 1) (lives_of s.life)) ≡ sum (take (x.agent + 1) (lives_of s.life)) = ap (λ (i : ℕ). sum (take (i + 1) (lives_of s.life))) (sym h.agent) in
          let none : sum (take 0 (lives_of s.life)) ≡ 0 = refl in
          omega arith)

      pub playing_settled : IsSettled s (follows next (settles line x)) e2 told
      playing_settled = settled_by s (settles line x) e2 told next (dies (slice_get s.lines many) refl)
