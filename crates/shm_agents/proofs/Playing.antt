-- a word step of a client that has joined: it goes on, a command answers, or it leaves
use Rattle.std.proofs.Common.{◌≡◌, ℕ, zero, suc, ◌+◌, ◌^◌, ◌<◌, ◌≤◌, ◌&&◌, Bool, true, false, cond, List, [], ◌∷◌, ◌++◌, map, take, length, get_or, refl, sym, ap, ◌∙◌, subst, arith, inl, inr, Result}
use Rattle.std.proofs.{Math.Seq.take-length, lemmas.{Bool.cases_lt, List.{length-append, map-append, take_all}}}
use Rattle.std.proofs.lemmas.Option.{slice_get-get_or, slice_get_within}
use Rattle.std.specs.{Prelude.{Some, None, Ok, Err, slice_get}, List.AllByRecursion}
use Rattle.shm_words.specs.Layout.{GeometryFits}
use Rattle.shm_graph.specs.declared.{ask.{Life.Life, Me.Me}, memo.{Agent.Agent, Fate.TheVariants.Acts, Memo.Memo}}
use Rattle.shm_graph.specs.declared.{memo.{Seen.Seen, Status.Status as AStatus, Step.Step}, run.Account.Account}
use Rattle.shm_graph.specs.declared.{run.LoggedLine.LoggedLine, spot.Spot.TheVariants.Era}
use Rattle.shm_graph.specs.Agents.{is_gone, last_agent, recovers, recovers_by, steps_made, steps_of}
use Rattle.shm_graph.specs.{Asks.{Trail, call_before, pair}, Changes.asked_spot, Held.is_loose}
use Rattle.shm_graph.specs.{Laws.{Stays, is_some, step_of}, Runs.{account_after, told_by, told_left}, Tells.after_all}
use Rattle.shm_graph.specs.{Views.own_word, Whole.{fits_now, gives_now}}
use Rattle.shm_graph.proofs.{Machines.TellsAlong.after_all-append, Memos.MemoSteps.{agents_after, recovers_on}}
use Rattle.plans.specs.{CallsControl.calls_control, Deciding.StillRuns, Either.or_control, declared.or.Or.Or}
use Rattle.plans.specs.declared.or.Or.TheVariants.{First, Second}
use Rattle.shm_count.specs.declared.answer.EraSpent.{EraSpent}
use Rattle.shm_recover.specs.{Join.join_control, Leave.Control.{leave_line, leave_parts, leave_steered}}
use Rattle.shm_recover.specs.{Machines.LeaveGives, Recover.Control.{recover_parts, recover_steered}}
use Rattle.shm_script.specs.{declared.{line.Line.Line, log.{Answer.Answer, Entry.Entry}}, Ranges.{IsLife, LineFits}}
use Rattle.shm_script.specs.{Text.line_spelled, Values.Scripted}
use Rattle.shm_script.specs.declared.line.Line.TheVariants as line
use Rattle.shm_script.specs.declared.log.End.TheVariants as end
use Rattle.kind_parts.specs.Reparting.{map_in}
use Rattle.shm_table.specs.Command.{CommandCall, CommandGives, command_control, command_of}
use Rattle.shm_agents.specs.declared.agents.Standing.TheVariants.{Gone}
use Rattle.shm_agents.specs.Agents.{AreTold, HasParted, IsPlaying, IsReady, Playing, behind, one_agent}
use Rattle.shm_agents.specs.{Courses.{AreCommandsTold, client_lines}, Logs.{IsEntry, answer_along}, Turns.lives_of}
use Rattle.shm_agents.specs.Work.{Work, WorkFits, WorkGives, commanding, work_control}
use Rattle.shm_agents.proofs.Courses.{client_long, front_more, line_behind, take_more, told_aside, told_on}
use Rattle.shm_agents.proofs.{Effects.behind_none, Folding.{HasRoom, command_leaves}}
use Rattle.shm_agents.proofs.{Unspent.{command_unspent, unspent_more}, Lines.command_line}
use Rattle.shm_agents.proofs.Trails.{after_first, after_second, answer_inside, answer_last, begun_more, begun_on, entries_more, entries_rest, left_same, many_more, runs_more, told_spelled}
use Rattle.shm_agents.proofs.WorkLaws.{behind_fits, behind_fresh, behind_going, behind_me, work_laws}

-- ---- what comes behind the commands that have answered, by what was answered

pub command_is : (me : Me) (ls : List Line) (k : ℕ) (r0 r : Memo) (tr : Trail) (a : Answer) → WorkGives (behind me ls k) r0 r tr (Second (First a)) → (l : Line) × (slice_get ls k ≡ Some l) × (behind me ls k ≡ commanding me l) × CommandGives (command_of me l) r0 r tr a
command_is me [] k r0 r tr a g = absurd g
command_is me (l ∷ ls) zero r0 r tr a g = (l, refl, refl, g)
command_is me (l ∷ ls) (suc k) r0 r tr a g = command_is me ls k r0 r tr a g

pub leave_is : (me : Me) (ls : List Line) (k : ℕ) (r0 r : Memo) (tr : Trail) (a : Result (Unit {0}) EraSpent) → WorkGives (behind me ls k) r0 r tr (Second (Second a)) → (slice_get ls k ≡ None) × LeaveGives me r0 r tr a
leave_is me [] k r0 r tr a g = (refl, g)
leave_is me (l ∷ ls) zero r0 r tr a g = absurd g
leave_is me (l ∷ ls) (suc k) r0 r tr a g = leave_is me ls k r0 r tr a g

pub not_join : (me : Me) (ls : List Line) (k : ℕ) (r0 r : Memo) (tr : Trail) (a : Or (Unit {0}) (Result (Unit {0}) EraSpent)) → WorkGives (behind me ls k) r0 r tr (First a) → ⊥
not_join me [] k r0 r tr a g = g
not_join me (l ∷ ls) zero r0 r tr a g = g
not_join me (l ∷ ls) (suc k) r0 r tr a g = not_join me ls k r0 r tr a g

-- ---- lives

-- the first agent has at most 2^40 word steps
pub life_most : (life : List ℕ) (n : ℕ) → AllByRecursion IsLife life → slice_get (lives_of life) 0 ≡ Some n → n ≤ 2 ^ 40
life_most [] n all at = let e : 2 ^ 40 ≡ n = cc in omega arith
life_most (m ∷ life) n all at = let e : m ≡ n = cc in let most = all.0.1 in omega arith

-- ---- the step

module _ (s : Scripted) (x : Playing) (e : Account) (h : IsPlaying s x e) (n : ℕ) (life : Life) (spent : life.left + 1 ≡ x.life.left) where
  abbrev c : ℕ
  c = x.me.who

  abbrev lines : List Line
  lines = s.lines

  abbrev many : ℕ
  many = length x.entries

  abbrev now : Work
  now = behind x.me lines many

  abbrev fresh : Bool
  fresh = work_control.fresh x.work

  abbrev t : Step
  t = step_of work_control x.work n

  -- the account after it
  abbrev e2 : Account
  e2 = account_after e t

  abbrev x1 : Seen
  x1 = pair (work_control.asks x.work) n

  -- what was asked before
  abbrev before : Trail
  before = call_before fresh e.memo.call

  abbrev next : Work
  next = work_control.after x.work n

  stays : Stays work_control x.work n
  stays = work_laws.steady x.work n h.going

  ends : (b : Bool) → is_some (work_control.turns x.work n) ≡ b → t.ends ≡ b
  ends b some = stays.ends ∙ some

  course : after_all work_control now (before ++ x1 ∷ []) ≡ next
  course = after_all-append work_control now before x1 ∙ ap (λ (z : Work). work_control.after z n) h.course

  abbrev begun : List (List ℕ)
  begun = begun_on fresh h.begun t.line

  is_begun : e2.begun ≡ begun ∷ []
  is_begun = begun_more fresh e.begun h.begun t.line h.is_begun

  long : length begun ≡ many + 2
  long = many_more fresh h.begun t.line many h.many

  -- and these are its first lines
  begun_lines : begun ≡ take (length begun) (client_lines lines)
  begun_lines = go fresh refl
    where
      go : (b : Bool) → fresh ≡ b → begun_on b h.begun t.line ≡ take (length (begun_on b h.begun t.line)) (client_lines lines)
      go false old = h.lines
      go true new =
          front_more (client_lines lines) h.begun t.line h.lines
          (ap (slice_get (client_lines lines)) (h.many ∙ ap (λ (z : Bool). cond z (many + 1) (many + 2)) new) ∙ (line_behind x.me lines many h.few ∙ ap Some (sym h.line)))

  told_before : told_left t.fresh e ≡ e.told
  told_before = left_same e fresh (work_control.line x.work) h.running

  -- the agents: the one has made one more step, and ends where this one ends it
  agents : (b : Bool) → (is_gone e2.memo.status && t.ends) ≡ b → e2.memo.agents ≡ agents_after b (one_agent h.steps Acts)
  agents b same = ap (λ (z : Bool). agents_after z e.memo.agents) same ∙ ap (agents_after b) h.agents

  lived : slice_get (lives_of s.life) 0 ≡ Some (life.left + (h.steps + 1))
  lived = h.life ∙ ap Some (omega arith)

  made : steps_made e2.memo ≡ h.steps + 1
  made = ap steps_of (agents (is_gone e2.memo.status && t.ends) refl) ∙ go (is_gone e2.memo.status && t.ends)
    where
      go : (b : Bool) → steps_of (agents_after b (one_agent h.steps Acts)) ≡ h.steps + 1
      go true = omega arith
      go false = omega arith

  -- it is a client's still
  client : recovers e2.memo ≡ false
  client = recovers_on e.memo t (asked_spot e.memo t) ∙ ap (λ (xs : List Agent). recovers_by (last_agent xs)) h.agents

  -- ---- the work goes on

  pub goes_on : work_control.turns x.work n ≡ None → fits_now work_control WorkFits next h.start e2.memo → IsPlaying s (record x { work = next; life = life }) e2
  goes_on none fit =
      let going : t.ends ≡ false = ends false (ap is_some none) in
      let told : e2.told ≡ e.told = ap (λ (b : Bool). cond b (told_by t.line e2.memo.call true (told_left t.fresh e)) (told_left t.fresh e)) going ∙ told_before in
      record {
        agent = h.agent;
        end = h.end;
        here = h.here;
        steps = h.steps + 1;
        stepped = omega arith;
        agents = agents false (ap (λ (b : Bool). is_gone e2.memo.status && b) going ∙ never (is_gone e2.memo.status));
        life = lived;
        few = h.few;
        commands = h.commands;
        unspent = h.unspent;
        start = h.start;
        ready = h.ready;
        me = stays.same_me ∙ h.me;
        going = going;
        fits = fit;
        gave = λ r tr a g. h.gave r tr a (work_laws.back x.work n h.going none h.start r tr a g);
        line = stays.same_line ∙ h.line;
        course = ap (λ (b : Bool). after_all work_control now (call_before b e2.memo.call)) stays.started ∙ course;
        runs = subst (λ (b : Bool). StillRuns work_control now (call_before b e2.memo.call)) (sym stays.started) (runs_more work_control now before x1 h.runs (ap (λ (z : Work). work_control.turns z n) h.course ∙ none));
        over = going ∙ sym stays.started;
        begun = begun;
        is_begun = is_begun;
        many = long ∙ sym (ap (λ (b : Bool). cond b (many + 1) (many + 2)) stays.started);
        lines = begun_lines;
        told = subst (λ (ts : List LoggedLine). AreTold x.me ts x.entries) (sym told) h.told;
        all_told = ap (λ (ts : List LoggedLine). length ts) told ∙ h.all_told;
        running = ap (λ (b : Bool). cond b [] t.line) going ∙ (sym stays.same_line ∙ sym (ap (λ (b : Bool). cond b [] (work_control.line next)) stays.started));
      }
    where
      never : (b : Bool) → (b && false) ≡ false
      never true = refl
      never false = refl

  -- ---- the work is over

  module _ (geometry : GeometryFits x.me.geometry) (who : c < x.me.geometry.clients) (all : AllByRecursion (LineFits x.me.geometry.clients c) lines) (lives : AllByRecursion IsLife s.life) (era : own_word e2.memo.own (Era c c) ≤ 2 ^ 46 + steps_made e2.memo) where
    most : life.left + (h.steps + 1) ≤ 2 ^ 40
    most = life_most s.life (life.left + (h.steps + 1)) lives lived

    -- the own era is far from spent
    room : HasRoom c e2.memo
    room s (high, low) = let a = made in let b = most in omega arith

    -- ---- a command has answered

    module _ (a : Answer) (some : work_control.turns x.work n ≡ Some (Second (First a))) (gives : gives_now WorkGives x.work h.start e2.memo (Second (First a))) where
      pub command_at : (l : Line) × (slice_get lines many ≡ Some l) × (now ≡ commanding x.me l) × CommandGives (command_of x.me l) h.start e2.memo e2.memo.call a
      command_at = command_is x.me lines many h.start e2.memo e2.memo.call a (h.gave e2.memo e2.memo.call (Second (First a)) gives)

      abbrev pub entry : Entry
      entry = record { line = command_at.0; answer = a }

      -- the client with it, at what comes behind it
      abbrev pub follow : Playing
      follow = record x { entries = x.entries ++ entry ∷ []; work = behind x.me lines (length (x.entries ++ entry ∷ [])); life = life }

      ready : IsReady c follow.entries e2.memo
      ready = command_leaves x.me x.entries h.start e2.memo h.ready client room command_at.0 e2.memo.call a command_at.3

      over : t.ends ≡ true
      over = ends true (ap is_some some)

      more : length follow.entries ≡ many + 1
      more = length-append x.entries (entry ∷ [])

      below : many < length lines
      below = slice_get_within lines many command_at.0 command_at.1

      first : work_control.fresh follow.work ≡ true
      first = behind_fresh x.me lines (length follow.entries)

      lines_more : map (λ (y : Entry). y.line) follow.entries ≡ take (length follow.entries) lines
      lines_more =
          map-append (λ (y : Entry). y.line) x.entries (entry ∷ [])
          ∙ (ap (λ (ls : List Line). ls ++ command_at.0 ∷ []) h.commands ∙ (sym (take_more lines many command_at.0 command_at.1) ∙ ap (λ (k : ℕ). take k lines) (sym more)))

      -- what is told of it
      abbrev tells : LoggedLine
      tells = record { line = line_spelled command_at.0; trail = e2.memo.call; finished = true }

      spelled : t.line ≡ line_spelled command_at.0
      spelled = h.line ∙ (ap (λ (z : Work). work_control.line z) command_at.2 ∙ command_line x.me command_at.0)

      told : e2.told ≡ e.told ++ tells ∷ []
      told =
          ap (λ (b : Bool). cond b (told_by t.line e2.memo.call true (told_left t.fresh e)) (told_left t.fresh e)) over
          ∙ (ap (λ (l : List ℕ). told_by l e2.memo.call true (told_left t.fresh e)) spelled
          ∙ (ap (λ (ts : List LoggedLine). told_by (line_spelled command_at.0) e2.memo.call true ts) told_before
          ∙ told_spelled command_at.0 e2.memo.call e.told))

      -- where the command was
      abbrev was : CommandCall
      was = after_all command_control (command_of x.me command_at.0) before

      work_was : x.work ≡ Second (First was)
      work_was =
          sym h.course
          ∙ (ap (λ (z : Work). after_all work_control z before) command_at.2
          ∙ (after_second (or_control join_control (calls_control recover_parts recover_steered)) (or_control command_control (calls_control leave_parts leave_steered)) (First (command_of x.me command_at.0)) before
          ∙ ap Second (after_first command_control (calls_control leave_parts leave_steered) (command_of x.me command_at.0) before)))

      answer : answer_along command_control (command_of x.me command_at.0) e2.memo.call ≡ Some a
      answer =
          answer_last command_control (command_of x.me command_at.0) before x1
          ∙ answer_inside (command_control.turns was n) a (ap (λ (z : Work). work_control.turns z n) (sym work_was) ∙ some)

      is_entry : IsEntry x.me tells entry
      is_entry = record { line = refl; whole = refl; answer = answer }

      told_entries : AreTold x.me e2.told follow.entries
      told_entries =
          record {
            join = h.told.join;
            behind = h.told.behind ++ tells ∷ [];
            is = told ∙ ap (λ (ts : List LoggedLine). ts ++ tells ∷ []) h.told.is;
            entries = entries_more x.me h.told.behind x.entries tells entry h.told.entries
                (let m = h.all_told in let i = ap (λ (ts : List LoggedLine). length ts) h.told.is in let s : length h.told.behind ≡ length x.entries = omega arith in s) is_entry;
            only = subst (λ (ts : List LoggedLine). AreCommandsTold x.me ts follow.entries) (sym told) (told_on x.me e.told (tells ∷ []) x.entries (entry ∷ []) h.told.only (inr (inl is_entry, refl)));
          }

      pub answers : IsPlaying s follow e2
      answers =
          record {
            agent = h.agent;
            end = h.end;
            here = h.here;
            steps = h.steps + 1;
            stepped = omega arith;
            agents = agents false (ap (λ (s : AStatus). is_gone s && t.ends) ready.idle.live);
            life = lived;
            few = let m = more in let b = below in omega arith;
            commands = lines_more;
            unspent = unspent_more x.entries entry h.unspent (command_unspent x.me h.start e2.memo room command_at.0 e2.memo.call a command_at.3);
            start = e2.memo;
            ready = ready;
            me = behind_me x.me lines (length follow.entries);
            going = behind_going x.me lines (length follow.entries);
            fits = subst (λ (b : Bool). WorkFits follow.work e2.memo e2.memo (call_before b e2.memo.call)) (sym first) (behind_fits x.me geometry who follow.entries e2.memo ready lines (length follow.entries) all);
            gave = λ r tr b g. g;
            line = refl;
            course = ap (λ (b : Bool). after_all work_control follow.work (call_before b e2.memo.call)) first;
            runs = subst (λ (b : Bool). StillRuns work_control follow.work (call_before b e2.memo.call)) (sym first) tt;
            over = over ∙ sym first;
            begun = begun;
            is_begun = is_begun;
            many = long ∙ (let m = more in let s : many + 2 ≡ length follow.entries + 1 = omega arith in s) ∙ sym (ap (λ (b : Bool). cond b (length follow.entries + 1) (length follow.entries + 2)) first);
            lines = begun_lines;
            told = told_entries;
            all_told = ap (λ (ts : List LoggedLine). length ts) told ∙ length-append e.told (tells ∷ []) ∙ (let m = more in let a = h.all_told in let s : length e.told + 1 ≡ length follow.entries + 1 = omega arith in s);
            running = ap (λ (b : Bool). cond b [] t.line) over ∙ sym (ap (λ (b : Bool). cond b [] (work_control.line follow.work)) first);
          }

    -- ---- it has left

    module _ (a : Result (Unit {0}) EraSpent) (some : work_control.turns x.work n ≡ Some (Second (Second a))) (gives : gives_now WorkGives x.work h.start e2.memo (Second (Second a))) where
      leave_at : (slice_get lines many ≡ None) × LeaveGives x.me h.start e2.memo e2.memo.call a
      leave_at = leave_is x.me lines many h.start e2.memo e2.memo.call a (h.gave e2.memo e2.memo.call (Second (Second a)) gives)

      -- it wasn't refused
      pub left_ok : a ≡ Ok tt
      left_ok = go a leave_at.1
        where
          go : (b : Result (Unit {0}) EraSpent) → LeaveGives x.me h.start e2.memo e2.memo.call b → b ≡ Ok tt
          go (Ok u) g = refl
          go (Err s) g = let high = g.leaves.1.stopped.spent in let low = g.leaves.1.most in let m = made in let b = most in absurd (omega arith)

      ended : many ≡ length lines
      ended =
          elim (cases_lt many (length lines)) [
            | inl l ↦ absurd (let e : Some (get_or lines many (line.Del 0)) ≡ None = sym (slice_get-get_or lines many (line.Del 0) l) ∙ leave_at.0 in cc)
            | inr o ↦ (let f = h.few in omega arith)
          ]

      leave_over : t.ends ≡ true
      leave_over = ends true (ap is_some some)

      -- what is told of it
      abbrev tells_leaving : LoggedLine
      tells_leaving = record { line = leave_line; trail = e2.memo.call; finished = true }

      leave_told : e2.told ≡ e.told ++ tells_leaving ∷ []
      leave_told =
          ap (λ (b : Bool). cond b (told_by t.line e2.memo.call true (told_left t.fresh e)) (told_left t.fresh e)) leave_over
          ∙ (ap (λ (l : List ℕ). told_by l e2.memo.call true (told_left t.fresh e)) (h.line ∙ ap (λ (z : Work). work_control.line z) (behind_none x.me lines many leave_at.0))
          ∙ ap (λ (ts : List LoggedLine). told_by leave_line e2.memo.call true ts) told_before)

      gone : LeaveGives x.me h.start e2.memo e2.memo.call (Ok tt)
      gone = subst (λ (b : Result (Unit {0}) EraSpent). LeaveGives x.me h.start e2.memo e2.memo.call b) left_ok leave_at.1

      pub leaves : (w : Work) → HasParted s (record x { work = w; life = life; end = Some end.Ended; standing = Gone }) e2
      leaves w =
          record {
            end = refl;
            left = refl;
            steps = h.steps + 1;
            agents = agents true (ap (λ (s : AStatus). is_gone s && t.ends) gone.leaves.status ∙ leave_over);
            life = lived;
            commands = h.commands ∙ (ap (λ (k : ℕ). take k lines) ended ∙ take-length lines);
            unspent = h.unspent;
            status = gone.leaves.status;
            gone = gone.leaves.left;
            fold = λ key. ap (λ p. map_in p key) gone.leaves.part ∙ h.ready.fold key;
            table = ap is_loose gone.leaves.part ∙ h.ready.table;
            done = leave_over;
            begun = is_begun ∙ ap (λ (b : List (List ℕ)). b ∷ []) (begun_lines ∙ take_all (length begun) (client_lines lines) (let k = long in let c = client_long lines in let m = ended in omega arith));
            told = record {
              join = h.told.join;
              behind = h.told.behind ++ tells_leaving ∷ [];
              is = leave_told ∙ ap (λ (ts : List LoggedLine). ts ++ tells_leaving ∷ []) h.told.is;
              entries = entries_rest x.me h.told.behind (tells_leaving ∷ []) x.entries h.told.entries;
              only = subst (λ (ts : List LoggedLine). AreCommandsTold x.me ts x.entries) (sym leave_told) (told_aside x.me e.told (tells_leaving ∷ []) x.entries h.told.only (inl (inr (inl refl)), refl));
            };
            running = ap (λ (b : Bool). cond b [] t.line) leave_over;
          }
