-- the headline of a closed run and its logs
use Rattle.std.proofs.Common.{◌≡◌, ℕ, ◌+◌, ◌≤◌, ◌<◌, refl, sym, ap, ◌∙◌, subst, arith, inl, inr, Bool, List, [], ◌∷◌, length, length-append}
use Rattle.std.specs.{Prelude.{Option, Some, None, slice_index}, List.AllByRecursion, Option.is_some}
use Rattle.std.specs.FinMap as finmap
use Rattle.shm_graph.specs.declared.{ask.Me.Me, run.{Account.Account, LoggedLine.LoggedLine, Start.Start}}
use Rattle.shm_graph.specs.{declared.table.Entry.Entry, Clean.IsClean, References.one_if}
use Rattle.shm_graph.specs.{Runs.{EraFits, account_at, first_words, state}, Spots.see, Tables.{IsTable, map_of}}
use Rattle.shm_graph.specs.declared.memo.Fate.TheVariants as fate
use Rattle.shm_plain.specs.{Closings.IsClosedRun, Pools.{IsRun, Pool}}
use Rattle.shm_script.specs.declared.{line.Line.Line, log.{Answer.Answer, Entry.Entry as LogEntry, End.End}}
use Rattle.shm_script.specs.{declared.log.End.TheVariants.{Ended, Died}, Logged.{Logged, fold_in}}
use Rattle.shm_script.specs.{Ranges.{IsTrace, ScriptFits}, Text.text_of, Values.{Scripted, Traced}}
use Rattle.shm_report.specs.Report.{report_of}
use Rattle.shm_agents.specs.Logs.{AreLogs, HasEnd, IsLog, Was, Between, InCommand, InLeaving, effect_along, with_effect}
use Rattle.shm_agents.specs.{Cuts.AreCut, Turns.lives_of}
use Rattle.shm_async.specs.Limited.{AreLimited, IsCutTo, IsLimitedRun}
use Rattle.shm_replay.specs.Replays.{IsReplay, start_of}
use Rattle.shm_team.specs.Rans.{IsTeamRun}
use Rattle.shm_headline.specs.Headline.{AreShorter, AreOf, HasEnded, Headline, IsOf, IsShorter, Reported, ReportedCut, life_of}
use Rattle.shm_headline.specs.{TurnsOf.turns_of, WordRuns.{Goes, nobody}}
use Rattle.shm_headline.proofs.{Deaths.{died_told, ended_told}, Going.run_goes}

first_life : (ns : List ℕ) → slice_index (lives_of ns) 0 ≡ life_of ns
first_life [] = refl
first_life (n ∷ more) = refl

-- ---- how a client ended

effect_length : (es : List LogEntry) (line : Line) (o : Option Answer) → length (with_effect es line o) ≡ length es + one_if (is_some o)
effect_length es line None = omega arith
effect_length es line (Some a) = length-append es (record { line = line; answer = a } ∷ []) ∙ omega arith

was_length : (me : Me) (lines : List Line) (begun : ℕ) (behind : List LoggedLine) (finished entries : List LogEntry) (done : Bool) → Was me lines begun behind finished entries done → length entries ≡ length finished + one_if done
was_length me lines begun behind finished entries done (Between count same undone) = let z : one_if done ≡ 0 = ap one_if undone in let y : length entries ≡ length finished = ap length same in omega arith
was_length me lines begun behind finished entries done (InCommand line x count next at text cut same shown) = ap length same ∙ (effect_length finished line (effect_along me line x.trail) ∙ ap (λ b. length finished + one_if b) (sym shown))
was_length me lines begun behind finished entries done (InLeaving x count all at cut same undone) = let z : one_if done ≡ 0 = ap one_if undone in let y : length entries ≡ length finished = ap length same in omega arith

-- the client is one of so many
abbrev IsIn : ℕ → Scripted → Type 0
IsIn clients s = s.client < clients

are_in : (clients : ℕ) (ss : List Scripted) → AllByRecursion (ScriptFits clients) ss → AllByRecursion (IsIn clients) ss
are_in clients [] f = f
are_in clients (s ∷ ss) f = (f.0.client, are_in clients ss f.1)

module _ (p : Pool) (run : IsRun p) (era : EraFits p.start.first_era) where
  ended : (me : Me) (s : Scripted) (begun : List (List (List ℕ))) (behind : List LoggedLine) (finished entries : List LogEntry) (e : End) → s.client < p.start.geometry.clients → HasEnd me s (slice_index (lives_of s.life) 0) (account_at p.accounts s.client).memo.agents begun behind finished entries e → HasEnded (turns_of p.turns) s entries e
  ended me s begun behind finished entries Ended l h =
      let first = h.2.1 in
      (ended_told p.start p.turns (state p.words p.accounts) run.held.at.fits era run.leads s.client (record { kind = _; steps = h.2.0; fate = fate.Ended }) first.0 l first.1 refl, ap length h.0 ∙ h.1)
  ended me s begun behind finished entries (Died n done) l h =
      let w = was_length me s.lines _ behind finished entries done h.2 in (
        died_told p.start p.turns (state p.words p.accounts) run.held.at.fits era run.leads s.client (record { kind = _; steps = slice_index (lives_of s.life) 0; fate = fate.Died }) h.1.0 l h.1.1 refl ∙ ap Some (first_life s.life),
        w ∙ ap (λ k. k + one_if done) (sym h.0),
      )

  log_of : (s : Scripted) (l : Logged) → s.client < p.start.geometry.clients → IsLog p s l → IsOf (turns_of p.turns) s l
  log_of s l k h = record { client = h.client; lines = h.lines; ended = ended _ s _ h.behind h.finished l.entries l.end k h.end }

  logs_of : (clients : ℕ) → p.start.geometry.clients ≡ clients → (ss : List Scripted) (ls : List Logged) → AllByRecursion (IsIn clients) ss → AreLogs p ss ls → AreOf (turns_of p.turns) ss ls
  logs_of clients e [] ls f h = h
  logs_of clients e (s ∷ ss) [] f h = h
  logs_of clients e (s ∷ ss) (l ∷ ls) f h = (log_of s l (subst (λ (n : ℕ). s.client < n) (sym e) f.0) h.0, logs_of clients e ss ls f.1 h.1)

-- ---- the headline

first_era_fits : EraFits 1
first_era_fits = (omega arith, omega arith)

pub headed : (t : Traced) (p : Pool) (ls : List Logged) → AllByRecursion (IsIn t.clients) t.scripts → p.start ≡ start_of t → IsClosedRun p → AreLogs p t.scripts ls
    → (table : ℕ → ℕ → List Entry) → IsTable p.start.geometry (see p.start.geometry p.words) table → ((c key : ℕ) → c < t.clients → map_of (table c) key ≡ finmap.get (fold_in ls c) key) → Headline t ls p.words
headed t p ls f e closed logs table is fold =
    let era : EraFits p.start.first_era = subst (λ (s : Start). EraFits s.first_era) (sym e) first_era_fits in
    record {
      turns = turns_of p.turns;
      run = subst (λ (s : Start). Goes s.geometry nobody (first_words s) (turns_of p.turns) p.words) e (run_goes p.start p.turns (state p.words p.accounts) closed.run.held.at.fits era closed.run.leads);
      clean = subst (λ (s : Start). IsClean s.geometry (see s.geometry p.words)) e closed.clean;
      logs = logs_of p closed.run era t.clients (ap (λ (s : Start). s.geometry.clients) e) t.scripts ls f logs;
      table = table;
      is = subst (λ (s : Start). IsTable s.geometry (see s.geometry p.words) table) e is;
      fold = fold;
    }

pub told : (t : Traced) (p : Pool) (ls : List Logged) (bytes : List ℕ) → IsTrace t → length bytes ≤ 1048576 → bytes ≡ text_of t → p.start ≡ start_of t → IsClosedRun p → AreLogs p t.scripts ls
    → (table : ℕ → ℕ → List Entry) → IsTable p.start.geometry (see p.start.geometry p.words) table → ((c key : ℕ) → c < t.clients → map_of (table c) key ≡ finmap.get (fold_in ls c) key) → Reported bytes (report_of p.start.geometry (see p.start.geometry p.words) table ls)
unfolding headed
told t p ls bytes f few spelled e closed logs table is fold =
    record {
      trace = t;
      lawful = f;
      few = few;
      spelled = spelled;
      logs = ls;
      words = p.words;
      headline = headed t p ls (are_in t.clients t.scripts f.scripts) e closed logs table is fold;
      told = ap (λ (s : Start). report_of s.geometry (see s.geometry p.words) table ls) e;
    }

pub replay_headed : (t : Traced) (p : Pool) (ls : List Logged) → IsTrace t → IsReplay t p ls → Headline t ls p.words
replay_headed t p ls f r = headed t p ls (are_in t.clients t.scripts f.scripts) r.start r.closed r.logs r.table r.is r.fold

pub team_headed : (t : Traced) (p : Pool) (ls : List Logged) → IsTrace t → IsTeamRun t p ls → Headline t ls p.words
team_headed t p ls f r = headed t p ls (are_in t.clients t.scripts f.scripts) r.start r.closed r.logs r.table r.is r.fold

pub replay_reported : (t : Traced) (p : Pool) (ls : List Logged) (bytes : List ℕ) → IsTrace t → length bytes ≤ 1048576 → bytes ≡ text_of t → (r : IsReplay t p ls) → Reported bytes (report_of p.start.geometry (see p.start.geometry p.words) r.table ls)
replay_reported t p ls bytes f few spelled r = told t p ls bytes f few spelled r.start r.closed r.logs r.table r.is r.fold

pub team_reported : (t : Traced) (p : Pool) (ls : List Logged) (bytes : List ℕ) → IsTrace t → length bytes ≤ 1048576 → bytes ≡ text_of t → (r : IsTeamRun t p ls) → Reported bytes (report_of p.start.geometry (see p.start.geometry p.words) r.table ls)
team_reported t p ls bytes f few spelled r = told t p ls bytes f few spelled r.start r.closed r.logs r.table r.is r.fold

-- ---- clients that were given up

shorter : (all lives : List ℕ) → AreCut (lives_of all) lives → life_of lives ≤ life_of all
shorter [] [] c = absurd c
shorter [] (k ∷ []) c = c
shorter [] (k ∷ j ∷ more) c = let e = c.0 in omega arith
shorter (n ∷ all) [] c = absurd c
shorter (n ∷ all) (k ∷ []) c = c
shorter (n ∷ all) (k ∷ j ∷ more) c = let e = c.0 in omega arith

whole_is_cut : (s r : Scripted) → r ≡ s → IsShorter s r
whole_is_cut s r e = record { client = ap (λ (x : Scripted). x.client) e; lines = ap (λ (x : Scripted). x.lines) e; life = let z = ap (λ (x : Scripted). life_of x.life) e in omega arith }

given_up : (turns : ℕ) (s r : Scripted) → IsCutTo turns s r → IsShorter s r
given_up turns s r c = record { client = ap (λ (x : Scripted). x.client) c.script; lines = ap (λ (x : Scripted). x.lines) c.script; life = shorter s.life r.life c.cut }

limited_cut : (turns : ℕ) (es : List Account) (ss rs : List Scripted) → AreLimited turns es ss rs → AreShorter ss rs
limited_cut turns es [] rs h = h
limited_cut turns es (s ∷ ss) [] h = h
limited_cut turns es (s ∷ ss) (r ∷ rs) h = (elim h.0 [ inl whole ↦ whole_is_cut s r whole.0 | inr cut ↦ given_up turns s r cut ], limited_cut turns es ss rs h.1)

cut_in : (clients : ℕ) (ss rs : List Scripted) → AreShorter ss rs → AllByRecursion (ScriptFits clients) ss → AllByRecursion (IsIn clients) rs
cut_in clients [] rs h f = subst (AllByRecursion (IsIn clients)) (sym h) tt
cut_in clients (s ∷ ss) [] h f = absurd h
cut_in clients (s ∷ ss) (r ∷ rs) h f = (let z = h.0.client in let l = f.0.client in omega arith, cut_in clients ss rs h.1 f.1)

pub limited_headed : (t : Traced) (turns : ℕ) (p : Pool) (ls : List Logged) → IsTrace t → (r : IsLimitedRun t turns p ls) → AreShorter t.scripts r.scripts × Headline (record t { scripts = r.scripts }) ls p.words
limited_headed t turns p ls f r =
    let cut : AreShorter t.scripts r.scripts = limited_cut turns p.accounts t.scripts r.scripts r.limited in
    (cut, headed (record t { scripts = r.scripts }) p ls (cut_in t.clients t.scripts r.scripts cut f.scripts) r.run.start r.run.closed r.run.logs r.run.table r.run.is r.run.fold)

pub limited_reported : (t : Traced) (turns : ℕ) (p : Pool) (ls : List Logged) (bytes : List ℕ) → IsTrace t → length bytes ≤ 1048576 → bytes ≡ text_of t → (r : IsLimitedRun t turns p ls) → ReportedCut bytes (report_of p.start.geometry (see p.start.geometry p.words) r.run.table ls)
unfolding limited_headed headed
limited_reported t turns p ls bytes f few spelled r =
    record {
      trace = t;
      lawful = f;
      few = few;
      spelled = spelled;
      scripts = r.scripts;
      cut = limited_cut turns p.accounts t.scripts r.scripts r.limited;
      logs = ls;
      words = p.words;
      headline = (limited_headed t turns p ls f r).1;
      told = ap (λ (s : Start). report_of s.geometry (see s.geometry p.words) r.run.table ls) r.run.start;
    }
