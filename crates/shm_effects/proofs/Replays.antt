-- a replay is a run in which each identity takes the turns that its script gives
use Rattle.std.proofs.Common.{◌≡◌, ℕ, suc, ◌<◌, Bool, true, false, cond, eqb, List, [], ◌∷◌, ◌++◌, length, refl, sym, ap, ◌∙◌, subst, arith}
use Rattle.std.proofs.lemmas.Bool.{cond-false, cond-true}
use Rattle.std.specs.{Prelude.{◌==◌, Option, Some, None, if◌then◌else◌, slice_get, slice_index}, List.AllByRecursion}
use Rattle.shm_words.specs.{declared.geometry.Geometry.Geometry, Layout.GeometryFits}
use Rattle.shm_graph.specs.{declared.{ask.Me.Me, run.{Account.Account, Start.Start}}, Agents.acts}
use Rattle.shm_graph.specs.Runs.{account_at, first_account}
use Rattle.plans.specs.Deciding.{Foretells}
use Rattle.shm_count.specs.Roots.{member}
use Rattle.shm_plain.specs.Pools.{Pool, first_pool, memo_of}
use Rattle.shm_plain.proofs.Turning.{first_run}
use Rattle.shm_script.specs.{Logged.Logged, Ranges.{IsTrace, ScriptFits}, Values.{Scripted, Traced}}
use Rattle.shm_table.specs.Command.{command_by, command_control, command_effect}
use Rattle.shm_agents.specs.{declared.agents.Standing.TheVariants.AtWork, Agents.{Playing, Stage.Fresh}}
use Rattle.shm_agents.specs.{Courses.AreScriptAgents, Logs.IsLog, Taken.HasTaken, Turns.{lives_of, script_in}}
use Rattle.shm_agents.specs.Work.{join_work}
use Rattle.shm_agents.proofs.{Dying.CommandMaps, Over.{IsOver, is_over, over_idle}, Rested.stands_agents}
use Rattle.shm_replay.specs.{Orders.rounds_of, Replays.{IsReplay, start_of}, Seats.{IsSeat, Seat}}
use Rattle.shm_replay.proofs.{Ending.seat_rest, Starting.{NewStands, new_seat, none_seat, script_client}}
use Rattle.shm_replay.proofs.{WholeRun.script_at, Gathering.same_some}
use Rattle.shm_headline.specs.{Headline.{geometry_of, words_first}, TurnsOf.turns_of}
use Rattle.shm_effects.specs.{Effects.TakesEffect, Lived.HasLived, Taken.IsInterleaved}
use Rattle.shm_effects.proofs.{Along.first_life, Ended.replay_lived}
use Rattle.shm_effects.proofs.{Interleaved.{all_logs, interleaved_takes, script_of}, Logs.log_noted}
use Rattle.shm_effects.proofs.Played.{IsPlayed, all_played}

-- ---- scripts

-- where the script of an identity stands
abbrev index_of : List Scripted → ℕ → ℕ
index_of [] d = 0
index_of (s ∷ ss) d = if s.client == d then 0 else suc (index_of ss d)

index_is : (ss : List Scripted) (d : ℕ) (s : Scripted) → script_in ss d ≡ Some s → slice_get ss (index_of ss d) ≡ Some s
index_is [] d s e = absurd (cc)
index_is (r ∷ ss) d s e = go (eqb r.client d) refl (index_is ss d s)
  where
    go : (b : Bool) → eqb r.client d ≡ b → (script_in ss d ≡ Some s → slice_get ss (index_of ss d) ≡ Some s) → slice_get (r ∷ ss) (cond (eqb r.client d) 0 (suc (index_of ss d))) ≡ Some s
    go true f later = ap (slice_get (r ∷ ss)) (cond-true (eqb r.client d) 0 (suc (index_of ss d)) f) ∙ (sym (cond-true (eqb r.client d) (Some r) (script_in ss d) f) ∙ e)
    go false f later = ap (slice_get (r ∷ ss)) (cond-false (eqb r.client d) 0 (suc (index_of ss d)) f) ∙ later (sym (cond-false (eqb r.client d) (Some r) (script_in ss d) f) ∙ e)

module _ (maps : CommandMaps) (tells : Foretells command_control (λ a. a) command_effect command_by) (t : Traced) (trace : IsTrace t) (p : Pool) (ls : List Logged) (r : IsReplay t p ls) where
  abbrev g : Geometry
  g = (start_of t).geometry

  low : (d : ℕ) (s : Scripted) → script_in t.scripts d ≡ Some s → d < t.clients
  low d s e = subst (λ (k : ℕ). k < t.clients) (script_client t.scripts d s e) (script_of (ScriptFits t.clients) t.scripts d s trace.scripts e).client

  fits : GeometryFits g
  fits = subst (λ (z : Start). GeometryFits z.geometry) r.start r.closed.run.held.at.fits

  -- ---- before the first turn

  abbrev first : Pool
  first = first_pool (start_of t)

  abbrev fresh : ℕ → Scripted → Playing
  fresh d s =
      record {
        me = member g d;
        script = index_of t.scripts d;
        agent = 0;
        work = join_work (member g d);
        life = record { left = slice_index (lives_of s.life) 0 };
        entries = [];
        room = length s.lines;
        end = None;
        standing = AtWork;
      }

  abbrev fresh_by : ℕ → Option Scripted → Option Playing
  fresh_by d None = None
  fresh_by d (Some s) = Some (fresh d s)

  abbrev all_fresh : ℕ → Option Playing
  all_fresh d = fresh_by d (script_in t.scripts d)

  new : (d : ℕ) → d < t.clients → (s : Scripted) → NewStands (member g d) s (fresh d s)
  new d l s start geometry era tables client script =
      record {
        may = record {
          geometry = subst GeometryFits (sym geometry) fits;
          era = era;
          tables = tables;
          me = sym geometry;
          who = subst (λ (z : Geometry). d < z.clients) (sym geometry) l;
          client = client;
          script = subst (λ (z : Geometry). ScriptFits z.clients s) (sym geometry) script;
          room = omega arith;
        };
        stage = Fresh (record { account = refl; agent = refl; work = refl; entries = refl; life = first_life s.life; end = refl; here = refl });
        taken = record { turns = tt; made = refl };
      }

  begins : (d : ℕ) → d < t.clients → (o : Option Scripted) → script_in t.scripts d ≡ o → Seat t first d (fresh_by d o)
  begins d l None e = none_seat t trace d l e
  begins d l (Some s) e = new_seat t trace d l (index_of t.scripts d) s (member g d) (fresh d s) (index_is t.scripts d s e) e refl refl refl (new d l s)

  played : IsPlayed maps tells t low first all_fresh
  played = record { run = first_run (start_of t) fits (omega arith, omega arith); start = refl; seats = λ d l. begins d l (script_in t.scripts d) refl }

  -- ---- after the last one

  come : (xs : ℕ → Option Playing) × IsPlayed maps tells t low r.played xs
  come = all_played maps tells t low (r.given.items ++ rounds_of t.clients r.given.rounds) first all_fresh played r.played r.given.turns

  same : r.played.start ≡ start_of t
  same = come.1.start

  -- the agents of a script have nothing left to do
  over : (d : ℕ) (x : Playing) → (h : IsSeat t r.played d x) → IsOver h.script x (account_at r.played.accounts d)
  over d x h = is_over r.played.start h.script x (account_at r.played.accounts d) h.stands.stage (seat_rest t r.played d x h (r.given.done d))

  idle : (d : ℕ) (o : Option Playing) → Seat t r.played d o → acts (memo_of r.played d) ≡ false
  idle d None h = ap (λ (a : Account). acts a.memo) h.1
  idle d (Some x) h = over_idle h.script x (account_at r.played.accounts d) (over d x h)

  abbrev TurnsOf : Scripted → Type 0
  TurnsOf s = let e : Account = account_at r.played.accounts s.client in (dead : Bool) × AreScriptAgents s e.memo.agents e.begun dead × HasTaken (member r.played.start.geometry s.client) s.lines (first_account r.played.start s.client) e

  turns : (s : Scripted) → script_in t.scripts s.client ≡ Some s → TurnsOf s
  turns s script = go (come.0 s.client) (come.1.seats s.client (low s.client s script))
    where
      go : (o : Option Playing) → Seat t r.played s.client o → TurnsOf s
      go None h = absurd (let z : ◌≡◌ {A = Option Scripted} (Some s) None = sym script ∙ h.0 in cc)
      go (Some x) h =
          let e : Account = account_at r.played.accounts s.client in
          subst (λ (z : Scripted). (dead : Bool) × AreScriptAgents z e.memo.agents e.begun dead × HasTaken (member r.played.start.geometry s.client) z.lines (first_account r.played.start s.client) e) (same_some h.script s (sym h.is ∙ script)) (
            _,
            stands_agents r.played.start h.script x e h.stands (seat_rest t r.played s.client x h (r.given.done s.client)),
            subst (λ (m : Me). HasTaken m h.script.lines (first_account r.played.start m.who) e) h.me h.stands.taken,
          )

  pub interleaved : IsInterleaved t p ls
  interleaved = record { start = r.start; played = r.played; begins = same; run = come.1.run; turns = turns; rests = λ d l. (idle d (come.0 d) (come.1.seats d l), r.given.done d); visits = r.visits; logs = r.logs }

  pub replay_takes : AllByRecursion (λ (l : Logged). TakesEffect (geometry_of t) l 0 [] (words_first t) (turns_of r.played.turns)) ls
  unfolding interleaved
  replay_takes = interleaved_takes maps tells t trace p ls interleaved

  -- ---- who died

  -- of a client that ended nobody of its identity died
  ended : (l : Logged) (s : Scripted) → script_in t.scripts s.client ≡ Some s → IsLog p s l → HasLived (turns_of p.turns) l
  ended l s script is = go (come.0 s.client) (come.1.seats s.client few)
    where
      few : s.client < t.clients
      few = low s.client s script

      here : s.client < r.played.start.geometry.clients
      here = subst (λ (z : Start). s.client < z.geometry.clients) (sym same) few

      go : (o : Option Playing) → Seat t r.played s.client o → HasLived (turns_of p.turns) l
      go None h = absurd (let z : ◌≡◌ {A = Option Scripted} (Some s) None = sym script ∙ h.0 in cc)
      go (Some x) h =
          let own : IsOver s x (account_at r.played.accounts s.client) = subst (λ (z : Scripted). IsOver z x (account_at r.played.accounts s.client)) (same_some h.script s (sym h.is ∙ script)) (over s.client x h) in
          replay_lived r.played p come.1.run t.clients r.visits s x own l (log_noted t.clients r.played p come.1.run (r.start ∙ sym same) r.visits s x few here (sym (ap (λ (m : Me). m.who) h.me)) h.me own l is) is.client

  pub replay_ended : AllByRecursion (HasLived (turns_of p.turns)) ls
  replay_ended = all_logs t.scripts p (HasLived (turns_of p.turns)) ended t.scripts ls (λ k s e. script_at t.scripts k s trace.apart e) r.logs
