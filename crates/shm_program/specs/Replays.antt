-- the replay of a trace, its run by clients, and what is written of it
use Rattle.std.specs.Prelude.{◌≡◌, ℕ, ◌*◌, List, Option, Some, None}
use Rattle.shm_words.specs.declared.geometry.Geometry.{Geometry}
use Rattle.shm_audit.specs.Images.{image_of}
use Rattle.shm_graph.specs.{Spots.see, declared.{run.Move.Move, table.Entry.Entry}}
use Rattle.shm_plain.specs.Pools.{Pool, pool}
use Rattle.shm_replay.specs.{declared.replaying.Replayed.Replayed as Replay, Replays.IsReplay}
use Rattle.shm_report.specs.Report.{report_of, summary_of}
use Rattle.shm_script.specs.{Logged.Logged, Values.{Scripted, Traced}}
use Rattle.shm_async.specs.Limited.{AreLimited}
use Rattle.shm_team.specs.{declared.team.Ran.Ran as Team, Rans.IsTeamRun}
use Rattle.shm_program.specs.declared.{outcome.Finished.{Finished, TheVariants.{Replayed, Polled}}, words.Form.Form}
use Rattle.shm_program.specs.declared.words.Form.TheVariants.{Report, Image, Summary}

-- the trace was replayed, and what is kept is its replay: the closed pool, and the logs
pub record IsRan (t : Traced) (finished : Finished) : Type 0 where
  pub run : Replay
  pub kept : finished ≡ Replayed run
  pub replay : IsReplay t run.closed run.logs.items

-- the pool that clients left, with turns that lead to it
abbrev pub team_pool : Team → List Move → Pool
team_pool run turns = pool run.closed.start run.closed.words run.closed.accounts turns

-- the trace was run by clients: on threads, where `how` is `Ran`; on threads with others that recovered the dead, where it is `Rescued`; or polled, where it is `Polled`
pub record IsTeam (how : Team → Finished) (t : Traced) (finished : Finished) : Type 0 where
  -- the closed pool and the logs that they left
  pub run : Team
  -- these are kept
  pub kept : finished ≡ how run
  -- turns in some lawful order, which lead to that pool
  pub turns : List Move
  -- pool and logs are what clients leave of the trace
  pub team : IsTeamRun t (team_pool run turns) run.logs.items

-- what is written of a closed pool with these words, which hold this table, and of these logs: the report or the summary of both, or the image of the words
abbrev pub written : Form → Geometry → List ℕ → (ℕ → ℕ → List Entry) → List Logged → List ℕ
written Report g ws table ls = report_of g (see g ws) table ls
written Image g ws table ls = image_of g ws
written Summary g ws table ls = summary_of g (see g ws) table ls

-- the trace was replayed, and the text is what is written of that
abbrev pub IsTold : Form → Traced → Finished → List ℕ → Type 0
IsTold form t finished text = (r : IsRan t finished) × (text ≡ written form r.run.closed.start.geometry r.run.closed.words r.replay.table r.run.logs.items)

-- the trace was run by clients, and the text is what is written of that
abbrev pub IsTeamTold : (Team → Finished) → Form → Traced → Finished → List ℕ → Type 0
IsTeamTold how form t finished text = (r : IsTeam how t finished) × (text ≡ written form r.run.closed.start.geometry r.run.closed.words r.team.table r.run.logs.items)

-- Each client of the trace was polled for so many turns at most; who had turns left then was given up and recovered. It is a run, by polls, of the trace with the scripts as they were cut
pub record IsLimitedTold (turns : ℕ) (t : Traced) (finished : Finished) (text : List ℕ) : Type 0 where
  -- the scripts as they were cut
  pub scripts : List Scripted
  -- the run of that trace, and its report
  pub told : IsTeamTold Polled Report (record t { scripts = scripts }) finished text
  -- each script is cut exactly where an agent of it was left after those turns
  pub limited : AreLimited turns told.0.run.closed.accounts t.scripts scripts

-- the trace was run by clients that were polled, with a limit of polls or without one, and the text is the report of that
abbrev pub IsPollTold : ℕ → Option ℕ → Traced → Finished → List ℕ → Type 0
IsPollTold q None t finished text = IsTeamTold Polled Report t finished text
IsPollTold q (Some most) t finished text = IsLimitedTold (q * most) t finished text
