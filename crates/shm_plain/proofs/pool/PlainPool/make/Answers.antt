use Rattle.std.proofs.Common.{ℕ, List, subst, sym, ap}
use Rattle.shm_graph.specs.declared.run.Start.{Start}
use Rattle.shm_plain.specs.{declared.track.Track.Track, Pools.{pool, IsRun}, Tracks.first_track}
use Rattle.shm_plain.proofs.Turning.{first_run}
use Rattle.shm_plain.proofs.pool.PlainPool.make.Goals as goal

pub invariant_of-result : goal.invariant_of-result
invariant_of-result c =
    let s : Start = record { geometry = c.args.geometry; first_era = c.args.first_era; tables = c.args.tables } in
    let a = c.in_ok-board.ensures in
    let w = c.in_ok-words.ensures in (
      ap (λ m. m.1) a.3,
      a.2,
      a.0,
      subst (λ (z : Track). IsRun (pool s c.in_ok-words.words.items z.accounts z.turns)) (sym (ap (λ m. m.0) a.3))
          (subst (λ (ws : List ℕ). IsRun (pool s ws (first_track s).accounts (first_track s).turns)) (sym w) (first_run s c.requires.geometry c.requires.era)),
    )

pub returns-clause-run : goal.returns-clause-run
returns-clause-run c = (invariant_of-result c).3
