use Rattle.std.proofs.Common.{ap, ◌∙◌}
use Rattle.shm_view.specs.Tables.{identities_grid}
use Rattle.shm_view.proofs.Tabling.{five_tables, grids_are}
use Rattle.shm_view.proofs.tables.tables_of.Goals as goal

pub returns : goal.returns
returns c =
    five_tables _ _ _ _ _ _ _ _ _ _ _ c.new-tables.ensures.items c.in_ok-push.ensures.items c.in_ok-push-2.ensures.items c.in_ok-push-3.ensures.items c.in_ok-push-4.ensures.items c.in_ok-push-5.ensures.items
    ∙ grids_are c.args.stats.now _ _ _ _ _ c.in_ok-pool.ensures c.in_ok-owners.ensures c.in_ok-classes.ensures c.in_ok-counts.ensures (c.in_ok-identities.ensures ∙ ap identities_grid c.as_slice.ensures.value)
