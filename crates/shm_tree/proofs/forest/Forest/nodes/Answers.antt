use Rattle.std.proofs.Common.{ap, ◌∙◌}
use Rattle.shm_graph.specs.{References.live_count, Spots.see}
use Rattle.shm_plain.specs.Pools.{Pool}
use Rattle.shm_tree.specs.Forests.{Forested}
use Rattle.shm_tree.proofs.forest.Forest.nodes.Goals as goal

pub returns : goal.returns
returns c =
    c.live_blocks.ensures
    ∙ (ap (λ (p : Pool). live_count p.start.geometry (see p.start.geometry p.words)) c.pool.ensures
    ∙ ap (λ (f : Forested). live_count f.registers.pool.start.geometry (see f.registers.pool.start.geometry f.registers.pool.words)) c.self.view_is)
