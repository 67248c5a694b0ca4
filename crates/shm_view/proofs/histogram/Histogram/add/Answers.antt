use Rattle.std.proofs.Common.{◌∙◌}
use Rattle.shm_view.proofs.Summing.{sums_next}
use Rattle.shm_view.proofs.histogram.Histogram.add.Goals as goal

pub returns-in-Some-clause-sums : goal.returns-in-Some-clause-sums
returns-in-Some-clause-sums c = λ kinds n small is before.
    sums_next kinds n c.in-Some.kind c.args.self.now.sums.items c.add_one.new.self.sums.items (is ∙ c.in-Some.is) small c.add_one.ensures.counted c.add_one.ensures.past before
