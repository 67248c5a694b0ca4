use Rattle.t_uses.proofs.Frees.{run_then}
use Rattle.t_uses.proofs.memory.make_pair.Goals as goal

pub returns-in_err-refer-clause-ran : goal.returns-in_err-refer-clause-ran
returns-in_err-refer-clause-ran c = run_then c.args.who _ _ _ (run_then c.args.who _ _ _ c.block.ensures.ran c.block-2.ensures.ran) c.refer.ensures.ran

pub returns-in_err-set_home-clause-ran : goal.returns-in_err-set_home-clause-ran
returns-in_err-set_home-clause-ran c = run_then c.args.who _ _ _ (run_then c.args.who _ _ _ (run_then c.args.who _ _ _ c.block.ensures.ran c.block-2.ensures.ran) c.refer.ensures.ran) c.set_home.ensures.ran

pub returns-clause-ran : goal.returns-clause-ran
returns-clause-ran c = run_then c.args.who _ _ _ (run_then c.args.who _ _ _ (run_then c.args.who _ _ _ c.block.ensures.ran c.block-2.ensures.ran) c.refer.ensures.ran) c.set_home.ensures.ran
