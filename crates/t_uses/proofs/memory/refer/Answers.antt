use Rattle.t_uses.proofs.Frees.{run_then}
use Rattle.t_uses.proofs.memory.refer.Goals as goal

pub returns-in_err-drop_root-clause-ran : goal.returns-in_err-drop_root-clause-ran
returns-in_err-drop_root-clause-ran c = run_then c.args.who _ _ _ (run_then c.args.who _ _ _ c.take_latch.ensures.ran c.set_ref.ensures.ran) c.drop_root.ensures.ran

pub returns-clause-ran : goal.returns-clause-ran
returns-clause-ran c = run_then c.args.who _ _ _ (run_then c.args.who _ _ _ (run_then c.args.who _ _ _ c.take_latch.ensures.ran c.set_ref.ensures.ran) c.drop_root.ensures.ran) c.give_back.ensures.ran
