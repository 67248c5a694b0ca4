use Rattle.shm_ref.proofs.RefusedDrops.{before_empty, behind_same, refused_bound, refused_either, refused_some}
use Rattle.shm_ref.proofs.refusals.drop_roots_refusals.Goals as goal

pub returns-clause-spent : goal.returns-clause-spent
returns-clause-spent c me r0 r tr es e g = (g.1.stopped.spent, g.1.most)

pub returns-clause-at : goal.returns-clause-at
returns-clause-at c me r0 r tr es e g =
    let vs = g.0 in
    let h = g.1.at in (
      h.root,
      h.low,
      before_empty me r0 r tr es e.era vs h,
      behind_same me r0 r tr es e.era vs h,
      refused_some me r0 r tr es e.era vs h,
      (vs, h.before, h.after, g.1.stopped, h.split, h.gone.events, refused_either me r0 r tr es e.era vs h, refused_bound me r0 r tr es e.era vs h),
    )
