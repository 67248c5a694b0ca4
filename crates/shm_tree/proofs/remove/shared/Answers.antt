use Rattle.std.proofs.Common.{lit≤, refl, arith}
use Rattle.std.specs.Prelude.{Option, None, Some}
use Rattle.shm_count.specs.declared.answer.Made.{Made}
use Rattle.shm_tree.specs.Bounds.{share_steps}
use Rattle.shm_tree.proofs.Building.{builds_call, builds_cut, builds_done, builds_from, looked_none, rooms_some, still_cut}
use Rattle.shm_tree.proofs.{Fallings.rests_shared, Removing.{kept_none, kept_share, moved_none, moved_share}}
use Rattle.shm_tree.proofs.{Resting.rests_still, Spendings.spent_call}
use Rattle.shm_tree.proofs.remove.shared.Goals as goal

pub returns-then-tree-eq0 : goal.returns-then-tree-eq0
returns-then-tree-eq0 c =
    let n = looked_none c.args.pool.now c.args.life.now.left c.requires.working in
    record {
      builds = builds_done None n.went c.requires.working refl (spent_call (share_steps c.args.pool.now.start.geometry) n.went (omega arith));
      kept = kept_none n.still;
      stands = moved_none c.args.pool.now c.args.tree (omega arith);
      rests = rests_still n.still;
    }

pub share-requires : goal.share-requires
share-requires c = record { working = c.requires.working; room = rooms_some c.requires.working (omega arith); some = λ e. omega arith; reached = c.requires.tree.1 }

pub returns : goal.returns
returns c =
    let s = c.in_ok-made.ensures in
    let m = c.in_ok-made.made in
    record {
      builds = (let d = s.changes in builds_done (Some m) d.went d.working d.latch (spent_call (share_steps c.args.pool.now.start.geometry) d.went d.steps));
      kept = kept_share c.args.tree s.block (λ e. omega arith) s.shared;
      stands = moved_share m.root c.args.tree m.block s.block s.shared;
      rests = rests_shared s.shared;
    }

pub returns-in_err-made-clause-builds : goal.returns-in_err-made-clause-builds
returns-in_err-made-clause-builds c =
    let e = c.in_err-made.ensures in
    let n = looked_none c.args.pool.now c.args.life.now.left c.requires.working in
    builds_from c.from_residual.result c.from_residual.ensures.1
    (builds_cut Made 0 share_steps {T = Option Made} {n = 0} {k = 0} _ (lit≤ tt) (omega arith) c.requires.working n.went refl (still_cut n.still) (spent_call 0 n.went (omega arith)) (builds_call 0 _ e.changes still_cut))
