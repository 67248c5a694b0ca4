use Rattle.std.proofs.{Common.{◌==◌, ◌∙◌, sym, ap, arith}, lemmas.Bool.{cond-false, cond-true, eq-eqb, ne_eqb}}
use Rattle.std.specs.Prelude.{None, Some}
use Rattle.shm_tree.specs.Removing.{content_in}
use Rattle.shm_tree.proofs.{Building.{looked, looked_none, looks_done, looks_from}, Removing.content_read}
use Rattle.shm_tree.proofs.{Rotations.node_of, Lasts.late_from}
use Rattle.shm_tree.proofs.remove.next_of.Goals as goal

pub returns-then-lowest-place : goal.returns-then-lowest-place
returns-then-lowest-place c =
    let n = looked_none c.args.pool.now c.args.life.now.left c.requires.working in
    record {
      looks = looks_done _ n;
      late = tt;
      steps = omega arith;
      next = λ t st. sym (cond-true (c.args.lowest.depth == c.args.place.depth) None (Some (content_in t)) (eq-eqb c.args.lowest.depth c.args.place.depth (omega arith)));
    }

pub content_of-requires : goal.content_of-requires
content_of-requires c = record { working = c.requires.working; node = node_of c.args.pool.now c.args.lowest.node c.requires.some c.requires.node.0; reached = c.requires.node.1 }

pub returns-in_ok-content : goal.returns-in_ok-content
returns-in_ok-content c =
    let u = c.in_ok-content.ensures in
    record {
      looks = looks_done _ (looked u.looks);
      late = tt;
      steps = (let s = u.steps in omega (arith, s));
      next =
          λ t st.
          ap Some (content_read c.args.pool.now c.args.lowest.node c.in_ok-content.content t c.requires.some u.key u.number st)
          ∙ sym (cond-false (c.args.lowest.depth == c.args.place.depth) None (Some (content_in t)) (ne_eqb c.args.lowest.depth c.args.place.depth (λ e. omega arith)));
    }

pub returns-in_err-content-clause-looks : goal.returns-in_err-content-clause-looks
returns-in_err-content-clause-looks c = looks_from c.from_residual.result c.from_residual.ensures.1 c.in_err-content.ensures.looks

pub returns-in_err-content-clause-late : goal.returns-in_err-content-clause-late
returns-in_err-content-clause-late c = late_from c.from_residual.result c.from_residual.ensures.1 c.in_err-content.ensures.late
