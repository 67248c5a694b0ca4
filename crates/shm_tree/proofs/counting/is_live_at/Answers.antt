use Rattle.std.proofs.Common.{◌≡◌, ◌%◌, ap, sym, ◌∙◌}
use Rattle.shm_words.specs.Headers.{header_of}
use Rattle.shm_tree.proofs.Lives.{free_live, head_live, inner_live}
use Rattle.shm_tree.proofs.counting.is_live_at.Goals as goal

pub returns-then-class-eq0 : goal.returns-then-class-eq0
returns-then-class-eq0 c = sym (free_live c.args.pool.now c.args.class c.args.at c.args.index c.requires.spot c.if-class-eq0.true)

pub returns-then-from-class-eq0 : goal.returns-then-from-class-eq0
returns-then-from-class-eq0 c =
    let e : c.args.index % c.args.class ≡ 0 = ap (λ n. n % c.args.class) (sym c.from.ensures) ∙ c.if-from-class-eq0.true in
    ap (λ h. h.live) (c.unpack.ensures.is ∙ ap header_of c.word.ensures.is) ∙ sym (head_live c.args.pool.now c.args.class c.args.at c.args.index c.requires.spot c.if-class-eq0.false e)

pub returns-else-from-class-eq0 : goal.returns-else-from-class-eq0
returns-else-from-class-eq0 c =
    sym (inner_live c.args.pool.now c.args.class c.args.at c.args.index c.requires.spot c.if-class-eq0.false (λ e. c.if-from-class-eq0.false (ap (λ n. n % c.args.class) c.from.ensures ∙ e)))
