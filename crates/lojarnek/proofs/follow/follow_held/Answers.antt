use Rattle.std.proofs.Common.{◌∙◌}
use Rattle.lojarnek.specs.Standing.{acts_of}
use Rattle.lojarnek.proofs.Follows.{followed_died, followed_none, followed_some, followed_unlooked, followed_unrooted}
use Rattle.lojarnek.proofs.follow.follow_held.Goals as goal

pub root-requires-clause-pool : goal.root-requires-clause-pool
root-requires-clause-pool c = let h = rw c.in-Done-Ok.field-0-is at c.in-Done-Ok.ensures in h.0.of ∙ c.requires.pool

pub root-requires-clause-held : goal.root-requires-clause-held
root-requires-clause-held c = let h = rw c.in-Done-Ok.field-0-is at c.in-Done-Ok.ensures in h.1

pub root-requires-clause-knows : goal.root-requires-clause-knows
root-requires-clause-knows c = λ k low. let h = rw c.in-Done-Ok.field-0-is at c.in-Done-Ok.ensures in h.2 k ∙ c.requires.knows k low

pub root-requires-clause-reached : goal.root-requires-clause-reached
root-requires-clause-reached c = let h = rw c.in-Done-Ok.field-0-is at c.in-Done-Ok.ensures in h.3.0 (λ none. c.in-Done-Ok.found-test.1 none)

pub returns-in-Done-Ok-eq0 : goal.returns-in-Done-Ok-eq0
returns-in-Done-Ok-eq0 c =
    let h = rw c.in-Done-Ok-eq0.field-0-is at c.in-Done-Ok-eq0.ensures in
    followed_none c.args.author c.args.block c.args.word (acts_of c.args.token.now c.args.life.now.left) (acts_of c.look.new.token c.look.new.life.left) c.args.roots.now.named c.requires.knows (rw c.in-Done-Ok-eq0.field-0-0-test at h)

pub returns-in-Done-Ok-root : goal.returns-in-Done-Ok-root
returns-in-Done-Ok-root c =
    let h = rw c.in-Done-Ok.field-0-is at c.in-Done-Ok.ensures in
    followed_some c.args.author c.args.block c.args.word c.in-Done-Ok.found (acts_of c.args.token.now c.args.life.now.left) (acts_of c.look.new.token c.look.new.life.left) (acts_of c.root.new.token c.root.new.life.left)
    c.root.new.roots.named h c.in-Done-Ok-root.root (λ none. c.in-Done-Ok.found-test.1 none) (rw c.in-Done-Ok-root.field-0-is at c.in-Done-Ok-root.ensures)

pub returns-in-Done-Err-root : goal.returns-in-Done-Err-root
returns-in-Done-Err-root c =
    let h = rw c.in-Done-Ok.field-0-is at c.in-Done-Ok.ensures in
    followed_unrooted c.args.author c.args.block c.args.word c.in-Done-Ok.found (acts_of c.args.token.now c.args.life.now.left) (acts_of c.look.new.token c.look.new.life.left) (acts_of c.root.new.token c.root.new.life.left)
    c.root.new.roots.named h c.in-Done-Err-root.error (rw c.in-Done-Err-root.field-0-is at c.in-Done-Err-root.ensures)

pub returns-in-Died-root : goal.returns-in-Died-root
returns-in-Died-root c =
    let h = rw c.in-Done-Ok.field-0-is at c.in-Done-Ok.ensures in
    followed_died c.args.author c.args.block c.args.word c.in-Done-Ok.found (acts_of c.args.token.now c.args.life.now.left) (acts_of c.look.new.token c.look.new.life.left) (acts_of c.root.new.token c.root.new.life.left)
    c.root.new.roots.named h c.in-Died-root.ensures

pub returns-in-Done-Err : goal.returns-in-Done-Err
returns-in-Done-Err c =
    followed_unlooked c.args.author c.args.block c.args.word (acts_of c.args.token.now c.args.life.now.left) (acts_of c.look.new.token c.look.new.life.left) c.args.roots.now.named c.requires.knows c.in-Done-Err.error
    (rw c.in-Done-Err.field-0-is at c.in-Done-Err.ensures)

pub returns-in-Died : goal.returns-in-Died
returns-in-Died c = c.in-Died.ensures
