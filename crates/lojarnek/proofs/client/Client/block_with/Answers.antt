use Rattle.lojarnek.proofs.{Comes.if_err_then, Tests.{word_beyond, word_refused, word_there}}
use Rattle.lojarnek.proofs.client.Client.block_with.Goals as goal

pub returns-then-limit-word-clause-err : goal.returns-then-limit-word-clause-err
returns-then-limit-word-clause-err c =
    rw c.from-found.ensures (word_beyond c.args.limit c.args.bound c.args.self.now c.args.root c.args.word c.if-limit-word.true (c.requires.bound c.if-limit-word.true))

pub returns-clause-ok : goal.returns-clause-ok
returns-clause-ok c = word_there c.args.limit c.args.bound c.args.self.now c.args.root c.args.word c.if-limit-word.false c.block_of.result c.block_of.ensures.ok

pub returns-clause-err : goal.returns-clause-err
returns-clause-err c = if_err_then _ _ _ c.block_of.ensures.err (λ e x. word_refused c.args.limit c.args.bound c.args.self.now c.args.root c.args.word e c.if-limit-word.false x)
