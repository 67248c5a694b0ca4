use Rattle.std.proofs.{Common.{◌∙◌, refl}, lemmas.{Result.IfOk-weaker, Iterator.items_from_collect}}
use Rattle.std.proofs.lemmas.Iterator.Adapters.{YieldsList-from_vec}
use Rattle.shm_program.proofs.ProgramWords.{left_behind}
use Rattle.shm_program.proofs.command.program_words.Goals as goal

pub returns-clause-words : goal.returns-clause-words
returns-clause-words c =
    let left = left_behind c.in-Ok.all c.next-name.new.self c.next-name.result c.next-name.ensures.items c.next-name.ensures.cases c.in-Ok.all.rest.ok.0 in
    rw c.in-Ok.is (IfOk-weaker c.collect.result _ _ (λ w e. e ∙ left) (items_from_collect _ c.collect.ensures.ran (YieldsList-from_vec _ refl c.next-name.new.self.rest.ok.0)))
