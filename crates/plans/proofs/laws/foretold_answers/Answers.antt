use Rattle.plans.specs.Proved.Deciding.{answers_along, shown_along, stays_along}
use Rattle.plans.proofs.laws.foretold_answers.Goals as goal

pub returns-clause-shown : goal.returns-clause-shown
returns-clause-shown g c effect deciding h m tr runs = shown_along g.M.Machine.control (λ a. a) effect deciding h m tr runs

pub returns-clause-stays : goal.returns-clause-stays
returns-clause-stays g c effect deciding h m tr x runs e = stays_along g.M.Machine.control (λ a. a) effect deciding h m tr x runs e

pub returns-clause-answers : goal.returns-clause-answers
returns-clause-answers g c effect deciding h m tr n x a runs e t = answers_along g.M.Machine.control (λ a. a) effect deciding h m tr n x a runs e t
