use Rattle.std.proofs.{Common.{false, true, ◌∙◌, sym, ap}, lemmas.Option.none-some}
use Rattle.shm_words.specs.Redos.{redo_of, redo_first}
use Rattle.shm_words.proofs.Words.{redo_of-words, redo_of-word, redo_words-of, redo_second-of}
use Rattle.shm_words.proofs.redo.redo_laws.Goals as goal

pub returns-clause-unpacks : goal.returns-clause-unpacks
returns-clause-unpacks c = redo_of-words

pub returns-clause-packs : goal.returns-clause-packs
returns-clause-packs c = redo_words-of

pub returns-clause-pairs : goal.returns-clause-pairs
returns-clause-pairs c = redo_second-of

pub returns-clause-none : goal.returns-clause-none
returns-clause-none c = λ w l e r fits is. none-some r (sym e ∙ (sym (ap (λ v. redo_of false v 0) is) ∙ redo_of-word r 0 fits))

pub returns-clause-none_wide : goal.returns-clause-none_wide
returns-clause-none_wide c = λ w x l e r fits is. none-some r (sym e ∙ (sym (ap (λ v. redo_of true v x) is.0) ∙ (sym (ap (redo_of true (redo_first true r)) is.1) ∙ redo_of-words true r fits)))
