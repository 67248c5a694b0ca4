use Rattle.std.proofs.{Common.{◌∙◌, sym, ap}, lemmas.Option.none-some}
use Rattle.shm_words.specs.Tags.{tag_of}
use Rattle.shm_words.proofs.Words.{tag_of-word, tag_word-of, tag_fits}
use Rattle.shm_words.proofs.tag.tag_laws.Goals as goal

pub returns-clause-unpacks : goal.returns-clause-unpacks
returns-clause-unpacks c = tag_of-word

pub returns-clause-packs : goal.returns-clause-packs
returns-clause-packs c = λ wide w t l e. tag_word-of wide w t e

pub returns-clause-fits : goal.returns-clause-fits
returns-clause-fits c = λ wide w t l e. tag_fits wide w t e

pub returns-clause-none : goal.returns-clause-none
returns-clause-none c = λ wide w l e t fits is. none-some t (sym e ∙ (sym (ap (tag_of wide) is) ∙ tag_of-word wide t fits))
