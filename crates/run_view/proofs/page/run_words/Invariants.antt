use Rattle.std.specs.Prelude.{Some}
use Rattle.run_view.proofs.page.run_words.Given as goal

abbrev pub ghosts-words_by : goal.ghosts-words_by
ghosts-words_by g a = record { sink = Some a.writer.sink; window = a.window }
