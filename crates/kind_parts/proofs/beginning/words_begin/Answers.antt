use Rattle.kind_parts.proofs.BeginWords.{up_begins_word, down_begins_word, change_begins_word}
use Rattle.kind_parts.proofs.beginning.words_begin.Goals as goal

pub returns : goal.returns
returns c = record { up = up_begins_word; down = down_begins_word; change = change_begins_word }
