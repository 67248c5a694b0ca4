-- what is shown of the turns of a pool
use Rattle.std.specs.Prelude.{List, [], ◌∷◌}
use Rattle.shm_graph.specs.declared.{memo.Step.Step, run.Move.{Move, TheVariants.{Word, Dies, Begins}}}
use Rattle.shm_watch.specs.declared.shown.Shown.{Shown, TheVariants.Death}
use Rattle.shm_watch.specs.declared.shown.Shown.TheVariants as shown

-- of a word step
abbrev pub word_shown : Step → Shown
word_shown t = shown.Word t.me.who t.ask t.seen t.ends

-- each word step and each death, in order; the beginnings of agents are left out
abbrev pub shown_of : List Move → List Shown
shown_of [] = []
shown_of (Word t ∷ ts) = word_shown t ∷ shown_of ts
shown_of (Dies c ∷ ts) = Death c ∷ shown_of ts
shown_of (Begins c kind ∷ ts) = shown_of ts
