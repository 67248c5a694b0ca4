-- one word step as a machine: it fits where the step is kept, and gives that the step was made: what is proved of it
use Rattle.std.proofs.Common.{ℕ, Bool, true, []}
use Rattle.shm_graph.specs.{declared.{ask.{Ask.Ask, Me.Me}, memo.Memo.Memo}, Laws.Laws}
use Rattle.plans.specs.{declared.word.Word.Word, Proved.Placed.from_placed}
use Rattle.plans.specs.Words.{word_control, WordFits, WordGives, word_placed, IsWord}

pub word_laws : Laws word_control (WordFits true) (WordGives true)
word_laws = from_placed word_control (WordFits true) (WordGives true) (word_placed true)

-- ---- events, trails, and as a part

-- what follows from what holds after it holds after it too
pub word_more : (first : Bool) (me : Me) (a : Ask) (after more : Memo → ℕ → Memo → Type 0) (m : Word) (r : Memo) → ((n : ℕ) (x : Memo) → after r n x → more r n x) → IsWord first me a after m r → IsWord first me a more m r
word_more first me a after more m r then h =
    record { made = h.made; inside = h.inside; kept = λ w rs f s may same. let k = h.kept w rs f s may same in record { told = k.told; step = k.step; fits = then _ _ k.fits }; quiet = h.quiet }
