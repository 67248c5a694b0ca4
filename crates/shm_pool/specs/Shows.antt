-- machines for the lines of scripts, which show what they are going to answer
use Rattle.std.specs.Prelude.{◌≡◌, false, Option}
use Rattle.shm_graph.specs.{declared.{ask.Me.Me, memo.Memo.Memo}, Asks.Trail, Laws.Control, Tells.after_all}
use Rattle.shm_script.specs.declared.{line.Line.Line, log.Answer.Answer}
use Rattle.shm_table.specs.TableTasks.{LineMay}

-- What is owed of the machine that is made of an identity and a line. It is of that identity, and may begin where the line may; and each answer rests
pub record ShowsLaws {M : Type 0} (k : Control M Answer) (may : M → Memo → Type 0) (rests : M → Answer → Type 0) (made : Me → Line → M) : Type 0 where
  pub me : (me : Me) (l : Line) → k.me (made me l) ≡ me
  pub begins : (me : Me) (l : Line) (r : Memo) → LineMay me l r → may (made me l) r
  pub rested : (m : M) (a : Answer) → rests m a

-- while it runs this is so of the answer that it shows, the memo before it and the memo now
abbrev pub ShowsSoFar : {M : Type 0} → (Line → Option Answer → Memo → Memo → Type 0) → Control M Answer → (M → Memo → Memo → Trail → Type 0) → (M → Option Answer) → (Me → Line → M) → Type 0
ShowsSoFar so k fits effect made = (me : Me) (l : Line) (start : Trail) (r0 r : Memo) (tr : Trail) → let m = after_all k (made me l) start in k.finished m ≡ false → fits m r0 r tr → so l (effect m) r0 r
