-- the agents of a script with what each of them began, and what was told of its commands
use Rattle.std.proofs.Common.{◌≡◌, ℕ, zero, suc, ◌+◌, ◌<◌, ◌≤◌, Bool, true, false, List, [], ◌∷◌, ◌++◌, map, take, length, append-nil, refl, sym, ap, ◌∙◌, subst, arith, inl, inr}
use Rattle.std.proofs.{Math.Seq.take-suc, lemmas.{Bool.true≢false, List.{length-append, length-map}}}
use Rattle.std.proofs.lemmas.Option.{get_or_from_slice_get, slice_get_within}
use Rattle.std.specs.Prelude.{Option, Some, None, drop, slice_get}
use Rattle.shm_graph.specs.{declared.{ask.Me.Me, memo.Agent.Agent, run.LoggedLine.LoggedLine}, Agents.last_agent}
use Rattle.shm_graph.specs.Runs.{fell_by, is_dead}
use Rattle.shm_recover.specs.Leave.Control.{leave_line}
use Rattle.shm_script.specs.{declared.{line.Line.Line, log.{Answer.Answer, Entry.Entry}}, Text.line_spelled}
use Rattle.shm_agents.specs.{Agents.behind, Courses.{AreAgents, AreCommandsTold, AreRecoverers, client_lines}}
use Rattle.shm_agents.specs.{Logs.{effect_along, with_effect}, Work.work_control}
use Rattle.shm_agents.proofs.Lines.{command_line}

-- ---- fronts of lists

pub take_more : {A : Type 0} (xs : List A) (i : ℕ) (x : A) → slice_get xs i ≡ Some x → take (i + 1) xs ≡ take i xs ++ x ∷ []
take_more xs i x at =
    ap (λ (k : ℕ). take k xs) (let one : i + 1 ≡ suc i = omega arith in one)
    ∙ (take-suc xs i x (slice_get_within xs i x at) ∙ ap (λ (z : _). take i xs ++ z ∷ []) (get_or_from_slice_get xs i x x at))

-- a front and what comes next
pub front_more : {A : Type 0} (xs b : List A) (x : A) → b ≡ take (length b) xs → slice_get xs (length b) ≡ Some x → b ++ x ∷ [] ≡ take (length (b ++ x ∷ [])) xs
front_more xs b x is at = ap (λ (ys : List _). ys ++ x ∷ []) is ∙ (sym (take_more xs (length b) x at) ∙ ap (λ (k : ℕ). take k xs) (sym (length-append b (x ∷ []))))

pub around : {A : Type 0} (xs : List A) (i : ℕ) (x : A) → slice_get xs i ≡ Some x → take i xs ++ x ∷ drop (suc i) xs ≡ xs
around [] i x at = absurd (cc)
around (y ∷ xs) zero x at = let e : y ≡ x = cc in ap (λ (z : _). z ∷ xs) (sym e)
around (y ∷ xs) (suc i) x at = ap (λ (zs : List _). y ∷ zs) (around xs i x at)

-- ---- whether the last agent died

recoverers_fell : (b : Bool) (lives : List ℕ) (agents : List Agent) (begun : List (List (List ℕ))) (dead : Bool) → AreRecoverers b lives agents begun dead → (a : Agent) → is_dead a.fate ≡ b → fell_by (last_agent (a ∷ agents)) ≡ dead
recoverers_fell false lives [] [] dead h a is = is ∙ sym h
recoverers_fell false lives [] (b ∷ begun) dead h a is = absurd h
recoverers_fell false lives (x ∷ agents) begun dead h a is = absurd h
recoverers_fell true [] [] [] dead h a is = is ∙ sym h
recoverers_fell true [] [] (b ∷ begun) dead h a is = absurd h
recoverers_fell true [] (x ∷ agents) begun dead h a is = absurd h
recoverers_fell true (n ∷ lives) [] [] dead h a is = absurd h
recoverers_fell true (n ∷ lives) [] (b ∷ begun) dead h a is = absurd h
recoverers_fell true (n ∷ lives) (x ∷ agents) [] dead h a is = absurd h
recoverers_fell true (n ∷ lives) (x ∷ agents) (b ∷ begun) dead h a is = recoverers_fell (is_dead x.fate) lives agents begun dead h.3 x refl

pub agents_fell : (lines : List Line) (lives : List ℕ) (agents : List Agent) (begun : List (List (List ℕ))) (dead : Bool) → AreAgents lines lives agents begun dead → fell_by (last_agent agents) ≡ dead
agents_fell lines [] agents begun dead h = absurd h
agents_fell lines (n ∷ lives) [] begun dead h = absurd h
agents_fell lines (n ∷ lives) (a ∷ agents) [] dead h = absurd h
agents_fell lines (n ∷ lives) (a ∷ agents) (b ∷ begun) dead h = recoverers_fell (is_dead a.fate) lives agents begun dead h.3 a refl

-- where all died there are as many as lives
recoverers_many : (b : Bool) (lives : List ℕ) (agents : List Agent) (begun : List (List (List ℕ))) → AreRecoverers b lives agents begun true → length agents ≡ length lives
recoverers_many false lives [] [] h = absurd (true≢false h)
recoverers_many false lives [] (b ∷ begun) h = absurd h
recoverers_many false lives (x ∷ agents) begun h = absurd h
recoverers_many true [] [] [] h = refl
recoverers_many true [] [] (b ∷ begun) h = absurd h
recoverers_many true [] (x ∷ agents) begun h = absurd h
recoverers_many true (n ∷ lives) [] [] h = absurd h
recoverers_many true (n ∷ lives) [] (b ∷ begun) h = absurd h
recoverers_many true (n ∷ lives) (x ∷ agents) [] h = absurd h
recoverers_many true (n ∷ lives) (x ∷ agents) (b ∷ begun) h = ap suc (recoverers_many (is_dead x.fate) lives agents begun h.3)

pub agents_many : (lines : List Line) (lives : List ℕ) (agents : List Agent) (begun : List (List (List ℕ))) → AreAgents lines lives agents begun true → length agents ≡ length lives
agents_many lines [] agents begun h = absurd h
agents_many lines (n ∷ lives) [] begun h = absurd h
agents_many lines (n ∷ lives) (a ∷ agents) [] h = absurd h
agents_many lines (n ∷ lives) (a ∷ agents) (b ∷ begun) h = ap suc (recoverers_many (is_dead a.fate) lives agents begun h.3)

pub agents_some : (lines : List Line) (lives : List ℕ) (agents : List Agent) (begun : List (List (List ℕ))) (dead : Bool) → AreAgents lines lives agents begun dead → 0 < length agents
agents_some lines [] agents begun dead h = absurd h
agents_some lines (n ∷ lives) [] begun dead h = absurd h
agents_some lines (n ∷ lives) (a ∷ agents) [] dead h = absurd h
agents_some lines (n ∷ lives) (a ∷ agents) (b ∷ begun) dead h = omega arith

-- ---- the lines of a client

next_line : (me : Me) (ls : List Line) (k : ℕ) → k ≤ length ls → slice_get (map line_spelled ls ++ leave_line ∷ []) k ≡ Some (work_control.line (behind me ls k))
next_line me [] zero few = refl
next_line me [] (suc k) few = absurd (omega arith)
next_line me (l ∷ ls) zero few = ap Some (sym (command_line me l))
next_line me (l ∷ ls) (suc k) few = next_line me ls k (omega arith)

-- behind so many commands and the join it begins what comes there
pub line_behind : (me : Me) (ls : List Line) (k : ℕ) → k ≤ length ls → slice_get (client_lines ls) (k + 1) ≡ Some (work_control.line (behind me ls k))
line_behind me ls k few = ap (slice_get (client_lines ls)) (let one : k + 1 ≡ suc k = omega arith in one) ∙ next_line me ls k few

pub client_long : (ls : List Line) → length (client_lines ls) ≡ length ls + 2
client_long ls =
    let a = length-append (map line_spelled ls) (leave_line ∷ []) in
    let b = length-map ls line_spelled in
    omega arith

-- ---- agents

recoverers_more : (died : Bool) (lives rest : List ℕ) (agents more : List Agent) (begun later : List (List (List ℕ))) (dead : Bool)
    → AreRecoverers died lives agents begun true → AreRecoverers true rest more later dead → AreRecoverers died (lives ++ rest) (agents ++ more) (begun ++ later) dead
recoverers_more false lives rest [] more [] later dead are then = absurd (cc)
recoverers_more false lives rest [] more (b ∷ begun) later dead are then = absurd are
recoverers_more false lives rest (a ∷ agents) more begun later dead are then = absurd are
recoverers_more true [] rest [] more [] later dead are then = then
recoverers_more true [] rest [] more (b ∷ begun) later dead are then = absurd are
recoverers_more true [] rest (a ∷ agents) more begun later dead are then = absurd are
recoverers_more true (n ∷ lives) rest [] more begun later dead are then = absurd are
recoverers_more true (n ∷ lives) rest (a ∷ agents) more [] later dead are then = absurd are
recoverers_more true (n ∷ lives) rest (a ∷ agents) more (b ∷ begun) later dead (kind, lived, line, are) then = (kind, lived, line, recoverers_more (is_dead a.fate) lives rest agents more begun later dead are then)

-- recoverers behind agents all of which died
pub agents_more : (lines : List Line) (lives rest : List ℕ) (agents more : List Agent) (begun later : List (List (List ℕ))) (dead : Bool)
    → AreAgents lines lives agents begun true → AreRecoverers true rest more later dead → AreAgents lines (lives ++ rest) (agents ++ more) (begun ++ later) dead
agents_more lines [] rest agents more begun later dead are then = absurd are
agents_more lines (n ∷ lives) rest [] more begun later dead are then = absurd are
agents_more lines (n ∷ lives) rest (a ∷ agents) more [] later dead are then = absurd are
agents_more lines (n ∷ lives) rest (a ∷ agents) more (b ∷ begun) later dead (kind, lived, line, are) then = (kind, lived, line, recoverers_more (is_dead a.fate) lives rest agents more begun later dead are then)

-- ---- what was told

-- more is told behind it
pub told_on : (me : Me) (told more : List LoggedLine) (es fs : List Entry) → AreCommandsTold me told es → AreCommandsTold me more fs → AreCommandsTold me (told ++ more) (es ++ fs)
told_on me [] more [] fs are then = then
told_on me [] more (e ∷ es) fs are then = absurd (cc)
told_on me (x ∷ told) more [] [] are then = (are.0, told_on me told more [] [] are.1 then)
told_on me (x ∷ told) more [] (f ∷ fs) are then = inl (are.0, told_on me told more [] (f ∷ fs) are.1 then)
told_on me (x ∷ told) more (e ∷ es) fs are then =
    elim are [
      | inl n ↦ inl (n.0, told_on me told more (e ∷ es) fs n.1 then)
      | inr y ↦ inr (y.0, told_on me told more es fs y.1 then)
    ]

-- what is no command's is told behind it
pub told_aside : (me : Me) (told more : List LoggedLine) (es : List Entry) → AreCommandsTold me told es → AreCommandsTold me more [] → AreCommandsTold me (told ++ more) es
told_aside me told more es are then = subst (AreCommandsTold me (told ++ more)) (append-nil es) (told_on me told more es [] are then)

-- a command that was cut is an entry where it shows its answer
pub told_shown : (me : Me) (x : LoggedLine) (l : Line) → x.line ≡ line_spelled l → x.finished ≡ false → AreCommandsTold me (x ∷ []) (with_effect [] l (effect_along me l x.trail))
told_shown me x l text cut = go (effect_along me l x.trail) refl
  where
    go : (o : Option Answer) → effect_along me l x.trail ≡ o → AreCommandsTold me (x ∷ []) (with_effect [] l o)
    go None shows = (inr (l, record { text = text; cut = cut; shows = shows }), refl)
    go (Some a) shows = inr (inr (record { text = text; cut = cut; shows = shows }), refl)

pub effect_behind : (es : List Entry) (l : Line) (o : Option Answer) → es ++ with_effect [] l o ≡ with_effect es l o
effect_behind es l None = append-nil es
effect_behind es l (Some a) = refl
