-- trails and what was told of an identity
use Rattle.std.proofs.Common.{◌≡◌, ℕ, ◌+◌, Bool, true, false, List, [], ◌∷◌, ◌++◌, length, refl, ap, ◌∙◌, arith}
use Rattle.std.proofs.lemmas.List.{length-append}
use Rattle.std.specs.{Prelude.{if◌then◌else◌, Option, Some, None}, Option.option_map}
use Rattle.shm_graph.specs.declared.{ask.Me.Me, memo.Seen.Seen, run.{Account.Account, LoggedLine.LoggedLine}}
use Rattle.shm_graph.specs.{Asks.Trail, Laws.Control, Runs.{begun_by, told_by, told_left}, Tells.after_all}
use Rattle.plans.specs.{declared.or.Or.{Or, TheVariants.{First, Second}}, Deciding.StillRuns, Either.or_control}
use Rattle.shm_script.specs.{declared.{line.Line.Line, log.Entry.Entry}, Text.line_spelled}
use Rattle.shm_script.specs.declared.line.Line.TheVariants as line
use Rattle.shm_agents.specs.Logs.{AreEntries, IsEntry, answer_along}

-- ---- trails

-- where one of two machines is
pub after_first : {S T A B : Type 0} (j : Control S A) (k : Control T B) (m : S) (tr : Trail) → after_all (or_control j k) (First m) tr ≡ First (after_all j m tr)
after_first j k m [] = refl
after_first j k m (x ∷ tr) = after_first j k (j.after m x.word) tr

pub after_second : {S T A B : Type 0} (j : Control S A) (k : Control T B) (m : T) (tr : Trail) → after_all (or_control j k) (Second m) tr ≡ Second (after_all k m tr)
after_second j k m [] = refl
after_second j k m (x ∷ tr) = after_second j k (k.after m x.word) tr

-- what is answered at the last pair
pub answer_last : {S A : Type 0} (k : Control S A) (m : S) (tr : Trail) (x : Seen) → answer_along k m (tr ++ x ∷ []) ≡ k.turns (after_all k m tr) x.word
answer_last k m [] x = refl
answer_last k m (y ∷ []) x = refl
answer_last k m (y ∷ z ∷ tr) x = answer_last k (k.after m y.word) (z ∷ tr) x

-- the answer of one of the parts of two machines
pub answer_inside : {A B C : Type 0} (o : Option A) (a : A) → let b : Or C (Or A B) = Second (First a) in option_map Second (option_map First o) ≡ Some b → o ≡ Some a
answer_inside None a e = absurd (cc)
answer_inside (Some x) a e = cc

-- one more pair at which it doesn't answer
pub runs_more : {S A : Type 0} (k : Control S A) (m : S) (tr : Trail) (x : Seen) → StillRuns k m tr → k.turns (after_all k m tr) x.word ≡ None → StillRuns k m (tr ++ x ∷ [])
runs_more k m [] x h none = (none, tt)
runs_more k m (y ∷ tr) x h none = (h.0, runs_more k (k.after m y.word) tr x h.1 none)

-- ---- what was told

pub entries_more : (me : Me) (ts : List LoggedLine) (es : List Entry) (t : LoggedLine) (x : Entry) → AreEntries me ts es → length ts ≡ length es → IsEntry me t x → AreEntries me (ts ++ t ∷ []) (es ++ x ∷ [])
entries_more me [] [] t x are same is = (is, tt)
entries_more me [] (y ∷ es) t x are same is = absurd are
entries_more me (s ∷ ts) [] t x are same is = absurd (omega arith)
entries_more me (s ∷ ts) (y ∷ es) t x are same is = (are.0, entries_more me ts es t x are.1 (omega arith) is)

pub entries_rest : (me : Me) (ts rest : List LoggedLine) (es : List Entry) → AreEntries me ts es → AreEntries me (ts ++ rest) es
entries_rest me ts rest [] are = tt
entries_rest me [] rest (y ∷ es) are = absurd are
entries_rest me (s ∷ ts) rest (y ∷ es) are = (are.0, entries_rest me ts rest es are.1)

-- where no line runs at a first step, nothing of a dead agent is told
pub left_same : (e : Account) (b : Bool) (l : List ℕ) → e.running ≡ (if b then [] else l) → told_left b e ≡ e.told
left_same e false l h = refl
left_same e true l h = ap (λ (l : List ℕ). told_by l e.memo.call false e.told) h

-- a command that is finished is told behind the others
pub told_spelled : (l : Line) (tr : Trail) (told : List LoggedLine) → told_by (line_spelled l) tr true told ≡ told ++ record { line = line_spelled l; trail = tr; finished = true } ∷ []
told_spelled (line.Put key n) tr told = refl
told_spelled (line.Del key) tr told = refl
told_spelled (line.Get a key) tr told = refl
told_spelled (line.Copy key a other) tr told = refl
told_spelled (line.Send i key) tr told = refl
told_spelled (line.Recv s key) tr told = refl

-- ---- what was begun

-- of one agent
abbrev pub begun_on : Bool → List (List ℕ) → List ℕ → List (List ℕ)
begun_on fresh b l = if fresh then b ++ l ∷ [] else b

pub begun_more : (fresh : Bool) (bs : List (List (List ℕ))) (b : List (List ℕ)) (l : List ℕ) → bs ≡ b ∷ [] → (if fresh then begun_by l bs else bs) ≡ begun_on fresh b l ∷ []
begun_more true bs b l is = ap (begun_by l) is
begun_more false bs b l is = is

pub many_more : (fresh : Bool) (b : List (List ℕ)) (l : List ℕ) (n : ℕ) → length b ≡ (if fresh then n + 1 else n + 2) → length (begun_on fresh b l) ≡ n + 2
many_more true b l n many = length-append b (l ∷ []) ∙ (let m = many in omega arith)
many_more false b l n many = many
