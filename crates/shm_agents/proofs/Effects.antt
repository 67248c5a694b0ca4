-- a client that dies in a command: its map is the fold of its entries, of which the command is one where it shows its answer
use Rattle.std.proofs.Common.{◌≡◌, ℕ, zero, suc, Bool, true, false, cond, List, [], ◌∷◌, ◌++◌, map, take, length, refl, sym, ap, ◌∙◌}
use Rattle.std.proofs.lemmas.{Cmp.{eq_by_cmp_equiv, nat_cmp_total}, List.{length-append, map-append}}
use Rattle.std.specs.{Prelude.{◌==◌, Option, Some, None, slice_get}, Cmp.unsigned_ties, FinMap.{get-insert, get-remove}}
use Rattle.std.specs.{Option.{is_some, option_map}, Ordering.{eq_by_cmp, nat_cmp}}
use Rattle.std.specs.FinMap as finmap
use Rattle.shm_graph.specs.{declared.{ask.Me.Me, memo.Memo.Memo, run.LoggedLine.LoggedLine}, Asks.Trail, Laws.Control}
use Rattle.shm_graph.specs.Runs.{told_by}
use Rattle.plans.specs.{declared.or.Or.TheVariants.{First, Second}, Deciding.StillRuns, Either.or_control}
use Rattle.shm_script.specs.declared.{line.Line.Line, log.{Answer.Answer, Entry.Entry}}
use Rattle.shm_script.specs.{Logged.{Table, folded, table_after}, Text.line_spelled}
use Rattle.shm_script.specs.declared.line.Line.TheVariants as line
use Rattle.shm_script.specs.declared.log.Answer.TheVariants as answer
use Rattle.shm_table.specs.Command.{Maps.{MapSoFar, answered_map}, command_effect, command_of}
use Rattle.shm_agents.specs.{Agents.{IsFold, behind}, Logs.with_effect, Work.{commanding, leave_work}}
use Rattle.shm_agents.proofs.Courses.{take_more}

-- ---- the map

same_test : (key q : ℕ) → (key == q) ≡ eq_by_cmp nat_cmp q key
same_test key q = unsigned_ties key q ∙ (eq_by_cmp_equiv nat_cmp_total).symm key q

module _ (f : ℕ → Option (ℕ × ℕ)) (t : Table) (h : (k : ℕ) → f k ≡ finmap.get t k) where
  set : (key n v k : ℕ) → cond (key == k) (Some (n, v)) (f k) ≡ finmap.get (finmap.insert t key (n, v)) k
  set key n v k =
      ap (λ (b : Bool). cond b (Some (n, v)) (f k)) (same_test key k)
      ∙ (ap (λ z. cond (eq_by_cmp nat_cmp k key) (Some (n, v)) z) (h k) ∙ sym (get-insert nat_cmp_total t key (n, v) k))

  cut : (key k : ℕ) → cond (key == k) None (f k) ≡ finmap.get (finmap.remove t key) k
  cut key k =
      ap (λ (b : Bool). cond b None (f k)) (same_test key k)
      ∙ (ap (λ z. cond (eq_by_cmp nat_cmp k key) None z) (h k) ∙ sym (get-remove nat_cmp_total t key k))

  -- what an answer makes of a map is what its entry makes of the table
  answered : (l : Line) (a : Answer) (k : ℕ) → answered_map l a f k ≡ finmap.get (table_after l a t) k
  answered (line.Put key n) (answer.Stored b) k = set key n b k
  answered (line.Copy key a other) (answer.Value n b) k = set key n b k
  answered (line.Recv s key) (answer.Value n b) k = set key n b k
  answered (line.Del key) answer.Ok k = cut key k
  answered l a k = h k

folded-end : (es : List Entry) (x : Entry) (t : Table) → folded (es ++ x ∷ []) t ≡ table_after x.line x.answer (folded es t)
folded-end [] x t = refl
folded-end (e ∷ es) x t = folded-end es x (table_after e.line e.answer t)

pub fold_so_far : (es : List Entry) (l : Line) (o : Option Answer) (r0 r : Memo) → IsFold es r0 → MapSoFar l o r0 r → IsFold (with_effect es l o) r
fold_so_far es l None r0 r fold so key = so key ∙ fold key
fold_so_far es l (Some a) r0 r fold so key =
    so key
    ∙ (answered _ (folded es finmap.empty) fold l a key
    ∙ ap (λ (t : Table). finmap.get t key) (sym (folded-end es (record { line = l; answer = a }) finmap.empty)))

-- ---- the entries

-- they are the first lines still
pub lines_so_far : (es : List Entry) (l : Line) (o : Option Answer) (lines : List Line) → slice_get lines (length es) ≡ Some l → map (λ (y : Entry). y.line) es ≡ take (length es) lines
    → map (λ (y : Entry). y.line) (with_effect es l o) ≡ take (length (with_effect es l o)) lines
lines_so_far es l None lines at h = h
lines_so_far es l (Some a) lines at h =
    let x : Entry = record { line = l; answer = a } in
    map-append (λ (y : Entry). y.line) es (x ∷ [])
    ∙ (ap (λ (ls : List Line). ls ++ l ∷ []) h ∙ (sym (take_more lines (length es) l at) ∙ ap (λ (k : ℕ). take k lines) (sym (length-append es (x ∷ [])))))

-- the line counts only where an answer is shown
pub effect_line : (es : List Entry) (l k : Line) (o : Option Answer) → (is_some o ≡ true → l ≡ k) → with_effect es l o ≡ with_effect es k o
effect_line es l k None same = refl
effect_line es l k (Some a) same = ap (λ (z : Line). es ++ record { line = z; answer = a } ∷ []) (same refl)

-- ---- what comes behind so many commands

pub behind_some : (me : Me) (ls : List Line) (k : ℕ) (l : Line) → slice_get ls k ≡ Some l → behind me ls k ≡ commanding me l
behind_some me [] k l at = absurd (cc)
behind_some me (x ∷ ls) zero l at = let e : x ≡ l = cc in ap (commanding me) e
behind_some me (x ∷ ls) (suc k) l at = behind_some me ls k l at

pub behind_none : (me : Me) (ls : List Line) (k : ℕ) → slice_get ls k ≡ None → behind me ls k ≡ leave_work me
behind_none me [] k none = refl
behind_none me (x ∷ ls) zero none = absurd (cc)
behind_none me (x ∷ ls) (suc k) none = behind_none me ls k none

-- a command that hasn't begun shows nothing
pub none_shown : (me : Me) (l : Line) → command_effect (command_of me l) ≡ None
none_shown me (line.Put key n) = refl
none_shown me (line.Copy key a other) = refl
none_shown me (line.Del key) = refl
none_shown me (line.Get a key) = refl
none_shown me (line.Send to key) = refl
none_shown me (line.Recv from key) = refl

-- what is told of a command that was cut
pub told_cut : (l : Line) (tr : Trail) (told : List LoggedLine) → told_by (line_spelled l) tr false told ≡ told ++ record { line = line_spelled l; trail = tr; finished = false } ∷ []
told_cut (line.Put key n) tr told = refl
told_cut (line.Copy key a other) tr told = refl
told_cut (line.Del key) tr told = refl
told_cut (line.Get a key) tr told = refl
told_cut (line.Send to key) tr told = refl
told_cut (line.Recv from key) tr told = refl

-- ---- one of two machines that still runs

none_before : {A B : Type 0} (f : A → B) (o : Option A) → option_map f o ≡ None → o ≡ None
none_before f None e = refl
none_before f (Some a) e = absurd (cc)

pub runs_first : {S T A B : Type 0} (j : Control S A) (k : Control T B) (m : S) (tr : Trail) → StillRuns (or_control j k) (First m) tr → StillRuns j m tr
runs_first j k m [] g = tt
runs_first j k m (x ∷ tr) g = (none_before First (j.turns m x.word) g.0, runs_first j k (j.after m x.word) tr g.1)

pub runs_second : {S T A B : Type 0} (j : Control S A) (k : Control T B) (m : T) (tr : Trail) → StillRuns (or_control j k) (Second m) tr → StillRuns k m tr
runs_second j k m [] g = tt
runs_second j k m (x ∷ tr) g = (none_before Second (k.turns m x.word) g.0, runs_second j k (k.after m x.word) tr g.1)
