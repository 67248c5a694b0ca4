-- the logs of a pool are determined
use Rattle.std.proofs.Common.{◌≡◌, ℕ, zero, suc, ◌+◌, ◌<◌, ◌⊎◌, Bool, true, false, List, [], ◌∷◌, ◌++◌, length, map, take, refl, sym, ap, ◌∙◌, subst, arith, inl, inr}
use Rattle.std.proofs.lemmas.Bool.{false≢true}
use Rattle.std.specs.{Prelude.{Option, Some, None, slice_get, slice_index}, Option.is_some}
use Rattle.shm_graph.specs.declared.{ask.Me.Me, memo.Agent.Agent, run.LoggedLine.LoggedLine}
use Rattle.shm_graph.specs.Runs.{account_at, is_dead}
use Rattle.shm_count.specs.Roots.{member}
use Rattle.shm_plain.specs.Pools.{Pool}
use Rattle.shm_script.specs.declared.{line.Line.Line, log.{Answer.Answer, End.{End, TheVariants.{Ended, Died}}}}
use Rattle.shm_script.specs.{declared.log.Entry.Entry, Logged.Logged, Values.Scripted}
use Rattle.shm_table.specs.Command.{command_control, command_of}
use Rattle.shm_agents.specs.Logs.{AreEntries, AreLogs, HasEnd, IsLogOf, Was, answer_along, begun_first, effect_along, with_effect}
use Rattle.shm_agents.specs.{Logs.Was.{Between, InCommand, InLeaving}, Turns.lives_of}

-- ---- entries

abbrev lines_of : List Entry → List Line
lines_of es = map (λ (e : Entry). e.line) es

abbrev entry : Line → Answer → Entry
entry l a = record { line = l; answer = a }

some_same : {A : Type 0} (o : Option A) (x y : A) → o ≡ Some x → o ≡ Some y → x ≡ y
some_same o x y e f = cc

entry_same : (me : Me) (x : LoggedLine) (e f : Entry) → e.line ≡ f.line → answer_along command_control (command_of me e.line) x.trail ≡ Some e.answer → answer_along command_control (command_of me f.line) x.trail ≡ Some f.answer → e ≡ f
entry_same me x e f l a b =
    let c : answer_along command_control (command_of me f.line) x.trail ≡ Some e.answer = subst (λ (z : Line). answer_along command_control (command_of me z) x.trail ≡ Some e.answer) l a in
    ap (λ (z : Line). entry z e.answer) l ∙ ap (λ (z : Answer). entry f.line z) (some_same (answer_along command_control (command_of me f.line) x.trail) e.answer f.answer c b)

head_same : {A : Type 0} (x y : A) (xs ys : List A) → x ∷ xs ≡ y ∷ ys → x ≡ y
head_same x y xs ys e = cc

tail_same : {A : Type 0} (x y : A) (xs ys : List A) → x ∷ xs ≡ y ∷ ys → xs ≡ ys
tail_same x y xs ys e = cc

-- entries of the same lines with what the same trails give are the same
entries_same : (me : Me) (ts : List LoggedLine) (es fs : List Entry) → AreEntries me ts es → AreEntries me ts fs → lines_of es ≡ lines_of fs → es ≡ fs
entries_same me ts [] [] a b l = refl
entries_same me ts [] (f ∷ fs) a b l = absurd (cc)
entries_same me ts (e ∷ es) [] a b l = absurd (cc)
entries_same me [] (e ∷ es) (f ∷ fs) a b l = absurd a
entries_same me (x ∷ ts) (e ∷ es) (f ∷ fs) a b l =
    let here : e.line ≡ f.line = head_same e.line f.line (lines_of es) (lines_of fs) l in
    let rest : lines_of es ≡ lines_of fs = tail_same e.line f.line (lines_of es) (lines_of fs) l in
    ap (λ (z : Entry). z ∷ es) (entry_same me x e f here a.0.answer b.0.answer) ∙ ap (λ (zs : List Entry). f ∷ zs) (entries_same me ts es fs a.1 b.1 rest)

-- what was told of each entry is finished
entries_whole : (me : Me) (ts : List LoggedLine) (es : List Entry) (i : ℕ) (x : LoggedLine) → AreEntries me ts es → i < length es → slice_get ts i ≡ Some x → x.finished ≡ true
entries_whole me ts [] i x a l at = absurd (omega arith)
entries_whole me [] (e ∷ es) i x a l at = absurd a
entries_whole me (y ∷ ts) (e ∷ es) zero x a l at = ap (λ (z : LoggedLine). z.finished) (let s : x ≡ y = cc in s) ∙ a.0.whole
entries_whole me (y ∷ ts) (e ∷ es) (suc i) x a l at = entries_whole me ts es i x a.1 (omega arith) at

-- the first entries are of the first lines
lines_front : (es fs : List Entry) (ls : List Line) → lines_of (es ++ fs) ≡ take (length (es ++ fs)) ls → lines_of es ≡ take (length es) ls
lines_front [] fs ls e = refl
lines_front (x ∷ es) fs [] e = absurd (cc)
lines_front (x ∷ es) fs (l ∷ ls) e =
    let here : x.line ≡ l = head_same x.line l (lines_of (es ++ fs)) (take (length (es ++ fs)) ls) e in
    let rest : lines_of (es ++ fs) ≡ take (length (es ++ fs)) ls = tail_same x.line l (lines_of (es ++ fs)) (take (length (es ++ fs)) ls) e in
    ap (λ (z : Line). z ∷ lines_of es) here ∙ ap (λ (zs : List Line). l ∷ zs) (lines_front es fs ls rest)

-- ---- the death of a client

module _ (me : Me) (lines : List Line) (n : ℕ) (behind : List LoggedLine) where
  -- by how much it had begun, and by what was told where it died
  abbrev Where : List Entry → Type 0
  Where finished = (n ≡ length finished + 1) ⊎ ((n ≡ length finished + 2) × (x : LoggedLine) × (slice_get behind (length finished) ≡ Some x) × (x.finished ≡ false))

  where_was : (finished entries : List Entry) (done : Bool) → Was me lines n behind finished entries done → Where finished
  where_was finished entries done (Between count same undone) = inl count
  where_was finished entries done (InCommand line x count next at text cut same shown) = inr (count, x, at, cut)
  where_was finished entries done (InLeaving x count all at cut same undone) = inr (count, x, at, cut)

  many_same : (fs gs : List Entry) → AreEntries me behind fs → AreEntries me behind gs → Where fs → Where gs → length fs ≡ length gs
  many_same fs gs a b (inl e) (inl f) = omega arith
  many_same fs gs a b (inl e) (inr (f, x, at, cut)) = absurd (false≢true (sym cut ∙ entries_whole me behind fs (length gs) x a (omega arith) at))
  many_same fs gs a b (inr (e, x, at, cut)) (inl f) = absurd (false≢true (sym cut ∙ entries_whole me behind gs (length fs) x b (omega arith) at))
  many_same fs gs a b (inr (e, x, at, cut)) (inr (f, y, then, off)) = omega arith

  effect_lines : (fs es : List Entry) (line : Line) (o : Option Answer) → es ≡ with_effect fs line o → lines_of es ≡ take (length es) lines → lines_of fs ≡ take (length fs) lines
  effect_lines fs es line None e h = subst (λ (zs : List Entry). lines_of zs ≡ take (length zs) lines) e h
  effect_lines fs es line (Some a) e h = lines_front fs (entry line a ∷ []) lines (subst (λ (zs : List Entry). lines_of zs ≡ take (length zs) lines) e h)

  finished_lines : (fs es : List Entry) (done : Bool) → Was me lines n behind fs es done → lines_of es ≡ take (length es) lines → lines_of fs ≡ take (length fs) lines
  finished_lines fs es done (Between count same undone) h = subst (λ (zs : List Entry). lines_of zs ≡ take (length zs) lines) same h
  finished_lines fs es done (InCommand line x count next at text cut same shown) h = effect_lines fs es line (effect_along me line x.trail) same h
  finished_lines fs es done (InLeaving x count all at cut same undone) h = subst (λ (zs : List Entry). lines_of zs ≡ take (length zs) lines) same h

  some_none : {A : Type 0} (o : Option A) (x : A) → o ≡ Some x → o ≡ None → ⊥
  some_none o x e f = absurd (cc)

  was_same : (fs es ds : List Entry) (b d : Bool) → Was me lines n behind fs es b → Was me lines n behind fs ds d → (es ≡ ds) × (b ≡ d)
  was_same fs es ds b d (Between count same undone) (Between count2 same2 undone2) = (same ∙ sym same2, undone ∙ sym undone2)
  was_same fs es ds b d (Between count same undone) (InCommand line x count2 next at text cut same2 shown) = absurd (omega arith)
  was_same fs es ds b d (Between count same undone) (InLeaving x count2 all at cut same2 undone2) = absurd (omega arith)
  was_same fs es ds b d (InCommand line x count next at text cut same shown) (Between count2 same2 undone2) = absurd (omega arith)
  was_same fs es ds b d (InCommand line x count next at text cut same shown) (InCommand line2 x2 count2 next2 at2 text2 cut2 same2 shown2) =
      let l : line ≡ line2 = some_same (slice_get lines (length fs)) line line2 next next2 in
      let y : x ≡ x2 = some_same (slice_get behind (length fs)) x x2 at at2 in (
        same ∙ (ap (λ (z : Line). with_effect fs z (effect_along me z x.trail)) l ∙ (ap (λ (z : LoggedLine). with_effect fs line2 (effect_along me line2 z.trail)) y ∙ sym same2)),
        shown ∙ (ap (λ (z : Line). is_some (effect_along me z x.trail)) l ∙ (ap (λ (z : LoggedLine). is_some (effect_along me line2 z.trail)) y ∙ sym shown2)),
      )
  was_same fs es ds b d (InCommand line x count next at text cut same shown) (InLeaving x2 count2 all at2 cut2 same2 undone2) = absurd (some_none (slice_get lines (length fs)) line next all)
  was_same fs es ds b d (InLeaving x count all at cut same undone) (Between count2 same2 undone2) = absurd (omega arith)
  was_same fs es ds b d (InLeaving x count all at cut same undone) (InCommand line2 x2 count2 next2 at2 text2 cut2 same2 shown2) = absurd (some_none (slice_get lines (length fs)) line2 next2 all)
  was_same fs es ds b d (InLeaving x count all at cut same undone) (InLeaving x2 count2 all2 at2 cut2 same2 undone2) = (same ∙ sym same2, undone ∙ sym undone2)

-- ---- logs

abbrev died_first : List Agent → Bool
died_first [] = false
died_first (a ∷ others) = is_dead a.fate

module _ (me : Me) (s : Scripted) (life : ℕ) (agents : List Agent) (begun : List (List (List ℕ))) (behind : List LoggedLine) where
  first_many : (fs gs : List Entry) → lines_of fs ≡ take (length fs) s.lines → lines_of gs ≡ take (length gs) s.lines → AreEntries me behind fs → AreEntries me behind gs → length fs ≡ length gs → fs ≡ gs
  first_many fs gs e f a b n = entries_same me behind fs gs a b (e ∙ (ap (λ k. take k s.lines) n ∙ sym f))

  end_same : (fs gs es ds : List Entry) (x y : End) → HasEnd me s life agents begun behind fs es x → HasEnd me s life agents begun behind gs ds y → AreEntries me behind fs → AreEntries me behind gs
      → lines_of es ≡ take (length es) s.lines → lines_of ds ≡ take (length ds) s.lines → (es ≡ ds) × (x ≡ y)
  end_same fs gs es ds Ended Ended h k a b e f =
      let e2 = subst (λ (zs : List Entry). lines_of zs ≡ take (length zs) s.lines) h.0 e in
      let f2 = subst (λ (zs : List Entry). lines_of zs ≡ take (length zs) s.lines) k.0 f in
      (h.0 ∙ (first_many fs gs e2 f2 a b (h.1 ∙ sym k.1) ∙ sym k.0), refl)
  end_same fs gs es ds Ended (Died m done) h k a b e f = absurd (false≢true (sym (ap died_first h.2.1.1) ∙ ap died_first k.1.1))
  end_same fs gs es ds (Died n done) Ended h k a b e f = absurd (false≢true (sym (ap died_first k.2.1.1) ∙ ap died_first h.1.1))
  end_same fs gs es ds (Died n done) (Died m done2) h k a b e f =
      let begins : ℕ = begun_first begun in
      let many : length fs ≡ length gs = many_same me s.lines begins behind fs gs a b (where_was me s.lines begins behind fs es done h.2) (where_was me s.lines begins behind gs ds done2 k.2) in
      let same : gs ≡ fs = sym (first_many fs gs (finished_lines me s.lines begins behind fs es done h.2 e) (finished_lines me s.lines begins behind gs ds done2 k.2 f) a b many) in
      let was = was_same me s.lines begins behind fs es ds done done2 h.2 (subst (λ (zs : List Entry). Was me s.lines begins behind zs ds done2) same k.2) in
      (was.0, ap (λ z. Died z done) (h.0 ∙ (many ∙ sym k.0)) ∙ ap (λ z. Died m z) was.1)

abbrev logged : ℕ → List Entry → End → Logged
logged c es x = record { client = c; entries = es; end = x }

log_same : (me : Me) (s : Scripted) (life : ℕ) (agents : List Agent) (begun : List (List (List ℕ))) (told : List LoggedLine) (l m : Logged) → IsLogOf me s life agents begun told l → IsLogOf me s life agents begun told m → l ≡ m
log_same me s life agents begun told l m a b =
    let behind : b.behind ≡ a.behind = tail_same b.join a.join b.behind a.behind (sym b.is ∙ a.is) in
    let (es, end) =
    end_same me s life agents begun a.behind a.finished b.finished l.entries m.entries l.end m.end a.end
    (subst (λ (ts : List LoggedLine). HasEnd me s life agents begun ts b.finished m.entries m.end) behind b.end)
    a.entries (subst (λ (ts : List LoggedLine). AreEntries me ts b.finished) behind b.entries) a.lines b.lines in
    ap (λ c. logged c l.entries l.end) (a.client ∙ sym b.client) ∙ (ap (λ xs. logged m.client xs l.end) es ∙ ap (λ x. logged m.client m.entries x) end)

-- A pool has one log for each script
pub logs_same : (p : Pool) (ss : List Scripted) (ls ms : List Logged) → AreLogs p ss ls → AreLogs p ss ms → ls ≡ ms
logs_same p [] ls ms a b = a ∙ sym b
logs_same p (s ∷ ss) [] ms a b = absurd a
logs_same p (s ∷ ss) (l ∷ ls) [] a b = absurd b
logs_same p (s ∷ ss) (l ∷ ls) (m ∷ ms) a b =
    let e = account_at p.accounts s.client in
    ap (λ (z : Logged). z ∷ ls) (log_same (member p.start.geometry s.client) s (slice_index (lives_of s.life) 0) e.memo.agents e.begun e.told l m a.0 b.0) ∙ ap (λ (zs : List Logged). m ∷ zs) (logs_same p ss ls ms a.1 b.1)
