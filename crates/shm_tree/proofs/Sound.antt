-- What is read of bytes is a script, and the bytes are its one spelling.
use Rattle.std.proofs.Common.{◌≡◌, ℕ, ◌+◌, true, cond, ltb, List, [], ◌∷◌, ◌++◌, length, Option, Some, None, Result, Ok, Err, codes, inl, inr, refl, sym, ap, subst, ◌∙◌, append_assoc}
use Rattle.std.proofs.lemmas.{Bool.ltb-false, List.{append-nil, Concat.flat_map-append}}
use Rattle.std.proofs.lemmas.List.Splits.{join_with_byte-slice_split}
use Rattle.std.specs.{Prelude.◌==◌, List.{flat_map, slice_split, join_with_byte}}
use Rattle.shm_script.specs.declared.fault.{TraceKind.{TraceKind, TheVariants.Syntax}, TraceFault.TraceFault}
use Rattle.shm_script.specs.{Faults.fault_at, Text.{ended, spaced}}
use Rattle.shm_script.proofs.{Cuts.some_piece, FitTexts.either, LineTexts.join_blanks, Lists.all_push}
use Rattle.shm_tree.specs.declared.{line.TreeLine.TreeLine, shape.RawTree.RawTree, judge.TreePlace.TreePlace}
use Rattle.shm_tree.specs.{declared.judge.FitTree.FitTree, Shapes.{shape_from, shape_of}}
use Rattle.shm_tree.specs.Scripts.{Drafted, TreeScripted, draft_after, draft_none, drafted, drafted_line, fit_of, judged, may_end, may_stand, ranged, read_or, reading, script_of}
use Rattle.shm_tree.specs.ScriptTexts.{IsScript, LineFits, SpellsScript, life_spelled, line_ended, text_of}
use Rattle.shm_tree.specs.declared.judge.TreePlace.TheVariants as place
use Rattle.shm_tree.specs.declared.judge.FitTree.TheVariants as fit
use Rattle.shm_tree.proofs.LineTexts.{FitIn, fit_text, line_told, stands}

-- ---- one line

-- the line is the text of what it was judged to be, which is in range and may stand there
record IsJudged (p : TreePlace) (line : List ℕ) (f : FitTree) : Type 0 where
  text : line ≡ fit_text f
  range : FitIn f
  place : stands p f ≡ true

ranged_is : (o : Option FitTree) (f : FitTree) → ranged o ≡ Ok f → o ≡ Some f
ranged_is None f h = absurd cc
ranged_is (Some g) f h = cc

err_ok : {A B : Type 0} (e : A) (x : B) → Err e ≡ Ok x → ⊥
err_ok e x h = cc

pieces_judged : (p : TreePlace) (pieces : List (List ℕ)) (line : List ℕ) (r : RawTree) (f : FitTree) → join_with_byte 32 pieces ≡ line → shape_from pieces ≡ Some r → may_stand p r ≡ true → fit_of r ≡ Some f → IsJudged p line f
unfolding shape_from
pieces_judged p [] line r f j s m k = absurd cc
pieces_judged p (head ∷ words) line r f j s m k =
    let t = line_told head words r f s k in
    record { text = sym j ∙ join_blanks head words ∙ t.text; range = t.range; place = sym (t.place p) ∙ m }

judged_by : (p : TreePlace) (line : List ℕ) (o : Option RawTree) (f : FitTree) → shape_of line ≡ o → judged p o ≡ Ok f → IsJudged p line f
judged_by p line None f s h = absurd (err_ok _ f h)
judged_by p line (Some r) f s h = elim (either (may_stand p r) _ _ _ h) [
  | inl y ↦ pieces_judged p (slice_split (λ b. b == 32) line) line r f (join_with_byte-slice_split 32 line) s y.0 (ranged_is (fit_of r) f y.1)
  | inr n ↦ absurd (err_ok _ f n.1)
]

-- ---- what was read so far

-- the text before d was read
abbrev Reads : TreePlace → Drafted → List ℕ → Type 0
Reads place.Start d text = (d.script ≡ draft_none.script) × (text ≡ [])
Reads place.Tree d text = IsScript d.script × (text ≡ text_of d.script) × (d.script.life ≡ None) × (d.script.lines ≡ [])
Reads place.Body d text = IsScript d.script × (text ≡ text_of d.script)

tree_grows : (p : TreePlace) (d : Drafted) (text : List ℕ) (n : ℕ) → Reads p d text → stands p (fit.Tree n) ≡ true → FitIn (fit.Tree n) → Reads place.Tree (draft_after d (fit.Tree n)) (text ++ ended (fit_text (fit.Tree n)))
tree_grows place.Start d text n (s, e) h r =
    let life : d.script.life ≡ None = ap (λ (x : TreeScripted). x.life) s in
    let lines : d.script.lines ≡ [] = ap (λ (x : TreeScripted). x.lines) s in (
      record { some = r.0; few = r.1; life = rw life tt; lines = rw lines tt },
      rw (e, life, lines) (sym (append-nil (ended (fit_text (fit.Tree n))))),
      life,
      lines,
    )
tree_grows place.Tree d text n s h r = absurd cc
tree_grows place.Body d text n s h r = absurd cc

life_grows : (p : TreePlace) (d : Drafted) (text : List ℕ) (n : ℕ) → Reads p d text → stands p (fit.Life n) ≡ true → FitIn (fit.Life n) → Reads place.Body (draft_after d (fit.Life n)) (text ++ ended (fit_text (fit.Life n)))
life_grows place.Start d text n s h r = absurd cc
life_grows place.Tree d text n (s, e, life, lines) h r =
    let front : List ℕ = ended (codes "tree" ++ spaced d.script.segments) in (
      record { some = s.some; few = s.few; life = r; lines = s.lines },
      rw (e, life, lines) (append_assoc front [] (ended (fit_text (fit.Life n))) ∙ ap (λ w. front ++ w) (sym (append-nil (ended (fit_text (fit.Life n)))))),
    )
life_grows place.Body d text n s h r = absurd cc

more_lines : (s : TreeScripted) (l : TreeLine) → text_of s ++ line_ended l ≡ text_of (record s { lines = s.lines ++ l ∷ [] })
more_lines s l =
    let front : List ℕ = ended (codes "tree" ++ spaced s.segments) in
    append_assoc front (life_spelled s.life ++ flat_map line_ended s.lines) (line_ended l)
    ∙ ap (λ w. front ++ w) (append_assoc (life_spelled s.life) (flat_map line_ended s.lines) (line_ended l)
    ∙ ap (λ w. life_spelled s.life ++ w) (ap (λ w. flat_map line_ended s.lines ++ w) (sym (append-nil (line_ended l))) ∙ sym (flat_map-append line_ended s.lines (l ∷ []))))

body_grows : (d : Drafted) (text : List ℕ) (l : TreeLine) → IsScript d.script → text ≡ text_of d.script → LineFits l → Reads place.Body (draft_after d (fit.Line l)) (text ++ ended (fit_text (fit.Line l)))
body_grows d text l s e r = (
  record { some = s.some; few = s.few; life = s.life; lines = all_push LineFits d.script.lines l s.lines r },
  ap (λ w. w ++ line_ended l) e ∙ more_lines d.script l,
)

line_grows : (p : TreePlace) (d : Drafted) (text : List ℕ) (l : TreeLine) → Reads p d text → stands p (fit.Line l) ≡ true → FitIn (fit.Line l) → Reads place.Body (draft_after d (fit.Line l)) (text ++ ended (fit_text (fit.Line l)))
line_grows place.Start d text l s h r = absurd cc
line_grows place.Tree d text l s h r = body_grows d text l s.0 s.1 r
line_grows place.Body d text l s h r = body_grows d text l s.0 s.1 r

grows : (d : Drafted) (text : List ℕ) (f : FitTree) → Reads d.place d text → stands d.place f ≡ true → FitIn f → Reads (draft_after d f).place (draft_after d f) (text ++ ended (fit_text f))
grows d text (fit.Tree n) s h r = tree_grows d.place d text n s h r
grows d text (fit.Life n) s h r = life_grows d.place d text n s h r
grows d text (fit.Line l) s h r = line_grows d.place d text l s h r

-- ---- all lines

end_is : (p : TreePlace) (d : Drafted) (text rest : List ℕ) → Reads p d text → may_end p rest ≡ true → IsScript d.script × (text ++ rest ≡ text_of d.script)
end_is place.Start d text rest s h = absurd cc
end_is place.Tree d text [] s h = (s.0, append-nil text ∙ s.1)
end_is place.Tree d text (b ∷ rest) s h = absurd cc
end_is place.Body d text [] s h = (s.0, append-nil text ∙ s.1)
end_is place.Body d text (b ∷ rest) s h = absurd cc

last_is : (d : Drafted) (text rest : List ℕ) (fault : TraceFault) (s : TreeScripted) → Reads d.place d text → cond (may_end d.place rest) (Ok d.script) (Err fault) ≡ Ok s → IsScript s × (text ++ rest ≡ text_of s)
last_is d text rest fault s r h = elim (either (may_end d.place rest) _ _ _ h) [
  | inl y ↦
      let same : d.script ≡ s = cc in
      subst (λ x. IsScript x × (text ++ rest ≡ text_of x)) same (end_is d.place d text rest r y.0)
  | inr n ↦ absurd (err_ok _ s n.1)
]

drafted_is : (d e : Drafted) (r : Result FitTree TraceKind) → drafted d r ≡ Ok e → (f : FitTree) × (r ≡ Ok f) × (draft_after d f ≡ e)
drafted_is d e (Ok f) h = (f, refl, cc)
drafted_is d e (Err k) h = absurd (err_ok _ e h)

read_is : (at : ℕ) (r : Result Drafted TraceKind) (behind : Drafted → Result TreeScripted TraceFault) (s : TreeScripted) → read_or at r behind ≡ Ok s → (e : Drafted) × (r ≡ Ok e) × (behind e ≡ Ok s)
read_is at (Ok e) behind s h = (e, refl, h)
read_is at (Err k) behind s h = absurd (err_ok _ s h)

lines_are : (pieces : List (List ℕ)) (line : List ℕ) (d : Drafted) (at : ℕ) (text : List ℕ) (s : TreeScripted) → Reads d.place d text → reading d at (line ∷ pieces) ≡ Ok s → IsScript s × (text ++ join_with_byte 10 (line ∷ pieces) ≡ text_of s)
unfolding reading
lines_are [] line d at text s r h = last_is d text line (fault_at at Syntax) s r h
lines_are (next ∷ others) line d at text s r h =
    let b = read_is at (drafted_line d line) (λ e. reading e (at + 1) (next ∷ others)) s h in
    let f = drafted_is d b.0 (judged d.place (shape_of line)) b.1 in
    let j = judged_by d.place line (shape_of line) f.0 refl f.1 in
    let g = grows d text f.0 r j.place j.range in
    let more = lines_are others next (draft_after d f.0) (at + 1) (text ++ ended (fit_text f.0)) s g (ap (λ e. reading e (at + 1) (next ∷ others)) f.2 ∙ b.2) in (
      more.0,
      ap (λ w. text ++ (w ++ 10 ∷ join_with_byte 10 (next ∷ others))) j.text
          ∙ sym (append_assoc text (ended (fit_text f.0)) (join_with_byte 10 (next ∷ others)) ∙ ap (λ w. text ++ w) (append_assoc (fit_text f.0) (10 ∷ []) (join_with_byte 10 (next ∷ others))))
          ∙ more.1,
    )

bytes_are : (bytes : List ℕ) (s : TreeScripted) → reading draft_none 1 (slice_split (λ b. b == 10) bytes) ≡ Ok s → IsScript s × (bytes ≡ text_of s)
bytes_are bytes s h =
    let some = some_piece (λ b. b == 10) bytes in
    let read = lines_are some.1 some.0 draft_none 1 [] s (refl, refl) (sym (ap (reading draft_none 1) some.2) ∙ h) in
    (read.0, sym (join_with_byte-slice_split 10 bytes) ∙ ap (join_with_byte 10) some.2 ∙ read.1)

-- what is read of bytes is a script, in its one spelling
pub script_sound : (bytes : List ℕ) (s : TreeScripted) → script_of bytes ≡ Ok s → SpellsScript bytes s
script_sound bytes s h = elim (either (ltb 1048576 (length bytes)) _ _ _ h) [
  | inl y ↦ absurd (err_ok _ s y.1)
  | inr n ↦ let b = bytes_are bytes s n.1 in (b.0, b.1, ltb-false _ _ n.0)
]
