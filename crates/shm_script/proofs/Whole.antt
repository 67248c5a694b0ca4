-- Lines one after the other: what is read of them is a trace, and its text is theirs.
use Rattle.std.proofs.Common.{◌≡◌, ℕ, ◌+◌, ◌^◌, ◌≤◌, Bool, true, false, cond, ltb, List, [], ◌∷◌, ◌++◌, length, Option, Some, None, Result, Ok, Err, refl, sym, ap, subst, ◌∙◌, arith, append_assoc, length-append}
use Rattle.std.proofs.lemmas.{Bool.ltb-false, List.{append-nil, Splits.join_with_byte-slice_split}}
use Rattle.std.specs.{Prelude.◌==◌, List.{AllByRecursion, flat_map, slice_split, join_with_byte}}
use Rattle.shm_script.specs.declared.{raw.RawItem.RawItem, fit.TracePlace.TracePlace, fault.TraceKind.TraceKind}
use Rattle.shm_script.specs.{declared.fault.{TraceKind.TheVariants.Syntax, TraceFault.TraceFault}, Values.Traced}
use Rattle.shm_script.specs.{Ranges.{ScriptFits, IsTrace, segments_limit}, Text.{script_spelled, text_of}}
use Rattle.shm_script.specs.Shapes.{Shape, Pool, Order, Client, Life, Command, shape_of}
use Rattle.shm_script.specs.Faults.{Seen, Fit, FitPool, FitOrder, FitClient, FitLife, FitCommand, between, below, items_fit, life_fit, command_fit, may_stand, is_second, judged, seen_after, seen_none, fault_at, fault_or, first_fault, limit_fault, fault_of, may_end}
use Rattle.shm_script.specs.Drafts.{Drafted, draft_none, all_scripts, draft_after, drafted, drafted_line, traced, read_or, reading, trace_of}
use Rattle.shm_script.specs.declared.fit.TracePlace.TheVariants as place
use Rattle.shm_script.proofs.{Cuts.some_piece, Inverts.{given_is, both_is}, FitTexts.{FitRange, IsJudged, judged_is}}
use Rattle.shm_script.proofs.{LineTexts.fit_text, Lists.few_in_all}
use Rattle.shm_script.proofs.Sound.{text_at, draft_text, head_text, LooseFits, SizeAt, IsDraft, none_is_draft, Grows, pool_grows, order_grows, client_grows, life_grows, command_grows}

pool_place : (p : TracePlace) (wide : Bool) (n g : Option ℕ) → may_stand p (Pool wide n g) ≡ true → p ≡ place.Start
pool_place place.Start wide n g h = refl
pool_place place.Pool wide n g h = absurd cc
pool_place place.Order wide n g h = absurd cc
pool_place place.Client wide n g h = absurd cc
pool_place place.Body wide n g h = absurd cc

order_place : (p : TracePlace) (shape : Shape) (items : List RawItem) → shape ≡ Order items → may_stand p (Order items) ≡ true → p ≡ place.Pool
order_place place.Start shape items is h = absurd cc
order_place place.Pool shape items is h = refl
order_place place.Order shape items is h = absurd cc
order_place place.Client shape items is h = absurd cc
order_place place.Body shape items is h = absurd cc

life_place : (p : TracePlace) (numbers : List (Option ℕ)) → may_stand p (Life numbers) ≡ true → p ≡ place.Client
life_place place.Start numbers h = absurd cc
life_place place.Pool numbers h = absurd cc
life_place place.Order numbers h = absurd cc
life_place place.Client numbers h = refl
life_place place.Body numbers h = absurd cc

abbrev fine : Drafted → Result Drafted TraceKind
fine d = Ok d

abbrev found : Traced → Result Traced TraceFault
found t = Ok t

-- what one more line leaves
abbrev GrowsBy : Drafted → Fit → Type 0
GrowsBy d f = Grows d (draft_after d f) (fit_text f)

grows_by : (d : Drafted) (line : List ℕ) (shape : Shape) (fit : Fit) → IsDraft d → IsJudged d.seen line shape fit → GrowsBy d fit
grows_by d line (Pool wide n g) fit h j =
    let f = both_is (FitPool wide) (between 1 16 n) (between 1 (segments_limit wide) g) fit j.fits in
    subst (GrowsBy d) f.4 (pool_grows d wide f.0 f.1 h (pool_place d.seen.place wide n g j.stands) (subst (FitRange d.seen.clients d.seen.me) (sym f.4) j.spelled.1))
grows_by d line (Order items) fit h j =
    let f = given_is FitOrder (items_fit d.seen.clients items) fit j.fits in
    subst (GrowsBy d) f.2 (order_grows d f.0 h (order_place d.seen.place (Order items) items refl j.stands) (subst (FitRange d.seen.clients d.seen.me) (sym f.2) j.spelled.1))
grows_by d line (Client c) fit h j =
    let f = given_is FitClient (below d.seen.clients c) fit j.fits in
    subst (GrowsBy d) f.2 (client_grows d c f.0 h j.stands (ap (is_second d.seen.taken) f.2 ∙ j.first) (subst (FitRange d.seen.clients d.seen.me) (sym f.2) j.spelled.1))
grows_by d line (Life numbers) fit h j =
    let f = given_is FitLife (life_fit (2 ^ 40) numbers) fit j.fits in
    subst (GrowsBy d) f.2 (life_grows d f.0 h (life_place d.seen.place numbers j.stands) (subst (FitRange d.seen.clients d.seen.me) (sym f.2) j.spelled.1))
grows_by d line (Command r) fit h j =
    let f = given_is FitCommand (command_fit d.seen.clients d.seen.me r) fit j.fits in
    subst (GrowsBy d) f.2 (command_grows d r f.0 h j.stands (subst (FitRange d.seen.clients d.seen.me) (sym f.2) j.spelled.1))

ok_is : (d e : Drafted) → fine d ≡ fine e → d ≡ e
ok_is d e h = cc

not_ok : (k : TraceKind) (e : Drafted) → Err k ≡ fine e → ⊥
not_ok k e h = cc

trace_ok : (t u : Traced) → found t ≡ found u → t ≡ u
trace_ok t u h = cc

trace_err : (f : TraceFault) (t : Traced) → Err f ≡ found t → ⊥
trace_err f t h = cc

drafted_is : (d : Drafted) (r : Result Fit TraceKind) (e : Drafted) → drafted d r ≡ Ok e → (f : Fit) × (r ≡ Ok f) × (draft_after d f ≡ e)
drafted_is d (Ok f) e h = (f, refl, ok_is (draft_after d f) e h)
drafted_is d (Err k) e h = absurd (not_ok k e h)

line_grows : (d : Drafted) (line : List ℕ) (e : Drafted) → IsDraft d → drafted_line d line ≡ Ok e → Grows d e line
line_grows d line e h is =
    let f = drafted_is d (judged d.seen (shape_of line)) e is in
    let j = judged_is d.seen line f.0 f.1 in
    subst (λ x. Grows d x line) f.2 (subst (Grows d (draft_after d f.0)) (sym j.1.spelled.0) (grows_by d line j.0 f.0 h j.1))

-- where the lines end
ends_there : (p : TracePlace) (d : Drafted) (rest : List ℕ) → may_end p rest ≡ true → SizeAt p d.wide d.seen.clients d.segments → (rest ≡ []) × (text_of (traced d) ≡ text_at p d) × SizeAt place.Pool d.wide d.seen.clients d.segments
ends_there place.Start d rest h size = absurd cc
ends_there place.Pool d [] h size = (refl, refl, size)
ends_there place.Order d [] h size = (refl, refl, size)
ends_there place.Client d [] h size = (refl, refl, size)
ends_there place.Body d [] h size = (refl, refl, size)
ends_there place.Pool d (b ∷ rest) h size = absurd cc
ends_there place.Order d (b ∷ rest) h size = absurd cc
ends_there place.Client d (b ∷ rest) h size = absurd cc
ends_there place.Body d (b ∷ rest) h size = absurd cc

-- what was read to the end
pub record IsRead (d : Drafted) (pieces : List (List ℕ)) (t : Traced) : Type 0 where
  pub last : Drafted
  pub draft : IsDraft last
  pub size : SizeAt place.Pool last.wide last.seen.clients last.segments
  pub is : traced last ≡ t
  pub text : text_of t ≡ draft_text d ++ join_with_byte 10 pieces

ends_by : (d : Drafted) (at : ℕ) (rest : List ℕ) (t : Traced) (b : Bool) → may_end d.seen.place rest ≡ b → IsDraft d → cond b (Ok (traced d)) (Err (fault_at at Syntax)) ≡ Ok t → IsRead d (rest ∷ []) t
ends_by d at rest t true e h is =
    let there = ends_there d.seen.place d rest e h.size in
    let same : traced d ≡ t = trace_ok (traced d) t is in
    record { last = d; draft = h; size = there.2; is = same; text = ap text_of (sym same) ∙ there.1 ∙ sym (ap (λ w. draft_text d ++ w) there.0 ∙ append-nil (draft_text d)) }
ends_by d at rest t false e h is = absurd (trace_err (fault_at at Syntax) t is)

read_is : (at : ℕ) (r : Result Drafted TraceKind) (behind : Drafted → Result Traced TraceFault) (t : Traced) → read_or at r behind ≡ Ok t → (e : Drafted) × (r ≡ Ok e) × (behind e ≡ Ok t)
read_is at (Ok e) behind t h = (e, refl, h)
read_is at (Err k) behind t h = absurd (trace_err (fault_at at k) t h)

pub reading_is : (pieces : List (List ℕ)) (line : List ℕ) (d : Drafted) (at : ℕ) (t : Traced) → IsDraft d → reading d at (line ∷ pieces) ≡ Ok t → IsRead d (line ∷ pieces) t
unfolding reading
reading_is [] line d at t h is = ends_by d at line t (may_end d.seen.place line) refl h is
reading_is (next ∷ others) line d at t h is =
    let r = read_is at (drafted_line d line) (λ e. reading e (at + 1) (next ∷ others)) t is in
    let g = line_grows d line r.0 h r.1 in
    let rest = reading_is others next r.0 (at + 1) t g.0 r.2 in
    record {
      last = rest.last;
      draft = rest.draft;
      size = rest.size;
      is = rest.is;
      text = rest.text ∙ ap (λ w. w ++ join_with_byte 10 (next ∷ others)) g.1 ∙ append_assoc (draft_text d) (line ++ 10 ∷ []) (join_with_byte 10 (next ∷ others)) ∙ ap (λ w. draft_text d ++ w) (append_assoc line (10 ∷ []) (join_with_byte 10 (next ∷ others)));
    }

all_both : {A : Type 0} (P Q R : A → Type 0) (xs : List A) → AllByRecursion P xs → AllByRecursion Q xs → ((x : A) → P x → Q x → R x) → AllByRecursion R xs
all_both P Q R [] p q f = tt
all_both P Q R (x ∷ xs) p q f = (f x p.0 q.0, all_both P Q R xs p.1 q.1 f)

draft_is_trace : (e : Drafted) → IsDraft e → SizeAt place.Pool e.wide e.seen.clients e.segments → length (text_of (traced e)) ≤ 1048576 → IsTrace (traced e)
draft_is_trace e h size short =
    let ss = all_scripts e in
    let part : length (flat_map script_spelled ss) ≤ 1048576 = omega (arith, short, length-append (head_text e.wide e.seen.clients e.segments e.order) (flat_map script_spelled ss)) in
    record {
      some_client = size.0;
      few_clients = size.1;
      some_segment = size.2;
      few_segments = size.3;
      few_items = h.few;
      items = h.items;
      scripts = all_both (LooseFits e.seen.clients) (λ s. length s.lines ≤ 1048576) (ScriptFits e.seen.clients) ss h.loose (few_in_all 1048576 ss part) (λ s loose few. record { client = loose.client; life = loose.life; sum = loose.sum; lines = loose.lines; few = omega arith });
      apart = h.apart;
    }

-- what is read of lines is a trace of this text
pub lines_sound : (bytes : List ℕ) (t : Traced) → length bytes ≤ 1048576 → reading draft_none 1 (slice_split (λ b. b == 10) bytes) ≡ Ok t → IsTrace t × (bytes ≡ text_of t)
lines_sound bytes t short is =
    let some = some_piece (λ b. b == 10) bytes in
    let r = reading_is some.1 some.0 draft_none 1 t none_is_draft (ap (reading draft_none 1) (sym some.2) ∙ is) in
    let text : text_of t ≡ bytes = r.text ∙ ap (join_with_byte 10) (sym some.2) ∙ join_with_byte-slice_split 10 bytes in
    let less : length (text_of (traced r.last)) ≤ 1048576 = omega (arith, ap length (ap text_of r.is ∙ text)) in
    (subst IsTrace r.is (draft_is_trace r.last r.draft r.size less), sym text)

-- ---- as the loop goes
pub reading_more : (d : Drafted) (at : ℕ) (line : List ℕ) (p : ℕ → Bool) (xs : List ℕ) → reading d at (line ∷ slice_split p xs) ≡ read_or at (drafted_line d line) (λ e. reading e (at + 1) (slice_split p xs))
unfolding reading
reading_more d at line p xs =
    let some = some_piece p xs in
    ap (λ (ls : List (List ℕ)). reading d at (line ∷ ls)) some.2 ∙ ap (λ (ls : List (List ℕ)). read_or at (drafted_line d line) (λ e. reading e (at + 1) ls)) (sym some.2)

pub reading_end : (d : Drafted) (at : ℕ) (rest : List ℕ) → reading d at (rest ∷ []) ≡ cond (may_end d.seen.place rest) (Ok (traced d)) (Err (fault_at at Syntax))
unfolding reading
reading_end d at rest = refl

-- the faults of lines are those of their reading
seen_goes : (d : Drafted) (f : Fit) → (draft_after d f).seen ≡ seen_after d.seen f
seen_goes d (FitPool wide n g) = refl
seen_goes d (FitOrder items) = refl
seen_goes d (FitClient c) = refl
seen_goes d (FitLife life) = refl
seen_goes d (FitCommand line) = refl

-- the fault of a reading
abbrev pub fault_in : Result Traced TraceFault → Option TraceFault
fault_in (Ok t) = None
fault_in (Err f) = Some f

end_fault : (b : Bool) (t : Traced) (f : TraceFault) → cond b None (Some f) ≡ fault_in (cond b (Ok t) (Err f))
end_fault true t f = refl
end_fault false t f = refl

-- the same, where the fit is told
fault_goes : (r : Result Fit TraceKind) (d : Drafted) (at : ℕ) (behind : Seen → Option TraceFault) (read : Drafted → Result Traced TraceFault) → ((e : Drafted) → behind e.seen ≡ fault_in (read e)) → fault_or at r (λ f. behind (seen_after d.seen f)) ≡ fault_in (read_or at (drafted d r) read)
fault_goes (Ok f) d at behind read each = ap behind (sym (seen_goes d f)) ∙ each (draft_after d f)
fault_goes (Err k) d at behind read each = refl

pub first_fault_is : (pieces : List (List ℕ)) (line : List ℕ) (d : Drafted) (at : ℕ) → first_fault d.seen at (line ∷ pieces) ≡ fault_in (reading d at (line ∷ pieces))
unfolding first_fault reading
first_fault_is [] line d at = end_fault (may_end d.seen.place line) (traced d) (fault_at at Syntax)
first_fault_is (next ∷ others) line d at =
    fault_goes (judged d.seen (shape_of line)) d at (λ seen. first_fault seen (at + 1) (next ∷ others)) (λ e. reading e (at + 1) (next ∷ others)) (λ e. first_fault_is others next e (at + 1))

lines_fault : (bytes : List ℕ) → first_fault seen_none 1 (slice_split (λ b. b == 10) bytes) ≡ fault_in (reading draft_none 1 (slice_split (λ b. b == 10) bytes))
lines_fault bytes =
    let some = some_piece (λ b. b == 10) bytes in
    ap (first_fault seen_none 1) some.2 ∙ first_fault_is some.1 some.0 draft_none 1 ∙ ap (λ ls. fault_in (reading draft_none 1 ls)) (sym some.2)

whole_fault : (b : Bool) (f : TraceFault) (first : Option TraceFault) (read : Result Traced TraceFault) → first ≡ fault_in read → cond b (Some f) first ≡ fault_in (cond b (Err f) read)
whole_fault true f first read h = refl
whole_fault false f first read h = h

-- the fault of bytes is that of their reading
pub fault_of_is : (bytes : List ℕ) → fault_of bytes ≡ fault_in (trace_of bytes)
fault_of_is bytes = whole_fault (ltb 1048576 (length bytes)) (limit_fault bytes) _ _ (lines_fault bytes)

sound_by : (b : Bool) (bytes : List ℕ) (t : Traced) → ltb 1048576 (length bytes) ≡ b → cond b (Err (limit_fault bytes)) (reading draft_none 1 (slice_split (λ b. b == 10) bytes)) ≡ Ok t → IsTrace t × (bytes ≡ text_of t) × (length bytes ≤ 1048576)
sound_by true bytes t e is = absurd (trace_err (limit_fault bytes) t is)
sound_by false bytes t e is =
    let short : length bytes ≤ 1048576 = ltb-false _ _ e in
    let s = lines_sound bytes t short is in
    (s.0, s.1, short)

-- what is read of bytes is a trace, in its one spelling
pub trace_sound : (bytes : List ℕ) (t : Traced) → trace_of bytes ≡ Ok t → IsTrace t × (bytes ≡ text_of t) × (length bytes ≤ 1048576)
trace_sound bytes t is = sound_by (ltb 1048576 (length bytes)) bytes t refl is
