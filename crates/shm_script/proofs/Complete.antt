-- The spelling of a trace is read as that trace again.
use Rattle.std.proofs.Common.{◌≡◌, ◌≢◌, ℕ, ◌+◌, ◌^◌, ◌<◌, ◌≤◌, Bool, true, false, ◌||◌, cond, eqb, List, [], ◌∷◌, ◌++◌, length, sum, ◌⊎◌, inl, inr, None, Result, Ok, Err, MatchResult, refl, sym, ap, subst, ◌∙◌, arith, append_assoc}
use Rattle.std.proofs.lemmas.{Bool.Decides.nat_tests, List.{append-nil, Concat.flat_map-cons, Splits.slice_split_at}}
use Rattle.std.specs.{Prelude.◌==◌, List.{AllByRecursion, flat_map, list_any, slice_split}}
use Rattle.shm_script.specs.declared.{line.{Line.Line, Item.Item}, fit.TracePlace.TracePlace}
use Rattle.shm_script.specs.declared.fault.{TraceKind.TheVariants.Syntax, TraceFault.TraceFault, ParseStop.ParseStop}
use Rattle.shm_script.specs.Values.{Scripted, Traced}
use Rattle.shm_script.specs.Ranges.{LineFits, ItemFits, IsLife, ScriptFits, AreApart, IsTrace, IsTraceText}
use Rattle.shm_script.specs.Text.{ended, line_ended, order_spelled, life_spelled, script_spelled, text_of}
use Rattle.shm_script.specs.Faults.{Fit, FitPool, FitOrder, FitClient, FitLife, FitCommand, may_stand, is_second, may_end, fault_at, fault_of}
use Rattle.shm_script.specs.Drafts.{IsMemory, Stops, Drafted, draft_none, all_scripts, scripts_at, open_script, draft_after, drafted, drafted_line, traced, read_or, reading, trace_of}
use Rattle.shm_script.specs.declared.fit.TracePlace.TheVariants as place
use Rattle.shm_script.specs.declared.fault.ParseStop.TheVariants as stop
use Rattle.shm_script.proofs.{LineTexts.fit_text, FitTexts.FitRange, Lists.client_text}
use Rattle.shm_script.proofs.Whole.{reading_more, reading_end, fault_in, fault_of_is, trace_sound}
use Rattle.shm_script.proofs.{ReadLoop.{short_trace, Reads}, LinesAgain.{fit_raw, line_one, judged_again}}

abbrev cut : List ℕ → List (List ℕ)
cut bytes = slice_split (λ b. b == 10) bytes

-- behind the text, what was read is `e`
abbrev Reaches : Drafted → List ℕ → Drafted → Type 0
Reaches d text e = (at : ℕ) (rest : List ℕ) → (to : ℕ) × (reading d at (cut (text ++ rest)) ≡ reading e to (cut rest))

stays : (d : Drafted) → Reaches d [] d
stays d at rest = (at, refl)

then_more : (d e f : Drafted) (a b : List ℕ) → Reaches d a e → Reaches e b f → Reaches d (a ++ b) f
then_more d e f a b h k at rest =
    let one = h at (b ++ rest) in
    let two = k one.0 rest in
    (two.0, ap (λ t. reading d at (cut t)) (append_assoc a b rest) ∙ one.1 ∙ two.1)

-- a line that fits
pub line_goes : (d : Drafted) (at : ℕ) (fit : Fit) (rest : List ℕ) → d.seen.clients < 256 → FitRange d.seen.clients d.seen.me fit → may_stand d.seen.place (fit_raw fit) ≡ true → is_second d.seen.taken fit ≡ false → reading d at (cut (ended (fit_text fit) ++ rest)) ≡ reading (draft_after d fit) (at + 1) (cut rest)
line_goes d at fit rest few range stands second =
    let line = fit_text fit in
    let free = line_one d.seen.clients d.seen.me fit few range in
    let is : drafted_line d line ≡ Ok (draft_after d fit) = ap (drafted d) (judged_again d.seen fit few range stands second) in
    ap (λ t. reading d at (cut t)) (append_assoc line (10 ∷ []) rest)
    ∙ ap (reading d at) (slice_split_at (λ b. b == 10) line 10 rest free.all refl)
    ∙ reading_more d at line (λ b. b == 10) rest
    ∙ ap (λ r. read_or at r (λ e. reading e (at + 1) (cut rest))) is

line_reaches : (d : Drafted) (fit : Fit) → d.seen.clients < 256 → FitRange d.seen.clients d.seen.me fit → may_stand d.seen.place (fit_raw fit) ≡ true → is_second d.seen.taken fit ≡ false → Reaches d (ended (fit_text fit)) (draft_after d fit)
line_reaches d fit few range stands second at rest = (at + 1, line_goes d at fit rest few range stands second)

-- the pool's line
pool_reaches : (wide : Bool) (n g : ℕ) → FitRange 0 0 (FitPool wide n g) → Reaches draft_none (ended (fit_text (FitPool wide n g))) (draft_after draft_none (FitPool wide n g))
pool_reaches wide n g h = line_reaches draft_none (FitPool wide n g) (omega arith) h refl refl

-- behind an order
abbrev order_after : Drafted → List Item → Drafted
order_after d [] = d
order_after d (i ∷ items) = draft_after d (FitOrder (i ∷ items))

order_reaches : (d : Drafted) (items : List Item) → d.seen.clients < 256 → d.seen.place ≡ place.Pool → length items ≤ 1000 → AllByRecursion (ItemFits d.seen.clients) items → Reaches d (order_spelled items) (order_after d items)
order_reaches d [] few there many h = stays d
order_reaches d (i ∷ items) few there many h = line_reaches d (FitOrder (i ∷ items)) few (omega arith, many, h) (ap (λ p. may_stand p (fit_raw (FitOrder (i ∷ items)))) there) refl

-- what was read, with these last lines
abbrev set_last : Drafted → TracePlace → List ℕ → List Line → Drafted
set_last d p life ls = record { seen = record { place = p; clients = d.seen.clients; me = d.seen.me; taken = d.seen.taken }; segments = d.segments; wide = d.wide; order = d.order; scripts = d.scripts; life = life; lines = ls }

-- a script goes on
abbrev GoesOn : TracePlace → Type 0
GoesOn place.Client = Unit {0}
GoesOn place.Body = Unit {0}
GoesOn _ = ⊥

command_stands : (p : TracePlace) (line : Line) → GoesOn p → may_stand p (fit_raw (FitCommand line)) ≡ true
command_stands place.Start line h = absurd h
command_stands place.Pool line h = absurd h
command_stands place.Order line h = absurd h
command_stands place.Client line h = refl
command_stands place.Body line h = refl

abbrev place_behind : TracePlace → List Line → TracePlace
place_behind p [] = p
place_behind p (line ∷ ls) = place.Body

goes_behind : (p : TracePlace) (ls : List Line) → GoesOn p → GoesOn (place_behind p ls)
goes_behind p [] h = h
goes_behind p (line ∷ ls) h = tt

same_place : (ls : List Line) → place_behind place.Body ls ≡ place.Body
same_place [] = refl
same_place (line ∷ ls) = refl

lines_reach : (d : Drafted) (p : TracePlace) (life : List ℕ) (before ls : List Line) → d.seen.clients < 256 → GoesOn p → AllByRecursion (LineFits d.seen.clients d.seen.me) ls → Reaches (set_last d p life before) (flat_map line_ended ls) (set_last d (place_behind p ls) life (before ++ ls))
lines_reach d p life before [] few on h = subst (λ xs. Reaches (set_last d p life before) [] (set_last d p life xs)) (sym (append-nil before)) (stays (set_last d p life before))
lines_reach d p life before (line ∷ ls) few on h =
    let one = line_reaches (set_last d p life before) (FitCommand line) few h.0 (command_stands p line on) refl in
    let more = lines_reach d place.Body life (before ++ line ∷ []) ls few tt h.1 in
    let behind : set_last d (place_behind place.Body ls) life ((before ++ line ∷ []) ++ ls) ≡ set_last d place.Body life (before ++ (line ∷ ls)) =
    ap (λ q. set_last d q life ((before ++ line ∷ []) ++ ls)) (same_place ls) ∙ ap (set_last d place.Body life) (append_assoc before (line ∷ []) ls) in
    let both = then_more (set_last d p life before) (set_last d place.Body life (before ++ line ∷ [])) (set_last d place.Body life (before ++ (line ∷ ls))) (line_ended line) (flat_map line_ended ls) one (subst (Reaches (set_last d place.Body life (before ++ line ∷ [])) (flat_map line_ended ls)) behind more) in
    subst (λ t. Reaches (set_last d p life before) t (set_last d place.Body life (before ++ (line ∷ ls)))) (sym (flat_map-cons line_ended line ls)) both

abbrev life_place : List ℕ → TracePlace
life_place [] = place.Client
life_place (n ∷ life) = place.Body

life_goes : (life : List ℕ) → GoesOn (life_place life)
life_goes [] = tt
life_goes (n ∷ life) = tt

life_reaches : (d : Drafted) (life : List ℕ) → d.seen.clients < 256 → FitRange d.seen.clients d.seen.me (FitLife life) ⊎ (life ≡ []) → Reaches (set_last d place.Client [] []) (life_spelled life) (set_last d (life_place life) life [])
life_reaches d [] few h = stays (set_last d place.Client [] [])
life_reaches d (n ∷ life) few (inl h) = line_reaches (set_last d place.Client [] []) (FitLife (n ∷ life)) few h refl refl
life_reaches d (n ∷ life) few (inr h) = absurd cc

-- behind a client's line
abbrev begun : Drafted → ℕ → Drafted
begun d c = draft_after d (FitClient c)

abbrev script_place : Scripted → TracePlace
script_place s = place_behind (life_place s.life) s.lines

-- behind a script
abbrev script_after : Drafted → Scripted → Drafted
script_after d s = set_last (begun d s.client) (script_place s) s.life s.lines

life_range : (n me : ℕ) (life : List ℕ) → AllByRecursion IsLife life → sum life ≤ 2 ^ 40 → FitRange n me (FitLife life) ⊎ (life ≡ [])
life_range n me [] h k = inr refl
life_range n me (x ∷ life) h k = inl (omega arith, h, k)

-- not at the start
abbrev IsBegun : TracePlace → Type 0
IsBegun place.Start = ⊥
IsBegun _ = Unit {0}

client_stands : (p : TracePlace) (c : ℕ) → IsBegun p → may_stand p (fit_raw (FitClient c)) ≡ true
client_stands place.Start c h = absurd h
client_stands place.Pool c h = refl
client_stands place.Order c h = refl
client_stands place.Client c h = refl
client_stands place.Body c h = refl

script_reaches : (d : Drafted) (s : Scripted) → d.seen.clients < 256 → IsBegun d.seen.place → ScriptFits d.seen.clients s → is_second d.seen.taken (FitClient s.client) ≡ false → Reaches d (script_spelled s) (script_after d s)
script_reaches d s few there h first =
    let e = begun d s.client in
    let one = line_reaches d (FitClient s.client) few h.client (client_stands d.seen.place s.client there) first in
    let two = life_reaches e s.life few (life_range d.seen.clients s.client s.life h.life h.sum) in
    let three = lines_reach e (life_place s.life) s.life [] s.lines few (life_goes s.life) h.lines in
    then_more d (set_last e (life_place s.life) s.life []) (script_after d s) (client_text s.client ++ life_spelled s.life) (flat_map line_ended s.lines)
    (then_more d e (set_last e (life_place s.life) s.life []) (client_text s.client) (life_spelled s.life) one two) three

script_begun : (p : TracePlace) → GoesOn p → IsBegun p
script_begun place.Start h = h
script_begun place.Pool h = tt
script_begun place.Order h = tt
script_begun place.Client h = tt
script_begun place.Body h = tt

script_goes : (s : Scripted) → GoesOn (script_place s)
script_goes s = goes_behind (life_place s.life) s.lines (life_goes s.life)

scripts_on : (p : TracePlace) (d : Drafted) → GoesOn p → scripts_at p d ≡ d.scripts ++ open_script d ∷ []
scripts_on place.Start d h = absurd h
scripts_on place.Pool d h = absurd h
scripts_on place.Order d h = absurd h
scripts_on place.Client d h = refl
scripts_on place.Body d h = refl

scripts_behind : (d : Drafted) (s : Scripted) → all_scripts (script_after d s) ≡ all_scripts d ++ s ∷ []
scripts_behind d s = scripts_on (script_place s) (script_after d s) (script_goes s)

any_by : (a b c : Bool) → (a || b) ≡ false → (b ≡ false → c ≡ false) → (a || c) ≡ false
any_by true b c h k = absurd cc
any_by false b c h k = k h

any_push : (c y : ℕ) (xs : List ℕ) → list_any (λ o. o == c) xs ≡ false → y ≢ c → list_any (λ o. o == c) (xs ++ y ∷ []) ≡ false
any_push c y [] h apart = let e : eqb y c ≡ false = grind (arith, nat_tests) in ap (λ b. b || false) e
any_push c y (x ∷ xs) h apart = any_by (eqb x c) (list_any (λ o. o == c) xs) (list_any (λ o. o == c) (xs ++ y ∷ [])) h (λ k. any_push c y xs k apart)

-- none of the scripts is of a client that has one
abbrev AreFirst : List ℕ → List Scripted → Type 0
AreFirst taken ss = AllByRecursion (λ s. list_any (λ o. o == s.client) taken ≡ false) ss

still_first : (taken : List ℕ) (c : ℕ) (ss : List Scripted) → AreFirst taken ss → AllByRecursion (λ o. o.client ≢ c) ss → AreFirst (taken ++ c ∷ []) ss
still_first taken c [] h k = tt
still_first taken c (s ∷ ss) h k = (any_push s.client c taken h.0 (λ same. k.0 (sym same)), still_first taken c ss h.1 k.1)

-- the trace of what was read, with these scripts
abbrev with_scripts : Drafted → List Scripted → Traced
with_scripts d ss = record { clients = d.seen.clients; segments = d.segments; wide = d.wide; order = d.order; scripts = ss }

-- behind all scripts
record Ended (d : Drafted) (ss : List Scripted) : Type 0 where
  behind : Drafted
  reaches : Reaches d (flat_map script_spelled ss) behind
  begun_there : IsBegun behind.seen.place
  is : traced behind ≡ record { clients = d.seen.clients; segments = d.segments; wide = d.wide; order = d.order; scripts = all_scripts d ++ ss }

scripts_reach : (ss : List Scripted) (d : Drafted) → d.seen.clients < 256 → IsBegun d.seen.place → AllByRecursion (ScriptFits d.seen.clients) ss → AreApart ss → AreFirst d.seen.taken ss → Ended d ss
scripts_reach [] d few there h apart first = record { behind = d; reaches = stays d; begun_there = there; is = ap (with_scripts d) (sym (append-nil (all_scripts d))) }
scripts_reach (s ∷ ss) d few there h apart first =
    let e = script_after d s in
    let one = script_reaches d s few there h.0 first.0 in
    let rest = scripts_reach ss e few (script_begun (script_place s) (script_goes s)) h.1 apart.1 (still_first d.seen.taken s.client ss first.1 apart.0) in
    record {
      behind = rest.behind;
      reaches = subst (λ t. Reaches d t rest.behind) (sym (flat_map-cons script_spelled s ss)) (then_more d e rest.behind (script_spelled s) (flat_map script_spelled ss) one rest.reaches);
      begun_there = rest.begun_there;
      is = rest.is ∙ ap (λ xs. with_scripts d (xs ++ ss)) (scripts_behind d s) ∙ ap (with_scripts d) (append_assoc (all_scripts d) (s ∷ []) ss);
    }

first_of_all : (ss : List Scripted) → AreFirst [] ss
first_of_all [] = tt
first_of_all (s ∷ ss) = (refl, first_of_all ss)

end_reads : (p : TracePlace) (d : Drafted) → d.seen.place ≡ p → IsBegun p → (at : ℕ) → reading d at ([] ∷ []) ≡ Ok (traced d)
end_reads place.Start d is h at = absurd h
end_reads place.Pool d is h at = reading_end d at [] ∙ ap (λ p. cond (may_end p []) (Ok (traced d)) (Err (fault_at at Syntax))) is
end_reads place.Order d is h at = reading_end d at [] ∙ ap (λ p. cond (may_end p []) (Ok (traced d)) (Err (fault_at at Syntax))) is
end_reads place.Client d is h at = reading_end d at [] ∙ ap (λ p. cond (may_end p []) (Ok (traced d)) (Err (fault_at at Syntax))) is
end_reads place.Body d is h at = reading_end d at [] ∙ ap (λ p. cond (may_end p []) (Ok (traced d)) (Err (fault_at at Syntax))) is

head_reaches : (t : Traced) → IsTrace t → Reaches draft_none (ended (fit_text (FitPool t.wide t.clients t.segments)) ++ order_spelled t.order) (order_after (draft_after draft_none (FitPool t.wide t.clients t.segments)) t.order)
head_reaches t h =
    let d = draft_after draft_none (FitPool t.wide t.clients t.segments) in
    then_more draft_none d (order_after d t.order) (ended (fit_text (FitPool t.wide t.clients t.segments))) (order_spelled t.order)
    (pool_reaches t.wide t.clients t.segments (h.some_client, h.few_clients, h.some_segment, h.few_segments)) (order_reaches d t.order (omega (arith, h.few_clients)) refl h.few_items h.items)

ended_by : (wide : Bool) (n g : ℕ) (items : List Item) (ss : List Scripted) → n < 256 → AllByRecursion (ScriptFits n) ss → AreApart ss → (e : Drafted) × Reaches (order_after (draft_after draft_none (FitPool wide n g)) items) (flat_map script_spelled ss) e × IsBegun e.seen.place × (traced e ≡ record { clients = n; segments = g; wide = wide; order = items; scripts = ss })
ended_by wide n g [] ss few h apart = let r = scripts_reach ss (draft_after draft_none (FitPool wide n g)) few tt h apart (first_of_all ss) in (r.behind, r.reaches, r.begun_there, r.is)
ended_by wide n g (i ∷ items) ss few h apart = let r = scripts_reach ss (draft_after (draft_after draft_none (FitPool wide n g)) (FitOrder (i ∷ items))) few tt h apart (first_of_all ss) in (r.behind, r.reaches, r.begun_there, r.is)

-- the lines of a trace are read as that trace
reading_again : (t : Traced) → IsTrace t → reading draft_none 1 (cut (text_of t)) ≡ Ok t
reading_again t h =
    let e = ended_by t.wide t.clients t.segments t.order t.scripts (omega (arith, h.few_clients)) h.scripts h.apart in
    let d = order_after (draft_after draft_none (FitPool t.wide t.clients t.segments)) t.order in
    let front = ended (fit_text (FitPool t.wide t.clients t.segments)) ++ order_spelled t.order in
    let whole = then_more draft_none d e.0 front (flat_map script_spelled t.scripts) (head_reaches t h) e.1 in
    let r = whole 1 [] in
    ap (λ x. reading draft_none 1 (cut x)) (sym (append-nil (text_of t))) ∙ r.1 ∙ end_reads e.0.seen.place e.0 refl e.2 r.0 ∙ ap Ok e.3

-- the spelling of a trace is read as that trace
pub trace_again : (t : Traced) → IsTrace t → length (text_of t) ≤ 1048576 → trace_of (text_of t) ≡ Ok t
trace_again t h short = short_trace (text_of t) short ∙ reading_again t h

abbrev read_as : Traced → Result Traced TraceFault
read_as t = Ok t

same_read : (s t : Traced) → read_as s ≡ read_as t → s ≡ t
same_read s t h = cc

no_fault : (t : Traced) (f : TraceFault) → read_as t ≡ Err f → ⊥
no_fault t f h = cc

-- no two traces have one text
pub one_spelling : (s t : Traced) → IsTrace s → IsTrace t → text_of s ≡ text_of t → s ≡ t
one_spelling s t hs ht is = same_read s t (sym (reading_again s hs) ∙ ap (λ x. reading draft_none 1 (cut x)) is ∙ reading_again t ht)

only_stop : (bytes : List ℕ) (e : ParseStop) (t : Traced) → Stops e (trace_of bytes) → trace_of bytes ≡ Ok t → IsMemory e
only_stop bytes (stop.Memory e) t h is = tt
only_stop bytes (stop.Fault f) t h is = no_fault t f (sym is ∙ h)

-- what spells a trace is read as that trace, where there is memory
pub read_only : (bytes : List ℕ) (r : Result Traced ParseStop) → Reads bytes r → (t : Traced) → IsTrace t → length bytes ≤ 1048576 → bytes ≡ text_of t → MatchResult r (λ x. x ≡ t) IsMemory
read_only bytes (Ok u) h t fits short is =
    let less : length (text_of t) ≤ 1048576 = omega (arith, ap length is) in
    same_read u t (sym h ∙ ap trace_of is ∙ trace_again t fits less)
read_only bytes (Err e) h t fits short is =
    let less : length (text_of t) ≤ 1048576 = omega (arith, ap length is) in
    only_stop bytes e t h (ap trace_of is ∙ trace_again t fits less)

-- bytes have no fault exactly where they are the text of a trace
pub faultless : (bytes : List ℕ) → IsTraceText bytes → fault_of bytes ≡ None
faultless bytes (short, t, fits, is) =
    let less : length (text_of t) ≤ 1048576 = omega (arith, ap length is) in
    fault_of_is bytes ∙ ap fault_in (ap trace_of is ∙ trace_again t fits less)

text_by : (bytes : List ℕ) (r : Result Traced TraceFault) → trace_of bytes ≡ r → fault_in r ≡ None → IsTraceText bytes
text_by bytes (Ok t) is none = let s = trace_sound bytes t is in (s.2, t, s.0, s.1)
text_by bytes (Err f) is none = absurd cc

pub no_fault_is_text : (bytes : List ℕ) → fault_of bytes ≡ None → IsTraceText bytes
no_fault_is_text bytes none = text_by bytes (trace_of bytes) refl (sym (fault_of_is bytes) ∙ none)
