-- Reading line by line, as the loop goes, and what the whole reading says of the bytes.
use Rattle.std.proofs.Common.{◌≡◌, ℕ, ◌+◌, ◌≤◌, true, false, cond, ltb, List, [], ◌∷◌, length, None, Result, Ok, Err, MatchResult, IfOk, sym, ap, ◌∙◌, arith}
use Rattle.std.proofs.lemmas.{Bool.Decides.nat_tests, List.Splits.join_with_byte-slice_split}
use Rattle.std.specs.{Prelude.◌==◌, List.{slice_split, join_with_byte}}
use Rattle.shm_script.specs.declared.fault.{ParseStop.ParseStop, TraceKind.TheVariants.Syntax, TraceFault.TraceFault}
use Rattle.shm_script.specs.{Values.Traced, Ranges.IsTrace, Text.text_of}
use Rattle.shm_script.specs.Faults.{fault_at, limit_fault, fault_of, may_end}
use Rattle.shm_script.specs.Drafts.{Drafted, draft_none, drafted_line, traced, read_or, reading, trace_of, Stops, StopsAt, IsFault}
use Rattle.shm_script.specs.declared.fault.ParseStop.TheVariants as stop
use Rattle.shm_script.proofs.Whole.{reading_more, reading_end, fault_in, fault_of_is, trace_sound}

-- a piece that is alone is all
pub alone_is : (byte : ℕ) (text line : List ℕ) → slice_split (λ b. b == byte) text ≡ line ∷ [] → slice_split (λ b. b == byte) text ≡ text ∷ []
alone_is byte text line h =
    let same : line ≡ text = sym (ap (join_with_byte byte) h) ∙ join_with_byte-slice_split byte text in
    h ∙ ap (λ (l : List ℕ). l ∷ []) same

module _ (d : Drafted) (at : ℕ) (line rest others : List ℕ) (all : Result Traced TraceFault) (cut : slice_split (λ b. b == 10) rest ≡ line ∷ slice_split (λ b. b == 10) others) (so_far : reading d at (slice_split (λ b. b == 10) rest) ≡ all) where
  steps : all ≡ read_or at (drafted_line d line) (λ e. reading e (at + 1) (slice_split (λ b. b == 10) others))
  steps = sym so_far ∙ ap (reading d at) cut ∙ reading_more d at line (λ b. b == 10) others

  pub take_stops : (e : ParseStop) → StopsAt at e (drafted_line d line) → Stops e all
  take_stops (stop.Memory e) h = tt
  take_stops (stop.Fault f) h = steps ∙ ap (λ r. read_or at r (λ e. reading e (at + 1) (slice_split (λ b. b == 10) others))) h.1 ∙ ap (λ n. Err (fault_at n f.kind)) (sym h.0)

  pub take_goes : (e : Drafted) → drafted_line d line ≡ Ok e → reading e (at + 1) (slice_split (λ b. b == 10) others) ≡ all
  take_goes e h = sym (steps ∙ ap (λ r. read_or at r (λ e. reading e (at + 1) (slice_split (λ b. b == 10) others))) h)

module _ (d : Drafted) (at : ℕ) (rest : List ℕ) (all : Result Traced TraceFault) (cut : slice_split (λ b. b == 10) rest ≡ rest ∷ []) (so_far : reading d at (slice_split (λ b. b == 10) rest) ≡ all) where
  last : all ≡ cond (may_end d.seen.place rest) (Ok (traced d)) (Err (fault_at at Syntax))
  last = sym so_far ∙ ap (reading d at) cut ∙ reading_end d at rest

  pub end_stops : may_end d.seen.place rest ≡ false → all ≡ Err (fault_at at Syntax)
  end_stops h = last ∙ ap (λ b. cond b (Ok (traced d)) (Err (fault_at at Syntax))) h

  pub end_goes : may_end d.seen.place rest ≡ true → all ≡ Ok (traced d)
  end_goes h = last ∙ ap (λ b. cond b (Ok (traced d)) (Err (fault_at at Syntax))) h

short_test : (n : ℕ) → n ≤ 1048576 → ltb 1048576 n ≡ false
short_test n h = grind (arith, nat_tests)

pub short_trace : (bytes : List ℕ) → length bytes ≤ 1048576 → trace_of bytes ≡ reading draft_none 1 (slice_split (λ b. b == 10) bytes)
short_trace bytes h = ap (λ b. cond b (Err (limit_fault bytes)) (reading draft_none 1 (slice_split (λ b. b == 10) bytes))) (short_test (length bytes) h)

-- what a reading answers
abbrev pub Reads : List ℕ → Result Traced ParseStop → Type 0
Reads bytes r = MatchResult r (λ t. trace_of bytes ≡ Ok t) (λ e. Stops e (trace_of bytes))

pub read_found : (bytes : List ℕ) (r : Result Traced ParseStop) → Reads bytes r → IfOk r (λ t. IsTrace t × (bytes ≡ text_of t) × (length bytes ≤ 1048576))
read_found bytes (Ok t) h = trace_sound bytes t h
read_found bytes (Err e) h = tt

stop_fault : (bytes : List ℕ) (e : ParseStop) → Stops e (trace_of bytes) → IsFault e (fault_of bytes)
stop_fault bytes (stop.Memory e) h = tt
stop_fault bytes (stop.Fault f) h = fault_of_is bytes ∙ ap fault_in h

pub read_fault : (bytes : List ℕ) (r : Result Traced ParseStop) → Reads bytes r → MatchResult r (λ _. fault_of bytes ≡ None) (λ e. IsFault e (fault_of bytes))
read_fault bytes (Ok t) h = fault_of_is bytes ∙ ap fault_in h
read_fault bytes (Err e) h = stop_fault bytes e h
