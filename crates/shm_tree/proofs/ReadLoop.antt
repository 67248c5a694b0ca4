-- Reading line by line, as the loop goes.
use Rattle.std.proofs.Common.{◌≡◌, ℕ, ◌+◌, ◌≤◌, Bool, true, false, cond, ltb, List, [], ◌∷◌, length, Result, Ok, Err, refl, sym, ap, ◌∙◌, arith}
use Rattle.std.proofs.lemmas.Bool.Decides.{nat_tests}
use Rattle.std.specs.{Prelude.◌==◌, List.slice_split}
use Rattle.shm_script.specs.declared.fault.{ParseStop.ParseStop, TraceKind.TheVariants.Syntax, TraceFault.TraceFault}
use Rattle.shm_script.specs.{Drafts.{Stops, StopsAt}, Faults.{fault_at, limit_fault}}
use Rattle.shm_script.specs.declared.fault.ParseStop.TheVariants as stop
use Rattle.shm_script.proofs.Cuts.{some_piece}
use Rattle.shm_tree.specs.Scripts.{Drafted, TreeScripted, draft_none, drafted_line, may_end, read_or, reading, script_of}

pub reading_more : (d : Drafted) (at : ℕ) (line : List ℕ) (p : ℕ → Bool) (xs : List ℕ) → reading d at (line ∷ slice_split p xs) ≡ read_or at (drafted_line d line) (λ e. reading e (at + 1) (slice_split p xs))
unfolding reading
reading_more d at line p xs =
    let some = some_piece p xs in
    ap (λ (ls : List (List ℕ)). reading d at (line ∷ ls)) some.2 ∙ ap (λ (ls : List (List ℕ)). read_or at (drafted_line d line) (λ e. reading e (at + 1) ls)) (sym some.2)

pub reading_end : (d : Drafted) (at : ℕ) (rest : List ℕ) → reading d at (rest ∷ []) ≡ cond (may_end d.place rest) (Ok d.script) (Err (fault_at at Syntax))
unfolding reading
reading_end d at rest = refl

module _ (d : Drafted) (at : ℕ) (line rest others : List ℕ) (all : Result TreeScripted TraceFault) (cut : slice_split (λ b. b == 10) rest ≡ line ∷ slice_split (λ b. b == 10) others) (so_far : reading d at (slice_split (λ b. b == 10) rest) ≡ all) where
  steps : all ≡ read_or at (drafted_line d line) (λ e. reading e (at + 1) (slice_split (λ b. b == 10) others))
  steps = sym so_far ∙ ap (reading d at) cut ∙ reading_more d at line (λ b. b == 10) others

  pub take_stops : (e : ParseStop) → StopsAt at e (drafted_line d line) → Stops e all
  take_stops (stop.Memory e) h = tt
  take_stops (stop.Fault f) h = steps ∙ ap (λ r. read_or at r (λ e. reading e (at + 1) (slice_split (λ b. b == 10) others))) h.1 ∙ ap (λ n. Err (fault_at n f.kind)) (sym h.0)

  pub take_goes : (e : Drafted) → drafted_line d line ≡ Ok e → reading e (at + 1) (slice_split (λ b. b == 10) others) ≡ all
  take_goes e h = sym (steps ∙ ap (λ r. read_or at r (λ e. reading e (at + 1) (slice_split (λ b. b == 10) others))) h)

module _ (d : Drafted) (at : ℕ) (rest : List ℕ) (all : Result TreeScripted TraceFault) (cut : slice_split (λ b. b == 10) rest ≡ rest ∷ []) (so_far : reading d at (slice_split (λ b. b == 10) rest) ≡ all) where
  last : all ≡ cond (may_end d.place rest) (Ok d.script) (Err (fault_at at Syntax))
  last = sym so_far ∙ ap (reading d at) cut ∙ reading_end d at rest

  pub end_stops : may_end d.place rest ≡ false → all ≡ Err (fault_at at Syntax)
  end_stops h = last ∙ ap (λ b. cond b (Ok d.script) (Err (fault_at at Syntax))) h

  pub end_goes : may_end d.place rest ≡ true → all ≡ Ok d.script
  end_goes h = last ∙ ap (λ b. cond b (Ok d.script) (Err (fault_at at Syntax))) h

short_test : (n : ℕ) → n ≤ 1048576 → ltb 1048576 n ≡ false
short_test n h = grind (arith, nat_tests)

pub short_script : (bytes : List ℕ) → length bytes ≤ 1048576 → script_of bytes ≡ reading draft_none 1 (slice_split (λ b. b == 10) bytes)
short_script bytes h = ap (λ b. cond b (Err (limit_fault bytes)) (reading draft_none 1 (slice_split (λ b. b == 10) bytes))) (short_test (length bytes) h)
