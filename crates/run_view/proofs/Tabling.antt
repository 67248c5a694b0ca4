-- a table to which a turn is added
use Rattle.std.proofs.{Common.{◌≡◌, ℕ, suc, ◌+◌, ◌-◌, ◌^◌, min, Bool, false, eqb, List, [], ◌∷◌, ◌++◌, length, append_assoc, append-nil, refl, sym, ap, ◌∙◌, subst, arith}, lemmas.{Bool.{cond-false, ne_eqb}, List.{length-append, Concat.{flat_map-append, flat_map-cons}}}}
use Rattle.std.specs.{Prelude.{Option, Some, None}, Borrow.MutBor, List.flat_map}
use Rattle.shm_watch.specs.declared.{shown.Shown.Shown, span.Span.Span}
use Rattle.run_view.specs.declared.{pipe.Stop.Stop, window.Window.Window}
use Rattle.run_view.specs.{Piped.{Adds, Ends, IsFrom, IsSentFrom, Sending}, Tables.{IsTable, heads, heads_at, heads_before, many, span_row, steps_text, table_begun, told_row, turns_line}}
use Rattle.run_view.proofs.Piping.{adds_more, from_end, from_more}

one_more : (w : Window) (rows : List (Shown × Span)) (r : Shown × Span) → (table_begun w rows ++ heads_at (many rows)) ++ told_row w r ≡ table_begun w (rows ++ r ∷ [])
one_more w [] r = ap (λ (t : List ℕ). heads ++ t) (sym (append-nil (told_row w r)) ∙ sym (flat_map-cons (told_row w) r []))
one_more w (q ∷ rows) r =
    let none : heads_at (many (q ∷ rows)) ≡ [] = cond-false (eqb (many (q ∷ rows)) 0) heads [] (ne_eqb (many (q ∷ rows)) 0 (λ e. omega (arith, e))) in
    ap (λ (t : List ℕ). (table_begun w (q ∷ rows) ++ t) ++ told_row w r) none
    ∙ ap (λ (t : List ℕ). t ++ told_row w r) (append-nil (table_begun w (q ∷ rows)))
    ∙ append_assoc heads (flat_map (told_row w) (q ∷ rows)) (told_row w r)
    ∙ ap (λ (t : List ℕ). heads ++ t) (ap (λ (t : List ℕ). flat_map (told_row w) (q ∷ rows) ++ t) (sym (flat_map-cons (told_row w) r [] ∙ append-nil (told_row w r))) ∙ sym (flat_map-append (told_row w) (q ∷ rows) (r ∷ [])))

many_more : (rows : List (Shown × Span)) (r : Shown × Span) → min (many rows + 1) (2 ^ 64 - 1) ≡ many (rows ++ r ∷ [])
many_more rows r = let l = length-append rows (r ∷ []) in omega (arith, l)

pub table_more : {A : Type 0} {held : A → Option (List ℕ)} {faults : A → ℕ} {x y z : Sending A} (o : Option (MutBor A)) (w v : Window) (turns turns' : ℕ) (rows : List (Shown × Span)) (r : Shown × Span) → turns' ≡ min (turns + 1) (2 ^ 64 - 1) → IsTable held faults o w x v turns rows → Adds held faults x y (heads_at turns) → Adds held faults y z (span_row v r.1) → IsTable held faults o w z v turns' (rows ++ r ∷ [])
table_more {A} {held} {faults} {x} {y} {z} o w v turns turns' rows r next h first then = record {
  same = h.same;
  many = next ∙ ap (λ (n : ℕ). min (n + 1) (2 ^ 64 - 1)) h.many ∙ many_more rows r;
  text =
      let headed = from_more o (table_begun w rows) (heads_at (many rows)) h.text (subst (λ (n : ℕ). Adds held faults x y (heads_at n)) h.many first) in
      subst (λ (t : List ℕ). IsFrom held faults o t z) (one_more w rows r) (from_more o (table_begun w rows ++ heads_at (many rows)) (told_row w r) headed (subst (λ (u : Window). Adds held faults y z (span_row u r.1)) h.same then));
}

-- behind the last turn
ended : (w : Window) (rows : List (Shown × Span)) → table_begun w rows ++ (heads_at (many rows) ++ turns_line (many rows)) ≡ steps_text w rows
ended w [] = refl
ended w (q ∷ rows) =
    let none : heads_at (many (q ∷ rows)) ≡ [] = cond-false (eqb (many (q ∷ rows)) 0) heads [] (ne_eqb (many (q ∷ rows)) 0 (λ e. omega (arith, e))) in
    ap (λ (t : List ℕ). table_begun w (q ∷ rows) ++ (t ++ turns_line (many (q ∷ rows)))) none
    ∙ append_assoc heads (flat_map (told_row w) (q ∷ rows)) (turns_line (many (q ∷ rows)))

pub table_end : {A : Type 0} {held : A → Option (List ℕ)} {faults : A → ℕ} {x y z : Sending A} {stop : Option Stop} {sink : MutBor A} (o : Option (MutBor A)) (w v : Window) (turns : ℕ) (rows : List (Shown × Span)) → IsTable held faults o w x v turns rows → Adds held faults x y (heads_at turns) → Adds held faults y z (turns_line turns) → Ends held faults z stop sink → IsSentFrom held faults o (steps_text w rows) stop sink
table_end {A} {held} {faults} {x} {y} {z} {stop} {sink} o w v turns rows h first then end =
    let both = subst (λ (n : ℕ). Adds held faults x z (heads_at n ++ turns_line n)) h.many (adds_more first then) in
    subst (λ (t : List ℕ). IsSentFrom held faults o t stop sink) (ended w rows) (from_end o (table_begun w rows ++ (heads_at (many rows) ++ turns_line (many rows))) (from_more o (table_begun w rows) (heads_at (many rows) ++ turns_line (many rows)) h.text both) end)
