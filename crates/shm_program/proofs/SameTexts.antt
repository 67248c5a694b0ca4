-- what is written of a trace is determined
use Rattle.std.proofs.Common.{◌≡◌, true, ℕ, zero, suc, ◌<◌, ◌≤◌, List, [], ◌∷◌, ◌++◌, map, refl, sym, ap, ◌∙◌, subst, arith, inl, inr}
use Rattle.std.proofs.lemmas.Bool.{cases_eq}
use Rattle.std.specs.{Prelude.{Option, Some, None, Result, Ok, Err}, List.flat_map}
use Rattle.shm_audit.specs.Texts.{image_fault_line}
use Rattle.shm_words.specs.declared.geometry.Geometry.{Geometry}
use Rattle.shm_graph.specs.{declared.{spot.Spot.TheVariants.Home, table.Entry.Entry}, Spots.see}
use Rattle.shm_graph.specs.Tables.{IsChain, IsTable}
use Rattle.shm_plain.specs.Pools.{Pool}
use Rattle.shm_replay.proofs.SameReplays.{replay_same}
use Rattle.shm_report.specs.Report.{add_entries, entries_below, row_of, rows_below, rows_text, counts_text, table_line}
use Rattle.shm_report.specs.{Logs.{client_line, log_text}, TableRows.contents_in}
use Rattle.shm_report.proofs.ChainReading.{chain_end}
use Rattle.shm_script.specs.{declared.fault.TraceFault.TraceFault, Drawing.drawn_trace, Faults.fault_of, Logged.Logged}
use Rattle.shm_script.specs.{Text.text_of, Values.Traced}
use Rattle.shm_script.proofs.Complete.{faultless, one_spelling}
use Rattle.shm_tree.specs.Scripts.{script_of}
use Rattle.shm_migrate.specs.Migrations.{stop_line}
use Rattle.shm_program.specs.{Outcomes.{JobAnswers, IsDone, IsFaulty, Spells}, Refusals.fault_line}
use Rattle.shm_program.specs.{Replays.{IsTold, written}, declared.{outcome.Finished.Finished, words.Form.Form}}
use Rattle.shm_program.specs.declared.words.{Form.TheVariants.{Report, Image, Summary}, Job.Job}
use Rattle.shm_program.specs.declared.words.Job.TheVariants.{Replay, Print, Run, Rescue, Audit, Migrate, Make, Draw, Poll, Tree}
use Rattle.shm_program.specs.Words.{is_determined}
use Rattle.shm_program.proofs.SpelledScripts.{spelled_read}

-- ---- tables

abbrev entry : ℕ → ℕ → ℕ → ℕ → Entry
entry k n b v = record { key = k; number = n; block = b; value = v }

-- from one block words hold one chain
chain_same : (g : Geometry) (ws : List ℕ) (c i at : ℕ) (es fs : List Entry) → IsChain (contents_in g ws) c i at es → IsChain (contents_in g ws) c i at fs → es ≡ fs
chain_same g ws c i at [] fs a b = sym (chain_end g ws c i fs (subst (λ n. IsChain (contents_in g ws) c i n fs) a b))
chain_same g ws c i at (e ∷ es) [] a b = chain_end g ws c i (e ∷ es) (subst (λ n. IsChain (contents_in g ws) c i n (e ∷ es)) b a)
chain_same g ws c i at (e ∷ es) (f ∷ fs) a b =
    let x = contents_in g ws in
    let block : e.block ≡ f.block = sym a.0 ∙ b.0 in
    let key : e.key ≡ f.key = sym a.1.key ∙ (ap (λ n. x.body n 2) block ∙ b.1.key) in
    let value : e.value ≡ f.value = sym a.1.value ∙ (ap (λ n. x.refs n 1) block ∙ b.1.value) in
    let number : e.number ≡ f.number = sym a.1.number ∙ (ap (λ n. x.body n 0) value ∙ b.1.number) in
    let here : e ≡ f =
    ap (λ k. entry k e.number e.block e.value) key
    ∙ (ap (λ n. entry f.key n e.block e.value) number ∙ (ap (λ n. entry f.key f.number n e.value) block ∙ ap (λ n. entry f.key f.number f.block n) value)) in
    let rest : es ≡ fs = chain_same g ws c i (x.refs e.block 0) es fs a.2 (subst (λ n. IsChain (contents_in g ws) c i (x.refs n 0) fs) (sym block) b.2) in
    ap (λ z. z ∷ es) here ∙ ap (λ zs. f ∷ zs) rest

module _ (g : Geometry) (ws : List ℕ) (t u : ℕ → ℕ → List Entry) (a : IsTable g (see g ws) t) (b : IsTable g (see g ws) u) where
  bucket_same : (c i : ℕ) → c < g.clients → i < 16 → t c i ≡ u c i
  bucket_same c i l k =
      elim (cases_eq (see g ws (Home c)) 0) [
        | inl e ↦ (a c l).none e i ∙ sym ((b c l).none e i)
        | inr n ↦ chain_same g ws c i _ (t c i) (u c i) ((a c l).chain n i k) ((b c l).chain n i k)
      ]

  entries_same : (c n : ℕ) → c < g.clients → n ≤ 16 → entries_below n (t c) ≡ entries_below n (u c)
  entries_same c zero l k = refl
  entries_same c (suc n) l k = ap (λ xs. xs ++ t c n) (entries_same c n l (omega arith)) ∙ ap (λ xs. entries_below n (u c) ++ xs) (bucket_same c n l (omega arith))

  rows_same : (n : ℕ) → n ≤ g.clients → rows_below n t ≡ rows_below n u
  rows_same zero l = refl
  rows_same (suc c) l =
      ap (λ xs. xs ++ map (row_of c) (add_entries [] (entries_below 16 (t c)))) (rows_same c (omega arith))
      ∙ ap (λ xs. rows_below c u ++ map (row_of c) (add_entries [] xs)) (entries_same c 16 (omega arith) (omega arith))

-- ---- replays

tables_same : (form : Form) (p : Pool) (ls : List Logged) (t u : ℕ → ℕ → List Entry) → IsTable p.start.geometry (see p.start.geometry p.words) t → IsTable p.start.geometry (see p.start.geometry p.words) u
    → written form p.start.geometry p.words t ls ≡ written form p.start.geometry p.words u ls
tables_same Report p ls t u a b = let g = p.start.geometry in ap (λ rows. flat_map log_text ls ++ rows_text g (see g p.words) rows) (rows_same g p.words t u a b g.clients (omega arith))
tables_same Image p ls t u a b = refl
tables_same Summary p ls t u a b = let g = p.start.geometry in ap (λ rows. flat_map client_line ls ++ table_line rows ++ counts_text g (see g p.words)) (rows_same g p.words t u a b g.clients (omega arith))

-- one text is written of a replay of a trace
pub told_same : (form : Form) (t : Traced) (one other : Finished) (x y : List ℕ) → IsTold form t one x → IsTold form t other y → x ≡ y
told_same form t one other x y (r, e) (s, f) =
    let same = replay_same t r.run.closed s.run.closed r.run.logs.items s.run.logs.items r.replay s.replay in
    let ls = r.run.logs.items in
    let table = r.replay.table in
    e ∙ (ap (λ (p : Pool). written form p.start.geometry p.words table ls) same.0
    ∙ (ap (λ (ms : List Logged). written form s.run.closed.start.geometry s.run.closed.words table ms) same.1
    ∙ (tables_same form s.run.closed s.run.logs.items table s.replay.table (subst (λ (p : Pool). IsTable p.start.geometry (see p.start.geometry p.words) table) same.0 r.replay.is) s.replay.is
    ∙ sym f)))

-- ---- jobs

trace_same : (bytes : List ℕ) (s t : Traced) → Spells bytes s → Spells bytes t → s ≡ t
trace_same bytes s t a b = one_spelling s t a.trace b.trace (sym a.text ∙ b.text)

-- what is done is told in one text, but for a run or `tree`
pub done_same : (job : Job) (bytes : List ℕ) (one other : Finished) (x y : List ℕ) → is_determined job ≡ true → IsDone job bytes one x → IsDone job bytes other y → x ≡ y
done_same (Replay form) bytes one other x y e (s, a, h) (t, b, k) = told_same form s one other x y h (subst (λ (z : Traced). IsTold form z other y) (trace_same bytes t s b a) k)
done_same Print bytes one other x y e (s, a, h) (t, b, k) = h.1 ∙ (ap text_of (trace_same bytes s t a b) ∙ sym k.1)
done_same (Run form) bytes one other x y e h k = cc
done_same (Rescue form medics) bytes one other x y e h k = cc
done_same (Poll q limit) bytes one other x y e h k = cc
done_same Tree bytes one other x y e h k = cc
done_same Audit bytes one other x y e h k = h.verdict ∙ sym k.verdict
done_same Migrate bytes one other x y e h k = h.image ∙ sym k.image
done_same (Make start size) bytes one other x y e h k = told_same Summary (drawn_trace start size) one other x y h k
done_same (Draw start size) bytes one other x y e h k = h.1 ∙ sym k.1

some_same : {A : Type 0} (o : Option A) (x y : A) → o ≡ Some x → o ≡ Some y → x ≡ y
some_same o x y e f = cc

some_none : {A : Type 0} (o : Option A) (x : A) → o ≡ Some x → o ≡ None → ⊥
some_none o x e f = absurd (cc)

trace_fault_same : (bytes x y : List ℕ) → (fault : TraceFault) × (fault_of bytes ≡ Some fault) × (x ≡ fault_line fault) → (fault : TraceFault) × (fault_of bytes ≡ Some fault) × (y ≡ fault_line fault) → x ≡ y
trace_fault_same bytes x y (f, e, h) (k, d, l) = h ∙ (ap fault_line (some_same (fault_of bytes) f k e d) ∙ sym l)

err_same : {A E : Type 0} (r : Result A E) (x y : E) → r ≡ Err x → r ≡ Err y → x ≡ y
err_same r x y e f = cc

ok_err : {A E : Type 0} (r : Result A E) (x : A) (y : E) → r ≡ Ok x → r ≡ Err y → ⊥
ok_err r x y e f = absurd (cc)

pub faulty_same : (job : Job) (bytes x y : List ℕ) → IsFaulty job bytes x → IsFaulty job bytes y → x ≡ y
faulty_same (Replay form) bytes x y a b = trace_fault_same bytes x y a b
faulty_same Print bytes x y a b = trace_fault_same bytes x y a b
faulty_same (Run form) bytes x y a b = trace_fault_same bytes x y a b
faulty_same (Rescue form medics) bytes x y a b = trace_fault_same bytes x y a b
faulty_same (Poll q limit) bytes x y a b = trace_fault_same bytes x y a b
faulty_same Tree bytes x y (f, e, h) (k, d, l) = h ∙ (ap fault_line (err_same (script_of bytes) f k e d) ∙ sym l)
faulty_same Audit bytes x y (f, e, h) (k, d, l) = h ∙ (ap image_fault_line (some_same _ f k e d) ∙ sym l)
faulty_same Migrate bytes x y (f, e, h) (k, d, l) = h ∙ (ap stop_line (some_same _ f k e d) ∙ sym l)
faulty_same (Make start size) bytes x y a b = absurd a
faulty_same (Draw start size) bytes x y a b = absurd a

spelled_faultless : (bytes : List ℕ) (t : Traced) → Spells bytes t → fault_of bytes ≡ None
spelled_faultless bytes t a = faultless bytes (a.short, t, a.trace, a.text)

-- what is done is not refused
pub done_or_faulty : (job : Job) (bytes : List ℕ) (one : Finished) (x y : List ℕ) → IsDone job bytes one x → IsFaulty job bytes y → ⊥
done_or_faulty (Replay form) bytes one x y (t, a, h) (f, e, l) = some_none (fault_of bytes) f e (spelled_faultless bytes t a)
done_or_faulty Print bytes one x y (t, a, h) (f, e, l) = some_none (fault_of bytes) f e (spelled_faultless bytes t a)
done_or_faulty (Run form) bytes one x y (t, a, h) (f, e, l) = some_none (fault_of bytes) f e (spelled_faultless bytes t a)
done_or_faulty (Rescue form medics) bytes one x y (t, a, h) (f, e, l) = some_none (fault_of bytes) f e (spelled_faultless bytes t a)
done_or_faulty (Poll q limit) bytes one x y (t, a, h) (f, e, l) = some_none (fault_of bytes) f e (spelled_faultless bytes t a)
done_or_faulty Tree bytes one x y (s, a, h) (f, e, l) = ok_err (script_of bytes) s f (spelled_read bytes s a) e
done_or_faulty Audit bytes one x y h (f, e, l) = some_none _ f e h.faultless
done_or_faulty Migrate bytes one x y h (f, e, l) = some_none _ f e h.allowed
done_or_faulty (Make start size) bytes one x y h b = b
done_or_faulty (Draw start size) bytes one x y h b = b

-- one status answers the bytes
pub status_same : (job : Job) (bytes : List ℕ) (m n : ℕ) (one other : Finished) (x y : List ℕ) → JobAnswers job bytes m one x → JobAnswers job bytes n other y → m ≡ n
status_same job bytes m n one other x y (inl a) (inl b) = a.0 ∙ sym b.0
status_same job bytes m n one other x y (inl a) (inr b) = absurd (done_or_faulty job bytes one x y a.1 b.2)
status_same job bytes m n one other x y (inr a) (inl b) = absurd (done_or_faulty job bytes other y x b.1 a.2)
status_same job bytes m n one other x y (inr a) (inr b) = a.0 ∙ sym b.0

-- and one text, but for a run or `tree`
pub answers_same : (job : Job) (bytes : List ℕ) (m n : ℕ) (one other : Finished) (x y : List ℕ) → is_determined job ≡ true → JobAnswers job bytes m one x → JobAnswers job bytes n other y → x ≡ y
answers_same job bytes m n one other x y e (inl a) (inl b) = done_same job bytes one other x y e a.1 b.1
answers_same job bytes m n one other x y e (inl a) (inr b) = absurd (done_or_faulty job bytes one x y a.1 b.2)
answers_same job bytes m n one other x y e (inr a) (inl b) = absurd (done_or_faulty job bytes other y x b.1 a.2)
answers_same job bytes m n one other x y e (inr a) (inr b) = faulty_same job bytes x y a.2 b.2
