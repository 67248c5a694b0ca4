-- the image of a closed pool: its words, what is answered to it, and the report's last line
use Rattle.std.proofs.Common.{◌≡◌, ℕ, ◌<◌, ◌≤◌, ◌^◌, List, [], ◌++◌, get_or, append_assoc, sym, subst, ap, ◌∙◌, inl, inr, refl, lit<}
use Rattle.std.proofs.lemmas.{Bool.cases_lt, List.get_or_past}
use Rattle.std.specs.{Prelude.{Option, None, Some, codes}, Fmt.decimal, List.flat_map}
use Rattle.shm_words.specs.{declared.geometry.Geometry.Geometry, Layout.total_of}
use Rattle.shm_graph.specs.{declared.{run.Account.Account, table.Entry.Entry}, Blocks.{classes, headers}}
use Rattle.shm_graph.specs.{References.{homes_in_all, live_count, references, references_in_all}, Runs.Held}
use Rattle.shm_graph.specs.Spots.{classes_in, see, spot_at}
use Rattle.shm_graph.proofs.Spots.Seeing.{see-spot}
use Rattle.shm_audit.specs.{declared.fault.ImageFault.ImageFault, Faults.image_fault_of}
use Rattle.shm_audit.specs.{Images.{geometry_in, image_of, words_in}, Texts.verdict_line}
use Rattle.shm_audit.specs.Verdicts.{clean_verdict, verdict_of}
use Rattle.shm_audit.proofs.{CleanImages.{image_faultless, image_verdict}, ReadingBack.AreWords}
use Rattle.shm_plain.specs.{Closings.IsClosedRun, Pools.Pool}
use Rattle.shm_replay.proofs.SameReplays.{replay_same}
use Rattle.shm_report.specs.Logs.{line_end, log_text}
use Rattle.shm_report.specs.Report.{named_from, row_line, rows_below, table_line, value_lines}
use Rattle.shm_script.specs.{Logged.Logged, Values.Traced}
use Rattle.shm_versions.specs.RunTexts.{last_line}
use Rattle.shm_program.specs.declared.{outcome.Finished.Finished, words.Form.TheVariants.Report}
use Rattle.shm_program.specs.{declared.words.Job.TheVariants.Audit, Outcomes.JobAnswers}
use Rattle.shm_program.specs.Replays.{IsRan, IsTold, written}

-- each word of a pool whose state holds is below 2 ^ 64
words_small : (g : Geometry) (ws : List ℕ) (es : List Account) → Held g ws es → (i : ℕ) → get_or ws i 0 < 2 ^ 64
words_small g ws es h i =
    elim (cases_lt i (total_of g)) [
      | inl l ↦ subst (λ x. x < 2 ^ 64) (see-spot g ws i l) (h.at.small (spot_at g (classes_in g ws) i))
      | inr m ↦ subst (λ x. x < 2 ^ 64) (sym (get_or_past ws i 0 (subst (λ n. n ≤ i) (sym h.words) m))) (lit< tt)
    ]

-- ---- the report's last line

-- the texts behind the number of homes and its line end are the end of the whole text
regroup : (logs rows homes number ended live blocks refs words : List ℕ) → (front : List ℕ) × (logs ++ (rows ++ (homes ++ number ++ ended ++ live ++ blocks ++ refs ++ words ++ ended)) ≡ front ++ (live ++ blocks ++ refs ++ words ++ ended))
regroup logs rows homes number ended live blocks refs words = (logs ++ (rows ++ (homes ++ number ++ ended)), simp append_assoc refl)

-- whatever logs it tells
written_ends : (p : Pool) (table : ℕ → ℕ → List Entry) (ls : List Logged) → (front : List ℕ) × (written Report p.start.geometry p.words table ls ≡ front ++ last_line p)
written_ends p table ls =
    let g = p.start.geometry in
    let w = see g p.words in
    let rows = rows_below g.clients table in
    let named = named_from [] rows in
    regroup (flat_map log_text ls) (table_line rows ++ flat_map (row_line named) rows ++ value_lines (λ v. (headers w v).count) 1 named)
    (codes "homes ") (decimal (homes_in_all g w)) line_end (codes "live ") (decimal (live_count g w)) (codes " refs ") (decimal (references_in_all g (classes w) (references g.wide w)))

-- the text of a report ends so
pub text_ends : (p : Pool) (table : ℕ → ℕ → List Entry) (ls : List Logged) (text : List ℕ) → text ≡ written Report p.start.geometry p.words table ls → (front : List ℕ) × (text ≡ front ++ last_line p)
text_ends p table ls text e = let ends = written_ends p table ls in (ends.0, e ∙ ends.1)

-- whichever replay of the trace it is the report of
pub report_ends : (t : Traced) (finished other : Finished) (report : List ℕ) (r : IsRan t finished) → IsTold Report t other report → (front : List ℕ) × (report ≡ front ++ last_line r.run.closed)
report_ends t finished other report r (q, told) =
    let ends = text_ends q.run.closed q.replay.table q.run.logs.items report told in
    let same = (replay_same t q.run.closed r.run.closed q.run.logs.items r.run.logs.items q.replay r.replay).0 in
    (ends.0, ends.1 ∙ ap (λ (p : Pool). ends.0 ++ last_line p) same)

-- ---- what is answered to the image of a closed pool

module _ (p : Pool) (closed : IsClosedRun p) (image : List ℕ) (is : image ≡ image_of p.start.geometry p.words) where
  abbrev g : Geometry
  g = p.start.geometry

  abbrev ws : List ℕ
  ws = p.words

  small : AreWords ws
  small = words_small g ws p.accounts closed.run.held

  pub faultless_image : image_fault_of image ≡ None
  faultless_image = ap image_fault_of is ∙ image_faultless g ws closed.run.held.at.fits small closed.clean closed.run.held.words

  verdict_told : verdict_of (geometry_in image) (see (geometry_in image) (words_in image)) ≡ clean_verdict g (see g ws)
  verdict_told = ap (λ (bytes : List ℕ). verdict_of (geometry_in bytes) (see (geometry_in bytes) (words_in bytes))) is ∙ image_verdict g ws closed.run.held.at.fits small closed.clean

  pub clean_answer : (ended : Finished) (text : List ℕ) (status : ℕ) → JobAnswers Audit image status ended text → (status ≡ 0) × (text ≡ codes "clean " ++ last_line p)
  clean_answer ended text status (inl (s, d)) = (s, d.verdict ∙ ap verdict_line verdict_told)
  clean_answer ended text status (inr refused) =
      let e : ◌≡◌ {A = Option ImageFault} None (Some refused.2.0) = sym faultless_image ∙ refused.2.1 in
      cc
