use Rattle.std.proofs.Common.{◌≡◌, ℕ, List, ◌++◌, ap, ◌∙◌}
use Rattle.shm_report.specs.Report.{counts_lines}
use Rattle.shm_report.proofs.texts.push_counts.Goals as goal

same_counts : (text : List ℕ) (h l r homes live refs : ℕ) → h ≡ homes → l ≡ live → r ≡ refs → text ++ counts_lines h l r ≡ text ++ counts_lines homes live refs
same_counts text h l r homes live refs a b e =
    ap (λ n. text ++ counts_lines n l r) a ∙ (ap (λ n. text ++ counts_lines homes n r) b ∙ ap (λ n. text ++ counts_lines homes live n) e)

pub returns : goal.returns
returns c = λ pool. c.in_ok-push_numbers.ensures ∙ same_counts c.args.text.now.items _ _ _ _ _ _ c.homes_in_all-homes.ensures c.of-counts.ensures.live (c.of-counts.ensures.refs pool)
