use Rattle.std.proofs.Common.{◌≡◌, ◌<◌, ◌==◌, cond, sym, ap, ◌∙◌, arith, get_or}
use Rattle.shm_graph.specs.{declared.spot.Spot.TheVariants.Home, Spots.see, References.{sum_below, homes_in_all}}
use Rattle.shm_graph.proofs.Spots.Summing.{sum_up, sum_same}
use Rattle.shm_report.proofs.PoolReading.{counts_one, counts_none, home_word}
use Rattle.shm_report.proofs.pool_words.homes_in_all.Goals.{then-word-ne0, else-word-ne0}
use Rattle.shm_report.proofs.pool_words.homes_in_all.Goals as goal

pub loop-c-preserved : goal.loop-c-preserved
loop-c-preserved c =
    let l : c.loop-c.c < c.args.geometry.clients = omega arith in
    let h : c.word.result ≡ see c.args.geometry c.args.words.now (Home c.loop-c.c) =
    c.word.ensures ∙ (ap (λ a. get_or c.args.words.now a 0) c.home.ensures ∙ sym (home_word c.args.geometry c.args.words.now c.loop-c.c c.requires l)) in
    elim c.if-word-ne0.branch [
      | then-word-ne0 w ↦ (omega arith, sum_up _ _ _ _ c.loop-c.invariant.1 w.homes-is (counts_one _ (λ e. w.if-word-ne0.true (h ∙ e))))
      | else-word-ne0 w ↦ (omega arith, sum_same _ _ _ _ c.loop-c.invariant.1 w.homes-is (counts_none _ (sym h ∙ w.if-word-ne0.false)))
    ]

pub returns : goal.returns
unfolding homes_in_all
returns c =
    let e : c.loop-c.c ≡ c.args.geometry.clients = omega arith in
    c.loop-c.invariant.1 ∙ ap (λ n. sum_below n (λ d. cond (see c.args.geometry c.args.words.now (Home d) == 0) 0 1)) e
