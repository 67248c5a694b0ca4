-- the word steps of a script whose life was spent
use Rattle.std.proofs.Common.{◌≡◌, ℕ, ◌+◌, Bool, false, subst, arith}
use Rattle.std.specs.Option.{is_some}
use Rattle.shm_graph.specs.Agents.{steps_made}
use Rattle.shm_plain.specs.Pools.{memo_of}
use Rattle.shm_tree.specs.{Forests.Forested, Scripts.TreeScripted}
use Rattle.shm_versions.specs.{declared.treed.Treed.Treed, TreeRuns.{IsEnding, IsTreeRun, life_of}}
use Rattle.shm_versions.proofs.Plays.{lines_spent}
use Rattle.shm_outcomes.specs.Maps.{HasSpentLife}

-- how many word steps the client of a forest has made
abbrev steps_in : Forested → ℕ
steps_in f = steps_made (memo_of f.registers.pool 0)

pub life_spent : (s : TreeScripted) (r : Treed) → IsTreeRun s r → is_some r.holding ≡ false → HasSpentLife s r.closed
life_spent s r run none =
    let p = run.played in
    let cut = subst (λ (b : Bool). IsEnding b p.rest p.last run.final p.left) none p.ending in
    let all = lines_spent p.done r.answers.items run.first p.last (life_of s) p.left p.ran in
    let last : 0 + steps_in run.final ≡ p.left + steps_in p.last = cut.ran.went.spent in
    let joined : steps_in run.first ≡ 1 = run.made.step in
    record {
      before = run.final.registers.pool;
      run = cut.ran.went.run;
      more = run.closed.turns;
      turns = run.closed.grew;
      steps = omega (arith, last, all, joined);
    }
