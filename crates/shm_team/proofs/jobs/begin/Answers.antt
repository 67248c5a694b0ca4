use Rattle.std.proofs.Common.{◌≡◌, ◌<◌, length, sym, ap, ◌∙◌, subst, true, arith}
use Rattle.std.specs.List.{AllByRecursion}
use Rattle.shm_words.specs.declared.geometry.Geometry.{Geometry}
use Rattle.shm_pool.specs.Tokens.{Token, first_tokens}
use Rattle.shm_team.proofs.Gathering.{first_many, first_who}
use Rattle.shm_team.proofs.jobs.begin.Goals as goal

pub all_jobs-requires-clause-who : goal.all_jobs-requires-clause-who
all_jobs-requires-clause-who g c =
    let n = c.geometry_of-geometry.result.clients in
    let m = c.args.trace.now.clients in
    let clients : n ≡ m = ap (λ (z : Geometry). z.clients) c.geometry_of-geometry.ensures.geometry in
    subst (AllByRecursion (λ (k : Token). k.account.who < m)) (sym c.in_ok-pool.ensures.tokens) (first_who c.in_ok-pool.pool m 0 n (omega arith))

pub returns-clause-start : goal.returns-clause-start
returns-clause-start g c = c.in_ok-pool.ensures.start ∙ ap (λ (z : Geometry). record { geometry = z; first_era = 1; tables = true }) c.geometry_of-geometry.ensures.geometry

pub returns-clause-many : goal.returns-clause-many
returns-clause-many g c =
    c.in_ok-jobs.ensures.many ∙ (ap length c.in_ok-pool.ensures.tokens ∙ (first_many c.in_ok-pool.pool 0 c.geometry_of-geometry.result.clients ∙ ap (λ (z : Geometry). z.clients) c.geometry_of-geometry.ensures.geometry))

pub returns-clause-jobs : goal.returns-clause-jobs
returns-clause-jobs g c =
    c.in_ok-jobs.ensures.jobs c.in_ok-pool.pool
    (c.in_ok-pool.ensures.tokens ∙ ap (first_tokens c.in_ok-pool.pool 0) (ap (λ (z : Geometry). z.clients) c.geometry_of-geometry.ensures.geometry))
    (c.in_ok-pool.ensures.start ∙ ap (λ (z : Geometry). record { geometry = z; first_era = 1; tables = true }) c.geometry_of-geometry.ensures.geometry)
