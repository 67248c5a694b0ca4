use Rattle.std.proofs.Common.{◌≡◌, ◌≢◌, ◌<◌, ℕ, refl, sym, ap, ◌∙◌, subst}
use Rattle.shm_words.specs.declared.geometry.Geometry.{Geometry}
use Rattle.shm_graph.specs.{declared.run.Start.Start, Runs.first_memo}
use Rattle.shm_plain.specs.Pools.{memo_of}
use Rattle.shm_client.proofs.QueueReady.{clear_join}
use Rattle.t_calls.proofs.Stands.{known_joined, stand_begun}
use Rattle.t_calls.proofs.begins.begin.Goals as goal

pub returns : goal.returns
returns c =
    let p = c.in-Some.pool in
    let who = c.in_ok-who.who in
    let start = rw c.in-Some.is at c.in_ok-pool.ensures.start in
    let gives = rw c.in-Some.is at c.in_ok-pool.ensures.gives in
    let work = rw c.in-Some.is at c.in_ok-pool.ensures.at_work in
    let client = rw c.in-Some.is at c.in_ok-pool.ensures.client in
    let others = rw c.in-Some.is at c.in_ok-pool.ensures.others in
    let here : p.start.geometry ≡ c.in_ok-geometry.geometry = ap (λ (s : Start). s.geometry) start in
    let low : (d : ℕ) → d < p.start.geometry.clients → d ≢ who → memo_of p d ≡ first_memo p.start d = λ d l n. others d (subst (λ (z : Geometry). d < z.clients) here l) n in
    stand_begun _ _ who p c.begun.result c.begun-2.result c.begun.ensures c.begun-2.ensures
    (c.clients-clients.ensures ∙ ap (λ (z : Geometry). z.clients) (sym here))
    (ap (λ (s : Start). s.tables) start)
    work.geometry
    (λ e. known_joined who p work client (clear_join p.start _ who _ (memo_of p who) (memo_of p who).call e refl gives))
    low
