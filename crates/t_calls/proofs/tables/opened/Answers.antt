use Rattle.std.proofs.Common.{◌≡◌, ◌<◌, refl, sym, ap, ◌∙◌, subst, arith, rules, true, length, inl, inr}
use Rattle.shm_graph.specs.{declared.run.Start.Start, Agents.acts, Runs.first_memo}
use Rattle.shm_plain.specs.{Pools.memo_of, Tracks.kind_next}
use Rattle.shm_client.proofs.{Passing.ready_new, QueueReady.{one_not_zero, zero_not_one}}
use Rattle.shm_client.proofs.Opens.{all_of_one, all_of_two, open_join, open_other}
use Rattle.shm_client.specs.Running.{AreOpen, IsOpen}
use Rattle.t_calls.proofs.tables.opened.Goals.{then-clients-eq2+in_ok-check, else-clients-eq2}
use Rattle.t_calls.proofs.tables.opened.Goals as goal

pub returns-clause-all : goal.returns-clause-all
returns-clause-all c =
    let p = c.in-Some.pool in
    let s = rw c.in-Some.is at c.in_ok-pool.ensures.start in
    let tables : p.start.tables ≡ true = ap (λ (z : Start). z.tables) s in
    let here : p.start.geometry ≡ c.args.geometry = ap (λ (z : Start). z.geometry) s in
    let gives = rw c.in-Some.is at c.in_ok-pool.ensures.gives in
    let work = rw c.in-Some.is at c.in_ok-pool.ensures.at_work in
    let client = rw c.in-Some.is at c.in_ok-pool.ensures.client in
    let others = rw c.in-Some.is at c.in_ok-pool.ensures.others in
    let runs = rw c.in-Some.is at c.in_ok-pool.ensures.run in
    let first : IsOpen 0 p = open_join p.start c.args.geometry 0 p _ (memo_of p 0).call tables refl gives work client in
    elim c.if-clients-eq2.branch [
      | then-clients-eq2+in_ok-check w ↦
          (let q = w.join.new.pool in
          let two : c.args.geometry.clients ≡ 2 = omega arith in
          let count : p.start.geometry.clients ≡ 2 = rw here two in
          let n : 1 < c.args.geometry.clients = omega arith in
          let low : 1 < length p.accounts = rw runs.held.accounts (rw here n) in
          let new : memo_of p 1 ≡ first_memo p.start 1 = others 1 n one_not_zero in
          let joins : w.join.result ≡ true = search rules in
          let second : IsOpen 1 q = open_join p.start p.start.geometry 1 q _ (memo_of q 1).call tables (ready_new p.start 1 p low new) (w.join.ensures.gives joins) (w.join.ensures.at_work joins) (w.join.ensures.client joins (ap acts new) (ap kind_next new)) in
          subst AreOpen (sym w.pool-is) (all_of_two q (ap (λ (z : Start). z.geometry.clients) w.join.ensures.ran.start ∙ count) (open_other 0 1 _ _ _ _ _ _ first zero_not_one w.join.ensures.ran) second))
      | else-clients-eq2 w ↦
          (let one : c.args.geometry.clients ≡ 1 = elim c.requires.few.some [ inl e ↦ e | inr e ↦ absurd (w.if-clients-eq2.false (c.clients.ensures ∙ e)) ] in
          let count : p.start.geometry.clients ≡ 1 = rw here one in
          subst AreOpen (sym w.pool-is) (all_of_one p count first))
    ]
