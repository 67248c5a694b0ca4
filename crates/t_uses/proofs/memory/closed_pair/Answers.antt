use Rattle.std.proofs.{Common.{◌≡◌, ◌<◌, ℕ, refl, sym, ap, ◌∙◌, subst, rules, Ok, Some, inl, inr}, lemmas.Bool.cases_eq}
use Rattle.shm_graph.specs.declared.{memo.{Memo.Memo, Status.TheVariants.Gone}, run.Start.Start}
use Rattle.shm_plain.specs.Pools.{memo_of}
use Rattle.shm_client.proofs.QueueReady.{clear_join}
use Rattle.t_uses.proofs.memory.closed_pair.Goals as goal

pub make_pair-requires : goal.make_pair-requires
make_pair-requires c =
    let p = c.in_ok-pool.pool in
    let e : c.joined.result ≡ Ok (Some p) = search rules in
    let tables = ap (λ (s : Start). s.tables) (rw e at c.joined.ensures.start) in
    record {
      free = record {
        work = rw e at c.joined.ensures.at_work;
        run = rw e at c.joined.ensures.run;
        client = rw e at c.joined.ensures.client;
        clear = clear_join p.start _ 0 _ (memo_of p 0) (memo_of p 0).call tables refl (rw e at c.joined.ensures.gives);
      };
    }

pub close-requires : goal.close-requires
close-requires c = λ d l.
    let p = c.in_ok-pool.pool in
    let e : c.joined.result ≡ Ok (Some p) = search rules in
    let start = c.leave.ensures.ran.start ∙ (c.make_pair.ensures.ran.start ∙ (rw e at c.joined.ensures.start)) in
    elim (cases_eq d 0) [
      | inl z ↦ inr (subst (λ (i : ℕ). (memo_of c.leave.new.pool i).status ≡ Gone) (sym z) c.in_ok-leave.ensures.gone)
      | inr n ↦
          (let low : d < c.args.geometry.clients = subst (λ (s : Start). d < s.geometry.clients) start l in
          inl (ap (λ (m : Memo). m.status) (c.leave.ensures.ran.others d n ∙ (c.make_pair.ensures.ran.others d n ∙ (rw e at c.joined.ensures.others) d low n))))
    ]
