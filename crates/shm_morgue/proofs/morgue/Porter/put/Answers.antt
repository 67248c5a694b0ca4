use Rattle.std.proofs.Common.{[], length, ap, sym, ◌∙◌, subst}
use Rattle.crossbeam_queue.specs.Passes.{view}
use Rattle.shm_morgue.specs.{declared.rule.{Hands.Hands, Taken.Taken}, Entries.{Puts, Which, MayHold, entry}}
use Rattle.shm_morgue.specs.Hands.{desk, first_entries}
use Rattle.shm_morgue.proofs.{Moves.{puts_one, waits}, Seen.{same_puts, waits_alone}}
use Rattle.shm_morgue.proofs.morgue.Porter.put.Goals as goal

pub push_as-requires-clause-rule : goal.push_as-requires-clause-rule
push_as-requires-clause-rule g c =
    let p = c.self.inside.place in
    let is = c.self.invariant.view_is in
    let x : Taken = entry c.args.corpse c.self.inside.puts in (
      puts_one g.J.Pools.pools c.morgue.inside.queue.cap p.id (view p) (desk c.self.inside.client (first_entries (view p).porters)) [] [] (view p).clients (view p).doctors x is
          (c.requires.client ∙ sym (ap (λ (s : Puts). s.client) c.self.view_is)) (sym c.self.invariant.long) c.requires.pool,
      waits g.J.Pools.pools p.id (view p) (ap (λ (v : Hands). v.fresh) is),
    )

pub returns-in-Err-clause-full : goal.returns-in-Err-clause-full
returns-in-Err-clause-full g c =
    let p = c.self.inside.place in
    let full = c.in-Err.ensures.rule in
    let held = full.2 in
    let hold : MayHold g.J.Pools.pools c.self.inside.client (length (first_entries (view p).porters)) held.0 = waits_alone g.J.Pools.pools p c.self.inside.client c.self.inside.puts held.0 c.self.invariant held.2 in (
      ap (λ (t : Taken). t.corpse) full.0,
      same_puts c.push_as.new.pass p c.self.inside.client c.push_as.ensures.queue.0 full.1 ∙ c.self.view_is,
      (
        held.0,
        held.1 ∙ (c.morgue.invariant.0 ∙ ap (λ (w : Which). w.clients) c.morgue.view_is),
        subst (λ (s : Puts). MayHold g.J.Pools.pools s.client (length s.entries) held.0) c.self.view_is hold,
      ),
    )
