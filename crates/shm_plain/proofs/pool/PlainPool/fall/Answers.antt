use Rattle.std.proofs.Common.{◌≡◌, ◌<◌, sym, ◌∙◌, subst}
use Rattle.shm_plain.specs.{declared.track.Track.Track, Pools.{Pool, pool, IsRun}}
use Rattle.shm_plain.proofs.{Turning.fall_run, pool.PlainPool.fall.Goals.After-note_death}
use Rattle.shm_plain.proofs.pool.PlainPool.fall.Goals as goal

ran : (c : After-note_death) → IsRun (pool c.self.inside.start c.self.inside.words.items c.note_death.new.place.me.0.accounts c.note_death.new.place.me.0.turns)
ran c =
    let f = c.self.inside in
    let p : Pool = pool f.start f.words.items f.place.me.0.accounts f.place.me.0.turns in
    let is : p ≡ c.args.self.now = c.self.view_is in
    let l : c.args.who < p.start.geometry.clients = subst (λ (z : Pool). c.args.who < z.start.geometry.clients) (sym is) c.requires in
    subst (λ (z : Track). IsRun (pool f.start f.words.items z.accounts z.turns)) (sym c.note_death.ensures.1) (fall_run p c.args.who c.self.invariant.3 l)

pub invariant_of-self : goal.invariant_of-self
invariant_of-self c = (c.note_death.ensures.2 ∙ c.self.invariant.0, c.note_death.ensures.0 ∙ c.self.invariant.1, c.self.invariant.2, ran c)

pub returns-clause-run : goal.returns-clause-run
returns-clause-run c = ran c
