use Rattle.std.proofs.Common.{◌≡◌, sym, ap, ◌∙◌, subst}
use Rattle.shm_graph.specs.Whole.{fits_now}
use Rattle.shm_plain.specs.{declared.track.Track.Track, ManySteps.stop_of}
use Rattle.shm_plain.specs.Pools.{Pool, pool, memo_of, IsRun, IsOf, MayStep, readied}
use Rattle.shm_plain.proofs.{Calling.went_first, ManySteps.{IsAt, ends, has_stopped, may_run, on_pool}}
use Rattle.shm_plain.proofs.pool.PlainPool.steps.{Given.Over, Goals.{After-note_steps, After-run}}
use Rattle.shm_plain.proofs.pool.PlainPool.steps.Goals as goal

-- ---- before the first word step

module _ (g : Over) (c : After-note_steps g) where
  abbrev p : Pool
  p = pool c.self.inside.start c.self.inside.words.items c.self.inside.place.me.0.accounts c.self.inside.place.me.0.turns

  is : p ≡ c.args.self.now
  is = c.self.view_is

  of : IsOf p c.args.who g.M.Machine.control c.args.m.now
  of = subst (λ (z : Pool). IsOf z c.args.who g.M.Machine.control c.args.m.now) (sym is) c.requires.me

  fit : fits_now g.M.Machine.control g.M.Machine.fits c.args.m.now c.requires.fits.0 (memo_of (readied p c.args.who) c.args.who)
  fit = subst (λ (z : Pool). fits_now g.M.Machine.control g.M.Machine.fits c.args.m.now c.requires.fits.0 (memo_of (readied z c.args.who) c.args.who)) (sym is) c.requires.fits.1

  at : IsAt g.M.Machine.control g.M.Machine.fits g.M.Machine.gives c.args.who p c.args.m.now c.args.life.now.left p c.args.m.now c.args.life.now.left
  at = (c.self.invariant.3, went_first g.M.Machine.control g.M.Machine.fits g.M.Machine.gives c.args.who p c.args.m.now c.args.life.now.left of (subst (λ (z : Pool). MayStep z c.args.who) (sym is) c.requires.agent))

pub run-requires : goal.run-requires
run-requires g c =
    let b = (goal.at.run-requires g c).After-note_steps in
    let M = g.M.Machine in
    may_run M.control M.fits M.gives c.args.who (p g b) c.args.m.now c.args.life.now.left g.met.M.Machine.laws (of g b) c.requires.fits.0 (fit g b) c.args.life.now.left c.args.m.now
    c.self.inside.start c.self.inside.words c.self.inside.place.me.0 (at g b)

-- ---- after the last one

stopped : (g : Over) (c : After-run g) → on_pool g.M.Machine.control c.args.who c.self.inside.start c.note_steps.new.place.me.0 (record { left = c.run.new.life.left; machine = c.run.new.self; words = c.run.new.words; turn = c.run.result })
    ≡ stop_of g.M.Machine.control c.args.who c.args.life.now.left c.args.m.now (p g (goal.at.After-run g c).After-note_steps)
stopped g c =
    let M = g.M.Machine in
    ap (λ (r : Track). on_pool M.control c.args.who c.self.inside.start r (record { left = c.run.new.life.left; machine = c.run.new.self; words = c.run.new.words; turn = c.run.result })) c.note_steps.ensures.1
    ∙ has_stopped M.control c.args.who c.self.inside.start c.args.life.now.left c.args.m.now c.self.inside.words c.self.inside.place.me.0
    (record { left = c.run.new.life.left; machine = c.run.new.self; words = c.run.new.words; turn = c.run.result }) c.run.ensures

ran : (g : Over) (c : After-run g) → IsRun (pool c.self.inside.start c.run.new.words.items c.note_steps.new.place.me.0.accounts c.note_steps.new.place.me.0.turns)
ran g c =
    let b = (goal.at.After-run g c).After-note_steps in
    let M = g.M.Machine in
    subst (λ z. IsRun z.words) (sym (stopped g c))
    (ends M.control M.fits M.gives c.args.who (p g b) c.args.m.now c.args.life.now.left g.met.M.Machine.laws (of g b) c.requires.fits.0 (fit g b) c.args.life.now.left c.args.m.now (p g b) (at g b)).ran.run

pub invariant_of-self : goal.invariant_of-self
invariant_of-self g c = (c.note_steps.ensures.2 ∙ c.self.invariant.0, c.note_steps.ensures.0 ∙ c.self.invariant.1, c.self.invariant.2, ran g (goal.at.invariant_of-self g c).After-run)

pub returns-clause-run : goal.returns-clause-run
returns-clause-run g c = ran g (goal.at.returns-clause-run g c).After-run

pub returns-clause-stop : goal.returns-clause-stop
returns-clause-stop g c =
    let M = g.M.Machine in
    subst (λ (z : Pool). on_pool M.control c.args.who c.self.inside.start c.note_steps.new.place.me.0 (record { left = c.run.new.life.left; machine = c.run.new.self; words = c.run.new.words; turn = c.run.result }) ≡ stop_of M.control c.args.who c.args.life.now.left c.args.m.now z)
    c.self.view_is (stopped g (goal.at.returns-clause-stop g c).After-run)
