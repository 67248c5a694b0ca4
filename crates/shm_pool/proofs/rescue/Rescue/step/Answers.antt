use Rattle.std.proofs.Common.{◌≡◌, ◌<◌, Bool, true, arith, refl, sym, ap, ◌∙◌, subst}
use Rattle.shm_graph.specs.{declared.run.{Account.Account, Start.Start}, Runs.Stood, Whole.fits_now}
use Rattle.shm_pool.specs.{Rescues.{IsRescuing, RescuingBy, account_of}, Rules.alone, Tokens.Its}
use Rattle.shm_pool.proofs.{Rescuing.{Stepped, finished_by, rescued}, Seating.seated_on, rescue.Rescue.step.Given.Over}
use Rattle.shm_pool.proofs.rescue.Rescue.step.Goals.{After-top-2}
use Rattle.shm_pool.proofs.rescue.Rescue.step.Goals as goal

-- what the pool was made of
key : (g : Over) (c : After-top-2 g) → c.top-2.result.now.key ≡ c.args.self.now.start
key g c = c.top-2.ensures.1 ∙ sym (ap (λ (n : Its). n.start) c.requires.pool)

pub step_place-turn-requires-clause-fits : goal.step_place-turn-requires-clause-fits
step_place-turn-requires-clause-fits g c =
    let f = c.requires.rescues.1.fits c.requires.unfinished in
    (f.1, subst (λ (z : Account). fits_now g.M.Machine.control g.M.Machine.fits c.args.self.now.machine f.1 z.memo) (sym c.note_start.ensures.account) f.2)

pub returns-clause-rescues : goal.returns-clause-rescues
returns-clause-rescues g c =
    let h = (goal.at.returns-clause-rescues g c).After-top-2 in
    let M = g.M.Machine in
    let s = c.args.self.now in
    let i = c.requires.rescues in
    let e = c.step_place-turn.ensures in
    let e1 : Account = alone c.note_start.new.place in
    let e2 : Account = alone c.step_place-turn.new.place in
    let lt : 0 < c.args.life.now.left = (let z = c.if-life-eq0.false in omega arith) in (
      seated_on s.start s.who s.place c.step_place-turn.new.place i.0 e.place.2 (e.who ∙ c.note_start.ensures.who) (subst (λ (z : Start). Stood z e2) (key g h) e.stood),
      subst (λ (b : Bool). IsRescuing M.control M.fits M.gives s.start s.fell true b e2 c.step_place-turn.new.m) (sym c.is_finished-self.ensures.is)
          (rescued M.control M.fits M.gives g.met.M.Machine.laws s.start s.fell s.begun s.done (alone s.place) e1 e2 s.machine c.step_place-turn.new.m i.1 c.requires.unfinished c.note_start.ensures.account c.step_place-turn.result (e.turn lt).1 e.acts e.who),
    )

pub returns-clause-turn : goal.returns-clause-turn
returns-clause-turn g c = λ lt.
    let M = g.M.Machine in
    let h = c.step_place-turn.ensures.turn lt in
    let e2 : Account = alone c.step_place-turn.new.place in
    (h.0, refl, subst (λ (a : Account). Stepped M.control M.fits M.gives g.met.M.Machine.laws c.args.self.now.machine a e2 c.step_place-turn.result c.step_place-turn.new.m) c.note_start.ensures.account h.1)

pub returns-clause-seen : goal.returns-clause-seen
returns-clause-seen g c = λ t is lt.
    let M = g.M.Machine in
    let h = c.step_place-turn.ensures.turn lt in
    let e2 : Account = alone c.step_place-turn.new.place in
    subst (λ (x : RescuingBy _). Stepped M.control M.fits M.gives g.met.M.Machine.laws x.machine (account_of x.begun x.seat) e2 c.step_place-turn.result c.step_place-turn.new.m) is
    (subst (λ (a : Account). Stepped M.control M.fits M.gives g.met.M.Machine.laws c.args.self.now.machine a e2 c.step_place-turn.result c.step_place-turn.new.m) c.note_start.ensures.account h.1)

pub returns-clause-finished : goal.returns-clause-finished
returns-clause-finished g c =
    let M = g.M.Machine in
    let lt : 0 < c.args.life.now.left = (let z = c.if-life-eq0.false in omega arith) in
    finished_by M.control M.fits M.gives g.met.M.Machine.laws c.args.self.now.machine (alone c.note_start.new.place) (alone c.step_place-turn.new.place) c.step_place-turn.result c.step_place-turn.new.m c.requires.unfinished (c.step_place-turn.ensures.turn lt).1
