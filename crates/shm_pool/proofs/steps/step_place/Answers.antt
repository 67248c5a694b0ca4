use Rattle.shm_graph.specs.{Agents.{acts, recovers}, declared.run.Account.Account, Laws.{is_died, step_of}}
use Rattle.shm_graph.specs.Whole.{fits_now, gives_now}
use Rattle.std.proofs.Common.{◌≡◌, false, true, cond, sym, ap, ◌∙◌, subst, arith, true≢false}
use Rattle.shm_pool.specs.{Rules.alone, Calls.ClientStepped, Sites.last_word, Tokens.has_left}
use Rattle.shm_pool.proofs.{Calling.{acts_stepped, kind_same, never_died, serves_on}, steps.step_place.Given.Over}
use Rattle.shm_pool.proofs.steps.step_place.Goals.{After-act_place}
use Rattle.shm_pool.proofs.steps.step_place.Goals as goal

stepped : (g : Over) (c : After-act_place g) → let M = g.M.Machine in ClientStepped M.control (fits_now M.control M.fits) (gives_now M.gives) c.args.m.now (alone c.args.place.now) (alone c.act_place.new.place) c.act_place.result c.act_place.new.m
stepped g c = let t = c.act_place.ensures.told in record {
  seen = last_word c.act_place.new.place;
  account = t.0;
  next = c.act_place.ensures.machine;
  turn = c.act_place.ensures.turn;
  made = t.3;
  suits = t.1;
}

pub returns-clause-turn : goal.returns-clause-turn
returns-clause-turn g c = λ h. (omega arith, stepped g (goal.at.returns-clause-turn g c).After-act_place)

pub returns-clause-stays : goal.returns-clause-stays
returns-clause-stays g c = λ d. absurd (true≢false (sym d ∙ (ap is_died c.act_place.ensures.turn ∙ never_died (g.M.Machine.control.turns c.args.m.now (last_word c.act_place.new.place)))))

pub returns-clause-kind : goal.returns-clause-kind
returns-clause-kind g c = let M = g.M.Machine in ap (λ (e : Account). recovers e.memo) c.act_place.ensures.told.0 ∙ kind_same (alone c.args.place.now) (step_of M.control c.args.m.now (last_word c.act_place.new.place))

pub returns-clause-acts : goal.returns-clause-acts
returns-clause-acts g c = let M = g.M.Machine in
    acts_stepped M.control (fits_now M.control M.fits) (gives_now M.gives) g.met.M.Machine.laws.steady c.args.m.now (alone c.args.place.now) (alone c.act_place.new.place) c.act_place.result c.act_place.new.m c.requires.me.2 c.requires.me.3 (stepped g (goal.at.returns-clause-acts g c).After-act_place)

pub returns-clause-serves : goal.returns-clause-serves
returns-clause-serves g c = λ lives. let M = g.M.Machine in
    subst (λ (e : Account). acts e.memo ≡ cond (has_left e.memo) false true) (sym c.act_place.ensures.told.0) (serves_on (alone c.args.place.now) (step_of M.control c.args.m.now (last_word c.act_place.new.place)) c.requires.me.3)
