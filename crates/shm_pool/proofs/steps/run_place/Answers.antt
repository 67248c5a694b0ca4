use Rattle.std.proofs.{Common.{◌≡◌, ◌≢◌, ◌<◌, [], refl, sym, ap, ◌∙◌, subst, arith}, lemmas.Bool.true≢false}
use Rattle.std.proofs.lemmas.List.{append-nil}
use Rattle.std.specs.Prelude.{Some, None}
use Rattle.shm_graph.specs.declared.{ask.{Life.Life, Turn.TheVariants.More}, run.Account.Account}
use Rattle.shm_graph.proofs.Machines.Composing.{none_of, some_of}
use Rattle.shm_pool.specs.Rules.{IsAlone, alone}
use Rattle.shm_pool.proofs.Running.{Between, HasEnded, IsLed, at_first, ends_short, ends_with, further, has_ended, may_run}
use Rattle.shm_pool.proofs.steps.run_place.Given.{Over}
use Rattle.shm_pool.proofs.steps.run_place.Goals.{After-step_place, In-More, In-Done, In-Died, After-answered}
use Rattle.shm_pool.proofs.steps.run_place.Goals as goal

-- ---- before the first word step

first : (g : Over) (c : After-step_place g) → Between g.M.Machine.control g.M.Machine.fits g.M.Machine.gives c.args.top.now.key c.args.m.now (alone c.args.place.now) c.args.life.now.left c.args.life.now.left c.args.m.now (alone c.args.place.now)
first g c = at_first g.M.Machine.control g.M.Machine.fits g.M.Machine.gives c.args.top.now.key g.met.M.Machine.laws c.args.m.now (alone c.args.place.now) c.args.life.now.left c.requires.me c.requires.stood c.requires.fits

-- ---- the first word step was the last one

done : (g : Over) (c : In-Done g) → HasEnded g.M.Machine.control g.M.Machine.fits g.M.Machine.gives c.args.top.now.key c.args.m.now (alone c.args.place.now) c.args.life.now.left c.step_place.new.life.left c.step_place.new.m (alone c.step_place.new.place) (Some c.in-Done.answer)
done g c =
    let M = g.M.Machine in
    let ne : c.args.life.now.left ≢ 0 = (λ z. true≢false (sym (c.in-Done.ensures.died.1 z))) in
    let lt : 0 < c.args.life.now.left = omega arith in
    let k = c.in-Done.ensures.turn lt in
    ends_with M.control M.fits M.gives c.args.top.now.key g.met.M.Machine.laws c.args.m.now (alone c.args.place.now) c.args.life.now.left c.args.life.now.left c.step_place.new.life.left c.args.m.now (alone c.args.place.now) c.step_place.new.m (alone c.step_place.new.place) c.in-Done.answer
    (first g (goal.at.In-Done g c).After-step_place) (record { stood = c.step_place.ensures.stood; step = k.1 }) k.0 (some_of (M.control.turns c.args.m.now k.1.seen) c.in-Done.answer (sym k.1.turn))

pub returns-in-Done-clause-call : goal.returns-in-Done-clause-call
returns-in-Done-clause-call g c = (done g (goal.at.returns-in-Done-clause-call g c).In-Done).call

pub returns-in-Done-clause-told : goal.returns-in-Done-clause-told
returns-in-Done-clause-told g c = (done g (goal.at.returns-in-Done-clause-told g c).In-Done).told

pub returns-in-Done-clause-gives : goal.returns-in-Done-clause-gives
returns-in-Done-clause-gives g c = (done g (goal.at.returns-in-Done-clause-gives g c).In-Done).gave

-- ---- no life was left before

died : (g : Over) (c : In-Died g) → HasEnded g.M.Machine.control g.M.Machine.fits g.M.Machine.gives c.args.top.now.key c.args.m.now (alone c.args.place.now) c.args.life.now.left c.step_place.new.life.left c.step_place.new.m (alone c.step_place.new.place) None
died g c =
    let M = g.M.Machine in
    let s = c.in-Died.ensures.stays refl in
    let none : c.args.life.now.left ≡ 0 = c.in-Died.ensures.died.0 refl in
    let ended = HasEnded M.control M.fits M.gives c.args.top.now.key c.args.m.now (alone c.args.place.now) c.args.life.now.left in
    subst (λ (e : Account). ended c.step_place.new.life.left c.step_place.new.m e None) (sym s.0)
    (subst (λ (l : Life). ended l.left c.step_place.new.m (alone c.args.place.now) None) (sym s.2)
    (subst (λ m. ended c.args.life.now.left m (alone c.args.place.now) None) (sym s.1)
    (ends_short M.control M.fits M.gives c.args.top.now.key g.met.M.Machine.laws c.args.m.now (alone c.args.place.now) c.args.life.now.left c.args.life.now.left c.args.m.now (alone c.args.place.now) none (first g (goal.at.In-Died g c).After-step_place))))

pub returns-in-Died-clause-call : goal.returns-in-Died-clause-call
returns-in-Died-clause-call g c = (died g (goal.at.returns-in-Died-clause-call g c).In-Died).call

pub returns-in-Died-clause-serves : goal.returns-in-Died-clause-serves
returns-in-Died-clause-serves g c = (died g (goal.at.returns-in-Died-clause-serves g c).In-Died).serves

pub returns-in-Died-clause-there : goal.returns-in-Died-clause-there
returns-in-Died-clause-there g c = (died g (goal.at.returns-in-Died-clause-there g c).In-Died).there

pub returns-in-Died-clause-cut : goal.returns-in-Died-clause-cut
returns-in-Died-clause-cut g c = (died g (goal.at.returns-in-Died-clause-cut g c).In-Died).cut

-- ---- the others

-- the first word step was made, and the machine goes on
begun : (g : Over) (c : In-More g) → Between g.M.Machine.control g.M.Machine.fits g.M.Machine.gives c.args.top.now.key c.args.m.now (alone c.args.place.now) c.args.life.now.left c.step_place.new.life.left c.step_place.new.m (alone c.step_place.new.place)
    × IsLed g.M.Machine.control g.M.Machine.fits g.M.Machine.gives c.args.top.now.key c.args.place.now c.step_place.new.m (alone c.step_place.new.place).memo.call c.step_place.new.m c.step_place.new.place
begun g c =
    let M = g.M.Machine in
    let ne : c.args.life.now.left ≢ 0 = (λ z. true≢false (sym (c.in-More.ensures.died.1 z))) in
    let lt : 0 < c.args.life.now.left = omega arith in
    let k = c.in-More.ensures.turn lt in (
      further M.control M.fits M.gives c.args.top.now.key g.met.M.Machine.laws c.args.m.now (alone c.args.place.now) c.args.life.now.left c.args.life.now.left c.step_place.new.life.left c.args.m.now (alone c.args.place.now) More c.step_place.new.m (alone c.step_place.new.place)
          (first g (goal.at.In-More g c).After-step_place) (record { stood = c.step_place.ensures.stood; step = k.1 }) k.0 (none_of (M.control.turns c.args.m.now k.1.seen) (sym k.1.turn)),
      record {
        place = c.step_place.ensures.place;
        started = ap M.control.fresh k.1.next ∙ (g.met.M.Machine.laws.steady c.args.m.now k.1.seen c.requires.me.2).started;
        tr = [];
        call = sym (append-nil _);
        leads = refl;
      },
    )

pub run_as-requires : goal.run_as-requires
run_as-requires g c =
    let M = g.M.Machine in
    let b = begun g (goal.at.run_as-requires g c).In-More in
    may_run M.control M.fits M.gives c.args.top.now.key g.met.M.Machine.laws c.args.top.now.table_id c.args.place.now c.args.m.now (alone c.args.place.now) c.args.life.now.left c.requires.table.0 c.requires.table.1 c.step_place.new.m (alone c.step_place.new.place).memo.call c.step_place.new.life.left c.step_place.new.m c.step_place.new.place b.0 b.1

ran : (g : Over) (c : After-answered g) → HasEnded g.M.Machine.control g.M.Machine.fits g.M.Machine.gives c.args.top.now.key c.args.m.now (alone c.args.place.now) c.args.life.now.left c.run_as.new.life.left c.run_as.new.m (alone c.run_as.new.place) c.answered.result
    × ((c.run_as.new.place.table_id ≡ c.args.place.now.table_id) × (c.run_as.new.place.id ≡ c.args.place.now.id) × IsAlone c.run_as.new.place)
ran g c =
    let M = g.M.Machine in
    let b = begun g (goal.at.After-answered g c).In-More in
    let x = has_ended M.control M.fits M.gives c.args.top.now.key g.met.M.Machine.laws c.args.top.now.table_id c.args.place.now c.args.m.now (alone c.args.place.now) c.args.life.now.left c.requires.table.0 c.requires.table.1 c.step_place.new.m (alone c.step_place.new.place).memo.call c.step_place.new.life.left c.step_place.new.m c.step_place.new.place
    (record { left = c.run_as.new.life.left; machine = c.run_as.new.m; words = c.run_as.new.place; turn = c.run_as.result }) b.0 b.1 c.run_as.ensures in
    (subst (λ o. HasEnded M.control M.fits M.gives c.args.top.now.key c.args.m.now (alone c.args.place.now) c.args.life.now.left c.run_as.new.life.left c.run_as.new.m (alone c.run_as.new.place) o) (sym c.answered.ensures) x.0, x.1)

pub returns-in-More-clause-place : goal.returns-in-More-clause-place
returns-in-More-clause-place g c = (ran g (goal.at.returns-in-More-clause-place g c).After-answered).1

pub returns-in-More-clause-stood : goal.returns-in-More-clause-stood
returns-in-More-clause-stood g c = (ran g (goal.at.returns-in-More-clause-stood g c).After-answered).0.stood

pub returns-in-More-clause-call : goal.returns-in-More-clause-call
returns-in-More-clause-call g c = (ran g (goal.at.returns-in-More-clause-call g c).After-answered).0.call

pub returns-in-More-clause-cut : goal.returns-in-More-clause-cut
returns-in-More-clause-cut g c = (ran g (goal.at.returns-in-More-clause-cut g c).After-answered).0.cut

pub returns-in-More-clause-told : goal.returns-in-More-clause-told
returns-in-More-clause-told g c = (ran g (goal.at.returns-in-More-clause-told g c).After-answered).0.told

pub returns-in-More-clause-spent : goal.returns-in-More-clause-spent
returns-in-More-clause-spent g c = (ran g (goal.at.returns-in-More-clause-spent g c).After-answered).0.spent

pub returns-in-More-clause-gives : goal.returns-in-More-clause-gives
returns-in-More-clause-gives g c = (ran g (goal.at.returns-in-More-clause-gives g c).After-answered).0.gave

pub returns-in-More-clause-acts : goal.returns-in-More-clause-acts
returns-in-More-clause-acts g c = (ran g (goal.at.returns-in-More-clause-acts g c).After-answered).0.acts

pub returns-in-More-clause-serves : goal.returns-in-More-clause-serves
returns-in-More-clause-serves g c = (ran g (goal.at.returns-in-More-clause-serves g c).After-answered).0.serves

pub returns-in-More-clause-there : goal.returns-in-More-clause-there
returns-in-More-clause-there g c = (ran g (goal.at.returns-in-More-clause-there g c).After-answered).0.there

pub returns-in-More-clause-who : goal.returns-in-More-clause-who
returns-in-More-clause-who g c = (ran g (goal.at.returns-in-More-clause-who g c).After-answered).0.who

pub returns-in-More-clause-kind : goal.returns-in-More-clause-kind
returns-in-More-clause-kind g c = (ran g (goal.at.returns-in-More-clause-kind g c).After-answered).0.kind
