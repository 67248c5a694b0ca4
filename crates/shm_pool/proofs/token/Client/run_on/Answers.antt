use Rattle.std.proofs.Common.{◌≡◌, true, false, sym, ap, ◌∙◌}
use Rattle.shm_graph.specs.{declared.ask.{Life.Life, Me.Me}, Operations.IsReady}
use Rattle.shm_pool.specs.Replies.{IsLost}
use Rattle.shm_pool.proofs.{Calling.live_here, Driving.asked, Replied.{begun, ready, replied, rested, told}}
use Rattle.shm_pool.proofs.token.Client.run_on.Goals.{After-client}
use Rattle.shm_pool.proofs.token.Client.run_on.Goals as goal

-- a client that lives is ready
is_ready : (g : _) (c : After-client g) → c.args.self.now.dead ≡ false → IsReady (g.O.Machine.control.me c.args.operation.now) c.args.self.now.account.memo
is_ready g c alive = ready c.args.self.now.of c.args.self.now.account c.client.ensures.stood (c.requires.between alive).idle (g.O.Machine.control.me c.args.operation.now) c.requires.me

pub drive-requires-clause-machine : goal.drive-requires-clause-machine
drive-requires-clause-machine g c = λ alive.
    let l = g.met.O.Operation.operates in
    let between = c.requires.between alive in
    (c.requires.me, l.asks c.args.operation.now c.args.self.now.account.memo (c.requires.may alive), (λ first. between.over), live_here c.args.self.now.account.memo between.idle.live)

pub drive-requires-clause-fits : goal.drive-requires-clause-fits
drive-requires-clause-fits g c =
    begun g.O.Machine.control g.O.Machine.fits g.O.Machine.gives g.O.Operation.may g.O.Operation.does g.O.Operation.leaves g.O.Operation.rests g.met.O.Operation.operates c.args.operation.now c.args.self.now.account c.args.self.now.account c.args.self.now.dead (is_ready g (goal.at.drive-requires-clause-fits g c).After-client) c.requires.may

pub returns-clause-done : goal.returns-clause-done
returns-clause-done g c =
    let O = g.O.Operation in
    let M = g.O.Machine in
    let h = c.drive.ensures in
    let e = c.args.self.now.account in
    let q = c.drive.new.self.account in
    let dead = c.args.self.now.dead in
    let o = c.drive.result in
    let is = is_ready g (goal.at.returns-clause-done g c).After-client in
    let l = g.met.O.Operation.operates in
    let lost : dead ≡ true → IsLost o = λ d. (h.again d).0 in
    let left = replied M.control M.fits M.gives O.may O.does O.leaves O.rests l c.args.operation.now e q dead is c.requires.may o lost h.gives in
    let once = told M.control M.fits M.gives O.may O.does O.leaves O.rests l c.args.operation.now e q dead is c.requires.may o lost h.told in record {
      same = h.same;
      stood = h.stood;
      died = h.died;
      again = λ d. let y = h.again d in (y.0, y.1, ap (λ (x : Life). x.left) y.3);
      spent = h.spent;
      call = λ alive. (h.call alive).call;
      events = λ alive. let d = (h.call alive).driven in record { steps = d.steps; made = d.made; events = d.events O.does l.tells };
      asked = λ alive. asked M.control M.fits c.args.operation.now c.drive.new.m e q c.args.life.now.left c.drive.new.life.left o (l.fresh c.args.operation.now e.memo (c.requires.may alive)) (h.call alive);
      told = once;
      left_so = left;
      between = rested M.control M.fits M.gives O.may O.does O.leaves O.rests l c.args.operation.now e q dead is c.requires.may o lost left once (ap (λ (x : Me). x.who) c.requires.me ∙ sym h.same.1);
    }
