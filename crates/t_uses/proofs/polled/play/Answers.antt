use Rattle.std.proofs.Common.{◌≡◌, ℕ, ◌+◌, ◌*◌, inl, inr, ap, arith}
use Rattle.t_uses.proofs.Polls.{polling_cut, polling_done, polling_first, polling_on}
use Rattle.t_uses.proofs.polled.play.Goals as goal

pub loop-init : goal.loop-init
loop-init c = polling_first c.args.pool.now c.args.token c.args.script.now c.args.q (c.args.q * 0) c.in_ok-future.future (omega arith) c.requires.first.first c.in_ok-future.ensures.new

pub loop-preserved : goal.loop-preserved
loop-preserved c =
    polling_on c.args.pool.now c.args.script.now c.args.q (c.args.q * c.loop.counter) (c.args.q * (c.loop.counter + 1)) c.loop.future c.advance.result c.advance.new.self (omega arith) c.loop.invariant c.advance.ensures c.in_default.not-Some

pub returns-in-Some-clause-played : goal.returns-in-Some-clause-played
returns-in-Some-clause-played c = inl (polling_done c.args.pool.now c.args.script.now c.args.q (c.args.q * c.loop.counter) c.loop.future c.advance.new.self c.in-Some.finish c.loop.invariant c.in-Some.ensures)

pub returns-clause-played : goal.returns-clause-played
returns-clause-played c =
    let done = c.loop-test.false in
    let within = c.loop.auto.counter-end in
    let all : c.loop.counter ≡ c.args.polls = omega arith in
    inr (polling_cut c.args.pool.now c.args.script.now c.args.q (c.args.q * c.loop.counter) (c.args.q * c.args.polls) c.loop.future c.in-Some-cancel.finish (ap (λ (k : ℕ). c.args.q * k) all) c.loop.invariant c.in-Some-cancel.ensures)
