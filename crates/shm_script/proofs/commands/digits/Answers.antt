use Rattle.std.proofs.Common.{arith}
use Rattle.shm_script.proofs.NextCommands.{first_digit, next_digit}
use Rattle.shm_script.proofs.commands.digits.Goals as goal

pub returns-then-number-eq0 : goal.returns-then-number-eq0
returns-then-number-eq0 c = first_digit c.args.text.now c.in_ok-number.rest.now c.in_ok-number.number c.in_ok-number.ensures.0 c.in_ok-number.ensures.1

pub loop-digit-init : goal.loop-digit-init
loop-digit-init c = record {
  read = first_digit c.args.text.now c.in_ok-number.rest.now c.in_ok-number.number c.in_ok-number.ensures.0 c.in_ok-number.ensures.1;
  some = omega (arith, c.if-number-eq0.false);
}

pub loop-digit-preserved : goal.loop-digit-preserved
loop-digit-preserved c = record {
  read = next_digit c.args.text.now c.loop-digit.rest.now c.in-Some.others.now c.loop-digit.number c.in-Some.digit _ c.loop-digit.invariant.read c.in-Some.ensures.0 c.loop-digit.invariant.some c.in-Some.ensures.1 c.in_ok-number-2.ensures.0 c.in_ok-number-2.ensures.1;
  some = omega (arith, c.loop-digit.invariant.some, c.in_ok-number-2.ensures.0);
}
