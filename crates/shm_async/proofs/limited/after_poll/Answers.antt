use Rattle.std.proofs.Common.{◌≡◌, ℕ, ◌+◌, ◌-◌, ◌^◌, ◌<◌, arith}
use Rattle.shm_async.proofs.limited.after_poll.Goals as goal

-- how many polls are left, where b is the life of a recoverer
less_on : (left b : ℕ) → 1 < left → left - 1 + b + 1 < left + b + 1
less_on left b more = omega arith

less_cut : (left life b : ℕ) → 0 < left → life ≡ b → life + 1 < left + b + 1
less_cut left life b some is = omega arith

pub cut_off-requires-clause-spent : goal.cut_off-requires-clause-spent
cut_off-requires-clause-spent g c = let (t, k, n, h) = c.requires.pending in (t, k, n, h.spent c.if-left-gt1.false)

pub returns-then-left-gt1-clause-member : goal.returns-then-left-gt1-clause-member
returns-then-left-gt1-clause-member g c = λ t k n h. h.due c.if-left-gt1.true

pub returns-then-left-gt1-clause-fewer : goal.returns-then-left-gt1-clause-fewer
returns-then-left-gt1-clause-fewer g c = less_on c.args.left (2 ^ 40) c.if-left-gt1.true

pub returns-else-left-gt1-clause-member : goal.returns-else-left-gt1-clause-member
returns-else-left-gt1-clause-member g c = λ t k n h. c.cut_off.ensures.mending t k n (h.spent c.if-left-gt1.false)

pub returns-else-left-gt1-clause-fewer : goal.returns-else-left-gt1-clause-fewer
returns-else-left-gt1-clause-fewer g c = less_cut c.args.left c.cut_off.result.recovery.life.left (2 ^ 40) c.requires.some c.cut_off.ensures.life
