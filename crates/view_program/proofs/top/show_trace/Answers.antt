use Rattle.std.proofs.Common.{arith, ◌≡◌, ℕ, inl, inr}
use Rattle.view_program.specs.Calls.{IsAnswer, IsTold}
use Rattle.view_program.proofs.top.show_trace.Goals as goal

-- what was told is an answer, and no refusal

answered : (n : ℕ) → IsTold n → IsAnswer n
answered n (inl e) = inl e
answered n (inr (inl e)) = inr (inr (inl e))
answered n (inr (inr e)) = inr (inr (inr e))

unrefused : (n : ℕ) → IsTold n → n ≡ 3 → ⊥
unrefused n (inl e) h = omega (arith, e, h)
unrefused n (inr (inl e)) h = omega (arith, e, h)
unrefused n (inr (inr e)) h = omega (arith, e, h)

pub returns-in-Ok-clause-status : goal.returns-in-Ok-clause-status
returns-in-Ok-clause-status g c = answered c.show_replay.result.status c.show_replay.ensures.status

pub returns-in-Ok-clause-shown : goal.returns-in-Ok-clause-shown
returns-in-Ok-clause-shown g c h = (c.in-Ok.ensures.fault, c.in-Ok.trace, c.in-Ok.ensures.found.1, c.show_replay.ensures.written h)

pub returns-in-Ok-clause-refused : goal.returns-in-Ok-clause-refused
returns-in-Ok-clause-refused g c h = absurd (unrefused c.show_replay.result.status c.show_replay.ensures.status h)
