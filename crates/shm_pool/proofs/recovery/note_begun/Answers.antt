use Rattle.std.proofs.Common.{◌≡◌, Bool, true, false, cond, sym, ap, ◌∙◌, subst}
use Rattle.shm_graph.specs.{declared.{memo.{Kind.TheVariants.Client, Memo.Memo}, run.Account.Account}, Agents.acts}
use Rattle.shm_graph.specs.Runs.{account_entered}
use Rattle.shm_graph.proofs.Memos.MemoSteps.{acts-entered}
use Rattle.shm_pool.specs.{Rules.alone, Tokens.{IsFallen, IsStill, begun_account}}
use Rattle.shm_pool.proofs.recovery.note_begun.Goals as goal

fallen_false : (b : Bool) (m : Memo) → b ≡ false → IsFallen b m → IsStill m
fallen_false b m e h = subst (λ (z : Bool). IsFallen z m) e h

begun_by : (b : Bool) (e : Account) → acts e.memo ≡ b → begun_account e ≡ cond b e (account_entered Client e)
begun_by b e h = ap (λ (z : Bool). cond z e (account_entered Client e)) h

pub note_client-requires-clause-rests : goal.note_client-requires-clause-rests
note_client-requires-clause-rests c = let s = fallen_false c.args.begun (alone c.args.place.now).memo c.if-begun.false c.requires.fallen in (c.requires.who, s.1, s.0)

pub returns-clause-account : goal.returns-clause-account
returns-clause-account c = let s = fallen_false c.args.begun (alone c.args.place.now).memo c.if-begun.false c.requires.fallen in c.note_client.ensures.account ∙ sym (begun_by false (alone c.args.place.now) s.1)

pub returns-clause-acts : goal.returns-clause-acts
returns-clause-acts c = ap (λ (e : Account). acts e.memo) c.note_client.ensures.account ∙ acts-entered Client (alone c.args.place.now).memo

pub returns-then-begun-clause-account : goal.returns-then-begun-clause-account
returns-then-begun-clause-account c = sym (begun_by true (alone c.args.place.now) (subst (λ (z : Bool). IsFallen z (alone c.args.place.now).memo) c.if-begun.true c.requires.fallen))
