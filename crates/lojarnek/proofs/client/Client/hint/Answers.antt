use Rattle.std.proofs.Common.{inl, inr, refl}
use Rattle.lojarnek.proofs.client.Client.hint.Goals as goal

pub returns-then-refs-gt16 : goal.returns-then-refs-gt16
returns-then-refs-gt16 c = rw c.from.ensures (inl (c.if-refs-gt16.true, refl))

pub returns-then-plain-gt8 : goal.returns-then-plain-gt8
returns-then-plain-gt8 c = rw c.from-then-plain-gt8.ensures (inr (c.if-plain-gt8.true, refl))
