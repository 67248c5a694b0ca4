use Rattle.std.proofs.{Common.{arith, inl, inr}, lemmas.Bool.cases_lt}
use Rattle.shm_replay.proofs.order.lone.Goals as goal

pub returns-in-None : goal.returns-in-None
returns-in-None g c =
    let first = c.in_ok-who.ensures in (
      first.0,
      λ k o. elim (cases_lt k c.in_ok-who.who) [
        | inl few ↦ first.1 k (omega arith) few
        | inr far ↦ c.in-None.ensures k (omega arith)
      ],
    )
