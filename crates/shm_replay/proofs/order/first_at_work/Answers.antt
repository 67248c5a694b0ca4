use Rattle.std.proofs.{Common.{◌≡◌, ℕ, false, sym, ap, ◌∙◌, subst, arith, inl, inr}, lemmas.Bool.{cases_eq, cases_lt}}
use Rattle.std.specs.Prelude.{None, slice_index_or}
use Rattle.shm_replay.specs.AtWork.{has_work}
use Rattle.shm_replay.proofs.{Lone.beyond, Seating.any_or}
use Rattle.shm_replay.proofs.order.first_at_work.Goals as goal

pub loop-who-init : goal.loop-who-init
loop-who-init g c = record { before = λ k a b. absurd (omega arith) }

pub loop-who-preserved : goal.loop-who-preserved
loop-who-preserved g c = record {
  before = λ k a b.
      let xs = c.args.agents.now in
      let i = c.loop-who.who in
      let here : has_work (slice_index_or xs i None) ≡ false =
      ap has_work (any_or xs i None c.index-agents-who.result c.loop-who-test.true ∙ sym c.index-agents-who.is) ∙ (sym c.has_work.ensures ∙ c.if-has_work.false) in
      elim (cases_eq k i) [
        | inl e ↦ subst (λ (n : ℕ). has_work (slice_index_or xs n None) ≡ false) (sym e) here
        | inr o ↦ c.loop-who.invariant.before k a (omega arith)
      ];
}

pub returns : goal.returns
returns g c k a =
    let xs = c.args.agents.now in
    elim (cases_lt k c.loop-who.who) [
      | inl few ↦ c.loop-who.invariant.before k a few
      | inr far ↦ ap has_work (beyond xs k None (let z = c.loop-who-test.false in omega arith))
    ]
