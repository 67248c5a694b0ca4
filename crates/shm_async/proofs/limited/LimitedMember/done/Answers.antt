use Rattle.std.proofs.Common.{◌≡◌, ℕ, ◌+◌, ◌^◌, ◌<◌, refl, sym, subst, arith}
use Rattle.shm_team.specs.declared.done.Done.{Done}
use Rattle.shm_async.specs.declared.limited.LimitedMember.{LimitedMember, TheVariants.{Works, Recovers, Finished}}
use Rattle.shm_async.specs.LimitedMembers.{IsLimitedMember, polls_left}
use Rattle.shm_async.proofs.limited.LimitedMember.done.Goals as goal

one_more : (n b : ℕ) → 0 < n + b + 1
one_more n b = omega arith

one_at_least : (n : ℕ) → 0 < n + 1
one_at_least n = omega arith

-- polls are left where not all is done
some_left : {A : Type 0} (left : ℕ) (m : LimitedMember A) → ((d : Done) → m ≡ Finished d → ⊥) → 0 < polls_left left m
some_left left (Works f) none = one_more left (2 ^ 40)
some_left left (Recovers k) none = one_at_least k.recovery.life.left
some_left left (Finished d) none = absurd (none d refl)

pub polls-init : goal.polls-init
polls-init g c = record { some = c.requires.member; same = λ t k n h. h }

pub polled-member-requires-clause-member : goal.polled-member-requires-clause-member
polled-member-requires-clause-member g c = c.polls.invariant.some

pub polls-preserved : goal.polls-preserved
polls-preserved g c =
    let i = c.polls.invariant in
    record {
      some =
          let (t, k, n, h) = i.some in
          (t, k, n, subst (λ (z : ℕ). IsLimitedMember t c.args.pool.now k n z c.polled-member.result) (sym c.saturating_sub-left.ensures) (c.polled-member.ensures.member t k n h));
      same = λ t k n h. subst (λ (z : ℕ). IsLimitedMember t c.args.pool.now k n z c.polled-member.result) (sym c.saturating_sub-left.ensures) (c.polled-member.ensures.member t k n (i.same t k n h));
    }

pub polls-smaller : goal.polls-smaller
polls-smaller g c =
    subst (λ (z : ℕ). polls_left z c.polled-member.result < polls_left c.polls.left c.polls.member) (sym c.saturating_sub-left.ensures)
    (c.polled-member.ensures.fewer (some_left c.polls.left c.polls.member c.in_default.not-Finished))

pub returns-in-Finished : goal.returns-in-Finished
returns-in-Finished g c = λ t k n h. subst (IsLimitedMember t c.args.pool.now k n c.polls.left) c.in-Finished.is (c.polls.invariant.same t k n h)
