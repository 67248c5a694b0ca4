-- The closing of a pool whose client has made few word steps isn't refused: its own era leaves room.
use Rattle.std.proofs.Common.{◌≡◌, ℕ, ◌+◌, ◌-◌, ◌^◌, ◌<◌, ◌≤◌, Bool, true, false, cond, refl, sym, ap, ◌∙◌, subst, arith, Result, Ok, Err}
use Rattle.std.specs.Prelude.{is_ok}
use Rattle.shm_graph.specs.declared.{run.{Account.Account, Start.Start}, spot.Spot.TheVariants.Era}
use Rattle.shm_graph.specs.{Agents.{acts, steps_made}, Runs.{account_at, account_died, changed, memos_of}}
use Rattle.shm_graph.specs.Views.{own_word}
use Rattle.shm_graph.proofs.{Memos.MemoSteps.steps_died, Runs.EraRises.{first_was_held, memo_bounds}}
use Rattle.shm_graph.proofs.Runs.Lists.{account_part}
use Rattle.shm_plain.specs.{Calls.state_of, Pools.{IsRun, Pool, after_fall, memo_of}}
use Rattle.shm_count.specs.declared.answer.EraSpent.{EraSpent}
use Rattle.shm_tree.specs.Ending.{HasParted, IsRevived, IsYoung}

-- the own era after a call of 2^40 word steps at most
pub young_room : (p q : Pool) (x y : ℕ) → IsRun q → 0 < p.start.geometry.clients → q.start ≡ p.start → y + steps_made (memo_of q 0) ≡ x + steps_made (memo_of p 0) → x ≤ 2 ^ 40 → IsYoung p → own_word (memo_of q 0).own (Era 0 0) ≤ 2 ^ 47 - 3
young_room p q x y run who start made life young =
    let there : 0 < q.start.geometry.clients = subst (λ (s : Start). 0 < s.geometry.clients) (sym start) who in
    let bounds = memo_bounds q.start q.turns (state_of q) (first_was_held q.start q.turns (state_of q) run.held run.leads) run.leads 0 there in
    let first : q.start.first_era ≡ 1 = ap (λ (s : Start). s.first_era) start ∙ young.first in
    let most = bounds.1 in
    let few = young.few in
    omega (arith, made, life, first, most, few)

-- a death is no word step
pub young_fall : (p : Pool) → IsYoung p → IsYoung (after_fall p 0)
young_fall p young = record { first = young.first; few = subst (λ (n : ℕ). n ≤ 2 ^ 46) (sym (same (acts (memo_of p 0)))) young.few }
  where
    same : (b : Bool) → steps_made (memos_of (cond b (changed account_died p.accounts 0) p.accounts) 0) ≡ steps_made (memo_of p 0)
    same true = account_part (λ (e : Account). steps_made e.memo) p.accounts 0 (account_died (account_at p.accounts 0)) 0 (steps_died (memo_of p 0))
    same false = refl

-- a refusal says that the own era is spent
pub parted_ok : (p q : Pool) (a : Result (Unit {0}) EraSpent) → HasParted p q a → own_word (memo_of q 0).own (Era 0 0) ≤ 2 ^ 47 - 3 → is_ok a ≡ true
parted_ok p q (Ok u) h room = refl
parted_ok p q (Err e) h room = let stop = h.leaves.1 in let spent = stop.stopped.spent in let most = stop.most in absurd (omega (arith, spent, most, room))

pub revived_ok : (p q : Pool) (a : Result (Unit {0}) EraSpent) → IsRevived p q a → own_word (memo_of q 0).own (Era 0 0) ≤ 2 ^ 47 - 3 → is_ok a ≡ true
revived_ok p q (Ok u) h room = refl
revived_ok p q (Err e) h room = let spent = h.leaves.spent in let most = h.leaves.most in absurd (omega (arith, spent, most, room))
