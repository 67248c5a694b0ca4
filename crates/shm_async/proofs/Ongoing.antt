-- the steps of one call, some of which were made before others
use Rattle.std.proofs.Common.{◌≡◌, ℕ, Bool, true, false, List, [], ◌∷◌, ◌++◌, append_assoc, length, length-append, refl, sym, ap, ◌∙◌, subst, arith}
use Rattle.plans.specs.CallsFit.{CallsFits}
use Rattle.shm_graph.specs.{declared.{memo.Step.Step, run.Account.Account}, Runs.account_after}
use Rattle.shm_pool.specs.Calls.{CallSteps, Ending, Going, IsBy, IsDriven, Ongoing, Shown, accounts_by, fresh_after}
use Rattle.shm_pool.specs.Rescues.{Rescuing}
use Rattle.shm_recover.specs.{Machines.Recovering.recover, Recover.{Control.recover_parts, recover_plan}}
use Rattle.shm_async.specs.Rescued.{CallsOn, account_by, made_steps}
use Rattle.shm_async.proofs.Joined.{driven_then, fresh_then}

-- ---- steps

accounts_then : (r : Account) (ts us : List Step) → accounts_by r (ts ++ us) ≡ accounts_by (accounts_by r ts) us
accounts_then r [] us = refl
accounts_then r (t ∷ ts) us = accounts_then (account_after r t) ts us

going_then : (s : Shown) (b : Bool) (ts us : List Step) → Going s b ts → Going s (fresh_after b ts) us → Going s b (ts ++ us)
going_then s b [] us g h = h
going_then s b (t ∷ ts) us g h = (g.0, g.1, going_then s false ts us g.2 (after_false ts h))
  where
    after_false : (xs : List Step) → Going s false us → Going s (fresh_after false xs) us
    after_false [] k = k
    after_false (x ∷ xs) k = k

-- they are of the same machine, a few of its steps on
module _ (s z : Shown) (me : z.me ≡ s.me) (line : z.line ≡ s.line) where
  by_same : (b : Bool) (t : Step) → IsBy z b t → IsBy s b t
  by_same b t h = record { me = h.me ∙ me; line = h.line ∙ line; first = h.first }

  going_same : (b : Bool) (ts : List Step) → Going z b ts → Going s b ts
  going_same b [] g = tt
  going_same b (t ∷ ts) g = (by_same b t g.0, g.1, going_same false ts g.2)

  ending_same : (b : Bool) (ts : List Step) → Ending z b true ts → Ending s b true ts
  ending_same b [] h = absurd h
  ending_same b (t ∷ []) h = (by_same b t h.0, h.1)
  ending_same b (t ∷ u ∷ us) h = absurd h

-- ---- calls

module _ (s : Shown) (r : Account) (z : Shown) (r1 r2 : Account) (a b c : ℕ) (o : Ongoing s r z r1 a b) where
  going_both : (us : List Step) → Going z z.fresh us → Going s s.fresh (o.steps ++ us)
  going_both us g = going_then s s.fresh o.steps us o.going (going_same s z o.me o.line (fresh_after s.fresh o.steps) us (subst (λ (d : Bool). Going z d us) o.first g))

  fresh_both : (us : List Step) → fresh_after z.fresh us ≡ fresh_after s.fresh (o.steps ++ us)
  fresh_both us = ap (λ (d : Bool). fresh_after d us) o.first ∙ sym (fresh_then s.fresh o.steps us)

  account_both : (us : List Step) → r2 ≡ accounts_by r1 us → r2 ≡ accounts_by r (o.steps ++ us)
  account_both us is = is ∙ (ap (λ (e : Account). accounts_by e us) o.account ∙ sym (accounts_then r o.steps us))

  -- it went on
  ongoing_then : (y : Shown) → Ongoing z r1 y r2 b c → Ongoing s r y r2 a c
  ongoing_then y k =
      record {
        steps = o.steps ++ k.steps;
        going = going_both k.steps k.going;
        account = account_both k.steps k.account;
        life = (let x = o.life in let w = k.life in omega (arith, length-append o.steps k.steps));
        me = k.me ∙ o.me;
        line = k.line ∙ o.line;
        first = k.first ∙ fresh_both k.steps;
      }

  -- and came to its end
  whole_then : CallSteps z r1 r2 true b c → CallSteps s r r2 true a c
  whole_then k =
      let same : (o.steps ++ k.steps) ++ k.last ≡ o.steps ++ (k.steps ++ k.last) = append_assoc o.steps k.steps k.last in
      record {
        steps = o.steps ++ k.steps;
        last = k.last;
        going = going_both k.steps k.going;
        ends = subst (λ (d : Bool). Ending s d true k.last) (fresh_both k.steps) (ending_same s z o.me o.line (fresh_after z.fresh k.steps) k.last k.ends);
        account = account_both (k.steps ++ k.last) k.account ∙ ap (accounts_by r) (sym same);
        life = (let x = o.life in let w = k.life in let l = ap length same in omega (arith, length-append o.steps (k.steps ++ k.last)));
      }

pub calls_then : (over : Bool) (u v w : Rescuing) (a b c : ℕ) → CallsOn false u v a b → CallsOn over v w b c → CallsOn over u w a c
calls_then false u v w a b c o k = ongoing_then _ _ _ _ _ a b c o _ k
calls_then true u v w a b c o k = whole_then _ _ _ _ _ a b c o k

-- ---- what their machine asked for

-- the recovery u asked for these steps, and is v then
abbrev pub Driven : Rescuing → Rescuing → List Step → Type 0
Driven u v ts = IsDriven recover (CallsFits recover_parts recover_plan) u.machine v.machine (account_by u) (account_by v) ts

module _ (u v w : Rescuing) (a b c : ℕ) (o : CallsOn false u v a b) (d : Driven u v o.steps) where
  both_driven : (ts : List Step) → Driven v w ts → Driven u w (o.steps ++ ts)
  both_driven ts e = driven_then recover (CallsFits recover_parts recover_plan) u.machine v.machine w.machine (account_by u) (account_by v) (account_by w) o.steps ts d e o.account o.first

  pub driven_both : (over : Bool) (k : CallsOn over v w b c) → Driven v w (made_steps over v w b c k) → Driven u w (made_steps over u w a c (calls_then over u v w a b c o k))
  unfolding calls_then ongoing_then whole_then
  driven_both false k e = both_driven k.steps e
  driven_both true k e = subst (Driven u w) (sym (append_assoc o.steps k.steps k.last)) (both_driven (k.steps ++ k.last) e)
