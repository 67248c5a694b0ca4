-- one visit, by its parts
use Rattle.std.proofs.Common.{◌≡◌, ℕ, Bool, true, false, sym, ap, ◌∙◌, subst}
use Rattle.shm_graph.specs.{declared.{memo.Memo.Memo, run.Start.Start}, Agents.last_agent, Held.is_loose}
use Rattle.shm_graph.specs.Runs.{account_at, fell_by, told_left}
use Rattle.plans.specs.CallsControl.{calls_control, calls_of}
use Rattle.shm_count.specs.Roots.{member}
use Rattle.shm_queue.specs.Drain.Control.{drain_parts, draining, drain_steered}
use Rattle.shm_recover.specs.{Join.{join_control, join_fresh}, Leave.Control.{leave_parts, leaving, leave_steered}}
use Rattle.kind_parts.specs.Reparting.{map_in}
use Rattle.shm_plain.specs.Pools.{IsRun, Pool, memo_of}
use Rattle.shm_replay.specs.Closings.{HasTold, IsRecovery, IsVisit, IsWhole, MayVisit, SameTable}
use Rattle.shm_replay.proofs.Telling.{grows_then, whole_grows}

-- whether the last agent died is what the caller says
pub may_fell : (b : Bool) (m : Memo) → MayVisit b m → fell_by (last_agent m.agents) ≡ b
may_fell false m h = h.whole
may_fell true m h = h.fell

pub table_part : (m r s : Memo) → SameTable m r → s.part ≡ r.part → SameTable m s
table_part m r s h e = record { map = λ key. ap (λ x. map_in x key) e ∙ h.map key; loose = ap is_loose e ∙ h.loose }

pub table_then : (m r s : Memo) → SameTable m r → SameTable r s → SameTable m s
table_then m r s h g = record { map = λ key. g.map key ∙ h.map key; loose = g.loose ∙ h.loose }

module _ (c : ℕ) (p r j d q : Pool)
    (join : IsWhole join_control c r (join_fresh (member r.start.geometry c)) j)
    (drain : IsWhole (calls_control drain_parts drain_steered) c j (calls_of drain_steered (draining (member j.start.geometry c))) d)
    (leave : IsWhole (calls_control leave_parts leave_steered) c d (calls_of leave_steered (leaving (member d.start.geometry c))) q) where
  pub visit_of : (dead : Bool) → MayVisit dead (memo_of p c) → IsRecovery dead c p r → r.start ≡ p.start → IsVisit c p q
  visit_of dead may recovery start =
      record {
        recovered = r;
        joined = j;
        drained = d;
        recovery = subst (λ (b : Bool). IsRecovery b c p r) (sym (may_fell dead (memo_of p c) may)) recovery;
        join = subst (λ (s : Start). IsWhole join_control c r (join_fresh (member s.geometry c)) j) start join;
        drain = subst (λ (s : Start). IsWhole (calls_control drain_parts drain_steered) c j (calls_of drain_steered (draining (member s.geometry c))) d) (join.start ∙ start) drain;
        leave = subst (λ (s : Start). IsWhole (calls_control leave_parts leave_steered) c d (calls_of leave_steered (leaving (member s.geometry c))) q) (drain.start ∙ (join.start ∙ start)) leave;
      }

  pub visit_told : IsRun r → HasTold (account_at p.accounts c) (account_at r.accounts c) → HasTold (account_at p.accounts c) (account_at q.accounts c)
  visit_told run told =
      let left = told_left true (account_at p.accounts c) in
      grows_then left (account_at r.accounts c).told (account_at q.accounts c).told told
      (grows_then (account_at r.accounts c).told (account_at j.accounts c).told (account_at q.accounts c).told (whole_grows _ c r _ j run join c)
      (grows_then (account_at j.accounts c).told (account_at d.accounts c).told (account_at q.accounts c).told (whole_grows _ c j _ d join.run drain c) (whole_grows _ c d _ q drain.run leave c)))
