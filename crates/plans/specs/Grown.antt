-- what each word step leaves of its agent and of what was read, and so each machine
use Rattle.std.proofs.Common.{◌≡◌, Bool, true, false, []}
use Rattle.std.specs.List.{Contains}
use Rattle.shm_graph.specs.{declared.memo.{Fact.Fact, Memo.Memo}, Agents.recovers, Changes.is_lane_count}
use Rattle.plans.specs.Parts.{Part}

-- ---- what a word step leaves

-- The agent is of the kind that it was of. What was read of tails and heads of queues stays; and so does all that was read, but at a machine's first word step
pub record Grows (first : Bool) (m r : Memo) : Type 0 where
  pub agent : recovers r ≡ recovers m
  pub counts : (k : Fact) → is_lane_count k ≡ true → Contains m.facts k → Contains r.facts k
  pub facts : first ≡ false → (k : Fact) → Contains m.facts k → Contains r.facts k

-- ---- what a part leaves

-- a part, with what each machine leaves of the agent and of what was read; whether it comes first in its machine is told
abbrev pub grown : {S A : Type 0} → Bool → Part S A → Part S A
grown first p =
    record {
      fits = λ m r0 r tr. p.fits m r0 r tr × Grows first r0 r;
      gives = λ m r0 r tr a. p.gives m r0 r tr a × Grows first r0 r;
      does = p.does;
      needs = p.needs;
      leaves = λ m rs r t es a. p.leaves m rs r t es a × Grows first rs r;
      asks = p.asks;
    }
