-- what waits in queues stays where a memo keeps its core, or all of it but own words
use Rattle.std.proofs.Common.{◌≡◌, ℕ, refl, ap, sym, ◌∙◌}
use Rattle.std.specs.Prelude.{slice_index}
use Rattle.shm_graph.specs.declared.{memo.Memo.Memo, spot.Spot.{Spot, TheVariants.{Home, Root}}, table.Part.Part}
use Rattle.shm_graph.specs.{declared.table.Part.TheVariants.{Loose, Table}, Core.core, Held.is_loose, Ops.{On, cover}}
use Rattle.shm_graph.specs.Views.{own_word}
use Rattle.kind_parts.specs.Reparting.{Sight, sight}
use Rattle.kind_parts.proofs.PartsSet.{loose_stays}
use Rattle.shm_count.specs.{Step.Parts.part_after, Waiting.{LeavesQueues, LeavesWaiting}}

-- ---- zero-count blocks, and what waits

pub core_waits : (m r : Memo) → core r ≡ core m → LeavesWaiting m r
core_waits m r e =
    record {
      dying = ap (λ (x : Memo). x.dying) e;
      unsent = λ j. ap (λ (x : Memo). slice_index x.unsent j) e;
      untaken = λ j. ap (λ (x : Memo). slice_index x.untaken j) e;
    }

-- and what has the core of a memo in which the same waits
pub waits_by : (m q r : Memo) → LeavesWaiting m q → core r ≡ core q → LeavesWaiting m r
waits_by m q r h e =
    let x = core_waits q r e in
    record { dying = x.dying ∙ h.dying; unsent = λ j. x.unsent j ∙ h.unsent j; untaken = λ j. x.untaken j ∙ h.untaken j }

-- ---- the latch, what waits, and whether the pool is for tables

-- nothing of the memo changed but own words
pub own_queues : (m r : Memo) → core r ≡ core (record m { own = r.own }) → LeavesQueues m r
own_queues m r h =
    record {
      latch = ap (λ (x : Memo). x.latch) h;
      unsent = λ j. ap (λ (x : Memo). slice_index x.unsent j) h;
      untaken = λ j. ap (λ (x : Memo). slice_index x.untaken j) h;
      loose = ap (λ (x : Memo). is_loose x.part) h;
    }

pub same_queues : (m r : Memo) → core r ≡ core m → LeavesQueues m r
same_queues m r h = own_queues m r (λ i. record (h i) { own = r.own })

-- one after the other
pub queues_then : (m q r : Memo) → LeavesQueues m q → LeavesQueues q r → LeavesQueues m r
queues_then m q r a b = record { latch = b.latch ∙ a.latch; unsent = λ j. b.unsent j ∙ a.unsent j; untaken = λ j. b.untaken j ∙ a.untaken j; loose = b.loose ∙ a.loose }

-- the pool is for tables still, or still isn't, once a slot was stored
pub loose_after : (c : ℕ) (m : Memo) (p : Spot) (x : ℕ) → is_loose (part_after c (sight c m) p x) ≡ is_loose m.part
loose_after c m p x = loose_stays m.known c (cover (On p x) (Home c) (own_word m.own (Home c))) p x m.part

-- no partition is read from a root
pub root_part : (c : ℕ) (t : Sight) (k x : ℕ) → part_after c t (Root c k) x ≡ t.part
root_part c t k x = go t.part refl
  where
    go : (part : Part) → t.part ≡ part → part_after c t (Root c k) x ≡ t.part
    go Loose e = ap (λ (q : Part). part_after c (record t { part = q }) (Root c k) x) e ∙ sym e
    go (Table chains) e = ap (λ (q : Part). part_after c (record t { part = q }) (Root c k) x) e ∙ sym e
