-- count steps and tear-downs as parts of larger machines: what is proved of it
use Rattle.std.proofs.Common.{◌≡◌, Bool, sym, ap, subst, arith}
use Rattle.std.specs.Prelude.{Result}
use Rattle.shm_words.proofs.Placing.{total_small}
use Rattle.shm_graph.specs.{declared.memo.Memo.Memo, Asks.Trail, Tells.happens_along}
use Rattle.plans.specs.{Parts.PartLaws, Proved.Placed.placed}
use Rattle.shm_count.specs.declared.{answer.EraSpent.EraSpent, tear_point.TearPoint.TheVariants.Begin}
use Rattle.shm_count.specs.{declared.tear_point.TearState.TearState, Tear.Control.{TearInRange, tear_control}}
use Rattle.shm_count.specs.{Tear.{Events.tear_event, TearFits, TearGives, TearLeaves}, Proved.Tear.Keeps.tear_laws}
use Rattle.shm_count.specs.{Proved.Tear.Tells.tear_tells, CountParts.{IsTear, tear_part}}
use Rattle.shm_count.specs.Proved.Tear.Going as tears

-- ---- tear-downs

-- what it gives speaks of the events that it tells of
pub tear_left : (m : TearState) (rs r : Memo) (t : Trail) (a : Result (Unit {0}) EraSpent) → m ≡ record { me = m.me; first = m.first; block = m.first; point = Begin } → TearGives m rs r t a → TearLeaves m.me m.first rs r (happens_along tear_control tear_event m t) t a
tear_left m rs r t a made g = subst (λ (x : TearState). TearLeaves m.me m.first rs r (happens_along tear_control tear_event x t) t a) (sym made) g.leaves

pub tear_part_laws : (first : Bool) → PartLaws first tear_control tear_part
tear_part_laws first =
    record {
      placed = placed first tear_control TearFits TearGives tear_laws;
      tells = tear_tells;
      begins = λ m r n. tears.begins m r (ap (λ (x : TearState). x.point) n.made) (ap (λ (x : TearState). x.block) n.made) (knows m r n) n.can;
      ends = λ m rs r t a n g held same. tear_left m rs r t a n.made g;
      asked = λ m rs r t a n g. g.trail;
    }
  where
    knows : (m : TearState) (r : Memo) → IsTear m r → TearInRange m
    knows m r n =
        let can = n.can in
        let room = can.room in
        let total = total_small m.me.geometry can.geometry in
        subst TearInRange (sym n.made) (record { geometry = can.geometry; who = can.who; first = omega arith; block = omega arith; point = tt })
