-- what is owed of the comparing of two roots
use Rattle.std.proofs.Common.{◌≡◌, ℕ, ◌<◌, refl, sym, ap, ◌∙◌, subst, Option, Some, None, List, [], ◌∷◌, ◌++◌}
use Rattle.shm_graph.specs.{declared.memo.Memo.Memo, Asks.{Trail, pair}, Events.Event}
use Rattle.shm_graph.proofs.Idles.{idle_core}
use Rattle.kind_parts.proofs.Cores.{here_same}
use Rattle.plans.specs.{CallsPart.{MayCall, calls_part_laws}, Plans.{PlanLaws, PlanStays, Follows}}
use Rattle.plans.specs.{Tasks.{IsNew, TaskLaws}, Words.word_control}
use Rattle.shm_count.specs.Roots.{root_word}
use Rattle.shm_ref.specs.{Lefts.MayDrop, Proved.{LatchTasks.may_drop, RootOf.Laws.naming_laws}}
use Rattle.shm_ref.specs.RootOf.{Named, naming_ask, naming_plan}
use Rattle.t_uses.specs.declared.machine.CompareState.{CompareState}
use Rattle.t_uses.specs.Compare.{CompareKnows, CompareMay, compare_plan, root_at, root_of, compare_steered}

stays : (m : CompareState) (o : Option ℕ) (b : ℕ) → PlanStays root_of compare_plan (record m { found = o }) b
stays m None b = record { same_me = refl; same_line = refl; same_start = refl; started = λ e. refl }
stays m (Some a) b = record { same_me = refl; same_line = refl; same_start = refl; started = λ e. absurd (cc) }

-- the root that is asked for is some
low : (m : CompareState) (o : Option ℕ) → m.first < 16 → m.second < 16 → root_at m o < 16
low m None first second = first
low m (Some a) first second = second

opens : (m : CompareState) (r0 r : Memo) (tr : Trail) (es : List Event) → CompareKnows m r0 r tr es → MayCall word_control naming_plan (compare_steered.call m) r
opens m r0 r tr es h =
    let may : MayDrop m.me r = record { geometry = h.may.geometry; who = h.may.who; here = here_same r0 r (ap (λ (x : Memo). x.status) h.same) h.may.here; idle = ap (λ (x : Memo). x.op) h.same ∙ h.may.idle } in
    record { made = refl; first = refl; start = refl; knows = record { may = may; low = low m m.found h.first h.second; same = refl; none = refl; quiet = refl } }

leads : (m : CompareState) (o : Option ℕ) (r0 rs r : Memo) (tr t : Trail) (es ds : List Event) (b : ℕ) → CompareKnows (record m { found = o }) r0 rs tr es → Named m.me (root_at m o) rs r t ds b → Follows root_of compare_plan (record m { found = o }) b r0 r (tr ++ t) (es ++ ds)
leads m None r0 rs r tr t es ds b h g =
    record {
      may = h.may;
      first = h.first;
      second = h.second;
      same = g.memo ∙ h.same;
      none = ap (λ (x : List Event). x ++ ds) h.none ∙ g.none;
      found = (g.names ∙ ap (λ (x : Memo). root_word m.me.who x m.first) h.same, ap (λ (x : Trail). x ++ t) h.found ∙ g.trail);
    }
leads m (Some a) r0 rs r tr t es ds b h g =
    let first : a ≡ root_word m.me.who r0 m.first = h.found.0 in
    let second : b ≡ root_word m.me.who r0 m.second = g.names ∙ ap (λ (x : Memo). root_word m.me.who x m.second) h.same in
    let asked : tr ++ t ≡ pair (naming_ask m.me m.first) a ∷ t = ap (λ (x : Trail). x ++ t) h.found.1 in
    let one : t ≡ pair (naming_ask m.me m.second) b ∷ [] = g.trail in
    record { memo = g.memo ∙ h.same; is = cc; none = ap (λ (x : List Event). x ++ ds) h.none ∙ g.none; trail = cc }

pub compare_laws : PlanLaws root_of compare_plan
compare_laws =
    record {
      stays = λ m b. stays m m.found b;
      calls = λ m. record { me = refl; asks = refl };
      parts = λ m. calls_part_laws word_control naming_plan naming_laws (compare_steered.first m);
      opens = opens;
      leads = λ m r0 rs r tr t es ds b h g held same. leads m m.found r0 rs r tr t es ds b h g;
    }

-- between two calls it may begin, and it leaves its identity so
pub compare_task : TaskLaws root_of compare_plan CompareMay (λ m a. Unit {0})
compare_task =
    record {
      new = λ m r h. subst (IsNew root_of compare_plan) (sym h.0) (record { first = refl; start = refl; fresh = refl });
      begins = λ m r ready h. subst (λ (x : CompareState). CompareKnows x r r [] []) (sym h.0) (record { may = may_drop m.me r ready; first = h.1; second = h.2; same = refl; none = refl; found = refl });
      rests = λ m r0 r tr es a ready h l e. idle_core m.me.who r0 r l.memo ready.idle;
    }
