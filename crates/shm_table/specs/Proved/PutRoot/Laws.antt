-- what is owed of putting a value block into the own table
use Rattle.std.proofs.Common.{◌≡◌, ℕ, ◌+◌, ◌<◌, refl, sym, ◌∙◌, subst, Bool, List, ◌++◌, Option, Some, None}
use Rattle.std.specs.Prelude.{Ok, Err}
use Rattle.shm_graph.specs.{declared.memo.Memo.Memo, Agents.recovers, Asks.Trail, Events.Event}
use Rattle.plans.specs.{declared.or.Or.TheVariants.{First, Second}, CallsPart.{calls_part, calls_part_laws}}
use Rattle.plans.specs.{Either.{or_control, or_part}, Proved.Either.or_part_laws, Parts.{IsHeld, PartLaws}}
use Rattle.plans.specs.{Plans.{PlanLaws, PlanStays, IsCall, Follows}, Words.word_control}
use Rattle.shm_ref.specs.DropRoot.{Control.{drop_parts, dropping}, DropLeaves, drop_plan}
use Rattle.shm_ref.specs.{Proved.DropRoot.Laws.drop_laws, DropRoots.Control.drop_root}
use Rattle.shm_table.specs.declared.{enter.Entered.TheVariants.Linked, find.Found.TheVariants.At}
use Rattle.shm_table.specs.declared.put_root.PutRootPoint.{PutRootPoint}
use Rattle.shm_table.specs.declared.put_root.PutRootPoint.TheVariants.{Open, Locate, Replace, Enter, Unlatch, Drop}
use Rattle.shm_table.specs.{declared.put_root.PutRootState.PutRootState, Enter.{Control.enter_parts, enter_plan}}
use Rattle.shm_table.specs.Locate.{Control.{locate_parts, locate_control}, locate_plan}
use Rattle.shm_table.specs.Proved.Locate.Laws.{locate_begin}
use Rattle.shm_table.specs.Proved.PutRoot.Following.{dropped_so, entered, located, opened, replaced, unlatched_so}
use Rattle.shm_table.specs.{Proved.{Unlatch.Laws.unlatch_laws, ValuesListed.idle_here}, OpenTable.Control.open_parts}
use Rattle.shm_table.specs.OpenTable.{open_plan}
use Rattle.shm_table.specs.PutRoot.Control.{PutRootAnswer, enter_control, is_open, open_control, put_root_call, root_or, put_root_parts, replace_control}
use Rattle.shm_table.specs.PutRoot.{IsSettled, MayPut, PutRootKnows, RootsSo, put_root_part, put_root_plan, settled_steps}
use Rattle.shm_table.specs.{Replace.{Control.replace_parts, replace_plan}, Unlatch.unlatch_plan}
use Rattle.shm_table.specs.Unlatch.Control.{unlatch_control}

-- ---- the plan

stays : (m : PutRootState) (b : PutRootAnswer) → PlanStays put_root_parts put_root_plan m b
stays m (First (First (Err f))) = record { same_me = refl; same_line = refl; same_start = refl; started = λ e. absurd (cc) }
stays m (First (Second (At entry before word))) = record { same_me = refl; same_line = refl; same_start = refl; started = λ e. refl }
stays m (Second (First (First done))) = record { same_me = refl; same_line = refl; same_start = refl; started = λ e. refl }
stays m (Second (First (Second (Linked k)))) = record { same_me = refl; same_line = refl; same_start = refl; started = λ e. refl }
stays m (Second (Second (Second (Ok z)))) = record { same_me = refl; same_line = refl; same_start = refl; started = λ e. absurd (cc) }
stays m (Second (Second (Second (Err e)))) = record { same_me = refl; same_line = refl; same_start = refl; started = λ e. absurd (cc) }
stays m _ = record { same_me = refl; same_line = refl; same_start = refl; started = λ e. refl }

calls : (m : PutRootState) (y : PutRootPoint) → IsCall put_root_parts put_root_plan (record m { point = y })
calls m Open = record { me = refl; asks = refl }
calls m _ = record { me = refl; asks = refl }

-- ---- before each call

opens : (m : PutRootState) (y : PutRootPoint) (r0 r : Memo) (tr : Trail) (es : List Event) → PutRootKnows (record m { point = y }) y r0 r tr es → put_root_part.needs (put_root_call m y) r
opens m Open r0 r tr es (may, same, none, quiet, root, fault) =
    let a = subst (MayPut m.me m.key m.value) (sym same) may in
    let b = a.2 in
    record { made = refl; first = refl; start = refl; knows = (record { geometry = b.geometry; who = b.who; idle = b.idle; client = b.client; table = b.table; none = b.none }, refl, refl, refl) }
opens m Locate r0 r tr es (h, root, fault, bound, opening) =
    let b = h.may.2 in
    record {
      made = refl;
      first = refl;
      start = refl;
      knows = locate_begin m.me m.me.who m.key r (record { geometry = b.geometry; who = b.who; author = b.who; idle = h.keeps.idle; none = h.latched; table = h.keeps.loose ∙ b.table });
    }
opens m Replace r0 r tr es (h, root, searched, (n, before, word, may), opening) = record { made = refl; first = refl; start = refl; knows = ((m.key, n, before, word, may), refl, refl, refl) }
opens m Enter r0 r tr es (h, root, fault, searched, (n, may), opening) = record { made = refl; first = refl; start = refl; knows = ((n, may), refl, refl, refl) }
opens m Unlatch r0 r tr es h =
    let b = h.may.2 in
    record {
      made = refl;
      first = refl;
      start = refl;
      knows = (record { geometry = b.geometry; who = b.who; author = b.who; here = idle_here m.me.who r h.keeps.idle; idle = h.keeps.idle.op; latch = h.latched }, refl, refl, refl);
    }
opens m Drop r0 r tr es (k, is, h) =
    let b = h.may.2 in
    let roots : RootsSo m.me.who r0 r (Some k) = subst (RootsSo m.me.who r0 r) is h.roots in
    record {
      made = refl;
      first = refl;
      start = refl;
      knows = (record { geometry = b.geometry; who = b.who; here = idle_here m.me.who r h.keeps.idle; idle = h.keeps.idle.op }, subst (λ (o : Option ℕ). root_or o < 16) (sym is) roots.0, refl, refl, refl);
    }

-- ---- what follows each call

-- by the call
leads : (m : PutRootState) (y : PutRootPoint) (r0 rs r : Memo) (tr t : Trail) (es ds : List Event) (b : PutRootAnswer) → IsHeld m.me r → recovers r ≡ recovers rs → PutRootKnows (record m { point = y }) y r0 rs tr es → put_root_part.leaves (put_root_call m y) rs r t ds b
    → Follows put_root_parts put_root_plan (record m { point = y }) b r0 r (tr ++ t) (es ++ ds)
leads m Open r0 rs r tr t es ds (First (First a)) held agent h w = opened m r0 rs r tr t es ds held agent a h w
leads m Locate r0 rs r tr t es ds (First (Second b)) held agent h w = located m r0 rs r tr t es ds held agent b h w
leads m Replace r0 rs r tr t es ds (Second (First (First a))) held agent h w = replaced m r0 rs r tr t es ds held agent a h w
leads m Enter r0 rs r tr t es ds (Second (First (Second b))) held agent h w = entered m r0 rs r tr t es ds held agent b h w
leads m Unlatch r0 rs r tr t es ds (Second (Second (First done))) held agent h w = unlatched_so m r0 rs r tr t es ds held agent w m.root m.refused h
leads m Drop r0 rs r tr t es ds (Second (Second (Second a))) held agent (k, is, h) w =
    subst (λ (o : Option ℕ). DropLeaves (dropping m.me (root_or o)) rs r t ds a → IsSettled (record m { root = o; point = Drop }) None (settled_steps m.me.geometry.wide m.me.geometry.segments + 2) r0 rs tr es
    → Follows put_root_parts put_root_plan (record m { root = o; point = Drop }) (Second (Second (Second a))) r0 r (tr ++ t) (es ++ ds)) (sym is) (λ v j. dropped_so m r0 rs r tr t es ds held agent k m.refused a j v) w h
leads m _ r0 rs r tr t es ds _ held agent h w = absurd w

-- ---- the plan's laws, by those of the machines that it calls

module _ (opening_laws : PlanLaws open_parts open_plan) (locate : PlanLaws locate_parts locate_plan) (replace : PlanLaws replace_parts replace_plan) (enter : PlanLaws enter_parts enter_plan) where
  -- each call is a part
  parts : (first : Bool) → PartLaws first put_root_parts put_root_part
  parts first =
      or_part_laws first (or_control open_control locate_control) (or_control (or_control replace_control enter_control) (or_control unlatch_control drop_root))
      (or_part (calls_part open_parts open_plan) (calls_part locate_parts locate_plan))
      (or_part (or_part (calls_part replace_parts replace_plan) (calls_part enter_parts enter_plan)) (or_part (calls_part word_control unlatch_plan) (calls_part drop_parts drop_plan)))
      (or_part_laws first open_control locate_control (calls_part open_parts open_plan) (calls_part locate_parts locate_plan) (calls_part_laws open_parts open_plan opening_laws first) (calls_part_laws locate_parts locate_plan locate first))
      (or_part_laws first (or_control replace_control enter_control) (or_control unlatch_control drop_root) (or_part (calls_part replace_parts replace_plan) (calls_part enter_parts enter_plan)) (or_part (calls_part word_control unlatch_plan) (calls_part drop_parts drop_plan))
      (or_part_laws first replace_control enter_control (calls_part replace_parts replace_plan) (calls_part enter_parts enter_plan) (calls_part_laws replace_parts replace_plan replace first) (calls_part_laws enter_parts enter_plan enter first))
      (or_part_laws first unlatch_control drop_root (calls_part word_control unlatch_plan) (calls_part drop_parts drop_plan) (calls_part_laws word_control unlatch_plan unlatch_laws first) (calls_part_laws drop_parts drop_plan drop_laws first)))

  pub put_root_laws : PlanLaws put_root_parts put_root_plan
  put_root_laws =
      record {
        stays = stays;
        calls = λ m. calls m m.point;
        parts = λ m. parts (is_open m.point);
        opens = λ m. opens m m.point;
        leads = λ m r0 rs r tr t es ds b h w held agent. leads m m.point r0 rs r tr t es ds b held agent h w;
      }
