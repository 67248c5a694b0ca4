-- what is owed of a home that comes to name a directory
use Rattle.std.proofs.Common.{◌≡◌, ◌≢◌, ℕ, zero, suc, ◌+◌, ◌%◌, ◌^◌, ◌<◌, refl, sym, ap, ◌∙◌, subst, arith, Bool, true, false, not, ◌&&◌, List, [], ◌∷◌, ◌++◌, inl, inr, length, slice_index}
use Rattle.std.proofs.lemmas.Bool.{cases_eq, cond-false, lt-ltb, ne_eqb}
use Rattle.std.specs.Prelude.{◌==◌, if◌then◌else◌, Some, None, Ok, Err}
use Rattle.shm_words.specs.Layout.{address_limit}
use Rattle.shm_words.specs.declared.place.Place.TheVariants as place
use Rattle.shm_words.proofs.Placing.{address_small, total_small}
use Rattle.shm_graph.specs.declared.{ask.Me.Me, memo.{Memo.Memo, Op.TheVariants.Nothing}, spot.Spot.TheVariants.Home}
use Rattle.shm_graph.specs.{declared.table.Part.Part, Agents.recovers, Asks.{Trail, IsWithin}}
use Rattle.shm_graph.specs.{Bounds.{alloc_steps, redo_steps, tear_steps, up_steps}, Core.core, Events.Event}
use Rattle.shm_graph.specs.{Idle.IsIdle, Laws.Outcome, Reach.is_reached, MemoAfterRead.{home_read, is_held}}
use Rattle.shm_graph.specs.{Spots.spot_address, Views.own_word}
use Rattle.shm_graph.specs.declared.ask.Ask.TheVariants as ask
use Rattle.shm_graph.specs.Events as event
use Rattle.kind_parts.specs.{Conditions.IsHere, Reparting.{sight, map_in, IsBare, TableStep.Founds}}
use Rattle.kind_parts.proofs.Reaching.{root_reached}
use Rattle.plans.specs.{declared.or.Or.TheVariants.{First, Second}, Proved.{CallTells.within_more, Either.or_part_laws}}
use Rattle.plans.specs.{CallsPart.{calls_part, calls_part_laws}, Either.{or_control, or_part}, Parts.{IsHeld, PartLaws}}
use Rattle.plans.specs.{Plans.{PlanLaws, PlanStays, IsCall, Follows}, Words.{word_control, word_part_laws, WordLeaves}}
use Rattle.shm_count.specs.declared.answer.{EraSpent.EraSpent as ASpent, Made.Made}
use Rattle.shm_count.specs.declared.{answer.UpFault.TheVariants.{CountFull, EraSpent}, point.Aim.TheVariants.Up}
use Rattle.shm_count.specs.{MadeSteps.made_up_laws, Slots.{Filled, Parts.{untouched, up_slot_laws}}}
use Rattle.shm_count.specs.Proved.{Slots.Ups.up_leaves, Step.Bound.step_bound, TableSteps.can_found}
use Rattle.shm_count.specs.{Step.{Control.IsInside, CanStep, Machines.{up_control, up_told}}, Tear.Events.frees}
use Rattle.shm_count.specs.CountParts.{StepLeaves}
use Rattle.shm_count.specs.declared.point.StepPoint.TheVariants as step
use Rattle.shm_alloc.specs.declared.{alloc.AllocFault.AllocFault, request.Request.Request}
use Rattle.shm_alloc.specs.Proved.Alloc.{Carrying.made_bare, AsPart.alloc_part_laws}
use Rattle.shm_alloc.specs.Alloc.{Control.{RequestFits, alloc_control}, MadeGives, AsPart.{AllocLeaves, alloc_part}}
use Rattle.shm_alloc.specs.declared.point.AllocPoint.TheVariants as alloc
use Rattle.shm_alloc.proofs.{AllocBound.alloc_bound, MadeBlocks.block_inside}
use Rattle.shm_ref.specs.DropRoot.{Control.{drop_parts, dropping}, DropLeaves, drop_plan}
use Rattle.shm_ref.specs.Proved.{DropRoot.Laws.drop_laws, HomeParts.home_needs}
use Rattle.shm_ref.specs.{HomeParts.{OwnHomeRead, home_address, home_part}, Lefts.RootEvents}
use Rattle.shm_ref.specs.DropRoots.Control.{drop_root}
use Rattle.shm_table.specs.declared.open_table.OpenPoint.{OpenPoint, TheVariants.{Look, Make, Name, Drop}}
use Rattle.shm_table.specs.declared.{open_table.OpenState.OpenState, answer.PutFault.TheVariants.EraSpent as Spent}
use Rattle.shm_table.specs.Answers.{made_fault, spent_fault}
use Rattle.shm_table.specs.OpenTable.Control.{OpenAnswer, directory_request, is_look, open_call_at, open_parts}
use Rattle.shm_table.specs.OpenTable.{IsMade, IsNamed, IsOpening, IsUnopened, MayOpen, OpenKnows, OpenLeaves, OpenRefused, Opened, name_part, open_plan}
use Rattle.shm_table.specs.OpenTable.{OpenEvents.{Founded, Named}, OpenLeft.{Undropped, Unmade, Unnamed}}
use Rattle.shm_table.specs.Staying.Laws.{made_home, made_others, made_root}
use Rattle.shm_table.specs.Proved.Staying.Laws.{cause_before, cleared_drop, dropped_else, home_else, keeps_core, keeps_drop, keeps_home, keeps_made, keeps_more, keeps_untouched, made_cause, raised_cause, rests_core, rests_more, rests_unmade, rests_untouched, same_map, spent_drop}
use Rattle.shm_table.specs.Proved.{Staying.Steps.map_home, Costs.tear_same}

-- ---- the home

-- without a latch the load of a home leaves the memo
home_alone : (m : Memo) (c n : ℕ) → m.latch ≡ None → core (home_read m c n) ≡ core m
home_alone m c n none =
    ap core {y = m} (cond-false (is_held m.latch c && not (n == 0)) (record m { looks = m.looks ++ record { block = n; from = Home c } ∷ [] }) m (ap (λ l. is_held l c && not (n == 0)) none))

-- between two calls an identity is here
idle_here : (c : ℕ) (m : Memo) → IsIdle c m → IsHere m
idle_here c m h = record { joined = λ e. (let z = sym h.live ∙ e in cc); stays = λ e. (let z = sym h.live ∙ e in cc) }

-- the step up may be made at a home that is empty, where a root names the directory
home_can : (me : Me) (d : ℕ) (m : Memo) → IsHeld me m → me.who < me.geometry.clients → IsHere m → m.op ≡ Nothing → recovers m ≡ false → own_word m.own (Home me.who) ≡ 0 → is_reached me.who m d ≡ true → IsBare me.geometry.wide me.who (sight me.who m) d
    → CanStep me (home_address me) (Up d) (Home me.who) m
unfolding spot_address
home_can me d m (w, rs, h, same) l here idle client empty reach bare =
    subst (λ (x : Memo). CanStep me (home_address me) (Up d) (Home me.who) x) same
    (can_found me w rs h l (subst IsHere (sym same) here) (ap (λ (x : Memo). x.op) same ∙ idle) d (ap recovers same ∙ client) (ap (λ (x : Memo). own_word x.own (Home me.who)) same ∙ empty) (ap (λ (x : Memo). is_reached me.who x d) same ∙ reach)
    (Founds refl refl (subst (λ (x : Memo). IsBare me.geometry.wide me.who (sight me.who x) d) (sym same) bare)))

-- ---- the directory

zeros : (i : ℕ) → slice_index directory_request.plain i < 2 ^ 64
zeros zero = omega arith
zeros (suc zero) = omega arith
zeros (suc (suc zero)) = omega arith
zeros (suc (suc (suc zero))) = omega arith
zeros (suc (suc (suc (suc zero)))) = omega arith
zeros (suc (suc (suc (suc (suc zero))))) = omega arith
zeros (suc (suc (suc (suc (suc (suc zero)))))) = omega arith
zeros (suc (suc (suc (suc (suc (suc (suc zero))))))) = omega arith
zeros (suc (suc (suc (suc (suc (suc (suc (suc i)))))))) = omega arith

directory_fits : RequestFits directory_request
directory_fits = record { refs = omega arith; count = omega arith; small = zeros }

made_inside : (me : Me) (q : Request) (m r : Memo) (a : Made) → IsHeld me r → me.who < me.geometry.clients → MadeGives me q m r a → IsInside me a.block
made_inside me q m r a (w, rs, h, same) l gives = block_inside me q m a w rs h l (subst (λ (x : Memo). MadeGives me q m x a) (sym same) gives)

-- ---- the plan

calls : (m : OpenState) (y : OpenPoint) → IsCall open_parts open_plan (record m { point = y })
calls m Look = record { me = refl; asks = refl }
calls m _ = record { me = refl; asks = refl }

opens : (m : OpenState) (y : OpenPoint) (r0 r : Memo) (tr : Trail) (es : List Event) → OpenKnows (record m { point = y }) y r0 r tr es → (open_plan.part (record m { point = y })).needs (open_call_at m y) r
opens m Look r0 r tr es h = home_needs m.me true r h.0.who
opens m Make r0 r tr es h =
    record {
      made = refl;
      knows = record { geometry = h.may.geometry; who = h.may.who; request = directory_fits; point = tt };
      can = record { geometry = h.may.geometry; who = h.may.who; idle = (keeps_core m.me.who r0 r h.may.idle h.same).idle };
    }
opens m Name r0 r tr es h =
    let may = h.may in
    let total = total_small m.me.geometry may.geometry in
    let last = h.inside.1 in
    let idle = h.keeps.idle in
    let reach = root_reached m.me.who r m.block m.root h.has.low idle.op h.has.root h.has.some in (
      (
        refl,
        record {
          made = refl;
          knows = record { geometry = may.geometry; who = may.who; slot = address_small m.me.geometry (place.Home m.me.who) (lt-ltb m.me.who m.me.geometry.clients may.who) may.geometry; aim = omega arith; point = tt };
          can = home_can m.me m.block r h.holds may.who (idle_here m.me.who r idle) idle.op h.client h.home reach h.bare;
        },
      ),
      h.made,
    )
opens m Drop r0 r tr es h =
    let may = h.may in
    let idle = h.keeps.idle in
    record { made = refl; first = refl; start = refl; knows = (record { geometry = may.geometry; who = may.who; here = idle_here m.me.who r idle; idle = idle.op }, h.has.low, refl, refl, refl) }

-- ---- each call

module _ (me : Me) (r0 rs r : Memo) (tr t : Trail) (es ds : List Event) (held : IsHeld me r) (agent : recovers r ≡ recovers rs) where
  abbrev c : ℕ
  c = me.who

  -- the home was loaded, which names a block or none
  module _ (n : ℕ) (may : MayOpen me r0) (begun : rs ≡ r0) (none : tr ≡ []) (quiet : es ≡ []) (w : WordLeaves (OwnHomeRead me.who) (record { me = me; ask = ask.Load (home_address me); over = false }) rs r t ds n) where
    names : n ≡ own_word r0.own (Home me.who)
    names = w.found.found ∙ ap (λ (x : Memo). own_word x.own (Home me.who)) begun

    cored : core r ≡ core r0
    cored = w.found.left ∙ (ap (λ (x : Memo). core (home_read x me.who n)) begun ∙ home_alone r0 me.who n may.none)

    silent : es ++ ds ≡ []
    silent = ap (λ (x : List Event). x ++ ds) quiet ∙ w.none

    bound_one : IsWithin 1 (tr ++ t)
    bound_one = let e = ap length (ap (λ (x : Trail). x ++ t) none) in let o = w.one in omega arith

    unopened : n ≡ 0 → IsUnopened me r0 r (tr ++ t) (es ++ ds)
    unopened e = record { may = may; empty = sym names ∙ e; same = cored; client = agent ∙ (ap recovers begun ∙ may.client); none = silent; bound = bound_one }

    stood : n ≢ 0 → Opened me r0 r (tr ++ t) (es ++ ds)
    stood some =
        let rests = rests_core c r0 r cored in
        let bound = bound_one in
        record {
          keeps = keeps_core c r0 r may.idle cored;
          latch = rests.latch;
          home = λ e. some (names ∙ (sym rests.home ∙ e));
          stays = λ z. rests.home;
          map = same_map r0 r rests.part;
          cleared = rests.cleared;
          events = Named (λ e. some (names ∙ e)) silent;
          opening = inl (rests.home, silent);
          bound = omega arith;
        }

  -- a directory was made
  made : (q : Request) (a : Made) → RequestFits q → q.refs ≡ 16 → q.count ≡ 0 → IsUnopened me r0 rs tr es → AllocLeaves (record { me = me; request = q; point = alloc.Era }) rs r t ds (Ok a) → IsMade me a.root a.block r0 r (tr ++ t) (es ++ ds)
  made q a fits refs plain h g =
      let may = h.may in
      let holds = g.holds in
      let small : me.who < 64 = (let u = may.geometry.clients in let l = may.who in omega arith) in
      let inside = made_inside me q rs r a held may.who holds.gives in
      let before = rests_core c r0 rs h.same in
      let first = keeps_core c r0 rs may.idle h.same in
      let b = alloc_bound me q fits t (Ok a) g.trail in
      record {
        may = may;
        empty = h.empty;
        keeps = keeps_more c r0 rs r first (keeps_made me q rs r (Ok a) small holds);
        has = record {
          low = holds.gives.root;
          free = sym (before.cleared.roots a.root) ∙ holds.gives.empty;
          some = λ e. (let l = inside.0 in absurd (omega arith));
          root = made_root me q rs r a holds;
          others = λ j n. made_others me q rs r a holds j n ∙ before.cleared.roots j;
          latch = holds.stays.latch ∙ before.latch;
          dying = holds.stays.dying ∙ before.cleared.dying;
        };
        home = made_home me q rs r a holds ∙ (before.home ∙ h.empty);
        part = holds.stays.part ∙ before.part;
        inside = inside;
        bare = made_bare me q rs r a holds small refs plain;
        made = holds.gives.made;
        holds = held;
        client = agent ∙ h.client;
        told = ap (λ (x : List Event). x ++ ds) h.none ∙ g.events;
        bound = within_more 1 (alloc_steps me.geometry.wide me.geometry.segments) tr t h.bound (omega arith);
      }

  -- or wasn't
  unmade : (q : Request) (f : AllocFault) → RequestFits q → IsUnopened me r0 rs tr es → AllocLeaves (record { me = me; request = q; point = alloc.Era }) rs r t ds (Err f) → OpenRefused me r0 r (tr ++ t) (es ++ ds) (made_fault f)
  unmade q f fits h g =
      let may = h.may in
      let small : me.who < 64 = (let u = may.geometry.clients in let l = may.who in omega arith) in
      let rests = rests_more c r0 rs r (rests_core c r0 rs h.same) (rests_unmade me q rs r f g.holds) in
      let first = keeps_core c r0 rs may.idle h.same in
      let b = alloc_bound me q fits t (Err f) g.trail in
      let bound = within_more 1 (alloc_steps me.geometry.wide me.geometry.segments) tr t h.bound (omega arith) in
      record {
        empty = h.empty;
        keeps = keeps_more c r0 rs r first (keeps_made me q rs r (Err f) small g.holds);
        latch = rests.latch;
        map = same_map r0 r rests.part;
        cause = cause_before me r0 rs r (made_fault f) (rests_core c r0 rs h.same).cleared.roots (made_cause me q rs r f g.holds);
        visits = [];
        left = Unmade f refl rests.cleared (rests.home ∙ h.empty) (ap (λ (x : List Event). x ++ ds) h.none ∙ g.events) refl;
        bound = omega arith;
      }

  module _ (k d : ℕ) where
    -- the home came to name it
    named : (u : Unit {0}) → IsMade me k d r0 rs tr es → StepLeaves (Home me.who) (record { me = me; slot = home_address me; aim = Up d; point = step.Era }) rs r t ds (up_told (Ok u)) → IsNamed me k d r0 r (tr ++ t) (es ++ ds)
    named u h left =
        let idle = h.keeps.idle in
        let filled : Filled c (Home c) d rs r = up_leaves me (home_address me) d (Home c) rs r false refl idle.op left.gives in
        let else_ = home_else c d rs r filled in
        let b = step_bound me (home_address me) (Up d) t (up_told (Ok u)) left.trail in
        record {
          may = h.may;
          empty = h.empty;
          keeps = keeps_more c r0 rs r h.keeps (keeps_home c d rs r idle filled);
          has = record {
            low = h.has.low;
            free = h.has.free;
            some = h.has.some;
            root = else_.3.roots k ∙ h.has.root;
            others = λ j n. else_.3.roots j ∙ h.has.others j n;
            latch = else_.0 ∙ h.has.latch;
            dying = else_.3.dying ∙ h.has.dying;
          };
          home = else_.1;
          map = λ j. map_home me rs r d h.holds h.may.who idle.op (h.keeps.loose ∙ h.may.table) h.home h.has.some else_.2 (Founds refl refl h.bare) j ∙ ap (λ (o : Part). map_in o j) h.part;
          told = ap (λ (x : List Event). x ++ ds) h.told ∙ ap (λ (x : List Event). event.Alloc c k d ∷ x) left.events;
          bound = within_more (1 + alloc_steps me.geometry.wide me.geometry.segments) (up_steps me.geometry.wide) tr t h.bound b;
        }

    -- or the step up was refused
    unnamed : (e : ℕ) → IsMade me k d r0 rs tr es → StepLeaves (Home me.who) (record { me = me; slot = home_address me; aim = Up d; point = step.Era }) rs r t ds (up_told (Err (EraSpent e))) → OpenRefused me r0 r (tr ++ t) (es ++ ds) (Spent e)
    unnamed e h left =
        let idle = h.keeps.idle in
        let y = untouched me (Up d) (Home c) false rs r (EraSpent e) left.gives in
        let rests = rests_untouched c rs r y.0 in
        let b = step_bound me (home_address me) (Up d) t (up_told (Err (EraSpent e))) left.trail in
        let bound = within_more (1 + alloc_steps me.geometry.wide me.geometry.segments) (up_steps me.geometry.wide) tr t h.bound b in
        record {
          empty = h.empty;
          keeps = keeps_more c r0 rs r h.keeps (keeps_untouched c rs r idle y.0);
          latch = rests.latch ∙ h.has.latch;
          map = same_map r0 r (rests.part ∙ h.part);
          cause = raised_cause me (Up d) r0 rs r (EraSpent e) y.0 y.1;
          visits = [];
          left = Unnamed e refl k d (record {
            low = h.has.low;
            free = h.has.free;
            some = h.has.some;
            root = rests.cleared.roots k ∙ h.has.root;
            others = λ j n. rests.cleared.roots j ∙ h.has.others j n;
            latch = rests.latch ∙ h.has.latch;
            dying = rests.cleared.dying ∙ h.has.dying;
          }) (rests.home ∙ h.home) (ap (λ (x : List Event). x ++ ds) h.told ∙ ap (λ (x : List Event). event.Alloc c k d ∷ x) left.events) refl;
          bound = omega arith;
        }

    told_so : IsNamed me k d r0 rs tr es → es ++ ds ≡ event.Alloc me.who k d ∷ event.Up me.who (Home me.who) d ∷ ds
    told_so h = ap (λ (x : List Event). x ++ ds) h.told

    -- its root was dropped
    dropped : (z : Bool) → IsNamed me k d r0 rs tr es → DropLeaves (dropping me k) rs r t ds (Ok z) → Opened me r0 r (tr ++ t) (es ++ ds)
    dropped z h g =
        let told = told_so h in
        let f : frees (es ++ ds) ≡ frees ds = ap frees told ∙ omega arith in
        let else_ = dropped_else c k rs r g.left in
        let torn = tear_same me.geometry.wide (frees (es ++ ds) + 0) (frees ds) (omega arith) in
        let bound = within_more (1 + up_steps me.geometry.wide + alloc_steps me.geometry.wide me.geometry.segments) (8 + redo_steps me.geometry.wide + tear_steps me.geometry.wide (frees ds)) tr t (let b = h.bound in omega arith) g.bound in
        record {
          keeps = keeps_drop (dropping me k) r0 rs r t ds (Ok z) h.keeps h.has.free g;
          latch = else_.0 ∙ h.has.latch;
          home = λ e. h.has.some (sym (else_.1 ∙ h.home) ∙ e);
          stays = λ some. absurd (some h.empty);
          map = λ j. ap (λ (o : Part). map_in o j) else_.2 ∙ h.map j;
          cleared = cleared_drop (dropping me k) r0 rs r t ds z h.has.free h.has.others h.has.dying g;
          events = Founded h.empty k d ds told (subst (λ x. RootEvents c k x ds) h.has.root g.events);
          opening = subst (λ x. IsOpening c (own_word r0.own (Home c)) x (es ++ ds)) (sym (else_.1 ∙ h.home)) (inr (h.empty, h.has.some, (k, ds, told, subst (λ x. RootEvents c k x ds) h.has.root g.events)));
          bound = omega arith;
        }

    -- or the drop was refused
    undropped : (e : ASpent) → IsNamed me k d r0 rs tr es → DropLeaves (dropping me k) rs r t ds (Err e) → OpenRefused me r0 r (tr ++ t) (es ++ ds) (spent_fault e)
    undropped e h (vs, g) =
        let told = told_so h in
        let f : frees (es ++ ds) ≡ frees ds = ap frees told ∙ omega arith in
        let else_ = dropped_else c k rs r g.left in
        let torn = tear_same me.geometry.wide (frees (es ++ ds) + length vs) (frees ds + length vs) (omega arith) in
        let bound = within_more (1 + up_steps me.geometry.wide + alloc_steps me.geometry.wide me.geometry.segments) (8 + redo_steps me.geometry.wide + tear_steps me.geometry.wide (frees ds + length vs)) tr t (let b = h.bound in omega arith) g.bound in
        record {
          empty = h.empty;
          keeps = keeps_drop (dropping me k) r0 rs r t ds (Err e) h.keeps h.has.free (vs, g);
          latch = else_.0 ∙ h.has.latch;
          map = λ j. ap (λ (o : Part). map_in o j) else_.2 ∙ h.map j;
          cause = spent_drop (dropping me k) r0 rs r t ds e (vs, g);
          visits = vs;
          left = Undropped e.era refl k d h.has.free h.has.some (else_.1 ∙ h.home) (λ j n. else_.3 j n ∙ h.has.others j n) (record { left = g.stopped.left; others = g.stopped.others ∙ h.has.dying; spent = g.stopped.spent }) ds told;
          bound = omega arith;
        }

-- ---- the parts

name_laws : (m : OpenState) (y : OpenPoint) → PartLaws (is_look y) up_control (name_part m y)
name_laws m Look = up_slot_laws (Home m.me.who) false true
name_laws m Name = made_up_laws (Home m.me.who)
name_laws m _ = up_slot_laws (Home m.me.who) false false

-- ---- all of it

pub open_laws : PlanLaws open_parts open_plan
open_laws =
    record {
      stays = stays;
      calls = λ m. calls m m.point;
      parts = λ m. let first = is_look m.point in
          or_part_laws first word_control (or_control alloc_control (or_control up_control drop_root)) (home_part m.me first) (or_part alloc_part (or_part (name_part m m.point) (calls_part drop_parts drop_plan)))
          (word_part_laws first m.me (ask.Load (home_address m.me)) (OwnHomeRead m.me.who))
          (or_part_laws first alloc_control (or_control up_control drop_root) alloc_part (or_part (name_part m m.point) (calls_part drop_parts drop_plan)) (alloc_part_laws first)
          (or_part_laws first up_control drop_root (name_part m m.point) (calls_part drop_parts drop_plan) (name_laws m m.point) (calls_part_laws drop_parts drop_plan drop_laws first)));
      opens = λ m. opens m m.point;
      leads = λ m r0 rs r tr t es ds a h g held same. leads m m.point r0 rs r tr t es ds a h g held same;
    }
  where
    stays : (m : OpenState) (a : OpenAnswer) → PlanStays open_parts open_plan m a
    stays m (Second (First (Err f))) = record { same_me = refl; same_line = refl; same_start = refl; started = λ e. absurd (cc) }
    stays m (Second (Second (First (Err f)))) = record { same_me = refl; same_line = refl; same_start = refl; started = λ e. absurd (cc) }
    stays m (Second (Second (Second (Ok z)))) = record { same_me = refl; same_line = refl; same_start = refl; started = λ e. absurd (cc) }
    stays m (Second (Second (Second (Err e)))) = record { same_me = refl; same_line = refl; same_start = refl; started = λ z. absurd (cc) }
    stays m _ = record { same_me = refl; same_line = refl; same_start = refl; started = λ e. refl }

    -- each call leads on
    leads : (m : OpenState) (y : OpenPoint) (r0 rs r : Memo) (tr t : Trail) (es ds : List Event) (a : OpenAnswer) → OpenKnows (record m { point = y }) y r0 rs tr es → (open_plan.part (record m { point = y })).leaves (open_call_at m y) rs r t ds a → IsHeld m.me r → recovers r ≡ recovers rs
        → Follows open_parts open_plan (record m { point = y }) a r0 r (tr ++ t) (es ++ ds)
    leads m Look r0 rs r tr t es ds (First n) (may, begun, none, quiet) g held agent =
        let left = OpenLeaves (record m { root = 0; block = 0; point = Look }) r0 r (tr ++ t) (es ++ ds) in
        let next = IsUnopened m.me r0 r (tr ++ t) (es ++ ds) in
        elim (cases_eq n 0) [
          | inl e ↦ subst (λ z. Outcome (if z == 0 then None else Some (Ok tt)) next left) (sym e) (unopened m.me r0 rs r tr t es ds held agent n may begun none quiet g e)
          | inr some ↦ subst (λ z. Outcome (if z then None else Some (Ok tt)) next left) (sym (ne_eqb n 0 some)) (stood m.me r0 rs r tr t es ds held agent n may begun none quiet g some)
        ]
    leads m Make r0 rs r tr t es ds (Second (First (Ok a))) h g held agent =
        let is = made m.me r0 rs r tr t es ds held agent directory_request a directory_fits refl refl h g in
        let total = total_small m.me.geometry h.may.geometry in
        let end = is.inside.1 in
        let low = is.has.low in
        let root : a.root % 16 ≡ a.root = omega arith in
        let block : a.block % address_limit ≡ a.block = omega arith in
        subst (λ x. IsMade m.me x (a.block % address_limit) r0 r (tr ++ t) (es ++ ds)) (sym root) (subst (λ x. IsMade m.me a.root x r0 r (tr ++ t) (es ++ ds)) (sym block) is)
    leads m Make r0 rs r tr t es ds (Second (First (Err f))) h g held agent = unmade m.me r0 rs r tr t es ds held agent directory_request f directory_fits h g
    leads m Name r0 rs r tr t es ds (Second (Second (First (Ok u)))) h g held agent = named m.me r0 rs r tr t es ds held agent m.root m.block u h g.0.0
    leads m Name r0 rs r tr t es ds (Second (Second (First (Err (EraSpent e))))) h g held agent = unnamed m.me r0 rs r tr t es ds held agent m.root m.block e h g.0.0
    leads m Name r0 rs r tr t es ds (Second (Second (First (Err (CountFull b n))))) h g held agent = absurd g.1
    leads m Drop r0 rs r tr t es ds (Second (Second (Second (Ok z)))) h g held agent = dropped m.me r0 rs r tr t es ds held agent m.root m.block z h g
    leads m Drop r0 rs r tr t es ds (Second (Second (Second (Err e)))) h g held agent = undropped m.me r0 rs r tr t es ds held agent m.root m.block e h g
    leads m _ r0 rs r tr t es ds _ h g held agent = absurd g
