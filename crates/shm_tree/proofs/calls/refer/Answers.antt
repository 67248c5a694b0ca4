use Rattle.std.proofs.Common.{◌≡◌, ℕ, ◌+◌, ◌≤◌, true, refl, sym, ap, ◌∙◌, subst, arith, inl, inr, Bool, ◌<◌, false}
use Rattle.std.proofs.lemmas.Bool.{cases_eq}
use Rattle.std.specs.Prelude.{Some, Result, Ok, Err}
use Rattle.shm_words.specs.Layout.{total_of}
use Rattle.shm_graph.specs.{declared.ask.Me.Me, Asks.IsWithin, Reach.is_reached, Tells.happens_along}
use Rattle.plans.specs.CallsControl.{calls_control, calls_of, calls_does}
use Rattle.shm_plain.specs.{Calls.{IsAtWork, Ran, TookSteps, Did}, Pools.{Pool, memo_of}}
use Rattle.shm_count.specs.Roots.{member}
use Rattle.shm_ref.specs.{declared.{answer.SetFault.SetFault, set_ref.SetState.SetState}, Proved.RootTasks.SetMay}
use Rattle.shm_ref.specs.SetRef.{Control.{set_parts, setting, set_steered}, set_plan}
use Rattle.shm_ref.specs.declared.answer.SetFault.TheVariants as fault
use Rattle.shm_client.proofs.{Reaching.{reached_small, reached_whole}, Running.{MachineLeft, plan_may}}
use Rattle.shm_tree.specs.{Bounds.refer_steps, Keeping.side_word, Falling.{AreFalling, IsUnnamed}}
use Rattle.shm_tree.proofs.{Alive.went_alive, Answering.{Answered, plan_answered}}
use Rattle.shm_tree.proofs.Refers.{full_within, set_cause, set_full, set_latch, set_reaches, set_refers, set_refused, set_spent, set_within, set_works, spent_within}
use Rattle.shm_tree.proofs.{SureCalls.set_most, Referring.{setting_falls, setting_unnamed}, CutOffs.changes_dead}
use Rattle.shm_tree.proofs.calls.refer.Goals.{After-me, After-new-setting, After-run}
use Rattle.shm_tree.proofs.calls.refer.Goals as goal

-- the node is in reach, as a root names it
reached : (c : After-me) → is_reached 0 (memo_of c.args.pool.now 0) c.args.node ≡ true
reached c =
    let (k, low, is) = c.requires.named in
    c.requires.working.reached k c.args.node low c.requires.node.3.some is

planned : (c : After-new-setting) → c.new-setting.result ≡ setting c.me.result c.args.node (side_word c.args.side) c.args.child
planned c = c.new-setting.ensures ∙ ap (λ k. setting c.me.result c.args.node k c.args.child) c.word.ensures

-- its events are told, of the plan as it was made
told : (c : After-run) → 0 < c.args.life.now.left → Did 0 c.args.pool.now c.run.new.self (happens_along (calls_control set_parts set_steered) (calls_does set_parts set_plan) (calls_of set_steered (setting c.me.result c.args.node (side_word c.args.side) c.args.child)) (memo_of c.run.new.self 0).call)
told c = subst (λ (z : SetState). 0 < c.args.life.now.left → Did 0 c.args.pool.now c.run.new.self (happens_along (calls_control set_parts set_steered) (calls_does set_parts set_plan) (calls_of set_steered z) (memo_of c.run.new.self 0).call)) (planned (goal.at.After-run c).After-new-setting) c.run.ensures.told

-- references fall after it, whether it was answered or not
falls : (c : After-run) (answered : Bool) → Ran 0 true answered c.args.pool.now c.run.new.self c.args.life.now.left c.run.new.life.left → AreFalling c.args.pool.now → AreFalling c.run.new.self
falls c answered ran = setting_falls c.args.node (side_word c.args.side) c.args.child c.me.result c.args.pool.now c.run.new.self c.args.life.now.left c.run.new.life.left c.requires.working (told c) c.requires.unnamed c.requires.other answered ran

unnamed : (c : After-run) → Ran 0 true true c.args.pool.now c.run.new.self c.args.life.now.left c.run.new.life.left → IsUnnamed c.run.new.self c.args.node
unnamed c ran = setting_unnamed c.args.node (side_word c.args.side) c.args.child c.me.result c.args.pool.now c.run.new.self c.args.life.now.left c.run.new.life.left c.requires.working (told c) c.requires.unnamed c.requires.other c.requires.node.3.some ran

pub new-setting-requires-clause-block : goal.new-setting-requires-clause-block
new-setting-requires-clause-block c =
    subst (λ (x : Me). c.args.node + 2 ≤ total_of x.geometry) (sym c.me.ensures.is)
    (reached_whole c.args.pool.now 0 c.requires.working.work c.requires.working.run c.args.node (reached (goal.at.new-setting-requires-clause-block c).After-me))

pub new-setting-requires-clause-to : goal.new-setting-requires-clause-to
new-setting-requires-clause-to c =
    elim (cases_eq c.args.child 0) [
      | inl e ↦ omega (arith, e)
      | inr n ↦ reached_small c.args.pool.now 0 c.requires.working.work c.requires.working.run c.args.child (c.requires.reached n)
    ]

pub run-requires-clause-may : goal.run-requires-clause-may
run-requires-clause-may c =
    let at = goal.at.run-requires-clause-may c in
    plan_may set_plan (λ (x : Me). setting x c.args.node (side_word c.args.side) c.args.child) (member c.args.pool.now.start.geometry 0) _ _ _ c.me.ensures.is (planned at.After-new-setting) refl
    SetMay (memo_of c.args.pool.now 0) (refl, c.requires.working.client, c.requires.working.loose, reached at.After-me, c.requires.reached)

-- what is left where it answered a, which is b
left : (c : After-new-setting) (q : Pool) (y : ℕ) (a b : Result (Unit {0}) SetFault) → a ≡ b → Ran 0 true true c.args.pool.now q c.args.life.now.left y → IsAtWork 0 q → MachineLeft set_parts set_plan (calls_of set_steered c.new-setting.result) 0 c.args.pool.now q (Some a)
    → Answered set_plan (setting (member c.args.pool.now.start.geometry 0) c.args.node (side_word c.args.side) c.args.child) c.args.pool.now q b
left c q y a b is ran at h = plan_answered set_parts set_plan (λ (z : Me). setting z c.args.node (side_word c.args.side) c.args.child) c.args.pool.now q a c.me.ensures.is (planned c) is c.requires.working ran at h

-- no exchange of it failed
took_few : (c : After-new-setting) (q : Pool) (y : ℕ) → TookSteps (calls_control set_parts set_steered) 0 c.args.pool.now (calls_of set_steered c.new-setting.result) q → Ran 0 true true c.args.pool.now q c.args.life.now.left y → IsWithin (refer_steps c.args.pool.now.start.geometry) (memo_of q 0).call
    → c.args.life.now.left ≤ y + refer_steps c.args.pool.now.start.geometry
took_few c q y took ran most =
    let p = c.args.pool.now in
    let k = side_word c.args.side in
    let made : c.new-setting.result ≡ setting (member p.start.geometry 0) c.args.node k c.args.child = planned c ∙ ap (λ (z : Me). setting z c.args.node k c.args.child) c.me.ensures.is in
    set_most (refer_steps p.start.geometry) p q c.args.node k c.args.child c.args.life.now.left y c.requires.working (refl, c.requires.working.client, c.requires.working.loose, reached (goal.at.After-new-setting c).After-me, c.requires.reached)
    (subst (λ (z : SetState). TookSteps (calls_control set_parts set_steered) 0 p (calls_of set_steered z) q) made took) ran most

-- it isn't refused but at the count step
never : (c : After-new-setting) (q : Pool) (y : ℕ) (a : Result (Unit {0}) SetFault) (f : SetFault) → a ≡ Err f → ((e : ℕ) → f ≡ fault.EraSpent e → ⊥) → ((d n : ℕ) → f ≡ fault.CountFull d n → ⊥) → Ran 0 true true c.args.pool.now q c.args.life.now.left y → IsAtWork 0 q
    → MachineLeft set_parts set_plan (calls_of set_steered c.new-setting.result) 0 c.args.pool.now q (Some a) → ⊥
never c q y a f is spent full ran at h =
    let (es, on, l) = left c q y a (Err f) is ran at h in
    let (i, n, d, node) = c.requires.node in
    set_refused c.args.pool.now q es on c.args.node c.args.side c.args.child i n d node c.requires.empty f spent full c.requires.latch l

pub unreachable-requires : goal.unreachable-requires
unreachable-requires c =
    let x = c.in-Some-Err-NotAuthor in
    let is = x.field-0-0-is in
    never (goal.at.unreachable-requires c).After-new-setting c.run.new.self _ x.field-0 x.field-0-0 x.field-0-is (λ e s. cc) (λ b n s. cc) x.ensures.ran (x.ensures.at_work tt) x.ensures.leaves

pub unreachable-requires-in-Some-Err-NoSuchRef : goal.unreachable-requires-in-Some-Err-NoSuchRef
unreachable-requires-in-Some-Err-NoSuchRef c =
    let x = c.in-Some-Err-NoSuchRef in
    let is = x.field-0-0-is in
    never (goal.at.unreachable-requires-in-Some-Err-NoSuchRef c).After-new-setting c.run.new.self _ x.field-0 x.field-0-0 x.field-0-is (λ e s. cc) (λ b n s. cc) x.ensures.ran (x.ensures.at_work tt) x.ensures.leaves

pub unreachable-requires-in-Some-Err-NotHeld : goal.unreachable-requires-in-Some-Err-NotHeld
unreachable-requires-in-Some-Err-NotHeld c =
    let x = c.in-Some-Err-NotHeld in
    let is = x.field-0-0-is in
    never (goal.at.unreachable-requires-in-Some-Err-NotHeld c).After-new-setting c.run.new.self _ x.field-0 x.field-0-0 x.field-0-is (λ e s. cc) (λ b n s. cc) x.ensures.ran (x.ensures.at_work tt) x.ensures.leaves

pub returns-in-None : goal.returns-in-None
returns-in-None c =
    record {
      changes = changes_dead c.requires.working c.in-None.ensures.ran (falls (goal.at.returns-in-None c).After-run false c.in-None.ensures.ran);
      refers = tt;
      unnamed = tt;
    }

pub returns-in-Some-Ok : goal.returns-in-Some-Ok
returns-in-Some-Ok c =
    let p = c.args.pool.now in
    let q = c.run.new.self in
    let b = c.args.node in
    let s = c.args.side in
    let to = c.args.child in
    let (i, n, d, node) = c.requires.node in
    let x = c.in-Some-Ok in
    let (es, on, h) = left (goal.at.returns-in-Some-Ok c).After-new-setting q _ x.field-0 (Ok tt) x.field-0-is x.ensures.ran (x.ensures.at_work tt) x.ensures.leaves in
    record {
      changes =
          record {
            went = went_alive true p q _ _ x.ensures.ran (x.ensures.at_work tt) (falls (goal.at.returns-in-Some-Ok c).After-run true x.ensures.ran);
            working = set_works p q es on b s to i n d node c.requires.empty tt h;
            latch = set_latch p q es on b s to i n d node c.requires.empty (Ok tt) h;
            reaches = set_reaches p q es on b s to i n d node c.requires.empty tt h;
            refused = tt;
            steps = took_few (goal.at.returns-in-Some-Ok c).After-new-setting q _ x.ensures.took x.ensures.ran (set_within p q es on b s to i n d node c.requires.empty tt h);
            cause = tt;
            died = tt;
            late = tt;
          };
      refers = set_refers p q es on b s to i n d node c.requires.empty tt h;
      unnamed = unnamed (goal.at.returns-in-Some-Ok c).After-run x.ensures.ran;
    }

pub returns-in-Some-Err-EraSpent : goal.returns-in-Some-Err-EraSpent
returns-in-Some-Err-EraSpent c =
    let p = c.args.pool.now in
    let q = c.run.new.self in
    let b = c.args.node in
    let s = c.args.side in
    let to = c.args.child in
    let x = c.in-Some-Err-EraSpent in
    let f = fault.EraSpent x.era in
    let (i, n, d, node) = c.requires.node in
    let (es, on, h) = left (goal.at.returns-in-Some-Err-EraSpent c).After-new-setting q _ x.field-0 (Err f) (x.field-0-is ∙ ap Err x.field-0-0-is) x.ensures.ran (x.ensures.at_work tt) x.ensures.leaves in
    let none = set_spent p q es on b s to i n d node c.requires.empty x.era h in
    record {
      changes =
          record {
            went = went_alive true p q _ _ x.ensures.ran (x.ensures.at_work tt) (falls (goal.at.returns-in-Some-Err-EraSpent c).After-run true x.ensures.ran);
            working = none.works;
            latch = set_latch p q es on b s to i n d node c.requires.empty (Err f) h;
            reaches = none.reaches;
            refused = none.still;
            steps = took_few (goal.at.returns-in-Some-Err-EraSpent c).After-new-setting q _ x.ensures.took x.ensures.ran (spent_within p q es on b s to i n d node c.requires.empty x.era h);
            cause = inr (inl (set_cause p q es on b s to i n d node c.requires.empty f h));
            died = λ e. absurd cc;
            late = λ e. absurd cc;
          };
      refers = tt;
      unnamed = tt;
    }

pub returns-in-Some-Err-CountFull : goal.returns-in-Some-Err-CountFull
returns-in-Some-Err-CountFull c =
    let p = c.args.pool.now in
    let q = c.run.new.self in
    let b = c.args.node in
    let s = c.args.side in
    let to = c.args.child in
    let x = c.in-Some-Err-CountFull in
    let f = fault.CountFull x.block x.count in
    let (i, n, d, node) = c.requires.node in
    let (es, on, h) = left (goal.at.returns-in-Some-Err-CountFull c).After-new-setting q _ x.field-0 (Err f) (x.field-0-is ∙ ap Err x.field-0-0-is) x.ensures.ran (x.ensures.at_work tt) x.ensures.leaves in
    let none = set_full p q es on b s to i n d node c.requires.empty x.block x.count h in
    record {
      changes =
          record {
            went = went_alive true p q _ _ x.ensures.ran (x.ensures.at_work tt) (falls (goal.at.returns-in-Some-Err-CountFull c).After-run true x.ensures.ran);
            working = none.works;
            latch = set_latch p q es on b s to i n d node c.requires.empty (Err f) h;
            reaches = none.reaches;
            refused = none.still;
            steps = took_few (goal.at.returns-in-Some-Err-CountFull c).After-new-setting q _ x.ensures.took x.ensures.ran (full_within p q es on b s to i n d node c.requires.empty x.block x.count h);
            cause = inl (set_cause p q es on b s to i n d node c.requires.empty f h);
            died = λ e. absurd cc;
            late = λ e. absurd cc;
          };
      refers = tt;
      unnamed = tt;
    }
