use Rattle.std.proofs.Common.{◌≡◌, refl, ap, ◌∙◌, arith, inl, inr, List, [], ◌∷◌, true, false}
use Rattle.std.specs.Prelude.{Some, Ok, Err}
use Rattle.shm_graph.specs.Events.{Event}
use Rattle.shm_alloc.specs.Alloc.Events.{own_events}
use Rattle.shm_alloc.specs.declared.alloc.AllocFault.TheVariants as fault
use Rattle.shm_count.specs.Roots.{member}
use Rattle.shm_tree.proofs.Alive.{on_answer, went_alive}
use Rattle.shm_tree.proofs.Makes.{full_over, make_cause, make_latch, make_made, make_reaches, make_room, make_within, make_works, refused_reaches, refused_still, spent_over}
use Rattle.shm_tree.proofs.{Asking.asked_near, Harmless.alloc_falls, Unnamed.made_unnamed, CutOffs.changes_dead}
use Rattle.shm_tree.proofs.Lasts.{full_late, spent_late}
use Rattle.shm_tree.proofs.calls.make.Goals as goal

pub unreachable-requires : goal.unreachable-requires
unreachable-requires c =
    let p = c.args.pool.now in
    let q = c.allocate.new.pool in
    let x = c.in-Ok-Some-Err-RootsFull in
    let e : x.field-0 ≡ Some (Err fault.RootsFull) = x.field-0-is ∙ ap Some (x.field-0-0-is ∙ ap Err x.field-0-0-0-is) in
    let es : List Event = own_events (member p.start.geometry 0) (Err fault.RootsFull) in
    let on = on_answer true p q _ _ es c.requires.working (rw e at x.ensures.ran) (rw e at x.ensures.at_work) (rw e at x.ensures.events) in
    let (m, by, y) = rw e at x.ensures.gives in
    let asked = asked_near c.args.hints p.start.geometry (c.args.content.key ∷ c.args.content.number ∷ c.args.height ∷ []) m by in
    make_room p q es on c.args.content c.args.height m asked c.requires.room y

pub unreachable-requires-in-Err : goal.unreachable-requires-in-Err
unreachable-requires-in-Err c =
    elim (c.in-Err.ensures.refused.0 refl) [
      | inl many ↦ omega (arith, many)
      | inr long ↦ omega (arith, long)
    ]

pub returns-in-Ok-None : goal.returns-in-Ok-None
returns-in-Ok-None c =
    let x = c.in-Ok-None in
    let ran = rw x.field-0-is at x.ensures.ran in
    record {
      changes = changes_dead c.requires.working ran (alloc_falls _ false c.args.pool.now c.allocate.new.pool _ _ c.requires.working ran x.ensures.told);
      made = tt;
      unnamed = tt;
    }

pub returns-in-Ok-Some-Ok : goal.returns-in-Ok-Some-Ok
returns-in-Ok-Some-Ok c =
    let p = c.args.pool.now in
    let q = c.allocate.new.pool in
    let x = c.in-Ok-Some-Ok in
    let a = x.made in
    let e : x.field-0 ≡ Some (Ok a) = x.field-0-is ∙ ap Some x.field-0-0-is in
    let es : List Event = own_events (member p.start.geometry 0) (Ok a) in
    let ran = rw e at x.ensures.ran in
    let at = rw e at x.ensures.at_work in
    let on = on_answer true p q _ _ es c.requires.working ran at (rw e at x.ensures.events) in
    let (m, by, y) = rw e at x.ensures.gives in
    let asked = asked_near c.args.hints p.start.geometry (c.args.content.key ∷ c.args.content.number ∷ c.args.height ∷ []) m by in
    let low = rw e at x.ensures.number in
    let names = rw e at x.ensures.root in
    let others = rw e at x.ensures.roots in
    let d = c.args.content in
    let h = c.args.height in
    record {
      changes =
          record {
            went = went_alive true p q _ _ ran at (alloc_falls _ true p q _ _ c.requires.working ran x.ensures.told);
            working = make_works p q es on d h m asked (Ok a) y (refl, tt);
            latch = make_latch p q es on d h m asked (Ok a) y;
            reaches = make_reaches p q es on d h m asked a y refl low names others;
            refused = tt;
            steps = make_within p q es on d h m asked _ _ (Ok a) y (ran.spent (ran.some refl) refl);
            cause = tt;
            died = tt;
            late = tt;
          };
      made = make_made p q es on d h m asked a y refl low names others;
      unnamed = made_unnamed p q es on a (tt, tt) (make_made p q es on d h m asked a y refl low names others).born;
    }

pub returns-in-Ok-Some-Err-Full : goal.returns-in-Ok-Some-Err-Full
returns-in-Ok-Some-Err-Full c =
    let p = c.args.pool.now in
    let q = c.allocate.new.pool in
    let x = c.in-Ok-Some-Err-Full in
    let f = fault.Full x.segments x.blocks in
    let e : x.field-0 ≡ Some (Err (fault.Full x.segments x.blocks)) = x.field-0-is ∙ ap Some (x.field-0-0-is ∙ ap Err x.field-0-0-0-is) in
    let es : List Event = own_events (member p.start.geometry 0) (Err (fault.Full x.segments x.blocks)) in
    let ran = rw e at x.ensures.ran in
    let at = rw e at x.ensures.at_work in
    let on = on_answer true p q _ _ es c.requires.working ran at (rw e at x.ensures.events) in
    let (m, by, y) = rw e at x.ensures.gives in
    let asked = asked_near c.args.hints p.start.geometry (c.args.content.key ∷ c.args.content.number ∷ c.args.height ∷ []) m by in
    let d = c.args.content in
    let h = c.args.height in
    record {
      changes =
          record {
            went = went_alive true p q _ _ ran at (alloc_falls _ true p q _ _ c.requires.working ran x.ensures.told);
            working = make_works p q es on d h m asked (Err f) y tt;
            latch = make_latch p q es on d h m asked (Err f) y;
            reaches = refused_reaches p q es on d h m asked f y;
            refused = refused_still p q es on d h m asked f y refl;
            steps = make_within p q es on d h m asked _ _ (Err f) y (ran.spent (ran.some refl) refl);
            cause = make_cause p q es on d h m asked c.args.hints f by y;
            died = full_over x.segments x.blocks p q c.allocate.new.life.left;
            late = full_late x.segments x.blocks p q c.args.life.now.left;
          };
      made = tt;
      unnamed = tt;
    }

pub returns-in-Ok-Some-Err-EraSpent : goal.returns-in-Ok-Some-Err-EraSpent
returns-in-Ok-Some-Err-EraSpent c =
    let p = c.args.pool.now in
    let q = c.allocate.new.pool in
    let x = c.in-Ok-Some-Err-EraSpent in
    let f = fault.EraSpent x.era in
    let e : x.field-0 ≡ Some (Err (fault.EraSpent x.era)) = x.field-0-is ∙ ap Some (x.field-0-0-is ∙ ap Err x.field-0-0-0-is) in
    let es : List Event = own_events (member p.start.geometry 0) (Err (fault.EraSpent x.era)) in
    let ran = rw e at x.ensures.ran in
    let at = rw e at x.ensures.at_work in
    let on = on_answer true p q _ _ es c.requires.working ran at (rw e at x.ensures.events) in
    let (m, by, y) = rw e at x.ensures.gives in
    let asked = asked_near c.args.hints p.start.geometry (c.args.content.key ∷ c.args.content.number ∷ c.args.height ∷ []) m by in
    let d = c.args.content in
    let h = c.args.height in
    record {
      changes =
          record {
            went = went_alive true p q _ _ ran at (alloc_falls _ true p q _ _ c.requires.working ran x.ensures.told);
            working = make_works p q es on d h m asked (Err f) y tt;
            latch = make_latch p q es on d h m asked (Err f) y;
            reaches = refused_reaches p q es on d h m asked f y;
            refused = refused_still p q es on d h m asked f y refl;
            steps = make_within p q es on d h m asked _ _ (Err f) y (ran.spent (ran.some refl) refl);
            cause = inl (make_cause p q es on d h m asked c.args.hints f by y);
            died = spent_over x.era p q c.allocate.new.life.left;
            late = spent_late x.era p q c.args.life.now.left;
          };
      made = tt;
      unnamed = tt;
    }
