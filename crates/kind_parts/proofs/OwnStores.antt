-- the stores of rows and of the own hold word, as machines use them
use Rattle.std.proofs.Common.{List, ◌≡◌, ℕ, ◌≤◌, refl, sym, ap, ◌∙◌, subst, Bool, true, false, [], ◌∷◌, None, Option, cond}
use Rattle.std.proofs.lemmas.{Bool.{eq-eqb, ne_eqb}, List.Elements.{All-nil, All-filter}}
use Rattle.std.specs.List.{filter}
use Rattle.shm_words.specs.declared.geometry.Geometry.{Geometry}
use Rattle.shm_graph.specs.declared.{memo.{Fact.Fact, Memo.Memo, Test.Test, Status.Status}, ask.Ask.TheVariants.Store}
use Rattle.shm_graph.specs.declared.{ask.Me.Me, spot.Spot.{Spot, TheVariants.{Hold, Era}}}
use Rattle.shm_graph.specs.{Changes.{is_lane_count, called}, Spots.spot_at, Blocks.classes, Views.{View, view, at1}}
use Rattle.shm_graph.specs.{Asks.Trail, Held.HeldAt, MemoAfterStore.{era_stored, with_own}}
use Rattle.shm_graph.specs.Laws.{Frame, framed, Stands, KeptAt}
use Rattle.shm_graph.proofs.Memos.{Calls.{FactHolds, call_held}, Frames.at1_twice}
use Rattle.shm_graph.proofs.{Memos.MemoParts.{parts, put_parts, put_same}, StepKinds.Keeping.told_fixed}
use Rattle.shm_graph.proofs.{StepKinds.KindKeeping.{in_frame, kept_from}, Spots.Spotting.spot_there}
use Rattle.kind_laws.specs.OwnWords.{RowNeeds, row_store_view, HoldNeeds, hold_view}
use Rattle.kind_laws.proofs.{Quiet.row_quiet, HoldStore.{hold_kept, hold_quiet}}
use Rattle.kind_laws.proofs.RedoAndRows as rows
use Rattle.kind_parts.specs.OwnWords.{MayShow, MayHold}

-- the row of another client is stored
pub row_stored : (me : Me) (w : Spot → ℕ) (r : ℕ → Memo) (f : Frame) (tr : Trail) (at j x : ℕ) → Stands me w r f tr → f.fresh ≡ false → spot_at me.geometry (classes w) at ≡ Era me.who j → MayShow me.who (r me.who) j x
    → KeptAt me w r (Store at x) f (λ n m. Unit {0}) (spot_at me.geometry (classes w) at)
row_stored me w r f tr at j x s going e a =
    let g = me.geometry in
    let c = me.who in
    let v : View = view r in
    let p : Spot = Era c j in
    let h : Frame = record f { fresh = false } in
    let m : Memo = called (r c) (framed me (Store at x) h 0) in
    let step : RowNeeds g w v c j x = record {
      inside = s.who;
      acts = a.here.joined;
      here = a.here.stays;
      other = a.other;
      place = spot_there g (classes w) at p e (λ z. cc);
      more = subst (λ y. y ≤ x) (s.held.mine c s.who p (eq-eqb c c refl)) a.more;
      read = a.read;
    } in
    subst (KeptAt me w r (Store at x) f (λ n m. Unit {0})) (sym e)
    (in_frame (λ h. KeptAt me w r (Store at x) h (λ n m. Unit {0}) p) f going
    (kept_from me w r (Store at x) h (λ n m. Unit {0}) p (row_store_view v c j x)
    (told_fixed g (classes w) c (r c) (Store at x) p e refl)
    (subst (λ b. row_store_view v c j x ≡ put_parts v c (parts (cond b (era_stored c m p x) (with_own m p x)))) (sym (ne_eqb j c (λ z. a.other (sym z))))
    (sym (ap (λ (u : View). record u { own = at1 v.own c (record { spot = p; value = x } ∷ v.own c); test = at1 v.test c None }) (put_same v c))))
    (rows.row_stored g w v c j x s.held step)
    (row_quiet g w v c j x s.held step)
    refl tt (step.more, λ q. absurd (a.other q)) tt))

-- the own hold word is stored, in any step of a machine
pub hold_stored : (me : Me) (w : Spot → ℕ) (r : ℕ → Memo) (f : Frame) (tr : Trail) (at x : ℕ) → Stands me w r f tr → spot_at me.geometry (classes w) at ≡ Hold me.who → MayHold me.geometry.clients (r me.who) x
    → KeptAt me w r (Store at x) f (λ n m. Unit {0}) (spot_at me.geometry (classes w) at)
hold_stored me w r f tr at x s e a = subst (KeptAt me w r (Store at x) f (λ n m. Unit {0})) (sym e) (by f.fresh)
  where
    g : Geometry
    g = me.geometry

    c : ℕ
    c = me.who

    v : View
    v = view r

    -- what was read of tails and heads
    counts : List Fact
    counts = filter is_lane_count (r c).facts

    -- the view in which the call so far binds no more than that
    u : View
    u = record v { facts = at1 v.facts c counts; zeros = at1 v.zeros c []; test = at1 v.test c None; made = at1 v.made c [] }

    -- it holds
    held : HeldAt g w u
    held = call_held g w v c counts [] None [] s.held (All-filter is_lane_count (FactHolds g w v) (r c).facts (s.held.facts c s.who)) (All-nil _) tt (All-nil _)

    -- the step is one that stores a hold word, in either view
    step : (y : View) → y.status ≡ v.status → y.latch ≡ v.latch → HoldNeeds g w y c x
    step y st la =
        record {
          inside = s.who;
          acts = λ z. a.here.joined (sym (ap (λ (k : ℕ → Status). k c) st) ∙ z);
          here = λ z. a.here.stays (sym (ap (λ (k : ℕ → Status). k c) st) ∙ z);
          none = subst (λ (k : ℕ → Option ℕ). k c ≡ None) (sym la) a.none;
          most = a.most;
          place = spot_there g (classes w) at (Hold c) e (λ z. cc);
        }

    -- the first step of a machine, and another one
    by : (b : Bool) → KeptAt me w r (Store at x) (record f { fresh = b }) (λ n m. Unit {0}) (Hold c)
    by true =
        kept_from me w r (Store at x) (record f { fresh = true }) (λ n m. Unit {0}) (Hold c) (hold_view u c x)
        (told_fixed g (classes w) c (r c) (Store at x) (Hold c) e refl)
        (ap (λ (k : ℕ → Option Test). record v { own = at1 v.own c (record { spot = Hold c; value = x } ∷ v.own c); facts = at1 v.facts c counts; zeros = at1 v.zeros c []; test = k; made = at1 v.made c [] }) (at1_twice v.test c None None)
        ∙ sym (ap (λ (z : View). record z { own = at1 v.own c (record { spot = Hold c; value = x } ∷ v.own c); facts = at1 v.facts c counts; zeros = at1 v.zeros c []; test = at1 v.test c None; made = at1 v.made c [] }) (put_same v c)))
        (hold_kept g w u c x held (step u refl refl))
        (hold_quiet g w u c x held (step u refl refl))
        refl tt tt tt
    by false =
        kept_from me w r (Store at x) (record f { fresh = false }) (λ n m. Unit {0}) (Hold c) (hold_view v c x)
        (told_fixed g (classes w) c (r c) (Store at x) (Hold c) e refl)
        (sym (ap (λ (z : View). record z { own = at1 v.own c (record { spot = Hold c; value = x } ∷ v.own c); test = at1 v.test c None }) (put_same v c)))
        (hold_kept g w v c x s.held (step v refl refl))
        (hold_quiet g w v c x s.held (step v refl refl))
        refl tt tt tt
