-- a step up that is taken up at an own root, as a part
use Rattle.std.proofs.Common.{◌≡◌, ℕ, ◌+◌, ◌^◌, ◌<◌, ◌≤◌, refl, sym, ap, ◌∙◌, subst, arith, Bool, true, false, List, ◌∷◌, ◌++◌, inl, inr}
use Rattle.std.proofs.lemmas.Bool.{and_from, false≢true, lt-ltb}
use Rattle.std.specs.Prelude.{Result, Ok, Err}
use Rattle.shm_words.specs.Layout.{address, is_in}
use Rattle.shm_words.specs.declared.place.Place.TheVariants as place
use Rattle.shm_words.proofs.Placing.{address_below, address_small, total_small}
use Rattle.shm_graph.specs.{Bounds.redo_steps, declared.{ask.Me.Me, memo.Memo.Memo, table.Part.Part}}
use Rattle.shm_graph.specs.{declared.table.Part.TheVariants.{Loose, Table}, Asks.{Trail, IsWithin}, Core.core}
use Rattle.shm_graph.specs.{Events.Event, Spots.spot_address, Views.own_word}
use Rattle.shm_graph.specs.declared.spot.Spot.TheVariants as spot
use Rattle.shm_count.specs.Proved.Step.BeforeExchange.{first_holds, first_same, first_era, first_asked, first_told}
use Rattle.shm_count.specs.Proved.Step.{Ranges.first_fits, Refusing.first_reads, Bound.redo_bound}
use Rattle.shm_count.specs.{Proved.Slots.Ups.up_leaves, Step.{Control.{first_point, step_control}, CanStep}}
use Rattle.shm_count.specs.{Step.{Machines.{up_answer, up_control}, Parts.part_after}, declared.answer.UpFault.UpFault}
use Rattle.shm_count.specs.declared.{answer.UpFault.TheVariants.{EraSpent, CountFull}, point.Aim.TheVariants.Up}
use Rattle.shm_count.specs.{declared.point.StepState.StepState, Slots.{Filled, Untouched, Parts.untouched}}
use Rattle.shm_count.specs.{StepsFrom.{FromLeaves, IsFrom, from_part, from_part_laws}, UpRoot.Control.taken_up}
use Rattle.shm_count.specs.UpRoot.{MayTakeUp, TookUp, taken_part}
use Rattle.kind_parts.specs.{Raising.is_read, Reparting.sight}
use Rattle.plans.specs.{MappedParts.mapped_part, Proved.{MappedParts.mapped_part_laws, Parts.weaker_laws}}
use Rattle.plans.specs.Parts.{PartLaws}

-- no partition is read from a root
root_unread : (part : Part) (c k : ℕ) → is_read part (spot.Root c k) ≡ false
root_unread Loose c k = refl
root_unread (Table chains) c k = refl

-- what is left is left of each memo of the same core
pub filled_core : (c k b : ℕ) (m n r : Memo) → core n ≡ core m → Filled c (spot.Root c k) b m r → Filled c (spot.Root c k) b n r
filled_core c k b m n r e h =
    record {
      rest = h.rest ∙ ap (λ (u : Memo). core (record u { own = r.own; part = part_after c (sight c u) (spot.Root c k) b })) (sym e);
      own = λ s l. h.own s l ∙ ap (λ (u : Memo). own_word (record { spot = spot.Root c k; value = b } ∷ u.own) s) (sym e);
      era = h.era ∙ ap (λ (u : Memo). own_word u.own (spot.Era c c) + 1) (sym e);
      rows = λ j. subst (λ (u : Memo). own_word u.own (spot.Era c j) ≤ own_word r.own (spot.Era c j)) (sym e) (h.rows j);
    }

pub untouched_core : (c : ℕ) (m n r : Memo) → core n ≡ core m → Untouched c m r → Untouched c n r
untouched_core c m n r e h =
    record {
      rest = h.rest ∙ ap (λ (u : Memo). core (record u { own = r.own })) (sym e);
      own = λ s l. h.own s l ∙ ap (λ (u : Memo). own_word u.own s) (sym e);
      rows = λ j. subst (λ (u : Memo). own_word u.own (spot.Era c j) ≤ own_word r.own (spot.Era c j)) (sym e) (h.rows j);
    }

module _ (me : Me) (k b e : ℕ) where
  abbrev c : ℕ
  c = me.who

  abbrev at : ℕ
  at = address me.geometry (place.Root me.who k)

  root_in : (m : StepState) (r : Memo) → MayTakeUp me k b e m r → is_in me.geometry (place.Root me.who k) ≡ true
  root_in m r n = and_from _ _ (lt-ltb me.who me.geometry.clients n.may.who) (lt-ltb k 16 n.low)

  root_some : 0 < at
  unfolding address
  root_some = omega arith

  -- it may begin there
  can_take : (m : StepState) (r : Memo) → MayTakeUp me k b e m r → CanStep me at (Up b) (spot.Root me.who k) r
  unfolding spot_address
  can_take m r n =
      record {
        geometry = n.may.geometry;
        who = n.may.who;
        here = n.may.here;
        idle = n.may.idle;
        client = λ z. n.may.client;
        at = refl;
        inside = (root_some, address_below me.geometry (place.Root me.who k) (root_in m r n) n.may.geometry);
        blocks = n.inside;
        can = λ room. (refl, record { here = n.may.here; idle = n.may.idle; root = n.low; empty = n.empty; room = (let x = n.era in let y = n.room in omega arith); source = inr n.may.reach });
        put = tt;
        reach = λ z. n.may.reach;
        part = inl (root_unread r.part me.who k);
        queued = λ z is up. absurd (false≢true is);
      }

  needs_take : (m : StepState) (r : Memo) → MayTakeUp me k b e m r → IsFrom (spot.Root me.who k) (first_point me e) m r
  needs_take m r n =
      let small = total_small me.geometry n.may.geometry in
      let last = n.inside.1 in
      subst (λ (s : StepState). IsFrom (spot.Root me.who k) (first_point me e) s r) (sym n.made)
      (record {
        made = refl;
        knows = record { geometry = n.may.geometry; who = n.may.who; slot = address_small me.geometry (place.Root me.who k) (root_in m r n) n.may.geometry; aim = omega arith; point = first_fits me (Up b) e n.room };
        r0 = r;
        came = record { can = can_take m r n; holds = first_holds me at (Up b) (spot.Root me.who k) r r e refl refl n.era tt };
      })

  -- what it leaves
  took : (rs r : Memo) (t : Trail) (es : List Event) (a : Result Bool UpFault) → e + 3 ≤ 2 ^ 47 → FromLeaves (spot.Root me.who k) (first_point me e) (taken_up me k b e) rs r t es a → TookUp me.who k b rs r t es (up_answer a) × IsWithin (6 + redo_steps me.geometry.wide) t
  took rs r t es (Ok z) room h = (
    (filled_core me.who k b h.r0 rs r (first_same me at (Up b) (spot.Root me.who k) h.r0 rs e h.came.holds.has) (up_leaves me at b (spot.Root me.who k) h.r0 r z refl h.came.can.idle h.gives), sym (ap (λ (l : List Event). l ++ es) (first_told me (Up b) (spot.Root me.who k) e)) ∙ h.events),
    redo_bound me at b e t (Ok z) (first_asked me at (Up b) e t (Ok z) h.trail),
  )
  took rs r t es (Err (EraSpent f)) room h = let own = first_era me at (Up b) (spot.Root me.who k) h.r0 rs e h.came.holds.has in let is = h.gives.1 in let late = h.gives.2 in absurd (omega arith)
  took rs r t es (Err (CountFull d n)) room h = (
    (h.gives.1, h.gives.0, first_reads me at (Up b) e t d n (first_asked me at (Up b) e t (Err (CountFull d n)) h.trail), untouched_core me.who h.r0 rs r (first_same me at (Up b) (spot.Root me.who k) h.r0 rs e h.came.holds.has) (untouched me (Up b) (spot.Root me.who k) false h.r0 r (CountFull d n) h.gives).0, sym (ap (λ (l : List Event). l ++ es) (first_told me (Up b) (spot.Root me.who k) e)) ∙ h.events),
    redo_bound me at b e t (Err (CountFull d n)) (first_asked me at (Up b) e t (Err (CountFull d n)) h.trail),
  )

  pub taken_laws : PartLaws false up_control (taken_part me k b e)
  taken_laws =
      weaker_laws false up_control (mapped_part up_answer (from_part (spot.Root me.who k) (first_point me e))) (MayTakeUp me k b e) (λ m rs r t es a. TookUp me.who k b rs r t es a × IsWithin (6 + redo_steps me.geometry.wide) t)
      needs_take
      (λ m rs r t es a n g held same. subst (λ (y : Result (Unit {0}) UpFault). TookUp me.who k b rs r t es y × IsWithin (6 + redo_steps me.geometry.wide) t) g.1
      (took rs r t es g.0 n.room (subst (λ (s : StepState). FromLeaves (spot.Root me.who k) (first_point me e) s rs r t es g.0) n.made g.2)))
      (mapped_part_laws up_answer false step_control (from_part (spot.Root me.who k) (first_point me e)) (from_part_laws (spot.Root me.who k) (first_point me e)))
