-- The closing of a forest's pool: nobody else steps, so that its calls answer in time.
use Rattle.std.proofs.Common.{◌≡◌, ℕ, ◌+◌, ◌^◌, ◌<◌, true, Bool, cond, List, [], ◌∷◌, ◌++◌, append_assoc, length, refl, ap, ◌∙◌, subst, arith, inl, inr}
use Rattle.std.proofs.lemmas.Bool.{and_from, lt-ltb}
use Rattle.std.specs.{Prelude.{Option, None, IfSome, Result, slice_index}, Option.is_some}
use Rattle.shm_words.specs.Layout.{address, total_of}
use Rattle.shm_words.specs.declared.place.Place.TheVariants as place
use Rattle.shm_graph.specs.declared.{ask.Me.Me, memo.{Kind.TheVariants.Recoverer, Memo.Memo}, run.Move.Move}
use Rattle.shm_graph.specs.declared.{run.Move.TheVariants.Dies, spot.Spot.TheVariants.Era}
use Rattle.shm_graph.specs.{Agents.{acts, entered, last_agent}, Asks.Trail, Laws.Control, Runs.fell_by}
use Rattle.shm_graph.specs.{Spots.{IsAt, classes_in, spot_address}, Views.own_word, Whole.fits_now}
use Rattle.shm_graph.proofs.{Memos.MemoSteps.recovers-entered, Spots.{Fixed.fixed_is_at, Seeing.see_there}}
use Rattle.shm_graph.proofs.Spots.Spotting.{at_below}
use Rattle.plans.specs.{declared.calls.Calls.Calls, CallsControl.{calls_control, calls_does, calls_of}}
use Rattle.plans.specs.{CallsFit.{CallsFits, CallsGives}, Proved.CallsKeep.{calls_begin, calls_tells}, Plans.PlanLaws}
use Rattle.shm_plain.specs.Pools.{IsOf, IsRun, MayStep, Pool, after_fall, memo_of, readied}
use Rattle.shm_plain.proofs.{Called.{Called, answered, call_fits}, Calling.{fits_acting, may_acting}}
use Rattle.shm_count.specs.{declared.answer.EraSpent.EraSpent, Roots.member}
use Rattle.shm_ref.specs.Proved.DropRoots.Laws.{roots_laws}
use Rattle.shm_recover.specs.declared.{leave.LeaveState.LeaveState, recover.RecoverState.RecoverState}
use Rattle.shm_recover.specs.Proved.{FinishTakes.Laws.finish_laws, GiveUp.Laws.give_laws, Leave.Gone.idle_may_leave}
use Rattle.shm_recover.specs.Proved.{Leave.Laws.leave_laws, Mend.Laws.mend_laws}
use Rattle.shm_recover.specs.Proved.{Recover.Laws.{recover_begin, recover_laws}, Scan.Laws.scan_laws}
use Rattle.shm_recover.specs.Proved.TakeBack.Laws.{back_laws}
use Rattle.shm_recover.specs.Leave.{Control.{LeaveCall, leave_parts, leaving, leave_steered}, leave_plan}
use Rattle.shm_recover.specs.Recover.{Control.{RecoverCall, recover_parts, recovering, recover_steered}, recover_plan}
use Rattle.shm_alone.specs.{GiveEnds.none_over, LeaveEnds.{leave_alone, leave_left}}
use Rattle.shm_alone.specs.Proved.{LeaveEnds.{leave_few, leave_ends}, RecoverEnds.{recover_few, recover_ends}}
use Rattle.shm_alone.specs.RecoverEnds.{recover_alone, recover_left}
use Rattle.shm_alone.proofs.Lasting.{Lasts, alone_few, answers_alone, calls_last, left_few}
use Rattle.shm_client.proofs.Fallen.{fallen_first, fallen_fits, fallen_told, may_begin}
use Rattle.shm_tree.specs.{Ending.{HasEnded, HasParted, IsRevived}, Working.IsWorking}

-- ---- the own era

era_there : (p : Pool) → 0 < p.start.geometry.clients → IsAt p.start.geometry (classes_in p.start.geometry p.words) (Era 0 0)
era_there p l = fixed_is_at p.start.geometry (classes_in p.start.geometry p.words) (Era 0 0) refl (and_from _ _ (lt-ltb 0 p.start.geometry.clients l) (lt-ltb 0 p.start.geometry.clients l))

pub era_below : (p : Pool) → 0 < p.start.geometry.clients → address p.start.geometry (place.Era 0 0) < total_of p.start.geometry
unfolding spot_address
era_below p l = at_below p.start.geometry (classes_in p.start.geometry p.words) (Era 0 0) (era_there p l)

-- its word is that of the memo
pub era_read : (p : Pool) → IsRun p → 0 < p.start.geometry.clients → own_word (memo_of p 0).own (Era 0 0) ≡ slice_index p.words (address p.start.geometry (place.Era 0 0))
unfolding spot_address
era_read p run l = run.held.at.mine 0 l (Era 0 0) refl ∙ see_there p.start.geometry p.words (Era 0 0) (era_there p l)

-- ---- a call that nobody else steps beside

-- it has answered, where it had more than 2^38 word steps
pub answers_sure : {S A : Type 0} (k : Control S A) (fits : S → Memo → Memo → Trail → Type 0) (gives : S → Memo → Memo → Trail → A → Type 0) (m n : S) → n ≡ m → Lasts k fits m → (p q : Pool) (r0 : Memo) (x y : ℕ) (o : Option A) → IsRun p → MayStep p 0 → IsOf p 0 k m → fits_now k fits m r0 (memo_of (readied p 0) 0) → k.fresh m ≡ true
    → Called k fits gives 0 p n q x y o → (0 < x → k.fresh n ≡ true → y + length (memo_of q 0).call ≡ x) → 2 ^ 38 < x → is_some o ≡ true
answers_sure {S} k fits gives m n is enough p q r0 x y o run may of fit fresh say spent long =
    let call : Called k fits gives 0 p m q x y o = subst (λ (z : S). Called k fits gives 0 p z q x y o) is say in
    let went : 0 < x → k.fresh m ≡ true → y + length (memo_of q 0).call ≡ x = subst (λ (z : S). 0 < x → k.fresh z ≡ true → y + length (memo_of q 0).call ≡ x) is spent in
    let few = alone_few p.start.geometry.wide in
    (answers_alone k fits m enough 0 p q r0 (is_some o) x y run may of fit fresh call.ran call.took went (omega arith)).0

-- ---- a leaving

abbrev pub LeaveCalls : Type 0
LeaveCalls = Calls LeaveState LeaveCall

abbrev pub leave_control : Control LeaveCalls (Result (Unit {0}) EraSpent)
leave_control = calls_control leave_parts leave_steered

-- the machine before its first word step
abbrev pub leaver : Pool → LeaveCalls
leaver p = calls_of leave_steered (leaving (member p.start.geometry 0))

leave_lasts : (me : Me) → Lasts leave_control (CallsFits leave_parts leave_plan) (calls_of leave_steered (leaving me))
leave_lasts me = calls_last leave_parts leave_plan leave_laws leave_alone leave_left none_over leave_ends (leaving me) (λ w. (((tt, tt), tt), tt)) (λ f. left_few me.geometry.wide (leave_left (calls_of leave_steered (leaving me))) (leave_few me f)) refl

module _ (p : Pool) (h : IsWorking p) (latch : (memo_of p 0).latch ≡ None) (dying : (memo_of p 0).dying ≡ []) where
  abbrev g0 : Memo
  g0 = memo_of p 0

  leave_fit : CallsFits leave_parts leave_plan (leaver p) g0 g0 []
  leave_fit =
      let me : Me = member p.start.geometry 0 in
      calls_begin leave_parts leave_plan leave_laws (leaving me) g0 refl refl
      (idle_may_leave me g0 (record { geometry = h.work.geometry; who = h.work.who }) h.work.idle latch dying h.unsent h.untaken, refl, refl, refl, refl)

  module _ (n : LeaveCalls) (is : n ≡ leaver p) where
    pub leave_fits : (r : Memo) × fits_now leave_control (CallsFits leave_parts leave_plan) n r (memo_of (readied p 0) 0)
    leave_fits = call_fits leave_control (CallsFits leave_parts leave_plan) (CallsGives leave_parts leave_plan) 0 p h.work.geometry h.work.who h.work.acts (leaver p) refl leave_fit n is

    module _ (q : Pool) (x y : ℕ) (o : Option (Result (Unit {0}) EraSpent)) (say : Called leave_control (CallsFits leave_parts leave_plan) (CallsGives leave_parts leave_plan) 0 p n q x y o) where
      pub leave_answers : (0 < x → leave_control.fresh n ≡ true → y + length (memo_of q 0).call ≡ x) → 2 ^ 38 < x → is_some o ≡ true
      leave_answers spent long =
          answers_sure leave_control (CallsFits leave_parts leave_plan) (CallsGives leave_parts leave_plan) (leaver p) n is (leave_lasts (member p.start.geometry 0)) p q g0 x y o h.run (may_acting p 0 h.work.acts) (refl, h.work.who, refl)
          (fits_acting leave_control (CallsFits leave_parts leave_plan) (CallsGives leave_parts leave_plan) 0 p (leaver p) h.work.acts refl leave_fit) refl say spent long

      pub leave_parted : IfSome o (HasParted p q)
      leave_parted =
          (answered leave_control (CallsFits leave_parts leave_plan) (CallsGives leave_parts leave_plan) 0 p h.work.geometry h.work.who h.work.acts (leaver p) refl leave_fit n is q x y o say (calls_does leave_parts leave_plan) (calls_tells leave_parts leave_plan leave_laws)).told
          (HasParted p q) (λ a gave did. record { told = _; did = did; leaves = gave.leaves })

-- ---- a recovery

abbrev pub RecoverCalls : Type 0
RecoverCalls = Calls RecoverState RecoverCall

abbrev pub recover_control : Control RecoverCalls (Result (Unit {0}) EraSpent)
recover_control = calls_control recover_parts recover_steered

-- the machine before its first word step
abbrev pub recoverer : Pool → RecoverCalls
recoverer p = calls_of recover_steered (recovering (member p.start.geometry 0))

laws : PlanLaws recover_parts recover_plan
laws = recover_laws mend_laws roots_laws back_laws finish_laws scan_laws give_laws

recover_lasts : (me : Me) → Lasts recover_control (CallsFits recover_parts recover_plan) (calls_of recover_steered (recovering me))
recover_lasts me = calls_last recover_parts recover_plan laws recover_alone recover_left none_over recover_ends (recovering me) (λ w. ((tt, tt), tt)) (recover_few me) refl

module _ (p : Pool) (run : IsRun p) (who : 0 < p.start.geometry.clients) (fell : fell_by (last_agent (memo_of p 0).agents) ≡ true) where
  abbrev e0 : Memo
  e0 = entered Recoverer (memo_of p 0)

  recover_fit : CallsFits recover_parts recover_plan (recoverer p) e0 e0 []
  recover_fit =
      let me : Me = member p.start.geometry 0 in
      calls_begin recover_parts recover_plan laws (recovering me) e0 refl refl (recover_begin me e0 (record { geometry = run.held.at.fits; who = who; recoverer = recovers-entered Recoverer (memo_of p 0) }))

  pub recover_may : MayStep p 0
  recover_may = may_begin p 0 run who fell

  module _ (n : RecoverCalls) (is : n ≡ recoverer p) where
    pub recover_fits : (r : Memo) × fits_now recover_control (CallsFits recover_parts recover_plan) n r (memo_of (readied p 0) 0)
    recover_fits = fallen_fits p 0 run who fell recover_control (CallsFits recover_parts recover_plan) (CallsGives recover_parts recover_plan) (recoverer p) refl recover_fit n is

    module _ (q : Pool) (x y : ℕ) (o : Option (Result (Unit {0}) EraSpent)) (say : Called recover_control (CallsFits recover_parts recover_plan) (CallsGives recover_parts recover_plan) 0 p n q x y o) where
      pub recover_answers : (0 < x → recover_control.fresh n ≡ true → y + length (memo_of q 0).call ≡ x) → 2 ^ 38 < x → is_some o ≡ true
      recover_answers spent long =
          answers_sure recover_control (CallsFits recover_parts recover_plan) (CallsGives recover_parts recover_plan) (recoverer p) n is (recover_lasts (member p.start.geometry 0)) p q e0 x y o run recover_may (refl, who, refl)
          (fallen_first p 0 run who fell recover_control (CallsFits recover_parts recover_plan) (CallsGives recover_parts recover_plan) (recoverer p) refl recover_fit (recoverer p) refl) refl say spent long

      pub recover_revived : IfSome o (IsRevived p q)
      recover_revived =
          fallen_told p 0 run who fell recover_control (CallsFits recover_parts recover_plan) (CallsGives recover_parts recover_plan) (recoverer p) refl recover_fit n is q x y o say (calls_does recover_parts recover_plan) (calls_tells recover_parts recover_plan laws)
          (IsRevived p q) (λ a gave did. record { told = _; did = did; leaves = gave.leaves })

-- ---- either way

-- the turns of the pool are those that it had, and further ones
pub ended_turns : (died : Bool) (p q : Pool) (a : Result (Unit {0}) EraSpent) → acts (memo_of p 0) ≡ true → HasEnded died p q a → (ms : List Move) × (q.turns ≡ p.turns ++ ms)
ended_turns died p q a act (inl h) =
    let ms : List Move = h.1.did.turns in
    let fell : (after_fall p 0).turns ≡ p.turns ++ Dies 0 ∷ [] = ap (λ (b : Bool). cond b (p.turns ++ Dies 0 ∷ []) p.turns) act in
    (Dies 0 ∷ ms, h.1.did.grew ∙ (ap (λ (ts : List Move). ts ++ ms) fell ∙ append_assoc p.turns (Dies 0 ∷ []) ms))
ended_turns died p q a act (inr h) = (h.2.did.turns, h.2.did.grew)
