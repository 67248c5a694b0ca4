-- what is owed of a recovery: each call leads on, to the next one or to what is left
use Rattle.std.proofs.Common.{◌≡◌, ◌≢◌, ℕ, ◌+◌, ◌*◌, ◌-◌, ◌^◌, ◌<◌, ◌≤◌, ◌⊎◌, refl, sym, ap, ◌∙◌, subst, arith, Bool, true, false, List, [], ◌++◌, append_assoc, append-nil, length, inl, inr}
use Rattle.std.proofs.lemmas.Bool.{cases_lt, eq-eqb, eqb-false, eqb-true}
use Rattle.std.specs.{Prelude.{◌==◌, if◌then◌else◌, None, Ok, Err, slice_index, slice_index_or}, List.{All, Contains}}
use Rattle.shm_recover.specs.Proved.{Costs.recovery_most, FinishTakes.Laws.{finish_begin, nothing_waits, same_done}}
use Rattle.shm_recover.specs.Proved.{GiveUp.Laws.give_begin, Leave.Words.root_beyond, Mend.Laws.mend_begin}
use Rattle.shm_recover.specs.Proved.Recover.Losses.{backs_losses, more_losses, no_losses, roots_losses, scan_losses}
use Rattle.shm_recover.specs.Proved.{Scan.Laws.scan_begin, TakeBack.{Laws.back_begin, Memos.nothing_unsent}}
use Rattle.shm_recover.specs.declared.recover.RecoverPoint.{RecoverPoint}
use Rattle.shm_recover.specs.declared.recover.RecoverPoint.TheVariants.{Mend, Roots, Back, Takes, Scan, Give}
use Rattle.shm_recover.specs.declared.recover.RecoverState.{RecoverState}
use Rattle.shm_recover.specs.FinishTakes.{FinishDone, QueueSame, finish_plan, waiting}
use Rattle.shm_recover.specs.{GiveUp.{GivenUp, MayGiveUp, give_plan}, Mend.Control.mend_parts}
use Rattle.shm_recover.specs.Mend.{IsMended, MayMend, mend_plan}
use Rattle.shm_recover.specs.Recover.Control.{RecoverAnswer, back_control, finish_control, give_control, mend_control, queues_next, recover_call_at, recover_parts, roots_control, scan_control, is_mend, recover_steered}
use Rattle.shm_recover.specs.Recover.Losses.{AreLosses}
use Rattle.shm_recover.specs.Recover.{AreRootless, AreSent, AreTaken, HasCome, IsRecovering, OnlyLoses, RecoverKnows, RecoverStopped, Recovered, SameTakes, is_kept, lasting, recover_part, recover_plan}
use Rattle.shm_recover.specs.Scan.{Control.scan_parts, ScanDone, ScanStopped, scan_plan}
use Rattle.shm_recover.specs.TakeBack.{Control.{back_parts, taking_back}, BackDone, BackLeaves, back_plan}
use Rattle.shm_ref.specs.Proved.{Costs.tear_sum, DropRoots.Laws.roots_begin, Leaving.frees-append}
use Rattle.shm_ref.specs.{DropRoots.{Control.drop_root, AreGone, RootsLeaves, roots_plan}, Lefts.{MayDrop, is_root_of}}
use Rattle.shm_graph.specs.{Bounds.{redo_steps, tear_steps}, declared.{ask.Me.Me, spot.Spot.Spot}}
use Rattle.shm_graph.specs.declared.{spot.Spot.TheVariants.{Era, Hold, Home, QueueHead, Root, Tail}, memo.Memo.Memo}
use Rattle.shm_graph.specs.{declared.memo.{Op.TheVariants.Nothing, Status.Status as AStatus}, Spots.same_spot}
use Rattle.shm_graph.specs.{Asks.{Trail, IsWithin}, Events.Event, Held.is_loose, Views.own_word}
use Rattle.shm_graph.specs.declared.memo.Status.TheVariants as status
use Rattle.kind_parts.specs.Reparting.{map_in}
use Rattle.plans.specs.{declared.or.Or.TheVariants.{First, Second}, Proved.{CallTells.within_more, Either.or_part_laws}}
use Rattle.plans.specs.{CallsPart.{calls_part, calls_part_laws}, Either.{or_control, or_part}, Parts.IsHeld}
use Rattle.plans.specs.{Plans.{PlanLaws, PlanStays, IsCall, Follows}, Words.word_control}
use Rattle.shm_count.specs.{declared.answer.EraSpent.EraSpent, Roots.rest, Lasting.is_lasting}
use Rattle.shm_count.specs.Tear.Events.{Visit, frees}

-- ---- the control

-- what both states after a call are alike in
queues_stays : (m : RecoverState) (y : RecoverPoint) → is_mend y ≡ false → (recover_steered.me (queues_next m y) ≡ m.me) × (recover_steered.start (queues_next m y) ≡ recover_steered.start m) × (is_mend (queues_next m y).point ≡ false)
queues_stays m y later = go (m.me.geometry.clients == 1)
  where
    go : (q : Bool) → let x : RecoverState = if q then record m { point = Scan } else record m { point = y } in (recover_steered.me x ≡ m.me) × (recover_steered.start x ≡ recover_steered.start m) × (is_mend x.point ≡ false)
    go true = (refl, refl, refl)
    go false = (refl, refl, later)

calls : (m : RecoverState) (y : RecoverPoint) → IsCall recover_parts recover_plan (record m { point = y })
calls m Mend = record { me = refl; asks = refl }
calls m Roots = record { me = refl; asks = refl }
calls m Back = record { me = refl; asks = refl }
calls m Takes = record { me = refl; asks = refl }
calls m Scan = record { me = refl; asks = refl }
calls m Give = record { me = refl; asks = refl }

-- ---- what is known on the way

-- own words that are kept last, and are no roots and no heads
kept_lasts : (c : ℕ) (p : Spot) → is_kept c p ≡ true → is_lasting c p ≡ true
kept_lasts c (Root d k) e = absurd (cc)
kept_lasts c (QueueHead s d) e = absurd (cc)
kept_lasts c _ e = e

kept_no_root : (c : ℕ) (f : ℕ → Bool) (p : Spot) → is_kept c p ≡ true → is_root_of c f p ≡ false
kept_no_root c f (Root d k) e = absurd (cc)
kept_no_root c f _ e = refl

kept_no_head : (c : ℕ) (p : Spot) → is_kept c p ≡ true → (s : ℕ) → same_spot (QueueHead s c) p ≡ false
kept_no_head c (QueueHead s d) e i = absurd (cc)
kept_no_head c _ e i = refl

dead_here : (s : AStatus) → s ≡ status.Dead → (s ≡ status.New → ⊥) × (s ≡ status.Gone → ⊥)
dead_here s dead = (λ e. let z : status.Dead ≡ status.New = sym dead ∙ e in cc, λ e. let z : status.Dead ≡ status.Gone = sym dead ∙ e in cc)

module _ (me : Me) (k : ℕ) (r0 r : Memo) (tr : Trail) (es : List Event) (h : IsRecovering me k r0 r tr es) where
  is_dead : r.status ≡ status.Dead
  is_dead = ap (λ (x : Memo). x.status) h.mended.same ∙ h.mended.mended.status

  -- the calls may be made
  may_go_on : MayDrop me r
  may_go_on = let d = dead_here r.status is_dead in record { geometry = h.member.geometry; who = h.member.who; here = record { joined = d.0; stays = d.1 }; idle = h.mended.idle }

  no_latch : r.latch ≡ None
  no_latch = ap (λ (x : Memo). x.latch) h.mended.same ∙ h.mended.mended.latch

  same_sent : r.sent ≡ r0.sent
  same_sent = ap (λ (x : Memo). x.sent) h.mended.same ∙ h.mended.mended.sent

  same_loose : is_loose r.part ≡ is_loose r0.part
  same_loose = ap (λ (x : Memo). is_loose x.part) h.mended.same ∙ h.mended.mended.loose

  same_map : map_in r.part ≡ map_in r0.part
  same_map = ap (λ (x : Memo). map_in x.part) h.mended.same ∙ h.mended.mended.map

  -- nothing is left to finish but segments
  may_give : AreRootless me.who r → AreSent r → ((s : ℕ) → slice_index r.untaken s ≡ 0) → r.dying ≡ [] → MayGiveUp me r
  may_give roots sent taken none =
      record {
        may = may_go_on;
        roots = roots;
        hold = h.mended.own (Hold me.who) refl ∙ h.mended.mended.hold;
        latch = no_latch;
        making = ap (λ (x : Memo). x.making) h.mended.same ∙ h.mended.mended.making;
        dying = none;
        sends = sent;
        takes = taken;
      }

-- what a call with these losses leaves
goes_on : (me : Me) (k j z : ℕ) (r0 rs r : Memo) (tr t : Trail) (es ds : List Event) → IsRecovering me k r0 rs tr es → lasting r ≡ lasting rs → r.op ≡ Nothing → ((p : Spot) → is_kept me.who p ≡ true → own_word r.own p ≡ own_word rs.own p) → ((j : ℕ) → own_word rs.own (Era me.who j) ≤ own_word r.own (Era me.who j)) → AreLosses me.who ds → IsWithin (j + tear_steps me.geometry.wide (frees ds)) t → k + j ≤ z → IsRecovering me z r0 r (tr ++ t) (es ++ ds)
goes_on me k j z r0 rs r tr t es ds h same idle own rows losses bound most =
    let b = within_more (k + tear_steps me.geometry.wide (frees es)) (j + tear_steps me.geometry.wide (frees ds)) tr t h.bound bound in
    let f = tear_sum me.geometry.wide (frees (es ++ ds)) (frees es) (frees ds) (frees-append es ds) in
    let x = h.events in
    record {
      member = h.member;
      q = h.q;
      mended = record { first = h.mended.first; half = h.mended.half; mended = h.mended.mended; same = same ∙ h.mended.same; idle = idle; own = λ p n. own p n ∙ h.mended.own p n; rows = λ i. let a = rows i in let d = h.mended.rows i in omega arith };
      events = record { half = x.half; losses = x.losses ++ ds; split = ap (λ (y : List Event). y ++ ds) x.split ∙ append_assoc x.half x.losses ds; first = x.first; others = more_losses me.who x.losses ds x.others losses };
      bound = omega arith;
    }

-- ---- what the calls need

opens : (m : RecoverState) (y : RecoverPoint) (r0 r : Memo) (tr : Trail) (es : List Event) → RecoverKnows m y r0 r tr es → recover_part.needs (recover_call_at m y) r
opens m Mend r0 r tr es (may, same, none, quiet) = record { made = refl; first = refl; start = refl; knows = mend_begin m.me r (subst (MayMend m.me) (sym same) may) }
opens m Roots r0 r tr es (h, takes, unsent) = record { made = refl; first = refl; start = refl; knows = roots_begin m.me r (may_go_on m.me _ r0 r tr es h) }
opens m Back r0 r tr es (h, takes, unsent, roots, some) = record { made = refl; first = refl; start = refl; knows = back_begin m.me r (record { may = may_go_on m.me _ r0 r tr es h; others = some }) }
opens m Takes r0 r tr es (h, takes, roots, sent, some) = record { made = refl; first = refl; start = refl; knows = finish_begin m.me r (record { may = may_go_on m.me _ r0 r tr es h; others = some }) }
opens m Scan r0 r tr es (h, roots, sent, taken) = record { made = refl; first = refl; start = refl; knows = scan_begin m.me r (may_go_on m.me _ r0 r tr es h) }
opens m Give r0 r tr es (h, roots, sent, taken, none) = record { made = refl; first = refl; start = refl; knows = give_begin m.me r (may_give m.me _ r0 r tr es h roots sent (λ s. (taken s).untaken) none) }

-- ---- where they lead

module _ (m : RecoverState) (r0 rs r : Memo) (tr t : Trail) (es ds : List Event) (held : IsHeld m.me r) where
  abbrev c : ℕ
  c = m.me.who

  abbrev n : ℕ
  n = m.me.geometry.clients

  abbrev g : ℕ
  g = m.me.geometry.segments

  abbrev wide : Bool
  wide = m.me.geometry.wide

  -- the word steps of an own redo record
  abbrev u : ℕ
  u = redo_steps m.me.geometry.wide

  -- what is known next, or what is left
  abbrev Leads : RecoverAnswer → Type 0
  Leads a = Follows recover_parts recover_plan m a r0 r (tr ++ t) (es ++ ds)

  -- the step in progress was finished or dropped
  mended : RecoverKnows m Mend r0 rs tr es → IsMended m.me rs r t ds → RecoverKnows m Roots r0 r (tr ++ t) (es ++ ds)
  mended (may, same, none, quiet) y =
      let is : IsMended m.me r0 r t ds = subst (λ (x : Memo). IsMended m.me x r t ds) same y in
      let told : es ++ ds ≡ ds = ap (λ (x : List Event). x ++ ds) quiet in
      let asked : tr ++ t ≡ t = ap (λ (x : Trail). x ++ t) none in (
        record {
          member = record { geometry = may.geometry; who = may.who };
          q = r;
          mended = record { first = t; half = ds; mended = is; same = refl; idle = is.op; own = λ p n. refl; rows = λ i. omega arith };
          events = record { half = ds; losses = []; split = told ∙ sym (append-nil ds); first = is.events; others = no_losses c };
          bound = subst (IsWithin (n + 13 + u + tear_steps wide (frees (es ++ ds)))) (sym asked) (let b = is.bound in omega arith);
        },
        (λ s. record { received = ap (λ (x : List (List ℕ)). slice_index_or x s []) is.received; untaken = ap (λ (x : List ℕ). slice_index x s) is.untaken; head = is.apart (QueueHead s c) refl }),
        is.unsent,
      )

  -- what waits in no queue of a pool of one client
  alone : n ≡ 1 → (s : ℕ) → c < n → (s ≡ c) ⊎ (n ≤ s)
  alone one s l = elim (cases_lt s n) [ inl low ↦ inl (omega arith) | inr far ↦ inr far ]

  -- a call that leaves the queues to the identity
  same_takes : SameTakes c r0 rs → ((s : ℕ) → QueueSame c s rs r) → SameTakes c r0 r
  same_takes h i s = record { received = (i s).received ∙ (h s).received; untaken = (i s).untaken ∙ (h s).untaken; head = (i s).head ∙ (h s).head }

  taken_still : AreTaken c r0 rs → ((s : ℕ) → QueueSame c s rs r) → AreTaken c r0 r
  taken_still h i s = record { received = (i s).received ∙ (h s).received; untaken = (i s).untaken ∙ (h s).untaken; head = (i s).head ∙ (h s).head }

  still_rest : rest r ≡ rest rs → ((p : Spot) → is_lasting c p ≡ true → own_word r.own p ≡ own_word rs.own p) → (s : ℕ) → QueueSame c s rs r
  still_rest e own s = record { received = ap (λ (x : Memo). slice_index_or x.received s []) e; untaken = ap (λ (x : Memo). slice_index x.untaken s) e; head = own (QueueHead s c) refl }

  -- on to the queues, or to the scan
  to_queues : (y : RecoverPoint) → IsRecovering m.me (n + 141 + 17 * u) r0 r (tr ++ t) (es ++ ds) → AreRootless c r → ((some : 1 < n) → RecoverKnows (record m { point = y }) y r0 r (tr ++ t) (es ++ ds)) → (n ≡ 1 → AreSent r × AreTaken c r0 r) → RecoverKnows (queues_next m y) (queues_next m y).point r0 r (tr ++ t) (es ++ ds)
  to_queues y h roots more one = go (n == 1) (eqb-true n 1) (eqb-false n 1)
    where
      go : (q : Bool) → (q ≡ true → n ≡ 1) → (q ≡ false → n ≢ 1) → let x : RecoverState = if q then record m { point = Scan } else record m { point = y } in RecoverKnows x x.point r0 r (tr ++ t) (es ++ ds)
      go true is other =
          let e = is refl in
          let o = one e in
          (record { member = h.member; q = h.q; mended = h.mended; events = h.events; bound = (let b = h.bound in omega arith) }, roots, o.0, o.1)
      go false is other = more (let o = other refl in let l = h.member.who in omega arith)

  -- the roots were dropped
  dropped : RecoverKnows m Roots r0 rs tr es → AreGone m.me 16 rs r t ds → Leads (Second (First (Ok tt)))
  dropped (h, takes, unsent) y =
      let e = y.left.rest in
      let roots : AreRootless c r = λ k. elim (cases_lt k 16) [ inl l ↦ y.gone k l | inr far ↦ root_beyond m.me h.member.who r k held far ] in
      let same : SameTakes c r0 r = same_takes takes (λ s. record { received = ap (λ (x : Memo). slice_index_or x.received s []) e; untaken = ap (λ (x : Memo). slice_index x.untaken s) e; head = y.left.own (QueueHead s c) refl refl }) in
      let z = goes_on m.me (n + 13 + u) ((8 + u) * 16) (n + 141 + 17 * u) r0 rs r tr t es ds h (ap lasting e) y.left.op (λ p k. y.left.own p (kept_lasts c p k) (kept_no_root c _ p k)) y.left.rows (roots_losses c rs 16 ds y.events) y.bound (omega arith) in
      to_queues Back z roots (λ some. (z, same, ap (λ (x : Memo). x.unsent) e ∙ unsent, roots, some))
      (λ one. (λ j. nothing_unsent m.me h.member.who j r held (alone one j h.member.who), λ s. same_done c s r0 r (nothing_waits m.me h.member.who s r held (alone one s h.member.who)) (same s)))

  -- blocks were taken back
  taken_back : RecoverKnows m Back r0 rs tr es → BackDone m.me rs r t ds → Leads (Second (Second (First (Ok tt))))
  taken_back (h, takes, unsent, roots, some) y =
      let e = y.back.rest in
      let rootless : AreRootless c r = λ k. y.back.own (Root c k) refl ∙ roots k in
      let same : SameTakes c r0 r = same_takes takes (λ s. record { received = ap (λ (x : Memo). slice_index_or x.received s []) e; untaken = ap (λ (x : Memo). slice_index x.untaken s) e; head = y.back.own (QueueHead s c) refl }) in
      let at : IsRecovering m.me (n + 141 + 17 * u + (10 + u) * (n - 1)) r0 r (tr ++ t) (es ++ ds) = goes_on m.me (n + 141 + 17 * u) ((10 + u) * (n - 1)) (n + 141 + 17 * u + (10 + u) * (n - 1)) r0 rs r tr t es ds h (ap lasting e) y.back.op (λ p k. y.back.own p (kept_lasts c p k)) y.back.rows (backs_losses c rs (n - 1) ds y.events) y.bound (omega arith) in
      go (n == 1) (eqb-true n 1) (at, same, rootless, y.none, some)
    where
      go : (q : Bool) → (q ≡ true → n ≡ 1) → RecoverKnows m Takes r0 r (tr ++ t) (es ++ ds) → let x : RecoverState = if q then record m { point = Scan } else record m { point = Takes } in RecoverKnows x x.point r0 r (tr ++ t) (es ++ ds)
      go true is k = let one = is refl in absurd (omega arith)
      go false is k = k

  -- items were received
  taken : RecoverKnows m Takes r0 rs tr es → FinishDone m.me rs r t ds → RecoverKnows m Scan r0 r (tr ++ t) (es ++ ds)
  taken (h, takes, roots, sent, some) y =
      let e = y.heads.rest in (
        goes_on m.me (n + 141 + 17 * u + (10 + u) * (n - 1)) (4 * (n - 1)) (n + 141 + 17 * u + (10 + u) * (n - 1) + 4 * (n - 1)) r0 rs r tr t es ds h (ap lasting e) (ap (λ (x : Memo). x.op) e ∙ h.mended.idle) (λ p k. y.heads.own p (kept_no_head c p k))
            (λ j. subst (λ z. own_word rs.own (Era c j) ≤ z) (sym (y.heads.own (Era c j) (λ s. refl))) (omega arith)) (subst (AreLosses c) (sym y.none) (no_losses c)) (let b = y.bound in omega arith) (omega arith),
        (λ k. y.heads.own (Root c k) (λ s. refl) ∙ roots k),
        (λ j. ap (λ (x : Memo). slice_index x.unsent j) e ∙ sent j),
        (λ s. record {
          received = (y.done s).received ∙ (ap (λ (xs : List ℕ). xs ++ waiting (slice_index rs.untaken s)) (takes s).received ∙ ap (λ b. slice_index_or r0.received s [] ++ waiting b) (takes s).untaken);
          untaken = (y.done s).untaken;
          head = (y.done s).head ∙ (ap (λ k. k + length (waiting (slice_index rs.untaken s))) (takes s).head ∙ ap (λ b. own_word r0.own (QueueHead s c) + length (waiting b)) (takes s).untaken);
        }),
      )

  -- zero-count blocks were freed
  scanned : (k : ℕ) → RecoverKnows m Scan r0 rs tr es → ScanDone m.me k rs r t ds → RecoverKnows m Give r0 r (tr ++ t) (es ++ ds)
  scanned k (h, roots, sent, taken) y =
      let e = y.scanned.rest in (
        goes_on m.me (n + 141 + 17 * u + (10 + u) * (n - 1) + 4 * (n - 1)) (528 * g) (n + 141 + 17 * u + (10 + u) * (n - 1) + 4 * (n - 1) + 528 * g) r0 rs r tr t es ds h (ap lasting e) y.scanned.op (λ p k. y.scanned.own p (kept_lasts c p k)) y.scanned.rows (scan_losses c y.blocks ds y.events) y.bound (omega arith),
        (λ k. y.scanned.own (Root c k) refl ∙ roots k),
        (λ j. ap (λ (x : Memo). slice_index x.unsent j) e ∙ sent j),
        taken_still taken (still_rest e y.scanned.own),
        y.none,
      )

  -- the segments were given up, and the status is gone
  gone : RecoverKnows m Give r0 rs tr es → GivenUp m.me rs r t ds → Recovered m.me r0 r (tr ++ t) (es ++ ds)
  gone (h, roots, sent, taken, none) y =
      let e = y.rest in
      let still : es ++ ds ≡ es = ap (λ (x : List Event). es ++ x) y.none ∙ append-nil es in
      let f = ap (λ (x : List Event). tear_steps wide (frees x)) still in
      let most = h.member.geometry.clients in
      let some = h.member.who in
      let all = recovery_most wide n most (omega arith) in
      let b = within_more (n + 141 + 17 * u + (10 + u) * (n - 1) + 4 * (n - 1) + 528 * g + tear_steps wide (frees es)) (2 * g + 1) tr t h.bound y.bound in
      record {
        status = ap (λ (x : Memo). x.status) e;
        left = y.left;
        sent = ap (λ (x : Memo). x.sent) e ∙ same_sent m.me _ r0 rs tr es h;
        tails = λ i. ap (λ (x : Memo). own_word x.own (Tail c i)) e ∙ (h.mended.own (Tail c i) refl ∙ h.mended.mended.apart (Tail c i) refl);
        taken = taken_still taken (λ s. record { received = ap (λ (x : Memo). slice_index_or x.received s []) e; untaken = ap (λ (x : Memo). slice_index x.untaken s) e; head = ap (λ (x : Memo). own_word x.own (QueueHead s c)) e });
        home = ap (λ (x : Memo). own_word x.own (Home c)) e ∙ (h.mended.own (Home c) refl ∙ h.mended.mended.names (Home c) refl (eq-eqb c c refl));
        rows = λ j. (let u = ap (λ (x : Memo). own_word x.own (Era c j)) e in let a = h.mended.rows j in let d = h.mended.mended.rows j in omega arith);
        loose = ap (λ (x : Memo). is_loose x.part) e ∙ same_loose m.me _ r0 rs tr es h;
        map = ap (λ (x : Memo). map_in x.part) e ∙ same_map m.me _ r0 rs tr es h;
        events = subst (OnlyLoses c) (sym still) h.events;
        bound = omega arith;
      }

  -- the own era left no room
  stopped : (k j era : ℕ) (vs : List Visit) → IsRecovering m.me k r0 rs tr es → lasting r ≡ lasting rs → r.op ≡ Nothing → ((p : Spot) → is_kept c p ≡ true → own_word r.own p ≡ own_word rs.own p) → HasCome c r0 r → All (λ (v : Visit). Contains r.dying v.block) vs → (2 ^ 47 - 3 < era) × (era ≤ own_word r.own (Era c c)) → IsWithin (j + tear_steps wide (frees ds + length vs)) t → k + j ≤ 368 + 32 * u + 530 * g → RecoverStopped m.me r0 r (tr ++ t) (es ++ ds) era
  stopped k j era vs h same idle own come stay spent bound most =
      let x = h.mended in
      let last = same ∙ x.same in
      let f = tear_sum wide (frees (es ++ ds) + length vs) (frees es) (frees ds + length vs) (let y = frees-append es ds in omega arith) in
      let b = within_more (k + tear_steps wide (frees es)) (j + tear_steps wide (frees ds + length vs)) tr t h.bound bound in
      record {
        status = ap (λ (y : Memo). y.status) last ∙ x.mended.status;
        op = idle;
        latch = ap (λ (y : Memo). y.latch) last ∙ x.mended.latch;
        owned = ap (λ (y : Memo). y.owned) last ∙ x.mended.owned;
        tails = λ i. own (Tail c i) refl ∙ (x.own (Tail c i) refl ∙ x.mended.apart (Tail c i) refl);
        home = own (Home c) refl ∙ (x.own (Home c) refl ∙ x.mended.names (Home c) refl (eq-eqb c c refl));
        sent = ap (λ (y : Memo). y.sent) last ∙ x.mended.sent;
        loose = ap (λ (y : Memo). is_loose y.part) last ∙ x.mended.loose;
        map = ap (λ (y : Memo). map_in y.part) last ∙ x.mended.map;
        come = come;
        vs = vs;
        stays = stay;
        spent = spent.0;
        most = spent.1;
        bound = omega arith;
      }

  stopped_roots : (e : EraSpent) → RecoverKnows m Roots r0 rs tr es → RootsLeaves (record { me = m.me; root = 0 }) rs r t ds (Err e) → RecoverStopped m.me r0 r (tr ++ t) (es ++ ds) e.era
  stopped_roots e (h, takes, unsent) (vs, y) =
      let s = y.left.rest in
      let some = h.member.who in
      let all = recovery_most wide n h.member.geometry.clients (omega arith) in
      stopped (n + 13 + u) ((8 + u) * 16) e.era vs h (ap lasting s) y.left.op (λ p k. y.left.own p (kept_lasts c p k) (kept_no_root c _ p k)) (inl (same_takes takes (λ i. record { received = ap (λ (x : Memo). slice_index_or x.received i []) s; untaken = ap (λ (x : Memo). slice_index x.untaken i) s; head = y.left.own (QueueHead i c) refl refl }))) y.stopped.left (y.stopped.spent, y.most) y.bound (omega arith)

  stopped_back : (e : EraSpent) → RecoverKnows m Back r0 rs tr es → BackLeaves (taking_back m.me) rs r t ds (Err e) → RecoverStopped m.me r0 r (tr ++ t) (es ++ ds) e.era
  stopped_back e (h, takes, unsent, roots, some) (vs, y) =
      let s = y.back.rest in
      let some = h.member.who in
      let all = recovery_most wide n h.member.geometry.clients (omega arith) in
      stopped (n + 141 + 17 * u) ((10 + u) * (n - 1)) e.era vs h (ap lasting s) y.back.op (λ p k. y.back.own p (kept_lasts c p k))
      (inr (inl ((λ k. y.back.own (Root c k) refl ∙ roots k), same_takes takes (λ i. record { received = ap (λ (x : Memo). slice_index_or x.received i []) s; untaken = ap (λ (x : Memo). slice_index x.untaken i) s; head = y.back.own (QueueHead i c) refl }))))
      y.stopped.left (y.stopped.spent, y.most) y.bound (omega arith)

  stopped_scan : (e : EraSpent) → RecoverKnows m Scan r0 rs tr es → ScanStopped m.me rs r t ds e.era → RecoverStopped m.me r0 r (tr ++ t) (es ++ ds) e.era
  stopped_scan e (h, roots, sent, taken) y =
      let s = y.scanned.rest in
      let some = h.member.who in
      let all = recovery_most wide n h.member.geometry.clients (omega arith) in
      stopped (n + 141 + 17 * u + (10 + u) * (n - 1) + 4 * (n - 1)) (528 * g) e.era y.vs h (ap lasting s) y.scanned.op (λ p k. y.scanned.own p (kept_lasts c p k))
      (inr (inr (
        (λ k. y.scanned.own (Root c k) refl ∙ roots k),
        (λ j. ap (λ (x : Memo). slice_index x.unsent j) s ∙ sent j),
        taken_still taken (still_rest s y.scanned.own),
      )))
      y.stopped (y.spent, y.most) y.bound (omega arith)

-- what is known before the first call
pub recover_begin : (me : Me) (r : Memo) → MayMend me r → RecoverKnows (record { me = me; point = Mend }) Mend r r [] []
recover_begin me r may = (may, refl, refl, refl)

-- ---- the plan's laws, by those of the machines that it calls

module _ (mends : PlanLaws mend_parts mend_plan) (roots : PlanLaws drop_root roots_plan) (backs : PlanLaws back_parts back_plan) (finishes : PlanLaws word_control finish_plan) (scans : PlanLaws scan_parts scan_plan) (gives : PlanLaws word_control give_plan) where
  pub recover_laws : PlanLaws recover_parts recover_plan
  recover_laws =
      record {
        stays = stays;
        calls = λ m. calls m m.point;
        parts = λ m. let first = is_mend m.point in
            or_part_laws first mend_control (or_control roots_control (or_control back_control (or_control finish_control (or_control scan_control give_control)))) (calls_part mend_parts mend_plan)
            (or_part (calls_part drop_root roots_plan) (or_part (calls_part back_parts back_plan) (or_part (calls_part word_control finish_plan) (or_part (calls_part scan_parts scan_plan) (calls_part word_control give_plan)))))
            (calls_part_laws mend_parts mend_plan mends first)
            (or_part_laws first roots_control (or_control back_control (or_control finish_control (or_control scan_control give_control))) (calls_part drop_root roots_plan)
            (or_part (calls_part back_parts back_plan) (or_part (calls_part word_control finish_plan) (or_part (calls_part scan_parts scan_plan) (calls_part word_control give_plan))))
            (calls_part_laws drop_root roots_plan roots first)
            (or_part_laws first back_control (or_control finish_control (or_control scan_control give_control)) (calls_part back_parts back_plan)
            (or_part (calls_part word_control finish_plan) (or_part (calls_part scan_parts scan_plan) (calls_part word_control give_plan)))
            (calls_part_laws back_parts back_plan backs first)
            (or_part_laws first finish_control (or_control scan_control give_control) (calls_part word_control finish_plan) (or_part (calls_part scan_parts scan_plan) (calls_part word_control give_plan))
            (calls_part_laws word_control finish_plan finishes first)
            (or_part_laws first scan_control give_control (calls_part scan_parts scan_plan) (calls_part word_control give_plan) (calls_part_laws scan_parts scan_plan scans first) (calls_part_laws word_control give_plan gives first)))));
        opens = λ m. opens m m.point;
        leads = λ m r0 rs r tr t es ds a h g held agent. leads m m.point r0 rs r tr t es ds a h g held;
      }
    where
      stays : (m : RecoverState) (b : RecoverAnswer) → PlanStays recover_parts recover_plan m b
      stays m (First u) = record { same_me = refl; same_line = refl; same_start = refl; started = λ e. refl }
      stays m (Second (First (Ok u))) = let t = queues_stays m Back refl in record { same_me = t.0; same_line = refl; same_start = t.1; started = λ e. t.2 }
      stays m (Second (First (Err e))) = record { same_me = refl; same_line = refl; same_start = refl; started = λ e. absurd (cc) }
      stays m (Second (Second (First (Ok u)))) = let t = queues_stays m Takes refl in record { same_me = t.0; same_line = refl; same_start = t.1; started = λ e. t.2 }
      stays m (Second (Second (First (Err e)))) = record { same_me = refl; same_line = refl; same_start = refl; started = λ e. absurd (cc) }
      stays m (Second (Second (Second (First u)))) = record { same_me = refl; same_line = refl; same_start = refl; started = λ e. refl }
      stays m (Second (Second (Second (Second (First (Ok n)))))) = record { same_me = refl; same_line = refl; same_start = refl; started = λ e. refl }
      stays m (Second (Second (Second (Second (First (Err e)))))) = record { same_me = refl; same_line = refl; same_start = refl; started = λ e. absurd (cc) }
      stays m (Second (Second (Second (Second (Second u))))) = record { same_me = refl; same_line = refl; same_start = refl; started = λ e. absurd (cc) }

      -- each call leads on
      leads : (m : RecoverState) (y : RecoverPoint) (r0 rs r : Memo) (tr t : Trail) (es ds : List Event) (a : RecoverAnswer) → RecoverKnows m y r0 rs tr es → recover_part.leaves (recover_call_at m y) rs r t ds a → IsHeld m.me r
          → Follows recover_parts recover_plan (record m { point = y }) a r0 r (tr ++ t) (es ++ ds)
      leads m Mend r0 rs r tr t es ds (First u) h y held = mended (record m { point = Mend }) r0 rs r tr t es ds held h y
      leads m Roots r0 rs r tr t es ds (Second (First (Ok u))) h y held = dropped (record m { point = Roots }) r0 rs r tr t es ds held h y
      leads m Roots r0 rs r tr t es ds (Second (First (Err e))) h y held = stopped_roots (record m { point = Roots }) r0 rs r tr t es ds held e h y
      leads m Back r0 rs r tr t es ds (Second (Second (First (Ok u)))) h y held = taken_back (record m { point = Back }) r0 rs r tr t es ds held h y
      leads m Back r0 rs r tr t es ds (Second (Second (First (Err e)))) h y held = stopped_back (record m { point = Back }) r0 rs r tr t es ds held e h y
      leads m Takes r0 rs r tr t es ds (Second (Second (Second (First u)))) h y held = taken (record m { point = Takes }) r0 rs r tr t es ds held h y
      leads m Scan r0 rs r tr t es ds (Second (Second (Second (Second (First (Ok n)))))) h y held = scanned (record m { point = Scan }) r0 rs r tr t es ds held n h y
      leads m Scan r0 rs r tr t es ds (Second (Second (Second (Second (First (Err e)))))) h y held = stopped_scan (record m { point = Scan }) r0 rs r tr t es ds held e h y
      leads m Give r0 rs r tr t es ds (Second (Second (Second (Second (Second u))))) h y held = gone (record m { point = Give }) r0 rs r tr t es ds held h y
      leads m Mend r0 rs r tr t es ds (Second a) h y held = absurd y
      leads m Roots r0 rs r tr t es ds (First u) h y held = absurd y
      leads m Roots r0 rs r tr t es ds (Second (Second a)) h y held = absurd y
      leads m Back r0 rs r tr t es ds (First u) h y held = absurd y
      leads m Back r0 rs r tr t es ds (Second (First a)) h y held = absurd y
      leads m Back r0 rs r tr t es ds (Second (Second (Second a))) h y held = absurd y
      leads m Takes r0 rs r tr t es ds (First u) h y held = absurd y
      leads m Takes r0 rs r tr t es ds (Second (First a)) h y held = absurd y
      leads m Takes r0 rs r tr t es ds (Second (Second (First a))) h y held = absurd y
      leads m Takes r0 rs r tr t es ds (Second (Second (Second (Second a)))) h y held = absurd y
      leads m Scan r0 rs r tr t es ds (First u) h y held = absurd y
      leads m Scan r0 rs r tr t es ds (Second (First a)) h y held = absurd y
      leads m Scan r0 rs r tr t es ds (Second (Second (First a))) h y held = absurd y
      leads m Scan r0 rs r tr t es ds (Second (Second (Second (First u)))) h y held = absurd y
      leads m Scan r0 rs r tr t es ds (Second (Second (Second (Second (Second u))))) h y held = absurd y
      leads m Give r0 rs r tr t es ds (First u) h y held = absurd y
      leads m Give r0 rs r tr t es ds (Second (First a)) h y held = absurd y
      leads m Give r0 rs r tr t es ds (Second (Second (First a))) h y held = absurd y
      leads m Give r0 rs r tr t es ds (Second (Second (Second (First u)))) h y held = absurd y
      leads m Give r0 rs r tr t es ds (Second (Second (Second (Second (First a))))) h y held = absurd y
