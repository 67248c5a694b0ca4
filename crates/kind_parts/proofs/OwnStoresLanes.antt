-- the stores of a tail and of a head, as machines use them
use Rattle.std.proofs.Common.{◌≡◌, ℕ, ◌+◌, refl, sym, ap, ◌∙◌, subst, false, List, [], ◌∷◌, ◌++◌, None}
use Rattle.std.proofs.lemmas.Bool.{eq-eqb}
use Rattle.std.specs.Prelude.{slice_index, slice_index_or}
use Rattle.shm_graph.specs.declared.{ask.{Ask.TheVariants.Store, Me.Me}, memo.Memo.Memo, spot.Spot.Spot}
use Rattle.shm_graph.specs.{declared.spot.Spot.TheVariants.{Tail, QueueHead}, Spots.{spot_at, upd}, Blocks.classes}
use Rattle.shm_graph.specs.{Views.{View, view, at1, own_word}, Asks.Trail, Events.{Nothing, graph_of, Happens}}
use Rattle.shm_graph.specs.{Held.HeldAt, MemoAfterStore.{put, lane_with}, Laws.{Frame, Stands, KeptAt}}
use Rattle.shm_graph.proofs.StepKinds.{Keeping.told_fixed, KindKeeping.{in_frame, kept_from}}
use Rattle.shm_graph.proofs.{Memos.MemoParts.put_same, Spots.Spotting.spot_there}
use Rattle.kind_laws.specs.OwnWords.{TailNeeds, tail_view, QueueHeadNeeds, head_view, at2}
use Rattle.kind_laws.proofs.{QueueTails.tail_kept, QueueHeads.head_kept, Quiet.{tail_quiet, head_quiet}}
use Rattle.kind_parts.specs.OwnWords.{MaySend, MayReceive}
use Rattle.kind_parts.proofs.Items.{put_at, part_at2}

-- the tail of the queue to another client is stored
pub tail_stored : (me : Me) (w : Spot → ℕ) (r : ℕ → Memo) (f : Frame) (tr : Trail) (at i : ℕ) → Stands me w r f tr → f.fresh ≡ false → spot_at me.geometry (classes w) at ≡ Tail me.who i → MaySend me.geometry.clients me.who (r me.who) i
    → KeptAt me w r (Store at (own_word (r me.who).own (Tail me.who i) + 1)) f (λ n m. Unit {0}) (spot_at me.geometry (classes w) at)
tail_stored me w r f tr at i s going e a =
    let g = me.geometry in
    let c = me.who in
    let v : View = view r in
    let p : Spot = Tail c i in
    let x : ℕ = own_word (r c).own p + 1 in
    let word : own_word (r c).own p ≡ w p = s.held.mine c s.who p (eq-eqb c c refl) in
    let step : TailNeeds g w v c i = record {
      inside = s.who;
      to = a.to;
      other = a.other;
      acts = a.here.joined;
      here = a.here.stays;
      op = a.idle;
      some = a.some;
      place = spot_there g (classes w) at p e (λ z. cc);
    } in
    let sends : at1 v.sent c (λ j. slice_index_or (lane_with (r c).sent i (slice_index (r c).unsent i)) j []) ≡ at2 v.sent c i (v.sent c i ++ v.unsent c i ∷ []) =
    part_at2 v.sent c i _ _ (λ j. put_at [] (r c).sent i (v.sent c i ++ v.unsent c i ∷ []) j) in
    let waits : at1 v.unsent c (λ j. slice_index (put 0 (r c).unsent i 0) j) ≡ at2 v.unsent c i 0 = part_at2 v.unsent c i _ _ (λ j. put_at 0 (r c).unsent i 0 j) in
    let own = record { spot = p; value = x } ∷ v.own c in
    subst (KeptAt me w r (Store at x) f (λ n m. Unit {0})) (sym e)
    (in_frame (λ h. KeptAt me w r (Store at x) h (λ n m. Unit {0}) p) f going
    (kept_from me w r (Store at x) (record f { fresh = false }) (λ n m. Unit {0}) p (tail_view v c i x)
    (told_fixed g (classes w) c (r c) (Store at x) p e refl)
    (ap (λ (k : ℕ → ℕ → List ℕ). record v { own = at1 v.own c own; sent = k; unsent = at2 v.unsent c i 0; test = at1 v.test c None }) (sym sends)
    ∙ (ap (λ (k : ℕ → ℕ → ℕ). record v { own = at1 v.own c own; sent = at1 v.sent c (λ j. slice_index_or (lane_with (r c).sent i (slice_index (r c).unsent i)) j []); unsent = k; test = at1 v.test c None }) (sym waits)
    ∙ sym (ap (λ (u : View). record u { own = at1 v.own c own; sent = at1 v.sent c (λ j. slice_index_or (lane_with (r c).sent i (slice_index (r c).unsent i)) j []); unsent = at1 v.unsent c (λ j. slice_index (put 0 (r c).unsent i 0) j); test = at1 v.test c None }) (put_same v c))))
    (subst (λ y. HeldAt g (upd w p (y + 1)) (tail_view v c i (y + 1))) (sym word) (tail_kept g w v c i s.held step))
    (subst (λ y. Happens g w Nothing (graph_of g w v) (graph_of g (upd w p (y + 1)) (tail_view v c i (y + 1)))) (sym word) (tail_quiet g w v c i s.held step))
    refl tt tt tt))

-- the head of the queue from another client is stored
pub head_stored : (me : Me) (w : Spot → ℕ) (r : ℕ → Memo) (f : Frame) (tr : Trail) (at i : ℕ) → Stands me w r f tr → f.fresh ≡ false → spot_at me.geometry (classes w) at ≡ QueueHead i me.who → MayReceive me.geometry.clients me.who (r me.who) i
    → KeptAt me w r (Store at (own_word (r me.who).own (QueueHead i me.who) + 1)) f (λ n m. Unit {0}) (spot_at me.geometry (classes w) at)
head_stored me w r f tr at i s going e a =
    let g = me.geometry in
    let c = me.who in
    let v : View = view r in
    let p : Spot = QueueHead i c in
    let x : ℕ = own_word (r c).own p + 1 in
    let word : own_word (r c).own p ≡ w p = s.held.mine c s.who p (eq-eqb c c refl) in
    let step : QueueHeadNeeds g w v c i = record {
      inside = s.who;
      from = a.from;
      other = a.other;
      acts = a.here.joined;
      here = a.here.stays;
      op = a.idle;
      some = a.some;
      place = spot_there g (classes w) at p e (λ z. cc);
    } in
    let gets : at1 v.received c (λ j. slice_index_or (lane_with (r c).received i (slice_index (r c).untaken i)) j []) ≡ at2 v.received c i (v.received c i ++ v.untaken c i ∷ []) =
    part_at2 v.received c i _ _ (λ j. put_at [] (r c).received i (v.received c i ++ v.untaken c i ∷ []) j) in
    let waits : at1 v.untaken c (λ j. slice_index (put 0 (r c).untaken i 0) j) ≡ at2 v.untaken c i 0 = part_at2 v.untaken c i _ _ (λ j. put_at 0 (r c).untaken i 0 j) in
    let own = record { spot = p; value = x } ∷ v.own c in
    subst (KeptAt me w r (Store at x) f (λ n m. Unit {0})) (sym e)
    (in_frame (λ h. KeptAt me w r (Store at x) h (λ n m. Unit {0}) p) f going
    (kept_from me w r (Store at x) (record f { fresh = false }) (λ n m. Unit {0}) p (head_view v c i x)
    (told_fixed g (classes w) c (r c) (Store at x) p e refl)
    (ap (λ (k : ℕ → ℕ → List ℕ). record v { own = at1 v.own c own; received = k; untaken = at2 v.untaken c i 0; test = at1 v.test c None }) (sym gets)
    ∙ (ap (λ (k : ℕ → ℕ → ℕ). record v { own = at1 v.own c own; received = at1 v.received c (λ j. slice_index_or (lane_with (r c).received i (slice_index (r c).untaken i)) j []); untaken = k; test = at1 v.test c None }) (sym waits)
    ∙ sym (ap (λ (u : View). record u { own = at1 v.own c own; received = at1 v.received c (λ j. slice_index_or (lane_with (r c).received i (slice_index (r c).untaken i)) j []); untaken = at1 v.untaken c (λ j. slice_index (put 0 (r c).untaken i 0) j); test = at1 v.test c None }) (put_same v c))))
    (subst (λ y. HeldAt g (upd w p (y + 1)) (head_view v c i (y + 1))) (sym word) (head_kept g w v c i s.held step))
    (subst (λ y. Happens g w Nothing (graph_of g w v) (graph_of g (upd w p (y + 1)) (head_view v c i (y + 1)))) (sym word) (head_quiet g w v c i s.held step))
    refl tt tt tt))
