-- machines that leave the own map: what a key has is read, sent or given a root, the head of a queue is given a root, and a home comes to name a directory
use Rattle.std.proofs.Common.{◌≡◌, refl, ap, ◌∙◌, Bool, true, false, List}
use Rattle.shm_graph.specs.{declared.memo.Memo.Memo, Asks.Trail, Events.Event, Tells.after_all}
use Rattle.shm_graph.specs.declared.spot.Spot.TheVariants as spot
use Rattle.plans.specs.{declared.or.Or.TheVariants.Second, CallsFit.CallsFits, Either.or_control, Words.word_control}
use Rattle.kind_parts.specs.Reparting.TableStep.{Founds}
use Rattle.shm_count.specs.{Step.Machines.up_control, UpRoot.{AsPart.up_root, Control.rooting_parts, rooting_plan}}
use Rattle.shm_alloc.specs.Alloc.Control.{alloc_control}
use Rattle.shm_ref.specs.DropRoots.Control.{drop_root}
use Rattle.shm_queue.specs.{Machines.send, Send.{Control.send_parts, send_plan}}
use Rattle.shm_script.specs.declared.log.Answer.{Answer}
use Rattle.shm_script.specs.declared.log.Answer.TheVariants as answer
use Rattle.shm_table.specs.declared.fetch.{Fetched.Fetched, FetchPoint.FetchPoint, FetchState.FetchState}
use Rattle.shm_table.specs.declared.fetch_head.{FetchHeadPoint.FetchHeadPoint, FetchHeadState.FetchHeadState}
use Rattle.shm_table.specs.declared.{get.{GetPoint.GetPoint, GetState.GetState}, open_table.OpenPoint.OpenPoint}
use Rattle.shm_table.specs.declared.{open_table.OpenState.OpenState, send_key.SendKeyPoint.SendKeyPoint}
use Rattle.shm_table.specs.{declared.send_key.SendKeyState.SendKeyState, CopyKey.Control.fetch_control}
use Rattle.shm_table.specs.Fetch.{Control.fetch_parts, FetchKnows, GiveKnows, fetch_plan, got}
use Rattle.shm_table.specs.FetchHead.{Control.fetch_head_parts, FetchHeadKnows, fetch_head_plan}
use Rattle.shm_table.specs.{Get.{Control.get_parts, GetKnows, get_plan}, Locate.Control.{locate_parts, locate_control}}
use Rattle.shm_table.specs.{Locate.locate_plan, Machines.{Get.get, Send.send_key}}
use Rattle.shm_table.specs.OpenTable.{Control.{OpenCall, open_call_at, open_parts}, OpenKnows, open_plan}
use Rattle.shm_table.specs.{PutRoot.Control.open_control, Proved.{PutRoot.Steps.same_more, Staying.Laws.same_map}}
use Rattle.shm_table.specs.{Proved.Staying.Steps.map_home, RecvKey.Control.fetch_head_control}
use Rattle.shm_table.specs.SendKey.Control.{send_key_parts}
use Rattle.shm_table.specs.{SendKey.{GiveKnows as SaysKnows, SendKeyKnows, got as sent, send_key_plan}, Staying.SameMap}
use Rattle.shm_table.specs.Unlatch.{unlatch_plan, Control.unlatch_control}
use Rattle.shm_table.specs.declared.fetch.Fetched.TheVariants as fetched
use Rattle.shm_table.specs.declared.fetch.FetchPoint.TheVariants as fetching
use Rattle.shm_table.specs.declared.fetch_head.FetchHeadPoint.TheVariants as heading
use Rattle.shm_table.specs.declared.get.GetPoint.TheVariants as getting
use Rattle.shm_table.specs.declared.open_table.OpenPoint.TheVariants as opening
use Rattle.shm_table.specs.declared.send_key.SendKeyPoint.TheVariants as keys
use Rattle.shm_table.proofs.Running.Reading.{drop_quiet, locate_quiet, rooting_quiet, send_quiet, unlatch_quiet}
use Rattle.shm_table.proofs.Running.AsMade.{at_first, at_second, at_second_first, at_second_second}
use Rattle.shm_table.proofs.Running.Steps.{PartBy, aimed_part}
use Rattle.shm_table.proofs.Running.Quiet.{IsQuiet, Quiet, calls_quiet, kept, map_of, or_quiet, quiet_by, quiet_now, word_quiet}
use Rattle.shm_table.proofs.Running.Still.{IsStill, alloc_still, calls_running, or_running, same_now, word_still}

-- ---- what a key has

pub get_kept : (m : GetState) (y : GetPoint) (r0 r : Memo) (tr : Trail) (es : List Event) → GetKnows m y r0 r tr es → Quiet r0 r
get_kept m getting.Search r0 r tr es (may, same, none, quiet) = quiet_now r0 r same
get_kept m getting.Missing r0 r tr es h = quiet_by r0 r (ap kept h.reading.memo)
get_kept m _ r0 r tr es h = quiet_by r0 r (ap kept h.0.reading.memo)

pub get_quiet : IsQuiet get (CallsFits get_parts get_plan)
get_quiet =
    calls_quiet get_parts get_plan (λ m. get_kept m m.point)
    (λ m. or_quiet locate_control (or_control word_control unlatch_control) (CallsFits locate_parts locate_plan) _ locate_quiet (or_quiet word_control unlatch_control _ (CallsFits word_control unlatch_plan) (word_quiet _) unlatch_quiet))

-- ---- what a key has is sent

pub send_key_still : IsStill send_key (CallsFits send_key_parts send_key_plan)
send_key_still =
    calls_running SameMap same_more send_key_parts send_key_plan (λ m. known m m.point)
    (λ m. or_running SameMap locate_control (or_control word_control (or_control send unlatch_control)) (CallsFits locate_parts locate_plan) _ (map_of locate_control _ locate_quiet)
    (or_running SameMap word_control (or_control send unlatch_control) _ _ (word_still _) (or_running SameMap send unlatch_control (CallsFits send_parts send_plan) (CallsFits word_control unlatch_plan) (map_of send _ send_quiet) (map_of unlatch_control _ unlatch_quiet))))
  where
    says : (m : SendKeyState) (a : Answer) (r0 r : Memo) (tr : Trail) (es : List Event) → SaysKnows m a r0 r tr es → SameMap r0 r
    says m answer.Missing r0 r tr es h = same_map r0 r (ap (λ (x : Memo). x.part) h.reading.memo)
    says m answer.Ok r0 r tr es h = h.2.map
    says m (answer.QueueFull k n) r0 r tr es h = h.1.map
    says m (answer.EraSpent e) r0 r tr es h = h.1.map
    says m (answer.CountFull d n) r0 r tr es h = h.1.map
    says m _ r0 r tr es h = absurd h

    known : (m : SendKeyState) (y : SendKeyPoint) (r0 r : Memo) (tr : Trail) (es : List Event) → SendKeyKnows m y r0 r tr es → SameMap r0 r
    known m keys.Search r0 r tr es (may, same, none, quiet) = same_now r0 r same
    known m keys.Value r0 r tr es h = (get_kept (sent m getting.Value) getting.Value r0 r tr es h.0).0
    known m keys.Send r0 r tr es h = (get_kept (sent m getting.Number) getting.Number r0 r tr es h.0).0
    known m keys.Give r0 r tr es h = says m m.outcome r0 r tr es h

-- ---- what a key has is given a root, and what waits at the head of a queue

pub fetch_quiet : IsQuiet fetch_control (CallsFits fetch_parts fetch_plan)
fetch_quiet =
    calls_quiet fetch_parts fetch_plan (λ m. known m m.point)
    (λ m. or_quiet locate_control (or_control word_control (or_control up_root unlatch_control)) (CallsFits locate_parts locate_plan) _ locate_quiet
    (or_quiet word_control (or_control up_root unlatch_control) _ _ (word_quiet _) (or_quiet up_root unlatch_control (CallsFits rooting_parts rooting_plan) (CallsFits word_control unlatch_plan) rooting_quiet unlatch_quiet)))
  where
    gives : (m : FetchState) (a : Fetched) (r0 r : Memo) (tr : Trail) (es : List Event) → GiveKnows m a r0 r tr es → Quiet r0 r
    gives m fetched.Missing r0 r tr es h = quiet_by r0 r (ap kept h.reading.memo)
    gives m _ r0 r tr es h = (h.map, h.keeps.sent)

    known : (m : FetchState) (y : FetchPoint) (r0 r : Memo) (tr : Trail) (es : List Event) → FetchKnows m y r0 r tr es → Quiet r0 r
    known m fetching.Search r0 r tr es (may, same, none, quiet) = quiet_now r0 r same
    known m fetching.Value r0 r tr es h = get_kept (got m getting.Value) getting.Value r0 r tr es h.0
    known m fetching.Number r0 r tr es h = get_kept (got m getting.Number) getting.Number r0 r tr es h.0
    known m fetching.Share r0 r tr es h = get_kept (got m getting.Known) getting.Known r0 r tr es h.0
    known m fetching.Give r0 r tr es h = gives m m.outcome r0 r tr es h

pub fetch_head_quiet : IsQuiet fetch_head_control (CallsFits fetch_head_parts fetch_head_plan)
fetch_head_quiet = calls_quiet fetch_head_parts fetch_head_plan (λ m. known m m.point) keeps
  where
    known : (m : FetchHeadState) (y : FetchHeadPoint) (r0 r : Memo) (tr : Trail) (es : List Event) → FetchHeadKnows m y r0 r tr es → Quiet r0 r
    known m heading.Head r0 r tr es (may, same, none, quiet) = quiet_now r0 r same
    known m heading.Tail r0 r tr es (may, h) = quiet_by r0 r (ap kept h.same)
    known m heading.Slot r0 r tr es (may, (h, at)) = quiet_by r0 r (ap kept h.same)
    known m heading.Number r0 r tr es (may, (h, room)) = quiet_by r0 r (ap kept h.left)
    known m heading.Share r0 r tr es h = quiet_by r0 r (ap kept h.at.reads.memo)

    keeps : (m : FetchHeadState) → IsQuiet fetch_head_parts (fetch_head_plan.part m).fits
    keeps m c rs r t going fit = or_quiet word_control up_root _ (CallsFits rooting_parts rooting_plan) (word_quiet _) rooting_quiet c rs r t going fit.0

-- ---- a home comes to name a directory

abbrev OpenSo : OpenState → OpenPoint → (r0 rs r : Memo) → Trail → OpenCall → Type 0
OpenSo p y r0 rs r t c = open_parts.finished c ≡ false → (open_plan.part (record p { point = y })).fits c rs r t → SameMap r0 r

pub open_still : IsStill open_control (CallsFits open_parts open_plan)
open_still m r0 r tr going fit = go m.plan m.plan.point m.call r0 fit.rs r fit.before fit.t fit.es fit.there fit.knows going fit.fits
  where
    -- the step up at the home
    named : (p : OpenState) (r0 rs r : Memo) (tr : Trail) (es : List Event) (z : Bool) → OpenKnows p opening.Name r0 rs tr es → PartBy z p.me.who (spot.Home p.me.who) p.block rs r → SameMap r0 r
    named p r0 rs r tr es false h e = same_map r0 r (e ∙ h.part)
    named p r0 rs r tr es true h e =
        same_more r0 rs r (same_map r0 rs h.part) (map_home p.me rs r p.block h.holds h.may.who h.keeps.idle.op (h.keeps.loose ∙ h.may.table) h.home h.has.some e (Founds refl refl h.bare))

    -- a call past the first one
    later : (Q : OpenCall → Type 0) (m : _) (t : Trail) {c : OpenCall} → after_all open_parts (Second m) t ≡ c → Q (Second (after_all (or_control alloc_control (or_control up_control drop_root)) m t)) → Q c
    later Q m t there h = at_second word_control (or_control alloc_control (or_control up_control drop_root)) Q m t there h

    go : (p : OpenState) (y : OpenPoint) (c : OpenCall) (r0 rs r : Memo) (before t : Trail) (es : List Event) → after_all open_parts (open_call_at p y) t ≡ c → OpenKnows p y r0 rs before es → OpenSo p y r0 rs r t c
    go p opening.Look c r0 rs r before t es there (may, same, none, quiet) =
        at_first word_control (or_control alloc_control (or_control up_control drop_root)) (OpenSo p opening.Look r0 rs r t) _ t there (λ run fit. same_more r0 rs r (same_now r0 rs same) (word_still _ _ rs r t run fit))
    go p opening.Make c r0 rs r before t es there h =
        later (OpenSo p opening.Make r0 rs r t) _ t there (at_first alloc_control (or_control up_control drop_root) (λ x. OpenSo p opening.Make r0 rs r t (Second x)) _ t refl
        (λ run fit. same_more r0 rs r (same_map r0 rs (ap (λ (x : Memo). x.part) h.same)) (alloc_still _ rs r t run fit)))
    go p opening.Name c r0 rs r before t es there h =
        later (OpenSo p opening.Name r0 rs r t) _ t there (at_second_first alloc_control up_control drop_root (λ x. OpenSo p opening.Name r0 rs r t (Second x)) _ t refl
        (λ run fit. named p r0 rs r before es _ h (aimed_part up_control (λ x n. (refl, refl)) _ (spot.Home p.me.who) tt rs r t t run fit.0.0.1)))
    go p opening.Drop c r0 rs r before t es there h =
        later (OpenSo p opening.Drop r0 rs r t) _ t there (at_second_second alloc_control up_control drop_root (λ x. OpenSo p opening.Drop r0 rs r t (Second x)) _ t refl
        (λ run fit. same_more r0 rs r h.map (drop_quiet _ rs r t run fit).0))
