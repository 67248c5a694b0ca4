-- the machines that change the own map send nothing while they run
use Rattle.std.proofs.Common.{ℕ, ◌+◌, ap, ◌∙◌, List, Option, Some, None, inl, inr}
use Rattle.shm_graph.specs.{declared.memo.Memo.Memo, Asks.Trail, Bounds.redo_steps, Events.Event}
use Rattle.shm_graph.specs.declared.spot.Spot.TheVariants as spot
use Rattle.plans.specs.{CallsFit.CallsFits, Either.or_control, Words.word_control}
use Rattle.shm_count.specs.Step.{Control.step_control, Machines.{down_control, up_control}}
use Rattle.shm_count.specs.{StepsAt.{ChangeFitsAt, DownFitsAt, UpFitsAt}, Tear.{Control.tear_control, TearFits}}
use Rattle.shm_alloc.specs.Alloc.{Control.alloc_control, AllocFits}
use Rattle.shm_ref.specs.{DropRoot.{Control.drop_parts, drop_plan}, DropRoots.Control.drop_root}
use Rattle.shm_table.specs.declared.{answer.PutFault.PutFault, copy.{CopyPoint.CopyPoint, CopyState.CopyState}}
use Rattle.shm_table.specs.declared.{del.{DelPoint.DelPoint, DelState.DelState}, enter.EnterPoint.EnterPoint}
use Rattle.shm_table.specs.declared.{enter.EnterState.EnterState, open_table.{OpenPoint.OpenPoint, OpenState.OpenState}}
use Rattle.shm_table.specs.declared.{put.{PutPoint.PutPoint, PutState.PutState}, put_root.PutRootPoint.PutRootPoint}
use Rattle.shm_table.specs.declared.{put_root.PutRootState.PutRootState, recv.RecvPoint.RecvPoint}
use Rattle.shm_table.specs.declared.{recv.RecvState.RecvState, replace.ReplacePoint.ReplacePoint}
use Rattle.shm_table.specs.declared.{replace.ReplaceState.ReplaceState, unlink.UnlinkPoint.UnlinkPoint}
use Rattle.shm_table.specs.{declared.unlink.UnlinkState.UnlinkState, CopyKey.Control.{copy_parts, fetch_control}}
use Rattle.shm_table.specs.{CopyKey.{CopyKnows, copy_plan}, Del.{Control.del_parts, DelKnows, DelSays, del_plan}}
use Rattle.shm_table.specs.Enter.{Control.{enter_parts, enter_spot}, EnterKnows, enter_plan}
use Rattle.shm_table.specs.{Fetch.{Control.fetch_parts, fetch_plan}, FetchHead.Control.fetch_head_parts}
use Rattle.shm_table.specs.{FetchHead.fetch_head_plan, Locate.{Control.{locate_parts, locate_control}, locate_plan}}
use Rattle.shm_table.specs.Machines.{Change.del, Copy.copy_control, Put.put, Recv.recv_control}
use Rattle.shm_table.specs.{OpenTable.{Control.open_parts, OpenKnows, name_part, open_plan}, Put.Control.put_parts}
use Rattle.shm_table.specs.Put.{PutKnows, put_plan}
use Rattle.shm_table.specs.PutRoot.Control.{enter_control, open_control, put_root_parts, replace_control, put_root_control}
use Rattle.shm_table.specs.PutRoot.{PutRootKnows, put_root_plan}
use Rattle.shm_table.specs.RecvKey.Control.{fetch_head_control, recv_parts, take_head_control}
use Rattle.shm_table.specs.{RecvKey.{ItemSo, RecvKnows, recv_plan}, Replace.Control.replace_parts}
use Rattle.shm_table.specs.{Replace.{ReplaceKnows, replace_plan}, TakeHead.{Control.take_head_parts, take_head_plan}}
use Rattle.shm_table.specs.Unlatch.{unlatch_plan, Control.unlatch_control}
use Rattle.shm_table.specs.Unlink.{Control.{unlink_parts, unlink_control}, UnlinkKnows, unlink_plan}
use Rattle.shm_table.specs.declared.copy.CopyPoint.TheVariants as copies
use Rattle.shm_table.specs.declared.del.DelPoint.TheVariants as deletes
use Rattle.shm_table.specs.declared.enter.EnterPoint.TheVariants as entering
use Rattle.shm_table.specs.declared.open_table.OpenPoint.TheVariants as opening
use Rattle.shm_table.specs.declared.put.PutPoint.TheVariants as puts
use Rattle.shm_table.specs.declared.put_root.PutRootPoint.TheVariants as bringing
use Rattle.shm_table.specs.declared.recv.RecvPoint.TheVariants as receives
use Rattle.shm_table.specs.declared.replace.ReplacePoint.TheVariants as replacing
use Rattle.shm_table.specs.declared.unlink.UnlinkPoint.TheVariants as unlinking
use Rattle.shm_table.proofs.Running.{Fetching.{fetch_head_quiet, fetch_quiet}, Quiet.sends_of}
use Rattle.shm_table.proofs.Running.Reading.{drop_quiet, locate_quiet, take_head_quiet, unlatch_quiet}
use Rattle.shm_table.proofs.Running.SentSteps.{SendsNone, SentSame, alloc_sends, calls_sends, down_sends, or_sends, sent_now, step_sends, tear_sends, up_sends, word_sends}
use Rattle.shm_script.specs.declared.log.Answer.{Answer}
use Rattle.shm_script.specs.declared.log.Answer.TheVariants as answer

-- ---- a value block comes into the own table, or goes out of it

open_sends : SendsNone open_control (CallsFits open_parts open_plan)
open_sends =
    calls_sends open_parts open_plan (λ m. known m m.point)
    (λ m. or_sends word_control (or_control alloc_control (or_control up_control drop_root)) _ _ (word_sends _)
    (or_sends alloc_control (or_control up_control drop_root) AllocFits _ alloc_sends (or_sends up_control drop_root (name_part m m.point).fits (CallsFits drop_parts drop_plan) (named m m.point) (sends_of drop_root _ drop_quiet))))
  where
    known : (m : OpenState) (y : OpenPoint) (r0 r : Memo) (tr : Trail) (es : List Event) → OpenKnows m y r0 r tr es → SentSame r0 r
    known m opening.Look r0 r tr es (may, same, none, quiet) = sent_now r0 r same
    known m opening.Make r0 r tr es h = ap (λ (x : Memo). x.sent) h.same
    known m _ r0 r tr es h = h.keeps.sent

    named : (m : OpenState) (y : OpenPoint) → SendsNone up_control (name_part m y).fits
    named m opening.Name s rs r t going fit = step_sends (spot.Home m.me.who) tt s rs r t going fit.0.0.1
    named m _ s rs r t going fit = up_sends (spot.Home m.me.who) tt s rs r t going fit

-- a change at a word of a block
change_sends : (b i : ℕ) → SendsNone step_control (ChangeFitsAt (spot.Body b i))
change_sends b i s rs r t going fit = step_sends (spot.Body b i) tt s rs r t going fit.1

replace_sends : SendsNone replace_control (CallsFits replace_parts replace_plan)
replace_sends =
    calls_sends replace_parts replace_plan (λ m. known m m.point)
    (λ m. or_sends word_control (or_control step_control tear_control) _ _ (word_sends _) (or_sends step_control tear_control (ChangeFitsAt (spot.Body m.entry 1)) TearFits (change_sends m.entry 1) tear_sends))
  where
    known : (m : ReplaceState) (y : ReplacePoint) (r0 r : Memo) (tr : Trail) (es : List Event) → ReplaceKnows m y r0 r tr es → SentSame r0 r
    known m replacing.Look r0 r tr es (may, same, none, quiet) = sent_now r0 r same
    known m replacing.Change r0 r tr es h = ap (λ (x : Memo). x.sent) h.0.reads.memo
    known m replacing.Tear r0 r tr es h = ap (λ (x : Memo). x.sent) h.lost.took.rest ∙ ap (λ (x : Memo). x.sent) h.seen.reads.memo

unlink_sends : SendsNone unlink_control (CallsFits unlink_parts unlink_plan)
unlink_sends =
    calls_sends unlink_parts unlink_plan (λ m. known m m.point)
    (λ m. let p = spot.Body m.before m.word in or_sends word_control (or_control down_control (or_control step_control tear_control)) _ _ (word_sends _)
    (or_sends down_control (or_control step_control tear_control) (DownFitsAt p) _ (down_sends p tt) (or_sends step_control tear_control (ChangeFitsAt p) TearFits (change_sends m.before m.word) tear_sends)))
  where
    known : (m : UnlinkState) (y : UnlinkPoint) (r0 r : Memo) (tr : Trail) (es : List Event) → UnlinkKnows m y r0 r tr es → SentSame r0 r
    known m unlinking.Look r0 r tr es (may, same, none, quiet) = sent_now r0 r same
    known m unlinking.Tear r0 r tr es h = ap (λ (x : Memo). x.sent) h.lost.took.rest ∙ ap (λ (x : Memo). x.sent) h.seen.reads.memo
    known m _ r0 r tr es h = ap (λ (x : Memo). x.sent) h.1.reads.memo

enter_sends : SendsNone enter_control (CallsFits enter_parts enter_plan)
enter_sends =
    calls_sends enter_parts enter_plan (λ m. known m m.point)
    (λ m. or_sends alloc_control (or_control up_control step_control) AllocFits _ alloc_sends (or_sends up_control step_control (UpFitsAt (enter_spot m m.point)) (ChangeFitsAt (enter_spot m m.point)) (up_sends (enter_spot m m.point) tt) (change_sends _ _)))
  where
    known : (m : EnterState) (y : EnterPoint) (r0 r : Memo) (tr : Trail) (es : List Event) → EnterKnows m y r0 r tr es → SentSame r0 r
    known m entering.Make r0 r tr es (may, same, none, quiet) = sent_now r0 r same
    known m entering.Value r0 r tr es h = h.0.1.keeps.sent
    known m _ r0 r tr es h = h.1.1.keeps.sent

put_root_sends : SendsNone put_root_control (CallsFits put_root_parts put_root_plan)
put_root_sends =
    calls_sends put_root_parts put_root_plan (λ m. known m m.point)
    (λ m. or_sends (or_control open_control locate_control) (or_control (or_control replace_control enter_control) (or_control unlatch_control drop_root)) _ _
    (or_sends open_control locate_control (CallsFits open_parts open_plan) (CallsFits locate_parts locate_plan) open_sends (sends_of locate_control _ locate_quiet))
    (or_sends (or_control replace_control enter_control) (or_control unlatch_control drop_root) _ _ (or_sends replace_control enter_control (CallsFits replace_parts replace_plan) (CallsFits enter_parts enter_plan) replace_sends enter_sends)
    (or_sends unlatch_control drop_root (CallsFits word_control unlatch_plan) (CallsFits drop_parts drop_plan) (sends_of unlatch_control _ unlatch_quiet) (sends_of drop_root _ drop_quiet))))
  where
    known : (m : PutRootState) (y : PutRootPoint) (r0 r : Memo) (tr : Trail) (es : List Event) → PutRootKnows m y r0 r tr es → SentSame r0 r
    known m bringing.Open r0 r tr es h = sent_now r0 r h.1
    known m bringing.Unlatch r0 r tr es h = h.keeps.sent
    known m bringing.Drop r0 r tr es h = h.2.keeps.sent
    known m _ r0 r tr es h = h.0.keeps.sent

-- ---- commands

pub put_sends : SendsNone put (CallsFits put_parts put_plan)
put_sends =
    calls_sends put_parts put_plan (λ m. known m m.point)
    (λ m. or_sends alloc_control (or_control put_root_control drop_root) AllocFits _ alloc_sends (or_sends put_root_control drop_root (CallsFits put_root_parts put_root_plan) (CallsFits drop_parts drop_plan) put_root_sends (sends_of drop_root _ drop_quiet)))
  where
    known : (m : PutState) (y : PutPoint) (r0 r : Memo) (tr : Trail) (es : List Event) → PutKnows m y r0 r tr es → SentSame r0 r
    known m puts.Make r0 r tr es h = sent_now r0 r h.2
    known m puts.Put r0 r tr es h = h.keeps.sent
    known m puts.Drop r0 r tr es h = h.0.keeps.sent

pub copy_sends : SendsNone copy_control (CallsFits copy_parts copy_plan)
copy_sends =
    calls_sends copy_parts copy_plan (λ m. known m m.point)
    (λ m. or_sends fetch_control (or_control put_root_control drop_root) (CallsFits fetch_parts fetch_plan) _ (sends_of fetch_control _ fetch_quiet) (or_sends put_root_control drop_root (CallsFits put_root_parts put_root_plan) (CallsFits drop_parts drop_plan) put_root_sends (sends_of drop_root _ drop_quiet)))
  where
    known : (m : CopyState) (y : CopyPoint) (r0 r : Memo) (tr : Trail) (es : List Event) → CopyKnows m y r0 r tr es → SentSame r0 r
    known m copies.Fetch r0 r tr es h = sent_now r0 r h.1
    known m copies.Put r0 r tr es h = h.1.keeps.sent
    known m copies.Drop r0 r tr es h = h.0.keeps.sent

pub recv_sends : SendsNone recv_control (CallsFits recv_parts recv_plan)
recv_sends =
    calls_sends recv_parts recv_plan (λ m. known m m.point)
    (λ m. or_sends (or_control fetch_head_control take_head_control) (or_control put_root_control drop_root) _ _
    (or_sends fetch_head_control take_head_control (CallsFits fetch_head_parts fetch_head_plan) (CallsFits take_head_parts take_head_plan) (sends_of fetch_head_control _ fetch_head_quiet) (sends_of take_head_control _ take_head_quiet))
    (or_sends put_root_control drop_root (CallsFits put_root_parts put_root_plan) (CallsFits drop_parts drop_plan) put_root_sends (sends_of drop_root _ drop_quiet)))
  where
    item : (m : RecvState) (r0 r : Memo) (es : List Event) (f : Option PutFault) → ItemSo m.me m.from m.at m.block r0 r es f → SentSame r0 r
    item m r0 r es None (inl passed) = passed.keeps.sent
    item m r0 r es None (inr left) = left.0.sent
    item m r0 r es (Some f) keeps = keeps.sent

    known : (m : RecvState) (y : RecvPoint) (r0 r : Memo) (tr : Trail) (es : List Event) → RecvKnows m y r0 r tr es → SentSame r0 r
    known m receives.Fetch r0 r tr es h = sent_now r0 r h.1
    known m receives.Put r0 r tr es h = h.1.keeps.sent
    known m receives.Take r0 r tr es h = h.2.keeps.sent
    known m receives.Drop r0 r tr es h = item m r0 r es m.refused h.1

pub del_sends : SendsNone del (CallsFits del_parts del_plan)
del_sends =
    calls_sends del_parts del_plan (λ m. known m m.point)
    (λ m. or_sends locate_control (or_control unlink_control unlatch_control) (CallsFits locate_parts locate_plan) _ (sends_of locate_control _ locate_quiet) (or_sends unlink_control unlatch_control (CallsFits unlink_parts unlink_plan) (CallsFits word_control unlatch_plan) unlink_sends (sends_of unlatch_control _ unlatch_quiet)))
  where
    says : (m : DelState) (steps : ℕ) (r0 r : Memo) (tr : Trail) (es : List Event) (a : Answer) → DelSays m.me m.key steps r0 r tr es a → SentSame r0 r
    says m steps r0 r tr es answer.Ok h = h.keeps.sent
    says m steps r0 r tr es answer.Missing h = h.keeps.sent
    says m steps r0 r tr es (answer.EraSpent e) h = h.keeps.sent
    says m steps r0 r tr es (answer.CountFull b n) h = h.keeps.sent
    says m steps r0 r tr es _ h = absurd h

    known : (m : DelState) (y : DelPoint) (r0 r : Memo) (tr : Trail) (es : List Event) → DelKnows m y r0 r tr es → SentSame r0 r
    known m deletes.Search r0 r tr es h = sent_now r0 r h.2
    known m deletes.Cut r0 r tr es h = ap (λ (x : Memo). x.sent) h.located.found.reads.memo ∙ ap (λ (x : Memo). x.sent) h.located.took.memo
    known m deletes.Back r0 r tr es h = says m (17 + redo_steps m.me.geometry.wide) r0 r tr es m.answer h.says
