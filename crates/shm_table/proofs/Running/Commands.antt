-- removals, and each command: while one runs the own map is what it was, until its deciding step, and from then on the one that the answer shown leaves
use Rattle.std.proofs.Common.{◌≡◌, ℕ, refl, ap, ◌∙◌, subst, Bool, true, false, List, [], ◌∷◌, Option, None, ◌+◌}
use Rattle.std.specs.Prelude.{◌==◌, if◌then◌else◌}
use Rattle.shm_graph.specs.{declared.{ask.Me.Me, memo.Memo.Memo}, Asks.Trail, Events.Event}
use Rattle.shm_graph.specs.{Laws.{Control, Steady, is_some}, Tells.after_all, Bounds.redo_steps}
use Rattle.plans.specs.{declared.or.Or.TheVariants.{First, Second}, CallsControl.calls_of, CallsFit.CallsFits}
use Rattle.plans.specs.{Deciding.{StillRuns, where_decided}, Either.or_control, Proved.PlanKept.{kept_along, plan_kept}}
use Rattle.kind_parts.specs.Reparting.{map_in}
use Rattle.shm_script.specs.declared.{line.Line.Line, log.Answer.Answer}
use Rattle.shm_script.specs.declared.line.Line.TheVariants as line
use Rattle.shm_script.specs.declared.log.Answer.TheVariants as answer
use Rattle.shm_table.specs.declared.del.{DelPoint.DelPoint, DelState.DelState}
use Rattle.shm_table.specs.Command.{CommandCall, CommandFits, command_control, command_effect, command_of}
use Rattle.shm_table.specs.{Command.Maps.{MapSoFar, answered_map}, Proved.Command.Laws.command_laws}
use Rattle.shm_table.specs.Proved.{CopyKey.Laws.copy_laws, Del.Laws.{del_laws, found_unlinks}, Enter.Laws.enter_laws}
use Rattle.shm_table.specs.Proved.{Fetch.Laws.fetch_laws, FetchHead.Laws.fetch_head_laws, Get.Laws.get_laws}
use Rattle.shm_table.specs.Proved.{Locate.Laws.locate_laws, OpenTable.Laws.open_laws, Put.Laws.put_laws}
use Rattle.shm_table.specs.Proved.{PutRoot.{Laws.put_root_laws, Steps.same_more}, RecvKey.Laws.recv_laws}
use Rattle.shm_table.specs.Proved.{Replace.Laws.replace_laws, SendKey.Laws.send_key_laws}
use Rattle.shm_table.specs.Proved.{Staying.Laws.{latched_else, rests_read, same_map}, TakeHead.Laws.take_head_laws}
use Rattle.shm_table.specs.{Proved.Unlink.Laws.unlink_laws, CopyKey.{Control.copy_parts, copy_plan}}
use Rattle.shm_table.specs.Del.Control.{DelCall, DelCalls, del_call_at, del_parts}
use Rattle.shm_table.specs.Del.{DelKnows, DelSays, del_part, del_plan}
use Rattle.shm_table.specs.Effects.{copy_at, del_at, is_removed, put_at, recv_at, send_key_at, unlink_decided}
use Rattle.shm_table.specs.{Get.{Control.get_parts, get_plan}, Machines.Change.del, Put.{Control.put_parts, put_plan}}
use Rattle.shm_table.specs.{RecvKey.{Control.recv_parts, recv_plan}, SendKey.{Control.send_key_parts, send_key_plan}}
use Rattle.shm_table.specs.Staying.{MapCut, SameMap}
use Rattle.shm_table.specs.Unlink.Control.{UnlinkCalls, unlink_control, unlink_parts, unlink_steered, unlinking}
use Rattle.shm_table.specs.{Unlink.unlink_plan, Locate.Control.locate_control, Unlatch.Control.unlatch_control}
use Rattle.shm_table.specs.declared.del.DelPoint.TheVariants as deletes
use Rattle.shm_table.proofs.Running.AsMade.{at_first, at_second_first, at_second_second, made_so}
use Rattle.shm_table.proofs.Running.{Entries.{MapBy, UnlinkDoes, unlink_so}, Fetching.{get_quiet, send_key_still}}
use Rattle.shm_table.proofs.Running.{Puts.{copy_so, put_so, recv_so}, Reading.{locate_quiet, unlatch_quiet}}
use Rattle.shm_table.proofs.Running.{Roots.{by_call, by_then}, Still.same_now}

-- ---- removals

-- what it says by its answer
said_so : (me : Me) (key steps : ℕ) (r0 r : Memo) (tr : Trail) (es : List Event) (a : Answer) → DelSays me key steps r0 r tr es a → MapBy (is_removed a) (MapCut key r0 r) r0 r
said_so me key steps r0 r tr es answer.Ok h = h.map
said_so me key steps r0 r tr es answer.Missing h = h.map
said_so me key steps r0 r tr es (answer.EraSpent e) h = h.map
said_so me key steps r0 r tr es (answer.CountFull b n) h = h.map
said_so me key steps r0 r tr es _ h = absurd h

abbrev DelSo : DelState → (r0 rs r : Memo) → Trail → DelCall → Type 0
DelSo p r0 rs r t c = del_parts.finished c ≡ false → del_part.fits c rs r t → MapBy (del_at p c) (MapCut p.key r0 r) r0 r

pub del_so : (m : DelCalls) (r0 r : Memo) (tr : Trail) → del.finished m ≡ false → CallsFits del_parts del_plan m r0 r tr → MapBy (del_at m.plan m.call) (MapCut m.plan.key r0 r) r0 r
del_so m r0 r tr going fit = go m.plan m.plan.point m.call r0 fit.rs r fit.before fit.t fit.es fit.there fit.knows going fit.fits
  where
    cut_after : (key : ℕ) (r0 rs r : Memo) → SameMap r0 rs → MapCut key rs r → MapCut key r0 r
    cut_after key r0 rs r same cut k = cut k ∙ ap (λ (o : Option (ℕ × ℕ)). if key == k then None else o) (same k)

    go : (p : DelState) (y : DelPoint) (c : DelCall) (r0 rs r : Memo) (before t : Trail) (es : List Event) → after_all del_parts (del_call_at p y) t ≡ c → DelKnows p y r0 rs before es → DelSo p r0 rs r t c
    go p deletes.Search c r0 rs r before t es there known =
        at_first locate_control (or_control unlink_control unlatch_control) (DelSo p r0 rs r t) _ t there
        (λ run fit. same_more r0 rs r (same_now r0 rs known.2) (locate_quiet _ rs r t run fit).0)
    go p deletes.Cut c r0 rs r before t es there known =
        let w = known.located in
        let same : SameMap r0 rs = same_map r0 rs ((rests_read p.me.who w.latched rs w.found.reads).part ∙ (latched_else p.me.who p.me.who r0 w.latched w.took).2) in
        let made = made_so unlink_parts unlink_plan unlink_laws (unlinking p.me p.entry p.before p.word) t refl in
        let x : UnlinkCalls = after_all unlink_control (calls_of unlink_steered (unlinking p.me p.entry p.before p.word)) t in
        at_second_first locate_control unlink_control unlatch_control (DelSo p r0 rs r t) _ t there
        (λ run fit. by_call (unlink_decided x) (UnlinkDoes x.plan rs r) (MapCut p.key r0 r) r0 rs r same (λ d. cut_after p.key r0 rs r same (subst (λ s. UnlinkDoes s rs r) made d p.key (found_unlinks p.me p.key p.entry p.before p.word r0 rs before es known))) (unlink_so x rs r t run fit))
    go p deletes.Back c r0 rs r before t es there known =
        at_second_second locate_control unlink_control unlatch_control (DelSo p r0 rs r t) _ t there
        (λ run fit. by_then (is_removed p.answer) (MapCut p.key r0 rs) (MapCut p.key r0 r) r0 rs r (λ d k. (unlatch_quiet _ rs r t run fit).0 k ∙ d k) (unlatch_quiet _ rs r t run fit).0 (said_so p.me p.key (17 + redo_steps p.me.geometry.wide) r0 rs before es p.answer known.says))

-- ---- each command: its line, which stays

abbrev pub line_of : CommandCall → Line
line_of (First (First c)) = line.Put c.plan.key c.plan.number
line_of (First (Second c)) = line.Copy c.plan.key c.plan.author c.plan.other
line_of (Second (First (First c))) = line.Del c.plan.key
line_of (Second (First (Second c))) = line.Get c.plan.author c.plan.key
line_of (Second (Second (First c))) = line.Send c.plan.to c.plan.key
line_of (Second (Second (Second c))) = line.Recv c.plan.from c.plan.key

line_begun : (me : Me) (l : Line) → line_of (command_of me l) ≡ l
line_begun me (line.Put key n) = refl
line_begun me _ = refl

line_kept : (l : Line) (m : CommandCall) (n : ℕ) → line_of m ≡ l → line_of (command_control.after m n) ≡ l
line_kept l (First (First c)) n e = plan_kept put_parts put_plan (λ p. line.Put p.key p.number ≡ l) (λ p b h. ap (λ s. line.Put s.key s.number) ((put_laws (put_root_laws open_laws locate_laws replace_laws enter_laws)).stays p b).same_start ∙ h) c n e
line_kept l (First (Second c)) n e =
    plan_kept copy_parts copy_plan (λ p. line.Copy p.key p.author p.other ≡ l) (λ p b h. ap (λ s. line.Copy s.key s.author s.other) ((copy_laws fetch_laws (put_root_laws open_laws locate_laws replace_laws enter_laws)).stays p b).same_start ∙ h) c n e
line_kept l (Second (First (First c))) n e = plan_kept del_parts del_plan (λ p. line.Del p.key ≡ l) (λ p b h. ap (λ s. line.Del s.key) (del_laws.stays p b).same_start ∙ h) c n e
line_kept l (Second (First (Second c))) n e = plan_kept get_parts get_plan (λ p. line.Get p.author p.key ≡ l) (λ p b h. ap (λ s. line.Get s.author s.key) (get_laws.stays p b).same_start ∙ h) c n e
line_kept l (Second (Second (First c))) n e = plan_kept send_key_parts send_key_plan (λ p. line.Send p.to p.key ≡ l) (λ p b h. ap (λ s. line.Send s.to s.key) (send_key_laws.stays p b).same_start ∙ h) c n e
line_kept l (Second (Second (Second c))) n e =
    plan_kept recv_parts recv_plan (λ p. line.Recv p.from p.key ≡ l) (λ p b h. ap (λ s. line.Recv s.from s.key) ((recv_laws fetch_head_laws take_head_laws (put_root_laws open_laws locate_laws replace_laws enter_laws)).stays p b).same_start ∙ h) c n e

-- ---- what the map is so far

shown_so : (l : Line) (a : Answer) (z : Bool) (r0 r : Memo) → MapBy z ((k : ℕ) → map_in r.part k ≡ answered_map l a (map_in r0.part) k) r0 r → MapSoFar l (where_decided z a) r0 r
shown_so l a false r0 r h = h
shown_so l a true r0 r h = h

of_line : (m : CommandCall) (r0 r : Memo) (tr : Trail) → command_control.finished m ≡ false → CommandFits m r0 r tr → MapSoFar (line_of m) (command_effect m) r0 r
of_line (First (First c)) r0 r tr going fit = shown_so (line.Put c.plan.key c.plan.number) (answer.Stored c.plan.block) (put_at c.plan c.call) r0 r (put_so c r0 r tr going fit)
of_line (First (Second c)) r0 r tr going fit = shown_so (line.Copy c.plan.key c.plan.author c.plan.other) (answer.Value c.plan.number c.plan.block) (copy_at c.plan c.call) r0 r (copy_so c r0 r tr going fit)
of_line (Second (First (First c))) r0 r tr going fit = shown_so (line.Del c.plan.key) answer.Ok (del_at c.plan c.call) r0 r (del_so c r0 r tr going fit)
of_line (Second (First (Second c))) r0 r tr going fit = (get_quiet c r0 r tr going fit).0
of_line (Second (Second (First c))) r0 r tr going fit = sent (send_key_at c.plan c.call) (send_key_still c r0 r tr going fit)
  where
    sent : (z : Bool) → SameMap r0 r → MapSoFar (line.Send c.plan.to c.plan.key) (where_decided z answer.Ok) r0 r
    sent true h = h
    sent false h = h
of_line (Second (Second (Second c))) r0 r tr going fit = shown_so (line.Recv c.plan.from c.plan.key) (answer.Value c.plan.number c.plan.block) (recv_at c.plan c.call) r0 r (recv_so c r0 r tr going fit)

-- a command that runs is of the line that it was made of
pub line_along : (me : Me) (l : Line) (start : Trail) → line_of (after_all command_control (command_of me l) start) ≡ l
line_along me l start = kept_along command_control (λ x. line_of x ≡ l) (line_kept l) (command_of me l) start (line_begun me l)

pub map_so_far : (me : Me) (l : Line) (start : Trail) (r0 r : Memo) (tr : Trail) → let m = after_all command_control (command_of me l) start in command_control.finished m ≡ false → CommandFits m r0 r tr → MapSoFar l (command_effect m) r0 r
map_so_far me l start r0 r tr going fit =
    let m : CommandCall = after_all command_control (command_of me l) start in
    subst (λ (x : Line). MapSoFar x (command_effect m) r0 r) (line_along me l start) (of_line m r0 r tr going fit)

-- ---- a machine that hasn't answered yet

still_going : {S A : Type 0} (k : Control S A) → Steady k → (m : S) (tr : Trail) → k.finished m ≡ false → StillRuns k m tr → k.finished (after_all k m tr) ≡ false
still_going k steady m [] going runs = going
still_going k steady m (x ∷ tr) going runs = still_going k steady (k.after m x.word) tr ((steady m x.word going).ends ∙ ap is_some runs.0) runs.1

begun_going : (me : Me) (l : Line) → command_control.finished (command_of me l) ≡ false
begun_going me (line.Put key n) = refl
begun_going me _ = refl

pub command_going : (me : Me) (l : Line) (start : Trail) → StillRuns command_control (command_of me l) start → command_control.finished (after_all command_control (command_of me l) start) ≡ false
command_going me l start runs = still_going command_control steady (command_of me l) start (begun_going me l) runs
  where
    steady : Steady command_control
    steady =
        (command_laws (put_laws (put_root_laws open_laws locate_laws replace_laws enter_laws)) (copy_laws fetch_laws (put_root_laws open_laws locate_laws replace_laws enter_laws)) del_laws get_laws send_key_laws (recv_laws fetch_head_laws take_head_laws (put_root_laws open_laws locate_laws replace_laws enter_laws))).steady

pub runs_so_far : (me : Me) (l : Line) (start : Trail) (r0 r : Memo) (tr : Trail) → StillRuns command_control (command_of me l) start → let m = after_all command_control (command_of me l) start in CommandFits m r0 r tr → MapSoFar l (command_effect m) r0 r
runs_so_far me l start r0 r tr runs fit = map_so_far me l start r0 r tr (command_going me l start runs) fit

-- ---- one that hasn't begun shows nothing

pub none_shown : (me : Me) (l : Line) → command_effect (command_of me l) ≡ None
none_shown me (line.Put key n) = refl
none_shown me _ = refl
