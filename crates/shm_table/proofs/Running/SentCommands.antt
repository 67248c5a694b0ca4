-- each command: while one runs nothing was sent, but by a send from its deciding step on, and then the value block that its key had
use Rattle.std.proofs.Common.{◌≡◌, ℕ, refl, sym, ap, ◌∙◌, subst, Bool, true, false, cond, eqb, List, [], ◌∷◌, ◌++◌, inl, inr}
use Rattle.std.proofs.lemmas.Bool.{cases_eq, cond-false, ne_eqb}
use Rattle.std.specs.Prelude.{slice_index_or, Option, None, Some}
use Rattle.shm_graph.specs.{declared.{ask.Me.Me, memo.Memo.Memo}, Agents.died, Asks.Trail, Events.Event}
use Rattle.shm_graph.specs.{MemoAfterStore.lane_with, Tells.after_all}
use Rattle.plans.specs.{declared.or.Or.TheVariants.{First, Second}, CallsFit.CallsFits}
use Rattle.plans.specs.{Deciding.{StillRuns, where_decided}, Either.or_control, Words.word_control}
use Rattle.kind_parts.specs.Reparting.{map_in}
use Rattle.kind_parts.proofs.Items.{put_at}
use Rattle.shm_queue.specs.Machines.{send}
use Rattle.shm_script.specs.declared.{line.Line.Line, log.Answer.Answer}
use Rattle.shm_script.specs.declared.line.Line.TheVariants as line
use Rattle.shm_script.specs.declared.log.Answer.TheVariants as answer
use Rattle.shm_table.specs.declared.send_key.{SendKeyPoint.SendKeyPoint, SendKeyState.SendKeyState}
use Rattle.shm_table.specs.Command.{CommandCall, CommandFits, command_control, command_effect, command_of}
use Rattle.shm_table.specs.Command.Sends.{SameSent, SentOne, SentSoFar, sent_to}
use Rattle.shm_table.specs.Effects.{copy_at, del_at, is_sent, put_at as stored_at, recv_at, send_key_at}
use Rattle.shm_table.specs.{Locate.Control.locate_control, Machines.Send.send_key, Unlatch.Control.unlatch_control}
use Rattle.shm_table.specs.SendKey.Control.{SendKeyCall, SendKeyCalls, send_key_call, send_key_parts}
use Rattle.shm_table.specs.SendKey.{GiveKnows, SendKeyKnows, got, send_key_part, send_key_plan}
use Rattle.shm_table.specs.declared.get.GetPoint.TheVariants as getting
use Rattle.shm_table.specs.declared.send_key.SendKeyPoint.TheVariants as keys
use Rattle.shm_table.proofs.Running.AsMade.{at_first, at_second, at_second_first, at_second_second}
use Rattle.shm_table.proofs.Running.{Commands.{command_going, line_along, line_of}, Fetching.{get_kept, get_quiet}}
use Rattle.shm_table.proofs.Running.Reading.{locate_quiet, send_quiet, unlatch_quiet}
use Rattle.shm_table.proofs.Running.SentMachines.{copy_sends, del_sends, put_sends, recv_sends}
use Rattle.shm_table.proofs.Running.SentSteps.{SentSame, sent_now, word_sends}

-- ---- a send

-- the value block of the key is the last one that was sent to i, and all else is as it was
abbrev HasSent : ℕ → ℕ → Memo → Memo → Type 0
HasSent i key r0 r = (n : ℕ) × (b : ℕ) × (map_in r0.part key ≡ Some (n, b)) × (r.sent ≡ lane_with r0.sent i b)

-- by whether it was sent
abbrev SentBy : Bool → ℕ → ℕ → Memo → Memo → Type 0
SentBy false i key r0 r = SentSame r0 r
SentBy true i key r0 r = HasSent i key r0 r

abbrev SendSo : SendKeyState → SendKeyPoint → (r0 rs r : Memo) → Trail → SendKeyCall → Type 0
SendSo p y r0 rs r t c = send_key_parts.finished c ≡ false → (send_key_part p y).fits c rs r t → SentBy (send_key_at p c) p.to p.key r0 r

send_key_so : (m : SendKeyCalls) (r0 r : Memo) (tr : Trail) → send_key.finished m ≡ false → CallsFits send_key_parts send_key_plan m r0 r tr → SentBy (send_key_at m.plan m.call) m.plan.to m.plan.key r0 r
send_key_so m r0 r tr going fit = go m.plan m.plan.point m.call r0 fit.rs r fit.before fit.t fit.es fit.there fit.knows going fit.fits
  where
    -- what is to be answered tells it
    says : (p : SendKeyState) (a : Answer) (r0 r : Memo) (tr : Trail) (es : List Event) → GiveKnows p a r0 r tr es → SentBy (is_sent a) p.to p.key r0 r
    says p answer.Missing r0 r tr es h = ap (λ (x : Memo). x.sent) h.reading.memo
    says p answer.Ok r0 r tr es (b, n, h) = (h.has.0, b, h.has.1, h.keeps.sent)
    says p (answer.QueueFull k n) r0 r tr es h = h.1.keeps.sent
    says p (answer.EraSpent e) r0 r tr es h = h.1.keeps.sent
    says p (answer.CountFull d n) r0 r tr es h = h.1.keeps.sent
    says p _ r0 r tr es h = absurd h

    -- and it stays so
    more : (z : Bool) (i key : ℕ) (r0 rs r : Memo) → SentBy z i key r0 rs → SentSame rs r → SentBy z i key r0 r
    more false i key r0 rs r h same = same ∙ h
    more true i key r0 rs r (n, b, has, sent) same = (n, b, has, same ∙ sent)

    go : (p : SendKeyState) (y : SendKeyPoint) (c : SendKeyCall) (r0 rs r : Memo) (before t : Trail) (es : List Event) → after_all send_key_parts (send_key_call p y) t ≡ c → SendKeyKnows p y r0 rs before es → SendSo p y r0 rs r t c
    go p keys.Search c r0 rs r before t es there known =
        at_first locate_control (or_control word_control (or_control send unlatch_control)) (SendSo p keys.Search r0 rs r t) _ t there (λ run fit. (locate_quiet _ rs r t run fit).1 ∙ sent_now r0 rs known.1)
    go p keys.Value c r0 rs r before t es there known =
        at_second_first locate_control word_control (or_control send unlatch_control) (SendSo p keys.Value r0 rs r t) _ t there (λ run fit. word_sends _ _ rs r t run fit ∙ (get_kept (got p getting.Value) getting.Value r0 rs before es known.0).1)
    go p keys.Send c r0 rs r before t es there known =
        at_second locate_control (or_control word_control (or_control send unlatch_control)) (SendSo p keys.Send r0 rs r t) _ t there
        (at_second_first word_control send unlatch_control (λ x. SendSo p keys.Send r0 rs r t (Second x)) _ t refl (λ run fit. (send_quiet _ rs r t run fit).1 ∙ (get_kept (got p getting.Number) getting.Number r0 rs before es known.0).1))
    go p keys.Give c r0 rs r before t es there known =
        at_second locate_control (or_control word_control (or_control send unlatch_control)) (SendSo p keys.Give r0 rs r t) _ t there
        (at_second_second word_control send unlatch_control (λ x. SendSo p keys.Give r0 rs r t (Second x)) _ t refl (λ run fit. more (is_sent p.outcome) p.to p.key r0 rs r (says p p.outcome r0 rs before es known) (unlatch_quiet _ rs r t run fit).1))

-- ---- to each receiver

same_sent : (r0 r : Memo) → SentSame r0 r → SameSent r0 r
same_sent r0 r e j = ap (λ (lanes : List (List ℕ)). slice_index_or lanes j []) e

one_sent : (i b : ℕ) (r0 r : Memo) → r.sent ≡ lane_with r0.sent i b → SentOne i b r0 r
one_sent i b r0 r e j = ap (λ (lanes : List (List ℕ)). slice_index_or lanes j []) e ∙ (put_at [] r0.sent i (sent_to r0 i ++ b ∷ []) j ∙ one)
  where
    one : cond (eqb i j) (sent_to r0 i ++ b ∷ []) (sent_to r0 j) ≡ cond (eqb i j) (sent_to r0 j ++ b ∷ []) (sent_to r0 j)
    one =
        elim (cases_eq i j) [
          | inl e ↦ ap (λ k. cond (eqb i j) (sent_to r0 k ++ b ∷ []) (sent_to r0 j)) e
          | inr n ↦ cond-false (eqb i j) (sent_to r0 i ++ b ∷ []) (sent_to r0 j) (ne_eqb i j n) ∙ sym (cond-false (eqb i j) (sent_to r0 j ++ b ∷ []) (sent_to r0 j) (ne_eqb i j n))
        ]

-- ---- each command

sent_line : (m : CommandCall) (r0 r : Memo) (tr : Trail) → command_control.finished m ≡ false → CommandFits m r0 r tr → SentSoFar (line_of m) (command_effect m) r0 r
sent_line (First (First c)) r0 r tr going fit = none (stored_at c.plan c.call) (same_sent r0 r (put_sends c r0 r tr going fit))
  where
    none : (z : Bool) → SameSent r0 r → SentSoFar (line.Put c.plan.key c.plan.number) (where_decided z (answer.Stored c.plan.block)) r0 r
    none true h = h
    none false h = h
sent_line (First (Second c)) r0 r tr going fit = none (copy_at c.plan c.call) (same_sent r0 r (copy_sends c r0 r tr going fit))
  where
    none : (z : Bool) → SameSent r0 r → SentSoFar (line.Copy c.plan.key c.plan.author c.plan.other) (where_decided z (answer.Value c.plan.number c.plan.block)) r0 r
    none true h = h
    none false h = h
sent_line (Second (First (First c))) r0 r tr going fit = none (del_at c.plan c.call) (same_sent r0 r (del_sends c r0 r tr going fit))
  where
    none : (z : Bool) → SameSent r0 r → SentSoFar (line.Del c.plan.key) (where_decided z answer.Ok) r0 r
    none true h = h
    none false h = h
sent_line (Second (First (Second c))) r0 r tr going fit = same_sent r0 r (get_quiet c r0 r tr going fit).1
sent_line (Second (Second (First c))) r0 r tr going fit = sent (send_key_at c.plan c.call) (send_key_so c r0 r tr going fit)
  where
    sent : (z : Bool) → SentBy z c.plan.to c.plan.key r0 r → SentSoFar (line.Send c.plan.to c.plan.key) (where_decided z answer.Ok) r0 r
    sent true (n, b, has, e) = (n, b, has, one_sent c.plan.to b r0 r e)
    sent false h = same_sent r0 r h
sent_line (Second (Second (Second c))) r0 r tr going fit = none (recv_at c.plan c.call) (same_sent r0 r (recv_sends c r0 r tr going fit))
  where
    none : (z : Bool) → SameSent r0 r → SentSoFar (line.Recv c.plan.from c.plan.key) (where_decided z (answer.Value c.plan.number c.plan.block)) r0 r
    none true h = h
    none false h = h

pub sent_so_far : (me : Me) (l : Line) (start : Trail) (r0 r : Memo) (tr : Trail) → let m = after_all command_control (command_of me l) start in command_control.finished m ≡ false → CommandFits m r0 r tr → SentSoFar l (command_effect m) r0 r
sent_so_far me l start r0 r tr going fit =
    let m : CommandCall = after_all command_control (command_of me l) start in
    subst (λ (x : Line). SentSoFar x (command_effect m) r0 r) (line_along me l start) (sent_line m r0 r tr going fit)

pub sent_while : (me : Me) (l : Line) (start : Trail) (r0 r : Memo) (tr : Trail) → StillRuns command_control (command_of me l) start → let m = after_all command_control (command_of me l) start in CommandFits m r0 r tr → SentSoFar l (command_effect m) r0 r
sent_while me l start r0 r tr runs fit = sent_so_far me l start r0 r tr (command_going me l start runs) fit

-- ---- a death

pub dead_sent : (l : Line) (a : Option Answer) (r0 r : Memo) → SentSoFar l a r0 r → SentSoFar l a r0 (died r)
dead_sent (line.Send i key) (Some answer.Ok) r0 r h = h
dead_sent (line.Send i key) (Some _) r0 r h = h
dead_sent (line.Send i key) None r0 r h = h
dead_sent _ a r0 r h = h
