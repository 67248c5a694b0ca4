-- clients of a pool for tables: how they come to run each command, and stay so
use Rattle.std.proofs.{Common.{◌≡◌, ℕ, Bool, true, false, List, refl, sym, ap, ◌∙◌, subst}, lemmas.Bool.true≢false}
use Rattle.std.specs.Prelude.{slice_index}
use Rattle.shm_graph.specs.declared.{ask.Me.Me, memo.{Kind.TheVariants.Client, Memo.Memo}, run.Start.Start}
use Rattle.shm_graph.specs.{Agents.{entered, recovers}, Asks.Trail, Events.Event, Held.is_loose, Runs.first_memo}
use Rattle.shm_graph.proofs.States.FirstHeld.{same_everywhere}
use Rattle.shm_recover.specs.Join.{JoinGives, join_fresh}
use Rattle.shm_script.specs.{declared.{line.Line.Line, log.Answer.Answer}, Ranges.LineFits}
use Rattle.shm_script.specs.declared.line.Line.TheVariants as line
use Rattle.shm_table.specs.{Command.{command_of, Operates.CommandLeaves}, TableTasks.LineMay}
use Rattle.shm_client.specs.Running.{RunLeaves}
use Rattle.shm_client.proofs.RunKeeps.{RunKeeps, run_keeps}
use Rattle.shm_pool.specs.{declared.reply.Reply.{Reply, TheVariants.{Died, Done}}, Called.{HasCommanded, Rests}}
use Rattle.shm_pool.specs.Tokens.{Acting, me_of}
use Rattle.t_pool.specs.Tables.{IsOpen}

-- a line of the client's identity may begin
pub may_run : (t : Acting) (l : Line) → IsOpen t → recovers t.account.memo ≡ false → LineFits t.of.start.geometry.clients t.account.who l → t.dead ≡ false → LineMay (me_of t.of t.account) l t.account.memo
may_run t (line.Put key n) h kind fits alive = (record { client = kind; none = h.none alive; table = h.table alive }, fits.0, fits.1)
may_run t (line.Copy key a other) h kind fits alive = (record { client = kind; none = h.none alive; table = h.table alive }, fits.0, fits.1)
may_run t (line.Del key) h kind fits alive = record { client = kind; none = h.none alive; table = h.table alive }
may_run t (line.Get a key) h kind fits alive = (h.none alive, h.table alive, fits.0)
may_run t (line.Send to key) h kind fits alive = (record { client = kind; none = h.none alive; table = h.table alive }, fits.0, (λ e. fits.1 (sym e)), h.unsent alive to)
may_run t (line.Recv from key) h kind fits alive = (record { client = kind; none = h.none alive; table = h.table alive }, fits.2, fits.0, fits.1, h.untaken alive from)

-- a command leaves what its line does
as_run : (me : Me) (l : Line) (r0 r : Memo) (tr : Trail) (es : List Event) (a : Answer) → CommandLeaves (command_of me l) r0 r tr es a → RunLeaves me l r0 r tr es a
as_run me (line.Put key n) r0 r tr es a h = h
as_run me (line.Copy key b other) r0 r tr es a h = h
as_run me (line.Del key) r0 r tr es a h = h
as_run me (line.Get b key) r0 r tr es a h = h
as_run me (line.Send to key) r0 r tr es a h = h
as_run me (line.Recv from key) r0 r tr es a h = h

-- of a client that has died nothing is asked
dead_open : (t : Acting) → Rests t → t.dead ≡ true → IsOpen t
dead_open t rests dead =
    record {
      rests = rests;
      none = λ alive. absurd (true≢false (sym dead ∙ alive));
      table = λ alive. absurd (true≢false (sym dead ∙ alive));
      unsent = λ alive. absurd (true≢false (sym dead ∙ alive));
      untaken = λ alive. absurd (true≢false (sym dead ∙ alive));
    }

-- it stays so by its commands
pub open_after : (l : Line) (t t' : Acting) (before left : ℕ) (o : Reply Answer) → HasCommanded l t t' before left o → IsOpen t → IsOpen t'
open_after l t t' before left Died h at = dead_open t' h.rests (h.done.died.0 tt)
open_after l t t' before left (Done a) h at = by t.dead refl
  where
    by : (b : Bool) → t.dead ≡ b → IsOpen t'
    by true dead = absurd (h.done.again dead).0
    by false alive =
        let me : Me = me_of t.of t.account in
        let k : RunKeeps me.who t.account.memo t'.account.memo = run_keeps me t.account.memo t'.account.memo _ _ l a (at.rests.between alive).idle (at.none alive) (as_run me l t.account.memo t'.account.memo _ _ a h.done.left_so) in
        record {
          rests = h.rests;
          none = λ d. k.rests.latch;
          table = λ d. k.rests.loose ∙ at.table alive;
          unsent = λ d j. k.rests.unsent j ∙ at.unsent alive j;
          untaken = λ d j. k.rests.untaken j ∙ at.untaken alive j;
        }

-- it comes to be so where it joins for the first time
pub open_first : (s : Start) (me : Me) (c : ℕ) (m0 : Memo) (t : Acting) (tr : Trail) → s.tables ≡ true → m0 ≡ entered Client (first_memo s c) → JoinGives (join_fresh me) m0 t.account.memo tr tt → Rests t → IsOpen t
open_first s me c m0 t tr tables e gives rests =
    let x = subst (λ (z : Memo). JoinGives (join_fresh me) z t.account.memo tr tt) e gives in
    record {
      rests = rests;
      none = λ d. ap (λ (z : Memo). z.latch) x.rest;
      table = λ d. ap (λ (z : Memo). is_loose z.part) x.rest ∙ ap (λ (b : Bool). is_loose (first_memo (record s { tables = b }) c).part) tables;
      unsent = λ d i. ap (λ (z : Memo). slice_index z.unsent i) x.rest ∙ same_everywhere s.geometry.clients i 0;
      untaken = λ d i. ap (λ (z : Memo). slice_index z.untaken i) x.rest ∙ same_everywhere s.geometry.clients i 0;
    }
