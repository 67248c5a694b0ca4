-- clients that are ready for a call: how they come to be so, and stay so by commands
use Rattle.std.proofs.{Common.{◌≡◌, ℕ, Bool, true, false, List, refl, sym, ◌∙◌}, lemmas.Bool.true≢false}
use Rattle.shm_graph.specs.{declared.{ask.Me.Me, memo.Memo.Memo}, Agents.recovers, Asks.Trail, Events.Event, Runs.Stood}
use Rattle.shm_count.specs.Waiting.{LeavesQueues}
use Rattle.shm_recover.specs.Join.{JoinGives, join_fresh}
use Rattle.shm_script.specs.{declared.{line.Line.Line, log.Answer.Answer}, Ranges.LineFits}
use Rattle.shm_script.specs.declared.line.Line.TheVariants as line
use Rattle.shm_table.specs.{Command.{command_of, Operates.CommandLeaves}, TableTasks.LineMay}
use Rattle.shm_agents.proofs.Loose.{has_table}
use Rattle.shm_client.specs.Running.{RunLeaves}
use Rattle.shm_client.proofs.RunKeeps.{RunKeeps, run_keeps}
use Rattle.shm_pool.specs.{declared.reply.Reply.{Reply, TheVariants.{Died, Done}}, Called.{HasCommanded, Rests}}
use Rattle.shm_pool.specs.{Replies.{IfReply, IsLost}, Endings.ClientMayLeave, Tokens.{Acting, me_of}}
use Rattle.shm_pool.proofs.Keeping.{rests_joined}
use Rattle.lojarnek.specs.Standing.{IsReadyForCall}

-- a line of the client's identity may begin
pub may_run : (t : Acting) (l : Line) → IsReadyForCall t → Stood t.of.start t.account → recovers t.account.memo ≡ false → t.of.start.tables ≡ true → LineFits t.of.start.geometry.clients t.account.who l → t.dead ≡ false → LineMay (me_of t.of t.account) l t.account.memo
may_run t (line.Put key n) h stood kind tables fits alive = (record { client = kind; none = h.none alive; table = has_table t.of.start t.account stood tables }, fits.0, fits.1)
may_run t (line.Copy key a other) h stood kind tables fits alive = (record { client = kind; none = h.none alive; table = has_table t.of.start t.account stood tables }, fits.0, fits.1)
may_run t (line.Del key) h stood kind tables fits alive = record { client = kind; none = h.none alive; table = has_table t.of.start t.account stood tables }
may_run t (line.Get a key) h stood kind tables fits alive = (h.none alive, has_table t.of.start t.account stood tables, fits.0)
may_run t (line.Send to key) h stood kind tables fits alive = (record { client = kind; none = h.none alive; table = has_table t.of.start t.account stood tables }, fits.0, (λ e. fits.1 (sym e)), h.unsent alive to)
may_run t (line.Recv from key) h stood kind tables fits alive = (record { client = kind; none = h.none alive; table = has_table t.of.start t.account stood tables }, fits.2, fits.0, fits.1, h.untaken alive from)

-- a command leaves what its line does
pub as_run : (me : Me) (l : Line) (r0 r : Memo) (tr : Trail) (es : List Event) (a : Answer) → CommandLeaves (command_of me l) r0 r tr es a → RunLeaves me l r0 r tr es a
as_run me (line.Put key n) r0 r tr es a h = h
as_run me (line.Copy key b other) r0 r tr es a h = h
as_run me (line.Del key) r0 r tr es a h = h
as_run me (line.Get b key) r0 r tr es a h = h
as_run me (line.Send to key) r0 r tr es a h = h
as_run me (line.Recv from key) r0 r tr es a h = h

-- of a client that has died nothing is asked
pub dead_ready : (t : Acting) → Rests t → t.dead ≡ true → IsReadyForCall t
dead_ready t rests dead =
    record {
      rests = rests;
      none = λ alive. absurd (true≢false (sym dead ∙ alive));
      unsent = λ alive. absurd (true≢false (sym dead ∙ alive));
      untaken = λ alive. absurd (true≢false (sym dead ∙ alive));
    }

-- it stays so by its commands
pub ready_after : (l : Line) (t t' : Acting) (before left : ℕ) (o : Reply Answer) → HasCommanded l t t' before left o → IsReadyForCall t → IsReadyForCall t'
ready_after l t t' before left Died h at = dead_ready t' h.rests (h.done.died.0 tt)
ready_after l t t' before left (Done a) h at = by t.dead refl
  where
    by : (b : Bool) → t.dead ≡ b → IsReadyForCall t'
    by true dead = absurd (h.done.again dead).0
    by false alive =
        let me : Me = me_of t.of t.account in
        let k : RunKeeps me.who t.account.memo t'.account.memo = run_keeps me t.account.memo t'.account.memo _ _ l a (at.rests.between alive).idle (at.none alive) (as_run me l t.account.memo t'.account.memo _ _ a h.done.left_so) in
        record {
          rests = h.rests;
          none = λ d. k.rests.latch;
          unsent = λ d j. k.rests.unsent j ∙ at.unsent alive j;
          untaken = λ d j. k.rests.untaken j ∙ at.untaken alive j;
        }

-- and by any call that leaves its queues
pub ready_then : (t t' : Acting) → IsReadyForCall t → t.dead ≡ false → Rests t' → LeavesQueues t.account.memo t'.account.memo → IsReadyForCall t'
ready_then t t' h alive rests left =
    record {
      rests = rests;
      none = λ d. left.latch ∙ h.none alive;
      unsent = λ d j. left.unsent j ∙ h.unsent alive j;
      untaken = λ d j. left.untaken j ∙ h.untaken alive j;
    }

-- a client that may leave is so
pub ready_joined : (me : Me) (m0 : Memo) (t : Acting) → me.who ≡ t.account.who → JoinGives (join_fresh me) m0 t.account.memo t.account.memo.call tt → ClientMayLeave t.of t.account → IsReadyForCall t
ready_joined me m0 t same gives may =
    record {
      rests = rests_joined me m0 t t.account.memo.call same gives may.1;
      none = λ d. may.0.latch;
      unsent = λ d j. may.0.sends j;
      untaken = λ d j. may.0.takes j;
    }

-- ---- what is read off a command first

-- it is the same identity of the same pool
pub commanded_same : (l : Line) (t t' : Acting) (before left : ℕ) (o : Reply Answer) → HasCommanded l t t' before left o → (t'.of ≡ t.of) × (t'.account.who ≡ t.account.who)
commanded_same l t t' before left o h = h.done.same

-- where it answered the client lives
pub commanded_lives : (l : Line) (t t' : Acting) (before left : ℕ) (o : Reply Answer) → HasCommanded l t t' before left o → IfReply o (λ a. t'.dead ≡ false)
commanded_lives l t t' before left Died h = tt
commanded_lives l t t' before left (Done a) h = by t'.dead refl
  where
    by : (b : Bool) → t'.dead ≡ b → t'.dead ≡ false
    by true e = absurd (h.done.died.1 e)
    by false e = e

-- otherwise it is dead
pub commanded_died : (l : Line) (t t' : Acting) (before left : ℕ) (o : Reply Answer) → HasCommanded l t t' before left o → IsLost o → t'.dead ≡ true
commanded_died l t t' before left o h lost = h.done.died.0 lost
