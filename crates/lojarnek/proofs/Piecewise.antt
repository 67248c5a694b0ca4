-- commands on tables that are made some word steps at a time: what came of them, and in a caller's words
use Rattle.std.proofs.Common.{◌≡◌, ℕ, Bool, true, false, Option, Result, Ok, Err, refl, sym, ◌∙◌, inr}
use Rattle.std.proofs.lemmas.Bool.{true≢false}
use Rattle.std.specs.Prelude.{IfOk, IfErr}
use Rattle.shm_graph.specs.declared.{ask.Turn.{Turn, TheVariants.{More, Done, Died}}, run.Account.Account}
use Rattle.shm_script.specs.declared.{line.Line.Line, log.Answer.Answer}
use Rattle.shm_script.specs.declared.line.Line.TheVariants as line
use Rattle.shm_table.specs.Command.{CommandCall, CommandFits, CommandGives, Maps.MapSoFar}
use Rattle.shm_table.specs.Command.{Operates.{CommandLeaves, CommandMay}, Sends.SentSoFar}
use Rattle.shm_table.specs.Command.{command_control, command_does, command_effect, command_of}
use Rattle.shm_pool.specs.{Called.HasCommanded, Proved.Shows.command_shows, Shows.ShowsSoFar, Tokens.{Acting, me_of}}
use Rattle.shm_pool.specs.declared.reply.Reply.TheVariants as reply
use Rattle.shm_pool.proofs.Commanded.{commanded_died, commanded_done}
use Rattle.lojarnek.specs.declared.{error.Error.Error, outcome.Outcome.{Outcome, TheVariants.{Stored, Number, There}}}
use Rattle.lojarnek.specs.{Amid.HasGone, Running.CameOf}
use Rattle.lojarnek.specs.Pending.{HasAnswered, HasGoneOn, IsAmidLine, IsDoneBy, Says, as_number, as_stored, as_there, outcome_of, showing}
use Rattle.lojarnek.specs.Standing.{Acts, IsReadyForCall, acts_of}
use Rattle.lojarnek.specs.Tables.{IsDeadNow, Refuses, SameClient, found_of, stored_of, there_of}
use Rattle.lojarnek.specs.declared.error.Error.TheVariants as error
use Rattle.lojarnek.proofs.Ready.{commanded_lives, dead_ready, ready_after}
use Rattle.lojarnek.proofs.Says.{copy_found, copy_refused, copy_stored, copy_took, del_gone, del_refused, del_took, del_was, get_found, get_refused, get_same, get_took, put_refused, put_stored, put_took, recv_received, recv_refused, recv_stored, recv_took, run_only, run_refused, run_stays, send_refused, send_same, send_sent, send_took, send_was}

-- ---- what came of the line

module _ (maps : ShowsSoFar MapSoFar command_control CommandFits command_effect command_of) (sends : ShowsSoFar SentSoFar command_control CommandFits command_effect command_of) where
  module _ (l : Line) (m m' : CommandCall) (c : Acts) (t t' : Acting) (left left' : ℕ) (at : IsAmidLine l m c (acts_of t left)) (ready : IsReadyForCall c.token) (tables : c.token.of.start.tables ≡ true) where
    abbrev n : CommandCall
    n = command_of (me_of c.token.of c.token.account) l

    abbrev Gone : Turn Answer → Type 0
    Gone = HasGone command_control CommandFits CommandGives CommandMay command_does CommandLeaves (λ x a. Unit {0}) n m' c (acts_of t' left')

    answers : (b : Answer) → Gone (Done b) → HasCommanded l c.token t' c.left left' (reply.Done b)
    answers b h = commanded_done command_control CommandFits CommandMay command_does CommandLeaves (λ x a. Unit {0}) command_effect command_of command_shows maps sends l c.token t' c.left left' n b refl h.0 h.1

    cuts_off : Gone Died → HasCommanded l c.token (record t' { effect = command_effect m' }) c.left left' reply.Died
    cuts_off h = commanded_died command_control CommandFits CommandMay command_does CommandLeaves (λ x a. Unit {0}) command_effect command_of command_shows maps sends l c.token t' c.left left' n m' (command_effect m') at.lived refl h.0 h.1.drove h.1.still refl

    pub gone_on : (r : Turn Answer) → Gone r → HasGoneOn l m' c (acts_of t' left') (command_effect m') r
    gone_on More h = h
    gone_on (Done b) h = let x = answers b h in (record { may = record { tables = tables; alive = at.lived }; called = x }, ready_after l c.token t' c.left left' (reply.Done b) x ready, commanded_lives l c.token t' c.left left' (reply.Done b) x)
    gone_on Died h =
        let dead : t'.dead ≡ true = h.0.died.0 tt in (
          inr (record { may = record { tables = tables; alive = at.lived }; called = cuts_off h }, refl),
          dead_ready t' (record { between = λ alive. absurd (true≢false (sym dead ∙ alive)); here = λ alive. absurd (true≢false (sym dead ∙ alive)) }) dead,
          dead,
        )

-- ---- in a caller's words

stored_said : (P : Outcome → Type 0) (r : Result (Unit {0}) Error) → IfOk r (λ u. P Stored) → IfOk (as_stored r) P
stored_said P (Ok u) h = h
stored_said P (Err e) h = tt

number_said : (P : Outcome → Type 0) (r : Result (Option ℕ) Error) → IfOk r (λ o. P (Number o)) → IfOk (as_number r) P
number_said P (Ok o) h = h
number_said P (Err e) h = tt

there_said : (P : Outcome → Type 0) (r : Result Bool Error) → IfOk r (λ b. P (There b)) → IfOk (as_there r) P
there_said P (Ok b) h = h
there_said P (Err e) h = tt

stored_denied : (Q : Error → Type 0) (r : Result (Unit {0}) Error) → IfErr r Q → IfErr (as_stored r) Q
stored_denied Q (Ok u) h = tt
stored_denied Q (Err e) h = h

number_denied : (Q : Error → Type 0) (r : Result (Option ℕ) Error) → IfErr r Q → IfErr (as_number r) Q
number_denied Q (Ok o) h = tt
number_denied Q (Err e) h = h

there_denied : (Q : Error → Type 0) (r : Result Bool Error) → IfErr r Q → IfErr (as_there r) Q
there_denied Q (Ok b) h = tt
there_denied Q (Err e) h = h

both : {T : Type 0} (P Q : T → Type 0) (r : Result T Error) → IfOk r P → IfOk r Q → IfOk r (λ x. P x × Q x)
both P Q (Ok x) p q = (p, q)
both P Q (Err e) p q = tt

always : {T : Type 0} (P : Type 0) (r : Result T Error) → P → IfOk r (λ _. P)
always P (Ok x) p = p
always P (Err e) p = tt

-- what is so on a condition
where_so : {W T : Type 0} (P : T → Type 0) (r : Result T Error) → (W → IfOk r P) → IfOk r (λ x. W → P x)
where_so P (Ok x) f = f
where_so P (Err e) f = tt

-- a command that answered
pub answered : (l : Line) (c c' : Acts) (a : Answer) → CameOf l c c' (Ok a) → c'.token.dead ≡ false → HasAnswered l c c' (outcome_of l a)
answered (line.Put key n) c c' a h alive =
    record {
      said = stored_said (Says (line.Put key n) c c') (stored_of a) (put_stored key n c c' a h);
      others = run_only (line.Put key n) c c' (Ok a) h;
      refused = stored_denied (Refuses (IsDoneBy (line.Put key n) c) c c') (stored_of a) (put_refused (IsDoneBy (line.Put key n) c) key n c c' a h);
      lives = always _ (as_stored (stored_of a)) alive;
      stays = run_stays (line.Put key n) c c' (Ok a) h;
    }
answered (line.Del key) c c' a h alive =
    record {
      said = there_said (Says (line.Del key) c c') (there_of a 0) (both _ _ (there_of a 0) (del_gone key c c' a h) (del_was key c c' a h));
      others = run_only (line.Del key) c c' (Ok a) h;
      refused = there_denied (Refuses (IsDoneBy (line.Del key) c) c c') (there_of a 0) (del_refused (IsDoneBy (line.Del key) c) key c c' a h);
      lives = always _ (as_there (there_of a 0)) alive;
      stays = run_stays (line.Del key) c c' (Ok a) h;
    }
answered (line.Get who key) c c' a h alive =
    record {
      said = number_said (Says (line.Get who key) c c') (found_of a) (where_so _ (found_of a) (get_found who key c c' a h));
      others = get_same who key c c' (Ok a) h;
      refused = number_denied (Refuses (IsDoneBy (line.Get who key) c) c c') (found_of a) (get_refused (IsDoneBy (line.Get who key) c) who key c c' a h);
      lives = always _ (as_number (found_of a)) alive;
      stays = run_stays (line.Get who key) c c' (Ok a) h;
    }
answered (line.Copy key who other) c c' a h alive =
    record {
      said = number_said (Says (line.Copy key who other) c c') (found_of a) (both _ _ (found_of a) (copy_stored key who other c c' a h) (where_so _ (found_of a) (copy_found key who other c c' a h)));
      others = run_only (line.Copy key who other) c c' (Ok a) h;
      refused = number_denied (Refuses (IsDoneBy (line.Copy key who other) c) c c') (found_of a) (copy_refused (IsDoneBy (line.Copy key who other) c) key who other c c' a h);
      lives = always _ (as_number (found_of a)) alive;
      stays = run_stays (line.Copy key who other) c c' (Ok a) h;
    }
answered (line.Send to key) c c' a h alive =
    record {
      said = there_said (Says (line.Send to key) c c') (there_of a to) (both _ _ (there_of a to) (send_was to key c c' a h) (send_sent to key c c' a h));
      others = send_same to key c c' (Ok a) h;
      refused = there_denied (Refuses (IsDoneBy (line.Send to key) c) c c') (there_of a to) (send_refused (IsDoneBy (line.Send to key) c) to key c c' a h);
      lives = always _ (as_there (there_of a to)) alive;
      stays = run_stays (line.Send to key) c c' (Ok a) h;
    }
answered (line.Recv from key) c c' a h alive =
    record {
      said = number_said (Says (line.Recv from key) c c') (found_of a) (both _ _ (found_of a) (recv_stored from key c c' a h) (recv_received from key c c' a h));
      others = run_only (line.Recv from key) c c' (Ok a) h;
      refused = number_denied (Refuses (IsDoneBy (line.Recv from key) c) c c') (found_of a) (recv_refused (IsDoneBy (line.Recv from key) c) from key c c' a h);
      lives = always _ (as_number (found_of a)) alive;
      stays = run_stays (line.Recv from key) c c' (Ok a) h;
    }

-- of a client that died, with what its command showed and without
dead_as : (c c' : Acts) (a : Option Answer) → IsDeadNow c (showing a c') → IsDeadNow c c'
dead_as c c' a h = record { dead = h.dead; spent = h.spent }

died_as : (done : Account → Type 0) (c c' : Acts) (a : Option Answer) (d : Bool) → Refuses done c (showing a c') (error.Died d) → Refuses done c c' (error.Died d)
died_as done c c' a true h = (dead_as c c' a h.0, h.1)
died_as done c c' a false h = (dead_as c c' a h.0, h.1)

same_as : (c c' : Acts) (a : Option Answer) → SameClient c (showing a c') → SameClient c c'
same_as c c' a h = record { of = h.of; who = h.who; left = h.left }

-- a command in which it died
pub answered_died : (l : Line) (c c' : Acts) (a : Option Answer) (d : Bool) → CameOf l c (showing a c') (Err (error.Died d)) → HasAnswered l c c' (Err (error.Died d))
answered_died (line.Put key n) c c' a d h =
    record {
      said = tt;
      others = run_only (line.Put key n) c (showing a c') (Err (error.Died d)) h;
      refused = died_as (IsDoneBy (line.Put key n) c) c c' a d (run_refused (IsDoneBy (line.Put key n) c) (line.Put key n) c (showing a c') (error.Died d) (put_took key n c.token.account c'.token.account) h);
      lives = tt;
      stays = same_as c c' a (run_stays (line.Put key n) c (showing a c') (Err (error.Died d)) h);
    }
answered_died (line.Del key) c c' a d h =
    record {
      said = tt;
      others = run_only (line.Del key) c (showing a c') (Err (error.Died d)) h;
      refused = died_as (IsDoneBy (line.Del key) c) c c' a d (run_refused (IsDoneBy (line.Del key) c) (line.Del key) c (showing a c') (error.Died d) (del_took key c.token.account c'.token.account) h);
      lives = tt;
      stays = same_as c c' a (run_stays (line.Del key) c (showing a c') (Err (error.Died d)) h);
    }
answered_died (line.Get who key) c c' a d h =
    record {
      said = tt;
      others = get_same who key c (showing a c') (Err (error.Died d)) h;
      refused = died_as (IsDoneBy (line.Get who key) c) c c' a d (run_refused (IsDoneBy (line.Get who key) c) (line.Get who key) c (showing a c') (error.Died d) (λ o m is x same. get_took _ who key o is) h);
      lives = tt;
      stays = same_as c c' a (run_stays (line.Get who key) c (showing a c') (Err (error.Died d)) h);
    }
answered_died (line.Copy key who other) c c' a d h =
    record {
      said = tt;
      others = run_only (line.Copy key who other) c (showing a c') (Err (error.Died d)) h;
      refused = died_as (IsDoneBy (line.Copy key who other) c) c c' a d (run_refused (IsDoneBy (line.Copy key who other) c) (line.Copy key who other) c (showing a c') (error.Died d) (copy_took key who other c.token.account c'.token.account) h);
      lives = tt;
      stays = same_as c c' a (run_stays (line.Copy key who other) c (showing a c') (Err (error.Died d)) h);
    }
answered_died (line.Send to key) c c' a d h =
    record {
      said = tt;
      others = send_same to key c (showing a c') (Err (error.Died d)) h;
      refused = died_as (IsDoneBy (line.Send to key) c) c c' a d (run_refused (IsDoneBy (line.Send to key) c) (line.Send to key) c (showing a c') (error.Died d) (send_took to key c.token.account c'.token.account) h);
      lives = tt;
      stays = same_as c c' a (run_stays (line.Send to key) c (showing a c') (Err (error.Died d)) h);
    }
answered_died (line.Recv from key) c c' a d h =
    record {
      said = tt;
      others = run_only (line.Recv from key) c (showing a c') (Err (error.Died d)) h;
      refused = died_as (IsDoneBy (line.Recv from key) c) c c' a d (run_refused (IsDoneBy (line.Recv from key) c) (line.Recv from key) c (showing a c') (error.Died d) (recv_took from key c.token.account c'.token.account) h);
      lives = tt;
      stays = same_as c c' a (run_stays (line.Recv from key) c (showing a c') (Err (error.Died d)) h);
    }
