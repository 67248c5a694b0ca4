-- what commands leave, in the words of maps
use Rattle.std.proofs.Common.{◌≡◌, ◌≢◌, ℕ, ◌+◌, ◌-◌, ◌^◌, ◌<◌, ◌≤◌, Bool, true, false, if◌then◌else◌, List, ◌++◌, length, refl, sym, ap, ◌∙◌, arith, Result, Ok, Err, inl, inr}
use Rattle.std.proofs.lemmas.Bool.{cond-true, cond-false, eq-eqb, ne_eqb, true≢false, false≢true}
use Rattle.std.specs.Prelude.{Option, Some, None, IfOk, IfErr, MatchOption, ◌==◌}
use Rattle.shm_graph.specs.{declared.{memo.{Memo.Memo, Step.Step}, run.Account.Account}, Events.Event}
use Rattle.shm_graph.specs.Tells.{happens_along}
use Rattle.kind_parts.specs.Reparting.{map_in}
use Rattle.shm_script.specs.declared.{line.Line.Line, log.Answer.Answer}
use Rattle.shm_script.specs.declared.line.Line.TheVariants as line
use Rattle.shm_script.specs.declared.log.Answer.TheVariants as answer
use Rattle.shm_table.specs.Command.{Maps.{MapSoFar, answered_map}, command_control, command_of}
use Rattle.shm_client.specs.Running.{MapSo, RunLeaves}
use Rattle.shm_client.proofs.RunMaps.{run_maps}
use Rattle.shm_pool.specs.{declared.reply.Reply.Reply, Tokens.me_of}
use Rattle.shm_pool.specs.declared.reply.Reply.TheVariants as reply
use Rattle.lojarnek.specs.declared.error.Error.{Error, TheVariants.{Died, NoSuchClient, ToItself, WrongKind}}
use Rattle.lojarnek.specs.{Running.{CameOf, HasRunLine, had_effect}, Standing.{Acts, KeepsMap, account_map}}
use Rattle.lojarnek.specs.Queues.{HasReceived, HasSent, WasThere}
use Rattle.lojarnek.specs.Tables.{HasNone, HasNumber, IsDeadNow, OnlyKey, Refuses, LivesOn, SameClient, found_of, stored_of, there_of}
use Rattle.lojarnek.proofs.Ready.{as_run}

-- ---- the map, by what a line does to it

-- where a key was set it has the number, and no other key changed
set_here : (f : ℕ → Option (ℕ × ℕ)) (key n b : ℕ) → (if key == key then Some (n, b) else f key) ≡ Some (n, b)
set_here f key n b = cond-true (key == key) (Some (n, b)) (f key) (eq-eqb key key refl)

cut_here : (f : ℕ → Option (ℕ × ℕ)) (key : ℕ) → (if key == key then None else f key) ≡ None
cut_here f key = cond-true (key == key) None (f key) (eq-eqb key key refl)

else_there : (f : ℕ → Option (ℕ × ℕ)) (x : Option (ℕ × ℕ)) (key k : ℕ) → key ≢ k → (if key == k then x else f k) ≡ f k
else_there f x key k ne = cond-false (key == k) x (f k) (ne_eqb key k ne)

-- what the line l sets, and nothing of another key
abbrev pub line_key : Line → ℕ
line_key (line.Put key n) = key
line_key (line.Copy key a other) = key
line_key (line.Del key) = key
line_key (line.Get a key) = key
line_key (line.Send to key) = key
line_key (line.Recv from key) = key

-- an answer changes that key alone
answered_else : (l : Line) (a : Answer) (f : ℕ → Option (ℕ × ℕ)) (k : ℕ) → line_key l ≢ k → answered_map l a f k ≡ f k
answered_else (line.Put key n) (answer.Stored b) f k ne = else_there f (Some (n, b)) key k ne
answered_else (line.Copy key a other) (answer.Value n b) f k ne = else_there f (Some (n, b)) key k ne
answered_else (line.Recv s key) (answer.Value n b) f k ne = else_there f (Some (n, b)) key k ne
answered_else (line.Del key) answer.Ok f k ne = else_there f None key k ne
answered_else l a f k ne = refl

-- what a command does to the map is what its answer says
so_answered : (l : Line) (a : Answer) (m r : Memo) → MapSo l a m r → (k : ℕ) → map_in r.part k ≡ answered_map l a (map_in m.part) k
so_answered (line.Put key n) (answer.Stored b) m r h k = h k
so_answered (line.Copy key a other) (answer.Value n b) m r h k = h k
so_answered (line.Recv s key) (answer.Value n b) m r h k = h k
so_answered (line.Del key) answer.Ok m r h k = h k
so_answered l a m r h k = h k

-- until its deciding step it does nothing, and then what its answer says
so_far_else : (l : Line) (o : Option Answer) (m r : Memo) → MapSoFar l o m r → (k : ℕ) → line_key l ≢ k → map_in r.part k ≡ map_in m.part k
so_far_else l None m r h k ne = h k
so_far_else l (Some a) m r h k ne = h k ∙ answered_else l a (map_in m.part) k ne

so_far_same : (l : Line) (o : Option Answer) (m r : Memo) → had_effect l o ≡ false → MapSoFar l o m r → (k : ℕ) → map_in r.part k ≡ map_in m.part k
so_far_same (line.Put key n) (Some (answer.Stored b)) m r e h k = absurd (true≢false e)
so_far_same (line.Copy key a other) (Some (answer.Value n b)) m r e h k = absurd (true≢false e)
so_far_same (line.Recv s key) (Some (answer.Value n b)) m r e h k = absurd (true≢false e)
so_far_same (line.Del key) (Some answer.Ok) m r e h k = absurd (true≢false e)
so_far_same (line.Send to key) (Some answer.Ok) m r e h k = absurd (true≢false e)
so_far_same l None m r e h k = h k
so_far_same l (Some a) m r e h k = h k

-- ---- a command that was run

-- its events
abbrev happened : (l : Line) (c c' : Acts) (o : Reply Answer) → HasRunLine l c c' o → List Event
happened l c c' o h = happens_along command_control h.called.does (command_of (me_of c.token.of c.token.account) l) c'.token.account.memo.call

-- what it leaves
leaves_of : (l : Line) (c c' : Acts) (a : Answer) (h : HasRunLine l c c' (reply.Done a)) → RunLeaves (me_of c.token.of c.token.account) l c.token.account.memo c'.token.account.memo c'.token.account.memo.call (happened l c c' (reply.Done a) h) a
leaves_of l c c' a h = as_run (me_of c.token.of c.token.account) l c.token.account.memo c'.token.account.memo c'.token.account.memo.call (happened l c c' (reply.Done a) h) a h.called.done.left_so

ran_map : (l : Line) (c c' : Acts) (a : Answer) → HasRunLine l c c' (reply.Done a) → (k : ℕ) → account_map c'.token.account k ≡ answered_map l a (account_map c.token.account) k
ran_map l c c' a h =
    so_answered l a c.token.account.memo c'.token.account.memo
    (run_maps (me_of c.token.of c.token.account) c.token.account.memo c'.token.account.memo c'.token.account.memo.call (happened l c c' (reply.Done a) h) l a (leaves_of l c c' a h))

cut_map : (l : Line) (c c' : Acts) → HasRunLine l c c' reply.Died → MapSoFar l c'.token.effect c.token.account.memo c'.token.account.memo
cut_map l c c' h = (h.called.cut h.may.alive tt).map

-- no key but the line's changed
pub run_only : (l : Line) (c c' : Acts) (r : Result Answer Error) → CameOf l c c' r → OnlyKey (line_key l) c.token.account c'.token.account
run_only l c c' (Ok a) h k ne = ran_map l c c' a h k ∙ answered_else l a (account_map c.token.account) k ne
run_only l c c' (Err (Died d)) (inl h) k ne = ap (λ (x : Acts). account_map x.token.account k) h.1
run_only l c c' (Err (Died d)) (inr h) k ne = so_far_else l c'.token.effect c.token.account.memo c'.token.account.memo (cut_map l c c' h.0) k ne
run_only l c c' (Err e) h k ne = ap (λ (x : Acts). account_map x.token.account k) h.1

-- a line that sets nothing changes nothing
run_same : (l : Line) (c c' : Acts) (r : Result Answer Error) → ((a : Answer) (f : ℕ → Option (ℕ × ℕ)) (k : ℕ) → answered_map l a f k ≡ f k) → ((o : Option Answer) (m n : Memo) → MapSoFar l o m n → (k : ℕ) → map_in n.part k ≡ map_in m.part k) → CameOf l c c' r → KeepsMap c.token.account c'.token.account
run_same l c c' (Ok a) none cut h k = ran_map l c c' a h k ∙ none a (account_map c.token.account) k
run_same l c c' (Err (Died d)) none cut (inl h) k = ap (λ (x : Acts). account_map x.token.account k) h.1
run_same l c c' (Err (Died d)) none cut (inr h) k = cut c'.token.effect c.token.account.memo c'.token.account.memo (cut_map l c c' h.0) k
run_same l c c' (Err e) none cut h k = ap (λ (x : Acts). account_map x.token.account k) h.1

-- the word steps that it made
abbrev steps_of : (l : Line) (c c' : Acts) (o : Reply Answer) → HasRunLine l c c' o → List Step
steps_of l c c' o h = let x = h.called.done.call h.may.alive in x.steps ++ x.last

-- it is the same client
ran_same : (l : Line) (c c' : Acts) (o : Reply Answer) → HasRunLine l c c' o → SameClient c c'
ran_same l c c' o h =
    let life : c'.left + length (steps_of l c c' o h) ≡ c.left = (h.called.done.call h.may.alive).life in
    record { of = h.called.done.same.0; who = h.called.done.same.1; left = omega arith }

same_stays : (c c' : Acts) → c' ≡ c → SameClient c c'
same_stays c c' e = record { of = ap (λ (x : Acts). x.token.of) e; who = ap (λ (x : Acts). x.token.account.who) e; left = let n : c'.left ≡ c.left = ap (λ (x : Acts). x.left) e in omega arith }

pub run_stays : (l : Line) (c c' : Acts) (r : Result Answer Error) → CameOf l c c' r → SameClient c c'
run_stays l c c' (Ok a) h = ran_same l c c' (reply.Done a) h
run_stays l c c' (Err (Died d)) (inl h) = same_stays c c' h.1
run_stays l c c' (Err (Died d)) (inr h) = ran_same l c c' reply.Died h.0
run_stays l c c' (Err e) h = same_stays c c' h.1

-- ---- refusals before and in a command

pub dead_before : (c c' : Acts) → c.token.dead ≡ true → c' ≡ c → IsDeadNow c c'
dead_before c c' dead e = record { dead = ap (λ (x : Acts). x.token.dead) e ∙ dead; spent = λ alive. absurd (true≢false (sym dead ∙ alive)) }

dead_now : (l : Line) (c c' : Acts) → HasRunLine l c c' reply.Died → IsDeadNow c c'
dead_now l c c' h = record { dead = h.called.done.died.0 tt; spent = λ alive. h.called.done.spent alive tt }

died_so : (done : Account → Type 0) (l : Line) (c c' : Acts) (d : Bool) → ((o : Option Answer) (m : Memo) → had_effect l o ≡ true → MapSoFar l o m c'.token.account.memo → m ≡ c.token.account.memo → done c'.token.account) → HasRunLine l c c' reply.Died → d ≡ had_effect l c'.token.effect → Refuses done c c' (Died d)
died_so done l c c' true took h e = (dead_now l c c' h, took c'.token.effect c.token.account.memo (sym e) (cut_map l c c' h) refl)
died_so done l c c' false took h e = (dead_now l c c' h, so_far_same l c'.token.effect c.token.account.memo c'.token.account.memo (sym e) (cut_map l c c' h))

died_then : (done : Account → Type 0) (c c' : Acts) (d : Bool) → c.token.dead ≡ true → c' ≡ c → d ≡ false → Refuses done c c' (Died d)
died_then done c c' true dead same e = absurd (true≢false e)
died_then done c c' false dead same e = (dead_before c c' dead same, λ k. ap (λ (x : Acts). account_map x.token.account k) same)

pub run_refused : (done : Account → Type 0) (l : Line) (c c' : Acts) (e : Error) → ((o : Option Answer) (m : Memo) → had_effect l o ≡ true → MapSoFar l o m c'.token.account.memo → m ≡ c.token.account.memo → done c'.token.account) → CameOf l c c' (Err e) → Refuses done c c' e
run_refused done l c c' WrongKind took h = h
run_refused done l c c' (NoSuchClient a n) took h = (h.0.0, h.0.1, h.1)
run_refused done l c c' (ToItself a) took h = h
run_refused done l c c' (Died d) took (inl h) = died_then done c c' d h.0 h.1 h.2
run_refused done l c c' (Died d) took (inr h) = died_so done l c c' d took h.0 h.1
run_refused done l c c' e took h = absurd h.0

-- a client whose command answered lives
ran_alive : (l : Line) (c c' : Acts) (a : Answer) → HasRunLine l c c' (reply.Done a) → c'.token.dead ≡ false
ran_alive l c c' a h = by c'.token.dead refl
  where
    by : (b : Bool) → c'.token.dead ≡ b → c'.token.dead ≡ false
    by true e = absurd (h.called.done.died.1 e)
    by false e = e

stands : (l : Line) (c c' : Acts) (a : Answer) → HasRunLine l c c' (reply.Done a) → KeepsMap c.token.account c'.token.account → LivesOn c c'
stands l c c' a h same = record { alive = ran_alive l c c' a h; map = same }

-- ---- a put

pub put_stored : (key n : ℕ) (c c' : Acts) (a : Answer) → CameOf (line.Put key n) c c' (Ok a) → IfOk (stored_of a) (λ u. HasNumber key n c'.token.account)
put_stored key n c c' (answer.Stored b) h = (b, ran_map (line.Put key n) c c' (answer.Stored b) h key ∙ set_here (account_map c.token.account) key n b)
put_stored key n c c' a h = tt

pub put_refused : (done : Account → Type 0) (key n : ℕ) (c c' : Acts) (a : Answer) → CameOf (line.Put key n) c c' (Ok a) → IfErr (stored_of a) (Refuses done c c')
put_refused done key n c c' (answer.Stored b) h = tt
put_refused done key n c c' (answer.EraSpent e) h = let x = leaves_of (line.Put key n) c c' (answer.EraSpent e) h in (x.cause, stands (line.Put key n) c c' (answer.EraSpent e) h x.map)
put_refused done key n c c' answer.RootsFull h = let x = leaves_of (line.Put key n) c c' answer.RootsFull h in (x.cause, stands (line.Put key n) c c' answer.RootsFull h x.map)
put_refused done key n c c' (answer.Full s b) h = let x = leaves_of (line.Put key n) c c' (answer.Full s b) h in (x.cause, stands (line.Put key n) c c' (answer.Full s b) h x.map)
put_refused done key n c c' (answer.CountFull b i) h = let x = leaves_of (line.Put key n) c c' (answer.CountFull b i) h in (x.cause, stands (line.Put key n) c c' (answer.CountFull b i) h x.map)
put_refused done key n c c' a h = absurd (leaves_of (line.Put key n) c c' a h)

pub put_took : (key n : ℕ) (e e' : Account) (o : Option Answer) (m : Memo) → had_effect (line.Put key n) o ≡ true → MapSoFar (line.Put key n) o m e'.memo → m ≡ e.memo → HasNumber key n e'
put_took key n e e' (Some (answer.Stored b)) m is h same = (b, h key ∙ set_here (map_in m.part) key n b)
put_took key n e e' o m is h same = absurd (false≢true is)

-- ---- a reading

pub get_same : (a key : ℕ) (c c' : Acts) (r : Result Answer Error) → CameOf (line.Get a key) c c' r → KeepsMap c.token.account c'.token.account
get_same a key c c' r h = run_same (line.Get a key) c c' r (λ x f k. refl) (far a key) h
  where
    far : (a key : ℕ) (o : Option Answer) (m n : Memo) → MapSoFar (line.Get a key) o m n → (k : ℕ) → map_in n.part k ≡ map_in m.part k
    far a key None m n h k = h k
    far a key (Some x) m n h k = h k

pub get_found : (who key : ℕ) (c c' : Acts) (a : Answer) → CameOf (line.Get who key) c c' (Ok a) → who ≡ c.token.account.who → IfOk (found_of a) (λ o. MatchOption o (HasNone key c.token.account) (λ n. HasNumber key n c.token.account))
get_found who key c c' (answer.Value n b) h own = (b, (leaves_of (line.Get who key) c c' (answer.Value n b) h).has own)
get_found who key c c' answer.Missing h own = (leaves_of (line.Get who key) c c' answer.Missing h).absent own
get_found who key c c' a h own = absurd (leaves_of (line.Get who key) c c' a h)

pub get_refused : (done : Account → Type 0) (who key : ℕ) (c c' : Acts) (a : Answer) → CameOf (line.Get who key) c c' (Ok a) → IfErr (found_of a) (Refuses done c c')
get_refused done who key c c' (answer.Value n b) h = tt
get_refused done who key c c' answer.Missing h = tt
get_refused done who key c c' a h = absurd (leaves_of (line.Get who key) c c' a h)

pub get_took : (P : Type 0) (who key : ℕ) (o : Option Answer) → had_effect (line.Get who key) o ≡ true → P
get_took P who key None is = absurd (false≢true is)
get_took P who key (Some a) is = absurd (false≢true is)

-- ---- a removal

pub del_gone : (key : ℕ) (c c' : Acts) (a : Answer) → CameOf (line.Del key) c c' (Ok a) → IfOk (there_of a 0) (λ b. HasNone key c'.token.account)
del_gone key c c' answer.Ok h = ran_map (line.Del key) c c' answer.Ok h key ∙ cut_here (account_map c.token.account) key
del_gone key c c' answer.Missing h = ran_map (line.Del key) c c' answer.Missing h key ∙ (leaves_of (line.Del key) c c' answer.Missing h).1.absent
del_gone key c c' a h = tt

pub del_was : (key : ℕ) (c c' : Acts) (a : Answer) → CameOf (line.Del key) c c' (Ok a) → IfOk (there_of a 0) (λ b. WasThere key b c.token.account)
del_was key c c' answer.Ok h = let w = (leaves_of (line.Del key) c c' answer.Ok h).1.was in (w.0, (w.1, w.2))
del_was key c c' answer.Missing h = (leaves_of (line.Del key) c c' answer.Missing h).1.absent
del_was key c c' a h = tt

pub del_refused : (done : Account → Type 0) (key : ℕ) (c c' : Acts) (a : Answer) → CameOf (line.Del key) c c' (Ok a) → IfErr (there_of a 0) (Refuses done c c')
del_refused done key c c' answer.Ok h = tt
del_refused done key c c' answer.Missing h = tt
del_refused done key c c' (answer.EraSpent e) h = let x = leaves_of (line.Del key) c c' (answer.EraSpent e) h in (x.1.cause, stands (line.Del key) c c' (answer.EraSpent e) h x.1.map)
del_refused done key c c' (answer.CountFull b n) h = let x = leaves_of (line.Del key) c c' (answer.CountFull b n) h in (x.1.cause, stands (line.Del key) c c' (answer.CountFull b n) h x.1.map)
del_refused done key c c' a h = absurd (leaves_of (line.Del key) c c' a h).1

pub del_took : (key : ℕ) (e e' : Account) (o : Option Answer) (m : Memo) → had_effect (line.Del key) o ≡ true → MapSoFar (line.Del key) o m e'.memo → m ≡ e.memo → HasNone key e'
del_took key e e' (Some answer.Ok) m is h same = h key ∙ cut_here (map_in m.part) key
del_took key e e' o m is h same = absurd (false≢true is)

-- ---- a copy

pub copy_stored : (key who other : ℕ) (c c' : Acts) (a : Answer) → CameOf (line.Copy key who other) c c' (Ok a) → IfOk (found_of a) (λ o. MatchOption o (KeepsMap c.token.account c'.token.account) (λ n. HasNumber key n c'.token.account))
copy_stored key who other c c' (answer.Value n b) h = (b, ran_map (line.Copy key who other) c c' (answer.Value n b) h key ∙ set_here (account_map c.token.account) key n b)
copy_stored key who other c c' answer.Missing h = ran_map (line.Copy key who other) c c' answer.Missing h
copy_stored key who other c c' (answer.Empty n) h = absurd (leaves_of (line.Copy key who other) c c' (answer.Empty n) h)
copy_stored key who other c c' a h = tt

pub copy_found : (key who other : ℕ) (c c' : Acts) (a : Answer) → CameOf (line.Copy key who other) c c' (Ok a) → who ≡ c.token.account.who → IfOk (found_of a) (λ o. MatchOption o (HasNone other c.token.account) (λ n. HasNumber other n c.token.account))
copy_found key who other c c' (answer.Value n b) h own = (b, (leaves_of (line.Copy key who other) c c' (answer.Value n b) h).source.has own)
copy_found key who other c c' answer.Missing h own = (leaves_of (line.Copy key who other) c c' answer.Missing h).absent own
copy_found key who other c c' (answer.Empty n) h own = absurd (leaves_of (line.Copy key who other) c c' (answer.Empty n) h)
copy_found key who other c c' a h own = tt

pub copy_refused : (done : Account → Type 0) (key who other : ℕ) (c c' : Acts) (a : Answer) → CameOf (line.Copy key who other) c c' (Ok a) → IfErr (found_of a) (Refuses done c c')
copy_refused done key who other c c' (answer.Value n b) h = tt
copy_refused done key who other c c' answer.Missing h = tt
copy_refused done key who other c c' (answer.EraSpent e) h = let x = leaves_of (line.Copy key who other) c c' (answer.EraSpent e) h in (x.cause, stands (line.Copy key who other) c c' (answer.EraSpent e) h x.map)
copy_refused done key who other c c' answer.RootsFull h = let x = leaves_of (line.Copy key who other) c c' answer.RootsFull h in (x.cause, stands (line.Copy key who other) c c' answer.RootsFull h x.map)
copy_refused done key who other c c' (answer.Full s b) h = let x = leaves_of (line.Copy key who other) c c' (answer.Full s b) h in (x.cause, stands (line.Copy key who other) c c' (answer.Full s b) h x.map)
copy_refused done key who other c c' (answer.CountFull b n) h = let x = leaves_of (line.Copy key who other) c c' (answer.CountFull b n) h in (x.cause, stands (line.Copy key who other) c c' (answer.CountFull b n) h x.map)
copy_refused done key who other c c' a h = absurd (leaves_of (line.Copy key who other) c c' a h)

pub copy_took : (key who other : ℕ) (e e' : Account) (o : Option Answer) (m : Memo) → had_effect (line.Copy key who other) o ≡ true → MapSoFar (line.Copy key who other) o m e'.memo → m ≡ e.memo → WasThere key true e'
copy_took key who other e e' (Some (answer.Value n b)) m is h same = (n, (b, h key ∙ set_here (map_in m.part) key n b))
copy_took key who other e e' o m is h same = absurd (false≢true is)

-- ---- a send

pub send_same : (to key : ℕ) (c c' : Acts) (r : Result Answer Error) → CameOf (line.Send to key) c c' r → KeepsMap c.token.account c'.token.account
send_same to key c c' r h = run_same (line.Send to key) c c' r (λ x f k. refl) (far to key) h
  where
    far : (to key : ℕ) (o : Option Answer) (m n : Memo) → MapSoFar (line.Send to key) o m n → (k : ℕ) → map_in n.part k ≡ map_in m.part k
    far to key None m n h k = h k
    far to key (Some x) m n h k = h k

pub send_was : (to key : ℕ) (c c' : Acts) (a : Answer) → CameOf (line.Send to key) c c' (Ok a) → IfOk (there_of a to) (λ b. WasThere key b c.token.account)
send_was to key c c' answer.Ok h = let x = leaves_of (line.Send to key) c c' answer.Ok h in (x.2.has.0, (x.0, x.2.has.1))
send_was to key c c' answer.Missing h = (leaves_of (line.Send to key) c c' answer.Missing h).absent refl
send_was to key c c' a h = tt

pub send_sent : (to key : ℕ) (c c' : Acts) (a : Answer) → CameOf (line.Send to key) c c' (Ok a) → IfOk (there_of a to) (λ b. HasSent to key b c.token.account c'.token.account)
send_sent to key c c' answer.Ok h = let x = leaves_of (line.Send to key) c c' answer.Ok h in (x.2.has.0, x.0, x.2.has.1, x.2.keeps.sent)
send_sent to key c c' answer.Missing h = (leaves_of (line.Send to key) c c' answer.Missing h).visited.keeps.sent
send_sent to key c c' a h = tt

-- the own era that was read left no room
spent_then : (e m r : ℕ) → e ≡ m → 2 ^ 47 - 3 < e → m ≤ r → (2 ^ 47 - 4 < e) × (e ≤ r)
spent_then e m r is high era = (omega arith, omega arith)

-- eight values wait, as the head that was read shows
full_queue : (n h t : ℕ) → n ≡ t → n ≡ h + 8 → 8 ≤ t
full_queue n h t e f = omega arith

pub send_refused : (done : Account → Type 0) (to key : ℕ) (c c' : Acts) (a : Answer) → CameOf (line.Send to key) c c' (Ok a) → IfErr (there_of a to) (Refuses done c c')
send_refused done to key c c' answer.Ok h = tt
send_refused done to key c c' answer.Missing h = tt
send_refused done to key c c' (answer.QueueFull i n) h = let x = leaves_of (line.Send to key) c c' (answer.QueueFull i n) h in (full_queue n i _ x.1.cause.0 x.1.cause.1, stands (line.Send to key) c c' (answer.QueueFull i n) h x.1.map)
send_refused done to key c c' (answer.EraSpent e) h = let x = leaves_of (line.Send to key) c c' (answer.EraSpent e) h in (spent_then e _ _ x.1.cause.0 x.1.cause.1 x.1.keeps.era, stands (line.Send to key) c c' (answer.EraSpent e) h x.1.map)
send_refused done to key c c' (answer.CountFull b n) h = let x = leaves_of (line.Send to key) c c' (answer.CountFull b n) h in (x.1.cause.1, stands (line.Send to key) c c' (answer.CountFull b n) h x.1.map)
send_refused done to key c c' a h = absurd (leaves_of (line.Send to key) c c' a h)

pub send_took : (to key : ℕ) (e e' : Account) (o : Option Answer) (m : Memo) → had_effect (line.Send to key) o ≡ true → MapSoFar (line.Send to key) o m e'.memo → m ≡ e.memo → KeepsMap e e'
send_took to key e e' (Some answer.Ok) m is h same k = h k ∙ ap (λ (x : Memo). map_in x.part k) same
send_took to key e e' o m is h same k = absurd (false≢true is)

-- ---- a receive

pub recv_stored : (s key : ℕ) (c c' : Acts) (a : Answer) → CameOf (line.Recv s key) c c' (Ok a) → IfOk (found_of a) (λ o. MatchOption o (KeepsMap c.token.account c'.token.account) (λ n. HasNumber key n c'.token.account))
recv_stored s key c c' (answer.Value n b) h = (b, ran_map (line.Recv s key) c c' (answer.Value n b) h key ∙ set_here (account_map c.token.account) key n b)
recv_stored s key c c' (answer.Empty n) h = ran_map (line.Recv s key) c c' (answer.Empty n) h
recv_stored s key c c' answer.Missing h = absurd (leaves_of (line.Recv s key) c c' answer.Missing h)
recv_stored s key c c' a h = tt

pub recv_received : (s key : ℕ) (c c' : Acts) (a : Answer) → CameOf (line.Recv s key) c c' (Ok a) → IfOk (found_of a) (λ o. HasReceived s key o c.token.account c'.token.account)
recv_received s key c c' (answer.Value n b) h =
    let x = leaves_of (line.Recv s key) c c' (answer.Value n b) h in
    let here : account_map c'.token.account key ≡ Some (n, b) = ran_map (line.Recv s key) c c' (answer.Value n b) h key ∙ set_here (account_map c.token.account) key n b in
    elim x.item [ inl y ↦ (b, here, inl y.received) | inr y ↦ (b, here, inr (y.0.received, y.1)) ]
recv_received s key c c' (answer.Empty n) h = ap (λ (m : Memo). m.received) (leaves_of (line.Recv s key) c c' (answer.Empty n) h).same
recv_received s key c c' answer.Missing h = absurd (leaves_of (line.Recv s key) c c' answer.Missing h)
recv_received s key c c' a h = tt

pub recv_refused : (done : Account → Type 0) (s key : ℕ) (c c' : Acts) (a : Answer) → CameOf (line.Recv s key) c c' (Ok a) → IfErr (found_of a) (Refuses done c c')
recv_refused done s key c c' (answer.Value n b) h = tt
recv_refused done s key c c' (answer.Empty n) h = tt
recv_refused done s key c c' (answer.EraSpent e) h = let x = leaves_of (line.Recv s key) c c' (answer.EraSpent e) h in (x.cause, stands (line.Recv s key) c c' (answer.EraSpent e) h x.map)
recv_refused done s key c c' answer.RootsFull h = let x = leaves_of (line.Recv s key) c c' answer.RootsFull h in (x.cause, stands (line.Recv s key) c c' answer.RootsFull h x.map)
recv_refused done s key c c' (answer.Full n b) h = let x = leaves_of (line.Recv s key) c c' (answer.Full n b) h in (x.cause, stands (line.Recv s key) c c' (answer.Full n b) h x.map)
recv_refused done s key c c' (answer.CountFull b n) h = let x = leaves_of (line.Recv s key) c c' (answer.CountFull b n) h in (x.cause, stands (line.Recv s key) c c' (answer.CountFull b n) h x.map)
recv_refused done s key c c' a h = absurd (leaves_of (line.Recv s key) c c' a h)

pub recv_took : (s key : ℕ) (e e' : Account) (o : Option Answer) (m : Memo) → had_effect (line.Recv s key) o ≡ true → MapSoFar (line.Recv s key) o m e'.memo → m ≡ e.memo → WasThere key true e'
recv_took s key e e' (Some (answer.Value n b)) m is h same = (n, (b, h key ∙ set_here (map_in m.part) key n b))
recv_took s key e e' o m is h same = absurd (false≢true is)
