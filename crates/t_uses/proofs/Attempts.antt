-- commands that are stepped until they answer or are cut off: what they did to the map
use Rattle.std.proofs.Common.{◌≡◌, ◌≢◌, ℕ, ◌<◌, Bool, false, true, cond, Option, Some, None, refl, sym, ap, ◌∙◌, subst, inl, inr}
use Rattle.std.proofs.lemmas.List.{get_or-set_other}
use Rattle.shm_words.specs.Layout.{GeometryFits}
use Rattle.shm_graph.specs.{declared.{ask.Me.Me, memo.Memo.Memo, run.{Account.Account, Start.Start}}, Agents.acts}
use Rattle.shm_graph.specs.{Asks.{Trail, call_before}, Idle.IsIdle, Laws.Laws, Runs.{account_died, changed, memos_of}}
use Rattle.shm_graph.specs.{Tells.after_all, Whole.fits_now}
use Rattle.kind_parts.specs.Reparting.{map_in}
use Rattle.shm_plain.specs.{Calls.{IsAtWork, Ran}, Pools.{IsOf, Pool, after_fall, memo_of, readied}}
use Rattle.shm_plain.proofs.{Calling.{Went, may_acting, ready_still, went_first}, Called.fits_first}
use Rattle.shm_count.specs.Roots.{member}
use Rattle.shm_script.specs.declared.{line.Line.Line, log.Answer.Answer}
use Rattle.shm_script.specs.declared.line.Line.TheVariants as line
use Rattle.shm_script.specs.declared.log.Answer.TheVariants as answer
use Rattle.shm_table.specs.Command.{CommandCall, CommandFits, CommandGives, command_control, command_effect, command_of}
use Rattle.shm_table.specs.{Command.Maps.MapSoFar, Proved.{Command.Laws.command_laws, CopyKey.Laws.copy_laws}}
use Rattle.shm_table.specs.Proved.{Del.Laws.del_laws, Enter.Laws.enter_laws, FetchHead.Laws.fetch_head_laws}
use Rattle.shm_table.specs.Proved.{Fetch.Laws.fetch_laws, Get.Laws.get_laws, Locate.Laws.locate_laws}
use Rattle.shm_table.specs.Proved.{OpenTable.Laws.open_laws, Put.Laws.put_laws, PutRoot.Laws.put_root_laws}
use Rattle.shm_table.specs.Proved.{RecvKey.Laws.recv_laws, Replace.Laws.replace_laws, SendKey.Laws.send_key_laws}
use Rattle.shm_table.specs.Proved.TakeHead.Laws.{take_head_laws}
use Rattle.shm_client.specs.Running.{MapSo, MayRun}
use Rattle.shm_client.proofs.RunBegins.{run_begins, run_fresh}

-- what is owed of a command
pub laws : Laws command_control CommandFits CommandGives
laws = command_laws (put_laws (put_root_laws open_laws locate_laws replace_laws enter_laws)) (copy_laws fetch_laws (put_root_laws open_laws locate_laws replace_laws enter_laws)) del_laws get_laws send_key_laws (recv_laws fetch_head_laws take_head_laws (put_root_laws open_laws locate_laws replace_laws enter_laws))

-- an answer says of the map what an effect says
pub answered_so : (l : Line) (a : Answer) (m r : Memo) → MapSo l a m r → MapSoFar l (Some a) m r
answered_so (line.Put key n) (answer.Stored b) m r h = h
answered_so (line.Put key n) a m r h = h
answered_so (line.Copy key d other) (answer.Value n b) m r h = h
answered_so (line.Copy key d other) a m r h = h
answered_so (line.Del key) answer.Ok m r h = h
answered_so (line.Del key) a m r h = h
answered_so (line.Get d key) a m r h = h
answered_so (line.Send d key) a m r h = h
answered_so (line.Recv d key) (answer.Value n b) m r h = h
answered_so (line.Recv d key) a m r h = h

-- the command of a line by c, before its first word step
abbrev pub first_of : Pool → ℕ → Line → CommandCall
first_of p c l = command_of (member p.start.geometry c) l

-- steps of the command of the line led from the pool p with x word steps left to q, where it is at m, with y left
abbrev pub Attempts : Pool → ℕ → Line → ℕ → Pool → CommandCall → ℕ → Type 0
Attempts p c l x q m y = Went command_control CommandFits CommandGives c p (first_of p c l) x q m y

module _ (c : ℕ) (l : Line) (p : Pool) (work : IsAtWork c p) (may : MayRun (member p.start.geometry c) l (memo_of p c)) where
  -- it fits the memo that it began with
  pub fits_begun : fits_now command_control CommandFits (first_of p c l) (memo_of p c) (memo_of (readied p c) c)
  fits_begun =
      fits_first command_control CommandFits CommandGives c p work.geometry work.who work.acts (first_of p c l) (run_fresh (member p.start.geometry c) l)
      (run_begins (member p.start.geometry c) l (memo_of p c) may) (first_of p c l) refl

  module _ (x : ℕ) (q : Pool) (m : CommandCall) (y : ℕ) (went : Attempts p c l x q m y) where
    -- its agent acts on the way
    pub acts_still : acts (memo_of q c) ≡ true
    acts_still = elim went.same [ inl s ↦ ap (λ (z : Pool). acts (memo_of z c)) s.0 ∙ work.acts | inr s ↦ s.0 ]

    -- what the map is there: by the law of commands that are going on
    pub cut_so : ((me : Me) (l : Line) (start : Trail) (r0 r : Memo) (tr : Trail) → let m = after_all command_control (command_of me l) start in command_control.finished m ≡ false → CommandFits m r0 r tr → MapSoFar l (command_effect m) r0 r) → MapSoFar l (command_effect m) (memo_of p c) (memo_of q c)
    cut_so going =
        let r : Memo = memo_of (readied q c) c in
        let fit : CommandFits m (memo_of p c) r (call_before (command_control.fresh m) r.call) = went.forth (memo_of p c) fits_begun in
        let so : MapSoFar l (command_effect m) (memo_of p c) r =
        subst (λ (z : CommandCall). MapSoFar l (command_effect z) (memo_of p c) r) went.course
        (going (member p.start.geometry c) l went.trail (memo_of p c) r (call_before (command_control.fresh m) r.call)
        (ap (λ (z : CommandCall). command_control.finished z) went.course ∙ went.of.2)
        (subst (λ (z : CommandCall). CommandFits z (memo_of p c) r (call_before (command_control.fresh m) r.call)) (sym went.course) fit)) in
        subst (MapSoFar l (command_effect m) (memo_of p c)) (ready_still q c acts_still) so

-- it is one of c that has something to ask
pub first_is : (p : Pool) (c : ℕ) (l : Line) → c < p.start.geometry.clients → IsOf p c command_control (first_of p c l)
first_is p c (line.Put key n) who = (refl, who, refl)
first_is p c (line.Copy key d other) who = (refl, who, refl)
first_is p c (line.Del key) who = (refl, who, refl)
first_is p c (line.Get d key) who = (refl, who, refl)
first_is p c (line.Send d key) who = (refl, who, refl)
first_is p c (line.Recv d key) who = (refl, who, refl)

-- before its first word step
pub attempts_first : (p : Pool) (c : ℕ) (l : Line) (x : ℕ) (m : CommandCall) → m ≡ first_of p c l → IsAtWork c p → Attempts p c l x p m x
attempts_first p c l x m is work =
    subst (λ (z : CommandCall). Attempts p c l x p z x) (sym is)
    (went_first command_control CommandFits CommandGives c p (first_of p c l) x (first_is p c l work.who) (may_acting p c work.acts))

-- ---- deaths

-- a death leaves the memos of the others
pub fall_other : (p : Pool) (c d : ℕ) → d ≢ c → memo_of (after_fall p c) d ≡ memo_of p d
fall_other p c d n = go (acts (memo_of p c))
  where
    go : (b : Bool) → memos_of (cond b (changed account_died p.accounts c) p.accounts) d ≡ memo_of p d
    go true = ap (λ (x : Account). x.memo) (get_or-set_other p.accounts c d _ _ n)
    go false = refl

-- what is so of a map is so of the same map
pub so_after : (l : Line) (o : Option Answer) (m r q : Memo) → map_in q.part ≡ map_in r.part → MapSoFar l o m r → MapSoFar l o m q
so_after l None m r q same h = λ key. ap (λ f. f key) same ∙ h key
so_after l (Some a) m r q same h = λ key. ap (λ f. f key) same ∙ h key

-- a call of another identity leaves one at work
pub work_other : (c d : ℕ) (p q : Pool) (fresh answered : Bool) (x y : ℕ) → IsAtWork c p → c ≢ d → Ran d fresh answered p q x y → IsAtWork c q
work_other c d p q fresh answered x y h n ran =
    let same = ran.others c n in
    record {
      geometry = subst (λ (s : Start). GeometryFits s.geometry) (sym ran.start) h.geometry;
      who = subst (λ (s : Start). c < s.geometry.clients) (sym ran.start) h.who;
      idle = subst (λ (m : Memo). IsIdle c m) (sym same) h.idle;
      acts = ap acts same ∙ h.acts;
    }
