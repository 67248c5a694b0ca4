-- the log of a client that has ended or died, as its identity goes on
use Rattle.std.proofs.Common.{◌≡◌, ℕ, zero, suc, Bool, true, false, List, [], ◌∷◌, ◌++◌, length, refl, sym, ap, ◌∙◌, subst, arith}
use Rattle.shm_words.specs.declared.geometry.Geometry.{Geometry}
use Rattle.shm_graph.specs.declared.{ask.Me.Me, memo.{Agent.Agent, Fate.Fate, Kind.TheVariants.Client}}
use Rattle.shm_graph.specs.declared.run.{Account.Account, LoggedLine.LoggedLine, Move.Move}
use Rattle.shm_graph.specs.{Agents.{is_acting, last_agent}, Laws.Control}
use Rattle.shm_graph.specs.{Runs.{Leads, State, account_at, fell_by, moved}, Tells.machine_steps}
use Rattle.shm_graph.specs.declared.memo.Fate.TheVariants as fate
use Rattle.shm_plain.specs.{Calls.{state_of, words}, Pools.{IsRun, Pool, memo_of, readied}}
use Rattle.shm_script.specs.declared.{log.{End.{End, TheVariants.{Ended, Died}}, Entry.Entry}, line.Line.Line}
use Rattle.shm_script.specs.{Logged.Logged, Values.Scripted}
use Rattle.shm_agents.specs.Logs.{BeganWith, HasEnd, IsLogOf, Was, begun_first, Was.{Between, InCommand, InLeaving}}
use Rattle.shm_agents.proofs.{Growing.get_more, Trails.entries_rest}
use Rattle.shm_replay.specs.Closings.{AreVisits, IsRecovery, IsVisit, IsWhole}
use Rattle.shm_replay.proofs.{Aside.leads_between, Firsts.{AreEven, First, first_leads}}
use Rattle.shm_replay.proofs.Telling.{Grows, grows_then, ready_grew}

-- ---- turns of a closing

-- turns lead from the pool p to q
abbrev pub Led : Pool → Pool → Type 0
Led p q = (ms : List Move) × Leads p.start.geometry (state_of p) ms (state_of q)

leads_then : (g : Geometry) (a : State) (ms ns : List Move) (b d : State) → Leads g a ms b → Leads g b ns d → Leads g a (ms ++ ns) d
leads_then g a [] ns b d run then = subst (λ (s : State). Leads g s ns d) (sym run) then
leads_then g a (m ∷ ms) ns b d run then = (run.0, run.1, leads_then g (moved a m) ms ns b d run.2 then)

led_then : (p q r : Pool) → q.start ≡ p.start → Led p q → Led q r → Led p r
led_then p q r start (ms, first) (ns, then) = (ms ++ ns, leads_then p.start.geometry (state_of p) ms ns (state_of q) (state_of r) first (subst (λ s. Leads s.geometry (state_of q) ns (state_of r)) start then))

whole_led : {M A : Type 0} (k : Control M A) (c : ℕ) (p : Pool) (m : M) (q : Pool) → IsRun p → IsWhole k c p m q → Led p q
whole_led k c p m q run h =
    let x = grows_then p.turns (readied p c).turns q.turns (ready_grew p c) (words (machine_steps k m h.took.trail), h.took.grew) in
    (x.0, leads_between p q x.0 run h.run h.start x.1)

recovery_led : (b : Bool) (c : ℕ) (p q : Pool) → IsRun p → IsRecovery b c p q → IsRun q × (q.start ≡ p.start) × Led p q
recovery_led false c p q run h = (subst IsRun (sym h) run, ap (λ (x : Pool). x.start) h, ([], ap state_of (sym h)))
recovery_led true c p q run h = (h.run, h.start, whole_led _ c p _ q run h)

visit_led : (c : ℕ) (p q : Pool) → IsRun p → IsVisit c p q → (q.start ≡ p.start) × Led p q
visit_led c p q run v =
    let (now, same, led) = recovery_led (fell_by (last_agent (memo_of p c).agents)) c p v.recovered run v.recovery in
    let joined = whole_led _ c v.recovered _ v.joined now v.join in
    let drained = whole_led _ c v.joined _ v.drained v.join.run v.drain in
    let left = whole_led _ c v.drained _ q v.drain.run v.leave in (
      v.leave.start ∙ (v.drain.start ∙ (v.join.start ∙ same)),
      led_then p v.recovered q same led (led_then v.recovered v.joined q v.join.start joined (led_then v.joined v.drained q v.drain.start drained left)),
    )

pub visits_led : (c n : ℕ) (p q : Pool) → IsRun p → AreVisits c n p q → Led p q
visits_led c zero p q run h = ([], ap state_of (sym h))
visits_led c (suc n) p q run h =
    let (same, led) = visit_led c p h.0 run h.1 in
    led_then p h.0 q same led (visits_led (suc c) n h.0 q h.1.leave.run h.2)

-- ---- logs

was_later : (me : Me) (lines : List Line) (n k : ℕ) (behind more : List LoggedLine) (finished entries : List Entry) (done : Bool) → k ≡ n → Was me lines n behind finished entries done → Was me lines k (behind ++ more) finished entries done
was_later me lines n k behind more finished entries done e (Between count same undone) = Between (e ∙ count) same undone
was_later me lines n k behind more finished entries done e (InCommand line x count next at text cut same shown) = InCommand line x (e ∙ count) next (get_more behind more (length finished) x at) text cut same shown
was_later me lines n k behind more finished entries done e (InLeaving x count all at cut same undone) = InLeaving x (e ∙ count) all (get_more behind more (length finished) x at) cut same undone

-- the first agent is the same, and began the same pieces of work
abbrev pub FirstStays : Account → Account → Type 0
FirstStays e f = (a : Agent) (b : List (List ℕ)) → is_acting a.fate ≡ false → First a b e → First a b f

module _ (e f : Account) (even : AreEven e) (stays : FirstStays e f) where
  first_of : (a : Agent) (others : List Agent) → e.memo.agents ≡ a ∷ others → (b : List (List ℕ)) × First a b e
  first_of a others is = go e.begun refl
    where
      go : (bs : List (List (List ℕ))) → e.begun ≡ bs → (b : List (List ℕ)) × First a b e
      go [] begun = absurd (let n = even in let long = ap length is in let none = ap length begun in omega arith)
      go (b ∷ bs) begun = (b, record { others = others; agents = is; more = bs; begun = begun; even = (let n = even in let long = ap length is in let some = ap length begun in omega arith) })

  began_later : (n : ℕ) (x : Fate) → is_acting x ≡ false → BeganWith e.memo.agents n x → BeganWith f.memo.agents n x × (begun_first f.begun ≡ begun_first e.begun)
  began_later n x still (others, is) =
      let a : Agent = record { kind = Client; steps = n; fate = x } in
      let (b, first) = first_of a others is in
      let later = stays a b still first in
      ((later.others, later.agents), ap begun_first later.begun ∙ sym (ap begun_first first.begun))

  end_later : (me : Me) (s : Scripted) (life : ℕ) (behind more : List LoggedLine) (finished entries : List Entry) (end : End) → HasEnd me s life e.memo.agents e.begun behind finished entries end → HasEnd me s life f.memo.agents f.begun (behind ++ more) finished entries end
  end_later me s life behind more finished entries Ended (same, all, (n, began)) = (same, all, (n, (began_later n fate.Ended refl began).0))
  end_later me s life behind more finished entries (Died n done) (many, began, was) =
      let (later, same) = began_later life fate.Died refl began in
      (many, later, was_later me s.lines (begun_first e.begun) (begun_first f.begun) behind more finished entries done same was)

  pub log_later : (me : Me) (s : Scripted) (life : ℕ) (told : List LoggedLine) (l : Logged) → Grows told f.told → IsLogOf me s life e.memo.agents e.begun told l → IsLogOf me s life f.memo.agents f.begun f.told l
  log_later me s life told l (more, grew) h =
      record {
        client = h.client;
        lines = h.lines;
        join = h.join;
        behind = h.behind ++ more;
        is = grew ∙ ap (λ (xs : List LoggedLine). xs ++ more) h.is;
        finished = h.finished;
        entries = entries_rest me h.behind more h.finished h.entries;
        end = end_later me s life h.behind more h.finished l.entries l.end h.end;
      }

-- turns leave the first agent that has ended or died
pub led_stays : (p q : Pool) (d : ℕ) → Led p q → FirstStays (account_at p.accounts d) (account_at q.accounts d)
led_stays p q d (ms, run) a b still first = first_leads a b still p.start.geometry (state_of p) ms (state_of q) run d first
