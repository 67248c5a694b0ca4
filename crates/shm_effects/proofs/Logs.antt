-- the log of a client whose agents have nothing left to do is what they have noted
use Rattle.std.proofs.Common.{◌≡◌, ◌≢◌, ℕ, zero, suc, ◌+◌, ◌<◌, ◌≤◌, Bool, true, false, cond, List, [], ◌∷◌, ◌++◌, length, append_assoc, append-nil, refl, sym, ap, ◌∙◌, subst, inl, inr, arith}
use Rattle.std.proofs.lemmas.{Bool.cases_eq, List.map-append}
use Rattle.std.specs.Prelude.{slice_index}
use Rattle.shm_graph.specs.declared.{ask.Me.Me, run.{Account.Account, Move.{Move, TheVariants.{Word, Dies, Begins}}}}
use Rattle.shm_graph.specs.{declared.run.Start.Start, Agents.{acts, last_agent}, Asks.Trail, Laws.{Control, Steady}}
use Rattle.shm_graph.specs.{Runs.{account_at, fell_by, told_left}, Tells.{GoesOn, machine_steps}}
use Rattle.plans.specs.{CallsControl.{calls_control, calls_of}, Proved.CallsKeep.calls_laws}
use Rattle.shm_count.specs.Roots.{member}
use Rattle.shm_queue.specs.{Drain.{Control.{drain_parts, drain_steered}, drain_plan}, Proved.Drain.Laws.drain_laws}
use Rattle.shm_queue.specs.Proved.Take.Laws.{take_laws}
use Rattle.shm_recover.specs.{Join.join_control, Proved.{Join.Keeps.join_laws, Leave.Laws.leave_laws}}
use Rattle.shm_recover.specs.Leave.{Control.{leave_parts, leave_steered}, leave_plan}
use Rattle.shm_recover.specs.Recover.{Control.{recover_parts, recovering, recover_steered}, recover_plan}
use Rattle.shm_plain.specs.{Calls.{AreOf, state_of, words}, Pools.{IsRun, Pool, memo_of}, Tracks.kind_next}
use Rattle.shm_script.specs.{Logged.Logged, Values.Scripted}
use Rattle.shm_agents.specs.{Agents.{Playing, is_standing_dead, logged}, Logs.{IsLog, IsLogOf}, Turns.lives_of}
use Rattle.shm_agents.proofs.{Over.{IsOver, over_fell, over_log}, Standing.fell_quiet, WorkLaws.recoveries}
use Rattle.shm_replay.specs.Closings.{AreVisits, IsRecovery, IsVisit, IsWhole}
use Rattle.shm_replay.proofs.{Aside.{leads_aside, leads_between, told_first}, Firsts.even_run}
use Rattle.shm_replay.proofs.{Later.{led_stays, log_later, visits_led}, SameLogs.logs_same}
use Rattle.shm_replay.proofs.Telling.{Grows, grows_then, visits_grow, whole_grows}
use Rattle.shm_headline.specs.TurnsOf.{turn_of, turns_of}
use Rattle.shm_effects.specs.Lived.{NoneDies}
use Rattle.shm_effects.proofs.{Entries.{effective, when_ended}, Lived.none_both}

-- ---- an identity while another one is visited

module _ {M A : Type 0} (k : Control M A) (steady : Steady k) (c : ℕ) where
  -- a machine of c makes word steps of c
  steps_own : (m : M) (tr : Trail) → GoesOn k m tr → (k.me m).who ≡ c → AreOf c (words (machine_steps k m tr))
  steps_own m [] goes me = tt
  steps_own m (x ∷ []) goes me = (me, tt)
  steps_own m (x ∷ y ∷ tr) goes me = (me, steps_own (k.after m x.word) (y ∷ tr) goes.1.1 (ap (λ (z : Me). z.who) (steady m x.word goes.0).same_me ∙ me))

  -- it takes a pool further by turns of c, none of them a death
  whole_turns : (p : Pool) (m : M) (q : Pool) → IsWhole k c p m q → (k.me m).who ≡ c → (ms : List Move) × (q.turns ≡ p.turns ++ ms) × AreOf c ms
  whole_turns p m q h me = go (acts (memo_of p c)) h.took.grew
    where
      own : AreOf c (words (machine_steps k m h.took.trail))
      own = steps_own m h.took.trail h.took.goes me

      go : (b : Bool) → q.turns ≡ cond b p.turns (p.turns ++ Begins c (kind_next (memo_of p c)) ∷ []) ++ words (machine_steps k m h.took.trail) → (ns : List Move) × (q.turns ≡ p.turns ++ ns) × AreOf c ns
      go true grew = (words (machine_steps k m h.took.trail), grew, own)
      go false grew = (Begins c (kind_next (memo_of p c)) ∷ words (machine_steps k m h.took.trail), grew ∙ append_assoc p.turns (Begins c (kind_next (memo_of p c)) ∷ []) (words (machine_steps k m h.took.trail)), (refl, own))

  whole_aside : (p : Pool) (m : M) (q : Pool) → IsRun p → IsWhole k c p m q → (k.me m).who ≡ c → (d : ℕ) → d ≢ c → account_at q.accounts d ≡ account_at p.accounts d
  whole_aside p m q run h me d other =
      let (ms, grew, own) = whole_turns p m q h me in
      leads_aside p.start.geometry (state_of p) ms (state_of q) c d (leads_between p q ms run h.run h.start grew) own other

recovery_aside : (b : Bool) (c : ℕ) (p q : Pool) → IsRun p → IsRecovery b c p q → IsRun q × ((d : ℕ) → d ≢ c → account_at q.accounts d ≡ account_at p.accounts d)
recovery_aside false c p q run h = (subst IsRun (sym h) run, λ d other. ap (λ (x : Pool). account_at x.accounts d) h)
recovery_aside true c p q run h = (h.run, whole_aside (calls_control recover_parts recover_steered) (calls_laws recover_parts recover_plan recoveries).steady c p _ q run h refl)

visit_aside : (c : ℕ) (p q : Pool) → IsRun p → IsVisit c p q → (d : ℕ) → d ≢ c → account_at q.accounts d ≡ account_at p.accounts d
visit_aside c p q run v d other =
    let (now, first) = recovery_aside (fell_by (last_agent (memo_of p c).agents)) c p v.recovered run v.recovery in
    whole_aside (calls_control leave_parts leave_steered) (calls_laws leave_parts leave_plan leave_laws).steady c v.drained _ q v.drain.run v.leave refl d other
    ∙ (whole_aside (calls_control drain_parts drain_steered) (calls_laws drain_parts drain_plan (drain_laws take_laws)).steady c v.joined _ v.drained v.join.run v.drain refl d other
    ∙ (whole_aside join_control join_laws.steady c v.recovered _ v.joined now v.join refl d other ∙ first d other))

-- ---- nobody dies in a closing

-- the pool grew by turns none of which is a death
abbrev pub GrewAlive : ℕ → Pool → Pool → Type 0
GrewAlive c p q = (ms : List Move) × (q.turns ≡ p.turns ++ ms) × NoneDies c (turns_of ms)

alive_of : (c d : ℕ) (ms : List Move) → AreOf d ms → NoneDies c (turns_of ms)
alive_of c d [] h = tt
alive_of c d (Word t ∷ ms) h = alive_of c d ms h.1
alive_of c d (Begins e k ∷ ms) h = alive_of c d ms h.1
alive_of c d (Dies e ∷ ms) h = absurd h

turns_both : (ms ns : List Move) → turns_of (ms ++ ns) ≡ turns_of ms ++ turns_of ns
turns_both ms ns = map-append turn_of ms ns

alive_then : (c : ℕ) (p q r : Pool) → GrewAlive c p q → GrewAlive c q r → GrewAlive c p r
alive_then c p q r (ms, e, h) (ns, f, k) = (ms ++ ns, f ∙ (ap (λ xs. xs ++ ns) e ∙ append_assoc p.turns ms ns), subst (NoneDies c) (sym (turns_both ms ns)) (none_both c (turns_of ms) (turns_of ns) h k))

whole_alive : {M A : Type 0} (k : Control M A) → Steady k → (c d : ℕ) (p : Pool) (m : M) (q : Pool) → IsWhole k d p m q → (k.me m).who ≡ d → GrewAlive c p q
whole_alive k steady c d p m q h me = let (ms, grew, own) = whole_turns k steady d p m q h me in (ms, grew, alive_of c d ms own)

recovery_alive : (b : Bool) (c d : ℕ) (p q : Pool) → IsRecovery b d p q → GrewAlive c p q
recovery_alive false c d p q h = ([], ap (λ (x : Pool). x.turns) h ∙ sym (append-nil p.turns), tt)
recovery_alive true c d p q h = whole_alive (calls_control recover_parts recover_steered) (calls_laws recover_parts recover_plan recoveries).steady c d p _ q h refl

visit_alive : (c d : ℕ) (p q : Pool) → IsVisit d p q → GrewAlive c p q
visit_alive c d p q v =
    alive_then c p v.recovered q (recovery_alive (fell_by (last_agent (memo_of p d).agents)) c d p v.recovered v.recovery)
    (alive_then c v.recovered v.joined q (whole_alive join_control join_laws.steady c d v.recovered _ v.joined v.join refl)
    (alive_then c v.joined v.drained q (whole_alive (calls_control drain_parts drain_steered) (calls_laws drain_parts drain_plan (drain_laws take_laws)).steady c d v.joined _ v.drained v.drain refl)
    (whole_alive (calls_control leave_parts leave_steered) (calls_laws leave_parts leave_plan leave_laws).steady c d v.drained _ q v.leave refl)))

pub visits_alive : (c d n : ℕ) (p q : Pool) → AreVisits d n p q → GrewAlive c p q
visits_alive c d zero p q h = ([], ap (λ (x : Pool). x.turns) h ∙ sym (append-nil p.turns), tt)
visits_alive c d (suc n) p q (r, v, rest) = alive_then c p r q (visit_alive c d p r v) (visits_alive c (suc d) n r q rest)

-- ---- what is told of a dead agent

recovery_told : (c : ℕ) (p q : Pool) → IsRun p → c < p.start.geometry.clients → fell_by (last_agent (memo_of p c).agents) ≡ true → IsRecovery true c p q → Grows (told_left true (account_at p.accounts c)) (account_at q.accounts c).told
recovery_told c p q run l fell h =
    told_first (calls_control recover_parts recover_steered) c p (calls_of recover_steered (recovering (member p.start.geometry c))) q run h.run h.start (subst (λ (n : ℕ). c < n) (sym run.held.accounts) l) (fell_quiet (last_agent (memo_of p c).agents) fell) refl refl h.took.trail (some h.took.trail h.some) h.took.grew
  where
    some : (tr : Trail) → tr ≢ [] → 0 < length tr
    some [] n = absurd (n refl)
    some (x ∷ tr) n = omega arith

visit_told : (c : ℕ) (p q : Pool) → IsRun p → c < p.start.geometry.clients → fell_by (last_agent (memo_of p c).agents) ≡ true → IsVisit c p q → Grows (told_left true (account_at p.accounts c)) (account_at q.accounts c).told
visit_told c p q run l fell v =
    let recovery : IsRecovery true c p v.recovered = subst (λ (b : Bool). IsRecovery b c p v.recovered) fell v.recovery in
    let now : IsRun v.recovered = (recovery_aside true c p v.recovered run recovery).0 in
    grows_then (told_left true (account_at p.accounts c)) (account_at v.recovered.accounts c).told (account_at q.accounts c).told (recovery_told c p v.recovered run l fell recovery)
    (grows_then (account_at v.recovered.accounts c).told (account_at v.joined.accounts c).told (account_at q.accounts c).told (whole_grows _ c v.recovered _ v.joined now v.join c)
    (grows_then (account_at v.joined.accounts c).told (account_at v.drained.accounts c).told (account_at q.accounts c).told (whole_grows _ c v.joined _ v.drained v.join.run v.drain c) (whole_grows _ c v.drained _ q v.drain.run v.leave c)))

-- all that was running of a dead agent is told in the end
visits_told : (c n : ℕ) (p q : Pool) → IsRun p → AreVisits c n p q → (d : ℕ) → c ≤ d → d < c + n → d < p.start.geometry.clients → fell_by (last_agent (memo_of p d).agents) ≡ true → Grows (told_left true (account_at p.accounts d)) (account_at q.accounts d).told
visits_told c zero p q run h d low high l fell = absurd (omega arith)
visits_told c (suc n) p q run (r, v, rest) d low high l fell =
    elim (cases_eq c d) [
      | inl e ↦ (
          let v2 : IsVisit d p r = subst (λ (k : ℕ). IsVisit k p r) e v in
          grows_then (told_left true (account_at p.accounts d)) (account_at r.accounts d).told (account_at q.accounts d).told (visit_told d p r run l fell v2) (visits_grow (suc c) n r q v.leave.run rest d)
          )
      | inr o ↦ (
          let same : account_at r.accounts d ≡ account_at p.accounts d = visit_aside c p r run v d (λ z. o (sym z)) in
          subst (λ (a : Account). Grows (told_left true a) (account_at q.accounts d).told) same
          (visits_told (suc c) n r q v.leave.run rest d (omega arith) (omega arith) (subst (λ (s : Start). d < s.geometry.clients) (sym (starts p r v)) l) (ap (λ (a : Account). fell_by (last_agent a.memo.agents)) same ∙ fell))
          )
    ]
  where
    first : (b : Bool) (p q : Pool) → IsRecovery b c p q → q.start ≡ p.start
    first false p q h = ap (λ (x : Pool). x.start) h
    first true p q h = h.start

    starts : (p r : Pool) → IsVisit c p r → r.start ≡ p.start
    starts p r v = v.leave.start ∙ (v.drain.start ∙ (v.join.start ∙ first (fell_by (last_agent (memo_of p c).agents)) p v.recovered v.recovery))

-- ---- the log

module _ (clients : ℕ) (q p : Pool) (run : IsRun q) (same : p.start ≡ q.start) (visits : AreVisits 0 clients q p) (s : Scripted) (x : Playing) (l : s.client < clients) (low : s.client < q.start.geometry.clients) (client : s.client ≡ x.me.who) (me : x.me ≡ member q.start.geometry s.client) (over : IsOver s x (account_at q.accounts s.client)) where
  abbrev c : ℕ
  c = s.client

  abbrev e : Account
  e = account_at q.accounts c

  grown : Grows (told_left (is_standing_dead x.standing) e) (account_at p.accounts c).told
  grown = go over
    where
      go : IsOver s x e → Grows (told_left (is_standing_dead x.standing) e) (account_at p.accounts c).told
      go (inl h) = subst (λ st. Grows (told_left (is_standing_dead st) e) (account_at p.accounts c).told) (sym h.left) (visits_grow 0 clients q p run visits c)
      go (inr (inl h)) = subst (λ st. Grows (told_left (is_standing_dead st) e) (account_at p.accounts c).told) (sym h.0.recovered) (visits_grow 0 clients q p run visits c)
      go (inr (inr h)) = subst (λ st. Grows (told_left (is_standing_dead st) e) (account_at p.accounts c).told) (sym h.0) (visits_told 0 clients q p run visits c (omega arith) (let z = l in omega arith) low (over_fell s x e over h.0))

  noted : IsLog p s (logged x)
  noted =
      let log = log_later e (account_at p.accounts c) (even_run q run c) (led_stays q p c (visits_led 0 clients q p run visits)) x.me s (slice_index (lives_of s.life) 0) (told_left (is_standing_dead x.standing) e) (logged x) grown (over_log s x e client over) in
      subst (λ (m : Me). IsLogOf m s (slice_index (lives_of s.life) 0) (account_at p.accounts c).memo.agents (account_at p.accounts c).begun (account_at p.accounts c).told (logged x)) (me ∙ ap (λ (z : Start). member z.geometry c) (sym same)) log

  ended : effective s x ≡ x.entries
  ended = go over
    where
      go : IsOver s x e → effective s x ≡ x.entries
      go (inl h) = when_ended s x _ h.end
      go (inr (inl h)) = when_ended s x _ h.1.ended
      go (inr (inr h)) = when_ended s x _ h.2.ended

  first : (a b : Logged) → a ∷ [] ≡ b ∷ [] → a ≡ b
  first a b e = cc

  -- a log of the closed pool is the one that its client has noted
  pub log_noted : (log : Logged) → IsLog p s log → log ≡ logged x
  log_noted log is = first log (logged x) (logs_same p (s ∷ []) (log ∷ []) (logged x ∷ []) (is, refl) (noted, refl))

  pub entries_noted : (log : Logged) → IsLog p s log → log.entries ≡ effective s x
  entries_noted log is = ap (λ (z : Logged). z.entries) (log_noted log is) ∙ sym ended
