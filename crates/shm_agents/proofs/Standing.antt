-- what follows of the agents of a script that stand in a pool
use Rattle.std.proofs.Common.{◌≡◌, ◌≢◌, ℕ, zero, suc, ◌+◌, ◌-◌, ◌<◌, ◌≤◌, Bool, true, false, cond, min, List, [], ◌∷◌, ◌++◌, map, length, refl, sym, ap, ◌∙◌, arith, inl, inr}
use Rattle.std.proofs.{Math.Nat.min-eq_left, lemmas.{Bool.{cond-false, cond-true, true≢false}, List.length-append}}
use Rattle.std.proofs.lemmas.Option.{get_or_from_slice_get}
use Rattle.std.specs.{Prelude.{◌⊎◌, Option, Some, None, slice_get, slice_index}, Option.option_map}
use Rattle.shm_graph.specs.declared.{ask.Me.Me, memo.{Agent.Agent, Fate.{Fate, TheVariants.{Acts, Ended, Died}}}}
use Rattle.shm_graph.specs.declared.{memo.Kind.TheVariants.{Client, Recoverer}, run.{Account.Account, Start.Start}}
use Rattle.shm_graph.specs.{Agents.{acts, acts_by, is_acting, last_agent}, Runs.{fell_by, is_dead}, Tells.after_all}
use Rattle.shm_graph.proofs.Memos.MemoSteps.{last-append}
use Rattle.shm_recover.specs.Recover.Control.{recover_line}
use Rattle.shm_script.specs.{declared.{line.Line.Line, log.Entry.Entry}, Values.Scripted}
use Rattle.shm_agents.specs.declared.agents.Standing.TheVariants.{AtWork, Dead}
use Rattle.shm_agents.specs.Agents.{Fallen, Fresh, IsFallen, IsFresh, IsMending, IsPlaying, Mended, Mending, Parted, Playing, Plays, Stage, AgentsStand, behind}
use Rattle.shm_agents.specs.Turns.{agent_of, answered_of, begun_last, ended_by, first_of, is_ended, life_of, lives_of, next_by, over_first, steps_by, steps_of_agent, work_at}
use Rattle.shm_agents.specs.Work.{Work, commanding, join_work, leave_work, recover_work, work_control, work_of}

-- ---- lists

pub index_get : (xs : List ℕ) (i v : ℕ) → slice_get xs i ≡ Some v → slice_index xs i ≡ v
index_get xs i v e = get_or_from_slice_get xs i v 0 e

-- what the last agent has begun
pub last_begun : (bs : List (List (List ℕ))) (b : List (List ℕ)) → begun_last (bs ++ b ∷ []) ≡ length b
last_begun [] b = refl
last_begun (d ∷ []) b = refl
last_begun (d ∷ f ∷ bs) b = last_begun (f ∷ bs) b

-- ---- the last agent

fate_quiet : (f : Fate) → is_dead f ≡ true → is_acting f ≡ false
fate_quiet Acts e = absurd (true≢false (sym e))
fate_quiet Ended e = absurd (true≢false (sym e))
fate_quiet Died e = refl

fate_dead : (f : Fate) → is_dead f ≡ true → is_ended f ≡ false
fate_dead Acts e = absurd (true≢false (sym e))
fate_dead Ended e = absurd (true≢false (sym e))
fate_dead Died e = refl

-- one that died does not act, and did not end
pub fell_quiet : (o : Option Agent) → fell_by o ≡ true → acts_by o ≡ false
fell_quiet None e = absurd (true≢false (sym e))
fell_quiet (Some a) e = fate_quiet a.fate e

pub fell_dead : (o : Option Agent) → fell_by o ≡ true → ended_by o ≡ false
fell_dead None e = absurd (true≢false (sym e))
fell_dead (Some a) e = fate_dead a.fate e

-- ---- what comes behind the client

pub later_work : (me : Me) (lines : List Line) (n : ℕ) → 0 < n → work_of me lines n ≡ recover_work me ∷ []
later_work me lines zero l = absurd (omega arith)
later_work me lines (suc n) l = refl

pub later_first : (me : Me) (n : ℕ) → 0 < n → first_of me n ≡ recover_work me
later_first me zero l = absurd (omega arith)
later_first me (suc n) l = refl

-- what comes behind its commands
behind_get : (me : Me) (ls : List Line) (k : ℕ) → k ≤ length ls → slice_get (map (commanding me) ls ++ leave_work me ∷ []) k ≡ Some (behind me ls k)
behind_get me [] zero l = refl
behind_get me [] (suc k) l = absurd (omega arith)
behind_get me (line ∷ ls) zero l = refl
behind_get me (line ∷ ls) (suc k) l = behind_get me ls k (omega arith)

-- ---- what is to be done next, by whether an agent acts

module _ (me : Me) (s : Scripted) (e : Account) where
  -- what the next agent begins with, if there is one
  abbrev comes : ℕ → Option Work
  comes n = option_map (λ (life : ℕ). first_of me n) (slice_get (lives_of s.life) n)

  -- what is to be done where none acts
  abbrev else_comes : Option Work
  else_comes = cond (ended_by (last_agent e.memo.agents)) None (comes (agent_of e.memo))

  pub next_acting : (n : ℕ) → acts e.memo ≡ true → agent_of e.memo ≡ n → next_by me s e ≡ work_at (work_of me s.lines n) e
  next_acting n act at =
      cond-true (acts e.memo) (work_at (work_of me s.lines (agent_of e.memo)) e) else_comes act
      ∙ ap (λ (k : ℕ). work_at (work_of me s.lines k) e) at

  pub next_coming : (n : ℕ) → acts e.memo ≡ false → ended_by (last_agent e.memo.agents) ≡ false → agent_of e.memo ≡ n → next_by me s e ≡ comes n
  next_coming n act over at =
      cond-false (acts e.memo) (work_at (work_of me s.lines (agent_of e.memo)) e) else_comes act
      ∙ (cond-false (ended_by (last_agent e.memo.agents)) None (comes (agent_of e.memo)) over ∙ ap comes at)

  pub next_ended : acts e.memo ≡ false → ended_by (last_agent e.memo.agents) ≡ true → next_by me s e ≡ None
  next_ended act over =
      cond-false (acts e.memo) (work_at (work_of me s.lines (agent_of e.memo)) e) else_comes act
      ∙ cond-true (ended_by (last_agent e.memo.agents)) None (comes (agent_of e.memo)) over

  -- within the last work, where that is not over
  pub within : (ws : List Work) (n : ℕ) (m : Work) → e.memo.over ≡ false → begun_last e.begun - 1 ≡ n → slice_get ws n ≡ Some m → work_at ws e ≡ Some (after_all work_control m e.memo.call)
  within ws n m over begun is =
      cond-false e.memo.over (slice_get ws (begun_last e.begun)) (option_map (λ (z : Work). after_all work_control z e.memo.call) (slice_get ws (begun_last e.begun - 1))) over
      ∙ (ap (λ (k : ℕ). option_map (λ (z : Work). after_all work_control z e.memo.call) (slice_get ws k)) begun
      ∙ ap (option_map (λ (z : Work). after_all work_control z e.memo.call)) is)

  -- at the next one, where it is
  behind_last : (ws : List Work) (n : ℕ) (m : Work) → e.memo.over ≡ true → begun_last e.begun ≡ n → slice_get ws n ≡ Some m → work_at ws e ≡ Some m
  behind_last ws n m over begun is =
      cond-true e.memo.over (slice_get ws (begun_last e.begun)) (option_map (λ (z : Work). after_all work_control z e.memo.call) (slice_get ws (begun_last e.begun - 1))) over
      ∙ (ap (slice_get ws) begun ∙ is)

-- ---- agents of which one acts or comes next

-- its number, its word steps and its work are those that the account tells
pub record IsNow (s : Scripted) (x : Playing) (e : Account) : Type 0 where
  pub agent : agent_of e.memo ≡ x.agent
  pub life : life_of s e.memo ≡ x.life.left
  pub next : next_by x.me s e ≡ Some x.work

-- the word steps that are left of a life
left_of : (s : Scripted) (x : Playing) (e : Account) (made : ℕ) → agent_of e.memo ≡ x.agent → steps_of_agent e.memo ≡ made → slice_get (lives_of s.life) x.agent ≡ Some (x.life.left + made) → life_of s e.memo ≡ x.life.left
left_of s x e made at steps life =
    let whole : slice_index (lives_of s.life) (agent_of e.memo) ≡ x.life.left + made = ap (slice_index (lives_of s.life)) at ∙ index_get (lives_of s.life) x.agent (x.life.left + made) life in
    omega arith

fresh_now : (start : Start) (s : Scripted) (x : Playing) (e : Account) → IsFresh start s x e → IsNow s x e
fresh_now start s x e h =
    let at : agent_of e.memo ≡ x.agent = ap (λ (a : Account). agent_of a.memo) h.account ∙ sym h.agent in
    let steps : steps_of_agent e.memo ≡ 0 = ap (λ (a : Account). steps_of_agent a.memo) h.account in
    let zero_more : x.life.left ≡ x.life.left + 0 = omega arith in
    record {
      agent = at;
      life = left_of s x e 0 at steps (ap (slice_get (lives_of s.life)) h.agent ∙ (h.life ∙ ap Some zero_more));
      next = ap (next_by x.me s) h.account ∙ (ap (option_map (λ (life : ℕ). join_work x.me)) h.life ∙ ap Some (sym h.work));
    }

module _ (s : Scripted) (x : Playing) (e : Account) (h : IsPlaying s x e) where
  abbrev many : ℕ
  many = length x.entries

  abbrev now : Work
  now = behind x.me s.lines many

  abbrev work : List Work
  work = work_of x.me s.lines 0

  abbrev fresh : Bool
  fresh = work_control.fresh x.work

  last_is : last_agent e.memo.agents ≡ Some (record { kind = Client; steps = h.steps; fate = Acts })
  last_is = ap last_agent h.agents

  playing_acts : acts e.memo ≡ true
  playing_acts = ap acts_by last_is

  -- how many pieces of work it has begun
  pub playing_begun : (b : Bool) → fresh ≡ b → begun_last e.begun ≡ cond b (many + 1) (many + 2)
  playing_begun b f = ap begun_last h.is_begun ∙ (h.many ∙ ap (λ (z : Bool). cond z (many + 1) (many + 2)) f)

  here : slice_get work (suc many) ≡ Some now
  here = behind_get x.me s.lines many h.few

  playing_next : work_at work e ≡ Some x.work
  playing_next = go fresh refl
    where
      go : (b : Bool) → fresh ≡ b → work_at work e ≡ Some x.work
      go true f =
          let count : begun_last e.begun ≡ suc many = (let c = playing_begun true f in omega arith) in
          behind_last x.me s e work (suc many) now (h.over ∙ f) count here
          ∙ ap Some (ap (λ (z : Bool). after_all work_control now (cond z [] e.memo.call)) (sym f) ∙ h.course)
      go false f =
          let count : begun_last e.begun - 1 ≡ suc many = (let c = playing_begun false f in omega arith) in
          within x.me s e work (suc many) now (h.over ∙ f) count here
          ∙ ap Some (ap (λ (z : Bool). after_all work_control now (cond z [] e.memo.call)) (sym f) ∙ h.course)

  playing_over : over_first e ≡ many + 1
  playing_over = go fresh refl
    where
      go : (b : Bool) → fresh ≡ b → over_first e ≡ many + 1
      go true f = cond-true e.memo.over (begun_last e.begun) (begun_last e.begun - 1) (h.over ∙ f) ∙ playing_begun true f
      go false f = cond-false e.memo.over (begun_last e.begun) (begun_last e.begun - 1) (h.over ∙ f) ∙ (let c = playing_begun false f in omega arith)

  playing_now : IsNow s x e
  playing_now =
      let at : agent_of e.memo ≡ 0 = ap (λ (xs : List Agent). cond (acts_by (last_agent xs)) (length xs - 1) (length xs)) h.agents in
      let steps : steps_of_agent e.memo ≡ h.steps = cond-true (acts e.memo) (steps_by (last_agent e.memo.agents)) 0 playing_acts ∙ ap steps_by last_is in
      record {
        agent = at ∙ sym h.agent;
        life = left_of s x e h.steps (at ∙ sym h.agent) steps (ap (slice_get (lives_of s.life)) h.agent ∙ h.life);
        next = next_acting x.me s e 0 playing_acts at ∙ playing_next;
      }

module _ (s : Scripted) (x : Playing) (e : Account) (h : IsMending s x e) where
  abbrev mender : Agent
  mender = record { kind = Recoverer; steps = h.steps; fate = Acts }

  mender_last : last_agent e.memo.agents ≡ Some mender
  mender_last = ap last_agent h.agents ∙ last-append h.before mender

  mender_acts : acts e.memo ≡ true
  mender_acts = ap acts_by mender_last

  mending_next : work_at (recover_work x.me ∷ []) e ≡ Some x.work
  mending_next =
      let count : begun_last e.begun - 1 ≡ 0 = ap (λ bs. begun_last bs - 1) h.is_begun ∙ ap (λ (k : ℕ). k - 1) (last_begun h.begun (recover_line ∷ [])) in
      within x.me s e (recover_work x.me ∷ []) 0 (recover_work x.me) h.over count refl ∙ ap Some h.course

  mending_now : IsNow s x e
  mending_now =
      let long : length e.memo.agents ≡ length h.before + 1 = ap length h.agents ∙ length-append h.before (mender ∷ []) in
      let many : length h.before ≡ x.agent = h.many in
      let at : agent_of e.memo ≡ x.agent = cond-true (acts e.memo) (length e.memo.agents - 1) (length e.memo.agents) mender_acts ∙ (omega arith) in
      let steps : steps_of_agent e.memo ≡ h.steps = cond-true (acts e.memo) (steps_by (last_agent e.memo.agents)) 0 mender_acts ∙ ap steps_by mender_last in
      record {
        agent = at;
        life = left_of s x e h.steps at steps h.life;
        next = next_acting x.me s e x.agent mender_acts at ∙ (ap (λ (ws : List Work). work_at ws e) (later_work x.me s.lines x.agent h.some) ∙ mending_next);
      }

module _ (s : Scripted) (x : Playing) (e : Account) (h : IsFallen s x e) where
  fallen_quiet : acts e.memo ≡ false
  fallen_quiet = fell_quiet (last_agent e.memo.agents) h.fell

  fallen_at : agent_of e.memo ≡ x.agent
  fallen_at = cond-false (acts e.memo) (length e.memo.agents - 1) (length e.memo.agents) fallen_quiet ∙ h.many

  fallen_next : next_by x.me s e ≡ comes x.me s e x.agent
  fallen_next = next_coming x.me s e x.agent fallen_quiet (fell_dead (last_agent e.memo.agents) h.fell) fallen_at

  -- another one comes
  fallen_now : slice_get (lives_of s.life) x.agent ≡ Some x.life.left → x.work ≡ recover_work x.me → IsNow s x e
  fallen_now life is =
      let zero_more : x.life.left ≡ x.life.left + 0 = omega arith in
      record {
        agent = fallen_at;
        life = left_of s x e 0 fallen_at (cond-false (acts e.memo) (steps_by (last_agent e.memo.agents)) 0 fallen_quiet) (life ∙ ap Some zero_more);
        next = fallen_next ∙ (ap (option_map (λ (n : ℕ). first_of x.me x.agent)) life ∙ ap Some (later_first x.me x.agent h.some ∙ sym is));
      }

  -- none comes
  fallen_last : slice_get (lives_of s.life) x.agent ≡ None → next_by x.me s e ≡ None
  fallen_last none = fallen_next ∙ ap (option_map (λ (n : ℕ). first_of x.me x.agent)) none

fallen_here : (s : Scripted) (x : Playing) (e : Account) → IsFallen s x e → x.standing ≡ AtWork → ((x.standing ≡ Dead) × (slice_get (lives_of s.life) x.agent ≡ None)) ⊎ ((x.standing ≡ AtWork) × (slice_get (lives_of s.life) x.agent ≡ Some x.life.left) × (x.work ≡ recover_work x.me)) → IsNow s x e
fallen_here s x e f here (inl d) = absurd (let dead = d.0 in cc)
fallen_here s x e f here (inr w) = fallen_now s x e f w.1 w.2

fallen_still : (s : Scripted) (x : Playing) (e : Account) → IsFallen s x e → x.standing ≢ AtWork → ((x.standing ≡ Dead) × (slice_get (lives_of s.life) x.agent ≡ None)) ⊎ ((x.standing ≡ AtWork) × (slice_get (lives_of s.life) x.agent ≡ Some x.life.left) × (x.work ≡ recover_work x.me)) → next_by x.me s e ≡ None
fallen_still s x e f rest (inl d) = fallen_last s x e f d.1
fallen_still s x e f rest (inr w) = absurd (rest w.0)

-- agents of which one acts or comes next
pub stands_now : (start : Start) (s : Scripted) (x : Playing) (e : Account) → AgentsStand start s x e → x.standing ≡ AtWork → IsNow s x e
stands_now start s x e h here = go h.stage
  where
    go : Stage start s x e → IsNow s x e
    go (Fresh f) = fresh_now start s x e f
    go (Plays p) = playing_now s x e p
    go (Parted p) = absurd (let left = p.left in cc)
    go (Mended p l) = absurd (let gone = p.recovered in cc)
    go (Mending p l) = mending_now s x e p
    go (Fallen f l) = fallen_here s x e f here f.next

-- ---- agents of which none does

ended_next : (s : Scripted) (x : Playing) (e : Account) (a : Agent) → last_agent e.memo.agents ≡ Some a → a.fate ≡ Ended → next_by x.me s e ≡ None
ended_next s x e a is over =
    next_ended x.me s e (ap acts_by is ∙ ap is_acting over) (ap ended_by is ∙ ap is_ended over)

-- nothing is left to do where the identity is gone, or all of them died
pub stands_still : (start : Start) (s : Scripted) (x : Playing) (e : Account) → AgentsStand start s x e → x.standing ≢ AtWork → next_by x.me s e ≡ None
stands_still start s x e h rest = go h.stage
  where
    go : Stage start s x e → next_by x.me s e ≡ None
    go (Fresh f) = absurd (rest f.here)
    go (Plays p) = absurd (rest p.here)
    go (Mending p l) = absurd (rest p.here)
    go (Parted p) = ended_next s x e (record { kind = Client; steps = p.steps; fate = Ended }) (ap last_agent p.agents) refl
    go (Mended p l) =
        let a : Agent = record { kind = Recoverer; steps = p.steps; fate = Ended } in
        ended_next s x e a (ap last_agent p.agents ∙ last-append p.before a) refl
    go (Fallen f l) = fallen_still s x e f rest f.next

-- ---- the client

-- the client that is at work has not begun, or plays
pub client_stage : (start : Start) (s : Scripted) (x : Playing) (e : Account) → AgentsStand start s x e → x.standing ≡ AtWork → x.agent ≡ 0 → IsFresh start s x e ⊎ IsPlaying s x e
client_stage start s x e h here client = go h.stage
  where
    go : Stage start s x e → IsFresh start s x e ⊎ IsPlaying s x e
    go (Fresh f) = inl f
    go (Plays p) = inr p
    go (Parted p) = absurd (let left = p.left in cc)
    go (Mended p l) = absurd (let gone = p.recovered in cc)
    go (Mending p l) = absurd (let some = p.some in omega arith)
    go (Fallen p l) = absurd (let some = p.some in omega arith)

-- how many of its commands have answered
pub stands_answered : (start : Start) (s : Scripted) (x : Playing) (e : Account) → AgentsStand start s x e → x.standing ≡ AtWork → x.agent ≡ 0 → answered_of (Some s) e ≡ length x.entries
stands_answered start s x e h here client = go (client_stage start s x e h here client)
  where
    go : IsFresh start s x e ⊎ IsPlaying s x e → answered_of (Some s) e ≡ length x.entries
    go (inl f) = ap (answered_of (Some s)) f.account ∙ (min-eq_left (let z : 0 ≤ length s.lines = omega arith in z) ∙ ap (λ (es : List Entry). length es) (sym f.entries))
    go (inr p) =
        ap (λ (k : ℕ). min (k - 1) (length s.lines)) (playing_over s x e p)
        ∙ (let k : length x.entries + 1 - 1 ≡ length x.entries = omega arith in ap (λ (k : ℕ). min k (length s.lines)) k ∙ min-eq_left p.few)
