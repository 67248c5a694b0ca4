-- a turn that a replay gives to the agents of a script
use Rattle.std.proofs.Common.{◌≡◌, ◌≢◌, ℕ, zero, suc, ◌-◌, ◌<◌, Bool, true, false, cond, length, refl, sym, ap, ◌∙◌, subst, arith}
use Rattle.std.proofs.lemmas.List.{get_or-set_other}
use Rattle.std.specs.Prelude.{Some}
use Rattle.shm_graph.specs.declared.{ask.{Life.Life, Me.Me}, memo.{Memo.Memo, Step.Step}, run.Account.Account}
use Rattle.shm_graph.specs.{Agents.acts, Laws.Outcome, Runs.{account_at, account_died, account_entered, changed}}
use Rattle.shm_graph.specs.Whole.{fits_now, gives_now}
use Rattle.plans.specs.Deciding.{Foretells}
use Rattle.shm_plain.specs.Pools.{IsOf, IsRun, Pool, after_fall, memo_of, readied, turn_on, turned}
use Rattle.shm_plain.specs.{Proved.Standing.{named_in, stood_in}, Tracks.kind_next, Working.ready_account}
use Rattle.shm_plain.proofs.PlaceTurning.{fallen_is, may_step, ready_is, turned_is}
use Rattle.shm_plain.proofs.Turning.{fall_run, learned, ready_run, turned_run}
use Rattle.shm_script.specs.Values.{Traced}
use Rattle.shm_table.specs.Command.{command_by, command_control, command_effect}
use Rattle.shm_agents.specs.{declared.agents.Standing.TheVariants.AtWork, Agents.{AgentsStand, Playing}}
use Rattle.shm_agents.specs.Work.{WorkFits, WorkGives, work_control}
use Rattle.shm_agents.proofs.{Deaths.{IsSpent, acting}, Dying.CommandMaps}
use Rattle.shm_agents.proofs.Turning as turning
use Rattle.shm_replay.specs.{Seats.IsSeat, Turns.worked}
use Rattle.shm_replay.proofs.Seating.{seat_after, seat_of}
use Rattle.shm_effects.proofs.Along.{keeps}
use Rattle.shm_effects.proofs.Falls as falls
use Rattle.shm_effects.proofs.Steps as steps

-- the pool q comes from p by a turn of the agents of d
pub record IsTurn (t : Traced) (p q : Pool) (d : ℕ) : Type 0 where
  pub next : Playing
  pub seat : IsSeat t q d next
  pub run : IsRun q
  pub start : q.start ≡ p.start
  pub others : (e : ℕ) → e ≢ d → account_at q.accounts e ≡ account_at p.accounts e

module _ (maps : CommandMaps) (tells : Foretells command_control (λ a. a) command_effect command_by) (t : Traced) (p : Pool) (run : IsRun p) (d : ℕ) (l : d < p.start.geometry.clients) (y : Playing) (h : IsSeat t p d y) (here : y.standing ≡ AtWork) where
  abbrev e : Account
  e = account_at p.accounts d

  long : d < length p.accounts
  long = subst (λ (n : ℕ). d < n) (sym run.held.accounts) l

  who : y.me.who ≡ d
  who = ap (λ (m : Me). m.who) h.me

  -- ---- a word step

  module _ (some : 0 < y.life.left) where
    abbrev r : Pool
    r = readied p d

    abbrev step : Step
    step = turn_on r work_control y.work

    abbrev q : Pool
    q = turned r step

    ready : IsRun r × (acts (memo_of r d) ≡ true)
    ready = ready_run p d run l (may_step p d (turning.may_step p.start h.script y e h.stands.may here h.stands.stage))

    of : IsOf r d work_control y.work
    of = seat_of t p d y h here

    memo_is : memo_of r d ≡ (ready_account e).memo
    memo_is = ap (λ (a : Account). a.memo) (ready_is p d long)

    fit : (r0 : Memo) × fits_now work_control WorkFits y.work r0 (memo_of r d)
    fit =
        let f = turning.fits p.start h.script y e h.stands.may here h.stands.stage in
        (f.0, subst (fits_now work_control WorkFits y.work f.0) (sym memo_is) f.1)

    made : IsRun q
    made = turned_run work_control (fits_now work_control WorkFits) (gives_now WorkGives) keeps r d y.work fit.0 ready.0 ready.1 of fit.1

    learns : (r0 : Memo) → fits_now work_control WorkFits y.work r0 (ready_account e).memo → Outcome (work_control.turns y.work step.seen) (fits_now work_control WorkFits (work_control.after y.work step.seen) r0 (memo_of q d)) (gives_now WorkGives y.work r0 (memo_of q d))
    learns r0 f = learned work_control (fits_now work_control WorkFits) (gives_now WorkGives) keeps r d y.work ready.0 of r0 (subst (fits_now work_control WorkFits y.work r0) (sym memo_is) f)

    step_who : step.me.who ≡ d
    step_who = ap (λ (m : Me). m.who) of.0

    abbrev life : Life
    life = record { left = y.life.left - 1 }

    turn : steps.Turned maps tells p.start h.script y e h.stands (stood_in p run d l) here (account_at q.accounts d) step.seen (turned_is p d long step step_who) (stood_in q made d l) (named_in q made d l ∙ sym who) life (let z = some in omega arith) learns p.words r.accounts ready.0.held (subst (λ (n : ℕ). memo_of r n ≡ (ready_account e).memo) (sym who) memo_is)
    turn = steps.turned maps tells p.start h.script y e h.stands (stood_in p run d l) here (account_at q.accounts d) step.seen (turned_is p d long step step_who) (stood_in q made d l) (named_in q made d l ∙ sym who) life (let z = some in omega arith) learns p.words r.accounts ready.0.held (subst (λ (n : ℕ). memo_of r n ≡ (ready_account e).memo) (sym who) memo_is)

    aside : (k : ℕ) → k ≢ d → account_at q.accounts k ≡ account_at p.accounts k
    aside k other = get_or-set_other r.accounts step.me.who k _ _ (λ z. other (z ∙ step_who)) ∙ go (acts e.memo)
      where
        go : (b : Bool) → account_at (cond b p.accounts (changed (account_entered (kind_next e.memo)) p.accounts d)) k ≡ account_at p.accounts k
        go true = refl
        go false = get_or-set_other p.accounts d k _ _ other

    pub word_turn : IsTurn t p q d
    word_turn =
        record {
          next = turn.agents;
          seat = seat_after t p q d y turn.agents h.script h h.at refl turn.me turn.script turn.stands;
          run = made;
          start = refl;
          others = aside;
        }

  -- ---- a death

  module _ (spent : y.life.left ≡ 0) where
    is_spent : IsSpent p.start h.script y e
    is_spent = record { stood = stood_in p run d l; stands = h.stands; here = here; spent = spent }

    acts_now : acts e.memo ≡ true
    acts_now = acting p.start h.script y e is_spent

    abbrev dead : Pool
    dead = after_fall p d

    fell : falls.Fell maps p.start h.script y e is_spent
    fell = falls.fell maps p.start h.script y e is_spent

    beside : (k : ℕ) → k ≢ d → account_at dead.accounts k ≡ account_at p.accounts k
    beside k other = go (acts e.memo)
      where
        go : (b : Bool) → account_at (cond b (changed account_died p.accounts d) p.accounts) k ≡ account_at p.accounts k
        go true = get_or-set_other p.accounts d k _ _ other
        go false = refl

    pub death_turn : IsTurn t p dead d
    death_turn =
        record {
          next = fell.after;
          seat = seat_after t p dead d y fell.after h.script h h.at refl fell.me fell.script (subst (AgentsStand p.start h.script fell.after) (sym (fallen_is p d long acts_now)) fell.stands);
          run = fall_run p d run l;
          start = refl;
          others = beside;
        }

  -- the turn that the agents take
  pub taken : IsTurn t p (worked (Some y.work) y.life.left d p) d
  taken = go y.life.left refl
    where
      go : (n : ℕ) → y.life.left ≡ n → IsTurn t p (worked (Some y.work) n d p) d
      go zero is = death_turn is
      go (suc n) is = word_turn (let z = is in omega arith)
