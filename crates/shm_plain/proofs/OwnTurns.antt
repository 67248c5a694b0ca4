-- the turns by which a machine made a pool grow, and the events among them
use Rattle.std.proofs.Common.{◌≡◌, ◌==◌, ℕ, ◌<◌, Bool, true, false, cond, List, [], ◌∷◌, ◌++◌, append_assoc, append-nil, refl, sym, ap, ◌∙◌, subst}
use Rattle.std.proofs.lemmas.Bool.{cond-true, eq-eqb}
use Rattle.std.specs.List.{filter}
use Rattle.shm_words.specs.declared.geometry.Geometry.{Geometry}
use Rattle.shm_graph.specs.declared.{ask.Me.Me, memo.{Kind.Kind, Memo.Memo, Seen.Seen, Step.Step}, run.Account.Account}
use Rattle.shm_graph.specs.{declared.run.{Move.{Move, TheVariants.Begins}, Start.Start}, Agents.acts}
use Rattle.shm_graph.specs.{Asks.{Trail, call_before}, CallEvents.{IsUnbroken, events_in, steps_in}, Events.Event}
use Rattle.shm_graph.specs.Laws.{Control, Laws, Steady, step_of}
use Rattle.shm_graph.specs.Runs.{Leads, State, account_entered, changed, first_state, moved}
use Rattle.shm_graph.specs.{Tells.{GoesOn, Tells, happens_along, is_event, machine_steps, tells_along}, Whole.fits_now}
use Rattle.shm_graph.proofs.Runs.OwnEvents.{own_told}
use Rattle.shm_plain.specs.Pools.{Pool, pool, IsOf, IsRun, MayStep, memo_of, readied}
use Rattle.shm_plain.specs.{Calls.{AreOf, Did, TookSteps, state_of, words}, Tracks.kind_next}
use Rattle.shm_plain.proofs.Turning.{ready_run}

-- what leads on from where a run ends
pub leads_after : (g : Geometry) (a : State) (ms ns : List Move) (b d : State) → Leads g a ms b → Leads g a (ms ++ ns) d → Leads g b ns d
leads_after g a [] ns b d run all = subst (λ (s : State). Leads g s ns d) run all
leads_after g a (m ∷ ms) ns b d run all = leads_after g (moved a m) ms ns b d run.2 all.2

-- word steps break nothing off
unbroken : (c : ℕ) (ts : List Step) → IsUnbroken c (words ts)
unbroken c [] = tt
unbroken c (t ∷ ts) = unbroken c ts

-- the pool did nothing
pub did_none : (c : ℕ) (p q : Pool) → q ≡ p → Did c p q []
did_none c p q e = record { turns = []; grew = ap (λ (z : Pool). z.turns) e ∙ sym (append-nil p.turns); own = tt; events = refl }

module _ {M A : Type 0} (k : Control M A) (steady : Steady k) (g : Geometry) (c : ℕ) where
  abbrev me : Me
  me = record { geometry = g; who = c }

  -- the machine's steps are of c
  steps_own : (m : M) (tr : Trail) → k.me m ≡ me → GoesOn k m tr → AreOf c (words (machine_steps k m tr))
  steps_own m [] e on = tt
  steps_own m (x ∷ []) e on = (ap (λ (z : Me). z.who) e, tt)
  steps_own m (x ∷ y ∷ tr) e on = (ap (λ (z : Me). z.who) e, steps_own (k.after m x.word) (y ∷ tr) ((steady m x.word on.0).same_me ∙ e) on.1.1)

  -- and those of c among the turns
  here : (m : M) (x : Seen) (ms : List Move) → k.me m ≡ me → cond ((step_of k m x.word).me.who == c) (step_of k m x.word ∷ steps_in c ms) (steps_in c ms) ≡ step_of k m x.word ∷ steps_in c ms
  here m x ms e = cond-true _ (step_of k m x.word ∷ steps_in c ms) (steps_in c ms) (eq-eqb (k.me m).who c (ap (λ (z : Me). z.who) e))

  steps_same : (m : M) (tr : Trail) → k.me m ≡ me → GoesOn k m tr → steps_in c (words (machine_steps k m tr)) ≡ machine_steps k m tr
  steps_same m [] e on = refl
  steps_same m (x ∷ []) e on = here m x [] e
  steps_same m (x ∷ y ∷ tr) e on =
      here m x (words (machine_steps k (k.after m x.word) (y ∷ tr))) e
      ∙ ap (λ (ts : List Step). step_of k m x.word ∷ ts) (steps_same (k.after m x.word) (y ∷ tr) ((steady m x.word on.0).same_me ∙ e) on.1.1)

module _ {M A : Type 0} (k : Control M A) (c : ℕ) (p q : Pool) (m : M) where
  abbrev g : Geometry
  g = p.start.geometry

  abbrev r : Pool
  r = readied p c

  -- the pool grew by the turns of the machine, after the beginning of an agent where none acted
  grown : (steady : Steady k) → IsOf p c k m → (t : TookSteps k c p m q) → (es : List Event) → filter is_event (events_in g c (state_of r) (words (machine_steps k m t.trail))) ≡ es → Did c p q es
  grown steady of t es told = go (acts (memo_of p c)) t.grew told
    where
      ms : List Move
      ms = words (machine_steps k m t.trail)

      kind : Kind
      kind = kind_next (memo_of p c)

      es' : List Account
      es' = changed (account_entered kind) p.accounts c

      own : AreOf c ms
      own = steps_own k steady g c m t.trail of.0 t.goes

      go : (b : Bool) → q.turns ≡ cond b p.turns (p.turns ++ Begins c kind ∷ []) ++ ms → filter is_event (events_in g c (state_of (pool p.start p.words (cond b p.accounts es') [])) ms) ≡ es → Did c p q es
      go true e f = record { turns = ms; grew = e; own = own; events = f }
      go false e f = record { turns = Begins c kind ∷ ms; grew = e ∙ append_assoc p.turns (Begins c kind ∷ []) ms; own = (refl, own); events = f }

  -- by turns of c, with some events
  pub took_grew : Steady k → IsOf p c k m → TookSteps k c p m q → (es : List Event) × Did c p q es
  took_grew steady of t = (filter is_event (events_in g c (state_of r) (words (machine_steps k m t.trail))), grown steady of t _ refl)

  module _ (fits : M → Memo → Memo → Trail → Type 0) (gives : M → Memo → Memo → Trail → A → Type 0) (laws : Laws k fits gives) (does : M → ℕ → Event) (tells : Tells k fits does) where
    -- with those that the machine tells along what it asked
    pub took_did : (r0 : Memo) → IsRun p → IsRun q → q.start ≡ p.start → MayStep p c → IsOf p c k m → fits_now k fits m r0 (memo_of r c) → (t : TookSteps k c p m q) → Did c p q (happens_along k does m t.trail)
    took_did r0 before now start may of fit t =
        let ready : IsRun r = (ready_run p c before of.1 may).0 in
        let ms : List Move = words (machine_steps k m t.trail) in
        let all : Leads g (first_state p.start) (r.turns ++ ms) (state_of q) =
        subst (λ (ns : List Move). Leads g (first_state p.start) ns (state_of q)) t.grew (subst (λ (s : Start). Leads s.geometry (first_state s) q.turns (state_of q)) start now.leads) in
        let leads : Leads g (state_of r) ms (state_of q) = leads_after g (first_state p.start) r.turns ms (state_of r) (state_of q) ready.leads all in
        let told : events_in g c (state_of r) ms ≡ tells_along k does m t.trail =
        own_told k fits gives laws does tells g c (state_of r) ms (state_of q) m r0 t.trail of.0 of.1 (subst (λ (n : ℕ). c < n) (sym ready.held.accounts) of.1) ready.held (unbroken c (machine_steps k m t.trail)) leads fit t.goes
        (steps_same k laws.steady g c m t.trail of.0 t.goes) in
        grown laws.steady of t (happens_along k does m t.trail) (ap (filter is_event) told)

    -- where it had made no step, that is its call
    pub called_did : (r0 : Memo) → IsRun p → IsRun q → q.start ≡ p.start → MayStep p c → IsOf p c k m → fits_now k fits m r0 (memo_of r c) → k.fresh m ≡ true → TookSteps k c p m q → Did c p q (happens_along k does m (memo_of q c).call)
    called_did r0 before now start may of fit fresh t =
        let same : (memo_of q c).call ≡ t.trail = t.call ∙ ap (λ (b : Bool). call_before b (memo_of r c).call ++ t.trail) fresh in
        subst (λ (tr : Trail). Did c p q (happens_along k does m tr)) (sym same) (took_did r0 before now start may of fit t)
