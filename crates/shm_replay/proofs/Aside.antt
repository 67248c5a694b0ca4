-- an identity while another one makes turns, and the line of a dead agent when the next one begins
use Rattle.std.proofs.Common.{◌≡◌, ◌≢◌, ℕ, ◌<◌, Bool, true, false, cond, List, [], ◌∷◌, ◌++◌, length, append_assoc, sym, ap, ◌∙◌, subst, arith}
use Rattle.std.proofs.lemmas.List.{get_or-set_other, get_or-set_same, length-set}
use Rattle.std.specs.Prelude.{slice_set}
use Rattle.shm_words.specs.declared.geometry.Geometry.{Geometry}
use Rattle.shm_graph.specs.declared.{memo.Step.Step, run.{Account.Account, Move.Move}}
use Rattle.shm_graph.specs.{declared.run.{Move.TheVariants.{Word, Dies, Begins}, Start.Start}, Agents.acts, Asks.Trail}
use Rattle.shm_graph.specs.Laws.{Control, step_of}
use Rattle.shm_graph.specs.Runs.{Leads, State, account_after, account_at, account_entered, first_state, moved, told_left}
use Rattle.shm_graph.specs.Tells.{machine_steps}
use Rattle.shm_plain.specs.{Calls.{AreOf, Ran, state_of, words}, Pools.{IsRun, Pool, memo_of, readied}}
use Rattle.shm_plain.specs.Tracks.{kind_next}
use Rattle.shm_replay.specs.Closings.{HasTold}
use Rattle.shm_replay.proofs.Telling.{Grows, grows_then, leads_grows, leads_on, left_first}

-- ---- turns of another identity

moved_aside : (s : State) (m : Move) (c d : ℕ) → AreOf c (m ∷ []) → d ≢ c → account_at (moved s m).accounts d ≡ account_at s.accounts d
moved_aside s (Word t) c d h n = get_or-set_other s.accounts t.me.who d _ _ (λ e. n (e ∙ h.0))
moved_aside s (Begins k x) c d h n = get_or-set_other s.accounts k d _ _ (λ e. n (e ∙ h.0))
moved_aside s (Dies k) c d h n = absurd h

first_of : (c : ℕ) (m : Move) (ms : List Move) → AreOf c (m ∷ ms) → AreOf c (m ∷ []) × AreOf c ms
first_of c (Word t) ms h = ((h.0, tt), h.1)
first_of c (Begins k x) ms h = ((h.0, tt), h.1)
first_of c (Dies k) ms h = absurd h

pub leads_aside : (g : Geometry) (a : State) (ms : List Move) (b : State) (c d : ℕ) → Leads g a ms b → AreOf c ms → d ≢ c → account_at b.accounts d ≡ account_at a.accounts d
leads_aside g a [] b c d run own n = ap (λ (s : State). account_at s.accounts d) (sym run)
leads_aside g a (m ∷ ms) b c d run own n =
    let (now, then) = first_of c m ms own in
    leads_aside g (moved a m) ms b c d run.2 then n ∙ moved_aside a m c d now n

-- the turns that led from the pool p to q
pub leads_between : (p q : Pool) (ms : List Move) → IsRun p → IsRun q → q.start ≡ p.start → q.turns ≡ p.turns ++ ms → Leads p.start.geometry (state_of p) ms (state_of q)
leads_between p q ms before now start grew =
    leads_on p.start.geometry (first_state p.start) p.turns ms (state_of p) (state_of q) before.leads
    (subst (λ (ns : List Move). Leads p.start.geometry (first_state p.start) ns (state_of q)) grew (subst (λ (s : Start). Leads s.geometry (first_state s) q.turns (state_of q)) start now.leads))

-- a call of c leaves what is accounted for of others
pub ran_aside : (c : ℕ) (fresh answered : Bool) (p q : Pool) (x y : ℕ) → IsRun p → Ran c fresh answered p q x y → (d : ℕ) → d ≢ c → account_at q.accounts d ≡ account_at p.accounts d
ran_aside c fresh answered p q x y run h d n = let (es, did) = h.did in leads_aside p.start.geometry (state_of p) did.turns (state_of q) c d (leads_between p q did.turns run h.run h.start did.grew) did.own n

-- ---- the first word step of the agent that comes next

module _ {M A : Type 0} (k : Control M A) (c : ℕ) (p : Pool) (m : M) (q : Pool) (run : IsRun p) (now : IsRun q) (start : q.start ≡ p.start) (l : c < length p.accounts) (still : acts (memo_of p c) ≡ false) (me : (k.me m).who ≡ c) (fresh : k.fresh m ≡ true) where
  abbrev e : Account
  e = account_at p.accounts c

  abbrev begins : Move
  begins = Begins c (kind_next (memo_of p c))

  ready : (readied p c).turns ≡ p.turns ++ begins ∷ []
  ready = ap (λ (b : Bool). cond b p.turns (p.turns ++ begins ∷ [])) still

  begun : account_at (moved (state_of p) begins).accounts c ≡ account_entered (kind_next (memo_of p c)) e
  begun = get_or-set_same p.accounts c _ _ l

  -- by the first word step the line is told
  module _ (n : ℕ) where
    abbrev t : Step
    t = step_of k m n

    abbrev entered : State
    entered = moved (state_of p) begins

    abbrev b : State
    b = moved entered (Word t)

    account_is : account_at b.accounts c ≡ account_after (account_entered (kind_next (memo_of p c)) e) t
    account_is =
        let long : c < length entered.accounts = subst (λ (n : ℕ). c < n) (sym (length-set p.accounts c (account_entered (kind_next (memo_of p c)) e))) l in
        ap (λ (d : ℕ). account_at (slice_set entered.accounts d (account_after (account_at entered.accounts d) t)) c) me
        ∙ (get_or-set_same entered.accounts c (account_after (account_at entered.accounts c) t) _ long ∙ ap (λ (x : Account). account_after x t) begun)

    told : Grows (told_left true e) (account_at b.accounts c).told
    told =
        subst (λ (x : Account). Grows (told_left true e) x.told) (sym account_is)
        (subst (λ (f : Bool). Grows (told_left f (account_entered (kind_next (memo_of p c)) e)) (account_after (account_entered (kind_next (memo_of p c)) e) t).told) fresh (left_first (account_entered (kind_next (memo_of p c)) e) t))

  pub told_first : (tr : Trail) → 0 < length tr → q.turns ≡ (readied p c).turns ++ words (machine_steps k m tr) → HasTold e (account_at q.accounts c)
  told_first [] some grew = absurd (omega arith)
  told_first (x ∷ tr) some grew =
      let rest = words (machine_steps k (k.after m x.word) tr) in
      let all : q.turns ≡ p.turns ++ (begins ∷ Word (step_of k m x.word) ∷ rest) =
      grew ∙ (ap (λ (ms : List Move). ms ++ (Word (step_of k m x.word) ∷ rest)) ready ∙ append_assoc p.turns (begins ∷ []) (Word (step_of k m x.word) ∷ rest)) in
      let led = leads_between p q (begins ∷ Word (step_of k m x.word) ∷ rest) run now start all in
      grows_then (told_left true e) (account_at (b x.word).accounts c).told (account_at q.accounts c).told (told x.word)
      (leads_grows p.start.geometry (b x.word) rest (state_of q) led.2.2 c)
