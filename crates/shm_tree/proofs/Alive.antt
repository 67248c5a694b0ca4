-- A client that is at work after a call as it was before, and one whose call was cut off.
use Rattle.std.proofs.Common.{◌≡◌, ℕ, zero, suc, ◌+◌, ◌<◌, ◌≤◌, Bool, true, false, List, [], ◌∷◌, ◌++◌, length, refl, sym, ap, ◌∙◌, subst, arith, inl, inr, ◌⊎◌, true≢false}
use Rattle.std.proofs.lemmas.List.Elements.{All-contains}
use Rattle.std.specs.{Prelude.slice_index, List.AllByRecursion}
use Rattle.shm_words.specs.declared.geometry.Geometry.{Geometry}
use Rattle.shm_graph.specs.declared.{memo.Memo.Memo, run.{Move.{Move, TheVariants.{Begins, Dies, Word}}, Start.Start}}
use Rattle.shm_graph.specs.{declared.spot.Spot.TheVariants.{Body, Era, Home, Tag}, Agents.{acts, recovers, steps_made}}
use Rattle.shm_graph.specs.{Changes.{asked_spot, memo_after}, Events.Event, Held.is_loose}
use Rattle.shm_graph.specs.{Runs.{Leads, State, memos_of, moved}, Spots.see, Views.{own_word, view}}
use Rattle.shm_graph.proofs.{Memos.{KnownChange.KnownHolds, MemoSteps.steps_on}, Runs.CallEventsOf.memo_here}
use Rattle.shm_graph.proofs.Runs.EraRises.{run_rises}
use Rattle.shm_plain.specs.{Calls.{AreOf, Did, IsAtWork, Ran, state_of}, Pools.{IsRun, Pool, memo_of, pool}}
use Rattle.shm_plain.proofs.Calling.{ready_still}
use Rattle.shm_count.specs.Tear.Memos.{Knows}
use Rattle.shm_count.proofs.RootSpots.{roots_reached}
use Rattle.shm_tree.specs.{Falling.{AreFalling, KeepsFalling}, Keeping.IsStill}
use Rattle.shm_tree.specs.Working.{AreSameRoots, IsSpent, IsWorking, Went}
use Rattle.shm_tree.proofs.Frames.{UntouchedBy}
use Rattle.shm_tree.proofs.Nodes.{IsCalm, as_started, calm_first, calm_held, home_kept, still_kept, working_calm}
use Rattle.shm_tree.proofs.Turns.{did_leads}

-- ---- a call that was cut off

module _ (p q : Pool) (hp : IsRun p) (who : 0 < p.start.geometry.clients) (acting : acts (memo_of p 0) ≡ true) (same : steps_made (memo_of q 0) ≡ steps_made (memo_of p 0)) where
  -- without a word step of it the client has no turn
  unstepped : (ms : List Move) → AreOf 0 ms → Leads p.start.geometry (state_of p) ms (state_of q) → ms ≡ []
  unstepped [] own l = refl
  unstepped (Begins d k ∷ ms) own l = absurd (true≢false (sym acting ∙ (ap (λ (c : ℕ). acts (memos_of p.accounts c)) (sym own.0) ∙ l.0.1)))
  unstepped (Word t ∷ ms) own l =
      let g : Geometry = p.start.geometry in
      let m : Memo = memo_of p 0 in
      let long : 0 < length p.accounts = subst (λ (n : ℕ). 0 < n) (sym hp.held.accounts) who in
      let here : memos_of (moved (state_of p) (Word t)).accounts 0 ≡ memo_after m t = memo_here p.accounts t 0 own.0 long in
      let one : steps_made (memos_of (moved (state_of p) (Word t)).accounts 0) ≡ steps_made m + 1 = ap steps_made here ∙ steps_on m t (asked_spot m t) acting in
      let rises = run_rises g (moved (state_of p) (Word t)) ms (state_of q) l.1.held l.2 in
      let row = rises.rows 0 0 in
      let more = rises.own 0 who in
      absurd (omega (arith, one, row, more, same))
  unstepped (Dies d ∷ ms) own l = absurd own

-- a call for which no word step was left has no turn
no_turns : (fresh answered : Bool) (p q : Pool) (y : ℕ) → IsWorking p → (r : Ran 0 fresh answered p q 0 y) → r.did.1.turns ≡ []
no_turns fresh true p q y h r = absurd (let l = r.some refl in omega (arith, l))
no_turns fresh false p q y h r =
    let same : steps_made (memo_of q 0) ≡ steps_made (memo_of p 0) = let z = r.died refl in let made = r.made in omega (arith, made, z) in
    unstepped p q h.run h.work.who h.work.acts same r.did.1.turns r.did.1.own (did_leads 0 p q r.did.0 h.run r.run r.start r.did.1)

-- and no event
pub quiet_did : (fresh answered : Bool) (p q : Pool) (y : ℕ) → IsWorking p → Ran 0 fresh answered p q 0 y → Did 0 p q []
quiet_did fresh answered p q y h r = record { turns = []; grew = r.did.1.grew ∙ ap (λ (ms : List Move). p.turns ++ ms) (no_turns fresh answered p q y h r); own = tt; events = refl }

pub went_dead : (fresh : Bool) (p q : Pool) (x y : ℕ) → IsWorking p → Ran 0 fresh false p q x y → (AreFalling p → AreFalling q) → Went p q x y
unfolding KeepsFalling
went_dead fresh p q x y h ran falls = record { start = ran.start; run = ran.run; acts = by x ran; did = ran.did; spent = ran.made; falls = falls }
  where
    by : (n : ℕ) → Ran 0 fresh false p q n y → acts (memo_of q 0) ≡ true
    by zero r =
        let none : Leads p.start.geometry (state_of p) [] (state_of q) = subst (λ (ms : List Move). Leads p.start.geometry (state_of p) ms (state_of q)) (no_turns fresh false p q y h r) (did_leads 0 p q r.did.0 h.run r.run r.start r.did.1) in
        ap (λ (s : State). acts (memos_of s.accounts 0)) (sym none) ∙ h.work.acts
    by (suc n) r = r.cut refl (omega arith)

pub went_alive : (fresh : Bool) (p q : Pool) (x y : ℕ) → Ran 0 fresh true p q x y → IsAtWork 0 q → (AreFalling p → AreFalling q) → Went p q x y
unfolding KeepsFalling
went_alive fresh p q x y r at falls = record { start = r.start; run = r.run; acts = at.acts; did = r.did; spent = r.made; falls = falls }

-- ---- a call that was answered

-- the client is between two calls after it, with these events
pub record IsOn (p q : Pool) (es : List Event) : Type 0 where
  pub working : IsWorking p
  pub at : IsAtWork 0 q
  pub run : IsRun q
  pub start : q.start ≡ p.start
  pub did : Did 0 p q es
  pub kind : recovers (memo_of q 0) ≡ recovers (memo_of p 0)

-- what waits in its queues, and of what kind its pool is
pub record IsQuiet (m r : Memo) : Type 0 where
  pub loose : is_loose r.part ≡ is_loose m.part
  pub unsent : (j : ℕ) → slice_index r.unsent j ≡ slice_index m.unsent j
  pub untaken : (j : ℕ) → slice_index r.untaken j ≡ slice_index m.untaken j

-- no event changes what the home names
abbrev pub IsHomeless : List Event → Type 0
IsHomeless es = AllByRecursion (UntouchedBy (Home 0)) es

pub homeless_is : (es fs : List Event) → es ≡ fs → IsHomeless fs → IsHomeless es
homeless_is es fs e h = subst IsHomeless (sym e) h

pub homeless_none : (es : List Event) → es ≡ [] → IsHomeless es
homeless_none es e = homeless_is es [] e tt

module _ (p q : Pool) (es : List Event) (on : IsOn p q es) where
  pub before : IsCalm p
  before = working_calm p on.working

  pub after : IsCalm q
  after = record { run = on.run; one = ap (λ (s : Start). s.geometry.clients) on.start ∙ on.working.one; idle = on.at.idle.op }

  -- the own era doesn't fall
  era_grows : own_word (memo_of p 0).own (Era 0 0) ≤ own_word (memo_of q 0).own (Era 0 0)
  era_grows =
      let g : Geometry = p.start.geometry in
      let rises = run_rises g (state_of p) on.did.turns (state_of q) on.working.run.held (did_leads 0 p q es on.working.run on.run on.start on.did) in
      let row : see g p.words (Era 0 0) ≤ see g q.words (Era 0 0) = rises.rows 0 0 in
      let a : own_word (memo_of p 0).own (Era 0 0) ≡ see g p.words (Era 0 0) = (calm_held p before).mine 0 (calm_first p before) (Era 0 0) refl in
      let started : IsCalm (pool p.start q.words q.accounts q.turns) = as_started IsCalm p q on.start after in
      let b : own_word (memo_of q 0).own (Era 0 0) ≡ see g q.words (Era 0 0) = (calm_held (pool p.start q.words q.accounts q.turns) started).mine 0 (calm_first p before) (Era 0 0) refl in
      omega (arith, row, a, b)

  -- it is at work
  pub works_so : IsQuiet (memo_of p 0) (memo_of q 0) → IsHomeless es → ((memo_of q 0).dying ≡ []) ⊎ IsSpent (memo_of q 0) → IsWorking q
  works_so quiet homeless dying =
      record {
        work = on.at;
        run = on.run;
        one = after.one;
        client = on.kind ∙ on.working.client;
        reached = roots_reached 0 (memo_of q 0) on.at.idle.op;
        home = home_kept p q es before after on.start on.did homeless ∙ on.working.home;
        loose = quiet.loose ∙ on.working.loose;
        dying = dying;
        unsent = λ j. quiet.unsent j ∙ on.working.unsent j;
        untaken = λ j. quiet.untaken j ∙ on.working.untaken j;
      }

  pub works : IsQuiet (memo_of p 0) (memo_of q 0) → IsHomeless es → (memo_of q 0).dying ≡ (memo_of p 0).dying → IsWorking q
  works quiet homeless same = works_so quiet homeless (by on.working.dying)
    where
      by : ((memo_of p 0).dying ≡ []) ⊎ IsSpent (memo_of p 0) → ((memo_of q 0).dying ≡ []) ⊎ IsSpent (memo_of q 0)
      by (inl e) = inl (same ∙ e)
      by (inr s) = inr (let l = era_grows in omega (arith, l, s))

  -- without an event all is as it was
  pub still : es ≡ [] → AreSameRoots p q → (memo_of q 0).dying ≡ (memo_of p 0).dying → IsStill p q
  still none roots dying = still_kept p q before after on.start (subst (Did 0 p q) none on.did) roots dying

  -- what is known of words of blocks is what they hold
  pub known_tag : (b x : ℕ) → Knows (memo_of q 0) (Tag b) x → see p.start.geometry q.words (Tag b) ≡ x
  known_tag b x h =
      let started : IsCalm (pool p.start q.words q.accounts q.turns) = as_started IsCalm p q on.start after in
      let g : Geometry = p.start.geometry in
      let is : KnownHolds g (see g q.words) (view (memos_of q.accounts)) 0 (record { spot = Tag b; value = x }) =
      All-contains (KnownHolds g (see g q.words) (view (memos_of q.accounts)) 0) (memo_of q 0).known (record { spot = Tag b; value = x }) ((calm_held (pool p.start q.words q.accounts q.turns) started).known 0 (calm_first p before)) h in
      is.0

  pub known_word : (b i x : ℕ) → Knows (memo_of q 0) (Body b i) x → see p.start.geometry q.words (Body b i) ≡ x
  known_word b i x h =
      let started : IsCalm (pool p.start q.words q.accounts q.turns) = as_started IsCalm p q on.start after in
      let g : Geometry = p.start.geometry in
      let is : KnownHolds g (see g q.words) (view (memos_of q.accounts)) 0 (record { spot = Body b i; value = x }) =
      All-contains (KnownHolds g (see g q.words) (view (memos_of q.accounts)) 0) (memo_of q 0).known (record { spot = Body b i; value = x }) ((calm_held (pool p.start q.words q.accounts q.turns) started).known 0 (calm_first p before)) h in
      is.0

-- what a call that was run and answered leaves
pub on_answer : (fresh : Bool) (p q : Pool) (x y : ℕ) (es : List Event) → IsWorking p → Ran 0 fresh true p q x y → IsAtWork 0 q → Did 0 p q es → IsOn p q es
on_answer fresh p q x y es h r at did =
    record {
      working = h;
      at = at;
      run = r.run;
      start = r.start;
      did = did;
      kind = r.kind refl ∙ ap recovers (ready_still p 0 h.work.acts);
    }
