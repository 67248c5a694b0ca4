-- a pool that is settled where all is done under a limit is a run of the trace with the scripts as they were cut
use Rattle.std.proofs.Common.{◌≡◌, ◌≢◌, ℕ, zero, suc, ◌+◌, ◌<◌, ◌≤◌, ◌⊎◌, Bool, true, false, eqb, List, [], ◌∷◌, ◌++◌, length, inl, inr, refl, sym, ap, ◌∙◌, subst, arith}
use Rattle.std.proofs.lemmas.Bool.{cond-false, cond-true, eq-eqb, eqb-true, ne_eqb, true≢false}
use Rattle.std.specs.{List.AllByRecursion, Prelude.{Option, Some, None, slice_get, slice_index_or}}
use Rattle.shm_graph.specs.{declared.run.{Account.Account, Move.Move}, Runs.account_at}
use Rattle.shm_plain.specs.Pools.{pool}
use Rattle.shm_agents.specs.{Turns.script_in, TurnsLeft.turns_given}
use Rattle.shm_pool.specs.Tokens.{End, Its}
use Rattle.shm_replay.specs.Replays.{start_of}
use Rattle.shm_replay.proofs.WholeRun.{all_at, script_at}
use Rattle.shm_script.specs.{Logged.Logged, Ranges.{AreApart, IsTrace, ScriptFits}, Values.{Scripted, Traced}}
use Rattle.shm_team.specs.declared.{done.Done.Done, left.Left.Left}
use Rattle.shm_team.specs.Dones.{AreDones, AreGivenBack, IsDone, IsDoneBy, log_of, logs_done, logs_in}
use Rattle.shm_team.specs.{Lefts.{IsGivenBack, account_in, is_corpse}, Rans.HasSettled}
use Rattle.shm_team.proofs.Settled.{team_run_of}
use Rattle.shm_async.specs.{Limited.{AreLimited, IsCutTo, IsLimitedRun, LimitedWithin}, Each.EachFrom}
use Rattle.shm_async.specs.LimitedMembers.{AreLimitedDones, IsLimitedDone, LimitedBy}

-- ---- the scripts under the limit

-- the script of an identity under the limit, if there is one, and otherwise what it was
abbrev pub or_script : Option Scripted → Scripted → Scripted
or_script None s = s
or_script (Some r) s = r

abbrev pub scripts_under : List (Option Scripted) → List Scripted → List Scripted
scripts_under os [] = []
scripts_under os (s ∷ ss) = or_script (slice_index_or os s.client None) s ∷ scripts_under os ss

-- each script has one of its client
abbrev HaveScripts : List Scripted → List (Option Scripted) → Type 0
HaveScripts ss os = (k : ℕ) (s : Scripted) → slice_get ss k ≡ Some s → (r : Scripted) × (slice_index_or os s.client None ≡ Some r) × (r.client ≡ s.client)

same_some : {A : Type 0} (a b : A) → ◌≡◌ {A = Option A} (Some a) (Some b) → a ≡ b
same_some a b e = cc

-- only those that have a script have one under the limit
abbrev under : Option Scripted → Option Scripted → Option Scripted
under None o = None
under (Some s) o = o

module _ (os : List (Option Scripted)) where
  later : (s : Scripted) (ss : List Scripted) → HaveScripts (s ∷ ss) os → HaveScripts ss os
  later s ss h k r e = h (suc k) r e

  under_is : (s r : Scripted) → slice_index_or os s.client None ≡ Some r → or_script (slice_index_or os s.client None) s ≡ r
  under_is s r is = ap (λ (o : Option Scripted). or_script o s) is

  under_client : (s : Scripted) (ss : List Scripted) → HaveScripts (s ∷ ss) os → (or_script (slice_index_or os s.client None) s).client ≡ s.client
  under_client s ss h = let (r, is, client) = h 0 s refl in ap (λ (z : Scripted). z.client) (under_is s r is) ∙ client

  in_under : (ss : List Scripted) (c : ℕ) → HaveScripts ss os → script_in (scripts_under os ss) c ≡ under (script_in ss c) (slice_index_or os c None)
  in_under [] c h = refl
  in_under (s ∷ ss) c h = go (eqb s.client c) refl (in_under ss c (later s ss h))
    where
      client : (or_script (slice_index_or os s.client None) s).client ≡ s.client
      client = under_client s ss h

      go : (b : Bool) → eqb s.client c ≡ b → script_in (scripts_under os ss) c ≡ under (script_in ss c) (slice_index_or os c None) → script_in (scripts_under os (s ∷ ss)) c ≡ under (script_in (s ∷ ss) c) (slice_index_or os c None)
      go true f rest =
          let here : s.client ≡ c = eqb-true s.client c f in
          let (r, is, w) = h 0 s refl in
          cond-true (eqb (or_script (slice_index_or os s.client None) s).client c) (Some (or_script (slice_index_or os s.client None) s)) (script_in (scripts_under os ss) c) (eq-eqb _ c (client ∙ here))
          ∙ (ap (λ (z : Scripted). Some z) (under_is s r is)
          ∙ (sym is
          ∙ (ap (λ (n : ℕ). slice_index_or os n None) here
          ∙ sym (ap (λ (o : Option Scripted). under o (slice_index_or os c None)) (cond-true (eqb s.client c) (Some s) (script_in ss c) f)))))
      go false f rest =
          cond-false (eqb (or_script (slice_index_or os s.client None) s).client c) (Some (or_script (slice_index_or os s.client None) s)) (script_in (scripts_under os ss) c) (ne_eqb _ c (λ g. true≢false (sym (eq-eqb s.client c (sym client ∙ g)) ∙ f)))
          ∙ (rest ∙ sym (ap (λ (o : Option Scripted). under o (slice_index_or os c None)) (cond-false (eqb s.client c) (Some s) (script_in ss c) f)))

  others_under : (n : ℕ) (ss : List Scripted) → HaveScripts ss os → AllByRecursion (λ (o : Scripted). o.client ≢ n) ss → AllByRecursion (λ (o : Scripted). o.client ≢ n) (scripts_under os ss)
  others_under n [] h all = tt
  others_under n (s ∷ ss) h all = ((λ e. all.0 (sym (under_client s ss h) ∙ e)), others_under n ss (later s ss h) all.1)

  apart_under : (ss : List Scripted) → HaveScripts ss os → AreApart ss → AreApart (scripts_under os ss)
  apart_under [] h apart = tt
  apart_under (s ∷ ss) h apart = (
    subst (λ (n : ℕ). AllByRecursion (λ (o : Scripted). o.client ≢ n) (scripts_under os ss)) (sym (under_client s ss h)) (others_under s.client ss (later s ss h) apart.0),
    apart_under ss (later s ss h) apart.1,
  )

  -- what holds of the client of each script
  few_under : (n k : ℕ) (r : Scripted) (ss : List Scripted) → HaveScripts ss os → ((j : ℕ) (s : Scripted) → slice_get ss j ≡ Some s → s.client < n) → slice_get (scripts_under os ss) k ≡ Some r → r.client < n
  few_under n k r [] h few e = absurd (cc)
  few_under n zero r (s ∷ ss) h few e =
      let same : (or_script (slice_index_or os s.client None) s) ≡ r = same_some _ r e in
      let one : s.client < n = few 0 s refl in
      subst (λ (m : ℕ). m < n) (sym (under_client s ss h) ∙ ap (λ (z : Scripted). z.client) same) one
  few_under n (suc k) r (s ∷ ss) h few e = few_under n k r ss (later s ss h) (λ j. few (suc j)) e

  logs_under : (ls : List (Option Logged)) (ss : List Scripted) → HaveScripts ss os → logs_in ss ls ≡ logs_in (scripts_under os ss) ls
  logs_under ls [] h = refl
  logs_under ls (s ∷ ss) h = (λ i. log_of (slice_index_or ls (sym (under_client s ss h) i) None) ++ logs_under ls ss (later s ss h) i)

  limited_under : (turns : ℕ) (es : List Account) (ss : List Scripted) → ((k : ℕ) (s : Scripted) → slice_get ss k ≡ Some s → ((or_script (slice_index_or os s.client None) s ≡ s) × LimitedWithin turns s (account_at es s.client)) ⊎ IsCutTo turns s (or_script (slice_index_or os s.client None) s))
      → AreLimited turns es ss (scripts_under os ss)
  limited_under turns es [] each = refl
  limited_under turns es (s ∷ ss) each = (each 0 s refl, limited_under turns es ss (λ k. each (suc k)))

-- ---- the identities

module _ (t : Traced) (p : Its) (turns : ℕ) where
  abbrev Done_at : ℕ → Done → Type 0
  Done_at c d = IsLimitedDone t p c turns d

  scripts_of : (c : ℕ) (ds : List Done) → EachFrom Done_at c ds → List (Option Scripted)
  scripts_of c [] h = []
  scripts_of c (d ∷ ds) h = h.0.script ∷ scripts_of (suc c) ds h.1

  -- what is done of the identity c, whose script under the limit is o
  pub record IsDoneUnder (c : ℕ) (d : Done) (o : Option Scripted) : Type 0 where
    pub left : IsGivenBack p d.left
    pub who : (account_in d.left).who ≡ c
    pub limited : LimitedBy turns (account_in d.left) (script_in t.scripts c) o
    pub by : IsDoneBy o p c d.log d.left

  under_at : (c i : ℕ) (ds : List Done) (h : EachFrom Done_at c ds) (d : Done) → i < length ds → IsDoneUnder (c + i) (slice_index_or ds i d) (slice_index_or (scripts_of c ds h) i None)
  unfolding scripts_of
  under_at c i [] h d l = absurd (omega arith)
  under_at c zero (x ∷ ds) h d l =
      let z : c ≡ c + 0 = omega arith in
      subst (λ (n : ℕ). IsDoneUnder n x h.0.script) z (record { left = h.0.left; who = h.0.who; limited = h.0.limited; by = h.0.by })
  under_at c (suc i) (x ∷ ds) h d l =
      let z : suc c + i ≡ c + suc i = omega arith in
      subst (λ (n : ℕ). IsDoneUnder n (slice_index_or ds i d) (slice_index_or (scripts_of (suc c) ds h.1) i None)) z (under_at (suc c) i ds h.1 d (omega arith))

-- one of them
some_done : (ds : List Done) (c : ℕ) → c < length ds → Done
some_done [] c l = absurd (omega arith)
some_done (d ∷ ds) c l = d

dones_each : (t : Traced) (p : Its) (c : ℕ) (ds : List Done) → ((i : ℕ) (d : Done) → i < length ds → IsDone t p (c + i) (slice_index_or ds i d)) → AreDones t p c ds
dones_each t p c [] h = tt
dones_each t p c (d ∷ ds) h = (
  let z : c + 0 ≡ c = omega arith in subst (λ (n : ℕ). IsDone t p n d) z (h 0 d (omega arith)),
  dones_each t p (suc c) ds (λ i x l. let z : c + suc i ≡ suc c + i = omega arith in subst (λ (n : ℕ). IsDone t p n (slice_index_or ds i x)) z (h (suc i) x (omega arith))),
)

limited_some : (turns : ℕ) (e : Account) (s : Scripted) (o : Option Scripted) → LimitedBy turns e (Some s) o → (r : Scripted) × (o ≡ Some r) × (r.client ≡ s.client)
limited_some turns e s None h = absurd h
limited_some turns e s (Some r) h = (r, refl, elim h [ inl w ↦ ap (λ (z : Scripted). z.client) w.0 | inr c ↦ ap (λ (z : Scripted). z.client) c.script ])

under_same : (turns : ℕ) (e : Account) (a o : Option Scripted) → LimitedBy turns e a o → under a o ≡ o
under_same turns e None o h = sym h
under_same turns e (Some s) o h = refl

back_each : (p : Its) (c : ℕ) (ds : List Done) → ((i : ℕ) (d : Done) → i < length ds → IsGivenBack p (slice_index_or ds i d).left × ((account_in (slice_index_or ds i d).left).who ≡ c + i)) → AreGivenBack p c ds
back_each p c [] h = tt
back_each p c (d ∷ ds) h =
    let one = h 0 d (omega arith) in
    let z : c + 0 ≡ c = omega arith in (
      one.0,
      one.1 ∙ z,
      back_each p (suc c) ds (λ i x l. let y = h (suc i) x (omega arith) in let w : c + suc i ≡ suc c + i = omega arith in (y.0, y.1 ∙ w)),
    )

module _ (t : Traced) (trace : IsTrace t) (p : Its) (start : p.start ≡ start_of t) (turns : ℕ) (ds : List Done) (many : length ds ≡ t.clients) (dones : AreLimitedDones t p 0 turns ds) where
  abbrev os : List (Option Scripted)
  os = scripts_of t p turns 0 ds dones

  abbrev rs : List Scripted
  rs = scripts_under os t.scripts

  abbrev t' : Traced
  t' = record t { scripts = rs }

  at : (c : ℕ) (d : Done) → c < length ds → IsDoneUnder t p turns c (slice_index_or ds c d) (slice_index_or os c None)
  at c d l = let z : 0 + c ≡ c = omega arith in subst (λ (n : ℕ). IsDoneUnder t p turns n (slice_index_or ds c d) (slice_index_or os c None)) z (under_at t p turns 0 c ds dones d l)

  pub limited_back : AreGivenBack p 0 ds
  limited_back = back_each p 0 ds (λ i d l. let x = under_at t p turns 0 i ds dones d l in (x.left, x.who))

  few : (k : ℕ) (s : Scripted) → slice_get t.scripts k ≡ Some s → s.client < t.clients
  few k s e = (all_at (ScriptFits t.clients) t.scripts k s trace.scripts e).client

  here : (k : ℕ) (s : Scripted) → slice_get t.scripts k ≡ Some s → s.client < length ds
  here k s e = let l = few k s e in omega (arith, many)

  have : HaveScripts t.scripts os
  have k s e =
      let l = here k s e in
      let d = some_done ds s.client l in
      let h = at s.client d l in
      limited_some turns (account_in (slice_index_or ds s.client d).left) s (slice_index_or os s.client None) (subst (λ (a : Option Scripted). LimitedBy turns (account_in (slice_index_or ds s.client d).left) a (slice_index_or os s.client None)) (script_at t.scripts k s trace.apart e) h.limited)

  -- all is done of the scripts as they were cut
  dones_under : AreDones t' p 0 ds
  dones_under =
      dones_each t' p 0 ds
      (λ i d l.
      let h = under_at t p turns 0 i ds dones d l in
      let is : script_in rs (0 + i) ≡ slice_index_or os i None =
      in_under os t.scripts (0 + i) have
      ∙ (let z : 0 + i ≡ i = omega arith in ap (λ (n : ℕ). under (script_in t.scripts (0 + i)) (slice_index_or os n None)) z
      ∙ under_same turns (account_in (slice_index_or ds i d).left) (script_in t.scripts (0 + i)) (slice_index_or os i None) h.limited) in
      record {
        left = h.left;
        who = h.who;
        by = subst (λ (o : Option Scripted). IsDoneBy o p (0 + i) (slice_index_or ds i d).log (slice_index_or ds i d).left) (sym is) h.by;
      })

  module _ (end : End) (ls : List Logged) (settled : HasSettled t p ds end ls) where
    -- the agents of an identity that wasn't cut, and those that visited it
    within : (s : Scripted) (c : ℕ) (d : Done) → c < length ds → IsDoneBy (Some s) p c (slice_index_or ds c d).log (slice_index_or ds c d).left → turns_given (account_in (slice_index_or ds c d).left) ≤ turns → LimitedWithin turns s (account_at end.accounts c)
    within s c d l by few =
        let k : Left = (slice_index_or ds c d).left in
        let v = settled.visited c d l in
        record {
          agents = record {
            dead = is_corpse k;
            first = (account_in k).memo.agents;
            others = v.others;
            before = (account_in k).begun;
            lines = v.lines;
            agents = v.agents;
            begun = v.begun;
            own = by.2.agents;
            closers = v.closers;
          };
          few = few;
        }

    limited : AreLimited turns end.accounts t.scripts rs
    limited =
        limited_under os turns end.accounts t.scripts
        (λ k s e.
        let l = here k s e in
        let d = some_done ds s.client l in
        let h = at s.client d l in
        by_limit s d l (slice_index_or os s.client None) h.by
        (subst (λ (a : Option Scripted). LimitedBy turns (account_in (slice_index_or ds s.client d).left) a (slice_index_or os s.client None)) (script_at t.scripts k s trace.apart e) h.limited))
      where
        by_limit : (s : Scripted) (d : Done) → s.client < length ds → (o : Option Scripted) → IsDoneBy o p s.client (slice_index_or ds s.client d).log (slice_index_or ds s.client d).left → LimitedBy turns (account_in (slice_index_or ds s.client d).left) (Some s) o
            → ((or_script o s ≡ s) × LimitedWithin turns s (account_at end.accounts s.client)) ⊎ IsCutTo turns s (or_script o s)
        by_limit s d l None by h = absurd h
        by_limit s d l (Some r) by h =
            elim h [
              | inl w ↦ inl (w.0, within s s.client d l (subst (λ (z : Scripted). IsDoneBy (Some z) p s.client (slice_index_or ds s.client d).log (slice_index_or ds s.client d).left) w.0 by) w.1)
              | inr c ↦ inr c
            ]

    pub limited_run : (moves : List Move) × IsLimitedRun t turns (pool end.start end.words end.accounts moves) ls
    limited_run =
        let (moves, run) = team_run_of t t' (λ k r. few_under os t.clients k r t.scripts have few) (apart_under os t.scripts have trace.apart) p start ds many dones_under end ls settled (logs_under os (logs_done ds) t.scripts have) in
        (moves, record { scripts = rs; limited = limited; run = run })
