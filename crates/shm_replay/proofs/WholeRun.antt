-- the run of a trace and its closing are a replay
use Rattle.std.proofs.Common.{◌≡◌, ◌≢◌, ℕ, zero, suc, ◌%◌, ◌<◌, Bool, true, false, eqb, List, [], ◌∷◌, refl, sym, ap, ◌∙◌, subst, arith}
use Rattle.std.proofs.lemmas.Bool.{cond-false, cond-true, eq-eqb, ne_eqb, true≢false}
use Rattle.std.specs.{Prelude.{Option, Some, None, slice_get, slice_index, slice_index_or}, Ordering.nat_cmp}
use Rattle.std.specs.List.{AllByRecursion}
use Rattle.std.specs.FinMap as finmap
use Rattle.shm_graph.specs.declared.{ask.Me.Me, run.{Account.Account, Start.Start}, table.Part.Part}
use Rattle.shm_graph.specs.{declared.table.Part.TheVariants.{Loose, Table}, Held.{PartTie, is_loose}}
use Rattle.shm_graph.specs.{Runs.{account_at, first_account, told_left}, Tables.{Contents, IsPartition, find}}
use Rattle.shm_graph.proofs.States.FirstHeld.{same_everywhere}
use Rattle.shm_count.specs.Roots.{member}
use Rattle.kind_parts.specs.Reparting.{chain_in, map_in}
use Rattle.shm_plain.specs.{Closings.IsClosedRun, Pools.{IsRun, Pool, first_pool, memo_of}}
use Rattle.shm_plain.proofs.StillTable.{still_part}
use Rattle.shm_script.specs.{Logged.Logged, Ranges.{AreApart, IsTrace, ScriptFits}, Values.{Scripted, Traced}}
use Rattle.shm_agents.specs.{Agents.{Playing, logged}, Logs.{AreUnspent, IsLog, IsLogOf}, Turns.{lives_of, script_in}}
use Rattle.shm_replay.specs.{Closings.{AreVisits, HasTold, SameTable, is_dead, is_standing_dead}, Gathered.logs_by}
use Rattle.shm_replay.specs.{Orders.IsGivenAll, Replays.{IsReplay, fold_in, start_of}, Seats.{AreSeated, IsSeat, Seat}}
use Rattle.shm_replay.proofs.Ending.{IsOver, is_over, over_fold, over_log, over_table, over_unspent, seat_rest}
use Rattle.shm_replay.proofs.{Firsts.even_run, Gathering.{fold_none, fold_some, logs_all, logs_are}}
use Rattle.shm_replay.proofs.{Later.{led_stays, log_later, visits_led}, Telling.{Grows, visits_grow}}

same_some : {A : Type 0} (a b : A) → ◌≡◌ {A = Option A} (Some a) (Some b) → a ≡ b
same_some a b e = cc

pub all_at : (P : Scripted → Type 0) (ss : List Scripted) (k : ℕ) (s : Scripted) → AllByRecursion P ss → slice_get ss k ≡ Some s → P s
all_at P [] k s h e = absurd (cc)
all_at P (r ∷ ss) zero s h e = subst P (same_some r s e) h.0
all_at P (r ∷ ss) (suc k) s h e = all_at P ss k s h.1 e

-- a script is that of its identity
pub script_at : (ss : List Scripted) (k : ℕ) (s : Scripted) → AreApart ss → slice_get ss k ≡ Some s → script_in ss s.client ≡ Some s
script_at [] k s h e = absurd (cc)
script_at (r ∷ ss) zero s h e = let same : r ≡ s = same_some r s e in cond-true (eqb r.client s.client) (Some r) (script_in ss s.client) (eq-eqb r.client s.client (ap (λ (x : Scripted). x.client) same)) ∙ e
script_at (r ∷ ss) (suc k) s h e =
    cond-false (eqb r.client s.client) (Some r) (script_in ss s.client) (ne_eqb r.client s.client (λ f. all_at (λ o. o.client ≢ r.client) ss k s h.0 e (sym f)))
    ∙ script_at ss k s h.1 e

-- the partition that is a part for tables
pub table_by : (x : Contents) (c home : ℕ) (part : Part) → is_loose part ≡ false → PartTie x c home part → IsPartition x c home (chain_in part)
table_by x c home Loose e h = absurd (true≢false e)
table_by x c home (Table chains) e h = h

module _ (t : Traced) (trace : IsTrace t) (q p : Pool) (xs : List (Option Playing)) (start : q.start ≡ start_of t) (same : p.start ≡ q.start) (given : IsGivenAll t (first_pool (start_of t)) q) (run : IsRun q) (seated : AreSeated t q xs) (visits : AreVisits 0 t.clients q p) (closed : IsClosedRun p) (tables : (c : ℕ) → c < t.clients → SameTable (memo_of q c) (memo_of p c))
    (told : (c : ℕ) → c < t.clients → is_dead (slice_index_or xs c None) ≡ true → HasTold (account_at q.accounts c) (account_at p.accounts c)) where
  -- the agents of an identity with a script have nothing left to do
  over : (c : ℕ) (x : Playing) (h : IsSeat t q c x) → IsOver h.script x (account_at q.accounts c)
  over c x h = is_over q.start h.script x (account_at q.accounts c) h.stands.stage (seat_rest t q c x h (given.done c))

  -- all that was running of a dead agent is told in the end
  grown : (c : ℕ) (x : Playing) → c < t.clients → slice_index_or xs c None ≡ Some x → Grows (told_left (is_standing_dead x.standing) (account_at q.accounts c)) (account_at p.accounts c).told
  grown c x l at = go (is_standing_dead x.standing) refl
    where
      go : (b : Bool) → is_standing_dead x.standing ≡ b → Grows (told_left b (account_at q.accounts c)) (account_at p.accounts c).told
      go true e = told c l (ap is_dead at ∙ e)
      go false e = visits_grow 0 t.clients q p run visits c

  -- the client of a script, with its log
  client_of : (k : ℕ) (s : Scripted) → slice_get t.scripts k ≡ Some s → (x : Playing) × (slice_index_or xs s.client None ≡ Some x) × (x.me.who ≡ s.client) × IsLog p s (logged x) × AreUnspent x.entries
  client_of k s e = go (slice_index_or xs s.client None) refl (seated.seats s.client few)
    where
      c : ℕ
      c = s.client

      few : c < t.clients
      few = (all_at (ScriptFits t.clients) t.scripts k s trace.scripts e).client

      is : script_in t.scripts c ≡ Some s
      is = script_at t.scripts k s trace.apart e

      go : (o : Option Playing) → slice_index_or xs c None ≡ o → Seat t q c o → (x : Playing) × (slice_index_or xs c None ≡ Some x) × (x.me.who ≡ c) × IsLog p s (logged x) × AreUnspent x.entries
      go None f h = let z : ◌≡◌ {A = Option Scripted} (Some s) None = sym is ∙ h.0 in absurd (cc)
      go (Some x) f h =
          let script : h.script ≡ s = same_some h.script s (sym h.is ∙ is) in
          let who : x.me.who ≡ c = ap (λ m. m.who) h.me in
          let mine : x.me ≡ member p.start.geometry c = h.me ∙ ap (λ (z : Start). member z.geometry c) (sym same) in
          let e = account_at q.accounts c in
          let f' = account_at p.accounts c in
          let ends = subst (λ (r : Scripted). IsOver r x e) script (over c x h) in
          let log = log_later e f' (even_run q run c) (led_stays q p c (visits_led 0 t.clients q p run visits)) x.me s (slice_index (lives_of s.life) 0) (told_left (is_standing_dead x.standing) e) (logged x) (grown c x few f) (over_log s x e (sym who) ends) in
          (x, f, who, subst (λ (m : Me). IsLogOf m s (slice_index (lives_of s.life) 0) f'.memo.agents f'.begun f'.told (logged x)) mine log, over_unspent s x e ends)

  have : (k : ℕ) (s : Scripted) → slice_get t.scripts k ≡ Some s → (x : Playing) × (slice_index_or xs s.client None ≡ Some x) × (x.me.who ≡ s.client)
  have k s e = let (x, at, who, log, room) = client_of k s e in (x, at, who)

  parts : (c : ℕ) → c < t.clients → is_loose (memo_of q c).part ≡ false
  parts c l = go (slice_index_or xs c None) (seated.seats c l)
    where
      go : (o : Option Playing) → Seat t q c o → is_loose (memo_of q c).part ≡ false
      go None h = ap (λ (a : Account). is_loose a.memo.part) h.1 ∙ ap (λ (z : Start). is_loose (first_account z c).memo.part) start
      go (Some x) h = over_table h.script x (account_at q.accounts c) (over c x h)

  folds : (c key : ℕ) → c < t.clients → map_in (memo_of q c).part key ≡ finmap.get (fold_in (logs_by t.scripts xs) c) key
  folds c key l = go (slice_index_or xs c None) refl (seated.seats c l)
    where
      go : (o : Option Playing) → slice_index_or xs c None ≡ o → Seat t q c o → map_in (memo_of q c).part key ≡ finmap.get (fold_in (logs_by t.scripts xs) c) key
      go None f h =
          ap (λ (a : Account). map_in a.memo.part key) h.1
          ∙ (ap (λ (z : Start). map_in (first_account z c).memo.part key) start
          ∙ (ap (find key) (same_everywhere 16 (key % 16) [])
          ∙ sym (ap (λ m. finmap.get m key) (fold_none t.scripts xs c have h.0) ∙ finmap.get-empty nat_cmp key)))
      go (Some x) f h = over_fold h.script x (account_at q.accounts c) (over c x h) key ∙ sym (ap (λ m. finmap.get m key) (fold_some t.scripts xs c h.script x have h.is f))

  pub is_replay : IsReplay t p (logs_by t.scripts xs)
  is_replay =
      record {
        start = same ∙ start;
        played = q;
        given = given;
        visits = visits;
        closed = closed;
        logs = logs_are p t.scripts xs (λ k s e. let (x, at, who, log, room) = client_of k s e in (x, at, log));
        unspent = logs_all (λ (l : Logged). AreUnspent l.entries) t.scripts xs (λ k s e. let (x, at, who, log, room) = client_of k s e in (x, at, room));
        table = λ c. chain_in (memo_of p c).part;
        is = λ c l.
            let few : c < t.clients = subst (λ n. c < n) (ap (λ (z : Start). z.geometry.clients) (same ∙ start)) l in
            table_by _ c _ (memo_of p c).part ((tables c few).loose ∙ parts c few) (still_part p closed.run closed.still c l);
        fold = λ c key l. (tables c l).map key ∙ folds c key l;
      }

-- no two scripts are of one client
pub apart_at : (ss : List Scripted) (j k : ℕ) (r s : Scripted) → AreApart ss → j < k → slice_get ss j ≡ Some r → slice_get ss k ≡ Some s → r.client ≢ s.client
apart_at [] j k r s h l e f g = absurd (cc)
apart_at (x ∷ ss) j zero r s h l e f g = absurd (omega arith)
apart_at (x ∷ ss) zero (suc k) r s h l e f g = all_at (λ o. o.client ≢ x.client) ss k s h.0 f (sym (ap (λ (z : Scripted). z.client) (same_some x r e) ∙ g))
apart_at (x ∷ ss) (suc j) (suc k) r s h l e f g = apart_at ss j k r s h.1 (omega arith) e f g
