-- scripts by identity, and the logs of their clients
use Rattle.std.proofs.Common.{◌≡◌, ◌≢◌, ℕ, zero, suc, ◌<◌, ◌≤◌, Bool, true, false, eqb, List, [], ◌∷◌, ◌++◌, append_assoc, append-nil, refl, sym, ap, ◌∙◌, subst, arith}
use Rattle.std.proofs.lemmas.Bool.{cond-false, cond-true, eq-eqb, eqb-true, ne_eqb, true≢false}
use Rattle.std.specs.{Prelude.{Option, Some, None, slice_get, slice_index_or}, List.AllByRecursion}
use Rattle.std.specs.FinMap as finmap
use Rattle.shm_script.specs.{Logged.{Logged, fold_of, folded}, Ranges.ScriptFits, Values.Scripted}
use Rattle.shm_plain.specs.Pools.{Pool}
use Rattle.shm_agents.specs.{Agents.{Playing, logged}, Logs.{AreLogs, IsLog}, Turns.script_in}
use Rattle.shm_replay.specs.{Gathered.{log_at, logs_by}, Replays.fold_in}

-- ---- scripts

pub same_some : {A : Type 0} (a b : A) → ◌≡◌ {A = Option A} (Some a) (Some b) → a ≡ b
same_some a b e = cc

-- the first script of c
pub script_first : (ss : List Scripted) (c k : ℕ) (s : Scripted) → ((j : ℕ) (r : Scripted) → j < k → slice_get ss j ≡ Some r → r.client ≢ c) → slice_get ss k ≡ Some s → s.client ≡ c → script_in ss c ≡ Some s
script_first [] c k s before e f = absurd (cc)
script_first (r ∷ ss) c zero s before e f =
    let same : r ≡ s = same_some r s e in
    cond-true (eqb r.client c) (Some r) (script_in ss c) (eq-eqb r.client c (ap (λ (x : Scripted). x.client) same ∙ f)) ∙ e
script_first (r ∷ ss) c (suc k) s before e f =
    cond-false (eqb r.client c) (Some r) (script_in ss c) (ne_eqb r.client c (before 0 r (omega arith) refl))
    ∙ script_first ss c k s (λ j q l g. before (suc j) q (omega arith) g) e f

pub script_none : (ss : List Scripted) (c : ℕ) → ((j : ℕ) (r : Scripted) → slice_get ss j ≡ Some r → r.client ≢ c) → script_in ss c ≡ None
script_none [] c h = refl
script_none (r ∷ ss) c h =
    cond-false (eqb r.client c) (Some r) (script_in ss c) (ne_eqb r.client c (h 0 r refl)) ∙ script_none ss c (λ j q g. h (suc j) q g)

-- no script is of an identity beyond the clients
pub script_beyond : (n : ℕ) (ss : List Scripted) (c : ℕ) → AllByRecursion (ScriptFits n) ss → n ≤ c → script_in ss c ≡ None
script_beyond n [] c h far = refl
script_beyond n (r ∷ ss) c h far =
    cond-false (eqb r.client c) (Some r) (script_in ss c) (ne_eqb r.client c (λ e. let l = h.0.client in absurd (omega arith)))
    ∙ script_beyond n ss c h.1 far

-- ---- logs

pub logs_more : (ss : List Scripted) (s : Scripted) (xs : List (Option Playing)) → logs_by (ss ++ s ∷ []) xs ≡ logs_by ss xs ++ log_at (slice_index_or xs s.client None)
logs_more [] s xs = append-nil (log_at (slice_index_or xs s.client None))
logs_more (r ∷ ss) s xs =
    ap (λ ls. log_at (slice_index_or xs r.client None) ++ ls) (logs_more ss s xs)
    ∙ sym (append_assoc (log_at (slice_index_or xs r.client None)) (logs_by ss xs) (log_at (slice_index_or xs s.client None)))

-- each script has a client whose log is that of the script
pub logs_are : (p : Pool) (ss : List Scripted) (xs : List (Option Playing)) → ((k : ℕ) (s : Scripted) → slice_get ss k ≡ Some s → (x : Playing) × (slice_index_or xs s.client None ≡ Some x) × IsLog p s (logged x)) → AreLogs p ss (logs_by ss xs)
logs_are p [] xs h = refl
logs_are p (s ∷ ss) xs h =
    let (x, e, l) = h 0 s refl in
    subst (λ o. AreLogs p (s ∷ ss) (log_at o ++ logs_by ss xs)) (sym e) (l, logs_are p ss xs (λ k r g. h (suc k) r g))

-- what holds of the log of each script's client holds of all logs
pub logs_all : (P : Logged → Type 0) (ss : List Scripted) (xs : List (Option Playing)) → ((k : ℕ) (s : Scripted) → slice_get ss k ≡ Some s → (x : Playing) × (slice_index_or xs s.client None ≡ Some x) × P (logged x)) → AllByRecursion P (logs_by ss xs)
logs_all P [] xs h = tt
logs_all P (s ∷ ss) xs h =
    let (x, e, l) = h 0 s refl in
    subst (λ o. AllByRecursion P (log_at o ++ logs_by ss xs)) (sym e) (l, logs_all P ss xs (λ k r g. h (suc k) r g))

-- each script has a client of its identity
abbrev pub HaveClients : List Scripted → List (Option Playing) → Type 0
HaveClients ss xs = (k : ℕ) (s : Scripted) → slice_get ss k ≡ Some s → (x : Playing) × (slice_index_or xs s.client None ≡ Some x) × (x.me.who ≡ s.client)

-- the fold of the log of c, behind that of another script
fold_later : (s : Scripted) (ls : List Logged) (xs : List (Option Playing)) (c : ℕ) (x : Playing) → slice_index_or xs s.client None ≡ Some x → x.me.who ≡ s.client → s.client ≢ c → fold_in (log_at (slice_index_or xs s.client None) ++ ls) c ≡ fold_in ls c
fold_later s ls xs c x e w n =
    ap (λ o. fold_in (log_at o ++ ls) c) e ∙ cond-false (eqb x.me.who c) (fold_of (logged x)) (fold_in ls c) (ne_eqb x.me.who c (λ f. n (sym w ∙ f)))

pub fold_none : (ss : List Scripted) (xs : List (Option Playing)) (c : ℕ) → HaveClients ss xs → script_in ss c ≡ None → fold_in (logs_by ss xs) c ≡ finmap.empty
fold_none [] xs c h e = refl
fold_none (s ∷ ss) xs c h e = go (eqb s.client c) refl (fold_none ss xs c (λ k r g. h (suc k) r g))
  where
    go : (b : Bool) → eqb s.client c ≡ b → (script_in ss c ≡ None → fold_in (logs_by ss xs) c ≡ finmap.empty) → fold_in (logs_by (s ∷ ss) xs) c ≡ finmap.empty
    go true f later = let z : ◌≡◌ {A = Option Scripted} (Some s) None = sym (cond-true (eqb s.client c) (Some s) (script_in ss c) f) ∙ e in absurd (cc)
    go false f later =
        let (x, at, w) = h 0 s refl in
        fold_later s (logs_by ss xs) xs c x at w (λ g. true≢false (sym (eq-eqb s.client c g) ∙ f))
        ∙ later (sym (cond-false (eqb s.client c) (Some s) (script_in ss c) f) ∙ e)

pub fold_some : (ss : List Scripted) (xs : List (Option Playing)) (c : ℕ) (s : Scripted) (x : Playing) → HaveClients ss xs → script_in ss c ≡ Some s → slice_index_or xs c None ≡ Some x → fold_in (logs_by ss xs) c ≡ folded x.entries finmap.empty
fold_some [] xs c s x h e at = absurd (cc)
fold_some (r ∷ ss) xs c s x h e at = go (eqb r.client c) refl (λ f. fold_some ss xs c s x (λ k q g. h (suc k) q g) f at)
  where
    go : (b : Bool) → eqb r.client c ≡ b → (script_in ss c ≡ Some s → fold_in (logs_by ss xs) c ≡ folded x.entries finmap.empty) → fold_in (logs_by (r ∷ ss) xs) c ≡ folded x.entries finmap.empty
    go true f later =
        let here : r.client ≡ c = eqb-true r.client c f in
        let (y, there, w) = h 0 r refl in
        let same : y ≡ x = same_some y x (sym there ∙ (ap (λ n. slice_index_or xs n None) here ∙ at)) in
        ap (λ o. fold_in (log_at o ++ logs_by ss xs) c) there
        ∙ (cond-true (eqb y.me.who c) (fold_of (logged y)) (fold_in (logs_by ss xs) c) (eq-eqb y.me.who c (w ∙ here))
        ∙ ap (λ (z : Playing). folded z.entries finmap.empty) same)
    go false f later =
        let (y, there, w) = h 0 r refl in
        fold_later r (logs_by ss xs) xs c y there w (λ g. true≢false (sym (eq-eqb r.client c g) ∙ f))
        ∙ later (sym (cond-false (eqb r.client c) (Some r) (script_in ss c) f) ∙ e)
