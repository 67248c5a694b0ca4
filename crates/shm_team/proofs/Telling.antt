-- the logs of a trace's clients by their identities, and what was told of an identity in the end
use Rattle.std.proofs.Common.{◌≡◌, ◌≢◌, ℕ, suc, Bool, true, false, cond, eqb, List, [], ◌∷◌, ◌++◌, append-nil, append_assoc, refl, sym, ap, ◌∙◌, subst, inl}
use Rattle.std.proofs.lemmas.Bool.{cond-false, cond-true, eq-eqb, eqb-true, ne_eqb, true≢false}
use Rattle.std.specs.{Prelude.{Option, Some, None, slice_get, slice_index_or}, List.AllByRecursion}
use Rattle.std.specs.FinMap as finmap
use Rattle.shm_graph.specs.declared.{ask.Me.Me, run.LoggedLine.LoggedLine}
use Rattle.shm_script.specs.{declared.log.Entry.Entry as LogEntry, Logged.{Logged, Table, fold_of}, Values.Scripted}
use Rattle.shm_plain.specs.Pools.{Pool}
use Rattle.shm_agents.specs.{Courses.AreCommandsTold, Logs.{AreLogs, IsLog}, Turns.script_in}
use Rattle.shm_replay.specs.Replays.{fold_in}
use Rattle.shm_replay.proofs.Gathering.{same_some}
use Rattle.shm_team.specs.{Dones.{log_of, logs_in}, Rans.entries_in, Visits.AreAside}

-- no command is told by lines that are aside
pub aside_told : (me : Me) (more : List LoggedLine) → AreAside more → AreCommandsTold me more []
aside_told me [] h = refl
aside_told me (x ∷ more) h = (inl h.0, aside_told me more h.1)

-- ---- the log of an identity

-- the first one that is of c
abbrev found : List Logged → ℕ → Option Logged
found [] c = None
found (l ∷ ls) c = cond (eqb l.client c) (Some l) (found ls c)

abbrev entries_by : Option Logged → List LogEntry
entries_by None = []
entries_by (Some l) = l.entries

abbrev fold_by : Option Logged → Table
fold_by None = finmap.empty
fold_by (Some l) = fold_of l

by_cond : {A : Type 0} (f : Option Logged → A) (b : Bool) (l : Logged) (o : Option Logged) → cond b (f (Some l)) (f o) ≡ f (cond b (Some l) o)
by_cond f true l o = refl
by_cond f false l o = refl

entries_found : (ls : List Logged) (c : ℕ) → entries_in ls c ≡ entries_by (found ls c)
entries_found [] c = refl
entries_found (l ∷ ls) c = ap (λ (es : List LogEntry). cond (eqb l.client c) l.entries es) (entries_found ls c) ∙ by_cond entries_by (eqb l.client c) l (found ls c)

fold_found : (ls : List Logged) (c : ℕ) → fold_in ls c ≡ fold_by (found ls c)
fold_found [] c = refl
fold_found (l ∷ ls) c = ap (λ (t : Table). cond (eqb l.client c) (fold_of l) t) (fold_found ls c) ∙ by_cond fold_by (eqb l.client c) l (found ls c)

-- each script has a log of its client
abbrev pub HaveLogs : List Scripted → List (Option Logged) → Type 0
HaveLogs ss os = (k : ℕ) (s : Scripted) → slice_get ss k ≡ Some s → (x : Logged) × (slice_index_or os s.client None ≡ Some x) × (x.client ≡ s.client)

-- behind the log of another script
found_later : (s : Scripted) (ls : List Logged) (os : List (Option Logged)) (c : ℕ) (x : Logged) → slice_index_or os s.client None ≡ Some x → x.client ≡ s.client → s.client ≢ c → found (log_of (slice_index_or os s.client None) ++ ls) c ≡ found ls c
found_later s ls os c x e w n =
    ap (λ o. found (log_of o ++ ls) c) e ∙ cond-false (eqb x.client c) (Some x) (found ls c) (ne_eqb x.client c (λ f. n (sym w ∙ f)))

found_none : (ss : List Scripted) (os : List (Option Logged)) (c : ℕ) → HaveLogs ss os → script_in ss c ≡ None → found (logs_in ss os) c ≡ None
found_none [] os c h e = refl
found_none (s ∷ ss) os c h e = go (eqb s.client c) refl (found_none ss os c (λ k r g. h (suc k) r g))
  where
    go : (b : Bool) → eqb s.client c ≡ b → (script_in ss c ≡ None → found (logs_in ss os) c ≡ None) → found (logs_in (s ∷ ss) os) c ≡ None
    go true f later = let z : ◌≡◌ {A = Option Scripted} (Some s) None = sym (cond-true (eqb s.client c) (Some s) (script_in ss c) f) ∙ e in absurd (cc)
    go false f later =
        let (x, at, w) = h 0 s refl in
        found_later s (logs_in ss os) os c x at w (λ g. true≢false (sym (eq-eqb s.client c g) ∙ f))
        ∙ later (sym (cond-false (eqb s.client c) (Some s) (script_in ss c) f) ∙ e)

found_some : (ss : List Scripted) (os : List (Option Logged)) (c : ℕ) (s : Scripted) (x : Logged) → HaveLogs ss os → script_in ss c ≡ Some s → slice_index_or os c None ≡ Some x → found (logs_in ss os) c ≡ Some x
found_some [] os c s x h e at = absurd (cc)
found_some (r ∷ ss) os c s x h e at = go (eqb r.client c) refl (λ f. found_some ss os c s x (λ k q g. h (suc k) q g) f at)
  where
    go : (b : Bool) → eqb r.client c ≡ b → (script_in ss c ≡ Some s → found (logs_in ss os) c ≡ Some x) → found (logs_in (r ∷ ss) os) c ≡ Some x
    go true f later =
        let here : r.client ≡ c = eqb-true r.client c f in
        let (y, there, w) = h 0 r refl in
        let same : y ≡ x = same_some y x (sym there ∙ (ap (λ n. slice_index_or os n None) here ∙ at)) in
        ap (λ o. found (log_of o ++ logs_in ss os) c) there
        ∙ (cond-true (eqb y.client c) (Some y) (found (logs_in ss os) c) (eq-eqb y.client c (w ∙ here))
        ∙ ap (λ (z : Logged). Some z) same)
    go false f later =
        let (y, there, w) = h 0 r refl in
        found_later r (logs_in ss os) os c y there w (λ g. true≢false (sym (eq-eqb r.client c g) ∙ f))
        ∙ later (sym (cond-false (eqb r.client c) (Some r) (script_in ss c) f) ∙ e)

module _ (ss : List Scripted) (os : List (Option Logged)) (c : ℕ) (h : HaveLogs ss os) where
  pub entries_none : script_in ss c ≡ None → entries_in (logs_in ss os) c ≡ []
  entries_none e = entries_found (logs_in ss os) c ∙ ap entries_by (found_none ss os c h e)

  pub fold_none : script_in ss c ≡ None → fold_in (logs_in ss os) c ≡ finmap.empty
  fold_none e = fold_found (logs_in ss os) c ∙ ap fold_by (found_none ss os c h e)

  pub entries_some : (s : Scripted) (x : Logged) → script_in ss c ≡ Some s → slice_index_or os c None ≡ Some x → entries_in (logs_in ss os) c ≡ x.entries
  entries_some s x e at = entries_found (logs_in ss os) c ∙ ap entries_by (found_some ss os c s x h e at)

  pub fold_some : (s : Scripted) (x : Logged) → script_in ss c ≡ Some s → slice_index_or os c None ≡ Some x → fold_in (logs_in ss os) c ≡ fold_of x
  fold_some s x e at = fold_found (logs_in ss os) c ∙ ap fold_by (found_some ss os c s x h e at)

-- ---- all of them

pub logs_more : (ss : List Scripted) (s : Scripted) (os : List (Option Logged)) → logs_in (ss ++ s ∷ []) os ≡ logs_in ss os ++ log_of (slice_index_or os s.client None)
logs_more [] s os = append-nil (log_of (slice_index_or os s.client None))
logs_more (r ∷ ss) s os =
    ap (λ ls. log_of (slice_index_or os r.client None) ++ ls) (logs_more ss s os)
    ∙ sym (append_assoc (log_of (slice_index_or os r.client None)) (logs_in ss os) (log_of (slice_index_or os s.client None)))

-- the log of each script's client is that of the script
pub logs_are : (p : Pool) (ss : List Scripted) (os : List (Option Logged)) → ((k : ℕ) (s : Scripted) → slice_get ss k ≡ Some s → (x : Logged) × (slice_index_or os s.client None ≡ Some x) × IsLog p s x) → AreLogs p ss (logs_in ss os)
logs_are p [] os h = refl
logs_are p (s ∷ ss) os h =
    let (x, e, l) = h 0 s refl in
    subst (λ o. AreLogs p (s ∷ ss) (log_of o ++ logs_in ss os)) (sym e) (l, logs_are p ss os (λ k r g. h (suc k) r g))

-- what holds of the log of each script's client holds of all logs
pub logs_all : (P : Logged → Type 0) (ss : List Scripted) (os : List (Option Logged)) → ((k : ℕ) (s : Scripted) → slice_get ss k ≡ Some s → (x : Logged) × (slice_index_or os s.client None ≡ Some x) × P x) → AllByRecursion P (logs_in ss os)
logs_all P [] os h = tt
logs_all P (s ∷ ss) os h =
    let (x, e, l) = h 0 s refl in
    subst (λ o. AllByRecursion P (log_of o ++ logs_in ss os)) (sym e) (l, logs_all P ss os (λ k r g. h (suc k) r g))
