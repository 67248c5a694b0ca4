-- a run of sessions is a run of the pool
use Rattle.std.proofs.Common.{◌≡◌, ℕ, ◌<◌, Option, List, [], ◌∷◌, refl, sym, ap, subst, inl}
use Rattle.shm_words.specs.{declared.geometry.Geometry.Geometry, Layout.GeometryFits}
use Rattle.shm_graph.specs.{declared.{ask.Me.Me, memo.Memo.Memo, run.{Account.Account, Start.Start}}, Asks.Trail}
use Rattle.shm_graph.specs.{Laws.Laws, Runs.{EraFits, Leads, State, first_memo, first_state, first_words, state}}
use Rattle.shm_graph.proofs.{Runs.Running.Leads-append, States.FirstHeld.{first_held, first_memo_of, nobody_acts}}
use Rattle.shm_headline.specs.{TurnsOf.turns_of, WordRuns.{Goes, nobody}}
use Rattle.shm_headline.proofs.Going.{run_goes}
use Rattle.shm_session.specs.Sessions.{Operations}
use Rattle.shm_sessions.specs.Kept.{AreKept}
use Rattle.shm_sessions.specs.Logs.{Happening, Opens, Calls, Steps, Closes, IsLog, MayHappen, Sitting, nothing_open, sessions_by, turns_by, turns_in, words_by}
use Rattle.shm_sessions.proofs.{Standing.Keeps, Turning.{Went, calls, closes, opens, steps}}

module _ {S A : Type 0} (g : Geometry) (o : Operations S A) (fits : S → Memo → Memo → Trail → Type 0) (gives : S → Memo → Memo → Trail → A → Type 0) (always : Memo → Type 0) (between : Me → Memo → Type 0) (owed : AreKept o fits gives always between) (laws : Laws o.control fits gives) where
  happens : (q : ℕ → Option (Sitting S)) (s : State) (x : Happening) → Keeps g o fits gives always between q s → MayHappen g o x q s.words → Went g o fits gives always between owed laws (sessions_by g o x q) (turns_by g o x q) (words_by g o x q s.words) s
  happens q s (Opens c n) h may = opens g o fits gives always between owed laws q s h c n may.0 may.1 may.2
  happens q s (Calls c call) h may = calls g o fits gives always between owed laws q s h c call may.0 may.1 may.2 may.3
  happens q s (Steps c n) h may = steps g o fits gives always between owed laws q s h c n may.0 (q c) refl may.1 may.2
  happens q s (Closes c) h may = closes g o fits gives always between owed laws q s h c (q c) refl

  pub run : (q : ℕ → Option (Sitting S)) (s : State) (hs : List Happening) (vs : List ℕ) → Keeps g o fits gives always between q s → IsLog g o q s.words hs vs → (b : State) × Leads g s (turns_in g o q hs) b × (b.words ≡ vs)
  run q s [] vs h log = (s, refl, log)
  run q s (x ∷ hs) vs h log =
      let w = happens q s x h log.0 in
      let more = run (sessions_by g o x q) w.after hs vs w.keeps (subst (λ (ws : List ℕ). IsLog g o (sessions_by g o x q) ws hs vs) (sym w.words) log.1) in
      (more.0, Leads-append g s (turns_by g o x q) w.after (turns_in g o (sessions_by g o x q) hs) more.0 w.leads more.1, more.2)

module _ {S A : Type 0} (o : Operations S A) (fits : S → Memo → Memo → Trail → Type 0) (gives : S → Memo → Memo → Trail → A → Type 0) (always : Memo → Type 0) (between : Me → Memo → Type 0) (owed : AreKept o fits gives always between) (laws : Laws o.control fits gives) (s : Start) (fit : GeometryFits s.geometry) (era : EraFits s.first_era) (all : (c : ℕ) → c < s.geometry.clients → always (first_memo s c)) where
  keeps : Keeps s.geometry o fits gives always between nothing_open (first_state s)
  keeps = record {
    held = first_held s fit era;
    low = λ c x e. absurd (cc);
    kept = λ c l. subst always (sym (first_memo_of s c l)) (all c l);
    sits = λ c l. (nobody_acts s c, inl (inl (ap (λ (m : Memo). m.status) (first_memo_of s c l))));
  }

  pub leads : (hs : List Happening) (ws : List ℕ) → IsLog s.geometry o nothing_open (first_words s) hs ws → (es : List Account) × Leads s.geometry (first_state s) (turns_in s.geometry o nothing_open hs) (state ws es)
  leads hs ws log =
      let x = run s.geometry o fits gives always between owed laws nothing_open (first_state s) hs ws keeps log in
      (x.0.accounts, subst (λ (vs : List ℕ). Leads s.geometry (first_state s) (turns_in s.geometry o nothing_open hs) (state vs x.0.accounts)) x.2 x.1)

  pub goes : (hs : List Happening) (ws : List ℕ) → IsLog s.geometry o nothing_open (first_words s) hs ws → Goes s.geometry nobody (first_words s) (turns_of (turns_in s.geometry o nothing_open hs)) ws
  goes hs ws log = let x = leads hs ws log in run_goes s (turns_in s.geometry o nothing_open hs) (state ws x.0) fit era x.1
