-- what ties sessions to what a pool accounts for of their identities
use Rattle.std.proofs.Common.{◌≡◌, ◌≢◌, ◌⊎◌, ℕ, ◌<◌, Bool, true, false, Option, Some, None, Ok, sym, ap, ◌∙◌, subst, inl, inr}
use Rattle.std.proofs.lemmas.Bool.{cases_eq, false≢true}
use Rattle.shm_words.specs.declared.geometry.Geometry.{Geometry}
use Rattle.shm_graph.specs.declared.{ask.Me.Me, memo.Memo.Memo, spot.Spot.TheVariants.Era}
use Rattle.shm_graph.specs.{Agents.{acts, last_agent, recovers}, Asks.Trail, Runs.{Held, State, fell_by, memos_of}}
use Rattle.shm_graph.specs.{Views.{at1, own_word}, Whole.fits_now}
use Rattle.shm_graph.specs.declared.memo.Status.TheVariants as status
use Rattle.shm_graph.proofs.Runs.Lists.{at1_here, at1_other}
use Rattle.shm_session.specs.{declared.said.{Call.Call, Stage.Stage}, Sessions.Operations}
use Rattle.shm_session.specs.declared.said.Stage.TheVariants as stage
use Rattle.shm_sessions.specs.{Kept.IsReady, Logs.{HasRoom, IsCall, Sitting, me_of}}

module _ {S A : Type 0} (g : Geometry) (o : Operations S A) (fits : S → Memo → Memo → Trail → Type 0) (gives : S → Memo → Memo → Trail → A → Type 0) (always : Memo → Type 0) (between : Me → Memo → Type 0) where
  -- the session of c is at an operation, which a call began at the memo `start`
  pub record Works (c : ℕ) (t : Stage) (m : S) (r : Memo) : Type 0 where
    pub acting : acts r ≡ true
    pub call : Call
    pub sized : IsCall call
    pub first : S
    pub begun : o.begins (me_of g c) t call ≡ Ok first
    pub start : Memo
    pub ready : IsReady always between (me_of g c) t start
    pub kind : recovers r ≡ recovers start
    pub me : o.control.me m ≡ me_of g c
    pub going : o.control.finished m ≡ false
    pub fit : fits_now o.control fits m start r
    pub gave : (x : Memo) (tr : Trail) (a : A) → gives m start x tr a → gives first start x tr a

  -- it is at none, and somebody acts for the identity or not
  abbrev pub Idle : ℕ → Stage → Bool → Memo → Type 0
  Idle c stage.Vacant false r = (acts r ≡ false) × ((r.status ≡ status.New) ⊎ (r.status ≡ status.Gone))
  Idle c stage.Vacant true r = ⊥
  Idle c stage.Live true r = (acts r ≡ true) × (HasRoom (own_word r.own (Era c c)) → between (me_of g c) r)
  Idle c stage.Live false r = ⊥
  Idle c stage.Dead false r = (acts r ≡ false) × (fell_by (last_agent r.agents) ≡ true)
  Idle c stage.Dead true r = (acts r ≡ true) × (recovers r ≡ true)

  abbrev pub SitsBy : ℕ → Stage → Option S → Bool → Memo → Type 0
  SitsBy c t (Some m) b r = (b ≡ true) × Works c t m r
  SitsBy c t None b r = Idle c t b r

  -- nobody acts, and the identity is new or gone, or whoever acted last died
  abbrev pub Rested : Memo → Type 0
  Rested r = (acts r ≡ false) × (((r.status ≡ status.New) ⊎ (r.status ≡ status.Gone)) ⊎ (fell_by (last_agent r.agents) ≡ true))

  abbrev pub Sits : ℕ → Option (Sitting S) → Memo → Type 0
  Sits c None r = Rested r
  Sits c (Some x) r = SitsBy c x.stage x.work x.acts r

  pub acts_told : (c : ℕ) (t : Stage) (w : Option S) (b : Bool) (r : Memo) → SitsBy c t w b r → acts r ≡ b
  acts_told c t (Some m) b r h = h.1.acting ∙ sym h.0
  acts_told c stage.Vacant None false r h = h.0
  acts_told c stage.Vacant None true r h = absurd h
  acts_told c stage.Live None true r h = h.0
  acts_told c stage.Live None false r h = absurd h
  acts_told c stage.Dead None false r h = h.0
  acts_told c stage.Dead None true r h = h.0

  pub at_rest : (c : ℕ) (t : Stage) (w : Option S) (b : Bool) (r : Memo) → SitsBy c t w b r → b ≡ false → Rested r
  at_rest c t (Some m) b r h e = absurd (false≢true (sym e ∙ h.0))
  at_rest c stage.Vacant None false r h e = (h.0, inl h.1)
  at_rest c stage.Vacant None true r h e = absurd h
  at_rest c stage.Live None true r h e = absurd (false≢true (sym e))
  at_rest c stage.Live None false r h e = absurd h
  at_rest c stage.Dead None false r h e = (h.0, inr h.1)
  at_rest c stage.Dead None true r h e = absurd (false≢true (sym e))

  -- the state holds, and each session stands as its identity does
  pub record Keeps (q : ℕ → Option (Sitting S)) (s : State) : Type 0 where
    pub held : Held g s.words s.accounts
    pub low : (c : ℕ) (x : Sitting S) → q c ≡ Some x → c < g.clients
    pub kept : (c : ℕ) → c < g.clients → always (memos_of s.accounts c)
    pub sits : (c : ℕ) → c < g.clients → Sits c (q c) (memos_of s.accounts c)

  -- one session changes, and at most the memo of its identity
  pub keep_at : (q : ℕ → Option (Sitting S)) (s b : State) (c : ℕ) (y : Option (Sitting S)) → Keeps q s → Held g b.words b.accounts → ((d : ℕ) → c ≢ d → memos_of b.accounts d ≡ memos_of s.accounts d) → ((x : Sitting S) → y ≡ Some x → c < g.clients) → (c < g.clients → always (memos_of b.accounts c)) → (c < g.clients → Sits c y (memos_of b.accounts c)) → Keeps (at1 q c y) b
  keep_at q s b c y h held others low kept sits =
      record {
        held = held;
        low = λ d x e. elim (cases_eq c d) [
          | inl z ↦ subst (λ (k : ℕ). k < g.clients) z (low x (sym (at1_here q c y) ∙ (ap (at1 q c y) z ∙ e)))
          | inr n ↦ h.low d x (sym (at1_other q c y d n) ∙ e)
        ];
        kept = λ d l. elim (cases_eq c d) [
          | inl z ↦ subst (λ (k : ℕ). always (memos_of b.accounts k)) z (kept (subst (λ (k : ℕ). k < g.clients) (sym z) l))
          | inr n ↦ subst always (sym (others d n)) (h.kept d l)
        ];
        sits = λ d l. elim (cases_eq c d) [
          | inl z ↦ subst (λ (k : ℕ). Sits k (at1 q c y k) (memos_of b.accounts k)) z (subst (λ (v : Option (Sitting S)). Sits c v (memos_of b.accounts c)) (sym (at1_here q c y)) (sits (subst (λ (k : ℕ). k < g.clients) (sym z) l)))
          | inr n ↦ subst (λ (v : Option (Sitting S)). Sits d v (memos_of b.accounts d)) (sym (at1_other q c y d n)) (subst (Sits d (q d)) (sym (others d n)) (h.sits d l))
        ];
      }
