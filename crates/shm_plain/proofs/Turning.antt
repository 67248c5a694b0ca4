-- a turn of a machine that keeps the law
use Rattle.std.proofs.Common.{◌≡◌, ℕ, ◌<◌, true, false, Bool, cond, List, [], ◌∷◌, ◌++◌, length, refl, sym, ap, ◌∙◌, subst}
use Rattle.std.proofs.lemmas.List.{get_or-set_same}
use Rattle.std.specs.Prelude.{Some}
use Rattle.shm_words.specs.{declared.geometry.Geometry.Geometry, Layout.{total_of, GeometryFits}}
use Rattle.shm_graph.specs.declared.{ask.Me.Me, memo.{Agent.Agent, Kind.Kind, Memo.Memo, Step.Step}}
use Rattle.shm_graph.specs.declared.run.{Account.Account, Move.TheVariants.{Word, Dies, Begins}, Start.Start}
use Rattle.shm_graph.specs.{Asks.at_of, Agents.{acts, acts_by, entered, last_agent}, Laws.{Control, Outcome}}
use Rattle.shm_graph.specs.Runs.{Turned, state, Held, account_at, account_after, account_died, account_entered, accounts_after, changed, memos_of, EraFits}
use Rattle.shm_graph.specs.Whole.{WholeInside, WholeKeeps, WholeKept, Learns}
use Rattle.shm_graph.proofs.{States.FirstHeld.first_held, Runs.Running.{Leads-more, turned-begins, turned-dies}}
use Rattle.shm_plain.specs.Pools.{Pool, pool, first_pool, memo_of, IsRun, IsOf, MayStep, readied, turn_on, turned, after_fall}
use Rattle.shm_plain.specs.Tracks.{kind_next}

pub first_run : (s : Start) → GeometryFits s.geometry → EraFits s.first_era → IsRun (first_pool s)
first_run s fits era = record { held = first_held s fits era; leads = refl }

-- ---- the beginning of an agent

last_added : (a : Agent) (xs : List Agent) → last_agent (xs ++ a ∷ []) ≡ Some a
last_added a [] = refl
last_added a (x ∷ []) = refl
last_added a (x ∷ y ∷ ys) = last_added a (y ∷ ys)

entered_acts : (k : Kind) (m : Memo) → acts (entered k m) ≡ true
entered_acts k m = ap acts_by (last_added _ m.agents)

-- where no agent of the identity acts, its memo is that with the one that begins
pub ready_memo : (p : Pool) (c : ℕ) → c < length p.accounts → let m = memo_of p c in memo_of (readied p c) c ≡ cond (acts m) m (entered (kind_next m) m)
ready_memo p c l = go (acts (memo_of p c))
  where
    go : (b : Bool) → let m = memo_of p c in memos_of (cond b p.accounts (changed (account_entered (kind_next m)) p.accounts c)) c ≡ cond b m (entered (kind_next m) m)
    go true = refl
    go false = ap (λ (x : Account). x.memo) (get_or-set_same p.accounts c _ _ l)

pub ready_run : (p : Pool) (c : ℕ) → IsRun p → c < p.start.geometry.clients → MayStep p c → IsRun (readied p c) × (acts (memo_of (readied p c) c) ≡ true)
ready_run p c run l may = go (acts (memo_of p c)) refl
  where
    k : Kind
    k = kind_next (memo_of p c)

    es' : List Account
    es' = changed (account_entered k) p.accounts c

    here : account_at es' c ≡ account_entered k (account_at p.accounts c)
    here = get_or-set_same p.accounts c _ _ (subst (λ (z : ℕ). c < z) (sym run.held.accounts) l)

    begins : acts (memo_of p c) ≡ false → IsRun (pool p.start p.words es' (p.turns ++ Begins c k ∷ []))
    begins e =
        let now : Turned p.start.geometry (state p.words p.accounts) (Begins c k) = turned-begins p.start.geometry (state p.words p.accounts) c k run.held l in
        record { held = now.held; leads = Leads-more p.start.geometry _ p.turns _ (Begins c k) run.leads (subst (λ (z : ℕ). c < z) (sym run.held.accounts) l, e, may e) now }

    go : (b : Bool) → acts (memo_of p c) ≡ b → let es = cond b p.accounts es' in IsRun (pool p.start p.words es (cond b p.turns (p.turns ++ Begins c k ∷ []))) × (acts (account_at es c).memo ≡ true)
    go true e = (run, e)
    go false e = (begins e, ap (λ (x : Account). acts x.memo) here ∙ entered_acts k (memo_of p c))

-- ---- the death of an agent

pub fall_run : (p : Pool) (c : ℕ) → IsRun p → c < p.start.geometry.clients → IsRun (after_fall p c)
fall_run p c run l = go (acts (memo_of p c)) refl
  where
    es' : List Account
    es' = changed account_died p.accounts c

    go : (b : Bool) → acts (memo_of p c) ≡ b → IsRun (pool p.start p.words (cond b es' p.accounts) (cond b (p.turns ++ Dies c ∷ []) p.turns))
    go false e = run
    go true e =
        let now : Turned p.start.geometry (state p.words p.accounts) (Dies c) = turned-dies p.start.geometry (state p.words p.accounts) c run.held l in
        record { held = now.held; leads = Leads-more p.start.geometry _ p.turns _ (Dies c) run.leads e now }

-- ---- a word step

module _ {M A : Type 0} (k : Control M A) (fits : M → Memo → Memo → Type 0) (gives : M → Memo → Memo → A → Type 0) (keeps : WholeKeeps k fits gives) where
  pub within : WholeInside k fits gives → (p : Pool) (who : ℕ) (m : M) (r0 : Memo) → IsRun p → IsOf p who k m → fits m r0 (memo_of p who) → at_of (k.asks m) < length p.words
  within inside p who m r0 run is fit =
      let me : k.me m ≡ record { geometry = p.start.geometry; who = who } = is.0 in
      let h = inside m r0 (memo_of p who) (let lt : who < p.start.geometry.clients = is.1 in subst (λ (z : Me). z.who < z.geometry.clients) (sym me) lt) fit is.2 in
      subst (λ (z : ℕ). at_of (k.asks m) < z) (sym run.held.words) (subst (λ (z : Me). at_of (k.asks m) < total_of z.geometry) me h)

  pub kept : (p : Pool) (who : ℕ) (m : M) (r0 : Memo) → IsRun p → IsOf p who k m → fits m r0 (memo_of p who)
      → WholeKept k fits gives m p.words p.accounts r0 (turn_on p k m).seen
  kept p who m r0 run is fit =
      let me : k.me m ≡ record { geometry = p.start.geometry; who = who } = is.0 in
      let g : (k.me m).geometry ≡ p.start.geometry = ap (λ (z : Me). z.geometry) me in
      let w : (k.me m).who ≡ who = ap (λ (z : Me). z.who) me in
      keeps m p.words p.accounts r0 (subst (λ (z : Geometry). Held z p.words p.accounts) (sym g) run.held) (let lt : who < p.start.geometry.clients = is.1 in subst (λ (z : Me). z.who < z.geometry.clients) (sym me) lt) (subst (λ (z : ℕ). fits m r0 (memo_of p z)) (sym w) fit) is.2

  pub turned_run : (p : Pool) (who : ℕ) (m : M) (r0 : Memo) → IsRun p → acts (memo_of p who) ≡ true → IsOf p who k m → fits m r0 (memo_of p who) → IsRun (turned p (turn_on p k m))
  turned_run p who m r0 run acting is fit =
      let x = kept p who m r0 run is fit in
      let g : (k.me m).geometry ≡ p.start.geometry = ap (λ (z : Me). z.geometry) is.0 in
      let w : (k.me m).who ≡ who = ap (λ (z : Me). z.who) is.0 in
      let now : Turned p.start.geometry (state p.words p.accounts) (Word (turn_on p k m)) = subst (λ (z : Geometry). Turned z (state p.words p.accounts) (Word (turn_on p k m))) g x.turned in
      record { held = now.held; leads = Leads-more p.start.geometry _ p.turns _ (Word (turn_on p k m)) run.leads (refl, subst (λ (z : ℕ). acts (memo_of p z) ≡ true) (sym w) acting) now }

  pub learned : (p : Pool) (who : ℕ) (m : M) → IsRun p → IsOf p who k m
      → Learns k fits gives m (turn_on p k m).seen (memo_of p who) (memo_of (turned p (turn_on p k m)) who)
  learned p who m run is r0 fit =
      let x = kept p who m r0 run is fit in
      let t : Step = turn_on p k m in
      let c : ℕ = (k.me m).who in
      let w : c ≡ who = ap (λ (z : Me). z.who) is.0 in
      let lt : who < p.start.geometry.clients = is.1 in
      let at : account_at (accounts_after p.accounts t) c ≡ account_after (account_at p.accounts c) t = get_or-set_same p.accounts c _ _ (subst (λ (z : ℕ). c < z) (sym run.held.accounts) (subst (λ (z : ℕ). z < p.start.geometry.clients) (sym w) lt)) in
      subst (λ (z : ℕ). Outcome (k.turns m t.seen) (fits (k.after m t.seen) r0 (memo_of (turned p t) z)) (gives m r0 (memo_of (turned p t) z))) w
      (subst (λ (z : Account). Outcome (k.turns m t.seen) (fits (k.after m t.seen) r0 z.memo) (gives m r0 z.memo)) (sym at) x.learns)
