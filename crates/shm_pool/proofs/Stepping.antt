-- a step of a machine that keeps the law keeps the rule
use Rattle.std.proofs.Common.{◌≡◌, ℕ, ◌+◌, ◌<◌, ◌==◌, true, false, List, [], ◌∷◌, ◌++◌, length, map, set, refl, sym, ap, ◌∙◌, subst, arith}
use Rattle.std.proofs.lemmas.List.{set-get_or}
use Rattle.std.specs.Prelude.{slice_index, if◌then◌else◌}
use mathlib.Core.Option.{some}
use lib.ListN.{get_elem?}
use Rattle.atomic_table.specs.Table.{Me as Mine, keeps as nothing, Allows}
use Rattle.shm_words.specs.declared.geometry.Geometry.{Geometry}
use Rattle.shm_graph.specs.declared.run.{Start.Start, Account.Account, Move.{Move, TheVariants.{Word, Dies, Begins}}}
use Rattle.shm_graph.specs.{declared.{ask.{Me.Me, Ask.Ask}, memo.{Kind.Kind, Memo.Memo, Step.Step}}, Agents.acts}
use Rattle.shm_graph.specs.{Asks.{at_of, seen_of, words_set, word_after}, Laws.{Control, Outcome, step_of}}
use Rattle.shm_graph.specs.Runs.{Turned, Held, Leads, MayBegin, State, state, first_state, moved, IsMove, accounts_after, account_after, account_at, changed, account_died, account_entered, Stood, IsAmong}
use Rattle.shm_graph.specs.Whole.{WholeKeeps, WholeKept, Learns}
use Rattle.shm_graph.proofs.Runs.Running.{Leads-more, turned-dies, turned-begins}
use Rattle.shm_pool.specs.Rules.{count_in, AllKnow, Rule, IsOf, IsMade, Follows}
use Rattle.shm_pool.proofs.Counts.{count_set, knows_at, known_step, among_set}

module _ {M A : Type 0} (k : Control M A) (fits : M → Memo → Memo → Type 0) (gives : M → Memo → Memo → A → Type 0) (keeps : WholeKeeps k fits gives) where
  -- the account after the step of m on a word that was n
  abbrev pub next : M → Account → ℕ → Account
  next m e n = account_after e (step_of k m (seen_of (k.asks m) n))

  -- the law at the state of the table
  kept_at : (s : Start) (id : ℕ) (m : M) (e : Account) (r0 : Memo) → IsOf s.geometry e k m → fits m r0 e.memo → (ws : List ℕ) (views : List (List Account)) (r : Rule s ws views) → get_elem? views id ≡ some (e ∷ [])
      → WholeKept k fits gives m ws r.accounts r0 (seen_of (k.asks m) (slice_index ws (at_of (k.asks m))))
  kept_at s id m e r0 is fit ws views r at =
      let me : k.me m ≡ record { geometry = s.geometry; who = e.who } = is.0 in
      let eg : (k.me m).geometry ≡ s.geometry = ap (λ (z : Me). z.geometry) me in
      let here : account_at r.accounts (k.me m).who ≡ e = ap (λ (z : Me). account_at r.accounts z.who) me ∙ (knows_at r.accounts views id (e ∷ []) r.known at).0.1 in
      let lt : e.who < s.geometry.clients = is.1 in
      keeps m ws r.accounts r0 (subst (λ (z : Geometry). Held z ws r.accounts) (sym eg) r.held) (subst (λ (z : Me). z.who < z.geometry.clients) (sym me) lt) (subst (λ (z : Account). fits m r0 z.memo) (sym here) fit) is.2

  -- the rule after the step, and what the step tells
  pub steps : (s : Start) (id : ℕ) (m : M) (e : Account) (r0 : Memo) → IsOf s.geometry e k m → fits m r0 e.memo → (ws : List ℕ) (views : List (List Account)) → Rule s ws views → get_elem? views id ≡ some (e ∷ [])
      → Rule s (words_set (k.asks m) ws) (set views id (next m e (slice_index ws (at_of (k.asks m))) ∷ []))
      × Learns k fits gives m (seen_of (k.asks m) (slice_index ws (at_of (k.asks m)))) e.memo (next m e (slice_index ws (at_of (k.asks m)))).memo
      × Stood s (next m e (slice_index ws (at_of (k.asks m))))
      × IsMade e (step_of k m (seen_of (k.asks m) (slice_index ws (at_of (k.asks m)))))
  steps s id m e r0 is fit ws views r at =
      let n : ℕ = slice_index ws (at_of (k.asks m)) in
      let t : Step = step_of k m (seen_of (k.asks m) n) in
      let c : ℕ = (k.me m).who in
      let g : Geometry = s.geometry in
      let me : k.me m ≡ record { geometry = g; who = e.who } = is.0 in
      let eg : (k.me m).geometry ≡ g = ap (λ (z : Me). z.geometry) me in
      let ew : c ≡ e.who = ap (λ (z : Me). z.who) me in
      let among = (knows_at r.accounts views id (e ∷ []) r.known at).0 in
      let here : account_at r.accounts c ≡ e = ap (account_at r.accounts) ew ∙ among.1 in
      let lt : e.who < g.clients = is.1 in
      let x = kept_at s id m e r0 is fit ws views r at in
      let e' : Account = account_after e t in
      let rs' : List Account = accounts_after r.accounts t in
      let vs' : List (List Account) = set views id (e' ∷ []) in
      let now : Turned g (state ws r.accounts) (Word t) = subst (λ (z : Geometry). Turned z (state ws r.accounts) (Word t)) eg x.turned in
      let acting : acts (account_at r.accounts c).memo ≡ true = ap (λ (z : Account). acts z.memo) here ∙ is.3 in
      let new : account_after (account_at r.accounts c) t ≡ e' = ap (λ (z : Account). account_after z t) here in
      let leads = Leads-more g (first_state s) r.turns (state ws r.accounts) (Word t) r.leads (refl, acting) now in
      let long : c < length r.accounts = subst (λ (z : ℕ). z < length r.accounts) (sym ew) among.0 in (
        record {
          accounts = rs';
          turns = r.turns ++ Word t ∷ [];
          held = now.held;
          leads = leads;
          known = subst (λ (z : Account). AllKnow (set r.accounts c z) vs') (sym new) (known_step r.accounts c e e' views id r.known at (sym ew) (sym ew) long (r.stands c (subst (λ (z : ℕ). z < g.clients) (sym ew) lt)));
          stands = λ j l. let a = count_set j views id (e ∷ []) (e' ∷ []) at in let was = r.stands j l in omega (arith, a, was);
        },
        (λ r1 fit1. subst (λ (z : Account). Outcome (k.turns m t.seen) (fits (k.after m t.seen) r1 z.memo) (gives m r1 z.memo)) new ((kept_at s id m e r1 is fit1 ws views r at).learns)),
        record {
          words = words_set (k.asks m) ws;
          accounts = rs';
          turns = r.turns ++ Word t ∷ [];
          held = now.held;
          leads = leads;
          here = subst (λ (z : Account). IsAmong (set r.accounts c z) e') (sym new) (among_set r.accounts c e' (sym ew) long);
        },
        record { words = ws; accounts = r.accounts; held = subst (λ (z : Geometry). Held z ws r.accounts) (sym eg) r.held; here = among; move = (refl, acting); turned = x.turned },
      )

  -- what the table asks of such a step; `pick` is the number that the step tells
  pub allowed : (s : Start) (slots id : ℕ) (m : M) (e : Account) (me : Mine (Unit {0}) (List Account)) → me ≡ (e ∷ [], []) → IsOf s.geometry e k m → (r0 : Memo) → fits m r0 e.memo → (pick : ℕ → ℕ) → ((n : ℕ) → seen_of (k.asks m) (pick n) ≡ seen_of (k.asks m) n)
      → (says : List Account → ℕ → List Account → Type 0) → ((n : ℕ) → Follows k fits gives s m e n (says (e ∷ []) n)) → (ask : Ask) → k.asks m ≡ ask
      → Allows (λ z. Rule s z.words z.views) slots id me (at_of ask) (word_after ask) (λ n w. says me.0 (pick n) w.0 × (w.1 ≡ me.1))
  allowed s slots id m e me alone is r0 fit pick same says follows ask asks =
      subst (λ (a : Ask). Allows (λ z. Rule s z.words z.views) slots id me (at_of a) (word_after a) (λ n w. says me.0 (pick n) w.0 × (w.1 ≡ me.1))) asks
      (λ z r _ at small.
      let n : ℕ = slice_index z.words (at_of (k.asks m)) in
      let done = steps s id m e r0 is fit z.words z.views r (at ∙ ap (λ (y : Mine (Unit {0}) (List Account)). some y.0) alone) in
      let told : says (e ∷ []) (pick n) (next m e (pick n) ∷ []) = follows (pick n) (subst (λ (x : ℕ). Learns k fits gives m x e.memo (account_after e (step_of k m x)).memo) (sym (same n)) done.1) (subst (λ (x : ℕ). Stood s (account_after e (step_of k m x))) (sym (same n)) done.2) (subst (λ (x : ℕ). IsMade e (step_of k m x)) (sym (same n)) done.3) in
      let told' : says me.0 (pick n) (next m e n ∷ []) = subst (λ (x : ℕ). says me.0 (pick n) (account_after e (step_of k m x) ∷ [])) (same n) (subst (λ (y : Mine (Unit {0}) (List Account)). says y.0 (pick n) (next m e (pick n) ∷ [])) (sym alone) told) in
      (next m e n ∷ [], nothing, tt, done.0, (told', refl)))

-- ---- deaths and beginnings, in loads that nobody counts

-- the words that a load leaves
load_same : (ws : List ℕ) (i : ℕ) → set ws i (slice_index ws i) ≡ ws
load_same ws i = set-get_or ws i 0

-- an account changes by a turn that changes no word
module _ (m : ℕ → Move) (to : Account → Account) (who : (e : Account) → (to e).who ≡ e.who) (turned : (g : Geometry) (s : State) (c : ℕ) → Held g s.words s.accounts → c < g.clients → Turned g s (m c))
    (Can : Account → Type 0) (can : (s : State) (c : ℕ) → c < length s.accounts → Can (account_at s.accounts c) → IsMove s (m c)) (is : (s : State) (c : ℕ) → moved s (m c) ≡ state s.words (changed to s.accounts c)) where
  pub opened : (s : Start) (id : ℕ) (e : Account) → e.who < s.geometry.clients → Can e → (ws : List ℕ) (views : List (List Account)) → Rule s ws views → get_elem? views id ≡ some (e ∷ []) → Rule s ws (set views id (to e ∷ []))
  opened s id e l able ws views r at =
      let c : ℕ = e.who in
      let g : Geometry = s.geometry in
      let among = (knows_at r.accounts views id (e ∷ []) r.known at).0 in
      let z : State = state ws r.accounts in
      let here : account_at r.accounts c ≡ e = among.1 in
      let z' : State = state ws (set r.accounts c (to e)) in
      let to_z' : moved z (m c) ≡ z' = is z c ∙ (λ i. state ws (set r.accounts c (to (here i)))) in
      let now : Turned g z (m c) = turned g z c r.held l in
      record {
        accounts = set r.accounts c (to e);
        turns = r.turns ++ m c ∷ [];
        held = subst (λ (y : State). Held g y.words y.accounts) to_z' now.held;
        leads = subst (λ (y : State). Leads g (first_state s) (r.turns ++ m c ∷ []) y) to_z' (Leads-more g (first_state s) r.turns z (m c) r.leads (can z c among.0 (subst Can (sym here) able)) now);
        known = known_step r.accounts c e (to e) views id r.known at refl (who e) among.0 (r.stands c l);
        stands = λ j lj. let n = count_set j views id (e ∷ []) (to e ∷ []) at in let was = r.stands j lj in let w = who e in let same : count_in j (to e ∷ []) ≡ count_in j (e ∷ []) = ap (λ (y : ℕ). (if y == j then 1 else 0) + 0) w in omega (arith, n, was, same);
      }

  -- the account after it is one of a state that holds, where the one before was
  pub stood_by : (s : Start) (e : Account) → e.who < s.geometry.clients → Can e → Stood s e → Stood s (to e)
  stood_by s e l able x =
      let c : ℕ = e.who in
      let g : Geometry = s.geometry in
      let z : State = state x.words x.accounts in
      let here : account_at x.accounts c ≡ e = x.here.1 in
      let to_z' : moved z (m c) ≡ state x.words (set x.accounts c (to e)) = is z c ∙ (λ i. state x.words (set x.accounts c (to (here i)))) in
      let now : Turned g z (m c) = turned g z c x.held l in
      record {
        words = x.words;
        accounts = set x.accounts c (to e);
        turns = x.turns ++ m c ∷ [];
        held = subst (λ (y : State). Held g y.words y.accounts) to_z' now.held;
        leads = subst (λ (y : State). Leads g (first_state s) (x.turns ++ m c ∷ []) y) to_z' (Leads-more g (first_state s) x.turns z (m c) x.leads (can z c x.here.0 (subst Can (sym here) able)) now);
        here = among_set x.accounts c (to e) (who e) x.here.0;
      }

abbrev CanDie : Account → Type 0
CanDie e = acts e.memo ≡ true

abbrev CanBegin : Kind → Account → Type 0
CanBegin k e = (acts e.memo ≡ false) × MayBegin k e.memo

pub dies : (s : Start) (id : ℕ) (e : Account) → e.who < s.geometry.clients → acts e.memo ≡ true → (ws : List ℕ) (views : List (List Account)) → Rule s ws views → get_elem? views id ≡ some (e ∷ []) → Rule s ws (set views id (account_died e ∷ []))
dies = opened Dies account_died (λ e. refl) turned-dies CanDie (λ s c l h. h) (λ s c. refl)

pub begins : (k : Kind) (s : Start) (id : ℕ) (e : Account) → e.who < s.geometry.clients → (acts e.memo ≡ false) × MayBegin k e.memo → (ws : List ℕ) (views : List (List Account)) → Rule s ws views → get_elem? views id ≡ some (e ∷ []) → Rule s ws (set views id (account_entered k e ∷ []))
begins k = opened (λ c. Begins c k) (account_entered k) (λ e. refl) (λ g s c h l. turned-begins g s c k h l) (CanBegin k) (λ s c l h. (l, h.0, h.1)) (λ s c. refl)

pub stood_dies : (s : Start) (e : Account) → e.who < s.geometry.clients → acts e.memo ≡ true → Stood s e → Stood s (account_died e)
stood_dies = stood_by Dies account_died (λ e. refl) turned-dies CanDie (λ s c l h. h) (λ s c. refl)

pub stood_begins : (k : Kind) (s : Start) (e : Account) → e.who < s.geometry.clients → (acts e.memo ≡ false) × MayBegin k e.memo → Stood s e → Stood s (account_entered k e)
stood_begins k = stood_by (λ c. Begins c k) (account_entered k) (λ e. refl) (λ g s c h l. turned-begins g s c k h l) (CanBegin k) (λ s c l h. (l, h.0, h.1)) (λ s c. refl)

-- what the table asks of such a load
pub noted_as : (to : Account → Account) (s : Start) (slots id : ℕ) (e : Account) (me : Mine (Unit {0}) (List Account)) → me ≡ (e ∷ [], []) → ((ws : List ℕ) (views : List (List Account)) → Rule s ws views → get_elem? views id ≡ some (e ∷ []) → Rule s ws (set views id (to e ∷ [])))
    → Allows {S = Unit {0}} (λ z. Rule s z.words z.views) slots id me 0 (λ n. n) (λ n w. (w.0 ≡ map to me.0) × (w.1 ≡ me.1))
noted_as to s slots id e me alone ruled z r _ at _ =
    let vs : List (List Account) = set z.views id (to e ∷ []) in
    let done : Rule s z.words vs = ruled z.words z.views r (at ∙ ap (λ (y : Mine (Unit {0}) (List Account)). some y.0) alone) in
    (map to me.0, nothing, tt, subst (λ (v : List Account). Rule s (set z.words 0 (slice_index z.words 0)) (set z.views id v)) (sym (ap (λ (y : Mine (Unit {0}) (List Account)). map to y.0) alone)) (subst (λ (ws : List ℕ). Rule s ws vs) (sym (load_same z.words 0)) done), (refl, refl))
