-- runs, one turn on and one after another, and turns that change no word
use Rattle.std.proofs.Common.{◌≡◌, ℕ, ◌<◌, List, [], ◌∷◌, ◌++◌, length, refl, sym, ap, ◌∙◌, subst, false}
use Rattle.std.proofs.Math.Path.{fun_ext}
use Rattle.shm_words.specs.declared.geometry.Geometry.{Geometry}
use Rattle.shm_graph.specs.declared.{memo.{Kind.Kind, Memo.Memo}, run.{Account.Account, Move.Move}}
use Rattle.shm_graph.specs.{declared.run.Move.TheVariants.{Dies, Begins}, Spots.see, Views.{View, at1, view}}
use Rattle.shm_graph.specs.Held.{HeldAt}
use Rattle.shm_graph.specs.Runs.{Held, State, moved, IsMove, Turned, Leads, changed, account_died, account_entered, memos_of, account_at}
use Rattle.shm_graph.proofs.Runs.Lists.{at1_part_same, memos_of-changed, length-changed}

-- ---- runs

-- what each turn keeps, a run keeps
pub Leads-keeps : (P : State → Type 0) → (g : Geometry) → ((s : State) (m : Move) → P s → IsMove s m → Turned g s m → P (moved s m)) → (a : State) (ms : List Move) (b : State) → P a → Leads g a ms b → P b
Leads-keeps P g keep a [] b p run = subst P run p
Leads-keeps P g keep a (m ∷ ms) b p run = Leads-keeps P g keep (moved a m) ms b (keep a m p run.0 run.1) run.2

pub Leads-append : (g : Geometry) (a : State) (ms : List Move) (b : State) (ns : List Move) (c : State) → Leads g a ms b → Leads g b ns c → Leads g a (ms ++ ns) c
Leads-append g a [] b ns c run more = subst (λ (s : State). Leads g s ns c) (sym run) more
Leads-append g a (m ∷ ms) b ns c run more = (run.0, run.1, Leads-append g (moved a m) ms b ns c run.2 more)

pub Leads-more : (g : Geometry) (a : State) (ms : List Move) (b : State) (m : Move) → Leads g a ms b → IsMove b m → Turned g b m → Leads g a (ms ++ m ∷ []) (moved b m)
Leads-more g a ms b m run turn held = Leads-append g a ms b (m ∷ []) (moved b m) run (turn, held, refl)

-- the turns before the last ones lead to a state from which those lead on
pub Leads-split : (g : Geometry) (a : State) (ms ns : List Move) (c : State) → Leads g a (ms ++ ns) c → (b : State) × Leads g a ms b × Leads g b ns c
Leads-split g a [] ns c run = (a, refl, run)
Leads-split g a (m ∷ ms) ns c run = let x = Leads-split g (moved a m) ms ns c run.2 in (x.0, (run.0, run.1, x.1), x.2)

pub Leads-held : (g : Geometry) (a : State) (ms : List Move) (b : State) → Held g a.words a.accounts → Leads g a ms b → Held g b.words b.accounts
Leads-held g a ms b h run = Leads-keeps (λ s. Held g s.words s.accounts) g (λ s m p turn held. held.held) a ms b h run

-- ---- turns that change no word

-- the parts of a memo that the invariant reads, and others
abbrev pub shown : Memo → Memo
shown m = record m { call = []; over = false; agents = [] }

-- the view doesn't read the call and the agents
pub view-at1 : (r : ℕ → Memo) (c : ℕ) (m : Memo) → shown m ≡ shown (r c) → view (at1 r c m) ≡ view r
view-at1 r c m same =
    let each : (λ (d : ℕ). shown (at1 r c m d)) ≡ (λ (d : ℕ). shown (r d)) = fun_ext (λ d. at1_part_same shown r c m d same) in
    ap view each

pub held-changed : (g : Geometry) (ws : List ℕ) (es : List Account) (c : ℕ) (f : Account → Account) → Held g ws es → c < g.clients → shown (f (account_at es c)).memo ≡ shown (account_at es c).memo → Held g ws (changed f es c)
held-changed g ws es c f h l same =
    let long : c < length es = subst (λ (z : ℕ). c < z) (sym h.accounts) l in
    let now : view (memos_of (changed f es c)) ≡ view (memos_of es) = ap view (memos_of-changed f es c long) ∙ view-at1 (memos_of es) c (f (account_at es c)).memo same in
    record {
      words = h.words;
      accounts = length-changed f es c ∙ h.accounts;
      at = subst (λ (v : View). HeldAt g (see g ws) v) (sym now) h.at;
    }

pub turned-dies : (g : Geometry) (s : State) (c : ℕ) → Held g s.words s.accounts → c < g.clients → Turned g s (Dies c)
turned-dies g s c h l = record { held = held-changed g s.words s.accounts c account_died h l refl; event = tt }

pub turned-begins : (g : Geometry) (s : State) (c : ℕ) (k : Kind) → Held g s.words s.accounts → c < g.clients → Turned g s (Begins c k)
turned-begins g s c k h l = record { held = held-changed g s.words s.accounts c (account_entered k) h l refl; event = tt }

-- ---- what turns leave of the accounts
