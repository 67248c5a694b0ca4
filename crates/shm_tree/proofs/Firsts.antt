-- What the first event of a call says of the pool before it, and what freeing leaves.
use Rattle.std.proofs.Common.{◌≡◌, ◌==◌, ℕ, ◌<◌, Bool, true, false, List, [], ◌∷◌, ◌||◌, refl, sym, ap, ◌∙◌, subst, length, inl, inr}
use Rattle.std.proofs.lemmas.Bool.{cases_Bool, cond-true, eq-eqb, false≢true}
use Rattle.std.specs.List.{AllByRecursion, filter, list_any}
use Rattle.shm_words.specs.declared.geometry.Geometry.{Geometry}
use Rattle.shm_graph.specs.declared.{memo.Kind.Kind, run.Move.{Move, TheVariants.{Begins, Dies, Word}}, spot.Spot.Spot}
use Rattle.shm_graph.specs.{Asks.at_of, Blocks.headers, CallEvents.events_in}
use Rattle.shm_graph.specs.Events.{Event, Nothing, Alloc, Up, Down, ChangeUp, ChangeDown, Free, Graph, Happens, IsSame, graph_of}
use Rattle.shm_graph.specs.{Laws.event_on, Runs.{Held, Leads, State, account_at, account_entered, memos_of, moved}}
use Rattle.shm_graph.specs.{Spots.{classes_in, see, spot_at}, Tells.is_event, Views.{View, view}}
use Rattle.shm_graph.proofs.Runs.{Lists.memos_of-changed, Running.view-at1}
use Rattle.shm_plain.specs.{Calls.{AreOf, Did, state_of}, Pools.{IsRun, Pool}}
use Rattle.shm_tree.proofs.{Frames.{Unmade, dead_kept, frees}, Turns.{did_leads, turns_keep}}

-- the graph of a state
abbrev pub graph_at : Geometry → State → Graph
graph_at g s = graph_of g (see g s.words) (view (memos_of s.accounts))

head_same : {X : Type 0} (x y : X) (xs ys : List X) → x ∷ xs ≡ y ∷ ys → x ≡ y
head_same {X} x y xs ys e = ap first e
  where
    first : List X → X
    first [] = x
    first (z ∷ zs) = z

-- the graph doesn't change where an agent begins
pub begins_graph : (g : Geometry) (s : State) (d : ℕ) (k : Kind) → d < length s.accounts → graph_at g (moved s (Begins d k)) ≡ graph_at g s
begins_graph g s d k long = ap (graph_of g (see g s.words)) (ap view (memos_of-changed (account_entered k) s.accounts d long) ∙ view-at1 (memos_of s.accounts) d (account_entered k (account_at s.accounts d)).memo refl)

module _ (g : Geometry) (c : ℕ) (Q : Graph → Type 0) (back : (a b : Graph) → IsSame a b → Q b → Q a) (e : Event) (es : List Event) (tells : (w : Spot → ℕ) (a b : Graph) (v : View) → a ≡ graph_of g w v → Happens g w e a b → Q a) where
  -- by the event of the next word step
  by : (x : Event) (rest : List Event) (w : Spot → ℕ) (v : View) (b : Graph) → filter is_event (x ∷ rest) ≡ e ∷ es → Happens g w x (graph_of g w v) b → (filter is_event rest ≡ e ∷ es → Q b) → Q (graph_of g w v)
  by Nothing rest w v b eq h on = back (graph_of g w v) b h (on eq)
  by (Alloc d k y) rest w v b eq h on = tells w (graph_of g w v) b v refl (subst (λ z. Happens g w z (graph_of g w v) b) (head_same (Alloc d k y) e (filter is_event rest) es eq) h)
  by (Up d p y) rest w v b eq h on = tells w (graph_of g w v) b v refl (subst (λ z. Happens g w z (graph_of g w v) b) (head_same (Up d p y) e (filter is_event rest) es eq) h)
  by (Down d p y) rest w v b eq h on = tells w (graph_of g w v) b v refl (subst (λ z. Happens g w z (graph_of g w v) b) (head_same (Down d p y) e (filter is_event rest) es eq) h)
  by (ChangeUp d p x y) rest w v b eq h on = tells w (graph_of g w v) b v refl (subst (λ z. Happens g w z (graph_of g w v) b) (head_same (ChangeUp d p x y) e (filter is_event rest) es eq) h)
  by (ChangeDown d y) rest w v b eq h on = tells w (graph_of g w v) b v refl (subst (λ z. Happens g w z (graph_of g w v) b) (head_same (ChangeDown d y) e (filter is_event rest) es eq) h)
  by (Free d y) rest w v b eq h on = tells w (graph_of g w v) b v refl (subst (λ z. Happens g w z (graph_of g w v) b) (head_same (Free d y) e (filter is_event rest) es eq) h)

  turns_tell : (a : State) (ms : List Move) (b : State) → AreOf c ms → Leads g a ms b → filter is_event (events_in g c a ms) ≡ e ∷ es → Q (graph_at g a)
  turns_tell a [] b own run eq = cc
  turns_tell a (Word t ∷ ms) b own run eq =
      let x : Event = event_on (memos_of a.accounts c) t (spot_at g (classes_in g a.words) (at_of t.ask)) in
      let rest : List Event = events_in g c (moved a (Word t)) ms in
      let all : filter is_event (x ∷ rest) ≡ e ∷ es = ap (filter is_event) (sym (cond-true (t.me.who == c) (x ∷ rest) rest (eq-eqb t.me.who c own.0))) ∙ eq in
      let happens : Happens g (see g a.words) x (graph_at g a) (graph_at g (moved a (Word t))) =
      subst (λ (d : ℕ). Happens g (see g a.words) (event_on (memos_of a.accounts d) t (spot_at g (classes_in g a.words) (at_of t.ask))) (graph_at g a) (graph_at g (moved a (Word t)))) own.0 run.1.event.one_event.event in
      by x rest (see g a.words) (view (memos_of a.accounts)) (graph_at g (moved a (Word t))) all happens (λ eq'. turns_tell (moved a (Word t)) ms b own.1 run.2 eq')
  turns_tell a (Begins d k ∷ ms) b own run eq = subst Q (begins_graph g a d k run.0.0) (turns_tell (moved a (Begins d k)) ms b own.1 run.2 eq)
  turns_tell a (Dies d ∷ ms) b own run eq = absurd own

-- What the first event says of the graph where it happens, where words steps without an event leave that, holds of the pool before
pub first_tells : (c : ℕ) (p q : Pool) (e : Event) (es : List Event) → IsRun p → IsRun q → q.start ≡ p.start → Did c p q (e ∷ es) → (Q : Graph → Type 0) → ((a b : Graph) → IsSame a b → Q b → Q a) → ((w : Spot → ℕ) (a b : Graph) (v : View) → a ≡ graph_of p.start.geometry w v → Happens p.start.geometry w e a b → Q a) → Q (graph_at p.start.geometry (state_of p))
first_tells c p q e es hp hq start did Q back tells =
    turns_tell p.start.geometry c Q back e es tells (state_of p) did.turns (state_of q) did.own (did_leads c p q (e ∷ es) hp hq start did) did.events

-- ---- freed blocks

-- a block is freed among these events
abbrev pub frees_any : ℕ → List Event → Bool
frees_any b es = list_any (λ e. frees e b) es

module _ (g : Geometry) (c b : ℕ) where
  -- by the event of the next word step, and of those after it
  freed_by : (x : Event) (rest : List Event) (a d : Graph) (w : Spot → ℕ) (Over : Type 0) → Happens g w x a d → AllByRecursion (Unmade b) (filter is_event (x ∷ rest)) → frees_any b (filter is_event (x ∷ rest)) ≡ true
      → (d.live b ≡ false → AllByRecursion (Unmade b) (filter is_event rest) → Over) → (AllByRecursion (Unmade b) (filter is_event rest) → frees_any b (filter is_event rest) ≡ true → Over) → Over
  freed_by Nothing rest a d w Over h all any now later = later all any
  freed_by (Alloc e k y) rest a d w Over h all any now later = later all.1 any
  freed_by (Up e p y) rest a d w Over h all any now later = later all.1 any
  freed_by (Down e p y) rest a d w Over h all any now later = later all.1 any
  freed_by (ChangeUp e p x y) rest a d w Over h all any now later = later all.1 any
  freed_by (ChangeDown e y) rest a d w Over h all any now later = later all.1 any
  freed_by (Free e y) rest a d w Over h all any now later =
      elim (cases_Bool (y == b)) [
        | inl s ↦ now (h.4.lives b ∙ cond-true (y == b) false (a.live b) s) all.1
        | inr s ↦ later all.1 (ap (λ z. z || frees_any b (filter is_event rest)) (sym s) ∙ any)
      ]

  turns_free : (a : State) (ms : List Move) (z : State) → Held g a.words a.accounts → AreOf c ms → Leads g a ms z → AllByRecursion (Unmade b) (filter is_event (events_in g c a ms)) → frees_any b (filter is_event (events_in g c a ms)) ≡ true → (headers (see g z.words) b).live ≡ false
  turns_free a [] z held own run all any = absurd (false≢true any)
  turns_free a (Word t ∷ ms) z held own run all any =
      let x : Event = event_on (memos_of a.accounts c) t (spot_at g (classes_in g a.words) (at_of t.ask)) in
      let rest : List Event = events_in g c (moved a (Word t)) ms in
      let same : events_in g c a (Word t ∷ ms) ≡ x ∷ rest = cond-true (t.me.who == c) (x ∷ rest) rest (eq-eqb t.me.who c own.0) in
      let happens : Happens g (see g a.words) x (graph_at g a) (graph_at g (moved a (Word t))) =
      subst (λ (d : ℕ). Happens g (see g a.words) (event_on (memos_of a.accounts d) t (spot_at g (classes_in g a.words) (at_of t.ask))) (graph_at g a) (graph_at g (moved a (Word t)))) own.0 run.1.event.one_event.event in
      freed_by x rest (graph_at g a) (graph_at g (moved a (Word t))) (see g a.words) ((headers (see g z.words) b).live ≡ false) happens
      (subst (λ es. AllByRecursion (Unmade b) (filter is_event es)) same all) (subst (λ es. frees_any b (filter is_event es) ≡ true) same any)
      (λ dead more. turns_keep g c (Unmade b) refl (λ w v. (headers w b).live ≡ false) (dead_kept g c b) (moved a (Word t)) ms z run.1.held own.1 run.2 more dead)
      (λ more any'. turns_free (moved a (Word t)) ms z run.1.held own.1 run.2 more any')
  turns_free a (Begins d k ∷ ms) z held own run all any = turns_free (moved a (Begins d k)) ms z run.1.held own.1 run.2 all any
  turns_free a (Dies d ∷ ms) z held own run all any = absurd own

-- A block that was freed, and none of whose like was made, isn't live in the end
pub freed_dead : (c : ℕ) (p q : Pool) (es : List Event) → IsRun p → IsRun q → q.start ≡ p.start → Did c p q es → (b : ℕ) → AllByRecursion (Unmade b) es → frees_any b es ≡ true → (headers (see p.start.geometry q.words) b).live ≡ false
freed_dead c p q es hp hq start did b all any =
    turns_free p.start.geometry c b (state_of p) did.turns (state_of q) hp.held did.own (did_leads c p q es hp hq start did) (subst (AllByRecursion (Unmade b)) (sym did.events) all) (subst (λ xs. frees_any b xs ≡ true) (sym did.events) any)
