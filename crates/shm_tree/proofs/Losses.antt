-- What a word named before that lost its reference.
use Rattle.std.proofs.Common.{◌≡◌, ◌≢◌, ◌==◌, ℕ, zero, suc, List, [], ◌∷◌, sym, ◌∙◌, subst, inl, inr, arith}
use Rattle.std.proofs.lemmas.{Bool.{cases_Bool, cond-true, cond-false, eq-eqb}, List.Elements.Contains-append_cases}
use Rattle.std.specs.List.{AllByRecursion, Contains, filter}
use Rattle.shm_words.specs.declared.geometry.Geometry.{Geometry}
use Rattle.shm_graph.specs.{declared.{run.Move.{Move, TheVariants.{Begins, Dies, Word}}, spot.Spot.Spot}, Asks.at_of}
use Rattle.shm_graph.specs.CallEvents.{events_in}
use Rattle.shm_graph.specs.Events.{Event, Nothing, Alloc, Up, Down, ChangeUp, ChangeDown, Free, Graph, Happens}
use Rattle.shm_graph.specs.{Laws.event_on, Runs.{Leads, State, memos_of, moved}}
use Rattle.shm_graph.specs.{Spots.{classes_in, same_spot, see, spot_at}, Tells.is_event}
use Rattle.shm_plain.specs.{Calls.{AreOf, Did, state_of}, Pools.{IsRun, Pool}}
use Rattle.shm_tree.proofs.{Firsts.{begins_graph, graph_at}, Nodes.names, Turns.did_leads}

-- a reference is lost, or a block is freed
abbrev pub Loses : Event → Type 0
Loses (Down c s b) = Unit {0}
Loses (Free c b) = Unit {0}
Loses e = ⊥

module _ (g : Geometry) (c : ℕ) (s : Spot) (t : ℕ) where
  -- the word named it, and it is a block
  abbrev Named : Graph → Type 0
  Named a = (a.target s ≡ t) × (t ≢ 0)

  spot_told : (e : ℕ) (p : Spot) (u : ℕ) → Down e p u ≡ Down c s t → (p ≡ s) × (u ≡ t)
  spot_told e p u same = (cc, cc)

  -- by the event of the next word step, and what the word names after it
  lost_by : (x : Event) (rest : List Event) (a b : Graph) (w : Spot → ℕ) → Happens g w x a b → AllByRecursion Loses (filter is_event (x ∷ rest)) → Contains (filter is_event (x ∷ rest)) (Down c s t) → (AllByRecursion Loses (filter is_event rest) → Contains (filter is_event rest) (Down c s t) → Named b) → Named a
  lost_by Nothing rest a b w h all there next = let y = next all there in (sym (h.targets s) ∙ y.0, y.1)
  lost_by (Down e p u) rest a b w h all there next =
      elim (Contains-append_cases (Down e p u ∷ []) (filter is_event rest) (Down c s t) there) [
        | inl y ↦ (let z = spot_told e p u (only y) in (subst (λ (x : Spot). a.target x ≡ t) z.0 (h.1 ∙ z.1), (λ n. h.0 (z.1 ∙ n))))
        | inr y ↦ (let z = next all.1 y in
            elim (cases_Bool (same_spot p s)) [
              | inl e ↦ absurd (z.1 (sym z.0 ∙ (h.2.targets s ∙ cond-true (same_spot p s) 0 (a.target s) e)))
              | inr e ↦ (sym (cond-false (same_spot p s) 0 (a.target s) e) ∙ (sym (h.2.targets s) ∙ z.0), z.1)
            ])
      ]
    where
      only : Contains (Down e p u ∷ []) (Down c s t) → Down e p u ≡ Down c s t
      only (zero, l, q) = q
      only (suc k, l, q) = absurd (omega arith)
  lost_by (Free e u) rest a b w h all there next =
      elim (Contains-append_cases (Free e u ∷ []) (filter is_event rest) (Down c s t) there) [
        | inl y ↦ absurd (only y)
        | inr y ↦ (let z = next all.1 y in (sym (h.4.targets s) ∙ z.0, z.1))
      ]
    where
      only : Contains (Free e u ∷ []) (Down c s t) → ⊥
      only (zero, l, q) = cc
      only (suc k, l, q) = omega arith
  lost_by (Alloc e k u) rest a b w h all there next = absurd all.0
  lost_by (Up e p u) rest a b w h all there next = absurd all.0
  lost_by (ChangeUp e p u z) rest a b w h all there next = absurd all.0
  lost_by (ChangeDown e u) rest a b w h all there next = absurd all.0

  turns_lose : (a : State) (ms : List Move) (z : State) → AreOf c ms → Leads g a ms z → AllByRecursion Loses (filter is_event (events_in g c a ms)) → Contains (filter is_event (events_in g c a ms)) (Down c s t) → Named (graph_at g a)
  turns_lose a [] z own run all there = absurd (let l = there.1 in omega arith)
  turns_lose a (Word y ∷ ms) z own run all there =
      let x : Event = event_on (memos_of a.accounts c) y (spot_at g (classes_in g a.words) (at_of y.ask)) in
      let rest : List Event = events_in g c (moved a (Word y)) ms in
      let same : events_in g c a (Word y ∷ ms) ≡ x ∷ rest = cond-true (y.me.who == c) (x ∷ rest) rest (eq-eqb y.me.who c own.0) in
      let happens : Happens g (see g a.words) x (graph_at g a) (graph_at g (moved a (Word y))) =
      subst (λ (d : ℕ). Happens g (see g a.words) (event_on (memos_of a.accounts d) y (spot_at g (classes_in g a.words) (at_of y.ask))) (graph_at g a) (graph_at g (moved a (Word y)))) own.0 run.1.event.one_event.event in
      lost_by x rest (graph_at g a) (graph_at g (moved a (Word y))) (see g a.words) happens
      (subst (λ es. AllByRecursion Loses (filter is_event es)) same all) (subst (λ es. Contains (filter is_event es) (Down c s t)) same there)
      (λ more there'. turns_lose (moved a (Word y)) ms z own.1 run.2 more there')
  turns_lose a (Begins d k ∷ ms) z own run all there = subst Named (begins_graph g a d k run.0.0) (turns_lose (moved a (Begins d k)) ms z own.1 run.2 all there)
  turns_lose a (Dies d ∷ ms) z own run all there = absurd own

-- Where references are lost and blocks are freed, and nothing else, each word that lost one named the block before
pub lost_named : (p q : Pool) (es : List Event) → IsRun p → IsRun q → q.start ≡ p.start → Did 0 p q es → AllByRecursion Loses es → (s : Spot) (t : ℕ) → Contains es (Down 0 s t) → (names p s ≡ t) × (t ≢ 0)
lost_named p q es hp hq start did all s t there =
    turns_lose p.start.geometry 0 s t (state_of p) did.turns (state_of q) did.own (did_leads 0 p q es hp hq start did) (subst (AllByRecursion Loses) (sym did.events) all) (subst (λ xs. Contains xs (Down 0 s t)) (sym did.events) there)
