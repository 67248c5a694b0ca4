-- the loads of the commit test keep the invariant, its window with them
use Rattle.std.proofs.Common.{refl, ◌≡◌, ◌≢◌, ℕ, ◌+◌, ◌<◌, ◌≤◌, ap, arith, subst, inl, inr, List, ◌∷◌, Option, Some}
use Rattle.std.proofs.lemmas.{List.Elements.All-cons, Bool.{cases_eq, ne_eqb, eq-eqb}}
use Rattle.std.specs.List.{All}
use Rattle.shm_words.specs.{Headers.header_of, declared.geometry.Geometry.Geometry}
use Rattle.shm_graph.specs.declared.{spot.Spot.{Spot, TheVariants.{Era, Tail, QueueHead, Page, Head}}, memo.Fact.Fact}
use Rattle.shm_graph.specs.declared.memo.{Fact.TheVariants.{Header as HeaderRead, Counter}, Test.Test}
use Rattle.shm_graph.specs.{Views.{at1, View, ons}, Events.{Nothing, graph_of, Happens}, Held.{HeldAt, FactAt, TestAt}}
use Rattle.shm_graph.specs.MemoAfterRead.{next_row}
use Rattle.shm_graph.proofs.Memos.{Frames.at1_all, RecallHeld.memo_held}
use Rattle.kind_laws.specs.Loads.{header_view, row_view}

-- one more fact that holds, another window that holds
pub fact_kept : (g : Geometry) (w : Spot → ℕ) (v : View) (c : ℕ) (f : Fact) (test : Option Test) → HeldAt g w v → c < g.clients → FactAt g.clients (λ i j. w (Era i j)) (ons v) (λ s r. w (Tail s r)) (λ s r. w (QueueHead s r)) (λ s q. w (Page s q)) f → TestAt g.clients (λ i j. w (Era i j)) (ons v c) c test
    → HeldAt g w (record v { facts = at1 v.facts c (f ∷ v.facts c); test = at1 v.test c test })
fact_kept g w v c f test h lc new window =
    memo_held g w v _ h refl (record {
      making = h.making;
      slots = h.slots;
      looks = h.looks;
      known = h.known;
      facts = λ d. at1_all (λ (i : ℕ) (x : List Fact). i < g.clients → All (FactAt g.clients (λ i j. w (Era i j)) (ons v) (λ s r. w (Tail s r)) (λ s r. w (QueueHead s r)) (λ s q. w (Page s q))) x) v.facts c (f ∷ v.facts c) d
          (λ l. All-cons (FactAt g.clients (λ i j. w (Era i j)) (ons v) (λ s r. w (Tail s r)) (λ s r. w (QueueHead s r)) (λ s q. w (Page s q))) f (v.facts c) new (h.facts c l)) (λ m. h.facts d);
      zeros = h.zeros;
      test = λ d. at1_all (λ (i : ℕ) (x : Option Test). i < g.clients → TestAt g.clients (λ i j. w (Era i j)) (ons v i) i x) v.test c test d (λ l. window) (λ m. h.test d);
      fresh = h.fresh;
      values = h.values;
      made = h.made;
    })

-- what a header shows is a fact
pub header_fact : (g : Geometry) (w : Spot → ℕ) (v : View) (b : ℕ) → HeldAt g w v → FactAt g.clients (λ i j. w (Era i j)) (ons v) (λ s r. w (Tail s r)) (λ s r. w (QueueHead s r)) (λ s q. w (Page s q)) (HeaderRead (w (Head b)))
header_fact g w v b h = λ l. let q = h.era.header b l in (h.era.client b l, record { most = q.most; equal = λ e. (b, q.equal e) })

-- a header that didn't show the op opens the window at row 0
pub header_kept : (g : Geometry) (w : Spot → ℕ) (v : View) (c b : ℕ) → HeldAt g w v → c < g.clients
    → (((header_of (w (Head b))).client ≡ c) × ((header_of (w (Head b))).era ≡ w (Era c c)) → ⊥)
    → HeldAt g w (header_view v c (w (Head b)) (Some (record { block = b; next = 0 })))
header_kept g w v c b h lc differs = fact_kept g w v c (HeaderRead (w (Head b))) (Some (record { block = b; next = 0 })) h lc (header_fact g w v b h)
    (λ e. elim (h.era.shown c b lc e) [
      | inl t ↦ absurd (differs t)
      | inr t ↦ (t.0, omega arith, t.1, t.2, t.3)
    ])

next_passes : (c next k : ℕ) → next ≤ k → k ≢ c → next_row c next ≤ k
next_passes c next k l n = elim (cases_eq next c) [
  | inl e ↦ rw (eq-eqb next c e) (omega arith)
  | inr d ↦ rw (ne_eqb next c d) l
]

-- the next row of another identity, which was below, moves the window past it
pub row_kept : (g : Geometry) (w : Spot → ℕ) (v : View) (c k : ℕ) (t : Test) → HeldAt g w v → c < g.clients → v.test c ≡ Some t → next_row c t.next ≡ k → w (Era k c) < w (Era c c)
    → HeldAt g w (row_view v c k (w (Era k c)) (Some (record { block = t.block; next = k + 1 })))
row_kept g w v c k t h lc test is below = fact_kept g w v c (Counter (Era k c) (w (Era k c))) (Some (record { block = t.block; next = k + 1 })) h lc (omega arith)
    (λ e. let q : TestAt g.clients (λ i j. w (Era i j)) (ons v c) c (Some t) = subst (TestAt g.clients (λ i j. w (Era i j)) (ons v c) c) test (h.test c lc) in let r = q e in
    (r.0, (let n : r.0 ≢ k = (λ z. let s : w (Era r.0 c) ≡ w (Era k c) = ap (λ i. w (Era i c)) z in let u = r.4 in omega arith) in let m = next_passes c t.next r.0 r.1 r.3 in omega arith), r.2, r.3, r.4))

-- what is read of headers and rows leaves the graph
pub header_quiet : (g : Geometry) (w : Spot → ℕ) (v : View) (c b : ℕ) (test : Option Test) → Happens g w Nothing (graph_of g w v) (graph_of g w (header_view v c (w (Head b)) test))
header_quiet g w v c b test = record { lives = λ x. refl; shapes = λ x. refl; targets = λ p. refl; held_overs = λ d. refl }

pub row_quiet : (g : Geometry) (w : Spot → ℕ) (v : View) (c k : ℕ) (test : Option Test) → Happens g w Nothing (graph_of g w v) (graph_of g w (row_view v c k (w (Era k c)) test))
row_quiet g w v c k test = record { lives = λ x. refl; shapes = λ x. refl; targets = λ p. refl; held_overs = λ d. refl }
