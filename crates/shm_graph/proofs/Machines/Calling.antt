-- a word step joins the call: what of the memo stays, and that the pool still holds
use Rattle.std.proofs.Common.{◌≡◌, ℕ, ◌<◌, sym, ap, ◌∙◌, subst, Bool, true, false, List, [], ◌∷◌, Option}
use Rattle.std.proofs.lemmas.List.Elements.{All-nil, All-cons, All-filter}
use Rattle.std.specs.{Prelude.None, List.filter}
use Rattle.shm_words.specs.declared.geometry.Geometry.{Geometry}
use Rattle.shm_graph.specs.declared.{spot.Spot.Spot, memo.{Fact.Fact, Test.Test, Memo.Memo, Step.Step, Seen.Seen}}
use Rattle.shm_graph.specs.{declared.memo.Agent.Agent, Asks.call_after, Views.{View, view, at1}, Held.HeldAt}
use Rattle.shm_graph.specs.{Changes.{is_lane_count, called}, Agents.{with_last, stepped}}
use Rattle.shm_graph.proofs.Memos.{Frames.at1_twice, MemoParts.{call_set, view_here}}
use Rattle.shm_graph.proofs.Memos.Calls.{FactHolds, FactsHold, ZeroHolds, ZerosHold, TestHolds, MadeHold, call_held}
use Rattle.shm_graph.proofs.Runs.Lists.{at1_here}

-- what holds of the memo of a first step and of another one
pub called_by : (P : Memo → Type 0) (m : Memo) (t : Step) → P (called m (record t { fresh = true })) → P (called m (record t { fresh = false })) → P (called m t)
called_by P m t first other = by t.fresh
  where
    by : (b : Bool) → P (called m (record t { fresh = b }))
    by true = first
    by false = other

-- a part that a step leaves as it was
pub called_part : {T : Type 0} (f : Memo → T) (m : Memo) (t : Step) → f (called m (record t { fresh = true })) ≡ f m → f (called m (record t { fresh = false })) ≡ f m → f (called m t) ≡ f m
called_part f m t = called_by (λ x. f x ≡ f m) m t

-- a call that binds less
pub less_held : (g : Geometry) (w : Spot → ℕ) (r : ℕ → Memo) (c : ℕ) (fs : List Fact) (zs : List Spot) (t : Option Test) (bs : List ℕ) (call : List Seen) (over : Bool) (agents : List Agent) → HeldAt g w (view r)
    → FactsHold g w (view r) fs → ZerosHold g w c zs → TestHolds g w (view r) c t → MadeHold g w (view r) c bs
    → HeldAt g w (view (at1 r c (record (r c) { facts = fs; zeros = zs; test = t; made = bs; call = call; over = over; agents = agents })))
less_held g w r c fs zs t bs call over agents h facts zeros test made =
    let e = ap (λ (v : View). record v { facts = at1 v.facts c fs; zeros = at1 v.zeros c zs; test = at1 v.test c t; made = at1 v.made c bs }) (view_here r c) in
    subst (HeldAt g w) (e ∙ sym (call_set r c (r c) fs zs t bs call over agents)) (call_held g w (view r) c fs zs t bs h facts zeros test made)

-- the pool still holds
pub called_held : (g : Geometry) (w : Spot → ℕ) (r : ℕ → Memo) (c : ℕ) (t : Step) → HeldAt g w (view r) → c < g.clients → HeldAt g w (view (at1 r c (called (r c) t)))
called_held g w r c t h l = by t.fresh
  where
    by : (b : Bool) → HeldAt g w (view (at1 r c (called (r c) (record t { fresh = b }))))
    by true = less_held g w r c (filter is_lane_count (r c).facts) [] None [] (call_after true (r c).call t.ask t.seen) t.ends (with_last stepped (r c).agents) h (All-filter is_lane_count (FactHolds g w (view r)) (r c).facts (h.facts c l)) (All-nil _) tt (All-nil _)
    by false = less_held g w r c (r c).facts (r c).zeros None (r c).made (call_after false (r c).call t.ask t.seen) t.ends (with_last stepped (r c).agents) h (h.facts c l) (h.zeros c l) tt (h.made c l)

-- what keeps the pool whatever the memos keeps it with the memo at a step
pub after_call : (g : Geometry) (w : Spot → ℕ) (r : ℕ → Memo) (c : ℕ) (t : Step) (F : Memo → Memo) → HeldAt g w (view r) → c < g.clients
    → ((q : ℕ → Memo) → q c ≡ called (r c) t → HeldAt g w (view q) → HeldAt g w (view (at1 q c (F (q c)))))
    → HeldAt g w (view (at1 r c (F (called (r c) t))))
after_call g w r c t F h l keeps =
    let m : Memo = called (r c) t in
    let q : ℕ → Memo = at1 r c m in
    subst (HeldAt g w) (ap (λ (x : Memo). view (at1 q c (F x))) (at1_here r c m) ∙ ap view (at1_twice r c m (F m))) (keeps q (at1_here r c m) (called_held g w r c t h l))

-- one more fact, and a place of the commit test
pub fact_held : (g : Geometry) (w : Spot → ℕ) (r : ℕ → Memo) (c : ℕ) (t : Step) (k : Fact) (test : Option Test) → HeldAt g w (view r) → c < g.clients → FactHolds g w (view r) k → TestHolds g w (view r) c test
    → HeldAt g w (view (at1 r c (record (called (r c) t) { facts = k ∷ (called (r c) t).facts; test = test })))
fact_held g w r c t k test h l new tests = by t.fresh
  where
    by : (b : Bool) → HeldAt g w (view (at1 r c (record (called (r c) (record t { fresh = b })) { facts = k ∷ (called (r c) (record t { fresh = b })).facts; test = test })))
    by true = less_held g w r c (k ∷ filter is_lane_count (r c).facts) [] test [] (call_after true (r c).call t.ask t.seen) t.ends (with_last stepped (r c).agents) h (All-cons (FactHolds g w (view r)) k (filter is_lane_count (r c).facts) new (All-filter is_lane_count (FactHolds g w (view r)) (r c).facts (h.facts c l))) (All-nil _) tests (All-nil _)
    by false = less_held g w r c (k ∷ (r c).facts) (r c).zeros test (r c).made (call_after false (r c).call t.ask t.seen) t.ends (with_last stepped (r c).agents) h (All-cons (FactHolds g w (view r)) k (r c).facts new (h.facts c l)) (h.zeros c l) tests (h.made c l)

-- one more word read as 0
pub zero_held : (g : Geometry) (w : Spot → ℕ) (r : ℕ → Memo) (c : ℕ) (t : Step) (p : Spot) → HeldAt g w (view r) → c < g.clients → ZeroHolds g w c p
    → HeldAt g w (view (at1 r c (record (called (r c) t) { zeros = p ∷ (called (r c) t).zeros })))
zero_held g w r c t p h l new = by t.fresh
  where
    by : (b : Bool) → HeldAt g w (view (at1 r c (record (called (r c) (record t { fresh = b })) { zeros = p ∷ (called (r c) (record t { fresh = b })).zeros })))
    by true = less_held g w r c (filter is_lane_count (r c).facts) (p ∷ []) None [] (call_after true (r c).call t.ask t.seen) t.ends (with_last stepped (r c).agents) h (All-filter is_lane_count (FactHolds g w (view r)) (r c).facts (h.facts c l)) (All-cons (ZeroHolds g w c) p [] new (All-nil _)) tt (All-nil _)
    by false = less_held g w r c (r c).facts (p ∷ (r c).zeros) None (r c).made (call_after false (r c).call t.ask t.seen) t.ends (with_last stepped (r c).agents) h (h.facts c l) (All-cons (ZeroHolds g w c) p (r c).zeros new (h.zeros c l)) tt (h.made c l)
