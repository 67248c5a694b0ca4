-- How many blocks are live, by what is made and what is freed.
use Rattle.std.proofs.Common.{◌≡◌, ◌≢◌, ◌==◌, ℕ, zero, suc, ◌+◌, ◌-◌, ◌<◌, ◌≤◌, Bool, true, false, List, [], ◌∷◌, ◌++◌, refl, sym, ap, ◌∙◌, subst, arith, inl, inr, ◌⊎◌}
use Rattle.std.proofs.lemmas.Bool.{cases_Bool, cases_eq, cond-true, cond-false, eq-eqb, ne_eqb}
use Rattle.std.specs.List.{filter}
use Rattle.shm_words.specs.{declared.geometry.Geometry.Geometry, Layout.total_of}
use Rattle.shm_words.proofs.Words.{live_not_zero}
use Rattle.shm_graph.specs.declared.{run.{Move.{Move, TheVariants.{Begins, Dies, Word}}, Start.Start}, spot.Spot.Spot}
use Rattle.shm_graph.specs.{declared.spot.Spot.TheVariants.Head, Asks.at_of, Blocks.{classes, headers}}
use Rattle.shm_graph.specs.{Bounds.tear_steps, CallEvents.events_in}
use Rattle.shm_graph.specs.Events.{Event, Nothing, Alloc, Up, Down, ChangeUp, ChangeDown, Free, Graph, Happens, graph_of}
use Rattle.shm_graph.specs.{Held.HeldAt, Laws.event_on, References.{one_if, sum_below}}
use Rattle.shm_graph.specs.{Runs.{Held, Leads, State, memos_of, moved}, Spots.{classes_in, see, spot_at}}
use Rattle.shm_graph.specs.{Tells.is_event, Views.{View, at1, view}}
use Rattle.shm_graph.proofs.{Spots.{Spotting.block_within, Sums.sum_each}, States.Holders.held_live_block}
use Rattle.shm_plain.specs.{Calls.{AreOf, Did, state_of}, Pools.{IsRun, Pool, memo_of}}
use Rattle.shm_count.specs.Tear.Events.{freed_by, frees}
use Rattle.shm_tree.specs.{Keeping.{HasMade, is_live, made_in}, Spending.HasSpent, Working.IsSpent}
use Rattle.shm_tree.proofs.{Firsts.{begins_graph, graph_at}, Turns.did_leads}

-- ---- sums

-- of two functions that differ at x alone
sum_change : (n x : ℕ) (f h : ℕ → ℕ) → ((a : ℕ) → a ≢ x → h a ≡ f a) → x < n → sum_below n h + f x ≡ sum_below n f + h x
sum_change zero x f h same l = absurd (omega arith)
sum_change (suc n) x f h same l =
    elim (cases_eq n x) [
      | inl e ↦ (let s = sum_each n h f (λ a k. same a (omega arith)) in let u = ap f e in let v = ap h e in omega (arith, s, u, v))
      | inr d ↦ (let s = sum_change n x f h same (omega arith) in let u = same n d in omega (arith, s, u))
    ]

sum_least : (n : ℕ) (f h : ℕ → ℕ) → ((a : ℕ) → f a ≤ h a) → sum_below n f ≤ sum_below n h
sum_least zero f h l = omega arith
sum_least (suc n) f h l = let s = sum_least n f h l in let u = l n in omega (arith, s, u)

-- ---- one event

abbrev made_by : Event → ℕ
made_by (Alloc c k b) = 1
made_by e = 0

abbrev count : Geometry → Graph → ℕ
count g a = sum_below (total_of g) (λ b. one_if (a.live b))

count_same : (g : Geometry) (a b : Graph) → ((x : ℕ) → b.live x ≡ a.live x) → count g b ≡ count g a
count_same g a b same = sum_each (total_of g) (λ x. one_if (b.live x)) (λ x. one_if (a.live x)) (λ x l. ap one_if (same x))

count_one : (g : Geometry) (a b : Graph) (x : ℕ) (l : Bool) → ((y : ℕ) → b.live y ≡ at1 a.live x l y) → x < total_of g → count g b + one_if (a.live x) ≡ count g a + one_if l
count_one g a b x l now low =
    let s = sum_change (total_of g) x (λ y. one_if (a.live y)) (λ y. one_if (b.live y)) (λ y n. ap one_if (now y ∙ cond-false (x == y) l (a.live y) (ne_eqb x y (λ e. n (sym e))))) low in
    let e : one_if (b.live x) ≡ one_if l = ap one_if (now x ∙ cond-true (x == x) l (a.live x) (eq-eqb x x refl)) in
    omega (arith, s, e)

module _ (g : Geometry) (w : Spot → ℕ) (v : View) (h : HeldAt g w v) where
  counts_by : (e : Event) (b : Graph) → Happens g w e (graph_of g w v) b → count g (graph_of g w v) + made_by e ≡ count g b + freed_by e
  counts_by Nothing b y = let s = count_same g (graph_of g w v) b y.lives in omega (arith, s)
  counts_by (Alloc c k x) b y =
      let low = block_within g (classes w) x y.0.0 in
      let s = count_one g (graph_of g w v) b x true y.3.2.lives low.1 in
      let dead : one_if (headers w x).live ≡ 0 =
      elim (cases_Bool (headers w x).live) [
        | inr e ↦ ap one_if e
        | inl e ↦ absurd (live_not_zero (w (Head x)) e y.0.1)
      ] in
      omega (arith, s, dead)
  counts_by (Up c p x) b y = let s = count_same g (graph_of g w v) b y.2.lives in omega (arith, s)
  counts_by (Down c p x) b y = let s = count_same g (graph_of g w v) b y.2.lives in omega (arith, s)
  counts_by (ChangeUp c p x z) b y = let s = count_same g (graph_of g w v) b y.4.lives in omega (arith, s)
  counts_by (ChangeDown c x) b y = let s = count_same g (graph_of g w v) b y.2.lives in omega (arith, s)
  counts_by (Free c x) b y =
      let low = block_within g (classes w) x (held_live_block g w v h x y.0) in
      let s = count_one g (graph_of g w v) b x false y.4.lives low.1 in
      let live : one_if (headers w x).live ≡ 1 = ap one_if y.0 in
      omega (arith, s, live)

-- ---- a run

made_cons : (x : Event) (es : List Event) → made_in (filter is_event (x ∷ es)) ≡ made_by x + made_in (filter is_event es)
made_cons Nothing es = omega arith
made_cons (Alloc c k b) es = omega arith
made_cons (Up c p b) es = omega arith
made_cons (Down c p b) es = omega arith
made_cons (ChangeUp c p a b) es = omega arith
made_cons (ChangeDown c a) es = omega arith
made_cons (Free c b) es = omega arith

frees_cons : (x : Event) (es : List Event) → frees (filter is_event (x ∷ es)) ≡ freed_by x + frees (filter is_event es)
frees_cons Nothing es = omega arith
frees_cons (Alloc c k b) es = omega arith
frees_cons (Up c p b) es = omega arith
frees_cons (Down c p b) es = omega arith
frees_cons (ChangeUp c p a b) es = omega arith
frees_cons (ChangeDown c a) es = omega arith
frees_cons (Free c b) es = omega arith

module _ (g : Geometry) (c : ℕ) where
  turns_count : (a : State) (ms : List Move) (z : State) → Held g a.words a.accounts → AreOf c ms → Leads g a ms z → count g (graph_at g a) + made_in (filter is_event (events_in g c a ms)) ≡ count g (graph_at g z) + frees (filter is_event (events_in g c a ms))
  turns_count a [] z held own run = let s = ap (λ (y : State). count g (graph_at g y)) run in omega (arith, s)
  turns_count a (Word y ∷ ms) z held own run =
      let x : Event = event_on (memos_of a.accounts c) y (spot_at g (classes_in g a.words) (at_of y.ask)) in
      let rest : List Event = events_in g c (moved a (Word y)) ms in
      let same : events_in g c a (Word y ∷ ms) ≡ x ∷ rest = cond-true (y.me.who == c) (x ∷ rest) rest (eq-eqb y.me.who c own.0) in
      let happens : Happens g (see g a.words) x (graph_at g a) (graph_at g (moved a (Word y))) =
      subst (λ (d : ℕ). Happens g (see g a.words) (event_on (memos_of a.accounts d) y (spot_at g (classes_in g a.words) (at_of y.ask))) (graph_at g a) (graph_at g (moved a (Word y)))) own.0 run.1.event.one_event.event in
      let one = counts_by g (see g a.words) (view (memos_of a.accounts)) held.at x (graph_at g (moved a (Word y))) happens in
      let more = turns_count (moved a (Word y)) ms z run.1.held own.1 run.2 in
      let m = made_cons x rest in
      let n = frees_cons x rest in
      subst (λ (es : List Event). count g (graph_at g a) + made_in (filter is_event es) ≡ count g (graph_at g z) + frees (filter is_event es)) (sym same) (omega (arith, one, more, m, n))
  turns_count a (Begins d k ∷ ms) z held own run =
      let same = ap (count g) (begins_graph g a d k run.0.0) in
      let more = turns_count (moved a (Begins d k)) ms z run.1.held own.1 run.2 in
      omega (arith, same, more)
  turns_count a (Dies d ∷ ms) z held own run = absurd own

-- how many blocks are live
abbrev pub live_total : Pool → ℕ
live_total p = sum_below (total_of p.start.geometry) (λ b. one_if (is_live p b))

-- what came to be live and what was freed make up for each other
pub did_counts : (p q : Pool) (es : List Event) → IsRun p → IsRun q → q.start ≡ p.start → Did 0 p q es → live_total p + made_in es ≡ live_total q + frees es
did_counts p q es hp hq start did =
    let s = turns_count p.start.geometry 0 (state_of p) did.turns (state_of q) hp.held did.own (did_leads 0 p q es hp hq start did) in
    let now : live_total p + made_in es ≡ count p.start.geometry (graph_at p.start.geometry (state_of q)) + frees es =
    subst (λ (xs : List Event). live_total p + made_in xs ≡ count p.start.geometry (graph_at p.start.geometry (state_of q)) + frees xs) did.events s in
    now ∙ ap (λ (u : Start). sum_below (total_of u.geometry) (λ b. one_if (headers (see u.geometry q.words) b).live) + frees es) (sym start)

-- where each live block stays live, no more are freed than are made
pub freed_most : (p q : Pool) (es : List Event) → IsRun p → IsRun q → q.start ≡ p.start → Did 0 p q es → ((b : ℕ) → is_live p b ≡ true → is_live q b ≡ true) → frees es ≤ made_in es
freed_most p q es hp hq start did stays =
    let s = did_counts p q es hp hq start did in
    let l : sum_below (total_of p.start.geometry) (λ b. one_if (is_live p b)) ≤ sum_below (total_of p.start.geometry) (λ b. one_if (is_live q b)) = sum_least (total_of p.start.geometry) (λ b. one_if (is_live p b)) (λ b. one_if (is_live q b)) (λ b. by b (is_live p b) refl) in
    let same : sum_below (total_of q.start.geometry) (λ b. one_if (is_live q b)) ≡ sum_below (total_of p.start.geometry) (λ b. one_if (is_live q b)) = ap (λ (u : Start). sum_below (total_of u.geometry) (λ b. one_if (is_live q b))) start in
    omega (arith, s, l, same)
  where
    by : (b : ℕ) (x : Bool) → is_live p b ≡ x → one_if x ≤ one_if (is_live q b)
    by b true e = let n = ap one_if (stays b e) in omega (arith, n)
    by b false e = omega arith

-- ---- one list of events

cancel : {X : Type 0} (xs ys zs : List X) → xs ++ ys ≡ xs ++ zs → ys ≡ zs
cancel [] ys zs e = e
cancel (x ∷ xs) ys zs e = cancel xs ys zs (cc)

pub did_one : (c : ℕ) (p q : Pool) (es fs : List Event) → Did c p q es → Did c p q fs → es ≡ fs
did_one c p q es fs d e =
    let same : d.turns ≡ e.turns = cancel p.turns d.turns e.turns (sym d.grew ∙ e.grew) in
    sym d.events ∙ (ap (λ (ms : List Move). filter is_event (events_in p.start.geometry c (state_of p) ms)) same ∙ e.events)

-- Where n blocks were made at most and each live block stays live, so many word steps went at most, unless the own era is spent
pub spent_made : {p q : Pool} {x y : ℕ} (c n : ℕ) → IsRun p → IsRun q → q.start ≡ p.start → ((b : ℕ) → is_live p b ≡ true → is_live q b ≡ true) → HasMade n p q → HasSpent c p q x y → IsSpent (memo_of q 0) ⊎ (x ≤ y + c + tear_steps p.start.geometry.wide n)
spent_made {p} {q} {x} {y} c n hp hq start stays (es, did, few) s =
    elim s.none [
      | inr spent ↦ inl spent
      | inl none ↦ inr (by none)
    ]
  where
    by : s.left ≡ 0 → x ≤ y + c + tear_steps p.start.geometry.wide n
    by none =
        let same = ap made_in (did_one 0 p q s.told es s.did did) in
        let most = freed_most p q s.told hp hq start s.did stays in
        let l : frees s.told + s.left ≤ n = omega (arith, same, most, few, none) in
        let sum : (frees s.told + s.left) + (n - (frees s.told + s.left)) ≡ n = omega (arith, l) in
        let all = s.most in
        subst (λ i. x ≤ y + c + tear_steps p.start.geometry.wide i) sum (omega (arith, all))
