-- Word steps of calls that come one after the other.
use Rattle.std.proofs.Common.{◌≡◌, ℕ, ◌+◌, ◌-◌, ◌*◌, ◌<◌, ◌≤◌, ◌⊎◌, List, [], ◌∷◌, ◌++◌, length, refl, sym, subst, arith, inl, inr}
use Rattle.std.proofs.lemmas.Nat.{mul-le}
use Rattle.std.specs.List.{All, Contains}
use Rattle.shm_words.specs.declared.geometry.Geometry.{Geometry}
use Rattle.shm_graph.specs.{declared.{run.Start.Start, spot.Spot.TheVariants.Era}, Bounds.tear_steps, Spots.see}
use Rattle.shm_graph.specs.Views.{own_word}
use Rattle.shm_graph.proofs.Runs.EraRises.{run_rises}
use Rattle.shm_plain.specs.{Calls.state_of, Pools.{IsRun, Pool, memo_of}}
use Rattle.shm_count.specs.Tear.Events.{Visit, frees}
use Rattle.shm_ref.specs.Proved.Leaving.{frees-append}
use Rattle.shm_tree.specs.{Bounds.{climb_steps, drop_steps, insert_steps, lowest_steps, raise_steps}, Spending.HasSpent}
use Rattle.shm_tree.specs.{Tearing.HasTorn, Working.{IsSpent, IsWorking, Went}}
use Rattle.shm_tree.proofs.Turns.{did_leads, did_then}

-- an own era that is spent stays so
spent_stays : (p q : Pool) (x y : ℕ) → IsRun p → 0 < p.start.geometry.clients → Went p q x y → IsSpent (memo_of p 0) → IsSpent (memo_of q 0)
spent_stays p q x y hp who w spent =
    let g : Geometry = p.start.geometry in
    let (es, did) = w.did in
    let rises = run_rises g (state_of p) did.turns (state_of q) hp.held (did_leads 0 p q es hp w.run w.start did) in
    let row : see g p.words (Era 0 0) ≤ see g q.words (Era 0 0) = rises.rows 0 0 in
    let a : own_word (memo_of p 0).own (Era 0 0) ≡ see g p.words (Era 0 0) = hp.held.at.mine 0 who (Era 0 0) refl in
    let there : 0 < q.start.geometry.clients = subst (λ (s : Start). 0 < s.geometry.clients) (sym w.start) who in
    let b : own_word (memo_of q 0).own (Era 0 0) ≡ see g q.words (Era 0 0) = subst (λ (s : Start). own_word (memo_of q 0).own (Era 0 0) ≡ see s.geometry q.words (Era 0 0)) w.start (w.run.held.at.mine 0 there (Era 0 0) refl) in
    omega (arith, row, a, b, spent)

-- a call that tore nothing down
pub spent_call : {p q : Pool} {x y : ℕ} (c : ℕ) → Went p q x y → x ≤ y + c → HasSpent c p q x y
spent_call c w few = record { told = w.did.0; did = w.did.1; left = 0; none = inl refl; most = omega (arith, few) }

-- two calls, of which the second took so many in a pool of these sizes
pub spent_then : {p m q : Pool} {x y z a : ℕ} (b : Geometry → ℕ) → IsWorking p → Went p m x y → Went m q y z → HasSpent a p m x y → HasSpent (b m.start.geometry) m q y z → HasSpent (a + b p.start.geometry) p q x z
spent_then {p} {m} {q} {x} {y} {z} {a} b h w v s t =
    record {
      told = s.told ++ t.told;
      did = did_then 0 p m q s.told t.told h.run w.run w.start s.did t.did;
      left = s.left + t.left;
      none = by s.none t.none;
      most = subst (λ n. x ≤ z + (a + b p.start.geometry) + tear_steps p.start.geometry.wide n) (sym sum) (omega (arith, one, two));
    }
  where
    sum : frees (s.told ++ t.told) + (s.left + t.left) ≡ (frees s.told + s.left) + (frees t.told + t.left)
    sum = let e = frees-append s.told t.told in omega (arith, e)

    one : x ≤ y + a + tear_steps p.start.geometry.wide (frees s.told + s.left)
    one = s.most

    two : y ≤ z + b p.start.geometry + tear_steps p.start.geometry.wide (frees t.told + t.left)
    two = subst (λ (u : Start). y ≤ z + b u.geometry + tear_steps u.geometry.wide (frees t.told + t.left)) w.start t.most

    by : (s.left ≡ 0) ⊎ IsSpent (memo_of m 0) → (t.left ≡ 0) ⊎ IsSpent (memo_of q 0) → (s.left + t.left ≡ 0) ⊎ IsSpent (memo_of q 0)
    by (inl e) (inl f) = inl (omega (arith, e, f))
    by (inl e) (inr l) = inr l
    by (inr l) f = inr (spent_stays m q y z w.run (let n = h.one in subst (λ (u : Start). 0 < u.geometry.clients) (sym w.start) (omega (arith, n))) v l)

-- it may have been more
pub spent_more : {p q : Pool} {x y : ℕ} (c d : ℕ) → c ≤ d → HasSpent c p q x y → HasSpent d p q x y
spent_more c d l s = record { told = s.told; did = s.did; left = s.left; none = s.none; most = let m = s.most in omega (arith, l, m) }

-- a drop of a root
pub spent_drop : {p q : Pool} {x y : ℕ} (k : ℕ) → IsWorking q → (n : ℕ) × HasTorn k n p q × (x ≤ y + drop_steps p.start.geometry n) → HasSpent (drop_steps p.start.geometry 0) p q x y
spent_drop {p} {q} {x} {y} k h (n, torn, few) =
    record {
      told = torn.told;
      did = torn.did;
      left = length torn.left;
      none = by h.dying;
      most = let m = subst (λ i. x ≤ y + drop_steps p.start.geometry i) torn.many few in omega (arith, m);
    }
  where
    empty : (vs : List Visit) → All (λ (v : Visit). Contains [] v.block) vs → length vs ≡ 0
    empty [] all = refl
    empty (v ∷ vs) all = absurd (let c = all 0 v (omega arith) in let l = c.1 in omega arith)

    by : ((memo_of q 0).dying ≡ []) ⊎ IsSpent (memo_of q 0) → (length torn.left ≡ 0) ⊎ IsSpent (memo_of q 0)
    by (inl none) = inl (empty torn.left (subst (λ (ds : List ℕ). All (λ (v : Visit). Contains ds v.block) torn.left) none torn.dying))
    by (inr l) = inr l

-- ---- levels one above the other, each with the way down to it

-- at most as many as for all levels of a tree of the height h: before the first one, until the lowest one, and until any
pub front_most : (n b c l k : ℕ) → b ≤ c → n + b ≤ n + c + l + k
front_most n b c l k le = omega (arith, le)

pub first_most : (c k e h : ℕ) → e ≤ h → 5 * e + c ≤ 5 * h + c + h * k
first_most c k e h low = omega (arith, low)

pub level_most : (c w j d e h : ℕ) → j + 1 ≤ e → d ≤ e → e ≤ h → 5 * e + c + j * (5 * e + w) + 5 * d + w ≤ 5 * h + c + h * (5 * h + w)
level_most c w j d e h next low up =
    let all = mul-le (j + 1) (5 * e + w) h (5 * h + w) (omega (arith, next, up)) (omega (arith, up)) in
    omega (arith, all, low, up)

-- ---- an insertion

more : (b j k d e w : ℕ) → k ≡ 5 * e + w → d ≤ e → b + j * k + 5 * d + w ≤ b + (j + 1) * k
more b j k d e w is low = omega (arith, is, low)

square : (e k l w : ℕ) → 5 * e + 2 + l + e * (5 * e + w) ≤ 5 * (e + k) + 2 + l + (e + k) * (5 * (e + k) + w)
square e k l w = omega arith

-- the node of the key was made
pub climbed_none : (p q : Pool) {x y : ℕ} (e : ℕ) → HasSpent (5 * e + 2 + lowest_steps p.start.geometry) p q x y → HasSpent (climb_steps (e - e) e p.start.geometry) p q x y
climbed_none p q {x} {y} e s =
    let none : e - e ≡ 0 = omega arith in
    subst (λ j. HasSpent (climb_steps j e p.start.geometry) p q x y) (sym none) (spent_more _ (climb_steps 0 e p.start.geometry) (omega arith) s)

-- and one above it made anew
pub climbed_more : (p q : Pool) {x y : ℕ} (j d e i : ℕ) → d ≤ e → i ≡ j + 1 → HasSpent (climb_steps j e p.start.geometry + 5 * d + raise_steps p.start.geometry) p q x y → HasSpent (climb_steps i e p.start.geometry) p q x y
climbed_more p q {x} {y} j d e i low next s =
    let g : Geometry = p.start.geometry in
    subst (λ n. HasSpent (climb_steps n e g) p q x y) (sym next) (spent_more _ (climb_steps (j + 1) e g) (more (5 * e + 2 + lowest_steps g) j (5 * e + raise_steps g) d e (raise_steps g) refl low) s)

-- up to the first one
pub climbed_low : (p q : Pool) {x y : ℕ} (j e h : ℕ) → j ≡ e → e ≤ h → HasSpent (climb_steps j e p.start.geometry) p q x y → HasSpent (insert_steps h p.start.geometry) p q x y
climbed_low p q {x} {y} j e h all low s =
    let g : Geometry = p.start.geometry in
    let whole : HasSpent (climb_steps e e g) p q x y = subst (λ n. HasSpent (climb_steps n e g) p q x y) all s in
    let sum : e + (h - e) ≡ h = omega (arith, low) in
    subst (λ n. HasSpent (insert_steps n g) p q x y) sum (spent_more _ (insert_steps (e + (h - e)) g) (square e (h - e) (lowest_steps g) (raise_steps g)) whole)
