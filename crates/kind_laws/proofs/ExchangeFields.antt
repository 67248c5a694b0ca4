-- what the exchanges of headers have in common
use Rattle.std.proofs.Common.{◌≡◌, ◌≢◌, ℕ, ◌+◌, ◌%◌, ◌<◌, ◌≤◌, sym, ap, ◌∙◌, arith, true, false, Bool, cond, eqb, subst, inl, inr, ◌⊎◌, List, [], ◌∷◌, Option, Some, None}
use Rattle.std.proofs.lemmas.List.Elements.{All-contains, Contains-append_cases, Contains-push_cases}
use Rattle.std.proofs.lemmas.Bool.{cases_Bool, cases_eq, true≢false, ne_eqb, false_from_ne_true}
use Rattle.std.specs.List.{Contains}
use Rattle.shm_words.specs.{declared.{header.Header.Header, geometry.Geometry.Geometry}, Headers.header_of}
use Rattle.shm_words.specs.Layout.{total_of}
use Rattle.shm_graph.specs.Held.{Shown, CountSound, EraSound, Committing, Bound, FactAt, SlotOf, IsDying, named_by, InLooks, LookAt, LooksSound, KnownAt}
use Rattle.shm_graph.specs.{References.{one_if, references_to}, Views.at1, declared.spot.Spot.Spot}
use Rattle.shm_graph.specs.declared.{spot.Spot.TheVariants.{Spare, Home, Root, Slot, Tag, Body}, memo.Op.Op}
use Rattle.shm_graph.specs.declared.memo.{Look.Look, Fact.{Fact, TheVariants.{Header as HeaderRead, Counter, Class}}}
use Rattle.shm_graph.specs.Spots.{upd, same_spot, spot_at, IsAt}
use Rattle.shm_graph.specs.Ops.{on_of, indegree, cover, cover_of, slot_of, is_op}
use Rattle.shm_graph.proofs.{Memos.Frames.at1_all, Runs.Lists.{at1_here, at1_other}, Spots.Spotting.same_spot_is}
use Rattle.shm_graph.proofs.{Spots.Sums.sum_none, States.{Counting.{cover_slot, cover_idle}, Holders.looks_targets}}
use Rattle.kind_laws.proofs.Sum.{degree_step}

-- ---- eras

-- c's op commits on b
abbrev ons_with : (ℕ → Op) → ℕ → Op → ℕ → Option ℕ
ons_with ops c o d = on_of (at1 ops c o d)

on_here : (ops : ℕ → Op) (c b : ℕ) (o : Op) → on_of o ≡ Some b → ons_with ops c o c ≡ Some b
on_here ops c b o e = ap on_of (at1_here ops c o) ∙ e

on_other : (ops : ℕ → Op) (c d : ℕ) (o : Op) → c ≢ d → ons_with ops c o d ≡ on_of (ops d)
on_other ops c d o m = ap on_of (at1_other ops c o d m)

bound_kept : (era : ℕ → ℕ → ℕ) (ops : ℕ → Op) (c b : ℕ) (o : Op) (j x : ℕ) → on_of o ≡ Some b → Bound era (λ d. on_of (ops d)) j x → Bound era (ons_with ops c o) j x
bound_kept era ops c b o j x now h =
    record {
      most = h.most;
      equal = λ e. elim (cases_eq c j) [
        | inl i ↦ (b, subst (λ d. ons_with ops c o d ≡ Some b) i (on_here ops c b o now))
        | inr m ↦ (let q = h.equal e in (q.0, on_other ops c j o m ∙ q.1))
      ];
    }

committing_kept : (era : ℕ → ℕ → ℕ) (ops : ℕ → Op) (c : ℕ) (o : Op) (j x i : ℕ) → on_of (ops c) ≡ None → Committing era (λ d. on_of (ops d)) j x i → Committing era (ons_with ops c o) j x i
committing_kept era ops c o j x i none h =
    record {
      most = h.most;
      equal = λ e. elim (cases_eq c j) [
        | inl s ↦ (let q : None ≡ Some i = sym none ∙ (ap (λ d. on_of (ops d)) s ∙ h.equal e) in cc)
        | inr m ↦ on_other ops c j o m ∙ h.equal e
      ];
    }

pub era_exchange : (n : ℕ) (word : ℕ → ℕ) (era : ℕ → ℕ → ℕ) (ops : ℕ → Op) (c b to : ℕ) (o : Op) → c < n → on_of (ops c) ≡ None → on_of o ≡ Some b
    → (header_of to).client ≡ c → (header_of to).era ≡ era c c → 1 ≤ era c c
    → ((d : ℕ) → d < n → c ≢ d → (header_of (word b)).client ≡ d → (header_of (word b)).era ≡ era d d → era d d ≤ era c d)
    → EraSound n (λ i. header_of (word i)) era (λ d. on_of (ops d)) → EraSound n (λ i. header_of (at1 word b to i)) era (λ d. on_of (at1 ops c o d))
era_exchange n word era ops c b to o lc none now client age some over h =
    record {
      client = λ i. at1_all (λ (i x : ℕ). (header_of x).live ≡ true → (header_of x).client < n) word b to i (λ l. subst (λ d. d < n) (sym client) lc) (λ m. h.client i);
      age = λ i. at1_all (λ (i x : ℕ). (header_of x).live ≡ true → 1 ≤ (header_of x).era) word b to i (λ l. omega arith) (λ m. h.age i);
      header = λ i. at1_all (λ (i x : ℕ). (header_of x).live ≡ true → Committing era (ons_with ops c o) (header_of x).client (header_of x).era i) word b to i
          (λ l. record { most = (let e : era (header_of to).client (header_of to).client ≡ era c c = ap (λ i. era i i) client in omega arith); equal = λ e. ap (ons_with ops c o) client ∙ on_here ops c b o now })
          (λ m l. committing_kept era ops c o _ _ i none (h.header i l));
      row = λ i d li ld nd. bound_kept era ops c b o d _ now (h.row i d li ld nd);
      shown = λ d i l s. elim (cases_eq c d) [
        | inl q ↦ (let y : Some b ≡ Some i = sym (on_here ops c b o now) ∙ (ap (ons_with ops c o) q ∙ s) in let z : b ≡ i = cc in
            subst (λ j. Shown n era (header_of (at1 word b to j)) d) z (inl ((ap (λ x. (header_of x).client) (at1_here word b to) ∙ client) ∙ q, (ap (λ x. (header_of x).era) (at1_here word b to) ∙ age) ∙ ap (λ j. era j j) q)))
        | inr m ↦ shown d i l m (h.shown d i l (sym (on_other ops c d o m) ∙ s))
      ];
    }
  where
    shown : (d i : ℕ) → d < n → c ≢ d → Shown n era (header_of (word i)) d → Shown n era (header_of (at1 word b to i)) d
    shown d i l m s = elim (cases_eq b i) [
      | inl e ↦ elim s [
        | inl t ↦ inr (c, lc, m, over d l m (ap (λ j. (header_of (word j)).client) e ∙ t.0) (ap (λ j. (header_of (word j)).era) e ∙ t.1))
        | inr t ↦ inr t
      ]
      | inr ne ↦ subst (λ x. Shown n era (header_of x) d) (sym (at1_other word b to i ne)) s
    ]

pub facts_committed : (n : ℕ) (era : ℕ → ℕ → ℕ) (tail queue_head : ℕ → ℕ → ℕ) (class : ℕ → ℕ → ℕ) (ops : ℕ → Op) (c b : ℕ) (o : Op) → on_of o ≡ Some b → (f : Fact) → FactAt n era (λ d. on_of (ops d)) tail queue_head class f → FactAt n era (λ d. on_of (at1 ops c o d)) tail queue_head class f
facts_committed n era tail queue_head class ops c b o now (HeaderRead x) h = λ l. let q = h l in (q.0, bound_kept era ops c b o _ _ now q.1)
facts_committed n era tail queue_head class ops c b o now (Counter p x) h = h
facts_committed n era tail queue_head class ops c b o now (Class s q k) h = h

-- ---- counts

-- a block that isn't live has no references
pub count_free : (g : Geometry) (class : ℕ → ℕ → ℕ) (head : ℕ → Header) (t : Spot → ℕ) (l : ℕ → ℕ) (b : ℕ) → CountSound g class head t l → b ≢ 0 → (head b).live ≡ false → indegree g class t l b ≡ 0
unfolding indegree references_to
count_free g class head t l b h nz dead =
    let x = sum_none (total_of g) (λ a. one_if (eqb (t (spot_at g class a)) b)) (λ a _. ap one_if (ne_eqb _ b (λ e. true≢false (sym (h.targets (spot_at g class a) (λ z. nz (sym e ∙ z))) ∙ (ap (λ i. (head i).live) e ∙ dead))))) in
    let y = sum_none g.clients (λ c. one_if (eqb (l c) b)) (λ c lc. ap one_if (ne_eqb _ b (λ e. true≢false (sym (h.held_overs c lc (λ z. nz (sym e ∙ z))) ∙ (ap (λ i. (head i).live) e ∙ dead))))) in
    omega arith

-- one header and one target change; x and y are 0 or the block
pub count_exchange : (g : Geometry) (class : ℕ → ℕ → ℕ) (word : ℕ → ℕ) (t : Spot → ℕ) (l : ℕ → ℕ) (p : Spot) (b to y : ℕ) → IsAt g class p → p ≢ Spare
    → ((i : ℕ) → (header_of (word i)).live ≡ true → i ≢ 0) → (header_of to).live ≡ true
    → (header_of to).count + one_if (eqb (t p) b) ≡ indegree g class t l b + one_if (eqb y b)
    → ((i : ℕ) → i ≢ 0 → b ≢ i → one_if (eqb (t p) i) ≡ one_if (eqb y i))
    → (y ≢ 0 → y ≡ b)
    → CountSound g class (λ i. header_of (word i)) t l → CountSound g class (λ i. header_of (at1 word b to i)) (upd t p y) l
count_exchange g class word t l p b to y at ns some live here others new h =
    record {
      counts = λ i. at1_all (λ (i x : ℕ). (header_of x).live ≡ true → (header_of x).count ≡ indegree g class (upd t p y) l i) word b to i
          (λ _. let s = degree_step g class t l p y b at ns in omega arith)
          (λ m q. let s = degree_step g class t l p y i at ns in let o = others i (some i q) m in let z = h.counts i q in omega arith);
      targets = λ q. targets q (same_spot p q);
      held_overs = λ d ld m. lives (l d) (h.held_overs d ld m);
    }
  where
    lives : (i : ℕ) → (header_of (word i)).live ≡ true → (header_of (at1 word b to i)).live ≡ true
    lives i q = at1_all (λ (i x : ℕ). (header_of (word i)).live ≡ true → (header_of x).live ≡ true) word b to i (λ _. live) (λ _ z. z) q

    targets : (q : Spot) (x : Bool) → cond x y (t q) ≢ 0 → (header_of (at1 word b to (cond x y (t q)))).live ≡ true
    targets q true m = subst (λ i. (header_of (at1 word b to i)).live ≡ true) (sym (new m)) (ap (λ x. (header_of x).live) (at1_here word b to) ∙ live)
    targets q false m = lives (t q) (h.targets q m)

-- ---- reach, slots, looks, what is known

pub named_kept : (t t' : Spot → ℕ) (tail queue_head : ℕ → ℕ → ℕ) (c b : ℕ) → (b ≢ 0 → (k : ℕ) → t (Root c k) ≡ b → t' (Root c k) ≡ b) → (b ≢ 0 → t (Home c) ≡ b → t' (Home c) ≡ b)
    → (b ≢ 0 → (s : ℕ) → queue_head s c < tail s c → t (Slot s c (queue_head s c % 8)) ≡ b → t' (Slot s c (queue_head s c % 8)) ≡ b) → named_by t tail queue_head c b → named_by t' tail queue_head c b
named_kept t t' tail queue_head c b roots home slots (n, inl u) = (n, inl (u.0, roots n u.0 u.1))
named_kept t t' tail queue_head c b roots home slots (n, inr (inl u)) = (n, inr (inl (home n u)))
named_kept t t' tail queue_head c b roots home slots (n, inr (inr u)) = (n, inr (inr (u.0, u.1, slots n u.0 u.1 u.2)))

pub slot_kept : (wide : Bool) (d : ℕ) (head head' : ℕ → Header) (tag : ℕ → ℕ) (latch : Option ℕ) (tail queue_head : ℕ → ℕ → ℕ) (reach reach' : ℕ → Type 0) (p : Spot)
    → ((b : ℕ) → (head b).live ≡ true → (head' b).live ≡ true ⊎ (IsDying (head b) d → ⊥) × (reach b → ⊥))
    → ((b : ℕ) → IsDying (head b) d → IsDying (head' b) d)
    → ((b : ℕ) → reach b → reach' b)
    → SlotOf wide d head tag latch tail queue_head reach p → SlotOf wide d head' tag latch tail queue_head reach' p
slot_kept wide d head head' tag latch tail queue_head reach reach' (Root i k) live dying named x = x
slot_kept wide d head head' tag latch tail queue_head reach reach' (Home i) live dying named x = x
slot_kept wide d head head' tag latch tail queue_head reach reach' (Slot s r k) live dying named x = x
slot_kept wide d head head' tag latch tail queue_head reach reach' (Body b i) live dying named x = (
  elim (live b x.0) [ inl y ↦ y | inr y ↦ absurd (elim x.2 [ inl u ↦ y.0 (x.0, u.0, u.1) | inr u ↦ y.1 u.2 ]) ],
  x.1,
  elim x.2 [
    | inl u ↦ (let q = dying b (x.0, u.0, u.1) in inl (q.1, q.2))
    | inr u ↦ inr (u.0, u.1, named b u.2)
  ],
)
slot_kept wide d head head' tag latch tail queue_head reach reach' _ live dying named x = absurd x

pub looks_kept : (home home' : ℕ → ℕ) (body body' : ℕ → ℕ → ℕ) (author : ℕ → ℕ) (latch : Option ℕ) (named named' : ℕ → Type 0)
    → ((a x : ℕ) → x ≢ 0 → home a ≡ x → home' a ≡ x) → ((b i x : ℕ) → x ≢ 0 → body b i ≡ x → body' b i ≡ x) → ((b : ℕ) → named b → named' b)
    → (earlier looks : List Look) → LooksSound home body author latch named earlier looks → LooksSound home' body' author latch named' earlier looks
looks_kept home home' body body' author latch named named' hh hb hn earlier [] x = tt
looks_kept home home' body body' author latch named named' hh hb hn earlier (k ∷ ks) x = (at k.from x.0, looks_kept home home' body body' author latch named named' hh hb hn (k ∷ earlier) ks x.1)
  where
    at : (p : Spot) → LookAt home body author latch (λ b. named b ⊎ InLooks earlier b) p k.block → LookAt home' body' author latch (λ b. named' b ⊎ InLooks earlier b) p k.block
    at (Home a) y = (y.0, y.1, hh a k.block y.0 y.2)
    at (Body b i) y = (y.0, y.1, hb b i k.block y.0 y.2, elim y.3 [ inl u ↦ inl (hn b u) | inr u ↦ inr u ])
    at _ y = absurd y

pub known_kept : (wide : Bool) (c : ℕ) (tag : ℕ → ℕ) (body : ℕ → ℕ → ℕ) (slot : ℕ → ℕ → ℕ → ℕ) (tail queue_head : ℕ → ℕ → ℕ) (untaken : ℕ → ℕ) (latch : Option ℕ) (reach reach' : ℕ → Type 0) (dying dying' : List ℕ)
    → (p : Spot) (x : ℕ)
    → ((b : ℕ) → reach b → reach' b) → ((b : ℕ) → Contains dying b → Contains dying' b)
    → KnownAt wide c tag body slot tail queue_head untaken latch reach dying p x → KnownAt wide c tag body slot tail queue_head untaken latch reach' dying' p x
known_kept wide c tag body slot tail queue_head untaken latch reach reach' dying dying' (Tag b) x hr hd k = (k.0, elim k.1 [ inl u ↦ inl (hd b u) | inr u ↦ inr (hr b u) ])
known_kept wide c tag body slot tail queue_head untaken latch reach reach' dying dying' (Body b i) x hr hd k = (k.0, elim k.1 [ inl u ↦ inl (hd b u) | inr u ↦ inr (hr b u.0, u.1) ])
known_kept wide c tag body slot tail queue_head untaken latch reach reach' dying dying' (Slot s r i) x hr hd k = k
known_kept wide c tag body slot tail queue_head untaken latch reach reach' dying dying' _ x hr hd k = absurd k

-- an op whose slot is another word covers nothing of this one
pub apart : (wide : Bool) (d : ℕ) (head : ℕ → Header) (tag : ℕ → ℕ) (latch : Option ℕ) (tail queue_head : ℕ → ℕ → ℕ) (reach : ℕ → Type 0) (o : Op) (p : Spot) → (is_op o ≡ true → SlotOf wide d head tag latch tail queue_head reach (slot_of o)) → (SlotOf wide d head tag latch tail queue_head reach p → ⊥) → (y : ℕ) → cover (cover_of o) p y ≡ y
apart wide d head tag latch tail queue_head reach o p has never y =
    elim (cases_Bool (is_op o)) [
      | inr i ↦ cover_idle o p i y
      | inl i ↦ cover_slot o p (false_from_ne_true _ (λ e. never (subst (SlotOf wide d head tag latch tail queue_head reach) (same_spot_is (slot_of o) p e) (has i)))) y
    ]

-- a block in reach is a target
pub reach_target : (t : Spot → ℕ) (tail queue_head : ℕ → ℕ → ℕ) (author : ℕ → ℕ) (latch : Option ℕ) (looks : List Look) (c b : ℕ) → LooksSound (λ a. t (Home a)) (λ b i. t (Body b i)) author latch (named_by t tail queue_head c) [] looks → named_by t tail queue_head c b ⊎ InLooks looks b → (p : Spot) × (t p ≡ b)
reach_target t tail queue_head author latch looks c b h (inl (n, inl u)) = (Root c u.0, u.1)
reach_target t tail queue_head author latch looks c b h (inl (n, inr (inl u))) = (Home c, u)
reach_target t tail queue_head author latch looks c b h (inl (n, inr (inr u))) = (Slot u.0 c (queue_head u.0 c % 8), u.2)
reach_target t tail queue_head author latch looks c b h (inr u) = let q = All-contains (λ (k : Look). (k.block ≢ 0) × ((p : Spot) × (t p ≡ k.block))) looks u.0 (looks_targets t author latch (named_by t tail queue_head c) [] looks h) u.1 in (q.1.0, q.1.1 ∙ u.2)

-- a target that may change only where nobody looks
pub looks_through : (t t' : Spot → ℕ) (author : ℕ → ℕ) (latch : Option ℕ) (named named' : ℕ → Type 0)
    → ((b : ℕ) → named b → (q : Spot) × (t q ≡ b)) → ((b : ℕ) → named b → named' b)
    → ((a x : ℕ) → x ≢ 0 → latch ≡ Some a → t (Home a) ≡ x → t' (Home a) ≡ x)
    → ((b i x : ℕ) → x ≢ 0 → latch ≡ Some (author b) → (q : Spot) × (t q ≡ b) → t (Body b i) ≡ x → t' (Body b i) ≡ x)
    → (earlier looks : List Look) → ((b : ℕ) → InLooks earlier b → (q : Spot) × (t q ≡ b))
    → LooksSound (λ a. t (Home a)) (λ b i. t (Body b i)) author latch named earlier looks → LooksSound (λ a. t' (Home a)) (λ b i. t' (Body b i)) author latch named' earlier looks
looks_through t t' author latch named named' hn hm hh hb earlier [] he x = tt
looks_through t t' author latch named named' hn hm hh hb earlier (k ∷ ks) he x = (
  at k.from x.0,
  looks_through t t' author latch named named' hn hm hh hb (k ∷ earlier) ks (λ b i. elim (Contains-append_cases (k ∷ []) earlier i.0 i.1) [
    | inl u ↦ elim (Contains-push_cases [] k i.0 u) [ inl z ↦ absurd (let l = z.1 in omega arith) | inr e ↦ (let q = of k.from x.0 in (q.0, q.1 ∙ (ap (λ (z : Look). z.block) e ∙ i.2))) ]
    | inr u ↦ he b (i.0, u, i.2)
  ]) x.1,
)
  where
    of : (p : Spot) → LookAt (λ a. t (Home a)) (λ b i. t (Body b i)) author latch (λ b. named b ⊎ InLooks earlier b) p k.block → (q : Spot) × (t q ≡ k.block)
    of (Home a) y = (Home a, y.2)
    of (Body b i) y = (Body b i, y.2)
    of _ y = absurd y

    at : (p : Spot) → LookAt (λ a. t (Home a)) (λ b i. t (Body b i)) author latch (λ b. named b ⊎ InLooks earlier b) p k.block → LookAt (λ a. t' (Home a)) (λ b i. t' (Body b i)) author latch (λ b. named' b ⊎ InLooks earlier b) p k.block
    at (Home a) y = (y.0, y.1, hh a k.block y.0 y.1 y.2)
    at (Body b i) y = (y.0, y.1, hb b i k.block y.0 y.1 (elim y.3 [ inl u ↦ hn b u | inr u ↦ he b u ]) y.2, elim y.3 [ inl u ↦ inl (hm b u) | inr u ↦ inr u ])
    at _ y = absurd y
