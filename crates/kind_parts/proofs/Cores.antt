-- memos by their cores: what a word step leaves, and what is in reach
use Rattle.std.proofs.Common.{◌≡◌, ℕ, zero, suc, ◌≤◌, refl, sym, ap, ◌∙◌, subst, arith, Bool, true, false, not, cond, eqb, leb, ◌&&◌, List, [], ◌∷◌, ◌++◌, map}
use Rattle.std.proofs.lemmas.{Bool.{and_from, cond-true}, List.Elements.Contains-append_right}
use Rattle.std.specs.List.{Contains, list_any, filter}
use Rattle.shm_graph.specs.declared.{ask.{Ask.{Ask, TheVariants.Load}, Me.Me}, spot.Spot.Spot, memo.Fact.Fact}
use Rattle.shm_graph.specs.declared.memo.{Fact.TheVariants.Counter, ChangeStage.TheVariants.Raising, Look.Look}
use Rattle.shm_graph.specs.{declared.memo.{Memo.Memo, Op.Op, Step.Step}, Agents.recovers}
use Rattle.shm_graph.specs.{Changes.{is_lane_count, called, test_before, with_call, with_end, memo_on}, Held.room_of}
use Rattle.shm_graph.specs.{Laws.{Frame, framed}, Reach.{shown, roots_below, in_slots, not_zero, is_reached, learnt}}
use Rattle.shm_graph.specs.{MemoAfterRead.{row_read, header_read, op_refused, raised_by, is_held}, Spots.same_spot}
use Rattle.shm_graph.specs.{MemoAfterStore.{written, stored_on}, Core.core, Ops.{is_op, slot_of}}
use Rattle.shm_graph.specs.declared.spot.Spot.TheVariants as spot
use Rattle.shm_graph.specs.declared.memo.Op.TheVariants as op
use Rattle.shm_graph.proofs.{Machines.Calling.{called_by, called_part}, StepKinds.{KindKeeping.in_frame, Loads.choice}}
use Rattle.shm_graph.proofs.{Spots.Spotting.same_spot_self, Memos.MemoSteps.recovers_called}
use Rattle.kind_laws.proofs.Lists.{Contains-filter}
use Rattle.kind_parts.specs.Conditions.{IsHere}
use Rattle.shm_words.specs.{Headers.header_of, declared.geometry.Geometry.Geometry}

-- the cores of memos that are chosen alike
pub core_cond : (z : Bool) (a b a' b' : Memo) → core a ≡ core a' → core b ≡ core b' → core (cond z a b) ≡ core (cond z a' b')
core_cond true a b a' b' x y = x
core_cond false a b a' b' x y = y

-- the memo at a step has what the memo had
pub called_core : (m : Memo) (t : Step) → core (called m t) ≡ core m
called_core m t = called_part core m t refl refl

-- and its facts, but at a machine's first step
pub called_facts : (me : Me) (a : Ask) (f : Frame) (n : ℕ) (m : Memo) → f.fresh ≡ false → (called m (framed me a f n)).facts ≡ m.facts
called_facts me a f n m e = in_frame (λ h. (called m (framed me a h n)).facts ≡ m.facts) f e refl

-- an era was read
pub era_core : (me : Me) (f : Frame) (m : Memo) (at i j n : ℕ) → core (memo_on m (framed me (Load at) f n) (spot.Era i j)) ≡ core m
era_core me f m at i j n =
    let t : Step = framed me (Load at) f n in
    let x : Memo = called m t in
    choice (λ (y : Memo). core y ≡ core x) (eqb j me.who && not (eqb i me.who)) (row_read me.who x (test_before m t) i n) (record x { facts = Counter (spot.Era i j) n ∷ x.facts }) (λ z. refl) (λ z. refl)
    ∙ called_core m t

-- what was read of tails and heads outlives the calls, and so each word step
pub called_count : (m : Memo) (t : Step) (k : Fact) → is_lane_count k ≡ true → Contains m.facts k → Contains (called m t).facts k
called_count m t k lane h = called_by (λ (x : Memo). Contains x.facts k) m t (Contains-filter is_lane_count m.facts k h lane) h

pub era_counts : (me : Me) (f : Frame) (m : Memo) (at i j n : ℕ) (k : Fact) → is_lane_count k ≡ true → Contains m.facts k → Contains (memo_on m (framed me (Load at) f n) (spot.Era i j)).facts k
era_counts me f m at i j n k lane h =
    let t : Step = framed me (Load at) f n in
    let x : Memo = called m t in
    let has : Contains x.facts k = called_count m t k lane h in
    choice (λ (y : Memo). Contains y.facts k) (eqb j me.who && not (eqb i me.who)) (row_read me.who x (test_before m t) i n) (record x { facts = Counter (spot.Era i j) n ∷ x.facts })
    (λ z. Contains-append_right (Counter (spot.Era i me.who) n ∷ []) x.facts k has)
    (λ z. Contains-append_right (Counter (spot.Era i j) n ∷ []) x.facts k has)

-- what was read before still binds
pub era_facts : (me : Me) (f : Frame) (m : Memo) (at i j n : ℕ) (k : Fact) → f.fresh ≡ false → Contains m.facts k → Contains (memo_on m (framed me (Load at) f n) (spot.Era i j)).facts k
era_facts me f m at i j n k going h =
    let t : Step = framed me (Load at) f n in
    let x : Memo = called m t in
    let has : Contains x.facts k = subst (λ (fs : List Fact). Contains fs k) (sym (called_facts me (Load at) f n m going)) h in
    choice (λ (y : Memo). Contains y.facts k) (eqb j me.who && not (eqb i me.who)) (row_read me.who x (test_before m t) i n) (record x { facts = Counter (spot.Era i j) n ∷ x.facts })
    (λ z. Contains-append_right (Counter (spot.Era i me.who) n ∷ []) x.facts k has)
    (λ z. Contains-append_right (Counter (spot.Era i j) n ∷ []) x.facts k has)

-- the step that ends where a header shows a full count, by whether the agent is a recoverer
abbrev refused_by : Bool → Op → ℕ → ℕ → Op
refused_by y o b n = cond (not y && (is_held (raised_by o) b && leb 1023 (header_of n).count)) op.Nothing o

-- a header was read, by a load or by an exchange that failed
pub header_core : (me : Me) (a : Ask) (f : Frame) (m : Memo) (b n : ℕ) (load : Bool)
    → core (with_end f.ends (with_call (called m (framed me a f n)) (header_read me.geometry me.who load (called m (framed me a f n)) b n))) ≡ core (record m { op = op_refused m b n })
header_core me a f m b n load =
    let t : Step = framed me a f n in
    ap (λ y. core (record (called m t) { op = refused_by y (called m t).op b n })) (recovers_called m t)
    ∙ ap (λ (x : Memo). record x { op = refused_by (recovers m) x.op b n }) (called_core m t)

-- each own era leaves room for two more
pub room_least : (o : Op) → 2 ≤ room_of o
room_least op.Nothing = omega arith
room_least (op.Change (Raising s) p a b e) = omega arith
room_least _ = omega arith

pub roots_same : (c : ℕ) (m m' : Memo) → ((k : ℕ) → shown m' (spot.Root c k) ≡ shown m (spot.Root c k)) → (n : ℕ) → roots_below c m' n ≡ roots_below c m n
roots_same c m m' e zero = refl
roots_same c m m' e (suc k) = ap (λ y. y ∷ roots_below c m' k) (e k) ∙ ap (λ ys. shown m (spot.Root c k) ∷ ys) (roots_same c m m' e k)

-- the same blocks are in reach where the own reference words, what is known and the looks show the same
pub reach_same : (c : ℕ) (m m' : Memo) (b : ℕ) → ((k : ℕ) → shown m' (spot.Root c k) ≡ shown m (spot.Root c k)) → shown m' (spot.Home c) ≡ shown m (spot.Home c) → m'.known ≡ m.known → m'.looks ≡ m.looks → is_reached c m' b ≡ is_reached c m b
reach_same c m m' b roots home known looks =
    ap (λ xs. list_any (eqb b) (filter not_zero (xs ++ shown m' (spot.Home c) ∷ in_slots m'.known) ++ map (λ (k : Look). k.block) m'.looks)) (roots_same c m m' roots 16)
    ∙ (ap (λ y. list_any (eqb b) (filter not_zero (roots_below c m 16 ++ y ∷ in_slots m'.known) ++ map (λ (k : Look). k.block) m'.looks)) home
    ∙ (ap (λ ks. list_any (eqb b) (filter not_zero (roots_below c m 16 ++ shown m (spot.Home c) ∷ in_slots ks) ++ map (λ (k : Look). k.block) m'.looks)) known
    ∙ ap (λ (ls : List Look). list_any (eqb b) (filter not_zero (roots_below c m 16 ++ shown m (spot.Home c) ∷ in_slots m.known) ++ map (λ (k : Look). k.block) ls)) looks))

-- an identity that is here is so where its status is the same
pub here_same : (r r' : Memo) → r'.status ≡ r.status → IsHere r → IsHere r'
here_same r r' e h = record { joined = λ z. h.joined (sym e ∙ z); stays = λ z. h.stays (sym e ∙ z) }

-- the slot is that of the step in progress
abbrev pub HasSlot : Memo → Spot → Type 0
HasSlot m p = (is_op m.op ≡ true) × (slot_of m.op ≡ p)

-- in a block it is the store of the step's word
pub body_word : (g : Geometry) (c b i v : ℕ) (m : Memo) → HasSlot m (spot.Body b i) → ◌≡◌ {A = Memo} (stored_on g c m (spot.Body b i) v) (record (written m) { known = learnt (spot.Body b i) v m.known })
body_word g c b i v m h = cond-true _ _ _ (and_from _ _ h.0 (ap (λ q. same_spot q (spot.Body b i)) h.1 ∙ same_spot_self (spot.Body b i)))
