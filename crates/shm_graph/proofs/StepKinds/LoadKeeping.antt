-- loads of the fixed part, and exchanges there that fail, as machines use them
use Rattle.std.proofs.Common.{◌≡◌, ◌≢◌, ℕ, ◌<◌, refl, sym, ap, ◌∙◌, subst, arith, true, false, not, Bool, cond, eqb, ◌&&◌, List, [], ◌∷◌, ◌++◌, Option}
use Rattle.std.proofs.lemmas.Bool.{eq-eqb, ne_eqb, eqb-true, and_parts, false≢true, true≢false}
use Rattle.std.specs.{Prelude.{None, Some}, List.list_any}
use Rattle.shm_words.specs.declared.geometry.Geometry.{Geometry}
use Rattle.shm_graph.specs.declared.{ask.{Ask.TheVariants.{Load, Exchange}, Me.Me}, spot.Spot.Spot}
use Rattle.shm_graph.specs.declared.spot.Spot.TheVariants.{Hold, Home, Era, Tail, QueueHead, Slot, Page, Head, Tag, Body}
use Rattle.shm_graph.specs.declared.memo.{Agent.Agent, Fact.TheVariants.{Counter, Class}, Memo.Memo, Step.Step, Op.Op}
use Rattle.shm_graph.specs.{declared.memo.Op.TheVariants.Nothing, Spots.{spot_at, upd, is_in_body}, Blocks.classes}
use Rattle.shm_graph.specs.{Views.{view, at1}, Held.HeldAt, Ops.{IsUncommitted, cover_of, held_over_of}, Asks.Trail}
use Rattle.shm_graph.specs.{Changes.{called, test_before, with_call, with_end, memo_on}, Reach.learnt}
use Rattle.shm_graph.specs.MemoAfterRead.{is_head_slot, valued, read_on, row_read, home_read, is_held}
use Rattle.shm_graph.specs.MemoAfterExchange.{exchanged_on}
use Rattle.shm_graph.specs.{Agents.{recovers, last_agent, recovers_by, with_last, stepped}, Events.{graph_of, IsSame}}
use Rattle.shm_graph.specs.Laws.{MayEnd, Frame, framed, Stands, KeptAt}
use Rattle.shm_graph.proofs.StepKinds.{SlotRead.slot_held, Loads.{choice, row_held, page_held}}
use Rattle.shm_graph.proofs.StepKinds.{OpEnd.{uncommitted_quiet, op_ended}, SameGraph.{era_lost, same_graph}}
use Rattle.shm_graph.proofs.{StepKinds.Keeping.fixed_kept, Runs.Lists.at1_here}
use Rattle.shm_graph.proofs.Memos.{MemoParts.{op_set, looks_set, end_view}, Looking.home_held}
use Rattle.shm_graph.proofs.Machines.Calling.{called_held, called_part, fact_held}

-- ---- the agent stays what it is

last_stepped : (xs : List Agent) → recovers_by (last_agent (with_last stepped xs)) ≡ recovers_by (last_agent xs)
last_stepped [] = refl
last_stepped (a ∷ []) = refl
last_stepped (a ∷ b ∷ []) = refl
last_stepped (a ∷ b ∷ d ∷ xs) = last_stepped (b ∷ d ∷ xs)

-- ---- each word of the fixed part

held_by : (latch : Option ℕ) (a : ℕ) → is_held latch a ≡ true → latch ≡ Some a
held_by None a e = absurd (false≢true e)
held_by (Some b) a e = ap Some (sym (eqb-true a b e))

hold_held : (g : Geometry) (w : Spot → ℕ) (r : ℕ → Memo) (c : ℕ) (t : Step) (d : ℕ) → HeldAt g w (view r) → c < g.clients → MayEnd c (r c) (Hold d)
    → HeldAt g w (view (at1 r c (read_on g c true (called (r c) t) (test_before (r c) t) (Hold d) (w (Hold d)))))
hold_held g w r c t d h l u =
    let m : Memo = called (r c) t in
    let here = called_held g w r c t h l in
    choice (λ (x : Memo). HeldAt g w (view (at1 r c x))) (recovers m && eqb c d) (record m { op = Nothing }) m
    (λ e. let q = and_parts (recovers m) (eqb c d) e in
    let s : IsUncommitted (r c).op = u (sym (last_stepped (r c).agents) ∙ q.0) (eqb-true c d q.1) in
    let z : (at1 r c m c).op ≡ (r c).op = ap (λ (x : Memo). x.op) (at1_here r c m) ∙ called_part (λ (x : Memo). x.op) (r c) t refl refl in
    subst (HeldAt g w) (sym (op_set r c m Nothing)) (op_ended g w (view (at1 r c m)) c here l (subst IsUncommitted (sym z) s)))
    (λ e. here)

home_load : (g : Geometry) (w : Spot → ℕ) (r : ℕ → Memo) (c : ℕ) (t : Step) (a : ℕ) → HeldAt g w (view r) → c < g.clients
    → HeldAt g w (view (at1 r c (home_read (called (r c) t) a (w (Home a)))))
home_load g w r c t a h l =
    let m : Memo = called (r c) t in
    let here = called_held g w r c t h l in
    let new = record { block = w (Home a); from = Home a } ∷ [] in
    choice (λ (x : Memo). HeldAt g w (view (at1 r c x))) (is_held m.latch a && not (eqb (w (Home a)) 0)) (record m { looks = m.looks ++ new }) m
    (λ e. let q = and_parts (is_held m.latch a) (not (eqb (w (Home a)) 0)) e in
    let z : (at1 r c m c).latch ≡ Some a = ap (λ (x : Memo). x.latch) (at1_here r c m) ∙ held_by m.latch a q.0 in
    subst (HeldAt g w) (ap (λ (x : Memo). record (view (at1 r c m)) { looks = at1 (view (at1 r c m)).looks c (x.looks ++ new) }) (at1_here r c m) ∙ sym (looks_set r c m (m.looks ++ new)))
    (home_held g w (view (at1 r c m)) c a here l z (λ n. false≢true (sym (ap not (eq-eqb (w (Home a)) 0 n)) ∙ q.1))))
    (λ e. here)

era_load : (g : Geometry) (w : Spot → ℕ) (r : ℕ → Memo) (c : ℕ) (t : Step) (i j : ℕ) → HeldAt g w (view r) → c < g.clients
    → HeldAt g w (view (at1 r c (read_on g c true (called (r c) t) (test_before (r c) t) (Era i j) (w (Era i j)))))
era_load g w r c t i j h l =
    let m : Memo = called (r c) t in
    choice (λ (x : Memo). HeldAt g w (view (at1 r c x))) (eqb j c && not (eqb i c)) (row_read c m (test_before (r c) t) i (w (Era i j))) (record m { facts = Counter (Era i j) (w (Era i j)) ∷ m.facts })
    (λ e. subst (λ k. HeldAt g w (view (at1 r c (row_read c m (test_before (r c) t) i (w (Era i k)))))) (sym (eqb-true j c (and_parts (eqb j c) (not (eqb i c)) e).0)) (row_held g w r c t i h l))
    (λ e. fact_held g w r c t (Counter (Era i j) (w (Era i j))) None h l (omega arith) tt)

-- a word outside the bodies was read
pub read_held : (g : Geometry) (w : Spot → ℕ) (r : ℕ → Memo) (c : ℕ) (t : Step) (load : Bool) (p : Spot) → HeldAt g w (view r) → c < g.clients → is_in_body p ≡ false → MayEnd c (r c) p
    → HeldAt g w (view (at1 r c (read_on g c load (called (r c) t) (test_before (r c) t) p (w p))))
read_held g w r c t load (Hold d) h l n u = hold_held g w r c t d h l u
read_held g w r c t load (Home a) h l n u = home_load g w r c t a h l
read_held g w r c t load (Era i j) h l n u = era_load g w r c t i j h l
read_held g w r c t load (Tail s k) h l n u = fact_held g w r c t (Counter (Tail s k) (w (Tail s k))) None h l (omega arith) tt
read_held g w r c t load (QueueHead s k) h l n u = fact_held g w r c t (Counter (QueueHead s k) (w (QueueHead s k))) None h l (omega arith) tt
read_held g w r c t load (Slot s i k) h l n u = slot_held g w r c t s i k h l
read_held g w r c t load (Page s q) h l n u = page_held g w r c t s q h l
read_held g w r c t load (Head b) h l n u = absurd (true≢false n)
read_held g w r c t load (Tag b) h l n u = absurd (true≢false n)
read_held g w r c t load (Body b i) h l n u = absurd (true≢false n)
read_held g w r c t load _ h l n u = called_held g w r c t h l

-- ---- what a machine owes

-- the step in progress is the same, or it was not committed and has ended
pub read_op : (P : Op → Type 0) (g : Geometry) (c : ℕ) (r : Memo) (t : Step) (load : Bool) (p : Spot) (seen : ℕ) → P r.op → (IsUncommitted r.op → P Nothing) → is_in_body p ≡ false → MayEnd c r p → P (read_on g c load (called r t) (test_before r t) p seen).op
read_op P g c r t load p seen same none n u = go p n u
  where
    m : Memo
    m = called r t

    Q : Memo → Type 0
    Q x = P x.op

    o : P m.op
    o = subst P (sym (called_part (λ (x : Memo). x.op) r t refl refl)) same

    go : (p : Spot) → is_in_body p ≡ false → MayEnd c r p → P (read_on g c load (called r t) (test_before r t) p seen).op
    go (Hold d) n u = choice Q (recovers m && eqb c d) (record m { op = Nothing }) m
        (λ e. let q = and_parts (recovers m) (eqb c d) e in none (u (sym (last_stepped r.agents) ∙ q.0) (eqb-true c d q.1))) (λ e. o)
    go (Home a) n u = choice Q (is_held m.latch a && not (eqb seen 0)) (record m { looks = m.looks ++ record { block = seen; from = Home a } ∷ [] }) m (λ e. o) (λ e. o)
    go (Era i j) n u = choice Q (eqb j c && not (eqb i c)) (row_read c m (test_before r t) i seen) (record m { facts = Counter (Era i j) seen ∷ m.facts }) (λ e. o) (λ e. o)
    go (Slot s i k) n u = choice Q (is_head_slot c m s i k && not (eqb seen 0)) (record m { known = learnt (Slot s i k) seen m.known; values = valued m.part seen m.values }) m (λ e. o) (λ e. o)
    go (Page s k) n u = choice Q (eqb seen 0) (cond (list_any (eqb s) m.owned) (record m { zeros = Page s k ∷ m.zeros }) m) (record m { facts = Class s k seen ∷ m.facts })
        (λ e. choice Q (list_any (eqb s) m.owned) (record m { zeros = Page s k ∷ m.zeros }) m (λ f. o) (λ f. o)) (λ e. o)
    go (Head b) n u = absurd (true≢false n)
    go (Tag b) n u = absurd (true≢false n)
    go (Body b i) n u = absurd (true≢false n)
    go _ n u = o

-- the memo after the read
abbrev read_memo : Geometry → ℕ → Memo → Step → Bool → Spot → ℕ → Memo
read_memo g c r t load p seen = with_end t.ends (with_call (called r t) (read_on g c load (called r t) (test_before r t) p seen))

read_same : (g : Geometry) (w : Spot → ℕ) (r : ℕ → Memo) (c : ℕ) (t : Step) (load : Bool) (p : Spot) → is_in_body p ≡ false → MayEnd c (r c) p → IsSame (graph_of g w (view r)) (graph_of g w (view (at1 r c (read_memo g c (r c) t load p (w p)))))
read_same g w r c t load p n u =
    same_graph g w w r c (read_memo g c (r c) t load p (w p))
    (read_op (λ o. cover_of o ≡ cover_of (r c).op) g c (r c) t load p (w p) refl (λ q. sym (uncommitted_quiet (r c).op q).0) n u)
    (read_op (λ o. held_over_of o ≡ held_over_of (r c).op) g c (r c) t load p (w p) refl (λ q. sym (uncommitted_quiet (r c).op q).1) n u)
    (λ b. refl) (λ b. refl) refl

memo_held : (g : Geometry) (w : Spot → ℕ) (r : ℕ → Memo) (c : ℕ) (t : Step) (load : Bool) (p : Spot) → HeldAt g w (view r) → c < g.clients → is_in_body p ≡ false → MayEnd c (r c) p → HeldAt g w (view (at1 r c (read_memo g c (r c) t load p (w p))))
memo_held g w r c t load p h l n u = subst (HeldAt g w) (sym (end_view r c (called (r c) t) (read_on g c load (called (r c) t) (test_before (r c) t) p (w p)) t.ends)) (read_held g w r c t load p h l n u)

-- a word of the fixed part is loaded
pub load_kept : (me : Me) (w : Spot → ℕ) (r : ℕ → Memo) (f : Frame) (tr : Trail) (at : ℕ) (after : ℕ → Memo → Type 0) (p : Spot) → Stands me w r f tr → spot_at me.geometry (classes w) at ≡ p → is_in_body p ≡ false → MayEnd me.who (r me.who) p
    → after (w p) (memo_on (r me.who) (framed me (Load at) f (w p)) p)
    → KeptAt me w r (Load at) f after (spot_at me.geometry (classes w) at)
load_kept me w r f tr at after p s e n u x =
    let t : Step = framed me (Load at) f (w p) in
    fixed_kept me w r (Load at) f after p e n (memo_held me.geometry w r me.who t true p s.held s.who n u) (read_same me.geometry w r me.who t true p n u) tt tt x

-- an exchange of a word of the fixed part found another word
pub lost_kept : (me : Me) (w : Spot → ℕ) (r : ℕ → Memo) (f : Frame) (tr : Trail) (at from to : ℕ) (after : ℕ → Memo → Type 0) (p : Spot) → Stands me w r f tr → spot_at me.geometry (classes w) at ≡ p → is_in_body p ≡ false → MayEnd me.who (r me.who) p → w p ≢ from
    → after (w p) (memo_on (r me.who) (framed me (Exchange at from to) f (w p)) p)
    → KeptAt me w r (Exchange at from to) f after (spot_at me.geometry (classes w) at)
lost_kept me w r f tr at from to after p s e n u other x =
    let c = me.who in
    let g = me.geometry in
    let t : Step = framed me (Exchange at from to) f (w p) in
    let lost : false ≡ eqb (w p) from = sym (ne_eqb (w p) from other) in
    let words : Bool → Spot → ℕ = λ b. cond b (upd w p to) w in
    let memo : Bool → Memo = λ b. with_end f.ends (with_call (called (r c) t) (cond b (exchanged_on g.wide c (called (r c) t) p to) (read_on g c false (called (r c) t) (test_before (r c) t) p (w p)))) in
    fixed_kept me w r (Exchange at from to) f after p e n
    (subst (λ b. HeldAt g (words b) (view (at1 r c (memo b)))) lost (memo_held g w r c t false p s.held s.who n u))
    (subst (λ b. IsSame (graph_of g w (view r)) (graph_of g (words b) (view (at1 r c (memo b))))) lost (read_same g w r c t false p n u))
    (λ q. absurd (other q)) (era_lost w at from to p other) x
