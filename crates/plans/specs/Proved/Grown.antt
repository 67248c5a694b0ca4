-- what each word step leaves of its agent and of what was read, and so each machine: what is proved of it
use Rattle.std.proofs.Common.{◌≡◌, ℕ, ◌+◌, refl, sym, ◌∙◌, subst, arith, Bool, true, false, not, cond, eqb, ◌&&◌, ◌||◌, List, [], ◌∷◌, ◌++◌, Option, Some, None}
use Rattle.std.proofs.lemmas.Bool.{true≢false}
use Rattle.std.proofs.lemmas.List.Elements.{All-nil, All-cons, All-weaker, All-contains, Contains-append_right}
use Rattle.std.specs.{Prelude.{◌==◌, nat_le, if◌then◌else◌}, List.{Contains, filter, list_any, All}}
use Rattle.shm_words.specs.{declared.geometry.Geometry.Geometry, Headers.header_of}
use Rattle.shm_graph.specs.declared.{ask.{Ask.{Ask, TheVariants.{Load, Store, Exchange}}, Me.Me}, spot.Spot.Spot}
use Rattle.shm_graph.specs.declared.memo.Fact.{Fact, TheVariants.{Header as HeaderRead, Counter, Class}}
use Rattle.shm_graph.specs.declared.memo.{First.TheVariants.{Begun, Committed}, Second.TheVariants.{Open, Closed}}
use Rattle.shm_graph.specs.declared.memo.{ChangeStage.TheVariants.{Raising, Lowering}, Memo.Memo, Op.Op, Step.Step}
use Rattle.shm_graph.specs.{declared.memo.Test.Test, Agents.{recovers, status_of}, Asks.{pair, at_of, seen_of}}
use Rattle.shm_graph.specs.Blocks.{classes}
use Rattle.shm_graph.specs.Changes.{is_lane_count, forgotten, called, memo_on, test_before, changed_by}
use Rattle.shm_graph.specs.MemoAfterExchange.{cut, reparted, without_made, with_unsent, with_untaken, lowered, committed, exchanged_on}
use Rattle.shm_graph.specs.{Laws.{Control, Frame, framed, Outcome}, Ops.{is_op, slot_of}, Reach.{learnt, is_dying}}
use Rattle.shm_graph.specs.MemoAfterRead.{is_held, is_head_slot, is_latched, read_on, reference_read, row_read, valued, values_read, word_read}
use Rattle.shm_graph.specs.Spots.{same_spot, spot_at}
use Rattle.shm_graph.specs.MemoAfterStore.{is_lowering, making_with, not_of, other_than, put, with_own, without_looks, written, op_closed, era_stored, stored_on}
use Rattle.shm_graph.specs.Telling.{Claim, claim_of}
use Rattle.shm_graph.specs.declared.spot.Spot.TheVariants as spot
use Rattle.shm_graph.specs.declared.memo.Op.TheVariants as op
use Rattle.shm_graph.proofs.{Machines.Calling.called_by, StepKinds.Loads.choice, Memos.MemoSteps.recovers_on}
use Rattle.plans.specs.{Parts.{Part, PartLaws}, Placed.{MayStand, PlacedKeeps}, Grown.{Grows, grown}}

-- ---- what was read stays

-- a fact stays where more are read
more_facts : (f k : Fact) (fs : List Fact) → Contains fs k → Contains (f ∷ fs) k
more_facts f k fs h = Contains-append_right (f ∷ []) fs k h

abbrev Has : Fact → Memo → Type 0
Has k m = Contains m.facts k

-- where a word was read
word_facts : (m : Memo) (o : Option Claim) (b i n : ℕ) (k : Fact) → Has k m → Has k (word_read m o b i n)
word_facts m None b i n k h = h
word_facts m (Some x) b i n k h =
    choice (Has k) (is_dying m b || nat_le x.refs i) (record m { known = learnt (spot.Body b i) n m.known }) (if is_latched x.author m.latch then reference_read m b i n else m) (λ e. h)
    (λ e. choice (Has k) (is_latched x.author m.latch) (reference_read m b i n) m
    (λ f. choice (Has k) (n == 0) (record m { known = learnt (spot.Body b i) n m.known }) (record m { looks = m.looks ++ record { block = n; from = spot.Body b i } ∷ []; known = learnt (spot.Body b i) n m.known; values = values_read m b i n }) (λ z. h) (λ z. h))
    (λ f. h))

read_facts : (g : Geometry) (c : ℕ) (load : Bool) (m : Memo) (test : Option Test) (p : Spot) (n : ℕ) (k : Fact) → Has k m → Has k (read_on g c load m test p n)
read_facts g c load m test (spot.Hold d) n k h = choice (Has k) (recovers m && (c == d)) (record m { op = op.Nothing }) m (λ e. h) (λ e. h)
read_facts g c load m test (spot.Home a) n k h = choice (Has k) (is_held m.latch a && not (n == 0)) (record m { looks = m.looks ++ record { block = n; from = spot.Home a } ∷ [] }) m (λ e. h) (λ e. h)
read_facts g c load m test (spot.Era i j) n k h =
    choice (Has k) ((j == c) && not (i == c)) (row_read c m test i n) (record m { facts = Counter (spot.Era i j) n ∷ m.facts })
    (λ e. more_facts (Counter (spot.Era i c) n) k m.facts h) (λ e. more_facts (Counter (spot.Era i j) n) k m.facts h)
read_facts g c load m test (spot.Tail s r) n k h = more_facts (Counter (spot.Tail s r) n) k m.facts h
read_facts g c load m test (spot.QueueHead s r) n k h = more_facts (Counter (spot.QueueHead s r) n) k m.facts h
read_facts g c load m test (spot.Slot s r i) n k h = choice (Has k) (is_head_slot c m s r i && not (n == 0)) (record m { known = learnt (spot.Slot s r i) n m.known; values = valued m.part n m.values }) m (λ e. h) (λ e. h)
read_facts g c load m test (spot.Page s q) n k h =
    choice (Has k) (n == 0) (if list_any (eqb s) m.owned then record m { zeros = spot.Page s q ∷ m.zeros } else m) (record m { facts = Class s q n ∷ m.facts })
    (λ e. choice (Has k) (list_any (eqb s) m.owned) (record m { zeros = spot.Page s q ∷ m.zeros }) m (λ z. h) (λ z. h))
    (λ e. more_facts (Class s q n) k m.facts h)
read_facts g c load m test (spot.Head b) n k h = more_facts (HeaderRead n) k m.facts h
read_facts g c load m test (spot.Body b i) n k h = word_facts m (claim_of g.wide c m (b + 2 + i)) b i n k h
read_facts g c load m test _ n k h = h

-- where a word was stored
stored_facts : (g : Geometry) (c : ℕ) (m : Memo) (p : Spot) (v : ℕ) (k : Fact) → Has k m → Has k (stored_on g c m p v)
stored_facts g c m (spot.Status d) v k h = choice (Has k) (v == 2) (record m { status = status_of v; making = None; known = []; values = [] }) (record m { status = status_of v }) (λ e. h) (λ e. h)
stored_facts g c m (spot.Era i j) v k h =
    let n : Memo = record (with_own m (spot.Era i j) v) { op = op_closed m.op v } in
    choice (Has k) (j == c) (era_stored c m (spot.Era i j) v) (with_own m (spot.Era i j) v)
    (λ e. choice (Has k) (is_lowering m.op) (without_looks c n) n (λ z. h) (λ z. h))
    (λ e. h)
stored_facts g c m (spot.Page s q) v k h = more_facts (Class s q v) k m.facts h
stored_facts g c m (spot.Tag b) v k h = choice (Has k) (is_dying m b) (record m { known = learnt (spot.Tag b) v m.known }) (record m { making = making_with g m.facts m.making b (spot.Tag b) v }) (λ e. h) (λ e. h)
stored_facts g c m (spot.Body b i) v k h =
    choice (Has k) (is_op m.op && same_spot (slot_of m.op) (spot.Body b i)) (record (written m) { known = learnt (spot.Body b i) v m.known }) (record m { making = making_with g m.facts m.making b (spot.Body b i) v }) (λ e. h) (λ e. h)
stored_facts g c m _ v k h = h

-- where a header was exchanged
unsent_facts : (c : ℕ) (p : Spot) (b : ℕ) (m : Memo) → (with_unsent c p b m).facts ≡ m.facts
unsent_facts c (spot.Slot s r i) b m = choice (λ (x : Memo). x.facts ≡ m.facts) (s == c) (record m { unsent = put 0 m.unsent r b }) m (λ e. refl) (λ e. refl)
unsent_facts c _ b m = refl

untaken_facts : (c : ℕ) (p : Spot) (b : ℕ) (m : Memo) → (with_untaken c p b m).facts ≡ m.facts
untaken_facts c (spot.Slot s r i) b m = choice (λ (x : Memo). x.facts ≡ m.facts) (r == c) (record m { untaken = put 0 m.untaken s b; known = filter (λ x. other_than (spot.Slot s r i) x.spot) m.known }) m (λ e. refl) (λ e. refl)
untaken_facts c _ b m = refl

lowered_facts : (n b : ℕ) (m : Memo) → (lowered n b m).facts ≡ m.facts
lowered_facts n b m = choice (λ (x : Memo). x.facts ≡ m.facts) (n == 0) (record m { dying = m.dying ++ b ∷ []; known = filter (not_of b) m.known }) m (λ e. refl) (λ e. refl)

committed_facts : (wide : Bool) (c : ℕ) (m : Memo) (o : Op) (to : ℕ) → (committed wide c m o to).facts ≡ m.facts
committed_facts wide c m (op.Alloc Begun p b e) to = refl
committed_facts wide c m (op.Up Begun p b e) to = unsent_facts c p b (record m { op = op.Up Committed p b e; made = without_made m b })
committed_facts wide c m (op.Down Begun p b e) to =
    let q : Memo = record m { op = op.Down Committed p b e; made = without_made m b } in
    let n : Memo = with_untaken c p b (with_unsent c p 0 q) in
    lowered_facts (header_of to).count b (cut c p (reparted c n p 0)) ∙ (untaken_facts c p b (with_unsent c p 0 q) ∙ unsent_facts c p 0 q)
committed_facts wide c m (op.Change (Raising Begun) p a b e) to = refl
committed_facts wide c m (op.Change (Lowering Open) p a b e) to = lowered_facts (header_of to).count a (cut c p (record m { op = op.Change (Lowering Closed) p a b e; made = without_made m a }))
committed_facts wide c m _ to = refl

exchanged_facts : (wide : Bool) (c : ℕ) (m : Memo) (p : Spot) (to : ℕ) → (exchanged_on wide c m p to).facts ≡ m.facts
exchanged_facts wide c m (spot.Head b) to = committed_facts wide c m m.op to
exchanged_facts wide c m _ to = refl

changed_facts : (m : Memo) (t : Step) (p : Spot) (a : Ask) (k : Fact) → Has k (called m t) → Has k (changed_by m t p a)
changed_facts m t p (Load at) k h = read_facts t.me.geometry t.me.who true (called m t) (test_before m t) p t.seen k h
changed_facts m t p (Store at v) k h = stored_facts t.me.geometry t.me.who (called m t) p v k h
changed_facts m t p (Exchange at from to) k h =
    choice (Has k) (t.seen == from) (exchanged_on t.me.geometry.wide t.me.who (called m t) p to) (read_on t.me.geometry t.me.who false (called m t) (test_before m t) p t.seen)
    (λ e. subst (λ (fs : List Fact). Contains fs k) (sym (exchanged_facts t.me.geometry.wide t.me.who (called m t) p to)) h)
    (λ e. read_facts t.me.geometry t.me.who false (called m t) (test_before m t) p t.seen k h)

-- a test leaves each fact that passes
passes : (test : Fact → Bool) (fs : List Fact) → All (λ x. test x ≡ true → Contains (filter test fs) x) fs
passes test [] = All-nil (λ x. test x ≡ true → Contains (filter test []) x)
passes test (x ∷ fs) = go (test x) refl (passes test fs)
  where
    go : (b : Bool) → test x ≡ b → All (λ y. test y ≡ true → Contains (filter test fs) y) fs → All (λ y. test y ≡ true → Contains (cond b (x ∷ filter test fs) (filter test fs)) y) (x ∷ fs)
    go true e r = All-cons (λ y. test y ≡ true → Contains (x ∷ filter test fs) y) x fs (λ _. (0, omega arith, refl)) (All-weaker (λ y. test y ≡ true → Contains (filter test fs) y) (λ y. test y ≡ true → Contains (x ∷ filter test fs) y) (λ y h t. more_facts x y (filter test fs) (h t)) fs r)
    go false e r = All-cons (λ y. test y ≡ true → Contains (filter test fs) y) x fs (λ t. absurd (true≢false (sym t ∙ e))) r

-- ---- what a word step leaves

pub grows_now : (first : Bool) (m : Memo) → Grows first m m
grows_now first m = record { agent = refl; counts = λ k e h. h; facts = λ e k h. h }

pub grows_then : (first : Bool) (m n r : Memo) → Grows first m n → Grows first n r → Grows first m r
grows_then first m n r x y = record { agent = y.agent ∙ x.agent; counts = λ k e h. y.counts k e (x.counts k e h); facts = λ e k h. y.facts e k (x.facts e k h) }

-- each word step leaves this of its memo
pub grows_on : (first : Bool) (m : Memo) (me : Me) (a : Ask) (f : Frame) (n : ℕ) (p : Spot) → MayStand first f → Grows first m (memo_on m (framed me a f n) p)
grows_on first m me a f n p may =
    let t : Step = framed me a f n in
    record {
      agent = recovers_on m t p;
      counts = λ k e h. changed_facts m t p a k (called_by (Has k) m t (All-contains (λ x. is_lane_count x ≡ true → Contains (filter is_lane_count m.facts) x) m.facts k (passes is_lane_count m.facts) h e) h);
      facts = λ e k h. changed_facts m t p a k (subst (λ z. Contains (cond z (forgotten m) m).facts k) (sym (may e)) h);
    }

-- and so does one more word step
pub grows_more : (first : Bool) (r0 m : Memo) (me : Me) (a : Ask) (f : Frame) (n : ℕ) (p : Spot) → MayStand first f → Grows first r0 m → Grows first r0 (memo_on m (framed me a f n) p)
grows_more first r0 m me a f n p may h = grows_then first r0 m (memo_on m (framed me a f n) p) h (grows_on first m me a f n p may)

-- ---- what a part leaves

-- what holds after a step holds with what holds anyway
both : {A : Type 0} (o : Option A) (P : Type 0) (Q : A → Type 0) (R : Type 0) → R → Outcome o P Q → Outcome o (P × R) (λ a. Q a × R)
both None P Q R g h = (h, g)
both (Some a) P Q R g h = (h, g)

module _ {S A : Type 0} (first : Bool) (k : Control S A) (p : Part S A) (l : PartLaws first k p) where
  grown_keeps : PlacedKeeps first k (grown first p).fits (grown first p).gives
  grown_keeps m r0 tr w r f going s may fit =
      let me : Me = k.me m in
      let a : Ask = k.asks m in
      let at : Spot = spot_at me.geometry (classes w) (at_of a) in
      let n : ℕ = seen_of a (w at) in
      let x : Memo = memo_on (r me.who) (framed me a f n) at in
      let kept = l.placed.keeps m r0 tr w r f going s may fit.0 in
      record {
        told = kept.told;
        step = kept.step;
        fits = both (k.turns m n) (p.fits (k.after m n) r0 x (tr ++ pair a n ∷ [])) (p.gives m r0 x (tr ++ pair a n ∷ [])) (Grows first r0 x) (grows_more first r0 (r me.who) me a f n at may fit.1) kept.fits;
      }

  -- each part leaves it
  pub grown_laws : PartLaws first k (grown first p)
  grown_laws =
      record {
        placed = record {
          steady = l.placed.steady;
          inside = λ m r0 r tr who fit. l.placed.inside m r0 r tr who fit.0;
          back = λ m n going goes r0 r tr a g. (l.placed.back m n going goes r0 r tr a g.0, g.1);
          keeps = grown_keeps;
        };
        tells = λ m r0 tr going w r f s fit. l.tells m r0 tr going w r f s fit.0;
        begins = λ m r n. (l.begins m r n, grows_now first r);
        ends = λ m rs r t a n g held same. (l.ends m rs r t a n g.0 held same, g.1);
        asked = λ m rs r t a n g. l.asked m rs r t a n g.0;
      }
