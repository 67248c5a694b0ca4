-- which of the blocks that a call made are so still, by the events
use Rattle.std.proofs.Common.{◌≡◌, ℕ, ◌+◌, refl, sym, ap, ◌∙◌, subst, arith, Bool, true, false, not, cond, eqb, ◌&&◌, ◌||◌, List, [], ◌∷◌, ◌++◌, Option, Some, None}
use Rattle.std.proofs.lemmas.Bool.{cond-true, or_parts}
use Rattle.std.proofs.lemmas.List.Elements.{All-nil, All-cons, All-weaker, All-contains, Contains-append_right}
use Rattle.std.proofs.lemmas.List.Folds.{list_any-append}
use Rattle.std.specs.{Prelude.{◌==◌, nat_le, if◌then◌else◌}, List.{All, Contains, filter, list_any}}
use Rattle.shm_words.specs.{declared.geometry.Geometry.Geometry, Headers.header_of}
use Rattle.shm_graph.specs.declared.{ask.{Ask.{Ask, TheVariants.{Load, Store, Exchange}}, Me.Me}, spot.Spot.Spot}
use Rattle.shm_graph.specs.declared.memo.{Fact.TheVariants.{Counter, Class}, First.TheVariants.{Begun, Committed}}
use Rattle.shm_graph.specs.declared.memo.Second.TheVariants.{Open, Closed}
use Rattle.shm_graph.specs.declared.memo.{ChangeStage.TheVariants.{Raising, Lowering}, Memo.Memo, Op.Op, Step.Step}
use Rattle.shm_graph.specs.{declared.memo.Test.Test, Agents.{recovers, status_of}, Asks.{pair, at_of, seen_of}}
use Rattle.shm_graph.specs.{Blocks.classes, Changes.{forgotten, called, memo_on, test_before, changed_by}, Events.Event}
use Rattle.shm_graph.specs.MemoAfterExchange.{cut, reparted, without_made, with_unsent, with_untaken, lowered, committed, exchanged_on}
use Rattle.shm_graph.specs.{Laws.{Control, Frame, framed, Outcome, event_by, event_of, event_on}, Ops.{is_op, slot_of}}
use Rattle.shm_graph.specs.Reach.{learnt, is_dying}
use Rattle.shm_graph.specs.MemoAfterRead.{is_held, is_head_slot, is_latched, read_on, reference_read, row_read, valued, values_read, word_read}
use Rattle.shm_graph.specs.Spots.{same_spot, spot_at}
use Rattle.shm_graph.specs.MemoAfterStore.{is_lowering, making_with, not_block, not_of, other_than, put, with_own, without_looks, written, op_closed, era_stored, stored_on}
use Rattle.shm_graph.specs.{Telling.{Claim, claim_of}, Tells.{after_all, happens_along, is_event}}
use Rattle.shm_graph.specs.declared.spot.Spot.TheVariants as spot
use Rattle.shm_graph.specs.declared.memo.Op.TheVariants as op
use Rattle.shm_graph.specs.Events as event
use Rattle.shm_graph.proofs.Machines.{Calling.called_part, TellsAlong.{after_all-append, happens_along-append}}
use Rattle.shm_graph.proofs.StepKinds.Loads.{choice}
use Rattle.plans.specs.{Parts.{Part, PartLaws}, Placed.PlacedKeeps}

-- ---- what a word step leaves

-- whether an event changes the number of references to a block
abbrev pub touches : ℕ → Event → Bool
touches d (event.Up c p b) = b == d
touches d (event.Down c p b) = b == d
touches d (event.ChangeUp c p a b) = (a == d) || (b == d)
touches d (event.ChangeDown c a) = a == d
touches d x = false

-- where a word was read
word_made : (m : Memo) (o : Option Claim) (b i n : ℕ) → (word_read m o b i n).made ≡ m.made
word_made m None b i n = refl
word_made m (Some x) b i n =
    choice (λ (y : Memo). y.made ≡ m.made) (is_dying m b || nat_le x.refs i) (record m { known = learnt (spot.Body b i) n m.known }) (if is_latched x.author m.latch then reference_read m b i n else m) (λ e. refl)
    (λ e. choice (λ (y : Memo). y.made ≡ m.made) (is_latched x.author m.latch) (reference_read m b i n) m
    (λ f. choice (λ (y : Memo). y.made ≡ m.made) (n == 0) (record m { known = learnt (spot.Body b i) n m.known }) (record m { looks = m.looks ++ record { block = n; from = spot.Body b i } ∷ []; known = learnt (spot.Body b i) n m.known; values = values_read m b i n }) (λ z. refl) (λ z. refl))
    (λ f. refl))

read_made : (g : Geometry) (c : ℕ) (load : Bool) (m : Memo) (test : Option Test) (p : Spot) (n : ℕ) → (read_on g c load m test p n).made ≡ m.made
read_made g c load m test (spot.Hold d) n = choice (λ (y : Memo). y.made ≡ m.made) (recovers m && (c == d)) (record m { op = op.Nothing }) m (λ e. refl) (λ e. refl)
read_made g c load m test (spot.Home a) n = choice (λ (y : Memo). y.made ≡ m.made) (is_held m.latch a && not (n == 0)) (record m { looks = m.looks ++ record { block = n; from = spot.Home a } ∷ [] }) m (λ e. refl) (λ e. refl)
read_made g c load m test (spot.Era i j) n = choice (λ (y : Memo). y.made ≡ m.made) ((j == c) && not (i == c)) (row_read c m test i n) (record m { facts = Counter (spot.Era i j) n ∷ m.facts }) (λ e. refl) (λ e. refl)
read_made g c load m test (spot.Slot s r i) n = choice (λ (y : Memo). y.made ≡ m.made) (is_head_slot c m s r i && not (n == 0)) (record m { known = learnt (spot.Slot s r i) n m.known; values = valued m.part n m.values }) m (λ e. refl) (λ e. refl)
read_made g c load m test (spot.Page s q) n =
    choice (λ (y : Memo). y.made ≡ m.made) (n == 0) (if list_any (eqb s) m.owned then record m { zeros = spot.Page s q ∷ m.zeros } else m) (record m { facts = Class s q n ∷ m.facts })
    (λ e. choice (λ (y : Memo). y.made ≡ m.made) (list_any (eqb s) m.owned) (record m { zeros = spot.Page s q ∷ m.zeros }) m (λ z. refl) (λ z. refl))
    (λ e. refl)
read_made g c load m test (spot.Body b i) n = word_made m (claim_of g.wide c m (b + 2 + i)) b i n
read_made g c load m test _ n = refl

-- where a word was stored
stored_made : (g : Geometry) (c : ℕ) (m : Memo) (p : Spot) (v : ℕ) → (stored_on g c m p v).made ≡ m.made
stored_made g c m (spot.Status d) v = choice (λ (y : Memo). y.made ≡ m.made) (v == 2) (record m { status = status_of v; making = None; known = []; values = [] }) (record m { status = status_of v }) (λ e. refl) (λ e. refl)
stored_made g c m (spot.Era i j) v =
    let n : Memo = record (with_own m (spot.Era i j) v) { op = op_closed m.op v } in
    choice (λ (y : Memo). y.made ≡ m.made) (j == c) (era_stored c m (spot.Era i j) v) (with_own m (spot.Era i j) v)
    (λ e. choice (λ (y : Memo). y.made ≡ m.made) (is_lowering m.op) (without_looks c n) n (λ z. refl) (λ z. refl))
    (λ e. refl)
stored_made g c m (spot.Tag b) v = choice (λ (y : Memo). y.made ≡ m.made) (is_dying m b) (record m { known = learnt (spot.Tag b) v m.known }) (record m { making = making_with g m.facts m.making b (spot.Tag b) v }) (λ e. refl) (λ e. refl)
stored_made g c m (spot.Body b i) v =
    choice (λ (y : Memo). y.made ≡ m.made) (is_op m.op && same_spot (slot_of m.op) (spot.Body b i)) (record (written m) { known = learnt (spot.Body b i) v m.known }) (record m { making = making_with g m.facts m.making b (spot.Body b i) v }) (λ e. refl) (λ e. refl)
stored_made g c m _ v = refl

-- where a header was exchanged
unsent_made : (c : ℕ) (p : Spot) (b : ℕ) (m : Memo) → (with_unsent c p b m).made ≡ m.made
unsent_made c (spot.Slot s r i) b m = choice (λ (x : Memo). x.made ≡ m.made) (s == c) (record m { unsent = put 0 m.unsent r b }) m (λ e. refl) (λ e. refl)
unsent_made c _ b m = refl

untaken_made : (c : ℕ) (p : Spot) (b : ℕ) (m : Memo) → (with_untaken c p b m).made ≡ m.made
untaken_made c (spot.Slot s r i) b m = choice (λ (x : Memo). x.made ≡ m.made) (r == c) (record m { untaken = put 0 m.untaken s b; known = filter (λ x. other_than (spot.Slot s r i) x.spot) m.known }) m (λ e. refl) (λ e. refl)
untaken_made c _ b m = refl

lowered_made : (n b : ℕ) (m : Memo) → (lowered n b m).made ≡ m.made
lowered_made n b m = choice (λ (x : Memo). x.made ≡ m.made) (n == 0) (record m { dying = m.dying ++ b ∷ []; known = filter (not_of b) m.known }) m (λ e. refl) (λ e. refl)

-- a block that isn't b is left where b is taken out
spares : (b : ℕ) (xs : List ℕ) → All (λ d. (b == d) ≡ false → Contains (filter (not_block b) xs) d) xs
spares b [] = All-nil (λ d. (b == d) ≡ false → Contains (filter (not_block b) []) d)
spares b (x ∷ xs) =
    All-cons (λ d. (b == d) ≡ false → Contains (filter (not_block b) (x ∷ xs)) d) x xs
    (λ e. subst (λ ys. Contains ys x) (sym (cond-true (not_block b x) (x ∷ filter (not_block b) xs) (filter (not_block b) xs) (ap not e))) (0, omega arith, refl))
    (All-weaker (λ d. (b == d) ≡ false → Contains (filter (not_block b) xs) d) (λ d. (b == d) ≡ false → Contains (filter (not_block b) (x ∷ xs)) d)
    (λ d h e. choice (λ ys. Contains ys d) (not_block b x) (x ∷ filter (not_block b) xs) (filter (not_block b) xs) (λ _. Contains-append_right (x ∷ []) (filter (not_block b) xs) d (h e)) (λ _. h e)) xs (spares b xs))

spared : (b d : ℕ) (xs : List ℕ) → (b == d) ≡ false → Contains xs d → Contains (filter (not_block b) xs) d
spared b d xs e h = All-contains (λ d. (b == d) ≡ false → Contains (filter (not_block b) xs) d) xs d (spares b xs) h e

committed_made : (wide : Bool) (c : ℕ) (m : Memo) (o : Op) (to d : ℕ) → touches d (event_of c o) ≡ false → Contains m.made d → Contains (committed wide c m o to).made d
committed_made wide c m (op.Alloc Begun p b e) to d t h = Contains-append_right (b ∷ []) m.made d h
committed_made wide c m (op.Up Begun p b e) to d t h =
    subst (λ bs. Contains bs d) (sym (unsent_made c p b (record m { op = op.Up Committed p b e; made = without_made m b }))) (spared b d m.made t h)
committed_made wide c m (op.Down Begun p b e) to d t h =
    let q : Memo = record m { op = op.Down Committed p b e; made = without_made m b } in
    let n : Memo = with_untaken c p b (with_unsent c p 0 q) in
    subst (λ bs. Contains bs d) (sym (lowered_made (header_of to).count b (cut c p (reparted c n p 0)) ∙ (untaken_made c p b (with_unsent c p 0 q) ∙ unsent_made c p 0 q))) (spared b d m.made t h)
committed_made wide c m (op.Change (Raising Begun) p a b e) to d t h = spared a d (without_made m b) (or_parts (a == d) (b == d) t).0 (spared b d m.made (or_parts (a == d) (b == d) t).1 h)
committed_made wide c m (op.Change (Lowering Open) p a b e) to d t h =
    subst (λ bs. Contains bs d) (sym (lowered_made (header_of to).count a (cut c p (record m { op = op.Change (Lowering Closed) p a b e; made = without_made m a })))) (spared a d m.made t h)
committed_made wide c m _ to d t h = h

exchanged_made : (wide : Bool) (c : ℕ) (m : Memo) (p : Spot) (to d : ℕ) → ((b : ℕ) → p ≡ spot.Head b → touches d (event_of c m.op) ≡ false) → Contains m.made d → Contains (exchanged_on wide c m p to).made d
exchanged_made wide c m (spot.Head b) to d t h = committed_made wide c m m.op to d (t b refl) h
exchanged_made wide c m _ to d t h = h

-- the event of an exchange of a header that succeeds
event_here : (m : Memo) (t : Step) (at from to d b : ℕ) (p : Spot) → p ≡ spot.Head b → (t.seen == from) ≡ true → touches d (event_by m t (Exchange at from to) p) ≡ false → touches d (event_of t.me.who m.op) ≡ false
event_here m t at from to d b p e y h =
    subst (λ (x : Event). touches d x ≡ false) (cond-true (t.seen == from) (event_of t.me.who m.op) event.Nothing y) (subst (λ (q : Spot). touches d (event_by m t (Exchange at from to) q) ≡ false) e h)

changed_made : (m : Memo) (t : Step) (p : Spot) (a : Ask) (d : ℕ) → touches d (event_by m t a p) ≡ false → Contains (called m t).made d → Contains (changed_by m t p a).made d
changed_made m t p (Load at) d q h = subst (λ bs. Contains bs d) (sym (read_made t.me.geometry t.me.who true (called m t) (test_before m t) p t.seen)) h
changed_made m t p (Store at v) d q h = subst (λ bs. Contains bs d) (sym (stored_made t.me.geometry t.me.who (called m t) p v)) h
changed_made m t p (Exchange at from to) d q h =
    choice (λ (x : Memo). Contains x.made d) (t.seen == from) (exchanged_on t.me.geometry.wide t.me.who (called m t) p to) (read_on t.me.geometry t.me.who false (called m t) (test_before m t) p t.seen)
    (λ y. exchanged_made t.me.geometry.wide t.me.who (called m t) p to d
    (λ b e. subst (λ (o : Op). touches d (event_of t.me.who o) ≡ false) (sym (called_part (λ (x : Memo). x.op) m t refl refl)) (event_here m t at from to d b p e y q))
    h)
    (λ y. subst (λ bs. Contains bs d) (sym (read_made t.me.geometry t.me.who false (called m t) (test_before m t) p t.seen)) h)

-- a block that the call made is so still where the step isn't a machine's first and its event doesn't touch the block
pub made_on : (m : Memo) (me : Me) (a : Ask) (f : Frame) (n : ℕ) (p : Spot) (d : ℕ) → f.fresh ≡ false → touches d (event_on m (framed me a f n) p) ≡ false → Contains m.made d → Contains (memo_on m (framed me a f n) p).made d
made_on m me a f n p d going q h = changed_made m (framed me a f n) p a d q (subst (λ z. Contains (cond z (forgotten m) m).made d) (sym going) h)

-- ---- what a part leaves

-- what the call had made is so still, but for the blocks that these events touch; a machine that may come first may forget all
abbrev pub MadeStays : Bool → Memo → Memo → List Event → Type 0
MadeStays first m r es = first ≡ false → (d : ℕ) → Contains m.made d → list_any (touches d) es ≡ false → Contains r.made d

-- one more event, or none
none_touched : (d : ℕ) (es : List Event) (x : Event) → list_any (touches d) (es ++ filter is_event (x ∷ [])) ≡ false → (list_any (touches d) es ≡ false) × (touches d x ≡ false)
none_touched d es x h =
    let u = or_parts (list_any (touches d) es) (list_any (touches d) (filter is_event (x ∷ []))) (sym (list_any-append (touches d) es (filter is_event (x ∷ []))) ∙ h) in
    (u.0, one x u.1)
  where
    one : (x : Event) → list_any (touches d) (filter is_event (x ∷ [])) ≡ false → touches d x ≡ false
    one event.Nothing e = refl
    one (event.Alloc c k b) e = refl
    one (event.Up c p b) e = (or_parts (b == d) false e).0
    one (event.Down c p b) e = (or_parts (b == d) false e).0
    one (event.ChangeUp c p a b) e = (or_parts ((a == d) || (b == d)) false e).0
    one (event.ChangeDown c a) e = (or_parts (a == d) false e).0
    one (event.Free c b) e = refl

module _ {S A : Type 0} (start : S → S) (first : Bool) (k : Control S A) (p : Part S A) where
  -- a part with what it leaves of the blocks that the call made, by its events; `start` tells the machine as it was made
  abbrev pub making_part : Part S A
  making_part =
      record {
        fits = λ m r0 r tr. p.fits m r0 r tr × (after_all k (start m) tr ≡ m) × MadeStays first r0 r (happens_along k p.does (start m) tr);
        gives = λ m r0 r tr a. p.gives m r0 r tr a × MadeStays first r0 r (happens_along k p.does (start m) tr);
        does = p.does;
        needs = p.needs;
        leaves = λ m rs r t es a. p.leaves m rs r t es a × MadeStays first rs r es;
        asks = p.asks;
      }

  module _ (same : (m : S) (n : ℕ) → start (k.after m n) ≡ start m) (made : (m : S) (r : Memo) → p.needs m r → start m ≡ m) (l : PartLaws first k p) where
    making_keeps : PlacedKeeps first k making_part.fits making_part.gives
    making_keeps m r0 tr w r f going s may fit =
        let me : Me = k.me m in
        let a : Ask = k.asks m in
        let at : Spot = spot_at me.geometry (classes w) (at_of a) in
        let n : ℕ = seen_of a (w at) in
        let x : Memo = memo_on (r me.who) (framed me a f n) at in
        let es : List Event = happens_along k p.does (start m) tr in
        let kept = l.placed.keeps m r0 tr w r f going s may fit.0 in
        let more : happens_along k p.does (start m) (tr ++ pair a n ∷ []) ≡ es ++ filter is_event (p.does m n ∷ []) =
        happens_along-append k p.does (start m) tr (pair a n) ∙ ap (λ (z : S). es ++ filter is_event (p.does z n ∷ [])) fit.1 in
        let course : after_all k (start (k.after m n)) (tr ++ pair a n ∷ []) ≡ k.after m n = ap (λ (z : S). after_all k z (tr ++ pair a n ∷ [])) (same m n) ∙ (after_all-append k (start m) tr (pair a n) ∙ ap (λ (z : S). k.after z n) fit.1) in
        let stays : MadeStays first r0 x (happens_along k p.does (start m) (tr ++ pair a n ∷ [])) = λ e d h t.
        (let u = none_touched d es (p.does m n) (subst (λ (ys : List Event). list_any (touches d) ys ≡ false) more t) in
        made_on (r me.who) me a f n at d (may e) (ap (touches d) (l.tells m r0 tr w r f going s fit.0) ∙ u.1) (fit.2 e d h u.0)) in
        record {
          told = kept.told;
          step = kept.step;
          fits = go (k.turns m n) n x es course stays kept.fits;
        }
      where
        go : (o : Option A) (n : ℕ) (x : Memo) (es : List Event) → after_all k (start (k.after m n)) (tr ++ pair (k.asks m) n ∷ []) ≡ k.after m n → MadeStays first r0 x (happens_along k p.does (start m) (tr ++ pair (k.asks m) n ∷ []))
            → Outcome o (p.fits (k.after m n) r0 x (tr ++ pair (k.asks m) n ∷ [])) (p.gives m r0 x (tr ++ pair (k.asks m) n ∷ []))
            → Outcome o (making_part.fits (k.after m n) r0 x (tr ++ pair (k.asks m) n ∷ [])) (making_part.gives m r0 x (tr ++ pair (k.asks m) n ∷ []))
        go None n x es c y h = (h, c, subst (λ (z : S). MadeStays first r0 x (happens_along k p.does z (tr ++ pair (k.asks m) n ∷ []))) (sym (same m n)) y)
        go (Some a) n x es c y h = (h, y)

    pub making_laws : PartLaws first k making_part
    making_laws =
        record {
          placed = record {
            steady = l.placed.steady;
            inside = λ m r0 r tr who fit. l.placed.inside m r0 r tr who fit.0;
            back = λ m n going goes r0 r tr a g. (l.placed.back m n going goes r0 r tr a g.0, subst (λ (z : S). MadeStays first r0 r (happens_along k p.does z tr)) (same m n) g.1);
            keeps = making_keeps;
          };
          tells = λ m r0 tr w r f going s fit. l.tells m r0 tr w r f going s fit.0;
          begins = λ m r n. (l.begins m r n, made m r n, λ e d h t. h);
          ends = λ m rs r t a n g held same. (l.ends m rs r t a n g.0 held same, subst (λ (z : S). MadeStays first rs r (happens_along k p.does z t)) (made m rs n) g.1);
          asked = λ m rs r t a n g. l.asked m rs r t a n g.0;
        }
