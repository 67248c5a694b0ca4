-- the making of a block: what the stores of its words keep
use Rattle.std.proofs.Common.{◌≡◌, ◌≢◌, ℕ, ◌+◌, ◌^◌, ◌<◌, ◌≤◌, refl, sym, ap, ◌∙◌, subst, arith, Bool, true, false, not, ◌&&◌, List, [], ◌∷◌, Option, Some, inl, inr}
use Rattle.std.proofs.lemmas.Bool.{cases_eq, cond-false, Decides.nat_tests}
use Rattle.std.proofs.lemmas.List.Elements.{All-contains, Contains-append_right}
use Rattle.std.specs.{Prelude.{nat_lt, slice_index, if◌then◌else◌}, List.{Contains, filter}}
use Rattle.shm_words.specs.Tags.{TagFits}
use Rattle.shm_words.proofs.{Classing.class_room, Words.{live_not_zero, place_some, tag_word_below}}
use Rattle.shm_graph.specs.declared.{ask.{Ask.{Ask, TheVariants.Store}, Me.Me}, spot.Spot.Spot, memo.Making.Making}
use Rattle.shm_graph.specs.declared.memo.{Memo.Memo, Op.Op, Stored.Stored}
use Rattle.shm_graph.specs.{Spots.{same_spot, spot_at, class_at, segment_of}, Blocks.{classes, IsBlock}, Views.view}
use Rattle.shm_graph.specs.{Held.{HeldAt, ZeroAt}, Asks.Trail, Changes.{called, with_call, with_end}}
use Rattle.shm_graph.specs.{Ops.{is_op, slot_of}, Reach.{is_dying, learnt, not_at}}
use Rattle.shm_graph.specs.{MemoAfterStore.{class_told, making_with}, Laws.{Frame, framed, Stands, KeptAt}}
use Rattle.shm_graph.specs.declared.spot.Spot.TheVariants as spot
use Rattle.shm_graph.specs.declared.memo.Op.TheVariants as op
use Rattle.shm_graph.proofs.{StepKinds.Loads.choice, Spots.Spotting.{block_within, tag_spot, body_spot, same_spot_not}}
use Rattle.kind_laws.proofs.Lists.{Contains-filter}
use Rattle.kind_parts.proofs.{BlockTold.dying_false, Prepared.{MakingHolds, making_holds, tag_prepares, body_prepares}}
use Rattle.kind_parts.proofs.KeptAfter.{kept_going}
use Rattle.shm_alloc.specs.declared.{request.Request.Request, point.{Goal.Goal, AllocPoint.AllocPoint}}
use Rattle.shm_alloc.specs.declared.point.AllocPoint.TheVariants.{Tag, Reference, Plain, More, Redo}
use Rattle.shm_alloc.specs.Alloc.Control.{class_asked, tag_asked, alloc_next_at, first_point, plain_from, references_from, RequestFits}
use Rattle.shm_alloc.specs.Alloc.{GoalHas, IsPrepared, Prepares, AllocStays, CanAlloc, PointHolds, NextHolds}
use Rattle.shm_alloc.specs.Proved.Alloc.Steps.{PointKeeps, is_here, goal_on, ready_not}

-- ---- a step of the making

-- the memo at a step that isn't a machine's first
abbrev pub at_step : Me → Ask → Frame → ℕ → Memo → Memo
at_step me a f n m = called m (framed me a (record f { fresh = false }) n)

-- and after that step
abbrev pub after_step : Me → Ask → Frame → ℕ → Memo → Memo → Memo
after_step me a f n m m' = with_end f.ends (with_call (at_step me a f n m) m')

-- what stays does so at a step that changes no more than own words, the step in progress, the block that is prepared, and what is known
pub stays_after : (me : Me) (a : Ask) (f : Frame) (n : ℕ) (r0 m : Memo) (own : List Stored) (o : Op) (making : Option Making) (known : List Stored) (values : List ℕ) (zeros : List Spot) (made : List ℕ) → AllocStays r0 m
    → AllocStays r0 (after_step me a f n m (record (at_step me a f n m) { own = own; op = o; making = making; known = known; values = values; zeros = zeros; made = made }))
stays_after me a f n r0 m own o making known values zeros made s =
    record {
      status = s.status;
      latch = s.latch;
      looks = s.looks;
      dying = s.dying;
      sent = s.sent;
      received = s.received;
      unsent = s.unsent;
      untaken = s.untaken;
      part = s.part;
      owned = s.owned;
    }

-- the tag that is asked for has a word
pub asked_fits : (me : Me) (q : Request) (r0 : Memo) → CanAlloc me r0 → RequestFits q → TagFits me.geometry.wide (record { refs = q.refs; plain = q.count; author = me.who; link = 0 })
asked_fits me q r0 can fits = let u = can.who in let n = can.geometry.clients in record { refs = fits.refs; plain = fits.count; author = omega arith; link = place_some me.geometry.wide }

-- ---- how far the making has come

-- of the block that is prepared so many words are stored, and nothing else has changed
pub record StoredSoFar (me : Me) (q : Request) (r0 r : Memo) (g : Goal) (b refs plain : ℕ) : Type 0 where
  pub stays : AllocStays r0 r
  pub op : r.op ≡ op.Nothing
  pub own : r.own ≡ r0.own
  pub known : r.known ≡ r0.known
  pub values : r.values ≡ r0.values
  pub goal : GoalHas me.who r g
  pub block : Prepares me.geometry.wide me.who q b refs plain r

-- what the point after all words needs
first_holds : (me : Me) (q : Request) (r0 r : Memo) (g : Goal) (b : ℕ) → StoredSoFar me q r0 r g b q.refs q.count → PointHolds me q r0 r (first_point me.geometry.wide g b)
first_holds me q r0 r g b m = go me.geometry.wide refl
  where
    go : (x : Bool) → me.geometry.wide ≡ x → PointHolds me q r0 r (if x then More g b else Redo g b)
    go true e = record { stays = m.stays; op = m.op; own = m.own; has = (m.known, m.values, m.goal, m.block, e) }
    go false e = record { stays = m.stays; op = m.op; own = m.own ∙ sym (ready_not me g b r0.own e); has = (m.known, m.values, goal_on me.who r r0 g (sym m.own) m.goal, m.block) }

-- what the point after so many plain words needs
pub plain_next : (me : Me) (q : Request) (r0 r : Memo) (g : Goal) (b i : ℕ) → i ≤ q.count → StoredSoFar me q r0 r g b q.refs i → PointHolds me q r0 r (plain_from me.geometry.wide q g b i)
plain_next me q r0 r g b i l m =
    choice (PointHolds me q r0 r) (nat_lt i q.count) (Plain g b i) (first_point me.geometry.wide g b)
    (λ e. record { stays = m.stays; op = m.op; own = m.own; has = (m.known, m.values, m.goal, m.block) })
    (λ e. let all : i ≡ q.count = grind (arith, nat_tests) in first_holds me q r0 r g b (subst (λ n. StoredSoFar me q r0 r g b q.refs n) all m))

-- what the point after so many reference words needs
pub references_next : (me : Me) (q : Request) (r0 r : Memo) (g : Goal) (b i : ℕ) → i ≤ q.refs → StoredSoFar me q r0 r g b i 0 → PointHolds me q r0 r (references_from me.geometry.wide q g b i)
references_next me q r0 r g b i l m =
    choice (PointHolds me q r0 r) (nat_lt i q.refs) (Reference g b i) (plain_from me.geometry.wide q g b 0)
    (λ e. record { stays = m.stays; op = m.op; own = m.own; has = (m.known, m.values, m.goal, m.block) })
    (λ e. let all : i ≡ q.refs = grind (arith, nat_tests) in plain_next me q r0 r g b 0 (omega arith) (subst (λ n. StoredSoFar me q r0 r g b n 0) all m))

-- ---- the words that are stored

-- a word that is stored is among them
pub learnt_here : (p : Spot) (x : ℕ) (ks : List Stored) → Contains (learnt p x ks) (record { spot = p; value = x })
learnt_here p x ks = (0, omega arith, refl)

-- a word at another spot stays among them
pub learnt_other : (p : Spot) (x : ℕ) (ks : List Stored) (s : Stored) → p ≢ s.spot → Contains ks s → Contains (learnt p x ks) s
learnt_other p x ks s n h =
    Contains-append_right (record { spot = p; value = x } ∷ []) (filter (not_at p) ks) s (Contains-filter (not_at p) ks s h (ap not (same_spot_not p s.spot n)))

-- a word of the block is stored
abbrev pub with_word : Making → Spot → ℕ → Making
with_word k p x = record k { words = learnt p x k.words }

-- one more reference word is stored
pub reference_more : (wide : Bool) (c : ℕ) (q : Request) (b i : ℕ) (k : Making) → IsPrepared wide c q b i 0 k → IsPrepared wide c q b (i + 1) 0 (with_word k (spot.Body b i) 0)
reference_more wide c q b i k h =
    record {
      block = h.block;
      class = h.class;
      tag = learnt_other (spot.Body b i) 0 k.words _ (λ z. cc) h.tag;
      zeros = λ j l. elim (cases_eq i j) [
        | inl e ↦ subst (λ n. Contains (learnt (spot.Body b i) 0 k.words) (record { spot = spot.Body b n; value = 0 })) e (learnt_here (spot.Body b i) 0 k.words)
        | inr n ↦ learnt_other (spot.Body b i) 0 k.words _ (λ z. n (cc)) (h.zeros j (omega arith))
      ];
      words = λ j l. absurd (omega arith);
    }

-- one more plain word is stored
pub plain_more : (wide : Bool) (c : ℕ) (q : Request) (b i : ℕ) (k : Making) → IsPrepared wide c q b q.refs i k → IsPrepared wide c q b q.refs (i + 1) (with_word k (spot.Body b (q.refs + i)) (slice_index q.plain i))
plain_more wide c q b i k h =
    let p : Spot = spot.Body b (q.refs + i) in
    let x : ℕ = slice_index q.plain i in
    record {
      block = h.block;
      class = h.class;
      tag = learnt_other p x k.words _ (λ z. cc) h.tag;
      zeros = λ j l. learnt_other p x k.words _ (λ z. let u : q.refs + i ≡ j = cc in absurd (omega arith)) (h.zeros j l);
      words = λ j l. elim (cases_eq i j) [
        | inl e ↦ subst (λ n. Contains (learnt p x k.words) (record { spot = spot.Body b (q.refs + n); value = slice_index q.plain n })) e (learnt_here p x k.words)
        | inr n ↦ learnt_other p x k.words _ (λ z. let u : q.refs + i ≡ q.refs + j = cc in n (omega arith)) (h.words j (omega arith))
      ];
    }

-- ---- the tag

-- the tag is stored
pub tag_step : (me : Me) (q : Request) (r0 : Memo) (w : Spot → ℕ) (r : ℕ → Memo) (f : Frame) (tr : Trail) (g : Goal) (b : ℕ) → PointKeeps me q r0 w r f tr (Tag g b)
tag_step me q r0 w r f tr g b st going can fits point h =
    let c = me.who in
    let m : Memo = r c in
    let x : ℕ = tag_asked me.geometry.wide q c in
    let a : Ask = Store (b + 1) x in
    let p : Spot = spot.Tag b in
    let zero : (w (spot.Head b) ≡ 0) × IsBlock me.geometry (classes w) b × (w (spot.Segment (segment_of me.geometry b)) ≡ c + 1) = All-contains (ZeroAt me.geometry (classes w) (λ i. w (spot.Segment i)) (λ i. w (spot.Head i)) c) m.zeros (spot.Head b) (st.held.zeros c st.who) h.has.2 in
    let e : spot_at me.geometry (classes w) (b + 1) ≡ p = tag_spot me.geometry (classes w) b zero.1 (st.held.sizes.classes _ _ (block_within me.geometry (classes w) b zero.1).2) in
    let some : class_told me.geometry m.facts b ≢ 0 = (λ z. let u : class_asked q ≡ 0 = sym h.has.3 ∙ z in let l = class_room q.refs q.count fits.refs fits.count in absurd (omega arith)) in
    let free : is_dying m b ≡ false = dying_false m b (λ z. live_not_zero (w (spot.Head b)) ((st.held.dying c st.who).listed b z).0 zero.0) in
    let small : x < 2 ^ 64 = tag_word_below me.geometry.wide _ (asked_fits me q r0 can fits) in
    let k : Making = record { block = b; class = class_told me.geometry m.facts b; words = record { spot = p; value = x } ∷ [] } in
    let n : Memo = record (at_step me a f 0 m) { making = making_with me.geometry m.facts m.making b p x } in
    let n' : Memo = after_step me a f 0 m n in
    kept_going me w r a f (λ n r'. NextHolds me q r0 r' (alloc_next_at me q (Tag g b) n)) p going e
    (tag_prepares me w r f tr (b + 1) b x st going e
    (inr (record { here = is_here me r0 m can h.stays; idle = h.op; begin = record { none = h.has.0.making; read = h.has.2; told = some }; small = small })))
    (subst (λ (z : Memo). PointHolds me q r0 (after_step me a f 0 m z) (references_from me.geometry.wide q g b 0)) (sym (cond-false _ _ n free))
    (references_next me q r0 n' g b 0 (omega arith)
    (record {
      stays = stays_after me a f 0 r0 m m.own m.op (making_with me.geometry m.facts m.making b p x) m.known m.values m.zeros m.made h.stays;
      op = h.op;
      own = h.own;
      known = h.has.0.known;
      values = h.has.0.values;
      goal = goal_on c m n' g refl h.has.1;
      block = (
        k,
        ap (λ z. making_with me.geometry m.facts z b p x) h.has.0.making,
        record {
          block = refl;
          class = h.has.3;
          tag = (0, omega arith, refl);
          zeros = λ j l. absurd (omega arith);
          words = λ j l. absurd (omega arith);
        },
      );
    })))

-- ---- the words after the tag

-- word i of the block that is prepared stands at its address
pub word_spot : (me : Me) (q : Request) (w : Spot → ℕ) (r : ℕ → Memo) (b i refs plain : ℕ) (k : Making) → HeldAt me.geometry w (view r) → me.who < me.geometry.clients → (r me.who).making ≡ Some k → IsPrepared me.geometry.wide me.who q b refs plain k → 2 + i < class_asked q
    → spot_at me.geometry (classes w) (b + 2 + i) ≡ spot.Body b i
word_spot me q w r b i refs plain k held who made h room =
    let s : MakingHolds w me.geometry me.who k = making_holds me.geometry w r me.who k held who made in
    let block : IsBlock me.geometry (classes w) b = subst (IsBlock me.geometry (classes w)) h.block s.block in
    let sized : class_at me.geometry (classes w) b ≡ class_asked q = ap (class_at me.geometry (classes w)) (sym h.block) ∙ (s.sized ∙ h.class) in
    body_spot me.geometry (classes w) b i block (held.sizes.classes _ _ (block_within me.geometry (classes w) b block).2) (subst (λ z. 2 + i < z) (sym sized) room)

-- word i of the block is stored, and what comes next needs the making with it
pub word_step : (me : Me) (q : Request) (r0 : Memo) (w : Spot → ℕ) (r : ℕ → Memo) (f : Frame) (tr : Trail) (g : Goal) (b i x refs plain refs' plain' : ℕ) (next : AllocPoint) → Stands me w r f tr → f.fresh ≡ false → CanAlloc me r0 → StoredSoFar me q r0 (r me.who) g b refs plain → 2 + i < class_asked q → x < 2 ^ 64
    → ((k : Making) → IsPrepared me.geometry.wide me.who q b refs plain k → IsPrepared me.geometry.wide me.who q b refs' plain' (with_word k (spot.Body b i) x))
    → ((r' : Memo) → StoredSoFar me q r0 r' g b refs' plain' → PointHolds me q r0 r' next)
    → KeptAt me w r (Store (b + 2 + i) x) f (λ n r'. PointHolds me q r0 r' next) (spot_at me.geometry (classes w) (b + 2 + i))
word_step me q r0 w r f tr g b i x refs plain refs' plain' next st going can h room small more holds =
    let c = me.who in
    let m : Memo = r c in
    let a : Ask = Store (b + 2 + i) x in
    let p : Spot = spot.Body b i in
    let k : Making = h.block.0 in
    let e : spot_at me.geometry (classes w) (b + 2 + i) ≡ p = word_spot me q w r b i refs plain k st.held st.who h.block.1 h.block.2 room in
    let n : Memo = record (at_step me a f 0 m) { making = making_with me.geometry m.facts m.making b p x } in
    let n' : Memo = after_step me a f 0 m n in
    kept_going me w r a f (λ n r'. PointHolds me q r0 r' next) p going e
    (body_prepares me w r f tr (b + 2 + i) b i x st going e
    (k, record { here = is_here me r0 m can h.stays; idle = h.op; making = h.block.1; of = h.block.2.block; small = small }, (let u : k.class ≡ class_asked q = h.block.2.class in omega arith)))
    (subst (λ (z : Memo). PointHolds me q r0 (after_step me a f 0 m z) next) (sym (cond-false _ _ n (ap (λ o. is_op o && same_spot (slot_of o) p) h.op)))
    (holds n'
    (record {
      stays = stays_after me a f 0 r0 m m.own m.op (making_with me.geometry m.facts m.making b p x) m.known m.values m.zeros m.made h.stays;
      op = h.op;
      own = h.own;
      known = h.known;
      values = h.values;
      goal = goal_on c m n' g refl h.goal;
      block = (with_word k p x, ap (λ z. making_with me.geometry m.facts z b p x) h.block.1, more k h.block.2);
    })))

-- a reference word is stored
pub reference_step : (me : Me) (q : Request) (r0 : Memo) (w : Spot → ℕ) (r : ℕ → Memo) (f : Frame) (tr : Trail) (g : Goal) (b i : ℕ) → PointKeeps me q r0 w r f tr (Reference g b i)
reference_step me q r0 w r f tr g b i st going can fits point h =
    let room = class_room q.refs q.count fits.refs fits.count in
    let less : i < q.refs = point.2 in
    word_step me q r0 w r f tr g b i 0 i 0 (i + 1) 0 (references_from me.geometry.wide q g b (i + 1)) st going can
    (record { stays = h.stays; op = h.op; own = h.own; known = h.has.0; values = h.has.1; goal = h.has.2; block = h.has.3 })
    (omega arith) (omega arith)
    (reference_more me.geometry.wide me.who q b i)
    (λ r' y. references_next me q r0 r' g b (i + 1) (omega arith) y)

-- a plain word is stored
pub plain_step : (me : Me) (q : Request) (r0 : Memo) (w : Spot → ℕ) (r : ℕ → Memo) (f : Frame) (tr : Trail) (g : Goal) (b i : ℕ) → PointKeeps me q r0 w r f tr (Plain g b i)
plain_step me q r0 w r f tr g b i st going can fits point h =
    let room = class_room q.refs q.count fits.refs fits.count in
    let less : i < q.count = point.2 in
    let x : ℕ = slice_index q.plain i in
    let sum : b + 2 + (q.refs + i) ≡ b + 2 + q.refs + i = omega arith in
    subst (λ at. KeptAt me w r (Store at x) f (λ n r'. PointHolds me q r0 r' (plain_from me.geometry.wide q g b (i + 1))) (spot_at me.geometry (classes w) at)) sum
    (word_step me q r0 w r f tr g b (q.refs + i) x q.refs i q.refs (i + 1) (plain_from me.geometry.wide q g b (i + 1)) st going can
    (record { stays = h.stays; op = h.op; own = h.own; known = h.has.0; values = h.has.1; goal = h.has.2; block = h.has.3 })
    (omega arith) (fits.small i)
    (plain_more me.geometry.wide me.who q b i)
    (λ r' y. plain_next me q r0 r' g b (i + 1) (omega arith) y))
