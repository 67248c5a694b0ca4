-- the tag or a word of a block is read: what its reader's memo has then holds
use Rattle.std.proofs.Common.{◌≡◌, ◌≢◌, ℕ, ◌+◌, ◌<◌, refl, sym, ap, ◌∙◌, subst, arith, true, cond, eqb, leb, ltb, ◌&&◌, ◌||◌, inl, inr, ◌⊎◌, [], ◌∷◌, ◌++◌, Option, Some, None, Bool}
use Rattle.std.proofs.lemmas.Bool.{cases_eq, and_parts, eqb-true, eq-eqb, leb-true, leb-false, or_cases, or_parts, lt-ltb, cond-true, false≢true, true≢false}
use Rattle.std.proofs.lemmas.List.Elements.{Contains-append_left, Contains-push}
use Rattle.std.specs.List.{All, Contains}
use Rattle.shm_words.specs.{declared.geometry.Geometry.Geometry, Tags.{tag_author, tag_refs}}
use Rattle.shm_graph.specs.declared.{spot.Spot.{Spot, TheVariants.{Tag, Body}}, memo.{Look.Look, Op.Op, Memo.Memo}}
use Rattle.shm_graph.specs.{declared.memo.Step.Step, Spots.spot_at, Blocks.classes, References.{words_of, refs_of}}
use Rattle.shm_graph.specs.{Ops.{cover, cover_of, covered, slot_of}, Views.{View, view, at1, targets}, Held.HeldAt}
use Rattle.shm_graph.specs.{Changes.called, Reach.{learnt, is_dying}, Telling.{Claim, claim_of, role_in, roles}}
use Rattle.shm_graph.specs.MemoAfterRead.{tag_read, word_read, reference_read, values_read, valued, is_entry, is_latched}
use Rattle.shm_graph.proofs.{Runs.Lists.at1_here, Spots.Spotting.same_spot_not}
use Rattle.shm_graph.proofs.States.Counting.{cover_slot, covered_none}
use Rattle.shm_graph.proofs.States.{Holders.{InReach, reach_counted, step_holds, one_latch}, Claims.entry_value}
use Rattle.shm_graph.proofs.Memos.KnownChange.{KnownHolds, ValueHolds, known_held, memo_known, learnt_all, valued_all}
use Rattle.shm_graph.proofs.Memos.{Looking.look_held, MemoParts.{put_memo, put_same, view_here}}
use Rattle.shm_graph.proofs.Memos.LoadTold.{claim_here, claim_tag, claim_word}
use Rattle.shm_graph.proofs.{Machines.Calling.{after_call, called_by, called_part}, StepKinds.Loads.choice}
use Rattle.kind_parts.specs.LoadNeeds.{IsSettled, MayLookBy, MayLook}
use Rattle.kind_parts.proofs.BlockTold.{dying_listed, dying_true}

-- ---- the word that a look is read from

-- whose latch is held
latched_by : (author held : Option ℕ) → is_latched author held ≡ true → (a : ℕ) × (author ≡ Some a) × (held ≡ Some a)
latched_by None held e = absurd (false≢true e)
latched_by (Some a) None e = absurd (false≢true e)
latched_by (Some a) (Some d) e = (a, refl, ap Some (sym (eqb-true a d e)))

-- a reference word of a block in reach, under its author's latch and with no own step about to store it, is its target
look_target : (g : Geometry) (w : Spot → ℕ) (v : View) (c b i : ℕ) → HeldAt g w v → c < g.clients → InReach w g v c b → i < tag_refs g.wide (w (Tag b)) → v.latch c ≡ Some (tag_author g.wide (w (Tag b)))
    → ((x : ℕ) → cover (cover_of (v.op c)) (Body b i) x ≡ x) → targets g w v (Body b i) ≡ w (Body b i)
look_target g w v c b i h l reach low latch settled =
    let counted = reach_counted g w v h c b l reach in
    let e : (words_of g.wide w).refs b ≡ tag_refs g.wide (w (Tag b)) = ap (λ z. refs_of g.wide z (w (Tag b))) counted.0 in
    cond-true (ltb i ((words_of g.wide w).refs b)) (covered (λ d. cover_of (v.op d)) g.clients (Body b i) (w (Body b i))) 0 (lt-ltb i ((words_of g.wide w).refs b) (subst (λ k. i < k) (sym e) low))
    ∙ covered_none g.clients (Body b i) (w (Body b i)) (λ d. cover_of (v.op d))
    (λ d m y. elim (cases_eq c d) [
      | inl s ↦ subst (λ j. cover (cover_of (v.op j)) (Body b i) y ≡ y) s (settled y)
      | inr n ↦ cover_slot (v.op d) (Body b i)
          (same_spot_not (slot_of (v.op d)) (Body b i)
          (λ s. elim (step_holds g w v h d (Body b i) m (λ z. cc) s).2 [
            | inl u ↦ counted.1 u.0
            | inr u ↦ n (one_latch g w v h c d (tag_author g.wide (w (Tag b))) l m latch (u.1 ∙ ap Some (sym u.0)))
          ])) y
    ])

-- ---- tags

-- the pool holds with the memo that read a tag of which something is told
tag_step : (g : Geometry) (w : Spot → ℕ) (r : ℕ → Memo) (c at b : ℕ) (k : Claim) → HeldAt g w (view r) → c < g.clients → spot_at g (classes w) at ≡ Tag b → claim_of g.wide c (r c) at ≡ Some k
    → HeldAt g w (view (at1 r c (tag_read (r c) b (w (Tag b)))))
tag_step g w r c at b k h l e told =
    let s = claim_here g w r h c l at k told in
    let same : k.block ≡ b = claim_tag g w (view r) h c k at b s.0 s.1 e in
    memo_known g w r c (learnt (Tag b) (w (Tag b)) (r c).known) (r c).values h
    (learnt_all (KnownHolds g w (view r) c) (Tag b) (w (Tag b)) (r c).known (refl, subst (λ j. Contains (r c).dying j ⊎ InReach w g (view r) c j) same s.0.holds) (h.known c l))
    (h.values c l)

-- what is told is told at a step
pub told_called : (wide : Bool) (c at : ℕ) (m : Memo) (t : Step) (o : Option Claim) → claim_of wide c m at ≡ o → claim_of wide c (called m t) at ≡ o
told_called wide c at m t o e = called_by (λ x. claim_of wide c x at ≡ o) m t e e

-- and so at a step
pub tag_held : (g : Geometry) (w : Spot → ℕ) (r : ℕ → Memo) (c at b : ℕ) (k : Claim) (t : Step) → HeldAt g w (view r) → c < g.clients → spot_at g (classes w) at ≡ Tag b → claim_of g.wide c (r c) at ≡ Some k
    → HeldAt g w (view (at1 r c (tag_read (called (r c) t) b (w (Tag b)))))
tag_held g w r c at b k t h l e told =
    after_call g w r c t (λ m. tag_read m b (w (Tag b))) h l
    (λ q same here. tag_step g w q c at b k here l e (ap (λ (m : Memo). claim_of g.wide c m at) same ∙ told_called g.wide c at (r c) t (Some k) told))

-- ---- words

module _ (g : Geometry) (w : Spot → ℕ) (r : ℕ → Memo) (c b i : ℕ) (h : HeldAt g w (view r)) (l : c < g.clients) (reach : InReach w g (view r) c b) (low : i < tag_refs g.wide (w (Tag b))) (latch : (r c).latch ≡ Some (tag_author g.wide (w (Tag b)))) where
  -- the word is known
  reference_known : HeldAt g w (view (at1 r c (record (r c) { known = learnt (Body b i) (w (Body b i)) (r c).known })))
  reference_known =
      memo_known g w r c (learnt (Body b i) (w (Body b i)) (r c).known) (r c).values h
      (learnt_all (KnownHolds g w (view r) c) (Body b i) (w (Body b i)) (r c).known (refl, inr (reach, inr (inr latch))) (h.known c l))
      (h.values c l)

  -- the look
  abbrev new : Look
  new = record { block = w (Body b i); from = Body b i }

  -- the view with one more look
  abbrev looked_view : View
  looked_view = record (view r) { looks = at1 (view r).looks c ((r c).looks ++ new ∷ []) }

  module _ (some : w (Body b i) ≢ 0) (settled : IsSettled (r c) (Body b i)) where
    -- the word names the block that was read
    target : targets g w (view r) (Body b i) ≡ w (Body b i)
    target = look_target g w (view r) c b i h l reach low latch settled

    -- with that look the pool holds
    looked_held : HeldAt g w looked_view
    looked_held = look_held g w (view r) c (tag_author g.wide (w (Tag b))) new h l latch (some, latch, target, reach)

    -- the block that was read is in reach, and the block of the word is
    new_reach : InReach w g looked_view c (w (Body b i))
    new_reach = inr (new, subst (λ ks. Contains ks new) (sym (at1_here (view r).looks c ((r c).looks ++ new ∷ []))) (Contains-push (r c).looks new), refl)

    still_reach : InReach w g looked_view c b
    still_reach = elim reach [
      | inl x ↦ inl x
      | inr x ↦ inr (x.0, subst (λ ks. Contains ks x.0) (sym (at1_here (view r).looks c ((r c).looks ++ new ∷ []))) (Contains-append_left (r c).looks (new ∷ []) x.0 x.1), x.2)
    ]

    -- where the word is the second one of an entry its block is a value block
    values_held : All (ValueHolds g w looked_view c) (values_read (r c) b i (w (Body b i)))
    values_held =
        choice (All (ValueHolds g w looked_view c)) (is_entry (role_in (roles (r c)) b) && eqb i 1) (valued (r c).part (w (Body b i)) (r c).values) (r c).values
        (λ e. let q = and_parts (is_entry (role_in (roles (r c)) b)) (eqb i 1) e in
        valued_all (ValueHolds g w looked_view c) (r c).part (w (Body b i)) (r c).values
        (λ _. (entry_value g w r h c l (tag_author g.wide (w (Tag b))) b (w (Body b i)) latch q.0 (ap (λ j. targets g w (view r) (Body b j)) (sym (eqb-true i 1 q.1)) ∙ target) some, new_reach))
        (looked_held.values c l))
        (λ _. looked_held.values c l)

    -- the pool holds with the memo that read a reference word that isn't 0
    reference_looked : HeldAt g w (view (at1 r c (record (r c) { looks = (r c).looks ++ new ∷ []; known = learnt (Body b i) (w (Body b i)) (r c).known; values = values_read (r c) b i (w (Body b i)) })))
    reference_looked =
        let v : View = view r in
        let n : Memo = record (r c) { looks = (r c).looks ++ new ∷ []; known = learnt (Body b i) (w (Body b i)) (r c).known; values = values_read (r c) b i (w (Body b i)) } in
        subst (HeldAt g w) (sym (put_memo r c n ∙ ap (λ (u : View). record u { looks = at1 v.looks c n.looks; known = at1 v.known c n.known; values = at1 v.values c n.values }) (put_same v c)))
        (known_held g w looked_view c n.known n.values looked_held
        (learnt_all (KnownHolds g w looked_view c) (Body b i) (w (Body b i)) (r c).known (refl, inr (still_reach, inr (inr latch))) (looked_held.known c l))
        values_held)

  -- and with the memo that read any
  reference_step : IsSettled (r c) (Body b i) → HeldAt g w (view (at1 r c (reference_read (r c) b i (w (Body b i)))))
  reference_step settled =
      choice (λ (m : Memo). HeldAt g w (view (at1 r c m))) (eqb (w (Body b i)) 0)
      (record (r c) { known = learnt (Body b i) (w (Body b i)) (r c).known })
      (record (r c) { looks = (r c).looks ++ new ∷ []; known = learnt (Body b i) (w (Body b i)) (r c).known; values = values_read (r c) b i (w (Body b i)) })
      (λ _. reference_known)
      (λ e. reference_looked (λ z. true≢false (sym (eq-eqb (w (Body b i)) 0 z) ∙ e)) settled)

-- the pool holds with the memo that read a word of a block
word_step : (g : Geometry) (w : Spot → ℕ) (r : ℕ → Memo) (c b i : ℕ) → HeldAt g w (view r) → c < g.clients → spot_at g (classes w) (b + 2 + i) ≡ Body b i → MayLook g.wide c (r c) b i
    → HeldAt g w (view (at1 r c (word_read (r c) (claim_of g.wide c (r c) (b + 2 + i)) b i (w (Body b i)))))
word_step g w r c b i h l e may = by (claim_of g.wide c (r c) (b + 2 + i)) refl may
  where
    m : Memo
    m = r c

    -- the pool with this memo
    Held : Memo → Type 0
    Held n = HeldAt g w (view (at1 r c n))

    -- nothing changes
    same : Held (r c)
    same = subst (HeldAt g w) (view_here r c) h

    -- the word is known
    Known : KnownHolds g w (view r) c (record { spot = Body b i; value = w (Body b i) }) → Held (record (r c) { known = learnt (Body b i) (w (Body b i)) (r c).known })
    Known new = memo_known g w r c (learnt (Body b i) (w (Body b i)) (r c).known) (r c).values h (learnt_all (KnownHolds g w (view r) c) (Body b i) (w (Body b i)) (r c).known new (h.known c l)) (h.values c l)

    -- by the claim that tells it
    some : (k : Claim) → claim_of g.wide c (r c) (b + 2 + i) ≡ Some k → MayLookBy (Some k) (r c).latch (IsSettled (r c) (Body b i)) → Held (word_read (r c) (Some k) b i (w (Body b i)))
    some k told may =
        let s = claim_here g w r h c l (b + 2 + i) k told in
        let x = claim_word g w (view r) h c k (b + 2 + i) b i s.0 s.1 e in
        let near : Contains (r c).dying b ⊎ InReach w g (view r) c b = subst (λ j. Contains (r c).dying j ⊎ InReach w g (view r) c j) x.0 s.0.holds in
        let words = s.0.shape (λ z. let n = x.1 in omega arith) in
        let refs : tag_refs g.wide (w (Tag b)) ≡ k.refs = ap (λ j. tag_refs g.wide (w (Tag j))) (sym x.0) ∙ words.0 in
        choice Held (is_dying (r c) b || leb k.refs i) (record (r c) { known = learnt (Body b i) (w (Body b i)) (r c).known })
        (cond (is_latched k.author (r c).latch) (reference_read (r c) b i (w (Body b i))) (r c))
        (λ y. Known (
          refl,
          elim near [
            | inl u ↦ inl u
            | inr u ↦ elim (or_cases (is_dying (r c) b) (leb k.refs i) y) [
              | inl d ↦ inl (dying_listed (r c) b d)
              | inr z ↦ inr (u, inl (let q = leb-true k.refs i z in omega arith))
            ]
          ],
        ))
        (λ n. choice Held (is_latched k.author (r c).latch) (reference_read (r c) b i (w (Body b i))) (r c)
        (λ z. let a = latched_by k.author (r c).latch z in
        let low : i < tag_refs g.wide (w (Tag b)) = (let q = leb-false k.refs i (or_parts (is_dying (r c) b) (leb k.refs i) n).1 in omega arith) in
        let latch : (r c).latch ≡ Some (tag_author g.wide (w (Tag b))) = a.2 ∙ ap Some (sym (s.0.author a.0 a.1) ∙ ap (λ j. tag_author g.wide (w (Tag j))) x.0) in
        elim near [
          | inl u ↦ absurd (true≢false (sym (dying_true (r c) b u) ∙ (or_parts (is_dying (r c) b) (leb k.refs i) n).0))
          | inr u ↦ reference_step g w r c b i h l u low latch (may z)
        ])
        (λ _. same))

    by : (o : Option Claim) → claim_of g.wide c (r c) (b + 2 + i) ≡ o → MayLookBy o (r c).latch (IsSettled (r c) (Body b i)) → Held (word_read (r c) o b i (w (Body b i)))
    by None told may = same
    by (Some k) told may = some k told may

-- and so at a step
pub word_held : (g : Geometry) (w : Spot → ℕ) (r : ℕ → Memo) (c b i : ℕ) (t : Step) → HeldAt g w (view r) → c < g.clients → spot_at g (classes w) (b + 2 + i) ≡ Body b i → MayLook g.wide c (r c) b i
    → HeldAt g w (view (at1 r c (word_read (called (r c) t) (claim_of g.wide c (called (r c) t) (b + 2 + i)) b i (w (Body b i)))))
word_held g w r c b i t h l e may =
    after_call g w r c t (λ m. word_read m (claim_of g.wide c m (b + 2 + i)) b i (w (Body b i))) h l
    (λ q same here. word_step g w q c b i here l e (subst (λ m. MayLook g.wide c m b i) (sym same) (called_by (λ x. MayLook g.wide c x b i) (r c) t may may)))

-- the step in progress stays
pub word_op : {T : Type 0} (f : Op → T) (m : Memo) (t : Step) (o : Option Claim) (b i seen : ℕ) → f (word_read (called m t) o b i seen).op ≡ f m.op
word_op f m t None b i seen = called_part (λ x. f x.op) m t refl refl
word_op f m t (Some k) b i seen =
    let n : Memo = called m t in
    let P : Memo → Type 0 = λ x. f x.op ≡ f m.op in
    let e : f n.op ≡ f m.op = called_part (λ x. f x.op) m t refl refl in
    choice P (is_dying n b || leb k.refs i) (record n { known = learnt (Body b i) seen n.known }) (cond (is_latched k.author n.latch) (reference_read n b i seen) n)
    (λ _. e)
    (λ _. choice P (is_latched k.author n.latch) (reference_read n b i seen) n
    (λ _. choice P (eqb seen 0) (record n { known = learnt (Body b i) seen n.known }) (record n { looks = n.looks ++ record { block = seen; from = Body b i } ∷ []; known = learnt (Body b i) seen n.known; values = values_read n b i seen }) (λ _. e) (λ _. e))
    (λ _. e))
