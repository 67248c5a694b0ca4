-- stacks of blocks that are being torn down: the walks they leave to be done, the zero-count blocks outside them, that no block is in one twice, and what stays known of them
use Rattle.std.proofs.Common.{◌≡◌, ◌≢◌, ℕ, ◌+◌, ◌≤◌, refl, sym, ap, ◌∙◌, subst, arith, append_assoc, Bool, true, false, not, cond, eqb, ◌&&◌, ◌||◌, List, [], ◌∷◌, ◌++◌}
use Rattle.std.proofs.lemmas.Bool.{eq-eqb, ne_eqb, eqb-true, eqb-false, not-true, or_parts, or_from, true≢false}
use Rattle.std.proofs.lemmas.List.{append-nil}
use Rattle.std.proofs.lemmas.List.Elements.{All-nil, All-cons, All-contains, Contains-append_left, Contains-append_right, filter-append, filter_agree}
use Rattle.std.specs.List.{All, Contains, filter, list_any}
use Rattle.shm_words.specs.{declared.tag.Tag.Tag as ATag, Tags.tag_word}
use Rattle.shm_graph.specs.declared.{ask.Me.Me, spot.Spot.{Spot, TheVariants.{Tag, Body}}, memo.Stored.Stored}
use Rattle.shm_graph.specs.{declared.memo.Memo.Memo, Spots.same_spot, Reach.{learnt, not_at}, Events.Event}
use Rattle.shm_graph.specs.MemoAfterStore.{is_of, not_of, not_block}
use Rattle.shm_graph.specs.Events as event
use Rattle.shm_graph.proofs.Spots.Spotting.{same_spot_not}
use Rattle.kind_laws.proofs.Lists.{newest, Contains-filter}
use Rattle.shm_count.specs.Tear.Events.{Walk, Freed, Kept, Fell, InOrder, events_of, Visit, Walks, freed_by, frees}
use Rattle.shm_count.specs.Tear.{IsVisited, Linked, is_visit_of, is_outside, IsApart, Memos.{Knows, IsTagged, Lowered}}

-- ---- walks

-- what comes in order from a later word on comes in order from an earlier one on
in_order_later : (k k' : ℕ) → k ≤ k' → (x : Walk) → InOrder k' x → InOrder k x
in_order_later k k' l Freed o = tt
in_order_later k k' l (Kept i t rest) o = (let u = o.0 in omega arith, o.1)
in_order_later k k' l (Fell i t inner rest) o = (let u = o.0 in omega arith, o.1, o.2)

-- at the beginning a walk over the first block is left to be done
pub walks_begin : (c first : ℕ) → Walks c first [] (record { block = first; cleared = 0 } ∷ [])
walks_begin c first = λ x o. (x, o, refl)

-- more words are done with, since they are 0
pub walks_later : (c first : ℕ) (es : List Event) (b k k' : ℕ) (vs : List Visit) → k ≤ k' → Walks c first es (record { block = b; cleared = k } ∷ vs) → Walks c first es (record { block = b; cleared = k' } ∷ vs)
walks_later c first es b k k' vs l h = λ x o. h x (in_order_later k k' l x o)

-- one event more, and then those of a walk
then_events : (c first : ℕ) (es : List Event) (e : Event) (xs : List Event) (vs : List Visit) → Walks c first (es ++ e ∷ xs) vs → Walks c first ((es ++ e ∷ []) ++ xs) vs
then_events c first es e xs vs h = subst (λ (ys : List Event). Walks c first ys vs) (sym (append_assoc es (e ∷ []) xs)) h

-- a reference went to a block that keeps others
pub walks_kept : (c first : ℕ) (es : List Event) (b i t : ℕ) (vs : List Visit) → Walks c first es (record { block = b; cleared = i } ∷ vs) → Walks c first (es ++ event.Down c (Body b i) t ∷ []) (record { block = b; cleared = i + 1 } ∷ vs)
walks_kept c first es b i t vs h = λ x o. then_events c first es (event.Down c (Body b i) t) (events_of c b x) vs (h (Kept i t x) (omega arith, o))

-- a reference went to a block whose count came to 0, so that it is torn down first
pub walks_fell : (c first : ℕ) (es : List Event) (b i t : ℕ) (vs : List Visit) → Walks c first es (record { block = b; cleared = i } ∷ vs) → Walks c first (es ++ event.Down c (Body b i) t ∷ []) (record { block = t; cleared = 0 } ∷ record { block = b; cleared = i + 1 } ∷ vs)
walks_fell c first es b i t vs h =
    let e : Event = event.Down c (Body b i) t in
    λ x o y q.
    subst (λ (ys : List Event). Walks c first ys vs) (sym (append_assoc (es ++ e ∷ []) (events_of c t x) (events_of c b y)))
    (then_events c first es e (events_of c t x ++ events_of c b y) vs (h (Fell i t x y) (omega arith, o, q)))

-- a block was freed
pub walks_freed : (c first : ℕ) (es : List Event) (b k : ℕ) (vs : List Visit) → Walks c first es (record { block = b; cleared = k } ∷ vs) → Walks c first (es ++ event.Free c b ∷ []) vs
walks_freed c first es b k vs h = h Freed tt

-- an event more counts where it frees a block
frees_push : (es : List Event) (e : Event) → frees (es ++ e ∷ []) ≡ frees es + freed_by e
frees_push [] e = omega arith
frees_push (x ∷ es) e = let h = frees_push es e in omega arith

-- the loss of a reference frees no block
pub frees_more : (es : List Event) (c : ℕ) (p : Spot) (t : ℕ) → frees (es ++ event.Down c p t ∷ []) ≡ frees es
frees_more es c p t = let h = frees_push es (event.Down c p t) in omega arith

-- a block that is freed is one more
pub frees_free : (es : List Event) (c b : ℕ) → frees (es ++ event.Free c b ∷ []) ≡ frees es + 1
frees_free es c b = frees_push es (event.Free c b)

-- ---- zero-count blocks outside a stack

-- what is outside a stack of one block is another block
outside_one : (b k d : ℕ) → is_outside (record { block = b; cleared = k } ∷ []) d ≡ not_block b d
outside_one b k d = go (eqb b d)
  where
    go : (z : Bool) → not (z || false) ≡ not z
    go true = refl
    go false = refl

-- a filter of what another one leaves is one filter by both
filter_both : (p q s : ℕ → Bool) → ((x : ℕ) → s x ≡ (q x && p x)) → (xs : List ℕ) → filter p (filter q xs) ≡ filter s xs
filter_both p q s e [] = refl
filter_both p q s e (x ∷ xs) = go (q x) (p x) refl (e x) (filter_both p q s e xs)
  where
    go : (y z : Bool) → p x ≡ z → s x ≡ (y && z) → filter p (filter q xs) ≡ filter s xs → filter p (cond y (x ∷ filter q xs) (filter q xs)) ≡ cond (s x) (x ∷ filter s xs) (filter s xs)
    go true true i j h = rw (i, j) (ap (λ l. x ∷ l) h)
    go true false i j h = rw (i, j) h
    go false z i j h = rw j h

-- at the beginning they are all but the first block
pub others_begin : (first : ℕ) (ds : List ℕ) → filter (is_outside (record { block = first; cleared = 0 } ∷ [])) ds ≡ filter (not_block first) ds
others_begin first ds = filter_agree (is_outside (record { block = first; cleared = 0 } ∷ [])) (not_block first) (outside_one first 0) ds

-- a block was freed: it leaves the stack, and the zero-count blocks
pub others_freed : (b k : ℕ) (vs : List Visit) (ds xs : List ℕ) → filter (is_outside (record { block = b; cleared = k } ∷ vs)) ds ≡ xs → filter (is_outside vs) (filter (not_block b) ds) ≡ xs
others_freed b k vs ds xs h = filter_both (is_outside vs) (not_block b) (is_outside (record { block = b; cleared = k } ∷ vs)) (λ x. go (eqb b x) (list_any (is_visit_of x) vs)) ds ∙ h
  where
    go : (y z : Bool) → not (y || z) ≡ (not y && not z)
    go true z = refl
    go false z = refl

-- the last block was freed
pub others_last : (b k : ℕ) (ds xs : List ℕ) → filter (is_outside (record { block = b; cleared = k } ∷ [])) ds ≡ xs → filter (not_block b) ds ≡ xs
others_last b k ds xs h = sym (filter_agree (is_outside (record { block = b; cleared = k } ∷ [])) (not_block b) (outside_one b k) ds) ∙ h

-- a block that is not in a list is another than each one of it
other_than_each : (ds : List ℕ) (t d : ℕ) → (Contains (d ∷ ds) t → ⊥) → t ≢ d
other_than_each ds t d n e = n (subst (Contains (d ∷ ds)) (sym e) (newest d ds))

-- a block that joins the stack changes nothing for those that it is none of
outside_new : (b k k' t : ℕ) (vs : List Visit) (d : ℕ) → t ≢ d → is_outside (record { block = t; cleared = 0 } ∷ record { block = b; cleared = k' } ∷ vs) d ≡ is_outside (record { block = b; cleared = k } ∷ vs) d
outside_new b k k' t vs d n = ap (λ z. not (z || (eqb b d || list_any (is_visit_of d) vs))) (ne_eqb t d n)

-- so that the same are outside a list without it
others_same : (b k k' t : ℕ) (vs : List Visit) (ds : List ℕ) → (Contains ds t → ⊥) → filter (is_outside (record { block = t; cleared = 0 } ∷ record { block = b; cleared = k' } ∷ vs)) ds ≡ filter (is_outside (record { block = b; cleared = k } ∷ vs)) ds
others_same b k k' t vs [] n = refl
others_same b k k' t vs (d ∷ ds) n =
    let p : ℕ → Bool = is_outside (record { block = t; cleared = 0 } ∷ record { block = b; cleared = k' } ∷ vs) in
    let q : ℕ → Bool = is_outside (record { block = b; cleared = k } ∷ vs) in
    let h : filter p ds ≡ filter q ds = others_same b k k' t vs ds (λ h. n (Contains-append_right (d ∷ []) ds t h)) in
    ap (λ z. cond z (d ∷ filter p ds) (filter p ds)) (outside_new b k k' t vs d (other_than_each ds t d n))
    ∙ ap (λ l. cond (q d) (d ∷ l) l) h

-- the block that joins is not outside
inside_new : (t : ℕ) (vs : List Visit) → filter (is_outside (record { block = t; cleared = 0 } ∷ vs)) (t ∷ []) ≡ []
inside_new t vs = ap (λ z. cond (not (z || list_any (is_visit_of t) vs)) (t ∷ []) []) (eq-eqb t t refl)

-- a block whose count came to 0 joins the stack and the zero-count blocks
pub others_entered : (b k k' t : ℕ) (vs : List Visit) (ds xs : List ℕ) → (Contains ds t → ⊥) → filter (is_outside (record { block = b; cleared = k } ∷ vs)) ds ≡ xs → filter (is_outside (record { block = t; cleared = 0 } ∷ record { block = b; cleared = k' } ∷ vs)) (ds ++ t ∷ []) ≡ xs
others_entered b k k' t vs ds xs n h =
    let p : ℕ → Bool = is_outside (record { block = t; cleared = 0 } ∷ record { block = b; cleared = k' } ∷ vs) in
    filter-append p ds (t ∷ [])
    ∙ (ap (λ l. filter p ds ++ l) (inside_new t (record { block = b; cleared = k' } ∷ vs))
    ∙ (append-nil (filter p ds)
    ∙ (others_same b k k' t vs ds n ∙ h)))

-- ---- no block twice

-- where a block is outside a stack, each one of the stack is another block
others_each : (vs : List Visit) (b : ℕ) → is_outside vs b ≡ true → All (λ (v : Visit). v.block ≢ b) vs
others_each [] b h = All-nil (λ (v : Visit). v.block ≢ b)
others_each (v ∷ vs) b h =
    let u = or_parts (eqb v.block b) (list_any (is_visit_of b) vs) (not-true (eqb v.block b || list_any (is_visit_of b) vs) h) in
    All-cons (λ (v : Visit). v.block ≢ b) v vs (eqb-false v.block b u.0) (others_each vs b (ap not u.1))

-- and so is one that is known to be in the stack
pub outside_other : (vs : List Visit) (b : ℕ) (v : Visit) → is_outside vs b ≡ true → Contains vs v → v.block ≢ b
outside_other vs b v h k = All-contains (λ (v : Visit). v.block ≢ b) vs v (others_each vs b h) k

-- and a block that is none of a stack is outside it
in_none : (vs : List Visit) (t : ℕ) → ((v : Visit) → Contains vs v → v.block ≢ t) → list_any (is_visit_of t) vs ≡ false
in_none [] t n = refl
in_none (v ∷ vs) t n = or_from (eqb v.block t) (list_any (is_visit_of t) vs) (ne_eqb v.block t (n v (newest v vs))) (in_none vs t (λ u h. n u (Contains-append_right (v ∷ []) vs u h)))

-- a block that is none of a stack joins it
pub apart_entered : (b k k' t : ℕ) (vs : List Visit) → t ≢ b → ((v : Visit) → Contains vs v → v.block ≢ t) → IsApart (record { block = b; cleared = k } ∷ vs) → IsApart (record { block = t; cleared = 0 } ∷ record { block = b; cleared = k' } ∷ vs)
apart_entered b k k' t vs n others h = (ap not (or_from (eqb b t) (list_any (is_visit_of t) vs) (ne_eqb b t (λ e. n (sym e))) (in_none vs t others)), h)

-- ---- what is known stays

-- what m shows of the zero-count block b, m' shows too
abbrev pub KeepsBlock : Memo → Memo → ℕ → Type 0
KeepsBlock m m' b = (Contains m.dying b → Contains m'.dying b) × ((p : Spot) (x : ℕ) → is_of b p ≡ true → Knows m p x → Knows m' p x)

-- a block is torn down still
pub visited_kept : (me : Me) (m m' : Memo) (v : Visit) → KeepsBlock m m' v.block → IsVisited me m v → IsVisited me m' v
visited_kept me m m' v k h =
    record {
      inside = h.inside;
      room = h.room;
      dying = k.0 h.dying;
      most = h.most;
      zeros = λ i l. k.1 (Body v.block i) 0 (eq-eqb v.block v.block refl) (h.zeros i l);
    }

-- its tag is known still
pub tagged_kept : (me : Me) (m m' : Memo) (b : ℕ) (g : ATag) → KeepsBlock m m' b → IsTagged me m b g → IsTagged me m' b g
tagged_kept me m m' b g k h = record { fits = h.fits; tag = k.1 (Tag b) (tag_word me.geometry.wide g) (eq-eqb b b refl) h.tag; room = h.room }

-- the known tags lead through the same blocks
pub linked_kept : (me : Me) (m m' : Memo) (l : ℕ) (vs : List Visit) → ((v : Visit) → Contains vs v → KeepsBlock m m' v.block) → Linked me m l vs → Linked me m' l vs
linked_kept me m m' l [] k h = h
linked_kept me m m' l (v ∷ vs) k h =
    let here : KeepsBlock m m' v.block = k v (newest v vs) in
    let g : ATag = h.2.0 in
    (h.0, visited_kept me m m' v here h.1, (g, tagged_kept me m m' v.block g here h.2.1, linked_kept me m m' g.link vs (λ u i. k u (Contains-append_right (v ∷ []) vs u i)) h.2.2))

-- the blocks that the known tags lead through are zero-count blocks
pub left_dying : (me : Me) (m : Memo) (l : ℕ) (vs : List Visit) → Linked me m l vs → All (λ (v : Visit). Contains m.dying v.block) vs
left_dying me m l [] h = All-nil (λ (v : Visit). Contains m.dying v.block)
left_dying me m l (v ∷ vs) h = All-cons (λ (v : Visit). Contains m.dying v.block) v vs h.1.dying (left_dying me m (h.2.0).link vs h.2.2)

-- and so is each of them
pub linked_dying : (me : Me) (m : Memo) (l : ℕ) (vs : List Visit) (v : Visit) → Linked me m l vs → Contains vs v → Contains m.dying v.block
linked_dying me m l vs v h i = All-contains (λ (v : Visit). Contains m.dying v.block) vs v (left_dying me m l vs h) i

-- ---- what a word step leaves known

-- a word of one block is none of another
of_one : (b d : ℕ) (p : Spot) → b ≢ d → is_of b p ≡ true → is_of d p ≡ false
of_one b d (Tag e) n h = ne_eqb e d (λ i. n (sym (eqb-true e b h) ∙ i))
of_one b d (Body e i) n h = ne_eqb e d (λ j. n (sym (eqb-true e b h) ∙ j))
of_one b d _ n h = refl

-- a zero-count block stays one where they are the same
dying_same : (m m' : Memo) (b : ℕ) → m'.dying ≡ m.dying → Contains m.dying b → Contains m'.dying b
dying_same m m' b e h = subst (λ (ds : List ℕ). Contains ds b) (sym e) h

module _ (m m' : Memo) (p : Spot) (x : ℕ) (e : m'.known ≡ learnt p x m.known) where
  -- a word that was read or stored is known
  pub knows_learnt : Knows m' p x
  knows_learnt = subst (λ (ks : List Stored). Contains ks (record { spot = p; value = x })) (sym e) (newest (record { spot = p; value = x }) (filter (not_at p) m.known))

  -- and the others stay known
  pub knows_other : (q : Spot) (y : ℕ) → same_spot p q ≡ false → Knows m q y → Knows m' q y
  knows_other q y n h =
      let s : Stored = record { spot = q; value = y } in
      subst (λ (ks : List Stored). Contains ks s) (sym e)
      (Contains-append_right (record { spot = p; value = x } ∷ []) (filter (not_at p) m.known) s (Contains-filter (not_at p) m.known s h (ap not n)))

  -- so that what is known of a block stays where the word is none of it
  pub keeps_learnt : (b : ℕ) → m'.dying ≡ m.dying → is_of b p ≡ false → KeepsBlock m m' b
  keeps_learnt b d n = (dying_same m m' b d, λ q y h. knows_other q y (same_spot_not p q (λ i. true≢false (sym h ∙ (ap (is_of b) (sym i) ∙ n)))))

-- what is known of another block stays where a zero-count block is freed
pub keeps_freed : (m m' : Memo) (d b : ℕ) → m'.known ≡ filter (not_of d) m.known → m'.dying ≡ filter (not_block d) m.dying → b ≢ d → KeepsBlock m m' b
keeps_freed m m' d b known dying n = (
  λ h. subst (λ (ds : List ℕ). Contains ds b) (sym dying) (Contains-filter (not_block d) m.dying b h (ap not (ne_eqb d b (λ e. n (sym e))))),
  λ p x o h. subst (λ (ks : List Stored). Contains ks (record { spot = p; value = x })) (sym known) (Contains-filter (not_of d) m.known (record { spot = p; value = x }) h (ap not (of_one b d p n o))),
)

module _ (c d i t : ℕ) (z : Bool) (m m' : Memo) (low : Lowered c d i t z m m') (counted : Contains m.dying t → ⊥) where
  -- the block that a reference went to was no zero-count block
  not_lowered : (b : ℕ) → Contains m.dying b → b ≢ t
  not_lowered b h e = counted (subst (Contains m.dying) e h)

  -- no block leaves the zero-count blocks
  pub lowered_dying : (b : ℕ) → Contains m.dying b → Contains m'.dying b
  lowered_dying b k = subst (λ (ds : List ℕ). Contains ds b) (sym low.dying) (Contains-append_left m.dying (cond z (t ∷ []) []) b k)

  -- what is known of another zero-count block than the one of the slot stays after a step down
  pub keeps_lowered : (b : ℕ) → Contains m.dying b → b ≢ d → KeepsBlock m m' b
  keeps_lowered b h n = (
    lowered_dying b,
    λ p x o k. low.known b h (not_lowered b h) p x o (λ e. true≢false (sym (ap (is_of b) (sym e) ∙ o) ∙ ne_eqb d b (λ u. n (sym u)))) k,
  )

  -- and so do the other words of that block
  pub lowered_knows : (p : Spot) (x : ℕ) → Contains m.dying d → is_of d p ≡ true → p ≢ Body d i → Knows m p x → Knows m' p x
  lowered_knows p x h o n k = low.known d h (not_lowered d h) p x o n k

  -- its tag among them
  pub lowered_tagged : (me : Me) (g : ATag) → Contains m.dying d → IsTagged me m d g → IsTagged me m' d g
  lowered_tagged me g h k = record { fits = k.fits; tag = lowered_knows (Tag d) (tag_word me.geometry.wide g) h (eq-eqb d d refl) (λ e. cc) k.tag; room = k.room }
