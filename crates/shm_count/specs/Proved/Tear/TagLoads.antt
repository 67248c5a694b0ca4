-- what a tear-down keeps where it loads the tag of a block
use Rattle.std.proofs.Common.{◌<◌, ◌≡◌, ℕ, ◌+◌, ◌≤◌, refl, sym, ap, ◌∙◌, subst, arith, List, [], ◌∷◌, ◌++◌, inl, inr}
use Rattle.std.proofs.lemmas.{Bool.{cases_Bool, eqb-true}, List.append-nil}
use Rattle.std.specs.{Prelude.{◌==◌, if◌then◌else◌, Bool}, List.{Contains, filter}}
use Rattle.shm_words.specs.{declared.tag.Tag.Tag as ATag, Tags.{tag_word, TagFits}, Layout.{total_of, place_limit}}
use Rattle.shm_words.proofs.{Words.{tag_of-word, place_some, place_same}, Placing.total_in_format}
use Rattle.shm_count.specs.Tear.Control.{relinked, or_empty, tag_read, word_or_free, entered_next, tear_ask_at, tear_next_at}
use Rattle.shm_count.specs.Tear.{Events.{Visit, tear_event_at}, Settled, Linked, IsPaid, TearHolds, NextHolds}
use Rattle.shm_count.specs.Tear.Memos.{Knows, IsTagged}
use Rattle.shm_count.specs.Proved.Tear.Cores.{stays_core, tag_core, settled_same, on_words}
use Rattle.shm_count.specs.Proved.Tear.Bound.{paid_entered, paid_returned}
use Rattle.shm_count.specs.Proved.Tear.Stacks.{KeepsBlock, linked_kept, knows_learnt, knows_other}
use Rattle.shm_count.specs.Proved.{DyingBlocks.{dying_tag, dying_tag_spot}, Retaining.{retains_core, slots_learnt}}
use Rattle.shm_count.specs.declared.tear_point.{TearPoint.TearPoint, TearNext.TheVariants.Go}
use Rattle.shm_count.specs.declared.tear_point.TearPoint.TheVariants as point
use Rattle.shm_graph.specs.declared.{ask.{Ask.TheVariants.Load, Me.Me}, spot.Spot.{Spot, TheVariants.{Tag, Body}}}
use Rattle.shm_graph.specs.{declared.memo.Memo.Memo, Asks.{Trail, at_of, pair}, Blocks.classes, Changes.memo_on}
use Rattle.shm_graph.specs.{Events.Event, Laws.{Frame, framed, Stands, KeptAt}, Reach.learnt}
use Rattle.shm_graph.specs.{Spots.{same_spot, spot_at}, Tells.is_event}
use Rattle.shm_graph.proofs.{StepKinds.Loads.choice, Spots.Spotting.same_spot_is, Memos.MemoSteps.recovers_on}
use Rattle.kind_parts.proofs.{BeginWords.known_here, BlockTold.dying_true, BodyLoads.tag_loaded, Covering.dying_told}
use Rattle.kind_parts.proofs.KeptAfter.{kept_with}

-- ---- what a tear-down owes

-- the step at a point keeps the invariant, and then what comes next holds of the memo
abbrev pub TearKept : Me → ℕ → Memo → ℕ → (Spot → ℕ) → (ℕ → Memo) → Frame → Trail → List Event → TearPoint → Type 0
TearKept me first r0 b w r f tr es y =
    KeptAt me w r (tear_ask_at me b y) f (λ n m. NextHolds me first r0 b (tear_next_at me b y n) m (es ++ filter is_event (tear_event_at me b y n ∷ [])) (tr ++ pair (tear_ask_at me b y) n ∷ []))
    (spot_at me.geometry (classes w) (at_of (tear_ask_at me b y)))

-- where a word was read, all that was known is known still
pub still_known : (m n : Memo) (p : Spot) (x : ℕ) → n.known ≡ learnt p x m.known → ((y : ℕ) → Knows m p y → x ≡ y) → (q : Spot) (y : ℕ) → Knows m q y → Knows n q y
still_known m n p x e same q y k =
    elim (cases_Bool (same_spot p q)) [
      | inl z ↦ (let o : p ≡ q = same_spot_is p q z in
          let v : x ≡ y = same y (subst (λ (s : Spot). Knows m s y) (sym o) k) in
          subst (λ (s : Spot). Knows n s y) o (subst (Knows n p) v (knows_learnt m n p x e)))
      | inr z ↦ knows_other m n p x e q y z k
    ]

-- so that all that is known of blocks stays
pub load_keeps : (m n : Memo) (b : ℕ) → n.dying ≡ m.dying → ((q : Spot) (y : ℕ) → Knows m q y → Knows n q y) → KeepsBlock m n b
load_keeps m n b e k = (λ z. subst (λ (ds : List ℕ). Contains ds b) (sym e) z, λ p x _ z. k p x z)

-- what a tag says that is read
pub tag_is_read : (wide : Bool) (n : ℕ) (g : ATag) → TagFits wide g → n ≡ tag_word wide g → tag_read wide n ≡ g
tag_is_read wide n g fits e = ap (tag_read wide) e ∙ ap or_empty (tag_of-word wide g fits)

-- ---- a tag

-- the load of the tag of a zero-count block
tag_step : (me : Me) (w : Spot → ℕ) (r : ℕ → Memo) (f : Frame) (tr : Trail) (b : ℕ) → Stands me w r f tr → Contains (r me.who).dying b → KeptAt me w r (Load (b + 1)) f (λ n m. Unit {0}) (spot_at me.geometry (classes w) (b + 1))
tag_step me w r f tr b st d = tag_loaded me w r f tr (b + 1) b st (dying_tag_spot me.geometry w r me.who b st.held st.who d) (dying_told me.who (r me.who) me.geometry.wide b (dying_true (r me.who) b d))

module _ (me : Me) (first : ℕ) (r0 : Memo) (b k : ℕ) (vs : List Visit) (w : Spot → ℕ) (r : ℕ → Memo) (f : Frame) (tr : Trail) (es : List Event) (st : Stands me w r f tr) (s : Settled me first b k vs r0 (r me.who) es) where
  -- the tag word, the memo before, and the memo once the tag was loaded
  abbrev n : ℕ
  n = w (Tag b)

  abbrev m : Memo
  m = r me.who

  abbrev m2 : Memo
  m2 = memo_on m (framed me (Load (b + 1)) f n) (Tag b)

  abbrev tr2 : Trail
  tr2 = tr ++ pair (Load (b + 1)) n ∷ []

  learns : m2.known ≡ learnt (Tag b) n m.known
  learns = ap (λ (x : Memo). x.known) (tag_core me f m (b + 1) b n)

  same : m2.dying ≡ m.dying
  same = ap (λ (x : Memo). x.dying) (tag_core me f m (b + 1) b n)

  known_still : (q : Spot) (y : ℕ) → Knows m q y → Knows m2 q y
  known_still = still_known m m2 (Tag b) n learns (λ y k. (known_here me.geometry w r me.who st.held st.who (Tag b) y k).0)

  settled : Settled me first b k vs r0 m2 es
  settled =
      settled_same me first b k vs r0 m m2 es s (stays_core me.who m m2 (learnt (Tag b) n m.known) m.dying (tag_core me f m (b + 1) b n))
      (retains_core me.who m m2 (learnt (Tag b) n m.known) m.dying (tag_core me f m (b + 1) b n) (slots_learnt (Tag b) n m.known refl) (λ d p x e o k. known_still p x k)) same
      (recovers_on m (framed me (Load (b + 1)) f n) (Tag b))
      (λ j l. known_still (Body b j) 0 (s.visited.zeros j l))

  linked : (l : ℕ) → Linked me m l vs → Linked me m2 l vs
  linked l h = linked_kept me m m2 l vs (λ v _. load_keeps m m2 v.block same known_still) h

  -- the tag that was read is one of the pool
  tagged : (g : ATag) → TagFits me.geometry.wide g → n ≡ tag_word me.geometry.wide g → b + 2 + g.refs ≤ total_of me.geometry → IsTagged me m2 b g
  tagged g fits e room = record { fits = fits; tag = subst (Knows m2 (Tag b)) e (knows_learnt m m2 (Tag b) n learns); room = room }

  -- a link is in range
  link_small : (l : ℕ) (us : List Visit) → Linked me m l us → l < place_limit me.geometry.wide
  link_small l [] e = subst (λ z. z < place_limit me.geometry.wide) (sym e) (place_some me.geometry.wide)
  link_small l (v ∷ us) h = let i = h.1.inside.1 in let t = total_in_format me.geometry st.held.fits in let e = h.0 in omega arith

  -- a block that is entered: its words come next, or its link is stored
  entered : (l : ℕ) → k ≡ 0 → Linked me m l vs → IsPaid me.geometry.wide (record { block = b; cleared = 0 } ∷ vs) 0 (point.Enter l) es tr → NextHolds me first r0 b (entered_next me.geometry.wide b l n) m2 es tr2
  entered l zero link paid =
      let x = dying_tag me.geometry w r me.who b st.held st.who s.visited.dying in
      let g : ATag = x.0 in
      let t : IsTagged me m2 b g = tagged g x.2 x.1 x.3 in
      let s0 : Settled me first b 0 vs r0 m2 es = subst (λ j. Settled me first b j vs r0 m2 es) zero settled in
      subst (λ (h : ATag). NextHolds me first r0 b (Go b (if h.link == l then word_or_free h 0 else point.Link (relinked me.geometry.wide h l))) m2 es tr2) (sym (tag_is_read me.geometry.wide n g x.2 x.1))
      (choice (λ (y : TearPoint). TearHolds me first r0 b y m2 es tr2) (g.link == l) (word_or_free g 0) (point.Link (relinked me.geometry.wide g l))
      (λ z. on_words me first b 0 0 vs g r0 m2 es tr2 s0 t (subst (λ j. Linked me m2 j vs) (sym (eqb-true g.link l z)) (linked l link)) (omega arith) (paid_entered b vs es tr (pair (Load (b + 1)) n) me.geometry.wide (point.Enter l) g g paid refl refl).0)
      (λ z. (0, vs, record { settled = s0; shows = (refl, subst (λ j. Linked me m2 j vs) (sym (place_same me.geometry.wide l (link_small l vs link))) (linked l link), (g, t, refl)); paid = (paid_entered b vs es tr (pair (Load (b + 1)) n) me.geometry.wide (point.Enter l) g (relinked me.geometry.wide g l) paid refl refl).1 })))

  -- a block that is come back to: its words come again
  returned : (g : ATag) → IsTagged me m b g → Linked me m g.link vs → IsPaid me.geometry.wide (record { block = b; cleared = k } ∷ vs) k point.Return es tr → NextHolds me first r0 b (Go b (word_or_free (tag_read me.geometry.wide n) 0)) m2 es tr2
  returned g t link paid =
      let e : n ≡ tag_word me.geometry.wide g = (known_here me.geometry w r me.who st.held st.who (Tag b) (tag_word me.geometry.wide g) t.tag).0 in
      subst (λ (h : ATag). TearHolds me first r0 b (word_or_free h 0) m2 es tr2) (sym (tag_is_read me.geometry.wide n g t.fits e))
      (on_words me first b k 0 vs g r0 m2 es tr2 settled (tagged g t.fits e t.room) (linked g.link link) (omega arith) (paid_returned b vs es tr (pair (Load (b + 1)) n) k me.geometry.wide g paid))

  -- the load, with what holds of the memo then
  tag_kept : (after : ℕ → Memo → Type 0) → after n m2 → KeptAt me w r (Load (b + 1)) f after (spot_at me.geometry (classes w) (b + 1))
  tag_kept after x = kept_with me w r (Load (b + 1)) f after (Tag b) (spot_at me.geometry (classes w) (b + 1)) (dying_tag_spot me.geometry w r me.who b st.held st.who s.visited.dying) (tag_step me w r f tr b st s.visited.dying) x

-- where no event is added
pub unchanged : (P : List Event → Type 0) (es : List Event) → P es → P (es ++ [])
unchanged P es x = subst P (sym (append-nil es)) x

-- the block that was given is entered
pub begin_step : (me : Me) (first : ℕ) (r0 : Memo) (b : ℕ) (w : Spot → ℕ) (r : ℕ → Memo) (f : Frame) (tr : Trail) (es : List Event) → Stands me w r f tr → TearHolds me first r0 b point.Begin (r me.who) es tr → TearKept me first r0 b w r f tr es point.Begin
begin_step me first r0 b w r f tr es st (k, vs, a) =
    let s = a.settled in
    let paid : IsPaid me.geometry.wide (record { block = b; cleared = 0 } ∷ vs) 0 (point.Enter 0) es tr = subst (λ j. IsPaid me.geometry.wide (record { block = b; cleared = j } ∷ vs) j (point.Enter 0) es tr) a.shows.0 a.paid in
    tag_kept me first r0 b k vs w r f tr es st s (λ n x. NextHolds me first r0 b (entered_next me.geometry.wide b 0 n) x (es ++ []) (tr ++ pair (Load (b + 1)) n ∷ []))
    (unchanged (λ e. NextHolds me first r0 b (entered_next me.geometry.wide b 0 (w (Tag b))) (m2 me first r0 b k vs w r f tr es st s) e (tr2 me first r0 b k vs w r f tr es st s)) es (entered me first r0 b k vs w r f tr es st s 0 a.shows.0 a.shows.1 paid))

-- a block whose count came to 0 on the way is entered
pub enter_step : (me : Me) (first : ℕ) (r0 : Memo) (b l : ℕ) (w : Spot → ℕ) (r : ℕ → Memo) (f : Frame) (tr : Trail) (es : List Event) → Stands me w r f tr → TearHolds me first r0 b (point.Enter l) (r me.who) es tr → TearKept me first r0 b w r f tr es (point.Enter l)
enter_step me first r0 b l w r f tr es st (k, vs, a) =
    let s = a.settled in
    let paid : IsPaid me.geometry.wide (record { block = b; cleared = 0 } ∷ vs) 0 (point.Enter l) es tr = subst (λ j. IsPaid me.geometry.wide (record { block = b; cleared = j } ∷ vs) j (point.Enter l) es tr) a.shows.0 a.paid in
    tag_kept me first r0 b k vs w r f tr es st s (λ n x. NextHolds me first r0 b (entered_next me.geometry.wide b l n) x (es ++ []) (tr ++ pair (Load (b + 1)) n ∷ []))
    (unchanged (λ e. NextHolds me first r0 b (entered_next me.geometry.wide b l (w (Tag b))) (m2 me first r0 b k vs w r f tr es st s) e (tr2 me first r0 b k vs w r f tr es st s)) es (entered me first r0 b k vs w r f tr es st s l a.shows.0 a.shows.1 paid))

-- a block is come back to
pub return_step : (me : Me) (first : ℕ) (r0 : Memo) (b : ℕ) (w : Spot → ℕ) (r : ℕ → Memo) (f : Frame) (tr : Trail) (es : List Event) → Stands me w r f tr → TearHolds me first r0 b point.Return (r me.who) es tr → TearKept me first r0 b w r f tr es point.Return
return_step me first r0 b w r f tr es st (k, vs, a) =
    let s = a.settled in
    tag_kept me first r0 b k vs w r f tr es st s (λ n x. NextHolds me first r0 b (Go b (word_or_free (tag_read me.geometry.wide n) 0)) x (es ++ []) (tr ++ pair (Load (b + 1)) n ∷ []))
    (unchanged (λ e. NextHolds me first r0 b (Go b (word_or_free (tag_read me.geometry.wide (w (Tag b))) 0)) (m2 me first r0 b k vs w r f tr es st s) e (tr2 me first r0 b k vs w r f tr es st s)) es (returned me first r0 b k vs w r f tr es st s a.shows.0 a.shows.1 a.shows.2 a.paid))
