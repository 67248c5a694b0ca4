-- the memo of a new entry from call to call: once it is made, once a word of it is filled, once it is linked, and where a step is refused
use Rattle.std.proofs.Common.{◌≡◌, ◌≢◌, ℕ, ◌%◌, ◌<◌, refl, sym, ap, ◌∙◌, subst, arith, Bool, true, false, cond, eqb, append-nil, List, [], ◌∷◌, ◌++◌, slice_index}
use Rattle.std.proofs.lemmas.{Bool.eq-eqb, List.Elements.Contains-push}
use Rattle.std.specs.{Prelude.{if◌then◌else◌, Some, Ok, Err}, List.Contains}
use Rattle.shm_graph.specs.declared.{ask.Me.Me, memo.{Memo.Memo, Op.TheVariants.Nothing}, spot.Spot.Spot}
use Rattle.shm_graph.specs.{Agents.recovers, Asks.{Trail, IsWithin}, Bounds.alloc_steps, Events.Event}
use Rattle.shm_graph.specs.{MemoAfterStore.is_of, Views.{own_word, view}}
use Rattle.shm_graph.specs.declared.spot.Spot.TheVariants as spot
use Rattle.shm_graph.proofs.States.Holders.{target_counted}
use Rattle.plans.specs.Parts.{IsHeld}
use Rattle.kind_parts.specs.{Beginning.IsOwnWord, Reparting.{sight, IsKnown, IsTagged, IsValue, TableStep}}
use Rattle.kind_parts.specs.{Reparting.TableStep.{Prepares, Links}, Walking.{IsComing, IsVacant}}
use Rattle.kind_parts.proofs.{BeginAt.{SlotHas, word_target}, BeginWords.own_word_has, Reaching.root_reached}
use Rattle.kind_parts.proofs.Partitions.{Seeking.learnt_other, Words.tagged_word}
use Rattle.shm_count.specs.{declared.{answer.{Made.Made, UpFault.UpFault}, point.Aim.Aim}, Roots.root_word}
use Rattle.shm_count.specs.{Slots.{Filled, Lost, StepCause, Untouched}, Step.Control.IsInside}
use Rattle.shm_count.specs.{Step.Parts.{Raised, part_after}, Tear.Memos.Knows}
use Rattle.shm_alloc.specs.declared.{alloc.AllocFault.AllocFault, request.Request.Request}
use Rattle.shm_alloc.specs.{Proved.Alloc.Carrying.made_comes, Alloc.AnswerHolds}
use Rattle.shm_alloc.proofs.MadeBlocks.{block_inside}
use Rattle.shm_table.specs.Answers.{made_fault, raised_fault}
use Rattle.shm_table.specs.Enter.{IsHalfMade, IsLinked, IsMade, IsUnlinked, IsUnmade, MayEnter, enter_steps, linked_events}
use Rattle.shm_table.specs.Proved.Enter.Steps.{bucket_own, entry_own, first_apart, home_apart, next_then, value_number, value_then}
use Rattle.shm_table.specs.Proved.Staying.Laws.{keeps_made, keeps_more, keeps_untouched, made_cause, raised_cause, rests_unmade, rests_untouched, root_named, same_map}
use Rattle.shm_table.specs.Proved.Staying.Steps.{filled_else, keeps_filled, keeps_lost, map_word, took_else}
use Rattle.shm_table.specs.Staying.{Keeps, Laws.{made_home, made_others}}

-- ---- the block was made

made_some : (me : Me) (q : Request) (r0 r : Memo) (a : Made) → IsHeld me r → me.who < me.geometry.clients → AnswerHolds me q r0 r (Ok a) → a.block ≢ 0
made_some me q r0 r a (w, rs, h, same) who holds e =
    let inside : IsInside me a.block = block_inside me q r0 a w rs h who (subst (λ (x : Memo). AnswerHolds me q r0 x (Ok a)) (sym same) holds).gives in
    let low = inside.0 in
    absurd (omega arith)

-- with the words of an entry of the key
pub made_on : (me : Me) (q : Request) (key v n home first : ℕ) (r0 r : Memo) (a : Made) → q.refs ≡ 2 → q.count ≡ 1 → slice_index q.plain 0 ≡ key → MayEnter me key v n home first r0 → IsHeld me r → recovers r ≡ recovers r0 → AnswerHolds me q r0 r (Ok a) → IsMade me key v n home first a.root a.block 0 0 r0 r
made_on me q key v n home first r0 r a refs count plain may held agent holds =
    let small : me.who < 64 = (let u = may.geometry.clients in let l = may.who in omega arith) in
    let comes = made_comes me q r0 r a holds small key first may.vacant refs count plain may.small (made_some me q r0 r a held may.who holds) in
    record {
      may = may;
      holds = held;
      client = agent ∙ may.client;
      keeps = keeps_made me q r0 r (Ok a) small holds;
      latch = holds.stays.latch;
      directory = made_home me q r0 r a holds ∙ may.directory;
      empty = holds.gives.empty;
      others = λ j n. made_others me q r0 r a holds j (λ e. n (sym e));
      dying = holds.stays.dying;
      map = same_map r0 r holds.stays.part;
      vacant = comes.0;
      coming = comes.1;
    }

-- ---- a word of it was filled

module _ (me : Me) (key v n home first k b next value : ℕ) (r0 rs r : Memo) (h : IsMade me key v n home first k b next value r0 rs) (held : IsHeld me r) (agent : recovers r ≡ recovers rs) where
  abbrev c : ℕ
  c = me.who

  -- an own word of the entry came to name x, after which the next word and the value word are known to be these
  filled_on : (i x names has : ℕ) → i < 2 → x ≢ 0 → IsKnown (sight me.who rs) (spot.Body b i) 0 → Filled me.who (spot.Body b i) x rs r → IsVacant me.who r key first × IsComing me.geometry.wide me.who r k b key names has → IsMade me key v n home first k b names has r0 r
  filled_on i x names has low some known filled comes =
      let own : IsOwnWord me.geometry.wide me.who rs b i 0 = entry_own me rs h.holds h.may.who h.keeps.idle h.client key first k b next value h.vacant h.coming i 0 low known in
      let (latch, same_home, part, cleared) = filled_else me.who b i x rs r filled in
      record {
        may = h.may;
        holds = held;
        client = agent ∙ h.client;
        keeps = keeps_more me.who r0 rs r h.keeps (keeps_filled me rs r b i x 0 h.keeps.idle h.holds h.may.who own filled);
        latch = latch ∙ h.latch;
        directory = same_home ∙ h.directory;
        empty = h.empty;
        others = λ j z. cleared.roots j ∙ h.others j z;
        dying = cleared.dying ∙ h.dying;
        map = λ j. map_word me rs r b i 0 x h.holds h.may.who h.keeps.idle.op h.vacant.table own (λ e. some (sym e)) part (Prepares b i key refl h.coming.entry) j ∙ h.map j;
        vacant = comes.0;
        coming = comes.1;
      }

  raised : (i x : ℕ) → Filled me.who (spot.Body b i) x rs r → Raised me.who (spot.Body b i) x rs r
  raised i x a = record { rest = a.rest; own = a.own; rows = a.rows }

  pub value_on : value ≡ 0 → Filled me.who (spot.Body b 1) v rs r → IsMade me key v n home first k b next v r0 r
  value_on none a =
      filled_on 1 v next v (omega arith) h.may.some (subst (IsKnown (sight me.who rs) (spot.Body b 1)) none h.coming.value_is) a
      (value_then me rs h.holds h.may.who h.keeps.idle h.client key first k b next value h.vacant h.coming v r none h.may.some (raised 1 v a))

  pub next_on : next ≡ 0 → first ≢ 0 → Filled me.who (spot.Body b 0) first rs r → IsMade me key v n home first k b first value r0 r
  next_on none some a =
      filled_on 0 first first value (omega arith) some (subst (IsKnown (sight me.who rs) (spot.Body b 0)) none h.coming.next_is) a
      (next_then me rs h.holds h.may.who h.keeps.idle h.client key first k b next value h.vacant h.coming r none some (raised 0 first a))

-- ---- it was linked

-- a block that an own word names isn't a zero-count block
named_counted : (me : Me) (m : Memo) (d i t : ℕ) → IsHeld me m → me.who < me.geometry.clients → m.op ≡ Nothing → IsOwnWord me.geometry.wide me.who m d i t → t ≢ 0 → Contains m.dying t → ⊥
named_counted me m d i t (w, rs, h, same) who idle own some dies =
    let has : SlotHas me.geometry w rs me.who (spot.Body d i) t = own_word_has me.geometry w rs me.who h who d i t (subst (λ (x : Memo). IsOwnWord me.geometry.wide me.who x d i t) (sym same) own) in
    let quiet : (rs me.who).op ≡ Nothing = ap (λ (x : Memo). x.op) same ∙ idle in
    (target_counted me.geometry w (view rs) h (spot.Body d i) t some (word_target me.geometry w rs me.who h who (spot.Body d i) has.holds quiet ∙ has.word)).1
    ((h.dying me.who who).listed t (subst (λ (x : Memo). Contains x.dying t) (sym same) dies)).1

module _ (me : Me) (key v n home first k b : ℕ) (r0 rs r : Memo) (h : IsMade me key v n home first k b first v r0 rs) (held : IsHeld me r) where
  -- the bucket is an own word
  bucket : IsOwnWord me.geometry.wide me.who rs home (key % 16) first
  bucket = subst (λ d. IsOwnWord me.geometry.wide me.who rs d (key % 16) first) h.directory (bucket_own me rs h.holds h.may.who h.keeps.idle h.client key first k b first v h.vacant h.coming)

  apart : first ≢ b
  apart = first_apart me rs h.holds h.may.who h.keeps.idle h.client key first k b first v h.vacant h.coming

  -- what follows of a step that put the entry into the word of the bucket
  linked_by : (tr : Trail) (es : List Event) → Keeps me.who rs r → r.latch ≡ rs.latch → own_word r.own (spot.Home me.who) ≡ own_word rs.own (spot.Home me.who)
      → r.part ≡ part_after me.who (sight me.who rs) (spot.Body home (key % 16)) b → ((j : ℕ) → root_word me.who r j ≡ root_word me.who rs j) → r.dying ≡ rs.dying
      → es ≡ linked_events me.who k b v home key first → IsWithin (enter_steps me.geometry.wide me.geometry.segments) tr → IsLinked me key v home first k r0 r tr es
  linked_by tr es keeps latch same_home part roots dying told bound =
      let at : spot.Body home (key % 16) ≡ spot.Body (own_word rs.own (spot.Home me.who)) (key % 16) = ap (λ d. spot.Body d (key % 16)) (sym h.directory) in
      let step : (x : ℕ) → IsValue (sight me.who r0) v x → TableStep me.geometry.wide me.who (sight me.who rs) (spot.Body home (key % 16)) first b = (λ x number. Links key v x at h.coming.entry h.coming.next_is h.coming.value_is (value_number me key v n home first k b first v r0 rs h x number)) in
      record {
        entry = b;
        some = h.coming.root.2;
        keeps = keeps_more me.who r0 rs r h.keeps keeps;
        latch = latch ∙ h.latch;
        directory = same_home ∙ h.directory;
        low = h.coming.root.0;
        empty = h.empty;
        root = roots k ∙ h.coming.root.1;
        others = λ j z. roots j ∙ h.others j z;
        dying = dying ∙ h.dying;
        map = λ x number j. map_word me rs r home (key % 16) first b h.holds h.may.who h.keeps.idle.op h.vacant.table bucket apart part (step x number) j ∙ ap (cond (eqb key j) (Some (x, v))) (h.map j);
        events = told;
        bound = bound;
      }

  -- an empty bucket came to name it
  pub link_on : (tr : Trail) (es : List Event) → Filled me.who (spot.Body home (key % 16)) b rs r → es ≡ linked_events me.who k b v home key first → IsWithin (enter_steps me.geometry.wide me.geometry.segments) tr → IsLinked me key v home first k r0 r tr es
  link_on tr es a told bound =
      let (latch, same_home, part, cleared) = filled_else me.who home (key % 16) b rs r a in
      linked_by tr es (keeps_filled me rs r home (key % 16) b first h.keeps.idle h.holds h.may.who bucket a) latch same_home part cleared.roots cleared.dying told bound

  -- ---- or one that names the entry that was the first one, whose count doesn't come to 0

  module _ (z : Bool) (a : Lost me.who (spot.Body home (key % 16)) false first b z rs r) where
    root_still : own_word r.own (spot.Root me.who k) ≡ b
    root_still = a.took.own (spot.Root me.who k) refl ∙ h.coming.root.1

    -- what is known of the entry is known still
    knows_still : (p : Spot) (x : ℕ) → is_of b p ≡ true → spot.Body home (key % 16) ≢ p → Knows rs p x → Knows r p x
    knows_still p x of other known =
        a.took.sifts.words b p x (root_named me.who r b k h.coming.root.0 a.took.op root_still h.coming.root.2) (λ e is. apart (sym is)) of (learnt_other (spot.Body home (key % 16)) p b x rs.known other known)

    -- so that its next word is an own word, which names it
    next_own : IsOwnWord me.geometry.wide me.who r b 0 first
    next_own =
        let t : IsTagged me.geometry.wide me.who (sight me.who rs) b 2 1 = h.coming.entry.tagged in
        let off : home ≢ b = (λ e. home_apart me rs h.holds h.may.who h.keeps.idle h.client key first k b first v h.vacant h.coming (h.directory ∙ e)) in
        let tagged : IsTagged me.geometry.wide me.who (sight me.who r) b 2 1 = record { tag = t.tag; known = knows_still (spot.Tag b) t.tag (eq-eqb b b refl) (λ e. cc) t.known; refs_are = t.refs_are; plain_are = t.plain_are; author = t.author } in
        tagged_word me.geometry.wide me.who r b 2 1 0 first (ap (λ (x : Memo). x.latch) a.took.rest ∙ h.vacant.latch) tagged (root_reached me.who r b k h.coming.root.0 a.took.op root_still h.coming.root.2) (omega arith)
        (knows_still (spot.Body b 0) first (eq-eqb b b refl) (λ e. off (let y : home ≡ b = cc in y)) h.coming.next_is)

    pub not_lost : first ≢ 0 → z ≡ false
    not_lost some = go z a.dying
      where
        go : (y : Bool) → r.dying ≡ rs.dying ++ (if y then first ∷ [] else []) → y ≡ false
        go false e = refl
        go true e = absurd (named_counted me r b 0 first held h.may.who a.took.op next_own some (subst (λ (ds : List ℕ). Contains ds first) (sym e) (Contains-push rs.dying first)))

    pub change_on : (tr : Trail) (es : List Event) → first ≢ 0 → es ≡ linked_events me.who k b v home key first → IsWithin (enter_steps me.geometry.wide me.geometry.segments) tr → IsLinked me key v home first k r0 r tr es
    change_on tr es some told bound =
        let (latch, same_home, part, roots) = took_else me.who home (key % 16) first b false z rs r a.took in
        linked_by tr es (keeps_lost me rs r home (key % 16) first b first false h.keeps.idle h.holds h.may.who bucket z held a) latch same_home part roots
        (a.dying ∙ (ap (λ y. rs.dying ++ cond y (first ∷ []) []) (not_lost some) ∙ append-nil rs.dying)) told bound

-- ---- a count step was refused

pub unlinked_on : (me : Me) (key v n home first k b next value : ℕ) (r0 rs r : Memo) (tr : Trail) (es : List Event) (x : Aim) (f : UpFault) → IsMade me key v n home first k b next value r0 rs → Untouched me.who rs r → StepCause me x rs f → IsHalfMade me.who k b v first es → IsWithin (enter_steps me.geometry.wide me.geometry.segments) tr
    → IsUnlinked me key v home first k r0 r tr es (raised_fault f)
unlinked_on me key v n home first k b next value r0 rs r tr es x f h left cause told bound =
    let rests = rests_untouched me.who rs r left in
    record {
      entry = b;
      some = h.coming.root.2;
      keeps = keeps_more me.who r0 rs r h.keeps (keeps_untouched me.who rs r h.keeps.idle left);
      latch = rests.latch ∙ h.latch;
      directory = rests.home ∙ h.directory;
      low = h.coming.root.0;
      empty = h.empty;
      root = rests.cleared.roots k ∙ h.coming.root.1;
      others = λ j z. rests.cleared.roots j ∙ h.others j z;
      dying = rests.cleared.dying ∙ h.dying;
      map = λ j. same_map rs r rests.part j ∙ h.map j;
      cause = raised_cause me x r0 rs r f left cause;
      events = told;
      bound = bound;
    }

-- ---- no block was made

pub unmade_on : (me : Me) (q : Request) (key v n home first : ℕ) (r0 r : Memo) (tr : Trail) (f : AllocFault) → MayEnter me key v n home first r0 → AnswerHolds me q r0 r (Err f) → IsWithin (alloc_steps me.geometry.wide me.geometry.segments) tr → IsUnmade me home r0 r tr [] (made_fault f)
unmade_on me q key v n home first r0 r tr f may holds bound =
    let small : me.who < 64 = (let u = may.geometry.clients in let l = may.who in omega arith) in
    let rests = rests_unmade me q r0 r f holds in
    record {
      keeps = keeps_made me q r0 r (Err f) small holds;
      latch = rests.latch;
      directory = rests.home ∙ may.directory;
      cleared = rests.cleared;
      map = same_map r0 r rests.part;
      cause = made_cause me q r0 r f holds;
      none = refl;
      bound = bound;
    }
