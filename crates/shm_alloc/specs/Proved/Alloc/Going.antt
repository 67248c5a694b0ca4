-- an allocation goes along its trails: each step is the next pair of a trail from its point
use Rattle.std.proofs.Common.{◌≡◌, ℕ, suc, ◌+◌, ◌-◌, ◌/◌, ◌^◌, ◌<◌, ◌≤◌, refl, sym, ap, ◌∙◌, subst, arith, Bool, true, false, cond, List, [], ◌∷◌, ◌++◌, append_assoc}
use Rattle.std.proofs.lemmas.Bool.{ltb-false}
use Rattle.std.specs.{List.filter, Prelude.{◌==◌, nat_lt, if◌then◌else◌, Result, Err}}
use Rattle.shm_words.specs.Layout.{address}
use Rattle.shm_words.specs.declared.place.Place.TheVariants as place
use Rattle.shm_graph.specs.{declared.{ask.Me.Me, memo.Memo.Memo}, Asks.{Trail, pair}, Trails.{Answers, Chosen}}
use Rattle.shm_graph.specs.{Events.Event, Tells.{is_event, after_all, happens_along}}
use Rattle.shm_graph.proofs.{Machines.TellsAlong.{after_all-append, happens_along-append}, StepKinds.Loads.choice}
use Rattle.shm_count.specs.{declared.answer.Made.Made, Proved.Step.Going.ends_in}
use Rattle.shm_alloc.specs.declared.alloc.AllocFault.{AllocFault, TheVariants.{EraSpent, RootsFull, Full}}
use Rattle.shm_alloc.specs.declared.{request.Request.Request, point.{Goal.Goal, Search.Search, AllocPoint.AllocPoint}}
use Rattle.shm_alloc.specs.declared.point.AllocPoint.TheVariants.{Era, Root, Segment, Claim, Page, Class, Header, Tag, Reference, Plain, More, Redo, Commit, Slot, Close, Over}
use Rattle.shm_alloc.specs.declared.point.{AllocState.AllocState, AllocNext.{AllocNext, TheVariants.{Point, Answer}}}
use Rattle.shm_alloc.specs.Alloc.Control.{alloc_ask, alloc_ask_at, alloc_next, alloc_next_at, class_asked, block_of, segment_at, page_at, segment_over, segment_taken, first_page, first_header, page_over, header_used, references_from, plain_from, first_point, point_of, PointFits, AllocInRange, alloc_control}
use Rattle.shm_alloc.specs.Alloc.Events.{alloc_event, alloc_event_at, alloc_start, events_at, own_events}
use Rattle.shm_alloc.specs.Alloc.Asks.{AllocTrails, alloc_trail, root_trail, segment_trail, page_trail, header_trail, class_trail, block_trail, reference_trail, plain_trail, first_trail, more_trail, live_trail}
use Rattle.shm_alloc.specs.Alloc.{AllocFits, AllocGives, CanAlloc, PointHolds, AnswerHolds, AllocStays, claim_trail, point_trail, pages_after, segments_after}
use Rattle.plans.specs.{Grown.Grows, Proved.Grown.grows_now}

-- ---- the numbers of what is left

-- of n things from i on one is the first
one_less : (n i : ℕ) → i < n → n - i ≡ suc (n - (i + 1))
one_less n i l = omega arith

-- none is left
none_left : (n i : ℕ) → n ≤ i → n - i ≡ 0
none_left n i l = omega arith

-- ---- trails

-- all trails of the first kind are of the second
abbrev IsPart : AllocTrails → AllocTrails → Type 0
IsPart f g = (tr : Trail) (a : Result Made AllocFault) → f tr a → g tr a

-- the trails from where a step leads on
abbrev next_trail : Me → Request → AllocNext → AllocTrails
next_trail me q (Point p) = point_trail me q p
next_trail me q (Answer a) = Answers a

-- the same choice, of where to go and of what follows
chosen : (me : Me) (q : Request) (b : Bool) (x y : AllocNext) (f g : AllocTrails) → (b ≡ true → IsPart (next_trail me q x) f) → (b ≡ false → IsPart (next_trail me q y) g) → IsPart (next_trail me q (if b then x else y)) (Chosen b f g)
chosen me q true x y f g one other = one refl
chosen me q false x y f g one other = other refl

-- as many as are left
left : (f : ℕ → AllocTrails) (m n : ℕ) → m ≡ n → IsPart (f m) (f n)
left f m n e tr a t = subst (λ (x : ℕ). f x tr a) e t

module _ (me : Me) (q : Request) where
  -- ---- the search goes on

  -- after a segment the next one follows, or the refusal
  after_segment : (g : Goal) (s : Search) → IsPart (next_trail me q (segment_over me g s)) (segments_after me q g s s.used)
  after_segment g s =
      choice (λ z. IsPart (next_trail me q z) (segments_after me q g s s.used)) (nat_lt (s.segment + 1) me.geometry.segments) (Point (Segment g (record s { segment = s.segment + 1 }))) (Answer (Err (Full s.taken s.used)))
      (λ e tr a t. t)
      (λ e. left (λ n. segment_trail me q n (s.segment + 1) g.era g.root s.taken s.used) 0 (me.geometry.segments - (s.segment + 1)) (sym (none_left me.geometry.segments (s.segment + 1) (ltb-false (s.segment + 1) me.geometry.segments e))))

  -- after a page the next one follows, or the next segment
  after_page : (g : Goal) (s : Search) (p : ℕ) → IsPart (next_trail me q (page_over me g s p)) (pages_after me q g s p s.used)
  after_page g s p =
      choice (λ z. IsPart (next_trail me q z) (pages_after me q g s p s.used)) (nat_lt p 15) (Point (Page g s (p + 1))) (segment_over me g s)
      (λ e. left (λ n. page_trail me q n (p + 1) (segment_at me q s.segment) g.era g.root s.used (segments_after me q g s)) (16 - (p + 1)) (15 - p) (omega arith))
      (λ e tr a t. left (λ n. page_trail me q n (p + 1) (segment_at me q s.segment) g.era g.root s.used (segments_after me q g s)) 0 (15 - p) (sym (none_left 15 p (ltb-false p 15 e))) tr a (after_segment g s tr a t))

  -- n headers of a page from block i on, and what follows
  abbrev headers_left : Goal → Search → ℕ → ℕ → ℕ → AllocTrails
  headers_left g s p i n = header_trail me q n i (address me.geometry (place.Body (segment_at me q s.segment) (page_at q p) 0)) g.era g.root s.used (pages_after me q g s p)

  -- after a header that isn't free the next one follows, or the next page
  after_header : (g : Goal) (s : Search) (p i : ℕ) → IsPart (next_trail me q (header_used me q g s p i)) (headers_left g s p (i + 1) (128 / class_asked q - (i + 1)))
  after_header g s p i =
      choice (λ z. IsPart (next_trail me q z) (headers_left g s p (i + 1) (128 / class_asked q - (i + 1)))) (nat_lt (i + 1) (128 / class_asked q)) (Point (Header g s p (i + 1))) (page_over me g s p)
      (λ e tr a t. t)
      (λ e tr a t. left (headers_left g s p (i + 1)) 0 (128 / class_asked q - (i + 1)) (sym (none_left (128 / class_asked q) (i + 1) (ltb-false (i + 1) (128 / class_asked q) e))) tr a (after_page g s p tr a t))

  -- all headers are left at the first one
  all_headers : (g : Goal) (s : Search) (p : ℕ) → IsPart (headers_left g s p 0 (128 / class_asked q - 0)) (headers_left g s p 0 (128 / class_asked q))
  all_headers g s p = left (headers_left g s p 0) (128 / class_asked q - 0) (128 / class_asked q) (omega arith)

  -- ---- the making goes on

  -- the redo record, in format 2 its second word first
  after_words : (g : Goal) (b : ℕ) → IsPart (point_trail me q (first_point me.geometry.wide g b)) (first_trail me q g.era g.root b)
  after_words g b tr a t = go me.geometry.wide t
    where
      go : (x : Bool) → point_trail me q (if x then More g b else Redo g b) tr a → Chosen x (more_trail me q g.era g.root b) (live_trail me q g.era g.root b) tr a
      go true u = u
      go false u = u

  -- the plain words that are left, and the redo record after them
  after_plain : (g : Goal) (b i : ℕ) → IsPart (point_trail me q (plain_from me.geometry.wide q g b i)) (plain_trail me q (q.count - i) i g.era g.root b)
  after_plain g b i =
      choice (λ z. IsPart (point_trail me q z) (plain_trail me q (q.count - i) i g.era g.root b)) (nat_lt i q.count) (Plain g b i) (first_point me.geometry.wide g b)
      (λ e tr a t. t)
      (λ e tr a t. left (λ n. plain_trail me q n i g.era g.root b) 0 (q.count - i) (sym (none_left q.count i (ltb-false i q.count e))) tr a (after_words g b tr a t))

  -- the reference words that are left, and the plain words after them
  after_reference : (g : Goal) (b i : ℕ) → IsPart (point_trail me q (references_from me.geometry.wide q g b i)) (reference_trail me q (q.refs - i) i g.era g.root b)
  after_reference g b i =
      choice (λ z. IsPart (point_trail me q z) (reference_trail me q (q.refs - i) i g.era g.root b)) (nat_lt i q.refs) (Reference g b i) (plain_from me.geometry.wide q g b 0)
      (λ e tr a t. t)
      (λ e tr a t. left (λ n. reference_trail me q n i g.era g.root b) 0 (q.refs - i) (sym (none_left q.refs i (ltb-false i q.refs e))) tr a
      (left (λ n. plain_trail me q n 0 g.era g.root b) (q.count - 0) q.count (omega arith) tr a (after_plain g b 0 tr a t)))

  -- ---- each point

  -- what follows a step at a point is the end of a trail from that point
  abbrev Goes : AllocPoint → Type 0
  Goes p = (n : ℕ) → PointFits me q p → (rest : Trail) (a : Result Made AllocFault) → next_trail me q (alloc_next_at me q p n) rest a → point_trail me q p (pair (alloc_ask_at me q p) n ∷ rest) a

  -- the own era
  era_goes : Goes Era
  era_goes n l rest a t =
      (n, (rest, (refl, chosen me q (nat_lt (2 ^ 47 - 3) n) (Answer (Err (EraSpent n))) (Point (Root n 0)) (Answers (Err (EraSpent n))) (root_trail me q 16 0 n) (λ e tr b u. u) (λ e tr b u. u) rest a t)))

  -- the next root, or the refusal after the last one
  after_root : (e k : ℕ) → IsPart (next_trail me q (if nat_lt k 15 then Point (Root e (k + 1)) else Answer (Err RootsFull))) (root_trail me q (16 - (k + 1)) (k + 1) e)
  after_root e k =
      choice (λ z. IsPart (next_trail me q z) (root_trail me q (16 - (k + 1)) (k + 1) e)) (nat_lt k 15) (Point (Root e (k + 1))) (Answer (Err RootsFull))
      (λ d tr a t. t)
      (λ d. let above = ltb-false k 15 d in left (λ n. root_trail me q n (k + 1) e) 0 (16 - (k + 1)) (omega arith))

  -- a root
  root_goes : (e k : ℕ) → Goes (Root e k)
  root_goes e k n l rest a t =
      left (λ f. root_trail me q f k e) (suc (16 - (k + 1))) (16 - k) (sym (one_less 16 k l.1)) (pair (alloc_ask_at me q (Root e k)) n ∷ rest) a (
        n,
        (
          rest,
          (
            refl,
            chosen me q (n == 0) (Point (Segment (record { era = e; root = k }) (record { segment = 0; taken = 0; used = 0 }))) (if nat_lt k 15 then Point (Root e (k + 1)) else Answer (Err RootsFull))
                (segment_trail me q me.geometry.segments 0 e k 0 0) (root_trail me q (16 - (k + 1)) (k + 1) e)
                (λ d. left (λ f. segment_trail me q f 0 e k 0 0) (me.geometry.segments - 0) me.geometry.segments (omega arith)) (λ d. after_root e k) rest a t,
          ),
        ),
      )

  -- the pages of an own segment, and what follows
  abbrev own_trail : Goal → Search → AllocTrails
  own_trail g s = page_trail me q 16 0 (segment_at me q s.segment) g.era g.root s.used (segments_after me q g s)

  -- what follows where the segment is another's
  abbrev taken_trail : Goal → Search → AllocTrails
  taken_trail g s = segment_trail me q (me.geometry.segments - (s.segment + 1)) (s.segment + 1) g.era g.root (s.taken + 1) s.used

  -- all pages are left at the first one
  first_pages : (g : Goal) (s : Search) → IsPart (next_trail me q (first_page g s)) (own_trail g s)
  first_pages g s = left (λ n. page_trail me q n 0 (segment_at me q s.segment) g.era g.root s.used (segments_after me q g s)) (16 - 0) 16 (omega arith)

  -- after a segment that is another's the next one follows
  after_taken : (g : Goal) (s : Search) → IsPart (next_trail me q (segment_taken me g s)) (taken_trail g s)
  after_taken g s = after_segment g (record s { taken = s.taken + 1 })

  -- the owner of a segment
  segment_goes : (g : Goal) (s : Search) → Goes (Segment g s)
  segment_goes g s n l rest a t =
      left (λ f. segment_trail me q f s.segment g.era g.root s.taken s.used) (suc (me.geometry.segments - (s.segment + 1))) (me.geometry.segments - s.segment) (sym (one_less me.geometry.segments s.segment l.1.segment)) (pair (alloc_ask_at me q (Segment g s)) n ∷ rest) a (
        n,
        (
          rest,
          (
            refl,
            chosen me q (n == 0) (Point (Claim g s)) (if n == me.who + 1 then first_page g s else segment_taken me g s)
                (claim_trail me q g s) (Chosen (n == me.who + 1) (own_trail g s) (taken_trail g s)) (λ d tr b u. u)
                (λ d. chosen me q (n == me.who + 1) (first_page g s) (segment_taken me g s) (own_trail g s) (taken_trail g s) (λ d2. first_pages g s) (λ d2. after_taken g s)) rest a t,
          ),
        ),
      )

  -- the claim of a segment
  claim_goes : (g : Goal) (s : Search) → Goes (Claim g s)
  claim_goes g s n l rest a t = (n, (rest, (refl, chosen me q (n == 0) (first_page g s) (segment_taken me g s) (own_trail g s) (taken_trail g s) (λ d. first_pages g s) (λ d. after_taken g s) rest a t)))

  -- the class of a page
  page_goes : (g : Goal) (s : Search) (p : ℕ) → Goes (Page g s p)
  page_goes g s p n l rest a t =
      left (λ f. page_trail me q f p (segment_at me q s.segment) g.era g.root s.used (segments_after me q g s)) (suc (15 - p)) (16 - p) (let below = l.2 in omega arith) (pair (alloc_ask_at me q (Page g s p)) n ∷ rest) a (
        n,
        (
          rest,
          (
            refl,
            chosen me q (n == 0) (Point (Class g s p)) (if n == class_asked q then first_header g s p else page_over me g s p)
                (class_trail me q (segment_at me q s.segment) (page_at q p) g.era g.root s.used (pages_after me q g s p)) (Chosen (n == class_asked q) (headers_left g s p 0 (128 / class_asked q)) (pages_after me q g s p s.used)) (λ d tr b u. u)
                (λ d. chosen me q (n == class_asked q) (first_header g s p) (page_over me g s p) (headers_left g s p 0 (128 / class_asked q)) (pages_after me q g s p s.used) (λ d2. all_headers g s p) (λ d2. after_page g s p)) rest a t,
          ),
        ),
      )

  -- the store of a class
  class_goes : (g : Goal) (s : Search) (p : ℕ) → Goes (Class g s p)
  class_goes g s p n l rest a t = (n, (rest, (refl, all_headers g s p rest a t)))

  -- the header of a block
  header_goes : (g : Goal) (s : Search) (p i : ℕ) → Goes (Header g s p i)
  header_goes g s p i n l rest a t =
      let s2 : Search = record s { used = s.used + 1 } in
      left (headers_left g s p i) (suc (128 / class_asked q - (i + 1))) (128 / class_asked q - i) (sym (one_less (128 / class_asked q) i l.3)) (pair (alloc_ask_at me q (Header g s p i)) n ∷ rest) a (
        n,
        (
          rest,
          (
            refl,
            chosen me q (n == 0) (Point (Tag g (block_of me q s p i))) (header_used me q g s2 p i)
                (block_trail me q g.era g.root (block_of me q s p i)) (headers_left g s2 p (i + 1) (128 / class_asked q - (i + 1))) (λ d tr b u. u) (λ d. after_header g s2 p i) rest a t,
          ),
        ),
      )

  -- the tag
  tag_goes : (g : Goal) (b : ℕ) → Goes (Tag g b)
  tag_goes g b n l rest a t = (n, (rest, (refl, left (λ f. reference_trail me q f 0 g.era g.root b) (q.refs - 0) q.refs (omega arith) rest a (after_reference g b 0 rest a t))))

  -- a reference word
  reference_goes : (g : Goal) (b i : ℕ) → Goes (Reference g b i)
  reference_goes g b i n l rest a t =
      left (λ f. reference_trail me q f i g.era g.root b) (suc (q.refs - (i + 1))) (q.refs - i) (sym (one_less q.refs i l.2)) (pair (alloc_ask_at me q (Reference g b i)) n ∷ rest) a
      (n, (rest, (refl, after_reference g b (i + 1) rest a t)))

  -- a plain word
  plain_goes : (g : Goal) (b i : ℕ) → Goes (Plain g b i)
  plain_goes g b i n l rest a t =
      left (λ f. plain_trail me q f i g.era g.root b) (suc (q.count - (i + 1))) (q.count - i) (sym (one_less q.count i l.2)) (pair (alloc_ask_at me q (Plain g b i)) n ∷ rest) a
      (n, (rest, (refl, after_plain g b (i + 1) rest a t)))

  -- any point
  step_goes : (p : AllocPoint) → Goes p
  step_goes Era = era_goes
  step_goes (Root e k) = root_goes e k
  step_goes (Segment g s) = segment_goes g s
  step_goes (Claim g s) = claim_goes g s
  step_goes (Page g s p) = page_goes g s p
  step_goes (Class g s p) = class_goes g s p
  step_goes (Header g s p i) = header_goes g s p i
  step_goes (Tag g b) = tag_goes g b
  step_goes (Reference g b i) = reference_goes g b i
  step_goes (Plain g b i) = plain_goes g b i
  step_goes (More g b) = λ n l rest a t. (n, (rest, (refl, t)))
  step_goes (Redo g b) = λ n l rest a t. (n, (rest, (refl, t)))
  step_goes (Commit g b) = λ n l rest a t. (n, (rest, (refl, t)))
  step_goes (Slot g b) = λ n l rest a t. (n, (rest, (refl, t)))
  step_goes (Close g b) = λ n l rest a t. (n, (rest, (refl, t)))
  step_goes Over = λ n l rest a t. absurd t

-- ---- what stands

-- a step that leads to a point is followed by the trails from that point
pub trail_goes : (me : Me) (q : Request) (p p2 : AllocPoint) (n : ℕ) → PointFits me q p → alloc_next_at me q p n ≡ Point p2 → (rest : Trail) (a : Result Made AllocFault) → point_trail me q p2 rest a → point_trail me q p (pair (alloc_ask_at me q p) n ∷ rest) a
trail_goes me q p p2 n l e rest a t = step_goes me q p n l rest a (subst (λ (x : AllocNext). next_trail me q x rest a) (sym e) t)

-- a step that leads to an answer is the last one
pub trail_ends : (me : Me) (q : Request) (p : AllocPoint) (n : ℕ) (a : Result Made AllocFault) → PointFits me q p → alloc_next_at me q p n ≡ Answer a → point_trail me q p (pair (alloc_ask_at me q p) n ∷ []) a
trail_ends me q p n a l e = step_goes me q p n l [] a (subst (λ (x : AllocNext). next_trail me q x [] a) (sym e) (refl, refl))

-- ---- events

-- the events up to a step, with those of the step
abbrev events_with : Me → AllocPoint → ℕ → List Event
events_with me p n = events_at me p ++ filter is_event (alloc_event_at me p n ∷ [])

-- the events are those of the next point, or of the answer
abbrev Told : Me → AllocNext → List Event → Type 0
Told me (Point p) es = es ≡ events_at me p
Told me (Answer a) es = es ≡ own_events me a

-- where both ways have the events, the one that is taken has them
told_choice : (me : Me) (b : Bool) (x y : AllocNext) (es : List Event) → Told me x es → Told me y es → Told me (cond b x y) es
told_choice me true x y es f h = f
told_choice me false x y es f h = h

-- where a segment is over, there was no event
told_over : (me : Me) (g : Goal) (s : Search) → Told me (segment_over me g s) []
told_over me g s = told_choice me (nat_lt (s.segment + 1) me.geometry.segments) _ _ [] refl refl

-- nor where a page is over
told_page : (me : Me) (g : Goal) (s : Search) (p : ℕ) → Told me (page_over me g s p) []
told_page me g s p = told_choice me (nat_lt p 15) _ _ [] refl (told_over me g s)

-- nor where all words are stored
told_first : (me : Me) (g : Goal) (b : ℕ) → Told me (Point (first_point me.geometry.wide g b)) []
told_first me g b = go me.geometry.wide
  where
    go : (x : Bool) → Told me (Point (cond x (More g b) (Redo g b))) []
    go true = refl
    go false = refl

-- nor where so many plain words are stored
told_plain : (me : Me) (q : Request) (g : Goal) (b i : ℕ) → Told me (Point (plain_from me.geometry.wide q g b i)) []
told_plain me q g b i = go (nat_lt i q.count)
  where
    go : (x : Bool) → Told me (Point (cond x (Plain g b i) (first_point me.geometry.wide g b))) []
    go true = refl
    go false = told_first me g b

-- nor where so many reference words are stored
told_references : (me : Me) (q : Request) (g : Goal) (b i : ℕ) → Told me (Point (references_from me.geometry.wide q g b i)) []
told_references me q g b i = go (nat_lt i q.refs)
  where
    go : (x : Bool) → Told me (Point (cond x (Reference g b i) (plain_from me.geometry.wide q g b 0))) []
    go true = refl
    go false = told_plain me q g b 0

-- the events up to a step, with its own, are those of the next point or of the answer
told_next : (me : Me) (q : Request) (p : AllocPoint) (n : ℕ) → Told me (alloc_next_at me q p n) (events_with me p n)
told_next me q Era n = told_choice me (nat_lt (2 ^ 47 - 3) n) _ _ [] refl refl
told_next me q (Root e k) n = told_choice me (n == 0) _ _ [] refl (told_choice me (nat_lt k 15) _ _ [] refl refl)
told_next me q (Segment g s) n = told_choice me (n == 0) _ _ [] refl (told_choice me (n == me.who + 1) _ _ [] refl (told_over me g (record s { taken = s.taken + 1 })))
told_next me q (Claim g s) n = told_choice me (n == 0) _ _ [] refl (told_over me g (record s { taken = s.taken + 1 }))
told_next me q (Page g s p) n = told_choice me (n == 0) _ _ [] refl (told_choice me (n == class_asked q) _ _ [] refl (told_page me g s p))
told_next me q (Class g s p) n = refl
told_next me q (Header g s p i) n = told_choice me (n == 0) _ _ [] refl (told_choice me (nat_lt (i + 1) (128 / class_asked q)) _ _ [] refl (told_page me g (record s { used = s.used + 1 }) p))
told_next me q (Tag g b) n = told_references me q g b 0
told_next me q (Reference g b i) n = told_references me q g b (i + 1)
told_next me q (Plain g b i) n = told_plain me q g b (i + 1)
told_next me q (More g b) n = refl
told_next me q (Redo g b) n = refl
told_next me q (Commit g b) n = refl
told_next me q (Slot g b) n = refl
told_next me q (Close g b) n = refl
told_next me q Over n = refl

-- the events of one more pair
told_more : (m : AllocState) (r0 r : Memo) (tr : Trail) (n : ℕ) → AllocFits m r0 r tr → happens_along alloc_control alloc_event (alloc_start m) (tr ++ pair (alloc_ask m) n ∷ []) ≡ events_with m.me m.point n
told_more m r0 r tr n fit =
    happens_along-append alloc_control alloc_event (alloc_start m) tr (pair (alloc_ask m) n)
    ∙ (ap (λ es. es ++ filter is_event (alloc_event (after_all alloc_control (alloc_start m) tr) n ∷ [])) fit.events
    ∙ ap (λ (x : AllocState). events_at m.me m.point ++ filter is_event (alloc_event x n ∷ [])) fit.course)

-- the events of one more pair are those of where it leads
told_by : (m : AllocState) (r0 r : Memo) (tr : Trail) (n : ℕ) (y : AllocNext) → AllocFits m r0 r tr → alloc_next m n ≡ y → Told m.me y (happens_along alloc_control alloc_event (alloc_start m) (tr ++ pair (alloc_ask m) n ∷ []))
told_by m r0 r tr n y fit e = subst (Told m.me y) (sym (told_more m r0 r tr n fit)) (subst (λ (z : AllocNext). Told m.me z (events_with m.me m.point n)) e (told_next m.me m.request m.point n))

-- an allocation that fits and goes on fits at the next point, where the memo shows what that point needs
pub fits_goes : (m : AllocState) (r0 r r2 : Memo) (tr : Trail) (n : ℕ) (p : AllocPoint) → AllocFits m r0 r tr → alloc_next m n ≡ Point p → AllocInRange (record m { point = p }) → Grows true r0 r2 → PointHolds m.me m.request r0 r2 p → AllocFits (record m { point = p }) r0 r2 (tr ++ pair (alloc_ask m) n ∷ [])
fits_goes m r0 r r2 tr n p fit e knows grows holds =
    record {
      can = fit.can;
      knows = knows;
      begun = λ _. ends_in tr (pair (alloc_ask m) n);
      grows = grows;
      holds = holds;
      trail = λ rest a t. subst (λ (x : Trail). alloc_trail m.me m.request x a) (sym (append_assoc tr (pair (alloc_ask m) n ∷ []) rest)) (fit.trail (pair (alloc_ask m) n ∷ rest) a (trail_goes m.me m.request m.point p n fit.knows.point e rest a t));
      course = after_all-append alloc_control (alloc_start m) tr (pair (alloc_ask m) n) ∙ (ap (λ (x : AllocState). alloc_control.after x n) fit.course ∙ ap (λ (y : AllocNext). record m { point = point_of y }) e);
      events = told_by m r0 r tr n (Point p) fit e;
    }

-- an allocation that fits and answers has asked a whole trail
pub gives_ends : (m : AllocState) (r0 r r2 : Memo) (tr : Trail) (n : ℕ) (a : Result Made AllocFault) → AllocFits m r0 r tr → alloc_next m n ≡ Answer a → Grows true r0 r2 → AnswerHolds m.me m.request r0 r2 a → AllocGives m r0 r2 (tr ++ pair (alloc_ask m) n ∷ []) a
gives_ends m r0 r r2 tr n a fit e grows holds =
    record {
      grows = grows;
      holds = holds;
      trail = fit.trail (pair (alloc_ask m) n ∷ []) a (trail_ends m.me m.request m.point n a fit.knows.point e);
      events = told_by m r0 r tr n (Answer a) fit e;
    }

-- nothing has changed since the beginning
stays_first : (r : Memo) → AllocStays r r
stays_first r = record { status = refl; latch = refl; looks = refl; dying = refl; sent = refl; received = refl; unsent = refl; untaken = refl; part = refl; owned = ([], refl) }

-- an allocation that has just been made fits each memo of an identity that may allocate
pub begins : (m : AllocState) (r : Memo) → m.point ≡ Era → AllocInRange m → CanAlloc m.me r → AllocFits m r r []
begins m r e knows can =
    record {
      can = can;
      knows = knows;
      begun = λ other. absurd (other e);
      grows = grows_now true r;
      holds = subst (λ (p : AllocPoint). PointHolds m.me m.request r r p) (sym e) (record { stays = stays_first r; op = can.idle.op; own = refl; has = record { making = can.idle.making; known = refl; values = refl } });
      trail = λ rest a t. subst (λ (p : AllocPoint). point_trail m.me m.request p rest a) e t;
      course = ap (λ (p : AllocPoint). record m { point = p }) (sym e);
      events = ap (events_at m.me) (sym e);
    }
