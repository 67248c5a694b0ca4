-- the laws of a tear-down, but that its steps keep the invariant
use Rattle.std.proofs.Common.{◌≡◌, ℕ, ◌+◌, ◌%◌, ◌<◌, ◌≤◌, ◌==◌, nat_lt, if◌then◌else◌, Bool, true, false, List, [], ◌∷◌, subst, sym, refl, arith}
use Rattle.std.proofs.{Math.Nat.mod-eq_of_lt, lemmas.Bool.true≢false}
use Rattle.std.specs.Prelude.{Result, Ok, Err}
use Rattle.shm_words.specs.{declared.tag.Tag.Tag as ATag, Layout.{GeometryFits, total_of, address_limit}}
use Rattle.shm_words.proofs.Placing.{total_small}
use Rattle.shm_graph.specs.{declared.{ask.Me.Me, memo.Memo.Memo, spot.Spot.TheVariants.Body}, Asks.{Trail, at_of}}
use Rattle.shm_graph.specs.{Events.Event, Laws.{Steady, Inside, Back, is_some}, Tells.{after_all, happens_along}}
use Rattle.shm_count.specs.declared.{answer.{UpFault.UpFault, EraSpent.EraSpent}, point.StepNext.StepNext}
use Rattle.shm_count.specs.declared.tear_point.{TearPoint.TearPoint, TearState.TearState, TearNext.TearNext}
use Rattle.shm_count.specs.declared.tear_point.TearNext.TheVariants.{Go, Answer}
use Rattle.shm_count.specs.Step.Control.{IsInside, step_next_at}
use Rattle.shm_count.specs.Tear.Control.{word_address, tag_read, word_or_free, lowered_next, freed_next, down_next, tear_ask_at, tear_next, tear_next_at, point_of, answer_of, is_begin, is_over, tear_control, relinked}
use Rattle.shm_count.specs.Tear.{Events.{tear_event, tear_start}, TearHolds, TearFits, TearGives, Memos.Retains}
use Rattle.shm_count.specs.declared.point.Aim.TheVariants as aims
use Rattle.shm_count.specs.declared.point.StepPoint.TheVariants as step
use Rattle.shm_count.specs.declared.point.StepNext.TheVariants as next
use Rattle.shm_count.specs.declared.tear_point.TearPoint.TheVariants as point
use Rattle.shm_count.specs.Step.Control as steps
use Rattle.shm_count.specs.Proved.Step.Laws as laws

-- ---- steady

-- a point is neither the first one nor the end
abbrev IsLater : TearPoint → Type 0
IsLater y = (is_begin y ≡ false) × (is_over y ≡ false)

-- where it goes on, it goes to such a point
abbrev GoesOn : TearNext → Type 0
GoesOn (Go d y) = IsLater y
GoesOn (Answer a) = Unit {0}

-- one of two such points
later : (b : Bool) (y z : TearPoint) → IsLater y → IsLater z → IsLater (if b then y else z)
later true y z f h = f
later false y z f h = h

-- the next reference word, or the header
word_later : (g : ATag) (i : ℕ) → IsLater (word_or_free g i)
word_later g i = later (nat_lt i g.refs) (point.Word g i) (point.Free g) (refl, refl) (refl, refl)

-- by what a step down answered
lowered_goes : (b : ℕ) (g : ATag) (i t : ℕ) (a : Result Bool UpFault) → GoesOn (lowered_next b g i t a)
lowered_goes b g i t (Ok true) = (refl, refl)
lowered_goes b g i t (Ok false) = word_later g (i + 1)
lowered_goes b g i t (Err f) = tt

-- by where a step down goes
down_goes : (b : ℕ) (g : ATag) (i t : ℕ) (y : StepNext) → GoesOn (down_next b g i t y)
down_goes b g i t (next.Point y) = (refl, refl)
down_goes b g i t (next.Answer a) = lowered_goes b g i t a

-- once a block is free
freed_goes : (g : ATag) → GoesOn (freed_next g)
freed_goes g = go (g.link == 0)
  where
    go : (b : Bool) → GoesOn (if b then Answer (Ok tt) else Go g.link point.Return)
    go true = tt
    go false = (refl, refl)

-- from each point but the end it goes on to a later point, or answers
goes_on : (me : Me) (b : ℕ) (y : TearPoint) (n : ℕ) → is_over y ≡ false → GoesOn (tear_next_at me b y n)
goes_on me b point.Begin n e = later ((tag_read me.geometry.wide n).link == 0) (word_or_free (tag_read me.geometry.wide n) 0) (point.Link (relinked me.geometry.wide (tag_read me.geometry.wide n) 0)) (word_later (tag_read me.geometry.wide n) 0) (refl, refl)
goes_on me b (point.Enter l) n e = later ((tag_read me.geometry.wide n).link == l) (word_or_free (tag_read me.geometry.wide n) 0) (point.Link (relinked me.geometry.wide (tag_read me.geometry.wide n) l)) (word_later (tag_read me.geometry.wide n) 0) (refl, refl)
goes_on me b (point.Link g) n e = word_later g 0
goes_on me b (point.Word g i) n e = later (n % address_limit == 0) (word_or_free g (i + 1)) (point.Down g i (n % address_limit) step.Era) (word_later g (i + 1)) (refl, refl)
goes_on me b (point.Down g i t y) n e = down_goes b g i t (step_next_at me (aims.Down t) y n)
goes_on me b (point.Free g) n e = freed_goes g
goes_on me b point.Return n e = word_later (tag_read me.geometry.wide n) 0
goes_on me b point.Over n e = absurd (true≢false e)

-- it has made a step, and it is over once it has answered
after_next : (y : TearNext) → GoesOn y → (is_begin (point_of y) ≡ false) × (is_over (point_of y) ≡ is_some (answer_of y))
after_next (Go d y) h = (h.0, h.1)
after_next (Answer a) h = (refl, refl)

-- identity and line stay, and it is over once it has answered
pub tear_steady : Steady tear_control
tear_steady m n going =
    let h = after_next (tear_next m n) (goes_on m.me m.block m.point n going) in
    record { same_me = refl; same_line = refl; started = h.0; ends = h.1 }

-- ---- a step down that has answered is left

-- the step down at a point isn't over
abbrev pub IsRunning : TearPoint → Type 0
IsRunning (point.Down g i t y) = steps.is_over y ≡ false
IsRunning y = Unit {0}

-- one of two such points
running : (b : Bool) (y z : TearPoint) → IsRunning y → IsRunning z → IsRunning (if b then y else z)
running true y z f h = f
running false y z f h = h

-- the next reference word, or the header
word_runs : (g : ATag) (i : ℕ) → IsRunning (word_or_free g i)
word_runs g i = running (nat_lt i g.refs) (point.Word g i) (point.Free g) tt tt

-- by what a step down answered
lowered_runs : (b : ℕ) (g : ATag) (i t : ℕ) (a : Result Bool UpFault) → IsRunning (point_of (lowered_next b g i t a))
lowered_runs b g i t (Ok true) = tt
lowered_runs b g i t (Ok false) = word_runs g (i + 1)
lowered_runs b g i t (Err f) = tt

-- by where a step down goes
down_runs : (b : ℕ) (g : ATag) (i t : ℕ) (y : StepNext) → laws.GoesOn y → IsRunning (point_of (down_next b g i t y))
down_runs b g i t (next.Point y) h = h.1
down_runs b g i t (next.Answer a) h = lowered_runs b g i t a

-- once a block is free
freed_runs : (g : ATag) → IsRunning (point_of (freed_next g))
freed_runs g = go (g.link == 0)
  where
    go : (b : Bool) → IsRunning (point_of (if b then Answer (Ok tt) else Go g.link point.Return))
    go true = tt
    go false = tt

-- a step leads to such a point
runs_next : (me : Me) (b : ℕ) (y : TearPoint) (n : ℕ) → IsRunning y → IsRunning (point_of (tear_next_at me b y n))
runs_next me b point.Begin n h = running ((tag_read me.geometry.wide n).link == 0) (word_or_free (tag_read me.geometry.wide n) 0) (point.Link (relinked me.geometry.wide (tag_read me.geometry.wide n) 0)) (word_runs (tag_read me.geometry.wide n) 0) tt
runs_next me b (point.Enter l) n h = running ((tag_read me.geometry.wide n).link == l) (word_or_free (tag_read me.geometry.wide n) 0) (point.Link (relinked me.geometry.wide (tag_read me.geometry.wide n) l)) (word_runs (tag_read me.geometry.wide n) 0) tt
runs_next me b (point.Link g) n h = word_runs g 0
runs_next me b (point.Word g i) n h = running (n % address_limit == 0) (word_or_free g (i + 1)) (point.Down g i (n % address_limit) step.Era) (word_runs g (i + 1)) refl
runs_next me b (point.Down g i t y) n h = down_runs b g i t (step_next_at me (aims.Down t) y n) (laws.goes_on me (aims.Down t) y n h)
runs_next me b (point.Free g) n h = freed_runs g
runs_next me b point.Return n h = word_runs (tag_read me.geometry.wide n) 0
runs_next me b point.Over n h = tt

-- and so do all that follow it
runs_along : (m : TearState) (tr : Trail) → IsRunning m.point → IsRunning (after_all tear_control m tr).point
runs_along m [] h = h
runs_along m (x ∷ tr) h = runs_along (tear_control.after m x.word) tr (runs_next m.me m.block m.point x.word h)

-- so a tear-down that fits is at no step down that is over
pub fit_runs : (m : TearState) (r0 r : Memo) (tr : Trail) → TearFits m r0 r tr → IsRunning m.point
fit_runs m r0 r tr fit = subst (λ (x : TearState). IsRunning x.point) fit.course (runs_along (tear_start m) tr tt)

-- ---- inside

-- the header of a block
head_inside : (me : Me) (b : ℕ) → IsInside me b → (0 < b) × (b < total_of me.geometry)
head_inside me b s = let l = s.0 in (omega arith, s.1)

-- its tag
tag_inside : (me : Me) (b : ℕ) → b + 2 ≤ total_of me.geometry → (0 < b + 1) × (b + 1 < total_of me.geometry)
tag_inside me b s = (omega arith, omega arith)

-- the address of a word of a block that lies in the pool
pub word_address_is : (me : Me) (b i : ℕ) → GeometryFits me.geometry → b + 2 + i < total_of me.geometry → word_address b i ≡ b + 2 + i
word_address_is me b i f l = let s : total_of me.geometry < address_limit = total_small me.geometry f in mod-eq_of_lt (omega arith)

-- a reference word of a block
word_inside : (me : Me) (b i k : ℕ) → GeometryFits me.geometry → b + 2 + k ≤ total_of me.geometry → i < k → (0 < word_address b i) × (word_address b i < total_of me.geometry)
word_inside me b i k f s l = subst (λ (z : ℕ). (0 < z) × (z < total_of me.geometry)) (sym (word_address_is me b i f (omega arith))) (omega arith, omega arith)

-- what is asked for at a point is a word of the pool
ask_inside : (me : Me) (first : ℕ) (r0 r : Memo) (b : ℕ) (es : List Event) (tr : Trail) (y : TearPoint) → GeometryFits me.geometry → me.who < me.geometry.clients → TearHolds me first r0 b y r es tr → IsRunning y → is_over y ≡ false
    → (0 < at_of (tear_ask_at me b y)) × (at_of (tear_ask_at me b y) < total_of me.geometry)
ask_inside me first r0 r b es tr point.Begin f l h c e = tag_inside me b h.2.settled.visited.room
ask_inside me first r0 r b es tr (point.Enter k) f l h c e = tag_inside me b h.2.settled.visited.room
ask_inside me first r0 r b es tr (point.Link g) f l h c e = tag_inside me b h.2.settled.visited.room
ask_inside me first r0 r b es tr (point.Word g i) f l h c e = word_inside me b i g.refs f h.2.shows.0.room h.2.shows.2
ask_inside me first r0 r b es tr (point.Down g i t y) f l h c e = laws.ask_inside me (word_address b i) (aims.Down t) (Body b i) h.2 r y f l h.6.blocks h.6.inside h.7.has c
ask_inside me first r0 r b es tr (point.Free g) f l h c e = head_inside me b h.2.settled.visited.inside
ask_inside me first r0 r b es tr point.Return f l h c e = tag_inside me b h.2.settled.visited.room
ask_inside me first r0 r b es tr point.Over f l h c e = absurd (true≢false e)

-- a tear-down that fits asks for a word of the pool
pub tear_inside : Inside tear_control TearFits
tear_inside m r0 r tr l fit going =
    (ask_inside m.me m.first r0 r m.block (happens_along tear_control tear_event (tear_start m) tr) tr m.point fit.knows.geometry l fit.holds (fit_runs m r0 r tr fit) going).1

-- ---- back

-- what an answer says, it says of the identity and the block that was given alone
pub tear_back : Back tear_control TearGives
tear_back m n going goes r0 r tr a g = record { leaves = g.leaves; grows = g.grows; trail = g.trail }

-- ---- what stays known

-- whatever it answers, head slots, and words and value blocks of blocks that are named
pub tear_retains : (m : TearState) (r0 r : Memo) (tr : Trail) (a : Result (Unit {0}) EraSpent) → TearGives m r0 r tr a → Retains m.me.who r0 r
tear_retains m r0 r tr (Ok u) g = g.leaves.retains
tear_retains m r0 r tr (Err e) g = g.leaves.1.retains
