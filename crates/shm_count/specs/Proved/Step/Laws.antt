-- the laws of a count step, but that its steps keep the invariant
use Rattle.std.proofs.Common.{◌≡◌, ℕ, ◌<◌, ◌==◌, ◌&&◌, nat_lt, if◌then◌else◌, Bool, true, false, subst, sym, refl, arith, lt-ltb}
use Rattle.std.proofs.lemmas.Bool.{true≢false, and_from, Decides.nat_tests}
use Rattle.shm_words.specs.{Layout.{GeometryFits, address, total_of}, Headers.header_of}
use Rattle.shm_words.specs.declared.place.Place.TheVariants as place
use Rattle.shm_words.proofs.Placing.{address_below}
use Rattle.shm_graph.specs.{declared.{ask.Me.Me, memo.Memo.Memo, spot.Spot.Spot}, Asks.at_of}
use Rattle.shm_graph.specs.Laws.{Steady, Inside, Back, is_some}
use Rattle.shm_count.specs.declared.point.{Aim.{Aim, TheVariants.{Up, Down, Change}}, Half.Half}
use Rattle.shm_count.specs.declared.point.{Half.TheVariants.{First, Second}, StepPoint.StepPoint}
use Rattle.shm_count.specs.declared.point.StepPoint.TheVariants.{Era, More, Redo, Load, Row, Show, Exchange, Slot, Close, Over}
use Rattle.shm_count.specs.declared.point.StepNext.{StepNext, TheVariants.{Point, Answer}}
use Rattle.shm_count.specs.Step.Control.{block_at, raises, last_era, row_address, header_next, committed_next, closed_next, step_ask_at, step_next_at, step_next, point_of, answer_of, is_first, is_over, step_control, AimFits, first_next}
use Rattle.shm_count.specs.Step.{PointHas, StepFits, StepGives}

-- ---- steady

-- where it goes on, the point is neither the first one nor the end
abbrev pub GoesOn : StepNext → Type 0
GoesOn (Point y) = (is_first y ≡ false) × (is_over y ≡ false)
GoesOn (Answer a) = Unit {0}

-- one of two ways, each of which goes on so
chosen : (b : Bool) (y z : StepNext) → GoesOn y → GoesOn z → GoesOn (if b then y else z)
chosen true y z f h = f
chosen false y z f h = h

-- by a header it goes on to a later point, or answers
header_goes : (me : Me) (x : Aim) (e : ℕ) (h : Half) (w : ℕ) → GoesOn (header_next me x e h w)
header_goes me x e h w = chosen (raises x h && ((header_of w).count == 1023)) _ _ tt (chosen ((header_of w).client == me.who) _ _ (refl, refl) (refl, refl))

-- after an exchange it goes on to a later point
committed_goes : (x : Aim) (e : ℕ) (h : Half) (w : ℕ) → GoesOn (committed_next x e h w)
committed_goes x e First w = (refl, refl)
committed_goes x e Second w = (refl, refl)

-- after an own era it goes on to the second half, or answers
closed_goes : (x : Aim) (e : ℕ) (h : Half) (z : Bool) → GoesOn (closed_next x e h z)
closed_goes (Up b) e h z = tt
closed_goes (Down b) e h z = tt
closed_goes (Change a b) e First z = (refl, refl)
closed_goes (Change a b) e Second z = tt

-- the store that begins a step comes after the own era
first_goes : (me : Me) (n : ℕ) → GoesOn (first_next me n)
first_goes me n = go me.geometry.wide
  where
    go : (b : Bool) → GoesOn (Point (if b then More n else Redo n))
    go true = (refl, refl)
    go false = (refl, refl)

-- from each point but the end it goes on to a later point, or answers
pub goes_on : (me : Me) (x : Aim) (y : StepPoint) (n : ℕ) → is_over y ≡ false → GoesOn (step_next_at me x y n)
goes_on me x Era n e = chosen (nat_lt (last_era x) n) _ _ tt (first_goes me n)
goes_on me x (Redo d) n e = (refl, refl)
goes_on me x (More d) n e = (refl, refl)
goes_on me x (Load d h) n e = header_goes me x d h n
goes_on me x (Row d h w) n e = chosen (nat_lt n (header_of w).era) _ _ (refl, refl) (refl, refl)
goes_on me x (Show d h w) n e = (refl, refl)
goes_on me x (Exchange d h w) n e = chosen (n == w) _ _ (committed_goes x d h w) (header_goes me x d h n)
goes_on me x (Slot d z) n e = (refl, refl)
goes_on me x (Close d h z) n e = closed_goes x d h z
goes_on me x Over n e = absurd (true≢false e)

-- it has made a step, and it is over once it has answered
after_next : (y : StepNext) → GoesOn y → (is_first (point_of y) ≡ false) × (is_over (point_of y) ≡ is_some (answer_of y))
after_next (Point y) h = (h.0, h.1)
after_next (Answer a) h = (refl, refl)

-- identity and line stay, and it is over once it has answered
pub step_steady : Steady step_control
step_steady m n going =
    let h = after_next (step_next m n) (goes_on m.me m.aim m.point n going) in
    record { same_me = refl; same_line = refl; started = h.0; ends = h.1 }

-- ---- inside

-- the own redo word
redo_inside : (me : Me) → GeometryFits me.geometry → me.who < me.geometry.clients → (0 < address me.geometry (place.Redo me.who)) × (address me.geometry (place.Redo me.who) < total_of me.geometry)
unfolding address
redo_inside me f l = (omega arith, address_below me.geometry (place.Redo me.who) (grind (arith, nat_tests)) f)

-- in format 2 its second word
more_inside : (me : Me) → GeometryFits me.geometry → me.who < me.geometry.clients → me.geometry.wide ≡ true → (0 < address me.geometry (place.RedoMore me.who)) × (address me.geometry (place.RedoMore me.who) < total_of me.geometry)
unfolding address
more_inside me f l w = (omega arith, address_below me.geometry (place.RedoMore me.who) (and_from _ _ w (lt-ltb me.who me.geometry.clients l)) f)

-- a word of the own row
era_inside : (me : Me) (j : ℕ) → GeometryFits me.geometry → me.who < me.geometry.clients → j < me.geometry.clients → (0 < address me.geometry (place.Era me.who j)) × (address me.geometry (place.Era me.who j) < total_of me.geometry)
unfolding address
era_inside me j f l k = (omega arith, address_below me.geometry (place.Era me.who j) (grind (arith, nat_tests)) f)

-- the own row's word for the client of a header
row_inside : (me : Me) (j : ℕ) → GeometryFits me.geometry → me.who < me.geometry.clients → j < me.geometry.clients → (0 < row_address me j) × (row_address me j < total_of me.geometry)
row_inside me j f l k =
    let e : nat_lt j me.geometry.clients ≡ true = grind (arith, nat_tests) in
    subst (λ (b : Bool). (0 < (if b then address me.geometry (place.Era me.who j) else 0)) × ((if b then address me.geometry (place.Era me.who j) else 0) < total_of me.geometry)) (sym e) (era_inside me j f l k)

-- the blocks of a step
block_inside : (me : Me) (x : Aim) (h : Half) → AimFits me x → (0 < block_at x h) × (block_at x h < total_of me.geometry)
block_inside me (Up b) h k = let l = k.0 in (omega arith, k.1)
block_inside me (Down b) h k = let l = k.0 in (omega arith, k.1)
block_inside me (Change a b) First k = let l = k.1.0 in (omega arith, k.1.1)
block_inside me (Change a b) Second k = let l = k.0.0 in (omega arith, k.0.1)

-- what is asked for at a point is a word of the pool
pub ask_inside : (me : Me) (slot : ℕ) (x : Aim) (p : Spot) (r0 r : Memo) (y : StepPoint) → GeometryFits me.geometry → me.who < me.geometry.clients → AimFits me x → (0 < slot) × (slot < total_of me.geometry)
    → PointHas me slot x p r0 r y → is_over y ≡ false → (0 < at_of (step_ask_at me slot x y)) × (at_of (step_ask_at me slot x y) < total_of me.geometry)
ask_inside me slot x p r0 r Era f l k s h e = era_inside me me.who f l l
ask_inside me slot x p r0 r (Redo d) f l k s h e = redo_inside me f l
ask_inside me slot x p r0 r (More d) f l k s h e = more_inside me f l h.3
ask_inside me slot x p r0 r (Load d u) f l k s h e = block_inside me x u k
ask_inside me slot x p r0 r (Row d u w) f l k s h e = row_inside me (header_of w).client f l h.1.client
ask_inside me slot x p r0 r (Show d u w) f l k s h e = row_inside me (header_of w).client f l h.1.client
ask_inside me slot x p r0 r (Exchange d u w) f l k s h e = block_inside me x u k
ask_inside me slot x p r0 r (Slot d z) f l k s h e = s
ask_inside me slot x p r0 r (Close d u z) f l k s h e = era_inside me me.who f l l
ask_inside me slot x p r0 r Over f l k s h e = absurd (true≢false e)

-- a step that fits asks for a word of the pool
pub step_inside : (p : Spot) → Inside step_control (StepFits p)
step_inside p m r0 r tr l fit going = (ask_inside m.me m.slot m.aim p r0 r m.point fit.knows.geometry l fit.can.blocks fit.can.inside fit.holds.has going).1

-- ---- back

-- what an answer says, it says of the identity, the slot and the aim alone
pub step_back : (p : Spot) → Back step_control (StepGives p)
step_back p m n going goes r0 r tr a g = record { can = g.can; grows = g.grows; status = g.status; gives = g.gives; trail = g.trail; events = g.events }
