-- the exchange of a count step is what decides its answer
use Rattle.std.proofs.Common.{◌≡◌, ℕ, Bool, true, false, refl, sym, subst}
use Rattle.std.specs.Prelude.{◌||◌, ◌==◌, nat_lt, if◌then◌else◌, is_ok, Some, None, Result, Ok, Err}
use Rattle.shm_words.specs.Headers.{header_of}
use Rattle.shm_graph.specs.declared.ask.Me.{Me}
use Rattle.plans.specs.{Deciding.Decides, Proved.Deciding.{decides_told, mapped_decides}}
use Rattle.shm_count.specs.declared.{answer.UpFault.{UpFault, TheVariants.{CountFull, EraSpent}}, point.Aim.Aim}
use Rattle.shm_count.specs.declared.point.{Aim.TheVariants.{Up, Down, Change}, StepNext.StepNext}
use Rattle.shm_count.specs.declared.point.{StepNext.TheVariants.{Point, Answer}, Half.Half}
use Rattle.shm_count.specs.declared.point.{Half.TheVariants.{First, Second}, StepPoint.StepPoint}
use Rattle.shm_count.specs.Step.Control.{answer_of, block_at, closed_next, committed_next, header_next, last_era, point_of, step_control, step_next, step_next_at, first_next}
use Rattle.shm_count.specs.Step.ExchangeMade.{exchanged_at, exchanging_at, is_second, step_exchanged, step_exchanging}
use Rattle.shm_count.specs.Step.Machines.{down_answer, down_control, up_answer, up_control}
use Rattle.shm_count.specs.declared.point.StepPoint.TheVariants as point

-- ---- the exchange is what decides

-- where it goes it shows the same, and so does what it answers
abbrev Shows : Aim → Bool → StepNext → Type 0
Shows x z (Point y) = exchanged_at x y ≡ z
Shows x z (Answer a) = is_ok a ≡ z

by_test : (x : Aim) (z : Bool) (t : Bool) (a b : StepNext) → Shows x z a → Shows x z b → Shows x z (if t then a else b)
by_test x z true a b h i = h
by_test x z false a b h i = i

-- by the client of a header, and by its count where it is to go up
by_client : (x : Aim) (z : Bool) (me : Me) (e : ℕ) (h : Half) (w : ℕ) → exchanged_at x (point.Exchange e h w) ≡ z → exchanged_at x (point.Row e h w) ≡ z → Shows x z (if (header_of w).client == me.who then Point (point.Exchange e h w) else Point (point.Row e h w))
by_client x z me e h w i j = by_test x z ((header_of w).client == me.who) (Point (point.Exchange e h w)) (Point (point.Row e h w)) i j

by_full : (x : Aim) (z : Bool) (me : Me) (e : ℕ) (h : Half) (w : ℕ) → false ≡ z → Shows x z (if (header_of w).client == me.who then Point (point.Exchange e h w) else Point (point.Row e h w))
    → Shows x z (if (header_of w).count == 1023 then Answer (Err (CountFull (block_at x h) (header_of w).count)) else if (header_of w).client == me.who then Point (point.Exchange e h w) else Point (point.Row e h w))
by_full x z me e h w i j = by_test x z ((header_of w).count == 1023) (Answer (Err (CountFull (block_at x h) (header_of w).count))) (if (header_of w).client == me.who then Point (point.Exchange e h w) else Point (point.Row e h w)) i j

-- by a header that was read
by_header : (me : Me) (x : Aim) (e : ℕ) (h : Half) (w : ℕ) → Shows x (is_second x h) (header_next me x e h w)
by_header me (Up b) e h w = by_full (Up b) false me e h w refl (by_client (Up b) false me e h w refl refl)
by_header me (Down b) e h w = by_client (Down b) false me e h w refl refl
by_header me (Change a b) e First w = by_full (Change a b) false me e First w refl (by_client (Change a b) false me e First w refl refl)
by_header me (Change a b) e Second w = by_client (Change a b) true me e Second w refl refl

by_closed : (x : Aim) (e : ℕ) (h : Half) (z : Bool) → Shows x true (closed_next x e h z)
by_closed (Up b) e h z = refl
by_closed (Down b) e h z = refl
by_closed (Change a b) e First z = refl
by_closed (Change a b) e Second z = refl

or_true : (z : Bool) → (z || true) ≡ true
or_true true = refl
or_true false = refl

or_none : (z : Bool) → (z || false) ≡ z
or_none true = refl
or_none false = refl

first_half : (x : Aim) → is_second x First ≡ false
first_half (Up b) = refl
first_half (Down b) = refl
first_half (Change a b) = refl

-- the exchange found its header, or another one
by_exchange : (me : Me) (x : Aim) (e : ℕ) (h : Half) (w n : ℕ) (t : Bool) → Shows x (is_second x h || t) (if t then committed_next x e h w else header_next me x e h n)
by_exchange me x e First w n true = sym (or_true (is_second x First))
by_exchange me x e Second w n true = sym (or_true (is_second x Second))
by_exchange me x e h w n false = subst (λ z. Shows x z (header_next me x e h n)) (sym (or_none (is_second x h))) (by_header me x e h n)

-- nor do those that begin it
by_first : (me : Me) (x : Aim) (n : ℕ) → Shows x false (first_next me n)
by_first me x n = go me.geometry.wide
  where
    go : (b : Bool) → Shows x false (Point (if b then point.More n else point.Redo n))
    go true = refl
    go false = refl

shows : (me : Me) (x : Aim) (y : StepPoint) (n : ℕ) → Shows x (exchanged_at x y || exchanging_at y n) (step_next_at me x y n)
shows me x point.Era n = by_test x false (nat_lt (last_era x) n) (Answer (Err (EraSpent n))) (first_next me n) refl (by_first me x n)
shows me x (point.More e) n = refl
shows me x (point.Redo e) n = first_half x
shows me x (point.Load e h) n = subst (λ z. Shows x z (header_next me x e h n)) (sym (or_none (is_second x h))) (by_header me x e h n)
shows me x (point.Row e h w) n = by_test x (is_second x h || false) (nat_lt n (header_of w).era) (Point (point.Show e h w)) (Point (point.Exchange e h w)) (sym (or_none (is_second x h))) (sym (or_none (is_second x h)))
shows me x (point.Show e h w) n = sym (or_none (is_second x h))
shows me x (point.Exchange e h w) n = by_exchange me x e h w n (n == w)
shows me x (point.Slot e z) n = refl
shows me x (point.Close e h z) n = by_closed x e h z
shows me x point.Over n = refl

shown_point : (x : Aim) (z : Bool) (o : StepNext) → Shows x z o → answer_of o ≡ None → exchanged_at x (point_of o) ≡ z
shown_point x z (Point y) h e = h
shown_point x z (Answer b) h e = cc

shown_answer : (x : Aim) (z : Bool) (o : StepNext) (a : Result Bool UpFault) → Shows x z o → answer_of o ≡ Some a → is_ok a ≡ z
shown_answer x z (Point y) a h e = cc
shown_answer x z (Answer b) a h e = let same : b ≡ a = cc in subst (λ (c : Result Bool UpFault). is_ok c ≡ z) same h

-- its exchange decides what it answers
pub step_decides : Decides step_control step_exchanged step_exchanging is_ok
step_decides =
    record {
      goes = λ m n e. shown_point m.aim (step_exchanged m || step_exchanging m n) (step_next m n) (shows m.me m.aim m.point n) e;
      ends = λ m n a e. shown_answer m.aim (step_exchanged m || step_exchanging m n) (step_next m n) a (shows m.me m.aim m.point n) e;
    }

up_tells : (a : Result Bool UpFault) → is_ok (up_answer a) ≡ is_ok a
up_tells (Ok z) = refl
up_tells (Err f) = refl

down_tells : (a : Result Bool UpFault) → is_ok (down_answer a) ≡ is_ok a
down_tells (Ok z) = refl
down_tells (Err f) = refl

pub up_decides : Decides up_control step_exchanged step_exchanging is_ok
up_decides = mapped_decides up_answer step_control step_exchanged step_exchanging is_ok (decides_told step_control step_exchanged step_exchanging is_ok (λ a. is_ok (up_answer a)) up_tells step_decides)

pub down_decides : Decides down_control step_exchanged step_exchanging is_ok
down_decides = mapped_decides down_answer step_control step_exchanged step_exchanging is_ok (decides_told step_control step_exchanged step_exchanging is_ok (λ a. is_ok (down_answer a)) down_tells step_decides)
