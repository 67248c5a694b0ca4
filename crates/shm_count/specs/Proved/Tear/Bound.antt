-- how many word steps a tear-down makes: each one is paid for, by what was due or left, by an exchange that failed, or by a step down that is being made
use Rattle.std.proofs.Common.{◌≡◌, ℕ, ◌+◌, ◌-◌, ◌*◌, ◌<◌, ◌≤◌, ap, arith, Bool, true, false, List, [], ◌∷◌, ◌++◌, length}
use Rattle.std.proofs.lemmas.List.{length-append}
use Rattle.std.specs.Prelude.{◌==◌, if◌then◌else◌, nat_lt, Result, Err}
use Rattle.shm_words.specs.{declared.tag.Tag.Tag as ATag, Headers.header_of}
use Rattle.shm_graph.specs.{declared.{ask.Me.Me, memo.Seen.Seen}, Asks.{Trail, pair, failed_by, failed, IsWithin}}
use Rattle.shm_graph.specs.{Events.Event, Bounds.{redo_steps, tear_steps}}
use Rattle.shm_graph.proofs.StepKinds.Loads.{choice}
use Rattle.shm_count.specs.declared.{answer.UpFault.UpFault, point.Half.{Half, TheVariants.{First, Second}}}
use Rattle.shm_count.specs.declared.{point.{StepPoint.StepPoint, StepNext.StepNext}, tear_point.TearPoint.TearPoint}
use Rattle.shm_count.specs.Step.Control.{step_ask_at, step_next_at, first_next, header_next, committed_next, last_era, is_over}
use Rattle.shm_count.specs.Tear.{Control.word_or_free, Events.{Visit, frees}, due_at, steps_before, done_at, IsPaid}
use Rattle.shm_count.specs.declared.answer.UpFault.TheVariants as fault
use Rattle.shm_count.specs.declared.point.Aim.TheVariants as aims
use Rattle.shm_count.specs.declared.point.StepPoint.TheVariants as step
use Rattle.shm_count.specs.declared.point.StepNext.TheVariants as next
use Rattle.shm_count.specs.declared.tear_point.TearPoint.TheVariants as point

-- ---- trails

-- a trail with one more pair is longer by one
pub length_more : (tr : Trail) (x : Seen) → length (tr ++ x ∷ []) ≡ length tr + 1
length_more tr x = length-append tr (x ∷ [])

-- and if that pair is an exchange that failed, there is one more of those
pub failed_more : (tr : Trail) (x : Seen) → failed (tr ++ x ∷ []) ≡ failed tr + failed_by x.ask x.word
failed_more [] x = omega arith
failed_more (s ∷ tr) x = let e = failed_more tr x in omega arith

-- ---- a step down

-- a redo record takes a word step at least
redo_some : (wide : Bool) → 1 ≤ redo_steps wide
redo_some false = omega arith
redo_some true = omega arith

-- how many steps of a step down come before what follows a step; before its answer all of them
abbrev before_next : Bool → StepNext → ℕ
before_next wide (next.Point y) = steps_before wide y
before_next wide (next.Answer a) = 7 + redo_steps wide

-- the header is loaded before what it leads to; a step down meets no full count
header_before : (me : Me) (wide : Bool) (t e : ℕ) (h : Half) (w : ℕ) → 2 + redo_steps wide ≤ before_next wide (header_next me (aims.Down t) e h w)
header_before me wide t e h w =
    choice (λ (y : StepNext). 2 + redo_steps wide ≤ before_next wide y) ((header_of w).client == me.who) (next.Point (step.Exchange e h w)) (next.Point (step.Row e h w))
    (λ z. omega arith)
    (λ z. omega arith)

-- a header that is found is exchanged before what follows
committed_before : (wide : Bool) (t e : ℕ) (h : Half) (w : ℕ) → 5 + redo_steps wide ≤ before_next wide (committed_next (aims.Down t) e h w)
committed_before wide t e First w = omega arith
committed_before wide t e Second w = omega arith

-- the store that begins it comes first
first_before : (me : Me) (n : ℕ) → 1 ≤ before_next me.geometry.wide (first_next me n)
first_before me n = go me.geometry.wide
  where
    go : (b : Bool) → 1 ≤ before_next b (next.Point (if b then step.More n else step.Redo n))
    go true = omega arith
    go false = omega arith

-- a step leads on; where its exchange failed, three steps are made again
steps_more : (me : Me) (slot t : ℕ) (y : StepPoint) (n : ℕ) → is_over y ≡ false → steps_before me.geometry.wide y + 1 ≤ before_next me.geometry.wide (step_next_at me (aims.Down t) y n) + 3 * failed_by (step_ask_at me slot (aims.Down t) y) n
steps_more me slot t step.Era n going =
    choice (λ (y : StepNext). 1 ≤ before_next me.geometry.wide y + 3 * 0) (nat_lt (last_era (aims.Down t)) n) (next.Answer (Err (fault.EraSpent n))) (first_next me n)
    (λ z. omega arith)
    (λ z. let l = first_before me n in omega arith)
steps_more me slot t (step.More e) n going = let s = redo_some me.geometry.wide in omega arith
steps_more me slot t (step.Redo e) n going = omega arith
steps_more me slot t (step.Load e h) n going = let l = header_before me me.geometry.wide t e h n in omega arith
steps_more me slot t (step.Row e h w) n going =
    choice (λ (y : StepNext). 2 + redo_steps me.geometry.wide + 1 ≤ before_next me.geometry.wide y + 3 * 0) (nat_lt n (header_of w).era) (next.Point (step.Show e h w)) (next.Point (step.Exchange e h w))
    (λ z. omega arith)
    (λ z. omega arith)
steps_more me slot t (step.Show e h w) n going = omega arith
steps_more me slot t (step.Exchange e h w) n going = go (n == w)
  where
    go : (z : Bool) → 4 + redo_steps me.geometry.wide + 1 ≤ before_next me.geometry.wide (if z then committed_next (aims.Down t) e h w else header_next me (aims.Down t) e h n) + 3 * (if z then 0 else 1)
    go true = let l = committed_before me.geometry.wide t e h w in omega arith
    go false = let l = header_before me me.geometry.wide t e h n in omega arith
steps_more me slot t (step.Slot e z) n going = omega arith
steps_more me slot t (step.Close e First z) n going = omega arith
steps_more me slot t (step.Close e Second z) n going = omega arith
steps_more me slot t step.Over n going = absurd (cc)

-- at most so many steps come before the one that answers
pub before_answer : (me : Me) (t : ℕ) (y : StepPoint) (n : ℕ) (a : Result Bool UpFault) → step_next_at me (aims.Down t) y n ≡ next.Answer a → steps_before me.geometry.wide y ≤ 6 + redo_steps me.geometry.wide
before_answer me t step.Era n a e = omega arith
before_answer me t (step.More c) n a e = omega arith
before_answer me t (step.Redo c) n a e = omega arith
before_answer me t (step.Load c h) n a e = omega arith
before_answer me t (step.Row c h w) n a e = omega arith
before_answer me t (step.Show c h w) n a e = omega arith
before_answer me t (step.Exchange c h w) n a e = omega arith
before_answer me t (step.Slot c z) n a e = omega arith
before_answer me t (step.Close c h z) n a e = omega arith
before_answer me t step.Over n a e = absurd (cc)

-- ---- where reference words are gone through

-- before a reference word only those come that are gone through again, and before the header nothing does
next_due : (k : ℕ) (g : ATag) (i : ℕ) → due_at k (word_or_free g i) ≤ k - i
next_due k g i =
    choice (λ (y : TearPoint). due_at k y ≤ k - i) (nat_lt i g.refs) (point.Word g i) (point.Free g)
    (λ z. omega arith)
    (λ z. omega arith)

-- ---- the way of the control

-- nothing was asked yet
pub paid_begin : (wide : Bool) (first : ℕ) → IsPaid wide (record { block = first; cleared = 0 } ∷ []) 0 point.Begin [] []
paid_begin false first = omega arith
paid_begin true first = omega arith

-- block b is worked on, inside of the blocks vs; the word step is x
module _ (b : ℕ) (vs : List Visit) (es : List Event) (tr : Trail) (x : Seen) where
  -- the tag of a block that is entered was loaded: its words are gone through, or its link is stored first
  pub paid_entered : (wide : Bool) (y : TearPoint) (g g2 : ATag) → IsPaid wide (record { block = b; cleared = 0 } ∷ vs) 0 y es tr → due_at 0 y ≡ 2 → done_at wide y ≡ 0
      → IsPaid wide (record { block = b; cleared = 0 } ∷ vs) 0 (word_or_free g 0) es (tr ++ x ∷ []) × IsPaid wide (record { block = b; cleared = 0 } ∷ vs) 0 (point.Link g2) es (tr ++ x ∷ [])
  paid_entered false y g g2 paid due done =
      let l = length_more tr x in
      let f = failed_more tr x in
      let d = next_due 0 g 0 in
      (omega arith, omega arith)
  paid_entered true y g g2 paid due done =
      let l = length_more tr x in
      let f = failed_more tr x in
      let d = next_due 0 g 0 in
      (omega arith, omega arith)

  -- the link was stored
  pub paid_linked : (wide : Bool) (g h : ATag) → IsPaid wide (record { block = b; cleared = 0 } ∷ vs) 0 (point.Link g) es tr → IsPaid wide (record { block = b; cleared = 0 } ∷ vs) 0 (word_or_free h 0) es (tr ++ x ∷ [])
  paid_linked false g h paid =
      let l = length_more tr x in
      let f = failed_more tr x in
      let d = next_due 0 h 0 in
      omega arith
  paid_linked true g h paid =
      let l = length_more tr x in
      let f = failed_more tr x in
      let d = next_due 0 h 0 in
      omega arith

  module _ (k : ℕ) where
    -- the tag of a block that is come back to was loaded: its words are gone through again
    pub paid_returned : (wide : Bool) (g : ATag) → IsPaid wide (record { block = b; cleared = k } ∷ vs) k point.Return es tr → IsPaid wide (record { block = b; cleared = k } ∷ vs) k (word_or_free g 0) es (tr ++ x ∷ [])
    paid_returned false g paid =
        let l = length_more tr x in
        let f = failed_more tr x in
        let d = next_due k g 0 in
        omega arith
    paid_returned true g paid =
        let l = length_more tr x in
        let f = failed_more tr x in
        let d = next_due k g 0 in
        omega arith

    -- a word that was done with before was loaded again
    pub paid_again : (wide : Bool) (g h : ATag) (i : ℕ) → i < k → IsPaid wide (record { block = b; cleared = k } ∷ vs) k (point.Word g i) es tr → IsPaid wide (record { block = b; cleared = k } ∷ vs) k (word_or_free h (i + 1)) es (tr ++ x ∷ [])
    paid_again false g h i below paid =
        let l = length_more tr x in
        let f = failed_more tr x in
        let d = next_due k h (i + 1) in
        omega arith
    paid_again true g h i below paid =
        let l = length_more tr x in
        let f = failed_more tr x in
        let d = next_due k h (i + 1) in
        omega arith

    -- the next word is empty, and is done with
    pub paid_empty : (wide : Bool) (g h : ATag) (i : ℕ) → i ≡ k → k < 16 → IsPaid wide (record { block = b; cleared = k } ∷ vs) k (point.Word g i) es tr → IsPaid wide (record { block = b; cleared = k + 1 } ∷ vs) (k + 1) (word_or_free h (i + 1)) es (tr ++ x ∷ [])
    paid_empty false g h i same room paid =
        let l = length_more tr x in
        let f = failed_more tr x in
        let d = next_due (k + 1) h (i + 1) in
        omega arith
    paid_empty true g h i same room paid =
        let l = length_more tr x in
        let f = failed_more tr x in
        let d = next_due (k + 1) h (i + 1) in
        omega arith

    -- the next word names a block, and a step down begins
    pub paid_found : (wide : Bool) (g h : ATag) (i t : ℕ) → IsPaid wide (record { block = b; cleared = k } ∷ vs) k (point.Word g i) es tr → IsPaid wide (record { block = b; cleared = k } ∷ vs) k (point.Down h i t step.Era) es (tr ++ x ∷ [])
    paid_found false g h i t paid =
        let l = length_more tr x in
        let f = failed_more tr x in
        omega arith
    paid_found true g h i t paid =
        let l = length_more tr x in
        let f = failed_more tr x in
        omega arith

    -- the step down is done, and its block keeps other references: the word is done with
    pub paid_kept : (wide : Bool) (g h : ATag) (i t : ℕ) (y : StepPoint) (es2 : List Event) → k < 16 → IsPaid wide (record { block = b; cleared = k } ∷ vs) k (point.Down g i t y) es tr → i ≡ k → steps_before wide y ≤ 6 + redo_steps wide → frees es2 ≡ frees es
        → IsPaid wide (record { block = b; cleared = k + 1 } ∷ vs) (k + 1) (word_or_free h (i + 1)) es2 (tr ++ x ∷ [])
    paid_kept false g h i t y es2 room paid same leads free =
        let l = length_more tr x in
        let f = failed_more tr x in
        let d = next_due (k + 1) h (i + 1) in
        let s = leads in
        omega arith
    paid_kept true g h i t y es2 room paid same leads free =
        let l = length_more tr x in
        let f = failed_more tr x in
        let d = next_due (k + 1) h (i + 1) in
        let s = leads in
        omega arith

    -- the step down is done, and its block t is a zero-count block: t is entered
    pub paid_fell : (wide : Bool) (g : ATag) (i t : ℕ) (y : StepPoint) (es2 : List Event) → k < 16 → IsPaid wide (record { block = b; cleared = k } ∷ vs) k (point.Down g i t y) es tr → steps_before wide y ≤ 6 + redo_steps wide → frees es2 ≡ frees es
        → IsPaid wide (record { block = t; cleared = 0 } ∷ record { block = b; cleared = k + 1 } ∷ vs) 0 (point.Enter b) es2 (tr ++ x ∷ [])
    paid_fell false g i t y es2 room paid leads free =
        let l = length_more tr x in
        let f = failed_more tr x in
        let s = leads in
        omega arith
    paid_fell true g i t y es2 room paid leads free =
        let l = length_more tr x in
        let f = failed_more tr x in
        let s = leads in
        omega arith

    -- the step down is refused, and the tear-down with it
    pub paid_refused : (wide : Bool) (g : ATag) (i t : ℕ) (y : StepPoint) (es2 : List Event) → IsPaid wide (record { block = b; cleared = k } ∷ vs) k (point.Down g i t y) es tr → steps_before wide y ≤ 6 + redo_steps wide → frees es2 ≡ frees es
        → IsWithin (tear_steps wide (frees es2 + length (record { block = b; cleared = k } ∷ vs))) (tr ++ x ∷ [])
    paid_refused false g i t y es2 paid leads free =
        let l = length_more tr x in
        let f = failed_more tr x in
        let s = leads in
        omega arith
    paid_refused true g i t y es2 paid leads free =
        let l = length_more tr x in
        let f = failed_more tr x in
        let s = leads in
        omega arith

    -- a block is freed, and the block d that named it is come back to
    pub paid_freed : (wide : Bool) (d j : ℕ) (g : ATag) (es2 : List Event) → IsPaid wide (record { block = b; cleared = k } ∷ record { block = d; cleared = j } ∷ vs) k (point.Free g) es tr → frees es2 ≡ frees es + 1 → j ≤ 16
        → IsPaid wide (record { block = d; cleared = j } ∷ vs) j point.Return es2 (tr ++ x ∷ [])
    paid_freed false d j g es2 paid free most =
        let l = length_more tr x in
        let f = failed_more tr x in
        omega arith
    paid_freed true d j g es2 paid free most =
        let l = length_more tr x in
        let f = failed_more tr x in
        omega arith

-- the last block is freed
pub paid_done : (wide : Bool) (b k : ℕ) (es es2 : List Event) (tr : Trail) (x : Seen) (g : ATag) → IsPaid wide (record { block = b; cleared = k } ∷ []) k (point.Free g) es tr → frees es2 ≡ frees es + 1
    → IsWithin (tear_steps wide (frees es2)) (tr ++ x ∷ [])
paid_done false b k es es2 tr x g paid free =
    let l = length_more tr x in
    let f = failed_more tr x in
    omega arith
paid_done true b k es es2 tr x g paid free =
    let l = length_more tr x in
    let f = failed_more tr x in
    omega arith

-- a step down goes on
pub paid_down : (b : ℕ) (vs : List Visit) (es : List Event) (tr : Trail) (k : ℕ) (me : Me) (slot : ℕ) (g : ATag) (i t : ℕ) (y y2 : StepPoint) (n : ℕ) → is_over y ≡ false → IsPaid me.geometry.wide (record { block = b; cleared = k } ∷ vs) k (point.Down g i t y) es tr → step_next_at me (aims.Down t) y n ≡ next.Point y2
    → IsPaid me.geometry.wide (record { block = b; cleared = k } ∷ vs) k (point.Down g i t y2) es (tr ++ pair (step_ask_at me slot (aims.Down t) y) n ∷ [])
paid_down b vs es tr k me slot g i t y y2 n going paid leads = go me.geometry.wide paid (steps_more me slot t y n going) (ap (before_next me.geometry.wide) leads)
  where
    x : Seen
    x = pair (step_ask_at me slot (aims.Down t) y) n

    go : (z : Bool) → IsPaid z (record { block = b; cleared = k } ∷ vs) k (point.Down g i t y) es tr → steps_before z y + 1 ≤ before_next z (step_next_at me (aims.Down t) y n) + 3 * failed_by (step_ask_at me slot (aims.Down t) y) n
        → before_next z (step_next_at me (aims.Down t) y n) ≡ steps_before z y2 → IsPaid z (record { block = b; cleared = k } ∷ vs) k (point.Down g i t y2) es (tr ++ x ∷ [])
    go false p m s = let l = length_more tr x in let f = failed_more tr x in omega arith
    go true p m s = let l = length_more tr x in let f = failed_more tr x in omega arith
