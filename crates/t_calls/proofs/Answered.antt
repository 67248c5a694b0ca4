-- what is known after the answer of a call
use Rattle.std.proofs.Common.{◌≡◌, ◌≢◌, ℕ, Bool, true, false, Option, None, Some, Result, Ok, Err, List, refl, sym, ap, ◌∙◌}
use Rattle.std.proofs.lemmas.Bool.{true≢false}
use Rattle.std.specs.{Prelude.{IfSome, IfOk, IfErr, slice_index}, List.Contains, Option.is_some}
use Rattle.shm_graph.specs.{declared.memo.Memo.Memo, Agents.recovers, Core.core, Held.is_loose, Reach.is_reached}
use Rattle.shm_plain.specs.{Calls.{IsAtWork, Ran}, Pools.{Pool, memo_of}}
use Rattle.shm_plain.proofs.Calling.{still_kind}
use Rattle.shm_count.specs.{declared.answer.{EraSpent.EraSpent, Made.Made}, Waiting.{LeavesQueues, LeavesWaiting}}
use Rattle.shm_count.proofs.Waiting.{core_waits}
use Rattle.shm_words.specs.declared.geometry.Geometry.{Geometry}
use Rattle.shm_alloc.specs.{declared.{alloc.AllocFault.AllocFault, point.AllocState.AllocState}, Alloc.AllocGives}
use Rattle.shm_queue.specs.{declared.answer.PeekFault.PeekFault, Keeping.IsLeft}
use Rattle.shm_queue.specs.declared.answer.PeekFault.TheVariants as peek
use Rattle.shm_ref.specs.{declared.answer.{Busy.Busy, NotHeld.NotHeld}, OnlyRead.OnlyRead}
use Rattle.shm_client.specs.{Allocating.IsAsked, Running.IsOpen}
use Rattle.shm_client.proofs.{Running.Said, Opens.open_queues}
use Rattle.t_calls.specs.declared.standing.Known.{Known}
use Rattle.t_calls.specs.Known.{After, IsKnown, bare, dying, found, held, kept, received, released, seeing, settled, told, unsettled}
use Rattle.t_calls.proofs.Knowing.{after_ran, known_bare, known_dying, known_free, known_held, known_kept, known_unsettled, known_found}

waiting : (m r : Memo) → LeavesQueues m r → r.dying ≡ m.dying → LeavesWaiting m r
waiting m r left dying = record { dying = dying; unsent = left.unsent; untaken = left.untaken }

-- ---- runs

-- a latch is held
pub some_held : (o : Option ℕ) → is_some o ≡ true → (a : ℕ) × (o ≡ Some a)
some_held None e = absurd (true≢false (sym e))
some_held (Some a) e = (a, refl)

module _ (k : Known) (c : ℕ) (p q : Pool) (x y : ℕ) (r : Option Known) (h : IsKnown k c p) where
  abbrev m0 : Memo
  m0 = memo_of p c

  abbrev n0 : Memo
  n0 = memo_of q c

  kind : Ran c true true p q x y → recovers n0 ≡ recovers m0
  kind ran = still_kind c true p q x y h.work.acts ran

  -- neither the latch nor what waits has changed
  pub keeps : {A : Type 0} (L : A → Type 0) (o : Option A) → Said L c p q x y o → r ≡ told o (kept k) → ((a : A) → L a → LeavesQueues m0 n0) → ((a : A) → L a → n0.dying ≡ m0.dying) → After c p q r
  keeps L None said e left dying = after_ran c p q true false x y r said.ran (rw e tt)
  keeps L (Some a) said e left dying =
      let queues = left a said.left in
      after_ran c p q true true x y r said.ran (rw e (known_kept k c p q h (said.work tt) (kind said.ran) queues.loose queues.latch (waiting m0 n0 queues (dying a said.left))))

  -- nor has it where the call was done
  pub settles : {T E : Type 0} (L : Result T E → Type 0) (o : Option (Result T E)) → Said L c p q x y o → r ≡ settled o k → ((a : Result T E) → L a → LeavesQueues m0 n0) → ((a : Result T E) → L a → IfOk a (λ t. n0.dying ≡ m0.dying)) → After c p q r
  settles L None said e left dying = after_ran c p q true false x y r said.ran (rw e tt)
  settles L (Some (Ok t)) said e left dying =
      let queues = left (Ok t) said.left in
      after_ran c p q true true x y r said.ran (rw e (known_kept k c p q h (said.work tt) (kind said.ran) queues.loose queues.latch (waiting m0 n0 queues (dying (Ok t) said.left))))
  settles L (Some (Err f)) said e left dying =
      let queues = left (Err f) said.left in
      after_ran c p q true true x y r said.ran (rw e (known_unsettled k c p q h (said.work tt) (kind said.ran) queues.loose queues.latch))

  -- an item was received, or there was none
  pub receives : (L : Result Made PeekFault → Type 0) (o : Option (Result Made PeekFault)) → Said L c p q x y o → r ≡ received o k → ((a : Result Made PeekFault) → L a → LeavesQueues m0 n0) → ((a : Result Made PeekFault) → L a → IfOk a (λ t. n0.dying ≡ m0.dying)) → ((z : ℕ) → L (Err (peek.Empty z)) → core n0 ≡ core m0) → After c p q r
  receives L None said e left dying empty = after_ran c p q true false x y r said.ran (rw e tt)
  receives L (Some (Ok t)) said e left dying empty =
      let queues = left (Ok t) said.left in
      after_ran c p q true true x y r said.ran (rw e (known_kept k c p q h (said.work tt) (kind said.ran) queues.loose queues.latch (waiting m0 n0 queues (dying (Ok t) said.left))))
  receives L (Some (Err (peek.Empty z))) said e left dying empty =
      let queues = left (Err (peek.Empty z)) said.left in
      after_ran c p q true true x y r said.ran (rw e (known_kept k c p q h (said.work tt) (kind said.ran) queues.loose queues.latch (core_waits m0 n0 (empty z said.left))))
  receives L (Some (Err (peek.EraSpent z))) said e left dying empty =
      let queues = left (Err (peek.EraSpent z)) said.left in
      after_ran c p q true true x y r said.ran (rw e (known_unsettled k c p q h (said.work tt) (kind said.ran) queues.loose queues.latch))
  receives L (Some (Err peek.RootsFull)) said e left dying empty =
      let queues = left (Err peek.RootsFull) said.left in
      after_ran c p q true true x y r said.ran (rw e (known_unsettled k c p q h (said.work tt) (kind said.ran) queues.loose queues.latch))
  receives L (Some (Err (peek.CountFull b z))) said e left dying empty =
      let queues = left (Err (peek.CountFull b z)) said.left in
      after_ran c p q true true x y r said.ran (rw e (known_unsettled k c p q h (said.work tt) (kind said.ran) queues.loose queues.latch))

  -- a latch was asked for
  pub holds : (L : Result (Unit {0}) Busy → Type 0) (b : ℕ) (o : Option (Result (Unit {0}) Busy)) → Said L c p q x y o → r ≡ held o k → m0.latch ≡ None → ((a : Result (Unit {0}) Busy) → L a → is_loose n0.part ≡ is_loose m0.part) → ((a : Result (Unit {0}) Busy) → L a → LeavesWaiting m0 n0) → ((a : Result (Unit {0}) Busy) → L a → IfOk a (λ u. n0.latch ≡ Some b)) → ((a : Result (Unit {0}) Busy) → L a → IfErr a (λ f. n0.latch ≡ None)) → After c p q r
  holds L b None said e free loose left now none = after_ran c p q true false x y r said.ran (rw e tt)
  holds L b (Some (Ok u)) said e free loose left now none = after_ran c p q true true x y r said.ran (rw e (known_held k c p q h (said.work tt) (kind said.ran) (loose (Ok u) said.left) b (now (Ok u) said.left) (left (Ok u) said.left)))
  holds L b (Some (Err f)) said e free loose left now none = after_ran c p q true true x y r said.ran (rw e (known_kept k c p q h (said.work tt) (kind said.ran) (loose (Err f) said.left) (none (Err f) said.left ∙ sym free) (left (Err f) said.left)))

  pub releases : (L : Unit {0} → Type 0) (o : Option (Unit {0})) → Said L c p q x y o → r ≡ told o (released k) → ((u : Unit {0}) → L u → is_loose n0.part ≡ is_loose m0.part) → ((u : Unit {0}) → L u → LeavesWaiting m0 n0) → ((u : Unit {0}) → L u → n0.latch ≡ None) → After c p q r
  releases L None said e loose left none = after_ran c p q true false x y r said.ran (rw e tt)
  releases L (Some u) said e loose left none = after_ran c p q true true x y r said.ran (rw e (known_free k c p q h (said.work tt) (kind said.ran) (loose u said.left) (none u said.left) (left u said.left)))

  -- the home was set, or wasn't
  pub unsettles : {A : Type 0} (L : A → Type 0) (o : Option A) → Said L c p q x y o → r ≡ told o (unsettled k) → ((a : A) → L a → is_loose n0.part ≡ is_loose m0.part) → ((a : A) → L a → n0.latch ≡ m0.latch) → After c p q r
  unsettles L None said e loose latch = after_ran c p q true false x y r said.ran (rw e tt)
  unsettles L (Some a) said e loose latch = after_ran c p q true true x y r said.ran (rw e (known_unsettled k c p q h (said.work tt) (kind said.ran) (loose a said.left) (latch a said.left)))

  -- something was read
  pub sees : {A : Type 0} (L : A → Type 0) (o : Option A) → Said L c p q x y o → r ≡ told o (seeing k) → ((a : A) → L a → is_loose n0.part ≡ is_loose m0.part) → ((a : A) → L a → OnlyRead m0 n0) → ((a : A) → L a → (b : ℕ) → is_reached c m0 b ≡ true → is_reached c n0 b ≡ true) → After c p q r
  sees L None said e loose reads stays = after_ran c p q true false x y r said.ran (rw e tt)
  sees L (Some a) said e loose reads stays = after_ran c p q true true x y r said.ran (rw e (known_found k c p q h (said.work tt) (kind said.ran) (loose a said.left) (reads a said.left).latch k.found (λ some. stays a said.left k.found (h.found some))))

  pub finds : (L : Result ℕ NotHeld → Type 0) (o : Option (Result ℕ NotHeld)) → Said L c p q x y o → r ≡ found o k → ((a : Result ℕ NotHeld) → L a → is_loose n0.part ≡ is_loose m0.part) → ((a : Result ℕ NotHeld) → L a → OnlyRead m0 n0) → ((a : Result ℕ NotHeld) → L a → IfOk a (λ b. b ≢ 0 → is_reached c n0 b ≡ true)) → After c p q r
  finds L None said e loose reads reached = after_ran c p q true false x y r said.ran (rw e tt)
  finds L (Some (Ok b)) said e loose reads reached = after_ran c p q true true x y r said.ran (rw e (known_found k c p q h (said.work tt) (kind said.ran) (loose (Ok b) said.left) (reads (Ok b) said.left).latch b (reached (Ok b) said.left)))
  finds L (Some (Err f)) said e loose reads reached = after_ran c p q true true x y r said.ran (rw e (known_unsettled k c p q h (said.work tt) (kind said.ran) (loose (Err f) said.left) (reads (Err f) said.left).latch))

  -- the first item was looked at
  pub peeks : {A : Type 0} (L : A → Type 0) (o : Option A) → Said L c p q x y o → r ≡ told o (kept k) → ((a : A) → L a → LeavesQueues m0 n0) → ((a : A) → L a → IsLeft m0 n0) → After c p q r
  peeks L o said e left stays = keeps L o said e left (λ a z. (stays a z).1)

  -- a root was told
  pub tells : {A : Type 0} (L : A → Type 0) (o : Option A) → Said L c p q x y o → r ≡ told o (kept k) → ((a : A) → L a → core n0 ≡ core m0) → After c p q r
  tells L None said e same = after_ran c p q true false x y r said.ran (rw e tt)
  tells L (Some a) said e same =
      let is = same a said.left in
      after_ran c p q true true x y r said.ran (rw e (known_kept k c p q h (said.work tt) (kind said.ran) (ap (λ (z : Memo). is_loose z.part) is) (ap (λ (z : Memo). z.latch) is) (core_waits m0 n0 is)))

  -- no more is known than that it is between two calls
  pub bares : {A : Type 0} (L : A → Type 0) (o : Option A) → Said L c p q x y o → r ≡ told o bare → ((a : A) → L a → LeavesQueues m0 n0) → After c p q r
  bares L None said e left = after_ran c p q true false x y r said.ran (rw e tt)
  bares L (Some a) said e left = after_ran c p q true true x y r said.ran (rw e (known_bare k c p q h (said.work tt) (kind said.ran) (left a said.left).loose))

  -- a count was lowered
  pub lowers : {E : Type 0} (L : Result Bool E → Type 0) (b : ℕ) (o : Option (Result Bool E)) → Said L c p q x y o → r ≡ dying o b → ((a : Result Bool E) → L a → LeavesQueues m0 n0) → ((a : Result Bool E) → L a → IfOk a (λ z. z ≡ true → Contains n0.dying b)) → After c p q r
  lowers L b None said e left dead = after_ran c p q true false x y r said.ran (rw e tt)
  lowers L b (Some (Ok true)) said e left dead = after_ran c p q true true x y r said.ran (rw e (known_dying k c p q h (said.work tt) (kind said.ran) (left (Ok true) said.left).loose b (dead (Ok true) said.left refl)))
  lowers L b (Some (Ok false)) said e left dead = after_ran c p q true true x y r said.ran (rw e (known_bare k c p q h (said.work tt) (kind said.ran) (left (Ok false) said.left).loose))
  lowers L b (Some (Err f)) said e left dead = after_ran c p q true true x y r said.ran (rw e (known_bare k c p q h (said.work tt) (kind said.ran) (left (Err f) said.left).loose))

-- in a pool for tables a drain that is done leaves it so that each command may follow
pub drains : (c : ℕ) (p q : Pool) (x y : ℕ) (L : Result ℕ EraSpent → Type 0) (o : Option (Result ℕ EraSpent)) → IsOpen c p → Said L c p q x y o → ((a : Result ℕ EraSpent) → L a → LeavesQueues (memo_of p c) (memo_of q c)) → ((a : Result ℕ EraSpent) → L a → IfOk a (λ n. (memo_of q c).dying ≡ (memo_of p c).dying)) → IfSome o (λ a. IfOk a (λ n. IsOpen c q))
drains c p q x y L None h said left dying = tt
drains c p q x y L (Some (Ok n)) h said left dying = open_queues c p q h (said.work tt) (still_kind c true p q x y h.work.acts said.ran) (left (Ok n) said.left) (dying (Ok n) said.left)
drains c p q x y L (Some (Err e)) h said left dying = tt

-- ---- other calls

module _ (k : Known) (c : ℕ) (p q : Pool) (r : Option Known) (h : IsKnown k c p) where
  abbrev m : Memo
  m = memo_of p c

  abbrev n : Memo
  n = memo_of q c

  -- a block was made, or not
  pub makes : (s : Geometry) (refs : ℕ) (xs : List ℕ) (o : Option (Result Made AllocFault)) → r ≡ told o (kept k) → IfSome o (λ a. IsAtWork c q) → IfSome o (λ a. recovers n ≡ recovers m) → IfSome o (λ a. (z : AllocState) × IsAsked s c refs xs z × AllocGives z m n n.call a) → IfSome r (λ x. IsKnown x c q)
  makes s refs xs None e work kind gives = rw e tt
  makes s refs xs (Some a) e work kind gives =
      let stays = gives.2.holds.stays in
      rw e (known_kept k c p q h work kind (ap is_loose stays.part) stays.latch (record { dying = stays.dying; unsent = λ j. ap (λ y. slice_index y j) stays.unsent; untaken = λ j. ap (λ y. slice_index y j) stays.untaken }))
