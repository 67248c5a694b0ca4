-- how many word steps a count step makes at most
use Rattle.std.proofs.Common.{ℕ, zero, suc, ◌+◌, ◌*◌, ◌≤◌, sym, subst, arith, Bool, true, false}
use Rattle.std.specs.Prelude.{◌==◌, ◌&&◌, not, nat_lt, if◌then◌else◌, Result, Ok, Err}
use Rattle.shm_graph.specs.{Bounds.redo_steps, declared.ask.{Ask.{Ask, TheVariants.{Load, Store, Exchange}}, Me.Me}}
use Rattle.shm_graph.specs.{Asks.{Trail, IsWithin, failed_by}, Trails.{Answers, Asked, Chosen}}
use Rattle.shm_words.specs.{Layout.address, Headers.{header_of, header_word}, Redos.{first_word, second_word}}
use Rattle.shm_words.specs.declared.place.Place.TheVariants as place
use Rattle.shm_count.specs.declared.{answer.UpFault.{UpFault, TheVariants.{EraSpent, CountFull}}, point.Aim.Aim}
use Rattle.shm_count.specs.declared.point.{Aim.TheVariants.{Up, Down, Change}, Half.TheVariants.First}
use Rattle.shm_count.specs.Step.Control.{last_era, block_at, raises, value_after, redo_at, count_after, row_address}
use Rattle.shm_count.specs.Step.Asks.{StepTrails, exchange_trail, show_trail, row_trail, header_trail, set_trail, load_trail, end_trail, close_trail, slot_trail, redo_trail, step_trail, steps_of, first_trail, more_trail}

-- each of the trails has at most n pairs, and three more for each exchange that failed
abbrev Within : StepTrails → ℕ → Type 0
Within f n = (tr : Trail) (a : Result Bool UpFault) → f tr a → IsWithin n tr

-- a greater number will do
within_more : (f : StepTrails) (n m : ℕ) → n ≤ m → Within f n → Within f m
within_more f n m l s tr a t = let below = s tr a t in omega arith

-- nothing is asked any more
within_answers : (b : Result Bool UpFault) → Within (Answers b) 0
within_answers b tr a t = subst (λ (x : Trail). IsWithin 0 x) (sym t.0) (omega arith)

-- one pair more; what follows may have three more where it is an exchange that fails
within_asked : (k : Ask) (next : ℕ → StepTrails) (n : ℕ) → ((x : ℕ) → Within (next x) (n + 3 * failed_by k x)) → Within (Asked k next) (n + 1)
within_asked k next n s tr a t = let below = s t.0 t.1.0 a t.1.1.1 in subst (λ (x : Trail). IsWithin (n + 1) x) (sym t.1.1.0) (omega arith)

-- a load
within_load : (at : ℕ) (next : ℕ → StepTrails) (n : ℕ) → ((x : ℕ) → Within (next x) n) → Within (Asked (Load at) next) (n + 1)
within_load at next n s = within_asked (Load at) next n (λ x. within_more (next x) n (n + 3 * 0) (omega arith) (s x))

-- a store
within_store : (at v : ℕ) (next : StepTrails) (n : ℕ) → Within next n → Within (Asked (Store at v) (λ _. next)) (n + 1)
within_store at v next n s = within_asked (Store at v) (λ _. next) n (λ _. within_more next n (n + 3 * 0) (omega arith) s)

-- the choice between two kinds of trails
within_chosen : (b : Bool) (f g : StepTrails) (n : ℕ) → Within f n → Within g n → Within (Chosen b f g) n
within_chosen true f g n one other = one
within_chosen false f g n one other = other

-- an exchange; where it fails there may be three pairs more
within_exchange : (at from to : ℕ) (f : StepTrails) (g : ℕ → StepTrails) (n : ℕ) → Within f n → ((x : ℕ) → Within (g x) (n + 3)) → Within (Asked (Exchange at from to) (λ x. Chosen (x == from) f (g x))) (n + 1)
within_exchange at from to f g n one other = within_asked (Exchange at from to) (λ x. Chosen (x == from) f (g x)) n (λ x. go x (x == from))
  where
    go : (x : ℕ) (b : Bool) → Within (Chosen b f (g x)) (n + 3 * (if b then 0 else 1))
    go x true = within_more f n (n + 3 * 0) (omega arith) one
    go x false = other x

module _ (me : Me) where
  -- ---- the exchange of a header, where m pairs at most follow it

  module _ (up : Bool) (b e : ℕ) (rest : Bool → StepTrails) (m : ℕ) (after : (z : Bool) → Within (rest z) m) where
    -- the exchange
    exchange_within : (w : ℕ) (again : ℕ → StepTrails) → ((x : ℕ) → Within (again x) (m + 3)) → Within (exchange_trail me up b e w again rest) (m + 1)
    exchange_within w again s =
        within_exchange b w (header_word (record { live = true; client = me.who; count = count_after up (header_of w).count; era = e })) (rest (not up && ((header_of w).count == 1))) again m
        (after (not up && ((header_of w).count == 1))) s

    -- the row is stored first
    show_within : (w : ℕ) (again : ℕ → StepTrails) → ((x : ℕ) → Within (again x) (m + 3)) → Within (show_trail me up b e w again rest) (m + 2)
    show_within w again s =
        within_more (show_trail me up b e w again rest) (m + 1 + 1) (m + 2) (omega arith)
        (within_store (row_address me (header_of w).client) (header_of w).era (exchange_trail me up b e w again rest) (m + 1) (exchange_within w again s))

    -- the row is loaded first
    row_within : (w : ℕ) (again : ℕ → StepTrails) → ((x : ℕ) → Within (again x) (m + 3)) → Within (row_trail me up b e w again rest) (m + 3)
    row_within w again s =
        within_more (row_trail me up b e w again rest) (m + 2 + 1) (m + 3) (omega arith)
        (within_load (row_address me (header_of w).client) (λ x. Chosen (nat_lt x (header_of w).era) (show_trail me up b e w again rest) (exchange_trail me up b e w again rest)) (m + 2)
        (λ x. within_chosen (nat_lt x (header_of w).era) (show_trail me up b e w again rest) (exchange_trail me up b e w again rest) (m + 2) (show_within w again s)
        (within_more (exchange_trail me up b e w again rest) (m + 1) (m + 2) (omega arith) (exchange_within w again s))))

    -- by a header that was read
    header_within : (w : ℕ) (again : ℕ → StepTrails) → ((x : ℕ) → Within (again x) (m + 3)) → Within (header_trail me up b e w again rest) (m + 3)
    header_within w again s =
        let full : Result Bool UpFault = Err (CountFull b (header_of w).count) in
        let exchange : StepTrails = exchange_trail me up b e w again rest in
        let row : StepTrails = row_trail me up b e w again rest in
        within_chosen (up && ((header_of w).count == 1023)) (Answers full) (Chosen ((header_of w).client == me.who) exchange row) (m + 3)
        (within_more (Answers full) 0 (m + 3) (omega arith) (within_answers full))
        (within_chosen ((header_of w).client == me.who) exchange row (m + 3) (within_more exchange (m + 1) (m + 3) (omega arith) (exchange_within w again s)) (row_within w again s))

    -- with at most n further tries
    set_within : (n w : ℕ) → Within (set_trail me n up b e rest w) (m + 3)
    set_within zero w = header_within w (λ x tr a. ⊥) (λ x tr a t. absurd t)
    set_within (suc n) w = header_within w (set_trail me n up b e rest) (λ x. set_within n x)

    -- the header is loaded first, and there are so many tries as it takes
    load_within : Within (load_trail me up b e rest) (m + 4)
    load_within =
        within_more (load_trail me up b e rest) (m + 3 + 1) (m + 4) (omega arith)
        (within_load b (λ w tr a. (n : ℕ) × set_trail me n up b e rest w tr a) (m + 3) (λ w tr a t. set_within t.0 w tr a t.1))

  -- ---- the whole

  -- the last own era
  end_within : (e : ℕ) (z : Bool) → Within (end_trail me e z) 1
  end_within e z = within_store (address me.geometry (place.Era me.who me.who)) (e + 1) (Answers (Ok z)) 0 (within_answers (Ok z))

  -- how many pairs follow the store of the slot
  abbrev close_steps : Aim → ℕ
  close_steps (Change a b) = 6
  close_steps x = 1

  -- the own era after the slot, and for a change its second half
  close_within : (x : Aim) (e : ℕ) (z : Bool) → Within (close_trail me x e z) (close_steps x)
  close_within (Up b) e z = end_within e z
  close_within (Down b) e z = end_within e z
  close_within (Change a b) e z =
      within_store (address me.geometry (place.Era me.who me.who)) (e + 1) (load_trail me false a (e + 1) (end_trail me (e + 1))) 5
      (load_within false a (e + 1) (end_trail me (e + 1)) 1 (λ y. end_within (e + 1) y))

  -- the slot is stored first
  slot_within : (slot : ℕ) (x : Aim) (e : ℕ) (z : Bool) → Within (slot_trail me slot x e z) (close_steps x + 1)
  slot_within slot x e z = within_store slot (value_after x) (close_trail me x e z) (close_steps x) (close_within x e z)

  -- the redo record and the first half come before it
  redo_within : (slot : ℕ) (x : Aim) (e : ℕ) → Within (redo_trail me slot x e) (close_steps x + 6)
  redo_within slot x e =
      within_more (redo_trail me slot x e) (close_steps x + 1 + 4 + 1) (close_steps x + 6) (omega arith)
      (within_store (address me.geometry (place.Redo me.who)) (first_word me.geometry.wide (redo_at x slot e)) (load_trail me (raises x First) (block_at x First) e (slot_trail me slot x e)) (close_steps x + 1 + 4)
      (load_within (raises x First) (block_at x First) e (slot_trail me slot x e) (close_steps x + 1) (λ z. slot_within slot x e z)))

  -- in format 2 its second word comes before that
  first_within : (slot : ℕ) (x : Aim) (e : ℕ) → Within (first_trail me slot x e) (close_steps x + 5 + redo_steps me.geometry.wide)
  first_within slot x e = go me.geometry.wide
    where
      go : (b : Bool) → Within (Chosen b (more_trail me slot x e) (redo_trail me slot x e)) (close_steps x + 5 + redo_steps b)
      go true =
          within_more (more_trail me slot x e) (close_steps x + 6 + 1) (close_steps x + 5 + redo_steps true) (omega arith)
          (within_store (address me.geometry (place.RedoMore me.who)) (second_word me.geometry.wide (redo_at x slot e)) (redo_trail me slot x e) (close_steps x + 6) (redo_within slot x e))
      go false = within_more (redo_trail me slot x e) (close_steps x + 6) (close_steps x + 5 + redo_steps false) (omega arith) (redo_within slot x e)

  -- a whole trail
  all_within : (slot : ℕ) (x : Aim) → Within (step_trail me slot x) (close_steps x + 6 + redo_steps me.geometry.wide)
  all_within slot x =
      let n : ℕ = close_steps x + 5 + redo_steps me.geometry.wide in
      within_more (step_trail me slot x) (n + 1) (close_steps x + 6 + redo_steps me.geometry.wide) (omega arith)
      (within_load (address me.geometry (place.Era me.who me.who)) (λ e. Chosen (nat_lt (last_era x) e) (Answers (Err (EraSpent e))) (first_trail me slot x e)) n
      (λ e. within_chosen (nat_lt (last_era x) e) (Answers (Err (EraSpent e))) (first_trail me slot x e) n
      (within_more (Answers (Err (EraSpent e))) 0 n (omega arith) (within_answers (Err (EraSpent e)))) (first_within slot x e)))

-- a count step takes at most 8 word steps, a change 13, and each exchange that fails three more
pub step_bound : (me : Me) (slot : ℕ) (x : Aim) (tr : Trail) (a : Result Bool UpFault) → step_trail me slot x tr a → IsWithin (steps_of me.geometry.wide x) tr
step_bound me slot (Up b) = all_within me slot (Up b)
step_bound me slot (Down b) = all_within me slot (Down b)
step_bound me slot (Change a b) = all_within me slot (Change a b)

-- a step up takes at most 7 from its redo record on, in format 2 8
pub redo_bound : (me : Me) (slot b e : ℕ) (tr : Trail) (a : Result Bool UpFault) → first_trail me slot (Up b) e tr a → IsWithin (6 + redo_steps me.geometry.wide) tr
redo_bound me slot b e = first_within me slot (Up b) e
