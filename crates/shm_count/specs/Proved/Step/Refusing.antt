-- a count step that is refused as full has read a header that shows the greatest count
use Rattle.std.proofs.Common.{◌≡◌, ℕ, zero, suc, ◌+◌, refl, sym, subst, Bool, true, false, [], ◌∷◌, inl, inr}
use Rattle.std.proofs.lemmas.List.Elements.{Contains-append_right}
use Rattle.std.specs.Prelude.{◌⊎◌, ◌==◌, ◌&&◌, not, nat_lt, Result, Ok, Err}
use Rattle.shm_words.specs.{Layout.address, Headers.{header_of, header_word}, Redos.{first_word, second_word}}
use Rattle.shm_words.specs.declared.place.Place.TheVariants as place
use Rattle.shm_graph.specs.declared.{ask.{Ask.{Ask, TheVariants.{Load, Store, Exchange}}, Me.Me}, memo.Seen.Seen}
use Rattle.shm_graph.specs.{Asks.{Trail, pair}, Trails.{Answers, Asked, Chosen}}
use Rattle.kind_laws.proofs.Lists.{newest}
use Rattle.shm_count.specs.declared.{answer.UpFault.{UpFault, TheVariants.{EraSpent, CountFull}}, point.Aim.Aim}
use Rattle.shm_count.specs.declared.point.{Aim.TheVariants.{Up, Down, Change}, Half.TheVariants.First}
use Rattle.shm_count.specs.Refusing.{IsReading, ReadsCount}
use Rattle.shm_count.specs.Step.Control.{last_era, block_at, raises, value_after, redo_at, count_after, row_address}
use Rattle.shm_count.specs.Step.Asks.{StepTrails, exchange_trail, show_trail, row_trail, header_trail, set_trail, load_trail, end_trail, close_trail, slot_trail, redo_trail, step_trail, first_trail, more_trail}

-- trails of this kind that end so have read so
abbrev Reads : StepTrails → Type 0
Reads f = (tr : Trail) (d n : ℕ) → f tr (Err (CountFull d n)) → ReadsCount d n tr

-- or the header w of block b, which was read before, showed it
abbrev ReadsOr : ℕ → ℕ → StepTrails → Type 0
ReadsOr b w f = (tr : Trail) (d n : ℕ) → f tr (Err (CountFull d n)) → ((d ≡ b) × ((header_of w).count ≡ n)) ⊎ ReadsCount d n tr

-- what was read stays read where a pair comes before
later : (d n : ℕ) (s : Seen) (tr : Trail) → ReadsCount d n tr → ReadsCount d n (s ∷ tr)
later d n s tr h = (h.0, Contains-append_right (s ∷ []) tr h.0 h.1, h.2, h.3)

-- no other answer is one of a full count
reads_answer : (b : Result Bool UpFault) → ((d n : ℕ) → b ≡ Err (CountFull d n) → ⊥) → Reads (Answers b)
reads_answer b never tr d n t = absurd (never d n t.1)

-- one pair more
reads_asked : (k : Ask) (next : ℕ → StepTrails) → ((x : ℕ) → Reads (next x)) → Reads (Asked k next)
reads_asked k next s tr d n t = subst (λ (x : Trail). ReadsCount d n x) (sym t.1.1.0) (later d n (pair k t.0) t.1.0 (s t.0 t.1.0 d n t.1.1.1))

-- the choice between two kinds of trails
reads_chosen : (b : Bool) (f g : StepTrails) → Reads f → Reads g → Reads (Chosen b f g)
reads_chosen true f g one other = one
reads_chosen false f g one other = other

-- a pair that reads the header of the block
reads_header : (b : ℕ) (k : Ask) (x : ℕ) (f : StepTrails) → IsReading b k → ReadsOr b x f → (tr : Trail) (d n : ℕ) → f tr (Err (CountFull d n)) → ReadsCount d n (pair k x ∷ tr)
reads_header b k x f is s tr d n t =
    elim (s tr d n t) [
      | inl e ↦ (pair k x, newest (pair k x) tr, subst (λ (j : ℕ). IsReading j k) (sym e.0) is, e.1)
      | inr h ↦ later d n (pair k x) tr h
    ]

module _ (me : Me) where
  module _ (up : Bool) (b e : ℕ) (rest : Bool → StepTrails) (after : (z : Bool) → Reads (rest z)) where
    -- the exchange
    exchange_reads : (w : ℕ) (again : ℕ → StepTrails) → ((x : ℕ) → ReadsOr b x (again x)) → Reads (exchange_trail me up b e w again rest)
    exchange_reads w again s tr d n t =
        let k : Ask = Exchange b w (header_word (record { live = true; client = me.who; count = count_after up (header_of w).count; era = e })) in
        subst (λ (x : Trail). ReadsCount d n x) (sym t.1.1.0) (go t.0 t.1.0 k refl (t.0 == w) t.1.1.1)
      where
        go : (x : ℕ) (r : Trail) (k : Ask) → IsReading b k → (z : Bool) → Chosen z (rest (not up && ((header_of w).count == 1))) (again x) r (Err (CountFull d n)) → ReadsCount d n (pair k x ∷ r)
        go x r k is true u = later d n (pair k x) r (after (not up && ((header_of w).count == 1)) r d n u)
        go x r k is false u = reads_header b k x (again x) is (s x) r d n u

    -- the row
    show_reads : (w : ℕ) (again : ℕ → StepTrails) → ((x : ℕ) → ReadsOr b x (again x)) → Reads (show_trail me up b e w again rest)
    show_reads w again s = reads_asked (Store (row_address me (header_of w).client) (header_of w).era) (λ _. exchange_trail me up b e w again rest) (λ _. exchange_reads w again s)

    row_reads : (w : ℕ) (again : ℕ → StepTrails) → ((x : ℕ) → ReadsOr b x (again x)) → Reads (row_trail me up b e w again rest)
    row_reads w again s =
        reads_asked (Load (row_address me (header_of w).client)) (λ x. Chosen (nat_lt x (header_of w).era) (show_trail me up b e w again rest) (exchange_trail me up b e w again rest))
        (λ x. reads_chosen (nat_lt x (header_of w).era) (show_trail me up b e w again rest) (exchange_trail me up b e w again rest) (show_reads w again s) (exchange_reads w again s))

    -- by a header that was read
    header_reads : (w : ℕ) (again : ℕ → StepTrails) → ((x : ℕ) → ReadsOr b x (again x)) → ReadsOr b w (header_trail me up b e w again rest)
    header_reads w again s tr d n t = go (up && ((header_of w).count == 1023)) t
      where
        go : (z : Bool) → Chosen z (Answers (Err (CountFull b (header_of w).count))) (Chosen ((header_of w).client == me.who) (exchange_trail me up b e w again rest) (row_trail me up b e w again rest)) tr (Err (CountFull d n))
            → ((d ≡ b) × ((header_of w).count ≡ n)) ⊎ ReadsCount d n tr
        go true u = let same = u.1 in let k : d ≡ b = cc in let l : (header_of w).count ≡ n = cc in inl (k, l)
        go false u = inr (reads_chosen ((header_of w).client == me.who) (exchange_trail me up b e w again rest) (row_trail me up b e w again rest) (exchange_reads w again s) (row_reads w again s) tr d n u)

    -- with at most i further tries
    set_reads : (i w : ℕ) → ReadsOr b w (set_trail me i up b e rest w)
    set_reads zero w = header_reads w (λ x tr a. ⊥) (λ x tr d n t. absurd t)
    set_reads (suc i) w = header_reads w (set_trail me i up b e rest) (λ x. set_reads i x)

    -- the header is loaded first
    load_reads : Reads (load_trail me up b e rest)
    load_reads tr d n t =
        subst (λ (x : Trail). ReadsCount d n x) (sym t.1.1.0)
        (reads_header b (Load b) t.0 (λ r a. (i : ℕ) × set_trail me i up b e rest t.0 r a) refl (λ r d n u. set_reads u.0 t.0 r d n u.1) t.1.0 d n t.1.1.1)

  -- ---- the whole

  end_reads : (e : ℕ) (z : Bool) → Reads (end_trail me e z)
  end_reads e z = reads_asked (Store (address me.geometry (place.Era me.who me.who)) (e + 1)) (λ _. Answers (Ok z)) (λ _. reads_answer (Ok z) (λ d n k. cc))

  close_reads : (x : Aim) (e : ℕ) (z : Bool) → Reads (close_trail me x e z)
  close_reads (Up b) e z = end_reads e z
  close_reads (Down b) e z = end_reads e z
  close_reads (Change a b) e z =
      reads_asked (Store (address me.geometry (place.Era me.who me.who)) (e + 1)) (λ _. load_trail me false a (e + 1) (end_trail me (e + 1)))
      (λ _. load_reads false a (e + 1) (end_trail me (e + 1)) (λ y. end_reads (e + 1) y))

  slot_reads : (slot : ℕ) (x : Aim) (e : ℕ) (z : Bool) → Reads (slot_trail me slot x e z)
  slot_reads slot x e z = reads_asked (Store slot (value_after x)) (λ _. close_trail me x e z) (λ _. close_reads x e z)

  -- from the redo record on
  pub redo_reads : (slot : ℕ) (x : Aim) (e : ℕ) → Reads (redo_trail me slot x e)
  redo_reads slot x e =
      reads_asked (Store (address me.geometry (place.Redo me.who)) (first_word me.geometry.wide (redo_at x slot e))) (λ _. load_trail me (raises x First) (block_at x First) e (slot_trail me slot x e))
      (λ _. load_reads (raises x First) (block_at x First) e (slot_trail me slot x e) (λ z. slot_reads slot x e z))

  pub first_reads : (slot : ℕ) (x : Aim) (e : ℕ) → Reads (first_trail me slot x e)
  first_reads slot x e =
      reads_chosen me.geometry.wide (more_trail me slot x e) (redo_trail me slot x e)
      (reads_asked (Store (address me.geometry (place.RedoMore me.who)) (second_word me.geometry.wide (redo_at x slot e))) (λ _. redo_trail me slot x e) (λ _. redo_reads slot x e))
      (redo_reads slot x e)

  -- a whole trail
  pub step_reads : (slot : ℕ) (x : Aim) → Reads (step_trail me slot x)
  step_reads slot x =
      reads_asked (Load (address me.geometry (place.Era me.who me.who))) (λ e. Chosen (nat_lt (last_era x) e) (Answers (Err (EraSpent e))) (first_trail me slot x e))
      (λ e. reads_chosen (nat_lt (last_era x) e) (Answers (Err (EraSpent e))) (first_trail me slot x e) (reads_answer (Err (EraSpent e)) (λ d n k. cc)) (first_reads slot x e))
