-- count steps and tear-downs that are refused as spent have read that era
use Rattle.std.proofs.Common.{◌≡◌, ℕ, zero, suc, ◌+◌, refl, sym, subst, Bool, true, false, [], ◌∷◌, ◌++◌}
use Rattle.std.proofs.lemmas.{Bool.false≢true, List.Elements.{Contains-append_left, Contains-append_right}}
use Rattle.std.specs.{Prelude.{◌==◌, ◌&&◌, not, nat_lt, ◌%◌, Result, Ok, Err}, List.Contains}
use Rattle.shm_words.specs.{declared.tag.Tag.Tag as ATag, Layout.{address, address_limit}}
use Rattle.shm_words.specs.{Headers.{header_of, header_word}, Redos.{first_word, second_word}, Tags.tag_word}
use Rattle.shm_words.specs.declared.place.Place.TheVariants as place
use Rattle.shm_graph.specs.declared.{ask.{Ask.{Ask, TheVariants.{Load, Store, Exchange}}, Me.Me}, memo.Seen.Seen}
use Rattle.shm_graph.specs.{Asks.{Trail, pair}, Trails.{Answers, Asked, Chosen}}
use Rattle.kind_laws.proofs.Lists.{newest}
use Rattle.shm_count.specs.declared.answer.{EraSpent.EraSpent as ASpent, UpFault.UpFault}
use Rattle.shm_count.specs.declared.{answer.UpFault.TheVariants.{EraSpent, CountFull}, point.Aim.Aim}
use Rattle.shm_count.specs.declared.point.{Aim.TheVariants.{Down, Change}, Half.TheVariants.First}
use Rattle.shm_count.specs.Step.Asks.{StepTrails, exchange_trail, show_trail, row_trail, header_trail, set_trail, load_trail, end_trail, close_trail, slot_trail, redo_trail, step_trail, first_trail, more_trail}
use Rattle.shm_count.specs.Step.Control.{last_era, block_at, raises, value_after, redo_at, count_after, row_address, spent}
use Rattle.shm_count.specs.Tear.Asks.{OnTrails, TearTrails, after_down, enter_trail, free_trail, link_trail, next_trail, on_trail, return_trail, tear_trail, word_trail}
use Rattle.shm_count.specs.Tear.Control.{tag_read, word_address, relinked}
use Rattle.shm_table.specs.Causes.{LoadsEra}

-- trails of this kind that end in a refusal end in one of these
module _ (P : UpFault → Type 0) where
  abbrev Ends : StepTrails → Type 0
  Ends f = (tr : Trail) (u : UpFault) → f tr (Err u) → P u

  ends_asked : (k : Ask) (next : ℕ → StepTrails) → ((x : ℕ) → Ends (next x)) → Ends (Asked k next)
  ends_asked k next s tr u t = s t.0 t.1.0 u t.1.1.1

  ends_chosen : (b : Bool) (f g : StepTrails) → Ends f → Ends g → Ends (Chosen b f g)
  ends_chosen true f g one other = one
  ends_chosen false f g one other = other

  ends_done : (z : Bool) → Ends (Answers (Ok z))
  ends_done z tr u t = absurd (let same = t.1 in cc)

  module _ (me : Me) where
    module _ (up : Bool) (b e : ℕ) (rest : Bool → StepTrails) (full : (n : ℕ) → up ≡ true → P (CountFull b n)) (after : (z : Bool) → Ends (rest z)) where
      exchange_ends : (w : ℕ) (again : ℕ → StepTrails) → ((x : ℕ) → Ends (again x)) → Ends (exchange_trail me up b e w again rest)
      exchange_ends w again s =
          ends_asked (Exchange b w (header_word (record { live = true; client = me.who; count = count_after up (header_of w).count; era = e }))) (λ x. Chosen (x == w) (rest (not up && ((header_of w).count == 1))) (again x))
          (λ x. ends_chosen (x == w) (rest (not up && ((header_of w).count == 1))) (again x) (after (not up && ((header_of w).count == 1))) (s x))

      row_ends : (w : ℕ) (again : ℕ → StepTrails) → ((x : ℕ) → Ends (again x)) → Ends (row_trail me up b e w again rest)
      row_ends w again s =
          ends_asked (Load (row_address me (header_of w).client)) (λ x. Chosen (nat_lt x (header_of w).era) (show_trail me up b e w again rest) (exchange_trail me up b e w again rest))
          (λ x. ends_chosen (nat_lt x (header_of w).era) (show_trail me up b e w again rest) (exchange_trail me up b e w again rest)
          (ends_asked (Store (row_address me (header_of w).client) (header_of w).era) (λ _. exchange_trail me up b e w again rest) (λ _. exchange_ends w again s))
          (exchange_ends w again s))

      header_ends : (w : ℕ) (again : ℕ → StepTrails) → ((x : ℕ) → Ends (again x)) → Ends (header_trail me up b e w again rest)
      header_ends w again s tr u t = go up refl t
        where
          other : Ends (Chosen ((header_of w).client == me.who) (exchange_trail me up b e w again rest) (row_trail me up b e w again rest))
          other = ends_chosen ((header_of w).client == me.who) (exchange_trail me up b e w again rest) (row_trail me up b e w again rest) (exchange_ends w again s) (row_ends w again s)

          full_so : (z : Bool) → up ≡ true → Chosen z (Answers (Err (CountFull b (header_of w).count))) (Chosen ((header_of w).client == me.who) (exchange_trail me up b e w again rest) (row_trail me up b e w again rest)) tr (Err u) → P u
          full_so true is h = let same = h.1 in let k : CountFull b (header_of w).count ≡ u = cc in subst P k (full (header_of w).count is)
          full_so false is h = other tr u h

          go : (z : Bool) → up ≡ z → Chosen (z && ((header_of w).count == 1023)) (Answers (Err (CountFull b (header_of w).count))) (Chosen ((header_of w).client == me.who) (exchange_trail me up b e w again rest) (row_trail me up b e w again rest)) tr (Err u) → P u
          go true is h = full_so ((header_of w).count == 1023) is h
          go false is h = other tr u h

      set_ends : (i w : ℕ) → Ends (set_trail me i up b e rest w)
      set_ends zero w = header_ends w (λ x tr a. ⊥) (λ x tr u t. absurd t)
      set_ends (suc i) w = header_ends w (set_trail me i up b e rest) (λ x. set_ends i x)

      load_ends : Ends (load_trail me up b e rest)
      load_ends tr u t = set_ends t.1.1.1.0 t.0 t.1.0 u t.1.1.1.1

    end_ends : (e : ℕ) (z : Bool) → Ends (end_trail me e z)
    end_ends e z = ends_asked (Store (address me.geometry (place.Era me.who me.who)) (e + 1)) (λ _. Answers (Ok z)) (λ _. ends_done z)

    close_ends : (x : Aim) (e : ℕ) (z : Bool) → Ends (close_trail me x e z)
    close_ends (Change a b) e z =
        ends_asked (Store (address me.geometry (place.Era me.who me.who)) (e + 1)) (λ _. load_trail me false a (e + 1) (end_trail me (e + 1))) (λ _. load_ends false a (e + 1) (end_trail me (e + 1)) (λ n up. absurd (false≢true up)) (λ y. end_ends (e + 1) y))
    close_ends _ e z = end_ends e z

    -- from the redo record on
    redo_ends : (slot : ℕ) (x : Aim) (e : ℕ) → ((n : ℕ) → raises x First ≡ true → P (CountFull (block_at x First) n)) → Ends (redo_trail me slot x e)
    redo_ends slot x e full =
        ends_asked (Store (address me.geometry (place.Redo me.who)) (first_word me.geometry.wide (redo_at x slot e))) (λ _. load_trail me (raises x First) (block_at x First) e (slot_trail me slot x e))
        (λ _. load_ends (raises x First) (block_at x First) e (slot_trail me slot x e) full (λ z. ends_asked (Store slot (value_after x)) (λ _. close_trail me x e z) (λ _. close_ends x e z)))

    pub first_ends : (slot : ℕ) (x : Aim) (e : ℕ) → ((n : ℕ) → raises x First ≡ true → P (CountFull (block_at x First) n)) → Ends (first_trail me slot x e)
    first_ends slot x e full =
        ends_chosen me.geometry.wide (more_trail me slot x e) (redo_trail me slot x e)
        (ends_asked (Store (address me.geometry (place.RedoMore me.who)) (second_word me.geometry.wide (redo_at x slot e))) (λ _. redo_trail me slot x e) (λ _. redo_ends slot x e full))
        (redo_ends slot x e full)

-- ---- the own era

era_more : (me : Me) (e : ℕ) (tr t : Trail) → LoadsEra me e tr → LoadsEra me e (tr ++ t)
era_more me e tr t h = Contains-append_left tr t (pair (Load (address me.geometry (place.Era me.who me.who))) e) h

era_later : (me : Me) (e : ℕ) (s : Seen) (t : Trail) → LoadsEra me e t → LoadsEra me e (s ∷ t)
era_later me e s t h = Contains-append_right (s ∷ []) t (pair (Load (address me.geometry (place.Era me.who me.who))) e) h

-- no answer but a full count follows the reading of the era
abbrev IsFull : UpFault → Type 0
IsFull (EraSpent e) = ⊥
IsFull (CountFull b n) = Unit {0}

pub first_full : (own : Me) (slot : ℕ) (x : Aim) (e : ℕ) (tr : Trail) (y : ℕ) → first_trail own slot x e tr (Err (EraSpent y)) → ⊥
first_full own slot x e tr y h = first_ends IsFull own slot x e (λ n up. tt) tr (EraSpent y) h

-- the era that is answered is the one that was read first
module _ (me : Me) (slot : ℕ) (x : Aim) where
  abbrev load : ℕ → Seen
  load n = pair (Load (address me.geometry (place.Era me.who me.who))) n

  pub step_era : (tr : Trail) (e : ℕ) → step_trail me slot x tr (Err (EraSpent e)) → LoadsEra me e tr
  step_era tr e t = go (nat_lt (last_era x) t.0) t.1.1.1
    where
      go : (z : Bool) → Chosen z (Answers (Err (EraSpent t.0))) (first_trail me slot x t.0) t.1.0 (Err (EraSpent e)) → LoadsEra me e tr
      go true h = let same = h.1 in let k : t.0 ≡ e = cc in subst (λ (u : Trail). LoadsEra me e u) (sym t.1.1.0) (subst (λ n. Contains (load t.0 ∷ t.1.0) (load n)) k (newest (load t.0) t.1.0))
      go false h = absurd (first_full me slot x t.0 t.1.0 e h)

-- of a step down any refusal
pub down_era : (me : Me) (slot b : ℕ) (tr : Trail) (u : UpFault) → step_trail me slot (Down b) tr (Err u) → LoadsEra me (spent u).era tr
down_era me slot b tr (EraSpent e) t = step_era me slot (Down b) tr e t
down_era me slot b tr (CountFull d n) t = go (nat_lt (last_era (Down b)) t.0) t.1.1.1
  where
    go : (z : Bool) → Chosen z (Answers (Err (EraSpent t.0))) (first_trail me slot (Down b) t.0) t.1.0 (Err (CountFull d n)) → LoadsEra me 0 tr
    go true h = let same = h.1 in absurd (cc)
    go false h = absurd (first_ends (λ u. ⊥) me slot (Down b) t.0 (λ i up. false≢true up) t.1.0 (CountFull d n) h)

-- ---- a tear-down

module _ (me : Me) where
  abbrev Reads : TearTrails → Type 0
  Reads f = (tr : Trail) (x : ASpent) → f tr (Err x) → LoadsEra me x.era tr

  reads_asked : (k : Ask) (next : ℕ → TearTrails) → ((n : ℕ) → Reads (next n)) → Reads (Asked k next)
  reads_asked k next s tr x t = subst (λ (u : Trail). LoadsEra me x.era u) (sym t.1.1.0) (era_later me x.era (pair k t.0) t.1.0 (s t.0 t.1.0 x t.1.1.1))

  reads_chosen : (b : Bool) (f g : TearTrails) → Reads f → Reads g → Reads (Chosen b f g)
  reads_chosen true f g one other = one
  reads_chosen false f g one other = other

  module _ (on : OnTrails) (s : (b : ℕ) (g : ATag) (i : ℕ) → Reads (on b g i)) where
    enter_reads : (b l : ℕ) → Reads (enter_trail me on b l)
    enter_reads b l =
        reads_asked (Load (b + 1)) (λ n. Chosen ((tag_read me.geometry.wide n).link == l) (on b (tag_read me.geometry.wide n) 0) (link_trail me on b (relinked me.geometry.wide (tag_read me.geometry.wide n) l)))
        (λ n. reads_chosen ((tag_read me.geometry.wide n).link == l) (on b (tag_read me.geometry.wide n) 0) (link_trail me on b (relinked me.geometry.wide (tag_read me.geometry.wide n) l)) (s b (tag_read me.geometry.wide n) 0)
        (reads_asked (Store (b + 1) (tag_word me.geometry.wide (relinked me.geometry.wide (tag_read me.geometry.wide n) l))) (λ _. on b (relinked me.geometry.wide (tag_read me.geometry.wide n) l) 0) (λ _. s b (relinked me.geometry.wide (tag_read me.geometry.wide n) l) 0)))

    word_reads : (b : ℕ) (g : ATag) (i : ℕ) → Reads (word_trail me on b g i)
    word_reads b g i tr x t = subst (λ (u : Trail). LoadsEra me x.era u) (sym t.1.1.0) (era_later me x.era (pair (Load (word_address b i)) t.0) t.1.0 (go (t.0 % address_limit == 0) t.1.1.1))
      where
        after : (a : Result Bool UpFault) (one rest : Trail) → step_trail me (word_address b i) (Down (t.0 % address_limit)) one a → after_down me on b g i (t.0 % address_limit) a rest (Err x) → LoadsEra me x.era (one ++ rest)
        after (Ok true) one rest step h = Contains-append_right one rest (pair (Load (address me.geometry (place.Era me.who me.who))) x.era) (enter_reads (t.0 % address_limit) b rest x h)
        after (Ok false) one rest step h = Contains-append_right one rest (pair (Load (address me.geometry (place.Era me.who me.who))) x.era) (s b g (i + 1) rest x h)
        after (Err f) one rest step h = let same = h.1 in let k : spent f ≡ x = cc in subst (λ (y : ASpent). LoadsEra me y.era (one ++ rest)) k (era_more me (spent f).era one rest (down_era me (word_address b i) (t.0 % address_limit) one f step))

        go : (z : Bool) → Chosen z (on b g (i + 1)) (λ u a. (one : Trail) × ((rest : Trail) × (y : Result Bool UpFault) × (u ≡ one ++ rest) × step_trail me (word_address b i) (Down (t.0 % address_limit)) one y × after_down me on b g i (t.0 % address_limit) y rest a)) t.1.0 (Err x) → LoadsEra me x.era t.1.0
        go true h = s b g (i + 1) t.1.0 x h
        go false (one, (rest, y, split, step, h)) = subst (λ (u : Trail). LoadsEra me x.era u) (sym split) (after y one rest step h)

    next_reads : (b : ℕ) (g : ATag) (i : ℕ) → Reads (next_trail me on b g i)
    next_reads b g i =
        reads_chosen (nat_lt i g.refs) (word_trail me on b g i) (free_trail me on b g) (word_reads b g i)
        (reads_asked (Store b 0) (λ _. Chosen (g.link == 0) (Answers (Ok tt)) (return_trail me on g.link))
        (λ _. reads_chosen (g.link == 0) (Answers (Ok tt)) (return_trail me on g.link) (λ tr x h. absurd (let same = h.1 in cc))
        (reads_asked (Load (g.link + 1)) (λ n. on g.link (tag_read me.geometry.wide n) 0) (λ n. s g.link (tag_read me.geometry.wide n) 0))))

  on_reads : (n b : ℕ) (g : ATag) (i : ℕ) → Reads (on_trail me n b g i)
  on_reads zero b g i tr x h = absurd h
  on_reads (suc n) b g i tr x h = next_reads (on_trail me n) (on_reads n) b g i tr x h

  pub tear_era : (b : ℕ) (tr : Trail) (x : ASpent) → tear_trail me b tr (Err x) → LoadsEra me x.era tr
  tear_era b tr x (n, h) = enter_reads (on_trail me n) (on_reads n) b 0 tr x h
