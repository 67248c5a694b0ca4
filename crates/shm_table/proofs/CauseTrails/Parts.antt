-- what the whole trails of the parts of commands show of why they were refused
use Rattle.std.proofs.Common.{◌≡◌, ◌≢◌, ℕ, ◌<◌, refl, sym, subst, arith, Bool, true, false, [], ◌∷◌, ◌++◌, Some, None, inl, inr}
use Rattle.std.proofs.lemmas.{Bool.{cases_eq, eqb-false, eqb-true}, List.Elements.Contains-append_right}
use Rattle.std.specs.{List.Contains, Prelude.{Result, Ok, Err, if◌then◌else◌, ◌==◌, nat_lt, ◌+◌, ◌%◌, ◌-◌, ◌^◌}}
use Rattle.shm_words.specs.Layout.{address, address_limit}
use Rattle.shm_words.specs.declared.place.Place.TheVariants as place
use Rattle.shm_graph.specs.{declared.ask.{Ask.TheVariants.Load, Me.Me}, Asks.{Trail, pair}, Laws.Outcome, Trails.Chosen}
use Rattle.kind_laws.proofs.Lists.{newest}
use Rattle.plans.specs.{declared.or.Or.TheVariants.{First, Second}, Plans.plan_trail}
use Rattle.shm_alloc.specs.declared.alloc.AllocFault.{AllocFault}
use Rattle.shm_count.specs.declared.{answer.{EraSpent.EraSpent, ShareFault.ShareFault, UpFault.UpFault}, point.Aim.Aim}
use Rattle.shm_count.specs.declared.up_root.{RootingPoint.RootingPoint, RootingState.RootingState}
use Rattle.shm_count.specs.Step.{Asks.{first_trail, more_trail, point_trail, redo_trail}, Control.first_point}
use Rattle.shm_count.specs.{Step.Machines.up_answer, Proved.Step.Refusing.first_reads}
use Rattle.shm_count.specs.UpRoot.Control.{RootingAnswer, rooting_after, rooting_ask, rooting_call, rooting_turns, share_fault, taken_up as taken_up_at}
use Rattle.shm_count.specs.UpRoot.{rooting_part, rooting_plan}
use Rattle.shm_count.specs.declared.answer.ShareFault.TheVariants as share
use Rattle.shm_count.specs.declared.answer.UpFault.TheVariants as up
use Rattle.shm_count.specs.declared.point.Aim.TheVariants as aims
use Rattle.shm_count.specs.declared.point.StepPoint.TheVariants as point
use Rattle.shm_count.specs.declared.up_root.RootingPoint.TheVariants as rooting
use Rattle.shm_ref.specs.{declared.drop_root.{DropPoint.DropPoint, DropState.DropState}, Proved.AskedParts.one_pair}
use Rattle.shm_ref.specs.DropRoot.Control.{DropAnswer, drop_after, drop_call_at, drop_turns, dropping, root_at}
use Rattle.shm_ref.specs.{DropRoot.drop_plan, HomeParts.home_address}
use Rattle.shm_ref.specs.declared.drop_root.DropPoint.TheVariants as drop
use Rattle.shm_script.specs.declared.log.Answer.TheVariants as answer
use Rattle.shm_table.specs.declared.{answer.PutFault.PutFault, enter.{EnterPoint.EnterPoint, EnterState.EnterState}}
use Rattle.shm_table.specs.declared.enter.Entered.{Entered, TheVariants.{Linked, Unlinked, Unmade}}
use Rattle.shm_table.specs.declared.open_table.{OpenPoint.OpenPoint, OpenState.OpenState}
use Rattle.shm_table.specs.declared.replace.{ReplacePoint.ReplacePoint, ReplaceState.ReplaceState}
use Rattle.shm_table.specs.{Answers.{fault_answer, made_fault, raised_fault}, Causes.{LoadsEra, LoadsRoot, Shows}}
use Rattle.shm_table.specs.Enter.Control.{EnterAnswer, enter_after, enter_block, enter_call_at, enter_turns, enter_word, entry_request, raised_after, raised_turns}
use Rattle.shm_table.specs.{Enter.{enter_part, enter_plan}, Fetch.Control.shared_fault}
use Rattle.shm_table.specs.OpenTable.Control.{OpenAnswer, directory_request, open_after, open_call_at, open_turns}
use Rattle.shm_table.specs.{OpenTable.open_plan, PutRoot.Control.fault_of}
use Rattle.shm_table.specs.Replace.Control.{ReplaceAnswer, replace_after, replace_call_at, replace_turns}
use Rattle.shm_table.specs.Replace.{replace_plan}
use Rattle.shm_table.specs.declared.enter.EnterPoint.TheVariants as enter
use Rattle.shm_table.specs.declared.open_table.OpenPoint.TheVariants as open_point
use Rattle.shm_table.specs.declared.replace.ReplacePoint.TheVariants as replace
use Rattle.shm_table.proofs.CauseTrails.{Faulty, along_plan, alloc_shows, either_way, root_more, shows_later, step_shows}
use Rattle.shm_table.proofs.CauseTrails.Eras.{first_full, step_era, tear_era}

module _ (me : Me) where
  -- ---- a root for a block

  abbrev pub Shared : Result ℕ ShareFault → Trail → Type 0
  Shared (Ok k) tr = Unit {0}
  Shared (Err f) tr = Shows me (fault_answer (shared_fault f)) tr

  -- a step up that is taken up after its era
  taken_up : (own : Me) (slot e : ℕ) (x : Aim) (f : UpFault) (tr t : Trail) (a : Result Bool UpFault) → up_answer a ≡ Err f → point_trail own slot x (first_point own e) t a → Shared (Err (share_fault f)) (tr ++ t)
  taken_up own slot e x f tr t (Ok z) is h = absurd (cc)
  taken_up own slot e x f tr t (Err g) is h = let same : g ≡ f = cc in go f (from own.geometry.wide (subst (λ y. point_trail own slot x (first_point own e) t (Err y)) same h))
    where
      from : (z : Bool) → point_trail own slot x (if z then point.More e else point.Redo e) t (Err f) → Chosen z (more_trail own slot x e) (redo_trail own slot x e) t (Err f)
      from true y = y
      from false y = y

      go : (f : UpFault) → first_trail own slot x e t (Err f) → Shared (Err (share_fault f)) (tr ++ t)
      go (up.EraSpent y) h = absurd (first_full own slot x e t y h)
      go (up.CountFull b n) h = shows_later me (answer.CountFull b n) tr t (first_reads own slot x e t b n h)

  -- the roots before the next one were read, and name blocks
  abbrev Looked : RootingState → Trail → Type 0
  Looked p tr = (p.me ≡ me) × ((j : ℕ) → j < p.root → LoadsRoot me j tr)

  looked_more : (p : RootingState) (tr t : Trail) → Looked p tr → Looked p (tr ++ t)
  looked_more p tr t k = (k.0, λ j l. root_more me j tr t (k.1 j l))

  pub rooting_shows : (p : RootingState) (t : Trail) (a : Result ℕ ShareFault) → p.me ≡ me → p.root ≡ 0 → plan_trail rooting_plan p t a → Shared a t
  rooting_shows p t a is none = along_plan rooting_plan Looked Shared (λ p tr t b k h. go p p.point tr t b k h) p t a (is, λ j l. absurd (omega (arith, none, l)))
    where
      -- the era
      era : (p : RootingState) (n : ℕ) (tr t : Trail) (z : Bool) → Looked p tr → t ≡ pair (rooting_ask p.me p.root rooting.Era) n ∷ []
          → Outcome (if z then Some (Err (share.EraSpent n)) else None) (Looked (if z then p else record p { era = n; point = rooting.Look }) (tr ++ t)) (λ a. Shared a (tr ++ t))
      era p n tr t true k one = shows_later me (answer.EraSpent n) tr t (subst (λ y. LoadsEra y n t) k.0 (subst (λ (u : Trail). LoadsEra p.me n u) (sym one) (newest (pair (rooting_ask p.me p.root rooting.Era) n) [])))
      era p n tr t false k one = looked_more p tr t k

      -- the root that was read names a block
      more : (p : RootingState) (n : ℕ) (tr t : Trail) → n ≢ 0 → Looked p tr → t ≡ pair (rooting_ask p.me p.root rooting.Look) n ∷ [] → (j : ℕ) → j < p.root + 1 → LoadsRoot me j (tr ++ t)
      more p n tr t some k one j l =
          elim (cases_eq j p.root) [
            | inl is ↦ subst (λ i. LoadsRoot me i (tr ++ t)) (sym is) (n, some, Contains-append_right tr t (pair (Load (address me.geometry (place.Root me.who p.root))) n) (subst (λ (y : Me). Contains t (pair (Load (address y.geometry (place.Root y.who p.root))) n)) k.0 (subst (λ (u : Trail). Contains u (pair (rooting_ask p.me p.root rooting.Look) n)) (sym one) (newest (pair (rooting_ask p.me p.root rooting.Look) n) []))))
            | inr other ↦ root_more me j tr t (k.1 j (omega (arith, l, other)))
          ]

      last : (p : RootingState) (n : ℕ) (tr t : Trail) (w : Bool) → (w ≡ true → p.root ≡ 15) → n ≢ 0 → Looked p tr → t ≡ pair (rooting_ask p.me p.root rooting.Look) n ∷ []
          → Outcome (if w then Some (Err share.RootsFull) else None) (Looked (if w then p else record p { root = p.root + 1 }) (tr ++ t)) (λ a. Shared a (tr ++ t))
      last p n tr t true is some k one = λ j l. let at = is refl in more p n tr t some k one j (omega (arith, l, at))
      last p n tr t false is some k one = (k.0, more p n tr t some k one)

      look : (p : RootingState) (n : ℕ) (tr t : Trail) (z : Bool) → (z ≡ false → n ≢ 0) → Looked p tr → t ≡ pair (rooting_ask p.me p.root rooting.Look) n ∷ []
          → Outcome (if z then None else if p.root == 15 then Some (Err share.RootsFull) else None) (Looked (if z then record p { point = rooting.Step } else if p.root == 15 then p else record p { root = p.root + 1 }) (tr ++ t)) (λ a. Shared a (tr ++ t))
      look p n tr t true other k one = looked_more p tr t k
      look p n tr t false other k one = last p n tr t (p.root == 15) (eqb-true p.root 15) (other refl) k one

      go : (p : RootingState) (y : RootingPoint) (tr t : Trail) (b : RootingAnswer) → Looked p tr → (rooting_part p y).asks (rooting_call p y) t b → Outcome (rooting_turns p y b) (Looked (rooting_after p y b) (tr ++ t)) (λ a. Shared a (tr ++ t))
      go p rooting.Era tr t (First n) k h = era p n tr t (nat_lt (2 ^ 47 - 3) n) k (one_pair (rooting_ask p.me p.root rooting.Era) t n h)
      go p rooting.Look tr t (First n) k h = look p n tr t (n == 0) (eqb-false n 0) k (one_pair (rooting_ask p.me p.root rooting.Look) t n h)
      go p rooting.Step tr t (Second (Ok done)) k h = tt
      go p rooting.Step tr t (Second (Err f)) k (a, is, h) = taken_up p.me (taken_up_at p.me p.root p.block p.era).slot p.era (taken_up_at p.me p.root p.block p.era).aim f tr t a is h
      go p _ tr t _ k h = absurd h

  -- ---- the drop of a root

  abbrev pub Dropped : Result Bool EraSpent → Trail → Type 0
  Dropped (Ok z) tr = Unit {0}
  Dropped (Err e) tr = LoadsEra me e.era tr

  pub drop_shows : (p : DropState) (t : Trail) (a : Result Bool EraSpent) → p.me ≡ me → plan_trail drop_plan p t a → Dropped a t
  drop_shows p t a is = along_plan drop_plan (λ p tr. p.me ≡ me) Dropped (λ p tr t b k h. go p p.point tr t b k h) p t a is
    where
      own : (p : DropState) (e : ℕ) (tr t : Trail) → p.me ≡ me → LoadsEra p.me e t → LoadsEra me e (tr ++ t)
      own p e tr t k h = shows_later me (answer.EraSpent e) tr t (subst (λ y. LoadsEra y e t) k h)

      go : (p : DropState) (y : DropPoint) (tr t : Trail) (b : DropAnswer) → p.me ≡ me → (drop_plan.part (record p { point = y })).asks (drop_call_at p y) t b → Outcome (drop_turns p b) ((drop_after p b).me ≡ me) (λ a. Dropped a (tr ++ t))
      go p y tr t (First n) k h = either_way (n % address_limit == 0) (Some (Ok false)) None (p.me ≡ me) (λ a. Dropped a (tr ++ t)) tt k
      go p y tr t (Second (First (Ok true))) k h = k
      go p drop.Lower tr t (Second (First (Err e))) k h = own p e.era tr t k (step_era p.me (root_at p) (aims.Down p.block) t e.era h)
      go p _ tr t (Second (First (Err e))) k h = absurd h
      go p drop.Tear tr t (Second (Second (Err e))) k h = own p e.era tr t k (tear_era p.me p.block t e h)
      go p _ tr t (Second (Second (Err e))) k h = absurd h
      go p y tr t (Second _) k h = tt

  -- ---- a directory

  abbrev pub Opened : Result (Unit {0}) PutFault → Trail → Type 0
  Opened (Ok done) tr = Unit {0}
  Opened (Err f) tr = Shows me (fault_answer f) tr

  pub open_shows : (p : OpenState) (t : Trail) (a : Result (Unit {0}) PutFault) → p.me ≡ me → plan_trail open_plan p t a → Opened a t
  open_shows p t a is = along_plan open_plan (λ p tr. p.me ≡ me) Opened (λ p tr t b k h. go p p.point tr t b k h) p t a is
    where
      go : (p : OpenState) (y : OpenPoint) (tr t : Trail) (b : OpenAnswer) → p.me ≡ me → (open_plan.part (record p { point = y })).asks (open_call_at p y) t b → Outcome (open_turns p b) ((open_after p b).me ≡ me) (λ a. Opened a (tr ++ t))
      go p y tr t (First n) k h = either_way (n == 0) None (Some (Ok tt)) (p.me ≡ me) (λ a. Opened a (tr ++ t)) k tt
      go p open_point.Make tr t (Second (First (Err f))) k h = subst (λ x. Shows x (fault_answer (made_fault f)) (tr ++ t)) k (alloc_shows p.me directory_request f tr t refl h)
      go p _ tr t (Second (First (Err f))) k h = absurd h
      go p open_point.Name tr t (Second (Second (First (Err f)))) k h = step_shows me p.me (home_address p.me) (aims.Up p.block) f tr t k h
      go p _ tr t (Second (Second (First (Err f)))) k h = absurd h
      go p y tr t (Second (Second (Second (Ok z)))) k h = tt
      go p open_point.Drop tr t (Second (Second (Second (Err e)))) k h = shows_later me (answer.EraSpent e.era) tr t (drop_shows (dropping p.me p.root) t (Err e) k h)
      go p _ tr t (Second (Second (Second (Err e)))) k h = absurd h
      go p y tr t (Second _) k h = k

  -- ---- a new entry

  abbrev pub EnteredSo : Entered → Trail → Type 0
  EnteredSo (Linked k) tr = Unit {0}
  EnteredSo (Unlinked k f) tr = Shows me (fault_answer f) tr
  EnteredSo (Unmade f) tr = Shows me (fault_answer f) tr

  pub enter_shows : (p : EnterState) (t : Trail) (a : Entered) → p.me ≡ me → plan_trail enter_plan p t a → EnteredSo a t
  enter_shows p t a is = along_plan enter_plan (λ p tr. p.me ≡ me) EnteredSo (λ p tr t b k h. go p p.point tr t b k h) p t a is
    where
      made : (p : EnterState) (y : EnterPoint) (f : AllocFault) (tr t : Trail) → p.me ≡ me → (enter_part p y).asks (enter_call_at p y) t (First (Err f)) → Shows me (fault_answer (made_fault f)) (tr ++ t)
      made p enter.Make f tr t k h = subst (λ x. Shows x (fault_answer (made_fault f)) (tr ++ t)) k (alloc_shows p.me (entry_request p.key) f tr t refl h)
      made p _ f tr t k h = absurd h

      up_at : EnterState → EnterPoint → ℕ
      up_at p y = enter_block p y + 2 + enter_word p y

      raised : (p : EnterState) (y : EnterPoint) (f : UpFault) (tr t : Trail) → p.me ≡ me → (enter_part p y).asks (enter_call_at p y) t (Second (First (Err f))) → Shows me (fault_answer (raised_fault f)) (tr ++ t)
      raised p enter.Value f tr t k h = step_shows me p.me (up_at p enter.Value) (aims.Up p.value) f tr t k h
      raised p enter.Next f tr t k h = step_shows me p.me (up_at p enter.Next) (aims.Up p.first) f tr t k h
      raised p enter.Link f tr t k h = step_shows me p.me (up_at p enter.Link) (aims.Up p.entry) f tr t k h
      raised p _ f tr t k h = absurd h

      linked : (p : EnterState) (y : EnterPoint) (u : Trail) → p.me ≡ me → Outcome (raised_turns p y) ((raised_after p y).me ≡ me) (λ a. EnteredSo a u)
      linked p enter.Value u k = k
      linked p enter.Next u k = k
      linked p _ u k = tt

      go : (p : EnterState) (y : EnterPoint) (tr t : Trail) (b : EnterAnswer) → p.me ≡ me → (enter_part p y).asks (enter_call_at p y) t b → Outcome (enter_turns (record p { point = y }) b) ((enter_after (record p { point = y }) b).me ≡ me) (λ a. EnteredSo a (tr ++ t))
      go p y tr t (First (Ok made)) k h = k
      go p y tr t (First (Err f)) k h = made p y f tr t k h
      go p y tr t (Second (First (Ok done))) k h = linked (record p { point = y }) y (tr ++ t) k
      go p y tr t (Second (First (Err f))) k h = raised p y f tr t k h
      go p y tr t (Second (Second (Ok z))) k h = tt
      go p enter.Change tr t (Second (Second (Err f))) k h = step_shows me p.me (p.home + 2 + p.key % 16) (aims.Change p.first p.entry) f tr t k h
      go p _ tr t (Second (Second (Err f))) k h = absurd h

  -- ---- another value block

  pub replace_shows : (p : ReplaceState) (t : Trail) (a : Result Bool PutFault) → p.me ≡ me → plan_trail replace_plan p t a → Faulty me (fault_of a) t
  replace_shows p t a is = along_plan replace_plan (λ p tr. p.me ≡ me) (λ a. Faulty me (fault_of a)) (λ p tr t b k h. go p p.point tr t b k h) p t a is
    where
      go : (p : ReplaceState) (y : ReplacePoint) (tr t : Trail) (b : ReplaceAnswer) → p.me ≡ me → (replace_plan.part (record p { point = y })).asks (replace_call_at p y) t b → Outcome (replace_turns p b) ((replace_after p b).me ≡ me) (λ a. Faulty me (fault_of a) (tr ++ t))
      go p y tr t (First n) k h = either_way (n % address_limit == p.to) (Some (Ok false)) None (p.me ≡ me) (λ a. Faulty me (fault_of a) (tr ++ t)) tt k
      go p y tr t (Second (First (Ok true))) k h = k
      go p replace.Change tr t (Second (First (Err f))) k h = step_shows me p.me ((p.entry + 2 + 1) % address_limit) (aims.Change p.before p.to) f tr t k h
      go p _ tr t (Second (First (Err f))) k h = absurd h
      go p y tr t (Second _) k h = tt
