-- what the whole trails of commands and of their parts show of why they were refused
pub mod Eras
pub mod Searches
pub mod Parts
pub mod Commands
use Rattle.std.proofs.Common.{◌≡◌, ℕ, zero, suc, refl, sym, ap, ◌∙◌, subst, append_assoc, append-nil, Bool, true, false, [], ◌++◌, Option, Some, None}
use Rattle.std.proofs.lemmas.List.Elements.{Contains-append_left, Contains-append_right}
use Rattle.std.specs.Prelude.{Result, Ok, Err, if◌then◌else◌}
use Rattle.shm_words.specs.Layout.{address}
use Rattle.shm_words.specs.declared.place.Place.TheVariants as place
use Rattle.shm_graph.specs.{declared.{ask.{Ask.TheVariants.Load, Me.Me}, memo.Seen.Seen}, Asks.{Trail, pair}}
use Rattle.shm_graph.specs.Laws.{Outcome}
use Rattle.plans.specs.Plans.{Planned, calls_asked, go_on, plan_trail}
use Rattle.shm_alloc.specs.{declared.{alloc.AllocFault.AllocFault, request.Request.Request}, Alloc.Asks.alloc_trail}
use Rattle.shm_alloc.specs.declared.alloc.AllocFault.TheVariants as alloc
use Rattle.shm_count.specs.{declared.{answer.UpFault.UpFault, point.Aim.Aim}, Refusing.ReadsCount, Step.Asks.step_trail}
use Rattle.shm_count.specs.Proved.Step.Refusing.{step_reads}
use Rattle.shm_count.specs.declared.answer.UpFault.TheVariants as up
use Rattle.shm_script.specs.declared.log.Answer.{Answer}
use Rattle.shm_script.specs.declared.log.Answer.TheVariants as answer
use Rattle.shm_table.specs.{declared.answer.PutFault.PutFault, Answers.{fault_answer, made_fault, raised_fault}}
use Rattle.shm_table.specs.Causes.{LoadsEra, LoadsRoot, Shows}
use Rattle.shm_table.proofs.CauseTrails.{Eras.step_era, Searches.{alloc_era, alloc_roots}}

-- ---- any plan

-- What is known between the calls holds along a trail: before the first call, and by each call of what was asked before it, until it answers
module _ {P C B A : Type 0} (q : Planned P C B A) (K : P → Trail → Type 0) (Q : A → Trail → Type 0) (step : (p : P) (tr t : Trail) (b : B) → K p tr → (q.part p).asks (q.steered.call p) t b → Outcome (q.steered.turns p b) (K (q.steered.after p b) (tr ++ t)) (λ a. Q a (tr ++ t))) where
  along : (n : ℕ) (p : P) (tr t : Trail) (a : A) → K p tr → calls_asked q n p t a → Q a (tr ++ t)
  along zero p tr t a k h = absurd h
  along (suc n) p tr t a k (one, (rest, b, split, asks, on)) = go (q.steered.turns p b) (λ known h. along n (q.steered.after p b) (tr ++ one) rest a known h) (step p tr one b k asks) on
    where
      go : (o : Option A) → (K (q.steered.after p b) (tr ++ one) → calls_asked q n (q.steered.after p b) rest a → Q a ((tr ++ one) ++ rest)) → Outcome o (K (q.steered.after p b) (tr ++ one)) (λ x. Q x (tr ++ one)) → go_on q (calls_asked q n) (q.steered.after p b) o rest a → Q a (tr ++ t)
      go None on known h = subst (Q a) (append_assoc tr one rest ∙ ap (λ (u : Trail). tr ++ u) (sym split)) (on known h)
      go (Some x) on told h =
          subst (λ y. Q y (tr ++ t)) h.1
          (subst (Q x) (ap (λ (u : Trail). tr ++ u) (sym (split ∙ (ap (λ (u : Trail). one ++ u) h.0 ∙ append-nil one)))) told)

  pub along_plan : (p : P) (t : Trail) (a : A) → K p [] → plan_trail q p t a → Q a t
  along_plan p t a k h = along h.0 p [] t a k h.1

-- one way or the other
pub either_way : {A : Type 0} (z : Bool) (o u : Option A) (P : Type 0) (Q : A → Type 0) → Outcome o P Q → Outcome u P Q → Outcome (if z then o else u) P Q
either_way true o u P Q h i = h
either_way false o u P Q h i = i

-- ---- what is shown

abbrev era_load : Me → ℕ → Seen
era_load me e = pair (Load (address me.geometry (place.Era me.who me.who))) e

abbrev root_load : Me → ℕ → ℕ → Seen
root_load me j n = pair (Load (address me.geometry (place.Root me.who j))) n

pub root_more : (me : Me) (j : ℕ) (tr t : Trail) → LoadsRoot me j tr → LoadsRoot me j (tr ++ t)
root_more me j tr t (n, some, there) = (n, some, Contains-append_left tr t (root_load me j n) there)

pub shows_more : (me : Me) (a : Answer) (tr t : Trail) → Shows me a tr → Shows me a (tr ++ t)
shows_more me (answer.CountFull b n) tr t (s, there, is, count) = (s, Contains-append_left tr t s there, is, count)
shows_more me (answer.Full s b) tr t (before, middle, after, split, found) =
    (before, middle, after ++ t, ap (λ (u : Trail). u ++ t) split ∙ (append_assoc before (middle ++ after) t ∙ ap (λ (u : Trail). before ++ u) (append_assoc middle after t)), found)
shows_more me (answer.EraSpent e) tr t h = Contains-append_left tr t (era_load me e) h
shows_more me answer.RootsFull tr t h = λ j l. root_more me j tr t (h j l)
shows_more me _ tr t h = tt

pub shows_later : (me : Me) (a : Answer) (tr t : Trail) → Shows me a t → Shows me a (tr ++ t)
shows_later me (answer.CountFull b n) tr t (s, there, is, count) = (s, Contains-append_right tr t s there, is, count)
shows_later me (answer.Full s b) tr t (before, middle, after, split, found) = (tr ++ before, middle, after, ap (λ (u : Trail). tr ++ u) split ∙ sym (append_assoc tr before (middle ++ after)), found)
shows_later me (answer.EraSpent e) tr t h = Contains-append_right tr t (era_load me e) h
shows_later me answer.RootsFull tr t h = λ j l. (let y = h j l in (y.0, y.1, Contains-append_right tr t (root_load me j y.0) y.2))
shows_later me _ tr t h = tt

-- where it was refused, if it was
abbrev pub Faulty : Me → Option PutFault → Trail → Type 0
Faulty me None tr = Unit {0}
Faulty me (Some f) tr = Shows me (fault_answer f) tr

pub faulty_more : (me : Me) (o : Option PutFault) (tr t : Trail) → Faulty me o tr → Faulty me o (tr ++ t)
faulty_more me None tr t h = tt
faulty_more me (Some f) tr t h = shows_more me (fault_answer f) tr t h

-- ---- allocations and count steps

pub alloc_shows : (me : Me) (q : Request) (f : AllocFault) (tr t : Trail) → q.near ≡ record { segment = 0; page = 0; index = 0 } → alloc_trail me q t (Err f) → Shows me (fault_answer (made_fault f)) (tr ++ t)
alloc_shows me q (alloc.EraSpent e) tr t near h = shows_later me (answer.EraSpent e) tr t (alloc_era me q t e h)
alloc_shows me q alloc.RootsFull tr t near h = shows_later me answer.RootsFull tr t (alloc_roots me q t h)
alloc_shows me q (alloc.Full s b) tr t near h = (tr, t, [], ap (λ (u : Trail). tr ++ u) (sym (append-nil t)), (q, near, h))

pub step_shows : (me : Me) (own : Me) (slot : ℕ) (x : Aim) (f : UpFault) (tr t : Trail) → own ≡ me → step_trail own slot x t (Err f) → Shows me (fault_answer (raised_fault f)) (tr ++ t)
step_shows me own slot x (up.EraSpent e) tr t k h = shows_later me (answer.EraSpent e) tr t (subst (λ y. LoadsEra y e t) k (step_era own slot x t e h))
step_shows me own slot x (up.CountFull b n) tr t k h = shows_later me (answer.CountFull b n) tr t (step_reads own slot x t b n h)
