-- a get by its control: where it is about to give back the latch with what it found, and where it has given it back
use Rattle.std.proofs.Common.{◌≡◌, ℕ, ◌<◌, refl, sym, ap, ◌∙◌, subst, [], ◌∷◌}
use Rattle.std.specs.{Prelude.{Option, Some, None}, Option.option_map}
use Rattle.shm_graph.specs.{declared.{memo.Memo.Memo, spot.Spot.Spot}, Asks.Trail, Held.HeldAt, Tells.after_all}
use Rattle.shm_graph.specs.Views.{view}
use Rattle.plans.specs.declared.{or.Or.TheVariants.{First, Second}, word.Word.Word}
use Rattle.plans.specs.{CallsControl.{answered, called_on, calls_of, planned}, CallsFit.CallsFits, Words.word_control}
use Rattle.kind_parts.specs.Reparting.{map_in}
use Rattle.shm_script.specs.declared.log.Answer.TheVariants as answer
use Rattle.shm_table.specs.declared.{find.Found.{Found, TheVariants.{Absent, At}}, get.GetPoint.GetPoint}
use Rattle.shm_table.specs.declared.get.GetPoint.TheVariants.{Search, Value, Number, Missing, Known}
use Rattle.shm_table.specs.declared.{get.GetState.GetState, unlatch.UnlatchPoint.UnlatchPoint}
use Rattle.shm_table.specs.declared.unlatch.{UnlatchPoint.TheVariants.{Give, Back}, UnlatchState.UnlatchState}
use Rattle.shm_table.specs.Get.Control.{GetCall, GetCalls, get_answer, get_parts, get_steered, read_after}
use Rattle.shm_table.specs.{Get.{GetKnows, get_plan, Tells.IsReady}, Locate.Control.locate_control, Machines.Get.get}
use Rattle.shm_table.specs.Proved.Get.Tells.{ready_maps}
use Rattle.shm_table.specs.Unlatch.Control.{UnlatchCalls, unlatch_after, unlatch_control, unlatch_steered, unlatch_turns, unlatching}

-- ---- by its control

-- it has found a number and a block, and has given back the latch but for its hold word
pub record IsBack (m : GetCalls) : Type 0 where
  pub point : m.plan.point ≡ Known
  pub unlatch : UnlatchCalls
  pub call : m.call ≡ Second (Second unlatch)
  pub back : unlatch.plan.point ≡ Back

-- it has found them, and is about to give the latch back
pub record IsGiving (m : GetCalls) : Type 0 where
  pub point : m.plan.point ≡ Known
  pub unlatch : UnlatchCalls
  pub call : m.call ≡ Second (Second unlatch)
  pub give : unlatch.plan.point ≡ Give

abbrev at : GetState → GetCall → GetCalls
at p c = record { plan = p; call = c }

-- where its unlatching is
abbrev point_in : GetCall → UnlatchPoint
point_in (First c) = Give
point_in (Second (First w)) = Give
point_in (Second (Second u)) = u.plan.point

-- an unlatching that is begun isn't at its second word step
begins : (p : GetState) (u : UnlatchCalls) → ◌≡◌ {A = GetCall} (Second (Second (calls_of unlatch_steered (unlatching p.me p.author)))) (Second (Second u)) → u.plan.point ≡ Back → ⊥
begins p u e f = let z : Give ≡ Back = ap point_in e ∙ f in cc

-- nor is what comes after a word that was loaded
loaded : (p : GetState) (n : ℕ) (y : GetPoint) → IsBack (calls_of get_steered (read_after p y n)) → ⊥
loaded p n Value b = let z = b.point in cc
loaded p n Search b = begins (record p { number = n; point = Known }) b.unlatch b.call b.back
loaded p n Number b = begins (record p { number = n; point = Known }) b.unlatch b.call b.back
loaded p n Missing b = begins (record p { number = n; point = Known }) b.unlatch b.call b.back
loaded p n Known b = begins (record p { number = n; point = Known }) b.unlatch b.call b.back

-- where it comes to have given the latch back it was about to
abbrev Came : GetState → GetCall → GetCalls → Type 0
Came p c m = IsGiving (at p c) × (m.plan ≡ p)

came : (p : GetState) (c : GetCall) (n : ℕ) → answered get_parts get_steered p (get_parts.turns c n) ≡ None → IsBack (called_on get_parts get_steered p (get_parts.after c n) (get_parts.turns c n)) → Came p c (called_on get_parts get_steered p (get_parts.after c n) (get_parts.turns c n))
came p (First c) n none b = absurd (go (locate_control.turns c n) b)
  where
    go : (o : Option Found) → IsBack (called_on get_parts get_steered p (First (locate_control.after c n)) (option_map First o)) → ⊥
    go None b = let z = b.call in cc
    go (Some (At e x w)) b = let z = b.point in cc
    go (Some (Absent home first)) b = let z = b.point in cc
came p (Second (First w)) n none b = absurd (loaded p n p.point b)
came p (Second (Second u)) n none b = go u.plan.point refl none b
  where
    go : (y : UnlatchPoint) → u.plan.point ≡ y → answered get_parts get_steered p (option_map Second (option_map Second (unlatch_turns y))) ≡ None → IsBack (called_on get_parts get_steered p (Second (Second (unlatch_control.after u n))) (option_map Second (option_map Second (unlatch_turns y))))
        → Came p (Second (Second u)) (called_on get_parts get_steered p (Second (Second (unlatch_control.after u n))) (option_map Second (option_map Second (unlatch_turns y))))
    go Give e none b = (record { point = b.point; unlatch = u; call = refl; give = e }, refl)
    go Back e none b = absurd (cc)

pub came_back : (m : GetCalls) (n : ℕ) → get.turns m n ≡ None → IsBack (get.after m n) → IsGiving m × ((get.after m n).plan ≡ m.plan)
came_back m n none b = came m.plan m.call n none b

-- what it answers it has found, and it has given the latch back
abbrev Has : GetState → GetCall → ℕ → ℕ → Type 0
Has p c n v = IsBack (at p c) × (p.number ≡ n) × (p.block ≡ v)

ends : (p : GetState) (c : GetCall) (x n v : ℕ) → answered get_parts get_steered p (get_parts.turns c x) ≡ Some (answer.Value n v) → Has p c n v
ends p (First c) x n v e = go (locate_control.turns c x) e
  where
    go : (o : Option Found) → answered get_parts get_steered p (option_map First o) ≡ Some (answer.Value n v) → Has p (First c) n v
    go None e = absurd (cc)
    go (Some f) e = absurd (cc)
ends p (Second (First w)) x n v e = absurd (cc)
ends p (Second (Second u)) x n v e = go u.plan.point refl e
  where
    of : (y : GetPoint) → p.point ≡ y → u.plan.point ≡ Back → Some (get_answer p y) ≡ Some (answer.Value n v) → Has p (Second (Second u)) n v
    of Known is back e = (record { point = is; unlatch = u; call = refl; back = back }, cc, cc)
    of Search is back e = absurd (cc)
    of Value is back e = absurd (cc)
    of Number is back e = absurd (cc)
    of Missing is back e = absurd (cc)

    go : (y : UnlatchPoint) → u.plan.point ≡ y → answered get_parts get_steered p (option_map Second (option_map Second (unlatch_turns y))) ≡ Some (answer.Value n v) → Has p (Second (Second u)) n v
    go Give is e = absurd (cc)
    go Back is e = of p.point refl is e

pub ends_back : (m : GetCalls) (x n v : ℕ) → get.turns m x ≡ Some (answer.Value n v) → IsBack m × (m.plan.number ≡ n) × (m.plan.block ≡ v)
ends_back m x n v e = ends m.plan m.call x n v e

-- ---- by its memo

-- after a word step of its own an unlatching is at the second one
after_point : (p : UnlatchState) (c : Word) (n : ℕ) → (called_on word_control unlatch_steered p (word_control.after c n) (Some n)).plan.point ≡ Back
after_point p c n = go p.point refl
  where
    go : (y : UnlatchPoint) → p.point ≡ y → (planned word_control unlatch_steered (word_control.after c n) (unlatch_after p y) (unlatch_turns y)).plan.point ≡ Back
    go Give e = refl
    go Back e = e

stays : (u : UnlatchCalls) (t : Trail) → u.plan.point ≡ Back → point_in (after_all get_parts (Second (Second u)) t) ≡ Back
stays u [] e = e
stays u (x ∷ t) e = stays (unlatch_control.after u x.word) t (after_point u.plan u.call x.word)

-- at its first one it has made none
none_made : (u v : UnlatchCalls) (t : Trail) → after_all get_parts (Second (Second u)) t ≡ Second (Second v) → v.plan.point ≡ Give → ◌≡◌ {A = GetCall} (Second (Second v)) (Second (Second u))
none_made u v [] e f = sym e
none_made u v (x ∷ t) e f = absurd (let z : Give ≡ Back = sym f ∙ (sym (ap point_in e) ∙ stays (unlatch_control.after u x.word) t (after_point u.plan u.call x.word)) in cc)

module _ (m : GetCalls) (r0 r : Memo) (tr : Trail) (fit : CallsFits get_parts get_plan m r0 r tr) (h : IsGiving m) where
  ready : IsReady m
  ready =
      let fresh = calls_of unlatch_steered (unlatching m.plan.me m.plan.author) in
      let there : after_all get_parts (Second (Second fresh)) fit.t ≡ m.call = subst (λ (y : GetPoint). after_all get_parts (get_steered.call (record m.plan { point = y })) fit.t ≡ m.call) h.point fit.there in
      record { point = h.point; call = h.call ∙ none_made fresh h.unlatch fit.t (there ∙ h.call) h.give }

  pub giving_author : m.plan.author < m.plan.me.geometry.clients
  giving_author = (subst (λ (y : GetPoint). GetKnows m.plan y r0 fit.rs fit.before fit.es) h.point fit.knows).0.reading.may.author

  -- in each state that holds with this memo they are what the author's map has at the key
  pub giving_maps : (w : Spot → ℕ) (rs : ℕ → Memo) → HeldAt m.plan.me.geometry w (view rs) → rs m.plan.me.who ≡ r → map_in (rs m.plan.author).part m.plan.key ≡ Some (m.plan.number, m.plan.block)
  giving_maps w rs held same = ready_maps m r0 r tr fit ready w rs held same
