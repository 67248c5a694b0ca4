-- one pass takes in the passes of all medics and all porters
use Rattle.std.proofs.Common.{◌≡◌, ℕ, List, [], ◌∷◌, ◌++◌, map, sym, refl, ap, ◌∙◌, subst, append_assoc, append-nil, length, arith}
use Rattle.std.proofs.lemmas.List.Elements.{All-nil, All-cons, All-head, All-tail}
use Rattle.std.specs.List.{All, AllByRecursion, Sorted.IsPermutation}
use Rattle.crossbeam_queue.specs.Passes.{view}
use Rattle.shm_morgue.specs.declared.rule.{Desk.Desk, Hands.Hands, Taken.Taken}
use Rattle.shm_morgue.specs.Closing.{IsEmptied, IsPlaceOf, desks_of, lists_of}
use Rattle.shm_morgue.specs.Entries.{IsCarried, IsInOrder, Puts, Takes, Which, all_put, all_taken}
use Rattle.shm_morgue.specs.{Hands.{IsMedic, Place, desk, first_list, hands, takes_of}, Keeps.{in_lists, on_desks}}

module _ {X : Type 0} (P : X → Type 0) where
  pub by_front : (xs : List X) (x : X) → AllByRecursion P (xs ++ x ∷ []) → AllByRecursion P xs
  by_front [] x a = tt
  by_front (y ∷ ys) x a = (a.0, by_front ys x a.1)

  pub by_last : (xs : List X) (x : X) → AllByRecursion P (xs ++ x ∷ []) → P x
  by_last [] x a = a.0
  by_last (y ∷ ys) x a = by_last ys x a.1

pub mapped : {X Y : Type 0} (f : X → Y) (xs ys : List X) → map f (xs ++ ys) ≡ map f xs ++ map f ys
mapped f [] ys = refl
mapped {X} {Y} f (x ∷ xs) ys = ap (λ (l : List Y). f x ∷ l) (mapped f xs ys)

abbrev pub both : Hands → Hands → Hands
both v w = record v { porters = w.porters ++ v.porters; medics = w.medics ++ v.medics }

pub medic_in : (front : List Takes) (all : List (List Taken)) (m : Takes) (v w u : Hands) (n k wc wd : ℕ) → v ≡ hands [] v.medics n k → w ≡ hands [] (m.entries ∷ []) wc wd → u ≡ both v w
    → all ≡ lists_of (front ++ m ∷ []) ++ v.medics → (u ≡ hands [] u.medics n k) × (all ≡ lists_of front ++ u.medics)
medic_in front all m v w u n k wc wd v_is w_is u_is is =
    let q : u ≡ hands [] (m.entries ∷ v.medics) n k = u_is ∙ ap (λ (z : Hands). both v z) w_is ∙ ap (λ (z : Hands). record z { medics = m.entries ∷ z.medics }) v_is in (
      q ∙ sym (λ j. hands [] (q j).medics n k),
      is ∙ (ap (λ (l : List (List Taken)). l ++ v.medics) (mapped (λ (t : Takes). t.entries) front (m ∷ [])) ∙ (append_assoc (lists_of front) (m.entries ∷ []) v.medics ∙ sym (λ j. lists_of front ++ (q j).medics))),
    )

pub porter_in : (front : List Puts) (all : List Desk) (p : Puts) (ms : List (List Taken)) (v w u : Hands) (n k wc wd : ℕ) → v ≡ hands v.porters ms n k → w ≡ hands (desk p.client p.entries ∷ []) [] wc wd → u ≡ both v w
    → all ≡ desks_of (front ++ p ∷ []) ++ v.porters → (u ≡ hands u.porters ms n k) × (all ≡ desks_of front ++ u.porters)
porter_in front all p ms v w u n k wc wd v_is w_is u_is is =
    let d : Desk = desk p.client p.entries in
    let q : u ≡ hands (d ∷ v.porters) ms n k = u_is ∙ ap (λ (z : Hands). both v z) w_is ∙ ap (λ (z : Hands). record z { porters = d ∷ z.porters }) v_is in (
      q ∙ sym (λ j. hands (q j).porters ms n k),
      is ∙ (ap (λ (l : List Desk). l ++ v.porters) (mapped (λ (t : Puts). desk t.client t.entries) front (p ∷ [])) ∙ (append_assoc (desks_of front) (d ∷ []) v.porters ∙ sym (λ j. desks_of front ++ (q j).porters))),
    )

-- the pass of one medic, before others are taken in
pub record First (now : Which) (front all : List Takes) (p : Place) : Type 0 where
  pub place : IsPlaceOf now p
  pub view_is : view p ≡ hands [] (view p).medics now.clients now.medics
  pub lists : lists_of all ≡ lists_of front ++ (view p).medics

pub first_in : (now : Which) (front all : List Takes) (m : Takes) (p : Place) → takes_of p ≡ m → IsMedic p → AllByRecursion (λ (t : Takes). t.of ≡ now) all → all ≡ front ++ m ∷ [] → First now front all p
first_in now front all m p seen is of items =
    let mine : (takes_of p).of ≡ now = ap (λ (t : Takes). t.of) seen ∙ by_last (λ (t : Takes). t.of ≡ now) front m (subst (AllByRecursion (λ (t : Takes). t.of ≡ now)) items of) in
    let list : List Taken = first_list (view p).medics in
    let q : view p ≡ hands [] (list ∷ []) now.clients now.medics = is.view_is ∙ (λ j. hands [] (list ∷ []) (mine j).clients (mine j).medics) in
    let one : m.entries ∷ [] ≡ (view p).medics = sym (λ j. (seen j).entries ∷ []) ∙ sym (λ j. (is.view_is j).medics) in record {
      place = ((λ j. (mine j).queue), is.rest);
      view_is = q ∙ sym (λ j. hands [] (q j).medics now.clients now.medics);
      lists = ap lists_of items ∙ (mapped (λ (t : Takes). t.entries) front (m ∷ []) ∙ ap (λ (l : List (List Taken)). lists_of front ++ l) one);
    }

put_is : (ps : List Puts) → on_desks (desks_of ps) ≡ all_put ps
put_is [] = refl
put_is (p ∷ ps) = ap (λ (l : List Taken). p.entries ++ l) (put_is ps)

taken_is : (ms : List Takes) → in_lists (lists_of ms) ≡ all_taken ms
taken_is [] = refl
taken_is (m ∷ ms) = ap (λ (l : List Taken). m.entries ++ l) (taken_is ms)

of_lists : (P : List Taken → Type 0) (ms : List Takes) → All P (lists_of ms) → All (λ (m : Takes). P m.entries) ms
of_lists P [] a = All-nil (λ (m : Takes). P m.entries)
of_lists P (m ∷ ms) a = All-cons (λ (m : Takes). P m.entries) m ms (All-head P m.entries (lists_of ms) a) (of_lists P ms (All-tail P m.entries (lists_of ms) a))

pub carried : (ps : List Puts) (ms : List Takes) (left : List Taken) (v u : Hands) (n k a b : ℕ) → v ≡ hands [] (lists_of ms) n k → u ≡ hands (desks_of ps) v.medics a b → IsEmptied u.porters u.medics left → IsCarried ps ms left
carried ps ms left v u n k a b v_is u_is e =
    let desks : u.porters ≡ desks_of ps = ap (λ (z : Hands). z.porters) u_is in
    let lists : u.medics ≡ lists_of ms = ap (λ (z : Hands). z.medics) u_is ∙ ap (λ (z : Hands). z.medics) v_is in record {
      once = subst (λ (l : List Taken). IsPermutation l (all_taken ms ++ left)) (ap on_desks desks ∙ put_is ps)
          (subst (λ (l : List Taken). IsPermutation (on_desks u.porters) (l ++ left)) (ap in_lists lists ∙ taken_is ms) e.once);
      order = of_lists (λ (m : List Taken). IsInOrder (m ++ left)) ms (subst (All (λ (m : List Taken). IsInOrder (m ++ left))) lists e.order);
    }

-- before a porter is taken in
pub none_in : (v : Hands) (all : List Desk) (ms : List (List Taken)) (n k : ℕ) → v ≡ hands [] ms n k → (v ≡ hands v.porters ms n k) × (all ≡ all ++ v.porters)
none_in v all ms n k e = (e ∙ sym (λ j. hands (e j).porters ms n k), sym (append-nil all) ∙ ap (λ (l : List Desk). all ++ l) (sym (λ j. (e j).porters)))

-- once all are
pub all_in : (ps : List Puts) (v : Hands) (all : List Desk) (ms : List (List Taken)) (n k : ℕ) → length ps ≡ 0 → all ≡ desks_of ps ++ v.porters → v ≡ hands v.porters ms n k → v ≡ hands all ms n k
all_in [] v all ms n k none is e = e ∙ ap (λ (l : List Desk). hands l ms n k) (sym is)
all_in (p ∷ ps) v all ms n k none is e = absurd (omega arith)
