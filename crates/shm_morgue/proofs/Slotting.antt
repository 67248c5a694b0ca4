-- what is rescued, in places by identity
use Rattle.std.proofs.Common.{◌≡◌, ◌≢◌, ℕ, zero, suc, ◌+◌, ◌<◌, ◌≤◌, ◌⊎◌, List, [], ◌∷◌, ◌++◌, inl, inr, length, refl, sym, ap, ◌∙◌, subst, arith}
use Rattle.std.proofs.lemmas.{Bool.cases_eq, List.{get_or-set_other, get_or-set_same, length-replicate, length-set}}
use Rattle.std.proofs.lemmas.List.Elements.{Contains-append_cases, Contains-append_left, Contains-append_right, Contains-push, Contains-push_cases}
use Rattle.std.proofs.lemmas.List.Sorted.{Contains-permutation, IsPermutation-sym}
use Rattle.std.specs.Prelude.{Option, None, Some, MatchOption, replicate, slice_index_or, slice_set}
use Rattle.std.specs.List.{AllByRecursion, Contains}
use Rattle.shm_graph.proofs.States.FirstHeld.{same_everywhere}
use Rattle.shm_agents.specs.Turns.{script_in}
use Rattle.shm_pool.specs.Tokens.{Its}
use Rattle.shm_replay.proofs.Starting.{script_client}
use Rattle.shm_script.specs.{Logged.Logged, Values.{Scripted, Traced}}
use Rattle.shm_team.specs.{declared.{done.Done.Done, left.Left.Left}, Dones.{AreDones, IsDone, IsDoneBy, IsFinished}}
use Rattle.shm_morgue.specs.declared.{rule.Taken.Taken, worker.Outcome.Outcome}
use Rattle.shm_morgue.specs.{Crew.{HasWorked, HaveWorked, WasLeft, WasPut}, Dead.IsRescue}
use Rattle.shm_morgue.specs.Entries.{IsCarried, Puts, Takes, Which, all_put, all_taken, client_of, entry}
use Rattle.shm_morgue.specs.Slots.{AreEnough, AreRescued, HasRescued, IsEnough, either}

none_some : {A : Type 0} (x : A) → ◌≡◌ {A = Option A} None (Some x) → ⊥
none_some x e = absurd (cc)

some_same : {A : Type 0} (x y : A) → ◌≡◌ {A = Option A} (Some x) (Some y) → x ≡ y
some_same x y e = cc

no_element : {X : Type 0} (x : X) → Contains [] x → ⊥
no_element x h = let l = h.1 in omega arith

-- the only one
pub single : {X : Type 0} (a x : X) → Contains (a ∷ []) x → x ≡ a
single a x (zero, l, e) = sym e
single a x (suc k, l, e) = absurd (omega arith)

-- ---- places

either_from : (o q : Option Left) (k : Left) → either o q ≡ Some k → (o ≡ Some k) ⊎ (q ≡ Some k)
either_from (Some j) q k e = inl e
either_from None q k e = inr e

either_right : (o q : Option Left) (k : Left) → q ≡ Some k → (j : Left) × (either o q ≡ Some j)
either_right (Some j) q k e = (j, refl)
either_right None q k e = (k, e)

module _ (t : Traced) (p : Its) where
  -- nothing was taken
  pub none_rescued : (n : ℕ) → p.start.geometry.clients ≡ n → AreRescued t p [] (replicate n None)
  none_rescued n is =
      record {
        many = length-replicate n None ∙ sym is;
        only = λ c k e. absurd (none_some k (sym (same_everywhere n c None) ∙ e));
        each = λ x h. absurd (no_element x h);
      }

  among : (xs ys : List Taken) (c : ℕ) (k : Left) → ((x : Taken) → Contains xs x → Contains ys x) → HasRescued t p xs c k → HasRescued t p ys c k
  among xs ys c k sub h = record { taken = h.taken; among = sub h.taken h.among; client = h.client; rescue = h.rescue }

  -- one more was, and what is left of it was put into its place
  pub rescued_more : (xs : List Taken) (x : Taken) (k : Left) (slots slots2 : List (Option Left)) → client_of x < length slots → slots2 ≡ slice_set slots (client_of x) (Some k) → IsRescue t p x.corpse k → AreRescued t p xs slots → AreRescued t p (xs ++ x ∷ []) slots2
  rescued_more xs x k slots slots2 inside is rescue h =
      record {
        many = ap length is ∙ (length-set slots (client_of x) (Some k) ∙ h.many);
        only = λ c j e.
            elim (cases_eq c (client_of x)) [
              | inl same ↦
                  let here : k ≡ j = some_same k j (sym (at c same) ∙ e) in
                  record { taken = x; among = Contains-push xs x; client = sym same; rescue = subst (IsRescue t p x.corpse) here rescue }
              | inr other ↦ among xs (xs ++ x ∷ []) c j (λ y m. Contains-append_left xs (x ∷ []) y m) (h.only c j (sym (past c other) ∙ e))
            ];
        each = λ y m.
            elim (cases_eq (client_of y) (client_of x)) [
              | inl same ↦ (k, at (client_of y) same)
              | inr other ↦
                  elim (Contains-push_cases xs x y m) [
                    | inl old ↦ (let z = h.each y old in (z.0, past (client_of y) other ∙ z.1))
                    | inr new ↦ absurd (other (ap client_of (sym new)))
                  ]
            ];
      }
    where
      at : (c : ℕ) → c ≡ client_of x → slice_index_or slots2 c None ≡ Some k
      at c same = ap (λ (ss : List (Option Left)). slice_index_or ss c None) is ∙ (ap (λ (d : ℕ). slice_index_or (slice_set slots (client_of x) (Some k)) d None) same ∙ get_or-set_same slots (client_of x) (Some k) None inside)

      past : (c : ℕ) → c ≢ client_of x → slice_index_or slots2 c None ≡ slice_index_or slots c None
      past c other = ap (λ (ss : List (Option Left)). slice_index_or ss c None) is ∙ get_or-set_other slots (client_of x) c (Some k) None other

  -- those of others came into these places
  pub rescued_both : (xs ys : List Taken) (a b slots : List (Option Left)) → length slots ≡ length a → ((c : ℕ) → slice_index_or slots c None ≡ either (slice_index_or b c None) (slice_index_or a c None)) → AreRescued t p xs a → AreRescued t p ys b → AreRescued t p (xs ++ ys) slots
  rescued_both xs ys a b slots long is h g =
      record {
        many = long ∙ h.many;
        only = λ c k e.
            elim (either_from (slice_index_or b c None) (slice_index_or a c None) k (sym (is c) ∙ e)) [
              | inl there ↦ among ys (xs ++ ys) c k (Contains-append_right xs ys) (g.only c k there)
              | inr here ↦ among xs (xs ++ ys) c k (Contains-append_left xs ys) (h.only c k here)
            ];
        each = λ x m.
            elim (Contains-append_cases xs ys x m) [
              | inl here ↦
                  let z = h.each x here in
                  let r = either_right (slice_index_or b (client_of x) None) (slice_index_or a (client_of x) None) z.0 z.1 in
                  (r.0, is (client_of x) ∙ r.1)
              | inr there ↦
                  let z = g.each x there in
                  (z.0, is (client_of x) ∙ ap (λ (o : Option Left). either o (slice_index_or a (client_of x) None)) z.1)
            ];
      }

-- ---- whose corpse it is

module _ (t : Traced) (p : Its) (w : Which) where
  -- a worker's porter has put the corpse of its client alone
  own_put : (c : ℕ) (xs : List Taken) (l : Option Logged) (k : Option Left) → WasLeft t p c xs l k → (x : Taken) → Contains xs x → (client_of x ≡ c) × ((y : Taken) → Contains xs y → x ≡ y)
  own_put c xs l (Some k) h x m = absurd (no_element x (subst (λ (ys : List Taken). Contains ys x) h.0 m))
  own_put c xs l None h x m =
      let e = entry h.corpse 0 in
      let is : x ≡ e = single e x (subst (λ (ys : List Taken). Contains ys x) h.put m) in (
        ap client_of is ∙ (h.dead.who ∙ script_client t.scripts c h.script h.is),
        λ y n. is ∙ sym (single e y (subst (λ (ys : List Taken). Contains ys y) h.put n)),
      )

  put_from : (c : ℕ) (qs : List Puts) (os : List Outcome) → HaveWorked t p w c qs os → (x : Taken) → Contains (all_put qs) x → c ≤ client_of x
  put_from c [] os h x m = absurd (no_element x m)
  put_from c (q ∷ qs) [] h x m = absurd h
  put_from c (q ∷ qs) (o ∷ os) h x m =
      elim (Contains-append_cases q.entries (all_put qs) x m) [
        | inl own ↦ (let e = (own_put c q.entries o.log o.left h.0.1 x own).0 in omega arith)
        | inr rest ↦ (let e = put_from (suc c) qs os h.1 x rest in omega arith)
      ]

  -- of each client one was put at most
  put_once : (c : ℕ) (qs : List Puts) (os : List Outcome) → HaveWorked t p w c qs os → (x y : Taken) → Contains (all_put qs) x → Contains (all_put qs) y → client_of x ≡ client_of y → x ≡ y
  put_once c [] os h x y m n same = absurd (no_element x m)
  put_once c (q ∷ qs) [] h x y m n same = absurd h
  put_once c (q ∷ qs) (o ∷ os) h x y m n same =
      elim (Contains-append_cases q.entries (all_put qs) x m) [
        | inl own ↦
            let a = own_put c q.entries o.log o.left h.0.1 x own in
            elim (Contains-append_cases q.entries (all_put qs) y n) [
              | inl own2 ↦ a.1 y own2
              | inr rest2 ↦ absurd (let e = a.0 in let f = put_from (suc c) qs os h.1 y rest2 in omega arith)
            ]
        | inr rest ↦
            elim (Contains-append_cases q.entries (all_put qs) y n) [
              | inl own2 ↦ absurd (let e = (own_put c q.entries o.log o.left h.0.1 y own2).0 in let f = put_from (suc c) qs os h.1 x rest in omega arith)
              | inr rest2 ↦ put_once (suc c) qs os h.1 x y rest rest2 same
            ]
      ]

  -- ---- all is done

  module _ (all : List Puts) (outcomes : List Outcome) (worked : HaveWorked t p w 0 all outcomes) (ms : List Takes) (left : List Taken) (slots : List (Option Left)) (carried : IsCarried all ms left) (rescued : AreRescued t p (all_taken ms ++ left) slots) where
    -- what was rescued of a client that died
    found : (c : ℕ) (xs : List Taken) (l : Option Logged) (h : WasPut t p c xs l) → ((x : Taken) → Contains xs x → Contains (all_put all) x) → (k : Left) × (slice_index_or slots c None ≡ Some k) × IsFinished p h.script h.log k
    found c xs l h sub =
        let x = entry h.corpse 0 in
        let who : h.corpse.account.who ≡ c = h.dead.who ∙ script_client t.scripts c h.script h.is in
        let put : Contains (all_put all) x = sub x (subst (λ (ys : List Taken). Contains ys x) (sym h.put) (Contains-push [] x)) in
        let (k, lies) = rescued.each x (Contains-permutation (all_put all) (all_taken ms ++ left) x carried.once put) in
        let at : slice_index_or slots c None ≡ Some k = ap (λ (d : ℕ). slice_index_or slots d None) (sym who) ∙ lies in
        let r = rescued.only c k at in
        let back : Contains (all_put all) r.taken = Contains-permutation (all_taken ms ++ left) (all_put all) r.taken (IsPermutation-sym (all_put all) (all_taken ms ++ left) carried.once) r.among in
        let same : r.taken ≡ x = put_once 0 all outcomes worked r.taken x back put (r.client ∙ sym who) in
        (k, at, subst (λ (y : Taken). IsRescue t p y.corpse k) same r.rescue h.script h.log (ap (script_in t.scripts) who ∙ h.is) h.dead)

    one : (c : ℕ) (xs : List Taken) (l : Option Logged) (k : Option Left) → WasLeft t p c xs l k → ((x : Taken) → Contains xs x → Contains (all_put all) x)
        → MatchOption k ((j : Left) × (slice_index_or slots c None ≡ Some j) × IsDone t p c (record { log = l; left = j })) (λ j. IsDone t p c (record { log = l; left = j }))
    one c xs l (Some k) h sub = h.1
    one c xs l None h sub =
        let (k, at, done) = found c xs l h sub in (
          k,
          at,
          record {
            left = done.token;
            who = done.who ∙ script_client t.scripts c h.script h.is;
            by = subst (λ (o : Option Scripted). IsDoneBy o p c l k) (sym h.is) (h.log, h.logged, done);
          },
        )

    enough_from : (c : ℕ) (qs : List Puts) (os : List Outcome) → HaveWorked t p w c qs os → ((x : Taken) → Contains (all_put qs) x → Contains (all_put all) x) → AreEnough t p c os slots
    enough_from c [] [] h sub = tt
    enough_from c [] (o ∷ os) h sub = absurd h
    enough_from c (q ∷ qs) [] h sub = absurd h
    enough_from c (q ∷ qs) (o ∷ os) h sub = (
      one c q.entries o.log o.left h.0.1 (λ x m. sub x (Contains-append_left q.entries (all_put qs) x m)),
      enough_from (suc c) qs os h.1 (λ x m. sub x (Contains-append_right q.entries (all_put qs) x m)),
    )

    pub enough : AreEnough t p 0 outcomes slots
    enough = enough_from 0 all outcomes worked (λ x m. m)

  -- ---- lists that grow

  pub worked_more : (c : ℕ) (qs : List Puts) (os : List Outcome) (q : Puts) (o : Outcome) → HaveWorked t p w c qs os → HasWorked t p w (c + length qs) q o → HaveWorked t p w c (qs ++ q ∷ []) (os ++ o ∷ [])
  worked_more c [] [] q o h one = (let e : c + 0 ≡ c = omega arith in subst (λ (n : ℕ). HasWorked t p w n q o) e one, tt)
  worked_more c [] (x ∷ os) q o h one = absurd h
  worked_more c (y ∷ qs) [] q o h one = absurd h
  worked_more c (y ∷ qs) (x ∷ os) q o h one = (h.0, worked_more (suc c) qs os q o h.1 (let e : c + suc (length qs) ≡ suc c + length qs = omega arith in subst (λ (n : ℕ). HasWorked t p w n q o) e one))

  pub worked_long : (c : ℕ) (qs : List Puts) (os : List Outcome) → HaveWorked t p w c qs os → length os ≡ length qs
  worked_long c [] [] h = refl
  worked_long c [] (o ∷ os) h = absurd h
  worked_long c (q ∷ qs) [] h = absurd h
  worked_long c (q ∷ qs) (o ∷ os) h = ap suc (worked_long (suc c) qs os h.1)

  pub worked_of : (c : ℕ) (qs : List Puts) (os : List Outcome) → HaveWorked t p w c qs os → AllByRecursion (λ (q : Puts). q.of ≡ w) qs
  worked_of c [] os h = tt
  worked_of c (q ∷ qs) [] h = absurd h
  worked_of c (q ∷ qs) (o ∷ os) h = (h.0.0, worked_of (suc c) qs os h.1)

module _ (t : Traced) (p : Its) where
  pub dones_more : (c : ℕ) (ds : List Done) (d : Done) → AreDones t p c ds → IsDone t p (c + length ds) d → AreDones t p c (ds ++ d ∷ [])
  dones_more c [] d h one = (let e : c + 0 ≡ c = omega arith in subst (λ (n : ℕ). IsDone t p n d) e one, tt)
  dones_more c (x ∷ ds) d h one = (h.0, dones_more (suc c) ds d h.1 (let e : c + suc (length ds) ≡ suc c + length ds = omega arith in subst (λ (n : ℕ). IsDone t p n d) e one))

  -- a place of an identity before c was emptied
  pub enough_past : (b c : ℕ) (os : List Outcome) (slots : List (Option Left)) (v : Option Left) → b < c → AreEnough t p c os slots → AreEnough t p c os (slice_set slots b v)
  enough_past b c [] slots v l h = tt
  enough_past b c (o ∷ os) slots v l h = (
    subst (IsEnough t p c o) (sym (get_or-set_other slots b c v None (λ e. absurd (omega arith)))) h.0,
    enough_past b (suc c) os slots v (omega arith) h.1,
  )
