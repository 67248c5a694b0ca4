-- A forest before its first line.
use Rattle.std.proofs.Common.{◌≡◌, ℕ, zero, suc, ◌+◌, ◌<◌, ◌≤◌, Bool, true, false, lit≤, refl, sym, ap, ◌∙◌, subst, arith, inl}
use Rattle.std.specs.Prelude.{slice_index, slice_index_or, replicate, Option, Some, IfSome}
use Rattle.shm_words.specs.declared.geometry.Geometry.{Geometry}
use Rattle.shm_graph.specs.declared.{memo.{Kind.TheVariants.Client, Memo.Memo}, run.Start.Start}
use Rattle.shm_graph.specs.{declared.spot.Spot.TheVariants.{Home, Root}, Agents.{entered, recovers, steps_made}}
use Rattle.shm_graph.specs.{Held.is_loose, Runs.first_memo, Views.own_word}
use Rattle.shm_graph.proofs.States.FirstHeld.{memos_start}
use Rattle.shm_plain.specs.{Calls.{IsAtWork, Ran}, Pools.{IsRun, Pool, first_pool, memo_of}}
use Rattle.shm_recover.specs.Join.{JoinGives, join_fresh}
use Rattle.shm_tree.specs.{Forests.{HasVersions, IsForest, block_in}, Standing.IsTree, Trees.Empty, Working.IsWorking}
use Rattle.shm_tree.proofs.Moving.{nothing_tree}

at_replicate : {A : Type 0} (n r : ℕ) (x d : A) → r < n → slice_index_or (replicate n x) r d ≡ x
at_replicate zero r x d lt = absurd (omega arith)
at_replicate (suc n) zero x d lt = refl
at_replicate (suc n) (suc r) x d lt = at_replicate n r x d (omega arith)

zero_at : (n r : ℕ) → slice_index (replicate n 0) r ≡ 0
zero_at zero r = refl
zero_at (suc n) zero = refl
zero_at (suc n) (suc r) = zero_at n r

pub some_is : {A : Type 0} (P : A → Type 0) (o : Option A) (a : A) → o ≡ Some a → IfSome o P → P a
some_is {A} P o a e h = subst (λ (x : Option A). IfSome x P) e h

-- the start of a pool of one client for single calls
pub start_is : (s : Start) (g : Geometry) (n : ℕ) → s ≡ record { geometry = g; first_era = 1; tables = false } → (g.clients ≡ 1) × (g.segments ≡ n) × (g.wide ≡ false) → s ≡ record { geometry = record { clients = 1; segments = n; wide = false }; first_era = 1; tables = false }
start_is s g n is sizes = is ∙ ap (λ (h : Geometry). record { geometry = h; first_era = 1; tables = false }) whole
  where
    whole : g ≡ record { clients = 1; segments = n; wide = false }
    whole =
        ap (λ (x : ℕ). record { clients = x; segments = g.segments; wide = g.wide }) sizes.0
        ∙ (ap (λ (x : ℕ). record { clients = 1; segments = x; wide = g.wide }) sizes.1 ∙ ap (λ (x : Bool). record { clients = 1; segments = n; wide = x }) sizes.2)

-- the first word step of its client
pub first_step : (p : Pool) (x y : ℕ) → Ran 0 true true (first_pool p.start) p x y → y + 1 ≡ x → steps_made (memo_of p 0) ≡ 1
first_step p x y r one =
    let none : steps_made (memo_of (first_pool p.start) 0) ≡ 0 = ap (λ (m : ℕ → Memo). steps_made (m 0)) (memos_start p.start) in
    let made = r.made in
    omega (arith, one, none, made)

-- empty registers
none_at : (r : ℕ) → r < 12 → slice_index (replicate 12 16) r ≡ 16
none_at r lt = at_replicate 12 r 16 0 lt

pub opened_versions : (p : Pool) → HasVersions (record { pool = p; roots = replicate 12 16; tidy = true }) (replicate 12 Empty)
opened_versions p =
    record {
      long = refl;
      each =
          λ r lt.
          (let e : IsTree p (block_in p (slice_index (replicate 12 16) r)) Empty = subst (λ (k : ℕ). IsTree p (block_in p k) Empty) (sym (none_at r lt)) (nothing_tree p) in
          subst (IsTree p (block_in p (slice_index (replicate 12 16) r))) (sym (at_replicate 12 r Empty Empty lt)) e);
    }

module _ (p : Pool) (g : Geometry) (start : p.start ≡ record { geometry = g; first_era = 1; tables = false }) (one : g.clients ≡ 1) (roots : (k : ℕ) → own_word (memo_of p 0).own (Root 0 k) ≡ 0) (loose : is_loose (memo_of p 0).part ≡ true) (gives : JoinGives (join_fresh (record { geometry = g; who = 0 })) (entered Client (first_memo p.start 0)) (memo_of p 0) (memo_of p 0).call tt) (run : IsRun p) (work : IsAtWork 0 p) (client : recovers (memo_of p 0) ≡ false) where
  opened_working : IsWorking p
  opened_working =
      record {
        work = work;
        run = run;
        one = ap (λ (s : Start). s.geometry.clients) start ∙ one;
        client = client;
        reached = λ k b lt some names. absurd (some (sym names ∙ roots k));
        home = sym (run.held.at.mine 0 work.who (Home 0) refl) ∙ ap (λ (m : Memo). own_word m.own (Home 0)) gives.rest;
        loose = loose;
        dying = inl (ap (λ (m : Memo). m.dying) gives.rest);
        unsent = λ j. ap (λ (m : Memo). slice_index m.unsent j) gives.rest ∙ zero_at p.start.geometry.clients j;
        untaken = λ j. ap (λ (m : Memo). slice_index m.untaken j) gives.rest ∙ zero_at p.start.geometry.clients j;
      }

  not_low : (r : ℕ) → r < 12 → slice_index (replicate 12 16) r < 16 → ⊥
  not_low r lt lo = let e = none_at r lt in let l : 16 < 16 = subst (λ (k : ℕ). k < 16) e lo in omega arith

  pub opened_forest : IsForest (record { pool = p; roots = replicate 12 16; tidy = true })
  opened_forest =
      record {
        working = opened_working;
        latch = ap (λ (m : Memo). m.latch) gives.rest;
        long = refl;
        low = λ r lt. subst (λ (k : ℕ). k ≤ 16) (sym (none_at r lt)) (lit≤ tt);
        apart = λ r s lr ls lo e. absurd (not_low r lr lo);
        some = λ r lt lo e. absurd (not_low r lt lo);
        tidy = λ e k lt free. roots k;
        versions = (replicate 12 Empty, opened_versions p);
      }
