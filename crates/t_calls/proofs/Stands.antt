-- how the identities of a pool stand, and how that stays so
use Rattle.std.proofs.Common.{◌≡◌, ◌≢◌, ℕ, ◌<◌, Bool, true, false, Option, Some, None, IfSome, refl, sym, ap, ◌∙◌, subst, inl, inr}
use Rattle.std.proofs.lemmas.Bool.{cases_eq, eq-eqb, leb-false, ne_eqb, true≢false}
use Rattle.std.specs.Prelude.{if◌then◌else◌, nat_le}
use Rattle.shm_words.specs.Layout.{GeometryFits}
use Rattle.shm_graph.specs.{declared.{memo.Memo.Memo, run.Start.Start}, Agents.{acts, last_agent, recovers}}
use Rattle.shm_graph.specs.{Held.is_loose, Idle.IsIdle, Runs.{fell_by, first_memo}}
use Rattle.shm_plain.specs.{Calls.IsAtWork, Pools.{Pool, memo_of}}
use Rattle.shm_client.specs.Clear.{IsClear}
use Rattle.t_calls.specs.declared.standing.{Known.Known, Standing.{Standing, TheVariants.{New, Works, Fallen, Lost}}}
use Rattle.t_calls.specs.Known.{After, IsKnown, IsSo, Stand, begun, joined_known, pick, placed_first, placed_second, stood}

module _ (d : ℕ) (p q : Pool) (start : q.start ≡ p.start) (same : memo_of q d ≡ memo_of p d) where
  -- what is known of an identity whose memo is what it was
  known_same : (k : Known) → IsKnown k d p → IsKnown k d q
  known_same k h =
      record {
        work = record {
          geometry = subst (λ (s : Start). GeometryFits s.geometry) (sym start) h.work.geometry;
          who = subst (λ (s : Start). d < s.geometry.clients) (sym start) h.work.who;
          idle = subst (λ (m : Memo). IsIdle d m) (sym same) h.work.idle;
          acts = ap acts same ∙ h.work.acts;
        };
        client = ap recovers same ∙ h.client;
        loose = ap (λ (m : Memo). is_loose m.part) same ∙ h.loose;
        free = λ e. ap (λ (m : Memo). m.latch) same ∙ h.free e;
        held = λ e. rw same (h.held e);
        quiet = λ e. rw same (h.quiet e);
        found = λ n. rw same (h.found n);
        dying = λ n. rw same (h.dying n);
      }

  pub so_same : (s : Standing) → IsSo s d p → IsSo s d q
  so_same New h = (subst (λ (s : Start). d < s.geometry.clients) (sym start) h.0, ap (λ (s : Start). s.tables) start ∙ h.1, same ∙ (h.2 ∙ ap (λ (s : Start). first_memo s d) (sym start)))
  so_same (Works k) h = known_same k h
  so_same Fallen h = (subst (λ (s : Start). d < s.geometry.clients) (sym start) h.0, ap (λ (m : Memo). fell_by (last_agent m.agents)) same ∙ h.1)
  so_same Lost h = tt

-- the one that is picked stands so
pub pick_so : (s t : Standing) (p : Pool) (c : ℕ) → Stand s t p → IsSo (pick s t c) c p
pick_so s t p c h =
    elim (cases_eq c 0) [
      | inl e ↦ rw (eq-eqb c 0 e) (subst (λ i. IsSo s i p) (sym e) h.first)
      | inr n ↦ rw (ne_eqb c 0 n) (elim (cases_eq c 1) [
        | inl e ↦ rw (eq-eqb c 1 e) (subst (λ i. IsSo t i p) (sym e) h.second)
        | inr m ↦ rw (ne_eqb c 1 m) tt
      ])
    ]

-- one comes to stand otherwise
first_so : (c : ℕ) (x s : Standing) (q : Pool) → IsSo x c q → (0 ≢ c → IsSo s 0 q) → IsSo (placed_first c x s) 0 q
first_so c x s q own other =
    elim (cases_eq c 0) [
      | inl e ↦ rw (eq-eqb c 0 e) (subst (λ i. IsSo x i q) e own)
      | inr n ↦ rw (ne_eqb c 0 n) (other (λ e. n (sym e)))
    ]

second_so : (c : ℕ) (x t : Standing) (q : Pool) → IsSo x c q → (1 ≢ c → IsSo t 1 q) → IsSo (placed_second c x t) 1 q
second_so c x t q own other =
    elim (cases_eq c 1) [
      | inl e ↦ rw (eq-eqb c 1 e) (subst (λ i. IsSo x i q) e own)
      | inr n ↦ rw (ne_eqb c 1 n) (other (λ e. n (sym e)))
    ]

pub stand_placed : (s t x : Standing) (c : ℕ) (p q : Pool) → Stand s t p → q.start ≡ p.start → ((d : ℕ) → d ≢ c → memo_of q d ≡ memo_of p d) → IsSo x c q → Stand (placed_first c x s) (placed_second c x t) q
stand_placed s t x c p q h start others own =
    record {
      geometry = subst (λ (z : Start). GeometryFits z.geometry) (sym start) h.geometry;
      first = first_so c x s q own (λ n. so_same 0 p q start (others 0 n) s h.first);
      second = second_so c x t q own (λ n. so_same 1 p q start (others 1 n) t h.second);
    }

-- where nothing is known of the others
pub stand_alone : (x : Standing) (c : ℕ) (q : Pool) → GeometryFits q.start.geometry → IsSo x c q → Stand (placed_first c x Lost) (placed_second c x Lost) q
stand_alone x c q geometry own = record { geometry = geometry; first = first_so c x Lost q own (λ n. tt); second = second_so c x Lost q own (λ n. tt) }

pub stood_so : (o : Option Known) (c : ℕ) (q : Pool) → IfSome o (λ k. IsKnown k c q) → IsSo (stood o) c q
stood_so (Some k) c q h = h
stood_so None c q h = tt

-- a call of a client leaves the others as they stood
pub stand_after : (s t : Standing) (c : ℕ) (p q : Pool) (o : Option Known) → Stand s t p → After c p q o → Stand (placed_first c (stood o) s) (placed_second c (stood o) t) q
stand_after s t c p q o h after = stand_placed s t (stood o) c p q h after.start after.others (stood_so o c q after.known)

-- one that has just joined
pub known_joined : (c : ℕ) (q : Pool) → IsAtWork c q → recovers (memo_of q c) ≡ false → IsClear (memo_of q c) → IsKnown joined_known c q
known_joined c q work client clear =
    record {
      work = work;
      client = client;
      loose = clear.loose;
      free = λ e. clear.latch;
      held = λ e. absurd (true≢false (sym e));
      quiet = λ e. record { dying = clear.dying; unsent = clear.unsent; untaken = clear.untaken };
      found = λ n. absurd (n refl);
      dying = λ n. absurd (n refl);
    }

-- how one stands after the first join of a pool
pub begun_so : (late same : Bool) (c : ℕ) (p : Pool) → (late ≡ false → same ≡ true → IsKnown joined_known c p) → (late ≡ false → same ≡ false → IsSo New c p) → IsSo (if late then Lost else if same then Works joined_known else New) c p
begun_so true same c p known new = tt
begun_so false true c p known new = known refl refl
begun_so false false c p known new = new refl refl

module _ (n d : ℕ) (p : Pool) (clients : n ≡ p.start.geometry.clients) (others : (c : ℕ) → c < p.start.geometry.clients → c ≢ d → memo_of p c ≡ first_memo p.start c) where
  begun_stands : (tables : Bool) (c : ℕ) → p.start.tables ≡ tables → (p.start.tables ≡ false → IsKnown joined_known d p) → IsSo (begun n tables c d) c p
  begun_stands true c single known = tt
  begun_stands false c single known =
      elim (cases_eq c d) [
        | inl e ↦ rw (eq-eqb c d e) (begun_so (nat_le n c) true c p (λ a b. subst (λ i. IsKnown joined_known i p) (sym e) (known single)) (λ a b. absurd (true≢false b)))
        | inr x ↦ rw (ne_eqb c d x) (begun_so (nat_le n c) false c p (λ a b. absurd (true≢false (sym b))) (λ a b. (let low : c < p.start.geometry.clients = subst (λ k. c < k) clients (leb-false n c a) in (low, single, others c low x))))
      ]

-- how the first two do
pub stand_begun : (n : ℕ) (tables : Bool) (d : ℕ) (p : Pool) (s t : Standing) → s ≡ begun n tables 0 d → t ≡ begun n tables 1 d → n ≡ p.start.geometry.clients → p.start.tables ≡ tables → GeometryFits p.start.geometry → (p.start.tables ≡ false → IsKnown joined_known d p) → ((c : ℕ) → c < p.start.geometry.clients → c ≢ d → memo_of p c ≡ first_memo p.start c) → Stand s t p
stand_begun n tables d p s t first second clients single geometry known others =
    record {
      geometry = geometry;
      first = rw first (begun_stands n d p clients others tables 0 single known);
      second = rw second (begun_stands n d p clients others tables 1 single known);
    }
