-- what stays known of an identity after a call
use Rattle.std.proofs.Common.{◌≡◌, ◌≢◌, ℕ, Bool, true, false, Option, Some, IfSome, refl, sym, ap, ◌∙◌}
use Rattle.std.proofs.lemmas.Bool.{true≢false}
use Rattle.std.specs.{List.Contains, Option.is_some}
use Rattle.shm_graph.specs.{Agents.recovers, Held.is_loose, Reach.is_reached}
use Rattle.shm_plain.specs.{Calls.{IsAtWork, Ran}, Pools.{Pool, memo_of}}
use Rattle.shm_count.specs.Waiting.{IsQuiet, LeavesWaiting}
use Rattle.t_calls.specs.{declared.standing.Known.Known, Known.{After, IsKnown, bare, kept, released, unsettled}}

module _ (k : Known) (c : ℕ) (p q : Pool) (h : IsKnown k c p) (work : IsAtWork c q) (kind : recovers (memo_of q c) ≡ recovers (memo_of p c)) (loose : is_loose (memo_of q c).part ≡ is_loose (memo_of p c).part) where
  quiet_by : LeavesWaiting (memo_of p c) (memo_of q c) → IsQuiet (memo_of p c) → IsQuiet (memo_of q c)
  quiet_by left quiet = record { dying = left.dying ∙ quiet.dying; unsent = λ j. left.unsent j ∙ quiet.unsent j; untaken = λ j. left.untaken j ∙ quiet.untaken j }

  -- nothing but that it is between two calls
  pub known_bare : IsKnown bare c q
  known_bare =
      record {
        work = work;
        client = kind ∙ h.client;
        loose = loose ∙ h.loose;
        free = λ e. absurd (true≢false (sym e));
        held = λ e. absurd (true≢false (sym e));
        quiet = λ e. absurd (true≢false (sym e));
        found = λ n. absurd (n refl);
        dying = λ n. absurd (n refl);
      }

  -- and a block whose count came to 0
  pub known_dying : (b : ℕ) → Contains (memo_of q c).dying b → IsKnown (record bare { dying = b }) c q
  known_dying b found =
      record {
        work = work;
        client = kind ∙ h.client;
        loose = loose ∙ h.loose;
        free = λ e. absurd (true≢false (sym e));
        held = λ e. absurd (true≢false (sym e));
        quiet = λ e. absurd (true≢false (sym e));
        found = λ n. absurd (n refl);
        dying = λ n. found;
      }

  -- the latch is given back
  pub known_free : (memo_of q c).latch ≡ Option.None → LeavesWaiting (memo_of p c) (memo_of q c) → IsKnown (released k) c q
  known_free latch left =
      record {
        work = work;
        client = kind ∙ h.client;
        loose = loose ∙ h.loose;
        free = λ e. latch;
        held = λ e. absurd (true≢false (sym e));
        quiet = λ e. quiet_by left (h.quiet e);
        found = λ n. absurd (n refl);
        dying = λ n. absurd (n refl);
      }

  -- a latch is held
  pub known_held : (a : ℕ) → (memo_of q c).latch ≡ Some a → LeavesWaiting (memo_of p c) (memo_of q c) → IsKnown (record k { free = false; held = true; found = 0; dying = 0 }) c q
  known_held a latch left =
      record {
        work = work;
        client = kind ∙ h.client;
        loose = loose ∙ h.loose;
        free = λ e. absurd (true≢false (sym e));
        held = λ e. ap (λ (o : Option ℕ). is_some o) latch;
        quiet = λ e. quiet_by left (h.quiet e);
        found = λ n. absurd (n refl);
        dying = λ n. absurd (n refl);
      }

  module _ (latch : (memo_of q c).latch ≡ (memo_of p c).latch) where
    held_by : is_some (memo_of p c).latch ≡ true → is_some (memo_of q c).latch ≡ true
    held_by e = ap (λ (o : Option ℕ). is_some o) latch ∙ e

    pub known_kept : LeavesWaiting (memo_of p c) (memo_of q c) → IsKnown (kept k) c q
    known_kept left =
        record {
          work = work;
          client = kind ∙ h.client;
          loose = loose ∙ h.loose;
          free = λ e. latch ∙ h.free e;
          held = λ e. held_by (h.held e);
          quiet = λ e. quiet_by left (h.quiet e);
          found = λ n. absurd (n refl);
          dying = λ n. absurd (n refl);
        }

    pub known_unsettled : IsKnown (unsettled k) c q
    known_unsettled =
        record {
          work = work;
          client = kind ∙ h.client;
          loose = loose ∙ h.loose;
          free = λ e. latch ∙ h.free e;
          held = λ e. held_by (h.held e);
          quiet = λ e. absurd (true≢false (sym e));
          found = λ n. absurd (n refl);
          dying = λ n. absurd (n refl);
        }

    -- a block was found
    pub known_found : (b : ℕ) → (b ≢ 0 → is_reached c (memo_of q c) b ≡ true) → IsKnown (record k { quiet = false; found = b; dying = 0 }) c q
    known_found b reached =
        record {
          work = work;
          client = kind ∙ h.client;
          loose = loose ∙ h.loose;
          free = λ e. latch ∙ h.free e;
          held = λ e. held_by (h.held e);
          quiet = λ e. absurd (true≢false (sym e));
          found = reached;
          dying = λ n. absurd (n refl);
        }

-- nothing but a call of c
pub after_ran : (c : ℕ) (p q : Pool) (fresh answered : Bool) (x y : ℕ) (o : Option Known) → Ran c fresh answered p q x y → IfSome o (λ k. IsKnown k c q) → After c p q o
after_ran c p q fresh answered x y o ran known = record { start = ran.start; others = ran.others; known = known }
