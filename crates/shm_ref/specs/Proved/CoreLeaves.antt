-- what a count step leaves of a memo it leaves of each memo with the same core
use Rattle.std.proofs.Common.{◌≡◌, ℕ, ◌+◌, ◌≤◌, sym, ap, ◌∙◌, subst, Bool, false, List, ◌++◌, cond, [], ◌∷◌}
use Rattle.std.specs.List.{Contains, filter}
use Rattle.shm_graph.specs.declared.{ask.Me.Me, memo.{Memo.Memo, Stored.Stored}}
use Rattle.shm_graph.specs.{declared.spot.Spot.TheVariants.{Body, Era, Home, Root}, Core.core, Reach.learnt}
use Rattle.shm_graph.specs.{MemoAfterStore.with_own, Views.own_word}
use Rattle.kind_parts.specs.Reparting.{sight}
use Rattle.shm_count.specs.declared.{answer.UpFault.{UpFault, TheVariants.{CountFull, EraSpent}}, point.Aim.Aim}
use Rattle.shm_count.specs.{Roots.rest, Slots.{Filled, Lost, Sifts, StepCause, Untouched}, Step.Parts.part_after}
use Rattle.shm_count.specs.Tear.Memos.{is_slot_word}

-- what stays of what a memo knows depends on what it knows, and on its value blocks
sifts_of : (c t : ℕ) (z : Bool) (a b r : Memo) → a.known ≡ b.known → a.values ≡ b.values → Sifts c t z a r → Sifts c t z b r
sifts_of c t z a b r known values k =
    record {
      looks = k.looks;
      slots = k.slots ∙ ap (filter is_slot_word) known;
      words = λ d s y l other o has. k.words d s y l other o (subst (λ (ks : List Stored). Contains ks (record { spot = s; value = y })) (sym known) has);
      values = λ d l has. k.values d l (subst (λ (vs : List ℕ). Contains vs d) (sym values) has);
    }

module _ (m q r : Memo) (same : core q ≡ core m) where
  -- the own home was filled
  pub filled_home : (c b : ℕ) → Filled c (Home c) b q r → Filled c (Home c) b m r
  filled_home c b h =
      record {
        rest = h.rest ∙ ap (λ (x : Memo). core (record x { own = r.own; part = part_after c (sight c x) (Home c) b })) same;
        own = λ s l. h.own s l ∙ ap (λ (x : Memo). own_word (with_own x (Home c) b).own s) same;
        era = h.era ∙ ap (λ (x : Memo). own_word x.own (Era c c) + 1) same;
        rows = λ j. subst (λ (x : Memo). own_word x.own (Era c j) ≤ own_word r.own (Era c j)) same (h.rows j);
      }

  -- a word of a block was filled
  pub filled_word : (c d i b : ℕ) → Filled c (Body d i) b q r → Filled c (Body d i) b m r
  filled_word c d i b h =
      record {
        rest = h.rest ∙ ap (λ (x : Memo). core (record x { own = r.own; known = learnt (Body d i) b x.known; part = part_after c (sight c x) (Body d i) b })) same;
        own = λ s l. h.own s l ∙ ap (λ (x : Memo). own_word x.own s) same;
        era = h.era ∙ ap (λ (x : Memo). own_word x.own (Era c c) + 1) same;
        rows = λ j. subst (λ (x : Memo). own_word x.own (Era c j) ≤ own_word r.own (Era c j)) same (h.rows j);
      }

  -- a word of a block lost a reference
  pub lost_word : (c d i t x : ℕ) (z : Bool) → Lost c (Body d i) false t x z q r → Lost c (Body d i) false t x z m r
  lost_word c d i t x z h =
      record {
        took = record {
          rest = h.took.rest ∙ ap (λ (y : Memo). rest (record y { part = part_after c (sight c y) (Body d i) x })) same;
          op = h.took.op;
          own = λ s l. h.took.own s l ∙ ap (λ (y : Memo). own_word y.own s) same;
          rows = λ j. subst (λ (y : Memo). own_word y.own (Era c j) ≤ own_word r.own (Era c j)) same (h.took.rows j);
          sifts = sifts_of c t z (record q { known = learnt (Body d i) x q.known }) (record m { known = learnt (Body d i) x m.known }) r (ap (λ (y : Memo). learnt (Body d i) x y.known) same) (ap (λ (y : Memo). y.values) same) h.took.sifts;
        };
        dying = h.dying ∙ ap (λ (y : Memo). y.dying ++ cond z (t ∷ []) []) same;
      }

  -- an own root did
  pub lost_root : (c k t x : ℕ) (z : Bool) → Lost c (Root c k) false t x z q r → Lost c (Root c k) false t x z m r
  lost_root c k t x z h =
      record {
        took = record {
          rest = h.took.rest ∙ ap (λ (y : Memo). rest (record y { part = part_after c (sight c y) (Root c k) x })) same;
          op = h.took.op;
          own = λ s l. h.took.own s l ∙ ap (λ (y : Memo). own_word (with_own y (Root c k) x).own s) same;
          rows = λ j. subst (λ (y : Memo). own_word y.own (Era c j) ≤ own_word r.own (Era c j)) same (h.took.rows j);
          sifts = sifts_of c t z q m r (ap (λ (y : Memo). y.known) same) (ap (λ (y : Memo). y.values) same) h.took.sifts;
        };
        dying = h.dying ∙ ap (λ (y : Memo). y.dying ++ cond z (t ∷ []) []) same;
      }

  -- nothing was done
  pub untouched_core : (c : ℕ) → Untouched c q r → Untouched c m r
  untouched_core c h =
      record {
        rest = h.rest ∙ ap (λ (x : Memo). core (record x { own = r.own })) same;
        own = λ s l. h.own s l ∙ ap (λ (x : Memo). own_word x.own s) same;
        rows = λ j. subst (λ (x : Memo). own_word x.own (Era c j) ≤ own_word r.own (Era c j)) same (h.rows j);
      }

  -- and why
  pub cause_core : (me : Me) (x : Aim) (f : UpFault) → StepCause me x q f → StepCause me x m f
  cause_core me x (EraSpent e) h = (h.0 ∙ ap (λ (y : Memo). own_word y.own (Era me.who me.who)) same, h.1)
  cause_core me x (CountFull b n) h = h
