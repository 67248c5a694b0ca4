-- what is left once the block of a queue was taken back
use Rattle.std.proofs.Common.{◌≡◌, ◌≢◌, ℕ, zero, suc, ◌+◌, ◌%◌, ◌<◌, ◌≤◌, ◌⊎◌, refl, sym, ap, ◌∙◌, subst, arith, add-one, Bool, false, List, [], ◌∷◌, ◌++◌, inl, inr}
use Rattle.std.proofs.lemmas.Bool.{cases_eq, cond-false, cond-true, eq-eqb, ne_eqb}
use Rattle.std.specs.Prelude.{slice_index}
use Rattle.shm_graph.specs.{declared.{ask.Me.Me, spot.Spot.Spot, memo.Memo.Memo, table.Part.Part}, Core.core}
use Rattle.shm_graph.specs.{Events.Event, MemoAfterStore.put, Held.HeldAt, Views.{own_word, view}}
use Rattle.shm_graph.specs.declared.spot.Spot.TheVariants as spot
use Rattle.shm_graph.specs.Events as event
use Rattle.kind_parts.specs.Reparting.{sight}
use Rattle.kind_parts.proofs.Items.{put_at}
use Rattle.plans.specs.Parts.{IsHeld}
use Rattle.shm_count.specs.{Roots.rest, Slots.{Took, Untouched}, Tear.Events.Walks}
use Rattle.shm_queue.specs.Proved.QueueSteps.{same_part}
use Rattle.shm_recover.specs.{Others.other_at, TakeBack.{Back, BackEvents, BacksEvents, TakenBack}}

module _ (me : Me) (l : me.who < me.geometry.clients) where
  nothing_at : (j : ℕ) (w : Spot → ℕ) (r : ℕ → Memo) → HeldAt me.geometry w (view r) → (j ≡ me.who) ⊎ (me.geometry.clients ≤ j) → slice_index (r me.who).unsent j ≡ 0
  nothing_at j w r h out = (h.no_queue me.who l j out).0

  -- in a held state nothing waits where there is no queue
  pub nothing_unsent : (j : ℕ) (m : Memo) → IsHeld me m → (j ≡ me.who) ⊎ (me.geometry.clients ≤ j) → slice_index m.unsent j ≡ 0
  nothing_unsent j m (w, r, h, same) out = subst (λ (x : Memo). slice_index x.unsent j ≡ 0) same (nothing_at j w r h out)

-- what leaves the core leaves it
pub back_core : (c : ℕ) (m q r : Memo) → core r ≡ core q → Back c m q → Back c m r
back_core c m q r e h =
    record {
      rest = ap rest e ∙ (h.rest ∙ ap (λ (x : Memo). rest (record m { unsent = x.unsent })) (sym e));
      op = ap (λ (x : Memo). x.op) e ∙ h.op;
      own = λ p n. ap (λ (x : Memo). own_word x.own p) e ∙ h.own p n;
      rows = λ j. subst (λ y. own_word m.own (spot.Era c j) ≤ y) (sym (ap (λ (x : Memo). own_word x.own (spot.Era c j)) e)) (h.rows j);
      unsent = λ j. subst (λ y. (y ≡ 0) ⊎ (y ≡ slice_index m.unsent j)) (sym (ap (λ (x : Memo). slice_index x.unsent j) e)) (h.unsent j);
    }

pub taken_core : (c n : ℕ) (m q r : Memo) → core r ≡ core q → TakenBack c n m q → TakenBack c n m r
taken_core c n m q r e h =
    record {
      back = back_core c m q r e h.back;
      before = λ j l o. ap (λ (x : Memo). slice_index x.unsent j) e ∙ h.before j l o;
      after = λ j o. ap (λ (x : Memo). slice_index x.unsent j) e ∙ h.after j o;
    }

-- a step down that was refused leaves each queue
pub back_untouched : (c : ℕ) (m q r : Memo) → Untouched c q r → Back c m q → Back c m r
back_untouched c m q r u h =
    record {
      rest = ap rest u.rest ∙ (h.rest ∙ ap (λ (x : Memo). rest (record m { unsent = x.unsent })) (sym u.rest));
      op = ap (λ (x : Memo). x.op) u.rest ∙ h.op;
      own = λ p n. u.own p n ∙ h.own p n;
      rows = λ j. let a = u.rows j in let b = h.rows j in omega arith;
      unsent = λ j. subst (λ y. (y ≡ 0) ⊎ (y ≡ slice_index m.unsent j)) (sym (ap (λ (x : Memo). slice_index x.unsent j) u.rest)) (h.unsent j);
    }

-- ---- a step down

module _ (c i k b : ℕ) (z : Bool) (m q r : Memo) (took : Took c (spot.Slot c i k) false b 0 z q r) where
  unsent_now : (j : ℕ) → slice_index r.unsent j ≡ slice_index (put 0 q.unsent i 0) j
  unsent_now j = ap (λ (x : Memo). slice_index x.unsent j) took.rest

  -- the queue has nothing that waits, and the others are as they were
  pub out_here : slice_index r.unsent i ≡ 0
  out_here = unsent_now i ∙ (put_at 0 q.unsent i 0 i ∙ cond-true _ _ _ (eq-eqb i i refl))

  pub out_there : (j : ℕ) → i ≢ j → slice_index r.unsent j ≡ slice_index q.unsent j
  out_there j n = unsent_now j ∙ (put_at 0 q.unsent i 0 j ∙ cond-false _ _ _ (ne_eqb i j n))

  pub back_took : Back c m q → Back c m r
  back_took h =
      record {
        rest = ap (λ (x : Memo). record x { unsent = r.unsent }) took.rest ∙ (ap (λ (t : Part). rest (record q { unsent = r.unsent; part = t })) (same_part c (sight c q) c i k 0) ∙ ap (λ (x : Memo). record x { unsent = r.unsent }) h.rest);
        op = took.op;
        own = λ p n. took.own p n ∙ h.own p n;
        rows = λ j. let a = took.rows j in let e = h.rows j in omega arith;
        unsent = λ j. elim (cases_eq i j) [
          | inl e ↦ inl (subst (λ y. slice_index r.unsent y ≡ 0) e out_here)
          | inr n ↦ subst (λ y. (y ≡ 0) ⊎ (y ≡ slice_index m.unsent j)) (sym (out_there j n)) (h.unsent j)
        ];
      }

-- ---- events

-- of a queue in which a block waited
pub waited_events : (c i k x : ℕ) (es ds : List Event) → x ≢ 0 → es ≡ event.Down c (spot.Slot c i k) x ∷ ds → (ds ≡ []) ⊎ Walks c x ds [] → BackEvents c i k x es
waited_events c i k zero es ds some e h = absurd (some refl)
waited_events c i k (suc x) es ds some e h = (ds, e, h)

-- one queue more
pub more_events : (c : ℕ) (m : Memo) (p : ℕ) (es ds : List Event) → BacksEvents c m p es → BackEvents c (other_at c p) (own_word m.own (spot.Tail c (other_at c p)) % 8) (slice_index m.unsent (other_at c p)) ds → BacksEvents c m (p + 1) (es ++ ds)
more_events c m p es ds h g = subst (λ j. BacksEvents c m j (es ++ ds)) (sym (add-one p)) (es, ds, refl, h, g)
