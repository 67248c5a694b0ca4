-- loads under a latch that list value blocks: what stays, and what is kept: what is proved of it
use Rattle.std.proofs.Common.{◌≡◌, ℕ, sym, ap, ◌∙◌, subst, arith, Bool, true, false, eqb, ◌&&◌, List, [], ◌∷◌, ◌++◌, inl, inr}
use Rattle.std.proofs.lemmas.Bool.{cases_eq, cond-false, cond-true, eq-eqb, ne_eqb}
use Rattle.std.proofs.lemmas.List.Elements.{Contains-append_left, Contains-append_right}
use Rattle.std.specs.{Prelude.{◌==◌, if◌then◌else◌}, List.Contains}
use Rattle.shm_graph.specs.declared.{ask.Me.Me, memo.{Look.Look, Memo.Memo}, spot.Spot.TheVariants.{Body, Era, Hold}}
use Rattle.shm_graph.specs.{Core.core, Held.is_loose, Idle.{IsIdle, hold_word}, Reach.learnt}
use Rattle.shm_graph.specs.{MemoAfterRead.{is_entry, values_read}, Telling.{role_in, roles}, Views.own_word}
use Rattle.shm_graph.specs.declared.memo.Status.TheVariants as status
use Rattle.kind_parts.specs.{Conditions.IsHere, WordParts.ReferenceLoaded}
use Rattle.shm_count.specs.declared.{answer.UpFault.{UpFault, TheVariants.{CountFull, EraSpent}}, point.Aim.Aim}
use Rattle.shm_count.specs.{Roots.root_word, Slots.StepCause}
use Rattle.shm_table.specs.{Proved.Find.SearchLoads.learnt_keeps, Staying.Keeps, ValuesListed.ReadsMore}

-- what a load of a reference word leaves is that
pub reads_more_by : (b i : ℕ) (m : Memo) (n : ℕ) (x : Memo) → ReferenceLoaded b i m n x → ReadsMore m x
reads_more_by b i m n x h =
    elim (cases_eq n 0) [
      | inl e ↦ made m.looks m.values (h.left ∙ ap core {y = record m { known = learnt (Body b i) n m.known }} (cond-true (eqb n 0) _ _ (eq-eqb n 0 e))) (λ k q. q) (λ d q. q)
      | inr some ↦ made (m.looks ++ record { block = n; from = Body b i } ∷ []) (values_read m b i n)
          (h.left ∙ ap core {y = record m { looks = m.looks ++ record { block = n; from = Body b i } ∷ []; known = learnt (Body b i) n m.known; values = values_read m b i n }} (cond-false (eqb n 0) _ _ (ne_eqb n 0 some)))
          (λ k q. Contains-append_left m.looks (record { block = n; from = Body b i } ∷ []) k q) (more (is_entry (role_in (roles m) b) && (i == 1)) (is_loose m.part))
    ]
  where
    made : (ls : List Look) (vs : List ℕ) → core x ≡ core (record m { looks = ls; known = learnt (Body b i) n m.known; values = vs }) → ((k : Look) → Contains m.looks k → Contains ls k) → ((d : ℕ) → Contains m.values d → Contains vs d) → ReadsMore m x
    made ls vs e looked listed =
        record {
          memo = e ∙ ap (λ (y : Memo). core (record m { looks = y.looks; known = y.known; values = y.values })) (sym e);
          known = λ s k. subst (λ ks. Contains ks s) (sym (ap (λ (y : Memo). y.known) e)) (learnt_keeps (Body b i) m n h.found s k);
          looked = λ k q. subst (λ ks. Contains ks k) (sym (ap (λ (y : Memo). y.looks) e)) (looked k q);
          listed = λ d q. subst (λ ks. Contains ks d) (sym (ap (λ (y : Memo). y.values) e)) (listed d q);
        }

    more : (s l : Bool) (d : ℕ) → Contains m.values d → Contains (if s then (if l then m.values else n ∷ m.values) else m.values) d
    more true true d h = h
    more true false d h = Contains-append_right (n ∷ []) m.values d h
    more false l d h = h

-- an identity between two calls is so still, and keeps all
pub keeps_reads : (c : ℕ) (m r : Memo) → IsIdle c m → ReadsMore m r → Keeps c m r
keeps_reads c m r idle h =
    record {
      idle = record {
        live = ap (λ (x : Memo). x.status) h.memo ∙ idle.live;
        op = ap (λ (x : Memo). x.op) h.memo ∙ idle.op;
        making = ap (λ (x : Memo). x.making) h.memo ∙ idle.making;
        hold = ap (λ (x : Memo). own_word x.own (Hold c)) h.memo ∙ (idle.hold ∙ ap (λ (x : Memo). hold_word x.latch) (sym h.memo));
      };
      sent = ap (λ (x : Memo). x.sent) h.memo;
      received = ap (λ (x : Memo). x.received) h.memo;
      unsent = ap (λ (x : Memo). x.unsent) h.memo;
      untaken = ap (λ (x : Memo). x.untaken) h.memo;
      loose = ap (λ (x : Memo). is_loose x.part) h.memo;
      own = λ p l s. ap (λ (x : Memo). own_word x.own p) h.memo;
      era = let e = ap (λ (x : Memo). own_word x.own (Era c c)) h.memo in omega arith;
      roots = λ j. inl (ap (λ (x : Memo). root_word c x j) h.memo);
      slots = λ p x s k. h.known (record { spot = p; value = x }) k;
      values = λ k v n l some root a. record { value = h.listed v a.value; word = h.known (record { spot = Body v 0; value = n }) a.word };
    }

-- and is here
pub idle_here : (c : ℕ) (r : Memo) → IsIdle c r → IsHere r
idle_here c r idle = record { joined = λ e. (let z : status.Live ≡ status.New = sym idle.live ∙ e in cc); stays = λ e. (let z : status.Live ≡ status.Gone = sym idle.live ∙ e in cc) }

-- why a count step is refused that follows
pub cause_read : (me : Me) (x : Aim) (m r : Memo) (f : UpFault) → ReadsMore m r → StepCause me x r f → StepCause me x m f
cause_read me x m r (EraSpent e) h (is, late) = (is ∙ ap (λ (y : Memo). own_word y.own (Era me.who me.who)) h.memo, late)
cause_read me x m r (CountFull b n) h cause = cause
