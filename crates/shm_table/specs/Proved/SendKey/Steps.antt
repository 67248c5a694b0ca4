-- what stays of a memo where a block is sent under the own latch, and what the own map had
use Rattle.std.proofs.Common.{◌≡◌, ℕ, ◌+◌, ◌<◌, refl, sym, ap, ◌∙◌, subst, arith, true, false, List, inl, inr}
use Rattle.std.proofs.lemmas.Bool.{cases_Bool, cond-false, cond-true}
use Rattle.std.specs.{Prelude.Some, List.Contains}
use Rattle.shm_graph.specs.declared.{ask.Me.Me, memo.{Memo.Memo, Stored.Stored}, spot.Spot.Spot}
use Rattle.shm_graph.specs.{declared.spot.Spot.TheVariants.{Body, Hold, Home, Root, Tail}, Asks.Trail, Events.Event}
use Rattle.shm_graph.specs.{Held.is_loose, Idle.hold_word, Spots.same_spot, MemoAfterStore.lane_with, Views.own_word}
use Rattle.shm_graph.proofs.Spots.Spotting.{same_spot_is, same_spot_self}
use Rattle.plans.specs.Parts.{IsHeld}
use Rattle.kind_parts.specs.Reparting.{map_in}
use Rattle.shm_count.specs.Lasting.{is_lasting}
use Rattle.shm_queue.specs.Send.{Sent}
use Rattle.shm_script.specs.declared.log.Answer.TheVariants as answer
use Rattle.shm_table.specs.{Find.{IsLook, Tells.HasRead}, Proved.Find.Tells.author_names}
use Rattle.shm_table.specs.{Proved.Staying.Laws.{keeps_more, value_same}, SendKey.Control.sending_key}
use Rattle.shm_table.specs.{SendKey.{SendKeyLeaves, with_sent}, Staying.{Keeps, is_set, Laws.KeepsRest}}

-- ---- the own map

-- it has the block that the value word of the key's entry was read to name
pub own_names : (me : Me) (key entry v : ℕ) (r : Memo) → me.who < me.geometry.clients → IsHeld me r → HasRead me.who r key entry → IsLook r (Body entry 1) v → (n : ℕ) × (map_in r.part key ≡ Some (n, v))
own_names me key entry v r l (w, rs, h, same) has look =
    (w (Body v 0), ap (λ (x : Memo). map_in x.part key) (sym same) ∙ author_names me me.who key entry v r has look l w rs h same)

-- ---- a block is sent

module _ (c i b n : ℕ) (m x r : Memo) (before : Keeps c m x) (w : Sent c i b n x r) where
  -- own words but for the tail are kept, and the tail is the next one
  own_sent : (p : Spot) → is_lasting c p ≡ true → is_set p ≡ false → own_word r.own p ≡ own_word (with_sent c i b n r.unsent m).own p
  own_sent p lasts unset =
      elim (cases_Bool (same_spot (Tail c i) p)) [
        | inl is ↦ (ap (own_word r.own) (sym (same_spot_is (Tail c i) p is)) ∙ w.tail) ∙ sym (cond-true (same_spot (Tail c i) p) (n + 1) (own_word m.own p) is)
        | inr other ↦ (w.own p lasts other ∙ before.own p lasts unset) ∙ sym (cond-false (same_spot (Tail c i) p) (n + 1) (own_word m.own p) other)
      ]

  pub keeps_sent : Keeps c (with_sent c i b n r.unsent m) r
  keeps_sent =
      record {
        idle = record {
          live = ap (λ (y : Memo). y.status) w.rest ∙ before.idle.live;
          op = ap (λ (y : Memo). y.op) w.rest ∙ before.idle.op;
          making = ap (λ (y : Memo). y.making) w.rest ∙ before.idle.making;
          hold = w.own (Hold c) refl refl ∙ (before.idle.hold ∙ ap (λ (y : Memo). hold_word y.latch) (sym w.rest));
        };
        sent = ap (λ (y : Memo). y.sent) w.rest ∙ ap (λ (lanes : List (List ℕ)). lane_with lanes i b) before.sent;
        received = ap (λ (y : Memo). y.received) w.rest ∙ before.received;
        unsent = refl;
        untaken = ap (λ (y : Memo). y.untaken) w.rest ∙ before.untaken;
        loose = ap (λ (y : Memo). is_loose y.part) w.rest ∙ before.loose;
        own = own_sent;
        era = (let e = w.era in let l = before.era in omega arith);
        roots = λ j. elim (before.roots j) [ inl e ↦ inl (w.own (Root c j) refl refl ∙ e) | inr z ↦ inr z ];
        slots = λ p y s k. subst (λ (ks : List Stored). Contains ks (record { spot = p; value = y })) (sym (ap (λ (z : Memo). z.known) w.rest)) (before.slots p y s k);
        values = λ k v l low some root is.
            value_same c x r v l (ap (λ (z : Memo). z.known) w.rest) (ap (λ (z : Memo). z.values) w.rest) (before.values k v l low some root (record { value = is.value; word = is.word }));
      }

-- the latch, the own home, the partition, the roots and the zero-count blocks are as they were
pub rests_sent : (c i b n : ℕ) (x r : Memo) → Sent c i b n x r → KeepsRest c x r
rests_sent c i b n x r w =
    record {
      latch = ap (λ (y : Memo). y.latch) w.rest;
      home = w.own (Home c) refl refl;
      part = ap (λ (y : Memo). y.part) w.rest;
      cleared = record { roots = λ j. w.own (Root c j) refl refl; dying = ap (λ (y : Memo). y.dying) w.rest };
    }

-- and what was kept then stays so while more is kept
pub keeps_after : (c i b n : ℕ) (m x r : Memo) → Keeps c (with_sent c i b n x.unsent m) x → Keeps c x r → Keeps c (with_sent c i b n r.unsent m) r
keeps_after c i b n m x r before after = subst (λ (us : List ℕ). Keeps c (with_sent c i b n us m) r) (sym after.unsent) (keeps_more c (with_sent c i b n x.unsent m) x r before after)

-- what was sent has the block that the key had at its end, and the tail is one more
pub sent_joins : (me : Me) (i key : ℕ) (r0 r : Memo) (tr : Trail) (es : List Event) → SendKeyLeaves (sending_key me i key) r0 r tr es answer.Ok
    → (n : ℕ) × (b : ℕ) × (map_in r0.part key ≡ Some (n, b)) × (r.sent ≡ lane_with r0.sent i b) × (own_word r.own (Tail me.who i) ≡ own_word r0.own (Tail me.who i) + 1)
sent_joins me i key r0 r tr es (b, n, h) = (
  h.has.0,
  b,
  h.has.1,
  h.keeps.sent,
  h.keeps.own (Tail me.who i) refl refl ∙ (cond-true (same_spot (Tail me.who i) (Tail me.who i)) (n + 1) (own_word r0.own (Tail me.who i)) (same_spot_self (Tail me.who i)) ∙ ap (λ y. y + 1) h.place),
)
