-- what a leaving and a recovery that are done leave in the words, and what a recovery keeps
use Rattle.std.proofs.Common.{◌≡◌, ◌≢◌, ℕ, ◌+◌, ◌%◌, ◌<◌, ◌≤◌, ◌⊎◌, refl, sym, ap, ◌∙◌, subst, arith, List, [], ◌∷◌, ◌++◌, append-nil, length, true, inl, inr, eqb}
use Rattle.std.proofs.lemmas.Bool.{cond-false, eq-eqb, ne_eqb}
use Rattle.std.proofs.lemmas.List.Elements.{All-contains, Contains-append_cases, Contains-push_cases}
use Rattle.std.specs.{Prelude.{Ok, ◌==◌, slice_index, slice_index_or}, List.Contains}
use Rattle.shm_graph.specs.declared.{ask.Me.Me, memo.{Memo.Memo, Op.TheVariants.Nothing, Status.TheVariants.Gone}}
use Rattle.shm_graph.specs.declared.spot.Spot.{Spot}
use Rattle.shm_graph.specs.declared.spot.Spot.TheVariants.{Status, Hold, Latch, Home, Era, Root, Tail, QueueHead, Slot, Segment}
use Rattle.shm_graph.specs.{Asks.Trail, Blocks.{IsLive, headers}, Events.{ChangeDown, Event}}
use Rattle.shm_graph.specs.{Held.{HeldAt, status_word}, Sound.IsSound, Views.{own_word, owner_is, targets, view}}
use Rattle.shm_graph.proofs.States.GoneStates.{gone_idle, gone_roots, gone_hold, gone_latches, gone_segments, gone_zero_counts, gone_sends, gone_takes}
use Rattle.shm_graph.proofs.States.{HeldSound.held_sound, Reached.shown_target}
use Rattle.shm_recover.specs.{Departures.LeftOrRecovered, FinishTakes.{QueueDone, waiting}, Recover.Control.recovering}
use Rattle.shm_recover.specs.{Recover.{Losses.IsLoss, OnlyLoses, RecoverLeaves}, Proved.Recover.Losses.roots_losses}

-- ---- nothing is left

module _ (me : Me) (r0 : Memo) (tr : Trail) (es : List Event) (w : Spot → ℕ) (r : ℕ → Memo) (l : me.who < me.geometry.clients) (held : HeldAt me.geometry w (view r)) (done : LeftOrRecovered me r0 (r me.who) tr es) where
  sound : IsSound me.geometry w (view r)
  sound = held_sound me.geometry w (view r) held

  is_gone : (r me.who).status ≡ Gone
  is_gone = elim done [ inl x ↦ x.status | inr x ↦ x.status ]

  pub departed_status : w (Status me.who) ≡ 3
  departed_status = sym (held.state me.who l) ∙ ap status_word is_gone

  pub departed_idle : (r me.who).op ≡ Nothing
  departed_idle = gone_idle me.geometry w (view r) sound me.who l departed_status

  pub departed_roots : (k : ℕ) → w (Root me.who k) ≡ 0
  departed_roots = gone_roots me.geometry w (view r) sound me.who l departed_status

  pub departed_hold : w (Hold me.who) ≡ 0
  departed_hold = gone_hold me.geometry w (view r) sound me.who l departed_status

  pub departed_latches : (a : ℕ) → w (Latch a) ≢ me.who + 1
  departed_latches = gone_latches me.geometry w (view r) sound me.who l departed_status

  pub departed_segments : (s : ℕ) → w (Segment s) ≢ me.who + 1
  departed_segments = gone_segments me.geometry w (view r) sound me.who l departed_status

  pub departed_zero_counts : (b : ℕ) → IsLive (headers w) b → (headers w b).count ≡ 0 → ((headers w b).client ≢ me.who) × ((headers w b).client < me.geometry.clients)
  departed_zero_counts = gone_zero_counts me.geometry w (view r) sound me.who l departed_status

  pub departed_sends : (i : ℕ) → i < me.geometry.clients → i ≢ me.who → w (Tail me.who i) < w (QueueHead me.who i) + 8 → w (Slot me.who i (w (Tail me.who i) % 8)) ≡ 0
  departed_sends = gone_sends me.geometry w (view r) sound me.who l departed_status

  pub departed_takes : (s : ℕ) → s < me.geometry.clients → s ≢ me.who → w (QueueHead s me.who) < w (Tail s me.who) → let b = w (Slot s me.who (w (QueueHead s me.who) % 8)) in (b ≢ 0) × IsLive (headers w) b × (b ≡ slice_index (slice_index_or (r s).sent me.who []) (w (QueueHead s me.who)))
  departed_takes = gone_takes me.geometry w (view r) sound me.who l departed_status

-- ---- nothing is gained

-- at most the second half of a change comes before the losses
one_of_losses : (c : ℕ) (es : List Event) → OnlyLoses c es → (e : Event) → Contains es e → IsLoss c e ⊎ ((a : ℕ) × (e ≡ ChangeDown c a))
one_of_losses c es x e has =
    elim (Contains-append_cases x.half x.losses e (subst (λ (xs : List Event). Contains xs e) x.split has)) [
      | inl early ↦ inr (half x.first early)
      | inr late ↦ inl (All-contains (IsLoss c) x.losses e x.others late)
    ]
  where
    half : (x.half ≡ []) ⊎ ((a : ℕ) × (x.half ≡ ChangeDown c a ∷ [])) → Contains x.half e → (a : ℕ) × (e ≡ ChangeDown c a)
    half (inl none) y = let z : Contains [] e = subst (λ (xs : List Event). Contains xs e) none y in absurd (let k = z.1 in omega arith)
    half (inr (a, one)) y = elim (Contains-push_cases [] (ChangeDown c a) e (subst (λ (xs : List Event). Contains xs e) one y)) [ inl z ↦ absurd (let k = z.1 in omega arith) | inr q ↦ (a, sym q) ]

pub departed_losses : (me : Me) (r0 r : Memo) (tr : Trail) (es : List Event) → LeftOrRecovered me r0 r tr es → (e : Event) → Contains es e → IsLoss me.who e ⊎ ((a : ℕ) × (e ≡ ChangeDown me.who a))
departed_losses me r0 r tr es (inl x) e has = inl (All-contains (IsLoss me.who) es e (roots_losses me.who r0 16 es x.events) has)
departed_losses me r0 r tr es (inr x) e has = one_of_losses me.who es x.events e has

-- ---- a queue of which the item that waited for its head is received

module _ (c s : ℕ) (m r : Memo) (d : QueueDone c s m r) where
  -- none waited
  pub done_whole : slice_index m.untaken s ≡ 0 → (slice_index_or r.received s [] ≡ slice_index_or m.received s []) × (own_word r.own (QueueHead s c) ≡ own_word m.own (QueueHead s c))
  done_whole e = (
    d.received ∙ (ap (λ b. slice_index_or m.received s [] ++ waiting b) e ∙ append-nil (slice_index_or m.received s [])),
    d.head ∙ (ap (λ b. own_word m.own (QueueHead s c) + length (waiting b)) e ∙ omega arith),
  )

  -- one waited
  pub done_half : slice_index m.untaken s ≢ 0 → (slice_index_or r.received s [] ≡ slice_index_or m.received s [] ++ slice_index m.untaken s ∷ []) × (own_word r.own (QueueHead s c) ≡ own_word m.own (QueueHead s c) + 1)
  done_half n =
      let one : waiting (slice_index m.untaken s) ≡ slice_index m.untaken s ∷ [] = cond-false (eqb (slice_index m.untaken s) 0) [] (slice_index m.untaken s ∷ []) (ne_eqb (slice_index m.untaken s) 0 n) in (
        d.received ∙ ap (λ (xs : List ℕ). slice_index_or m.received s [] ++ xs) one,
        d.head ∙ ap (λ (xs : List ℕ). own_word m.own (QueueHead s c) + length xs) one,
      )

-- ---- what a recovery keeps

module _ (me : Me) (w : Spot → ℕ) (r : ℕ → Memo) (x : Spot → ℕ) (q : ℕ → Memo) (tr : Trail) (es : List Event) (l : me.who < me.geometry.clients) (before : HeldAt me.geometry w (view r)) (after : HeldAt me.geometry x (view q)) (done : RecoverLeaves (recovering me) (r me.who) (q me.who) tr es (Ok tt)) where
  abbrev c : ℕ
  c = me.who

  -- own words are the words
  word_before : (p : Spot) → owner_is c p ≡ true → own_word (r c).own p ≡ w p
  word_before = before.mine c l

  word_after : (p : Spot) → owner_is c p ≡ true → own_word (q c).own p ≡ x p
  word_after = after.mine c l

  mine : (c == c) ≡ true
  mine = eq-eqb c c refl

  pub kept_sent : (q c).sent ≡ (r c).sent
  kept_sent = done.sent

  pub kept_tails : (i : ℕ) → x (Tail c i) ≡ w (Tail c i)
  kept_tails i = sym (word_after (Tail c i) mine) ∙ (done.tails i ∙ word_before (Tail c i) mine)

  pub kept_received : (s : ℕ) → slice_index (r c).untaken s ≡ 0 → (slice_index_or (q c).received s [] ≡ slice_index_or (r c).received s []) × (x (QueueHead s c) ≡ w (QueueHead s c))
  kept_received s e =
      let y = done_whole c s (r c) (q c) (done.taken s) e in
      (y.0, sym (word_after (QueueHead s c) mine) ∙ (y.1 ∙ word_before (QueueHead s c) mine))

  pub kept_half_taken : (s : ℕ) → slice_index (r c).untaken s ≢ 0 → (slice_index_or (q c).received s [] ≡ slice_index_or (r c).received s [] ++ slice_index (r c).untaken s ∷ []) × (x (QueueHead s c) ≡ w (QueueHead s c) + 1)
  kept_half_taken s n =
      let y = done_half c s (r c) (q c) (done.taken s) n in
      (y.0, sym (word_after (QueueHead s c) mine) ∙ (y.1 ∙ ap (λ k. k + 1) (word_before (QueueHead s c) mine)))

  pub kept_home : x (Home c) ≡ targets me.geometry w (view r) (Home c)
  kept_home = sym (word_after (Home c) mine) ∙ (done.home ∙ sym (shown_target me.geometry w (view r) before c l (Home c) refl))

  pub kept_rows : (j : ℕ) → w (Era c j) ≤ x (Era c j)
  kept_rows j = let grew = done.rows j in let a = word_before (Era c j) mine in let b = word_after (Era c j) mine in omega arith
