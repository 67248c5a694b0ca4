-- what refused takes, receives and drains leave
use Rattle.std.proofs.Common.{◌≡◌, ◌≢◌, ℕ, ◌+◌, ◌<◌, ◌≤◌, refl, sym, ap, ◌∙◌, subst, arith, append-nil, List, [], ◌∷◌, ◌++◌, length, inl, inr}
use Rattle.std.proofs.lemmas.Bool.{cond-true}
use Rattle.std.specs.Prelude.{◌⊎◌, ◌-◌, ◌^◌, ◌%◌, Err, slice_index_or}
use Rattle.shm_graph.specs.declared.{ask.Me.Me, memo.Memo.Memo, spot.Spot.TheVariants.{Era, QueueHead, Root, Slot}}
use Rattle.shm_graph.specs.{Asks.Trail, Events.Event, Views.own_word}
use Rattle.shm_graph.specs.Events as event
use Rattle.shm_graph.proofs.Spots.Spotting.{same_spot_self}
use Rattle.shm_count.specs.{Lowering.StoppedAt, Roots.root_word, Tear.Events.{Visit, Walks}}
use Rattle.shm_queue.specs.declared.answer.PeekFault.{PeekFault, TheVariants.{CountFull, Empty, EraSpent, RootsFull}}
use Rattle.shm_queue.specs.Drain.{DrainStopped, ItemsEvents, TakenItem, blocks_from}
use Rattle.shm_queue.specs.{Proved.Drain.Items.{head_more, lane_more}, Peek.{Control.peeking, PeekLeaves}}
use Rattle.shm_queue.specs.{Receive.{Control.receiving, ReceiveLeaves, ReceiveStopped}, Take.{NotTaken, TakeStopped}}

-- ---- takes

module _ (me : Me) (s : ℕ) (r0 r : Memo) (tr : Trail) (es : List Event) (e : ℕ) where
  abbrev c : ℕ
  c = me.who

  -- an item that is taken is an event
  pub not_stopped : TakeStopped me s r0 r tr es e → es ≢ []
  not_stopped t none = let told = t.told in absurd (cc)

  -- the own era is at least the one that was read
  pub take_most : NotTaken me s r0 r tr es e ⊎ TakeStopped me s r0 r tr es e → e ≤ own_word r.own (Era c c)
  take_most (inl n) = let a = n.spent in let b = n.untouched.rows c in omega arith
  take_most (inr t) = t.most

  -- roots are what they were
  take_roots : NotTaken me s r0 r tr es e ⊎ TakeStopped me s r0 r tr es e → (k : ℕ) → root_word c r k ≡ root_word c r0 k
  take_roots (inl n) k = n.untouched.own (Root c k) refl
  take_roots (inr t) k = t.received.own (Root c k) refl refl

  -- the own head is what it was, or has passed the item
  take_head : NotTaken me s r0 r tr es e ⊎ TakeStopped me s r0 r tr es e → (own_word r.own (QueueHead s c) ≡ own_word r0.own (QueueHead s c)) ⊎ (own_word r.own (QueueHead s c) ≡ own_word r0.own (QueueHead s c) + 1)
  take_head (inl n) = inl (n.untouched.own (QueueHead s c) refl)
  take_head (inr t) = inr (t.received.head ∙ ap (λ x. x + 1) t.received.place)

-- ---- receives

module _ (me : Me) (s : ℕ) (r0 r : Memo) (tr : Trail) (es : List Event) where
  abbrev w : ℕ
  w = me.who

  -- the take that was refused
  stopped_take : (e : ℕ) (d : ReceiveStopped me s r0 r tr es e) → NotTaken me s d.look.q r d.look.next d.look.after e ⊎ TakeStopped me s d.look.q r d.look.next d.look.after e
  stopped_take e d = elim (d.refused) [ inl n ↦ inl n.0 | inr t ↦ inr t.0 ]

  -- the root that the item has is an event
  rooted_event : (e : ℕ) → ReceiveStopped me s r0 r tr es e → es ≢ []
  rooted_event e d none = let a = d.look.split in let b = d.look.peeked.events in absurd (never d.look.before d.look.after b (sym a ∙ none))
    where
      never : (xs ys : List Event) → xs ≡ event.Up w (Root w d.root) d.block ∷ [] → xs ++ ys ≡ [] → ⊥
      never [] ys e f = cc
      never (x ∷ xs) ys e f = cc

  pub refused_peek : (f : PeekFault) → ReceiveLeaves (receiving me s) r0 r tr es (Err f) → es ≡ [] → PeekLeaves (peeking me s) r0 r tr es (Err f)
  refused_peek (EraSpent e) g none = elim g [ inl p ↦ p | inr d ↦ absurd (rooted_event e d none) ]
  refused_peek _ g none = g

  pub refused_only : (f : PeekFault) → ReceiveLeaves (receiving me s) r0 r tr es (Err f) → es ≢ [] → (e : ℕ) × (f ≡ EraSpent e) × (2 ^ 47 - 3 < e) × (e ≤ own_word r.own (Era w w))
  refused_only (Empty n) g some = absurd (some g.none)
  refused_only (EraSpent e) g some = elim g [ inl p ↦ absurd (some p.2.none) | inr d ↦ (e, refl, d.spent, take_most me s d.look.q r d.look.next d.look.after e (stopped_take e d)) ]
  refused_only RootsFull g some = absurd (some g.2.none)
  refused_only (CountFull b n) g some = absurd (some g.1.none)

  pub refused_rooted : (e : ℕ) → ReceiveLeaves (receiving me s) r0 r tr es (Err (EraSpent e)) → es ≢ [] → (k : ℕ) × (b : ℕ) × (k < 16) × (root_word w r0 k ≡ 0) × ((j : ℕ) → j < k → root_word w r0 j ≢ 0) × (root_word w r k ≡ b)
      × ((own_word r.own (QueueHead s w) ≡ own_word r0.own (QueueHead s w)) ⊎ (own_word r.own (QueueHead s w) ≡ own_word r0.own (QueueHead s w) + 1))
  refused_rooted e g some = elim g [ inl p ↦ absurd (some p.2.none) | inr d ↦ rooted d ]
    where
      rooted : ReceiveStopped me s r0 r tr es e → (k : ℕ) × (b : ℕ) × (k < 16) × (root_word w r0 k ≡ 0) × ((j : ℕ) → j < k → root_word w r0 j ≢ 0) × (root_word w r k ≡ b)
          × ((own_word r.own (QueueHead s w) ≡ own_word r0.own (QueueHead s w)) ⊎ (own_word r.own (QueueHead s w) ≡ own_word r0.own (QueueHead s w) + 1))
      rooted d =
          let p = d.look.peeked in
          let t = stopped_take e d in
          let q : Memo = d.look.q in (
            d.root,
            d.block,
            p.low,
            p.empty,
            p.before,
            take_roots me s q r d.look.next d.look.after e t d.root ∙ (p.filled.own (Root w d.root) refl ∙ cond-true _ _ _ (same_spot_self (Root w d.root))),
            subst (λ x. (own_word r.own (QueueHead s w) ≡ x) ⊎ (own_word r.own (QueueHead s w) ≡ x + 1)) (p.filled.own (QueueHead s w) refl) (take_head me s q r d.look.next d.look.after e t),
          )

-- ---- drains

module _ (me : Me) (r0 r : Memo) (tr : Trail) (es : List Event) (e : ℕ) (d : DrainStopped me r0 r tr es e) where
  abbrev u : ℕ
  u = me.who

  pub drain_most : e ≤ own_word r.own (Era u u)
  drain_most = take_most me d.from d.q r d.last d.after e (elim (d.refused) [ inl n ↦ inl n.0 | inr t ↦ inr t.0 ])

  -- the items that were taken, with their events, of which the last one may have been torn down in part
  abbrev pub Taken : List TakenItem → Type 0
  Taken xs =
      ((s : ℕ) → slice_index_or r.received s [] ≡ slice_index_or r0.received s [] ++ blocks_from s xs) × ((s : ℕ) → own_word r.own (QueueHead s u) ≡ own_word r0.own (QueueHead s u) + length (blocks_from s xs))
      × ((ItemsEvents u xs es × (r.dying ≡ r0.dying)) ⊎ ((ys : List TakenItem) × (x : TakenItem) × (before : List Event) × (ds : List Event) × (vs : List Visit) × (xs ≡ ys ++ x ∷ []) × ItemsEvents u ys before × (es ≡ before ++ event.Down u (Slot x.from u (x.place % 8)) x.block ∷ ds) × Walks u x.block ds vs × StoppedAt me r0 r e vs))

  pub none_more : NotTaken me d.from d.q r d.last d.after e → Taken d.items
  none_more n = (
    λ s. ap (λ (x : Memo). slice_index_or x.received s []) n.untouched.rest ∙ d.drained.received s,
    λ s. n.untouched.own (QueueHead s u) refl ∙ d.drained.heads s,
    inl (subst (ItemsEvents u d.items) (sym (d.split ∙ (ap (λ (x : List Event). d.before ++ x) n.none ∙ append-nil d.before))) d.events, ap (λ (x : Memo). x.dying) n.untouched.rest ∙ d.drained.dying),
  )

  pub one_more : (t : TakeStopped me d.from d.q r d.last d.after e) → Taken (d.items ++ record { from = d.from; place = t.place; block = t.block } ∷ [])
  one_more t =
      let x : TakenItem = record { from = d.from; place = t.place; block = t.block } in (
        lane_more me x d.items r0 d.q r d.drained t.received,
        head_more me x d.items r0 d.q r d.drained t.received,
        inr (
          d.items,
          x,
          d.before,
          t.after,
          t.left,
          refl,
          d.events,
          d.split ∙ ap (λ (y : List Event). d.before ++ y) t.told,
          t.walks,
          record { left = t.stopped.left; others = t.stopped.others ∙ d.drained.dying; spent = t.stopped.spent },
        ),
      )
