-- what a refusal as spent tells and leaves, and what a scan frees
use Rattle.std.proofs.Common.{◌≡◌, ◌≢◌, ℕ, ◌+◌, ◌-◌, ◌^◌, ◌<◌, ◌≤◌, ◌⊎◌, refl, sym, ap, subst, arith, Bool, true, false, List, [], ◌∷◌, ◌++◌, length, inl, inr}
use Rattle.std.proofs.lemmas.Bool.{eq-eqb}
use Rattle.std.proofs.lemmas.List.Elements.{All-contains, Contains-append_cases, Contains-append_left, Contains-append_right, Contains-push_cases}
use Rattle.std.specs.{Prelude.{Ok, Err, None, slice_index, slice_index_or}, List.Contains}
use Rattle.shm_graph.specs.declared.{ask.Me.Me, memo.{Memo.Memo, Op.{Op, TheVariants.Nothing}, Status.TheVariants.Dead}}
use Rattle.shm_graph.specs.declared.spot.Spot.{Spot, TheVariants.{Home, Era, Root, Tail, QueueHead}}
use Rattle.shm_graph.specs.{Asks.{IsWithin, Trail}, Blocks.{IsLive, headers}, Bounds.recovery_steps}
use Rattle.shm_graph.specs.{Events.{Event, Free}, Held.{HeldAt, IsDying, OwnSound, is_root, room_of}, Reach.shown}
use Rattle.shm_graph.specs.Views.{own_word, view}
use Rattle.shm_count.specs.{declared.answer.EraSpent.EraSpent, Roots.root_word, Tear.Events.{Visit, events_of, frees}}
use Rattle.shm_count.specs.Lasting.{is_lasting}
use Rattle.shm_count.proofs.TearWalks.{walk_frees}
use Rattle.shm_ref.specs.Lefts.{is_root_of}
use Rattle.shm_recover.specs.{Departures.WasSpent, Leave.{Control.leaving, LeaveLeaves}, Recover.Control.recovering}
use Rattle.shm_recover.specs.Recover.{AreRootless, AreSent, AreTaken, HasCome, RecoverLeaves, SameTakes}
use Rattle.shm_recover.specs.Scan.{Control.scanning, IsApart, ScanEvents, ScanLeaves}
use Rattle.shm_recover.proofs.Departing.{done_half, done_whole}

-- ---- the own era

-- one that leaves no room for a step down has room for its own close alone
last_era : (era own word : ℕ) (o : Op) → o ≡ Nothing → OwnSound word o → own ≡ word → 2 ^ 47 - 3 < era → era ≤ own → (era ≡ 2 ^ 47 - 2) × (word ≡ 2 ^ 47 - 2)
last_era era own word o idle x same spent most =
    let room : word + 2 ≤ 2 ^ 47 = subst (λ (y : Op). word + room_of y ≤ 2 ^ 47) idle x.room in (omega arith, omega arith)

-- what both refusals tell of it
spent_of : (me : Me) (r0 r : Memo) (tr : Trail) (es : List Event) (e : EraSpent) → WasSpent me r0 r tr es e → (r.op ≡ Nothing) × (2 ^ 47 - 3 < e.era) × (e.era ≤ own_word r.own (Era me.who me.who))
spent_of me r0 r tr es e (inl (vs, x)) = (x.left.op, x.stopped.spent, x.most)
spent_of me r0 r tr es e (inr x) = (x.op, x.spent, x.most)

pub spent_era : (me : Me) (r0 : Memo) (tr : Trail) (es : List Event) (e : EraSpent) (w : Spot → ℕ) (r : ℕ → Memo) → me.who < me.geometry.clients → HeldAt me.geometry w (view r) → WasSpent me r0 (r me.who) tr es e → (e.era ≡ 2 ^ 47 - 2) × (w (Era me.who me.who) ≡ 2 ^ 47 - 2) × ((r me.who).op ≡ Nothing)
spent_era me r0 tr es e w r l held spent =
    let c = me.who in
    let x = spent_of me r0 (r c) tr es e spent in
    let y = last_era e.era (own_word (r c).own (Era c c)) (w (Era c c)) (r c).op x.0 (held.own c l) (held.mine c l (Era c c) (eq-eqb c c refl)) x.1 x.2 in
    (y.0, y.1, x.0)

-- ---- a leaving that was refused

no_root : (c : ℕ) (f : ℕ → Bool) (p : Spot) → is_root p ≡ false → is_root_of c f p ≡ false
no_root c f (Root d k) e = cc
no_root c f _ e = refl

module _ (me : Me) (r0 r : Memo) (tr : Trail) (es : List Event) (e : EraSpent) (h : LeaveLeaves (leaving me) r0 r tr es (Err e)) where
  pub spent_leaving : (r.status ≡ r0.status) × (r.latch ≡ r0.latch) × (r.owned ≡ r0.owned) × (r.sent ≡ r0.sent) × (r.received ≡ r0.received) × (r.unsent ≡ r0.unsent) × (r.untaken ≡ r0.untaken) × (r.part ≡ r0.part)
  spent_leaving =
      let s = h.1.left.rest in (
        ap (λ (x : Memo). x.status) s,
        ap (λ (x : Memo). x.latch) s,
        ap (λ (x : Memo). x.owned) s,
        ap (λ (x : Memo). x.sent) s,
        ap (λ (x : Memo). x.received) s,
        ap (λ (x : Memo). x.unsent) s,
        ap (λ (x : Memo). x.untaken) s,
        ap (λ (x : Memo). x.part) s,
      )

  pub spent_leaving_roots : (k : ℕ) → (root_word me.who r k ≡ 0) ⊎ (root_word me.who r k ≡ root_word me.who r0 k)
  spent_leaving_roots = h.1.left.roots

  pub spent_leaving_words : (p : Spot) → is_lasting me.who p ≡ true → is_root p ≡ false → own_word r.own p ≡ own_word r0.own p
  spent_leaving_words p lasts other = h.1.left.own p lasts (no_root me.who _ p other)

-- ---- a recovery that was refused

-- nothing was taken out of the queues to it; or no root is left, nothing waits for its tail, and what was taken is received
come_cases : (c : ℕ) (r0 r : Memo) → HasCome c r0 r → SameTakes c r0 r ⊎ (AreRootless c r × AreSent r × AreTaken c r0 r)
come_cases c r0 r (inl same) = inl same
come_cases c r0 r (inr (inl x)) = inl x.1
come_cases c r0 r (inr (inr x)) = inr x

module _ (me : Me) (r0 r : Memo) (tr : Trail) (es : List Event) (e : EraSpent) (h : RecoverLeaves (recovering me) r0 r tr es (Err e)) where
  abbrev c : ℕ
  c = me.who

  come : SameTakes c r0 r ⊎ (AreRootless c r × AreSent r × AreTaken c r0 r)
  come = come_cases c r0 r h.come

  pub spent_recovery : (r.status ≡ Dead) × (r.latch ≡ None) × (r.owned ≡ r0.owned) × (r.sent ≡ r0.sent) × ((i : ℕ) → own_word r.own (Tail c i) ≡ own_word r0.own (Tail c i)) × (own_word r.own (Home c) ≡ shown r0 (Home c))
  spent_recovery = (h.status, h.latch, h.owned, h.sent, h.tails, h.home)

  pub spent_received : (s : ℕ) → slice_index r0.untaken s ≡ 0 → (slice_index_or r.received s [] ≡ slice_index_or r0.received s []) × (own_word r.own (QueueHead s c) ≡ own_word r0.own (QueueHead s c))
  spent_received s z =
      elim come [
        | inl same ↦ ((same s).received, (same s).head)
        | inr x ↦ done_whole c s r0 r (x.2 s) z
      ]

  pub spent_half_taken : (s : ℕ) → slice_index r0.untaken s ≢ 0 → ((slice_index_or r.received s [] ≡ slice_index_or r0.received s []) × (own_word r.own (QueueHead s c) ≡ own_word r0.own (QueueHead s c)) × (slice_index r.untaken s ≡ slice_index r0.untaken s))
      ⊎ ((slice_index_or r.received s [] ≡ slice_index_or r0.received s [] ++ slice_index r0.untaken s ∷ []) × (own_word r.own (QueueHead s c) ≡ own_word r0.own (QueueHead s c) + 1) × (slice_index r.untaken s ≡ 0))
  spent_half_taken s n =
      elim come [
        | inl same ↦ inl ((same s).received, (same s).head, (same s).untaken)
        | inr x ↦ let y = done_half c s r0 r (x.2 s) n in inr (y.0, y.1, (x.2 s).untaken)
      ]

  pub spent_order : (s : ℕ) → own_word r.own (QueueHead s c) ≢ own_word r0.own (QueueHead s c) → ((k : ℕ) → root_word c r k ≡ 0) × ((j : ℕ) → slice_index r.unsent j ≡ 0)
  spent_order s n =
      elim come [
        | inl same ↦ absurd (n (same s).head)
        | inr x ↦ (x.0, x.1)
      ]

  pub spent_unfreed : (vs : List Visit) × ((v : Visit) → Contains vs v → Contains r.dying v.block) × IsWithin (recovery_steps me.geometry.wide me.geometry.segments (frees es + length vs)) tr
  spent_unfreed = (h.vs, (λ v has. All-contains (λ (x : Visit). Contains r.dying x.block) h.vs v h.stays has), h.bound)

-- ---- a scan

-- the walk over each block that was found frees it
frees_each : (c : ℕ) (bs : List ℕ) (es : List Event) → ScanEvents c bs es → (b : ℕ) → Contains bs b → Contains es (Free c b)
frees_each c [] es h b has = absurd (let k = has.1 in omega arith)
frees_each c (d ∷ bs) es (before, after, e, h, (x, order, walk)) b has =
    subst (λ (xs : List Event). Contains xs (Free c b)) (sym e)
    (elim (Contains-append_cases (d ∷ []) bs b has) [
      | inl one ↦ Contains-append_right before after (Free c b) (subst (λ (xs : List Event). Contains xs (Free c b)) (sym walk) (subst (λ k. Contains (events_of c d x) (Free c k)) (only one) (walk_frees c d x)))
      | inr more ↦ Contains-append_left before after (Free c b) (frees_each c bs before h b more)
    ])
  where
    only : Contains (d ∷ []) b → d ≡ b
    only y = elim (Contains-push_cases [] d b y) [ inl n ↦ absurd (let k = n.1 in omega arith) | inr q ↦ q ]

pub scan_found : (me : Me) (n : ℕ) (r0 r : Memo) (tr : Trail) (es : List Event) → ScanLeaves (scanning me) r0 r tr es (Ok n) → (bs : List ℕ) × (n ≡ length bs) × IsApart bs × ((b : ℕ) → Contains bs b → Contains r0.dying b) × ((b : ℕ) → Contains r0.dying b → Contains bs b)
scan_found me n r0 r tr es h = (h.blocks, h.count, h.apart, h.found, h.whole)

pub scan_freed : (me : Me) (n : ℕ) (w : Spot → ℕ) (r : ℕ → Memo) (q : Memo) (tr : Trail) (es : List Event) → me.who < me.geometry.clients → HeldAt me.geometry w (view r) → ScanLeaves (scanning me) (r me.who) q tr es (Ok n) → (b : ℕ) → IsDying (headers w b) me.who → Contains es (Free me.who b)
scan_freed me n w r q tr es l held h b dies = frees_each me.who h.blocks es h.events b (h.whole b ((held.dying me.who l).all b dies))

pub scan_none : (me : Me) (n : ℕ) (w : Spot → ℕ) (r0 : Memo) (r : ℕ → Memo) (tr : Trail) (es : List Event) → me.who < me.geometry.clients → HeldAt me.geometry w (view r) → ScanLeaves (scanning me) r0 (r me.who) tr es (Ok n) → (b : ℕ) → IsLive (headers w) b → (headers w b).count ≡ 0 → (headers w b).client ≢ me.who
scan_none me n w r0 r tr es l held h b live zero is =
    let has : Contains [] b = subst (λ (xs : List ℕ). Contains xs b) h.none ((held.dying me.who l).all b (live, zero, is)) in absurd (let k = has.1 in omega arith)

pub scan_stopped : (me : Me) (r0 r : Memo) (tr : Trail) (es : List Event) (e : EraSpent) → ScanLeaves (scanning me) r0 r tr es (Err e) → (bs : List ℕ) × IsApart bs × ((b : ℕ) → Contains bs b → Contains r0.dying b) × ((b : ℕ) → Contains r0.dying b → Contains bs b ⊎ Contains r.dying b)
scan_stopped me r0 r tr es e h = (h.blocks, h.apart, h.found, h.others)
