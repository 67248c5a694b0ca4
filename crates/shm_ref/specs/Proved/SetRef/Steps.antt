-- the calls of setting a reference word of an own block may be made: its loads, its count steps, and the tear-down
use Rattle.std.proofs.Common.{◌≡◌, ◌≢◌, ℕ, ◌+◌, ◌^◌, ◌<◌, ◌≤◌, refl, sym, ap, ◌∙◌, subst, arith, true, false, List, inl, inr}
use Rattle.std.proofs.lemmas.Bool.{false≢true, true≢false}
use Rattle.std.specs.{Prelude.Some, List.Contains}
use Rattle.shm_words.proofs.Placing.{total_small}
use Rattle.shm_words.specs.Layout.{address_limit}
use Rattle.shm_graph.specs.declared.{ask.Me.Me, memo.{Memo.Memo, Op.TheVariants.Nothing, Stored.Stored}, spot.Spot.Spot}
use Rattle.shm_graph.specs.{declared.table.Part.{Part, TheVariants.{Loose, Table}}, Asks.Trail, Events.Event}
use Rattle.shm_graph.specs.{Held.is_loose, Reach.is_reached, Views.own_word}
use Rattle.shm_graph.specs.declared.spot.Spot.TheVariants as spot
use Rattle.kind_parts.specs.{Beginning.{HasRoom, IsOwnWord}, Conditions.IsHere, Raising.is_read}
use Rattle.kind_parts.proofs.{BeginWords.{claim_by, listed_told, word_address}, Cores.here_same, Covering.reached_told}
use Rattle.kind_parts.proofs.Words.{Blocks.{idle_settled, reference_load, tag_load}, Own.hold_load}
use Rattle.shm_count.specs.declared.point.{Aim.{Aim, TheVariants.{Up, Down, Change}}, Half.TheVariants.First}
use Rattle.shm_count.specs.{declared.point.StepPoint.TheVariants.Era, Proved.Lowering.dies}
use Rattle.shm_count.specs.Slots.{IsSlotFor, MayStepAt}
use Rattle.shm_count.specs.Step.{Control.{AimFits, AimSmall, IsInside, block_at, last_era, raises}, CanAim, HasPut}
use Rattle.shm_count.specs.Tear.{CanTear}
use Rattle.shm_ref.specs.declared.set_ref.SetPoint.{SetPoint}
use Rattle.shm_ref.specs.declared.set_ref.SetPoint.TheVariants.{Tag, Held, Look, Raise, Lower, Change as ToChange, Tear}
use Rattle.shm_ref.specs.{declared.set_ref.SetState.SetState, SetRef.Control.{set_ask, set_call_at}}
use Rattle.shm_ref.specs.SetRef.{IsFallen, IsLatched, IsLooked, IsTagged, MaySetRef, SetKnows, set_plan, set_word_part}
use Rattle.shm_ref.specs.SetRef.Memos.{word_seen}
use Rattle.shm_ref.specs.Proved.SetRef.Memos.{seen_latch, seen_op, seen_part, seen_reached, seen_status, seen_tag, seen_word, tag_reached}

-- ---- the loads

-- the word that is asked for at a point may be loaded
abbrev pub MayLoad : SetState → SetPoint → Memo → Type 0
MayLoad m y r = (set_word_part m y).needs (record { me = m.me; ask = set_ask m y; over = false }) r

-- the tag
pub tag_needs : (m : SetState) (r : Memo) → MaySetRef m.me m.block m.to r → MayLoad m Tag r
tag_needs m r may = let room = may.room in tag_load true m.me r may.who m.block (omega arith, omega arith) (reached_told m.me.who r m.me.geometry.wide m.block may.reach)

-- the hold word
pub held_needs : (m : SetState) (t : ℕ) (r0 r : Memo) (tr : Trail) (es : List Event) → IsTagged m.me m.block m.word m.to t r0 r tr es → MayLoad m Held r
held_needs m t r0 r tr es h = hold_load false m.me r h.may.who (λ e. ap (λ (x : Memo). x.op) h.same ∙ h.may.idle)

-- the word
pub look_needs : (m : SetState) (t : ℕ) (r0 r : Memo) (tr : Trail) (es : List Event) → IsLatched m.me m.block m.word m.to t r0 r tr es → MayLoad m Look r
look_needs m t r0 r tr es h =
    let c = m.me.who in
    let b = m.block in
    let known : Contains r.known (record { spot = spot.Tag b; value = t }) = subst (λ (ks : List Stored). Contains ks (record { spot = spot.Tag b; value = t })) (sym (ap (λ (x : Memo). x.known) h.same)) (0, omega arith, refl) in
    reference_load false m.me r h.may.who b m.word h.inside (
      ap (λ (x : Memo). is_reached c x b) h.same ∙ tag_reached c b t b r0 h.may.reach,
      (claim_by m.me.geometry.wide b t, c, listed_told m.me.geometry.wide c r b t known, refl, h.tag.low, ap Some h.tag.author, ap (λ (x : Memo). x.latch) h.same ∙ h.may.latch h.held),
    )
    (idle_settled r (spot.Body b m.word) (ap (λ (x : Memo). x.op) h.same ∙ h.may.idle))

-- ---- the count steps

-- no partition is read in a pool for single calls
unread : (part : Part) (b k : ℕ) → is_loose part ≡ true → is_read part (spot.Body b k) ≡ false
unread Loose b k e = refl
unread (Table chains) b k e = absurd (false≢true e)

put_word : (c : ℕ) (x : Aim) (b k : ℕ) (r : Memo) → HasPut c x (spot.Body b k) r
put_word c (Up d) b k r = tt
put_word c (Down d) b k r = tt
put_word c (Change a d) b k r = tt

module _ (me : Me) (b k to t old : ℕ) (r0 r : Memo) (tr : Trail) (es : List Event) (h : IsLooked me b k to t old r0 r tr es) where
  abbrev c : ℕ
  c = me.who

  abbrev seen : Memo
  seen = word_seen b k t old r0

  here : IsHere r
  here = here_same r0 r (ap (λ (x : Memo). x.status) h.same ∙ seen_status b k t old r0) h.may.here

  idle : r.op ≡ Nothing
  idle = ap (λ (x : Memo). x.op) h.same ∙ (seen_op b k t old r0 ∙ h.may.idle)

  loose : is_loose r.part ≡ true
  loose = ap (λ (x : Memo). is_loose x.part) h.same ∙ (ap is_loose (seen_part b k t old r0) ∙ h.may.loose)

  reached : (d : ℕ) → is_reached c r0 d ≡ true → is_reached c r d ≡ true
  reached d e = ap (λ (x : Memo). is_reached c x d) h.same ∙ seen_reached b k t old r0 c d e

  has : (p : Spot) (x : ℕ) → Contains seen.known (record { spot = p; value = x }) → Contains r.known (record { spot = p; value = x })
  has p x = subst (λ (ks : List Stored). Contains ks (record { spot = p; value = x })) (sym (ap (λ (y : Memo). y.known) h.same))

  -- the word is one that may be stored, and holds what was read
  word : IsOwnWord me.geometry.wide c r b k old
  word =
      let latch : r.latch ≡ Some c = ap (λ (x : Memo). x.latch) h.same ∙ (seen_latch b k t old r0 ∙ h.may.latch h.read.held) in
      record {
        told = (claim_by me.geometry.wide b t, listed_told me.geometry.wide c r b t (has (spot.Tag b) t (seen_tag b k t old r0)), refl, h.read.tag.low, inr (latch, ap Some h.read.tag.author, reached b h.may.reach));
        word = has (spot.Body b k) old (seen_word b k t old r0);
      }

  room : (n : ℕ) → own_word r.own (spot.Era c c) + n ≤ 2 ^ 47 → HasRoom c r n
  room n l = record { here = here; idle = idle; room = l }

  -- a step at the word may be made
  may_step : (x : Aim) → AimFits me x → AimSmall x → (own_word r.own (spot.Era c c) ≤ last_era x → CanAim me.geometry.wide me.geometry.clients c r x (spot.Body b k)) → (raises x First ≡ true → is_reached c r (block_at x First) ≡ true) → IsSlotFor c x (spot.Body b k) false
      → MayStepAt (spot.Body b k) false (record { me = me; slot = b + 2 + k; aim = x; point = Era }) r
  may_step x fits small can reach slot =
      let total = total_small me.geometry h.may.geometry in
      let end = h.inside.1 in
      record {
        step = record {
          made = refl;
          knows = record { geometry = h.may.geometry; who = h.may.who; slot = omega arith; aim = small; point = tt };
          can = record {
            geometry = h.may.geometry;
            who = h.may.who;
            here = here;
            idle = idle;
            client = λ e. h.client;
            at = sym (word_address me.geometry b k);
            inside = h.inside;
            blocks = fits;
            can = can;
            put = put_word c x b k r;
            reach = reach;
            part = inl (unread r.part b k loose);
            queued = λ n is up. absurd (true≢false (sym loose ∙ n));
          };
        };
        at = slot;
        era = h.era;
      }

  small_inside : (d : ℕ) → IsInside me d → d < address_limit
  small_inside d inside = let total = total_small me.geometry h.may.geometry in let l = inside.1 in omega arith

  -- a step up, where the word is empty
  pub raise_needs : old ≡ 0 → to ≢ 0 → MayStepAt (spot.Body b k) false (record { me = me; slot = b + 2 + k; aim = Up to; point = Era }) r
  raise_needs empty some =
      let target = h.may.target some in
      may_step (Up to) target.0 (small_inside to target.0) (λ l. record { may = room 3 (omega arith); word = subst (IsOwnWord me.geometry.wide c r b k) empty word; source = reached to target.1 }) (λ e. reached to target.1) tt

  -- a step down, where it is to be empty
  pub lower_needs : old ≢ 0 → MayStepAt (spot.Body b k) false (record { me = me; slot = b + 2 + k; aim = Down old; point = Era }) r
  lower_needs some =
      let inside = (h.counted some).0 in
      may_step (Down old) inside (small_inside old inside) (λ l. record { may = room 3 (omega arith); some = some; word = word }) (λ e. absurd (false≢true e)) tt

  -- and a change
  pub change_needs : old ≢ 0 → to ≢ 0 → MayStepAt (spot.Body b k) false (record { me = me; slot = b + 2 + k; aim = Change old to; point = Era }) r
  change_needs some new =
      let target = h.may.target new in
      let inside = (h.counted some).0 in
      may_step (Change old to) (inside, target.0) (small_inside old inside, small_inside to target.0)
      (λ l. record { may = room 4 (omega arith); some = some; word = word; other = h.other; source = reached to target.1 }) (λ e. reached to target.1) tt

-- ---- the tear-down

pub tear_needs : (me : Me) (b k to t old : ℕ) (r0 r : Memo) (tr : Trail) (es : List Event) → IsFallen me b k to t old r0 r tr es → CanTear me old r
tear_needs me b k to t old r0 r tr es h =
    let seen : Memo = word_seen b k t old r0 in
    record {
      geometry = h.may.geometry;
      who = h.may.who;
      here = here_same r0 r (ap (λ (x : Memo). x.status) h.lost.took.rest ∙ seen_status b k t old r0) h.may.here;
      idle = h.lost.took.op;
      inside = h.counted.0;
      room = h.counted.1;
      dying = dies me (spot.Body b k) false old to seen r r h.may.who h.holds h.lost;
    }

-- ---- all of them

pub set_opens : (m : SetState) (y : SetPoint) (r0 r : Memo) (tr : Trail) (es : List Event) → SetKnows (record m { point = y }) y r0 r tr es → (set_plan.part (record m { point = y })).needs (set_call_at m y) r
set_opens m Tag r0 r tr es h = tag_needs (record m { point = Tag }) r (subst (MaySetRef m.me m.block m.to) (sym h.1) h.0)
set_opens m Held r0 r tr es (t, h) = held_needs (record m { point = Held }) t r0 r tr es h
set_opens m Look r0 r tr es (t, h) = look_needs (record m { point = Look }) t r0 r tr es h
set_opens m Raise r0 r tr es (empty, some, (t, h)) = (refl, raise_needs m.me m.block m.word m.to t m.before r0 r tr es h empty some)
set_opens m Lower r0 r tr es (some, none, (t, h)) = (refl, lower_needs m.me m.block m.word m.to t m.before r0 r tr es h some)
set_opens m ToChange r0 r tr es (some, new, (t, h)) = (refl, change_needs m.me m.block m.word m.to t m.before r0 r tr es h some new)
set_opens m Tear r0 r tr es (t, h) = record { made = refl; can = tear_needs m.me m.block m.word m.to t m.before r0 r tr es h }
