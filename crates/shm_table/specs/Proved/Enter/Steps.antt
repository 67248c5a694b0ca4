-- the count steps of a new entry may be made
use Rattle.std.proofs.Common.{◌≡◌, ◌≢◌, ℕ, ◌+◌, ◌%◌, ◌<◌, refl, sym, ap, ◌∙◌, subst, arith, true, false, inl, inr}
use Rattle.std.proofs.lemmas.Bool.{cases_eq}
use Rattle.shm_words.proofs.Placing.{total_small}
use Rattle.shm_graph.specs.{declared.{ask.Me.Me, memo.{Memo.Memo, Op.TheVariants.Nothing}}, Agents.recovers}
use Rattle.shm_graph.specs.{Idle.IsIdle, Ops.cover_of, Reach.is_reached, Spots.spot_address, Views.own_word}
use Rattle.shm_graph.specs.declared.spot.Spot.TheVariants as spot
use Rattle.plans.specs.Parts.{IsHeld}
use Rattle.kind_parts.specs.{Beginning.IsOwnWord, Conditions.IsHere, Reparting.{sight, IsKnown, IsValue}}
use Rattle.kind_parts.specs.Walking.{IsComing, IsVacant}
use Rattle.kind_parts.proofs.{BeginWords.word_address, Reaching.{home_reached, root_reached}}
use Rattle.kind_parts.proofs.Partitions.{Words.{directory_word, tagged_word}, Walked.{first_other, new_not_home}}
use Rattle.shm_count.specs.declared.point.{Aim.{Aim, TheVariants.{Up, Change as ToChange}}, StepPoint.TheVariants.Era}
use Rattle.shm_count.specs.Proved.Carrying.{link_fills, link_replaces, next_filled, next_fills, value_filled, value_fills}
use Rattle.shm_count.specs.{Proved.Slots.Parts.era_room, Roots.root_word, Slots.MayStepAt, Step.{CanStep, Parts.Raised}}
use Rattle.shm_table.specs.{Enter.IsMade, Proved.Staying.Laws.root_kept}

-- ---- what the memo shows

-- an identity that is between two calls is here
pub idle_here : (c : ℕ) (r : Memo) → IsIdle c r → IsHere r
idle_here c r idle = record { joined = λ z. let u = sym idle.live ∙ z in cc; stays = λ z. let u = sym idle.live ∙ z in cc }

-- of a memo of a held state, in which root k has a block that is to be an entry
module _ (me : Me) (r : Memo) (held : IsHeld me r) (who : me.who < me.geometry.clients) (idle : IsIdle me.who r) (client : recovers r ≡ false) (key first k b next value : ℕ) (vacant : IsVacant me.who r key first) (coming : IsComing me.geometry.wide me.who r k b key next value) where
  abbrev c : ℕ
  c = me.who

  abbrev home : ℕ
  home = own_word r.own (spot.Home me.who)

  -- it is in reach
  pub entry_reached : is_reached me.who r b ≡ true
  entry_reached = root_reached me.who r b k coming.root.0 idle.op coming.root.1 coming.root.2

  -- its reference words are own words, and so is the word of the bucket
  pub entry_own : (i x : ℕ) → i < 2 → IsKnown (sight me.who r) (spot.Body b i) x → IsOwnWord me.geometry.wide me.who r b i x
  entry_own i x low known = tagged_word me.geometry.wide me.who r b 2 1 i x vacant.latch coming.entry.tagged entry_reached low known

  pub bucket_own : IsOwnWord me.geometry.wide me.who r home (key % 16) first
  bucket_own = directory_word me.geometry.wide me.who r home (key % 16) first vacant.latch vacant.role (home_reached me.who r home idle.op refl vacant.some) (omega arith) vacant.word

  -- what holds of it where it follows of the memo of an identity in a held state
  abbrev Shows : (Memo → Type 0) → Memo → Type 0
  Shows P x = IsHere x → x.op ≡ Nothing → recovers x ≡ false → IsVacant me.who x key first → IsComing me.geometry.wide me.who x k b key next value → P x

  shown : (P : Memo → Type 0) → Shows P r → P r
  shown P f = f (idle_here me.who r idle) idle.op client vacant coming

  -- the address is the one that the machine asks for
  at_word : (d i : ℕ) (x : Aim) → CanStep me (spot_address me.geometry (spot.Body d i)) x (spot.Body d i) r → CanStep me (d + 2 + i) x (spot.Body d i) r
  at_word d i x = subst (λ s. CanStep me s x (spot.Body d i) r) (word_address me.geometry d i)

  -- its value word may be filled, and its next word
  pub value_can : (v : ℕ) → value ≡ 0 → is_reached me.who r v ≡ true → CanStep me (b + 2 + 1) (Up v) (spot.Body b 1) r
  value_can v none reach =
      let (w, rs, h, same) = held in
      at_word b 1 (Up v)
      (shown (λ x. is_reached me.who x v ≡ true → CanStep me (spot_address me.geometry (spot.Body b 1)) (Up v) (spot.Body b 1) x)
      (subst (Shows (λ x. is_reached me.who x v ≡ true → CanStep me (spot_address me.geometry (spot.Body b 1)) (Up v) (spot.Body b 1) x)) same
      (λ here quiet user free comes reached. value_fills me w rs h who here quiet user key first free k b next value comes v none reached)) reach)

  pub next_can : next ≡ 0 → first ≢ 0 → CanStep me (b + 2 + 0) (Up first) (spot.Body b 0) r
  next_can none some =
      let (w, rs, h, same) = held in
      at_word b 0 (Up first)
      (shown (CanStep me (spot_address me.geometry (spot.Body b 0)) (Up first) (spot.Body b 0))
      (subst (Shows (CanStep me (spot_address me.geometry (spot.Body b 0)) (Up first) (spot.Body b 0))) same
      (λ here quiet user free comes. next_fills me w rs h who here quiet user key first free k b next value comes none some)))

  -- an empty bucket may have it, and one that has entries
  abbrev Links : Aim → Memo → Type 0
  Links a x = CanStep me (spot_address me.geometry (spot.Body (own_word x.own (spot.Home me.who)) (key % 16))) a (spot.Body (own_word x.own (spot.Home me.who)) (key % 16)) x

  pub link_can : (n : ℕ) → next ≡ first → first ≡ 0 → IsValue (sight me.who r) value n → CanStep me (home + 2 + key % 16) (Up b) (spot.Body home (key % 16)) r
  link_can n e none number =
      let (w, rs, h, same) = held in
      at_word home (key % 16) (Up b)
      (shown (λ x. IsValue (sight me.who x) value n → Links (Up b) x)
      (subst (Shows (λ x. IsValue (sight me.who x) value n → Links (Up b) x)) same
      (λ here quiet user free comes is. link_fills me w rs h who here quiet user key first free k b next value comes n e none is)) number)

  pub change_can : (n : ℕ) → next ≡ first → first ≢ 0 → IsValue (sight me.who r) value n → CanStep me (home + 2 + key % 16) (ToChange first b) (spot.Body home (key % 16)) r
  change_can n e some number =
      let (w, rs, h, same) = held in
      at_word home (key % 16) (ToChange first b)
      (shown (λ x. IsValue (sight me.who x) value n → Links (ToChange first b) x)
      (subst (Shows (λ x. IsValue (sight me.who x) value n → Links (ToChange first b) x)) same
      (λ here quiet user free comes is. link_replaces me w rs h who here quiet user key first free k b next value comes n e some is)) number)

  -- the first entry isn't the new one, which isn't the directory
  pub first_apart : first ≢ b
  first_apart e =
      let (w, rs, h, same) = held in
      elim (cases_eq first 0) [
        | inl none ↦ coming.root.2 (sym e ∙ none)
        | inr some ↦ shown (λ x. first ≢ b)
            (subst (Shows (λ x. first ≢ b)) same (λ here quiet user free comes. first_other me.geometry w rs me.who h who (ap cover_of quiet) free.table key first b free.some free.word comes.entry some)) e
      ]

  pub home_apart : home ≢ b
  home_apart e =
      let (w, rs, h, same) = held in
      shown (λ x. b ≢ own_word x.own (spot.Home me.who))
      (subst (Shows (λ x. b ≢ own_word x.own (spot.Home me.who))) same (λ here quiet user free comes. new_not_home me.geometry w rs me.who h who (ap cover_of quiet) free.table b key comes.entry)) (sym e)

  -- ---- once a word was filled

  pub value_then : (v : ℕ) (x : Memo) → value ≡ 0 → v ≢ 0 → Raised me.who (spot.Body b 1) v r x → IsVacant me.who x key first × IsComing me.geometry.wide me.who x k b key next v
  value_then v x none some raised =
      let (w, rs, h, same) = held in
      shown (λ y. Raised me.who (spot.Body b 1) v y x → IsVacant me.who x key first × IsComing me.geometry.wide me.who x k b key next v)
      (subst (Shows (λ y. Raised me.who (spot.Body b 1) v y x → IsVacant me.who x key first × IsComing me.geometry.wide me.who x k b key next v)) same
      (λ here quiet user free comes a. value_filled me w rs h who here quiet user key first free k b next value comes v x none some a)) raised

  pub next_then : (x : Memo) → next ≡ 0 → first ≢ 0 → Raised me.who (spot.Body b 0) first r x → IsVacant me.who x key first × IsComing me.geometry.wide me.who x k b key first value
  next_then x none some raised =
      let (w, rs, h, same) = held in
      shown (λ y. Raised me.who (spot.Body b 0) first y x → IsVacant me.who x key first × IsComing me.geometry.wide me.who x k b key first value)
      (subst (Shows (λ y. Raised me.who (spot.Body b 0) first y x → IsVacant me.who x key first × IsComing me.geometry.wide me.who x k b key first value)) same
      (λ here quiet user free comes a. next_filled me w rs h who here quiet user key first free k b next value comes x none some a)) raised

  -- ---- a count step

  pub may_up : (d i to : ℕ) → CanStep me (d + 2 + i) (Up to) (spot.Body d i) r → MayStepAt (spot.Body d i) false (record { me = me; slot = d + 2 + i; aim = Up to; point = Era }) r
  may_up d i to can =
      let total = total_small me.geometry can.geometry in
      let end = can.inside.1 in
      let l = can.blocks.1 in
      record {
        step = record { made = refl; knows = record { geometry = can.geometry; who = who; slot = omega arith; aim = omega arith; point = tt }; can = can };
        at = tt;
        era = era_room me r held who idle.op;
      }

  pub may_change : (d i from to : ℕ) → CanStep me (d + 2 + i) (ToChange from to) (spot.Body d i) r → MayStepAt (spot.Body d i) false (record { me = me; slot = d + 2 + i; aim = ToChange from to; point = Era }) r
  may_change d i from to can =
      let total = total_small me.geometry can.geometry in
      let end = can.inside.1 in
      let l = can.blocks.0.1 in
      let l2 = can.blocks.1.1 in
      record {
        step = record { made = refl; knows = record { geometry = can.geometry; who = who; slot = omega arith; aim = (omega arith, omega arith); point = tt }; can = can };
        at = tt;
        era = era_room me r held who idle.op;
      }

-- ---- on the way

module _ (me : Me) (key v n home first k b next value : ℕ) (r0 r : Memo) (h : IsMade me key v n home first k b next value r0 r) where
  -- the value block is in reach, and its number is known
  pub value_named : (k : ℕ) × (k < 16) × (root_word me.who r k ≡ v)
  value_named = let (j, low, is) = h.may.named in (j, low, root_kept me.who r0 r j v h.keeps h.may.some is)

  pub value_reached : is_reached me.who r v ≡ true
  value_reached = let (j, low, is) = value_named in root_reached me.who r v j low h.keeps.idle.op is h.may.some

  pub value_number : (x : ℕ) → IsValue (sight me.who r0) v x → IsValue (sight me.who r) v x
  value_number x is = let (j, low, root) = h.may.named in h.keeps.values j v x low h.may.some root is

  -- a count step that fills a word
  pub may_fill : (d i to : ℕ) → CanStep me (d + 2 + i) (Up to) (spot.Body d i) r → MayStepAt (spot.Body d i) false (record { me = me; slot = d + 2 + i; aim = Up to; point = Era }) r
  may_fill = may_up me r h.holds h.may.who h.keeps.idle h.client key first k b next value h.vacant h.coming

-- ---- the count steps

module _ (me : Me) (key v n home first k b : ℕ) (r0 r : Memo) where
  pub value_needs : IsMade me key v n home first k b 0 0 r0 r → MayStepAt (spot.Body b 1) false (record { me = me; slot = b + 2 + 1; aim = Up v; point = Era }) r
  value_needs h = may_fill me key v n home first k b 0 0 r0 r h b 1 v (value_can me r h.holds h.may.who h.keeps.idle h.client key first k b 0 0 h.vacant h.coming v refl (value_reached me key v n home first k b 0 0 r0 r h))

  pub next_needs : first ≢ 0 → IsMade me key v n home first k b 0 v r0 r → MayStepAt (spot.Body b 0) false (record { me = me; slot = b + 2 + 0; aim = Up first; point = Era }) r
  next_needs some h = may_fill me key v n home first k b 0 v r0 r h b 0 first (next_can me r h.holds h.may.who h.keeps.idle h.client key first k b 0 v h.vacant h.coming refl some)

  pub link_needs : first ≡ 0 → IsMade me key v n home first k b 0 v r0 r → MayStepAt (spot.Body home (key % 16)) false (record { me = me; slot = home + 2 + key % 16; aim = Up b; point = Era }) r
  link_needs none h =
      let can = link_can me r h.holds h.may.who h.keeps.idle h.client key first k b 0 v h.vacant h.coming n (sym none) none (value_number me key v n home first k b 0 v r0 r h n h.may.value) in
      may_fill me key v n home first k b 0 v r0 r h home (key % 16) b (subst (λ d. CanStep me (d + 2 + key % 16) (Up b) (spot.Body d (key % 16)) r) h.directory can)

  pub change_needs : first ≢ 0 → IsMade me key v n home first k b first v r0 r → MayStepAt (spot.Body home (key % 16)) false (record { me = me; slot = home + 2 + key % 16; aim = ToChange first b; point = Era }) r
  change_needs some h =
      let can = change_can me r h.holds h.may.who h.keeps.idle h.client key first k b first v h.vacant h.coming n refl some (value_number me key v n home first k b first v r0 r h n h.may.value) in
      may_change me r h.holds h.may.who h.keeps.idle h.client key first k b first v h.vacant h.coming home (key % 16) first b (subst (λ d. CanStep me (d + 2 + key % 16) (ToChange first b) (spot.Body d (key % 16)) r) h.directory can)
