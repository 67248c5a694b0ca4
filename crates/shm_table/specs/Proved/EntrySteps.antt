-- what may be done at an entry of the own table that a walk found, once its value word or its next word was read, and what that makes of the map
use Rattle.std.proofs.Common.{◌≡◌, ◌≢◌, ℕ, ◌+◌, ◌%◌, ◌<◌, refl, sym, ap, ◌∙◌, subst, arith, true, false, List, ◌∷◌, inl, inr}
use Rattle.std.proofs.lemmas.Bool.{cases_eq}
use Rattle.std.specs.Prelude.{◌==◌, if◌then◌else◌, Some, None}
use Rattle.shm_words.specs.Layout.{GeometryFits, address_limit}
use Rattle.shm_words.proofs.Placing.{total_small}
use Rattle.shm_graph.specs.declared.{ask.Me.Me, memo.{Memo.Memo, Op.TheVariants.Nothing}, spot.Spot.Spot}
use Rattle.shm_graph.specs.{declared.{spot.Spot.TheVariants.Body, table.Entry.Entry}, Agents.recovers, Held.HeldAt}
use Rattle.shm_graph.specs.{Ops.cover_of, Reach.is_reached, Spots.spot_address, Views.view}
use Rattle.plans.specs.Parts.{IsHeld}
use Rattle.kind_parts.specs.{Beginning.IsOwnWord, Conditions.IsHere, Reparting.{sight, map_in, IsKnown, IsValue}}
use Rattle.kind_parts.specs.{Reparting.TableStep.{Unlinks, Replaces}, Walking.{IsSeeking, is_looked}}
use Rattle.kind_parts.proofs.{BeginAt.SlotHas, BeginWords.{own_word_has, word_address}, Reaching.look_reached}
use Rattle.kind_parts.proofs.Partitions.{Reparted.table_mapped, Seeking.seek_own, Words.entry_word}
use Rattle.kind_parts.proofs.Partitions.Walked.{entry_numbered, entry_some, entry_valued, next_other, value_some, walk_has}
use Rattle.shm_count.specs.declared.point.{Aim.{Aim, TheVariants.{Up, Down, Change}}, StepPoint.TheVariants.Era}
use Rattle.shm_count.specs.Proved.{Deciding.{entry_goes, last_goes, value_changes}, Slots.Parts.era_room}
use Rattle.shm_count.specs.{Slots.{IsSlotFor, MayStepAt}, Step.{Control.{AimFits, AimSmall, IsInside}, CanStep}}
use Rattle.shm_count.specs.Step.Parts.{part_after}

-- the value word of the entry at block `at` was read and names `old`: the map has that value block at the key, and it may be changed to another one
pub record ValueSteps (me : Me) (key at old : ℕ) (x : Memo) : Type 0 where
  pub some : old ≢ 0
  pub was : (n : ℕ) × (map_in x.part key ≡ Some (n, old))
  pub same : (v n : ℕ) → old ≡ v → IsValue (sight me.who x) v n → map_in x.part key ≡ Some (n, v)
  pub can : (v n : ℕ) → old ≢ v → IsValue (sight me.who x) v n → is_reached me.who x v ≡ true → CanStep me (spot_address me.geometry (Body at 1)) (Change old v) (Body at 1) x
  pub map : (v n : ℕ) → old ≢ v → IsValue (sight me.who x) v n → (k : ℕ) → map_in (part_after me.who (sight me.who x) (Body at 1) v) k ≡ (if key == k then Some (n, v) else map_in x.part k)
  pub own : IsOwnWord me.geometry.wide me.who x at 1 old

-- its next word was read and names `next`: the word that leads to the entry may come to name that, by which the key goes
pub record LinkSteps (me : Me) (key at d i next : ℕ) (x : Memo) : Type 0 where
  pub was : (n : ℕ) × (v : ℕ) × (map_in x.part key ≡ Some (n, v))
  pub last : next ≡ 0 → CanStep me (spot_address me.geometry (Body d i)) (Down at) (Body d i) x
  pub goes : next ≢ 0 → CanStep me (spot_address me.geometry (Body d i)) (Change at next) (Body d i) x
  pub map : (k : ℕ) → map_in (part_after me.who (sight me.who x) (Body d i) next) k ≡ (if key == k then None else map_in x.part k)
  pub own : IsOwnWord me.geometry.wide me.who x d i at

-- ---- in a held state

module _ (me : Me) (w : Spot → ℕ) (r : ℕ → Memo) (held : HeldAt me.geometry w (view r)) (who : me.who < me.geometry.clients) (here : IsHere (r me.who)) (idle : (r me.who).op ≡ Nothing) (client : recovers (r me.who) ≡ false)
    (key first : ℕ) (d i at : ℕ) (xs : List Entry) (e : Entry) (ys : List Entry) (seeks : IsSeeking me.who (r me.who) key first (Body d i) at xs (e ∷ ys)) (found : e.key ≡ key) where
  value_at : (old : ℕ) → IsKnown (sight me.who (r me.who)) (Body at 1) old → ValueSteps me key at old (r me.who)
  value_at old known =
      let c = me.who in
      let g = me.geometry in
      let s = sight me.who (r me.who) in
      let quiet = ap cover_of idle in
      let has = walk_has s key (Body d i) at xs e ys seeks.walk found in
      let there : IsKnown s (Body e.block 1) old = subst (λ b. IsKnown s (Body b 1) old) seeks.walk.starts known in
      let valued : e.value ≡ old = entry_valued g w r c held who quiet seeks.table key old xs e ys has.0 there in
      let role = seeks.here (entry_some g w r c held who quiet seeks.table key (Body d i) at xs e ys seeks.walk) in
      let own : IsOwnWord me.geometry.wide c (r me.who) at 1 old = entry_word me.geometry.wide c (r me.who) at 1 old seeks.latch role.0 (look_reached c (r me.who) at role.1) (omega arith) known in
      let slot : SlotHas g w r c (Body at 1) old = own_word_has g w r c held who at 1 old own in
      record {
        some = value_some g w r c held who quiet seeks.table key old xs e ys has.0 there;
        was = (e.number, has.1 ∙ ap (λ k. Some (e.number, k)) valued);
        same = λ v n is number. has.1 ∙ (ap (λ k. Some (k, e.value)) (entry_numbered g w r c held who quiet seeks.table key v n xs e ys has.0 (valued ∙ is) number.word) ∙ ap (λ k. Some (n, k)) (valued ∙ is));
        can = λ v n other number reach. value_changes me w r held who here idle client key first (Body d i) at xs e ys seeks found old v n known other number reach;
        map = λ v n other number k. table_mapped g w r c held who (Body at 1) old v quiet slot.holds slot.word other (Replaces key n xs e ys has.0 (ap (λ b. Body b 1) seeks.walk.starts) number) seeks.table k;
        own = own;
      }

  link_at : (next : ℕ) → IsKnown (sight me.who (r me.who)) (Body at 0) next → (next ≢ 0 → is_looked (r me.who) next ≡ true) → LinkSteps me key at d i next (r me.who)
  link_at next known looked =
      let c = me.who in
      let g = me.geometry in
      let s = sight me.who (r me.who) in
      let quiet = ap cover_of idle in
      let has = walk_has s key (Body d i) at xs e ys seeks.walk found in
      let some : at ≢ 0 = entry_some g w r c held who quiet seeks.table key (Body d i) at xs e ys seeks.walk in
      let own : IsOwnWord me.geometry.wide c (r me.who) d i at = seek_own me.geometry.wide c (r me.who) key first (Body d i) at d i xs (e ∷ ys) idle seeks refl in
      let slot : SlotHas g w r c (Body d i) at = own_word_has g w r c held who d i at own in
      let other : at ≢ next = elim (cases_eq next 0) [
        | inl z ↦ λ y. some (y ∙ z)
        | inr more ↦ next_other g w r c held who quiet seeks.table key (Body d i) at next xs e ys seeks.walk known more
      ] in
      record {
        was = (e.number, e.value, has.1);
        last = last_goes me w r held who here idle client key first (Body d i) at xs e ys seeks found d i next refl known;
        goes = λ more. entry_goes me w r held who here idle client key first (Body d i) at xs e ys seeks found d i next refl known more (looked more);
        map = λ k. table_mapped g w r c held who (Body d i) at next quiet slot.holds slot.word other (Unlinks key xs e ys has.0 seeks.walk.link (sym seeks.walk.starts) known) seeks.table k;
        own = own;
      }

-- ---- of the memo of one

module _ (me : Me) (r : Memo) (held : IsHeld me r) (who : me.who < me.geometry.clients) (here : IsHere r) (idle : r.op ≡ Nothing) (client : recovers r ≡ false)
    (key first : ℕ) (d i at : ℕ) (xs : List Entry) (e : Entry) (ys : List Entry) (seeks : IsSeeking me.who r key first (Body d i) at xs (e ∷ ys)) (found : e.key ≡ key) where
  pub value_steps : (old : ℕ) → IsKnown (sight me.who r) (Body at 1) old → ValueSteps me key at old r
  value_steps old known = of held
    where
      of : IsHeld me r → ValueSteps me key at old r
      of (w, rs, h, same) =
          subst (λ (x : Memo). IsHere x → x.op ≡ Nothing → recovers x ≡ false → IsSeeking me.who x key first (Body d i) at xs (e ∷ ys) → IsKnown (sight me.who x) (Body at 1) old → ValueSteps me key at old x) same
          (λ h2 o u k y. value_at me w rs h who h2 o u key first d i at xs e ys k found old y)
          here idle client seeks known

  pub link_steps : (next : ℕ) → IsKnown (sight me.who r) (Body at 0) next → (next ≢ 0 → is_looked r next ≡ true) → LinkSteps me key at d i next r
  link_steps next known looked = of held
    where
      of : IsHeld me r → LinkSteps me key at d i next r
      of (w, rs, h, same) =
          subst (λ (x : Memo). IsHere x → x.op ≡ Nothing → recovers x ≡ false → IsSeeking me.who x key first (Body d i) at xs (e ∷ ys) → IsKnown (sight me.who x) (Body at 0) next → (next ≢ 0 → is_looked x next ≡ true) → LinkSteps me key at d i next x) same
          (λ h2 o u k y z. link_at me w rs h who h2 o u key first d i at xs e ys k found next y z)
          here idle client seeks known looked

-- ---- as it is called

-- blocks of the pool are small
aim_small : (me : Me) (x : Aim) → GeometryFits me.geometry → AimFits me x → AimSmall x
aim_small me x fits is = go x is
  where
    small : (b : ℕ) → IsInside me b → b < address_limit
    small b inside = let total = total_small me.geometry fits in let l = inside.1 in omega arith

    go : (x : Aim) → AimFits me x → AimSmall x
    go (Up b) h = small b h
    go (Down b) h = small b h
    go (Change a b) h = (small a h.0, small b h.1)

-- a count step at a word of a block may be made, at the word's address
pub word_step : (me : Me) (d i : ℕ) (x : Aim) (r : Memo) → IsHeld me r → IsSlotFor me.who x (Body d i) false → CanStep me (spot_address me.geometry (Body d i)) x (Body d i) r
    → MayStepAt (Body d i) false (record { me = me; slot = (d + 2 + i) % address_limit; aim = x; point = Era }) r
word_step me d i x r held slot can =
    let total = total_small me.geometry can.geometry in
    let end = can.inside.1 in
    let at = word_address me.geometry d i in
    let low : d + 2 + i < address_limit = omega arith in
    let is : (d + 2 + i) % address_limit ≡ d + 2 + i = omega arith in
    subst (λ y. MayStepAt (Body d i) false (record { me = me; slot = y; aim = x; point = Era }) r) (sym is)
    (record {
      step = record {
        made = refl;
        knows = record { geometry = can.geometry; who = can.who; slot = low; aim = aim_small me x can.geometry can.blocks; point = tt };
        can = subst (λ y. CanStep me y x (Body d i) r) at can;
      };
      at = slot;
      era = era_room me r held can.who can.idle;
    })
