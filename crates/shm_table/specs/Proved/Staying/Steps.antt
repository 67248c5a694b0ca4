-- what stays over count steps at words of blocks, and what the steps of tables make of the own map
use Rattle.std.proofs.Common.{◌≡◌, ◌≢◌, ℕ, ◌<◌, refl, sym, ap, ◌∙◌, subst, arith, Bool, true, false, List, ◌∷◌, ◌++◌, inl, [], cond}
use Rattle.std.proofs.lemmas.{Bool.{eq-eqb, false≢true}, List.Elements.{All-contains, Contains-push}}
use Rattle.std.specs.List.{Contains}
use Rattle.shm_words.specs.{declared.geometry.Geometry.Geometry, Tags.tag_refs}
use Rattle.shm_graph.specs.declared.{ask.Me.Me, spot.Spot.{Spot, TheVariants.{Hold, Home, Root, Tag, Body}}}
use Rattle.shm_graph.specs.declared.memo.{Memo.Memo, Op.TheVariants.Nothing, Stored.Stored}
use Rattle.shm_graph.specs.{Held.{HeldAt, is_loose, is_slot}, Idle.IsIdle, Ops.cover_of, Reach.{is_named, learnt}}
use Rattle.shm_graph.specs.Views.{own_word, view}
use Rattle.shm_graph.proofs.Memos.KnownChange.{ValueHolds}
use Rattle.kind_parts.specs.{Beginning.IsOwnWord, Reparting.{sight, map_in, map_after, TableStep}}
use Rattle.kind_parts.proofs.{BeginAt.SlotHas, BeginSlots.home_has, BeginWords.own_word_has, PartsSet.loose_stays}
use Rattle.kind_parts.proofs.Partitions.{Reparted.table_mapped, Seeking.learnt_other}
use Rattle.plans.specs.Parts.{IsHeld}
use Rattle.shm_count.specs.{Proved.Retaining.{held_counted, slot_known, slots_learnt}, Roots.{rest, root_word}}
use Rattle.shm_count.specs.{Slots.{Filled, Lost, Took}, Step.Parts.part_after}
use Rattle.shm_table.specs.{Staying.{Cleared, Keeps}, Proved.Staying.Laws.{keeps_rest, root_named, value_by}}

-- ---- value blocks are apart from blocks with reference words

value_apart_here : (g : Geometry) (w : Spot → ℕ) (r : ℕ → Memo) (c d i x v : ℕ) → HeldAt g w (view r) → c < g.clients → IsOwnWord g.wide c (r c) d i x → Contains (r c).values v → d ≢ v
value_apart_here g w r c d i x v h l own value same =
    let has : SlotHas g w r c (Body d i) x = own_word_has g w r c h l d i x own in
    let held : ValueHolds g w (view r) c v = All-contains (ValueHolds g w (view r) c) (r c).values v (h.values c l) value in
    let low : i < tag_refs g.wide (w (Tag d)) = has.holds.1 in
    let none : tag_refs g.wide (w (Tag d)) ≡ 0 = ap (λ b. tag_refs g.wide (w (Tag b))) same ∙ held.0.names in
    absurd (omega arith)

-- a value block that was read has no reference word that its identity may store
pub value_apart : (me : Me) (m : Memo) (d i x v : ℕ) → IsHeld me m → me.who < me.geometry.clients → IsOwnWord me.geometry.wide me.who m d i x → Contains m.values v → d ≢ v
value_apart me m d i x v (w, r, h, same) l own value =
    value_apart_here me.geometry w r me.who d i x v h l (subst (λ (y : Memo). IsOwnWord me.geometry.wide me.who y d i x) (sym same) own) (subst (λ (y : Memo). Contains y.values v) (sym same) value)

-- so that its number stays known once another word is
number_learnt : (d i x v n : ℕ) (ks : List Stored) → d ≢ v → Contains ks (record { spot = Body v 0; value = n }) → Contains (learnt (Body d i) x ks) (record { spot = Body v 0; value = n })
number_learnt d i x v n ks off h = learnt_other (Body d i) (Body v 0) x n ks (λ e. off (let z : d ≡ v = cc in z)) h

-- and so does a head slot
slot_learnt : (d i x : ℕ) (p : Spot) (y : ℕ) (ks : List Stored) → is_slot p ≡ true → Contains ks (record { spot = p; value = y }) → Contains (learnt (Body d i) x ks) (record { spot = p; value = y })
slot_learnt d i x p y ks s h = learnt_other (Body d i) p x y ks (λ e. false≢true (ap is_slot e ∙ s)) h

-- ---- a step up at a word of a block

pub keeps_filled : (me : Me) (m r : Memo) (d i b y : ℕ) → IsIdle me.who m → IsHeld me m → me.who < me.geometry.clients → IsOwnWord me.geometry.wide me.who m d i y → Filled me.who (Body d i) b m r → Keeps me.who m r
keeps_filled me m r d i b y idle held who word h =
    let c = me.who in
    let known : r.known ≡ learnt (Body d i) b m.known = ap (λ (x : Memo). x.known) h.rest in
    keeps_rest c m r m.latch (part_after c (sight c m) (Body d i) b) idle (ap rest h.rest) (ap (λ (x : Memo). x.op) h.rest ∙ idle.op) (h.own (Hold c) refl ∙ idle.hold)
    (loose_stays m.known c (own_word m.own (Home c)) (Body d i) b m.part)
    (λ p l s. h.own p l)
    (h.rows c)
    (λ j. inl (h.own (Root c j) refl))
    (λ p x s k. subst (λ (ks : List Stored). Contains ks (record { spot = p; value = x })) (sym known) (slot_learnt d i b p x m.known s k))
    (λ k v n l some root a. value_by c m r v n
    (subst (λ vs. Contains vs v) (sym (ap (λ (x : Memo). x.values) h.rest)))
    (λ z. subst (λ (ks : List Stored). Contains ks (record { spot = Body v 0; value = n })) (sym known) (number_learnt d i b v n m.known (value_apart me m d i y v held who word a.value) z)) a)

-- the latch, the own home, the roots and the zero-count blocks are as they were
pub filled_else : (c d i b : ℕ) (m r : Memo) → Filled c (Body d i) b m r → (r.latch ≡ m.latch) × (own_word r.own (Home c) ≡ own_word m.own (Home c)) × (r.part ≡ part_after c (sight c m) (Body d i) b) × Cleared c m r
filled_else c d i b m r h = (ap (λ (x : Memo). x.latch) h.rest, h.own (Home c) refl, ap (λ (x : Memo). x.part) h.rest, record { roots = λ j. h.own (Root c j) refl; dying = ap (λ (x : Memo). x.dying) h.rest })

-- ---- a step that takes a block out of a word of a block

module _ (me : Me) (m r : Memo) (d i t x y : ℕ) (h : Bool) (idle : IsIdle me.who m) (held : IsHeld me m) (who : me.who < me.geometry.clients) (word : IsOwnWord me.geometry.wide me.who m d i y) where
  took_keeps : (z : Bool) → (z ≡ true → (b : ℕ) → is_named me.who r b ≡ true → b ≢ t) → Took me.who (Body d i) h t x z m r → Keeps me.who m r
  took_keeps z other a =
      let c = me.who in
      keeps_rest c m r m.latch (part_after c (sight c m) (Body d i) x) idle a.rest a.op (a.own (Hold c) refl ∙ idle.hold)
      (loose_stays m.known c (own_word m.own (Home c)) (Body d i) x m.part)
      (λ p l s. a.own p l)
      (a.rows c)
      (λ j. inl (a.own (Root c j) refl))
      (λ p u s k. slot_known m r p u (a.sifts.slots ∙ slots_learnt (Body d i) x m.known refl) s k)
      (λ k v n l some root number.
      let named : is_named c r v ≡ true = root_named c r v k l a.op (a.own (Root c k) refl ∙ root) some in
      value_by c m r v n (a.sifts.values v named)
      (λ u. a.sifts.words v (Body v 0) n named (λ e. other e v named) (eq-eqb v v refl) (number_learnt d i x v n m.known (value_apart me m d i y v held who word number.value) u)) number)

  -- whose count didn't come to 0, or that was torn down since
  pub keeps_took : Took me.who (Body d i) h t x false m r → Keeps me.who m r
  keeps_took a = took_keeps false (λ e. absurd (false≢true e)) a

  -- whether it did or not, in a held state
  pub keeps_lost : (z : Bool) → IsHeld me r → Lost me.who (Body d i) h t x z m r → Keeps me.who m r
  keeps_lost z later a = took_keeps z (λ e b named. held_counted me r later who b t named (dies z e a.dying)) a.took
    where
      dies : (z : Bool) → z ≡ true → r.dying ≡ m.dying ++ cond z (t ∷ []) [] → Contains r.dying t
      dies true e same = subst (λ (ds : List ℕ). Contains ds t) (sym same) (Contains-push m.dying t)
      dies false e same = absurd (false≢true e)

-- the latch, the own home and the roots are as they were
pub took_else : (c d i t x : ℕ) (h z : Bool) (m r : Memo) → Took c (Body d i) h t x z m r → (r.latch ≡ m.latch) × (own_word r.own (Home c) ≡ own_word m.own (Home c)) × (r.part ≡ part_after c (sight c m) (Body d i) x) × ((j : ℕ) → root_word c r j ≡ root_word c m j)
took_else c d i t x h z m r a = (ap (λ (y : Memo). y.latch) a.rest, a.own (Home c) refl, ap (λ (y : Memo). y.part) a.rest, λ j. a.own (Root c j) refl)

-- ---- the own map

-- what a count step that has begun at a word of a table makes of the map
abbrev MapStepped : Bool → ℕ → Spot → ℕ → ℕ → Memo → Type 0
MapStepped wide c p old new m = (s : TableStep wide c (sight c m) p old new) (k : ℕ) → map_in (part_after c (sight c m) p new) k ≡ map_after wide c (sight c m) p old new s (map_in m.part) k

-- a word of a block
pub map_word : (me : Me) (m r : Memo) (d i old new : ℕ) → IsHeld me m → me.who < me.geometry.clients → m.op ≡ Nothing → is_loose m.part ≡ false → IsOwnWord me.geometry.wide me.who m d i old → old ≢ new → r.part ≡ part_after me.who (sight me.who m) (Body d i) new
    → (s : TableStep me.geometry.wide me.who (sight me.who m) (Body d i) old new) (k : ℕ) → map_in r.part k ≡ map_after me.geometry.wide me.who (sight me.who m) (Body d i) old new s (map_in m.part) k
map_word me m r d i old new (w, rs, h, same) who idle table word other is s k = ap (λ o. map_in o k) is ∙ subst (MapStepped me.geometry.wide me.who (Body d i) old new) same here s k
  where
    here : MapStepped me.geometry.wide me.who (Body d i) old new (rs me.who)
    here s k =
        let has : SlotHas me.geometry w rs me.who (Body d i) old = own_word_has me.geometry w rs me.who h who d i old (subst (λ (y : Memo). IsOwnWord me.geometry.wide me.who y d i old) (sym same) word) in
        table_mapped me.geometry w rs me.who h who (Body d i) old new (ap cover_of (ap (λ (y : Memo). y.op) same ∙ idle)) has.holds has.word other s (ap (λ (y : Memo). is_loose y.part) same ∙ table) k

-- the own home, which was empty
pub map_home : (me : Me) (m r : Memo) (new : ℕ) → IsHeld me m → me.who < me.geometry.clients → m.op ≡ Nothing → is_loose m.part ≡ false → own_word m.own (Home me.who) ≡ 0 → new ≢ 0 → r.part ≡ part_after me.who (sight me.who m) (Home me.who) new
    → (s : TableStep me.geometry.wide me.who (sight me.who m) (Home me.who) 0 new) (k : ℕ) → map_in r.part k ≡ map_after me.geometry.wide me.who (sight me.who m) (Home me.who) 0 new s (map_in m.part) k
map_home me m r new (w, rs, h, same) who idle table empty some is s k = ap (λ o. map_in o k) is ∙ subst (MapStepped me.geometry.wide me.who (Home me.who) 0 new) same here s k
  where
    here : MapStepped me.geometry.wide me.who (Home me.who) 0 new (rs me.who)
    here s k =
        let has : SlotHas me.geometry w rs me.who (Home me.who) 0 = home_has me.geometry w rs me.who h who (ap (λ (y : Memo). own_word y.own (Home me.who)) same ∙ empty) in
        table_mapped me.geometry w rs me.who h who (Home me.who) 0 new (ap cover_of (ap (λ (y : Memo). y.op) same ∙ idle)) has.holds has.word (λ e. some (sym e)) s (ap (λ (y : Memo). is_loose y.part) same ∙ table) k
