-- reading under a latch and in reach: when it may begin, and what a tag that was read tells: what is proved of it
use Rattle.std.proofs.Common.{◌≡◌, ◌≢◌, ℕ, ◌+◌, ◌<◌, ◌≤◌, ◌%◌, refl, sym, ap, ◌∙◌, subst, arith, true, false, eqb, ◌||◌, inl, inr, List, [], ◌∷◌, ◌++◌, map, Option, None, Some}
use Rattle.std.proofs.lemmas.{Bool.{cases_eq, cond-true, eq-eqb, or_left, or_right}, List.Folds.list_any-append}
use Rattle.std.specs.List.{Contains, filter, list_any}
use Rattle.shm_words.specs.Layout.{GeometryFits, total_of, address_limit}
use Rattle.shm_words.specs.Tags.{tag_author, tag_link, tag_of, tag_plain, tag_refs}
use Rattle.shm_words.proofs.{Placing.total_small, Words.tag_from_fields}
use Rattle.shm_graph.specs.declared.{ask.Me.Me, spot.Spot.{Spot, TheVariants.Tag}, memo.{Look.Look, Memo.Memo}}
use Rattle.shm_graph.specs.{declared.memo.Stored.Stored, Core.core, Idle.hold_word}
use Rattle.shm_graph.specs.{Reach.{is_reached, known_at, learnt, named_blocks, not_at}, Spots.same_spot, Views.view}
use Rattle.shm_graph.proofs.{States.{Holders.reach_counted, Reached.reached_here}, Spots.Spotting.same_spot_self}
use Rattle.plans.specs.Parts.{IsHeld}
use Rattle.shm_count.specs.{Proved.{DyingBlocks.live_room, Retaining.{named_same, slots_learnt}}, Tear.Control.or_empty}
use Rattle.kind_parts.proofs.{BeginWords.known_here, Covering.tag_told, Reaching.look_reached, Words.Blocks.told_inside}
use Rattle.shm_ref.specs.ReadParts.{tagged, IsTag}

-- ---- when reading may begin

-- the latch that a hold word names
pub latch_by : (o : Option ℕ) (a : ℕ) → hold_word o ≡ a + 1 → o ≡ Some a
latch_by None a e = absurd (omega arith)
latch_by (Some b) a e = let same : b ≡ a = omega arith in ap Some same

-- ---- a block that was read

-- a look that has joined the others is in reach
last_any : (p : Spot) (b : ℕ) (ks : List Look) → list_any (eqb b) (map (λ (k : Look). k.block) (ks ++ record { block = b; from = p } ∷ [])) ≡ true
last_any p b [] = or_left (eqb b b) false (eq-eqb b b refl)
last_any p b (k ∷ ks) = or_right (eqb b k.block) (list_any (eqb b) (map (λ (j : Look). j.block) (ks ++ record { block = b; from = p } ∷ []))) (last_any p b ks)

pub looked_reached : (c : ℕ) (p : Spot) (b : ℕ) (m r : Memo) → r.looks ≡ m.looks ++ record { block = b; from = p } ∷ [] → is_reached c r b ≡ true
looked_reached c p b m r e = look_reached c r b (subst (λ (ks : List Look). list_any (eqb b) (map (λ (k : Look). k.block) ks) ≡ true) (sym e) (last_any p b m.looks))

-- in a held state a block in reach lies in the pool
pub reached_room : (me : Me) (b : ℕ) (r : Memo) → me.who < me.geometry.clients → IsHeld me r → is_reached me.who r b ≡ true → b + 2 ≤ total_of me.geometry
reached_room me b r l (w, rs, h, same) reach =
    let live = (reach_counted me.geometry w (view rs) h me.who b l (reached_here me.geometry w rs h me.who l b (subst (λ (x : Memo). is_reached me.who x b ≡ true) (sym same) reach))).0 in
    let room = (live_room me.geometry w rs h b me.who live).1 in
    omega arith

-- so a word that names such a block, or none, has 24 bits
pub small_block : (me : Me) (b : ℕ) → GeometryFits me.geometry → (b ≢ 0 → b + 2 ≤ total_of me.geometry) → b % address_limit ≡ b
small_block me b fits room =
    elim (cases_eq b 0) [
      | inl e ↦ omega arith
      | inr some ↦ (let y = room some in let total = total_small me.geometry fits in omega arith)
    ]

-- ---- a tag that was read

-- the blocks in reach stay
pub reached_tagged : (c b x q : ℕ) (m r : Memo) → core r ≡ core (tagged b x m) → is_reached c r q ≡ is_reached c m q
reached_tagged c b x q m r e =
    let looks : List ℕ = map (λ (k : Look). k.block) m.looks in
    ap (λ (y : Memo). is_reached c y q) e
    ∙ (list_any-append (eqb q) (named_blocks c (tagged b x m)) looks
    ∙ (ap (λ z. z || list_any (eqb q) looks) (named_same c m (tagged b x m) q (λ k. refl) refl (slots_learnt (Tag b) x m.known refl))
    ∙ sym (list_any-append (eqb q) (named_blocks c m) looks)))

pub is_tag : (me : Me) (b x : ℕ) (m r : Memo) → me.who < me.geometry.clients → IsHeld me r → is_reached me.who m b ≡ true → core r ≡ core (tagged b x m) → IsTag me b x r
is_tag me b x m r l (w, rs, h, same) reach e =
    let c : ℕ = me.who in
    let known : r.known ≡ learnt (Tag b) x m.known = ap (λ (y : Memo). y.known) e in
    let at : known_at (Tag b) r.known ≡ Some x = ap (known_at (Tag b)) known ∙ cond-true (same_spot (Tag b) (Tag b)) (Some x) (known_at (Tag b) (filter (not_at (Tag b)) m.known)) (same_spot_self (Tag b)) in
    let told = tag_told c r me.geometry.wide b x at in
    let ends = told_inside me r (record { block = b; refs = tag_refs me.geometry.wide x; plain = tag_plain me.geometry.wide x; author = Some (tag_author me.geometry.wide x) }) l (w, rs, h, same) told in
    let has : Contains (rs c).known (record { spot = Tag b; value = x }) = subst (λ (y : Memo). Contains y.known (record { spot = Tag b; value = x })) (sym same) (subst (λ (ks : List Stored). Contains ks (record { spot = Tag b; value = x })) (sym known) (0, omega arith, refl)) in
    let found : w (Tag b) ≡ x = (known_here me.geometry w rs c h l (Tag b) x has).0 in
    let live = (reach_counted me.geometry w (view rs) h c b l (reached_here me.geometry w rs h c l b (subst (λ (y : Memo). is_reached c y b ≡ true) (sym same) (reached_tagged c b x b m r e ∙ reach)))).0 in
    let s = h.blocks.tagged b live in
    let is = subst (λ n. tag_of me.geometry.wide n ≡ Some (record { refs = tag_refs me.geometry.wide n; plain = tag_plain me.geometry.wide n; author = tag_author me.geometry.wide n; link = tag_link me.geometry.wide n })) found (tag_from_fields me.geometry.wide (w (Tag b)) s.small s.refs s.plain) in
    record {
      read = ap or_empty is;
      told = told;
      author = subst (λ n. tag_author me.geometry.wide n < me.geometry.clients) found s.author;
      above = ends.0;
      last = ends.1;
    }
