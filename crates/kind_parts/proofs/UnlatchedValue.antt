-- a value block whose number is known, and that an own root names, stays one when a latch is given back
use Rattle.std.proofs.Common.{◌≡◌, ◌≢◌, ℕ, ◌<◌, refl, sym, ap, ◌∙◌, arith, true, Option, Some, None, []}
use Rattle.std.proofs.lemmas.{Bool.{and_from, or_left, or_right, le-leb}, List.Elements.All-contains}
use Rattle.std.proofs.lemmas.Map.Views.{list_any-from_Contains}
use Rattle.std.specs.Cmp.{nat_eq_equiv}
use Rattle.shm_words.specs.{declared.geometry.Geometry.Geometry, Tags.tag_refs}
use Rattle.shm_graph.specs.declared.{spot.Spot.{Spot, TheVariants.{Root, Tag, Body}}, memo.Memo.Memo}
use Rattle.shm_graph.specs.{declared.memo.{Op.TheVariants.Nothing, Stored.Stored}, Held.HeldAt}
use Rattle.shm_graph.specs.Reach.{known_at, is_reached, is_dying, is_latch_of, is_free_of_latch, binds_unlatched, unlatched}
use Rattle.shm_graph.specs.Views.{view, own_word}
use Rattle.shm_graph.proofs.Memos.KnownChange.{KnownHolds, ValueHolds}
use Rattle.kind_laws.proofs.Lists.{Contains-filter}
use Rattle.kind_parts.specs.Reparting.{sight, IsValue}
use Rattle.kind_parts.proofs.{LatchBack.known_at_has, Reaching.root_reached}

pub value_unlatched : (g : Geometry) (w : Spot → ℕ) (r : ℕ → Memo) (c v n k : ℕ) → HeldAt g w (view r) → c < g.clients → (r c).op ≡ Nothing → k < 16 → own_word (r c).own (Root c k) ≡ v → v ≢ 0 → IsValue (sight c (r c)) v n → IsValue (sight c (unlatched g.wide c (r c))) v n
value_unlatched g w r c v n k h l idle low root some a =
    let m : Memo = r c in
    let free : Memo = record m { latch = None; looks = [] } in
    let reached : is_reached c free v ≡ true = root_reached c free v k low idle root some in
    record {
      value = Contains-filter (is_reached c free) m.values v a.value reached;
      word = Contains-filter (λ (s : Stored). binds_unlatched g.wide (is_latch_of c m.latch) c free s.spot) m.known (record { spot = Body v 0; value = n }) a.word
          (or_right (is_dying free v) _ (and_from _ _ reached (or_right (is_latch_of c m.latch) _ (by (known_at (Tag v) m.known) refl))));
    }
  where
    by : (o : Option ℕ) → known_at (Tag v) (r c).known ≡ o → is_free_of_latch g.wide c (record (r c) { latch = None; looks = [] }) v 0 o ≡ true
    by None e = list_any-from_Contains nat_eq_equiv v (r c).values a.value
    by (Some t) e =
        let tag : KnownHolds g w (view r) c (record { spot = Tag v; value = t }) = All-contains (KnownHolds g w (view r) c) (r c).known (record { spot = Tag v; value = t }) (h.known c l) (known_at_has (Tag v) (r c).known t e) in
        let value : ValueHolds g w (view r) c v = All-contains (ValueHolds g w (view r) c) (r c).values v (h.values c l) a.value in
        let none : tag_refs g.wide t ≡ 0 = ap (tag_refs g.wide) (sym tag.0) ∙ value.0.names in
        or_left _ _ (le-leb (tag_refs g.wide t) 0 (omega arith))
