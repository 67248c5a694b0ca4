-- what is owed of a plain word of a block
use Rattle.std.proofs.Common.{◌≡◌, ℕ, ◌+◌, ◌<◌, ◌≤◌, refl, sym, ap, ◌∙◌, subst, arith, Bool, true, false, List, [], ◌∷◌, ◌++◌}
use Rattle.std.proofs.lemmas.Bool.{ltb-false, ltb-true}
use Rattle.std.specs.{Prelude.{if◌then◌else◌, nat_lt, None, Some, Err}, List.Contains}
use Rattle.shm_words.specs.{declared.tag.Tag.Tag as ATag, Tags.{tag_plain, tag_refs}}
use Rattle.shm_graph.specs.declared.{spot.Spot.TheVariants.{Body, Tag}, memo.{Memo.Memo, Stored.Stored}}
use Rattle.shm_graph.specs.{Asks.{Trail, pair}, Core.core, Events.Event, Laws.Outcome, Reach.{is_reached, learnt}}
use Rattle.kind_parts.specs.WordParts.{as_known}
use Rattle.kind_parts.proofs.{Covering.reached_told, Words.Blocks.{idle_settled, plain_load, tag_load}}
use Rattle.plans.specs.{Parts.IsHeld, Plans.{PlanLaws, PlanStays, Follows}}
use Rattle.plans.specs.Words.{word_control, word_part, word_part_laws}
use Rattle.shm_count.specs.Tear.Control.{tag_read}
use Rattle.shm_ref.specs.declared.read.{ReadPoint.{ReadPoint, TheVariants.{Shape, Plain}}, ReadState.ReadState}
use Rattle.shm_ref.specs.Proved.{AskedParts.{asked_part_laws, one_more}, ReadParts.is_tag}
use Rattle.shm_ref.specs.Read.{IsReading, ReadFound, ReadKnows, ReadLeaves, is_shape, read_ask, read_call, read_part, read_plan}
use Rattle.shm_ref.specs.ReadParts.{IsTag, MayRead, tagged}

-- what a word step left, and what it asked
abbrev Leaves : ReadState → ReadPoint → Memo → Memo → Trail → List Event → ℕ → Type 0
Leaves m y = (read_part (record m { point = y }) y).leaves (read_call m y)

-- what is known of a word, in a memo that is the same
known_same : (b : ℕ) (r r0 : Memo) (n : ℕ) → r ≡ r0 → as_known (Tag b) r n → as_known (Tag b) r0 n
known_same b r r0 n same h = subst (λ (x : Memo). as_known (Tag b) x n) same h

pub read_laws : PlanLaws word_control read_plan
read_laws =
    record {
      stays = λ m n. stays m m.point n;
      calls = λ m. record { me = refl; asks = refl };
      parts = λ m. let part = word_part (is_shape m.point) m.me (read_ask m.block (m.refs + m.index) m.point) (ReadFound m m.point) in
          asked_part_laws (is_shape m.point) word_control part (word_part_laws (is_shape m.point) m.me (read_ask m.block (m.refs + m.index) m.point) (ReadFound m m.point));
      opens = λ m. opens m m.point;
      leads = λ m r0 rs r tr t es ds n h w held same. leads m m.point r0 rs r tr t es ds n h w held;
    }
  where
    opens : (m : ReadState) (y : ReadPoint) (r0 r : Memo) (tr : Trail) (es : List Event) → ReadKnows (record m { point = y }) y r0 r tr es → (read_plan.part (record m { point = y })).needs (read_call m y) r
    opens m Shape r0 r tr es h =
        let room = h.0.room in
        tag_load true m.me r h.0.may.who m.block (omega arith, omega arith) (reached_told m.me.who r m.me.geometry.wide m.block (ap (λ (x : Memo). is_reached m.me.who x m.block) h.1 ∙ h.0.reach))
    opens m Plain r0 r tr es (x, h) =
        let refs = h.refs in
        let low = h.low in
        let last = h.tag.last in
        plain_load false m.me r h.may.may.who m.block (m.refs + m.index) (omega arith, omega arith)
        (record { block = m.block; refs = tag_refs m.me.geometry.wide x; plain = tag_plain m.me.geometry.wide x; author = _ }, h.tag.told, refl, omega arith, omega arith)
        (idle_settled r (Body m.block (m.refs + m.index)) (ap (λ (y : Memo). y.op) h.same ∙ h.may.may.idle))

    stays : (m : ReadState) (y : ReadPoint) (n : ℕ) → PlanStays word_control read_plan (record m { point = y }) n
    stays m Shape n = record { same_me = refl; same_line = refl; same_start = refl; started = λ e. refl }
    stays m Plain n = record { same_me = refl; same_line = refl; same_start = refl; started = λ e. absurd (cc) }

    -- the tag told of the word, or of fewer; g is the tag as the control reads it
    told : (m : ReadState) (r0 r : Memo) (tr : Trail) (es : List Event) (n : ℕ) (g : ATag) → g.refs ≡ tag_refs m.me.geometry.wide n → g.plain ≡ tag_plain m.me.geometry.wide n → MayRead m.me m.block r0 → as_known (Tag m.block) r0 n → IsTag m.me m.block n r → core r ≡ core (tagged m.block n r0) → es ≡ [] → tr ≡ pair (read_ask m.block 0 Shape) n ∷ []
        → (q : Bool) → (q ≡ true → m.index < g.plain) → (q ≡ false → g.plain ≤ m.index)
        → Outcome (if q then None else Some (Err (record { plain = g.plain }))) ((x : ℕ) × IsReading m.me m.block m.index g.refs x r0 r tr es) (ReadLeaves (record m { refs = 0; point = Shape }) r0 r tr es)
    told m r0 r tr es n g refs plain may known tag cored none trail true low high =
        (n, record { may = may; refs = refs; low = subst (λ z. m.index < z) plain (low refl); known = known; tag = tag; same = cored; none = none; trail = trail })
    told m r0 r tr es n g refs plain may known tag cored none trail false low high =
        record { x = n; plain = plain; high = high refl; tag = known; memo = cored; none = none; trail = trail }

    leads : (m : ReadState) (y : ReadPoint) (r0 rs r : Memo) (tr t : Trail) (es ds : List Event) (n : ℕ) → ReadKnows (record m { point = y }) y r0 rs tr es → Leaves m y rs r t ds n → IsHeld m.me r → Follows word_control read_plan (record m { point = y }) n r0 r (tr ++ t) (es ++ ds)
    leads m Shape r0 rs r tr t es ds n h w held =
        let cored : core r ≡ core (tagged m.block n r0) = w.0.found.left ∙ ap (λ (x : Memo). core (tagged m.block n x)) h.1 in
        let tag = is_tag m.me m.block n r0 r h.0.may.who held h.0.reach cored in
        told m r0 r (tr ++ t) (es ++ ds) n (tag_read m.me.geometry.wide n) (ap (λ (g : ATag). g.refs) tag.read) (ap (λ (g : ATag). g.plain) tag.read) h.0 (known_same m.block rs r0 n h.1 w.0.found.found) tag cored
        (ap (λ (x : List Event). x ++ ds) h.3 ∙ w.0.none)
        (one_more (read_ask m.block 0 Shape) n n tr [] t h.2 refl w.1)
        (nat_lt m.index (tag_read m.me.geometry.wide n).plain) (ltb-true m.index (tag_read m.me.geometry.wide n).plain) (ltb-false m.index (tag_read m.me.geometry.wide n).plain)
    leads m Plain r0 rs r tr t es ds n (x, h) w held =
        let i : ℕ = tag_refs m.me.geometry.wide x + m.index in
        let at : m.refs + m.index ≡ i = ap (λ z. z + m.index) h.refs in
        let left : core r ≡ core (record rs { known = learnt (Body m.block i) n rs.known }) = w.0.found.left ∙ ap (λ z. core (record rs { known = learnt (Body m.block z) n rs.known })) at in
        record {
          x = x;
          low = h.low;
          tag = h.known;
          word = λ y has. w.0.found.found y
              (subst (λ z. Contains rs.known (record { spot = Body m.block z; value = y })) (sym at)
              (subst (λ (ks : List Stored). Contains ks (record { spot = Body m.block i; value = y })) (sym (ap (λ (z : Memo). z.known) h.same)) has));
          memo = left ∙ ap (λ (y : Memo). core (record y { known = learnt (Body m.block i) n y.known })) h.same;
          none = ap (λ (x : List Event). x ++ ds) h.none ∙ w.0.none;
          trail = one_more (read_ask m.block (m.refs + m.index) Plain) n n tr (pair (read_ask m.block 0 Shape) x ∷ []) t h.trail refl w.1 ∙ ap (λ z. pair (read_ask m.block 0 Shape) x ∷ pair (read_ask m.block z Plain) n ∷ []) at;
        }
