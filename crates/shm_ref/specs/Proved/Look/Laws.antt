-- what is owed of a reference word of a block
use Rattle.std.proofs.Common.{◌≡◌, ◌≢◌, ℕ, ◌+◌, ◌%◌, ◌<◌, ◌≤◌, refl, sym, ap, ◌∙◌, subst, arith, Bool, true, false, List, [], ◌∷◌, ◌++◌}
use Rattle.std.proofs.lemmas.Bool.{cond-false, eqb-false, eqb-true, ltb-false, ltb-true, ne_eqb}
use Rattle.std.specs.{Prelude.{if◌then◌else◌, nat_lt, ◌==◌, None, Some, Err}, List.Contains}
use Rattle.shm_words.specs.{declared.tag.Tag.Tag as ATag, Layout.{total_of, address_limit}}
use Rattle.shm_words.specs.Tags.{tag_author, tag_plain, tag_refs}
use Rattle.shm_graph.specs.declared.{spot.Spot.TheVariants.{Body, Hold, Tag}, memo.{Memo.Memo, Stored.Stored}}
use Rattle.shm_graph.specs.{Asks.Trail, Core.core, Events.Event, Laws.Outcome, Reach.{is_reached, learnt}}
use Rattle.shm_graph.specs.{MemoAfterRead.{reference_read, values_read}, Views.own_word}
use Rattle.kind_parts.specs.WordParts.{as_known}
use Rattle.kind_parts.proofs.{Cores.core_cond, Covering.reached_told}
use Rattle.kind_parts.proofs.Words.{Blocks.{idle_settled, reference_load, tag_load}, Own.hold_load}
use Rattle.plans.specs.{Parts.IsHeld, Plans.{PlanLaws, PlanStays, Follows}}
use Rattle.plans.specs.Words.{word_control, word_part, word_part_laws}
use Rattle.shm_count.specs.Tear.Control.{tag_read}
use Rattle.shm_ref.specs.declared.{answer.LookFault.TheVariants.{NoSuchRef, NotHeld}, look.LookPoint.LookPoint}
use Rattle.shm_ref.specs.declared.look.{LookPoint.TheVariants.{Shape, Whose, Reference}, LookState.LookState}
use Rattle.shm_ref.specs.Proved.AskedParts.{asked_part_laws, one_more}
use Rattle.shm_ref.specs.Proved.ReadParts.{is_tag, latch_by, looked_reached, reached_room, reached_tagged, small_block}
use Rattle.shm_ref.specs.Look.{IsLooking, LookFound, LookKnows, LookLeaves, Looked, MayLook, is_shape, look_ask, look_call, look_part, look_plan, tag_trail, whose_trail}
use Rattle.shm_ref.specs.ReadParts.{IsTag, tagged}

-- what a word step left, and what it asked
abbrev Leaves : LookState → LookPoint → Memo → Memo → Trail → List Event → ℕ → Type 0
Leaves m y = (look_part (record m { point = y }) y).leaves (look_call m y)

-- the looks with the block of a reference word that isn't 0
looked : (b k n : ℕ) (m r : Memo) → core r ≡ core (reference_read m b k n) → n ≢ 0 → r.looks ≡ m.looks ++ record { block = n; from = Body b k } ∷ []
looked b k n m r e some =
    ap (λ (x : Memo). x.looks) e
    ∙ ap (λ (x : Memo). x.looks) (cond-false (n == 0) (record m { known = learnt (Body b k) n m.known }) (record m { looks = m.looks ++ record { block = n; from = Body b k } ∷ []; known = learnt (Body b k) n m.known; values = values_read m b k n }) (ne_eqb n 0 some))

-- what a reference word leaves is told by the core
reference_core : (b k n : ℕ) (m : Memo) → core (reference_read m b k n) ≡ core (reference_read (core m) b k n)
reference_core b k n m = core_cond (n == 0) _ _ _ _ refl refl

pub look_laws : PlanLaws word_control look_plan
look_laws =
    record {
      stays = λ m n. stays m m.point n;
      calls = λ m. record { me = refl; asks = refl };
      parts = λ m. let part = word_part (is_shape m.point) m.me (look_ask m.me m.block m.index m.point) (LookFound m m.point) in
          asked_part_laws (is_shape m.point) word_control part (word_part_laws (is_shape m.point) m.me (look_ask m.me m.block m.index m.point) (LookFound m m.point));
      opens = λ m. opens m m.point;
      leads = λ m r0 rs r tr t es ds n h w held same. leads m m.point r0 rs r tr t es ds n h w held;
    }
  where
    opens : (m : LookState) (y : LookPoint) (r0 r : Memo) (tr : Trail) (es : List Event) → LookKnows (record m { point = y }) y r0 r tr es → (look_plan.part (record m { point = y })).needs (look_call m y) r
    opens m Shape r0 r tr es h =
        let room = h.0.read.room in
        tag_load true m.me r h.0.read.may.who m.block (omega arith, omega arith) (reached_told m.me.who r m.me.geometry.wide m.block (ap (λ (x : Memo). is_reached m.me.who x m.block) h.1 ∙ h.0.read.reach))
    opens m Whose r0 r tr es (x, h) = hold_load false m.me r h.may.read.may.who (λ e. ap (λ (y : Memo). y.op) h.same ∙ h.may.read.may.idle)
    opens m Reference r0 r tr es (x, h, held) =
        let low = h.low in
        let last = h.tag.last in
        reference_load false m.me r h.may.read.may.who m.block m.index (omega arith, omega arith) (
          reached_tagged m.me.who m.block x m.block r0 r h.same ∙ h.may.read.reach,
          (record { block = m.block; refs = tag_refs m.me.geometry.wide x; plain = tag_plain m.me.geometry.wide x; author = Some (tag_author m.me.geometry.wide x) }, tag_author m.me.geometry.wide x, h.tag.told, refl, h.low, refl, ap (λ (y : Memo). y.latch) h.same ∙ held),
        )
        (idle_settled r (Body m.block m.index) (ap (λ (y : Memo). y.op) h.same ∙ h.may.read.may.idle))

    stays : (m : LookState) (y : LookPoint) (n : ℕ) → PlanStays word_control look_plan (record m { point = y }) n
    stays m Shape n = record { same_me = refl; same_line = refl; same_start = refl; started = λ e. refl }
    stays m Whose n = record { same_me = refl; same_line = refl; same_start = refl; started = λ e. refl }
    stays m Reference n = record { same_me = refl; same_line = refl; same_start = refl; started = λ e. absurd (cc) }

    -- the tag told of the word, or of fewer; g is the tag as the control reads it
    told : (m : LookState) (r0 r : Memo) (tr : Trail) (es : List Event) (n : ℕ) (g : ATag) → g.refs ≡ tag_refs m.me.geometry.wide n → g.author ≡ tag_author m.me.geometry.wide n → MayLook m.me m.block r0 → as_known (Tag m.block) r0 n → IsTag m.me m.block n r → core r ≡ core (tagged m.block n r0) → es ≡ [] → tr ≡ tag_trail m.me m.block m.index n
        → (q : Bool) → (q ≡ true → m.index < g.refs) → (q ≡ false → g.refs ≤ m.index)
        → Outcome (if q then None else Some (Err (NoSuchRef g.refs))) ((x : ℕ) × IsLooking m.me m.block m.index g.author x (tag_trail m.me m.block m.index x) r0 r tr es) (LookLeaves (record m { author = 0; point = Shape }) r0 r tr es)
    told m r0 r tr es n g refs author may known tag cored none trail true low high =
        (n, record { may = may; author = author; low = subst (λ z. m.index < z) refs (low refl); known = known; tag = tag; same = cored; none = none; trail = trail })
    told m r0 r tr es n g refs author may known tag cored none trail false low high =
        record { x = n; refs = refs; high = high refl; tag = known; memo = cored; none = none; trail = trail }

    -- the hold word told the latch of the author, or another one
    named : (m : LookState) (r0 r : Memo) (tr : Trail) (es : List Event) (x n : ℕ) → IsLooking m.me m.block m.index m.author x (whose_trail m.me m.block m.index x n) r0 r tr es → n ≡ own_word r0.own (Hold m.me.who)
        → (q : Bool) → (q ≡ true → n ≡ m.author + 1) → (q ≡ false → n ≢ m.author + 1)
        → Outcome (if q then None else Some (Err NotHeld)) ((z : ℕ) × IsLooking m.me m.block m.index m.author z (whose_trail m.me m.block m.index z (tag_author m.me.geometry.wide z + 1)) r0 r tr es × (r0.latch ≡ Some (tag_author m.me.geometry.wide z))) (LookLeaves (record m { author = 0; point = Shape }) r0 r tr es)
    named m r0 r tr es x n h found true mine other =
        let same : n ≡ tag_author m.me.geometry.wide x + 1 = mine refl ∙ ap (λ z. z + 1) h.author in (
          x,
          record { may = h.may; author = h.author; low = h.low; known = h.known; tag = h.tag; same = h.same; none = h.none; trail = h.trail ∙ ap (whose_trail m.me m.block m.index x) same },
          latch_by r0.latch (tag_author m.me.geometry.wide x) (sym h.may.ask.hold ∙ (sym found ∙ same)),
        )
    named m r0 r tr es x n h found false mine other =
        record {
          x = x;
          low = h.low;
          other = λ e. other refl (found ∙ (e ∙ ap (λ z. z + 1) (sym h.author)));
          tag = h.known;
          memo = h.same;
          none = h.none;
          trail = h.trail ∙ ap (whose_trail m.me m.block m.index x) found;
        }

    leads : (m : LookState) (y : LookPoint) (r0 rs r : Memo) (tr t : Trail) (es ds : List Event) (n : ℕ) → LookKnows (record m { point = y }) y r0 rs tr es → Leaves m y rs r t ds n → IsHeld m.me r → Follows word_control look_plan (record m { point = y }) n r0 r (tr ++ t) (es ++ ds)
    leads m Shape r0 rs r tr t es ds n h w held =
        let cored : core r ≡ core (tagged m.block n r0) = w.0.found.left ∙ ap (λ (x : Memo). core (tagged m.block n x)) h.1 in
        let tag = is_tag m.me m.block n r0 r h.0.read.may.who held h.0.read.reach cored in
        told m r0 r (tr ++ t) (es ++ ds) n (tag_read m.me.geometry.wide n) (ap (λ (g : ATag). g.refs) tag.read) (ap (λ (g : ATag). g.author) tag.read) h.0 (subst (λ (x : Memo). as_known (Tag m.block) x n) h.1 w.0.found.found) tag cored
        (ap (λ (x : List Event). x ++ ds) h.3 ∙ w.0.none)
        (one_more (look_ask m.me m.block m.index Shape) n n tr [] t h.2 refl w.1)
        (nat_lt m.index (tag_read m.me.geometry.wide n).refs) (ltb-true m.index (tag_read m.me.geometry.wide n).refs) (ltb-false m.index (tag_read m.me.geometry.wide n).refs)
    leads m Whose r0 rs r tr t es ds n (x, h) w held =
        let cored : core r ≡ core (tagged m.block x r0) = w.0.found.left ∙ h.same in
        let next : IsLooking m.me m.block m.index m.author x (whose_trail m.me m.block m.index x n) r0 r (tr ++ t) (es ++ ds) =
        record {
          may = h.may;
          author = h.author;
          low = h.low;
          known = h.known;
          tag = is_tag m.me m.block x r0 r h.may.read.may.who held h.may.read.reach cored;
          same = cored;
          none = ap (λ (y : List Event). y ++ ds) h.none ∙ w.0.none;
          trail = one_more (look_ask m.me m.block m.index Whose) n n tr (tag_trail m.me m.block m.index x) t h.trail refl w.1;
        } in
        named m r0 r (tr ++ t) (es ++ ds) x n next (w.0.found.found ∙ ap (λ (y : Memo). own_word y.own (Hold m.me.who)) h.same)
        (n == m.author + 1) (eqb-true n (m.author + 1)) (eqb-false n (m.author + 1))
    leads m Reference r0 rs r tr t es ds n (x, h, latch) w held =
        let b : ℕ = m.block in
        let k : ℕ = m.index in
        let m0 : Memo = tagged b x r0 in
        let left : core r ≡ core (reference_read m0 b k n) = w.0.found.left ∙ (reference_core b k n rs ∙ (ap (λ (y : Memo). core (reference_read y b k n)) h.same ∙ sym (reference_core b k n m0))) in
        let reach : n ≢ 0 → is_reached m.me.who r n ≡ true = λ some. looked_reached m.me.who (Body b k) n m0 r (looked b k n m0 r left some) in
        let room : n ≢ 0 → n + 2 ≤ total_of m.me.geometry = λ some. reached_room m.me n r h.may.read.may.who held (reach some) in
        let small : n % address_limit ≡ n = small_block m.me n h.may.read.may.geometry room in
        subst (λ v. Looked m.me b k r0 r (tr ++ t) (es ++ ds) v) (sym small)
        (record {
          x = x;
          low = h.low;
          held = latch;
          tag = h.known;
          word = λ y has. w.0.found.found y (subst (λ (ks : List Stored). Contains ks (record { spot = Body b k; value = y })) (sym (ap (λ (z : Memo). z.known) h.same)) has);
          memo = left;
          reach = reach;
          room = room;
          none = ap (λ (y : List Event). y ++ ds) h.none ∙ w.0.none;
          trail = one_more (look_ask m.me b k Reference) n n tr (whose_trail m.me b k x (tag_author m.me.geometry.wide x + 1)) t h.trail refl w.1;
        })
