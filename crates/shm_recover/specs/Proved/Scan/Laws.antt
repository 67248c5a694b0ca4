-- what is owed of a scan: each call leads on, to the next one or to what is left
use Rattle.std.proofs.Common.{◌≡◌, ◌≢◌, ℕ, zero, suc, ◌+◌, ◌*◌, ◌-◌, ◌/◌, ◌%◌, ◌^◌, ◌<◌, ◌≤◌, ◌⊎◌, refl, sym, ap, ◌∙◌, subst, arith, Bool, true, false, not, ◌&&◌, List, [], ◌∷◌, ◌++◌, append-nil, length, inl, inr}
use Rattle.std.proofs.Math.Nat.{mod-eq_of_lt}
use Rattle.std.proofs.lemmas.Bool.{and_from, and_parts, cases_eq, cases_lt, eq-eqb, eqb-false, eqb-true, ltb-false, ltb-true, ne_eqb, true≢false}
use Rattle.std.proofs.lemmas.List.Elements.{Contains-append_right}
use Rattle.std.specs.{Prelude.{◌==◌, nat_lt, if◌then◌else◌, Option, Some, None, Result, Ok, Err}, List.Contains}
use Rattle.shm_words.proofs.Placing.{total_small}
use Rattle.shm_words.specs.{Classes.IsClass, Headers.header_of, Layout.bodies}
use Rattle.shm_ref.specs.{Proved.{Costs.tear_sum, Leaving.frees-append}, Lefts.MayDrop}
use Rattle.shm_graph.specs.{Bounds.tear_steps, declared.{ask.Me.Me, memo.{Fact.TheVariants.Class, Memo.Memo}}}
use Rattle.shm_graph.specs.{declared.spot.Spot.TheVariants.Era, Asks.Trail, Core.core, Events.Event, Held.IsDying}
use Rattle.shm_graph.specs.{Laws.Outcome, MemoAfterStore.not_block, Views.own_word}
use Rattle.kind_laws.proofs.Lists.{Contains-filter, filter_from}
use Rattle.kind_parts.proofs.Cores.{here_same}
use Rattle.plans.specs.{declared.or.Or.TheVariants.{First, Second}, Proved.{CallTells.within_more, Either.or_part_laws}}
use Rattle.plans.specs.{Proved.Grown.grown_laws, Either.or_part, Grown.Grows, Parts.IsHeld}
use Rattle.plans.specs.Plans.{PlanLaws, PlanStays, IsCall, Follows}
use Rattle.plans.specs.Words.{word_control, word_part, word_part_laws, WordLeaves}
use Rattle.shm_count.specs.{declared.answer.EraSpent.EraSpent, CountParts.tear_part, Proved.CountParts.tear_part_laws}
use Rattle.shm_count.specs.{Proved.Lowering.stays_rest, Roots.rest, Tear.{Control.tear_control, Events.{Visit, frees}}}
use Rattle.shm_count.specs.Tear.{Memos.TearStays, Torn, TornPartly, is_outside}
use Rattle.shm_recover.specs.declared.scan.ScanPoint.{ScanPoint, TheVariants.{Page, Header, Tear}}
use Rattle.shm_recover.specs.declared.scan.ScanState.{ScanState}
use Rattle.shm_recover.specs.Scan.Control.{ScanAnswer, block_at, is_first, is_lost, place_in, scan_ask, scan_call_at, scan_parts, words_before, scan_steered}
use Rattle.shm_recover.specs.Scan.Words.{LostSeen, PageSeen, by_class, dying_inside, lost_see, next_block, page_see}
use Rattle.shm_recover.specs.Scan.{IsIn, IsScanning, LostByScan, ScanDone, ScanEvents, ScanFound, ScanKnows, ScanLeaves, ScanStopped, Scanned, scan_part, scan_plan}

-- ---- where a scan has to go

-- to the next page, or none is left
abbrev page_next : ScanState → ScanState
page_next m = if nat_lt m.page 15 then record m { page = m.page + 1; point = Page } else if m.segment + 1 == m.me.geometry.segments then record m { point = Page } else record m { segment = m.segment + 1; page = 0; point = Page }

abbrev page_done : ScanState → Option (Result ℕ EraSpent)
page_done m = if nat_lt m.page 15 then None else if m.segment + 1 == m.me.geometry.segments then Some (Ok m.found) else None

-- to the next block of the page, or to the next page
abbrev block_next : ScanState → ScanState
block_next m = if nat_lt (m.offset + m.class) 128 then record m { offset = m.offset + m.class; point = Header } else page_next m

abbrev block_done : ScanState → Option (Result ℕ EraSpent)
block_done m = if nat_lt (m.offset + m.class) 128 then None else page_done m

-- ---- the control

never : (z : Bool) → (z && false) ≡ false
never true = refl
never false = refl

-- a state that isn't at a page has begun, and so has one at a later page
begun : (s q : ℕ) → ((s == 0) && ((q == 0) && false)) ≡ false
begun s q = ap (λ (z : Bool). (s == 0) && z) (never (q == 0)) ∙ never (s == 0)

later_page : (s q : ℕ) → ((s == 0) && ((q + 1 == 0) && true)) ≡ false
later_page s q = ap (λ (z : Bool). (s == 0) && (z && true)) (ne_eqb (q + 1) 0 (λ e. absurd (omega arith))) ∙ never (s == 0)

later_segment : (s : ℕ) → ((s + 1 == 0) && true) ≡ false
later_segment s = ap (λ (z : Bool). z && true) (ne_eqb (s + 1) 0 (λ e. absurd (omega arith)))

-- what is owed of a state that comes next
abbrev Stays : ScanState → ScanState → Option (Result ℕ EraSpent) → Type 0
Stays m y o = (scan_steered.me y ≡ m.me) × (scan_steered.start y ≡ scan_steered.start m) × (o ≡ None → is_first y ≡ false)

page_stays : (m : ScanState) → Stays m (page_next m) (page_done m)
page_stays m = go (nat_lt m.page 15) (m.segment + 1 == m.me.geometry.segments)
  where
    go : (q z : Bool) → Stays m (if q then record m { page = m.page + 1; point = Page } else if z then record m { point = Page } else record m { segment = m.segment + 1; page = 0; point = Page }) (if q then None else if z then Some (Ok m.found) else None)
    go true z = (refl, refl, λ e. later_page m.segment m.page)
    go false true = (refl, refl, λ e. absurd (cc))
    go false false = (refl, refl, λ e. later_segment m.segment)

block_stays : (m : ScanState) → Stays m (block_next m) (block_done m)
block_stays m = go (nat_lt (m.offset + m.class) 128)
  where
    go : (q : Bool) → Stays m (if q then record m { offset = m.offset + m.class; point = Header } else page_next m) (if q then None else page_done m)
    go true = (refl, refl, λ e. begun m.segment m.page)
    go false = page_stays m

class_stays : (m : ScanState) (n : ℕ) (q : Bool) → Stays m (if q then page_next m else record m { class = n % 64; offset = 0; point = Header }) (if q then page_done m else None)
class_stays m n true = page_stays m
class_stays m n false = (refl, refl, λ e. begun m.segment m.page)

lost_stays : (m : ScanState) (q : Bool) → Stays m (if q then record m { found = (m.found + 1) % 2 ^ 32; point = Tear } else block_next m) (if q then None else block_done m)
lost_stays m true = (refl, refl, λ e. begun m.segment m.page)
lost_stays m false = block_stays m

calls : (m : ScanState) (y : ScanPoint) → IsCall scan_parts scan_plan (record m { point = y })
calls m Page = record { me = refl; asks = refl }
calls m Header = record { me = refl; asks = refl }
calls m Tear = record { me = refl; asks = refl }

opens : (m : ScanState) (y : ScanPoint) (r0 r : Memo) (tr : Trail) (es : List Event) → ScanKnows m y r0 r tr es → (scan_part m y).needs (scan_call_at m y) r
opens m Page r0 r tr es h = page_see m.me h.may.who (is_first (record m { point = Page })) r m.segment m.page h.segment h.page
opens m Header r0 r tr es (h, at) = lost_see m.me h.may.who (is_first (record m { point = Header })) r m.segment m.page h.segment h.page m.class m.offset at.offset at.aligned at.read h.scanned.op
opens m Tear r0 r tr es (h, at, can) = record { made = refl; can = can }

-- ---- lists

-- an element of a longer list is the first one, or one of the rest
one_of : (b : ℕ) (bs : List ℕ) (x : ℕ) → Contains (b ∷ bs) x → (x ≡ b) ⊎ Contains bs x
one_of b bs x (zero, l, e) = inl (sym e)
one_of b bs x (suc n, l, e) = inr (n, omega arith, e)

-- nothing that doesn't come before the end of the pool is a block of it
none_left : (me : Me) (r : Memo) (xs : List ℕ) → ((b : ℕ) → Contains xs b → ⊥) → xs ≡ []
none_left me r [] h = refl
none_left me r (x ∷ xs) h = absurd (h x (0, omega arith, refl))

-- ---- memos

scanned_core : (c : ℕ) (m q r : Memo) → core r ≡ core q → Scanned c m q → Scanned c m r
scanned_core c m q r e h =
    record {
      rest = ap rest e ∙ h.rest;
      op = ap (λ (x : Memo). x.op) e ∙ h.op;
      own = λ p l. ap (λ (x : Memo). own_word x.own p) e ∙ h.own p l;
      rows = λ j. subst (λ y. own_word m.own (Era c j) ≤ y) (sym (ap (λ (x : Memo). own_word x.own (Era c j)) e)) (h.rows j);
    }

scanned_torn : (c : ℕ) (m q r : Memo) → TearStays c q r → Scanned c m q → Scanned c m r
scanned_torn c m q r s h =
    record {
      rest = stays_rest c q r s ∙ h.rest;
      op = ap (λ (x : Memo). x.op) s.rest ∙ h.op;
      own = λ p l. s.own p l ∙ h.own p l;
      rows = λ j. let a = h.rows j in let b = s.rows j in omega arith;
    }

lost_same : (bs : List ℕ) (m q r : Memo) → r.dying ≡ q.dying → LostByScan bs m q → LostByScan bs m r
lost_same bs m q r e h =
    record {
      found = h.found;
      apart = h.apart;
      left = λ b has. h.left b (subst (λ (xs : List ℕ). Contains xs b) e has);
      others = λ b has. elim (h.others b has) [ inl y ↦ inl y | inr y ↦ inr (subst (λ (xs : List ℕ). Contains xs b) (sym e) y) ];
    }

-- ---- where they lead

-- one word step more that leaves the memo, on to a later word of the page
one_more : (me : Me) (s q i j n k : ℕ) (r0 rs r : Memo) (tr t : Trail) (es ds : List Event) → IsScanning me s q i n k r0 rs tr es → i ≤ j → core r ≡ core rs → ds ≡ [] → length t ≡ 1 → ((b : ℕ) → Contains r.dying b → words_before s q j ≤ b - bodies me.geometry) → IsScanning me s q j n (k + 1) r0 r (tr ++ t) (es ++ ds)
one_more me s q i j n k r0 rs r tr t es ds h le same quiet one ahead =
    let b = within_more (33 * (16 * s + q) + k + tear_steps me.geometry.wide (frees es)) 1 tr t h.bound (omega arith) in
    let still : es ++ ds ≡ es = ap (λ (x : List Event). es ++ x) quiet ∙ append-nil es in
    let f = ap (λ (x : List Event). tear_steps me.geometry.wide (frees x)) still in
    let few = h.few in
    record {
      may = h.may;
      segment = h.segment;
      page = h.page;
      scanned = scanned_core me.who r0 rs r same h.scanned;
      blocks = h.blocks;
      count = h.count;
      few = omega arith;
      lost = lost_same h.blocks r0 rs r (ap (λ (x : Memo). x.dying) same) h.lost;
      behind = λ b has. let y = h.behind b has in omega arith;
      ahead = ahead;
      events = subst (ScanEvents me.who h.blocks) (sym still) h.events;
      bound = omega arith;
    }

-- the same with more word steps, or at the same place
as_many : (me : Me) (s q i j n k z : ℕ) (r0 r : Memo) (tr : Trail) (es : List Event) → i ≡ j → k ≤ z → IsScanning me s q i n k r0 r tr es → IsScanning me s q j n z r0 r tr es
as_many me s q i j n k z r0 r tr es e le h =
    subst (λ y. IsScanning me s q y n z r0 r tr es) e
    (record {
      may = h.may;
      segment = h.segment;
      page = h.page;
      scanned = h.scanned;
      blocks = h.blocks;
      count = h.count;
      few = h.few;
      lost = h.lost;
      behind = h.behind;
      ahead = h.ahead;
      events = h.events;
      bound = (let b = h.bound in omega arith);
    })

-- a page is done
module _ (m : ScanState) (r0 r : Memo) (tr : Trail) (es : List Event) (held : IsHeld m.me r) where
  abbrev Next : Option (Result ℕ EraSpent) → ScanState → Type 0
  Next o x = Outcome o (ScanKnows x x.point r0 r tr es) (ScanLeaves (scan_steered.start m) r0 r tr es)

  abbrev Done : ℕ → Type 0
  Done n = IsScanning m.me m.segment m.page 128 n 33 r0 r tr es

  next_page : m.page < 15 → Done m.found → IsScanning m.me m.segment (m.page + 1) 0 m.found 0 r0 r tr es
  next_page low h =
      record {
        may = h.may;
        segment = h.segment;
        page = omega arith;
        scanned = h.scanned;
        blocks = h.blocks;
        count = h.count;
        few = (let y = h.few in omega arith);
        lost = h.lost;
        behind = λ b has. let y = h.behind b has in omega arith;
        ahead = λ b has. let y = h.ahead b has in omega arith;
        events = h.events;
        bound = (let b = h.bound in omega arith);
      }

  next_segment : 15 ≤ m.page → m.segment + 1 ≢ m.me.geometry.segments → Done m.found → IsScanning m.me (m.segment + 1) 0 0 m.found 0 r0 r tr es
  next_segment high more h =
      let low = h.page in
      let some = h.segment in
      record {
        may = h.may;
        segment = omega arith;
        page = omega arith;
        scanned = h.scanned;
        blocks = h.blocks;
        count = h.count;
        few = (let y = h.few in omega arith);
        lost = h.lost;
        behind = λ b has. let y = h.behind b has in omega arith;
        ahead = λ b has. let y = h.ahead b has in omega arith;
        events = h.events;
        bound = (let b = h.bound in omega arith);
      }

  all_done : 15 ≤ m.page → m.segment + 1 ≡ m.me.geometry.segments → Done m.found → ScanDone m.me m.found r0 r tr es
  all_done high last h =
      let low = h.page in
      let none : r.dying ≡ [] = none_left m.me r r.dying (λ b has. let y = h.ahead b has in let z = (dying_inside m.me h.may.who r b held has).0.1 in absurd (omega arith)) in
      record {
        scanned = h.scanned;
        blocks = h.blocks;
        count = h.count;
        apart = h.lost.apart;
        found = h.lost.found;
        whole = λ b has. elim (h.lost.others b has) [ inl y ↦ y | inr y ↦ (let z : Contains [] b = subst (λ (xs : List ℕ). Contains xs b) none y in let l = z.1 in absurd (omega arith)) ];
        none = none;
        events = h.events;
        bound = (let b = h.bound in omega arith);
      }

  page_went : Done m.found → Next (page_done m) (page_next m)
  page_went h = go (nat_lt m.page 15) (ltb-true m.page 15) (ltb-false m.page 15)
    where
      by_segment : 15 ≤ m.page → (z : Bool) → (z ≡ true → m.segment + 1 ≡ m.me.geometry.segments) → (z ≡ false → m.segment + 1 ≢ m.me.geometry.segments)
          → Next (if z then Some (Ok m.found) else None) (if z then record m { point = Page } else record m { segment = m.segment + 1; page = 0; point = Page })
      by_segment high true last more = all_done high (last refl) h
      by_segment high false last more = next_segment high (more refl) h

      go : (q : Bool) → (q ≡ true → m.page < 15) → (q ≡ false → 15 ≤ m.page)
          → Next (if q then None else if m.segment + 1 == m.me.geometry.segments then Some (Ok m.found) else None) (if q then record m { page = m.page + 1; point = Page } else if m.segment + 1 == m.me.geometry.segments then record m { point = Page } else record m { segment = m.segment + 1; page = 0; point = Page })
      go true low high = next_page (low refl) h
      go false low high = by_segment (high refl) (m.segment + 1 == m.me.geometry.segments) (eqb-true (m.segment + 1) m.me.geometry.segments) (eqb-false (m.segment + 1) m.me.geometry.segments)

  -- a block is done
  block_went : IsScanning m.me m.segment m.page (m.offset + m.class) m.found (2 + m.offset / 4) r0 r tr es → IsIn m.segment m.page m.class m.offset r → Next (block_done m) (block_next m)
  block_went h at = go (nat_lt (m.offset + m.class) 128) (ltb-true (m.offset + m.class) 128) (ltb-false (m.offset + m.class) 128)
    where
      four : 4 ≤ m.class
      four = by_class m.class at.class (λ z. 4 ≤ z) (omega arith) (omega arith) (omega arith) (omega arith)

      -- a page has room for a whole number of blocks
      ends : 128 ≤ m.offset + m.class → m.offset + m.class ≡ 128
      ends high = let low = at.offset in by_class m.class at.class (λ z. m.offset % z ≡ 0 → 128 ≤ m.offset + z → m.offset + z ≡ 128) (λ a h. omega arith) (λ a h. omega arith) (λ a h. omega arith) (λ a h. omega arith) at.aligned high

      again : (m.offset + m.class) % m.class ≡ 0
      again = by_class m.class at.class (λ z. m.offset % z ≡ 0 → (m.offset + z) % z ≡ 0) (λ a. omega arith) (λ a. omega arith) (λ a. omega arith) (λ a. omega arith) at.aligned

      go : (q : Bool) → (q ≡ true → m.offset + m.class < 128) → (q ≡ false → 128 ≤ m.offset + m.class) → Next (if q then None else page_done m) (if q then record m { offset = m.offset + m.class; point = Header } else page_next m)
      go true low high = (
        as_many m.me m.segment m.page (m.offset + m.class) (m.offset + m.class) m.found (2 + m.offset / 4) (1 + (m.offset + m.class) / 4) r0 r tr es refl (let f = four in omega arith) h,
        record { offset = low refl; class = at.class; aligned = again; read = at.read },
      )
      go false low high = page_went (as_many m.me m.segment m.page (m.offset + m.class) 128 m.found (2 + m.offset / 4) 33 r0 r tr es (ends (high refl)) (let l = at.offset in omega arith) h)

module _ (m : ScanState) (r0 rs r : Memo) (tr t : Trail) (es ds : List Event) (held : IsHeld m.me r) where
  abbrev c : ℕ
  c = m.me.who

  abbrev On : Option (Result ℕ EraSpent) → ScanState → Type 0
  On o x = Outcome o (ScanKnows x x.point r0 r (tr ++ t) (es ++ ds)) (ScanLeaves (scan_steered.start m) r0 r (tr ++ t) (es ++ ds))

  -- the page's class was read
  page_read : (n : ℕ) → ScanKnows m Page r0 rs tr es → WordLeaves (PageSeen m.me m.segment m.page) (record { me = m.me; ask = scan_ask m Page; over = false }) rs r t ds n → On (if n == 0 then page_done m else None) (if n == 0 then page_next m else record m { class = n % 64; offset = 0; point = Header })
  page_read n h w = go (n == 0) (eqb-true n 0) (eqb-false n 0)
    where
      same : core r ≡ core rs
      same = w.found.0.left

      before : (b : ℕ) → Contains r.dying b → Contains rs.dying b
      before b = subst (λ (xs : List ℕ). Contains xs b) (ap (λ (x : Memo). x.dying) same)

      small : IsClass n → n % 64 ≡ n
      small is = by_class n is (λ z. z % 64 ≡ z) (omega arith) (omega arith) (omega arith) (omega arith)

      go : (q : Bool) → (q ≡ true → n ≡ 0) → (q ≡ false → n ≢ 0) → On (if q then page_done m else None) (if q then page_next m else record m { class = n % 64; offset = 0; point = Header })
      go true none some =
          page_went m r0 r (tr ++ t) (es ++ ds) held
          (as_many m.me m.segment m.page 128 128 m.found 1 33 r0 r (tr ++ t) (es ++ ds) refl (omega arith)
          (one_more m.me m.segment m.page 0 128 m.found 0 r0 rs r tr t es ds h (omega arith) same w.none w.one
          (λ b has. let low = h.ahead b (before b has) in elim (cases_lt b (place_in m.me m.segment (m.page + 1) 0)) [ inl l ↦ absurd (w.found.1.0 (none refl) b (before b has) low l) | inr far ↦ omega arith ])))
      go false none some =
          let is : IsClass (n % 64) = subst IsClass (sym (small (w.found.1.1 (some refl)))) (w.found.1.1 (some refl)) in (
            one_more m.me m.segment m.page 0 0 m.found 0 r0 rs r tr t es ds h (omega arith) same w.none w.one (λ b has. h.ahead b (before b has)),
            record {
              offset = omega arith;
              class = is;
              aligned = by_class (n % 64) is (λ z. 0 % z ≡ 0) (omega arith) (omega arith) (omega arith) (omega arith);
              read = subst (λ k. Contains r.facts (Class m.segment m.page k)) (sym (small (w.found.1.1 (some refl)))) (w.found.0.read.0 (some refl));
            },
          )

  -- the header was
  header_read : (n : ℕ) (lost : Bool) → (lost ≡ true → IsDying (header_of n) c) → (lost ≡ false → IsDying (header_of n) c → ⊥) → ScanKnows m Header r0 rs tr es → WordLeaves (LostSeen m.me (block_at m)) (record { me = m.me; ask = scan_ask m Header; over = false }) rs r t ds n → Grows false rs r
      → On (if lost then None else block_done m) (if lost then record m { found = (m.found + 1) % 2 ^ 32; point = Tear } else block_next m)
  header_read n lost dies lives (h, at) w grows = go lost dies lives
    where
      same : core r ≡ core rs
      same = w.found.0.left

      before : (b : ℕ) → Contains r.dying b → Contains rs.dying b
      before b = subst (λ (xs : List ℕ). Contains xs b) (ap (λ (x : Memo). x.dying) same)

      inside : IsIn m.segment m.page m.class m.offset r
      inside = record { offset = at.offset; class = at.class; aligned = at.aligned; read = grows.facts refl (Class m.segment m.page m.class) at.read }

      go : (q : Bool) → (q ≡ true → IsDying (header_of n) c) → (q ≡ false → IsDying (header_of n) c → ⊥) → On (if q then None else block_done m) (if q then record m { found = (m.found + 1) % 2 ^ 32; point = Tear } else block_next m)
      go true is live =
          let here : Contains r.dying (block_at m) = subst (λ (xs : List ℕ). Contains xs (block_at m)) (sym (ap (λ (x : Memo). x.dying) same)) (w.found.1.0 (is refl)) in
          let room = dying_inside m.me h.may.who r (block_at m) held here in
          let total = total_small m.me.geometry h.may.geometry in
          let few : m.found + 1 < 2 ^ 32 = (let a = h.few in let b = h.count in let d = room.1 in omega arith) in
          let x = one_more m.me m.segment m.page m.offset m.offset m.found (1 + m.offset / 4) r0 rs r tr t es ds h (omega arith) same w.none w.one (λ b has. h.ahead b (before b has)) in (
            (m.found, mod-eq_of_lt few, as_many m.me m.segment m.page m.offset m.offset m.found (1 + m.offset / 4 + 1) (2 + m.offset / 4) r0 r (tr ++ t) (es ++ ds) refl (omega arith) x),
            inside,
            record { geometry = h.may.geometry; who = h.may.who; here = here_same r0 r (ap (λ (y : Memo). y.status) x.scanned.rest) h.may.here; idle = x.scanned.op; inside = room.0; room = room.1; dying = here },
          )
      go false is live =
          block_went m r0 r (tr ++ t) (es ++ ds) held
          (as_many m.me m.segment m.page (m.offset + m.class) (m.offset + m.class) m.found (1 + m.offset / 4 + 1) (2 + m.offset / 4) r0 r (tr ++ t) (es ++ ds) refl (omega arith)
          (one_more m.me m.segment m.page m.offset (m.offset + m.class) m.found (1 + m.offset / 4) r0 rs r tr t es ds h (omega arith) same w.none w.one
          (λ b has. elim (next_block m.me h.may.who m.segment m.page m.class m.offset h.page at.class at.offset at.aligned r b held inside.read has (h.ahead b (before b has))) [
            | inl same ↦ absurd (live refl (w.found.1.1 (subst (Contains rs.dying) same (before b has))))
            | inr far ↦ omega arith
          ])))
          inside

  -- the block was torn down, or not to the end
  torn : ScanKnows m Tear r0 rs tr es → Torn m.me (block_at m) rs r ds t → Grows false rs r → On (block_done m) (block_next m)
  torn ((n, e, h), at, can) y grows =
      let b : ℕ = block_at m in
      let four : 4 ≤ m.class = by_class m.class at.class (λ z. 4 ≤ z) (omega arith) (omega arith) (omega arith) (omega arith) in
      let f = tear_sum m.me.geometry.wide (frees (es ++ ds)) (frees es) (frees ds) (frees-append es ds) in
      let bound = within_more (33 * (16 * m.segment + m.page) + (2 + m.offset / 4) + tear_steps m.me.geometry.wide (frees es)) (tear_steps m.me.geometry.wide (frees ds)) tr t h.bound y.bound in
      let read : Contains r.facts (Class m.segment m.page m.class) = grows.facts refl (Class m.segment m.page m.class) at.read in
      let was : (d : ℕ) → Contains r.dying d → Contains rs.dying d × (not_block b d ≡ true) = λ d has. filter_from (not_block b) rs.dying d (subst (λ (xs : List ℕ). Contains xs d) y.others has) in
      block_went m r0 r (tr ++ t) (es ++ ds) held
      (record {
        may = h.may;
        segment = h.segment;
        page = h.page;
        scanned = scanned_torn c r0 rs r y.stays h.scanned;
        blocks = b ∷ h.blocks;
        count = (let d = h.count in omega arith);
        few = (let d = h.few in omega arith);
        lost = record {
          found = λ d has. elim (one_of b h.blocks d has) [ inl is ↦ subst (Contains r0.dying) (sym is) (h.lost.left b can.dying) | inr rest ↦ h.lost.found d rest ];
          apart = ((λ has. let d = h.behind b has in absurd (omega arith)), h.lost.apart);
          left = λ d has. h.lost.left d (was d has).0;
          others = λ d has. elim (h.lost.others d has) [
            | inl x ↦ inl (Contains-append_right (b ∷ []) h.blocks d x)
            | inr x ↦ elim (cases_eq b d) [
              | inl is ↦ inl (0, omega arith, is)
              | inr o ↦ inr (subst (λ (xs : List ℕ). Contains xs d) (sym y.others) (Contains-filter (not_block b) rs.dying d x (ap not (ne_eqb b d o))))
            ]
          ];
        };
        behind = λ d has. elim (one_of b h.blocks d has) [ inl is ↦ omega arith | inr rest ↦ (let x = h.behind d rest in omega arith) ];
        ahead = λ d has. elim (next_block m.me h.may.who m.segment m.page m.class m.offset h.page at.class at.offset at.aligned r d held read has (h.ahead d (was d has).0)) [
          | inl is ↦ absurd (true≢false (sym (was d has).1 ∙ ap not (eq-eqb b d (sym is))))
          | inr far ↦ omega arith
        ];
        events = (es, ds, refl, h.events, y.walks);
        bound = omega arith;
      })
      (record { offset = at.offset; class = at.class; aligned = at.aligned; read = read })

  torn_partly : (era : ℕ) (vs : List Visit) → ScanKnows m Tear r0 rs tr es → TornPartly m.me (block_at m) rs r ds t era vs → ScanStopped m.me r0 r (tr ++ t) (es ++ ds) era
  torn_partly era vs ((n, k, h), at, can) y =
      let b : ℕ = block_at m in
      let f = tear_sum m.me.geometry.wide (frees (es ++ ds) + length vs) (frees es) (frees ds + length vs) (let y = frees-append es ds in omega arith) in
      let bound = within_more (33 * (16 * m.segment + m.page) + (2 + m.offset / 4) + tear_steps m.me.geometry.wide (frees es)) (tear_steps m.me.geometry.wide (frees ds + length vs)) tr t h.bound y.bound in
      let ls = h.segment in
      let lq = h.page in
      let li = at.offset in
      record {
        scanned = scanned_torn c r0 rs r y.stays h.scanned;
        blocks = b ∷ h.blocks;
        vs = vs;
        found = λ d has. elim (one_of b h.blocks d has) [ inl is ↦ subst (Contains r0.dying) (sym is) (h.lost.left b can.dying) | inr rest ↦ h.lost.found d rest ];
        apart = ((λ has. let d = h.behind b has in absurd (omega arith)), h.lost.apart);
        others = λ d has. elim (h.lost.others d has) [
          | inl x ↦ inl (Contains-append_right (b ∷ []) h.blocks d x)
          | inr x ↦ elim (cases_eq b d) [
            | inl is ↦ inl (0, omega arith, is)
            | inr o ↦ inr (filter_from (is_outside vs) r.dying d (subst (λ (xs : List ℕ). Contains xs d) (sym y.others) (Contains-filter (not_block b) rs.dying d x (ap not (ne_eqb b d o))))).0
          ]
        ];
        stopped = y.left;
        spent = y.last;
        most = let u = y.spent in omega arith;
        bound = omega arith;
      }

-- what is known before the first call
pub scan_begin : (me : Me) (r : Memo) → MayDrop me r → IsScanning me 0 0 0 0 0 r r [] []
scan_begin me r may =
    record {
      may = may;
      segment = (let y = may.geometry.segments in omega arith);
      page = omega arith;
      scanned = record { rest = refl; op = may.idle; own = λ p l. refl; rows = λ j. omega arith };
      blocks = [];
      count = refl;
      few = omega arith;
      lost = record { found = λ b has. let l = has.1 in absurd (omega arith); apart = tt; left = λ b has. has; others = λ b has. inr has };
      behind = λ b has. let l = has.1 in absurd (omega arith);
      ahead = λ b has. omega arith;
      events = refl;
      bound = omega arith;
    }

pub scan_laws : PlanLaws scan_parts scan_plan
scan_laws =
    record {
      stays = stays;
      calls = λ m. calls m m.point;
      parts = λ m. let first = is_first m in
          grown_laws first scan_parts (or_part (word_part first m.me (scan_ask m m.point) (ScanFound m m.point)) tear_part)
          (or_part_laws first word_control tear_control (word_part first m.me (scan_ask m m.point) (ScanFound m m.point)) tear_part (word_part_laws first m.me (scan_ask m m.point) (ScanFound m m.point)) (tear_part_laws first));
      opens = λ m. opens m m.point;
      leads = λ m r0 rs r tr t es ds a h g held agent. leads m m.point r0 rs r tr t es ds a h g held;
    }
  where
    stays_word : (m : ScanState) (y : ScanPoint) (n : ℕ) → PlanStays scan_parts scan_plan (record m { point = y }) (First n)
    stays_word m Page n = let t = class_stays (record m { point = Page }) n (n == 0) in record { same_me = t.0; same_line = refl; same_start = t.1; started = t.2 }
    stays_word m Header n = let t = lost_stays (record m { point = Header }) (is_lost m.me.who n) in record { same_me = t.0; same_line = refl; same_start = t.1; started = t.2 }
    stays_word m Tear n = let t = lost_stays (record m { point = Tear }) (is_lost m.me.who n) in record { same_me = t.0; same_line = refl; same_start = t.1; started = t.2 }

    stays : (m : ScanState) (b : ScanAnswer) → PlanStays scan_parts scan_plan m b
    stays m (First n) = stays_word m m.point n
    stays m (Second (Ok u)) = let t = block_stays m in record { same_me = t.0; same_line = refl; same_start = t.1; started = t.2 }
    stays m (Second (Err e)) = record { same_me = refl; same_line = refl; same_start = refl; started = λ e. absurd (cc) }

    -- a header that is taken for one of a zero-count block is one
    lost_is : (c n : ℕ) → is_lost c n ≡ true → IsDying (header_of n) c
    lost_is c n e = let t = and_parts _ _ e in let u = and_parts _ _ t.0 in (u.0, eqb-true _ _ u.1, eqb-true _ _ t.1)

    lost_not : (c n : ℕ) → is_lost c n ≡ false → IsDying (header_of n) c → ⊥
    lost_not c n e d = true≢false (sym (and_from _ _ (and_from _ _ d.0 (eq-eqb _ _ d.1)) (eq-eqb _ _ d.2)) ∙ e)

    -- each call leads on
    leads : (m : ScanState) (y : ScanPoint) (r0 rs r : Memo) (tr t : Trail) (es ds : List Event) (a : ScanAnswer) → ScanKnows m y r0 rs tr es → (scan_part m y).leaves (scan_call_at m y) rs r t ds a → IsHeld m.me r
        → Follows scan_parts scan_plan (record m { point = y }) a r0 r (tr ++ t) (es ++ ds)
    leads m Page r0 rs r tr t es ds (First n) h (w, grows) held = page_read (record m { point = Page }) r0 rs r tr t es ds held n h w
    leads m Header r0 rs r tr t es ds (First n) h (w, grows) held = header_read (record m { point = Header }) r0 rs r tr t es ds held n (is_lost m.me.who n) (lost_is m.me.who n) (lost_not m.me.who n) h w (subst (λ z. Grows z rs r) (begun m.segment m.page) grows)
    leads m Tear r0 rs r tr t es ds (Second (Ok u)) h (g, grows) held = torn (record m { point = Tear }) r0 rs r tr t es ds held h g (subst (λ z. Grows z rs r) (begun m.segment m.page) grows)
    leads m Tear r0 rs r tr t es ds (Second (Err e)) h (g, grows) held = torn_partly (record m { point = Tear }) r0 rs r tr t es ds held e.era g.0 h g.1
    leads m Page r0 rs r tr t es ds (Second a) h g held = absurd g.0
    leads m Header r0 rs r tr t es ds (Second a) h g held = absurd g.0
    leads m Tear r0 rs r tr t es ds (First n) h g held = absurd g.0
