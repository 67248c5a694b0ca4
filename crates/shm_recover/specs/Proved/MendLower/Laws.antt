-- what is owed of the second half of a change that a recoverer makes
use Rattle.std.proofs.Common.{◌≡◌, ◌≢◌, ℕ, ◌+◌, ◌-◌, ◌<◌, ◌≤◌, refl, sym, ap, ◌∙◌, subst, arith, Bool, true, false, cond, eqb, ◌&&◌, List, [], ◌∷◌, ◌++◌, length, length-append}
use Rattle.std.proofs.lemmas.Bool.{cond-false, cond-true, eq-eqb, eqb-false, eqb-true, lt-ltb, ltb-false, ltb-true, ne_eqb}
use Rattle.std.specs.{Prelude.{nat_lt, ◌⊎◌}, List.filter}
use Rattle.shm_words.specs.{Headers.header_of, Layout.address}
use Rattle.shm_words.specs.declared.place.Place.TheVariants as place
use Rattle.shm_graph.specs.declared.{ask.Me.Me, spot.Spot.{Spot, TheVariants.Era}}
use Rattle.shm_graph.specs.declared.memo.{Fact.TheVariants.Header as HeaderRead, Memo.Memo, Op.{Op, TheVariants.Change}}
use Rattle.shm_graph.specs.declared.memo.{ChangeStage.TheVariants.Lowering, Second.TheVariants.Open}
use Rattle.shm_graph.specs.{Asks.{Trail, IsWithin, failed, pair}, Core.core}
use Rattle.shm_graph.specs.{Events.{ChangeDown, Event, Nothing as NoEvent}, MemoAfterExchange.committed, Blocks.classes}
use Rattle.shm_graph.specs.{Spots.{same_spot, spot_at}, MemoAfterStore.{is_lowering, op_closed}, Tells.is_event}
use Rattle.shm_graph.specs.Views.{own_word}
use Rattle.shm_graph.specs.declared.ask.Ask.TheVariants as ask
use Rattle.shm_graph.specs.declared.spot.Spot.TheVariants as spot
use Rattle.shm_graph.proofs.Spots.Spotting.{same_spot_self}
use Rattle.plans.specs.Proved.{CallTells.{failed-append, within_more}, Grown.grown_laws}
use Rattle.plans.specs.{Proved.Besides.{event_besides, word_besides}, EventWords.{event_part, event_part_laws}}
use Rattle.plans.specs.{Grown.grown, Parts.PartLaws, Plans.{Follows, PlanLaws, PlanStays}}
use Rattle.plans.specs.Words.{IsWord, word_control, word_part, word_part_laws}
use Rattle.kind_laws.specs.OwnWords.{Closes}
use Rattle.shm_count.specs.{Step.Control.row_address, Proved.CommitTest.StepTrail.{one_read, read_part_laws}}
use Rattle.kind_parts.specs.{Conditions.IsHere, Raising.OwnRowShows}
use Rattle.kind_parts.specs.WordParts.{FormerLowered, HeaderSeen, former_event}
use Rattle.kind_parts.proofs.{Cores.here_same, Words.{Blocks.{header_see, recoverer_goes_on}, FormerBlock.lower_former}}
use Rattle.kind_parts.proofs.Words.Own.{era_close_lowering, era_load, row_store}
use Rattle.shm_recover.specs.declared.mend_lower.MendLowerPoint.{MendLowerPoint}
use Rattle.shm_recover.specs.declared.mend_lower.MendLowerPoint.TheVariants.{Header, Row, Show, Exchange, Close}
use Rattle.shm_recover.specs.{declared.mend_lower.MendLowerState.MendLowerState, MendRest.{bare, is_row}}
use Rattle.shm_recover.specs.MendLower.Control.{found, is_header, lowered, lowering, lowering_ask, lowering_call, lowering_steered}
use Rattle.shm_recover.specs.MendLower.{ExchangeFound, HasFound, IsCounted, IsLowered, IsSame, LoweringFound, LoweringKnows, MayLowerDead, lowering_part, lowering_plan}
use Rattle.shm_recover.specs.Proved.MendLower.Headers.{IsLowering, half_block, half_committed, half_counted, lowered_header}

-- ---- words of rows

other_row : (c j : ℕ) (p : Spot) → is_row p ≡ false → same_spot (Era c j) p ≡ false
other_row c j (spot.Era x y) e = absurd (cc)
other_row c j _ e = refl

-- the word of a client of the pool
row_there : (me : Me) (j : ℕ) → j < me.geometry.clients → row_address me j ≡ address me.geometry (place.Era me.who j)
row_there me j l = cond-true (nat_lt j me.geometry.clients) (address me.geometry (place.Era me.who j)) 0 (lt-ltb j me.geometry.clients l)

-- ---- what is needed

module _ (m : MendLowerState) (r0 r : Memo) (es : List Event) (h : HasFound m.me m.block m.era m.header r0 r es) where
  abbrev c : ℕ
  c = m.me.who

  abbrev half : Op
  half = Change (Lowering Open) h.may.slot m.block h.may.after m.era

  op_same : r.op ≡ half
  op_same = ap (λ (x : Memo). x.op) h.same.rest ∙ h.may.op

  is_here : IsHere r
  is_here = here_same r0 r (ap (λ (x : Memo). x.status) h.same.rest) h.may.here

  row_word_load : IsWord false m.me (lowering_ask m.me m.block m.era m.header Row) (LoweringFound m Row) (lowering_call m Row) r
  row_word_load =
      subst (λ at. IsWord false m.me (ask.Load at) (LoweringFound m Row) (record { me = m.me; ask = ask.Load at; over = false }) r) (sym (row_there m.me (header_of m.header).client h.counted.client))
      (era_load false m.me r h.may.who c (header_of m.header).client h.may.who h.counted.client)

  row_word_store : c ≢ (header_of m.header).client → own_word r.own (Era c (header_of m.header).client) ≤ (header_of m.header).era
      → IsWord false m.me (lowering_ask m.me m.block m.era m.header Show) (LoweringFound m Show) (lowering_call m Show) r
  row_word_store other low =
      subst (λ at. IsWord false m.me (ask.Store at (header_of m.header).era) (LoweringFound m Show) (record { me = m.me; ask = ask.Store at (header_of m.header).era; over = false }) r) (sym (row_there m.me (header_of m.header).client h.counted.client))
      (row_store false m.me r h.may.who refl (header_of m.header).client (header_of m.header).era h.counted.client
      (record { here = is_here; other = other; more = low; read = (m.header, h.read, h.counted.live, refl, (omega arith)) }))

  exchange_word : OwnRowShows c r (header_of m.header) → (lowering_part m Exchange).needs (lowering_call m Exchange) r
  exchange_word shows =
      let to : ℕ = lowered c m.era m.header in
      let new = lowered_header m.me m.era m.header h.may.geometry h.may.who h.may.small in
      event_besides false m.me (ask.Exchange m.block m.header to) (FormerLowered m.me.geometry.wide c half m.header to) (ExchangeFound m.me m.block m.era m.header) r
      (λ w rs f st at x left. (
        subst (λ o. FormerLowered m.me.geometry.wide c o m.header to r (w (spot_at m.me.geometry (classes w) m.block)) x) (sym op_same) left,
        subst (λ q. IsCounted m.me (w q)) (sym (half_block m.me w rs st.held h.may.who r at h.may.slot m.block h.may.after m.era op_same)) (half_counted m.me w rs st.held h.may.who r at h.may.slot m.block h.may.after m.era op_same),
      ))
      (former_event c m.block m.header)
      (lower_former false m.me r h.may.who h.may.slot m.block h.may.after m.era ((header_of m.header).count - 1) m.header to refl h.may.inside
      (record {
        here = is_here;
        op = op_same;
        small = new.1;
        new = new.0;
        lower = (let n = h.counted.count in omega arith);
        shows = shows;
      }))

opens : (m : MendLowerState) (y : MendLowerPoint) (r0 r : Memo) (tr : Trail) (es : List Event) → LoweringKnows (record m { point = y }) y r0 r tr es → (lowering_part (record m { point = y }) y).needs (lowering_call m y) r
opens m Header r0 r tr es (may0, same, none, quiet) =
    let may : MayLowerDead m.me m.block m.era r = subst (MayLowerDead m.me m.block m.era) (sym same) may0 in
    word_besides true m.me (ask.Load m.block) (HeaderSeen m.me.geometry m.block) (LoweringFound m Header) r
    (λ w rs f st at x left. (left, subst (λ q. IsCounted m.me (w q)) (sym (half_block m.me w rs st.held may.who r at may.slot m.block may.after m.era may.op)) (half_counted m.me w rs st.held may.who r at may.slot m.block may.after m.era may.op)))
    (header_see true m.me r may.who m.block may.inside (λ n. recoverer_goes_on r m.block n may.recoverer) (λ w rs f st at. half_block m.me w rs st.held may.who r at may.slot m.block may.after m.era may.op))
opens m Row r0 r tr es (h, other, bound) = row_word_load m r0 r es h
opens m Show r0 r tr es (h, other, low, bound) = row_word_store m r0 r es h other low
opens m Exchange r0 r tr es (h, shows, bound) = exchange_word m r0 r es h shows
opens m Close r0 r tr es (h, bound) =
    subst (λ e. IsWord false m.me (ask.Store (address m.me.geometry (place.Era m.me.who m.me.who)) (e + 1)) (LoweringFound m Close) (record { me = m.me; ask = ask.Store (address m.me.geometry (place.Era m.me.who m.me.who)) (e + 1); over = false }) r) h.era
    (era_close_lowering false m.me r h.may.who refl (ap is_lowering h.op)
    (record {
      here = here_same r0 r (ap (λ (x : Memo). x.status) h.rest) h.may.here;
      op = subst (λ o. Closes o (op_closed o (own_word r.own (Era m.me.who m.me.who) + 1))) (sym h.op) refl;
    }))

-- ---- where it goes

module _ (m : MendLowerState) (r0 rs r : Memo) (tr t : Trail) (es ds : List Event) (n : ℕ) where
  abbrev who : ℕ
  who = m.me.who

  quiet : es ≡ [] → ds ≡ [] → es ++ ds ≡ []
  quiet a b = ap (λ (x : List Event). x ++ ds) a ∙ b

  -- where only something was read
  still_same : core r ≡ core rs → ds ≡ [] → IsSame m.me m.era r0 rs es → IsSame m.me m.era r0 r (es ++ ds)
  still_same left none h =
      record {
        rest = ap (λ (x : Memo). core (record x { own = [] })) left ∙ h.rest;
        own = λ p other. ap (λ (x : Memo). own_word x.own p) left ∙ h.own p other;
        era = ap (λ (x : Memo). own_word x.own (Era who who)) left ∙ h.era;
        rows = λ j. subst (λ (x : Memo). own_word r0.own (Era who j) ≤ own_word x.own (Era who j)) (sym left) (h.rows j);
        none = quiet h.none none;
      }

  -- a header was found
  found_led : HasFound m.me m.block m.era n r0 r (es ++ ds) → IsWithin 1 (tr ++ t) → let m2 : MendLowerState = found m n in LoweringKnows m2 m2.point r0 r (tr ++ t) (es ++ ds)
  found_led h one = go (eqb (header_of n).client who) (eqb-true (header_of n).client who) (eqb-false (header_of n).client who)
    where
      go : (q : Bool) → (q ≡ true → (header_of n).client ≡ who) → (q ≡ false → (header_of n).client ≢ who)
          → let m2 : MendLowerState = record m { header = n; point = cond q Exchange Row } in LoweringKnows m2 m2.point r0 r (tr ++ t) (es ++ ds)
      go true mine other = (h, (λ z. absurd (z (sym (mine refl)))), (let z = one in omega arith))
      go false mine other = (h, (λ z. other refl (sym z)), one)

  header_led : LoweringKnows (record m { point = Header }) Header r0 rs tr es → (lowering_part m Header).leaves (lowering_call m Header) rs r t ds n → let m2 : MendLowerState = found m n in LoweringKnows m2 m2.point r0 r (tr ++ t) (es ++ ds)
  header_led (may, begun, empty, still) (w, grows) =
      found_led
      (record {
        may = may;
        same = still_same w.found.0.left w.none (record { rest = ap (λ (x : Memo). core (record x { own = [] })) begun; own = λ p other. ap (λ (x : Memo). own_word x.own p) begun; era = ap (λ (x : Memo). own_word x.own (Era who who)) begun ∙ may.era; rows = λ j. subst (λ (x : Memo). own_word r0.own (Era who j) ≤ own_word x.own (Era who j)) (sym begun) (omega arith); none = still });
        counted = w.found.1;
        read = w.found.0.read.0;
      })
      (let z = w.one in subst (λ (x : Trail). IsWithin 1 (x ++ t)) (sym empty) (omega arith))

  row_led : LoweringKnows (record m { point = Row }) Row r0 rs tr es → (lowering_part m Row).leaves (lowering_call m Row) rs r t ds n
      → let m2 : MendLowerState = record m { point = cond (nat_lt n (header_of m.header).era) Show Exchange } in LoweringKnows m2 m2.point r0 r (tr ++ t) (es ++ ds)
  row_led (h, other, bound) (w, grows) = go (nat_lt n (header_of m.header).era) (ltb-true n (header_of m.header).era) (ltb-false n (header_of m.header).era)
    where
      after : HasFound m.me m.block m.era m.header r0 r (es ++ ds)
      after = record { may = h.may; same = still_same w.found.left w.none h.same; counted = h.counted; read = grows.facts refl (HeaderRead m.header) h.read }

      is : own_word r.own (Era who (header_of m.header).client) ≡ n
      is = ap (λ (x : Memo). own_word x.own (Era who (header_of m.header).client)) w.found.left ∙ sym (w.found.found (eq-eqb who who refl))

      two : IsWithin 2 (tr ++ t)
      two = within_more 1 1 tr t bound (let z = w.one in omega arith)

      go : (q : Bool) → (q ≡ true → n < (header_of m.header).era) → (q ≡ false → (header_of m.header).era ≤ n)
          → let m2 : MendLowerState = record m { point = cond q Show Exchange } in LoweringKnows m2 m2.point r0 r (tr ++ t) (es ++ ds)
      go true low high = (after, other, (let z = low refl in let y = is in omega arith), two)
      go false low high = (after, (λ z. let x = high refl in let y = is in omega arith), (let z = two in omega arith))

  show_led : LoweringKnows (record m { point = Show }) Show r0 rs tr es → (lowering_part m Show).leaves (lowering_call m Show) rs r t ds n → LoweringKnows (record m { point = Exchange }) Exchange r0 r (tr ++ t) (es ++ ds)
  show_led (h, other, low, bound) (w, grows) = (
    record {
      may = h.may;
      same = record {
        rest = ap (λ (x : Memo). core (record x { own = [] })) w.found.left ∙ h.same.rest;
        own = λ p apart. own_at p ∙ (cond-false (same_spot (Era who j) p) v (own_word rs.own p) (other_row who j p apart) ∙ h.same.own p apart);
        era = own_at (Era who who) ∙ (cond-false (same_spot (Era who j) (Era who who)) v (own_word rs.own (Era who who)) (ap (λ z. z && eqb j who) (eq-eqb who who refl) ∙ ne_eqb j who (λ z. other (sym z))) ∙ h.same.era);
        rows = λ k. subst (λ y. own_word r0.own (Era who k) ≤ y) (sym (own_at (Era who k))) (raised k);
        none = quiet h.same.none w.none;
      };
      counted = h.counted;
      read = grows.facts refl (HeaderRead m.header) h.read;
    },
    (λ z. subst (λ y. v ≤ y) (sym (own_at (Era who j) ∙ cond-true _ _ _ (same_spot_self (Era who j)))) (omega arith)),
    within_more 2 1 tr t bound (let z = w.one in omega arith),
  )
    where
      j : ℕ
      j = (header_of m.header).client

      v : ℕ
      v = (header_of m.header).era

      own_at : (p : Spot) → own_word r.own p ≡ cond (same_spot (Era who j) p) v (own_word rs.own p)
      own_at p = ap (λ (x : Memo). own_word x.own p) w.found.left

      raised : (k : ℕ) → own_word r0.own (Era who k) ≤ cond (same_spot (Era who j) (Era who k)) v (own_word rs.own (Era who k))
      raised k = go (eqb j k) (eqb-true j k)
        where
          go : (q : Bool) → (q ≡ true → j ≡ k) → own_word r0.own (Era who k) ≤ cond (eqb who who && q) v (own_word rs.own (Era who k))
          go true is =
              subst (λ z. own_word r0.own (Era who k) ≤ cond (z && true) v (own_word rs.own (Era who k))) (sym (eq-eqb who who refl))
              (let x = h.same.rows k in let y : own_word rs.own (Era who k) ≤ v = subst (λ i. own_word rs.own (Era who i) ≤ v) (is refl) low in omega arith)
          go false is =
              subst (λ z. own_word r0.own (Era who k) ≤ cond (z && false) v (own_word rs.own (Era who k))) (sym (eq-eqb who who refl)) (h.same.rows k)

  -- an exchange that failed pays for what comes again
  tried : n ≢ m.header → IsWithin 3 tr → t ≡ pair (lowering_ask m.me m.block m.era m.header Exchange) n ∷ [] → IsWithin 1 (tr ++ t)
  tried other bound is =
      let e = failed-append tr t in
      let l = length-append tr t in
      let one : length t ≡ 1 = ap length is in
      let lost : failed t ≡ 1 = ap failed is ∙ ap (λ z. cond z 0 1 + 0) (ne_eqb n m.header other) in
      omega arith

  exchange_led : LoweringKnows (record m { point = Exchange }) Exchange r0 rs tr es → (lowering_part m Exchange).leaves (lowering_call m Exchange) rs r t ds n
      → let m2 : MendLowerState = cond (eqb n m.header) (record m { point = Close }) (found m n) in LoweringKnows m2 m2.point r0 r (tr ++ t) (es ++ ds)
  exchange_led (h, shows, bound) (w, asked) = go (eqb n m.header) (eqb-true n m.header) (eqb-false n m.header) w.found.0.left refl
    where
      op_is : rs.op ≡ Change (Lowering Open) h.may.slot m.block h.may.after m.era
      op_is = ap (λ (x : Memo). x.op) h.same.rest ∙ h.may.op

      to : ℕ
      to = lowered who m.era m.header

      done : IsLowering h.may.slot m.block h.may.after m.era rs (committed m.me.geometry.wide who rs rs.op to)
      done = subst (λ o. IsLowering h.may.slot m.block h.may.after m.era rs (committed m.me.geometry.wide who rs o to)) (sym op_is) (half_committed m.me.geometry.wide who rs h.may.slot m.block h.may.after m.era to)

      go : (q : Bool) → (q ≡ true → n ≡ m.header) → (q ≡ false → n ≢ m.header) → core r ≡ core (cond q (committed m.me.geometry.wide who rs rs.op to) rs) → filter is_event (former_event who m.block m.header n ∷ []) ≡ filter is_event (cond q (ChangeDown who m.block) NoEvent ∷ [])
          → let m2 : MendLowerState = cond q (record m { point = Close }) (found m n) in LoweringKnows m2 m2.point r0 r (tr ++ t) (es ++ ds)
      go true is other left event = (
        record {
          may = h.may;
          op = ap (λ (x : Memo). x.op) left ∙ done.op;
          rest = ap bare left ∙ (done.rest ∙ ap bare h.same.rest);
          latch = ap (λ (x : Memo). x.latch) left ∙ (done.latch ∙ ap (λ (x : Memo). x.latch) h.same.rest);
          dying = subst (λ ds. (ds ≡ r0.dying) ⊎ (ds ≡ r0.dying ++ m.block ∷ [])) (sym (ap (λ (x : Memo). x.dying) left)) (subst (λ bs. ((committed m.me.geometry.wide who rs rs.op to).dying ≡ bs) ⊎ ((committed m.me.geometry.wide who rs rs.op to).dying ≡ bs ++ m.block ∷ [])) (ap (λ (x : Memo). x.dying) h.same.rest) done.dying);
          own = λ p apart. ap (λ ws. own_word ws p) (ap (λ (x : Memo). x.own) left ∙ done.own) ∙ h.same.own p apart;
          era = ap (λ ws. own_word ws (Era who who)) (ap (λ (x : Memo). x.own) left ∙ done.own) ∙ h.same.era;
          rows = λ j. subst (λ ws. own_word r0.own (Era who j) ≤ own_word ws (Era who j)) (sym (ap (λ (x : Memo). x.own) left ∙ done.own)) (h.same.rows j);
          events = ap (λ (x : List Event). x ++ ds) h.same.none ∙ (w.events ∙ event);
        },
        within_more 3 1 tr t bound (let z = w.one in omega arith),
      )
      go false is other left event =
          found_led
          (record { may = h.may; same = still_same left (w.events ∙ event) h.same; counted = w.found.1; read = w.found.0.read (other refl) })
          (tried (other refl) bound (one_read (lowering_ask m.me m.block m.era m.header Exchange) t n asked))

  close_led : LoweringKnows (record m { point = Close }) Close r0 rs tr es → (lowering_part m Close).leaves (lowering_call m Close) rs r t ds n → IsLowered m.me m.block m.era r0 r (tr ++ t) (es ++ ds)
  close_led (h, bound) (w, grows) =
      record {
        op = ap (λ (x : Memo). x.op) w.found.left ∙ ap (λ o. op_closed o (own_word rs.own (Era who who) + 1)) h.op;
        rest = ap bare w.found.left ∙ h.rest;
        latch = ap (λ (x : Memo). x.latch) w.found.left ∙ h.latch;
        dying = subst (λ ds. (ds ≡ r0.dying) ⊎ (ds ≡ r0.dying ++ m.block ∷ [])) (sym (ap (λ (x : Memo). x.dying) w.found.left)) h.dying;
        own = λ p apart. ap (λ (x : Memo). own_word x.own p) w.found.left ∙ (cond-false (same_spot (Era who who) p) v (own_word rs.own p) (other_row who who p apart) ∙ h.own p apart);
        rows = λ j. subst (λ (x : Memo). own_word r0.own (Era who j) ≤ own_word x.own (Era who j)) (sym w.found.left) (raised j);
        events = ap (λ (x : List Event). x ++ ds) h.events ∙ ap (λ (x : List Event). ChangeDown who m.block ∷ x) w.none;
        bound = within_more 4 1 tr t bound (let z = w.one in omega arith);
      }
    where
      v : ℕ
      v = own_word rs.own (Era who who) + 1

      raised : (j : ℕ) → own_word r0.own (Era who j) ≤ cond (same_spot (Era who who) (Era who j)) v (own_word rs.own (Era who j))
      raised j = go (eqb who j) (eqb-true who j)
        where
          go : (q : Bool) → (q ≡ true → who ≡ j) → own_word r0.own (Era who j) ≤ cond (eqb who who && q) v (own_word rs.own (Era who j))
          go true is = subst (λ z. own_word r0.own (Era who j) ≤ cond (z && true) v (own_word rs.own (Era who j))) (sym (eq-eqb who who refl)) (subst (λ i. own_word r0.own (Era who i) ≤ v) (is refl) (let x = h.rows who in omega arith))
          go false is = subst (λ z. own_word r0.own (Era who j) ≤ cond (z && false) v (own_word rs.own (Era who j))) (sym (eq-eqb who who refl)) (h.rows j)

-- what is known before the first word step
pub lowering_begin : (me : Me) (a e : ℕ) (r : Memo) → MayLowerDead me a e r → LoweringKnows (lowering me a e) Header r r [] []
lowering_begin me a e r may = (may, refl, refl, refl)

pub lowering_laws : PlanLaws word_control lowering_plan
lowering_laws =
    record {
      stays = λ m n. stays m m.point n;
      calls = λ m. record { me = refl; asks = refl };
      parts = λ m. parts m m.point;
      opens = λ m. opens m m.point;
      leads = λ m r0 rs r tr t es ds n h w held same. leads m m.point r0 rs r tr t es ds n h w;
    }
  where
    plain : (m : MendLowerState) (y : MendLowerPoint) → PartLaws (is_header y) word_control (grown (is_header y) (word_part (is_header y) m.me (lowering_ask m.me m.block m.era m.header y) (LoweringFound m y)))
    plain m y = grown_laws (is_header y) word_control (word_part (is_header y) m.me (lowering_ask m.me m.block m.era m.header y) (LoweringFound m y)) (word_part_laws (is_header y) m.me (lowering_ask m.me m.block m.era m.header y) (LoweringFound m y))

    parts : (m : MendLowerState) (y : MendLowerPoint) → PartLaws (is_header y) word_control (lowering_part m y)
    parts m Header = plain m Header
    parts m Row = plain m Row
    parts m Show = plain m Show
    parts m Close = plain m Close
    parts m Exchange =
        let a = lowering_ask m.me m.block m.era m.header Exchange in
        read_part_laws false word_control (event_part false m.me a (former_event m.me.who m.block m.header) (LoweringFound m Exchange)) (event_part_laws false m.me a (former_event m.me.who m.block m.header) (LoweringFound m Exchange))

    alike : {T : Type 0} (f : MendLowerState → T) (q : Bool) (m n : MendLowerState) {v : T} → f m ≡ v → f n ≡ v → f (cond q m n) ≡ v
    alike f true m n a b = a
    alike f false m n a b = b

    later : (q : Bool) (x y : MendLowerPoint) → is_header x ≡ false → is_header y ≡ false → is_header (cond q x y) ≡ false
    later true x y a b = a
    later false x y a b = b

    stays : (m : MendLowerState) (y : MendLowerPoint) (n : ℕ) → PlanStays word_control lowering_plan (record m { point = y }) n
    stays m Header n = record { same_me = refl; same_line = refl; same_start = refl; started = λ e. later (eqb (header_of n).client m.me.who) Exchange Row refl refl }
    stays m Row n = record { same_me = refl; same_line = refl; same_start = refl; started = λ e. later (nat_lt n (header_of m.header).era) Show Exchange refl refl }
    stays m Show n = record { same_me = refl; same_line = refl; same_start = refl; started = λ e. refl }
    stays m Exchange n =
        let p : MendLowerState = record m { point = Close } in
        record {
          same_me = alike (λ (x : MendLowerState). x.me) (eqb n m.header) p (found m n) refl refl;
          same_line = refl;
          same_start = alike lowering_steered.start (eqb n m.header) p (found m n) refl refl;
          started = λ e. alike (λ (x : MendLowerState). is_header x.point) (eqb n m.header) p (found m n) refl (later (eqb (header_of n).client m.me.who) Exchange Row refl refl);
        }
    stays m Close n = record { same_me = refl; same_line = refl; same_start = refl; started = λ e. absurd (cc) }

    leads : (m : MendLowerState) (y : MendLowerPoint) (r0 rs r : Memo) (tr t : Trail) (es ds : List Event) (n : ℕ) → LoweringKnows (record m { point = y }) y r0 rs tr es → (lowering_part (record m { point = y }) y).leaves (lowering_call m y) rs r t ds n
        → Follows word_control lowering_plan (record m { point = y }) n r0 r (tr ++ t) (es ++ ds)
    leads m Header r0 rs r tr t es ds n h w = header_led (record m { point = Header }) r0 rs r tr t es ds n h w
    leads m Row r0 rs r tr t es ds n h w = row_led (record m { point = Row }) r0 rs r tr t es ds n h w
    leads m Show r0 rs r tr t es ds n h w = show_led (record m { point = Show }) r0 rs r tr t es ds n h w
    leads m Exchange r0 rs r tr t es ds n h w = exchange_led (record m { point = Exchange }) r0 rs r tr t es ds n h w
    leads m Close r0 rs r tr t es ds n h w = close_led (record m { point = Close }) r0 rs r tr t es ds n h w
