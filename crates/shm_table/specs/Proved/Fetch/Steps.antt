-- what stays of a memo where what a key has is read under a latch, and its value block gets a root
use Rattle.std.proofs.Common.{◌≡◌, ◌≢◌, ℕ, ◌+◌, ◌*◌, ◌%◌, refl, sym, ap, ◌∙◌, subst, arith, append-nil, Bool, true, false, eqb, ◌&&◌, List, [], ◌∷◌, ◌++◌, inl, inr}
use Rattle.std.proofs.lemmas.Bool.{cases_Bool, cond-false, eqb-true, ne_eqb, true≢false}
use Rattle.std.specs.{Prelude.{◌==◌, if◌then◌else◌}, List.Contains}
use Rattle.shm_words.proofs.Placing.{total_small}
use Rattle.shm_words.specs.Layout.{address_limit}
use Rattle.shm_graph.specs.declared.{ask.Me.Me, memo.{Memo.Memo, Stored.Stored}, table.Part.Part}
use Rattle.shm_graph.specs.declared.{table.Part.TheVariants.{Loose, Table}, spot.Spot.Spot}
use Rattle.shm_graph.specs.{declared.spot.Spot.TheVariants.{Body, Era, Hold, Home, Root}, Agents.recovers}
use Rattle.shm_graph.specs.{Asks.{Trail, IsWithin}, Core.core, Events.Event, Held.is_loose, Idle.{IsIdle, hold_word}}
use Rattle.shm_graph.specs.{Reach.learnt, Chains.part_set, Ops.{cover, Cover.On}}
use Rattle.shm_graph.specs.{MemoAfterRead.{is_entry, valued, values_read}, Spots.same_spot}
use Rattle.shm_graph.specs.{Telling.{Entry as AnEntry, Value as AValue, role_in, roles}, Trails.{Answers, Asked}}
use Rattle.shm_graph.specs.Views.{own_word}
use Rattle.plans.specs.{Proved.CallTells.within_more, Parts.IsHeld}
use Rattle.kind_parts.specs.{Reparting.{sight, map_in, IsValue}, Walking.IsIn, WordParts.ReferenceLoaded}
use Rattle.kind_parts.proofs.Partitions.Seeking.{learnt_here}
use Rattle.shm_count.specs.{Roots.root_word, Slots.Filled}
use Rattle.shm_ref.specs.Proved.AskedParts.{one_pair}
use Rattle.shm_table.specs.declared.{find.Found.TheVariants.At, get.{GetPoint.TheVariants.Number, GetState.GetState}}
use Rattle.shm_table.specs.Proved.{EntryReads.reference_reads, Find.{Bound.find_within, SearchLoads.look_in}}
use Rattle.shm_table.specs.Proved.{Find.Tells.entry_value, Get.Laws.{idle_of, table_of, value_room}}
use Rattle.shm_table.specs.{Proved.{PutRoot.Steps.search_more, Staying.Laws.value_same}, Fetch.IsOn}
use Rattle.shm_table.specs.{Find.{Bound.keys_read, Control.word_ask}, Get.{GetKnows, IsReading, UnderLatch.ReadsMore}}
use Rattle.shm_table.specs.{Locate.Located, Staying.{Cleared, Keeps, SameMap, is_set}}

-- ---- reading

-- an identity between two calls is so still where it has only read
pub idle_more : (c : ℕ) (m r : Memo) → ReadsMore m r → IsIdle c m → IsIdle c r
idle_more c m r h idle =
    record {
      live = ap (λ (x : Memo). x.status) h.memo ∙ idle.live;
      op = ap (λ (x : Memo). x.op) h.memo ∙ idle.op;
      making = ap (λ (x : Memo). x.making) h.memo ∙ idle.making;
      hold = ap (λ (x : Memo). own_word x.own (Hold c)) h.memo ∙ (idle.hold ∙ ap (λ (x : Memo). hold_word x.latch) (sym h.memo));
    }

-- the value word of an entry was read: the block that it names is a value block
value_listed : (b : ℕ) (m : Memo) (n : ℕ) (x : Memo) → is_loose m.part ≡ false → role_in (roles m) b ≡ AnEntry → n ≢ 0 → ReferenceLoaded b 1 m n x → Contains x.values n
value_listed b m n x table role some h =
    subst (λ (vs : List ℕ). Contains vs n) (sym values) (0, omega arith, refl)
  where
    all : Memo
    all = record m { looks = m.looks ++ record { block = n; from = Body b 1 } ∷ []; known = learnt (Body b 1) n m.known; values = values_read m b 1 n }

    values : x.values ≡ n ∷ m.values
    values =
        ap (λ (y : Memo). y.values) (h.left ∙ ap core {y = all} (cond-false (eqb n 0) _ _ (ne_eqb n 0 some)))
        ∙ (ap (λ u. if is_entry u && (1 == 1) then valued m.part n m.values else m.values) role ∙ cond-false (is_loose m.part) m.values (n ∷ m.values) table)

-- the block that the value word of an entry names is a value block
pub value_seen : (m : GetState) (r0 rs r : Memo) (tr : Trail) (es : List Event) → IsHeld m.me r → (n : ℕ) → IsReading m.me m.author r0 rs → role_in (roles rs) m.entry ≡ AnEntry → GetKnows (record m { block = n % address_limit; point = Number }) Number r0 r tr es → ReferenceLoaded m.entry 1 rs n r → Contains r.values (n % address_limit)
value_seen m r0 rs r tr es held n reading here (next, look, value, inside) left =
    let table = table_of m.me m.author r0 rs reading in
    let reads = reference_reads m.entry 1 rs n r left in
    let known : Contains r.known (record { spot = Body m.entry 1; value = n }) = subst (λ (ks : List Stored). Contains ks (record { spot = Body m.entry 1; value = n })) (sym reads.0.known) (learnt_here (Body m.entry 1) n rs.known) in
    let some : n ≢ 0 = entry_value m.me m.author m.key m.entry n r next.has (idle_of m.me m.author r0 r next.reading) known reading.may.who held in
    let is : IsIn r AValue n = look_in rs r m.entry 1 n AnEntry table reads.0.part here (reads.1 some) in
    let roomy = value_room m.me r n reading.may.who held is in
    let total = total_small m.me.geometry reading.may.geometry in
    let small : n ≡ n % address_limit = omega arith in
    subst (λ b. Contains r.values b) small (value_listed m.entry rs n r table here some left)

-- ---- so many word steps

-- the latch was taken and the search found an entry, where nothing was asked before
pub search_on : (me : Me) (a key entry before word : ℕ) (rs r : Memo) (tr t : Trail) (ds : List Event) → tr ≡ [] → recovers r ≡ false → Located me a key rs r t ds (At entry before word) → IsOn me a key 4 r (tr ++ t)
search_on me a key entry before word rs r tr t ds none client w =
    let u = find_within me a key w.latched r w.after ds (At entry before word) w.found in
    let n : ℕ = keys_read u.0 (At entry before word) in
    let all : IsWithin (2 + (2 + 2 * n)) (w.before ++ w.after) = within_more 2 (2 + 2 * n) w.before w.after w.bound u.2 in
    subst (λ (x : Trail). IsOn me a key 4 r (x ++ t)) (sym none)
    (record {
      idle = w.idle;
      client = client;
      keys = n;
      search = (w.before, w.after, [], w.trail ∙ ap (λ (x : Trail). w.before ++ x) (sym (append-nil w.after)), (u.0, At entry before word, u.1, refl));
      bound = subst (IsWithin (4 + 2 * n)) (sym w.trail) (omega arith);
    })

-- one more word step
pub on_more : (me : Me) (a key steps : ℕ) (rs r : Memo) (tr t : Trail) → IsOn me a key steps rs tr → IsIdle me.who r → recovers r ≡ recovers rs → IsWithin 1 t → IsOn me a key (steps + 1) r (tr ++ t)
on_more me a key steps rs r tr t h idle agent one =
    let all = within_more (steps + 2 * h.keys) 1 tr t h.bound one in
    record { idle = idle; client = agent ∙ h.client; keys = h.keys; search = search_more me a key h.keys tr t h.search; bound = omega arith }

pub one_step : (e n i : ℕ) (t : Trail) → Asked (word_ask e i) (λ x. Answers x) t n → IsWithin 1 t
one_step e n i t asked = subst (IsWithin 1) (sym (one_pair (word_ask e i) t n asked)) (omega arith)

-- ---- what stays

not_held : (c : ℕ) (p : Spot) → is_set p ≡ false → same_spot (Hold c) p ≡ false
not_held c (Hold d) n = absurd (true≢false n)
not_held c _ n = refl

-- under the latch all is kept, and the roots and zero-count blocks are as they were
pub keeps_reading : (me : Me) (a : ℕ) (r0 r : Memo) → IsReading me a r0 r → IsIdle me.who r → Keeps me.who r0 r
keeps_reading me a r0 r h idle =
    let c = me.who in
    record {
      idle = idle;
      sent = ap (λ (x : Memo). x.sent) h.memo;
      received = ap (λ (x : Memo). x.received) h.memo;
      unsent = ap (λ (x : Memo). x.unsent) h.memo;
      untaken = ap (λ (x : Memo). x.untaken) h.memo;
      loose = ap (λ (x : Memo). is_loose x.part) h.memo;
      own = λ p lasts unset. h.own p (not_held c p unset);
      era = let e = h.own (Era c c) refl in omega arith;
      roots = λ j. inl (h.own (Root c j) refl);
      slots = λ p x s k. h.known (record { spot = p; value = x }) k;
      values = λ k v n l some root is. record { value = h.values v is.value; word = h.known (record { spot = Body v 0; value = n }) is.word };
    }

pub clear_reading : (me : Me) (a : ℕ) (r0 r : Memo) → IsReading me a r0 r → Cleared me.who r0 r
clear_reading me a r0 r h = record { roots = λ j. h.own (Root me.who j) refl; dying = ap (λ (x : Memo). x.dying) h.memo }

pub map_reading : (me : Me) (a : ℕ) (r0 r : Memo) → IsReading me a r0 r → SameMap r0 r
map_reading me a r0 r h k = ap (λ (x : Memo). map_in x.part k) h.memo

-- ---- a root

not_root : (c k : ℕ) (p : Spot) → is_set p ≡ false → same_spot (Root c k) p ≡ false
not_root c k (Root d j) n = absurd (true≢false n)
not_root c k _ n = refl

right : (b : Bool) → (b && false) ≡ false
right true = refl
right false = refl

other_root : (c k j : ℕ) → eqb k j ≡ false → same_spot (Root c k) (Root c j) ≡ false
other_root c k j n = ap (λ z. eqb c c && z) n ∙ right (eqb c c)

module _ (c k b : ℕ) (m r : Memo) (h : Filled c (Root c k) b m r) where
  pub root_part : r.part ≡ m.part
  root_part = ap (λ (x : Memo). x.part) h.rest ∙ stays m.part
    where
      stays : (p : Part) → part_set m.known c (cover (On (Root c k) b) (Home c) (own_word m.own (Home c))) (Root c k) b p ≡ p
      stays Loose = refl
      stays (Table chains) = refl

  pub root_others : (j : ℕ) → k ≢ j → root_word c r j ≡ root_word c m j
  root_others j n = h.own (Root c j) refl ∙ cond-false _ _ _ (other_root c k j (ne_eqb k j n))

  pub root_value : (v n : ℕ) → IsValue (sight c m) v n → IsValue (sight c r) v n
  root_value v n is = value_same c m r v n (ap (λ (x : Memo). x.known) h.rest) (ap (λ (x : Memo). x.values) h.rest) is

  -- an empty root came to name a block
  pub keeps_root : IsIdle c m → root_word c m k ≡ 0 → Keeps c m r
  keeps_root idle empty =
      record {
        idle = record {
          live = ap (λ (x : Memo). x.status) h.rest ∙ idle.live;
          op = ap (λ (x : Memo). x.op) h.rest ∙ idle.op;
          making = ap (λ (x : Memo). x.making) h.rest ∙ idle.making;
          hold = h.own (Hold c) refl ∙ (idle.hold ∙ ap (λ (x : Memo). hold_word x.latch) (sym h.rest));
        };
        sent = ap (λ (x : Memo). x.sent) h.rest;
        received = ap (λ (x : Memo). x.received) h.rest;
        unsent = ap (λ (x : Memo). x.unsent) h.rest;
        untaken = ap (λ (x : Memo). x.untaken) h.rest;
        loose = ap is_loose root_part;
        own = λ p l s. h.own p l ∙ cond-false _ _ _ (not_root c k p s);
        era = h.rows c;
        roots = λ j. elim (cases_Bool (eqb k j)) [
          | inl e ↦ inr (subst (λ i. root_word c m i ≡ 0) (eqb-true k j e) empty)
          | inr n ↦ inl (h.own (Root c j) refl ∙ cond-false _ _ _ (other_root c k j n))
        ];
        slots = λ p x s y. subst (λ (ks : List Stored). Contains ks (record { spot = p; value = x })) (sym (ap (λ (y : Memo). y.known) h.rest)) y;
        values = λ j v n l some root is. root_value v n is;
      }
