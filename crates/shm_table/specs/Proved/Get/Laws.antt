-- what is owed of reading what a key has
use Rattle.std.proofs.Common.{◌≡◌, ◌≢◌, ℕ, ◌+◌, ◌%◌, ◌<◌, refl, sym, ap, ◌∙◌, subst, arith, false, append_assoc, append-nil, List, [], ◌∷◌, ◌++◌, Bool}
use Rattle.std.specs.{Prelude.Some, List.Contains}
use Rattle.shm_words.specs.Layout.{total_of, address_limit}
use Rattle.shm_words.proofs.Placing.{total_small}
use Rattle.shm_graph.specs.declared.{ask.Me.Me, memo.{Memo.Memo, Op.TheVariants.Nothing, Stored.Stored}}
use Rattle.shm_graph.specs.{declared.spot.Spot.TheVariants.Body, Asks.{Trail, pair}, Events.Event, Held.is_loose}
use Rattle.shm_graph.specs.{Trails.{Answers, Asked}, Telling.{Entry as AnEntry, Value as AValue, shaped}}
use Rattle.plans.specs.{declared.or.Or.TheVariants.{First, Second}, CallsPart.{calls_part, calls_part_laws}}
use Rattle.plans.specs.{Either.{or_control, or_part}, Proved.Either.or_part_laws, Parts.IsHeld}
use Rattle.plans.specs.{Plans.{PlanLaws, PlanStays, IsCall, Follows}, Words.{word_control, word_part, word_part_laws}}
use Rattle.kind_parts.specs.{Reparting.map_in, Walking.IsIn, WordParts.{IsPlainWord, ReferenceLoaded, WordLoaded}}
use Rattle.kind_parts.proofs.{Covering.role_told, Partitions.Seeking.learnt_here}
use Rattle.kind_parts.proofs.Words.Blocks.{idle_settled, plain_load, reference_load, told_inside}
use Rattle.shm_ref.specs.Proved.AskedParts.{asked_part_laws, one_pair}
use Rattle.shm_table.specs.declared.{find.Found.{Found, TheVariants.{Absent, At}}, get.GetPoint.GetPoint}
use Rattle.shm_table.specs.declared.get.GetPoint.TheVariants.{Search, Value, Number, Missing, Known}
use Rattle.shm_table.specs.{declared.get.GetState.GetState, Proved.EntryReads.reference_reads}
use Rattle.shm_table.specs.Proved.Find.SearchLoads.{entry_latched, look_in, look_made}
use Rattle.shm_table.specs.Proved.Find.Tells.{absent_tells, author_maps, entry_value, has_read, read_kept}
use Rattle.shm_table.specs.Proved.Get.UnderLatch.{reads_on, reference_more, searched, visited, word_more}
use Rattle.shm_table.specs.Proved.Locate.Laws.{live_here, locate_begin, locate_laws}
use Rattle.shm_table.specs.{Proved.Unlatch.Laws.{unlatch_begin, unlatch_laws}, Find.Control.word_ask}
use Rattle.shm_table.specs.Get.Control.{GetAnswer, get_ask, get_call, get_parts, getting, is_search}
use Rattle.shm_table.specs.Get.{GetFound, GetKnows, GotNone, GotSome, IsAt, IsNowhere, IsReading, IsTold, found_trail, get_part, get_plan, get_word_part, number_trail, value_trail}
use Rattle.shm_table.specs.{Get.UnderLatch.ReadsMore, Locate.Control.{locate_parts, locate_control}}
use Rattle.shm_table.specs.Locate.{Located, MayLocate, locate_plan}
use Rattle.shm_table.specs.Unlatch.{MayUnlatch, Unlatched, unlatch_plan, unlatch_trail, Control.unlatch_control}

-- ---- what each call needs

-- a value block's number is a plain word of it
pub value_plain : (wide : Bool) (c : ℕ) (r : Memo) (b : ℕ) → IsIn r AValue b → IsPlainWord wide c r b 0
value_plain wide c r b here = (shaped r.latch b AValue, role_told c r wide b AValue here.0 (λ z. cc), refl, omega arith, omega arith)

pub value_room : (me : Me) (r : Memo) (b : ℕ) → me.who < me.geometry.clients → IsHeld me r → IsIn r AValue b → b + 2 < total_of me.geometry
value_room me r b l held here = let k = told_inside me r (shaped r.latch b AValue) l held (role_told me.who r me.geometry.wide b AValue here.0 (λ z. cc)) in omega arith

-- of the memo under the latch
pub latch_of : (me : Me) (a : ℕ) (r0 r : Memo) → IsReading me a r0 r → r.latch ≡ Some a
latch_of me a r0 r h = ap (λ (x : Memo). x.latch) h.memo

pub idle_of : (me : Me) (a : ℕ) (r0 r : Memo) → IsReading me a r0 r → r.op ≡ Nothing
idle_of me a r0 r h = ap (λ (x : Memo). x.op) h.memo ∙ h.may.idle.op

pub table_of : (me : Me) (a : ℕ) (r0 r : Memo) → IsReading me a r0 r → is_loose r.part ≡ false
table_of me a r0 r h = ap (λ (x : Memo). is_loose x.part) h.memo ∙ h.may.table

pub may_unlatch : (me : Me) (a : ℕ) (r0 r : Memo) → IsReading me a r0 r → MayUnlatch me a r
may_unlatch me a r0 r h =
    record {
      geometry = h.may.geometry;
      who = h.may.who;
      author = h.may.author;
      here = live_here r0 r h.may.idle.live (ap (λ (x : Memo). x.status) h.memo);
      idle = idle_of me a r0 r h;
      latch = latch_of me a r0 r h;
    }

-- ---- what follows each call

-- the map of the own table has what was read
pub told_own : (me : Me) (a key entry n v : ℕ) (r : Memo) → me.who < me.geometry.clients → IsHeld me r → IsTold a key entry n v r → a ≡ me.who → map_in r.part key ≡ Some (n, v)
told_own me a key entry n v r l (w, rs, h, same) told own =
    ap (λ (x : Memo). map_in x.part key) (sym same) ∙ (ap (λ d. map_in (rs d).part key) (sym own) ∙ author_maps me a key entry v n r told.has told.look told.number l w rs h same)

-- more was asked
asked_more : (before found seen tr t u : Trail) → tr ≡ before ++ (found ++ seen) → t ≡ u → tr ++ t ≡ before ++ (found ++ (seen ++ u))
asked_more before found seen tr t u e f = ap (λ (x : Trail). x ++ t) e ∙ (append_assoc before (found ++ seen) t ∙ (ap (λ (x : Trail). before ++ x) (append_assoc found seen t) ∙ ap (λ (x : Trail). before ++ (found ++ (seen ++ x))) f))

module _ (m : GetState) (r0 rs r : Memo) (tr t : Trail) (es ds : List Event) (held : IsHeld m.me r) where
  abbrev a : ℕ
  a = m.author

  -- ---- the search

  module _ (h : GetKnows (record m { point = Search }) Search r0 rs tr es) where
    -- what holds of the memo before and of nothing asked holds
    begun : (X : Trail → List Event → Type 0) → X t ds → X (tr ++ t) (es ++ ds)
    begun X x = subst (λ (u : Trail). X (u ++ t) (es ++ ds)) (sym h.2) (subst (λ (u : List Event). X t (u ++ ds)) (sym h.3) x)

    before_it : (b : Found) → Located m.me a m.key rs r t ds b → Located m.me a m.key r0 r t ds b
    before_it b w = subst (λ (x : Memo). Located m.me a m.key x r t ds b) h.1 w

    -- no entry has the key
    pub nowhere : (home first : ℕ) → Located m.me a m.key rs r t ds (Absent home first) → IsNowhere m.me a m.key r0 r (tr ++ t) (es ++ ds)
    nowhere home first located =
        let w = before_it (Absent home first) located in
        begun (IsNowhere m.me a m.key r0 r)
        (record {
          reading = searched m.me a r0 w.latched r h.0 w.took w.found.reads held;
          none = w.none;
          before = w.before;
          bound = w.bound;
          walk = w.after;
          home = home;
          first = first;
          ends = w.found.ends;
          trail = w.trail;
          absent = λ q. ap (λ (x : Memo). map_in x.part m.key) (sym w.took.memo) ∙ absent_tells m.me a m.key home first w.latched r w.after ds w.found q;
        })

    -- this one has it
    pub at_entry : (entry before word : ℕ) → Located m.me a m.key rs r t ds (At entry before word) → GetKnows (record m { entry = entry % address_limit; point = Value }) Value r0 r (tr ++ t) (es ++ ds)
    at_entry entry before word located =
        let w = before_it (At entry before word) located in
        let f = w.found in
        let room = f.room in
        let total = total_small m.me.geometry h.0.geometry in
        let small : entry % address_limit ≡ entry = omega arith in
        subst (λ (e : ℕ). GetKnows (record m { entry = e; point = Value }) Value r0 r (tr ++ t) (es ++ ds)) (sym small)
        (begun (GetKnows (record m { entry = entry; point = Value }) Value r0 r) (
          record {
            reading = searched m.me a r0 w.latched r h.0 w.took f.reads held;
            has = has_read m.me a m.key entry before word w.latched r w.after ds f;
            none = w.none;
            before = w.before;
            bound = w.bound;
            home = f.home;
            passed = f.passed;
            others = f.others;
            trail = w.trail ∙ ap (λ (x : Trail). w.before ++ x) (f.trail ∙ sym (append-nil (found_trail m.me a m.key f.home f.passed entry)));
          },
          f.here,
          f.room,
        ))

  -- ---- the loads

  -- one more word was read
  read_more : (seen u : Trail) → IsAt m.me a m.key m.entry seen r0 rs tr es → ReadsMore rs r → ds ≡ [] → t ≡ u → IsAt m.me a m.key m.entry (seen ++ u) r0 r (tr ++ t) (es ++ ds)
  read_more seen u h more none asked =
      record {
        reading = reads_on m.me a r0 rs r h.reading more.memo more.known more.values held;
        has = read_kept a m.key m.entry rs r (ap (λ (x : Memo). x.latch) more.memo) (ap (λ (x : Memo). x.part) more.memo) more.known more.looked h.has;
        none = ap (λ (x : List Event). x ++ ds) h.none ∙ none;
        before = h.before;
        bound = h.bound;
        home = h.home;
        passed = h.passed;
        others = h.others;
        trail = asked_more h.before (found_trail m.me a m.key h.home h.passed m.entry) seen tr t u h.trail asked;
      }

  -- the value word names a block
  pub value_read : (n : ℕ) → GetKnows (record m { point = Value }) Value r0 rs tr es → ReferenceLoaded m.entry 1 rs n r → ds ≡ [] → Asked (word_ask m.entry 1) (λ x. Answers x) t n → GetKnows (record m { block = n % address_limit; point = Number }) Number r0 r (tr ++ t) (es ++ ds)
  value_read n (h, here, room) left none asked =
      let more = reference_more m.entry 1 rs n r left in
      let reads = reference_reads m.entry 1 rs n r left in
      let next = read_more [] (value_trail m.entry n) h more none (one_pair (word_ask m.entry 1) t n asked) in
      let known : Contains r.known (record { spot = Body m.entry 1; value = n }) = subst (λ (ks : List Stored). Contains ks (record { spot = Body m.entry 1; value = n })) (sym reads.0.known) (learnt_here (Body m.entry 1) n rs.known) in
      let some : n ≢ 0 = entry_value m.me a m.key m.entry n r next.has (idle_of m.me a r0 r next.reading) known h.reading.may.who held in
      let looks = reads.1 some in
      let is : IsIn r AValue n = look_in rs r m.entry 1 n AnEntry (table_of m.me a r0 rs h.reading) reads.0.part here.0 looks in
      let inside : n + 2 < total_of m.me.geometry = value_room m.me r n h.reading.may.who held is in
      let total = total_small m.me.geometry h.reading.may.geometry in
      let small : n % address_limit ≡ n = omega arith in
      subst (λ (b : ℕ). GetKnows (record m { block = b; point = Number }) Number r0 r (tr ++ t) (es ++ ds)) (sym small) (next, look_made rs r (Body m.entry 1) n looks, is, inside)

  -- its number is known
  pub number_read : (n : ℕ) → GetKnows (record m { point = Number }) Number r0 rs tr es → WordLoaded (Body m.block 0) rs n r → ds ≡ [] → Asked (word_ask m.block 0) (λ x. Answers x) t n → GetKnows (record m { number = n; point = Known }) Known r0 r (tr ++ t) (es ++ ds)
  number_read n (h, look, here, room) left none asked =
      let more = word_more (Body m.block 0) rs n r left in
      let next = read_more (value_trail m.entry m.block) (pair (word_ask m.block 0) n ∷ []) h more none (one_pair (word_ask m.block 0) t n asked) in (
        next,
        record {
          has = next.has;
          look = more.looked (record { block = m.block; from = Body m.entry 1 }) look;
          number = subst (λ (ks : List Stored). Contains ks (record { spot = Body m.block 0; value = n })) (sym (ap (λ (x : Memo). x.known) left.left)) (learnt_here (Body m.block 0) n rs.known);
        },
      )

  -- ---- the latch is given back

  pub missing : IsNowhere m.me a m.key r0 rs tr es → Unlatched m.me a rs r t ds → GotNone m.me a m.key r0 r (tr ++ t) (es ++ ds)
  missing h w =
      record {
        visited = visited m.me a r0 rs r t ds h.reading w;
        none = ap (λ (x : List Event). x ++ ds) h.none ∙ w.none;
        before = h.before;
        bound = h.bound;
        walk = h.walk;
        home = h.home;
        first = h.first;
        ends = h.ends;
        trail = ap (λ (x : Trail). x ++ t) h.trail ∙ (append_assoc h.before h.walk t ∙ ap (λ (x : Trail). h.before ++ (h.walk ++ x)) w.trail);
        absent = h.absent;
      }

  known : GetKnows (record m { point = Known }) Known r0 rs tr es → Unlatched m.me a rs r t ds → GotSome m.me a m.key m.number m.block r0 r (tr ++ t) (es ++ ds)
  known (h, told) w =
      record {
        visited = visited m.me a r0 rs r t ds h.reading w;
        none = ap (λ (x : List Event). x ++ ds) h.none ∙ w.none;
        before = h.before;
        bound = h.bound;
        entry = m.entry;
        home = h.home;
        passed = h.passed;
        others = h.others;
        trail = asked_more h.before (found_trail m.me a m.key h.home h.passed m.entry) (number_trail m.entry m.block m.number) tr t (unlatch_trail m.me a) h.trail w.trail;
        q = rs;
        reading = h.reading;
        told = told;
        has = λ own. ap (λ (x : Memo). map_in x.part m.key) (sym h.reading.memo) ∙ told_own m.me a m.key m.entry m.number m.block rs h.reading.may.who h.reading.held told own;
      }

-- ---- the plan

-- what is known before the first call
pub get_begin : (me : Me) (a key : ℕ) (r : Memo) → MayLocate me a r → GetKnows (getting me a key) Search r r [] []
get_begin me a key r may = (may, refl, refl, refl)

pub get_laws : PlanLaws get_parts get_plan
get_laws =
    record {
      stays = λ m b. stays m m.point b;
      calls = λ m. calls m m.point;
      parts = λ m. let first = is_search m.point in
          let word = word_part first m.me (get_ask m m.point) (GetFound m m.point) in
          or_part_laws first locate_control (or_control word_control unlatch_control) (calls_part locate_parts locate_plan) (or_part (get_word_part m m.point) (calls_part word_control unlatch_plan))
          (calls_part_laws locate_parts locate_plan locate_laws first)
          (or_part_laws first word_control unlatch_control (get_word_part m m.point) (calls_part word_control unlatch_plan)
          (asked_part_laws first word_control word (word_part_laws first m.me (get_ask m m.point) (GetFound m m.point)))
          (calls_part_laws word_control unlatch_plan unlatch_laws first));
      opens = λ m. opens m m.point;
      leads = λ m r0 rs r tr t es ds b h g held same. leads m m.point r0 rs r tr t es ds b h g held;
    }
  where
    stays : (m : GetState) (y : GetPoint) (b : GetAnswer) → PlanStays get_parts get_plan (record m { point = y }) b
    stays m y (First (At entry before word)) = record { same_me = refl; same_line = refl; same_start = refl; started = λ e. refl }
    stays m Search (Second (First n)) = record { same_me = refl; same_line = refl; same_start = refl; started = λ e. refl }
    stays m y (Second (Second done)) = record { same_me = refl; same_line = refl; same_start = refl; started = λ e. absurd (cc) }
    stays m _ _ = record { same_me = refl; same_line = refl; same_start = refl; started = λ e. refl }

    calls : (m : GetState) (y : GetPoint) → IsCall get_parts get_plan (record m { point = y })
    calls m Search = record { me = refl; asks = refl }
    calls m _ = record { me = refl; asks = refl }

    opens : (m : GetState) (y : GetPoint) (r0 r : Memo) (tr : Trail) (es : List Event) → GetKnows (record m { point = y }) y r0 r tr es → (get_part (record m { point = y }) y).needs (get_call m y) r
    opens m Search r0 r tr es h = record { made = refl; first = refl; start = refl; knows = locate_begin m.me m.author m.key r (subst (MayLocate m.me m.author) (sym h.1) h.0) }
    opens m Value r0 r tr es (h, here, room) =
        reference_load false m.me r h.reading.may.who m.entry 1 (omega arith, omega arith) (entry_latched m.me.geometry.wide m.me.who m.author r m.entry 1 (latch_of m.me m.author r0 r h.reading) here (omega arith)) (idle_settled r (Body m.entry 1) (idle_of m.me m.author r0 r h.reading))
    opens m Number r0 r tr es (h, look, here, room) =
        plain_load false m.me r h.reading.may.who m.block 0 (omega arith, omega arith) (value_plain m.me.geometry.wide m.me.who r m.block here) (idle_settled r (Body m.block 0) (idle_of m.me m.author r0 r h.reading))
    opens m Missing r0 r tr es h = record { made = refl; first = refl; start = refl; knows = unlatch_begin m.me m.author r (may_unlatch m.me m.author r0 r h.reading) }
    opens m Known r0 r tr es h = record { made = refl; first = refl; start = refl; knows = unlatch_begin m.me m.author r (may_unlatch m.me m.author r0 r h.0.reading) }

    leads : (m : GetState) (y : GetPoint) (r0 rs r : Memo) (tr t : Trail) (es ds : List Event) (b : GetAnswer) → GetKnows (record m { point = y }) y r0 rs tr es → (get_part (record m { point = y }) y).leaves (get_call m y) rs r t ds b → IsHeld m.me r
        → Follows get_parts get_plan (record m { point = y }) b r0 r (tr ++ t) (es ++ ds)
    leads m Search r0 rs r tr t es ds (First (Absent home first)) h g held = nowhere m r0 rs r tr t es ds held h home first g
    leads m Search r0 rs r tr t es ds (First (At entry before word)) h g held = at_entry m r0 rs r tr t es ds held h entry before word g
    leads m Value r0 rs r tr t es ds (Second (First n)) h g held = value_read m r0 rs r tr t es ds held n h g.0.found g.0.none g.1
    leads m Number r0 rs r tr t es ds (Second (First n)) h g held = number_read m r0 rs r tr t es ds held n h g.0.found g.0.none g.1
    leads m Missing r0 rs r tr t es ds (Second (Second done)) h g held = missing m r0 rs r tr t es ds held h g
    leads m Known r0 rs r tr t es ds (Second (Second done)) h g held = known m r0 rs r tr t es ds held h g
    leads m _ r0 rs r tr t es ds _ h g held = absurd g
