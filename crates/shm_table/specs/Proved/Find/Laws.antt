-- what is owed of looking for a key
use Rattle.std.proofs.Common.{◌≡◌, ◌≢◌, ℕ, ◌+◌, ◌%◌, ◌<◌, refl, sym, ap, ◌∙◌, subst, arith, true, false, eqb, append_assoc, List, [], ◌∷◌, ◌++◌, inl, inr}
use Rattle.std.proofs.lemmas.Bool.{cases_eq, cond-false, cond-true, eq-eqb, ne_eqb}
use Rattle.std.proofs.lemmas.List.Elements.{Contains-append_left, All-append, All-cons, All-nil}
use Rattle.std.specs.{Prelude.{None, Some, ◌==◌, if◌then◌else◌}, List.Contains}
use Rattle.shm_words.specs.Layout.{total_of, address_limit}
use Rattle.shm_words.proofs.Placing.{total_small}
use Rattle.shm_graph.specs.declared.{ask.Me.Me, memo.{Memo.Memo, Op.TheVariants.Nothing}, spot.Spot.Spot}
use Rattle.shm_graph.specs.{declared.{spot.Spot.TheVariants.{Home, Body}, table.Entry.Entry}, Asks.{Trail, pair}}
use Rattle.shm_graph.specs.{Core.core, Events.Event, Held.is_loose, Laws.Outcome, Ops.cover_of}
use Rattle.shm_graph.specs.{Telling.{Directory, Entry as AnEntry, role_in, roles}, Views.own_word}
use Rattle.plans.specs.{Parts.IsHeld, Plans.{PlanLaws, PlanStays, Follows}}
use Rattle.plans.specs.Words.{word_control, word_part, word_part_laws}
use Rattle.kind_parts.specs.{Reparting.{sight, chain_in, map_in, IsKnown}, Walking.{IsIn, IsSeeking, IsVacant, Reads}}
use Rattle.kind_parts.proofs.Partitions.{Seeking.{learnt_here, seek_end, seek_first}, Walked.walk_nowhere}
use Rattle.kind_parts.proofs.Words.{Blocks.{idle_settled, reference_load}, Shared.home_look}
use Rattle.shm_ref.specs.Proved.AskedParts.{asked_part_laws}
use Rattle.shm_table.specs.declared.find.{FindPoint.FindPoint, FindState.FindState, Found.Found}
use Rattle.shm_table.specs.declared.find.Found.TheVariants.{Absent, At}
use Rattle.shm_table.specs.Proved.EntryReads.{entry_load, key_load, reference_reads}
use Rattle.shm_table.specs.Proved.Find.SearchLoads.{chain_kept, chain_more, look_made, at_entry, begin_more, by_block, directory_latched, directory_room, directory_values, entry_latched, entry_plain, entry_room, home_in, led_more, look_in, next_values, one_more, reads_by, reads_more, reference_only, stays_in, walk_more, word_only}
use Rattle.shm_table.specs.Find.Control.{Passed, begin_of, find_ask, find_call, find_goes, finding, home_ask, is_home, walk_trail, word_ask}
use Rattle.shm_table.specs.Find.{AreOthers, FindFinds, FindKnows, FindLeaves, IsAtBucket, MayFind, OnlyReads, find_part, find_plan}
use Rattle.shm_table.specs.declared.find.FindPoint.TheVariants as point

-- ---- the plan

-- what was done so far leaves what a load needs
latch_of : (me : Me) (a : ℕ) (r0 r : Memo) → MayFind me a r0 → OnlyReads r0 r → r.latch ≡ Some a
latch_of me a r0 r may reads = ap (λ (x : Memo). x.latch) reads.memo ∙ may.latch

idle_of : (me : Me) (a : ℕ) (r0 r : Memo) → MayFind me a r0 → OnlyReads r0 r → r.op ≡ Nothing
idle_of me a r0 r may reads = ap (λ (x : Memo). x.op) reads.memo ∙ may.idle

table_of : (me : Me) (a : ℕ) (r0 r : Memo) → MayFind me a r0 → OnlyReads r0 r → is_loose r.part ≡ false
table_of me a r0 r may reads = ap (λ (x : Memo). is_loose x.part) reads.memo ∙ may.table

home_same : (c : ℕ) (r x : Memo) → OnlyReads r x → own_word x.own (Home c) ≡ own_word r.own (Home c)
home_same c r x reads = ap (λ (y : Memo). own_word y.own (Home c)) reads.memo

opens : (m : FindState) (y : FindPoint) (r0 r : Memo) (tr : Trail) (es : List Event) → FindKnows (record m { point = y }) y r0 r tr es → (find_part (record m { point = y }) y).needs (find_call m y) r
opens m point.Home r0 r tr es h = home_look true m.me r h.0.who m.author h.0.author (ap (λ (x : Memo). x.latch) h.1 ∙ h.0.latch)
opens m point.Bucket r0 r tr es h =
    let room = h.room in
    reference_load false m.me r h.may.who m.home (m.key % 16) (omega arith, omega arith) (directory_latched m.me.geometry.wide m.me.who m.author r m.home (m.key % 16) (latch_of m.me m.author r0 r h.may h.reads) h.here (omega arith))
    (idle_settled r (Body m.home (m.key % 16)) (idle_of m.me m.author r0 r h.may h.reads))
opens m point.Key r0 r tr es k =
    let h = k.1 in
    let room = h.room in
    key_load m.me r h.may.who (idle_of m.me m.author r0 r h.may h.reads) m.key m.entry false (omega arith, omega arith) (entry_plain m.me.geometry.wide m.me.who r m.entry h.here)
opens m point.Next r0 r tr es k =
    let h = k.2 in
    let room = h.room in
    entry_load m.me r h.may.who (idle_of m.me m.author r0 r h.may h.reads) m.key m.entry false 0 (omega arith) (omega arith, omega arith)
    (entry_latched m.me.geometry.wide m.me.who m.author r m.entry 0 (latch_of m.me m.author r0 r h.may h.reads) h.here (omega arith))

-- ---- walks, by a held state

-- an own home that is 0 leads nowhere
nowhere : (me : Me) (r : Memo) (key : ℕ) → me.who < me.geometry.clients → IsHeld me r → r.op ≡ Nothing → is_loose r.part ≡ false → own_word r.own (Home me.who) ≡ 0 → map_in r.part key ≡ None
nowhere me r key l (w, rs, h, same) =
    subst (λ (x : Memo). x.op ≡ Nothing → is_loose x.part ≡ false → own_word x.own (Home me.who) ≡ 0 → map_in x.part key ≡ None) same
    (λ idle table own. walk_nowhere me.geometry w rs me.who h l (ap cover_of idle) table key own)

-- a walk came to its end
ended : (me : Me) (r : Memo) (key first : ℕ) (p : Spot) (xs left : List Entry) → me.who < me.geometry.clients → IsHeld me r → r.op ≡ Nothing → IsSeeking me.who r key first p 0 xs left → IsVacant me.who r key first
ended me r key first p xs left l (w, rs, h, same) =
    subst (λ (x : Memo). x.op ≡ Nothing → IsSeeking me.who x key first p 0 xs left → IsVacant me.who x key first) same (λ idle seeks. seek_end me.geometry w rs me.who h l key first p xs left idle seeks)

-- the bucket's word of the own directory was read: a walk begins
begun : (me : Me) (m r : Memo) (home key n : ℕ) → me.who < me.geometry.clients → IsHeld me r → m.op ≡ Nothing → m.latch ≡ Some me.who → is_loose m.part ≡ false → own_word m.own (Home me.who) ≡ home → home ≢ 0 → role_in (roles m) home ≡ Directory
    → Reads m r home (key % 16) n → (n ≢ 0 → r.looks ≡ m.looks ++ record { block = n; from = Body home (key % 16) } ∷ []) → IsSeeking me.who r key n (Body home (key % 16)) n [] (chain_in r.part (key % 16))
begun me m r home key n l (w, rs, h, same) idle latch table own =
    subst
    (λ d. d ≢ 0 → role_in (roles m) d ≡ Directory → Reads m r d (key % 16) n → (n ≢ 0 → r.looks ≡ m.looks ++ record { block = n; from = Body d (key % 16) } ∷ []) → IsSeeking me.who r key n (Body d (key % 16)) n [] (chain_in r.part (key % 16))) own
    (subst
    (λ (x : Memo). own_word m.own (Home me.who) ≢ 0 → role_in (roles m) (own_word m.own (Home me.who)) ≡ Directory → Reads m x (own_word m.own (Home me.who)) (key % 16) n
    → (n ≢ 0 → x.looks ≡ m.looks ++ record { block = n; from = Body (own_word m.own (Home me.who)) (key % 16) } ∷ [])
    → IsSeeking me.who x key n (Body (own_word m.own (Home me.who)) (key % 16)) n [] (chain_in x.part (key % 16))) same
    (λ some role reads look. seek_first me.geometry w rs me.who h l m key n idle latch table some role reads look))

-- ---- what follows each word step

-- what a word step left, and what it asked
abbrev Leaves : FindState → FindPoint → Memo → Memo → Trail → List Event → ℕ → Type 0
Leaves m y = (find_part (record m { point = y }) y).leaves (find_call m y)

abbrev Goes : FindState → FindPoint → ℕ → Memo → Memo → Trail → List Event → Type 0
Goes m y b r0 r tr es = FindKnows (find_goes m y b) (find_goes m y b).point r0 r tr es

module _ (m : FindState) (r0 rs r : Memo) (tr t : Trail) (es ds : List Event) (n : ℕ) (held : IsHeld m.me r) where
  abbrev c : ℕ
  c = m.me.who

  abbrev a : ℕ
  a = m.author

  abbrev home_m : FindState
  home_m = record m { point = point.Home }

  abbrev L : Found → Type 0
  L = FindLeaves (finding m.me m.author m.key) r0 r (tr ++ t) (es ++ ds)

  -- ---- the home was read

  module _ (h : FindKnows (record m { point = point.Home }) point.Home r0 rs tr es) (w : Leaves m point.Home rs r t ds n) where
    from_home : OnlyReads rs r → OnlyReads r0 r
    from_home reads = subst (λ (x : Memo). OnlyReads x r) h.1 reads

    own_home : OnlyReads rs r → a ≡ c → own_word r.own (Home c) ≡ n
    own_home reads q = home_same c rs r reads ∙ (ap (λ d. own_word rs.own (Home d)) (sym q) ∙ sym (w.0.found.found q))

    no_home : n ≡ 0 → L (Absent 0 0)
    no_home e =
        let here : OnlyReads rs r = reads_by rs r rs.looks rs.known (w.0.found.left ∙ ap core {y = rs} (cond-true (eqb n 0) _ _ (eq-eqb n 0 e))) (λ s k. k) (λ s k. k) in
        let reads : OnlyReads r0 r = from_home here in
        record {
          reads = reads;
          none = ap (λ (x : List Event). x ++ ds) h.3 ∙ w.0.none;
          ends = inl (refl, refl, one_more (home_ask m.me a) n 0 tr [] t h.2 e w.1);
          directory = λ q. own_home here q ∙ e;
          absent = λ q. nowhere m.me r m.key h.0.who held (idle_of m.me a r0 r h.0 reads) (table_of m.me a r0 r h.0 reads) (own_home here q ∙ e);
          vacant = λ q some. absurd (some refl);
        }

    some_home : n ≢ 0 → Goes (record m { point = point.Home }) point.Home n r0 r (tr ++ t) (es ++ ds) × (n < address_limit)
    some_home some =
        let left : core r ≡ core (record rs { looks = rs.looks ++ record { block = n; from = Home a } ∷ [] }) =
        w.0.found.left ∙ ap core {y = record rs { looks = rs.looks ++ record { block = n; from = Home a } ∷ [] }} (cond-false (eqb n 0) _ _ (ne_eqb n 0 some)) in
        let here : OnlyReads rs r = reads_by rs r (rs.looks ++ record { block = n; from = Home a } ∷ []) rs.known left (λ s k. k) (λ k q. Contains-append_left rs.looks (record { block = n; from = Home a } ∷ []) k q) in
        let reads : OnlyReads r0 r = from_home here in
        let is : IsIn r Directory n = home_in rs r a n (ap (λ (y : Memo). y.looks) left) (table_of m.me a r0 r h.0 reads) in
        let room : n + 17 < total_of m.me.geometry = directory_room m.me r n h.0.who held is in
        let total = total_small m.me.geometry h.0.geometry in (
          record {
            may = h.0;
            reads = reads;
            none = ap (λ (x : List Event). x ++ ds) h.3 ∙ w.0.none;
            some = some;
            here = is;
            look = look_made rs r (Home a) n (ap (λ (y : Memo). y.looks) left);
            room = room;
            own = own_home here;
            trail = one_more (home_ask m.me a) n n tr [] t h.2 refl w.1;
          },
          omega arith,
        )

  -- ---- the bucket's word was read

  module _ (h : IsAtBucket (record m { point = point.Bucket }) r0 rs tr es) (w : Leaves m point.Bucket rs r t ds n) where
    here_bucket : OnlyReads rs r
    here_bucket = reference_only m.home (m.key % 16) rs n r w.0.found (directory_values rs m.home (m.key % 16) n h.here.0)

    bucket_reads : OnlyReads r0 r
    bucket_reads = reads_more r0 rs r h.reads here_bucket

    bucket_own : a ≡ c → own_word r.own (Home c) ≡ m.home
    bucket_own q = home_same c rs r here_bucket ∙ h.own q

    bucket_walk : a ≡ c → IsSeeking c r m.key n (Body m.home (m.key % 16)) n [] (chain_in r.part (m.key % 16))
    bucket_walk q =
        let u = reference_reads m.home (m.key % 16) rs n r w.0.found in
        begun m.me rs r m.home m.key n h.may.who held (idle_of m.me a r0 rs h.may h.reads) (latch_of m.me a r0 rs h.may h.reads ∙ ap Some q) (table_of m.me a r0 rs h.may h.reads) (h.own q) h.some h.here.0 u.0 u.1

    no_first : n ≡ 0 → L (Absent m.home 0)
    no_first e =
        let vacant : a ≡ c → IsVacant c r m.key 0 = λ q. ended m.me r m.key 0 (Body m.home (m.key % 16)) [] (chain_in r.part (m.key % 16)) h.may.who held (idle_of m.me a r0 r h.may bucket_reads) (subst (λ b. IsSeeking c r m.key b (Body m.home (m.key % 16)) b [] (chain_in r.part (m.key % 16))) e (bucket_walk q)) in
        record {
          reads = bucket_reads;
          none = ap (λ (x : List Event). x ++ ds) h.none ∙ w.0.none;
          ends = inr (h.some, ([], All-nil (λ (p : Passed). p.key ≢ m.key), refl, one_more (word_ask m.home (m.key % 16)) n 0 tr (pair (home_ask m.me a) m.home ∷ []) t h.trail e w.1));
          directory = bucket_own;
          absent = λ q. (vacant q).absent;
          vacant = λ q some. vacant q;
        }

    some_first : n ≢ 0 → Goes (record m { point = point.Bucket }) point.Bucket n r0 r (tr ++ t) (es ++ ds) × (n < address_limit)
    some_first some =
        let u = reference_reads m.home (m.key % 16) rs n r w.0.found in
        let is : IsIn r AnEntry n = look_in rs r m.home (m.key % 16) n Directory (table_of m.me a r0 rs h.may h.reads) u.0.part h.here.0 (u.1 some) in
        let room : n + 4 < total_of m.me.geometry = entry_room m.me r n h.may.who held is in
        let total = total_small m.me.geometry h.may.geometry in (
          (
            [],
            record {
              may = h.may;
              reads = bucket_reads;
              none = ap (λ (x : List Event). x ++ ds) h.none ∙ w.0.none;
              directory = h.some;
              some = some;
              here = is;
              look = here_bucket.looked (record { block = m.home; from = Home a }) h.look;
              chain = look_made rs r (Body m.home (m.key % 16)) n (u.1 some);
              room = room;
              others = All-nil (λ (p : Passed). p.key ≢ m.key);
              first = refl;
              led = refl;
              own = bucket_own;
            },
            one_more (word_ask m.home (m.key % 16)) n n tr (pair (home_ask m.me a) m.home ∷ []) t h.trail refl w.1,
            λ q. let k = at_entry c r m.key n (Body m.home (m.key % 16)) n [] (chain_in r.part (m.key % 16)) some (bucket_walk q) in ([], k.0, k.1, k.2),
          ),
          omega arith,
        )

  -- ---- a key word was read

  module _ (k : FindKnows (record m { point = point.Key }) point.Key r0 rs tr es) (w : Leaves m point.Key rs r t ds n) where
    here_key : OnlyReads rs r
    here_key = word_only (Body m.entry 2) rs n r w.0.found.0

    key_reads : OnlyReads r0 r
    key_reads = reads_more r0 rs r k.1.reads here_key

    key_in : IsIn r AnEntry m.entry
    key_in = stays_in rs r AnEntry m.entry (ap (λ (y : Memo). y.looks) w.0.found.0.left) (ap (λ (y : Memo). y.part) w.0.found.0.left) k.1.here

    key_known : IsKnown (sight c r) (Body m.entry 2) n
    key_known = subst (λ ks. Contains ks (record { spot = Body m.entry 2; value = n })) (sym (ap (λ (y : Memo). y.known) w.0.found.0.left)) (learnt_here (Body m.entry 2) n rs.known)

    key_trail : (x : ℕ) → n ≡ x → tr ++ t ≡ walk_trail m.me a m.key m.home k.0 m.entry ++ pair (word_ask m.entry 2) x ∷ []
    key_trail x e = one_more (word_ask m.entry 2) n x tr (walk_trail m.me a m.key m.home k.0 m.entry) t k.2 e w.1

    key_found : n ≡ m.key → L (At m.entry m.before m.word)
    key_found e =
        let h = k.1 in
        record {
          reads = key_reads;
          none = ap (λ (x : List Event). x ++ ds) h.none ∙ w.0.none;
          home = m.home;
          passed = k.0;
          directory = h.directory;
          others = h.others;
          led = h.led;
          trail = key_trail m.key e;
          some = h.some;
          latch = latch_of m.me a r0 r h.may key_reads;
          table = table_of m.me a r0 r h.may key_reads;
          here = key_in;
          look = here_key.looked (record { block = m.home; from = Home a }) h.look;
          chain = chain_kept rs r m.home (m.key % 16) k.0 m.entry here_key.known here_key.looked h.chain;
          room = h.room;
          known = subst (λ x. IsKnown (sight c r) (Body m.entry 2) x) e key_known;
          own = λ q. let o = k.3 q in let u = w.0.found.1 m.first (Body m.before m.word) o.0 o.1 o.2 o.3 in (m.first, o.0, o.1, o.2, u.kept, u.key_is refl ∙ e);
        }

    key_other : n ≢ m.key → Goes (record m { point = point.Key }) point.Key 0 r0 r (tr ++ t) (es ++ ds)
    key_other other =
        let h = k.1 in (
          k.0,
          n,
          record {
            may = h.may;
            reads = key_reads;
            none = ap (λ (x : List Event). x ++ ds) h.none ∙ w.0.none;
            directory = h.directory;
            some = h.some;
            here = key_in;
            look = here_key.looked (record { block = m.home; from = Home a }) h.look;
            chain = chain_kept rs r m.home (m.key % 16) k.0 m.entry here_key.known here_key.looked h.chain;
            room = h.room;
            others = h.others;
            first = h.first;
            led = h.led;
            own = λ q. home_same c rs r here_key ∙ h.own q;
          },
          other,
          key_known,
          key_trail n refl,
          λ q. let o = k.3 q in let u = w.0.found.1 m.first (Body m.before m.word) o.0 o.1 o.2 o.3 in (o.0, o.1, o.2, u.kept, λ z. other (sym (u.key_is refl) ∙ z)),
        )

  -- ---- a next word was read

  module _ (k : FindKnows (record m { point = point.Next }) point.Next r0 rs tr es) (w : Leaves m point.Next rs r t ds n) where
    here_next : OnlyReads rs r
    here_next = reference_only m.entry 0 rs n r w.0.found.0 (next_values rs m.entry n k.2.here.0)

    next_reads : OnlyReads r0 r
    next_reads = reads_more r0 rs r k.2.reads here_next

    abbrev all : List Passed
    all = k.0 ++ record { block = m.entry; key = k.1 } ∷ []

    all_others : AreOthers m.key all
    all_others = All-append (λ (p : Passed). p.key ≢ m.key) k.0 (record { block = m.entry; key = k.1 } ∷ []) k.2.others (All-cons (λ (p : Passed). p.key ≢ m.key) (record { block = m.entry; key = k.1 }) [] k.3 (All-nil (λ (p : Passed). p.key ≢ m.key)))

    next_own : a ≡ c → own_word r.own (Home c) ≡ m.home
    next_own q = home_same c rs r here_next ∙ k.2.own q

    first_of : (x : ℕ) → m.first ≡ begin_of all x
    first_of x = k.2.first ∙ sym (begin_more k.0 (record { block = m.entry; key = k.1 }) x)

    next_trail : (x : ℕ) → n ≡ x → tr ++ t ≡ walk_trail m.me a m.key m.home all x
    next_trail x e =
        let walk : Trail = walk_trail m.me a m.key m.home k.0 m.entry in
        one_more (word_ask m.entry 0) n x tr (walk ++ pair (word_ask m.entry 2) k.1 ∷ []) t k.5 e w.1
        ∙ (append_assoc walk (pair (word_ask m.entry 2) k.1 ∷ []) (pair (word_ask m.entry 0) x ∷ [])
        ∙ sym (walk_more m.me a m.key m.home k.0 (record { block = m.entry; key = k.1 }) x))

    next_walk : a ≡ c → (xs : List Entry) × (ys : List Entry) × IsSeeking c r m.key m.first (Body m.entry 0) n xs ys
    next_walk q = let o = k.6 q in (o.0 ++ o.1 ∷ [], o.2, (w.0.found.1 m.first (Body m.before m.word) o.0 o.1 o.2 o.3).next refl o.4)

    no_next : n ≡ 0 → L (Absent m.home m.first)
    no_next e =
        let vacant : a ≡ c → IsVacant c r m.key m.first = λ q. let o = next_walk q in ended m.me r m.key m.first (Body m.entry 0) o.0 o.1 k.2.may.who held (idle_of m.me a r0 r k.2.may next_reads) (subst (λ b. IsSeeking c r m.key m.first (Body m.entry 0) b o.0 o.1) e o.2) in
        record {
          reads = next_reads;
          none = ap (λ (x : List Event). x ++ ds) k.2.none ∙ w.0.none;
          ends = inr (k.2.directory, (all, all_others, first_of 0, next_trail 0 e));
          directory = next_own;
          absent = λ q. (vacant q).absent;
          vacant = λ q some. vacant q;
        }

    some_next : n ≢ 0 → Goes (record m { point = point.Next }) point.Next n r0 r (tr ++ t) (es ++ ds) × (n < address_limit)
    some_next some =
        let h = k.2 in
        let u = reference_reads m.entry 0 rs n r w.0.found.0 in
        let is : IsIn r AnEntry n = look_in rs r m.entry 0 n AnEntry (table_of m.me a r0 rs h.may h.reads) u.0.part h.here.0 (u.1 some) in
        let room : n + 4 < total_of m.me.geometry = entry_room m.me r n h.may.who held is in
        let total = total_small m.me.geometry h.may.geometry in (
          (
            all,
            record {
              may = h.may;
              reads = next_reads;
              none = ap (λ (x : List Event). x ++ ds) h.none ∙ w.0.none;
              directory = h.directory;
              some = some;
              here = is;
              look = here_next.looked (record { block = m.home; from = Home a }) h.look;
              chain = chain_more r m.home (m.key % 16) k.0 (record { block = m.entry; key = k.1 }) n (chain_kept rs r m.home (m.key % 16) k.0 m.entry here_next.known here_next.looked h.chain) (here_next.known (record { spot = Body m.entry 2; value = k.1 }) k.4)
                  (look_made rs r (Body m.entry 0) n (u.1 some));
              room = room;
              others = all_others;
              first = first_of n;
              led = sym (led_more m.home (m.key % 16) k.0 (record { block = m.entry; key = k.1 }));
              own = next_own;
            },
            next_trail n refl,
            λ q. let o = next_walk q in let e = at_entry c r m.key m.first (Body m.entry 0) n o.0 o.1 some o.2 in (o.0, e.0, e.1, e.2),
          ),
          omega arith,
        )

-- by whether the key that was read is the one
by_key : (n key : ℕ) (b : Found) (K : Type 0) (L : Found → Type 0) → (n ≢ key → K) → (n ≡ key → L b) → Outcome (if n == key then Some b else None) K L
by_key n key b K L other found =
    elim (cases_eq n key) [
      | inl e ↦ subst (λ q. Outcome (if q then Some b else None) K L) (sym (eq-eqb n key e)) (found e)
      | inr s ↦ subst (λ q. Outcome (if q then Some b else None) K L) (sym (ne_eqb n key s)) (other s)
    ]

-- what is known before the first word step
pub find_begin : (me : Me) (a key : ℕ) (r : Memo) → MayFind me a r → FindKnows (finding me a key) point.Home r r [] []
find_begin me a key r may = (may, refl, refl, refl)

pub find_laws : PlanLaws word_control find_plan
find_laws =
    record {
      stays = λ m n. stays m m.point n;
      calls = λ m. record { me = refl; asks = refl };
      parts = λ m. let part = word_part (is_home m.point) m.me (find_ask m m.point) (FindFinds m m.point) in
          asked_part_laws (is_home m.point) word_control part (word_part_laws (is_home m.point) m.me (find_ask m m.point) (FindFinds m m.point));
      opens = λ m. opens m m.point;
      leads = λ m r0 rs r tr t es ds n h w held same. leads m m.point r0 rs r tr t es ds n h w held;
    }
  where
    stays : (m : FindState) (y : FindPoint) (n : ℕ) → PlanStays word_control find_plan (record m { point = y }) n
    stays m point.Home n = record { same_me = refl; same_line = refl; same_start = refl; started = λ e. refl }
    stays m _ n = record { same_me = refl; same_line = refl; same_start = refl; started = λ e. refl }

    leads : (m : FindState) (y : FindPoint) (r0 rs r : Memo) (tr t : Trail) (es ds : List Event) (n : ℕ) → FindKnows (record m { point = y }) y r0 rs tr es → Leaves m y rs r t ds n → IsHeld m.me r
        → Follows word_control find_plan (record m { point = y }) n r0 r (tr ++ t) (es ++ ds)
    leads m point.Home r0 rs r tr t es ds n h w held =
        by_block n (Absent 0 0) (λ b. Goes (record m { point = point.Home }) point.Home b r0 r (tr ++ t) (es ++ ds)) (FindLeaves (finding m.me m.author m.key) r0 r (tr ++ t) (es ++ ds))
        (some_home m r0 rs r tr t es ds n held h w) (no_home m r0 rs r tr t es ds n held h w)
    leads m point.Bucket r0 rs r tr t es ds n h w held =
        by_block n (Absent m.home 0) (λ b. Goes (record m { point = point.Bucket }) point.Bucket b r0 r (tr ++ t) (es ++ ds)) (FindLeaves (finding m.me m.author m.key) r0 r (tr ++ t) (es ++ ds))
        (some_first m r0 rs r tr t es ds n held h w) (no_first m r0 rs r tr t es ds n held h w)
    leads m point.Key r0 rs r tr t es ds n h w held =
        by_key n m.key (At m.entry m.before m.word) (Goes (record m { point = point.Key }) point.Key 0 r0 r (tr ++ t) (es ++ ds)) (FindLeaves (finding m.me m.author m.key) r0 r (tr ++ t) (es ++ ds))
        (key_other m r0 rs r tr t es ds n held h w) (key_found m r0 rs r tr t es ds n held h w)
    leads m point.Next r0 rs r tr t es ds n h w held =
        by_block n (Absent m.home m.first) (λ b. Goes (record m { point = point.Next }) point.Next b r0 r (tr ++ t) (es ++ ds)) (FindLeaves (finding m.me m.author m.key) r0 r (tr ++ t) (es ++ ds))
        (some_next m r0 rs r tr t es ds n held h w) (no_next m r0 rs r tr t es ds n held h w)
