-- what a walk found is carried over the steps up that make a new entry, until the step that links it may begin
use Rattle.std.proofs.Common.{◌≡◌, ◌≢◌, ℕ, ◌%◌, ◌<◌, refl, sym, ap, ◌∙◌, subst, arith, true, false, eqb, if◌then◌else◌, List, [], map}
use Rattle.std.specs.List.{Contains, list_any}
use Rattle.shm_graph.specs.{declared.{ask.Me.Me, spot.Spot.Spot, memo.{Look.Look, Memo.Memo}}, Agents.recovers}
use Rattle.shm_graph.specs.{Held.{HeldAt, is_loose}, Ops.cover_of, Reach.{learnt, is_reached}, Spots.spot_address}
use Rattle.shm_graph.specs.{Telling.{role_in, roles_from}, Views.{view, own_word}}
use Rattle.shm_graph.specs.declared.spot.Spot.TheVariants as spot
use Rattle.shm_graph.specs.declared.memo.Op.TheVariants as op
use Rattle.kind_parts.specs.{Beginning.IsOwnWord, Conditions.IsHere}
use Rattle.kind_parts.specs.Reparting.{sight, map_in, IsKnown, IsTagged, IsNew, IsValue, TableStep}
use Rattle.kind_parts.specs.{Reparting.TableStep.{Prepares, Links}, Walking.{IsVacant, IsComing}}
use Rattle.kind_parts.proofs.{BeginAt.SlotHas, BeginWords.own_word_has, PartsSet.loose_stays}
use Rattle.kind_parts.proofs.{Reaching.{look_reached, home_reached, root_reached}, Partitions.Reparted.table_mapped}
use Rattle.kind_parts.proofs.Partitions.Words.{directory_word, tagged_word}
use Rattle.kind_parts.proofs.Partitions.Walked.{new_not_home, new_not_value, first_other}
use Rattle.kind_parts.proofs.Partitions.Seeking.{learnt_here, learnt_other, words_apart}
use Rattle.shm_count.specs.{declared.point.Aim.TheVariants.{Up, Change}, Step.{CanStep, Parts.{Raised, part_after}}}
use Rattle.shm_count.specs.Proved.TableSteps.{can_fill, can_replace}

-- ---- what a walk found stays so

-- what a step leaves of it: no latch, look or home changed, the words of the directory that are known, and what the map has at the key
pub record Carries (c key : ℕ) (m m' : Memo) : Type 0 where
  pub latch : m'.latch ≡ m.latch
  pub looks : m'.looks ≡ m.looks
  pub loose : is_loose m'.part ≡ is_loose m.part
  pub home : own_word m'.own (spot.Home c) ≡ own_word m.own (spot.Home c)
  pub map : map_in m'.part key ≡ map_in m.part key
  pub word : (i x : ℕ) → IsKnown (sight c m) (spot.Body (own_word m.own (spot.Home c)) i) x → IsKnown (sight c m') (spot.Body (own_word m.own (spot.Home c)) i) x

pub vacant_carried : (c key first : ℕ) (m m' : Memo) → Carries c key m m' → IsVacant c m key first → IsVacant c m' key first
vacant_carried c key first m m' k a =
    record {
      latch = k.latch ∙ a.latch;
      table = k.loose ∙ a.table;
      some = λ e. a.some (sym k.home ∙ e);
      role = ap (λ (ls : List Look). role_in (if is_loose m'.part then [] else roles_from [] ls) (own_word m'.own (spot.Home c))) k.looks
          ∙ (ap (λ b. role_in (if b then [] else roles_from [] m.looks) (own_word m'.own (spot.Home c))) k.loose
          ∙ (ap (λ d. role_in (if is_loose m.part then [] else roles_from [] m.looks) d) k.home ∙ a.role));
      absent = k.map ∙ a.absent;
      word = subst (λ d. IsKnown (sight c m') (spot.Body d (key % 16)) first) (sym k.home) (k.word (key % 16) first a.word);
      next = λ n. ap (λ (ls : List Look). list_any (eqb first) (map (λ (j : Look). j.block) ls)) k.looks ∙ a.next n;
    }

module _ (me : Me) (w : Spot → ℕ) (r : ℕ → Memo) (held : HeldAt me.geometry w (view r)) (who : me.who < me.geometry.clients) (here : IsHere (r me.who)) (idle : (r me.who).op ≡ op.Nothing) (client : recovers (r me.who) ≡ false) (key first : ℕ) (vacant : IsVacant me.who (r me.who) key first) where
  abbrev c : ℕ
  c = me.who

  abbrev m : Memo
  m = r me.who

  abbrev home : ℕ
  home = own_word (r me.who).own (spot.Home me.who)

  -- ---- the words of the new entry

  module _ (k b next value : ℕ) (coming : IsComing me.geometry.wide me.who (r me.who) k b key next value) where
    reached : is_reached me.who (r me.who) b ≡ true
    reached = root_reached me.who (r me.who) b k coming.root.0 idle coming.root.1 coming.root.2

    word : (i x : ℕ) → i < 2 → IsKnown (sight me.who (r me.who)) (spot.Body b i) x → IsOwnWord me.geometry.wide me.who (r me.who) b i x
    word i x low known = tagged_word me.geometry.wide me.who (r me.who) b 2 1 i x vacant.latch coming.entry.tagged reached low known

    -- its value word may be filled, and its next word
    pub value_fills : (v : ℕ) → value ≡ 0 → is_reached me.who (r me.who) v ≡ true → CanStep me (spot_address me.geometry (spot.Body b 1)) (Up v) (spot.Body b 1) (r me.who)
    value_fills v none reach =
        can_fill me w r held who here idle b 1 v client (word 1 0 (omega arith) (subst (IsKnown (sight me.who (r me.who)) (spot.Body b 1)) none coming.value_is)) reach
        (Prepares b 1 key refl coming.entry)

    pub next_fills : next ≡ 0 → first ≢ 0 → CanStep me (spot_address me.geometry (spot.Body b 0)) (Up first) (spot.Body b 0) (r me.who)
    next_fills none some =
        can_fill me w r held who here idle b 0 first client (word 0 0 (omega arith) (subst (IsKnown (sight me.who (r me.who)) (spot.Body b 0)) none coming.next_is))
        (look_reached me.who (r me.who) first (vacant.next some))
        (Prepares b 0 key refl coming.entry)

    -- a step up at one of them, where the word is empty, carries what the walk found
    pub raised_carries : (i x : ℕ) (m' : Memo) → i < 2 → x ≢ 0 → IsKnown (sight me.who (r me.who)) (spot.Body b i) 0 → Raised me.who (spot.Body b i) x (r me.who) m' → Carries me.who key (r me.who) m'
    raised_carries i x m' low some known a =
        let p : Spot = spot.Body b i in
        let has : SlotHas me.geometry w r me.who p 0 = own_word_has me.geometry w r me.who held who b i 0 (word i 0 low known) in
        let off : b ≢ home = new_not_home me.geometry w r me.who held who (ap cover_of idle) vacant.table b key coming.entry in
        let part : m'.part ≡ part_after me.who (sight me.who (r me.who)) p x = ap (λ (u : Memo). u.part) a.rest in
        record {
          latch = ap (λ (u : Memo). u.latch) a.rest;
          looks = ap (λ (u : Memo). u.looks) a.rest;
          loose = ap is_loose part ∙ loose_stays m.known me.who home p x m.part;
          home = a.own (spot.Home me.who) refl;
          map = ap (λ u. map_in u key) part ∙ table_mapped me.geometry w r me.who held who p 0 x (ap cover_of idle) has.holds has.word (λ e. some (sym e)) (Prepares b i key refl coming.entry) vacant.table key;
          word = λ j y h. subst (λ ks. Contains ks (record { spot = spot.Body home j; value = y })) (sym (ap (λ (u : Memo). u.known) a.rest)) (learnt_other p (spot.Body home j) x y m.known (λ e. off (let z : b ≡ home = cc in z)) h);
        }

    -- and the entry
    raised_new : (i x : ℕ) (m' : Memo) → i < 2 → Carries me.who key (r me.who) m' → Raised me.who (spot.Body b i) x (r me.who) m' → IsNew me.geometry.wide me.who (sight me.who m') b key
    raised_new i x m' low carries a =
        let stays : (q : Spot) (y : ℕ) → spot.Body b i ≢ q → IsKnown (sight me.who (r me.who)) q y → IsKnown (sight me.who m') q y = λ q y n h. subst (λ ks. Contains ks (record { spot = q; value = y })) (sym (ap (λ (u : Memo). u.known) a.rest)) (learnt_other (spot.Body b i) q x y m.known n h) in
        let t : IsTagged me.geometry.wide me.who (sight me.who (r me.who)) b 2 1 = coming.entry.tagged in
        record {
          tagged = record { tag = t.tag; known = stays (spot.Tag b) t.tag (λ e. cc) t.known; refs_are = t.refs_are; plain_are = t.plain_are; author = t.author };
          word = stays (spot.Body b 2) key (λ e. (let z : i ≡ 2 = cc in absurd (omega arith))) coming.entry.word;
          small = coming.entry.small;
          absent = carries.map ∙ coming.entry.absent;
        }

    raised_root : (i x : ℕ) (m' : Memo) → Raised me.who (spot.Body b i) x (r me.who) m' → (k < 16) × (own_word m'.own (spot.Root me.who k) ≡ b) × (b ≢ 0)
    raised_root i x m' a = (coming.root.0, a.own (spot.Root me.who k) refl ∙ coming.root.1, coming.root.2)

    -- whose value word was filled, or whose next word was
    pub value_filled : (v : ℕ) (m' : Memo) → value ≡ 0 → v ≢ 0 → Raised me.who (spot.Body b 1) v (r me.who) m' → IsVacant me.who m' key first × IsComing me.geometry.wide me.who m' k b key next v
    value_filled v m' none some a =
        let carries = raised_carries 1 v m' (omega arith) some (subst (IsKnown (sight me.who (r me.who)) (spot.Body b 1)) none coming.value_is) a in
        let learns : (q : Spot) (y : ℕ) → Contains (learnt (spot.Body b 1) v m.known) (record { spot = q; value = y }) → IsKnown (sight me.who m') q y = λ q y h. subst (λ ks. Contains ks (record { spot = q; value = y })) (sym (ap (λ (u : Memo). u.known) a.rest)) h in (
          vacant_carried me.who key first (r me.who) m' carries vacant,
          record {
            root = raised_root 1 v m' a;
            entry = raised_new 1 v m' (omega arith) carries a;
            next_is = learns (spot.Body b 0) next (learnt_other (spot.Body b 1) (spot.Body b 0) v next m.known (words_apart b 1 0 (omega arith)) coming.next_is);
            value_is = learns (spot.Body b 1) v (learnt_here (spot.Body b 1) v m.known);
          },
        )

    pub next_filled : (m' : Memo) → next ≡ 0 → first ≢ 0 → Raised me.who (spot.Body b 0) first (r me.who) m' → IsVacant me.who m' key first × IsComing me.geometry.wide me.who m' k b key first value
    next_filled m' none some a =
        let carries = raised_carries 0 first m' (omega arith) some (subst (IsKnown (sight me.who (r me.who)) (spot.Body b 0)) none coming.next_is) a in
        let learns : (q : Spot) (y : ℕ) → Contains (learnt (spot.Body b 0) first m.known) (record { spot = q; value = y }) → IsKnown (sight me.who m') q y = λ q y h. subst (λ ks. Contains ks (record { spot = q; value = y })) (sym (ap (λ (u : Memo). u.known) a.rest)) h in (
          vacant_carried me.who key first (r me.who) m' carries vacant,
          record {
            root = raised_root 0 first m' a;
            entry = raised_new 0 first m' (omega arith) carries a;
            next_is = learns (spot.Body b 0) first (learnt_here (spot.Body b 0) first m.known);
            value_is = learns (spot.Body b 1) value (learnt_other (spot.Body b 0) (spot.Body b 1) first value m.known (words_apart b 0 1 (omega arith)) coming.value_is);
          },
        )

    -- a value block whose number is known stays one
    pub value_carried : (v n i x : ℕ) (m' : Memo) → IsValue (sight me.who (r me.who)) v n → Raised me.who (spot.Body b i) x (r me.who) m' → IsValue (sight me.who m') v n
    value_carried v n i x m' number a =
        let off : v ≢ b = new_not_value me.geometry w r me.who held who (ap cover_of idle) vacant.table b key v coming.entry number.value in
        record {
          value = subst (λ vs. Contains vs v) (sym (ap (λ (u : Memo). u.values) a.rest)) number.value;
          word = subst (λ ks. Contains ks (record { spot = spot.Body v 0; value = n })) (sym (ap (λ (u : Memo). u.known) a.rest)) (learnt_other (spot.Body b i) (spot.Body v 0) x n m.known (λ e. off (let z : b ≡ v = cc in sym z)) number.word);
        }

    -- ---- the step that links it

    bucket : IsOwnWord me.geometry.wide me.who (r me.who) home (key % 16) first
    bucket = directory_word me.geometry.wide me.who (r me.who) home (key % 16) first vacant.latch vacant.role (home_reached me.who (r me.who) home idle refl vacant.some) (omega arith) vacant.word

    pub link : (n : ℕ) → next ≡ first → IsValue (sight me.who (r me.who)) value n → TableStep me.geometry.wide me.who (sight me.who (r me.who)) (spot.Body home (key % 16)) first b
    link n e number = Links key value n refl coming.entry (subst (IsKnown (sight me.who (r me.who)) (spot.Body b 0)) e coming.next_is) coming.value_is number

    -- an empty bucket is to have it
    pub link_fills : (n : ℕ) → next ≡ first → first ≡ 0 → IsValue (sight me.who (r me.who)) value n → CanStep me (spot_address me.geometry (spot.Body home (key % 16))) (Up b) (spot.Body home (key % 16)) (r me.who)
    link_fills n e none number =
        can_fill me w r held who here idle home (key % 16) b client
        (subst (IsOwnWord me.geometry.wide me.who (r me.who) home (key % 16)) none bucket) reached
        (subst (λ x. TableStep me.geometry.wide me.who (sight me.who (r me.who)) (spot.Body home (key % 16)) x b) none (link n e number))

    -- or one that has entries
    pub link_replaces : (n : ℕ) → next ≡ first → first ≢ 0 → IsValue (sight me.who (r me.who)) value n → CanStep me (spot_address me.geometry (spot.Body home (key % 16))) (Change first b) (spot.Body home (key % 16)) (r me.who)
    link_replaces n e some number =
        can_replace me w r held who here idle home (key % 16) first b client some
        (first_other me.geometry w r me.who held who (ap cover_of idle) vacant.table key first b vacant.some vacant.word coming.entry some)
        bucket reached (link n e number)
