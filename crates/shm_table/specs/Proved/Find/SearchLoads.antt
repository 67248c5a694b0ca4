-- what the loads of a search for a key leave of a memo, the roles of what was read, and trails
use Rattle.std.proofs.Common.{◌≡◌, ◌≢◌, ℕ, ◌+◌, ◌%◌, ◌<◌, refl, sym, ap, ◌∙◌, subst, arith, true, false, eqb, ◌&&◌, List, [], ◌∷◌, ◌++◌, map, inl, inr, Bool}
use Rattle.std.proofs.lemmas.Bool.{cases_Bool, cases_eq, cond-false, cond-true, eq-eqb, false≢true, ne_eqb, or_left, or_right}
use Rattle.std.proofs.lemmas.List.Elements.{Contains-append_left, Contains-push}
use Rattle.std.specs.{Prelude.{None, Some, ◌==◌, if◌then◌else◌}, List.{Contains, list_any}}
use Rattle.shm_words.specs.Layout.{total_of, address_limit}
use Rattle.shm_graph.specs.declared.{ask.{Ask.Ask, Me.Me}, memo.{Look.Look, Memo.Memo, Stored.Stored}, spot.Spot.Spot}
use Rattle.shm_graph.specs.declared.{spot.Spot.TheVariants.{Home, Body}, table.{Entry.Entry, Part.Part}}
use Rattle.shm_graph.specs.{Asks.{Trail, pair}, Core.core, Held.is_loose, Laws.Outcome, Reach.learnt}
use Rattle.shm_graph.specs.{MemoAfterRead.{is_entry, valued, values_read}, Spots.same_spot}
use Rattle.shm_graph.specs.Telling.{Role, Directory, Entry as AnEntry, role_in, role_read, roles, roles_from, shaped}
use Rattle.shm_graph.specs.Trails.{Answers, Asked}
use Rattle.shm_graph.proofs.Spots.Spotting.{same_spot_is, same_spot_self}
use Rattle.plans.specs.Parts.{IsHeld}
use Rattle.kind_parts.specs.Walking.{IsIn, IsSeeking}
use Rattle.kind_parts.specs.WordParts.{as_known, IsLatchedWord, IsPlainWord, ReferenceLoaded, WordLoaded}
use Rattle.kind_parts.proofs.{Covering.role_told, Reaching.look_reached, Partitions.Seeking.{learnt_here, learnt_other}}
use Rattle.kind_parts.proofs.{Partitions.Words.{one_more_role, role_new}, Words.Blocks.told_inside}
use Rattle.shm_count.specs.Proved.TableReading.{home_role}
use Rattle.shm_ref.specs.Proved.AskedParts.{one_pair}
use Rattle.shm_table.specs.declared.find.Found.{Found}
use Rattle.shm_table.specs.Find.Control.{Passed, begin_of, home_ask, led_from, passed_trail, walk_trail, word_ask}
use Rattle.shm_table.specs.Find.{IsChainRead, IsLook, OnlyReads}

-- ---- memos of which only the looks and what is known differ

-- so where they do
pub reads_by : (r x : Memo) (l : List Look) (k : List Stored) → core x ≡ core (record r { looks = l; known = k }) → ((s : Stored) → Contains r.known s → Contains k s) → ((j : Look) → Contains r.looks j → Contains l j) → OnlyReads r x
reads_by r x l k e known looked =
    record {
      memo = e ∙ ap (λ (y : Memo). core (record r { looks = y.looks; known = y.known })) (sym e);
      known = λ s h. subst (λ ks. Contains ks s) (sym (ap (λ (y : Memo). y.known) e)) (known s h);
      looked = λ j h. subst (λ ks. Contains ks j) (sym (ap (λ (y : Memo). y.looks) e)) (looked j h);
    }

-- one after the other
pub reads_more : (r0 r x : Memo) → OnlyReads r0 r → OnlyReads r x → OnlyReads r0 x
reads_more r0 r x a b = record { memo = b.memo ∙ ap (λ (y : Memo). core (record y { looks = x.looks; known = x.known })) a.memo; known = λ s h. b.known s (a.known s h); looked = λ k h. b.looked k (a.looked k h) }

-- what is known of a word is what is found, so it stays known once the word is learnt
pub learnt_keeps : (p : Spot) (m : Memo) (n : ℕ) → as_known p m n → (s : Stored) → Contains m.known s → Contains (learnt p n m.known) s
learnt_keeps p m n found s h = elim (cases_Bool (same_spot p s.spot)) [
  | inl y ↦ (let q : p ≡ s.spot = same_spot_is p s.spot y in
      let v : n ≡ s.value = found s.value (subst (λ (u : Spot). Contains m.known (record { spot = u; value = s.value })) (sym q) h) in
      let all : ◌≡◌ {A = Stored} (record { spot = p; value = n }) s = λ i. record { spot = q i; value = v i } in
      subst (λ (u : Stored). Contains (learnt p n m.known) u) all (learnt_here p n m.known))
  | inr off ↦ learnt_other p s.spot n s.value m.known (λ e. false≢true (sym off ∙ subst (λ (u : Spot). same_spot p u ≡ true) e (same_spot_self p))) h
]

-- what a load of a word leaves is that
pub word_only : (p : Spot) (m : Memo) (n : ℕ) (x : Memo) → WordLoaded p m n x → OnlyReads m x
word_only p m n x h = reads_by m x m.looks (learnt p n m.known) h.left (learnt_keeps p m n h.found) (λ k q. q)

pub reference_only : (b i : ℕ) (m : Memo) (n : ℕ) (x : Memo) → ReferenceLoaded b i m n x → values_read m b i n ≡ m.values → OnlyReads m x
reference_only b i m n x h same =
    elim (cases_eq n 0) [
      | inl e ↦ reads_by m x m.looks (learnt (Body b i) n m.known) (h.left ∙ ap core {y = record m { known = learnt (Body b i) n m.known }} (cond-true (eqb n 0) _ _ (eq-eqb n 0 e))) (learnt_keeps (Body b i) m n h.found) (λ k q. q)
      | inr some ↦ reads_by m x (m.looks ++ record { block = n; from = Body b i } ∷ []) (learnt (Body b i) n m.known)
          (h.left
          ∙ (ap core {y = record m { looks = m.looks ++ record { block = n; from = Body b i } ∷ []; known = learnt (Body b i) n m.known; values = values_read m b i n }} (cond-false (eqb n 0) _ _ (ne_eqb n 0 some))
          ∙ ap (λ vs. core (record m { looks = m.looks ++ record { block = n; from = Body b i } ∷ []; known = learnt (Body b i) n m.known; values = vs })) same))
          (learnt_keeps (Body b i) m n h.found) (λ k q. Contains-append_left m.looks (record { block = n; from = Body b i } ∷ []) k q)
    ]

-- no word of a directory, and no next word, is read as the value of an entry
pub directory_values : (m : Memo) (b i n : ℕ) → role_in (roles m) b ≡ Directory → values_read m b i n ≡ m.values
directory_values m b i n e = ap (λ role. if is_entry role && (i == 1) then valued m.part n m.values else m.values) e

pub next_values : (m : Memo) (b n : ℕ) → role_in (roles m) b ≡ AnEntry → values_read m b 0 n ≡ m.values
next_values m b n e = ap (λ role. if is_entry role && false then valued m.part n m.values else m.values) e

-- ---- roles of the blocks that were read

-- the block of the last look is looked at
last_looked : (ks : List Look) (k : Look) → list_any (eqb k.block) (map (λ (j : Look). j.block) (ks ++ k ∷ [])) ≡ true
last_looked [] k = or_left (eqb k.block k.block) _ (eq-eqb k.block k.block refl)
last_looked (j ∷ ks) k = or_right (eqb k.block j.block) _ (last_looked ks k)

-- a block that was read from a word of another one plays the role that the word gives it
pub look_in : (m x : Memo) (d i n : ℕ) (role : Role) → is_loose m.part ≡ false → x.part ≡ m.part → role_in (roles m) d ≡ role → x.looks ≡ m.looks ++ record { block = n; from = Body d i } ∷ [] → IsIn x (role_read role i) n
look_in m x d i n role table part is looks =
    let before : roles m ≡ roles_from [] m.looks = cond-false (is_loose m.part) [] (roles_from [] m.looks) table in
    let all : roles x ≡ record { block = n; role = role_read (role_in (roles_from [] m.looks) d) i } ∷ roles_from [] m.looks =
    cond-false (is_loose x.part) [] (roles_from [] x.looks) (ap is_loose part ∙ table) ∙ (ap (roles_from []) looks ∙ one_more_role [] m.looks (record { block = n; from = Body d i })) in (
      ap (λ ps. role_in ps n) all ∙ (role_new (record { block = n; role = role_read (role_in (roles_from [] m.looks) d) i }) (roles_from [] m.looks) ∙ ap (λ u. role_read u i) (ap (λ ps. role_in ps d) (sym before) ∙ is)),
      ap (λ (ls : List Look). list_any (eqb n) (map (λ (k : Look). k.block) ls)) looks ∙ last_looked m.looks (record { block = n; from = Body d i }),
    )

-- and the directory's
pub home_in : (m x : Memo) (a n : ℕ) → x.looks ≡ m.looks ++ record { block = n; from = Home a } ∷ [] → is_loose x.part ≡ false → IsIn x Directory n
home_in m x a n looks table = (home_role m x a n looks table, ap (λ (ls : List Look). list_any (eqb n) (map (λ (k : Look). k.block) ls)) looks ∙ last_looked m.looks (record { block = n; from = Home a }))

-- where no more is looked at, it plays it still
pub stays_in : (m x : Memo) (role : Role) (b : ℕ) → x.looks ≡ m.looks → x.part ≡ m.part → IsIn m role b → IsIn x role b
stays_in m x role b looks part h = (
  ap (λ (o : Part). role_in (if is_loose o then [] else roles_from [] x.looks) b) part ∙ (ap (λ ls. role_in (if is_loose m.part then [] else roles_from [] ls) b) looks ∙ h.0),
  ap (λ (ls : List Look). list_any (eqb b) (map (λ (k : Look). k.block) ls)) looks ∙ h.1,
)

-- what is told of a directory and of an entry under the latch of its author
pub directory_latched : (wide : Bool) (c a : ℕ) (r : Memo) (b i : ℕ) → r.latch ≡ Some a → IsIn r Directory b → i < 16 → IsLatchedWord wide c r b i
directory_latched wide c a r b i latch here low = (look_reached c r b here.1, (shaped r.latch b Directory, a, role_told c r wide b Directory here.0 (λ z. cc), refl, low, latch, latch))

pub entry_latched : (wide : Bool) (c a : ℕ) (r : Memo) (b i : ℕ) → r.latch ≡ Some a → IsIn r AnEntry b → i < 2 → IsLatchedWord wide c r b i
entry_latched wide c a r b i latch here low = (look_reached c r b here.1, (shaped r.latch b AnEntry, a, role_told c r wide b AnEntry here.0 (λ z. cc), refl, low, latch, latch))

pub entry_plain : (wide : Bool) (c : ℕ) (r : Memo) (b : ℕ) → IsIn r AnEntry b → IsPlainWord wide c r b 2
entry_plain wide c r b here = (shaped r.latch b AnEntry, role_told c r wide b AnEntry here.0 (λ z. cc), refl, omega arith, omega arith)

-- they lie in the pool
pub directory_room : (me : Me) (r : Memo) (b : ℕ) → me.who < me.geometry.clients → IsHeld me r → IsIn r Directory b → b + 17 < total_of me.geometry
directory_room me r b l held here = let k = told_inside me r (shaped r.latch b Directory) l held (role_told me.who r me.geometry.wide b Directory here.0 (λ z. cc)) in omega arith

pub entry_room : (me : Me) (r : Memo) (b : ℕ) → me.who < me.geometry.clients → IsHeld me r → IsIn r AnEntry b → b + 4 < total_of me.geometry
entry_room me r b l held here = let k = told_inside me r (shaped r.latch b AnEntry) l held (role_told me.who r me.geometry.wide b AnEntry here.0 (λ z. cc)) in omega arith

-- ---- the chain that was read

-- it stays read where more is known and looked at
pub chain_kept : (r x : Memo) (d i : ℕ) (ps : List Passed) (at : ℕ) → ((s : Stored) → Contains r.known s → Contains x.known s) → ((k : Look) → Contains r.looks k → Contains x.looks k) → IsChainRead r d i ps at → IsChainRead x d i ps at
chain_kept r x d i [] at known looked h = looked (record { block = at; from = Body d i }) h
chain_kept r x d i (p ∷ ps) at known looked h =
    (looked (record { block = p.block; from = Body d i }) h.0, known (record { spot = Body p.block 2; value = p.key }) h.1, chain_kept r x p.block 0 ps at known looked h.2)

-- and one more entry is passed
pub chain_more : (r : Memo) (d i : ℕ) (ps : List Passed) (p : Passed) (n : ℕ) → IsChainRead r d i ps p.block → Contains r.known (record { spot = Body p.block 2; value = p.key }) → IsLook r (Body p.block 0) n → IsChainRead r d i (ps ++ p ∷ []) n
chain_more r d i [] p n h known look = (h, known, look)
chain_more r d i (q ∷ ps) p n h known look = (h.0, h.1, chain_more r q.block 0 ps p n h.2 known look)

-- a look that was made last
pub look_made : (m x : Memo) (p : Spot) (n : ℕ) → x.looks ≡ m.looks ++ record { block = n; from = p } ∷ [] → IsLook x p n
look_made m x p n e = subst (λ ks. Contains ks (record { block = n; from = p })) (sym e) (Contains-push m.looks (record { block = n; from = p }))

-- ---- trails

-- one more entry is passed
pub begin_more : (ps : List Passed) (p : Passed) (n : ℕ) → begin_of (ps ++ p ∷ []) n ≡ begin_of ps p.block
begin_more [] p n = refl
begin_more (q ∷ ps) p n = refl

trail_more : (ps : List Passed) (p : Passed) (n : ℕ) → passed_trail (ps ++ p ∷ []) n ≡ passed_trail ps p.block ++ pair (word_ask p.block 2) p.key ∷ pair (word_ask p.block 0) n ∷ []
trail_more [] p n = refl
trail_more (q ∷ ps) p n =
    ap (λ (x : ℕ). pair (word_ask q.block 2) q.key ∷ pair (word_ask q.block 0) x ∷ passed_trail (ps ++ p ∷ []) n) (begin_more ps p n)
    ∙ ap (λ (t : Trail). pair (word_ask q.block 2) q.key ∷ pair (word_ask q.block 0) (begin_of ps p.block) ∷ t) (trail_more ps p n)

pub walk_more : (me : Me) (a key home : ℕ) (ps : List Passed) (p : Passed) (n : ℕ) → walk_trail me a key home (ps ++ p ∷ []) n ≡ walk_trail me a key home ps p.block ++ pair (word_ask p.block 2) p.key ∷ pair (word_ask p.block 0) n ∷ []
walk_more me a key home ps p n =
    ap (λ (x : ℕ). pair (home_ask me a) home ∷ pair (word_ask home (key % 16)) x ∷ passed_trail (ps ++ p ∷ []) n) (begin_more ps p n)
    ∙ ap (λ (t : Trail). pair (home_ask me a) home ∷ pair (word_ask home (key % 16)) (begin_of ps p.block) ∷ t) (trail_more ps p n)

pub led_more : (d i : ℕ) (ps : List Passed) (p : Passed) → led_from d i (ps ++ p ∷ []) ≡ Body p.block 0
led_more d i [] p = refl
led_more d i (q ∷ ps) p = led_more q.block 0 ps p

-- one pair more
pub one_more : (a : Ask) (n x : ℕ) (tr u t : Trail) → tr ≡ u → n ≡ x → Asked a (λ y. Answers y) t n → tr ++ t ≡ u ++ pair a x ∷ []
one_more a n x tr u t before same asked = ap (λ (y : Trail). y ++ t) before ∙ (ap (λ (y : Trail). u ++ y) (one_pair a t n asked) ∙ ap (λ (y : ℕ). u ++ pair a y ∷ []) same)

-- ---- answers

-- by whether a word that was read names a block
pub by_block : (n : ℕ) (a : Found) (K : ℕ → Type 0) (L : Found → Type 0) → (n ≢ 0 → K n × (n < address_limit)) → (n ≡ 0 → L a) → Outcome (if n % address_limit == 0 then Some a else None) (K (n % address_limit)) L
by_block n a K L some none =
    elim (cases_eq n 0) [
      | inl e ↦ (let z : n % address_limit ≡ 0 = omega arith in subst (λ q. Outcome (if q then Some a else None) (K (n % address_limit)) L) (sym (eq-eqb (n % address_limit) 0 z)) (none e))
      | inr s ↦ (let u = some s in
          let low = u.1 in
          let same : n % address_limit ≡ n = omega arith in
          subst (λ q. Outcome (if q then Some a else None) (K (n % address_limit)) L) (sym (ne_eqb (n % address_limit) 0 (λ z. s (sym same ∙ z)))) (subst K (sym same) u.0))
    ]

-- a walk at a block is at an entry
pub at_entry : (c : ℕ) (r : Memo) (key first : ℕ) (p : Spot) (at : ℕ) (xs left : List Entry) → at ≢ 0 → IsSeeking c r key first p at xs left → (e : Entry) × (ys : List Entry) × IsSeeking c r key first p at xs (e ∷ ys)
at_entry c r key first p at xs [] some h = absurd (some h.walk.starts)
at_entry c r key first p at xs (e ∷ ys) some h = (e, ys, h)
