-- a walk along the own partition over the loads of its words
use Rattle.std.proofs.Common.{◌≡◌, ◌≢◌, ℕ, ◌%◌, ◌<◌, zero, suc, refl, sym, ap, ◌∙◌, subst, arith, true, false, not, eqb, eq-eqb, ◌||◌, inl, inr, List, [], ◌∷◌, ◌++◌, map, Some, Bool}
use Rattle.std.proofs.lemmas.Bool.{cases_Bool, cond-false, false≢true, or_left, or_right}
use Rattle.std.proofs.lemmas.List.Elements.{Contains-append_right}
use Rattle.std.specs.List.{Contains, filter, list_any}
use Rattle.shm_words.specs.declared.geometry.Geometry.{Geometry}
use Rattle.shm_graph.specs.declared.{spot.Spot.{Spot, TheVariants.{Home, Body}}, memo.{Look.Look, Memo.Memo}}
use Rattle.shm_graph.specs.declared.{memo.{Op.TheVariants.Nothing, Stored.Stored}, table.Entry.Entry}
use Rattle.shm_graph.specs.{Held.{HeldAt, is_loose}, Ops.{Quiet, cover_of}, Reach.{learnt, not_at}}
use Rattle.shm_graph.specs.Telling.{Role, Directory, Entry as AnEntry, Other, Played, role_in, role_read, roles_from, roles}
use Rattle.shm_graph.specs.Views.{view, own_word}
use Rattle.shm_graph.proofs.Spots.Spotting.{same_spot_not}
use Rattle.kind_laws.proofs.Lists.{Contains-filter}
use Rattle.kind_parts.specs.Reparting.{sight, chain_in, link_after, IsKnown}
use Rattle.kind_parts.specs.{Walking.{is_looked, IsIn, IsWalking, IsSeeking, IsVacant, Reads}, Beginning.IsOwnWord}
use Rattle.kind_parts.proofs.Partitions.Words.{one_more_role, role_new, role_stays, directory_word, entry_word}
use Rattle.kind_parts.proofs.Partitions.Walked.{walk_end, walk_first, walk_next, link_elsewhere, entry_not_home, entry_some}
use Rattle.kind_parts.proofs.Reaching.{home_reached, look_reached}

-- ---- what is known

-- the word that was learnt, and another one
pub learnt_here : (p : Spot) (x : ℕ) (ks : List Stored) → Contains (learnt p x ks) (record { spot = p; value = x })
learnt_here p x ks = (0, omega arith, refl)

pub learnt_other : (p q : Spot) (x y : ℕ) (ks : List Stored) → p ≢ q → Contains ks (record { spot = q; value = y }) → Contains (learnt p x ks) (record { spot = q; value = y })
learnt_other p q x y ks other h =
    let s : Stored = record { spot = q; value = y } in
    Contains-append_right (record { spot = p; value = x } ∷ []) (filter (not_at p) ks) s (Contains-filter (not_at p) ks s h (ap not (same_spot_not p q other)))

-- two words of a block, and words of two blocks
pub words_apart : (b i j : ℕ) → i ≢ j → Body b i ≢ Body b j
words_apart b i j n e = n (let z : i ≡ j = cc in z)

pub blocks_apart : (b d i j : ℕ) → b ≢ d → Body b i ≢ Body d j
blocks_apart b d i j n e = n (let z : b ≡ d = cc in z)

-- ---- roles

-- the roles of a pool for tables
roles_table : (m : Memo) → is_loose m.part ≡ false → roles m ≡ roles_from [] m.looks
roles_table m table = cond-false (is_loose m.part) [] (roles_from [] m.looks) table

-- one more look
looked_more : (ks : List Look) (k : Look) (b : ℕ) → list_any (eqb b) (map (λ (j : Look). j.block) ks) ≡ true → list_any (eqb b) (map (λ (j : Look). j.block) (ks ++ k ∷ [])) ≡ true
looked_more [] k b is = absurd (false≢true is)
looked_more (j ∷ ks) k b is =
    elim (cases_Bool (eqb b j.block)) [
      | inl y ↦ or_left (eqb b j.block) _ y
      | inr n ↦ or_right (eqb b j.block) _ (looked_more ks k b (sym (ap (λ z. z || list_any (eqb b) (map (λ (q : Look). q.block) ks)) n) ∙ is))
    ]

looked_last : (ks : List Look) (k : Look) → list_any (eqb k.block) (map (λ (j : Look). j.block) (ks ++ k ∷ [])) ≡ true
looked_last [] k = or_left (eqb k.block k.block) _ (eq-eqb k.block k.block refl)
looked_last (j ∷ ks) k = or_right (eqb k.block j.block) _ (looked_last ks k)

-- over a load of a word of a block in a role
module _ (g : Geometry) (w : Spot → ℕ) (r : ℕ → Memo) (c : ℕ) (h : HeldAt g w (view r)) (l : c < g.clients) (m : Memo) (d i x : ℕ) (reads : Reads m (r c) d i x) (latch : m.latch ≡ Some c) (table : is_loose m.part ≡ false) (plays : (r c).looks ≡ m.looks ++ record { block = x; from = Body d i } ∷ [] → role_read (role_in (roles m) d) i ≢ Other) where
  table' : is_loose (r c).part ≡ false
  table' = ap is_loose reads.part ∙ table

  -- the roles after a look
  more : (r c).looks ≡ m.looks ++ record { block = x; from = Body d i } ∷ [] → roles (r c) ≡ record { block = x; role = role_read (role_in (roles m) d) i } ∷ roles m
  more e =
      roles_table (r c) table'
      ∙ (ap (roles_from []) e
      ∙ (one_more_role [] m.looks (record { block = x; from = Body d i })
      ∙ ap (λ (ps : List Played). record { block = x; role = role_read (role_in ps d) i } ∷ ps) (sym (roles_table m table))))

  -- a block still plays its role
  pub role_kept : (b : ℕ) (role : Role) → b ≢ 0 → role ≢ Other → role_in (roles m) b ≡ role → role_in (roles (r c)) b ≡ role
  role_kept b role some mine is =
      elim reads.looks [
        | inl e ↦ ap (λ ps. role_in ps b) (roles_table (r c) table' ∙ (ap (roles_from []) e ∙ sym (roles_table m table))) ∙ is
        | inr (n, e) ↦ ap (λ ps. role_in ps b) (more e)
            ∙ role_stays g w r h c c l (reads.latch ∙ latch) table' (record { block = x; role = role_read (role_in (roles m) d) i }) (roles m) b role (sym (roles_table (r c) table') ∙ more e) (plays e) mine some is
      ]

  -- and is looked at
  pub looked_kept : (b : ℕ) → is_looked m b ≡ true → is_looked (r c) b ≡ true
  looked_kept b is =
      elim reads.looks [
        | inl e ↦ ap (λ (ls : List Look). list_any (eqb b) (map (λ (k : Look). k.block) ls)) e ∙ is
        | inr (n, e) ↦ ap (λ (ls : List Look). list_any (eqb b) (map (λ (k : Look). k.block) ls)) e ∙ looked_more m.looks (record { block = x; from = Body d i }) b is
      ]

  -- a block that was read plays the role that the word gives it
  pub looked_in : (r c).looks ≡ m.looks ++ record { block = x; from = Body d i } ∷ [] → IsIn (r c) (role_read (role_in (roles m) d) i) x
  looked_in e = (
    ap (λ ps. role_in ps x) (more e) ∙ role_new (record { block = x; role = role_read (role_in (roles m) d) i }) (roles m),
    ap (λ (ls : List Look). list_any (eqb x) (map (λ (k : Look). k.block) ls)) e ∙ looked_last m.looks (record { block = x; from = Body d i }),
  )

  -- a known word of another block or place is known still
  pub known_kept : (q : Spot) (y : ℕ) → Body d i ≢ q → IsKnown (sight c m) q y → IsKnown (sight c (r c)) q y
  known_kept q y other is = subst (λ ks. Contains ks (record { spot = q; value = y })) (sym reads.known) (learnt_other (Body d i) q x y m.known other is)

  pub known_read : IsKnown (sight c (r c)) (Body d i) x
  known_read = subst (λ ks. Contains ks (record { spot = Body d i; value = x })) (sym reads.known) (learnt_here (Body d i) x m.known)

-- ---- the walk

-- at an entry, over a load of a word of the entry: where that is a look, of its next word or its value word
module _ (g : Geometry) (w : Spot → ℕ) (r0 r : ℕ → Memo) (c : ℕ) (h0 : HeldAt g w (view r0)) (h : HeldAt g w (view r)) (l : c < g.clients) (idle : (r0 c).op ≡ Nothing) (key first : ℕ) (p : Spot) (at : ℕ) (xs : List Entry) (e : Entry) (ys : List Entry) (seeks : IsSeeking c (r0 c) key first p at xs (e ∷ ys)) (j x : ℕ) (reads : Reads (r0 c) (r c) at j x) (looks : (r c).looks ≡ (r0 c).looks ++ record { block = x; from = Body at j } ∷ [] → j < 2) where
  quiet : cover_of (r0 c).op ≡ Quiet
  quiet = ap cover_of idle

  some : at ≢ 0
  some = entry_some g w r0 c h0 l quiet seeks.table key p at xs e ys seeks.walk

  plays : (r c).looks ≡ (r0 c).looks ++ record { block = x; from = Body at j } ∷ [] → role_read (role_in (roles (r0 c)) at) j ≢ Other
  plays q = subst (λ role. role_read role j ≢ Other) (sym (seeks.here some).0) (two j (looks q))
    where
      two : (j : ℕ) → j < 2 → role_read AnEntry j ≢ Other
      two zero l = λ z. cc
      two (suc zero) l = λ z. cc
      two (suc (suc j)) l = absurd (omega arith)

  home_kept : own_word (r c).own (Home c) ≡ own_word (r0 c).own (Home c)
  home_kept = ap (λ (s : List Stored). own_word s (Home c)) reads.own

  -- the walk is where it was
  pub seek_kept : IsSeeking c (r c) key first p at xs (e ∷ ys)
  seek_kept =
      let m : Memo = r0 c in
      let home : ℕ = own_word (r0 c).own (Home c) in
      let off : at ≢ home = entry_not_home g w r0 c h0 l quiet seeks.table key p at xs e ys seeks.walk in
      let keeps = role_kept g w r c h l m at j x reads seeks.latch seeks.table plays in
      let looked = looked_kept g w r c h l m at j x reads seeks.latch seeks.table plays in
      let knows = known_kept g w r c h l m at j x reads seeks.latch seeks.table plays in
      record {
        latch = reads.latch ∙ seeks.latch;
        table = ap is_loose reads.part ∙ seeks.table;
        some = λ z. seeks.some (sym home_kept ∙ z);
        role = ap (role_in (roles (r c))) home_kept ∙ keeps home Directory seeks.some (λ z. cc) seeks.role;
        word = subst (λ d. IsKnown (sight c (r c)) (Body d (key % 16)) first) (sym home_kept) (knows (Body home (key % 16)) first (blocks_apart at home j (key % 16) off) seeks.word);
        next = λ n. looked first (seeks.next n);
        walk = record {
          chain = ap (λ y. chain_in y (key % 16)) reads.part ∙ seeks.walk.chain;
          others = seeks.walk.others;
          link = seeks.walk.link ∙ ap (λ d. link_after d (key % 16) xs) (sym home_kept);
          known = knows p at (λ z. link_elsewhere g w r0 c h0 l quiet seeks.table key p at j xs e ys seeks.walk (sym z)) seeks.walk.known;
          starts = seeks.walk.starts;
        };
        here = λ n. let a = seeks.here n in (keeps at AnEntry n (λ z. cc) a.0, looked at a.1);
        lead = elim seeks.lead [
          | inl z ↦ inl (z ∙ ap (λ d. Body d (key % 16)) (sym home_kept))
          | inr (d, z, n, a) ↦ inr (d, z, n, (keeps d AnEntry n (λ q. cc) a.0, looked d a.1))
        ];
      }

  -- the word that was read is known
  pub seek_known : IsKnown (sight c (r c)) (Body at j) x
  seek_known = known_read g w r c h l (r0 c) at j x reads seeks.latch seeks.table plays

  -- and where it was a look its block plays its role
  pub seek_looked : (r c).looks ≡ (r0 c).looks ++ record { block = x; from = Body at j } ∷ [] → IsIn (r c) (role_read AnEntry j) x
  seek_looked q = subst (λ role. IsIn (r c) (role_read role j) x) (seeks.here some).0 (looked_in g w r c h l (r0 c) at j x reads seeks.latch seeks.table plays q)

  -- the next word of an entry of another key was read: the walk goes on
  pub seek_next : j ≡ 0 → (x ≢ 0 → (r c).looks ≡ (r0 c).looks ++ record { block = x; from = Body at j } ∷ []) → e.key ≢ key → IsSeeking c (r c) key first (Body at 0) x (xs ++ e ∷ []) ys
  seek_next next look other =
      let k : IsSeeking c (r c) key first p at xs (e ∷ ys) = seek_kept in
      record {
        latch = k.latch;
        table = k.table;
        some = k.some;
        role = k.role;
        word = k.word;
        next = k.next;
        walk = walk_next g w r c h l (ap cover_of (reads.op ∙ idle)) k.table key p at x xs e ys k.walk other (subst (λ i. IsKnown (sight c (r c)) (Body at i) x) next seek_known);
        here = λ n. subst (λ i. IsIn (r c) (role_read AnEntry i) x) next (seek_looked (look n));
        lead = inr (at, refl, some, k.here some);
      }

-- the word of the bucket was read: a walk begins
pub seek_first : (g : Geometry) (w : Spot → ℕ) (r : ℕ → Memo) (c : ℕ) (h : HeldAt g w (view r)) (l : c < g.clients) (m : Memo) (key x : ℕ) → m.op ≡ Nothing → m.latch ≡ Some c → is_loose m.part ≡ false → own_word m.own (Home c) ≢ 0 → role_in (roles m) (own_word m.own (Home c)) ≡ Directory
    → Reads m (r c) (own_word m.own (Home c)) (key % 16) x → (x ≢ 0 → (r c).looks ≡ m.looks ++ record { block = x; from = Body (own_word m.own (Home c)) (key % 16) } ∷ [])
    → IsSeeking c (r c) key x (Body (own_word m.own (Home c)) (key % 16)) x [] (chain_in (r c).part (key % 16))
seek_first g w r c h l m key x idle latch table some role reads look =
    let home : ℕ = own_word m.own (Home c) in
    let same : own_word (r c).own (Home c) ≡ home = ap (λ (s : List Stored). own_word s (Home c)) reads.own in
    let plays : (r c).looks ≡ m.looks ++ record { block = x; from = Body home (key % 16) } ∷ [] → role_read (role_in (roles m) home) (key % 16) ≢ Other = λ _. subst (λ u. role_read u (key % 16) ≢ Other) (sym role) (λ z. cc) in
    let known : IsKnown (sight c (r c)) (Body home (key % 16)) x = known_read g w r c h l m home (key % 16) x reads latch table plays in
    let known' : IsKnown (sight c (r c)) (Body (own_word (r c).own (Home c)) (key % 16)) x = subst (λ d. IsKnown (sight c (r c)) (Body d (key % 16)) x) (sym same) known in
    let in_role : x ≢ 0 → IsIn (r c) AnEntry x = λ n. subst (λ u. IsIn (r c) (role_read u (key % 16)) x) role (looked_in g w r c h l m home (key % 16) x reads latch table plays (look n)) in
    record {
      latch = reads.latch ∙ latch;
      table = ap is_loose reads.part ∙ table;
      some = λ z. some (sym same ∙ z);
      role = ap (role_in (roles (r c))) same ∙ role_kept g w r c h l m home (key % 16) x reads latch table plays home Directory some (λ z. cc) role;
      word = known';
      next = λ n. (in_role n).1;
      walk = subst (λ d. IsWalking (sight c (r c)) key (Body d (key % 16)) x [] (chain_in (r c).part (key % 16))) same
          (walk_first g w r c h l (ap cover_of (reads.op ∙ idle)) (ap is_loose reads.part ∙ table) key x (λ z. some (sym same ∙ z)) known');
      here = in_role;
      lead = inl (ap (λ d. Body d (key % 16)) (sym same));
    }

-- the walk came to its end
pub seek_end : (g : Geometry) (w : Spot → ℕ) (r : ℕ → Memo) (c : ℕ) (h : HeldAt g w (view r)) (l : c < g.clients) (key first : ℕ) (p : Spot) (xs left : List Entry) → (r c).op ≡ Nothing → IsSeeking c (r c) key first p 0 xs left → IsVacant c (r c) key first
seek_end g w r c h l key first p xs left idle k = record { latch = k.latch; table = k.table; some = k.some; role = k.role; absent = walk_end g w r c h l (ap cover_of idle) k.table key p xs left k.walk; word = k.word; next = k.next }

-- the word that leads to the entry is one that may be stored
pub seek_own : (wide : Bool) (c : ℕ) (m : Memo) (key first : ℕ) (p : Spot) (at d i : ℕ) (xs left : List Entry) → m.op ≡ Nothing → IsSeeking c m key first p at xs left → p ≡ Body d i → IsOwnWord wide c m d i at
seek_own wide c m key first p at d i xs left idle k is =
    let home : ℕ = own_word m.own (Home c) in
    let word : IsKnown (sight c m) (Body d i) at = subst (λ q. IsKnown (sight c m) q at) is k.walk.known in
    elim k.lead [
      | inl z ↦ (let s : d ≡ home = (let q : Body d i ≡ Body home (key % 16) = sym is ∙ z in cc) in
          let b : i ≡ key % 16 = (let q : Body d i ≡ Body home (key % 16) = sym is ∙ z in cc) in
          directory_word wide c m d i at k.latch (ap (role_in (roles m)) s ∙ k.role) (home_reached c m d idle (sym s) (λ n. k.some (sym s ∙ n))) (omega arith) word)
      | inr (b, z, n, a) ↦ (let s : d ≡ b = (let q : Body d i ≡ Body b 0 = sym is ∙ z in cc) in
          let o : i ≡ 0 = (let q : Body d i ≡ Body b 0 = sym is ∙ z in cc) in
          entry_word wide c m d i at k.latch (ap (role_in (roles m)) s ∙ a.0) (look_reached c m d (ap (is_looked m) s ∙ a.1)) (omega arith) word)
    ]
