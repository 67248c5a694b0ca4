-- partitions: what they are once one reference word of the directory or of an entry has changed
use Rattle.std.proofs.Common.{◌≡◌, ◌≢◌, ℕ, ◌%◌, ◌<◌, ◌⊎◌, refl, sym, ap, ◌∙◌, subst, arith, true, eqb, List, [], ◌∷◌, ◌++◌, map, get_or, replicate, None, inl, inr, nat_eq, zero, suc}
use Rattle.std.proofs.lemmas.Bool.{cases_eq, cases_lt, eq-eqb, ne_eqb, cond-true, cond-false}
use Rattle.std.specs.List.{IsDistinct}
use Rattle.shm_words.specs.Tags.{tag_refs, tag_author}
use Rattle.shm_graph.specs.declared.{spot.Spot.TheVariants.Body, memo.Stored.Stored, table.Entry.Entry}
use Rattle.shm_graph.specs.Tables.{Contents, HasShape, IsEntry, IsChain, IsPartition, find}
use Rattle.shm_graph.specs.{Chains.{word_known, entry_known, relinked, chain_set, bucket_set, chains_set}, Views.at1}
use Rattle.shm_graph.proofs.Runs.Lists.{at1_here, at1_other}
use Rattle.kind_parts.specs.Reparting.{link_after}
use Rattle.kind_parts.proofs.Partitions.Relinking.{AreKeyed, keyed, keyed_distinct, keyed_drop, keyed_put, IsWithout, AreApart, without_part, without_key, without_refs, other_bucket, chain_apart, chain_part, from_next, from_new, unset, chain_stays, unlinked, link_not, link_placed, with_value, revalued, bucket_here, bucket_other, chains_at, shape_set}

-- the chains of a list, by bucket
abbrev pub listed : List (List Entry) → ℕ → List Entry
listed ess b = get_or ess b []

-- a partition whose chains are these, one by one
pub partition_same : (z : Contents) (c home : ℕ) (chains chains' : ℕ → List Entry) → ((b : ℕ) → chains' b ≡ chains b) → IsPartition z c home chains → IsPartition z c home chains'
partition_same z c home chains chains' e h =
    record {
      none = λ n b. e b ∙ h.none n b;
      shape = h.shape;
      author = h.author;
      chain = λ n b l. subst (IsChain z c b (z.refs home b)) (sym (e b)) (h.chain n b l);
      distinct = λ b. subst (λ es. IsDistinct nat_eq (map (λ (x : Entry). x.key) es)) (sym (e b)) (h.distinct b);
      beyond = λ b l. e b ∙ h.beyond b l;
    }

-- the empty partition of a new directory
pub empty_at : (n b : ℕ) → ◌≡◌ {A = List Entry} (get_or (replicate n []) b []) []
empty_at zero b = refl
empty_at (suc n) zero = refl
empty_at (suc n) (suc b) = empty_at n b

nothing_distinct : IsDistinct nat_eq (map (λ (x : Entry). x.key) [])
unfolding IsDistinct
nothing_distinct = tt

pub empty_partition : (z : Contents) (c d : ℕ) → HasShape z 16 0 d → tag_author z.wide (z.tag d) ≡ c → ((b : ℕ) → b < 16 → z.refs d b ≡ 0) → IsPartition z c d (λ b. [])
empty_partition z c d shape author zeros =
    record {
      none = λ n b. refl;
      shape = λ n. shape;
      author = λ n. author;
      chain = λ n b l. zeros b l;
      distinct = λ b. nothing_distinct;
      beyond = λ b l. refl;
    }

-- ---- a partition

module _ (z : Contents) (c home : ℕ) (chains : ℕ → List Entry) (part : IsPartition z c home chains) (some : (b : ℕ) → (z.head b).live ≡ true → b ≢ 0) where
  -- each chain's keys and blocks are distinct
  pub keyed_at : (b : ℕ) → AreKeyed (chains b)
  keyed_at b = keyed (chains b) (part.distinct b)

  pub apart_at : (b : ℕ) → home ≢ 0 → b < 16 → AreApart (chains b)
  apart_at b n l = chain_apart z c b (z.refs home b) (chains b) (part.chain n b l) (keyed_at b)

  -- the directory is no entry's block
  pub without_home : home ≢ 0 → (b : ℕ) → IsWithout home (chains b)
  without_home n b =
      elim (cases_lt b 16) [
        | inl l ↦ without_refs z c b (z.refs home b) home (chains b) (part.chain n b l) (λ s. let r = (part.shape n).names in absurd (omega arith))
        | inr m ↦ subst (IsWithout home) (sym (part.beyond b m)) tt
      ]

  -- a block with two references is no directory
  pub not_home : (d : ℕ) → (z.head d).live ≡ true → tag_refs z.wide (z.tag d) ≡ 2 → d ≢ home
  not_home d live two s =
      let n : home ≢ 0 = (λ e. some d live (s ∙ e)) in
      let r : tag_refs z.wide (z.tag d) ≡ 16 = ap (λ b. tag_refs z.wide (z.tag b)) s ∙ (part.shape n).names in
      absurd (omega arith)

  -- a bucket that has an entry is one of 16, of a directory
  pub has_home : (b : ℕ) (xs : List Entry) (e : Entry) (ys : List Entry) → chains b ≡ xs ++ e ∷ ys → home ≢ 0
  has_home b xs e ys s n = nothing xs (sym (part.none n b) ∙ s)
    where
      nothing : (xs : List Entry) → [] ≡ xs ++ e ∷ ys → ⊥
      nothing [] s = cc
      nothing (x ∷ xs) s = cc

  -- the other chains have no block whose key is of this bucket
  pub without_other : (d b n : ℕ) → z.body d 2 % 16 ≡ b → n ≢ b → IsWithout d (chains n)
  without_other d b n e o =
      elim (cases_eq home 0) [
        | inl s ↦ subst (IsWithout d) (sym (part.none s n)) tt
        | inr s ↦ elim (cases_lt n 16) [
          | inl l ↦ without_key z c n (z.refs home n) d (chains n) (part.chain s n l) (other_bucket z c n (z.refs home n) (z.body d 2) (chains n) (part.chain s n l) (λ q. o (q ∙ e)))
          | inr m ↦ subst (IsWithout d) (sym (part.beyond n m)) tt
        ]
      ]

  -- and where its key isn't found no chain has it
  pub without_new : (d : ℕ) → find (z.body d 2) (chains (z.body d 2 % 16)) ≡ None → (n : ℕ) → IsWithout d (chains n)
  without_new d absent n =
      elim (cases_eq n (z.body d 2 % 16)) [
        | inl s ↦ subst (λ b. IsWithout d (chains b)) (sym s) (here (cases_eq home 0))
        | inr o ↦ without_other d (z.body d 2 % 16) n refl o
      ]
    where
      b : ℕ
      b = z.body d 2 % 16

      here : (home ≡ 0) ⊎ (home ≢ 0) → IsWithout d (chains (z.body d 2 % 16))
      here (inl s) = subst (IsWithout d) (sym (part.none s (z.body d 2 % 16))) tt
      here (inr s) = without_key z c (z.body d 2 % 16) (z.refs home (z.body d 2 % 16)) d (chains (z.body d 2 % 16)) (part.chain s (z.body d 2 % 16) (let r = z.body d 2 in omega arith)) absent

  -- ---- one reference word changed

  module _ (f : ℕ → ℕ → ℕ) (d i x : ℕ) (set : f d i ≡ x) (rest : (b j : ℕ) → (b ≡ d → j ≡ i → ⊥) → f b j ≡ z.refs b j) where
    abbrev pub after : Contents
    after = record z { refs = f }

    -- one chain is another then, and the others are as before
    pub one_left : (b : ℕ) (es : List Entry) → home ≢ 0 → b < 16 → AreKeyed es → IsChain after c b (f home b) es → ((n : ℕ) → n ≢ b → n < 16 → IsChain after c n (f home n) (chains n)) → IsPartition after c home (at1 chains b es)
    one_left b es some low keys new old =
        record {
          none = λ n _. absurd (some n);
          shape = λ n. shape_set z f d i x set rest 16 0 home (part.shape n);
          author = part.author;
          chain = λ n k l. elim (cases_eq b k) [
            | inl s ↦ subst (λ (q : ℕ). IsChain after c q (f home q) (at1 chains b es q)) s (subst (IsChain after c b (f home b)) (sym (at1_here chains b es)) new)
            | inr o ↦ subst (IsChain after c k (f home k)) (sym (at1_other chains b es k o)) (old k (λ q. o (sym q)) l)
          ];
          distinct = λ k. elim (cases_eq b k) [
            | inl s ↦ subst (λ (q : ℕ). IsDistinct nat_eq (map (λ (y : Entry). y.key) (at1 chains b es q))) s (subst (λ u. IsDistinct nat_eq (map (λ (y : Entry). y.key) u)) (sym (at1_here chains b es)) (keyed_distinct es keys))
            | inr o ↦ subst (λ u. IsDistinct nat_eq (map (λ (y : Entry). y.key) u)) (sym (at1_other chains b es k o)) (part.distinct k)
          ];
          beyond = λ k m. at1_other chains b es k (λ s. (absurd (omega arith))) ∙ part.beyond k m;
        }

    -- no chain has the block, and it isn't the directory: the partition stays
    pub same_left : home ≢ d → ((n : ℕ) → IsWithout d (chains n)) → IsPartition after c home chains
    same_left other without =
        record {
          none = part.none;
          shape = λ n. shape_set z f d i x set rest 16 0 home (part.shape n);
          author = part.author;
          chain = λ n b l. subst (λ a. IsChain after c b a (chains b)) (sym (rest home b (λ s _. other s))) (chain_stays z f d i x set rest c b (z.refs home b) (chains b) (without b) (part.chain n b l));
          distinct = part.distinct;
          beyond = part.beyond;
        }

    -- the other chains, where the word is of an entry of this bucket
    pub others_stay : home ≢ 0 → home ≢ d → (b : ℕ) → z.body d 2 % 16 ≡ b → (n : ℕ) → n ≢ b → n < 16 → IsChain after c n (f home n) (chains n)
    others_stay some other b e n o l =
        subst (λ a. IsChain after c n a (chains n)) (sym (rest home n (λ s _. other s))) (chain_stays z f d i x set rest c n (z.refs home n) (chains n) (without_other d b n e o) (part.chain some n l))

    -- and where it is the bucket's own
    pub buckets_stay : home ≢ 0 → home ≡ d → (n : ℕ) → n ≢ i → n < 16 → IsChain after c n (f home n) (chains n)
    buckets_stay some is n o l =
        subst (λ a. IsChain after c n a (chains n)) (sym (rest home n (λ _ s. o s))) (chain_stays z f d i x set rest c n (z.refs home n) (chains n) (subst (λ q. IsWithout q (chains n)) is (without_home some n)) (part.chain some n l))

    -- ---- an entry is taken out

    -- the word that leads to an entry leads to the one after it
    pub entry_out : (b : ℕ) (xs : List Entry) (e : Entry) (ys : List Entry) (known : List Stored) → b < 16 → chains b ≡ xs ++ e ∷ ys → Body d i ≡ link_after home b xs → e.block ≢ x → z.refs e.block 0 ≡ x
        → (ess : List (List Entry)) → ((n : ℕ) → listed ess n ≡ chains n)
        → ((n : ℕ) → listed (chains_set known c home (Body d i) x ess) n ≡ at1 chains b (xs ++ ys) n) × IsPartition after c home (at1 chains b (xs ++ ys))
    entry_out b [] e ys known low is word other next ess list =
        let nz : home ≢ 0 = has_home b [] e ys is in
        let hd : home ≡ d = cc in
        let ib : b ≡ i = cc in
        let here : IsChain z c b (z.refs home b) (e ∷ ys) = subst (IsChain z c b (z.refs home b)) is (part.chain nz b low) in
        let tail : IsChain z c b x ys = subst (λ a. IsChain z c b a ys) next here.2 in
        let off : IsWithout d ys = subst (λ q. IsWithout q ys) hd ((let w : IsWithout home (e ∷ ys) = subst (IsWithout home) is (without_home nz b) in w).1) in
        let keys : AreKeyed (e ∷ ys) = subst AreKeyed is (keyed_at b) in (
          λ n. ap (λ u. listed u n) (cond-true (eqb d home) (bucket_set (relinked known x) i ess) (map (chain_set known d i x) ess) (eq-eqb d home (sym hd)))
              ∙ elim (cases_eq b n) [
                | inl s ↦ ap (λ q. listed (bucket_set (relinked known x) q ess) n) (sym ib)
                    ∙ (ap (λ q. listed (bucket_set (relinked known x) b ess) q) (sym s)
                    ∙ (bucket_here (relinked known x) b ess
                    ∙ (ap (relinked known x) (list b ∙ is)
                    ∙ (from_next z c b known x e ys some other tail
                    ∙ (sym (at1_here chains b ys) ∙ ap (at1 chains b ys) s)))))
                | inr o ↦ bucket_other (relinked known x) i n ess (λ q. o (ib ∙ sym q)) ∙ (list n ∙ sym (at1_other chains b ys n o))
              ],
          one_left b ys nz low keys.1
              (subst (λ a. IsChain after c b a ys) (sym (ap (λ a. f a b) hd ∙ (ap (f d) ib ∙ set))) (chain_stays z f d i x set rest c b x ys off tail))
              (λ n o l. buckets_stay nz hd n (λ q. o (q ∙ sym ib)) l),
        )
    entry_out b (p ∷ bs) e ys known low is word other next ess list =
        let nz : home ≢ 0 = has_home b (p ∷ bs) e ys is in
        let here : IsChain z c b (z.refs home b) (p ∷ bs ++ e ∷ ys) = subst (IsChain z c b (z.refs home b)) is (part.chain nz b low) in
        let off : home ≢ d = link_not home d i p bs (e ∷ ys) (sym word) (subst (IsWithout home) is (without_home nz b)) in
        let apart : AreApart (p ∷ bs ++ e ∷ ys) = subst AreApart is (apart_at b nz low) in
        let u = unlinked z f d i x set rest c b (z.refs home b) known p bs e ys some (sym word) apart other next here in
        let at : z.body d 2 % 16 ≡ b = link_placed z c b (z.refs home b) d i p bs (e ∷ ys) (sym word) here in
        let keys : AreKeyed (p ∷ bs ++ e ∷ ys) = subst AreKeyed is (keyed_at b) in (
          λ n. ap (λ q. listed q n) (cond-false (eqb d home) (bucket_set (relinked known x) i ess) (map (chain_set known d i x) ess) (ne_eqb d home (λ s. off (sym s))))
              ∙ (chains_at (chain_set known d i x) n ess refl
              ∙ (ap (chain_set known d i x) (list n)
              ∙ elim (cases_eq b n) [
                | inl s ↦ subst (λ q. chain_set known d i x (chains q) ≡ at1 chains b (p ∷ bs ++ ys) q) s (ap (chain_set known d i x) is ∙ (u.0 ∙ sym (at1_here chains b (p ∷ bs ++ ys))))
                | inr o ↦ unset known d i x (chains n) (without_other d b n at (λ q. o (sym q))) ∙ sym (at1_other chains b (p ∷ bs ++ ys) n o)
              ])),
          one_left b (p ∷ bs ++ ys) nz low (keyed_drop (p ∷ bs) e ys keys).0
              (subst (λ a. IsChain after c b a (p ∷ bs ++ ys)) (sym (rest home b (λ s _. off s))) u.1)
              (others_stay nz off b at),
        )

    -- ---- an entry is put in

    -- a new entry begins the chain of its bucket
    pub entry_in : (b : ℕ) (known : List Stored) → b < 16 → home ≢ 0 → home ≡ d → b ≡ i → x ≢ 0 → tag_refs z.wide (z.tag x) ≡ 2 → (entry_known known x).key ≡ z.body x 2 → find (z.body x 2) (chains b) ≡ None → word_known known x 0 ≡ z.refs home b → z.refs x 0 ≡ z.refs home b
        → IsEntry z c b (entry_known known x)
        → (ess : List (List Entry)) → ((n : ℕ) → listed ess n ≡ chains n)
        → ((n : ℕ) → listed (chains_set known c home (Body d i) x ess) n ≡ at1 chains b (entry_known known x ∷ chains b) n) × IsPartition after c home (at1 chains b (entry_known known x ∷ chains b))
    entry_in b known low nz hd ib xs two key absent next names entry ess list =
        let here : IsChain z c b (z.refs home b) (chains b) = part.chain nz b low in
        let off : IsWithout x (chains b) = without_key z c b (z.refs home b) x (chains b) here absent in
        let other : x ≢ home = (λ s. let r : tag_refs z.wide (z.tag x) ≡ 16 = ap (λ q. tag_refs z.wide (z.tag q)) s ∙ (part.shape nz).names in absurd (omega arith)) in
        let e : Entry = entry_known known x in (
          λ n. ap (λ u. listed u n) (cond-true (eqb d home) (bucket_set (relinked known x) i ess) (map (chain_set known d i x) ess) (eq-eqb d home (sym hd)))
              ∙ elim (cases_eq b n) [
                | inl s ↦ ap (λ q. listed (bucket_set (relinked known x) q ess) n) (sym ib)
                    ∙ (ap (λ q. listed (bucket_set (relinked known x) b ess) q) (sym s)
                    ∙ (bucket_here (relinked known x) b ess
                    ∙ (ap (relinked known x) (list b)
                    ∙ (from_new z c b known x (z.refs home b) (chains b) xs off next here
                    ∙ (sym (at1_here chains b (e ∷ chains b)) ∙ ap (at1 chains b (e ∷ chains b)) s)))))
                | inr o ↦ bucket_other (relinked known x) i n ess (λ q. o (ib ∙ sym q)) ∙ (list n ∙ sym (at1_other chains b (e ∷ chains b) n o))
              ],
          one_left b (e ∷ chains b) nz low (ap (λ k. find k (chains b)) key ∙ absent, keyed_at b) (
            ap (λ a. f a b) hd ∙ (ap (f d) ib ∙ set),
            (let y : IsEntry after c b e = record {
              shape = shape_set z f d i x set rest 2 1 x entry.shape;
              author = entry.author;
              key = entry.key;
              small = entry.small;
              placed = entry.placed;
              value = rest x 1 (λ s _. other (s ∙ sym hd)) ∙ entry.value;
              holds = shape_set z f d i x set rest 0 1 e.value entry.holds;
              number = entry.number;
            } in y),
            subst (λ a. IsChain after c b a (chains b)) (sym (rest x 0 (λ s _. other (s ∙ sym hd)) ∙ names))
                (chain_stays z f d i x set rest c b (z.refs home b) (chains b) (subst (λ q. IsWithout q (chains b)) hd (without_home nz b)) here),
          )
              (λ n o l. buckets_stay nz hd n (λ q. o (q ∙ sym ib)) l),
        )

  -- ---- an entry has another value

  module _ (f : ℕ → ℕ → ℕ) (d x : ℕ) (set : f d 1 ≡ x) (rest : (b j : ℕ) → (b ≡ d → j ≡ 1 → ⊥) → f b j ≡ z.refs b j) where
    pub entry_valued : (b : ℕ) (xs : List Entry) (e : Entry) (ys : List Entry) (known : List Stored) → b < 16 → chains b ≡ xs ++ e ∷ ys → e.block ≡ d → HasShape z 0 1 x → z.body x 0 ≡ word_known known x 0
        → (ess : List (List Entry)) → ((n : ℕ) → listed ess n ≡ chains n)
        → ((n : ℕ) → listed (chains_set known c home (Body d 1) x ess) n ≡ at1 chains b (xs ++ with_value known x e ∷ ys) n) × IsPartition (record z { refs = f }) c home (at1 chains b (xs ++ with_value known x e ∷ ys))
    entry_valued b xs e ys known low is ed holds number ess list =
        let nz : home ≢ 0 = has_home b xs e ys is in
        let here : IsChain z c b (z.refs home b) (xs ++ e ∷ ys) = subst (IsChain z c b (z.refs home b)) is (part.chain nz b low) in
        let entry : IsEntry z c b e = (chain_part z c b (z.refs home b) xs e ys here).0 in
        let off : home ≢ d = (λ s. (without_part home xs (e ∷ ys) (subst (IsWithout home) is (without_home nz b))).0 (ed ∙ sym s)) in
        let apart : AreApart (xs ++ e ∷ ys) = subst AreApart is (apart_at b nz low) in
        let u = revalued z f d x set rest c b known e ys ed holds number (z.refs home b) xs apart here in
        let at : z.body d 2 % 16 ≡ b = ap (λ q. z.body q 2 % 16) (sym ed) ∙ (ap (λ k. k % 16) entry.key ∙ entry.placed) in
        let keys : AreKeyed (xs ++ e ∷ ys) = subst AreKeyed is (keyed_at b) in
        let es : List Entry = xs ++ with_value known x e ∷ ys in (
          λ n. ap (λ q. listed q n) (cond-false (eqb d home) (bucket_set (relinked known x) 1 ess) (map (chain_set known d 1 x) ess) (ne_eqb d home (λ s. off (sym s))))
              ∙ (chains_at (chain_set known d 1 x) n ess refl
              ∙ (ap (chain_set known d 1 x) (list n)
              ∙ elim (cases_eq b n) [
                | inl s ↦ subst (λ q. chain_set known d 1 x (chains q) ≡ at1 chains b es q) s (ap (chain_set known d 1 x) is ∙ (u.0 ∙ sym (at1_here chains b es)))
                | inr o ↦ unset known d 1 x (chains n) (without_other d b n at (λ q. o (sym q))) ∙ sym (at1_other chains b es n o)
              ])),
          one_left f d 1 x set rest b es nz low (keyed_put xs e (with_value known x e) ys refl keys)
              (subst (λ a. IsChain (record z { refs = f }) c b a es) (sym (rest home b (λ s _. off s))) u.1)
              (others_stay f d 1 x set rest nz off b at),
        )
