-- the first state of a pool holds
use Rattle.std.proofs.Common.{◌≡◌, ◌≢◌, ℕ, zero, suc, ◌+◌, ◌%◌, ◌^◌, ◌<◌, ◌≤◌, refl, sym, ap, ◌∙◌, arith, true, false, Bool, cond, eqb, ltb, lt-ltb, le-ltb, eq-eqb, eqb-true, subst, ◌&&◌, List, [], ◌∷◌, lit<, length, get_or, replicate, map, inl, inr}
use Rattle.std.proofs.{Math.Path.fun_ext, lemmas.List.{get_or-replicate, get_or_past, length-replicate}}
use Rattle.std.proofs.lemmas.{List.Elements.All-nil, Bool.{true≢false, ne_eqb, and_parts, and_from, cases_lt}}
use Rattle.std.specs.{Prelude.nat_eq, List.{All, Contains, IsDistinct}}
use Rattle.shm_words.specs.{declared.geometry.Geometry.Geometry, Headers.header_of}
use Rattle.shm_words.specs.Layout.{GeometryFits, total_of, place_at}
use Rattle.shm_words.proofs.Words.{header_of_zero, redo_zero}
use Rattle.shm_graph.specs.declared.spot.Spot.{Spot}
use Rattle.shm_graph.specs.declared.spot.Spot.TheVariants.{Spare, Status, Redo, RedoMore, Hold, Latch, Home, Era, Root, Tail, QueueHead, Slot, Segment, Page, Unused, Head, Tag, Body}
use Rattle.shm_graph.specs.declared.{memo.Memo.Memo, table.Entry.Entry, run.{Start.Start, Account.Account}}
use Rattle.shm_graph.specs.{Spots.{IsAt, see}, Agents.acts, Ops.{covered, Cover.Quiet}, References.words_of}
use Rattle.shm_graph.specs.{Tables.{Contents, IsPartition}, Views.{view, targets, own_word, owner_is}}
use Rattle.shm_graph.specs.Held.{HeldAt, FirstNames, PartTie, LaneSound}
use Rattle.shm_graph.specs.Runs.{Held, EraFits, first_word, first_part, first_memo, first_account, accounts_from, memos_of, words_from}
use Rattle.shm_graph.specs.Runs as runs
use Rattle.shm_graph.proofs.Spots.{Fixed.fixed_is_at, Starting.{first_words, IsFirst, see-first}}

-- ---- lists

pub same_everywhere : {X : Type 0} (n i : ℕ) (x : X) → get_or (replicate n x) i x ≡ x
same_everywhere n i x =
    elim (cases_lt i n) [
      | inl l ↦ get_or-replicate n i x x l
      | inr h ↦ get_or_past (replicate n x) i x (subst (λ m. m ≤ i) (sym (length-replicate n x)) h)
    ]

pub length-words_from : (f : ℕ → ℕ) (a n : ℕ) → length (words_from f a n) ≡ n
length-words_from f a zero = refl
length-words_from f a (suc n) = ap suc (length-words_from f (suc a) n)

pub at-words_from : (f : ℕ → ℕ) (a n i : ℕ) → i < n → get_or (words_from f a n) i 0 ≡ f (a + i)
at-words_from f a zero i l = absurd (omega arith)
at-words_from f a (suc n) zero l = let e : a ≡ a + 0 = omega arith in ap f e
at-words_from f a (suc n) (suc i) l = let e : suc a + i ≡ a + suc i = omega arith in at-words_from f (suc a) n i (omega arith) ∙ ap f e

pub length-accounts_from : (s : Start) (c n : ℕ) → length (accounts_from s c n) ≡ n
length-accounts_from s c zero = refl
length-accounts_from s c (suc n) = ap suc (length-accounts_from s (suc c) n)

pub at-accounts_from : (s : Start) (c n i : ℕ) (d : Account) → i < n → get_or (accounts_from s c n) i d ≡ first_account s (c + i)
at-accounts_from s c zero i d l = absurd (omega arith)
at-accounts_from s c (suc n) zero d l = let e : c ≡ c + 0 = omega arith in ap (first_account s) e
at-accounts_from s c (suc n) (suc i) d l = let e : suc c + i ≡ c + suc i = omega arith in at-accounts_from s (suc c) n i d (omega arith) ∙ ap (first_account s) e

-- ---- the memos by identity

-- what the pool of no clients is made of, from which the memos beyond the clients come
abbrev nowhere : Start
nowhere = record { geometry = record { clients = 0; segments = 0; wide = false }; first_era = 0; tables = false }

-- the memos that identities begin with, and one of nobody beyond the clients
abbrev pub start_memos : Start → ℕ → Memo
start_memos s c = first_memo (cond (ltb c s.geometry.clients) s nowhere) (cond (ltb c s.geometry.clients) c 0)

pub memos_start : (s : Start) → memos_of (accounts_from s 0 s.geometry.clients) ≡ start_memos s
memos_start s = fun_ext (λ c. elim (cases_lt c s.geometry.clients) [
  | inl l ↦ (let z : 0 + c ≡ c = omega arith in rw (lt-ltb c s.geometry.clients l) (ap (λ (x : Account). x.memo) (at-accounts_from s 0 s.geometry.clients c (first_account nowhere 0) l ∙ ap (first_account s) z)))
  | inr h ↦ (let e : ltb c s.geometry.clients ≡ false = le-ltb c s.geometry.clients h in rw e (ap (λ (x : Account). x.memo) (get_or_past (accounts_from s 0 s.geometry.clients) c (first_account nowhere 0) (subst (λ m. m ≤ c) (sym (length-accounts_from s 0 s.geometry.clients)) h))))
])

-- the memo that an identity of the pool begins with
pub first_memo_of : (s : Start) (c : ℕ) → c < s.geometry.clients → memos_of (accounts_from s 0 s.geometry.clients) c ≡ first_memo s c
first_memo_of s c l = ap (λ (r : ℕ → Memo). r c) (memos_start s) ∙ rw (lt-ltb c s.geometry.clients l) refl

-- no agent acts
pub nobody_acts : (s : Start) (c : ℕ) → acts (memos_of (accounts_from s 0 s.geometry.clients) c) ≡ false
nobody_acts s c = ap (λ (r : ℕ → Memo). acts (r c)) (memos_start s)

-- ---- the words and the targets

covered_quiet : (n x : ℕ) (p : Spot) → covered (λ c. Quiet) n p x ≡ x
covered_quiet zero x p = refl
covered_quiet (suc n) x p = covered_quiet n x p

no_target : (s : Start) (p : Spot) → targets s.geometry (first_words s.geometry s.first_era) (view (start_memos s)) p ≡ 0
no_target s (Home c) = covered_quiet s.geometry.clients 0 (Home c)
no_target s (Root c k) = covered_quiet s.geometry.clients 0 (Root c k)
no_target s (Slot i r k) = covered_quiet s.geometry.clients 0 (Slot i r k)
no_target s (Body b i) = either (ltb i ((words_of s.geometry.wide (first_words s.geometry s.first_era)).refs b))
  where
    either : (t : Bool) → cond t (covered (λ c. Quiet) s.geometry.clients (Body b i) 0) 0 ≡ 0
    either true = covered_quiet s.geometry.clients 0 (Body b i)
    either false = refl
no_target s Spare = refl
no_target s (Status c) = refl
no_target s (Redo c) = refl
no_target s (RedoMore c) = refl
no_target s (Hold c) = refl
no_target s (Latch c) = refl
no_target s (Era i j) = refl
no_target s (Tail i r) = refl
no_target s (QueueHead i r) = refl
no_target s (Segment i) = refl
no_target s (Page i q) = refl
no_target s (Unused a) = refl
no_target s (Head b) = refl
no_target s (Tag b) = refl

dead : (header_of 0).live ≡ true → ⊥
dead l = true≢false (sym l ∙ header_of_zero)

nothing : {X : Type 0} (x : X) → Contains {X = X} [] x → ⊥
nothing {X} x h = let l = h.1 in absurd (omega arith)

-- ---- the partitions

no_keys : IsDistinct nat_eq []
unfolding IsDistinct
no_keys = tt

empty_part : (x : Contents) (c home : ℕ) → home ≡ 0 → IsPartition x c home (λ b. get_or (replicate 16 []) b [])
empty_part x c home z =
    record {
      none = λ e b. same_everywhere 16 b [];
      shape = λ n. absurd (n z);
      author = λ n. absurd (n z);
      chain = λ n b l. absurd (n z);
      distinct = λ b. subst (λ (es : List Entry). IsDistinct nat_eq (map (λ (e : Entry). e.key) es)) (sym (same_everywhere 16 b [])) no_keys;
      beyond = λ b l. same_everywhere 16 b [];
    }

part_tie : (x : Contents) (c home : ℕ) (tables : Bool) → home ≡ 0 → PartTie x c home (first_part tables)
part_tie x c home false z = tt
part_tie x c home true z = empty_part x c home z

-- ---- the queues

empty_lane : (t : ℕ → ℕ) (sent : List ℕ) (unsent : ℕ) (received : List ℕ) (untaken : ℕ) → ((k : ℕ) → t k ≡ 0) → sent ≡ [] → unsent ≡ 0 → received ≡ [] → untaken ≡ 0 → LaneSound t 0 0 sent unsent received untaken
empty_lane t sent unsent received untaken z s u r k =
    record {
      all_sent = ap length (sym s);
      all_received = ap length (sym r);
      order = omega arith;
      room = omega arith;
      prefix = r;
      some = subst (λ bs. All (λ b. b ≢ 0) bs) (sym s) (All-nil (λ b. b ≢ 0));
      items = λ n lo hi e. absurd (omega arith);
      later = λ n lo hi. absurd (omega arith);
      taken = λ n. absurd (n k);
      outside = λ n lo hi. z (n % 8);
      next = λ l. z (0 % 8) ∙ sym u;
      full = λ e. u;
    }

-- ---- the own words

own_words : (s : Start) (c : ℕ) → c < s.geometry.clients → (start_memos s c).own ≡ record { spot = Era c c; value = s.first_era } ∷ []
own_words s c l = rw (lt-ltb c s.geometry.clients l) refl

own_first : (g : Geometry) (era c : ℕ) → c < g.clients → (p : Spot) → owner_is c p ≡ true → own_word (record { spot = Era c c; value = era } ∷ []) p ≡ first_words g era p
own_first g era c l (Era i j) o =
    subst (λ k. own_word (record { spot = Era c c; value = era } ∷ []) (Era k j) ≡ first_words g era (Era k j)) (eqb-true c i o) (rw (lt-ltb c g.clients l, eq-eqb c c refl) (both (eqb c j)))
  where
    both : (b : Bool) → cond b era 0 ≡ cond (b && true) era 0
    both true = refl
    both false = refl
own_first g era c l (Redo d) o = refl
own_first g era c l (RedoMore d) o = refl
own_first g era c l (Hold d) o = refl
own_first g era c l (Home d) o = refl
own_first g era c l (Root d k) o = refl
own_first g era c l (Tail d k) o = refl
own_first g era c l (QueueHead d k) o = refl
own_first g era c l _ o = cc

own_fresh : (era c : ℕ) (p : Spot) → p ≢ Era c c → own_word (record { spot = Era c c; value = era } ∷ []) p ≡ 0
own_fresh era c (Era i j) n = both (eqb c i && eqb c j) refl
  where
    both : (b : Bool) → (eqb c i && eqb c j) ≡ b → cond b era 0 ≡ 0
    both true e = absurd (n (let t = and_parts (eqb c i) (eqb c j) e in let x = eqb-true c i t.0 in let y = eqb-true c j t.1 in cc))
    both false e = refl
own_fresh era c _ n = refl

-- ---- the law over functions

-- what holds of the words that are 0, but the own eras, and of the memos that identities begin with
start_held : (s : Start) → GeometryFits s.geometry → EraFits s.first_era → HeldAt s.geometry (first_words s.geometry s.first_era) (view (start_memos s))
start_held s fits begins =
    record {
      fits = fits;
      small = small;
      there = there;
      spare = refl;
      unused = λ a. refl;
      sizes = record { holds = λ c. omega arith; latches = λ a. omega arith; segments = λ i. omega arith; classes = λ i q n. absurd (n refl) };
      mine = own;
      state = λ c l. refl;
      latch = λ c l. record { some = λ a e. cc; all = λ a e. absurd (omega arith) };
      segments = λ c l. record { listed = λ i x. absurd (nothing i x); all = λ i e. absurd (omega arith) };
      dying = λ c l. record { listed = λ b x. absurd (nothing b x); all = λ b x. absurd (dead x.0) };
      making = λ c l. tt;
      blocks = record { plain = λ b _. refl; tagged = λ b x. absurd (dead x); link = λ b x. absurd (dead x) };
      era = record {
        client = λ b x. absurd (dead x);
        age = λ b x. absurd (dead x);
        header = λ b x. absurd (dead x);
        row = λ i j li lj n. record { most = rw (ne_eqb i j n) (omega arith); equal = λ e. absurd (differs i j lj n e) };
        shown = λ c b l e. cc;
      };
      own = λ c l. record { some = rw (own_era c l) (begins.0); room = rw (own_era c l) (omega arith) };
      op = λ c l k. absurd (omega arith);
      redo = λ c l. record { second = inl refl; first = λ x r e. subst (FirstNames g (λ i q. 0)) (sym (redo_zero g.wide x r e)) tt };
      allowed = λ c l. tt;
      count = record { counts = λ b x. absurd (dead x); targets = λ p n. absurd (n (no_target s p)); held_overs = λ c l n. absurd (n refl) };
      slots = λ c l is. cc;
      looks = λ c l. tt;
      lanes = λ i r li lr n. empty_lane _ _ _ _ _ (λ k. no_target s (Slot i r k)) (same_everywhere _ r []) (same_everywhere _ r 0) (same_everywhere _ i []) (same_everywhere _ i 0);
      known = λ c l. All-nil _;
      facts = λ c l. All-nil _;
      zeros = λ c l. All-nil _;
      test = λ c l. tt;
      fresh = λ c l e. record {
        words = fresh c l;
        idle = refl;
        latched = refl;
        looked = refl;
        made = refl;
        segments = refl;
        dyings = refl;
        sends = λ r. same_everywhere _ r 0;
        takes = λ i. same_everywhere _ i 0;
      };
      gone = λ c l e. cc;
      self_lanes = λ c l. (refl, refl, λ k. no_target s (Slot c c k));
      no_queue = λ c l r x. (same_everywhere _ r 0, same_everywhere _ r 0);
      tails = λ c r l m. (rw (own_era c l) (omega arith), λ n _. absurd (n (same_everywhere _ r 0)));
      parts = λ c d l m. rw (lt-ltb c g.clients l, lt-ltb d g.clients m) refl;
      part = λ c l. part_tie _ c _ _ (no_target s (Home c));
      queued = λ c l e i r k n. absurd (n (no_target s (Slot i r k)));
      values = λ c l. All-nil _;
      made = λ c l. All-nil _;
    }
  where
    g : Geometry
    g = s.geometry

    era : ℕ
    era = s.first_era

    small : (p : Spot) → first_words g era p < 2 ^ 64
    small (Era i j) = (let both : (b : Bool) → cond b era 0 < 2 ^ 64 = elim [ true ↦ omega arith | false ↦ lit< tt ] in both (eqb i j && ltb i g.clients))
    small _ = lit< tt

    there : (p : Spot) → first_words g era p ≢ 0 → IsAt g (λ i q. 0) p
    there (Era i j) n = go (eqb i j && ltb i g.clients) refl n
      where
        go : (b : Bool) → (eqb i j && ltb i g.clients) ≡ b → cond b era 0 ≢ 0 → IsAt g (λ i q. 0) (Era i j)
        go true e n =
            let t = and_parts (eqb i j) (ltb i g.clients) e in
            let m : ltb j g.clients ≡ true = subst (λ k. ltb k g.clients ≡ true) (eqb-true i j t.0) t.1 in
            fixed_is_at g (λ i q. 0) (Era i j) refl (and_from _ _ t.1 m)
        go false e n = absurd (n refl)
    there _ n = absurd (n refl)

    own_era : (c : ℕ) → c < g.clients → (eqb c c && ltb c g.clients) ≡ true
    own_era c l = and_from (eqb c c) (ltb c g.clients) (eq-eqb c c refl) (lt-ltb c g.clients l)

    differs : (i j : ℕ) → j < g.clients → i ≢ j → cond (eqb i j && ltb i g.clients) era 0 ≡ cond (eqb j j && ltb j g.clients) era 0 → ⊥
    differs i j l n e = (let x : 0 ≡ era = rw (ne_eqb i j n, own_era j l) at e in absurd (omega (arith, begins.0)))

    own : (c : ℕ) → c < g.clients → (p : Spot) → owner_is c p ≡ true → own_word (start_memos s c).own p ≡ first_words g era p
    own c l p o = subst (λ ss. own_word ss p ≡ first_words g era p) (sym (own_words s c l)) (own_first g era c l p o)

    fresh : (c : ℕ) → c < g.clients → (p : Spot) → owner_is c p ≡ true → p ≢ Era c c → own_word (start_memos s c).own p ≡ 0
    fresh c l p o n = subst (λ ss. own_word ss p ≡ 0) (sym (own_words s c l)) (own_fresh era c p n)

-- ---- the first state

first_seen : (s : Start) → GeometryFits s.geometry → see s.geometry (runs.first_words s) ≡ first_words s.geometry s.first_era
first_seen s fits = see-first s.geometry (runs.first_words s) s.first_era fits is_first
  where
    is_first : IsFirst s.geometry s.first_era (runs.first_words s)
    is_first a l = (let z : 0 + a ≡ a = omega arith in at-words_from (λ a. first_word s.first_era (place_at s.geometry a)) 0 (total_of s.geometry) a l ∙ ap (λ a. first_word s.first_era (place_at s.geometry a)) z)

-- the first state holds, of the words that are seen
pub first_held_at : (s : Start) → GeometryFits s.geometry → EraFits s.first_era → HeldAt s.geometry (see s.geometry (runs.first_words s)) (view (memos_of (accounts_from s 0 s.geometry.clients)))
first_held_at s fits begins =
    subst (λ (w : Spot → ℕ). HeldAt s.geometry w (view (memos_of (accounts_from s 0 s.geometry.clients)))) (sym (first_seen s fits))
    (subst (λ (r : ℕ → Memo). HeldAt s.geometry (first_words s.geometry s.first_era) (view r)) (sym (memos_start s)) (start_held s fits begins))

-- and of the lists
pub first_held : (s : Start) → GeometryFits s.geometry → EraFits s.first_era → Held s.geometry (runs.first_words s) (accounts_from s 0 s.geometry.clients)
first_held s fits begins =
    record {
      words = length-words_from (λ a. first_word s.first_era (place_at s.geometry a)) 0 (total_of s.geometry);
      accounts = length-accounts_from s 0 s.geometry.clients;
      at = first_held_at s fits begins;
    }
