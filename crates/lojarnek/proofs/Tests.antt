-- what is wrong with a call on blocks, as it is tested
use Rattle.std.proofs.Common.{◌≡◌, ◌≢◌, ℕ, ◌<◌, ◌≤◌, Bool, true, false, Result, Ok, Err, inl, inr, refl, sym, ap, ◌∙◌, subst, arith}
use Rattle.std.proofs.lemmas.Bool.{eq-eqb, eqb-true, le-leb, leb-true, lt-leb, ne_eqb}
use Rattle.std.specs.Prelude.{Option, Some, None, IfOk, nat_le, ◌==◌, if◌then◌else◌}
use Rattle.shm_pool.specs.Tokens.{Its}
use Rattle.lojarnek.specs.declared.error.{Bound.{Bound, TheVariants.{Plains, Reference, References, Root}}, Error.Error}
use Rattle.lojarnek.specs.declared.error.Error.TheVariants.{Died, EmptyRoot, NoSuchClient, OutOfRange, ToItself, WrongKind}
use Rattle.lojarnek.specs.declared.place.Place.{Place}
use Rattle.lojarnek.specs.Blocks.{IsBeyond, IsBlockOf, IsRefusedFirst, IsWrongOn, alloc_wrong, empty_wrong, first_of, kind_wrong, limit_wrong, names, other_wrong, queue_wrong, root_wrong, word_wrong}
use Rattle.lojarnek.specs.{Following.follow_wrong, Roots.IsAtBlocks, Setting.set_wrong, Standing.Acts}
use Rattle.lojarnek.specs.Tables.{unknown_of}

-- the pool is for tables
wrong_kind : (c : Acts) (w : Option Error) → c.token.of.start.tables ≡ true → IsRefusedFirst (first_of (kind_wrong c) w) c WrongKind
wrong_kind c w tables = record { is = inl (rw tables refl); why = tables }

pub root_tables : (c : Acts) (k : ℕ) → c.token.of.start.tables ≡ true → IsRefusedFirst (root_wrong c k) c WrongKind
root_tables c k tables = wrong_kind c (first_of (limit_wrong 16 Root k) (empty_wrong c k)) tables

pub alloc_tables : (c : Acts) (n m : ℕ) → c.token.of.start.tables ≡ true → IsRefusedFirst (alloc_wrong c n m) c WrongKind
alloc_tables c n m tables = wrong_kind c (first_of (limit_wrong 17 References n) (limit_wrong 9 Plains m)) tables

pub follow_tables : (c : Acts) (a k j : ℕ) → c.token.of.start.tables ≡ true → IsRefusedFirst (follow_wrong c a k j) c WrongKind
follow_tables c a k j tables = wrong_kind c (first_of (unknown_of c a) (word_wrong 16 Reference c k j)) tables

kind_right : (c : Acts) (w : Option Error) → c.token.of.start.tables ≡ false → first_of (kind_wrong c) w ≡ w
kind_right c w blocks = rw blocks refl

limit_right : (limit : ℕ) (x : Bound) (n : ℕ) (w : Option Error) → n < limit → first_of (limit_wrong limit x n) w ≡ w
limit_right limit x n w low = let e : nat_le limit n ≡ false = lt-leb limit n low in rw e refl

limit_beyond : (limit : ℕ) (x : Bound) (n : ℕ) (w : Option Error) → limit ≤ n → first_of (limit_wrong limit x n) w ≡ Some (OutOfRange n x)
limit_beyond limit x n w high = let e : nat_le limit n ≡ true = le-leb limit n high in rw e refl

-- ---- a root

root_right : (c : Acts) (k : ℕ) → c.token.of.start.tables ≡ false → k < 16 → root_wrong c k ≡ empty_wrong c k
root_right c k blocks low = kind_right c (first_of (limit_wrong 16 Root k) (empty_wrong c k)) blocks ∙ limit_right 16 Root k (empty_wrong c k) low

pub root_beyond : (c : Acts) (k : ℕ) → c.token.of.start.tables ≡ false → 16 ≤ k → IsRefusedFirst (root_wrong c k) c (OutOfRange k Root)
root_beyond c k blocks high = record { is = inl (kind_right c (first_of (limit_wrong 16 Root k) (empty_wrong c k)) blocks ∙ limit_beyond 16 Root k (empty_wrong c k) high); why = high }

pub root_dead : (c : Acts) (k : ℕ) → c.token.of.start.tables ≡ false → k < 16 → c.token.dead ≡ true → IsRefusedFirst (root_wrong c k) c (Died false)
root_dead c k blocks low dead = record { is = inr (root_right c k blocks low ∙ rw dead refl, dead, refl); why = (dead, refl) }

pub root_empty : (c : Acts) (k : ℕ) → c.token.of.start.tables ≡ false → k < 16 → c.token.dead ≡ false → names c k ≡ 0 → IsRefusedFirst (root_wrong c k) c (EmptyRoot k)
root_empty c k blocks low alive none =
    let e : (names c k == 0) ≡ true = eq-eqb (names c k) 0 none in
    record { is = inl (root_right c k blocks low ∙ rw (alive, e) refl); why = (alive, none) }

root_there : (c : Acts) (k : ℕ) → c.token.of.start.tables ≡ false → k < 16 → c.token.dead ≡ false → names c k ≢ 0 → root_wrong c k ≡ None
root_there c k blocks low alive some =
    let e : (names c k == 0) ≡ false = ne_eqb (names c k) 0 some in
    root_right c k blocks low ∙ rw (alive, e) refl

pub block_there : (c : Acts) (k b : ℕ) → IsAtBlocks c.token → k < 16 → b ≢ 0 → names c k ≡ b → IsBlockOf k b c × (root_wrong c k ≡ None)
block_there c k b at low some named = (record { at = at; low = low; some = some; named = named }, root_there c k at.kind low at.alive (λ none. some (sym named ∙ none)))

-- ---- a word of the block that it names

pub word_beyond : (limit : ℕ) (x : Bound) (c : Acts) (k j : ℕ) → limit ≤ j → IsBeyond j x → IsRefusedFirst (word_wrong limit x c k j) c (OutOfRange j x)
word_beyond limit x c k j high beyond = record { is = inl (limit_beyond limit x j (root_wrong c k) high); why = beyond }

pub word_right : (limit : ℕ) (x : Bound) (c : Acts) (k j : ℕ) → j < limit → word_wrong limit x c k j ≡ root_wrong c k
word_right limit x c k j low = limit_right limit x j (root_wrong c k) low

-- whatever the test of the root answers
pub word_there : (limit : ℕ) (x : Bound) (c : Acts) (k j : ℕ) → j < limit → (r : Result ℕ Error) → IfOk r (λ b. IsBlockOf k b c × (root_wrong c k ≡ None)) → IfOk r (λ b. IsBlockOf k b c × (word_wrong limit x c k j ≡ None))
word_there limit x c k j low (Ok b) h = (h.0, word_right limit x c k j low ∙ h.1)
word_there limit x c k j low (Err e) h = tt

pub word_refused : (limit : ℕ) (x : Bound) (c : Acts) (k j : ℕ) (e : Error) → j < limit → IsRefusedFirst (root_wrong c k) c e → IsRefusedFirst (word_wrong limit x c k j) c e
word_refused limit x c k j e low h = rw (word_right limit x c k j low) h

-- ---- an allocation

pub refs_beyond : (c : Acts) (n m : ℕ) → c.token.of.start.tables ≡ false → 16 < n → IsRefusedFirst (alloc_wrong c n m) c (OutOfRange n References)
refs_beyond c n m blocks high = record { is = inl (kind_right c (first_of (limit_wrong 17 References n) (limit_wrong 9 Plains m)) blocks ∙ limit_beyond 17 References n (limit_wrong 9 Plains m) (omega arith)); why = high }

sizes_right : (c : Acts) (n m : ℕ) → c.token.of.start.tables ≡ false → n ≤ 16 → alloc_wrong c n m ≡ limit_wrong 9 Plains m
sizes_right c n m blocks low = kind_right c (first_of (limit_wrong 17 References n) (limit_wrong 9 Plains m)) blocks ∙ limit_right 17 References n (limit_wrong 9 Plains m) (omega arith)

pub plains_beyond : (c : Acts) (n m : ℕ) → c.token.of.start.tables ≡ false → n ≤ 16 → 8 < m → IsRefusedFirst (alloc_wrong c n m) c (OutOfRange m Plains)
plains_beyond c n m blocks low high =
    let e : nat_le 9 m ≡ true = le-leb 9 m (omega arith) in
    record { is = inl (sizes_right c n m blocks low ∙ rw e refl); why = high }

sizes_fit : (c : Acts) (n m : ℕ) → c.token.of.start.tables ≡ false → n ≤ 16 → m ≤ 8 → alloc_wrong c n m ≡ None
sizes_fit c n m blocks low few =
    let e : nat_le 9 m ≡ false = lt-leb 9 m (omega arith) in
    sizes_right c n m blocks low ∙ rw e refl

pub may_make : (c : Acts) (n m : ℕ) → IsAtBlocks c.token → n ≤ 16 → m ≤ 8 → IsAtBlocks c.token × (n ≤ 16) × (m ≤ 8) × (alloc_wrong c n m ≡ None)
may_make c n m at low few = (at, low, few, sizes_fit c n m at.kind low few)

pub sizes_dead : (c : Acts) (n m : ℕ) → c.token.of.start.tables ≡ false → n ≤ 16 → m ≤ 8 → c.token.dead ≡ true → IsRefusedFirst (alloc_wrong c n m) c (Died false)
sizes_dead c n m blocks low few dead = record { is = inr (sizes_fit c n m blocks low few, dead, refl); why = (dead, refl) }

-- ---- a queue

pub unknown_why : (c : Acts) (a : ℕ) (e : Error) → unknown_of c a ≡ Some e → IsWrongOn c e
unknown_why c a e is = within (nat_le c.token.of.start.geometry.clients a) refl is
  where
    within : (b : Bool) → nat_le c.token.of.start.geometry.clients a ≡ b → (if b then Some (NoSuchClient a c.token.of.start.geometry.clients) else None) ≡ Some e → IsWrongOn c e
    within true high is = let same : NoSuchClient a c.token.of.start.geometry.clients ≡ e = (cc) in subst (IsWrongOn c) same (refl, leb-true c.token.of.start.geometry.clients a high)
    within false low is = absurd (cc)

pub other_why : (c : Acts) (a : ℕ) (e : Error) → other_wrong c a ≡ Some e → IsWrongOn c e
other_why c a e is = by (a == c.token.account.who) refl is
  where
    by : (b : Bool) → (a == c.token.account.who) ≡ b → (if b then Some (ToItself a) else unknown_of c a) ≡ Some e → IsWrongOn c e
    by true same is = let it : ToItself a ≡ e = (cc) in subst (IsWrongOn c) it (eqb-true a c.token.account.who same)
    by false other is = unknown_why c a e is

pub queue_kind : (c : Acts) (a : ℕ) → c.token.of.start.tables ≡ true → queue_wrong c a ≡ Some WrongKind
queue_kind c a tables = rw tables refl

pub queue_other : (c : Acts) (a : ℕ) → c.token.of.start.tables ≡ false → queue_wrong c a ≡ other_wrong c a
queue_other c a blocks = kind_right c (other_wrong c a) blocks

-- the client that was named is wrong, or what comes after it
pub queue_first : (c : Acts) (w : Option Error) (a : ℕ) (e : Error) → queue_wrong c a ≡ Some e → IsWrongOn c e → IsRefusedFirst (first_of (queue_wrong c a) w) c e
queue_first c w a e is why = record { is = inl (rw is refl); why = why }

pub queue_then : (c : Acts) (w : Option Error) (a : ℕ) (e : Error) → queue_wrong c a ≡ None → IsRefusedFirst w c e → IsRefusedFirst (first_of (queue_wrong c a) w) c e
queue_then c w a e none h = rw none h

pub queue_right : (c : Acts) (w : Option Error) (a : ℕ) → queue_wrong c a ≡ None → w ≡ None → first_of (queue_wrong c a) w ≡ None
queue_right c w a none right = rw none right

pub queue_alone : (c : Acts) (a : ℕ) (e : Error) → queue_wrong c a ≡ Some e → IsWrongOn c e → IsRefusedFirst (queue_wrong c a) c e
queue_alone c a e is why = record { is = inl is; why = why }

pub queue_dead : (c : Acts) (a : ℕ) (e : Error) → queue_wrong c a ≡ None → IsRefusedFirst (kind_wrong c) c e → IsRefusedFirst (queue_wrong c a) c e
queue_dead c a e none h = record { is = elim h.is [ inl is ↦ (let bad : queue_wrong c a ≡ Some e = rw is refl in absurd (cc)) | inr x ↦ inr (none, x.1, x.2) ]; why = h.why }

-- ---- the pool alone

pub kind_tables : (c : Acts) → c.token.of.start.tables ≡ true → IsRefusedFirst (kind_wrong c) c WrongKind
kind_tables c tables = record { is = inl (rw tables refl); why = tables }

pub kind_blocks : (c : Acts) → c.token.of.start.tables ≡ false → kind_wrong c ≡ None
kind_blocks c blocks = rw blocks refl

pub kind_dead : (c : Acts) → c.token.of.start.tables ≡ false → c.token.dead ≡ true → IsRefusedFirst (kind_wrong c) c (Died false)
kind_dead c blocks dead = record { is = inr (kind_blocks c blocks, dead, refl); why = (dead, refl) }

-- ---- a reference word that is set

pub set_first : (c : Acts) (k j d : ℕ) (e : Error) → IsRefusedFirst (word_wrong 16 Reference c k j) c e → IsRefusedFirst (set_wrong c k j d) c e
set_first c k j d e h = record { is = elim h.is [ inl is ↦ inl (rw is refl) | inr x ↦ inr (rw (x.0, x.1) refl, x.1, x.2) ]; why = h.why }

set_is : (c : Acts) (k j d : ℕ) → word_wrong 16 Reference c k j ≡ None → c.token.dead ≡ false → set_wrong c k j d ≡ root_wrong c d
set_is c k j d none alive = ap (λ (w : Option Error). first_of w (if c.token.dead then None else root_wrong c d)) none ∙ ap (λ (b : Bool). if b then None else root_wrong c d) alive

pub set_then : (c : Acts) (k j d : ℕ) (e : Error) → word_wrong 16 Reference c k j ≡ None → c.token.dead ≡ false → IsRefusedFirst (root_wrong c d) c e → IsRefusedFirst (set_wrong c k j d) c e
set_then c k j d e none alive h = rw (set_is c k j d none alive) h

pub set_right : (c : Acts) (k j d : ℕ) → word_wrong 16 Reference c k j ≡ None → c.token.dead ≡ false → root_wrong c d ≡ None → set_wrong c k j d ≡ None
set_right c k j d none alive right = set_is c k j d none alive ∙ right

-- ---- a reference word that is followed

pub follow_unknown : (c : Acts) (a k j : ℕ) (e : Error) → c.token.of.start.tables ≡ false → unknown_of c a ≡ Some e → IsRefusedFirst (follow_wrong c a k j) c e
follow_unknown c a k j e blocks is = record { is = inl (kind_right c (first_of (unknown_of c a) (word_wrong 16 Reference c k j)) blocks ∙ rw is refl); why = unknown_why c a e is }

follow_known : (c : Acts) (a k j : ℕ) → c.token.of.start.tables ≡ false → unknown_of c a ≡ None → follow_wrong c a k j ≡ word_wrong 16 Reference c k j
follow_known c a k j blocks none = kind_right c (first_of (unknown_of c a) (word_wrong 16 Reference c k j)) blocks ∙ rw none refl

pub follow_word : (c : Acts) (a k j : ℕ) (e : Error) → c.token.of.start.tables ≡ false → unknown_of c a ≡ None → IsRefusedFirst (word_wrong 16 Reference c k j) c e → IsRefusedFirst (follow_wrong c a k j) c e
follow_word c a k j e blocks none h = rw (follow_known c a k j blocks none) h

pub follow_there : (c : Acts) (a k j : ℕ) → c.token.of.start.tables ≡ false → unknown_of c a ≡ None → a < c.token.of.start.geometry.clients → (r : Result ℕ Error) → IfOk r (λ b. IsBlockOf k b c × (word_wrong 16 Reference c k j ≡ None))
    → IfOk r (λ b. IsBlockOf k b c × (a < c.token.of.start.geometry.clients) × (follow_wrong c a k j ≡ None))
follow_there c a k j blocks none low (Ok b) h = (h.0, low, follow_known c a k j blocks none ∙ h.1)
follow_there c a k j blocks none low (Err e) h = tt

-- ---- the test of the pool

-- the kind that a place knows is the pool's
pub kind_is : (x : Place) (p : Its) (b : Bool) → x.pool.now ≡ p → x.tables ≡ b → p.start.tables ≡ b
kind_is x p b home is = sym (ap (λ (q : Its). q.start.tables) home) ∙ (sym x.kind ∙ is)
