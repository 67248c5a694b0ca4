-- the spot of an address and the address of a spot
use Rattle.std.proofs.Common.{◌≡◌, ◌≢◌, ◌&&◌, eqb, ℕ, ◌+◌, ◌-◌, ◌*◌, ◌/◌, ◌%◌, ◌<◌, ◌≤◌, sym, ap, ◌∙◌, arith, true, false, refl, inl, inr, cond, subst}
use Rattle.std.proofs.lemmas.Bool.{cases_lt, cases_Bool, and_parts, and_from, eqb-true, eq-eqb, true≢false, false≢true, ne_eqb}
use Rattle.std.proofs.lemmas.{Bool.Decides.nat_tests, Nat.mod-mul-add}
use Rattle.shm_words.specs.declared.{geometry.Geometry.Geometry, place.Place.Place}
use Rattle.shm_words.specs.{Layout.{total_of, bodies, place_at}, Classes.IsClass}
use Rattle.shm_words.specs.declared.place.Place.TheVariants as place
use Rattle.shm_words.specs.Layout as layout
use Rattle.shm_words.proofs.Placing.{address-place}
use Rattle.shm_graph.specs.declared.spot.Spot.{Spot}
use Rattle.shm_graph.specs.declared.spot.Spot.TheVariants.{Spare, Status, Redo, RedoMore, Hold, Latch, Home, Era, Root, Tail, QueueHead, Slot, Segment, Page, Unused, Head, Tag, Body}
use Rattle.shm_graph.specs.Spots.{is_in_body, same_spot, block_spot, spot_of, spot_at, spot_address, IsAt, class_at}
use Rattle.shm_graph.specs.Blocks.{IsBlock}

-- ---- one spot or two

pub same_spot_self : (p : Spot) → same_spot p p ≡ true
same_spot_self Spare = refl
same_spot_self (Status c) = eq-eqb c c refl
same_spot_self (Redo c) = eq-eqb c c refl
same_spot_self (RedoMore c) = eq-eqb c c refl
same_spot_self (Hold c) = eq-eqb c c refl
same_spot_self (Latch c) = eq-eqb c c refl
same_spot_self (Home c) = eq-eqb c c refl
same_spot_self (Era i j) = and_from _ _ (eq-eqb i i refl) (eq-eqb j j refl)
same_spot_self (Root c k) = and_from _ _ (eq-eqb c c refl) (eq-eqb k k refl)
same_spot_self (Tail s r) = and_from _ _ (eq-eqb s s refl) (eq-eqb r r refl)
same_spot_self (QueueHead s r) = and_from _ _ (eq-eqb s s refl) (eq-eqb r r refl)
same_spot_self (Slot s r k) = and_from _ _ (eq-eqb s s refl) (and_from _ _ (eq-eqb r r refl) (eq-eqb k k refl))
same_spot_self (Segment s) = eq-eqb s s refl
same_spot_self (Page s p) = and_from _ _ (eq-eqb s s refl) (eq-eqb p p refl)
same_spot_self (Unused a) = eq-eqb a a refl
same_spot_self (Head b) = eq-eqb b b refl
same_spot_self (Tag b) = eq-eqb b b refl
same_spot_self (Body b i) = and_from _ _ (eq-eqb b b refl) (eq-eqb i i refl)

two : (f : ℕ → ℕ → Spot) (a b c d : ℕ) → (eqb a b && eqb c d) ≡ true → f a c ≡ f b d
two f a b c d e =
    let h = and_parts (eqb a b) (eqb c d) e in
    ap (λ n. f n c) (eqb-true a b h.0) ∙ ap (f b) (eqb-true c d h.1)

pub same_spot_is : (p q : Spot) → same_spot p q ≡ true → p ≡ q
same_spot_is Spare Spare e = refl
same_spot_is (Status c) (Status d) e = ap Status (eqb-true c d e)
same_spot_is (Redo c) (Redo d) e = ap Redo (eqb-true c d e)
same_spot_is (RedoMore c) (RedoMore d) e = ap RedoMore (eqb-true c d e)
same_spot_is (Hold c) (Hold d) e = ap Hold (eqb-true c d e)
same_spot_is (Latch c) (Latch d) e = ap Latch (eqb-true c d e)
same_spot_is (Home c) (Home d) e = ap Home (eqb-true c d e)
same_spot_is (Era i j) (Era k l) e = two Era i k j l e
same_spot_is (Root c k) (Root d l) e = two Root c d k l e
same_spot_is (Tail s r) (Tail t u) e = two Tail s t r u e
same_spot_is (QueueHead s r) (QueueHead t u) e = two QueueHead s t r u e
same_spot_is (Slot s r k) (Slot t u l) e =
    let h = and_parts (eqb s t) (eqb r u && eqb k l) e in
    let x = eqb-true s t h.0 in
    let y : Slot t r k ≡ Slot t u l = two (Slot t) r u k l h.1 in
    ap (λ n. Slot n r k) x ∙ y
same_spot_is (Segment g) (Segment h) e = ap Segment (eqb-true g h e)
same_spot_is (Page g p) (Page h q) e = two Page g h p q e
same_spot_is (Unused a) (Unused b) e = ap Unused (eqb-true a b e)
same_spot_is (Head b) (Head d) e = ap Head (eqb-true b d e)
same_spot_is (Tag b) (Tag d) e = ap Tag (eqb-true b d e)
same_spot_is (Body b i) (Body d j) e = two Body b d i j e
same_spot_is _ _ e = absurd (false≢true e)

pub same_spot_not : (p q : Spot) → p ≢ q → same_spot p q ≡ false
same_spot_not p q n =
    elim (cases_Bool (same_spot p q)) [ inl e ↦ absurd (n (same_spot_is p q e)) | inr e ↦ e ]

-- ---- the spots of a body

-- past the end there is nothing
pub spot_past : (g : Geometry) (class : ℕ → ℕ → ℕ) (a : ℕ) → total_of g ≤ a → spot_at g class a ≡ Spare
unfolding spot_at place_at
spot_past g class a l = grind (arith, nat_tests)

-- in a page's body the class of the page decides
pub spot_in_bodies : (g : Geometry) (class : ℕ → ℕ → ℕ) (a : ℕ) → bodies g ≤ a → a < total_of g → spot_at g class a ≡ block_spot (class_at g class a) a ((a - bodies g) % 128)
unfolding spot_at place_at
spot_in_bodies g class a b l = grind (arith, nat_tests)

pub spot_before_bodies : (g : Geometry) (class : ℕ → ℕ → ℕ) (a : ℕ) → a < bodies g → is_in_body (spot_at g class a) ≡ false
unfolding spot_at place_at
spot_before_bodies g class a l = grind (arith, nat_tests)

pub within_bodies : (g : Geometry) (class : ℕ → ℕ → ℕ) (a : ℕ) → is_in_body (spot_at g class a) ≡ true → (bodies g ≤ a) × (a < total_of g)
within_bodies g class a e =
    elim (cases_lt a (bodies g)) [
      | inl f ↦ absurd (true≢false (sym e ∙ spot_before_bodies g class a f))
      | inr o ↦ elim (cases_lt a (total_of g)) [
        | inl l ↦ (o, l)
        | inr h ↦ absurd (true≢false (sym e ∙ ap is_in_body (spot_past g class a h)))
      ]
    ]

-- ---- addresses

block_address : (g : Geometry) (k a i : ℕ) → 0 < a → i ≤ a → spot_address g (block_spot k a i) ≡ a
unfolding spot_address
block_address g k a i p l = grind (arith, nat_tests)

pub block_in_body : (k a i : ℕ) → is_in_body (block_spot k a i) ≡ true
block_in_body k a i = grind (arith, nat_tests)

fixed_address : (g : Geometry) (class : ℕ → ℕ → ℕ) (a : ℕ) (p : Place) → is_in_body (spot_of class a p) ≡ false → spot_address g (spot_of class a p) ≡ layout.address g p
unfolding spot_address
fixed_address g class a (place.Body s p i) n = absurd (true≢false (sym (block_in_body (class s p) a i) ∙ n))
fixed_address g class a _ n = refl

-- the address of the spot of an address
pub address-spot : (g : Geometry) (class : ℕ → ℕ → ℕ) (a : ℕ) → a < total_of g → spot_address g (spot_at g class a) ≡ a
unfolding spot_at
address-spot g class a l =
    elim (cases_lt a (bodies g)) [
      | inl f ↦ fixed_address g class a (place_at g a) (spot_before_bodies g class a f) ∙ address-place g a l
      | inr b ↦ ap (spot_address g) (spot_in_bodies g class a b l) ∙ block_address g (class_at g class a) a ((a - bodies g) % 128) (omega arith) (omega arith)
    ]

spare_below : (g : Geometry) → spot_address g Spare < total_of g
unfolding spot_address layout.address
spare_below g = omega arith

-- a spot that is there is at one address
pub is_below : (g : Geometry) (class : ℕ → ℕ → ℕ) (a : ℕ) (p : Spot) → spot_at g class a ≡ p → p ≢ Spare → a < total_of g
is_below g class a p e n =
    elim (cases_lt a (total_of g)) [
      | inl l ↦ l
      | inr h ↦ absurd (n (sym e ∙ spot_past g class a h))
    ]

pub at_below : (g : Geometry) (class : ℕ → ℕ → ℕ) (p : Spot) → IsAt g class p → spot_address g p < total_of g
at_below g class p e =
    elim (cases_lt (spot_address g p) (total_of g)) [
      | inl l ↦ l
      | inr h ↦ (let s : Spare ≡ p = sym (spot_past g class (spot_address g p) h) ∙ e in subst (λ q. spot_address g q < total_of g) s (spare_below g))
    ]

pub alone : (g : Geometry) (class : ℕ → ℕ → ℕ) (a : ℕ) (p : Spot) → spot_at g class a ≡ p → p ≢ Spare → spot_address g p ≡ a
alone g class a p e n = ap (spot_address g) (sym e) ∙ address-spot g class a (is_below g class a p e n)

-- and that spot is in the pool
pub spot_there : (g : Geometry) (class : ℕ → ℕ → ℕ) (a : ℕ) (p : Spot) → spot_at g class a ≡ p → p ≢ Spare → IsAt g class p
spot_there g class a p e n = ap (spot_at g class) (alone g class a p e n) ∙ e

pub spot_zero : (g : Geometry) (class : ℕ → ℕ → ℕ) → spot_at g class 0 ≡ Spare
unfolding spot_at place_at
spot_zero g class = refl

pub in_pool : (g : Geometry) (class : ℕ → ℕ → ℕ) (a : ℕ) (p : Spot) → spot_at g class a ≡ p → p ≢ Spare → (0 < a) × (a < total_of g)
in_pool g class a p e n =
    let z : a ≢ 0 = λ z. n (sym e ∙ (ap (spot_at g class) z ∙ spot_zero g class)) in
    (omega arith, is_below g class a p e n)

-- what stands at an address is there
pub spot_is_at : (g : Geometry) (class : ℕ → ℕ → ℕ) (a : ℕ) → a < total_of g → IsAt g class (spot_at g class a)
spot_is_at g class a l = ap (spot_at g class) (address-spot g class a l)

-- only its own address is that of a block
pub head_at : (g : Geometry) (class : ℕ → ℕ → ℕ) (a b : ℕ) → spot_at g class a ≡ Head b → a ≡ b
unfolding spot_address
head_at g class a b e = sym (alone g class a (Head b) e (λ z. cc))

-- ---- blocks

block_head : (k a i b : ℕ) → block_spot k a i ≡ Head b → (k ≢ 0) × (a ≡ b) × (i % k ≡ 0)
block_head k a i b e = grind (arith, nat_tests)

-- a block lies in a page that has a class, at a multiple of it
pub block_within : (g : Geometry) (class : ℕ → ℕ → ℕ) (b : ℕ) → IsBlock g class b → (bodies g ≤ b) × (b < total_of g) × (class_at g class b ≢ 0) × ((b - bodies g) % 128 % class_at g class b ≡ 0)
block_within g class b is =
    let w = within_bodies g class b (ap is_in_body is) in
    let h = block_head (class_at g class b) b ((b - bodies g) % 128) b (sym (spot_in_bodies g class b w.0 w.1) ∙ is) in
    (w.0, w.1, h.0, h.2)

block_body : (k a i b j : ℕ) → block_spot k a i ≡ Body b j → (k ≢ 0) × (b ≡ a - i % k) × (j ≡ i % k - 2) × (2 ≤ i % k)
block_body k a i b j e = grind (arith, nat_tests)

class_above : {k : ℕ} → IsClass k → 1 < k
class_above is = grind (arith, nat_tests)

abbrev StaysInPage : ℕ → ℕ → ℕ → Type 0
StaysInPage x j c = x % 128 % c ≡ 0 → j < c → ((x + j) / 2048 ≡ x / 2048) × ((x + j) / 128 % 16 ≡ x / 128 % 16) × ((x + j) % 128 % c ≡ j)

stays_four : (x j : ℕ) → StaysInPage x j 4
stays_four x j e l = (omega arith, omega arith, omega arith)

stays_eight : (x j : ℕ) → StaysInPage x j 8
stays_eight x j e l = (omega arith, omega arith, omega arith)

stays_sixteen : (x j : ℕ) → StaysInPage x j 16
stays_sixteen x j e l = (omega arith, omega arith, omega arith)

stays_many : (x j : ℕ) → StaysInPage x j 32
stays_many x j e l = (omega arith, omega arith, omega arith)

-- a step within a block stays in its page
step_in_page : (x j c : ℕ) → IsClass c → StaysInPage x j c
step_in_page x j c (inl is) = let P : ℕ → Type 0 = λ n. StaysInPage x j n in subst P (sym is) (stays_four x j)
step_in_page x j c (inr (inl is)) = let P : ℕ → Type 0 = λ n. StaysInPage x j n in subst P (sym is) (stays_eight x j)
step_in_page x j c (inr (inr (inl is))) = let P : ℕ → Type 0 = λ n. StaysInPage x j n in subst P (sym is) (stays_sixteen x j)
step_in_page x j c (inr (inr (inr is))) = let P : ℕ → Type 0 = λ n. StaysInPage x j n in subst P (sym is) (stays_many x j)

pub in_block : (g : Geometry) (class : ℕ → ℕ → ℕ) (b j : ℕ) → IsBlock g class b → IsClass (class_at g class b) → j < class_at g class b → (class_at g class (b + j) ≡ class_at g class b) × (b + j < total_of g) × ((b + j - bodies g) % 128 % class_at g class b ≡ j)
in_block g class b j is k l =
    let w = block_within g class b is in
    let s = step_in_page (b - bodies g) j (class_at g class b) k w.3 l in
    let x : b + j - bodies g ≡ b - bodies g + j = omega arith in
    ((rw (x, s.0, s.1) refl), omega arith, (rw x s.2))

pub spot_in_block : (g : Geometry) (class : ℕ → ℕ → ℕ) (b j : ℕ) → IsBlock g class b → IsClass (class_at g class b) → j < class_at g class b → spot_at g class (b + j) ≡ (cond (eqb j 0) (Head (b + j)) (cond (eqb j 1) (Tag (b + j - 1)) (Body (b + j - j) (j - 2))))
spot_in_block g class b j is k l =
    let w = block_within g class b is in
    let n = in_block g class b j is k l in
    let s = spot_in_bodies g class (b + j) (omega arith) n.1 in
    let z : eqb (class_at g class b) 0 ≡ false = grind (arith, nat_tests) in
    s ∙ rw (n.0, n.2, z) refl

-- the tag and the words of a block
pub tag_spot : (g : Geometry) (class : ℕ → ℕ → ℕ) (b : ℕ) → IsBlock g class b → IsClass (class_at g class b) → spot_at g class (b + 1) ≡ Tag b
tag_spot g class b is k =
    let s = spot_in_block g class b 1 is k (class_above k) in
    let e : b + 1 - 1 ≡ b = omega arith in
    s ∙ ap Tag e

pub body_spot : (g : Geometry) (class : ℕ → ℕ → ℕ) (b i : ℕ) → IsBlock g class b → IsClass (class_at g class b) → 2 + i < class_at g class b → spot_at g class (b + 2 + i) ≡ Body b i
body_spot g class b i is k l =
    let s = spot_in_block g class b (2 + i) is k l in
    let x : b + 2 + i ≡ b + (2 + i) = omega arith in
    let e : b + (2 + i) - (2 + i) ≡ b = omega arith in
    let f : 2 + i - 2 ≡ i = omega arith in
    let y : eqb (2 + i) 0 ≡ false = grind (arith, nat_tests) in
    let z : eqb (2 + i) 1 ≡ false = grind (arith, nat_tests) in
    rw x (s ∙ rw (y, z, e, f) refl)

-- a block, its tag and its words are there
pub block_is_at : (g : Geometry) (class : ℕ → ℕ → ℕ) (b : ℕ) → IsBlock g class b → IsAt g class (Head b)
unfolding spot_address
block_is_at g class b is = is

pub body_is_at : (g : Geometry) (class : ℕ → ℕ → ℕ) (b i : ℕ) → IsBlock g class b → IsClass (class_at g class b) → 2 + i < class_at g class b → IsAt g class (Body b i)
unfolding spot_address
body_is_at g class b i is k l = body_spot g class b i is k l

-- the block of a word in it
back_to_head : (k c : ℕ) → c ≢ 0 → 2 ≤ k % c → ((k - k % c) % c ≡ 0) × ((k - k % c + 1) % c ≡ 1)
back_to_head k c n l =
    let d : k ≡ k / c * c + k % c = omega arith in
    let x : k - k % c ≡ k / c * c + 0 = omega arith in
    let y : k - k % c + 1 ≡ k / c * c + 1 = omega arith in
    let m : k % c < c = omega arith in
    ((ap (λ u. u % c) x ∙ mod-mul-add (k / c) c 0 (omega arith)), (ap (λ u. u % c) y ∙ mod-mul-add (k / c) c 1 (omega arith)))

mod_most : (k c : ℕ) → c ≢ 0 → k % c ≤ k
mod_most k c n = omega arith

next_in_page : (x r : ℕ) → r ≤ x % 128 → 2 ≤ r → ((x - r + 1) / 2048 ≡ x / 2048) × ((x - r + 1) / 128 % 16 ≡ x / 128 % 16) × ((x - r + 1) % 128 ≡ x % 128 - r + 1)
next_in_page x r l m = (omega arith, omega arith, omega arith)

back_in_page : (x r : ℕ) → r ≤ x % 128 → ((x - r) / 2048 ≡ x / 2048) × ((x - r) / 128 % 16 ≡ x / 128 % 16) × ((x - r) % 128 ≡ x % 128 - r)
back_in_page x r l = (omega arith, omega arith, omega arith)

pub body_block : (g : Geometry) (class : ℕ → ℕ → ℕ) (a b i : ℕ) → spot_at g class a ≡ Body b i → IsBlock g class b × (spot_at g class (b + 1) ≡ Tag b) × (b + 2 + i ≡ a) × (a < total_of g)
body_block g class a b i e =
    let w = within_bodies g class a (ap is_in_body e) in
    let h = block_body (class_at g class a) a ((a - bodies g) % 128) b i (sym (spot_in_bodies g class a w.0 w.1) ∙ e) in
    let r : (a - bodies g) % 128 % class_at g class a ≤ (a - bodies g) % 128 = mod_most ((a - bodies g) % 128) (class_at g class a) h.0 in
    let p = back_in_page (a - bodies g) ((a - bodies g) % 128 % class_at g class a) r in
    let m = back_to_head ((a - bodies g) % 128) (class_at g class a) h.0 h.3 in
    let x : b - bodies g ≡ a - bodies g - (a - bodies g) % 128 % class_at g class a = omega arith in
    let z : eqb (class_at g class a) 0 ≡ false = ne_eqb _ _ h.0 in
    let q = next_in_page (a - bodies g) ((a - bodies g) % 128 % class_at g class a) r h.3 in
    let y : b + 1 - bodies g ≡ a - bodies g - (a - bodies g) % 128 % class_at g class a + 1 = omega arith in
    let o : b + 1 - 1 ≡ b = omega arith in (
      (spot_in_bodies g class b (omega arith) (omega arith) ∙ rw (x, p.0, p.1, p.2, m.0, z) refl),
      (spot_in_bodies g class (b + 1) (omega arith) (omega arith) ∙ rw (y, q.0, q.1, q.2, m.1, z, o) refl),
      omega arith,
      w.1,
    )

-- the block of a tag
block_tag : (k a i b : ℕ) → block_spot k a i ≡ Tag b → (k ≢ 0) × (b ≡ a - 1) × (i % k ≡ 1)
block_tag k a i b e = grind (arith, nat_tests)

after_head : (k c : ℕ) → c ≢ 0 → k % c ≡ 1 → (k - 1) % c ≡ 0
after_head k c n e =
    let x : k - 1 ≡ k / c * c + 0 = omega arith in
    ap (λ u. u % c) x ∙ mod-mul-add (k / c) c 0 (omega arith)

pub tag_block : (g : Geometry) (class : ℕ → ℕ → ℕ) (a b : ℕ) → spot_at g class a ≡ Tag b → IsBlock g class b × (b + 1 ≡ a) × (a < total_of g)
tag_block g class a b e =
    let w = within_bodies g class a (ap is_in_body e) in
    let h = block_tag (class_at g class a) a ((a - bodies g) % 128) b (sym (spot_in_bodies g class a w.0 w.1) ∙ e) in
    let r : 1 ≤ (a - bodies g) % 128 = let l = mod_most ((a - bodies g) % 128) (class_at g class a) h.0 in omega arith in
    let p = back_in_page (a - bodies g) 1 r in
    let m = after_head ((a - bodies g) % 128) (class_at g class a) h.0 h.2 in
    let x : b - bodies g ≡ a - bodies g - 1 = omega arith in
    let z : eqb (class_at g class a) 0 ≡ false = ne_eqb _ _ h.0 in
    ((spot_in_bodies g class b (omega arith) (omega arith) ∙ rw (x, p.0, p.1, p.2, m, z) refl), omega arith, w.1)

-- ---- two addresses

pub same_address : (g : Geometry) (class : ℕ → ℕ → ℕ) (a b : ℕ) → a < total_of g → b < total_of g → spot_at g class a ≡ spot_at g class b → a ≡ b
same_address g class a b l m e = sym (address-spot g class a l) ∙ (ap (spot_address g) e ∙ address-spot g class b m)

-- ---- a spot in a block that is there

pub is_at_block : (g : Geometry) (class : ℕ → ℕ → ℕ) (b : ℕ) → IsAt g class (Head b) → IsBlock g class b
unfolding spot_address
is_at_block g class b at = at
