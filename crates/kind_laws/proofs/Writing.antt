-- the store of a committed step into its slot, also where it was stored before: targets, blocks held over and what is committed stay
use Rattle.std.proofs.Math.Path.{fun_ext}
use Rattle.std.proofs.Common.{◌≡◌, ◌≢◌, ℕ, ◌+◌, ◌^◌, ◌<◌, ◌≤◌, refl, sym, ap, ◌∙◌, true, false, Bool, cond, ltb, subst}
use Rattle.std.proofs.lemmas.Bool.{false_from_ne_true, cond-true}
use Rattle.shm_words.specs.declared.geometry.Geometry.{Geometry}
use Rattle.shm_graph.specs.declared.spot.Spot.{Spot}
use Rattle.shm_graph.specs.declared.spot.Spot.TheVariants.{Redo, RedoMore, Home, Era, Root, Tail, Slot, Page, Body}
use Rattle.shm_graph.specs.declared.memo.First.{First, TheVariants.{Begun, Committed, Written}}
use Rattle.shm_graph.specs.declared.memo.{ChangeStage.TheVariants.{Raising, Lowering}, Op.Op}
use Rattle.shm_graph.specs.declared.memo.Op.TheVariants.{Nothing, Alloc, Up, Down, Change}
use Rattle.shm_graph.specs.{Spots.{same_spot, upd, IsAt}, References.{Words, words_of}}
use Rattle.shm_graph.specs.Ops.{On, word_at, cover, cover_of, covered, target, slot_of, up_slot, held_over_of, on_of, is_op}
use Rattle.shm_graph.specs.Views.{View, at1, targets, held_overs, ons}
use Rattle.shm_graph.specs.Held.{HeldAt, OpTie, OwnSound, TailSound, Allowed, room_of}
use Rattle.shm_graph.proofs.{Spots.Spotting.{same_spot_is, same_spot_self}, States.Holders.{Holds, one_holder}}
use Rattle.shm_graph.proofs.{States.Counting.{covered_alone, op_at}, Memos.Frames.at1_all}
use Rattle.kind_laws.proofs.Slots.{slot_alone}
use Rattle.kind_laws.specs.Slotting.{Writes, WritesFrom}

-- what a write leaves
pub record Same (o o' : Op) (x : ℕ) : Type 0 where
  pub was : is_op o ≡ true
  pub is : is_op o' ≡ true
  pub slot : slot_of o' ≡ slot_of o
  pub up : up_slot o' ≡ up_slot o
  pub before : cover_of o ≡ On (slot_of o) x
  pub after : cover_of o' ≡ On (slot_of o) x
  pub held_over : held_over_of o' ≡ held_over_of o
  pub on : on_of o' ≡ on_of o
  pub room : room_of o' ≡ room_of o

pub written : (o o' : Op) (x : ℕ) → Writes o o' x → Same o o' x
written (Alloc Committed p b e) o' x (y, z) = record { was = refl; is = subst (λ k. is_op k ≡ true) (sym y) refl; slot = ap slot_of y; up = ap up_slot y; before = ap (On p) (sym z); after = ap cover_of y ∙ ap (On p) (sym z); held_over = ap held_over_of y; on = ap on_of y; room = ap room_of y }
written (Alloc Written p b e) o' x (y, z) = record { was = refl; is = subst (λ k. is_op k ≡ true) (sym y) refl; slot = ap slot_of y; up = ap up_slot y; before = ap (On p) (sym z); after = ap cover_of y ∙ ap (On p) (sym z); held_over = ap held_over_of y; on = ap on_of y; room = ap room_of y }
written (Up Committed p b e) o' x (y, z) = record { was = refl; is = subst (λ k. is_op k ≡ true) (sym y) refl; slot = ap slot_of y; up = ap up_slot y; before = ap (On p) (sym z); after = ap cover_of y ∙ ap (On p) (sym z); held_over = ap held_over_of y; on = ap on_of y; room = ap room_of y }
written (Up Written p b e) o' x (y, z) = record { was = refl; is = subst (λ k. is_op k ≡ true) (sym y) refl; slot = ap slot_of y; up = ap up_slot y; before = ap (On p) (sym z); after = ap cover_of y ∙ ap (On p) (sym z); held_over = ap held_over_of y; on = ap on_of y; room = ap room_of y }
written (Down Committed p b e) o' x (y, z) = record { was = refl; is = subst (λ k. is_op k ≡ true) (sym y) refl; slot = ap slot_of y; up = ap up_slot y; before = ap (On p) (sym z); after = ap cover_of y ∙ ap (On p) (sym z); held_over = ap held_over_of y; on = ap on_of y; room = ap room_of y }
written (Down Written p b e) o' x (y, z) = record { was = refl; is = subst (λ k. is_op k ≡ true) (sym y) refl; slot = ap slot_of y; up = ap up_slot y; before = ap (On p) (sym z); after = ap cover_of y ∙ ap (On p) (sym z); held_over = ap held_over_of y; on = ap on_of y; room = ap room_of y }
written (Change (Raising Committed) p a b e) o' x (y, z) = record { was = refl; is = subst (λ k. is_op k ≡ true) (sym y) refl; slot = ap slot_of y; up = ap up_slot y; before = ap (On p) (sym z); after = ap cover_of y ∙ ap (On p) (sym z); held_over = ap held_over_of y; on = ap on_of y; room = ap room_of y }
written (Change (Raising Written) p a b e) o' x (y, z) = record { was = refl; is = subst (λ k. is_op k ≡ true) (sym y) refl; slot = ap slot_of y; up = ap up_slot y; before = ap (On p) (sym z); after = ap cover_of y ∙ ap (On p) (sym z); held_over = ap held_over_of y; on = ap on_of y; room = ap room_of y }
written (Change (Raising Begun) p a b e) o' x y = absurd y
written (Change (Lowering s) p a b e) o' x y = absurd y
written (Alloc Begun p b e) o' x y = absurd y
written (Up Begun p b e) o' x y = absurd y
written (Down Begun p b e) o' x y = absurd y
written Nothing o' x y = absurd y

-- what was written, and the step that is left
parts : (s : First) (after : Op) (new : ℕ) (o : Op) (x : ℕ) → WritesFrom s after new o x → (o ≡ after) × (x ≡ new)
parts Begun after new o x y = absurd y
parts Committed after new o x y = y
parts Written after new o x y = y

allowed : (c : ℕ) (o o' : Op) (x : ℕ) → Writes o o' x → Allowed c o → Allowed c o'
allowed c (Alloc s p b e) o' x y a = subst (Allowed c) (sym (parts s _ _ o' x y).0) a
allowed c (Up s p b e) o' x y a = subst (Allowed c) (sym (parts s _ _ o' x y).0) a
allowed c (Down s p b e) o' x y a = subst (Allowed c) (sym (parts s _ _ o' x y).0) a
allowed c (Change (Raising s) p a b e) o' x y z = subst (Allowed c) (sym (parts s _ _ o' x y).0) z
allowed c _ o' x y a = absurd y

tie : (g : Geometry) (class : ℕ → ℕ → ℕ) (redo more own : ℕ) (old new : Words) (o o' : Op) (x : ℕ) → Writes o o' x → word_at new (slot_of o) ≡ x → OpTie g class redo more own old o → OpTie g class redo more own new o'
tie g class redo more own old new (Alloc s p b e) o' x y z h = subst (OpTie g class redo more own new) (sym (parts s _ _ o' x y).0) (record { spelled = h.spelled; blocks = h.blocks; current = h.current; at = h.at; word = z ∙ (parts s _ _ o' x y).1 })
tie g class redo more own old new (Up s p b e) o' x y z h = subst (OpTie g class redo more own new) (sym (parts s _ _ o' x y).0) (record { spelled = h.spelled; blocks = h.blocks; current = h.current; at = h.at; word = z ∙ (parts s _ _ o' x y).1 })
tie g class redo more own old new (Down s p b e) o' x y z h = subst (OpTie g class redo more own new) (sym (parts s _ _ o' x y).0) (record { spelled = h.spelled; blocks = h.blocks; current = h.current; at = h.at; word = z ∙ (parts s _ _ o' x y).1 })
tie g class redo more own old new (Change (Raising s) p a b e) o' x y z h = subst (OpTie g class redo more own new) (sym (parts s _ _ o' x y).0) (record { spelled = h.spelled; blocks = h.blocks; current = h.current; at = h.at; word = z ∙ (parts s _ _ o' x y).1 })
tie g class redo more own old new _ o' x y z h = absurd y

-- a step of another identity, on another word
pub tie_other : (g : Geometry) (class : ℕ → ℕ → ℕ) (redo more own : ℕ) (old new : Words) (o : Op) → (is_op o ≡ true → word_at new (slot_of o) ≡ word_at old (slot_of o)) → OpTie g class redo more own old o → OpTie g class redo more own new o
tie_other g class redo more own old new Nothing z h = h
tie_other g class redo more own old new (Alloc s p b e) z h = record { spelled = h.spelled; blocks = h.blocks; current = h.current; at = h.at; word = z refl ∙ h.word }
tie_other g class redo more own old new (Up s p b e) z h = record { spelled = h.spelled; blocks = h.blocks; current = h.current; at = h.at; word = z refl ∙ h.word }
tie_other g class redo more own old new (Down s p b e) z h = record { spelled = h.spelled; blocks = h.blocks; current = h.current; at = h.at; word = z refl ∙ h.word }
tie_other g class redo more own old new (Change (Raising s) p a b e) z h = record { spelled = h.spelled; blocks = h.blocks; current = h.current; at = h.at; word = z refl ∙ h.word }
tie_other g class redo more own old new (Change (Lowering s) p a b e) z h = record { spelled = h.spelled; blocks = h.blocks; current = h.current; at = h.at; word = z refl ∙ h.word }

-- another spot has the word that it had
word_of : (wide : Bool) (w : Spot → ℕ) (p : Spot) (x : ℕ) (q : Spot) → same_spot p q ≡ false → word_at (words_of wide (upd w p x)) q ≡ word_at (words_of wide w) q
word_of wide w p x (Body d j) y = rw y refl
word_of wide w p x (Home d) y = rw y refl
word_of wide w p x (Root d l) y = rw y refl
word_of wide w p x (Slot s r l) y = rw y refl
word_of wide w p x _ y = refl

module _ (g : Geometry) (w : Spot → ℕ) (v : View) (h : HeldAt g w v) (c x : ℕ) (o : Op) (p : Spot) (inside : c < g.clients) (slot : slot_of (v.op c) ≡ p) (writes : Writes (v.op c) o x) where
  same : Same (v.op c) o x
  same = written (v.op c) o x writes

  -- c holds its slot, and the slot is in the pool
  pub mine_at : Holds w g v c p
  mine_at = subst (Holds w g v c) slot (h.slots c inside same.was)

  pub at_slot : IsAt g (λ s q. w (Page s q)) p
  at_slot = subst (IsAt g (λ s q. w (Page s q))) slot (op_at g (λ s q. w (Page s q)) (w (Redo c)) (w (RedoMore c)) (w (Era c c)) (words_of g.wide w) (v.op c) same.was (h.op c inside))

  -- no other identity has a step at it
  off : (d : ℕ) → d < g.clients → c ≢ d → is_op (v.op d) ≡ true → same_spot p (slot_of (v.op d)) ≡ false
  off d l n y = false_from_ne_true _ (λ z. n (one_holder g w v h c d p inside l mine_at (subst (Holds w g v d) (sym (same_spot_is p (slot_of (v.op d)) z)) (h.slots d l y))))

  pub on_same : (λ d. on_of (at1 v.op c o d)) ≡ ons v
  on_same = fun_ext (λ d. at1_all (λ (j : ℕ) (k : Op). on_of k ≡ on_of (v.op j)) v.op c o d same.on (λ _. refl))

  pub held_over_same : (λ d. held_over_of (at1 v.op c o d)) ≡ held_overs v
  held_over_same = fun_ext (λ d. at1_all (λ (j : ℕ) (k : Op). held_over_of k ≡ held_over_of (v.op j)) v.op c o d same.held_over (λ _. refl))

  pub own_same : (d : ℕ) → d < g.clients → OwnSound (w (Era d d)) (at1 v.op c o d)
  own_same d = at1_all (λ (j : ℕ) (k : Op). j < g.clients → OwnSound (w (Era j j)) k) v.op c o d (λ l. let q = h.own c l in record { some = q.some; room = subst (λ k. w (Era c c) + k ≤ 2 ^ 47) (sym same.room) q.room }) (λ n. h.own d)

  pub allowed_same : (d : ℕ) → d < g.clients → Allowed d (at1 v.op c o d)
  allowed_same d = at1_all (λ (j : ℕ) (k : Op). j < g.clients → Allowed j k) v.op c o d (λ l. allowed c (v.op c) o x writes (h.allowed c l)) (λ n. h.allowed d)

  pub tails_same : (d r : ℕ) → d < g.clients → r < g.clients → TailSound d r (w (Era d d)) (w (Tail d r)) (v.unsent d r) (at1 v.op c o d)
  tails_same d r l lr = at1_all (λ (j : ℕ) (k : Op). j < g.clients → TailSound j r (w (Era j j)) (w (Tail j r)) (v.unsent j r) k) v.op c o d (λ m. let q = h.tails c r m lr in (q.0, λ u n. q.1 u (λ z. n (same.up ∙ z)))) (λ n m. h.tails d r m lr) l

  pub slots_same : (d : ℕ) → d < g.clients → is_op (at1 v.op c o d) ≡ true → Holds w g v d (slot_of (at1 v.op c o d))
  slots_same d = at1_all (λ (j : ℕ) (k : Op). j < g.clients → is_op k ≡ true → Holds w g v j (slot_of k)) v.op c o d (λ l _. subst (Holds w g v c) (sym same.slot) (h.slots c l same.was)) (λ n. h.slots d)

  pub ops_same : word_at (words_of g.wide (upd w p x)) p ≡ x → (d : ℕ) → d < g.clients → OpTie g (λ s q. w (Page s q)) (w (Redo d)) (w (RedoMore d)) (w (Era d d)) (words_of g.wide (upd w p x)) (at1 v.op c o d)
  ops_same here d = at1_all (λ (j : ℕ) (k : Op). j < g.clients → OpTie g (λ s q. w (Page s q)) (w (Redo j)) (w (RedoMore j)) (w (Era j j)) (words_of g.wide (upd w p x)) k) v.op c o d
      (λ l. tie g (λ s q. w (Page s q)) (w (Redo c)) (w (RedoMore c)) (w (Era c c)) (words_of g.wide w) (words_of g.wide (upd w p x)) (v.op c) o x writes (subst (λ q. word_at (words_of g.wide (upd w p x)) q ≡ x) (sym slot) here) (h.op c l))
      (λ n l. tie_other g (λ s q. w (Page s q)) (w (Redo d)) (w (RedoMore d)) (w (Era d d)) (words_of g.wide w) (words_of g.wide (upd w p x)) (v.op d) (λ y. word_of g.wide w p x (slot_of (v.op d)) (off d l n y)) (h.op d l))

  -- the slot's target is what the step gives it, whatever the word
  covered_here : (y : ℕ) → covered (λ d. cover_of (v.op d)) g.clients p y ≡ x
  covered_here y =
      covered_alone g.clients c p y (λ d. cover_of (v.op d)) inside (slot_alone g w v h c p inside mine_at)
      ∙ (ap (λ k. cover k p y) (same.before ∙ ap (λ q. On q x) slot) ∙ cond-true (same_spot p p) x y (same_spot_self p))

  stored_target : (q : Spot) (z : Bool) → same_spot p q ≡ z → covered (λ d. cover_of (v.op d)) g.clients q (upd w p x q) ≡ covered (λ d. cover_of (v.op d)) g.clients q (w q)
  stored_target q true y = subst (λ r. covered (λ d. cover_of (v.op d)) g.clients r (upd w p x r) ≡ covered (λ d. cover_of (v.op d)) g.clients r (w r)) (same_spot_is p q y) (covered_here (upd w p x p) ∙ sym (covered_here (w p)))
  stored_target q false y = rw y refl

  -- the targets stay
  pub targets_same : ((b : ℕ) → (words_of g.wide (upd w p x)).refs b ≡ (words_of g.wide w).refs b) → target g.clients (words_of g.wide (upd w p x)) (λ d. cover_of (at1 v.op c o d)) ≡ targets g w v
  targets_same refs = ap (target g.clients (words_of g.wide (upd w p x))) (fun_ext (λ d. at1_all (λ (j : ℕ) (k : Op). cover_of k ≡ cover_of (v.op j)) v.op c o d (same.after ∙ sym same.before) (λ _. refl))) ∙ fun_ext go
    where
      go : (q : Spot) → target g.clients (words_of g.wide (upd w p x)) (λ d. cover_of (v.op d)) q ≡ targets g w v q
      go (Body d j) = ap (λ m. cond (ltb j m) (covered (λ d. cover_of (v.op d)) g.clients (Body d j) (upd w p x (Body d j))) 0) (refs d) ∙ ap (λ z. cond (ltb j ((words_of g.wide w).refs d)) z 0) (stored_target (Body d j) (same_spot p (Body d j)) refl)
      go (Home d) = stored_target (Home d) (same_spot p (Home d)) refl
      go (Root d l) = stored_target (Root d l) (same_spot p (Root d l)) refl
      go (Slot s r l) = stored_target (Slot s r l) (same_spot p (Slot s r l)) refl
      go _ = refl
