-- what a held state shows of the step in progress, of the memo alone
use Rattle.std.proofs.Common.{◌≡◌, ◌≢◌, ℕ, ◌+◌, ◌^◌, ◌<◌, ◌≤◌, refl, sym, ap, ◌∙◌, subst, arith, Bool, true, false, cond, not, inl, inr}
use Rattle.std.proofs.lemmas.Bool.{eq-eqb, true≢false}
use Rattle.std.specs.Prelude.{Some}
use Rattle.shm_words.specs.declared.{geometry.Geometry.Geometry, redo.Redo.Redo as ARedo}
use Rattle.shm_words.specs.{Layout.{GeometryFits, total_of}, Redos.redo_of}
use Rattle.shm_words.specs.declared.redo.Redo.TheVariants as redos
use Rattle.shm_words.proofs.Placing.{total_small}
use Rattle.shm_graph.specs.declared.{ask.Me.Me, spot.Spot.Spot, memo.{Memo.Memo, Op.Op}}
use Rattle.shm_graph.specs.declared.memo.Op.TheVariants.{Alloc, Change, Down, Nothing, Up}
use Rattle.shm_graph.specs.declared.memo.{ChangeStage.TheVariants.{Lowering, Raising}, Second.TheVariants.Open}
use Rattle.shm_graph.specs.{Blocks.{IsBlock, classes}, Held.{IsBefore, MayName, OpTie, room_of}, References.words_of}
use Rattle.shm_graph.specs.Views.{own_word}
use Rattle.shm_graph.specs.declared.spot.Spot.TheVariants as spot
use Rattle.shm_graph.proofs.{Spots.Spotting.in_pool, States.RedoNames.may_name}
use Rattle.plans.specs.Parts.{IsHeld}
use Rattle.shm_count.specs.CommitTest.{record_in, Control.is_first_half}
use Rattle.shm_recover.specs.Mend.Control.{block_of, is_first, is_second, value_at}

block_below : (g : Geometry) (class : ℕ → ℕ → ℕ) (b : ℕ) → IsBlock g class b → b < total_of g
block_below g class b is = (in_pool g class b (spot.Head b) is (λ e. cc)).1

before_below : (g : Geometry) (class : ℕ → ℕ → ℕ) (a : ℕ) → IsBefore g class a → a < total_of g
before_below g class a (inl z) = let none = z.1 in omega arith
before_below g class a (inr is) = block_below g class a is

-- what the redo record names lies in the pool: a block, or in format 2 word 0, while its words are of two records
named_below : (g : Geometry) (class : ℕ → ℕ → ℕ) (r : ARedo) (e : ℕ) → MayName g class r → r ≢ redos.Idle → block_of r e < total_of g
named_below g class redos.Idle e n some = absurd (some refl)
named_below g class (redos.Up p b) e n some = block_below g class b n
named_below g class (redos.Down p b) e n some = before_below g class b n
named_below g class (redos.Change parity p a b) e n some = go (is_first_half parity e)
  where
    go : (q : Bool) → cond q b a < total_of g
    go true = block_below g class b n.1
    go false = before_below g class a n.0

-- what is said of the memo in the state is said of the memo
module _ (me : Me) (m : Memo) (held : IsHeld me m) (l : me.who < me.geometry.clients) where
  abbrev c : ℕ
  c = me.who

  abbrev w : Spot → ℕ
  w = held.0

  abbrev redo : ℕ
  redo = own_word m.own (spot.Redo me.who)

  abbrev own : ℕ
  own = own_word m.own (spot.Era me.who me.who)

  abbrev more : ℕ
  more = own_word m.own (spot.RedoMore me.who)

  redo_is : redo ≡ w (spot.Redo c)
  redo_is = sym (ap (λ (x : Memo). own_word x.own (spot.Redo c)) held.3) ∙ held.2.mine c l (spot.Redo c) (eq-eqb c c refl)

  more_is : more ≡ w (spot.RedoMore c)
  more_is = sym (ap (λ (x : Memo). own_word x.own (spot.RedoMore c)) held.3) ∙ held.2.mine c l (spot.RedoMore c) (eq-eqb c c refl)

  own_is : own ≡ w (spot.Era c c)
  own_is = sym (ap (λ (x : Memo). own_word x.own (spot.Era c c)) held.3) ∙ held.2.mine c l (spot.Era c c) (eq-eqb c c refl)

  -- its redo record and its own era are tied to its step
  pub op_tied : OpTie me.geometry (classes w) redo more own (words_of me.geometry.wide w) m.op
  op_tied =
      subst (λ x. OpTie me.geometry (classes w) x more own (words_of me.geometry.wide w) m.op) (sym redo_is)
      (subst (λ x. OpTie me.geometry (classes w) (w (spot.Redo c)) x own (words_of me.geometry.wide w) m.op) (sym more_is)
      (subst (λ x. OpTie me.geometry (classes w) (w (spot.Redo c)) (w (spot.RedoMore c)) x (words_of me.geometry.wide w) m.op) (sym own_is)
      (subst (λ (x : Memo). OpTie me.geometry (classes w) (w (spot.Redo c)) (w (spot.RedoMore c)) (w (spot.Era c c)) (words_of me.geometry.wide w) x.op) held.3 (held.2.op c l))))

  -- what its redo record may name
  named : (r : ARedo) → record_in me m ≡ Some r → MayName me.geometry (classes w) r
  named r spelled = may_name me.geometry (classes w) (w (spot.Redo c)) (w (spot.RedoMore c)) r (held.2.redo c l) (ap (λ x. redo_of me.geometry.wide x (w (spot.RedoMore c))) (sym redo_is) ∙ (ap (redo_of me.geometry.wide redo) (sym more_is) ∙ spelled))

  -- the own era leaves room
  pub own_room : own + room_of m.op ≤ 2 ^ 47
  own_room = subst (λ x. x + room_of m.op ≤ 2 ^ 47) (sym own_is) (subst (λ (x : Memo). w (spot.Era c c) + room_of x.op ≤ 2 ^ 47) held.3 (held.2.own c l).room)

  -- the block of the step lies in the pool
  pub block_inside : (r : ARedo) → record_in me m ≡ Some r → r ≢ redos.Idle → block_of r own < total_of me.geometry
  block_inside r spelled some = named_below me.geometry (classes w) r own (named r spelled) some

  -- and so does the block before of a change
  pub before_inside : (p : Spot) (a b e : ℕ) → m.op ≡ Change (Lowering Open) p a b e → (0 < a) × (a < total_of me.geometry)
  before_inside p a b e op =
      let tie = subst (OpTie me.geometry (classes w) redo more own (words_of me.geometry.wide w)) op op_tied in
      in_pool me.geometry (classes w) a (spot.Head a) tie.blocks.0 (λ e. cc)

  -- what the slot comes to hold is small
  pub value_small : (r : ARedo) → record_in me m ≡ Some r → GeometryFits me.geometry → value_at r < 2 ^ 64
  value_small r spelled fits = go r (named r spelled)
    where
      block_small : (b : ℕ) → IsBlock me.geometry (classes w) b → b < 2 ^ 64
      block_small b is = let x = in_pool me.geometry (classes w) b (spot.Head b) is (λ e. cc) in let y = total_small me.geometry fits in omega arith

      go : (r : ARedo) → MayName me.geometry (classes w) r → value_at r < 2 ^ 64
      go redos.Idle names = omega arith
      go (redos.Up p b) names = block_small b names
      go (redos.Down p b) names = omega arith
      go (redos.Change parity p a b) names = block_small b names.1

-- a change is at one half
pub second_not_first : (r : ARedo) (e : ℕ) → is_second r e ≡ true → is_first r e ≡ true → ⊥
second_not_first (redos.Change parity p a b) e second first = true≢false (sym second ∙ ap not first)
second_not_first redos.Idle e second first = true≢false (sym first)
second_not_first (redos.Up p b) e second first = true≢false (sym first)
second_not_first (redos.Down p b) e second first = true≢false (sym first)

pub least_room : (o : Op) → 2 ≤ room_of o
least_room Nothing = omega arith
least_room (Change (Raising s) p a b e) = omega arith
least_room (Change (Lowering s) p a b e) = omega arith
least_room (Alloc s p b e) = omega arith
least_room (Up s p b e) = omega arith
least_room (Down s p b e) = omega arith
