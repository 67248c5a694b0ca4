-- A line whose shape is told and whose numbers are in range is the one spelling of these.
use Rattle.std.proofs.Common.{◌≡◌, ℕ, ◌^◌, ◌<◌, ◌≤◌, Bool, true, List, [], ◌∷◌, ◌++◌, Option, Some, None, codes, sym, ap, subst, ◌∙◌, inl, inr}
use Rattle.std.specs.{Str.bytes_eq, Prelude.not}
use Rattle.shm_script.specs.{Text.spaced, Numbers.number_of, Faults.{between, key_of}}
use Rattle.shm_script.specs.Shapes.{both, given, one_of, two_of, three_of}
use Rattle.shm_script.proofs.{FitTexts.{either, is_head}, Inverts.{below_is, between_is, both_is, given_is}}
use Rattle.shm_script.proofs.{LineTexts.{blanks, one_text, two_text, three_text}, NumberTexts.number_is}
use Rattle.shm_tree.specs.declared.{shape.RawTree.RawTree, judge.{TreePlace.TreePlace, FitTree.FitTree}}
use Rattle.shm_tree.specs.Shapes.{heading_of, set_of, shape_by}
use Rattle.shm_tree.specs.Scripts.{fit_of, is_start, is_tree, may_stand, register_of, registers_of}
use Rattle.shm_tree.specs.ScriptTexts.{LineFits, line_spelled}
use Rattle.shm_tree.specs.declared.line.TreeLine.TheVariants as lines
use Rattle.shm_tree.specs.declared.shape.RawTree.TheVariants as raw
use Rattle.shm_tree.specs.declared.judge.FitTree.TheVariants as fit

-- a line in range
abbrev pub fit_text : FitTree → List ℕ
fit_text (fit.Tree n) = codes "tree" ++ spaced n
fit_text (fit.Life n) = codes "life" ++ spaced n
fit_text (fit.Line l) = line_spelled l

abbrev pub FitIn : FitTree → Type 0
FitIn (fit.Tree n) = (1 ≤ n) × (n ≤ 256)
FitIn (fit.Life n) = (1 ≤ n) × (n ≤ 2 ^ 40)
FitIn (fit.Line l) = LineFits l

-- where it may stand
abbrev pub stands : TreePlace → FitTree → Bool
stands p (fit.Tree n) = is_start p
stands p (fit.Life n) = is_tree p
stands p (fit.Line l) = not (is_start p)

pub record Told (r : RawTree) (head : List ℕ) (words : List (List ℕ)) (f : FitTree) : Type 0 where
  pub text : head ++ blanks words ≡ fit_text f
  pub range : FitIn f
  pub place : (p : TreePlace) → may_stand p r ≡ stands p f

pair_is : {A B : Type 0} (p : A × B) (a : A) (b : B) → p.0 ≡ a → p.1 ≡ b → p ≡ (a, b)
pair_is (x, y) a b h k = cc

triple_is : {A B C : Type 0} (p : A × B × C) (a : A) (b : B) (c : C) → p.0 ≡ a → p.1 ≡ b → p.2 ≡ c → p ≡ (a, b, c)
triple_is (x, y, z) a b c h k l = cc

tree_told : (words : List (List ℕ)) (r : RawTree) (f : FitTree) → given raw.Tree (one_of words) ≡ Some r → fit_of r ≡ Some f → Told r (codes "tree") words f
tree_told words r f h k =
    let g = given_is raw.Tree (one_of words) r h in
    let b = given_is fit.Tree (between 1 256 g.0) f (ap fit_of g.2 ∙ k) in
    let n = between_is 1 256 g.0 b.0 b.1 in
    let t = one_text words b.0 (g.1 ∙ ap Some n.0) in
    subst (Told r (codes "tree") words) b.2 (record { text = ap (λ w. codes "tree" ++ w) t.0; range = (n.1, n.2); place = λ p. ap (may_stand p) (sym g.2) })

life_told : (words : List (List ℕ)) (r : RawTree) (f : FitTree) → given raw.Life (one_of words) ≡ Some r → fit_of r ≡ Some f → Told r (codes "life") words f
life_told words r f h k =
    let g = given_is raw.Life (one_of words) r h in
    let b = given_is fit.Life (between 1 (2 ^ 40) g.0) f (ap fit_of g.2 ∙ k) in
    let n = between_is 1 (2 ^ 40) g.0 b.0 b.1 in
    let t = one_text words b.0 (g.1 ∙ ap Some n.0) in
    subst (Told r (codes "life") words) b.2 (record { text = ap (λ w. codes "life" ++ w) t.0; range = (n.1, n.2); place = λ p. ap (may_stand p) (sym g.2) })

clear_told : (words : List (List ℕ)) (r : RawTree) (f : FitTree) → given raw.Clear (one_of words) ≡ Some r → fit_of r ≡ Some f → Told r (codes "clear") words f
clear_told words r f h k =
    let g = given_is raw.Clear (one_of words) r h in
    let b = given_is (λ x. fit.Line (lines.Clear x)) (register_of g.0) f (ap fit_of g.2 ∙ k) in
    let n = below_is 12 g.0 b.0 b.1 in
    let t = one_text words b.0 (g.1 ∙ ap Some n.0) in
    subst (Told r (codes "clear") words) b.2 (record { text = ap (λ w. codes "clear" ++ w) t.0; range = n.1; place = λ p. ap (may_stand p) (sym g.2) })

get_told : (words : List (List ℕ)) (r : RawTree) (f : FitTree) → given (λ (n : Option ℕ × Option ℕ). raw.Get n.0 n.1) (two_of words) ≡ Some r → fit_of r ≡ Some f → Told r (codes "get") words f
get_told words r f h k =
    let g = given_is (λ (n : Option ℕ × Option ℕ). raw.Get n.0 n.1) (two_of words) r h in
    let b = both_is (λ x y. fit.Line (lines.Get x y)) (register_of g.0.0) (key_of g.0.1) f (ap fit_of g.2 ∙ k) in
    let a = below_is 12 g.0.0 b.0 b.2 in
    let c = below_is (2 ^ 32) g.0.1 b.1 b.3 in
    let t = two_text words b.0 b.1 (g.1 ∙ ap Some (pair_is g.0 (Some b.0) (Some b.1) a.0 c.0)) in
    subst (Told r (codes "get") words) b.4 (record { text = ap (λ w. codes "get" ++ w) t.0; range = (a.1, c.1); place = λ p. ap (may_stand p) (sym g.2) })

-- two registers
two_registers : (a b : Option ℕ) (x : ℕ × ℕ) → registers_of a b ≡ Some x → (a ≡ Some x.0) × (b ≡ Some x.1) × (x.0 < 12) × (x.1 < 12)
two_registers a b (x, y) h =
    let q = both_is (λ (u v : ℕ). (u, v)) (register_of a) (register_of b) (x, y) h in
    let eu : q.0 ≡ x = ap (λ (p : ℕ × ℕ). p.0) q.4 in
    let ev : q.1 ≡ y = ap (λ (p : ℕ × ℕ). p.1) q.4 in
    let u = below_is 12 a x (q.2 ∙ ap Some eu) in
    let v = below_is 12 b y (q.3 ∙ ap Some ev) in
    (u.0, v.0, u.1, v.1)

copy_told : (words : List (List ℕ)) (r : RawTree) (f : FitTree) → given (λ (n : Option ℕ × Option ℕ). raw.Copy n.0 n.1) (two_of words) ≡ Some r → fit_of r ≡ Some f → Told r (codes "copy") words f
copy_told words r f h k =
    let g = given_is (λ (n : Option ℕ × Option ℕ). raw.Copy n.0 n.1) (two_of words) r h in
    let b = given_is (λ (x : ℕ × ℕ). fit.Line (lines.Copy x.0 x.1)) (registers_of g.0.0 g.0.1) f (ap fit_of g.2 ∙ k) in
    let a = two_registers g.0.0 g.0.1 b.0 b.1 in
    let t = two_text words b.0.0 b.0.1 (g.1 ∙ ap Some (pair_is g.0 (Some b.0.0) (Some b.0.1) a.0 a.1)) in
    subst (Told r (codes "copy") words) b.2 (record { text = ap (λ w. codes "copy" ++ w) t.0; range = (a.2, a.3); place = λ p. ap (may_stand p) (sym g.2) })

del_told : (words : List (List ℕ)) (r : RawTree) (f : FitTree) → given (λ (n : Option ℕ × Option ℕ × Option ℕ). raw.Del n.0 n.1 n.2) (three_of words) ≡ Some r → fit_of r ≡ Some f → Told r (codes "del") words f
del_told words r f h k =
    let g = given_is (λ (n : Option ℕ × Option ℕ × Option ℕ). raw.Del n.0 n.1 n.2) (three_of words) r h in
    let b = both_is (λ (x : ℕ × ℕ) (y : ℕ). fit.Line (lines.Del x.0 x.1 y)) (registers_of g.0.0 g.0.1) (key_of g.0.2) f (ap fit_of g.2 ∙ k) in
    let a = two_registers g.0.0 g.0.1 b.0 b.2 in
    let c = below_is (2 ^ 32) g.0.2 b.1 b.3 in
    let t = three_text words b.0.0 b.0.1 b.1 (g.1 ∙ ap Some (triple_is g.0 (Some b.0.0) (Some b.0.1) (Some b.1) a.0 a.1 c.0)) in
    subst (Told r (codes "del") words) b.4 (record { text = ap (λ w. codes "del" ++ w) t.0; range = (a.2, a.3, c.1); place = λ p. ap (may_stand p) (sym g.2) })

-- a key and a number
key_number : (k n : Option ℕ) (x : ℕ × ℕ) → both (λ (u v : ℕ). (u, v)) (key_of k) n ≡ Some x → (k ≡ Some x.0) × (n ≡ Some x.1) × (x.0 < 2 ^ 32)
key_number k n (x, y) h =
    let q = both_is (λ (u v : ℕ). (u, v)) (key_of k) n (x, y) h in
    let eu : q.0 ≡ x = ap (λ (p : ℕ × ℕ). p.0) q.4 in
    let ev : q.1 ≡ y = ap (λ (p : ℕ × ℕ). p.1) q.4 in
    let u = below_is (2 ^ 32) k x (q.2 ∙ ap Some eu) in
    (u.0, q.3 ∙ ap Some ev, u.1)

set_told : (words : List (List ℕ)) (r : RawTree) (f : FitTree) → set_of words ≡ Some r → fit_of r ≡ Some f → Told r (codes "set") words f
unfolding set_of
set_told [] r f h k = absurd cc
set_told (word ∷ words) r f h k =
    let g = both_is (λ (a : Option ℕ) (n : Option ℕ × Option ℕ × Option ℕ). raw.Set a n.0 n.1 n.2) (number_of word) (three_of words) r h in
    let b = both_is (λ (x : ℕ × ℕ) (y : ℕ × ℕ). fit.Line (lines.Set x.0 x.1 y.0 y.1)) (registers_of g.0 g.1.0) (both (λ (x y : ℕ). (x, y)) (key_of g.1.1) g.1.2) f (ap fit_of g.4 ∙ k) in
    let a = two_registers g.0 g.1.0 b.0 b.2 in
    let c = key_number g.1.1 g.1.2 b.1 b.3 in
    let first = number_is word b.0.0 (g.2 ∙ ap Some a.0) in
    let t = three_text words b.0.1 b.1.0 b.1.1 (g.3 ∙ ap Some (triple_is g.1 (Some b.0.1) (Some b.1.0) (Some b.1.1) a.1 c.0 c.1)) in
    subst (Told r (codes "set") (word ∷ words)) b.4 (record {
      text = ap (λ w. codes "set" ++ ((32 ∷ w) ++ blanks words)) first.0 ∙ ap (λ w. codes "set" ++ (spaced b.0.0 ++ w)) t.0;
      range = (a.2, a.3, c.2, t.3);
      place = λ p. ap (may_stand p) (sym g.4);
    })

told_by : (r : RawTree) (head word : List ℕ) (words : List (List ℕ)) (f : FitTree) → bytes_eq head word ≡ true → Told r word words f → Told r head words f
told_by r head word words f h told = subst (λ w. Told r w words f) (sym (is_head head word h)) told

no_shape : (r : RawTree) → None ≡ Some r → ⊥
no_shape r h = cc

heading_told : (head : List ℕ) (words : List (List ℕ)) (r : RawTree) (f : FitTree) → heading_of head words ≡ Some r → fit_of r ≡ Some f → Told r head words f
unfolding heading_of
heading_told head words r f h k = elim (either (bytes_eq head (codes "tree")) _ _ _ h) [
  | inl p ↦ told_by r head (codes "tree") words f p.0 (tree_told words r f p.1 k)
  | inr p ↦ elim (either (bytes_eq head (codes "life")) _ _ _ p.1) [
    | inl q ↦ told_by r head (codes "life") words f q.0 (life_told words r f q.1 k)
    | inr q ↦ absurd (no_shape r q.1)
  ]
]

pub line_told : (head : List ℕ) (words : List (List ℕ)) (r : RawTree) (f : FitTree) → shape_by head words ≡ Some r → fit_of r ≡ Some f → Told r head words f
unfolding shape_by
line_told head words r f h k = elim (either (bytes_eq head (codes "set")) _ _ _ h) [
  | inl p ↦ told_by r head (codes "set") words f p.0 (set_told words r f p.1 k)
  | inr p ↦ elim (either (bytes_eq head (codes "del")) _ _ _ p.1) [
    | inl q ↦ told_by r head (codes "del") words f q.0 (del_told words r f q.1 k)
    | inr q ↦ elim (either (bytes_eq head (codes "get")) _ _ _ q.1) [
      | inl s ↦ told_by r head (codes "get") words f s.0 (get_told words r f s.1 k)
      | inr s ↦ elim (either (bytes_eq head (codes "copy")) _ _ _ s.1) [
        | inl t ↦ told_by r head (codes "copy") words f t.0 (copy_told words r f t.1 k)
        | inr t ↦ elim (either (bytes_eq head (codes "clear")) _ _ _ t.1) [
          | inl u ↦ told_by r head (codes "clear") words f u.0 (clear_told words r f u.1 k)
          | inr u ↦ heading_told head words r f u.1 k
        ]
      ]
    ]
  ]
]
