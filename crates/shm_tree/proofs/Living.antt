-- How many blocks came to be live where a tree was built, by the blocks that it has of its own.
use Rattle.std.proofs.Common.{◌≡◌, ◌≢◌, ◌==◌, ℕ, ◌≤◌, ◌||◌, Bool, true, false, cond, List, [], ◌∷◌, ◌++◌, length, length-append, refl, sym, ap, ◌∙◌, subst, arith, inl, inr, true≢false}
use Rattle.std.proofs.lemmas.Bool.{cases_eq, eqb-true, ne_eqb}
use Rattle.std.proofs.lemmas.List.Elements.{Contains-append_left, Contains-append_right}
use Rattle.std.specs.List.{Contains}
use Rattle.shm_graph.specs.declared.spot.Spot.TheVariants.{Body}
use Rattle.shm_plain.specs.Pools.{Pool}
use Rattle.shm_count.specs.declared.answer.Made.{Made}
use Rattle.shm_tree.specs.{Building.{IsBuilt, root_block}, Inserting.{is_part, outside}, Keeping.is_live}
use Rattle.shm_tree.specs.{Living.{AreFewNew, AreLivesNodes, AreRootsTrees}, Standing.{TreeStands, weight, word_of}}
use Rattle.shm_tree.specs.Trees.{Tree, Empty, Node}
use Rattle.shm_tree.proofs.{Lights.{either, once, outside_new, part_weighs, weighs_live}, Ways.stands_one}

-- the blocks of a tree that f counts
abbrev counted : (f : ℕ → ℕ) → ℕ → List ℕ
counted f b = cond (f b == 0) [] (b ∷ [])

abbrev news : (f : ℕ → ℕ) → Pool → ℕ → Tree → List ℕ
news f p b Empty = []
news f p b (Node k n l r) = counted f b ++ (news f p (word_of p (Body b 0)) l ++ news f p (word_of p (Body b 1)) r)

one_counted : (f : ℕ → ℕ) (b : ℕ) → length (counted f b) ≤ f b
one_counted f b = elim (cases_eq (f b) 0) [
  | inl e ↦ by (f b == 0) e
  | inr ne ↦ subst (λ (c : Bool). length (cond c [] (b ∷ [])) ≤ f b) (sym (ne_eqb (f b) 0 ne)) (omega (arith, ne))
]
  where
    by : (c : Bool) → f b ≡ 0 → length (cond (f b == 0) [] (b ∷ [])) ≤ f b
    by c e = subst (λ (i : ℕ). length (cond (i == 0) [] (b ∷ [])) ≤ i) (sym e) (omega arith)

news_few : (f : ℕ → ℕ) (p : Pool) (b : ℕ) (t : Tree) → length (news f p b t) ≤ weight f p b t
news_few f p b Empty = omega arith
news_few f p b (Node k n l r) =
    let one = one_counted f b in
    let left = news_few f p (word_of p (Body b 0)) l in
    let right = news_few f p (word_of p (Body b 1)) r in
    let all = length-append (counted f b) (news f p (word_of p (Body b 0)) l ++ news f p (word_of p (Body b 1)) r) in
    let both = length-append (news f p (word_of p (Body b 0)) l) (news f p (word_of p (Body b 1)) r) in
    omega (arith, one, left, right, all, both)

here : (f : ℕ → ℕ) (b : ℕ) → f b ≢ 0 → Contains (counted f b) b
here f b ne = subst (λ (c : Bool). Contains (cond c [] (b ∷ [])) b) (sym (ne_eqb (f b) 0 ne)) (0, omega arith, refl)

part_new : (f : ℕ → ℕ) (p : Pool) (z b : ℕ) (t : Tree) → is_part p z b t ≡ true → f z ≢ 0 → Contains (news f p b t) z
part_new f p z b Empty e some = absurd (true≢false (sym e))
part_new f p z b (Node k n l r) e some =
    let left : List ℕ = news f p (word_of p (Body b 0)) l in
    let right : List ℕ = news f p (word_of p (Body b 1)) r in
    elim (either (z == b) (is_part p z (word_of p (Body b 0)) l || is_part p z (word_of p (Body b 1)) r) e) [
      | inl y ↦ (let is : z ≡ b = eqb-true z b y in Contains-append_left (counted f b) (left ++ right) z (subst (Contains (counted f b)) (sym is) (here f b (subst (λ (i : ℕ). f i ≢ 0) is some))))
      | inr y ↦ Contains-append_right (counted f b) (left ++ right) z (elim (either (is_part p z (word_of p (Body b 0)) l) (is_part p z (word_of p (Body b 1)) r) y) [
        | inl x ↦ Contains-append_left left right z (part_new f p z (word_of p (Body b 0)) l x some)
        | inr x ↦ Contains-append_right left right z (part_new f p z (word_of p (Body b 1)) r x some)
      ])
    ]

-- where a tree was built and each live block is a node of a tree that a root names
pub lives_few : {n : ℕ} {m : Made} (p q : Pool) (i top : ℕ) (t u : Tree) → AreRootsTrees p → AreLivesNodes q → IsBuilt n m p q → TreeStands p top t → TreeStands q m.block u → weight (outside p top t) q m.block u ≤ i → AreFewNew i p q
lives_few {m = m} p q i top t u roots nodes built st su few =
    let f : ℕ → ℕ = outside p top t in
    let low = news_few f q m.block u in
    (news f q m.block u, omega (arith, low, few), all)
  where
    all : (b : ℕ) → is_live q b ≡ true → is_live p b ≡ false → Contains (news (outside p top t) q m.block u) b
    all b live dead =
        let w = nodes b live in
        elim (cases_eq w.0 m.root) [
          | inl e ↦
              (let at : root_block q w.0 ≡ m.block = ap (root_block q) e ∙ built.rooted.names in
              let same : w.2 ≡ u = stands_one q m.block w.2 u (subst (λ (d : ℕ). TreeStands q d w.2) at w.3) su in
              let part : is_part q b m.block u ≡ true = subst (λ (v : Tree). is_part q b m.block v ≡ true) same (subst (λ (d : ℕ). is_part q b d w.2 ≡ true) at w.4) in
              let one : outside p top t b ≡ 1 = outside_new p p b top t (λ g. refl) st dead in
              part_new (outside p top t) q b m.block u part (λ none. omega (arith, one, none)))
          | inr ne ↦
              (let same : root_block q w.0 ≡ root_block p w.0 = built.rooted.others w.0 ne in
              let old = roots w.0 w.1 in
              let there : TreeStands q (root_block p w.0) old.0 = built.trees w.0 old.0 w.1 old.1 in
              let is : w.2 ≡ old.0 = stands_one q (root_block p w.0) w.2 old.0 (subst (λ (d : ℕ). TreeStands q d w.2) same w.3) there in
              let part : is_part q b (root_block p w.0) old.0 ≡ true = subst (λ (v : Tree). is_part q b (root_block p w.0) v ≡ true) is (subst (λ (d : ℕ). is_part q b d w.2 ≡ true) same w.4) in
              let more = part_weighs q b (root_block p w.0) old.0 part in
              let kept = built.blocks (once b) w.0 old.0 w.1 old.1 in
              absurd (true≢false (sym (weighs_live p b (root_block p w.0) old.0 old.1 (omega (arith, more, kept))) ∙ dead)))
        ]
