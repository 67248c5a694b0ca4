-- what the words of a redo record name
use Rattle.std.proofs.{Common.{◌≡◌, ℕ, Bool, true, false, refl, sym, ap, ◌∙◌, subst, inl, inr}, lemmas.Bool.true≢false}
use Rattle.std.specs.Prelude.{Some}
use Rattle.shm_words.specs.declared.{geometry.Geometry.Geometry, redo.Redo.Redo as ARedo}
use Rattle.shm_words.specs.Redos.{redo_of, redo_first, redo_second, RedoFits}
use Rattle.shm_words.specs.declared.redo.Redo.TheVariants as redos
use Rattle.shm_words.proofs.Words.{second_told, redo_of-word, redo_of-words, redo_mixed, with_before}
use Rattle.shm_graph.specs.{Blocks.IsBlock, Held.{RedoTie, MayName, IsBefore, IsSecond, FirstNames, Names}}

-- the block before is one that the first word names, or in format 2 the second word
before_named : (g : Geometry) (class : ℕ → ℕ → ℕ) (more a : ℕ) → (g.wide ≡ true → a ≡ more) → (g.wide ≡ false → IsBlock g class a) → IsSecond g class more → IsBefore g class a
before_named g class more a wide narrow s = go g.wide refl s
  where
    go : (b : Bool) → g.wide ≡ b → IsSecond g class more → IsBefore g class a
    go false e s = inr (narrow e)
    go true e (inl z) = inl (e, wide e ∙ z)
    go true e (inr n) = inr (subst (IsBlock g class) (sym (wide e)) n)

pub may_name : (g : Geometry) (class : ℕ → ℕ → ℕ) (redo more : ℕ) (r : ARedo) → RedoTie g class redo more → redo_of g.wide redo more ≡ Some r → MayName g class r
may_name g class redo more redos.Idle h e = tt
may_name g class redo more (redos.Up p b) h e = h.first more (redos.Up p b) e
may_name g class redo more (redos.Down p b) h e = before_named g class more b (λ w. second_told redo more (redos.Down p b) (subst (λ z. redo_of z redo more ≡ Some (redos.Down p b)) w e)) (h.first more (redos.Down p b) e) h.second
may_name g class redo more (redos.Change parity p a b) h e =
    let f = h.first more (redos.Change parity p a b) e in
    (before_named g class more a (λ w. second_told redo more (redos.Change parity p a b) (subst (λ z. redo_of z redo more ≡ Some (redos.Change parity p a b)) w e)) f.0 h.second, f.1)

-- ---- a record that is stored

-- in format 1 its word says it, and in format 2 its words do
pub record_said : (wide : Bool) (red : ARedo) (x : ℕ) → RedoFits wide red → (wide ≡ true → x ≡ redo_second true red) → redo_of wide (redo_first wide red) x ≡ Some red
record_said false red x f e = redo_of-word red x f
record_said true red x f e = ap (redo_of true (redo_first true red)) (e refl) ∙ redo_of-words true red f

-- whatever the second word is, its first word names blocks
pub first_again : (g : Geometry) (class : ℕ → ℕ → ℕ) (red : ARedo) → RedoFits g.wide red → Names g class red → (x : ℕ) (r : ARedo) → redo_of g.wide (redo_first g.wide red) x ≡ Some r → FirstNames g class r
first_again g class red f n x r e = go g.wide refl f e
  where
    alike : (s : ARedo) → Names g class s → FirstNames g class s
    alike redos.Idle m = m
    alike (redos.Up p b) m = m
    alike (redos.Down p b) m = λ z. m
    alike (redos.Change odd p a b) m = (λ z. m.0, m.1)

    mixed : (s : ARedo) → Names g class s → g.wide ≡ true → FirstNames g class (with_before s x)
    mixed redos.Idle m q = m
    mixed (redos.Up p b) m q = m
    mixed (redos.Down p b) m q = λ z. absurd (true≢false (sym q ∙ z))
    mixed (redos.Change odd p a b) m q = (λ z. absurd (true≢false (sym q ∙ z)), m.1)

    go : (wide : Bool) → g.wide ≡ wide → RedoFits wide red → redo_of wide (redo_first wide red) x ≡ Some r → FirstNames g class r
    go false q f s = (let z : Some red ≡ Some r = sym (redo_of-word red x f) ∙ s in let y : red ≡ r = cc in subst (FirstNames g class) y (alike red n))
    go true q f s = subst (FirstNames g class) (sym (redo_mixed red x r f s)) (mixed red n q)
