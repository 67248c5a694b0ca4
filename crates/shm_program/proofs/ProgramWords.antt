-- the words after the first one
use Rattle.std.proofs.Common.{◌≡◌, List, [], ◌∷◌, ◌++◌, length, drop, refl, sym, ap, ◌∙◌, arith, Option, Some, None}
use Rattle.std.specs.{Option.option_to_list, Vec.Iter.{into_iter_items, into_iter_len, into_iter_steps}}
use Rattle.std.specs.declared.vec.IntoIter.{IntoIter}

nothing : {A : Type 0} (xs : List A) → length xs ≡ 0 → xs ≡ []
nothing [] e = refl
nothing (x ∷ xs) e = absurd (omega (arith, e))

-- what is left after one was taken, or none was there
pub left_behind : {X Z : Type 0} (old new : IntoIter X Z) (r : Option X) → into_iter_items old ≡ option_to_list r ++ into_iter_items new → into_iter_steps old r new → into_iter_len old ≡ length (into_iter_items old) → into_iter_items new ≡ drop 1 (into_iter_items old)
left_behind old new (Some x) e s l = sym (ap (drop 1) e)
left_behind old new None e s l = let none : into_iter_items old ≡ [] = nothing _ (sym l ∙ s.0) in sym e ∙ (none ∙ sym (ap (drop 1) none))
