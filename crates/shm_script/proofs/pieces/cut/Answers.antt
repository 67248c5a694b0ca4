use Rattle.std.proofs.Common.{◌≡◌, ◌+◌, ◌-◌, List, ℕ, Some, None, length, take, drop, arith, ◌∙◌}
use Rattle.std.proofs.lemmas.List.{take_all, length-drop, drop-drop}
use Rattle.std.specs.Prelude.{◌==◌}
use Rattle.shm_script.proofs.Cuts.{cut_is}
use Rattle.shm_script.proofs.pieces.cut.Goals as goal

-- all behind the first
behind : (xs : List ℕ) (i : ℕ) → take (length (drop i xs) - 1) (drop 1 (drop i xs)) ≡ drop (i + 1) xs
behind xs i = take_all (length (drop i xs) - 1) (drop 1 (drop i xs)) (omega (arith, length-drop 1 (drop i xs))) ∙ drop-drop 1 i xs

pub returns-in-None-clause-pieces : goal.returns-in-None-clause-pieces
returns-in-None-clause-pieces c = cut_is (λ b. b == c.args.byte) c.args.text.now None c.in-None.ensures

pub returns-in-Some-clause-pieces : goal.returns-in-Some-clause-pieces
returns-in-Some-clause-pieces c =
    let h = cut_is (λ b. b == c.args.byte) c.args.text.now (Some c.in-Some.at) c.in-Some.ensures in
    rw (c.split_at.ensures.front, c.split_at.ensures.back, behind c.args.text.now c.in-Some.at) h.1
