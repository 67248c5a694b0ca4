use Rattle.std.proofs.Common.{◌≡◌, ℕ, List, ap, subst}
use Rattle.std.specs.Prelude.{Option, Some}
use Rattle.run_view.specs.{Piped.{Adds, Sending}, Tables.number_right}
use Rattle.run_view.proofs.Piping.{adds_more}
use Rattle.run_view.proofs.outgoing.Out.row.Goals as goal

in_column : {A : Type 0} {held : A → Option (List ℕ)} {faults : A → ℕ} {x y : Sending A} {m n : Option ℕ} (width : ℕ) → m ≡ n → Adds held faults x y (number_right width m) → Adds held faults x y (number_right width n)
in_column {A} {held} {faults} {x} {y} width e a = subst (λ (o : Option ℕ). Adds held faults x y (number_right width o)) e a

pub returns : goal.returns
returns g c =
    let row1 = adds_more (in_column 6 (ap Some c.from.ensures) c.number_right.ensures) c.number_right-2.ensures in
    let row2 = adds_more row1 (in_column 9 c.turn_of.ensures c.number_right-3.ensures) in
    let row3 = adds_more row2 (in_column 9 c.step_of.ensures c.number_right-4.ensures) in
    let row4 = adds_more row3 (in_column 9 c.step_of-2.ensures c.number_right-5.ensures) in
    let row5 = adds_more row4 (in_column 9 c.end_of.ensures c.number_right-6.ensures) in
    let row6 = adds_more row5 (in_column 9 c.death_of.ensures c.number_right-7.ensures) in
    let row7 = adds_more row6 c.text.ensures in
    let row8 = adds_more row7 c.task.ensures in
    adds_more row8 c.text-2.ensures
