use Rattle.std.proofs.Common.{sym, ◌∙◌, arith, inl, inr}
use Rattle.shm_audit.specs.Images.{numbers}
use Rattle.shm_audit.proofs.Fronts.{from_word, front_home, front_other, front_root, front_slot, numbers_length}
use Rattle.shm_audit.proofs.words.reference_before.Goals as goal
use Rattle.shm_graph.proofs.Spots.WordsAt.{place_inside}

pub returns-in-Home : goal.returns-in-Home
returns-in-Home c = λ ws from.
    let g = c.args.geometry in
    let p = place_inside g c.args.at c.place.result c.in-Some.place c.place.ensures.inside c.place.ensures.outside c.in-Some.is in
    let n = numbers_length c.args.front.now in
    let w = from_word ws (numbers c.args.front.now) 0 c.args.at c.args.at from (omega (arith, c.requires.before, c.requires.whole)) (omega arith) in
    c.word.ensures ∙ (sym w ∙ sym (elim c.in-Home.is [
      | inl h ↦ front_home g ws c.args.at c.requires.before h.0 (sym p.1 ∙ h.1)
      | inr o ↦ elim o [
        | inl h ↦ front_root g ws c.args.at c.requires.before h.0 h.1 (sym p.1 ∙ h.2)
        | inr h ↦ front_slot g ws c.args.at c.requires.before h.0 h.1 h.2 (sym p.1 ∙ h.3)
      ]
    ]))

pub returns-in_default : goal.returns-in_default
returns-in_default c = λ ws from. absurd (c.in_default.not-Some _ (c.place.ensures.inside (let b = c.requires.before in omega arith)))

pub returns-in_default-place : goal.returns-in_default-place
returns-in_default-place c = λ ws from.
    let p = place_inside c.args.geometry c.args.at c.place.result c.in-Some.place c.place.ensures.inside c.place.ensures.outside c.in-Some.is in
    sym (front_other c.args.geometry ws c.args.at c.requires.before c.in-Some.place (sym p.1) c.in_default-place.not-Home c.in_default-place.not-Root c.in_default-place.not-Slot)
