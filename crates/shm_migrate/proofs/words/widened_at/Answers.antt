use Rattle.std.proofs.Common.{◌≡◌, true, false, arith, sym, ap, ◌∙◌, inl, inr}
use Rattle.shm_graph.specs.Spots.{see, classes_in, is_in_body}
use Rattle.shm_graph.proofs.Spots.{Spotting.spot_before_bodies, Seeing.see_at}
use Rattle.shm_audit.specs.Images.{numbers}
use Rattle.shm_migrate.specs.Widened.{moved, widened_at}
use Rattle.shm_migrate.proofs.WordReading.{is_name, name_moves, name_live, word_stays}
use Rattle.shm_migrate.proofs.words.widened_at.Goals as goal

pub moved-requires-clause-live : goal.moved-requires-clause-live
moved-requires-clause-live c =
    let name : is_name c.spot.result ≡ true = elim c.in-Home.is [
      | inl h ↦ ap is_name h.1
      | inr o ↦ elim o [
        | inl h ↦ ap is_name h.2
        | inr h ↦ ap is_name h.3
      ]
    ] in
    name_live c.args.geometry (numbers c.args.words.now) c.requires.clean c.args.at c.spot.result c.word-word.result (omega arith) (sym c.spot.ensures) name c.word-word.ensures

pub returns-in-Home : goal.returns-in-Home
returns-in-Home c =
    let g = c.args.geometry in
    let ws = numbers c.args.words.now in
    let name : is_name c.spot.result ≡ true = elim c.in-Home.is [
      | inl h ↦ ap is_name h.1
      | inr o ↦ elim o [
        | inl h ↦ ap is_name h.2
        | inr h ↦ ap is_name h.3
      ]
    ] in
    c.moved.ensures
    ∙ (ap (moved g) (c.word-word.ensures ∙ sym (see_at g ws c.args.at c.spot.result (omega arith) (sym c.spot.ensures)))
    ∙ (sym (name_moves g (see g ws) c.spot.result name) ∙ ap (widened_at g (see g ws)) c.spot.ensures))

pub returns-in_default : goal.returns-in_default
returns-in_default c =
    let g = c.args.geometry in
    let ws = numbers c.args.words.now in
    let n = c.in_default in
    let outside : is_in_body c.spot.result ≡ false = ap is_in_body c.spot.ensures ∙ spot_before_bodies g (classes_in g ws) c.args.at c.requires.range in
    c.word-word.ensures
    ∙ (sym (see_at g ws c.args.at c.spot.result (omega arith) (sym c.spot.ensures))
    ∙ (sym (word_stays g (see g ws) c.spot.result n.not-Spare n.not-Redo n.not-RedoMore n.not-Home n.not-Root n.not-Slot outside)
    ∙ ap (widened_at g (see g ws)) c.spot.ensures))
