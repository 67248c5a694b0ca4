use Rattle.std.proofs.lemmas.Result.{IfOk-weaker}
use Rattle.shm_program.specs.Outcomes.{Spells}
use Rattle.shm_program.proofs.JobAnswers.{drawn_told, read_printed, read_told}
use Rattle.shm_program.proofs.answer.answer.Goals as goal

pub returns-in-Ok : goal.returns-in-Ok
returns-in-Ok c =
    let f = c.in-Ok.ensures.found in
    let s : Spells c.args.bytes.now c.in-Ok.trace = record { trace = f.0; short = f.2; text = f.1 } in
    rw c.in-Replay.is (IfOk-weaker c.tell.result _ _ (λ r h. read_told c.in-Replay.form c.args.bytes.now c.in-Ok.trace r.status r.finished r.text.items s h) c.tell.ensures)

pub returns-in-Ok-parse : goal.returns-in-Ok-parse
returns-in-Ok-parse c =
    let f = c.in-Ok-parse.ensures.found in
    let s : Spells c.args.bytes.now c.in-Ok-parse.trace = record { trace = f.0; short = f.2; text = f.1 } in
    rw c.in-Print.is (IfOk-weaker c.print_of.result _ _ (λ r h. read_printed c.args.bytes.now c.in-Ok-parse.trace r.status r.finished r.text.items s h) c.print_of.ensures)

pub returns-in_ok-generate-in-Make : goal.returns-in_ok-generate-in-Make
returns-in_ok-generate-in-Make c =
    rw c.in-Make.is (IfOk-weaker c.tell-in-Make-2.result _ _ (λ r h. drawn_told c.in-Make.start c.in-Make.size c.args.bytes.now c.in_ok-generate-in-Make.field-0 r.status r.finished r.text.items c.in_ok-generate-in-Make.ensures h) c.tell-in-Make-2.ensures)
