use Rattle.std.proofs.Common.{◌≡◌, refl, sym, ap, ◌∙◌}
use Rattle.std.specs.Prelude.{Option, None, Some}
use Rattle.shm_graph.specs.Spots.{see}
use Rattle.shm_audit.specs.Verdicts.{by_client}
use Rattle.shm_audit.proofs.Steps.{end_found, end_reference, end_sound, end_tag}
use Rattle.shm_audit.proofs.auditor.Auditor.finish.Goals as goal

none_of : {A : Type 0} (o : Option A) → ((x : A) → o ≡ Some x → ⊥) → o ≡ None
none_of None h = refl
none_of (Some x) h = absurd (h x refl)

pub returns-in-Some-tag-clause-err : goal.returns-in-Some-tag-clause-err
returns-in-Some-tag-clause-err c = λ ws from s. end_tag c.args.geometry ws c.requires.fits c.args.self.now.fault c.args.self.now.tag c.in-Some-tag.fault c.args.self.now.tally (none_of c.args.self.now.fault c.in_default.not-Some) c.in-Some-tag.is s

pub returns-in-Some-bad_reference-clause-err : goal.returns-in-Some-bad_reference-clause-err
returns-in-Some-bad_reference-clause-err c = λ ws from s.
    let h = end_found c.args.geometry ws c.requires.fits c.args.self.now.fault c.args.self.now.tag c.args.self.now.tally (none_of c.args.self.now.fault c.in_default.not-Some) (none_of c.args.self.now.tag c.in_default-tag.not-Some) s in
    end_reference c.args.geometry ws c.requires.fits c.args.self.now.tally c.bad_reference.result c.in-Some-bad_reference.field-0 h (c.bad_reference.ensures c.args.geometry ws c.requires.fits h.sound.pages h.found) c.in-Some-bad_reference.is

pub returns-in-Some-first_pending-clause-ok : goal.returns-in-Some-first_pending-clause-ok
returns-in-Some-first_pending-clause-ok c = λ ws from s.
    let h = end_found c.args.geometry ws c.requires.fits c.args.self.now.fault c.args.self.now.tag c.args.self.now.tally (none_of c.args.self.now.fault c.in_default.not-Some) (none_of c.args.self.now.tag c.in_default-tag.not-Some) s in (
      end_sound c.args.geometry ws c.requires.fits c.args.self.now.tally c.bad_reference.result h (c.bad_reference.ensures c.args.geometry ws c.requires.fits h.sound.pages h.found) (none_of c.bad_reference.result c.in_default-bad_reference.not-Some),
      ap (by_client c.args.geometry (see c.args.geometry ws)) (sym c.in-Some-first_pending.is ∙ c.first_pending.ensures ws from),
    )

pub returns-clause-ok : goal.returns-clause-ok
returns-clause-ok c = λ ws from s.
    let h = end_found c.args.geometry ws c.requires.fits c.args.self.now.fault c.args.self.now.tag c.args.self.now.tally (none_of c.args.self.now.fault c.in_default.not-Some) (none_of c.args.self.now.tag c.in_default-tag.not-Some) s in (
      end_sound c.args.geometry ws c.requires.fits c.args.self.now.tally c.bad_reference.result h (c.bad_reference.ensures c.args.geometry ws c.requires.fits h.sound.pages h.found) (none_of c.bad_reference.result c.in_default-bad_reference.not-Some),
      c.judge.ensures c.args.geometry ws c.requires.fits h.sound.pages h.found ∙ ap (by_client c.args.geometry (see c.args.geometry ws)) (sym (none_of c.first_pending.result c.in_default-first_pending.not-Some) ∙ c.first_pending.ensures ws from),
    )
