use Rattle.std.proofs.Common.{ℕ, List, Option, arith, inl, inr}
use Rattle.view_program.specs.declared.job.{ImageForm.ImageForm, Job.TheVariants.Image}
use Rattle.view_program.specs.declared.job.ImageForm.TheVariants as form
use Rattle.view_program.specs.Calls.{AreFiguresWritten, IsForFigures, IsImageWritten, ReadsImage}
use Rattle.view_program.proofs.top.view.Goals as goal

-- what was read: an image, two images or a trace

pub returns-in-Ok-Some-Changes-clause-shown : goal.returns-in-Ok-Some-Changes-clause-shown
returns-in-Ok-Some-Changes-clause-shown g c h = inr (inl (c.view_changes.ensures.shown h))

pub returns-in-Ok-Some-Changes-clause-refused : goal.returns-in-Ok-Some-Changes-clause-refused
returns-in-Ok-Some-Changes-clause-refused g c h = inr (inl (c.view_changes.ensures.refused h))

pub returns-in-Ok-Some-Trace-clause-shown : goal.returns-in-Ok-Some-Trace-clause-shown
returns-in-Ok-Some-Trace-clause-shown g c h = inr (inr (c.in-Ok-Some-Trace.form, c.in-Ok-Some-Trace.window, c.view_trace.ensures.shown h))

pub returns-in-Ok-Some-Trace-clause-refused : goal.returns-in-Ok-Some-Trace-clause-refused
returns-in-Ok-Some-Trace-clause-refused g c h = inr (inr (c.view_trace.ensures.refused h))

-- a call whose words aren't accepted, or that was stopped for want of memory, has another status

pub returns-in-Ok-None-clause-shown : goal.returns-in-Ok-None-clause-shown
returns-in-Ok-None-clause-shown g c h = absurd (omega (arith, h, c.new.ensures))

pub returns-in-Ok-None-clause-refused : goal.returns-in-Ok-None-clause-refused
returns-in-Ok-None-clause-refused g c h = absurd (omega (arith, h, c.new.ensures))

pub returns-in-Err-clause-shown : goal.returns-in-Err-clause-shown
returns-in-Err-clause-shown g c h = absurd (omega (arith, h, c.stopped.ensures))

pub returns-in-Err-clause-refused : goal.returns-in-Err-clause-refused
returns-in-Err-clause-refused g c h = absurd (omega (arith, h, c.stopped.ensures))

-- where figures are asked for, they are what was written

figures : (f : ImageForm) (left left' held held' : Option (List ℕ)) → IsForFigures (Image f) → ReadsImage left left' (λ image. IsImageWritten f image held held') → AreFiguresWritten left left' held held'
figures form.Text left left' held held' for r = (r.0, r.1, inl r.2)
figures form.Json left left' held held' for r = (r.0, r.1, inr r.2)
figures (form.Pool client) left left' held held' for r = absurd for

pub returns-in-Ok-Some-Image-clause-figures : goal.returns-in-Ok-Some-Image-clause-figures
returns-in-Ok-Some-Image-clause-figures g c h asked = figures c.in-Ok-Some-Image.form _ _ _ _ (rw c.in-Ok-Some-Image.field-0-0-is at (rw c.in-Ok-Some-Image.field-0-is at (c.in-Ok-Some-Image.ensures asked))) (c.view_image.ensures.written h)

pub returns-in-Ok-Some-Changes-clause-figures : goal.returns-in-Ok-Some-Changes-clause-figures
returns-in-Ok-Some-Changes-clause-figures g c h asked = absurd (rw c.in-Ok-Some-Changes.field-0-0-is at (rw c.in-Ok-Some-Changes.field-0-is at (c.in-Ok-Some-Changes.ensures asked)))

pub returns-in-Ok-Some-Trace-clause-figures : goal.returns-in-Ok-Some-Trace-clause-figures
returns-in-Ok-Some-Trace-clause-figures g c h asked = absurd (rw c.in-Ok-Some-Trace.field-0-0-is at (rw c.in-Ok-Some-Trace.field-0-is at (c.in-Ok-Some-Trace.ensures asked)))

pub returns-in-Ok-None-clause-figures : goal.returns-in-Ok-None-clause-figures
returns-in-Ok-None-clause-figures g c h asked = absurd (omega (arith, h, c.new.ensures))

pub returns-in-Err-clause-figures : goal.returns-in-Err-clause-figures
returns-in-Err-clause-figures g c h asked = absurd (omega (arith, h, c.stopped.ensures))
