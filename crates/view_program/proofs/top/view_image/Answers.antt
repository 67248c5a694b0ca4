use Rattle.view_program.proofs.top.view_image.Goals as goal

-- what was read is the image that was shown
pub returns-in-Ok-clause-written : goal.returns-in-Ok-clause-written
returns-in-Ok-clause-written g c h = (c.in-Ok.image.items, c.in-Ok.ensures.read, rw c.as_slice.ensures.value at (c.show_image.ensures.written h))
