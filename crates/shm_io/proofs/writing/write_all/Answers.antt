use Rattle.std.proofs.{Common.{arith, ◌∙◌}, lemmas.List.{take_rest, length-take, length-drop}}
use Rattle.shm_io.proofs.WriteSteps.{Appends-front}
use Rattle.shm_io.proofs.writing.write_all.Goals as goal

pub loop-written-preserved : goal.loop-written-preserved
loop-written-preserved g c = record {
  within = omega (arith, simp (length-take, length-drop) at c.in_ok-written.ensures.count);
  held = Appends-front _ _ _ _ _ _ _ c.loop-written.invariant.held c.in_ok-written.ensures.appended (take_rest c.args.text.now c.loop-written.written);
  faults = c.in_ok-written.ensures.no_fault ∙ c.loop-written.invariant.faults;
}
