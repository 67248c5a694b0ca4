use Rattle.std.proofs.Common.{◌≤◌, ◌^◌, ◌∙◌, ap, arith}
use Rattle.shm_tree.specs.Scripts.{TreeScripted}
use Rattle.shm_versions.specs.declared.treed.Treed.{Treed}
use Rattle.shm_versions.proofs.{Plays.played_few, Runs.{script_low, tree_run}}
use Rattle.shm_versions.proofs.playing.run_script.Goals as goal

pub close-requires : goal.close-requires
close-requires c =
    let low = script_low c.args.script.now c.requires in
    let life = c.of-life.ensures ∙ c.life_of.ensures in
    let some : c.of-life.result.left ≤ 2 ^ 40 = omega (arith, low, life) in
    played_few _ _ _ _ _ _ _ c.in_ok-forest.ensures some c.in_ok-whole.ensures.played

pub returns : goal.returns
returns c =
    let s = c.args.script.now in
    let run : Treed = record { closed = c.close.result; answers = c.play.new.answers; holding = c.held_after-holding.result } in
    tree_run s run _ _ _ _ _ _ c.requires
    (ap (λ (t : TreeScripted). t.segments) c.script.view_is)
    (c.as_slice.ensures.value ∙ ap (λ (t : TreeScripted). t.lines) c.script.view_is)
    (c.of-life.ensures ∙ c.life_of.ensures)
    c.held_after-holding.ensures.whole c.in_ok-forest.ensures c.in_ok-whole.ensures.played c.held_after-holding.ensures.holds c.close.ensures
