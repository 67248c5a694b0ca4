use Rattle.shm_view.specs.Svg.{paint_text}
use Rattle.shm_view.proofs.Pushing.{pushed_three}
use Rattle.shm_view.proofs.svg.push_paint.Goals as goal

pub returns : goal.returns
unfolding paint_text
returns c =
    pushed_three c.args.text.now.items _ _ _ c.push_text.new.text.items c.push_channels.new.text.items c.push_text-2.new.text.items
    c.in_ok-push_text.ensures.ok c.in_ok-push_channels.ensures c.in_ok-push_text-2.ensures.ok
