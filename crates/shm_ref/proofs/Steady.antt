-- a drop of roots leaves the map of the table as it was, at each point on its way
use Rattle.std.proofs.Common.{true, false, ap, List}
use Rattle.shm_words.specs.Layout.{address}
use Rattle.shm_words.specs.declared.place.Place.TheVariants as place
use Rattle.shm_graph.specs.declared.{ask.Ask.TheVariants.Load as LoadWord, spot.Spot.TheVariants.Root, memo.Memo.Memo}
use Rattle.shm_graph.specs.{Asks.Trail, Events.Event}
use Rattle.kind_parts.specs.WordParts.{OwnLoaded}
use Rattle.plans.specs.{CallsControl.calls_control, CallsPart.calls_part, Either.{or_control, or_part}}
use Rattle.plans.specs.Words.{word_control}
use Rattle.shm_count.specs.{CountParts.tear_part, Slots.Parts.down_slot_part, Steady.{IsSteady, SameMap}}
use Rattle.shm_count.specs.{Step.Machines.down_control, Tear.Control.tear_control}
use Rattle.shm_count.proofs.Steady.{calls_steady, or_steady, table_of, word_steady, Steps.{down_steady, lost_part}}
use Rattle.shm_count.proofs.Steady.Tears.{tear_steady}
use Rattle.shm_ref.specs.declared.drop_root.DropPoint.{DropPoint, TheVariants.{Load, Lower, Tear}}
use Rattle.shm_ref.specs.{declared.drop_root.DropState.DropState, DropRoot.Control.{drop_parts, is_load}}
use Rattle.shm_ref.specs.{DropRoot.{DropKnows, drop_plan}, DropRoots.{Control.{drop_root, roots_steered}, roots_plan}}
use Rattle.shm_ref.specs.RootParts.{load_part}

-- a drop of a root, before each call
drop_known : (m : DropState) (y : DropPoint) (r0 r : Memo) (tr : Trail) (es : List Event) → DropKnows m y r0 r tr es → SameMap r0 r
drop_known m Load r0 r tr es (may, low, same, none, quiet) = table_of r0 r (ap (λ (x : Memo). x.part) same)
drop_known m Lower r0 r tr es h = table_of r0 r (ap (λ (x : Memo). x.part) h.same)
drop_known m Tear r0 r tr es h = table_of r0 r (lost_part m.me.who (Root m.me.who m.root) false m.block 0 true r0 r tt h.lost)

-- and each call
drop_calls : (m : DropState) → IsSteady drop_parts (drop_plan.part m)
drop_calls m =
    or_steady word_control (or_control down_control tear_control) (load_part m.me m.root (is_load m.point)) (or_part (down_slot_part (Root m.me.who m.root) false) tear_part)
    (word_steady (is_load m.point) m.me (LoadWord (address m.me.geometry (place.Root m.me.who m.root))) (OwnLoaded (Root m.me.who m.root)))
    (or_steady down_control tear_control (down_slot_part (Root m.me.who m.root) false) tear_part (down_steady (Root m.me.who m.root) tt) tear_steady)

pub drop_steady : IsSteady drop_root (calls_part drop_parts drop_plan)
drop_steady = calls_steady drop_parts drop_plan (λ m. drop_known m m.point) drop_calls

-- a drop of all roots
pub roots_steady : IsSteady (calls_control drop_root roots_steered) (calls_part drop_root roots_plan)
roots_steady = calls_steady drop_root roots_plan (λ m r0 r tr es h. table_of r0 r (ap (λ (x : Memo). x.part) h.gone.left.rest)) (λ m. drop_steady)
