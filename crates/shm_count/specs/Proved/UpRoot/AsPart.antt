-- an up at the least empty root as a part of larger machines: what is proved of it
use Rattle.std.proofs.{Common.{◌≡◌, ℕ, ◌+◌, refl, ◌∙◌, arith, List}, lemmas.Bool.cond-true}
use Rattle.std.specs.Prelude.{Result, Ok, Err}
use Rattle.shm_graph.specs.{declared.{ask.Me.Me, memo.Memo.Memo, spot.Spot.TheVariants.Root}, Asks.{Trail, IsWithin}}
use Rattle.shm_graph.specs.{Bounds.up_steps, Events.Event}
use Rattle.shm_graph.proofs.Spots.Spotting.{same_spot_self}
use Rattle.plans.specs.{CallsControl.calls_of, CallsPart.MayCall}
use Rattle.shm_count.specs.declared.answer.ShareFault.{ShareFault, TheVariants.{EraSpent, RootsFull, CountFull}}
use Rattle.shm_count.specs.{Roots.root_word, UpRoot.Control.{rooting, rooting_parts, rooting_steered}}
use Rattle.shm_count.specs.{UpRoot.{MayUpRoot, Rooted, UpRootLeaves, rooting_plan}, Proved.UpRoot.Laws.rooting_begin}

-- it may be called where a block in reach is to have a root
pub may_up_root : (me : Me) (b : ℕ) (r : Memo) → MayUpRoot me b r → MayCall rooting_parts rooting_plan (calls_of rooting_steered (rooting me b)) r
may_up_root me b r may = record { made = refl; first = refl; start = refl; knows = rooting_begin (rooting me b) r refl may }

-- the root that was empty names the block
pub rooted_root : (me : Me) (b k : ℕ) (r0 r : Memo) (tr : Trail) (es : List Event) → Rooted me b k r0 r tr es → root_word me.who r k ≡ b
rooted_root me b k r0 r tr es h = h.filled.own (Root me.who k) refl ∙ cond-true _ _ _ (same_spot_self (Root me.who k))

-- whatever it answers, it takes at most a word step for each root besides those of a step up
pub up_root_bound : (me : Me) (b : ℕ) (r0 r : Memo) (tr : Trail) (es : List Event) (a : Result ℕ ShareFault) → UpRootLeaves me b r0 r tr es a → IsWithin (up_steps me.geometry.wide + 16) tr
up_root_bound me b r0 r tr es (Ok k) h = let x = h.bound in let l = h.low in omega arith
up_root_bound me b r0 r tr es (Err (EraSpent e)) h = let x = h.bound in omega arith
up_root_bound me b r0 r tr es (Err RootsFull) h = let x = h.bound in omega arith
up_root_bound me b r0 r tr es (Err (CountFull d n)) h = h.bound
