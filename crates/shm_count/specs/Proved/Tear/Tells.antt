-- the event of each word step of a tear-down is the one that it tells
use Rattle.std.proofs.{Common.{◌≡◌, ℕ, refl, sym, subst, false, List}, lemmas.Bool.true≢false}
use Rattle.shm_graph.specs.declared.{ask.{Ask.{Ask, TheVariants.Store}, Me.Me}, spot.Spot.Spot, memo.Memo.Memo}
use Rattle.shm_graph.specs.{Spots.spot_at, Blocks.{classes, IsBlock}, Asks.{at_of, Trail, seen_of}}
use Rattle.shm_graph.specs.{Events.{Event, Free}, Laws.{event_on, framed, Stands, Frame}, Tells.{Tells, happens_along}}
use Rattle.shm_graph.specs.declared.spot.Spot.TheVariants as spot
use Rattle.kind_parts.proofs.BlockTold.{dying_block}
use Rattle.shm_count.specs.{declared.tear_point.TearPoint.TearPoint, Proved.DyingBlocks.dying_tag_spot}
use Rattle.shm_count.specs.Proved.Tear.Laws.{IsRunning, fit_runs}
use Rattle.shm_count.specs.Tear.Control.{word_address, tear_ask_at, is_over, tear_control, TearPointFits}
use Rattle.shm_count.specs.Tear.{Events.{tear_event, tear_event_at, tear_start}, IsVisited, TearHolds, TearFits}
use Rattle.shm_count.specs.declared.point.Aim.TheVariants as aims
use Rattle.shm_count.specs.declared.tear_point.TearPoint.TheVariants as point
use Rattle.shm_count.specs.Proved.Step.Tells as steps

module _ (me : Me) (w : Spot → ℕ) (r : ℕ → Memo) (f : Frame) (tr : Trail) (st : Stands me w r f tr) (b k : ℕ) (at : IsVisited me (r me.who) (record { block = b; cleared = k })) where
  -- a zero-count block is a block of the pool
  visited_block : IsBlock me.geometry (classes w) b
  visited_block = dying_block me.geometry w r me.who b st.held st.who at.dying

  -- a store of 0 into its header frees it
  freed_event : event_on (r me.who) (framed me (Store b 0) f 0) (spot_at me.geometry (classes w) b) ≡ Free me.who b
  freed_event = subst (λ (p : Spot). event_on (r me.who) (framed me (Store b 0) f 0) p ≡ Free me.who b) (sym visited_block) refl

-- the event at a point: that of the step down, or the freeing of the block, and otherwise none
tells_at : (me : Me) (first : ℕ) (r0 : Memo) (w : Spot → ℕ) (r : ℕ → Memo) (f : Frame) (tr : Trail) (b : ℕ) (es : List Event) (y : TearPoint) → Stands me w r f tr → TearPointFits me y → TearHolds me first r0 b y (r me.who) es tr → IsRunning y → is_over y ≡ false
    → let a : Ask = tear_ask_at me b y in let s = spot_at me.geometry (classes w) (at_of a) in event_on (r me.who) (framed me a f (seen_of a (w s))) s ≡ tear_event_at me b y (seen_of a (w s))
tells_at me first r0 w r f tr b es point.Begin st fits h c o = refl
tells_at me first r0 w r f tr b es (point.Enter l) st fits h c o = refl
tells_at me first r0 w r f tr b es (point.Link g) st fits h c o = steps.quiet me w r f (tear_ask_at me b (point.Link g)) (spot.Tag b) (dying_tag_spot me.geometry w r me.who b st.held st.who h.2.settled.visited.dying) refl
tells_at me first r0 w r f tr b es (point.Word g i) st fits h c o = refl
tells_at me first r0 w r f tr b es (point.Down g i t y) st fits h c o = steps.tells_at me (word_address b i) (aims.Down t) (spot.Body b i) h.2 w r f tr y st h.6 fits.3 h.7 c
tells_at me first r0 w r f tr b es (point.Free g) st fits h c o = freed_event me w r f tr st b h.0 h.2.settled.visited
tells_at me first r0 w r f tr b es point.Return st fits h c o = refl
tells_at me first r0 w r f tr b es point.Over st fits h c o = absurd (true≢false o)

-- in any frame
pub tear_tells : Tells tear_control TearFits tear_event
tear_tells m r0 tr w r f going st fit =
    tells_at m.me m.first r0 w r f tr m.block (happens_along tear_control tear_event (tear_start m) tr) m.point st fit.knows.point fit.holds (fit_runs m r0 (r m.me.who) tr fit) going
