-- the laws of the kinds of word step at spots of no body, as machines use them
use Rattle.std.proofs.{Common.{◌≡◌, ℕ, refl, sym, ap, ◌∙◌, false, subst}, lemmas.Bool.true≢false}
use Rattle.shm_words.specs.declared.geometry.Geometry.{Geometry}
use Rattle.shm_graph.specs.declared.{ask.{Ask.{Ask, TheVariants.Store}, Me.Me}, spot.Spot.Spot}
use Rattle.shm_graph.specs.declared.{spot.Spot.TheVariants.{Status, Unused}, memo.Memo.Memo}
use Rattle.shm_graph.specs.{Spots.{spot_at, upd, is_in_body}, Blocks.classes, Views.{view, at1}, Held.HeldAt}
use Rattle.shm_graph.specs.{Asks.{Trail, at_of, seen_of, words_after}, Changes.{memo_on, called}}
use Rattle.shm_graph.specs.{Telling.{spot_told, body_told, outside_or}, Ops.{cover_of, held_over_of}}
use Rattle.shm_graph.specs.{Events.{graph_of, IsSame}, Controllers.{IsAllowed, IsEraRaised}}
use Rattle.shm_graph.specs.Laws.{Frame, framed, Stands, KeptAt}
use Rattle.shm_graph.specs.declared.memo.Status.TheVariants as status
use Rattle.shm_graph.proofs.{Memos.MemoParts.status_set, Machines.Calling.{called_held, called_part}}
use Rattle.shm_graph.proofs.StepKinds.{StatusStore.status_held, SameGraph.{same_graph, nothing_happens, no_row}}
use Rattle.shm_graph.proofs.Spots.PageSpots.{fixed_stays}

-- the memo tells each spot of no body
pub told_fixed : (g : Geometry) (class : ℕ → ℕ → ℕ) (c : ℕ) (m : Memo) (a : Ask) (p : Spot) → spot_at g class (at_of a) ≡ p → is_in_body p ≡ false → spot_told g c m a ≡ p
unfolding spot_at
told_fixed g class c m a p e n = ap (λ q. outside_or q (body_told g c m a)) (fixed_stays g class (λ s q. 0) (at_of a) p e n) ∙ outside_here p (body_told g c m a) n
  where
    outside_here : (q r : Spot) → is_in_body q ≡ false → outside_or q r ≡ q
    outside_here (Unused b) r z = absurd (true≢false z)
    outside_here q r z = refl

-- a step at a spot of no body that leaves the graph
pub fixed_kept : (me : Me) (w : Spot → ℕ) (r : ℕ → Memo) (a : Ask) (f : Frame) (after : ℕ → Memo → Type 0) (p : Spot) → spot_at me.geometry (classes w) (at_of a) ≡ p → is_in_body p ≡ false
    → let m : Memo = memo_on (r me.who) (framed me a f (seen_of a (w p))) p in
    HeldAt me.geometry (words_after w a p) (view (at1 r me.who m))
    → IsSame (graph_of me.geometry w (view r)) (graph_of me.geometry (words_after w a p) (view (at1 r me.who m)))
    → IsAllowed me.geometry w (view r) me.who a p
    → IsEraRaised w a p
    → after (seen_of a (w p)) m
    → KeptAt me w r a f after (spot_at me.geometry (classes w) (at_of a))
fixed_kept me w r a f after p e n held same allowed era x =
    let m : Memo = memo_on (r me.who) (framed me a f (seen_of a (w p))) p in
    subst (KeptAt me w r a f after) (sym e)
    (record {
      told = told_fixed me.geometry (classes w) me.who (r me.who) a p e n;
      step = record {
        held = held;
        event = nothing_happens me.geometry w (words_after w a p) (r me.who) (framed me a f (seen_of a (w p))) a p (graph_of me.geometry w (view r)) (graph_of me.geometry (words_after w a p) (view (at1 r me.who m))) n same;
        allowed = allowed;
        row = no_row w me.who a p n;
        era = era;
      };
      fits = x;
    })

-- ---- the own status

-- c joins
pub live_kept : (me : Me) (w : Spot → ℕ) (r : ℕ → Memo) (f : Frame) (tr : Trail) (at : ℕ) (after : ℕ → Memo → Type 0) → Stands me w r f tr → spot_at me.geometry (classes w) at ≡ Status me.who
    → after 0 (record (called (r me.who) (framed me (Store at 1) f 0)) { status = status.Live })
    → KeptAt me w r (Store at 1) f after (spot_at me.geometry (classes w) at)
live_kept me w r f tr at after s e x =
    let c = me.who in
    let m : Memo = called (r c) (framed me (Store at 1) f 0) in
    fixed_kept me w r (Store at 1) f after (Status c) e refl
    (subst (HeldAt me.geometry (upd w (Status c) 1)) (sym (status_set r c m status.Live m.agents))
    (status_held me.geometry w (view (at1 r c m)) c status.Live (called_held me.geometry w r c (framed me (Store at 1) f 0) s.held s.who) s.who (λ q. cc) (λ q. cc)))
    (same_graph me.geometry w (upd w (Status c) 1) r c (record m { status = status.Live }) (called_part (λ (y : Memo). cover_of y.op) (r c) (framed me (Store at 1) f 0) refl refl) (called_part (λ (y : Memo). held_over_of y.op) (r c) (framed me (Store at 1) f 0) refl refl) (λ b. refl) (λ b. refl) refl)
    refl tt x
