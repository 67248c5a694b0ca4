-- the laws of a machine that runs by itself follow from its laws in any frame
use Rattle.std.proofs.Common.{◌≡◌, ℕ, ◌<◌, ◌++◌, ◌∷◌, [], refl, sym, ap, ◌∙◌, subst, Bool, false, List, length}
use Rattle.std.specs.Prelude.{slice_index, Option}
use Rattle.shm_words.specs.{declared.geometry.Geometry.Geometry, Layout.total_of}
use Rattle.shm_graph.specs.declared.{spot.Spot.Spot, ask.{Ask.Ask, Me.Me}, memo.{Memo.Memo, Step.Step}}
use Rattle.shm_graph.specs.{declared.run.{Account.Account, Move.TheVariants.Word}, Spots.{spot_at, classes_in, see}}
use Rattle.shm_graph.specs.{Views.{at1, view}, Asks.{Trail, at_of, seen_of, pair, call_before, words_after, words_set}}
use Rattle.shm_graph.specs.{Changes.{memo_on, memo_after, asked_spot}, Events.Event}
use Rattle.shm_graph.specs.Laws.{Control, Laws, Frame, Outcome, Then, Stands, Stepped, KeptAt, frame_of, framed, step_of, event_on}
use Rattle.shm_graph.specs.Runs.{Held, Turned, state, memos_of, accounts_after}
use Rattle.shm_graph.specs.Whole.{fits_now, gives_now, WholeInside, WholeKeeps}
use Rattle.shm_graph.specs.Laws as part
use Rattle.shm_graph.proofs.Spots.Seeing.{classes-see, see-spot}
use Rattle.shm_graph.proofs.Runs.Lists.{see-words_set, length-words_set, length-accounts_after, memos_of-after}
use Rattle.shm_graph.proofs.{Memos.MemoSteps.memo_call, Machines.Composing.outcome_then}

-- a kept step at the spot of its address, over functions, is a turn over lists
pub turned_by : (ws : List ℕ) (es : List Account) (t : Step) (after : Memo → Type 0) → let g : Geometry = t.me.geometry in Held g ws es → t.me.who < g.clients → at_of t.ask < total_of g
    → part.Kept (see g ws) (memos_of es) t (spot_at g (classes_in g ws) (at_of t.ask)) after
    → Turned g (state ws es) (Word t) × after (memo_after (memos_of es t.me.who) t)
turned_by ws es t after h l within x =
    let g : Geometry = t.me.geometry in
    let w : Spot → ℕ = see g ws in
    let r : ℕ → Memo = memos_of es in
    let c : ℕ = t.me.who in
    let p : Spot = spot_at g (classes_in g ws) (at_of t.ask) in
    let e : Event = event_on (r c) t p in
    let told : memo_on (r c) t p ≡ memo_after (r c) t = sym (ap (memo_on (r c) t) x.told) in
    let long : c < length es = subst (λ (z : ℕ). c < z) (sym h.accounts) l in
    let memos : at1 r c (memo_on (r c) t p) ≡ memos_of (accounts_after es t) = ap (at1 r c) told ∙ sym (memos_of-after es t long) in
    let seen : words_after w t.ask p ≡ see g (words_set t.ask ws) = sym (see-words_set g ws (view r) c t.ask p h.at h.words within refl x.step.allowed) in
    let step : Stepped g c t.ask p e w (view r) (see g (words_set t.ask ws)) (view (memos_of (accounts_after es t))) =
    subst (λ (v : Spot → ℕ). Stepped g c t.ask p e w (view r) v (view (memos_of (accounts_after es t)))) seen
    (subst (λ (z : ℕ → Memo). Stepped g c t.ask p e w (view r) (words_after w t.ask p) (view z)) memos x.step) in (
      record {
        held = record {
          words = length-words_set t.ask ws ∙ h.words;
          accounts = length-accounts_after es t ∙ h.accounts;
          at = step.held;
        };
        event = record { of = refl; inside = within; told = x.told; one_event = step };
      },
      subst after told x.fits,
    )

module _ {S A : Type 0} (k : Control S A) (fits : S → Memo → Memo → Trail → Type 0) (gives : S → Memo → Memo → Trail → A → Type 0) (laws : Laws k fits gives) where
  pub whole_inside : WholeInside k (fits_now k fits) (gives_now gives)
  whole_inside m r0 r l fit going = laws.inside m r0 r (call_before (k.fresh m) r.call) l fit going

  -- the step over functions that the law gives
  kept_step : (m : S) (ws : List ℕ) (es : List Account) (r0 : Memo) → let me : Me = k.me m in let n : ℕ = seen_of (k.asks m) (slice_index ws (at_of (k.asks m))) in let r : Memo = memos_of es me.who in
      Held me.geometry ws es → me.who < me.geometry.clients → fits_now k fits m r0 r → k.finished m ≡ false
      → part.Kept (see me.geometry ws) (memos_of es) (step_of k m n) (spot_at me.geometry (classes_in me.geometry ws) (at_of (k.asks m))) (Then k fits gives m r0 (call_before (k.fresh m) r.call) n)
  kept_step m ws es r0 h l fit going =
      let me : Me = k.me m in
      let g : Geometry = me.geometry in
      let a : Ask = k.asks m in
      let w : Spot → ℕ = see g ws in
      let r : ℕ → Memo = memos_of es in
      let tr : Trail = call_before (k.fresh m) (r me.who).call in
      let f : Frame = frame_of k m (seen_of a (slice_index ws (at_of a))) in
      let p : Spot = spot_at g (classes_in g ws) (at_of a) in
      let e : w p ≡ slice_index ws (at_of a) = see-spot g ws (at_of a) (whole_inside m r0 (r me.who) l fit going) in
      let stands : Stands me w r f tr = record { held = h.at; who = l; call = ([], refl) } in
      let x : KeptAt me w r a f (Then k fits gives m r0 tr) p =
      subst (λ (class : ℕ → ℕ → ℕ). KeptAt me w r a f (Then k fits gives m r0 tr) (spot_at g class (at_of a))) (classes-see g ws h.at.fits) (laws.keeps m r0 tr going w r f stands fit) in
      subst (λ (z : ℕ). part.Kept w r (framed me a f (seen_of a z)) p (Then k fits gives m r0 tr (seen_of a z))) e x

  pub whole_keeps : WholeKeeps k (fits_now k fits) (gives_now gives)
  whole_keeps m ws es r0 h l fit going =
      let r : Memo = memos_of es (k.me m).who in
      let n : ℕ = seen_of (k.asks m) (slice_index ws (at_of (k.asks m))) in
      let tr : Trail = call_before (k.fresh m) r.call in
      let t : Step = step_of k m n in
      let r' : Memo = memo_after r t in
      let calls : r'.call ≡ tr ++ pair (k.asks m) n ∷ [] = memo_call r t (asked_spot r t) in
      let x = turned_by ws es t (Then k fits gives m r0 tr n) h l (whole_inside m r0 r l fit going) (kept_step m ws es r0 h l fit going) in
      record {
        turned = x.0;
        learns = outcome_then (λ (y : Option A). Outcome y (fits_now k fits (k.after m n) r0 r') (gives_now gives m r0 r')) (k.turns m n) _ _
            (λ q. subst (λ (b : Bool). fits (k.after m n) r0 r' (call_before b r'.call)) (sym (laws.steady m n going).started) (subst (fits (k.after m n) r0 r') (sym calls) q))
            (λ y q. subst (λ (z : Trail). gives m r0 r' z y) (sym calls) q)
            x.1;
      }
