-- from the law of a kind of step over views to the step that a machine asks for
use Rattle.std.proofs.Common.{◌≡◌, ◌≢◌, ℕ, refl, sym, ap, ◌∙◌, subst, Bool, true, false, cond, eqb, List, [], ◌∷◌, ◌++◌}
use Rattle.std.proofs.lemmas.Bool.{eq-eqb, true≢false}
use Rattle.shm_graph.specs.declared.{ask.{Ask.{Ask, TheVariants.Exchange}, Me.Me}, spot.Spot.{Spot, TheVariants.Head}}
use Rattle.shm_graph.specs.{declared.memo.{Op.Op, Memo.Memo, Seen.Seen, Step.Step}, Spots.upd, Views.{View, view, at1}}
use Rattle.shm_graph.specs.{Held.HeldAt, Asks.{Trail, seen_of, words_after, call_before}}
use Rattle.shm_graph.specs.{Changes.{called, test_before, changed_by, memo_on}, MemoAfterRead.read_on}
use Rattle.shm_graph.specs.{MemoAfterExchange.exchanged_on, Telling.spot_told}
use Rattle.shm_graph.specs.Events.{Event, Nothing, graph_of, Happens}
use Rattle.shm_graph.specs.Controllers.{IsAllowed, IsEraRaised, IsRowShown}
use Rattle.shm_graph.specs.Laws.{Frame, framed, Stands, Ends, KeptAt, event_on, event_by, event_of}
use Rattle.shm_graph.proofs.Memos.MemoParts.{parts, put_parts, put_memo, end_view}

-- a part that has asked something isn't in the first step of its machine
pub not_fresh : (me : Me) (w : Spot → ℕ) (r : ℕ → Memo) (f : Frame) (tr : Trail) → Stands me w r f tr → tr ≢ [] → f.fresh ≡ false
not_fresh me w r f tr s some = go f.fresh s.call
  where
    no_end : (before xs : List Seen) → [] ≡ before ++ xs → xs ≡ []
    no_end [] xs e = sym e
    no_end (x ∷ before) xs e = absurd (true≢false (sym (ap is_empty e)))
      where
        is_empty : List Seen → Bool
        is_empty [] = false
        is_empty (y ∷ ys) = true

    go : (b : Bool) → Ends (call_before b (r me.who).call) tr → b ≡ false
    go true x = absurd (some (no_end x.0 tr x.1))
    go false x = refl

-- what holds in each frame that isn't the first step of its machine
pub in_frame : (P : Frame → Type 0) (f : Frame) → f.fresh ≡ false → P (record f { fresh = false }) → P f
in_frame P f e x = subst (λ b. P (record f { fresh = b })) (sym e) x

-- a step whose kind gives the view v
pub kept_from : (me : Me) (w : Spot → ℕ) (r : ℕ → Memo) (a : Ask) (f : Frame) (after : ℕ → Memo → Type 0) (p : Spot) (v : View)
    → let t : Step = framed me a f (seen_of a (w p)) in
    spot_told me.geometry me.who (r me.who) a ≡ p
    → v ≡ put_parts (view r) me.who (parts (changed_by (r me.who) t p a))
    → HeldAt me.geometry (words_after w a p) v
    → Happens me.geometry w (event_on (r me.who) t p) (graph_of me.geometry w (view r)) (graph_of me.geometry (words_after w a p) v)
    → IsAllowed me.geometry w (view r) me.who a p
    → IsRowShown w me.who a p
    → IsEraRaised w a p
    → after (seen_of a (w p)) (memo_on (r me.who) t p)
    → KeptAt me w r a f after p
kept_from me w r a f after p v told e held event allowed row era x =
    let g = me.geometry in
    let c = me.who in
    let t : Step = framed me a f (seen_of a (w p)) in
    let m : Memo = changed_by (r c) t p a in
    let q : v ≡ view (at1 r c (memo_on (r c) t p)) = e ∙ sym (end_view r c (called (r c) t) m f.ends ∙ put_memo r c m) in
    record {
      told = told;
      step = record {
        held = subst (HeldAt g (words_after w a p)) q held;
        event = subst (λ (u : View). Happens g w (event_on (r c) t p) (graph_of g w (view r)) (graph_of g (words_after w a p) u)) q event;
        allowed = allowed;
        row = row;
        era = era;
      };
      fits = x;
    }

-- the event of an exchange that succeeds
abbrev pub exchange_event : ℕ → Op → Spot → Event
exchange_event c o (Head b) = event_of c o
exchange_event c o p = Nothing

exchange_is_event : (m : Memo) (t : Step) (p : Spot) (at from to : ℕ) → eqb t.seen from ≡ true → event_by m t (Exchange at from to) p ≡ exchange_event t.me.who m.op p
exchange_is_event m t (Head b) at from to e = ap (λ z. cond z (event_of t.me.who m.op) Nothing) e
exchange_is_event m t p at from to e = other p
  where
    other : (q : Spot) → event_by m t (Exchange at from to) q ≡ exchange_event t.me.who m.op q
    other (Head b) = ap (λ z. cond z (event_of t.me.who m.op) Nothing) e
    other q = refl

-- an exchange that finds the word that it names, whose kind gives the view v
pub kept_exchange : (me : Me) (w : Spot → ℕ) (r : ℕ → Memo) (at from to : ℕ) (f : Frame) (after : ℕ → Memo → Type 0) (p : Spot) (v : View)
    → let t : Step = framed me (Exchange at from to) f (w p) in
    w p ≡ from
    → spot_told me.geometry me.who (r me.who) (Exchange at from to) ≡ p
    → v ≡ put_parts (view r) me.who (parts (exchanged_on me.geometry.wide me.who (called (r me.who) t) p to))
    → HeldAt me.geometry (upd w p to) v
    → Happens me.geometry w (exchange_event me.who (r me.who).op p) (graph_of me.geometry w (view r)) (graph_of me.geometry (upd w p to) v)
    → IsAllowed me.geometry w (view r) me.who (Exchange at from to) p
    → IsRowShown w me.who (Exchange at from to) p
    → IsEraRaised w (Exchange at from to) p
    → after (w p) (memo_on (r me.who) t p)
    → KeptAt me w r (Exchange at from to) f after p
kept_exchange me w r at from to f after p v found told e held event allowed row era x =
    let g = me.geometry in
    let c = me.who in
    let t : Step = framed me (Exchange at from to) f (w p) in
    let y : eqb (w p) from ≡ true = eq-eqb (w p) from found in
    let words : Bool → Spot → ℕ = λ b. cond b (upd w p to) w in
    let memo : Bool → Memo = λ b. cond b (exchanged_on g.wide c (called (r c) t) p to) (read_on g c false (called (r c) t) (test_before (r c) t) p (w p)) in
    kept_from me w r (Exchange at from to) f after p v told
    (subst (λ b. v ≡ put_parts (view r) c (parts (memo b))) (sym y) e)
    (subst (λ b. HeldAt g (words b) v) (sym y) held)
    (subst (λ (z : Event). Happens g w z (graph_of g w (view r)) (graph_of g (words (eqb (w p) from)) v)) (sym (exchange_is_event (r c) t p at from to y))
    (subst (λ b. Happens g w (exchange_event c (r c).op p) (graph_of g w (view r)) (graph_of g (words b) v)) (sym y) event))
    allowed row era x
