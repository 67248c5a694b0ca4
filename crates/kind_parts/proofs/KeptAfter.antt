-- the law that a kind has of a step, with what holds of the memo after it
use Rattle.std.proofs.Common.{◌≡◌, ℕ, false, sym, subst}
use Rattle.shm_graph.specs.{declared.{ask.{Ask.Ask, Me.Me}, memo.Memo.Memo, spot.Spot.Spot}, Asks.{at_of, seen_of}}
use Rattle.shm_graph.specs.{Blocks.classes, Changes.memo_on, Laws.{Frame, framed, KeptAt}, Spots.spot_at}
use Rattle.shm_graph.proofs.StepKinds.KindKeeping.{in_frame}

-- of any step
pub kept_with : (me : Me) (w : Spot → ℕ) (r : ℕ → Memo) (a : Ask) (f : Frame) (after : ℕ → Memo → Type 0) (p q : Spot) → q ≡ p
    → KeptAt me w r a f (λ n m. Unit {0}) q
    → after (seen_of a (w p)) (memo_on (r me.who) (framed me a f (seen_of a (w p))) p)
    → KeptAt me w r a f after q
kept_with me w r a f after p q e k x =
    subst (KeptAt me w r a f after) (sym e)
    (let law = subst (KeptAt me w r a f (λ n m. Unit {0})) e k in record { told = law.told; step = law.step; fits = x })

-- of a step that isn't a machine's first
pub kept_going : (me : Me) (w : Spot → ℕ) (r : ℕ → Memo) (a : Ask) (f : Frame) (after : ℕ → Memo → Type 0) (p : Spot) → f.fresh ≡ false → spot_at me.geometry (classes w) (at_of a) ≡ p
    → KeptAt me w r a f (λ n m. Unit {0}) (spot_at me.geometry (classes w) (at_of a))
    → after (seen_of a (w p)) (memo_on (r me.who) (framed me a (record f { fresh = false }) (seen_of a (w p))) p)
    → KeptAt me w r a f after (spot_at me.geometry (classes w) (at_of a))
kept_going me w r a f after p going e k x =
    kept_with me w r a f after p (spot_at me.geometry (classes w) (at_of a)) e k (in_frame (λ h. after (seen_of a (w p)) (memo_on (r me.who) (framed me a h (seen_of a (w p))) p)) f going x)
