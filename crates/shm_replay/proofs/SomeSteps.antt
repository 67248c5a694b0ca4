-- a call that answered made a word step
use Rattle.std.proofs.Common.{◌≡◌, ◌≢◌, ℕ, Bool, true, [], ◌++◌, length, refl, ap, ◌∙◌, arith}
use Rattle.shm_graph.specs.{Asks.call_before, Laws.Control}
use Rattle.shm_plain.specs.{Calls.{Ran, TookSteps}, Pools.{Pool, memo_of, readied}}

pub some_steps : {M A : Type 0} (k : Control M A) (c : ℕ) (p : Pool) (m : M) (q : Pool) (x y : ℕ) → k.fresh m ≡ true → Ran c true true p q x y → (t : TookSteps k c p m q) → t.trail ≢ []
some_steps k c p m q x y fresh ran t none =
    let call : (memo_of q c).call ≡ t.trail = t.call ∙ ap (λ (b : Bool). call_before b (memo_of (readied p c) c).call ++ t.trail) fresh in
    let many : length (memo_of q c).call ≡ 0 = ap length (call ∙ none) in
    let spent = ran.spent (ran.some refl) refl in
    let less = ran.less refl in
    absurd (omega arith)
