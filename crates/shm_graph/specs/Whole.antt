-- the laws of a machine that runs by itself, over lists; they follow from its laws in any frame
use Rattle.std.specs.Prelude.{◌≡◌, ℕ, ◌<◌, false, List, slice_index}
use Rattle.shm_words.specs.Layout.{total_of}
use Rattle.shm_graph.specs.declared.{memo.Memo.Memo, run.{Account.Account, Move.TheVariants.Word}}
use Rattle.shm_graph.specs.{Asks.{Trail, at_of, seen_of, call_before}, Changes.memo_after}
use Rattle.shm_graph.specs.{Laws.{Control, Outcome, step_of}, Runs.{Held, Turned, state, account_at}}

module _ {S A : Type 0} (k : Control S A) where
  -- the machine, the memo before its first step and the memo now: what it has asked is the call, unless it has made no step
  abbrev pub fits_now : (S → Memo → Memo → Trail → Type 0) → S → Memo → Memo → Type 0
  fits_now fits m r0 r = fits m r0 r (call_before (k.fresh m) r.call)

abbrev pub gives_now : {S A : Type 0} → (S → Memo → Memo → Trail → A → Type 0) → S → Memo → Memo → A → Type 0
gives_now gives m r0 r a = gives m r0 r r.call a

module _ {S A : Type 0} (k : Control S A) (fits : S → Memo → Memo → Type 0) (gives : S → Memo → Memo → A → Type 0) where
  -- the step of m that found n took the memo r to r'
  abbrev pub Learns : S → ℕ → Memo → Memo → Type 0
  Learns m n r r' = (r0 : Memo) → fits m r0 r → Outcome (k.turns m n) (fits (k.after m n) r0 r') (gives m r0 r')

  pub record WholeKept (m : S) (ws : List ℕ) (es : List Account) (r0 : Memo) (n : ℕ) : Type 0 where
    pub turned : Turned (k.me m).geometry (state ws es) (Word (step_of k m n))
    pub learns : let r' : Memo = memo_after (account_at es (k.me m).who).memo (step_of k m n) in Outcome (k.turns m n) (fits (k.after m n) r0 r') (gives m r0 r')

  -- the machine asks for a word of the pool
  abbrev pub WholeInside : Type 0
  WholeInside = (m : S) (r0 r : Memo) → (k.me m).who < (k.me m).geometry.clients → fits m r0 r → k.finished m ≡ false → at_of (k.asks m) < total_of (k.me m).geometry

  -- from each Held state that fits, its step is a turn, and the machine fits again
  abbrev pub WholeKeeps : Type 0
  WholeKeeps = (m : S) (ws : List ℕ) (es : List Account) (r0 : Memo) → Held (k.me m).geometry ws es → (k.me m).who < (k.me m).geometry.clients → fits m r0 (account_at es (k.me m).who).memo → k.finished m ≡ false
      → WholeKept m ws es r0 (seen_of (k.asks m) (slice_index ws (at_of (k.asks m))))
