-- Machines of which no exchange fails where nobody else makes a word step.
use Rattle.std.proofs.Common.{◌≡◌, ℕ, Bool, true, false, refl, sym, ◌∙◌, subst, append_assoc, ◌++◌}
use Rattle.std.specs.Prelude.{Option, Some, None}
use Rattle.shm_graph.specs.declared.{ask.{Ask.{Ask, TheVariants.{Exchange, Load, Store}}, Me.Me}, memo.Memo.Memo}
use Rattle.shm_graph.specs.{declared.spot.Spot.Spot, Asks.{Trail, at_of, call_before, failed_by, seen_of, words_after}}
use Rattle.shm_graph.specs.{Blocks.classes, Laws.{Control, Ends, Frame, Outcome, Stands}, Mapped.{OnTheWay, mapped}}
use Rattle.shm_graph.specs.Spots.{spot_at}
use Rattle.plans.specs.declared.{calls.Calls.Calls, or.Or.{Or, TheVariants.{First, Second}}, word.Word.Word}
use Rattle.plans.specs.{CallsControl.{answered, called_on, calls_control, planned}, CallsFit.CallsFits}
use Rattle.plans.specs.{Either.{OrFits, or_control}, Proved.Either.told_outcome, Plans.Planned}
use Rattle.plans.specs.Words.{WordFits, word_control}

-- of a machine: what it knows of the words where nobody else steps
module _ {S A : Type 0} (k : Control S A) (knows : S → (Spot → ℕ) → Type 0) where
  -- the step that found n is no exchange that failed, and what the machine knows of the words holds afterwards
  pub record IsSure (m : S) (n : ℕ) (after : Spot → ℕ) : Type 0 where
    pub whole : failed_by (k.asks m) n ≡ 0
    pub alone : Outcome (k.turns m n) (knows (k.after m n) after) (λ a. Unit {0})

  -- from each held state that fits, in any frame, where what it knows of the words holds, the step that is asked for is so
  abbrev pub AreSure : (S → Memo → Memo → Trail → Type 0) → Type 0
  AreSure fits = (m : S) (r0 : Memo) (tr : Trail) (w : Spot → ℕ) (r : ℕ → Memo) (f : Frame) → k.finished m ≡ false → Stands (k.me m) w r f tr → fits m r0 (r (k.me m).who) tr → knows m w
      → let p = spot_at (k.me m).geometry (classes w) (at_of (k.asks m)) in IsSure m (seen_of (k.asks m) (w p)) (words_after w (k.asks m) p)

-- ---- one word step

abbrev pub is_swap : Ask → Bool
is_swap (Exchange at from to) = true
is_swap a = false

no_swap : (a : Ask) (n : ℕ) → is_swap a ≡ false → failed_by a n ≡ 0
no_swap (Load at) n e = refl
no_swap (Store at x) n e = refl
no_swap (Exchange at from to) n e = absurd cc

abbrev pub word_knows : Word → (Spot → ℕ) → Type 0
word_knows m w = is_swap m.ask ≡ false

pub word_sure : (first : Bool) → AreSure word_control word_knows (WordFits first)
word_sure first m r0 tr w r f going s fit knows = record { whole = no_swap m.ask _ knows; alone = tt }

-- ---- one of two machines

abbrev pub or_knows : {S T : Type 0} → (S → (Spot → ℕ) → Type 0) → (T → (Spot → ℕ) → Type 0) → Or S T → (Spot → ℕ) → Type 0
or_knows f g (First m) = f m
or_knows f g (Second m) = g m

pub or_sure : {S T A B : Type 0} (j : Control S A) (k : Control T B) (fits : OnTheWay S) (fits' : OnTheWay T) (knows : S → (Spot → ℕ) → Type 0) (knows' : T → (Spot → ℕ) → Type 0)
    → AreSure j knows fits → AreSure k knows' fits' → AreSure (or_control j k) (or_knows knows knows') (OrFits fits fits')
or_sure {S} {T} {A} {B} j k fits fits' knows knows' h i = go
  where
    go : AreSure (or_control j k) (or_knows knows knows') (OrFits fits fits')
    go (First m) r0 tr w r f going s fit is =
        let a : Ask = j.asks m in
        let p : Spot = spot_at (j.me m).geometry (classes w) (at_of a) in
        let n : ℕ = seen_of a (w p) in
        let x = h m r0 tr w r f going s fit is in
        record { whole = x.whole; alone = told_outcome {B = Or A B} First (j.turns m n) (knows (j.after m n) (words_after w a p)) (λ b. Unit {0}) (λ b. Unit {0}) (λ b y. y) x.alone }
    go (Second m) r0 tr w r f going s fit is =
        let a : Ask = k.asks m in
        let p : Spot = spot_at (k.me m).geometry (classes w) (at_of a) in
        let n : ℕ = seen_of a (w p) in
        let x = i m r0 tr w r f going s fit is in
        record { whole = x.whole; alone = told_outcome {B = Or A B} Second (k.turns m n) (knows' (k.after m n) (words_after w a p)) (λ b. Unit {0}) (λ b. Unit {0}) (λ b y. y) x.alone }

-- ---- a machine as another one has it

-- its answers are told otherwise
pub mapped_sure : {S A B : Type 0} (g : A → B) (k : Control S A) (fits : OnTheWay S) (knows : S → (Spot → ℕ) → Type 0) → AreSure k knows fits → AreSure (mapped g k) knows fits
mapped_sure g k fits knows h m r0 tr w r f going s fit is =
    let a : Ask = k.asks m in
    let p : Spot = spot_at (k.me m).geometry (classes w) (at_of a) in
    let n : ℕ = seen_of a (w p) in
    let x = h m r0 tr w r f going s fit is in
    record { whole = x.whole; alone = told_outcome g (k.turns m n) (knows (k.after m n) (words_after w a p)) (λ b. Unit {0}) (λ b. Unit {0}) (λ b y. y) x.alone }

-- it fits less often
pub fewer_sure : {S A : Type 0} (k : Control S A) (fits fits' : OnTheWay S) (knows : S → (Spot → ℕ) → Type 0) → ((m : S) (r0 r : Memo) (tr : Trail) → fits' m r0 r tr → fits m r0 r tr) → AreSure k knows fits → AreSure k knows fits'
fewer_sure k fits fits' knows less h m r0 tr w r f going s fit is = h m r0 tr w r f going s (less m r0 (r (k.me m).who) tr fit) is

-- ---- calls of a plan

-- the end of an end is an end
ends_more : (call u t : Trail) → Ends call (u ++ t) → Ends call t
ends_more call u t (before, e) = (before ++ u, e ∙ sym (append_assoc before u t))

module _ {P C B A : Type 0} (k : Control C B) (q : Planned P C B A) (knows : C → (Spot → ℕ) → Type 0) where
  -- what a machine of calls knows of the words: what its call does
  abbrev pub calls_know : Calls P C → (Spot → ℕ) → Type 0
  calls_know m w = knows m.call w

  -- its parts are sure, and a call begins with what it knows of the words, whatever these are
  pub record CallsSure : Type 0 where
    pub parts : (p : P) → AreSure k knows (q.part p).fits
    pub begins : (p : P) (w : Spot → ℕ) → knows (q.steered.call p) w

  module _ (d : CallsSure) where
    known : (p : P) (c : C) (o : Option B) (w : Spot → ℕ) → Outcome o (knows c w) (λ b. Unit {0}) → Outcome (answered k q.steered p o) (calls_know (called_on k q.steered p c o) w) (λ x. Unit {0})
    known p c None w h = h
    known p c (Some b) w h = go (q.steered.turns p b)
      where
        go : (u : Option A) → Outcome u (calls_know (planned k q.steered c (q.steered.after p b) u) w) (λ x. Unit {0})
        go None = d.begins (q.steered.after p b) w
        go (Some x) = tt

    -- so is the machine of calls
    pub calls_sure : AreSure (calls_control k q.steered) calls_know (CallsFits k q)
    calls_sure m r0 tr w r f going s fit is =
        let a : Ask = k.asks m.call in
        let at : Spot = spot_at (q.steered.me m.plan).geometry (classes w) (at_of a) in
        let n : ℕ = seen_of a (w at) in
        let stands : Stands (k.me m.call) w r f fit.t =
        subst (λ (me : Me). Stands me w r f fit.t) (sym fit.me)
        (record { held = s.held; who = s.who; call = ends_more (call_before f.fresh (r (q.steered.me m.plan).who).call) fit.before fit.t (subst (Ends (call_before f.fresh (r (q.steered.me m.plan).who).call)) fit.split s.call) }) in
        let fits : (q.part m.plan).fits m.call fit.rs (r (k.me m.call).who) fit.t = subst (λ (me : Me). (q.part m.plan).fits m.call fit.rs (r me.who) fit.t) (sym fit.me) fit.fits in
        let one : IsSure k knows m.call n (words_after w a at) =
        subst (λ (me : Me). let p = spot_at me.geometry (classes w) (at_of a) in IsSure k knows m.call (seen_of a (w p)) (words_after w a p)) fit.me
        (d.parts m.plan m.call fit.rs fit.t w r f going stands fits is) in
        record { whole = one.whole; alone = known m.plan (k.after m.call n) (k.turns m.call n) (words_after w a at) one.alone }
