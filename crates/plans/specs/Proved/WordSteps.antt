-- word steps as parts: from the law of their kind, and what it makes of the memo
use Rattle.std.proofs.{Common.{◌≡◌, ◌≢◌, ℕ, ◌<◌, Bool, false, refl, sym, subst, []}, lemmas.Bool.true≢false}
use Rattle.shm_words.specs.Layout.{total_of}
use Rattle.shm_graph.specs.declared.{ask.{Ask.{Ask, TheVariants.{Load, Store, Exchange}}, Me.Me}, spot.Spot.Spot}
use Rattle.shm_graph.specs.declared.{spot.Spot.TheVariants.{Spare, Head}, memo.{Memo.Memo, Step.Step}}
use Rattle.shm_graph.specs.{Spots.{spot_at, is_in_body}, Blocks.classes, Asks.{at_of, seen_of}, Changes.memo_on}
use Rattle.shm_graph.specs.{Events.Nothing, Laws.{Frame, framed, Stands, KeptAt, MayEnd, event_by, event_on}}
use Rattle.shm_graph.proofs.{StepKinds.LoadKeeping.load_kept, Spots.Spotting.in_pool}
use Rattle.plans.specs.{Placed.MayStand, Words.{IsKept, IsQuiet, IsWord}}

-- no step outside the bodies is an event
no_event : (m : Memo) (t : Step) (a : Ask) (p : Spot) → is_in_body p ≡ false → event_by m t a p ≡ Nothing
no_event m t (Load at) p n = refl
no_event m t (Store at v) (Head b) n = absurd (true≢false n)
no_event m t (Store at v) _ n = refl
no_event m t (Exchange at x y) (Head b) n = absurd (true≢false n)
no_event m t (Exchange at x y) _ n = refl

module _ (first : Bool) (me : Me) (a : Ask) (after : Memo → ℕ → Memo → Type 0) (m : Memo) (p : Spot) where
  -- in each held state with this memo the word lies there
  abbrev pub IsThere : Type 0
  IsThere = (w : Spot → ℕ) (r : ℕ → Memo) (f : Frame) → Stands me w r f [] → r me.who ≡ m → spot_at me.geometry (classes w) (at_of a) ≡ p

  -- the law of the kind
  abbrev pub KindKept : Type 0
  KindKept = (w : Spot → ℕ) (r : ℕ → Memo) (f : Frame) → Stands me w r f [] → MayStand first f → r me.who ≡ m → KeptAt me w r a f (λ n x. Unit {0}) (spot_at me.geometry (classes w) (at_of a))

  -- what the step makes of the memo
  abbrev pub MakesMemo : Type 0
  MakesMemo = (w : Spot → ℕ) (r : ℕ → Memo) (f : Frame) → Stands me w r f [] → MayStand first f → r me.who ≡ m → after m (seen_of a (w p)) (memo_on (r me.who) (framed me a f (seen_of a (w p))) p)

  -- it is no event, whatever is found
  abbrev pub NoEvent : Type 0
  NoEvent = (x : Memo) (t : Step) → event_by x t a p ≡ Nothing

  pub kept_there : IsThere → KindKept → MakesMemo → IsKept first me a m (after m)
  kept_there there kind makes w r f st may same =
      let e = there w r f st same in
      let k = subst (KeptAt me w r a f (λ n x. Unit {0})) e (kind w r f st may same) in
      subst (KeptAt me w r a f (after m)) (sym e) (record { told = k.told; step = k.step; fits = makes w r f st may same })

  quiet_there : IsThere → NoEvent → IsQuiet me a m
  quiet_there there none w r f st same =
      subst (λ (q : Spot). event_on (r me.who) (framed me a f (seen_of a (w q))) q ≡ Nothing) (sym (there w r f st same)) (none (r me.who) (framed me a f (seen_of a (w p))))

  -- a word step is a part
  pub word_in : at_of a < total_of me.geometry → IsThere → NoEvent → KindKept → MakesMemo → IsWord first me a after (record { me = me; ask = a; over = false }) m
  word_in inside there none kind makes = record { made = refl; inside = inside; kept = kept_there there kind makes; quiet = quiet_there there none }

  -- and so is one outside the pages' bodies
  pub word_at : ((class : ℕ → ℕ → ℕ) → spot_at me.geometry class (at_of a) ≡ p) → p ≢ Spare → is_in_body p ≡ false → KindKept → MakesMemo → IsWord first me a after (record { me = me; ask = a; over = false }) m
  word_at there some body =
      word_in (in_pool me.geometry (λ s q. 0) (at_of a) p (there (λ s q. 0)) some).1 (λ w r f st same. there (classes w)) (λ x t. no_event x t a p body)

-- a load there is one
pub load_at : (first : Bool) (me : Me) (at : ℕ) (after : Memo → ℕ → Memo → Type 0) (m : Memo) (p : Spot) (there : (class : ℕ → ℕ → ℕ) → spot_at me.geometry class at ≡ p) (some : p ≢ Spare) (body : is_in_body p ≡ false) → MayEnd me.who m p
    → MakesMemo first me (Load at) after m p → IsWord first me (Load at) after (record { me = me; ask = Load at; over = false }) m
load_at first me at after m p there some body may makes =
    word_at first me (Load at) after m p there some body
    (λ w r f st stands same. load_kept me w r f [] at (λ n x. Unit {0}) p st (there (classes w)) body (subst (λ (x : Memo). MayEnd me.who x p) (sym same) may) tt)
    makes
