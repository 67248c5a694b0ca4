-- what the steps of the search and those of the making share: what a step owes, and what stays
use Rattle.std.proofs.Common.{◌≡◌, ℕ, refl, sym, ap, ◌∙◌, Bool, true, false, List, ◌∷◌}
use Rattle.std.proofs.lemmas.Bool.{cond-true, cond-false}
use Rattle.std.specs.Prelude.{if◌then◌else◌}
use Rattle.shm_words.specs.Redos.{second_word}
use Rattle.shm_graph.specs.{declared.{memo.{Stored.Stored, Memo.Memo}, ask.Me.Me, spot.Spot.Spot}, Asks.{Trail, at_of}}
use Rattle.shm_graph.specs.{Spots.{spot_at, same_spot}, Blocks.classes, Views.own_word, Laws.{Frame, Stands, KeptAt}}
use Rattle.shm_graph.specs.declared.spot.Spot.TheVariants as spot
use Rattle.shm_graph.specs.declared.memo.Status.TheVariants as status
use Rattle.shm_graph.proofs.Spots.Spotting.{same_spot_self}
use Rattle.kind_parts.specs.Conditions.{IsHere}
use Rattle.shm_alloc.specs.declared.{request.Request.Request, point.{Goal.Goal, AllocPoint.AllocPoint}}
use Rattle.shm_alloc.specs.Alloc.Control.{alloc_ask_at, alloc_next_at, redo_asked, RequestFits, PointFits}
use Rattle.shm_alloc.specs.Alloc.{GoalHas, AllocStays, CanAlloc, PointHolds, NextHolds, more_stored, readied}

-- ---- what a step owes

-- the step at a point keeps the invariant, and then what comes next holds of the memo
abbrev pub KeepsAt : Me → Request → Memo → (Spot → ℕ) → (ℕ → Memo) → Frame → AllocPoint → Type 0
KeepsAt me q r0 w r f p = KeptAt me w r (alloc_ask_at me q p) f (λ n r'. NextHolds me q r0 r' (alloc_next_at me q p n)) (spot_at me.geometry (classes w) (at_of (alloc_ask_at me q p)))

-- so it is for each step that isn't a machine's first, where what the point needs holds
abbrev pub PointKeeps : Me → Request → Memo → (Spot → ℕ) → (ℕ → Memo) → Frame → Trail → AllocPoint → Type 0
PointKeeps me q r0 w r f tr p =
    Stands me w r f tr → f.fresh ≡ false → CanAlloc me r0 → RequestFits q → PointFits me q p → PointHolds me q r0 (r me.who) p → KeepsAt me q r0 w r f p

-- ---- what stays

-- an identity that can allocate is live, where its status stayed
pub live_here : (me : Me) (r0 r : Memo) → CanAlloc me r0 → AllocStays r0 r → r.status ≡ status.Live
live_here me r0 r can s = s.status ∙ can.idle.live

-- and so it is here
pub is_here : (me : Me) (r0 r : Memo) → CanAlloc me r0 → AllocStays r0 r → IsHere r
is_here me r0 r can s = let e = live_here me r0 r can s in record { joined = λ z. let u = sym e ∙ z in cc; stays = λ z. let u = sym e ∙ z in cc }

-- what the memo shows of the goal it shows where the own words are as they were
pub goal_on : (c : ℕ) (r r' : Memo) (g : Goal) → r'.own ≡ r.own → GoalHas c r g → GoalHas c r' g
goal_on c r r' g e h =
    record {
      room = h.room;
      number = h.number;
      era = h.era ∙ ap (λ o. own_word o (spot.Era c c)) (sym e);
      empty = ap (λ o. own_word o (spot.Root c g.root)) e ∙ h.empty;
      before = λ j l z. h.before j l (ap (λ o. own_word o (spot.Root c j)) (sym e) ∙ z);
    }

-- ---- the second word of the redo record

-- in format 2 it is stored before the first, and in format 1 there is none
pub ready_is : (me : Me) (g : Goal) (b : ℕ) (own : List Stored) → me.geometry.wide ≡ true → readied me g b own ≡ more_stored me g b ∷ own
ready_is me g b own e = ap (λ (x : Bool). if x then more_stored me g b ∷ own else own) e

pub ready_not : (me : Me) (g : Goal) (b : ℕ) (own : List Stored) → me.geometry.wide ≡ false → readied me g b own ≡ own
ready_not me g b own e = ap (λ (x : Bool). if x then more_stored me g b ∷ own else own) e

-- so that it is there
pub ready_more : (me : Me) (g : Goal) (b : ℕ) (own : List Stored) → me.geometry.wide ≡ true → own_word (readied me g b own) (spot.RedoMore me.who) ≡ second_word me.geometry.wide (redo_asked me g.root b)
ready_more me g b own e = ap (λ (o : List Stored). own_word o (spot.RedoMore me.who)) (ready_is me g b own e) ∙ cond-true _ _ _ (same_spot_self (spot.RedoMore me.who))

-- each other own word is what it was
pub ready_word : (me : Me) (g : Goal) (b : ℕ) (own : List Stored) (p : Spot) → same_spot (spot.RedoMore me.who) p ≡ false → own_word (readied me g b own) p ≡ own_word own p
ready_word me g b own p n = go me.geometry.wide
  where
    go : (x : Bool) → own_word (if x then more_stored me g b ∷ own else own) p ≡ own_word own p
    go true = cond-false _ _ _ n
    go false = refl
