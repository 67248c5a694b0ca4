-- the search for a free block: what each step leaves of the memo, and where the search ends
use Rattle.std.proofs.Common.{arith, ◌≤◌, ◌<◌, ◌-◌, ◌^◌, ◌≡◌, ℕ, ◌+◌, refl, sym, ap, ◌∙◌, subst, false, ltb, List, [], ◌++◌, append_assoc}
use Rattle.std.proofs.lemmas.List.Elements.{Contains-append_right}
use Rattle.std.specs.{Prelude.{None, Err}, List.Contains}
use Rattle.shm_graph.specs.{declared.{ask.Me.Me, memo.{Stored.Stored, Memo.Memo, Step.Step}}, Idle.hold_word}
use Rattle.shm_graph.specs.{Views.own_word, Changes.called}
use Rattle.shm_graph.specs.declared.spot.Spot.TheVariants as spot
use Rattle.shm_graph.specs.declared.memo.Op.TheVariants as op
use Rattle.shm_graph.proofs.{Machines.Calling.called_part, StepKinds.Loads.choice}
use Rattle.shm_alloc.specs.declared.{alloc.AllocFault.{AllocFault, TheVariants.Full}, request.Request.Request}
use Rattle.shm_alloc.specs.declared.point.{Goal.Goal, Search.Search, AllocPoint.TheVariants.{Segment, Page}}
use Rattle.shm_alloc.specs.declared.point.AllocNext.TheVariants.{Point, Answer}
use Rattle.shm_alloc.specs.Alloc.Control.{segment_over, page_over, segment_at}
use Rattle.shm_alloc.specs.Alloc.{GoalHas, AllocStays, Searches, CanAlloc, AnswerHolds, Cause, NextHolds}

-- ---- what a step of the search leaves of the memo

-- the parts that no step of the search changes; segments are claimed
abbrev pub searched : Memo → Memo
searched m = record m { owned = []; facts = []; zeros = []; test = None; made = []; call = []; over = false; agents = [] }

-- these parts are as they were, and own segments stay so
pub record Remains (r r' : Memo) : Type 0 where
  pub same : searched r' ≡ searched r
  pub owned : (new : List ℕ) × (r'.owned ≡ new ++ r.owned)

-- the memo at a step has what the memo had
pub called_searched : (m : Memo) (t : Step) → searched (called m t) ≡ searched m
called_searched m t = called_part searched m t refl refl

-- the own segments at a step are those that the memo had
pub called_owned : (m : Memo) (t : Step) → (called m t).owned ≡ m.owned
called_owned m t = called_part (λ (x : Memo). x.owned) m t refl refl

-- a step that changes none of these parts
pub remains : (m : Memo) (t : Step) (r' : Memo) → searched r' ≡ searched (called m t) → r'.owned ≡ (called m t).owned → Remains m r'
remains m t r' e o = record { same = e ∙ called_searched m t; owned = ([], o ∙ called_owned m t) }

-- ---- an identity that searches

-- no step is in progress, no word was stored, and no block is prepared
pub record Looks (r0 r : Memo) : Type 0 where
  pub stays : AllocStays r0 r
  pub op : r.op ≡ op.Nothing
  pub own : r.own ≡ r0.own
  pub has : Searches r0 r

-- the own words are as they were
pub own_same : (r r' : Memo) → Remains r r' → r'.own ≡ r.own
own_same r r' k = ap (λ (x : Memo). x.own) k.same

-- it still searches
pub looks_on : (r0 r r' : Memo) → Looks r0 r → Remains r r' → Looks r0 r'
looks_on r0 r r' h k =
    record {
      stays = record {
        status = ap (λ (x : Memo). x.status) k.same ∙ h.stays.status;
        latch = ap (λ (x : Memo). x.latch) k.same ∙ h.stays.latch;
        looks = ap (λ (x : Memo). x.looks) k.same ∙ h.stays.looks;
        dying = ap (λ (x : Memo). x.dying) k.same ∙ h.stays.dying;
        sent = ap (λ (x : Memo). x.sent) k.same ∙ h.stays.sent;
        received = ap (λ (x : Memo). x.received) k.same ∙ h.stays.received;
        unsent = ap (λ (x : Memo). x.unsent) k.same ∙ h.stays.unsent;
        untaken = ap (λ (x : Memo). x.untaken) k.same ∙ h.stays.untaken;
        part = ap (λ (x : Memo). x.part) k.same ∙ h.stays.part;
        owned = (let a = k.owned in let b = h.stays.owned in (a.0 ++ b.0, a.1 ∙ (ap (λ os. a.0 ++ os) b.1 ∙ sym (append_assoc a.0 b.0 r0.owned))));
      };
      op = ap (λ (x : Memo). x.op) k.same ∙ h.op;
      own = own_same r r' k ∙ h.own;
      has = record {
        making = ap (λ (x : Memo). x.making) k.same ∙ h.has.making;
        known = ap (λ (x : Memo). x.known) k.same ∙ h.has.known;
        values = ap (λ (x : Memo). x.values) k.same ∙ h.has.values;
      };
    }

-- an own segment stays one
pub owned_on : (r r' : Memo) (s : ℕ) → Contains r.owned s → Remains r r' → Contains r'.owned s
owned_on r r' s h k = subst (λ (os : List ℕ). Contains os s) (sym k.owned.1) (Contains-append_right k.owned.0 r.owned s h)

-- ---- where the search ends

-- nothing was made
pub refused : (me : Me) (q : Request) (r0 r : Memo) (f : AllocFault) → CanAlloc me r0 → Looks r0 r → Cause me.who r0 f → AnswerHolds me q r0 r (Err f)
refused me q r0 r f can h why =
    record {
      idle = record {
        live = h.stays.status ∙ can.idle.live;
        op = h.op;
        making = h.has.making;
        hold = ap (λ (o : List Stored). own_word o (spot.Hold me.who)) h.own ∙ (can.idle.hold ∙ sym (ap hold_word h.stays.latch));
      };
      stays = h.stays;
      gives = (record { own = h.own; known = h.has.known; values = h.has.values }, why);
    }

-- where the search ends the era had room and a root was empty
full_cause : (me : Me) (r0 r : Memo) (g : Goal) → Looks r0 r → GoalHas me.who r g → (own_word r0.own (spot.Era me.who me.who) ≤ 2 ^ 47 - 3) × ((k : ℕ) × (k < 16) × (own_word r0.own (spot.Root me.who k) ≡ 0))
full_cause me r0 r g h goal =
    let u = goal.room in
    let v : g.era ≡ own_word r0.own (spot.Era me.who me.who) = goal.era ∙ ap (λ o. own_word o (spot.Era me.who me.who)) h.own in
    (omega arith, (g.root, goal.number, ap (λ o. own_word o (spot.Root me.who g.root)) (sym h.own) ∙ goal.empty))

-- the segment is over
pub segment_done : (me : Me) (q : Request) (r0 r : Memo) (g : Goal) (s : Search) → CanAlloc me r0 → Looks r0 r → GoalHas me.who r g → NextHolds me q r0 r (segment_over me g s)
segment_done me q r0 r g s can h goal =
    choice (NextHolds me q r0 r) (ltb (s.segment + 1) me.geometry.segments) (Point (Segment g (record s { segment = s.segment + 1 }))) (Answer (Err (Full s.taken s.used)))
    (λ e. record { stays = h.stays; op = h.op; own = h.own; has = (h.has, goal) })
    (λ e. refused me q r0 r (Full s.taken s.used) can h (full_cause me r0 r g h goal))

-- the page is over
pub page_done : (me : Me) (q : Request) (r0 r : Memo) (g : Goal) (s : Search) (p : ℕ) → CanAlloc me r0 → Looks r0 r → GoalHas me.who r g → Contains r.owned (segment_at me q s.segment) → NextHolds me q r0 r (page_over me g s p)
page_done me q r0 r g s p can h goal mine =
    choice (NextHolds me q r0 r) (ltb p 15) (Point (Page g s (p + 1))) (segment_over me g s)
    (λ e. record { stays = h.stays; op = h.op; own = h.own; has = (h.has, goal, mine) })
    (λ e. segment_done me q r0 r g s can h goal)
