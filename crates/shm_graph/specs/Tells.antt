-- what a machine tells of the events of its steps: by its control and the word found, and no memo
use Rattle.std.specs.{Prelude.{◌≡◌, ℕ, Bool, true, false, None, List, [], ◌∷◌}, List.filter}
use Rattle.shm_graph.specs.{declared.{spot.Spot.Spot, memo.{Memo.Memo, Step.Step}}, Spots.spot_at, Blocks.classes}
use Rattle.shm_graph.specs.{Asks.{Trail, at_of, seen_of}, Events.{Event, Nothing}}
use Rattle.shm_graph.specs.Laws.{Control, Frame, framed, Stands, event_on, step_of}

-- whether the graph changes
abbrev pub is_event : Event → Bool
is_event Nothing = false
is_event e = true

module _ {S A : Type 0} (k : Control S A) where
  -- where a machine is after these pairs
  abbrev pub after_all : S → Trail → S
  after_all m [] = m
  after_all m (x ∷ tr) = after_all (k.after m x.word) tr

  -- its steps, where it runs by itself
  abbrev pub machine_steps : S → Trail → List Step
  machine_steps m [] = []
  machine_steps m (x ∷ tr) = step_of k m x.word ∷ machine_steps (k.after m x.word) tr

  -- it answers at the last pair, or later
  abbrev pub GoesOn : S → Trail → Type 0
  GoesOn m [] = Unit {0}
  GoesOn m (x ∷ []) = k.finished m ≡ false
  GoesOn m (x ∷ y ∷ tr) = (k.finished m ≡ false) × ((k.turns m x.word ≡ None) × GoesOn (k.after m x.word) (y ∷ tr))

  -- the events that it tells of these pairs, by the event of a step that finds a word
  abbrev pub tells_along : (S → ℕ → Event) → S → Trail → List Event
  tells_along does m [] = []
  tells_along does m (x ∷ tr) = does m x.word ∷ tells_along does (k.after m x.word) tr

  -- those that change the graph
  abbrev pub happens_along : (S → ℕ → Event) → S → Trail → List Event
  happens_along does m tr = filter is_event (tells_along does m tr)

  -- from each Held state that fits, in any frame, the event of the step that is asked for is the one that is told
  abbrev pub Tells : (S → Memo → Memo → Trail → Type 0) → (S → ℕ → Event) → Type 0
  Tells fits does = (m : S) (r0 : Memo) (tr : Trail) (w : Spot → ℕ) (r : ℕ → Memo) (f : Frame) → k.finished m ≡ false → Stands (k.me m) w r f tr → fits m r0 (r (k.me m).who) tr
      → let p = spot_at (k.me m).geometry (classes w) (at_of (k.asks m)) in
      let n = seen_of (k.asks m) (w p) in
      event_on (r (k.me m).who) (framed (k.me m) (k.asks m) f n) p ≡ does m n
