-- what a command that is refused leaves as it was, whichever it is
use Rattle.std.proofs.Common.{◌≡◌, ◌≢◌, ℕ, ap, ◌∙◌, true, false, inl, inr, ◌⊎◌, List, [], Option, Some, None}
use Rattle.std.proofs.lemmas.Bool.{false≢true, true≢false}
use Rattle.shm_graph.specs.{declared.{ask.Me.Me, memo.Memo.Memo, spot.Spot.{Spot, TheVariants.Home}}, Asks.Trail}
use Rattle.shm_graph.specs.{Core.core, Events.Event, Views.own_word}
use Rattle.shm_script.specs.declared.{line.Line.Line, log.Answer.Answer}
use Rattle.shm_script.specs.declared.line.Line.TheVariants as line
use Rattle.shm_script.specs.declared.log.Answer.TheVariants as answer
use Rattle.kind_parts.specs.Reparting.{map_in}
use Rattle.shm_count.specs.{Roots.root_word, Lasting.is_lasting}
use Rattle.shm_table.specs.{declared.answer.PutFault.PutFault, Answers.fault_answer, Get.Visited, OpenTable.HomeSo}
use Rattle.shm_table.specs.{PutRoot.IsEraSpent, Proved.PutRoot.Undoing.still_same}
use Rattle.shm_table.specs.Refusals.{CommandLeaves, is_refusal, is_spent, taken_by}
use Rattle.shm_table.specs.{Staying.{Cleared, Keeps, SameMap, Still, is_set}, Undoing.{CommandUndone, IsTakenBack}}
use Rattle.shm_table.specs.declared.answer.PutFault.TheVariants as fault

-- a value at a key is not none
pub some_not : (o : Option (ℕ × ℕ)) (x : ℕ × ℕ) → o ≡ Some x → o ≢ None
some_not None x s n = cc
some_not (Some y) x s n = cc

module _ (me : Me) (r0 r : Memo) (tr : Trail) (es : List Event) where
  -- what stays where such an answer comes
  pub record Kept (l : Line) (a : Answer) : Type 0 where
    pub map : SameMap r0 r
    pub latch : r0.latch ≡ None → r.latch ≡ None
    pub sent : r.sent ≡ r0.sent
    pub received : r.received ≡ r0.received
    pub unsent : r.unsent ≡ r0.unsent
    pub untaken : r.untaken ≡ r0.untaken
    pub own : (p : Spot) → is_lasting me.who p ≡ true → is_set p ≡ false → own_word r.own p ≡ own_word r0.own p
    pub roots : (j : ℕ) → (root_word me.who r j ≡ root_word me.who r0 j) ⊎ (root_word me.who r0 j ≡ 0)
    pub cleared : is_spent a ≡ false → Cleared me.who r0 r
    pub home : HomeSo me.who (own_word r0.own (Home me.who)) (own_word r.own (Home me.who)) es
    pub still : Still r0 r
    pub events : is_spent a ≡ false → IsTakenBack me.who (taken_by me.who l) (own_word r0.own (Home me.who)) (own_word r.own (Home me.who)) es

  -- where nothing but reading was done
  by_core : (l : Line) (a : Answer) → core r ≡ core r0 → es ≡ [] → Kept l a
  by_core l a e none =
      let home = ap (λ (x : Memo). own_word x.own (Home me.who)) e in
      record {
        map = λ k. ap (λ (x : Memo). map_in x.part k) e;
        latch = λ n. ap (λ (x : Memo). x.latch) e ∙ n;
        sent = ap (λ (x : Memo). x.sent) e;
        received = ap (λ (x : Memo). x.received) e;
        unsent = ap (λ (x : Memo). x.unsent) e;
        untaken = ap (λ (x : Memo). x.untaken) e;
        own = λ p l s. ap (λ (x : Memo). own_word x.own p) e;
        roots = λ j. inl (ap (λ (x : Memo). root_word me.who x j) e);
        cleared = λ s. record { roots = λ j. ap (λ (x : Memo). root_word me.who x j) e; dying = ap (λ (x : Memo). x.dying) e };
        home = inl home;
        still = still_same r0 r (ap (λ (x : Memo). x.dying) e);
        events = λ s. inl (none, home);
      }

  -- where nothing was done that stays
  by_keeps : (l : Line) (a : Answer) → Keeps me.who r0 r → r.latch ≡ None → SameMap r0 r → Cleared me.who r0 r → own_word r.own (Home me.who) ≡ own_word r0.own (Home me.who) → es ≡ [] → Kept l a
  by_keeps l a keeps free map cleared home none =
      record {
        map = map;
        latch = λ e. free;
        sent = keeps.sent;
        received = keeps.received;
        unsent = keeps.unsent;
        untaken = keeps.untaken;
        own = keeps.own;
        roots = keeps.roots;
        cleared = λ s. cleared;
        home = inl home;
        still = still_same r0 r cleared.dying;
        events = λ s. inl (none, home);
      }

  -- where a latch was taken and given back
  by_visit : (l : Line) (a : Answer) → Visited me r0 r → es ≡ [] → Kept l a
  by_visit l a v none = by_keeps l a v.keeps (ap (λ (x : Memo). x.latch) v.memo) v.map v.cleared (v.own (Home me.who)) none

  -- where a value block didn't come into the table
  by_fault : (l : Line) (f : PutFault) → Keeps me.who r0 r → r.latch ≡ None → SameMap r0 r → Cleared me.who r0 r ⊎ IsEraSpent f → CommandUndone me (taken_by me.who l) r0 r es f → Kept l (fault_answer f)
  by_fault l f keeps free map cleared undone =
      record {
        map = map;
        latch = λ e. free;
        sent = keeps.sent;
        received = keeps.received;
        unsent = keeps.unsent;
        untaken = keeps.untaken;
        own = keeps.own;
        roots = keeps.roots;
        cleared = unless (Cleared me.who r0 r) f cleared;
        home = undone.home;
        still = undone.still;
        events = unless (IsTakenBack me.who (taken_by me.who l) (own_word r0.own (Home me.who)) (own_word r.own (Home me.who)) es) f undone.events;
      }
    where
      -- unless the own era was spent
      unless : (P : Type 0) (f : PutFault) → P ⊎ IsEraSpent f → is_spent (fault_answer f) ≡ false → P
      unless P (fault.EraSpent e) h s = absurd (true≢false s)
      unless P fault.RootsFull h s = elim h [ inl y ↦ y | inr z ↦ absurd z ]
      unless P (fault.Full g b) h s = elim h [ inl y ↦ y | inr z ↦ absurd z ]
      unless P (fault.CountFull b n) h s = elim h [ inl y ↦ y | inr z ↦ absurd z ]

  pub kept : (l : Line) (a : Answer) → is_refusal a ≡ true → CommandLeaves me l r0 r tr es a → Kept l a
  kept (line.Put key n) (answer.EraSpent e) is h = by_fault (line.Put key n) (fault.EraSpent e) h.keeps h.latch h.map h.cleared h.undone
  kept (line.Put key n) answer.RootsFull is h = by_fault (line.Put key n) fault.RootsFull h.keeps h.latch h.map h.cleared h.undone
  kept (line.Put key n) (answer.Full g b) is h = by_fault (line.Put key n) (fault.Full g b) h.keeps h.latch h.map h.cleared h.undone
  kept (line.Put key n) (answer.CountFull b x) is h = by_fault (line.Put key n) (fault.CountFull b x) h.keeps h.latch h.map h.cleared h.undone
  kept (line.Put key n) answer.Missing is h = absurd h
  kept (line.Put key n) (answer.QueueFull x y) is h = absurd h
  kept (line.Put key n) (answer.Empty x) is h = absurd h
  kept (line.Copy key a other) (answer.EraSpent e) is h = by_fault (line.Copy key a other) (fault.EraSpent e) h.keeps h.latch h.map h.cleared h.undone
  kept (line.Copy key a other) answer.RootsFull is h = by_fault (line.Copy key a other) fault.RootsFull h.keeps h.latch h.map h.cleared h.undone
  kept (line.Copy key a other) (answer.Full g b) is h = by_fault (line.Copy key a other) (fault.Full g b) h.keeps h.latch h.map h.cleared h.undone
  kept (line.Copy key a other) (answer.CountFull b x) is h = by_fault (line.Copy key a other) (fault.CountFull b x) h.keeps h.latch h.map h.cleared h.undone
  kept (line.Copy key a other) answer.Missing is h = by_visit (line.Copy key a other) answer.Missing h.visited h.none
  kept (line.Copy key a other) (answer.QueueFull x y) is h = absurd h
  kept (line.Copy key a other) (answer.Empty x) is h = absurd h
  kept (line.Recv from key) (answer.EraSpent e) is h = by_fault (line.Recv from key) (fault.EraSpent e) h.keeps h.latch h.map h.cleared h.undone
  kept (line.Recv from key) answer.RootsFull is h = by_fault (line.Recv from key) fault.RootsFull h.keeps h.latch h.map h.cleared h.undone
  kept (line.Recv from key) (answer.Full g b) is h = by_fault (line.Recv from key) (fault.Full g b) h.keeps h.latch h.map h.cleared h.undone
  kept (line.Recv from key) (answer.CountFull b x) is h = by_fault (line.Recv from key) (fault.CountFull b x) h.keeps h.latch h.map h.cleared h.undone
  kept (line.Recv from key) (answer.Empty x) is h = by_core (line.Recv from key) (answer.Empty x) h.same h.none
  kept (line.Recv from key) answer.Missing is h = absurd h
  kept (line.Recv from key) (answer.QueueFull x y) is h = absurd h
  kept (line.Del key) answer.Missing is h = by_keeps (line.Del key) answer.Missing h.1.keeps h.0 h.1.map h.1.cleared h.1.home h.1.none
  kept (line.Del key) (answer.EraSpent e) is h = by_keeps (line.Del key) (answer.EraSpent e) h.1.keeps h.0 h.1.map h.1.cleared h.1.home h.1.none
  kept (line.Del key) (answer.CountFull b x) is h = by_keeps (line.Del key) (answer.CountFull b x) h.1.keeps h.0 h.1.map h.1.cleared h.1.home h.1.none
  kept (line.Del key) answer.RootsFull is h = absurd h.1
  kept (line.Del key) (answer.Full g b) is h = absurd h.1
  kept (line.Del key) (answer.QueueFull x y) is h = absurd h.1
  kept (line.Del key) (answer.Empty x) is h = absurd h.1
  kept (line.Get a key) answer.Missing is h = by_visit (line.Get a key) answer.Missing h.visited h.none
  kept (line.Get a key) (answer.EraSpent e) is h = absurd h
  kept (line.Get a key) answer.RootsFull is h = absurd h
  kept (line.Get a key) (answer.Full g b) is h = absurd h
  kept (line.Get a key) (answer.CountFull b x) is h = absurd h
  kept (line.Get a key) (answer.QueueFull x y) is h = absurd h
  kept (line.Get a key) (answer.Empty x) is h = absurd h
  kept (line.Send to key) answer.Missing is h = by_visit (line.Send to key) answer.Missing h.visited h.none
  kept (line.Send to key) (answer.QueueFull x y) is (b, h) = by_keeps (line.Send to key) (answer.QueueFull x y) h.keeps h.latch h.map h.cleared h.home h.none
  kept (line.Send to key) (answer.EraSpent e) is (b, h) = by_keeps (line.Send to key) (answer.EraSpent e) h.keeps h.latch h.map h.cleared h.home h.none
  kept (line.Send to key) (answer.CountFull d x) is (b, h) = by_keeps (line.Send to key) (answer.CountFull d x) h.keeps h.latch h.map h.cleared h.home h.none
  kept (line.Send to key) answer.RootsFull is h = absurd h
  kept (line.Send to key) (answer.Full g b) is h = absurd h
  kept (line.Send to key) (answer.Empty x) is h = absurd h
  kept l _ is h = absurd (false≢true is)
