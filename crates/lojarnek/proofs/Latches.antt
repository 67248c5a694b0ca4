-- what taking latches and setting reference words under them leave, and what stays known once they are given back
use Rattle.std.proofs.Common.{◌≡◌, ◌≢◌, ℕ, ◌+◌, ◌<◌, ◌≤◌, Bool, true, false, List, [], ◌∷◌, ◌++◌, length, length-append, append-nil, Result, Ok, Err, eqb, refl, sym, ap, ◌∙◌, subst, arith, MatchResult}
use Rattle.std.proofs.lemmas.Bool.{and_from, eq-eqb, or_left, or_right}
use Rattle.std.specs.{List.{Contains, filter, list_any}, Prelude.{None, Some}}
use Rattle.shm_graph.specs.declared.{ask.Me.Me, memo.{Memo.Memo, Step.Step, Stored.Stored, Op.TheVariants.Nothing}}
use Rattle.shm_graph.specs.{declared.spot.Spot.TheVariants.Body, Asks.Trail, Events.Event, Laws.Control}
use Rattle.shm_graph.specs.Reach.{binds_unlatched, is_dying, is_latch_of, is_named, is_reached, named_blocks}
use Rattle.kind_laws.proofs.Lists.{Contains-filter}
use Rattle.plans.specs.Words.{word_control}
use Rattle.shm_count.specs.{Roots.root_word, Tear.Memos.Knows}
use Rattle.shm_count.proofs.RootSpots.{roots_reached}
use Rattle.shm_ref.specs.{declared.answer.{Busy.Busy, SetFault.SetFault}, Hold.{Control.holding, hold_plan}}
use Rattle.shm_ref.specs.SetRef.{Control.{set_parts, setting}, Told.SetTold, set_plan}
use Rattle.shm_ref.specs.declared.answer.SetFault.TheVariants as set
use Rattle.shm_ref.proofs.LatchKeeps.{hold_held, hold_refused, hold_roots, hold_waiting}
use Rattle.shm_ref.proofs.SetKeeps.{set_known, set_lasts, set_told}
use Rattle.shm_pool.specs.{declared.reply.Reply.{Reply, TheVariants.{Died, Done}}, Calls.{Ending, Shown}}
use Rattle.shm_pool.specs.{Called.{HasCalled, Rests}, Doing.HasDone, Tokens.{Acting, Its, me_of}}
use Rattle.lojarnek.specs.{Blocks.{HasEnded, KeepsRoots}, Roots.{IsAtBlocks, IsHolding, IsNamed}, Standing.acts_of}
use Rattle.lojarnek.specs.{Setting.{HasHeld, HasSet, KnowsReference, WhyUnset}, Tables.SameClient}
use Rattle.lojarnek.proofs.{Comes.{roots_kept, same_then}, Done.{done_lives, done_same}, Ready.dead_ready}

-- ---- in the memo

-- a block that a root names is named, where no step is in progress
named_root : (c : ℕ) (m : Memo) (k b : ℕ) → m.op ≡ Nothing → k < 16 → b ≢ 0 → root_word c m k ≡ b → is_named c m b ≡ true
named_root c m k b idle low some is =
    subst (λ (xs : List ℕ). list_any (eqb b) xs ≡ true) (append-nil (named_blocks c m)) (roots_reached c (record m { looks = [] }) idle k b low some is)

module _ (me : Me) (r0 : Memo) where
  -- the memo in which the latch is given back and nothing is forgotten yet
  abbrev loosed : Memo
  loosed = record r0 { latch = None; looks = [] }

  abbrev stays : Stored → Bool
  stays s = binds_unlatched me.geometry.wide (is_latch_of me.who r0.latch) me.who loosed s.spot

  own_latch : r0.latch ≡ Some me.who → is_latch_of me.who r0.latch ≡ true
  own_latch held = ap (is_latch_of me.who) held ∙ eq-eqb me.who me.who refl

  -- where the own latch is given back, reference words of blocks that roots name stay known
  pub unlatched_knows : (r : Memo) → r.known ≡ filter stays r0.known → (k b j d : ℕ) → r0.op ≡ Nothing → k < 16 → b ≢ 0 → root_word me.who r0 k ≡ b → r0.latch ≡ Some me.who → Knows r0 (Body b j) d → Knows r (Body b j) d
  unlatched_knows r known_now k b j d idle low some is held known =
      let reached : is_reached me.who loosed b ≡ true = roots_reached me.who loosed idle k b low some is in
      let binds : stays (record { spot = Body b j; value = d }) ≡ true = or_right (is_dying loosed b) _ (and_from (is_reached me.who loosed b) _ reached (or_left (is_latch_of me.who r0.latch) _ (own_latch held))) in
      subst (λ (ks : List Stored). Contains ks (record { spot = Body b j; value = d })) (sym known_now) (Contains-filter stays r0.known _ known binds)

why_unset : (wide : Bool) (c b j d : ℕ) (m r : Memo) (f : SetFault) → m.latch ≡ Some c → SetTold wide c b j d m r f → WhyUnset c j d f
why_unset wide c b j d m r (set.NotAuthor a) held h = h.3
why_unset wide c b j d m r (set.NoSuchRef n) held h = h.4
why_unset wide c b j d m r set.NotHeld held h = h.4 held
why_unset wide c b j d m r (set.EraSpent e) held h = h
why_unset wide c b j d m r (set.CountFull b' n) held h = h

-- ---- how many word steps were made

some_steps : (s : Shown) (fresh : Bool) (steps last : List Step) → Ending s fresh true last → 1 ≤ length (steps ++ last)
some_steps s fresh steps [] h = absurd h
some_steps s fresh steps (t ∷ ts) h = omega (arith, length-append steps (t ∷ ts))

module _ {M A : Type 0} {k : Control M A} {does : M → ℕ → Event} {leaves : M → Memo → Memo → Trail → List Event → A → Type 0} {ends : M → A → Type 0} {m : M} {t t' : Acting} {before left : ℕ} where
  pub done_less : (a : A) → t.dead ≡ false → HasDone k does leaves ends m t t' before left (Done a) → left < before
  done_less a alive h =
      let x = h.call alive in
      let most : 1 ≤ length (x.steps ++ x.last) = some_steps _ _ x.steps x.last x.ends in
      let life : left + length (x.steps ++ x.last) ≡ before = x.life in
      omega arith

  pub died_ended : t.dead ≡ false → HasDone k does leaves ends m t t' before left Died → Rests t' → HasEnded (acts_of t before) (acts_of t' left)
  died_ended alive h rests = (done_same Died alive h, dead_ready t' rests (h.died.0 tt), h.died.0 tt, h.spent alive tt)

-- ---- a latch is taken

-- so far: the client is the same one, it is ready for a call still, and its roots name what they named
pub record IsTrying (t0 : Acting) (before : ℕ) (t : Acting) (left : ℕ) : Type 0 where
  pub same : SameClient (acts_of t0 before) (acts_of t left)
  pub at : IsAtBlocks t
  pub roots : KeepsRoots (acts_of t0 before) (acts_of t left)
  pub known : t.account.memo.known ≡ t0.account.memo.known

module _ (t0 : Acting) (first : ℕ) (t t' : Acting) (before left a : ℕ) (at : IsTrying t0 first t before) where
  abbrev Holds : Result (Unit {0}) Busy → Type 0
  Holds r = HasCalled word_control hold_plan (holding (me_of t.of t.account) a) t t' before left (Done r)

  hold_same : (r : Result (Unit {0}) Busy) → Holds r → SameClient (acts_of t0 first) (acts_of t' left)
  hold_same r h = same_then (acts_of t0 first) (acts_of t before) (acts_of t' left) at.same (done_same (Done r) at.at.alive h.done)

  hold_known : (r : Result (Unit {0}) Busy) → Holds r → t'.account.memo.known ≡ t0.account.memo.known
  hold_known (Ok u) h = ap (λ (x : Memo). x.known) h.done.left_so.memo ∙ at.known
  hold_known (Err e) h = ap (λ (x : Memo). x.known) h.done.left_so.memo ∙ at.known

  hold_keeps : (r : Result (Unit {0}) Busy) → Holds r → KeepsRoots (acts_of t0 first) (acts_of t' left)
  hold_keeps r h k = roots_kept t t' h.done.same.1 (hold_roots (holding (me_of t.of t.account) a) t.account.memo t'.account.memo _ _ r h.done.left_so) k ∙ at.roots k

  pub held_now : Holds (Ok tt) → HasHeld a (acts_of t0 first) (acts_of t' left) (Done tt)
  held_now h =
      let w = hold_waiting (holding (me_of t.of t.account) a) t.account.memo t'.account.memo _ _ (Ok tt) h.done.left_so in (
        hold_same (Ok tt) h,
        record {
          rests = h.rests;
          kind = ap (λ (p : Its). p.start.tables) h.done.same.0 ∙ at.at.kind;
          alive = done_lives (Ok tt) h.done;
          latch = hold_held (holding (me_of t.of t.account) a) t.account.memo t'.account.memo _ _ (Ok tt) h.done.left_so;
          unsent = λ j. w.unsent j ∙ at.at.ready.unsent at.at.alive j;
          untaken = λ j. w.untaken j ∙ at.at.ready.untaken at.at.alive j;
        },
        hold_keeps (Ok tt) h,
        hold_known (Ok tt) h,
      )

  pub held_else : (e : Busy) → Holds (Err e) → IsTrying t0 first t' left
  held_else e h =
      let w = hold_waiting (holding (me_of t.of t.account) a) t.account.memo t'.account.memo _ _ (Err e) h.done.left_so in
      let none = hold_refused (holding (me_of t.of t.account) a) t.account.memo t'.account.memo _ _ (Err e) h.done.left_so (at.at.ready.none at.at.alive) in
      record {
        same = hold_same (Err e) h;
        at = record {
          ready = record { rests = h.rests; none = λ d. none; unsent = λ d j. w.unsent j ∙ at.at.ready.unsent at.at.alive j; untaken = λ d j. w.untaken j ∙ at.at.ready.untaken at.at.alive j };
          kind = ap (λ (p : Its). p.start.tables) h.done.same.0 ∙ at.at.kind;
          alive = done_lives (Err e) h.done;
        };
        roots = hold_keeps (Err e) h;
        known = hold_known (Err e) h;
      }

  pub held_died : HasCalled word_control hold_plan (holding (me_of t.of t.account) a) t t' before left Died → HasHeld a (acts_of t0 first) (acts_of t' left) Died
  held_died h = let e : HasEnded (acts_of t before) (acts_of t' left) = died_ended at.at.alive h.done h.rests in (same_then (acts_of t0 first) (acts_of t before) (acts_of t' left) at.same e.0, e.1, e.2, e.3)

-- ---- a word is set while it is held

module _ (t t' : Acting) (before left b j d : ℕ) (at : IsHolding t.account.who t) (named : IsNamed b t) where
  abbrev Sets : Reply (Result (Unit {0}) SetFault) → Type 0
  Sets o = HasCalled set_parts set_plan (setting (me_of t.of t.account) b j d) t t' before left o

  set_keeps : (r : Result (Unit {0}) SetFault) → Sets (Done r) → KeepsRoots (acts_of t before) (acts_of t' left)
  set_keeps r h = roots_kept t t' h.done.same.1 (set_lasts (setting (me_of t.of t.account) b j d) t.account.memo t'.account.memo _ _ r h.done.left_so).roots

  set_still : (r : Result (Unit {0}) SetFault) → Sets (Done r) → IsHolding t.account.who t'
  set_still r h =
      let w = (set_lasts (setting (me_of t.of t.account) b j d) t.account.memo t'.account.memo _ _ r h.done.left_so).left in
      record {
        rests = h.rests;
        kind = ap (λ (p : Its). p.start.tables) h.done.same.0 ∙ at.kind;
        alive = done_lives r h.done;
        latch = w.latch ∙ at.latch;
        unsent = λ k. w.unsent k ∙ at.unsent k;
        untaken = λ k. w.untaken k ∙ at.untaken k;
      }

  -- in the memo after, own words name the block still
  named_still : (r : Result (Unit {0}) SetFault) → Sets (Done r) → is_named t.account.who t'.account.memo b ≡ true
  named_still r h =
      named_root t.account.who t'.account.memo named.root b (h.rests.between (done_lives r h.done)).idle.op named.low named.some
      ((set_lasts (setting (me_of t.of t.account) b j d) t.account.memo t'.account.memo _ _ r h.done.left_so).roots named.root ∙ named.named)

  set_says : (r : Result (Unit {0}) SetFault) → Sets (Done r) → MatchResult r (λ u. KnowsReference b j d (acts_of t' left)) (WhyUnset t.account.who j d)
  set_says (Ok u) h = set_known (setting (me_of t.of t.account) b j d) t.account.memo t'.account.memo _ _ (Ok u) h.done.left_so (named_still (Ok u) h)
  set_says (Err f) h =
      why_unset t.of.start.geometry.wide t.account.who b j d t.account.memo t'.account.memo f at.latch
      (set_told (setting (me_of t.of t.account) b j d) t.account.memo t'.account.memo _ _ (Err f) h.done.left_so (at.rests.between at.alive).idle)

  pub has_set : (o : Reply (Result (Unit {0}) SetFault)) → Sets o → HasSet b j d (acts_of t before) (acts_of t' left) o
  has_set (Done r) h = (done_same (Done r) at.alive h.done, set_still r h, set_keeps r h, set_says r h)
  has_set Died h = died_ended at.alive h.done h.rests
