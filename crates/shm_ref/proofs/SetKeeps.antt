-- what stays where a reference word of an own block is set
use Rattle.std.proofs.Common.{◌≡◌, ℕ, zero, suc, ◌+◌, ◌-◌, ◌^◌, ◌<◌, ◌≤◌, refl, sym, ap, ◌∙◌, subst, arith, true, false, eqb, List, [], ◌∷◌, ◌++◌, append-nil, Result}
use Rattle.std.proofs.lemmas.Bool.{eq-eqb, true≢false}
use Rattle.std.specs.{Prelude.{Some, Ok, Err, IfOk, IfErr, slice_index}, List.Contains}
use Rattle.shm_graph.specs.declared.{ask.Me.Me, memo.{Look.Look, Memo.Memo, Stored.Stored}}
use Rattle.shm_graph.specs.{declared.spot.Spot.TheVariants.{Body, Root, Tag}, Asks.Trail, Core.core, Events.Event}
use Rattle.shm_graph.specs.{Held.is_loose, Idle.{IsIdle, hold_word}, Reach.{is_named, is_reached, learnt}}
use Rattle.shm_graph.specs.MemoAfterRead.{values_read}
use Rattle.shm_graph.proofs.StepKinds.Loads.{choice}
use Rattle.shm_count.specs.{Roots.{AreRootsReached, root_word}, Slots.{Filled, Took, Untouched}, Step.Control.last_era}
use Rattle.shm_count.specs.{Tear.{Events.Visit, Memos.Knows}, Waiting.LeavesQueues}
use Rattle.shm_count.proofs.{RootSpots.roots_reached, Waiting.{loose_after, own_queues, queues_then, same_queues}}
use Rattle.shm_ref.specs.{declared.{answer.SetFault.SetFault, set_ref.SetState.SetState}, Proved.ReadParts.latch_by}
use Rattle.shm_ref.specs.Proved.{RootTasks.set_rests, SetRef.Memos.{seen_dying, seen_word, tag_reached}}
use Rattle.shm_ref.specs.SetRef.{SetDid, SetLeaves, SetSpent, SetStays, aim_of, SetDid.{Kept, Raised, Taken}}
use Rattle.shm_ref.specs.SetRef.{SetSpent.{AtStep, AtTear}, Memos.{tag_seen, word_seen}, Told.{Reaches, SetTold}}
use Rattle.shm_ref.specs.declared.answer.SetFault.TheVariants as fault

-- ---- what stays, whatever is answered

-- the latch, what waits in queues and the roots
pub record SetLasts (c : ℕ) (m r : Memo) : Type 0 where
  pub left : LeavesQueues m r
  pub roots : (k : ℕ) → root_word c r k ≡ root_word c m k

lasts_then : (c : ℕ) (m q r : Memo) → SetLasts c m q → SetLasts c q r → SetLasts c m r
lasts_then c m q r a b = record { left = queues_then m q r a.left b.left; roots = λ k. b.roots k ∙ a.roots k }

same_lasts : (c : ℕ) (m r : Memo) → core r ≡ core m → SetLasts c m r
same_lasts c m r e = record { left = same_queues m r e; roots = λ k. ap (λ (x : Memo). root_word c x k) e }

-- words were read
read_lasts : (c : ℕ) (m : Memo) (ls : List Look) (ks : List Stored) (vs : List ℕ) → SetLasts c m (record m { looks = ls; known = ks; values = vs })
read_lasts c m ls ks vs = record { left = record { latch = refl; unsent = λ j. refl; untaken = λ j. refl; loose = refl }; roots = λ k. refl }

tag_lasts : (c b t : ℕ) (m : Memo) → SetLasts c m (tag_seen b t m)
tag_lasts c b t m = read_lasts c m m.looks (learnt (Tag b) t m.known) m.values

word_lasts : (c b k t x : ℕ) (m : Memo) → SetLasts c m (word_seen b k t x m)
word_lasts c b k t x m =
    let y : Memo = tag_seen b t m in
    choice (λ (z : Memo). SetLasts c m z) (eqb x 0) (record y { known = learnt (Body b k) x y.known }) (record y { looks = y.looks ++ record { block = x; from = Body b k } ∷ []; known = learnt (Body b k) x y.known; values = values_read y b k x })
    (λ e. read_lasts c m m.looks (learnt (Body b k) x y.known) m.values)
    (λ e. read_lasts c m (y.looks ++ record { block = x; from = Body b k } ∷ []) (learnt (Body b k) x y.known) (values_read y b k x))

untouched_lasts : (c : ℕ) (m r : Memo) → Untouched c m r → SetLasts c m r
untouched_lasts c m r u = record { left = own_queues m r u.rest; roots = λ k. u.own (Root c k) refl }

-- a word came to name a block
filled_lasts : (c b k x : ℕ) (m r : Memo) → Filled c (Body b k) x m r → SetLasts c m r
filled_lasts c b k x m r h =
    record {
      left = record {
        latch = ap (λ (y : Memo). y.latch) h.rest;
        unsent = λ j. ap (λ (y : Memo). slice_index y.unsent j) h.rest;
        untaken = λ j. ap (λ (y : Memo). slice_index y.untaken j) h.rest;
        loose = ap (λ (y : Memo). is_loose y.part) h.rest ∙ loose_after c m (Body b k) x;
      };
      roots = λ j. h.own (Root c j) refl;
    }

-- a block was taken out of a word
took_lasts : (c b k old x : ℕ) (m r : Memo) → Took c (Body b k) false old x false m r → SetLasts c m r
took_lasts c b k old x m r h =
    record {
      left = record {
        latch = ap (λ (y : Memo). y.latch) h.rest;
        unsent = λ j. ap (λ (y : Memo). slice_index y.unsent j) h.rest;
        untaken = λ j. ap (λ (y : Memo). slice_index y.untaken j) h.rest;
        loose = ap (λ (y : Memo). is_loose y.part) h.rest ∙ loose_after c m (Body b k) x;
      };
      roots = λ j. h.own (Root c j) refl;
    }

did_lasts : (me : Me) (b k old to : ℕ) (m r : Memo) (es : List Event) → SetDid me b k old to m r es → SetLasts me.who m r
did_lasts me b k old to m r es (Kept same memo none) = same_lasts me.who m r memo
did_lasts me b k old to m r es (Raised empty some filled up) = filled_lasts me.who b k to m r filled
did_lasts me b k old to m r es (Taken some other lost torn told walk) = took_lasts me.who b k old to m r lost.took

spent_lasts : (me : Me) (b k to : ℕ) (m r : Memo) (es : List Event) (e : ℕ) (vs : List Visit) → SetSpent me b k to m r es e vs → SetLasts me.who m r
spent_lasts me b k to m r es e vs (AtStep t old read other memo cause none all) = lasts_then me.who m (word_seen b k t old m) r (word_lasts me.who b k t old m) (untouched_lasts me.who (word_seen b k t old m) r memo)
spent_lasts me b k to m r es e vs (AtTear t old read some other took stopped torn told walk) = lasts_then me.who m (word_seen b k t old m) r (word_lasts me.who b k t old m) (took_lasts me.who b k old to (word_seen b k t old m) r took)

module _ (me : Me) (b k to : ℕ) (m r : Memo) (es : List Event) (vs : List Visit) where
  abbrev c : ℕ
  c = me.who

  stays_lasts : (f : SetFault) → SetStays me b k to m r es vs f → SetLasts c m r
  stays_lasts (fault.NotAuthor a) (t, known, is, other, memo, none, all) = lasts_then c m (tag_seen b t m) r (tag_lasts c b t m) (same_lasts c (tag_seen b t m) r memo)
  stays_lasts (fault.NoSuchRef n) (t, known, own, is, low, memo, none, all) = lasts_then c m (tag_seen b t m) r (tag_lasts c b t m) (same_lasts c (tag_seen b t m) r memo)
  stays_lasts fault.NotHeld (t, own, other, memo, none, all) = lasts_then c m (tag_seen b t m) r (tag_lasts c b t m) (same_lasts c (tag_seen b t m) r memo)
  stays_lasts (fault.EraSpent e) h = spent_lasts me b k to m r es e vs h
  stays_lasts (fault.CountFull d n) h = lasts_then c m (word_seen b k h.0.tag h.0.old m) r (word_lasts c b k h.0.tag h.0.old m) (untouched_lasts c (word_seen b k h.0.tag h.0.old m) r h.0.memo)

  -- ---- what a refusal says

  -- the tag that was read is known
  tag_known : (t : ℕ) → core r ≡ core (tag_seen b t m) → Knows r (Tag b) t
  tag_known t e = subst (λ (ks : List Stored). Contains ks (record { spot = Tag b; value = t })) (sym (ap (λ (x : Memo). x.known) e)) (0, omega arith, refl)

  reaches : (t : ℕ) → core r ≡ core (tag_seen b t m) → Reaches c m r
  reaches t e = λ d h. ap (λ (x : Memo). is_reached c x d) e ∙ tag_reached c b t d m h

  stays_told : IsIdle c m → (f : SetFault) → SetStays me b k to m r es vs f → SetTold me.geometry.wide c b k to m r f
  stays_told idle (fault.NotAuthor a) (t, known, is, other, memo, none, all) = (t, tag_known t memo, is, other, reaches t memo)
  stays_told idle (fault.NoSuchRef n) (t, known, own, is, low, memo, none, all) = (t, tag_known t memo, own, is, low, reaches t memo)
  stays_told idle fault.NotHeld (t, own, other, memo, none, all) = (t, tag_known t memo, own.author, own.low, (λ e. other (idle.hold ∙ ap hold_word e)), reaches t memo)
  stays_told idle (fault.EraSpent e) h = spent_told e h
    where
      last : (old : ℕ) → (x : ℕ) → 2 ^ 47 - 4 ≤ last_era (aim_of old x)
      last zero x = omega arith
      last (suc a) zero = omega arith
      last (suc a) (suc x) = omega arith

      spent_told : (e : ℕ) → SetSpent me b k to m r es e vs → 2 ^ 47 - 4 < e
      spent_told e (AtStep t old read other memo cause none all) = let l = last old to in omega (arith, cause.1)
      spent_told e (AtTear t old read some other took stopped torn told walk) = omega (arith, stopped.spent)
  stays_told idle (fault.CountFull d n) h = (h.0.block, h.0.some, h.0.full)

-- ---- by the answer

module _ (m : SetState) (r0 r : Memo) (tr : Trail) (es : List Event) where
  abbrev who : ℕ
  who = m.me.who

  pub set_lasts : (a : Result (Unit {0}) SetFault) → SetLeaves m r0 r tr es a → SetLasts who r0 r
  set_lasts (Ok u) h = lasts_then who r0 (word_seen m.block m.word h.tag h.old r0) r (word_lasts who m.block m.word h.tag h.old r0) (did_lasts m.me m.block m.word h.old m.to (word_seen m.block m.word h.tag h.old r0) r es h.did)
  set_lasts (Err f) h = stays_lasts m.me m.block m.word m.to r0 r es h.left f h.stays

  pub set_held : (a : Result (Unit {0}) SetFault) → SetLeaves m r0 r tr es a → IsIdle who r0 → IfOk a (λ u. r0.latch ≡ Some who)
  set_held (Ok u) h idle = latch_by r0.latch who (sym idle.hold ∙ h.read.held)
  set_held (Err f) h idle = tt

  pub set_told : (a : Result (Unit {0}) SetFault) → SetLeaves m r0 r tr es a → IsIdle who r0 → IfErr a (λ f. SetTold m.me.geometry.wide who m.block m.word m.to r0 r f)
  set_told (Ok u) h idle = tt
  set_told (Err f) h idle = stays_told m.me m.block m.word m.to r0 r es h.left idle f h.stays

  pub set_dying : (a : Result (Unit {0}) SetFault) → SetLeaves m r0 r tr es a → IfOk a (λ u. r.dying ≡ r0.dying)
  set_dying (Err f) h = tt
  set_dying (Ok u) h = go h.did ∙ seen_dying m.block m.word h.tag h.old r0
    where
      go : SetDid m.me m.block m.word h.old m.to (word_seen m.block m.word h.tag h.old r0) r es → r.dying ≡ (word_seen m.block m.word h.tag h.old r0).dying
      go (Kept same memo none) = ap (λ (x : Memo). x.dying) memo
      go (Raised empty some filled up) = ap (λ (x : Memo). x.dying) filled.rest
      go (Taken some other lost torn told walk) = lost.dying ∙ append-nil _

  -- the word, where own words name its block still
  pub set_known : (a : Result (Unit {0}) SetFault) → SetLeaves m r0 r tr es a → IfOk a (λ u. is_named who r m.block ≡ true → Knows r (Body m.block m.word) m.to)
  set_known (Err f) h = tt
  set_known (Ok u) h = λ named. go named h.did
    where
      seen : Memo
      seen = word_seen m.block m.word h.tag h.old r0

      go : is_named who r m.block ≡ true → SetDid m.me m.block m.word h.old m.to (word_seen m.block m.word h.tag h.old r0) r es → Knows r (Body m.block m.word) m.to
      go named (Kept same memo none) =
          subst (λ x. Knows r (Body m.block m.word) x) same
          (subst (λ (ks : List Stored). Contains ks (record { spot = Body m.block m.word; value = h.old })) (sym (ap (λ (x : Memo). x.known) memo)) (seen_word m.block m.word h.tag h.old r0))
      go named (Raised empty some filled up) =
          subst (λ (ks : List Stored). Contains ks (record { spot = Body m.block m.word; value = m.to })) (sym (ap (λ (x : Memo). x.known) filled.rest)) (0, omega arith, refl)
      go named (Taken some other lost torn told walk) =
          lost.took.sifts.words m.block (Body m.block m.word) m.to named (λ e. absurd (true≢false (sym e))) (eq-eqb m.block m.block refl) (0, omega arith, refl)

  pub set_reached : (a : Result (Unit {0}) SetFault) → SetLeaves m r0 r tr es a → IsIdle who r0 → AreRootsReached who r
  set_reached a h idle = roots_reached who r (set_rests m r0 r tr es a idle h).op
