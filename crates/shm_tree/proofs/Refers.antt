-- What it leaves to have a node refer to a child.
use Rattle.std.proofs.Common.{◌≡◌, ◌≢◌, ℕ, zero, suc, ◌+◌, ◌<◌, true, false, List, [], ◌∷◌, ◌++◌, length, append-nil, refl, sym, ap, ◌∙◌, subst, arith, inl, inr, eqb, ◌&&◌}
use Rattle.std.proofs.lemmas.Bool.{eq-eqb, ne_eqb}
use Rattle.std.specs.{Prelude.{Some, Result, Ok, Err}, List.{Contains, filter}}
use Rattle.shm_graph.specs.declared.{ask.Me.Me, memo.{Memo.Memo, Stored.Stored}, run.Start.Start, spot.Spot.Spot}
use Rattle.shm_graph.specs.{declared.spot.Spot.TheVariants.{Body, Home, Root, Tag}, Asks.{IsWithin, Trail}}
use Rattle.shm_graph.specs.{Bounds.{change_steps, tear_steps}, Core.core}
use Rattle.shm_graph.specs.{Events.{ChangeDown, ChangeUp, Down, Event, Graph, Happens, Up, graph_of}, Idle.hold_word}
use Rattle.shm_graph.specs.{Reach.is_reached, Spots.{same_spot, see}, Views.View}
use Rattle.shm_plain.specs.{Calls.Did, Pools.{Pool, memo_of}}
use Rattle.shm_count.specs.{Proved.Retaining.slots_learnt, Roots.member, Slots.Untouched, Tear.Events.{Visit, frees}}
use Rattle.shm_count.specs.Tear.Memos.{Knows, is_slot_word}
use Rattle.shm_ref.specs.{declared.answer.SetFault.SetFault, SetRef.{Control.setting, Memos.{tag_seen, word_seen}}}
use Rattle.shm_ref.specs.SetRef.{SetDid, SetLeaves, SetSpent, SetStays, taken_events, SetDid.{Kept, Raised, Taken}}
use Rattle.shm_ref.specs.SetRef.SetSpent.{AtStep, AtTear}
use Rattle.shm_ref.specs.Proved.SetRef.Memos.{seen_dying, seen_op, seen_reached, seen_word}
use Rattle.shm_ref.specs.declared.answer.SetFault.TheVariants as fault
use Rattle.shm_ref.proofs.SetKeeps.{set_lasts}
use Rattle.shm_tree.specs.{declared.node.Side.{Side, TheVariants.{Left, Right}}, Bounds.refer_steps, Causes.SetRefused}
use Rattle.shm_tree.specs.Keeping.{IsPart, IsReferring, IsStill, KeepsNode, child_of, made_in, other_side, side_word}
use Rattle.shm_tree.specs.{Standing.{IsNode, TreeStands, word_of}, Trees.{Tree, Empty, Node}}
use Rattle.shm_tree.specs.Working.{AreSameRoots, IsSameLatch, IsWorking, Reaches}
use Rattle.shm_tree.proofs.Alive.{IsHomeless, IsOn, after, before, homeless_is, homeless_none, known_word, still, works}
use Rattle.shm_tree.proofs.Firsts.{first_tells}
use Rattle.shm_tree.proofs.Nodes.{body_names, child_kept, content_kept, life_same, names, node_kept}
use Rattle.shm_tree.proofs.{Reach.reach_same_words, Findings.{author_known, refs_known}}
use Rattle.shm_tree.proofs.Shares.{queues_quiet, within_self}

-- ---- trees of which a block is no node

pub others_stand : (p q : Pool) (b : ℕ) → ((d k n h : ℕ) → d ≢ b → IsNode p d k n h → KeepsNode p q d k n h) → (t : Tree) (d : ℕ) → (IsPart p b d t → ⊥) → TreeStands p d t → TreeStands q d t
others_stand p q b keep Empty d not y = y
others_stand p q b keep (Node k n l r) d not y =
    let x = keep d k n _ (λ e. not (inl (sym e))) y.0 in (
      x.node,
      subst (λ z. TreeStands q z l) (sym x.left) (others_stand p q b keep l (word_of p (Body d 0)) (λ h. not (inr (inl h))) y.1),
      subst (λ z. TreeStands q z r) (sym x.right) (others_stand p q b keep r (word_of p (Body d 1)) (λ h. not (inr (inr h))) y.2),
    )

module _ (p q : Pool) (es : List Event) (on : IsOn p q es) (b : ℕ) (s : Side) (to : ℕ) (k n h : ℕ) (node : IsNode p b k n h) (empty : child_of p b s ≡ 0) where
  abbrev me : Me
  me = member p.start.geometry 0

  abbrev r0 : Memo
  r0 = memo_of p 0

  abbrev r : Memo
  r = memo_of q 0

  abbrev tr : Trail
  tr = r.call

  abbrev i : ℕ
  i = side_word s

  low : i < 2
  low = by s
    where
      by : (z : Side) → side_word z < 2
      by Left = omega arith
      by Right = omega arith

  -- the word names nothing before
  nothing_named : names p (Body b i) ≡ 0
  nothing_named = body_names p (before p q es on) b i node.live (let two = node.refs in let l = low in omega (arith, two, l)) ∙ empty

  -- so that nothing is taken out of it
  untaken : (old : ℕ) (torn : List Event) → old ≢ 0 → es ≡ taken_events 0 (Body b i) old to ++ torn → ⊥
  untaken old torn some told = some (sym (by to told) ∙ nothing_named)
    where
      first : (e : Event) (fs : List Event) → es ≡ e ∷ fs → ((w : Spot → ℕ) (a d : Graph) (v : View) → a ≡ graph_of p.start.geometry w v → Happens p.start.geometry w e a d → a.target (Body b i) ≡ old) → names p (Body b i) ≡ old
      first e fs eq tells = first_tells 0 p q e fs on.working.run on.run on.start (subst (Did 0 p q) eq on.did) (λ (a : Graph). a.target (Body b i) ≡ old) (λ a d same h. sym (same.targets (Body b i)) ∙ h) tells

      by : (x : ℕ) → es ≡ taken_events 0 (Body b i) old x ++ torn → names p (Body b i) ≡ old
      by zero eq = first (Down 0 (Body b i) old) torn eq (λ w a d v same h. h.1)
      by (suc x) eq = first (ChangeUp 0 (Body b i) old (suc x)) (ChangeDown 0 old ∷ torn) eq (λ w a d v same h. h.0)

  -- ---- a word was set

  -- the spots of other words
  other_spot : (d j : ℕ) → d ≢ b → same_spot (Body b i) (Body d j) ≡ false
  other_spot d j n = ap (λ z. z && eqb i j) (ne_eqb b d (λ e. n (sym e)))

  other_word : (z : Side) → same_spot (Body b (side_word z)) (Body b (side_word (other_side z))) ≡ false
  other_word Left = ap (λ y. y && false) (eq-eqb b b refl)
  other_word Right = ap (λ y. y && false) (eq-eqb b b refl)

  raised : es ≡ Up 0 (Body b i) to ∷ [] → child_of q b s ≡ to → AreSameRoots p q → IsReferring b s to p q
  raised told set roots =
      let up : List Event = Up 0 (Body b i) to ∷ [] in
      let did : Did 0 p q up = subst (Did 0 p q) told on.did in
      let cp = before p q es on in
      let cq = after p q es on in
      let nodes : (d x y z : ℕ) → d ≢ b → IsNode p d x y z → KeepsNode p q d x y z = λ d x y z ne it. node_kept p q up cp cq on.start did d x y z (record { freed = (refl, tt); left = (other_spot d 0 ne, tt); right = (other_spot d 1 ne, tt) }) it in
      record {
        node = λ x y z it. content_kept p q up cp cq on.start did b x y z (refl, tt) it;
        names = set;
        other = child_kept p q up cp cq on.start did b k n h (side_word (other_side s)) (other_low s) (refl, tt) (other_word s, tt) node;
        nodes = nodes;
        trees = λ d t not y. others_stand p q b nodes t d not y;
        lives = λ d. life_same p q up cp cq on.start did d ((refl, refl), tt);
        roots = roots;
        made = (up, did, (let none : made_in up ≡ 0 = refl in omega (arith, none)));
      }
    where
      other_low : (z : Side) → side_word (other_side z) < 2
      other_low Left = omega arith
      other_low Right = omega arith

  -- the word named what it is to name: nothing
  kept : IsStill p q → child_of q b s ≡ to → IsReferring b s to p q
  kept y set =
      record {
        node = λ u v w it. (y.nodes b u v w it).node;
        names = set;
        other = by s;
        nodes = λ d u v w ne it. y.nodes d u v w it;
        trees = λ d t not it. y.trees d t it;
        lives = y.lives;
        roots = y.roots;
        made = y.made;
      }
    where
      by : (z : Side) → child_of q b (other_side z) ≡ child_of p b (other_side z)
      by Left = (y.nodes b k n h node).right
      by Right = (y.nodes b k n h node).left

  knows_set : Knows r (Body b i) to → child_of q b s ≡ to
  knows_set e = ap (λ (z : Start). see z.geometry q.words (Body b i)) on.start ∙ known_word p q es on b i to e

  set_roots : (a : Result (Unit {0}) SetFault) → SetLeaves (setting me b i to) r0 r tr es a → AreSameRoots p q
  set_roots a l = (set_lasts (setting me b i to) r0 r tr es a l).roots

  pub set_refers : (u : Unit {0}) → SetLeaves (setting me b i to) r0 r tr es (Ok u) → IsReferring b s to p q
  set_refers u l = by l.did
    where
      seen : Memo
      seen = word_seen b i l.tag l.old r0

      by : SetDid me b i l.old to seen r es → IsReferring b s to p q
      by (Kept same memo none) =
          kept (still p q es on none (set_roots (Ok u) l) (ap (λ (x : Memo). x.dying) memo ∙ seen_dying b i l.tag l.old r0))
          (knows_set (subst (λ x. Knows r (Body b i) x) same (subst (λ (ks : List Stored). Contains ks (record { spot = Body b i; value = l.old })) (sym (ap (λ (x : Memo). x.known) memo)) (seen_word b i l.tag l.old r0))))
      by (Raised none some filled up) =
          raised up (knows_set (subst (λ (ks : List Stored). Contains ks (record { spot = Body b i; value = to })) (sym (ap (λ (x : Memo). x.known) filled.rest)) (0, omega arith, refl))) (set_roots (Ok u) l)
      by (Taken some other lost torn told walk) = absurd (untaken l.old torn some told)

  -- ---- what is in reach

  seen_reaches : (t old : ℕ) → (d : ℕ) → is_reached 0 r0 d ≡ true → is_reached 0 (word_seen b i t old r0) d ≡ true
  seen_reaches t old d reach = seen_reached b i t old r0 0 d reach

  seen_idle : (t old : ℕ) → (word_seen b i t old r0).op ≡ r0.op
  seen_idle t old = seen_op b i t old r0

  untouched_seen : (t old : ℕ) → Untouched 0 (word_seen b i t old r0) r → Reaches p q
  untouched_seen t old u d reach =
      let m : Memo = word_seen b i t old r0 in
      reach_same_words 0 m r [] d (seen_idle t old ∙ on.working.work.idle.op) on.at.idle.op (λ j. u.own (Root 0 j) refl) (u.own (Home 0) refl) (ap (λ (x : Memo). filter is_slot_word x.known) u.rest)
      (ap (λ (x : Memo). x.looks) u.rest ∙ sym (append-nil m.looks)) (seen_reaches t old d reach)

  pub set_reaches : (u : Unit {0}) → SetLeaves (setting me b i to) r0 r tr es (Ok u) → Reaches p q
  set_reaches u l d reach = by l.did
    where
      seen : Memo
      seen = word_seen b i l.tag l.old r0

      by : SetDid me b i l.old to seen r es → is_reached 0 r d ≡ true
      by (Kept same memo none) = ap (λ (x : Memo). is_reached 0 x d) memo ∙ seen_reaches l.tag l.old d reach
      by (Raised none some filled up) =
          reach_same_words 0 seen r [] d (seen_idle l.tag l.old ∙ on.working.work.idle.op) on.at.idle.op (λ j. filled.own (Root 0 j) refl) (filled.own (Home 0) refl)
          (ap (λ (x : Memo). filter is_slot_word x.known) filled.rest ∙ slots_learnt (Body b i) to seen.known refl)
          (ap (λ (x : Memo). x.looks) filled.rest ∙ sym (append-nil seen.looks)) (seen_reaches l.tag l.old d reach)
      by (Taken some other lost torn told walk) = absurd (untaken l.old torn some told)

  -- ---- refusals

  pub set_latch : (a : Result (Unit {0}) SetFault) → SetLeaves (setting me b i to) r0 r tr es a → IsSameLatch p q
  set_latch a l = (set_lasts (setting me b i to) r0 r tr es a l).left.latch

  pub set_works : (u : Unit {0}) → SetLeaves (setting me b i to) r0 r tr es (Ok u) → IsWorking q
  set_works u l = works p q es on (queues_quiet r0 r (set_lasts (setting me b i to) r0 r tr es (Ok u) l).left) (home l.did) (by l.did ∙ seen_dying b i l.tag l.old r0)
    where
      home : SetDid me b i l.old to (word_seen b i l.tag l.old r0) r es → IsHomeless es
      home (Kept same memo none) = homeless_none es none
      home (Raised none some filled up) = homeless_is es (Up 0 (Body b i) to ∷ []) up (refl, tt)
      home (Taken some other lost torn told walk) = absurd (untaken l.old torn some told)

      by : SetDid me b i l.old to (word_seen b i l.tag l.old r0) r es → r.dying ≡ (word_seen b i l.tag l.old r0).dying
      by (Kept same memo none) = ap (λ (x : Memo). x.dying) memo
      by (Raised none some filled up) = ap (λ (x : Memo). x.dying) filled.rest
      by (Taken some other lost torn told walk) = lost.dying ∙ append-nil _

  -- a refusal as one of the two that come: nothing was done
  pub record IsUnset : Type 0 where
    pub still : IsStill p q
    pub reaches : Reaches p q
    pub works : IsWorking q

  unset : (f : SetFault) → SetLeaves (setting me b i to) r0 r tr es (Err f) → (t old : ℕ) → Untouched 0 (word_seen b i t old r0) r → es ≡ [] → IsUnset
  unset f l t old u none =
      let dying : r.dying ≡ r0.dying = ap (λ (x : Memo). x.dying) u.rest ∙ seen_dying b i t old r0 in
      record {
        still = still p q es on none (set_roots (Err f) l) dying;
        reaches = untouched_seen t old u;
        works = works p q es on (queues_quiet r0 r (set_lasts (setting me b i to) r0 r tr es (Err f) l).left) (homeless_none es none) dying;
      }

  pub set_spent : (e : ℕ) → SetLeaves (setting me b i to) r0 r tr es (Err (fault.EraSpent e)) → IsUnset
  set_spent e l = by l.stays
    where
      by : SetSpent me b i to r0 r es e l.left → IsUnset
      by (AtStep t old read other memo cause none all) = unset (fault.EraSpent e) l t old memo none
      by (AtTear t old read some other took stopped torn told walk) = absurd (untaken old torn some told)

  pub set_full : (d c : ℕ) → SetLeaves (setting me b i to) r0 r tr es (Err (fault.CountFull d c)) → IsUnset
  set_full d c l = let (x, none, all) = l.stays in unset (fault.CountFull d c) l x.tag x.old x.memo none

  -- nothing was torn down, so that it took so many word steps at most
  abbrev few : Type 0
  few = IsWithin (refer_steps p.start.geometry) tr

  within : (fs : List Event) (vs : List Visit) → frees fs + length vs ≡ 0 → IsWithin (3 + change_steps p.start.geometry.wide + tear_steps p.start.geometry.wide (frees fs + length vs)) tr → few
  within fs vs none most =
      let b : IsWithin (3 + change_steps p.start.geometry.wide + tear_steps p.start.geometry.wide 0) tr = subst (λ n. IsWithin (3 + change_steps p.start.geometry.wide + tear_steps p.start.geometry.wide n) tr) none most in
      omega (arith, b)

  pub set_within : (u : Unit {0}) → SetLeaves (setting me b i to) r0 r tr es (Ok u) → few
  set_within u l = within es [] (by l.did) (let most = l.bound in subst (λ n. IsWithin (3 + change_steps p.start.geometry.wide + tear_steps p.start.geometry.wide n) tr) (omega arith) most)
    where
      by : SetDid me b i l.old to (word_seen b i l.tag l.old r0) r es → frees es + 0 ≡ 0
      by (Kept same memo none) = ap (λ xs. frees xs + 0) none
      by (Raised none some filled up) = ap (λ xs. frees xs + 0) up
      by (Taken some other lost torn told walk) = absurd (untaken l.old torn some told)

  left_none : (fs : List Event) (vs : List Visit) → fs ≡ [] → vs ≡ [] → frees fs + length vs ≡ 0
  left_none fs vs none all = let a = ap frees none in let b = ap (λ (us : List Visit). length us) all in omega (arith, a, b)

  pub spent_within : (e : ℕ) → SetLeaves (setting me b i to) r0 r tr es (Err (fault.EraSpent e)) → few
  spent_within e l = within es l.left (by l.stays) l.bound
    where
      by : SetSpent me b i to r0 r es e l.left → frees es + length l.left ≡ 0
      by (AtStep t old read other memo cause none all) = left_none es l.left none all
      by (AtTear t old read some other took stopped torn told walk) = absurd (untaken old torn some told)

  pub full_within : (d c : ℕ) → SetLeaves (setting me b i to) r0 r tr es (Err (fault.CountFull d c)) → few
  full_within d c l = let (x, none, all) = l.stays in within es l.left (left_none es l.left none all) l.bound

  pub set_cause : (f : SetFault) → SetLeaves (setting me b i to) r0 r tr es (Err f) → SetRefused p q f
  set_cause f l = (b, i, to, within_self (λ m z t xs. SetLeaves (setting me b i to) m z t xs (Err f) × (xs ≡ [])) p q es on (l, undone f l.stays))
    where
      undone : (g : SetFault) → SetStays me b i to r0 r es l.left g → es ≡ []
      undone (fault.NotAuthor a) (t, known, is, other, memo, none, all) = none
      undone (fault.NoSuchRef c) (t, known, mine, is, under, memo, none, all) = none
      undone fault.NotHeld (t, own, held, memo, none, all) = none
      undone (fault.EraSpent e) (AtStep t old read other memo cause none all) = none
      undone (fault.EraSpent e) (AtTear t old read some other took stopped torn told walk) = absurd (untaken old torn some told)
      undone (fault.CountFull d c) (x, none, all) = none

  tag_known : (t : ℕ) → core r ≡ core (tag_seen b t r0) → Knows r (Tag b) t
  tag_known t e = subst (λ (ks : List Stored). Contains ks (record { spot = Tag b; value = t })) (sym (ap (λ (x : Memo). x.known) e)) (0, omega arith, refl)

  tag_still : (f : SetFault) → SetLeaves (setting me b i to) r0 r tr es (Err f) → (t : ℕ) → core r ≡ core (tag_seen b t r0) → es ≡ [] → IsStill p q
  tag_still f l t e none = still p q es on none (set_roots (Err f) l) (ap (λ (x : Memo). x.dying) e)

  pub set_mine : (a : ℕ) → SetLeaves (setting me b i to) r0 r tr es (Err (fault.NotAuthor a)) → ⊥
  set_mine a l =
      let (t, known, is, other, memo, none, all) = l.stays in
      other (is ∙ author_known p q es on b k n h node (tag_still (fault.NotAuthor a) l t memo none) t (tag_known t memo))

  pub set_there : (c : ℕ) → SetLeaves (setting me b i to) r0 r tr es (Err (fault.NoSuchRef c)) → ⊥
  set_there c l =
      let (t, known, own, is, high, memo, none, all) = l.stays in
      let two = refs_known p q es on b k n h node (tag_still (fault.NoSuchRef c) l t memo none) t (tag_known t memo) in
      let l2 = low in
      omega (arith, is, high, two, l2)

  pub set_held : r0.latch ≡ Some 0 → SetLeaves (setting me b i to) r0 r tr es (Err fault.NotHeld) → ⊥
  set_held held l = let (t, own, other, memo, none, all) = l.stays in other (on.working.work.idle.hold ∙ ap hold_word held)

  -- no other refusal comes
  pub set_refused : (f : SetFault) → ((e : ℕ) → f ≡ fault.EraSpent e → ⊥) → ((d c : ℕ) → f ≡ fault.CountFull d c → ⊥) → r0.latch ≡ Some 0 → SetLeaves (setting me b i to) r0 r tr es (Err f) → ⊥
  set_refused (fault.EraSpent e) spent full held l = spent e refl
  set_refused (fault.CountFull d c) spent full held l = full d c refl
  set_refused (fault.NotAuthor a) spent full held l = set_mine a l
  set_refused (fault.NoSuchRef c) spent full held l = set_there c l
  set_refused fault.NotHeld spent full held l = set_held held l
