-- What a share leaves, and what a call leaves that did nothing.
use Rattle.std.proofs.Common.{◌≡◌, ◌≢◌, ℕ, List, [], ◌∷◌, append-nil, refl, sym, ap, ◌∙◌, subst, arith, eqb}
use Rattle.std.proofs.lemmas.Bool.{cond-false, ne_eqb}
use Rattle.std.specs.{Prelude.{Result, Ok, Err}, List.filter}
use Rattle.shm_graph.specs.{declared.{ask.Me.Me, memo.Memo.Memo, spot.Spot.TheVariants.{Home, Root}}, Asks.Trail}
use Rattle.shm_graph.specs.{Core.core, Events.{Event, Up}, Reach.is_reached, Views.own_word}
use Rattle.shm_plain.specs.{Calls.Did, Pools.{Pool, memo_of}}
use Rattle.shm_plain.proofs.OwnTurns.{did_none}
use Rattle.shm_count.specs.declared.answer.ShareFault.{ShareFault, TheVariants.{EraSpent, RootsFull, CountFull}}
use Rattle.shm_count.specs.{Roots.{member, root_word}, Slots.Untouched, Tear.Memos.is_slot_word, UpRoot.UpRootLeaves}
use Rattle.shm_count.specs.Waiting.{LeavesQueues}
use Rattle.shm_ref.proofs.RootKeeps.{share_dying, share_left, share_named}
use Rattle.shm_tree.specs.{Causes.{ShareRefused, Within}, Keeping.{IsShared, IsStill, KeepsNodes, made_in}}
use Rattle.shm_tree.specs.Working.{AreSameRoots, HasRoom, IsSameLatch, IsWorking, Reaches}
use Rattle.shm_tree.proofs.Alive.{IsHomeless, IsOn, IsQuiet, after, before, homeless_is, homeless_none, still, works}
use Rattle.shm_tree.proofs.{Nodes.{life_same, node_kept, trees_kept}, Reach.{reach_grows, reach_same_words}}

pub queues_quiet : (m r : Memo) → LeavesQueues m r → IsQuiet m r
queues_quiet m r h = record { loose = h.loose; unsent = h.unsent; untaken = h.untaken }

-- a call as one between two moments
pub within_self : (L : Memo → Memo → Trail → List Event → Type 0) (p q : Pool) (es : List Event) → IsOn p q es → L (memo_of p 0) (memo_of q 0) (memo_of q 0).call es → Within p q L
within_self L p q es on leaves =
    record {
      before = p;
      after = q;
      told = es;
      starts = (refl, on.start);
      runs = (on.working.run, on.run);
      to = ([], did_none 0 p p refl);
      ran = on.did;
      leaves = leaves;
      on = ([], did_none 0 q q refl);
    }

module _ (p q : Pool) (es : List Event) (on : IsOn p q es) where
  abbrev me : Me
  me = member p.start.geometry 0

  abbrev r0 : Memo
  r0 = memo_of p 0

  abbrev r : Memo
  r = memo_of q 0

  -- ---- a memo of which nothing changed, or its row alone

  pub same_roots : core r ≡ core r0 → AreSameRoots p q
  same_roots e k = ap (λ (x : Memo). own_word x.own (Root 0 k)) e

  pub same_reaches : core r ≡ core r0 → Reaches p q
  same_reaches e b reach = ap (λ (x : Memo). is_reached 0 x b) e ∙ reach

  pub untouched_roots : Untouched 0 r0 r → AreSameRoots p q
  untouched_roots u k = u.own (Root 0 k) refl

  pub untouched_reaches : Untouched 0 r0 r → Reaches p q
  untouched_reaches u b reach =
      reach_same_words 0 r0 r [] b on.working.work.idle.op on.at.idle.op (λ k. u.own (Root 0 k) refl) (u.own (Home 0) refl) (ap (λ (x : Memo). filter is_slot_word x.known) u.rest)
      (ap (λ (x : Memo). x.looks) u.rest ∙ sym (append-nil r0.looks)) reach

  -- ---- a share

  module _ (b : ℕ) where
    abbrev tr : Trail
    tr = r.call

    share_home : (a : Result ℕ ShareFault) → UpRootLeaves me b r0 r tr es a → IsHomeless es
    share_home (Ok k) h = homeless_is es (Up 0 (Root 0 k) b ∷ []) h.events (refl, tt)
    share_home (Err (EraSpent e)) h = homeless_none es h.events
    share_home (Err RootsFull) h = homeless_none es h.events
    share_home (Err (CountFull d n)) h = homeless_none es h.events

    pub share_works : (a : Result ℕ ShareFault) → UpRootLeaves me b r0 r tr es a → IsWorking q
    share_works a h = works p q es on (queues_quiet r0 r (share_left me b r0 r tr es a h)) (share_home a h) (share_dying me b r0 r tr es a h)

    pub share_latch : (a : Result ℕ ShareFault) → UpRootLeaves me b r0 r tr es a → IsSameLatch p q
    share_latch a h = (share_left me b r0 r tr es a h).latch

    share_others : (k : ℕ) → UpRootLeaves me b r0 r tr es (Ok k) → (j : ℕ) → j ≢ k → root_word 0 r j ≡ root_word 0 r0 j
    share_others k h j n = h.filled.own (Root 0 j) refl ∙ cond-false (eqb k j) b (own_word r0.own (Root 0 j)) (ne_eqb k j (λ e. n (sym e)))

    pub share_shared : (k : ℕ) → UpRootLeaves me b r0 r tr es (Ok k) → IsShared k b p q
    share_shared k h =
        let up : List Event = Up 0 (Root 0 k) b ∷ [] in
        let did : Did 0 p q up = subst (Did 0 p q) h.events on.did in
        let nodes : KeepsNodes p q = λ d i n y. node_kept p q up (before p q es on) (after p q es on) on.start did d i n y (record { freed = (refl, tt); left = (refl, tt); right = (refl, tt) }) in
        record {
          rooted = record { low = h.low; empty = h.empty; names = share_named me b r0 r tr es (Ok k) h; others = share_others k h };
          nodes = nodes;
          trees = trees_kept p q nodes;
          lives = λ d. life_same p q up (before p q es on) (after p q es on) on.start did d ((refl, refl), tt);
          made = (up, did, (let one : made_in up ≡ 0 = refl in omega (arith, one)));
        }

    share_grows : (k : ℕ) → UpRootLeaves me b r0 r tr es (Ok k) → Reaches p q
    share_grows k h d reach =
        reach_grows 0 r0 r [] [] d on.working.work.idle.op on.at.idle.op (λ j some. share_others k h j (λ e. some (ap (root_word 0 r0) e ∙ h.empty))) (h.filled.own (Home 0) refl) (ap (λ (x : Memo). x.known) h.filled.rest)
        (ap (λ (x : Memo). x.looks) h.filled.rest ∙ sym (append-nil r0.looks)) reach

    pub share_reaches : (a : Result ℕ ShareFault) → UpRootLeaves me b r0 r tr es a → Reaches p q
    share_reaches (Ok k) h = share_grows k h
    share_reaches (Err (EraSpent e)) h = same_reaches h.same
    share_reaches (Err RootsFull) h = same_reaches h.same
    share_reaches (Err (CountFull d n)) h = untouched_reaches h.untouched

    pub share_still : (f : ShareFault) → UpRootLeaves me b r0 r tr es (Err f) → IsStill p q
    share_still (EraSpent e) h = still p q es on h.events (same_roots h.same) (ap (λ (x : Memo). x.dying) h.same)
    share_still RootsFull h = still p q es on h.events (same_roots h.same) (ap (λ (x : Memo). x.dying) h.same)
    share_still (CountFull d n) h = still p q es on h.events (untouched_roots h.untouched) (ap (λ (x : Memo). x.dying) h.untouched.rest)

    pub share_room : HasRoom p → UpRootLeaves me b r0 r tr es (Err RootsFull) → ⊥
    share_room (k, low, empty) h = h.all k low empty

    pub share_cause : (f : ShareFault) → UpRootLeaves me b r0 r tr es (Err f) → ShareRefused p q f
    share_cause f h = (b, within_self (λ m n t xs. UpRootLeaves me b m n t xs (Err f)) p q es on h)
