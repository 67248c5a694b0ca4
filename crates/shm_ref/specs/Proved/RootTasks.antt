-- roots, the home and reference words as operations: when they may begin between two calls
use Rattle.std.proofs.Common.{◌≡◌, ◌≢◌, ℕ, ◌<◌, Bool, true, false, ◌==◌, nat_lt, List, [], refl, sym, ap, ◌∙◌, subst}
use Rattle.std.specs.Prelude.{Result, Ok, Err, if◌then◌else◌, ◌∷◌, ◌++◌, ◌&&◌, not}
use Rattle.shm_graph.specs.{declared.{memo.Memo.Memo, spot.Spot.TheVariants.{Body, Hold, Home}}, Agents.recovers}
use Rattle.shm_graph.specs.{Asks.Trail, Core.core, Events.Event, Held.is_loose, Idle.{IsIdle, hold_word}}
use Rattle.shm_graph.specs.{Reach.{is_reached, learnt}, MemoAfterRead.{home_read, is_held, values_read}, Views.own_word}
use Rattle.shm_graph.proofs.Idles.{idle_core}
use Rattle.plans.specs.Tasks.{IsNew, TaskLaws}
use Rattle.shm_count.specs.{declared.{answer.EraSpent.EraSpent, point.Aim.TheVariants.Up}, Step.KeepsPart}
use Rattle.shm_count.specs.Proved.{UpRoot.Laws.reach_inside, Idles.{filled_idle, took_idle, untouched_idle, is_here}}
use Rattle.shm_ref.specs.declared.{answer.{HomeFault.HomeFault, SetFault.SetFault}, drop_root.DropState.DropState}
use Rattle.shm_ref.specs.declared.{drop_roots.RootsState.RootsState, set_home.HomeState.HomeState}
use Rattle.shm_ref.specs.{declared.set_ref.SetState.SetState, DropRoot.Control.{drop_parts, dropping}}
use Rattle.shm_ref.specs.{DropRoot.{DropKnows, DropLeaves, drop_plan}, DropRoots.Control.{drop_root, dropping_roots}}
use Rattle.shm_ref.specs.{DropRoots.{RootsKnows, RootsLeaves, roots_plan}, Proved.DropRoots.Laws.roots_begin}
use Rattle.shm_ref.specs.{Proved.{LatchTasks.may_drop, ReadParts.{latch_by, reached_room}}, Lefts.Left}
use Rattle.shm_ref.specs.SetHome.{HomeKnows, HomeLeaves, HomeStays, home_parts, home_plan, homing}
use Rattle.shm_ref.specs.SetRef.{Control.{set_parts, setting}, Memos.{tag_seen, word_seen}}
use Rattle.shm_ref.specs.SetRef.{SetDid, SetKnows, SetLeaves, SetSpent, SetStays, set_plan}
use Rattle.shm_ref.specs.SetRef.{SetDid.{Kept, Raised, Taken}, SetSpent.{AtStep, AtTear}}
use Rattle.shm_ref.specs.declared.answer.HomeFault.TheVariants as home
use Rattle.shm_ref.specs.declared.answer.SetFault.TheVariants as set

-- ---- roots

-- where roots came to be empty the identity is between two calls
pub left_idle : (c : ℕ) (e : ℕ → Bool) (m r : Memo) → Left c e m r → IsIdle c m → IsIdle c r
left_idle c e m r h idle =
    record {
      live = ap (λ (x : Memo). x.status) h.rest ∙ idle.live;
      op = h.op;
      making = ap (λ (x : Memo). x.making) h.rest ∙ idle.making;
      hold = h.own (Hold c) refl refl ∙ (idle.hold ∙ ap (λ (x : Memo). hold_word x.latch) (sym h.rest));
    }

-- a root that there is may be dropped
abbrev pub DropMay : DropState → Memo → Type 0
DropMay m r = (m ≡ dropping m.me m.root) × (m.root < 16)

pub drop_left : (m : DropState) (r0 r : Memo) (tr : Trail) (es : List Event) (a : Result Bool EraSpent) → DropLeaves m r0 r tr es a → Left m.me.who (λ j. m.root == j) r0 r
drop_left m r0 r tr es (Ok z) h = h.left
drop_left m r0 r tr es (Err e) h = h.1.left

pub drop_task : TaskLaws drop_parts drop_plan DropMay (λ m a. Unit {0})
drop_task =
    record {
      new = λ m r h. subst (IsNew drop_parts drop_plan) (sym h.0) (record { first = refl; start = refl; fresh = refl });
      begins = λ m r ready h. subst (λ (x : DropState). DropKnows m x.point r r [] []) (sym h.0) (may_drop m.me r ready, h.1, refl, refl, refl);
      rests = λ m r0 r tr es a ready h l e. left_idle m.me.who (λ j. m.root == j) r0 r (drop_left m r0 r tr es a l) ready.idle;
    }

-- ---- the home

-- a client may set the own home to a block in reach, where that keeps the partition if the home is empty
abbrev pub HomeMay : HomeState → Memo → Type 0
HomeMay m r = (m ≡ homing m.me m.block) × (recovers r ≡ false) × (is_reached m.me.who r m.block ≡ true) × (own_word r.own (Home m.me.who) ≡ 0 → KeepsPart m.me.geometry.wide m.me.who r (Up m.block) (Home m.me.who))

-- a home that was read leaves it between two calls
home_read_idle : (c x : ℕ) (m : Memo) → IsIdle c m → IsIdle c (home_read m c x)
home_read_idle c x m idle = by ((is_held m.latch c) && not (x == 0))
  where
    by : (q : Bool) → IsIdle c (if q then record m { looks = m.looks ++ record { block = x; from = Home c } ∷ [] } else m)
    by true = record { live = idle.live; op = idle.op; making = idle.making; hold = idle.hold }
    by false = idle

pub home_rests : (m : HomeState) (r0 r : Memo) (tr : Trail) (es : List Event) (a : Result (Unit {0}) HomeFault) → IsIdle m.me.who r0 → HomeLeaves m r0 r tr es a → IsIdle m.me.who r
home_rests m r0 r tr es (Ok done) idle h = filled_idle m.me.who (Home m.me.who) m.block r0 r h.filled idle
home_rests m r0 r tr es (Err f) idle h = by f h.stays
  where
    by : (f2 : HomeFault) → HomeStays m.me m.block r0 r f2 → IsIdle m.me.who r
    by (home.HomeSet x) s = idle_core m.me.who (home_read r0 m.me.who x) r s.2 (home_read_idle m.me.who x r0 idle)
    by (home.EraSpent e) s = untouched_idle m.me.who r0 r s.1 idle
    by (home.CountFull d n) s = untouched_idle m.me.who r0 r s.1 idle

pub home_task : TaskLaws home_parts home_plan HomeMay (λ m a. Unit {0})
home_task =
    record {
      new = λ m r h. subst (IsNew home_parts home_plan) (sym h.0) (record { first = refl; start = refl; fresh = refl });
      begins = λ m r ready h. subst (λ (x : HomeState). HomeKnows m x.point r r [] []) (sym h.0) (
        record {
          geometry = ready.geometry;
          who = ready.who;
          here = is_here m.me.who r ready.idle;
          idle = ready.idle.op;
          client = h.1;
          inside = reach_inside m.me m.block r ready.held ready.who h.2;
          reach = h.2;
          part = h.3;
        },
        refl,
        refl,
        refl,
      );
      rests = λ m r0 r tr es a ready h l e. home_rests m r0 r tr es a ready.idle l;
    }

-- ---- reference words

-- in a pool for single calls a client may set a word of a block in reach to a block in reach, or to none
abbrev pub SetMay : SetState → Memo → Type 0
SetMay m r = (m ≡ setting m.me m.block m.word m.to) × (recovers r ≡ false) × (is_loose r.part ≡ true) × (is_reached m.me.who r m.block ≡ true) × (m.to ≢ 0 → is_reached m.me.who r m.to ≡ true)

-- a tag or a word that was read leaves it between two calls
word_idle : (c b k t x : ℕ) (m : Memo) → IsIdle c m → IsIdle c (word_seen b k t x m)
word_idle c b k t x m idle = by (x == 0)
  where
    m0 : Memo
    m0 = tag_seen b t m

    by : (q : Bool) → IsIdle c (if q then record m0 { known = learnt (Body b k) x m0.known } else record m0 { looks = m0.looks ++ record { block = x; from = Body b k } ∷ []; known = learnt (Body b k) x m0.known; values = values_read m0 b k x })
    by true = record { live = idle.live; op = idle.op; making = idle.making; hold = idle.hold }
    by false = record { live = idle.live; op = idle.op; making = idle.making; hold = idle.hold }

tag_idle : (c b t : ℕ) (m r : Memo) → core r ≡ core (tag_seen b t m) → IsIdle c m → IsIdle c r
tag_idle c b t m r e idle = idle_core c (tag_seen b t m) r e (record { live = idle.live; op = idle.op; making = idle.making; hold = idle.hold })

pub set_rests : (m : SetState) (r0 r : Memo) (tr : Trail) (es : List Event) (a : Result (Unit {0}) SetFault) → IsIdle m.me.who r0 → SetLeaves m r0 r tr es a → IsIdle m.me.who r
set_rests m r0 r tr es (Ok done) idle h = by h.old h.did
  where
    c : ℕ
    c = m.me.who

    by : (old : ℕ) → SetDid m.me m.block m.word old m.to (word_seen m.block m.word h.tag h.old r0) r es → IsIdle c r
    by old (Kept same memo none) = idle_core c (word_seen m.block m.word h.tag h.old r0) r memo (word_idle c m.block m.word h.tag h.old r0 idle)
    by old (Raised empty some filled up) = filled_idle c (Body m.block m.word) m.to (word_seen m.block m.word h.tag h.old r0) r filled (word_idle c m.block m.word h.tag h.old r0 idle)
    by old (Taken some other lost torn told walk) = took_idle c (Body m.block m.word) false old m.to false (word_seen m.block m.word h.tag h.old r0) r lost.took (word_idle c m.block m.word h.tag h.old r0 idle)
set_rests m r0 r tr es (Err f) idle h = by f h.stays
  where
    c : ℕ
    c = m.me.who

    spent : (e : ℕ) → SetSpent m.me m.block m.word m.to r0 r es e h.left → IsIdle c r
    spent e (AtStep tag old read other memo cause none all) = untouched_idle c (word_seen m.block m.word tag old r0) r memo (word_idle c m.block m.word tag old r0 idle)
    spent e (AtTear tag old read some other took stopped torn told walk) = took_idle c (Body m.block m.word) false old m.to false (word_seen m.block m.word tag old r0) r took (word_idle c m.block m.word tag old r0 idle)

    by : (f2 : SetFault) → SetStays m.me m.block m.word m.to r0 r es h.left f2 → IsIdle c r
    by (set.NotAuthor a) s = tag_idle c m.block s.0 r0 r s.4 idle
    by (set.NoSuchRef n) s = tag_idle c m.block s.0 r0 r s.5 idle
    by set.NotHeld s = tag_idle c m.block s.0 r0 r s.3 idle
    by (set.EraSpent e) s = spent e s
    by (set.CountFull d n) s = untouched_idle c (word_seen m.block m.word s.0.tag s.0.old r0) r s.0.memo (word_idle c m.block m.word s.0.tag s.0.old r0 idle)

pub set_task : TaskLaws set_parts set_plan SetMay (λ m a. Unit {0})
set_task =
    record {
      new = λ m r h. subst (IsNew set_parts set_plan) (sym h.0) (record { first = refl; start = refl; fresh = refl });
      begins = λ m r ready h. subst (λ (x : SetState). SetKnows m x.point r r [] []) (sym h.0) (
        record {
          geometry = ready.geometry;
          who = ready.who;
          here = is_here m.me.who r ready.idle;
          idle = ready.idle.op;
          client = h.1;
          loose = h.2;
          room = reached_room m.me m.block r ready.who ready.held h.3;
          reach = h.3;
          target = λ some. (reach_inside m.me m.to r ready.held ready.who (h.4 some), h.4 some);
          latch = λ held. latch_by r.latch m.me.who (sym ready.idle.hold ∙ held);
        },
        refl,
        refl,
        refl,
      );
      rests = λ m r0 r tr es a ready h l e. set_rests m r0 r tr es a ready.idle l;
    }

-- ---- all roots

-- they may be dropped
abbrev pub RootsMay : RootsState → Memo → Type 0
RootsMay m r = m ≡ dropping_roots m.me

roots_left : (m : RootsState) (r0 r : Memo) (tr : Trail) (es : List Event) (a : Result (Unit {0}) EraSpent) → RootsLeaves m r0 r tr es a → Left m.me.who (λ j. nat_lt j 16) r0 r
roots_left m r0 r tr es (Ok done) h = h.left
roots_left m r0 r tr es (Err e) h = h.1.left

pub roots_task : TaskLaws drop_root roots_plan RootsMay (λ m a. Unit {0})
roots_task =
    record {
      new = λ m r h. subst (IsNew drop_root roots_plan) (sym h) (record { first = refl; start = refl; fresh = refl });
      begins = λ m r ready h. subst (λ (x : RootsState). RootsKnows x r r [] []) (sym h) (roots_begin m.me r (may_drop m.me r ready));
      rests = λ m r0 r tr es a ready h l e. left_idle m.me.who (λ j. nat_lt j 16) r0 r (roots_left m r0 r tr es a l) ready.idle;
    }
