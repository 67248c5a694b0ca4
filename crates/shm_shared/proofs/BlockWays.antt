-- what is known of an operation on single blocks between its machines, and what it leaves
use Rattle.std.proofs.Common.{◌≡◌, ◌≢◌, ◌⊎◌, ℕ, ◌<◌, ◌==◌, Bool, true, false, refl, sym, ◌∙◌, subst, cond}
use Rattle.std.proofs.lemmas.Bool.{eqb-false}
use Rattle.std.specs.Prelude.{None, Option, Some}
use Rattle.shm_words.specs.Layout.{GeometryFits}
use Rattle.shm_graph.specs.{declared.{ask.Me.Me, memo.Memo.Memo}, Agents.recovers, Held.is_loose, Idle.IsIdle}
use Rattle.shm_graph.specs.{Operations.{IsHeld, IsReady}, Reach.is_reached}
use Rattle.shm_graph.specs.declared.memo.Status.TheVariants as status
use Rattle.shm_count.specs.Waiting.{IsQuiet, LeavesQueues}
use Rattle.shm_alloc.specs.{declared.request.Request.Request, Alloc.Control.RequestFits}
use Rattle.shm_session.specs.declared.said.{Said.Said, Stage.{Stage, TheVariants.{Dead, Live, Vacant}}}
use Rattle.shm_sessions.specs.Kept.{IsLeft}
use Rattle.shm_singles.specs.declared.script.{Deed.Deed, Outcome.Outcome, Point.Point, ScriptState.ScriptState}
use Rattle.shm_singles.specs.{Numbers.ended, Singles.stands_after}
use Rattle.shm_singles.specs.declared.script.Deed.TheVariants as deed
use Rattle.shm_singles.specs.declared.script.Point.TheVariants as point
use Rattle.shm_shared.proofs.{Between.{IsBetween, still_quiet, waiting}, Lives.live_not_gone}

-- a pool for single blocks is one at any time
abbrev pub IsBlocked : Memo → Type 0
IsBlocked r = is_loose r.part ≡ true

-- ---- which operations there are

-- the operation begins at a block that a root names
abbrev pub AtBlock : Deed → Type 0
AtBlock deed.Share = Unit {0}
AtBlock deed.Read = Unit {0}
AtBlock deed.Set = Unit {0}
AtBlock deed.Clear = Unit {0}
AtBlock deed.Send = Unit {0}
AtBlock deed.Follow = Unit {0}
AtBlock d = ⊥

-- it is made under a latch
abbrev pub UnderLatch : Deed → Type 0
UnderLatch deed.Set = Unit {0}
UnderLatch deed.Clear = Unit {0}
UnderLatch deed.Follow = Unit {0}
UnderLatch d = ⊥

-- how the identity stands where it begins
abbrev pub stage_of : Deed → Stage
stage_of deed.Join = Vacant
stage_of deed.Recover = Dead
stage_of d = Live

pub block_live : (d : Deed) → AtBlock d → stage_of d ≡ Live
block_live deed.Share b = refl
block_live deed.Read b = refl
block_live deed.Set b = refl
block_live deed.Clear b = refl
block_live deed.Send b = refl
block_live deed.Follow b = refl
block_live deed.Join b = absurd b
block_live deed.Leave b = absurd b
block_live deed.Recover b = absurd b
block_live deed.Alloc b = absurd b
block_live deed.Drop b = absurd b
block_live deed.Receive b = absurd b
block_live deed.Drain b = absurd b

pub latch_block : (d : Deed) → UnderLatch d → AtBlock d
latch_block deed.Set b = tt
latch_block deed.Clear b = tt
latch_block deed.Follow b = tt
latch_block deed.Share b = absurd b
latch_block deed.Read b = absurd b
latch_block deed.Send b = absurd b
latch_block deed.Join b = absurd b
latch_block deed.Leave b = absurd b
latch_block deed.Recover b = absurd b
latch_block deed.Alloc b = absurd b
latch_block deed.Drop b = absurd b
latch_block deed.Receive b = absurd b
latch_block deed.Drain b = absurd b

-- ---- between two machines

-- what is sent or received is another identity's
abbrev pub HasPeer : Deed → ℕ → ℕ → Type 0
HasPeer deed.Send c p = c ≢ p
HasPeer deed.Receive c p = c ≢ p
HasPeer d c p = Unit {0}

-- what is asked of an allocation
abbrev pub HasRequest : Deed → Request → Type 0
HasRequest deed.Alloc q = RequestFits q
HasRequest d q = Unit {0}

-- the numbers of the operation are in their ranges
pub record IsInRange (m : ScriptState) : Type 0 where
  pub request : HasRequest m.deed m.request
  pub root : m.root < 16
  pub other : m.other < 16
  pub peer : m.peer < m.me.geometry.clients
  pub another : HasPeer m.deed m.me.who m.peer
  pub author : m.author < m.me.geometry.clients

-- a client that is between two machines and holds this latch
pub record IsOn (me : Me) (l : Option ℕ) (r : Memo) : Type 0 where
  pub ready : IsReady me r
  pub client : recovers r ≡ false
  pub loose : is_loose r.part ≡ true
  pub latch : r.latch ≡ l
  pub quiet : IsQuiet r

-- before an operation that is one machine
abbrev pub KnowsOnly : Me → Deed → Memo → Type 0
KnowsOnly me deed.Join r = GeometryFits me.geometry × (me.who < me.geometry.clients) × IsHeld me r × ((r.status ≡ status.New) ⊎ (r.status ≡ status.Gone)) × (recovers r ≡ false)
KnowsOnly me deed.Recover r = GeometryFits me.geometry × (me.who < me.geometry.clients) × (recovers r ≡ true)
KnowsOnly me deed.Leave r = IsOn me None r
KnowsOnly me deed.Alloc r = IsOn me None r
KnowsOnly me deed.Drop r = IsOn me None r
KnowsOnly me deed.Receive r = IsOn me None r
KnowsOnly me deed.Drain r = IsOn me None r
KnowsOnly me d r = ⊥

-- the block is in reach, and the other one too, if there is one
abbrev pub AreReached : ScriptState → Memo → Type 0
AreReached m r = (is_reached m.me.who r m.block ≡ true) × (m.to ≢ 0 → is_reached m.me.who r m.to ≡ true)

-- before the machine that an operation at a block is for
abbrev pub KnowsAct : ScriptState → Deed → Memo → Type 0
KnowsAct m deed.Share r = IsOn m.me None r × AreReached m r
KnowsAct m deed.Read r = IsOn m.me None r × AreReached m r
KnowsAct m deed.Send r = IsOn m.me None r × AreReached m r
KnowsAct m deed.Set r = (a : ℕ) × IsOn m.me (Some a) r × AreReached m r
KnowsAct m deed.Clear r = (a : ℕ) × IsOn m.me (Some a) r × AreReached m r
KnowsAct m deed.Follow r = (a : ℕ) × IsOn m.me (Some a) r × AreReached m r
KnowsAct m d r = ⊥

-- a client that is to give its latch back, and to say this then
pub record IsHolding (me : Me) (s : Said) (r : Memo) : Type 0 where
  pub ready : IsReady me r
  pub client : recovers r ≡ false
  pub author : ℕ
  pub latch : r.latch ≡ Some author
  pub quiet : s.code ≢ 25 → IsQuiet r

-- at each point
abbrev pub KnowsAt : ScriptState → Point → Memo → Type 0
KnowsAt m point.Only r = KnowsOnly m.me m.deed r
KnowsAt m point.Named r = IsOn m.me None r × (m.to ≡ 0) × AtBlock m.deed
KnowsAt m point.Other r = IsOn m.me None r × AreReached m r × UnderLatch m.deed
KnowsAt m point.Tagged r = IsOn m.me None r × AreReached m r × UnderLatch m.deed
KnowsAt m point.Held r = IsOn m.me None r × AreReached m r × UnderLatch m.deed
KnowsAt m point.Act r = KnowsAct m m.deed r × AtBlock m.deed
KnowsAt m point.Rooted r = ((a : ℕ) × IsOn m.me (Some a) r) × (is_reached m.me.who r m.to ≡ true) × AtBlock m.deed
KnowsAt m point.Released r = IsHolding m.me m.said r × AtBlock m.deed

-- and what holds in the end: the identity is left as the answer says
abbrev pub HasEnded : Me → Deed → Outcome → Memo → Type 0
HasEnded me d a r = is_loose r.part ≡ true → IsLeft IsBlocked (IsBetween true) me (stage_of d) (stands_after a.stands (stage_of d)) r

-- ---- what follows

-- a client goes on that still holds its latch, or took or gave one back
pub on_after : (me : Me) (l k : Option ℕ) (m r : Memo) → IsOn me l m → IsHeld me r → IsIdle me.who r → recovers r ≡ recovers m → is_loose r.part ≡ is_loose m.part → r.latch ≡ k → IsQuiet r → IsOn me k r
on_after me l k m r h held idle kind loose latch quiet =
    record {
      ready = record { geometry = h.ready.geometry; who = h.ready.who; held = held; idle = idle };
      client = kind ∙ h.client;
      loose = loose ∙ h.loose;
      latch = latch;
      quiet = quiet;
    }

pub on_still : (me : Me) (l : Option ℕ) (m r : Memo) → IsOn me l m → IsHeld me r → IsIdle me.who r → recovers r ≡ recovers m → LeavesQueues m r → r.dying ≡ m.dying → IsOn me l r
on_still me l m r h held idle kind left dying = on_after me l l m r h held idle kind left.loose (left.latch ∙ h.latch) (still_quiet m r (waiting m r left dying) h.quiet)

-- once an operation of a client has answered so it is between two, or dead where its era was spent
pub client_ended : (me : Me) (d : Deed) (s : Said) (r : Memo) → stage_of d ≡ Live → IsIdle me.who r → recovers r ≡ false → (s.code ≢ 25 → (r.latch ≡ None) × IsQuiet r) → HasEnded me d (ended s) r
client_ended me d s r live idle client rest = λ loose.
    subst (λ (t : Stage). IsLeft IsBlocked (IsBetween true) me t (stands_after (ended s).stands t) r) (sym live) (go loose (s.code == 25) (eqb-false s.code 25))
  where
    go : is_loose r.part ≡ true → (b : Bool) → (b ≡ false → s.code ≢ 25) → IsLeft IsBlocked (IsBetween true) me Live (stands_after (cond b (Some Dead) None) Live) r
    go loose true other = (live_not_gone r.status idle.live, tt)
    go loose false other =
        let h = rest (other refl) in (
          live_not_gone r.status idle.live,
          λ room. record { idle = idle; client = client; latch = h.0; dying = h.1.dying; pool = loose; unsent = h.1.unsent; untaken = h.1.untaken },
        )
