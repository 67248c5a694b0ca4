-- what is owed of the operations of an identity, so that its sessions keep a pool
use Rattle.std.specs.Prelude.{◌≡◌, ◌≢◌, ◌⊎◌, ◌<◌, true, false, Ok, []}
use Rattle.shm_graph.specs.declared.{ask.Me.Me, memo.{Kind.Kind, Memo.Memo, Step.Step}, spot.Spot.TheVariants.Era}
use Rattle.shm_graph.specs.{Agents.{died, entered, recovers}, Asks.Trail, Changes.memo_after, Operations.IsHeld}
use Rattle.shm_graph.specs.Views.{own_word}
use Rattle.shm_graph.specs.declared.memo.Status.TheVariants as status
use Rattle.shm_session.specs.{declared.said.{Call.Call, Stage.Stage}, Sessions.Operations}
use Rattle.shm_session.specs.declared.said.Stage.TheVariants as stage
use Rattle.shm_sessions.specs.Logs.{HasRoom, IsCall}

-- `always` holds of a memo at any time, and `between` of one whose client has joined and is between two operations
module _ (always : Memo → Type 0) (between : Me → Memo → Type 0) where
  -- who acts where an operation begins: a client whose identity is new or gone; a client between two operations; or a recoverer
  abbrev pub MayStart : Me → Stage → Memo → Type 0
  MayStart me stage.Vacant r = ((r.status ≡ status.New) ⊎ (r.status ≡ status.Gone)) × (recovers r ≡ false)
  MayStart me stage.Live r = between me r
  MayStart me stage.Dead r = recovers r ≡ true

  -- the memo is one of a state that holds, of an identity of the pool that stands so and for which an agent acts that is at nothing
  pub record IsReady (me : Me) (t : Stage) (r : Memo) : Type 0 where
    pub who : me.who < me.geometry.clients
    pub held : IsHeld me r
    pub kept : always r
    pub may : MayStart me t r

  -- who acts where an answer leaves the identity dead, by how it stood where the operation began: a recoverer still, or a client, which dies then
  abbrev pub IsGiven : Stage → Memo → Type 0
  IsGiven stage.Vacant r = Unit {0}
  IsGiven stage.Live r = Unit {0}
  IsGiven stage.Dead r = recovers r ≡ true

  -- what holds after an answer, by how the identity stood where the operation began and how it stands then: it is gone; it isn't, and a client is between two operations, where its own era has room; or it isn't, and is dead
  abbrev pub IsLeft : Me → Stage → Stage → Memo → Type 0
  IsLeft me t stage.Vacant r = r.status ≡ status.Gone
  IsLeft me t stage.Live r = (r.status ≢ status.Gone) × (HasRoom (own_word r.own (Era me.who me.who)) → between me r)
  IsLeft me t stage.Dead r = (r.status ≢ status.Gone) × IsGiven t r

-- A call's operation is of the identity, has made no step, and fits where it begins; what it gives leaves the identity as the answer says; and what always holds, word steps, deaths and beginnings keep
pub record AreKept {S A : Type 0} (o : Operations S A) (fits : S → Memo → Memo → Trail → Type 0) (gives : S → Memo → Memo → Trail → A → Type 0) (always : Memo → Type 0) (between : Me → Memo → Type 0) : Type 0 where
  pub me : (me : Me) (t : Stage) (c : Call) (m : S) → o.begins me t c ≡ Ok m → o.control.me m ≡ me
  pub fresh : (me : Me) (t : Stage) (c : Call) (m : S) → o.begins me t c ≡ Ok m → o.control.fresh m ≡ true
  pub begins : (me : Me) (t : Stage) (c : Call) (m : S) (r : Memo) → IsCall c → o.begins me t c ≡ Ok m → IsReady always between me t r → fits m r r []
  pub leaves : (me : Me) (t : Stage) (c : Call) (m : S) (r0 r : Memo) (tr : Trail) (a : A) → IsCall c → o.begins me t c ≡ Ok m → IsReady always between me t r0 → gives m r0 r tr a → IsHeld me r → recovers r ≡ recovers r0 → always r → IsLeft always between me t (o.replies a t).stage r
  pub steps : (r : Memo) (t : Step) → always r → always (memo_after r t)
  pub dies : (r : Memo) → always r → always (died r)
  pub enters : (k : Kind) (r : Memo) → always r → always (entered k r)
