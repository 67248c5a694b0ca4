-- what machines on single blocks leave is what the next one needs, or what the operation leaves
use Rattle.std.proofs.Common.{◌≡◌, ◌≢◌, ℕ, ◌+◌, ◌<◌, ◌==◌, Bool, true, false, cond, refl, sym, ap, ◌∙◌, subst, ltb-true, nat_lt, List}
use Rattle.std.proofs.lemmas.Bool.{false≢true}
use Rattle.std.specs.Prelude.{Err, None, Ok, Option, Result, Some, slice_index}
use Rattle.shm_words.specs.Tags.{tag_author}
use Rattle.shm_graph.specs.declared.{ask.{Ask.TheVariants.Load, Me.Me}, memo.Memo.Memo, spot.Spot.TheVariants.Tag}
use Rattle.shm_graph.specs.{Agents.recovers, Asks.Trail, Core.core, Events.Event, Held.is_loose, Idle.IsIdle}
use Rattle.shm_graph.specs.{Laws.Outcome, Operations.IsHeld, Reach.is_reached}
use Rattle.shm_graph.proofs.Idles.{idle_core}
use Rattle.kind_parts.specs.WordParts.{WordLoaded}
use Rattle.plans.specs.{declared.or.Or.TheVariants.{First, Second}, Plans.PlanLaws, Words.WordLeaves}
use Rattle.shm_count.specs.{declared.answer.ShareFault.ShareFault, Proved.ShareTask.share_rests, Roots.root_word}
use Rattle.shm_count.specs.{UpRoot.UpRootLeaves, Waiting.LeavesQueues}
use Rattle.shm_count.proofs.{RootSpots.roots_reached, Waiting.same_queues}
use Rattle.shm_ref.specs.declared.answer.{Busy.Busy, LookFault.LookFault, NoSuchWord.NoSuchWord, SetFault.SetFault}
use Rattle.shm_ref.specs.{DropRoot.Control.dropping, Hold.{Control.holding, HoldLeaves}, Look.{LookLeaves, looking}}
use Rattle.shm_ref.specs.{Read.{ReadLeaves, reading}, ReadParts.tagged, Release.{Released, releasing}, RootOf.Named}
use Rattle.shm_ref.specs.SetRef.{Control.setting, SetLeaves}
use Rattle.shm_ref.specs.Proved.{LatchTasks.{hold_task, look_task, read_task, release_task}, ReadParts.reached_tagged}
use Rattle.shm_ref.specs.Proved.{RootTasks.{drop_left, left_idle, set_rests}, OnlyRead.{look_reads, read_reads}}
use Rattle.shm_ref.proofs.LatchKeeps.{hold_held, hold_loose, hold_reaches, hold_refused, hold_waiting, release_waiting}
use Rattle.shm_ref.proofs.ReadKeeps.{look_loose, look_reached, read_loose}
use Rattle.shm_ref.proofs.{RootKeeps.{drop_queues, share_dying, share_left}, SetKeeps.set_lasts}
use Rattle.shm_queue.specs.{declared.answer.SendFault.SendFault, Drain.Control.draining}
use Rattle.shm_queue.specs.{Proved.QueueTasks.{drain_rests, receive_rests, send_rests}, Receive.Control.receiving}
use Rattle.shm_queue.specs.Send.{Control.sending, SendLeaves}
use Rattle.shm_queue.specs.declared.answer.SendFault.TheVariants as send
use Rattle.shm_queue.proofs.Queues.{drain_queues, receive_queues, send_queues}
use Rattle.shm_session.specs.{declared.said.{Said.Said, Stage.TheVariants.Live}, Sessions.code_said}
use Rattle.shm_singles.specs.declared.script.{Deed.Deed, Outcome.Outcome as AOutcome, Point.Point}
use Rattle.shm_singles.specs.declared.script.ScriptState.{ScriptState}
use Rattle.shm_singles.specs.Numbers.{dropped, drained, ended, made, not_looked, queued, received, rooted, word_read, word_set}
use Rattle.shm_singles.specs.Scripts.{act_at, behind_root, found_after, is_block, part, script_after, script_turns}
use Rattle.shm_singles.specs.declared.script.Deed.TheVariants as deed
use Rattle.shm_singles.specs.declared.script.Point.TheVariants as point
use Rattle.shm_shared.proofs.{Between.{IsBetween, still_quiet}, Lives.{dead_not_gone, joined, live_not_gone, not_left}}
use Rattle.shm_shared.proofs.BlockLeft.{drain_quiet, drop_quiet, look_waits, read_waits, receive_quiet, set_quiet}
use Rattle.shm_shared.proofs.BlockPlan.{blocks_plan, calls, needs_at, stays}
use Rattle.shm_shared.proofs.Nest.{NestAnswer, in_nest, nest_control, nest_laws, nest_part, of_nest}
use Rattle.shm_shared.proofs.BlockWays.{AreReached, AtBlock, HasEnded, IsHolding, IsInRange, IsOn, KnowsAct, KnowsAt, KnowsOnly, UnderLatch, block_live, client_ended, latch_block, on_after, on_still, stage_of}

-- the same operation, at another point and other blocks
in_range : (m : ScriptState) (b to a : ℕ) (y : Point) (s : Said) → a < m.me.geometry.clients → IsInRange m → IsInRange (record m { block = b; to = to; author = a; point = y; said = s })
in_range m b to a y s low h = record { request = h.request; root = h.root; other = h.other; peer = h.peer; another = h.another; author = low }

-- a number of a block isn't 0
some_block : (me : Me) (b : ℕ) → is_block me b ≡ true → b ≢ 0
some_block me b e z = false≢true (subst (λ (n : ℕ). is_block me n ≡ true) z e)

-- from what is known at a point on: the next machine may begin, or the operation has ended
abbrev Goes : ScriptState → NestAnswer → Memo → Type 0
Goes m b r = Outcome (script_turns m (of_nest b)) (IsInRange (script_after m (of_nest b)) × KnowsAt (script_after m (of_nest b)) (script_after m (of_nest b)).point r) (λ (a : AOutcome). HasEnded m.me m.deed a r)

abbrev Leaves : ScriptState → Point → Memo → Memo → Trail → List Event → NestAnswer → Type 0
Leaves m y = (nest_part (record m { point = y })).leaves (in_nest (part m y))

module _ (rs r : Memo) (t : Trail) (ds : List Event) where
  -- ---- a root was loaded

  -- nothing changed by it
  named_on : (me : Me) (k x : ℕ) → IsOn me None rs → IsHeld me r → recovers r ≡ recovers rs → Named me k rs r t ds x → IsOn me None r
  named_on me k x h held kind w = on_still me None rs r h held (idle_core me.who rs r w.memo h.ready.idle) kind (same_queues rs r w.memo) (ap (λ (y : Memo). y.dying) w.memo)

  named_reached : (me : Me) (k x : ℕ) → k < 16 → IsOn me None rs → Named me k rs r t ds x → x ≢ 0 → is_reached me.who r x ≡ true
  named_reached me k x low h w some = roots_reached me.who r (ap (λ (y : Memo). y.op) w.memo ∙ h.ready.idle.op) k x low some (ap (λ (y : Memo). root_word me.who y k) w.memo ∙ sym w.names)

  -- the operation has ended with this
  ends_so : (me : Me) (d : Deed) (s : Said) → stage_of d ≡ Live → IsOn me None r → HasEnded me d (ended s) r
  ends_so me d s live h = client_ended me d s r live h.ready.idle h.client (λ n. (h.latch, h.quiet))

  -- the next machine is the one for the block that was found
  behind : (m : ScriptState) (d : Deed) (x : ℕ) → AtBlock d → IsOn m.me None r → is_reached m.me.who r x ≡ true → m.to ≡ 0 → KnowsAt (record m { deed = d; block = x; point = behind_root d }) (behind_root d) r
  behind m deed.Share x b h reach none = ((h, (reach, λ n. absurd (n none))), tt)
  behind m deed.Read x b h reach none = ((h, (reach, λ n. absurd (n none))), tt)
  behind m deed.Send x b h reach none = ((h, (reach, λ n. absurd (n none))), tt)
  behind m deed.Set x b h reach none = (h, (reach, λ n. absurd (n none)), tt)
  behind m deed.Clear x b h reach none = (h, (reach, λ n. absurd (n none)), tt)
  behind m deed.Follow x b h reach none = (h, (reach, λ n. absurd (n none)), tt)
  behind m deed.Join x b h reach none = absurd b
  behind m deed.Leave x b h reach none = absurd b
  behind m deed.Recover x b h reach none = absurd b
  behind m deed.Alloc x b h reach none = absurd b
  behind m deed.Drop x b h reach none = absurd b
  behind m deed.Receive x b h reach none = absurd b
  behind m deed.Drain x b h reach none = absurd b

  first_named : (m : ScriptState) (x : ℕ) → IsInRange m → KnowsAt m point.Named rs → Named m.me m.root rs r t ds x → IsHeld m.me r → recovers r ≡ recovers rs → Goes (record m { point = point.Named }) (Second (First (First (First x)))) r
  first_named m x range h w held kind = go (is_block m.me x) refl
    where
      on : IsOn m.me None r
      on = named_on m.me m.root x h.0 held kind w

      m1 : ScriptState
      m1 = record m { block = x; point = behind_root m.deed }

      m0 : ScriptState
      m0 = record m { point = point.Named }

      go : (q : Bool) → is_block m.me x ≡ q → Outcome (cond q None (Some (ended (code_said 27)))) (IsInRange (cond q m1 m0) × KnowsAt (cond q m1 m0) (cond q m1 m0).point r) (λ (a : AOutcome). HasEnded m.me m.deed a r)
      go true e = (in_range m x m.to m.author (behind_root m.deed) m.said range.author range, behind m m.deed x h.2 on (named_reached m.me m.root x range.root h.0 w (some_block m.me x e)) h.1)
      go false e = ends_so m.me m.deed (code_said 27) (block_live m.deed h.2) on

  other_named : (m : ScriptState) (x : ℕ) → IsInRange m → KnowsAt m point.Other rs → Named m.me m.other rs r t ds x → IsHeld m.me r → recovers r ≡ recovers rs → Goes (record m { point = point.Other }) (Second (First (First (First x)))) r
  other_named m x range h w held kind = go (is_block m.me x) refl
    where
      on : IsOn m.me None r
      on = named_on m.me m.other x h.0 held kind w

      m1 : ScriptState
      m1 = record m { to = x; point = point.Held }

      m0 : ScriptState
      m0 = record m { point = point.Other }

      go : (q : Bool) → is_block m.me x ≡ q → Outcome (cond q None (Some (ended (code_said 27)))) (IsInRange (cond q m1 m0) × KnowsAt (cond q m1 m0) (cond q m1 m0).point r) (λ (a : AOutcome). HasEnded m.me m.deed a r)
      go true e = (
        in_range m m.block x m.author point.Held m.said range.author range,
        (on, (ap (λ (y : Memo). is_reached m.me.who y m.block) w.memo ∙ h.1.0, λ n. named_reached m.me m.other x range.other h.0 w n), h.2),
      )
      go false e = ends_so m.me m.deed (code_said 27) (block_live m.deed (latch_block m.deed h.2)) on

  -- ---- the tag was loaded

  tag_read : (m : ScriptState) (n : ℕ) → IsInRange m → KnowsAt m point.Tagged rs → WordLeaves (WordLoaded (Tag m.block)) (record { me = m.me; ask = Load (m.block + 1); over = false }) rs r t ds n → IsHeld m.me r → recovers r ≡ recovers rs
      → Goes (record m { point = point.Tagged }) (Second (First (Second (First (First n))))) r
  tag_read m n range h w held kind = go (nat_lt author m.me.geometry.clients) (ltb-true author m.me.geometry.clients)
    where
      author : ℕ
      author = tag_author m.me.geometry.wide n

      e : core r ≡ core (tagged m.block n rs)
      e = w.found.left

      idle : IsIdle m.me.who r
      idle = let i = h.0.ready.idle in idle_core m.me.who (tagged m.block n rs) r e (record { live = i.live; op = i.op; making = i.making; hold = i.hold })

      left : LeavesQueues rs r
      left = record { latch = ap (λ (y : Memo). y.latch) e; unsent = λ j. ap (λ (y : Memo). slice_index y.unsent j) e; untaken = λ j. ap (λ (y : Memo). slice_index y.untaken j) e; loose = ap (λ (y : Memo). is_loose y.part) e }

      on : IsOn m.me None r
      on = on_still m.me None rs r h.0 held idle kind left (ap (λ (y : Memo). y.dying) e)

      reaches : (b : ℕ) → is_reached m.me.who rs b ≡ true → is_reached m.me.who r b ≡ true
      reaches b x = reached_tagged m.me.who m.block n b rs r e ∙ x

      m1 : ScriptState
      m1 = record m { author = author; point = point.Held }

      m0 : ScriptState
      m0 = record m { point = point.Tagged }

      go : (q : Bool) → (q ≡ true → author < m.me.geometry.clients) → Outcome (cond q None (Some (ended (code_said 27)))) (IsInRange (cond q m1 m0) × KnowsAt (cond q m1 m0) (cond q m1 m0).point r) (λ (a : AOutcome). HasEnded m.me m.deed a r)
      go true low = (in_range m m.block m.to author point.Held m.said (low refl) range, (on, (reaches m.block h.1.0, λ z. reaches m.to (h.1.1 z)), h.2))
      go false low = ends_so m.me m.deed (code_said 27) (block_live m.deed (latch_block m.deed h.2)) on

  -- ---- a latch was asked for

  -- what the operation is for comes next
  under_latch : (m : ScriptState) (d : Deed) (a : ℕ) → UnderLatch d → IsOn m.me (Some a) r → AreReached m r → KnowsAct (record m { deed = d; point = point.Act }) d r
  under_latch m deed.Set a u h reach = (a, h, reach)
  under_latch m deed.Clear a u h reach = (a, h, reach)
  under_latch m deed.Follow a u h reach = (a, h, reach)
  under_latch m deed.Share a u h reach = absurd u
  under_latch m deed.Read a u h reach = absurd u
  under_latch m deed.Send a u h reach = absurd u
  under_latch m deed.Join a u h reach = absurd u
  under_latch m deed.Leave a u h reach = absurd u
  under_latch m deed.Recover a u h reach = absurd u
  under_latch m deed.Alloc a u h reach = absurd u
  under_latch m deed.Drop a u h reach = absurd u
  under_latch m deed.Receive a u h reach = absurd u
  under_latch m deed.Drain a u h reach = absurd u

  module _ (m : ScriptState) (range : IsInRange m) (h : KnowsAt m point.Held rs) (held : IsHeld m.me r) (kind : recovers r ≡ recovers rs) where
    hold_on : (a : Result (Unit {0}) Busy) (l : Option ℕ) → HoldLeaves (holding m.me m.author) rs r t ds a → r.latch ≡ l → IsOn m.me l r
    hold_on a l w latch =
        on_after m.me None l rs r h.0 held (hold_task.rests (holding m.me m.author) rs r t ds a h.0.ready (refl, range.author, h.0.latch) w tt) kind
        (hold_loose (holding m.me m.author) rs r t ds a w) latch (still_quiet rs r (hold_waiting (holding m.me m.author) rs r t ds a w) h.0.quiet)

    hold_reached : (a : Result (Unit {0}) Busy) → HoldLeaves (holding m.me m.author) rs r t ds a → AreReached m r
    hold_reached a w = (hold_reaches (holding m.me m.author) rs r t ds a w m.block ∙ h.1.0, λ z. hold_reaches (holding m.me m.author) rs r t ds a w m.to ∙ h.1.1 z)

    latch_asked : (a : Result (Unit {0}) Busy) → HoldLeaves (holding m.me m.author) rs r t ds a → Goes (record m { point = point.Held }) (Second (Second (First (First a)))) r
    latch_asked (Ok u) w = (
      in_range m m.block m.to m.author point.Act m.said range.author range,
      (under_latch m m.deed m.author h.2 (hold_on (Ok u) (Some m.author) w (hold_held (holding m.me m.author) rs r t ds (Ok u) w)) (hold_reached (Ok u) w), latch_block m.deed h.2),
    )
    latch_asked (Err e) w = (
      in_range m m.block m.to m.author point.Held m.said range.author range,
      (hold_on (Err e) None w (hold_refused (holding m.me m.author) rs r t ds (Err e) w h.0.latch), hold_reached (Err e) w, h.2),
    )

  -- ---- a root was given

  share_on : (me : Me) (b : ℕ) (l : Option ℕ) (a : Result ℕ ShareFault) → IsOn me l rs → IsHeld me r → recovers r ≡ recovers rs → UpRootLeaves me b rs r t ds a → IsOn me l r
  share_on me b l a h held kind w = on_still me l rs r h held (share_rests me b rs r t ds a h.ready.idle w) kind (share_left me b rs r t ds a w) (share_dying me b rs r t ds a w)

  -- what was said under a latch is said once it is given back
  holds : (me : Me) (a : ℕ) (s : Said) → IsOn me (Some a) r → IsHolding me s r
  holds me a s h = record { ready = h.ready; client = h.client; author = a; latch = h.latch; quiet = λ n. h.quiet }

  was_rooted : (m : ScriptState) (a : Result ℕ ShareFault) → IsInRange m → KnowsAt m point.Rooted rs → IsHeld m.me r → recovers r ≡ recovers rs → UpRootLeaves m.me m.to rs r t ds a → Goes (record m { point = point.Rooted }) (Second (First (First (Second (First a))))) r
  was_rooted m a range h held kind w = (
    in_range m m.block m.to m.author point.Released (rooted m.to a) range.author range,
    (holds m.me h.0.0 (rooted m.to a) (share_on m.me m.to (Some h.0.0) a h.0.1 held kind w), h.2),
  )

  -- ---- the latch was given back

  was_released : (m : ScriptState) (u : Unit {0}) → KnowsAt m point.Released rs → IsHeld m.me r → recovers r ≡ recovers rs → Released m.me rs r t ds → Goes (record m { point = point.Released }) (Second (Second (First (Second u)))) r
  was_released m u h held kind w =
      client_ended m.me m.deed m.said r (block_live m.deed h.1) (release_task.rests (releasing m.me) rs r t ds u h.0.ready (refl, (h.0.author, h.0.latch)) w tt) (kind ∙ h.0.client)
      (λ n. (w.latch, still_quiet rs r (release_waiting m.me rs r t ds w) (h.0.quiet n)))

  -- ---- what an operation at a block is for

  module _ (m : ScriptState) (range : IsInRange m) (held : IsHeld m.me r) (kind : recovers r ≡ recovers rs) where
    -- a plain word was read
    read_on : (a : Result ℕ NoSuchWord) → IsOn m.me None rs → is_reached m.me.who rs m.block ≡ true → ReadLeaves (reading m.me m.block m.index) rs r t ds a → IsOn m.me None r
    read_on a h reach w =
        let waits = read_waits (reading m.me m.block m.index) rs r t ds a w in
        on_after m.me None None rs r h held (read_task.rests (reading m.me m.block m.index) rs r t ds a h.ready (refl, reach) w tt) kind
        (read_loose (reading m.me m.block m.index) rs r t ds a w) ((read_reads (reading m.me m.block m.index) rs r t ds a w).latch ∙ h.latch) (still_quiet rs r waits h.quiet)

    -- a reference word was looked at
    look_on : (l : Option ℕ) (a : Result ℕ LookFault) → IsOn m.me l rs → is_reached m.me.who rs m.block ≡ true → LookLeaves (looking m.me m.block m.index) rs r t ds a → IsOn m.me l r
    look_on l a h reach w =
        let waits = look_waits (looking m.me m.block m.index) rs r t ds a w in
        on_after m.me l l rs r h held (look_task.rests (looking m.me m.block m.index) rs r t ds a h.ready (refl, reach) w tt) kind
        (look_loose (looking m.me m.block m.index) rs r t ds a w) ((look_reads (looking m.me m.block m.index) rs r t ds a w).latch ∙ h.latch) (still_quiet rs r waits h.quiet)

    was_looked : (a : Result ℕ LookFault) → AtBlock m.deed → (l : ℕ) → IsOn m.me (Some l) rs → is_reached m.me.who rs m.block ≡ true → LookLeaves (looking m.me m.block m.index) rs r t ds a → Goes (record m { point = point.Act }) (Second (First (Second (Second (First a))))) r
    was_looked (Ok v) b l h reach w = go (is_block m.me v) refl
      where
        on : IsOn m.me (Some l) r
        on = look_on (Some l) (Ok v) h reach w

        go : (q : Bool) → is_block m.me v ≡ q → IsInRange (found_after (record m { point = point.Act }) v q) × KnowsAt (found_after (record m { point = point.Act }) v q) (found_after (record m { point = point.Act }) v q).point r
        go true e = (
          in_range m m.block v m.author point.Rooted m.said range.author range,
          ((l, on), look_reached (looking m.me m.block m.index) rs r t ds (Ok v) w (some_block m.me v e), b),
        )
        go false e = (in_range m m.block m.to m.author point.Released (code_said 27) range.author range, (holds m.me l (code_said 27) on, b))
    was_looked (Err f) b l h reach w = (
      in_range m m.block m.to m.author point.Released (not_looked f) range.author range,
      (holds m.me l (not_looked f) (look_on (Some l) (Err f) h reach w), b),
    )

    -- a reference word was set
    was_set : (a : Result (Unit {0}) SetFault) → AtBlock m.deed → (l : ℕ) → IsOn m.me (Some l) rs → SetLeaves (setting m.me m.block m.index m.to) rs r t ds a → Goes (record m { point = point.Act }) (Second (First (Second (Second (Second a))))) r
    was_set a b l h w = (
      in_range m m.block m.to m.author point.Released (word_set a) range.author range,
      (
        record {
          ready = record { geometry = h.ready.geometry; who = h.ready.who; held = held; idle = set_rests (setting m.me m.block m.index m.to) rs r t ds a h.ready.idle w };
          client = kind ∙ h.client;
          author = l;
          latch = (set_lasts (setting m.me m.block m.index m.to) rs r t ds a w).left.latch ∙ h.latch;
          quiet = set_quiet (setting m.me m.block m.index m.to) rs r t ds a w h.quiet;
        },
        b,
      ),
    )

    -- a block was sent
    sent_dying : (a : Result ℕ SendFault) → SendLeaves (sending m.me m.peer m.block) rs r t ds a → r.dying ≡ rs.dying
    sent_dying (Ok n) w = ap (λ (x : Memo). x.dying) w.sent.rest
    sent_dying (Err (send.QueueFull k n)) w = ap (λ (x : Memo). x.dying) w.same
    sent_dying (Err (send.EraSpent e)) w = ap (λ (x : Memo). x.dying) w.0.untouched.rest
    sent_dying (Err (send.CountFull d n)) w = ap (λ (x : Memo). x.dying) w.0.untouched.rest

    send_on : (a : Result ℕ SendFault) → IsOn m.me None rs → SendLeaves (sending m.me m.peer m.block) rs r t ds a → IsOn m.me None r
    send_on a h w =
        on_still m.me None rs r h held (send_rests (sending m.me m.peer m.block) rs r t ds a h.ready.idle w) kind (send_queues (sending m.me m.peer m.block) rs r t ds a w) (sent_dying a w)

  acts : (m : ScriptState) (d : Deed) (b : NestAnswer) → IsInRange (record m { deed = d }) → KnowsAct m d rs → AtBlock d → IsHeld m.me r → recovers r ≡ recovers rs → (nest_part (record m { deed = d; point = point.Act })).leaves (in_nest (act_at m d)) rs r t ds b → Goes (record m { deed = d; point = point.Act }) b r
  acts m deed.Share (Second (First (First (Second (First a))))) range h x held kind w = ends_so m.me deed.Share (rooted m.block a) refl (share_on m.me m.block None a h.0 held kind w)
  acts m deed.Read (Second (First (Second (First (Second a))))) range h x held kind w = ends_so m.me deed.Read (word_read m.block a) refl (read_on (record m { deed = deed.Read }) range held kind a h.0 h.1.0 w)
  acts m deed.Send (Second (Second (Second (First a)))) range h x held kind w = ends_so m.me deed.Send (queued (First a)) refl (send_on (record m { deed = deed.Send }) range held kind a h.0 w)
  acts m deed.Set (Second (First (Second (Second (Second a))))) range h x held kind w = was_set (record m { deed = deed.Set }) range held kind a tt h.0 h.1 w
  acts m deed.Clear (Second (First (Second (Second (Second a))))) range h x held kind w = was_set (record m { deed = deed.Clear }) range held kind a tt h.0 h.1 w
  acts m deed.Follow (Second (First (Second (Second (First a))))) range h x held kind w = was_looked (record m { deed = deed.Follow }) range held kind a tt h.0 h.1 h.2.0 w
  acts m deed.Join b range h x held kind w = absurd x
  acts m deed.Leave b range h x held kind w = absurd x
  acts m deed.Recover b range h x held kind w = absurd x
  acts m deed.Alloc b range h x held kind w = absurd x
  acts m deed.Drop b range h x held kind w = absurd x
  acts m deed.Receive b range h x held kind w = absurd x
  acts m deed.Drain b range h x held kind w = absurd x
  acts m d b range h x held kind w = absurd w

  -- ---- an operation that is one machine

  onlys : (m : ScriptState) (d : Deed) (b : NestAnswer) → KnowsOnly m.me d rs → IsHeld m.me r → recovers r ≡ recovers rs → (nest_part (record m { deed = d; point = point.Only })).leaves (in_nest (act_at m d)) rs r t ds b → Goes (record m { deed = d; point = point.Only }) b r
  onlys m deed.Join (First (First (First u))) h held kind w = λ loose. (let x : IsBetween true m.me r = joined m.me rs r t true h.1 h.2 h.3 (kind ∙ h.4) loose u w.gives in (live_not_gone r.status x.idle.live, λ room. x))
  onlys m deed.Recover (First (First (Second (First (Ok u))))) h held kind w = λ loose. w.status
  onlys m deed.Recover (First (First (Second (First (Err e))))) h held kind w = λ loose. (dead_not_gone r.status w.status, kind ∙ h.2)
  onlys m deed.Leave (First (First (Second (Second (Ok u))))) h held kind w = λ loose. w.status
  onlys m deed.Leave (First (First (Second (Second (Err e))))) h held kind w = λ loose. (not_left m.me rs r t ds e h.ready.idle w, tt)
  onlys m deed.Alloc (First (Second a)) h held kind w =
      let s = w.holds.stays in
      let left : LeavesQueues rs r = record { latch = s.latch; unsent = λ j. ap (λ (xs : List ℕ). slice_index xs j) s.unsent; untaken = λ j. ap (λ (xs : List ℕ). slice_index xs j) s.untaken; loose = ap is_loose s.part } in
      ends_so m.me deed.Alloc (made a) refl (on_still m.me None rs r h held w.holds.idle kind left s.dying)
  onlys m deed.Drop (Second (First (First (Second (Second a))))) h held kind w =
      client_ended m.me deed.Drop (dropped a) r refl (left_idle m.me.who (λ j. m.root == j) rs r (drop_left (dropping m.me m.root) rs r t ds a w) h.ready.idle) (kind ∙ h.client)
      (λ n. ((drop_queues (dropping m.me m.root) rs r t ds a w).latch ∙ h.latch, drop_quiet (dropping m.me m.root) rs r t ds a w h.quiet n))
  onlys m deed.Receive (Second (Second (Second (Second (First a))))) h held kind w =
      client_ended m.me deed.Receive (received a) r refl (receive_rests (receiving m.me m.peer) rs r t ds a h.ready.idle w) (kind ∙ h.client)
      (λ n. ((receive_queues (receiving m.me m.peer) rs r t ds a w).latch ∙ h.latch, receive_quiet (receiving m.me m.peer) rs r t ds a w h.quiet n))
  onlys m deed.Drain (Second (Second (Second (Second (Second a))))) h held kind w =
      client_ended m.me deed.Drain (drained a) r refl (drain_rests (draining m.me) rs r t ds a h.ready.idle w) (kind ∙ h.client)
      (λ n. ((drain_queues (draining m.me) rs r t ds a w).latch ∙ h.latch, drain_quiet (draining m.me) rs r t ds a w h.quiet n))
  onlys m deed.Share b h held kind w = absurd h
  onlys m deed.Read b h held kind w = absurd h
  onlys m deed.Set b h held kind w = absurd h
  onlys m deed.Clear b h held kind w = absurd h
  onlys m deed.Send b h held kind w = absurd h
  onlys m deed.Follow b h held kind w = absurd h
  onlys m d b h held kind w = absurd w

  -- ---- at each point

  goes_at : (m : ScriptState) (y : Point) (b : NestAnswer) → IsInRange m → KnowsAt m y rs → Leaves m y rs r t ds b → IsHeld m.me r → recovers r ≡ recovers rs → Goes (record m { point = y }) b r
  goes_at m point.Only b range h w held kind = onlys m m.deed b h held kind w
  goes_at m point.Act b range h w held kind = acts m m.deed b range h.0 h.1 held kind w
  goes_at m point.Named (Second (First (First (First x)))) range h w held kind = first_named m x range h w held kind
  goes_at m point.Other (Second (First (First (First x)))) range h w held kind = other_named m x range h w held kind
  goes_at m point.Tagged (Second (First (Second (First (First n))))) range h w held kind = tag_read m n range h w held kind
  goes_at m point.Held (Second (Second (First (First a)))) range h w held kind = latch_asked m range h held kind a w
  goes_at m point.Rooted (Second (First (First (Second (First a))))) range h w held kind = was_rooted m a range h held kind w
  goes_at m point.Released (Second (Second (First (Second u)))) range h w held kind = was_released m u h held kind w
  goes_at m y b range h w held kind = absurd w

pub blocks_laws : PlanLaws nest_control blocks_plan
blocks_laws =
    record {
      stays = stays;
      calls = calls;
      parts = nest_laws;
      opens = λ m r0 r tr es h. needs_at m r m.point h.0 h.1;
      leads = λ m r0 rs r tr t es ds b h w held kind. goes_at rs r t ds m m.point b h.0 h.1 w held kind;
    }
