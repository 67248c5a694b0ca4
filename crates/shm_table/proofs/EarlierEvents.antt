-- no step before the deciding one is an event by which a key comes to have a value block, or goes
use Rattle.std.proofs.Common.{◌≡◌, ◌≢◌, ℕ, ◌%◌, ◌<◌, Bool, true, false, refl, sym, ap, ◌∙◌, subst, arith, List, inl, inr}
use Rattle.std.proofs.lemmas.Bool.{true≢false}
use Rattle.std.specs.Prelude.{◌==◌, if◌then◌else◌, None}
use Rattle.shm_graph.specs.declared.{ask.Me.Me, memo.{Memo.Memo, Op.TheVariants.Nothing}, spot.Spot.Spot}
use Rattle.shm_graph.specs.declared.{spot.Spot.TheVariants.{Body, Home, Root, Slot, Tag}, table.Part.Part}
use Rattle.shm_graph.specs.{declared.table.Part.TheVariants.{Loose, Table}, Asks.Trail, Events.Event}
use Rattle.shm_graph.specs.{Held.{HeldAt, PartTie, is_loose}, Ops.cover_of, Tables.{IsPartition, contents_of}}
use Rattle.shm_graph.specs.Views.{own_word, targets, view}
use Rattle.shm_graph.specs.Events as event
use Rattle.shm_words.specs.Tags.{tag_refs}
use Rattle.plans.specs.{declared.or.Or.TheVariants.{First, Second}, CallsControl.calls_does, CallsFit.CallsFits}
use Rattle.plans.specs.Parts.{IsHeld}
use Rattle.shm_alloc.specs.{declared.point.AllocPoint.AllocPoint, Alloc.Events.alloc_event_at}
use Rattle.shm_alloc.specs.declared.point.AllocPoint.TheVariants as alloc
use Rattle.shm_count.specs.declared.{point.{Aim.Aim, Half.Half, StepPoint.StepPoint}, tear_point.TearPoint.TearPoint}
use Rattle.shm_count.specs.declared.up_root.{RootingPoint.RootingPoint, RootingState.RootingState}
use Rattle.shm_count.specs.Step.{Events.{event_of_half, step_event_at}, ExchangeMade.exchanging_at}
use Rattle.shm_count.specs.{Tear.Events.tear_event_at, UpRoot.AsPart.RootingCalls}
use Rattle.shm_count.specs.UpRoot.{Control.{RootingCall, rooting_parts}, rooting_part, rooting_plan}
use Rattle.shm_count.specs.declared.point.Aim.TheVariants as aims
use Rattle.shm_count.specs.declared.point.Half.TheVariants as part
use Rattle.shm_count.specs.declared.point.StepPoint.TheVariants as point
use Rattle.shm_count.specs.declared.tear_point.TearPoint.TheVariants as tear
use Rattle.shm_count.specs.declared.up_root.RootingPoint.TheVariants as rooting_at
use Rattle.shm_ref.specs.{DropRoot.{Control.drop_parts, drop_plan}, DropRoots.Control.RootsCall}
use Rattle.shm_script.specs.declared.log.Answer.TheVariants as answer
use Rattle.kind_parts.specs.{Walking.IsVacant, Reparting.{IsTagged, chain_in, sight}}
use Rattle.kind_parts.proofs.Partitions.Reparted.{home_so, tagged_own}
use Rattle.shm_table.specs.declared.{copy.CopyState.CopyState, enter.{EnterPoint.EnterPoint, EnterState.EnterState}}
use Rattle.shm_table.specs.declared.{open_table.{OpenPoint.OpenPoint, OpenState.OpenState}, put.PutState.PutState}
use Rattle.shm_table.specs.declared.{put_root.PutRootState.PutRootState, recv.RecvState.RecvState}
use Rattle.shm_table.specs.declared.{replace.ReplaceState.ReplaceState, unlink.UnlinkState.UnlinkState}
use Rattle.shm_table.specs.declared.del.DelState.{DelState}
use Rattle.shm_table.specs.CopyKey.{Control.{CopyCall, CopyCalls, FetchCalls, copy_parts}, copy_part, copy_plan}
use Rattle.shm_table.specs.{Cutting.Cuts, Del.{Control.{DelCall, DelCalls, del_parts}, del_part, del_plan}}
use Rattle.shm_table.specs.Effects.{copy_at, copy_by, copy_effect, copy_home, del_at, del_by, del_effect, enter_at, enter_by, enter_decided, put_at, put_by, put_effect, put_home, put_root_at, put_root_by, put_root_decided, recv_at, recv_by, recv_effect, recv_home, replace_at, replace_by, replace_decided, unlink_at, unlink_by}
use Rattle.shm_table.specs.Enter.Control.{EnterCall, enter_parts, enter_spot}
use Rattle.shm_table.specs.Enter.{EnterKnows, IsMade, IsOnTheWay, enter_part, enter_plan}
use Rattle.shm_table.specs.Fetch.{Control.{FetchCall, fetch_parts}, fetch_plan}
use Rattle.shm_table.specs.FetchHead.{Control.{FetchHeadCall, fetch_head_parts}, fetch_head_plan}
use Rattle.shm_table.specs.Locate.{Control.{LocateCall, locate_parts, LocateCalls}, locate_part, locate_plan}
use Rattle.shm_table.specs.OpenTable.{Control.{OpenCall, open_parts}, open_plan}
use Rattle.shm_table.specs.Put.{Control.{PutCall, PutCalls, put_parts}, put_part, put_plan}
use Rattle.shm_table.specs.PutRoot.Control.{EnterCalls, OpenCalls, PutRootCall, PutRootCalls, ReplaceCalls, put_root_parts}
use Rattle.shm_table.specs.PutRoot.{DecidesMap, Begins, Leads, Replaces, put_root_part, put_root_plan}
use Rattle.shm_table.specs.RecvKey.Control.{FetchHeadCalls, RecvCall, RecvCalls, TakeHeadCalls, recv_parts}
use Rattle.shm_table.specs.{RecvKey.{recv_part, recv_plan}, Replace.Control.{ReplaceCall, replace_parts}}
use Rattle.shm_table.specs.{Replace.replace_plan, TakeHead.{Control.{TakeHeadCall, take_head_parts}, take_head_plan}}
use Rattle.shm_table.specs.Unlink.{Control.{UnlinkCall, unlink_parts, UnlinkCalls}, unlink_plan}
use Rattle.shm_table.specs.declared.enter.EnterPoint.TheVariants as entering
use Rattle.shm_table.specs.declared.open_table.OpenPoint.TheVariants as opening
use Rattle.shm_table.proofs.DecidingEvents.{CopyAims, EnterAims, PutAims, RecvAims, RootAims, RootOf, copy_aims, enter_aims, not_shown, put_aims, recv_aims, root_aims}

-- ---- events that change no map

-- the block of such a word
abbrev block_in : Spot → ℕ
block_in (Body b i) = b
block_in p = 0

abbrev is_word : Spot → Bool
is_word (Body b i) = true
is_word p = false

-- no word of a block comes to name a block
abbrev IsCalm : Event → Type 0
IsCalm (event.Up c p x) = is_word p ≡ false
IsCalm (event.ChangeUp c p x y) = is_word p ≡ false
IsCalm e = Unit {0}

-- what an event tells by which a key comes to have a value block: the word that changes
abbrev Told : ℕ → ℕ → Event → Type 0
Told key home (event.Up c p x) = p ≡ Body home (key % 16)
Told key home (event.ChangeUp c p x y) = (b : ℕ) × (i : ℕ) × (p ≡ Body b i)
Told key home e = ⊥

told : {c key home v : ℕ} {e : Event} → DecidesMap c key home v e → Told key home e
told {c} {key} {home} {v} (Begins x) = refl
told {c} {key} {home} {v} (Leads f x) = (home, key % 16, refl)
told {c} {key} {home} {v} (Replaces x old) = (x, 1, refl)

word_not : (p : Spot) (b i : ℕ) → p ≡ Body b i → is_word p ≡ false → ⊥
word_not p b i e f = let k : true ≡ false = sym (ap is_word e) ∙ f in cc

calm_told : (key home : ℕ) (e : Event) → IsCalm e → Told key home e → ⊥
calm_told key home (event.Up c p x) f t = word_not p home (key % 16) t f
calm_told key home (event.ChangeUp c p x y) f t = word_not p t.0 t.1 t.2 f
calm_told key home _ f t = t

-- ---- count steps

-- a step that isn't the exchange that finds its header is no event
quiet_step : (me : Me) (x : Aim) (p : Spot) (y : StepPoint) (n : ℕ) → exchanging_at y n ≡ false → step_event_at me x p y n ≡ event.Nothing
quiet_step me x p (point.Exchange e h w) n f = ap (λ z. if z then event_of_half me x p h else event.Nothing) f
quiet_step me x p _ n f = refl

-- what holds of the event of its exchange and of none holds of its event
any_step : (P : Event → Type 0) (me : Me) (x : Aim) (p : Spot) (y : StepPoint) (n : ℕ) → ((h : Half) → P (event_of_half me x p h)) → P event.Nothing → P (step_event_at me x p y n)
any_step P me x p (point.Exchange e h w) n f z = go (n == w)
  where
    go : (b : Bool) → P (if b then event_of_half me x p h else event.Nothing)
    go true = f h
    go false = z
any_step P me x p point.Era n f z = z
any_step P me x p (point.More e) n f z = z
any_step P me x p (point.Redo e) n f z = z
any_step P me x p (point.Load e h) n f z = z
any_step P me x p (point.Row e h w) n f z = z
any_step P me x p (point.Show e h w) n f z = z
any_step P me x p (point.Slot e b) n f z = z
any_step P me x p (point.Close e h b) n f z = z
any_step P me x p point.Over n f z = z

-- a step at a word of no block
calm_half : (me : Me) (x : Aim) (p : Spot) (h : Half) → is_word p ≡ false → IsCalm (event_of_half me x p h)
calm_half me (aims.Down b) p h f = tt
calm_half me (aims.Change a b) p part.Second f = tt
calm_half me _ p _ f = f

calm_step : (me : Me) (x : Aim) (p : Spot) (y : StepPoint) (n : ℕ) → is_word p ≡ false → IsCalm (step_event_at me x p y n)
calm_step me x p y n f = any_step IsCalm me x p y n (λ h. calm_half me x p h f) tt

-- a step up at a word tells that word
up_told : (me : Me) (x : Aim) (p : Spot) (y : StepPoint) (n b key home : ℕ) → x ≡ aims.Up b → Told key home (step_event_at me x p y n) → p ≡ Body home (key % 16)
up_told me x p y n b key home is t = any_step (λ e. Told key home e → p ≡ Body home (key % 16)) me (aims.Up b) p y n (λ h s. s) (λ s. absurd s) (subst (λ z. Told key home (step_event_at me z p y n)) is t)

calm_tear : (me : Me) (b : ℕ) (y : TearPoint) (n : ℕ) → IsCalm (tear_event_at me b y n)
calm_tear me b (tear.Down g i t y) n = any_step IsCalm me (aims.Down t) (Body b i) y n (λ h. tt) tt
calm_tear me b (tear.Free g) n = tt
calm_tear me b y n = tt

calm_alloc : (me : Me) (y : AllocPoint) (n : ℕ) → IsCalm (alloc_event_at me y n)
calm_alloc me (alloc.Commit g b) n = tt
calm_alloc me y n = tt

-- ---- machines that change no map

calm_drop : (c : RootsCall) (n : ℕ) → IsCalm (calls_does drop_parts drop_plan c n)
calm_drop c n = go c.call
  where
    go : (x : _) → IsCalm ((drop_plan.part c.plan).does x n)
    go (First w) = tt
    go (Second (First s)) = calm_step s.me s.aim (Root c.plan.me.who c.plan.root) s.point n refl
    go (Second (Second u)) = calm_tear u.me u.block u.point n

calm_rooting : (c : RootingCalls) (n : ℕ) → IsCalm (calls_does rooting_parts rooting_plan c n)
calm_rooting c n = go c.plan c.plan.point c.call
  where
    go : (m : RootingState) (y : RootingPoint) (x : RootingCall) → IsCalm ((rooting_part m y).does x n)
    go m rooting_at.Era (First w) = tt
    go m rooting_at.Era (Second s) = calm_step s.me s.aim (Root m.me.who m.root) s.point n refl
    go m y (First w) = tt
    go m y (Second s) = calm_step s.me s.aim (Root m.me.who m.root) s.point n refl

calm_locate : (c : LocateCalls) (n : ℕ) → IsCalm (calls_does locate_parts locate_plan c n)
calm_locate c n = go c.call
  where
    go : (x : LocateCall) → IsCalm (locate_part.does x n)
    go (First w) = tt
    go (Second w) = tt

calm_open : (c : OpenCalls) (n : ℕ) → IsCalm (calls_does open_parts open_plan c n)
calm_open c n = go c.plan c.plan.point c.call
  where
    go : (m : OpenState) (y : OpenPoint) (x : OpenCall) → IsCalm ((open_plan.part (record m { point = y })).does x n)
    go m y (First w) = tt
    go m y (Second (First a)) = calm_alloc a.me a.point n
    go m opening.Name (Second (Second (First s))) = calm_step s.me s.aim (Home m.me.who) s.point n refl
    go m y (Second (Second (First s))) = calm_step s.me s.aim (Home m.me.who) s.point n refl
    go m y (Second (Second (Second w))) = calm_drop w n

calm_fetch : (c : FetchCalls) (n : ℕ) → IsCalm (calls_does fetch_parts fetch_plan c n)
calm_fetch c n = go c.call
  where
    go : (x : FetchCall) → IsCalm ((fetch_plan.part c.plan).does x n)
    go (First w) = calm_locate w n
    go (Second (Second (First w))) = calm_rooting w n
    go (Second _) = tt

calm_fetch_head : (c : FetchHeadCalls) (n : ℕ) → IsCalm (calls_does fetch_head_parts fetch_head_plan c n)
calm_fetch_head c n = go c.call
  where
    go : (x : FetchHeadCall) → IsCalm ((fetch_head_plan.part c.plan).does x n)
    go (First w) = tt
    go (Second w) = calm_rooting w n

calm_take : (c : TakeHeadCalls) (n : ℕ) → IsCalm (calls_does take_head_parts take_head_plan c n)
calm_take c n = go c.call
  where
    go : (x : TakeHeadCall) → IsCalm ((take_head_plan.part c.plan).does x n)
    go (First w) = tt
    go (Second s) = calm_step s.me s.aim (Slot c.plan.from c.plan.me.who (c.plan.at % 8)) s.point n refl

-- ---- an entry has another value block

replace_quiet : (c : ReplaceCalls) (n : ℕ) → replace_decided c ≡ false → replace_by c.plan c.call n ≡ false → calls_does replace_parts replace_plan c n ≡ event.Nothing
replace_quiet c n d b = go c.plan c.call d b
  where
    go : (m : ReplaceState) (x : ReplaceCall) → replace_at m x ≡ false → replace_by m x n ≡ false → (replace_plan.part m).does x n ≡ event.Nothing
    go m (First w) d b = refl
    go m (Second (First s)) d b = quiet_step s.me s.aim (Body m.entry 1) s.point n b
    go m (Second (Second u)) d b = cc

-- ---- a new entry begins the chain of its bucket

-- the block that is to be the entry is no directory, by their shapes
entry_apart : (me : Me) (key v n home first k b next value : ℕ) (r0 r : Memo) → IsMade me key v n home first k b next value r0 r → b ≢ home
entry_apart me key v n home first k b next value r0 r h same = go h.holds
  where
    go : IsHeld me r → ⊥
    go (w, rs, held, at) =
        let l = h.may.who in
        let quiet : cover_of (rs me.who).op ≡ cover_of Nothing = ap (λ (x : Memo). cover_of x.op) at ∙ ap cover_of h.keeps.idle.op in
        let vacant : IsVacant me.who (rs me.who) key first = subst (λ (x : Memo). IsVacant me.who x key first) (sym at) h.vacant in
        let tagged : IsTagged me.geometry.wide me.who (sight me.who (rs me.who)) b 2 1 = subst (λ (x : Memo). IsTagged me.geometry.wide me.who (sight me.who x) b 2 1) (sym at) h.coming.entry.tagged in
        let directory : own_word (rs me.who).own (Home me.who) ≡ home = ap (λ (x : Memo). own_word x.own (Home me.who)) at ∙ h.directory in
        let entry = (tagged_own me.geometry w rs me.who held l b 2 1 tagged).shape.names in
        let shape = (partition_of w rs held l quiet vacant.table).shape vacant.some in
        let other = shape.names in
        let is : b ≡ own_word (rs me.who).own (Home me.who) = same ∙ sym directory in
        let two = ap (λ (i : ℕ). tag_refs me.geometry.wide (w (Tag i))) is in
        omega arith
      where
        partition_of : (w : Spot → ℕ) (rs : ℕ → Memo) (held : HeldAt me.geometry w (view rs)) (l : me.who < me.geometry.clients) → cover_of (rs me.who).op ≡ cover_of Nothing → is_loose (rs me.who).part ≡ false
            → IsPartition (contents_of me.geometry.wide w (targets me.geometry w (view rs))) me.who (own_word (rs me.who).own (Home me.who)) (chain_in (rs me.who).part)
        partition_of w rs held l quiet table = subst (λ a. IsPartition (contents_of me.geometry.wide w (targets me.geometry w (view rs))) me.who a (chain_in (rs me.who).part)) (home_so me.geometry w rs me.who held l quiet) (of (rs me.who).part table (held.part me.who l))
          where
            of : (y : Part) → is_loose y ≡ false → PartTie (contents_of me.geometry.wide w (targets me.geometry w (view rs))) me.who (targets me.geometry w (view rs) (Home me.who)) y → IsPartition (contents_of me.geometry.wide w (targets me.geometry w (view rs))) me.who (targets me.geometry w (view rs) (Home me.who)) (chain_in y)
            of Loose e tie = absurd (true≢false e)
            of (Table chains) e tie = tie

-- a step at a word of the entry
at_entry : (m : EnterState) (next value i : ℕ) (r0 r : Memo) → IsOnTheWay m next value r0 r → Body m.entry i ≡ Body m.home (m.key % 16) → ⊥
at_entry m next value i r0 r (n, h) e = entry_apart m.me m.key m.value n m.home m.first m.root m.entry next value r0 r h (ap block_in e)

enter_earlier : (c : EnterCalls) (rs r : Memo) (t : Trail) (n v : ℕ) → CallsFits enter_parts enter_plan c rs r t → enter_decided c ≡ false → enter_by c.plan c.call n ≡ false → DecidesMap c.plan.me.who c.plan.key c.plan.home v (calls_does enter_parts enter_plan c n) → ⊥
enter_earlier c rs r t n v f d b x = go c.plan c.plan.point c.call (enter_aims c f.t f.there) rs f.rs f.before f.es f.knows d b (told x)
  where
    go : (m : EnterState) (y : EnterPoint) (x : EnterCall) → EnterAims m y x → (r0 r : Memo) (tr : Trail) (es : List Event) → EnterKnows (record m { point = y }) y r0 r tr es → enter_at (record m { point = y }) x ≡ false → enter_by (record m { point = y }) x n ≡ false
        → Told m.key m.home ((enter_part m y).does x n) → ⊥
    go m y (First a) q r0 r tr es h d b z = calm_told m.key m.home _ (calm_alloc a.me a.point n) z
    go m entering.Value (Second (First s)) q r0 r tr es h d b z = at_entry m 0 0 1 r0 r h.0 (up_told s.me s.aim (Body m.entry 1) s.point n m.value m.key m.home q.1 z)
    go m entering.Next (Second (First s)) q r0 r tr es h d b z = at_entry m 0 m.value 0 r0 r h.1 (up_told s.me s.aim (Body m.entry 0) s.point n m.first m.key m.home q.1 z)
    go m entering.Make (Second (First s)) q r0 r tr es h d b z = subst (Told m.key m.home) (quiet_step s.me s.aim (enter_spot m entering.Make) s.point n b) z
    go m entering.Link (Second (First s)) q r0 r tr es h d b z = subst (Told m.key m.home) (quiet_step s.me s.aim (enter_spot m entering.Link) s.point n b) z
    go m entering.Change (Second (First s)) q r0 r tr es h d b z = subst (Told m.key m.home) (quiet_step s.me s.aim (enter_spot m entering.Change) s.point n b) z
    go m y (Second (Second s)) q r0 r tr es h d b z = subst (Told m.key m.home) (quiet_step s.me s.aim (enter_spot m y) s.point n b) z

-- ---- a value block comes into the own table

pub put_root_earlier : (m : PutRootCalls) (r0 r : Memo) (tr : Trail) (n v : ℕ) → CallsFits put_root_parts put_root_plan m r0 r tr → put_root_decided m ≡ false → put_root_by m.plan m.call n ≡ false → DecidesMap m.plan.me.who m.plan.key m.plan.home v (calls_does put_root_parts put_root_plan m n) → ⊥
put_root_earlier m r0 r tr n v fit d b x = go m.plan m.call fit.rs r fit.t (root_aims m fit.t fit.there) fit.fits d b x
  where
    go : (p : PutRootState) (x : PutRootCall) (rs r : Memo) (t : Trail) → RootAims p x → put_root_part.fits x rs r t → put_root_at p x ≡ false → put_root_by p x n ≡ false → DecidesMap p.me.who p.key p.home v (put_root_part.does x n) → ⊥
    go p (First (First w)) rs r t q f d b z = calm_told p.key p.home _ (calm_open w n) (told z)
    go p (First (Second w)) rs r t q f d b z = calm_told p.key p.home _ (calm_locate w n) (told z)
    go p (Second (First (First c))) rs r t q f d b z = subst (Told p.key p.home) (replace_quiet c n d b) (told z)
    go p (Second (First (Second c))) rs r t (i, j, k) f d b z =
        enter_earlier c rs r t n v f d b
        (subst (λ (y : Me). DecidesMap y.who c.plan.key c.plan.home v (calls_does enter_parts enter_plan c n)) (sym i)
        (subst (λ y. DecidesMap p.me.who y c.plan.home v (calls_does enter_parts enter_plan c n)) (sym j)
        (subst (λ y. DecidesMap p.me.who p.key y v (calls_does enter_parts enter_plan c n)) (sym k) z)))
    go p (Second (Second (First w))) rs r t q f d b z = calm_told p.key p.home event.Nothing tt (told z)
    go p (Second (Second (Second w))) rs r t q f d b z = calm_told p.key p.home _ (calm_drop w n) (told z)

-- of one that has this key
root_earlier : (me : Me) (key u : ℕ) (c : PutRootCalls) (rs r : Memo) (t : Trail) (n v : ℕ) → RootOf me key u c.plan → CallsFits put_root_parts put_root_plan c rs r t → put_root_decided c ≡ false → put_root_by c.plan c.call n ≡ false → DecidesMap me.who key c.plan.home v (calls_does put_root_parts put_root_plan c n) → ⊥
root_earlier me key u c rs r t n v (i, j, k) f d b z =
    put_root_earlier c rs r t n v f d b
    (subst (λ (y : Me). DecidesMap y.who c.plan.key c.plan.home v (calls_does put_root_parts put_root_plan c n)) (sym i) (subst (λ y. DecidesMap me.who y c.plan.home v (calls_does put_root_parts put_root_plan c n)) (sym j) z))

-- ---- puts, copies and receives

pub put_earlier : (m : PutCalls) (r0 r : Memo) (tr : Trail) (n v : ℕ) → CallsFits put_parts put_plan m r0 r tr → put_effect m ≡ None → put_by m.plan m.call n ≡ false → DecidesMap m.plan.me.who m.plan.key (put_home m.call) v (calls_does put_parts put_plan m n) → ⊥
put_earlier m r0 r tr n v fit d b z = go m.plan m.call fit.rs r fit.t (put_aims m fit.t fit.there) fit.fits (not_shown (put_at m.plan m.call) (answer.Stored m.plan.block) d) b z
  where
    go : (p : PutState) (x : PutCall) (rs r : Memo) (t : Trail) → PutAims p x → put_part.fits x rs r t → put_at p x ≡ false → put_by p x n ≡ false → DecidesMap p.me.who p.key (put_home x) v (put_part.does x n) → ⊥
    go p (First a) rs r t q f d b z = calm_told p.key 0 _ (calm_alloc a.me a.point n) (told z)
    go p (Second (First c)) rs r t q f d b z = root_earlier p.me p.key p.block c rs r t n v q f d b z
    go p (Second (Second w)) rs r t q f d b z = calm_told p.key 0 _ (calm_drop w n) (told z)

pub copy_earlier : (m : CopyCalls) (r0 r : Memo) (tr : Trail) (n v : ℕ) → CallsFits copy_parts copy_plan m r0 r tr → copy_effect m ≡ None → copy_by m.plan m.call n ≡ false → DecidesMap m.plan.me.who m.plan.key (copy_home m.call) v (calls_does copy_parts copy_plan m n) → ⊥
copy_earlier m r0 r tr n v fit d b z = go m.plan m.call fit.rs r fit.t (copy_aims m fit.t fit.there) fit.fits (not_shown (copy_at m.plan m.call) (answer.Value m.plan.number m.plan.block) d) b z
  where
    go : (p : CopyState) (x : CopyCall) (rs r : Memo) (t : Trail) → CopyAims p x → copy_part.fits x rs r t → copy_at p x ≡ false → copy_by p x n ≡ false → DecidesMap p.me.who p.key (copy_home x) v (copy_part.does x n) → ⊥
    go p (First w) rs r t q f d b z = calm_told p.key 0 _ (calm_fetch w n) (told z)
    go p (Second (First c)) rs r t q f d b z = root_earlier p.me p.key p.block c rs r t n v q f d b z
    go p (Second (Second w)) rs r t q f d b z = calm_told p.key 0 _ (calm_drop w n) (told z)

pub recv_earlier : (m : RecvCalls) (r0 r : Memo) (tr : Trail) (n v : ℕ) → CallsFits recv_parts recv_plan m r0 r tr → recv_effect m ≡ None → recv_by m.plan m.call n ≡ false → DecidesMap m.plan.me.who m.plan.key (recv_home m.call) v (calls_does recv_parts recv_plan m n) → ⊥
recv_earlier m r0 r tr n v fit d b z = go m.plan m.call fit.rs r fit.t (recv_aims m fit.t fit.there) fit.fits (not_shown (recv_at m.plan m.call) (answer.Value m.plan.number m.plan.block) d) b z
  where
    go : (p : RecvState) (x : RecvCall) (rs r : Memo) (t : Trail) → RecvAims p x → recv_part.fits x rs r t → recv_at p x ≡ false → recv_by p x n ≡ false → DecidesMap p.me.who p.key (recv_home x) v (recv_part.does x n) → ⊥
    go p (First (First w)) rs r t q f d b z = calm_told p.key 0 _ (calm_fetch_head w n) (told z)
    go p (First (Second w)) rs r t q f d b z = calm_told p.key 0 _ (calm_take w n) (told z)
    go p (Second (First c)) rs r t q f d b z = root_earlier p.me p.key p.block c rs r t n v q f d b z
    go p (Second (Second w)) rs r t q f d b z = calm_told p.key 0 _ (calm_drop w n) (told z)

-- ---- a removal

not_cut : (c d i e : ℕ) → Cuts c d i e event.Nothing → ⊥
not_cut c d i e (inl x) = cc
not_cut c d i e (inr (next, x)) = cc

unlink_quiet : (c : UnlinkCalls) (n : ℕ) → unlink_at c.plan c.call ≡ false → unlink_by c.plan c.call n ≡ false → calls_does unlink_parts unlink_plan c n ≡ event.Nothing
unlink_quiet c n d b = go c.plan c.call d b
  where
    go : (m : UnlinkState) (x : UnlinkCall) → unlink_at m x ≡ false → unlink_by m x n ≡ false → (unlink_plan.part m).does x n ≡ event.Nothing
    go m (First w) d b = refl
    go m (Second (First s)) d b = quiet_step s.me s.aim (Body m.before m.word) s.point n b
    go m (Second (Second (First s))) d b = quiet_step s.me s.aim (Body m.before m.word) s.point n b
    go m (Second (Second (Second u))) d b = cc

locate_quiet : (c : LocateCalls) (n : ℕ) → calls_does locate_parts locate_plan c n ≡ event.Nothing
locate_quiet c n = go c.call
  where
    go : (x : LocateCall) → locate_part.does x n ≡ event.Nothing
    go (First w) = refl
    go (Second w) = refl

pub del_earlier : (m : DelCalls) (n : ℕ) → del_effect m ≡ None → del_by m.plan m.call n ≡ false → Cuts m.plan.me.who m.plan.before m.plan.word m.plan.entry (calls_does del_parts del_plan m n) → ⊥
del_earlier m n d b z = not_cut m.plan.me.who m.plan.before m.plan.word m.plan.entry (subst (Cuts m.plan.me.who m.plan.before m.plan.word m.plan.entry) (go m.plan m.call (not_shown (del_at m.plan m.call) answer.Ok d) b) z)
  where
    go : (p : DelState) (x : DelCall) → del_at p x ≡ false → del_by p x n ≡ false → del_part.does x n ≡ event.Nothing
    go p (First w) d b = locate_quiet w n
    go p (Second (First c)) d b = unlink_quiet c n d b
    go p (Second (Second w)) d b = refl
