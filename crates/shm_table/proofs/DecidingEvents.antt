-- the event of the deciding step is the one by which the map changes
use Rattle.std.proofs.Common.{◌≡◌, ℕ, ◌%◌, Bool, true, false, refl, sym, ap, ◌∙◌, subst, inl, inr}
use Rattle.std.specs.Prelude.{if◌then◌else◌, None}
use Rattle.shm_graph.specs.{declared.{ask.Me.Me, memo.Memo.Memo, spot.Spot.{Spot, TheVariants.Body}}, Asks.Trail}
use Rattle.shm_graph.specs.{Events.Event, Tells.after_all}
use Rattle.shm_graph.specs.Events as event
use Rattle.plans.specs.{declared.or.Or.{Or, TheVariants.{First, Second}}, CallsControl.{calls_does, calls_of}}
use Rattle.plans.specs.{CallsFit.CallsFits, Deciding.where_decided, Either.or_control, Words.word_control}
use Rattle.shm_count.specs.declared.point.{Aim.Aim, Half.Half, StepPoint.StepPoint, StepState.StepState}
use Rattle.shm_count.specs.{declared.tear_point.TearState.TearState, Step.Control.step_control}
use Rattle.shm_count.specs.Step.{Machines.{down_control, up_control}, Events.{event_of_half, step_event_at}}
use Rattle.shm_count.specs.{Step.ExchangeMade.{exchanged_at, exchanging_at, is_second}, Tear.Control.tear_control}
use Rattle.shm_count.specs.declared.point.Aim.TheVariants as aims
use Rattle.shm_count.specs.declared.point.Half.TheVariants as part
use Rattle.shm_count.specs.declared.point.StepPoint.TheVariants as point
use Rattle.shm_alloc.specs.Alloc.Control.{alloc_control}
use Rattle.shm_ref.specs.DropRoots.Control.{drop_root}
use Rattle.shm_script.specs.declared.log.Answer.{Answer}
use Rattle.shm_script.specs.declared.log.Answer.TheVariants as answer
use Rattle.shm_table.specs.declared.{copy.{CopyPoint.CopyPoint, CopyState.CopyState}, del.DelPoint.DelPoint}
use Rattle.shm_table.specs.declared.{del.DelState.DelState, enter.{EnterPoint.EnterPoint, EnterState.EnterState}}
use Rattle.shm_table.specs.declared.{put.{PutPoint.PutPoint, PutState.PutState}, put_root.PutRootPoint.PutRootPoint}
use Rattle.shm_table.specs.declared.{put_root.PutRootState.PutRootState, recv.RecvPoint.RecvPoint}
use Rattle.shm_table.specs.declared.{recv.RecvState.RecvState, replace.ReplacePoint.ReplacePoint}
use Rattle.shm_table.specs.declared.{replace.ReplaceState.ReplaceState, unlink.UnlinkPoint.UnlinkPoint}
use Rattle.shm_table.specs.declared.unlink.UnlinkState.{UnlinkState}
use Rattle.shm_table.specs.CopyKey.Control.{CopyCall, CopyCalls, copy_call_at, copy_parts, fetch_control}
use Rattle.shm_table.specs.{CopyKey.{copy_part, copy_plan}, Cutting.Cuts}
use Rattle.shm_table.specs.Del.{Control.{DelCall, DelCalls, del_call_at, del_parts}, del_part, del_plan}
use Rattle.shm_table.specs.Effects.{copy_at, copy_by, copy_effect, copy_home, del_at, del_by, del_effect, enter_at, enter_by, enter_decided, put_at, put_by, put_effect, put_home, put_root_at, put_root_by, put_root_decided, recv_at, recv_by, recv_effect, recv_home, replace_at, replace_by, replace_decided, unlink_at, unlink_by, unlink_decided}
use Rattle.shm_table.specs.Enter.Control.{EnterCall, enter_block, enter_call_at, enter_parts, enter_spot, enter_to, enter_word, up_of, entering as entering_at}
use Rattle.shm_table.specs.{Enter.{enter_part, enter_plan}, Put.Control.{PutCall, PutCalls, put_call_at, put_parts}}
use Rattle.shm_table.specs.Put.{put_part, put_plan}
use Rattle.shm_table.specs.PutRoot.Control.{EnterCalls, PutRootCall, PutRootCalls, ReplaceCalls, enter_control, open_control, put_root_call, put_root_control, put_root_parts, put_root_steered, putting_root, replace_control}
use Rattle.shm_table.specs.PutRoot.{DecidesMap, Begins, Leads, Replaces, put_root_part, put_root_plan}
use Rattle.shm_table.specs.RecvKey.Control.{RecvCall, RecvCalls, fetch_head_control, recv_call_at, recv_parts, take_head_control}
use Rattle.shm_table.specs.RecvKey.{recv_part, recv_plan}
use Rattle.shm_table.specs.Replace.Control.{ReplaceCall, replace_call_at, replace_parts, replacing as replacing_at}
use Rattle.shm_table.specs.Replace.{replace_plan}
use Rattle.shm_table.specs.Unlink.Control.{UnlinkCall, UnlinkCalls, unlink_call_at, unlink_control, unlink_parts, unlinking as unlinking_at}
use Rattle.shm_table.specs.{Unlink.unlink_plan, Locate.Control.locate_control, Unlatch.Control.unlatch_control}
use Rattle.shm_table.specs.Proved.{Enter.Laws.enter_laws, Locate.Laws.locate_laws, OpenTable.Laws.open_laws}
use Rattle.shm_table.specs.Proved.{PutRoot.Laws.put_root_laws, Replace.Laws.replace_laws, Unlink.Laws.unlink_laws}
use Rattle.shm_table.specs.declared.copy.CopyPoint.TheVariants as copying
use Rattle.shm_table.specs.declared.del.DelPoint.TheVariants as deleting
use Rattle.shm_table.specs.declared.enter.EnterPoint.TheVariants as entering
use Rattle.shm_table.specs.declared.put.PutPoint.TheVariants as putting
use Rattle.shm_table.specs.declared.put_root.PutRootPoint.TheVariants as rooting
use Rattle.shm_table.specs.declared.recv.RecvPoint.TheVariants as receiving
use Rattle.shm_table.specs.declared.replace.ReplacePoint.TheVariants as replacing
use Rattle.shm_table.specs.declared.unlink.UnlinkPoint.TheVariants as unlinking
use Rattle.shm_table.proofs.Running.AsMade.{aimed_so, at_first, at_second, at_second_first, at_second_second, made_so}

-- ---- the exchange of a count step

half_first : (me : Me) (x : Aim) (p : Spot) (h : Half) → is_second x h ≡ false → event_of_half me x p h ≡ event_of_half me x p part.First
half_first me (aims.Change a b) p part.First e = refl
half_first me (aims.Change a b) p part.Second e = cc
half_first me _ p h e = refl

-- the step that finds the header, before which no exchange was made, is the event of the first half
exchange_event : (me : Me) (x : Aim) (p : Spot) (y : StepPoint) (n : ℕ) → exchanging_at y n ≡ true → exchanged_at x y ≡ false → step_event_at me x p y n ≡ event_of_half me x p part.First
exchange_event me x p (point.Exchange e h w) n d f = ap (λ z. if z then event_of_half me x p h else event.Nothing) d ∙ half_first me x p h f
exchange_event me x p y n d f = cc

-- so of a step with this identity and this aim
aimed_event : (me i : Me) (x a : Aim) (p : Spot) (y : StepPoint) (n : ℕ) → i ≡ me → x ≡ a → exchanging_at y n ≡ true → exchanged_at x y ≡ false → step_event_at i x p y n ≡ event_of_half me a p part.First
aimed_event me i x a p y n e f d g = exchange_event i x p y n d g ∙ (ap (λ (j : Me). event_of_half j x p part.First) e ∙ ap (λ (z : Aim). event_of_half me z p part.First) f)

-- ---- an entry has another value block

abbrev ReplaceAims : ReplaceState → ReplaceCall → Type 0
ReplaceAims m (Second (First s)) = (s.me ≡ m.me) × (s.aim ≡ aims.Change m.before m.to)
ReplaceAims m c = Unit {0}

replace_event : (c : ReplaceCalls) (t : Trail) (n : ℕ) → after_all replace_parts (replace_call_at c.plan c.plan.point) t ≡ c.call → replace_decided c ≡ false → replace_by c.plan c.call n ≡ true → calls_does replace_parts replace_plan c n ≡ event.ChangeUp c.plan.me.who (Body c.plan.entry 1) c.plan.before c.plan.to
replace_event c t n there d b = go c.plan c.call (aims_of c.plan c.plan.point c.call there) d b
  where
    aims_of : (m : ReplaceState) (y : ReplacePoint) (x : ReplaceCall) → after_all replace_parts (replace_call_at m y) t ≡ x → ReplaceAims m x
    aims_of m replacing.Look x there = at_first word_control (or_control step_control tear_control) (ReplaceAims m) _ t there tt
    aims_of m replacing.Change x there = at_second_first word_control step_control tear_control (ReplaceAims m) _ t there (aimed_so step_control (λ x n. (refl, refl)) _ t)
    aims_of m replacing.Tear x there = at_second_second word_control step_control tear_control (ReplaceAims m) _ t there tt

    go : (m : ReplaceState) (x : ReplaceCall) → ReplaceAims m x → replace_at m x ≡ false → replace_by m x n ≡ true → (replace_plan.part m).does x n ≡ event.ChangeUp m.me.who (Body m.entry 1) m.before m.to
    go m (Second (First s)) q d b = aimed_event m.me s.me s.aim (aims.Change m.before m.to) (Body m.entry 1) s.point n q.0 q.1 b d
    go m _ q d b = cc

-- ---- a new entry begins the chain of its bucket

abbrev pub EnterAims : EnterState → EnterPoint → EnterCall → Type 0
EnterAims m y (First w) = Unit {0}
EnterAims m y (Second (First s)) = (s.me ≡ m.me) × (s.aim ≡ aims.Up (enter_to m y))
EnterAims m y (Second (Second s)) = (s.me ≡ m.me) × (s.aim ≡ aims.Change m.first m.entry) × (enter_spot m y ≡ Body m.home (m.key % 16))

-- so of the call in progress
pub enter_aims : (c : EnterCalls) (t : Trail) → after_all enter_parts (enter_call_at c.plan c.plan.point) t ≡ c.call → EnterAims c.plan c.plan.point c.call
enter_aims c t there = go c.plan c.plan.point c.call there
  where
    up : (m : EnterState) (y : EnterPoint) (x : EnterCall) → after_all enter_parts (up_of m (enter_block m y) (enter_word m y) (enter_to m y)) t ≡ x → EnterAims m y x
    up m y x there = at_second_first alloc_control up_control step_control (EnterAims m y) _ t there (aimed_so up_control (λ x n. (refl, refl)) _ t)

    go : (m : EnterState) (y : EnterPoint) (x : EnterCall) → after_all enter_parts (enter_call_at m y) t ≡ x → EnterAims m y x
    go m entering.Make x there = at_first alloc_control (or_control up_control step_control) (EnterAims m entering.Make) _ t there tt
    go m entering.Value x there = up m entering.Value x there
    go m entering.Next x there = up m entering.Next x there
    go m entering.Link x there = up m entering.Link x there
    go m entering.Change x there =
        let aimed = aimed_so step_control (λ x n. (refl, refl)) _ t in
        at_second_second alloc_control up_control step_control (EnterAims m entering.Change) _ t there (aimed.0, aimed.1, refl)

enter_event : (c : EnterCalls) (t : Trail) (n v : ℕ) → after_all enter_parts (enter_call_at c.plan c.plan.point) t ≡ c.call → enter_decided c ≡ false → enter_by c.plan c.call n ≡ true → DecidesMap c.plan.me.who c.plan.key c.plan.home v (calls_does enter_parts enter_plan c n)
enter_event c t n v there d b = go c.plan c.plan.point c.call (enter_aims c t there) d b
  where
    up : (m : EnterState) (e : Event) → e ≡ event.Up m.me.who (Body m.home (m.key % 16)) m.entry → DecidesMap m.me.who m.key m.home v e
    up m e i = subst (DecidesMap m.me.who m.key m.home v) (sym i) (Begins m.entry)

    change : (m : EnterState) (e : Event) → e ≡ event.ChangeUp m.me.who (Body m.home (m.key % 16)) m.first m.entry → DecidesMap m.me.who m.key m.home v e
    change m e i = subst (DecidesMap m.me.who m.key m.home v) (sym i) (Leads m.first m.entry)

    go : (m : EnterState) (y : EnterPoint) (x : EnterCall) → EnterAims m y x → enter_at (record m { point = y }) x ≡ false → enter_by (record m { point = y }) x n ≡ true → DecidesMap m.me.who m.key m.home v ((enter_part m y).does x n)
    go m entering.Make (Second (First s)) q d b = up m _ (aimed_event m.me s.me s.aim (aims.Up m.entry) (enter_spot m entering.Make) s.point n q.0 q.1 b d)
    go m entering.Link (Second (First s)) q d b = up m _ (aimed_event m.me s.me s.aim (aims.Up m.entry) (enter_spot m entering.Link) s.point n q.0 q.1 b d)
    go m entering.Change (Second (First s)) q d b = up m _ (aimed_event m.me s.me s.aim (aims.Up m.entry) (enter_spot m entering.Change) s.point n q.0 q.1 b d)
    go m y (Second (Second s)) (i, j, k) d b = change m _ (aimed_event m.me s.me s.aim (aims.Change m.first m.entry) (enter_spot m y) s.point n i j b d ∙ ap (λ (p : Spot). event.ChangeUp m.me.who p m.first m.entry) k)
    go m _ _ q d b = cc

-- ---- a value block comes into the own table

-- the machines that it calls are made with what it has
abbrev pub RootAims : PutRootState → PutRootCall → Type 0
RootAims m (Second (First (First c))) = (c.plan.me ≡ m.me) × (c.plan.to ≡ m.value)
RootAims m (Second (First (Second c))) = (c.plan.me ≡ m.me) × (c.plan.key ≡ m.key) × (c.plan.home ≡ m.home)
RootAims m c = Unit {0}

-- a call that can't decide
abbrev IsIdleCall : PutRootCall → Type 0
IsIdleCall (Second (First c)) = ⊥
IsIdleCall c = Unit {0}

-- so of the call in progress
pub root_aims : (m : PutRootCalls) (t : Trail) → after_all put_root_parts (put_root_call m.plan m.plan.point) t ≡ m.call → RootAims m.plan m.call
root_aims m t there = go m.plan m.plan.point m.call there
  where
    called : (p : PutRootState) (m : PutRootCall) (x : PutRootCall) → after_all put_root_parts m t ≡ x → IsIdleCall m → RootAims p x
    called p (First m) x there h = at_first (or_control open_control locate_control) (or_control (or_control replace_control enter_control) (or_control unlatch_control drop_root)) (RootAims p) m t there tt
    called p (Second (Second m)) x there h = at_second_second (or_control open_control locate_control) (or_control replace_control enter_control) (or_control unlatch_control drop_root) (RootAims p) m t there tt
    called p (Second (First m)) x there h = absurd h

    deciding : (p : PutRootState) (m : Or ReplaceCalls EnterCalls) (x : PutRootCall) → after_all put_root_parts (Second (First m)) t ≡ x → RootAims p (Second (First (after_all (or_control replace_control enter_control) m t))) → RootAims p x
    deciding p m x there h = at_second_first (or_control open_control locate_control) (or_control replace_control enter_control) (or_control unlatch_control drop_root) (RootAims p) m t there h

    go : (p : PutRootState) (y : PutRootPoint) (x : PutRootCall) → after_all put_root_parts (put_root_call p y) t ≡ x → RootAims p x
    go p rooting.Replace x there =
        let made = made_so replace_parts replace_plan replace_laws (replacing_at p.me p.entry p.value) t refl in
        deciding p _ x there (at_first replace_control enter_control (λ x. RootAims p (Second (First x))) _ t refl (ap (λ (s : ReplaceState). s.me) made, ap (λ (s : ReplaceState). s.to) made))
    go p rooting.Enter x there =
        let made = made_so enter_parts enter_plan enter_laws (entering_at p.me p.key p.value p.home p.first) t refl in
        deciding p _ x there (at_second replace_control enter_control (λ x. RootAims p (Second (First x))) _ t refl (ap (λ (s : EnterState). s.me) made, ap (λ (s : EnterState). s.key) made, ap (λ (s : EnterState). s.home) made))
    go p _ x there = called p _ x there tt

-- with the directory that the search found, where it found no entry
pub put_root_event : (m : PutRootCalls) (r0 r : Memo) (tr : Trail) (n : ℕ) → CallsFits put_root_parts put_root_plan m r0 r tr → put_root_decided m ≡ false → put_root_by m.plan m.call n ≡ true → DecidesMap m.plan.me.who m.plan.key m.plan.home m.plan.value (calls_does put_root_parts put_root_plan m n)
put_root_event m r0 r tr n fit d b = go m.plan m.call fit.rs r fit.t (root_aims m fit.t fit.there) fit.fits d b
  where
    go : (p : PutRootState) (x : PutRootCall) (rs r : Memo) (t : Trail) → RootAims p x → put_root_part.fits x rs r t → put_root_at p x ≡ false → put_root_by p x n ≡ true → DecidesMap p.me.who p.key p.home p.value (put_root_part.does x n)
    go p (Second (First (First c))) rs r t (i, j) f d b =
        let e : calls_does replace_parts replace_plan c n ≡ event.ChangeUp p.me.who (Body c.plan.entry 1) c.plan.before p.value = replace_event c f.t n f.there d b ∙ (ap (λ (z : Me). event.ChangeUp z.who (Body c.plan.entry 1) c.plan.before c.plan.to) i ∙ ap (λ z. event.ChangeUp p.me.who (Body c.plan.entry 1) c.plan.before z) j) in
        subst (DecidesMap p.me.who p.key p.home p.value) (sym e) (Replaces c.plan.entry c.plan.before)
    go p (Second (First (Second c))) rs r t (i, j, k) f d b =
        subst (λ (z : Me). DecidesMap z.who p.key p.home p.value (calls_does enter_parts enter_plan c n)) i
        (subst (λ z. DecidesMap c.plan.me.who z p.home p.value (calls_does enter_parts enter_plan c n)) j
        (subst (λ z. DecidesMap c.plan.me.who c.plan.key z p.value (calls_does enter_parts enter_plan c n)) k (enter_event c f.t n p.value f.there d b)))
    go p _ rs r t q f d b = cc

-- ---- puts, copies and receives

-- what it was made with stays
abbrev pub RootOf : Me → ℕ → ℕ → PutRootState → Type 0
RootOf me key v p = (p.me ≡ me) × (p.key ≡ key) × (p.value ≡ v)

root_of : (me : Me) (key v : ℕ) (t : Trail) → RootOf me key v (after_all put_root_control (calls_of put_root_steered (putting_root me key v)) t).plan
root_of me key v t =
    let made = made_so put_root_parts put_root_plan (put_root_laws open_laws locate_laws replace_laws enter_laws) (putting_root me key v) t refl in
    (ap (λ (s : PutRootState). s.me) made, ap (λ (s : PutRootState). s.key) made, ap (λ (s : PutRootState). s.value) made)

rooted : (me : Me) (key v : ℕ) (c : PutRootCalls) (rs r : Memo) (t : Trail) (n : ℕ) → RootOf me key v c.plan → CallsFits put_root_parts put_root_plan c rs r t → put_root_decided c ≡ false → put_root_by c.plan c.call n ≡ true → DecidesMap me.who key c.plan.home v (calls_does put_root_parts put_root_plan c n)
rooted me key v c rs r t n (i, j, k) f d b =
    subst (λ (z : Me). DecidesMap z.who key c.plan.home v (calls_does put_root_parts put_root_plan c n)) i
    (subst (λ z. DecidesMap c.plan.me.who z c.plan.home v (calls_does put_root_parts put_root_plan c n)) j
    (subst (λ z. DecidesMap c.plan.me.who c.plan.key c.plan.home z (calls_does put_root_parts put_root_plan c n)) k (put_root_event c rs r t n f d b)))

-- nothing is shown where the step wasn't made
pub not_shown : (z : Bool) (a : Answer) → where_decided z a ≡ None → z ≡ false
not_shown true a e = cc
not_shown false a e = refl

abbrev pub PutAims : PutState → PutCall → Type 0
PutAims m (Second (First c)) = RootOf m.me m.key m.block c.plan
PutAims m c = Unit {0}

-- so of the call in progress
pub put_aims : (m : PutCalls) (t : Trail) → after_all put_parts (put_call_at m.plan m.plan.point) t ≡ m.call → PutAims m.plan m.call
put_aims m t there = go m.plan m.plan.point m.call there
  where
    go : (p : PutState) (y : PutPoint) (x : PutCall) → after_all put_parts (put_call_at p y) t ≡ x → PutAims p x
    go p putting.Make x there = at_first alloc_control (or_control put_root_control drop_root) (PutAims p) _ t there tt
    go p putting.Put x there = at_second_first alloc_control put_root_control drop_root (PutAims p) _ t there (root_of p.me p.key p.block t)
    go p putting.Drop x there = at_second_second alloc_control put_root_control drop_root (PutAims p) _ t there tt

pub put_event : (m : PutCalls) (r0 r : Memo) (tr : Trail) (n : ℕ) → CallsFits put_parts put_plan m r0 r tr → put_effect m ≡ None → put_by m.plan m.call n ≡ true → DecidesMap m.plan.me.who m.plan.key (put_home m.call) m.plan.block (calls_does put_parts put_plan m n)
put_event m r0 r tr n fit d b = go m.plan m.call fit.rs r fit.t (put_aims m fit.t fit.there) fit.fits (not_shown (put_at m.plan m.call) (answer.Stored m.plan.block) d) b
  where
    go : (p : PutState) (x : PutCall) (rs r : Memo) (t : Trail) → PutAims p x → put_part.fits x rs r t → put_at p x ≡ false → put_by p x n ≡ true → DecidesMap p.me.who p.key (put_home x) p.block (put_part.does x n)
    go p (Second (First c)) rs r t q f d b = rooted p.me p.key p.block c rs r t n q f d b
    go p _ rs r t q f d b = cc

abbrev pub CopyAims : CopyState → CopyCall → Type 0
CopyAims m (Second (First c)) = RootOf m.me m.key m.block c.plan
CopyAims m c = Unit {0}

-- so of the call in progress
pub copy_aims : (m : CopyCalls) (t : Trail) → after_all copy_parts (copy_call_at m.plan m.plan.point) t ≡ m.call → CopyAims m.plan m.call
copy_aims m t there = go m.plan m.plan.point m.call there
  where
    go : (p : CopyState) (y : CopyPoint) (x : CopyCall) → after_all copy_parts (copy_call_at p y) t ≡ x → CopyAims p x
    go p copying.Fetch x there = at_first fetch_control (or_control put_root_control drop_root) (CopyAims p) _ t there tt
    go p copying.Put x there = at_second_first fetch_control put_root_control drop_root (CopyAims p) _ t there (root_of p.me p.key p.block t)
    go p copying.Drop x there = at_second_second fetch_control put_root_control drop_root (CopyAims p) _ t there tt

pub copy_event : (m : CopyCalls) (r0 r : Memo) (tr : Trail) (n : ℕ) → CallsFits copy_parts copy_plan m r0 r tr → copy_effect m ≡ None → copy_by m.plan m.call n ≡ true → DecidesMap m.plan.me.who m.plan.key (copy_home m.call) m.plan.block (calls_does copy_parts copy_plan m n)
copy_event m r0 r tr n fit d b = go m.plan m.call fit.rs r fit.t (copy_aims m fit.t fit.there) fit.fits (not_shown (copy_at m.plan m.call) (answer.Value m.plan.number m.plan.block) d) b
  where
    go : (p : CopyState) (x : CopyCall) (rs r : Memo) (t : Trail) → CopyAims p x → copy_part.fits x rs r t → copy_at p x ≡ false → copy_by p x n ≡ true → DecidesMap p.me.who p.key (copy_home x) p.block (copy_part.does x n)
    go p (Second (First c)) rs r t q f d b = rooted p.me p.key p.block c rs r t n q f d b
    go p _ rs r t q f d b = cc

abbrev pub RecvAims : RecvState → RecvCall → Type 0
RecvAims m (Second (First c)) = RootOf m.me m.key m.block c.plan
RecvAims m c = Unit {0}

-- so of the call in progress
pub recv_aims : (m : RecvCalls) (t : Trail) → after_all recv_parts (recv_call_at m.plan m.plan.point) t ≡ m.call → RecvAims m.plan m.call
recv_aims m t there = go m.plan m.plan.point m.call there
  where
    go : (p : RecvState) (y : RecvPoint) (x : RecvCall) → after_all recv_parts (recv_call_at p y) t ≡ x → RecvAims p x
    go p receiving.Put x there = at_second_first (or_control fetch_head_control take_head_control) put_root_control drop_root (RecvAims p) _ t there (root_of p.me p.key p.block t)
    go p receiving.Drop x there = at_second_second (or_control fetch_head_control take_head_control) put_root_control drop_root (RecvAims p) _ t there tt
    go p _ x there = at_first (or_control fetch_head_control take_head_control) (or_control put_root_control drop_root) (RecvAims p) _ t there tt

pub recv_event : (m : RecvCalls) (r0 r : Memo) (tr : Trail) (n : ℕ) → CallsFits recv_parts recv_plan m r0 r tr → recv_effect m ≡ None → recv_by m.plan m.call n ≡ true → DecidesMap m.plan.me.who m.plan.key (recv_home m.call) m.plan.block (calls_does recv_parts recv_plan m n)
recv_event m r0 r tr n fit d b = go m.plan m.call fit.rs r fit.t (recv_aims m fit.t fit.there) fit.fits (not_shown (recv_at m.plan m.call) (answer.Value m.plan.number m.plan.block) d) b
  where
    go : (p : RecvState) (x : RecvCall) (rs r : Memo) (t : Trail) → RecvAims p x → recv_part.fits x rs r t → recv_at p x ≡ false → recv_by p x n ≡ true → DecidesMap p.me.who p.key (recv_home x) p.block (recv_part.does x n)
    go p (First (First w)) rs r t q f d b = cc
    go p (Second (First c)) rs r t q f d b = rooted p.me p.key p.block c rs r t n q f d b
    go p _ rs r t q f d b = cc

-- ---- an entry is taken out, and a removal

abbrev UnlinkAims : UnlinkState → UnlinkCall → Type 0
UnlinkAims m (Second (First s)) = (s.me ≡ m.me) × (s.aim ≡ aims.Down m.entry)
UnlinkAims m (Second (Second (First s))) = (s.me ≡ m.me) × (s.aim ≡ aims.Change m.entry m.next)
UnlinkAims m _ = Unit {0}

unlink_event : (c : UnlinkCalls) (t : Trail) (n : ℕ) → after_all unlink_parts (unlink_call_at c.plan c.plan.point) t ≡ c.call → unlink_decided c ≡ false → unlink_by c.plan c.call n ≡ true → Cuts c.plan.me.who c.plan.before c.plan.word c.plan.entry (calls_does unlink_parts unlink_plan c n)
unlink_event c t n there d b = go c.plan c.call (aims_of c.plan c.plan.point c.call there) d b
  where
    later : (m : UnlinkState) (x : Or StepState (Or StepState TearState)) {c : UnlinkCall} → after_all unlink_parts (Second x) t ≡ c → UnlinkAims m (Second (after_all (or_control down_control (or_control step_control tear_control)) x t)) → UnlinkAims m c
    later m x there h = at_second word_control (or_control down_control (or_control step_control tear_control)) (UnlinkAims m) x t there h

    aims_of : (m : UnlinkState) (y : UnlinkPoint) (x : UnlinkCall) → after_all unlink_parts (unlink_call_at m y) t ≡ x → UnlinkAims m x
    aims_of m unlinking.Look x there = at_first word_control (or_control down_control (or_control step_control tear_control)) (UnlinkAims m) _ t there tt
    aims_of m unlinking.Lower x there = later m _ there (at_first down_control (or_control step_control tear_control) (λ x. UnlinkAims m (Second x)) _ t refl (aimed_so down_control (λ x n. (refl, refl)) _ t))
    aims_of m unlinking.Change x there = later m _ there (at_second_first down_control step_control tear_control (λ x. UnlinkAims m (Second x)) _ t refl (aimed_so step_control (λ x n. (refl, refl)) _ t))
    aims_of m unlinking.Tear x there = later m _ there (at_second_second down_control step_control tear_control (λ x. UnlinkAims m (Second x)) _ t refl tt)

    go : (m : UnlinkState) (x : UnlinkCall) → UnlinkAims m x → unlink_at m x ≡ false → unlink_by m x n ≡ true → Cuts m.me.who m.before m.word m.entry ((unlink_plan.part m).does x n)
    go m (Second (First s)) q d b = inl (aimed_event m.me s.me s.aim (aims.Down m.entry) (Body m.before m.word) s.point n q.0 q.1 b d)
    go m (Second (Second (First s))) q d b = inr (m.next, aimed_event m.me s.me s.aim (aims.Change m.entry m.next) (Body m.before m.word) s.point n q.0 q.1 b d)
    go m _ q d b = cc

-- what it was made with stays
abbrev UnlinkOf : DelState → UnlinkState → Type 0
UnlinkOf m p = (p.me ≡ m.me) × (p.before ≡ m.before) × (p.word ≡ m.word) × (p.entry ≡ m.entry)

abbrev DelAims : DelState → DelCall → Type 0
DelAims m (Second (First c)) = UnlinkOf m c.plan
DelAims m c = Unit {0}

pub del_event : (m : DelCalls) (r0 r : Memo) (tr : Trail) (n : ℕ) → CallsFits del_parts del_plan m r0 r tr → del_effect m ≡ None → del_by m.plan m.call n ≡ true → Cuts m.plan.me.who m.plan.before m.plan.word m.plan.entry (calls_does del_parts del_plan m n)
del_event m r0 r tr n fit d b = go m.plan m.call fit.rs r fit.t (aims_of m.plan m.plan.point m.call fit.t fit.there) fit.fits (not_shown (del_at m.plan m.call) answer.Ok d) b
  where
    aims_of : (p : DelState) (y : DelPoint) (x : DelCall) (t : Trail) → after_all del_parts (del_call_at p y) t ≡ x → DelAims p x
    aims_of p deleting.Search x t there = at_first locate_control (or_control unlink_control unlatch_control) (DelAims p) _ t there tt
    aims_of p deleting.Cut x t there =
        let made = made_so unlink_parts unlink_plan unlink_laws (unlinking_at p.me p.entry p.before p.word) t refl in
        at_second_first locate_control unlink_control unlatch_control (DelAims p) _ t there (ap (λ (s : UnlinkState). s.me) made, ap (λ (s : UnlinkState). s.before) made, ap (λ (s : UnlinkState). s.word) made, ap (λ (s : UnlinkState). s.entry) made)
    aims_of p deleting.Back x t there = at_second_second locate_control unlink_control unlatch_control (DelAims p) _ t there tt

    go : (p : DelState) (x : DelCall) (rs r : Memo) (t : Trail) → DelAims p x → del_part.fits x rs r t → del_at p x ≡ false → del_by p x n ≡ true → Cuts p.me.who p.before p.word p.entry (del_part.does x n)
    go p (Second (First c)) rs r t (i, j, k, l) f d b =
        subst (λ (z : Me). Cuts z.who p.before p.word p.entry (calls_does unlink_parts unlink_plan c n)) i
        (subst (λ z. Cuts c.plan.me.who z p.word p.entry (calls_does unlink_parts unlink_plan c n)) j
        (subst (λ z. Cuts c.plan.me.who c.plan.before z p.entry (calls_does unlink_parts unlink_plan c n)) k
        (subst (λ z. Cuts c.plan.me.who c.plan.before c.plan.word z (calls_does unlink_parts unlink_plan c n)) l (unlink_event c f.t n f.there d b))))
    go p _ rs r t q f d b = cc
