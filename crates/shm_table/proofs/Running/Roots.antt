-- a value block comes into the own table: while the machine runs the own map is what it was, until its deciding step, and from then on the key has the block
use Rattle.std.proofs.Common.{◌≡◌, ℕ, refl, ◌∙◌, subst, Bool, true, false, List, Option, Some, None}
use Rattle.shm_graph.specs.{declared.{ask.Me.Me, memo.Memo.Memo}, Asks.Trail, Events.Event, Tells.after_all}
use Rattle.plans.specs.{declared.or.Or.{Or, TheVariants.{First, Second}}, CallsControl.calls_of, CallsFit.CallsFits}
use Rattle.plans.specs.Either.{or_control}
use Rattle.shm_ref.specs.DropRoots.Control.{RootsCall, drop_root}
use Rattle.kind_parts.specs.Reparting.{IsValue, sight}
use Rattle.shm_table.specs.declared.{answer.PutFault.PutFault, put_root.PutRootPoint.PutRootPoint}
use Rattle.shm_table.specs.declared.put_root.PutRootState.{PutRootState}
use Rattle.shm_table.specs.Effects.{put_root_at, put_root_decided, replace_decided, enter_decided, settled}
use Rattle.shm_table.specs.Enter.{Control.{enter_parts, enter_steered, entering}, enter_plan}
use Rattle.shm_table.specs.Proved.{Enter.Laws.enter_laws, PutRoot.Steps.{same_more, set_after}}
use Rattle.shm_table.specs.Proved.Replace.Laws.{replace_laws}
use Rattle.shm_table.specs.PutRoot.Control.{EnterCalls, OpenCalls, PutRootCall, PutRootCalls, ReplaceCalls, enter_control, open_control, put_root_call, put_root_parts, replace_control, put_root_control}
use Rattle.shm_table.specs.PutRoot.{IsPutting, MapSo, PutRootKnows, put_root_part, put_root_plan}
use Rattle.shm_table.specs.Replace.{Control.{replace_parts, replace_steered, replacing}, MayReplace, replace_plan}
use Rattle.shm_table.specs.{Locate.Control.{LocateCalls, locate_control}, Staying.{MapSet, SameMap}}
use Rattle.shm_table.specs.Unlatch.Control.{UnlatchCalls, unlatch_control}
use Rattle.shm_table.specs.declared.put_root.PutRootPoint.TheVariants as rooting
use Rattle.shm_table.proofs.Running.AsMade.{at_first, at_second, at_second_first, at_second_second, made_so}
use Rattle.shm_table.proofs.Running.{Entering.{EnterDoes, enter_so}, Entries.{MapBy, ReplaceDoes, replace_so}}
use Rattle.shm_table.proofs.Running.{Fetching.open_still, Reading.{drop_quiet, locate_quiet, unlatch_quiet}}
use Rattle.shm_table.proofs.Running.Still.{same_now}

-- ---- the form

-- where the map is what it was when the call began, and the call does this
pub by_call : (z : Bool) (D E : Type 0) (r0 rs r : Memo) → SameMap r0 rs → (D → E) → MapBy z D rs r → MapBy z E r0 r
by_call false D E r0 rs r same so h = same_more r0 rs r same h
by_call true D E r0 rs r same so h = so h

-- where the map changes no more
pub by_then : (z : Bool) (D E : Type 0) (r0 rs r : Memo) → (D → E) → SameMap rs r → MapBy z D r0 rs → MapBy z E r0 r
by_then false D E r0 rs r so same h = same_more r0 rs r h same
by_then true D E r0 rs r so same h = so h

-- ---- the machine

-- what it does to the map
abbrev pub RootDoes : PutRootState → Memo → Memo → Type 0
RootDoes m r0 r = (n : ℕ) → IsValue (sight m.me.who r0) m.value n → MapSet m.key n m.value r0 r

module _ (p : PutRootState) (r0 rs r : Memo) (latch : Option ℕ) (h : IsPutting p.me p.key p.value latch r0 rs) where
  -- the number of the block is known still
  number_still : (i : ℕ) → IsValue (sight p.me.who r0) p.value i → IsValue (sight p.me.who rs) p.value i
  number_still i v = h.keeps.values h.may.1 p.value i h.may.2.low h.may.2.some h.may.2.root v

  replaces : (n before word : ℕ) → MayReplace p.me p.key p.value n p.entry before word rs → ReplaceDoes (replacing p.me p.entry p.value) rs r → RootDoes p r0 r
  replaces n before word may so i v = set_after p.key i p.value r0 rs r h.map (so p.key i before word other)
    where
      other : MayReplace p.me p.key p.value i p.entry before word rs
      other = record { geometry = may.geometry; who = may.who; idle = may.idle; client = may.client; found = may.found; some = may.some; room = may.room; here = may.here; value = number_still i v; named = may.named; block = may.block }

  enters : EnterDoes (entering p.me p.key p.value p.home p.first) rs r → RootDoes p r0 r
  enters so i v = set_after p.key i p.value r0 rs r h.map (so i (number_still i v))

-- once it is settled
settled_so : (me : Me) (key v : ℕ) (r0 r : Memo) (es : List Event) (o : Option ℕ) (z : Bool) (f : Option PutFault) → (z ≡ false → SameMap r0 r) → MapSo me key v r0 r es o f → MapBy (settled z f) ((n : ℕ) → IsValue (sight me.who r0) v n → MapSet key n v r0 r) r0 r
settled_so me key v r0 r es o false None still h = still refl
settled_so me key v r0 r es o true None still h = h.0
settled_so me key v r0 r es None z (Some f) still h = h.0
settled_so me key v r0 r es (Some k) z (Some f) still h = h.0

abbrev RootSo : PutRootState → (r0 rs r : Memo) → Trail → PutRootCall → Type 0
RootSo p r0 rs r t c = put_root_parts.finished c ≡ false → put_root_part.fits c rs r t → MapBy (put_root_at p c) (RootDoes p r0 r) r0 r

pub put_root_so : (m : PutRootCalls) (r0 r : Memo) (tr : Trail) → put_root_control.finished m ≡ false → CallsFits put_root_parts put_root_plan m r0 r tr → MapBy (put_root_decided m) (RootDoes m.plan r0 r) r0 r
put_root_so m r0 r tr going fit = go m.plan m.plan.point m.call r0 fit.rs r fit.before fit.t fit.es fit.there fit.knows going fit.fits
  where
    -- what is settled stays so
    more : (p : PutRootState) (r0 rs r : Memo) → MapBy (settled p.decided p.refused) (RootDoes p r0 rs) r0 rs → SameMap rs r → MapBy (settled p.decided p.refused) (RootDoes p r0 r) r0 r
    more p r0 rs r h same = by_then (settled p.decided p.refused) (RootDoes p r0 rs) (RootDoes p r0 r) r0 rs r (λ d i v k. same k ∙ d i v k) same h

    -- the calls before the deciding one, those that may make it, and those after it
    first : (Q : PutRootCall → Type 0) (m : Or OpenCalls LocateCalls) (t : Trail) {c : PutRootCall} → after_all put_root_parts (First m) t ≡ c → Q (First (after_all (or_control open_control locate_control) m t)) → Q c
    first Q m t there h = at_first (or_control open_control locate_control) (or_control (or_control replace_control enter_control) (or_control unlatch_control drop_root)) Q m t there h

    deciding : (Q : PutRootCall → Type 0) (m : Or ReplaceCalls EnterCalls) (t : Trail) {c : PutRootCall} → after_all put_root_parts (Second (First m)) t ≡ c → Q (Second (First (after_all (or_control replace_control enter_control) m t))) → Q c
    deciding Q m t there h = at_second_first (or_control open_control locate_control) (or_control replace_control enter_control) (or_control unlatch_control drop_root) Q m t there h

    last : (Q : PutRootCall → Type 0) (m : Or UnlatchCalls RootsCall) (t : Trail) {c : PutRootCall} → after_all put_root_parts (Second (Second m)) t ≡ c → Q (Second (Second (after_all (or_control unlatch_control drop_root) m t))) → Q c
    last Q m t there h = at_second_second (or_control open_control locate_control) (or_control replace_control enter_control) (or_control unlatch_control drop_root) Q m t there h

    go : (p : PutRootState) (y : PutRootPoint) (c : PutRootCall) (r0 rs r : Memo) (before t : Trail) (es : List Event) → after_all put_root_parts (put_root_call p y) t ≡ c → PutRootKnows p y r0 rs before es → RootSo p r0 rs r t c
    go p rooting.Open c r0 rs r before t es there known =
        first (RootSo p r0 rs r t) _ t there (at_first open_control locate_control (λ x. RootSo p r0 rs r t (First x)) _ t refl (λ run fit. same_more r0 rs r (same_now r0 rs known.1) (open_still _ rs r t run fit)))
    go p rooting.Locate c r0 rs r before t es there known =
        first (RootSo p r0 rs r t) _ t there (at_second open_control locate_control (λ x. RootSo p r0 rs r t (First x)) _ t refl (λ run fit. same_more r0 rs r known.0.map (locate_quiet _ rs r t run fit).0))
    go p rooting.Replace c r0 rs r before t es there (putting, root, searched, (n, b, word, may), opening) =
        let made = made_so replace_parts replace_plan replace_laws (replacing p.me p.entry p.value) t refl in
        let x : ReplaceCalls = after_all replace_control (calls_of replace_steered (replacing p.me p.entry p.value)) t in
        deciding (RootSo p r0 rs r t) _ t there (at_first replace_control enter_control (λ x. RootSo p r0 rs r t (Second (First x))) _ t refl
        (λ run fit. by_call (replace_decided x) (ReplaceDoes x.plan rs r) (RootDoes p r0 r) r0 rs r putting.map (λ d. replaces p r0 rs r (Some p.me.who) putting n b word may (subst (λ s. ReplaceDoes s rs r) made d)) (replace_so x rs r t run fit)))
    go p rooting.Enter c r0 rs r before t es there known =
        let made = made_so enter_parts enter_plan enter_laws (entering p.me p.key p.value p.home p.first) t refl in
        let x : EnterCalls = after_all enter_control (calls_of enter_steered (entering p.me p.key p.value p.home p.first)) t in
        deciding (RootSo p r0 rs r t) _ t there (at_second replace_control enter_control (λ x. RootSo p r0 rs r t (Second (First x))) _ t refl
        (λ run fit. by_call (enter_decided x) (EnterDoes x.plan rs r) (RootDoes p r0 r) r0 rs r known.0.map (λ d. enters p r0 rs r (Some p.me.who) known.0 (subst (λ s. EnterDoes s rs r) made d)) (enter_so x rs r t run fit)))
    go p rooting.Unlatch c r0 rs r before t es there known =
        last (RootSo p r0 rs r t) _ t there (at_first unlatch_control drop_root (λ x. RootSo p r0 rs r t (Second (Second x))) _ t refl
        (λ run fit. more p r0 rs r (settled_so p.me p.key p.value r0 rs es p.root p.decided p.refused known.still known.map) (unlatch_quiet _ rs r t run fit).0))
    go p rooting.Drop c r0 rs r before t es there (k, is, known) =
        last (RootSo p r0 rs r t) _ t there (at_second unlatch_control drop_root (λ x. RootSo p r0 rs r t (Second (Second x))) _ t refl
        (λ run fit. more p r0 rs r (settled_so p.me p.key p.value r0 rs es p.root p.decided p.refused known.still known.map) (drop_quiet _ rs r t run fit).0))
