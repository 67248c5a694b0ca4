-- the stores of the header and of the link of a zero-count block, as machines use them
use Rattle.std.proofs.Common.{◌≡◌, ℕ, ◌+◌, ◌-◌, refl, sym, ap, ◌∙◌, subst, arith, false, None, inr}
use Rattle.std.proofs.lemmas.{Bool.cond-true, List.Elements.All-contains}
use Rattle.std.specs.List.{filter}
use Rattle.shm_words.specs.Tags.{tag_shape}
use Rattle.shm_graph.specs.declared.{ask.{Ask.TheVariants.Store, Me.Me}, memo.Memo.Memo, spot.Spot.Spot}
use Rattle.shm_graph.specs.{declared.spot.Spot.TheVariants.{Head, Tag}, Spots.spot_at, Blocks.classes}
use Rattle.shm_graph.specs.{Views.{View, view, at1}, Asks.Trail, Reach.{is_dying, learnt}}
use Rattle.shm_graph.specs.{MemoAfterStore.{not_block, not_of}, Changes.called, Laws.{Frame, framed, Stands, KeptAt}}
use Rattle.shm_graph.proofs.Memos.{BodyTold.told_in_body, KnownChange.KnownHolds}
use Rattle.shm_graph.proofs.{Memos.MemoParts.{parts, put_parts, put_same}, StepKinds.KindKeeping.{in_frame, kept_from}}
use Rattle.shm_graph.proofs.Spots.Spotting.{head_at, tag_block, spot_there}
use Rattle.kind_laws.specs.Preparing.{FreeNeeds, free_view, LinkNeeds, link_view}
use Rattle.kind_laws.proofs.{FreeBlock.{free_kept, free_event}, LinkStore.{link_kept, link_quiet}}
use Rattle.kind_parts.specs.Preparing.{MayFree, MayLink}
use Rattle.kind_parts.proofs.BlockTold.{dying_true, no_dying_at, stored_freed, stored_linked}

-- a zero-count block is freed
pub frees : (me : Me) (w : Spot → ℕ) (r : ℕ → Memo) (f : Frame) (tr : Trail) (at b tag : ℕ) → Stands me w r f tr → f.fresh ≡ false → spot_at me.geometry (classes w) at ≡ Head b → MayFree me.geometry.wide (r me.who) b tag
    → KeptAt me w r (Store at 0) f (λ n m. Unit {0}) (spot_at me.geometry (classes w) at)
frees me w r f tr at b tag st going e a =
    let g = me.geometry in
    let c = me.who in
    let v : View = view r in
    let k = a.knows in
    let here : at ≡ b = head_at g (classes w) at b e in
    let step : FreeNeeds g v c b tag = record { inside = st.who; acts = k.here.joined; here = k.here.stays; op = k.idle; dying = k.dying; tagged = k.tagged; zeros = a.zeros } in
    subst (KeptAt me w r (Store at 0) f (λ n m. Unit {0})) (sym e)
    (in_frame (λ h. KeptAt me w r (Store at 0) h (λ n m. Unit {0}) (Head b)) f going
    (kept_from me w r (Store at 0) (record f { fresh = false }) (λ n m. Unit {0}) (Head b) (free_view v c b)
    (told_in_body g (classes w) c (r c) (Store at 0) (Head b) e refl ∙ (stored_freed g (r c) at k.idle (ap (is_dying (r c)) here ∙ dying_true (r c) b k.dying) ∙ ap Head here))
    (sym (ap (λ (u : View). record u { dying = at1 v.dying c (filter (not_block b) (v.dying c)); known = at1 v.known c (filter (not_of b) (v.known c)); test = at1 v.test c None }) (put_same v c)))
    (free_kept g w v c b tag st.held step)
    (free_event g w v c b tag st.held step)
    (inr ((st.held.dying c st.who).listed b k.dying))
    tt tt tt))

-- the link of a zero-count block is stored
pub links : (me : Me) (w : Spot → ℕ) (r : ℕ → Memo) (f : Frame) (tr : Trail) (at b tag x : ℕ) → Stands me w r f tr → f.fresh ≡ false → spot_at me.geometry (classes w) at ≡ Tag b → MayLink me.geometry.wide (r me.who) b tag x
    → KeptAt me w r (Store at x) f (λ n m. Unit {0}) (spot_at me.geometry (classes w) at)
links me w r f tr at b tag x st going e a =
    let g = me.geometry in
    let c = me.who in
    let v : View = view r in
    let k = a.knows in
    let before : at - 1 ≡ b = (let q : b + 1 ≡ at = (tag_block g (classes w) at b e).1 in omega arith) in
    let word : w (Tag b) ≡ tag = (All-contains (KnownHolds g w v c) (r c).known (record { spot = Tag b; value = tag }) (st.held.known c st.who) k.tagged).0 in
    let step : LinkNeeds g w v c b x = record { inside = st.who; acts = k.here.joined; here = k.here.stays; dying = k.dying; place = spot_there g (classes w) at (Tag b) e (λ z. cc); small = a.small; shape = a.shape ∙ ap (tag_shape g.wide) (sym word) } in
    let n : Memo = called (r c) (framed me (Store at x) (record f { fresh = false }) 0) in
    subst (KeptAt me w r (Store at x) f (λ n m. Unit {0})) (sym e)
    (in_frame (λ h. KeptAt me w r (Store at x) h (λ n m. Unit {0}) (Tag b)) f going
    (kept_from me w r (Store at x) (record f { fresh = false }) (λ n m. Unit {0}) (Tag b) (link_view v c b x)
    (told_in_body g (classes w) c (r c) (Store at x) (Tag b) e refl
    ∙ (stored_linked g (r c) at x k.idle (no_dying_at g w r c at (Tag b) st.held st.who e (λ z. cc)) (ap (is_dying (r c)) before ∙ dying_true (r c) b k.dying) ∙ ap Tag before))
    (sym (ap (λ (u : View). record u { known = at1 v.known c (learnt (Tag b) x (v.known c)); test = at1 v.test c None }) (put_same v c))
    ∙ ap (λ (z : Memo). put_parts v c (parts z)) (sym (cond-true _ (record n { known = learnt (Tag b) x n.known }) _ (dying_true (r c) b k.dying))))
    (link_kept g w v c b x st.held step)
    (link_quiet g w v c b x st.held step)
    (inr ((st.held.dying c st.who).listed b k.dying))
    tt tt tt))
