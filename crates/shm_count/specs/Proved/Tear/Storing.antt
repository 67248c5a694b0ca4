-- what a tear-down keeps where it stores a link, and where it frees a block
use Rattle.std.proofs.Common.{◌≡◌, ◌≢◌, ℕ, ◌+◌, ◌≤◌, refl, sym, ap, ◌∙◌, subst, arith, false, List, [], ◌∷◌, ◌++◌}
use Rattle.std.proofs.lemmas.{Bool.{ne_eqb, eqb-true}, List.Elements.Contains-append_right}
use Rattle.std.specs.{Prelude.{◌==◌, if◌then◌else◌, Ok}, List.{Contains, filter}}
use Rattle.shm_words.specs.{declared.tag.Tag.Tag as ATag, Layout.total_of, Tags.{tag_word, TagFits, tag_shape}}
use Rattle.shm_words.proofs.Words.{tag_word_small, tag_refs-word, link_shape}
use Rattle.shm_graph.specs.declared.{ask.{Ask.TheVariants.Store, Me.Me}, spot.Spot.{Spot, TheVariants.{Head, Tag}}}
use Rattle.shm_graph.specs.{declared.memo.Memo.Memo, Asks.{Trail, pair}, Blocks.classes, Changes.memo_on, Events.Event}
use Rattle.shm_graph.specs.{Laws.{Frame, framed, Stands, KeptAt}, Reach.learnt, Spots.spot_at}
use Rattle.shm_graph.specs.{MemoAfterStore.{is_of, not_of, not_block}, Core.core}
use Rattle.shm_graph.specs.declared.memo.Op.TheVariants as op
use Rattle.shm_graph.specs.Events as event
use Rattle.shm_graph.proofs.{Spots.Spotting.same_spot_not, Memos.MemoSteps.recovers_on}
use Rattle.kind_parts.specs.{Conditions.IsHere, Preparing.KnowsDying}
use Rattle.kind_parts.proofs.{BlockTold.{dying_true, dying_block}, DyingSteps.{frees, links}, KeptAfter.kept_with}
use Rattle.kind_parts.proofs.Cores.{here_same}
use Rattle.shm_count.specs.declared.tear_point.TearNext.TheVariants.{Go, Answer}
use Rattle.shm_count.specs.Proved.Retaining.{retains_core, retains_then, slots_learnt, slots_forgotten, named_counted}
use Rattle.shm_count.specs.Proved.Tear.Cores.{stays_then, stays_core, link_core, free_core, settled_same, on_words}
use Rattle.shm_count.specs.Proved.Tear.{Bound.{paid_linked, paid_freed, paid_done}, TagLoads.{TearKept, unchanged}}
use Rattle.shm_count.specs.Proved.Tear.Stacks.{walks_freed, frees_free, others_freed, others_last, outside_other, KeepsBlock, visited_kept, tagged_kept, linked_kept, knows_learnt, knows_other, keeps_learnt, keeps_freed}
use Rattle.shm_count.specs.{Proved.DyingBlocks.dying_tag_spot, Tear.{Control.{word_or_free, freed_next}, Events.Visit}}
use Rattle.shm_count.specs.Tear.{Settled, CanTear, Linked, is_outside, TearAt, TearHolds, NextHolds}
use Rattle.shm_count.specs.Tear.Memos.{TearStays, Retains, IsTagged}
use Rattle.shm_count.specs.declared.tear_point.TearPoint.TheVariants as point

-- no step is in progress at the points beside those of a step down
is_idle : (me : Me) (first : ℕ) (r0 m : Memo) → CanTear me first r0 → TearStays me.who r0 m → m.op ≡ op.Nothing
is_idle me first r0 m can stays = ap (λ (x : Memo). x.op) stays.rest ∙ can.idle

is_here : (me : Me) (first : ℕ) (r0 m : Memo) → CanTear me first r0 → TearStays me.who r0 m → IsHere m
is_here me first r0 m can stays = here_same r0 m (ap (λ (x : Memo). x.status) stays.rest) can.here

-- ---- a link

module _ (me : Me) (first : ℕ) (r0 : Memo) (b : ℕ) (vs : List Visit) (g : ATag) (w : Spot → ℕ) (r : ℕ → Memo) (f : Frame) (tr : Trail) (es : List Event) (st : Stands me w r f tr) (going : f.fresh ≡ false) (can : CanTear me first r0) (fits : TagFits me.geometry.wide g)
    (a : TearAt me first b 0 vs (point.Link g) r0 (r me.who) es tr) where
  abbrev m : Memo
  m = r me.who

  -- the memo after the store, and what was asked then
  abbrev x : ℕ
  x = tag_word me.geometry.wide g

  abbrev m2 : Memo
  m2 = memo_on m (framed me (Store (b + 1) x) f 0) (Tag b)

  abbrev tr2 : Trail
  tr2 = tr ++ pair (Store (b + 1) x) 0 ∷ []

  -- the tag that is known
  abbrev h : ATag
  h = (a.shows.2).0

  old : IsTagged me m b h
  old = (a.shows.2).1

  new : g ≡ record h { link = g.link }
  new = (a.shows.2).2

  link_kept : (after : ℕ → Memo → Type 0) → after 0 m2 → KeptAt me w r (Store (b + 1) x) f after (spot_at me.geometry (classes w) (b + 1))
  link_kept after y =
      let knows : KnowsDying m b (tag_word me.geometry.wide h) = record { here = is_here me first r0 m can a.settled.stays; idle = is_idle me first r0 m can a.settled.stays; dying = a.settled.visited.dying; tagged = old.tag } in
      kept_with me w r (Store (b + 1) x) f after (Tag b) (spot_at me.geometry (classes w) (b + 1)) (dying_tag_spot me.geometry w r me.who b st.held st.who a.settled.visited.dying)
      (links me w r f tr (b + 1) b (tag_word me.geometry.wide h) x st going (dying_tag_spot me.geometry w r me.who b st.held st.who a.settled.visited.dying)
      (record { knows = knows; shape = ap (λ z. tag_shape me.geometry.wide (tag_word me.geometry.wide z)) new ∙ link_shape me.geometry.wide h g.link old.fits.link fits.link; small = tag_word_small me.geometry.wide g fits }))
      y

  cored : core m2 ≡ core (record m { known = learnt (Tag b) x m.known })
  cored = link_core me f m (b + 1) b x (dying_true m b a.settled.visited.dying)

  learns : m2.known ≡ learnt (Tag b) x m.known
  learns = ap (λ (y : Memo). y.known) cored

  same : m2.dying ≡ m.dying
  same = ap (λ (y : Memo). y.dying) cored

  settled : Settled me first b 0 vs r0 m2 es
  settled =
      settled_same me first b 0 vs r0 m m2 es a.settled (stays_core me.who m m2 (learnt (Tag b) x m.known) m.dying cored)
      (retains_core me.who m m2 (learnt (Tag b) x m.known) m.dying cored (slots_learnt (Tag b) x m.known refl)
      (λ d p y named o k. knows_other m m2 (Tag b) x learns p y (same_spot_not (Tag b) p (λ z. named_counted me.geometry w r me.who d b st.held st.who named a.settled.visited.dying (sym (eqb-true b d (ap (is_of d) z ∙ o))))) k)) same
      (recovers_on m (framed me (Store (b + 1) x) f 0) (Tag b))
      (λ j l. absurd (omega arith))

  linked : Linked me m2 g.link vs
  linked = linked_kept me m m2 g.link vs (λ v i. keeps_learnt m m2 (Tag b) x learns v.block same (ne_eqb b v.block (λ e. outside_other vs b v a.settled.apart.0 i (sym e)))) a.shows.1

  tagged : IsTagged me m2 b g
  tagged = record { fits = fits; tag = knows_learnt m m2 (Tag b) x learns; room = subst (λ n. b + 2 + n ≤ total_of me.geometry) (sym (ap (λ (z : ATag). z.refs) new)) old.room }

  link_holds : NextHolds me first r0 b (Go b (word_or_free g 0)) m2 es tr2
  link_holds = on_words me first b 0 0 vs g r0 m2 es tr2 settled tagged linked (omega arith) (paid_linked b vs es tr (pair (Store (b + 1) x) 0) me.geometry.wide g g a.paid)

-- a link is stored
pub link_step : (me : Me) (first : ℕ) (r0 : Memo) (b : ℕ) (g : ATag) (w : Spot → ℕ) (r : ℕ → Memo) (f : Frame) (tr : Trail) (es : List Event) → Stands me w r f tr → f.fresh ≡ false → CanTear me first r0 → TagFits me.geometry.wide g → TearHolds me first r0 b (point.Link g) (r me.who) es tr
    → TearKept me first r0 b w r f tr es (point.Link g)
link_step me first r0 b g w r f tr es st going can fits (k, vs, a) =
    let a0 : TearAt me first b 0 vs (point.Link g) r0 (r me.who) es tr = subst (λ j. TearAt me first b j vs (point.Link g) r0 (r me.who) es tr) a.shows.0 a in
    link_kept me first r0 b vs g w r f tr es st going can fits a0 (λ n y. NextHolds me first r0 b (Go b (word_or_free g 0)) y (es ++ []) (tr ++ pair (Store (b + 1) (tag_word me.geometry.wide g)) n ∷ []))
    (unchanged (λ e. NextHolds me first r0 b (Go b (word_or_free g 0)) (memo_on (r me.who) (framed me (Store (b + 1) (tag_word me.geometry.wide g)) f 0) (Tag b)) e (tr ++ pair (Store (b + 1) (tag_word me.geometry.wide g)) 0 ∷ [])) es
    (link_holds me first r0 b vs g w r f tr es st going can fits a0))

-- ---- the header

module _ (me : Me) (first : ℕ) (r0 : Memo) (b k : ℕ) (g : ATag) (w : Spot → ℕ) (r : ℕ → Memo) (f : Frame) (tr : Trail) (es : List Event) (st : Stands me w r f tr) (going : f.fresh ≡ false) (can : CanTear me first r0) where
  -- the memo before
  abbrev m' : Memo
  m' = r me.who

  -- the memo after the store, what was asked then, and the events
  abbrev free_memo : Memo
  free_memo = memo_on m' (framed me (Store b 0) f 0) (Head b)

  abbrev free_trail : Trail
  free_trail = tr ++ pair (Store b 0) 0 ∷ []

  abbrev free_events : List Event
  free_events = es ++ event.Free me.who b ∷ []

  frees_known : free_memo.known ≡ filter (not_of b) m'.known
  frees_known = ap (λ (y : Memo). y.known) (free_core me f m' b)

  frees_dying : free_memo.dying ≡ filter (not_block b) m'.dying
  frees_dying = ap (λ (y : Memo). y.dying) (free_core me f m' b)

  free_stays : TearStays me.who r0 m' → TearStays me.who r0 free_memo
  free_stays s = stays_then me.who r0 m' free_memo s (stays_core me.who m' free_memo (filter (not_of b) m'.known) (filter (not_block b) m'.dying) (free_core me f m' b))

  -- no block that is named is freed
  free_retains : Contains m'.dying b → TearStays me.who r0 m' → Retains me.who r0 m' → Retains me.who r0 free_memo
  free_retains dies s x =
      retains_then me.who r0 m' free_memo s x
      (retains_core me.who m' free_memo (filter (not_of b) m'.known) (filter (not_block b) m'.dying) (free_core me f m' b) (slots_forgotten b m'.known)
      (λ d p y named o k. (keeps_freed m' free_memo b d frees_known frees_dying (named_counted me.geometry w r me.who d b st.held st.who named dies)).1 p y o k))

  free_kept : (vs : List Visit) (a : TearAt me first b k vs (point.Free g) r0 m' es tr) (after : ℕ → Memo → Type 0) → after 0 free_memo → KeptAt me w r (Store b 0) f after (spot_at me.geometry (classes w) b)
  free_kept vs a after y =
      let t : IsTagged me m' b g = a.shows.0 in
      let l = a.shows.2 in
      let is = dying_block me.geometry w r me.who b st.held st.who a.settled.visited.dying in
      let knows : KnowsDying m' b (tag_word me.geometry.wide g) = record { here = is_here me first r0 m' can a.settled.stays; idle = is_idle me first r0 m' can a.settled.stays; dying = a.settled.visited.dying; tagged = t.tag } in
      kept_with me w r (Store b 0) f after (Head b) (spot_at me.geometry (classes w) b) is
      (frees me w r f tr b b (tag_word me.geometry.wide g) st going is
      (record { knows = knows; zeros = λ i low. a.settled.visited.zeros i (let q = tag_refs-word me.geometry.wide g t.fits in omega arith) }))
      y

  -- the last block is free
  last_holds : (a : TearAt me first b k [] (point.Free g) r0 m' es tr) → NextHolds me first r0 b (freed_next g) free_memo free_events free_trail
  last_holds a =
      subst (λ z. NextHolds me first r0 b (if z == 0 then Answer (Ok tt) else Go z point.Return) free_memo free_events free_trail) (sym a.shows.1)
      (record {
        agent = recovers_on m' (framed me (Store b 0) f 0) (Head b) ∙ a.settled.agent;
        stays = free_stays a.settled.stays;
        retains = free_retains a.settled.visited.dying a.settled.stays a.settled.retains;
        others = frees_dying ∙ others_last b k m'.dying _ a.settled.others;
        walks = walks_freed me.who first es b k [] a.settled.walks;
        bound = paid_done me.geometry.wide b k es free_events tr (pair (Store b 0) 0) g a.paid (frees_free es me.who b);
      })

  -- the block that the link names is gone on with
  back_holds : (v : Visit) (vs : List Visit) (a : TearAt me first b k (v ∷ vs) (point.Free g) r0 m' es tr) → NextHolds me first r0 b (freed_next g) free_memo free_events free_trail
  back_holds v vs a =
      let link = a.shows.1 in
      let o : g.link ≡ v.block = link.0 in
      let some : v.block ≢ 0 = (let u = link.1.inside.0 in λ e. absurd (omega arith)) in
      let keeps : (u : Visit) → u.block ≢ b → KeepsBlock m' free_memo u.block = λ u n. keeps_freed m' free_memo b u.block frees_known frees_dying n in
      let here : KeepsBlock m' free_memo v.block = keeps v (outside_other (v ∷ vs) b v a.settled.apart.0 (0, omega arith, refl)) in
      subst (λ z. NextHolds me first r0 b (if z == 0 then Answer (Ok tt) else Go z point.Return) free_memo free_events free_trail) (sym o)
      (subst (λ q. NextHolds me first r0 b (if q then Answer (Ok tt) else Go v.block point.Return) free_memo free_events free_trail) (sym (ne_eqb v.block 0 some)) (
        v.cleared,
        vs,
        record {
          settled = (record {
            agent = recovers_on m' (framed me (Store b 0) f 0) (Head b) ∙ a.settled.agent;
            stays = free_stays a.settled.stays;
            retains = free_retains a.settled.visited.dying a.settled.stays a.settled.retains;
            visited = visited_kept me m' free_memo v here link.1;
            apart = a.settled.apart.1;
            others = ap (filter (is_outside (v ∷ vs))) frees_dying ∙ others_freed b k (v ∷ vs) m'.dying _ a.settled.others;
            walks = walks_freed me.who first es b k (v ∷ vs) a.settled.walks;
          });
          shows = ((link.2).0, tagged_kept me m' free_memo v.block (link.2).0 here (link.2).1, linked_kept me m' free_memo ((link.2).0).link vs (λ u i. keeps u (outside_other (v ∷ vs) b u a.settled.apart.0 (Contains-append_right (v ∷ []) vs u i))) (link.2).2);
          paid = (paid_freed b vs es tr (pair (Store b 0) 0) k me.geometry.wide v.block v.cleared g free_events a.paid (frees_free es me.who b) link.1.most);
        },
      ))

  free_holds : (vs : List Visit) (a : TearAt me first b k vs (point.Free g) r0 m' es tr) → NextHolds me first r0 b (freed_next g) free_memo free_events free_trail
  free_holds [] a = last_holds a
  free_holds (v ∷ vs) a = back_holds v vs a

-- a block is freed
pub free_step : (me : Me) (first : ℕ) (r0 : Memo) (b : ℕ) (g : ATag) (w : Spot → ℕ) (r : ℕ → Memo) (f : Frame) (tr : Trail) (es : List Event) → Stands me w r f tr → f.fresh ≡ false → CanTear me first r0 → TearHolds me first r0 b (point.Free g) (r me.who) es tr → TearKept me first r0 b w r f tr es (point.Free g)
free_step me first r0 b g w r f tr es st going can (k, vs, a) =
    free_kept me first r0 b k g w r f tr es st going can vs a (λ n y. NextHolds me first r0 b (freed_next g) y (es ++ event.Free me.who b ∷ []) (tr ++ pair (Store b 0) n ∷ []))
    (free_holds me first r0 b k g w r f tr es st going can vs a)
