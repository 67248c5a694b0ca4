-- What an allocation of a node leaves.
use Rattle.std.proofs.Common.{◌≡◌, ◌≢◌, ℕ, ◌+◌, ◌<◌, ◌≤◌, Bool, true, false, cond, List, [], ◌∷◌, length, append-nil, refl, sym, ap, ◌∙◌, subst, arith, inl, inr}
use Rattle.std.proofs.lemmas.{Bool.{cases_Bool, ne_eqb}, List.get_or-take}
use Rattle.std.proofs.lemmas.List.Elements.{All-contains, Contains-append_left}
use Rattle.std.specs.{Prelude.{Result, Ok, Err, slice_index}, List.Contains}
use Rattle.shm_words.specs.{declared.{geometry.Geometry.Geometry, tag.Tag.Tag as ATag}, Layout.place_limit}
use Rattle.shm_words.specs.Tags.{TagFits, tag_plain, tag_refs, tag_word}
use Rattle.shm_words.proofs.Words.{live_not_zero, tag_plain-word, tag_refs-word}
use Rattle.shm_graph.specs.declared.{ask.Me.Me, memo.{Memo.Memo, Stored.Stored}, spot.Spot.Spot}
use Rattle.shm_graph.specs.{declared.spot.Spot.TheVariants.{Body, Head, Home, Root, Tag}, Asks.Trail}
use Rattle.shm_graph.specs.{Bounds.alloc_steps, Blocks.{IsLive, headers}}
use Rattle.shm_graph.specs.{Events.{Alloc, Event, Graph, Happens, graph_of}, Held.{HeldAt, is_loose}, Runs.memos_of}
use Rattle.shm_graph.specs.{Spots.see, Views.{View, own_word, view}}
use Rattle.shm_graph.proofs.{Memos.KnownChange.KnownHolds, States.Holders.{held_live_not_zero, reach_counted}}
use Rattle.shm_plain.specs.{Calls.Did, Pools.{Pool, memo_of, pool}}
use Rattle.shm_count.specs.{declared.answer.Made.Made, Roots.root_word, Tear.Memos.Knows}
use Rattle.shm_alloc.specs.declared.{alloc.AllocFault.AllocFault, point.AllocState.AllocState}
use Rattle.shm_alloc.specs.Alloc.{Control.tag_asked, AllocGives, IsPrepared, MadeGives, goal_of, more_stored}
use Rattle.shm_alloc.specs.declared.alloc.AllocFault.TheVariants as fault
use Rattle.shm_alloc.proofs.AllocBound.{alloc_bound}
use Rattle.shm_client.specs.Allocating.{IsAskedNear}
use Rattle.shm_tree.specs.{declared.{hints.Hints.Hints, node.Content.Content}, Asking.IsAskedBy, Bounds.make_steps}
use Rattle.shm_tree.specs.{Causes.AllocRefused, Keeping.{IsMade, IsStill, KeepsNodes, is_live, made_in}}
use Rattle.shm_tree.specs.{Standing.{IsNode, word_of}, Working.{DiedIn, HasRoom, IsSameLatch, IsWorking, Reaches}}
use Rattle.shm_tree.specs.declared.stop.Stop.TheVariants as stop
use Rattle.shm_tree.proofs.Alive.{IsHomeless, IsOn, IsQuiet, after, before, known_tag, known_word, still, works}
use Rattle.shm_tree.proofs.Firsts.{first_tells}
use Rattle.shm_tree.proofs.Nodes.{IsCalm, as_started, calm_first, calm_held, from_started, life_same, node_kept, trees_kept}
use Rattle.shm_tree.proofs.{Reach.reach_grows, Shares.within_self}

-- ---- a tag

tag_told : (wide : Bool) (x : ATag) → TagFits wide x → (tag_refs wide (tag_word wide x) ≡ x.refs) × (tag_plain wide (tag_word wide x) ≡ x.plain)
tag_told wide x f = (tag_refs-word wide x f, tag_plain-word wide x f)

-- ---- an allocation

module _ (p q : Pool) (es : List Event) (on : IsOn p q es) (c : Content) (h : ℕ) (m : AllocState) (asked : IsAskedNear p.start.geometry 0 2 (c.key ∷ c.number ∷ h ∷ []) m.request.near m) where
  abbrev r0 : Memo
  r0 = memo_of p 0

  abbrev r : Memo
  r = memo_of q 0

  abbrev tr : Trail
  tr = r.call

  abbrev xs : List ℕ
  xs = c.key ∷ c.number ∷ h ∷ []

  quiet : (a : Result Made AllocFault) → AllocGives m r0 r tr a → IsQuiet r0 r
  quiet a y =
      record {
        loose = ap (λ z. is_loose z) y.holds.stays.part;
        unsent = λ j. ap (λ z. slice_index z j) y.holds.stays.unsent;
        untaken = λ j. ap (λ z. slice_index z j) y.holds.stays.untaken;
      }

  pub make_works : (a : Result Made AllocFault) → AllocGives m r0 r tr a → IsHomeless es → IsWorking q
  make_works a y homeless = works p q es on (quiet a y) homeless y.holds.stays.dying

  pub make_latch : (a : Result Made AllocFault) → AllocGives m r0 r tr a → IsSameLatch p q
  make_latch a y = y.holds.stays.latch

  -- and takes so many word steps at most
  pub make_within : (x n : ℕ) (a : Result Made AllocFault) → AllocGives m r0 r tr a → n + length tr ≡ x → x ≤ n + make_steps p.start.geometry
  make_within x n a y spent =
      let most : length tr ≤ alloc_steps m.me.geometry.wide m.me.geometry.segments = alloc_bound m.me m.request asked.fits tr a y.trail in
      let here : length tr ≤ make_steps p.start.geometry = subst (λ (z : Me). length tr ≤ alloc_steps z.geometry.wide z.geometry.segments) asked.me most in
      omega (arith, spent, here)

  -- ---- it was refused

  pub refused_still : (f : AllocFault) → AllocGives m r0 r tr (Err f) → es ≡ [] → IsStill p q
  refused_still f y none = still p q es on none (λ k. ap (λ ks. own_word ks (Root 0 k)) y.holds.gives.0.own) y.holds.stays.dying

  pub refused_reaches : (f : AllocFault) → AllocGives m r0 r tr (Err f) → Reaches p q
  refused_reaches f y d reach =
      reach_grows 0 r0 r [] [] d on.working.work.idle.op on.at.idle.op (λ k some. ap (λ ks. own_word ks (Root 0 k)) y.holds.gives.0.own) (ap (λ ks. own_word ks (Home 0)) y.holds.gives.0.own) y.holds.gives.0.known
      (y.holds.stays.looks ∙ sym (append-nil r0.looks)) reach

  pub make_room : HasRoom p → AllocGives m r0 r tr (Err fault.RootsFull) → ⊥
  make_room (k, low, empty) y = y.holds.gives.1.1 k low (ap (λ (z : Me). own_word r0.own (Root z.who k)) asked.me ∙ empty)

  pub make_cause : (hints : Hints) (f : AllocFault) → IsAskedBy hints p.start.geometry xs m → AllocGives m r0 r tr (Err f) → AllocRefused hints p q f
  make_cause hints f by y = (m, xs, refl, by, within_self (λ a b t zs. AllocGives m a b t (Err f)) p q es on y)

  -- ---- it was done

  module _ (a : Made) (y : AllocGives m r0 r tr (Ok a)) (told : es ≡ Alloc 0 a.root a.block ∷ []) (low : a.root < 16) (names : root_word 0 r a.root ≡ a.block) (others : (k : ℕ) → k ≢ a.root → root_word 0 r k ≡ root_word 0 r0 k) where
    abbrev b : ℕ
    b = a.block

    abbrev alloc : List Event
    alloc = Alloc 0 a.root b ∷ []

    did : Did 0 p q alloc
    did = subst (Did 0 p q) told on.did

    gives : MadeGives m.me m.request r0 r a
    gives = y.holds.gives

    wide : m.me.geometry.wide ≡ p.start.geometry.wide
    wide = ap (λ (z : Me). z.geometry.wide) asked.me

    empty : root_word 0 r0 a.root ≡ 0
    empty = ap (λ (z : Me). own_word r0.own (Root z.who a.root)) (sym asked.me) ∙ gives.empty

    started : IsCalm (pool p.start q.words q.accounts q.turns)
    started = as_started IsCalm p q on.start (after p q es on)

    -- what is known of the new block's words
    knows : (s : Spot) (x : ℕ) → Contains gives.knows.0.words (record { spot = s; value = x }) → Knows r s x
    knows s x it = subst (λ (ks : List Stored). Contains ks (record { spot = s; value = x })) (sym gives.knows.1) (Contains-append_left gives.knows.0.words r0.known (record { spot = s; value = x }) it)

    prepared : IsPrepared m.me.geometry.wide m.me.who m.request b m.request.refs m.request.count gives.knows.0
    prepared = gives.knows.2

    tag_is : see p.start.geometry q.words (Tag b) ≡ tag_asked m.me.geometry.wide m.request m.me.who
    tag_is = known_tag p q es on b _ (knows (Tag b) _ prepared.tag)

    refs_two : m.request.refs ≡ 2
    refs_two = asked.refs

    count_three : m.request.count ≡ 3
    count_three = asked.count

    tag_fits : TagFits m.me.geometry.wide (record { refs = m.request.refs; plain = m.request.count; author = m.me.who; link = 0 })
    tag_fits =
        record {
          refs = let e = refs_two in omega (arith, e);
          plain = let e = count_three in omega (arith, e);
          author = let e = ap (λ (z : Me). z.who) asked.me in omega (arith, e);
          link = by m.me.geometry.wide;
        }
      where
        by : (z : Bool) → 0 < place_limit z
        by true = omega arith
        by false = omega arith

    refs_told : tag_refs p.start.geometry.wide (see p.start.geometry q.words (Tag b)) ≡ 2
    refs_told = ap (tag_refs p.start.geometry.wide) tag_is ∙ (ap (λ z. tag_refs z (tag_asked m.me.geometry.wide m.request m.me.who)) (sym wide) ∙ ((tag_told m.me.geometry.wide _ tag_fits).0 ∙ refs_two))

    plain_told : tag_plain p.start.geometry.wide (see p.start.geometry q.words (Tag b)) ≡ 3
    plain_told = ap (tag_plain p.start.geometry.wide) tag_is ∙ (ap (λ z. tag_plain z (tag_asked m.me.geometry.wide m.request m.me.who)) (sym wide) ∙ ((tag_told m.me.geometry.wide _ tag_fits).1 ∙ count_three))

    zero_is : (j : ℕ) → j < 2 → see p.start.geometry q.words (Body b j) ≡ 0
    zero_is j l = known_word p q es on b j 0 (knows (Body b j) 0 (prepared.zeros j (let e = refs_two in omega (arith, l, e))))

    word_is : (j : ℕ) → j < 3 → see p.start.geometry q.words (Body b (2 + j)) ≡ slice_index xs j
    word_is j l =
        ap (λ z. see p.start.geometry q.words (Body b (z + j))) (sym refs_two)
        ∙ (known_word p q es on b (m.request.refs + j) (slice_index m.request.plain j) (knows (Body b (m.request.refs + j)) (slice_index m.request.plain j) (prepared.words j (let e = count_three in omega (arith, l, e))))
        ∙ (sym (get_or-take 3 m.request.plain j 0 l) ∙ ap (λ zs. slice_index zs j) asked.plain))

    -- the block is live: it is in reach, or its count is 0
    live_there : IsLive (headers (see p.start.geometry q.words)) b
    live_there =
        let g : Geometry = p.start.geometry in
        let w : Spot → ℕ = see g q.words in
        let v : View = view (memos_of q.accounts) in
        let held : HeldAt g w v = calm_held (pool p.start q.words q.accounts q.turns) started in
        let first : 0 < g.clients = calm_first p (before p q es on) in
        let tag : Stored = record { spot = Tag b; value = tag_asked m.me.geometry.wide m.request m.me.who } in
        let is : KnownHolds g w v 0 tag = All-contains (KnownHolds g w v 0) r.known tag (held.known 0 first) (knows (Tag b) _ prepared.tag) in
        elim is.1 [
          | inl dying ↦ ((held.dying 0 first).listed b dying).0
          | inr reach ↦ (reach_counted g w v held 0 b first reach).0
        ]

    node_there : IsNode (pool p.start q.words q.accounts q.turns) b c.key c.number h
    node_there =
        record {
          some = held_live_not_zero p.start.geometry (see p.start.geometry q.words) (view (memos_of q.accounts)) (calm_held (pool p.start q.words q.accounts q.turns) started) b live_there;
          live = live_there;
          refs = refs_told;
          plain = plain_told;
          key = word_is 0 (omega arith);
          number = word_is 1 (omega arith);
          height = word_is 2 (omega arith);
        }

    node_here : IsNode q b c.key c.number h
    node_here = from_started (λ z. IsNode z b c.key c.number h) p q on.start node_there

    -- it wasn't live
    fresh : is_live p b ≡ false
    fresh = first_tells 0 p q (Alloc 0 a.root b) [] on.working.run on.run on.start did (λ (z : Graph). z.live b ≡ false) (λ x z same l. sym (same.lives b) ∙ l) tells
      where
        tells : (w : Spot → ℕ) (x z : Graph) (v : View) → x ≡ graph_of p.start.geometry w v → Happens p.start.geometry w (Alloc 0 a.root b) x z → x.live b ≡ false
        tells w x z v same it =
            elim (cases_Bool (headers w b).live) [
              | inr e ↦ ap (λ (y : Graph). y.live b) same ∙ e
              | inl e ↦ absurd (live_not_zero (w (Head b)) e it.0.1)
            ]

    nodes : KeepsNodes p q
    nodes d i n k it = node_kept p q alloc (before p q es on) (after p q es on) on.start did d i n k (record { freed = (refl, tt); left = (refl, tt); right = (refl, tt) }) it

    pub make_made : IsMade c h a p q
    make_made =
        record {
          born = record {
            rooted = record { low = low; empty = empty; names = names; others = others };
            fresh = fresh;
            live = node_here.live;
            nodes = nodes;
            trees = trees_kept p q nodes;
            lives = λ d other. life_same p q alloc (before p q es on) (after p q es on) on.start did d ((ne_eqb b d (λ e. other (sym e)), refl), tt);
            made = (alloc, did, (let one : made_in alloc ≡ 1 = refl in omega (arith, one)));
          };
          node = node_here;
          left = from_started (λ z. word_of z (Body b 0) ≡ 0) p q on.start (zero_is 0 (omega arith));
          right = from_started (λ z. word_of z (Body b 1) ≡ 0) p q on.start (zero_is 1 (omega arith));
        }

    pub make_reaches : Reaches p q
    make_reaches d reach =
        reach_grows 0 r0 r gives.knows.0.words [] d on.working.work.idle.op on.at.idle.op (λ k some. others k (λ e. some (ap (root_word 0 r0) e ∙ empty))) home gives.knows.1
        (y.holds.stays.looks ∙ sym (append-nil r0.looks)) reach
      where
        home : own_word r.own (Home 0) ≡ own_word r0.own (Home 0)
        home = ap (λ (ks : List Stored). own_word ks (Home 0)) gives.own ∙ by m.me.geometry.wide
          where
            by : (z : Bool) → own_word (cond z (more_stored m.me (goal_of m.me r0 a) b ∷ r0.own) r0.own) (Home 0) ≡ own_word r0.own (Home 0)
            by true = refl
            by false = refl

-- a refusal is no want of word steps
pub full_over : (s b : ℕ) (p q : Pool) (x : ℕ) → DiedIn (stop.Full s b) p q x
full_over s b p q x e = absurd cc

pub spent_over : (e : ℕ) (p q : Pool) (x : ℕ) → DiedIn (stop.EraSpent e) p q x
spent_over e p q x d = absurd cc
