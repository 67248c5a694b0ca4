-- what a tear-down keeps where it loads a reference word
use Rattle.std.proofs.Common.{◌≡◌, ◌≢◌, ℕ, ◌+◌, ◌%◌, ◌^◌, ◌<◌, refl, sym, ap, ◌∙◌, subst, arith, List, [], ◌∷◌, ◌++◌, Option, Some, None, inl, inr}
use Rattle.std.proofs.lemmas.{Bool.{cases_eq, eq-eqb, ne_eqb, true≢false}, List.append-nil}
use Rattle.std.specs.{Prelude.{◌==◌, if◌then◌else◌, Bool}, List.Contains}
use Rattle.shm_words.specs.{declared.tag.Tag.Tag as ATag, Tags.{tag_word, tag_refs}, Layout.address_limit}
use Rattle.shm_words.proofs.{Placing.total_small, Words.tag_refs-word}
use Rattle.shm_graph.specs.declared.{ask.{Ask.TheVariants.Load, Me.Me}, spot.Spot.Spot}
use Rattle.shm_graph.specs.declared.{spot.Spot.TheVariants.{Home, Era, Tag, Body}, memo.{Memo.Memo, Stored.Stored}}
use Rattle.shm_graph.specs.{Asks.{Trail, pair}, Blocks.classes, Chains.part_set, Changes.{called, memo_on}}
use Rattle.shm_graph.specs.{Events.Event, Laws.{Frame, framed, Stands, KeptAt}, Ops.{cover, cover_of}}
use Rattle.shm_graph.specs.{Reach.{learnt, shown}, Spots.spot_at, Telling.{Claim, claims, claim_of}, Views.own_word}
use Rattle.shm_graph.specs.Core.{core}
use Rattle.shm_graph.specs.declared.memo.Op.TheVariants as op
use Rattle.shm_graph.proofs.{Machines.Calling.called_part, Memos.{LoadTold.claim_found, MemoSteps.recovers_on}}
use Rattle.kind_parts.specs.{Conditions.IsHere, LoadNeeds.{IsCovered, IsSettled, MayLookBy, MayLook}}
use Rattle.kind_parts.proofs.{BeginWords.{listed_covered, known_here}, BlockTold.dying_true, BodyLoads.word_loaded}
use Rattle.kind_parts.proofs.{KeptAfter.kept_with, Cores.{room_least, here_same}}
use Rattle.kind_parts.proofs.BeginWords as begin
use Rattle.shm_count.specs.declared.tear_point.TearNext.TheVariants.{Go}
use Rattle.shm_count.specs.Proved.DyingBlocks.{dying_spot, dying_target, dying_part}
use Rattle.shm_count.specs.Proved.Retaining.{retains_core, slots_learnt}
use Rattle.shm_count.specs.Proved.Tear.{Cores.{stays_core, word_core, settled_same, on_words}, Laws.word_address_is}
use Rattle.shm_count.specs.Proved.Tear.Bound.{paid_again, paid_empty, paid_found}
use Rattle.shm_count.specs.Proved.Tear.TagLoads.{TearKept, still_known, load_keeps, unchanged}
use Rattle.shm_count.specs.{Proved.Tear.Stacks.{walks_later, knows_learnt, linked_kept, tagged_kept}, Step.CanStep}
use Rattle.shm_count.specs.Tear.{Control.{word_address, word_or_free, word_next}, Events.Visit}
use Rattle.shm_count.specs.Tear.{Settled, CanTear, Linked, TearAt, TearHolds, NextHolds}
use Rattle.shm_count.specs.Tear.Memos.{Knows, IsTagged, IsFound}
use Rattle.shm_count.specs.declared.point.Aim.TheVariants as aims
use Rattle.shm_count.specs.declared.point.StepPoint.TheVariants as step
use Rattle.shm_count.specs.declared.tear_point.TearPoint.TheVariants as point

-- ---- addresses

-- ---- the load

-- a word that no step covers is settled
settled_word : (wide : Bool) (m : Memo) (c b i : ℕ) → m.op ≡ op.Nothing → MayLook wide c m b i
settled_word wide m c b i idle = go (claim_of wide c m (b + 2 + i))
  where
    go : (o : Option Claim) → MayLookBy o m.latch (IsSettled m (Body b i))
    go None = tt
    go (Some k) = λ _ x. ap (λ o. cover (cover_of o) (Body b i) x) idle

module _ (me : Me) (first : ℕ) (r0 : Memo) (b k : ℕ) (vs : List Visit) (g : ATag) (i : ℕ) (w : Spot → ℕ) (r : ℕ → Memo) (f : Frame) (tr : Trail) (es : List Event) (st : Stands me w r f tr) (can : CanTear me first r0)
    (a : TearAt me first b k vs (point.Word g i) r0 (r me.who) es tr) where
  abbrev c : ℕ
  c = me.who

  abbrev m : Memo
  m = r c

  abbrev at : ℕ
  at = word_address b i

  -- the word, the memo after its load, and what was asked then
  abbrev n : ℕ
  n = w (Body b i)

  abbrev m2 : Memo
  m2 = memo_on m (framed me (Load at) f n) (Body b i)

  abbrev tr2 : Trail
  tr2 = tr ++ pair (Load at) n ∷ []

  tag : IsTagged me m b g
  tag = a.shows.0

  idle : m.op ≡ op.Nothing
  idle = ap (λ (x : Memo). x.op) a.settled.stays.rest ∙ can.idle

  here : at ≡ b + 2 + i
  here = word_address_is me b i can.geometry (let l = tag.room in let u = a.shows.2 in omega arith)

  low : i < tag_refs me.geometry.wide (tag_word me.geometry.wide g)
  low = subst (λ z. i < z) (sym (tag_refs-word me.geometry.wide g tag.fits)) a.shows.2

  low_here : i < tag_refs me.geometry.wide (w (Tag b))
  low_here = subst (λ z. i < tag_refs me.geometry.wide z) (sym ((known_here me.geometry w r c st.held st.who (Tag b) (tag_word me.geometry.wide g) tag.tag).0)) low

  there : spot_at me.geometry (classes w) at ≡ Body b i
  there = ap (spot_at me.geometry (classes w)) here ∙ dying_spot me.geometry w r c b st.held st.who a.settled.visited.dying i low_here

  -- the load, with what holds of the memo then
  word_kept : (after : ℕ → Memo → Type 0) → after n m2 → KeptAt me w r (Load at) f after (spot_at me.geometry (classes w) at)
  word_kept after x =
      kept_with me w r (Load at) f after (Body b i) (spot_at me.geometry (classes w) at) there
      (word_loaded me w r f tr at b i st there (subst (IsCovered me.geometry.wide c m) (sym here) (listed_covered me.geometry.wide c m b i (tag_word me.geometry.wide g) tag.tag low)) (settled_word me.geometry.wide m c b i idle))
      x

  -- something is told of the word
  told : (j : Claim) × (claim_of me.geometry.wide c (called m (framed me (Load at) f n)) (b + 2 + i) ≡ Some j)
  told =
      let N : Memo = called m (framed me (Load at) f n) in
      let known : Knows N (Tag b) (tag_word me.geometry.wide g) = subst (λ (ks : List Stored). Contains ks (record { spot = Tag b; value = tag_word me.geometry.wide g })) (sym (called_part (λ (x : Memo). x.known) m (framed me (Load at) f n) refl refl)) tag.tag in
      let y = listed_covered me.geometry.wide c N b i (tag_word me.geometry.wide g) known low in
      claim_found (b + 2 + i) (claims me.geometry.wide c N) y.0 y.1 y.2

  cored : core m2 ≡ core (record m { known = learnt (Body b i) n m.known })
  cored = word_core me f m at b i n told.0 (dying_true m b a.settled.visited.dying) told.1

  learns : m2.known ≡ learnt (Body b i) n m.known
  learns = ap (λ (x : Memo). x.known) cored

  same : m2.dying ≡ m.dying
  same = ap (λ (x : Memo). x.dying) cored

  known_still : (q : Spot) (y : ℕ) → Knows m q y → Knows m2 q y
  known_still = still_known m m2 (Body b i) n learns (λ y h. (known_here me.geometry w r c st.held st.who (Body b i) y h).0)

  settled : Settled me first b k vs r0 m2 es
  settled =
      settled_same me first b k vs r0 m m2 es a.settled (stays_core c m m2 (learnt (Body b i) n m.known) m.dying cored)
      (retains_core c m m2 (learnt (Body b i) n m.known) m.dying cored (slots_learnt (Body b i) n m.known refl) (λ d p x e o h. known_still p x h)) same
      (recovers_on m (framed me (Load at) f n) (Body b i))
      (λ j l. known_still (Body b j) 0 (a.settled.visited.zeros j l))

  linked : Linked me m2 g.link vs
  linked = linked_kept me m m2 g.link vs (λ v _. load_keeps m m2 v.block same known_still) a.shows.1

  tagged : IsTagged me m2 b g
  tagged = tagged_kept me m m2 b g (load_keeps m m2 b same known_still) tag

  -- ---- an empty word

  -- one that is done with
  again : i < k → TearHolds me first r0 b (word_or_free g (i + 1)) m2 es tr2
  again l = on_words me first b k (i + 1) vs g r0 m2 es tr2 settled tagged linked (omega arith) (paid_again b vs es tr (pair (Load at) n) k me.geometry.wide g g i l a.paid)

  -- and the next one
  one_more : i ≡ k → n ≡ 0 → Settled me first b (k + 1) vs r0 m2 es
  one_more e zero =
      let s = settled in
      let low = a.shows.2 in
      let most = tag.fits.refs in
      record {
        agent = s.agent;
        stays = s.stays;
        retains = s.retains;
        visited = record {
          inside = s.visited.inside;
          room = s.visited.room;
          dying = s.visited.dying;
          most = omega arith;
          zeros = λ j l. elim (cases_eq j k) [
            | inl u ↦ subst (λ z. Knows m2 (Body b z) 0) (e ∙ sym u) (subst (Knows m2 (Body b i)) zero (knows_learnt m m2 (Body b i) n learns))
            | inr u ↦ s.visited.zeros j (omega arith)
          ];
        };
        apart = s.apart;
        others = s.others;
        walks = walks_later c first es b k (k + 1) vs (omega arith) s.walks;
      }

  next_one : i ≡ k → n ≡ 0 → TearHolds me first r0 b (word_or_free g (i + 1)) m2 es tr2
  next_one e zero =
      let low = a.shows.2 in
      let most = tag.fits.refs in
      on_words me first b (k + 1) (i + 1) vs g r0 m2 es tr2 (one_more e zero) tagged linked (omega arith) (paid_empty b vs es tr (pair (Load at) n) k me.geometry.wide g g i e (omega arith) a.paid)

  empty_holds : n ≡ 0 → TearHolds me first r0 b (word_or_free g (i + 1)) m2 es tr2
  empty_holds zero = elim (cases_eq i k) [ inl u ↦ next_one u zero | inr u ↦ again (let l = a.shows.3 in omega arith) ]

  -- ---- a word that names a block

  -- it is the next one, for those before are known to be empty
  is_next : n ≢ 0 → i ≡ k
  is_next some = elim (cases_eq i k) [ inl u ↦ u | inr u ↦ absurd (some ((known_here me.geometry w r c st.held st.who (Body b i) 0 (a.settled.visited.zeros i (let l = a.shows.3 in omega arith))).0)) ]

  room : own_word m2.own (Era c c) < 2 ^ 47
  room =
      let e : own_word m2.own (Era c c) ≡ own_word m.own (Era c c) = ap (λ (x : Memo). own_word x.own (Era c c)) cored in
      let y : own_word m.own (Era c c) ≡ w (Era c c) = st.held.mine c st.who (Era c c) (eq-eqb c c refl) in
      let o = (st.held.own c st.who).room in
      let least = room_least m.op in
      omega arith

  found : n ≢ 0 → IsFound me m2 b i n
  found some =
      let y = dying_target me.geometry w r c b st.held st.who a.settled.visited.dying idle i low_here some in
      record {
        some = some;
        inside = y.1;
        room = y.2;
        counted = λ h. y.0 (subst (λ (ds : List ℕ). Contains ds n) same h);
        word = knows_learnt m m2 (Body b i) n learns;
        era = room;
        part = subst (λ (x : Memo). part_set x.known c (shown x (Home c)) (Body b i) 0 x.part ≡ x.part) (sym cored) (dying_part me.geometry w r c b st.held st.who a.settled.visited.dying idle (learnt (Body b i) n m.known) i 0);
      }

  -- the step down may begin
  may_step : n ≢ 0 → CanStep me at (aims.Down n) (Body b i) m2
  may_step some =
      let y = found some in
      let own : m2.op ≡ op.Nothing = ap (λ (x : Memo). x.op) cored ∙ idle in
      let is : IsHere m2 = here_same r0 m2 (ap (λ (x : Memo). x.status) settled.stays.rest) can.here in
      record {
        geometry = can.geometry;
        who = st.who;
        here = is;
        idle = own;
        client = λ e. absurd (true≢false (sym e));
        at = here ∙ sym (begin.word_address me.geometry b i);
        inside = (let u = a.settled.visited.inside.0 in let l = tag.room in let z = a.shows.2 in let q = here in (omega arith, omega arith));
        blocks = y.inside;
        can = λ l. record {
          may = record { here = is; idle = own; room = omega arith };
          some = some;
          word = record { told = (begin.claim_by me.geometry.wide b (tag_word me.geometry.wide g), begin.listed_told me.geometry.wide c m2 b (tag_word me.geometry.wide g) tagged.tag, refl, low, inl settled.visited.dying); word = y.word };
        };
        put = tt;
        reach = λ e. absurd (true≢false (sym e));
        part = inr (inl settled.visited.dying);
        queued = λ l u e. absurd (true≢false (sym e));
      }

  found_holds : n ≢ 0 → TearHolds me first r0 b (point.Down g i n step.Era) m2 es tr2
  found_holds some = (
    k,
    vs,
    m2,
    es,
    record { settled = settled; shows = (tagged, linked, a.shows.2, is_next some, found some); paid = (paid_found b vs es tr (pair (Load at) n) k me.geometry.wide g g i n a.paid) },
    sym (append-nil es),
    may_step some,
    record { agent = refl; has = (refl, tt) },
  )

  -- ---- both

  next_holds : NextHolds me first r0 b (word_next b g i n) m2 es tr2
  next_holds =
      elim (cases_eq n 0) [
        | inl e ↦ subst (λ z. NextHolds me first r0 b (word_next b g i z) m2 es tr2) (sym e) (empty_holds e)
        | inr some ↦ (let y = found some in
            let t = total_small me.geometry can.geometry in
            let u = y.inside.1 in
            let e : n % address_limit ≡ n = omega arith in
            subst (λ z. NextHolds me first r0 b (Go b (if z == 0 then word_or_free g (i + 1) else point.Down g i z step.Era)) m2 es tr2) (sym e)
            (subst (λ q. TearHolds me first r0 b (if q then word_or_free g (i + 1) else point.Down g i n step.Era) m2 es tr2) (sym (ne_eqb n 0 some)) (found_holds some)))
      ]

-- a reference word is loaded
pub word_step : (me : Me) (first : ℕ) (r0 : Memo) (b : ℕ) (g : ATag) (i : ℕ) (w : Spot → ℕ) (r : ℕ → Memo) (f : Frame) (tr : Trail) (es : List Event) → Stands me w r f tr → CanTear me first r0 → TearHolds me first r0 b (point.Word g i) (r me.who) es tr → TearKept me first r0 b w r f tr es (point.Word g i)
word_step me first r0 b g i w r f tr es st can (k, vs, a) =
    let n = w (Body b i) in
    let at = word_address b i in
    word_kept me first r0 b k vs g i w r f tr es st can a (λ n x. NextHolds me first r0 b (word_next b g i n) x (es ++ []) (tr ++ pair (Load at) n ∷ []))
    (unchanged (λ e. NextHolds me first r0 b (word_next b g i n) (memo_on (r me.who) (framed me (Load at) f n) (Body b i)) e (tr ++ pair (Load at) n ∷ [])) es
    (next_holds me first r0 b k vs g i w r f tr es st can a))
