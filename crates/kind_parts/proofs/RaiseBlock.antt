-- the exchange of a header that raises a block, as machines use it
use Rattle.std.proofs.Common.{◌≡◌, ◌≢◌, ℕ, ◌<◌, refl, sym, ap, ◌∙◌, true, false, subst, inl, inr, None, List, Option, [], eq-eqb, ◌%◌, ◌+◌, ◌∷◌, ◌≤◌, ◌⊎◌}
use Rattle.std.proofs.lemmas.{List.Elements.{All-cons, All-contains, All-nil}, Bool.true≢false}
use Rattle.std.specs.{List.{All, filter}, Prelude.slice_index}
use Rattle.shm_graph.specs.Held.{Allowed, HeldAt, InLooks, LookAt, LooksSound, is_loose, is_slot, is_slot_to, named_by}
use Rattle.shm_graph.specs.declared.memo.{First.TheVariants.{Begun, Committed}, Look.Look, Memo.Memo, Op.TheVariants.Up}
use Rattle.shm_graph.specs.declared.spot.Spot.TheVariants.{Body, Era, QueueHead, Head, Home, Root, Slot, Tag, Tail}
use Rattle.shm_graph.specs.declared.{spot.Spot.Spot, ask.{Ask.TheVariants.Exchange, Me.Me}, table.Part.Part}
use Rattle.shm_graph.specs.{Laws.{Frame, KeptAt, Stands, event_of, framed}, Events.{Happens, graph_of}}
use Rattle.shm_graph.specs.{Tables.{HasShape, contents_of}, Ops.{On, cover, is_op, slot_of}, Asks.Trail}
use Rattle.shm_graph.specs.{Views.{View, at1, own_word, targets, view}, Changes.called, Blocks.classes}
use Rattle.shm_graph.specs.{MemoAfterExchange.{exchanged_on, reparted, committed}, MemoAfterStore.not_block}
use Rattle.shm_graph.specs.{Chains.part_set, Spots.{spot_at, upd}}
use Rattle.shm_graph.proofs.States.{Holders.{Holds, InReach, reach_target, target_counted}, Reached.reached_here}
use Rattle.shm_graph.proofs.Memos.{KnownChange.ValueHolds, MemoParts.{parts, put_parts, put_same}}
use Rattle.shm_graph.proofs.{Memos.BodyTold.told_exchange, StepKinds.KindKeeping.{in_frame, kept_exchange}}
use Rattle.shm_words.specs.{declared.geometry.Geometry.Geometry, Headers.header_of, Tags.tag_author}
use Rattle.kind_parts.specs.Raising.{IsReparted, MayRaise, OwnRowShows}
use Rattle.kind_parts.proofs.MemoCommits.{IsSender, unsent_list, unsent_raised, with_unsent_is}
use Rattle.kind_parts.proofs.PartsSet.{loose_stays, part_tie}
use Rattle.kind_laws.specs.HeaderExchanges.{RowShows, UpNeeds, up_view}
use Rattle.kind_laws.proofs.UpBlock.{up_event, up_kept}

-- ---- what is in reach is named

-- a word that names the block, and that is no root of another
abbrev pub IsNamedBy : (Spot → ℕ) → ℕ → ℕ → Spot → Type 0
IsNamedBy t c b q = (t q ≡ b) × ((d k : ℕ) → q ≡ Root d k → d ≡ c)

-- the word that a look was read from
look_names : (t : Spot → ℕ) (author : ℕ → ℕ) (latch : Option ℕ) (reach : ℕ → Type 0) (c : ℕ) (p : Spot) (b : ℕ) → LookAt (λ a. t (Home a)) (λ d i. t (Body d i)) author latch reach p b → (q : Spot) × IsNamedBy t c b q
look_names t author latch reach c (Home a) b y = (Home a, (y.2, λ d k e. cc))
look_names t author latch reach c (Body d i) b y = (Body d i, (y.2, λ a k e. cc))
look_names t author latch reach c _ b y = absurd y

looks_name : (t : Spot → ℕ) (author : ℕ → ℕ) (latch : Option ℕ) (named : ℕ → Type 0) (c : ℕ) (earlier ks : List Look) → LooksSound (λ a. t (Home a)) (λ d i. t (Body d i)) author latch named earlier ks → All (λ (k : Look). (q : Spot) × IsNamedBy t c k.block q) ks
looks_name t author latch named c earlier [] x = All-nil (λ (k : Look). (q : Spot) × IsNamedBy t c k.block q)
looks_name t author latch named c earlier (k ∷ ks) x =
    All-cons (λ (k : Look). (q : Spot) × IsNamedBy t c k.block q) k ks
    (look_names t author latch (λ b. named b ⊎ InLooks earlier b) c k.from k.block x.0)
    (looks_name t author latch named c (k ∷ earlier) ks x.1)

pub reach_names : (g : Geometry) (w : Spot → ℕ) (v : View) (c b : ℕ) → HeldAt g w v → c < g.clients → InReach w g v c b → (q : Spot) × IsNamedBy (targets g w v) c b q
reach_names g w v c b h l (inl (n, inl u)) = (Root c u.0, (u.1, λ d k e. cc))
reach_names g w v c b h l (inl (n, inr (inl u))) = (Home c, (u, λ d k e. cc))
reach_names g w v c b h l (inl (n, inr (inr u))) = (Slot u.0 c (w (QueueHead u.0 c) % 8), (u.2, λ d k e. cc))
reach_names g w v c b h l (inr u) =
    let q = All-contains (λ (k : Look). (q : Spot) × IsNamedBy (targets g w v) c k.block q) (v.looks c) u.0
    (looks_name (targets g w v) (λ b. tag_author g.wide (w (Tag b))) (v.latch c) (named_by (targets g w v) (λ s r. w (Tail s r)) (λ s r. w (QueueHead s r)) c) c [] (v.looks c) (h.looks c l)) u.1 in
    (q.0, (q.1.0 ∙ u.2, q.1.1))

-- ---- what exchanges of headers share

-- the own row of the memo is the row
pub row_shows : (g : Geometry) (w : Spot → ℕ) (r : ℕ → Memo) (c b from : ℕ) → HeldAt g w (view r) → c < g.clients → w (Head b) ≡ from → OwnRowShows c (r c) (header_of from) → RowShows (λ i j. w (Era i j)) (header_of (w (Head b))) c
row_shows g w r c b from h l e a =
    subst (λ x. RowShows (λ i j. w (Era i j)) (header_of x) c) (sym e)
    (λ n. subst (λ x. (header_of from).era ≤ x) (h.mine c l (Era c (header_of from).client) (eq-eqb c c refl)) (a n))

-- the slot of a step that raises is no slot to its identity
pub sends : (g : Geometry) (w : Spot → ℕ) (v : View) (c : ℕ) (p : Spot) → Holds w g v c p → is_slot_to c p ≡ false → IsSender c p
sends g w v c (Slot s r k) x n = elim x.1 [ inl u ↦ u.0 | inr u ↦ absurd (true≢false (sym (eq-eqb r c u.0) ∙ n)) ]
sends g w v c _ x n = tt

module _ (me : Me) (w : Spot → ℕ) (r : ℕ → Memo) (f : Frame) (tr : Trail) (at b e from to : ℕ) (p : Spot) (s : Stands me w r f tr) (found : w (Head b) ≡ from) (a : MayRaise me.who (r me.who) p b e from to) (q : IsReparted me.geometry w (view r) me.who (r me.who) p b) where
  abbrev g : Geometry
  g = me.geometry

  abbrev c : ℕ
  c = me.who

  abbrev v : View
  v = view r

  abbrev m : Memo
  m = r c

  -- its part afterwards
  abbrev part : Part
  part = part_set m.known c (cover (On p b) (Home c) (own_word m.own (Home c))) p b m.part

  named : (x : Spot) × IsNamedBy (targets g w v) c b x
  named = reach_names g w v c b s.held s.who (reached_here g w r s.held c s.who b a.reach)

  some : b ≢ 0
  some = (reach_target g w v s.held c b s.who (reached_here g w r s.held c s.who b a.reach)).0

  mine : Holds w g v c p
  mine = let x : Holds w g v c (slot_of (Up Begun p b e)) = subst (λ o. Holds w g v c (slot_of o)) a.op (s.held.slots c s.who (ap is_op a.op)) in x

  not_to : is_slot_to c p ≡ false
  not_to = let x : Allowed c (Up Begun p b e) = subst (Allowed c) a.op (s.held.allowed c s.who) in x

  -- a value block keeps its shape whatever the targets
  queued : is_loose m.part ≡ false → is_slot p ≡ true → HasShape (contents_of me.geometry.wide w (targets g w v)) 0 1 b
  queued i j = (All-contains (ValueHolds g w v c) m.values b (s.held.values c s.who) (a.queued i j)).0

  raise_step : UpNeeds g w v c b e to p part
  raise_step =
      record {
        inside = s.who;
        acts = a.here.joined;
        here = a.here.stays;
        op = a.op;
        small = a.small;
        some = some;
        named = (named.0, named.1.0);
        rooted = named.1.1;
        new = subst (λ x. header_of to ≡ record { live = true; client = c; count = (header_of x).count + 1; era = e }) (sym found) a.new;
        shows = row_shows g w r c b from s.held s.who found a.shows;
        queued = queued;
        parted = part_tie g w v c (cover (On p b) (Home c) (own_word m.own (Home c))) m.known p b m.part (s.held.part c s.who) q.tie;
        loose = loose_stays m.known c (cover (On p b) (Home c) (own_word m.own (Home c))) p b m.part;
      }

  -- the memo that the exchange leaves, in a frame that isn't the first
  abbrev n : Memo
  n = called m (framed me (Exchange at from to) (record f { fresh = false }) (w (Head b)))

  raised_memo : exchanged_on me.geometry.wide c n (Head b) to ≡ record n { op = Up Committed p b e; made = filter (not_block b) m.made; unsent = unsent_list c p b m.unsent; part = part }
  raised_memo =
      ap (λ o. committed me.geometry.wide c n o to) a.op
      ∙ ap (λ x. reparted c x p b) (with_unsent_is c p b (record n { op = Up Committed p b e; made = filter (not_block b) m.made }))

  raised_view : up_view v c b e p part ≡ put_parts v c (parts (exchanged_on me.geometry.wide c n (Head b) to))
  raised_view =
      ap (λ u. record v { op = at1 v.op c (Up Committed p b e); unsent = u; part = at1 v.part c part; made = at1 v.made c (filter (not_block b) (v.made c)); test = at1 v.test c None }) (unsent_raised c p b v.unsent m.unsent (sends g w v c p mine not_to) (λ k. refl))
      ∙ (sym (ap (λ (u : View). record u { op = at1 v.op c (Up Committed p b e); unsent = at1 v.unsent c (λ k. slice_index (unsent_list c p b m.unsent) k); part = at1 v.part c part; made = at1 v.made c (filter (not_block b) (v.made c)); test = at1 v.test c None }) (put_same v c))
      ∙ ap (λ (x : Memo). put_parts v c (parts x)) (sym raised_memo))

  pub block_raised : f.fresh ≡ false → spot_at g (classes w) at ≡ Head b → KeptAt me w r (Exchange at from to) f (λ n m. Unit {0}) (spot_at g (classes w) at)
  block_raised going i =
      subst (KeptAt me w r (Exchange at from to) f (λ n m. Unit {0})) (sym i)
      (in_frame (λ h. KeptAt me w r (Exchange at from to) h (λ n m. Unit {0}) (Head b)) f going
      (kept_exchange me w r at from to (record f { fresh = false }) (λ n m. Unit {0}) (Head b) (up_view v c b e p part) found
      (told_exchange g (classes w) c m at from to b i)
      raised_view
      (up_kept g w v c b e to p part s.held raise_step)
      (subst (λ o. Happens g w (event_of c o) (graph_of g w v) (graph_of g (upd w (Head b) to) (up_view v c b e p part))) (sym a.op) (up_event g w v c b e to p part s.held raise_step))
      (λ _. inr (target_counted g w v s.held named.0 b some named.1.0))
      (λ _ _ k. raise_step.shows k)
      tt tt))
