-- the exchange of a header that commits the second half of a change, as machines use it
use Rattle.std.proofs.Common.{◌≡◌, ◌≢◌, ℕ, refl, sym, ap, ◌∙◌, true, false, subst, inr, None, List}
use Rattle.std.specs.List.{All, filter}
use Rattle.shm_graph.specs.{Held.{Allowed, is_slot}, declared.memo.Op.TheVariants.Change}
use Rattle.shm_graph.specs.declared.memo.{Second.TheVariants.{Closed, Open}, Look.Look}
use Rattle.shm_graph.specs.declared.memo.{ChangeStage.TheVariants.Lowering, Memo.Memo, Stored.Stored}
use Rattle.shm_graph.specs.declared.ask.{Ask.TheVariants.Exchange, Me.Me}
use Rattle.shm_graph.specs.declared.spot.Spot.{TheVariants.{QueueHead, Head, Tail}, Spot}
use Rattle.shm_graph.specs.{Laws.{Frame, KeptAt, Stands, event_of, framed}, Events.{Happens, graph_of}, Asks.Trail}
use Rattle.shm_graph.specs.{Views.{View, at1, targets, view}, Reach.{binds, cut_looks, is_reached, sifted}}
use Rattle.shm_graph.specs.{Changes.called, Blocks.{classes, headers}}
use Rattle.shm_graph.specs.{MemoAfterExchange.{committed, exchanged_on, lowered}, Ops.{cover_of, is_op, slot_of}}
use Rattle.shm_graph.specs.{MemoAfterStore.not_block, Spots.{spot_at, upd}}
use Rattle.shm_graph.proofs.States.{Holders.Holds, Reached.{Names, all_named, named_sound, names_here}}
use Rattle.shm_graph.proofs.Memos.{KnownChange.KnownHolds, MemoParts.{parts, put_parts, put_same}}
use Rattle.shm_graph.proofs.{Memos.BodyTold.told_exchange, StepKinds.KindKeeping.{in_frame, kept_exchange}}
use Rattle.shm_words.specs.{declared.{geometry.Geometry.Geometry, header.Header.Header}, Headers.header_of}
use Rattle.kind_parts.specs.Lowering.{MayLowerFormer}
use Rattle.kind_parts.proofs.{Naming.{StaysKnown, all_lowered, all_spared_apart, names_same}, LowerBlock.counted_live}
use Rattle.kind_parts.proofs.{Cutting.{cut_slot, cut_sound}, Sifting.{dying_more, known_after, values_after}}
use Rattle.kind_parts.proofs.{MemoCommits.{known_lowered, lowered_is}, RaiseBlock.row_shows, BlockTold.dying_listed}
use Rattle.kind_laws.specs.HeaderExchanges.{SecondNeeds, dying_after, second_view}
use Rattle.kind_laws.proofs.SecondHalf.{second_event, second_kept}

module _ (me : Me) (w : Spot → ℕ) (r : ℕ → Memo) (f : Frame) (tr : Trail) (at x b e n from to : ℕ) (p : Spot) (s : Stands me w r f tr) (found : w (Head x) ≡ from) (a : MayLowerFormer me.who (r me.who) p x b e n from to) where
  abbrev g : Geometry
  g = me.geometry

  abbrev c : ℕ
  c = me.who

  abbrev v : View
  v = view r

  abbrev m : Memo
  m = r c

  abbrev t : Spot → ℕ
  t = targets g w v

  -- the memo in a frame that isn't the first
  abbrev called_memo : Memo
  called_memo = called m (framed me (Exchange at from to) (record f { fresh = false }) (w (Head x)))

  -- what becomes of the memo: the memo before looks are cut, and the one before what binds no more is dropped
  abbrev whole : Memo
  whole = record called_memo { op = Change (Lowering Closed) p x b e; made = filter (not_block x) m.made }

  abbrev looks' : List Look
  looks' = cut_looks c whole p

  abbrev kept : Memo
  kept = record whole { looks = looks'; dying = dying_after n x m.dying; known = known_lowered n x m.known }

  live : ((headers w x).live ≡ true) × ((headers w x).count ≢ 0)
  live = counted_live g w v x n from s.held found a.lower

  mine : Holds w g v c p
  mine = let y : Holds w g v c (slot_of (Change (Lowering Open) p x b e)) = subst (λ o. Holds w g v c (slot_of o)) a.op (s.held.slots c s.who (ap is_op a.op)) in y

  no_slot : is_slot p ≡ false
  no_slot = let y : Allowed c (Change (Lowering Open) p x b e) = subst (Allowed c) a.op (s.held.allowed c s.who) in y.0

  stays : All (StaysKnown g w v c p) m.known
  stays = all_spared_apart g w v c p m.known no_slot (s.held.known c s.who)

  abbrev NamesIn : Memo → Type 0
  NamesIn y = Names t (λ i j. w (Tail i j)) (λ i j. w (QueueHead i j)) c y

  whole_names : NamesIn whole
  whole_names = names_same t (λ i j. w (Tail i j)) (λ i j. w (QueueHead i j)) c m whole (names_here g w r s.held c s.who) (sym (ap cover_of a.op)) refl (all_named g w v s.held c s.who m.known (s.held.known c s.who))

  kept_names : NamesIn kept
  kept_names = names_same t (λ i j. w (Tail i j)) (λ i j. w (QueueHead i j)) c m kept (names_here g w r s.held c s.who) (sym (ap cover_of a.op)) refl (all_named g w v s.held c s.who kept.known (all_lowered (KnownHolds g w v c) n x m.known (s.held.known c s.who)))

  abbrev known' : List Stored
  known' = filter (λ y. binds c kept y.spot) kept.known

  abbrev values' : List ℕ
  values' = filter (is_reached c kept) m.values

  second_step : SecondNeeds g w v c x b e n to p looks' known' values'
  second_step =
      record {
        inside = s.who;
        acts = a.here.joined;
        here = a.here.stays;
        op = a.op;
        small = a.small;
        new = a.new;
        lower = a.lower ∙ sym (ap (λ y. (header_of y).count) found);
        shows = row_shows g w r c x from s.held s.who found a.shows;
        looked = cut_sound g w v s.held c s.who p mine t (λ y z. refl) whole refl;
        slot = cut_slot g w v s.held c s.who p mine t (λ y z. refl) whole refl (named_sound t (λ i j. w (Tail i j)) (λ i j. w (QueueHead i j)) c whole whole_names);
        knows = known_after g w v s.held c s.who p t kept kept_names (v.untaken c) (dying_after n x (v.dying c)) (λ y o i j k z me at left. left) (dying_listed kept) (dying_more n x (v.dying c)) kept.known (all_lowered (StaysKnown g w v c p) n x m.known stays);
        valued = values_after g w v s.held c s.who p t kept kept_names;
      }

  lowered_memo : exchanged_on me.geometry.wide c called_memo (Head x) to ≡ sifted c kept
  lowered_memo =
      ap (λ o. committed me.geometry.wide c called_memo o to) a.op
      ∙ (ap (λ (y : Header). sifted c (lowered y.count x (record whole { looks = looks' }))) a.new
      ∙ ap (sifted c) (lowered_is n x (record whole { looks = looks' })))

  lowered_view : second_view v c x b e n p looks' known' values' ≡ put_parts v c (parts (exchanged_on me.geometry.wide c called_memo (Head x) to))
  lowered_view =
      sym (ap (λ (u : View). record u { op = at1 v.op c (Change (Lowering Closed) p x b e); dying = at1 v.dying c (dying_after n x (v.dying c)); looks = at1 v.looks c looks'; known = at1 v.known c known'; values = at1 v.values c values'; made = at1 v.made c (filter (not_block x) (v.made c)); test = at1 v.test c None }) (put_same v c))
      ∙ ap (λ (y : Memo). put_parts v c (parts y)) (sym lowered_memo)

  pub change_lowered : f.fresh ≡ false → spot_at g (classes w) at ≡ Head x → KeptAt me w r (Exchange at from to) f (λ n m. Unit {0}) (spot_at g (classes w) at)
  change_lowered going i =
      subst (KeptAt me w r (Exchange at from to) f (λ n m. Unit {0})) (sym i)
      (in_frame (λ h. KeptAt me w r (Exchange at from to) h (λ n m. Unit {0}) (Head x)) f going
      (kept_exchange me w r at from to (record f { fresh = false }) (λ n m. Unit {0}) (Head x) (second_view v c x b e n p looks' known' values') found
      (told_exchange g (classes w) c m at from to x i)
      lowered_view
      (second_kept g w v c x b e n to p looks' known' values' s.held second_step)
      (subst (λ o. Happens g w (event_of c o) (graph_of g w v) (graph_of g (upd w (Head x) to) (second_view v c x b e n p looks' known' values'))) (sym a.op) (second_event g w v c x b e n to p looks' known' values' s.held second_step))
      (λ _. inr live)
      (λ _ _ k. second_step.shows k)
      tt tt))
