-- the exchange of a header that lowers a block, as machines use it
use Rattle.std.proofs.Common.{◌≡◌, ◌≢◌, ℕ, refl, sym, ap, ◌∙◌, true, false, subst, inr, None, List, arith, ◌+◌}
use Rattle.std.proofs.lemmas.Bool.{cond-false, true_from_ne_false}
use Rattle.std.specs.{List.{All, filter}, Prelude.slice_index}
use Rattle.shm_graph.specs.declared.memo.{First.TheVariants.{Begun, Committed}, Op.TheVariants.Down, Look.Look}
use Rattle.shm_graph.specs.declared.{memo.{Memo.Memo, Stored.Stored}, ask.{Ask.TheVariants.Exchange, Me.Me}}
use Rattle.shm_graph.specs.declared.{spot.Spot.{TheVariants.{QueueHead, Head, Home, Tail}, Spot}, table.Part.Part}
use Rattle.shm_graph.specs.{Laws.{Frame, KeptAt, Stands, event_of, framed}, Events.{Happens, graph_of}}
use Rattle.shm_graph.specs.{Held.{HeldAt, PartTie}, Ops.{On, cover, cover_of, is_op, slot_of}, Asks.Trail}
use Rattle.shm_graph.specs.{Views.{View, at1, own_word, targets, view}, Reach.{binds, cut_looks, is_reached, sifted}}
use Rattle.shm_graph.specs.{Changes.called, Blocks.{classes, headers}}
use Rattle.shm_graph.specs.MemoAfterExchange.{committed, exchanged_on, lowered, reparted, with_untaken, cut}
use Rattle.shm_graph.specs.{Tables.contents_of, MemoAfterStore.not_block, Chains.part_set}
use Rattle.shm_graph.specs.Spots.{same_spot, spot_at, upd}
use Rattle.shm_graph.proofs.States.{Holders.{Holds, held_live_not_zero}, Reached.{Names, named_sound, names_here}}
use Rattle.shm_graph.proofs.StepKinds.KindKeeping.{in_frame, kept_exchange}
use Rattle.shm_graph.proofs.Memos.{MemoParts.{parts, put_parts, put_same}, BodyTold.told_exchange}
use Rattle.shm_words.specs.{declared.{geometry.Geometry.Geometry, header.Header.Header}, Headers.header_of}
use Rattle.kind_parts.specs.{Raising.IsReparted, Lowering.MayLower}
use Rattle.kind_parts.proofs.Naming.{StaysKnown, all_lowered, all_spared, names_after, spared_named}
use Rattle.kind_parts.proofs.Cutting.{cut_slot, cut_sound}
use Rattle.kind_parts.proofs.Sifting.{dying_more, known_after, untaken_stays, values_after}
use Rattle.kind_parts.proofs.MemoCommits.{known_left, known_lowered, lowered_is, unsent_list, unsent_lowered, untaken_list, untaken_lowered, with_unsent_is, with_untaken_is}
use Rattle.kind_parts.proofs.{PartsSet.{known_read, loose_stays, part_tie}, RaiseBlock.row_shows}
use Rattle.kind_parts.proofs.BlockTold.{dying_listed}
use Rattle.kind_laws.specs.HeaderExchanges.{LowerNeeds, dying_after, lower_view, untaken_after}
use Rattle.kind_laws.proofs.{Keep.count_of_zero, LowerBlock.{lower_event, lower_kept}}

-- a header whose count isn't 0 is live
pub counted_live : (g : Geometry) (w : Spot → ℕ) (v : View) (b n from : ℕ) → HeldAt g w v → w (Head b) ≡ from → n + 1 ≡ (header_of from).count → ((headers w b).live ≡ true) × ((headers w b).count ≢ 0)
counted_live g w v b n from h e more =
    let z : n + 1 ≡ (headers w b).count = more ∙ sym (ap (λ x. (header_of x).count) e) in
    (true_from_ne_false (headers w b).live (λ d. let y : (headers w b).count ≡ 0 = ap (λ x. (header_of x).count) (h.blocks.plain b d) ∙ count_of_zero in absurd (omega arith)), λ y. omega arith)

module _ (me : Me) (w : Spot → ℕ) (r : ℕ → Memo) (f : Frame) (tr : Trail) (at b e n from to : ℕ) (p : Spot) (s : Stands me w r f tr) (found : w (Head b) ≡ from) (a : MayLower me.who (r me.who) p b e n from to) (q : IsReparted me.geometry w (view r) me.who (r me.who) p 0) where
  abbrev g : Geometry
  g = me.geometry

  abbrev c : ℕ
  c = me.who

  abbrev v : View
  v = view r

  abbrev m : Memo
  m = r c

  abbrev t' : Spot → ℕ
  t' = upd (targets g w v) p 0

  abbrev home : ℕ
  home = cover (On p 0) (Home c) (own_word m.own (Home c))

  -- what becomes of the memo: the memo before looks are cut, and the one before what binds no more is dropped
  abbrev part : Part
  part = part_set (known_left c p m.known) c home p 0 m.part

  -- the memo in a frame that isn't the first
  abbrev called_memo : Memo
  called_memo = called m (framed me (Exchange at from to) (record f { fresh = false }) (w (Head b)))

  abbrev whole : Memo
  whole = record called_memo { op = Down Committed p b e; made = filter (not_block b) m.made; unsent = unsent_list c p 0 m.unsent; untaken = untaken_list c p b m.untaken; known = known_left c p m.known; part = part }

  abbrev looks' : List Look
  looks' = cut_looks c whole p

  abbrev kept : Memo
  kept = record whole { looks = looks'; dying = dying_after n b m.dying; known = known_lowered n b (known_left c p m.known) }

  live : ((headers w b).live ≡ true) × ((headers w b).count ≢ 0)
  live = counted_live g w v b n from s.held found a.lower

  mine : Holds w g v c p
  mine = let x : Holds w g v c (slot_of (Down Begun p b e)) = subst (λ o. Holds w g v c (slot_of o)) a.op (s.held.slots c s.who (ap is_op a.op)) in x

  stays : All (StaysKnown g w v c p) (known_left c p m.known)
  stays = all_spared g w v c p m.known (s.held.known c s.who)

  abbrev NamesIn : Memo → Type 0
  NamesIn x = Names t' (λ i j. w (Tail i j)) (λ i j. w (QueueHead i j)) c x

  whole_names : NamesIn whole
  whole_names = names_after (targets g w v) (λ i j. w (Tail i j)) (λ i j. w (QueueHead i j)) c m whole p 0 (names_here g w r s.held c s.who) (ap cover_of a.op) refl refl (spared_named g w v s.held c s.who p whole.known stays)

  kept_names : NamesIn kept
  kept_names = names_after (targets g w v) (λ i j. w (Tail i j)) (λ i j. w (QueueHead i j)) c m kept p 0 (names_here g w r s.held c s.who) (ap cover_of a.op) refl refl (spared_named g w v s.held c s.who p kept.known (all_lowered (StaysKnown g w v c p) n b whole.known stays))

  same : (x : Spot) → same_spot p x ≡ false → t' x ≡ targets g w v x
  same x z = cond-false (same_spot p x) 0 (targets g w v x) z

  abbrev known' : List Stored
  known' = filter (λ x. binds c kept x.spot) kept.known

  abbrev values' : List ℕ
  values' = filter (is_reached c kept) m.values

  lower_step : LowerNeeds g w v c b e n to p looks' known' values' part
  lower_step =
      record {
        inside = s.who;
        acts = a.here.joined;
        here = a.here.stays;
        op = a.op;
        some = held_live_not_zero g w v s.held b live.0;
        small = a.small;
        new = a.new;
        lower = a.lower ∙ sym (ap (λ x. (header_of x).count) found);
        shows = row_shows g w r c b from s.held s.who found a.shows;
        looked = cut_sound g w v s.held c s.who p mine t' same whole refl;
        slot = cut_slot g w v s.held c s.who p mine t' same whole refl (named_sound t' (λ i j. w (Tail i j)) (λ i j. w (QueueHead i j)) c whole whole_names);
        knows = known_after g w v s.held c s.who p t' kept kept_names (λ i. untaken_after c p b v.untaken c i) (dying_after n b (v.dying c)) (untaken_stays w g v c p b mine) (dying_listed kept) (dying_more n b (v.dying c)) kept.known (all_lowered (StaysKnown g w v c p) n b whole.known stays);
        valued = values_after g w v s.held c s.who p t' kept kept_names;
        parted = part_tie g w v c home (known_left c p m.known) p 0 m.part (s.held.part c s.who) (λ z. subst (λ ks. PartTie (contents_of me.geometry.wide w t') c (t' (Home c)) (part_set ks c home p 0 m.part)) (sym (known_read c p m.known m.part z)) (q.tie z));
        loose = loose_stays (known_left c p m.known) c home p 0 m.part;
      }

  abbrev begun : Memo
  begun = record called_memo { op = Down Committed p b e; made = filter (not_block b) m.made }

  lowered_memo : exchanged_on me.geometry.wide c called_memo (Head b) to ≡ sifted c kept
  lowered_memo =
      ap (λ o. committed me.geometry.wide c called_memo o to) a.op
      ∙ (ap (λ x. sifted c (lowered (header_of to).count b (cut c p (reparted c (with_untaken c p b x) p 0)))) (with_unsent_is c p 0 begun)
      ∙ (ap (λ x. sifted c (lowered (header_of to).count b (cut c p (reparted c x p 0)))) (with_untaken_is c p b (record begun { unsent = unsent_list c p 0 m.unsent }))
      ∙ (ap (λ (x : Header). sifted c (lowered x.count b (record whole { looks = looks' }))) a.new
      ∙ ap (sifted c) (lowered_is n b (record whole { looks = looks' })))))

  lowered_view : lower_view v c b e n p looks' known' values' part ≡ put_parts v c (parts (exchanged_on me.geometry.wide c called_memo (Head b) to))
  lowered_view =
      ap (λ u. record v { op = at1 v.op c (Down Committed p b e); dying = at1 v.dying c (dying_after n b (v.dying c)); looks = at1 v.looks c looks'; known = at1 v.known c known'; unsent = u; untaken = untaken_after c p b v.untaken; part = at1 v.part c part; values = at1 v.values c values'; made = at1 v.made c (filter (not_block b) (v.made c)); test = at1 v.test c None }) (unsent_lowered c p v.unsent m.unsent (λ k. refl))
      ∙ (ap (λ u. record v { op = at1 v.op c (Down Committed p b e); dying = at1 v.dying c (dying_after n b (v.dying c)); looks = at1 v.looks c looks'; known = at1 v.known c known'; unsent = at1 v.unsent c (λ k. slice_index (unsent_list c p 0 m.unsent) k); untaken = u; part = at1 v.part c part; values = at1 v.values c values'; made = at1 v.made c (filter (not_block b) (v.made c)); test = at1 v.test c None }) (untaken_lowered c p b v.untaken m.untaken (λ k. refl))
      ∙ (sym (ap (λ (u : View). record u { op = at1 v.op c (Down Committed p b e); dying = at1 v.dying c (dying_after n b (v.dying c)); looks = at1 v.looks c looks'; known = at1 v.known c known'; unsent = at1 v.unsent c (λ k. slice_index (unsent_list c p 0 m.unsent) k); untaken = at1 v.untaken c (λ k. slice_index (untaken_list c p b m.untaken) k); part = at1 v.part c part; values = at1 v.values c values'; made = at1 v.made c (filter (not_block b) (v.made c)); test = at1 v.test c None }) (put_same v c))
      ∙ ap (λ (x : Memo). put_parts v c (parts x)) (sym lowered_memo)))

  pub block_lowered : f.fresh ≡ false → spot_at g (classes w) at ≡ Head b → KeptAt me w r (Exchange at from to) f (λ n m. Unit {0}) (spot_at g (classes w) at)
  block_lowered going i =
      subst (KeptAt me w r (Exchange at from to) f (λ n m. Unit {0})) (sym i)
      (in_frame (λ h. KeptAt me w r (Exchange at from to) h (λ n m. Unit {0}) (Head b)) f going
      (kept_exchange me w r at from to (record f { fresh = false }) (λ n m. Unit {0}) (Head b) (lower_view v c b e n p looks' known' values' part) found
      (told_exchange g (classes w) c m at from to b i)
      lowered_view
      (lower_kept g w v c b e n to p looks' known' values' part s.held lower_step)
      (subst (λ o. Happens g w (event_of c o) (graph_of g w v) (graph_of g (upd w (Head b) to) (lower_view v c b e n p looks' known' values' part))) (sym a.op) (lower_event g w v c b e n to p looks' known' values' part s.held lower_step))
      (λ _. inr live)
      (λ _ _ k. lower_step.shows k)
      tt tt))
