-- the exchange of a header that commits the first half of a change, as machines use it
use Rattle.std.proofs.Common.{◌≡◌, ◌≢◌, ℕ, refl, sym, ap, ◌∙◌, true, false, subst, inr, None, List, ◌+◌}
use Rattle.std.proofs.lemmas.Bool.{cond-false}
use Rattle.std.specs.List.{All, filter}
use Rattle.shm_graph.specs.{Held.{Allowed, is_slot}, declared.memo.First.TheVariants.{Begun, Committed}}
use Rattle.shm_graph.specs.declared.memo.{Op.TheVariants.Change, Look.Look, Memo.Memo, ChangeStage.TheVariants.Raising}
use Rattle.shm_graph.specs.declared.{memo.Stored.Stored, ask.{Ask.TheVariants.Exchange, Me.Me}}
use Rattle.shm_graph.specs.declared.{spot.Spot.{TheVariants.{QueueHead, Head, Home, Tail}, Spot}, table.Part.Part}
use Rattle.shm_graph.specs.{Laws.{Frame, KeptAt, Stands, event_of, framed}, Events.{Happens, graph_of}}
use Rattle.shm_graph.specs.{Ops.{On, cover, cover_of, is_op, slot_of}, Asks.Trail}
use Rattle.shm_graph.specs.{Views.{View, at1, own_word, targets, view}, Reach.{binds, cut_looks, is_reached, sifted}}
use Rattle.shm_graph.specs.{Changes.called, Blocks.classes, MemoAfterExchange.{committed, exchanged_on}}
use Rattle.shm_graph.specs.{MemoAfterStore.not_block, Chains.part_set, Spots.{same_spot, spot_at, upd}}
use Rattle.shm_graph.proofs.States.Holders.{Holds, reach_target, target_counted}
use Rattle.shm_graph.proofs.States.Reached.{Names, named_sound, names_here, reached_here}
use Rattle.shm_graph.proofs.Memos.{MemoParts.{parts, put_parts, put_same}, BodyTold.told_exchange}
use Rattle.shm_graph.proofs.StepKinds.KindKeeping.{in_frame, kept_exchange}
use Rattle.kind_laws.specs.HeaderExchanges.{ChangeNeeds, change_view}
use Rattle.kind_laws.proofs.ChangeFirst.{change_event, change_kept}
use Rattle.shm_words.specs.{declared.geometry.Geometry.Geometry, Headers.header_of}
use Rattle.kind_parts.proofs.RaiseBlock.{IsNamedBy, reach_names, row_shows}
use Rattle.kind_parts.proofs.Naming.{StaysKnown, all_spared_apart, names_after, spared_named}
use Rattle.kind_parts.proofs.{Cutting.{cut_slot, cut_sound}, Sifting.{known_after, values_after}}
use Rattle.kind_parts.proofs.{PartsSet.{loose_stays, part_tie}, MemoCommits.not_both, BlockTold.dying_listed}
use Rattle.kind_parts.specs.{Raising.IsReparted, Lowering.MayChange}

module _ (me : Me) (w : Spot → ℕ) (r : ℕ → Memo) (f : Frame) (tr : Trail) (at x b e from to : ℕ) (p : Spot) (s : Stands me w r f tr) (found : w (Head b) ≡ from) (a : MayChange me.who (r me.who) p x b e from to) (q : IsReparted me.geometry w (view r) me.who (r me.who) p b) where
  abbrev g : Geometry
  g = me.geometry

  abbrev c : ℕ
  c = me.who

  abbrev v : View
  v = view r

  abbrev m : Memo
  m = r c

  abbrev t' : Spot → ℕ
  t' = upd (targets g w v) p b

  abbrev home : ℕ
  home = cover (On p b) (Home c) (own_word m.own (Home c))

  -- what becomes of the memo: the memo before looks are cut, and the one before what binds no more is dropped
  abbrev part : Part
  part = part_set m.known c home p b m.part

  -- the memo in a frame that isn't the first
  abbrev called_memo : Memo
  called_memo = called m (framed me (Exchange at from to) (record f { fresh = false }) (w (Head b)))

  abbrev whole : Memo
  whole = record called_memo { op = Change (Raising Committed) p x b e; made = filter (not_block x) (filter (not_block b) m.made); part = part }

  abbrev looks' : List Look
  looks' = cut_looks c whole p

  abbrev kept : Memo
  kept = record whole { looks = looks' }

  named : (y : Spot) × IsNamedBy (targets g w v) c b y
  named = reach_names g w v c b s.held s.who (reached_here g w r s.held c s.who b a.reach)

  some : b ≢ 0
  some = (reach_target g w v s.held c b s.who (reached_here g w r s.held c s.who b a.reach)).0

  mine : Holds w g v c p
  mine = let y : Holds w g v c (slot_of (Change (Raising Begun) p x b e)) = subst (λ o. Holds w g v c (slot_of o)) a.op (s.held.slots c s.who (ap is_op a.op)) in y

  no_slot : is_slot p ≡ false
  no_slot = let y : Allowed c (Change (Raising Begun) p x b e) = subst (Allowed c) a.op (s.held.allowed c s.who) in y.0

  stays : All (StaysKnown g w v c p) m.known
  stays = all_spared_apart g w v c p m.known no_slot (s.held.known c s.who)

  abbrev NamesIn : Memo → Type 0
  NamesIn y = Names t' (λ i j. w (Tail i j)) (λ i j. w (QueueHead i j)) c y

  whole_names : NamesIn whole
  whole_names = names_after (targets g w v) (λ i j. w (Tail i j)) (λ i j. w (QueueHead i j)) c m whole p b (names_here g w r s.held c s.who) (ap cover_of a.op) refl refl (spared_named g w v s.held c s.who p m.known stays)

  kept_names : NamesIn kept
  kept_names = names_after (targets g w v) (λ i j. w (Tail i j)) (λ i j. w (QueueHead i j)) c m kept p b (names_here g w r s.held c s.who) (ap cover_of a.op) refl refl (spared_named g w v s.held c s.who p m.known stays)

  same : (y : Spot) → same_spot p y ≡ false → t' y ≡ targets g w v y
  same y z = cond-false (same_spot p y) b (targets g w v y) z

  abbrev known' : List Stored
  known' = filter (λ y. binds c kept y.spot) m.known

  abbrev values' : List ℕ
  values' = filter (is_reached c kept) m.values

  change_step : ChangeNeeds g w v c x b e to p looks' known' values' part
  change_step =
      record {
        inside = s.who;
        acts = a.here.joined;
        here = a.here.stays;
        op = a.op;
        small = a.small;
        named = (named.0, named.1.0);
        rooted = named.1.1;
        new = subst (λ y. header_of to ≡ record { live = true; client = c; count = (header_of y).count + 1; era = e }) (sym found) a.new;
        shows = row_shows g w r c b from s.held s.who found a.shows;
        looked = cut_sound g w v s.held c s.who p mine t' same whole refl;
        slot = cut_slot g w v s.held c s.who p mine t' same whole refl (named_sound t' (λ i j. w (Tail i j)) (λ i j. w (QueueHead i j)) c whole whole_names);
        knows = known_after g w v s.held c s.who p t' kept kept_names (v.untaken c) (v.dying c) (λ y o i j k z me at left. left) (dying_listed kept) (λ d y. y) m.known stays;
        valued = values_after g w v s.held c s.who p t' kept kept_names;
        parted = part_tie g w v c home m.known p b m.part (s.held.part c s.who) q.tie;
        loose = loose_stays m.known c home p b m.part;
      }

  changed_memo : exchanged_on me.geometry.wide c called_memo (Head b) to ≡ sifted c kept
  changed_memo = ap (λ o. committed me.geometry.wide c called_memo o to) a.op

  change_parts : change_view v c x b e p looks' known' values' part ≡ put_parts v c (parts (exchanged_on me.geometry.wide c called_memo (Head b) to))
  change_parts =
      ap (λ (y : List ℕ). record v { op = at1 v.op c (Change (Raising Committed) p x b e); looks = at1 v.looks c looks'; known = at1 v.known c known'; part = at1 v.part c part; values = at1 v.values c values'; made = at1 v.made c y; test = at1 v.test c None }) (sym (not_both b x m.made))
      ∙ (sym (ap (λ (u : View). record u { op = at1 v.op c (Change (Raising Committed) p x b e); looks = at1 v.looks c looks'; known = at1 v.known c known'; part = at1 v.part c part; values = at1 v.values c values'; made = at1 v.made c (filter (not_block x) (filter (not_block b) m.made)); test = at1 v.test c None }) (put_same v c))
      ∙ ap (λ (y : Memo). put_parts v c (parts y)) (sym changed_memo))

  pub change_raised : f.fresh ≡ false → spot_at g (classes w) at ≡ Head b → KeptAt me w r (Exchange at from to) f (λ n m. Unit {0}) (spot_at g (classes w) at)
  change_raised going i =
      subst (KeptAt me w r (Exchange at from to) f (λ n m. Unit {0})) (sym i)
      (in_frame (λ h. KeptAt me w r (Exchange at from to) h (λ n m. Unit {0}) (Head b)) f going
      (kept_exchange me w r at from to (record f { fresh = false }) (λ n m. Unit {0}) (Head b) (change_view v c x b e p looks' known' values' part) found
      (told_exchange g (classes w) c m at from to b i)
      change_parts
      (change_kept g w v c x b e to p looks' known' values' part s.held change_step)
      (subst (λ o. Happens g w (event_of c o) (graph_of g w v) (graph_of g (upd w (Head b) to) (change_view v c x b e p looks' known' values' part))) (sym a.op) (change_event g w v c x b e to p looks' known' values' part s.held change_step))
      (λ _. inr (target_counted g w v s.held named.0 b some named.1.0))
      (λ _ _ k. change_step.shows k)
      tt tt))
