-- What came of a line, by what its calls answered.
use Rattle.shm_tree.specs.declared.{hints.Hints.Hints, line.{TreeAnswer.TreeAnswer, TreeLine.TreeLine}}
use Rattle.shm_tree.specs.declared.{line.TreeTurn.TreeTurn, registers.Registers.Registers, stop.Stop.Stop}
use Rattle.shm_tree.specs.{CutShort.{IsCutShort, IsWordless}, Falling.AreFalling, ForestCalls.RanLine}
use Rattle.shm_tree.specs.Forests.{DoesLine, DoesTurn, HasVersions, IsCaused, IsForest, IsInRange, IsLost, IsOwn, IsReading, IsSwept, IsUnspent, KeepsRegisters, Moves, CallStopped, is_died, turn_by, turn_of}
use Rattle.shm_tree.specs.{Keeping.AreSameLives, Living.{AreFewNew, AreLivesTrees}, Trees.Tree}
use Rattle.shm_tree.specs.Costing.{Costs, CostsLine, DiesEnding, EndsLine, FewLine, FewSet, IfEnded, LateLine, SpendsLine, UnlessOk, call_steps, line_steps, made_most, new_most, sweep_steps}
use Rattle.shm_tree.specs.Working.{IfAlive, IfRefused, Went}
use Rattle.shm_tree.specs.declared.line.TreeAnswer.TheVariants as answers
use Rattle.shm_tree.specs.declared.line.TreeTurn.TheVariants as turns
use Rattle.shm_tree.specs.declared.stop.Stop.TheVariants as stop
use Rattle.shm_tree.specs.declared.line.TreeLine.TheVariants as lines
use Rattle.shm_tree.proofs.{Bounding.line_most, Eras.spent_stays, Forests.registers_versions, Moving.is_over_not}
use Rattle.shm_tree.proofs.{Fresh.made_few, Lasts.last_more}
use Rattle.shm_tree.proofs.Refusals.{alive_two, all_of, none_least, refused_three, spends_more, spends_of}
use Rattle.shm_tree.proofs.Settled.{settled_same, settled_trees}
use Rattle.std.proofs.Common.{◌≡◌, ◌≢◌, ℕ, ◌+◌, ◌<◌, ◌≤◌, Bool, true, false, List, [], refl, arith, sym, ap, ◌∙◌, subst, Result, Ok, Err, true≢false}
use Rattle.std.specs.Prelude.{IfErr, IfOk, is_ok}
use Rattle.shm_words.specs.Layout.{GeometryFits}
use Rattle.shm_graph.specs.declared.run.Start.{Start}
use Rattle.shm_plain.specs.Pools.{Pool}

pub outcome_does : (line : TreeLine) (f g : Registers) (o : Result TreeAnswer Stop) → IfOk o (λ a. DoesLine line f g a) → IfErr o (λ e. IsReading line → e ≡ stop.Died) → IfRefused o (KeepsRegisters f g) → DoesTurn line f g (turn_by o)
outcome_does line f g (Ok a) d r k = d
outcome_does line f g (Err stop.Died) d r k = tt
outcome_does line f g (Err (stop.Full s b)) d r k = λ ts v. ((λ rd. is_over_not (stop.Full s b) refl (r rd)), registers_versions k ts v)
outcome_does line f g (Err (stop.CountFull b c)) d r k = λ ts v. ((λ rd. is_over_not (stop.CountFull b c) refl (r rd)), registers_versions k ts v)
outcome_does line f g (Err (stop.EraSpent e)) d r k = λ ts v. ((λ rd. is_over_not (stop.EraSpent e) refl (r rd)), registers_versions k ts v)

own_caused : (hints : Hints) (p q : Pool) (a : TreeAnswer) → IsOwn a → IsCaused hints p q (turns.Done a)
own_caused hints p q answers.Ok h = tt
own_caused hints p q (answers.Value n) h = tt
own_caused hints p q answers.Missing h = tt
own_caused hints p q (answers.Full s b) h = absurd h
own_caused hints p q (answers.CountFull b c) h = absurd h
own_caused hints p q (answers.EraSpent e) h = absurd h

pub outcome_caused : (hints : Hints) (p q : Pool) (o : Result TreeAnswer Stop) → IfOk o IsOwn → IfErr o (λ e. CallStopped hints p q e) → IsCaused hints p q (turn_by o)
outcome_caused hints p q (Ok a) h s = own_caused hints p q a h
outcome_caused hints p q (Err stop.Died) h s = tt
outcome_caused hints p q (Err (stop.Full i j)) h s = s
outcome_caused hints p q (Err (stop.CountFull i j)) h s = s
outcome_caused hints p q (Err (stop.EraSpent i)) h s = s

turn_over : (t : TreeTurn) → t ≡ turns.Died → is_died t ≡ true
turn_over t e = ap is_died e

-- what is so where no word step was left
pub outcome_over : (P : Type 0) (o : Result TreeAnswer Stop) → IfErr o (λ e. e ≡ stop.Died → P) → turn_by o ≡ turns.Died → P
outcome_over P (Ok a) h e = absurd (true≢false (sym (turn_over (turns.Done a) e)))
outcome_over P (Err stop.Died) h e = h refl
outcome_over P (Err (stop.Full i j)) h e = absurd (true≢false (sym (turn_over (turn_of (stop.Full i j)) e)))
outcome_over P (Err (stop.CountFull i j)) h e = absurd (true≢false (sym (turn_over (turn_of (stop.CountFull i j)) e)))
outcome_over P (Err (stop.EraSpent i)) h e = absurd (true≢false (sym (turn_over (turn_of (stop.EraSpent i)) e)))

-- one that was done isn't that
pub outcome_done : (o : Result TreeAnswer Stop) → is_ok o ≡ true → turn_by o ≢ turns.Died
outcome_done (Ok a) h e = true≢false (sym (turn_over (turns.Done a) e))
outcome_done (Err s) h e = true≢false (sym h)

pub outcome_forest : {g : Registers} (o : Result TreeAnswer Stop) → IfAlive o (IsForest g) → is_died (turn_by o) ≡ false → IsForest g
outcome_forest (Ok a) h e = h
outcome_forest (Err stop.Died) h e = absurd (true≢false e)
outcome_forest (Err (stop.Full i j)) h e = h
outcome_forest (Err (stop.CountFull i j)) h e = h
outcome_forest (Err (stop.EraSpent i)) h e = h

pub outcome_lost : {x y : ℕ} (f g : Registers) → IsForest f → Went f.pool g.pool x y → IsLost g.pool
outcome_lost f g x w = record { run = w.run; acts = w.acts; one = ap (λ (s : Start). s.geometry.clients) w.start ∙ x.working.one; geometry = subst (λ (s : Start). GeometryFits s.geometry) (sym w.start) x.working.work.geometry }

-- ---- what it spent

pub outcome_spends : (line : TreeLine) (f g : Registers) (x y : ℕ) (o : Result TreeAnswer Stop) → IsForest f → IsInRange line → IfOk o (λ a. CostsLine line f g x y) → IfRefused o (EndsLine line f g x y) → IfEnded (turn_by o) (SpendsLine line f g x y)
outcome_spends line f g x y o xf lt done ended = by o done ended
  where
    few : (ts : List Tree) → HasVersions f ts → call_steps line ts f.pool.start.geometry + sweep_steps f.pool.start.geometry ≤ line_steps line ts f.pool.start.geometry
    few ts v = line_most line f ts xf lt v

    stopped : EndsLine line f g x y → SpendsLine line f g x y
    stopped h ts v = spends_more (made_most line ts) (line_steps line ts f.pool.start.geometry) (all_of (made_most line ts)) (few ts v) (h ts v)

    by : (r : Result TreeAnswer Stop) → IfOk r (λ a. CostsLine line f g x y) → IfRefused r (EndsLine line f g x y) → IfEnded (turn_by r) (SpendsLine line f g x y)
    by (Ok a) h k = λ ts v. spends_more (made_most line ts) (line_steps line ts f.pool.start.geometry) (all_of (made_most line ts)) (let l = few ts v in omega (arith, l)) (spends_of (h ts v))
    by (Err stop.Died) h k = tt
    by (Err (stop.Full s b)) h k = stopped k
    by (Err (stop.CountFull b c)) h k = stopped k
    by (Err (stop.EraSpent e)) h k = stopped k

-- and until it began its last call, where no word step was left for it
pub outcome_late : (line : TreeLine) (f g : Registers) (x : ℕ) (o : Result TreeAnswer Stop) → IsForest f → IsInRange line → DiesEnding line o f g x → IfErr o (λ e. e ≡ stop.Died → LateLine line f g x)
outcome_late line f g x (Ok a) xf lt h = tt
outcome_late line f g x (Err e) xf lt h = λ d ts v. last_more (line_steps line ts f.pool.start.geometry) (line_most line f ts xf lt v) (h ts v d)

-- ---- live blocks

pub outcome_ended : (P : Type 0) (o : Result TreeAnswer Stop) → IfAlive o P → IfEnded (turn_by o) P
outcome_ended P (Ok a) h = h
outcome_ended P (Err stop.Died) h = tt
outcome_ended P (Err (stop.Full s b)) h = h
outcome_ended P (Err (stop.CountFull b c)) h = h
outcome_ended P (Err (stop.EraSpent e)) h = h

pub outcome_other : (P : Type 0) (o : Result TreeAnswer Stop) → IfOk o (λ a. a ≢ answers.Ok → P) → IfRefused o P → UnlessOk (turn_by o) P
outcome_other P (Ok a) same h = same
outcome_other P (Err stop.Died) same h = tt
outcome_other P (Err (stop.Full s b)) same h = λ other. h
outcome_other P (Err (stop.CountFull b c)) same h = λ other. h
outcome_other P (Err (stop.EraSpent e)) same h = λ other. h

few_made : {n c x y : ℕ} (f g : Registers) → IsForest f → Went f.pool g.pool x y → Costs n c f.pool g.pool x y → AreFewNew n f.pool g.pool
few_made {n = n} f g xf w h = made_few n f.pool g.pool xf.working.run w.run w.start h.made

few_line : {x y : ℕ} (line : TreeLine) (f g : Registers) → IsForest f → Went f.pool g.pool x y → CostsLine line f g x y → FewSet line f g → IsUnspent g → AreLivesTrees f.pool → FewLine line f g
few_line (lines.Set to from k n) f g xf w c few calm trees = λ ts v. few ts v calm trees
few_line (lines.Del to from k) f g xf w c few calm trees = λ ts v. few_made f g xf w (c ts v)
few_line (lines.Get at k) f g xf w c few calm trees = λ ts v. few_made f g xf w (c ts v)
few_line (lines.Copy to from) f g xf w c few calm trees = λ ts v. few_made f g xf w (c ts v)
few_line (lines.Clear at) f g xf w c few calm trees = λ ts v. few_made f g xf w (c ts v)

-- where the same are live none came to be so
few_same : (line : TreeLine) (f g : Registers) → AreSameLives f.pool g.pool → FewLine line f g
few_same line f g same = λ ts v. ([], none_least (new_most line ts), λ b live dead. absurd (true≢false (sym live ∙ (same b ∙ dead))))

module _ {hints : Hints} {x y : ℕ} (line : TreeLine) (f g : Registers) (o : Result TreeAnswer Stop) (xf : IsForest f) (sf : IsSwept f) (ff : AreFalling f.pool) (fg : AreFalling g.pool) (m : Moves hints o f g x y) (swept : IfAlive o (IsSwept f → IsSwept g)) where
  -- an own era that isn't spent wasn't so before
  calm_before : IsForest g → IsUnspent g → IsUnspent f
  calm_before xg calm e = calm (spent_stays f.pool g.pool xf.working xg.working m.went e)

  trees_before : IsForest g → IsUnspent g → AreLivesTrees f.pool
  trees_before xg calm = let c = calm_before xg calm in settled_trees f xf (xf.tidy (sf c)) c ff

  trees_after : IsForest g → IsSwept g → IsUnspent g → AreLivesTrees g.pool
  trees_after xg sg calm = settled_trees g xg (xg.tidy (sg calm)) calm fg

  same_after : IsForest g → IsSwept g → KeepsRegisters f g → IsUnspent g → AreSameLives f.pool g.pool
  same_after xg sg kept calm = let c = calm_before xg calm in settled_same f g xf xg (xf.tidy (sf c)) (xg.tidy (sg calm)) c calm ff fg kept

  pub outcome_lives : IfEnded (turn_by o) (IsUnspent g → AreLivesTrees g.pool)
  outcome_lives = outcome_ended (IsUnspent g → AreLivesTrees g.pool) o (alive_two o (λ xg s. trees_after xg (s sf)) m.forest swept)

  stays : IfRefused o (IsUnspent g → AreSameLives f.pool g.pool)
  stays = refused_three o (λ xg s kept. same_after xg (s sf) kept) m.forest swept m.kept

  looked : IfOk o (λ a. a ≢ answers.Ok → KeepsRegisters f g) → IfOk o (λ a. a ≢ answers.Ok → IsUnspent g → AreSameLives f.pool g.pool)
  looked = by o m.forest swept
    where
      by : (r : Result TreeAnswer Stop) → IfAlive r (IsForest g) → IfAlive r (IsSwept f → IsSwept g) → IfOk r (λ a. a ≢ answers.Ok → KeepsRegisters f g) → IfOk r (λ a. a ≢ answers.Ok → IsUnspent g → AreSameLives f.pool g.pool)
      by (Ok a) xg s k = λ other. same_after xg (s sf) (k other)
      by (Err e) xg s k = tt

  pub outcome_same : IfOk o (λ a. a ≢ answers.Ok → KeepsRegisters f g) → UnlessOk (turn_by o) (IsUnspent g → AreSameLives f.pool g.pool)
  outcome_same same = outcome_other (IsUnspent g → AreSameLives f.pool g.pool) o (looked same) stays

  pub outcome_few : IfOk o (λ a. CostsLine line f g x y) → IfOk o (λ a. FewSet line f g) → IfEnded (turn_by o) (IsUnspent g → FewLine line f g)
  outcome_few costs few = by o m.forest m.went stays costs few
    where
      by : (r : Result TreeAnswer Stop) → IfAlive r (IsForest g) → Went f.pool g.pool x y → IfRefused r (IsUnspent g → AreSameLives f.pool g.pool) → IfOk r (λ a. CostsLine line f g x y) → IfOk r (λ a. FewSet line f g) → IfEnded (turn_by r) (IsUnspent g → FewLine line f g)
      by (Ok a) xg w s c d = λ calm. few_line line f g xf w c d calm (trees_before xg calm)
      by (Err stop.Died) xg w s c d = tt
      by (Err (stop.Full i b)) xg w s c d = λ calm. few_same line f g (s calm)
      by (Err (stop.CountFull b i)) xg w s c d = λ calm. few_same line f g (s calm)
      by (Err (stop.EraSpent e)) xg w s c d = λ calm. few_same line f g (s calm)

-- all of it, where the client lived
pub outcome_ran : {hints : Hints} {x y : ℕ} (line : TreeLine) (f g : Registers) (a b : Bool) (o : Result TreeAnswer Stop) (t : TreeTurn) → IsForest f → IsSwept f → AreFalling f.pool → AreFalling g.pool → IsInRange line → t ≡ turn_by o → b ≡ is_died t → Moves hints o f g x y → IfAlive o (IsSwept f → IsSwept g) → IfOk o (λ a. DoesLine line f g a) → IfErr o (λ e. IsReading line → e ≡ stop.Died) → IfOk o (λ a. CostsLine line f g x y) → IfOk o (λ a. FewSet line f g) → IfRefused o (EndsLine line f g x y) → IfOk o IsOwn → IfOk o (λ a. a ≢ answers.Ok → KeepsRegisters f g) → DiesEnding line o f g x → IfErr o (λ e. e ≡ stop.Died → f.tidy ≡ true → 0 < x → IsUnspent g → IsCutShort hints line f g) → (f.tidy ≡ true → (ts : List Tree) → HasVersions f ts → IsWordless line ts → is_ok o ≡ true)
    → RanLine line (record { registers = f; hints = hints; died = a }) (record { registers = g; hints = hints; died = b }) x y t
outcome_ran {hints = hints} {x = x} {y = y} line f g a b o t xf sf ff fg lt is died m swept does reading costs few ended own kept late off idle =
    record {
      went = m.went;
      does = subst (DoesTurn line f g) (sym is) (outcome_does line f g o does reading m.kept);
      spends = subst (λ (u : TreeTurn). IfEnded u (SpendsLine line f g x y)) (sym is) (outcome_spends line f g x y o xf lt costs ended);
      lives = subst (λ (u : TreeTurn). IfEnded u (IsUnspent g → AreLivesTrees g.pool)) (sym is) (outcome_lives line f g o xf sf ff fg m swept);
      few = subst (λ (u : TreeTurn). IfEnded u (IsUnspent g → FewLine line f g)) (sym is) (outcome_few line f g o xf sf ff fg m swept costs few);
      same = subst (λ (u : TreeTurn). UnlessOk u (IsUnspent g → AreSameLives f.pool g.pool)) (sym is) (outcome_same line f g o xf sf ff fg m swept kept);
      cause = subst (IsCaused hints f.pool g.pool) (sym is) (outcome_caused hints f.pool g.pool o own m.cause);
      over = λ e. outcome_over (y ≡ 0) o m.died (sym is ∙ e);
      late = λ e. outcome_over (LateLine line f g x) o (outcome_late line f g x o xf lt late) (sym is ∙ e);
      wordless = λ calm ts v none e. outcome_done o (idle (sf calm) ts v none) (sym is ∙ e);
      short = λ e calm after some. outcome_over (f.tidy ≡ true → 0 < x → IsUnspent g → IsCutShort hints line f g) o off (sym is ∙ e) (sf calm) some after;
      hinted = refl;
      died = died;
    }

-- they are told to be tidy again, unless the own era is spent
pub outcome_swept : (f g : Registers) (o : Result TreeAnswer Stop) → IsSwept f → IfAlive o (IsSwept f → IsSwept g) → is_died (turn_by o) ≡ false → IsSwept g
outcome_swept f g (Ok a) s h e = h s
outcome_swept f g (Err stop.Died) s h e = absurd (true≢false e)
outcome_swept f g (Err (stop.Full i j)) s h e = h s
outcome_swept f g (Err (stop.CountFull i j)) s h e = h s
outcome_swept f g (Err (stop.EraSpent i)) s h e = h s
