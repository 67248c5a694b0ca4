-- what the lines of a script cost, whose client's own era is never spent
use Rattle.std.proofs.Common.{◌≡◌, ℕ, ◌+◌, ◌^◌, ◌<◌, ◌≤◌, ◌⊎◌, Bool, List, [], ◌∷◌, refl, sym, ap, ◌∙◌, subst, arith, inl, inr}
use Rattle.std.specs.Prelude.{IfSome, None, Option, Some, unwrap_or}
use Rattle.shm_count.specs.Tear.Events.{frees}
use Rattle.shm_graph.specs.{Agents.steps_made, Bounds.tear_steps, declared.run.Start.Start}
use Rattle.shm_plain.specs.Pools.{memo_of}
use Rattle.shm_tree.proofs.Unspent.{IsOfOne, few_unspent}
use Rattle.shm_tree.specs.{declared.{hints.Hints.Hints, line.{TreeAnswer.TreeAnswer, TreeLine.TreeLine}}, Costing.line_steps, CutShort.IsCutShort}
use Rattle.shm_tree.specs.ForestCalls.{IsFirstForest, RanLine}
use Rattle.shm_tree.specs.{Forests.{Forested, HasVersions, IsUnspent, versions_by}, ScriptTexts.IsScript}
use Rattle.shm_tree.specs.{Scripts.TreeScripted, Trees.Tree, Working.IsSpent}
use Rattle.shm_tree.specs.declared.line.TreeTurn.TheVariants as turns
use Rattle.shm_versions.specs.declared.treed.Treed.{Treed}
use Rattle.shm_versions.specs.TreeRuns.{IsEnding, IsTreeRun, Lines, life_of, versions_of, first_versions}
use Rattle.shm_outcomes.specs.Costs.{LineCosts, LinesCost, ScriptCosts}

abbrev made_by : Forested → ℕ
made_by f = steps_made (memo_of f.registers.pool 0)

-- nothing is left where the own era isn't spent
none_left : (n : ℕ) (s : Type 0) → (s → ⊥) → (n ≡ 0) ⊎ s → n ≡ 0
none_left n s not (inl e) = e
none_left n s not (inr h) = absurd (not h)

line_costs : (l : TreeLine) (a : TreeAnswer) (f g : Forested) (x y : ℕ) (ts : List Tree) → RanLine l f g x y (turns.Done a) → IsUnspent g.registers → HasVersions f.registers ts → LineCosts l a ts f.registers.pool g.registers.pool x y
line_costs l a f g x y ts ran unspent has =
    let spends = ran.spends ts has in
    let h = spends.spent in
    let none : h.left ≡ 0 = none_left h.left (IsSpent (memo_of g.registers.pool 0)) unspent h.none in
    let freed : frees h.told + h.left ≡ frees h.told = omega (arith, none) in
    let geometry = f.registers.pool.start.geometry in
    record {
      made = spends.made;
      told = h.told;
      did = h.did;
      steps = subst (λ (n : ℕ). x ≤ y + line_steps l ts geometry + tear_steps geometry.wide n) freed h.most;
      few = ran.few unspent ts has;
      trees = ran.lives unspent;
      same = λ other. ran.same other unspent;
    }

lines_cost : (ls : List TreeLine) (bs : List TreeAnswer) (f g : Forested) (x y : ℕ) (ts : List Tree) → Lines ls bs f x g y → HasVersions f.registers ts → IsOfOne f.registers.pool.start → x + made_by f ≤ 2 ^ 46 → LinesCost ls bs ts f.registers.pool g.registers.pool x y
lines_cost [] [] f g x y ts w has one few = (ap (λ (e : Forested). e.registers.pool) w.0, w.1)
lines_cost [] (a ∷ bs) f g x y ts w has one few = absurd w
lines_cost (l ∷ ls) [] f g x y ts w has one few = absurd w
lines_cost (l ∷ ls) (a ∷ bs) f g x y ts w has one few =
    let h = w.0 in
    let ran = w.2 in
    let spent : w.1 + made_by h ≡ x + made_by f = ran.went.spent in
    let of : IsOfOne h.registers.pool.start = subst IsOfOne (sym ran.went.start) one in
    let unspent : IsUnspent h.registers = few_unspent h.registers.pool ran.went.run of (omega (arith, spent, few)) in
    (h.registers.pool, w.1, line_costs l a f h x w.1 ts ran unspent has, lines_cost ls bs h g w.1 y (versions_by l ts a) w.3 (ran.does ts has).1 of (omega (arith, spent, few)))

-- they leave whether there are hints
hints_stay : (ls : List TreeLine) (bs : List TreeAnswer) (f g : Forested) (x y : ℕ) → Lines ls bs f x g y → g.hints ≡ f.hints
hints_stay [] [] f g x y w = ap (λ (e : Forested). e.hints) w.0
hints_stay [] (a ∷ bs) f g x y w = absurd w
hints_stay (l ∷ ls) [] f g x y w = absurd w
hints_stay (l ∷ ls) (a ∷ bs) f g x y w = hints_stay ls bs w.0 g w.1 y w.3 ∙ w.2.hinted

-- ---- a script

life_low : (o : Option ℕ) → IfSome o (λ n. (1 ≤ n) × (n ≤ 2 ^ 40)) → unwrap_or o (2 ^ 40) ≤ 2 ^ 40
life_low None h = omega arith
life_low (Some n) h = h.1

first_one : (n : ℕ) (f : Forested) → IsFirstForest n f → IsOfOne f.registers.pool.start
first_one n f made = record { who = subst (λ (s : Start). 0 < s.geometry.clients) (sym made.start) (omega arith); first = ap (λ (s : Start). s.first_era) made.start }

pub script_costs : (s : TreeScripted) (r : Treed) → IsScript s → IsTreeRun s r → ScriptCosts s r
script_costs s r script run =
    let p = run.played in
    let low : life_of s ≤ 2 ^ 40 = life_low s.life script.life in
    let joined : made_by run.first ≡ 1 = run.made.step in
    record {
      done = p.done;
      rest = p.rest;
      all = p.all;
      first = run.first.registers.pool;
      last = p.last.registers.pool;
      left = p.left;
      joined = run.made.joined;
      cost = lines_cost p.done r.answers.items run.first p.last (life_of s) p.left first_versions p.ran run.made.empty (first_one s.segments run.first run.made) (omega (arith, low, joined));
      cut = λ none.
          let w = subst (λ (b : Bool). IsEnding b p.rest p.last run.final p.left) none p.ending in
          record {
            line = w.line;
            more = w.more;
            is = w.cut;
            before = p.last.registers;
            after = run.final.registers;
            pool = refl;
            versions = run.versions;
            takes = λ wordless. w.ran.wordless run.roomy.0 (versions_of p.done r.answers.items first_versions) run.versions wordless refl;
            short = λ some.
                let off = hints_stay p.done r.answers.items run.first p.last (life_of s) p.left p.ran ∙ run.made.hinted in
                subst (λ (h : Hints). IsCutShort h w.line p.last.registers run.final.registers) off (w.ran.short refl run.roomy.0 run.roomy.1 some);
          };
    }
