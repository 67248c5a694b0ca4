-- the counts are exact by the words alone
use Rattle.std.proofs.Common.{◌≡◌, ℕ, ◌+◌, ◌<◌, refl, sym, ap, ◌∙◌, arith, inl, inr, subst, eqb, List}
use Rattle.std.proofs.{Math.Path.fun_ext, lemmas.Bool.cases_Bool}
use Rattle.shm_words.specs.{declared.geometry.Geometry.Geometry, Layout.GeometryFits}
use Rattle.shm_graph.specs.{declared.{spot.Spot.Spot, run.Account.Account}, Spots.see, Blocks.{classes, headers}}
use Rattle.shm_graph.specs.{References.{sum_below, one_if, references_to}, Ops.indegree}
use Rattle.shm_graph.specs.{Views.{View, view, targets, held_overs}, Sound.IsSound, Runs.{Held, memos_of}}
use Rattle.shm_graph.proofs.{Spots.Sums.sum_each, States.{Counting.held_over_has, HeldSound.held_state_sound}}
use Rattle.shm_graph.proofs.States.SoundStates.{sound_named}
use Rattle.shm_headline.specs.Now.{IsExact, IsHeld, names, owed}
use Rattle.shm_headline.proofs.Named.{names_told, owed_told}

-- the numbers of references are alike where the targets and what is owed are
indegree_each : (g : Geometry) (class : ℕ → ℕ → ℕ) (t u : Spot → ℕ) (l m : ℕ → ℕ) (b : ℕ) → t ≡ u → ((c : ℕ) → c < g.clients → l c ≡ m c) → indegree g class t l b ≡ indegree g class u m b
unfolding indegree
indegree_each g class t u l m b e o =
    ap (λ x. references_to g class x b + sum_below g.clients (λ c. one_if (eqb (l c) b))) e
    ∙ ap (λ n. references_to g class u b + n) (sum_each g.clients (λ c. one_if (eqb (l c) b)) (λ c. one_if (eqb (m c) b)) (λ c k. ap (λ x. one_if (eqb x b)) (o c k)))

pub exact_told : (g : Geometry) (ws : List ℕ) (v : View) → GeometryFits g → IsSound g (see g ws) v → IsExact g (see g ws)
exact_told g ws v f h =
    let w : Spot → ℕ = see g ws in
    let same : names g w ≡ targets g w v = fun_ext (names_told g w v h) in
    let owes : (c : ℕ) → c < g.clients → owed g w c ≡ held_overs v c = λ c l. owed_told g w v h c l in
    record {
      counts = λ b live. h.count.counts b live ∙ sym (indegree_each g (classes w) (names g w) (targets g w v) (owed g w) (held_overs v) b same owes);
      named = λ p n. subst (λ (b : ℕ). IsHeld w b) (sym (names_told g w v h p)) (let x = sound_named g ws v f h p (λ z. n (names_told g w v h p ∙ z)) in (x.0, λ z. let y = x.1 in absurd (omega arith)));
      owing = λ c l n. subst (λ (b : ℕ). IsHeld w b) (sym (owes c l)) (let live = h.count.held_overs c l (λ z. n (owes c l ∙ z)) in let k = h.count.counts (held_overs v c) live in let one = held_over_has g (classes w) (targets g w v) (held_overs v) c (held_overs v c) l refl in (live, λ z. absurd (omega arith)));
      free = λ b. elim (cases_Bool (headers w b).live) [ inl l ↦ inl l | inr d ↦ inr (h.blocks.plain b d) ];
    }

pub held_exact : (g : Geometry) (ws : List ℕ) (es : List Account) → Held g ws es → IsExact g (see g ws)
held_exact g ws es h = exact_told g ws (view (memos_of es)) h.at.fits (held_state_sound g ws es h)
