-- steps that leave the graph of references
use Rattle.std.proofs.{Common.{◌≡◌, ◌≢◌, ℕ, ap, sym, subst, ◌∙◌, false, refl}, lemmas.Bool.true≢false}
use Rattle.shm_words.specs.{declared.geometry.Geometry.Geometry, Headers.header_of}
use Rattle.shm_graph.specs.declared.{ask.Ask.{Ask, TheVariants.{Load, Store, Exchange}}, spot.Spot.Spot}
use Rattle.shm_graph.specs.declared.{spot.Spot.TheVariants.{Era, Head, Tag}, memo.{Memo.Memo, Step.Step}}
use Rattle.shm_graph.specs.{Views.{view, at1}, References.{Words, words_of}}
use Rattle.shm_graph.specs.Ops.{Cover, cover_of, held_over_of, target}
use Rattle.shm_graph.specs.{Events.{Nothing, Graph, graph_of, IsSame, Happens}, Controllers.{IsEraRaised, IsRowShown}}
use Rattle.shm_graph.specs.{Laws.event_by, Spots.is_in_body}
use Rattle.shm_graph.proofs.Memos.MemoParts.{part_stays}

-- no header, no tag and no reference word changed, and the step in progress covers and holds over what it did
pub same_graph : (g : Geometry) (w w' : Spot → ℕ) (r : ℕ → Memo) (c : ℕ) (m : Memo) → cover_of m.op ≡ cover_of (r c).op → held_over_of m.op ≡ held_over_of (r c).op
    → ((b : ℕ) → w' (Head b) ≡ w (Head b)) → ((b : ℕ) → w' (Tag b) ≡ w (Tag b)) → words_of g.wide w' ≡ words_of g.wide w
    → IsSame (graph_of g w (view r)) (graph_of g w' (view (at1 r c m)))
same_graph g w w' r c m cover held_over heads tags words =
    record {
      lives = λ b. ap (λ n. (header_of n).live) (heads b);
      shapes = λ b. rw (heads b, tags b) refl;
      targets = λ p. ap (λ (x : Words). target g.clients x (λ d. cover_of ((at1 r c m d).op)) p) words ∙ ap (λ (q : ℕ → Cover). target g.clients (words_of g.wide w) q p) (part_stays (λ (x : Memo). cover_of x.op) r c m cover);
      held_overs = λ d. ap (λ (q : ℕ → ℕ). q d) (part_stays (λ (x : Memo). held_over_of x.op) r c m held_over);
    }

-- a step at a spot of no body that exchanges no header is no event, and needs no row
no_event : (m : Memo) (t : Step) (a : Ask) (p : Spot) → is_in_body p ≡ false → event_by m t a p ≡ Nothing
no_event m t (Load at) p n = refl
no_event m t (Store at v) (Head b) n = absurd (true≢false n)
no_event m t (Exchange at from to) (Head b) n = absurd (true≢false n)
no_event m t (Store at v) _ n = refl
no_event m t (Exchange at from to) _ n = refl

pub no_row : (w : Spot → ℕ) (c : ℕ) (a : Ask) (p : Spot) → is_in_body p ≡ false → IsRowShown w c a p
no_row w c (Exchange at from to) (Head b) n = absurd (true≢false n)
no_row w c _ p n = tt

-- an exchange that finds another word changes no era
pub era_lost : (w : Spot → ℕ) (at from to : ℕ) (p : Spot) → w p ≢ from → IsEraRaised w (Exchange at from to) p
era_lost w at from to (Era i j) other = λ e. absurd (other e)
era_lost w at from to _ other = tt

pub nothing_happens : (g : Geometry) (w w' : Spot → ℕ) (m : Memo) (t : Step) (a : Ask) (p : Spot) (x y : Graph) → is_in_body p ≡ false → IsSame x y → Happens g w (event_by m t a p) x y
nothing_happens g w w' m t a p x y n same = subst (λ e. Happens g w e x y) (sym (no_event m t a p n)) same
