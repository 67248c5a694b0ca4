-- a state that holds and in which nobody is at work is clean
use Rattle.std.proofs.Common.{◌≡◌, ◌≢◌, ℕ, ◌+◌, ◌<◌, ◌≤◌, refl, sym, ap, ◌∙◌, arith, subst, inl, inr, ◌⊎◌, cond, eqb, ltb, List, []}
use Rattle.std.proofs.{Math.Path.fun_ext, lemmas.Bool.{cases_eq, cases_Bool, ne_eqb}}
use Rattle.shm_words.specs.{declared.geometry.Geometry.Geometry, Classes.IsClass}
use Rattle.shm_words.specs.Tags.{tag_refs, tag_plain, tag_author, tag_link}
use Rattle.shm_words.proofs.{Words.tag_from_fields, Classing.class_room}
use Rattle.shm_graph.specs.declared.spot.Spot.{Spot, TheVariants.{Status, Home, Root, Slot, Page, Head, Tag, Body}}
use Rattle.shm_graph.specs.declared.{memo.{Status.TheVariants.{New, Gone}, Op.TheVariants.Nothing}, run.Account.Account}
use Rattle.shm_graph.specs.{Spots.{class_at, see}, Blocks.{classes, headers, IsLive}}
use Rattle.shm_graph.specs.References.{sum_below, one_if, words_of, references, references_to}
use Rattle.shm_graph.specs.Ops.{cover, cover_of, covered, held_over_of, indegree}
use Rattle.shm_graph.specs.{Views.{View, view, targets, held_overs}, Held.{HeldAt, status_word}}
use Rattle.shm_graph.specs.{Clean.{IsClean, TagSuits}, Runs.{Held, memos_of}}
use Rattle.shm_graph.proofs.{Spots.Sums.sum_none, States.{Counting.covered_none, Holders.held_live_not_zero}}

-- where no change holds a reference over, the references are those of words
pub indegree_still : (g : Geometry) (class : ℕ → ℕ → ℕ) (t : Spot → ℕ) (l : ℕ → ℕ) (b : ℕ) → b ≢ 0 → ((c : ℕ) → c < g.clients → l c ≡ 0) → indegree g class t l b ≡ references_to g class t b
unfolding indegree
indegree_still g class t l b n none =
    let s : sum_below g.clients (λ c. one_if (eqb (l c) b)) ≡ 0 = sum_none g.clients (λ c. one_if (eqb (l c) b)) (λ c lc. ap one_if (ne_eqb (l c) b (λ e. n (sym e ∙ none c lc)))) in
    omega arith

module _ (g : Geometry) (w : Spot → ℕ) (v : View) (h : HeldAt g w v) (still : (c : ℕ) → c < g.clients → (v.status c ≡ New) ⊎ (v.status c ≡ Gone)) where
  no_step : (c : ℕ) → c < g.clients → v.op c ≡ Nothing
  no_step c l = elim (still c l) [ inl s ↦ (h.fresh c l s).idle | inr s ↦ (h.gone c l s).idle ]

  no_dying : (c : ℕ) → c < g.clients → v.dying c ≡ []
  no_dying c l = elim (still c l) [ inl s ↦ (h.fresh c l s).dyings | inr s ↦ (h.gone c l s).dyings ]

  uncovered : (p : Spot) (x : ℕ) → covered (λ c. cover_of (v.op c)) g.clients p x ≡ x
  uncovered p x = covered_none g.clients p x (λ c. cover_of (v.op c)) (λ d l y. ap (λ o. cover (cover_of o) p y) (no_step d l))

  -- each word names what it holds
  target_still : (p : Spot) → targets g w v p ≡ references g.wide w p
  target_still (Home c) = uncovered (Home c) (w (Home c))
  target_still (Root c k) = uncovered (Root c k) (w (Root c k))
  target_still (Slot s r k) = uncovered (Slot s r k) (w (Slot s r k))
  target_still (Body b i) = ap (λ z. cond (ltb i ((words_of g.wide w).refs b)) z 0) (uncovered (Body b i) (w (Body b i)))
  target_still _ = refl

  pub targets_still : targets g w v ≡ references g.wide w
  targets_still = fun_ext target_still

  status_still : (c : ℕ) → c < g.clients → (w (Status c) ≡ 0) ⊎ (w (Status c) ≡ 3)
  status_still c l = elim (still c l) [
    | inl s ↦ inl (sym (h.state c l) ∙ ap status_word s)
    | inr s ↦ inr (sym (h.state c l) ∙ ap status_word s)
  ]

  page_class : (s p : ℕ) → (w (Page s p) ≡ 0) ⊎ IsClass (w (Page s p))
  page_class s p = elim (cases_eq (w (Page s p)) 0) [ inl e ↦ inl e | inr n ↦ inr (h.sizes.classes s p n) ]

  head_live : (b : ℕ) → w (Head b) ≢ 0 → IsLive (headers w) b
  head_live b n = elim (cases_Bool (headers w b).live) [ inl l ↦ l | inr d ↦ absurd (n (h.blocks.plain b d)) ]

  tag_suits : (b : ℕ) → IsLive (headers w) b → TagSuits g.wide g.clients (class_at g (classes w) b) (w (Tag b))
  tag_suits b l =
      let t = h.blocks.tagged b l in
      record {
        tag = record { refs = tag_refs g.wide (w (Tag b)); plain = tag_plain g.wide (w (Tag b)); author = tag_author g.wide (w (Tag b)); link = tag_link g.wide (w (Tag b)) };
        is = tag_from_fields g.wide (w (Tag b)) t.small t.refs t.plain;
        room = subst (λ (k : ℕ). 2 + tag_refs g.wide (w (Tag b)) + tag_plain g.wide (w (Tag b)) ≤ k) t.fits (class_room (tag_refs g.wide (w (Tag b))) (tag_plain g.wide (w (Tag b))) t.refs t.plain);
        author = t.author;
      }

  -- a block whose count is 0 would be a zero-count block of the client in its header
  counted : (b : ℕ) → IsLive (headers w) b → (headers w b).count ≢ 0
  counted b l z =
      let c : ℕ = (headers w b).client in
      let lc : c < g.clients = h.era.client b l in
      let d = rw (no_dying c lc) at ((h.dying c lc).all b (l, z, refl)) in
      absurd (let k = d.1 in omega arith)

  count_still : (b : ℕ) → IsLive (headers w) b → (headers w b).count ≡ references_to g (classes w) (references g.wide w) b
  count_still b l =
      h.count.counts b l
      ∙ (indegree_still g (classes w) (targets g w v) (held_overs v) b (held_live_not_zero g w v h b l) (λ c lc. ap held_over_of (no_step c lc))
      ∙ ap (λ t. references_to g (classes w) t b) targets_still)

  pub still_clean : IsClean g w
  still_clean =
      record {
        statuses = status_still;
        pages = page_class;
        heads = λ b n. (head_live b n, h.era.client b (head_live b n));
        tags = tag_suits;
        targets = subst (λ (t : Spot → ℕ). (p : Spot) → t p ≢ 0 → IsLive (headers w) (t p)) targets_still h.count.targets;
        counts = λ b l. (let n = counted b l in omega arith, count_still b l);
      }

pub still_state_clean : (g : Geometry) (ws : List ℕ) (es : List Account) → Held g ws es → ((c : ℕ) → c < g.clients → ((memos_of es c).status ≡ New) ⊎ ((memos_of es c).status ≡ Gone)) → IsClean g (see g ws)
still_state_clean g ws es h still = still_clean g (see g ws) (view (memos_of es)) h.at still
