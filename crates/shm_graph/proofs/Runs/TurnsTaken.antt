-- what follows of the turns of a run
use Rattle.std.proofs.Common.{◌≡◌, ◌≢◌, ℕ, ◌<◌, ◌≤◌, refl, sym, ap, ◌∙◌, subst, arith, inl, inr, ◌⊎◌, true, eqb, ltb, cond}
use Rattle.std.proofs.lemmas.Bool.{cases_Bool, cond-true, cond-false, eqb-true, ltb-true}
use Rattle.std.specs.Prelude.{Option, Some, None}
use Rattle.shm_words.specs.{declared.geometry.Geometry.Geometry, Layout.total_of}
use Rattle.shm_words.specs.Tags.{tag_author, tag_plain, tag_refs}
use Rattle.shm_words.proofs.Words.{live_not_zero}
use Rattle.shm_graph.specs.declared.{ask.Ask.{Ask, TheVariants.{Load, Store, Exchange}}, memo.{Agent.Agent, Fate.Fate}}
use Rattle.shm_graph.specs.declared.memo.{Fate.TheVariants.{Acts, Ended, Died}, Kind.TheVariants.{Client, Recoverer}}
use Rattle.shm_graph.specs.declared.memo.{Status.{Status as AStatus, TheVariants.{New, Gone}}, Step.Step}
use Rattle.shm_graph.specs.declared.{run.Move.TheVariants.{Word, Begins}, spot.Spot.Spot}
use Rattle.shm_graph.specs.declared.spot.Spot.TheVariants.{Status, Latch, Segment, Head, Tag, Body, Era}
use Rattle.shm_graph.specs.{Agents.last_agent, Asks.{at_of, words_after}, Blocks.{IsLive, classes, headers}}
use Rattle.shm_graph.specs.Controllers.{IsController, IsAllowed, IsOpen, IsRowShown}
use Rattle.shm_graph.specs.Events.{Event, Alloc, Up, ChangeUp, Free, Happens, IsCounted, graph_of}
use Rattle.shm_graph.specs.{Held.{CountSound, status_word}, Histories.{IsTaken, event_at}, Laws.Stepped, Ops.indegree}
use Rattle.shm_graph.specs.{References.words_of, Runs.{IsWordTurn, State, fell_by, is_dead, memos_of, moved}}
use Rattle.shm_graph.specs.{Sound.IsSound, Spots.{classes_in, same_spot, see, spot_at, upd}}
use Rattle.shm_graph.specs.Views.{View, held_overs, targets, view}
use Rattle.shm_graph.proofs.States.{Counting.{has_place, indegree_has, target_not_spare}, HeldSound.held_state_sound}
use Rattle.shm_graph.proofs.Runs.{Going.acts_within, Shapes.{alloc_author, tag_stays}, Lists.see-words_set}
use Rattle.shm_graph.proofs.Spots.Spotting.{in_pool, same_spot_is}

-- ---- words of others

-- what anybody may exchange is nobody's
open_none : (g : Geometry) (w : Spot → ℕ) (v : View) (d : ℕ) (p : Spot) → IsOpen w p → IsController g w v d p → ⊥
open_none g w v d (Segment s) o k = omega arith
open_none g w v d (Latch a) o k = omega arith
open_none g w v d (Head b) o (inl x) = live_not_zero (w (Head b)) o.0 x.0
open_none g w v d (Head b) o (inr x) = o.1 x.1
open_none g w v d _ o k = absurd o

-- a step of c leaves each word that another identity alone may store
word_left : (g : Geometry) (w : Spot → ℕ) (v : View) (c : ℕ) (a : Ask) (q p : Spot) → IsAllowed g w v c a q → (IsController g w v c p ⊎ IsOpen w p → ⊥) → words_after w a q p ≡ w p
word_left g w v c (Load at) q p may not = refl
word_left g w v c (Store at x) q p may not =
    elim (cases_Bool (same_spot q p)) [
      | inl e ↦ absurd (not (inl (subst (IsController g w v c) (same_spot_is q p e) may)))
      | inr e ↦ cond-false (same_spot q p) x (w p) e
    ]
word_left g w v c (Exchange at from to) q p may not =
    elim (cases_Bool (eqb (w q) from)) [
      | inr e ↦ ap (λ b. cond b (upd w q to) w p) e
      | inl e ↦ elim (cases_Bool (same_spot q p)) [
        | inl s ↦ absurd (not (subst (λ y. IsController g w v c y ⊎ IsOpen w y) (same_spot_is q p s) (may (eqb-true (w q) from e))))
        | inr s ↦ ap (λ b. cond b (upd w q to) w p) e ∙ cond-false (same_spot q p) to (w p) s
      ]
    ]

-- ---- counts

has_references : (g : Geometry) (class : ℕ → ℕ → ℕ) (w : Spot → ℕ) (t : Spot → ℕ) (l : ℕ → ℕ) (b : ℕ) → CountSound g class (headers w) t l → IsCounted w b → 0 < indegree g class t l b
has_references g class w t l b x y = let c = x.counts b y.0 in let n = y.1 in omega arith

none_names : (g : Geometry) (class : ℕ → ℕ → ℕ) (t : Spot → ℕ) (l : ℕ → ℕ) (b : ℕ) → indegree g class t l b ≡ 0 → 1 ≤ indegree g class t l b → ⊥
none_names g class t l b z one = omega arith

-- a word past the references of a block names nothing
past_references : (g : Geometry) (w : Spot → ℕ) (v : View) (b i : ℕ) → IsLive (headers w) b → (i < tag_refs g.wide (w (Tag b)) → targets g w v (Body b i) ≡ 0) → targets g w v (Body b i) ≡ 0
past_references g w v b i live inside =
    elim (cases_Bool (ltb i ((words_of g.wide w).refs b))) [
      | inl l ↦ inside (subst (λ n. i < n) (cond-true (headers w b).live (tag_refs g.wide (w (Tag b))) 0 live) (ltb-true i ((words_of g.wide w).refs b) l))
      | inr o ↦ cond-false (ltb i ((words_of g.wide w).refs b)) _ 0 o
    ]

-- ---- word steps

module _ (g : Geometry) (s : State) (t : Step) (x : IsTaken g s (Word t)) where
  -- the words, the parts of the memos and the spot that is asked for
  abbrev pub w : Spot → ℕ
  w = see g s.words

  abbrev pub v : View
  v = view (memos_of s.accounts)

  abbrev pub q : Spot
  q = spot_at g (classes_in g s.words) (at_of t.ask)

  turn : IsWordTurn g s t
  turn = x.turned.event

  sound : IsSound g w v
  sound = held_state_sound g s.words s.accounts x.held

  one : Stepped g t.me.who t.ask q (event_at g s t) w v (see g (moved s (Word t)).words) (view (memos_of (moved s (Word t)).accounts))
  one = turn.one_event

  within : t.me.who < g.clients
  within = subst (λ (n : ℕ). t.me.who < n) x.held.accounts (acts_within s.accounts t.me.who x.is.1)

  pub turn_others : (d : ℕ) (p : Spot) → d < g.clients → d ≢ t.me.who → IsController g w v d p → see g (moved s (Word t)).words p ≡ w p
  turn_others d p l other k =
      ap (λ (f : Spot → ℕ). f p) (see-words_set g s.words v t.me.who t.ask q x.held.at x.held.words turn.inside refl one.allowed)
      ∙ word_left g w v t.me.who t.ask q p one.allowed mine
    where
      mine : IsController g w v t.me.who p ⊎ IsOpen w p → ⊥
      mine (inl y) = other (sym (sound.alone t.me.who d within l p y k))
      mine (inr y) = open_none g w v d p y k

  happens : (e : Event) → event_at g s t ≡ e → Happens g w e (graph_of g w v) (graph_of g (see g (moved s (Word t)).words) (view (memos_of (moved s (Word t)).accounts)))
  happens e same = subst (λ (y : Event). Happens g w y (graph_of g w v) (graph_of g (see g (moved s (Word t)).words) (view (memos_of (moved s (Word t)).accounts)))) same one.event

  pub turn_allocated : (c k b : ℕ) → event_at g s t ≡ Alloc c k b → (p : Spot) → targets g w v p ≢ b
  turn_allocated c k b e p names =
      let y = happens (Alloc c k b) e in
      let n : targets g w v p ≢ 0 = λ z. let i = in_pool g (classes w) b (Head b) y.0.0 (λ e. cc) in let d : b ≡ 0 = sym names ∙ z in absurd (let j = i.0 in omega arith) in
      none_names g (classes w) (targets g w v) (held_overs v) b y.1
      (indegree_has g (classes w) (targets g w v) (held_overs v) p b (has_place g w v.op x.held.at.there x.held.at.op p n) (target_not_spare g.clients _ _ p n) names)

  pub turn_raised : (c : ℕ) (p : Spot) (b : ℕ) → event_at g s t ≡ Up c p b → 0 < indegree g (classes w) (targets g w v) (held_overs v) b
  turn_raised c p b e = has_references g (classes w) w (targets g w v) (held_overs v) b sound.count (happens (Up c p b) e).1

  pub turn_changed : (c : ℕ) (p : Spot) (a b : ℕ) → event_at g s t ≡ ChangeUp c p a b → (0 < indegree g (classes w) (targets g w v) (held_overs v) b) × (held_overs v c ≡ 0)
  turn_changed c p a b e = let y = happens (ChangeUp c p a b) e in (has_references g (classes w) w (targets g w v) (held_overs v) b sound.count y.2, y.3)

  pub turn_freed : (c b : ℕ) → event_at g s t ≡ Free c b → (i : ℕ) → targets g w v (Body b i) ≡ 0
  turn_freed c b e i = let y = happens (Free c b) e in past_references g w v b i y.0 (y.3 i)

  pub turn_placed : (t.me.geometry ≡ g) × (at_of t.ask < total_of g)
  turn_placed = (turn.of, turn.inside)

  pub turn_shaped : (b : ℕ) → let x : Spot → ℕ = see g (moved s (Word t)).words in IsLive (headers w) b → IsLive (headers x) b → (tag_refs g.wide (x (Tag b)) ≡ tag_refs g.wide (w (Tag b))) × (tag_plain g.wide (x (Tag b)) ≡ tag_plain g.wide (w (Tag b))) × (tag_author g.wide (x (Tag b)) ≡ tag_author g.wide (w (Tag b)))
  turn_shaped b = tag_stays g w v (see g (moved s (Word t)).words) (view (memos_of (moved s (Word t)).accounts)) (event_at g s t) one.event b

  pub turn_authored : (c k b : ℕ) → event_at g s t ≡ Alloc c k b → let x : Spot → ℕ = see g (moved s (Word t)).words in IsLive (headers x) b × (tag_author g.wide (x (Tag b)) ≡ c)
  turn_authored c k b e = alloc_author g w v (see g (moved s (Word t)).words) (view (memos_of (moved s (Word t)).accounts)) c k b (happens (Alloc c k b) e)

  pub turn_rows : (at from to b : ℕ) → t.ask ≡ Exchange at from to → spot_at g (classes_in g s.words) at ≡ Head b → w (Head b) ≡ from → IsLive (headers w) b → t.me.who ≢ (headers w b).client → (headers w b).era ≤ w (Era t.me.who (headers w b).client)
  turn_rows at from to b e here =
      subst (λ (p : Spot). IsRowShown w t.me.who (Exchange at from to) p) here
      (subst (λ (a : Ask). IsRowShown w t.me.who a (spot_at g (classes_in g s.words) (at_of a))) e one.row)

-- ---- beginnings

joinable : (st : AStatus) (n : ℕ) → status_word st ≡ n → (st ≡ New) ⊎ (st ≡ Gone) → (n ≡ 0) ⊎ (n ≡ 3)
joinable st n e (inl z) = inl (sym e ∙ ap status_word z)
joinable st n e (inr z) = inr (sym e ∙ ap status_word z)

is_dead_died : (f : Fate) → is_dead f ≡ true → f ≡ Died
is_dead_died Died e = refl
is_dead_died Acts e = cc
is_dead_died Ended e = cc

fell_last : (o : Option Agent) → fell_by o ≡ true → (a : Agent) × (o ≡ Some a) × (a.fate ≡ Died)
fell_last None e = cc
fell_last (Some a) e = (a, refl, is_dead_died a.fate e)

pub begins_client : (g : Geometry) (s : State) (c : ℕ) → IsTaken g s (Begins c Client) → (see g s.words (Status c) ≡ 0) ⊎ (see g s.words (Status c) ≡ 3)
begins_client g s c x =
    joinable (memos_of s.accounts c).status (see g s.words (Status c))
    ((held_state_sound g s.words s.accounts x.held).state c (subst (λ (n : ℕ). c < n) x.held.accounts x.is.0))
    x.is.2

pub begins_recoverer : (g : Geometry) (s : State) (c : ℕ) → IsTaken g s (Begins c Recoverer) → (a : Agent) × (last_agent (memos_of s.accounts c).agents ≡ Some a) × (a.fate ≡ Died)
begins_recoverer g s c x = fell_last (last_agent (memos_of s.accounts c).agents) x.is.2
