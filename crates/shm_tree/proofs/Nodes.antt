-- Nodes, trees, live blocks and roots of a pool between two calls of its one client.
use Rattle.std.proofs.Common.{◌≡◌, ℕ, ◌+◌, ◌<◌, ◌≤◌, true, List, [], ◌++◌, length, refl, sym, ap, ◌∙◌, subst, arith, ltb}
use Rattle.std.proofs.lemmas.{Bool.{cond-true, lt-ltb, cond-false, le-ltb}, List.length-append}
use Rattle.std.proofs.lemmas.List.Elements.{filter-append}
use Rattle.std.specs.List.{AllByRecursion, filter}
use Rattle.shm_words.specs.{declared.geometry.Geometry.Geometry, Headers.header_of, Tags.tag_refs}
use Rattle.shm_graph.specs.declared.{memo.Op.Op, run.{Account.Account, Move.Move, Start.Start}, spot.Spot.Spot}
use Rattle.shm_graph.specs.{declared.spot.Spot.TheVariants.{Body, Head, Home, Root, Tag}, Blocks.headers, Events.Event}
use Rattle.shm_graph.specs.{Held.HeldAt, Ops.{cover, cover_of, covered}, References.words_of, Runs.memos_of, Spots.see}
use Rattle.shm_graph.specs.Views.{View, targets, view}
use Rattle.shm_graph.specs.declared.memo.Op.TheVariants as op
use Rattle.shm_graph.proofs.States.HomeTarget.{covered_left}
use Rattle.shm_plain.specs.{Calls.Did, Pools.{IsRun, Pool, memo_of, pool}}
use Rattle.shm_count.specs.Roots.{root_word}
use Rattle.shm_tree.specs.Keeping.{HasMade, IsStill, KeepsNode, KeepsNodes, KeepsTrees, is_alloc, is_live, made_in}
use Rattle.shm_tree.specs.{Standing.{IsNode, TreeStands, word_of}, Trees.{Empty, Node}}
use Rattle.shm_tree.specs.Working.{AreSameRoots, IsWorking}
use Rattle.shm_tree.proofs.Frames.{HasPlain, Unfreed, Unlived, UntouchedBy, life_kept, plain_kept, target_kept}
use Rattle.shm_tree.proofs.Turns.{did_keeps, did_then}

-- ---- one pool

-- no step of the one client is in progress
pub record IsCalm (p : Pool) : Type 0 where
  pub run : IsRun p
  pub one : p.start.geometry.clients ≡ 1
  pub idle : (memo_of p 0).op ≡ op.Nothing

pub working_calm : (p : Pool) → IsWorking p → IsCalm p
working_calm p h = record { run = h.run; one = h.one; idle = h.work.idle.op }

-- what a spot names
abbrev pub names : Pool → Spot → ℕ
names p s = targets p.start.geometry (see p.start.geometry p.words) (view (memos_of p.accounts)) s

module _ (p : Pool) (calm : IsCalm p) where
  abbrev g : Geometry
  g = p.start.geometry

  abbrev w : Spot → ℕ
  w = see g p.words

  abbrev v : View
  v = view (memos_of p.accounts)

  pub calm_held : HeldAt g w v
  calm_held = calm.run.held.at

  pub calm_first : 0 < g.clients
  calm_first = let n = calm.one in omega arith

  -- no word is covered
  uncovered : (s : Spot) (x : ℕ) → covered (λ c. cover_of (v.op c)) g.clients s x ≡ x
  uncovered s x = covered_left (λ c. cover_of (v.op c)) g.clients s x quiet
    where
      quiet : (d : ℕ) → d < g.clients → cover (cover_of (v.op d)) s x ≡ x
      quiet d l =
          let first : 0 ≡ d = let n = calm.one in omega arith in
          ap (λ (i : ℕ). cover (cover_of (v.op i)) s x) (sym first) ∙ ap (λ (o : Op). cover (cover_of o) s x) calm.idle

  -- a reference word of a live block holds what it names
  pub body_names : (b i : ℕ) → is_live p b ≡ true → i < tag_refs g.wide (w (Tag b)) → names p (Body b i) ≡ word_of p (Body b i)
  body_names b i live low =
      let refs : (words_of g.wide w).refs b ≡ tag_refs g.wide (w (Tag b)) = cond-true (header_of (w (Head b))).live (tag_refs g.wide (w (Tag b))) 0 live in
      cond-true (ltb i ((words_of g.wide w).refs b)) _ 0 (lt-ltb i ((words_of g.wide w).refs b) (subst (λ n. i < n) (sym refs) low))
      ∙ uncovered (Body b i) (w (Body b i))

  -- a word past them names nothing
  pub body_past : (b i : ℕ) → is_live p b ≡ true → tag_refs g.wide (w (Tag b)) ≤ i → names p (Body b i) ≡ 0
  body_past b i live past =
      let refs : (words_of g.wide w).refs b ≡ tag_refs g.wide (w (Tag b)) = cond-true (header_of (w (Head b))).live (tag_refs g.wide (w (Tag b))) 0 live in
      cond-false (ltb i ((words_of g.wide w).refs b)) _ 0 (le-ltb i ((words_of g.wide w).refs b) (subst (λ n. n ≤ i) (sym refs) past))

  -- and so does a root
  pub root_names : (k : ℕ) → names p (Root 0 k) ≡ word_of p (Root 0 k)
  root_names k = uncovered (Root 0 k) (w (Root 0 k))

  -- and the home
  pub home_names : names p (Home 0) ≡ word_of p (Home 0)
  home_names = uncovered (Home 0) (w (Home 0))

  pub root_is : (k : ℕ) → root_word 0 (memo_of p 0) k ≡ word_of p (Root 0 k)
  root_is k = calm_held.mine 0 calm_first (Root 0 k) refl

-- ---- from one pool to another

-- the other pool as one that was made the same way
pub as_started : (P : Pool → Type 0) (p q : Pool) → q.start ≡ p.start → P q → P (pool p.start q.words q.accounts q.turns)
as_started P p q start h = subst (λ (s : Start). P (pool s q.words q.accounts q.turns)) start h

pub from_started : (P : Pool → Type 0) (p q : Pool) → q.start ≡ p.start → P (pool p.start q.words q.accounts q.turns) → P q
from_started P p q start h = subst (λ (s : Start). P (pool s q.words q.accounts q.turns)) (sym start) h

-- events that leave a node
pub record AreMild (b : ℕ) (es : List Event) : Type 0 where
  pub freed : AllByRecursion (Unfreed b) es
  pub left : AllByRecursion (UntouchedBy (Body b 0)) es
  pub right : AllByRecursion (UntouchedBy (Body b 1)) es

module _ (p : Pool) (es : List Event) (cp : IsCalm p) (ws : List ℕ) (accs : List Account) (ms : List Move) where
  abbrev q : Pool
  q = pool p.start ws accs ms

  module _ (cq : IsCalm q) (did : Did 0 p q es) where
    -- the node is there
    node_there : (b k n h : ℕ) → AllByRecursion (Unfreed b) es → IsNode p b k n h → IsNode q b k n h
    node_there b k n h free x =
        let y : HasPlain p.start.geometry 0 b 2 3 (λ i. word_of p (Body b i)) (see p.start.geometry ws) =
        did_keeps 0 p q es cp.run cq.run refl did (Unfreed b) refl (λ w v. HasPlain p.start.geometry 0 b 2 3 (λ i. word_of p (Body b i)) w) (plain_kept p.start.geometry 0 b 2 3 (λ i. word_of p (Body b i))) free (record { live = x.live; refs = x.refs; plain = x.plain; words = λ i l. refl }) in
        record {
          some = x.some;
          live = y.live;
          refs = y.refs;
          plain = y.plain;
          key = y.words 2 (omega arith) ∙ x.key;
          number = y.words 3 (omega arith) ∙ x.number;
          height = y.words 4 (omega arith) ∙ x.height;
        }

    -- it names what it named
    names_there : (s : Spot) → AllByRecursion (UntouchedBy s) es → names q s ≡ names p s
    names_there s good = did_keeps 0 p q es cp.run cq.run refl did (UntouchedBy s) refl (λ w v. targets p.start.geometry w v s ≡ names p s) (target_kept p.start.geometry 0 s (names p s)) good refl

    home_there : AllByRecursion (UntouchedBy (Home 0)) es → word_of q (Home 0) ≡ word_of p (Home 0)
    home_there good = sym (home_names q cq) ∙ (names_there (Home 0) good ∙ home_names p cp)

    child_there : (b k n h i : ℕ) → i < 2 → AllByRecursion (Unfreed b) es → AllByRecursion (UntouchedBy (Body b i)) es → IsNode p b k n h → word_of q (Body b i) ≡ word_of p (Body b i)
    child_there b k n h i low free good x =
        let y = node_there b k n h free x in
        let before : i < tag_refs p.start.geometry.wide (see p.start.geometry p.words (Tag b)) = let e = x.refs in omega arith in
        let after : i < tag_refs p.start.geometry.wide (see p.start.geometry ws (Tag b)) = let e = y.refs in omega arith in
        sym (body_names q cq b i y.live after) ∙ (names_there (Body b i) good ∙ body_names p cp b i x.live before)

    node_here : (b k n h : ℕ) → AreMild b es → IsNode p b k n h → KeepsNode p q b k n h
    node_here b k n h mild x =
        record {
          node = node_there b k n h mild.freed x;
          left = child_there b k n h 0 (omega arith) mild.freed mild.left x;
          right = child_there b k n h 1 (omega arith) mild.freed mild.right x;
        }

    life_here : (b : ℕ) → AllByRecursion (Unlived b) es → is_live q b ≡ is_live p b
    life_here b good = did_keeps 0 p q es cp.run cq.run refl did (Unlived b) (refl, refl) (λ w v. (headers w b).live ≡ is_live p b) (life_kept p.start.geometry 0 b (is_live p b)) good refl

module _ (p q : Pool) (es : List Event) (cp : IsCalm p) (cq : IsCalm q) (start : q.start ≡ p.start) (did : Did 0 p q es) where
  did_started : Did 0 p (pool p.start q.words q.accounts q.turns) es
  did_started = record { turns = did.turns; grew = did.grew; own = did.own; events = did.events }

  calm_started : IsCalm (pool p.start q.words q.accounts q.turns)
  calm_started = as_started IsCalm p q start cq

  -- a node that the events leave is as it was
  pub node_kept : (b k n h : ℕ) → AreMild b es → IsNode p b k n h → KeepsNode p q b k n h
  node_kept b k n h mild x = from_started (λ z. KeepsNode p z b k n h) p q start (node_here p es cp q.words q.accounts q.turns calm_started did_started b k n h mild x)

  -- the content of a node that isn't freed
  pub content_kept : (b k n h : ℕ) → AllByRecursion (Unfreed b) es → IsNode p b k n h → IsNode q b k n h
  content_kept b k n h free x = from_started (λ z. IsNode z b k n h) p q start (node_there p es cp q.words q.accounts q.turns calm_started did_started b k n h free x)

  -- a child of it
  pub child_kept : (b k n h i : ℕ) → i < 2 → AllByRecursion (Unfreed b) es → AllByRecursion (UntouchedBy (Body b i)) es → IsNode p b k n h → word_of q (Body b i) ≡ word_of p (Body b i)
  child_kept b k n h i low free good x = from_started (λ z. word_of z (Body b i) ≡ word_of p (Body b i)) p q start (child_there p es cp q.words q.accounts q.turns calm_started did_started b k n h i low free good x)

  -- the home that no event changes
  pub home_kept : AllByRecursion (UntouchedBy (Home 0)) es → word_of q (Home 0) ≡ word_of p (Home 0)
  home_kept good = from_started (λ z. word_of z (Home 0) ≡ word_of p (Home 0)) p q start (home_there p es cp q.words q.accounts q.turns calm_started did_started good)

  -- a block that is neither made nor freed is live or not as it was
  pub life_same : (b : ℕ) → AllByRecursion (Unlived b) es → is_live q b ≡ is_live p b
  life_same b good = from_started (λ z. is_live z b ≡ is_live p b) p q start (life_here p es cp q.words q.accounts q.turns calm_started did_started b good)

-- ---- trees

pub trees_kept : (p q : Pool) → KeepsNodes p q → KeepsTrees p q
trees_kept p q keep b Empty s = s
trees_kept p q keep b (Node k n l r) s =
    let y = keep b k n _ s.0 in
    (y.node, subst (λ x. TreeStands q x l) (sym y.left) (trees_kept p q keep (word_of p (Body b 0)) l s.1), subst (λ x. TreeStands q x r) (sym y.right) (trees_kept p q keep (word_of p (Body b 1)) r s.2))

-- ---- calls without an event

pub still_kept : (p q : Pool) → IsCalm p → IsCalm q → q.start ≡ p.start → Did 0 p q [] → AreSameRoots p q → (memo_of q 0).dying ≡ (memo_of p 0).dying → IsStill p q
still_kept p q cp cq start did roots dying =
    let nodes : KeepsNodes p q = λ b k n h. node_kept p q [] cp cq start did b k n h (record { freed = tt; left = tt; right = tt }) in
    record {
      nodes = nodes;
      trees = trees_kept p q nodes;
      lives = λ b. life_same p q [] cp cq start did b tt;
      dying = dying;
      roots = roots;
      made = ([], did, omega arith);
    }

-- ---- one call after another

keeps_then_at : (p m q : Pool) (b k n h : ℕ) → KeepsNode p m b k n h → KeepsNode m q b k n h → KeepsNode p q b k n h
keeps_then_at p m q b k n h x y = record { node = y.node; left = y.left ∙ x.left; right = y.right ∙ x.right }

pub keeps_then : (p m q : Pool) (b k n h : ℕ) → KeepsNode p m b k n h → KeepsNodes m q → KeepsNode p q b k n h
keeps_then p m q b k n h x more = keeps_then_at p m q b k n h x (more b k n h x.node)

pub made_then : (i j : ℕ) (p m q : Pool) → IsRun p → IsRun m → m.start ≡ p.start → HasMade i p m → HasMade j m q → HasMade (i + j) p q
made_then i j p m q hp hm start (es, did, few) (fs, more, fewer) = (
  es ++ fs,
  did_then 0 p m q es fs hp hm start did more,
  let both : made_in (es ++ fs) ≡ made_in es + made_in fs = ap length (filter-append is_alloc es fs) ∙ length-append (filter is_alloc es) (filter is_alloc fs) in
      omega (arith, few, fewer, both),
)
