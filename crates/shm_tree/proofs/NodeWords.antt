-- The words of a node, by their addresses.
use Rattle.std.proofs.Common.{◌≡◌, ℕ, ◌+◌, ◌<◌, get_or, inl, inr, refl, sym, ap, subst, ◌∙◌, arith}
use Rattle.shm_words.specs.{declared.geometry.Geometry.Geometry, Classes.{IsClass, class_for}, Layout.total_of}
use Rattle.shm_words.specs.Tags.{tag_plain, tag_refs}
use Rattle.shm_graph.specs.{declared.spot.Spot.TheVariants.{Body, Tag}, Spots.{class_at, classes_in}}
use Rattle.shm_graph.proofs.Spots.{Seeing.{classes-see, see_at}, Spotting.{body_spot, in_block}}
use Rattle.shm_graph.proofs.States.Reading.{live_block}
use Rattle.shm_plain.specs.Pools.{IsRun, Pool}
use Rattle.shm_tree.specs.Standing.{IsNode, word_of}

eight_fits : (a b : ℕ) → a ≡ 2 → b ≡ 3 → class_for a b ≡ 8
eight_fits a b ea eb = rw (ea, eb) refl

-- its class is 8
node_class : (p : Pool) (b k n h : ℕ) → IsRun p → IsNode p b k n h → class_at p.start.geometry (classes_in p.start.geometry p.words) b ≡ 8
node_class p b k n h run m =
    let g : Geometry = p.start.geometry in
    let tagged = run.held.at.blocks.tagged b m.live in
    let fits : class_for (tag_refs g.wide (word_of p (Tag b))) (tag_plain g.wide (word_of p (Tag b))) ≡ 8 = eight_fits _ _ m.refs m.plain in
    sym (ap (λ c. class_at g c b) (classes-see g p.words run.held.at.fits)) ∙ sym tagged.fits ∙ fits

-- its reference words and plain words stand behind its header and its tag
pub node_word : (p : Pool) (b i k n h : ℕ) → IsRun p → IsNode p b k n h → i < 5 → (word_of p (Body b i) ≡ get_or p.words (b + 2 + i) 0) × (b + 2 + i < total_of p.start.geometry)
node_word p b i k n h run m lt =
    let g : Geometry = p.start.geometry in
    let class = node_class p b k n h run m in
    let is : IsClass (class_at g (classes_in g p.words) b) = subst IsClass (sym class) (inr (inl refl)) in
    let at = live_block g p.words b m.live in
    let room : 2 + i < class_at g (classes_in g p.words) b = omega (arith, class, lt) in
    let below : b + 2 + i < total_of g = omega (arith, (in_block g (classes_in g p.words) b (2 + i) at is room).1) in
    (see_at g p.words (b + 2 + i) (Body b i) below (body_spot g (classes_in g p.words) b i at is room), below)
