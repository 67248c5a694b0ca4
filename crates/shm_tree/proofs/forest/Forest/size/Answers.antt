use Rattle.std.proofs.Common.{◌≡◌, ap, subst, ◌∙◌, List, false, refl, sym, ℕ}
use Rattle.shm_plain.specs.Pools.{Pool}
use Rattle.shm_tree.specs.{declared.registers.Registers.Registers, Forests.{Forested, HasVersions, IsForest, version}}
use Rattle.shm_tree.specs.Trees.{Tree, size}
use Rattle.shm_tree.proofs.Sizes.{register_search, register_sized}
use Rattle.shm_tree.proofs.forest.Forest.size.Goals as goal

-- registers in this pool
abbrev in_pool : Registers → Pool → Registers
in_pool f p = record { pool = p; roots = f.roots; tidy = f.tidy }

forest_in : (f : Registers) (p : Pool) → p ≡ f.pool → IsForest f → IsForest (in_pool f p)
forest_in f p is x = subst (λ (q : Pool). IsForest (in_pool f q)) (sym is) x

versions_in : (f : Registers) (p : Pool) (n at : ℕ) → p ≡ f.pool → ((ts : List Tree) → HasVersions (in_pool f p) ts → n ≡ size (version ts at)) → (ts : List Tree) → HasVersions f ts → n ≡ size (version ts at)
versions_in f p n at is h = subst (λ (q : Pool). (ts : List Tree) → HasVersions (in_pool f q) ts → n ≡ size (version ts at)) is h

pub block_in-requires : goal.block_in-requires
block_in-requires c =
    let alive : c.self.inside.died ≡ false = ap (λ (f : Forested). f.died) c.self.view_is ∙ c.requires.alive in
    let f = forest_in c.self.inside.registers c.pool-pool.result.now c.pool-pool.ensures (c.self.invariant.forest alive) in
    record { one = f.working.one; root = f.low c.args.at c.requires.at }

pub size_of-requires : goal.size_of-requires
size_of-requires c =
    let alive : c.self.inside.died ≡ false = ap (λ (f : Forested). f.died) c.self.view_is ∙ c.requires.alive in
    let g = in_pool c.self.inside.registers c.pool-pool.result.now in
    let f = forest_in c.self.inside.registers c.pool-pool.result.now c.pool-pool.ensures (c.self.invariant.forest alive) in
    record { run = f.working.run; tree = register_search g c.args.at _ _ f c.requires.at refl c.block_in.ensures }

pub returns : goal.returns
returns c =
    let alive : c.self.inside.died ≡ false = ap (λ (f : Forested). f.died) c.self.view_is ∙ c.requires.alive in
    let p = c.pool-pool.result.now in
    let f = forest_in c.self.inside.registers p c.pool-pool.ensures (c.self.invariant.forest alive) in
    subst (λ (x : Registers). (ts : List Tree) → HasVersions x ts → c.size_of.result ≡ size (version ts c.args.at)) (ap (λ (x : Forested). x.registers) c.self.view_is)
    (versions_in c.self.inside.registers p c.size_of.result c.args.at c.pool-pool.ensures (register_sized (in_pool c.self.inside.registers p) c.args.at _ _ f c.requires.at refl c.block_in.ensures c.size_of.result c.size_of.ensures))
