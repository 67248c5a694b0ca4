use Rattle.std.proofs.Common.{refl}
use Rattle.shm_tree.specs.Trees.{Empty}
use Rattle.shm_tree.specs.declared.line.TreeLine.TheVariants as lines
use Rattle.shm_tree.proofs.{CutShort.first_off, Moving.{nothing_spare, nothing_tree, put_done}}
use Rattle.shm_tree.proofs.registers.Registers.clear.Goals as goal

pub replace-requires : goal.replace-requires
replace-requires c = record { forest = c.requires.forest; at = c.requires.at; root = nothing_spare c.args.self.now; tree = (Empty, nothing_tree c.args.self.now.pool) }

pub returns : goal.returns
returns c =
    let r = c.replace.ensures in
    record { off = first_off (lines.Clear c.args.at) c.args.self.now c.replace.new.self c.args.self.now.pool c.args.life.now.left c.args.life.now.left c.replace.result (λ tidy. refl) r.begun; idle = r.idle; moves = r.moves; done = put_done c.args.at 16 c.args.self.now c.args.self.now c.replace.new.self (λ ts. Empty) _ (λ ts v. (v, nothing_tree c.args.self.now.pool)) r.put; costs = r.costs; told = r.told; refused = r.refused; late = λ ts v. r.late }
