use Rattle.std.proofs.Common.{refl}
use Rattle.shm_tree.specs.Forests.{version}
use Rattle.shm_tree.specs.declared.line.TreeLine.TheVariants as lines
use Rattle.shm_tree.proofs.{CutShort.{read_ended, read_off}, Costing.got_costs}
use Rattle.shm_tree.proofs.Moving.{got_same, got_versions, read_died, read_moves}
use Rattle.shm_tree.proofs.registers.Registers.get.Goals as goal

pub read-requires : goal.read-requires
read-requires c =
    let x = c.requires.forest in
    let v = x.versions in
    record { working = x.working; latch = x.latch; root = x.low c.args.at c.requires.at; tree = (version v.0 c.args.at, (v.1.each c.args.at c.requires.at).stands) }

pub returns : goal.returns
returns c =
    let f = c.args.self.now in
    let q = c.read.new.pool in
    let r = c.read.ensures in
    let died = read_ended _ c.read.new.life.left c.read.result r.died in
    record {
      off = read_off (lines.Get c.args.at c.args.key) f (record { pool = q; roots = f.roots; tidy = f.tidy }) c.args.life.now.left c.read.new.life.left c.read.result r.died;
      moves = read_moves f q _ c.requires.forest r.went r.working r.latch r.still died;
      died = read_died c.read.new.life.left _ died;
      is = got_versions f q f.tidy c.args.at c.args.key _ c.requires.at r.is r.still;
      same = got_same f q f.tidy _ r.still;
      costs = got_costs _ _ f q c.args.at _ c.requires.at r.costs;
      told = refl;
      late = λ ts w. r.late (version ts c.args.at) (w.each c.args.at c.requires.at).stands;
    }
