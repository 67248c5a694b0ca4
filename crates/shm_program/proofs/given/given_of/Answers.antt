use Rattle.std.proofs.Common.{◌∙◌, codes}
use Rattle.clap.specs.Words.{found_of}
use Rattle.clap.proofs.WalkLemmas.{first_value-rows}
use Rattle.shm_program.proofs.given.given_of.Goals as goal

pub returns : goal.returns
returns c =
    let found = found_of c.args.matches.now in
    record {
      image = c.get_str.ensures ∙ first_value-rows found (codes "image");
      print = c.get_str-2.ensures ∙ first_value-rows found (codes "print");
      medics = c.get_str-3.ensures ∙ first_value-rows found (codes "medics");
      start = c.get_str-4.ensures ∙ first_value-rows found (codes "start");
      size = c.get_str-5.ensures ∙ first_value-rows found (codes "size");
      turns = c.get_str-6.ensures ∙ first_value-rows found (codes "turns");
      limit = c.get_str-7.ensures ∙ first_value-rows found (codes "limit");
    }
