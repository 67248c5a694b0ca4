use Rattle.std.proofs.Common.{◌≡◌, ◌++◌, map, take}
use Rattle.std.specs.List.{flat_map}
use Rattle.shm_view.specs.{FiguresJson.{grid_member, member_tokens}, Tables.grid_of}
use Rattle.shm_view.proofs.figures_json.push_tables.Given as goal

abbrev pub invariant-loop-table : goal.invariant-loop-table
invariant-loop-table l =
    record {
      before : l.writer.before ≡ l.initial.writer.before;
      tokens : l.writer.tokens ≡ l.initial.writer.tokens ++ flat_map member_tokens (map grid_member (map grid_of (take l.table-index l.tables)));
    }
