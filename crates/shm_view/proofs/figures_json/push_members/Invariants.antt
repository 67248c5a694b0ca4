use Rattle.std.proofs.Common.{◌≡◌, ◌++◌, drop}
use Rattle.std.specs.List.{flat_map}
use Rattle.shm_view.specs.{FiguresJson.{member_tokens, row_members}, Tables.names_of}
use Rattle.shm_view.proofs.figures_json.push_members.Given as goal

abbrev pub invariant-loop-column : goal.invariant-loop-column
invariant-loop-column l =
    record {
      before : l.writer.before ≡ l.initial.writer.before;
      tokens : l.writer.tokens ++ flat_map member_tokens (row_members (names_of l.names) l.column (drop l.column l.row)) ≡ l.initial.writer.tokens ++ flat_map member_tokens (row_members (names_of l.names) 0 l.row);
    }
