use Rattle.std.proofs.Common.{◌≡◌, ◌++◌, map, take}
use Rattle.std.specs.List.{flat_map}
use Rattle.json.specs.Tree.{json_tokens}
use Rattle.shm_view.specs.{FiguresJson.row_json, Tables.{cells_of, names_of}}
use Rattle.shm_view.proofs.figures_json.push_items.Given as goal

abbrev pub invariant-loop-row : goal.invariant-loop-row
invariant-loop-row l =
    record {
      before : l.writer.before ≡ l.initial.writer.before;
      tokens : l.writer.tokens ≡ l.initial.writer.tokens ++ flat_map json_tokens (map (row_json (names_of l.names)) (cells_of (take l.row-index l.rows)));
    }
