-- What the puzzle of the search says.
use Rattle.std.specs.Prelude.{map, length, option_map}
use Rattle.hv_world.specs.Bindings.{object_number}
use Rattle.hv_world.specs.Ranges.{range_view}
use Rattle.hv_world.specs.Views.{term_view, subtask_view, constraint_view, atom_view}
use Rattle.hv_state.specs.Ever.{ever_rows}
use Rattle.hv_match.specs.inside.Puzzles.{Puzzle, options, is_good, levels}
use Rattle.hv_match.specs.inside.Search.{Search}
use Rattle.hv_match.specs.inside.Tables.{work_view, row_for}
use Rattle.hv_match.specs.declared.puzzle.Puzzle as code

abbrev pub puzzle_view : code.Puzzle → Puzzle
puzzle_view p = record {
  ranges = map range_view p.table.now.ranges.items;
  task = map term_view p.table.now.task.now;
  objects = map object_number p.objects.now;
  subtasks = map subtask_view p.table.now.subtasks.now;
  constraints = map constraint_view p.table.now.constraints.now;
  children = map (option_map work_view) p.children.items;
  rows = row_for p.places;
  atoms = map (λ a. atom_view a.now) p.table.now.needed.items;
  ever = option_map ever_rows p.ever;
}

-- the search for its matches
abbrev pub search_of : code.Puzzle → Search
search_of p = record {
  options = options (puzzle_view p);
  good = is_good (puzzle_view p);
  levels = levels (puzzle_view p);
  distinct = length p.table.now.subtasks.now;
  width = length p.children.items;
}
