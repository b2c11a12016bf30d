-- What the networks of the code say.
use Rattle.std.specs.Prelude.{map, option_map}
use Rattle.hv_syntax.specs.declared.network.SubtaskText.{SubtaskText}
use Rattle.hv_syntax.specs.declared.network.PairText.{PairText}
use Rattle.hv_syntax.specs.declared.network.ConstraintText.{ConstraintText}
use Rattle.hv_syntax.specs.declared.network.NetworkText.{NetworkText}
use Rattle.hv_syntax.specs.Values.{Subtask, subtask, Pair, pair, Constraint, constraint, Network, network}
use Rattle.hv_syntax.specs.Views.{word_view, term_view, atom_view}

abbrev pub subtask_view : SubtaskText → Subtask
subtask_view s = subtask (option_map word_view s.label) (atom_view s.task)

abbrev pub pair_view : PairText → Pair
pair_view p = pair (word_view p.earlier) (word_view p.later)

abbrev pub constraint_view : ConstraintText → Constraint
constraint_view c = constraint c.is_equal (term_view c.left, term_view c.right)

abbrev pub network_view : NetworkText → Network
network_view n =
    network (map subtask_view n.subtasks.items) n.is_ordered (map pair_view n.pairs.items)
    (map constraint_view n.constraints.items)
