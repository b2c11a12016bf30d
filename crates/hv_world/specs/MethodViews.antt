-- What the methods of the code say.
use Rattle.std.specs.Prelude.{map, option_map}
use Rattle.hv_text.specs.Names.{text_of}
use Rattle.hv_world.specs.declared.method.Method as code
use Rattle.hv_world.specs.Views.{type_number, subtask_view, formula_view}
use Rattle.hv_world.specs.NetworkViews.{network_view}
use Rattle.hv_world.specs.Worlds.{Method, method}

abbrev pub method_view : code.Method → Method
method_view m =
    method (option_map text_of m.name) (map type_number m.parameters.items)
    (option_map subtask_view m.task) (formula_view m.precondition) (network_view m.network)
