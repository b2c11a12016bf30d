-- The world that the fields of a world say.
use Rattle.std.specs.Prelude.{List, Option, map, option_map}
use Rattle.hv_text.specs.Names.{text_of}
use Rattle.hv_text.specs.declared.name.Name.{Name}
use Rattle.hv_world.specs.declared.facts.Facts.{Facts}
use Rattle.hv_world.specs.declared.formula.Formula.{Formula}
use Rattle.hv_world.specs.declared.task.Task.{Task}
use Rattle.hv_world.specs.declared.method.Method.{Method}
use Rattle.hv_world.specs.declared.action.Action.{Action}
use Rattle.hv_world.specs.Views.{formula_view}
use Rattle.hv_world.specs.FactViews.{facts_view}
use Rattle.hv_world.specs.MethodViews.{method_view}
use Rattle.hv_world.specs.SectionViews.{task_view, action_view}
use Rattle.hv_world.specs.Types.{Typing}
use Rattle.hv_world.specs.Worlds.{World}

abbrev pub world_from : List Name → List Name → Typing → List Name → List Task → List Method
    → List Action → Facts → Option Formula → Method → World
world_from types objects typing predicates tasks methods actions init goal top =
    record {
      types = map text_of types;
      objects = map text_of objects;
      typing = typing;
      predicates = map text_of predicates;
      tasks = map task_view tasks;
      methods = map method_view methods;
      actions = map action_view actions;
      init = facts_view init;
      goal = option_map formula_view goal;
      top = method_view top;
    }
